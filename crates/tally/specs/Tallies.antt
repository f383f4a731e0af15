-- A tree before its step counts are filled in, and what the pass from the end does at one record.
use Rattle.std.specs.Prelude.{ℕ, ◌+◌, ◌*◌, ◌%◌, ◌<◌, ◌≤◌, ◌≡◌, List, [], ◌++◌, ltb, length, get_or, set}
use Rattle.notation.specs.Basics.{pick}
use Rattle.notation.specs.Numbers.{from_bits}
use Rattle.notation.specs.Tree.{Leaf, Node, leaf, block, Body, group, binary_group, nil, cons, Tree}
use Rattle.notation.specs.Packed.{RECORD, widths, lay_out, Head, leaf_head, head_fields, body_head}
use Rattle.notation.specs.Counts.{CAP, cap}
use Rattle.notation.specs.WellFormed.{MAX-NESTING, depth}
use Rattle.laws.specs.Packed.{FitsTree}
use Rattle.record.specs.Meaning.{field, kind_at, NUMBER, COUNT}
use Rattle.counts.specs.Groups.{group_count}

-- A record with the number of its list's tally in place of its count: one byte, which suffices for 64 levels.
abbrev pub tally_record : ℕ → Head → List ℕ
tally_record h x = lay_out widths (set (head_fields x) COUNT (h % 256))

-- The lists that are open at one record have different tallies: of a group in a list with tally h the first list has h + 2, the
-- second h + 1.
unfoldable mutual
  pub tally_node : ℕ → Node Leaf → List ℕ
  tally_node h (leaf x) = tally_record h (leaf_head x)
  tally_node h (block b m) = tally_record h (body_head b m) ++ tally_body h b

  pub tally_body : ℕ → Body Leaf → List ℕ
  tally_body h (group k a) = tally_list (h + 2) a
  tally_body h (binary_group k a b) = tally_list (h + 2) a ++ tally_list (h + 1) b

  pub tally_list : ℕ → Tree → List ℕ
  tally_list h nil = []
  tally_list h (cons n l) = tally_node h n ++ tally_list h l

-- bytes that are such a tree, whose own list has tally 0
pub record Tallied (t : Tree) (bs : List ℕ) : Type 0 where
  pub bytes : bs ≡ tally_list 0 t
  pub fits : FitsTree t
  pub deep : depth t ≤ MAX-NESTING

-- one for the tree's own list and two for each level
abbrev pub TALLIES : ℕ
TALLIES = 1 + 2 * MAX-NESTING

-- At one record, the sums being those of what lies behind it: the number of its list's tally, which one byte holds,
abbrev pub tally_at : List ℕ → ℕ
tally_at r = field COUNT r % 256

-- its count, of a group by the sums of its lists,
abbrev pub own_count : List ℕ → List ℕ → ℕ
own_count r sums =
    pick (ltb (kind_at r) 6)
    (group_count (kind_at r) (from_bits 32 (field NUMBER r)) (get_or sums (tally_at r + 2) 0) (get_or sums (tally_at r + 1) 0))
    1

-- the sums, of which those of its lists start anew,
abbrev pub freed : List ℕ → List ℕ → List ℕ
freed r sums = pick (ltb (kind_at r) 6) (set (set sums (tally_at r + 2) 0) (tally_at r + 1) 0) sums

-- and the sums with its count
abbrev pub added : List ℕ → List ℕ → List ℕ
added r sums = set (freed r sums) (tally_at r) (cap (get_or (freed r sums) (tally_at r) 0 + own_count r sums))

-- what this asks of the record and the sums
abbrev pub Capped : List ℕ → Type 0
Capped sums = (i : ℕ) → get_or sums i 0 ≤ CAP

pub record Open (r : List ℕ) : Type 0 where
  pub long : RECORD ≤ length r
  pub list : tally_at r < TALLIES
  pub lists : kind_at r < 6 → tally_at r + 2 < TALLIES
