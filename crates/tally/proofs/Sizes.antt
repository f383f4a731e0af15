-- A tree with tallies in place of its counts takes as many bytes as a packed one. Assumes nothing.
use Prim.Native.Nat.{ℕ, ◌+◌, ◌*◌, ◌%◌}
use mathlib.Core.Path.{◌≡◌, refl, ◌∙◌}
use native.Mathlib.Omega.{arith}
use lib.ListN.{length, set, length-append, length-set}
use Rattle.record.specs.Meaning.{COUNT}
use Rattle.notation.specs.Tree.{Leaf, Node, leaf, block, Body, group, binary_group, nil, cons, Tree}
use Rattle.notation.specs.Packed.{RECORD, widths, Head, leaf_head, head_fields, body_head, node_size, body_size, size}
use Rattle.record.proofs.Cut.{length-lay_out}
use Rattle.record.proofs.RoundTrip.{length-head_fields}
use Rattle.tally.specs.Tallies.{tally_record, tally_node, tally_body, tally_list}

pub length-tally_record : (h : ℕ) (x : Head) → length (tally_record h x) ≡ RECORD
length-tally_record h x = length-lay_out widths (set (head_fields x) COUNT (h % 256)) (length-set (head_fields x) COUNT (h % 256) ∙ length-head_fields x)

mutual
  unfolding node_size body_size size tally_node tally_body tally_list

  pub length-tally_node : (h : ℕ) (n : Node Leaf) → length (tally_node h n) ≡ RECORD * node_size n
  length-tally_node h (leaf x) = length-tally_record h (leaf_head x)
  length-tally_node h (block b m) =
      length-append (tally_record h (body_head b m)) (tally_body h b)
      ∙ omega (arith, length-tally_record h (body_head b m), length-tally_body h b)

  length-tally_body : (h : ℕ) (b : Body Leaf) → length (tally_body h b) ≡ RECORD * body_size b
  length-tally_body h (group k a) = length-tally_list (h + 2) a
  length-tally_body h (binary_group k a b) =
      length-append (tally_list (h + 2) a) (tally_list (h + 1) b) ∙ omega (arith, length-tally_list (h + 2) a, length-tally_list (h + 1) b)

  pub length-tally_list : (h : ℕ) (t : Tree) → length (tally_list h t) ≡ RECORD * size t
  length-tally_list h nil = refl
  length-tally_list h (cons n l) =
      length-append (tally_node h n) (tally_list h l) ∙ omega (arith, length-tally_node h n, length-tally_list h l)
