-- What the readers of lists and nodes answer, and what they do to the lent buffer. Slots count records: slot i stands at byte RECORD * i.
use Rattle.std.specs.Prelude.{ℕ, ◌+◌, ◌*◌, ◌-◌, ◌<◌, ◌≤◌, ◌≡◌, List, ◌++◌, ℤ, length, take, drop, true, false, eqb, leb, Option, Some, None}
use Rattle.parsed.specs.declared.Parsed.{Parsed}
use Rattle.parse.specs.declared.node.Listed.{Listed}
use Rattle.notation.specs.Tree.{Leaf, Node, Tree}
use Rattle.notation.specs.Packed.{RECORD, node_size, size}
use Rattle.notation.specs.Grammar.{Reading, Reader, rejected, read, done, ◌>>=◌, ◌or◌, multiplier, group_node, binary_group_node, node_list}
use Rattle.notation.specs.Entries.{MAX-TEXT}
use Rattle.notation.specs.declared.features.Features.{Features}
use Rattle.notation.specs.Basics.{pick}
use Rattle.notation.specs.Utf8.{byte_at}
use Rattle.notation.specs.Numbers.{from_bits}
use Rattle.notation.specs.declared.common.BinaryGroupKind.{BinaryGroupKind}
use Rattle.tally.specs.Tallies.{tally_node, tally_list}

-- Where a reader may start: no more records were read than bytes, and a bracket stands for every two tallies.
pub record Within (text : List ℕ) (at slot tally : ℕ) : Type 0 where
  pub inside : at ≤ length text
  pub short : length text ≤ MAX-TEXT
  pub slots : slot ≤ at
  pub tallies : tally ≤ 2 * at

-- The buffer: its length and what stands before p stay; xs stands at p where it fits.
pub record Kept (p : ℕ) (old new : List ℕ) : Type 0 where
  pub long : length new ≡ length old
  pub before : take p new ≡ take p old

-- xs over what stands at p, where it fits
abbrev pub put : ℕ → List ℕ → List ℕ → List ℕ
put p xs old = pick (leb (p + length xs) (length old)) (take p old ++ (xs ++ drop (p + length xs) old)) old

pub record WroteRecords (p : ℕ) (xs old new : List ℕ) : Type 0 where
  pub kept : Kept p old new
  pub holds : p + length xs ≤ length old → take (p + length xs) new ≡ take p old ++ xs

-- A list was read. The rule may be given any fuel that suffices.
pub record ListRead (f : Features) (text : List ℕ) (at slot tally : ℕ) (old new : List ℕ) (next end : ℕ) : Type 0 where
  pub tree : Tree
  pub reads : (k : ℕ) → length text - at < k → node_list f k at (drop at text) ≡ read tree next (drop next text)
  pub slots : end ≡ slot + size tree
  pub advances : at + size tree ≤ next
  pub inside : next ≤ length text
  pub wrote : WroteRecords (RECORD * slot) (tally_list tally tree) old new

-- A node was read by a rule that is given some fuel, or none stands there.
pub record NodeRead (rule : ℕ → Reader (Node Leaf)) (text : List ℕ) (at slot tally : ℕ) (old new : List ℕ) (next end : ℕ) : Type 0 where
  pub node : Node Leaf
  pub reads : (k : ℕ) → length text - at ≤ k → rule k at (drop at text) ≡ read node next (drop next text)
  pub slots : end ≡ slot + node_size node
  pub advances : at + node_size node ≤ next
  pub inside : next ≤ length text
  pub wrote : WroteRecords (RECORD * slot) (tally_node tally node) old new

pub record NoNode (rule : ℕ → Reader (Node Leaf)) (text : List ℕ) (at slot : ℕ) (old new : List ℕ) : Type 0 where
  pub rejects : (k : ℕ) → length text - at ≤ k → rule k at (drop at text) ≡ rejected
  pub kept : Kept (RECORD * slot) old new

abbrev pub NodeAnswered : (ℕ → Reader (Node Leaf)) → List ℕ → (at slot tally : ℕ) → List ℕ → List ℕ → Option Listed → Type 0
NodeAnswered rule text at slot tally old new (Some l) = NodeRead rule text at slot tally old new l.next l.slot
NodeAnswered rule text at slot tally old new None = NoNode rule text at slot old new

-- a group or a bracket
abbrev pub nested : Reader Tree → Reader (ℤ → Node Leaf)
nested list = group_node list or binary_group_node list

-- a node that can be repeated, with its multiplier
abbrev pub repeated : Features → Reader (ℤ → Node Leaf) → Reader (Node Leaf)
repeated f p = do
  inner ← p
  m ← multiplier f
  done (inner m)

-- a closing bracket and the multiplier after it
pub record CloseRead (f : Features) (text : List ℕ) (at bracket bits next : ℕ) : Type 0 where
  pub stands : eqb (byte_at text at) bracket ≡ true
  pub reads : multiplier f (at + 1) (drop (at + 1) text) ≡ read (from_bits 32 bits) next (drop next text)
  pub advances : at < next
  pub inside : next ≤ length text

abbrev pub Closed : Features → List ℕ → ℕ → ℕ → Option (Parsed ℕ) → Type 0
Closed f text at bracket (Some m) = CloseRead f text at bracket m.value m.next
Closed f text at bracket None = eqb (byte_at text at) bracket ≡ false

abbrev pub binary_kind : List ℕ → ℕ → Option BinaryGroupKind → Reading BinaryGroupKind
binary_kind text at (Some k) = read k (at + 1) (drop (at + 1) text)
binary_kind text at None = rejected
