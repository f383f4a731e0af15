-- Steps as the records that are written.
use Rattle.std.specs.Prelude.{ℕ, ◌-◌, ◌*◌, ◌≤◌, ◌≡◌, Bool, false, List, ◌++◌, ℤ, nat_abs, length, take, drop}
use Rattle.notation.specs.Basics.{pick}
use Rattle.notation.specs.Tree.{Leaf, rotation, move, pause, pair, slash, megaminx, Node, leaf, block, Body, group, nil, cons, Tree}
use Rattle.notation.specs.Packed.{RECORD, head_record, head_at, unpack}
use Rattle.notation.specs.Entries.{records}
use Rattle.notation.specs.Invert.{undo}
use Rattle.record.specs.Meaning.{kind_at}
use Rattle.record.specs.Range.{FitsFamily, FitsConstraints, FitsLayers, FitsLeaf}
use Rattle.record.specs.Undone.{undone_head}
use Rattle.laws.specs.All.{All}
use Rattle.laws.specs.Unrolled.{backwards, flat_binary, flat}
use Rattle.notation.specs.Counts.{count_binary}
use Rattle.notation.specs.declared.common.GroupKind.TheVariants.{Simple}
use Rattle.nodes.specs.Nodes.{IsNode}
use Rattle.expand.specs.Meaning.{binary_kind}

-- at most 2147483648 either way: negating the bits stays right, also where a number of 32 bits ends
pub record Small (z : ℤ) : Type 0 where
  pub most : nat_abs z ≤ 2147483648

-- a step whose record can be undone; so is its undone step
abbrev pub Undoable : Leaf → Type 0
Undoable (rotation f c m) = FitsFamily f × FitsConstraints c × Small m
Undoable (move t l f c m) = FitsLayers l × FitsFamily f × FitsConstraints c × Small m
Undoable pause = Unit {0}
Undoable (pair u d) = Small u × Small d
Undoable slash = Unit {0}
Undoable (megaminx k) = Unit {0}

-- the steps whose records bytes are, with the numbers that the records have: what the bytes unroll into, since a list of steps
-- unrolls into itself
abbrev pub as_steps : List ℕ → List Leaf
as_steps bs = flat undo false (unpack bs)

-- bytes that are the records of steps
pub record AreSteps (bs : List ℕ) : Type 0 where
  pub bytes : records (as_steps bs) ≡ bs
  pub fits : All FitsLeaf (as_steps bs)

-- the steps l written to the front of a buffer, in r bytes; the rest stays
pub record WroteSteps (before after : List ℕ) (l : List Leaf) (r : ℕ) : Type 0 where
  pub size : r ≡ RECORD * length l
  pub bytes : after ≡ records l ++ drop r before

-- the bytes of one group
pub record IsGroup (bs : List ℕ) : Type 0 where
  pub node : Node Leaf
  pub is_node : IsNode bs node
  pub low : kind_at bs ≤ 5

-- what a group plays as often as its multiplier says, of a NISS group its list; a leaf, which is no group, has nothing to play
abbrev pub body_of : Node Leaf → Body Leaf
body_of (leaf x) = group Simple nil
body_of (block b m) = b

-- the same of the first node of a list
abbrev pub first_body : Tree → Body Leaf
first_body nil = group Simple nil
first_body (cons n l) = body_of n

-- a list of steps in either direction
abbrev pub either : List Leaf → Bool → List Leaf
either l inverted = pick inverted (backwards l) l

-- a commutator or a conjugate of two lists
abbrev pub completed : Bool → List Leaf → List Leaf → List Leaf
completed commutator l m = flat_binary (binary_kind commutator) false (either l) (either m)

-- The lists of a commutator or a conjugate in the first bytes of a buffer that has room for the whole.
pub record BothLists (out : List ℕ) (commutator : Bool) (a b : ℕ) : Type 0 where
  pub first : AreSteps (take a out)
  pub second : AreSteps (take b (drop a out))
  pub room : count_binary (binary_kind commutator) a b ≤ length out

-- A buffer whose first bytes are the records of steps.
pub record Front (out : List ℕ) (size : ℕ) : Type 0 where
  pub within : size ≤ length out
  pub contents : AreSteps (take size out)

-- the last of some records, and a record undone
abbrev pub last_of : List ℕ → List ℕ
last_of bs = drop (length bs - RECORD) bs

abbrev pub undone_record : List ℕ → List ℕ
undone_record bs = head_record (undone_head (head_at bs))
