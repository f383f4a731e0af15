-- Step counts (document 02, request 2): every record carries its own, a group's repeats included.
use Rattle.std.specs.Prelude.{ℕ, ◌+◌, ◌*◌, min, ℤ, nat_abs}
use Rattle.notation.specs.Basics.{pick}
use Rattle.notation.specs.Tree.{Node, leaf, block, Body, group, binary_group, NodeList, nil, cons}
use Rattle.notation.specs.Unroll.{is_niss}
use Rattle.notation.specs.declared.common.BinaryGroupKind.{BinaryGroupKind}
use Rattle.notation.specs.declared.common.BinaryGroupKind.TheVariants.{Commutator, Conjugate}

-- a count is capped: one above 4,294,967,295 is stored as 4,294,967,296
abbrev pub CAP : ℕ
CAP = 4294967296

abbrev pub cap : ℕ → ℕ
cap n = min n CAP

-- how many times a group plays its contents: as its multiplier says, and a NISS group never, since reaching it is refused anyway
abbrev pub times : {L : Type 0} → Body L → ℤ → ℕ
times b m = pick (is_niss b) 0 (nat_abs m)

-- A B A' B' and A B A'
abbrev pub count_binary : BinaryGroupKind → ℕ → ℕ → ℕ
count_binary Commutator a b = 2 * (a + b)
count_binary Conjugate a b = 2 * a + b

unfoldable mutual
  pub count_node : {L : Type 0} → Node L → ℕ
  count_node (leaf x) = 1
  count_node (block b m) = times b m * count_body b

  pub count_body : {L : Type 0} → Body L → ℕ
  count_body (group k a) = count a
  count_body (binary_group k a b) = count_binary k (count a) (count b)

  pub count : {L : Type 0} → NodeList L → ℕ
  count nil = 0
  count (cons n l) = count_node n + count l

-- what the record of a node has in its last field
abbrev pub stored : {L : Type 0} → Node L → ℕ
stored n = cap (count_node n)
