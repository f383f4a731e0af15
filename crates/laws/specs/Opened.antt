-- The leaves that are played, and a list in which the record of a group is replaced by its lists. proofs/Opened says that a property
-- that undoing keeps holds of every step of a list exactly where it holds of every played leaf, and of every step of the opened list.
use Rattle.std.specs.Prelude.{List, [], ◌∷◌, ◌++◌, eqb}
use Rattle.notation.specs.Basics.{pick}
use Rattle.notation.specs.Tree.{Node, leaf, block, Body, group, binary_group, NodeList, nil, cons, append}
use Rattle.notation.specs.Counts.{count_node}

-- the leaves in no group that counts 0, in the order of reading
unfoldable mutual
  pub played_node : {L : Type 0} → Node L → List L
  played_node (leaf x) = x ∷ []
  played_node (block b m) = pick (eqb (count_node (block b m)) 0) [] (played_body b)

  pub played_body : {L : Type 0} → Body L → List L
  played_body (group k a) = played a
  played_body (binary_group k a b) = played a ++ played b

  pub played : {L : Type 0} → NodeList L → List L
  played nil = []
  played (cons n l) = played_node n ++ played l

-- the lists of a group, then the nodes that stand behind the group
abbrev pub opened : {L : Type 0} → Body L → NodeList L → NodeList L
opened (group k a) l = append a l
opened (binary_group k a b) l = append a (append b l)
