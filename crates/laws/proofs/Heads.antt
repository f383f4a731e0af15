-- Records in reading order: a packed tree is the records of its heads, the record at each number is the head at that place, and what holds of
-- every node holds of every head. Assumes nothing.
use Prim.Native.Nat.{ℕ, zero, suc, ◌+◌, ◌*◌, ◌/◌, ◌≤◌, ◌<◌}
use mathlib.Core.Path.{◌≡◌, sym, ap, ◌∙◌, subst}
use mathlib.Core.Bool.{true}
use mathlib.Core.List.{List, [], ◌∷◌, ◌++◌, append_assoc, append-nil}
use mathlib.Core.Option.{some}
use native.Mathlib.Omega.{arith}
use lib.IntN.{ℤ}
use lib.ListN.{length, drop, get_elem?, length-append}
use lib.Seq.{drop_at, drop-drop}
use Rattle.notation.specs.Tree.{Leaf, Node, leaf, block, Body, group, binary_group, nil, cons, Tree}
use Rattle.notation.specs.Packed.{
  RECORD,
  Head,
  leaf_head,
  group_head,
  binary_head,
  head_record,
  head_at,
  node_size,
  body_size,
  size,
  body_head,
  pack_node,
  pack_body,
  pack,
  unpack,
}
use Rattle.notation.specs.WellFormed.{multiplier_ok, leaf_ok, node_ok, body_ok, tree_ok}
use Rattle.record.specs.Range.{FitsHead}
use Rattle.record.proofs.RoundTrip.{length-head_record, head_at-head_record}
use Rattle.laws.proofs.Bools.{and_left, and_right}
use Rattle.laws.specs.All.{All, empty, one}
use Rattle.laws.specs.Heads.{node_heads, body_heads, heads}
use Rattle.laws.specs.Packed.{FitsNode, FitsBody, FitsTree, Packed}
use Rattle.laws.proofs.Packing.{length-pack}

-- bytes that are these records
pub data Run : List Head → List ℕ → Type 0 where
  ended : Run [] []
  record-then : {h : Head} {hs : List Head} {bs : List ℕ} → FitsHead h → Run hs bs → Run (h ∷ hs) (head_record h ++ bs)

mutual
  unfolding node_heads body_heads heads pack_node pack_body pack FitsNode FitsBody FitsTree

  node-run : (n : Node Leaf) {hs : List Head} {bs : List ℕ} → FitsNode n → Run hs bs → Run (node_heads n hs) (pack_node n ++ bs)
  node-run (leaf x) f r = record-then f r
  node-run (block b m) {hs} {bs} f r =
      subst (Run (body_head b m ∷ body_heads b hs)) (sym (append_assoc (head_record (body_head b m)) (pack_body b) bs)) (record-then f.0 (body_run b f.1 r))

  body_run : (b : Body Leaf) {hs : List Head} {bs : List ℕ} → FitsBody b → Run hs bs → Run (body_heads b hs) (pack_body b ++ bs)
  body_run (group k a) f r = list-run a f r
  body_run (binary_group k a b) {hs} {bs} f r =
      subst (Run (heads a (heads b hs))) (sym (append_assoc (pack a) (pack b) bs)) (list-run a f.0 (list-run b f.1 r))

  pub list-run : (l : Tree) {hs : List Head} {bs : List ℕ} → FitsTree l → Run hs bs → Run (heads l hs) (pack l ++ bs)
  list-run nil f r = r
  list-run (cons n l) {hs} {bs} f r =
      subst (Run (node_heads n (heads l hs))) (sym (append_assoc (pack_node n) (pack l) bs)) (node-run n f.0 (list-run l f.1 r))

pub tree-run : {tree : List ℕ} → Packed tree → Run (heads (unpack tree) []) tree
tree-run {tree} p = subst (Run (heads (unpack tree) [])) (append-nil (pack (unpack tree)) ∙ p.whole) (list-run (unpack tree) p.fits ended)

pub run_room : {hs : List Head} {bs : List ℕ} → Run hs bs → 0 < length bs → RECORD ≤ length bs
run_room ended h = absurd (omega arith)
run_room (record-then {h} {hs} {bs} f r) l = omega (arith, length-append (head_record h) bs, length-head_record h)

-- As many heads as records.
mutual
  unfolding node_heads body_heads heads node_size body_size size

  node-long : (n : Node Leaf) (hs : List Head) → length (node_heads n hs) ≡ node_size n + length hs
  node-long (leaf x) hs = omega arith
  node-long (block b m) hs = omega (arith, body-long b hs)

  body-long : (b : Body Leaf) (hs : List Head) → length (body_heads b hs) ≡ body_size b + length hs
  body-long (group k a) hs = list-long a hs
  body-long (binary_group k a b) hs = omega (arith, list-long a (heads b hs), list-long b hs)

  list-long : (l : Tree) (hs : List Head) → length (heads l hs) ≡ size l + length hs
  list-long nil hs = omega arith
  list-long (cons n l) hs = omega (arith, node-long n (heads l hs), list-long l hs)

pub heads-long : (t : Tree) → length (heads t []) ≡ size t
heads-long t = omega (arith, list-long t [])

-- the record at a number is the head at that place
run_at : {hs : List Head} {bs : List ℕ} → Run hs bs → (k : ℕ) → k < length hs → get_elem? hs k ≡ some (head_at (drop (RECORD * k) bs))
run_at ended k l = absurd (omega arith)
run_at (record-then {h} {hs} {bs} f r) zero l = ap some (sym (head_at-head_record h bs f))
run_at (record-then {h} {hs} {bs} f r) (suc k) l =
    let z : RECORD * suc k ≡ RECORD + RECORD * k = omega arith in
    let past : drop (RECORD * suc k) (head_record h ++ bs) ≡ drop (RECORD * k) bs =
    ap (λ (i : ℕ). drop i (head_record h ++ bs)) z
    ∙ sym (drop-drop (RECORD * k) RECORD (head_record h ++ bs))
    ∙ ap (drop (RECORD * k)) (drop_at (head_record h) bs RECORD (length-head_record h)) in
    run_at r k (omega arith) ∙ ap (λ (s : List ℕ). some (head_at s)) (sym past)

pub head_at_lem : {tree : List ℕ} → Packed tree → (k : ℕ) → k < length tree / RECORD → get_elem? (heads (unpack tree) []) k ≡ some (head_at (drop (RECORD * k) tree))
head_at_lem {tree} p k h =
    let long : length tree ≡ RECORD * size (unpack tree) = sym (ap length p.whole) ∙ length-pack (unpack tree) in
    run_at (tree-run p) k (omega (arith, heads-long (unpack tree)))

-- what a well-formed tree's heads are: leaves that are well formed, and groups, of which nothing is asked here
abbrev pub HeadOk : List ℕ → Head → Type 0
HeadOk text (leaf_head x) = leaf_ok text x ≡ true
HeadOk text (group_head k n m c) = Unit {0}
HeadOk text (binary_head k n n' m c) = Unit {0}

group-ok : (text : List ℕ) (b : Body Leaf) (m : ℤ) → HeadOk text (body_head b m)
group-ok text (group k a) m = tt
group-ok text (binary_group k a b) m = tt

mutual
  unfolding node_heads body_heads heads node_ok body_ok tree_ok

  node_ok_lem : (n : Node Leaf) (text : List ℕ) {hs : List Head} → node_ok text n ≡ true → All (HeadOk text) hs → All (HeadOk text) (node_heads n hs)
  node_ok_lem (leaf x) text o p = one o p
  node_ok_lem (block b m) text o p = one (group-ok text b m) (body_ok_lem b text (and_right (multiplier_ok m) _ o) p)

  body_ok_lem : (b : Body Leaf) (text : List ℕ) {hs : List Head} → body_ok text b ≡ true → All (HeadOk text) hs → All (HeadOk text) (body_heads b hs)
  body_ok_lem (group k a) text o p = list-ok a text o p
  body_ok_lem (binary_group k a b) text o p = list-ok a text (and_left _ _ o) (list-ok b text (and_right (tree_ok text a) _ o) p)

  list-ok : (l : Tree) (text : List ℕ) {hs : List Head} → tree_ok text l ≡ true → All (HeadOk text) hs → All (HeadOk text) (heads l hs)
  list-ok nil text o p = p
  list-ok (cons n l) text o p = node_ok_lem n text (and_left _ _ o) (list-ok l text (and_right (node_ok text n) _ o) p)

pub heads-ok : (text : List ℕ) (t : Tree) → tree_ok text t ≡ true → All (HeadOk text) (heads t [])
heads-ok text t o = list-ok t text o empty
