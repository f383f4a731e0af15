-- Every record of an accepted tree is one that a well-formed node has. Assumes nothing.
use Prim.Native.Nat.{ℕ, ◌*◌, ◌/◌, ◌<◌}
use mathlib.Core.Path.{◌≡◌, ap, subst}
use mathlib.Core.Bool.{Bool, true}
use mathlib.Core.List.{List}
use lib.ListN.{length, drop}
use Rattle.notation.specs.Refusals.{result}
use Rattle.notation.specs.Tree.{Span, Layers, rotation, move, pause, pair, slash, megaminx}
use Rattle.notation.specs.Packed.{RECORD, Head, leaf_head, group_head, binary_head, head_at, unpack}
use Rattle.notation.specs.WellFormed.{leaf_ok, layers_ok}
use Rattle.notation.specs.Entries.{prefix_of}
use Rattle.laws.proofs.Bools.{no-refusal, and_left}
use Rattle.laws.proofs.Outcomes.{same-result}
use Rattle.laws.proofs.All.{all-at}
use Rattle.laws.proofs.Heads.{head_at_lem, HeadOk, heads-ok}
use Rattle.checked.specs.Checked.{Accepted}

-- what stands behind the tilde of a well-formed move
pub prefix-ok : (text : List ℕ) (h : Head) (t : Bool) (l : Layers Span) → HeadOk text h → prefix_of h ≡ result (t, l) → layers_ok text l ≡ true
unfolding leaf_ok
prefix-ok text (leaf_head (move t' l' f c m)) t l ok e =
    let same : l' ≡ l = ap (λ (x : Bool × Layers Span). x.1) (same-result e) in
    subst (λ (k : Layers Span). layers_ok text k ≡ true) same (and_left (layers_ok text l') _ (and_left _ _ (and_left _ _ ok)))
prefix-ok text (leaf_head (rotation f c m)) t l ok e = no-refusal e
prefix-ok text (leaf_head pause) t l ok e = no-refusal e
prefix-ok text (leaf_head (pair u d)) t l ok e = no-refusal e
prefix-ok text (leaf_head slash) t l ok e = no-refusal e
prefix-ok text (leaf_head (megaminx k)) t l ok e = no-refusal e
prefix-ok text (group_head k n m c) t l ok e = no-refusal e
prefix-ok text (binary_head k n n' m c) t l ok e = no-refusal e

-- the record at a number of an accepted tree
pub record-ok : (text tree : List ℕ) → Accepted text tree → (k : ℕ) → k < length tree / RECORD → HeadOk text (head_at (drop (RECORD * k) tree))
record-ok text tree s k h = all-at k (heads-ok text (unpack tree) s.ok) (head_at_lem s.packed k h)
