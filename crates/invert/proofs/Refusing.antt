-- When a pair has no inverse. Assumes nothing.
use Prim.Native.Nat.{ℕ}
use mathlib.Core.Path.{◌≡◌, refl, ◌∙◌, ap}
use mathlib.Core.Bool.{Bool, true, false}
use mathlib.Core.List.{List}
use mathlib.Core.Option.{none, some}
use Rattle.notation.specs.Basics.{pick}
use Rattle.notation.specs.Refusals.{OVERFLOW}
use Rattle.notation.specs.Packed.{Head, leaf_head, group_head, binary_head, head_at}
use Rattle.record.specs.Undone.{overflows_at}
use Rattle.record.proofs.Overflows.{head_overflows, overflow-test}
use Rattle.std.specs.Bool.{then_some}
use Rattle.notation.specs.Lending.{number_of}
use Rattle.notation.specs.declared.refusals.Refusal.TheVariants.{Overflow}
use Rattle.invert.specs.Nodes.{head_refusal}

-- of any record, by the test that the code makes
pub by-test : (bs : List ℕ) (o : Bool) → o ≡ overflows_at bs → number_of (then_some o Overflow) ≡ head_refusal (head_at bs)
by-test bs o e = answer o ∙ ap (λ (b : Bool). pick b (some OVERFLOW) none) (e ∙ overflow-test bs) ∙ go (head_at bs)
  where
    answer : (b : Bool) → number_of (then_some b Overflow) ≡ pick b (some OVERFLOW) none
    answer true = refl
    answer false = refl

    go : (h : Head) → pick (head_overflows h) (some OVERFLOW) none ≡ head_refusal h
    go (leaf_head x) = refl
    go (group_head k n m c) = refl
    go (binary_head k n n' m c) = refl
