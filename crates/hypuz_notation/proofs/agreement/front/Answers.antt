-- `agreement::front` meets its contract: a number past the end takes the whole buffer. Assumes nothing.
use Prim.Native.Nat.{ℕ, ◌-◌}
use mathlib.Core.Path.{◌≡◌, ap, sym}
use native.Mathlib.Omega.{arith}
use lib.ListN.{take}
use lib.Seq.{take_all}
use Rattle.notation.specs.Entries.{outcome, value}
use Rattle.std.specs.Prelude.{Result}
use Rattle.notation.specs.declared.refusals.Refusal.{Refusal}
use Rattle.hypuz_notation.proofs.agreement.front.Goals as goal

abbrev number : Result ℕ Refusal → ℕ
number a = value (outcome a)

pub returns-then-buffer-size : goal.returns-then-buffer-size
returns-then-buffer-size c =
    let a = c.args in
    sym (take_all (number a.answer) a.buffer.now (omega (arith, ap number c.in-Ok.is, c.if-buffer-size.true)))

pub returns : goal.returns
returns c =
    let a = c.args in
    let n : c.in-Ok.n - 0 ≡ number a.answer = omega (arith, ap number c.in-Ok.is) in
    ap (λ (k : ℕ). take k a.buffer.now) n
