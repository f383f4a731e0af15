-- `nodes::close` meets its contract. Assumes nothing.
use mathlib.Core.Path.{◌≡◌, sym, ◌∙◌}
use native.Mathlib.Omega.{arith}
use borrow.Author.Tests.{eqb-true}
use Rattle.charsets.proofs.Texts.{is_byte}
use Rattle.notation.specs.Utf8.{byte_at}
use Prim.Native.Nat.{◌+◌}
use Rattle.parse.proofs.Past.{within}
use Rattle.parse.proofs.Rules.{takes-multiplier}
use Rattle.parse.proofs.node.close.Goals as goal

pub multiplier-requires : goal.multiplier-requires
multiplier-requires c =
    let a = c.args in
    let here : byte_at a.text.now a.at ≡ a.bracket = eqb-true _ _ (sym c.has.ensures ∙ c.if-has.true) in
    omega (arith, is_byte a.text.now a.at (omega (arith, here, c.ranges.bracket)))

pub returns-then-has : goal.returns-then-has
returns-then-has c =
    let a = c.args in
    let here : byte_at a.text.now a.at ≡ a.bracket = eqb-true _ _ (sym c.has.ensures ∙ c.if-has.true) in
    let inside = is_byte a.text.now a.at (omega (arith, here, c.ranges.bracket)) in
    let ends = within a.text.now (a.at + 1) (takes-multiplier a.features) (omega (arith, inside)) c.multiplier.ensures in
    record {
      stands = sym c.has.ensures ∙ c.if-has.true;
      reads = sym c.multiplier.ensures;
      advances = omega (arith, ends.0);
      inside = ends.1;
    }

pub returns-else-has : goal.returns-else-has
returns-else-has c = sym c.has.ensures ∙ c.if-has.false
