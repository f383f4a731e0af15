use mathlib.Core.Path.{ap₂}
use native.Mathlib.Omega.{arith}
use Rattle.notation.specs.Tree.{span}
use Rattle.numbers.proofs.BigEndian.{slice-below}
use Rattle.record.proofs.Packed.{first-of-two, second-of-two}
use Rattle.record.proofs.fields.span_at.Goals as goal

pub returns : goal.returns
returns c =
    let a = c.args in
    let s = a.t.now in
    let below = slice-below s c.type_inv.t in
    let room = c.requires in record {
      result_value = ap₂ span (first-of-two s a.at below room c.read-head.result c.read-tail.result c.read-head.ensures.value c.read-tail.ensures.value)
          (second-of-two s a.at below room c.read-head.result c.read-tail.result c.read-head.ensures.value c.read-tail.ensures.value);
      fits_span = record { offset = omega arith; size = omega arith };
    }
