-- Each first line. Assumes nothing.
use mathlib.Core.Path.{sym, ◌∙◌}
use native.Mathlib.Omega.{arith}
use Rattle.notation.specs.Lister.{lister}
use Rattle.nodes.proofs.Nodes.{part-rest}
use Rattle.listing.proofs.Fields.{wrote-to}
use Rattle.listing.proofs.FirstLine.{unnamed, is-w, is_m, listing-of}
use Rattle.listing.proofs.whole.put_input.Goals as goal

pub returns-in-119 : goal.returns-in-119
returns-in-119 c =
    let a = c.args in
    wrote-to (lister a.input.now)
    (listing-of c.wca.ensures (part-rest 2 a.input.now) ∙ sym (is-w a.input.now (omega arith) (omega arith) (omega arith)))
    c.put_listing.ensures

pub returns-in-109 : goal.returns-in-109
returns-in-109 c =
    let a = c.args in
    wrote-to (lister a.input.now)
    (listing-of c.maximal.ensures (part-rest 2 a.input.now) ∙ sym (is_m a.input.now (omega arith) (omega arith) (omega arith)))
    c.put_listing-in-109.ensures

pub returns-in_default : goal.returns-in_default
returns-in_default c =
    let a = c.args in
    wrote-to (lister a.input.now) (sym (unnamed a.input.now (λ h e f. grind arith) (λ h e f. grind arith))) c.put_bytes.ensures
