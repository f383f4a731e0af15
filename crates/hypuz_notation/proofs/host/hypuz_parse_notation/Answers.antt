-- `host::hypuz_parse_notation` meets its contract: it hands over what the entry answers under the setting that the bits name. Assumes nothing.
use mathlib.Core.Path.{ap, ◌∙◌}
use Rattle.notation.specs.Entries.{parse_notation}
use Rattle.notation.specs.declared.features.Features.{Features}
use Rattle.hypuz_notation.proofs.Handing.{hands}
use Rattle.hypuz_notation.proofs.host.hypuz_parse_notation.Goals as goal

pub returns : goal.returns
returns c =
    let a = c.args in
    hands _ c.parse_notation.result _ _ c.code.ensures
    (c.parse_notation.ensures ∙ ap (λ (f : Features). parse_notation f a.text.now a.tree.now) c.from_bits.ensures)
