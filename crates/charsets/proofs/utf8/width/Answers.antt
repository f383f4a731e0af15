-- `charsets::utf8::width` meets its contract: by the law of an ASCII character's width under a test.
use mathlib.Core.Path.{◌∙◌, refl, sym}
use Rattle.charsets.proofs.Widths.{width-ascii}
use Rattle.charsets.proofs.utf8.width.Goals as goal

pub returns-then-is_ascii_wanted : goal.returns-then-is_ascii_wanted
returns-then-is_ascii_wanted g c =
    let a = c.args in
    width-ascii g.W.Wanted.rule a.s.now a.at c.byte_at-a.ensures c.if-a-le127.true (sym c.if-is_ascii_wanted.true ∙ c.is_ascii_wanted.ensures) refl

pub returns-else-is_ascii_wanted : goal.returns-else-is_ascii_wanted
returns-else-is_ascii_wanted g c =
    let a = c.args in
    width-ascii g.W.Wanted.rule a.s.now a.at c.byte_at-a.ensures c.if-a-le127.true (sym c.if-is_ascii_wanted.false ∙ c.is_ascii_wanted.ensures) refl
