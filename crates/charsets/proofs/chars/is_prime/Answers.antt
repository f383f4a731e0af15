-- `charsets::chars::is_prime` meets its contract: the apostrophe, then the two past the table.
use Rattle.std.proofs.Common.{rules}
use mathlib.Core.Path.{◌≡◌, ◌∙◌}
use mathlib.Core.List.{◌∷◌}
use Rattle.notation.specs.Basics.{one_of}
use Rattle.notation.specs.Chars.{curly_prime_codes}
use Rattle.charsets.proofs.Sets.{prime-is}
use Rattle.charsets.proofs.chars.is_prime.Goals as goal

pub returns-then-c-eq39 : goal.returns-then-c-eq39
unfolding one_of
returns-then-c-eq39 c =
    let e : _ ≡ one_of (0x27 ∷ curly_prime_codes) c.args.c = search rules in
    e ∙ prime-is c.args.c

pub returns-else-c-eq39 : goal.returns-else-c-eq39
unfolding one_of
returns-else-c-eq39 c =
    let e : _ ≡ one_of (0x27 ∷ curly_prime_codes) c.args.c = search rules in
    e ∙ prime-is c.args.c
