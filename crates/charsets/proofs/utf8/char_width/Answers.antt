-- `charsets::utf8::char_width` meets its contract: at each return the rows of table 3-7 that were tried are known.
use Rattle.charsets.proofs.Widths.{rows, width-at}
use Rattle.notation.specs.Utf8.{char_width}
use lib.ListN.{drop, drop_of_length-le}
use borrow.Author.Tests.{le-leb, lt-leb}
use mathlib.Core.Path.{◌≡◌, ◌∙◌, sym, refl}
use mathlib.Core.Bool.{Bool, false}
use Rattle.charsets.proofs.utf8.char_width.Goals as goal
use Rattle.charsets.proofs.utf8.char_width.Goals.{After-is_four_bytes}

pub returns-then-s-at : goal.returns-then-s-at
unfolding char_width
returns-then-s-at c = rw (drop_of_length-le _ c.if-s-at.true)

pub returns-then-a-le127 : goal.returns-then-a-le127
returns-then-a-le127 c =
    let a = c.args in
    width-at a.s.now a.at _ _ _ _ c.byte_at-a.ensures refl refl refl (le-leb _ _ c.if-a-le127.true) refl refl refl

pub returns-then-is_two_bytes : goal.returns-then-is_two_bytes
returns-then-is_two_bytes c =
    let a = c.args in
    width-at a.s.now a.at _ _ _ _ c.byte_at-a.ensures c.byte_at-b.ensures refl refl
    (lt-leb _ _ c.if-a-le127.false) (sym c.is_two_bytes.ensures ∙ c.if-is_two_bytes.true) refl refl

pub returns-then-is_three_bytes : goal.returns-then-is_three_bytes
returns-then-is_three_bytes c =
    let a = c.args in
    width-at a.s.now a.at _ _ _ _ c.byte_at-a.ensures c.byte_at-b.ensures c.byte_at-c.ensures refl
    (lt-leb _ _ c.if-a-le127.false) (sym c.is_two_bytes.ensures ∙ c.if-is_two_bytes.false)
    (sym c.is_three_bytes.ensures ∙ c.if-is_three_bytes.true) refl

last_row : (c : After-is_four_bytes) → {t : Bool} → c.is_four_bytes.result ≡ t → rows false false false t ≡ char_width (drop c.args.at c.args.s.now)
last_row c h =
    width-at c.args.s.now c.args.at _ _ _ _ c.byte_at-a.ensures c.byte_at-b.ensures c.byte_at-c.ensures c.byte_at.ensures
    (lt-leb _ _ c.if-a-le127.false) (sym c.is_two_bytes.ensures ∙ c.if-is_two_bytes.false)
    (sym c.is_three_bytes.ensures ∙ c.if-is_three_bytes.false) (sym c.is_four_bytes.ensures ∙ h)

pub returns-then-is_four_bytes : goal.returns-then-is_four_bytes
returns-then-is_four_bytes c = last_row (goal.at.returns-then-is_four_bytes c).After-is_four_bytes c.if-is_four_bytes.true

pub returns-else-is_four_bytes : goal.returns-else-is_four_bytes
returns-else-is_four_bytes c = last_row (goal.at.returns-else-is_four_bytes c).After-is_four_bytes c.if-is_four_bytes.false
