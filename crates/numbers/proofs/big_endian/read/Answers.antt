-- `big_endian::read` meets its contract: one more byte in each turn. Assumes nothing.
use Rattle.std.proofs.Common.{◌≡◌, ◌+◌, ◌^◌, ◌<◌, ◌≤◌, length, take, drop, ℕ, ◌-◌, ◌*◌, get_or, List, arith, subst, ap, ◌∙◌, sym}
use Rattle.notation.specs.Numbers.{from_big_endian}
use Rattle.numbers.proofs.Positional.{Below}
use Rattle.numbers.proofs.BigEndian.{slice-below, no_bytes, so_far-lt, one_more, field-long, field-below, whole-field, part-lt}
use Rattle.numbers.proofs.big_endian.read.Goals as goal

pub loop-b-init : goal.loop-b-init
loop-b-init g c = no_bytes

small : (s : List ℕ) (at w i n : ℕ) → Below 256 s → at + w ≤ length s → w ≤ 8 → i < length (take (at + w - at) (drop at s)) → n ≡ from_big_endian (take i (take (at + w - at) (drop at s))) → n < 256 ^ 7
small s at w i n b room short h e =
    let long = field-long s at w b room in
    subst (λ (m : ℕ). m < 256 ^ 7) (sym e) (so_far-lt (take (at + w - at) (drop at s)) i (field-below s at w b room) h (omega (arith, long)))

pub overflow_mul-n : goal.overflow_mul-n
overflow_mul-n g c =
    omega (arith, small c.args.s.now c.args.at g.row.N c.loop-b.b-index c.loop-b.n (slice-below _ c.type_inv.s) c.requires.room c.requires.width c.loop-b-test.true c.loop-b.invariant)

pub overflow_add-n : goal.overflow_add-n
overflow_add-n g c =
    let b = field-below c.args.s.now c.args.at g.row.N (slice-below _ c.type_inv.s) c.requires.room in
    omega (arith, b.at c.loop-b.b-index, small c.args.s.now c.args.at g.row.N c.loop-b.b-index c.loop-b.n (slice-below _ c.type_inv.s) c.requires.room c.requires.width c.loop-b-test.true c.loop-b.invariant)

pub loop-b-preserved : goal.loop-b-preserved
loop-b-preserved g c =
    let bs = take (c.args.at + g.row.N - c.args.at) (drop c.args.at c.args.s.now) in
    ap (λ (n : ℕ). n * 256 + get_or bs c.loop-b.b-index 0) c.loop-b.invariant ∙ one_more bs c.loop-b.b-index c.loop-b-test.true

pub returns-clause-value : goal.returns-clause-value
returns-clause-value g c =
    whole-field c.args.s.now c.args.at g.row.N (slice-below _ c.type_inv.s) c.requires.room _ _ c.loop-b.invariant c.loop-b.auto.b-index-end (λ h. omega (arith, c.loop-b-test.false))

pub returns-clause-bound : goal.returns-clause-bound
returns-clause-bound g c =
    let e = whole-field c.args.s.now c.args.at g.row.N (slice-below _ c.type_inv.s) c.requires.room _ _ c.loop-b.invariant c.loop-b.auto.b-index-end (λ h. omega (arith, c.loop-b-test.false)) in
    subst (λ (m : ℕ). m < 256 ^ g.row.N) (sym e) (part-lt c.args.s.now c.args.at g.row.N (slice-below _ c.type_inv.s) c.requires.room)
