-- How many bytes a code point takes, and which three bytes write one. Assumes nothing.
use Prim.Native.Nat.{ℕ, ◌+◌, ◌*◌, ◌%◌, ◌≤◌, ◌<◌}
use mathlib.Core.Path.{◌≡◌, refl}
use mathlib.Core.Logic.{◌⊎◌, inl, inr, ⊎_elim}
use mathlib.Core.Bool.{Bool, true, false, ◌&&◌}
use mathlib.Core.List.{List}
use native.Mathlib.Omega.{arith}
use borrow.Author.Tests.{eqb-true, eqb-false, leb-true, leb-false}
use lib.Dec.{eqb, leb}
use Rattle.notation.specs.Basics.{pick, between}
use Rattle.notation.specs.Utf8.{byte_at, continuation, char_width, code_point}
use Rattle.charsets.proofs.Bools.{and_left, and_right, between-low, between-high}
use Rattle.charsets.proofs.Widths.{two, starts-three, three, starts-four, four}

-- three bytes a, b, c and their code point
pub record Three (a b c point : ℕ) : Type 0 where
  pub first : (0xe0 ≤ a) × (a ≤ 0xef)
  pub second : (0x80 ≤ b) × (b ≤ 0xbf)
  pub third : (0x80 ≤ c) × (c ≤ 0xbf)
  pub is : point ≡ a % 16 * 4096 + b % 64 * 64 + c % 64
  pub many : 0x7ff < point

-- the first three bytes, the code point, and the width
pub data Point (a b c point : ℕ) : ℕ → Type 0 where
  no-point : Point a b c point 0
  one_byte : a ≤ 0x7f → point ≡ a → Point a b c point 1
  two_bytes : 0x7f < a → 0x7f < point → point ≤ 0x7ff → Point a b c point 2
  three-bytes : Three a b c point → Point a b c point 3
  four_bytes : 0x7f < a → 0xffff < point → Point a b c point 4

-- The first two bytes of three and of four: the first lies from x to y, and after x the second is at least m.
record Starts (a b x y m : ℕ) : Type 0 where
  low : x ≤ a
  high : a ≤ y
  above : 0x80 ≤ b
  most : b ≤ 0xbf
  least : ((a ≡ x) × (m ≤ b)) ⊎ (x < a)

starts : (a b x y m n : ℕ) (u : Bool) → 0x80 ≤ m → n ≤ 0xbf → (between x y a && between (pick (eqb a x) m 0x80) (pick u n 0xbf) b) ≡ true → Starts a b x y m
starts a b x y m n u k l e =
    record {
      low = low;
      high = between-high x y a first;
      above = omega (arith, bottom (eqb a x), from);
      most = omega (arith, top u, between-high (pick (eqb a x) m 0x80) (pick u n 0xbf) b second);
      least = least (eqb a x) refl from;
    }
  where
    first : between x y a ≡ true
    first = and_left (between x y a) _ e

    second : between (pick (eqb a x) m 0x80) (pick u n 0xbf) b ≡ true
    second = and_right (between x y a) _ e

    low : x ≤ a
    low = between-low x y a first

    from : pick (eqb a x) m 0x80 ≤ b
    from = between-low (pick (eqb a x) m 0x80) (pick u n 0xbf) b second

    bottom : (t : Bool) → 0x80 ≤ pick t m 0x80
    bottom true = k
    bottom false = omega arith

    top : (u : Bool) → pick u n 0xbf ≤ 0xbf
    top true = l
    top false = omega arith

    later : (t : Bool) → leb a x ≡ t → (a ≡ x → ⊥) → x < a
    later true i f = let j = leb-true a x i in absurd (f (omega (arith, low)))
    later false i f = leb-false a x i

    least : (t : Bool) → eqb a x ≡ t → pick t m 0x80 ≤ b → ((a ≡ x) × (m ≤ b)) ⊎ (x < a)
    least true i h = inl (eqb-true a x i, h)
    least false i h = inr (later (leb a x) refl (eqb-false a x i))

module _ (a b c d : ℕ) where
  abbrev point₂ : ℕ
  point₂ = a % 32 * 64 + b % 64

  abbrev point₃ : ℕ
  point₃ = a % 16 * 4096 + b % 64 * 64 + c % 64

  abbrev point₄ : ℕ
  point₄ = a % 8 * 262144 + b % 64 * 4096 + c % 64 * 64 + d % 64

  of_two : (l₂ : Bool) → leb a 0xdf ≡ l₂ → leb a 0x7f ≡ false → between 0xc2 0xdf a ≡ true → (z : ℕ) → Point a b c (pick l₂ point₂ z) 2
  of_two true f e g z =
      let i = between-low 0xc2 0xdf a g in
      let j = leb-true a 0xdf f in
      two_bytes (leb-false a 0x7f e) (omega arith) (omega arith)
  of_two false f e g z =
      let i = between-high 0xc2 0xdf a g in
      let j = leb-false a 0xdf f in
      absurd (omega arith)

  of_three : (l₂ l₃ : Bool) → leb a 0xdf ≡ l₂ → leb a 0xef ≡ l₃ → Starts a b 0xe0 0xef 0xa0 → continuation c ≡ true → (y z : ℕ) →
      Point a b c (pick l₂ y (pick l₃ point₃ z)) 3
  of_three true l₃ f₂ f₃ g h y z = let i = leb-true a 0xdf f₂ in absurd (omega (arith, g.low))
  of_three false false f₂ f₃ g h y z = let i = leb-false a 0xef f₃ in absurd (omega (arith, g.high))
  of_three false true f₂ f₃ g h y z =
      three-bytes
      (record {
        first = (g.low, g.high);
        second = (g.above, g.most);
        third = (between-low 0x80 0xbf c h, between-high 0x80 0xbf c h);
        is = refl;
        many = ⊎_elim (λ i. omega (arith, i.0, i.1, g.most)) (λ i. omega (arith, i, g.high)) g.least;
      })

  of_four : (l₂ l₃ : Bool) → leb a 0xdf ≡ l₂ → leb a 0xef ≡ l₃ → leb a 0x7f ≡ false → Starts a b 0xf0 0xf4 0x90 → (y z : ℕ) →
      Point a b c (pick l₂ y (pick l₃ z point₄)) 4
  of_four true l₃ f₂ f₃ e g y z = let i = leb-true a 0xdf f₂ in absurd (omega (arith, g.low))
  of_four false true f₂ f₃ e g y z = let i = leb-true a 0xef f₃ in absurd (omega (arith, g.low))
  of_four false false f₂ f₃ e g y z =
      four_bytes (leb-false a 0x7f e) (⊎_elim (λ i. omega (arith, i.0, i.1, g.most)) (λ i. omega (arith, i, g.high)) g.least)

  by_rows : (t₁ l₂ l₃ t₂ t₃ t₄ : Bool) → leb a 0x7f ≡ t₁ → leb a 0xdf ≡ l₂ → leb a 0xef ≡ l₃ → two a b ≡ t₂ → three a b c ≡ t₃ → four a b c d ≡ t₄ →
      Point a b c (pick t₁ a (pick l₂ point₂ (pick l₃ point₃ point₄))) (pick t₁ 1 (pick t₂ 2 (pick t₃ 3 (pick t₄ 4 0))))
  by_rows true l₂ l₃ t₂ t₃ t₄ e₁ f₂ f₃ e₂ e₃ e₄ = one_byte (leb-true a 0x7f e₁) refl
  by_rows false l₂ l₃ true t₃ t₄ e₁ f₂ f₃ e₂ e₃ e₄ = of_two l₂ f₂ e₁ (and_left (between 0xc2 0xdf a) (continuation b) e₂) _
  by_rows false l₂ l₃ false true t₄ e₁ f₂ f₃ e₂ e₃ e₄ =
      of_three l₂ l₃ f₂ f₃
      (starts a b 0xe0 0xef 0xa0 0x9f (eqb a 0xed) (omega arith) (omega arith) (and_left (starts-three a b) (continuation c) e₃))
      (and_right (starts-three a b) (continuation c) e₃) _ _
  by_rows false l₂ l₃ false false true e₁ f₂ f₃ e₂ e₃ e₄ =
      of_four l₂ l₃ f₂ f₃ e₁
      (starts a b 0xf0 0xf4 0x90 0x8f (eqb a 0xf4) (omega arith) (omega arith)
      (and_left (starts-four a b) (continuation c) (and_left (starts-four a b && continuation c) (continuation d) e₄))) _ _
  by_rows false l₂ l₃ false false false e₁ f₂ f₃ e₂ e₃ e₄ = no-point

pub point : (s : List ℕ) → Point (byte_at s 0) (byte_at s 1) (byte_at s 2) (code_point s) (char_width s)
unfolding char_width code_point
point s =
    let a = byte_at s 0 in
    let b = byte_at s 1 in
    let c = byte_at s 2 in
    let d = byte_at s 3 in
    by_rows a b c d (leb a 0x7f) (leb a 0xdf) (leb a 0xef) (two a b) (three a b c) (four a b c d) refl refl refl refl refl refl
