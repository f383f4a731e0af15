-- Runs of characters: a run does not look past a byte at which it stops, and a run alone is a run. Assumes nothing.
use Prim.Native.Nat.{ℕ, zero, suc, ◌+◌, ◌*◌, ◌%◌, ◌≤◌, ◌<◌}
use mathlib.Core.Path.{◌≡◌, refl, sym, ap, ◌∙◌}
use mathlib.Core.Bool.{Bool, true, false, ◌&&◌}
use mathlib.Core.List.{List, [], ◌∷◌, ◌++◌}
use native.Mathlib.Omega.{arith}
use lib.Dec.{eqb, leb}
use lib.ListN.{length, take, drop, take-append-drop}
use lib.Seq.{length-take-le}
use borrow.Author.Tests.{leb-true, le-leb, lt-leb}
use Rattle.notation.specs.Basics.{pick, choose, between}
use Rattle.notation.specs.Utf8.{byte_at, continuation, char_width, code_point, after_first, width_if, run_from, run}
use Rattle.notation.specs.Numbers.{is_digit, digit_run}
use Rattle.laws.proofs.Bools.{and_left, and_right, and_both, and-false, pick_same}
use Rattle.laws.proofs.Readers.{run-le}

-- The character at the start by its bytes: forms of two, three and four of them.
abbrev two : ℕ → ℕ → Bool
two a b = between 0xc2 0xdf a && continuation b

abbrev three : ℕ → ℕ → ℕ → Bool
three a b c = between 0xe0 0xef a && between (pick (eqb a 0xe0) 0xa0 0x80) (pick (eqb a 0xed) 0x9f 0xbf) b && continuation c

abbrev four : ℕ → ℕ → ℕ → ℕ → Bool
four a b c d =
    between 0xf0 0xf4 a && between (pick (eqb a 0xf0) 0x90 0x80) (pick (eqb a 0xf4) 0x8f 0xbf) b && continuation c && continuation d

abbrev point₂ : ℕ → ℕ → ℕ
point₂ a b = a % 32 * 64 + b % 64

abbrev point₃ : ℕ → ℕ → ℕ → ℕ
point₃ a b c = a % 16 * 4096 + b % 64 * 64 + c % 64

abbrev point₄ : ℕ → ℕ → ℕ → ℕ → ℕ
point₄ a b c d = a % 8 * 262144 + b % 64 * 4096 + c % 64 * 64 + d % 64

abbrev form₁ : (ℕ → Bool) → ℕ → ℕ → ℕ
form₁ p a z = pick (leb a 0x7f) (pick (p a) 1 0) z

abbrev form₂ : (ℕ → Bool) → ℕ → ℕ → ℕ → ℕ
form₂ p a b z = pick (two a b) (pick (p (point₂ a b)) 2 0) z

abbrev form₃ : (ℕ → Bool) → ℕ → ℕ → ℕ → ℕ → ℕ
form₃ p a b c z = pick (three a b c) (pick (p (point₃ a b c)) 3 0) z

abbrev form₄ : (ℕ → Bool) → ℕ → ℕ → ℕ → ℕ → ℕ
form₄ p a b c d = pick (four a b c d) (pick (p (point₄ a b c d)) 4 0) 0

abbrev wide : (ℕ → Bool) → ℕ → ℕ → ℕ → ℕ → ℕ
wide p a b c d = form₁ p a (form₂ p a b (form₃ p a b c (form₄ p a b c d)))

wide_is : (p : ℕ → Bool) (s : List ℕ) → width_if p s ≡ wide p (byte_at s 0) (byte_at s 1) (byte_at s 2) (byte_at s 3)
unfolding char_width code_point
wide_is p s =
    go a (point₂ a b) (point₃ a b c) (point₄ a b c d)
    (leb a 0x7f) (two a b) (three a b c) (four a b c d) (leb a 0xdf) (leb a 0xef)
    (λ e. le-leb a 0xdf (omega (arith, leb-true a 0xdf (and_right (leb 0xc2 a) _ (and_left _ (continuation b) e)))))
    (λ e. let e₁ = and_left (between 0xe0 0xef a) _ (and_left _ (continuation c) e) in
    (lt-leb a 0xdf (omega (arith, leb-true 0xe0 a (and_left _ (leb a 0xef) e₁))), and_right (leb 0xe0 a) _ e₁))
    (λ e. let e₁ = and_left (between 0xf0 0xf4 a) _ (and_left _ (continuation c) (and_left _ (continuation d) e)) in
    let h : 0xf0 ≤ a = leb-true 0xf0 a (and_left _ (leb a 0xf4) e₁) in
    (lt-leb a 0xdf (omega arith), lt-leb a 0xef (omega arith)))
  where
    a : ℕ
    a = byte_at s 0

    b : ℕ
    b = byte_at s 1

    c : ℕ
    c = byte_at s 2

    d : ℕ
    d = byte_at s 3

    go : (x y z w : ℕ) (t₁ t₂ t₃ t₄ l₂ l₃ : Bool) → (t₂ ≡ true → l₂ ≡ true) → (t₃ ≡ true → (l₂ ≡ false) × (l₃ ≡ true)) →
        (t₄ ≡ true → (l₂ ≡ false) × (l₃ ≡ false)) →
        pick {A = ℕ} (p (pick t₁ x (pick l₂ y (pick l₃ z w)))) (pick t₁ 1 (pick t₂ 2 (pick t₃ 3 (pick t₄ 4 0)))) 0
        ≡ pick t₁ (pick (p x) 1 0) (pick t₂ (pick (p y) 2 0) (pick t₃ (pick (p z) 3 0) (pick t₄ (pick (p w) 4 0) 0)))
    go x y z w true t₂ t₃ t₄ l₂ l₃ h₂ h₃ h₄ = refl
    go x y z w false true t₃ t₄ l₂ l₃ h₂ h₃ h₄ = rw (h₂ refl)
    go x y z w false false true t₄ l₂ l₃ h₂ h₃ h₄ = rw ((h₃ refl).0, (h₃ refl).1)
    go x y z w false false false true l₂ l₃ h₂ h₃ h₄ = rw ((h₄ refl).0, (h₄ refl).1)
    go x y z w false false false false l₂ l₃ h₂ h₃ h₄ = pick_same (p _) 0

-- A form with a byte that is no continuation is none.
pub second : (e f : Bool) (x y b : ℕ) → 0x80 ≤ x → y ≤ 0xbf → continuation b ≡ false → between (pick e x 0x80) (pick f y 0xbf) b ≡ false
second e f x y b hx hy n = go (between (pick e x 0x80) (pick f y 0xbf) b) refl
  where
    low : (e : Bool) → 0x80 ≤ pick e x 0x80
    low true = hx
    low false = omega arith

    high : (f : Bool) → pick f y 0xbf ≤ 0xbf
    high true = hy
    high false = omega arith

    go : (t : Bool) → between (pick e x 0x80) (pick f y 0xbf) b ≡ t → t ≡ false
    go false h = refl
    go true h =
        sym (and_both (leb 0x80 b) _
        (le-leb 0x80 b (omega (arith, low e, leb-true (pick e x 0x80) b (and_left _ (leb b (pick f y 0xbf)) h))))
        (le-leb b 0xbf (omega (arith, high f, leb-true b (pick f y 0xbf) (and_right (leb (pick e x 0x80) b) _ h))))) ∙ n

second₃ : (a b : ℕ) → continuation b ≡ false → between (pick (eqb a 0xe0) 0xa0 0x80) (pick (eqb a 0xed) 0x9f 0xbf) b ≡ false
second₃ a b n = second (eqb a 0xe0) (eqb a 0xed) 0xa0 0x9f b (omega arith) (omega arith) n

second₄ : (a b : ℕ) → continuation b ≡ false → between (pick (eqb a 0xf0) 0x90 0x80) (pick (eqb a 0xf4) 0x8f 0xbf) b ≡ false
second₄ a b n = second (eqb a 0xf0) (eqb a 0xf4) 0x90 0x8f b (omega arith) (omega arith) n

one_byte : (p : ℕ → Bool) (a b c d : ℕ) → continuation b ≡ false → wide p a b c d ≡ form₁ p a 0
one_byte p a b c d n = rw (second₃ a b n, second₄ a b n, n) (simp and-false)

two_bytes : (p : ℕ → Bool) (a b c d : ℕ) → continuation c ≡ false → wide p a b c d ≡ form₁ p a (form₂ p a b 0)
two_bytes p a b c d n = rw n (simp and-false)

three-bytes : (p : ℕ → Bool) (a b c d : ℕ) → continuation d ≡ false → wide p a b c d ≡ form₁ p a (form₂ p a b (form₃ p a b c 0))
three-bytes p a b c d n = rw n (simp and-false)

-- A character does not look past a byte that is no continuation.
pub width-cut : (p : ℕ → Bool) (a : ℕ) (v r : List ℕ) → continuation (byte_at r 0) ≡ false → width_if p (a ∷ (v ++ r)) ≡ width_if p (a ∷ v)
width-cut p a v r n = wide_is p (a ∷ (v ++ r)) ∙ go v ∙ sym (wide_is p (a ∷ v))
  where
    go : (v : List ℕ) → wide p a (byte_at (v ++ r) 0) (byte_at (v ++ r) 1) (byte_at (v ++ r) 2) ≡ wide p a (byte_at v 0) (byte_at v 1) (byte_at v 2)
    go [] = one_byte p a (byte_at r 0) (byte_at r 1) (byte_at r 2) n ∙ sym (one_byte p a 256 256 256 refl)
    go (b ∷ []) = two_bytes p a b (byte_at r 0) (byte_at r 1) n ∙ sym (two_bytes p a b 256 256 refl)
    go (b ∷ c ∷ []) = three-bytes p a b c (byte_at r 0) n ∙ sym (three-bytes p a b c 256 refl)
    go (b ∷ c ∷ d ∷ v) = refl

-- A character takes no more than there is, and one that fits a front part is the same in that part alone.
within : (t q : Bool) (n z m : ℕ) → n ≤ m → z ≤ m → pick t (pick q n 0) z ≤ m
within true true n z m h k = h
within true false n z m h k = omega arith
within false q n z m h k = k

over : (t q : Bool) (n z m : ℕ) → m < n → (z ≤ m → z ≡ 0) → pick t (pick q n 0) z ≤ m → pick t (pick q n 0) z ≡ 0
over true true n z m h k e = absurd (omega arith)
over true false n z m h k e = refl
over false q n z m h k e = k e

passes : (t : Bool) (x z z' m : ℕ) → (z ≤ m → z ≡ z') → pick t x z ≤ m → pick t x z ≡ pick t x z'
passes true x z z' m h e = refl
passes false x z z' m h e = h e

module _ (p : ℕ → Bool) (a b c d : ℕ) where
  within₁ : (z m : ℕ) → 1 ≤ m → z ≤ m → form₁ p a z ≤ m
  within₁ z m = within (leb a 0x7f) (p a) 1 z m

  within₂ : (z m : ℕ) → 2 ≤ m → z ≤ m → form₂ p a b z ≤ m
  within₂ z m = within (two a b) (p (point₂ a b)) 2 z m

  within₃ : (z m : ℕ) → 3 ≤ m → z ≤ m → form₃ p a b c z ≤ m
  within₃ z m = within (three a b c) (p (point₃ a b c)) 3 z m

  within₄ : (m : ℕ) → 4 ≤ m → form₄ p a b c d ≤ m
  within₄ m h = within (four a b c d) (p (point₄ a b c d)) 4 0 m h (omega arith)

  le₁ : form₁ p a 0 ≤ 1
  le₁ = within₁ 0 1 (omega arith) (omega arith)

  le₂ : form₁ p a (form₂ p a b 0) ≤ 2
  le₂ = within₁ _ 2 (omega arith) (within₂ 0 2 (omega arith) (omega arith))

  le₃ : form₁ p a (form₂ p a b (form₃ p a b c 0)) ≤ 3
  le₃ = within₁ _ 3 (omega arith) (within₂ _ 3 (omega arith) (within₃ 0 3 (omega arith) (omega arith)))

  le₄ : (m : ℕ) → 4 ≤ m → wide p a b c d ≤ m
  le₄ m h = within₁ _ m (omega arith) (within₂ _ m (omega arith) (within₃ _ m (omega arith) (within₄ m h)))

  over₂ : (z m : ℕ) → m < 2 → (z ≤ m → z ≡ 0) → form₂ p a b z ≤ m → form₂ p a b z ≡ 0
  over₂ z m = over (two a b) (p (point₂ a b)) 2 z m

  over₃ : (z m : ℕ) → m < 3 → (z ≤ m → z ≡ 0) → form₃ p a b c z ≤ m → form₃ p a b c z ≡ 0
  over₃ z m = over (three a b c) (p (point₃ a b c)) 3 z m

  over₄ : (m : ℕ) → m < 4 → form₄ p a b c d ≤ m → form₄ p a b c d ≡ 0
  over₄ m h = over (four a b c d) (p (point₄ a b c d)) 4 0 m h (λ _. refl)

  pass₁ : (z z' m : ℕ) → (z ≤ m → z ≡ z') → form₁ p a z ≤ m → form₁ p a z ≡ form₁ p a z'
  pass₁ z z' m = passes (leb a 0x7f) (pick (p a) 1 0) z z' m

  pass₂ : (z z' m : ℕ) → (z ≤ m → z ≡ z') → form₂ p a b z ≤ m → form₂ p a b z ≡ form₂ p a b z'
  pass₂ z z' m = passes (two a b) (pick (p (point₂ a b)) 2 0) z z' m

  part₁ : wide p a b c d ≤ 1 → wide p a b c d ≡ form₁ p a 0
  part₁ = pass₁ _ 0 1 (over₂ _ 1 (omega arith) (over₃ _ 1 (omega arith) (over₄ 1 (omega arith))))

  part₂ : wide p a b c d ≤ 2 → wide p a b c d ≡ form₁ p a (form₂ p a b 0)
  part₂ = pass₁ _ _ 2 (pass₂ _ 0 2 (over₃ _ 2 (omega arith) (over₄ 2 (omega arith))))

  part₃ : wide p a b c d ≤ 3 → wide p a b c d ≡ form₁ p a (form₂ p a b (form₃ p a b c 0))
  part₃ = pass₁ _ _ 3 (pass₂ _ _ 3 (passes (three a b c) (pick (p (point₃ a b c)) 3 0) _ 0 3 (over₄ 3 (omega arith))))

pub width-le : (p : ℕ → Bool) (a : ℕ) (v : List ℕ) → width_if p (a ∷ v) ≤ suc (length v)
width-le p a v = rw (wide_is p (a ∷ v)) (go v)
  where
    go : (v : List ℕ) → wide p a (byte_at v 0) (byte_at v 1) (byte_at v 2) ≤ suc (length v)
    go [] = rw (one_byte p a 256 256 256 refl) (le₁ p a 256 256 256)
    go (b ∷ []) = rw (two_bytes p a b 256 256 refl) (le₂ p a b 256 256)
    go (b ∷ c ∷ []) = rw (three-bytes p a b c 256 refl) (le₃ p a b c 256)
    go (b ∷ c ∷ d ∷ v) = le₄ p a b c d (suc (suc (suc (suc (length v))))) (omega arith)

pub width-part : (p : ℕ → Bool) (a : ℕ) (u s : List ℕ) → width_if p (a ∷ (u ++ s)) ≤ suc (length u) → width_if p (a ∷ u) ≡ width_if p (a ∷ (u ++ s))
width-part p a u s h = wide_is p (a ∷ u) ∙ sym (go u (rw (wide_is p (a ∷ (u ++ s))) at h)) ∙ sym (wide_is p (a ∷ (u ++ s)))
  where
    go : (u : List ℕ) → wide p a (byte_at (u ++ s) 0) (byte_at (u ++ s) 1) (byte_at (u ++ s) 2) ≤ suc (length u) →
        wide p a (byte_at (u ++ s) 0) (byte_at (u ++ s) 1) (byte_at (u ++ s) 2) ≡ wide p a (byte_at u 0) (byte_at u 1) (byte_at u 2)
    go [] h = part₁ p a (byte_at s 0) (byte_at s 1) (byte_at s 2) h ∙ sym (one_byte p a 256 256 256 refl)
    go (b ∷ []) h = part₂ p a b (byte_at s 0) (byte_at s 1) h ∙ sym (two_bytes p a b 256 256 refl)
    go (b ∷ c ∷ []) h = part₃ p a b c (byte_at s 0) h ∙ sym (three-bytes p a b c 256 refl)
    go (b ∷ c ∷ d ∷ u) h = refl

-- A run does not look past what it stops at.
pub run-cut : (p : ℕ → Bool) (k : ℕ) (v r : List ℕ) → k ≤ length v → continuation (byte_at r 0) ≡ false → run p r ≡ 0 →
    run_from p k (v ++ r) ≡ run_from p k v
unfolding run_from
run-cut p zero [] r h n e = e
run-cut p (suc k) [] r h n e = absurd (omega arith)
run-cut p (suc k) (b ∷ v) r h n e = ap suc (run-cut p k v r (omega arith) n e)
run-cut p zero (b ∷ v) r h n e = rw (width-cut p b v r n) (go (width_if p (b ∷ v)) (width-le p b v) (λ k h. run-cut p k v r h n e))
  where
    go : (w : ℕ) → w ≤ suc (length v) → ((k : ℕ) → k ≤ length v → run_from p k (v ++ r) ≡ run_from p k v) →
        after_first w 0 (λ k. suc (run_from p k (v ++ r))) ≡ after_first w 0 (λ k. suc (run_from p k v))
    go zero h f = refl
    go (suc k) h f = ap suc (f k (omega arith))

pub digits-cut : (v r : List ℕ) → digit_run r ≡ 0 → digit_run (v ++ r) ≡ digit_run v
unfolding digit_run
digits-cut [] r e = e
digits-cut (b ∷ v) r e = ap (λ (n : ℕ). choose (is_digit b) (λ _. suc n) (λ _. 0)) (digits-cut v r e)

-- A run takes what belongs to a character that was seen.
run-ge : (p : ℕ → Bool) (k : ℕ) (s : List ℕ) → k ≤ length s → k ≤ run_from p k s
unfolding run_from
run-ge p zero [] h = omega arith
run-ge p (suc k) [] h = h
run-ge p (suc k) (b ∷ s) h = omega (arith, run-ge p k s (omega arith))
run-ge p zero (b ∷ s) h = omega arith

-- A run alone is a run.
pub run-part : (p : ℕ → Bool) (k : ℕ) (u s : List ℕ) → run_from p k (u ++ s) ≡ length u → run_from p k u ≡ length u
unfolding run_from
run-part p k [] s e = refl
run-part p (suc k) (b ∷ u) s e = ap suc (run-part p k u s (omega arith))
run-part p zero (b ∷ u) s e = go (width_if p (b ∷ (u ++ s))) refl e (λ k. run-part p k u s)
  where
    go : (w : ℕ) → width_if p (b ∷ (u ++ s)) ≡ w → after_first w 0 (λ k. suc (run_from p k (u ++ s))) ≡ suc (length u) →
        ((k : ℕ) → run_from p k (u ++ s) ≡ length u → run_from p k u ≡ length u) →
        after_first (width_if p (b ∷ u)) 0 (λ k. suc (run_from p k u)) ≡ suc (length u)
    go zero h e f = absurd (omega arith)
    go (suc k) h e f =
        let i : run_from p k (u ++ s) ≡ length u = omega arith in
        let j : k ≤ length (u ++ s) = omega (arith, width-le p b (u ++ s)) in
        let j' : suc k ≤ suc (length u) = omega (arith, run-ge p k (u ++ s) j) in
        rw (width-part p b u s (rw h j'), h) (ap suc (f k i))

pub run_alone : (p : ℕ → Bool) (s : List ℕ) → run p (take (run p s) s) ≡ run p s
run_alone p s =
    let n = length-take-le (run p s) s (run-le p 0 s) in
    run-part p 0 (take (run p s) s) (drop (run p s) s) (rw (take-append-drop (run p s) s) (sym n)) ∙ n
