-- The readers of characters, numbers, families and lists over both texts at once. None takes a prime, so that both read the same.
-- Assumes nothing.
use Prim.Native.Nat.{ℕ, zero, suc, ◌+◌, ◌≤◌, ◌<◌}
use Prim.Native.Char.{Char, code}
use Prim.Native.String as S
use Prim.Native.String.{String}
use mathlib.Core.Path.{◌≡◌, refl, sym, ap, subst, ◌∙◌}
use mathlib.Core.Bool.{Bool, true, false, not, ◌&&◌}
use mathlib.Core.List.{List, [], ◌∷◌}
use native.Mathlib.Omega.{arith}
use borrow.Author.Tests.{eqb-true, leb-true, ltb-true}
use lib.Dec.{eqb, leb, ltb}
use lib.ListN.{length, take, drop}
use Rattle.notation.specs.Basics.{pick, between, every}
use Rattle.notation.specs.Chars.{is_family_char, white_space}
use Rattle.notation.specs.Utf8.{run}
use Rattle.notation.specs.Numbers.{digit_run, decimal}
use Rattle.notation.specs.Grammar.{
  Reading,
  rejected,
  read,
  Reader,
  done,
  fail,
  and_then,
  just,
  word,
  take_while,
  whitespace,
  some_whitespace,
  padded,
  uint,
  sint,
  collect,
  more_of,
  separated_by,
  braces,
  family_text,
  constraint,
  constraint_set,
  layer_set_element,
  layer_set_elements,
}
use Rattle.notation.specs.Print.{put}
use Rattle.notation.specs.Primes.{curly_width, straight_from, straight}
use Rattle.laws.proofs.Bools.{and_left, and_right, not-true}
use Rattle.prime_laws.proofs.Plain.{straight-length, plain-part}
use Rattle.prime_laws.proofs.Firsts.{plain-ascii}
use Rattle.prime_laws.proofs.Fronts.{Both, families-both, whites-both, digits-both}
use Rattle.prime_laws.proofs.Follows.{
  Places,
  Meets,
  neither,
  both,
  Follows,
  finished,
  after,
  narrow,
  loosely,
  ◌next◌,
  ◌past◌,
  ◌before◌,
  ◌then◌,
  either,
  admitted,
  taking,
}

-- both texts are read by one reader, and what is read is the same
abbrev pub Alike : Places → {A : Type 0} → ℕ → ℕ → Reader A → Type 0
Alike c m k p = Follows c m k (λ a a'. a ≡ a') p p

-- an ASCII character that is no prime
abbrev pub usual : ℕ → Bool
usual b = leb b 0x7f && not (eqb 0x27 b)

module _ {c : Places} where
  pub just-alike : {m : ℕ} (x : Char) → usual (code x) ≡ true → Alike c m 1 (just x)
  unfolding just straight_from
  just-alike x u = record { meets = λ at s at' h l. go at s at' h }
    where
      low : code x ≤ 0x7f
      low = leb-true (code x) 0x7f (and_left _ _ u)

      here : (at b : ℕ) (s : List ℕ) (at' : ℕ) → c.here at (b ∷ s) at' → (t : Bool) → eqb b (code x) ≡ t →
          Meets c 1 (length (straight (b ∷ s))) (λ a a'. a ≡ a') (pick t (read tt (at + 1) s) rejected) (just x at' (straight (b ∷ s)))
      here at b s at' h true e =
          let i = eqb-true b (code x) e in
          let one = plain-ascii b s (omega (arith, low)) (c.well at (b ∷ s) at' h) in
          subst (λ (l : List ℕ). Meets c 1 (length l) (λ a a'. a ≡ a') (read tt (at + 1) s) (just x at' l)) (sym one.same)
          (rw e (both (record { there = c.onward at (b ∷ s) at' 1 h one; rest = refl; fewer = omega arith }) refl))
      here at b s at' h false e = rw (not-here (eqb (curly_width (b ∷ s)) 0) e) neither
        where
          not-here : (t : Bool) → eqb b (code x) ≡ false → eqb (pick t b 0x27) (code x) ≡ false
          not-here true e = e
          not-here false e = not-true (eqb 0x27 (code x)) (and_right (leb (code x) 0x7f) _ u)

      go : (at : ℕ) (s : List ℕ) (at' : ℕ) → c.here at s at' →
          Meets c 1 (length (straight s)) (λ a a'. a ≡ a') (just x at s) (just x at' (straight s))
      go at [] at' h = neither
      go at (b ∷ s) at' h = here at b s at' h (eqb b (code x)) refl

  pub word-alike : {m : ℕ} (w : String) → every usual (put w []) ≡ true → Alike c m 0 (word w)
  unfolding word every
  word-alike S.[] e = finished refl
  word-alike (S.◌∷◌ x w) e = loosely (just-alike x (and_left _ _ e)) then λ _. word-alike w (and_right (usual (code x)) _ e)

  -- White space.
  white : {m : ℕ} → Alike c m 0 (take_while white_space)
  white = taking 0 (λ _. true) (λ at s. run white_space s) (run white_space) whites-both (λ s b. refl) (λ s e. omega arith) (λ at s at' h b. sym b.alike)

  whites : {m : ℕ} → Alike c m 0 whitespace
  whites = white then λ _. finished refl

  pub some_whites : {m : ℕ} → Alike c m 1 some_whitespace
  some_whites =
      record { meets = λ at s at' h l. rw (is at s, is at' (straight s)) (passing.meets at s at' h l) }
    where
      chosen : (t : Bool) (at : ℕ) (s : List ℕ) → pick t (done {A = Unit {0}} tt) fail at s ≡ pick t (read tt at s) rejected
      chosen true at s = refl
      chosen false at s = refl

      is : (at : ℕ) (s : List ℕ) → some_whitespace at s ≡ pick (ltb 0 (run white_space s)) (read tt (at + run white_space s) (drop (run white_space s) s)) rejected
      is at s = chosen (ltb 0 (run white_space s)) (at + run white_space s) (drop (run white_space s) s)

      passing : {m : ℕ} → Alike c {A = Unit {0}} m 1 (λ at s. pick (ltb 0 (run white_space s)) (read tt (at + run white_space s) (drop (run white_space s) s)) rejected)
      passing = taking 1 (λ s. ltb 0 (run white_space s)) (λ at s. tt {0}) (run white_space) whites-both (λ s b. ap (ltb 0) b.alike) (λ s e. ltb-true 0 (run white_space s) e) (λ at s at' h b. refl)

  pub padded-follows : {A : Type 0} {m : ℕ} {R : A → A → Type 0} {p p' : Reader A} → Follows c m 0 R p p' → Follows c m 0 R (padded p) (padded p')
  padded-follows g = whites then λ _. g next λ a a' h. whites then λ _. finished h

  -- Numbers and families.
  pub uint-alike : {m : ℕ} (low high : ℕ) → Alike c m 0 (uint low high)
  unfolding uint
  uint-alike low high =
      taking 0 (λ s. ltb 0 (digit_run s) && between low high (value s)) (λ at s. value s) digit_run digits-both
      (λ s b. rw (same s b, b.alike)) (λ s e. omega arith) (λ at s at' h b. sym (same s b))
    where
      value : List ℕ → ℕ
      value s = decimal 0 (take (digit_run s) s)

      same : (s : List ℕ) → Both digit_run s → value (straight s) ≡ value s
      same s b = rw (b.alike, plain-part (digit_run s) s b.plain)

  pub sint-alike : {m : ℕ} (low high high_negative : ℕ) → Alike c m 0 (sint low high high_negative)
  sint-alike low high high_negative =
      either (loosely (just-alike "-" refl) then λ _. uint-alike low high_negative then λ _. finished refl) (uint-alike low high then λ _. finished refl)

  pub family_text-alike : {m : ℕ} → Alike c m 0 family_text
  family_text-alike =
      taking 0 (λ s. ltb 0 (run is_family_char s)) (λ at s. take (run is_family_char s) s) (run is_family_char) families-both
      (λ s b. ap (ltb 0) b.alike) (λ s e. omega arith)
      (λ at s at' h b. sym (ap (λ (n : ℕ). take n (straight s)) b.alike ∙ plain-part (run is_family_char s) s b.plain))

  -- Lists: Q of both empty lists, and of both lists with one more item. The straight text has fewer bytes, so that less is said to be more than enough.
  module _ {A L : Type 0} {R : A → A → Type 0} {Q : L → L → Type 0} (add : A → L → L) (empty : L)
      (item item' : Reader A) (separator : Reader (Unit {0}))
      (q : Q empty empty) (step : (a a' : A) (l l' : L) → R a a' → Q l l' → Q (add a l) (add a' l'))
      (separators : (m : ℕ) → Alike c m 1 separator) where
    collected : {more more' : Reader L} (m k₁ : ℕ) → Follows c m 0 Q more more' → (at : ℕ) (s : List ℕ) (at' : ℕ) → c.here at s at' →
        length (straight s) < m + k₁ → {r r' : Reading A} → Meets c k₁ (length (straight s)) R r r' →
        Meets c 0 (length (straight s)) Q (collect add empty r more at s) (collect add empty r' more' at' (straight s))
    collected m k₁ g at s at' h l neither = both (record { there = h; rest = refl; fewer = omega arith }) q
    collected m k₁ g at s at' h l (both w r) =
        after 0 0 m (omega arith) l (λ a a' r. g next λ x x' h. finished (step a a' x x' r h)) (both w r)

    next-item : (m : ℕ) → Follows c m 0 R item item' →
        Follows c (suc m) 1 R (λ at s. and_then (separator at s) (λ _. item)) (λ at s. and_then (separator at s) (λ _. item'))
    next-item m g = separators (suc m) past λ _ _ _. g

    -- where nothing is left, no item follows
    more-none : (x : Reader A) (k at : ℕ) (s : List ℕ) → and_then (separator at s) (λ _. x) ≡ rejected → more_of add empty x separator k at s ≡ read empty at s
    unfolding more_of
    more-none x zero at s e = refl
    more-none x (suc k) at s e = rw e

    ended : {l : ℕ} → l < 1 → {r r' : Reading A} → Meets c 1 l R r r' → (r ≡ rejected) × (r' ≡ rejected)
    ended h neither = (refl, refl)
    ended h (both w r) = absurd (omega (arith, w.fewer))

    last : (n k k' : ℕ) → n ≤ 0 → Follows c (suc n) 0 Q (more_of add empty item separator k) (more_of add empty item' separator k')
    last n k k' h = record {
      meets = λ at s at' e l.
          let z = ended (omega arith) ((next-item 0 (record { meets = λ at s at' e l. absurd (omega arith) })).meets at s at' e (omega arith)) in
          rw (more-none item k at s z.0, more-none item' k' at' (straight s) z.1)
          (both (record { there = e; rest = refl; fewer = omega arith }) q);
    }

    abbrev Mores : ℕ → Type 0
    Mores n = (k k' : ℕ) → n ≤ suc k → n ≤ suc k' → Follows c n 0 R item item' → Follows c n 0 Q (more_of add empty item separator k) (more_of add empty item' separator k')

    one_more : (n : ℕ) → Mores n → Mores (suc n)
    unfolding more_of
    one_more n f zero k' h h' g = last n zero k' (omega arith)
    one_more n f (suc k) zero h h' g = last n (suc k) zero (omega arith)
    one_more n f (suc k) (suc k') h h' g = record {
      meets = λ at s at' e l.
          let g' = narrow n (omega arith) g in
          collected n 1 (f k k' (omega arith) (omega arith) g') at s at' e (omega arith) ((next-item n g').meets at s at' e l);
    }

    mores : (n : ℕ) → Mores n
    mores zero k k' h h' g = record { meets = λ at s at' e l. absurd (omega arith) }
    mores (suc n) k k' h h' g = one_more n (mores n) k k' h h' g

    pub separated : {m : ℕ} → Follows c m 0 R item item' → Follows c m 0 Q (separated_by add empty item separator) (separated_by add empty item' separator)
    separated g = record {
      meets = λ at s at' e l.
          let n : ℕ = length (straight s) in
          collected (suc n) 0 (mores (suc n) (length s) n (omega (arith, straight-length 0 s)) (omega arith) (narrow (suc n) (omega arith) g)) at s at' e (omega arith)
          (g.meets at s at' e l);
    }

  -- What stands in braces.
  pub braces-alike : {A : Type 0} {m : ℕ} {item : Reader A} → Alike c m 0 item → Alike c m 0 (braces item)
  braces-alike {A = A} g =
      loosely (just-alike "{" refl)
      then λ _. padded-follows (separated {Q = λ l l'. l ≡ l'} ◌∷◌ [] _ _ _ refl (λ a a' l l' e f. rw (e, f)) (λ m. commas) g)
      then λ _. loosely (just-alike "}" refl)
      then λ _. finished refl
    where
      commas : {m : ℕ} → Alike c m 1 (padded (just ","))
      commas = whites then λ _. just-alike "," refl before λ a. whites then λ _. finished refl

  constraint-alike : {m : ℕ} → Alike c m 0 constraint
  unfolding every
  constraint-alike =
      either (family_text-alike then λ _. padded-follows (word-alike "->" refl) then λ _. family_text-alike then λ _. finished refl)
      (either (family_text-alike then λ _. padded-follows (word-alike "<>" refl) then λ _. family_text-alike then λ _. finished refl)
      (family_text-alike then λ _. finished refl))

  pub set-alike : {m : ℕ} → Alike c m 0 constraint_set
  unfolding constraint_set
  set-alike = braces-alike constraint-alike

  element-alike : {m : ℕ} (hsc1 : Bool) → Alike c m 0 (layer_set_element hsc1)
  unfolding every
  element-alike hsc1 =
      either (sint-alike _ _ _ then λ _. word-alike ".." refl then λ _. sint-alike _ _ _ then λ _. finished refl)
      (either (admitted hsc1 (uint-alike _ _ then λ _. loosely (just-alike "-" refl) then λ _. uint-alike _ _ then λ _. finished refl))
      (sint-alike _ _ _ then λ _. finished refl))

  pub elements-alike : {m : ℕ} (hsc1 : Bool) → Alike c m 0 (layer_set_elements hsc1)
  unfolding layer_set_elements
  elements-alike hsc1 = braces-alike (element-alike hsc1)
