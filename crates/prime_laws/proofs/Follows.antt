-- Two readings at once, of the text as given and of the straight text: both reject, or both read what belongs together and stand at places that
-- belong together. One rule for each way to build a reader. Assumes nothing.
use Prim.Native.Nat.{ℕ, suc, ◌+◌, ◌≤◌, ◌<◌}
use mathlib.Core.Path.{◌≡◌, refl, sym, subst}
use mathlib.Core.Bool.{Bool, true, false}
use mathlib.Core.List.{List}
use native.Mathlib.Omega.{arith}
use lib.ListN.{length, drop, length-drop}
use Rattle.notation.specs.Basics.{pick}
use Rattle.notation.specs.Utf8.{utf8}
use Rattle.notation.specs.Grammar.{Reading, rejected, read, Reader, done, fail, and_then, or_else, ◌or◌, when}
use Rattle.notation.specs.Grammar as G
use Rattle.notation.specs.Primes.{straight}
use Rattle.prime_laws.proofs.Plain.{Plain, plain-inside, plain-rest}
use Rattle.prime_laws.proofs.Fronts.{Both}

-- A statement of places (an offset and the text from there, and the offset in the straight text) that plain bytes keep.
pub record Places : Type 1 where
  pub here : ℕ → List ℕ → ℕ → Type 0
  pub well : (at : ℕ) (s : List ℕ) (at' : ℕ) → here at s at' → utf8 s ≡ true
  pub onward : (at : ℕ) (s : List ℕ) (at' n : ℕ) → here at s at' → Plain n s → here (at + n) (drop n s) (at' + n)

-- where both stand after reading, at least k of l bytes of the straight text taken
pub record Left (c : Places) (k l at : ℕ) (s : List ℕ) (at' : ℕ) (s' : List ℕ) : Type 0 where
  pub there : c.here at s at'
  pub rest : s' ≡ straight s
  pub fewer : length s' + k ≤ l

pub data Meets (c : Places) {A : Type 0} (k l : ℕ) (R : A → A → Type 0) : Reading A → Reading A → Type 0 where
  neither : Meets c k l R rejected rejected
  both : {a a' : A} {at at' : ℕ} {s s' : List ℕ} → Left c k l at s at' s' → R a a' → Meets c k l R (read a at s) (read a' at' s')

-- at places with fewer than m bytes of the straight text left
pub record Follows (c : Places) {A : Type 0} (m k : ℕ) (R : A → A → Type 0) (p p' : Reader A) : Type 0 where
  pub meets : (at : ℕ) (s : List ℕ) (at' : ℕ) → c.here at s at' → length (straight s) < m → Meets c k (length (straight s)) R (p at s) (p' at' (straight s))

module _ {c : Places} where
  -- Rules, one for each way to build a reader.
  pub finished : {A : Type 0} {m : ℕ} {R : A → A → Type 0} {a a' : A} → R a a' → Follows c m 0 R (done a) (done a')
  finished r = record { meets = λ at s at' h l. both (record { there = h; rest = refl; fewer = omega arith }) r }

  pub rejects : {A : Type 0} {m k : ℕ} {R : A → A → Type 0} → Follows c {A = A} m k R fail fail
  rejects = record { meets = λ at s at' h l. neither }

  -- the same of fewer bytes
  pub less : {A : Type 0} {R : A → A → Type 0} {k l : ℕ} (k' l' : ℕ) → l + k' ≤ l' + k → {r r' : Reading A} → Meets c k l R r r' → Meets c k' l' R r r'
  less k' l' h neither = neither
  less k' l' h (both w r) = both (record { there = w.there; rest = w.rest; fewer = omega (arith, w.fewer) }) r

  pub narrow : {A : Type 0} {m k : ℕ} {R : A → A → Type 0} {p p' : Reader A} (m' : ℕ) → m' ≤ m → Follows c m k R p p' → Follows c m' k R p p'
  narrow m' h g = record { meets = λ at s at' e l. g.meets at s at' e (omega arith) }

  pub loosely : {A : Type 0} {m : ℕ} {R : A → A → Type 0} {p p' : Reader A} → Follows c m 1 R p p' → Follows c m 0 R p p'
  loosely g = record { meets = λ at s at' h l. less 0 (length (straight s)) (omega arith) (g.meets at s at' h l) }

  -- one reader after another
  pub after : {A B : Type 0} {R : A → A → Type 0} {Q : B → B → Type 0} {f f' : A → Reader B} {k₁ l : ℕ} (k k₂ m : ℕ) →
      k ≤ k₁ + k₂ → l < m + k₁ → ((a a' : A) → R a a' → Follows c m k₂ Q (f a) (f' a')) →
      {r r' : Reading A} → Meets c k₁ l R r r' → Meets c k l Q (and_then r f) (and_then r' f')
  after k k₂ m h e g neither = neither
  after {Q = Q} {f = f} {f' = f'} {k₁ = k₁} {l = l} k k₂ m h e g (both {a} {a'} {at} {at'} {s} {s'} w r) =
      let n : length (straight s) + k₁ ≤ l = subst (λ (x : List ℕ). length x + k₁ ≤ l) w.rest w.fewer in
      subst (λ (x : List ℕ). Meets c k l Q (f a at s) (f' a' at' x)) (sym w.rest)
      (less k l (omega arith) ((g a a' r).meets at s at' w.there (omega arith)))

  infixr 30 ◌next◌
  pub ◌next◌ : {A B : Type 0} {m k : ℕ} {R : A → A → Type 0} {Q : B → B → Type 0} {p p' : Reader A} {f f' : A → Reader B} →
      Follows c m 0 R p p' → ((a a' : A) → R a a' → Follows c m k Q (f a) (f' a')) → Follows c m k Q (G.◌>>=◌ p f) (G.◌>>=◌ p' f')
  ◌next◌ {m = m} {k = k} g h = record { meets = λ at s at' e l. after k k m (omega arith) (omega arith) h (g.meets at s at' e l) }

  -- the same after one that takes something: fewer bytes are left
  infixr 30 ◌past◌
  pub ◌past◌ : {A B : Type 0} {m : ℕ} {R : A → A → Type 0} {Q : B → B → Type 0} {p p' : Reader A} {f f' : A → Reader B} →
      Follows c (suc m) 1 R p p' → ((a a' : A) → R a a' → Follows c m 0 Q (f a) (f' a')) → Follows c (suc m) 1 Q (G.◌>>=◌ p f) (G.◌>>=◌ p' f')
  ◌past◌ {m = m} g h = record { meets = λ at s at' e l. after 1 0 m (omega arith) (omega arith) h (g.meets at s at' e l) }

  -- one that takes something before another
  infixr 30 ◌before◌
  pub ◌before◌ : {A B : Type 0} {m : ℕ} {Q : B → B → Type 0} {p p' : Reader A} {f f' : A → Reader B} →
      Follows c m 1 (λ a a'. a ≡ a') p p' → ((a : A) → Follows c m 0 Q (f a) (f' a)) → Follows c m 1 Q (G.◌>>=◌ p f) (G.◌>>=◌ p' f')
  ◌before◌ {m = m} {Q = Q} {f = f} {f' = f'} g h = record {
    meets = λ at s at' e l.
        after 1 0 m (omega arith) (omega arith) (λ a a' i. subst (λ x. Follows c m 0 Q (f a) (f' x)) i (h a)) (g.meets at s at' e l);
  }

  -- the same where both read the same
  infixr 30 ◌then◌
  pub ◌then◌ : {A B : Type 0} {m k : ℕ} {Q : B → B → Type 0} {p p' : Reader A} {f f' : A → Reader B} →
      Follows c m 0 (λ a a'. a ≡ a') p p' → ((a : A) → Follows c m k Q (f a) (f' a)) → Follows c m k Q (G.◌>>=◌ p f) (G.◌>>=◌ p' f')
  ◌then◌ {m = m} {k = k} {Q = Q} {f = f} {f' = f'} g h = g next (λ a a' e. subst (λ x. Follows c m k Q (f a) (f' x)) e (h a))

  pub either : {A : Type 0} {m k : ℕ} {R : A → A → Type 0} {p p' q q' : Reader A} →
      Follows c m k R p p' → Follows c m k R q q' → Follows c m k R (p or q) (p' or q')
  either {A = A} {k = k} {R = R} {q = q} {q' = q'} g h = record {
    meets = λ at s at' e l. go (g.meets at s at' e l) (h.meets at s at' e l);
  }
    where
      go : {at : ℕ} {s : List ℕ} {at' : ℕ} {r r' : Reading A} → Meets c k (length (straight s)) R r r' →
          Meets c k (length (straight s)) R (q at s) (q' at' (straight s)) →
          Meets c k (length (straight s)) R (or_else r q at s) (or_else r' q' at' (straight s))
      go neither v = v
      go (both w r) v = both w r

  pub admitted : {A : Type 0} {m k : ℕ} {R : A → A → Type 0} {p p' : Reader A} (b : Bool) → Follows c m k R p p' → Follows c m k R (when b p) (when b p')
  admitted true g = g
  admitted false g = rejects

  -- A front of the text that is the same in both, of at least k bytes where the test lets it pass.
  pub taking : {A : Type 0} {m : ℕ} {R : A → A → Type 0} (k : ℕ) (t : List ℕ → Bool) (a : ℕ → List ℕ → A) (n : List ℕ → ℕ) →
      ((s : List ℕ) → utf8 s ≡ true → Both n s) →
      ((s : List ℕ) → Both n s → t (straight s) ≡ t s) →
      ((s : List ℕ) → t s ≡ true → k ≤ n s) →
      ((at : ℕ) (s : List ℕ) (at' : ℕ) → c.here at s at' → Both n s → R (a at s) (a at' (straight s))) →
      Follows c m k R (λ at s. pick (t s) (read (a at s) (at + n s) (drop (n s) s)) rejected) (λ at s. pick (t s) (read (a at s) (at + n s) (drop (n s) s)) rejected)
  taking {R = R} k t a n fronts same enough related = record {
    meets = λ at s at' h l. let b = fronts s (c.well at s at' h) in
        rw (same s b, b.alike) (go at s at' h b (t s) refl);
  }
    where
      go : (at : ℕ) (s : List ℕ) (at' : ℕ) → c.here at s at' → Both n s → (b : Bool) → t s ≡ b →
          Meets c k (length (straight s)) R (pick b (read (a at s) (at + n s) (drop (n s) s)) rejected)
          (pick b (read (a at' (straight s)) (at' + n s) (drop (n s) (straight s))) rejected)
      go at s at' h b false e = neither
      go at s at' h b true e =
          let within : n s ≤ length (straight s) = plain-inside (n s) s b.plain in
          both
          (record {
            there = c.onward at s at' (n s) h b.plain;
            rest = plain-rest (n s) s b.plain;
            fewer = omega (arith, enough s e, length-drop (n s) (straight s));
          }) (related at s at' h b)
