-- A group's contents made whole: the lists of a commutator or a conjugate followed by their inverses, and turned round where they are inverted. Assumes nothing.
use Prim.Native.Nat.{ℕ, ◌+◌, ◌-◌, ◌*◌, ◌≤◌}
use mathlib.Core.Path.{◌≡◌, refl, sym, ap, ap₂, ◌∙◌, subst}
use mathlib.Core.Bool.{Bool, true, false}
use mathlib.Core.List.{List, [], ◌++◌, append_assoc, append-nil}
use native.Mathlib.Omega.{arith}
use borrow.Rule.Slice.PartMut.{put_mid}
use lib.ListN.{length, take, drop, length-append, length-drop, take-append-drop}
use lib.Seq.{take_at, take_all, take-add, take-append-add, length-take-le}
use Rattle.notation.specs.Packed.{RECORD}
use Rattle.notation.specs.Entries.{records}
use Rattle.notation.specs.Unroll.{copies}
use Rattle.laws.specs.Unrolled.{backwards}
use Rattle.laws.proofs.Unrolling.{long-backwards}
use Rattle.notation.specs.Counts.{count_binary}
use Rattle.notation.specs.declared.common.BinaryGroupKind.TheVariants.{Commutator}
use Rattle.expand.specs.Meaning.{binary_kind}
use Rattle.nodes.specs.Nodes.{part}
use Rattle.expand.specs.Steps.{as_steps, AreSteps, WroteSteps, either, completed, BothLists, Front}
use Rattle.expand.proofs.Parts.{Three, the-part, put-part}
use Rattle.expand.proofs.Steps.{length-records, records-append}

-- what `repeat` leaves of s
abbrev pub Repeated : List ℕ → ℕ → ℕ → List ℕ → Type 0
Repeated s size total s₁ = (n : ℕ) → total ≤ n * size → s₁ ≡ take total (copies n (take size s)) ++ drop total s

-- what `turn` leaves of x
abbrev Backward : List ℕ → List ℕ
Backward x = records (backwards (as_steps x))

as_steps-long : {x : List ℕ} → AreSteps x → RECORD * length (as_steps x) ≡ length x
as_steps-long {x} h = sym (length-records (as_steps x)) ∙ ap length h.bytes

backward-long : {x : List ℕ} → AreSteps x → length (Backward x) ≡ length x
backward-long {x} h = length-records (backwards (as_steps x)) ∙ ap (λ (n : ℕ). RECORD * n) (long-backwards (as_steps x)) ∙ as_steps-long h

module _ {s : List ℕ} {k : Bool} {a b : ℕ} (p : BothLists s k a b) where
  -- the bytes of both lists
  abbrev x : List ℕ
  x = take a s

  abbrev y : List ℕ
  y = take b (drop a s)

  pub third-room : a + b + a ≤ length s
  third-room = go k p.room
    where
      go : (k : Bool) → count_binary (binary_kind k) a b ≤ length s → a + b + a ≤ length s
      go true h = omega arith
      go false h = omega arith

  pub total-room : k ≡ true → a + b + (a + b) ≤ length s
  total-room e = let h : count_binary Commutator a b ≤ length s = rw e at p.room in omega arith

  long-x : length x ≡ a
  long-x = length-take-le a s (omega (arith, third-room))

  long-y : length y ≡ b
  long-y = length-take-le b (drop a s) (omega (arith, third-room, length-drop a s))

  long-xy : length (x ++ y) ≡ a + b
  long-xy = length-append x y ∙ omega (arith, long-x, long-y)

  -- A and B once more, or A alone
  pub twice : {s₁ : List ℕ} → Repeated s (a + b) (a + b + (a + b)) s₁ → Three s₁ (x ++ y) x (y ++ drop (a + b + (a + b)) s) (a + b) (a + b + a)
  unfolding copies
  twice r =
      record {
        bytes = r 2 (omega arith)
            ∙ ap (λ (u : List ℕ). take (a + b + (a + b)) (u ++ (u ++ [])) ++ drop (a + b + (a + b)) s) (take-add a b s)
            ∙ ap (λ (u : List ℕ). u ++ drop (a + b + (a + b)) s)
            (take_all (a + b + (a + b)) ((x ++ y) ++ ((x ++ y) ++ [])) (omega (arith, length-append (x ++ y) ((x ++ y) ++ []), ap length (append-nil (x ++ y)), long-xy)))
            ∙ simp (append_assoc, append-nil);
        start = long-xy;
        end = ap (λ (n : ℕ). a + b + n) long-x;
      }

  pub once : {s₁ : List ℕ} → Repeated s (a + b) (a + b + a) s₁ → Three s₁ (x ++ y) x (drop (a + b + a) s) (a + b) (a + b + a)
  unfolding copies
  once r =
      record {
        bytes = r 2 (omega arith)
            ∙ ap (λ (u : List ℕ). take (a + b + a) (u ++ (u ++ [])) ++ drop (a + b + a) s) (take-add a b s)
            ∙ ap (λ (u : List ℕ). u ++ drop (a + b + a) s)
            (ap (λ (n : ℕ). take (n + a) ((x ++ y) ++ ((x ++ y) ++ []))) (sym long-xy) ∙ take-append-add (x ++ y) ((x ++ y) ++ []) a
            ∙ ap (λ (u : List ℕ). (x ++ y) ++ take a u) (append-nil (x ++ y)) ∙ ap (λ (u : List ℕ). (x ++ y) ++ u) (take_at x y a long-x))
            ∙ append_assoc (x ++ y) x (drop (a + b + a) s);
        start = long-xy;
        end = ap (λ (n : ℕ). a + b + n) long-x;
      }

  pub first-as_steps : {s₁ q : List ℕ} → Three s₁ (x ++ y) x q (a + b) (a + b + a) → AreSteps (part (a + b) (a + b + a) s₁)
  first-as_steps t = subst AreSteps (sym (the-part t)) p.first

  -- of a commutator, once A is turned, B is next
  pub second-of : {s₁ z : List ℕ} → Three s₁ (x ++ y) x (y ++ drop (a + b + (a + b)) s) (a + b) (a + b + a) → z ≡ Backward (part (a + b) (a + b + a) s₁) →
      Three (put_mid (a + b) (a + b + a - (a + b)) s₁ z) ((x ++ y) ++ Backward x) y (drop (a + b + (a + b)) s) (a + b + a) (a + b + (a + b))
  second-of {s₁} {z} t e =
      record {
        bytes = put-part t z ∙ ap (λ (u : List ℕ). (x ++ y) ++ (u ++ (y ++ drop (a + b + (a + b)) s))) (e ∙ ap Backward (the-part t))
            ∙ sym (append_assoc (x ++ y) (Backward x) (y ++ drop (a + b + (a + b)) s));
        start = length-append (x ++ y) (Backward x) ∙ omega (arith, long-xy, backward-long p.first, long-x);
        end = omega (arith, long-y);
      }

  pub second-as_steps : {s₂ f q : List ℕ} → Three s₂ f y q (a + b + a) (a + b + (a + b)) → AreSteps (part (a + b + a) (a + b + (a + b)) s₂)
  second-as_steps t = subst AreSteps (sym (the-part t)) p.second

  sizes : (RECORD * length (as_steps x) ≡ a) × (RECORD * length (as_steps y) ≡ b)
  sizes = (as_steps-long p.first ∙ long-x, as_steps-long p.second ∙ long-y)

  pub commutator-written : k ≡ true → {s₂ z : List ℕ} → Three s₂ ((x ++ y) ++ Backward x) y (drop (a + b + (a + b)) s) (a + b + a) (a + b + (a + b)) →
      z ≡ Backward (part (a + b + a) (a + b + (a + b)) s₂) →
      WroteSteps s (put_mid (a + b + a) (a + b + (a + b) - (a + b + a)) s₂ z) (completed k (as_steps x) (as_steps y)) (a + b + (a + b))
  commutator-written h {s₂} {z} t e =
      rw h (record {
        size = let u = length-append (as_steps x) (as_steps y ++ (backwards (as_steps x) ++ backwards (as_steps y))) in let u' = length-append (as_steps y) (backwards (as_steps x) ++ backwards (as_steps y)) in
            omega (arith, length-append (backwards (as_steps x)) (backwards (as_steps y)), long-backwards (as_steps x), long-backwards (as_steps y), sizes);
        bytes = put-part t z ∙ ap (λ (u : List ℕ). ((x ++ y) ++ Backward x) ++ (u ++ drop (a + b + (a + b)) s)) (e ∙ ap Backward (the-part t))
            ∙ ap₂ (λ (u v : List ℕ). ((u ++ v) ++ Backward x) ++ (Backward y ++ drop (a + b + (a + b)) s)) (sym p.first.bytes) (sym p.second.bytes)
            ∙ simp (records-append, append_assoc);
      })

  pub conjugate-written : k ≡ false → {s₁ z : List ℕ} → Three s₁ (x ++ y) x (drop (a + b + a) s) (a + b) (a + b + a) → z ≡ Backward (part (a + b) (a + b + a) s₁) →
      WroteSteps s (put_mid (a + b) (a + b + a - (a + b)) s₁ z) (completed k (as_steps x) (as_steps y)) (a + b + a)
  conjugate-written h {s₁} {z} t e =
      rw h (record {
        size = let u = length-append (as_steps x) (as_steps y ++ backwards (as_steps x)) in
            omega (arith, length-append (as_steps y) (backwards (as_steps x)), long-backwards (as_steps x), sizes);
        bytes = put-part t z ∙ ap (λ (u : List ℕ). (x ++ y) ++ (u ++ drop (a + b + a) s)) (e ∙ ap Backward (the-part t))
            ∙ ap₂ (λ (u v : List ℕ). (u ++ v) ++ (Backward x ++ drop (a + b + a) s)) (sym p.first.bytes) (sym p.second.bytes)
            ∙ simp (records-append, append_assoc);
      })

-- The steps in the first bytes, turned round or not.
module _ {s : List ℕ} {size : ℕ} (r : Front s size) where
  long-front : length (take size s) ≡ size
  long-front = length-take-le size s r.within

  contents-long : RECORD * length (as_steps (take size s)) ≡ size
  contents-long = as_steps-long r.contents ∙ long-front

  contents : Three s [] (take size s) (drop size s) 0 size
  contents = record { bytes = sym (take-append-drop size s); start = refl; end = omega (arith, long-front) }

  pub contents-as_steps : AreSteps (part 0 size s)
  contents-as_steps = subst AreSteps (sym (the-part contents)) r.contents

  pub turned-written : {d : Bool} {y : List ℕ} → d ≡ true → y ≡ Backward (part 0 size s) → WroteSteps s (put_mid 0 (size - 0) s y) (either (as_steps (take size s)) d) size
  turned-written {d} {y} e h =
      rw e (record {
        size = sym (ap (λ (n : ℕ). RECORD * n) (long-backwards (as_steps (take size s))) ∙ contents-long);
        bytes = put-part contents y ∙ ap (λ (z : List ℕ). z ++ drop size s) (h ∙ ap Backward (the-part contents));
      })

  pub kept-written : {d : Bool} → d ≡ false → WroteSteps s s (either (as_steps (take size s)) d) size
  kept-written e = rw e (record { size = sym contents-long; bytes = contents.bytes ∙ ap (λ (z : List ℕ). z ++ drop size s) (sym r.contents.bytes) })
