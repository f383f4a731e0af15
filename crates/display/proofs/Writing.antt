-- Printers one after the other: writing one thing and then another writes both. Assumes nothing.
use Prim.Native.Nat.{ℕ, ◌+◌, ◌≤◌, ◌<◌}
use mathlib.Core.Path.{◌≡◌, refl, sym, ap, ◌∙◌}
use mathlib.Core.List.{List, [], ◌++◌, append_assoc}
use native.Mathlib.Numerals.{add-one}
use native.Mathlib.Omega.{arith}
use lib.ListN.{length, get_or, take, drop, set, length-set, length-append, take-append-drop}
use lib.Seq.{take_at, drop_at, drop-drop, length-take-le, paste, paste-suc}
use Rattle.display.specs.Written.{MOST, Wrote}
use Rattle.display.specs.declared.write.Printer.{Printer}

-- nothing
pub wrote_none : (p : Printer) → Wrote p p (λ rest. rest)
wrote_none p =
    record {
      same = refl;
      adds = λ rest. refl;
      counts = omega (arith, p.in_range);
      long = refl;
      stands = λ _ _. let e : p.at + 0 ≡ p.at = omega arith in rw e (sym (take-append-drop p.at p.out.now));
    }

module _ {old mid new : Printer} {f g : List ℕ → List ℕ} (w : Wrote old mid f) (v : Wrote mid new g) where
  both : f (g []) ≡ f [] ++ g []
  both = w.adds (g [])

  both-length : length (f (g [])) ≡ length (f []) + length (g [])
  both-length = ap length both ∙ length-append (f []) (g [])

  both-adds : (rest : List ℕ) → f (g rest) ≡ f (g []) ++ rest
  both-adds rest =
      w.adds (g rest)
      ∙ ap (λ (l : List ℕ). f [] ++ l) (v.adds rest)
      ∙ sym (append_assoc (f []) (g []) rest)
      ∙ ap (λ (l : List ℕ). l ++ rest) (sym both)

  module _ (h : old.at + length (f (g [])) ≤ length old.out.now) (s : length old.out.now < MOST) where
    place : mid.at ≡ old.at + length (f [])
    place = omega (arith, both-length, w.counts)

    head : List ℕ
    head = take old.at old.out.now ++ f []

    middle : mid.out.now ≡ head ++ drop mid.at old.out.now
    unfolding head
    middle =
        w.stands (omega (arith, both-length)) s
        ∙ ap (λ (l : List ℕ). take old.at old.out.now ++ l) (w.adds (drop (old.at + length (f [])) old.out.now))
        ∙ sym (append_assoc (take old.at old.out.now) (f []) (drop (old.at + length (f [])) old.out.now))
        ∙ ap (λ (n : ℕ). (take old.at old.out.now ++ f []) ++ drop n old.out.now) (sym place)

    head-length : length head ≡ mid.at
    unfolding head
    head-length =
        omega (arith, length-append (take old.at old.out.now) (f []), length-take-le old.at old.out.now (omega (arith, both-length)), place)

    front : take mid.at mid.out.now ≡ head
    front = ap (take mid.at) middle ∙ take_at head (drop mid.at old.out.now) mid.at head-length

    total : mid.at + length (g []) ≡ old.at + length (f (g []))
    total = omega (arith, place, both-length)

    after : drop (mid.at + length (g [])) mid.out.now ≡ drop (old.at + length (f (g []))) old.out.now
    after =
        sym (drop-drop (length (g [])) mid.at mid.out.now)
        ∙ ap (drop (length (g []))) (ap (drop mid.at) middle ∙ drop_at head (drop mid.at old.out.now) mid.at head-length)
        ∙ drop-drop (length (g [])) mid.at old.out.now
        ∙ ap (λ (n : ℕ). drop n old.out.now) total

    both-stand : new.out.now ≡ take old.at old.out.now ++ f (g (drop (old.at + length (f (g []))) old.out.now))
    unfolding head
    both-stand =
        v.stands (omega (arith, both-length, place, w.long)) (omega (arith, w.long))
        ∙ ap (λ (l : List ℕ). l ++ g (drop (mid.at + length (g [])) mid.out.now)) front
        ∙ ap (λ (l : List ℕ). (take old.at old.out.now ++ f []) ++ g l) after
        ∙ append_assoc (take old.at old.out.now) (f []) (g (drop (old.at + length (f (g []))) old.out.now))
        ∙ ap (λ (l : List ℕ). take old.at old.out.now ++ l) (sym (w.adds (g (drop (old.at + length (f (g []))) old.out.now))))

  -- one thing and then another
  pub wrote_then : Wrote old new (λ rest. f (g rest))
  wrote_then =
      record {
        same = v.same ∙ w.same;
        adds = both-adds;
        counts = omega (arith, both-length, w.counts, v.counts);
        long = v.long ∙ w.long;
        stands = both-stand;
      }

-- the same told of another printer
pub wrote_as : {old new : Printer} {f : List ℕ → List ℕ} (g : List ℕ → List ℕ) → ((rest : List ℕ) → f rest ≡ g rest) → Wrote old new f → Wrote old new g
wrote_as {old} {new} {f} g e w =
    record {
      same = w.same;
      adds = λ rest. sym (e rest) ∙ w.adds rest ∙ ap (λ (l : List ℕ). l ++ rest) (e []);
      counts = rw (← e []) w.counts;
      long = w.long;
      stands = rw (← e []) (λ h b. w.stands h b ∙ ap (λ (l : List ℕ). take old.at old.out.now ++ l) (e (drop (old.at + length (f [])) old.out.now)));
    }

-- the loop that copies some bytes, `lib.Seq`'s `paste` of those before place i
pub record Copied (old : List ℕ) (at : ℕ) (bytes out : List ℕ) (i : ℕ) : Type 0 where
  pub room : at + length bytes ≤ length old
  pub long : length out ≡ length old
  pub stands : out ≡ paste old at bytes i

module _ {old : List ℕ} {at : ℕ} {bytes out : List ℕ} {i : ℕ} (w : Copied old at bytes out i) where
  pub copied-one : i < length bytes → Copied old at bytes (set out (at + i) (get_or bytes i 0)) (i + 1)
  copied-one h =
      record {
        room = w.room;
        long = length-set out (at + i) (get_or bytes i 0) ∙ w.long;
        stands = rw (w.stands, add-one i) (paste-suc old at bytes i 0 (omega (arith, w.room)) h);
      }

-- what stands in the end
pub wrote-whole : {old new : Printer} {f : List ℕ → List ℕ} → Wrote old new f → old.at ≡ 0 → length old.out.now < MOST → length (f []) ≤ length old.out.now →
    new.out.now ≡ f [] ++ drop (length (f [])) old.out.now
wrote-whole {old} {new} {f} w z b h =
    let e : old.at + length (f []) ≡ length (f []) = omega arith in
    w.stands (omega arith) b
    ∙ ap (λ (n : ℕ). take n old.out.now ++ f (drop (old.at + length (f [])) old.out.now)) z
    ∙ ap (λ (n : ℕ). f (drop n old.out.now)) e
    ∙ w.adds (drop (length (f [])) old.out.now)
