-- What the inverses come to, said once for both: a refusal is met or the whole tree is written. Assumes nothing.
use Prim.Native.Nat.{ℕ, ◌-◌, ◌*◌, ◌≤◌, ◌<◌}
use mathlib.Core.Path.{◌≡◌, refl, sym, ap, ◌∙◌}
use mathlib.Core.Bool.{Bool, true, false}
use mathlib.Core.List.{List, ◌++◌}
use mathlib.Core.Option.{Option, none, some}
use native.Mathlib.Omega.{arith}
use lib.ListN.{length, drop}
use Rattle.notation.specs.Refusals.{Outcome, refusal, result, ◌>>=◌, NO-ROOM}
use Rattle.notation.specs.Tree.{Tree}
use Rattle.notation.specs.Packed.{RECORD, size, pack, unpack}
use Rattle.notation.specs.Entries.{lend, checked}
use Rattle.laws.proofs.Unrolling.{verdict}
use Rattle.laws.specs.Inverted.{inverted, inv_refusal, deeply, deep_refusal}
use Rattle.laws.proofs.Inverses.{inv-is, inv_deep-is}
use Rattle.laws.proofs.Packing.{length-pack}
use Rattle.laws.proofs.WellFormedInverses.{inverted-size, deeply-size}
use Rattle.laws.specs.Packed.{Packed}
use Rattle.checked.specs.Checked.{Accepted}
use Rattle.entries.specs.Inverses.{refusing, written, ruled}
use Rattle.checked.proofs.Outcomes.{lend-refused, lend-short, lend-fits}

-- An inverse: what refuses it, what it writes, as long as the tree.
pub record Inverting (text tree : List ℕ) (o : Outcome (List ℕ)) (refuses : Option ℕ) (bytes : List ℕ) : Type 0 where
  pub passes : (r : ℕ) → checked text tree ≡ refusal r → o ≡ refusal r
  pub is : checked text tree ≡ result (unpack tree) → o ≡ verdict refuses bytes
  pub long : Packed tree → length bytes ≡ length tree

packs : (q : Option ℕ) (t : Tree) → ◌>>=◌ (verdict q t) (λ t'. result (pack t')) ≡ verdict q (pack t)
packs none t = refl
packs (some r) t = refl

sized : (deep : Bool) (t : Tree) → size (written deep t) ≡ size t
sized true t = deeply-size t
sized false t = inverted-size t

passed : (deep : Bool) (text tree : List ℕ) (r : ℕ) → checked text tree ≡ refusal r → ruled deep text tree ≡ refusal r
passed true text tree r c = rw c
passed false text tree r c = rw c

ruled-is : (deep : Bool) (text tree : List ℕ) → checked text tree ≡ result (unpack tree) → ruled deep text tree ≡ verdict (refusing deep (unpack tree)) (pack (written deep (unpack tree)))
ruled-is true text tree c = rw (c, inv_deep-is (unpack tree)) (packs (deep_refusal (unpack tree)) (deeply (unpack tree)))
ruled-is false text tree c = rw (c, inv-is (unpack tree)) (packs (inv_refusal (unpack tree)) (inverted (unpack tree)))

pub inverting : (deep : Bool) (text tree : List ℕ) → Inverting text tree (ruled deep text tree) (refusing deep (unpack tree)) (pack (written deep (unpack tree)))
inverting deep text tree =
    record {
      passes = passed deep text tree;
      is = ruled-is deep text tree;
      long = λ p. length-pack (written deep (unpack tree)) ∙ ap (λ (k : ℕ). RECORD * k) (sized deep (unpack tree)) ∙ sym (length-pack (unpack tree)) ∙ ap length p.whole;
    }

-- The ways out of an inverse.
module _ {text tree : List ℕ} {o : Outcome (List ℕ)} {refuses : Option ℕ} {bytes : List ℕ} (i : Inverting text tree o refuses bytes) (buffer : List ℕ) where
  pub inverse-refused : Accepted text tree → (r : ℕ) → some r ≡ refuses → record { answer = refusal r; buffer = buffer } ≡ lend o buffer
  inverse-refused s r e = lend-refused o buffer r (i.is s.is ∙ ap (λ (q : Option ℕ). verdict q bytes) (sym e))

  module _ (s : Accepted text tree) (e : none ≡ refuses) where
    given : o ≡ result bytes
    given = i.is s.is ∙ ap (λ (q : Option ℕ). verdict q bytes) (sym e)

    pub inverse-short : length buffer < length tree → record { answer = refusal NO-ROOM; buffer = buffer } ≡ lend o buffer
    inverse-short h = lend-short o buffer bytes given (let l = i.long s.packed in omega arith)

    pub inverse-written : length tree ≤ length buffer → (written : List ℕ) → written ≡ bytes →
        record { answer = result (length tree); buffer = written ++ drop (length tree - 0) buffer } ≡ lend o buffer
    inverse-written h written w =
        let l = i.long s.packed in
        let z : length tree - 0 ≡ length tree = omega arith in
        rw (z, w, sym l) (lend-fits o buffer bytes given (omega arith))
