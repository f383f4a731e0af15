-- A tree is well formed clause by clause (`clauses`, crates/notation/specs/Clauses.antt) exactly if it is what packing writes of nodes in
-- bounds (`well_formed`, crates/notation/specs/WellFormed.antt), whatever the text and the tree. Assumes nothing.
use Prim.Native.Nat.{ℕ, ◌*◌, ◌/◌, ◌%◌}
use mathlib.Core.Path.{◌≡◌, refl, sym, ap, ◌∙◌, subst}
use mathlib.Core.Bool.{Bool, true, false}
use mathlib.Core.List.{List, [], ◌∷◌}
use native.Mathlib.Omega.{arith}
use borrow.Author.Tests.{leb-true, le-leb, ltb-true, lt-ltb, eqb-true, eq-eqb}
use lib.Dec.{ltb, lit<}
use lib.ListN.{length}
use Rattle.notation.specs.Basics.{every}
use Rattle.notation.specs.Packed.{RECORD, unpack, size}
use Rattle.notation.specs.WellFormed.{MAX-NESTING, well_formed}
use Rattle.notation.specs.Clauses.{
  Fields,
  fields_of,
  kind_ok,
  unused_ok,
  parts_inside,
  groups_deep,
  layers_in_range,
  multiplier_in_range,
  family_reads,
  parts_read,
  clause_by_clause,
  clauses,
}
use Rattle.numbers.proofs.Positional.{Below, below-nil, below-cons, below-tail}
use Rattle.laws.proofs.Bools.{and_left, and_right}
use Rattle.laws.proofs.Packing.{length-pack, pack-below}
use Rattle.well_formed.specs.Formed.{formed}
use Rattle.well_formed.proofs.Formed.{Formed, formed-fact, fact-formed}
use Rattle.clause_laws.proofs.Rows.{fields-length}
use Rattle.clause_laws.proofs.Written.{◌and◌}
use Rattle.clause_laws.proofs.Lists.{RecordOk, AllOk, ListOk, agree}

bytes_below : (bs : List ℕ) → every (λ b. ltb b 256) bs ≡ true → Below 256 bs
unfolding every
bytes_below [] h = below-nil 256 (lit< tt)
bytes_below (b ∷ bs) h = below-cons 256 b bs (ltb-true b 256 (and_left _ _ h)) (bytes_below bs (and_right (ltb b 256) _ h))

below-bytes : (bs : List ℕ) → Below 256 bs → every (λ b. ltb b 256) bs ≡ true
unfolding every
below-bytes [] h = refl
below-bytes (b ∷ bs) h = lt-ltb b 256 (h.at 0) and below-bytes bs (below-tail h)

-- The seven clauses that ask something of each record.
record Each (text : List ℕ) (rs : List Fields) : Type 0 where
  kinds : every kind_ok rs ≡ true
  unused : every unused_ok rs ≡ true
  inside : every (parts_inside text) rs ≡ true
  layers : every layers_in_range rs ≡ true
  multipliers : every multiplier_in_range rs ≡ true
  families : every (family_reads text) rs ≡ true
  parts : every (parts_read text) rs ≡ true

first_of : {A : Type 0} (p : A → Bool) (a : A) (l : List A) → every p (a ∷ l) ≡ true → p a ≡ true
unfolding every
first_of p a l h = and_left _ _ h

others-of : {A : Type 0} (p : A → Bool) (a : A) (l : List A) → every p (a ∷ l) ≡ true → every p l ≡ true
unfolding every
others-of p a l h = and_right (p a) _ h

each_all : (text : List ℕ) (rs : List Fields) → Each text rs → AllOk text rs
each_all text [] e = tt
each_all text (r ∷ rs) e = (
  record {
    kind_ok_lem = first_of kind_ok r rs e.kinds;
    unused-ok = first_of unused_ok r rs e.unused;
    bounds = record {
      inside-ok = first_of (parts_inside text) r rs e.inside;
      layers-ok = first_of layers_in_range r rs e.layers;
      multiplier-ok = first_of multiplier_in_range r rs e.multipliers;
      family-ok = first_of (family_reads text) r rs e.families;
      parts-ok = first_of (parts_read text) r rs e.parts;
    };
  },
  each_all text rs (record {
    kinds = others-of kind_ok r rs e.kinds;
    unused = others-of unused_ok r rs e.unused;
    inside = others-of (parts_inside text) r rs e.inside;
    layers = others-of layers_in_range r rs e.layers;
    multipliers = others-of multiplier_in_range r rs e.multipliers;
    families = others-of (family_reads text) r rs e.families;
    parts = others-of (parts_read text) r rs e.parts;
  }),
)

-- what holds of each record holds of every one
all-every : (text : List ℕ) (p : Fields → Bool) → ((r : Fields) → RecordOk text r → p r ≡ true) → (rs : List Fields) → AllOk text rs → every p rs ≡ true
unfolding every
all-every text p f [] a = refl
all-every text p f (r ∷ rs) a = f r a.0 and all-every text p f rs a.1

-- Both ways round.
from-clauses : (text tree : List ℕ) → clauses text tree ≡ true → well_formed text tree ≡ true
unfolding well_formed formed clause_by_clause every
from-clauses text tree h =
    let n = length tree / RECORD in
    let rs = fields_of n tree in
    let size : length tree ≡ RECORD * n = omega (arith, eqb-true (length tree % RECORD) 0 (search (and_left, and_right) depth 13)) in
    let e : Each text rs = record {
      kinds = search (and_left, and_right) depth 13;
      unused = search (and_left, and_right) depth 13;
      inside = search (and_left, and_right) depth 13;
      layers = search (and_left, and_right) depth 13;
      multipliers = search (and_left, and_right) depth 13;
      families = search (and_left, and_right) depth 13;
      parts = search (and_left, and_right) depth 13;
    } in
    fact-formed text MAX-NESTING tree
    ((agree text (length rs) n MAX-NESTING tree (omega (arith, fields-length n tree)) size (bytes_below tree (and_left _ _ h))).0
    (record {
      records = each_all text rs e;
      ends = search (and_left, and_right) depth 13;
      deep = leb-true (groups_deep (length rs) rs) MAX-NESTING (search (and_left, and_right) depth 13);
      counted = search (and_left, and_right) depth 13;
    }))

from-packing : (text tree : List ℕ) → well_formed text tree ≡ true → clauses text tree ≡ true
unfolding well_formed formed clause_by_clause every
from-packing text tree h =
    let n = length tree / RECORD in
    let rs = fields_of n tree in
    let f : Formed text MAX-NESTING tree = formed-fact text MAX-NESTING tree h in
    let b : Below 256 tree = subst (Below 256) f.whole (pack-below (unpack tree)) in
    let size : length tree ≡ RECORD * size (unpack tree) = sym (ap length f.whole) ∙ length-pack (unpack tree) in
    let o : ListOk text (length rs) MAX-NESTING rs =
    (agree text (length rs) n MAX-NESTING tree (omega (arith, fields-length n tree)) (omega arith) b).1 f
    in
    let a = o.records in
    let each : (p : Fields → Bool) → ((r : Fields) → RecordOk text r → p r ≡ true) → every p rs ≡ true = λ p q. all-every text p q rs a in
    below-bytes tree b
    and (eq-eqb (length tree % RECORD) 0 (omega arith)
    and (each kind_ok (λ r q. q.kind_ok_lem)
    and (each unused_ok (λ r q. q.unused-ok)
    and (each (parts_inside text) (λ r q. q.bounds.inside-ok)
    and (o.ends
    and (le-leb (groups_deep (length rs) rs) MAX-NESTING o.deep
    and (each layers_in_range (λ r q. q.bounds.layers-ok)
    and (each multiplier_in_range (λ r q. q.bounds.multiplier-ok)
    and (each (family_reads text) (λ r q. q.bounds.family-ok)
    and (each (parts_read text) (λ r q. q.bounds.parts-ok)
    and (o.counted
    and refl)))))))))))

-- two tests that pass together are equal
together : (a b : Bool) → (a ≡ true → b ≡ true) → (b ≡ true → a ≡ true) → a ≡ b
together true b f g = sym (f refl)
together false true f g = g refl
together false false f g = refl

pub same : (text tree : List ℕ) → clauses text tree ≡ well_formed text tree
same text tree = together (clauses text tree) (well_formed text tree) (from-clauses text tree) (from-packing text tree)
