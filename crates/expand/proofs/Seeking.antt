-- Seeking: what each turn of the loop leaves of the step sought. Assumes nothing.
use Prim.Native.Nat.{ℕ, zero, suc, ◌+◌, ◌-◌, ◌*◌, ◌/◌, ◌%◌, ◌≤◌, ◌<◌}
use mathlib.Core.Path.{◌≡◌, refl, sym, ap, ap₂, ◌∙◌}
use mathlib.Core.Bool.{Bool, true, false, not}
use mathlib.Core.List.{List, [], ◌∷◌, ◌++◌}
use mathlib.Core.Option.{Option, some}
use native.Mathlib.Nat.{mod-lt, mul-div_cancel_left}
use native.Mathlib.Omega.{arith}
use lib.Dec.{eqb}
use lib.IntN.{ℤ, pos, negsuc, nat_abs}
use lib.ListN.{length, drop, get_elem?}
use Rattle.notation.specs.Basics.{pick}
use Rattle.notation.specs.Numbers.{from_bits}
use Rattle.notation.specs.Tree.{Leaf, Node, block, Body, group, binary_group, Tree}
use Rattle.notation.specs.Packed.{RECORD, leaf_record, pack_node, unpack}
use Rattle.notation.specs.Invert.{undo}
use Rattle.notation.specs.Unroll.{turned}
use Rattle.notation.specs.Counts.{count_binary, count_node, count_body, count}
use Rattle.notation.specs.Entries.{MAX-STEPS}
use Rattle.notation.specs.declared.common.BinaryGroupKind.{BinaryGroupKind}
use Rattle.notation.specs.declared.common.BinaryGroupKind.TheVariants.{Commutator, Conjugate}
use Rattle.numbers.specs.Sign.{is_negative}
use Rattle.record.specs.Meaning.{field, kind_at, NUMBER}
use Rattle.record.specs.Undone.{StartsRecord}
use Rattle.record.proofs.Undoing.{Undone}
use Rattle.laws.specs.Packed.{FitsNode}
use Rattle.laws.specs.Packed.{Packed}
use Rattle.laws.proofs.Walking.{no_node}
use Rattle.laws.proofs.ListEntries.{get-append-left, get-append-right}
use Rattle.laws.specs.Unrolled.{flat_node, flat_body, flat}
use Rattle.laws.proofs.Counting.{count_node-is}
use Rattle.laws.specs.Unrolled.{undo_if}
use Rattle.laws.proofs.Seeking.{undo-again, in_repeat, from_end, in-A, in-B, in-A', in-B'}
use Rattle.expand.specs.Meaning.{binary_kind}
use Rattle.expand.specs.Steps.{Undoable, IsGroup, body_of}
use Rattle.expand.specs.Places.{step_in, found, Has, Sought}
use Rattle.nodes.specs.Nodes.{IsNode, part, FirstNode, Lists}
use Rattle.nodes.proofs.Nodes.{record-room, node-packed, FirstLeaf, leaf-node}
use Rattle.expand.proofs.Shapes.{Shape, shape_of, at_least, positive-right, both-within, block-is, group-body, binary-body, steps-are, repeats-some, first_counted, leaf-steps, one-count, one-flat}
use Rattle.expand.proofs.Steps.{fits-undoable}
use Rattle.expand.proofs.Undoing.{step-starts, step-undone}

-- a list that has a step has a record
pub some-record : {list : List ℕ} {place : ℕ} → Has list place → 0 < length list
unfolding count
some-record {list} {place} h = go (length list) refl
  where
    go : (n : ℕ) → length list ≡ n → 0 < n
    go zero e = absurd (let z = ap count (no_node list h.packed e) in omega (arith, h.below))
    go (suc n) e = omega arith

pub room : {list : List ℕ} {place : ℕ} → Has list place → RECORD ≤ length list
room {list} h = record-room list h.packed (some-record h)

pub sought-itself : (list : List ℕ) (place : ℕ) (inverted : Bool) → Has list place → Sought (undo_if inverted (step_in list place)) list place inverted
sought-itself list place inverted h = record { has = h; step = refl }

negative-turns : (m : ℤ) → is_negative m ≡ turned m false
negative-turns (pos n) = refl
negative-turns (negsuc n) = refl

-- What the first node leaves: its steps are passed, or the step sought is one of them.
module _ {o : Option Leaf} {rest : List ℕ} {remaining e steps : ℕ} {inverted : Bool} (s : Sought o rest remaining inverted) (f : FirstNode rest e) (exact : steps ≡ count_node f.node) where
  long : length (flat_node undo false f.node) ≡ steps
  long = count_node-is f.node false ∙ sym exact

  unrolled : flat undo false (unpack rest) ≡ flat_node undo false f.node ++ flat undo false (unpack (part e (length rest) rest))
  unfolding flat
  unrolled = ap (flat undo false) f.unpacks

  pub sought-past : steps ≤ remaining → Sought o (part e (length rest) rest) (remaining - steps) inverted
  sought-past h =
      record {
        has = record {
          packed = f.packed_rest;
          below = omega (arith, first_counted f, s.has.below);
          few = omega (arith, first_counted f, s.has.few);
        };
        step = s.step ∙ ap (undo_if inverted) (ap (λ (l : List Leaf). get_elem? l remaining) unrolled
            ∙ get-append-right (flat_node undo false f.node) _ remaining (omega (arith, long)) ∙ ap (λ (n : ℕ). step_in (part e (length rest) rest) (remaining - n)) long);
      }

  in-node : remaining < steps → o ≡ undo_if inverted (get_elem? (flat_node undo false f.node) remaining)
  in-node h =
      s.step ∙ ap (undo_if inverted) (ap (λ (l : List Leaf). get_elem? l remaining) unrolled
      ∙ get-append-left (flat_node undo false f.node) _ remaining (omega (arith, long)))

-- a leaf is the step, undone or not
pub leaf-step : {rest : List ℕ} (l : FirstLeaf rest) → Undoable l.step × (part 0 RECORD rest ≡ leaf_record l.step)
unfolding pack_node FitsNode
leaf-step l = (fits-undoable l.step (leaf-node l).fits, sym (leaf-node l).bytes)

pub found-leaf : {o : Option Leaf} {rest : List ℕ} {remaining : ℕ} {inverted : Bool} → Sought o rest remaining inverted → (l : FirstLeaf rest) → remaining ≡ 0 → (step : List ℕ) {now step' : List ℕ} → now ≡ step →
    ((x : Leaf) → Undoable x → part 0 RECORD rest ≡ leaf_record x → step' ≡ leaf_record (pick inverted (undo x) x) ++ drop RECORD now) →
    step' ≡ found o ++ drop RECORD step
unfolding flat_node
found-leaf {o} {rest} {remaining} {inverted} s l z step w c =
    c x (leaf-step l).0 (leaf-step l).1
    ∙ ap (λ (y : List ℕ). leaf_record (pick inverted (undo x) x) ++ drop RECORD y) w
    ∙ ap (λ (o : Option Leaf). found o ++ drop RECORD step) (sym (in-node s l.first (leaf-steps l) (omega arith) ∙ ap (undo_if inverted) here))
  where
    x : Leaf
    x = l.step

    here : get_elem? (flat_node undo false l.first.node) remaining ≡ some x
    here = ap (λ (n : Node Leaf). get_elem? (flat_node undo false n) remaining) l.is_step ∙ ap (get_elem? (x ∷ [])) z

-- a group's bytes are a list of their own
pub sought-within : {o : Option Leaf} {rest : List ℕ} {remaining e steps : ℕ} {inverted : Bool} → Sought o rest remaining inverted → (f : FirstNode rest e) → steps ≡ count_node f.node → remaining < steps →
    Sought o (part 0 e rest) remaining inverted
sought-within {remaining = remaining} {inverted = inverted} s f exact h =
    record {
      has = record { packed = node-packed f.is_node; below = omega (arith, one-count f.is_node); few = omega (arith, one-count f.is_node, first_counted f, s.has.few) };
      step = in-node s f exact h ∙ ap (undo_if inverted) (ap (λ (l : List Leaf). get_elem? l remaining) (sym (one-flat f.is_node)));
    }

-- A group that has the step sought, by its bytes, its kind k and its multiplier's bits m.
pub record Group (o : Option Leaf) (bs : List ℕ) (k m steps remaining : ℕ) (inverted : Bool) : Type 0 where
  pub node : Node Leaf
  pub is_node : IsNode bs node
  pub shape : Shape k (from_bits 32 m) node
  pub low : k ≤ 5
  pub counts : steps ≡ count_node node
  pub below : remaining < steps
  pub few : steps ≤ MAX-STEPS
  pub step : o ≡ undo_if inverted (get_elem? (flat_node undo false node) remaining)

pub in_group : {o : Option Leaf} {bs : List ℕ} {remaining k m steps : ℕ} {inverted : Bool} → IsGroup bs → steps ≡ count (unpack bs) → k ≡ kind_at bs → m ≡ field NUMBER bs →
    Sought o bs remaining inverted → Group o bs k m steps remaining inverted
in_group {remaining = remaining} {inverted = inverted} g c p n s =
    record {
      node = g.node;
      is_node = g.is_node;
      shape = rw (p, n) (shape_of g.is_node);
      low = omega (arith, g.low);
      counts = c ∙ one-count g.is_node;
      below = omega (arith, s.has.below);
      few = omega (arith, s.has.few);
      step = s.step ∙ ap (undo_if inverted) (ap (λ (l : List Leaf). get_elem? l remaining) (one-flat g.is_node));
    }

-- The same in one repeat of it, forward, which has so many steps.
pub record Repeat (o : Option Leaf) (bs : List ℕ) (k once remaining : ℕ) (inverted : Bool) : Type 0 where
  pub node : Node Leaf
  pub multiplier : ℤ
  pub is_node : IsNode bs node
  pub shape : Shape k multiplier node
  pub low : k ≤ 5
  pub counts : once ≡ count_body (body_of node)
  pub below : remaining < once
  pub few : once ≤ MAX-STEPS
  pub step : o ≡ undo_if inverted (get_elem? (flat_body undo false (body_of node)) remaining)

pub at_place : {o : Option Leaf} {bs : List ℕ} {k once r r' : ℕ} {d d' : Bool} → Repeat o bs k once r d → r' ≡ r → d' ≡ d → Repeat o bs k once r' d'
at_place x p q = rw (p, q) x

module _ {o : Option Leaf} {bs : List ℕ} {k m steps remaining : ℕ} {inverted : Bool} (g : Group o bs k m steps remaining inverted) {repeats : ℕ} (t : repeats ≡ nat_abs (from_bits 32 m)) where
  node-some : 0 < count_node g.node
  node-some = omega (arith, g.counts, g.below)

  steps-repeat : steps ≡ repeats * count_body (body_of g.node)
  steps-repeat = g.counts ∙ steps-are g.shape g.low node-some ∙ ap (λ (z : ℕ). z * count_body (body_of g.node)) (sym t)

  pub repeats-one : 0 < repeats
  repeats-one = omega (arith, repeats-some g.shape g.low node-some)

  once-counts : steps / repeats ≡ count_body (body_of g.node)
  once-counts = ap (λ (z : ℕ). z / repeats) steps-repeat ∙ mul-div_cancel_left (count_body (body_of g.node)) repeats-one

  pub once-some : 0 < steps / repeats
  once-some = omega (arith, once-counts, positive-right repeats (count_body (body_of g.node)) remaining (omega (arith, steps-repeat, g.below)))

  pub within-once : remaining % (steps / repeats) < steps / repeats
  within-once = mod-lt remaining once-some

  once-few : steps / repeats ≤ MAX-STEPS
  once-few = omega (arith, once-counts, at_least repeats (count_body (body_of g.node)) repeats-one, steps-repeat, g.few)

  played : o ≡ undo_if inverted (get_elem? (flat_body undo (turned (from_bits 32 m) false) (body_of g.node)) (remaining % (steps / repeats)))
  played =
      g.step
      ∙ ap (λ (n : Node Leaf). undo_if inverted (get_elem? (flat_node undo false n) remaining)) is
      ∙ ap (undo_if inverted) (in_repeat (body_of g.node) (from_bits 32 m) remaining (omega (arith, g.counts, g.below, ap count_node is)))
      ∙ ap (λ (c : ℕ). undo_if inverted (get_elem? (flat_body undo (turned (from_bits 32 m) false) (body_of g.node)) (remaining % c))) (sym once-counts)
    where
      is : g.node ≡ block (body_of g.node) (from_bits 32 m)
      is = block-is g.shape g.low

  one-repeat : {at : ℕ} {d : Bool} → at < steps / repeats → o ≡ undo_if d (get_elem? (flat_body undo false (body_of g.node)) at) → Repeat o bs k (steps / repeats) at d
  one-repeat h p =
      record { node = g.node; multiplier = from_bits 32 m; is_node = g.is_node; shape = g.shape; low = g.low; counts = once-counts; below = h; few = once-few; step = p }

  -- a negative multiplier plays a repeat from its end, undone
  pub forward : is_negative (from_bits 32 m) ≡ false → Repeat o bs k (steps / repeats) (remaining % (steps / repeats)) inverted
  forward p = one-repeat within-once (played ∙ ap (λ (d : Bool). undo_if inverted (get_elem? (flat_body undo d (body_of g.node)) (remaining % (steps / repeats)))) (sym (negative-turns (from_bits 32 m)) ∙ p))

  pub from-the-end : is_negative (from_bits 32 m) ≡ true → Repeat o bs k (steps / repeats) (steps / repeats - 1 - remaining % (steps / repeats)) (not inverted)
  from-the-end p =
      one-repeat (omega (arith, within-once))
      (played ∙ ap (λ (d : Bool). undo_if inverted (get_elem? (flat_body undo d (body_of g.node)) (remaining % (steps / repeats)))) (sym (negative-turns (from_bits 32 m)) ∙ p)
      ∙ ap (undo_if inverted) (from_end (body_of g.node) (remaining % (steps / repeats)) (omega (arith, within-once, once-counts)))
      ∙ undo-again inverted (get_elem? (flat_body undo false (body_of g.node)) (count_body (body_of g.node) - 1 - remaining % (steps / repeats)))
      ∙ ap (λ (c : ℕ). undo_if (not inverted) (get_elem? (flat_body undo false (body_of g.node)) (c - 1 - remaining % (steps / repeats)))) (sym once-counts))

-- into a list, forward, or from its end and undone
module _ {o : Option Leaf} {bs list : List ℕ} {k once remaining : ℕ} {inverted : Bool} (r : Repeat o bs k once remaining inverted) (packed : Packed list) (few : count (unpack list) ≤ MAX-STEPS) (at : ℕ) (h : at < count (unpack list)) where
  enter : get_elem? (flat_body undo false (body_of r.node)) remaining ≡ step_in list at → Sought o list at inverted
  enter p = record { has = record { packed = packed; below = h; few = few }; step = r.step ∙ ap (undo_if inverted) p }

  enter-undone : get_elem? (flat_body undo false (body_of r.node)) remaining ≡ undo_if true (step_in list at) → Sought o list at (not inverted)
  enter-undone p = record { has = record { packed = packed; below = h; few = few }; step = r.step ∙ ap (undo_if inverted) p ∙ undo-again inverted (step_in list at) }

-- a plain group is its list
pub into-list : {o : Option Leaf} {bs : List ℕ} {k once remaining middle : ℕ} {inverted : Bool} → Repeat o bs k once remaining inverted → k < 4 → Lists bs middle → Sought o (part RECORD middle bs) remaining inverted
unfolding flat_body count_body
into-list {o} {bs} {k} {once} {remaining} {middle} r h l =
    let kind = group-body r.shape h in
    let body : body_of r.node ≡ group kind.0 (unpack (part RECORD middle bs)) = kind.1 ∙ ap (group kind.0) (sym (l.unpacks_first r.node r.is_node)) in
    let all : once ≡ count (unpack (part RECORD middle bs)) = r.counts ∙ ap count_body body in
    enter r l.packed_first (omega (arith, r.few)) remaining (omega (arith, r.below)) (ap (λ (b : Body Leaf). get_elem? (flat_body undo false b) remaining) body)

-- The lists A and B of a commutator or a conjugate, by its bytes: B begins at middle.
abbrev A : List ℕ → ℕ → Tree
A bs middle = unpack (part RECORD middle bs)

abbrev B : List ℕ → ℕ → Tree
B bs middle = unpack (part middle (length bs) bs)

module _ {o : Option Leaf} {bs : List ℕ} {k once remaining middle : ℕ} {inverted : Bool} (r : Repeat o bs k once remaining inverted) (high : 4 ≤ k) (l : Lists bs middle) where
  body : body_of r.node ≡ binary_group (binary_kind (eqb k 4)) (A bs middle) (B bs middle)
  body = binary-body r.shape high r.low ∙ ap₂ (binary_group (binary_kind (eqb k 4))) (sym (l.unpacks_first r.node r.is_node)) (sym (l.unpacks_second r.node r.is_node))

  all : once ≡ count_binary (binary_kind (eqb k 4)) (count (A bs middle)) (count (B bs middle))
  unfolding count_body
  all = r.counts ∙ ap count_body body

  lists-few : count (A bs middle) + count (B bs middle) ≤ once
  lists-few = omega (arith, all, both-within (binary_kind (eqb k 4)) (count (A bs middle)) (count (B bs middle)))

  pub first-few : count (A bs middle) ≤ MAX-STEPS
  first-few = omega (arith, lists-few, r.few)

  pub first_part : {a : ℕ} → a ≡ count (A bs middle) → a ≤ once
  first_part p = omega (arith, lists-few)

-- The same once A and B are counted: A has a steps, both have so many together.
pub record Parts (o : Option Leaf) (bs : List ℕ) (k once middle a both remaining : ℕ) (inverted : Bool) : Type 0 where
  pub whole : Repeat o bs k once remaining inverted
  pub high : 4 ≤ k
  pub lists : Lists bs middle
  pub first : a ≡ count (A bs middle)
  pub together : (b : ℕ) → once ≡ count_binary (binary_kind (eqb k 4)) a b → both ≡ a + b

module _ {o : Option Leaf} {bs : List ℕ} {k once middle a both remaining : ℕ} {inverted : Bool} (p : Parts o bs k once middle a both remaining inverted) where
  abbrev g : BinaryGroupKind
  g = binary_kind (eqb k 4)

  once_is : once ≡ count_binary g a (count (B bs middle))
  once_is = all p.whole p.high p.lists ∙ ap (λ (n : ℕ). count_binary g n (count (B bs middle))) (sym p.first)

  both_is : both ≡ a + count (B bs middle)
  both_is = p.together (count (B bs middle)) once_is

  few : a + count (B bs middle) ≤ once
  few = omega (arith, p.first, lists-few p.whole p.high p.lists)

  A-few : count (A bs middle) ≤ MAX-STEPS
  A-few = omega (arith, few, p.first, p.whole.few)

  B-few : count (B bs middle) ≤ MAX-STEPS
  B-few = omega (arith, few, p.whole.few)

  here : get_elem? (flat_body undo false (body_of p.whole.node)) remaining ≡ get_elem? (flat_body undo false (binary_group g (A bs middle) (B bs middle))) remaining
  here = ap (λ (b : Body Leaf). get_elem? (flat_body undo false b) remaining) (body p.whole p.high p.lists)

  pub into-A : remaining < a → Sought o (part RECORD middle bs) remaining inverted
  into-A h = enter p.whole p.lists.packed_first A-few remaining (omega (arith, p.first)) (here ∙ in-A g (A bs middle) (B bs middle) p.first both_is remaining h)

  pub into-B : a ≤ remaining → remaining < both → Sought o (part middle (length bs) bs) (remaining - a) inverted
  into-B h i = enter p.whole p.lists.packed_second B-few (remaining - a) (omega (arith, both_is)) (here ∙ in-B g (A bs middle) (B bs middle) p.first both_is remaining h i)

  pub into-A' : both ≤ remaining → remaining < both + a → Sought o (part RECORD middle bs) (both + a - 1 - remaining) (not inverted)
  into-A' h i = enter-undone p.whole p.lists.packed_first A-few (both + a - 1 - remaining) (omega (arith, p.first, both_is)) (here ∙ in-A' g (A bs middle) (B bs middle) p.first both_is remaining h i)

  pub into-B' : both + a ≤ remaining → Sought o (part middle (length bs) bs) (once - 1 - remaining) (not inverted)
  into-B' h =
      enter-undone p.whole p.lists.packed_second B-few (once - 1 - remaining) (last g once_is)
      (here ∙ in-B' g (A bs middle) (B bs middle) p.first both_is remaining h (omega (arith, once_is, p.whole.below)) ∙ ap (λ (n : ℕ). undo_if true (get_elem? (flat undo false (B bs middle)) (n - 1 - remaining))) (sym once_is))
    where
      last : (g : BinaryGroupKind) → once ≡ count_binary g a (count (B bs middle)) → once - 1 - remaining < count (B bs middle)
      last Commutator e = omega (arith, both_is, p.whole.below)
      last Conjugate e = absurd (omega (arith, both_is, p.whole.below))

-- The step's record, copied, and undone where the direction is inverted.
copied : (x : Leaf) {from : List ℕ} (step : List ℕ) {s : List ℕ} → from ≡ leaf_record x → s ≡ from ++ drop RECORD step → s ≡ leaf_record x ++ drop RECORD step
copied x {from} step e h = h ∙ ap (λ (a : List ℕ). a ++ drop RECORD step) e

pub step-copied : (d : Bool) (x : Leaf) {from : List ℕ} (step : List ℕ) {s : List ℕ} → d ≡ false → from ≡ leaf_record x → s ≡ from ++ drop RECORD step → s ≡ leaf_record (pick d (undo x) x) ++ drop RECORD step
step-copied d x step p e h = rw p (copied x step e h)

pub step-turned : (d : Bool) (x : Leaf) {from : List ℕ} (step : List ℕ) {s y : List ℕ} → d ≡ true → Undoable x → from ≡ leaf_record x → s ≡ from ++ drop RECORD step → Undone s y →
    y ≡ leaf_record (pick d (undo x) x) ++ drop RECORD step
step-turned d x step {s} p u e h w = rw p (step-undone x u s (drop RECORD step) (copied x step e h) w)

pub copy-starts : {from : List ℕ} (step : List ℕ) {s : List ℕ} → (x : Leaf) × (Undoable x × (from ≡ leaf_record x)) → s ≡ from ++ drop RECORD step → StartsRecord s
copy-starts step {s} (x, (u, e)) h = step-starts x u s (drop RECORD step) (copied x step e h)
