-- The first refusals of a leaf, a group and a list of nodes, in both directions at once. Assumes nothing.
use Prim.Native.Nat.{ℕ, zero, suc, ◌-◌, ◌^◌, ◌<◌, ◌≤◌}
use mathlib.Core.Path.{◌≡◌, refl, sym, ap, ◌∙◌, fun_ext}
use mathlib.Core.Bool.{Bool, true, false}
use mathlib.Core.List.{List}
use mathlib.Core.Option.{Option, none, some}
use native.Mathlib.Omega.{arith}
use borrow.Author.Tests.{ne_eqb}
use lib.Dec.{ltb, eqb}
use lib.IntN.{ℤ, pos, negsuc, nat_abs}
use Rattle.notation.specs.Basics.{pick}
use Rattle.notation.specs.Numbers.{from_bits}
use Rattle.notation.specs.Refusals.{NISS}
use Rattle.notation.specs.Tree.{Leaf, Node, leaf, block, group, binary_group, cons, Tree}
use Rattle.notation.specs.Packed.{group_number, binary_number, leaf_head, head_at}
use Rattle.notation.specs.Lending.{number_of}
use Rattle.notation.specs.Unroll.{turned}
use Rattle.notation.specs.declared.common.GroupKind.{GroupKind}
use Rattle.notation.specs.declared.common.GroupKind.TheVariants.{Simple, Macro, Simultaneous, Niss}
use Rattle.notation.specs.declared.common.BinaryGroupKind.{BinaryGroupKind}
use Rattle.notation.specs.declared.common.BinaryGroupKind.TheVariants.{Commutator, Conjugate}
use Rattle.record.specs.Undone.{overflows_at}
use Rattle.record.specs.Meaning.{kind_at}
use Rattle.record.proofs.Overflows.{over_none, head_overflows, overflow-test}
use Rattle.laws.proofs.FirstRefusal.{or-first}
use Rattle.laws.specs.Unrolled.{first, if_reached, first_in_order, refusal_binary, refusal_node, refusal_body, first_refusal}
use Rattle.well_formed.specs.Refusing.{refuses, leaf_refuses, contents_refuse, group_refuses}
use Rattle.well_formed.specs.declared.refusals.Refusals.{Refusals}
use Rattle.notation.specs.declared.refusals.Refusal.{Refusal}
use Rattle.notation.specs.declared.refusals.Refusal.TheVariants.{Niss}
use Rattle.std.specs.Prelude as code
use Rattle.std.specs.Option.{option_or}
use Rattle.std.specs.Bool.{then_some}

-- the first refusals, by direction
abbrev pub of_node : Node Leaf → Bool → Option ℕ
of_node n d = refusal_node d n

abbrev pub of_tree : Tree → Bool → Option ℕ
of_tree t d = first_refusal d t

abbrev pub after : (met next : Bool → Option ℕ) → Bool → Option ℕ
after met next d = first_in_order d (met d) (next d)

abbrev turned_by : ℤ → (Bool → Option ℕ) → Bool → Option ℕ
turned_by m r d = r (turned m d)

abbrev pub none-met : Refusals
none-met = record { forward = code.None; backward = code.None }

-- what is the same in both directions
pub either_way : {f g : Bool → Option ℕ} → f false ≡ g false → f true ≡ g true → f ≡ g
either_way {f} {g} p q = fun_ext at
  where
    at : (d : Bool) → f d ≡ g d
    at false = p
    at true = q

pub or-as : (r a b : code.Option Refusal) (q : Option ℕ) → r ≡ option_or a b → number_of b ≡ q → number_of r ≡ first (number_of a) q
or-as r a b q e p = ap number_of e ∙ or-first a b ∙ ap (first (number_of a)) p

-- what is found of a leaf that passes a test and does not overflow
pub passes : (b : Bool) (r : code.Option Bool) → r ≡ then_some b false → code.is_some r ≡ b
passes true r e = ap code.is_some e
passes false r e = ap code.is_some e

pub passes-undone : (over b : Bool) (r : code.Option Bool) → r ≡ then_some b false → false ≡ over → code.IfSome r (λ x. x ≡ over)
passes-undone over true r e o = rw e o
passes-undone over false r e o = rw e tt

-- nothing met, in each direction
none-met-is : (d : Bool) → refuses none-met d ≡ none
none-met-is true = refl
none-met-is false = refl

-- A group, by the number of its kind: the ways of `of_group`, with a and b for its lists.
module _ (k : ℕ) (a b : Bool → Option ℕ) where
  module _ (other : (k ≡ 3) → ⊥) where
    pub never-reached : (m : ℕ) → m ≡ 0 → refuses none-met ≡ group_refuses k (from_bits 32 m) a b
    never-reached m z = either_way (rw (ne_eqb k 3 other, z)) (rw (ne_eqb k 3 other, z))

    none-reached : (n : ℕ) → if_reached n none ≡ none
    none-reached zero = refl
    none-reached (suc n) = refl

    none-in-contents : (four five d : Bool) →
        pick four (refusal_binary Commutator d (λ e. none) (λ e. none)) (pick five (refusal_binary Conjugate d (λ e. none) (λ e. none)) none) ≡ none
    none-in-contents true five true = refl
    none-in-contents true five false = refl
    none-in-contents false true d = refl
    none-in-contents false false d = refl

    pub both-none : (m : ℤ) → a ≡ (λ d. none) → b ≡ (λ d. none) → refuses none-met ≡ group_refuses k m a b
    both-none m e h =
        fun_ext at ∙ (λ i. group_refuses k m (sym e i) (sym h i))
      where
        at : (d : Bool) → refuses none-met d ≡ group_refuses k m (λ d. none) (λ d. none) d
        at d =
            none-met-is d
            ∙ sym (ap (λ (t : Bool). pick t (some NISS) (if_reached (nat_abs m) (contents_refuse k (λ d. none) (λ d. none) (turned m d)))) (ne_eqb k 3 other)
            ∙ ap (if_reached (nat_abs m)) (none-in-contents (eqb k 4) (eqb k 5) (turned m d)) ∙ none-reached (nat_abs m))

    reached : (n : ℕ) (q : Option ℕ) → 1 ≤ n → q ≡ if_reached n q
    reached zero q h = absurd (omega arith)
    reached (suc n) q h = refl

    nonzero : (m : ℕ) → m < 2 ^ 32 → ((m ≡ 0) → ⊥) → 1 ≤ nat_abs (from_bits 32 m)
    nonzero m h z = go (ltb m 2147483648) refl
      where
        some_of : (n : ℕ) → ((n ≡ 0) → ⊥) → 1 ≤ n
        some_of zero z = absurd (z refl)
        some_of (suc n) z = omega arith

        go : (t : Bool) → ltb m 2147483648 ≡ t → 1 ≤ nat_abs (pick t (pos m) (negsuc (2 ^ 32 - suc m)))
        go true e = some_of m z
        go false e = omega arith

    pub contents-reached : (m : ℕ) → m < 2 ^ 32 → ((m ≡ 0) → ⊥) → {r c : Bool → Option ℕ} → c ≡ contents_refuse k a b → r ≡ turned_by (from_bits 32 m) c →
        r ≡ group_refuses k (from_bits 32 m) a b
    contents-reached m v z {r} {c} p q =
        q ∙ ap (turned_by (from_bits 32 m)) p
        ∙ fun_ext (λ d. reached (nat_abs (from_bits 32 m)) (contents_refuse k a b (turned (from_bits 32 m) d)) (nonzero m v z))
        ∙ fun_ext (λ d. ap (λ (t : Bool). pick t (some NISS) (if_reached (nat_abs (from_bits 32 m)) (contents_refuse k a b (turned (from_bits 32 m) d)))) (sym (ne_eqb k 3 other)))

-- and the ways of `contents`
pub commutator-refuses : (k : ℕ) (a b : Bool → Option ℕ) → k ≡ 4 → (λ d. refusal_binary Commutator d a b) ≡ contents_refuse k a b
commutator-refuses k a b e = rw e

pub conjugate-refuses : (k : ℕ) (a b : Bool → Option ℕ) → k ≡ 5 → (λ d. refusal_binary Conjugate d a b) ≡ contents_refuse k a b
conjugate-refuses k a b e = rw e

-- What the rule says of a block is what the number of its kind says.
pub group-refuses : (g : GroupKind) (t : Tree) (m : ℤ) (b : Bool → Option ℕ) → of_node (block (group g t) m) ≡ group_refuses (group_number g) m (of_tree t) b
unfolding refusal_node refusal_body
group-refuses Simple t m b = refl
group-refuses Macro t m b = refl
group-refuses Simultaneous t m b = refl
group-refuses Niss t m b = refl

pub binary-refuses : (g : BinaryGroupKind) (s t : Tree) (m : ℤ) → of_node (block (binary_group g s t) m) ≡ group_refuses (binary_number g) m (of_tree s) (of_tree t)
unfolding refusal_node refusal_body
binary-refuses Commutator s t m = refl
binary-refuses Conjugate s t m = refl

-- A leaf, by the code's test of its record.
pub no-pair : (bs : List ℕ) {k : ℕ} → k ≡ kind_at bs → ((k ≡ 9) → ⊥) → false ≡ overflows_at bs
no-pair bs {k} e n = sym (ne_eqb k 9 n) ∙ over_none bs e n

pub leaf-refuses : (bs : List ℕ) (x : Leaf) → leaf_head x ≡ head_at bs → leaf_refuses (overflows_at bs) ≡ of_node (leaf x)
unfolding refusal_node
leaf-refuses bs x e = ap leaf_refuses (overflow-test bs ∙ ap head_overflows (sym e))

-- A list: what was met, and then what is left, is the whole.
pub first-none : (p : Option ℕ) → first p none ≡ p
first-none none = refl
first-none (some r) = refl

first-assoc : (p q r : Option ℕ) → first (first p q) r ≡ first p (first q r)
first-assoc none q r = refl
first-assoc (some p) q r = refl

order-assoc : (d : Bool) (p q r : Option ℕ) → first_in_order d (first_in_order d p q) r ≡ first_in_order d p (first_in_order d q r)
order-assoc false p q r = first-assoc p q r
order-assoc true p q r = sym (first-assoc r q p)

pub nothing_left : (met : Refusals) → after (refuses met) (λ d. none) ≡ refuses met
nothing_left met = either_way (first-none (number_of met.forward)) refl

pub met-more : (met next : Refusals) (n : Node Leaf) (t : Tree) {one : Bool → Option ℕ} → one ≡ of_node n → refuses next ≡ after (refuses met) one →
    after (refuses next) (of_tree t) ≡ after (refuses met) (of_tree (cons n t))
unfolding first_refusal
met-more met next n t p q =
    ap (λ (r : Bool → Option ℕ). after r (of_tree t)) (q ∙ ap (after (refuses met)) p)
    ∙ fun_ext (λ d. order-assoc d (refuses met d) (refusal_node d n) (first_refusal d t))
