-- The two loops over a packed list: one writes what each node gives from the end, one keeps the last refusal. Each invariant is kept
-- by a turn, whatever the nodes are inverted to or refused for. Assumes nothing.
use Prim.Native.Nat.{ℕ, ◌+◌, ◌-◌, ◌≤◌}
use mathlib.Core.Path.{◌≡◌, refl, sym, ap, ◌∙◌, subst}
use mathlib.Core.Bool.{Bool, true, false}
use mathlib.Core.List.{List, [], ◌++◌, append-nil, append_assoc}
use mathlib.Core.Option.{Option, none, some}
use native.Mathlib.Omega.{arith}
use lib.Dec.{ltb}
use lib.ListN.{length, take, drop, length-append, length-drop}
use lib.Seq.{take_at, drop-length, drop_at, drop-drop, length-take-le}
use Rattle.notation.specs.Tree.{Leaf, Node, leaf, block, group, binary_group, nil, cons, append, Tree}
use Rattle.notation.specs.Packed.{RECORD, pack, unpack, head_at, node_head}
use Rattle.record.specs.Meaning.{kind_at}
use Rattle.record.proofs.KindTests.{no-leaf-low}
use Rattle.laws.specs.Unrolled.{first}
use Rattle.laws.specs.Inverted.{inverted, inv_refusal, deeply, deeply_node, deep_refusal}
use Rattle.laws.specs.Packed.{Packed}
use Rattle.laws.proofs.Packing.{pack-append}
use Rattle.laws.proofs.Walking.{no_node}
use Rattle.nodes.specs.Nodes.{IsNode, part, FirstNode}
use Rattle.nodes.proofs.Nodes.{part_length, length_part, part-front, alone, first-low, first_head, FirstLeaf, leaf-node}
use Rattle.std.specs.Option.{option_or}
use Rattle.std.specs.Prelude.{Option as Answer}
use Rattle.laws.proofs.FirstRefusal.{or-first}
use Rattle.notation.specs.Lending.{number_of}
use Rattle.notation.specs.declared.refusals.Refusal.{Refusal}
use Rattle.invert.specs.Nodes.{inverse, head_refusal}

-- An inverse: the last node's comes first, and a leaf is inverted alike by both.
pub record Reverses (f : Tree → Tree) : Type 0 where
  pub empty : f nil ≡ nil
  pub more : (n : Node Leaf) (l : Tree) → f (cons n l) ≡ append (f l) (f (cons n nil))
  pub step : (x : Leaf) → inverted (cons (leaf x) nil) ≡ f (cons (leaf x) nil)

pub inverse-reverses : (deep : Bool) → Reverses (inverse deep)
unfolding inverted deeply deeply_node append
inverse-reverses true = record { empty = refl; more = λ n l. refl; step = λ x. refl }
inverse-reverses false = record { empty = refl; more = λ n l. refl; step = λ x. refl }

-- the inverse by what a test said of `deep`
pub told : {deep b : Bool} → deep ≡ b → (bs : List ℕ) → pack (inverse b (unpack bs)) ≡ pack (inverse deep (unpack bs))
told e bs = ap (λ (d : Bool). pack (inverse d (unpack bs))) (sym e)

-- A list with its elements from a to e written anew, as a part that was lent gives it back.
abbrev pub put_part : ℕ → ℕ → List ℕ → List ℕ → List ℕ
put_part a e out new = take a out ++ (new ++ drop (e - a) (drop a out))

pub length-put_part : (a e : ℕ) (out new : List ℕ) → a ≤ e → e ≤ length out → length new ≡ e - a → length (put_part a e out new) ≡ length out
length-put_part a e out new h k n =
    length-append (take a out) (new ++ drop (e - a) (drop a out))
    ∙ omega (arith, length-take-le a out (omega arith), length-append new (drop (e - a) (drop a out)), length-drop (e - a) (drop a out), length-drop a out)

drop-put_part : (a e : ℕ) (out new : List ℕ) → a ≤ e → e ≤ length out → drop a (put_part a e out new) ≡ new ++ drop e out
drop-put_part a e out new h k =
    let z : a + (e - a) ≡ e = omega arith in
    drop_at (take a out) (new ++ drop (e - a) (drop a out)) a (length-take-le a out (omega arith))
    ∙ ap (λ (s : List ℕ). new ++ s) (drop-drop (e - a) a out ∙ ap (λ (k : ℕ). drop k out) z)

-- the last part written anew
pub put_last : (k : ℕ) (out new : List ℕ) → k ≤ length out → put_part k (length out) out new ≡ take k out ++ new
put_last k out new h =
    let end : k + (length out - k) ≡ length out = omega arith in
    ap (λ (s : List ℕ). take k out ++ (new ++ s)) (drop-drop (length out - k) k out ∙ ap (λ (n : ℕ). drop n out) end ∙ drop-length out)
    ∙ ap (λ (s : List ℕ). take k out ++ s) (append-nil new)

-- a list written in two parts, the first m long
pub two-parts : (out a b : List ℕ) (m : ℕ) → length a ≡ m → put_part m (length (a ++ drop m out)) (a ++ drop m out) b ≡ a ++ b
two-parts out a b m e =
    put_last m (a ++ drop m out) b (omega (arith, length-append a (drop m out)))
    ∙ ap (λ (s : List ℕ). s ++ b) (take_at a (drop m out) m e)

-- two fronts, and two parts, of the same length
pub same-length-fronts : (l l' : List ℕ) (m : ℕ) → m ≤ length l → m ≤ length l' → length (take m l) ≡ length (take m l')
same-length-fronts l l' m h h' = length-take-le m l h ∙ sym (length-take-le m l' h')

pub same-length-parts : (l l' : List ℕ) (a e a' e' : ℕ) → e ≤ length l → e' ≤ length l' → e - a ≡ e' - a' → length (part a e l) ≡ length (part a' e' l')
same-length-parts l l' a e a' e' h h' k = length_part a e l h ∙ k ∙ sym (length_part a' e' l' h')

-- the first node as the code takes it
module _ {t : List ℕ} {e : ℕ} (s : FirstNode t e) where
  pub front-node : IsNode (take e t) s.node
  front-node = subst (λ (l : List ℕ). IsNode l s.node) (part-front e t) s.is_node

  pub front_long : length (take e t) ≡ e
  front_long = length-take-le e t s.most

  pub front_low : {r : Bool} → r ≡ ltb 5 (kind_at t) → r ≡ false → kind_at (take e t) ≤ 5
  front_low q left = subst (λ (l : List ℕ). kind_at l ≤ 5) (part-front e t) (first-low s refl (no-leaf-low q left))

-- t is what is left of tree, and out holds what is done from `at` on.
pub record WroteNodes (f : Tree → Tree) (tree t : List ℕ) (at : ℕ) (out : List ℕ) : Type 0 where
  pub reverses : Reverses f
  pub packed : Packed t
  pub short : length t ≤ length tree
  pub place : at ≡ length t
  pub long : length out ≡ length tree
  pub done : pack (f (unpack t)) ++ drop at out ≡ pack (f (unpack tree))

pub wrote_none : {f : Tree → Tree} → Reverses f → (tree out : List ℕ) → Packed tree → length out ≡ length tree → WroteNodes f tree tree (length out) out
wrote_none {f} r tree out p e =
    record {
      reverses = r;
      packed = p;
      short = omega arith;
      place = e;
      long = e;
      done = ap (λ (s : List ℕ). pack (f (unpack tree)) ++ s) (drop-length out) ∙ append-nil (pack (f (unpack tree)));
    }

-- a node's place in out is as long as the node
pub node-place : {f : Tree → Tree} {tree t : List ℕ} {at : ℕ} {out : List ℕ} {e : ℕ} → WroteNodes f tree t at out → FirstNode t e
    → length (take (at - (at - e)) (drop (at - e) out)) ≡ length (take e t)
node-place {f} {tree} {t} {at} {out} {e} w s =
    length-take-le (at - (at - e)) (drop (at - e) out) (omega (arith, length-drop (at - e) out, w.place, w.short, w.long, s.most))
    ∙ omega (arith, w.place, s.most)
    ∙ sym (front_long s)

pub wrote-more : {f : Tree → Tree} {tree t : List ℕ} {at : ℕ} {out : List ℕ} {e : ℕ} → WroteNodes f tree t at out → FirstNode t e
    → (new : List ℕ) → length new ≡ length (take (at - (at - e)) (drop (at - e) out)) → new ≡ pack (f (unpack (take e t)))
    → WroteNodes f tree (part e (length t) t) (at - e) (put_part (at - e) at out new)
wrote-more {f} {tree} {t} {at} {out} {e} w s new h q =
    let l : Tree = unpack (part e (length t) t) in
    let one : Tree = cons s.node nil in
    record {
      reverses = w.reverses;
      packed = s.packed_rest;
      short = omega (arith, w.short, part_length e (length t) t);
      place = ap (λ (k : ℕ). k - e) w.place ∙ sym (length_part e (length t) t (omega arith));
      long = length-put_part (at - e) at out new (omega arith) (omega (arith, w.place, w.short, w.long)) (h ∙ node-place w s ∙ front_long s ∙ omega (arith, w.place, s.most)) ∙ w.long;
      done =
          ap (λ (y : List ℕ). pack (f l) ++ y) (drop-put_part (at - e) at out new (omega arith) (omega (arith, w.place, w.short, w.long)))
          ∙ sym (append_assoc (pack (f l)) new (drop at out))
          ∙ ap (λ (y : List ℕ). y ++ drop at out)
          (ap (λ (y : List ℕ). pack (f l) ++ y) (q ∙ ap (λ (x : Tree). pack (f x)) (alone (front-node s)))
          ∙ sym (pack-append (f l) (f one))
          ∙ sym (ap pack (w.reverses.more s.node l))
          ∙ sym (ap (λ (x : Tree). pack (f x)) s.unpacks))
          ∙ w.done;
    }

pub wrote-leaf : {f : Tree → Tree} {tree t : List ℕ} {at : ℕ} {out : List ℕ} → WroteNodes f tree t at out → FirstLeaf t
    → (new : List ℕ) → length new ≡ length (take (at - (at - RECORD)) (drop (at - RECORD) out)) → new ≡ pack (inverted (unpack (take RECORD t)))
    → WroteNodes f tree (part RECORD (length t) t) (at - RECORD) (put_part (at - RECORD) at out new)
wrote-leaf {f} w l new h q =
    let one = alone (leaf-node l) in
    wrote-more w l.first new h (q ∙ ap pack (ap inverted one ∙ w.reverses.step l.step ∙ sym (ap f one)))

pub wrote-all : {f : Tree → Tree} {tree t : List ℕ} {at : ℕ} {out : List ℕ} → WroteNodes f tree t at out → length t ≤ 0 → out ≡ pack (f (unpack tree))
unfolding pack
wrote-all {f} {tree} {t} {at} {out} w h =
    let none : length t ≡ 0 = omega arith in
    let z : at ≡ 0 = w.place ∙ none in
    let front : pack (f (unpack t)) ≡ [] = ap (λ (x : Tree). pack (f x)) (no_node t w.packed none) ∙ ap pack w.reverses.empty in
    sym (ap (λ (k : ℕ). drop k out) z) ∙ sym (ap (λ (s : List ℕ). s ++ drop at out) front) ∙ w.done

-- What a list is refused for: a later node's refusal before an earlier one's.
pub record Latest (g : Tree → Option ℕ) : Type 0 where
  pub empty : g nil ≡ none
  pub more : (n : Node Leaf) (l : Tree) → g (cons n l) ≡ first (g l) (g (cons n nil))

pub inv-latest : Latest inv_refusal
unfolding inv_refusal
inv-latest = record { empty = refl; more = λ n l. refl }

pub deep-latest : Latest deep_refusal
unfolding deep_refusal
deep-latest = record { empty = refl; more = λ n l. refl }

first_none : (r : Option ℕ) → first r none ≡ r
first_none none = refl
first_none (some r) = refl

first_first : (r q o : Option ℕ) → first (first r q) o ≡ first r (first q o)
first_first none q o = refl
first_first (some r) q o = refl

-- t is what is left of tree, and found what its nodes so far are refused for
pub record Looked (g : Tree → Option ℕ) (tree t : List ℕ) (found : Option ℕ) : Type 0 where
  pub packed : Packed t
  pub short : length t ≤ length tree
  pub done : first (g (unpack t)) found ≡ g (unpack tree)

pub looked-none : (g : Tree → Option ℕ) (tree : List ℕ) → Packed tree → Looked g tree tree none
looked-none g tree p = record { packed = p; short = omega arith; done = first_none (g (unpack tree)) }

pub looked-more : {g : Tree → Option ℕ} {tree t : List ℕ} {e : ℕ} → (before here after : Answer Refusal) → Latest g → Looked g tree t (number_of before) → (s : FirstNode t e)
    → after ≡ option_or here before → number_of here ≡ g (cons s.node nil) → Looked g tree (part e (length t) t) (number_of after)
looked-more {g} {tree} {t} {e} before here after r w s a q =
    let l : Tree = unpack (part e (length t) t) in
    let found : Option ℕ = number_of before in
    record {
      packed = s.packed_rest;
      short = omega (arith, w.short, part_length e (length t) t);
      done =
          ap (λ (x : Answer Refusal). first (g l) (number_of x)) a
          ∙ ap (first (g l)) (or-first here before ∙ ap (λ (o : Option ℕ). first o found) q)
          ∙ sym (first_first (g l) (g (cons s.node nil)) found)
          ∙ sym (ap (λ (o : Option ℕ). first o found) (r.more s.node l))
          ∙ sym (ap (λ (x : Tree). first (g x) found) s.unpacks)
          ∙ w.done;
    }

pub looked-all : {g : Tree → Option ℕ} {tree t : List ℕ} {found : Option ℕ} → Latest g → Looked g tree t found → length t ≤ 0 → found ≡ g (unpack tree)
looked-all {g} {tree} {t} {found} r w h =
    let none : length t ≡ 0 = omega arith in
    sym (ap (λ (x : Tree). first (g x) found) (no_node t w.packed none) ∙ ap (λ (o : Option ℕ). first o found) r.empty) ∙ w.done

-- the shallow walk looks only at the first record
pub inv-one : {t : List ℕ} {e : ℕ} (s : FirstNode t e) → head_refusal (head_at t) ≡ inv_refusal (cons s.node nil)
unfolding inv_refusal
inv-one s = ap head_refusal (first_head s) ∙ go s.node
  where
    go : (n : Node Leaf) → head_refusal (node_head n) ≡ inv_refusal (cons n nil)
    go (leaf x) = refl
    go (block (group k a) m) = refl
    go (block (binary_group k a b) m) = refl
