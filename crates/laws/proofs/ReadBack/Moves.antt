-- Rotations and moves: what is printed is read back up to the multiplier, and then the multiplier. Assumes nothing.
use Prim.Native.Nat.{ℕ, suc, ◌≤◌, ◌<◌, min, max}
use Prim.Native.Char.{Char, code}
use mathlib.Core.Path.{◌≡◌, refl, sym, ap, ◌∙◌}
use mathlib.Core.Bool.{Bool, true, false, not, ◌&&◌, ◌||◌}
use mathlib.Core.List.{List, [], ◌∷◌, ◌++◌}
use mathlib.Core.Option.{Option, none, some}
use lib.Dec.{leb, eqb, lit<}
use lib.IntN.{ℤ, pos, negsuc}
use native.Mathlib.Omega.{arith}
use borrow.Author.Tests.{le-leb, ltb-true, leb-true, eqb-true}
use Rattle.notation.specs.Basics.{pick, between, every, one_of}
use Rattle.notation.specs.Chars.{is_family_char, is_prime, classify}
use Rattle.notation.specs.Utf8.{run}
use Rattle.notation.specs.Numbers.{digit_run, show}
use Rattle.notation.specs.Layers.{LayerSetElement, MAX-LAYER}
use Rattle.notation.specs.Tree.{Constraint, Layers, no_layers, single_layer, layer_range, layer_set, rotation, move, leaf, map_node}
use Rattle.notation.specs.Grammar.{
  ◌>>=◌,
  when,
  spanned,
  done,
  ◌or◌,
  uint,
  layer,
  prime,
  multiplier,
  MAX-I32,
  constraint_set,
  layer_set_elements,
  layer_prefix_contents,
  constraints,
  tilde,
  rotation_node,
  move_node,
}
use Rattle.notation.specs.Meaning.{constraints_in, layer_set_in, or_empty, constraint_meaning, layer_meaning, step_of}
use Rattle.notation.specs.Print.{put_multiplier, put_braces, put_constraint, put_constraints, put_element, put_layers, put_tilde}
use Rattle.notation.specs.WellFormed.{multiplier_ok}
use Rattle.notation.specs.declared.features.Features.{Features}
use Rattle.laws.proofs.Bools.{and_left, and_right, and_both}
use Rattle.laws.proofs.InRange.{family_in_range, name_in_range, constraint_in_range, constraints_in_range, element_in_range, layers_in_range}
use Rattle.laws.proofs.ReadBack.Starts.{
  same_first,
  not_digit,
  starts,
  starts-listed,
  isnt,
  no-digits,
  fails,
  no_run,
  up_to,
  Whole,
  family-whole,
  family-isnt,
  family-no-digit,
}
use Rattle.laws.proofs.ReadBack.Reads.{
  Reads,
  Rejects,
  reads-done,
  reads-bind,
  reads-next,
  reads-left,
  reads-right,
  reads-when,
  rejects-bind,
  rejects-after,
  rejects-or,
  rejects-when,
  reads-just,
  rejects-just,
  rejects-character,
  reads-spanned,
  rejects-spanned,
}
use Rattle.laws.proofs.ReadBack.Numbers.{reads-uint, rejects-uint, show-starts}
use Rattle.laws.proofs.ReadBack.Printed.{constraints-apart, elements-apart}
use Rattle.laws.proofs.ReadBack.Parts.{
  name-whole,
  name-some,
  reads-family,
  reads-constraint_set,
  reads-layer_set,
  constraints-mean,
  layer_set-means,
}

-- what follows a node: the end, a space, `)` `]` `,` `:`
abbrev pub follow : List ℕ
follow = 32 ∷ 41 ∷ 93 ∷ 44 ∷ 58 ∷ []

abbrev pub after_node : List ℕ → Bool
after_node = starts (one_of follow)

-- Multipliers.
reads-magnitude : {text : List ℕ} (n : ℕ) (r : List ℕ) → n < 2147483648 → starts not_digit r ≡ true →
    Reads text (◌or◌ (uint 0 MAX-I32) (done 1)) (pick (eqb n 1) r (show n r)) (λ x. x ≡ n) r
reads-magnitude {text} n r h s = go (eqb n 1) refl
  where
    go : (b : Bool) → eqb n 1 ≡ b → Reads text (◌or◌ (uint 0 MAX-I32) (done 1)) (pick b r (show n r)) (λ x. x ≡ n) r
    go true e = reads-right (rejects-uint 0 MAX-I32 s) (reads-done 1 (sym (eqb-true n 1 e)))
    go false e =
        reads-left (done 1) (reads-uint 0 MAX-I32 n r
        (and_both (leb 0 n) (leb n MAX-I32) (le-leb 0 n (omega arith)) (le-leb n MAX-I32 (omega arith))) (lit< tt) (no-digits r s))

-- neither an apostrophe nor another prime stands there
no-prime : {text : List ℕ} (f : Features) {r : List ℕ} → starts (isnt "'") r ≡ true → starts (fails is_prime) r ≡ true → Rejects text (prime f) r
no-prime f a h = rejects-or (rejects-just "'" a) (rejects-when f.curly_primes (rejects-character is_prime h))

-- a multiplier is read back
pub reads-multiplier : {text : List ℕ} (f : Features) (m : ℤ) (rest : List ℕ) → multiplier_ok m ≡ true → after_node rest ≡ true →
    Reads text (multiplier f) (put_multiplier m rest) (λ x. x ≡ m) rest
unfolding every one_of classify
reads-multiplier f (pos n) rest h s =
    reads-next _ (reads-magnitude n rest (ltb-true n 2147483648 h) (starts-listed not_digit follow rest refl s))
    (reads-right (rejects-bind _ (no-prime f (starts-listed (isnt "'") follow rest refl s) (starts-listed (fails is_prime) follow rest refl s)))
    (reads-done (pos n) refl))
reads-multiplier f (negsuc n) rest h s =
    reads-next _ (reads-magnitude (suc n) (39 ∷ rest) (ltb-true (suc n) 2147483648 h) refl)
    (reads-left _ (reads-bind (reads-left _ (reads-just "'")) λ _ _. reads-done (negsuc n) refl))

-- what a multiplier or what follows it starts with: `'`, what follows a node, digits
abbrev marks : List ℕ
marks = 39 ∷ 32 ∷ 41 ∷ 93 ∷ 44 ∷ 58 ∷ up_to 10 48

magnitude-starts : (b : Bool) (n : ℕ) (r : List ℕ) → starts (one_of marks) r ≡ true → starts (one_of marks) (pick b r (show n r)) ≡ true
unfolding every one_of up_to
magnitude-starts true n r e = e
magnitude-starts false n r e = show-starts (one_of marks) n r refl

multiplier-starts : (m : ℤ) (rest : List ℕ) → after_node rest ≡ true → starts (one_of marks) (put_multiplier m rest) ≡ true
unfolding every one_of
multiplier-starts (pos n) rest s = magnitude-starts (eqb n 1) n rest (starts-listed (one_of marks) follow rest refl s)
multiplier-starts (negsuc n) rest s = magnitude-starts (eqb (suc n) 1) (suc n) (39 ∷ rest) refl

-- what follows a move's or rotation's family
abbrev pub tail : Option (List Constraint) → ℤ → List ℕ → List ℕ
tail c m rest = put_constraints c (put_multiplier m rest)

-- with `{` it is what a tail starts with
abbrev pub tail_marks : List ℕ
tail_marks = 123 ∷ 39 ∷ 32 ∷ 41 ∷ 93 ∷ 44 ∷ 58 ∷ up_to 10 48

tail-starts : (c : Option (List Constraint)) (m : ℤ) (rest : List ℕ) → after_node rest ≡ true → starts (one_of tail_marks) (tail c m rest) ≡ true
unfolding every one_of up_to
tail-starts none m rest s = starts-listed (one_of tail_marks) marks (put_multiplier m rest) refl (multiplier-starts m rest s)
tail-starts (some []) m rest s = refl
tail-starts (some (x ∷ l)) m rest s = refl

-- Constraints.
reads-constraints : {text : List ℕ} (f : Features) (c : Option (List Constraint)) (r : List ℕ) → constraints_in_range f c ≡ true →
    starts (isnt "{") r ≡ true →
    Reads text (constraints f) (put_constraints c r) (λ x. constraint_meaning text x ≡ c) r
unfolding constraint_set
reads-constraints f none r h s =
    reads-right (rejects-bind _ (rejects-when f.transform_constraints (rejects-spanned (rejects-bind _ (rejects-just "{" s)))))
    (reads-done none refl)
reads-constraints {text} f (some l) r h s =
    let o = and_right f.transform_constraints (every constraint_in_range l) h in
    reads-left _ (reads-bind
    (reads-when f.transform_constraints (and_left f.transform_constraints (every constraint_in_range l) h)
    (reads-spanned (put_braces put_constraint l []) (constraints-apart l r o) (reads-constraint_set l r o)))
    (λ p e. reads-done (some p) (ap (λ (a : List ℕ). some (or_empty (constraints_in a))) e ∙ ap some (constraints-mean l o))))

-- Layers.
layer-between : (i j : ℕ) → leb 1 i ≡ true → i ≤ j → j ≤ MAX-LAYER → between 1 MAX-LAYER i ≡ true
layer-between i j h h' h'' = and_both (leb 1 i) (leb i MAX-LAYER) h (le-leb i MAX-LAYER (omega arith))

-- no layer set where no brace stands
no-set : {text : List ℕ} (f : Features) {r : List ℕ} → starts (isnt "{") r ≡ true →
    Rejects text (when f.layers.layer_sets (◌>>=◌ (spanned (layer_set_elements f.layers.hsc1_layer_ranges)) (λ p. done (layer_set p)))) r
unfolding layer_set_elements
no-set f b = rejects-when f.layers.layer_sets (rejects-bind _ (rejects-spanned (rejects-bind _ (rejects-just "{" b))))

-- no layers where neither a brace nor a layer stands
pub no-layers : {text : List ℕ} (f : Features) {r : List ℕ} → starts (isnt "{") r ≡ true → Rejects text layer r →
    Reads text (layer_prefix_contents f) r (λ x. layer_meaning text x ≡ no_layers) r
unfolding layer_prefix_contents
no-layers f b d =
    reads-right (no-set f b) (reads-right (rejects-bind _ d) (reads-right (rejects-bind _ d) (reads-done no_layers refl)))

-- layers are read back
pub reads-layers : {text : List ℕ} (f : Features) (l : Layers (List LayerSetElement)) (r : List ℕ) → layers_in_range f l ≡ true →
    starts (isnt "{") r ≡ true → starts not_digit r ≡ true → starts (isnt "-") r ≡ true →
    Reads text (layer_prefix_contents f) (put_layers l r) (λ x. layer_meaning text x ≡ l) r
unfolding layer_prefix_contents every up_to digit_run
reads-layers f no_layers r h b d m = no-layers f b (rejects-uint 1 MAX-LAYER d)
reads-layers f (single_layer i) r h b d m =
    reads-right (no-set f (show-starts (isnt "{") i r refl))
    (reads-right (rejects-after (reads-uint 1 MAX-LAYER i r h (lit< tt) (no-digits r d)) (λ _. rejects-bind _ (rejects-just "-" m)))
    (reads-left _ (reads-next _ (reads-uint 1 MAX-LAYER i r h (lit< tt) (no-digits r d)) (reads-done (single_layer i) refl))))
reads-layers f (layer_range i j) r h b d m =
    let h' = and_right (leb 1 i) (leb i j && leb j MAX-LAYER) h in
    let i≤j = leb-true i j (and_left (leb i j) (leb j MAX-LAYER) h') in
    let j≤m = leb-true j MAX-LAYER (and_right (leb i j) (leb j MAX-LAYER) h') in
    let one = and_left (leb 1 i) (leb i j && leb j MAX-LAYER) h in
    let p : min i j ≡ i = omega arith in
    let q : max i j ≡ j = omega arith in
    reads-right (no-set f (show-starts (isnt "{") i (45 ∷ show j r) refl))
    (reads-left _ (reads-next _ (reads-uint 1 MAX-LAYER i (45 ∷ show j r) (layer-between i j one i≤j j≤m) (lit< tt) refl)
    (reads-bind (reads-just "-") λ _ _.
    reads-next _ (reads-uint 1 MAX-LAYER j r (layer-between j j (le-leb 1 j (omega (arith, leb-true 1 i one))) (omega arith) j≤m)
    (lit< tt) (no-digits r d))
    (reads-done (layer_range (min i j) (max i j)) (λ k. layer_range (p k) (q k))))))
reads-layers {text} f (layer_set l) r h b d m =
    let o = and_right f.layers.layer_sets (every element_in_range l) h in
    reads-left _ (reads-when f.layers.layer_sets (and_left f.layers.layer_sets (every element_in_range l) h) (reads-bind
    (reads-spanned (put_braces put_element l []) (elements-apart l r o) (reads-layer_set f.layers.hsc1_layer_ranges l r o))
    (λ p e. reads-done (layer_set p) (ap (λ (a : List ℕ). layer_set (or_empty (layer_set_in a))) e ∙ ap layer_set (layer_set-means l o)))))

-- a tilde, or none, is read back
reads-tilde : {text : List ℕ} (f : Features) (t : Bool) (r : List ℕ) → (not t || f.layers.inverted_layers) ≡ true → starts (isnt "~") r ≡ true →
    Reads text (tilde f) (put_tilde t r) (λ x. x ≡ t) r
reads-tilde f true r h s = reads-left _ (reads-when f.layers.inverted_layers h (reads-bind (reads-just "~") λ _ _. reads-done true refl))
reads-tilde f false r h s = reads-right (rejects-when f.layers.inverted_layers (rejects-bind _ (rejects-just "~" s))) (reads-done false refl)

-- a byte that starts no family and nothing that follows one
abbrev pub no_family_nor_tail : Char → Bool
no_family_nor_tail c = fails is_family_char (code c) && every (isnt c) tail_marks

pub family-tail-isnt : (k : Char) (a : List ℕ) (c : Option (List Constraint)) (m : ℤ) (rest : List ℕ) → no_family_nor_tail k ≡ true →
    Whole is_family_char 0 a → after_node rest ≡ true → starts (isnt k) (a ++ tail c m rest) ≡ true
family-tail-isnt k a c m rest h w s =
    family-isnt k (and_left (fails is_family_char (code k)) (every (isnt k) tail_marks) h) (tail c m rest) w
    (starts-listed (isnt k) tail_marks (tail c m rest) (and_right (fails is_family_char (code k)) (every (isnt k) tail_marks) h) (tail-starts c m rest s))

-- the same of a name, whatever follows it
name-isnt : (k : Char) (a r : List ℕ) → fails is_family_char (code k) ≡ true → name_in_range a ≡ true → starts (isnt k) (a ++ r) ≡ true
name-isnt k a r h n = same_first (isnt k) a [] r (name-some a n) (family-isnt k h [] (name-whole a n) refl)

name-no-digit : (a r : List ℕ) → name_in_range a ≡ true → starts not_digit (a ++ r) ≡ true
name-no-digit a r n = same_first not_digit a [] r (name-some a n) (family-no-digit [] (name-whole a n) refl)

-- a tail does not go on with the family
tail-no-family : (c : Option (List Constraint)) (m : ℤ) (rest : List ℕ) → after_node rest ≡ true → run is_family_char (tail c m rest) ≡ 0
unfolding every one_of up_to classify
tail-no-family c m rest s =
    no_run is_family_char (tail c m rest) (starts-listed (fails is_family_char) tail_marks (tail c m rest) refl (tail-starts c m rest s))

-- a multiplier does not start with a brace
multiplier-no-brace : (m : ℤ) (rest : List ℕ) → after_node rest ≡ true → starts (isnt "{") (put_multiplier m rest) ≡ true
unfolding every one_of up_to
multiplier-no-brace m rest s = starts-listed (isnt "{") marks (put_multiplier m rest) refl (multiplier-starts m rest s)

-- Rotations.
pub reads-rotation : {text : List ℕ} (f : Features) (a : List ℕ) (c : Option (List Constraint)) (m : ℤ) (rest : List ℕ) →
    f.generalized_rotations ≡ true → family_in_range a ≡ true → constraints_in_range f c ≡ true → after_node rest ≡ true →
    Reads text (rotation_node f) (64 ∷ (a ++ tail c m rest)) (λ n. (m : ℤ) → map_node (step_of text) (n m) ≡ leaf (rotation a c m))
    (put_multiplier m rest)
unfolding rotation_node map_node step_of
reads-rotation f a c m rest g ha hc s =
    reads-when f.generalized_rotations g (reads-bind (reads-just "@") λ _ _.
    reads-bind (reads-family 0 a (tail c m rest) (family-whole a ha) (omega arith) (tail-no-family c m rest s)) λ p e.
    reads-bind (reads-constraints f c (put_multiplier m rest) hc (multiplier-no-brace m rest s)) λ p' e'.
    reads-done (λ m. leaf (rotation p p' m)) (λ m i. leaf (rotation (e i) (e' i) m)))

-- Moves. What holds of `~`, `{`, every digit and a name's first byte holds of a move's.
layers-starts : (q : ℕ → Bool) (l : Layers (List LayerSetElement)) (r : List ℕ) → every q (123 ∷ up_to 10 48) ≡ true →
    starts q r ≡ true → starts q (put_layers l r) ≡ true
unfolding every
layers-starts q no_layers r h s = s
layers-starts q (single_layer i) r h s = show-starts q i r (and_right (q 123) (every q (up_to 10 48)) h)
layers-starts q (layer_range i j) r h s = show-starts q i (45 ∷ show j r) (and_right (q 123) (every q (up_to 10 48)) h)
layers-starts q (layer_set []) r h s = and_left (q 123) (every q (up_to 10 48)) h
layers-starts q (layer_set (x ∷ l)) r h s = and_left (q 123) (every q (up_to 10 48)) h

pub move-starts : (q : ℕ → Bool) (t : Bool) (l : Layers (List LayerSetElement)) (r : List ℕ) → every q (126 ∷ 123 ∷ up_to 10 48) ≡ true →
    starts q r ≡ true → starts q (put_tilde t (put_layers l r)) ≡ true
unfolding every
move-starts q true l r h s = and_left (q 126) (every q (123 ∷ up_to 10 48)) h
move-starts q false l r h s = layers-starts q l r (and_right (q 126) (every q (123 ∷ up_to 10 48)) h) s

pub reads-move : {text : List ℕ} (f : Features) (t : Bool) (l : Layers (List LayerSetElement)) (a : List ℕ) (c : Option (List Constraint)) (m : ℤ)
    (rest : List ℕ) →
    (not t || f.layers.inverted_layers) ≡ true → layers_in_range f l ≡ true → name_in_range a ≡ true → constraints_in_range f c ≡ true →
    after_node rest ≡ true →
    Reads text (move_node f) (put_tilde t (put_layers l (a ++ tail c m rest))) (λ n. (m : ℤ) → map_node (step_of text) (n m) ≡ leaf (move t l a c m))
    (put_multiplier m rest)
unfolding move_node map_node step_of classify one_of every up_to
reads-move f t l a c m rest ht hl ha hc s =
    reads-next _ (reads-tilde f t (put_layers l (a ++ tail c m rest)) ht
    (layers-starts (isnt "~") l (a ++ tail c m rest) refl (name-isnt "~" a (tail c m rest) refl ha)))
    (reads-bind (reads-layers f l (a ++ tail c m rest) hl (name-isnt "{" a _ refl ha) (name-no-digit a _ ha) (name-isnt "-" a _ refl ha)) λ l' el.
    reads-bind (reads-family 1 a (tail c m rest) (name-whole a ha) (name-some a ha) (tail-no-family c m rest s)) λ p e.
    reads-bind (reads-constraints f c (put_multiplier m rest) hc (multiplier-no-brace m rest s)) λ p' e'.
    reads-done (λ m. leaf (move t l' p p' m)) (λ m i. leaf (move t (el i) (e i) (e' i) m)))
