-- The kinds of nodes told apart: each printed kind is rejected by the kinds that are tried before it. Assumes nothing.
use Prim.Native.Nat.{ℕ, suc, ◌+◌, ◌<◌}
use Prim.Native.Char.{Char, code}
use mathlib.Core.Path.{◌≡◌, refl, ap, ◌∙◌}
use mathlib.Core.Bool.{Bool, true, false, not}
use mathlib.Core.List.{List, [], ◌∷◌, ◌++◌}
use mathlib.Core.Option.{Option}
use lib.Dec.{leb, eqb}
use lib.IntN.{ℤ, pos, negsuc}
use lib.ListN.{length}
use native.Mathlib.Omega.{arith}
use borrow.Author.Tests.{ltb-true, eqb-true}
use Rattle.notation.specs.Basics.{pick, between, every, one_of}
use Rattle.notation.specs.Chars.{is_family_char, classify}
use Rattle.notation.specs.Utf8.{run, run_from, char_width, code_point}
use Rattle.notation.specs.Numbers.{digit_run, show, show_signed, fits_bits}
use Rattle.notation.specs.Layers.{LayerSetElement, MAX-LAYER}
use Rattle.notation.specs.Tree.{Constraint, Layers, no_layers, single_layer, layer_range, layer_set, Tree}
use Rattle.notation.specs.Grammar.{
  Reader,
  read,
  rejected,
  and_then,
  ◌>>=◌,
  just,
  word,
  layer,
  family,
  layer_prefix_contents,
  layer_set_elements,
  tilde,
  rotation_node,
  move_node,
  group_kind,
  group_node,
  binary_group_node,
  megaminx_scramble_move,
  sq1_move,
  node,
  node_by,
}
use Rattle.notation.specs.Print.{put_tilde, put_layers}
use Rattle.notation.specs.declared.features.Features.{Features}
use Rattle.notation.specs.declared.common.GroupKind.TheVariants.{Simple}
use Rattle.laws.proofs.Bools.{not-true}
use Rattle.laws.proofs.InRange.{name_in_range}
use Rattle.laws.proofs.ReadBack.Starts.{not_digit, clash, starts, starts-listed, isnt, not-just, fails, no_run, up_to, Whole, end, char}
use Rattle.laws.proofs.ReadBack.Reads.{
  Reads,
  Rejects,
  reads-done,
  reads-right,
  rejects-bind,
  rejects-after,
  rejects-or,
  rejects-when,
  rejects-just,
}
use Rattle.laws.proofs.ReadBack.Numbers.{rejects-uint, rejects-out, show-starts}
use Rattle.laws.proofs.ReadBack.Parts.{name-whole, name-some}
use Rattle.laws.proofs.ReadBack.Moves.{after_node, no_family_nor_tail, tail, no-layers, family-tail-isnt, reads-layers}

-- No byte that opens a node other than a move: `.` `@` `!` `&` `^` `(` `[` `/`.
abbrev pub openers : List ℕ
openers = 46 ∷ 64 ∷ 33 ∷ 38 ∷ 94 ∷ 40 ∷ 91 ∷ 47 ∷ []

abbrev pub not_opener : ℕ → Bool
not_opener b = not (one_of openers b)

pub no-opener : (c : Char) (s : List ℕ) → one_of openers (code c) ≡ true → starts not_opener s ≡ true → starts (isnt c) s ≡ true
no-opener c [] h e = refl
no-opener c (b ∷ s) h e = go (eqb b (code c)) refl
  where
    go : (t : Bool) → eqb b (code c) ≡ t → not (eqb b (code c)) ≡ true
    go false g = rw g
    go true g = clash (one_of openers b) (ap (one_of openers) (eqb-true b (code c) g) ∙ h) (not-true (one_of openers b) e)

-- Rejections by the first byte.
pub rejects-rotation : {text : List ℕ} (f : Features) {s : List ℕ} → starts (isnt "@") s ≡ true → Rejects text (rotation_node f) s
unfolding rotation_node
rejects-rotation f h = rejects-when f.generalized_rotations (rejects-bind _ (rejects-just "@" h))

-- without a prefix the kind is simple
pub reads-simple : {text : List ℕ} {s : List ℕ} → starts (isnt "!") s ≡ true → starts (isnt "&") s ≡ true → starts (isnt "^") s ≡ true →
    Reads text group_kind s (λ k. k ≡ Simple) s
reads-simple h h' h'' =
    reads-right (rejects-bind _ (rejects-just "!" h)) (reads-right (rejects-bind _ (rejects-just "&" h'))
    (reads-right (rejects-bind _ (rejects-just "^" h'')) (reads-done Simple refl)))

-- no group where neither a prefix nor a parenthesis stands
pub no-group : {text : List ℕ} (list : Reader Tree) {s : List ℕ} →
    starts (isnt "!") s ≡ true → starts (isnt "&") s ≡ true → starts (isnt "^") s ≡ true →
    starts (isnt "(") s ≡ true → Rejects text (group_node list) s
unfolding group_node
no-group list h h' h'' p = rejects-after (reads-simple h h' h'') (λ _. rejects-bind _ (rejects-just "(" p))

pub rejects-group : {text : List ℕ} (list : Reader Tree) {s : List ℕ} → starts not_opener s ≡ true → Rejects text (group_node list) s
unfolding one_of
rejects-group list {s} h = no-group list (no-opener "!" s refl h) (no-opener "&" s refl h) (no-opener "^" s refl h) (no-opener "(" s refl h)

-- no commutator or conjugate
pub rejects-binary : {text : List ℕ} (list : Reader Tree) {s : List ℕ} → starts (isnt "[") s ≡ true → Rejects text (binary_group_node list) s
unfolding binary_group_node
rejects-binary list h = rejects-bind _ (rejects-just "[" h)

rejects-family : {text : List ℕ} {s : List ℕ} → run is_family_char s ≡ 0 → Rejects text (family 1) s
rejects-family e = record { no = λ at _. rw e }

-- no tilde
no-tilde : {text : List ℕ} (f : Features) {s : List ℕ} → starts (isnt "~") s ≡ true → Reads text (tilde f) s (λ t. t ≡ false) s
no-tilde f h = reads-right (rejects-when f.layers.inverted_layers (rejects-bind _ (rejects-just "~" h))) (reads-done false refl)

-- no move where no tilde, no layer and no family stands
pub rejects-move : {text : List ℕ} (f : Features) {s : List ℕ} → starts (isnt "~") s ≡ true → starts (isnt "{") s ≡ true → Rejects text layer s →
    run is_family_char s ≡ 0 → Rejects text (move_node f) s
unfolding move_node
rejects-move f {s} t b d e = rejects-after (no-tilde f t) (λ _. rejects-after (no-layers f b d) (λ _. rejects-bind _ (rejects-family e)))

-- a word whose second character is not there
rejects-second : {text : List ℕ} (c d : Char) {A : Type 0} (g : Unit {0} → Unit {0} → Reader A) (b : ℕ) (s : List ℕ) →
    (eqb b (code c) ≡ true → starts (isnt d) s ≡ true) → Rejects text (◌>>=◌ (just c) (λ x. ◌>>=◌ (just d) (g x))) (b ∷ s)
unfolding just
rejects-second c d g b s h = record { no = λ at _. go (eqb b (code c)) refl at }
  where
    go : (t : Bool) → eqb b (code c) ≡ t → (at : ℕ) →
        and_then (pick t (read tt (at + 1) s) rejected) (λ x at s. and_then (just d at s) (g x)) ≡ rejected
    go true e at = ap (λ o. and_then o (g tt)) (not-just d s (h e) (at + 1))
    go false e at = refl

-- no megaminx word
pub rejects-megaminx : {text : List ℕ} {s : List ℕ} → starts (isnt "R") s ≡ true → starts (isnt "D") s ≡ true → Rejects text megaminx_scramble_move s
unfolding megaminx_scramble_move word
rejects-megaminx h h' =
    rejects-or (rejects-bind _ (rejects-bind _ (rejects-just "R" h))) (rejects-or (rejects-bind _ (rejects-bind _ (rejects-just "R" h)))
    (rejects-or (rejects-bind _ (rejects-bind _ (rejects-just "D" h'))) (rejects-bind _ (rejects-bind _ (rejects-just "D" h')))))

-- no Square-1 move
rejects-sq1 : {text : List ℕ} {s : List ℕ} → starts (isnt "/") s ≡ true → starts (isnt "(") s ≡ true → Rejects text sq1_move s
unfolding sq1_move
rejects-sq1 h h' = rejects-or (rejects-bind _ (rejects-just "/" h)) (rejects-bind _ (rejects-just "(" h'))

-- no node where none opens, no megaminx word stands and no move
pub rejects-node : {text : List ℕ} (f : Features) (list : Reader Tree) (s : List ℕ) → starts not_opener s ≡ true →
    starts (isnt "R") s ≡ true → starts (isnt "D") s ≡ true → Rejects text (move_node f) s → Rejects text (node f list) s
unfolding node_by one_of
rejects-node f list s h r d m =
    rejects-or (rejects-bind _ (rejects-just "." (no-opener "." s refl h)))
    (rejects-or (rejects-when f.megaminx (rejects-bind _ (rejects-megaminx r d)))
    (rejects-or (rejects-bind _
    (rejects-or (rejects-rotation f (no-opener "@" s refl h)) (rejects-or (rejects-group list h)
    (rejects-or (rejects-binary list (no-opener "[" s refl h)) m))))
    (rejects-when f.sq1 (rejects-bind _ (rejects-sq1 (no-opener "/" s refl h) (no-opener "(" s refl h))))))

-- what follows a list: the end, `)` `]` `,` `:`
abbrev pub closers : List ℕ
closers = 41 ∷ 93 ∷ 44 ∷ 58 ∷ []

abbrev pub after_list : List ℕ → Bool
after_list = starts (one_of closers)

-- no node stands there
pub node-stops : {text : List ℕ} (f : Features) (list : Reader Tree) (s : List ℕ) → after_list s ≡ true → Rejects text (node f list) s
unfolding every one_of classify
node-stops f list s h =
    rejects-node f list s (starts-listed not_opener closers s refl h)
    (starts-listed (isnt "R") closers s refl h) (starts-listed (isnt "D") closers s refl h)
    (rejects-move f (starts-listed (isnt "~") closers s refl h) (starts-listed (isnt "{") closers s refl h)
    (rejects-uint 1 MAX-LAYER (starts-listed not_digit closers s refl h))
    (no_run is_family_char s (starts-listed (fails is_family_char) closers s refl h)))

-- A number and a comma are no move, so no node.
pub number-no-move : {text : List ℕ} (f : Features) (i : ℤ) (r : List ℕ) → fits_bits 32 i ≡ true → Rejects text (move_node f) (show_signed i (44 ∷ r))
unfolding move_node layer_prefix_contents layer_set_elements every one_of up_to classify run_from char_width code_point digit_run
number-no-move f (negsuc n) r h = rejects-move f refl refl (rejects-uint 1 MAX-LAYER refl) refl
number-no-move {text} f (pos n) r h = go (between 1 MAX-LAYER n) refl
  where
    plain : starts (isnt "~") (show n (44 ∷ r)) ≡ true
    plain = show-starts (isnt "~") n (44 ∷ r) refl

    go : (t : Bool) → between 1 MAX-LAYER n ≡ t → Rejects text (move_node f) (show n (44 ∷ r))
    go true e =
        rejects-after (no-tilde f plain) (λ _. rejects-after (reads-layers f (single_layer n) (44 ∷ r) e refl refl refl)
        (λ _. rejects-bind _ (rejects-family refl)))
    go false e =
        rejects-move f plain (show-starts (isnt "{") n (44 ∷ r) refl)
        (rejects-out 1 MAX-LAYER n (44 ∷ r) e (omega (arith, ltb-true n 2147483648 h)) refl)
        (no_run is_family_char (show n (44 ∷ r)) (show-starts (fails is_family_char) n (44 ∷ r) refl))

-- A name that starts with R or D is followed by neither `+` nor `-`.
after-letter : (c d : Char) → leb (code c) 0x7f ≡ true → no_family_nor_tail d ≡ true → {k : ℕ} (b : ℕ) {a : List ℕ} →
    char_width (b ∷ a) ≡ suc k → Whole is_family_char k a →
    (cs : Option (List Constraint)) (m : ℤ) (rest : List ℕ) → after_node rest ≡ true → eqb b (code c) ≡ true →
    starts (isnt d) (a ++ tail cs m rest) ≡ true
unfolding char_width
after-letter c d h h' {k} b {a} e w cs m rest s g =
    let low : leb b 0x7f ≡ true = ap (λ (x : ℕ). leb x 0x7f) (eqb-true b (code c) g) ∙ h in
    let one : ◌≡◌ {A = ℕ} 1 (suc k) = rw low at e in
    let none : k ≡ 0 = omega arith in
    family-tail-isnt d a cs m rest h' (rw none at w) s

-- so it is no megaminx word
name-no-megaminx : {text : List ℕ} {a : List ℕ} → Whole is_family_char 0 a → 0 < length a → (c : Option (List Constraint)) (m : ℤ) (rest : List ℕ) →
    after_node rest ≡ true → Rejects text megaminx_scramble_move (a ++ tail c m rest)
unfolding megaminx_scramble_move word every one_of up_to classify
name-no-megaminx end h c m rest s = absurd (omega arith)
name-no-megaminx (char {k} {b} {a} e e' w) h c m rest s =
    rejects-or (rejects-bind _ (rejects-second "R" "+" _ b (a ++ tail c m rest) (λ g. after-letter "R" "+" refl refl b e' w c m rest s g)))
    (rejects-or (rejects-bind _ (rejects-second "R" "-" _ b (a ++ tail c m rest) (λ g. after-letter "R" "-" refl refl b e' w c m rest s g)))
    (rejects-or (rejects-bind _ (rejects-second "D" "+" _ b (a ++ tail c m rest) (λ g. after-letter "D" "+" refl refl b e' w c m rest s g)))
    (rejects-bind _ (rejects-second "D" "-" _ b (a ++ tail c m rest) (λ g. after-letter "D" "-" refl refl b e' w c m rest s g)))))

-- nor is a move
pub move-no-megaminx : {text : List ℕ} (t : Bool) (l : Layers (List LayerSetElement)) (a : List ℕ) (c : Option (List Constraint)) (m : ℤ)
    (rest : List ℕ) →
    name_in_range a ≡ true → after_node rest ≡ true → Rejects text megaminx_scramble_move (put_tilde t (put_layers l (a ++ tail c m rest)))
unfolding every up_to
move-no-megaminx true l a c m rest h s = rejects-megaminx refl refl
move-no-megaminx false no_layers a c m rest h s = name-no-megaminx (name-whole a h) (name-some a h) c m rest s
move-no-megaminx false (single_layer i) a c m rest h s = rejects-megaminx (show-starts (isnt "R") i _ refl) (show-starts (isnt "D") i _ refl)
move-no-megaminx false (layer_range i j) a c m rest h s = rejects-megaminx (show-starts (isnt "R") i _ refl) (show-starts (isnt "D") i _ refl)
move-no-megaminx false (layer_set []) a c m rest h s = rejects-megaminx refl refl
move-no-megaminx false (layer_set (x ∷ l)) a c m rest h s = rejects-megaminx refl refl
