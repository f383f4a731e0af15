-- Leaves: each printed step is read back. Assumes nothing.
use Prim.Native.Nat.{ℕ, zero, suc, ◌+◌}
use mathlib.Core.Path.{◌≡◌, refl, ap, ◌∙◌}
use mathlib.Core.Bool.{Bool, true, ◌&&◌}
use mathlib.Core.List.{List, [], ◌∷◌, ◌++◌}
use mathlib.Core.Option.{Option}
use lib.Dec.{leb, lit<}
use lib.IntN.{ℤ, pos, negsuc}
use lib.ListN.{length}
use native.Mathlib.Omega.{arith}
use borrow.Author.Tests.{ltb-true, le-leb, not-false}
use Rattle.notation.specs.Basics.{every, one_of}
use Rattle.notation.specs.Chars.{is_family_char, white_space, classify}
use Rattle.notation.specs.Utf8.{run, run_from, char_width, code_point}
use Rattle.notation.specs.Numbers.{digit_run, show_signed, fits_bits}
use Rattle.notation.specs.Layers.{LayerSetElement, MAX-LAYER}
use Rattle.notation.specs.Tree.{Constraint, Layers, Leaf, Step, rotation, move, pause, pair, slash, megaminx, Node, leaf, nil, cons, Tree, map_node}
use Rattle.notation.specs.Grammar.{
  Reader,
  read,
  ◌or◌,
  ◌>>=◌,
  just,
  word,
  i32,
  rotation_node,
  move_node,
  group_node,
  binary_group_node,
  megaminx_scramble_move,
  sq1_move,
  node,
  node_list,
  more_of,
  some_whitespace,
  node_by,
  node_list_by,
}
use Rattle.notation.specs.Meaning.{step_of}
use Rattle.notation.specs.Print.{put_multiplier, put_tilde, put_layers, put_megaminx, put_step}
use Rattle.notation.specs.WellFormed.{multiplier_ok}
use Rattle.notation.specs.declared.features.Features.{Features}
use Rattle.notation.specs.declared.common.MegaminxScrambleMove.{MegaminxScrambleMove}
use Rattle.notation.specs.declared.common.MegaminxScrambleMove.TheVariants.{Rpp, Rmm, Dpp, Dmm}
use Rattle.laws.proofs.Bools.{and_left, and_right, and_both}
use Rattle.laws.proofs.InRange.{name_in_range, step_in_range}
use Rattle.laws.proofs.ReadBack.Printed.{RotationOk, MoveOk, rotation-ok, move-ok}
use Rattle.laws.proofs.ReadBack.Starts.{same_first, starts, isnt, fails, up_to, listed, family-starts}
use Rattle.laws.proofs.ReadBack.Reads.{
  Reads,
  Rejects,
  reads-done,
  reads-bind,
  reads-next,
  reads-left,
  reads-right,
  reads-when,
  reads-part,
  reads-padded,
  reads-spaced,
  rejects-bind,
  rejects-after,
  rejects-or,
  rejects-when,
  reads-just,
  rejects-just,
}
use Rattle.laws.proofs.ReadBack.Numbers.{reads-sint, rejects-uint, signed_between, signed-starts}
use Rattle.laws.proofs.ReadBack.Braces.{collect-stops}
use Rattle.laws.proofs.ReadBack.Parts.{tight-signed, name-whole, name-some}
use Rattle.laws.proofs.ReadBack.Moves.{after_node, tail, move-starts, reads-multiplier, reads-rotation, reads-move}
use Rattle.laws.proofs.ReadBack.Kinds.{
  openers,
  not_opener,
  no-opener,
  rejects-rotation,
  no-group,
  rejects-group,
  rejects-binary,
  rejects-move,
  rejects-megaminx,
  rejects-node,
  reads-simple,
  number-no-move,
  move-no-megaminx,
}

-- a node that waits for its multiplier
abbrev pub inner : Features → Reader Tree → Reader (ℤ → Node Leaf)
inner f list = ◌or◌ (rotation_node f) (◌or◌ (group_node list) (◌or◌ (binary_group_node list) (move_node f)))

abbrev pub Waits : List ℕ → (ℤ → Node Step) → (ℤ → Node Leaf) → Type 0
Waits text x n = (m : ℤ) → map_node (step_of text) (n m) ≡ x m

-- with its multiplier it is read back
pub reads-repeatable : {text : List ℕ} (f : Features) (list : Reader Tree) {s : List ℕ} (m : ℤ) (rest : List ℕ) (x : ℤ → Node Step) →
    starts (isnt ".") s ≡ true → Rejects text megaminx_scramble_move s → Reads text (inner f list) s (Waits text x) (put_multiplier m rest) →
    multiplier_ok m ≡ true → after_node rest ≡ true → Reads text (node f list) s (λ n. map_node (step_of text) n ≡ x m) rest
unfolding node_by
reads-repeatable f list m rest x h w i hm s =
    reads-right (rejects-bind _ (rejects-just "." h)) (reads-right (rejects-when f.megaminx (rejects-bind _ w))
    (reads-left _ (reads-bind i λ n e. reads-next _ (reads-multiplier f m rest hm s) (reads-done (n m) (e m)))))

-- Rotations and moves.
rotation-node : {text : List ℕ} (f : Features) (list : Reader Tree) (a : List ℕ) (c : Option (List Constraint)) (m : ℤ) (rest : List ℕ) →
    RotationOk f a c m → after_node rest ≡ true →
    Reads text (node f list) (64 ∷ (a ++ tail c m rest)) (λ n. map_node (step_of text) n ≡ leaf (rotation a c m)) rest
rotation-node f list a c m rest o s =
    reads-repeatable f list m rest (λ m. leaf (rotation a c m)) refl (rejects-megaminx refl refl)
    (reads-left _ (reads-rotation f a c m rest o.admitted o.family o.constraints s)) o.multiplier s

name-not_opener : (a r : List ℕ) → name_in_range a ≡ true → starts not_opener (a ++ r) ≡ true
unfolding every one_of classify
name-not_opener a r h =
    same_first not_opener a [] r (name-some a h)
    (family-starts not_opener (λ b g. listed (fails is_family_char) openers b refl (not-false (one_of openers b) g)) [] (name-whole a h) refl)

move-node : {text : List ℕ} (f : Features) (list : Reader Tree) (t : Bool) (l : Layers (List LayerSetElement)) (a : List ℕ)
    (c : Option (List Constraint)) (m : ℤ) (rest : List ℕ) → MoveOk f t l a c m → after_node rest ≡ true →
    Reads text (node f list) (put_tilde t (put_layers l (a ++ tail c m rest))) (λ n. map_node (step_of text) n ≡ leaf (move t l a c m)) rest
unfolding every one_of up_to
move-node f list t l a c m rest o s =
    let s' : List ℕ = put_tilde t (put_layers l (a ++ tail c m rest)) in
    let e : starts not_opener s' ≡ true = move-starts not_opener t l (a ++ tail c m rest) refl (name-not_opener a (tail c m rest) o.family) in
    reads-repeatable f list m rest (λ m. leaf (move t l a c m)) (no-opener "." s' refl e) (move-no-megaminx t l a c m rest o.family s)
    (reads-right (rejects-rotation f (no-opener "@" s' refl e))
    (reads-right (rejects-group list e)
    (reads-right (rejects-binary list (no-opener "[" s' refl e))
    (reads-move f t l a c m rest o.tilde o.layers o.family o.constraints s))))
    o.multiplier s

-- Megaminx words.
three : (k : MegaminxScrambleMove) (at : ℕ) (rest : List ℕ) → read k (at + 1 + 1 + 1) rest ≡ read k (at + 3) rest
three k at rest = ap (λ (n : ℕ). read k n rest) (omega arith)

reads-megaminx : {text : List ℕ} (k : MegaminxScrambleMove) (rest : List ℕ) → Reads text megaminx_scramble_move (put_megaminx k rest) (λ x. x ≡ k) rest
unfolding megaminx_scramble_move word just
reads-megaminx Rpp rest = reads-part (82 ∷ 43 ∷ 43 ∷ []) Rpp refl (λ at. three Rpp at rest)
reads-megaminx Rmm rest = reads-part (82 ∷ 45 ∷ 45 ∷ []) Rmm refl (λ at. three Rmm at rest)
reads-megaminx Dpp rest = reads-part (68 ∷ 43 ∷ 43 ∷ []) Dpp refl (λ at. three Dpp at rest)
reads-megaminx Dmm rest = reads-part (68 ∷ 45 ∷ 45 ∷ []) Dmm refl (λ at. three Dmm at rest)

megaminx-dot : (k : MegaminxScrambleMove) (rest : List ℕ) → starts (isnt ".") (put_megaminx k rest) ≡ true
megaminx-dot Rpp rest = refl
megaminx-dot Rmm rest = refl
megaminx-dot Dpp rest = refl
megaminx-dot Dmm rest = refl

megaminx-node : {text : List ℕ} (f : Features) (list : Reader Tree) (k : MegaminxScrambleMove) (rest : List ℕ) → f.megaminx ≡ true →
    Reads text (node f list) (put_megaminx k rest) (λ n. map_node (step_of text) n ≡ leaf (megaminx k)) rest
unfolding node_by map_node step_of
megaminx-node f list k rest h =
    reads-right (rejects-bind _ (rejects-just "." (megaminx-dot k rest)))
    (reads-left _ (reads-when f.megaminx h
    (reads-bind (reads-megaminx k rest) λ x e. reads-done (leaf (megaminx x)) (ap (λ (y : MegaminxScrambleMove). leaf (megaminx y)) e))))

-- Square-1: read where neither a pause, a word nor a node that can be repeated stands.
sq1-node : {text : List ℕ} (f : Features) (list : Reader Tree) {s : List ℕ} (x : Leaf) (y : Step) (rest : List ℕ) →
    f.sq1 ≡ true → step_of text x ≡ y → starts (isnt ".") s ≡ true →
    Rejects text megaminx_scramble_move s → Rejects text (inner f list) s → Reads text sq1_move s (λ z. z ≡ x) rest →
    Reads text (node f list) s (λ n. map_node (step_of text) n ≡ leaf y) rest
unfolding node_by map_node
sq1-node {text} f list x y rest h g d m i r =
    reads-right (rejects-bind _ (rejects-just "." d)) (reads-right (rejects-when f.megaminx (rejects-bind _ m))
    (reads-right (rejects-bind _ i)
    (reads-when f.sq1 h (reads-bind r λ z e. reads-done (leaf z) (ap (λ (l : Leaf). leaf (step_of text l)) e ∙ ap leaf g)))))

slash-node : {text : List ℕ} (f : Features) (list : Reader Tree) (rest : List ℕ) → f.sq1 ≡ true →
    Reads text (node f list) (47 ∷ rest) (λ n. map_node (step_of text) n ≡ leaf slash) rest
unfolding sq1_move step_of one_of run_from char_width code_point classify
slash-node f list rest h =
    sq1-node f list slash slash rest h refl refl (rejects-megaminx refl refl)
    (rejects-or (rejects-rotation f refl) (rejects-or (no-group list refl refl refl refl) (rejects-or (rejects-binary list refl)
    (rejects-move f refl refl (rejects-uint 1 MAX-LAYER refl) refl))))
    (reads-left _ (reads-bind (reads-just "/") λ _ _. reads-done slash refl))

-- a pair's first number is no list, so that its parenthesis opens no group
pair-no-list : {text : List ℕ} (f : Features) (k : ℕ) (u : ℤ) (r : List ℕ) → fits_bits 32 u ≡ true → {A : Type 0} (g : Tree → Unit {0} → Reader A) →
    Rejects text (◌>>=◌ (node_list f k) (λ a. ◌>>=◌ (just ")") (g a))) (show_signed u (44 ∷ r))
unfolding node_list_by every one_of up_to white_space
pair-no-list f zero u r h g = record { no = λ at _. refl }
pair-no-list f (suc k) u r h g =
    let s : List ℕ = show_signed u (44 ∷ r) in
    let w : run white_space s ≡ 0 = tight-signed u (44 ∷ r) in
    rejects-after
    (reads-padded w w (collect-stops cons nil (λ s. more_of cons nil (node f (node_list f k)) some_whitespace (length s)) {Q = λ _. Unit {0}} tt
    (rejects-node f (node_list f k) s (signed-starts not_opener u (44 ∷ r) refl)
    (signed-starts (isnt "R") u (44 ∷ r) refl) (signed-starts (isnt "D") u (44 ∷ r) refl) (number-no-move f u r h))))
    (λ a. rejects-bind (g a) (rejects-just ")" (signed-starts (isnt ")") u (44 ∷ r) refl)))

i32-ok : (i : ℤ) → fits_bits 32 i ≡ true → signed_between 0 2147483647 2147483648 i ≡ true
i32-ok (pos n) h =
    and_both (leb 0 n) (leb n 2147483647) (le-leb 0 n (omega arith)) (le-leb n 2147483647 (omega (arith, ltb-true n 2147483648 h)))
i32-ok (negsuc n) h =
    and_both (leb 0 (suc n)) (leb (suc n) 2147483648) (le-leb 0 (suc n) (omega arith))
    (le-leb (suc n) 2147483648 (omega (arith, ltb-true n 2147483648 h)))

-- a signed 32-bit number is read back
reads-i32 : {text : List ℕ} (i : ℤ) (r : List ℕ) → fits_bits 32 i ≡ true → digit_run r ≡ 0 → Reads text i32 (show_signed i r) (λ x. x ≡ i) r
reads-i32 i r h e = reads-sint 0 2147483647 2147483648 i r (i32-ok i h) (lit< tt) (lit< tt) e

pair-node : {text : List ℕ} (f : Features) (k : ℕ) (u d : ℤ) (rest : List ℕ) → (f.sq1 && (fits_bits 32 u && fits_bits 32 d)) ≡ true →
    Reads text (node f (node_list f k)) (40 ∷ show_signed u (44 ∷ 32 ∷ show_signed d (41 ∷ rest))) (λ n. map_node (step_of text) n ≡ leaf (pair u d)) rest
unfolding sq1_move step_of one_of run_from char_width code_point classify white_space group_node digit_run
pair-node f k u d rest h =
    let h' = and_right f.sq1 (fits_bits 32 u && fits_bits 32 d) h in
    let hu = and_left (fits_bits 32 u) (fits_bits 32 d) h' in
    let hd = and_right (fits_bits 32 u) (fits_bits 32 d) h' in
    sq1-node f (node_list f k) (pair u d) (pair u d) rest (and_left f.sq1 (fits_bits 32 u && fits_bits 32 d) h) refl refl (rejects-megaminx refl refl)
    (rejects-or (rejects-rotation f refl) (rejects-or
    (rejects-after (reads-simple refl refl refl)
    (λ _. rejects-after (reads-just "(") (λ _. pair-no-list f k u (32 ∷ show_signed d (41 ∷ rest)) hu _)))
    (rejects-or (rejects-binary (node_list f k) refl) (rejects-move f refl refl (rejects-uint 1 MAX-LAYER refl) refl))))
    (reads-right (rejects-bind _ (rejects-just "/" refl)) (reads-bind (reads-just "(") λ _ _.
    reads-next _ (reads-padded (tight-signed u _) refl (reads-i32 u (44 ∷ 32 ∷ show_signed d (41 ∷ rest)) hu refl))
    (reads-bind (reads-just ",") λ _ _.
    reads-next _ (reads-spaced (tight-signed d _) refl (reads-i32 d (41 ∷ rest) hd refl))
    (reads-bind (reads-just ")") λ _ _. reads-done (pair u d) refl))))

pause-node : {text : List ℕ} (f : Features) (list : Reader Tree) (rest : List ℕ) →
    Reads text (node f list) (46 ∷ rest) (λ n. map_node (step_of text) n ≡ leaf pause) rest
unfolding node_by map_node step_of
pause-node f list rest = reads-left _ (reads-bind (reads-just ".") λ _ _. reads-done (leaf pause) refl)

-- Every step.
pub reads-step : {text : List ℕ} (f : Features) (k : ℕ) (x : Step) (rest : List ℕ) → step_in_range f x ≡ true → after_node rest ≡ true →
    Reads text (node f (node_list f k)) (put_step x rest) (λ n. map_node (step_of text) n ≡ leaf x) rest
unfolding step_in_range put_step
reads-step f k (rotation a c m) rest h s = rotation-node f (node_list f k) a c m rest (rotation-ok f a c m h) s
reads-step f k (move t l a c m) rest h s = move-node f (node_list f k) t l a c m rest (move-ok f t l a c m h) s
reads-step f k pause rest h s = pause-node f (node_list f k) rest
reads-step f k (pair u d) rest h s = pair-node f k u d rest h
reads-step f k slash rest h s = slash-node f (node_list f k) rest h
reads-step f k (megaminx w) rest h s = megaminx-node f (node_list f k) w rest h
