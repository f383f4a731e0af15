-- A node that holds no list, told by its first byte. Assumes nothing.
use Prim.Native.Nat.{ℕ, suc, ◌+◌, ◌≤◌, ◌<◌}
use mathlib.Core.Path.{◌≡◌, refl, sym, ap, ◌∙◌}
use mathlib.Core.Bool.{Bool, true, false}
use mathlib.Core.List.{List, [], ◌∷◌}
use native.Mathlib.Omega.{arith}
use borrow.Author.Tests.{ne_eqb}
use lib.Dec.{eqb}
use lib.ListN.{length, get_or, drop, drop_of_length-le}
use lib.Seq.{drop-cons}
use lib.IntN.{ℤ}
use Rattle.notation.specs.Utf8.{byte_at}
use Rattle.notation.specs.Tree as tree
use Rattle.notation.specs.Tree.{Node, leaf, Leaf}
use Rattle.notation.specs.Packed.{leaf_fields}
use Rattle.notation.specs.Grammar.{Reading, rejected, read, Reader, and_then, or_else, done, fail, when, multiplier, rotation_node, move_node, megaminx_scramble_move, sq1_move, node}
use Rattle.notation.specs.declared.features.Features.{Features}
use Rattle.charsets.proofs.Texts.{in-text, first_byte}
use Rattle.parse.specs.Meaning.{node_fields, repeated, leaf_read, scramble_read, scramble_or_move}
use Rattle.numbers.proofs.Bounds.{just-byte}
use Rattle.parse.proofs.Readings.{assoc, or-none, or-last, when-none}
use Rattle.parse.proofs.Bare.{Bare, bare-move, bare-node, bare-end, bare-parenthesis, bare-slash, bare-at-sign}
use Rattle.parse.proofs.Choices.{or_same, times, pause, scramble, sq1, inner, node-by, by-same, inner-fail, no-pause, scramble-none, rotation-none, sq1-none}

abbrev pub headed : Reading (Node Leaf) → Reading (List ℕ)
headed r = and_then r (λ n. done (node_fields n))

head-or : (r : Reading (Node Leaf)) (q : Reader (Node Leaf)) (at : ℕ) (s : List ℕ) → headed (or_else r q at s) ≡ or_else (headed r) (λ at s. headed (q at s)) at s
head-or rejected q at s = refl
head-or (read n e t) q at s = refl

head-times : (f : Features) (r : Reading (ℤ → Node Leaf)) → headed (and_then r (times f)) ≡ repeated f r
head-times f rejected = refl
head-times f (read i e t) = sym (assoc (multiplier f e t) (λ m. done (i m)) (λ n. done (node_fields n)))

head-leaf : {A : Type 0} (b : Bool) (p : Reader A) (x : A → Leaf) (at : ℕ) (s : List ℕ) →
    headed (when b (λ at s. and_then (p at s) (λ a. done (leaf (x a)))) at s) ≡ and_then (when b p at s) (λ a. done (leaf_fields (x a)))
head-leaf true p x at s = sym (assoc (p at s) (λ a. done (leaf (x a))) (λ n. done (node_fields n)))
head-leaf false p x at s = refl

-- the choices of a node without lists
module _ (f : Features) where
  abbrev last : Reader (List ℕ)
  last at s = leaf_read (when f.sq1 sq1_move at s)

  abbrev turned : Reader (List ℕ)
  turned at s = repeated f (or_else (rotation_node f at s) (move_node f) at s)

  abbrev scrambled : Reader (List ℕ)
  scrambled at s = scramble_read (when f.megaminx megaminx_scramble_move at s)

  abbrev either : Reader (ℤ → Node Leaf)
  either at s = or_else (rotation_node f at s) (move_node f) at s

  -- from the rule of rotations on, and from that of scramble moves on
  late : (at : ℕ) (s : List ℕ) → headed (or_else (and_then (either at s) (times f)) (sq1 f) at s) ≡ or_else (turned at s) last at s
  late at s =
      head-or (and_then (either at s) (times f)) (sq1 f) at s
      ∙ ap (λ (r : Reading (List ℕ)). or_else r (λ at s. headed (sq1 f at s)) at s) (head-times f (either at s))
      ∙ or_same (turned at s) (λ at s. headed (sq1 f at s)) last at s (head-leaf f.sq1 sq1_move (λ x. x) at s)

  middle : (at : ℕ) (s : List ℕ) →
      headed (or_else (scramble f at s) (λ at s. or_else (and_then (either at s) (times f)) (sq1 f) at s) at s) ≡ or_else (scrambled at s) (λ at s. or_else (turned at s) last at s) at s
  middle at s =
      head-or (scramble f at s) (λ at s. or_else (and_then (either at s) (times f)) (sq1 f) at s) at s
      ∙ ap (λ (r : Reading (List ℕ)). or_else r (λ at s. headed (or_else (and_then (either at s) (times f)) (sq1 f) at s)) at s) (head-leaf f.megaminx megaminx_scramble_move tree.megaminx at s)
      ∙ or_same (scrambled at s) (λ at s. headed (or_else (and_then (either at s) (times f)) (sq1 f) at s)) (λ at s. or_else (turned at s) last at s) at s (late at s)

  choices : (at : ℕ) (s : List ℕ) → headed (node f fail at s) ≡ or_else (headed (pause at s)) (λ at s. or_else (scrambled at s) (λ at s. or_else (turned at s) last at s) at s) at s
  choices at s =
      ap headed (node-by f fail at s ∙ by-same f (inner f fail) either at s (inner-fail f at s))
      ∙ head-or (pause at s) (λ at s. or_else (scramble f at s) (λ at s. or_else (and_then (either at s) (times f)) (sq1 f) at s) at s) at s
      ∙ or_same (headed (pause at s)) (λ at s. headed (or_else (scramble f at s) (λ at s. or_else (and_then (either at s) (times f)) (sq1 f) at s) at s))
      (λ at s. or_else (scrambled at s) (λ at s. or_else (turned at s) last at s) at s) at s (middle at s)

-- The answers of `leaf`.
module _ (f : Features) (text : List ℕ) (at : ℕ) where
  module _ (h : at < length text) where
    byte : (k : ℕ) → (get_or text at 0 ≡ k → ⊥) → eqb (byte_at (drop at text) 0) k ≡ false
    byte k n = ap (λ (x : ℕ). eqb x k) (first_byte text at ∙ sym (in-text text at h)) ∙ ne_eqb (get_or text at 0) k n

    bare : (k : ℕ) → get_or text at 0 ≡ k → ((u : List ℕ) → Bare (k ∷ u)) → Bare (drop at text)
    bare k e b = rw (drop-cons text at 0, e) (b (drop (suc at) text))

    pub is-pause : get_or text at 0 ≡ 46 → read (leaf_fields tree.pause) (at + 1) (drop (at + 1) text) ≡ headed (node f fail at (drop at text))
    is-pause e =
        sym
        (choices f at (drop at text)
        ∙ ap (λ (r : Reading (Unit {0})). or_else (headed (and_then r (λ _. done (leaf tree.pause)))) (λ at s. or_else (scrambled f at s) (λ at s. or_else (turned f at s) (last f) at s) at s) at (drop at text))
        (just-byte "." text at h e))

    -- past the rules that start with `.`, `R` or `D`
    later : (get_or text at 0 ≡ 46 → ⊥) → (get_or text at 0 ≡ 82 → ⊥) → (get_or text at 0 ≡ 68 → ⊥) →
        headed (node f fail at (drop at text)) ≡ or_else (turned f at (drop at text)) (last f) at (drop at text)
    later p r d =
        choices f at (drop at text)
        ∙ or-none (headed (pause at (drop at text))) _ at (drop at text) (ap headed (no-pause f at (drop at text) (byte 46 p)))
        ∙ or-none (scrambled f at (drop at text)) _ at (drop at text)
        (ap scramble_read (when-none f.megaminx megaminx_scramble_move at (drop at text) (scramble-none f at (drop at text) (byte 82 r) (byte 68 d))))

    no_last : (get_or text at 0 ≡ 47 → ⊥) → (get_or text at 0 ≡ 40 → ⊥) → last f at (drop at text) ≡ rejected
    no_last a b = ap leaf_read (when-none f.sq1 sq1_move at (drop at text) (sq1-none f at (drop at text) (byte 47 a) (byte 40 b)))

    pub is-rotation : {x : Reading (List ℕ)} → get_or text at 0 ≡ 64 → x ≡ repeated f (rotation_node f at (drop at text)) → x ≡ headed (node f fail at (drop at text))
    is-rotation e q =
        q
        ∙ sym
        (later (λ z. omega arith) (λ z. omega arith) (λ z. omega arith)
        ∙ or-last (turned f at (drop at text)) (last f) at (drop at text) (no_last (λ z. omega arith) (λ z. omega arith))
        ∙ ap (repeated f) (or-last (rotation_node f at (drop at text)) (move_node f) at (drop at text) (bare-move f at (drop at text) (bare 64 e bare-at-sign))))

    square : {x : Reading (List ℕ)} (k : ℕ) → get_or text at 0 ≡ k → ((u : List ℕ) → Bare (k ∷ u)) → (k ≡ 46 → ⊥) → (k ≡ 82 → ⊥) → (k ≡ 68 → ⊥) → (k ≡ 64 → ⊥) →
        x ≡ last f at (drop at text) → x ≡ headed (node f fail at (drop at text))
    square k e b n₁ n₂ n₃ n₄ q =
        q
        ∙ sym
        (ap headed
        (bare-node f at (drop at text) (bare k e b) (byte 46 (λ z. n₁ (sym e ∙ z))) (byte 82 (λ z. n₂ (sym e ∙ z))) (byte 68 (λ z. n₃ (sym e ∙ z))) (byte 64 (λ z. n₄ (sym e ∙ z))))
        ∙ head-leaf f.sq1 sq1_move (λ x. x) at (drop at text))

    pub is-parenthesis : {x : Reading (List ℕ)} → get_or text at 0 ≡ 40 → x ≡ last f at (drop at text) → x ≡ headed (node f fail at (drop at text))
    is-parenthesis e q = square 40 e bare-parenthesis (λ z. omega arith) (λ z. omega arith) (λ z. omega arith) (λ z. omega arith) q

    pub is-slash : {x : Reading (List ℕ)} → get_or text at 0 ≡ 47 → x ≡ last f at (drop at text) → x ≡ headed (node f fail at (drop at text))
    is-slash e q = square 47 e bare-slash (λ z. omega arith) (λ z. omega arith) (λ z. omega arith) (λ z. omega arith) q

    pub is-other : {x : Reading (List ℕ)} → (get_or text at 0 ≡ 46 → ⊥) → (get_or text at 0 ≡ 64 → ⊥) → (get_or text at 0 ≡ 40 → ⊥) → (get_or text at 0 ≡ 47 → ⊥) →
        x ≡ scramble_or_move f at (drop at text) → x ≡ headed (node f fail at (drop at text))
    is-other p a o s q =
        q
        ∙ sym
        (choices f at (drop at text)
        ∙ or-none (headed (pause at (drop at text))) _ at (drop at text) (ap headed (no-pause f at (drop at text) (byte 46 p)))
        ∙ or_same (scrambled f at (drop at text)) _ _ at (drop at text)
        (or-last (turned f at (drop at text)) (last f) at (drop at text) (no_last s o)
        ∙ ap (repeated f) (or-none (rotation_node f at (drop at text)) (move_node f) at (drop at text) (rotation-none f at (drop at text) (byte 64 a)))))

  pub is-end : length text ≤ at → rejected ≡ headed (node f fail at (drop at text))
  is-end h = rw (drop_of_length-le text h) (sym all)
    where
      all : headed (node f fail at []) ≡ rejected
      all =
          ap headed (bare-node f at [] bare-end refl refl refl refl)
          ∙ head-leaf f.sq1 sq1_move (λ x. x) at []
          ∙ ap leaf_read (when-none f.sq1 sq1_move at [] (sq1-none f at [] refl refl))
