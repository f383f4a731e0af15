-- Nodes that are no groups, as the code reads them. Assumes nothing.
use Prim.Native.Nat.{ℕ, zero, suc, ◌+◌, ◌-◌, ◌≤◌, ◌<◌}
use Prim.Native.Char.{Char, code}
use Prim.Native.String as S
use mathlib.Core.Path.{◌≡◌, refl, sym, ap, ap₂, ◌∙◌}
use mathlib.Core.Bool.{Bool, true, false, ◌&&◌, ◌||◌}
use mathlib.Core.List.{List}
use mathlib.Core.Option.{Option, none, some}
use native.Mathlib.Omega.{arith}
use borrow.Author.Tests.{le-leb, eq-eqb, eqb-false, ne_eqb}
use lib.Dec.{eqb}
use lib.ListN.{drop}
use lib.Seq.{drop-drop}
use lib.IntN.{ℤ, pos, neg_ℤ}
use Rattle.notation.specs.Basics.{pick, one_of}
use Rattle.notation.specs.Chars.{curly_prime_codes, is_family_char, is_prime, white_space}
use Rattle.notation.specs.Utf8.{width_if, run, byte_at}
use Rattle.notation.specs.Tree as tree
use Rattle.notation.specs.Tree.{Span, span, Layers}
use Rattle.notation.specs.Packed.{family_at, leaf_fields}
use Rattle.notation.specs.Grammar.{
  Reading,
  rejected,
  read,
  Reader,
  and_then,
  or_else,
  done,
  when,
  just,
  word,
  uint,
  i32,
  padded,
  prime,
  multiplier,
  constraint_set,
  constraints,
  tilde,
  layer_prefix_contents,
  rotation_node,
  move_node,
  megaminx_scramble_move,
  sq1_move,
}
use Rattle.notation.specs.declared.features.Features.{Features}
use Rattle.notation.specs.declared.common.MegaminxScrambleMove.TheVariants.{Rpp, Rmm, Dpp, Dmm}
use Rattle.charsets.proofs.Texts.{first_byte}
use Rattle.charsets.proofs.Signs.{other-prime}
use Rattle.charsets.proofs.Bools.{contra, and_left, and_right, and-false}
use Rattle.std.specs.Prelude as code
use Rattle.parsed.specs.declared.Parsed.{Parsed}
use Rattle.parsed.specs.Reading.{taken, reading}
use Rattle.numbers.proofs.Bounds.{number as bounded}
use Rattle.parse.proofs.Past.{within, takes-uint}
use Rattle.parse.specs.Meaning.{forget, constraint_end, number, prime_reading, repeated, leaf_read, scramble_read, pair_after, scramble_or_move, twice, scramble_at, scramble_kind}
use Rattle.parse.proofs.Bytes.{other, just-is, just-not, word-not}
use Rattle.parse.proofs.Readings.{took, gone, or-none}
use Rattle.parse.proofs.InBraces.{no-brace, constraint-set-ends}

-- Multipliers: the number, the prime, and both.
module _ (text : List ℕ) (at : ℕ) where
  pub number-or-one : at ≤ code.length text → (r : code.Option (Parsed ℕ)) → reading (λ n. n) text r ≡ uint 0 2147483647 at (drop at text) →
      let p = code.unwrap_or r (record { value = 1; next = at }) in
      (taken (λ n. n) text p ≡ number at (drop at text)) × (p.value ≤ 2147483647) × (p.next ≤ code.length text)
  number-or-one h code.None e = (rw (← e), omega arith, h)
  number-or-one h (code.Some p) e =
      (rw (← e), (bounded 0 2147483647 at (drop at text) p.value p.next (drop p.next text) (sym e)).most, (within text at (takes-uint 0 2147483647) h e).1)

module _ (f : Features) (text : List ℕ) (at : ℕ) where
  pub an-apostrophe : eqb (byte_at text at) 39 ≡ true → prime_reading text at (at + 1) ≡ prime f at (drop at text)
  an-apostrophe e = rw (just-is "'" text at (omega arith) e, ne_eqb (at + 1) at (λ i. omega arith))

  module _ (e : eqb (byte_at text at) 39 ≡ false) where
    pub no-apostrophe : f.curly_primes ≡ false → prime_reading text at at ≡ prime f at (drop at text)
    no-apostrophe off = rw (just-not "'" text at e, off, eq-eqb at at refl)

    -- the width of another prime
    other_width : (r : Bool) → pick r 3 0 ≡ width_if (one_of curly_prime_codes) (drop at text) → width_if is_prime (drop at text) ≡ pick r 3 0
    other_width r w = other-prime (drop at text) (λ i. eqb-false (byte_at text at) 39 e (sym (first_byte text at) ∙ i)) ∙ sym w

    pub no-curly : f.curly_primes ≡ true → 0 ≡ width_if (one_of curly_prime_codes) (drop at text) → prime_reading text at at ≡ prime f at (drop at text)
    no-curly on w = rw (just-not "'" text at e, on, other_width false w, eq-eqb at at refl)

    pub a-curly : f.curly_primes ≡ true → 3 ≡ width_if (one_of curly_prime_codes) (drop at text) → prime_reading text at (at + 3) ≡ prime f at (drop at text)
    a-curly on w = rw (just-not "'" text at e, on, other_width true w, ne_eqb (at + 3) at (λ i. omega arith), drop-drop 3 at text)

  module _ (n next end : ℕ) (times : read n next (drop next text) ≡ number at (drop at text)) (sign : prime_reading text next end ≡ prime f next (drop next text)) where
    pub positive : end ≡ next → read (pos n) next (drop next text) ≡ multiplier f at (drop at text)
    positive e = rw (← times, ← sign, eq-eqb end next e)

    pub negative : (end ≡ next → ⊥) → read (neg_ℤ (pos n)) end (drop end text) ≡ multiplier f at (drop at text)
    negative h = rw (← times, ← sign, ne_eqb end next h)

-- Constraints after a family.
module _ (f : Features) (text : List ℕ) (at : ℕ) where
  pub no-constraints : f.transform_constraints ≡ true → rejected ≡ forget (constraint_set at (drop at text)) → read none at (drop at text) ≡ constraints f at (drop at text)
  no-constraints e q = rw (e, gone (constraint_set at (drop at text)) q)

  pub unopened : (f.transform_constraints && eqb (byte_at text at) 123) ≡ false → read none at (drop at text) ≡ constraints f at (drop at text)
  unopened e = go f.transform_constraints refl e
    where
      go : (b : Bool) → f.transform_constraints ≡ b → (b && eqb (byte_at text at) 123) ≡ false → read none at (drop at text) ≡ constraints f at (drop at text)
      go true w q = no-constraints w (no-brace constraint_end text at q ∙ constraint-set-ends at (drop at text))
      go false w q = rw w

module _ (f : Features) (at : ℕ) (s : List ℕ) where
  pub some-constraints : (next : ℕ) (rest : List ℕ) → f.transform_constraints ≡ true → read tt next rest ≡ forget (constraint_set at s) →
      read (some (span at (next - at))) next rest ≡ constraints f at s
  some-constraints next rest e q = rw (e, (took (constraint_set at s) q).reads)

  pub tilde-off : f.layers.inverted_layers ≡ false → read false at s ≡ tilde f at s
  tilde-off e = rw e

  pub no-tilde : f.layers.inverted_layers ≡ true → just "~" at s ≡ rejected → read false at s ≡ tilde f at s
  no-tilde e q = rw (e, q)

  pub a-tilde : (next : ℕ) (rest : List ℕ) → f.layers.inverted_layers ≡ true → just "~" at s ≡ read tt next rest → read true next rest ≡ tilde f at s
  a-tilde next rest e q = rw (e, q)

-- Rotations.
pub rotations-off : (f : Features) (at : ℕ) (s : List ℕ) → f.generalized_rotations ≡ false → rejected ≡ repeated f (rotation_node f at s)
unfolding rotation_node
rotations-off f at s e = rw e

pub a-rotation : (f : Features) (text : List ℕ) (at end next last : ℕ) (a : Span) (c : Option Span) (m : ℤ) → f.generalized_rotations ≡ true → eqb (byte_at text at) 64 ≡ true →
    end ≡ at + 1 + run is_family_char (drop (at + 1) text) → a ≡ family_at (at + 1) (end - (at + 1)) →
    read c next (drop next text) ≡ constraints f end (drop end text) → read m last (drop last text) ≡ multiplier f next (drop next text) →
    read (leaf_fields (tree.rotation a c m)) last (drop last text) ≡ repeated f (rotation_node f at (drop at text))
unfolding rotation_node
a-rotation f text at end next last a c m on sign e family set times =
    let n : run is_family_char (drop (at + 1) text) ≡ end - (at + 1) = omega arith in
    rw (
      on,
      just-is "@" text at (omega arith) sign,
      le-leb 0 (run is_family_char (drop (at + 1) text)) (omega arith),
      drop-drop (run is_family_char (drop (at + 1) text)) (at + 1) text,
      ← e,
      n,
      ← family,
      ← set,
      ← times,
    )

-- Moves.
module _ (f : Features) (text : List ℕ) (at mark : ℕ) (t : Bool) (from end : ℕ) (l : Layers Span) (sign : read t mark (drop mark text) ≡ tilde f at (drop at text))
    (prefix : read l from (drop from text) ≡ layer_prefix_contents f mark (drop mark text)) (e : end ≡ from + run is_family_char (drop from text)) where
  pub no_move : end ≡ from → rejected ≡ repeated f (move_node f at (drop at text))
  unfolding move_node
  no_move h =
      let z : run is_family_char (drop from text) ≡ 0 = omega arith in
      rw (← sign, ← prefix, z)

  pub a_move : (next last : ℕ) (a : Span) (c : Option Span) (m : ℤ) → (end ≡ from → ⊥) → a ≡ family_at from (end - from) →
      read c next (drop next text) ≡ constraints f end (drop end text) → read m last (drop last text) ≡ multiplier f next (drop next text) →
      read (leaf_fields (tree.move t l a c m)) last (drop last text) ≡ repeated f (move_node f at (drop at text))
  unfolding move_node
  a_move next last a c m h family set times =
      let n : run is_family_char (drop from text) ≡ end - from = omega arith in
      rw (
        ← sign,
        ← prefix,
        le-leb 1 (run is_family_char (drop from text)) (positive (run is_family_char (drop from text)) e),
        drop-drop (run is_family_char (drop from text)) from text,
        ← e,
        n,
        ← family,
        ← set,
        ← times,
      )
    where
      positive : (n : ℕ) → end ≡ from + n → 1 ≤ n
      positive zero p = absurd (h (omega (arith, p)))
      positive (suc n) p = omega arith

-- Scramble moves: a letter and twice a sign.
abbrev three_bytes : List ℕ → ℕ → ℕ → ℕ → Bool
three_bytes text at letter sign = eqb (byte_at text at) letter && twice text (at + 1) sign

module _ (a b : Char) (text : List ℕ) (at : ℕ) (ha : code a < 256) (hb : code b < 256) where
  three-is : three_bytes text at (code a) (code b) ≡ true → word (S.◌∷◌ a (S.◌∷◌ b (S.◌∷◌ b S.[]))) at (drop at text) ≡ read tt (at + 3) (drop (at + 3) text)
  unfolding word
  three-is e =
      let q = and_right (eqb (byte_at text at) (code a)) _ e in
      rw (just-is a text at ha (and_left _ _ e), just-is b text (at + 1) hb (and_left _ _ q), just-is b text (at + 1 + 1) hb (and_right (eqb (byte_at text (at + 1)) (code b)) _ q))
      (ap (λ (n : ℕ). read tt n (drop n text)) (omega arith))

  three-not : three_bytes text at (code a) (code b) ≡ false → word (S.◌∷◌ a (S.◌∷◌ b (S.◌∷◌ b S.[]))) at (drop at text) ≡ rejected
  unfolding word
  three-not e = go (eqb (byte_at text at) (code a)) refl e
    where
      go : (t : Bool) → eqb (byte_at text at) (code a) ≡ t → (t && (eqb (byte_at text (at + 1)) (code b) && eqb (byte_at text (at + 1 + 1)) (code b))) ≡ false →
          and_then (just a at (drop at text)) (λ _. word (S.◌∷◌ b (S.◌∷◌ b S.[]))) ≡ rejected
      go true p q = rw (just-is a text at ha p) (word-not b b text (at + 1) hb q)
      go false p q = rw (just-not a text at p)

module _ (text : List ℕ) (at : ℕ) where
  rpp : three_bytes text at 82 43 ≡ true → read (leaf_fields (tree.megaminx Rpp)) (at + 3) (drop (at + 3) text) ≡ scramble_read (megaminx_scramble_move at (drop at text))
  unfolding megaminx_scramble_move
  rpp e = simp (three-is "R" "+" text at (omega arith) (omega arith) e)

  module _ (n₁ : three_bytes text at 82 43 ≡ false) where
    rmm : three_bytes text at 82 45 ≡ true → read (leaf_fields (tree.megaminx Rmm)) (at + 3) (drop (at + 3) text) ≡ scramble_read (megaminx_scramble_move at (drop at text))
    unfolding megaminx_scramble_move
    rmm e = simp (three-not "R" "+" text at (omega arith) (omega arith) n₁, three-is "R" "-" text at (omega arith) (omega arith) e)

    module _ (n₂ : three_bytes text at 82 45 ≡ false) where
      dpp : three_bytes text at 68 43 ≡ true → read (leaf_fields (tree.megaminx Dpp)) (at + 3) (drop (at + 3) text) ≡ scramble_read (megaminx_scramble_move at (drop at text))
      unfolding megaminx_scramble_move
      dpp e =
          simp (
            three-not "R" "+" text at (omega arith) (omega arith) n₁,
            three-not "R" "-" text at (omega arith) (omega arith) n₂,
            three-is "D" "+" text at (omega arith) (omega arith) e,
          )

      module _ (n₃ : three_bytes text at 68 43 ≡ false) where
        dmm : three_bytes text at 68 45 ≡ true → read (leaf_fields (tree.megaminx Dmm)) (at + 3) (drop (at + 3) text) ≡ scramble_read (megaminx_scramble_move at (drop at text))
        unfolding megaminx_scramble_move
        dmm e =
            simp (
              three-not "R" "+" text at (omega arith) (omega arith) n₁,
              three-not "R" "-" text at (omega arith) (omega arith) n₂,
              three-not "D" "+" text at (omega arith) (omega arith) n₃,
              three-is "D" "-" text at (omega arith) (omega arith) e,
            )

        no-scramble-move : three_bytes text at 68 45 ≡ false → rejected ≡ scramble_read (megaminx_scramble_move at (drop at text))
        unfolding megaminx_scramble_move
        no-scramble-move e =
            simp (
              three-not "R" "+" text at (omega arith) (omega arith) n₁,
              three-not "R" "-" text at (omega arith) (omega arith) n₂,
              three-not "D" "+" text at (omega arith) (omega arith) n₃,
              three-not "D" "-" text at (omega arith) (omega arith) e,
            )

-- by what stands at the place
module _ (text : List ℕ) (at : ℕ) where
  minus : twice text (at + 1) 45 ≡ true → eqb (byte_at text (at + 1)) 43 ≡ false
  minus e = other (byte_at text (at + 1)) 45 43 (λ z. omega arith) (and_left _ _ e)

  pub scramble-stands : scramble_at text at ≡ true →
      read (leaf_fields (tree.megaminx (scramble_kind (eqb (byte_at text at) 82) (eqb (byte_at text (at + 1)) 43)))) (at + 3) (drop (at + 3) text)
      ≡ scramble_read (megaminx_scramble_move at (drop at text))
  scramble-stands e = go (eqb (byte_at text at) 82) (eqb (byte_at text at) 68) (twice text (at + 1) 43) (twice text (at + 1) 45) refl refl refl refl e
    where
      go : (r d p m : Bool) → eqb (byte_at text at) 82 ≡ r → eqb (byte_at text at) 68 ≡ d → twice text (at + 1) 43 ≡ p → twice text (at + 1) 45 ≡ m →
          ((r || d) && (p || m)) ≡ true →
          read (leaf_fields (tree.megaminx (scramble_kind (eqb (byte_at text at) 82) (eqb (byte_at text (at + 1)) 43)))) (at + 3) (drop (at + 3) text)
          ≡ scramble_read (megaminx_scramble_move at (drop at text))
      go true d true m a b q w e = rw (a, and_left (eqb (byte_at text (at + 1)) 43) _ q) (rpp text at (ap₂ ◌&&◌ a q))
      go true d false true a b q w e = rw (a, minus w) (rmm text at (ap₂ ◌&&◌ a q) (ap₂ ◌&&◌ a w))
      go true d false false a b q w e = contra e
      go false true true m a b q w e = rw (a, and_left (eqb (byte_at text (at + 1)) 43) _ q) (dpp text at (ap₂ ◌&&◌ a q) (ap₂ ◌&&◌ a w) (ap₂ ◌&&◌ b q))
      go false true false true a b q w e = rw (a, minus w) (dmm text at (ap₂ ◌&&◌ a q) (ap₂ ◌&&◌ a w) (ap₂ ◌&&◌ b q) (ap₂ ◌&&◌ b w))
      go false true false false a b q w e = contra e
      go false false p m a b q w e = contra e

  scramble-missing : scramble_at text at ≡ false → rejected ≡ scramble_read (megaminx_scramble_move at (drop at text))
  scramble-missing e = go (eqb (byte_at text at) 82) (eqb (byte_at text at) 68) (twice text (at + 1) 43) (twice text (at + 1) 45) refl refl refl refl e
    where
      go : (r d p m : Bool) → eqb (byte_at text at) 82 ≡ r → eqb (byte_at text at) 68 ≡ d → twice text (at + 1) 43 ≡ p → twice text (at + 1) 45 ≡ m →
          ((r || d) && (p || m)) ≡ false → rejected ≡ scramble_read (megaminx_scramble_move at (drop at text))
      go r d false false a b q w e =
          no-scramble-move text at (ap₂ ◌&&◌ a q ∙ and-false r) (ap₂ ◌&&◌ a w ∙ and-false r) (ap₂ ◌&&◌ b q ∙ and-false d) (ap₂ ◌&&◌ b w ∙ and-false d)
      go false false true m a b q w e = no-scramble-move text at (ap₂ ◌&&◌ a q) (ap₂ ◌&&◌ a w) (ap₂ ◌&&◌ b q) (ap₂ ◌&&◌ b w)
      go false false false true a b q w e = no-scramble-move text at (ap₂ ◌&&◌ a q) (ap₂ ◌&&◌ a w) (ap₂ ◌&&◌ b q) (ap₂ ◌&&◌ b w)
      go true d true m a b q w e = contra (sym e)
      go true d false true a b q w e = contra (sym e)
      go false true true m a b q w e = contra (sym e)
      go false true false true a b q w e = contra (sym e)

-- A rule with white space around it.
module _ {A : Type 0} (p : Reader A) (text : List ℕ) (at from : ℕ) (space : from ≡ at + run white_space (drop at text)) where
  pub padded-some : (a : A) (end last : ℕ) → read a end (drop end text) ≡ p from (drop from text) → last ≡ end + run white_space (drop end text) →
      read a last (drop last text) ≡ padded p at (drop at text)
  padded-some a end last q e =
      rw (drop-drop (run white_space (drop at text)) at text, ← space, ← q, drop-drop (run white_space (drop end text)) end text, ← e)

-- Pairs.
abbrev comma : ℤ → Reader (List ℕ)
comma u at s = and_then (just "," at s) (λ _ at s. and_then (padded i32 at s) (λ d at s. and_then (just ")" at s) (λ _. done (leaf_fields (tree.pair u d)))))

module _ (text : List ℕ) (at : ℕ) where
  module _ (u : ℤ) (next : ℕ) (e : read u next (drop next text) ≡ padded i32 at (drop at text)) where
    after-u : {x : Reading (List ℕ)} → x ≡ comma u next (drop next text) → x ≡ pair_after at (drop at text)
    after-u q = q ∙ ap (λ (r : Reading ℤ). and_then r comma) e

    pub no-comma : eqb (byte_at text next) 44 ≡ false → rejected ≡ pair_after at (drop at text)
    no-comma q = after-u (rw (just-not "," text next q))

    module _ (q : eqb (byte_at text next) 44 ≡ true) where
      after-comma : {x : Reading (List ℕ)} →
          x ≡ and_then (padded i32 (next + 1) (drop (next + 1) text)) (λ d at s. and_then (just ")" at s) (λ _. done (leaf_fields (tree.pair u d)))) → x ≡ pair_after at (drop at text)
      after-comma w = after-u (rw (just-is "," text next (omega arith) q) w)

      pub no-d : rejected ≡ padded i32 (next + 1) (drop (next + 1) text) → rejected ≡ pair_after at (drop at text)
      no-d w = after-comma (ap (λ (r : Reading ℤ). and_then r (λ d at s. and_then (just ")" at s) (λ _. done (leaf_fields (tree.pair u d))))) w)

      module _ (d : ℤ) (end : ℕ) (w : read d end (drop end text) ≡ padded i32 (next + 1) (drop (next + 1) text)) where
        pub a_pair : eqb (byte_at text end) 41 ≡ true → read (leaf_fields (tree.pair u d)) (end + 1) (drop (end + 1) text) ≡ pair_after at (drop at text)
        a_pair v =
            after-comma
            (sym (ap (λ (r : Reading (Unit {0})). and_then r (λ _. done (leaf_fields (tree.pair u d)))) (just-is ")" text end (omega arith) v))
            ∙ ap (λ (r : Reading ℤ). and_then r (λ d at s. and_then (just ")" at s) (λ _. done (leaf_fields (tree.pair u d))))) w)

        pub no-close : eqb (byte_at text end) 41 ≡ false → rejected ≡ pair_after at (drop at text)
        no-close v =
            after-comma
            (sym (ap (λ (r : Reading (Unit {0})). and_then r (λ _. done (leaf_fields (tree.pair u d)))) (just-not ")" text end v))
            ∙ ap (λ (r : Reading ℤ). and_then r (λ d at s. and_then (just ")" at s) (λ _. done (leaf_fields (tree.pair u d))))) w)

  paired : (at : ℕ) (s : List ℕ) → pair_after at s ≡ leaf_read (and_then (padded i32 at s) (λ u at s. and_then (just "," at s) (λ _ at s. and_then (padded i32 at s) (λ d at s. and_then (just ")" at s) (λ _. done (tree.pair u d))))))
  paired at s = go (padded i32 at s)
    where
      closed : (u d : ℤ) (r : Reading (Unit {0})) → and_then r (λ _. done (leaf_fields (tree.pair u d))) ≡ leaf_read (and_then r (λ _. done (tree.pair u d)))
      closed u d rejected = refl
      closed u d (read x e t) = refl

      second : (u : ℤ) (r : Reading ℤ) → and_then r (λ d at s. and_then (just ")" at s) (λ _. done (leaf_fields (tree.pair u d)))) ≡ leaf_read (and_then r (λ d at s. and_then (just ")" at s) (λ _. done (tree.pair u d))))
      second u rejected = refl
      second u (read d e t) = closed u d (just ")" e t)

      between : (u : ℤ) (r : Reading (Unit {0})) → and_then r (λ _ at s. and_then (padded i32 at s) (λ d at s. and_then (just ")" at s) (λ _. done (leaf_fields (tree.pair u d)))))
          ≡ leaf_read (and_then r (λ _ at s. and_then (padded i32 at s) (λ d at s. and_then (just ")" at s) (λ _. done (tree.pair u d)))))
      between u rejected = refl
      between u (read x e t) = second u (padded i32 e t)

      go : (r : Reading ℤ) → and_then r comma ≡ leaf_read (and_then r (λ u at s. and_then (just "," at s) (λ _ at s. and_then (padded i32 at s) (λ d at s. and_then (just ")" at s) (λ _. done (tree.pair u d))))))
      go rejected = refl
      go (read u e t) = between u (just "," e t)

  -- Square-1 moves
  pub a-slash : eqb (byte_at text at) 47 ≡ true → read (leaf_fields tree.slash) (at + 1) (drop (at + 1) text) ≡ leaf_read (sq1_move at (drop at text))
  unfolding sq1_move
  a-slash e = rw (just-is "/" text at (omega arith) e)

  pub from-parenthesis : {x : Reading (List ℕ)} → eqb (byte_at text at) 47 ≡ false → eqb (byte_at text at) 40 ≡ true → x ≡ pair_after (at + 1) (drop (at + 1) text) →
      x ≡ leaf_read (sq1_move at (drop at text))
  unfolding sq1_move
  from-parenthesis n e q = rw (just-not "/" text at n, just-is "(" text at (omega arith) e) (q ∙ paired (at + 1) (drop (at + 1) text))

  pub no-sq1 : eqb (byte_at text at) 47 ≡ false → eqb (byte_at text at) 40 ≡ false → rejected ≡ leaf_read (sq1_move at (drop at text))
  unfolding sq1_move
  no-sq1 n m = simp (just-not "/" text at n, just-not "(" text at m)

-- A scramble move, or else a move.
module _ (f : Features) (text : List ℕ) (at : ℕ) where
  abbrev scrambled : Bool → Reading (List ℕ)
  scrambled b = scramble_read (when b megaminx_scramble_move at (drop at text))

  abbrev or_move : Reading (List ℕ) → Reading (List ℕ)
  or_move r = or_else r (λ at s. repeated f (move_node f at s)) at (drop at text)

  pub a-scramble : {x : Reading (List ℕ)} → f.megaminx ≡ true → scramble_at text at ≡ true → x ≡ scramble_read (megaminx_scramble_move at (drop at text)) →
      x ≡ scramble_or_move f at (drop at text)
  a-scramble e n q = let m = scramble-stands text at n in q ∙ sym m ∙ sym (ap (λ (b : Bool). or_move (scrambled b)) e ∙ ap or_move (sym m))

  pub no-scramble : {x : Reading (List ℕ)} → (f.megaminx && scramble_at text at) ≡ false → x ≡ repeated f (move_node f at (drop at text)) → x ≡ scramble_or_move f at (drop at text)
  no-scramble e q = q ∙ sym (or-none (scrambled f.megaminx) (λ at s. repeated f (move_node f at s)) at (drop at text) (go f.megaminx e))
    where
      go : (b : Bool) → (b && scramble_at text at) ≡ false → scrambled b ≡ rejected
      go true e = sym (scramble-missing text at e)
      go false e = refl

-- Square-1 moves where they are admitted.
module _ (f : Features) (at : ℕ) (s : List ℕ) where
  pub sq1-on : {x : Reading (List ℕ)} → f.sq1 ≡ true → x ≡ leaf_read (sq1_move at s) → x ≡ leaf_read (when f.sq1 sq1_move at s)
  sq1-on e q = q ∙ sym (ap (λ (b : Bool). leaf_read (when b sq1_move at s)) e)

  pub sq1-off : f.sq1 ≡ false → rejected ≡ leaf_read (when f.sq1 sq1_move at s)
  sq1-off e = sym (ap (λ (b : Bool). leaf_read (when b sq1_move at s)) e)
