-- Elements of constraint sets: where one ends, by the runs of its families and of the white space around its sign. Assumes nothing.
use Prim.Native.Nat.{ℕ, zero, suc, ◌+◌, ◌≤◌, ◌<◌}
use Prim.Native.Char.{Char, code}
use Prim.Native.String as S
use mathlib.Core.Path.{◌≡◌, refl}
use mathlib.Core.Bool.{Bool, true, false, ◌||◌}
use mathlib.Core.List.{List}
use native.Mathlib.Omega.{arith}
use borrow.Author.Tests.{lt-ltb}
use lib.ListN.{length, take, drop}
use lib.Seq.{drop-drop}
use Rattle.notation.specs.Chars.{is_family_char, white_space}
use Rattle.notation.specs.Utf8.{run, byte_at}
use Rattle.notation.specs.Grammar.{Reading, rejected, read, or_else, word, padded, family_text, constraint}
use Rattle.parse.specs.Meaning.{forget, sign_at}
use Rattle.parse.proofs.Bytes.{two, word-is, word-not, two-inside, two-other}

-- a family of at least one character, and none
module _ (text : List ℕ) (at end : ℕ) (e : end ≡ at + run is_family_char (drop at text)) where
  no-family : end ≤ at → family_text at (drop at text) ≡ rejected
  no-family h =
      let z : run is_family_char (drop at text) ≡ 0 = omega arith in
      rw z

  a-family : at < end → family_text at (drop at text) ≡ read (take (run is_family_char (drop at text)) (drop at text)) end (drop end text)
  a-family h = rw (lt-ltb 0 (run is_family_char (drop at text)) (omega arith), drop-drop, ← e)

-- where a sign stands, the text is long enough for it
pub sign-inside : (text : List ℕ) (at : ℕ) → sign_at text at ≡ true → at + 2 ≤ length text
sign-inside text at = go (two text at 45 62) refl
  where
    go : (x : Bool) → two text at 45 62 ≡ x → (x || two text at 60 62) ≡ true → at + 2 ≤ length text
    go true p e = two-inside "-" ">" text at (omega arith) (omega arith) p
    go false p e = two-inside "<" ">" text at (omega arith) (omega arith) e

-- An element of a constraint set: the first family ends at `to`.
module _ (text : List ℕ) (at to : ℕ) (first : to ≡ at + run is_family_char (drop at text)) where
  pub no-constraint : to ≡ at → rejected ≡ forget (constraint at (drop at text))
  no-constraint h = simp (no-family text at to first (omega arith))

  -- it is no empty one, and a sign is looked for at `sign`
  module _ (h : to ≡ at → ⊥) (sign : ℕ) (space : sign ≡ to + run white_space (drop to text)) where
    some : family_text at (drop at text) ≡ read (take (run is_family_char (drop at text)) (drop at text)) to (drop to text)
    some = a-family text at to first (later (run is_family_char (drop at text)) first)
      where
        later : (n : ℕ) → to ≡ at + n → at < to
        later zero p = absurd (h (omega (arith, p)))
        later (suc n) p = omega (arith, p)

    no_sign : (c d : Char) → code c < 256 → two text sign (code c) (code d) ≡ false → padded (word (S.◌∷◌ c (S.◌∷◌ d S.[]))) to (drop to text) ≡ rejected
    no_sign c d l e = rw (drop-drop (run white_space (drop to text)) to text, ← space, word-not c d text sign l e)

    pub alone : sign_at text sign ≡ false → read tt to (drop to text) ≡ forget (constraint at (drop at text))
    alone = go (two text sign 45 62) refl
      where
        go : (x : Bool) → two text sign 45 62 ≡ x → (x || two text sign 60 62) ≡ false → read tt to (drop to text) ≡ forget (constraint at (drop at text))
        go true p e = absurd (let z : ◌≡◌ {A = ℕ} 0 1 = cc in omega arith)
        go false p e = simp (some, no_sign "-" ">" (omega arith) p, no_sign "<" ">" (omega arith) e)

    -- a sign stands there, and a family is looked for at `from`: the element ends after it, or else after the first
    module _ (s : sign_at text sign ≡ true) (from end : ℕ) (space₂ : from ≡ sign + 2 + run white_space (drop (sign + 2) text)) (second : end ≡ from + run is_family_char (drop from text)) where
      a-sign : (c d : Char) → code c < 256 → code d < 256 → two text sign (code c) (code d) ≡ true → padded (word (S.◌∷◌ c (S.◌∷◌ d S.[]))) to (drop to text) ≡ read tt from (drop from text)
      a-sign c d l m e =
          rw (
            drop-drop (run white_space (drop to text)) to text,
            ← space,
            word-is c d text sign l m e,
            drop-drop (run white_space (drop (sign + 2) text)) (sign + 2) text,
            ← space₂,
          )

      ends : (r : Reading (List ℕ)) → family_text from (drop from text) ≡ r → or_else (forget r) (λ _ _. read tt to (drop to text)) at text ≡ forget (constraint at (drop at text))
      ends r f = go r f (two text sign 45 62) refl s
        where
          go : (r : Reading (List ℕ)) → family_text from (drop from text) ≡ r → (x : Bool) → two text sign 45 62 ≡ x → (x || two text sign 60 62) ≡ true →
              or_else (forget r) (λ _ _. read tt to (drop to text)) at text ≡ forget (constraint at (drop at text))
          go rejected f true p e =
              let q : two text sign 60 62 ≡ false = two-other (byte_at text sign) (byte_at text (sign + 1)) 45 60 62 (λ z. omega arith) p in
              simp (some, a-sign "-" ">" (omega arith) (omega arith) p, f, no_sign "<" ">" (omega arith) q)
          go rejected f false p e = simp (some, no_sign "-" ">" (omega arith) p, a-sign "<" ">" (omega arith) (omega arith) e, f)
          go (read b i t) f true p e = simp (some, a-sign "-" ">" (omega arith) (omega arith) p, f)
          go (read b i t) f false p e = simp (some, no_sign "-" ">" (omega arith) p, a-sign "<" ">" (omega arith) (omega arith) e, f)

      pub first-only : end ≤ from → read tt to (drop to text) ≡ forget (constraint at (drop at text))
      first-only l = ends _ (no-family text from end second l)

      pub both-families : from < end → read tt end (drop end text) ≡ forget (constraint at (drop at text))
      both-families l = ends _ (a-family text from end second l)
