-- The bytes of a text and of what is left of it.
use mathlib.Core.Path.{◌≡◌, refl}
use mathlib.Core.List.{List, [], ◌∷◌}
use Prim.Native.Nat.{ℕ, zero, suc, ◌+◌, ◌<◌}
use native.Mathlib.Nat.{add-zero, le_of_suc-le-suc, not-suc-le-zero}
use native.Mathlib.Omega.{arith}
use lib.ListN.{length, get_or, drop}
use lib.Seq.{get_or-drop}
use Rattle.notation.specs.Utf8.{byte_at}

-- within the text it does not matter what would stand past its end
pub in-text : (s : List ℕ) (i : ℕ) → i < length s → get_or s i 0 ≡ byte_at s i
in-text [] i h = absurd (not-suc-le-zero h)
in-text (b ∷ s) zero h = refl
in-text (b ∷ s) (suc i) h = in-text s i (le_of_suc-le-suc h)

-- a byte stands only within the text
pub is_byte : (s : List ℕ) (i : ℕ) → byte_at s i < 256 → i < length s
is_byte [] i h = omega arith
is_byte (b ∷ s) zero h = omega arith
is_byte (b ∷ s) (suc i) h = let r : i < length s = is_byte s i h in omega arith

pub byte-drop : (s : List ℕ) (at k : ℕ) → byte_at (drop at s) k ≡ byte_at s (at + k)
byte-drop s at k = get_or-drop at s k 256

pub first_byte : (s : List ℕ) (at : ℕ) → byte_at (drop at s) 0 ≡ byte_at s at
first_byte s at = rw (byte-drop s at 0, add-zero)

-- the same for a byte that stands in what is left
pub is-byte-drop : (s : List ℕ) (at k : ℕ) → byte_at (drop at s) k < 256 → at + k < length s
is-byte-drop s at k h = is_byte s (at + k) (rw (byte-drop s at k) at h)
