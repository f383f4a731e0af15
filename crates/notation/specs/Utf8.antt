-- UTF-8: the Unicode Standard's table 3-7 of well-formed byte sequences. A text is its list of bytes.
use Rattle.std.specs.Prelude.{ℕ, zero, suc, ◌+◌, ◌*◌, ◌%◌, Bool, true, false, ◌&&◌, List, [], ◌∷◌, leb, eqb, get_or}
use Rattle.notation.specs.Basics.{pick, between}

-- past the end stands 256, which is no byte
abbrev pub byte_at : List ℕ → ℕ → ℕ
byte_at s i = get_or s i 256

-- 10xxxxxx
abbrev pub continuation : ℕ → Bool
continuation b = between 0x80 0xbf b

-- how many bytes the well-formed character at the start takes: 1 to 4, and 0 where none stands there.
-- The bounds of the second byte keep out overlong forms, surrogates and what lies past U+10FFFF.
unfoldable pub char_width : List ℕ → ℕ
char_width s =
    let a = byte_at s 0 in
    let b = byte_at s 1 in
    pick (leb a 0x7f) 1
    (pick (between 0xc2 0xdf a && continuation b) 2
    (pick (between 0xe0 0xef a && between (pick (eqb a 0xe0) 0xa0 0x80) (pick (eqb a 0xed) 0x9f 0xbf) b && continuation (byte_at s 2)) 3
    (pick
    (between 0xf0 0xf4 a && between (pick (eqb a 0xf0) 0x90 0x80) (pick (eqb a 0xf4) 0x8f 0xbf) b
    && continuation (byte_at s 2) && continuation (byte_at s 3)) 4
    0)))

-- the code point of the well-formed character at the start
unfoldable pub code_point : List ℕ → ℕ
code_point s =
    let a = byte_at s 0 in
    let b = byte_at s 1 % 64 in
    let c = byte_at s 2 % 64 in
    let d = byte_at s 3 % 64 in
    pick (leb a 0x7f) a
    (pick (leb a 0xdf) (a % 32 * 64 + b)
    (pick (leb a 0xef) (a % 16 * 4096 + b * 64 + c)
    (a % 8 * 262144 + b * 4096 + c * 64 + d)))

abbrev pub after_first : {A : Type 0} → ℕ → A → (ℕ → A) → A
after_first zero a f = a
after_first (suc k) a f = f k

-- every character is well formed; k bytes at the start belong to a character that was seen to be
unfoldable pub utf8_from : ℕ → List ℕ → Bool
utf8_from k [] = true
utf8_from (suc k) (b ∷ s) = utf8_from k s
utf8_from zero (b ∷ s) = after_first (char_width (b ∷ s)) false (λ k. utf8_from k s)

abbrev pub utf8 : List ℕ → Bool
utf8 s = utf8_from 0 s

-- the width of the character at the start, 0 where none that passes the test stands there
abbrev pub width_if : (ℕ → Bool) → List ℕ → ℕ
width_if p s = pick (p (code_point s)) (char_width s) 0

-- how many bytes the characters at the start take that pass the test; k as above
unfoldable pub run_from : (ℕ → Bool) → ℕ → List ℕ → ℕ
run_from p k [] = 0
run_from p (suc k) (b ∷ s) = suc (run_from p k s)
run_from p zero (b ∷ s) = after_first (width_if p (b ∷ s)) 0 (λ k. suc (run_from p k s))

abbrev pub run : (ℕ → Bool) → List ℕ → ℕ
run p s = run_from p 0 s
