-- The cap on places.
use Rattle.std.specs.Prelude.{ℕ}

-- No slice reaches it, and with a slice's length added it still fits 64 bits.
abbrev pub MOST : ℕ
MOST = 9223372036854775808
