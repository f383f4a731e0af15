-- How many bytes are allowed for what a record prints by itself.
use Rattle.std.specs.Prelude.{ℕ, ◌+◌, not, List, ltb, eqb, nat_abs}
use Rattle.notation.specs.Basics.{pick}
use Rattle.notation.specs.Numbers.{from_bits}
use Rattle.notation.specs.Clauses.{kind, number, family, constraints, form}

-- by the kind, the magnitude of the number, the sizes of family and constraints, and the layer form
abbrev pub allowed_for : (kind n family constraints form : ℕ) → ℕ
allowed_for kind n family constraints form =
    4 + (family + constraints) + pick (ltb kind 6) 3 0 + pick (ltb 9 n) 9 0 + pick (eqb kind 9) 23 0 + pick (not (eqb form 0)) 11 0

-- by the fields of the record
abbrev pub allowed : List ℕ → ℕ
allowed fs = allowed_for (kind fs) (nat_abs (from_bits 32 (number fs))) (family fs).size (constraints fs).size (form fs)
