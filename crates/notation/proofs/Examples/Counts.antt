-- The step count that each record carries (document 02, request 2), and the field that holds it: read from texts.
use Prim.Native.Nat.{ℕ, ◌/◌}
use Prim.Native.String.{String}
use mathlib.Core.Path.{◌≡◌, refl}
use mathlib.Core.List.{List, [], ◌∷◌, map}
use lib.ListN.{length, take, drop}
use Rattle.notation.specs.Features.{MAXIMAL}
use Rattle.notation.specs.Numbers.{from_big_endian}
use Rattle.notation.specs.Packed.{RECORD}
use Rattle.notation.specs.Refusals.{Outcome, refusal, result, ◌>>=◌}
use Rattle.notation.specs.Entries.{reading, inverse, deep_inverse}
use Rattle.notation.specs.Marked.{ascii}
use Rattle.notation.proofs.Opened.{opened}

-- the last five bytes of each of n records
abbrev counts : ℕ → List ℕ → List ℕ
counts ℕ.zero bs = []
counts (ℕ.suc n) bs = from_big_endian (drop 33 (take RECORD bs)) ∷ counts n (drop RECORD bs)

abbrev shown : Outcome (List ℕ) → List ℕ
shown (refusal r) = []
shown (result tree) = counts (length tree / RECORD) tree

abbrev counts_in : String → List ℕ
counts_in s = shown (reading MAXIMAL (ascii s))

-- a leaf is 1, a group has its repeats, the signs do not matter
groups : map counts_in ("R" ∷ "R2' . (1,0) / @2 R++" ∷ "(R U)" ∷ "(R U)3'" ∷ "!(R)2 &(U F)" ∷ "[R, U]" ∷ "[R: U]2" ∷ "[R, U F]3'" ∷ "(R (U F)2)3" ∷ "()7" ∷ "[,]" ∷ [])
    ≡ (1 ∷ []) ∷ (1 ∷ 1 ∷ 1 ∷ 1 ∷ 1 ∷ 1 ∷ []) ∷ (2 ∷ 1 ∷ 1 ∷ []) ∷ (6 ∷ 1 ∷ 1 ∷ []) ∷ (2 ∷ 1 ∷ 2 ∷ 1 ∷ 1 ∷ []) ∷ (4 ∷ 1 ∷ 1 ∷ []) ∷ (6 ∷ 1 ∷ 1 ∷ [])
    ∷ (18 ∷ 1 ∷ 1 ∷ 1 ∷ []) ∷ (15 ∷ 1 ∷ 4 ∷ 1 ∷ 1 ∷ []) ∷ (0 ∷ []) ∷ (0 ∷ []) ∷ []
unfolding opened
groups = refl

-- a NISS group counts 0 and adds 0, multiplier 0 counts 0; what is inside has its own count
nothing : map counts_in ("^(R U)" ∷ "^(R U)2" ∷ "(F ^(R (U)3))2" ∷ "[^(R), U]" ∷ "(R U)0" ∷ "(R (U F)2)0'" ∷ "((^(R))0 F)2" ∷ [])
    ≡ (0 ∷ 1 ∷ 1 ∷ []) ∷ (0 ∷ 1 ∷ 1 ∷ []) ∷ (2 ∷ 1 ∷ 0 ∷ 1 ∷ 3 ∷ 1 ∷ []) ∷ (2 ∷ 0 ∷ 1 ∷ 1 ∷ []) ∷ (0 ∷ 1 ∷ 1 ∷ []) ∷ (0 ∷ 1 ∷ 4 ∷ 1 ∷ 1 ∷ []) ∷ (2 ∷ 0 ∷ 0 ∷ 1 ∷ 1 ∷ []) ∷ []
unfolding opened
nothing = refl

-- 4,294,967,295 is stored as it is and 4,294,967,296 stands for itself and all above, by addition and by multiplication; 0 times a capped one is 0
limits : map counts_in
    ("((R)2147483647 (R)2147483647 R)" ∷ "((R)2147483647 (R)2147483647 R R)" ∷ "((R)2147483647 (R)2147483647 R R R)" ∷ "((R)2147483647)2" ∷ "((R)2147483647)3" ∷ "((R)2147483647)2147483647" ∷ "(((R)2147483647)3)0" ∷ "[((R)2147483647)3:]" ∷ [])
    ≡ (4294967295 ∷ 2147483647 ∷ 1 ∷ 2147483647 ∷ 1 ∷ 1 ∷ []) ∷ (4294967296 ∷ 2147483647 ∷ 1 ∷ 2147483647 ∷ 1 ∷ 1 ∷ 1 ∷ []) ∷ (4294967296 ∷ 2147483647 ∷ 1 ∷ 2147483647 ∷ 1 ∷ 1 ∷ 1 ∷ 1 ∷ [])
    ∷ (4294967294 ∷ 2147483647 ∷ 1 ∷ []) ∷ (4294967296 ∷ 2147483647 ∷ 1 ∷ []) ∷ (4294967296 ∷ 2147483647 ∷ 1 ∷ []) ∷ (0 ∷ 4294967296 ∷ 2147483647 ∷ 1 ∷ []) ∷ (4294967296 ∷ 4294967296 ∷ 2147483647 ∷ 1 ∷ []) ∷ []
unfolding opened
limits = refl

-- both inverses write the field
abbrev inverse_counts : String → List (List ℕ)
inverse_counts s =
    shown (do t ← reading MAXIMAL (ascii s); inverse (ascii s) t)
    ∷ shown (do t ← reading MAXIMAL (ascii s); deep_inverse (ascii s) t) ∷ []

inverses : map inverse_counts ("R (U (F)2)3" ∷ "[R, (U)2]3 F" ∷ "[R: (U)2]'" ∷ [])
    ≡ ((9 ∷ 1 ∷ 2 ∷ 1 ∷ 1 ∷ []) ∷ (9 ∷ 2 ∷ 1 ∷ 1 ∷ 1 ∷ []) ∷ [])
    ∷ ((1 ∷ 18 ∷ 1 ∷ 2 ∷ 1 ∷ []) ∷ (1 ∷ 18 ∷ 2 ∷ 1 ∷ 1 ∷ []) ∷ [])
    ∷ ((4 ∷ 1 ∷ 2 ∷ 1 ∷ []) ∷ (4 ∷ 1 ∷ 2 ∷ 1 ∷ []) ∷ []) ∷ []
unfolding opened
inverses = refl
