-- What the tests for leaves and groups say of a record's kind. Assumes nothing.
use Prim.Native.Nat.{ℕ, ◌≤◌, ◌<◌}
use mathlib.Core.Path.{◌≡◌, refl, sym, ◌∙◌}
use mathlib.Core.Bool.{Bool, true, false, ◌&&◌}
use native.Mathlib.Omega.{arith}
use borrow.Author.Tests.{leb-true, leb-false, ltb-true, ltb-false}
use lib.Dec.{leb, ltb}
use Rattle.notation.specs.Basics.{between}

pub leaf-high : {kind : ℕ} {r : Bool} → r ≡ ltb 5 kind → r ≡ true → 5 < kind
leaf-high {kind} q taken = ltb-true 5 kind (sym q ∙ taken)

pub no-leaf-low : {kind : ℕ} {r : Bool} → r ≡ ltb 5 kind → r ≡ false → kind ≤ 5
no-leaf-low {kind} q left = ltb-false 5 kind (sym q ∙ left)

pub group-low : {kind : ℕ} {r : Bool} → r ≡ ltb kind 6 → r ≡ true → kind < 6
group-low {kind} q taken = ltb-true kind 6 (sym q ∙ taken)

pub no-group-high : {kind : ℕ} {r : Bool} → r ≡ ltb kind 6 → r ≡ false → 6 ≤ kind
no-group-high {kind} q left = ltb-false kind 6 (sym q ∙ left)

-- of a group, whether it is binary
pub single : {kind at : ℕ} {r : Bool} → at ≤ 5 → kind ≡ at → r ≡ between 4 5 kind → r ≡ false → kind < 4
single {kind} {r = r} l e q f = go (leb 4 kind) refl (sym q ∙ f)
  where
    go : (t : Bool) → leb 4 kind ≡ t → (t && leb kind 5) ≡ false → kind < 4
    go true p n = let low = leb-false kind 5 n in absurd (omega arith)
    go false p n = leb-false 4 kind p

pub binary : {kind : ℕ} {r : Bool} → r ≡ between 4 5 kind → r ≡ true → 4 ≤ kind
binary {kind} q t = go (leb 4 kind) refl (sym q ∙ t)
  where
    go : (b : Bool) → leb 4 kind ≡ b → (b && leb kind 5) ≡ true → 4 ≤ kind
    go true p n = leb-true 4 kind p
    go false p n = let z : ◌≡◌ {A = Bool} false true = n in let y : ◌≡◌ {A = ℕ} 0 1 = cc in absurd (omega arith)
