-- The number of each kind of record. Assumes nothing.
use Prim.Native.Nat.{ℕ, ◌/◌}
use mathlib.Core.Path.{◌≡◌, refl}
use native.Mathlib.Omega.{arith}
use lib.ListN.{get_or}
use Rattle.notation.specs.Tree.{rotation, move, pause, pair, slash, megaminx}
use Rattle.notation.specs.Packed.{Head, leaf_head, group_head, binary_head, group_number, binary_number, megaminx_number, head_fields}
use Rattle.record.proofs.Packed.{bit-lt, layer_form-lt, present-lt}

abbrev pub kind_of : Head → ℕ
kind_of (leaf_head (rotation f c m)) = 6
kind_of (leaf_head (move t l f c m)) = 7
kind_of (leaf_head pause) = 8
kind_of (leaf_head (pair u d)) = 9
kind_of (leaf_head slash) = 10
kind_of (leaf_head (megaminx k)) = megaminx_number k
kind_of (group_head k n m c) = group_number k
kind_of (binary_head k n n' m c) = binary_number k

pub kind-field : (h : Head) → get_or (head_fields h) 0 0 / 16 ≡ kind_of h
kind-field (leaf_head (rotation f c m)) = omega (arith, present-lt c)
kind-field (leaf_head (move t l f c m)) = omega (arith, bit-lt t, layer_form-lt l, present-lt c)
kind-field (leaf_head pause) = refl
kind-field (leaf_head (pair u d)) = refl
kind-field (leaf_head slash) = refl
kind-field (leaf_head (megaminx k)) = omega arith
kind-field (group_head k n m c) = omega arith
kind-field (binary_head k n n' m c) = omega arith
