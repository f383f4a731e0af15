-- The rules of groups, from what stands at each place of the text. Assumes nothing.
use Prim.Native.Nat.{ℕ, ◌+◌, ◌<◌, ◌≤◌}
use mathlib.Core.Path.{◌≡◌, sym, ap, ◌∙◌}
use mathlib.Core.Bool.{true, false}
use mathlib.Core.List.{List}
use native.Mathlib.Omega.{arith}
use lib.Dec.{eqb}
use lib.IntN.{ℤ}
use borrow.Author.Tests.{eq-eqb}
use lib.ListN.{length, get_or, drop}
use Rattle.charsets.proofs.Texts.{in-text}
use Rattle.notation.specs.Utf8.{byte_at}
use Rattle.notation.specs.Tree.{block, group, binary_group, Tree}
use Rattle.notation.specs.Grammar.{
  Reading,
  rejected,
  read,
  Reader,
  done,
  and_then,
  multiplier,
  group_kind,
  group_node,
  binary_group_kind,
  binary_group_node,
}
use Rattle.notation.specs.declared.common.GroupKind.{GroupKind}
use Rattle.notation.specs.declared.features.Features.{Features}
use Rattle.notation.specs.declared.common.BinaryGroupKind.{BinaryGroupKind}
use Rattle.notation.specs.declared.common.BinaryGroupKind.TheVariants.{Commutator, Conjugate}
use Rattle.parse.specs.Nodes.{repeated}
use Rattle.parse.proofs.Bytes.{just-is, just-not}
use Rattle.parse.proofs.Past.{Takes, within, takes-done, takes-then, takes-or, takes-less, takes-just}

module _ (f : Features) (text : List ℕ) (at : ℕ) (list : Reader Tree) where
  -- a group: its kind, `(`, its list, `)` and its multiplier
  module _ (kind : GroupKind) (bracket : ℕ) (starts : read kind bracket (drop bracket text) ≡ group_kind at (drop at text)) where
    pub group-unopened : eqb (byte_at text bracket) 40 ≡ false → repeated f (group_node list) at (drop at text) ≡ rejected
    unfolding group_node
    group-unopened h = rw (← starts, just-not "(" text bracket h)

    module _ (opens : eqb (byte_at text bracket) 40 ≡ true) (a : Tree) (close : ℕ)
        (lists : list (bracket + 1) (drop (bracket + 1) text) ≡ read a close (drop close text)) where
      pub group-unclosed : eqb (byte_at text close) 41 ≡ false → repeated f (group_node list) at (drop at text) ≡ rejected
      unfolding group_node
      group-unclosed h = rw (← starts, just-is "(" text bracket (omega arith) opens, lists, just-not ")" text close h)

      pub group-read : (m : ℤ) (next : ℕ) → eqb (byte_at text close) 41 ≡ true → multiplier f (close + 1) (drop (close + 1) text) ≡ read m next (drop next text) →
          repeated f (group_node list) at (drop at text) ≡ read (block (group kind a) m) next (drop next text)
      unfolding group_node
      group-read m next h e =
          rw (← starts, just-is "(" text bracket (omega arith) opens, lists, just-is ")" text close (omega arith) h)
          (ap (λ (r : Reading ℤ). and_then r (λ m. done (block (group kind a) m))) e)

  -- a commutator or a conjugate: `[`, a list, its sign, a list, `]` and its multiplier
  module _ (opens : eqb (byte_at text at) 91 ≡ true) (a : Tree) (sign : ℕ)
      (first : list (at + 1) (drop (at + 1) text) ≡ read a sign (drop sign text)) where
    pub binary-unsigned : rejected ≡ binary_group_kind sign (drop sign text) → repeated f (binary_group_node list) at (drop at text) ≡ rejected
    unfolding binary_group_node
    binary-unsigned h = rw (just-is "[" text at (omega arith) opens, first, ← h)

    module _ (kind : BinaryGroupKind) (signs : read kind (sign + 1) (drop (sign + 1) text) ≡ binary_group_kind sign (drop sign text))
        (b : Tree) (close : ℕ) (second : list (sign + 1) (drop (sign + 1) text) ≡ read b close (drop close text)) where
      pub binary-unclosed : eqb (byte_at text close) 93 ≡ false → repeated f (binary_group_node list) at (drop at text) ≡ rejected
      unfolding binary_group_node
      binary-unclosed h = rw (just-is "[" text at (omega arith) opens, first, ← signs, second, just-not "]" text close h)

      pub binary-read : (m : ℤ) (next : ℕ) → eqb (byte_at text close) 93 ≡ true → multiplier f (close + 1) (drop (close + 1) text) ≡ read m next (drop next text) →
          repeated f (binary_group_node list) at (drop at text) ≡ read (block (binary_group kind a b) m) next (drop next text)
      unfolding binary_group_node
      binary-read m next h e =
          rw (just-is "[" text at (omega arith) opens, first, ← signs, second, just-is "]" text close (omega arith) h)
          (ap (λ (r : Reading ℤ). and_then r (λ m. done (block (binary_group kind a b) m))) e)

-- the sign between two lists
module _ (text : List ℕ) (at : ℕ) where
  pub signs-comma : eqb (byte_at text at) 44 ≡ true → binary_group_kind at (drop at text) ≡ read Commutator (at + 1) (drop (at + 1) text)
  signs-comma h = rw (just-is "," text at (omega arith) h)

  pub signs-colon : eqb (byte_at text at) 44 ≡ false → eqb (byte_at text at) 58 ≡ true →
      binary_group_kind at (drop at text) ≡ read Conjugate (at + 1) (drop (at + 1) text)
  signs-colon h k = rw (just-not "," text at h, just-is ":" text at (omega arith) k)

  pub signs-none : eqb (byte_at text at) 44 ≡ false → eqb (byte_at text at) 58 ≡ false → binary_group_kind at (drop at text) ≡ rejected
  signs-none h k = rw (just-not "," text at h, just-not ":" text at k)

-- A kind ends within the text.
pub takes-kind : Takes 0 group_kind
takes-kind =
    takes-or (takes-less 0 (omega arith) (takes-then (takes-just "!") (λ _. takes-done)))
    (takes-or (takes-less 0 (omega arith) (takes-then (takes-just "&") (λ _. takes-done)))
    (takes-or (takes-less 0 (omega arith) (takes-then (takes-just "^") (λ _. takes-done))) takes-done))

-- a byte that a test saw
pub stands-first : (text : List ℕ) (at b : ℕ) → at < length text → get_or text at 0 ≡ b → eqb (byte_at text at) b ≡ true
stands-first text at b h e = eq-eqb (byte_at text at) b (sym (in-text text at h) ∙ e)

takes-sign : Takes 1 binary_group_kind
takes-sign = takes-or (takes-then (takes-just ",") (λ _. takes-done)) (takes-then (takes-just ":") (λ _. takes-done))

pub signed : (text : List ℕ) (at : ℕ) (kind : BinaryGroupKind) → at ≤ length text → read kind (at + 1) (drop (at + 1) text) ≡ binary_group_kind at (drop at text) → at < length text
signed text at kind h e = omega (arith, (within text at takes-sign h e).1)
