-- A tree whose records were counted off within the room, none of them with a layer set, prints a text that fits it. Assumes nothing.
use Prim.Native.Nat.{ℕ, ◌+◌, ◌-◌, ◌≤◌, ◌<◌}
use mathlib.Core.Path.{◌≡◌, refl, sym, ap, ◌∙◌, subst}
use mathlib.Core.Bool.{true}
use mathlib.Core.List.{List, [], ◌++◌}
use native.Mathlib.Omega.{arith}
use lib.ListN.{length, take, length-append, length-drop}
use lib.Seq.{drop_at}
use Rattle.notation.specs.Basics.{total}
use Rattle.notation.specs.Tree.{no_layers, single_layer, layer_range, layer_set, rotation, move, pause, pair, slash, megaminx}
use Rattle.notation.specs.Packed.{RECORD, widths, cut, Head, leaf_head, group_head, binary_head, head_fields, head_record, unpack}
use Rattle.notation.specs.Clauses.{form, set}
use Rattle.notation.specs.WellFormed.{tree_ok}
use Rattle.notation.specs.Print.{printed}
use Rattle.record.specs.Meaning.{form_at}
use Rattle.record.proofs.Packed.{bit-lt, present-lt}
use Rattle.record.proofs.RoundTrip.{length-head_record, cut-head_record}
use Rattle.laws.specs.Packed.{Packed}
use Rattle.laws.specs.Heads.{heads}
use Rattle.laws.proofs.Heads.{Run, ended, record-then, tree-run, run_room}
use Rattle.nodes.specs.Nodes.{part}
use Rattle.nodes.proofs.Nodes.{part-rest}
use Rattle.display.specs.Bound.{allowed}
use Rattle.display.proofs.Sizes.{allowed_all, printed-size}

-- a record whose layer form is another than 3 has no layer set
no-set : (h : Head) → (form (head_fields h) ≡ 3 → ⊥) → (set (head_fields h)).size ≡ 0
no-set (leaf_head (rotation f c m)) s = refl
no-set (leaf_head (move t no_layers f c m)) s = refl
no-set (leaf_head (move t (single_layer i) f c m)) s = refl
no-set (leaf_head (move t (layer_range i j) f c m)) s = refl
no-set (leaf_head (move t (layer_set p) f c m)) s = absurd (s (omega (arith, bit-lt t, present-lt c)))
no-set (leaf_head pause) s = refl
no-set (leaf_head (pair u d)) s = refl
no-set (leaf_head slash) s = refl
no-set (leaf_head (megaminx k)) s = refl
no-set (group_head k n m c) s = refl
no-set (binary_head k n n' m c) s = refl

-- What was taken off the room is at least what is allowed for the records of the tree before these.
abbrev Taken : (tree : List ℕ) (room left : ℕ) → List Head → Type 0
Taken tree room left rest = allowed_all (heads (unpack tree) []) + left ≤ room + allowed_all rest

-- The loop: t are the records that are left of the tree.
pub record Going (tree t : List ℕ) (room left : ℕ) : Type 0 where
  rest : List Head
  run : Run rest t
  taken : Taken tree room left rest

pub going-starts : (tree : List ℕ) (room : ℕ) → Packed tree → Going tree tree room room
going-starts tree room p = record { rest = heads (unpack tree) []; run = tree-run p; taken = omega arith }

module _ {tree t : List ℕ} {room left : ℕ} (g : Going tree t room left) where
  pub going-room : 0 < length t → RECORD ≤ length t
  going-room h = run_room g.run h

  pub going-shorter : 0 < length t → length (part RECORD (length t) t) < length t
  going-shorter h = omega (arith, going-room h, ap length (part-rest RECORD t), length-drop RECORD t)

  pub going_on : {said size : ℕ} → 0 < length t → said ≡ form_at t → (said ≡ 3 → ⊥) → size ≡ allowed (cut widths (take RECORD t)) → size ≤ left →
      Going tree (part RECORD (length t) t) room (left - size)
  unfolding total
  going_on {said} {size} l e s i h = go g.run g.taken l e i
    where
      go : {hs : List Head} {bs : List ℕ} → Run hs bs → Taken tree room left hs → 0 < length bs → said ≡ form_at bs →
          size ≡ allowed (cut widths (take RECORD bs)) → Going tree (part RECORD (length bs) bs) room (left - size)
      go ended taken l e i = absurd (omega arith)
      go (record-then {h = h'} {hs} {bs} f r) taken l e i =
          let fields = cut-head_record h' bs f in
          let none : (set (head_fields h')).size ≡ 0 = no-set h' (λ z. s (e ∙ ap form fields ∙ z)) in
          let i' : size ≡ allowed (head_fields h') = i ∙ ap allowed fields in
          let back = part-rest RECORD (head_record h' ++ bs) ∙ drop_at (head_record h') bs RECORD (length-head_record h') in
          record { rest = hs; run = subst (Run hs) (sym back) r; taken = omega (arith, taken, none, i', h) }

  pub going-all : length t ≡ 0 → Packed tree → (text : List ℕ) → tree_ok text (unpack tree) ≡ true → length (printed text (unpack tree)) ≤ room
  unfolding total
  going-all e p text ok = omega (arith, printed-size text (unpack tree) ok p.fits, go g.run g.taken e)
    where
      go : {hs : List Head} {bs : List ℕ} → Run hs bs → Taken tree room left hs → length bs ≡ 0 → allowed_all (heads (unpack tree) []) ≤ room
      go ended taken e = omega (arith, taken)
      go (record-then {h} {hs} {bs} f r) taken e = absurd (omega (arith, length-append (head_record h) bs, length-head_record h))
