-- Unrolling into a buffer: a leaf, a group and a list of nodes. Assumes nothing.
use Prim.Native.Nat.{ℕ, zero, suc, ◌+◌, ◌-◌, ◌*◌, ◌≤◌, ◌<◌}
use mathlib.Core.Path.{◌≡◌, refl, sym, ap, ap₂, ◌∙◌, subst, fun_ext}
use mathlib.Core.Bool.{Bool, true, false}
use mathlib.Core.List.{List, [], ◌++◌, append_assoc, append-nil}
use native.Mathlib.Nat.{mul_assoc, mul_comm}
use native.Mathlib.Omega.{arith}
use borrow.Rule.Slice.PartMut.{put_mid, mid_of, same_len_mid}
use lib.Dec.{eqb}
use lib.IntN.{ℤ, pos, negsuc, nat_abs}
use lib.ListN.{length, take, drop, length-append, length-drop}
use lib.Seq.{take_at, drop_at, take_all, drop-length, drop-drop}
use Rattle.notation.specs.Numbers.{from_bits}
use Rattle.notation.specs.Tree.{Leaf, Node, leaf, block, Body, group, binary_group, nil, Tree}
use Rattle.notation.specs.Packed.{RECORD, leaf_record, pack_node, unpack}
use Rattle.notation.specs.Entries.{records}
use Rattle.notation.specs.Invert.{undo}
use Rattle.notation.specs.Unroll.{copies, turned}
use Rattle.notation.specs.Counts.{count_binary, count_node, count_body, count}
use Rattle.notation.specs.declared.common.GroupKind.TheVariants.{Simple}
use Rattle.record.specs.Meaning.{field, kind_at, NUMBER, COUNT}
use Rattle.numbers.specs.Sign.{is_negative}
use Rattle.notation.proofs.Marked.{length-copies}
use Rattle.laws.specs.All.{All}
use Rattle.laws.specs.Packed.{FitsNode, FitsBody, FitsTree}
use Rattle.laws.specs.Packed.{Packed}
use Rattle.laws.proofs.Walking.{no_node}
use Rattle.laws.specs.Unrolled.{flat_binary, flat_node, flat_body, flat}
use Rattle.laws.proofs.Unrolling.{long-backwards, flat_body-backwards, flat-backwards}
use Rattle.laws.proofs.Counting.{count_node-is, count_body-is, count-is, stored-none}
use Rattle.expand.specs.Meaning.{binary_kind}
use Rattle.nodes.specs.Nodes.{IsNode, part, FirstNode, first_list, second_list, Lists}
use Rattle.expand.specs.Steps.{Undoable, as_steps, WroteSteps, IsGroup, body_of, first_body, either, completed, BothLists, Front}
use Rattle.nodes.proofs.Nodes.{part-rest, part_length, alone, FirstLeaf, leaf-node}
use Rattle.expand.proofs.Shapes.{Shape, shape_of, at_least, both-within, block-is, group-body, binary-body, times-are, steps-are, repeats-some, first-stored, one-count, one-flat}
use Rattle.expand.proofs.Steps.{length-records, records-append, records-copies, all-flat, all-flat_body}
use Rattle.expand.proofs.AsSteps.{holds, same-either, same-completed}
use Rattle.expand.proofs.Completing.{Repeated}

-- Writing after writing: over what was written, or behind it.
written-front : {s s₁ : List ℕ} {l : List Leaf} {a : ℕ} → WroteSteps s s₁ l a → take a s₁ ≡ records l
written-front {s} {s₁} {l} {a} w = ap (take a) w.bytes ∙ take_at (records l) (drop a s) a (length-records l ∙ sym w.size)

written-rest : {s s₁ : List ℕ} {l : List Leaf} {a : ℕ} → WroteSteps s s₁ l a → drop a s₁ ≡ drop a s
written-rest {s} {s₁} {l} {a} w = ap (drop a) w.bytes ∙ drop_at (records l) (drop a s) a (length-records l ∙ sym w.size)

over : {s s₁ s₂ : List ℕ} {l l' : List Leaf} {a r : ℕ} → WroteSteps s s₁ l a → WroteSteps s₁ s₂ l' r → a ≤ r → WroteSteps s s₂ l' r
over {s} {s₁} {s₂} {l} {l'} {a} {r} w w' h =
    let e : a + (r - a) ≡ r = omega arith in
    record {
      size = w'.size;
      bytes = w'.bytes ∙ ap (λ (z : List ℕ). records l' ++ z)
          (ap (λ (j : ℕ). drop j s₁) (sym e) ∙ sym (drop-drop (r - a) a s₁) ∙ ap (drop (r - a)) (written-rest w) ∙ drop-drop (r - a) a s ∙ ap (λ (j : ℕ). drop j s) e);
    }

pub wrote-fits : {s s₁ : List ℕ} {l : List Leaf} {a : ℕ} → WroteSteps s s₁ l a → a ≤ length s₁
wrote-fits {s} {s₁} {l} {a} w = omega (arith, ap length w.bytes, length-append (records l) (drop a s), length-records l, w.size)

wrote-longer : {s s₁ : List ℕ} {l : List Leaf} {a : ℕ} → WroteSteps s s₁ l a → length s ≤ length s₁
wrote-longer {s} {s₁} {l} {a} w = omega (arith, ap length w.bytes, length-append (records l) (drop a s), length-drop a s, length-records l, w.size)

wrote-same : {s s₁ : List ℕ} {l l' : List Leaf} {a : ℕ} → records l ≡ records l' → WroteSteps s s₁ l a → WroteSteps s s₁ l' a
wrote-same {s} {s₁} {l} {l'} {a} e w =
    record { size = omega (arith, w.size, ap length e, length-records l, length-records l'); bytes = w.bytes ∙ ap (λ (x : List ℕ). x ++ drop a s) e }

behind : {s s₁ y : List ℕ} {l m : List Leaf} {a b : ℕ} → a ≤ length s₁ → WroteSteps s s₁ l a → WroteSteps (part a (length s₁) s₁) y m b →
    WroteSteps s (put_mid a (length s₁ - a) s₁ y) (l ++ m) (a + b)
behind {s} {s₁} {y} {l} {m} {a} {b} h w w' =
    record {
      size = omega (arith, w.size, w'.size, length-append l m);
      bytes = ap₂ (λ (x z : List ℕ). x ++ (y ++ z)) (written-front w) nothing
          ∙ ap (λ (z : List ℕ). records l ++ z) (append-nil y ∙ w'.bytes ∙ ap (λ (z : List ℕ). records m ++ drop b z) (part-rest a s₁ ∙ written-rest w))
          ∙ ap (λ (z : List ℕ). records l ++ (records m ++ z)) (drop-drop b a s)
          ∙ sym (append_assoc (records l) (records m) (drop (a + b) s))
          ∙ ap (λ (z : List ℕ). z ++ drop (a + b) s) (sym (records-append l m));
    }
  where
    nothing : drop (length s₁ - a) (drop a s₁) ≡ []
    nothing =
        let e : length s₁ - a ≡ length (drop a s₁) = sym (length-drop a s₁) in
        ap (λ (j : ℕ). drop j (drop a s₁)) e ∙ drop-length (drop a s₁)

either-flat : (t : Tree) (d : Bool) → either (flat undo false t) d ≡ flat undo d t
either-flat t true = sym (flat-backwards t false)
either-flat t false = refl

either-body : (b : Body Leaf) (d : Bool) → either (flat_body undo false b) d ≡ flat_body undo d b
either-body b true = sym (flat_body-backwards b false)
either-body b false = refl

-- a leaf is copied
pub leaf_room : {bs : List ℕ} {out : ℕ} (l : FirstLeaf bs) → RECORD * count_node l.first.node ≤ out → RECORD ≤ out
unfolding count_node
leaf_room l r = omega (arith, ap count_node l.is_step)

pub leaf-written : {bs out out' : List ℕ} (l : FirstLeaf bs) → out' ≡ part 0 RECORD bs ++ drop RECORD out → WroteSteps out out' (flat_node undo false l.first.node) RECORD
unfolding flat_node pack_node records
leaf-written {bs} {out} {out'} l q =
    subst (λ (n : Node Leaf). WroteSteps out out' (flat_node undo false n) RECORD) (sym l.is_step) (record {
      size = refl;
      bytes = q ∙ ap (λ (a : List ℕ). a ++ drop RECORD out) (sym (leaf-node l).bytes ∙ sym (append-nil (leaf_record l.step)));
    })

pub node-written : {bs s s₁ : List ℕ} {n : Node Leaf} {r : ℕ} → IsNode bs n → WroteSteps s s₁ (flat undo false (unpack bs)) r → WroteSteps s s₁ (flat_node undo false n) r
node-written {bs} {s} {s₁} {n} {r} i w = subst (λ (l : List Leaf). WroteSteps s s₁ l r) (one-flat i) w

-- What is written, in either direction.
either-long : (l : List Leaf) (d : Bool) → length (either l d) ≡ length l
either-long l true = long-backwards l
either-long l false = refl

module _ {s s₁ : List ℕ} {l : List Leaf} {a : ℕ} (w : WroteSteps s s₁ l a) (u : All Undoable l) where
  written-steps : Front s₁ a
  written-steps = record { within = wrote-fits w; contents = holds (written-front w) u }

  either-written : (d : Bool) {s₂ : List ℕ} {r : ℕ} → WroteSteps s₁ s₂ (either (as_steps (take a s₁)) d) r → WroteSteps s s₂ (either l d) r
  either-written d w' = let v = wrote-same (same-either (written-front w) u d) w' in over w v (omega (arith, w.size, v.size, either-long l d))

-- the steps of a list
module _ {list s s₁ : List ℕ} {a : ℕ} (p : Packed list) (w : WroteSteps s s₁ (flat undo false (unpack list)) a) where
  pub list_steps : Front s₁ a
  list_steps = written-steps w (all-flat (unpack list) false p.fits)

  pub list_written : (d : Bool) {s₂ : List ℕ} {r : ℕ} → WroteSteps s₁ s₂ (either (as_steps (take a s₁)) d) r → WroteSteps s s₂ (flat undo d (unpack list)) r
  list_written d {s₂} {r} w' = subst (λ (l : List Leaf). WroteSteps s s₂ l r) (either-flat (unpack list) d) (either-written w (all-flat (unpack list) false p.fits) d w')

-- the direction of a group that is played forward
direction : (m : ℤ) → turned m false ≡ is_negative m
direction (pos n) = refl
direction (negsuc n) = refl

-- What is written, n times.
repeated-written : {s s₁ s₂ : List ℕ} {l : List Leaf} {size n : ℕ} → WroteSteps s s₁ l size → 1 ≤ n → Repeated s₁ size (size * n) s₂ → WroteSteps s s₂ (copies n l) (size * n)
repeated-written {s} {s₁} {s₂} {l} {size} {n} w h c =
    over w (record {
      size = whole;
      bytes = c n (omega (arith, mul_comm size n)) ∙ ap (λ (x : List ℕ). x ++ drop (size * n) s₁)
          (ap (λ (x : List ℕ). take (size * n) (copies n x)) (written-front w) ∙ ap (take (size * n)) (sym (records-copies n l))
          ∙ take_all (size * n) (records (copies n l)) (omega (arith, length-records (copies n l), whole)));
    }) (omega (arith, at_least n size h, mul_comm size n))
  where
    whole : size * n ≡ RECORD * length (copies n l)
    whole = ap (λ (z : ℕ). z * n) w.size ∙ mul_assoc RECORD (length l) n ∙ ap (λ (z : ℕ). RECORD * z) (mul_comm (length l) n ∙ sym (length-copies n l))

-- A group, and its body played once.
module _ {bs : List ℕ} (g : IsGroup bs) where
  abbrev body : Body Leaf
  body = first_body (unpack bs)

  body_is : body ≡ body_of g.node
  body_is = ap first_body (alone g.is_node)

  shape : {k : ℕ} → k ≡ kind_at bs → Shape k (from_bits 32 (field NUMBER bs)) g.node
  shape e = rw e (shape_of g.is_node)

  low : {k : ℕ} → k ≡ kind_at bs → k ≤ 5
  low e = omega (arith, g.low)

  body-undoable : All Undoable (flat_body undo false body)
  unfolding FitsNode FitsBody FitsTree
  body-undoable = subst (λ (b : Body Leaf). All Undoable (flat_body undo false b)) (sym body_is) (go g.node g.is_node.fits)
    where
      go : (n : Node Leaf) → FitsNode n → All Undoable (flat_body undo false (body_of n))
      go (leaf x) q = all-flat_body (group Simple nil) false tt
      go (block b m) q = all-flat_body b false q.1

  lists-count : count (first_list g.node) + count (second_list g.node) ≤ count_body body
  unfolding count_body count
  lists-count = subst (λ (b : Body Leaf). count (first_list g.node) + count (second_list g.node) ≤ count_body b) (sym body_is) (go g.node)
    where
      go : (n : Node Leaf) → count (first_list n) + count (second_list n) ≤ count_body (body_of n)
      go (leaf x) = omega arith
      go (block (group g a) m) = omega arith
      go (block (binary_group g a b) m) = both-within g (count a) (count b)

  -- its contents, written forward
  module _ {out s₁ : List ℕ} {l : List Leaf} {a : ℕ} (w : WroteSteps out s₁ l a) (q : l ≡ flat_body undo false body) where
    l-undoable : All Undoable l
    l-undoable = subst (All Undoable) (sym q) body-undoable

    body-written : (d : Bool) {s₂ : List ℕ} {r : ℕ} → WroteSteps s₁ s₂ (either (as_steps (take a s₁)) d) r → WroteSteps out s₂ (flat_body undo d body) r
    body-written d {s₂} {r} w' =
        subst (λ (x : List Leaf). WroteSteps out s₂ x r) (ap (λ (x : List Leaf). either x d) q ∙ either-body body d) (either-written w l-undoable d w')

  -- given where its lists lie
  module _ {mid : ℕ} (p : Lists bs mid) where
    abbrev t : Tree
    t = unpack (part RECORD mid bs)

    abbrev t' : Tree
    t' = unpack (part mid (length bs) bs)

    first-is : t ≡ first_list g.node
    first-is = p.unpacks_first g.node g.is_node

    second_is : t' ≡ second_list g.node
    second_is = p.unpacks_second g.node g.is_node

    counts : count t + count t' ≤ count_body body
    counts = omega (arith, lists-count, ap count first-is, ap count second_is)

    pub first-room : {out : ℕ} → RECORD * count_body body ≤ out → RECORD * count t ≤ out
    first-room r = omega (arith, counts)

    module _ {k : ℕ} (e : k ≡ kind_at bs) {out s₁ : List ℕ} {a : ℕ} (w : WroteSteps out s₁ (flat undo false t) a) where
      -- a plain group
      module _ (l : k < 4) where
        group-flat : flat undo false t ≡ flat_body undo false body
        unfolding flat_body
        group-flat = ap (flat undo false) first-is ∙ sym (ap (flat_body undo false) (body_is ∙ (group-body (shape e) l).1))

        pub group-steps : Front s₁ a
        group-steps = written-steps w (l-undoable w group-flat)

        pub group-written : (d : Bool) {s₂ : List ℕ} {r : ℕ} → WroteSteps s₁ s₂ (either (as_steps (take a s₁)) d) r → WroteSteps out s₂ (flat_body undo d body) r
        group-written d w' = body-written w group-flat d w'

      -- a commutator or a conjugate
      module _ (r : RECORD * count_body body ≤ length out) where
        pub second-room : RECORD * count t' ≤ length (part a (length s₁) s₁)
        second-room = omega (arith, r, counts, w.size, count-is t false, wrote-longer w, ap length (part-rest a s₁), length-drop a s₁)

        module _ (l : 4 ≤ k) {y : List ℕ} {b : ℕ} (w' : WroteSteps (part a (length s₁) s₁) y (flat undo false t') b) where
          abbrev s₂ : List ℕ
          s₂ = put_mid a (length s₁ - a) s₁ y

          both-wrote : WroteSteps out s₂ (flat undo false t ++ flat undo false t') (a + b)
          both-wrote = behind (wrote-fits w) w w'

          binary-is : body ≡ binary_group (binary_kind (eqb k 4)) t t'
          binary-is = body_is ∙ binary-body (shape e) l (low e) ∙ sym (ap₂ (binary_group (binary_kind (eqb k 4))) first-is second_is)

          binary-count : count_body body ≡ count_binary (binary_kind (eqb k 4)) (count t) (count t')
          unfolding count_body
          binary-count = ap count_body binary-is

          binary-flat : completed (eqb k 4) (flat undo false t) (flat undo false t') ≡ flat_body undo false body
          unfolding flat_body
          binary-flat =
              ap₂ (λ (x x' : Bool → List Leaf). flat_binary (binary_kind (eqb k 4)) false x x') (fun_ext λ d. either-flat t d) (fun_ext λ d. either-flat t' d)
              ∙ sym (ap (flat_body undo false) binary-is)

          both_bytes : s₂ ≡ records (flat undo false t) ++ (records (flat undo false t') ++ drop (a + b) out)
          both_bytes =
              both-wrote.bytes ∙ ap (λ (x : List ℕ). x ++ drop (a + b) out) (records-append (flat undo false t) (flat undo false t'))
              ∙ append_assoc (records (flat undo false t)) (records (flat undo false t')) (drop (a + b) out)

          first-bytes : take a s₂ ≡ records (flat undo false t)
          first-bytes = ap (take a) both_bytes ∙ take_at (records (flat undo false t)) _ a (length-records (flat undo false t) ∙ sym w.size)

          second-bytes : take b (drop a s₂) ≡ records (flat undo false t')
          second-bytes =
              ap (λ (x : List ℕ). take b (drop a x)) both_bytes ∙ ap (take b) (drop_at (records (flat undo false t)) _ a (length-records (flat undo false t) ∙ sym w.size))
              ∙ take_at (records (flat undo false t')) (drop (a + b) out) b (length-records (flat undo false t') ∙ sym w'.size)

          first-undoable : All Undoable (flat undo false t)
          first-undoable = all-flat t false p.packed_first.fits

          second-undoable : All Undoable (flat undo false t')
          second-undoable = all-flat t' false p.packed_second.fits

          pub binary-pair : BothLists s₂ (eqb k 4) a b
          binary-pair =
              record {
                first = holds first-bytes first-undoable;
                second = holds second-bytes second-undoable;
                room = omega (arith, r, binary-count, wrote-longer both-wrote, in_bytes (eqb k 4), w.size, w'.size, count-is t false, count-is t' false);
              }
            where
              in_bytes : (h : Bool) → count_binary (binary_kind h) a b ≡ RECORD * count_binary (binary_kind h) (count t) (count t')
              in_bytes true = omega (arith, w.size, w'.size, count-is t false, count-is t' false)
              in_bytes false = omega (arith, w.size, w'.size, count-is t false, count-is t' false)

          module _ {s₃ : List ℕ} {size : ℕ} (c : WroteSteps s₂ s₃ (completed (eqb k 4) (as_steps (take a s₂)) (as_steps (take b (drop a s₂)))) size) where
            body-wrote : WroteSteps out s₃ (flat_body undo false body) size
            body-wrote =
                let d = subst (λ (x : List Leaf). WroteSteps s₂ s₃ x size) binary-flat (wrote-same (same-completed (eqb k 4) first-bytes first-undoable second-bytes second-undoable) c) in
                over both-wrote d (omega (arith, w.size, w'.size, d.size, count-is t false, count-is t' false, count_body-is body false, counts))

            pub binary-steps : Front s₃ size
            binary-steps = written-steps body-wrote body-undoable

            pub binary-written : (d : Bool) {s₄ : List ℕ} {r₄ : ℕ} → WroteSteps s₃ s₄ (either (as_steps (take size s₃)) d) r₄ → WroteSteps out s₄ (flat_body undo d body) r₄
            binary-written d c' = body-written body-wrote refl d c'

  -- One that has steps: it is repeated at least once.
  module _ (some : 0 < count (unpack bs)) {m : ℕ} (f : m ≡ field NUMBER bs) where
    node-shape : Shape (kind_at bs) (from_bits 32 m) g.node
    node-shape = rw f (shape_of g.is_node)

    node-some : 0 < count_node g.node
    node-some = omega (arith, one-count g.is_node)

    repeated : 1 ≤ nat_abs (from_bits 32 m)
    repeated = repeats-some node-shape g.low node-some

    block-flat : flat undo false (unpack bs) ≡ copies (nat_abs (from_bits 32 m)) (flat_body undo (turned (from_bits 32 m) false) body)
    unfolding flat_node
    block-flat =
        one-flat g.is_node ∙ ap (flat_node undo false) (block-is node-shape g.low)
        ∙ ap₂ (λ (j : ℕ) (b : Body Leaf). copies j (flat_body undo (turned (from_bits 32 m) false) b)) (times-are node-shape g.low node-some) (sym body_is)

    block-count : count (unpack bs) ≡ nat_abs (from_bits 32 m) * count_body body
    block-count = one-count g.is_node ∙ steps-are node-shape g.low node-some ∙ ap (λ (b : Body Leaf). nat_abs (from_bits 32 m) * count_body b) (sym body_is)

    pub body-room : {out : ℕ} → RECORD * count (unpack bs) ≤ out → RECORD * count_body body ≤ out
    body-room r = omega (arith, block-count, at_least (nat_abs (from_bits 32 m)) (count_body body) repeated)

    -- what is repeated is its body in the direction of its multiplier
    module _ {d : Bool} (e : d ≡ is_negative (from_bits 32 m)) {times : ℕ} (q : times ≡ nat_abs (from_bits 32 m))
        {out s₁ : List ℕ} {size : ℕ} (w : WroteSteps out s₁ (flat_body undo d body) size) (r : RECORD * count (unpack bs) ≤ length out) where
      total : size * times ≡ RECORD * count (unpack bs)
      total =
          ap₂ ◌*◌ (w.size ∙ ap (λ (j : ℕ). RECORD * j) (count_body-is body d)) q ∙ mul_assoc RECORD (count_body body) (nat_abs (from_bits 32 m))
          ∙ ap (λ (j : ℕ). RECORD * j) (mul_comm (count_body body) (nat_abs (from_bits 32 m)) ∙ sym block-count)

      pub total-fits : size * times ≤ length out
      total-fits = omega (arith, total)

      pub repeat-room : (size ≤ size * times) × (size * times ≤ length s₁)
      repeat-room = (omega (arith, at_least times size (omega (arith, repeated)), mul_comm size times), omega (arith, total, wrote-longer w))

      pub repeats-written : {s₂ : List ℕ} → Repeated s₁ size (size * times) s₂ → WroteSteps out s₂ (flat undo false (unpack bs)) (size * times)
      repeats-written {s₂} c =
          subst (λ (x : List Leaf). WroteSteps out s₂ x (size * times))
          (ap₂ (λ (j : ℕ) (b : Bool). copies j (flat_body undo b body)) q (e ∙ sym (direction (from_bits 32 m))) ∙ sym block-flat)
          (repeated-written w (omega (arith, repeated)) c)

none_or_some : (n : ℕ) → ((n ≡ 0) → ⊥) → 0 < n
none_or_some zero h = absurd (h refl)
none_or_some (suc n) h = omega arith

-- The loop over a list: what is done, followed by what is left, is the whole.
pub record Flattening (tree before t out : List ℕ) (at : ℕ) : Type 0 where
  pub packed : Packed t
  pub shorter : length t ≤ length tree
  pub long : length out ≡ length before
  pub done : List Leaf
  pub wrote : WroteSteps before out done at
  pub rest : flat undo false (unpack tree) ≡ done ++ flat undo false (unpack t)
  pub room : at + RECORD * count (unpack t) ≤ length out

pub flattening-starts : (tree out : List ℕ) → Packed tree → RECORD * count (unpack tree) ≤ length out → Flattening tree out tree out 0
unfolding records
flattening-starts tree out p r =
    record { packed = p; shorter = omega arith; long = refl; done = []; wrote = record { size = refl; bytes = refl }; rest = refl; room = omega arith }

module _ {tree before t out : List ℕ} {at e : ℕ} (w : Flattening tree before t out at) (f : FirstNode t e) where
  counted : count (unpack t) ≡ count_node f.node + count (unpack (part e (length t) t))
  unfolding count
  counted = ap count f.unpacks

  pub leaf-fits : RECORD * count_node f.node ≤ length (part at (length out) out)
  leaf-fits = omega (arith, w.room, counted, ap length (part-rest at out), length-drop at out)

  pub node-fits : RECORD * count (unpack (part 0 e t)) ≤ length (part at (length out) out)
  node-fits = omega (arith, leaf-fits, one-count f.is_node)

  pub next_fits : {y : List ℕ} {r : ℕ} → WroteSteps (part at (length out) out) y (flat_node undo false f.node) r → at + r ≤ length out
  next_fits v = omega (arith, w.room, counted, v.size, count_node-is f.node false)

  pub flattening-goes-on : {y : List ℕ} {r : ℕ} → WroteSteps (part at (length out) out) y (flat_node undo false f.node) r → length y ≡ length (mid_of at (length out - at) out) →
      Flattening tree before (part e (length t) t) (put_mid at (length out - at) out y) (at + r)
  unfolding flat
  flattening-goes-on {y} {r} v h =
      let long : length (put_mid at (length out - at) out y) ≡ length out = same_len_mid at (length out - at) out y h in
      record {
        packed = f.packed_rest;
        shorter = omega (arith, part_length e (length t) t, w.shorter);
        long = long ∙ w.long;
        done = w.done ++ flat_node undo false f.node;
        wrote = behind (omega (arith, w.room)) w.wrote v;
        rest = w.rest ∙ ap (λ (x : Tree). w.done ++ flat undo false x) f.unpacks
            ∙ sym (append_assoc w.done (flat_node undo false f.node) (flat undo false (unpack (part e (length t) t))));
        room = omega (arith, w.room, counted, v.size, count_node-is f.node false, long);
      }

  -- by what the node stores: steps to write, or none
  module _ {steps : ℕ} (p : steps ≡ field COUNT t) where
    pub node-steps : ((steps ≡ 0) → ⊥) → 0 < count (unpack (part 0 e t))
    node-steps h = omega (arith, none_or_some steps h, first-stored f, one-count f.is_node)

    pub flattening-passes : steps ≡ 0 → Flattening tree before (part e (length t) t) out at
    unfolding flat
    flattening-passes h =
        record {
          packed = f.packed_rest;
          shorter = omega (arith, part_length e (length t) t, w.shorter);
          long = w.long;
          done = w.done;
          wrote = w.wrote;
          rest = w.rest ∙ ap (λ (x : Tree). w.done ++ flat undo false x) f.unpacks
              ∙ ap (λ (l : List Leaf). w.done ++ (l ++ flat undo false (unpack (part e (length t) t)))) (stored-none f.node false (sym (first-stored f) ∙ sym p ∙ h));
          room = omega (arith, w.room, counted);
        }

-- where the ways meet
pub flattening-carried : {tree before t out out' : List ℕ} {at at' : ℕ} → out' ≡ out → at' ≡ at → Flattening tree before t out at → Flattening tree before t out' at'
flattening-carried e q w = rw (e, q) w

pub flattened : {tree before t out : List ℕ} {at : ℕ} → Flattening tree before t out at → length t ≤ 0 → WroteSteps before out (flat undo false (unpack tree)) at
unfolding flat
flattened {tree} {before} {t} {out} {at} w h =
    let e : flat undo false (unpack tree) ≡ w.done = w.rest ∙ ap (λ (x : Tree). w.done ++ flat undo false x) (no_node t w.packed (omega arith)) ∙ append-nil w.done in
    subst (λ (x : List Leaf). WroteSteps before out x at) (sym e) w.wrote
