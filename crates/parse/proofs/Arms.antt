-- What `node` and `any_group` return, by the first byte. Assumes nothing.
use Prim.Native.Nat.{ℕ, suc, ◌*◌, ◌-◌, ◌<◌, ◌≤◌}
use mathlib.Core.Path.{◌≡◌, refl, sym, ap, ◌∙◌}
use mathlib.Core.Bool.{false}
use mathlib.Core.List.{List, [], ◌∷◌, ◌++◌}
use mathlib.Core.Logic.{⊎_elim, inl, inr}
use types.Run.{OneOf}
use native.Mathlib.Omega.{arith}
use borrow.Author.Tests.{ne_eqb}
use lib.Dec.{eqb}
use lib.IntN.{ℤ}
use lib.ListN.{length, get_or, drop, drop_of_length-le}
use lib.Seq.{drop-cons}
use Rattle.charsets.proofs.Texts.{in-text, first_byte}
use Rattle.notation.specs.Utf8.{byte_at}
use Rattle.notation.specs.Tree.{Leaf, Node, Tree}
use Rattle.notation.specs.Packed.{RECORD}
use Rattle.notation.specs.Grammar.{Reading, rejected, Reader, fail, and_then, or_else, just, group_node, binary_group_node, node, node_list}
use Rattle.notation.specs.declared.features.Features.{Features}
use Rattle.tally.specs.Tallies.{tally_node}
use Rattle.std.specs.Prelude.{Option, Some, None}
use Rattle.parse.specs.declared.node.Listed.{Listed}
use Rattle.parse.specs.Nodes.{Kept, NodeRead, NoNode, NodeAnswered, nested, repeated}
use Rattle.parse.proofs.Buffers.{kept-all, kept_then}
use Rattle.parse.proofs.Readings.{or-none, or-last}
use Rattle.parse.proofs.Choices.{times, just-no, nothing-nested, node-choice}
use Rattle.parse.proofs.Pairs.{no-nested}

-- the bytes that a group starts with
abbrev pub openers : List ℕ
openers = 33 ∷ 38 ∷ 40 ∷ 94 ∷ []

no-binary : (list : Reader Tree) (at : ℕ) (s : List ℕ) → eqb (byte_at s 0) 91 ≡ false → binary_group_node list at s ≡ rejected
unfolding binary_group_node
no-binary list at s e = rw (just-no "[" at s e)

no-group : (list : Reader Tree) (at : ℕ) (s : List ℕ) → group_node list at (91 ∷ s) ≡ rejected
unfolding group_node just
no-group list at s = refl

module _ (text : List ℕ) (at slot tally : ℕ) where
  -- a rule that says the same here
  pub told-as : (p q : ℕ → Reader (Node Leaf)) (old new : List ℕ) (r : Option Listed) →
      ((k : ℕ) → length text - at ≤ k → q k at (drop at text) ≡ p k at (drop at text)) → NodeAnswered p text at slot tally old new r → NodeAnswered q text at slot tally old new r
  told-as p q old new (Some l) e t =
      record { node = t.node; reads = λ k h. e k h ∙ t.reads k h; slots = t.slots; advances = t.advances; inside = t.inside; wrote = t.wrote }
  told-as p q old new None e t = record { rejects = λ k h. e k h ∙ t.rejects k h; kept = t.kept }

  -- and a buffer of which nothing before the slot has changed
  pub told-after : (p : ℕ → Reader (Node Leaf)) (old mid new : List ℕ) (r : Option Listed) → Kept (RECORD * slot) old mid → NodeAnswered p text at slot tally mid new r → NodeAnswered p text at slot tally old new r
  told-after p old mid new (Some l) k t =
      record {
        node = t.node;
        reads = t.reads;
        slots = t.slots;
        advances = t.advances;
        inside = t.inside;
        wrote = record {
          kept = kept_then (RECORD * slot) old mid new k t.wrote.kept;
          holds = λ h. t.wrote.holds (omega (arith, k.long)) ∙ ap (λ (l : List ℕ). l ++ tally_node tally t.node) k.before;
        };
      }
  told-after p old mid new None k t = record { rejects = t.rejects; kept = kept_then (RECORD * slot) old mid new k t.kept }

  module _ (f : Features) where
    abbrev pub nodes : ℕ → Reader (Node Leaf)
    nodes k = node f (node_list f k)

    abbrev pub groups : ℕ → Reader (Node Leaf)
    groups k = repeated f (group_node (node_list f k))

    abbrev pub binaries : ℕ → Reader (Node Leaf)
    binaries k = repeated f (binary_group_node (node_list f k))

    abbrev pub either : ℕ → Reader (Node Leaf)
    either k = repeated f (nested (node_list f k))

    abbrev pub leaves : ℕ → Reader (Node Leaf)
    leaves _ = node f fail

    -- What `any_group` returns: nothing where no group can start,
    none : eqb (byte_at (drop at text) 0) 40 ≡ false → eqb (byte_at (drop at text) 0) 33 ≡ false → eqb (byte_at (drop at text) 0) 38 ≡ false →
        eqb (byte_at (drop at text) 0) 94 ≡ false → eqb (byte_at (drop at text) 0) 91 ≡ false → (old : List ℕ) → NoNode either text at slot old old
    none p₁ p₂ p₃ p₄ p₅ old =
        record {
          rejects = λ k _. ap (λ (r : Reading (ℤ → Node Leaf)). and_then r (times f)) (nothing-nested (node_list f k) at (drop at text) p₁ p₂ p₃ p₄ p₅);
          kept = kept-all (RECORD * slot) old;
        }

    pub none-at-end : (old : List ℕ) → length text ≤ at → NoNode either text at slot old old
    none-at-end old h = none (past 40 refl) (past 33 refl) (past 38 refl) (past 94 refl) (past 91 refl) old
      where
        past : (b : ℕ) → eqb 256 b ≡ false → eqb (byte_at (drop at text) 0) b ≡ false
        past b e = rw (drop_of_length-le text h) e

    module _ (h : at < length text) where
      here : (b : ℕ) → (get_or text at 0 ≡ b → ⊥) → eqb (byte_at (drop at text) 0) b ≡ false
      here b e = ne_eqb (byte_at (drop at text) 0) b (λ q. e (in-text text at h ∙ sym (first_byte text at) ∙ q))

      pub none-opened : (OneOf openers (get_or text at 0) → ⊥) → (get_or text at 0 ≡ 91 → ⊥) → (old : List ℕ) → NoNode either text at slot old old
      none-opened e b old =
          none (here 40 (λ q. e (inr (inr (inl q))))) (here 33 (λ q. e (inl q))) (here 38 (λ q. e (inr (inl q)))) (here 94 (λ q. e (inr (inr (inr q))))) (here 91 b) old

      -- or else what the one that can start returns.
      pub a-group : (get_or text at 0 ≡ 91 → ⊥) → (old new : List ℕ) (r : Option Listed) → NodeAnswered groups text at slot tally old new r → NodeAnswered either text at slot tally old new r
      a-group e old new r =
          told-as groups either old new r
          (λ k _. ap (λ (r : Reading (ℤ → Node Leaf)). and_then r (times f))
          (or-last (group_node (node_list f k) at (drop at text)) (binary_group_node (node_list f k)) at (drop at text) (no-binary (node_list f k) at (drop at text) (here 91 e))))

      pub a-bracket : get_or text at 0 ≡ 91 → (old new : List ℕ) (r : Option Listed) → NodeAnswered binaries text at slot tally old new r → NodeAnswered either text at slot tally old new r
      a-bracket e old new r =
          told-as binaries either old new r
          (λ k _. ap (λ (r : Reading (ℤ → Node Leaf)). and_then r (times f))
          (or-none (group_node (node_list f k) at (drop at text)) (binary_group_node (node_list f k)) at (drop at text)
          (rw (drop-cons text at 0 h, e) (no-group (node_list f k) at (drop (suc at) text)))))

    -- What `node` returns: a leaf, where no group stands, or else a group.
    pub leaf_first : (old new : List ℕ) (next end : ℕ) → NodeRead leaves text at slot tally old new next end → NodeRead nodes text at slot tally old new next end
    leaf_first old new next end t =
        told-as leaves nodes old new (Some (record { next = next; slot = end }))
        (λ k l.
        node-choice f (node_list f k) at (drop at text)
        ∙ ap (λ (r : Reading (ℤ → Node Leaf)). or_else (and_then r (times f)) (node f fail) at (drop at text))
        (no-nested f k at (drop at text) t.node next (drop next text) (t.reads k l))) t

    pub group-instead : (old mid new : List ℕ) (r : Option Listed) → NoNode leaves text at slot old mid → NodeAnswered either text at slot tally mid new r → NodeAnswered nodes text at slot tally old new r
    group-instead old mid new r g t =
        told-after nodes old mid new r g.kept
        (told-as either nodes mid new r
        (λ k l.
        node-choice f (node_list f k) at (drop at text)
        ∙ or-last (and_then (nested (node_list f k) at (drop at text)) (times f)) (node f fail) at (drop at text) (g.rejects k l)) t)

pub no-bracket-byte : (b : ℕ) → OneOf openers b → b ≡ 91 → ⊥
no-bracket-byte b = ⊎_elim (λ e q. omega arith) (⊎_elim (λ e q. omega arith) (⊎_elim (λ e q. omega arith) (λ e q. omega arith)))
