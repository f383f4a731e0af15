-- The loop of `node_list`: what its turns keep, and what each way out of it returns. Assumes nothing.
use Prim.Native.Nat.{ℕ, zero, suc, ◌+◌, ◌*◌, ◌-◌, ◌<◌, ◌≤◌}
use mathlib.Core.Path.{◌≡◌, refl, sym, ap, ◌∙◌}
use mathlib.Core.List.{List, ◌++◌, append_assoc}
use mathlib.Core.List as lists
use native.Mathlib.Omega.{arith}
use native.Mathlib.Nat.{add-zero}
use lib.ListN.{length, drop, length-drop}
use lib.Seq.{drop-drop}
use Rattle.charsets.proofs.Runs.{run-dropped, end-length}
use Rattle.laws.proofs.Inverses.{append-nil-nodes}
use Rattle.laws.proofs.WellFormedInverses.{size-append}
use Rattle.notation.specs.Chars.{white_space}
use Rattle.notation.specs.Utf8.{run}
use Rattle.notation.specs.Tree.{Leaf, Node, leaf, block, nil, cons, Tree, append}
use Rattle.notation.specs.Packed.{RECORD, node_size, size}
use Rattle.notation.specs.Grammar.{Reading, read, Reader, done, and_then, node, node_list}
use Rattle.notation.specs.declared.features.Features.{Features}
use Rattle.tally.specs.Tallies.{tally_node, tally_list}
use Rattle.tally.proofs.Sizes.{length-tally_list}
use Rattle.parse.specs.Nodes.{WroteRecords, ListRead, NodeRead, NoNode}
use Rattle.parse.proofs.Buffers.{wrote_none, wrote_kept, wrote_then}
use Rattle.parse.proofs.Lists.{rest, list-start, and_then-done, rest-none, rest-last, rest_more, then_append}

-- a node takes a record at least
pub some-records : (n : Node Leaf) → 0 < node_size n
unfolding node_size
some-records (leaf x) = omega arith
some-records (block b m) = omega arith

-- one more node at the end
tally-last : (h : ℕ) (a : Tree) (n : Node Leaf) → tally_list h (append a (cons n nil)) ≡ tally_list h a ++ tally_node h n
unfolding append tally_list
tally-last h nil n = lists.append-nil (tally_node h n)
tally-last h (cons m a) n =
    ap (λ (l : List ℕ). tally_node h m ++ l) (tally-last h a n) ∙ sym (append_assoc (tally_node h m) (tally_list h a) (tally_node h n))

size-last : (a : Tree) (n : Node Leaf) → size (append a (cons n nil)) ≡ size a + node_size n
unfolding size
size-last a n = size-append a (cons n nil) ∙ omega arith

module _ (f : Features) (text : List ℕ) (at slot tally : ℕ) (old : List ℕ) where
  -- `next` is where a node may stand, `front` what was read before, and the rest is read as it would be in the whole list
  pub record Going (next end : ℕ) (new : List ℕ) : Type 0 where
    pub front : Tree
    pub fuel : ℕ
    pub enough : length text - next ≤ fuel
    pub goes : (k : ℕ) → length text - at ≤ k →
        node_list f (suc k) at (drop at text) ≡ and_then (rest (node f (node_list f k)) fuel next (drop next text)) (λ l. done (append front l))
    pub slots : end ≡ slot + size front
    pub advances : at + size front ≤ next
    pub inside : next ≤ length text
    pub skipped : run white_space (drop next text) ≡ 0
    pub wrote : WroteRecords (RECORD * slot) (tally_list tally front) old new

  skips : (from next : ℕ) → next ≡ from + run white_space (drop from text) → run white_space (drop next text) ≡ 0
  skips from next e =
      ap (λ (n : ℕ). run white_space (drop n text)) e
      ∙ ap (run white_space) (sym (drop-drop (run white_space (drop from text)) from text))
      ∙ run-dropped white_space (drop from text)

  pub going_start : (next : ℕ) → at ≤ length text → next ≡ at + run white_space (drop at text) → Going next slot old
  unfolding append size tally_list
  going_start next h e =
      record {
        front = nil;
        fuel = length (drop next text);
        enough = omega (arith, length-drop next text);
        goes = λ k _. list-start f k at next text e ∙ sym (and_then-done (rest (node f (node_list f k)) (length (drop next text)) next (drop next text)));
        slots = omega arith;
        advances = omega arith;
        inside = omega (arith, end-length white_space text at h);
        skipped = skips at next e;
        wrote = wrote_none (RECORD * slot) old;
      }

  module _ (next end : ℕ) (mid new : List ℕ) (g : Going next end mid) where
    abbrev rule : ℕ → Reader (Node Leaf)
    rule k = node f (node_list f k)

    -- no node follows
    pub list-ends : NoNode rule text next end mid new → ListRead f text at slot tally old new next end
    list-ends none =
        record {
          tree = g.front;
          reads = λ k h. reads k h;
          slots = g.slots;
          advances = g.advances;
          inside = g.inside;
          wrote = wrote_kept (RECORD * slot) (RECORD * end) (tally_list tally g.front) old mid new (omega (arith, length-tally_list tally g.front, g.slots)) g.wrote none.kept;
        }
      where
        reads : (k : ℕ) → length text - at < k → node_list f k at (drop at text) ≡ read g.front next (drop next text)
        reads zero h = absurd (omega arith)
        reads (suc k) h =
            g.goes k (omega arith)
            ∙ ap (λ (r : Reading Tree). and_then r (λ l. done (append g.front l)))
            (rest-none (rule k) next (drop next text) g.fuel (none.rejects k (omega (arith, g.advances))) g.skipped)
            ∙ ap (λ (t : Tree). read t next (drop next text)) (append-nil-nodes g.front)

    module _ (after filled : ℕ) (took : NodeRead rule text next end tally mid new after filled) where
      joined : WroteRecords (RECORD * slot) (tally_list tally (append g.front (cons took.node nil))) old new
      joined =
          rw (tally-last tally g.front took.node)
          (wrote_then (RECORD * slot) (RECORD * end) (tally_list tally g.front) old mid new (omega (arith, length-tally_list tally g.front, g.slots)) g.wrote (tally_node tally took.node) took.wrote)

      -- the last node, which no white space follows
      pub list-stops : run white_space (drop after text) ≡ 0 → ListRead f text at slot tally old new after filled
      list-stops e =
          record {
            tree = append g.front (cons took.node nil);
            reads = λ k h. reads k h;
            slots = omega (arith, size-last g.front took.node, g.slots, took.slots);
            advances = omega (arith, size-last g.front took.node, g.advances, took.advances);
            inside = took.inside;
            wrote = joined;
          }
        where
          reads : (k : ℕ) → length text - at < k → node_list f k at (drop at text) ≡ read (append g.front (cons took.node nil)) after (drop after text)
          reads zero h = absurd (omega arith)
          reads (suc k) h =
              g.goes k (omega arith)
              ∙ ap (λ (r : Reading Tree). and_then r (λ l. done (append g.front l)))
              (rest-last (rule k) next (drop next text) took.node after (drop after text) (took.reads k (omega (arith, g.advances))) g.fuel e)

      -- a node that white space follows
      pub going_on : (further : ℕ) → further ≡ after + run white_space (drop after text) → (further ≡ after → ⊥) → Going further filled new
      going_on further e apart = go g.fuel refl
        where
          behind : drop (run white_space (drop after text)) (drop after text) ≡ drop further text
          behind = drop-drop (run white_space (drop after text)) after text ∙ ap (λ (n : ℕ). drop n text) (sym e)

          some : (n : ℕ) → further ≡ after + n → 0 < n
          some zero q = absurd (apart (q ∙ add-zero after))
          some (suc n) q = omega arith

          past : next < after
          past = omega (arith, took.advances, some-records took.node)

          go : (fuel : ℕ) → g.fuel ≡ fuel → Going further filled new
          go zero q = absurd (omega (arith, g.enough, took.inside, past, q))
          go (suc fuel) q =
              record {
                front = append g.front (cons took.node nil);
                fuel = fuel;
                enough = omega (arith, g.enough, past, e, q);
                goes = λ k h. goes k h;
                slots = omega (arith, size-last g.front took.node, g.slots, took.slots);
                advances = omega (arith, size-last g.front took.node, g.advances, took.advances);
                inside = omega (arith, end-length white_space text after took.inside);
                skipped = skips after further e;
                wrote = joined;
              }
            where
              goes : (k : ℕ) → length text - at ≤ k → node_list f (suc k) at (drop at text)
                  ≡ and_then (rest (rule k) fuel further (drop further text)) (λ l. done (append (append g.front (cons took.node nil)) l))
              goes k h =
                  g.goes k h
                  ∙ ap (λ (n : ℕ). and_then (rest (rule k) n next (drop next text)) (λ l. done (append g.front l))) q
                  ∙ ap (λ (r : Reading Tree). and_then r (λ l. done (append g.front l)))
                  (rest_more (rule k) next (drop next text) took.node after (drop after text) (took.reads k (omega (arith, g.advances))) fuel
                  (some (run white_space (drop after text)) e) (run-dropped white_space (drop after text)))
                  ∙ then_append g.front took.node (rest (rule k) fuel (after + run white_space (drop after text)) (drop (run white_space (drop after text)) (drop after text)))
                  ∙ ap (λ (t : List ℕ). and_then (rest (rule k) fuel (after + run white_space (drop after text)) t) (λ l. done (append (append g.front (cons took.node nil)) l))) behind
                  ∙ ap (λ (n : ℕ). and_then (rest (rule k) fuel n (drop further text)) (λ l. done (append (append g.front (cons took.node nil)) l))) (sym e)
