-- The entries: for each its answer and the final bytes of its buffer, on accepted and refused inputs alike.
use Rattle.std.specs.Prelude.{ℕ, ◌+◌, ◌*◌, ◌/◌, Bool, ◌&&◌, ◌||◌, List, [], ◌∷◌, ◌++◌, eqb, leb, ltb, length, drop}
use Prim.Native.Char.{code}
use Rattle.std.proofs.Math.ListN.{get_elem?}
use Rattle.notation.specs.Basics.{Bytes, between}
use Rattle.notation.specs.Utf8.{utf8}
use Rattle.notation.specs.Numbers.{big_endian}
use Rattle.notation.specs.Refusals.{Outcome, refusal, result, ◌>>=◌, ◌>>◌, unless, or_refuse, TOO-LONG, NOT-UTF8, TOO-NESTED, NOT-NOTATION, NOT-WELL-FORMED, TOO-MANY-STEPS, NO-SUCH-PLACE, NO-SUCH-LAYER-COUNT, NO-SUCH-RECORD}
pub use Rattle.notation.specs.Lending.{outcome, refusal_number, value, Lent, lent, kept, lend, in_entries}
use Rattle.notation.specs.Layers.{Range, MAX-LAYER, clamp_to_layer_count, set_ranges, keep, lit, simplified}
use Rattle.notation.specs.Tree.{
  Span,
  part_of,
  Layers,
  no_layers,
  single_layer,
  layer_range,
  layer_set,
  Leaf,
  rotation,
  move,
  pause,
  pair,
  slash,
  megaminx,
  Tree,
}
use Rattle.notation.specs.Packed.{RECORD, Head, leaf_head, group_head, binary_head, head_at, leaf_record, pack, unpack, bit}
use Rattle.notation.specs.Grammar.{notation}
use Rattle.notation.specs.Meaning.{layer_set_in, or_empty}
use Rattle.notation.specs.WellFormed.{well_formed, MAX-NESTING}
use Rattle.notation.specs.Invert.{inv, inv_deep}
use Rattle.notation.specs.Print.{printed}
use Rattle.notation.specs.Unroll.{flatten}
use Rattle.notation.specs.declared.features.Features.{Features}

-- Texts: refusals 1 and 2.
abbrev pub MAX-TEXT : ℕ
MAX-TEXT = 16777215

abbrev pub text_ok : (text : Bytes) → Outcome (Unit {0})
text_ok text = do
  unless TOO-LONG (leb (length text) MAX-TEXT)
  unless NOT-UTF8 (utf8 text)

-- Refusal 3: some starting part of the text has over 64 more of `(` `[` than of `)` `]`.
abbrev pub opens : ℕ → ℕ
opens b = bit (eqb b (code "(") || eqb b (code "["))

abbrev pub closes : ℕ → ℕ
closes b = bit (eqb b (code ")") || eqb b (code "]"))

unfoldable pub nesting_ok : (opened closed : ℕ) → Bytes → Bool
nesting_ok opened closed [] = leb opened (closed + MAX-NESTING)
nesting_ok opened closed (b ∷ s) = leb opened (closed + MAX-NESTING) && nesting_ok (opened + opens b) (closed + closes b) s

-- Reading: refusals 1, 2, 3, 4.
unfoldable pub tree_in : Features → (text : Bytes) → Outcome Tree
tree_in f text = do
  text_ok text
  unless TOO-NESTED (nesting_ok 0 0 text)
  or_refuse NOT-NOTATION (notation f text)

abbrev pub reading : Features → (text : Bytes) → Outcome Bytes
reading f text = do t ← tree_in f text; result (pack t)

abbrev pub parse_notation : Features → (text buffer : Bytes) → Lent ℕ
parse_notation f text buffer = lend (reading f text) buffer

-- Trees: refusals 1, 2, 6.
unfoldable pub checked : (text tree : Bytes) → Outcome Tree
checked text tree = do
  text_ok text
  unless NOT-WELL-FORMED (well_formed text tree)
  result (unpack tree)

-- Inverses: refusals 7 and 8 as the walk meets them.
abbrev pub inverse : (text tree : Bytes) → Outcome Bytes
inverse text tree = do t ← checked text tree; t' ← inv t; result (pack t')

abbrev pub inv_entry : (text tree buffer : Bytes) → Lent ℕ
inv_entry text tree buffer = lend (inverse text tree) buffer

abbrev pub deep_inverse : (text tree : Bytes) → Outcome Bytes
deep_inverse text tree = do t ← checked text tree; t' ← inv_deep t; result (pack t')

abbrev pub inv_deep_entry : (text tree buffer : Bytes) → Lent ℕ
inv_deep_entry text tree buffer = lend (deep_inverse text tree) buffer

-- Printing.
abbrev pub display : (text tree : Bytes) → Outcome Bytes
display text tree = do t ← checked text tree; result (printed text t)

abbrev pub display_entry : (text tree buffer : Bytes) → Lent ℕ
display_entry text tree buffer = lend (display text tree) buffer

-- Unrolling, counting and seeking: refusals 7 or 8, then 9, then 10.
abbrev pub MAX-STEPS : ℕ
MAX-STEPS = 4294967295

unfoldable pub steps : (text tree : Bytes) → Outcome (List Leaf)
steps text tree = do
  t ← checked text tree
  l ← flatten t
  unless TOO-MANY-STEPS (leb (length l) MAX-STEPS)
  result l

-- a record for each step
unfoldable pub records : List Leaf → Bytes
records [] = []
records (x ∷ l) = leaf_record x ++ records l

abbrev pub unrolled : (text tree : Bytes) → Outcome Bytes
unrolled text tree = do l ← steps text tree; result (records l)

abbrev pub flatten_entry : (text tree buffer : Bytes) → Lent ℕ
flatten_entry text tree buffer = lend (unrolled text tree) buffer

abbrev pub count_steps : (text tree : Bytes) → Outcome ℕ
count_steps text tree = do l ← steps text tree; result (length l)

abbrev pub step_at : (text tree : Bytes) (place : ℕ) → Outcome Bytes
step_at text tree place = do
  l ← steps text tree
  x ← or_refuse NO-SUCH-PLACE (get_elem? l place)
  result (leaf_record x)

abbrev pub seek_step : (text tree : Bytes) (place : ℕ) (buffer : Bytes) → Lent ℕ
seek_step text tree place buffer = lend (step_at text tree place) buffer

-- Layer ranges and families. A record is named by its number in the tree.
abbrev pub record_at : (tree : Bytes) («record» : ℕ) → Outcome Head
record_at tree «record» = do
  unless NO-SUCH-RECORD (ltb «record» (length tree / RECORD))
  result (head_at (drop (RECORD * «record») tree))

-- a move's prefix: whether it has a tilde, and its contents
abbrev pub prefix_of : Head → Outcome (Bool × Layers Span)
prefix_of (leaf_head (move t l f c m)) = result (t, l)
prefix_of (leaf_head (rotation f c m)) = refusal NO-SUCH-RECORD
prefix_of (leaf_head pause) = refusal NO-SUCH-RECORD
prefix_of (leaf_head (pair u d)) = refusal NO-SUCH-RECORD
prefix_of (leaf_head slash) = refusal NO-SUCH-RECORD
prefix_of (leaf_head (megaminx k)) = refusal NO-SUCH-RECORD
prefix_of (group_head k n m c) = refusal NO-SUCH-RECORD
prefix_of (binary_head k n n' m c) = refusal NO-SUCH-RECORD

-- what a prefix gives without its tilde; no contents: layer 1
abbrev pub ranges_in : (text : Bytes) (layers : ℕ) (negatives : Bool) → Layers Span → List Range
ranges_in text layers negatives no_layers = keep (clamp_to_layer_count layers (record { low = 1; high = 1 })) []
ranges_in text layers negatives (single_layer i) = keep (clamp_to_layer_count layers (record { low = i; high = i })) []
ranges_in text layers negatives (layer_range i j) = keep (clamp_to_layer_count layers (record { low = i; high = j })) []
ranges_in text layers negatives (layer_set p) = set_ranges layers negatives (or_empty (layer_set_in (part_of text p)))

-- refusals 1, 2, 6, 11, 12
unfoldable pub layer_ranges : (text tree : Bytes) («record» layers : ℕ) (negatives : Bool) → Outcome (List Range)
layer_ranges text tree «record» layers negatives = do
  checked text tree
  unless NO-SUCH-LAYER-COUNT (between 1 MAX-LAYER layers)
  h ← record_at tree «record»
  p ← prefix_of h
  result (simplified (lit layers p.0 (ranges_in text layers negatives p.1)))

abbrev pub simplify : (text tree : Bytes) («record» layers : ℕ) (negatives : Bool) (buffer : List Range) → Lent Range
simplify text tree «record» layers negatives buffer = lend (layer_ranges text tree «record» layers negatives) buffer

-- The same in bytes: each range as low and high, 16 bits big-endian.
abbrev pub RANGE : ℕ
RANGE = 4

unfoldable pub range_bytes : List Range → Bytes
range_bytes [] = []
range_bytes (r ∷ l) = big_endian 2 r.low ++ big_endian 2 r.high ++ range_bytes l

-- `lend` answers how many bytes it lent; the entry answers how many ranges these are, and so divides by their size
abbrev pub simplify_bytes : (text tree : Bytes) («record» layers : ℕ) (negatives : Bool) (buffer : Bytes) → Lent ℕ
simplify_bytes text tree «record» layers negatives buffer =
    in_entries RANGE (lend (do l ← layer_ranges text tree «record» layers negatives; result (range_bytes l)) buffer)

abbrev pub family_of : Head → Outcome Span
family_of (leaf_head (move t l f c m)) = result f
family_of (leaf_head (rotation f c m)) = result f
family_of (leaf_head pause) = refusal NO-SUCH-RECORD
family_of (leaf_head (pair u d)) = refusal NO-SUCH-RECORD
family_of (leaf_head slash) = refusal NO-SUCH-RECORD
family_of (leaf_head (megaminx k)) = refusal NO-SUCH-RECORD
family_of (group_head k n m c) = refusal NO-SUCH-RECORD
family_of (binary_head k n n' m c) = refusal NO-SUCH-RECORD

-- refusals 1, 2, 6, 12
unfoldable pub family_span : (text tree : Bytes) («record» : ℕ) → Outcome Span
family_span text tree «record» = do
  checked text tree
  h ← record_at tree «record»
  family_of h

-- the very part of the text, empty where refused; beside it the refusal
abbrev pub part_in : (text : Bytes) → Outcome Span → Bytes
part_in text (refusal r) = []
part_in text (result p) = part_of text p

abbrev pub family : (text tree : Bytes) («record» : ℕ) → Bytes
family text tree «record» = part_in text (family_span text tree «record»)

abbrev pub family_refusal : (text tree : Bytes) («record» : ℕ) → ℕ
family_refusal text tree «record» = refusal_number (family_span text tree «record»)
