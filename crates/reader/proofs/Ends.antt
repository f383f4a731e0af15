-- Where a function of the reader leaves the cursor: at the end of the rule's reading, within the text. Assumes nothing.
use Prim.Native.Nat.{ℕ, ◌+◌, ◌≤◌}
use mathlib.Core.Path.{◌≡◌, refl, sym, ◌∙◌, ap, subst}
use mathlib.Core.List.{List}
use native.Mathlib.Omega.{arith}
use lib.ListN.{length, drop, length-drop}
use denote.Ref.{Bor}
use Rattle.notation.specs.Chars.{white_space}
use Rattle.notation.specs.Utf8.{run}
use Rattle.notation.specs.Entries.{MAX-TEXT}
use Rattle.notation.specs.Grammar.{Reading, rejected, read, whitespace, multiplier, constraint_set}
use Rattle.notation.specs.declared.features.Features.{Features}
use Rattle.charsets.proofs.Runs.{run_length}
use Rattle.std.specs.Prelude.{Option, Some, None, unwrap_or}
use Rattle.notation.specs.Numbers.{from_bits}
use Rattle.record.specs.declared.encode.Fields.{Fields}
use Rattle.record.specs.Meaning.{listed}
use Rattle.parsed.specs.declared.Parsed.{Parsed}
use Rattle.parsed.specs.Reading.{taken, reading}
use Rattle.parse.specs.Meaning.{forget, end_reading}
use Rattle.parse.specs.Meaning as means
use Rattle.parse.proofs.Past.{within}
use Rattle.parse.proofs.Rules.{takes-multiplier, takes-forget, takes-constraint_set}
use Rattle.reader.specs.declared.Reader.{Reader}
use Rattle.reader.specs.Cursor.{text, Inside, reads, end_of, moved, after, Moves, leaf, leaf_after_spaces, after_leaf}

pub whitespace-moves : (r : Reader) (n : ℕ) → Inside r → n ≡ r.at + run white_space (drop r.at (text r)) → Moves whitespace r (moved r n)
whitespace-moves r n inside e = (ap (moved r) e, omega (arith, inside, e, length-drop r.at (text r), run_length white_space 0 (drop r.at (text r))))

pub multiplier-moves : (f : Features) (r : Reader) (m : Parsed ℕ) → Inside r → taken (from_bits 32) (text r) m ≡ reads (multiplier f) r → Moves (multiplier f) r (moved r m.next)
multiplier-moves f r m inside e = (ap (after r) e, (within (text r) r.at (takes-multiplier f) inside e).1)

-- a leaf's answer says where its reading ends
leaf-end : (s : List ℕ) (at : ℕ) (a : Option (Parsed Fields)) → after_leaf at a ≡ end_of at (reading listed s a)
leaf-end s at None = refl
leaf-end s at (Some p) = refl

leaf-inside : (s : List ℕ) (at : ℕ) (a : Option (Parsed Fields)) → at ≤ length s → means.Within at (length s) a → after_leaf at a ≤ length s
leaf-inside s at None h w = h
leaf-inside s at (Some p) h w = w.1

pub leaf-moves : (f : Features) (r : Reader) (a : Option (Parsed Fields)) (n : ℕ) → Inside r → reading listed (text r) a ≡ reads (leaf f) r → means.Within r.at (length (text r)) a → n ≡ after_leaf r.at a → Moves (leaf f) r (moved r n)
leaf-moves f r a n inside e w c =
    (ap (moved r) (c ∙ (leaf-end (text r) r.at a ∙ ap (end_of r.at) e)), omega (arith, c, leaf-inside (text r) r.at a inside w))

-- The same of a set's answer, which tells the end alone.
set-end : (s : List ℕ) (at : ℕ) (a : Option ℕ) → unwrap_or a at ≡ end_of at (end_reading s a)
set-end s at None = refl
set-end s at (Some next) = refl

end-forget : {A : Type 0} (at : ℕ) (x : Reading A) → end_of at (forget x) ≡ end_of at x
end-forget at rejected = refl
end-forget at (read a next rest) = refl

set-inside : (r : Reader) (a : Option ℕ) → Inside r → end_reading (text r) a ≡ forget (reads constraint_set r) → unwrap_or a r.at ≤ length (text r)
set-inside r None h e = h
set-inside r (Some next) h e = (within (text r) r.at (takes-forget takes-constraint_set) h e).1

pub set-moves : (r : Reader) (a : Option ℕ) (n : ℕ) → Inside r → end_reading (text r) a ≡ forget (reads constraint_set r) → n ≡ unwrap_or a r.at → Moves constraint_set r (moved r n)
set-moves r a n inside e c =
    (ap (moved r) (c ∙ (set-end (text r) r.at a ∙ (ap (end_of r.at) e ∙ end-forget r.at (reads constraint_set r)))), omega (arith, c, set-inside r a inside e))

-- The first leaf of a text: what `leaf` reads at the cursor that `skip_whitespace` leaves.
abbrev pub start : Bor (List ℕ) → Reader
start s = record { text = s; at = 0 }

pub first-leaf-is : (f : Features) (s : Bor (List ℕ)) (y : Reader) (a : Option (Parsed Fields)) → y ≡ after (start s) (reads whitespace (start s)) → reading listed (text y) a ≡ reads (leaf f) y → reading listed s.now a ≡ leaf_after_spaces f 0 s.now
first-leaf-is f s y a p e =
    let n = run white_space s.now in
    let zero : 0 + n ≡ n = omega arith in
    subst (λ (r : Reader). reading listed (text r) a ≡ reads (leaf f) r) p e ∙ ap (λ (k : ℕ). leaf f (0 + n) (drop k s.now)) zero

-- the text stays as long as it was
pub still-short : (s : Bor (List ℕ)) (y : Reader) → length s.now ≤ MAX-TEXT → y ≡ after (start s) (reads whitespace (start s)) → length (text y) ≤ MAX-TEXT
still-short s y h p = subst (λ (r : Reader). length (text r) ≤ MAX-TEXT) (sym p) h
