-- How much of the text each rule takes. Assumes nothing.
use Prim.Native.Nat.{ℕ, ◌+◌, ◌-◌, ◌≤◌, ◌<◌}
use Prim.Native.Char.{Char}
use mathlib.Core.Path.{◌≡◌, refl, sym}
use mathlib.Core.Bool.{Bool}
use mathlib.Core.List.{List}
use native.Mathlib.Omega.{arith}
use lib.ListN.{length, drop}
use Rattle.notation.specs.Tree.{Span, span}
use Rattle.notation.specs.Chars.{is_prime}
use Rattle.notation.specs.Grammar.{Reading, rejected, read, Reader, and_then, done, fail, just, word, sint, prime, multiplier, spanned, constraint, constraint_set, layer_set_element, layer_set_elements, layer_prefix_contents, constraints, rotation_node, tilde, move_node, group_node, binary_group_node, megaminx_scramble_move, sq1_move, node, node_by}
use Rattle.notation.specs.declared.features.Features.{Features}
use Rattle.notation.specs.declared.common.MegaminxScrambleMove.{MegaminxScrambleMove}
use Rattle.parse.specs.Meaning.{forget, end_reading, constraint_end, numbered_layers, node_fields, Within}
use Rattle.std.specs.Prelude.{Option, Some, None, IfSome}
use Rattle.notation.specs.Layers.{LayerSetElement}
use Rattle.record.specs.declared.encode.Fields.{Fields}
use Rattle.record.specs.Meaning.{listed}
use Rattle.parsed.specs.declared.Parsed.{Parsed}
use Rattle.parsed.specs.Reading.{reading}
use Rattle.parse.proofs.Past.{Takes, within, takes-fail, takes-done, takes-then, takes-or, takes-when, takes-less, takes-just, takes-character, takes-uint, takes-family_text, takes-family, takes-padded, takes-braces}
use Rattle.parse.proofs.Readings.{took, never}

pub takes-forget : {A : Type 0} {k : ℕ} {p : Reader A} → Takes k p → Takes k (λ at s. forget (p at s))
takes-forget {p = p} h = record {
  ends = λ at s u e t q.
      let x = took (p at s) (sym q) in
      h.ends at s x.value e t x.reads;
}

-- first a rule that takes k bytes, then any
first : {A B : Type 0} {k m : ℕ} {p : Reader A} {f : A → Reader B} → Takes k p → ((a : A) → Takes m (f a)) → Takes k (λ at s. and_then (p at s) f)
first {k = k} h g = takes-less k (omega arith) (takes-then h g)

-- first any, then one that takes k bytes
second : {A B : Type 0} {k m : ℕ} {p : Reader A} {f : A → Reader B} → Takes m p → ((a : A) → Takes k (f a)) → Takes k (λ at s. and_then (p at s) f)
second {k = k} h g = takes-less k (omega arith) (takes-then h g)

any : {A : Type 0} {k : ℕ} {p : Reader A} → Takes k p → Takes 0 p
any h = takes-less 0 (omega arith) h

pub takes-spanned : {A : Type 0} {k : ℕ} {p : Reader A} → Takes k p → Takes k (spanned p)
takes-spanned {A} {k} {p} h = record { ends = λ at s x e t q. go at s (p at s) refl x e t q }
  where
    go : (at : ℕ) (s : List ℕ) (r : Reading A) → p at s ≡ r → (x : Span) (e : ℕ) (t : List ℕ) → and_then r (λ a at'. done (span at (at' - at)) at') ≡ read x e t →
        (at + k ≤ e) × (e + length t ≡ at + length s)
    go at s rejected w x e t q = never q
    go at s (read a i u) w x e t q =
        let b = h.ends at s a i u w in
        let p : i ≡ e = cc in
        let n : length u ≡ length t = cc in
        (omega (arith, b.0), omega (arith, b.1))

pub takes-sint : (low high high-negative : ℕ) → Takes 1 (sint low high high-negative)
takes-sint low high high-negative =
    takes-or (first (takes-just "-") (λ _. first (takes-uint low high-negative) (λ n. takes-done))) (first (takes-uint low high) (λ n. takes-done))

pub takes-constraint : Takes 1 constraint
unfolding word
takes-constraint =
    takes-or (first takes-family_text (λ a. first (takes-padded (first (takes-just "-") (λ _. first (takes-just ">") (λ _. takes-done)))) (λ _. first takes-family_text (λ b. takes-done))))
    (takes-or (first takes-family_text (λ a. first (takes-padded (first (takes-just "<") (λ _. first (takes-just ">") (λ _. takes-done)))) (λ _. first takes-family_text (λ b. takes-done))))
    (first takes-family_text (λ a. takes-done)))

pub takes-layer_set_element : (hsc1 : Bool) → Takes 1 (layer_set_element hsc1)
unfolding word
takes-layer_set_element hsc1 =
    takes-or (first (takes-sint 1 32767 32767) (λ i. first (first (takes-just ".") (λ _. first (takes-just ".") (λ _. takes-done))) (λ _. first (takes-sint 1 32767 32767) (λ j. takes-done))))
    (takes-or (takes-when hsc1 (first (takes-uint 1 32767) (λ i. first (takes-just "-") (λ _. first (takes-uint 1 32767) (λ j. takes-done)))))
    (first (takes-sint 1 32767 32767) (λ i. takes-done)))

-- an element of a set lies within the text, past its start
pub constraint-within : (text : List ℕ) (at : ℕ) (r : Option ℕ) → at ≤ length text → end_reading text r ≡ constraint_end at (drop at text) → IfSome r (λ end. (at < end) × (end ≤ length text))
constraint-within text at None h e = tt
constraint-within text at (Some end) h e =
    let b = within text at (takes-forget takes-constraint) h e in
    (omega (arith, b.0), b.1)

pub layer-within : {a : LayerSetElement} {e : ℕ} (hsc1 : Bool) (text : List ℕ) (at : ℕ) → at ≤ length text → read a e (drop e text) ≡ layer_set_element hsc1 at (drop at text) → (at < e) × (e ≤ length text)
layer-within hsc1 text at h q =
    let b = within text at (takes-layer_set_element hsc1) h q in
    (omega (arith, b.0), b.1)

pub takes-constraint_set : Takes 1 constraint_set
unfolding constraint_set
takes-constraint_set = takes-braces takes-constraint

pub takes-layer_set : (hsc1 : Bool) → Takes 1 (layer_set_elements hsc1)
unfolding layer_set_elements
takes-layer_set hsc1 = takes-braces (takes-layer_set_element hsc1)

pub takes-numbered : Takes 0 numbered_layers
takes-numbered =
    takes-or (any (first (takes-uint 1 32767) (λ i. first (takes-just "-") (λ _. first (takes-uint 1 32767) (λ j. takes-done)))))
    (takes-or (any (first (takes-uint 1 32767) (λ i. takes-done))) takes-done)

pub takes-layers : (f : Features) → Takes 0 (layer_prefix_contents f)
unfolding layer_prefix_contents
takes-layers f =
    takes-or (takes-when f.layers.layer_sets (any (first (takes-spanned (takes-layer_set f.layers.hsc1_layer_ranges)) (λ p. takes-done)))) takes-numbered

pub takes-constraints : (f : Features) → Takes 0 (constraints f)
takes-constraints f = takes-or (any (first (takes-when f.transform_constraints (takes-spanned takes-constraint_set)) (λ p. takes-done))) takes-done

pub takes-tilde : (f : Features) → Takes 0 (tilde f)
takes-tilde f = takes-or (takes-when f.layers.inverted_layers (any (first (takes-just "~") (λ _. takes-done)))) takes-done

takes-prime : (f : Features) → Takes 1 (prime f)
takes-prime f = takes-or (takes-just "'") (takes-when f.curly_primes (takes-character is_prime))

pub takes-multiplier : (f : Features) → Takes 0 (multiplier f)
takes-multiplier f = second (takes-or (any (takes-uint 0 2147483647)) takes-done) (λ n. takes-or (any (first (takes-prime f) (λ _. takes-done))) takes-done)

takes-rotation : (f : Features) → Takes 1 (rotation_node f)
unfolding rotation_node
takes-rotation f = takes-when f.generalized_rotations (first (takes-just "@") (λ _. first (takes-family 0) (λ a. first (takes-constraints f) (λ c. takes-done))))

takes-move : (f : Features) → Takes 1 (move_node f)
unfolding move_node
takes-move f = second (takes-tilde f) (λ t. second (takes-layers f) (λ l. first (takes-family 1) (λ a. first (takes-constraints f) (λ c. takes-done))))

takes-group : Takes 1 (group_node fail)
unfolding group_node
takes-group =
    second
    (takes-or (any (first (takes-just "!") (λ _. takes-done))) (takes-or (any (first (takes-just "&") (λ _. takes-done))) (takes-or (any (first (takes-just "^") (λ _. takes-done))) takes-done)))
    (λ k. first (takes-just "(") (λ _. takes-fail {k = 0}))

takes-binary : Takes 1 (binary_group_node fail)
unfolding binary_group_node
takes-binary =
    first (takes-just "[") (λ _. takes-fail {k = 0})

takes-scramble : Takes 1 megaminx_scramble_move
unfolding megaminx_scramble_move word
takes-scramble = takes-or (three "R" "+" _) (takes-or (three "R" "-" _) (takes-or (three "D" "+" _) (three "D" "-" _)))
  where
    three : (a b : Char) → (x : MegaminxScrambleMove) → Takes 1 (λ at s. and_then (and_then (just a at s) (λ _ at s. and_then (just b at s) (λ _ at s. and_then (just b at s) (λ _. done (tt {0}))))) (λ _. done x))
    three a b x = first (first (takes-just a) (λ _. first (takes-just b) (λ _. first (takes-just b) (λ _. takes-done)))) (λ _. takes-done)

takes-sq1 : Takes 1 sq1_move
unfolding sq1_move
takes-sq1 =
    takes-or (first (takes-just "/") (λ _. takes-done))
    (first (takes-just "(")
    (λ _. first (takes-padded (takes-sint 0 2147483647 2147483648))
    (λ u. first (takes-just ",") (λ _. first (takes-padded (takes-sint 0 2147483647 2147483648)) (λ d. first (takes-just ")") (λ _. takes-done))))))

pub takes-node : (f : Features) → Takes 1 (node f fail)
unfolding node_by
takes-node f =
    takes-or (first (takes-just ".") (λ _. takes-done))
    (takes-or (takes-when f.megaminx (first takes-scramble (λ k. takes-done)))
    (takes-or (first (takes-or (takes-rotation f) (takes-or takes-group (takes-or takes-binary (takes-move f)))) (λ inner. first (takes-multiplier f) (λ m. takes-done)))
    (takes-when f.sq1 (first takes-sq1 (λ x. takes-done)))))

-- the answer of `leaf` lies within the text, past its start
pub leaf-within : (f : Features) (text : List ℕ) (at : ℕ) (r : Option (Parsed Fields)) → at ≤ length text →
    reading listed text r ≡ and_then (node f fail at (drop at text)) (λ n. done (node_fields n)) → Within at (length text) r
leaf-within f text at None h e = tt
leaf-within f text at (Some p) h e =
    let b = within text at (first (takes-node f) (λ n. takes-done {a = node_fields n})) h e in
    (omega (arith, b.0), b.1)
