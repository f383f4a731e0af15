-- Where a node without lists is read, no group is: a pair's first number is no list, so that its parenthesis opens no group.
-- Assumes nothing.
use Prim.Native.Nat.{ℕ, zero, suc, ◌+◌, ◌<◌}
use mathlib.Core.Path.{◌≡◌, refl, sym, ap, ◌∙◌}
use mathlib.Core.Bool.{Bool, true, false, not}
use mathlib.Core.List.{List, [], ◌∷◌}
use native.Mathlib.Omega.{arith}
use borrow.Author.Tests.{ne_eqb, eqb-true}
use lib.Dec.{eqb}
use lib.IntN.{ℤ, pos}
use lib.ListN.{length, drop}
use Rattle.notation.specs.Basics.{one_of, every, choose}
use Rattle.notation.specs.Chars.{is_family_char, white_space, classify}
use Rattle.notation.specs.Numbers.{is_digit, digit_run}
use Rattle.notation.specs.Utf8.{run, byte_at, code_point, width_if}
use Rattle.notation.specs.Tree as tree
use Rattle.notation.specs.Tree.{Node, leaf, Leaf, Tree, nil, block, group}
use Rattle.notation.specs.Grammar.{Reading, rejected, read, Reader, and_then, or_else, done, fail, when, just, uint, i32, padded, group_node, binary_group_node, sq1_move, node, node_list, node_list_by}
use Rattle.notation.specs.declared.features.Features.{Features}
use Rattle.notation.specs.declared.common.GroupKind.TheVariants.{Simple}
use Rattle.charsets.proofs.Bools.{or-true}
use Rattle.charsets.proofs.Runs.{run-stop, run-dropped}
use Rattle.laws.proofs.Bools.{not-true}
use Rattle.laws.proofs.ReadBack.Starts.{clash, listed, not_digit, no-digits, fails, no_run, up_to, is_digit-listed, white-no-family}
use Rattle.parse.specs.Nodes.{nested}
use Rattle.parse.proofs.Readings.{never, steps, when-none}
use Rattle.parse.proofs.Choices.{just-no, times, sq1, node-choice, sq1-none, nothing-nested}
use Rattle.parse.proofs.Lists.{rest-none}
use Rattle.parse.proofs.Bare.{Behind, Bare, bare, bare-node, digits}

-- two bytes that a test tells apart
differ : (p : ℕ → Bool) (b c : ℕ) (x : Bool) → p b ≡ x → p c ≡ not x → eqb b c ≡ false
differ p b c x e n = ne_eqb b c (λ q. go x (sym e ∙ ap p q ∙ n))
  where
    go : (x : Bool) → x ≡ not x → ⊥
    go true w = clash true refl w
    go false w = clash true refl (sym w)

-- the bytes that a number starts with
abbrev numeric : List ℕ
numeric = 45 ∷ up_to 10 48

-- where a number stands, with nothing of a move behind it
record Numeric (s : List ℕ) : Type 0 where
  starts : one_of numeric (byte_at s 0) ≡ true
  no-layer : 0 < digit_run s → Behind (drop (digit_run s) s)

module _ (s : List ℕ) (n : Numeric s) where
  not_byte : (c : ℕ) → one_of numeric c ≡ false → eqb (byte_at s 0) c ≡ false
  not_byte c e = differ (one_of numeric) (byte_at s 0) c true n.starts e

  bare-number : Bare s
  unfolding one_of up_to every classify
  bare-number = record { no-tilde = not_byte 126 refl; no-brace = not_byte 123 refl; no-letter = letterless s n.starts; no-layer = n.no-layer }
    where
      letterless : (s : List ℕ) → one_of numeric (byte_at s 0) ≡ true → run is_family_char s ≡ 0
      letterless [] h = clash true refl (sym h)
      letterless (b ∷ s) h = no_run is_family_char (b ∷ s) (listed (fails is_family_char) numeric b refl h)

  -- no node stands there
  no_node : (f : Features) (list : Reader Tree) (at : ℕ) → node f list at s ≡ rejected
  unfolding one_of up_to
  no_node f list at =
      node-choice f list at s
      ∙ ap (λ (r : Reading (ℤ → Node Leaf)). or_else (and_then r (times f)) (node f fail) at s)
      (nothing-nested list at s (not_byte 40 refl) (not_byte 33 refl) (not_byte 38 refl) (not_byte 94 refl) (not_byte 91 refl))
      ∙ bare-node f at s bare-number (not_byte 46 refl) (not_byte 82 refl) (not_byte 68 refl) (not_byte 64 refl)
      ∙ when-none f.sq1 _ at s (ap (λ (r : Reading Leaf). and_then r (λ x. done (leaf x))) (sq1-none f at s (not_byte 47 refl) (not_byte 40 refl)))

-- so a list ends before it, and no parenthesis closes there
no-list : (f : Features) (k at : ℕ) (u : List ℕ) → Numeric (drop (run white_space u) u) → {A : Type 0} (g : Tree → Reader A) →
    and_then (node_list f k at u) (λ a at s. and_then (just ")" at s) (λ _. g a)) ≡ rejected
unfolding node_list_by one_of up_to
no-list f zero at u n g = refl
no-list f (suc k) at u n g =
    let s : List ℕ = drop (run white_space u) u in
    ap (λ (r : Reading Tree). and_then r (λ a at s. and_then (just ")" at s) (λ _. g a)))
    (rest-none (node f (node_list f k)) (at + run white_space u) s (length s) (no_node s n f (node_list f k) (at + run white_space u)) (run-dropped white_space u))
    ∙ ap (λ (r : Reading (Unit {0})). and_then r (λ _. g nil)) (just-no ")" (at + run white_space u) s (not_byte s n 41 refl))

-- White space starts no family.
white-first : (s : List ℕ) → 0 < run white_space s → run is_family_char s ≡ 0
white-first s h = run-stop is_family_char s (go (white_space (code_point s)) refl)
  where
    go : (b : Bool) → white_space (code_point s) ≡ b → width_if is_family_char s ≡ 0
    go true e = rw (not-true (is_family_char (code_point s)) (white-no-family (code_point s) e))
    go false e = absurd (omega (arith, h, run-stop white_space s (rw e)))

-- Before white space and a comma stands nothing of a move.
module _ (s : List ℕ) (comma : eqb (byte_at (drop (run white_space s) s) 0) 44 ≡ true) where
  -- without the white space, the comma stands first
  first : run white_space s ≡ 0 → byte_at s 0 ≡ 44
  first e = eqb-true (byte_at s 0) 44 (rw e at comma)

  at-comma : (s : List ℕ) → byte_at s 0 ≡ 44 → run is_family_char s ≡ 0
  unfolding classify one_of
  at-comma [] e = absurd (omega arith)
  at-comma (b ∷ s) e = no_run is_family_char (b ∷ s) (rw e)

  at-hyphen : (s : List ℕ) → byte_at s 0 ≡ 45 → run white_space s ≡ 0
  unfolding white_space one_of
  at-hyphen [] e = absurd (omega arith)
  at-hyphen (b ∷ s) e = no_run white_space (b ∷ s) (rw e)

  behind : Behind s
  behind = record {
    no-family = go (run white_space s) refl;
    no-hyphen = ne_eqb (byte_at s 0) 45 (λ e. omega (arith, e, first (at-hyphen s e)));
  }
    where
      go : (n : ℕ) → run white_space s ≡ n → run is_family_char s ≡ 0
      go zero e = at-comma s (first e)
      go (suc n) e = white-first s (omega (arith, e))

-- where digits stand, a digit stands first
digit-first : (s : List ℕ) → 0 < digit_run s → one_of numeric (byte_at s 0) ≡ true
unfolding digit_run one_of
digit-first [] h = absurd (omega arith)
digit-first (b ∷ s) h = go (is_digit b) refl h
  where
    go : (t : Bool) → is_digit b ≡ t → 0 < choose t (λ _. suc (digit_run s)) (λ _. 0) → one_of numeric b ≡ true
    go true e l = rw (is_digit-listed b e) (or-true (eqb 45 b))
    go false e l = absurd (omega arith)

-- one reading leaves one rest
rest-same : {A : Type 0} {a b : A} {i e : ℕ} {s t : List ℕ} → read a i s ≡ read b e t → s ≡ t
rest-same q = cc

-- a number before white space and a comma
number-first : (at : ℕ) (s : List ℕ) (z : ℤ) (e : ℕ) (t : List ℕ) → i32 at s ≡ read z e t → eqb (byte_at (drop (run white_space t) t) 0) 44 ≡ true → Numeric s
unfolding digit_run one_of up_to
number-first at s z e t q comma = go (eqb (byte_at s 0) 45) refl
  where
    negative : (s : List ℕ) → byte_at s 0 ≡ 45 → digit_run s ≡ 0
    negative [] w = refl
    negative (b ∷ s) w = rw w

    go : (x : Bool) → eqb (byte_at s 0) 45 ≡ x → Numeric s
    go true w =
        let b : byte_at s 0 ≡ 45 = eqb-true (byte_at s 0) 45 w in
        record { starts = rw b; no-layer = λ l. absurd (omega (arith, l, negative s b)) }
    go false w =
        let p = steps (uint 0 2147483647 at s) (λ n. done (pos n)) (sym (rw (just-no "-" at s w) at q)) in
        let d = digits 0 2147483647 at s p.value p.next p.rest p.first in
        record { starts = digit-first s d.some; no-layer = λ _. rw (d.ends ∙ rest-same p.second) (behind t comma) }

comma-read : {A : Type 0} (at : ℕ) (s : List ℕ) (g : Reader A) (a : A) (e : ℕ) (t : List ℕ) → and_then (just "," at s) (λ _. g) ≡ read a e t → eqb (byte_at s 0) 44 ≡ true
comma-read at s g a e t q = go (eqb (byte_at s 0) 44) refl
  where
    go : (x : Bool) → eqb (byte_at s 0) 44 ≡ x → eqb (byte_at s 0) 44 ≡ true
    go true w = w
    go false w = never (rw (just-no "," at s w) at q)

-- what follows a pair's first number and its comma
abbrev second : ℤ → Reader Leaf
second z at s = and_then (padded i32 at s) (λ d at s. and_then (just ")" at s) (λ _. done (tree.pair z d)))

-- what a pair opens with
pair-opens : (at : ℕ) (u : List ℕ) (x : Leaf) (e : ℕ) (t : List ℕ) → sq1_move at (40 ∷ u) ≡ read x e t → Numeric (drop (run white_space u) u)
unfolding sq1_move just
pair-opens at u x e t q =
    let s : List ℕ = drop (run white_space u) u in
    let p = steps (padded i32 (at + 1) u) (λ z at s. and_then (just "," at s) (λ _. second z)) (sym q) in
    let comma = comma-read p.next p.rest (second p.value) x e t p.second in
    let n = steps (i32 (at + 1 + run white_space u) s) (λ a at s. read a (at + run white_space s) (drop (run white_space s) s)) (sym p.first) in
    number-first (at + 1 + run white_space u) s n.value n.next n.rest n.first (rw (rest-same n.second) comma)

-- the bytes that a group starts with
abbrev openers : List ℕ
openers = 33 ∷ 38 ∷ 40 ∷ 91 ∷ 94 ∷ []

module _ (f : Features) (k at : ℕ) where
  pair-no-group : (b : ℕ) (u : List ℕ) → b ≡ 40 → (x : Leaf) (e : ℕ) (t : List ℕ) → sq1_move at (b ∷ u) ≡ read x e t → nested (node_list f k) at (b ∷ u) ≡ rejected
  unfolding group_node binary_group_node just
  pair-no-group b u w x e t q =
      let n = pair-opens at u x e t (rw w at q) in
      rw w
      (ap (λ (r : Reading (ℤ → Node Leaf)). or_else r (binary_group_node (node_list f k)) at (40 ∷ u))
      (no-list f k (at + 1) u n {A = ℤ → Node Leaf} (λ a. done (λ m. block (group Simple a) m))))

  -- at a byte that opens a group, a node without lists is a pair
  opened : (b : ℕ) (u : List ℕ) (n : Node Leaf) (e : ℕ) (t : List ℕ) → node f fail at (b ∷ u) ≡ read n e t → one_of openers b ≡ true → nested (node_list f k) at (b ∷ u) ≡ rejected
  unfolding one_of every classify
  opened b u n e t q h = go (eqb b 40) refl f.sq1 (sym only ∙ q)
    where
      not_byte : (c : ℕ) → one_of openers c ≡ false → eqb b c ≡ false
      not_byte c e = differ (one_of openers) b c true h e

      only : node f fail at (b ∷ u) ≡ sq1 f at (b ∷ u)
      only =
          bare-node f at (b ∷ u)
          (bare (b ∷ u) (not_byte 126 refl) (not_byte 123 refl) (no-digits (b ∷ u) (listed not_digit openers b refl h)) (no_run is_family_char (b ∷ u) (listed (fails is_family_char) openers b refl h)))
          (not_byte 46 refl) (not_byte 82 refl) (not_byte 68 refl) (not_byte 64 refl)

      go : (x : Bool) → eqb b 40 ≡ x → (on : Bool) → when on (λ at s. and_then (sq1_move at s) (λ x. done (leaf x))) at (b ∷ u) ≡ read n e t → nested (node_list f k) at (b ∷ u) ≡ rejected
      go true w true v =
          let p = steps (sq1_move at (b ∷ u)) (λ x. done (leaf x)) (sym v) in
          pair-no-group b u (eqb-true b 40 w) p.value p.next p.rest p.first
      go false w true v = never (rw (sq1-none f at (b ∷ u) (not_byte 47 refl) w) at v)
      go x w false v = never v

  unopened : (b : ℕ) (u : List ℕ) → one_of openers b ≡ false → nested (node_list f k) at (b ∷ u) ≡ rejected
  unfolding one_of
  unopened b u h = nothing-nested (node_list f k) at (b ∷ u) (not_byte 40 refl) (not_byte 33 refl) (not_byte 38 refl) (not_byte 94 refl) (not_byte 91 refl)
    where
      not_byte : (c : ℕ) → one_of openers c ≡ true → eqb b c ≡ false
      not_byte c e = differ (one_of openers) b c false h e

  -- a node without lists leaves nothing to a group
  pub no-nested : (s : List ℕ) (n : Node Leaf) (e : ℕ) (t : List ℕ) → node f fail at s ≡ read n e t → nested (node_list f k) at s ≡ rejected
  no-nested [] n e t q = nothing-nested (node_list f k) at [] refl refl refl refl refl
  no-nested (b ∷ u) n e t q = go (one_of openers b) refl
    where
      go : (x : Bool) → one_of openers b ≡ x → nested (node_list f k) at (b ∷ u) ≡ rejected
      go true h = opened b u n e t q h
      go false h = unopened b u h
