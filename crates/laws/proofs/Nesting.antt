-- A text that refusal 3 lets pass is read to a tree of at most 64 parentheses one inside another. Each reader takes plain bytes or
-- closes what it opens. Assumes nothing.
use Prim.Native.Nat.{ℕ, zero, suc, ◌+◌, ◌-◌, ◌≤◌}
use Prim.Native.Char.{Char, code}
use Prim.Native.String as S
use Prim.Native.String.{String}
use mathlib.Core.Path.{◌≡◌, refl, sym, subst, ◌∙◌}
use mathlib.Core.Bool.{Bool, true, false, ◌&&◌}
use mathlib.Core.List.{List, [], ◌∷◌}
use mathlib.Core.Option.{some}
use native.Mathlib.Omega.{arith}
use lib.Dec.{leb, ltb, eqb}
use lib.IntN.{ℤ}
use lib.ListN.{length, take, drop}
use borrow.Author.Tests.{eqb-true}
use Rattle.notation.specs.Basics.{pick, between, every}
use Rattle.notation.specs.Chars.{is_family_char, is_prime, white_space}
use Rattle.notation.specs.Utf8.{width_if, run}
use Rattle.notation.specs.Numbers.{digit_run, decimal}
use Rattle.notation.specs.Tree.{span, Leaf, Node, nil, cons, Tree}
use Rattle.notation.specs.Grammar.{
  Reading,
  rejected,
  read,
  Reader,
  done,
  fail,
  and_then,
  or_else,
  ◌or◌,
  when,
  just,
  word,
  take_while,
  whitespace,
  some_whitespace,
  padded,
  spanned,
  uint,
  sint,
  prime,
  multiplier,
  collect,
  more_of,
  separated_by,
  braces,
  family,
  family_text,
  constraint,
  constraint_set,
  layer_set_element,
  layer_set_elements,
  layer_prefix_contents,
  constraints,
  rotation_node,
  move_node,
  group_kind,
  group_node,
  binary_group_kind,
  binary_group_node,
  megaminx_scramble_move,
  sq1_move,
  node,
  node_list,
  at_end,
  notation,
  node_by,
  node_list_by,
  notation_by,
}
use Rattle.notation.specs.Grammar as G
use Rattle.notation.specs.Print.{put}
use Rattle.notation.specs.Entries.{opens, closes, nesting_ok}
use Rattle.notation.specs.declared.features.Features.{Features}
use Rattle.laws.proofs.Bools.{and_left, and_right, no-some}
use Rattle.laws.proofs.Parens.{leaf_parens, node_parens, body_parens, parens}
use Rattle.laws.proofs.PlainBytes.{
  plain,
  plain-digits,
  plain-whites,
  plain-families,
  plain-primes,
  over_plain,
  drop-plains,
  Ok,
  along,
  room,
  opening,
  closing,
}

-- what a reading leaves: o are open, and P of what was read
abbrev Leaves : {A : Type 0} → ℕ → (A → Type 0) → Reading A → Type 0
Leaves o P rejected = Unit {0}
Leaves o P (read a at s) = Ok o s × P a

-- a reader that starts with o open, ends with o' open, and reads what P is true of
record Goes {A : Type 0} (o o' : ℕ) (P : A → Type 0) (p : Reader A) : Type 0 where
  leaves : (at : ℕ) (s : List ℕ) → Ok o s → Leaves o' P (p at s)

-- one that leaves as many open as there were
abbrev Plain : {A : Type 0} → ℕ → Reader A → Type 0
Plain o p = Goes o o (λ _. Unit {0}) p

-- Rules, one for each way to build a reader.
finished : {A : Type 0} {o : ℕ} {P : A → Type 0} {a : A} → P a → Goes o o P (done a)
finished h = record { leaves = λ at s e. (e, h) }

rejects : {A : Type 0} {o o' : ℕ} {P : A → Type 0} → Goes {A = A} o o' P fail
rejects = record { leaves = λ at s e. tt }

infixr 30 ◌next◌
◌next◌ : {A B : Type 0} {o o₁ o₂ : ℕ} {P : A → Type 0} {Q : B → Type 0} {p : Reader A} {f : A → Reader B} →
    Goes o o₁ P p → ((a : A) → P a → Goes o₁ o₂ Q (f a)) → Goes o o₂ Q (G.◌>>=◌ p f)
◌next◌ {A = A} {o₁ = o₁} {o₂ = o₂} {P = P} {Q = Q} {p = p} {f = f} g h = record { leaves = λ at s e. go (p at s) (g.leaves at s e) }
  where
    go : (r : Reading A) → Leaves o₁ P r → Leaves o₂ Q (and_then r f)
    go rejected l = tt
    go (read a at s) l = (h a l.1).leaves at s l.0

either : {A : Type 0} {o o' : ℕ} {P : A → Type 0} {p q : Reader A} → Goes o o' P p → Goes o o' P q → Goes o o' P (p or q)
either {A = A} {o' = o'} {P = P} {p = p} {q = q} g h = record { leaves = λ at s e. go (p at s) at s (g.leaves at s e) (h.leaves at s e) }
  where
    go : (r : Reading A) (at : ℕ) (s : List ℕ) → Leaves o' P r → Leaves o' P (q at s) → Leaves o' P (or_else r q at s)
    go rejected at s l m = m
    go (read a at' s') at s l m = l

admitted : {A : Type 0} {o o' : ℕ} {P : A → Type 0} {p : Reader A} (b : Bool) → Goes o o' P p → Goes o o' P (when b p)
admitted true g = g
admitted false g = rejects

-- the same after a plain reader
infixr 30 ◌then◌
◌then◌ : {A B : Type 0} {o o' : ℕ} {Q : B → Type 0} {p : Reader A} {f : A → Reader B} → Plain o p → ((a : A) → Goes o o' Q (f a)) →
    Goes o o' Q (G.◌>>=◌ p f)
◌then◌ g h = g next (λ a _. h a)

span-plain : {A : Type 0} {o : ℕ} {p : Reader A} → Plain o p → Plain o (spanned p)
span-plain {A = A} {o = o} {p = p} g = record { leaves = λ at s e. go at (p at s) (g.leaves at s e) }
  where
    go : (at : ℕ) (r : Reading A) → Leaves o (λ _. Unit {0}) r →
        Leaves o (λ _. Unit {0}) (and_then r (λ a at'. done (span at (at' - at)) at'))
    go at rejected l = tt
    go at (read a at' s) l = l

-- Lists: Q of the empty list, and of a list with one more item of which P.
module _ {A L : Type 0} {o : ℕ} {P : A → Type 0} {Q : L → Type 0} (add : A → L → L) (empty : L)
    {item : Reader A} {separator : Reader (Unit {0})}
    (g : Goes o o P item) (h : Plain o separator) (q : Q empty) (step : (a : A) (l : L) → P a → Q l → Q (add a l)) where
  collected : (r : Reading A) (more : Reader L) (at : ℕ) (s : List ℕ) → Leaves o P r → Goes o o Q more → Ok o s →
      Leaves o Q (collect add empty r more at s)
  collected rejected more at s l m e = (e, q)
  collected (read a at' s') more at s l m e = (m next λ x h. finished (step a x l.1 h)).leaves at' s' l.0

  more-go : (k : ℕ) → Goes o o Q (more_of add empty item separator k)
  unfolding more_of
  more-go zero = finished q
  more-go (suc k) =
      record { leaves = λ at s e. collected (and_then (separator at s) (λ _. item)) _ at s ((h then λ _. g).leaves at s e) (more-go k) e }

  separated : Goes o o Q (separated_by add empty item separator)
  separated = record { leaves = λ at s e. collected (item at s) _ at s (g.leaves at s e) (more-go (length s)) e }

-- Readers that take a plain front of the text, or reject.
taking : {A : Type 0} {o : ℕ} (t : List ℕ → Bool) (a : ℕ → List ℕ → A) (n : List ℕ → ℕ) →
    ((s : List ℕ) → every plain (take (n s) s) ≡ true) →
    Plain o (λ at s. pick (t s) (read (a at s) (at + n s) (drop (n s) s)) rejected)
taking {A = A} {o = o} t a n h = record { leaves = λ at s e. go (t s) (a at s) (at + n s) s e }
  where
    go : (b : Bool) (x : A) (at : ℕ) (s : List ℕ) → Ok o s → Leaves o (λ _. Unit {0}) (pick b (read x at (drop (n s) s)) rejected)
    go true x at s e = (along (drop-plains o (n s) s (h s)) e, tt)
    go false x at s e = tt

white : {o : ℕ} → Plain o (take_while white_space)
white = taking (λ _. true) _ (run white_space) plain-whites

whites : {o : ℕ} → Plain o whitespace
whites = white then λ _. finished tt

some_whites : {o : ℕ} → Plain o some_whitespace
some_whites {o} = white then λ n. go (ltb 0 n)
  where
    go : (t : Bool) → Plain {A = Unit {0}} o (pick t (done tt) fail)
    go true = finished tt
    go false = rejects

uint_plain : {o : ℕ} (low high : ℕ) → Plain o (uint low high)
unfolding uint
uint_plain low high = taking (λ s. ltb 0 (digit_run s) && between low high (decimal 0 (take (digit_run s) s))) _ digit_run plain-digits

family-plain : {o : ℕ} (at_least : ℕ) → Plain o (family at_least)
family-plain at_least = taking (λ s. leb at_least (run is_family_char s)) _ (run is_family_char) plain-families

family_text-plain : {o : ℕ} → Plain o family_text
family_text-plain = taking (λ s. ltb 0 (run is_family_char s)) _ (run is_family_char) plain-families

-- A character: plain, opening or closing.
just-goes : (o o' : ℕ) (P : Unit {0} → Type 0) (c : Char) → ((s : List ℕ) → Ok o (code c ∷ s) → Ok o' s × P tt) → Goes o o' P (just c)
unfolding just
just-goes o o' P c h = record { leaves = go }
  where
    at_byte : (b at : ℕ) (s : List ℕ) (t : Bool) → eqb b (code c) ≡ t → Ok o (b ∷ s) → Leaves o' P (pick t (read tt (at + 1) s) rejected)
    at_byte b at s true f e = h s (subst (λ (x : ℕ). Ok o (x ∷ s)) (eqb-true b (code c) f) e)
    at_byte b at s false f e = tt

    go : (at : ℕ) (s : List ℕ) → Ok o s → Leaves o' P (just c at s)
    go at [] e = tt
    go at (b ∷ s) e = at_byte b at s (eqb b (code c)) refl e

just-plain : {o : ℕ} (c : Char) → plain (code c) ≡ true → Plain o (just c)
just-plain {o} c h = just-goes o o (λ _. Unit {0}) c (λ s e. (along (sym (over_plain o (code c) s h)) e, tt))

just-opens : {o : ℕ} (c : Char) → opens (code c) ≡ 1 → closes (code c) ≡ 0 → Goes o (suc o) (λ _. suc o ≤ 64) (just c)
just-opens {o} c h h' =
    just-goes o (suc o) (λ _. suc o ≤ 64) c
    (λ s e. let e' : Ok (suc o) s = along (sym (opening o (code c) s h h')) e in (e', room (suc o) s e'.passes))

just-closes : {o : ℕ} (c : Char) → opens (code c) ≡ 0 → closes (code c) ≡ 1 → Goes (suc o) o (λ _. Unit {0}) (just c)
just-closes {o} c h h' =
    just-goes (suc o) o (λ _. Unit {0}) c
    (λ s e. (record { passes = and_right (leb (suc o) 64) _ (sym (closing o (code c) s h h') ∙ e.passes) }, tt))

word-plain : {o : ℕ} (w : String) → every plain (put w []) ≡ true → Plain o (word w)
unfolding word every
word-plain S.[] e = finished tt
word-plain (S.◌∷◌ c w) e = just-plain c (and_left _ _ e) then λ _. word-plain w (and_right (plain (code c)) _ e)

padded-goes : {A : Type 0} {o o' : ℕ} {P : A → Type 0} {p : Reader A} → Goes o o' P p → Goes o o' P (padded p)
padded-goes g = whites then λ _. g next λ a h. whites then λ _. finished h

-- Numbers, families and what stands in braces.
sint_plain : {o : ℕ} (low high high_negative : ℕ) → Plain o (sint low high high_negative)
sint_plain low high high_negative =
    either (just-plain "-" refl then λ _. uint_plain low high_negative then λ _. finished tt) (uint_plain low high then λ _. finished tt)

prime-plain : {o : ℕ} (f : Features) → Plain o (prime f)
prime-plain f = either (just-plain "'" refl) (admitted f.curly_primes (taking (λ s. ltb 0 (width_if is_prime s)) _ (width_if is_prime) plain-primes))

multiplier-plain : {o : ℕ} (f : Features) → Plain o (multiplier f)
multiplier-plain f = either (uint_plain _ _) (finished tt) then λ _. either (prime-plain f then λ _. finished tt) (finished tt)

braces-plain : {A : Type 0} {o : ℕ} {item : Reader A} → Plain o item → Plain o (braces item)
braces-plain g =
    just-plain "{" refl
    then λ _. padded-goes (separated ◌∷◌ [] g (padded-goes (just-plain "," refl)) tt (λ a l h h'. tt))
    then λ _. just-plain "}" refl
    then λ _. finished tt

constraint-plain : {o : ℕ} → Plain o constraint
unfolding every
constraint-plain =
    either (family_text-plain then λ _. padded-goes (word-plain "->" refl) then λ _. family_text-plain then λ _. finished tt)
    (either (family_text-plain then λ _. padded-goes (word-plain "<>" refl) then λ _. family_text-plain then λ _. finished tt)
    (family_text-plain then λ _. finished tt))

set-plain : {o : ℕ} → Plain o constraint_set
unfolding constraint_set
set-plain = braces-plain constraint-plain

constraints-plain : {o : ℕ} (f : Features) → Plain o (constraints f)
constraints-plain f = either (admitted f.transform_constraints (span-plain set-plain) then λ _. finished tt) (finished tt)

element-plain : {o : ℕ} (hsc1 : Bool) → Plain o (layer_set_element hsc1)
unfolding every
element-plain hsc1 =
    either (sint_plain _ _ _ then λ _. word-plain ".." refl then λ _. sint_plain _ _ _ then λ _. finished tt)
    (either (admitted hsc1 (uint_plain _ _ then λ _. just-plain "-" refl then λ _. uint_plain _ _ then λ _. finished tt))
    (sint_plain _ _ _ then λ _. finished tt))

elements-plain : {o : ℕ} (hsc1 : Bool) → Plain o (layer_set_elements hsc1)
unfolding layer_set_elements
elements-plain hsc1 = braces-plain (element-plain hsc1)

layers-plain : {o : ℕ} (f : Features) → Plain o (layer_prefix_contents f)
unfolding layer_prefix_contents
layers-plain f =
    either (admitted f.layers.layer_sets (span-plain (elements-plain _) then λ _. finished tt))
    (either (uint_plain _ _ then λ _. just-plain "-" refl then λ _. uint_plain _ _ then λ _. finished tt)
    (either (uint_plain _ _ then λ _. finished tt) (finished tt)))

-- Nodes: a node read with o open has at most 64 - o parentheses one inside another.
abbrev Fits : ℕ → (ℤ → Node Leaf) → Type 0
Fits o inner = (m : ℤ) → node_parens (inner m) ≤ 64 - o

rotation-goes : {o : ℕ} (f : Features) → Goes o o (Fits o) (rotation_node f)
unfolding rotation_node node_parens
rotation-goes f =
    admitted f.generalized_rotations
    (just-plain "@" refl then λ _. family-plain 0 then λ _. constraints-plain f then λ _. finished (λ m. omega arith))

move-goes : {o : ℕ} (f : Features) → Goes o o (Fits o) (move_node f)
unfolding move_node node_parens
move-goes f =
    either (admitted f.layers.inverted_layers (just-plain "~" refl then λ _. finished tt)) (finished tt)
    then λ _. layers-plain f
    then λ _. family-plain 1
    then λ _. constraints-plain f
    then λ _. finished (λ m. omega arith)

group_kind-plain : {o : ℕ} → Plain o group_kind
group_kind-plain =
    either (just-plain "!" refl then λ _. finished tt)
    (either (just-plain "&" refl then λ _. finished tt)
    (either (just-plain "^" refl then λ _. finished tt) (finished tt)))

binary_group_kind-plain : {o : ℕ} → Plain o binary_group_kind
binary_group_kind-plain = either (just-plain "," refl then λ _. finished tt) (just-plain ":" refl then λ _. finished tt)

megaminx-plain : {o : ℕ} → Plain o megaminx_scramble_move
unfolding megaminx_scramble_move every
megaminx-plain =
    either (word-plain "R++" refl then λ _. finished tt)
    (either (word-plain "R--" refl then λ _. finished tt)
    (either (word-plain "D++" refl then λ _. finished tt) (word-plain "D--" refl then λ _. finished tt)))

sq1-goes : {o : ℕ} → Goes o o (λ x. leaf_parens x ≤ 64 - o) sq1_move
unfolding sq1_move
sq1-goes =
    either (just-plain "/" refl then λ _. finished (omega arith))
    (just-opens "(" refl refl next λ _ room. padded-goes (sint_plain _ _ _) then λ _. just-plain "," refl
    then λ _. padded-goes (sint_plain _ _ _) then λ _. just-closes ")" refl refl next λ _ _. finished (omega arith))

module _ {o : ℕ} {list : Reader Tree} (g : Goes (suc o) (suc o) (λ t. parens t ≤ 64 - suc o) list) where
  group-goes : Goes o o (Fits o) (group_node list)
  unfolding group_node node_parens body_parens
  group-goes =
      group_kind-plain then λ _. just-opens "(" refl refl next λ _ room. g next λ a h. just-closes ")" refl refl
      next λ _ _. finished (λ m. omega arith)

  binary_group-goes : Goes o o (Fits o) (binary_group_node list)
  unfolding binary_group_node node_parens body_parens
  binary_group-goes =
      just-opens "[" refl refl next λ _ room. g next λ a h. binary_group_kind-plain then λ _. g next λ b h'. just-closes "]" refl refl
      next λ _ _. finished (λ m. omega arith)

  node-goes : (f : Features) → Goes o o (λ n. node_parens n ≤ 64 - o) (node f list)
  unfolding node_by node_parens
  node-goes f =
      either (just-plain "." refl then λ _. finished (omega arith))
      (either (admitted f.megaminx (megaminx-plain then λ _. finished (omega arith)))
      (either
      (either (rotation-goes f) (either group-goes (either binary_group-goes (move-goes f)))
      next λ _ h. multiplier-plain f then λ m. finished (h m))
      (admitted f.sq1 (sq1-goes next λ _ h. finished h))))

list-goes : (f : Features) (k o : ℕ) → Goes o o (λ t. parens t ≤ 64 - o) (node_list f k)
unfolding node_list_by parens
list-goes f zero o = rejects
list-goes f (suc k) o =
    padded-goes (separated cons nil (node-goes (list-goes f k (suc o)) f) some_whites (omega arith) (λ n l h h'. omega arith))

-- The whole text.
at-end : {A : Type 0} (o : ℕ) (P : A → Type 0) (a : A) (r : Reading A) → Leaves o P r → at_end r ≡ some a → P a
at-end o P a rejected l e = no-some (sym e)
at-end o P a (read b at []) l e = subst P (cc) l.1
at-end o P a (read b at (x ∷ s)) l e = no-some (sym e)

pub reading-parens : (f : Features) (text : List ℕ) (t : Tree) → notation f text ≡ some t → nesting_ok 0 0 text ≡ true → parens t ≤ 64
unfolding notation_by
reading-parens f text t e h =
    let k = suc (length text) in
    at-end 0 (λ (x : Tree). parens x ≤ 64) t (node_list f k 0 text) ((list-goes f k 0).leaves 0 text (record { passes = h })) e
