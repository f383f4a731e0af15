-- Reading (parse.rs, lib.rs, spanned.rs): one definition for each rule, choices in the document's order.
use Rattle.std.specs.Prelude.{ℕ, zero, suc, ◌+◌, ◌-◌, min, max, Bool, true, false, ◌&&◌, List, [], ◌∷◌, eqb, ltb, leb, ℤ, pos, neg_ℤ, length, take, drop}
use Prim.Native.Char.{Char, code}
use Prim.Native.String as S
use Prim.Native.String.{String}
use Rattle.std.proofs.Math.Option.{Option, none, some}
use Rattle.notation.specs.Basics.{pick, between}
use Rattle.notation.specs.Chars.{is_family_char, is_prime, white_space}
use Rattle.notation.specs.Utf8.{width_if, run}
use Rattle.notation.specs.Numbers.{digit_run, decimal}
use Rattle.notation.specs.Layers.{LayerSetElement, MAX-LAYER}
use Rattle.notation.specs.Layers as Layers
use Rattle.notation.specs.Tree.{
  Span,
  span,
  Constraint,
  from_to,
  swap,
  fix,
  Layers,
  no_layers,
  single_layer,
  layer_range,
  layer_set,
  Leaf,
  rotation,
  move,
  pause,
  pair,
  slash,
  megaminx,
  Node,
  leaf,
  block,
  group,
  binary_group,
  nil,
  cons,
  Tree,
}
use Rattle.notation.specs.Packed.{family_at}
use Rattle.notation.specs.declared.features.Features.{Features}
use Rattle.notation.specs.declared.common.GroupKind.{GroupKind}
use Rattle.notation.specs.declared.common.GroupKind.TheVariants.{Simple, Macro, Simultaneous, Niss}
use Rattle.notation.specs.declared.common.BinaryGroupKind.{BinaryGroupKind}
use Rattle.notation.specs.declared.common.BinaryGroupKind.TheVariants.{Commutator, Conjugate}
use Rattle.notation.specs.declared.common.MegaminxScrambleMove.{MegaminxScrambleMove}
use Rattle.notation.specs.declared.common.MegaminxScrambleMove.TheVariants.{Rpp, Rmm, Dpp, Dmm}

-- Readers. A reader is handed an offset and the text from there on. It rejects, or hands back what it read, the next offset and
-- the text from there.
pub data Reading (A : Type 0) : Type 0 where
  rejected : Reading A
  read : A → ℕ → List ℕ → Reading A

abbrev pub Reader : Type 0 → Type 0
Reader A = ℕ → List ℕ → Reading A

abbrev pub done : {A : Type 0} → A → Reader A
done a at s = read a at s

abbrev pub fail : {A : Type 0} → Reader A
fail at s = rejected

abbrev pub and_then : {A B : Type 0} → Reading A → (A → Reader B) → Reading B
and_then rejected f = rejected
and_then (read a at s) f = f a at s

abbrev pub ◌>>=◌ : {A B : Type 0} → Reader A → (A → Reader B) → Reader B
◌>>=◌ p f at s = and_then (p at s) f

abbrev pub ◌>>◌ : {A B : Type 0} → Reader A → Reader B → Reader B
◌>>◌ p q at s = and_then (p at s) (λ _. q)

-- the first that does not reject, each tried at the same place
abbrev pub or_else : {A : Type 0} → Reading A → Reader A → Reader A
or_else rejected q at s = q at s
or_else (read a at' s') q at s = read a at' s'

infixr 20 ◌or◌
abbrev pub ◌or◌ : {A : Type 0} → Reader A → Reader A → Reader A
◌or◌ p q at s = or_else (p at s) q at s

-- a rule that a feature admits
abbrev pub when : {A : Type 0} → Bool → Reader A → Reader A
when true p at s = p at s
when false p at s = rejected

abbrev pub optional : {A : Type 0} → Reader A → Reader (Option A)
optional p = (do a ← p; done (some a)) or done none

-- Characters and words.
unfoldable pub just : Char → Reader (Unit {0})
just c at [] = rejected
just c at (b ∷ s) = pick (eqb b (code c)) (read tt (at + 1) s) rejected

unfoldable pub word : String → Reader (Unit {0})
word S.[] = done tt
word (S.◌∷◌ c w) = do just c; word w

-- a character that passes a test
abbrev pub character : (ℕ → Bool) → Reader (Unit {0})
character p at s = let n = width_if p s in pick (ltb 0 n) (read tt (at + n) (drop n s)) rejected

-- the characters that pass a test: how many bytes they take
abbrev pub take_while : (ℕ → Bool) → Reader ℕ
take_while p at s = let n = run p s in read n (at + n) (drop n s)

abbrev pub whitespace : Reader (Unit {0})
whitespace = do take_while white_space; done tt

abbrev pub some_whitespace : Reader (Unit {0})
some_whitespace = do n ← take_while white_space; pick (ltb 0 n) (done tt) fail

abbrev pub padded : {A : Type 0} → Reader A → Reader A
padded p = do whitespace; a ← p; whitespace; done a

-- the part of the text that a reader takes
abbrev pub spanned : {A : Type 0} → Reader A → Reader Span
spanned p at s = and_then (p at s) (λ a at'. done (span at (at' - at)) at')

-- Numbers: at least one digit, leading zeros pass, out of bounds is no number.
unfoldable pub uint : (low high : ℕ) → Reader ℕ
uint low high at s =
    let n = digit_run s in
    let value = decimal 0 (take n s) in
    pick (ltb 0 n && between low high value) (read value (at + n) (drop n s)) rejected

-- with `-` or without, and a bound for each
abbrev pub sint : (low high high_negative : ℕ) → Reader ℤ
sint low high high_negative =
    (do just "-"; n ← uint low high_negative; done (neg_ℤ (pos n)))
    or (do n ← uint low high; done (pos n))

abbrev pub MAX-I32 : ℕ
MAX-I32 = 2147483647

abbrev pub i32 : Reader ℤ
i32 = sint 0 MAX-I32 2147483648

abbrev pub layer : Reader ℕ
layer = uint 1 MAX-LAYER

abbrev pub signed_layer : Reader ℤ
signed_layer = sint 1 MAX-LAYER MAX-LAYER

-- the sign that negates: the apostrophe, and with `curly_primes` every character of its class
abbrev pub prime : Features → Reader (Unit {0})
prime f = just "'" or when f.curly_primes (character is_prime)

abbrev pub multiplier_by : Reader (Unit {0}) → Reader ℤ
multiplier_by sign = do
  n ← uint 0 MAX-I32 or done 1
  (do sign; done (neg_ℤ (pos n))) or done (pos n)

abbrev pub multiplier : Features → Reader ℤ
multiplier f = multiplier_by (prime f)

-- Lists: zero or more items with separators between them. A list of its own type is built by its `cons` and `nil`.
abbrev pub collect : {A L : Type 0} → (A → L → L) → L → Reading A → Reader L → Reader L
collect add empty rejected more at s = read empty at s
collect add empty (read a at' s') more at s = and_then (more at' s') (λ l. done (add a l))

-- those after the first; k is more than enough
unfoldable pub more_of : {A L : Type 0} → (A → L → L) → L → Reader A → Reader (Unit {0}) → ℕ → Reader L
more_of add empty item separator zero at s = read empty at s
more_of add empty item separator (suc k) at s =
    collect add empty (and_then (separator at s) (λ _. item)) (λ at s. more_of add empty item separator k at s) at s

abbrev pub separated_by : {A L : Type 0} → (A → L → L) → L → Reader A → Reader (Unit {0}) → Reader L
separated_by add empty item separator at s =
    collect add empty (item at s) (more_of add empty item separator (length s)) at s

-- in braces, with commas between
abbrev pub braces : {A : Type 0} → Reader A → Reader (List A)
braces item = do
  just "{"
  l ← padded (separated_by ◌∷◌ [] item (padded (just ",")))
  just "}"
  done l

-- Families and constraints.
abbrev pub family : ℕ → Reader Span
family at_least at s = let n = run is_family_char s in pick (leb at_least n) (read (family_at at n) (at + n) (drop n s)) rejected

abbrev pub family_text : Reader (List ℕ)
family_text at s = let n = run is_family_char s in pick (ltb 0 n) (read (take n s) (at + n) (drop n s)) rejected

abbrev pub constraint : Reader Constraint
constraint =
    (do a ← family_text; padded (word "->"); b ← family_text; done (from_to a b))
    or (do a ← family_text; padded (word "<>"); b ← family_text; done (swap a b))
    or (do a ← family_text; done (fix a))

unfoldable pub constraint_set : Reader (List Constraint)
constraint_set = braces constraint

-- Layers.
abbrev pub layer_set_element : (hsc1 : Bool) → Reader LayerSetElement
layer_set_element hsc1 =
    (do i ← signed_layer; word ".."; j ← signed_layer; done (Layers.range i j))
    or when hsc1 (do i ← layer; just "-"; j ← layer; done (Layers.range (pos i) (pos j)))
    or (do i ← signed_layer; done (Layers.single i))

unfoldable pub layer_set_elements : (hsc1 : Bool) → Reader (List LayerSetElement)
layer_set_elements hsc1 = braces (layer_set_element hsc1)

unfoldable pub layer_prefix_contents : Features → Reader (Layers Span)
layer_prefix_contents f =
    when f.layers.layer_sets (do p ← spanned (layer_set_elements f.layers.hsc1_layer_ranges); done (layer_set p))
    or (do i ← layer; just "-"; j ← layer; done (layer_range (min i j) (max i j)))
    or (do i ← layer; done (single_layer i))
    or done no_layers

-- Nodes. A node that can be repeated waits for its multiplier.
abbrev pub constraints : Features → Reader (Option Span)
constraints f = optional (when f.transform_constraints (spanned constraint_set))

unfoldable pub rotation_node : Features → Reader (ℤ → Node Leaf)
rotation_node f = when f.generalized_rotations do
  just "@"
  a ← family 0
  c ← constraints f
  done (λ m. leaf (rotation a c m))

abbrev pub tilde : Features → Reader Bool
tilde f = when f.layers.inverted_layers (do just "~"; done true) or done false

unfoldable pub move_node : Features → Reader (ℤ → Node Leaf)
move_node f = do
  t ← tilde f
  l ← layer_prefix_contents f
  a ← family 1
  c ← constraints f
  done (λ m. leaf (move t l a c m))

abbrev pub group_kind : Reader GroupKind
group_kind =
    (do just "!"; done Macro) or (do just "&"; done Simultaneous) or (do just "^"; done Niss) or done Simple

unfoldable pub group_node : Reader Tree → Reader (ℤ → Node Leaf)
group_node list = do
  k ← group_kind
  just "("
  a ← list
  just ")"
  done (λ m. block (group k a) m)

abbrev pub binary_group_kind : Reader BinaryGroupKind
binary_group_kind = (do just ","; done Commutator) or (do just ":"; done Conjugate)

unfoldable pub binary_group_node : Reader Tree → Reader (ℤ → Node Leaf)
binary_group_node list = do
  just "["
  a ← list
  k ← binary_group_kind
  b ← list
  just "]"
  done (λ m. block (binary_group k a b) m)

-- From here on the sign that negates is handed on, so that document 01's rule, with the apostrophe alone, has the same words
-- (specs/Primes).
abbrev pub repeatable_node_by : Reader (Unit {0}) → Features → Reader Tree → Reader (Node Leaf)
repeatable_node_by sign f list = do
  inner ← rotation_node f or group_node list or binary_group_node list or move_node f
  m ← multiplier_by sign
  done (inner m)

unfoldable pub megaminx_scramble_move : Reader MegaminxScrambleMove
megaminx_scramble_move =
    (do word "R++"; done Rpp) or (do word "R--"; done Rmm) or (do word "D++"; done Dpp) or (do word "D--"; done Dmm)

unfoldable pub sq1_move : Reader Leaf
sq1_move =
    (do just "/"; done slash)
    or (do just "("; u ← padded i32; just ","; d ← padded i32; just ")"; done (pair u d))

unfoldable pub node_by : Reader (Unit {0}) → Features → Reader Tree → Reader (Node Leaf)
node_by sign f list =
    (do just "."; done (leaf pause))
    or when f.megaminx (do k ← megaminx_scramble_move; done (leaf (megaminx k)))
    or repeatable_node_by sign f list
    or when f.sq1 (do x ← sq1_move; done (leaf x))

-- a list enters a node and a node enters lists; k is more than the nesting
unfoldable pub node_list_by : Reader (Unit {0}) → Features → ℕ → Reader Tree
node_list_by sign f zero = fail
node_list_by sign f (suc k) = padded (separated_by cons nil (node_by sign f (node_list_by sign f k)) some_whitespace)

-- the whole text, to its end
abbrev pub at_end : {A : Type 0} → Reading A → Option A
at_end rejected = none
at_end (read a at []) = some a
at_end (read a at (b ∷ s)) = none

unfoldable pub notation_by : Reader (Unit {0}) → Features → List ℕ → Option Tree
notation_by sign f text = at_end (node_list_by sign f (suc (length text)) 0 text)

-- the same under a setting
abbrev pub node : Features → Reader Tree → Reader (Node Leaf)
node f = node_by (prime f) f

abbrev pub node_list : Features → ℕ → Reader Tree
node_list f = node_list_by (prime f) f

abbrev pub notation : Features → List ℕ → Option Tree
notation f = notation_by (prime f) f
