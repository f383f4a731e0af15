-- Printing (Display of unspanned.rs and common.rs). Each printer is handed what follows.
use Rattle.std.specs.Prelude.{ℕ, Bool, true, false, List, [], ◌∷◌, ◌++◌, eqb, ℤ, pos, negsuc, nat_abs}
use Prim.Native.Char.{code}
use Prim.Native.String as S
use Prim.Native.String.{String}
use Rattle.std.proofs.Math.Option.{Option, none, some}
use Rattle.notation.specs.Basics.{pick}
use Rattle.notation.specs.Numbers.{show, show_signed}
use Rattle.notation.specs.Layers.{LayerSetElement, single, range}
use Rattle.notation.specs.Tree.{
  Constraint,
  from_to,
  swap,
  fix,
  Layers,
  no_layers,
  single_layer,
  layer_range,
  layer_set,
  Step,
  rotation,
  move,
  pause,
  pair,
  slash,
  megaminx,
  Node,
  leaf,
  block,
  Body,
  group,
  binary_group,
  NodeList,
  nil,
  cons,
  Tree,
}
use Rattle.notation.specs.Meaning.{unspanned}
use Rattle.notation.specs.declared.common.GroupKind.{GroupKind}
use Rattle.notation.specs.declared.common.GroupKind.TheVariants.{Simple, Macro, Simultaneous, Niss}
use Rattle.notation.specs.declared.common.BinaryGroupKind.{BinaryGroupKind}
use Rattle.notation.specs.declared.common.BinaryGroupKind.TheVariants.{Commutator, Conjugate}
use Rattle.notation.specs.declared.common.MegaminxScrambleMove.{MegaminxScrambleMove}
use Rattle.notation.specs.declared.common.MegaminxScrambleMove.TheVariants.{Rpp, Rmm, Dpp, Dmm}

-- the characters of a quoted text, all of them ASCII
abbrev pub put : String → List ℕ → List ℕ
put S.[] rest = rest
put (S.◌∷◌ c s) rest = code c ∷ put s rest

-- magnitude unless 1, then `'` if negative
abbrev pub put_prime : ℤ → List ℕ → List ℕ
put_prime (pos n) rest = rest
put_prime (negsuc n) rest = put "'" rest

abbrev pub put_multiplier : ℤ → List ℕ → List ℕ
put_multiplier m rest = let rest' = put_prime m rest in pick (eqb (nat_abs m) 1) rest' (show (nat_abs m) rest')

-- the elements after the first, each with a comma before it; a whole list in braces
unfoldable pub put_more : {A : Type 0} → (A → List ℕ → List ℕ) → List A → List ℕ → List ℕ
put_more f [] rest = rest
put_more f (a ∷ l) rest = put "," (f a (put_more f l rest))

abbrev pub put_braces : {A : Type 0} → (A → List ℕ → List ℕ) → List A → List ℕ → List ℕ
put_braces f [] rest = put "{}" rest
put_braces f (a ∷ l) rest = put "{" (f a (put_more f l (put "}" rest)))

abbrev pub put_constraint : Constraint → List ℕ → List ℕ
put_constraint (from_to a b) rest = a ++ put "->" (b ++ rest)
put_constraint (swap a b) rest = a ++ put "<>" (b ++ rest)
put_constraint (fix a) rest = a ++ rest

abbrev pub put_constraints : Option (List Constraint) → List ℕ → List ℕ
put_constraints none rest = rest
put_constraints (some l) rest = put_braces put_constraint l rest

abbrev pub put_element : LayerSetElement → List ℕ → List ℕ
put_element (single i) rest = show_signed i rest
put_element (range i j) rest = show_signed i (put ".." (show_signed j rest))

abbrev pub put_layers : Layers (List LayerSetElement) → List ℕ → List ℕ
put_layers no_layers rest = rest
put_layers (single_layer i) rest = show i rest
put_layers (layer_range i j) rest = show i (put "-" (show j rest))
put_layers (layer_set l) rest = put_braces put_element l rest

abbrev pub put_tilde : Bool → List ℕ → List ℕ
put_tilde true rest = put "~" rest
put_tilde false rest = rest

abbrev pub put_megaminx : MegaminxScrambleMove → List ℕ → List ℕ
put_megaminx Rpp rest = put "R++" rest
put_megaminx Rmm rest = put "R--" rest
put_megaminx Dpp rest = put "D++" rest
put_megaminx Dmm rest = put "D--" rest

unfoldable pub put_step : Step → List ℕ → List ℕ
put_step (rotation f c m) rest = put "@" (f ++ put_constraints c (put_multiplier m rest))
put_step (move t l f c m) rest = put_tilde t (put_layers l (f ++ put_constraints c (put_multiplier m rest)))
put_step pause rest = put "." rest
put_step (pair u d) rest = put "(" (show_signed u (put ", " (show_signed d (put ")" rest))))
put_step slash rest = put "/" rest
put_step (megaminx k) rest = put_megaminx k rest

abbrev pub put_prefix : GroupKind → List ℕ → List ℕ
put_prefix Simple rest = rest
put_prefix Macro rest = put "!" rest
put_prefix Simultaneous rest = put "&" rest
put_prefix Niss rest = put "^" rest

abbrev pub put_separator : BinaryGroupKind → List ℕ → List ℕ
put_separator Commutator rest = put ", " rest
put_separator Conjugate rest = put ": " rest

unfoldable mutual
  pub put_node : Node Step → List ℕ → List ℕ
  put_node (leaf x) rest = put_step x rest
  put_node (block b m) rest = put_body b (put_multiplier m rest)

  pub put_body : Body Step → List ℕ → List ℕ
  put_body (group k a) rest = put_prefix k (put "(" (put_nodes a (put ")" rest)))
  put_body (binary_group k a b) rest = put "[" (put_nodes a (put_separator k (put_nodes b (put "]" rest))))

  -- joined by one space
  pub put_nodes : NodeList Step → List ℕ → List ℕ
  put_nodes nil rest = rest
  put_nodes (cons n l) rest = put_node n (put_others l rest)

  pub put_others : NodeList Step → List ℕ → List ℕ
  put_others nil rest = rest
  put_others (cons n l) rest = put " " (put_node n (put_others l rest))

abbrev pub printed : List ℕ → Tree → List ℕ
printed text t = put_nodes (unspanned text t) []
