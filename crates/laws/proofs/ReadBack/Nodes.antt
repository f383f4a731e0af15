-- Groups and lists: each printed node and list of nodes is read back. Assumes nothing.
use Prim.Native.Nat.{ℕ, zero, suc, ◌+◌, ◌≤◌}
use mathlib.Core.Path.{◌≡◌, refl}
use mathlib.Core.Bool.{Bool, true, false}
use mathlib.Core.List.{List, [], ◌∷◌}
use lib.IntN.{ℤ}
use lib.ListN.{length}
use native.Mathlib.Omega.{arith}
use Rattle.notation.specs.Basics.{every, one_of}
use Rattle.notation.specs.Chars.{white_space}
use Rattle.notation.specs.Utf8.{run, run_from, char_width, code_point}
use Rattle.notation.specs.Numbers.{show}
use Rattle.notation.specs.Layers.{LayerSetElement}
use Rattle.notation.specs.Tree.{
  Layers,
  no_layers,
  single_layer,
  layer_range,
  layer_set,
  Step,
  rotation,
  move,
  pause,
  pair,
  slash,
  megaminx,
  Node,
  leaf,
  block,
  Body,
  group,
  binary_group,
  NodeList,
  nil,
  cons,
  Tree,
  map_node,
  map_body,
  map_nodes,
}
use Rattle.notation.specs.Grammar.{
  Reader,
  group_kind,
  group_node,
  binary_group_kind,
  binary_group_node,
  node,
  node_list,
  more_of,
  some_whitespace,
  separated_by,
  node_list_by,
}
use Rattle.notation.specs.Meaning.{step_of}
use Rattle.notation.specs.Print.{
  put_multiplier,
  put_tilde,
  put_layers,
  put_megaminx,
  put_prefix,
  put_separator,
  put_step,
  put_node,
  put_body,
  put_nodes,
  put_others,
}
use Rattle.notation.specs.WellFormed.{multiplier_ok, node_depth, body_depth, depth}
use Rattle.notation.specs.declared.features.Features.{Features}
use Rattle.notation.specs.declared.common.GroupKind.{GroupKind}
use Rattle.notation.specs.declared.common.GroupKind.TheVariants.{Simple, Macro, Simultaneous, Niss}
use Rattle.notation.specs.declared.common.BinaryGroupKind.{BinaryGroupKind}
use Rattle.notation.specs.declared.common.BinaryGroupKind.TheVariants.{Commutator, Conjugate}
use Rattle.notation.specs.declared.common.MegaminxScrambleMove.{MegaminxScrambleMove}
use Rattle.notation.specs.declared.common.MegaminxScrambleMove.TheVariants.{Rpp, Rmm, Dpp, Dmm}
use Rattle.laws.proofs.Bools.{and_left, and_right}
use Rattle.laws.proofs.InRange.{step_in_range, node_in_range, body_in_range, in_range}
use Rattle.laws.proofs.ReadBack.Starts.{starts, starts-listed, isnt, fails, no_run, up_to}
use Rattle.laws.proofs.ReadBack.Reads.{
  Reads,
  reads-done,
  reads-bind,
  reads-next,
  reads_so,
  reads-left,
  reads-right,
  reads-padded,
  reads-spaced,
  rejects-bind,
  reads-just,
  rejects-just,
  reads-some_whitespace,
  rejects-some_whitespace,
}
use Rattle.laws.proofs.ReadBack.Numbers.{show-starts}
use Rattle.laws.proofs.ReadBack.Braces.{collect-stops, collect-reads}
use Rattle.laws.proofs.ReadBack.Parts.{tight-name}
use Rattle.laws.proofs.ReadBack.Moves.{follow, after_node, tail}
use Rattle.laws.proofs.ReadBack.Printed.{move-ok, AtLeast, long-byte, long-name, step_keeps, multiplier-keeps, node-keeps}
use Rattle.laws.proofs.ReadBack.Kinds.{reads-simple, rejects-rotation, no-group, rejects-megaminx, closers, after_list, node-stops}
use Rattle.laws.proofs.ReadBack.Leaves.{Waits, reads-repeatable, reads-step}

-- Groups.
reads-group_kind : {text : List ℕ} (k : GroupKind) (s : List ℕ) → Reads text group_kind (put_prefix k (40 ∷ s)) (λ x. x ≡ k) (40 ∷ s)
reads-group_kind Simple s = reads-simple refl refl refl
reads-group_kind Macro s = reads-left _ (reads-bind (reads-just "!") λ _ _. reads-done Macro refl)
reads-group_kind Simultaneous s =
    reads-right (rejects-bind _ (rejects-just "!" refl)) (reads-left _ (reads-bind (reads-just "&") λ _ _. reads-done Simultaneous refl))
reads-group_kind Niss s =
    reads-right (rejects-bind _ (rejects-just "!" refl)) (reads-right (rejects-bind _ (rejects-just "&" refl))
    (reads-left _ (reads-bind (reads-just "^") λ _ _. reads-done Niss refl)))

-- a list reads nodes that mean u
abbrev pub Means : List ℕ → NodeList Step → Tree → Type 0
Means text u t = map_nodes (step_of text) t ≡ u

-- a group is read back if its list is
reads-group : {text : List ℕ} (list : Reader Tree) (k : GroupKind) (a : NodeList Step) {s r : List ℕ} → Reads text list s (Means text a) (41 ∷ r) →
    Reads text (group_node list) (put_prefix k (40 ∷ s)) (Waits text (λ m. block (group k a) m)) r
unfolding group_node map_node map_body
reads-group list k a {s} x =
    reads-next _ (reads-group_kind k s) (reads-bind (reads-just "(") λ _ _. reads-bind x λ t e. reads-bind (reads-just ")") λ _ _.
    reads-done (λ m. block (group k t) m) (λ m i. block (group k (e i)) m))

-- what a group starts with
prefix-starts : (k : GroupKind) (s : List ℕ) → starts (one_of (33 ∷ 38 ∷ 94 ∷ 40 ∷ [])) (put_prefix k (40 ∷ s)) ≡ true
unfolding one_of
prefix-starts Simple s = refl
prefix-starts Macro s = refl
prefix-starts Simultaneous s = refl
prefix-starts Niss s = refl

prefix-passes : (q : ℕ → Bool) → every q (33 ∷ 38 ∷ 94 ∷ 40 ∷ []) ≡ true → (k : GroupKind) (s : List ℕ) → starts q (put_prefix k (40 ∷ s)) ≡ true
prefix-passes q all k s = starts-listed q (33 ∷ 38 ∷ 94 ∷ 40 ∷ []) (put_prefix k (40 ∷ s)) all (prefix-starts k s)

group-node : {text : List ℕ} (f : Features) (list : Reader Tree) (k : GroupKind) (a : NodeList Step) (m : ℤ) (s rest : List ℕ) →
    Reads text list s (Means text a) (41 ∷ put_multiplier m rest) → multiplier_ok m ≡ true → after_node rest ≡ true →
    Reads text (node f list) (put_prefix k (40 ∷ s)) (λ n. map_node (step_of text) n ≡ block (group k a) m) rest
unfolding every
group-node f list k a m s rest x h e =
    reads-repeatable f list m rest (λ m. block (group k a) m) (prefix-passes (isnt ".") refl k s)
    (rejects-megaminx (prefix-passes (isnt "R") refl k s) (prefix-passes (isnt "D") refl k s))
    (reads-right (rejects-rotation f (prefix-passes (isnt "@") refl k s)) (reads-left _ (reads-group list k a x))) h e

reads-kind : {text : List ℕ} (k : BinaryGroupKind) (s : List ℕ) → Reads text binary_group_kind (put_separator k s) (λ x. x ≡ k) (32 ∷ s)
reads-kind Commutator s = reads-left _ (reads-bind (reads-just ",") λ _ _. reads-done Commutator refl)
reads-kind Conjugate s = reads-right (rejects-bind _ (rejects-just "," refl)) (reads-bind (reads-just ":") λ _ _. reads-done Conjugate refl)

-- a commutator or conjugate is read back if its lists are
binary-node : {text : List ℕ} (f : Features) (list : Reader Tree) (k : BinaryGroupKind) (a b : NodeList Step) (m : ℤ) (s s' rest : List ℕ) →
    Reads text list s (Means text a) (put_separator k s') → Reads text list (32 ∷ s') (Means text b) (93 ∷ put_multiplier m rest) →
    multiplier_ok m ≡ true → after_node rest ≡ true →
    Reads text (node f list) (91 ∷ s) (λ n. map_node (step_of text) n ≡ block (binary_group k a b) m) rest
unfolding binary_group_node map_node map_body
binary-node f list k a b m s s' rest x y h e =
    reads-repeatable f list m rest (λ m. block (binary_group k a b) m) refl (rejects-megaminx refl refl)
    (reads-right (rejects-rotation f refl) (reads-right (no-group list refl refl refl refl) (reads-left _
    (reads-bind (reads-just "[") λ _ _. reads-bind x λ t et. reads-next _ (reads-kind k s')
    (reads-bind y λ t' et'. reads-bind (reads-just "]") λ _ _.
    reads-done (λ m. block (binary_group k t t') m) (λ m i. block (binary_group k (et i) (et' i)) m))))))
    h e

-- No white space stands at the start of a printed node or list.
tight-show : (n : ℕ) (r : List ℕ) → run white_space (show n r) ≡ 0
unfolding every one_of up_to white_space
tight-show n r = no_run white_space (show n r) (show-starts (fails white_space) n r refl)

tight-layers : (l : Layers (List LayerSetElement)) (r : List ℕ) → run white_space r ≡ 0 → run white_space (put_layers l r) ≡ 0
unfolding run_from char_width code_point white_space one_of
tight-layers no_layers r e = e
tight-layers (single_layer i) r e = tight-show i r
tight-layers (layer_range i j) r e = tight-show i (45 ∷ show j r)
tight-layers (layer_set []) r e = refl
tight-layers (layer_set (x ∷ l)) r e = refl

tight-tilde : (t : Bool) (r : List ℕ) → run white_space r ≡ 0 → run white_space (put_tilde t r) ≡ 0
unfolding run_from char_width code_point white_space one_of
tight-tilde true r e = refl
tight-tilde false r e = e

tight-megaminx : (k : MegaminxScrambleMove) (r : List ℕ) → run white_space (put_megaminx k r) ≡ 0
unfolding run_from char_width code_point white_space one_of
tight-megaminx Rpp r = refl
tight-megaminx Rmm r = refl
tight-megaminx Dpp r = refl
tight-megaminx Dmm r = refl

tight-step : (f : Features) (x : Step) (r : List ℕ) → step_in_range f x ≡ true → run white_space (put_step x r) ≡ 0
unfolding put_step run_from char_width code_point white_space one_of
tight-step f (rotation a c m) r h = refl
tight-step f (move t l a c m) r h = tight-tilde t _ (tight-layers l _ (tight-name a (tail c m r) (move-ok f t l a c m h).family))
tight-step f pause r h = refl
tight-step f (pair u d) r h = refl
tight-step f slash r h = refl
tight-step f (megaminx k) r h = tight-megaminx k r

tight-body : (b : Body Step) (r : List ℕ) → run white_space (put_body b r) ≡ 0
unfolding put_body run_from char_width code_point white_space every one_of
tight-body (group k a) r =
    no_run white_space (put_prefix k (40 ∷ put_nodes a (41 ∷ r))) (prefix-passes (fails white_space) refl k (put_nodes a (41 ∷ r)))
tight-body (binary_group k a b) r = refl

tight-node : (f : Features) (n : Node Step) (r : List ℕ) → node_in_range f n ≡ true → run white_space (put_node n r) ≡ 0
unfolding node_in_range put_node
tight-node f (leaf x) r h = tight-step f x r h
tight-node f (block b m) r h = tight-body b (put_multiplier m r)

tight-end : (r : List ℕ) → after_list r ≡ true → run white_space r ≡ 0
unfolding every one_of white_space
tight-end r h = no_run white_space r (starts-listed (fails white_space) closers r refl h)

tight-nodes : (f : Features) (u : NodeList Step) (r : List ℕ) → in_range f u ≡ true → after_list r ≡ true → run white_space (put_nodes u r) ≡ 0
unfolding in_range put_nodes
tight-nodes f nil r h e = tight-end r e
tight-nodes f (cons n l) r h e = tight-node f n (put_others l r) (and_left (node_in_range f n) (in_range f l) h)

-- what stands after a node in a list
others-follow : (l : NodeList Step) (rest : List ℕ) → after_list rest ≡ true → after_node (put_others l rest) ≡ true
unfolding put_others every one_of
others-follow nil rest h = starts-listed (one_of follow) closers rest refl h
others-follow (cons n l) rest h = refl

-- Printing adds to what follows, and more than the groups stand one inside another.
node-long : (f : Features) (n : Node Step) (r : List ℕ) → node_in_range f n ≡ true → length r ≤ length (put_node n r)
node-long f n r h = node-keeps (AtLeast (length r)) (long-byte (length r)) (long-name (length r)) n f [] r h (omega arith)

multiplier-long : (m : ℤ) (r : List ℕ) → length r ≤ length (put_multiplier m r)
multiplier-long m r = multiplier-keeps (AtLeast (length r)) (long-byte (length r)) (long-name (length r)) m [] r (omega arith)

step-long : (f : Features) (x : Step) (r : List ℕ) → step_in_range f x ≡ true → length r ≤ length (put_step x r)
step-long f x r h = step_keeps (AtLeast (length r)) (long-byte (length r)) (long-name (length r)) f x [] r h (omega arith)

prefix-long : (k : GroupKind) (r : List ℕ) → length r ≤ length (put_prefix k r)
prefix-long Simple r = omega arith
prefix-long Macro r = omega arith
prefix-long Simultaneous r = omega arith
prefix-long Niss r = omega arith

separator-long : (k : BinaryGroupKind) (r : List ℕ) → length r ≤ length (put_separator k r)
separator-long Commutator r = omega arith
separator-long Conjugate r = omega arith

mutual
  unfolding node_in_range body_in_range in_range put_node put_body put_nodes put_others node_depth body_depth depth

  node-deep : (n : Node Step) (f : Features) (r : List ℕ) → node_in_range f n ≡ true → node_depth n + length r ≤ length (put_node n r)
  node-deep (leaf x) f r h = omega (arith, step-long f x r h)
  node-deep (block b m) f r h = omega (arith, body-deep b f (put_multiplier m r) (and_right (multiplier_ok m) (body_in_range f b) h), multiplier-long m r)

  body-deep : (b : Body Step) (f : Features) (r : List ℕ) → body_in_range f b ≡ true → suc (body_depth b) + length r ≤ length (put_body b r)
  body-deep (group k a) f r h = omega (arith, nodes-deep a f (41 ∷ r) h, prefix-long k (40 ∷ put_nodes a (41 ∷ r)))
  body-deep (binary_group k a b) f r h =
      let s : List ℕ = put_nodes b (93 ∷ r) in
      omega (
        arith,
        nodes-deep a f (put_separator k s) (and_left (in_range f a) (in_range f b) h),
        separator-long k s,
        nodes-deep b f (93 ∷ r) (and_right (in_range f a) (in_range f b) h),
      )

  pub nodes-deep : (u : NodeList Step) (f : Features) (r : List ℕ) → in_range f u ≡ true → depth u + length r ≤ length (put_nodes u r)
  nodes-deep nil f r h = omega arith
  nodes-deep (cons n l) f r h =
      omega (
        arith,
        node-deep n f (put_others l r) (and_left (node_in_range f n) (in_range f l) h),
        others-deep l f r (and_right (node_in_range f n) (in_range f l) h),
      )

  others-deep : (u : NodeList Step) (f : Features) (r : List ℕ) → in_range f u ≡ true → depth u + length r ≤ length (put_others u r)
  others-deep nil f r h = omega arith
  others-deep (cons n l) f r h =
      omega (
        arith,
        node-deep n f (put_others l r) (and_left (node_in_range f n) (in_range f l) h),
        others-deep l f r (and_right (node_in_range f n) (in_range f l) h),
      )

-- Lists with white space around them.
abbrev pub bare : Features → ℕ → Reader Tree
bare f k = separated_by cons nil (node f (node_list f k)) some_whitespace

pub reads-list : {text : List ℕ} (f : Features) (k : ℕ) (u : NodeList Step) (rest : List ℕ) → in_range f u ≡ true → after_list rest ≡ true →
    Reads text (bare f k) (put_nodes u rest) (Means text u) rest → Reads text (node_list f (suc k)) (put_nodes u rest) (Means text u) rest
unfolding node_list_by
reads-list f k u rest h e x = reads-padded (tight-nodes f u rest h e) (tight-end rest e) x

reads-list-spaced : {text : List ℕ} (f : Features) (k : ℕ) (u : NodeList Step) (rest : List ℕ) → in_range f u ≡ true → after_list rest ≡ true →
    Reads text (bare f k) (put_nodes u rest) (Means text u) rest → Reads text (node_list f (suc k)) (32 ∷ put_nodes u rest) (Means text u) rest
unfolding node_list_by
reads-list-spaced f k u rest h e x = reads-spaced (tight-nodes f u rest h e) (tight-end rest e) x

-- a separator ends a list
separator-ends : (k : BinaryGroupKind) (s : List ℕ) → after_list (put_separator k s) ≡ true
unfolding one_of
separator-ends Commutator s = refl
separator-ends Conjugate s = refl

module _ (text : List ℕ) (f : Features) where
  mutual
    unfolding node_in_range body_in_range in_range put_node put_body put_nodes put_others node_depth body_depth depth more_of map_nodes one_of

    reads-node : (n : Node Step) (k : ℕ) (rest : List ℕ) → node_depth n ≤ k → node_in_range f n ≡ true → after_node rest ≡ true →
        Reads text (node f (node_list f k)) (put_node n rest) (λ x. map_node (step_of text) x ≡ n) rest
    reads-node (leaf x) k rest d h e = reads-step f k x rest h e
    reads-node (block b m) zero rest d h e = absurd (omega arith)
    reads-node (block b m) (suc k) rest d h e =
        reads-body b k m rest (omega arith) (and_right (multiplier_ok m) (body_in_range f b) h) (and_left (multiplier_ok m) (body_in_range f b) h) e

    reads-body : (b : Body Step) (k : ℕ) (m : ℤ) (rest : List ℕ) → body_depth b ≤ k → body_in_range f b ≡ true → multiplier_ok m ≡ true →
        after_node rest ≡ true →
        Reads text (node f (node_list f (suc k))) (put_body b (put_multiplier m rest)) (λ x. map_node (step_of text) x ≡ block b m) rest
    reads-body (group g a) k m rest d h hm e =
        group-node f (node_list f (suc k)) g a m (put_nodes a (41 ∷ put_multiplier m rest)) rest
        (reads-list f k a (41 ∷ put_multiplier m rest) h refl (reads-nodes a k (41 ∷ put_multiplier m rest) d h refl)) hm e
    reads-body (binary_group g a b) k m rest d h hm e =
        let r : List ℕ = 93 ∷ put_multiplier m rest in
        let s : List ℕ = put_separator g (put_nodes b r) in
        let ha = and_left (in_range f a) (in_range f b) h in
        let hb = and_right (in_range f a) (in_range f b) h in
        binary-node f (node_list f (suc k)) g a b m (put_nodes a s) (put_nodes b r) rest
        (reads-list f k a s ha (separator-ends g (put_nodes b r)) (reads-nodes a k s (omega arith) ha (separator-ends g (put_nodes b r))))
        (reads-list-spaced f k b r hb refl (reads-nodes b k r (omega arith) hb refl)) hm e

    pub reads-nodes : (u : NodeList Step) (k : ℕ) (rest : List ℕ) → depth u ≤ k → in_range f u ≡ true → after_list rest ≡ true →
        Reads text (bare f k) (put_nodes u rest) (Means text u) rest
    reads-nodes nil k rest d h e =
        collect-stops cons nil (λ s. more_of cons nil (node f (node_list f k)) some_whitespace (length s)) refl (node-stops f (node_list f k) rest e)
    reads-nodes (cons n l) k rest d h e =
        let hn = and_left (node_in_range f n) (in_range f l) h in
        collect-reads cons nil (λ s. more_of cons nil (node f (node_list f k)) some_whitespace (length s))
        (reads-node n k (put_others l rest) (omega arith) hn (others-follow l rest e))
        (λ x p. reads_so (reads-others l k (length (put_node n (put_others l rest))) rest (omega arith) (and_right (node_in_range f n) (in_range f l) h) e
        (node-long f n (put_others l rest) hn)) (λ t q i. cons (p i) (q i)))

    reads-others : (u : NodeList Step) (k j : ℕ) (rest : List ℕ) → depth u ≤ k → in_range f u ≡ true → after_list rest ≡ true →
        length (put_others u rest) ≤ j →
        Reads text (more_of cons nil (node f (node_list f k)) some_whitespace j) (put_others u rest) (Means text u) rest
    reads-others nil k zero rest d h e g = reads-done nil refl
    reads-others nil k (suc j) rest d h e g =
        collect-stops cons nil (λ _. more_of cons nil (node f (node_list f k)) some_whitespace j) refl
        (rejects-bind _ (rejects-some_whitespace (tight-end rest e)))
    reads-others (cons n l) k zero rest d h e g = absurd (omega arith)
    reads-others (cons n l) k (suc j) rest d h e g =
        let hn = and_left (node_in_range f n) (in_range f l) h in
        collect-reads cons nil (λ _. more_of cons nil (node f (node_list f k)) some_whitespace j)
        (reads-bind (reads-some_whitespace (tight-node f n (put_others l rest) hn)) λ _ _.
        reads-node n k (put_others l rest) (omega arith) hn (others-follow l rest e))
        (λ x p. reads_so (reads-others l k j rest (omega arith) (and_right (node_in_range f n) (in_range f l) h) e
        (omega (arith, node-long f n (put_others l rest) hn))) (λ t q i. cons (p i) (q i)))
