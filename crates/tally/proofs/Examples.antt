-- `[/: .]2 /` before and after the pass: the field of each record, and the tally of the tree's own list.
use Prim.Native.Nat.{ℕ, zero, suc}
use mathlib.Core.Path.{◌≡◌, refl}
use mathlib.Core.List.{List, [], ◌∷◌}
use lib.IntN.{pos}
use lib.ListN.{get_or, drop}
use Rattle.notation.specs.Numbers.{positional, digits}
use Rattle.notation.specs.Tree.{slash, pause, leaf, block, binary_group, nil, cons, Tree}
use Rattle.notation.specs.Packed.{RECORD, lay_out, cut}
use Rattle.notation.specs.declared.common.BinaryGroupKind.TheVariants.{Conjugate}
use Rattle.record.specs.Meaning.{field, COUNT}
use Rattle.tally.specs.Tallies.{tally_node, tally_body, tally_list}
use Rattle.tally.proofs.Passes.{start, passed}

abbrev written : Tree
written = cons (block (binary_group Conjugate (cons (leaf slash) nil) (cons (leaf pause) nil)) (pos 2)) (cons (leaf slash) nil)

abbrev fields_in : ℕ → List ℕ → List ℕ
fields_in zero bs = []
fields_in (suc k) bs = field COUNT bs ∷ fields_in k (drop RECORD bs)

before : fields_in 4 (tally_list 0 written) ≡ 0 ∷ 2 ∷ 1 ∷ 0 ∷ []
unfolding positional digits lay_out cut tally_node tally_body tally_list
before = refl

after : fields_in 4 (passed 4 (tally_list 0 written) start).done ≡ 6 ∷ 1 ∷ 1 ∷ 1 ∷ []
unfolding positional digits lay_out cut tally_node tally_body tally_list
after = refl

sum : get_or (passed 4 (tally_list 0 written) start).sums 0 0 ≡ 7
unfolding positional digits lay_out cut tally_node tally_body tally_list
sum = refl
