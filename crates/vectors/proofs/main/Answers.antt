-- `vectors::main` is safe. The large buffers' lengths are a lemma's to give: computed, they are too deep.
use Rattle.std.proofs.Common.{ℕ, sym}
use lib.ListN.{length-replicate}
use Rattle.vectors.specs.declared.TheConstants.{PIECE, TEXT, TREE}
use Rattle.vectors.proofs.main.Goals as goal

pub slice_bounds-run-end : goal.slice_bounds-run-end
slice_bounds-run-end c = sym (length-replicate {0} {A = ℕ} PIECE 0)

pub slice_bounds-buffers-end : goal.slice_bounds-buffers-end
slice_bounds-buffers-end c = sym (length-replicate {0} {A = ℕ} TEXT 0)

pub slice_bounds-buffers-end-2 : goal.slice_bounds-buffers-end-2
slice_bounds-buffers-end-2 c = sym (length-replicate {0} {A = ℕ} TREE 0)

pub slice_bounds-buffers-end-3 : goal.slice_bounds-buffers-end-3
slice_bounds-buffers-end-3 c = sym (length-replicate {0} {A = ℕ} TREE 0)
