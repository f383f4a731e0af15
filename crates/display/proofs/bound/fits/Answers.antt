-- `bound::fits` meets its contract: only where all records were counted off does it say that the text fits. Assumes nothing.
use native.Mathlib.Omega.{arith}
use Rattle.record.specs.declared.kinds.LayerForm.TheVariants.{Set}
use Rattle.record.proofs.SameKind.{not-form}
use Rattle.display.proofs.Sure.{going-starts, going-room, going_on, going-shorter, going-all}
use Rattle.display.proofs.bound.fits.Goals as goal

pub loop-t-init : goal.loop-t-init
loop-t-init c = going-starts c.args.tree.now c.args.room c.requires

pub layer_form-requires : goal.layer_form-requires
layer_form-requires c = going-room c.loop-t.invariant c.loop-t-test.true

pub allowance-requires : goal.allowance-requires
allowance-requires c = going-room c.loop-t.invariant c.loop-t-test.true

pub slice_bounds-t-count : goal.slice_bounds-t-count
slice_bounds-t-count c = going-room c.loop-t.invariant c.loop-t-test.true

pub slice_bounds-t-start : goal.slice_bounds-t-start
slice_bounds-t-start c = slice_bounds-t-count c

pub loop-t-smaller : goal.loop-t-smaller
loop-t-smaller c = going-shorter c.loop-t.invariant c.loop-t-test.true

pub loop-t-preserved : goal.loop-t-preserved
loop-t-preserved c =
    let less = rw c.in-Some.is at c.checked_sub.ensures in
    rw less.1 (going_on c.loop-t.invariant c.loop-t-test.true c.layer_form.ensures (not-form _ Set c.eq.ensures c.if-eq.false) c.allowance.ensures less.0)

pub returns : goal.returns
returns c =
    λ _ text ok. going-all c.loop-t.invariant (omega (arith, c.loop-t-test.false)) c.requires text ok
