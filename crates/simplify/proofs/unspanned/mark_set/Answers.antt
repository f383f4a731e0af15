-- `mark_set` meets its contract. The invariant: the elements from `at` on, marked in the table as it is, give the table asked for.
-- Each turn passes a comma, so that what is left of the text falls, and the grammar's fuel with it. Assumes nothing.
use mathlib.Core.Path.{◌≡◌, refl, sym, ap}
use mathlib.Core.Bool.{true}
use mathlib.Core.List.{List}
use native.Mathlib.Omega.{arith}
use lib.ListN.{length, drop, length-drop}
use Rattle.notation.specs.Layers.{LayerSetElement}
use Rattle.notation.specs.Grammar.{read, layer_set_element}
use Rattle.parse.specs.Meaning.{layer_set_element_of}
use Rattle.simplify.specs.Elements.{marked_set}
use Rattle.simplify.proofs.SetElements.{set-elements, Element, element-read, comma-read, no-element, no-comma, turned}
use Rattle.simplify.proofs.unspanned.mark_set.Goals as goal
use Rattle.simplify.proofs.unspanned.mark_set.Goals.{In-Some}

-- the element that was read
taken : (c : In-Some) → read (layer_set_element_of c.in-Some.element.value) c.in-Some.element.next (drop c.in-Some.element.next c.args.part.now) ≡ layer_set_element true c.loop-element.at (drop c.loop-element.at c.args.part.now)
taken c = rw c.in-Some.is at c.layer_set_element.ensures

found : (c : In-Some) → Element c.args.part.now c.loop-element.at c.loop-element.invariant.2 c.in-Some.element.next (layer_set_element_of c.in-Some.element.value)
found c = element-read c.args.part.now c.loop-element.at c.loop-element.invariant.2 _ _ (taken c)

pub whitespace_end-at-requires : goal.whitespace_end-at-requires
whitespace_end-at-requires c =
    (set-elements c.args.part.now _ refl c.requires.part_value).some_bytes

pub loop-element-init : goal.loop-element-init
loop-element-init c =
    let part = c.args.part.now in
    let first = c.whitespace_end-at.result in
    let o = set-elements part first c.whitespace_end-at.ensures c.requires.part_value in (
      length (drop first part),
      omega (arith, length-drop first part),
      o.within,
      refl,
      ap (λ (l : List LayerSetElement). marked_set c.args.axis.max_layer c.args.axis.allow_negatives l c.args.reach.now) (sym o.elements),
    )

pub returns-in_default : goal.returns-in_default
returns-in_default c =
    no-element c.args.axis.max_layer c.args.axis.allow_negatives c.args.part.now c.loop-element.invariant.0 c.loop-element.at c.loop-element.invariant.2 c.loop-element.reach _ c.loop-element.invariant.4
    (rw c.in_default.is at c.layer_set_element.ensures)

pub mark_element-requires : goal.mark_element-requires
mark_element-requires c =
    record { layer = c.requires.layer; max_layer_in_bounds = omega (arith, c.requires.max_layer_in_bounds, c.loop-element.invariant.3); element = (found (goal.at.mark_element-requires c).In-Some).layers }

pub after_comma-requires : goal.after_comma-requires
after_comma-requires c = (found (goal.at.after_comma-requires c).In-Some).within

pub returns-in_default-after_comma : goal.returns-in_default-after_comma
returns-in_default-after_comma c =
    no-comma c.args.axis.max_layer c.args.axis.allow_negatives c.args.part.now c.loop-element.invariant.0 c.loop-element.at c.loop-element.invariant.2 c.loop-element.reach _ c.loop-element.invariant.4
    _ _ (taken (goal.at.returns-in_default-after_comma c).In-Some) _ c.mark_element.ensures
    (rw c.in_default-after_comma.is at c.after_comma.ensures)

pub loop-element-smaller : goal.loop-element-smaller
loop-element-smaller c =
    let from = rw c.in-Some-after_comma.is at c.after_comma.ensures in
    let next = comma-read c.args.part.now _ (found (goal.at.loop-element-smaller c).In-Some).within _ _ from in
    omega (arith, (found (goal.at.loop-element-smaller c).In-Some).later, next.later, next.within)

pub loop-element-preserved : goal.loop-element-preserved
loop-element-preserved c =
    let from = rw c.in-Some-after_comma.is at c.after_comma.ensures in
    let next = comma-read c.args.part.now _ (found (goal.at.loop-element-preserved c).In-Some).within _ _ from in
    let t = turned c.args.axis.max_layer c.args.axis.allow_negatives c.args.part.now c.loop-element.invariant.0 c.loop-element.at c.loop-element.invariant.2 c.loop-element.reach _ c.loop-element.invariant.4
    _ _ (taken (goal.at.loop-element-preserved c).In-Some) _ c.mark_element.ensures c.loop-element.invariant.1 _ _ from in
    (t.fuel, t.enough, next.within, omega (arith, c.mark_element.auto.reach, c.loop-element.invariant.3), t.rest)
