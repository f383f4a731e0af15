-- The loop keeps what printing the elements that are left completes. Assumes nothing.
use Prim.Native.Nat.{◌+◌, ◌≤◌, ◌<◌}
use mathlib.Core.Path.{◌≡◌, sym, ◌∙◌}
use mathlib.Core.Bool.{true}
use native.Mathlib.Omega.{arith}
use lib.Dec.{eqb}
use lib.ListN.{length, drop}
use Rattle.notation.specs.Chars.{white_space}
use Rattle.notation.specs.Utf8.{byte_at}
use Rattle.notation.specs.Grammar.{read, layer_set_element}
use Rattle.parse.specs.Meaning.{layer_set_element_of}
use Rattle.charsets.proofs.Runs.{end-length}
use Rattle.parse.proofs.Bytes.{seen}
use Rattle.display.proofs.Writing.{wrote_then}
use Rattle.display.proofs.Elements.{nothing-read, element-read, sofar-all, sofar-never, sofar-more, item-end}
use Rattle.display.proofs.write.Printer.put_more.Goals as goal
use Rattle.display.proofs.write.Printer.put_more.Goals.{After-whitespace_end-start, In-Some}

pub returns-then-not-is_comma : goal.returns-then-not-is_comma
returns-then-not-is_comma c =
    λ l f. sofar-all (c.loop-self.invariant.1 l f) c.whitespace_end-comma.result c.whitespace_end-comma.ensures (sym c.is_comma.ensures ∙ c.if-not-is_comma.true)

-- the comma that was seen lies within the part
comma-is : (c : After-whitespace_end-start) → eqb (byte_at c.args.part.now c.whitespace_end-comma.result) 44 ≡ true
comma-is c = sym c.is_comma.ensures ∙ c.if-not-is_comma.false

comma-in : (c : After-whitespace_end-start) → c.whitespace_end-comma.result < length c.args.part.now
comma-in c = seen c.args.part.now c.whitespace_end-comma.result 44 (omega arith) (comma-is c)

start-in : (c : After-whitespace_end-start) → c.whitespace_end-start.result ≤ length c.args.part.now
start-in c =
    let part = c.args.part.now in
    let at = c.whitespace_end-comma.result + 1 in
    omega (arith, c.whitespace_end-start.ensures, end-length white_space part at (omega (arith, comma-in c)))

pub layer_set_element-requires : goal.layer_set_element-requires
layer_set_element-requires c = start-in c

pub returns-in_default : goal.returns-in_default
returns-in_default c =
    let part = c.args.part.now in
    let q = nothing-read part c.whitespace_end-start.result c.layer_set_element.ensures c.in_default.is in
    λ l f. absurd (sofar-never (c.loop-self.invariant.1 l f) c.whitespace_end-comma.result c.whitespace_end-comma.ensures (comma-is (goal.at.returns-in_default c).After-whitespace_end-start)
    c.whitespace_end-start.result c.whitespace_end-start.ensures q)

taken : (c : In-Some) → read (layer_set_element_of c.in-Some.element.value) c.in-Some.element.next (drop c.in-Some.element.next c.args.part.now)
    ≡ layer_set_element true c.whitespace_end-start.result (drop c.whitespace_end-start.result c.args.part.now)
taken c = element-read c.args.part.now c.whitespace_end-start.result c.layer_set_element.ensures c.in-Some.element c.in-Some.is

pub loop-self-smaller : goal.loop-self-smaller
loop-self-smaller c =
    let b = item-end c.args.part.now c.whitespace_end-start.result c.in-Some.element.next (start-in (goal.at.loop-self-smaller c).After-whitespace_end-start) (taken (goal.at.loop-self-smaller c).In-Some) in
    omega (arith, b.0, b.1, c.whitespace_end-start.ensures, c.whitespace_end-comma.ensures)

pub loop-self-preserved : goal.loop-self-preserved
loop-self-preserved c =
    let r = taken (goal.at.loop-self-preserved c).In-Some in
    let b = item-end c.args.part.now c.whitespace_end-start.result c.in-Some.element.next (start-in (goal.at.loop-self-preserved c).After-whitespace_end-start) r in (
      b.1,
      λ l f. sofar-more (c.loop-self.invariant.1 l f) c.whitespace_end-comma.result c.whitespace_end-comma.ensures (comma-is (goal.at.loop-self-preserved c).After-whitespace_end-start)
          c.whitespace_end-start.result c.whitespace_end-start.ensures (layer_set_element_of c.in-Some.element.value) r (wrote_then c.put.ensures c.put_element-self.ensures),
    )
