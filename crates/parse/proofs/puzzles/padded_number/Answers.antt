-- `padded_number` meets its contract. Assumes nothing.
use native.Mathlib.Omega.{arith}
use Rattle.notation.specs.Grammar.{i32}
use Rattle.notation.specs.Chars.{white_space}
use Rattle.charsets.proofs.Runs.{end-length}
use Rattle.parse.proofs.Past.{within}
use Rattle.parse.proofs.Rules.{takes-sint}
use Rattle.parse.proofs.LeafReaders.{padded-some}
use Rattle.parse.proofs.puzzles.padded_number.Goals as goal

pub sint-requires : goal.sint-requires
sint-requires c = (omega (arith, c.whitespace_end-from.ensures, end-length white_space c.args.text.now c.args.at c.requires), omega arith, omega arith)

pub whitespace_end-requires : goal.whitespace_end-requires
whitespace_end-requires c = (within c.args.text.now c.whitespace_end-from.result (takes-sint 0 2147483647 2147483648) (omega (arith, c.whitespace_end-from.ensures, end-length white_space c.args.text.now c.args.at c.requires)) (rw c.in-Some.is at c.sint.ensures)).1

pub returns : goal.returns
returns c = padded-some i32 c.args.text.now c.args.at c.whitespace_end-from.result c.whitespace_end-from.ensures _ c.in-Some.number.next c.whitespace_end.result (rw c.in-Some.is at c.sint.ensures) c.whitespace_end.ensures
