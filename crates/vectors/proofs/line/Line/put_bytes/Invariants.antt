-- `vectors::line::Line::put_bytes` puts two digits for each byte. Assumes nothing.
use Rattle.std.proofs.Common.{◌+◌, ◌*◌, ◌≡◌, length}
use Rattle.vectors.proofs.line.Line.put_bytes.Given as goal

abbrev pub invariant-loop-byte : goal.invariant-loop-byte
invariant-loop-byte l = length l.self ≡ length l.initial.self + 2 * l.byte-index
