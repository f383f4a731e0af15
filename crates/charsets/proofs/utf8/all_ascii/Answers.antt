-- `charsets::utf8::all_ascii` meets its contract: by the law of ASCII bytes joined.
use Prim.Native.Nat.{◌≤◌}
use native.Mathlib.Omega.{arith}
use borrow.Author.Tests.{leb-true}
use lib.ListN.{length, drop, length-drop}
use lib.Seq.{drop-drop}
use Rattle.std.proofs.lemmas.List.{take_rest}
use Rattle.charsets.proofs.Runs.{utf8-ascii}
use Rattle.charsets.proofs.utf8.all_ascii.Goals as goal

pub returns : goal.returns
returns c e =
    let a = c.args in
    let s = a.s.now in
    let rest = drop a.at s in
    let enough : 8 ≤ length rest = rw (take_rest s a.at) at c.in-len8-up.len_at_least in
    (omega (arith, length-drop a.at s), rw (drop-drop 8 a.at s) at (utf8-ascii rest 7 (omega arith) (leb-true _ 0x7f (rw (take_rest s a.at) at e))))
