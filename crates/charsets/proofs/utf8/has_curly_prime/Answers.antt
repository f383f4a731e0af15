-- `charsets::utf8::has_curly_prime` meets its contract: by the law of a sign's three bytes.
use Prim.Native.Nat.{◌-◌}
use mathlib.Core.Bool.{true, false}
use lib.ListN.{length, take, drop}
use Rattle.notation.specs.Basics.{one_of}
use Rattle.std.proofs.Common.{rules}
use Rattle.std.proofs.lemmas.List.{take_rest}
use Rattle.charsets.proofs.Signs.{curly-is, curly-short, curly-at}
use Rattle.charsets.proofs.utf8.has_curly_prime.Goals as goal

pub returns-in-226 : goal.returns-in-226
unfolding one_of
returns-in-226 c =
    let s = c.args.s.now in
    rw (take_rest s c.args.at) at (curly-at (take (length s - c.args.at) (drop c.args.at s)) true c.in-226.len_at_least (search rules))

pub returns-in_default : goal.returns-in_default
returns-in_default c =
    let s = c.args.s.now in
    rw (take_rest s c.args.at) at (curly-is (take (length s - c.args.at) (drop c.args.at s)) false (curly-short _ c.in_default.len_below))

pub returns-in_default-2 : goal.returns-in_default-2
unfolding one_of
returns-in_default-2 c =
    let s = c.args.s.now in
    rw (take_rest s c.args.at) at (curly-at (take (length s - c.args.at) (drop c.args.at s)) false c.in_default.len_at_least (search rules))

pub returns-in_default-3 : goal.returns-in_default-3
unfolding one_of
returns-in_default-3 c =
    let s = c.args.s.now in
    rw (take_rest s c.args.at) at (curly-at (take (length s - c.args.at) (drop c.args.at s)) false c.in_default.len_at_least (search rules))

pub returns-in_default-4 : goal.returns-in_default-4
unfolding one_of
returns-in_default-4 c =
    let s = c.args.s.now in
    rw (take_rest s c.args.at) at (curly-at (take (length s - c.args.at) (drop c.args.at s)) false c.in_default.len_at_least (search rules))
