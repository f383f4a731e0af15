-- The refusals by name, those of document 01's table and those that the requests of document 02 add, and an outcome: a result or a
-- refusal. Where several apply, the first in this order is given.
--   Reading: 1, 2, 3, 4, 5.
--   Trees: 1, 2, 6; then 11, 12, 14, 19, 20, 23, of which an entry has two at most; then 7 or 8, whichever the walk meets first; then 9;
--   then 10, 13, 15, 16, 17, 18, 21, 22 in this order, but 21 and 22 beside 10; then the 8 of a step that is taken back; then 5.
-- An entry's rule is a `do` of which each refusal has a line, so the order of its lines is this order.
use Rattle.std.specs.Prelude.{ℕ, Bool, true, false}
use Rattle.std.proofs.Math.Option.{Option, none, some}

abbrev pub TOO-LONG : ℕ
TOO-LONG = 1

abbrev pub NOT-UTF8 : ℕ
NOT-UTF8 = 2

abbrev pub TOO-NESTED : ℕ
TOO-NESTED = 3

abbrev pub NOT-NOTATION : ℕ
NOT-NOTATION = 4

abbrev pub NO-ROOM : ℕ
NO-ROOM = 5

abbrev pub NOT-WELL-FORMED : ℕ
NOT-WELL-FORMED = 6

abbrev pub NISS : ℕ
NISS = 7

abbrev pub OVERFLOW : ℕ
OVERFLOW = 8

abbrev pub TOO-MANY-STEPS : ℕ
TOO-MANY-STEPS = 9

abbrev pub NO-SUCH-PLACE : ℕ
NO-SUCH-PLACE = 10

abbrev pub NO-SUCH-LAYER-COUNT : ℕ
NO-SUCH-LAYER-COUNT = 11

abbrev pub NO-SUCH-RECORD : ℕ
NO-SUCH-RECORD = 12

-- document 02, request 1: a step's printed text is wider than a line of the sheet
abbrev pub STEP-TOO-WIDE : ℕ
STEP-TOO-WIDE = 13

-- requests 4 and 7: no cube has so many layers; a step breaks the regulations
abbrev pub NO-SUCH-CUBE : ℕ
NO-SUCH-CUBE = 14

abbrev pub BREAKS-REGULATIONS : ℕ
BREAKS-REGULATIONS = 15

-- request 9: too many steps to replay, a step that is none of Square-1, a slash that is blocked
abbrev pub TOO-MANY-TO-REPLAY : ℕ
TOO-MANY-TO-REPLAY = 16

abbrev pub NOT-SQ1 : ℕ
NOT-SQ1 = 17

abbrev pub BLOCKED-SLASH : ℕ
BLOCKED-SLASH = 18

-- request 11: a move to be converted has a tilde or layers; a move has a family that converting writes
abbrev pub NOT-CONVERTIBLE : ℕ
NOT-CONVERTIBLE = 19

abbrev pub FAMILY-IN-USE : ℕ
FAMILY-IN-USE = 20

-- request 12: forward at the end, back at the start
abbrev pub AT-END : ℕ
AT-END = 21

abbrev pub AT-START : ℕ
AT-START = 22

-- request 14: no such record, or that of a group
abbrev pub NO-SUCH-LEAF : ℕ
NO-SUCH-LEAF = 23

pub data Outcome (A : Type 0) : Type 0 where
  refusal : ℕ → Outcome A
  result : A → Outcome A

abbrev pub ◌>>=◌ : {A B : Type 0} → Outcome A → (A → Outcome B) → Outcome B
◌>>=◌ (refusal r) f = refusal r
◌>>=◌ (result a) f = f a

abbrev pub ◌>>◌ : {A B : Type 0} → Outcome A → Outcome B → Outcome B
◌>>◌ p q = ◌>>=◌ p (λ _. q)

-- the result, where the test holds
abbrev pub unless : ℕ → Bool → Outcome (Unit {0})
unless r true = result tt
unless r false = refusal r

abbrev pub or_refuse : {A : Type 0} → ℕ → Option A → Outcome A
or_refuse r none = refusal r
or_refuse r (some a) = result a
