-- Printing into a lent part of memory, which may be too short: then nothing is said of its bytes, and the length is still told.
use Rattle.std.specs.Prelude.{ℕ, ◌+◌, ◌≤◌, ◌<◌, min, ◌≡◌, List, [], ◌++◌, length, take, drop}
use Rattle.display.specs.declared.write.Printer.{Printer}
pub use Rattle.display.specs.Most.{MOST}

-- A printer was handed on: from its place to the next one stands what it puts in front of what follows.
pub record Wrote (old new : Printer) (printer : List ℕ → List ℕ) : Type 0 where
  pub same : new.out.ghost_name ≡ old.out.ghost_name
  pub adds : (rest : List ℕ) → printer rest ≡ printer [] ++ rest
  pub counts : new.at ≡ min (old.at + length (printer [])) MOST
  pub long : length new.out.now ≡ length old.out.now
  pub stands : old.at + length (printer []) ≤ length old.out.now → length old.out.now < MOST →
      new.out.now ≡ take old.at old.out.now ++ printer (drop (old.at + length (printer [])) old.out.now)
