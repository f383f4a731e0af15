-- What a record stores is the capped length of what its node unrolls into (specs/Stored). Assumes nothing.
use mathlib.Core.Path.{◌∙◌}
use Rattle.notation.specs.Stored.{StoresLength}
use Rattle.laws.proofs.Walking.{inside, node-bytes, head-stored}
use Rattle.laws.proofs.Counting.{stored-unrolled}

pub stores-length : StoresLength
stores-length =
    record {
      written = λ n. (inside n, node-bytes n);
      counts = λ n inverted l e. head-stored n ∙ stored-unrolled n inverted l e;
    }
