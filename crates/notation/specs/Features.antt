-- The seven features of lib.rs with the named settings, and `curly_primes` (document 02, request 6), which is off in all of these.
use Rattle.std.specs.Prelude.{ℕ, ◌/◌, ◌%◌, Bool, true, false, eqb}
use Rattle.notation.specs.declared.features.LayerFeatures.{LayerFeatures}
use Rattle.notation.specs.declared.features.Features.{Features}

abbrev pub SIMPLE : LayerFeatures
SIMPLE = record { inverted_layers = false; layer_sets = false; hsc1_layer_ranges = false }

abbrev pub HYPERCUBING : LayerFeatures
HYPERCUBING = record { inverted_layers = true; layer_sets = true; hsc1_layer_ranges = true }

abbrev pub MINIMAL : Features
MINIMAL =
    record {
      layers = SIMPLE;
      generalized_rotations = false;
      transform_constraints = false;
      megaminx = false;
      sq1 = false;
      curly_primes = false;
    }

abbrev pub WCA : Features
WCA =
    record {
      layers = SIMPLE;
      generalized_rotations = false;
      transform_constraints = false;
      megaminx = true;
      sq1 = true;
      curly_primes = false;
    }

abbrev pub MAXIMAL : Features
MAXIMAL =
    record {
      layers = HYPERCUBING;
      generalized_rotations = true;
      transform_constraints = true;
      megaminx = true;
      sq1 = true;
      curly_primes = false;
    }

-- the features as bits of a number, for callers in other languages: bit 0 is `inverted_layers`, and so on in the order of the fields;
-- higher bits are ignored
abbrev pub is_set : ℕ → Bool
is_set n = eqb (n % 2) 1

abbrev pub of_bits : ℕ → Features
of_bits n =
    record {
      layers = record { inverted_layers = is_set n; layer_sets = is_set (n / 2); hsc1_layer_ranges = is_set (n / 4) };
      generalized_rotations = is_set (n / 8);
      transform_constraints = is_set (n / 16);
      megaminx = is_set (n / 32);
      sq1 = is_set (n / 64);
      curly_primes = is_set (n / 128);
    }
