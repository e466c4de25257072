use Rattle.std.proofs.Common.{◌≡◌, ◌≤◌, ◌<◌, ℕ, length, drop, vec_len}
use Rattle.std.specs.Prelude.{◌==◌}
use Rattle.gt_names.specs.Places.{number_in, hash_number, first_from, AreTaken}
use Rattle.gt_names.proofs.places.Places.of_names.Given as goal

-- the names from this place on have their numbers
abbrev pub invariant-loop-place : goal.invariant-loop-place
invariant-loop-place l = record {
  within : l.place ≤ length l.names;
  some : 0 < vec_len l.places.places;
  count : vec_len l.places.places ≡ l.count;
  taken : AreTaken l.places.places.items l.places.others;
  first : (hash : ℕ) → number_in l.places.places.items l.places.others hash ≡ first_from (λ name. hash_number name == hash) (drop l.place l.names) l.place;
}

abbrev pub decreases-loop-place : goal.decreases-loop-place
decreases-loop-place l = l.place
