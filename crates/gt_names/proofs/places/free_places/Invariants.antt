use Rattle.std.proofs.Common.{◌≡◌, replicate, None, vec_len}
use Rattle.gt_names.proofs.places.free_places.Given as goal

-- so many free places
abbrev pub invariant-loop-place : goal.invariant-loop-place
invariant-loop-place l = record {
  free : l.places.items ≡ replicate l._place None;
  count : vec_len l.places ≡ l._place;
}
