use Rattle.std.proofs.Common.{◌≡◌, ◌++◌, take}
use Rattle.std.specs.List.{flat_map}
use Rattle.gt_listing.specs.Listing.{chain_line}
use Rattle.gt_listing.proofs.structures.push_chains.Given as goal

abbrev pub invariant-loop-c : goal.invariant-loop-c
invariant-loop-c l = l.text ≡ l.initial.text ++ flat_map (chain_line l.program l.fields) (take l.c-index l.chains)
