use Rattle.std.proofs.Common.{◌≡◌, ◌++◌, drop}
use Rattle.gt_declare.specs.Chains.{chains_from}
use Rattle.gt_declare.proofs.chains.all_chains.Given as goal

abbrev pub invariant-loop-place : goal.invariant-loop-place
invariant-loop-place l = l.all.items ++ chains_from l.structures l.place (drop l.place l.drafts) ≡ chains_from l.structures 0 l.drafts
