use Rattle.std.proofs.Common.{◌≡◌, ◌++◌}
use Rattle.gt_declare.specs.Chains.{joined}
use Rattle.gt_declare.proofs.chains.join_chains.Given as goal

abbrev pub invariant-loop-structure : goal.invariant-loop-structure
invariant-loop-structure l = l.made.items ++ joined l.structure-iterator.b.rest.items l.structure-iterator.a.rest.items ≡ joined l.fn.chains l.fn.structures
