use Rattle.gt_rules.specs.Parts.{ChainFault, IsFirstWith}
use Rattle.gt_rules.proofs.FirstLemmas.{Below}
use Rattle.gt_rules.proofs.chains.of_chains.Given as goal

abbrev pub invariant-loop-option : goal.invariant-loop-option
invariant-loop-option l = IsFirstWith l.initial.earliest (Below l.option-index l.options (λ k o. ChainFault l.known.program.now l.structure l.file o)) l.earliest
