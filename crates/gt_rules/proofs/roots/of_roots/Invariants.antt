use Rattle.gt_rules.specs.Parts.{AtPlace, IsFirstWith, RootFaults}
use Rattle.gt_rules.proofs.FirstLemmas.{Below}
use Rattle.gt_rules.proofs.roots.of_roots.Given as goal

abbrev pub invariant-loop-place : goal.invariant-loop-place
invariant-loop-place l =
    let draft = l.known.draft.now in
    let program = l.known.program.now in
    IsFirstWith l.initial.earliest (Below l.place draft.roots (λ k dr. AtPlace program.roots k (λ r. RootFaults draft program dr r))) l.earliest
