use Rattle.gt_markers.specs.Typing.{node}
use Rattle.gt_rules.specs.Parts.{AtPlace, IsFirstWith, StructureFaults}
use Rattle.gt_rules.proofs.FirstLemmas.{Below}
use Rattle.gt_rules.proofs.structures.of_structures.Given as goal

abbrev pub invariant-loop-place : goal.invariant-loop-place
invariant-loop-place l =
    let draft = l.known.draft.now in
    let program = l.known.program.now in
    IsFirstWith l.initial.earliest (Below l.place draft.structures (λ k ds. AtPlace program.structures k (λ s. StructureFaults draft program (node k) ds s))) l.earliest
