use Rattle.gt_rules.specs.Parts.{CacheFault, IsFirstWith}
use Rattle.gt_rules.proofs.FirstLemmas.{Below}
use Rattle.gt_rules.proofs.caches.of_caches.Given as goal

abbrev pub invariant-loop-cache : goal.invariant-loop-cache
invariant-loop-cache l =
    let draft = l.known.draft.now in IsFirstWith l.initial.earliest (Below l.cache-index draft.caches (λ k c. CacheFault l.known.draft.now l.known.program.now c)) l.earliest
