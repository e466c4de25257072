use Rattle.gt_rules.proofs.FirstLemmas.{first_of_both}
use Rattle.gt_rules.proofs.MadeLemmas.{few_fields, few_structures, structure_made}
use Rattle.gt_rules.proofs.WholeLemmas.{first_of_parts}
use Rattle.gt_rules.proofs.program_faults.first_program_fault.Goals as goal

pub returns : goal.returns
returns c =
    let draft = c.args.draft.now in
    let program = c.args.program.now in
    record {
      first =
          first_of_parts draft program c.of_caches.result
          (λ k ds drafted. let made = structure_made draft program c.requires.made k ds drafted in (made.0, made.1))
          (first_of_both c.in_ok-earliest.ensures.first (first_of_both c.in_ok-earliest-2.ensures.first c.of_caches.ensures.first));
    }

pub with_inner-requires-clause-few : goal.with_inner-requires-clause-few
with_inner-requires-clause-few c = few_structures c.args.draft.now c.args.program.now c.requires.sound c.requires.made

pub with_inner-requires-clause-fields : goal.with_inner-requires-clause-fields
with_inner-requires-clause-fields c = few_fields c.args.draft.now c.args.program.now c.requires.sound c.requires.made
