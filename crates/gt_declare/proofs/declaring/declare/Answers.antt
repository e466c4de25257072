use Rattle.gt_declare.proofs.Wholes.{few_unchained, parts_make}
use Rattle.gt_declare.proofs.declaring.declare.Goals as goal

pub with_chains-requires-clause-few_fields : goal.with_chains-requires-clause-few_fields
with_chains-requires-clause-few_fields c = few_unchained c.args.draft.now c.deref.result.now c.in_ok-structures.structures c.requires.sound c.in_ok-structures.ensures.made

pub returns : goal.returns
returns c =
    record {
      made =
          parts_make c.args.draft.now c.in_ok-planes.planes.items c.deref.result.now c.deref-2.result.now c.as_slice.result.now c.in_ok-structures.structures c.in_ok-with_chains.field-0
          c.in_ok-roots_of.field-0 c.in_ok-caches_of.field-0 c.in_ok-words_of.field-0 c.requires.sound c.in_ok-planes.ensures.held c.deref.ensures.value c.deref-2.ensures.value
          c.as_slice.ensures.items c.in_ok-structures.ensures.made c.in_ok-with_chains.ensures.chained c.in_ok-roots_of.ensures.made c.in_ok-caches_of.ensures.made c.in_ok-words_of.ensures.made;
    }
