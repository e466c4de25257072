use Rattle.std.proofs.Common.{◌∙◌, Some, ap, length, sym}
use Rattle.std.proofs.lemmas.Option.{slice_get-get_or}
use Rattle.gt_scope.proofs.TargetLemmas.{firsts_more, values_more, values_end}
use Rattle.gt_scope.proofs.scope.typedefs.Goals as goal

pub loop-place-preserved : goal.loop-place-preserved
loop-place-preserved c =
    record {
      table =
          values_more c.loop-place.table c.in_ok-table.table c.args.declarations.now c.loop-place.place c.index-declarations-place.result
          c.loop-place-test.true c.index-declarations-place.is c.in_ok-table.ensures.typedef
          ∙ c.loop-place.invariant.table;
      firsts =
          firsts_more c.args.declarations.now c.loop-place.table c.in_ok-table.table c.loop-place.firsts.items c.note_first.new.firsts.items
          c.index-declarations-place.result c.loop-place.place (length c.entries.result.now) c.loop-place.invariant.firsts
          (slice_get-get_or c.args.declarations.now c.loop-place.place c.index-declarations-place.result c.loop-place-test.true
          ∙ ap Some (sym c.index-declarations-place.is))
          c.in_ok-table.ensures.typedef (ap length c.entries.ensures.entries) c.in_ok-note_first.ensures.noted;
    }

pub returns : goal.returns
returns c =
    record {
      typedefs =
          sym (values_end c.loop-place.table c.args.declarations.now c.loop-place.place c.loop-place-test.false) ∙ c.loop-place.invariant.table;
      firsts = c.loop-place.invariant.firsts;
    }
