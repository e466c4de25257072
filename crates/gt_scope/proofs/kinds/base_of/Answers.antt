use Rattle.std.proofs.Common.{◌∙◌, ap}
use Rattle.std.specs.Prelude.{slice_get}
use Rattle.gt_scope.proofs.KindLemmas.{base_at}
use Rattle.gt_scope.proofs.kinds.base_of.Goals as goal

pub returns-in_ok-copy-in-Some : goal.returns-in_ok-copy-in-Some
returns-in_ok-copy-in-Some c =
    record {
      base = λ other h.
          base_at c.args.tags.now c.args.kind c.in-Undefined.keyword c.in-Undefined.tag c.in-Some.entry.now c.in_ok-copy-in-Some.field-0 c.in-Undefined.is
          (c.in-Some.ensures.item ∙ ap (λ es. slice_get es c.in-Undefined.tag) c.entries.ensures.entries) c.in_ok-copy-in-Some.ensures.same other h;
    }
