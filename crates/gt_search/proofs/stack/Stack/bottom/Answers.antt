use Rattle.std.proofs.Common.{sym, ap, ◌∙◌}
use Rattle.std.specs.Prelude.{slice_get}
use Rattle.gt_search.specs.Searching.{bottom}
use Rattle.gt_search.proofs.Stacks.{bottom-reverse}
use Rattle.gt_search.proofs.stack.Stack.bottom.Goals as goal

pub returns : goal.returns
returns g c = record {
  lowest = c.first.ensures.value ∙ ap (λ xs. slice_get xs 0) c.deref.ensures.value ∙ sym (bottom-reverse c.self.inside.items.items) ∙ ap bottom c.self.view_is;
}
