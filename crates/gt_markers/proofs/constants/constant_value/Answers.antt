use Rattle.std.proofs.Common.{◌≡◌, ◌∙◌, List, ℕ, ℤ, Option, sym, ap}
use Rattle.std.proofs.Math.Path.{fun_ext}
use Rattle.gt_names.specs.Entries.{value_in}
use Rattle.gt_drafts.specs.declared.draft.Draft.{Draft}
use Rattle.gt_drafts.specs.Amounts.{amount_of_tree}
use Rattle.gt_markers.specs.Expressions.{constant_value, value_of_amount}
use Rattle.gt_markers.specs.Lookups.{IsLookupOf}
use Rattle.gt_markers.proofs.Firsts.{if_ok}
use Rattle.gt_markers.proofs.constants.constant_value.Goals as goal

pub returns-in-Expression : goal.returns-in-Expression
returns-in-Expression c =
    record {
      value =
          if_ok c.tree_value.result (λ v. v ≡ value_of_amount (amount_of_tree (value_in c.args.lookup.now.constants) c.in-Expression.tree))
          (λ v. (draft : Draft) → IsLookupOf draft c.args.lookup.now → v ≡ constant_value draft c.args.parameter.now)
          (λ v h draft is.
          h ∙ ap (λ (names : List ℕ → Option ℤ). value_of_amount (amount_of_tree names c.in-Expression.tree)) (fun_ext is.constants)
          ∙ ap (constant_value draft) (sym c.in-Expression.is)) c.tree_value.ensures.value;
    }
