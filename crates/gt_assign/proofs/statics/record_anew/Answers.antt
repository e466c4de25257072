use Rattle.std.proofs.Common.{◌≡◌, List, map, ap, sym, subst, ◌∙◌, Some, Ok, Err}
use Rattle.std.proofs.lemmas.Result.{err_from_is_err_and}
use Rattle.gt_types.specs.declared.program.Root.{Root}
use Rattle.gt_tree.specs.Trees.{Tree, Rec}
use Rattle.gt_value.specs.declared.values.Value.{Value}
use Rattle.gt_value.specs.Values.{trees, tree_of}
use Rattle.gt_assign.specs.Pasts.{Whole, past_outside}
use Rattle.gt_assign.specs.Turning.{Gives, made, roots_made, record_made}
use Rattle.gt_assign.specs.Changes.{Decides}
use Rattle.gt_fit.proofs.Values.{rec-tree}
use Rattle.gt_assign.proofs.Decided.{decided-none}
use Rattle.gt_assign.proofs.statics.record_anew.Goals as goal

pub returns : goal.returns
returns c =
    let make = made c.args.program.now 0 256 in
    let e = ap tree_of c.in-Rec.is ∙ rec-tree c.in-Rec.parts in
    let given =
    subst (λ (t : Tree). Decides (Ok c.in_ok-change.change) t (record_made c.args.program.now 256 t)) (sym e)
    (subst (λ (vs : List Value). Decides (Ok c.in_ok-change.change) (Rec (trees (map tree_of vs))) (roots_made make (past_outside (trees (map tree_of vs))) c.args.program.now.roots (Whole (Rec (trees (map tree_of vs)))))) c.as_slice-parts.ensures.value
    (subst (λ (rs : List Root). Decides (Ok c.in_ok-change.change) (Rec (trees (map tree_of c.as_slice-parts.result.now))) (roots_made make (past_outside (trees (map tree_of c.as_slice-parts.result.now))) rs (Whole (Rec (trees (map tree_of c.as_slice-parts.result.now)))))) c.as_slice.ensures.items
    c.in_ok-change.ensures)) in
    given ∙ ap Some (sym c.in_ok-apply.ensures)

pub returns-in_err-change : goal.returns-in_err-change
returns-in_err-change c =
    let make = made c.args.program.now 0 256 in
    let e = ap tree_of c.in-Rec.is ∙ rec-tree c.in-Rec.parts in
    let given =
    subst (λ (t : Tree). Decides (Err c.in_err-change.field-0.0) t (record_made c.args.program.now 256 t)) (sym e)
    (subst (λ (vs : List Value). Decides (Err c.in_err-change.field-0.0) (Rec (trees (map tree_of vs))) (roots_made make (past_outside (trees (map tree_of vs))) c.args.program.now.roots (Whole (Rec (trees (map tree_of vs)))))) c.as_slice-parts.ensures.value
    (subst (λ (rs : List Root). Decides (Err c.in_err-change.field-0.0) (Rec (trees (map tree_of c.as_slice-parts.result.now))) (roots_made make (past_outside (trees (map tree_of c.as_slice-parts.result.now))) rs (Whole (Rec (trees (map tree_of c.as_slice-parts.result.now)))))) c.as_slice.ensures.items
    c.in_err-change.ensures)) in
    let p = err_from_is_err_and c.from_residual.result c.from_residual.ensures.1 in
    let q = p.2 in
    let is : c.from_residual.result ≡ Err c.in_err-change.field-0.0 = cc in
    subst (λ r. Gives r (record_made c.args.program.now 256 (tree_of c.args.written))) (sym is) (decided-none c.in_err-change.field-0.0 (tree_of c.args.written) (record_made c.args.program.now 256 (tree_of c.args.written)) given)
