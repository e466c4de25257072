use Rattle.std.proofs.Common.{◌≡◌, map, ap, sym, subst, ◌∙◌, Some, Err}
use Rattle.std.proofs.lemmas.Result.{err_from_is_err_and}
use Rattle.gt_types.specs.declared.program.Root.{Root}
use Rattle.gt_tree.specs.Trees.{Rec}
use Rattle.gt_value.specs.Values.{trees, tree_of}
use Rattle.gt_assign.specs.Pasts.{Whole, past_of}
use Rattle.gt_assign.specs.Turning.{made, roots_made}
use Rattle.gt_assign.specs.Changes.{Decides, changed}
use Rattle.gt_fit.proofs.Values.{count-trees}
use Rattle.gt_assign.proofs.Decided.{parts-start, decided-stop}
use Rattle.gt_assign.proofs.PartFields.{fields_from, fields-uneven, field-next, field-none, fields-all}
use Rattle.gt_assign.proofs.statics.roots_change.Goals as goal

pub returns-then-parts-roots : goal.returns-then-parts-roots
returns-then-parts-roots c =
    let make = made c.args.on.now.program.now c.args.on.now.capacity 256 in
    fields-uneven make (past_of c.args.around.now) (λ (r : Root). r.ty) c.args.roots.now c.args.parts.now c.if-parts-roots.true

pub loop-i-init : goal.loop-i-init
loop-i-init c =
    let make = made c.args.on.now.program.now c.args.on.now.capacity 256 in
    parts-start (fields_from make (past_of c.args.around.now) (λ (r : Root). r.ty) c.args.roots.now c.args.parts.now) (trees (map tree_of c.args.parts.now)) c.new-all.result (c.new-all.ensures.len ∙ sym (count-trees c.args.parts.now)) c.new-all.ensures.kept c.new-all.ensures.changes

pub loop-i-preserved : goal.loop-i-preserved
loop-i-preserved c =
    let make = made c.args.on.now.program.now c.args.on.now.capacity 256 in
    field-next make (past_of c.args.around.now) (λ (r : Root). r.ty) c.args.roots.now c.args.parts.now c.loop-i.i c.index-roots-i.result c.index-parts-i.result c.loop-i.all c.if-parts-roots.false c.loop-i-test.true c.index-roots-i.is c.index-parts-i.is c.loop-i.invariant c.in_ok-change.field-0 c.push.new.self
    (subst (λ (r : Root). make (past_of c.args.around.now) r.ty (Whole (tree_of c.index-parts-i.result)) ≡ Some (changed c.in_ok-change.field-0 (tree_of c.index-parts-i.result))) (sym c.index-roots-i.is) c.in_ok-change.ensures) c.in_ok-push.ensures

pub returns : goal.returns
returns c =
    let make = made c.args.on.now.program.now c.args.on.now.capacity 256 in
    fields-all make (past_of c.args.around.now) (λ (r : Root). r.ty) c.args.roots.now c.args.parts.now c.loop-i.i c.loop-i.all c.if-parts-roots.false c.loop-i-test.false c.loop-i.invariant ∙ ap Some (sym (c.finish.ensures.rec (trees (map tree_of c.args.parts.now)) (sym c.loop-i.invariant.len)))

pub returns-in_err-change : goal.returns-in_err-change
returns-in_err-change c =
    let make = made c.args.on.now.program.now c.args.on.now.capacity 256 in
    let p = err_from_is_err_and c.from_residual.result c.from_residual.ensures.1 in
    let q = p.2 in
    let is : c.from_residual.result ≡ Err c.in_err-change.field-0.0 = cc in
    subst (λ r. Decides r (Rec (trees (map tree_of c.args.parts.now))) (roots_made make (past_of c.args.around.now) c.args.roots.now (Whole (Rec (trees (map tree_of c.args.parts.now)))))) (sym is)
    (decided-stop c.in_err-change.field-0.0 (tree_of c.index-parts-i.result) (Rec (trees (map tree_of c.args.parts.now))) (make (past_of c.args.around.now) c.index-roots-i.result.ty (Whole (tree_of c.index-parts-i.result))) (roots_made make (past_of c.args.around.now) c.args.roots.now (Whole (Rec (trees (map tree_of c.args.parts.now)))))
    (subst (λ (r : Root). Decides (Err c.in_err-change.field-0.0) (tree_of c.index-parts-i.result) (make (past_of c.args.around.now) r.ty (Whole (tree_of c.index-parts-i.result)))) (sym c.index-roots-i.is) c.in_err-change.ensures)
    (λ none. field-none make (past_of c.args.around.now) (λ (r : Root). r.ty) c.args.roots.now c.args.parts.now c.loop-i.i c.index-roots-i.result c.index-parts-i.result c.loop-i.all c.if-parts-roots.false c.loop-i-test.true c.index-roots-i.is c.index-parts-i.is c.loop-i.invariant none))
