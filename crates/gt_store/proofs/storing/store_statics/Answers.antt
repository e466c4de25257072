use Rattle.std.proofs.Common.{◌≡◌, ◌∙◌, ◌≤◌, ap, sym, subst, arith, length, map, replicate}
use Rattle.gt_space.specs.Range.{with_bytes}
use Rattle.gt_tree.specs.Trees.{Trees, Rec}
use Rattle.gt_value.specs.Values.{tree_of, trees}
use Rattle.gt_value.specs.Bytes.{StaticsFitSome}
use Rattle.gt_value.proofs.TreesOf.{tree-rec}
use Rattle.gt_store.proofs.Walks.{FieldsWritten}
use Rattle.gt_store.proofs.Statics.{statics-stored}
use Rattle.gt_store.proofs.storing.store_statics.Goals as goal

rec-same : (a b : Trees) → Rec a ≡ Rec b → a ≡ b
rec-same a b e = cc

pub returns-in-Rec-clause-stored : goal.returns-in-Rec-clause-stored
returns-in-Rec-clause-stored c parts same =
    let mine : tree_of c.args.values.now ≡ Rec (trees (map tree_of c.deref.result.now)) =
    ap tree_of c.in-Rec.is ∙ tree-rec c.in-Rec.parts ∙ ap (λ xs. Rec (trees (map tree_of xs))) (sym c.deref.ensures.value) in
    let alike : trees (map tree_of c.deref.result.now) ≡ parts = rec-same (trees (map tree_of c.deref.result.now)) parts (sym mine ∙ same) in
    let fits : StaticsFitSome c.args.program.now parts = subst (StaticsFitSome c.args.program.now) (rec-same c.requires.fits.0 parts (sym c.requires.fits.1 ∙ same)) c.requires.fits.2 in
    let room : c.args.layouts.now.statics.size ≤ length c.fill.new.self.bytes = omega (arith, c.requires.inside.from_start, c.requires.inside.to_end, c.fill.ensures.addresses.len) in
    statics-stored c.args.program.now c.args.layouts.now c.requires.settled c.requires.laid parts fits c.args.space.now c.fill.new.self c.store_roots.new.space c.requires.inside
    (c.fill.ensures.bytes ∙ ap (λ s. with_bytes c.args.space.now s (replicate c.args.layouts.now.statics.size 0)) c.start-start.ensures.start) room c.start-start.ensures.every_space.bytes
    (subst (λ t. FieldsWritten c.args.program.now c.args.layouts.now.structures 0 (map (λ r. r.ty) c.args.program.now.roots) c.args.layouts.now.statics.fields t c.fill.new.self c.store_roots.new.space) alike c.store_roots.ensures.stored)
