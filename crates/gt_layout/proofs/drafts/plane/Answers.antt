use Rattle.std.proofs.Common.{ℕ, IsTrue, sym, ap, subst, ◌∙◌}
use Rattle.gt_types.specs.declared.program.Field.{Field}
use Rattle.gt_layout.specs.Storages.{storage_of, storages_of}
use Rattle.gt_layout.specs.Planes.{is_alignment, is_placeable}
use Rattle.gt_layout.specs.Progress.{finished}
use Rattle.gt_layout.proofs.Placing.{plane_of}
use Rattle.gt_layout.proofs.PlaneOf.{plane_is}
use Rattle.gt_layout.proofs.Drafting.{one_more, one_of, possible_all, made_plane, align-held}
use Rattle.gt_layout.proofs.drafts.plane.Goals as goal

pub loop-field-preserved : goal.loop-field-preserved
loop-field-preserved c =
    one_more (λ (f : Field). storage_of c.args.known.now f.ty) c.as_slice-field-items.result.now c.loop-field.field-index c.field-item.result c.args.structure.now.is_union
    c.loop-field.draft.end c.loop-field.draft.align c.loop-field.draft.spots.items c.storage-field.result c.start-begin.result c.add.new.self.end c.add.new.self.align c.add.new.self.spots.items
    c.loop-field-test.true c.field-item.is c.storage-field.ensures
    (one_of (λ (f : Field). IsTrue (is_placeable (storage_of c.args.known.now f.ty))) c.as_slice-field-items.result.now c.args.structure.now.fields c.loop-field.field-index c.field-item.result
    c.requires.placeable c.as_slice-field-items.ensures.items c.loop-field-test.true c.field-item.is)
    c.loop-field.invariant c.start-begin.ensures.start c.start-begin.ensures.near c.in_ok-add.ensures.end c.in_ok-add.ensures.align c.in_ok-add.ensures.spots

pub returns-clause-plane : goal.returns-clause-plane
returns-clause-plane c =
    let storages = storages_of c.args.known.now c.args.structure.now.fields in
    record {
      plane = plane_of c.args.structure.now.is_union storages;
      ideal = plane_is c.args.structure.now.is_union storages (possible_all (λ (f : Field). storage_of c.args.known.now f.ty) c.args.structure.now.fields c.requires.placeable);
      same = made_plane (λ (f : Field). storage_of c.args.known.now f.ty) c.as_slice-field-items.result.now c.args.structure.now.fields c.loop-field.field-index c.args.structure.now.is_union
          c.loop-field.draft.end c.loop-field.draft.align c.loop-field.draft.spots.items c.finish.result c.loop-field.invariant c.loop-field-test.false c.as_slice-field-items.ensures.items c.finish.ensures;
    }

pub returns-clause-aligned : goal.returns-clause-aligned
returns-clause-aligned c =
    subst (λ (n : ℕ). IsTrue (is_alignment n)) (sym (ap (λ p. p.align) c.finish.ensures ∙ align-held (finished c.loop-field.draft.end c.loop-field.draft.align c.loop-field.draft.spots.items)))
    c.loop-field.invariant.aligned
