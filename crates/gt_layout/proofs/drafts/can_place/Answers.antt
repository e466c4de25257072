use Rattle.std.proofs.Common.{◌≡◌, IsTrue, List, take_all, sym, ap, subst, ◌∙◌, refl}
use Rattle.std.specs.List.{All}
use Rattle.std.proofs.lemmas.List.Elements.{All-more}
use Rattle.gt_types.specs.declared.program.Field.{Field}
use Rattle.gt_layout.specs.declared.storages.Storage.{Storage}
use Rattle.gt_layout.specs.declared.storages.Storage.TheVariants.{Bytes, Bits}
use Rattle.gt_layout.specs.Storages.{storage_of, held_storage}
use Rattle.gt_layout.specs.Planes.{is_placeable}
use Rattle.gt_layout.proofs.drafts.can_place.Goals as goal

same_held : (f : Storage) → is_placeable (held_storage f) ≡ is_placeable f
same_held (Bytes e) = refl
same_held (Bits unit count) = refl

pub loop-field-preserved : goal.loop-field-preserved
loop-field-preserved c =
    All-more (λ (f : Field). IsTrue (is_placeable (storage_of c.args.known.now f.ty))) c.as_slice-field-items.result.now c.loop-field.field-index c.field-item.result c.loop-field-test.true c.loop-field.invariant
    (subst (λ (f : Field). IsTrue (is_placeable (storage_of c.args.known.now f.ty))) c.field-item.is
    (sym (c.is_placeable.ensures ∙ ap is_placeable c.storage.ensures ∙ same_held (storage_of c.args.known.now c.field-item.result.ty)) ∙ c.if-not-is_placeable.false))

pub returns : goal.returns
returns c = (
  λ _. subst (λ (fs : List Field). All (λ (f : Field). IsTrue (is_placeable (storage_of c.args.known.now f.ty))) fs)
      (take_all c.loop-field.field-index c.as_slice-field-items.result.now c.loop-field-test.false ∙ c.as_slice-field-items.ensures.items) c.loop-field.invariant,
  λ _. refl,
)
