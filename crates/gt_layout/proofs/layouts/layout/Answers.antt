use Rattle.std.proofs.Common.{◌≡◌, ◌≤◌, ◌∙◌, ℕ, IsTrue, List, Some, length, ap, sym, subst}
use Rattle.std.specs.List.{All}
use Rattle.gt_types.specs.declared.limits.TheConstants.{MAX_FIELDS}
use Rattle.gt_types.specs.declared.program.Root.{Root}
use Rattle.gt_types.specs.declared.program.Structure.{Structure}
use Rattle.gt_fields.specs.FieldNames.{field_names}
use Rattle.gt_fields.proofs.FewFields.{few-fields}
use Rattle.gt_layout.specs.declared.planes.Plane.{Plane}
use Rattle.gt_layout.specs.declared.layouts.Statics.{Statics}
use Rattle.gt_layout.specs.Storages.{storage_of}
use Rattle.gt_layout.specs.Planes.{AreLaidOut, is_placeable}
use Rattle.gt_layout.specs.Growths.{AreGrowths}
use Rattle.gt_layout.specs.Excess.{IsFirst, IsTooLarge}
use Rattle.gt_layout.specs.Progress.{IsLargeAt, IsStatics}
use Rattle.gt_layout.proofs.Whole.{placeable_roots, stop_beyond, stop_some, all_laid_out, all_within, known_laid}
use Rattle.gt_layout.proofs.layouts.layout.Goals as goal

-- what a call says of the slices of the planes and the roots, said of these
statics_of : (slice known : List Plane) (items roots : List Root) (result variant : Statics) → slice ≡ known → items ≡ roots → result ≡ variant → IsStatics slice items result → IsStatics known roots variant
statics_of slice known items roots result variant a b c is =
    subst (λ (ps : List Plane). IsStatics ps roots variant) a (subst (λ (rs : List Root). IsStatics slice rs variant) b (subst (IsStatics slice items) c is))

pub of-requires : goal.of-requires
of-requires c = record {
  few = subst (λ (ss : List Structure). All (λ (s : Structure). length s.fields ≤ MAX_FIELDS) ss) (sym c.as_slice-in-None.ensures.items) (few-fields c.args.program.now c.requires);
}

pub lay_out_roots-requires-clause-placeable : goal.lay_out_roots-requires-clause-placeable
lay_out_roots-requires-clause-placeable c =
    subst (λ (ps : List Plane). All (λ (r : Root). IsTrue (is_placeable (storage_of ps r.ty))) c.as_slice-2.result.now) (sym c.as_slice-3.ensures.value)
    (subst (λ (rs : List Root). All (λ (r : Root). IsTrue (is_placeable (storage_of c.in_ok-known.known.items r.ty))) rs) (sym c.as_slice-2.ensures.items)
    (placeable_roots c.args.program.now c.in_ok-known.known.items c.requires c.in_ok-known.ensures))

pub returns-in-Beyond-clause-stop : goal.returns-in-Beyond-clause-stop
returns-in-Beyond-clause-stop c =
    stop_beyond c.args.program.now c.in_ok-known.known.items c.first_too_large-structure.result c.in-Beyond.root c.requires c.in_ok-known.ensures
    (subst (λ (ps : List Plane). IsFirst (IsLargeAt c.args.program.now ps) c.first_too_large-structure.result) c.as_slice.ensures.value c.first_too_large-structure.ensures)
    (statics_of c.as_slice-3.result.now c.in_ok-known.known.items c.as_slice-2.result.now c.args.program.now.roots c.in_ok-plane.field-0 _ c.as_slice-3.ensures.value c.as_slice-2.ensures.items c.in-Beyond.is c.in_ok-plane.ensures)

pub growths_of-requires-clause-laid_out : goal.growths_of-requires-clause-laid_out
growths_of-requires-clause-laid_out c =
    subst (AreLaidOut c.args.program.now) (sym c.as_slice-in-None-2.ensures.value)
    (known_laid c.args.program.now c.in_ok-known.known.items c.requires c.in_ok-known.ensures (subst (λ (ps : List Plane). (place : ℕ) → ¬ IsLargeAt c.args.program.now ps place) c.as_slice.ensures.value c.in-None.ensures))

pub growths_of-requires-clause-within : goal.growths_of-requires-clause-within
growths_of-requires-clause-within c =
    subst (λ (ps : List Plane). (place : ℕ) → ¬ IsTooLarge c.args.program.now ps place) (sym c.as_slice-in-None-2.ensures.value)
    (subst (λ (ps : List Plane). (place : ℕ) → ¬ IsLargeAt c.args.program.now ps place) c.as_slice.ensures.value c.in-None.ensures)

pub returns-in_ok-growths-in-None-clause-laid_out : goal.returns-in_ok-growths-in-None-clause-laid_out
returns-in_ok-growths-in-None-clause-laid_out c =
    all_laid_out c.args.program.now c.in_ok-known.known.items c.of-in-None-2.result c.in-Within.plane c.in_ok-names-in-None.names c.in_ok-unions-in-None.unions c.in_ok-growths-in-None.growths c.requires c.in_ok-known.ensures
    (subst (λ (ps : List Plane). (place : ℕ) → ¬ IsLargeAt c.args.program.now ps place) c.as_slice.ensures.value c.in-None.ensures)
    (statics_of c.as_slice-3.result.now c.in_ok-known.known.items c.as_slice-2.result.now c.args.program.now.roots c.in_ok-plane.field-0 _ c.as_slice-3.ensures.value c.as_slice-2.ensures.items c.in-Within.is c.in_ok-plane.ensures)
    c.of-in-None-2.ensures.items (c.in_ok-names-in-None.ensures.made ∙ ap field_names c.as_slice-in-None.ensures.items) c.in_ok-unions-in-None.ensures.made
    (subst (λ (ps : List Plane). AreGrowths c.args.program.now ps c.in_ok-growths-in-None.growths) c.as_slice-in-None-2.ensures.value c.in_ok-growths-in-None.ensures.made)

pub returns-in_ok-growths-in-None-clause-within : goal.returns-in_ok-growths-in-None-clause-within
returns-in_ok-growths-in-None-clause-within c =
    all_within c.args.program.now c.in_ok-known.known.items c.of-in-None-2.result c.in-Within.plane c.in_ok-names-in-None.names c.in_ok-unions-in-None.unions c.in_ok-growths-in-None.growths c.in_ok-known.ensures
    (subst (λ (ps : List Plane). (place : ℕ) → ¬ IsLargeAt c.args.program.now ps place) c.as_slice.ensures.value c.in-None.ensures)
    (statics_of c.as_slice-3.result.now c.in_ok-known.known.items c.as_slice-2.result.now c.args.program.now.roots c.in_ok-plane.field-0 _ c.as_slice-3.ensures.value c.as_slice-2.ensures.items c.in-Within.is c.in_ok-plane.ensures)
    c.of-in-None-2.ensures.items

pub returns-in-Some-clause-stop : goal.returns-in-Some-clause-stop
returns-in-Some-clause-stop c =
    stop_some c.args.program.now c.in_ok-known.known.items c.in-Some.place c.in-Within.plane c.requires c.in_ok-known.ensures
    (subst (λ (ps : List Plane). IsFirst (IsLargeAt c.args.program.now ps) (Some c.in-Some.place)) c.as_slice.ensures.value c.in-Some.ensures)
    (statics_of c.as_slice-3.result.now c.in_ok-known.known.items c.as_slice-2.result.now c.args.program.now.roots c.in_ok-plane.field-0 _ c.as_slice-3.ensures.value c.as_slice-2.ensures.items c.in-Within.is c.in_ok-plane.ensures)
