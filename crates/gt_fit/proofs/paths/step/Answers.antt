use Rattle.std.proofs.Common.{◌≡◌, cond, rules, sym, ap, ◌∙◌, None, Some, slice_get}
use Rattle.gt_tree.specs.Scopes.{member_of, field_of}
use Rattle.gt_value.specs.Values.{tree_of}
use Rattle.gt_fit.specs.Values.{typed_of}
use Rattle.gt_fit.proofs.PathSteps.{step-unnamed, step-at}
use Rattle.gt_fit.proofs.paths.step.Goals as goal

pub returns-in_err-place : goal.returns-in_err-place
returns-in_err-place c =
    let program = c.args.program.now in
    let s = c.in_ok-structure.structure.now in
    let has = sym c.in_ok-structure.ensures.item in
    let none : c.place_of.result ≡ None = search rules in
    let nothing : c.from_residual-in_err-place.result ≡ None = search rules in
    ap typed_of nothing
    ∙ sym (step-unnamed program c.args.ty.now c.in-Node.id c.in-Node.desc s c.args.name.now (tree_of c.args.value.now) c.place_of.result c.in-Node.is has (sym (c.place_of.ensures program s c.requires.named has)) none)

pub returns-in_err-field : goal.returns-in_err-field
returns-in_err-field c =
    let program = c.args.program.now in
    let s = c.in_ok-structure.structure.now in
    let has = sym c.in_ok-structure.ensures.item in
    let some : c.place_of.result ≡ Some c.in_ok-place.field-0 = search rules in
    let got : slice_get s.fields c.in_ok-place.field-0 ≡ None = search rules in
    let nothing : c.from_residual-in_err-field.result ≡ None = search rules in
    ap typed_of nothing
    ∙ sym (step-at program c.args.ty.now c.in-Node.id c.in-Node.desc s c.args.name.now (tree_of c.args.value.now) c.place_of.result c.in-Node.is has (sym (c.place_of.ensures program s c.requires.named has)) c.in_ok-place.field-0 some None got)

pub returns-then-structure : goal.returns-then-structure
returns-then-structure c =
    let program = c.args.program.now in
    let s = c.in_ok-structure.structure.now in
    let f = c.in_ok-field.field.now in
    let has = sym c.in_ok-structure.ensures.item in
    let some : c.place_of.result ≡ Some c.in_ok-place.field-0 = search rules in
    c.member_of.ensures
    ∙ sym (ap (λ b. cond b (member_of program s f.ty (tree_of c.args.value.now)) (field_of f (tree_of c.args.value.now) c.in_ok-place.field-0)) c.if-structure.true)
    ∙ sym (step-at program c.args.ty.now c.in-Node.id c.in-Node.desc s c.args.name.now (tree_of c.args.value.now) c.place_of.result c.in-Node.is has (sym (c.place_of.ensures program s c.requires.named has)) c.in_ok-place.field-0 some (Some f) (sym c.in_ok-field.ensures.item))

pub returns-else-structure : goal.returns-else-structure
returns-else-structure c =
    let program = c.args.program.now in
    let s = c.in_ok-structure.structure.now in
    let f = c.in_ok-field.field.now in
    let has = sym c.in_ok-structure.ensures.item in
    let some : c.place_of.result ≡ Some c.in_ok-place.field-0 = search rules in
    c.field_of.ensures
    ∙ sym (ap (λ b. cond b (member_of program s f.ty (tree_of c.args.value.now)) (field_of f (tree_of c.args.value.now) c.in_ok-place.field-0)) c.if-structure.false)
    ∙ sym (step-at program c.args.ty.now c.in-Node.id c.in-Node.desc s c.args.name.now (tree_of c.args.value.now) c.place_of.result c.in-Node.is has (sym (c.place_of.ensures program s c.requires.named has)) c.in_ok-place.field-0 some (Some f) (sym c.in_ok-field.ensures.item))
