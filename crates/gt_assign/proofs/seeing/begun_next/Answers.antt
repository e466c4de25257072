use Rattle.std.proofs.Common.{◌≡◌, ℕ, List, Option, rules, sym, ap, ◌∙◌, None, Some, option_copied}
use Rattle.std.specs.Prelude.{option_map}
use Rattle.std.specs.Str.{bytes_eq}
use Rattle.std.specs.List.{position_from}
use Rattle.gt_types.specs.declared.expressions.Expr.{Expr}
use Rattle.gt_types.specs.declared.types.TypeId.{TypeId}
use Rattle.gt_types.specs.declared.types.Ty.{Ty}
use Rattle.gt_types.specs.declared.types.Ty.TheVariants as ty
use Rattle.gt_types.specs.declared.program.Structure.{Structure}
use Rattle.gt_types.specs.declared.program.Program.{Program}
use Rattle.gt_types.specs.Contains.{HasStructure}
use Rattle.gt_assign.specs.Pasts.{begun_in, begun_node, begun_next}
use Rattle.gt_assign.proofs.seeing.begun_next.Goals as goal

-- by the place that the name has in the structure of the type
begun-by : (program : Program) (type : Ty) (node : TypeId) (desc : Option Expr) (s : Structure) (name : List ℕ) (found place : Option ℕ) → type ≡ ty.Node node desc → HasStructure program node s
    → found ≡ position_from (λ f. bytes_eq f.name name) 0 s.fields → found ≡ place → begun_in s place ≡ begun_next program name type
begun-by program type node desc s name found place is has at so = ap (begun_in s) (sym so ∙ at) ∙ sym (ap (begun_next program name) is ∙ ap (begun_node name) has)

pub returns-in_err-place : goal.returns-in_err-place
returns-in_err-place c =
    let program = c.args.on.now.program.now in
    let s = c.in_ok-structure.structure.now in
    let has = sym c.in_ok-structure.ensures.item in
    let none : c.place_of.result ≡ None = search rules in
    let nothing : c.from_residual-in_err-place.result ≡ None = search rules in
    ap (option_map option_copied) nothing
    ∙ begun-by program c.args.ty.now c.in-Node.node c.in-Node.desc s c.args.name.now c.place_of.result None c.in-Node.is has (c.place_of.ensures program s c.args.on.now.named has) none

pub returns : goal.returns
returns c =
    let program = c.args.on.now.program.now in
    let s = c.in_ok-structure.structure.now in
    let has = sym c.in_ok-structure.ensures.item in
    let some : c.place_of.result ≡ Some c.in_ok-place.place = search rules in
    c.begun_at.ensures
    ∙ begun-by program c.args.ty.now c.in-Node.node c.in-Node.desc s c.args.name.now c.place_of.result (Some c.in_ok-place.place) c.in-Node.is has (c.place_of.ensures program s c.args.on.now.named has) some
