use Rattle.std.proofs.Common.{rules, ◌≡◌, ◌-◌, List, length, take, drop, ap, sym, subst, ◌∙◌, Some, Err, arith, option_copied}
use Rattle.std.proofs.lemmas.Result.{err_from_is_err_and}
use Rattle.gt_types.specs.declared.types.Ty.{out-Ty}
use Rattle.gt_types.specs.declared.types.Ty.TheVariants as ty
use Rattle.gt_types.specs.declared.program.Field.{Field}
use Rattle.gt_tree.specs.Fits.{types_of}
use Rattle.gt_value.specs.Values.{tree_of}
use Rattle.gt_assign.specs.Pasts.{Begun, Nothing, past_of}
use Rattle.gt_assign.specs.Turning.{made, layer_made, struct_made, fields_made}
use Rattle.gt_assign.specs.Changes.{Decides, changed}
use Rattle.gt_assign.specs.declared.changes.Change.{Change}
use Rattle.gt_assign.specs.declared.changes.Change.TheVariants.{Begins}
use Rattle.gt_assign.proofs.Begun.{other-stays, struct-empty, struct-begins, struct-rest, all-stop}
use Rattle.gt_assign.proofs.Depths.{made_at}
use Rattle.gt_assign.proofs.Nodes.{node-struct}
use Rattle.gt_assign.proofs.beginnings.+begin.Goals as goal

pub begin-returns-in-Node : goal.begin-returns-in-Node
begin-returns-in-Node t c =
    let make = made c.args.on.now.program.now c.args.on.now.capacity (c.args.depth - 1) in
    subst (Decides c.begin_node.result (tree_of c.args.value.now))
    (ap (λ l. layer_made c.args.on.now.program.now c.args.on.now.capacity make (past_of c.args.around.now) l (Begun c.args.common (tree_of c.args.value.now))) (sym (ap out-Ty c.in-Node.is ∙ ty.outs-Node c.in-Node.id c.in-Node.desc))
    ∙ sym (made_at c.args.on.now.program.now c.args.on.now.capacity c.args.depth (past_of c.args.around.now) c.args.ty.now (Begun c.args.common (tree_of c.args.value.now)) (omega arith)))
    (c.begin_node.ensures c.in-Node.desc)

pub begin_node-returns : goal.begin_node-returns
begin_node-returns t c desc =
    let make = made c.args.on.now.program.now c.args.on.now.capacity c.args.depth in
    let was = Begun c.args.common (tree_of c.args.value.now) in
    subst (Decides c.begin_struct.result (tree_of c.args.value.now))
    (ap (λ (fs : List Field). struct_made make (past_of c.inside-inner.result) fs was) c.as_slice.ensures.items
    ∙ node-struct c.args.on.now.program.now make (past_of c.args.around.now) (past_of c.inside-inner.result) c.args.id desc was
    c.in-Some.structure.now (other-stays c.args.id c.args.common (tree_of c.args.value.now) (search rules)) (sym c.get.ensures.item ∙ ap option_copied c.in-Some.is) c.if-structure.false c.inside-inner.ensures)
    c.begin_struct.ensures

pub begin_struct-returns-in-empty : goal.begin_struct-returns-in-empty
begin_struct-returns-in-empty t c =
    struct-empty (made c.args.on.now.program.now c.args.on.now.capacity c.args.depth) (past_of c.args.inner.now) c.args.common (tree_of c.args.value.now) c.args.fields.now c.new.result c.in-empty.len_below c.new.ensures.items

pub begin_struct-returns-in_err-rest-in-len1-up : goal.begin_struct-returns-in_err-rest-in-len1-up
begin_struct-returns-in_err-rest-in-len1-up t c =
    let make = made c.args.on.now.program.now c.args.on.now.capacity c.args.depth in
    let p = err_from_is_err_and c.from_residual-in_err-rest-in-len1-up.result c.from_residual-in_err-rest-in-len1-up.ensures.1 in
    let q = p.2 in
    let is : c.from_residual-in_err-rest-in-len1-up.result ≡ Err c.in_err-rest-in-len1-up.field-0.0 = cc in
    let whole = struct_made make (past_of c.args.inner.now) c.args.fields.now (Begun c.args.common (tree_of c.args.value.now)) in
    subst (λ r. Decides r (tree_of c.args.value.now) whole) (sym is)
    (all-stop c.in_err-rest-in-len1-up.field-0.0 (tree_of c.args.value.now) (fields_made make (past_of c.args.inner.now) Nothing 0 (types_of (take (length c.args.fields.now - 1) (drop 1 c.args.fields.now)))) whole c.in_err-rest-in-len1-up.ensures
    (struct-rest make (past_of c.args.inner.now) c.args.common (tree_of c.args.value.now) c.args.fields.now c.field-item.result c.in-len1-up.len_at_least c.field-item.is))

pub begin_struct-returns-in_ok-new-in-len1-up : goal.begin_struct-returns-in_ok-new-in-len1-up
begin_struct-returns-in_ok-new-in-len1-up t c =
    let make = made c.args.on.now.program.now c.args.on.now.capacity c.args.depth in
    struct-begins make (past_of c.args.inner.now) c.args.common (tree_of c.args.value.now) c.args.fields.now c.field-item.result c.in-len1-up.len_at_least c.field-item.is
    c.in_ok-first-in-len1-up.first c.in_ok-rest-in-len1-up.rest c.in_ok-first-in-len1-up.ensures c.in_ok-rest-in-len1-up.ensures
    ∙ ap (λ (first : Change). Some (changed (Begins first c.in_ok-rest-in-len1-up.rest) (tree_of c.args.value.now))) (sym c.in_ok-new-in-len1-up.ensures)
