use Rattle.std.proofs.Common.{Some, sym, subst}
use Rattle.gt_tree.specs.Scopes.{outside}
use Rattle.gt_leaf.specs.Unread.{structures_on}
use Rattle.gt_leaf.specs.Writing.{IsLeft, MayPut}
use Rattle.gt_leaf.proofs.MisfitPlaces.{misfits}
use Rattle.gt_leaf.proofs.WritePlaces.{part-unread, stands-for, place-leads, place-part, may-put}
use Rattle.gt_leaf.proofs.writing.judge_leaf.Goals as goal

pub returns-in-None-clause-not_in_place : goal.returns-in-None-clause-not_in_place
returns-in-None-clause-not_in_place g c = λ e statics value s. IsLeft.nowhere (c.in-None.ensures.leaf value (stands-for s))

pub returns-in-Some-clause-in_place : goal.returns-in-Some-clause-in_place
returns-in-Some-clause-in_place g c = λ place e statics value s.
    let at = c.in-Some.ensures.leaf statics value (stands-for s) in
    let part = place-part c.args.program.now c.args.layouts.now (outside statics) c.args.ty.now c.args.space.now c.args.addr value c.args.path.now c.in-Some.place _ c.held_type.ensures at in
    let fit = c.judge_at.ensures.fit place e c.args.program.now (structures_on c.args.program.now (Some c.args.ty.now) c.args.path.now) at.p (part-unread (structures_on c.args.program.now (Some c.args.ty.now) c.args.path.now) c.is_unread.result at.is (c.is_unread.ensures.unread c.requires.table)) part in
    subst (MayPut c.args.program.now c.args.layouts.now (g.N.BlockNames.blocks c.args.names.now) statics c.args.capacity c.args.ty.now c.args.addr value c.args.path.now c.args.leaf c.args.space.now) (sym (c.judge_at.ensures.there place e))
    (may-put c.args.program.now c.args.layouts.now c.requires.settled c.requires.laid (g.N.BlockNames.blocks c.args.names.now) statics c.args.capacity c.args.ty.now c.args.addr value c.args.path.now c.args.leaf c.args.space.now c.in-Some.place c.requires.inside s at fit)

pub returns-in-Some-clause-not_in_place : goal.returns-in-Some-clause-not_in_place
returns-in-Some-clause-not_in_place g c = λ e statics value s.
    let at = c.in-Some.ensures.leaf statics value (stands-for s) in
    let part = place-part c.args.program.now c.args.layouts.now (outside statics) c.args.ty.now c.args.space.now c.args.addr value c.args.path.now c.in-Some.place _ c.held_type.ensures at in
    IsLeft.not_alone at.p at.lies (c.judge_at.ensures.not_alone e c.args.program.now (structures_on c.args.program.now (Some c.args.ty.now) c.args.path.now) at.p (part-unread (structures_on c.args.program.now (Some c.args.ty.now) c.args.path.now) c.is_unread.result at.is (c.is_unread.ensures.unread c.requires.table)) part)

pub returns-in-Some-clause-misfit : goal.returns-in-Some-clause-misfit
returns-in-Some-clause-misfit g c = λ e statics value s.
    let at = c.in-Some.ensures.leaf statics value (stands-for s) in
    let part = place-part c.args.program.now c.args.layouts.now (outside statics) c.args.ty.now c.args.space.now c.args.addr value c.args.path.now c.in-Some.place _ c.held_type.ensures at in (
      place-leads at,
      misfits c.args.program.now c.args.layouts.now c.requires.settled (g.N.BlockNames.blocks c.args.names.now) statics c.args.capacity c.args.ty.now c.args.addr value c.args.path.now c.args.leaf c.args.space.now c.in-Some.place s at
          (c.judge_at.ensures.misfit e c.args.program.now (structures_on c.args.program.now (Some c.args.ty.now) c.args.path.now) at.p (part-unread (structures_on c.args.program.now (Some c.args.ty.now) c.args.path.now) c.is_unread.result at.is (c.is_unread.ensures.unread c.requires.table)) part),
    )
