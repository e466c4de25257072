use Rattle.std.proofs.Common.{sym, subst}
use Rattle.gt_leaf.specs.Unread.{structures_in_statics}
use Rattle.gt_leaf.specs.Writing.{IsLeft, MayPutStatic}
use Rattle.gt_leaf.proofs.MisfitPlaces.{static-misfits}
use Rattle.gt_leaf.proofs.WritePlaces.{part-unread, statics-stand, static-leads, static-place-part, may-put-static}
use Rattle.gt_leaf.proofs.writing.judge_static_leaf.Goals as goal

pub returns-in-None-clause-not_in_place : goal.returns-in-None-clause-not_in_place
returns-in-None-clause-not_in_place g c = λ e values s. IsLeft.nowhere (c.in-None.ensures.leaf values (statics-stand s))

pub returns-in-Some-clause-in_place : goal.returns-in-Some-clause-in_place
returns-in-Some-clause-in_place g c = λ place e values s.
    let at = c.in-Some.ensures.leaf values (statics-stand s) in
    let part = static-place-part c.args.program.now c.args.layouts.now c.args.space.now values c.args.path.now c.in-Some.place _ c.held_type.ensures at in
    let fit = c.judge_at.ensures.fit place e c.args.program.now (structures_in_statics c.args.program.now c.args.path.now) at.p (part-unread (structures_in_statics c.args.program.now c.args.path.now) c.is_unread_static.result at.is (c.is_unread_static.ensures.unread c.requires.table)) part in
    subst (MayPutStatic c.args.program.now c.args.layouts.now (g.N.BlockNames.blocks c.args.names.now) values c.args.path.now c.args.leaf c.args.space.now) (sym (c.judge_at.ensures.there place e))
    (may-put-static c.args.program.now c.args.layouts.now c.requires.settled c.requires.laid (g.N.BlockNames.blocks c.args.names.now) values c.args.path.now c.args.leaf c.args.space.now c.in-Some.place c.requires.inside s at fit)

pub returns-in-Some-clause-not_in_place : goal.returns-in-Some-clause-not_in_place
returns-in-Some-clause-not_in_place g c = λ e values s.
    let at = c.in-Some.ensures.leaf values (statics-stand s) in
    let part = static-place-part c.args.program.now c.args.layouts.now c.args.space.now values c.args.path.now c.in-Some.place _ c.held_type.ensures at in
    IsLeft.not_alone at.p at.lies (c.judge_at.ensures.not_alone e c.args.program.now (structures_in_statics c.args.program.now c.args.path.now) at.p (part-unread (structures_in_statics c.args.program.now c.args.path.now) c.is_unread_static.result at.is (c.is_unread_static.ensures.unread c.requires.table)) part)

pub returns-in-Some-clause-misfit : goal.returns-in-Some-clause-misfit
returns-in-Some-clause-misfit g c = λ e values s.
    let at = c.in-Some.ensures.leaf values (statics-stand s) in
    let part = static-place-part c.args.program.now c.args.layouts.now c.args.space.now values c.args.path.now c.in-Some.place _ c.held_type.ensures at in (
      static-leads at,
      static-misfits c.args.program.now c.args.layouts.now c.requires.settled (g.N.BlockNames.blocks c.args.names.now) values c.args.path.now c.args.leaf c.args.space.now c.in-Some.place s at
          (c.judge_at.ensures.misfit e c.args.program.now (structures_in_statics c.args.program.now c.args.path.now) at.p (part-unread (structures_in_statics c.args.program.now c.args.path.now) c.is_unread_static.result at.is (c.is_unread_static.ensures.unread c.requires.table)) part),
    )
