use Rattle.std.proofs.Common.{Some, sym, subst}
use Rattle.gt_tree.specs.Scopes.{outside}
use Rattle.gt_leaf.specs.Unread.{structures_on}
use Rattle.gt_leaf.specs.Writing.{IsLeft, MayPut}
use Rattle.gt_leaf.proofs.MisfitPlaces.{misfits}
use Rattle.gt_leaf.proofs.WritePlaces.{part-unread, place-leads, place-part, may-put}
use Rattle.gt_leaf.proofs.writing.judge_leaf_at.Goals as goal

pub returns-clause-in_place : goal.returns-clause-in_place
returns-clause-in_place g c = λ other e layouts statics capacity range addr value h.
    let program = c.args.program.now in
    let around = structures_on program (Some c.args.ty.now) c.args.path.now in
    let part = place-part program layouts (outside statics) c.args.ty.now range addr value c.args.path.now c.args.place _ c.held_type.ensures h.at in
    let fit = c.judge_at.ensures.fit other e program around h.at.p (part-unread around c.is_unread.result h.at.is (c.is_unread.ensures.unread c.requires.table)) part in
    subst (MayPut program layouts (g.N.BlockNames.blocks c.args.names.now) statics capacity c.args.ty.now addr value c.args.path.now c.args.leaf range) (sym (c.judge_at.ensures.there other e))
    (may-put program layouts c.requires.settled h.laid (g.N.BlockNames.blocks c.args.names.now) statics capacity c.args.ty.now addr value c.args.path.now c.args.leaf range c.args.place h.inside h.stands h.at fit)

pub returns-clause-not_in_place : goal.returns-clause-not_in_place
returns-clause-not_in_place g c = λ e layouts statics capacity range addr value h.
    let program = c.args.program.now in
    let around = structures_on program (Some c.args.ty.now) c.args.path.now in
    let part = place-part program layouts (outside statics) c.args.ty.now range addr value c.args.path.now c.args.place _ c.held_type.ensures h.at in
    IsLeft.not_alone h.at.p h.at.lies (c.judge_at.ensures.not_alone e program around h.at.p (part-unread around c.is_unread.result h.at.is (c.is_unread.ensures.unread c.requires.table)) part)

pub returns-clause-misfit : goal.returns-clause-misfit
returns-clause-misfit g c = λ e layouts statics capacity range addr value h.
    let program = c.args.program.now in
    let around = structures_on program (Some c.args.ty.now) c.args.path.now in
    let part = place-part program layouts (outside statics) c.args.ty.now range addr value c.args.path.now c.args.place _ c.held_type.ensures h.at in (
      place-leads h.at,
      misfits program layouts c.requires.settled (g.N.BlockNames.blocks c.args.names.now) statics capacity c.args.ty.now addr value c.args.path.now c.args.leaf range c.args.place h.stands h.at
          (c.judge_at.ensures.misfit e program around h.at.p (part-unread around c.is_unread.result h.at.is (c.is_unread.ensures.unread c.requires.table)) part),
    )
