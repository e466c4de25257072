use Rattle.std.proofs.Common.{◌≡◌, take, get_or, sym, subst, rules, arith, None}
use Rattle.gt_value.proofs.CursorAnswers.{StepsOn}
use Rattle.gt_value.proofs.CursorFollows.{FollowsOn, follows-none, follows-somewhere, follows-more, follows-nowhere, follows-all}
use Rattle.gt_value.proofs.cursors.Cursor.follow.Goals as goal

pub loop-place-init : goal.loop-place-init
loop-place-init c = follows-none c.args.self.now c.args.path.now

pub step-requires : goal.step-requires
step-requires c = record { stands = follows-somewhere c.args.self.now c.loop-place.cursor (take c.loop-place.place-index c.args.path.now) c.requires.stands c.loop-place.invariant }

pub loop-place-preserved : goal.loop-place-preserved
loop-place-preserved c =
    follows-more c.args.self.now c.loop-place.cursor c.in_ok-cursor.cursor c.args.path.now c.loop-place.place-index (omega (arith, c.loop-place-test.true)) c.loop-place.invariant c.in_ok-cursor.ensures.part

pub returns-in_err-cursor : goal.returns-in_err-cursor
returns-in_err-cursor c =
    let none : c.step.result ≡ None = search rules in
    let nowhere = subst (λ r. StepsOn c.loop-place.cursor (get_or c.args.path.now c.loop-place.place-index 0) r) none c.step.ensures.part in
    record {
      part = subst (λ r. FollowsOn c.args.self.now c.args.path.now r) (sym c.from_residual.ensures)
          (follows-nowhere c.args.self.now c.loop-place.cursor c.args.path.now c.loop-place.place-index (omega (arith, c.loop-place-test.true)) c.loop-place.invariant nowhere);
    }

pub returns : goal.returns
returns c = record { part = follows-all c.args.self.now c.loop-place.cursor c.args.path.now c.loop-place.place-index (omega (arith, c.loop-place-test.false)) c.loop-place.invariant }
