use Rattle.std.proofs.Common.{◌-◌, ◌<◌, ◌≤◌, length, arith, refl}
use Rattle.gt_lex.specs.Progress.{IsNext}
use Rattle.gt_lex.proofs.Scanning.{SoFar, SoFar-step, rest_within, next_shorter, is_first_fault}
use Rattle.gt_lex.proofs.lexing.scan.Goals as goal
use Rattle.gt_lex.proofs.lexing.scan.Goals.{At-pieces, In-Ok-Some, In-Err}

so_far : (c : At-pieces) → SoFar c.args.text.now c.pieces.fresh c.pieces.tokens.items c.pieces.defines.items c.pieces.rest.now
so_far c = c.pieces.invariant.2

within : (c : At-pieces) → length c.pieces.rest.now ≤ length c.args.text.now
within c = rest_within c.utf8.text (so_far c)

-- the piece of this iteration
next_here : (c : In-Ok-Some) → IsNext (length c.args.text.now - length c.pieces.rest.now) c.pieces.fresh c.pieces.rest.now c.in-Ok-Some.found c.in-Ok-Some.after.now
next_here c = rw c.in-Ok-Some.field-0-is at c.in-Ok-Some.ensures

shorter : (c : In-Ok-Some) → length c.in-Ok-Some.after.now < length c.pieces.rest.now
shorter c = next_shorter c.utf8.text c.pieces.invariant.2 (length c.args.text.now - length c.pieces.rest.now) c.in-Ok-Some.found c.in-Ok-Some.after.now (next_here c)

pub next_piece-requires-clause-within : goal.next_piece-requires-clause-within
next_piece-requires-clause-within c = within c

pub place-start-requires-clause-within : goal.place-start-requires-clause-within
place-start-requires-clause-within c = within (goal.at.place-start-requires-clause-within c).At-pieces

pub place-end-requires-clause-within : goal.place-end-requires-clause-within
place-end-requires-clause-within c =
    omega (arith, shorter (goal.at.place-end-requires-clause-within c).In-Ok-Some, within (goal.at.place-end-requires-clause-within c).At-pieces)

pub pieces-smaller : goal.pieces-smaller
pieces-smaller c = shorter (goal.at.pieces-smaller c).In-Ok-Some

pub pieces-preserved : goal.pieces-preserved
pieces-preserved c =
    let step =
    SoFar-step c.args.text.now c.pieces.rest.now c.in-Ok-Some.after.now c.pieces.fresh c.keeps_fresh-fresh.result c.pieces.tokens.items c.add_to.new.tokens.items c.pieces.defines.items c.add_to.new.defines.items c.in-Ok-Some.found c.place-start.result c.place-end.result c.utf8.text
    c.pieces.invariant.2
    (next_here (goal.at.pieces-preserved c).In-Ok-Some)
    c.place-start.ensures
    c.place-end.ensures
    c.in_ok-add_to-in-Ok-Some.ensures.tokens
    c.in_ok-add_to-in-Ok-Some.ensures.defines
    c.keeps_fresh-fresh.ensures in
    (step.utf8, refl, step)

pub place-at-requires-clause-within : goal.place-at-requires-clause-within
place-at-requires-clause-within c =
    omega (arith, c.in-Err.ensures.within, within (goal.at.place-at-requires-clause-within c).At-pieces)

pub returns-in-Err : goal.returns-in-Err
returns-in-Err c =
    (refl, is_first_fault c.utf8.text c.pieces.invariant.2 c.in-Err.number c.place-at.result c.in-Err.fault.now c.in-Err.ensures c.place-at.ensures)
