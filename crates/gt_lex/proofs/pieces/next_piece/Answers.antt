use Rattle.std.proofs.Common.{◌-◌, length, arith, sym, ◌∙◌}
use Rattle.std.specs.Str.{chars}
use Rattle.gt_lex.proofs.Opening.{text_ends}
use Rattle.gt_lex.proofs.Front.{IsHashed, hashed, next_directive, refused_directive, next_part, refused_open, refused_number}
use Rattle.gt_lex.proofs.pieces.next_piece.Goals as goal
use Rattle.gt_lex.proofs.pieces.next_piece.Goals.{After-tail}

hash_is : (c : After-tail) → IsHashed c.args.fresh c.args.text.now c.tail.result.now
hash_is c = hashed c.args.fresh c.args.text.now c.tail.result.now c.utf8.text c.tail.utf8 (sym c.text_start.ensures ∙ c.in-Directive.is) c.tail.ensures

pub directive-requires-clause-within : goal.directive-requires-clause-within
directive-requires-clause-within c = let here = hash_is c in omega (arith, here.long, c.requires.within)

pub returns-in-End : goal.returns-in-End
returns-in-End c = text_ends c.args.fresh (chars c.args.text.now) (sym c.text_start.ensures ∙ c.in-End.is)

pub returns-in-BadNumber : goal.returns-in-BadNumber
returns-in-BadNumber c = refused_number c.args.fresh c.args.text.now (sym c.text_start.ensures ∙ c.in-BadNumber.is)

pub returns-in-Ok : goal.returns-in-Ok
returns-in-Ok c =
    next_directive c.args.whole c.args.fresh c.args.text.now c.tail.result.now c.in-Ok.rest.now c.in-Ok.constant c.requires.within (hash_is (goal.at.returns-in-Ok c).After-tail) c.in-Ok.ensures

pub returns-in-Err : goal.returns-in-Err
returns-in-Err c =
    refused_directive c.args.fresh c.args.text.now c.tail.result.now c.in-Err.open_at.now c.tail.utf8 (hash_is (goal.at.returns-in-Err c).After-tail) c.in-Err.ensures

pub returns-in-Some : goal.returns-in-Some
returns-in-Some c =
    rw c.finish_part.ensures
    (next_part (c.args.whole - length c.args.text.now) c.args.fresh c.in-Some.newline c.args.text.now c.in-Some.rest.now c.text_start.result c.in-Some.ensures.utf8 (sym c.text_start.ensures) (sym c.in-Some.ensures.rest))

pub returns-in-None : goal.returns-in-None
returns-in-None c =
    rw c.open_fault.ensures
    (refused_open c.args.fresh c.args.text.now c.text_start.result (sym c.text_start.ensures) c.in_default.not-End c.in_default.not-BadNumber c.in_default.not-Directive (sym c.in-None.ensures.rest))
