use Rattle.std.proofs.Common.{◌≡◌, ◌≢◌, [], Some, length, sym, ap, ◌∙◌, arith}
use Rattle.std.proofs.lemmas.Bool.{eqb-true}
use Rattle.std.proofs.lemmas.List.{nil_from_length}
use Rattle.gt_script.proofs.Outcomes.{starts, skips, goes_on, refused, too_long, is_done}
use Rattle.gt_script.proofs.parsing.read_script.Goals as goal

pub loop-rest-init : goal.loop-rest-init
loop-rest-init c = record { so_far = rw c.new-lines.ensures.empty (starts c.args.text.now); utf8 = c.requires.utf8 }

pub returns-in_default : goal.returns-in_default
returns-in_default c =
    refused c.args.text.now c.loop-rest.lines c.loop-rest.number c.loop-rest.rest.now c.first_line.result.0.now c.first_line.result.1.now c.loop-rest.invariant.so_far c.first_line.ensures.line c.first_line.ensures.shorter
    (sym c.in_ok-said.ensures ∙ c.in_default.is)

pub loop-rest-preserved-in_default-said : goal.loop-rest-preserved-in_default-said
loop-rest-preserved-in_default-said c = record {
  so_far =
      skips c.args.text.now c.loop-rest.lines c.loop-rest.number c.loop-rest.rest.now c.first_line.result.0.now c.first_line.result.1.now c.loop-rest.invariant.so_far c.first_line.ensures.line c.first_line.ensures.shorter
      (sym c.in_ok-said.ensures ∙ c.in-Some.is ∙ ap Some c.in_default-said.is);
  utf8 = λ known. (c.first_line.ensures.utf8 (c.loop-rest.invariant.utf8 known)).1;
}

pub returns-then-len-eq-MAX_COMMANDS : goal.returns-then-len-eq-MAX_COMMANDS
returns-then-len-eq-MAX_COMMANDS c =
    let full : length c.loop-rest.lines ≡ 1000000 = omega (arith, c.len.ensures.items, c.if-len-eq-MAX_COMMANDS.true) in
    too_long c.args.text.now c.loop-rest.lines c.loop-rest.number c.loop-rest.rest.now c.first_line.result.0.now c.first_line.result.1.now c.loop-rest.invariant.so_far c.first_line.ensures.line c.first_line.ensures.shorter
    c.in-Some-said.line (sym c.in_ok-said.ensures ∙ c.in-Some.is ∙ ap Some c.in-Some-said.is) full

pub loop-rest-preserved : goal.loop-rest-preserved
loop-rest-preserved c =
    let room : length c.loop-rest.lines ≢ 1000000 = omega (arith, c.len.ensures.items, c.if-len-eq-MAX_COMMANDS.false) in
    record {
      so_far = rw c.in_ok-push.ensures.added
          (goes_on c.args.text.now c.loop-rest.lines c.loop-rest.number c.loop-rest.rest.now c.first_line.result.0.now c.first_line.result.1.now c.loop-rest.invariant.so_far c.first_line.ensures.line c.first_line.ensures.shorter
          c.in-Some-said.line (sym c.in_ok-said.ensures ∙ c.in-Some.is ∙ ap Some c.in-Some-said.is) room);
      utf8 = λ known. (c.first_line.ensures.utf8 (c.loop-rest.invariant.utf8 known)).1;
    }

pub returns : goal.returns
returns c =
    let none : c.loop-rest.rest.now ≡ [] = nil_from_length c.loop-rest.rest.now (eqb-true (length c.loop-rest.rest.now) 0 (sym c.loop-rest-test.ensures)) in
    is_done c.args.text.now c.loop-rest.lines c.loop-rest.number c.loop-rest.rest.now c.loop-rest.invariant.so_far none
