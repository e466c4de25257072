use Rattle.std.proofs.Common.{◌≡◌, ◌∙◌, map, ap, sym, subst, encode_utf8_all}
use Rattle.std.specs.Prelude.{Result, Option, IfOk, IfSome}
use Rattle.std.proofs.lemmas.Result.{IfOk-weaker, MatchResult-weaker}
use Rattle.clap.specs.Simple.{app_of}
use Rattle.clap.specs.Walk.{texts}
use Rattle.clap.specs.Faults.{is_simple_and_free}
use Rattle.gt_words.specs.declared.call.Call.{Call}
use Rattle.gt_words.specs.Calls.{call_of}
use Rattle.gt_words.specs.Ranges.{IsInRange}
use Rattle.gt_words.specs.Commands.{our_app}
use Rattle.gt_words.proofs.Ours.{accepted, refuses, is_ours_free}
use Rattle.gt_words.proofs.InRange.{call_in}
use Rattle.gt_words.proofs.words.read_words.Goals as goal

-- what words ask for is in its range
ranged : {E : Type 0} (words : _) (result : Result (Option Call) E) → IfOk result (λ found. found ≡ call_of words) → IfOk result (λ found. IfSome found IsInRange)
ranged words result asked = IfOk-weaker result _ _ (λ found e. subst (λ call. IfSome call IsInRange) (sym e) (call_in words)) asked

pub returns-in-Ok : goal.returns-in-Ok
returns-in-Ok c =
    let ours : app_of c.in_ok-command.command ≡ our_app = c.in_ok-command.ensures in
    let same : texts c.as_slice.result.now ≡ map encode_utf8_all c.args.words.now = ap texts c.as_slice.ensures.value ∙ c.in_ok-texts.ensures in
    let none = c.in-Ok.ensures.kinds (ap is_simple_and_free ours ∙ is_ours_free) in
    let is = accepted (app_of c.in_ok-command.command) (texts c.as_slice.result.now) c.args.words.now c.in-Ok.matches ours same c.in-Ok.ensures.matches none in
    let asked = IfOk-weaker c.found_call.result _ (λ found. found ≡ call_of c.args.words.now) (λ found h. h ∙ is) c.found_call.ensures in
    record { call = asked; ranges = ranged c.args.words.now c.found_call.result asked }

pub returns : goal.returns
returns c =
    let ours : app_of c.in_ok-command.command ≡ our_app = c.in_ok-command.ensures in
    let same : texts c.as_slice.result.now ≡ map encode_utf8_all c.args.words.now = ap texts c.as_slice.ensures.value ∙ c.in_ok-texts.ensures in
    let kinds = c.in-Err.ensures.kinds (ap is_simple_and_free ours ∙ is_ours_free) in
    let refused = refuses (app_of c.in_ok-command.command) (texts c.as_slice.result.now) c.args.words.now c.in-Err.error ours same in
    let asked : IfOk c.refuse.result (λ found. found ≡ call_of c.args.words.now) = MatchResult-weaker c.refuse.result c.refuse.ensures (λ found h. h.0 ∙ sym (refused h.1 kinds)) (λ _ _. tt) in
    record { call = asked; ranges = ranged c.args.words.now c.refuse.result asked }
