use Rattle.std.proofs.Common.{Some, sym, ap, subst, ◌∙◌}
use Rattle.std.specs.Option.{option_map}
use Rattle.std.specs.Str.{IsUtf8}
use Rattle.gt_script.specs.Language.{is_passed_over}
use Rattle.gt_script.proofs.Decoding.{said_is}
use Rattle.gt_script.proofs.statements.read_text.Goals as goal

pub returns-then-is_passed_over : goal.returns-then-is_passed_over
returns-then-is_passed_over c =
    said_is c.args.text.now _ (subst IsUtf8 c.text.ensures.text c.text.ensures.utf8) (c.if-is_passed_over.ensures ∙ ap is_passed_over (c.as_bytes.ensures.value ∙ c.text.ensures.text))

pub returns-in-None : goal.returns-in-None
returns-in-None c =
    ap (option_map Some) (sym c.in-None.is ∙ c.in_ok-read_command.ensures)
    ∙ said_is c.args.text.now _ (subst IsUtf8 c.text.ensures.text c.text.ensures.utf8) (c.if-is_passed_over.ensures ∙ ap is_passed_over (c.as_bytes.ensures.value ∙ c.text.ensures.text))

pub returns-in-Some : goal.returns-in-Some
returns-in-Some c =
    ap (option_map Some) (sym c.in-Some.is ∙ c.in_ok-read_command.ensures)
    ∙ said_is c.args.text.now _ (subst IsUtf8 c.text.ensures.text c.text.ensures.utf8) (c.if-is_passed_over.ensures ∙ ap is_passed_over (c.as_bytes.ensures.value ∙ c.text.ensures.text))
