use Rattle.std.proofs.Common.{sym, ap, ◌∙◌}
use Rattle.gt_script.specs.Values.{is_identifier_of}
use Rattle.gt_script.proofs.AsciiNames.{name_identifier}
use Rattle.gt_script.proofs.naming.is_ascii_name.Goals as goal

pub returns-then-starts_ascii_name-clause-name : goal.returns-then-starts_ascii_name-clause-name
returns-then-starts_ascii_name-clause-name c = λ all.
    ap is_identifier_of c.in-Some.ensures
    ∙ name_identifier c.in-Some.first c.in-Some.others.now (sym c.starts_ascii_name.ensures ∙ c.if-starts_ascii_name.true) (sym c.all_continue_ascii_name.ensures ∙ all)
