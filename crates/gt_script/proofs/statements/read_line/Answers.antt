use Rattle.std.proofs.Common.{subst, sym, ap, ◌∙◌}
use Rattle.std.specs.Str.{IsUtf8}
use Rattle.gt_script.specs.Scanning.{said_at, line_at}
use Rattle.gt_script.proofs.Decoding.{utf8_stripped, said_none}
use Rattle.gt_script.proofs.statements.read_line.Goals as goal

pub text_of-requires : goal.text_of-requires
text_of-requires c = λ known. subst IsUtf8 (sym c.without_return.ensures) (utf8_stripped c.args.bytes.now (c.requires known))

pub returns-in-None : goal.returns-in-None
unfolding line_at
returns-in-None c = said_none c.without_return.result.now c.in-None.ensures ∙ ap said_at c.without_return.ensures
