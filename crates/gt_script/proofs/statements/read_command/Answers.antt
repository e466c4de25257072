use Rattle.std.proofs.Common.{◌≡◌, Option, Some, None, ap, subst, ◌∙◌, rules}
use Rattle.std.specs.Prelude.{IfOk}
use Rattle.gt_script.specs.declared.command.Line.{Line}
use Rattle.gt_split.specs.Texts.{◌>>=◌}
use Rattle.gt_script.specs.Commands.{line_of}
use Rattle.gt_split.specs.Cutting.{few_of}
use Rattle.gt_script.specs.Scanning.{spoken_at}
use Rattle.gt_script.proofs.ManyWords.{spoken_few}
use Rattle.gt_script.proofs.statements.read_command.Goals as goal

pub returns-then-not-done : goal.returns-then-not-done
returns-then-not-done c =
    let none : None ≡ few_of c.args.text.now = rw c.if-not-done.true at c.in_ok-done.ensures in
    ap (λ o. o >>= line_of) none ∙ spoken_few c.args.text.now

pub returns : goal.returns
returns c =
    let some : Some c.read_words.new.words.items ≡ few_of c.args.text.now = rw c.if-not-done.false at c.in_ok-done.ensures in
    let lent : c.deref.result.now ≡ c.read_words.new.words.items = search rules in
    let same : line_of c.deref.result.now ≡ spoken_at c.args.text.now = ap line_of lent ∙ ap (λ o. o >>= line_of) some ∙ spoken_few c.args.text.now in
    subst (λ (o : Option Line). IfOk c.line.result (λ found. found ≡ o)) same c.line.ensures
