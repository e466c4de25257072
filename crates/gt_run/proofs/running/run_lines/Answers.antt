use Rattle.std.proofs.Common.{Some, ap, sym, subst}
use Rattle.gt_front.specs.Order.{whole}
use Rattle.gt_run.specs.Outputs.{output}
use Rattle.gt_run.specs.Ended.{Ended}
use Rattle.gt_run.specs.declared.ending.Ending.{Ending}
use Rattle.gt_run.proofs.EndLemmas.{Ended-script, Ends-of}
use Rattle.gt_run.proofs.running.run_lines.Goals as goal

pub returns-clause-ended : goal.returns-clause-ended
returns-clause-ended g c = λ words call opening asks opens stands.
    let told = g.F.Files.told c.args.files.now in
    let schema = c.args.session.schema in
    let out = output g.K.Sink.writes g.K.Sink.written c.args.out.now c.run_script-end.new.out in
    let answers = c.run_script-end.new.answers.items in
    let range = c.run_script-end.new.space in
    let E : Ending → Type 0 = λ ending. Ended words told (Some (whole asks.texts)) out ending answers range in
    Ends-of words told (Some (whole asks.texts)) out c.of.result answers range c.of-2.result
    c.of-2.ensures.status (ap (λ a. a.items) c.of-2.ensures.answers) c.of-2.ensures.refusal
    (subst E (sym c.of.ensures)
    (Ended-script words told call schema.program schema.layouts c.args.lines.now stands.holds.schema.laid asks c.requires.built opening opens answers out c.args.space.now range
    c.run_script-end.result c.requires.empty (c.run_script-end.ensures.ran opening stands) c.run_script-end.ensures.calls))
