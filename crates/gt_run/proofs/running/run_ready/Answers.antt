use Rattle.std.proofs.Common.{◌≡◌, List, Some, All, inr, refl, sym, subst, rules}
use Rattle.gt_types.specs.declared.program.Program.{Program}
use Rattle.gt_space.specs.Range.{Range}
use Rattle.gt_script.specs.declared.command.Line.{Line}
use Rattle.gt_script.specs.Outcome.{Parsed}
use Rattle.gt_headers.specs.Headers.{Declares}
use Rattle.gt_front.specs.Order.{whole}
use Rattle.gt_next.specs.Laws.{IsBuilt}
use Rattle.gt_run.specs.Comes.{HasUnbuilt}
use Rattle.gt_run.specs.Outputs.{output}
use Rattle.gt_run.specs.Ended.{Ends}
use Rattle.gt_run.specs.Runs.{Opens}
use Rattle.gt_run.proofs.running.run_ready.Goals as goal

pub returns-then-not-are_built-clause-ended : goal.returns-then-not-are_built-clause-ended
returns-then-not-are_built-clause-ended g c = λ words asks.
    let same : c.as_slice.result.now ≡ c.args.ready.lines = search rules in
    let unbuilt : HasUnbuilt c.as_slice.result.now = rw c.if-not-are_built.true at c.are_built.ensures in
    let U : List Line → Type 0 = λ lines. HasUnbuilt lines in
    let told = g.F.Files.told c.args.files.now in
    let E : Range → Type 0 = λ range. Ends words told (Some (whole asks.texts)) (output g.K.Sink.writes g.K.Sink.written c.args.out.now c.refuse_unbuilt.new.out) c.refuse_unbuilt.result range in
    subst E (sym c.requires.empty) (c.refuse_unbuilt.ensures.ended words told asks.texts asks.reads.called
    (inr (refl, c.args.ready.call, c.args.ready.program, c.args.ready.lines, asks, refl, subst U same unbuilt)))

pub run_lines-requires-clause-session : goal.run_lines-requires-clause-session
run_lines-requires-clause-session g c =
    let told = g.F.Files.told c.args.files.now in
    let opened = c.in-Ok.ensures.opens told in (told, opened.0, opened.2)

pub run_lines-requires-clause-built : goal.run_lines-requires-clause-built
run_lines-requires-clause-built g c =
    let lines : c.as_slice.result.now ≡ c.args.ready.lines = search rules in
    let again : c.as_slice-in-Ok.result.now ≡ c.args.ready.lines = search rules in
    let built : All (λ (line : Line). IsBuilt line.command) c.as_slice.result.now = rw c.if-not-are_built.false at c.are_built.ensures in
    let A : List Line → Type 0 = λ xs. All (λ (line : Line). IsBuilt line.command) xs in
    subst A (sym again) (subst A lines built)

pub returns-in-Ok-clause-ended : goal.returns-in-Ok-clause-ended
returns-in-Ok-clause-ended g c = λ words asks.
    let told = g.F.Files.told c.args.files.now in
    let ready = c.args.ready in
    let opened = c.in-Ok.ensures.opens told in
    let again : c.as_slice-in-Ok.result.now ≡ ready.lines = search rules in
    let L : List Line → Type 0 = λ lines. Parsed asks.texts.script lines in
    let P : Program → Type 0 = λ program. Declares asks.texts.headers program in
    let O : Program → Type 0 = λ program. Opens program ready.call.settings told opened.0 in
    let program = sym c.in-Ok.ensures.program in
    c.run_lines.ensures.ended words ready.call opened.0
    (record { texts = asks.texts; reads = asks.reads; declares = subst P program asks.declares; parsed = subst L (sym again) asks.parsed }) (subst O program opened.1) opened.2
