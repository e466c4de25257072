use Rattle.std.proofs.Common.{◌≡◌, take, length, refl, ap, ◌∙◌, arith, append-nil, rules}
use Rattle.std.proofs.lemmas.List.{take_all}
use Rattle.gt_lines.proofs.RunLemmas.{SoFar-none, SoFar-more, RunsLines-not_written, RunsLines-no_text, RunsLines-no_answer}
use Rattle.gt_lines.proofs.CallLemmas.{no_calls, calls_more, count_more, calls_not_written, calls_no_text, calls_no_answer}
use Rattle.gt_lines.proofs.lines.run_lines.Goals as goal

pub returns-in-Err-NotWritten-clause-ran : goal.returns-in-Err-NotWritten-clause-ran
returns-in-Err-NotWritten-clause-ran g c state stands =
    let so = c.loop-line.invariant.ran state stands in
    let ran = c.in-Err-NotWritten.ensures.ran so.0 so.2 in
    (ran.0, RunsLines-not_written _ _ c.loop-line.invariant.schema _ _ _ c.loop-line-test.true c.line-item.is _ _ _ _ _ _ _ _ so.1 _ c.in-Err-NotWritten.field-0-is ran.1, ran.2)

pub returns-in-Err-NoAnswer-clause-ran : goal.returns-in-Err-NoAnswer-clause-ran
returns-in-Err-NoAnswer-clause-ran g c state stands =
    let so = c.loop-line.invariant.ran state stands in
    let ran = c.in-Err-NoAnswer.ensures.ran so.0 so.2 in
    (ran.0, RunsLines-no_answer _ _ c.loop-line.invariant.schema _ _ _ c.loop-line-test.true c.line-item.is _ _ _ _ _ _ _ _ so.1 _ c.in-Err-NoAnswer.field-0-is ran.1, ran.2)

pub returns-in-Err-NoText-clause-ran : goal.returns-in-Err-NoText-clause-ran
returns-in-Err-NoText-clause-ran g c state stands =
    let so = c.loop-line.invariant.ran state stands in
    let ran = c.in-Err-NoText.ensures.ran so.0 so.2 in
    (ran.0, RunsLines-no_text _ _ c.loop-line.invariant.schema _ _ _ c.loop-line-test.true c.line-item.is _ _ _ _ _ _ _ _ so.1 _ c.in-Err-NoText.field-0-is ran.1, ran.2)

pub loop-line-preserved : goal.loop-line-preserved
loop-line-preserved g c =
    let inv = c.loop-line.invariant in
    record {
      ran = λ state stands.
          let so = inv.ran state stands in
          let ran = c.in-Ok.ensures.ran so.0 so.2 in
          (ran.0, SoFar-more _ _ inv.schema _ _ _ c.loop-line-test.true c.line-item.is _ _ _ _ _ _ _ _ so.1 _ ran.1, ran.2);
      count = count_more g.K.Sink.writes _ _ _ _ _ _ c.loop-line-test.true c.line-item.is _ _ inv.count inv.calls _ c.in-Ok.ensures.calls;
      calls = calls_more g.K.Sink.writes _ _ _ _ _ _ c.loop-line-test.true c.line-item.is _ _ inv.count inv.calls _ c.in-Ok.ensures.calls;
      session = search rules;
      schema = search rules;
      files = search rules;
      later = search rules;
    }

pub returns-clause-ran : goal.returns-clause-ran
returns-clause-ran g c state stands =
    let lines = c.args.lines.now in
    let so = c.loop-line.invariant.ran state stands in
    let all : take c.loop-line.line-index lines ≡ lines = take_all c.loop-line.line-index lines (omega arith) in
    (so.0, ((take c.loop-line.line-index lines, append-nil (take c.loop-line.line-index lines) ∙ all, so.1.run), so.1.written), so.2)

pub loop-line-init : goal.loop-line-init
loop-line-init g c =
    record {
      ran = λ state stands. (state, SoFar-none _ _ _ _ _ c.requires.none_yet, stands);
      count = ap length c.requires.none_yet;
      calls = no_calls g.K.Sink.writes _ _ _ c.requires.none_yet;
      session = c.requires.session;
      schema = refl;
      files = refl;
      later = omega arith;
    }

pub returns-in-Err-NotWritten-clause-calls : goal.returns-in-Err-NotWritten-clause-calls
returns-in-Err-NotWritten-clause-calls g c =
    calls_not_written g.K.Sink.writes _ _ _ _ _ _ c.loop-line-test.true c.line-item.is _ _ c.loop-line.invariant.count c.loop-line.invariant.calls _ c.in-Err-NotWritten.field-0-is c.in-Err-NotWritten.ensures.calls

pub returns-in-Err-NoAnswer-clause-calls : goal.returns-in-Err-NoAnswer-clause-calls
returns-in-Err-NoAnswer-clause-calls g c =
    calls_no_answer g.K.Sink.writes _ _ _ _ _ _ c.loop-line-test.true c.line-item.is _ _ c.loop-line.invariant.count c.loop-line.invariant.calls _ c.in-Err-NoAnswer.field-0-is c.in-Err-NoAnswer.ensures.calls

pub returns-in-Err-NoText-clause-calls : goal.returns-in-Err-NoText-clause-calls
returns-in-Err-NoText-clause-calls g c =
    calls_no_text g.K.Sink.writes _ _ _ _ _ _ c.loop-line-test.true c.line-item.is _ _ c.loop-line.invariant.count c.loop-line.invariant.calls _ c.in-Err-NoText.field-0-is c.in-Err-NoText.ensures.calls
