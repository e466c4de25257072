use Rattle.std.proofs.Common.{◌≡◌, ◌≤◌, length}
use Rattle.gt_next.specs.States.{State}
use Rattle.gt_session.specs.Sessions.{StandsFor, IsSession}
use Rattle.gt_lines.specs.Calls.{called, AreWritten}
use Rattle.gt_lines.proofs.RunLemmas.{SoFar}
use Rattle.gt_lines.proofs.lines.run_lines.Given as goal

-- the lines so far were run, and the text of their answers was written
abbrev pub invariant-loop-line : goal.invariant-loop-line
invariant-loop-line g l =
    record {
      ran : (state : State) → StandsFor l.fn.s (g.F.Files.told l.fn.files) state
          → (t : State) × SoFar l.fn.s.schema l.lines l.line-index state t l.answers.items (g.K.Sink.written l.fn.out) (g.K.Sink.written l.out) × StandsFor l.s (g.F.Files.told l.files) t;
      count : length l.answers.items ≡ l.line-index;
      calls : AreWritten g.K.Sink.writes l.fn.out (called l.lines l.answers.items) l.out;
      session : IsSession l.s;
      schema : l.s.schema ≡ l.fn.s.schema;
      files : l.files ≡ l.fn.files;
      later : g.K.Sink.faults l.fn.out ≤ g.K.Sink.faults l.out;
    }
