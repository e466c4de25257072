-- A sink in memory, and what one write to it is.
use Rattle.std.specs.Prelude.{◌≡◌, ℕ, Bool, true, false, List, ◌++◌, Result, Ok, Err}
use Rattle.gt_io.specs.declared.fail.WriteFail.{WriteFail}
use Rattle.gt_io.specs.declared.fail.WriteFail.TheVariants.{Failed, Memory}
use Rattle.gt_io.specs.declared.mem_sink.MemSink.{MemSink}
use Rattle.gt_io.specs.Schedules.{next_fails, after_call}

-- the bytes that were taken
abbrev pub bytes_of : MemSink → List ℕ
bytes_of s = s.bytes

-- the numbers of the calls that are to fail
abbrev pub scheduled_of : MemSink → List ℕ
scheduled_of s = s.schedule.fails.items

-- how many calls were made
abbrev pub calls_of : MemSink → ℕ
calls_of s = s.schedule.calls

-- how many calls have failed
abbrev pub faults_of : MemSink → ℕ
faults_of s = s.schedule.faults

-- the answer of a write and the bytes after it: a call that is to fail does, and takes nothing; each other takes all, or nothing when out of memory
abbrev pub AnswersWrite : (fails : Bool) → List ℕ → List ℕ → Result (Unit {0}) WriteFail → List ℕ → Type 0
AnswersWrite true old bytes result new = (result ≡ Err Failed) × (new ≡ old)
AnswersWrite false old bytes (Ok done) new = new ≡ old ++ bytes
AnswersWrite false old bytes (Err Failed) new = ⊥
AnswersWrite false old bytes (Err Memory) new = new ≡ old

-- One write: its answer, by the schedule; and the sink after it, with the bytes that it took and one call more.
pub record IsWrite (before : MemSink) (bytes : List ℕ) (result : Result (Unit {0}) WriteFail) (after : MemSink) : Type 0 where
  pub answer : AnswersWrite (next_fails before.schedule) (bytes_of before) bytes result (bytes_of after)
  pub schedule : after.schedule ≡ after_call before.schedule
