-- Files in memory, and what one read of them is.
use Rattle.std.specs.Prelude.{◌≡◌, ℕ, Bool, true, false, List, Option, Result, Err}
use Rattle.gt_io.specs.declared.fail.ReadFail.{ReadFail}
use Rattle.gt_io.specs.declared.fail.ReadFail.TheVariants.{Failed}
use Rattle.gt_io.specs.declared.mem_files.MemFiles.{MemFiles}
use Rattle.gt_io.specs.Held.{Held}
use Rattle.gt_io.specs.Reads.{ReadsWithin}
use Rattle.gt_io.specs.Schedules.{next_fails, after_call}

-- the files that are held
abbrev pub files_of : MemFiles → Held
files_of f = f.shelf

-- the numbers of the calls that are to fail
abbrev pub scheduled_of : MemFiles → List ℕ
scheduled_of f = f.schedule.fails.items

-- how many calls were made
abbrev pub calls_of : MemFiles → ℕ
calls_of f = f.schedule.calls

-- how many calls have failed
abbrev pub faults_of : MemFiles → ℕ
faults_of f = f.schedule.faults

-- the answer of a read: a call that is to fail does, and each other answers what is held
abbrev pub AnswersRead : (fails : Bool) → Held → List ℕ → ℕ → Result (Option (List ℕ)) ReadFail → Type 0
AnswersRead true held name limit result = result ≡ Err Failed
AnswersRead false held name limit result = ReadsWithin held name limit result

-- One read: its answer, by the schedule and by what is held; and the store after it, with the same files and one call more.
pub record IsRead (before : MemFiles) (name : List ℕ) (limit : ℕ) (result : Result (Option (List ℕ)) ReadFail) (after : MemFiles) : Type 0 where
  pub answer : AnswersRead (next_fails before.schedule) (files_of before) name limit result
  pub files : files_of after ≡ files_of before
  pub schedule : after.schedule ≡ after_call before.schedule
