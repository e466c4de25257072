-- Which calls of a store or a sink in memory are to fail, counted from 1.
use Rattle.std.specs.Prelude.{ℕ, ◌+◌, ◌-◌, ◌^◌, ◌==◌, min, Bool, if◌then◌else◌}
use Rattle.std.specs.List.{list_any}
use Rattle.gt_io.specs.declared.schedule.Schedule.{Schedule}

-- the number of the next call; the count stops at the end of its type
abbrev pub next_call : Schedule → ℕ
next_call s = min (s.calls + 1) (2 ^ 64 - 1)

-- the call of this number is to fail
abbrev pub fails_at : Schedule → ℕ → Bool
fails_at s call = list_any (λ n. n == call) s.fails.items

-- the next call is to fail
abbrev pub next_fails : Schedule → Bool
next_fails s = fails_at s (next_call s)

-- the schedule after the next call: one call more, and one failure more where that was to fail
abbrev pub after_call : Schedule → Schedule
after_call s = record s { calls = next_call s; faults = if next_fails s then min (s.faults + 1) (2 ^ 64 - 1) else s.faults }
