use Rattle.std.specs.Prelude.{ℕ, List}
use Rattle.gt_io.specs.declared.sure_sink.SureSink.{SureSink}

-- the bytes that were taken
abbrev pub sure_bytes_of : SureSink → List ℕ
sure_bytes_of s = s.bytes
