-- No promise: what the proofs of visiting speak of.
use Rattle.gt_walk.specs.Rows.{Frame}
use Rattle.gt_walk.specs.declared.frames.Frame.{Frame as CodeFrame}

-- where a row stands, as the program holds it
abbrev pub frame_of : CodeFrame → Frame
frame_of f = record { at = f.at; here = f.here; outer = f.outer; outermost = f.outermost }
