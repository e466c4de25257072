use Rattle.std.proofs.Common.{◌≡◌, ◌+◌, drop}
use Rattle.gt_scope.specs.Declarations.{declare_files}
use Rattle.gt_scope.proofs.declaring.Declaring.declare_files.Given as goal

abbrev pub invariant-loop-place : goal.invariant-loop-place
invariant-loop-place l = declare_files (l.place + 1) (drop l.place l.files) l.self ≡ declare_files 1 l.files l.fn.self
