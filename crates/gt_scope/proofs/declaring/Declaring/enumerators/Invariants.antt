use Rattle.std.proofs.Common.{◌≡◌, pos, Some, drop}
use Rattle.gt_scope.specs.Declarations.{enumerators}
use Rattle.gt_scope.proofs.declaring.Declaring.enumerators.Given as goal

abbrev pub invariant-loop-piece : goal.invariant-loop-piece
invariant-loop-piece l = enumerators l.file l.count (drop l.piece-index l.pieces) l.self ≡ enumerators l.file (Some (pos 0)) l.pieces l.fn.self
