use Rattle.std.proofs.Common.{map}
use Rattle.gt_store.proofs.Loops.{FieldsLoop}
use Rattle.gt_store.proofs.storing.store_roots.Given as goal

abbrev pub invariant-loop-i : goal.invariant-loop-i
invariant-loop-i l = FieldsLoop l.program l.layouts.structures 0 (map (λ r. r.ty) l.roots) l.spots l.values l.i l.initial.space l.space
