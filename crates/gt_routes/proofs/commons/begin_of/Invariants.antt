use Rattle.std.specs.Prelude.{◌∷◌, replicate}
use Rattle.gt_routes.proofs.Begins.{IsOnWay, IsDeep}
use Rattle.gt_routes.proofs.commons.begin_of.Given as goal

abbrev pub invariant-parts : goal.invariant-parts
invariant-parts l = IsOnWay l.program l.fn.at l.common l.member (l.member ∷ replicate l.zeros 0) l.cursor × IsDeep l.program l.zeros l.cursor.ty.now
