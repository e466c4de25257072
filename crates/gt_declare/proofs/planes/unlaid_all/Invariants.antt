use Rattle.std.proofs.Common.{◌≡◌, length}
use Rattle.std.specs.List.{All}
use Rattle.gt_layout.specs.declared.planes.Plane.{Plane}
use Rattle.gt_declare.proofs.planes.unlaid_all.Given as goal

abbrev pub invariant-loop : goal.invariant-loop
invariant-loop l = record { all : length l.known.items ≡ l.index; unlaid : All (λ (plane : Plane). plane.align ≡ 0) l.known.items }
