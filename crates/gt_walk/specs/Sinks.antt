-- What a sink goes through when it takes edges one after another.
use Rattle.std.specs.Prelude.{◌≡◌, List, [], ◌∷◌}
use Rattle.gt_walk.specs.Rows.{Edge}

-- each edge can be taken, whatever the calls before it leave
abbrev pub CanTake : {S : Type 0} → (takes : S → Edge → Type 0) → (leaves : S → Edge → S → Type 0) → S → List Edge → Type 0
CanTake takes leaves s [] = Unit {0}
CanTake takes leaves s (e ∷ es) = takes s e × ((t : _) → leaves s e t → CanTake takes leaves t es)

-- one call for each edge, in order, leads from the one to the other
abbrev pub Took : {S : Type 0} → (leaves : S → Edge → S → Type 0) → S → List Edge → S → Type 0
Took leaves s [] t = t ≡ s
Took {S} leaves s (e ∷ es) t = (next : S) × leaves s e next × Took leaves next es t
