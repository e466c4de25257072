-- What the names on a known way are: those of the fields by which it leads.
use Rattle.std.specs.Prelude.{◌≡◌, ◌↔◌, ℕ, List, Some, map}
use Rattle.gt_types.specs.declared.types.TypeId.{TypeId}
use Rattle.gt_types.specs.declared.types.Ty.{Ty}
use Rattle.gt_types.specs.declared.program.Field.{Field}
use Rattle.gt_types.specs.declared.program.Structure.{Structure}
use Rattle.gt_types.specs.declared.program.Program.{Program}
use Rattle.gt_types.specs.Paths.{Leads, by_name, by_place}
use Rattle.gt_starts.specs.Ways.{known, way_to, LeadsAlong}

-- a place and a name
abbrev pub Step : Type 0
Step = ℕ × List ℕ

-- a step to the field that has this place and this name
abbrev pub by_both : Step → Structure → Field → Type 0
by_both step s f = by_place step.0 s f × by_name step.1 s f

-- A path of names leads from a structure to the field to which a path of places does: step by step, the name is that of the field at the
-- place.
abbrev pub LeadsAs : Program → TypeId → List ℕ → List (List ℕ) → Ty → Type 0
LeadsAs program node places names type = (steps : List Step) × (map (λ (s : Step). s.0) steps ≡ places) × (map (λ (s : Step). s.1) steps ≡ names) × Leads program by_both node steps type

-- where places lead from a structure to a field and the way there is known, the way leads there by name
abbrev pub WaysLead : Program → Type 0
WaysLead program = (node : TypeId) (places : List ℕ) (type : Ty) (way : List (List ℕ)) → Leads program by_place node places type → way_to program (Some node) places ≡ known way
    → Leads program by_name node way type

-- and a path of names may lead along it just where it leads to that field
abbrev pub NoOthersLead : Program → Type 0
NoOthersLead program = (node : TypeId) (places : List ℕ) (type : Ty) (way names : List (List ℕ)) (last : List ℕ) → Leads program by_place node places type → way_to program (Some node) places ≡ known way
    → LeadsAlong (known way) last names ↔ LeadsAs program node places names type
