-- Where paths of names lead.
use Rattle.std.proofs.Common.{◌≡◌, ℕ, zero, suc, ◌<◌, List, [], ◌∷◌, drop, length, ap, sym, subst, ◌∙◌, arith, Option, Some, None}
use Rattle.std.specs.Prelude.{slice_get, MatchOption}
use Rattle.std.specs.Str.{bytes_eq}
use Rattle.std.specs.List.{position_from}
use Rattle.gt_types.specs.declared.types.TypeId.{TypeId}
use Rattle.gt_types.specs.declared.program.Structure.{Structure}
use Rattle.gt_types.specs.declared.program.Program.{Program}
use Rattle.gt_types.specs.Contains.{HasStructure, itself}
use Rattle.gt_layout.specs.declared.planes.Plane.{Plane}
use Rattle.gt_tree.specs.Scopes.{◌then◌}
use Rattle.gt_value.specs.declared.sources.Cell.{Cell}
use Rattle.gt_value.specs.Reading.{Place, place, place_field, step_to, walk_on}

-- a cell is the place, or there is none
abbrev pub IsCell : Option Cell → Option Place → Type 0
IsCell result p = MatchOption result (p ≡ None) (λ c. p ≡ Some (place c.ty.now c.at))

pub same-cell : (result : Option Cell) (p q : Option Place) → p ≡ q → IsCell result q → IsCell result p
same-cell result p q e h = subst (λ x. IsCell result x) (sym e) h

pub no-cell : (result : Option Cell) (p : Option Place) → result ≡ None → p ≡ None → IsCell result p
no-cell result p e h = subst (λ r. IsCell r p) (sym e) h

-- where the field of a name lies, by its place among the fields
pub step-found : (program : Program) (planes : List Plane) (end : ℕ) (node : TypeId) (at : ℕ) (name : List ℕ) (s : Structure) (plane : Plane) (o : Option ℕ) → HasStructure program node s → slice_get planes node.0 ≡ Some plane
    → position_from (λ f. bytes_eq f.name name) 0 s.fields ≡ o → step_to program planes end node at name ≡ (o then λ i. place_field s.fields plane.fields end at i)
step-found program planes end node at name s plane o has laid found =
    ap (λ o. o then λ x. slice_get planes node.0 then λ p. position_from (λ f. bytes_eq f.name name) 0 x.fields then λ k. place_field x.fields p.fields end at k) has
    ∙ ap (λ o. o then λ p. position_from (λ f. bytes_eq f.name name) 0 s.fields then λ k. place_field s.fields p.fields end at k) laid
    ∙ ap (λ o. o then λ k. place_field s.fields plane.fields end at k) found

pub step-is : (program : Program) (planes : List Plane) (end : ℕ) (node : TypeId) (at : ℕ) (name : List ℕ) (s : Structure) (plane : Plane) (i : ℕ) → HasStructure program node s → slice_get planes node.0 ≡ Some plane
    → position_from (λ f. bytes_eq f.name name) 0 s.fields ≡ Some i → step_to program planes end node at name ≡ place_field s.fields plane.fields end at i
step-is program planes end node at name s plane i has laid found = step-found program planes end node at name s plane (Some i) has laid found

-- from what is no structure no name leads on
pub walk-ends : (program : Program) (planes : List Plane) (end : ℕ) (p : Place) (names : List (List ℕ)) (i : ℕ) → i < length names → itself p.type ≡ None → walk_on program planes end p (drop i names) ≡ None
walk-ends program planes end p [] i lt e = absurd (omega arith)
walk-ends program planes end p (name ∷ names) zero lt e = ap (λ o. o then λ node. step_to program planes end node p.at name then λ next. walk_on program planes end next names) e
walk-ends program planes end p (name ∷ names) (suc i) lt e = walk-ends program planes end p names i (omega arith) e
