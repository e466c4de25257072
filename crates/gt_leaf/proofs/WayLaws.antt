-- The names on a known way are those of the fields by which it leads.
use Rattle.std.proofs.Common.{◌≡◌, ℕ, Bool, true, false, List, [], ◌∷◌, refl, ap, sym, subst, ◌∙◌, Option, Some}
use Rattle.std.specs.Prelude.{map, slice_get}
use Rattle.gt_types.specs.declared.types.TypeId.{TypeId}
use Rattle.gt_types.specs.declared.types.Ty.{Ty}
use Rattle.gt_types.specs.declared.types.Ty.TheVariants as ty
use Rattle.gt_types.specs.declared.program.Field.{Field}
use Rattle.gt_types.specs.declared.program.Structure.{Structure}
use Rattle.gt_types.specs.declared.program.Program.{Program}
use Rattle.gt_types.specs.Contains.{HasStructure, itself}
use Rattle.gt_types.specs.Paths.{Leads, by_name, by_place}
use Rattle.gt_starts.specs.Ways.{Way, known, hidden, way_to}
use Rattle.gt_leaf.specs.Reading.{Step, by_both, LeadsAs, WaysLead, NoOthersLead}
use Rattle.gt_leaf.proofs.EndLemmas.{way-over}
use Rattle.gt_leaf.proofs.WaySteps.{Names, with_first, ways-stop, ways-step}

abbrev places_of : List Step → List ℕ
places_of = map (λ (s : Step). s.0)

abbrev names_of : List Step → Names
names_of = map (λ (s : Step). s.1)

-- a known way with a name in front goes on with a known one
goes-on : (name : List ℕ) (rest : Way) (way : Names) → with_first name rest ≡ known way → (names : Names) × (rest ≡ known names) × (name ∷ names ≡ way)
goes-on name (known names) way e = (names, refl, cc)
goes-on name (hidden names) way e = absurd (cc)

module _ (program : Program) where
  -- a known way begins with the name of the field
  known-step : (node : TypeId) (s : Structure) (f : Field) (i : ℕ) (path : List ℕ) (way : Names) → HasStructure program node s → slice_get s.fields i ≡ Some f → way_to program (Some node) (i ∷ path) ≡ known way
      → (names : Names) × (way_to program (itself f.ty) path ≡ known names) × (f.name ∷ names ≡ way)
  known-step node s f i path way has get e = go s.is_union refl
    where
      go : (union : Bool) → s.is_union ≡ union → (names : Names) × (way_to program (itself f.ty) path ≡ known names) × (f.name ∷ names ≡ way)
      go true is = let none = ways-stop program node s has i path is in absurd (cc)
      go false is = goes-on f.name (way_to program (itself f.ty) path) way (sym (ways-step program node s has i path f is get) ∙ e)

  -- so at the last step
  last-known : (node : TypeId) (s : Structure) (f : Field) (i : ℕ) (way : Names) → HasStructure program node s → slice_get s.fields i ≡ Some f → way_to program (Some node) (i ∷ []) ≡ known way → f.name ∷ [] ≡ way
  last-known node s f i way has get e =
      let on = known-step node s f i [] way has get e in
      let none : known on.0 ≡ known [] = sym on.1 ∙ way-over program (itself f.ty) in
      let same : on.0 ≡ [] = cc in
      ap (λ (names : Names). f.name ∷ names) (sym same) ∙ on.2

  -- and at one into a structure by value
  next-known : (node next : TypeId) (s : Structure) (f : Field) (desc : Option _) (i : ℕ) (path : List ℕ) (way : Names) → HasStructure program node s → slice_get s.fields i ≡ Some f → f.ty ≡ ty.Node next desc → way_to program (Some node) (i ∷ path) ≡ known way
      → (names : Names) × (way_to program (Some next) path ≡ known names) × (f.name ∷ names ≡ way)
  next-known node next s f desc i path way has get is e =
      let on = known-step node s f i path way has get e in
      (on.0, sym (ap (λ t. way_to program (itself t) path) is) ∙ on.1, on.2)

  -- the places of a known way, each with its name
  lead-both : {node : TypeId} {places : List ℕ} {type : Ty} → Leads program by_place node places type → (way : Names) → way_to program (Some node) places ≡ known way → LeadsAs program node places way type
  lead-both (Leads.last_step {node} {x} {s} {f} has at may) way e =
      ((x, f.name) ∷ [], refl, last-known node s f x way has at e, Leads.last_step {node = node} {x = (x, f.name)} {s = s} {f = f} has (at, refl) may)
  lead-both (Leads.next_step {node} {next} {x} {xs} {s} {f} {desc} {type} has at may is rest) way e =
      let on = next-known node next s f desc x xs way has at is e in
      let both = lead-both rest on.0 on.1 in (
        (x, f.name) ∷ both.0,
        ap (λ (ps : List ℕ). x ∷ ps) both.1,
        ap (λ (ns : Names). f.name ∷ ns) both.2 ∙ on.2,
        Leads.next_step {node = node} {next = next} {x = (x, f.name)} {xs = both.0} {s = s} {f = f} {desc = desc} {type = type} has (at, refl) may is both.3,
      )

  -- what leads by both leads by name
  both-name : {node : TypeId} {steps : List Step} {type : Ty} → Leads program by_both node steps type → Leads program by_name node (names_of steps) type
  both-name (Leads.last_step {node} {x} {s} {f} has at may) = Leads.last_step {node = node} {x = x.1} {s = s} {f = f} has at.1 may
  both-name (Leads.next_step {node} {next} {x} {xs} {s} {f} {desc} {type} has at may is rest) =
      Leads.next_step {node = node} {next = next} {x = x.1} {xs = names_of xs} {s = s} {f = f} {desc = desc} {type = type} has at.1 may is (both-name rest)

  -- the names by which it leads are those on the way
  names-are : {node : TypeId} {steps : List Step} {type : Ty} → Leads program by_both node steps type → (way : Names) → way_to program (Some node) (places_of steps) ≡ known way → names_of steps ≡ way
  names-are (Leads.last_step {node} {x} {s} {f} has at may) way e = ap (λ (n : List ℕ). n ∷ []) (sym at.1) ∙ last-known node s f x.0 way has at.0 e
  names-are (Leads.next_step {node} {next} {x} {xs} {s} {f} {desc} {type} has at may is rest) way e =
      let on = next-known node next s f desc x.0 (places_of xs) way has at.0 is e in
      ap (λ (ns : Names). x.1 ∷ ns) (names-are rest on.0 on.1) ∙ ap (λ (n : List ℕ). n ∷ on.0) (sym at.1) ∙ on.2

  pub ways-lead : WaysLead program
  ways-lead node places type way leads is = let both = lead-both leads way is in subst (λ names. Leads program by_name node names type) both.2 (both-name both.3)

  pub no-others-lead : NoOthersLead program
  no-others-lead node places type way names last leads way_is = (
    λ is. subst (λ ns. LeadsAs program node places ns type) (sym is) (lead-both leads way way_is),
    λ (steps, at, named, both). sym named ∙ names-are both way (subst (λ ps. way_to program (Some node) ps ≡ known way) (sym at) way_is),
  )
