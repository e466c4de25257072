-- Paths by their first step.
use Rattle.std.proofs.Common.{◌≡◌, ◌≢◌, ◌⊎◌, inl, inr, ◌≤◌, ◌<◌, ◌+◌, ℕ, zero, suc, Bool, true, false, cond, List, [], ◌∷◌, length, get_or, Option, Some, None, slice_get, position, IsTrue, sym, ◌∙◌, ap, subst, refl, arith}
use Rattle.std.specs.Prelude.{All, AllPairs}
use Rattle.std.specs.Bool.{Decides}
use Rattle.std.specs.List.{position_from}
use Rattle.std.specs.Str.{bytes_eq}
use Rattle.std.proofs.lemmas.Iterator.Adapters.{position_from-zero}
use Rattle.std.proofs.lemmas.List.Elements.{All-get_or}
use Rattle.std.proofs.lemmas.List.Quantifiers.{position-Some}
use Rattle.std.proofs.lemmas.Slice.Eq.{bytes_eq-Decides}
use Rattle.std.proofs.lemmas.Option.{slice_get_within, get_or_from_slice_get, slice_get-get_or}
use Rattle.std.proofs.lemmas.Bool.{cases_lt}
use Rattle.std.proofs.lemmas.Bool.Decides.{not_from_Decides}
use Rattle.gt_types.specs.declared.types.TypeId.{TypeId}
use Rattle.gt_types.specs.declared.types.Ty.{Ty}
use Rattle.gt_types.specs.declared.types.Ty.TheVariants as ty
use Rattle.gt_types.specs.declared.types.Target.TheVariants as target
use Rattle.gt_types.specs.declared.types.PtrKind.TheVariants as kind
use Rattle.gt_types.specs.declared.program.Field.{Field}
use Rattle.gt_types.specs.declared.program.Structure.{Structure}
use Rattle.gt_types.specs.declared.program.Program.{Program}
use Rattle.gt_types.specs.Contains.{HasStructure}
use Rattle.gt_types.specs.Shapes.{is_number}
use Rattle.gt_types.specs.Paths.{MayStep, Leads, last_step, next_step, by_name, by_place, LeadsToNumber}
use Rattle.gt_fields.specs.Places.{bind, place_in}
use Rattle.gt_paths.specs.Steps.{GoesOn, GoesOnNamed, LeadsToPointer, NamedGoesOn, PlaceGoesOn, PointerGoesOn, StepsAt}
use Rattle.gt_paths.proofs.Ascents.{last_or_before}
use Rattle.gt_paths.proofs.ByNumber.{same_structure}
use Rattle.gt_paths.proofs.Lists.{rest_of, rest_of-cons}

-- ---- the field at a place

same_field : (f g : Field) → Some f ≡ Some g → f ≡ g
same_field f g e = cc

pub no_structure : (program : Program) (node : TypeId) (place : ℕ) → None ≡ slice_get program.structures node.0 → (type : Ty) → ¬ StepsAt program node place type
no_structure program node place none type (s, f, there, at, may, same) = let never : None ≡ Some s = none ∙ there in cc

pub no_field : (program : Program) (node : TypeId) (place : ℕ) (s : Structure) → HasStructure program node s → None ≡ slice_get s.fields place → (type : Ty) → ¬ StepsAt program node place type
no_field program node place s there none type (s', f, there', at, may, same) =
    let here = subst (λ (t : Structure). slice_get t.fields place ≡ Some f) (same_structure program node s' s there' there) at in
    let never : None ≡ Some f = none ∙ here in cc

-- the structure and the field are the ones that are there
pub step_of : (program : Program) (node : TypeId) (place : ℕ) (s : Structure) (f : Field) (type : Ty) → HasStructure program node s → slice_get s.fields place ≡ Some f
    → StepsAt program node place type → MayStep program s f × (f.ty ≡ type)
step_of program node place s f type there at (s', f', there', at', may, same) =
    let one = same_structure program node s' s there' there in
    let here = subst (λ (t : Structure). slice_get t.fields place ≡ Some f') one at' in
    let field = same_field f' f (sym here ∙ at) in
    (subst (λ (g : Field). MayStep program s g) field (subst (λ (t : Structure). MayStep program t f') one may), ap (λ (g : Field). g.ty) (sym field) ∙ same)

pub no_step : (program : Program) (node : TypeId) (place : ℕ) (s : Structure) (f : Field) (b : Bool) → HasStructure program node s → slice_get s.fields place ≡ Some f
    → Decides b (MayStep program s f) → b ≡ false → (type : Ty) → ¬ StepsAt program node place type
no_step program node place s f b there at decides fails type steps = not_from_Decides b decides fails (step_of program node place s f type there at steps).0

pub one_type : (program : Program) (node : TypeId) (place : ℕ) (t u : Ty) → StepsAt program node place t → StepsAt program node place u → t ≡ u
one_type program node place t u (s, f, there, at, may, same) other = sym same ∙ (step_of program node place s f u there at other).1

-- ---- by name

pub place_goes_on : (program : Program) (node : TypeId) (rest : List (List ℕ)) (place : ℕ) (type : Ty) (b : Bool) → StepsAt program node place type
    → Decides b (GoesOn program rest type) → Decides b (PlaceGoesOn program node rest place)
place_goes_on program node rest place type b step decides = (
  λ e. (type, step, decides.0 e),
  λ (other, step', goes). decides.1 (subst (GoesOn program rest) (one_type program node place other type step' step) goes),
)

pub place_ends : (program : Program) (node : TypeId) (rest : List (List ℕ)) (place : ℕ) → ((type : Ty) → ¬ StepsAt program node place type) → Decides false (PlaceGoesOn program node rest place)
place_ends program node rest place none = (λ never. cc, λ (type, step, goes). absurd (none type step))

same_step : (x y : List ℕ) (xs ys : List (List ℕ)) → x ∷ xs ≡ y ∷ ys → x ≡ y
same_step x y xs ys e = cc

same_rest : (x y : List ℕ) (xs ys : List (List ℕ)) → x ∷ xs ≡ y ∷ ys → xs ≡ ys
same_rest x y xs ys e = cc

named : (program : Program) (node : TypeId) (s : Structure) (f : Field) (step : List ℕ) (rest : List (List ℕ)) → HasStructure program node s → MayStep program s f
    → f.name ≡ step → GoesOn program rest f.ty → NamedGoesOn program node step rest
named program node s f step rest there may name goes =
    let c = may.there in
    let at = slice_get-get_or s.fields c.0 f c.1 ∙ ap (λ (g : Field). Some g) c.2 in
    (s, c.0, f, there, at, (name, (f.ty, (s, f, there, at, may, refl), goes)))

to_named : (program : Program) (node : TypeId) (steps : List (List ℕ)) (type : Ty) (step : List ℕ) (rest : List (List ℕ)) → Leads program by_name node steps type
    → IsTrue (is_number type) → steps ≡ step ∷ rest → NamedGoesOn program node step rest
to_named program node steps type step rest (last_step {x = x} {s = s} {f = f} there name may) number same =
    named program node s f step rest there may (name ∙ same_step x step [] rest same) (inl (sym (same_rest x step [] rest same), number))
to_named program node steps type step rest (next_step {next = next} {x = x} {xs = xs} {s = s} {f = f} {desc = desc} there name may is leads) number same =
    let after = subst (λ (ys : List (List ℕ)). Leads program by_name next ys type) (same_rest x step xs rest same) leads in
    named program node s f step rest there may (name ∙ same_step x step xs rest same) (inr (next, desc, is, (type, after, number)))

leads_on : (program : Program) (node : TypeId) (s : Structure) (f : Field) (step : List ℕ) (rest : List (List ℕ)) → HasStructure program node s → MayStep program s f
    → f.name ≡ step → GoesOn program rest f.ty → LeadsToNumber program node (step ∷ rest)
leads_on program node s f step rest there may name (inl (none, number)) =
    let last : Leads program by_name node (step ∷ []) f.ty = last_step there name may in
    (f.ty, subst (λ (xs : List (List ℕ)). Leads program by_name node (step ∷ xs) f.ty) (sym none) last, number)
leads_on program node s f step rest there may name (inr (next, desc, type, (t, leads, number))) = (t, next_step there name may type leads, number)

from_named : (program : Program) (node : TypeId) (step : List ℕ) (rest : List (List ℕ)) → NamedGoesOn program node step rest → LeadsToNumber program node (step ∷ rest)
from_named program node step rest (s, place, f, there, at, (name, (type, stepped, goes))) =
    let own = step_of program node place s f type there at stepped in
    leads_on program node s f step rest there own.0 name (subst (GoesOn program rest) (sym own.1) goes)

pub by_named : (program : Program) (node : TypeId) (step : List ℕ) (rest : List (List ℕ)) (b : Bool) → Decides b (NamedGoesOn program node step rest)
    → Decides b (LeadsToNumber program node (step ∷ rest))
by_named program node step rest b decides = (
  λ e. from_named program node step rest (decides.0 e),
  λ leads. decides.1 (to_named program node (step ∷ rest) leads.0 step rest leads.1 leads.2 refl),
)

-- the first of the steps is what is looked at, and the rest follow
pub of_steps : (program : Program) (node : TypeId) (steps : List (List ℕ)) (step : List ℕ) (b : Bool) → 1 ≤ length steps → step ≡ get_or steps 0 step
    → Decides b (NamedGoesOn program node step (rest_of steps)) → Decides b (LeadsToNumber program node steps)
of_steps program node [] step b some is found = absurd (omega (arith, some))
of_steps program node (x ∷ xs) step b some is found =
    let at_rest = subst (λ (ys : List (List ℕ)). Decides b (NamedGoesOn program node step ys)) (rest_of-cons x xs) found in
    by_named program node x xs b (subst (λ (y : List ℕ). Decides b (NamedGoesOn program node y xs)) is at_rest)

-- ---- fields of distinct names

abbrev pub Distinct : Program → Type 0
Distinct program = All (λ s. AllPairs (λ f g. f.name ≢ g.name) s.fields) program.structures

past_first : (name : List ℕ) (k : ℕ) (f : Field) (fs : List Field) (i : ℕ) (d : Field) (b : Bool) → bytes_eq f.name name ≡ b
    → ((i : ℕ) → position_from (λ g. bytes_eq g.name name) (k + 1) fs ≡ None → i < length fs → (get_or fs i d).name ≡ name → ⊥)
    → cond b (Some k) (position_from (λ g. bytes_eq g.name name) (k + 1) fs) ≡ None → i < length (f ∷ fs) → (get_or (f ∷ fs) i d).name ≡ name → ⊥
past_first name k f fs i d true is rest none within same = absurd (cc)
past_first name k f fs zero d false is rest none within same = let never : false ≡ true = sym is ∙ (bytes_eq-Decides f.name name).1 same in absurd (cc)
past_first name k f fs (suc i) d false is rest none within same = rest i none (omega (arith, within)) same

no_position : (name : List ℕ) (k : ℕ) (fs : List Field) (i : ℕ) (d : Field) → position_from (λ f. bytes_eq f.name name) k fs ≡ None → i < length fs → (get_or fs i d).name ≡ name → ⊥
no_position name k [] i d none within same = absurd (omega (arith, within))
no_position name k (f ∷ fs) i d none within same = past_first name k f fs i d (bytes_eq f.name name) refl (λ i. no_position name (k + 1) fs i d) none within same

one_place : (fs : List Field) (i j : ℕ) (f g : Field) → AllPairs (λ (f g : Field). f.name ≢ g.name) fs → slice_get fs i ≡ Some f → slice_get fs j ≡ Some g → f.name ≡ g.name → i ≡ j
one_place fs i j f g distinct a b same = at (order i j) where
  order : (i j : ℕ) → (i < j) ⊎ ((i ≡ j) ⊎ (j < i))
  order i j = elim (cases_lt i j) [
    | inl lower ↦ inl lower
    | inr upper ↦ elim (cases_lt j i) [
      | inl higher ↦ inr (inr higher)
      | inr lower ↦ inr (inl (omega (arith, upper, lower)))
    ]
  ]

  at : (i < j) ⊎ ((i ≡ j) ⊎ (j < i)) → i ≡ j
  at (inl lower) = absurd (distinct i j f lower (slice_get_within fs j g b) (ap (λ (h : Field). h.name) (get_or_from_slice_get fs i f f a) ∙ same ∙ ap (λ (h : Field). h.name) (sym (get_or_from_slice_get fs j g f b))))
  at (inr (inl e)) = e
  at (inr (inr higher)) = absurd (distinct j i f higher (slice_get_within fs i f a) (ap (λ (h : Field). h.name) (get_or_from_slice_get fs j g f b) ∙ sym same ∙ ap (λ (h : Field). h.name) (sym (get_or_from_slice_get fs i f f a))))

distinct_at : (program : Program) (node : TypeId) (s : Structure) → Distinct program → HasStructure program node s → AllPairs (λ (f g : Field). f.name ≢ g.name) s.fields
distinct_at program node s distinct there =
    subst (λ (t : Structure). AllPairs (λ (f g : Field). f.name ≢ g.name) t.fields) (get_or_from_slice_get program.structures node.0 s s there)
    (All-get_or (λ (t : Structure). AllPairs (λ (f g : Field). f.name ≢ g.name) t.fields) program.structures node.0 s (slice_get_within program.structures node.0 s there) distinct)

-- no field has this name
pub not_named : (program : Program) (node : TypeId) (step : List ℕ) (rest : List (List ℕ)) → None ≡ bind (slice_get program.structures node.0) (place_in step)
    → Decides false (NamedGoesOn program node step rest)
not_named program node step rest none = (
  λ never. cc,
  λ (s, place, f, there, at, (name, goes)).
      let missing : None ≡ place_in step s = none ∙ ap (λ (o : Option Structure). bind o (place_in step)) there in
      let from = sym (position_from-zero (λ (g : Field). bytes_eq g.name step) s.fields) ∙ sym missing in
      absurd (no_position step 0 s.fields place f from (slice_get_within s.fields place f at) (ap (λ (g : Field). g.name) (get_or_from_slice_get s.fields place f f at) ∙ name)),
)

-- the field that is found by its name
record NamedField (s : Structure) (step : List ℕ) (place : ℕ) : Type 0 where
  f : Field
  at : slice_get s.fields place ≡ Some f
  name : f.name ≡ step

named_field : (s : Structure) (step : List ℕ) (place : ℕ) (d : Field) → position (λ (g : Field). bytes_eq g.name step) s.fields ≡ Some place → NamedField s step place
named_field s step place d is =
    let first = position-Some (λ (g : Field). bytes_eq g.name step) s.fields place d is in
    record { f = get_or s.fields place d; at = slice_get-get_or s.fields place d first.0; name = (bytes_eq-Decides (get_or s.fields place d).name step).0 first.1 }

to_named_at : (program : Program) (node : TypeId) (s : Structure) (step : List ℕ) (rest : List (List ℕ)) (place : ℕ) → HasStructure program node s
    → position (λ (g : Field). bytes_eq g.name step) s.fields ≡ Some place → PlaceGoesOn program node rest place → NamedGoesOn program node step rest
to_named_at program node s step rest place there is (type, (s', f, there', at, may, same), goes) =
    let here = subst (λ (t : Structure). slice_get t.fields place ≡ Some f) (same_structure program node s' s there' there) at in
    let found = named_field s step place f is in
    let name = ap (λ (g : Field). g.name) (same_field f found.f (sym here ∙ found.at)) ∙ found.name in
    (s, place, f, there, here, (name, (type, (s', f, there', at, may, same), goes)))

from_named_at : (program : Program) (node : TypeId) (s : Structure) (step : List ℕ) (rest : List (List ℕ)) (place : ℕ) → Distinct program → HasStructure program node s
    → position (λ (g : Field). bytes_eq g.name step) s.fields ≡ Some place → NamedGoesOn program node step rest → PlaceGoesOn program node rest place
from_named_at program node s step rest place distinct there is (s', place', f, there', at, (name, goes)) =
    let here = subst (λ (t : Structure). slice_get t.fields place' ≡ Some f) (same_structure program node s' s there' there) at in
    let found = named_field s step place f is in
    subst (PlaceGoesOn program node rest) (one_place s.fields place' place f found.f (distinct_at program node s distinct there) here found.at (name ∙ sym found.name)) goes

found_at : (program : Program) (node : TypeId) (step : List ℕ) (place : ℕ) (o : Option Structure) → slice_get program.structures node.0 ≡ o → Some place ≡ bind o (place_in step)
    → (s : Structure) × HasStructure program node s × (position (λ (g : Field). bytes_eq g.name step) s.fields ≡ Some place)
found_at program node step place None there found = absurd (cc)
found_at program node step place (Some s) there found = (s, there, sym found)

-- one field has this name, and stands at this place
pub named_at : (program : Program) (node : TypeId) (step : List ℕ) (rest : List (List ℕ)) (place : ℕ) (b : Bool) → Distinct program
    → Some place ≡ bind (slice_get program.structures node.0) (place_in step) → Decides b (PlaceGoesOn program node rest place) → Decides b (NamedGoesOn program node step rest)
named_at program node step rest place b distinct found decides =
    let at = found_at program node step place (slice_get program.structures node.0) refl found in
    (λ e. to_named_at program node at.0 step rest place at.1 at.2 (decides.0 e), λ goes. decides.1 (from_named_at program node at.0 step rest place distinct at.1 at.2 goes))

-- a path leads on from this place
pub to_step : (program : Program) (node : TypeId) (step : List ℕ) (rest : List (List ℕ)) (place : ℕ) → Distinct program → Some place ≡ bind (slice_get program.structures node.0) (place_in step)
    → LeadsToNumber program node (step ∷ rest) → PlaceGoesOn program node rest place
to_step program node step rest place distinct found leads =
    let at = found_at program node step place (slice_get program.structures node.0) refl found in
    from_named_at program node at.0 step rest place distinct at.1 at.2 (to_named program node (step ∷ rest) leads.0 step rest leads.1 leads.2 refl)

pub from_step : (program : Program) (node : TypeId) (step : List ℕ) (rest : List (List ℕ)) (place : ℕ) → Distinct program → Some place ≡ bind (slice_get program.structures node.0) (place_in step)
    → PlaceGoesOn program node rest place → LeadsToNumber program node (step ∷ rest)
from_step program node step rest place distinct found goes =
    let at = found_at program node step place (slice_get program.structures node.0) refl found in
    from_named program node step rest (to_named_at program node at.0 step rest place at.1 at.2 goes)

-- ---- by place

same_place : (x y : ℕ) (xs ys : List ℕ) → x ∷ xs ≡ y ∷ ys → x ≡ y
same_place x y xs ys e = cc

same_places : (x y : ℕ) (xs ys : List ℕ) → x ∷ xs ≡ y ∷ ys → xs ≡ ys
same_places x y xs ys e = cc

-- the path goes on from the field at a place to a pointer
abbrev pub PlaceLeads : Program → TypeId → TypeId → List ℕ → ℕ → Type 0
PlaceLeads program own node rest place = (type : Ty) × StepsAt program node place type × PointerGoesOn program own rest type

pointer_from : (program : Program) (own node : TypeId) (place : ℕ) (rest : List ℕ) → PlaceLeads program own node rest place → LeadsToPointer program own node (place ∷ rest)
pointer_from program own node place rest (type, (s, f, there, at, may, same), inl (none, (reorder, is))) =
    let last : Leads program by_place node (place ∷ []) f.ty = last_step there at may in
    let typed = subst (λ (t : Ty). Leads program by_place node (place ∷ []) t) (same ∙ is) last in
    (reorder, subst (λ (xs : List ℕ). Leads program by_place node (place ∷ xs) (ty.Ptr (Some (target.Node own)) kind.Plain reorder)) (sym none) typed)
pointer_from program own node place rest (type, (s, f, there, at, may, same), inr (next, desc, is, (reorder, leads))) = (reorder, next_step there at may (same ∙ is) leads)

to_pointer : (program : Program) (own node : TypeId) (places : List ℕ) (type : Ty) (reorder : Bool) (place : ℕ) (rest : List ℕ) → Leads program by_place node places type
    → type ≡ ty.Ptr (Some (target.Node own)) kind.Plain reorder → places ≡ place ∷ rest → PlaceLeads program own node rest place
to_pointer program own node places type reorder place rest (last_step {x = x} {s = s} {f = f} there at may) is same =
    let here = subst (λ (n : ℕ). slice_get s.fields n ≡ Some f) (same_place x place [] rest same) at in
    (f.ty, (s, f, there, here, may, refl), inl (sym (same_places x place [] rest same), (reorder, is)))
to_pointer program own node places type reorder place rest (next_step {next = next} {x = x} {xs = xs} {s = s} {f = f} {desc = desc} there at may node' leads) is same =
    let here = subst (λ (n : ℕ). slice_get s.fields n ≡ Some f) (same_place x place xs rest same) at in
    let after = subst (λ (ys : List ℕ). Leads program by_place next ys type) (same_places x place xs rest same) leads in
    let typed = subst (λ (t : Ty). Leads program by_place next rest t) is after in
    (f.ty, (s, f, there, here, may, refl), inr (next, desc, node', (reorder, typed)))

by_place_at : (program : Program) (own node : TypeId) (place : ℕ) (rest : List ℕ) (type : Ty) (b : Bool) → StepsAt program node place type
    → Decides b (PointerGoesOn program own rest type) → Decides b (LeadsToPointer program own node (place ∷ rest))
by_place_at program own node place rest type b step decides = (
  λ e. pointer_from program own node place rest (type, step, decides.0 e),
  λ (reorder, leads).
      let found = to_pointer program own node (place ∷ rest) _ reorder place rest leads refl refl in
      decides.1 (subst (PointerGoesOn program own rest) (one_type program node place found.0 type found.1 step) found.2),
)

pub of_places : (program : Program) (own node : TypeId) (places : List ℕ) (d : ℕ) (type : Ty) (b : Bool) → 1 ≤ length places
    → StepsAt program node (get_or places 0 d) type → Decides b (PointerGoesOn program own (rest_of places) type) → Decides b (LeadsToPointer program own node places)
of_places program own node [] d type b some step decides = absurd (omega (arith, some))
of_places program own node (x ∷ xs) d type b some step decides =
    by_place_at program own node x xs type b step (subst (λ (ys : List ℕ). Decides b (PointerGoesOn program own ys type)) (rest_of-cons x xs) decides)

pub of_no_place : (program : Program) (own node : TypeId) (places : List ℕ) (d : ℕ) → 1 ≤ length places
    → ((type : Ty) → ¬ StepsAt program node (get_or places 0 d) type) → Decides false (LeadsToPointer program own node places)
of_no_place program own node [] d some none = absurd (omega (arith, some))
of_no_place program own node (x ∷ xs) d some none = (
  λ never. cc,
  λ (reorder, leads). let found = to_pointer program own node (x ∷ xs) _ reorder x xs leads refl refl in absurd (none found.0 found.1),
)

-- ---- the end of a path

no_steps : (program : Program) (node : TypeId) (steps : List (List ℕ)) (type : Ty) → Leads program by_name node steps type → 1 ≤ length steps
no_steps program node steps type (last_step _ _ _) = omega arith
no_steps program node steps type (next_step _ _ _ _ _) = omega arith

pub leads_nowhere : (program : Program) (node : TypeId) (steps : List (List ℕ)) → length steps < 1 → Decides false (LeadsToNumber program node steps)
leads_nowhere program node steps none = (λ never. cc, λ leads. absurd (omega (arith, none, no_steps program node steps leads.0 leads.1)))

number_here : (program : Program) (rest : List (List ℕ)) (type : Ty) (b : Bool) → rest ≡ [] → b ≡ is_number type → GoesOn program rest type → b ≡ true
number_here program rest type b none is (inl (_, number)) = is ∙ number
number_here program rest type b none is (inr (next, desc, _, (t, leads, number))) = absurd (omega (arith, ap length none, no_steps program next rest t leads))

pub ends_here : (program : Program) (rest : List (List ℕ)) (type : Ty) (b : Bool) → rest ≡ [] → b ≡ is_number type → Decides b (GoesOn program rest type)
ends_here program rest type b none is = (λ e. inl (none, sym is ∙ e), λ goes. number_here program rest type b none is goes)

-- ---- the fields one after another

-- the path goes on from no field before this place
abbrev pub NoneBefore : Program → TypeId → List ℕ → List (List ℕ) → List Field → ℕ → Type 0
NoneBefore program node step rest fields i = (k : ℕ) (f : Field) → k < i → slice_get fields k ≡ Some f → ¬ GoesOnNamed program node step rest k f

read_at : (fields : List Field) (i : ℕ) (f : Field) → i < length fields → f ≡ get_or fields i f → slice_get fields i ≡ Some f
read_at fields i f within is = slice_get-get_or fields i f within ∙ ap (λ (g : Field). Some g) (sym is)

pub none_more : (program : Program) (node : TypeId) (step : List ℕ) (rest : List (List ℕ)) (fields : List Field) (i : ℕ) (f : Field) (b : Bool) → i < length fields → f ≡ get_or fields i f
    → Decides b (GoesOnNamed program node step rest i f) → b ≡ false → NoneBefore program node step rest fields i → NoneBefore program node step rest fields (i + 1)
none_more program node step rest fields i f b within is decides fails none k g below at goes = elim (last_or_before i k below) [
  | inl before ↦ none k g before at goes
  | inr here ↦
      let at_i = subst (λ (j : ℕ). slice_get fields j ≡ Some g) here at in
      let same = same_field g f (sym at_i ∙ read_at fields i f within is) in
      not_from_Decides b decides fails (subst (λ (h : Field). GoesOnNamed program node step rest i h) same (subst (λ (j : ℕ). GoesOnNamed program node step rest j g) here goes))
]

pub one_named : (program : Program) (node : TypeId) (step : List ℕ) (rest : List (List ℕ)) (s : Structure) (fields : List Field) (i : ℕ) (f : Field) (b : Bool) → HasStructure program node s
    → fields ≡ s.fields → i < length fields → f ≡ get_or fields i f → Decides b (GoesOnNamed program node step rest i f) → b ≡ true → Decides true (NamedGoesOn program node step rest)
one_named program node step rest s fields i f b there same within is decides holds =
    (λ _. (s, i, f, there, subst (λ (xs : List Field). slice_get xs i ≡ Some f) same (read_at fields i f within is), decides.0 holds), λ _. refl)

pub none_named : (program : Program) (node : TypeId) (step : List ℕ) (rest : List (List ℕ)) (s : Structure) (fields : List Field) (i : ℕ) → HasStructure program node s
    → fields ≡ s.fields → length fields ≤ i → NoneBefore program node step rest fields i → Decides false (NamedGoesOn program node step rest)
none_named program node step rest s fields i there same past none = (
  λ never. cc,
  λ (s', k, f, there', at, goes).
      let here = subst (λ (t : Structure). slice_get t.fields k ≡ Some f) (same_structure program node s' s there' there) at in
      let at_k = subst (λ (xs : List Field). slice_get xs k ≡ Some f) (sym same) here in
      absurd (none k f (omega (arith, past, slice_get_within fields k f at_k)) at_k goes),
)

-- the structure at a place of a pass
pub read_in : (program : Program) (items : List Structure) (i : ℕ) (s : Structure) → items ≡ program.structures → i < length items → s ≡ get_or items i s → slice_get program.structures i ≡ Some s
read_in program items i s same within is = subst (λ (xs : List Structure). slice_get xs i ≡ Some s) same (slice_get-get_or items i s within ∙ ap (λ (t : Structure). Some t) (sym is))
