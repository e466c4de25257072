-- The steps of a path.
use Rattle.std.proofs.Common.{◌≡◌, ◌∙◌, ℕ, ◌≤◌, ◌<◌, ◌-◌, List, [], ◌∷◌, ◌++◌, length, take, drop, Option, Some, None, refl, sym, ap, subst, arith}
use Rattle.std.specs.Prelude.{option_map, slice_get}
use Rattle.std.proofs.Math.ListN.{get_or}
use Rattle.std.proofs.lemmas.List.{take_rest, append_assoc}
use Rattle.gt_types.specs.declared.program.Field.{Field}
use Rattle.gt_types.specs.declared.program.Structure.{Structure}
use Rattle.gt_types.specs.declared.types.TypeId.{TypeId}
use Rattle.gt_fields.specs.Places.{bind, place_in}
use Rattle.gt_declare.specs.Programs.{structure_in, places_on}
use Rattle.gt_declare.specs.Steps.{place_of, inner_of}

-- ---- one step

bind_bind : {A B C : Type 0} (o : Option A) (f : A → Option B) (g : B → Option C) → bind o (λ x. bind (f x) g) ≡ bind (bind o f) g
bind_bind None f g = refl
bind_bind (Some x) f g = refl

inner_step : (fields : List Field) (place : Option ℕ) (after : ℕ → TypeId → Option (List ℕ))
    → bind place (λ i. bind (slice_get fields i) (λ f. bind (structure_in f.ty) (after i)))
    ≡ bind place (λ i. bind (bind (slice_get fields i) (λ f. structure_in f.ty)) (after i))
inner_step fields None after = refl
inner_step fields (Some i) after = bind_bind (slice_get fields i) (λ f. structure_in f.ty) (after i)

cut_step : (o : Option Structure) (name : List ℕ) (after : ℕ → TypeId → Option (List ℕ))
    → bind o (λ s. bind (place_in name s) (λ i. bind (slice_get s.fields i) (λ f. bind (structure_in f.ty) (after i))))
    ≡ bind (bind o (place_in name)) (λ i. bind (bind o (λ s. bind (slice_get s.fields i) (λ f. structure_in f.ty))) (after i))
cut_step None name after = refl
cut_step (Some s) name after = inner_step s.fields (place_in name s) after

last_step : (o : Option Structure) (name : List ℕ) → bind o (λ s. option_map (λ i. i ∷ []) (place_in name s)) ≡ option_map (λ i. i ∷ []) (bind o (place_in name))
last_step None name = refl
last_step (Some s) name = refl

-- ---- a path by its first name and the others

-- places after others
abbrev pub after : List ℕ → Option (List ℕ) → Option (List ℕ)
after before places = option_map (λ rest. before ++ rest) places

one : (structures : List Structure) (from : TypeId) (name : List ℕ) → places_on structures from (name ∷ []) ≡ option_map (λ i. i ∷ []) (place_of structures from name)
unfolding places_on
one structures from name = last_step (slice_get structures from.0) name

more : (structures : List Structure) (from : TypeId) (name next : List ℕ) (names : List (List ℕ))
    → places_on structures from (name ∷ next ∷ names)
    ≡ bind (place_of structures from name) (λ i. bind (inner_of structures from i) (λ inner. option_map (λ places. i ∷ places) (places_on structures inner (next ∷ names))))
unfolding places_on
more structures from name next names = cut_step (slice_get structures from.0) name (λ i inner. option_map (λ places. i ∷ places) (places_on structures inner (next ∷ names)))

missing_by : (structures : List Structure) (from : TypeId) (name : List ℕ) (names : List (List ℕ)) → place_of structures from name ≡ None
    → places_on structures from (name ∷ names) ≡ None
missing_by structures from name [] none = one structures from name ∙ ap (option_map (λ i. i ∷ [])) none
missing_by structures from name (next ∷ names) none =
    more structures from name next names
    ∙ ap (λ (o : Option ℕ). bind o (λ i. bind (inner_of structures from i) (λ inner. option_map (λ places. i ∷ places) (places_on structures inner (next ∷ names))))) none

append_cons : (before : List ℕ) (i : ℕ) (o : Option (List ℕ)) → after before (option_map (λ places. i ∷ places) o) ≡ after (before ++ i ∷ []) o
append_cons before i None = refl
append_cons before i (Some places) = ap (λ (all : List ℕ). Some all) (sym (append_assoc before (i ∷ []) places))

-- ---- a path of which the first name and the rest are read

-- the names after the first
abbrev pub rest_of : List (List ℕ) → List (List ℕ)
rest_of path = take (length path - 1) (drop 1 path)

pub path_missing : (structures : List Structure) (from : TypeId) (path : List (List ℕ)) (other before : List ℕ) → 1 ≤ length path
    → place_of structures from (get_or path 0 other) ≡ None → None ≡ after before (places_on structures from path)
path_missing structures from [] other before some none = absurd (omega arith)
path_missing structures from (name ∷ names) other before some none = sym (ap (after before) (missing_by structures from name names none))

ends_by : (structures : List Structure) (from : TypeId) (name : List ℕ) (before : List ℕ) (rest : List (List ℕ)) (i : ℕ) → length rest ≡ 0
    → place_of structures from name ≡ Some i → Some (before ++ i ∷ []) ≡ after before (places_on structures from (name ∷ rest))
ends_by structures from name before [] i none at = sym (ap (after before) (one structures from name ∙ ap (option_map (λ i. i ∷ [])) at))
ends_by structures from name before (next ∷ rest) i none at = absurd (omega arith)

pub path_ends : (structures : List Structure) (from : TypeId) (path : List (List ℕ)) (other before : List ℕ) (i : ℕ) → 1 ≤ length path
    → length (rest_of path) ≡ 0 → place_of structures from (get_or path 0 other) ≡ Some i → Some (before ++ i ∷ []) ≡ after before (places_on structures from path)
path_ends structures from [] other before i some none at = absurd (omega arith)
path_ends structures from (name ∷ names) other before i some none at =
    ends_by structures from name before names i (ap length (sym (take_rest (name ∷ names) 1)) ∙ none) at

goes_by : (structures : List Structure) (from : TypeId) (name : List ℕ) (names : List (List ℕ)) (i : ℕ) → 1 ≤ length names
    → place_of structures from name ≡ Some i
    → places_on structures from (name ∷ names) ≡ bind (inner_of structures from i) (λ inner. option_map (λ places. i ∷ places) (places_on structures inner names))
goes_by structures from name [] i some at = absurd (omega arith)
goes_by structures from name (next ∷ names) i some at =
    more structures from name next names
    ∙ ap (λ (o : Option ℕ). bind o (λ i. bind (inner_of structures from i) (λ inner. option_map (λ places. i ∷ places) (places_on structures inner (next ∷ names))))) at

-- no structure by value stands there
pub path_stops : (structures : List Structure) (from : TypeId) (path : List (List ℕ)) (other before : List ℕ) (i : ℕ) → 1 ≤ length path
    → 1 ≤ length (rest_of path) → place_of structures from (get_or path 0 other) ≡ Some i → inner_of structures from i ≡ None
    → None ≡ after before (places_on structures from path)
path_stops structures from [] other before i some rest at none = absurd (omega arith)
path_stops structures from (name ∷ names) other before i some rest at none =
    let there : 1 ≤ length names = subst (λ (xs : List (List ℕ)). 1 ≤ length xs) (take_rest (name ∷ names) 1) rest in
    sym (
    ap (after before) (
    goes_by structures from name names i there at
    ∙ ap (λ (o : Option TypeId). bind o (λ inner. option_map (λ places. i ∷ places) (places_on structures inner names))) none))

pub path_goes_on : (structures : List Structure) (from : TypeId) (path : List (List ℕ)) (other before : List ℕ) (i : ℕ) (inner : TypeId) → 1 ≤ length path
    → 1 ≤ length (rest_of path) → place_of structures from (get_or path 0 other) ≡ Some i → inner_of structures from i ≡ Some inner
    → after (before ++ i ∷ []) (places_on structures inner (rest_of path)) ≡ after before (places_on structures from path)
path_goes_on structures from [] other before i inner some rest at there = absurd (omega arith)
path_goes_on structures from (name ∷ names) other before i inner some rest at there =
    let many : 1 ≤ length names = subst (λ (xs : List (List ℕ)). 1 ≤ length xs) (take_rest (name ∷ names) 1) rest in
    ap (λ (xs : List (List ℕ)). after (before ++ i ∷ []) (places_on structures inner xs)) (take_rest (name ∷ names) 1)
    ∙ sym (
    ap (after before) (
    goes_by structures from name names i many at
    ∙ ap (λ (o : Option TypeId). bind o (λ inner. option_map (λ places. i ∷ places) (places_on structures inner names))) there)
    ∙ append_cons before i (places_on structures inner names))

pub path_none : (structures : List Structure) (from : TypeId) (path : List (List ℕ)) (before : List ℕ) → length path < 1 → None ≡ after before (places_on structures from path)
unfolding places_on
path_none structures from [] before few = refl
path_none structures from (name ∷ names) before few = absurd (omega arith)

-- what the first name of a path finds
pub at_first : (structures : List Structure) (from : TypeId) (path : List (List ℕ)) (name other : List ℕ) (place : Option ℕ) → name ≡ get_or path 0 other
    → place ≡ place_of structures from name → place_of structures from (get_or path 0 other) ≡ place
at_first structures from path name other place is at = ap (place_of structures from) (sym is) ∙ sym at
