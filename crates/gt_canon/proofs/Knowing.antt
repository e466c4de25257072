-- What a type of a settled program names is found by its name.
use Rattle.std.proofs.Common.{◌≡◌, ◌≢◌, inl, inr, ℕ, zero, suc, ◌<◌, ◌≤◌, true, cond, List, [], ◌∷◌, ◌++◌, map, length, get_or, Some, slice_get, IfSome, sym, ap, ◌∙◌, subst, arith, length-append}
use Rattle.std.specs.Str.{bytes_eq}
use Rattle.std.specs.List.{list_all}
use Rattle.std.specs.Prelude.{All, AllPairs}
use Rattle.std.proofs.lemmas.Bool.{cond-true, cond-false, false_from_ne_true}
use Rattle.std.proofs.lemmas.List.{get_or_append_left, get_or-map, length-map}
use Rattle.std.proofs.lemmas.List.Elements.{All-nil, All-cons, All-get_or, All-contains, All-weaker}
use Rattle.std.proofs.lemmas.Option.{same_Some, none-some, slice_get_within, get_or_from_slice_get}
use Rattle.std.proofs.lemmas.Slice.Eq.{bytes_eq-Decides}
use Rattle.gt_types.specs.declared.expressions.Base.TheVariants.{Here}
use Rattle.gt_types.specs.declared.expressions.Expr.{Expr}
use Rattle.gt_types.specs.declared.types.TypeId.{TypeId}
use Rattle.gt_types.specs.declared.types.Ty.{Ty}
use Rattle.gt_types.specs.declared.program.Structure.{Structure}
use Rattle.gt_types.specs.declared.program.Program.{Program}
use Rattle.gt_types.specs.Names.{IsName, is_name_character}
use Rattle.gt_types.specs.Contains.{HasStructure}
use Rattle.gt_types.specs.Paths.{Way, Leads, last_step, next_step, by_name, LeadsToNumber, AreSteps, paths_of, roots_of, IsScalarRoot, IsOption, IsFieldDesc, IsRootCount, IsRootDesc}
use Rattle.gt_types.specs.Settled.{IsField, IsUnion, IsOfItsKind, IsDescOfRoot, IsRoot, Settled}
use Rattle.gt_canon.proofs.ExprTrees.{root_at, raw_root, name_characters, FindsRoots}
use Rattle.gt_canon.proofs.TypeForms.{raw_structure, KnowsId, KnowsExpr, Knows}

-- ---- the place of a name

-- the first place of a name in a list, or the length
abbrev pub place_of : List (List ℕ) → List ℕ → ℕ
place_of [] w = 0
place_of (v ∷ vs) w = cond (bytes_eq v w) 0 (suc (place_of vs w))

apart_at :
    {X : Type 0} (f : X → List ℕ) (x : X) (xs : List X) (i : ℕ) (y : X) → AllPairs (λ a b. f a ≢ f b) (x ∷ xs) → slice_get xs i ≡ Some y
    → f x ≢ f y
apart_at f x xs i y apart e =
    let within = slice_get_within xs i y e in
    let h = apart 0 (suc i) x (omega arith) (omega (arith, within)) in
    subst (λ z. f x ≢ f z) (get_or_from_slice_get xs i y x e) h

apart_tail : {X : Type 0} (f : X → List ℕ) (x : X) (xs : List X) → AllPairs (λ a b. f a ≢ f b) (x ∷ xs) → AllPairs (λ a b. f a ≢ f b) xs
apart_tail f x xs apart i j d before within = apart (suc i) (suc j) d (omega (arith, before)) (omega (arith, within))

pub place_of-at :
    {X : Type 0} (f : X → List ℕ) (xs : List X) (i : ℕ) (x : X) → AllPairs (λ a b. f a ≢ f b) xs → slice_get xs i ≡ Some x
    → place_of (map f xs) (f x) ≡ i
place_of-at f [] i x apart e = absurd (none-some x e)
place_of-at f (y ∷ ys) zero x apart e =
    cond-true (bytes_eq (f y) (f x)) 0 (suc (place_of (map f ys) (f x))) ((bytes_eq-Decides (f y) (f x)).1 (ap f (same_Some y x e)))
place_of-at f (y ∷ ys) (suc i) x apart e =
    cond-false (bytes_eq (f y) (f x)) 0 (suc (place_of (map f ys) (f x)))
    (false_from_ne_true _ (λ same. apart_at f y ys i x apart e ((bytes_eq-Decides (f y) (f x)).0 same)))
    ∙ ap suc (place_of-at f ys i x (apart_tail f y ys apart) e)

-- where the names of structures and roots stand
abbrev pub structures_place : Program → List ℕ → ℕ
structures_place program = place_of (map (λ s. s.name) program.structures)

abbrev pub roots_place : Program → List ℕ → ℕ
roots_place program = place_of (map (λ r. r.name) program.roots)

-- ---- elements of lists by their places

pub All-at : {X : Type 0} (P : X → Type 0) (xs : List X) (i : ℕ) (x : X) → All P xs → slice_get xs i ≡ Some x → P x
All-at P xs i x all e = subst P (get_or_from_slice_get xs i x x e) (All-get_or P xs i x (slice_get_within xs i x e) all)

left_of_append :
    {X : Type 0} (f : X → List ℕ) (xs : List X) (ws vs : List (List ℕ)) → AllPairs ◌≢◌ (map f xs ++ ws ++ vs) → AllPairs (λ a b. f a ≢ f b) xs
left_of_append f xs ws vs apart i j d before within =
    let long : j < length (map f xs ++ ws ++ vs) =
    omega (arith, within, length-append (map f xs ++ ws) vs, length-append (map f xs) ws, length-map xs f) in
    let inner : j < length (map f xs) = omega (arith, within, length-map xs f) in
    let middle : j < length (map f xs ++ ws) = omega (arith, inner, length-append (map f xs) ws) in
    let at : (k : ℕ) → k ≤ j → get_or (map f xs ++ ws ++ vs) k [] ≡ f (get_or xs k d) = λ k below.
    get_or_append_left (map f xs ++ ws) vs [] k (omega (arith, middle, below))
    ∙ get_or_append_left (map f xs) ws [] k (omega (arith, inner, below))
    ∙ get_or-map f xs k d [] (omega (arith, within, below)) in
    λ same. apart i j [] before long (at i (omega (arith, before)) ∙ same ∙ sym (at j (omega arith)))

-- ---- what is known of a settled program

abbrev pub IdIn : Program → TypeId → Type 0
IdIn program = KnowsId program (structures_place program)

abbrev pub ExprIn : Program → Expr → Type 0
ExprIn program = KnowsExpr program (roots_place program)

abbrev pub TypeIn : Program → Ty → Type 0
TypeIn program = Knows program (structures_place program) (roots_place program)

pub known_id : (program : Program) (id : TypeId) (s : Structure) → Settled program → HasStructure program id s → IdIn program id
known_id program id s settled there = record {
  found =
      ap (λ o. structures_place program (raw_structure o)) there
      ∙ place_of-at (λ s. s.name) program.structures id.0 s settled.distinct_structures there;
  name =
      ap (λ o. list_all is_name_character (raw_structure o)) there ∙ name_characters s.name (settled.structures id s there).name;
}

distinct_roots : (program : Program) → Settled program → AllPairs (λ q r. q.name ≢ r.name) program.roots
distinct_roots program settled =
    left_of_append (λ r. r.name) program.roots (map (λ c. c.name) program.caches) (map (λ w. w.name) program.words) settled.distinct_globals

known_root :
    (program : Program) (i : ℕ) → Settled program → IsScalarRoot program i
    → (roots_place program (root_at program i) ≡ i) × (list_all is_name_character (root_at program i) ≡ true)
known_root program i settled there = (
  ap (λ o. roots_place program (raw_root o)) there.1
      ∙ place_of-at (λ r. r.name) program.roots i there.0 (distinct_roots program settled) there.1,
  ap (λ o. list_all is_name_character (raw_root o)) there.1
      ∙ name_characters there.0.name (All-at (IsRoot program) program.roots i there.0 settled.roots there.1).name,
)

-- ---- expressions

abbrev StepsAreNames : Way → Type 0
StepsAreNames way = All IsName way.1

no_roots_found : (program : Program) (place : List ℕ → ℕ) (e : Expr) → roots_of e ≡ [] → FindsRoots program place e
no_roots_found program place e none = let P : ℕ → Type 0 = λ i. place (root_at program i) ≡ i in subst (All P) (sym none) (All-nil P)

no_roots_named : (program : Program) (e : Expr) → roots_of e ≡ [] → All (λ i. list_all is_name_character (root_at program i) ≡ true) (roots_of e)
no_roots_named program e none =
    let P : ℕ → Type 0 = λ i. list_all is_name_character (root_at program i) ≡ true in subst (All P) (sym none) (All-nil P)

steps_are_names : (e : Expr) → All (λ way. AreSteps way.1) (paths_of e) → All StepsAreNames (paths_of e)
steps_are_names e all = All-weaker (λ way. AreSteps way.1) StepsAreNames (λ way h. h.1) (paths_of e) all

pub known_option : (program : Program) (node : TypeId) (e : Expr) → IsOption program node e → ExprIn program e
known_option program node e h = record {
  found = no_roots_found program (roots_place program) e h.no_roots;
  writable = record {
    operators = h.operators;
    steps = steps_are_names e h.steps;
    roots = no_roots_named program e h.no_roots;
  };
}

pub known_field_desc : (program : Program) (node union : TypeId) (e : Expr) → IsFieldDesc program node union e → ExprIn program e
known_field_desc program node union e h = record {
  found = no_roots_found program (roots_place program) e h.no_roots;
  writable = record {
    operators = h.operators;
    steps = steps_are_names e h.steps;
    roots = no_roots_named program e h.no_roots;
  };
}

roots_found : (program : Program) (e : Expr) → Settled program → All (IsScalarRoot program) (roots_of e) → FindsRoots program (roots_place program) e
roots_found program e settled all =
    All-weaker (IsScalarRoot program) (λ i. roots_place program (root_at program i) ≡ i) (λ i h. (known_root program i settled h).0) (roots_of e) all

roots_named :
    (program : Program) (e : Expr) → Settled program → All (IsScalarRoot program) (roots_of e)
    → All (λ i. list_all is_name_character (root_at program i) ≡ true) (roots_of e)
roots_named program e settled all =
    All-weaker (IsScalarRoot program) (λ i. list_all is_name_character (root_at program i) ≡ true) (λ i h. (known_root program i settled h).1)
    (roots_of e) all

pub known_root_count : (program : Program) (e : Expr) → Settled program → IsRootCount program e → ExprIn program e
known_root_count program e settled h = record {
  found = roots_found program e settled h.roots;
  writable = record {
    operators = h.operators;
    steps = subst (All StepsAreNames) (sym h.no_paths) (All-nil StepsAreNames);
    roots = roots_named program e settled h.roots;
  };
}

-- the names on a path that leads somewhere are names of fields
path_names :
    (program : Program) (node : TypeId) (steps : List (List ℕ)) (type : Ty) → Settled program → Leads program by_name node steps type
    → All IsName steps
path_names program node steps type settled (last_step {x = x} {s = s} {f = f} there picks may) =
    All-cons IsName x [] (subst IsName picks (All-contains (IsField program node s) s.fields f (settled.structures node s there).fields may.there).name)
    (All-nil IsName)
path_names program node steps type settled (next_step {next = next} {x = x} {xs = xs} {s = s} {f = f} {type = t} there picks may is rest) =
    All-cons IsName x xs (subst IsName picks (All-contains (IsField program node s) s.fields f (settled.structures node s there).fields may.there).name)
    (path_names program next xs t settled rest)

known_root_desc : (program : Program) (union : TypeId) (e : Expr) → Settled program → IsRootDesc program union e → ExprIn program e
known_root_desc program union e settled h = record {
  found = roots_found program e settled h.roots;
  writable = record {
    operators = h.operators;
    steps =
        All-weaker (λ way. (way.0 ≡ Here) × LeadsToNumber program union way.1) StepsAreNames
        (λ way l. path_names program union way.1 l.1.0 settled l.1.1) (paths_of e) h.paths;
    roots = roots_named program e settled h.roots;
  };
}

-- the `desc` of a union itself
pub known_own_desc :
    (program : Program) (node : TypeId) (s : Structure) (e : Expr) → Settled program → HasStructure program node s → s.is_union ≡ true
    → s.desc ≡ Some e → ExprIn program e
known_own_desc program node s e settled there union is =
    let sort : IsUnion program node s = subst (IsOfItsKind program node s) union (settled.structures node s there).sort in
    known_option program node e (subst (λ d. IfSome d (IsOption program node)) is sort.desc)

pub known_desc_of_root :
    (program : Program) (node : TypeId) (s : Structure) (e : Expr) → Settled program → HasStructure program node s → s.is_union ≡ true
    → IsDescOfRoot program node s e → ExprIn program e
known_desc_of_root program node s e settled there union h = elim h [
  | inl is ↦ known_own_desc program node s e settled there union is
  | inr desc ↦ known_root_desc program node e settled desc
]
