-- What a structure begins with, step by step; and that no walk along first fields is longer than there are structures.
use Rattle.std.proofs.Common.{◌≡◌, ℕ, ◌+◌, ◌≤◌, ◌<◌, ◌⊎◌, inl, inr, Bool, true, false, cond, ◌||◌, List, [], ◌∷◌, length, Option, Some, None, slice_get, ap, sym, subst, ◌∙◌, refl, arith, nat_eq}
use Rattle.std.specs.Prelude.{Contains}
use Rattle.std.specs.List.{AllByRecursion, IsDistinct, list_any}
use Rattle.std.proofs.lemmas.List.Elements.{Contains-append_cases, Contains-append_right}
use Rattle.std.proofs.lemmas.Map.Keys.{IsDistinct-cons}
use Rattle.std.proofs.lemmas.Map.Steps.{length-le_from_distinct_below}
use Rattle.std.proofs.lemmas.Map.Views.{Contains-from_any}
use Rattle.std.proofs.lemmas.Option.{slice_get_within}
use Rattle.gt_types.specs.declared.types.TypeId.{TypeId}
use Rattle.gt_types.specs.declared.types.Ty.{Ty}
use Rattle.gt_types.specs.declared.types.Ty.TheVariants as ty
use Rattle.gt_types.specs.declared.program.Field.{Field}
use Rattle.gt_types.specs.declared.program.Structure.{Structure}
use Rattle.gt_types.specs.declared.program.Program.{Program}
use Rattle.gt_types.specs.Contains.{HasStructure, itself}
use Rattle.gt_types.specs.Unions.{BeginsWith, is_it, by_first}
use Rattle.gt_unions.specs.Beginnings.{Begins, first_structure, first_inside, first_of}
use Rattle.gt_paths.specs.Numbers.{numbered}
use Rattle.gt_paths.proofs.Ascents.{is_one, nat_same}
use Rattle.gt_paths.proofs.Nodes.{itself-node, some_is}

-- ---- one step

-- a struct whose first field begins with a structure
pub record ByFirst (program : Program) (outer node : TypeId) : Type 0 where
  pub s : Structure
  pub f : Field
  pub fs : List Field
  pub there : HasStructure program outer s
  pub kind : s.is_union ≡ false
  pub fields : s.fields ≡ f ∷ fs
  pub rest : BeginsWith program f.ty node

cases : (program : Program) {type : Ty} {node : TypeId} → BeginsWith program type node → (outer : TypeId) → itself type ≡ Some outer → (outer ≡ node) ⊎ ByFirst program outer node
cases program (is_it {node = node}) outer e = inl (sym (some_is node outer e))
cases program (by_first {outer = own} {node = node} {s = s} {f = f} {fs = fs} there struct' fields rest) outer e =
    inr (subst (λ n. ByFirst program n node) (some_is own outer e) (record { s = s; f = f; fs = fs; there = there; kind = struct'; fields = fields; rest = rest }))

pub is_structure : (program : Program) {type : Ty} {node : TypeId} → BeginsWith program type node → (outer : TypeId) × (itself type ≡ Some outer)
is_structure program (is_it {node = node}) = (node, refl)
is_structure program (by_first {outer = outer} there struct' fields rest) = (outer, refl)

-- how a type spells a structure does not matter
pub of_itself : (program : Program) (type : Ty) (outer node : TypeId) → itself type ≡ Some outer → Begins program outer node → BeginsWith program type node
of_itself program type outer node e begins =
    let found = itself-node type outer e in
    elim (cases program begins outer refl) [
      | inl same ↦ subst (λ (t : Ty). BeginsWith program t node) (sym found.1) (subst (λ (n : TypeId). BeginsWith program (ty.Node outer found.0) n) same is_it)
      | inr first ↦ subst (λ (t : Ty). BeginsWith program t node) (sym found.1) (by_first first.there first.kind first.fields first.rest)
    ]

pub to_itself : (program : Program) (type : Ty) (outer node : TypeId) → itself type ≡ Some outer → BeginsWith program type node → Begins program outer node
to_itself program type outer node e begins =
    elim (cases program begins outer e) [
      | inl same ↦ subst (λ (n : TypeId). Begins program outer n) same is_it
      | inr first ↦ by_first first.there first.kind first.fields first.rest
    ]

first_begins : (program : Program) (outer : TypeId) (s : Structure) (f : Field) (fs : List Field) → HasStructure program outer s → s.is_union ≡ false → s.fields ≡ f ∷ fs
    → first_of program outer ≡ itself f.ty
first_begins program outer s f fs there kind fields = ap first_inside there ∙ ap (λ (b : Bool). cond b None (first_structure s.fields)) kind ∙ ap first_structure fields

-- the structure that is the first field of a struct
record FirstIs (program : Program) (outer next : TypeId) : Type 0 where
  s : Structure
  f : Field
  fs : List Field
  there : HasStructure program outer s
  kind : s.is_union ≡ false
  fields : s.fields ≡ f ∷ fs
  type : itself f.ty ≡ Some next

first_of_fields : (program : Program) (outer next : TypeId) (s : Structure) (b : Bool) (fields : List Field) → HasStructure program outer s → s.is_union ≡ b → s.fields ≡ fields
    → cond b None (first_structure fields) ≡ Some next → FirstIs program outer next
first_of_fields program outer next s true fields there kind same e = cc
first_of_fields program outer next s false [] there kind same e = cc
first_of_fields program outer next s false (f ∷ fs) there kind same e = record { s = s; f = f; fs = fs; there = there; kind = kind; fields = same; type = e }

first_of_structure : (program : Program) (outer next : TypeId) (found : Option Structure) → slice_get program.structures outer.0 ≡ found → first_inside found ≡ Some next → FirstIs program outer next
first_of_structure program outer next None there e = cc
first_of_structure program outer next (Some s) there e = first_of_fields program outer next s s.is_union s.fields there refl refl e

first_is : (program : Program) (outer next : TypeId) → first_of program outer ≡ Some next → FirstIs program outer next
first_is program outer next e = first_of_structure program outer next (slice_get program.structures outer.0) refl e

pub begins_next : (program : Program) (at next node : TypeId) → ¬ (at ≡ node) → first_of program at ≡ Some next → Begins program at node → Begins program next node
begins_next program at next node other e begins =
    elim (cases program begins at refl) [
      | inl same ↦ absurd (other same)
      | inr first ↦ to_itself program first.f.ty next node (sym (first_begins program at first.s first.f first.fs first.there first.kind first.fields) ∙ e) first.rest
    ]

pub begins_before : (program : Program) (at next node : TypeId) → first_of program at ≡ Some next → Begins program next node → Begins program at node
begins_before program at next node e begins =
    let first = first_is program at next e in
    by_first first.there first.kind first.fields (of_itself program first.f.ty next node first.type begins)

pub begins_no_more : (program : Program) (at node : TypeId) → first_of program at ≡ None → Begins program at node → at ≡ node
begins_no_more program at node none begins =
    elim (cases program begins at refl) [
      | inl same ↦ same
      | inr first ↦
          let found = is_structure program first.rest in
          let never : None ≡ Some found.0 = sym none ∙ first_begins program at first.s first.f first.fs first.there first.kind first.fields ∙ found.1 in cc
    ]

pub begins_then : (program : Program) (c : TypeId) {type : Ty} {b : TypeId} → BeginsWith program type b → Begins program b c → BeginsWith program type c
begins_then program c (is_it {node = node} {desc = desc}) begins = of_itself program (ty.Node node desc) node c refl begins
begins_then program c (by_first there struct' fields rest) begins = by_first there struct' fields (begins_then program c rest begins)

-- ---- a walk

-- No structure of a kind is begun with.
abbrev pub Barren : Program → (TypeId → Type 0) → TypeId → Type 0
Barren program Q at = (c : TypeId) → Q c → ¬ Begins program at c

-- so many structures were walked through, no two the same and none of this kind
pub record Trail (program : Program) (Q : TypeId → Type 0) (n : ℕ) (at : TypeId) : Type 0 where
  pub seen : List ℕ
  pub long : length seen ≡ n
  pub distinct : IsDistinct nat_eq seen
  pub below : (q : ℕ) → Contains seen q → q < length program.structures
  pub never : (q : ℕ) → Contains seen q → ¬ Q (numbered q)
  pub closed : (q : ℕ) (next : TypeId) → Contains seen q → first_of program (numbered q) ≡ Some next → Contains seen next.0 ⊎ (next ≡ at)

abbrev pub Walking : Program → (TypeId → Type 0) → ℕ → TypeId → Type 0
Walking program Q n at = Trail program Q n at ⊎ Barren program Q at

none_seen : (q : ℕ) → ¬ Contains [] q
none_seen q there = absurd (omega (arith, there.1))

none_distinct : IsDistinct nat_eq []
unfolding IsDistinct
none_distinct = tt

pub walk_begins : (program : Program) (Q : TypeId → Type 0) (at : TypeId) → Walking program Q 0 at
walk_begins program Q at = inl (record {
  seen = [];
  long = refl;
  distinct = none_distinct;
  below = λ q there. absurd (none_seen q there);
  never = λ q there. absurd (none_seen q there);
  closed = λ q next there. absurd (none_seen q there);
})

inside : (program : Program) (Q : TypeId → Type 0) (n : ℕ) (at : TypeId) (trail : Trail program Q n at) → Contains trail.seen at.0 → (next : TypeId) → Contains trail.seen next.0 ⊎ (next ≡ at) → Contains trail.seen next.0
inside program Q n at trail here next (inl there) = there
inside program Q n at trail here next (inr same) = subst (λ (t : TypeId). Contains trail.seen t.0) (sym same) here

-- structures that begin with one another alone, none of which is of the kind
goes_round : (program : Program) (Q : TypeId → Type 0) (n : ℕ) (at : TypeId) (trail : Trail program Q n at) → Contains trail.seen at.0 → {type : Ty} {node : TypeId} → BeginsWith program type node → (x : TypeId)
    → itself type ≡ Some x → Contains trail.seen x.0 → Q node → ⊥
goes_round program Q n at trail here (is_it {node = node}) x e there q = trail.never x.0 there (subst Q (some_is node x e) q)
goes_round program Q n at trail here (by_first {outer = own} {node = node} {s = s} {f = f} {fs = fs} there' struct' fields begins) x e there q =
    let found = is_structure program begins in
    let own_there = subst (λ (t : TypeId). Contains trail.seen t.0) (sym (some_is own x e)) there in
    let next = trail.closed own.0 found.0 own_there (first_begins program own s f fs there' struct' fields ∙ found.1) in
    goes_round program Q n at trail here begins found.0 found.1 (inside program Q n at trail here found.0 next) q

none_equal_by : (k x : ℕ) (xs : List ℕ) (b : Bool) → nat_eq k x ≡ b → (list_any (nat_eq k) xs ≡ false → AllByRecursion (λ y. nat_eq k y ≡ false) xs) → (b || list_any (nat_eq k) xs) ≡ false
    → AllByRecursion (λ y. nat_eq k y ≡ false) (x ∷ xs)
none_equal_by k x xs true is rest none = absurd (cc)
none_equal_by k x xs false is rest none = (is, rest none)

none_equal : (k : ℕ) (ks : List ℕ) → list_any (nat_eq k) ks ≡ false → AllByRecursion (λ y. nat_eq k y ≡ false) ks
none_equal k [] none = tt
none_equal k (x ∷ xs) none = none_equal_by k x xs (nat_eq k x) refl (none_equal k xs) none

first_within : (program : Program) (at next : TypeId) → first_of program at ≡ Some next → at.0 < length program.structures
first_within program at next e = let first = first_is program at next e in slice_get_within program.structures at.0 first.s first.there

first_or_later : (k q : ℕ) (ks : List ℕ) → Contains (k ∷ ks) q → (q ≡ k) ⊎ Contains ks q
first_or_later k q ks there = elim (Contains-append_cases (k ∷ []) ks q there) [
  | inl first ↦ inl (is_one k q first)
  | inr later ↦ inr later
]

same_next : (a b : TypeId) → Some a ≡ Some b → a ≡ b
same_next a b e = cc

longer : (program : Program) (Q : TypeId → Type 0) (n : ℕ) (at next : TypeId) → ¬ Q at → first_of program at ≡ Some next → (trail : Trail program Q n at) → list_any (nat_eq at.0) trail.seen ≡ false
    → Trail program Q (n + 1) next
longer program Q n at next fails e trail new = record {
  seen = at.0 ∷ trail.seen;
  long = omega (arith, trail.long);
  distinct = IsDistinct-cons nat_eq at.0 trail.seen (none_equal at.0 trail.seen new) trail.distinct;
  below = λ q there. elim (first_or_later at.0 q trail.seen there) [
    | inl same ↦ subst (λ (k : ℕ). k < length program.structures) (sym same) (first_within program at next e)
    | inr later ↦ trail.below q later
  ];
  never = λ q there is. elim (first_or_later at.0 q trail.seen there) [
    | inl same ↦ fails (subst (λ (k : ℕ). Q (numbered k)) same is)
    | inr later ↦ trail.never q later is
  ];
  closed = λ q after there first. elim (first_or_later at.0 q trail.seen there) [
    | inl same ↦ inr (same_next after next (sym (subst (λ (k : ℕ). first_of program (numbered k) ≡ Some after) same first) ∙ e))
    | inr later ↦ elim (trail.closed q after later first) [
      | inl seen ↦ inl (Contains-append_right (at.0 ∷ []) trail.seen after.0 seen)
      | inr is ↦ inl (0, omega arith, ap (λ (t : TypeId). t.0) (sym is))
    ]
  ];
}

round : (program : Program) (Q : TypeId → Type 0) (n : ℕ) (at next : TypeId) → first_of program at ≡ Some next → (trail : Trail program Q n at) → list_any (nat_eq at.0) trail.seen ≡ true → Barren program Q next
round program Q n at next e trail old c is begins =
    let here = Contains-from_any nat_same at.0 trail.seen old in
    goes_round program Q n at trail here (begins_before program at next c e begins) at refl here is

-- one more step, from a structure that is not of the kind
pub walk_on : (program : Program) (Q : TypeId → Type 0) (n : ℕ) (at next : TypeId) → ¬ Q at → first_of program at ≡ Some next → Walking program Q n at → Walking program Q (n + 1) next
walk_on program Q n at next fails e (inr barren) = inr (λ c is begins. barren c is (begins_before program at next c e begins))
walk_on program Q n at next fails e (inl trail) = by (list_any (nat_eq at.0) trail.seen) refl where
  by : (b : Bool) → list_any (nat_eq at.0) trail.seen ≡ b → Walking program Q (n + 1) next
  by true old = inr (round program Q n at next e trail old)
  by false new = inl (longer program Q n at next fails e trail new)

-- a walk of so many steps has gone round
pub walk_ends : (program : Program) (Q : TypeId → Type 0) (items : List Structure) (n : ℕ) (at : TypeId) → items ≡ program.structures → length items + 1 ≤ n → Walking program Q n at → Barren program Q at
walk_ends program Q items n at same long (inr barren) = barren
walk_ends program Q items n at same long (inl trail) =
    let many : length program.structures + 1 ≤ n = subst (λ (xs : List Structure). length xs + 1 ≤ n) same long in
    let few = length-le_from_distinct_below trail.seen (length program.structures) trail.distinct (λ q there. trail.below q (Contains-from_any nat_same q trail.seen there)) in
    absurd (omega (arith, few, trail.long, many))

-- a walk that ends at a structure with no first field
pub walk_stops : (program : Program) (Q : TypeId → Type 0) (at : TypeId) → ¬ Q at → first_of program at ≡ None → Barren program Q at
walk_stops program Q at fails none c is begins = fails (subst Q (sym (begins_no_more program at c none begins)) is)
