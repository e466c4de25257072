-- What a structure begins with, step by step.
use Rattle.std.proofs.Common.{◌≡◌, ℕ, suc, ◌+◌, ◌≤◌, ◌⊎◌, inl, inr, Bool, true, false, cond, List, [], ◌∷◌, Option, Some, None, slice_get, ap, sym, subst, ◌∙◌, refl, arith}
use Rattle.std.specs.Prelude.{Contains}
use Rattle.std.specs.Bool.{Decides}
use Rattle.gt_types.specs.declared.limits.TheConstants.{MAX_DEPTH}
use Rattle.gt_types.specs.declared.types.TypeId.{TypeId}
use Rattle.gt_types.specs.declared.types.Ty.{Ty}
use Rattle.gt_types.specs.declared.types.Ty.TheVariants as ty
use Rattle.gt_types.specs.declared.program.Field.{Field}
use Rattle.gt_types.specs.declared.program.Structure.{Structure}
use Rattle.gt_types.specs.declared.program.Program.{Program}
use Rattle.gt_types.specs.Contains.{HasStructure, ContainsStructure, Nests, once, deeper, ContainsAtDepth, itself}
use Rattle.gt_types.specs.Settled.{Settled}
use Rattle.gt_types.specs.Unions.{BeginsWith, is_it, by_first}
use Rattle.gt_unions.specs.Beginnings.{Begins, first_structure, first_inside, first_of}
use Rattle.gt_unions.proofs.Structures.{some_is, itself-node, held-node, nests_more, nests_nests}

-- ---- the first field

-- a struct whose first field begins with a structure
record ByFirst (program : Program) (outer node : TypeId) : Type 0 where
  s : Structure
  f : Field
  fs : List Field
  there : HasStructure program outer s
  kind : s.is_union ≡ false
  fields : s.fields ≡ f ∷ fs
  rest : BeginsWith program f.ty node

cases : (program : Program) {type : Ty} {node : TypeId} → BeginsWith program type node → (outer : TypeId) → itself type ≡ Some outer → (outer ≡ node) ⊎ ByFirst program outer node
cases program (is_it {node = node}) outer e = inl (sym (some_is node outer e))
cases program (by_first {outer = own} {node = node} {s = s} {f = f} {fs = fs} there struct' fields rest) outer e =
    inr (subst (λ n. ByFirst program n node) (some_is own outer e) (record { s = s; f = f; fs = fs; there = there; kind = struct'; fields = fields; rest = rest }))

pub is_structure : (program : Program) {type : Ty} {node : TypeId} → BeginsWith program type node → (outer : TypeId) × (itself type ≡ Some outer)
is_structure program (is_it {node = node}) = (node, refl)
is_structure program (by_first {outer = outer} there struct' fields rest) = (outer, refl)

-- how a type spells a structure does not matter
pub of_itself : (program : Program) (type : Ty) (outer node : TypeId) → itself type ≡ Some outer → Begins program outer node → BeginsWith program type node
of_itself program type outer node e begins =
    let found = itself-node type outer e in
    elim (cases program begins outer refl) [
      | inl same ↦ subst (λ (t : Ty). BeginsWith program t node) (sym found.1) (subst (λ (n : TypeId). BeginsWith program (ty.Node outer found.0) n) same is_it)
      | inr first ↦ subst (λ (t : Ty). BeginsWith program t node) (sym found.1) (by_first first.there first.kind first.fields first.rest)
    ]

pub to_itself : (program : Program) (type : Ty) (outer node : TypeId) → itself type ≡ Some outer → BeginsWith program type node → Begins program outer node
to_itself program type outer node e begins =
    elim (cases program begins outer e) [
      | inl same ↦ subst (λ (n : TypeId). Begins program outer n) same is_it
      | inr first ↦ by_first first.there first.kind first.fields first.rest
    ]

-- the structure that is the first field of a struct
record FirstIs (program : Program) (outer next : TypeId) : Type 0 where
  s : Structure
  f : Field
  fs : List Field
  there : HasStructure program outer s
  kind : s.is_union ≡ false
  fields : s.fields ≡ f ∷ fs
  type : itself f.ty ≡ Some next

first_of_fields : (program : Program) (outer next : TypeId) (s : Structure) (b : Bool) (fields : List Field) → HasStructure program outer s → s.is_union ≡ b → s.fields ≡ fields
    → cond b None (first_structure fields) ≡ Some next → FirstIs program outer next
first_of_fields program outer next s true fields there kind same e = cc
first_of_fields program outer next s false [] there kind same e = cc
first_of_fields program outer next s false (f ∷ fs) there kind same e = record { s = s; f = f; fs = fs; there = there; kind = kind; fields = same; type = e }

first_of_structure : (program : Program) (outer next : TypeId) (found : Option Structure) → slice_get program.structures outer.0 ≡ found → first_inside found ≡ Some next → FirstIs program outer next
first_of_structure program outer next None there e = cc
first_of_structure program outer next (Some s) there e = first_of_fields program outer next s s.is_union s.fields there refl refl e

first_is : (program : Program) (outer next : TypeId) → first_of program outer ≡ Some next → FirstIs program outer next
first_is program outer next e = first_of_structure program outer next (slice_get program.structures outer.0) refl e

first_begins : (program : Program) (outer node : TypeId) (first : ByFirst program outer node) → first_of program outer ≡ itself first.f.ty
first_begins program outer node first =
    ap first_inside first.there ∙ ap (λ (b : Bool). cond b None (first_structure first.s.fields)) first.kind ∙ ap first_structure first.fields

-- ---- a step of the loop

-- the structure that is reached in so many steps
abbrev pub Reached : Program → ℕ → TypeId → TypeId → Type 0
Reached program n outer at = ((n ≡ 0) × (outer ≡ at)) ⊎ Nests program n outer at

-- both begin with a structure, or neither
abbrev pub Alike : Program → TypeId → TypeId → TypeId → Type 0
Alike program node outer at = (Begins program outer node → Begins program at node) × (Begins program at node → Begins program outer node)

contains_first : (program : Program) (outer next : TypeId) → FirstIs program outer next → ContainsStructure program outer next
contains_first program outer next first =
    let at : Contains first.s.fields first.f = subst (λ (xs : List Field). Contains xs first.f) (sym first.fields) (0, omega arith, refl) in
    let found = itself-node first.f.ty next first.type in
    (first.s, first.f, first.there, at, held-node first.f.ty next found.0 found.1)

pub reached_more : (program : Program) (n : ℕ) (outer at next : TypeId) → first_of program at ≡ Some next → Reached program n outer at → Reached program (n + 1) outer next
reached_more program n outer at next e (inl (none, same)) =
    let one : 1 ≡ n + 1 = omega (arith, none) in
    let first : Nests program 1 outer next = subst (λ (k : TypeId). Nests program 1 k next) (sym same) (once (contains_first program at next (first_is program at next e))) in
    inr (subst (λ (k : ℕ). Nests program k outer next) one first)
reached_more program n outer at next e (inr nested) =
    let more : suc n ≡ n + 1 = omega arith in
    inr (subst (λ (k : ℕ). Nests program k outer next) more (nests_more program next nested (contains_first program at next (first_is program at next e))))

begins_next : (program : Program) (at next node : TypeId) → ¬ (at ≡ node) → first_of program at ≡ Some next → Begins program at node → Begins program next node
begins_next program at next node other e begins =
    elim (cases program begins at refl) [
      | inl same ↦ absurd (other same)
      | inr first ↦ to_itself program first.f.ty next node (sym (first_begins program at node first) ∙ e) first.rest
    ]

begins_before : (program : Program) (at next node : TypeId) → first_of program at ≡ Some next → Begins program next node → Begins program at node
begins_before program at next node e begins =
    let first = first_is program at next e in
    by_first first.there first.kind first.fields (of_itself program first.f.ty next node first.type begins)

pub alike_more : (program : Program) (outer at next node : TypeId) → ¬ (at ≡ node) → first_of program at ≡ Some next → Alike program node outer at → Alike program node outer next
alike_more program outer at next node other e (to, from) =
    (λ begins. begins_next program at next node other e (to begins), λ begins. from (begins_before program at next node e begins))

pub it_begins : (program : Program) (outer at node : TypeId) → at ≡ node → Alike program node outer at → Decides true (Begins program outer node)
it_begins program outer at node same (to, from) =
    (λ _. from (subst (λ (n : TypeId). Begins program at n) same is_it), λ _. refl)

pub ends_here : (program : Program) (outer at node : TypeId) → ¬ (at ≡ node) → first_of program at ≡ None → Alike program node outer at → Decides false (Begins program outer node)
ends_here program outer at node other e (to, from) = (
  λ never. cc,
  λ begins.
      elim (cases program (to begins) at refl) [
        | inl same ↦ absurd (other same)
        | inr first ↦
            let found = is_structure program first.rest in
            let never : None ≡ Some found.0 = sym e ∙ first_begins program at node first ∙ found.1 in cc
      ],
)

pub too_deep : (program : Program) (n : ℕ) (outer at node : TypeId) → Settled program → MAX_DEPTH + 1 ≤ n → Reached program n outer at → Decides false (Begins program outer node)
too_deep program n outer at node settled many (inl (none, same)) = absurd (omega (arith, none, many))
too_deep program n outer at node settled many (inr nested) = let few = settled.depth n outer at nested in absurd (omega (arith, few, many))

-- ---- two that begin with one another

deep_begins : (program : Program) (outer next node : TypeId) → ContainsStructure program outer next → (next ≡ node) ⊎ ContainsAtDepth program next node → ContainsAtDepth program outer node
deep_begins program outer next node c (inl same) = (1, once (subst (λ (n : TypeId). ContainsStructure program outer n) same c))
deep_begins program outer next node c (inr (n, nested)) = (suc n, deeper c nested)

holds_beginning : (program : Program) {type : Ty} {node : TypeId} → BeginsWith program type node → (outer : TypeId) → itself type ≡ Some outer → (outer ≡ node) ⊎ ContainsAtDepth program outer node
holds_beginning program (is_it {node = node}) outer e = inl (sym (some_is node outer e))
holds_beginning program (by_first {outer = own} {node = node} {s = s} {f = f} {fs = fs} there struct' fields rest) outer e =
    let found = is_structure program rest in
    let first : FirstIs program own found.0 = record { s = s; f = f; fs = fs; there = there; kind = struct'; fields = fields; type = found.1 } in
    inr (subst (λ (n : TypeId). ContainsAtDepth program n node) (some_is own outer e)
    (deep_begins program own found.0 node (contains_first program own found.0 first) (holds_beginning program rest found.0 found.1)))

apart : (program : Program) (a b : TypeId) → Settled program → (a ≡ b) ⊎ ContainsAtDepth program a b → (b ≡ a) ⊎ ContainsAtDepth program b a → a ≡ b
apart program a b settled (inl same) other = same
apart program a b settled (inr inside) (inl same) = sym same
apart program a b settled (inr (n, inside)) (inr (m, back)) = absurd (settled.no_cycle a (nests_nests program inside back))

pub one_beginning : (program : Program) (a b : TypeId) → Settled program → Begins program a b → Begins program b a → a ≡ b
one_beginning program a b settled ab ba = apart program a b settled (holds_beginning program ab a refl) (holds_beginning program ba b refl)
