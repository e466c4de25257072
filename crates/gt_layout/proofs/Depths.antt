-- Structures from those that they contain.
use Rattle.std.proofs.Common.{◌≡◌, ℕ, zero, suc, ◌≤◌, ◌<◌, false, IsTrue, Option, Some, None, List, [], ◌∷◌, map, length, get_or, sym, ap, subst, ◌∙◌, refl, ◌⊎◌, inl, inr, arith}
use Rattle.std.specs.List.{All, Contains}
use Rattle.std.specs.Prelude.{slice_get}
use Rattle.std.proofs.lemmas.Option.{slice_get_cases}
use Rattle.std.proofs.lemmas.List.Elements.{All-head, All-tail, All-map, All-contains, Contains-get_or}
use Rattle.gt_types.specs.declared.expressions.Expr.{Expr}
use Rattle.gt_types.specs.declared.limits.TheConstants.{MAX_DEPTH}
use Rattle.gt_types.specs.declared.types.TypeId.{TypeId}
use Rattle.gt_types.specs.declared.types.Ty.{Ty}
use Rattle.gt_types.specs.declared.types.Ty.TheOpen as part
use Rattle.gt_types.specs.declared.types.Ty.TheFolds.{fold-roll-Ty}
use Rattle.gt_types.specs.declared.types.Ty.TheVariants.{rolls-Node}
use Rattle.gt_types.specs.declared.types.Ty.TheVariants as ty
use Rattle.gt_types.specs.declared.program.Field.{Field}
use Rattle.gt_types.specs.declared.program.Structure.{Structure}
use Rattle.gt_types.specs.declared.program.Program.{Program}
use Rattle.gt_types.specs.Contains.{HasStructure, ContainsStructure, Nests, once, deeper, held_by, itself}
use Rattle.gt_types.specs.Shapes.{innermost, innermost_step, is_structure}
use Rattle.gt_types.specs.Settled.{Settled, IsField}
use Rattle.gt_layout.specs.declared.planes.Plane.{Plane}
use Rattle.gt_layout.specs.declared.storages.Storage.{Storage}
use Rattle.gt_layout.specs.Storages.{extent_of_plane, storage_of, storages_of}
use Rattle.gt_layout.specs.Places.{align_of}
use Rattle.gt_layout.specs.Planes.{AreLaidOut, greatest, is_alignment, is_placeable}
use Rattle.gt_layout.proofs.Drafting.{align_placeable, max_aligned}
use Rattle.gt_layout.proofs.Types.{placeable_field}
use Rattle.gt_layout.proofs.Laying.{inside_field}

-- ---- what holds of a structure where it holds of those inside it

-- what holds of each structure inside this one
abbrev pub OfInner : Program → (TypeId → Type 0) → TypeId → Type 0
OfInner program P node = (inner : TypeId) (t : Structure) → HasStructure program inner t → ContainsStructure program node inner → P inner

module _ (program : Program) (P : TypeId → Type 0) (step : (node : TypeId) (s : Structure) → HasStructure program node s → OfInner program P node → P node) where
  within : (depth : ℕ) (node : TypeId) (s : Structure) → HasStructure program node s → ((n : ℕ) (inner : TypeId) → Nests program n node inner → n < depth) → P node
  within zero node s has deep = step node s has (λ inner t there contains. let h : 1 < 0 = deep 1 inner (once contains) in absurd (omega arith))
  within (suc depth) node s has deep =
      step node s has (λ inner t there contains. within depth inner t there (λ n last nests. let h : suc n < suc depth = deep (suc n) last (deeper contains nests) in omega arith))

  pub by_depth : Settled program → (node : TypeId) (s : Structure) → HasStructure program node s → P node
  by_depth settled node s has = within (suc MAX_DEPTH) node s has (λ n inner nests. let h : n ≤ MAX_DEPTH = settled.depth n node inner nests in omega arith)

-- ---- the structures of fields

pub held-node : (type : Ty) (node : TypeId) (desc : Option Expr) → type ≡ ty.Node node desc → held_by type ≡ Some node
held-node type node desc same = ap held_by same ∙ ap itself (ap innermost (sym (rolls-Node node desc)) ∙ fold-roll-Ty Ty innermost_step (part.Node node desc))

-- the structure that a field holds is there
pub inner_there : (program : Program) (node : TypeId) (s : Structure) (f : Field) (inner : TypeId) → Settled program → HasStructure program node s → Contains s.fields f → held_by f.ty ≡ Some inner
    → (t : Structure) × HasStructure program inner t × ContainsStructure program node inner
inner_there program node s f inner settled has contains held =
    let field = All-contains (IsField program node s) s.fields f (settled.structures node s has).fields contains in
    go (inside_field program _ f.ty inner field.names held) (slice_get_cases program.structures inner.0).1
  where
    go : inner.0 < length program.structures
        → ((t : Structure) × (inner.0 < length program.structures) × (slice_get program.structures inner.0 ≡ Some t) × (get_or program.structures inner.0 t ≡ t)) ⊎ ((length program.structures ≤ inner.0) × (slice_get program.structures inner.0 ≡ None))
        → (t : Structure) × HasStructure program inner t × ContainsStructure program node inner
    go lt (inl (t, _, at, _)) = (t, at, (s, f, has, contains, held))
    go lt (inr past) = absurd (omega (arith, lt, past.0))

-- a type is a structure, or it is none
pub node_cases : (type : Ty) → ((node : TypeId) × (desc : Option Expr) × (type ≡ ty.Node node desc)) ⊎ ((is_structure type ≡ false) × ((node : TypeId) (desc : Option Expr) → type ≡ ty.Node node desc → ⊥))
node_cases (ty.Node node desc) = inl (node, desc, refl)
node_cases type = inr (refl, λ node desc e. let o = ap is_structure e in absurd (cc))

-- ---- alignments

greatest_aligned : (fs : List Storage) → All (λ f. IsTrue (is_alignment (align_of f))) fs → IsTrue (is_alignment (greatest (map align_of fs)))
greatest_aligned [] all = refl
greatest_aligned (f ∷ fs) all =
    let P = λ (g : Storage). IsTrue (is_alignment (align_of g)) in
    max_aligned (align_of f) (greatest (map align_of fs)) (All-head P f fs all) (greatest_aligned fs (All-tail P f fs all))

module _ (program : Program) (planes : List Plane) (settled : Settled program) (laid : AreLaidOut program planes) where
  abbrev IsAligned : TypeId → Type 0
  IsAligned node = (plane : Plane) → slice_get planes node.0 ≡ Some plane → IsTrue (is_alignment plane.align)

  aligned_at : (place : ℕ) → (o : Option Plane) → slice_get planes place ≡ o → ((plane : Plane) → slice_get planes place ≡ Some plane → IsTrue (is_alignment plane.align)) → IsTrue (is_alignment (extent_of_plane o).align)
  aligned_at place (Some plane) e is = is plane e
  aligned_at place None e is = refl

  step : (node : TypeId) (s : Structure) → HasStructure program node s → OfInner program IsAligned node → IsAligned node
  step node s has inner plane at =
      let fields = (settled.structures node s has).fields in
      let placeable : All (λ (f : Field). IsTrue (is_placeable (storage_of planes f.ty))) s.fields = λ k d lt.
      placeable_field planes (get_or s.fields k d).ty (fields k d lt).shape (λ other held.
      let f = get_or s.fields k d in
      let there = inner_there program node s f other settled has (Contains-get_or s.fields k d lt) held in
      aligned_at other.0 (slice_get planes other.0) refl (inner other there.0 there.1 there.2)) in
      let each = All-map (λ f. IsTrue (is_alignment (align_of f))) (λ (f : Field). storage_of planes f.ty) s.fields (λ k d lt. align_placeable (storage_of planes (get_or s.fields k d).ty) (placeable k d lt)) in
      subst (λ n. IsTrue (is_alignment n)) (sym (laid.each node.0 s plane has at).align) (greatest_aligned (storages_of planes s.fields) each)

  pub aligned : (node : TypeId) (s : Structure) → HasStructure program node s → (plane : Plane) → slice_get planes node.0 ≡ Some plane → IsTrue (is_alignment plane.align)
  aligned node s has = by_depth program IsAligned step settled node s has
