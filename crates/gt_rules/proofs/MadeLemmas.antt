-- The structures, fields and roots of a program stand at the places of those of its draft.
use Rattle.std.proofs.Common.{◌≡◌, ◌∙◌, ◌⊎◌, inl, inr, ℕ, ◌≤◌, ◌<◌, List, length, get_or, Some, None, refl, sym, ap, subst, arith}
use Rattle.std.specs.Prelude.{slice_get, All}
use Rattle.std.proofs.lemmas.List.{length-map}
use Rattle.std.proofs.lemmas.List.Elements.{All-weaker}
use Rattle.std.proofs.lemmas.Option.{same_Some, slice_get-get_or, slice_get_cases, slice_get_read}
use Rattle.gt_types.specs.declared.limits.TheConstants.{MAX_STRUCTURES, MAX_FIELDS}
use Rattle.gt_types.specs.declared.program.Structure.{Structure}
use Rattle.gt_types.specs.declared.program.Program.{Program}
use Rattle.gt_drafts.specs.declared.draft.Draft.{Draft}
use Rattle.gt_drafts.specs.declared.draft.DraftField.{DraftField}
use Rattle.gt_drafts.specs.declared.draft.DraftRoot.{DraftRoot}
use Rattle.gt_drafts.specs.declared.draft.DraftStructure.{DraftStructure}
use Rattle.gt_markers.specs.Sound.{IsSound}
use Rattle.gt_typing.specs.SmallTypes.{HasSmallId, IsSmallType}
use Rattle.gt_declare.specs.Programs.{IsMadeOf, all_unchained, field_of, root_of, unchained}
use Rattle.gt_declare.proofs.Wholes.{chained_at, chained_length}
use Rattle.gt_declare.proofs.LayingSteps.{small_structure, small_root}

-- as many structures, and as many roots
pub as_many_structures : (draft : Draft) (program : Program) → IsMadeOf draft program → length program.structures ≡ length draft.structures
as_many_structures draft program made =
    ap (λ (p : Program). length p.structures) made.made ∙ chained_length (all_unchained draft made.planes) 0 draft.structures (unchained draft made.planes)

pub as_many_roots : (draft : Draft) (program : Program) → IsMadeOf draft program → length program.roots ≡ length draft.roots
as_many_roots draft program made = ap (λ (p : Program). length p.roots) made.made ∙ length-map draft.roots (root_of draft made.planes)

-- a structure of the draft is one of the program, with as many fields
pub structure_made : (draft : Draft) (program : Program) → IsMadeOf draft program → (k : ℕ) (ds : DraftStructure) → slice_get draft.structures k ≡ Some ds
    → (s : Structure) × (slice_get program.structures k ≡ Some s) × (length s.fields ≡ length ds.fields)
structure_made draft program made k ds drafted =
    let plain : Structure = unchained draft made.planes ds in
    let chained = chained_at (all_unchained draft made.planes) 0 draft.structures (unchained draft made.planes) k ds drafted in
    (record plain { chains = chained.0 }, ap (λ (p : Program). slice_get p.structures k) made.made ∙ chained.1, length-map ds.fields (field_of draft made.planes ds.is_union))

-- the structure of the program at a place has as many fields as the draft's
pub as_many_fields : (draft : Draft) (program : Program) → IsMadeOf draft program → (k : ℕ) (ds : DraftStructure) (s : Structure) → slice_get draft.structures k ≡ Some ds
    → slice_get program.structures k ≡ Some s → length ds.fields ≡ length s.fields
as_many_fields draft program made k ds s drafted there =
    let by = structure_made draft program made k ds drafted in
    sym by.2 ∙ ap (λ (t : Structure). length t.fields) (same_Some by.0 s (sym by.1 ∙ there))

-- ---- limits

pub few_structures : (draft : Draft) (program : Program) → IsSound draft → IsMadeOf draft program → length program.structures ≤ MAX_STRUCTURES
few_structures draft program sound made = let same = as_many_structures draft program made in let few = sound.few_structures in omega (arith, same, few)

pub few_fields : (draft : Draft) (program : Program) → IsSound draft → IsMadeOf draft program → All (λ (s : Structure). length s.fields ≤ MAX_FIELDS) program.structures
few_fields draft program sound made k s within =
    few_at (slice_get_cases draft.structures k).1
  where
    few_at : ((ds : DraftStructure) × (k < length draft.structures) × (slice_get draft.structures k ≡ Some ds) × (get_or draft.structures k ds ≡ ds)) ⊎ ((length draft.structures ≤ k) × (slice_get draft.structures k ≡ None))
        → length (get_or program.structures k s).fields ≤ MAX_FIELDS
    few_at (inl (ds, inside, there, is)) =
        let fields = as_many_fields draft program made k ds (get_or program.structures k s) there (slice_get-get_or program.structures k s within) in
        let few : length ds.fields ≤ MAX_FIELDS = subst (λ (t : DraftStructure). length t.fields ≤ MAX_FIELDS) is (sound.structures k ds inside).few in
        omega (arith, fields, few)
    few_at (inr (past, none)) = let same = as_many_structures draft program made in absurd (omega (arith, past, within, same))

-- ---- numbers of structures fit

pub small_at : (draft : Draft) (items : List DraftStructure) (i : ℕ) (s : DraftStructure) → IsSound draft → items ≡ draft.structures → i < length items → s ≡ get_or items i s
    → All (λ (f : DraftField). HasSmallId f.ty.resolved.base) s.fields
small_at draft items i s sound same within at = All-weaker (λ (f : DraftField). IsSmallType f.ty) (λ (f : DraftField). HasSmallId f.ty.resolved.base) (λ f small. small.id) s.fields (small_structure draft items i s sound same within at)

pub small_root_at : (draft : Draft) (items : List DraftRoot) (i : ℕ) (r : DraftRoot) → IsSound draft → items ≡ draft.roots → i < length items → r ≡ get_or items i r
    → HasSmallId r.ty.resolved.base
small_root_at draft items i r sound same within at = (small_root draft items i r sound same within at).id

-- ---- what is read at a place

pub read_at : {X : Type 0} (items xs : List X) (i : ℕ) (x : X) → items ≡ xs → i < length items → x ≡ get_or items i x → slice_get xs i ≡ Some x
read_at {X} items xs i x same within at = subst (λ (ys : List X). slice_get ys i ≡ Some x) same (slice_get_read items (length items) i x refl within at)
