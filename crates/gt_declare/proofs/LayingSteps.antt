-- One structure of a draft more that is laid out.
use Rattle.std.proofs.Common.{◌≡◌, ◌≢◌, ◌∙◌, ◌⊎◌, inl, inr, ℕ, zero, suc, ◌+◌, ◌-◌, ◌≤◌, ◌<◌, Bool, true, false, IsTrue, List, length, take, get_or, map, set, length-set, take_all, Some, None, option_map, refl, sym, ap, subst, arith}
use Rattle.std.specs.Prelude.{slice_get, if◌then◌else◌}
use Rattle.std.specs.List.{All}
use Rattle.std.proofs.lemmas.Bool.{cases_lt, cases_eq}
use Rattle.std.proofs.lemmas.List.{length-map}
use Rattle.std.proofs.lemmas.Option.{same_Some, none-some, slice_get-map, slice_get-get_or, slice_get_cases, slice_get_past, slice_get_within}
use Rattle.std.proofs.lemmas.List.Elements.{All-set, All-more, All-weaker}
use Rattle.gt_types.specs.declared.limits.TheConstants.{MAX_FIELDS}
use Rattle.gt_types.specs.declared.program.Field.{Field}
use Rattle.gt_types.specs.declared.program.Structure.{Structure}
use Rattle.gt_items.specs.declared.items.Stars.{Stars}
use Rattle.gt_items.specs.declared.items.Stars.TheVariants.{Zero}
use Rattle.gt_layout.specs.declared.planes.Plane.{Plane}
use Rattle.gt_layout.specs.Storages.{storage_of}
use Rattle.gt_layout.specs.Planes.{IsHeldPlane, held, is_alignment, is_placeable}
use Rattle.gt_layout.specs.Progress.{AreSound, Holds, IsLaid}
use Rattle.gt_layout.proofs.Drafting.{alignment_between, one_of}
use Rattle.gt_layout.proofs.Ideal.{same_list}
use Rattle.gt_layout.proofs.Laying.{aligned_at, close_at, get-set_other, get-set_same, get_at, read_at}
use Rattle.gt_drafts.specs.declared.types.BaseType.{BaseType}
use Rattle.gt_drafts.specs.declared.types.BaseType.TheVariants as base
use Rattle.gt_drafts.specs.declared.types.DeclaredType.{DeclaredType}
use Rattle.gt_drafts.specs.declared.draft.Draft.{Draft}
use Rattle.gt_drafts.specs.declared.draft.DraftField.{DraftField}
use Rattle.gt_drafts.specs.declared.draft.DraftRoot.{DraftRoot}
use Rattle.gt_drafts.specs.declared.draft.DraftStructure.{DraftStructure}
use Rattle.gt_drafts.specs.Options.{has_length}
use Rattle.gt_drafts.specs.Shapes.{IsNested, held_type, structure_by_value}
use Rattle.gt_markers.specs.Sound.{IsSound, IsSoundField, IsSoundRoot, IsSoundStructure, NamesStructure}
use Rattle.gt_typing.specs.SmallTypes.{IsSmallType}
use Rattle.gt_typing.proofs.SoundLemmas.{sound_small}
use Rattle.gt_declare.specs.Making.{AreHeldBy, AreLaidBy, Grows, HoldsShallow, IsHeldLaid, IsShallow}
use Rattle.gt_declare.specs.Programs.{field_of, unchained}
use Rattle.gt_declare.proofs.StructurePlanes.{inner_shallow, made_held, placeable_fields}
use Rattle.gt_declare.proofs.Ideals.{sound_at}

pub stays : (draft : Draft) (known : List Plane) → Grows draft known known
stays draft known = record { all = refl; kept = λ place laid. laid; sound = λ sound. sound; holds = λ planes laid_by holds. holds }

pub onward : (draft : Draft) (a b c : List Plane) → Grows draft a b → Grows draft b c → Grows draft a c
onward draft a b c first second = record {
  all = second.all ∙ first.all;
  kept = λ place laid. second.kept place (first.kept place laid);
  sound = λ sound. second.sound (first.sound sound);
  holds = λ planes laid_by holds. second.holds planes laid_by (first.holds planes laid_by holds);
}

-- ---- a list with one plane replaced

pub laid_there : (known : List Plane) (place : ℕ) (made : Plane) → place < length known → IsTrue (is_alignment made.align) → IsLaid (set known place made) place
laid_there known place made within aligned = (made, get-set_same known place made within, λ none. omega (arith, none, (alignment_between made.align aligned).0))

laid_set : (known : List Plane) (place other : ℕ) (made : Plane) → place < length known → IsTrue (is_alignment made.align) → (other ≡ place) ⊎ (other ≢ place) → IsLaid known other → IsLaid (set known place made) other
laid_set known place other made within aligned (inl same) laid = subst (λ (n : ℕ). IsLaid (set known place made) n) (sym same) (laid_there known place made within aligned)
laid_set known place other made within aligned (inr apart) laid = (laid.0, get-set_other known place other made apart ∙ laid.1, laid.2)

holds_set : (planes known : List Plane) (place other : ℕ) (made k p : Plane) → place < length known → ((plane : Plane) → slice_get planes place ≡ Some plane → made ≡ held plane) → Holds planes known
    → (other ≡ place) ⊎ (other ≢ place) → slice_get (set known place made) other ≡ Some k → slice_get planes other ≡ Some p → (k.align ≡ 0) ⊎ (k ≡ held p)
holds_set planes known place other made k p within right holds (inl same) at_known at_planes =
    let first : slice_get (set known place made) place ≡ Some k = subst (λ (n : ℕ). slice_get (set known place made) n ≡ Some k) same at_known in
    let second : slice_get planes place ≡ Some p = subst (λ (n : ℕ). slice_get planes n ≡ Some p) same at_planes in
    inr (same_Some k made (sym first ∙ get-set_same known place made within) ∙ right p second)
holds_set planes known place other made k p within right holds (inr apart) at_known at_planes =
    holds other k p (sym (get-set_other known place other made apart) ∙ at_known) at_planes

-- a structure more is laid out
one_laid : (draft : Draft) (known : List Plane) (place : ℕ) (made : Plane) → place < length known → IsTrue (is_alignment made.align)
    → ((planes : List Plane) → AreLaidBy draft planes → Holds planes known → (plane : Plane) → slice_get planes place ≡ Some plane → made ≡ held plane) → Grows draft known (set known place made)
one_laid draft known place made within aligned right = record {
  all = length-set known place made;
  kept = λ other laid. laid_set known place other made within aligned (cases_eq other place) laid;
  sound = λ sound. All-set (λ (p : Plane). (p.align ≡ 0) ⊎ IsTrue (is_alignment p.align)) known place made (inr aligned) sound;
  holds = λ planes laid_by holds other k p at_known at_planes. holds_set planes known place other made k p within (right planes laid_by holds) holds (cases_eq other place) at_known at_planes;
}

-- ---- what a sound draft gives

there_by : (draft : Draft) (function : Bool) (b : BaseType) (stars : Stars) (id : ℕ) → NamesStructure draft b → (if function then None else structure_by_value b stars) ≡ Some id → id < length draft.structures
there_by draft true b stars id there is = absurd (none-some id is)
there_by draft false (base.Structure other) Zero id there is = subst (λ (n : ℕ). n < length draft.structures) (same_Some other id is) there
there_by draft false b stars id there is = absurd (none-some id is)

-- what a sound field holds is in the draft
pub held_there : (draft : Draft) (t : DeclaredType) (id : ℕ) → NamesStructure draft t.resolved.base → held_type t ≡ Some id → id < length draft.structures
held_there draft t id there is = there_by draft t.is_function t.resolved.base t.resolved.stars id there is

shallow_by : (draft : Draft) (depth id : ℕ) → ¬ IsNested draft.structures depth id → (1 ≤ depth) × IsShallow draft (depth - 1) id
shallow_by draft zero id shallow = absurd (shallow tt)
shallow_by draft (suc depth) id shallow =
    let same : suc depth ≡ suc (suc depth - 1) = omega arith in (omega arith, subst (λ (n : ℕ). ¬ IsNested draft.structures n id) same shallow)

-- what a field of a structure holds is less deep
pub field_shallow : (draft : Draft) (place depth : ℕ) (structures : List DraftStructure) (s : DraftStructure) (items : List DraftField) (i : ℕ) (f : DraftField) → IsSound draft
    → structures ≡ draft.structures → place < length draft.structures → s ≡ get_or structures place s → items ≡ s.fields → i < length items → f ≡ get_or items i f → IsShallow draft depth place
    → HoldsShallow draft depth f.ty
field_shallow draft place depth structures s items i f sound same inside is items_are within at shallow id held_id =
    let there = read_at structures draft.structures place s same inside is in
    let within' : i < length s.fields = omega (arith, within, ap length items_are) in
    let at' : f ≡ get_or s.fields i f = at ∙ ap (λ (fs : List DraftField). get_or fs i f) items_are in
    let held_at : held_type (get_or s.fields i f).ty ≡ Some id = ap (λ (g : DraftField). held_type g.ty) (sym at') ∙ held_id in
    let sound_field : IsSoundField draft s.is_union f = subst (IsSoundField draft s.is_union) (sym at') ((sound_at draft place s sound there).fields i f within') in
    let by = shallow_by draft depth id (inner_shallow draft.structures place depth s there shallow i f within' id held_at) in
    (held_there draft f.ty id sound_field.type.there held_id, by.0, by.1)

-- the numbers of the fields of a structure fit
pub small_fields : (draft : Draft) (s : DraftStructure) → IsSound draft → IsSoundStructure draft s → All (λ (f : DraftField). IsSmallType f.ty) s.fields
small_fields draft s sound good k d within =
    let f = get_or s.fields k d in
    let t = (good.fields k d within).type in sound_small draft (has_length f.options) f.ty sound.few_structures t.bounds t.bits t.there

pub small_structure : (draft : Draft) (items : List DraftStructure) (i : ℕ) (s : DraftStructure) → IsSound draft → items ≡ draft.structures → i < length items → s ≡ get_or items i s
    → All (λ (f : DraftField). IsSmallType f.ty) s.fields
small_structure draft items i s sound same within at = small_fields draft s sound (one_of (IsSoundStructure draft) items draft.structures i s sound.structures same within at)

pub small_root : (draft : Draft) (items : List DraftRoot) (i : ℕ) (r : DraftRoot) → IsSound draft → items ≡ draft.roots → i < length items → r ≡ get_or items i r → IsSmallType r.ty
small_root draft items i r sound same within at =
    let t = (one_of (IsSoundRoot draft) items draft.roots i r sound.roots same within at).type in sound_small draft (has_length r.options) r.ty sound.few_structures t.bounds t.bits t.there

-- ---- the steps of the code

pub fields_laid : (known : List Plane) (items fields : List DraftField) (i : ℕ) → items ≡ fields → length items ≤ i → All (λ (f : DraftField). IsHeldLaid known f.ty) (take i items)
    → All (λ (f : DraftField). IsHeldLaid known f.ty) fields
fields_laid known items fields i same all laid = subst (λ (fs : List DraftField). All (λ (f : DraftField). IsHeldLaid known f.ty) fs) (take_all i items all ∙ same) laid

pub held_more : (draft : Draft) (a b : List Plane) (items : List DraftField) (i : ℕ) (f : DraftField) → i < length items → f ≡ get_or items i f → Grows draft a b → IsHeldLaid b f.ty
    → All (λ (g : DraftField). IsHeldLaid a g.ty) (take i items) → All (λ (g : DraftField). IsHeldLaid b g.ty) (take (i + 1) items)
held_more draft a b items i f within at grows laid before =
    All-more (λ (g : DraftField). IsHeldLaid b g.ty) items i f within
    (All-weaker (λ (g : DraftField). IsHeldLaid a g.ty) (λ (g : DraftField). IsHeldLaid b g.ty) (λ g laid id is. grows.kept id (laid id is)) (take i items) before)
    (subst (λ (g : DraftField). IsHeldLaid b g.ty) at laid)

pub few_made : (draft : Draft) (planes : List Plane) (s : DraftStructure) (made : Structure) → IsSoundStructure draft s → made ≡ unchained draft planes s → length made.fields ≤ MAX_FIELDS
few_made draft planes s made good is =
    let same : length made.fields ≡ length s.fields = ap (λ (m : Structure). length m.fields) is ∙ length-map s.fields (field_of draft planes s.is_union) in
    let few = good.few in omega (arith, same, few)

pub placeable_made : (draft : Draft) (known : List Plane) (s : DraftStructure) (made : Structure) → IsSoundStructure draft s → AreSound known → All (λ (f : DraftField). IsHeldLaid known f.ty) s.fields
    → made ≡ unchained draft known s → All (λ (f : Field). IsTrue (is_placeable (storage_of known f.ty))) made.fields
placeable_made draft known s made good sound laid is =
    subst (λ (m : Structure). All (λ (f : Field). IsTrue (is_placeable (storage_of known f.ty))) m.fields) (sym is)
    (placeable_fields draft known s.is_union s.fields good.fields (λ k d within id held. aligned_at known id sound (laid k d within id held)))

pub made_grows : (draft : Draft) (place : ℕ) (s : DraftStructure) (before known : List Plane) (structure : Structure) (made : Plane) → IsSound draft → slice_get draft.structures place ≡ Some s
    → length before ≡ length draft.structures → AreSound before → Grows draft before known → All (λ (f : DraftField). IsHeldLaid known f.ty) s.fields
    → structure ≡ unchained draft known s → IsHeldPlane known structure made → IsTrue (is_alignment made.align) → Grows draft before (set known place made)
made_grows draft place s before known structure made sound there all sound_before grows laid is made_is aligned =
    let good = sound_at draft place s sound there in
    let inside = slice_get_within draft.structures place s there in
    let held_is : IsHeldPlane known (unchained draft known s) made = subst (λ (m : Structure). IsHeldPlane known m made) is made_is in
    onward draft before known (set known place made) grows
    (one_laid draft known place made (omega (arith, inside, all, grows.all)) aligned (λ planes laid_by holds plane at.
    made_held draft known planes s made plane good.fields
    (λ k d within id held. close_at planes known id (subst (λ (n : ℕ). id < n) (sym laid_by.all) (held_there draft (get_or s.fields k d).ty id (good.fields k d within).type.there held)) (laid k d within id held) holds)
    (λ k d within id held. aligned_at known id (grows.sound sound_before) (laid k d within id held)) held_is (laid_by.each place s plane there at)))

-- the structure at a place as the code reads it, whose inner structures are laid out
module _ (draft : Draft) (place : ℕ) (structures : List DraftStructure) (s : DraftStructure) (items : List DraftField) (i : ℕ) (before known : List Plane)
    (sound : IsSound draft) (same : structures ≡ draft.structures) (inside : place < length draft.structures) (is : s ≡ get_or structures place s)
    (all : length before ≡ length draft.structures) (sound_before : AreSound before) (grows : Grows draft before known)
    (items_are : items ≡ s.fields) (done : length items ≤ i) (held_all : All (λ (f : DraftField). IsHeldLaid known f.ty) (take i items)) where
  there : slice_get draft.structures place ≡ Some s
  there = read_at structures draft.structures place s same inside is

  laid_fields : All (λ (f : DraftField). IsHeldLaid known f.ty) s.fields
  laid_fields = fields_laid known items s.fields i items_are done held_all

  pub few_at : (slice : List Plane) (made : Structure) → made ≡ unchained draft slice s → length made.fields ≤ MAX_FIELDS
  few_at slice made made_is = few_made draft slice s made (sound_at draft place s sound there) made_is

  pub placeable_at : (slice slice' : List Plane) (made : Structure) → slice ≡ known → slice' ≡ known → made ≡ unchained draft slice s
      → All (λ (f : Field). IsTrue (is_placeable (storage_of slice' f.ty))) made.fields
  placeable_at slice slice' made slice_is slice_is' made_is =
      subst (λ (ps : List Plane). All (λ (f : Field). IsTrue (is_placeable (storage_of ps f.ty))) made.fields) (sym slice_is')
      (placeable_made draft known s made (sound_at draft place s sound there) (grows.sound sound_before) laid_fields (made_is ∙ ap (λ (ps : List Plane). unchained draft ps s) slice_is))

  pub grows_after : (slice slice' : List Plane) (made : Structure) (laid : Plane) → slice ≡ known → slice' ≡ known → made ≡ unchained draft slice s → IsHeldPlane slice' made laid
      → IsTrue (is_alignment laid.align) → Grows draft before (set known place laid)
  grows_after slice slice' made laid slice_is slice_is' made_is held_is aligned =
      made_grows draft place s before known made laid sound there all sound_before grows laid_fields (made_is ∙ ap (λ (ps : List Plane). unchained draft ps s) slice_is)
      (subst (λ (ps : List Plane). IsHeldPlane ps made laid) slice_is' held_is) aligned

  pub laid_after : (laid : Plane) → IsTrue (is_alignment laid.align) → IsLaid (set known place laid) place
  laid_after laid aligned = laid_there known place laid (omega (arith, inside, all, grows.all)) aligned

-- ---- all structures, one after another

-- the structures below a place are laid out
pub record AreLaidBelow (draft : Draft) (known : List Plane) (place : ℕ) : Type 0 where
  pub all : length known ≡ length draft.structures
  pub sound : AreSound known
  pub laid : (other : ℕ) → other < place → IsLaid known other
  pub holds : (planes : List Plane) → AreLaidBy draft planes → Holds planes known

pub none_laid : (draft : Draft) (known : List Plane) → length known ≡ length draft.structures → All (λ (p : Plane). p.align ≡ 0) known → AreLaidBelow draft known 0
none_laid draft known all unlaid = record {
  all = all;
  sound = λ k d within. inl (unlaid k d within);
  laid = λ other below. absurd (omega (arith, below));
  holds = λ planes laid_by place k p at_known at_planes. inl (subst (λ (q : Plane). q.align ≡ 0) (get_at known place k at_known) (unlaid place k (slice_get_within known place k at_known)));
}

below_next : (known : List Plane) (place other : ℕ) → (other < place → IsLaid known other) → IsLaid known place → other < place + 1 → (other < place) ⊎ (place ≤ other) → IsLaid known other
below_next known place other below here within (inl less) = below less
below_next known place other below here within (inr least) = let same : place ≡ other = omega arith in subst (λ (n : ℕ). IsLaid known n) same here

pub one_laid_more : (draft : Draft) (a b : List Plane) (place : ℕ) → AreLaidBelow draft a place → Grows draft a b → IsLaid b place → AreLaidBelow draft b (place + 1)
one_laid_more draft a b place before grows here = record {
  all = grows.all ∙ before.all;
  sound = grows.sound before.sound;
  laid = λ other within. below_next b place other (λ less. grows.kept other (before.laid other less)) here within (cases_lt other place);
  holds = λ planes laid_by. grows.holds planes laid_by (before.holds planes laid_by);
}

held_or : (k p : Plane) → k.align ≢ 0 → (k.align ≡ 0) ⊎ (k ≡ held p) → k ≡ held p
held_or k p some (inl none) = absurd (some none)
held_or k p some (inr is) = is

held_at : (planes known : List Plane) (place : ℕ) → length known ≡ length planes → Holds planes known → ((other : ℕ) → other < length known → IsLaid known other)
    → ((k : Plane) × (place < length known) × (slice_get known place ≡ Some k) × (get_or known place k ≡ k)) ⊎ ((length known ≤ place) × (slice_get known place ≡ None))
    → slice_get known place ≡ option_map held (slice_get planes place)
held_at planes known place all holds laid (inr (past, none)) = none ∙ sym (ap (option_map held) (slice_get_past planes place (omega (arith, past, all))))
held_at planes known place all holds laid (inl (k, within, at, _)) =
    let p = get_or planes place k in
    let there = slice_get-get_or planes place k (omega (arith, within, all)) in
    let here = laid place within in
    let some : k.align ≢ 0 = λ none. here.2 (ap (λ (q : Plane). q.align) (same_Some here.0 k (sym here.1 ∙ at)) ∙ none) in
    at ∙ ap (λ (q : Plane). Some q) (held_or k p some (holds place k p at there)) ∙ sym (ap (option_map held) there)

pub all_held : (draft : Draft) (known : List Plane) (place : ℕ) → AreLaidBelow draft known place → length draft.structures ≤ place → AreHeldBy draft known
all_held draft known place below all = record {
  all = below.all;
  held = λ planes laid_by.
      same_list known (map held planes) (λ other.
      held_at planes known other (below.all ∙ sym laid_by.all) (below.holds planes laid_by) (λ one within. below.laid one (omega (arith, within, below.all, all))) (slice_get_cases known other).1
      ∙ sym (slice_get-map held planes other));
}
