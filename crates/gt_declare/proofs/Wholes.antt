-- From what is held of the planes of a draft to the program that it declares.
use Rattle.std.proofs.Common.{◌≡◌, ◌∙◌, ◌⊎◌, inl, inr, ℕ, zero, suc, ◌+◌, ◌≤◌, ◌<◌, Bool, List, [], ◌∷◌, length, map, get_or, Option, Some, None, option_map, refl, sym, ap, subst, arith}
use Rattle.std.specs.Prelude.{filter_map, slice_get}
use Rattle.std.specs.List.{All}
use Rattle.std.proofs.lemmas.List.{length-map}
use Rattle.std.proofs.lemmas.List.Elements.{All-map}
use Rattle.std.proofs.lemmas.Option.{same_Some, none-some, slice_get-map, slice_get_cases, slice_get_within}
use Rattle.gt_types.specs.declared.limits.TheConstants.{MAX_FIELDS}
use Rattle.gt_types.specs.declared.types.Ty.{Ty}
use Rattle.gt_types.specs.declared.program.Chain.{Chain}
use Rattle.gt_types.specs.declared.program.Field.{Field}
use Rattle.gt_types.specs.declared.program.Root.{Root}
use Rattle.gt_types.specs.declared.program.Cache.{Cache}
use Rattle.gt_types.specs.declared.program.Typedef.{Typedef}
use Rattle.gt_types.specs.declared.program.Structure.{Structure}
use Rattle.gt_types.specs.declared.program.Program.{Program}
use Rattle.gt_layout.specs.declared.planes.Plane.{Plane}
use Rattle.gt_layout.specs.Storages.{extent_at, extent_of_plane}
use Rattle.gt_layout.specs.Planes.{AreLaidOut, IsPlane, held}
use Rattle.gt_layout.proofs.Laying.{held_close}
use Rattle.gt_layout.proofs.Types.{AreClose}
use Rattle.gt_drafts.specs.declared.draft.Draft.{Draft}
use Rattle.gt_drafts.specs.declared.draft.DraftField.{DraftField}
use Rattle.gt_drafts.specs.declared.draft.DraftRoot.{DraftRoot}
use Rattle.gt_drafts.specs.declared.draft.DraftStructure.{DraftStructure}
use Rattle.gt_markers.specs.Actives.{active_of}
use Rattle.gt_markers.specs.Expressions.{constants, constants_and_roots}
use Rattle.gt_markers.specs.Sound.{IsSound}
use Rattle.gt_markers.specs.Typing.{node, own_desc}
use Rattle.gt_declare.specs.Making.{AreHeldBy, AreLaidBy}
use Rattle.gt_declare.specs.Programs.{IsMadeOf, MakesOneProgram, all_unchained, cache_of, chain_of, field_of, program_by, root_of, unchained, with_chains, word_of}
use Rattle.gt_declare.proofs.CloseTypes.{same_type}
use Rattle.gt_declare.proofs.Ideals.{ideal, ideal_laid, one_planes}

-- ---- planes that are held within the limit make the same program

map_same : {X Y : Type 0} (f g : X → Y) (xs : List X) → ((x : X) → f x ≡ g x) → map f xs ≡ map g xs
map_same f g [] same = refl
map_same {X} {Y} f g (x ∷ xs) same = ap (λ (y : Y). y ∷ map f xs) (same x) ∙ ap (λ (ys : List Y). g x ∷ ys) (map_same f g xs same)

close_by : (o : Option Plane) → AreClose (extent_of_plane (option_map held o)) (extent_of_plane o)
close_by None = (refl, refl)
close_by (Some p) = held_close p

close_at : (known planes : List Plane) (id : ℕ) → known ≡ map held planes → AreClose (extent_at known id) (extent_at planes id)
close_at known planes id is =
    subst (λ (o : Option Plane). AreClose (extent_of_plane o) (extent_at planes id)) (sym (ap (λ (ps : List Plane). slice_get ps id) is ∙ slice_get-map held planes id)) (close_by (slice_get planes id))

same_field : (draft : Draft) (known planes : List Plane) (in_union : Bool) (f : DraftField) → known ≡ map held planes → field_of draft known in_union f ≡ field_of draft planes in_union f
same_field draft known planes in_union f is =
    ap (λ (type : Ty). let made : Field = record { name = f.name.word; ty = type; active = active_of draft in_union f.options } in made)
    (same_type known planes f.ty (λ id held_id. close_at known planes id is) (constants draft) draft f.options)

same_unchained : (draft : Draft) (known planes : List Plane) (s : DraftStructure) → known ≡ map held planes → unchained draft known s ≡ unchained draft planes s
same_unchained draft known planes s is =
    ap (λ (fields : List Field). let made : Structure = record { name = s.tag.word; is_union = s.is_union; desc = own_desc draft s; fields = fields; chains = [] } in made)
    (map_same (field_of draft known s.is_union) (field_of draft planes s.is_union) s.fields (λ f. same_field draft known planes s.is_union f is))

same_root : (draft : Draft) (known planes : List Plane) (r : DraftRoot) → known ≡ map held planes → root_of draft known r ≡ root_of draft planes r
same_root draft known planes r is =
    ap (λ (type : Ty). let made : Root = record { name = r.name.word; ty = type; deletable = (root_of draft planes r).deletable } in made)
    (same_type known planes r.ty (λ id held_id. close_at known planes id is) (constants_and_roots draft) draft r.options)

-- a program by its structures and roots
abbrev program_of : Draft → List Structure → List Root → Program
program_of draft structures roots =
    record { structures = with_chains structures 0 draft.structures structures; roots = roots; caches = map cache_of draft.caches; words = map word_of draft.words }

same_program : (draft : Draft) (known planes : List Plane) → known ≡ map held planes → program_by draft known ≡ program_by draft planes
same_program draft known planes is =
    ap (λ (structures : List Structure). program_of draft structures (map (root_of draft known) draft.roots))
    (map_same (unchained draft known) (unchained draft planes) draft.structures (λ s. same_unchained draft known planes s is))
    ∙ ap (λ (roots : List Root). program_of draft (all_unchained draft planes) roots)
    (map_same (root_of draft known) (root_of draft planes) draft.roots (λ r. same_root draft known planes r is))

-- ---- structures with their chains

pub chained_length : (all : List Structure) (k : ℕ) (ds : List DraftStructure) (u : DraftStructure → Structure) → length (with_chains all k ds (map u ds)) ≡ length ds
unfolding with_chains
chained_length all k [] u = refl
chained_length all k (d ∷ ds) u = ap suc (chained_length all (1 + k) ds u)

pub chained_at : (all : List Structure) (k : ℕ) (ds : List DraftStructure) (u : DraftStructure → Structure) (place : ℕ) (d : DraftStructure) → slice_get ds place ≡ Some d
    → (chains : List Chain) × (slice_get (with_chains all k ds (map u ds)) place ≡ Some (record (u d) { chains = chains }))
unfolding with_chains
chained_at all k [] u place d there = absurd (none-some d there)
chained_at all k (e ∷ ds) u zero d there =
    (filter_map (chain_of all (node k)) d.options, ap (λ (c : DraftStructure). let made : Structure = record (u c) { chains = filter_map (chain_of all (node k)) c.options } in Some made) (same_Some e d there))
chained_at all k (e ∷ ds) u (suc place) d there = chained_at all (1 + k) ds u place d there

-- the structures of the program that planes make
abbrev made_structures : Draft → List Plane → List Structure
made_structures draft planes = with_chains (all_unchained draft planes) 0 draft.structures (all_unchained draft planes)

out_by : (draft : Draft) (planes : List Plane) (place : ℕ) (s : Structure) (plane : Plane) → AreLaidBy draft planes → slice_get (made_structures draft planes) place ≡ Some s
    → slice_get planes place ≡ Some plane
    → ((d : DraftStructure) × (place < length draft.structures) × (slice_get draft.structures place ≡ Some d) × (get_or draft.structures place d ≡ d)) ⊎ ((length draft.structures ≤ place) × (slice_get draft.structures place ≡ None))
    → IsPlane planes s plane
out_by draft planes place s plane laid there at (inl (d, inside, drafted, _)) =
    let chained = chained_at (all_unchained draft planes) 0 draft.structures (unchained draft planes) place d drafted in
    subst (λ (made : Structure). IsPlane planes made plane) (same_Some (record (unchained draft planes d) { chains = chained.0 }) s (sym chained.1 ∙ there)) (laid.each place d plane drafted at)
out_by draft planes place s plane laid there at (inr (past, none)) =
    absurd (omega (arith, past, slice_get_within (made_structures draft planes) place s there, chained_length (all_unchained draft planes) 0 draft.structures (unchained draft planes)))

-- planes that are laid out for a draft are so for the program that they make, and the other way round
laid_out : (draft : Draft) (planes : List Plane) → AreLaidBy draft planes → AreLaidOut (program_by draft planes) planes
laid_out draft planes laid = record {
  all = laid.all ∙ sym (chained_length (all_unchained draft planes) 0 draft.structures (unchained draft planes));
  each = λ place s plane there at. out_by draft planes place s plane laid there at (slice_get_cases draft.structures place).1;
}

laid_back : (draft : Draft) (planes : List Plane) → AreLaidOut (program_by draft planes) planes → AreLaidBy draft planes
laid_back draft planes laid = record {
  all = laid.all ∙ chained_length (all_unchained draft planes) 0 draft.structures (unchained draft planes);
  each = λ place d plane drafted at.
      let chained = chained_at (all_unchained draft planes) 0 draft.structures (unchained draft planes) place d drafted in
      laid.each place (record (unchained draft planes d) { chains = chained.0 }) plane chained.1 at;
}

-- ---- the program

made_by : (draft : Draft) (program : Program) → IsSound draft → program ≡ program_by draft (ideal draft) → IsMadeOf draft program
made_by draft program sound is =
    record { planes = ideal draft; laid = subst (λ (made : Program). AreLaidOut made (ideal draft)) (sym is) (laid_out draft (ideal draft) (ideal_laid draft sound)); made = is }

-- what is made by planes that are held within the limit is made of the draft
pub held_makes : (draft : Draft) (known : List Plane) (program : Program) → IsSound draft → AreHeldBy draft known → program ≡ program_by draft known → IsMadeOf draft program
held_makes draft known program sound by is =
    made_by draft program sound (is ∙ same_program draft known (ideal draft) (by.held (ideal draft) (ideal_laid draft sound)))

laid_of : (draft : Draft) (program : Program) (made : IsMadeOf draft program) → AreLaidBy draft made.planes
laid_of draft program made = laid_back draft made.planes (subst (λ (p : Program). AreLaidOut p made.planes) made.made made.laid)

pub one_program : (draft : Draft) → IsSound draft → MakesOneProgram draft
one_program draft sound = record {
  program = program_by draft (ideal draft);
  made = made_by draft (program_by draft (ideal draft)) sound refl;
  only = λ other made. made.made ∙ ap (program_by draft) (one_planes draft made.planes (ideal draft) sound (laid_of draft other made) (ideal_laid draft sound));
}

-- ---- the steps of the code

pub few_unchained : (draft : Draft) (planes : List Plane) (structures : List Structure) → IsSound draft → structures ≡ all_unchained draft planes → All (λ (s : Structure). length s.fields ≤ MAX_FIELDS) structures
few_unchained draft planes structures sound is =
    subst (λ (ss : List Structure). All (λ (s : Structure). length s.fields ≤ MAX_FIELDS) ss) (sym is)
    (All-map (λ (s : Structure). length s.fields ≤ MAX_FIELDS) (unchained draft planes) draft.structures
    (λ k d within. let s = get_or draft.structures k d in let same = length-map s.fields (field_of draft planes s.is_union) in let few = (sound.structures k d within).few in omega (arith, same, few)))

-- the parts of a program that is made by planes as they are held
pub parts_make : (draft : Draft) (known slice slice' : List Plane) (drafts : List DraftStructure) (plain chained : List Structure) (roots : List Root) (caches : List Cache) (words : List Typedef)
    → IsSound draft → AreHeldBy draft known → slice ≡ known → slice' ≡ known → drafts ≡ draft.structures → plain ≡ all_unchained draft slice → chained ≡ with_chains plain 0 drafts plain
    → roots ≡ map (root_of draft slice') draft.roots → caches ≡ map cache_of draft.caches → words ≡ map word_of draft.words
    → IsMadeOf draft (record { structures = chained; roots = roots; caches = caches; words = words })
parts_make draft known slice slice' drafts plain chained roots caches words sound by slice_is slice_is' drafts_are plain_is chained_is roots_are caches_are words_are =
    let plain_known : plain ≡ all_unchained draft known = plain_is ∙ ap (λ (ps : List Plane). all_unchained draft ps) slice_is in
    let roots_known : roots ≡ map (root_of draft known) draft.roots = roots_are ∙ ap (λ (ps : List Plane). map (root_of draft ps) draft.roots) slice_is' in
    let chained_known : chained ≡ with_chains (all_unchained draft known) 0 draft.structures (all_unchained draft known) =
    chained_is ∙ ap (λ (ds : List DraftStructure). with_chains plain 0 ds plain) drafts_are ∙ ap (λ (ss : List Structure). with_chains ss 0 draft.structures ss) plain_known in
    held_makes draft known (record { structures = chained; roots = roots; caches = caches; words = words }) sound by (
    ap (λ (ss : List Structure). let made : Program = record { structures = ss; roots = roots; caches = caches; words = words } in made) chained_known
    ∙ ap (λ (rs : List Root). let made : Program = record { structures = made_structures draft known; roots = rs; caches = caches; words = words } in made) roots_known
    ∙ ap (λ (cs : List Cache). let made : Program = record { structures = made_structures draft known; roots = map (root_of draft known) draft.roots; caches = cs; words = words } in made) caches_are
    ∙ ap (λ (ws : List Typedef). let made : Program = record { structures = made_structures draft known; roots = map (root_of draft known) draft.roots; caches = map cache_of draft.caches; words = ws } in made) words_are)
