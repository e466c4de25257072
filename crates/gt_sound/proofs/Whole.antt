-- What well-made files resolve to is sound.
use Rattle.std.proofs.Common.{◌≡◌, ◌≢◌, ◌∙◌, ℕ, ◌<◌, ◌≤◌, Bool, true, false, List, [], ◌++◌, length, map, sym, ap, subst}
use Rattle.std.specs.Prelude.{All, AllPairs, IfSome}
use Rattle.std.specs.List.{filter_map}
use Rattle.std.proofs.lemmas.List.{length-map}
use Rattle.std.proofs.lemmas.List.Elements.{All-nil, All-append, All-weaker}
use Rattle.gt_types.specs.Names.{IsName}
use Rattle.gt_types.specs.declared.faults.Fault.{Fault}
use Rattle.gt_items.specs.declared.items.Items.{Items}
use Rattle.gt_items.specs.declared.items.Stars.{Stars}
use Rattle.gt_items.specs.declared.items.Stars.TheVariants.{Zero, One}
use Rattle.gt_types.specs.declared.limits.TheConstants.{MAX_STRUCTURES, MAX_FIELDS, MAX_ROOTS, MAX_CACHES}
use Rattle.gt_drafts.specs.declared.types.BaseType.{BaseType}
use Rattle.gt_drafts.specs.declared.types.BaseType.TheVariants as base
use Rattle.gt_scope.specs.declared.declaration.Declaration.{Declaration}
use Rattle.gt_drafts.specs.declared.draft.Draft.{Draft}
use Rattle.gt_drafts.specs.declared.draft.DraftField.{DraftField}
use Rattle.gt_drafts.specs.declared.draft.DraftRoot.{DraftRoot}
use Rattle.gt_drafts.specs.declared.draft.DraftStructure.{DraftStructure}
use Rattle.gt_scope.specs.Declarations.{declarations}
use Rattle.gt_resolve.specs.Drafts.{word_by, word_of}
use Rattle.gt_resolve.specs.Faults.{faults_of, redefinitions, structures_faults, roots_faults, caches_faults}
use Rattle.gt_resolve.specs.Resolution.{Resolves}
use Rattle.gt_markers.specs.Sound.{IsSound, IsSoundStructure, IsSoundField, IsSoundRoot, NamesStructure, global_names}
use Rattle.gt_sound.specs.WellMade.{IsWellMade}
use Rattle.gt_sound.proofs.Lists.{nil_front, nil_back, All-and, All-of_map, All-filtered, AllPairs-nil, AllPairs-append, AllPairs-of_map}
use Rattle.gt_sound.proofs.Names.{tags, roots, caches, picked, Declares, IsBelow, names_of, known-declarations, tags_of, roots_of, caches_of}
use Rattle.gt_sound.proofs.There.{TypesMean, types_mean}
use Rattle.gt_sound.proofs.Distinct as names
use Rattle.gt_sound.proofs.Shapes.{IsFree, IsFreeStructure, free_structures, free_roots, no_cycle, depth}
use Rattle.gt_sound.proofs.Types.{sound_type}
use Rattle.gt_sound.proofs.Made.{IsMadeField, IsMadeStructure, IsMadeRoot, IsMadeCache, made_structures, made_roots, made_caches}

-- the structure of a word is there
word_there : (draft : Draft) (name : List ℕ) (b : BaseType) (stars : Stars) → NamesStructure draft b → IfSome (word_by name b stars) (λ w. w.id < length draft.structures)
word_there draft name (base.Structure id) Zero h = h
word_there draft name (base.Structure id) One h = h
word_there draft name b stars h = tt

module _ (files : List Items) (draft : Draft) (made : All IsWellMade files) (is : Resolves files draft) where
  abbrev ds : List Declaration
  ds = declarations files

  -- ---- no faults

  abbrev first : List Fault
  first = redefinitions ds is.types [] ds

  abbrev of_structures : List Fault
  of_structures = structures_faults is.cyclic is.deep is.tails 0 draft.structures

  abbrev of_roots : List Fault
  of_roots = roots_faults is.tails 0 draft.roots

  none : first ++ of_structures ++ of_roots ++ caches_faults 0 draft.caches ≡ []
  unfolding faults_of
  none = sym is.faulty

  no_others : first ++ of_structures ++ of_roots ≡ []
  no_others = nil_front (first ++ of_structures ++ of_roots) (caches_faults 0 draft.caches) none

  no_root : of_roots ≡ []
  no_root = nil_back (first ++ of_structures) of_roots no_others

  no_structure : of_structures ≡ []
  no_structure = nil_back first of_structures (nil_front (first ++ of_structures) of_roots no_others)

  no_first : first ≡ []
  no_first = nil_front first of_structures (nil_front (first ++ of_structures) of_roots no_others)

  -- ---- names

  declares : Declares (names_of files) ds (length (names_of files tags))
  declares = known-declarations files made

  tags_are : map (λ s. s.tag.word) draft.structures ≡ names_of files tags
  tags_are = ap (λ (d : Draft). map (λ s. s.tag.word) d.structures) is.drafted ∙ tags_of ds is.types 1 files

  roots_are : map (λ r. r.name.word) draft.roots ≡ names_of files roots
  roots_are = ap (λ (d : Draft). map (λ r. r.name.word) d.roots) is.drafted ∙ roots_of ds is.types 1 files

  caches_are : map (λ c. c.name.word) draft.caches ≡ names_of files caches
  caches_are = ap (λ (d : Draft). map (λ c. c.name.word) d.caches) is.drafted ∙ caches_of ds is.types 1 files

  words_are : draft.words ≡ filter_map word_of is.types
  words_are = ap (λ (d : Draft). d.words) is.drafted

  count_is : length (names_of files tags) ≡ length draft.structures
  count_is = sym (ap (λ words. length words) tags_are) ∙ length-map draft.structures (λ s. s.tag.word)

  here : All (λ d. IsBelow (length draft.structures) d.what) ds
  here = subst (λ n. All (λ d. IsBelow n d.what) ds) count_is declares.below

  mean : TypesMean draft is.types
  mean = types_mean draft ds is.types here is.named

  -- ---- structures, roots and caches

  structures_made : All (IsMadeStructure draft) draft.structures
  structures_made = subst (λ (d : Draft). All (IsMadeStructure draft) d.structures) (sym is.drafted) (made_structures draft ds is.types here mean files made)

  roots_made : All (IsMadeRoot draft) draft.roots
  roots_made = subst (λ (d : Draft). All (IsMadeRoot draft) d.roots) (sym is.drafted) (made_roots draft ds is.types here mean files made)

  caches_made : All (IsMadeCache draft) draft.caches
  caches_made = subst (λ (d : Draft). All (IsMadeCache draft) d.caches) (sym is.drafted) (made_caches draft ds is.types here mean files made)

  sound_field : (in_union : Bool) (f : DraftField) → IsMadeField draft f × IsFree is.tails in_union f.options f.ty → IsSoundField draft in_union f
  sound_field in_union f h =
      record {
        name = h.0.name;
        options = h.0.options;
        type = sound_type draft is.cyclic is.deep is.tails is.shaped in_union f.options f.ty h.0.type h.1;
      }

  sound_structure : (s : DraftStructure) → IsMadeStructure draft s × IsFreeStructure is.tails s × (length s.fields ≤ MAX_FIELDS) → IsSoundStructure draft s
  sound_structure s h =
      record {
        name = h.0.name;
        options = h.0.options;
        some = h.0.some;
        few = h.2;
        distinct = h.1.distinct;
        fields = All-weaker (λ f. IsMadeField draft f × IsFree is.tails s.is_union f.options f.ty) (IsSoundField draft s.is_union) (sound_field s.is_union) s.fields
            (All-and (IsMadeField draft) (λ f. IsFree is.tails s.is_union f.options f.ty) s.fields h.0.fields h.1.fields);
      }

  sound_root : (r : DraftRoot) → IsMadeRoot draft r × IsFree is.tails false r.options r.ty → IsSoundRoot draft r
  sound_root r h =
      record {
        name = h.0.name;
        options = h.0.options;
        type = sound_type draft is.cyclic is.deep is.tails is.shaped false r.options r.ty h.0.type h.1;
        no_bits = h.0.no_bits;
      }

  sound_structures : All (λ s. length s.fields ≤ MAX_FIELDS) draft.structures → All (IsSoundStructure draft) draft.structures
  sound_structures few =
      let free = free_structures is.tails is.cyclic is.deep 0 draft.structures no_structure in
      λ k d l. sound_structure _ (structures_made k d l, free k d l, few k d l)

  sound_roots : All (IsSoundRoot draft) draft.roots
  sound_roots =
      All-weaker (λ r. IsMadeRoot draft r × IsFree is.tails false r.options r.ty) (IsSoundRoot draft) sound_root draft.roots
      (All-and (IsMadeRoot draft) (λ r. IsFree is.tails false r.options r.ty) draft.roots roots_made (free_roots is.tails 0 draft.roots no_root))

  -- ---- names are there once

  apart : AllPairs (names.Apart ds is.types) ds
  apart = names.no_redefinition ds is.types no_first

  root_names : picked (names.is_kind roots) ds ≡ map (λ r. r.name.word) draft.roots
  root_names = declares.listed roots ∙ sym roots_are

  cache_names : picked (names.is_kind caches) ds ≡ map (λ c. c.name.word) draft.caches
  cache_names = declares.listed caches ∙ sym caches_are

  abbrev word_names : List (List ℕ)
  word_names = map (λ w. w.name) draft.words

  distinct_structures : AllPairs (λ s t. s.tag.word ≢ t.tag.word) draft.structures
  distinct_structures =
      AllPairs-of_map ◌≢◌ (λ s. s.tag.word) draft.structures
      (subst (AllPairs ◌≢◌) (declares.listed tags ∙ sym tags_are)
      (names.distinct_picked ds is.types (names.is_kind tags) ds (names.structures_opposed ds is.types) apart))

  -- what holds of all names of typedefs holds of the words
  all_words : (P : List ℕ → Type 0) → All (λ d. names.is_typedef d.what ≡ true → P d.name.word) ds → All P word_names
  all_words P h =
      subst (λ words. All P (map (λ w. w.name) words)) (sym words_are)
      (names.All-words P is.types (subst (All P) (sym is.named.names) (names.All-typedef_names P [] ds (All-nil P) h)))

  distinct_words : AllPairs ◌≢◌ word_names
  distinct_words =
      subst (λ words. AllPairs ◌≢◌ (map (λ w. w.name) words)) (sym words_are)
      (names.distinct_words is.types (subst (AllPairs ◌≢◌) (sym is.named.names) (names.distinct_typedef_names [] ds (AllPairs-nil ◌≢◌))))

  beside_words : (xs : List (List ℕ)) → names.Differ ds is.types xs (picked names.is_typedef ds) → names.Differ ds is.types xs word_names
  beside_words xs differ =
      All-weaker (λ x. All (λ y. x ≢ y) (picked names.is_typedef ds)) (λ x. All (λ y. x ≢ y) word_names)
      (λ x h. all_words (λ y. x ≢ y) (names.All-of_picked ds is.types (λ y. x ≢ y) names.is_typedef ds h)) xs differ

  root_words : names.Differ ds is.types (map (λ r. r.name.word) draft.roots) word_names
  root_words =
      beside_words (map (λ r. r.name.word) draft.roots)
      (subst (λ xs. names.Differ ds is.types xs (picked names.is_typedef ds)) root_names
      (names.differ_picked ds is.types (names.is_kind roots) names.is_typedef ds (names.roots_typedefs ds is.types) (names.typedefs_roots ds is.types)
      names.no_root_typedef apart))

  cache_words : names.Differ ds is.types (map (λ c. c.name.word) draft.caches) word_names
  cache_words =
      beside_words (map (λ c. c.name.word) draft.caches)
      (subst (λ xs. names.Differ ds is.types xs (picked names.is_typedef ds)) cache_names
      (names.differ_picked ds is.types (names.is_kind caches) names.is_typedef ds (names.caches_typedefs ds is.types) (names.typedefs_caches ds is.types)
      names.no_cache_typedef apart))

  root_caches : names.Differ ds is.types (map (λ r. r.name.word) draft.roots) (map (λ c. c.name.word) draft.caches)
  root_caches =
      subst (λ xs. names.Differ ds is.types xs (map (λ c. c.name.word) draft.caches)) root_names
      (subst (λ ys. names.Differ ds is.types (picked (names.is_kind roots) ds) ys) cache_names
      (names.differ_picked ds is.types (names.is_kind roots) (names.is_kind caches) ds (names.roots_caches ds is.types) (names.caches_roots ds is.types)
      names.no_root_cache apart))

  distinct_roots : AllPairs ◌≢◌ (map (λ r. r.name.word) draft.roots)
  distinct_roots = subst (AllPairs ◌≢◌) root_names (names.distinct_picked ds is.types (names.is_kind roots) ds (names.roots_opposed ds is.types) apart)

  distinct_caches : AllPairs ◌≢◌ (map (λ c. c.name.word) draft.caches)
  distinct_caches = subst (AllPairs ◌≢◌) cache_names (names.distinct_picked ds is.types (names.is_kind caches) ds (names.caches_opposed ds is.types) apart)

  distinct_globals : AllPairs ◌≢◌ (global_names draft)
  distinct_globals =
      let rs = map (λ r. r.name.word) draft.roots in
      let cs = map (λ c. c.name.word) draft.caches in
      AllPairs-append ◌≢◌ (rs ++ cs) word_names (AllPairs-append ◌≢◌ rs cs distinct_roots distinct_caches root_caches) distinct_words
      (All-append (λ x. All (λ y. x ≢ y) word_names) rs cs root_words cache_words)

  -- ---- words

  words_named : All (λ w. IsName w.name) draft.words
  words_named = All-of_map IsName (λ w. w.name) draft.words (all_words IsName (names.typedefs_named ds declares.words))

  words_there : All (λ w. w.id < length draft.structures) draft.words
  words_there =
      subst (λ words. All (λ w. w.id < length draft.structures) words) (sym words_are)
      (All-filtered (λ t. NamesStructure draft t.means.base) (λ w. w.id < length draft.structures) word_of is.types
      (λ t h. word_there draft t.name t.means.base t.means.stars h) mean)

  -- ---- the whole

  pub sound : length draft.structures ≤ MAX_STRUCTURES → All (λ s. length s.fields ≤ MAX_FIELDS) draft.structures → length draft.roots ≤ MAX_ROOTS → length draft.caches ≤ MAX_CACHES
      → IsSound draft
  sound few_structures few_fields few_roots few_caches =
      record {
        few_structures = few_structures;
        few_roots = few_roots;
        few_caches = few_caches;
        structures = sound_structures few_fields;
        roots = sound_roots;
        caches = caches_made;
        words = All-and (λ w. IsName w.name) (λ w. w.id < length draft.structures) draft.words words_named words_there;
        distinct_structures = distinct_structures;
        distinct_globals = distinct_globals;
        no_cycle = no_cycle draft.structures is.cyclic is.deep is.tails is.shaped no_structure;
        depth = depth draft.structures is.cyclic is.deep is.tails is.shaped no_structure;
      }
