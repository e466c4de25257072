-- A program that a sound draft declares is settled.
use Rattle.std.proofs.Common.{◌≡◌, ◌≢◌, ◌∙◌, inl, inr, ℕ, ◌≤◌, ◌<◌, List, [], ◌++◌, length, map, Option, Some, None, sym, ap, subst, arith}
use Rattle.std.specs.Prelude.{All, AllPairs, slice_get}
use Rattle.std.proofs.lemmas.List.{length-map}
use Rattle.gt_types.specs.declared.faults.Fault.{Fault}
use Rattle.gt_types.specs.declared.limits.TheConstants.{MAX_STRUCTURES, MAX_ROOTS, MAX_CACHES}
use Rattle.gt_types.specs.declared.types.TypeId.{TypeId}
use Rattle.gt_types.specs.declared.program.Cache.{Cache}
use Rattle.gt_types.specs.declared.program.Program.{Program}
use Rattle.gt_types.specs.declared.program.Root.{Root}
use Rattle.gt_types.specs.declared.program.Structure.{Structure}
use Rattle.gt_types.specs.declared.program.Typedef.{Typedef}
use Rattle.gt_types.specs.Names.{IsName}
use Rattle.gt_types.specs.Paths.{IsInner, MayStand}
use Rattle.gt_types.specs.Settled.{Settled, IsCache, IsRoot, IsTypedef, global_names}
use Rattle.gt_layout.specs.Planes.{AreLaidOut}
use Rattle.gt_layout.specs.declared.planes.Plane.{Plane}
use Rattle.gt_drafts.specs.declared.draft.Draft.{Draft}
use Rattle.gt_drafts.specs.declared.draft.DraftCache.{DraftCache}
use Rattle.gt_drafts.specs.declared.draft.DraftRoot.{DraftRoot}
use Rattle.gt_drafts.specs.declared.draft.DraftStructure.{DraftStructure}
use Rattle.gt_drafts.specs.declared.draft.DraftWord.{DraftWord}
use Rattle.gt_markers.specs.declared.TheConstants.{CACHE_SHAPE}
use Rattle.gt_markers.specs.MarkerFaults.{draft_faults}
use Rattle.gt_markers.specs.Sound.{IsSound}
use Rattle.gt_markers.specs.Sound as sounds
use Rattle.gt_declare.specs.Programs.{cache_of, key_type, or_first, program_by, root_of, word_of}
use Rattle.gt_rules.specs.Faults.{Declares, HasFault, HasProgramFault, StandsAlone, cache_shape, fault}
use Rattle.gt_rules.specs.Inner.{IsDeclaredInner}
use Rattle.gt_rules.proofs.InnerLemmas.{Agree, stand_same}
use Rattle.gt_settled.proofs.Stable.{Stable}
use Rattle.gt_settled.proofs.Expressions.{stand_stable}
use Rattle.gt_settled.proofs.Good.{present}
use Rattle.gt_settled.proofs.Inside.{depth, no_cycle}
use Rattle.gt_settled.proofs.Lists.{all_pairs, all_places, at_place, in_list, map_at, map_map, none_there, pairs_at}
use Rattle.gt_settled.proofs.Made.{root_drafted, structure_at, structure_drafted, structures_length}
use Rattle.gt_settled.proofs.Roots.{root_good}
use Rattle.gt_settled.proofs.Sizes.{bytes_good}
use Rattle.gt_settled.proofs.Structures.{agree, fines, number, structure_good}

-- ---- caches

alone_stable : (draft : Draft) (program : Program) (o : Option TypeId) → Stable (StandsAlone draft program o)
alone_stable draft program None nn = nn (λ alone. alone)
alone_stable draft program (Some id) nn = stand_stable (IsDeclaredInner draft) program id nn

alone_first : (draft : Draft) (program : Program) → Agree (IsDeclaredInner draft) (IsInner program) → (o : Option TypeId) → StandsAlone draft program o → MayStand program (or_first o)
alone_first draft program same None alone = absurd alone
alone_first draft program same (Some id) alone = stand_same (IsDeclaredInner draft) (IsInner program) same program id alone

module _ (draft : Draft) (planes : List Plane) (program : Program) (is : program ≡ program_by draft planes) (laid : AreLaidOut program planes) (sound : IsSound draft)
    (faultless : (f : Fault) → ¬ HasFault draft program f) where
  none : draft_faults draft ≡ []
  none = none_there (draft_faults draft) (λ f there. faultless f (inl there))

  program_faultless : (f : Fault) → ¬ HasProgramFault draft program f
  program_faultless f has = faultless f (inr has)

  inner_same : Agree (IsDeclaredInner draft) (IsInner program)
  inner_same = agree draft planes program is sound none program_faultless

  few_structures : length program.structures ≤ MAX_STRUCTURES
  few_structures = let few = sound.few_structures in let long = structures_length draft planes program is in omega (arith, few, long)

  few_roots : length program.roots ≤ MAX_ROOTS
  few_roots =
      let few = sound.few_roots in
      let long : length program.roots ≡ length draft.roots = ap (λ (p : Program). length p.roots) is ∙ length-map draft.roots (root_of draft planes) in omega (arith, few, long)

  few_caches : length program.caches ≤ MAX_CACHES
  few_caches =
      let few = sound.few_caches in
      let long : length program.caches ≡ length draft.caches = ap (λ (p : Program). length p.caches) is ∙ length-map draft.caches cache_of in omega (arith, few, long)

  distinct_structures : AllPairs (λ s t. s.name ≢ t.name) program.structures
  distinct_structures = all_pairs (λ (s t : Structure). s.name ≢ t.name) program.structures (λ i j s t lower a b same.
      let one = structure_drafted draft planes program is i s a in
      let two = structure_drafted draft planes program is j t b in
      pairs_at (λ (s t : DraftStructure). s.tag.word ≢ t.tag.word) draft.structures i j one.0 two.0 sound.distinct_structures lower one.1.drafted two.1.drafted
      (sym (ap (λ (u : Structure). u.name) one.1.same) ∙ same ∙ ap (λ (u : Structure). u.name) two.1.same))

  names_same : global_names program ≡ sounds.global_names draft
  names_same =
      ap global_names is
      ∙ ap (λ (names : List (List ℕ)). names ++ map (λ (c : Cache). c.name) (map cache_of draft.caches) ++ map (λ (w : Typedef). w.name) (map word_of draft.words)) (map_map (λ (r : Root). r.name) (root_of draft planes) draft.roots)
      ∙ ap (λ (names : List (List ℕ)). map (λ (r : DraftRoot). r.name.word) draft.roots ++ names ++ map (λ (w : Typedef). w.name) (map word_of draft.words)) (map_map (λ (c : Cache). c.name) cache_of draft.caches)
      ∙ ap (λ (names : List (List ℕ)). map (λ (r : DraftRoot). r.name.word) draft.roots ++ map (λ (c : DraftCache). c.name.word) draft.caches ++ names) (map_map (λ (w : Typedef). w.name) word_of draft.words)

  roots_good : All (IsRoot program) program.roots
  roots_good = all_places (IsRoot program) program.roots (λ k r there.
      let from = root_drafted draft planes program is k r there in
      subst (λ (x : Root). IsRoot program x) (sym from.2)
      (root_good draft planes program is sound none inner_same program_faultless (number draft planes program is sound none program_faultless) (fines draft planes program is sound none program_faultless) k from.0 from.1
      (there ∙ ap (λ (x : Root). Some x) from.2)))

  cache_good : (k : ℕ) (c : DraftCache) → slice_get draft.caches k ≡ Some c → IsCache program (cache_of c)
  cache_good k c at = record {
    name = (at_place (λ (d : DraftCache). IsName d.name.word × sounds.NamesStructure draft d.key.base × sounds.NamesStructure draft d.value.base) draft.caches k c sound.caches at).0;
    key = alone_first draft program inner_same (key_type c.key) (alone_stable draft program (key_type c.key) (λ not_alone. shape (λ both. not_alone both.0)));
    value = alone_first draft program inner_same (key_type c.value) (alone_stable draft program (key_type c.value) (λ not_alone. shape (λ both. not_alone both.1)));
  }
    where
      shape : ¬ (¬ (StandsAlone draft program (key_type c.key) × StandsAlone draft program (key_type c.value)))
      shape bad = program_faultless (fault CACHE_SHAPE c.file c.name.at) (cache_shape (in_list draft.caches k c at) bad)

  caches_good : All (IsCache program) program.caches
  caches_good = all_places (IsCache program) program.caches (λ k c there.
      let from = map_at cache_of draft.caches k c (sym (ap (λ (p : Program). slice_get p.caches k) is) ∙ there) in
      subst (λ (x : Cache). IsCache program x) (sym from.2) (cache_good k from.0 from.1))

  word_good : (k : ℕ) (w : DraftWord) → slice_get draft.words k ≡ Some w → IsTypedef program (word_of w)
  word_good k w at =
      let one = at_place (λ (v : DraftWord). IsName v.name × (v.id < length draft.structures)) draft.words k w sound.words at in
      let ds = present draft.structures w.id one.1 in
      let made = structure_at draft planes program is w.id ds.0 ds.1 in
      record { name = one.0; there = (made.0, made.1) }

  words_good : All (IsTypedef program) program.words
  words_good = all_places (IsTypedef program) program.words (λ k w there.
      let from = map_at word_of draft.words k w (sym (ap (λ (p : Program). slice_get p.words k) is) ∙ there) in
      subst (λ (x : Typedef). IsTypedef program x) (sym from.2) (word_good k from.0 from.1))

  settled_by : Settled program
  settled_by = record {
    few_structures = few_structures;
    few_roots = few_roots;
    few_caches = few_caches;
    distinct_structures = distinct_structures;
    distinct_globals = subst (λ (names : List (List ℕ)). AllPairs ◌≢◌ names) (sym names_same) sound.distinct_globals;
    no_cycle = no_cycle draft planes program is sound;
    depth = depth draft planes program is sound;
    structures = structure_good draft planes program is sound none program_faultless (bytes_good draft planes program is laid sound none);
    roots = roots_good;
    caches = caches_good;
    words = words_good;
  }

-- a sound draft that declares a program has a settled one
pub settled : (draft : Draft) (program : Program) → IsSound draft → Declares draft program → Settled program
settled draft program sound declares = settled_by draft declares.made.planes program declares.made.made declares.made.laid sound declares.faultless
