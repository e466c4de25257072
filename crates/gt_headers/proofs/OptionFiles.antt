-- The faults of options stand in the files of what they are of.
use Rattle.std.proofs.Common.{◌≡◌, ℕ, suc, Bool, true, false, List, [], ◌∷◌, ◌++◌, subst, inl, inr, Option, Some, None}
use Rattle.std.specs.Prelude.{zero, All, flat_map, slice_get, if◌then◌else◌, ◌&&◌, not, is_none, codes}
use Rattle.std.specs.List.{list_any}
use Rattle.std.specs.Option.{option_map_or}
use Rattle.std.proofs.lemmas.List.Elements.{All-nil, All-cons, All-head, All-tail, All-append, All-contains}
use Rattle.gt_types.specs.declared.faults.Fault.{Fault}
use Rattle.gt_types.specs.declared.program.Program.{Program}
use Rattle.gt_types.specs.declared.program.Field.{Field}
use Rattle.gt_types.specs.declared.program.Root.{Root}
use Rattle.gt_types.specs.declared.types.TypeId.{TypeId}
use Rattle.gt_items.specs.declared.items.RawOption.{RawOption}
use Rattle.gt_drafts.specs.declared.draft.Draft.{Draft}
use Rattle.gt_drafts.specs.declared.draft.DraftCache.{DraftCache}
use Rattle.gt_drafts.specs.declared.draft.DraftField.{DraftField}
use Rattle.gt_drafts.specs.declared.draft.DraftRoot.{DraftRoot}
use Rattle.gt_drafts.specs.declared.draft.DraftStructure.{DraftStructure}
use Rattle.gt_drafts.specs.FirstFaults.{fault_if}
use Rattle.gt_resolve.proofs.FaultFiles.{OfFault, OfStructure, OfRoot, OfCache}
use Rattle.gt_markers.specs.declared.TheConstants.{UNKNOWN_OPTION, WRONG_PLACE, MISSING_DESC, DUPLICATE_TAG, BAD_PATH, UNKNOWN_HOOK}
use Rattle.gt_markers.specs.declared.kinds.OptionKind.{OptionKind}
use Rattle.gt_markers.specs.Options.{kind_of, option_named}
use Rattle.gt_markers.specs.Expressions.{constant_value, constants, constants_and_roots}
use Rattle.gt_markers.specs.Typing.{says, walked_type}
use Rattle.gt_drafts.specs.Options.{has_skip}
use Rattle.gt_markers.specs.Sites.{Site, at_cache, at_field, at_root, at_structure, faults_after, is_ill_formed, is_passed_over, is_tag, is_unknown_hook, known_faults, marker_faults, may_stand, option_faults, stands_among, wrong_number}
use Rattle.gt_markers.specs.MarkerFaults.{cache_faults, draft_faults, field_faults, fields_faults, has_tag, is_default, is_empty, is_unmarked, is_untyped, repeated_fault, repeated_faults, root_faults, structure_faults, tag_value}
use Rattle.gt_rules.specs.Faults.{HasFault, HasProgramFault, IsFieldAt, IsRootAt, field_without_desc, field_to_bare_union, field_to_inner, root_without_desc, root_to_bare_union, root_to_inner, root_of_inner, field_length, field_desc, union_desc, root_length, root_desc, field_reorder, root_reorder, chain, cache_shape}

-- what a place of a list has
pub at_place : {A : Type 0} (Q : A → Type 0) (xs : List A) (place : ℕ) (x : A) → All Q xs → slice_get xs place ≡ Some x → Q x
at_place Q [] place x all is = cc
at_place Q (y ∷ ys) zero x all is = let same : y ≡ x = cc in subst Q same (All-head Q y ys all)
at_place Q (y ∷ ys) (suc place) x all is = at_place Q ys place x (All-tail Q y ys all) is

-- what the lists of all items have
all_of : {A B : Type 0} (Q : A → Type 0) (R : B → Type 0) (f : A → List B) → ((x : A) → Q x → All R (f x)) → (xs : List A) → All Q xs → All R (flat_map f xs)
all_of Q R f one [] all = All-nil R
all_of Q R f one (x ∷ xs) all = All-append R (f x) (flat_map f xs) (one x (All-head Q x xs all)) (all_of Q R f one xs (All-tail Q x xs all))

module _ (P : ℕ → Type 0) where
  one : (b : Bool) (number file at : ℕ) → P file → All (OfFault P) (fault_if b number file at)
  one true number file at here = All-cons (OfFault P) (record { number = number; file = file; at = at }) [] here (All-nil (OfFault P))
  one false number file at here = All-nil (OfFault P)

  both : (xs ys : List Fault) → All (OfFault P) xs → All (OfFault P) ys → All (OfFault P) (xs ++ ys)
  both xs ys a b = All-append (OfFault P) xs ys a b

  unless : (b : Bool) (xs : List Fault) → All (OfFault P) xs → All (OfFault P) (if b then [] else xs)
  unless true xs all = All-nil (OfFault P)
  unless false xs all = all

  -- the faults of markers

  known : (draft : Draft) (site : Site) (options : List RawOption) (file : ℕ) (before : List RawOption) (o : RawOption) (kind : OptionKind) → P file
      → All (OfFault P) (known_faults draft site options file before o kind)
  known draft site options file before o kind here =
      let form = fault_if (is_ill_formed before o kind) WRONG_PLACE file o.name.at in
      let place = fault_if (not (may_stand draft.structures site options kind)) (wrong_number site kind) file o.name.at in
      let again = fault_if (is_tag kind && stands_among before o) DUPLICATE_TAG file o.name.at in
      let tag = fault_if (is_tag kind && is_none (constant_value draft o.parameter)) BAD_PATH file o.name.at in
      let hook = fault_if (is_unknown_hook kind o.parameter) UNKNOWN_HOOK file o.name.at in
      unless (is_passed_over site options kind) (form ++ place ++ again ++ tag ++ hook)
      (both (form ++ place ++ again ++ tag) hook
      (both (form ++ place ++ again) tag
      (both (form ++ place) again
      (both form place (one (is_ill_formed before o kind) WRONG_PLACE file o.name.at here)
      (one (not (may_stand draft.structures site options kind)) (wrong_number site kind) file o.name.at here))
      (one (is_tag kind && stands_among before o) DUPLICATE_TAG file o.name.at here))
      (one (is_tag kind && is_none (constant_value draft o.parameter)) BAD_PATH file o.name.at here))
      (one (is_unknown_hook kind o.parameter) UNKNOWN_HOOK file o.name.at here))

  by_kind : (draft : Draft) (site : Site) (options : List RawOption) (file : ℕ) (before : List RawOption) (o : RawOption) (kind : Option OptionKind) → P file
      → All (OfFault P) (option_map_or (known_faults draft site options file before o) kind (fault_if true UNKNOWN_OPTION file o.name.at))
  by_kind draft site options file before o (Some kind) here = known draft site options file before o kind here
  by_kind draft site options file before o None here = one true UNKNOWN_OPTION file o.name.at here

  after : (draft : Draft) (site : Site) (options : List RawOption) (file : ℕ) (before os : List RawOption) → P file → All (OfFault P) (faults_after draft site options file before os)
  unfolding faults_after
  after draft site options file before [] here = All-nil (OfFault P)
  after draft site options file before (o ∷ os) here =
      both (option_faults draft site options file before o) (faults_after draft site options file (before ++ o ∷ []) os) (by_kind draft site options file before o (kind_of o.name.word) here)
      (after draft site options file (before ++ o ∷ []) os here)

  of_marker : (draft : Draft) (site : Site) (file : ℕ) (options : List RawOption) → P file → All (OfFault P) (marker_faults draft site file options)
  of_marker draft site file options here = after draft site options file [] options here

  -- ---- the faults that the draft alone tells

  repeated : (is : Bool) (file : ℕ) (o : Option RawOption) → P file → All (OfFault P) (repeated_fault is file o)
  repeated is file (Some o) here = one is DUPLICATE_TAG file o.name.at here
  repeated is file None here = All-nil (OfFault P)

  repeats : (draft : Draft) (in_union : Bool) (before : List DraftField) (file : ℕ) (options : List RawOption) → P file
      → All (OfFault P) (repeated_faults draft in_union before file options)
  repeats draft in_union before file options here =
      let same_tag = in_union && list_any (has_tag draft (tag_value draft options)) before in
      let default_twice = in_union && list_any is_default before in
      let tag = option_named (codes "tag") options in
      let default = option_named (codes "default") options in
      both (repeated_fault same_tag file tag) (repeated_fault default_twice file default) (repeated same_tag file tag here) (repeated default_twice file default here)

  of_field : (draft : Draft) (s : DraftStructure) (before : List DraftField) (last : Bool) (f : DraftField) → P s.file → All (OfFault P) (field_faults draft s before last f)
  of_field draft s before last f here =
      let marker = marker_faults draft (at_field s.is_union last f.ty) s.file f.options in
      let untyped = fault_if (is_untyped (constants draft) draft f.options f) WRONG_PLACE s.file f.name.at in
      let unmarked = fault_if (s.is_union && is_unmarked f.options) MISSING_DESC s.file f.name.at in
      both (marker ++ untyped ++ unmarked) (repeated_faults draft s.is_union before s.file f.options)
      (both (marker ++ untyped) unmarked
      (both marker untyped (of_marker draft (at_field s.is_union last f.ty) s.file f.options here)
      (one (is_untyped (constants draft) draft f.options f) WRONG_PLACE s.file f.name.at here))
      (one (s.is_union && is_unmarked f.options) MISSING_DESC s.file f.name.at here))
      (repeats draft s.is_union before s.file f.options here)

  of_fields : (draft : Draft) (s : DraftStructure) (before fs : List DraftField) → P s.file → All (OfFault P) (fields_faults draft s before fs)
  unfolding fields_faults
  of_fields draft s before [] here = All-nil (OfFault P)
  of_fields draft s before (f ∷ fs) here =
      both (field_faults draft s before (is_empty fs) f) (fields_faults draft s (before ++ f ∷ []) fs) (of_field draft s before (is_empty fs) f here)
      (of_fields draft s (before ++ f ∷ []) fs here)

  of_structure : (draft : Draft) (s : DraftStructure) → OfStructure P s → All (OfFault P) (structure_faults draft s)
  of_structure draft s here = both (marker_faults draft (at_structure s.is_union) s.file s.options) (fields_faults draft s [] s.fields) (of_marker draft (at_structure s.is_union) s.file s.options here) (of_fields draft s [] s.fields here)

  of_root : (draft : Draft) (r : DraftRoot) → OfRoot P r → All (OfFault P) (root_faults draft r)
  of_root draft r here =
      let untyped = not (has_skip r.options) && is_none (walked_type draft (says (constants_and_roots draft) r.options) r.ty) in
      both (marker_faults draft (at_root r.ty) r.file r.options) (fault_if untyped WRONG_PLACE r.file r.name.at) (of_marker draft (at_root r.ty) r.file r.options here)
      (one untyped WRONG_PLACE r.file r.name.at here)

  of_cache : (draft : Draft) (c : DraftCache) → OfCache P c → All (OfFault P) (cache_faults draft c)
  of_cache draft c here = of_marker draft at_cache c.file c.options here

  module _ (draft : Draft) (structures : All (OfStructure P) draft.structures) (roots : All (OfRoot P) draft.roots) (caches : All (OfCache P) draft.caches) where
    of_draft : All (OfFault P) (draft_faults draft)
    of_draft =
        both (flat_map (structure_faults draft) draft.structures ++ flat_map (root_faults draft) draft.roots) (flat_map (cache_faults draft) draft.caches)
        (both (flat_map (structure_faults draft) draft.structures) (flat_map (root_faults draft) draft.roots)
        (all_of (OfStructure P) (OfFault P) (structure_faults draft) (of_structure draft) draft.structures structures)
        (all_of (OfRoot P) (OfFault P) (root_faults draft) (of_root draft) draft.roots roots))
        (all_of (OfCache P) (OfFault P) (cache_faults draft) (of_cache draft) draft.caches caches)

    -- ---- those that only the program tells

    at_field_of : (program : Program) (id : TypeId) (ds : DraftStructure) (df : DraftField) (f : Field) → IsFieldAt draft program id ds df f → P ds.file
    at_field_of program id ds df f is = at_place (OfStructure P) draft.structures id.0 ds structures is.structure

    at_root_of : (program : Program) (dr : DraftRoot) (r : Root) → IsRootAt draft program dr r → P dr.file
    at_root_of program dr r is = at_place (OfRoot P) draft.roots is.place dr roots is.drafted

    of_program : (program : Program) (f : Fault) → HasProgramFault draft program f → P f.file
    of_program program f (field_without_desc is bad) = at_field_of program _ _ _ _ is
    of_program program f (field_to_bare_union is bad) = at_field_of program _ _ _ _ is
    of_program program f (field_to_inner is bad) = at_field_of program _ _ _ _ is
    of_program program f (root_without_desc is bad) = at_root_of program _ _ is
    of_program program f (root_to_bare_union is bad) = at_root_of program _ _ is
    of_program program f (root_to_inner is bad) = at_root_of program _ _ is
    of_program program f (root_of_inner is held bad) = at_root_of program _ _ is
    of_program program f (field_length is o bad) = at_field_of program _ _ _ _ is
    of_program program f (field_desc is o held bad) = at_field_of program _ _ _ _ is
    of_program program f (union_desc {id} {ds} is union o bad) = at_place (OfStructure P) draft.structures id.0 ds structures is
    of_program program f (root_length is o bad) = at_root_of program _ _ is
    of_program program f (root_desc is o held bad) = at_root_of program _ _ is
    of_program program f (field_reorder is o bad) = at_field_of program _ _ _ _ is
    of_program program f (root_reorder is o sorted bad) = at_root_of program _ _ is
    of_program program f (chain {id} {ds} is o some bad) = at_place (OfStructure P) draft.structures id.0 ds structures is
    of_program program f (cache_shape {c} is bad) = All-contains (OfCache P) draft.caches c caches is

    -- a fault of the options stands in the file of a structure, a root or a cache
    pub of_options : (program : Program) (f : Fault) → HasFault draft program f → P f.file
    of_options program f (inl is) = All-contains (OfFault P) (draft_faults draft) f of_draft is
    of_options program f (inr is) = of_program program f is
