-- The faults of names and types stand in the files of what they are of.
use Rattle.std.proofs.Common.{ℕ, suc, Bool, true, false, List, [], ◌∷◌, ◌++◌, length}
use Rattle.std.specs.Prelude.{All, ◌||◌, nat_le}
use Rattle.std.specs.List.{list_any}
use Rattle.std.specs.Str.{bytes_eq}
use Rattle.std.proofs.lemmas.List.Elements.{All-nil, All-cons, All-head, All-tail, All-append}
use Rattle.gt_types.specs.declared.faults.Fault.{Fault}
use Rattle.gt_resolve.specs.declared.TheConstants.{REDEFINED, UNDEFINED, BY_VALUE_CYCLE, BAD_BOUND, TOO_MANY}
use Rattle.gt_types.specs.declared.limits.TheConstants.{MAX_STRUCTURES, MAX_FIELDS, MAX_ROOTS, MAX_CACHES}
use Rattle.gt_scope.specs.declared.declaration.Declaration.{Declaration}
use Rattle.gt_scope.specs.declared.meaning.TypedefMeaning.{TypedefMeaning}
use Rattle.gt_drafts.specs.declared.draft.Draft.{Draft}
use Rattle.gt_drafts.specs.declared.draft.DraftCache.{DraftCache}
use Rattle.gt_drafts.specs.declared.draft.DraftField.{DraftField}
use Rattle.gt_drafts.specs.declared.draft.DraftRoot.{DraftRoot}
use Rattle.gt_drafts.specs.declared.draft.DraftStructure.{DraftStructure}
use Rattle.gt_drafts.specs.FirstFaults.{fault_if}
use Rattle.gt_resolve.specs.Faults.{clashes, redefinitions, is_bad_type, field_faults, fields_faults, structure_faults, structures_faults, root_faults, roots_faults, cache_faults, caches_faults, faults_of}
use Rattle.gt_drafts.specs.Undefined.{is_undefined_type, is_nothing}
use Rattle.gt_drafts.specs.Shapes.{has_flag}
use Rattle.gt_scope.proofs.DeclaredFiles.{Of}

-- of a property of files
module _ (P : ℕ → Type 0) where
  -- a fault stands in such a file
  abbrev pub OfFault : Fault → Type 0
  OfFault f = P f.file

  one_fault : (b : Bool) (number file at : ℕ) → P file → All OfFault (fault_if b number file at)
  one_fault true number file at here = All-cons OfFault (record { number = number; file = file; at = at }) [] here (All-nil OfFault)
  one_fault false number file at here = All-nil OfFault

  both : (xs ys : List Fault) → All OfFault xs → All OfFault ys → All OfFault (xs ++ ys)
  both xs ys a b = All-append OfFault xs ys a b

  second : (all : List Declaration) (types : List TypedefMeaning) (earlier ds : List Declaration) → All (Of P) ds → All OfFault (redefinitions all types earlier ds)
  unfolding redefinitions
  second all types earlier [] of = All-nil OfFault
  second all types earlier (d ∷ ds) of =
      both (fault_if (list_any (λ other. clashes all types d other) earlier) REDEFINED d.file d.name.at) (redefinitions all types (earlier ++ d ∷ []) ds)
      (one_fault (list_any (λ other. clashes all types d other) earlier) REDEFINED d.file d.name.at (All-head (Of P) d ds of))
      (second all types (earlier ++ d ∷ []) ds (All-tail (Of P) d ds of))

  of_field : (tails : List Bool) (file : ℕ) (in_union : Bool) (before : List (List ℕ)) (f : DraftField) → P file → All OfFault (field_faults tails file in_union before f)
  of_field tails file in_union before f here =
      let again = fault_if (list_any (λ name. bytes_eq name f.name.word) before) REDEFINED file f.name.at in
      let unknown = fault_if (is_undefined_type f.options f.ty) UNDEFINED file f.name.at in
      let bad = fault_if (is_bad_type tails in_union f.options f.ty) BAD_BOUND file f.name.at in
      let many = fault_if (nat_le MAX_FIELDS (length before)) TOO_MANY file f.name.at in
      both (again ++ unknown ++ bad) many
      (both (again ++ unknown) bad
      (both again unknown (one_fault _ REDEFINED file f.name.at here) (one_fault _ UNDEFINED file f.name.at here))
      (one_fault _ BAD_BOUND file f.name.at here))
      (one_fault _ TOO_MANY file f.name.at here)

  of_fields : (tails : List Bool) (file : ℕ) (in_union : Bool) (before : List (List ℕ)) (fs : List DraftField) → P file → All OfFault (fields_faults tails file in_union before fs)
  unfolding fields_faults
  of_fields tails file in_union before [] here = All-nil OfFault
  of_fields tails file in_union before (f ∷ fs) here =
      both (field_faults tails file in_union before f) (fields_faults tails file in_union (before ++ f.name.word ∷ []) fs)
      (of_field tails file in_union before f here) (of_fields tails file in_union (before ++ f.name.word ∷ []) fs here)

  -- a structure is of such a file
  abbrev pub OfStructure : DraftStructure → Type 0
  OfStructure s = P s.file

  of_structure : (cyclic deep tails : List Bool) (place : ℕ) (s : DraftStructure) → P s.file → All OfFault (structure_faults cyclic deep tails place s)
  of_structure cyclic deep tails place s here =
      let cycle = fault_if (has_flag cyclic place) BY_VALUE_CYCLE s.file s.tag.at in
      let many = fault_if (has_flag deep place || nat_le MAX_STRUCTURES place) TOO_MANY s.file s.tag.at in
      both (cycle ++ many) (fields_faults tails s.file s.is_union [] s.fields)
      (both cycle many (one_fault _ BY_VALUE_CYCLE s.file s.tag.at here) (one_fault _ TOO_MANY s.file s.tag.at here))
      (of_fields tails s.file s.is_union [] s.fields here)

  of_structures : (cyclic deep tails : List Bool) (place : ℕ) (ss : List DraftStructure) → All OfStructure ss → All OfFault (structures_faults cyclic deep tails place ss)
  unfolding structures_faults
  of_structures cyclic deep tails place [] of = All-nil OfFault
  of_structures cyclic deep tails place (s ∷ ss) of =
      both (structure_faults cyclic deep tails place s) (structures_faults cyclic deep tails (suc place) ss)
      (of_structure cyclic deep tails place s (All-head OfStructure s ss of)) (of_structures cyclic deep tails (suc place) ss (All-tail OfStructure s ss of))

  -- a root is
  abbrev pub OfRoot : DraftRoot → Type 0
  OfRoot r = P r.file

  of_root : (tails : List Bool) (place : ℕ) (r : DraftRoot) → P r.file → All OfFault (root_faults tails place r)
  of_root tails place r here =
      let unknown = fault_if (is_undefined_type r.options r.ty) UNDEFINED r.file r.name.at in
      let bad = fault_if (is_bad_type tails false r.options r.ty) BAD_BOUND r.file r.name.at in
      let many = fault_if (nat_le MAX_ROOTS place) TOO_MANY r.file r.name.at in
      both (unknown ++ bad) many (both unknown bad (one_fault _ UNDEFINED r.file r.name.at here) (one_fault _ BAD_BOUND r.file r.name.at here))
      (one_fault _ TOO_MANY r.file r.name.at here)

  of_roots : (tails : List Bool) (place : ℕ) (rs : List DraftRoot) → All OfRoot rs → All OfFault (roots_faults tails place rs)
  unfolding roots_faults
  of_roots tails place [] of = All-nil OfFault
  of_roots tails place (r ∷ rs) of =
      both (root_faults tails place r) (roots_faults tails (suc place) rs) (of_root tails place r (All-head OfRoot r rs of)) (of_roots tails (suc place) rs (All-tail OfRoot r rs of))

  -- a cache is
  abbrev pub OfCache : DraftCache → Type 0
  OfCache c = P c.file

  of_cache : (place : ℕ) (c : DraftCache) → P c.file → All OfFault (cache_faults place c)
  of_cache place c here =
      both (fault_if (is_nothing c.key || is_nothing c.value) UNDEFINED c.file c.name.at) (fault_if (nat_le MAX_CACHES place) TOO_MANY c.file c.name.at)
      (one_fault _ UNDEFINED c.file c.name.at here) (one_fault _ TOO_MANY c.file c.name.at here)

  of_caches : (place : ℕ) (cs : List DraftCache) → All OfCache cs → All OfFault (caches_faults place cs)
  unfolding caches_faults
  of_caches place [] of = All-nil OfFault
  of_caches place (c ∷ cs) of =
      both (cache_faults place c) (caches_faults (suc place) cs) (of_cache place c (All-head OfCache c cs of)) (of_caches (suc place) cs (All-tail OfCache c cs of))

  -- all faults stand in the files of what they are of
  pub of_all : (ds : List Declaration) (types : List TypedefMeaning) (draft : Draft) (cyclic deep tails : List Bool) → All (Of P) ds → All OfStructure draft.structures
      → All OfRoot draft.roots → All OfCache draft.caches → All OfFault (faults_of ds types draft cyclic deep tails)
  unfolding faults_of
  of_all ds types draft cyclic deep tails declared structures roots caches =
      let first = redefinitions ds types [] ds in
      let ss = structures_faults cyclic deep tails 0 draft.structures in
      let rs = roots_faults tails 0 draft.roots in
      both (first ++ ss ++ rs) (caches_faults 0 draft.caches)
      (both (first ++ ss) rs (both first ss (second ds types [] ds declared) (of_structures cyclic deep tails 0 draft.structures structures))
      (of_roots tails 0 draft.roots roots))
      (of_caches 0 draft.caches caches)
