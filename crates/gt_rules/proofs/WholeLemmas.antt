-- The faults part by part are the faults that only the program tells.
use Rattle.std.proofs.Common.{◌≡◌, ◌∙◌, ◌⊎◌, inl, inr, ℕ, Bool, true, false, List, Option, Some, None, refl, sym, ap, subst}
use Rattle.std.specs.Prelude.{if◌then◌else◌, codes, IsTrue, slice_get, Contains}
use Rattle.std.proofs.lemmas.Option.{none-some, same_Some, slice_get-get_or, slice_get_within, get_or_from_slice_get}
use Rattle.gt_types.specs.declared.faults.Fault.{Fault}
use Rattle.gt_types.specs.declared.types.TypeId.{TypeId}
use Rattle.gt_types.specs.declared.program.Field.{Field}
use Rattle.gt_types.specs.declared.program.Structure.{Structure}
use Rattle.gt_types.specs.declared.program.Root.{Root}
use Rattle.gt_types.specs.declared.program.Program.{Program}
use Rattle.gt_items.specs.declared.items.RawOption.{RawOption}
use Rattle.gt_drafts.specs.declared.draft.Draft.{Draft}
use Rattle.gt_drafts.specs.declared.draft.DraftField.{DraftField}
use Rattle.gt_drafts.specs.declared.draft.DraftRoot.{DraftRoot}
use Rattle.gt_drafts.specs.declared.draft.DraftStructure.{DraftStructure}
use Rattle.gt_drafts.specs.Options.{has_skip}
use Rattle.gt_drafts.specs.FirstFaults.{is_no_later}
use Rattle.gt_markers.specs.Options.{option_named}
use Rattle.gt_markers.specs.Typing.{node}
use Rattle.gt_rules.specs.Faults.{HasProgramFault, field_without_desc, field_to_bare_union, field_to_inner, root_without_desc, root_to_bare_union, root_to_inner, root_of_inner, field_length, field_desc, union_desc, root_length, root_desc, field_reorder, root_reorder, chain, cache_shape, IsFieldAt, IsReadOption, IsRootAt}
use Rattle.gt_rules.specs.Firsts.{IsFirstProgramFault}
use Rattle.gt_rules.specs.Parts.{FieldFaults, IsFirstWith, ProgramFaults, RootFaults, StructureFaults, TypeFaults, read_option}

-- ---- lists

in_list : {A : Type 0} (xs : List A) (k : ℕ) (x : A) → slice_get xs k ≡ Some x → Contains xs x
in_list {A} xs k x at = (k, slice_get_within xs k x at, get_or_from_slice_get xs k x x at)

by_place : {A : Type 0} (xs : List A) (x : A) → Contains xs x → (k : ℕ) × (slice_get xs k ≡ Some x)
by_place {A} xs x (k, inside, is) = (k, slice_get-get_or xs k x inside ∙ ap Some is)

-- ---- options that are read

read_by : (b : Bool) (found : Option RawOption) (o : RawOption) → (if b then None else found) ≡ Some o → (b ≡ false) × (found ≡ Some o)
read_by true found o is = absurd (none-some o is)
read_by false found o is = (refl, is)

read_again : (b : Bool) (found : Option RawOption) (o : RawOption) → b ≡ false → found ≡ Some o → (if b then None else found) ≡ Some o
read_again b found o off is = ap (λ (x : Bool). if x then None else found) off ∙ is

is_read : (options : List RawOption) (name : List ℕ) (o : RawOption) → read_option true name options ≡ Some o → IsReadOption options name o
is_read options name o is = read_by (has_skip options) (option_named name options) o is

reads : (options : List RawOption) (name : List ℕ) (o : RawOption) → IsReadOption options name o → read_option true name options ≡ Some o
reads options name o is = read_again (has_skip options) (option_named name options) o is.0 is.1

-- ---- from parts

-- a fault by another name
said : (draft : Draft) (program : Program) (g f : Fault) → HasProgramFault draft program f → g ≡ f → HasProgramFault draft program g
said draft program g f has is = subst (HasProgramFault draft program) (sym is) has

module _ (draft : Draft) (program : Program) where
  field_type : (id : TypeId) (ds : DraftStructure) (df : DraftField) (f : Field) (g : Fault) → IsFieldAt draft program id ds df f
      → TypeFaults draft program df.options df.ty f.ty ds.file df.name.at g → HasProgramFault draft program g
  field_type id ds df f g at (inl (inl lacks, is)) = said draft program g _ (field_without_desc at lacks) is
  field_type id ds df f g at (inl (inr bare, is)) = said draft program g _ (field_to_bare_union at bare) is
  field_type id ds df f g at (inr (inner, is)) = said draft program g _ (field_to_inner at inner) is

  field_has : (id : TypeId) (ds : DraftStructure) (df : DraftField) (f : Field) (g : Fault) → IsFieldAt draft program id ds df f
      → FieldFaults draft program id ds.file df f g → HasProgramFault draft program g
  field_has id ds df f g at (inl type) = field_type id ds df f g at type
  field_has id ds df f g at (inr (inl (o, read, bad, is))) = said draft program g _ (field_length at (inl (is_read df.options (codes "length") o read)) bad) is
  field_has id ds df f g at (inr (inr (inl (o, read, bad, is)))) = said draft program g _ (field_length at (inr (is_read df.options (codes "string_length") o read)) bad) is
  field_has id ds df f g at (inr (inr (inr (inl (held, holds, (o, read, bad, is)))))) =
      said draft program g _ (field_desc at (is_read df.options (codes "desc") o read) holds bad) is
  field_has id ds df f g at (inr (inr (inr (inr (o, read, bad, is))))) = said draft program g _ (field_reorder at (is_read df.options (codes "reorder") o read) bad) is

  structure_has : (id : TypeId) (ds : DraftStructure) (s : Structure) (g : Fault) → slice_get draft.structures id.0 ≡ Some ds → slice_get program.structures id.0 ≡ Some s
      → StructureFaults draft program id ds s g → HasProgramFault draft program g
  structure_has id ds s g drafted made (inl (o, union, named, bad, is)) = said draft program g _ (union_desc drafted union named bad) is
  structure_has id ds s g drafted made (inr (inl (k, o, there, ((kind, back), is)))) =
      said draft program g _ (chain drafted (in_list ds.options k o there) kind (λ path at leads. back (path, at, leads))) is
  structure_has id ds s g drafted made (inr (inr (place, df, drafted_field, (f, made_field, faults)))) =
      field_has id ds df f g (record { structure = drafted; s = s; there = made; place = place; drafted = drafted_field; made = made_field }) faults

  root_type : (dr : DraftRoot) (r : Root) (g : Fault) → IsRootAt draft program dr r → TypeFaults draft program dr.options dr.ty r.ty dr.file dr.name.at g → HasProgramFault draft program g
  root_type dr r g at (inl (inl lacks, is)) = said draft program g _ (root_without_desc at lacks) is
  root_type dr r g at (inl (inr bare, is)) = said draft program g _ (root_to_bare_union at bare) is
  root_type dr r g at (inr (inner, is)) = said draft program g _ (root_to_inner at inner) is

  root_has : (dr : DraftRoot) (r : Root) (g : Fault) → IsRootAt draft program dr r → RootFaults draft program dr r g → HasProgramFault draft program g
  root_has dr r g at (inl type) = root_type dr r g at type
  root_has dr r g at (inr (inl ((id, holds, inner), is))) = said draft program g _ (root_of_inner at holds inner) is
  root_has dr r g at (inr (inr (inl (o, read, bad, is)))) = said draft program g _ (root_length at read bad) is
  root_has dr r g at (inr (inr (inr (inl (held, holds, (o, read, bad, is)))))) = said draft program g _ (root_desc at read holds bad) is
  root_has dr r g at (inr (inr (inr (inr (id, sorted, (o, read, bad, is)))))) = said draft program g _ (root_reorder at read sorted bad) is

  has_fault : (g : Fault) → ProgramFaults draft program g → HasProgramFault draft program g
  has_fault g (inl (k, ds, drafted, (s, made, faults))) = structure_has (node k) ds s g drafted made faults
  has_fault g (inr (inl (k, dr, drafted, (r, made, faults)))) = root_has dr r g (record { place = k; drafted = drafted; made = made }) faults
  has_fault g (inr (inr (k, c, there, (bad, is)))) = said draft program g _ (cache_shape (in_list draft.caches k c there) bad) is

  -- ---- into parts

  of_field : (id : TypeId) (ds : DraftStructure) (df : DraftField) (f : Field) (g : Fault) → IsFieldAt draft program id ds df f
      → FieldFaults draft program id ds.file df f g → ProgramFaults draft program g
  of_field id ds df f g at faults = inl (id.0, ds, at.structure, (at.s, at.there, inr (inr (at.place, df, at.drafted, (f, at.made, faults)))))

  of_structure : (id : TypeId) (ds : DraftStructure) (s : Structure) (g : Fault) → slice_get draft.structures id.0 ≡ Some ds → slice_get program.structures id.0 ≡ Some s
      → StructureFaults draft program id ds s g → ProgramFaults draft program g
  of_structure id ds s g drafted made faults = inl (id.0, ds, drafted, (s, made, faults))

  of_root : (dr : DraftRoot) (r : Root) (g : Fault) → IsRootAt draft program dr r → RootFaults draft program dr r g → ProgramFaults draft program g
  of_root dr r g at faults = inr (inl (at.place, dr, at.drafted, (r, at.made, faults)))

  -- each structure of the draft is one of the program
  abbrev AreMade : Type 0
  AreMade = (k : ℕ) (ds : DraftStructure) → slice_get draft.structures k ≡ Some ds → (s : Structure) × (slice_get program.structures k ≡ Some s)

  parts_of : AreMade → (g : Fault) → HasProgramFault draft program g → ProgramFaults draft program g
  parts_of are g (field_without_desc at lacks) = of_field _ _ _ _ _ at (inl (inl (inl lacks, refl)))
  parts_of are g (field_to_bare_union at bare) = of_field _ _ _ _ _ at (inl (inl (inr bare, refl)))
  parts_of are g (field_to_inner at inner) = of_field _ _ _ _ _ at (inl (inr (inner, refl)))
  parts_of are g (root_without_desc at lacks) = of_root _ _ _ at (inl (inl (inl lacks, refl)))
  parts_of are g (root_to_bare_union at bare) = of_root _ _ _ at (inl (inl (inr bare, refl)))
  parts_of are g (root_to_inner at inner) = of_root _ _ _ at (inl (inr (inner, refl)))
  parts_of are g (root_of_inner {id = id} at holds inner) = of_root _ _ _ at (inr (inl ((id, holds, inner), refl)))
  parts_of are g (field_length {df = df} {o = o} at (inl read) bad) = of_field _ _ _ _ _ at (inr (inl (o, reads df.options (codes "length") o read, bad, refl)))
  parts_of are g (field_length {df = df} {o = o} at (inr read) bad) = of_field _ _ _ _ _ at (inr (inr (inl (o, reads df.options (codes "string_length") o read, bad, refl))))
  parts_of are g (field_desc {union = held} {df = df} {o = o} at read holds bad) =
      of_field _ _ _ _ _ at (inr (inr (inr (inl (held, holds, (o, reads df.options (codes "desc") o read, bad, refl))))))
  parts_of are g (union_desc {id = id} {ds = ds} {o = o} drafted union named bad) =
      let made = are id.0 ds drafted in of_structure id ds made.0 _ drafted made.1 (inl (o, union, named, bad, refl))
  parts_of are g (root_length {o = o} at read bad) = of_root _ _ _ at (inr (inr (inl (o, read, bad, refl))))
  parts_of are g (root_desc {union = held} {o = o} at read holds bad) =
      of_root _ _ _ at (inr (inr (inr (inl (held, holds, (o, read, bad, refl))))))
  parts_of are g (field_reorder {df = df} {o = o} at read bad) = of_field _ _ _ _ _ at (inr (inr (inr (inr (o, reads df.options (codes "reorder") o read, bad, refl)))))
  parts_of are g (root_reorder {id = id} {o = o} at read sorted bad) = of_root _ _ _ at (inr (inr (inr (inr (id, sorted, (o, read, bad, refl))))))
  parts_of are g (chain {id = id} {ds = ds} {o = o} drafted there kind none) =
      let made = are id.0 ds drafted in
      let at = by_place ds.options o there in
      of_structure id ds made.0 _ drafted made.1 (inr (inl (at.0, o, at.1, ((kind, λ leads. none leads.0 leads.1 leads.2), refl))))
  parts_of are g (cache_shape {c = c} there bad) = let at = by_place draft.caches c there in inr (inr (at.0, c, at.1, (bad, refl)))

  -- ---- the first

  first_by : (first : Option Fault) → AreMade → IsFirstWith None (ProgramFaults draft program) first → IsFirstProgramFault draft program first
  first_by None are by = λ f has. none-some (by.least f (inr (parts_of are f has))).0 (by.least f (inr (parts_of are f has))).1
  first_by (Some f) are by = (there (by.there f refl), λ other has. earlier other (by.least other (inr (parts_of are other has))))
    where
      there : (None ≡ Some f) ⊎ ProgramFaults draft program f → HasProgramFault draft program f
      there (inl is) = absurd (none-some f is)
      there (inr faults) = has_fault f faults

      earlier : (other : Fault) → (g : Fault) × (Some f ≡ Some g) × IsTrue (is_no_later g other) → IsTrue (is_no_later f other)
      earlier other (g, is, no_later) = subst (λ (x : Fault). IsTrue (is_no_later x other)) (sym (same_Some f g is)) no_later

-- the first of all parts is the first of the faults that only the program tells
pub first_of_parts : (draft : Draft) (program : Program) (first : Option Fault)
    → ((k : ℕ) (ds : DraftStructure) → slice_get draft.structures k ≡ Some ds → (s : Structure) × (slice_get program.structures k ≡ Some s))
    → IsFirstWith None (ProgramFaults draft program) first → IsFirstProgramFault draft program first
first_of_parts draft program first are by = first_by draft program first are by
