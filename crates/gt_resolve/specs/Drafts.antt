-- What files declare, with resolved types.
use Rattle.std.specs.Prelude.{ℕ, suc, ℤ, Bool, true, false, if◌then◌else◌, List, [], ◌∷◌, ◌++◌, map, Option, Some, None, filter_map, option_map}
use Rattle.std.specs.Option.{option_map_or}
use Rattle.std.specs.List.{list_any, flat_map}
use Rattle.std.specs.Str.{bytes_eq}
use Rattle.gt_items.specs.declared.items.Declarator.{Declarator}
use Rattle.gt_items.specs.declared.items.Item.{Item}
use Rattle.gt_items.specs.declared.items.Item.TheVariants as item
use Rattle.gt_items.specs.declared.items.Items.{Items}
use Rattle.gt_items.specs.declared.items.RawCache.{RawCache}
use Rattle.gt_items.specs.declared.items.RawField.{RawField}
use Rattle.gt_items.specs.declared.items.RawRoot.{RawRoot}
use Rattle.gt_items.specs.declared.items.RawStructure.{RawStructure}
use Rattle.gt_items.specs.declared.items.RawType.{RawType}
use Rattle.gt_items.specs.declared.items.PointedType.{PointedType}
use Rattle.gt_items.specs.declared.items.Stars.{Stars}
use Rattle.gt_items.specs.declared.items.Stars.TheVariants.{Zero, One}
use Rattle.gt_drafts.specs.declared.types.Amount.{Amount}
use Rattle.gt_drafts.specs.declared.types.Amount.TheVariants.{Unread}
use Rattle.gt_drafts.specs.declared.types.BaseType.{BaseType}
use Rattle.gt_drafts.specs.declared.types.BaseType.TheVariants as base
use Rattle.gt_drafts.specs.declared.types.DeclaredType.{DeclaredType}
use Rattle.gt_drafts.specs.declared.types.Resolved.{Resolved}
use Rattle.gt_scope.specs.declared.declaration.Declaration.{Declaration}
use Rattle.gt_scope.specs.declared.meaning.TypedefMeaning.{TypedefMeaning}
use Rattle.gt_drafts.specs.declared.draft.Draft.{Draft}
use Rattle.gt_drafts.specs.declared.draft.DraftCache.{DraftCache}
use Rattle.gt_drafts.specs.declared.draft.DraftConstant.{DraftConstant}
use Rattle.gt_drafts.specs.declared.draft.DraftField.{DraftField}
use Rattle.gt_drafts.specs.declared.draft.DraftRoot.{DraftRoot}
use Rattle.gt_drafts.specs.declared.draft.DraftStructure.{DraftStructure}
use Rattle.gt_drafts.specs.declared.draft.DraftWord.{DraftWord}
use Rattle.gt_drafts.specs.Amounts.{amount_of}
use Rattle.gt_drafts.specs.Options.{has_length}
use Rattle.gt_scope.specs.Declarations.{as_constant, constant_in}
use Rattle.gt_scope.specs.Meanings.{resolved_type}
use Rattle.gt_scope.specs.Spelling.{spelled_of}

-- ---- bounds and bits

-- what a text comes to by all constants
abbrev pub amount_in : List Declaration → List ℕ → Amount
amount_in ds text = amount_of (constant_in ds) text

-- what the bounds come to; the outermost is not read where it is replaced by a length
abbrev pub bounds_of : List Declaration → Bool → List (List ℕ) → List Amount
bounds_of ds replaced [] = []
bounds_of ds replaced (text ∷ texts) = (if replaced then Unread else amount_in ds text) ∷ map (amount_in ds) texts

-- ---- fields, roots and caches

-- the type of a declarator after a type
abbrev pub declarator_type : List Declaration → List TypedefMeaning → RawType → Declarator → DeclaredType
declarator_type ds types ty d =
    record {
      resolved = resolved_type ds types (spelled_of ty) d.stars;
      bounds = bounds_of ds (has_length d.options) d.bounds;
      bits = option_map (amount_in ds) d.bits;
      is_function = d.is_function;
    }

abbrev pub field_of : List Declaration → List TypedefMeaning → RawType → Declarator → DraftField
field_of ds types ty d = record { name = d.name; options = d.options; ty = declarator_type ds types ty d }

-- the fields of one type
abbrev pub fields_in : List Declaration → List TypedefMeaning → RawField → List DraftField
fields_in ds types f = map (field_of ds types f.ty) f.declarators

abbrev pub structure_of : List Declaration → List TypedefMeaning → ℕ → RawStructure → DraftStructure
structure_of ds types file s =
    record { file = file; is_union = s.is_union; tag = s.tag; options = s.options; fields = flat_map (fields_in ds types) s.fields }

abbrev pub root_type : List Declaration → List TypedefMeaning → RawRoot → DeclaredType
root_type ds types r =
    record {
      resolved = resolved_type ds types (spelled_of r.ty) r.stars;
      bounds = bounds_of ds (has_length r.options) r.bounds;
      bits = None;
      is_function = false;
    }

abbrev pub root_of : List Declaration → List TypedefMeaning → ℕ → RawRoot → DraftRoot
root_of ds types file r = record { file = file; name = r.name; options = r.options; ty = root_type ds types r }

abbrev pub pointed_type : List Declaration → List TypedefMeaning → PointedType → Resolved
pointed_type ds types p = resolved_type ds types (spelled_of p.ty) p.stars

abbrev pub cache_of : List Declaration → List TypedefMeaning → ℕ → RawCache → DraftCache
cache_of ds types file c =
    record { file = file; name = c.name; options = c.options; key = pointed_type ds types c.key; value = pointed_type ds types c.value }

-- ---- files

-- the structure that an item is
abbrev pub structure_item : List Declaration → List TypedefMeaning → ℕ → Item → Option DraftStructure
structure_item ds types file (item.Structure s) = Some (structure_of ds types file s)
structure_item ds types file one = None

abbrev pub root_item : List Declaration → List TypedefMeaning → ℕ → Item → Option DraftRoot
root_item ds types file (item.Root r) = Some (root_of ds types file r)
root_item ds types file one = None

abbrev pub cache_item : List Declaration → List TypedefMeaning → ℕ → Item → Option DraftCache
cache_item ds types file (item.Cache c) = Some (cache_of ds types file c)
cache_item ds types file one = None

-- what the items of files are by some reading, each file with its place; the first has this place
unfoldable pub items_from : {A : Type 0} → (ℕ → Item → Option A) → ℕ → List Items → List A
items_from reading file [] = []
items_from reading file (items ∷ files) = filter_map (reading file) items.items ++ items_from reading (suc file) files

-- a name of a typedef that means a structure, or a pointer to one
abbrev pub word_by : List ℕ → BaseType → Stars → Option DraftWord
word_by name (base.Structure id) Zero = Some (record { name = name; pointer = false; id = id })
word_by name (base.Structure id) One = Some (record { name = name; pointer = true; id = id })
word_by name b stars = None

abbrev pub word_of : TypedefMeaning → Option DraftWord
word_of t = word_by t.name t.means.base t.means.stars

-- constants, each once and with the value of its first declaration, after those that are there
abbrev pub with_constant : List DraftConstant → List ℕ → ℤ → List DraftConstant
with_constant constants name value =
    if list_any (λ c. bytes_eq c.name name) constants then constants else constants ++ record { name = name; value = value } ∷ []

unfoldable pub constants_from : List DraftConstant → List Declaration → List DraftConstant
constants_from constants [] = constants
constants_from constants (d ∷ ds) = constants_from (option_map_or (with_constant constants d.name.word) (as_constant d.what) constants) ds

-- what the files declare, by their declarations and the meanings of typedefs
abbrev pub draft_of : List Items → List Declaration → List TypedefMeaning → Draft
draft_of files ds types =
    record {
      structures = items_from (structure_item ds types) 1 files;
      roots = items_from (root_item ds types) 1 files;
      caches = items_from (cache_item ds types) 1 files;
      words = filter_map word_of types;
      constants = constants_from [] ds;
    }
