-- What well-made files declare: structures, roots and caches with names, options that are well formed, and types that are made so.
use Rattle.std.proofs.Common.{◌≡◌, ℕ, suc, ◌≤◌, Bool, true, List, [], ◌∷◌, length, Option, None, refl, ap, arith, length-append, option_map}
use Rattle.std.specs.Prelude.{All, IfSome}
use Rattle.std.specs.List.{filter_map, flat_map}
use Rattle.std.proofs.lemmas.List.{length-map}
use Rattle.std.proofs.lemmas.List.Elements.{All-nil, All-head, All-tail, All-append, All-map, All-weaker}
use Rattle.gt_types.specs.Names.{IsName}
use Rattle.gt_items.specs.declared.items.Declarator.{Declarator}
use Rattle.gt_items.specs.declared.items.Item.{Item}
use Rattle.gt_items.specs.declared.items.Item.TheVariants as item
use Rattle.gt_items.specs.declared.items.Items.{Items}
use Rattle.gt_items.specs.declared.items.RawField.{RawField}
use Rattle.gt_items.specs.declared.items.RawType.{RawType}
use Rattle.gt_scope.specs.declared.declaration.Declaration.{Declaration}
use Rattle.gt_scope.specs.declared.meaning.TypedefMeaning.{TypedefMeaning}
use Rattle.gt_drafts.specs.declared.draft.Draft.{Draft}
use Rattle.gt_drafts.specs.declared.draft.DraftCache.{DraftCache}
use Rattle.gt_drafts.specs.declared.draft.DraftField.{DraftField}
use Rattle.gt_drafts.specs.declared.draft.DraftRoot.{DraftRoot}
use Rattle.gt_drafts.specs.declared.draft.DraftStructure.{DraftStructure}
use Rattle.gt_drafts.specs.Options.{has_length}
use Rattle.gt_resolve.specs.Drafts.{amount_in, field_of, fields_in, structure_item, root_item, cache_item, items_from}
use Rattle.gt_scope.specs.Spelling.{spelled_of}
use Rattle.gt_markers.specs.Sound.{AreWellFormed, NamesStructure}
use Rattle.gt_sound.specs.WellMade.{IsWellMade, IsWellMadeItem, IsWellMadeField, IsWellMadeDeclarator}
use Rattle.gt_sound.proofs.Lists.{All-filtered, All-flattened}
use Rattle.gt_sound.proofs.Names.{IsBelow}
use Rattle.gt_sound.proofs.There.{TypesMean, resolved_means}
use Rattle.gt_sound.proofs.Types.{IsMadeType, read_bounds}

-- of items by some reading of each
pub All-items : {A : Type 0} (Q : A → Type 0) (reading : ℕ → Item → Option A) (file : ℕ) (files : List Items)
    → ((at : ℕ) (one : Item) → IsWellMadeItem one → IfSome (reading at one) Q) → All IsWellMade files → All Q (items_from reading file files)
unfolding items_from
All-items Q reading file [] gives made = All-nil Q
All-items Q reading file (items ∷ files) gives made =
    All-append Q (filter_map (reading file) items.items) (items_from reading (suc file) files)
    (All-filtered IsWellMadeItem Q (reading file) items.items (gives file) (All-head IsWellMade items files made))
    (All-items Q reading (suc file) files gives (All-tail IsWellMade items files made))

-- a field, a structure, a root and a cache that are made so
pub record IsMadeField (draft : Draft) (f : DraftField) : Type 0 where
  pub name : IsName f.name.word
  pub options : AreWellFormed f.options
  pub type : IsMadeType draft f.options f.ty

pub record IsMadeStructure (draft : Draft) (s : DraftStructure) : Type 0 where
  pub name : IsName s.tag.word
  pub options : AreWellFormed s.options
  pub some : 1 ≤ length s.fields
  pub fields : All (IsMadeField draft) s.fields

pub record IsMadeRoot (draft : Draft) (r : DraftRoot) : Type 0 where
  pub name : IsName r.name.word
  pub options : AreWellFormed r.options
  pub type : IsMadeType draft r.options r.ty
  pub no_bits : r.ty.bits ≡ None

abbrev pub IsMadeCache : Draft → DraftCache → Type 0
IsMadeCache draft c = IsName c.name.word × NamesStructure draft c.key.base × NamesStructure draft c.value.base

module _ (draft : Draft) (ds : List Declaration) (types : List TypedefMeaning) (here : All (λ d. IsBelow (length draft.structures) d.what) ds) (mean : TypesMean draft types) where
  no_bits : (is_function : Bool) (bits : Option (List ℕ)) → (is_function ≡ true → bits ≡ None) → is_function ≡ true → option_map (amount_in ds) bits ≡ None
  no_bits is_function bits plain h = ap (λ (o : Option (List ℕ)). option_map (amount_in ds) o) (plain h)

  made_field : (ty : RawType) (d : Declarator) → IsWellMadeDeclarator d → IsMadeField draft (field_of ds types ty d)
  made_field ty d made =
      record {
        name = made.name;
        options = made.options;
        type = record {
          bounds = read_bounds ds (has_length d.options) d.bounds;
          plain = no_bits d.is_function d.bits made.no_bits;
          there = resolved_means draft ds types (spelled_of ty) d.stars here mean;
        };
      }

  made_fields : (f : RawField) → IsWellMadeField f → All (IsMadeField draft) (fields_in ds types f)
  made_fields f made =
      All-map (IsMadeField draft) (field_of ds types f.ty) f.declarators (All-weaker IsWellMadeDeclarator (λ d. IsMadeField draft (field_of ds types f.ty d)) (made_field f.ty) f.declarators made.1)

  some_fields : (fs : List RawField) → 1 ≤ length fs → All IsWellMadeField fs → 1 ≤ length (flat_map (fields_in ds types) fs)
  some_fields [] some made = absurd (omega (arith, some))
  some_fields (f ∷ fs) some made =
      let first = (All-head IsWellMadeField f fs made).0 in
      let size = length-map f.declarators (field_of ds types f.ty) in
      let sum = length-append (fields_in ds types f) (flat_map (fields_in ds types) fs) in
      omega (arith, first, size, sum)

  made_structure : (at : ℕ) (one : Item) → IsWellMadeItem one → IfSome (structure_item ds types at one) (IsMadeStructure draft)
  made_structure at (item.Structure s) made =
      record {
        name = made.tag;
        options = made.options;
        some = some_fields s.fields made.some made.fields;
        fields = All-flattened IsWellMadeField (IsMadeField draft) (fields_in ds types) s.fields made_fields made.fields;
      }
  made_structure at (item.Root r) made = tt
  made_structure at (item.Cache c) made = tt
  made_structure at (item.Typedef t) made = tt
  made_structure at (item.Enum e) made = tt

  made_root : (at : ℕ) (one : Item) → IsWellMadeItem one → IfSome (root_item ds types at one) (IsMadeRoot draft)
  made_root at (item.Structure s) made = tt
  made_root at (item.Root r) made =
      record {
        name = made.0;
        options = made.1;
        type = record {
          bounds = read_bounds ds (has_length r.options) r.bounds;
          plain = λ h. refl;
          there = resolved_means draft ds types (spelled_of r.ty) r.stars here mean;
        };
        no_bits = refl;
      }
  made_root at (item.Cache c) made = tt
  made_root at (item.Typedef t) made = tt
  made_root at (item.Enum e) made = tt

  made_cache : (at : ℕ) (one : Item) → IsWellMadeItem one → IfSome (cache_item ds types at one) (IsMadeCache draft)
  made_cache at (item.Structure s) made = tt
  made_cache at (item.Root r) made = tt
  made_cache at (item.Cache c) made =
      (made, resolved_means draft ds types (spelled_of c.key.ty) c.key.stars here mean, resolved_means draft ds types (spelled_of c.value.ty) c.value.stars here mean)
  made_cache at (item.Typedef t) made = tt
  made_cache at (item.Enum e) made = tt

  pub made_structures : (files : List Items) → All IsWellMade files → All (IsMadeStructure draft) (items_from (structure_item ds types) 1 files)
  made_structures files made = All-items (IsMadeStructure draft) (structure_item ds types) 1 files made_structure made

  pub made_roots : (files : List Items) → All IsWellMade files → All (IsMadeRoot draft) (items_from (root_item ds types) 1 files)
  made_roots files made = All-items (IsMadeRoot draft) (root_item ds types) 1 files made_root made

  pub made_caches : (files : List Items) → All IsWellMade files → All (IsMadeCache draft) (items_from (cache_item ds types) 1 files)
  made_caches files made = All-items (IsMadeCache draft) (cache_item ds types) 1 files made_cache made
