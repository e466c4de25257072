-- What files declare is of those files.
use Rattle.std.proofs.Common.{ℕ, suc, ℤ, Bool, true, false, List, [], ◌∷◌, map, Option, Some, None, if◌then◌else◌}
use Rattle.std.specs.Prelude.{All, int_lt, pos, is_some, ◌||◌}
use Rattle.std.specs.Option.{option_map_or}
use Rattle.std.proofs.lemmas.List.Elements.{All-nil, All-cons, All-append}
use Rattle.gt_types.specs.declared.types.Scalar.TheVariants as scalar
use Rattle.gt_types.specs.declared.types.Width.TheVariants.{W4}
use Rattle.gt_items.specs.declared.items.Name.{Name}
use Rattle.gt_items.specs.declared.items.Alias.{Alias}
use Rattle.gt_items.specs.declared.items.Item.{Item}
use Rattle.gt_items.specs.declared.items.Item.TheVariants as item
use Rattle.gt_items.specs.declared.items.Items.{Items}
use Rattle.gt_items.specs.declared.items.Meaning.{Meaning}
use Rattle.gt_items.specs.declared.items.Meaning.TheVariants as meaning
use Rattle.gt_items.specs.declared.items.RawConstant.{RawConstant}
use Rattle.gt_items.specs.declared.items.RawEnum.{RawEnum}
use Rattle.gt_items.specs.declared.items.RawStructure.{RawStructure}
use Rattle.gt_items.specs.declared.items.Enumerator.{Enumerator}
use Rattle.gt_items.specs.declared.items.Enumerator.TheVariants as enumerator
use Rattle.gt_scope.specs.declared.types.Spelled.{Spelled}
use Rattle.gt_scope.specs.declared.types.Spelled.TheVariants.{Number, Tagged}
use Rattle.gt_scope.specs.declared.declaration.Declaration.{Declaration}
use Rattle.gt_scope.specs.declared.declaration.What.{What}
use Rattle.gt_scope.specs.declared.declaration.What.TheVariants.{Structure, Enum, Constant, Typedef, Root, Cache}
use Rattle.gt_scope.specs.Spelling.{fixed_of}
use Rattle.gt_scope.specs.Declarations.{Progress, with_one, define_of, defines_before, up_to, declare, is_in_range, with_constant, enumerate, next_count, value_at, enumerators, enum_tag, declare_enum, keyword_of, declare_alias, declare_aliases, declare_structure, meaning_type, declare_typedef, declare_item, declare_items, with_rest, declare_file}

-- of a property of files
module _ (P : ℕ → Type 0) where
  -- a declaration is of such a file
  abbrev pub Of : Declaration → Type 0
  Of d = P d.file

  -- so is each that was declared so far
  abbrev pub Kept : Progress → Type 0
  Kept p = All Of p.done

  -- each declaration adds one of its own file
  defines : (file : ℕ) (cs : List RawConstant) → P file → All Of (map (define_of file) cs)
  defines file [] here = All-nil Of
  defines file (c ∷ cs) here = All-cons Of (define_of file c) (map (define_of file) cs) here (defines file cs here)

  kept-up_to : (file at : ℕ) (p : Progress) → P file → Kept p → Kept (up_to file at p)
  unfolding up_to
  kept-up_to file at p here kept =
      All-append Of p.done (map (define_of file) (defines_before at p.defines)) kept (defines file (defines_before at p.defines) here)

  kept-with_one : (file : ℕ) (name : Name) (what : What) (p : Progress) → P file → Kept p → Kept (with_one file name what p)
  kept-with_one file name what p here kept =
      let d : Declaration = record { file = file; name = name; what = what } in
      All-append Of p.done (d ∷ []) kept (All-cons Of d [] here (All-nil Of))

  kept-declare : (file : ℕ) (name : Name) (what : What) (p : Progress) → P file → Kept p → Kept (declare file name what p)
  kept-declare file name what p here kept = kept-with_one file name what (up_to file name.at p) here (kept-up_to file name.at p here kept)

  kept-either : (b : Bool) (p q : Progress) → Kept p → Kept q → Kept (if b then p else q)
  kept-either true p q a b = a
  kept-either false p q a b = b

  kept-enumerate : (file : ℕ) (name : Name) (value : Option ℤ) (p : Progress) → P file → Kept p → Kept (enumerate file name value p)
  kept-enumerate file name None p here kept = kept-up_to file name.at p here kept
  kept-enumerate file name (Some n) p here kept =
      kept-either (is_in_range n) (with_constant file name n p) (up_to file name.at p)
      (kept-declare file name (Constant n) (record p { negative = p.negative || int_lt n (pos 0) }) here kept) (kept-up_to file name.at p here kept)

  kept-enumerators : (file : ℕ) (count : Option ℤ) (es : List Enumerator) (p : Progress) → P file → Kept p → Kept (enumerators file count es p)
  unfolding enumerators
  kept-enumerators file count [] p here kept = kept
  kept-enumerators file count (enumerator.Counted name ∷ es) p here kept =
      kept-enumerators file (next_count count) es (enumerate file name count p) here (kept-enumerate file name count p here kept)
  kept-enumerators file count (enumerator.Valued name text ∷ es) p here kept =
      kept-enumerators file (next_count (value_at file name text p)) es (enumerate file name (value_at file name text p) p) here
      (kept-enumerate file name (value_at file name text p) p here kept)
  kept-enumerators file count (enumerator.Undefined name ∷ es) p here kept = kept-enumerators file None es p here kept
  kept-enumerators file count (enumerator.Passed ∷ es) p here kept = kept-enumerators file None es p here kept

  kept-enum_tag : (file : ℕ) (tag : Option Name) (p : Progress) → P file → Kept p → Kept (enum_tag file tag p)
  kept-enum_tag file None p here kept = kept
  kept-enum_tag file (Some tag) p here kept = kept-declare file tag (Enum p.negative) p here kept

  kept-declare_enum : (file : ℕ) (e : RawEnum) (p : Progress) → P file → Kept p → Kept (declare_enum file e p)
  unfolding declare_enum
  kept-declare_enum file e p here kept =
      kept-enum_tag file e.tag (enumerators file (Some (pos 0)) e.constants (record p { negative = false })) here
      (kept-enumerators file (Some (pos 0)) e.constants (record p { negative = false }) here kept)

  kept-declare_alias : (file : ℕ) (ty : Spelled) (alias : Alias) (p : Progress) → P file → Kept p → Kept (declare_alias file ty alias p)
  unfolding declare_alias
  kept-declare_alias file ty alias p here kept =
      kept-either (is_some (fixed_of alias.name.word)) p (declare file alias.name (Typedef ty alias.stars) p) kept
      (kept-declare file alias.name (Typedef ty alias.stars) p here kept)

  kept-declare_aliases : (file : ℕ) (ty : Spelled) (aliases : List Alias) (p : Progress) → P file → Kept p → Kept (declare_aliases file ty aliases p)
  unfolding declare_aliases
  kept-declare_aliases file ty [] p here kept = kept
  kept-declare_aliases file ty (alias ∷ aliases) p here kept =
      kept-declare_aliases file ty aliases (declare_alias file ty alias p) here (kept-declare_alias file ty alias p here kept)

  kept-named : (file : ℕ) (ty : Spelled) (alias : Option Alias) (p : Progress) → P file → Kept p → Kept (option_map_or (λ a. declare_alias file ty a p) alias p)
  kept-named file ty None p here kept = kept
  kept-named file ty (Some alias) p here kept = kept-declare_alias file ty alias p here kept

  kept-declare_structure : (file : ℕ) (s : RawStructure) (p : Progress) → P file → Kept p → Kept (declare_structure file s p)
  unfolding declare_structure
  kept-declare_structure file s p here kept =
      let q : Progress = declare file s.tag (Structure s.is_union p.structures) p in
      kept-named file (Tagged (keyword_of s.is_union) s.tag.word) s.alias (record q { structures = suc p.structures }) here
      (kept-declare file s.tag (Structure s.is_union p.structures) p here kept)

  kept-declare_typedef : (file : ℕ) (means : Meaning) (aliases : List Alias) (p : Progress) → P file → Kept p → Kept (declare_typedef file means aliases p)
  unfolding declare_typedef
  kept-declare_typedef file (meaning.Enum e) aliases p here kept =
      kept-declare_aliases file (Number (scalar.Int W4 (declare_enum file e p).negative) false) aliases (declare_enum file e p) here (kept-declare_enum file e p here kept)
  kept-declare_typedef file (meaning.Type ty) aliases p here kept = kept-declare_aliases file (meaning_type (meaning.Type ty)) aliases p here kept
  kept-declare_typedef file (meaning.Body keyword tag) aliases p here kept = kept-declare_aliases file (meaning_type (meaning.Body keyword tag)) aliases p here kept
  kept-declare_typedef file meaning.Opaque aliases p here kept = kept-declare_aliases file (meaning_type meaning.Opaque) aliases p here kept

  kept-declare_item : (file : ℕ) (one : Item) (p : Progress) → P file → Kept p → Kept (declare_item file one p)
  unfolding declare_item
  kept-declare_item file (item.Structure s) p here kept = kept-declare_structure file s p here kept
  kept-declare_item file (item.Root r) p here kept = kept-declare file r.name Root p here kept
  kept-declare_item file (item.Cache c) p here kept = kept-declare file c.name Cache p here kept
  kept-declare_item file (item.Typedef t) p here kept = kept-declare_typedef file t.means t.names p here kept
  kept-declare_item file (item.Enum e) p here kept = kept-declare_enum file e p here kept

  kept-declare_items : (file : ℕ) (items : List Item) (p : Progress) → P file → Kept p → Kept (declare_items file items p)
  unfolding declare_items
  kept-declare_items file [] p here kept = kept
  kept-declare_items file (one ∷ items) p here kept = kept-declare_items file items (declare_item file one p) here (kept-declare_item file one p here kept)

  kept-with_rest : (file : ℕ) (p : Progress) → P file → Kept p → Kept (with_rest file p)
  kept-with_rest file p here kept = All-append Of p.done (map (define_of file) p.defines) kept (defines file p.defines here)

  pub kept-declare_file : (file : ℕ) (items : Items) (p : Progress) → P file → Kept p → Kept (declare_file file items p)
  unfolding declare_file
  kept-declare_file file items p here kept =
      kept-with_rest file (declare_items file items.items (record p { defines = items.constants })) here
      (kept-declare_items file items.items (record p { defines = items.constants }) here kept)
