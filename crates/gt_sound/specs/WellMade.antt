-- Which items of a header are well made. It is said of each item by itself, before any name is looked up.
use Rattle.std.specs.Prelude.{◌≡◌, ◌≤◌, true, length, None, IfSome, All}
use Rattle.gt_types.specs.Names.{IsName}
use Rattle.gt_items.specs.declared.items.Declarator.{Declarator}
use Rattle.gt_items.specs.declared.items.Item.{Item}
use Rattle.gt_items.specs.declared.items.Item.TheVariants as item
use Rattle.gt_items.specs.declared.items.Items.{Items}
use Rattle.gt_items.specs.declared.items.RawField.{RawField}
use Rattle.gt_items.specs.declared.items.RawStructure.{RawStructure}
use Rattle.gt_markers.specs.Sound.{AreWellFormed}

-- a field has a name and well-formed options, and a pointer to a function has no bit count
pub record IsWellMadeDeclarator (d : Declarator) : Type 0 where
  pub name : IsName d.name.word
  pub options : AreWellFormed d.options
  pub no_bits : d.is_function ≡ true → d.bits ≡ None

-- a type declares at least one field, and each of them is well made
abbrev pub IsWellMadeField : RawField → Type 0
IsWellMadeField f = (1 ≤ length f.declarators) × All IsWellMadeDeclarator f.declarators

-- a structure has a tag, well-formed options and at least one field; where it is a typedef, that declares a name
pub record IsWellMadeStructure (s : RawStructure) : Type 0 where
  pub tag : IsName s.tag.word
  pub options : AreWellFormed s.options
  pub some : 1 ≤ length s.fields
  pub fields : All IsWellMadeField s.fields
  pub alias : IfSome s.alias (λ alias. IsName alias.name.word)

-- roots, caches and typedefs declare names, and the options of a root are well formed; nothing is asked of an enum
abbrev pub IsWellMadeItem : Item → Type 0
IsWellMadeItem (item.Structure s) = IsWellMadeStructure s
IsWellMadeItem (item.Root r) = IsName r.name.word × AreWellFormed r.options
IsWellMadeItem (item.Cache c) = IsName c.name.word
IsWellMadeItem (item.Typedef t) = All (λ alias. IsName alias.name.word) t.names
IsWellMadeItem (item.Enum e) = Unit {0}

-- all items of a header are well made
abbrev pub IsWellMade : Items → Type 0
IsWellMade items = All IsWellMadeItem items.items
