-- The names that files declare, in the order of the texts: tags, constants, typedefs, roots and caches.
use Rattle.std.specs.Prelude.{ℕ, suc, ◌-◌, ◌^◌, ℤ, pos, negsuc, int_lt, int_le, ◌+ℤ◌, Bool, false, ◌&&◌, ◌||◌, nat_lt, if◌then◌else◌, List, [], ◌∷◌, ◌++◌, length, map, drop, take_while, Option, Some, None, option_and_then, is_some}
use Rattle.std.specs.Option.{option_map_or}
use Rattle.std.specs.Str.{bytes_eq}
use Rattle.gt_types.specs.declared.types.Scalar.TheVariants as scalar
use Rattle.gt_types.specs.declared.types.Width.TheVariants.{W4}
use Rattle.gt_types.specs.Values.{within_i64}
use Rattle.gt_items.specs.declared.items.Name.{Name}
use Rattle.gt_items.specs.declared.items.Alias.{Alias}
use Rattle.gt_items.specs.declared.items.Keyword.{Keyword}
use Rattle.gt_items.specs.declared.items.Keyword.TheVariants.{Struct, Union}
use Rattle.gt_items.specs.declared.items.Item.{Item}
use Rattle.gt_items.specs.declared.items.Item.TheVariants as item
use Rattle.gt_items.specs.declared.items.Items.{Items}
use Rattle.gt_items.specs.declared.items.Meaning.{Meaning}
use Rattle.gt_items.specs.declared.items.Meaning.TheVariants as meaning
use Rattle.gt_items.specs.declared.items.RawConstant.{RawConstant}
use Rattle.gt_items.specs.declared.items.RawEnum.{RawEnum}
use Rattle.gt_items.specs.declared.items.RawStructure.{RawStructure}
use Rattle.gt_items.specs.declared.items.Enumerator.{Enumerator}
use Rattle.gt_items.specs.declared.items.Enumerator.TheVariants as enumerator
use Rattle.gt_scope.specs.declared.types.Spelled.{Spelled}
use Rattle.gt_scope.specs.declared.types.Spelled.TheVariants.{Number, Sizeless, Tagged}
use Rattle.gt_drafts.specs.declared.types.Amount.{Amount}
use Rattle.gt_drafts.specs.declared.types.Amount.TheVariants as amount
use Rattle.gt_scope.specs.declared.declaration.Declaration.{Declaration}
use Rattle.gt_scope.specs.declared.declaration.What.{What}
use Rattle.gt_scope.specs.declared.declaration.What.TheVariants.{Structure, Enum, Constant, Typedef, Root, Cache}
use Rattle.gt_names.specs.Entries.{first_some}
use Rattle.gt_drafts.specs.Amounts.{amount_of}
use Rattle.gt_scope.specs.Spelling.{fixed_of, spelled_of}

-- ---- names among declarations

-- what the first declaration of a name is of those that are of some kind
abbrev pub first_named : {A : Type 0} → (What → Option A) → List ℕ → List Declaration → Option A
first_named kind word [] = None
first_named kind word (d ∷ ds) = first_some (if bytes_eq d.name.word word then kind d.what else None) (first_named kind word ds)

-- the value of a constant
abbrev pub as_constant : What → Option ℤ
as_constant (Constant value) = Some value
as_constant what = None

-- the value of the first constant of a name
abbrev pub constant_in : List Declaration → List ℕ → Option ℤ
constant_in ds word = first_named as_constant word ds

-- ---- reading a file

-- What stands between two items: all that was declared before, the constants `#define` of the file that stand further on, how many
-- structures were declared, and whether a constant of the last enum is negative.
pub record Progress : Type 0 where
  pub done : List Declaration
  pub defines : List RawConstant
  pub structures : ℕ
  pub negative : Bool

-- one more declaration
abbrev pub with_one : ℕ → Name → What → Progress → Progress
with_one file name what p = record p { done = p.done ++ record { file = file; name = name; what = what } ∷ [] }

-- a constant `#define` of a file
abbrev pub define_of : ℕ → RawConstant → Declaration
define_of file c = record { file = file; name = c.name; what = Constant c.value }

-- the constants `#define` that stand before a place
abbrev pub defines_before : ℕ → List RawConstant → List RawConstant
defines_before at defines = take_while (λ c. nat_lt c.name.at at) defines

-- those are declared before what stands at the place
unfoldable pub up_to : ℕ → ℕ → Progress → Progress
up_to file at p =
    record p {
      done = p.done ++ map (define_of file) (defines_before at p.defines);
      defines = drop (length (defines_before at p.defines)) p.defines;
    }

-- a name is declared at its place
abbrev pub declare : ℕ → Name → What → Progress → Progress
declare file name what p = with_one file name what (up_to file name.at p)

-- ---- enums

-- a constant of an enum is from -2^31 to 2^32 - 1
abbrev pub is_in_range : ℤ → Bool
is_in_range n = int_le (negsuc (2 ^ 31 - 1)) n && int_lt n (pos (2 ^ 32))

-- the count goes on after a value; one that leaves 64 bits is lost
abbrev pub next_count : Option ℤ → Option ℤ
next_count value = option_and_then (λ n. within_i64 (n +ℤ pos 1)) value

-- a constant of an enum, which is negative or not
abbrev pub with_constant : ℕ → Name → ℤ → Progress → Progress
with_constant file name value p = declare file name (Constant value) (record p { negative = p.negative || int_lt value (pos 0) })

-- a constant of an enum, which is as if it were not there where it has no value in range
abbrev pub enumerate : ℕ → Name → Option ℤ → Progress → Progress
enumerate file name value p = option_map_or (λ n. if is_in_range n then with_constant file name n p else up_to file name.at p) value (up_to file name.at p)

-- the value of a text that is a constant expression
abbrev pub value_of_amount : Amount → Option ℤ
value_of_amount (amount.Is n) = Some n
value_of_amount amount = None

-- the value of a text by the constants that were declared before the name
abbrev pub value_at : ℕ → Name → List ℕ → Progress → Option ℤ
value_at file name text p = value_of_amount (amount_of (constant_in (up_to file name.at p).done) text)

-- the constants of an enum, of which the next has this count
unfoldable pub enumerators : ℕ → Option ℤ → List Enumerator → Progress → Progress
enumerators file count [] p = p
enumerators file count (enumerator.Counted name ∷ es) p = enumerators file (next_count count) es (enumerate file name count p)
enumerators file count (enumerator.Valued name text ∷ es) p =
    enumerators file (next_count (value_at file name text p)) es (enumerate file name (value_at file name text p) p)
enumerators file count (enumerator.Undefined name ∷ es) p = enumerators file None es p
enumerators file count (enumerator.Passed ∷ es) p = enumerators file None es p

-- the tag of an enum, where it has one
abbrev pub enum_tag : ℕ → Option Name → Progress → Progress
enum_tag file None p = p
enum_tag file (Some tag) p = declare file tag (Enum p.negative) p

-- an enum: its constants from 0 on, and its tag
unfoldable pub declare_enum : ℕ → RawEnum → Progress → Progress
declare_enum file e p = enum_tag file e.tag (enumerators file (Some (pos 0)) e.constants (record p { negative = false }))

-- ---- items

-- the keyword of a structure
abbrev pub keyword_of : Bool → Keyword
keyword_of is_union = if is_union then Union else Struct

-- a typedef of a type; one of a name of the fixed table is passed over
unfoldable pub declare_alias : ℕ → Spelled → Alias → Progress → Progress
declare_alias file ty alias p = if is_some (fixed_of alias.name.word) then p else declare file alias.name (Typedef ty alias.stars) p

unfoldable pub declare_aliases : ℕ → Spelled → List Alias → Progress → Progress
declare_aliases file ty [] p = p
declare_aliases file ty (alias ∷ aliases) p = declare_aliases file ty aliases (declare_alias file ty alias p)

-- a structure, and the name that it declares where it is a typedef
unfoldable pub declare_structure : ℕ → RawStructure → Progress → Progress
declare_structure file s p =
    let q = declare file s.tag (Structure s.is_union p.structures) p in
    option_map_or (λ alias. declare_alias file (Tagged (keyword_of s.is_union) s.tag.word) alias (record q { structures = suc p.structures })) s.alias
    (record q { structures = suc p.structures })

-- the type of a typedef that is no enum
abbrev pub meaning_type : Meaning → Spelled
meaning_type (meaning.Type ty) = spelled_of ty
meaning_type (meaning.Body keyword (Some tag)) = Tagged keyword tag.word
meaning_type (meaning.Body keyword None) = Sizeless
meaning_type (meaning.Enum e) = Sizeless
meaning_type meaning.Opaque = Sizeless

-- a typedef: an enum is declared first, and is a number of four bytes
unfoldable pub declare_typedef : ℕ → Meaning → List Alias → Progress → Progress
declare_typedef file (meaning.Enum e) aliases p =
    declare_aliases file (Number (scalar.Int W4 (declare_enum file e p).negative) false) aliases (declare_enum file e p)
declare_typedef file means aliases p = declare_aliases file (meaning_type means) aliases p

unfoldable pub declare_item : ℕ → Item → Progress → Progress
declare_item file (item.Structure s) p = declare_structure file s p
declare_item file (item.Root r) p = declare file r.name Root p
declare_item file (item.Cache c) p = declare file c.name Cache p
declare_item file (item.Typedef t) p = declare_typedef file t.means t.names p
declare_item file (item.Enum e) p = declare_enum file e p

unfoldable pub declare_items : ℕ → List Item → Progress → Progress
declare_items file [] p = p
declare_items file (one ∷ items) p = declare_items file items (declare_item file one p)

-- the constants `#define` that stand after all items
abbrev pub with_rest : ℕ → Progress → Progress
with_rest file p = record p { done = p.done ++ map (define_of file) p.defines; defines = [] }

-- a file
unfoldable pub declare_file : ℕ → Items → Progress → Progress
declare_file file items p = with_rest file (declare_items file items.items (record p { defines = items.constants }))

-- files, of which the first has this place
unfoldable pub declare_files : ℕ → List Items → Progress → Progress
declare_files file [] p = p
declare_files file (items ∷ files) p = declare_files (suc file) files (declare_file file items p)

abbrev pub nothing_declared : Progress
nothing_declared = record { done = []; defines = []; structures = 0; negative = false }

-- all that the files declare; they are counted from 1
abbrev pub declarations : List Items → List Declaration
declarations files = (declare_files 1 files nothing_declared).done
