-- The program that a draft declares.
use Rattle.std.specs.Prelude.{◌≡◌, ℕ, ◌+◌, Bool, codes, List, [], ◌∷◌, map, Option, Some, None, option_map, filter_map, slice_get}
use Rattle.gt_types.specs.declared.expressions.Base.TheVariants.{Here}
use Rattle.gt_types.specs.declared.types.Ty.{Ty}
use Rattle.gt_types.specs.declared.types.Ty.TheVariants as ty
use Rattle.gt_types.specs.declared.types.TypeId.{TypeId}
use Rattle.gt_types.specs.declared.program.Chain.{Chain}
use Rattle.gt_types.specs.declared.program.ChainKind.{ChainKind}
use Rattle.gt_types.specs.declared.program.ChainKind.TheVariants.{Next, Prev, Circular}
use Rattle.gt_types.specs.declared.program.Field.{Field}
use Rattle.gt_types.specs.declared.program.Structure.{Structure}
use Rattle.gt_types.specs.declared.program.Root.{Root}
use Rattle.gt_types.specs.declared.program.Cache.{Cache}
use Rattle.gt_types.specs.declared.program.Typedef.{Typedef}
use Rattle.gt_types.specs.declared.program.Program.{Program}
use Rattle.gt_expr.specs.declared.raw.RawExpr.{RawExpr, out-RawExpr}
use Rattle.gt_expr.specs.declared.raw.RawExpr.TheOpen as raw
use Rattle.gt_items.specs.declared.items.Parameter.{Parameter}
use Rattle.gt_items.specs.declared.items.Parameter.TheVariants.{Expression}
use Rattle.gt_items.specs.declared.items.RawOption.{RawOption}
use Rattle.gt_items.specs.declared.items.Stars.{Stars}
use Rattle.gt_items.specs.declared.items.Stars.TheVariants.{One}
use Rattle.gt_layout.specs.declared.planes.Plane.{Plane}
use Rattle.gt_layout.specs.Planes.{AreLaidOut}
use Rattle.gt_drafts.specs.declared.types.BaseType.{BaseType}
use Rattle.gt_drafts.specs.declared.types.BaseType.TheVariants as base
use Rattle.gt_drafts.specs.declared.types.Resolved.{Resolved}
use Rattle.gt_drafts.specs.declared.draft.Draft.{Draft}
use Rattle.gt_drafts.specs.declared.draft.DraftCache.{DraftCache}
use Rattle.gt_drafts.specs.declared.draft.DraftField.{DraftField}
use Rattle.gt_drafts.specs.declared.draft.DraftRoot.{DraftRoot}
use Rattle.gt_drafts.specs.declared.draft.DraftStructure.{DraftStructure}
use Rattle.gt_drafts.specs.declared.draft.DraftWord.{DraftWord}
use Rattle.gt_drafts.specs.Options.{has_option}
use Rattle.gt_fields.specs.Places.{bind, place_in}
use Rattle.gt_markers.specs.declared.kinds.OptionKind.{OptionKind}
use Rattle.gt_markers.specs.declared.kinds.OptionKind.TheVariants.{ChainNext, ChainPrev, ChainCircular}
use Rattle.gt_markers.specs.Options.{kind_of}
use Rattle.gt_markers.specs.Expressions.{constants, constants_and_roots}
use Rattle.gt_markers.specs.Actives.{active_of}
use Rattle.gt_markers.specs.Typing.{declared_type, node, own_desc}

-- ---- fields

-- of a field the expressions know constants
abbrev pub field_type : Draft → List Plane → DraftField → Ty
field_type draft planes f = declared_type (constants draft) draft planes f.options f.ty

abbrev pub field_of : Draft → List Plane → Bool → DraftField → Field
field_of draft planes in_union f = record { name = f.name.word; ty = field_type draft planes f; active = active_of draft in_union f.options }

-- ---- chains

-- the kind of a chain option
abbrev pub chain_kind : Option OptionKind → Option ChainKind
chain_kind (Some ChainNext) = Some Next
chain_kind (Some ChainPrev) = Some Prev
chain_kind (Some ChainCircular) = Some Circular
chain_kind kind = None

abbrev pub structure_in : Ty → Option TypeId
structure_in (ty.Node node desc) = Some node
structure_in type = None

-- the places of fields on a path from a structure, by their names, through structures by value
unfoldable pub places_on : List Structure → TypeId → List (List ℕ) → Option (List ℕ)
places_on structures from [] = None
places_on structures from (name ∷ []) = bind (slice_get structures from.0) (λ s. option_map (λ i. i ∷ []) (place_in name s))
places_on structures from (name ∷ next ∷ names) =
    bind (slice_get structures from.0) (λ s. bind (place_in name s) (λ i. bind (slice_get s.fields i) (λ f. bind (structure_in f.ty)
    (λ inner. option_map (λ places. i ∷ places) (places_on structures inner (next ∷ names))))))

-- the path of an expression that is no more than a path from its own structure
abbrev pub own_path_at : raw.RawExpr-F RawExpr → Option (List (List ℕ))
own_path_at (raw.Path Here steps) = Some steps
own_path_at e = None

abbrev pub own_path : Parameter → Option (List (List ℕ))
own_path (Expression e) = own_path_at (out-RawExpr e)
own_path parameter = None

-- the places on the path of an option
abbrev pub path_places : List Structure → TypeId → Parameter → Option (List ℕ)
path_places structures from parameter = bind (own_path parameter) (places_on structures from)

-- a chain option, where its path leads somewhere
abbrev pub chain_of : List Structure → TypeId → RawOption → Option Chain
chain_of structures from o =
    bind (chain_kind (kind_of o.name.word)) (λ kind. option_map (λ path. record { kind = kind; path = path }) (path_places structures from o.parameter))

-- ---- structures

-- a structure without its chains
abbrev pub unchained : Draft → List Plane → DraftStructure → Structure
unchained draft planes s =
    record {
      name = s.tag.word;
      is_union = s.is_union;
      desc = own_desc draft s;
      fields = map (field_of draft planes s.is_union) s.fields;
      chains = [];
    }

abbrev pub all_unchained : Draft → List Plane → List Structure
all_unchained draft planes = map (unchained draft planes) draft.structures

-- structures with their chains, of which the first is at this place
unfoldable pub with_chains : List Structure → ℕ → List DraftStructure → List Structure → List Structure
with_chains structures place (d ∷ ds) (s ∷ ss) =
    record s { chains = filter_map (chain_of structures (node place)) d.options } ∷ with_chains structures (1 + place) ds ss
with_chains structures place ds ss = []

-- ---- roots, caches and words

abbrev pub root_of : Draft → List Plane → DraftRoot → Root
root_of draft planes r =
    record {
      name = r.name.word;
      ty = declared_type (constants_and_roots draft) draft planes r.options r.ty;
      deletable = has_option (codes "deletable") r.options;
    }

abbrev pub pointed : BaseType → Stars → Option TypeId
pointed (base.Structure id) One = Some (node id)
pointed base stars = None

-- the structure that a key or a value points to
abbrev pub key_type : Resolved → Option TypeId
key_type r = pointed r.base r.stars

-- a key or a value that points to no structure is a fault, and counts as the first structure
abbrev pub or_first : Option TypeId → TypeId
or_first (Some node) = node
or_first None = node 0

abbrev pub cache_of : DraftCache → Cache
cache_of c = record { name = c.name.word; key = or_first (key_type c.key); value = or_first (key_type c.value) }

abbrev pub word_of : DraftWord → Typedef
word_of w = record { name = w.name; pointer = w.pointer; id = node w.id }

-- ---- the program

-- what a draft declares, from the planes of its structures
abbrev pub program_by : Draft → List Plane → Program
program_by draft planes =
    record {
      structures = with_chains (all_unchained draft planes) 0 draft.structures (all_unchained draft planes);
      roots = map (root_of draft planes) draft.roots;
      caches = map cache_of draft.caches;
      words = map word_of draft.words;
    }

-- A program is made of a draft, with faults or without: each field, structure, root, cache and word is what its options say, and a
-- structure that is passed over with `skip` takes as many bytes as this program gives it. Each draft that is sound makes one program.
pub record IsMadeOf (draft : Draft) (program : Program) : Type 0 where
  pub planes : List Plane
  pub laid : AreLaidOut program planes
  pub made : program ≡ program_by draft planes

-- a draft makes a program, and no other
pub record MakesOneProgram (draft : Draft) : Type 0 where
  pub program : Program
  pub made : IsMadeOf draft program
  pub only : (other : Program) → IsMadeOf draft other → other ≡ program
