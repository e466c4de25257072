-- No promise: what a reader of a marker needs to know of the options that stand in it.
use Rattle.std.specs.Prelude.{◌≡◌, ℕ, Bool, false, ◌==◌, List, [], ◌∷◌, get_or}
use Rattle.std.specs.List.{list_any}
use Rattle.std.specs.Option.{option_map_or}
use Rattle.gt_items.specs.declared.items.RawOption.{RawOption}
use Rattle.gt_markers.specs.declared.kinds.OptionKind.{OptionKind}
use Rattle.gt_markers.specs.declared.kinds.OptionKind.TheVariants.{Skip, Length, Desc, Tag, Default, Cache, Deletable, MaybeUndef, ChainNext, ChainPrev, ChainCircular, Atomic, StringLength, VariableSize, ForUser, Reorder}
use Rattle.gt_markers.specs.declared.kind_sets.Kinds.{Kinds}
use Rattle.gt_markers.specs.Options.{kind_of}

-- all kinds of options
abbrev pub all_kinds : List OptionKind
all_kinds =
    Skip ∷ Length ∷ Desc ∷ Tag ∷ Default ∷ Cache ∷ Deletable ∷ MaybeUndef ∷ ChainNext ∷ ChainPrev ∷ ChainCircular ∷ Atomic ∷ StringLength ∷ VariableSize
    ∷ ForUser ∷ Reorder ∷ []

-- the place of a kind among them
abbrev pub place_of : OptionKind → ℕ
place_of Skip = 0
place_of Length = 1
place_of Desc = 2
place_of Tag = 3
place_of Default = 4
place_of Cache = 5
place_of Deletable = 6
place_of MaybeUndef = 7
place_of ChainNext = 8
place_of ChainPrev = 9
place_of ChainCircular = 10
place_of Atomic = 11
place_of StringLength = 12
place_of VariableSize = 13
place_of ForUser = 14
place_of Reorder = 15

-- a kind is in a set
abbrev pub has_kind : Kinds → OptionKind → Bool
has_kind kinds kind = get_or kinds.held (place_of kind) false

-- an option is of this kind
abbrev pub is_of : OptionKind → RawOption → Bool
is_of kind o = option_map_or (λ other. place_of other == place_of kind) (kind_of o.name.word) false

-- a set has the kinds of the known options among these, and no others
abbrev pub AreKindsOf : List RawOption → Kinds → Type 0
AreKindsOf options kinds = (kind : OptionKind) → has_kind kinds kind ≡ list_any (is_of kind) options
