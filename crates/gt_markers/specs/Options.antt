-- The options of one marker.
use Rattle.std.specs.Prelude.{ℕ, Bool, true, false, codes, List, [], ◌∷◌, Option, option_map, find}
use Rattle.std.specs.Str.{bytes_eq}
use Rattle.gt_items.specs.declared.items.RawOption.{RawOption}
use Rattle.gt_items.specs.declared.items.Parameter.{Parameter}
use Rattle.gt_items.specs.declared.items.Parameter.TheVariants.{Absent}
use Rattle.gt_markers.specs.declared.kinds.OptionKind.{OptionKind}
use Rattle.gt_markers.specs.declared.kinds.OptionKind.TheVariants.{Skip, Length, Desc, Tag, Default, Cache, Deletable, MaybeUndef, ChainNext, ChainPrev, ChainCircular, Atomic, StringLength, VariableSize, ForUser, Reorder}

-- the options that there are, by their names
abbrev pub known_options : List (List ℕ × OptionKind)
known_options =
    (codes "skip", Skip) ∷ (codes "length", Length) ∷ (codes "desc", Desc) ∷ (codes "tag", Tag) ∷ (codes "default", Default) ∷ (codes "cache", Cache)
    ∷ (codes "deletable", Deletable) ∷ (codes "maybe_undef", MaybeUndef) ∷ (codes "chain_next", ChainNext) ∷ (codes "chain_prev", ChainPrev)
    ∷ (codes "chain_circular", ChainCircular) ∷ (codes "atomic", Atomic) ∷ (codes "string_length", StringLength) ∷ (codes "variable_size", VariableSize)
    ∷ (codes "for_user", ForUser) ∷ (codes "reorder", Reorder) ∷ []

-- which option a name is of; none where it is not known
abbrev pub kind_of : List ℕ → Option OptionKind
kind_of name = option_map (λ known. known.1) (find (λ known. bytes_eq name known.0) known_options)

-- whether an option has a parameter
abbrev pub needs_parameter : OptionKind → Bool
needs_parameter Length = true
needs_parameter Desc = true
needs_parameter Tag = true
needs_parameter ChainNext = true
needs_parameter ChainPrev = true
needs_parameter ChainCircular = true
needs_parameter StringLength = true
needs_parameter Reorder = true
needs_parameter kind = false

abbrev pub has_parameter : Parameter → Bool
has_parameter Absent = false
has_parameter parameter = true

-- the first option of a name: of two, it is the one that is read
abbrev pub option_named : List ℕ → List RawOption → Option RawOption
option_named name options = find (λ o. bytes_eq o.name.word name) options

-- beside `skip`, the other options of a field but `tag` and `default` are passed over
abbrev pub stands_beside_skip : OptionKind → Bool
stands_beside_skip Skip = true
stands_beside_skip Tag = true
stands_beside_skip Default = true
stands_beside_skip kind = false

-- two different options that may not stand together
abbrev pub exclude : OptionKind → OptionKind → Bool
exclude Default Tag = true
exclude Tag Default = true
exclude Atomic Length = true
exclude Length Atomic = true
exclude Atomic MaybeUndef = true
exclude MaybeUndef Atomic = true
exclude Atomic StringLength = true
exclude StringLength Atomic = true
exclude kind other = false
