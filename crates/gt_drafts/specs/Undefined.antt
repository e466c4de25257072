-- What has no definition, or no size.
use Rattle.std.specs.Prelude.{Bool, true, false, ◌&&◌, ◌||◌, not, if◌then◌else◌, codes, List}
use Rattle.std.specs.Option.{option_map_or}
use Rattle.std.specs.List.{list_any}
use Rattle.gt_items.specs.declared.items.RawOption.{RawOption}
use Rattle.gt_items.specs.declared.items.Stars.{Stars}
use Rattle.gt_items.specs.declared.items.Stars.TheVariants.{Zero}
use Rattle.gt_drafts.specs.declared.types.Amount.{Amount}
use Rattle.gt_drafts.specs.declared.types.Amount.TheVariants as amount
use Rattle.gt_drafts.specs.declared.types.BaseType.{BaseType}
use Rattle.gt_drafts.specs.declared.types.BaseType.TheVariants.{Sizeless, Undefined, Unknown}
use Rattle.gt_drafts.specs.declared.types.DeclaredType.{DeclaredType}
use Rattle.gt_drafts.specs.declared.types.Resolved.{Resolved}
use Rattle.gt_drafts.specs.Options.{has_option, has_skip}

abbrev pub is_unknown : BaseType → Bool
is_unknown Unknown = true
is_unknown base = false

abbrev pub is_undefined : BaseType → Bool
is_undefined (Undefined keyword tag) = true
is_undefined base = false

abbrev pub is_sizeless : BaseType → Bool
is_sizeless Sizeless = true
is_sizeless (Undefined keyword tag) = true
is_sizeless base = false

abbrev pub is_zero : Stars → Bool
is_zero Zero = true
is_zero stars = false

-- a pointer to something undefined may stand with one of these
abbrev pub may_point : List RawOption → Bool
may_point options = has_skip options || has_option (codes "atomic") options || has_option (codes "maybe_undef") options

-- a type by value that has no size, or a pointer to something undefined
abbrev pub has_no_target : List RawOption → Resolved → Bool
has_no_target options r = if is_zero r.stars then is_sizeless r.base else is_undefined r.base && not (may_point options)

abbrev pub names_undefined : Amount → Bool
names_undefined amount.Undefined = true
names_undefined a = false

unfoldable pub is_undefined_type : List RawOption → DeclaredType → Bool
is_undefined_type options t =
    is_unknown t.resolved.base || (not t.is_function && has_no_target options t.resolved) || list_any names_undefined t.bounds
    || option_map_or names_undefined t.bits false

-- a key or a value that has no definition
abbrev pub is_nothing : Resolved → Bool
is_nothing r = is_unknown r.base || is_undefined r.base
