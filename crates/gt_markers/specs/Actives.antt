-- When a member of a union is a part of its value.
use Rattle.std.specs.Prelude.{ℤ, Bool, true, false, if◌then◌else◌, codes, List, Option, Some, None}
use Rattle.std.specs.Option.{option_map_or}
use Rattle.gt_types.specs.declared.program.Active.{Active}
use Rattle.gt_types.specs.declared.program.Active.TheVariants.{Always, Tag, Other, Never}
use Rattle.gt_items.specs.declared.items.RawOption.{RawOption}
use Rattle.gt_drafts.specs.declared.draft.Draft.{Draft}
use Rattle.gt_drafts.specs.Options.{has_option}
use Rattle.gt_markers.specs.Options.{option_named}
use Rattle.gt_markers.specs.Expressions.{constant_value}

-- a tag without a value, which is a fault, counts as the default
abbrev pub tag_of : Option ℤ → Active
tag_of (Some value) = Tag value
tag_of None = Other

abbrev pub without_tag : List RawOption → Active
without_tag options = if has_option (codes "default") options then Other else Never

-- When a member of a union is a part of its value: by its tag, or as the default; one with neither never is. A field of a struct
-- always is.
abbrev pub active_of : Draft → Bool → List RawOption → Active
active_of draft false options = Always
active_of draft true options = option_map_or (λ o. tag_of (constant_value draft o.parameter)) (option_named (codes "tag") options) (without_tag options)
