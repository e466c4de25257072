-- Options that are known by their names alone.
use Rattle.std.specs.Prelude.{ℕ, Bool, ◌&&◌, not, codes, List}
use Rattle.std.specs.List.{list_any}
use Rattle.std.specs.Str.{bytes_eq}
use Rattle.gt_items.specs.declared.items.RawOption.{RawOption}

-- an option of this name stands there
abbrev pub has_option : List ℕ → List RawOption → Bool
has_option name options = list_any (λ option. bytes_eq option.name.word name) options

abbrev pub has_skip : List RawOption → Bool
has_skip options = has_option (codes "skip") options

-- beside `skip`, `length` is passed over
abbrev pub has_length : List RawOption → Bool
has_length options = has_option (codes "length") options && not (has_skip options)
