-- No promise: what a test of types needs to know of options.
use Rattle.std.specs.Prelude.{◌≡◌, is_some}
use Rattle.gt_markers.specs.declared.type_options.TypeOptions.{TypeOptions}
use Rattle.gt_markers.specs.declared.walking.PointerOptions.{PointerOptions}

-- these are the options of pointers among what options say
pub record AreOptionsOf (says : TypeOptions) (options : PointerOptions) : Type 0 where
  pub counted : options.counted ≡ is_some says.length
  pub atomic : options.atomic ≡ says.atomic
  pub maybe_undef : options.maybe_undef ≡ says.maybe_undef
