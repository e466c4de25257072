-- Types whose numbers fit, as those of each draft that headers resolve to do.
use Rattle.std.specs.Prelude.{◌<◌, ◌^◌, IfSome, All}
use Rattle.gt_drafts.specs.declared.types.Amount.{Amount}
use Rattle.gt_drafts.specs.declared.types.BaseType.{BaseType}
use Rattle.gt_drafts.specs.declared.types.BaseType.TheVariants.{Structure}
use Rattle.gt_drafts.specs.declared.types.DeclaredType.{DeclaredType}
use Rattle.gt_markers.specs.Typing.{amount}

-- a number of elements fits 32 bits
abbrev pub IsSmall : Amount → Type 0
IsSmall bound = amount bound < 2 ^ 32

-- the place of a structure fits 32 bits
abbrev pub HasSmallId : BaseType → Type 0
HasSmallId (Structure id) = id < 2 ^ 32
HasSmallId base = Unit {0}

-- the place of the structure, the bounds and the number of bits of a type fit their widths
pub record IsSmallType (t : DeclaredType) : Type 0 where
  pub id : HasSmallId t.resolved.base
  pub bounds : All IsSmall t.bounds
  pub bits : IfSome t.bits (λ count. amount count < 2 ^ 8)
