-- What was stored stands.
use Rattle.std.specs.Prelude.{ℕ}
use Rattle.gt_types.specs.declared.program.Program.{Program}
use Rattle.gt_layout.specs.declared.planes.Layouts.{Layouts}
use Rattle.gt_space.specs.Range.{Range, IsInside, bytes_at}
use Rattle.gt_tree.specs.Trees.{Tree, Trees}
use Rattle.gt_tree.specs.Blocks.{Kind, Blocks, element_type}
use Rattle.gt_tree.specs.Scopes.{outside}
use Rattle.gt_tree.specs.Fits.{Fits, StaticsFit}
use Rattle.gt_tree.specs.FixedLaws.{MayHold, IsValueOf, AreStaticsOf}
use Rattle.gt_value.specs.Bytes.{itself, Takes, IsStored, AreStaticsStored}

-- Where a value of an element of a block fits beside some blocks and roots, and was stored at an address with room for it, the bytes
-- there stand for it, beside the same.
abbrev pub StoredStands : Program → Layouts → Type 0
StoredStands program layouts = (blocks : Blocks) (statics : Trees) (kind : Kind) (capacity size address : ℕ) (old new : Range) (value : Tree)
    → MayHold program kind → Takes program layouts capacity (element_type program kind) size → IsInside old address size
    → Fits program blocks capacity (outside statics) (element_type program kind) value
    → IsStored program layouts capacity (element_type program kind) value old address new
    → IsValueOf program layouts blocks statics kind capacity itself 0 (bytes_at new address size) value

-- so for the static record, at the lowest address
abbrev pub StoredStaticsStand : Program → Layouts → Type 0
StoredStaticsStand program layouts = (blocks : Blocks) (old new : Range) (values : Trees)
    → IsInside old old.start layouts.statics.size → StaticsFit program blocks values → AreStaticsStored program layouts values old new
    → AreStaticsOf program layouts blocks itself (bytes_at new new.start layouts.statics.size) values
