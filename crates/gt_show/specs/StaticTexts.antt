-- The text of the static record.
use Rattle.std.specs.Prelude.{◌≡◌, ℕ, List, ◌++◌, map, codes}
use Rattle.gt_types.specs.declared.program.Active.TheVariants.{Always}
use Rattle.gt_types.specs.declared.program.Field.{Field}
use Rattle.gt_types.specs.declared.program.Root.{Root}
use Rattle.gt_types.specs.declared.program.Program.{Program}
use Rattle.gt_tree.specs.Trees.{Trees}
use Rattle.gt_tree.specs.Blocks.{Blocks}
use Rattle.gt_show.specs.Shown.{ShowFields, joined}

-- a root as a field of its name and type
abbrev pub as_field : Root → Field
as_field r = record { name = r.name; ty = r.ty; active = Always }

-- The text of the static record, by the values of the roots: that of a struct of which they are the fields, in their order.
abbrev pub ShowsStatics : Program → Blocks → Trees → List ℕ → Type 0
ShowsStatics program blocks statics text = (texts : List (List ℕ)) × ShowFields program blocks (map as_field program.roots) statics texts × (text ≡ codes "{" ++ joined texts ++ codes "}")

-- two texts of one static record are one text
abbrev pub StaticTextIsOne : Program → Type 0
StaticTextIsOne program = (blocks : Blocks) (statics : Trees) (text other : List ℕ) → ShowsStatics program blocks statics text → ShowsStatics program blocks statics other → text ≡ other
