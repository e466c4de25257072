-- What fits beside some blocks fits beside more of them.
use Rattle.std.proofs.Common.{◌≡◌, ℕ, List, Some}
use Rattle.gt_types.specs.declared.types.Ty.{Ty}
use Rattle.gt_types.specs.declared.program.Program.{Program}
use Rattle.gt_tree.specs.Trees.{Tree, Trees, edges, all_edges}
use Rattle.gt_tree.specs.Blocks.{Kind, Block, Blocks, Holds}
use Rattle.gt_tree.specs.Scopes.{Scope}
use Rattle.gt_tree.specs.Fits.{AllFit, EachFits, BlockFits}
use Rattle.gt_objects.proofs.Fewer.{AreStill, block_still, each_still, fields_still, holds_still}

-- each block of the first is one of the others
abbrev pub AreAmong : Blocks → Blocks → Type 0
AreAmong blocks others = (id : ℕ) (b : Block) → blocks id ≡ Some b → others id ≡ Some b

module _ (blocks others : Blocks) (more : AreAmong blocks others) where
  pub holds_more : (id : ℕ) (kind : Kind) (n : ℕ) → Holds blocks id kind n → Holds others id kind n
  holds_more id kind n holds = holds_still blocks others id (more id) kind n holds

  all_among : (ids : List ℕ) → AreStill blocks others ids
  all_among ids id there = more id

  module _ {program : Program} {capacity : ℕ} where
    pub fields_more : {scope : Scope} {types : List Ty} {trees : Trees} → AllFit program blocks capacity scope types trees → AllFit program others capacity scope types trees
    fields_more {trees} all = fields_still blocks others (all_among (all_edges trees)) all

    pub each_more : {scope : Scope} {type : Ty} {trees : Trees} → EachFits program blocks capacity scope type trees → EachFits program others capacity scope type trees
    each_more {trees} each = each_still blocks others (all_among (all_edges trees)) each

  pub block_more : (program : Program) (statics : Trees) (kind : Kind) (n capacity : ℕ) (value : Tree) → BlockFits program blocks statics kind n capacity value
      → BlockFits program others statics kind n capacity value
  block_more program statics kind n capacity value fits = block_still blocks others program statics kind n capacity value (all_among (edges value)) fits
