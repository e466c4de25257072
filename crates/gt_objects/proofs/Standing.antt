-- Blocks and the static record that stand in a space still stand where their bytes are as before and blocks have the same addresses.
use Rattle.std.proofs.Common.{◌≡◌, ℕ, ◌*◌, sym, subst, arith}
use Rattle.std.specs.Prelude.{All}
use Rattle.gt_types.specs.declared.program.Program.{Program}
use Rattle.gt_types.specs.Settled.{Settled}
use Rattle.gt_layout.specs.declared.planes.Layouts.{Layouts}
use Rattle.gt_layout.specs.Planes.{IsLaidOut}
use Rattle.gt_space.specs.Range.{Range, bytes_at}
use Rattle.gt_tree.specs.Trees.{Trees, IsZero, AreZero}
use Rattle.gt_tree.specs.Blocks.{Blocks, element_type}
use Rattle.gt_tree.specs.Scopes.{outside}
use Rattle.gt_tree.specs.Fits.{EachFits, BlockFits, StaticsFit}
use Rattle.gt_tree.specs.Leaves.{Stand}
use Rattle.gt_tree.proofs.OneList.{elements-one_list, record-one_list}
use Rattle.gt_tree.proofs.WriteLeaves.{noughts_fields}
use Rattle.gt_value.specs.Bytes.{Takes}
use Rattle.gt_pages.specs.Ledger.{Block}
use Rattle.gt_graph.specs.Objects.{Object}
use Rattle.gt_graph.specs.Stands.{BlockStands, RecordStands}
use Rattle.gt_objects.proofs.Leaves.{Agree, same_each, same_fields, stand_same}
use Rattle.gt_objects.proofs.Zeros.{is_zero, noughts_each, noughts_stand}

module _ (program : Program) (layouts : Layouts) where
  -- ---- as before

  module _ (blocks : Blocks) (statics : Trees) (a b : ℕ → ℕ) (agree : Agree a b blocks) (old new : Range) where
    pub block_stands : (o : Object) (block : Block) → BlockFits program blocks statics o.kind o.count o.capacity o.value
        → bytes_at new block.address block.size ≡ bytes_at old block.address block.size → BlockStands program layouts a old o block → BlockStands program layouts b new o block
    block_stands o block fits bytes stands =
        let same : fits.trees ≡ stands.has.trees = let mine = fits.row in let its = stands.has.row in cc in
        let each = subst (λ ts. EachFits program blocks o.capacity (outside statics) (element_type program o.kind) ts) same fits.each in
        record {
          needed = stands.needed;
          leaves = stands.leaves;
          has = stands.has;
          stand = subst (Stand b stands.leaves) (sym bytes)
              (stand_same a b stands.leaves (bytes_at old block.address block.size) (same_each a b program layouts.structures blocks o.capacity agree stands.has.each (outside statics) each) stands.stand);
        }

    pub record_stands : StaticsFit program blocks statics → bytes_at new new.start layouts.statics.size ≡ bytes_at old old.start layouts.statics.size
        → RecordStands program layouts a old statics → RecordStands program layouts b new statics
    record_stands fits bytes stands = record {
      leaves = stands.leaves;
      has = stands.has;
      stand = subst (Stand b stands.leaves) (sym bytes)
          (stand_same a b stands.leaves (bytes_at old old.start layouts.statics.size) (same_fields a b program layouts.structures blocks 0 agree stands.has (outside statics) fits) stands.stand);
    }

  -- ---- zero

  module _ (settled : Settled program) (laid : IsLaidOut program layouts) (blocks : Blocks) (statics : Trees) (address : ℕ → ℕ) (range : Range) where
    pub zero_block_stands : (o : Object) (block : Block) (size : ℕ) → BlockFits program blocks statics o.kind o.count o.capacity o.value → IsZero o.value
        → Takes program layouts o.capacity (element_type program o.kind) size → All is_zero (bytes_at range block.address block.size) → BlockStands program layouts address range o block
    zero_block_stands o block size fits zero takes zeros =
        let found = elements-one_list program layouts settled laid blocks o.capacity (outside statics) (element_type program o.kind) fits.trees (8 * size) 0 fits.each in
        let are_zero : AreZero fits.trees = subst IsZero fits.row zero in
        record {
          needed = o.count * size;
          leaves = found.0;
          has = record { trees = fits.trees; row = fits.row; width = 8 * size; wide = takes; needs = omega arith; each = found.1 };
          stand = noughts_stand address found.0 (bytes_at range block.address block.size) (noughts_each found.1 are_zero) zeros;
        }

    pub zero_record_stands : StaticsFit program blocks statics → AreZero statics → All is_zero (bytes_at range range.start layouts.statics.size) → RecordStands program layouts address range statics
    zero_record_stands fits zero zeros =
        let found = record-one_list program layouts settled laid blocks statics fits in
        record {
          leaves = found.0;
          has = found.1;
          stand = noughts_stand address found.0 (bytes_at range range.start layouts.statics.size) (noughts_fields found.1 zero) zeros;
        }
