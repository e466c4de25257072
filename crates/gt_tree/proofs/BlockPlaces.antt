-- The leaves of a block lie in the bytes that it needs.
use Rattle.std.proofs.Common.{◌≡◌, ◌+◌, ◌*◌, sym, ap, subst, ◌∙◌, arith}
use Rattle.gt_types.specs.declared.program.Program.{Program}
use Rattle.gt_types.specs.Settled.{Settled}
use Rattle.gt_layout.specs.declared.planes.Layouts.{Layouts}
use Rattle.gt_layout.specs.Planes.{IsLaidOut}
use Rattle.gt_tree.specs.Trees.{Tree, Row, Trees, count}
use Rattle.gt_tree.specs.Blocks.{element_type}
use Rattle.gt_tree.specs.Scopes.{outside}
use Rattle.gt_tree.specs.Fits.{EachFits}
use Rattle.gt_tree.specs.LeafLaws.{IsTypeIn, LieInOrder}
use Rattle.gt_tree.specs.BlockLeaves.{BlockIsPlaced}
use Rattle.gt_tree.proofs.Known.{elements-placed}

rows : (value : Tree) (trees others : Trees) → value ≡ Row trees → value ≡ Row others → trees ≡ others
rows value trees others a b = let same : Row trees ≡ Row others = sym a ∙ b in cc

pub blocks-placed : (program : Program) (layouts : Layouts) → Settled program → IsLaidOut program layouts → BlockIsPlaced program layouts
blocks-placed program layouts settled laid blocks statics kind n capacity value bytes leaves fits has = subst (λ end. LieInOrder 0 end leaves) ends lie
  where
    same : fits.trees ≡ has.trees
    same = rows value fits.trees has.trees fits.row has.row

    each : EachFits program blocks capacity (outside statics) (element_type program kind) has.trees
    each = subst (λ trees. EachFits program blocks capacity (outside statics) (element_type program kind) trees) same fits.each

    many : count has.trees ≡ n
    many = sym (ap count same) ∙ fits.as_many

    lie : LieInOrder 0 (0 + count has.trees * has.width) leaves
    lie = elements-placed program layouts settled laid blocks capacity (outside statics) (element_type program kind) has.width 0 has.trees leaves (IsTypeIn.of_block kind) has.wide each has.each

    ends : 0 + count has.trees * has.width ≡ 8 * bytes
    ends = omega arith ∙ ap (λ m. m * has.width) many ∙ sym has.needs
