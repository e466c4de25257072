-- Blocks that are not of tails can be zero.
use Rattle.std.proofs.Common.{◌≡◌, ◌≤◌, ◌⊎◌, ℕ, refl, arith}
use Rattle.std.specs.Prelude.{slice_get}
use Rattle.gt_types.specs.declared.types.TypeId.{TypeId}
use Rattle.gt_types.specs.declared.program.Structure.{Structure}
use Rattle.gt_types.specs.declared.program.Program.{Program}
use Rattle.gt_types.specs.Contains.{HasStructure}
use Rattle.gt_types.specs.Unions.{IsCommon}
use Rattle.gt_types.specs.Settled.{Settled}
use Rattle.gt_tree.specs.Blocks.{Kind, Nodes, Pointers, Strings, Chars, Raw, element_type, desc_of}
use Rattle.gt_tree.specs.FixedLaws.{MayHold}
use Rattle.gt_graph.specs.Objects.{Graph, blocks_of}
use Rattle.gt_graph.specs.Good.{IsOfTails}
use Rattle.gt_value.proofs.ZeroValues.{element-zero}
use Rattle.gt_held.specs.Zeros.{HasZero}
use Rattle.gt_held.proofs.ZeroBlocks.{zero-block, zero-pointers, zero-strings, zero-raw, chars-decide}
use Rattle.gt_held.proofs.NoughtsThere.{nought-there}

module _ (program : Program) (settled : Settled program)
    (decided : (node : TypeId) (s : Structure) → HasStructure program node s → ((common : TypeId) × IsCommon program s common) ⊎ ((common : TypeId) → ¬ IsCommon program s common)) where
  pub plain-zeros : (g : Graph) (kind : Kind) (count : ℕ) → MayHold program kind → ¬ IsOfTails program kind → (kind ≡ Chars → 1 ≤ count) → HasZero program g kind count 0
  plain-zeros g (Nodes node) count may whole some =
      let found = nought-there program settled decided 32 node (desc_of (slice_get program.structures node.0)) (may.0, may.1, λ n inner nests. settled.depth n node inner nests, λ of. whole (node, refl, of)) in
      zero-block program g 0 (Nodes node) count found.0
      (element-zero program settled 0 (element_type program (Nodes node)) found.0 (Nodes node, may, refl) found.1 (blocks_of g.objects) g.statics) tt
  plain-zeros g (Pointers node) count may whole some = zero-pointers program g 0 node count
  plain-zeros g Strings count may whole some = zero-strings program g 0 count
  plain-zeros g Chars count may whole some = (chars-decide program g 0 count).0 (grind (arith, some refl))
  plain-zeros g Raw count may whole some = zero-raw program g 0 count
