-- What the blocks of the table tell of an address.
use Rattle.std.proofs.Common.{◌≡◌, ℕ, ap, sym, ◌∙◌}
use Rattle.std.specs.Prelude.{Some}
use Rattle.gt_tree.specs.Blocks.{Block, IsWhole}
use Rattle.gt_value.specs.declared.names.BlockKind.{BlockKind}
use Rattle.gt_value.specs.declared.names.BlockOf.{BlockOf}
use Rattle.gt_value.specs.Names.{kind_of, IsTold}
use Rattle.value_notation.specs.Blocks.{blocks}

-- the block at one address is told, by what it holds
pub told : (address at : ℕ) (t : BlockOf) (b : Block) (kind : BlockKind) (count : ℕ) → address ≡ at → blocks at ≡ Some b → t ≡ record { kind = kind; count = count } → b.kind ≡ kind_of kind
    → b.count ≡ count → IsWhole b → IsTold blocks address (Some t)
told address at t b kind count here holds is same many whole =
    (b, ap blocks here ∙ holds, same ∙ sym (ap (λ (t : BlockOf). kind_of t.kind) is), many ∙ sym (ap (λ (t : BlockOf). t.count) is), whole)
