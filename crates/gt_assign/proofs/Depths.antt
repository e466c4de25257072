-- One level of what nests less than so deep.
use Rattle.std.proofs.Common.{◌≡◌, ℕ, zero, suc, ◌-◌, ◌≤◌, ap, arith}
use Rattle.gt_types.specs.declared.types.Ty.{Ty, out-Ty}
use Rattle.gt_types.specs.declared.program.Program.{Program}
use Rattle.gt_assign.specs.Pasts.{Was, Past}
use Rattle.gt_assign.specs.Turning.{made, layer_made}

pred-suc : (n : ℕ) → n ≡ suc n - 1
pred-suc n = omega arith

pub made_at : (program : Program) (capacity depth : ℕ) (past : Past) (type : Ty) (was : Was) → 1 ≤ depth
    → made program capacity depth past type was ≡ layer_made program capacity (made program capacity (depth - 1)) past (out-Ty type) was
made_at program capacity zero past type was h = absurd (omega arith)
made_at program capacity (suc depth) past type was h = ap (λ n. layer_made program capacity (made program capacity n) past (out-Ty type) was) (pred-suc depth)
