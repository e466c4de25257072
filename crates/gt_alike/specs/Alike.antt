-- When rows of walks are equal. The value of a union's row tells where in memory its arms lie, so arms are compared one by one.
use Rattle.std.specs.Global.{Vec}
use Rattle.std.specs.Prelude.{◌≡◌, ◌⊎◌, Bool, true, false, List, [], ◌∷◌, IfSome}
use Rattle.gt_walk.specs.declared.rows.RowExpr.{RowExpr}
use Rattle.gt_walk.specs.declared.rows.Arm.{Arm, out-Arm}
use Rattle.gt_walk.specs.declared.rows.WalkRow.{WalkRow}
use Rattle.gt_walk.specs.declared.rows.WalkRow.TheVariants as row
use Rattle.gt_walk.specs.declared.rows.WalkRow.TheOpen.{WalkRow-F, Arm-F, Rep, Tail, Switch}
use Rattle.gt_walk.specs.declared.rows.WalkRow.TheFolds.{fold-WalkRow}

-- as many on both sides, each beside its like
abbrev pub Pairs : {X : Type 0} → (X → X → Type 0) → List X → List X → Type 0
Pairs R [] ys = ys ≡ []
Pairs R (x ∷ xs) [] = ⊥
Pairs R (x ∷ xs) (y ∷ ys) = R x y × Pairs R xs ys

-- two rows of unions have the same expression and the same arms
pub record AreSwitches (r s : WalkRow) : Type 0 where
  pub desc : RowExpr
  pub arms : Vec Arm
  pub others : Vec Arm
  pub one : r ≡ row.Switch desc arms
  pub other : s ≡ row.Switch desc others
  pub same : arms.items ≡ others.items

-- two rows are equal
abbrev pub IsEqual : WalkRow → WalkRow → Type 0
IsEqual r s = (r ≡ s) ⊎ AreSwitches r s

-- the rows of two walks are equal
abbrev pub AreEqual : List WalkRow → List WalkRow → Type 0
AreEqual = Pairs IsEqual

-- ---- what is decided: no row of a union stands inside another row, and then rows that are equal are found to be so

-- whether one row is that of a union, or has one in its elements
abbrev pub switch_at : WalkRow-F Bool Bool → Bool
switch_at (Switch desc arms) = true
switch_at (Rep offset n size elem) = elem
switch_at (Tail offset len size elem) = elem
switch_at row = false

abbrev pub switch_in_arm : Arm-F Bool Bool → Bool
switch_in_arm arm = false

abbrev pub has_switch : WalkRow → Bool
has_switch = fold-WalkRow Bool Bool switch_at switch_in_arm

abbrev pub IsFlatArm : Arm → Type 0
IsFlatArm arm = IfSome (out-Arm arm).row (λ r. has_switch r ≡ false)

abbrev pub IsSameRow : WalkRow → WalkRow → Type 0
IsSameRow r s = (r ≡ s) × (has_switch r ≡ false)

abbrev pub IsSameArm : Arm → Arm → Type 0
IsSameArm a b = (a ≡ b) × IsFlatArm a

-- two rows of unions have the same expression and the same arms, in which no row of a union stands
pub record AreFlatSwitches (r s : WalkRow) : Type 0 where
  pub desc : RowExpr
  pub arms : Vec Arm
  pub others : Vec Arm
  pub one : r ≡ row.Switch desc arms
  pub other : s ≡ row.Switch desc others
  pub same : Pairs IsSameArm arms.items others.items

abbrev pub IsAlike : WalkRow → WalkRow → Type 0
IsAlike r s = IsSameRow r s ⊎ AreFlatSwitches r s

abbrev pub AreAlike : List WalkRow → List WalkRow → Type 0
AreAlike = Pairs IsAlike
