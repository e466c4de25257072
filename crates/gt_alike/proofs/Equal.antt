-- Rows that are found to be equal are, and have the same number.
use Rattle.std.specs.Global.{Vec}
use Rattle.std.proofs.Common.{◌≡◌, ◌∙◌, ℕ, false, List, [], ◌∷◌, map, refl, ap, sym, subst, ◌⊎◌, inl, inr}
use Rattle.std.specs.Prelude.{All}
use Rattle.std.proofs.lemmas.List.Elements.{All-head, All-tail}
use Rattle.gt_walk.specs.declared.rows.RowExpr.{RowExpr}
use Rattle.gt_walk.specs.declared.rows.Arm.{Arm}
use Rattle.gt_walk.specs.declared.rows.WalkRow.{WalkRow, out-WalkRow}
use Rattle.gt_walk.specs.declared.rows.WalkRow.TheFolds.{fold_out-WalkRow, map-WalkRow}
use Rattle.gt_walk.specs.declared.rows.WalkRow.TheVariants as row
use Rattle.gt_walk.specs.declared.rows.WalkRow.TheVariants.{outs-Switch}
use Rattle.gt_walk.specs.declared.rows.WalkRow.TheOpen as form
use Rattle.gt_alike.specs.Alike.{Pairs, IsEqual, AreEqual, has_switch, IsFlatArm, IsSameArm, IsAlike, AreAlike}
use Rattle.gt_alike.specs.Prints.{mix, mix_all, expr_print, row_step, arm_step, row_print, arm_print, rows_print}
use Rattle.gt_alike.proofs.Forms.{pairs-weaker, switch-there}

same-arms : (xs ys : List Arm) → Pairs IsSameArm xs ys → xs ≡ ys
same-arms [] ys p = sym p
same-arms (x ∷ xs) [] p = absurd p
same-arms (x ∷ xs) (y ∷ ys) p = ap (λ a. a ∷ xs) p.0.0 ∙ ap (λ l. y ∷ l) (same-arms xs ys p.1)

pub alike-equal : (r s : WalkRow) → IsAlike r s → IsEqual r s
alike-equal r s alike = elim alike [
  | inl same ↦ inl same.0
  | inr both ↦ inr (record { desc = both.desc; arms = both.arms; others = both.others; one = both.one; other = both.other; same = same-arms both.arms.items both.others.items both.same })
]

pub alike-are-equal : (rs ss : List WalkRow) → AreAlike rs ss → AreEqual rs ss
alike-are-equal rs ss = pairs-weaker IsAlike IsEqual alike-equal rs ss

pub equal-itself : (rs : List WalkRow) → AreEqual rs rs
equal-itself [] = refl
equal-itself (r ∷ rs) = (inl refl, equal-itself rs)

-- ---- the same number

switch-print : (desc : RowExpr) (arms : Vec Arm) → row_print (row.Switch desc arms) ≡ mix_all (mix 6 (expr_print desc)) (map arm_print arms.items)
switch-print desc arms =
    fold_out-WalkRow ℕ ℕ row_step arm_step (row.Switch desc arms) ∙ ap (λ x. row_step (map-WalkRow WalkRow Arm ℕ ℕ row_print arm_print x)) (outs-Switch desc arms)

equal-print : (r s : WalkRow) → IsEqual r s → row_print r ≡ row_print s
equal-print r s equal = elim equal [
  | inl same ↦ ap row_print same
  | inr both ↦ ap row_print both.one ∙ switch-print both.desc both.arms ∙ ap (λ (arms : List Arm). mix_all (mix 6 (expr_print both.desc)) (map arm_print arms)) both.same ∙ sym (switch-print both.desc both.others)
      ∙ ap row_print (sym both.other)
]

prints-from : (sum : ℕ) (rs ss : List WalkRow) → AreEqual rs ss → mix_all sum (map row_print rs) ≡ mix_all sum (map row_print ss)
prints-from sum [] ss p = ap (λ (l : List WalkRow). mix_all sum (map row_print l)) (sym p)
prints-from sum (r ∷ rs) [] p = absurd p
prints-from sum (r ∷ rs) (s ∷ ss) p = ap (λ n. mix_all (mix sum n) (map row_print rs)) (equal-print r s p.0) ∙ prints-from (mix sum (row_print s)) rs ss p.1

pub equal-prints : (rs ss : List WalkRow) → AreEqual rs ss → rows_print rs ≡ rows_print ss
equal-prints rs ss p = prints-from 0 rs ss p

-- ---- rows in which no row of a union stands inside another are found to be equal where they are

-- a row of no union; or one of a union, in whose arms there is none
abbrev pub IsFlat : WalkRow → Type 0
IsFlat r = (has_switch r ≡ false) ⊎ ((desc : RowExpr) × (arms : Vec Arm) × (r ≡ row.Switch desc arms) × All IsFlatArm arms.items)

pub one-switch : (a b : RowExpr) (xs ys : Vec Arm) → row.Switch a xs ≡ row.Switch b ys → xs.items ≡ ys.items
one-switch a b xs ys e =
    let same : form.Switch a xs ≡ form.Switch b ys = sym (outs-Switch a xs) ∙ ap out-WalkRow e ∙ outs-Switch b ys in
    let vec : xs ≡ ys = cc in
    ap (λ (v : Vec Arm). v.items) vec

flat-arms : (xs ys : List Arm) → xs ≡ ys → All IsFlatArm xs → Pairs IsSameArm xs ys
flat-arms [] ys e all = sym e
flat-arms (x ∷ xs) [] e all = absurd (cc (e))
flat-arms (x ∷ xs) (y ∷ ys) e all =
    let first : x ≡ y = cc (e) in
    let rest : xs ≡ ys = cc (e) in
    ((first, All-head IsFlatArm x xs all), flat-arms xs ys rest (All-tail IsFlatArm x xs all))

pub equal-alike : (r s : WalkRow) → IsFlat r → IsEqual r s → IsAlike r s
equal-alike r s flat equal = elim flat [
  | inl plain ↦ elim equal [
    | inl same ↦ inl (same, plain)
    | inr both ↦ let there = ap has_switch both.one ∙ switch-there both.desc both.arms in absurd (cc (plain, there))
  ]
  | inr union ↦ elim equal [
    | inl same ↦ inr (record { desc = union.0; arms = union.1; others = union.1; one = union.2; other = sym same ∙ union.2; same = flat-arms union.1.items union.1.items refl union.3 })
    | inr both ↦
        let items : both.arms.items ≡ union.1.items = one-switch both.desc union.0 both.arms union.1 (sym both.one ∙ union.2) in
        inr (record {
          desc = both.desc;
          arms = both.arms;
          others = both.others;
          one = both.one;
          other = both.other;
          same = flat-arms both.arms.items both.others.items both.same (subst (All IsFlatArm) (sym items) union.3);
        })
  ]
]

pub equal-are-alike : (rs ss : List WalkRow) → All IsFlat rs → AreEqual rs ss → AreAlike rs ss
equal-are-alike [] ss all p = p
equal-are-alike (r ∷ rs) [] all p = p
equal-are-alike (r ∷ rs) (s ∷ ss) all p = (equal-alike r s (All-head IsFlat r rs all) p.0, equal-are-alike rs ss (All-tail IsFlat r rs all) p.1)
