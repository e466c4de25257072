-- How far a visit may go down: by one walk in another, and inside one by the depth of a row.
use Rattle.std.proofs.Common.{◌≡◌, ℕ, zero, suc, ◌+◌, ◌-◌, ◌*◌, ◌≤◌, ◌<◌, Bool, true, false, cond, max, List, [], ◌∷◌, get_or, length, Option, Some, None, rules, arith, ap, sym, subst}
use Rattle.std.specs.Prelude.{ℤ, find, slice_get}
use Rattle.gt_tree.specs.Fits.{is_tag, is_default}
use Rattle.gt_walk.specs.declared.rows.RowExpr.{RowExpr}
use Rattle.gt_walk.specs.declared.rows.Arm.{Arm, out-Arm}
use Rattle.gt_walk.specs.declared.rows.WalkRow.{WalkRow}
use Rattle.gt_walk.specs.declared.rows.WalkRow.TheVariants as row
use Rattle.gt_walk.specs.declared.rows.WalkRow.TheViews.{size-Arm, size-WalkRow, the_lemmas}
use Rattle.gt_walk.specs.Rows.{first_some}
use Rattle.gt_walk.specs.Visiting.{chosen_of}

-- ---- the depth of rows

abbrev pub deepest : List WalkRow → ℕ
deepest [] = 0
deepest (r ∷ rows) = max (size-WalkRow r) (deepest rows)

abbrev pub deepest_arm : List Arm → ℕ
deepest_arm [] = 0
deepest_arm (a ∷ arms) = max (size-Arm a) (deepest_arm arms)

abbrev pub deepest_walk : List (List WalkRow) → ℕ
deepest_walk [] = 0
deepest_walk (rows ∷ walks) = max (deepest rows) (deepest_walk walks)

in-rep : (offset n size : ℕ) (elem : WalkRow) → size-WalkRow elem < size-WalkRow (row.Rep offset n size elem)
in-rep offset n size elem = search (rules, the_lemmas)

in-tail : (offset : ℕ) (len : RowExpr) (size : ℕ) (elem : WalkRow) → size-WalkRow elem < size-WalkRow (row.Tail offset len size elem)
in-tail offset len size elem = search (rules, the_lemmas)

in-switch : (desc : RowExpr) (arms : _) → deepest_arm arms.items < size-WalkRow (row.Switch desc arms)
in-switch desc arms = search (rules, the_lemmas)

in-arm : (arm : Arm) (r : WalkRow) → (out-Arm arm).row ≡ Some r → size-WalkRow r < size-Arm arm
in-arm arm r e = search (rules, the_lemmas)

arm-found : (p : Arm → Bool) (arms : List Arm) (arm : Arm) → find p arms ≡ Some arm → size-Arm arm ≤ deepest_arm arms
arm-found p [] arm e = absurd (cc)
arm-found p (a ∷ arms) arm e = go (p a) e (arm-found p arms arm)
  where
    go : (b : Bool) → cond b (Some a) (find p arms) ≡ Some arm → (find p arms ≡ Some arm → size-Arm arm ≤ deepest_arm arms) → size-Arm arm ≤ max (size-Arm a) (deepest_arm arms)
    go true e later = let same : a ≡ arm = cc in let equal = ap size-Arm same in omega (arith, equal)
    go false e later = let le = later e in omega (arith, le)

first-found : (a b : Option Arm) (arm : Arm) (bound : ℕ) → first_some a b ≡ Some arm → (a ≡ Some arm → size-Arm arm ≤ bound) → (b ≡ Some arm → size-Arm arm ≤ bound) → size-Arm arm ≤ bound
first-found (Some x) b arm bound e h k = h e
first-found None b arm bound e h k = k e

arm-chosen : (value : Option ℤ) (arms : List Arm) (arm : Arm) → chosen_of value arms ≡ Some arm → size-Arm arm ≤ deepest_arm arms
arm-chosen value arms arm e =
    first-found (find (λ a. is_tag value (out-Arm a).active) arms) (find (λ a. is_default (out-Arm a).active) arms) arm (deepest_arm arms) e
    (arm-found (λ a. is_tag value (out-Arm a).active) arms arm) (arm-found (λ a. is_default (out-Arm a).active) arms arm)

row-within : (rows : List WalkRow) (i : ℕ) (r : WalkRow) → i < length rows → r ≡ get_or rows i r → size-WalkRow r ≤ deepest rows
row-within [] i r lt is = absurd (omega (arith, lt))
row-within (x ∷ rows) zero r lt is = let same = ap size-WalkRow is in omega (arith, same)
row-within (x ∷ rows) (suc i) r lt is = let le = row-within rows i r (omega (arith, lt)) is in omega (arith, le)

walk-within : (walks : List (List WalkRow)) (i : ℕ) (rows : List WalkRow) → Some rows ≡ slice_get walks i → deepest rows ≤ deepest_walk walks
walk-within [] i rows e = absurd (cc)
walk-within (x ∷ walks) zero rows e = let is : rows ≡ x = cc in let same = ap deepest is in omega (arith, same)
walk-within (x ∷ walks) (suc i) rows e = let le = walk-within walks i rows e in omega (arith, le)

-- ---- measures

-- how much one walk in another counts for
abbrev pub step_of : List (List WalkRow) → ℕ
step_of walks = 2 * deepest_walk walks + 3

-- what a visit has before it where so many walks may still nest
abbrev pub walk_measure : List (List WalkRow) → ℕ → ℕ
walk_measure walks left = left * step_of walks

abbrev pub row_measure : List (List WalkRow) → ℕ → WalkRow → ℕ
row_measure walks left r = left * step_of walks + (2 * size-WalkRow r + 1)

abbrev pub elements_measure : List (List WalkRow) → ℕ → WalkRow → ℕ
elements_measure walks left r = left * step_of walks + (2 * size-WalkRow r + 2)

abbrev pub rows_measure : List (List WalkRow) → ℕ → List WalkRow → ℕ
rows_measure walks left rows = left * step_of walks + (2 * deepest rows + 2)

abbrev pub arms_measure : List (List WalkRow) → ℕ → List Arm → ℕ
arms_measure walks left arms = left * step_of walks + (2 * deepest_arm arms + 2)

down : (base a b : ℕ) → a < b → base + (2 * a + 2) < base + (2 * b + 1)
down base a b lt = omega (arith, lt)

along : (base a b : ℕ) → a ≤ b → base + (2 * a + 1) < base + (2 * b + 2)
along base a b le = omega (arith, le)

nest : (left deep most : ℕ) → 0 < left → deep ≤ most → (left - 1) * (2 * most + 3) + (2 * deep + 2) < left * (2 * most + 3)
nest zero deep most some le = absurd (omega (arith, some))
nest (suc d) deep most some le =
    let one : suc d - 1 ≡ d = omega arith in
    let more : suc d * (2 * most + 3) ≡ d * (2 * most + 3) + (2 * most + 3) = omega arith in
    subst (λ k. k * (2 * most + 3) + (2 * deep + 2) < suc d * (2 * most + 3)) (sym one) (subst (λ k. d * (2 * most + 3) + (2 * deep + 2) < k) (sym more) (inside (d * (2 * most + 3)) deep most le))
  where
    inside : (base deep most : ℕ) → deep ≤ most → base + (2 * deep + 2) < base + (2 * most + 3)
    inside base deep most le = omega (arith, le)

module _ (walks : List (List WalkRow)) (left : ℕ) where
  pub rep-falls : (r : WalkRow) (offset n size : ℕ) (elem e : WalkRow) → r ≡ row.Rep offset n size elem → e ≡ elem → elements_measure walks left e < row_measure walks left r
  rep-falls r offset n size elem e is same =
      down (left * step_of walks) (size-WalkRow e) (size-WalkRow r)
      (subst (λ x. size-WalkRow x < size-WalkRow r) (sym same) (subst (λ x. size-WalkRow elem < size-WalkRow x) (sym is) (in-rep offset n size elem)))

  pub tail-falls : (r : WalkRow) (offset : ℕ) (len : RowExpr) (size : ℕ) (elem e : WalkRow) → r ≡ row.Tail offset len size elem → e ≡ elem → elements_measure walks left e < row_measure walks left r
  tail-falls r offset len size elem e is same =
      down (left * step_of walks) (size-WalkRow e) (size-WalkRow r)
      (subst (λ x. size-WalkRow x < size-WalkRow r) (sym same) (subst (λ x. size-WalkRow elem < size-WalkRow x) (sym is) (in-tail offset len size elem)))

  pub switch-falls : (r : WalkRow) (desc : RowExpr) (arms : _) (items : List Arm) → r ≡ row.Switch desc arms → items ≡ arms.items → arms_measure walks left items < row_measure walks left r
  switch-falls r desc arms items is same =
      down (left * step_of walks) (deepest_arm items) (size-WalkRow r)
      (subst (λ x. deepest_arm x < size-WalkRow r) (sym same) (subst (λ x. deepest_arm arms.items < size-WalkRow x) (sym is) (in-switch desc arms)))

  pub sub-falls : (r : WalkRow) → walk_measure walks left < row_measure walks left r
  sub-falls r = omega arith

  pub elements-fall : (r : WalkRow) → row_measure walks left r < elements_measure walks left r
  elements-fall r = omega arith

  pub rows-fall : (rows : List WalkRow) (i : ℕ) (r : WalkRow) → i < length rows → r ≡ get_or rows i r → row_measure walks left r < rows_measure walks left rows
  rows-fall rows i r lt is = along (left * step_of walks) (size-WalkRow r) (deepest rows) (row-within rows i r lt is)

  pub arm-falls : (value : Option ℤ) (arms : List Arm) (arm : Arm) (r e : WalkRow) → Some arm ≡ chosen_of value arms → (out-Arm arm).row ≡ Some r → e ≡ r → row_measure walks left e < arms_measure walks left arms
  arm-falls value arms arm r e is has same =
      let lt = in-arm arm r has in
      let le = arm-chosen value arms arm (sym is) in
      let equal = ap size-WalkRow same in
      along (left * step_of walks) (size-WalkRow e) (deepest_arm arms) (omega (arith, lt, le, equal))

  pub walk-falls : (i : ℕ) (rows same : List WalkRow) → 0 < left → Some rows ≡ slice_get walks i → same ≡ rows → rows_measure walks (left - 1) same < walk_measure walks left
  walk-falls i rows same some got is =
      let le = walk-within walks i rows got in
      let equal = ap deepest is in
      nest left (deepest same) (deepest_walk walks) some (omega (arith, le, equal))
