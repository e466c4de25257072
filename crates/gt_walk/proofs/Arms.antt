-- The arm of a value, and its edges.
use Rattle.std.proofs.Common.{suc, ◌≡◌, ◌∙◌, ℕ, ◌+◌, Bool, true, false, cond, List, [], ◌∷◌, map, refl, sym, ap, Option, Some, None, arith}
use Rattle.std.specs.Prelude.{ℤ, find, slice_get}
use Rattle.std.specs.List.{position_from}
use Rattle.gt_space.specs.Range.{Range}
use Rattle.gt_tree.specs.Fits.{is_tag, is_default}
use Rattle.gt_walk.specs.declared.rows.Arm.{Arm, out-Arm}
use Rattle.gt_walk.specs.declared.rows.WalkRow.{WalkRow}
use Rattle.gt_walk.specs.declared.tables.Tables.{Tables}
use Rattle.gt_walk.specs.Rows.{Frame, Gives, walk_edges, first_some, chosen, given_arm, arm_edges}
use Rattle.gt_walk.specs.Visiting.{chosen_of, arm_row, arm_at}
use Rattle.gt_walk.proofs.RowEdges.{arm_of, arm-is, row_gives}

-- ---- the first element that passes, by its place

cond-none : {X Y : Type 0} (b : Bool) (x : X) (y : Y) (r : Option X) (o : Option Y) → cond b (Some y) o ≡ None → (o ≡ None → r ≡ None) → cond b (Some x) r ≡ None
cond-none true x y r o e h = absurd (cc)
cond-none false x y r o e h = h e

none-from : {X : Type 0} (p : X → Bool) (xs : List X) (k : ℕ) → position_from p k xs ≡ None → find p xs ≡ None
none-from p [] k e = refl
none-from p (x ∷ xs) k e = cond-none (p x) x k (find p xs) (position_from p (k + 1) xs) e (none-from p xs (k + 1))

pub find-none : {X : Type 0} (p : X → Bool) (xs : List X) → None ≡ position_from p 0 xs → find p xs ≡ None
find-none p xs e = none-from p xs 0 (sym e)

found-from : {X : Type 0} (p : X → Bool) (xs : List X) (from place : ℕ) → position_from p from xs ≡ Some place → (i : ℕ) × (place ≡ from + i) × (find p xs ≡ slice_get xs i)
found-from p [] from place e = absurd (cc)
found-from {X} p (y ∷ ys) from place e = go (p y) (found-from p ys (from + 1) place) e
  where
    go : (b : Bool) → (position_from p (from + 1) ys ≡ Some place → (i : ℕ) × (place ≡ from + 1 + i) × (find p ys ≡ slice_get ys i))
        → cond b (Some from) (position_from p (from + 1) ys) ≡ Some place → (i : ℕ) × (place ≡ from + i) × (cond b (Some y) (find p ys) ≡ slice_get (y ∷ ys) i)
    go true later e = let same : from ≡ place = cc in (0, omega (arith, same), refl)
    go false later e = let found = later e in (suc found.0, omega (arith, found.1), found.2)

pub find-some : {X : Type 0} (p : X → Bool) (xs : List X) (i : ℕ) → Some i ≡ position_from p 0 xs → find p xs ≡ slice_get xs i
find-some p xs i e =
    let found = found-from p xs 0 i (sym e) in
    let same : found.0 ≡ i = omega (arith, found.1) in
    found.2 ∙ ap (slice_get xs) same

-- ---- the arms of a fold

abbrev option_of : {X Y : Type 0} → (X → Y) → Option X → Option Y
option_of h (Some x) = Some (h x)
option_of h None = None

cond-map : {X Y : Type 0} (h : X → Y) (b : Bool) (x : X) (o : Option X) (r : Option Y) → r ≡ option_of h o → cond b (Some (h x)) r ≡ option_of h (cond b (Some x) o)
cond-map h true x o r e = refl
cond-map h false x o r e = e

find-map : {X Y : Type 0} (h : X → Y) (p : X → Bool) (q : Y → Bool) → ((x : X) → q (h x) ≡ p x) → (xs : List X) → find q (map h xs) ≡ option_of h (find p xs)
find-map h p q same [] = refl
find-map h p q same (x ∷ xs) = ap (λ b. cond b (Some (h x)) (find q (map h xs))) (same x) ∙ cond-map h (p x) x (find p xs) (find q (map h xs)) (find-map h p q same xs)

first-map : {X Y : Type 0} (h : X → Y) (a b : Option X) → first_some (option_of h a) (option_of h b) ≡ option_of h (first_some a b)
first-map h (Some x) b = refl
first-map h None b = refl

module _ (range : Range) (walks : ℕ → Gives) where
  chosen-map : (value : Option ℤ) (arms : List Arm) → chosen value (map (arm_of range walks) arms) ≡ option_of (arm_of range walks) (chosen_of value arms)
  chosen-map value arms =
      let tag = find-map (arm_of range walks) (λ a. is_tag value (out-Arm a).active) (λ arm. is_tag value arm.0) (λ a. ap (λ x. is_tag value x.0) (arm-is range walks a)) arms in
      let default = find-map (arm_of range walks) (λ a. is_default (out-Arm a).active) (λ arm. is_default arm.0) (λ a. ap (λ x. is_default x.0) (arm-is range walks a)) arms in
      ap (λ o. first_some o (find (λ arm. is_default arm.0) (map (arm_of range walks) arms))) tag
      ∙ ap (first_some (option_of (arm_of range walks) (find (λ a. is_tag value (out-Arm a).active) arms))) default
      ∙ first-map (arm_of range walks) (find (λ a. is_tag value (out-Arm a).active) arms) (find (λ a. is_default (out-Arm a).active) arms)

module _ (tables : Tables) (range : Range) (left : ℕ) where
  row-given : (o : Option WalkRow) (f : Frame) → given_arm (row_gives range (walk_edges tables range left) o) f ≡ arm_row tables range left o f
  row-given (Some r) f = refl
  row-given None f = refl

  arm-given : (o : Option Arm) (f : Frame) → arm_edges (option_of (arm_of range (walk_edges tables range left)) o) f ≡ arm_at tables range left o f
  arm-given (Some arm) f = ap (λ x. given_arm x.1 f) (arm-is range (walk_edges tables range left) arm) ∙ row-given (out-Arm arm).row f
  arm-given None f = refl

  -- the edges of the arm that a value chooses
  pub arm-chosen : (value : Option ℤ) (arms : List Arm) (f : Frame) → arm_edges (chosen value (map (arm_of range (walk_edges tables range left)) arms)) f ≡ arm_at tables range left (chosen_of value arms) f
  arm-chosen value arms f = ap (λ o. arm_edges o f) (chosen-map range (walk_edges tables range left) value arms) ∙ arm-given (chosen_of value arms) f
