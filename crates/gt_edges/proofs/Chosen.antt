-- The arm that a value chooses is that of the active member.
use Rattle.std.proofs.Common.{◌≡◌, ℕ, zero, suc, ◌+◌, Bool, true, false, cond, List, [], ◌∷◌, refl, ap, sym, subst, ◌∙◌, Option, Some, None}
use Rattle.std.specs.Prelude.{ℤ, All, slice_get, find}
use Rattle.std.specs.List.{position_from}
use Rattle.std.proofs.lemmas.List.Elements.{All-head, All-tail}
use Rattle.gt_types.specs.declared.program.Active.{Active}
use Rattle.gt_types.specs.declared.program.Field.{Field}
use Rattle.gt_tree.specs.Fits.{is_tag, is_default, first_place, active_member}
use Rattle.gt_space.specs.Range.{Range}
use Rattle.gt_tree.specs.Blocks.{Blocks}
use Rattle.gt_value.specs.declared.sources.Source.{Source}
use Rattle.gt_walk.specs.declared.rows.Arm.{Arm, out-Arm}
use Rattle.gt_walk.specs.declared.tables.Tables.{Tables}
use Rattle.gt_walk.specs.Rows.{Frame, first_some}
use Rattle.gt_walk.specs.Visiting.{chosen_of, arm_at, arm_row}
use Rattle.gt_walk.proofs.Arms.{find-some, find-none}
use Rattle.gt_edges.specs.Walks.{Around as Nodes}
use Rattle.gt_edges.proofs.RowLaws.{RowLaw, ArmsLaw}

-- ---- arms by their places

-- the arm at the first of two places, where it is there
some-chosen : (p q : Arm → Bool) (arms : List Arm) (a b : Option ℕ) (i : ℕ) (arm : Arm) → position_from p 0 arms ≡ a → position_from q 0 arms ≡ b → first_place a b ≡ Some i → slice_get arms i ≡ Some arm
    → first_some (find p arms) (find q arms) ≡ Some arm
some-chosen p q arms (Some k) b i arm e f first got =
    let same : k ≡ i = cc in
    let found : find p arms ≡ Some arm = find-some p arms k (sym e) ∙ ap (slice_get arms) same ∙ got in
    ap (λ o. first_some o (find q arms)) found
some-chosen p q arms None (Some k) i arm e f first got =
    let same : k ≡ i = cc in
    let found : find q arms ≡ Some arm = find-some q arms k (sym f) ∙ ap (slice_get arms) same ∙ got in
    ap (λ o. first_some o (find q arms)) (find-none p arms (sym e)) ∙ found
some-chosen p q arms None None i arm e f first got = absurd (cc)

none-chosen : (p q : Arm → Bool) (arms : List Arm) (a b : Option ℕ) → position_from p 0 arms ≡ a → position_from q 0 arms ≡ b → first_place a b ≡ None → first_some (find p arms) (find q arms) ≡ None
none-chosen p q arms (Some k) b e f first = absurd (cc)
none-chosen p q arms None (Some k) e f first = absurd (cc)
none-chosen p q arms None None e f first = ap (λ o. first_some o (find q arms)) (find-none p arms (sym e)) ∙ find-none q arms (sym f)

-- ---- the arms of a union

module _ (source : Source) (tables : Tables) (blocks : Blocks) (capacity : ℕ) (nodes : Nodes) where
  same-position : (p : Active → Bool) (fields : List Field) (arms : List Arm) (k : ℕ) → ArmsLaw source tables blocks capacity nodes fields arms
      → position_from (λ f. p f.active) k fields ≡ position_from (λ a. p (out-Arm a).active) k arms
  same-position p [] [] k law = refl
  same-position p [] (arm ∷ arms) k law = absurd law
  same-position p (f ∷ fields) [] k law = absurd law
  same-position p (f ∷ fields) (arm ∷ arms) k law =
      ap (λ b. cond b (Some k) (position_from (λ g. p g.active) (k + 1) fields)) (ap p (sym law.0))
      ∙ ap (cond (p (out-Arm arm).active) (Some k)) (same-position p fields arms (k + 1) law.2)

  same-active : (value : Option ℤ) (fields : List Field) (arms : List Arm) → ArmsLaw source tables blocks capacity nodes fields arms
      → active_member value fields ≡ first_place (position_from (λ a. is_tag value (out-Arm a).active) 0 arms) (position_from (λ a. is_default (out-Arm a).active) 0 arms)
  same-active value fields arms law =
      ap (λ o. first_place o (position_from (λ f. is_default f.active) 0 fields)) (same-position (is_tag value) fields arms 0 law)
      ∙ ap (first_place (position_from (λ a. is_tag value (out-Arm a).active) 0 arms)) (same-position is_default fields arms 0 law)

  pub arm-there : (fields : List Field) (arms : List Arm) (i : ℕ) (f : Field) → ArmsLaw source tables blocks capacity nodes fields arms → slice_get fields i ≡ Some f
      → (arm : Arm) × (slice_get arms i ≡ Some arm) × RowLaw source tables blocks capacity nodes f.ty 0 (out-Arm arm).row
  arm-there [] arms i f law got = absurd (cc)
  arm-there (g ∷ fields) [] i f law got = absurd law
  arm-there (g ∷ fields) (arm ∷ arms) zero f law got =
      let same : g ≡ f = cc in
      (arm, refl, subst (λ h. RowLaw source tables blocks capacity nodes h.ty 0 (out-Arm arm).row) same law.1)
  arm-there (g ∷ fields) (arm ∷ arms) (suc i) f law got = arm-there fields arms i f law.2 got

  -- the arm of the active member is chosen, and none where none is active
  pub chosen-member : (value : Option ℤ) (fields : List Field) (arms : List Arm) (i : ℕ) (arm : Arm) → ArmsLaw source tables blocks capacity nodes fields arms → active_member value fields ≡ Some i
      → slice_get arms i ≡ Some arm → chosen_of value arms ≡ Some arm
  chosen-member value fields arms i arm law active got =
      some-chosen (λ a. is_tag value (out-Arm a).active) (λ a. is_default (out-Arm a).active) arms _ _ i arm refl refl (sym (same-active value fields arms law) ∙ active) got

  pub chosen-nothing : (value : Option ℤ) (fields : List Field) (arms : List Arm) → ArmsLaw source tables blocks capacity nodes fields arms → active_member value fields ≡ None → chosen_of value arms ≡ None
  chosen-nothing value fields arms law active =
      none-chosen (λ a. is_tag value (out-Arm a).active) (λ a. is_default (out-Arm a).active) arms _ _ refl refl (sym (same-active value fields arms law) ∙ active)

-- ---- arms without rows

cond-found : {X : Type 0} (P : X → Type 0) (b : Bool) (x y : X) (rest : Option X) → P x → (rest ≡ Some y → P y) → cond b (Some x) rest ≡ Some y → P y
cond-found P true x y rest here later e = let same : x ≡ y = cc in subst P same here
cond-found P false x y rest here later e = later e

found-all : {X : Type 0} (P : X → Type 0) (p : X → Bool) (xs : List X) (y : X) → All P xs → find p xs ≡ Some y → P y
found-all P p [] y all e = absurd (cc)
found-all P p (x ∷ xs) y all e = cond-found P (p x) x y (find p xs) (All-head P x xs all) (found-all P p xs y (All-tail P x xs all)) e

first-all : {X : Type 0} (P : X → Type 0) (a b : Option X) (y : X) → ((x : X) → a ≡ Some x → P x) → ((x : X) → b ≡ Some x → P x) → first_some a b ≡ Some y → P y
first-all P (Some x) b y f g e = f y e
first-all P None b y f g e = g y e

abbrev pub IsSilent : Arm → Type 0
IsSilent arm = (out-Arm arm).row ≡ None

silent-at : (tables : Tables) (range : Range) (depth : ℕ) (o : Option Arm) (f : Frame) → ((arm : Arm) → o ≡ Some arm → IsSilent arm) → arm_at tables range depth o f ≡ []
silent-at tables range depth None f silent = refl
silent-at tables range depth (Some arm) f silent = ap (λ r. arm_row tables range depth r f) (silent arm refl)

pub silent-arms : (tables : Tables) (range : Range) (depth : ℕ) (value : Option ℤ) (arms : List Arm) (f : Frame) → All IsSilent arms → arm_at tables range depth (chosen_of value arms) f ≡ []
silent-arms tables range depth value arms f all =
    silent-at tables range depth (chosen_of value arms) f (λ arm e.
    first-all IsSilent (find (λ a. is_tag value (out-Arm a).active) arms) (find (λ a. is_default (out-Arm a).active) arms) arm
    (λ x h. found-all IsSilent (λ a. is_tag value (out-Arm a).active) arms x all h) (λ x h. found-all IsSilent (λ a. is_default (out-Arm a).active) arms x all h) e)
