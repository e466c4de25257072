-- What lies at the end of the space or after it gives no edge.
use Rattle.std.proofs.Common.{suc, zero, ◌≡◌, ◌∙◌, ℕ, ◌+◌, ◌≤◌, ◌<◌, Bool, true, false, cond, ◌&&◌, nat_le, List, [], ◌∷◌, ◌++◌, map, length, refl, ap, subst, Option, Some, None, arith}
use Rattle.std.specs.Prelude.{find, flat_map}
use Rattle.gt_space.specs.Range.{Range}
use Rattle.gt_space.specs.Numbers.{u64_at}
use Rattle.gt_types.specs.declared.program.Active.{Active}
use Rattle.gt_tree.specs.Fits.{is_tag, is_default}
use Rattle.gt_walk.specs.declared.rows.Count.{Count}
use Rattle.gt_walk.specs.declared.rows.Arm.{Arm, roll-Arm}
use Rattle.gt_walk.specs.declared.rows.WalkRow.{WalkRow, roll-WalkRow}
use Rattle.gt_walk.specs.declared.rows.WalkRow.TheFolds.{fold-roll-WalkRow, fold-roll-Arm, ind-WalkRow, map-WalkRow, map-Arm}
use Rattle.gt_walk.specs.declared.rows.WalkRow.TheOpen as part
use Rattle.gt_walk.specs.declared.rows.WalkRow.TheOpen.{WalkRow-F, Arm-F}
use Rattle.gt_walk.specs.declared.tables.Tables.{Tables}
use Rattle.gt_walk.specs.Rows.{Edge, Frame, Gives, row_step, arm_step, row_edges, walk_edges, rows_of, row_value, length_of, each_edges, pointer_edges, word_at, entered, first_some, given_arm, arm_edges}
use Rattle.gt_walk.specs.Visiting.{rows_at, stood}
use Rattle.gt_walk.proofs.Runs.{each-run, run-silent}
use Rattle.gt_walk.proofs.RowEdges.{arm_of}

-- ---- where there is no word

le-false : (a b : ℕ) → b < a → nat_le a b ≡ false
le-false a b lt = grind (arith, lt)

both-false : (a b : Bool) → b ≡ false → (a && b) ≡ false
both-false true b e = e
both-false false b e = refl

pub word-past : (range : Range) (address : ℕ) → range.start + length range.bytes ≤ address → word_at range address ≡ None
word-past range address le =
    let lt : range.start + length range.bytes < address + 8 = omega (arith, le) in
    ap (λ b. cond b (Some (u64_at range address)) None) (both-false (nat_le range.start address) (nat_le (address + 8) (range.start + length range.bytes)) (le-false (address + 8) (range.start + length range.bytes) lt))

-- ---- rows

-- no edges from a frame at the end of the space or after it
abbrev pub Silent : Range → Gives → Type 0
Silent range gives = (f : Frame) → range.start + length range.bytes ≤ f.at → gives f ≡ []

pub flat-none : {X : Type 0} (g : X → List Edge) → ((x : X) → g x ≡ []) → (xs : List X) → flat_map g xs ≡ []
flat-none g none [] = refl
flat-none g none (x ∷ xs) = ap (λ ys. ys ++ flat_map g xs) (none x) ∙ flat-none g none xs

each-silent : (range : Range) (elem : Gives) → Silent range elem → (f : Frame) (bytes size n : ℕ) → range.start + length range.bytes ≤ f.at → each_edges elem f bytes size n ≡ []
each-silent range elem silent f bytes size n le =
    let at : range.start + length range.bytes ≤ f.at + bytes = omega (arith, le) in
    each-run elem f bytes size n ∙ run-silent (λ p. elem (stood f p)) (range.start + length range.bytes) (λ p h. silent (stood f p) h) (f.at + bytes) size n at

pointer-none : (range : Range) (f : Frame) (place walk : ℕ) (count : Count) (o : Option ℕ) → o ≡ None → pointer_edges range f place walk count o ≡ []
pointer-none range f place walk count o e = ap (pointer_edges range f place walk count) e

module _ (range : Range) (walks : ℕ → Gives) (silent : (walk : ℕ) → Silent range (walks walk)) where
  abbrev SilentRow : WalkRow → Type 0
  SilentRow r = Silent range (row_edges range walks r)

  abbrev SilentArm : Arm → Type 0
  SilentArm a = Silent range (given_arm (arm_of range walks a).1)

  cond-silent : (b : Bool) (arm : Active × Option Gives) (o : Option (Active × Option Gives)) (f : Frame) → given_arm arm.1 f ≡ [] → arm_edges o f ≡ [] → arm_edges (cond b (Some arm) o) f ≡ []
  cond-silent true arm o f e h = e
  cond-silent false arm o f e h = h

  find-silent : (p : Active × Option Gives → Bool) (arms : List ((a : Arm) × SilentArm a)) (f : Frame) → range.start + length range.bytes ≤ f.at → arm_edges (find p (map (arm_of range walks) (map (λ a. a.0) arms))) f ≡ []
  find-silent p [] f le = refl
  find-silent p (a ∷ arms) f le =
      cond-silent (p (arm_of range walks a.0)) (arm_of range walks a.0) (find p (map (arm_of range walks) (map (λ x. x.0) arms))) f (a.1 f le) (find-silent p arms f le)

  first-silent : (a b : Option (Active × Option Gives)) (f : Frame) → arm_edges a f ≡ [] → arm_edges b f ≡ [] → arm_edges (first_some a b) f ≡ []
  first-silent (Some x) b f e h = e
  first-silent None b f e h = h

  row-layer : (y : WalkRow-F ((r : WalkRow) × SilentRow r) ((a : Arm) × SilentArm a))
      → Silent range (row_step range walks (map-WalkRow WalkRow Arm Gives (Active × Option Gives) (row_edges range walks) (arm_of range walks) (map-WalkRow ((r : WalkRow) × SilentRow r) ((a : Arm) × SilentArm a) WalkRow Arm (λ r. r.0) (λ a. a.0) y)))
  row-layer (part.Note size chain) f le = refl
  row-layer (part.Ptr offset walk count reorder) f le =
      let at : range.start + length range.bytes ≤ f.at + offset = omega (arith, le) in
      pointer-none range f (f.at + offset) walk count (word_at range (f.at + offset)) (word-past range (f.at + offset) at)
  row-layer (part.Sub offset walk) f le =
      let at : range.start + length range.bytes ≤ f.at + offset = omega (arith, le) in
      silent walk (entered f offset) at
  row-layer (part.Rep offset n size elem) f le = each-silent range (row_edges range walks elem.0) elem.1 f offset size n le
  row-layer (part.Tail offset len size elem) f le = each-silent range (row_edges range walks elem.0) elem.1 f offset size (length_of (row_value range f len)) le
  row-layer (part.Switch desc arms) f le =
      first-silent (find (λ arm. is_tag (row_value range f desc) arm.0) (map (arm_of range walks) (map (λ a. a.0) arms.items))) (find (λ arm. is_default arm.0) (map (arm_of range walks) (map (λ a. a.0) arms.items))) f
      (find-silent (λ arm. is_tag (row_value range f desc) arm.0) arms.items f le) (find-silent (λ arm. is_default arm.0) arms.items f le)

  arm-layer : (active : Active) (o : Option ((r : WalkRow) × SilentRow r))
      → Silent range (given_arm (arm_step (map-Arm WalkRow Arm Gives (Active × Option Gives) (row_edges range walks) (arm_of range walks) (map-Arm ((r : WalkRow) × SilentRow r) ((a : Arm) × SilentArm a) WalkRow Arm (λ r. r.0) (λ a. a.0) (record { active = active; row = o })))).1)
  arm-layer active None f le = refl
  arm-layer active (Some r) f le = r.1 f le

  pub row-silent : (r : WalkRow) → Silent range (row_edges range walks r)
  row-silent =
      ind-WalkRow SilentRow SilentArm (λ x y is. subst (λ z. SilentRow (roll-WalkRow z)) is (λ f le. ap (λ g. g f) (fold-roll-WalkRow Gives (Active × Option Gives) (row_step range walks) arm_step _) ∙ row-layer y f le))
      (λ x y is. subst (λ z. SilentArm (roll-Arm z)) is (λ f le. ap (λ g. given_arm g.1 f) (fold-roll-Arm Gives (Active × Option Gives) (row_step range walks) arm_step _) ∙ arm-layer y.active y.row f le))

pub walk-silent : (tables : Tables) (range : Range) (depth walk : ℕ) → Silent range (walk_edges tables range depth walk)
walk-silent tables range zero walk f le = refl
walk-silent tables range (suc depth) walk f le =
    flat-none (λ r. row_edges range (walk_edges tables range depth) r f) (λ r. row-silent range (walk_edges tables range depth) (walk-silent tables range depth) r f le) (rows_of tables walk)

pub rows-silent : (tables : Tables) (range : Range) (left : ℕ) (rows : List WalkRow) → Silent range (rows_at tables range left rows)
rows-silent tables range left rows f le =
    flat-none (λ r. row_edges range (walk_edges tables range left) r f) (λ r. row-silent range (walk_edges tables range left) (walk-silent tables range left) r f le) rows
