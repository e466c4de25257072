-- The edges of rows, by their forms.
use Rattle.std.proofs.Common.{◌≡◌, ◌∙◌, ℕ, ◌+◌, Bool, [], map, refl, ap, Option, Some, None}
use Rattle.gt_space.specs.Range.{Range}
use Rattle.gt_types.specs.declared.program.Active.{Active}
use Rattle.gt_walk.specs.declared.rows.Count.{Count}
use Rattle.gt_walk.specs.declared.rows.RowExpr.{RowExpr}
use Rattle.gt_walk.specs.declared.rows.Arm.{Arm, out-Arm}
use Rattle.gt_walk.specs.declared.rows.WalkRow.{WalkRow, out-WalkRow}
use Rattle.gt_walk.specs.declared.rows.WalkRow.TheFolds.{fold-Arm, fold_out-WalkRow, fold_out-Arm, map-WalkRow, map-Arm}
use Rattle.gt_walk.specs.declared.rows.WalkRow.TheOpen.{WalkRow-F}
use Rattle.gt_walk.specs.declared.rows.WalkRow.TheVariants as row
use Rattle.gt_walk.specs.declared.rows.WalkRow.TheVariants.{outs-Note, outs-Ptr, outs-Sub, outs-Rep, outs-Tail, outs-Switch}
use Rattle.gt_walk.specs.Rows.{Frame, Gives, row_step, arm_step, row_edges, row_value, length_of, each_edges, pointer_edges, word_at, entered, chosen, arm_edges}

abbrev pub arm_of : Range → (ℕ → Gives) → Arm → Active × Option Gives
arm_of range walks = fold-Arm Gives (Active × Option Gives) (row_step range walks) arm_step

module _ (range : Range) (walks : ℕ → Gives) where
  pub row-layer : (r : WalkRow) (x : WalkRow-F WalkRow Arm) → out-WalkRow r ≡ x
      → row_edges range walks r ≡ row_step range walks (map-WalkRow WalkRow Arm Gives (Active × Option Gives) (row_edges range walks) (arm_of range walks) x)
  row-layer r x e =
      fold_out-WalkRow Gives (Active × Option Gives) (row_step range walks) arm_step r
      ∙ ap (λ y. row_step range walks (map-WalkRow WalkRow Arm Gives (Active × Option Gives) (row_edges range walks) (arm_of range walks) y)) e

  pub note-edges : (size : ℕ) (chain : Option ℕ) (f : Frame) → row_edges range walks (row.Note size chain) f ≡ []
  note-edges size chain f = ap (λ g. g f) (row-layer (row.Note size chain) _ (outs-Note size chain))

  pub ptr-edges : (offset walk : ℕ) (count : Count) (reorder : Bool) (f : Frame)
      → row_edges range walks (row.Ptr offset walk count reorder) f ≡ pointer_edges range f (f.at + offset) walk count (word_at range (f.at + offset))
  ptr-edges offset walk count reorder f = ap (λ g. g f) (row-layer (row.Ptr offset walk count reorder) _ (outs-Ptr offset walk count reorder))

  pub sub-edges : (offset walk : ℕ) (f : Frame) → row_edges range walks (row.Sub offset walk) f ≡ walks walk (entered f offset)
  sub-edges offset walk f = ap (λ g. g f) (row-layer (row.Sub offset walk) _ (outs-Sub offset walk))

  pub rep-edges : (offset n size : ℕ) (elem : WalkRow) (f : Frame) → row_edges range walks (row.Rep offset n size elem) f ≡ each_edges (row_edges range walks elem) f offset size n
  rep-edges offset n size elem f = ap (λ g. g f) (row-layer (row.Rep offset n size elem) _ (outs-Rep offset n size elem))

  pub tail-edges : (offset : ℕ) (len : RowExpr) (size : ℕ) (elem : WalkRow) (f : Frame)
      → row_edges range walks (row.Tail offset len size elem) f ≡ each_edges (row_edges range walks elem) f offset size (length_of (row_value range f len))
  tail-edges offset len size elem f = ap (λ g. g f) (row-layer (row.Tail offset len size elem) _ (outs-Tail offset len size elem))

  pub switch-edges : (desc : RowExpr) (arms : _) (f : Frame)
      → row_edges range walks (row.Switch desc arms) f ≡ arm_edges (chosen (row_value range f desc) (map (arm_of range walks) arms.items)) f
  switch-edges desc arms f = ap (λ g. g f) (row-layer (row.Switch desc arms) _ (outs-Switch desc arms))

  abbrev pub row_gives : Option WalkRow → Option Gives
  row_gives (Some r) = Some (row_edges range walks r)
  row_gives None = None

  arm-layer : (active : Active) (o : Option WalkRow)
      → arm_step (map-Arm WalkRow Arm Gives (Active × Option Gives) (row_edges range walks) (arm_of range walks) (record { active = active; row = o })) ≡ (active, row_gives o)
  arm-layer active None = refl
  arm-layer active (Some r) = refl

  pub arm-is : (arm : Arm) → arm_of range walks arm ≡ ((out-Arm arm).active, row_gives (out-Arm arm).row)
  arm-is arm = fold_out-Arm Gives (Active × Option Gives) (row_step range walks) arm_step arm ∙ arm-layer (out-Arm arm).active (out-Arm arm).row
