-- Rows of plain pointers.
use Rattle.std.proofs.Common.{◌≡◌, ◌∙◌, ℕ, zero, suc, ◌+◌, ◌-◌, ◌++◌, true, cond, List, [], ◌∷◌, refl, sym, ap, Option, Some, None, inl, inr}
use Rattle.std.proofs.lemmas.Bool.{cases_Bool}
use Rattle.gt_space.specs.Range.{Range}
use Rattle.gt_types.specs.declared.program.Active.{Active}
use Rattle.gt_walk.specs.declared.rows.Count.TheVariants.{Fixed, Length}
use Rattle.gt_walk.specs.declared.rows.Arm.{Arm}
use Rattle.gt_walk.specs.declared.rows.WalkRow.{WalkRow, out-WalkRow}
use Rattle.gt_walk.specs.declared.rows.WalkRow.TheFolds.{map-WalkRow}
use Rattle.gt_walk.specs.declared.rows.WalkRow.TheOpen as part
use Rattle.gt_walk.specs.declared.rows.WalkRow.TheOpen.{WalkRow-F}
use Rattle.gt_walk.specs.declared.tables.Tables.{Tables}
use Rattle.gt_walk.specs.Rows.{Frame, Gives, MOST_NESTED, frame_at, row_step, row_edges, walk_edges, pointer_edges, word_at}
use Rattle.gt_walk.specs.ByRows.{after_note, element_edges, is_note, run_edges}
use Rattle.gt_walk.specs.Visiting.{element_row, is_plain, fixed_edges, plain_edges}
use Rattle.gt_walk.proofs.RowEdges.{arm_of, row-layer}
use Rattle.gt_walk.proofs.Visits.{at-place}

pointer-fixed : (range : Range) (f : Frame) (place walk n : ℕ) (o : Option ℕ) → pointer_edges range f place walk (Fixed n) o ≡ fixed_edges place walk n o
pointer-fixed range f place walk n None = refl
pointer-fixed range f place walk n (Some zero) = refl
pointer-fixed range f place walk n (Some (suc target)) = refl

layer-plain : (range : Range) (walks : ℕ → Gives) (x : WalkRow-F WalkRow Arm) (f : Frame) → is_plain x ≡ true
    → row_step range walks (map-WalkRow WalkRow Arm Gives (Active × Option Gives) (row_edges range walks) (arm_of range walks) x) f ≡ plain_edges range f.at x
layer-plain range walks (part.Note size chain) f e = absurd (cc)
layer-plain range walks (part.Ptr offset walk (Fixed n) reorder) f e = pointer-fixed range f (f.at + offset) walk n (word_at range (f.at + offset))
layer-plain range walks (part.Ptr offset walk (Length len) reorder) f e = absurd (cc)
layer-plain range walks (part.Sub offset walk) f e = absurd (cc)
layer-plain range walks (part.Rep offset n size elem) f e = absurd (cc)
layer-plain range walks (part.Tail offset len size elem) f e = absurd (cc)
layer-plain range walks (part.Switch desc arms) f e = absurd (cc)

row-plain : (range : Range) (walks : ℕ → Gives) (r : WalkRow) (f : Frame) → is_plain (out-WalkRow r) ≡ true → row_edges range walks r f ≡ plain_edges range f.at (out-WalkRow r)
row-plain range walks r f e = ap (λ g. g f) (row-layer range walks r (out-WalkRow r) refl) ∙ layer-plain range walks (out-WalkRow r) f e

-- at an element of a block
pub element-plain : (tables : Tables) (range : Range) (at : ℕ) (r : WalkRow) → is_plain (out-WalkRow r) ≡ true → element_row tables range at r ≡ plain_edges range at (out-WalkRow r)
element-plain tables range at r e = row-plain range (walk_edges tables range (MOST_NESTED - 1)) r (frame_at at) e ∙ ap (λ p. plain_edges range p (out-WalkRow r)) (at-place at)

layer-note : (range : Range) (walks : ℕ → Gives) (x : WalkRow-F WalkRow Arm) (f : Frame) → is_note x ≡ true
    → row_step range walks (map-WalkRow WalkRow Arm Gives (Active × Option Gives) (row_edges range walks) (arm_of range walks) x) f ≡ []
layer-note range walks (part.Note size chain) f e = refl
layer-note range walks (part.Ptr offset walk count reorder) f e = absurd (cc)
layer-note range walks (part.Sub offset walk) f e = absurd (cc)
layer-note range walks (part.Rep offset n size elem) f e = absurd (cc)
layer-note range walks (part.Tail offset len size elem) f e = absurd (cc)
layer-note range walks (part.Switch desc arms) f e = absurd (cc)

row-note : (range : Range) (walks : ℕ → Gives) (r : WalkRow) (f : Frame) → is_note (out-WalkRow r) ≡ true → row_edges range walks r f ≡ []
row-note range walks r f e = ap (λ g. g f) (row-layer range walks r (out-WalkRow r) refl) ∙ layer-note range walks (out-WalkRow r) f e

-- a note gives no edge
pub after-note : (tables : Tables) (range : Range) (rows : List WalkRow) (at : ℕ) → element_edges tables range rows at ≡ element_edges tables range (after_note rows) at
after-note tables range [] at = refl
after-note tables range (row ∷ rows) at = elim (cases_Bool (is_note (out-WalkRow row))) [
  | inl note ↦
      ap (λ es. es ++ element_edges tables range rows at) (row-note range (walk_edges tables range (MOST_NESTED - 1)) row (frame_at at) note)
      ∙ ap (λ b. element_edges tables range (cond b rows (row ∷ rows)) at) (sym note)
  | inr other ↦ ap (λ b. element_edges tables range (cond b rows (row ∷ rows)) at) (sym other)
]

pub run-after-note : (tables : Tables) (range : Range) (rows : List WalkRow) (place size n : ℕ) → run_edges (element_edges tables range rows) place size n ≡ run_edges (element_edges tables range (after_note rows)) place size n
run-after-note tables range rows place size zero = refl
run-after-note tables range rows place size (suc n) =
    ap (λ es. es ++ run_edges (element_edges tables range rows) (place + size) size n) (after-note tables range rows place)
    ∙ ap (λ es. element_edges tables range (after_note rows) place ++ es) (run-after-note tables range rows (place + size) size n)
