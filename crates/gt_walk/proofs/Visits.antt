-- The edges of rows and of walks, as a visit goes through them.
use Rattle.std.proofs.Common.{◌≡◌, ◌∙◌, ℕ, zero, suc, ◌+◌, ◌-◌, ◌*◌, ◌≤◌, ◌<◌, List, [], ◌∷◌, ◌++◌, length, drop, get_or, refl, sym, ap, subst, Option, Some, None, arith}
use Rattle.std.specs.Prelude.{ℤ, slice_get, slice_index_or}
use Rattle.std.specs.List.{range_with_len}
use Rattle.std.proofs.lemmas.List.{append-nil, drop_more}
use Rattle.gt_space.specs.Range.{Range}
use Rattle.gt_walk.specs.declared.rows.Arm.{Arm, out-Arm}
use Rattle.gt_walk.specs.declared.rows.RowExpr.{RowExpr}
use Rattle.gt_walk.specs.declared.rows.WalkRow.{WalkRow}
use Rattle.gt_walk.specs.declared.rows.WalkRow.TheVariants as row
use Rattle.gt_walk.specs.declared.tables.Tables.{Tables}
use Rattle.gt_walk.specs.Rows.{Frame, MOST_NESTED, frame_at, row_edges, walk_edges, rows_of, row_value, length_of, size_in_note, edges_of}
use Rattle.gt_walk.specs.ByRows.{run_edges, element_edges}
use Rattle.gt_walk.specs.Visiting.{row_at, rows_at, stood, chosen_of, arm_at, arm_row}
use Rattle.gt_walk.proofs.Runs.{each-run, run-from, run-silent}
use Rattle.gt_walk.proofs.RowEdges.{rep-edges, tail-edges, switch-edges}
use Rattle.gt_walk.proofs.Arms.{arm-chosen}
use Rattle.gt_walk.proofs.Silence.{flat-none, row-silent, rows-silent, walk-silent}

pub get-index : {X : Type 0} (xs : List X) (i : ℕ) (x d : X) → Some x ≡ slice_get xs i → slice_index_or xs i d ≡ x
get-index [] i x d e = absurd (cc)
get-index (y ∷ ys) zero x d e = cc
get-index (y ∷ ys) (suc i) x d e = get-index ys i x d e

pub none-index : {X : Type 0} (xs : List X) (i : ℕ) (d : X) → slice_get xs i ≡ None → slice_index_or xs i d ≡ d
none-index [] i d e = refl
none-index (y ∷ ys) zero d e = absurd (cc)
none-index (y ∷ ys) (suc i) d e = none-index ys i d e

pub at-place : (address : ℕ) → (frame_at address).at ≡ address
at-place zero = refl
at-place (suc n) = refl

module _ (tables : Tables) (range : Range) where
  pub rep-run : (left : ℕ) (r : WalkRow) (offset n size : ℕ) (elem e : WalkRow) (f : Frame) → r ≡ row.Rep offset n size elem → e ≡ elem
      → row_at tables range left r f ≡ run_edges (λ p. row_at tables range left e (stood f p)) (f.at + offset) size n
  rep-run left r offset n size elem e f is same =
      ap (λ x. row_at tables range left x f) is ∙ rep-edges range (walk_edges tables range left) offset n size elem f ∙ each-run (row_edges range (walk_edges tables range left) elem) f offset size n
      ∙ ap (λ x. run_edges (λ p. row_at tables range left x (stood f p)) (f.at + offset) size n) (sym same)

  pub tail-run : (left : ℕ) (r : WalkRow) (offset : ℕ) (len : RowExpr) (size : ℕ) (elem e : WalkRow) (m : ℕ) (f : Frame) → r ≡ row.Tail offset len size elem → e ≡ elem → m ≡ length_of (row_value range f len)
      → row_at tables range left r f ≡ run_edges (λ p. row_at tables range left e (stood f p)) (f.at + offset) size m
  tail-run left r offset len size elem e m f is same long =
      ap (λ x. row_at tables range left x f) is ∙ tail-edges range (walk_edges tables range left) offset len size elem f
      ∙ each-run (row_edges range (walk_edges tables range left) elem) f offset size (length_of (row_value range f len))
      ∙ ap (run_edges (λ p. row_at tables range left elem (stood f p)) (f.at + offset) size) (sym long) ∙ ap (λ x. run_edges (λ p. row_at tables range left x (stood f p)) (f.at + offset) size m) (sym same)

  pub switch-arm : (left : ℕ) (r : WalkRow) (desc : RowExpr) (arms : _) (value : Option ℤ) (items : List Arm) (f : Frame) → r ≡ row.Switch desc arms → items ≡ arms.items → value ≡ row_value range f desc
      → row_at tables range left r f ≡ arm_at tables range left (chosen_of value items) f
  switch-arm left r desc arms value items f is same worth =
      ap (λ x. row_at tables range left x f) is ∙ switch-edges range (walk_edges tables range left) desc arms f ∙ arm-chosen tables range left (row_value range f desc) arms.items f
      ∙ ap (λ v. arm_at tables range left (chosen_of v arms.items) f) (sym worth) ∙ ap (λ xs. arm_at tables range left (chosen_of value xs) f) (sym same)

  pub walk-rows : (left walk : ℕ) (rows same : List WalkRow) (f : Frame) → 0 < left → Some rows ≡ slice_get tables.walks walk → same ≡ rows → walk_edges tables range left walk f ≡ rows_at tables range (left - 1) same f
  walk-rows left walk rows same f some got is =
      let more : left ≡ suc (left - 1) = omega (arith, some) in
      ap (λ d. walk_edges tables range d walk f) more ∙ ap (λ xs. rows_at tables range (left - 1) xs f) (get-index tables.walks walk rows [] got ∙ sym is)

  pub walk-none : (left walk : ℕ) (f : Frame) → slice_get tables.walks walk ≡ None → walk_edges tables range left walk f ≡ []
  walk-none zero walk f e = refl
  walk-none (suc d) walk f e = ap (λ xs. rows_at tables range d xs f) (none-index tables.walks walk [] e)

  -- elements at the end of the space or after it give no edges
  pub elements-silent : (left : ℕ) (r : WalkRow) (f : Frame) (place size n : ℕ) → range.start + length range.bytes ≤ place → run_edges (λ p. row_at tables range left r (stood f p)) place size n ≡ []
  elements-silent left r f place size n le =
      run-silent (λ p. row_at tables range left r (stood f p)) (range.start + length range.bytes) (λ p h. row-silent range (walk_edges tables range left) (walk-silent tables range left) r (stood f p) h) place size n le

  -- the first of the rows that are left
  pub rows-first : (left : ℕ) (rows : List WalkRow) (i : ℕ) (r : WalkRow) (f : Frame) → i < length rows → r ≡ get_or rows i r
      → rows_at tables range left (drop i rows) f ≡ row_at tables range left r f ++ rows_at tables range left (drop (i + 1) rows) f
  rows-first left rows i r f lt is = ap (λ xs. rows_at tables range left xs f) (drop_more rows i r lt ∙ ap (λ y. y ∷ drop (i + 1) rows) (sym is))

  pub arm-edges : (left : ℕ) (value : Option ℤ) (arms : List Arm) (arm : Arm) (r e : WalkRow) (f : Frame) → Some arm ≡ chosen_of value arms → (out-Arm arm).row ≡ Some r → e ≡ r
      → arm_at tables range left (chosen_of value arms) f ≡ row_at tables range left e f
  arm-edges left value arms arm r e f is has same =
      ap (λ o. arm_at tables range left o f) (sym is) ∙ ap (λ o. arm_row tables range left o f) has ∙ ap (λ x. row_at tables range left x f) (sym same)

  -- ---- blocks

  pub element-silent : (rows : List WalkRow) (place : ℕ) → range.start + length range.bytes ≤ place → element_edges tables range rows place ≡ []
  element-silent rows place le = rows-silent tables range (MOST_NESTED - 1) rows (frame_at place) (subst (λ q. range.start + length range.bytes ≤ q) (sym (at-place place)) le)

  pub block-silent : (rows : List WalkRow) (place size n : ℕ) → range.start + length range.bytes ≤ place → run_edges (element_edges tables range rows) place size n ≡ []
  block-silent rows place size n le = run-silent (element_edges tables range rows) (range.start + length range.bytes) (element-silent rows) place size n le

  pub block-none : (walk count address : ℕ) → slice_get tables.walks walk ≡ None → edges_of tables walk count range address ≡ []
  block-none walk count address e =
      flat-none (λ i. walk_edges tables range MOST_NESTED walk (frame_at (address + i * size_in_note (rows_of tables walk)))) (λ i. walk-none MOST_NESTED walk (frame_at (address + i * size_in_note (rows_of tables walk))) e) (range_with_len 0 count)

  -- the elements of a walk, by its rows
  pub edges-run : (walk count address : ℕ) → edges_of tables walk count range address ≡ run_edges (element_edges tables range (rows_of tables walk)) address (size_in_note (rows_of tables walk)) count
  edges-run walk count address =
      let size = size_in_note (rows_of tables walk) in
      run-from (λ i. walk_edges tables range MOST_NESTED walk (frame_at (address + i * size))) (element_edges tables range (rows_of tables walk)) address size (λ i. refl) count

  pub edges-rows : (walk count address : ℕ) (rows : List WalkRow) → rows ≡ rows_of tables walk → edges_of tables walk count range address ≡ run_edges (element_edges tables range rows) address (size_in_note rows) count
  edges-rows walk count address rows same =
      edges-run walk count address ∙ ap (λ xs. run_edges (element_edges tables range xs) address (size_in_note xs) count) (sym same)

  pub rows-found : (walk : ℕ) (rows same : List WalkRow) → Some rows ≡ slice_get tables.walks walk → same ≡ rows → same ≡ rows_of tables walk
  rows-found walk rows same got is = is ∙ sym (get-index tables.walks walk rows [] got)

  -- a block with one element
  pub run-single : (rows : List WalkRow) (address size count : ℕ) → count ≡ 1 → run_edges (element_edges tables range rows) address size count ≡ element_edges tables range rows address
  run-single rows address size count one = ap (run_edges (element_edges tables range rows) address size) one ∙ append-nil (element_edges tables range rows address)
