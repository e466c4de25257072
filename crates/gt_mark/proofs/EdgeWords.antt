-- Each edge was read at its place.
use Rattle.std.proofs.Common.{◌≡◌, ℕ, zero, suc, ◌+◌, ◌*◌, ◌<◌, ◌≤◌, Bool, true, false, cond, List, [], ◌∷◌, length, get_or, map, Option, Some, None, refl, subst, inl, inr, arith}
use Rattle.std.specs.Prelude.{Contains, find, flat_map}
use Rattle.std.specs.List.{range_with_len}
use Rattle.std.proofs.lemmas.List.Elements.{Contains-append_cases}
use Rattle.gt_space.specs.Range.{Range}
use Rattle.gt_walk.specs.declared.rows.Count.{Count}
use Rattle.gt_walk.specs.declared.rows.Arm.{Arm, roll-Arm}
use Rattle.gt_walk.specs.declared.rows.WalkRow.{WalkRow, roll-WalkRow}
use Rattle.gt_walk.specs.declared.rows.WalkRow.TheFolds.{fold-Arm, fold-roll-WalkRow, fold-roll-Arm, ind-WalkRow, map-WalkRow, map-Arm}
use Rattle.gt_walk.specs.declared.rows.WalkRow.TheOpen as part
use Rattle.gt_walk.specs.declared.rows.WalkRow.TheOpen.{WalkRow-F, Arm-F}
use Rattle.gt_walk.specs.declared.tables.Tables.{Tables}
use Rattle.gt_walk.specs.Rows.{Edge, Frame, Gives, MOST_NESTED, row_step, arm_step, row_edges, walk_edges, rows_of, row_value, length_of, each_edges, edge, edges_of, count_of, frame_at, moved, pointer_edges, size_in_note, word_at, entered, first_some, given_arm, arm_edges}

-- the bytes at the place of the edge are its target
abbrev pub IsRead : Range → Edge → Type 0
IsRead range e = word_at range e.place ≡ Some e.target

-- each edge was read
abbrev pub AreRead : Range → Gives → Type 0
AreRead range gives = (f : Frame) (e : Edge) → Contains (gives f) e → IsRead range e

no_edge : {P : Type 0} (e : Edge) → Contains [] e → P
no_edge e there = absurd (let no : 1 ≤ 0 = omega (arith, there.1) in omega (arith, no))

flat-read : {X : Type 0} (range : Range) (g : X → List Edge) → ((x : X) (e : Edge) → Contains (g x) e → IsRead range e) → (xs : List X) (e : Edge) → Contains (flat_map g xs) e → IsRead range e
flat-read range g each [] e there = no_edge e there
flat-read range g each (x ∷ xs) e there = elim (Contains-append_cases (g x) (flat_map g xs) e there) [
  | inl here ↦ each x e here
  | inr later ↦ flat-read range g each xs e later
]

each-read : (range : Range) (elem : Gives) → AreRead range elem → (f : Frame) (bytes size n : ℕ) (e : Edge) → Contains (each_edges elem f bytes size n) e → IsRead range e
each-read range elem read f bytes size n e there = flat-read range (λ i. elem (moved f (bytes + i * size))) (λ i x here. read (moved f (bytes + i * size)) x here) (range_with_len 0 n) e there

only-read : (range : Range) (x e : Edge) → IsRead range x → (k : ℕ) → k < length (x ∷ []) → get_or (x ∷ []) k e ≡ e → IsRead range e
only-read range x e read zero low is = subst (IsRead range) is read
only-read range x e read (suc k) low is = absurd (let no : 1 ≤ 0 = omega (arith, low) in omega (arith, no))

pointer-read : (range : Range) (f : Frame) (place walk : ℕ) (count : Count) (o : Option ℕ) → word_at range place ≡ o → (e : Edge) → Contains (pointer_edges range f place walk count o) e → IsRead range e
pointer-read range f place walk count None is e there = no_edge e there
pointer-read range f place walk count (Some zero) is e there = no_edge e there
pointer-read range f place walk count (Some (suc target)) is e there =
    only-read range (edge place (suc target) walk (count_of range f count)) e is there.0 there.1 there.2

module _ (range : Range) (walks : ℕ → Gives) (read : (walk : ℕ) → AreRead range (walks walk)) where
  abbrev ReadRow : WalkRow → Type 0
  ReadRow r = AreRead range (row_edges range walks r)

  abbrev ReadArm : Arm → Type 0
  ReadArm a = AreRead range (given_arm (fold-Arm Gives _ (row_step range walks) arm_step a).1)

  abbrev AreReadIn : List Edge → Type 0
  AreReadIn es = (e : Edge) → Contains es e → IsRead range e

  cond-read : (b : Bool) (arm : _) (o : _) (f : Frame) → AreReadIn (arm_edges (Some arm) f) → AreReadIn (arm_edges o f) → AreReadIn (arm_edges (cond b (Some arm) o) f)
  cond-read true arm o f here later = here
  cond-read false arm o f here later = later

  find-read : (p : _) (arms : List ((a : Arm) × ReadArm a)) (f : Frame) → AreReadIn (arm_edges (find p (map (fold-Arm Gives _ (row_step range walks) arm_step) (map (λ a. a.0) arms))) f)
  find-read p [] f e there = no_edge e there
  find-read p (a ∷ arms) f e there =
      cond-read (p (fold-Arm Gives _ (row_step range walks) arm_step a.0)) (fold-Arm Gives _ (row_step range walks) arm_step a.0) (find p (map (fold-Arm Gives _ (row_step range walks) arm_step) (map (λ x. x.0) arms))) f (a.1 f) (find-read p arms f) e there

  first-read : (a b : _) (f : Frame) → AreReadIn (arm_edges a f) → AreReadIn (arm_edges b f) → AreReadIn (arm_edges (first_some a b) f)
  first-read (Some x) b f here other = here
  first-read None b f here other = other

  pick-read : (p q : _) (arms : List ((a : Arm) × ReadArm a)) (f : Frame)
      → AreReadIn (arm_edges (first_some (find p (map (fold-Arm Gives _ (row_step range walks) arm_step) (map (λ a. a.0) arms))) (find q (map (fold-Arm Gives _ (row_step range walks) arm_step) (map (λ a. a.0) arms)))) f)
  pick-read p q arms f =
      first-read (find p (map (fold-Arm Gives _ (row_step range walks) arm_step) (map (λ a. a.0) arms))) (find q (map (fold-Arm Gives _ (row_step range walks) arm_step) (map (λ a. a.0) arms))) f
      (find-read p arms f) (find-read q arms f)

  row-layer : (y : WalkRow-F ((r : WalkRow) × ReadRow r) ((a : Arm) × ReadArm a))
      → AreRead range (row_step range walks (map-WalkRow WalkRow Arm Gives _ (row_edges range walks) (fold-Arm Gives _ (row_step range walks) arm_step) (map-WalkRow ((r : WalkRow) × ReadRow r) ((a : Arm) × ReadArm a) WalkRow Arm (λ r. r.0) (λ a. a.0) y)))
  row-layer (part.Note size chain) f e there = no_edge e there
  row-layer (part.Ptr offset walk count reorder) f e there = pointer-read range f (f.at + offset) walk count (word_at range (f.at + offset)) refl e there
  row-layer (part.Sub offset walk) f e there = read walk (entered f offset) e there
  row-layer (part.Rep offset n size elem) f e there = each-read range (row_edges range walks elem.0) elem.1 f offset size n e there
  row-layer (part.Tail offset len size elem) f e there = each-read range (row_edges range walks elem.0) elem.1 f offset size (length_of (row_value range f len)) e there
  row-layer (part.Switch desc arms) f e there = pick-read _ _ arms.items f e there

  arm-layer : (active : _) (o : Option ((r : WalkRow) × ReadRow r))
      → AreRead range (given_arm (arm_step (map-Arm WalkRow Arm Gives _ (row_edges range walks) (fold-Arm Gives _ (row_step range walks) arm_step) (map-Arm ((r : WalkRow) × ReadRow r) ((a : Arm) × ReadArm a) WalkRow Arm (λ r. r.0) (λ a. a.0) (record { active = active; row = o })))).1)
  arm-layer active None f e there = no_edge e there
  arm-layer active (Some r) f e there = r.1 f e there

  row-read : (r : WalkRow) → AreRead range (row_edges range walks r)
  row-read =
      ind-WalkRow ReadRow ReadArm
      (λ x y is. subst (λ z. ReadRow (roll-WalkRow z)) is (λ f e there. row-layer y f e (subst (λ g. Contains (g f) e) (fold-roll-WalkRow Gives _ (row_step range walks) arm_step _) there)))
      (λ x y is. subst (λ z. ReadArm (roll-Arm z)) is (λ f e there. arm-layer y.active y.row f e (subst (λ g. Contains (given_arm g.1 f) e) (fold-roll-Arm Gives _ (row_step range walks) arm_step _) there)))

walk-read : (tables : Tables) (range : Range) (depth walk : ℕ) → AreRead range (walk_edges tables range depth walk)
walk-read tables range zero walk f e there = no_edge e there
walk-read tables range (suc depth) walk f e there =
    flat-read range (λ r. row_edges range (walk_edges tables range depth) r f) (λ r x here. row-read range (walk_edges tables range depth) (walk-read tables range depth) r f x here) (rows_of tables walk) e there

-- two edges at one place lead to one target
pub edges-read : (tables : Tables) (walk count : ℕ) (range : Range) (address : ℕ) (e : Edge) → Contains (edges_of tables walk count range address) e → IsRead range e
edges-read tables walk count range address e there =
    flat-read range (λ i. walk_edges tables range MOST_NESTED walk (frame_at (address + i * size_in_note (rows_of tables walk)))) (λ i x here. walk-read tables range MOST_NESTED walk (frame_at (address + i * size_in_note (rows_of tables walk))) x here) (range_with_len 0 count) e there
