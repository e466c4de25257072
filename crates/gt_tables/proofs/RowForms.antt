-- What rows of each form have and name.
use Rattle.std.specs.Global.{Vec}
use Rattle.std.proofs.Common.{◌≡◌, ◌∙◌, ℕ, Bool, false, IsTrue, ◌||◌, List, [], ◌∷◌, ◌++◌, map, refl, ap, Option, Some, None}
use Rattle.std.specs.Prelude.{All, flat_map}
use Rattle.std.specs.List.{concat, list_any}
use Rattle.std.proofs.lemmas.List.Elements.{All-head, All-tail}
use Rattle.gt_types.specs.declared.program.Active.{Active}
use Rattle.gt_walk.specs.declared.rows.Count.{Count}
use Rattle.gt_walk.specs.declared.rows.RowExpr.{RowExpr}
use Rattle.gt_walk.specs.declared.rows.Arm.{Arm, out-Arm}
use Rattle.gt_walk.specs.declared.rows.WalkRow.{WalkRow, out-WalkRow}
use Rattle.gt_walk.specs.declared.rows.WalkRow.TheFolds.{fold-WalkRow, fold-Arm, fold_out-WalkRow, fold_out-Arm, map-WalkRow, map-Arm}
use Rattle.gt_walk.specs.declared.rows.WalkRow.TheOpen.{WalkRow-F, Arm-F}
use Rattle.gt_walk.specs.declared.rows.WalkRow.TheVariants as row
use Rattle.gt_walk.specs.declared.rows.WalkRow.TheVariants.{outs-Note, outs-Ptr, outs-Sub, outs-Rep, outs-Tail, outs-Switch}
use Rattle.gt_walk.specs.ByRows.{is_note}
use Rattle.gt_walk.specs.Nested.{has_note, note_at, note_in_arm, parts_in, part_at, in_arm, names_in, name_at}
use Rattle.gt_tables.specs.Building.{parts_of}
use Rattle.gt_tables.specs.Ordered.{in_count, exprs_at, exprs_in_arm, exprs_in}

module _ {A B : Type 0} (step : WalkRow-F A B → A) (arm_step : Arm-F A B → B) where
  layer : (r : WalkRow) (x : WalkRow-F WalkRow Arm) → out-WalkRow r ≡ x
      → fold-WalkRow A B step arm_step r ≡ step (map-WalkRow WalkRow Arm A B (fold-WalkRow A B step arm_step) (fold-Arm A B step arm_step) x)
  layer r x e = fold_out-WalkRow A B step arm_step r ∙ ap (λ y. step (map-WalkRow WalkRow Arm A B (fold-WalkRow A B step arm_step) (fold-Arm A B step arm_step) y)) e

pub note-first : (size : ℕ) (chain : Option ℕ) → IsTrue (is_note (out-WalkRow (row.Note size chain)))
note-first size chain = ap (λ (x : WalkRow-F WalkRow Arm). is_note x) (outs-Note size chain)

pub note-parts : (size : ℕ) (chain : Option ℕ) → parts_in (row.Note size chain) ≡ []
note-parts size chain = layer part_at in_arm (row.Note size chain) _ (outs-Note size chain)

pub note-names : (size : ℕ) (chain : Option ℕ) → names_in (row.Note size chain) ≡ []
note-names size chain = layer name_at in_arm (row.Note size chain) _ (outs-Note size chain)

pub ptr-note : (offset walk : ℕ) (count : Count) (reorder : Bool) → has_note (row.Ptr offset walk count reorder) ≡ false
ptr-note offset walk count reorder = layer note_at note_in_arm (row.Ptr offset walk count reorder) _ (outs-Ptr offset walk count reorder)

pub ptr-parts : (offset walk : ℕ) (count : Count) (reorder : Bool) → parts_in (row.Ptr offset walk count reorder) ≡ []
ptr-parts offset walk count reorder = layer part_at in_arm (row.Ptr offset walk count reorder) _ (outs-Ptr offset walk count reorder)

pub ptr-names : (offset walk : ℕ) (count : Count) (reorder : Bool) → names_in (row.Ptr offset walk count reorder) ≡ walk ∷ []
ptr-names offset walk count reorder = layer name_at in_arm (row.Ptr offset walk count reorder) _ (outs-Ptr offset walk count reorder)

pub sub-note : (offset walk : ℕ) → has_note (row.Sub offset walk) ≡ false
sub-note offset walk = layer note_at note_in_arm (row.Sub offset walk) _ (outs-Sub offset walk)

pub sub-parts : (offset walk : ℕ) → parts_in (row.Sub offset walk) ≡ walk ∷ []
sub-parts offset walk = layer part_at in_arm (row.Sub offset walk) _ (outs-Sub offset walk)

pub sub-names : (offset walk : ℕ) → names_in (row.Sub offset walk) ≡ walk ∷ []
sub-names offset walk = layer name_at in_arm (row.Sub offset walk) _ (outs-Sub offset walk)

pub rep-note : (offset n size : ℕ) (elem : WalkRow) → has_note (row.Rep offset n size elem) ≡ has_note elem
rep-note offset n size elem = layer note_at note_in_arm (row.Rep offset n size elem) _ (outs-Rep offset n size elem)

pub rep-parts : (offset n size : ℕ) (elem : WalkRow) → parts_in (row.Rep offset n size elem) ≡ parts_in elem
rep-parts offset n size elem = layer part_at in_arm (row.Rep offset n size elem) _ (outs-Rep offset n size elem)

pub rep-names : (offset n size : ℕ) (elem : WalkRow) → names_in (row.Rep offset n size elem) ≡ names_in elem
rep-names offset n size elem = layer name_at in_arm (row.Rep offset n size elem) _ (outs-Rep offset n size elem)

pub tail-note : (offset : ℕ) (len : RowExpr) (size : ℕ) (elem : WalkRow) → has_note (row.Tail offset len size elem) ≡ has_note elem
tail-note offset len size elem = layer note_at note_in_arm (row.Tail offset len size elem) _ (outs-Tail offset len size elem)

pub tail-parts : (offset : ℕ) (len : RowExpr) (size : ℕ) (elem : WalkRow) → parts_in (row.Tail offset len size elem) ≡ parts_in elem
tail-parts offset len size elem = layer part_at in_arm (row.Tail offset len size elem) _ (outs-Tail offset len size elem)

pub tail-names : (offset : ℕ) (len : RowExpr) (size : ℕ) (elem : WalkRow) → names_in (row.Tail offset len size elem) ≡ names_in elem
tail-names offset len size elem = layer name_at in_arm (row.Tail offset len size elem) _ (outs-Tail offset len size elem)

-- ---- arms

abbrev pub note_of : Option WalkRow → Bool
note_of (Some r) = has_note r
note_of None = false

abbrev pub names_of : Option WalkRow → List ℕ
names_of (Some r) = names_in r
names_of None = []

note-layer : (active : Active) (o : Option WalkRow)
    → note_in_arm (map-Arm WalkRow Arm Bool Bool has_note (fold-Arm Bool Bool note_at note_in_arm) (record { active = active; row = o })) ≡ note_of o
note-layer active None = refl
note-layer active (Some r) = refl

parts-layer : (active : Active) (o : Option WalkRow)
    → in_arm (map-Arm WalkRow Arm (List ℕ) (List ℕ) parts_in (fold-Arm (List ℕ) (List ℕ) part_at in_arm) (record { active = active; row = o })) ≡ parts_of o
parts-layer active None = refl
parts-layer active (Some r) = refl

names-layer : (active : Active) (o : Option WalkRow)
    → in_arm (map-Arm WalkRow Arm (List ℕ) (List ℕ) names_in (fold-Arm (List ℕ) (List ℕ) name_at in_arm) (record { active = active; row = o })) ≡ names_of o
names-layer active None = refl
names-layer active (Some r) = refl

arm-note : (arm : Arm) → fold-Arm Bool Bool note_at note_in_arm arm ≡ note_of (out-Arm arm).row
arm-note arm = fold_out-Arm Bool Bool note_at note_in_arm arm ∙ note-layer (out-Arm arm).active (out-Arm arm).row

arm-parts : (arm : Arm) → fold-Arm (List ℕ) (List ℕ) part_at in_arm arm ≡ parts_of (out-Arm arm).row
arm-parts arm = fold_out-Arm (List ℕ) (List ℕ) part_at in_arm arm ∙ parts-layer (out-Arm arm).active (out-Arm arm).row

arm-names : (arm : Arm) → fold-Arm (List ℕ) (List ℕ) name_at in_arm arm ≡ names_of (out-Arm arm).row
arm-names arm = fold_out-Arm (List ℕ) (List ℕ) name_at in_arm arm ∙ names-layer (out-Arm arm).active (out-Arm arm).row

arms-note : (arms : List Arm) → All (λ (a : Arm). note_of (out-Arm a).row ≡ false) arms → list_any (λ (b : Bool). b) (map (fold-Arm Bool Bool note_at note_in_arm) arms) ≡ false
arms-note [] all = refl
arms-note (a ∷ arms) all =
    let P = λ (a : Arm). note_of (out-Arm a).row ≡ false in
    ap (λ b. b || list_any (λ (b : Bool). b) (map (fold-Arm Bool Bool note_at note_in_arm) arms)) (arm-note a ∙ All-head P a arms all) ∙ arms-note arms (All-tail P a arms all)

arms-parts : (arms : List Arm) → concat (map (fold-Arm (List ℕ) (List ℕ) part_at in_arm) arms) ≡ flat_map (λ a. parts_of (out-Arm a).row) arms
arms-parts [] = refl
arms-parts (a ∷ arms) =
    ap (λ xs. xs ++ concat (map (fold-Arm (List ℕ) (List ℕ) part_at in_arm) arms)) (arm-parts a) ∙ ap (λ ys. parts_of (out-Arm a).row ++ ys) (arms-parts arms)

arms-names : (arms : List Arm) → concat (map (fold-Arm (List ℕ) (List ℕ) name_at in_arm) arms) ≡ flat_map (λ a. names_of (out-Arm a).row) arms
arms-names [] = refl
arms-names (a ∷ arms) =
    ap (λ xs. xs ++ concat (map (fold-Arm (List ℕ) (List ℕ) name_at in_arm) arms)) (arm-names a) ∙ ap (λ ys. names_of (out-Arm a).row ++ ys) (arms-names arms)

pub switch-note : (desc : RowExpr) (arms : Vec Arm) → All (λ (a : Arm). note_of (out-Arm a).row ≡ false) arms.items → has_note (row.Switch desc arms) ≡ false
switch-note desc arms all = layer note_at note_in_arm (row.Switch desc arms) _ (outs-Switch desc arms) ∙ arms-note arms.items all

pub switch-parts : (desc : RowExpr) (arms : Vec Arm) → parts_in (row.Switch desc arms) ≡ flat_map (λ a. parts_of (out-Arm a).row) arms.items
switch-parts desc arms = layer part_at in_arm (row.Switch desc arms) _ (outs-Switch desc arms) ∙ arms-parts arms.items

pub switch-names : (desc : RowExpr) (arms : Vec Arm) → names_in (row.Switch desc arms) ≡ flat_map (λ a. names_of (out-Arm a).row) arms.items
switch-names desc arms = layer name_at in_arm (row.Switch desc arms) _ (outs-Switch desc arms) ∙ arms-names arms.items

-- ---- expressions

pub note-exprs : (size : ℕ) (chain : Option ℕ) → exprs_in (row.Note size chain) ≡ []
note-exprs size chain = layer exprs_at exprs_in_arm (row.Note size chain) _ (outs-Note size chain)

pub ptr-exprs : (offset walk : ℕ) (count : Count) (reorder : Bool) → exprs_in (row.Ptr offset walk count reorder) ≡ in_count count
ptr-exprs offset walk count reorder = layer exprs_at exprs_in_arm (row.Ptr offset walk count reorder) _ (outs-Ptr offset walk count reorder)

pub sub-exprs : (offset walk : ℕ) → exprs_in (row.Sub offset walk) ≡ []
sub-exprs offset walk = layer exprs_at exprs_in_arm (row.Sub offset walk) _ (outs-Sub offset walk)

pub rep-exprs : (offset n size : ℕ) (elem : WalkRow) → exprs_in (row.Rep offset n size elem) ≡ exprs_in elem
rep-exprs offset n size elem = layer exprs_at exprs_in_arm (row.Rep offset n size elem) _ (outs-Rep offset n size elem)

pub tail-exprs : (offset : ℕ) (len : RowExpr) (size : ℕ) (elem : WalkRow) → exprs_in (row.Tail offset len size elem) ≡ len ∷ exprs_in elem
tail-exprs offset len size elem = layer exprs_at exprs_in_arm (row.Tail offset len size elem) _ (outs-Tail offset len size elem)

abbrev pub exprs_of : Option WalkRow → List RowExpr
exprs_of (Some r) = exprs_in r
exprs_of None = []

exprs-layer : (active : Active) (o : Option WalkRow)
    → exprs_in_arm (map-Arm WalkRow Arm (List RowExpr) (List RowExpr) exprs_in (fold-Arm (List RowExpr) (List RowExpr) exprs_at exprs_in_arm) (record { active = active; row = o })) ≡ exprs_of o
exprs-layer active None = refl
exprs-layer active (Some r) = refl

arm-exprs : (arm : Arm) → fold-Arm (List RowExpr) (List RowExpr) exprs_at exprs_in_arm arm ≡ exprs_of (out-Arm arm).row
arm-exprs arm = fold_out-Arm (List RowExpr) (List RowExpr) exprs_at exprs_in_arm arm ∙ exprs-layer (out-Arm arm).active (out-Arm arm).row

arms-exprs : (arms : List Arm) → flat_map (λ (es : List RowExpr). es) (map (fold-Arm (List RowExpr) (List RowExpr) exprs_at exprs_in_arm) arms) ≡ flat_map (λ a. exprs_of (out-Arm a).row) arms
arms-exprs [] = refl
arms-exprs (a ∷ arms) =
    ap (λ xs. xs ++ flat_map (λ (es : List RowExpr). es) (map (fold-Arm (List RowExpr) (List RowExpr) exprs_at exprs_in_arm) arms)) (arm-exprs a) ∙ ap (λ ys. exprs_of (out-Arm a).row ++ ys) (arms-exprs arms)

pub switch-exprs : (desc : RowExpr) (arms : Vec Arm) → exprs_in (row.Switch desc arms) ≡ desc ∷ flat_map (λ a. exprs_of (out-Arm a).row) arms.items
switch-exprs desc arms = layer exprs_at exprs_in_arm (row.Switch desc arms) _ (outs-Switch desc arms) ∙ ap (λ es. desc ∷ es) (arms-exprs arms.items)
