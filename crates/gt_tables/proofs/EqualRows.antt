-- Rows that are equal to those of a structure are rows of it: no row of a union stands inside another row.
use Rattle.std.specs.Global.{Vec}
use Rattle.std.proofs.Common.{◌≡◌, ◌≢◌, ◌∙◌, ◌≤◌, ℕ, false, List, [], ◌∷◌, refl, ap, sym, subst, Option, Some, None, inl, inr}
use Rattle.std.specs.Prelude.{All, Any, IfSome, IsSome, option_to_list, slice_get}
use Rattle.std.specs.Option.{option_map}
use Rattle.std.proofs.lemmas.List.Elements.{All-append, All-nil, All-cons, All-head, All-tail, All-weaker}
use Rattle.gt_types.specs.declared.expressions.Expr.{Expr}
use Rattle.gt_types.specs.declared.types.TypeId.{TypeId}
use Rattle.gt_types.specs.declared.types.Ty.{Ty}
use Rattle.gt_types.specs.declared.program.Field.{Field}
use Rattle.gt_types.specs.declared.program.Program.{Program}
use Rattle.gt_layout.specs.declared.planes.Plane.{Plane}
use Rattle.gt_layout.specs.declared.planes.Layouts.{Layouts}
use Rattle.gt_layout.specs.declared.planes.FieldSpot.{FieldSpot}
use Rattle.gt_layout.specs.Storages.{extent_of}
use Rattle.gt_walk.specs.declared.rows.RowExpr.{RowExpr}
use Rattle.gt_walk.specs.declared.rows.Arm.{Arm, out-Arm}
use Rattle.gt_walk.specs.declared.rows.WalkRow.{WalkRow, out-WalkRow}
use Rattle.gt_walk.specs.declared.rows.WalkRow.TheOpen as form
use Rattle.gt_walk.specs.declared.rows.WalkRow.TheVariants as row
use Rattle.gt_walk.specs.declared.rows.WalkRow.TheVariants.{outs-Switch}
use Rattle.gt_walk.specs.declared.tables.Tables.{Tables}
use Rattle.gt_walk.specs.Rows.{rows_of}
use Rattle.gt_edges.specs.Numbers.{first_part}
use Rattle.gt_edges.specs.Walks.{Around, inside, IsPointerRow, IsRowOf, IsPartOf, AreRowsOf, AreFieldRows, AreArmsOf}
use Rattle.gt_alike.specs.Alike.{IsEqual, AreEqual, has_switch, IsFlatArm}
use Rattle.gt_alike.proofs.Forms.{note-plain, ptr-plain, sub-plain, rep-plain, tail-plain, switch-there}
use Rattle.gt_alike.proofs.Equal.{IsFlat, one-switch}

abbrev IsPlain : WalkRow → Type 0
IsPlain r = has_switch r ≡ false

-- ---- rows of types are those of no union

sub-some : (offset : ℕ) (walk : Option ℕ) → IfSome (option_map (row.Sub offset) walk) IsPlain
sub-some offset (Some walk) = sub-plain offset walk
sub-some offset None = tt

rep-some : (offset n size : ℕ) (r : Option WalkRow) → IfSome r IsPlain → IfSome (option_map (row.Rep offset n size) r) IsPlain
rep-some offset n size (Some r) is = rep-plain offset n size r ∙ is
rep-some offset n size None is = tt

tail-some : (offset : ℕ) (len : RowExpr) (size : ℕ) (r : Option WalkRow) → IfSome r IsPlain → IfSome (option_map (row.Tail offset len size) r) IsPlain
tail-some offset len size (Some r) is = tail-plain offset len size r ∙ is
tail-some offset len size None is = tt

option-plain : (r : Option WalkRow) → IfSome r IsPlain → All IsPlain (option_to_list r)
option-plain (Some r) is = All-cons IsPlain r [] is (All-nil IsPlain)
option-plain None is = All-nil IsPlain

module _ {program : Program} {layouts : Layouts} where
  pointer-plain : {around : Around} {type : Ty} {offset : ℕ} {r : Option WalkRow} → IsPointerRow program layouts around type offset r → IfSome r IsPlain
  pointer-plain IsPointerRow.string = ptr-plain _ _ _ _
  pointer-plain (IsPointerRow.single t) = ptr-plain _ _ _ _
  pointer-plain (IsPointerRow.counted t value) = ptr-plain _ _ _ _
  pointer-plain IsPointerRow.atomic = ptr-plain _ _ _ _
  pointer-plain (IsPointerRow.nothing none) = tt
  pointer-plain (IsPointerRow.missing none) = tt

  module _ {tables : Tables} where
    row-plain : {around : Around} {type : Ty} {offset : ℕ} {r : Option WalkRow} → IsRowOf program layouts tables around type offset r → IfSome r IsPlain
    row-plain IsRowOf.number = tt
    row-plain IsRowOf.bits = tt
    row-plain IsRowOf.opaque = tt
    row-plain (IsRowOf.pointer is) = pointer-plain is
    row-plain (IsRowOf.structure {offset = offset} {walk = walk} is) = sub-some offset walk
    row-plain (IsRowOf.array {elem = elem} {n = n} {offset = offset} {r = r} e is) = rep-some offset n (extent_of layouts.structures elem).size r (row-plain is)
    row-plain (IsRowOf.tail {elem = elem} {e = len} {offset = offset} {r = r} e value is) = tail-some offset len (extent_of layouts.structures elem).size r (row-plain is)

    fields-plain : {around : Around} {types : List Ty} {spots : List FieldSpot} {rows : List WalkRow} → AreFieldRows program layouts tables around types spots rows → All IsPlain rows
    fields-plain AreFieldRows.none = All-nil IsPlain
    fields-plain (AreFieldRows.more {r = r} {rows = rows} is rest) = All-append IsPlain (option_to_list r) rows (option-plain r (row-plain is)) (fields-plain rest)

    arms-flat : {around : Around} {fields : List Field} {arms : List Arm} → AreArmsOf program layouts tables around fields arms → All IsFlatArm arms
    arms-flat AreArmsOf.no_arms = All-nil IsFlatArm
    arms-flat (AreArmsOf.more_arms {arm = arm} {arms = arms} active is rest) = All-cons IsFlatArm arm arms (row-plain is) (arms-flat rest)

    rows-flat : {around : Around} {node : TypeId} {desc : Option Expr} {rows : List WalkRow} → AreRowsOf program layouts tables around node desc rows → All IsFlat rows
    rows-flat (AreRowsOf.struct {rows = rows} has kind laid fields) = All-weaker IsPlain IsFlat (λ r plain. inl plain) rows (fields-plain fields)
    rows-flat (AreRowsOf.union {e = e} arms has kind each some value) = All-cons IsFlat (row.Switch e arms) [] (inr (e, arms, refl, arms-flat each)) (All-nil IsFlat)
    rows-flat (AreRowsOf.bare has kind each none) = All-nil IsFlat

    -- the rows of the walk of a part
    pub part-flat : {around : Around} {node : TypeId} {desc : Option Expr} {walk : ℕ} → IsPartOf program layouts tables around node desc (Some walk) → All IsFlat (rows_of tables walk)
    part-flat (IsPartOf.walked {plane = plane} {rows = rows} late laid some is are) =
        subst (All IsFlat) (sym is) (All-cons IsFlat (row.Note plane.size None) rows (inl (note-plain plane.size None)) (rows-flat are))

-- ---- equal rows

plain-equal : (r s : WalkRow) → IsPlain s → IsEqual r s → r ≡ s
plain-equal r s plain equal = elim equal [
  | inl same ↦ same
  | inr both ↦ let there = ap has_switch both.other ∙ switch-there both.desc both.others in absurd (cc (plain, there))
]

plain-are-equal : (rs ss : List WalkRow) → All IsPlain ss → AreEqual rs ss → rs ≡ ss
plain-are-equal [] ss all p = sym p
plain-are-equal (r ∷ rs) [] all p = absurd p
plain-are-equal (r ∷ rs) (s ∷ ss) all p =
    ap (λ x. x ∷ rs) (plain-equal r s (All-head IsPlain s ss all) p.0) ∙ ap (λ l. s ∷ l) (plain-are-equal rs ss (All-tail IsPlain s ss all) p.1)

equal-back : (r s : WalkRow) → IsEqual r s → IsEqual s r
equal-back r s equal = elim equal [
  | inl same ↦ inl (sym same)
  | inr both ↦ inr (record { desc = both.desc; arms = both.others; others = both.arms; one = both.other; other = both.one; same = sym both.same })
]

pub are-equal-back : (rs ss : List WalkRow) → AreEqual rs ss → AreEqual ss rs
are-equal-back [] ss p = subst (λ l. AreEqual l []) (sym p) refl
are-equal-back (r ∷ rs) [] p = absurd p
are-equal-back (r ∷ rs) (s ∷ ss) p = (equal-back r s p.0, are-equal-back rs ss p.1)

none-equal : (rs : List WalkRow) → AreEqual rs [] → rs ≡ []
none-equal [] p = refl
none-equal (r ∷ rs) p = absurd p

some-equal : (rs ss : List WalkRow) → AreEqual rs ss → ss ≢ [] → rs ≢ []
some-equal [] ss p some none = some p
some-equal (r ∷ rs) ss p some none = absurd (cc (none))

-- the row of a union with the same arms
union-equal : (rs : List WalkRow) (e : RowExpr) (arms : Vec Arm) → AreEqual rs (row.Switch e arms ∷ []) → (others : Vec Arm) × (rs ≡ row.Switch e others ∷ []) × (others.items ≡ arms.items)
union-equal [] e arms p = absurd (cc (p))
union-equal (r ∷ rs) e arms p = elim p.0 [
  | inl same ↦ (arms, ap (λ l. r ∷ l) (none-equal rs p.1) ∙ ap (λ x. x ∷ []) same, refl)
  | inr both ↦
      let switch : row.Switch both.desc both.others ≡ row.Switch e arms = sym both.other in
      let opened : form.Switch both.desc both.others ≡ form.Switch e arms = sym (outs-Switch both.desc both.others) ∙ ap out-WalkRow switch ∙ outs-Switch e arms in
      let desc : both.desc ≡ e = cc (opened) in (
        both.arms,
        ap (λ l. r ∷ l) (none-equal rs p.1) ∙ ap (λ x. x ∷ []) (both.one ∙ ap (λ d. row.Switch d both.arms) desc),
        both.same ∙ one-switch both.desc e both.others arms switch,
      )
]

module _ (program : Program) (layouts : Layouts) (tables : Tables) where
  equal-rows : {around : Around} {node : TypeId} {desc : Option Expr} {made : List WalkRow} → AreRowsOf program layouts tables around node desc made → (rows : List WalkRow) → AreEqual rows made
      → AreRowsOf program layouts tables around node desc rows
  equal-rows (AreRowsOf.struct {around} {node} {desc} {rows = made} has kind laid fields) rows equal =
      subst (AreRowsOf program layouts tables around node desc) (sym (plain-are-equal rows made (fields-plain fields) equal)) (AreRowsOf.struct has kind laid fields)
  equal-rows (AreRowsOf.union {around} {node} {desc} {s} {e} arms has kind each some value) rows equal =
      let found = union-equal rows e arms equal in
      subst (AreRowsOf program layouts tables around node desc) (sym found.1)
      (AreRowsOf.union found.0 has kind (subst (AreArmsOf program layouts tables around s.fields) (sym found.2) each) (subst (Any (λ arm. IsSome (out-Arm arm).row)) (sym found.2) some) value)
  equal-rows (AreRowsOf.bare {around} {node} {desc} has kind each none) rows equal =
      subst (AreRowsOf program layouts tables around node desc) (sym (none-equal rows equal)) (AreRowsOf.bare has kind each none)

  -- a walk whose rows are equal to the note of a structure and its rows is a walk of it
  pub equal-walked : (around : Around) (node : TypeId) (desc : Option Expr) (plane : Plane) (rows made : List WalkRow) (walk : ℕ) → first_part program ≤ walk → slice_get layouts.structures node.0 ≡ Some plane
      → rows_of tables walk ≡ rows → AreEqual rows (row.Note plane.size None ∷ made) → made ≢ [] → AreRowsOf program layouts tables (inside around node) node desc made
      → IsPartOf program layouts tables around node desc (Some walk)
  equal-walked around node desc plane [] made walk late laid there equal some are = absurd (cc (equal))
  equal-walked around node desc plane (r ∷ rows) made walk late laid there equal some are =
      let note : r ≡ row.Note plane.size None = plain-equal r (row.Note plane.size None) (note-plain plane.size None) equal.0 in
      IsPartOf.walked late laid (some-equal rows made equal.1 some) (there ∙ ap (λ x. x ∷ rows) note) (equal-rows are rows equal.1)
