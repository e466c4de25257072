-- Rows and walks stay good while walks of parts are added.
use Rattle.std.specs.Global.{Vec}
use Rattle.std.proofs.Common.{◌≡◌, ◌∙◌, ℕ, zero, suc, ◌+◌, ◌-◌, ◌≤◌, ◌<◌, Bool, false, List, [], ◌∷◌, ◌++◌, length, refl, ap, sym, subst, Option, Some, None, arith}
use Rattle.std.specs.Prelude.{IfSome, All, flat_map, option_to_list}
use Rattle.std.proofs.lemmas.List.{length-append, append-nil}
use Rattle.std.proofs.lemmas.Grind.{flat_map-append}
use Rattle.std.proofs.lemmas.List.Elements.{All-append, All-nil, All-cons, All-head, All-tail, All-weaker}
use Rattle.gt_types.specs.declared.program.Program.{Program}
use Rattle.gt_layout.specs.Progress.{IsWithinDepth}
use Rattle.gt_walk.specs.declared.rows.Arm.{Arm, out-Arm}
use Rattle.gt_walk.specs.declared.rows.Count.{Count}
use Rattle.gt_walk.specs.declared.rows.Count.TheVariants as count
use Rattle.gt_walk.specs.declared.rows.RowExpr.{RowExpr}
use Rattle.gt_walk.specs.declared.rows.WalkRow.{WalkRow}
use Rattle.gt_walk.specs.declared.rows.WalkRow.TheVariants as row
use Rattle.gt_walk.specs.declared.tables.Tables.{Tables}
use Rattle.gt_walk.specs.Rows.{rows_of}
use Rattle.gt_walk.specs.Nested.{has_note, HaveOneNote, parts_in, names_in, IsWalk, NestsWithin}
use Rattle.gt_tables.specs.Ordered.{IsOrdered, in_count, exprs_in}
use Rattle.gt_tables.specs.Building.{HaveWalks, PartsWithin, parts_of, IsWalkOf, IsRow, AreRows, IsPointerRow}
use Rattle.gt_tables.proofs.RowForms.{note-first, note-parts, note-names, sub-note, sub-parts, sub-names, rep-note, rep-parts, rep-names, tail-note, tail-parts, tail-names, note_of, names_of, switch-note, switch-parts, switch-names}
use Rattle.gt_tables.proofs.RowForms.{ptr-note, ptr-parts, ptr-names, ptr-exprs, note-exprs, sub-exprs, rep-exprs, tail-exprs, exprs_of, switch-exprs}

-- ---- tables

pub append-assoc : {X : Type 0} (xs ys zs : List X) → (xs ++ ys) ++ zs ≡ xs ++ (ys ++ zs)
append-assoc [] ys zs = refl
append-assoc (x ∷ xs) ys zs = ap (λ l. x ∷ l) (append-assoc xs ys zs)

pub fewer : (first : ℕ) (walks more : List (List WalkRow)) (tables : Tables) → HaveWalks first (walks ++ more) tables → HaveWalks first walks tables
fewer first walks more tables h = record {
  front = h.front;
  rest = more ++ h.rest;
  is = h.is ∙ ap (λ l. h.front ++ l) (append-assoc walks more h.rest);
  long = h.long;
}

pub length-tables : (first : ℕ) (walks : List (List WalkRow)) (tables : Tables) → HaveWalks first walks tables → first + length walks ≤ length tables.walks
length-tables first walks tables h =
    let all = ap length h.is ∙ length-append h.front (walks ++ h.rest) in
    let inner = length-append walks h.rest in
    omega (arith, all, inner, h.long)

-- ---- depth

pub within-none : (tables : Tables) (depth : ℕ) → PartsWithin tables depth []
within-none tables zero = refl
within-none tables (suc most) = All-nil (NestsWithin tables most)

pub within-append : (tables : Tables) (depth : ℕ) (xs ys : List ℕ) → PartsWithin tables depth xs → PartsWithin tables depth ys → PartsWithin tables depth (xs ++ ys)
within-append tables zero xs ys x y = ap (λ l. l ++ ys) x ∙ y
within-append tables (suc most) xs ys x y = All-append (NestsWithin tables most) xs ys x y

pub within-one : (tables : Tables) (depth walk : ℕ) → 1 ≤ depth → NestsWithin tables (depth - 1) walk → PartsWithin tables depth (walk ∷ [])
within-one tables zero walk some nests = absurd (omega (arith, some))
within-one tables (suc most) walk some nests =
    let same : suc most - 1 ≡ most = omega arith in
    All-cons (NestsWithin tables most) walk [] (subst (λ d. NestsWithin tables d walk) same nests) (All-nil (NestsWithin tables most))

pub nests-of : (tables : Tables) (depth walk : ℕ) → PartsWithin tables depth (flat_map parts_in (rows_of tables walk)) → NestsWithin tables depth walk
nests-of tables zero walk parts = parts
nests-of tables (suc most) walk parts = parts

-- ---- rows of pointers

module _ (first offset walk : ℕ) where
  pointer-row : (count : Count) (reorder : Bool) → walk < first → All IsOrdered (in_count count) → IsPointerRow first (row.Ptr offset walk count reorder)
  pointer-row count reorder lt ordered =
      let P = λ (w : ℕ). w < first in
      record {
        no_note = ptr-note offset walk count reorder;
        names = subst (All P) (sym (ptr-names offset walk count reorder)) (All-cons P walk [] lt (All-nil P));
        parts = ptr-parts offset walk count reorder;
        ordered = subst (All IsOrdered) (sym (ptr-exprs offset walk count reorder)) ordered;
      }

  pub pointer-fixed : (n : ℕ) (reorder : Bool) → walk < first → IsPointerRow first (row.Ptr offset walk (count.Fixed n) reorder)
  pointer-fixed n reorder lt = pointer-row (count.Fixed n) reorder lt (All-nil IsOrdered)

  pub pointer-counted : (e : RowExpr) (reorder : Bool) → walk < first → IsOrdered e → IsPointerRow first (row.Ptr offset walk (count.Length e) reorder)
  pointer-counted e reorder lt ordered = pointer-row (count.Length e) reorder lt (All-cons IsOrdered e [] ordered (All-nil IsOrdered))

-- ---- rows

module _ (first : ℕ) (walks : List (List WalkRow)) where
  pub row-pointer : (deep : ℕ → Type 0) (r : WalkRow) → IsPointerRow first r → IsRow first walks deep r
  row-pointer deep r p = record {
    no_note = p.no_note;
    names = λ tables h. All-weaker (λ walk. walk < first) (IsWalk tables) (λ walk lt. omega (arith, lt, length-tables first walks tables h)) (names_in r) p.names;
    nests = λ tables h depth d. subst (PartsWithin tables depth) (sym p.parts) (within-none tables depth);
    ordered = p.ordered;
  }

  pub row-sub : (program : Program) (deep : ℕ → Type 0) (node offset walk : ℕ) → ((depth : ℕ) → deep depth → (1 ≤ depth) × IsWithinDepth program node (depth - 1))
      → IsWalkOf program first walks node walk → IsRow first walks deep (row.Sub offset walk)
  row-sub program deep node offset walk deeper is = record {
    no_note = sub-note offset walk;
    names = λ tables h. subst (All (IsWalk tables)) (sym (sub-names offset walk)) (All-cons (IsWalk tables) walk [] (is tables h).there (All-nil (IsWalk tables)));
    nests = λ tables h depth d.
        let in_it = deeper depth d in
        subst (PartsWithin tables depth) (sym (sub-parts offset walk)) (within-one tables depth walk in_it.0 ((is tables h).nests (depth - 1) in_it.1));
    ordered = subst (All IsOrdered) (sym (sub-exprs offset walk)) (All-nil IsOrdered);
  }

  pub row-same : (deep : ℕ → Type 0) (e r : WalkRow) → has_note r ≡ has_note e → names_in r ≡ names_in e → parts_in r ≡ parts_in e → All IsOrdered (exprs_in r) → IsRow first walks deep e → IsRow first walks deep r
  row-same deep e r note names parts ordered is = record {
    no_note = note ∙ is.no_note;
    names = λ tables h. subst (All (IsWalk tables)) (sym names) (is.names tables h);
    nests = λ tables h depth d. subst (PartsWithin tables depth) (sym parts) (is.nests tables h depth d);
    ordered = ordered;
  }

  pub row-rep : (deep : ℕ → Type 0) (offset n size : ℕ) (e : WalkRow) → IsRow first walks deep e → IsRow first walks deep (row.Rep offset n size e)
  row-rep deep offset n size e is =
      row-same deep e (row.Rep offset n size e) (rep-note offset n size e) (rep-names offset n size e) (rep-parts offset n size e) (subst (All IsOrdered) (sym (rep-exprs offset n size e)) is.ordered) is

  pub row-tail : (deep : ℕ → Type 0) (offset : ℕ) (len : RowExpr) (size : ℕ) (e : WalkRow) → IsOrdered len → IsRow first walks deep e → IsRow first walks deep (row.Tail offset len size e)
  row-tail deep offset len size e ordered is =
      row-same deep e (row.Tail offset len size e) (tail-note offset len size e) (tail-names offset len size e) (tail-parts offset len size e)
      (subst (All IsOrdered) (sym (tail-exprs offset len size e)) (All-cons IsOrdered len (exprs_in e) ordered is.ordered)) is

  pub row-deeper : (deep deeper : ℕ → Type 0) (r : WalkRow) → ((depth : ℕ) → deeper depth → deep depth) → IsRow first walks deep r → IsRow first walks deeper r
  row-deeper deep deeper r more is = record {
    no_note = is.no_note;
    names = is.names;
    nests = λ tables h depth d. is.nests tables h depth (more depth d);
    ordered = is.ordered;
  }

  -- ---- arms

  abbrev pub IsArm : (ℕ → Type 0) → Arm → Type 0
  IsArm deep a = IfSome (out-Arm a).row (IsRow first walks deep)

  none-note : (deep : ℕ → Type 0) (o : Option WalkRow) → IfSome o (IsRow first walks deep) → note_of o ≡ false
  none-note deep None is = refl
  none-note deep (Some r) is = is.no_note

  some-names : (deep : ℕ → Type 0) (o : Option WalkRow) (tables : Tables) → HaveWalks first walks tables → IfSome o (IsRow first walks deep) → All (IsWalk tables) (names_of o)
  some-names deep None tables h is = All-nil (IsWalk tables)
  some-names deep (Some r) tables h is = is.names tables h

  some-parts : (deep : ℕ → Type 0) (o : Option WalkRow) (tables : Tables) → HaveWalks first walks tables → (depth : ℕ) → deep depth → IfSome o (IsRow first walks deep) → PartsWithin tables depth (parts_of o)
  some-parts deep None tables h depth d is = within-none tables depth
  some-parts deep (Some r) tables h depth d is = is.nests tables h depth d

  arms-names : (deep : ℕ → Type 0) (arms : List Arm) (tables : Tables) → HaveWalks first walks tables → All (IsArm deep) arms → All (IsWalk tables) (flat_map (λ a. names_of (out-Arm a).row) arms)
  arms-names deep [] tables h all = All-nil (IsWalk tables)
  arms-names deep (a ∷ arms) tables h all =
      All-append (IsWalk tables) (names_of (out-Arm a).row) (flat_map (λ a. names_of (out-Arm a).row) arms) (some-names deep (out-Arm a).row tables h (All-head (IsArm deep) a arms all))
      (arms-names deep arms tables h (All-tail (IsArm deep) a arms all))

  arms-parts : (deep : ℕ → Type 0) (arms : List Arm) (tables : Tables) → HaveWalks first walks tables → (depth : ℕ) → deep depth → All (IsArm deep) arms
      → PartsWithin tables depth (flat_map (λ a. parts_of (out-Arm a).row) arms)
  arms-parts deep [] tables h depth d all = within-none tables depth
  arms-parts deep (a ∷ arms) tables h depth d all =
      within-append tables depth (parts_of (out-Arm a).row) (flat_map (λ a. parts_of (out-Arm a).row) arms) (some-parts deep (out-Arm a).row tables h depth d (All-head (IsArm deep) a arms all))
      (arms-parts deep arms tables h depth d (All-tail (IsArm deep) a arms all))

  some-exprs : (deep : ℕ → Type 0) (o : Option WalkRow) → IfSome o (IsRow first walks deep) → All IsOrdered (exprs_of o)
  some-exprs deep None is = All-nil IsOrdered
  some-exprs deep (Some r) is = is.ordered

  arms-exprs : (deep : ℕ → Type 0) (arms : List Arm) → All (IsArm deep) arms → All IsOrdered (flat_map (λ a. exprs_of (out-Arm a).row) arms)
  arms-exprs deep [] all = All-nil IsOrdered
  arms-exprs deep (a ∷ arms) all =
      All-append IsOrdered (exprs_of (out-Arm a).row) (flat_map (λ a. exprs_of (out-Arm a).row) arms) (some-exprs deep (out-Arm a).row (All-head (IsArm deep) a arms all))
      (arms-exprs deep arms (All-tail (IsArm deep) a arms all))

  pub row-switch : (deep : ℕ → Type 0) (desc : RowExpr) (arms : Vec Arm) → IsOrdered desc → All (IsArm deep) arms.items → IsRow first walks deep (row.Switch desc arms)
  row-switch deep desc arms ordered all = record {
    no_note = switch-note desc arms (All-weaker (IsArm deep) (λ (a : Arm). note_of (out-Arm a).row ≡ false) (λ a is. none-note deep (out-Arm a).row is) arms.items all);
    names = λ tables h. subst (All (IsWalk tables)) (sym (switch-names desc arms)) (arms-names deep arms.items tables h all);
    nests = λ tables h depth d. subst (PartsWithin tables depth) (sym (switch-parts desc arms)) (arms-parts deep arms.items tables h depth d all);
    ordered = subst (All IsOrdered) (sym (switch-exprs desc arms)) (All-cons IsOrdered desc (flat_map (λ a. exprs_of (out-Arm a).row) arms.items) ordered (arms-exprs deep arms.items all));
  }

  -- ---- rows after a note

  pub rows-note : (deep : ℕ → Type 0) (size : ℕ) (chain : Option ℕ) → AreRows first walks deep (row.Note size chain ∷ [])
  rows-note deep size chain = record {
    note = (note-first size chain, All-nil (λ r. has_note r ≡ false));
    names = λ tables h. subst (All (IsWalk tables)) (sym (ap (λ ns. ns ++ []) (note-names size chain))) (All-nil (IsWalk tables));
    nests = λ tables h depth d. subst (PartsWithin tables depth) (sym (ap (λ ns. ns ++ []) (note-parts size chain))) (within-none tables depth);
    ordered = subst (All IsOrdered) (sym (ap (λ es. es ++ []) (note-exprs size chain))) (All-nil IsOrdered);
  }

  one-more : (rows : List WalkRow) (r : WalkRow) → HaveOneNote rows → has_note r ≡ false → HaveOneNote (rows ++ r ∷ [])
  one-more [] r h none = absurd h
  one-more (x ∷ rows) r h none =
      (h.0, All-append (λ r. has_note r ≡ false) rows (r ∷ []) h.1 (All-cons (λ r. has_note r ≡ false) r [] none (All-nil (λ r. has_note r ≡ false))))

  pub rows-add : (deep : ℕ → Type 0) (rows : List WalkRow) (o : Option WalkRow) → AreRows first walks deep rows → IfSome o (IsRow first walks deep) → AreRows first walks deep (rows ++ option_to_list o)
  rows-add deep rows None are is = subst (AreRows first walks deep) (sym (append-nil rows)) are
  rows-add deep rows (Some r) are is = record {
    note = one-more rows r are.note is.no_note;
    names = λ tables h. subst (All (IsWalk tables)) (sym (flat_map-append names_in rows (r ∷ []))) (All-append (IsWalk tables) (flat_map names_in rows) (names_in r ++ []) (are.names tables h) (subst (All (IsWalk tables)) (sym (append-nil (names_in r))) (is.names tables h)));
    nests = λ tables h depth d.
        subst (PartsWithin tables depth) (sym (flat_map-append parts_in rows (r ∷ [])))
        (within-append tables depth (flat_map parts_in rows) (parts_in r ++ []) (are.nests tables h depth d) (subst (PartsWithin tables depth) (sym (append-nil (parts_in r))) (is.nests tables h depth d)));
    ordered =
        subst (All IsOrdered) (sym (flat_map-append exprs_in rows (r ∷ [])))
        (All-append IsOrdered (flat_map exprs_in rows) (exprs_in r ++ []) are.ordered (subst (All IsOrdered) (sym (append-nil (exprs_in r))) is.ordered));
  }

  pub rows-deeper : (deep deeper : ℕ → Type 0) (rows : List WalkRow) → ((depth : ℕ) → deeper depth → deep depth) → AreRows first walks deep rows → AreRows first walks deeper rows
  rows-deeper deep deeper rows more are = record {
    note = are.note;
    names = are.names;
    nests = λ tables h depth d. are.nests tables h depth (more depth d);
    ordered = are.ordered;
  }

  -- ---- more walks

  module _ (more : List (List WalkRow)) where
    pub walk-grows : (program : Program) (node walk : ℕ) → IsWalkOf program first walks node walk → IsWalkOf program first (walks ++ more) node walk
    walk-grows program node walk is tables h = is tables (fewer first walks more tables h)

    pub row-grows : (deep : ℕ → Type 0) (r : WalkRow) → IsRow first walks deep r → IsRow first (walks ++ more) deep r
    row-grows deep r is = record {
      no_note = is.no_note;
      names = λ tables h. is.names tables (fewer first walks more tables h);
      nests = λ tables h depth d. is.nests tables (fewer first walks more tables h) depth d;
      ordered = is.ordered;
    }

    pub rows-grow : (deep : ℕ → Type 0) (rows : List WalkRow) → AreRows first walks deep rows → AreRows first (walks ++ more) deep rows
    rows-grow deep rows are = record {
      note = are.note;
      names = λ tables h. are.names tables (fewer first walks more tables h);
      nests = λ tables h depth d. are.nests tables (fewer first walks more tables h) depth d;
      ordered = are.ordered;
    }
