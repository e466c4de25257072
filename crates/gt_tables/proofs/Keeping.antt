-- What is known of parts, and the walks that are added for them.
use Rattle.std.specs.Global.{Vec}
use Rattle.std.proofs.Common.{◌≡◌, ◌≢◌, ◌∙◌, ℕ, ◌+◌, ◌-◌, ◌≤◌, Bool, true, false, cond, List, [], ◌∷◌, ◌++◌, refl, ap, sym, subst, Option, Some, None, Ok, Err, get_or, ◌⊎◌, inl, inr, arith}
use Rattle.std.specs.Prelude.{IfSome, IfOk, OnOk, All, flat_map, slice_get}
use Rattle.std.specs.Option.{option_map, option_cmp}
use Rattle.std.specs.Ordering.{nat_cmp, ordering_then, is_eq}
use Rattle.std.specs.declared.cmp.Ordering.{Ordering}
use Rattle.std.specs.declared.cmp.Ordering.TheVariants.{Less, Equal, Greater}
use Rattle.std.specs.BTreeMap.{BTreeMap, get, is_at}
use Rattle.std.proofs.lemmas.Map.Lookups.{exact_unsigned}
use Rattle.std.proofs.lemmas.List.{append-nil, get_or-append_right, get_or_append_left}
use Rattle.std.proofs.lemmas.Option.{slice_get_within, get_or_from_slice_get}
use Rattle.std.proofs.lemmas.List.Elements.{All-append, All-nil, All-cons, All-weaker}
use Rattle.gt_types.specs.declared.program.Program.{Program}
use Rattle.gt_types.specs.Settled.{Settled}
use Rattle.gt_layout.specs.Progress.{IsWithinDepth}
use Rattle.gt_walk.specs.declared.rows.Arm.{Arm, out-Arm}
use Rattle.gt_walk.specs.declared.rows.RowExpr.{RowExpr}
use Rattle.gt_walk.specs.declared.rows.WalkRow.{WalkRow}
use Rattle.gt_walk.specs.declared.rows.WalkRow.TheVariants as row
use Rattle.gt_walk.specs.declared.tables.Tables.{Tables}
use Rattle.gt_walk.specs.Rows.{rows_of}
use Rattle.gt_walk.specs.Nested.{parts_in}
use Rattle.gt_tables.specs.declared.sources.Site.{Site}
use Rattle.gt_tables.specs.declared.sources.Part.{Part}
use Rattle.gt_tables.specs.declared.parts.Parts.{Parts}
use Rattle.gt_edges.specs.Numbers.{first_part}
use Rattle.gt_tables.specs.Building.{site_cmp, part_cmp, HaveWalks, PartsWithin, parts_of, IsWalkOf, IsRow, AreRows, IsPointerRow, Shallow, AreParts, Grows, Keeps}
use Rattle.gt_alike.specs.Alike.{IsEqual, AreEqual}
use Rattle.gt_tables.specs.Ordered.{IsOrdered}
use Rattle.gt_tables.proofs.RowForms.{switch-parts}
use Rattle.gt_tables.proofs.Growing.{length-tables, nests-of, append-assoc, rows-grow, rows-deeper, row-grows, row-deeper, row-sub, row-rep, row-tail, row-pointer, row-switch, walk-grows, IsArm}

-- ---- results

pub on-ok : {X E : Type 0} (P : X → Type 0) (Q : Type 0) (r : _) → ((x : X) → P x → Q) → IfOk {E = E} r P → OnOk {E = E} r Q
on-ok P Q (Ok x) f h = f x h
on-ok P Q (Err e) f h = tt

pub if-ok : {X E : Type 0} (P Q : X → Type 0) (r : _) → ((x : X) → P x → Q x) → IfOk {E = E} r P → IfOk {E = E} r Q
if-ok P Q (Ok x) f h = f x h
if-ok P Q (Err e) f h = tt

pub if-both : {X E : Type 0} (P Q R : X → Type 0) (r : _) → ((x : X) → P x → Q x → R x) → IfOk {E = E} r P → IfOk {E = E} r Q → IfOk {E = E} r R
if-both P Q R (Ok x) f g h = f x g h
if-both P Q R (Err e) f g h = tt

pub on-both : {X E : Type 0} (P Q : X → Type 0) (R : Type 0) (r : _) → ((x : X) → P x → Q x → R) → IfOk {E = E} r P → IfOk {E = E} r Q → OnOk {E = E} r R
on-both P Q R (Ok x) f g h = f x g h
on-both P Q R (Err e) f g h = tt

-- ---- parts grow

pub grows-not : (program : Program) (parts : Parts) → AreParts program parts → Grows program parts parts
grows-not program parts are = record { more = []; walks = sym (append-nil parts.walks.items); are = are }

pub grows-on : (program : Program) (a b c : Parts) → Grows program a b → Grows program b c → Grows program a c
grows-on program a b c first second = record {
  more = first.more ++ second.more;
  walks = second.walks ∙ ap (λ ws. ws ++ second.more) first.walks ∙ append-assoc a.walks.items first.more second.more;
  are = second.are;
}

module _ (first : ℕ) (program : Program) (a b : Parts) (grows : Grows program a b) where
  pub rows-on : (deep : ℕ → Type 0) (rows : List WalkRow) → AreRows first a.walks.items deep rows → AreRows first b.walks.items deep rows
  rows-on deep rows are = subst (λ ws. AreRows first ws deep rows) (sym grows.walks) (rows-grow first a.walks.items grows.more deep rows are)

  some-on : (deep : ℕ → Type 0) (o : Option WalkRow) → IfSome o (IsRow first a.walks.items deep) → IfSome o (IsRow first b.walks.items deep)
  some-on deep None is = tt
  some-on deep (Some r) is = subst (λ ws. IsRow first ws deep r) (sym grows.walks) (row-grows first a.walks.items grows.more deep r is)

  pub arms-on : (deep : ℕ → Type 0) (arms : List Arm) → All (IsArm first a.walks.items deep) arms → All (IsArm first b.walks.items deep) arms
  arms-on deep arms all = All-weaker (IsArm first a.walks.items deep) (IsArm first b.walks.items deep) (λ arm is. some-on deep (out-Arm arm).row is) arms all

-- ---- rows where there are some

module _ (first : ℕ) (walks : List (List WalkRow)) (deep deeper : ℕ → Type 0) (more : (depth : ℕ) → deeper depth → deep depth) where
  pub some-deeper : (o : Option WalkRow) → IfSome o (IsRow first walks deep) → IfSome o (IsRow first walks deeper)
  some-deeper None is = tt
  some-deeper (Some r) is = row-deeper first walks deep deeper r more is

  rep-some : (offset n size : ℕ) (o : Option WalkRow) → IfSome o (IsRow first walks deep) → IfSome (option_map (row.Rep offset n size) o) (IsRow first walks deeper)
  rep-some offset n size None is = tt
  rep-some offset n size (Some r) is = row-rep first walks deeper offset n size r (row-deeper first walks deep deeper r more is)

  pub rep-row : {E : Type 0} (offset n size : ℕ) (o : Option WalkRow) (r : _) → IfSome o (IsRow first walks deep) → IfOk {E = E} r (λ made. made ≡ option_map (row.Rep offset n size) o)
      → IfOk {E = E} r (λ made. IfSome made (IsRow first walks deeper))
  rep-row offset n size o r is =
      if-ok (λ made. made ≡ option_map (row.Rep offset n size) o) (λ made. IfSome made (IsRow first walks deeper)) r (λ made e. subst (λ m. IfSome m (IsRow first walks deeper)) (sym e) (rep-some offset n size o is))

  tail-some : (offset size : ℕ) (len : RowExpr) (o : Option WalkRow) → (o ≢ None → IsOrdered len) → IfSome o (IsRow first walks deep) → IfSome (option_map (row.Tail offset len size) o) (IsRow first walks deeper)
  tail-some offset size len None ordered is = tt
  tail-some offset size len (Some r) ordered is = row-tail first walks deeper offset len size r (ordered (λ absent. cc)) (row-deeper first walks deep deeper r more is)

  pub tail-row : {E : Type 0} (also : RowExpr → Type 0) (offset size : ℕ) (o : Option WalkRow) (r : _) → IfSome o (IsRow first walks deep)
      → IfOk {E = E} r (λ made. (len : RowExpr) × (made ≡ option_map (row.Tail offset len size) o) × also len × (o ≢ None → IsOrdered len)) → IfOk {E = E} r (λ made. IfSome made (IsRow first walks deeper))
  tail-row also offset size o r is =
      if-ok (λ made. (len : RowExpr) × (made ≡ option_map (row.Tail offset len size) o) × also len × (o ≢ None → IsOrdered len)) (λ made. IfSome made (IsRow first walks deeper)) r
      (λ made e. subst (λ m. IfSome m (IsRow first walks deeper)) (sym e.1) (tail-some offset size e.0 o e.3 is))

module _ (first : ℕ) (walks : List (List WalkRow)) (deep : ℕ → Type 0) where
  pointer-some : (o : Option WalkRow) → IfSome o (IsPointerRow first) → IfSome o (IsRow first walks deep)
  pointer-some None is = tt
  pointer-some (Some r) is = row-pointer first walks deep r is

  pub pointer-row : {E : Type 0} (r : _) → IfOk {E = E} r (λ o. IfSome o (IsPointerRow first)) → IfOk {E = E} r (λ o. IfSome o (IsRow first walks deep))
  pointer-row r = if-ok (λ o. IfSome o (IsPointerRow first)) (λ o. IfSome o (IsRow first walks deep)) r pointer-some

  sub-some : (program : Program) (node offset : ℕ) → ((depth : ℕ) → deep depth → (1 ≤ depth) × IsWithinDepth program node (depth - 1)) → (walk : Option ℕ)
      → IfSome walk (IsWalkOf program first walks node) → IfSome (option_map (row.Sub offset) walk) (IsRow first walks deep)
  sub-some program node offset deeper None is = tt
  sub-some program node offset deeper (Some walk) is = row-sub first walks program deep node offset walk deeper is

  pub sub-row : (program : Program) (node offset : ℕ) → ((depth : ℕ) → deep depth → (1 ≤ depth) × IsWithinDepth program node (depth - 1)) → (walk : Option ℕ) (made : Option WalkRow)
      → made ≡ option_map (row.Sub offset) walk → IfSome walk (IsWalkOf program first walks node) → IfSome made (IsRow first walks deep)
  sub-row program node offset deeper walk made e is = subst (λ m. IfSome m (IsRow first walks deep)) (sym e) (sub-some program node offset deeper walk is)

  pub switch-some : (also : RowExpr → Type 0) (arms : Vec Arm) (o : Option WalkRow) → All (IsArm first walks deep) arms.items → IfSome o (λ made. (value : RowExpr) × (made ≡ row.Switch value arms) × also value × IsOrdered value)
      → IfSome o (IsRow first walks deep)
  switch-some also arms None all is = tt
  switch-some also arms (Some r) all is = subst (IsRow first walks deep) (sym is.1) (row-switch first walks deep is.0 arms is.3 all)

-- ---- a walk that stands among others

-- equal rows have the same parts
equal-part : (r s : WalkRow) → IsEqual r s → parts_in r ≡ parts_in s
equal-part r s equal = elim equal [
  | inl same ↦ ap parts_in same
  | inr both ↦ ap parts_in both.one ∙ switch-parts both.desc both.arms ∙ ap (λ (arms : List Arm). flat_map (λ a. parts_of (out-Arm a).row) arms) both.same ∙ sym (switch-parts both.desc both.others)
      ∙ ap parts_in (sym both.other)
]

pub equal-parts : (rs ss : List WalkRow) → AreEqual rs ss → flat_map parts_in rs ≡ flat_map parts_in ss
equal-parts [] ss p = ap (λ l. flat_map parts_in l) (sym p)
equal-parts (r ∷ rs) [] p = absurd p
equal-parts (r ∷ rs) (s ∷ ss) p = ap (λ l. l ++ flat_map parts_in rs) (equal-part r s p.0) ∙ ap (λ l. parts_in s ++ l) (equal-parts rs ss p.1)

module _ (program : Program) (first : ℕ) (walks : List (List WalkRow)) (node : ℕ) (rows : List WalkRow) (place : ℕ) (here : slice_get walks place ≡ Some rows) where
  pub rows-there : (tables : Tables) → HaveWalks first walks tables → rows_of tables (first + place) ≡ rows
  rows-there tables h =
      let within = slice_get_within walks place rows here in
      let at : first + place - first ≡ place = omega arith in
      let far : first ≤ first + place = omega arith in
      ap (λ ws. get_or ws (first + place) []) h.is ∙ get_or-append_right h.front (walks ++ h.rest) first (first + place) [] h.long far ∙ ap (λ i. get_or (walks ++ h.rest) i []) at
      ∙ get_or_append_left walks h.rest [] place within ∙ get_or_from_slice_get walks place rows [] here

  pub walk-at : (made : List WalkRow) → AreEqual rows made → AreRows first walks (IsWithinDepth program node) made → IsWalkOf program first walks node (first + place)
  walk-at made equal are tables h =
      let long = length-tables first walks tables h in
      let inside = slice_get_within walks place rows here in
      record {
        there = omega (arith, long, inside);
        nests = λ depth within.
            nests-of tables depth (first + place) (subst (PartsWithin tables depth) (sym (ap (λ rs. flat_map parts_in rs) (rows-there tables h) ∙ equal-parts rows made equal)) (are.nests tables h depth within));
      }

-- structures stand inside one another at most so deep
shallow-enough : (program : Program) (node : ℕ) → Settled program → (depth : ℕ) → Shallow depth → IsWithinDepth program node depth
shallow-enough program node settled depth deep n inner nests = omega (arith, deep, settled.depth n (record { 0 = node }) inner nests)

-- ---- parts that are kept

pub is-eq-first : (o rest : Ordering) → is_eq (ordering_then o rest) ≡ true → o ≡ Equal
is-eq-first Less rest e = absurd (cc)
is-eq-first Equal rest e = refl
is-eq-first Greater rest e = absurd (cc)

same-node : (p q : Part) → is_at (part_cmp p) q ≡ true → q.node ≡ p.node
same-node p q e = sym (exact_unsigned p.node q.node (is-eq-first (nat_cmp p.node q.node) _ e))

put-cases : (p q : Part) (walk : Option ℕ) (n : ℕ) (old new : Option (Option ℕ)) (b : Bool) → is_at (part_cmp p) q ≡ b → new ≡ cond b (Some walk) old → new ≡ Some (Some n)
    → (old ≡ Some (Some n)) ⊎ ((q.node ≡ p.node) × (walk ≡ Some n))
put-cases p q walk n old new true at is there =
    let got : Some walk ≡ Some (Some n) = sym is ∙ there in
    let same : walk ≡ Some n = cc in
    inr (same-node p q at, same)
put-cases p q walk n old new false at is there = inl (sym is ∙ there)

pub put-known : (p : Part) (part : Option Part) (walk : Option ℕ) (old new : BTreeMap Part (Option ℕ)) → part ≡ Some p → ((q : Part) → get part_cmp new q ≡ cond (is_at (part_cmp p) q) (Some walk) (get part_cmp old q))
    → (q : Part) (n : ℕ) → get part_cmp new q ≡ Some (Some n) → (get part_cmp old q ≡ Some (Some n)) ⊎ ((p : Part) × (part ≡ Some p) × (q.node ≡ p.node) × (walk ≡ Some n))
put-known p part walk old new is updates q n there = elim (put-cases p q walk n (get part_cmp old q) (get part_cmp new q) (is_at (part_cmp p) q) refl (updates q) there) [
  | inl h ↦ inl h
  | inr h ↦ inr (p, is, h.0, h.1)
]

-- ---- parts that compare equal are equal

pub is-eq-rest : (o rest : Ordering) → is_eq (ordering_then o rest) ≡ true → rest ≡ Equal
is-eq-rest Less rest e = absurd (cc)
is-eq-rest Equal Less e = absurd (cc)
is-eq-rest Equal Equal e = refl
is-eq-rest Equal Greater e = absurd (cc)
is-eq-rest Greater rest e = absurd (cc)

pub is-eq-of : (o : Ordering) → o ≡ Equal → is_eq o ≡ true
is-eq-of o e = ap is_eq e

exact-option : {X : Type 0} (R : X → X → Ordering) → ((a b : X) → R a b ≡ Equal → a ≡ b) → (a b : Option X) → option_cmp R a b ≡ Equal → a ≡ b
exact-option R exact None None e = refl
exact-option R exact None (Some b) e = absurd (cc)
exact-option R exact (Some a) None e = absurd (cc)
exact-option R exact (Some a) (Some b) e = ap Some (exact a b e)

exact-site : (a b : Site) → site_cmp a b ≡ Equal → a ≡ b
exact-site a b e =
    let is = is-eq-of (site_cmp a b) e in
    let container = exact_unsigned a.container b.container (is-eq-first (nat_cmp a.container b.container) (nat_cmp a.field b.field) is) in
    let field = exact_unsigned a.field b.field (is-eq-rest (nat_cmp a.container b.container) (nat_cmp a.field b.field) is) in
    let one : a ≡ record { container = b.container; field = a.field } = ap (λ (n : ℕ). record { container = n; field = a.field }) container in
    one ∙ ap (λ (n : ℕ). record { container = b.container; field = n }) field

exact-part : (p q : Part) → is_at (part_cmp p) q ≡ true → p ≡ q
exact-part p q is =
    let node = exact_unsigned p.node q.node (is-eq-first (nat_cmp p.node q.node) _ is) in
    let rest = is-eq-of _ (is-eq-rest (nat_cmp p.node q.node) (ordering_then (option_cmp site_cmp p.site q.site) (option_cmp nat_cmp p.outermost q.outermost)) is) in
    let site = exact-option site_cmp exact-site p.site q.site (is-eq-first (option_cmp site_cmp p.site q.site) (option_cmp nat_cmp p.outermost q.outermost) rest) in
    let outermost = exact-option nat_cmp exact_unsigned p.outermost q.outermost (is-eq-rest (option_cmp site_cmp p.site q.site) (option_cmp nat_cmp p.outermost q.outermost) rest) in
    let one : p ≡ record { node = q.node; site = p.site; outermost = p.outermost } = ap (λ (n : ℕ). record { node = n; site = p.site; outermost = p.outermost }) node in
    let two : p ≡ record { node = q.node; site = q.site; outermost = p.outermost } = one ∙ ap (λ (s : Option Site). record { node = q.node; site = s; outermost = p.outermost }) site in
    two ∙ ap (λ (o : Option ℕ). record { node = q.node; site = q.site; outermost = o }) outermost

same-cases : (p q : Part) (walk w : Option ℕ) (old new : Option (Option ℕ)) (b : Bool) → is_at (part_cmp p) q ≡ b → new ≡ cond b (Some walk) old → new ≡ Some w → (old ≡ Some w) ⊎ ((p ≡ q) × (walk ≡ w))
same-cases p q walk w old new true at is there =
    let got : Some walk ≡ Some w = sym is ∙ there in
    let same : walk ≡ w = cc in
    inr (exact-part p q at, same)
same-cases p q walk w old new false at is there = inl (sym is ∙ there)

-- what is known of a part after one was put in is what was known, or what was put in under this very part
pub put-kept : (p : Part) (part : Option Part) (walk : Option ℕ) (old new : BTreeMap Part (Option ℕ)) → part ≡ Some p → ((q : Part) → get part_cmp new q ≡ cond (is_at (part_cmp p) q) (Some walk) (get part_cmp old q))
    → (q : Part) (w : Option ℕ) → get part_cmp new q ≡ Some w → (get part_cmp old q ≡ Some w) ⊎ ((part ≡ Some q) × (walk ≡ w))
put-kept p part walk old new is updates q w there = elim (same-cases p q walk w (get part_cmp old q) (get part_cmp new q) (is_at (part_cmp p) q) refl (updates q) there) [
  | inl h ↦ inl h
  | inr h ↦ inr (is ∙ ap Some h.0, h.1)
]

at-some : (part : Option Part) (p : Part) (id : ℕ) → part ≡ Some p → IfSome part (λ p. p.node ≡ id) → p.node ≡ id
at-some part p id e h = subst (λ o. IfSome o (λ p. p.node ≡ id)) e h

some-known : (program : Program) (parts : Parts) (id : ℕ) (p : Part) (known : Option ℕ) → AreParts program parts → p.node ≡ id → get part_cmp parts.known p ≡ Some known
    → IfSome known (IsWalkOf program (first_part program) parts.walks.items id)
some-known program parts id p None are e there = tt
some-known program parts id p (Some n) are e there = subst (λ i. IsWalkOf program (first_part program) parts.walks.items i n) e (are.known p n there)

pub known-walk : (program : Program) (parts : Parts) → AreParts program parts → (part : Option Part) (id : ℕ) → IfSome part (λ p. p.node ≡ id) → (known : Option ℕ)
    → ((p : Part) × (part ≡ Some p) × (get part_cmp parts.known p ≡ Some known)) → IfSome known (IsWalkOf program (first_part program) parts.walks.items id)
known-walk program parts are part id node known h = some-known program parts id h.0 known are (at-some part h.0 id h.1 node) h.2

module _ (program : Program) (settled : Settled program) (part : Option Part) (id : ℕ) (rows : List WalkRow) (old new : Parts) where
  kept-some : (n : ℕ) → AreRows (first_part program) old.walks.items (IsWithinDepth program id) rows → Keeps (first_part program) part rows old new (Some n) → IsWalkOf program (first_part program) new.walks.items id n
  kept-some n are keeps =
      let first = first_part program in
      let Are = λ (ws : List (List WalkRow)). AreRows first ws (IsWithinDepth program id) rows in
      let grown : Are new.walks.items = subst Are (sym keeps.files.grown) (rows-grow first old.walks.items keeps.files.more (IsWithinDepth program id) rows are) in
      let has = keeps.has.1 in
      subst (IsWalkOf program first new.walks.items id) (sym has.number) (walk-at program first new.walks.items id keeps.has.0 has.place has.here rows keeps.has.2 grown)

  pub kept-walk : (walk : Option ℕ) → AreRows (first_part program) old.walks.items (IsWithinDepth program id) rows → Keeps (first_part program) part rows old new walk
      → IfSome walk (IsWalkOf program (first_part program) new.walks.items id)
  kept-walk None are keeps = tt
  kept-walk (Some n) are keeps = kept-some n are keeps

  more-rows : (walk : Option ℕ) → AreRows (first_part program) old.walks.items (IsWithinDepth program id) rows → (keeps : Keeps (first_part program) part rows old new walk)
      → All (AreRows (first_part program) old.walks.items Shallow) keeps.files.more
  more-rows walk are keeps =
      let P = AreRows (first_part program) old.walks.items Shallow in
      elim keeps.shared [
        | inl h ↦ subst (All P) (sym h.0) (All-nil P)
        | inr h ↦ subst (All P) (sym h.0)
            (All-cons P rows [] (rows-deeper (first_part program) old.walks.items (IsWithinDepth program id) Shallow rows (λ depth deep. shallow-enough program id settled depth deep) are) (All-nil P))
      ]

  kept-known : (walk : Option ℕ) → AreParts program old → AreRows (first_part program) old.walks.items (IsWithinDepth program id) rows → Keeps (first_part program) part rows old new walk
      → IfSome part (λ p. p.node ≡ id) → (q : Part) (n : ℕ) → get part_cmp new.known q ≡ Some (Some n) → IsWalkOf program (first_part program) new.walks.items q.node n
  kept-known walk parts are keeps node q n there = elim (keeps.known q n there) [
    | inl h ↦ subst (λ ws. IsWalkOf program (first_part program) ws q.node n) (sym keeps.files.grown) (walk-grows (first_part program) old.walks.items keeps.files.more program q.node n (parts.known q n h))
    | inr h ↦
        let same : q.node ≡ id = h.2 ∙ at-some part h.0 id h.1 node in
        subst (λ i. IsWalkOf program (first_part program) new.walks.items i n) (sym same)
        (kept-some n are (subst (Keeps (first_part program) part rows old new) h.3 keeps))
  ]

  pub kept-grows : (walk : Option ℕ) → AreParts program old → AreRows (first_part program) old.walks.items (IsWithinDepth program id) rows → Keeps (first_part program) part rows old new walk
      → IfSome part (λ p. p.node ≡ id) → Grows program old new
  kept-grows walk parts are keeps node =
      let first = first_part program in
      let P = AreRows first old.walks.items Shallow in
      record {
        more = keeps.files.more;
        walks = keeps.files.grown;
        are = record {
          known = kept-known walk parts are keeps node;
          rows =
              subst (λ ws. All (AreRows first ws Shallow) ws) (sym keeps.files.grown)
              (All-weaker P (AreRows first (old.walks.items ++ keeps.files.more) Shallow) (λ rs is. rows-grow first old.walks.items keeps.files.more Shallow rs is) (old.walks.items ++ keeps.files.more)
              (All-append P old.walks.items keeps.files.more parts.rows (more-rows walk are keeps)));
          turns = keeps.turns;
        };
      }
