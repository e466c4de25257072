-- How many walks of parts there are: what is known of them, and what is counted.
use Rattle.std.proofs.Common.{◌≡◌, ◌≢◌, ◌∙◌, ℕ, zero, suc, ◌+◌, ◌-◌, ◌*◌, ◌≤◌, ◌<◌, Bool, true, false, cond, ◌||◌, List, [], ◌∷◌, ◌++◌, length, refl, ap, sym, subst, Option, Some, None, Ok, Err, Result, ◌⊎◌, inl, inr, arith}
use Rattle.std.specs.Prelude.{All, IfSome, IfOk, OnOk, MatchOption, flat_map, option_to_list, slice_get}
use Rattle.std.specs.Option.{option_map, option_cmp}
use Rattle.std.specs.Ordering.{nat_cmp, ordering_then, is_eq}
use Rattle.std.specs.declared.cmp.Ordering.{Ordering}
use Rattle.std.specs.declared.cmp.Ordering.TheVariants.{Equal}
use Rattle.std.specs.BTreeMap.{get, is_at}
use Rattle.std.proofs.lemmas.List.{length-append, append-nil}
use Rattle.std.proofs.lemmas.List.Elements.{All-append, All-nil, All-cons, All-weaker, All-get_or}
use Rattle.std.proofs.lemmas.List.Quantifiers.{all_pairs_push}
use Rattle.std.proofs.lemmas.Option.{same_Some}
use Rattle.gt_types.specs.declared.types.TypeId.{TypeId}
use Rattle.gt_types.specs.declared.types.Ty.TheVariants as ty
use Rattle.gt_types.specs.declared.expressions.Expr.{Expr}
use Rattle.gt_types.specs.declared.program.Structure.{Structure}
use Rattle.gt_types.specs.Contains.{HasStructure, itself}
use Rattle.gt_layout.specs.declared.planes.Plane.{Plane}
use Rattle.gt_layout.specs.Progress.{IsWithinDepth, HoldsWithinDepth}
use Rattle.gt_layout.proofs.Capacities.{node_within}
use Rattle.gt_tree.proofs.Types.{innermost-node}
use Rattle.gt_walk.specs.declared.rows.WalkRow.{WalkRow}
use Rattle.gt_walk.specs.declared.rows.WalkRow.TheVariants.{Note}
use Rattle.gt_walk.specs.declared.tables.Tables.{Tables}
use Rattle.gt_walk.specs.Nested.{parts_in}
use Rattle.gt_edges.specs.Walks.{first_of as first_node, inside}
use Rattle.gt_tables.specs.declared.sources.Site.{Site}
use Rattle.gt_tables.specs.declared.sources.Lies.{Lies}
use Rattle.gt_tables.specs.declared.sources.Part.{Part}
use Rattle.gt_tables.specs.declared.sources.Source.{Source}
use Rattle.gt_tables.specs.declared.parts.Case.{Case}
use Rattle.gt_tables.specs.declared.parts.Parts.{Parts}
use Rattle.gt_tables.specs.Building.{IsSource, site_cmp, part_cmp, case_cmp, first_of, HaveWalks, Files, Keeps, IsPlaced, IsSiteOf, ServesPart, flag_at, around_of, outermost_if, part_at, part_on_site, part_of, depends}
use Rattle.gt_tables.specs.Ordered.{IsOrdered, exprs_in}
use Rattle.gt_tables.specs.Sharing.{PartWalk, ReadsOutermost, Encloses, IsPart, IsOutermostRead, LiesIn, IsPartWalk, ArePartsShared, LiesAt, DependsOnSite}
use Rattle.gt_tables.specs.Counting.{IsKnown, Stays, told_site, told, held_site, held, named_by, IsKeptWalk, ServesPlace, AreApart, Counted, StaysCounted, IsDeeper, with_site, Counts}
use Rattle.gt_tables.proofs.Growing.{fewer, append-assoc}
use Rattle.gt_tables.proofs.Enclosing.{encloses-site, encloses-part}
use Rattle.gt_tables.proofs.Serving.{structure-there}
use Rattle.gt_tables.proofs.Filing.{both-tied, nat-tied, files-add, more-added}
use Rattle.gt_tables.proofs.NamedParts.{bare-parts}
use Rattle.gt_tables.proofs.Apart.{kept-equal, apart-one, apart-known, apart-shared, apart-part, apart-root, apart-none, tables-apart}

-- ---- results

pub if-kept : {X E : Type 0} (P Q R : X → Type 0) (S : Type 0) (r : Result X E) → ((x : X) → P x → Q x → S → R x) → IfOk {E = E} r P → IfOk {E = E} r Q → OnOk {E = E} r S → IfOk {E = E} r R
if-kept P Q R S (Ok x) f p q s = f x p q s
if-kept P Q R S (Err e) f p q s = tt

-- ---- a part is in its own place of the map

option-tied : {X : Type 0} (R : X → X → Ordering) → ((x : X) → R x x ≡ Equal) → (o : Option X) → option_cmp R o o ≡ Equal
option-tied R tied None = refl
option-tied R tied (Some x) = tied x

site-tied : (s : Site) → site_cmp s s ≡ Equal
site-tied s = both-tied (nat_cmp s.container s.container) (nat_cmp s.field s.field) (nat-tied s.container) (nat-tied s.field)

part-tied : (p : Part) → is_at (part_cmp p) p ≡ true
part-tied p =
    let inner = both-tied (option_cmp site_cmp p.site p.site) (option_cmp nat_cmp p.outermost p.outermost) (option-tied site_cmp site-tied p.site) (option-tied nat_cmp nat-tied p.outermost) in
    ap is_eq (both-tied (nat_cmp p.node p.node) (ordering_then (option_cmp site_cmp p.site p.site) (option_cmp nat_cmp p.outermost p.outermost)) (nat-tied p.node) inner)

known-after : (walk : Option ℕ) (old new : Option (Option ℕ)) (b : Bool) → new ≡ cond b (Some walk) old → (w : Option ℕ) → old ≡ Some w → (v : Option ℕ) × (new ≡ Some v)
known-after walk old new true is w e = (walk, is)
known-after walk old new false is w e = (w, is ∙ e)

-- what was looked at stays so when a part is put in
pub put-stays : (p : Part) (part : Option Part) (walk : Option ℕ) (old new : Parts) → part ≡ Some p → ((q : Part) → get part_cmp new.known q ≡ cond (is_at (part_cmp p) q) (Some walk) (get part_cmp old.known q)) → Stays part old new
put-stays p part walk old new is updates = record {
  kept = λ q there. known-after walk (get part_cmp old.known q) (get part_cmp new.known q) (is_at (part_cmp p) q) (updates q) there.0 there.1;
  now = λ q e.
      let same : p ≡ q = same_Some p q (sym is ∙ e) in
      let here = updates p ∙ ap (λ b. cond b (Some walk) (get part_cmp old.known p)) (part-tied p) in
      (walk, subst (λ x. get part_cmp new.known x ≡ Some walk) same here);
}

-- walks alone were added before
pub stays-after : (part : Option Part) (old mid new : Parts) → mid.known ≡ old.known → Stays part mid new → Stays part old new
stays-after part old mid new same stays = record {
  kept = λ q there. stays.kept q (there.0, ap (λ m. get part_cmp m q) same ∙ there.1);
  now = stays.now;
}

-- ---- a part as it is told is held as it was

site-back : (o : Option Site) → option_map held_site (option_map told_site o) ≡ o
site-back None = refl
site-back (Some s) = refl

held-told : (p : Part) → held (told p) ≡ p
held-told p = ap (λ (s : Option Site). let q : Part = record { node = p.node; site = s; outermost = p.outermost } in q) (site-back p.site)

-- ---- what the code keeps as a part is one

or-cases : (a b : Bool) → (a || b) ≡ true → (a ≡ true) ⊎ (b ≡ true)
or-cases true b e = inl refl
or-cases false b e = inr e

or-none : (a b : Bool) → (a || b) ≡ false → (a ≡ false) × (b ≡ false)
or-none true b e = absurd (cc (e))
or-none false b e = (refl, e)

module _ (source : Source) (is : IsSource source) (lies : Lies) (node : TypeId) where
  abbrev outermost : TypeId
  outermost = first_node (around_of lies.around).outermost node

  -- what is told where a structure reads it, and else nothing
  outermost-told : (reader : TypeId) (t : Structure) → HasStructure source.program.now reader t → Encloses source.program.now outermost reader → (b : Bool) → flag_at source.readers.now reader.0 ≡ b
      → MatchOption (outermost_if b (Some outermost)) (¬ ReadsOutermost source.program.now reader) (IsOutermostRead source.program.now reader)
  outermost-told reader t has encloses true e = ((is.readers reader t has).0 e, encloses)
  outermost-told reader t has encloses false e = λ reads. let told = (is.readers reader t has).1 reads in absurd (cc (told, e))

  outermost-there : (b : Bool) → IfSome (outermost_if b (Some outermost)) (λ o. (inside (around_of lies.around) node).outermost ≡ Some (record { 0 = o }))
  outermost-there true = refl
  outermost-there false = tt

  -- what holds of a part with its site and of one without holds of each
  module _ (P : Part → Type 0) (s : Structure) (has : HasStructure source.program.now node s) (off : (s.is_union || flag_at source.inner.now node.0) ≡ false → P (part_at source lies node None))
      (on : (site : Site) → lies.site ≡ Some site → (s.is_union || flag_at source.inner.now node.0) ≡ true → P (part_at source lies node (Some site))) where
    on-site : (o : Option Site) → lies.site ≡ o → (s.is_union || flag_at source.inner.now node.0) ≡ true → (p : Part) → part_on_site source lies node o ≡ Some p → P p
    on-site (Some site) e depends p at = subst P (same_Some (part_at source lies node (Some site)) p at) (on site e depends)
    on-site None e depends p at = absurd (cc (at))

    by-site : (d : Bool) → (s.is_union || flag_at source.inner.now node.0) ≡ d → (p : Part) → cond d (part_on_site source lies node lies.site) (Some (part_at source lies node None)) ≡ Some p → P p
    by-site true e p at = on-site lies.site refl e p at
    by-site false e p at = subst P (same_Some (part_at source lies node None) p at) (off e)

    each-part : (p : Part) → part_of source lies node ≡ Some p → P p
    each-part p at =
        let same = ap (λ o. cond (depends source node o) (part_on_site source lies node lies.site) (Some (part_at source lies node None))) has in
        by-site (s.is_union || flag_at source.inner.now node.0) refl p (sym same ∙ at)

  module _ (desc : Option Expr) (placed : IsPlaced source.program.now lies (ty.Node node desc)) where
    at-site : (site : Site) → lies.site ≡ Some site → IsSiteOf source.program.now lies.around (Some site) (ty.Node node desc)
    at-site site e = subst (λ o. IsSiteOf source.program.now lies.around o (ty.Node node desc)) e placed.site

    module _ (s : Structure) (has : HasStructure source.program.now node s) where
      free-of : (s.is_union || flag_at source.inner.now node.0) ≡ false → ¬ DependsOnSite source.program.now node
      free-of off (t, also, on) =
          let same : s ≡ t = same_Some s t (sym has ∙ also) in
          let none = or-none s.is_union (flag_at source.inner.now node.0) off in
          elim on [
            | inl union ↦ absurd (cc (none.0, union, same))
            | inr inner ↦ let flag = (is.inner node s has).1 inner in absurd (cc (none.1, flag))
          ]

      part-off : (s.is_union || flag_at source.inner.now node.0) ≡ false → IsPart source.program.now (told (part_at source lies node None))
      part-off off = record {
        there = (s, has);
        site = free-of off;
        outermost = outermost-told node s has (encloses-part source.program.now lies node desc placed (s, has)) (flag_at source.readers.now node.0) refl;
      }

      depends-on : (s.is_union || flag_at source.inner.now node.0) ≡ true → DependsOnSite source.program.now node
      depends-on e = elim (or-cases s.is_union (flag_at source.inner.now node.0) e) [
        | inl union ↦ (s, has, inl union)
        | inr inner ↦ (s, has, inr ((is.inner node s has).0 inner))
      ]

      part-on : (site : Site) → lies.site ≡ Some site → (s.is_union || flag_at source.inner.now node.0) ≡ true → IsPart source.program.now (told (part_at source lies node (Some site)))
      part-on site e on =
          let at = at-site site e in
          let container : TypeId = record { 0 = site.container } in
          let lies_at : LiesAt source.program.now node (told_site site) = (at.0, at.1, at.3, at.4, ap itself at.5 ∙ ap itself (innermost-node node desc)) in
          record {
            there = (s, has);
            site = (lies_at, depends-on on);
            outermost = outermost-told container at.0 at.3 (encloses-site source.program.now lies node desc placed site e) (flag_at source.readers.now site.container) refl;
          }

    lies-off : LiesIn source.program.now (told (part_at source lies node None)) (around_of lies.around) desc
    lies-off = record { site = tt; outermost = outermost-there (flag_at source.readers.now node.0) }

    lies-on : (site : Site) → lies.site ≡ Some site → LiesIn source.program.now (told (part_at source lies node (Some site))) (around_of lies.around) desc
    lies-on site e =
        let at = at-site site e in
        record {
          site = (at.2, (at.0, at.1, at.3, at.4, at.5 ∙ innermost-node node desc));
          outermost = outermost-there (flag_at source.readers.now site.container);
        }

    module _ (there : node.0 < length source.program.now.structures) (p : Part) (at : part_of source lies node ≡ Some p) where
      -- a part is kept under its label
      pub is-part : IsPart source.program.now (told p)
      is-part =
          let found = structure-there source.program.now node there in
          each-part (λ q. IsPart source.program.now (told q)) found.0 found.1 (part-off found.0 found.1) (part-on found.0 found.1) p at

      -- and lies where its label tells
      lies-there : LiesIn source.program.now (told p) (around_of lies.around) desc
      lies-there =
          let found = structure-there source.program.now node there in
          each-part (λ q. LiesIn source.program.now (told q) (around_of lies.around) desc) found.0 found.1 (λ off. lies-off) (λ site e on. lies-on site e) p at

      -- so its walk is that of a part where it lies
      pub place-there : (walks : List (List WalkRow)) (walk : ℕ) → p.node ≡ node.0 → ServesPart source walks lies.around node desc (Some walk) → ServesPlace source walks (told p) walk
      place-there walks walk id serves =
          let same : node ≡ record { 0 = p.node } = ap (λ (n : ℕ). let t : TypeId = record { 0 = n } in t) (sym id) in
          (lies.around, desc, lies-there, subst (λ t. ServesPart source walks lies.around t desc (Some walk)) same serves)

  none-on : (o : Option Site) → part_on_site source lies node o ≡ None → o ≡ None
  none-on (Some site) e = absurd (cc (e))
  none-on None e = refl

  none-by : (d : Bool) → cond d (part_on_site source lies node lies.site) (Some (part_at source lies node None)) ≡ None → lies.site ≡ None
  none-by true e = none-on lies.site e
  none-by false e = absurd (cc (e))

  -- what is no part lies in a root
  pub no-part : part_of source lies node ≡ None → lies.site ≡ None
  no-part e = none-by (depends source node (slice_get source.program.now.structures node.0)) e

-- ---- what is counted

-- of which roots' own walks and which walks in hand rows name each
abbrev pub ApartIn : Source → Parts → List ℕ → List ℕ → Type 0
ApartIn source parts own hand = AreApart source parts.walks.items parts.cases parts.known own hand

-- other walks are in hand
counted-hand : (source : Source) (parts : Parts) (n : ℕ) (own hand after : List ℕ) → (ApartIn source parts own hand → ApartIn source parts own after) → Counted source parts n own hand → Counted source parts n own after
counted-hand source parts n own hand after apart c = record {
  list = c.list;
  each = c.each;
  serve = c.serve;
  distinct = c.distinct;
  known = c.known;
  few = c.few;
  apart = apart c.apart;
}

pub counted-more : (source : Source) (parts : Parts) (n m : ℕ) (own hand : List ℕ) → n ≤ m → Counted source parts n own hand → Counted source parts m own hand
counted-more source parts n m own hand le c = record {
  list = c.list;
  each = c.each;
  serve = c.serve;
  distinct = c.distinct;
  known = c.known;
  few = omega (arith, c.few, le);
  apart = c.apart;
}

serves-on : (source : Source) (old new : Parts) → Files old.walks.items old.cases new.walks.items new.cases → (p : PartWalk) → ServesPlace source old.walks.items p.part p.walk → ServesPlace source new.walks.items p.part p.walk
serves-on source old new files p s = (
  s.0,
  s.1,
  s.2,
  λ tables h. s.3 tables (fewer (first_of source) old.walks.items files.more tables (subst (λ ws. HaveWalks (first_of source) ws tables) files.grown h)),
)

-- walks that are no part's
pub counted-stay : (source : Source) (part : Option Part) (old new : Parts) (n more : ℕ) (own now hand after : List ℕ) → Files old.walks.items old.cases new.walks.items new.cases → Stays part old new
    → length new.walks.items ≤ length old.walks.items + more → (ApartIn source old own hand → ApartIn source new now after) → Counted source old n own hand → Counted source new (n + more) now after
counted-stay source part old new n more own now hand after files stays walks apart c = record {
  list = c.list;
  each = c.each;
  serve =
      All-weaker (λ (p : PartWalk). ServesPlace source old.walks.items p.part p.walk) (λ (p : PartWalk). ServesPlace source new.walks.items p.part p.walk) (λ p s. serves-on source old new files p s) c.list
      c.serve;
  distinct = c.distinct;
  known = All-weaker (λ (q : PartWalk). IsKnown old (held q.part)) (λ (q : PartWalk). IsKnown new (held q.part)) (λ q there. stays.kept (held q.part) there) c.list c.known;
  few = omega (arith, c.few, walks);
  apart = apart c.apart;
}

-- a walk of a part that was not looked at
module _ (source : Source) (part : Option Part) (p : Part) (old new : Parts) (walk : ℕ) (e : part ≡ Some p) (is : IsPart source.program.now (told p)) (unknown : IsKnown old p → ⊥)
    (files : Files old.walks.items old.cases new.walks.items new.cases) (serves : ServesPlace source new.walks.items (told p) walk) (stays : Stays part old new) where
  abbrev entry : PartWalk
  entry = record { part = told p; walk = walk }

  counted-add : (n : ℕ) (own hand after : List ℕ) → length new.walks.items ≤ length old.walks.items + 1 → (ApartIn source old own hand → ApartIn source new own after) → Counted source old n own hand
      → Counted source new n own after
  counted-add n own hand after walks apart c =
      let Old = λ (q : PartWalk). IsKnown old (held q.part) in
      let New = λ (q : PartWalk). IsKnown new (held q.part) in
      let Was = λ (q : PartWalk). ServesPlace source old.walks.items q.part q.walk in
      let Serves = λ (q : PartWalk). ServesPlace source new.walks.items q.part q.walk in
      let Is = λ (q : PartWalk). IsPart source.program.now q.part in
      record {
        list = c.list ++ entry ∷ [];
        each = All-append Is c.list (entry ∷ []) c.each (All-cons Is entry [] is (All-nil Is));
        serve = All-append Serves c.list (entry ∷ []) (All-weaker Was Serves (λ q s. serves-on source old new files q s) c.list c.serve) (All-cons Serves entry [] serves (All-nil Serves));
        distinct =
            all_pairs_push (λ (p q : PartWalk). p.part ≢ q.part) c.list entry c.distinct
            (λ k d within same. unknown (subst (IsKnown old) (ap held same ∙ held-told p) (All-get_or Old c.list k d within c.known)));
        known =
            All-append New c.list (entry ∷ []) (All-weaker Old New (λ q there. stays.kept (held q.part) there) c.list c.known)
            (All-cons New entry [] (subst (IsKnown new) (sym (held-told p)) (stays.now p e)) (All-nil New));
        few = let long = length-append c.list (entry ∷ []) in omega (arith, walks, c.few, long);
        apart = apart c.apart;
      }

pub with-more : (site : Option Site) (n : ℕ) → n ≤ with_site site n
with-more (Some site) n = omega arith
with-more None n = omega arith

at-node : (part : Option Part) (p : Part) (id : ℕ) → part ≡ Some p → IfSome part (λ p. p.node ≡ id) → p.node ≡ id
at-node part p id e h = subst (λ o. IfSome o (λ p. p.node ≡ id)) e h

-- what is kept of a structure that lies there, whose rows begin with its note
module _ (source : Source) (lies : Lies) (part : Option Part) (node : TypeId) (desc : Option Expr) (old new : Parts) (plane : Plane) (rest rows : List WalkRow)
    (rows-are : rows ≡ Note plane.size None ∷ rest) (stays : Stays part old new) (unknown : (p : Part) → part ≡ Some p → IsKnown old p → ⊥)
    (are : (p : Part) → part ≡ Some p → IsPart source.program.now (told p)) (none : part ≡ None → lies.site ≡ None) where
  kept-more : (o : Option Part) → part ≡ o → (walk : ℕ) → Files old.walks.items old.cases new.walks.items new.cases → ((p : Part) → part ≡ Some p → ServesPlace source new.walks.items (told p) walk)
      → length new.walks.items ≤ length old.walks.items + 1 → (n : ℕ) (own hand after : List ℕ) → (ApartIn source old own hand → ApartIn source new own after) → Counted source old n own hand
      → Counted source new (with_site lies.site n) own after
  kept-more (Some p) e walk files places walks n own hand after apart c =
      counted-more source new n (with_site lies.site n) own after (with-more lies.site n)
      (counted-add source part p old new walk e (are p e) (unknown p e) files (places p e) stays n own hand after walks apart c)
  kept-more None e walk files places walks n own hand after apart c =
      subst (λ s. Counted source new (with_site s n) own after) (sym (none e)) (counted-stay source part old new n 1 own own hand after files stays walks apart c)

  -- no walk is added
  kept-same : (files : Files old.walks.items old.cases new.walks.items new.cases) → files.more ≡ [] → (n : ℕ) (own hand after : List ℕ) → (ApartIn source old own hand → ApartIn source new own after)
      → Counted source old n own hand → Counted source new (with_site lies.site n) own after
  kept-same files nothing n own hand after apart c =
      let long = ap length files.grown ∙ length-append old.walks.items files.more in
      let zero-long = ap length nothing in
      let walks : length new.walks.items ≤ length old.walks.items + 0 = omega (arith, long, zero-long) in
      counted-more source new (n + 0) (with_site lies.site n) own after (let more = with-more lies.site n in omega (arith, more))
      (counted-stay source part old new n 0 own own hand after files stays walks apart c)

  -- what is known now was known, or is the walk of this part
  learned : (walk : Option ℕ) → Keeps (first_of source) part rows old new walk → ((w : ℕ) → walk ≡ Some w → IsKeptWalk source new.cases w) → (q : Part) (w : ℕ) → get part_cmp new.known q ≡ Some (Some w)
      → (get part_cmp old.known q ≡ Some (Some w)) ⊎ IsKeptWalk source new.cases w
  learned walk keeps kept q w got = elim (keeps.known q w got) [
    | inl before ↦ inl before
    | inr h ↦ inr (kept w h.3)
  ]

  same-walks : (files : Files old.walks.items old.cases new.walks.items new.cases) → files.more ≡ [] → new.walks.items ≡ old.walks.items
  same-walks files nothing = files.grown ∙ ap (λ m. old.walks.items ++ m) nothing ∙ append-nil old.walks.items

  -- a note alone names no walk
  no-rest : (rs : List WalkRow) → length rs ≤ 0 → rs ≡ []
  no-rest [] few = refl
  no-rest (r ∷ rs) few = absurd (omega (arith, few))

  names-none : length rows ≤ 1 → flat_map parts_in rows ≡ []
  names-none few =
      let one = ap length rows-are in
      bare-parts plane.size None rest rows rows-are (no-rest rest (omega (arith, one, few)))

  -- a walk is added where the part was not looked at and has other rows, or lies in a root
  counted-kept : (walk : Option ℕ) → Keeps (first_of source) part rows old new walk → (walk ≡ None → length rows ≤ 1) → ((p : Part) (w : ℕ) → part ≡ Some p → walk ≡ Some w → ServesPlace source new.walks.items (told p) w)
      → ((w : ℕ) → walk ≡ Some w → ServesPart source new.walks.items lies.around node desc (Some w)) → (n : ℕ) (own hand : List ℕ) → Counted source old n own (hand ++ flat_map parts_in rows)
      → Counted source new (with_site lies.site n) own (hand ++ option_to_list walk)
  counted-kept None keeps few places serves n own hand c =
      let nothing = keeps.none refl in
      let bare = names-none (few refl) in
      kept-same keeps.files nothing.0 n own (hand ++ flat_map parts_in rows) (hand ++ [])
      (λ a. apart-known source old.walks.items new.walks.items old.cases new.cases old.known new.known own (hand ++ []) (same-walks keeps.files nothing.0) nothing.1 (learned None keeps (λ w e. absurd (cc (e))))
      (subst (λ l. ApartIn source old own (hand ++ l)) bare a)) c
  counted-kept (Some w) keeps few places serves n own hand c =
      let kept = kept-equal source rows new.walks.items new.cases w keeps.has in
      let after = learned (Some w) keeps (λ v e. subst (IsKeptWalk source new.cases) (same_Some w v e) kept) in
      elim keeps.shared [
        | inl nothing ↦
            kept-same keeps.files nothing.0 n own (hand ++ flat_map parts_in rows) (hand ++ w ∷ [])
            (λ a. apart-shared source new.walks.items new.cases new.known own hand rows w keeps.has
            (apart-known source old.walks.items new.walks.items old.cases new.cases old.known new.known own (hand ++ flat_map parts_in rows) (same-walks keeps.files nothing.0) nothing.1 after a)) c
        | inr h ↦
            let long = ap length keeps.files.grown ∙ length-append old.walks.items keeps.files.more in
            let one = ap length h.0 in
            let walks : length new.walks.items ≤ length old.walks.items + 1 = omega (arith, long, one) in
            kept-more part refl w keeps.files (λ p e. places p w e refl) walks n own (hand ++ flat_map parts_in rows) (hand ++ w ∷ [])
            (λ a. apart-part source old.walks.items new.walks.items old.cases new.cases keeps.files rows h.0 old.known own hand a h.3 h.1 new.known w lies.around node desc h.2.0 h.2.1 (serves w refl) after) c
      ]

-- ---- one after another

pub counts-not : (source : Source) (deep : ℕ → Type 0) (more : ℕ → ℕ) (named : List ℕ) (parts : Parts) → ((n : ℕ) → n ≤ more n) → Counts source deep more named named parts parts
counts-not source deep more named parts le = record { counted = λ n own hand c. counted-more source parts n (more n) own (hand ++ named) (le n) c; fresh = λ q there. inl there }

-- nothing is named
pub counts-bare : (source : Source) (deep : ℕ → Type 0) (more : ℕ → ℕ) (named : List ℕ) (parts : Parts) → ((n : ℕ) → n ≤ more n) → named ≡ [] → Counts source deep more [] named parts parts
counts-bare source deep more named parts le none = subst (λ l. Counts source deep more [] l parts parts) (sym none) (counts-not source deep more [] parts le)

-- the walk of a part that was looked at is named
pub counts-known : (source : Source) (deep : ℕ → Type 0) (more : ℕ → ℕ) (parts : Parts) (part : Option Part) (walk : Option ℕ) → ((n : ℕ) → n ≤ more n)
    → ((p : Part) × (part ≡ Some p) × (get part_cmp parts.known p ≡ Some walk)) → Counts source deep more [] (option_to_list walk) parts parts
counts-known source deep more parts part None le known = counts-not source deep more [] parts le
counts-known source deep more parts part (Some w) le known = record {
  counted = λ n own hand c.
      counted-more source parts n (more n) own (hand ++ w ∷ []) (le n)
      (counted-hand source parts n own (hand ++ []) (hand ++ w ∷ []) (λ a. apart-one source parts.walks.items parts.cases parts.known own hand w (a.known known.0 w known.2) a) c);
  fresh = λ q there. inl there;
}

module _ (source : Source) (deep : ℕ → Type 0) (more : ℕ → ℕ) (a b : Parts) where
  pub counts-after : (before after now : List ℕ) → now ≡ after → Counts source deep more before after a b → Counts source deep more before now a b
  counts-after before after now same counts = subst (λ l. Counts source deep more before l a b) (sym same) counts

  pub counts-before : (before was after : List ℕ) → was ≡ before → Counts source deep more before after a b → Counts source deep more was after a b
  counts-before before was after same counts = subst (λ l. Counts source deep more l after a b) (sym same) counts

  -- what was named before is named still
  counts-beside : (named before after : List ℕ) → Counts source deep more before after a b → Counts source deep more (named ++ before) (named ++ after) a b
  counts-beside named before after counts = record {
    counted = λ n own hand c.
        subst (Counted source b (more n) own) (append-assoc hand named after) (counts.counted n own (hand ++ named) (subst (Counted source a n own) (sym (append-assoc hand named before)) c));
    fresh = counts.fresh;
  }

  pub counts-deeper : (deeper : ℕ → Type 0) (before after : List ℕ) → ((depth : ℕ) → deeper depth → deep depth) → Counts source deep more before after a b → Counts source deeper more before after a b
  counts-deeper deeper before after to counts = record {
    counted = counts.counted;
    fresh = λ q there. elim (counts.fresh q there) [
      | inl old ↦ inl old
      | inr less ↦ inr (λ depth within. less depth (to depth within))
    ];
  }

pub counts-site : (source : Source) (deep : ℕ → Type 0) (o : Option Site) (a b : Parts) (site : Site) (before after : List ℕ) → o ≡ Some site → Counts source deep (with_site o) before after a b
    → Counts source deep (λ n. n) before after a b
counts-site source deep o a b site before after e counts =
    let c = subst (λ s. Counts source deep (with_site s) before after a b) e counts in
    record { counted = c.counted; fresh = c.fresh }

-- rows were named before, and one more row names its own
pub counts-on : (source : Source) (deep : ℕ → Type 0) (a b c : Parts) (before named more : List ℕ) → Counts source deep (λ n. n) before named a b → Counts source deep (λ n. n) [] more b c
    → Counts source deep (λ n. n) before (named ++ more) a c
counts-on source deep a b c before named more first second =
    let next = counts-before source deep (λ n. n) b c (named ++ []) named (named ++ more) (sym (append-nil named)) (counts-beside source deep (λ n. n) b c named [] more second) in
    record {
      counted = λ n own hand h. next.counted n own hand (first.counted n own hand h);
      fresh = λ q there. elim (second.fresh q there) [
        | inl old ↦ first.fresh q old
        | inr less ↦ inr less
      ];
    }

-- ---- blocks

-- rows name no walk
pub stays-bare : (source : Source) (named : List ℕ) (parts : Parts) → named ≡ [] → StaysCounted source named parts parts
stays-bare source named parts none n own hand c = subst (Counted source parts n own) (sym (ap (λ l. hand ++ l) none ∙ append-nil hand)) c

pub stays-of : (source : Source) (deep : ℕ → Type 0) (named : List ℕ) (a b : Parts) → Counts source deep (λ n. n) [] named a b → StaysCounted source named a b
stays-of source deep named a b counts n own hand c = counts.counted n own hand (subst (Counted source a n own) (sym (append-nil hand)) c)

pub stays-on : (source : Source) (named more all : List ℕ) (a b c : Parts) → all ≡ named ++ more → StaysCounted source named a b → StaysCounted source more b c → StaysCounted source all a c
stays-on source named more all a b c is first second n own hand h =
    subst (Counted source c n own) (append-assoc hand named more ∙ ap (λ l. hand ++ l) (sym is)) (second n own (hand ++ named) (first n own hand h))

pub stays-same : (source : Source) (named all : List ℕ) (a b : Parts) → all ≡ named → StaysCounted source named a b → StaysCounted source all a b
stays-same source named all a b is stays = subst (λ l. StaysCounted source l a b) (sym is) stays

-- ---- a part is not looked at inside itself

descend : (P : ℕ → Type 0) → ((d : ℕ) → P d → (less : ℕ) × (less < d) × P less) → (most d : ℕ) → d < most → P d → ⊥
descend P down zero d lt p = omega (arith, lt)
descend P down (suc most) d lt p = let next = down d p in descend P down most next.0 (omega (arith, lt, next.1)) next.2

module _ (source : Source) (id depth : ℕ) (part : Option Part) (old mid : Parts) (named : List ℕ) (inside : Counts source (IsWithinDepth source.program.now id) (λ n. n) [] named old mid) (shallow : IsWithinDepth source.program.now id depth)
    (node : IfSome part (λ p. p.node ≡ id)) (unknown : (p : Part) → part ≡ Some p → get part_cmp old.known p ≡ None) where
  still-unknown : (p : Part) → part ≡ Some p → IsKnown mid p → ⊥
  still-unknown p e there = elim (inside.fresh p there) [
    | inl known ↦ absurd (cc (unknown p e, known.1))
    | inr less ↦
        let deeper = subst (IsDeeper source.program.now (IsWithinDepth source.program.now id)) (at-node part p id e node) less in
        descend (IsWithinDepth source.program.now id) deeper (depth + 1) depth (omega arith) shallow
  ]

-- what looking at a part adds
pub part-counts : (source : Source) → IsSource source → (lies : Lies) (node : TypeId) (desc : Option Expr) (depth first : ℕ) (part : Option Part) (rows : List WalkRow) (old mid new : Parts) (walk : Option ℕ)
    → (plane : Plane) (rest : List WalkRow) → rows ≡ Note plane.size None ∷ rest → first ≡ first_of source
    → IsPlaced source.program.now lies (ty.Node node desc) → node.0 < length source.program.now.structures → IsWithinDepth source.program.now node.0 depth → part ≡ part_of source lies node
    → IfSome part (λ p. p.node ≡ node.0) → ((p : Part) → part ≡ Some p → get part_cmp old.known p ≡ None) → Counts source (IsWithinDepth source.program.now node.0) (λ n. n) [] (flat_map parts_in rows) old mid
    → Keeps first part rows mid new walk → (walk ≡ None → length rows ≤ 1) → ((w : ℕ) → walk ≡ Some w → ServesPart source new.walks.items lies.around node desc (Some w)) → Stays part mid new
    → Counts source (HoldsWithinDepth source.program.now (ty.Node node desc)) (with_site lies.site) [] (option_to_list walk) old new
part-counts source is lies node desc depth first part rows old mid new walk plane rest rows-are first-is placed there shallow part-is node-is unknown inside keeps few serves stays =
    let program = source.program.now in
    let unknown-mid = still-unknown source node.0 depth part old mid (flat_map parts_in rows) inside shallow node-is unknown in
    let are = λ (p : Part) (e : part ≡ Some p). is-part source is lies node desc placed there p (sym part-is ∙ e) in
    let place = λ (p : Part) (w : ℕ) (e : part ≡ Some p) (found : walk ≡ Some w).
    place-there source is lies node desc placed there p (sym part-is ∙ e) new.walks.items w (at-node part p node.0 e node-is) (serves w found) in
    let none = λ (e : part ≡ None). no-part source is lies node (sym part-is ∙ e) in
    let kept = subst (λ f. Keeps f part rows mid new walk) first-is keeps in
    record {
      counted = λ n own hand c.
          counted-kept source lies part node desc mid new plane rest rows rows-are stays unknown-mid are none walk kept few place serves n own hand
          (inside.counted n own hand c);
      fresh = λ q at. elim (keeps.kept q at.0 at.1) [
        | inl h ↦ elim (inside.fresh q (at.0, h)) [
          | inl known ↦ inl known
          | inr less ↦ inr (λ most holds. let w = node_within program (ty.Node node desc) node desc most holds refl in let d = less (most - 1) w.2 in (d.0, omega (arith, d.1), d.2))
        ]
        | inr h ↦ inr (λ most holds.
            let w = node_within program (ty.Node node desc) node desc most holds refl in
            let same : node.0 ≡ q.node = sym (at-node part q node.0 h.0 node-is) in
            (most - 1, omega (arith, w.1), subst (λ n. IsWithinDepth program n (most - 1)) same w.2))
      ];
    }

-- ---- roots

none-stays : (old new : Parts) → new.known ≡ old.known → Stays None old new
none-stays old new same = record {
  kept = λ q there. (there.0, ap (λ m. get part_cmp m q) same ∙ there.1);
  now = λ q e. absurd (cc (e));
}

-- a root has a walk of its own, and perhaps one inside that is no part's
pub root-counted : (source : Source) (old new : Parts) (rows : List WalkRow) (roots more hand : List ℕ) (walk n : ℕ) → new.known ≡ old.known → new.cases ≡ old.cases → new.walks.items ≡ old.walks.items ++ rows ∷ []
    → walk ≡ first_of source + length old.walks.items → more ≡ roots ++ walk ∷ [] → Counted source old (n + 2 * length roots + 1) roots (hand ++ flat_map parts_in rows)
    → Counted source new (n + 2 * length more) more hand
root-counted source old new rows roots more hand walk n known cases walks number is c =
    let long = ap length walks ∙ length-append old.walks.items (rows ∷ []) in
    let fits : length new.walks.items ≤ length old.walks.items + 1 = omega (arith, long) in
    let count = ap length is ∙ length-append roots (walk ∷ []) in
    let files = files-add old new (rows ∷ []) walks cases in
    let one = more-added old new (rows ∷ []) walks cases in
    let apart = λ (a : ApartIn source old roots (hand ++ flat_map parts_in rows)).
    subst (λ m. AreApart source new.walks.items new.cases m more hand) (sym known)
    (apart-root source old.walks.items new.walks.items old.cases new.cases files rows one old.known roots hand a more walk cases number is) in
    let stay =
    counted-stay source None old new (n + 2 * length roots + 1) 1 roots more (hand ++ flat_map parts_in rows) hand files (none-stays old new known) fits apart c in
    counted-more source new (n + 2 * length roots + 1 + 1) (n + 2 * length more) more hand (omega (arith, count)) stay

-- ---- the tables

-- nothing was looked at
pub counted-none : (source : Source) (parts : Parts) → parts.walks.items ≡ [] → ((case : Case) → get case_cmp parts.cases case ≡ None) → ((part : Part) → get part_cmp parts.known part ≡ None)
    → Counted source parts 0 [] []
counted-none source parts walks unfiled unknown = record {
  list = [];
  each = All-nil (λ (p : PartWalk). IsPart source.program.now p.part);
  serve = All-nil (λ (p : PartWalk). ServesPlace source parts.walks.items p.part p.walk);
  distinct = λ i j d less within. absurd (omega (arith, less, within));
  known = All-nil (λ (p : PartWalk). IsKnown parts (held p.part));
  few = let none = ap length walks in omega (arith, none);
  apart = apart-none source parts.walks.items parts.cases parts.known walks unfiled unknown;
}

-- the walks of the tables are those of blocks, and those that are counted
module _ (source : Source) (tables : Tables) (walks : List (List WalkRow)) (parts : Parts) (is : tables.walks ≡ walks ++ parts.walks.items) (long : length walks ≡ first_of source) where
  have : HaveWalks (first_of source) parts.walks.items tables
  have = record { front = walks; rest = []; is = is ∙ ap (λ l. walks ++ l) (sym (append-nil parts.walks.items)); long = long }

  pub parts-shared : (own : List ℕ) → tables.roots ≡ own → Counted source parts (2 * length own) own (named_by walks) → All (λ rows. All IsOrdered (flat_map exprs_in rows)) tables.walks
      → ArePartsShared source.program.now source.layouts.now tables
  parts-shared own roots c ordered =
      let all = ap length is ∙ length-append walks parts.walks.items in
      let many = ap length roots in
      let count : first_of source + length parts.walks.items ≡ length tables.walks = omega (arith, all, long) in
      record {
        parts = c.list;
        each = c.each;
        walks =
            All-weaker (λ (p : PartWalk). ServesPlace source parts.walks.items p.part p.walk) (IsPartWalk source.program.now source.layouts.now tables) (λ p s. (around_of s.0, s.1, s.2, s.3 tables have)) c.list
            c.serve;
        distinct = c.distinct;
        few = omega (arith, all, long, c.few, many);
        shared = tables-apart source tables walks parts.walks.items parts.cases parts.known own is long have roots c.apart count ordered;
      }
