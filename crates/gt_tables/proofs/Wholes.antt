-- The tables that are made.
use Rattle.std.proofs.Common.{◌≡◌, ◌∙◌, ℕ, ◌+◌, ◌≤◌, ◌<◌, Bool, true, false, not, cond, drop, List, [], ◌∷◌, ◌++◌, length, map, refl, ap, sym, subst, Option, Some, None, get_or, arith}
use Rattle.std.specs.Prelude.{All, flat_map}
use Rattle.std.specs.BTreeMap.{get}
use Rattle.std.proofs.lemmas.List.{length-append, append-nil, get_or_append_left, drop_more}
use Rattle.std.proofs.Math.Seq.{get_or-append_seam}
use Rattle.gt_tree.specs.Blocks.{Strings, Chars}
use Rattle.gt_walk.specs.declared.rows.Count.TheVariants as count
use Rattle.std.proofs.lemmas.Option.{slice_get_within}
use Rattle.std.proofs.lemmas.List.Elements.{All-append, All-nil, All-cons, All-head, All-tail, All-weaker, All-get_or}
use Rattle.gt_types.specs.declared.types.TypeId.{TypeId}
use Rattle.gt_types.specs.declared.types.Ty.{Ty}
use Rattle.gt_types.specs.declared.program.Cache.{Cache}
use Rattle.gt_types.specs.declared.program.Program.{Program}
use Rattle.gt_types.specs.Paths.{MayStand}
use Rattle.gt_types.specs.Settled.{Settled, IsCache}
use Rattle.gt_layout.specs.Progress.{HoldsWithinDepth}
use Rattle.gt_walk.specs.declared.rows.WalkRow.{WalkRow}
use Rattle.gt_walk.specs.declared.rows.WalkRow.TheVariants as row
use Rattle.gt_walk.specs.declared.tables.CacheWalks.{CacheWalks}
use Rattle.gt_walk.specs.declared.tables.Tables.{Tables}
use Rattle.gt_walk.specs.Nested.{HaveOneNote, IsWalk, IsNested}
use Rattle.gt_tables.specs.declared.parts.Parts.{Parts}
use Rattle.gt_edges.specs.Numbers.{first_part, walk_of}
use Rattle.std.specs.List.{filter}
use Rattle.gt_types.specs.declared.program.Root.{Root}
use Rattle.gt_edges.specs.Edges.{has_walk}
use Rattle.gt_edges.specs.Tables.{cache_walks, AreNumbered}
use Rattle.gt_tables.specs.Building.{part_cmp, HaveWalks, IsWalkOf, AreRows, Shallow, AreParts, Grows, IsThere, EndAsBlocks, number_of_walks, HaveTurns}
use Rattle.gt_tables.specs.Ordered.{IsOrdered, exprs_in}
use Rattle.gt_tables.proofs.Growing.{fewer, length-tables, nests-of, rows-note, rows-add, rows-grow, row-pointer, pointer-fixed, walk-grows}
use Rattle.gt_tables.proofs.Keeping.{rows-on}

-- ---- rows of pointers

pub rows-pointing : (first : ℕ) (walks : List (List WalkRow)) (deep : ℕ → Type 0) (size walk : ℕ) (chain : Option ℕ) (n : ℕ) (reorder : Bool) → walk < first
    → AreRows first walks deep (row.Note size chain ∷ row.Ptr 0 walk (count.Fixed n) reorder ∷ [])
rows-pointing first walks deep size walk chain n reorder lt =
    rows-add first walks deep (row.Note size chain ∷ []) (Some (row.Ptr 0 walk (count.Fixed n) reorder)) (rows-note first walks deep size chain)
    (row-pointer first walks deep (row.Ptr 0 walk (count.Fixed n) reorder) (pointer-fixed first 0 walk n reorder lt))

-- structures stand inside one another at most so deep
pub holds-enough : (program : Program) (type : Ty) → Settled program → HoldsWithinDepth program type 33 → (depth : ℕ) → Shallow depth → HoldsWithinDepth program type depth
holds-enough program type settled holds depth deep node held =
    let h = holds node held in
    let some : 1 ≤ depth = omega (arith, deep) in
    (h.0, some, λ n inner nests. omega (arith, deep, settled.depth n (record { 0 = node.0 }) inner nests))

-- ---- one walk more

pub list-add : (first : ℕ) (walks : List (List WalkRow)) (xs ys : List (List WalkRow)) (rows : List WalkRow) → ys ≡ xs ++ rows ∷ [] → All (AreRows first walks Shallow) xs → AreRows first walks Shallow rows
    → All (AreRows first walks Shallow) ys
list-add first walks xs ys rows is all one =
    let P = AreRows first walks Shallow in subst (All P) (sym is) (All-append P xs (rows ∷ []) all (All-cons P rows [] one (All-nil P)))

pub list-on : (first : ℕ) (program : Program) (a b : Parts) → Grows program a b → (xs : List (List WalkRow)) → All (AreRows first a.walks.items Shallow) xs → All (AreRows first b.walks.items Shallow) xs
list-on first program a b grows xs all = All-weaker (AreRows first a.walks.items Shallow) (AreRows first b.walks.items Shallow) (λ rs is. rows-on first program a b grows Shallow rs is) xs all

pub one-longer : (X : Type 0) (xs ys : List X) (x : X) → ys ≡ xs ++ x ∷ [] → length ys ≡ length xs + 1
one-longer X xs ys x is = ap length is ∙ length-append xs (x ∷ [])

pub add-grows : (program : Program) (a b : Parts) (rows : List WalkRow) → AreParts program a → AreRows (first_part program) a.walks.items Shallow rows → b.walks.items ≡ a.walks.items ++ rows ∷ []
    → b.known ≡ a.known → b.cases ≡ a.cases → Grows program a b
add-grows program a b rows parts are walks known cases =
    let first = first_part program in
    let P = AreRows first a.walks.items Shallow in
    record {
      more = rows ∷ [];
      walks = walks;
      are = record {
        known = λ part walk there.
            subst (λ ws. IsWalkOf program first ws part.node walk) (sym walks)
            (walk-grows first a.walks.items (rows ∷ []) program part.node walk (parts.known part walk (ap (λ m. get part_cmp m part) (sym known) ∙ there)));
        rows =
            subst (λ ws. All (AreRows first ws Shallow) ws) (sym walks)
            (All-weaker P (AreRows first (a.walks.items ++ rows ∷ []) Shallow) (λ rs is. rows-grow first a.walks.items (rows ∷ []) Shallow rs is) (a.walks.items ++ rows ∷ [])
            (All-append P a.walks.items (rows ∷ []) parts.rows (All-cons P rows [] are (All-nil P))));
        turns = subst HaveTurns (sym cases) parts.turns;
      };
    }

pub there-on : (first : ℕ) (program : Program) (a b : Parts) → Grows program a b → (walk : ℕ) → IsThere first a.walks.items walk → IsThere first b.walks.items walk
there-on first program a b grows walk is tables h = is tables (fewer first a.walks.items grows.more tables (subst (λ ws. HaveWalks first ws tables) grows.walks h))

pub add-there : (first : ℕ) (a b : List (List WalkRow)) (rows : List WalkRow) (walk : ℕ) → b ≡ a ++ rows ∷ [] → walk ≡ first + length a → IsThere first b walk
add-there first a b rows walk is number tables h = omega (arith, length-tables first b tables h, one-longer (List WalkRow) a b rows is, number)

pub roots-add : (first : ℕ) (program : Program) (a b : Parts) (roots more : List ℕ) (walk : ℕ) → Grows program a b → All (IsThere first a.walks.items) roots → IsThere first b.walks.items walk
    → more ≡ roots ++ walk ∷ [] → All (IsThere first b.walks.items) more
roots-add first program a b roots more walk grows all one is =
    let P = IsThere first b.walks.items in
    subst (All P) (sym is) (All-append P roots (walk ∷ []) (All-weaker (IsThere first a.walks.items) P (λ w there. there-on first program a b grows w there) roots all) (All-cons P walk [] one (All-nil P)))

-- ---- the whole

module _ (program : Program) (settled : Settled program) (tables : Tables) (walks : List (List WalkRow)) (a b : Parts) (grows : Grows program a b) where
  stand-there : (node : TypeId) → HaveWalks (first_part program) b.walks.items tables → MayStand program node → IsWalk tables node.0
  stand-there node h stands =
      let long = length-tables (first_part program) b.walks.items tables h in
      let within = slice_get_within program.structures node.0 stands.0 stands.1 in
      omega (arith, long, within)

  caches-there : HaveWalks (first_part program) b.walks.items tables → (caches : List Cache) → All (IsCache program) caches
      → All (λ (cache : CacheWalks). IsWalk tables cache.key × IsWalk tables cache.value) (map cache_walks caches)
  caches-there h [] all = All-nil (λ (cache : CacheWalks). IsWalk tables cache.key × IsWalk tables cache.value)
  caches-there h (c ∷ caches) all =
      let P = λ (cache : CacheWalks). IsWalk tables cache.key × IsWalk tables cache.value in
      let is = All-head (IsCache program) c caches all in
      All-cons P (cache_walks c) (map cache_walks caches) (stand-there c.key h is.key, stand-there c.value h is.value) (caches-there h caches (All-tail (IsCache program) c caches all))

  pub nested-of : tables.walks ≡ walks ++ b.walks.items → length walks ≡ first_part program → All (AreRows (first_part program) a.walks.items Shallow) walks
      → All (IsThere (first_part program) b.walks.items) tables.roots → tables.caches ≡ map cache_walks program.caches → IsNested tables
  nested-of is long all roots caches =
      let first = first_part program in
      let P = AreRows first b.walks.items Shallow in
      let h : HaveWalks first b.walks.items tables = record { front = walks; rest = []; is = is ∙ ap (λ l. walks ++ l) (sym (append-nil b.walks.items)); long = long } in
      let each : All P tables.walks = subst (All P) (sym is) (All-append P walks b.walks.items (list-on first program a b grows walks all) grows.are.rows) in
      record {
        notes = All-weaker P HaveOneNote (λ rs r. r.note) tables.walks each;
        rows = All-weaker P _ (λ rs r. r.names tables h) tables.walks each;
        roots = All-weaker (IsThere first b.walks.items) (IsWalk tables) (λ w there. there tables h) tables.roots roots;
        caches = subst (All (λ (cache : CacheWalks). IsWalk tables cache.key × IsWalk tables cache.value)) (sym caches) (caches-there h program.caches settled.caches);
        shallow = λ walk there. nests-of tables 33 walk ((All-get_or P tables.walks walk [] there each).nests tables h 33 (omega arith));
      }

  pub ordered-of : tables.walks ≡ walks ++ b.walks.items → All (AreRows (first_part program) a.walks.items Shallow) walks → All (λ rows. All IsOrdered (flat_map exprs_in rows)) tables.walks
  ordered-of is all =
      let P = AreRows (first_part program) b.walks.items Shallow in
      let each : All P tables.walks = subst (All P) (sym is) (All-append P walks b.walks.items (list-on (first_part program) program a b grows walks all) grows.are.rows) in
      All-weaker P (λ rows. All IsOrdered (flat_map exprs_in rows)) (λ rs r. r.ordered) tables.walks each

-- the walks that each program has
pub numbered-of : (program : Program) (tables : Tables) (walks parts : List (List WalkRow)) → tables.walks ≡ walks ++ parts → length walks ≡ first_part program → EndAsBlocks program walks
    → length tables.roots ≡ length (filter has_walk program.roots) → tables.caches ≡ map cache_walks program.caches → AreNumbered program tables
numbered-of program tables walks parts is long ends roots caches =
    let S = row.Note 8 None ∷ row.Ptr 0 (walk_of program Chars) (count.Fixed 0) false ∷ [] in
    let B = row.Note 1 None ∷ [] in
    let one = length-append ends.front (S ∷ []) in
    let all = ap length ends.is ∙ length-append (ends.front ++ S ∷ []) (B ∷ []) in
    let whole = ap length is ∙ length-append walks parts in
    let first : walk_of program Strings < length walks = omega (arith, one, all, ends.long) in
    let second : walk_of program Chars < length walks = omega (arith, one, all, ends.long) in
    let inner : walk_of program Strings < length (ends.front ++ S ∷ []) = omega (arith, one, ends.long) in
    let at : walk_of program Chars ≡ length (ends.front ++ S ∷ []) = omega (arith, one, ends.long) in
    record {
      all = omega (arith, whole, long);
      strings =
          ap (λ ws. get_or ws (walk_of program Strings) []) is ∙ get_or_append_left walks parts [] (walk_of program Strings) first ∙ ap (λ ws. get_or ws (walk_of program Strings) []) ends.is
          ∙ get_or_append_left (ends.front ++ S ∷ []) (B ∷ []) [] (walk_of program Strings) inner ∙ ap (λ i. get_or (ends.front ++ S ∷ []) i []) (sym ends.long) ∙ get_or-append_seam ends.front S [] [];
      unscanned =
          ap (λ ws. get_or ws (walk_of program Chars) []) is ∙ get_or_append_left walks parts [] (walk_of program Chars) second ∙ ap (λ ws. get_or ws (walk_of program Chars) []) ends.is
          ∙ ap (λ i. get_or ((ends.front ++ S ∷ []) ++ B ∷ []) i []) at ∙ get_or-append_seam (ends.front ++ S ∷ []) B [] [];
      roots = roots;
      caches = caches;
    }

-- ---- how many roots have walks

pub count-one : (r : Root) (rest : List Root) (b : Bool) → r.deletable ≡ b → length (filter has_walk (r ∷ rest)) ≡ number_of_walks b + length (filter has_walk rest)
count-one r rest true e = ap (λ b. length (cond (not b) (r ∷ filter has_walk rest) (filter has_walk rest))) e ∙ (omega arith)
count-one r rest false e = ap (λ b. length (cond (not b) (r ∷ filter has_walk rest) (filter has_walk rest))) e ∙ (omega arith)

pub count-more : (all : List Root) (i had now : ℕ) (r : Root) → i < length all → r ≡ get_or all i r → had + length (filter has_walk (drop i all)) ≡ length (filter has_walk all)
    → now ≡ had + number_of_walks r.deletable → now + length (filter has_walk (drop (i + 1) all)) ≡ length (filter has_walk all)
count-more all i had now r within is before more =
    let next = drop_more all i r within in
    let here : drop i all ≡ r ∷ drop (i + 1) all = next ∙ ap (λ x. x ∷ drop (i + 1) all) (sym is) in
    let one = ap (λ rs. length (filter has_walk rs)) here ∙ count-one r (drop (i + 1) all) r.deletable refl in
    omega (arith, before, more, one)
