-- Where the leaves of a part stand among those of its value.
use Rattle.std.proofs.Common.{◌≡◌, ℕ, zero, suc, ◌+◌, ◌*◌, ◌≤◌, Bool, true, false, List, [], ◌∷◌, ◌++◌, refl, ap, sym, subst, ◌∙◌, arith, Some}
use Rattle.std.specs.Prelude.{slice_get}
use Rattle.std.specs.List.{filter}
use Rattle.std.proofs.lemmas.List.{append_assoc}
use Rattle.gt_types.specs.declared.types.Ty.{Ty}
use Rattle.gt_types.specs.declared.program.Program.{Program}
use Rattle.gt_types.specs.Settled.{Settled}
use Rattle.gt_layout.specs.declared.planes.Plane.{Plane}
use Rattle.gt_layout.specs.declared.planes.FieldSpot.{FieldSpot}
use Rattle.gt_layout.specs.Places.{begin_at}
use Rattle.gt_layout.specs.Planes.{AreLaidOut}
use Rattle.gt_tree.specs.Trees.{Tree, Trees, End, And, count, tree_at, with_part, with_part_of}
use Rattle.gt_tree.specs.Blocks.{Blocks}
use Rattle.gt_tree.specs.Scopes.{Scope}
use Rattle.gt_tree.specs.Fits.{Fits, AllFit, EachFits}
use Rattle.gt_tree.specs.Leaves.{Leaf, is_number, HasLeaves, FieldsHaveLeaves, EachHasLeaves}
use Rattle.gt_tree.proofs.Chains.{Chain, Chain-from, Chain-append}
use Rattle.gt_tree.proofs.Fitting.{fits-more, fits-one}
use Rattle.gt_tree.proofs.Ordered.{chain, chain_fields, chain_each}
use Rattle.gt_tree.proofs.Rooms.{Room, Laid}

-- ---- lists

-- of leaves that are not numbers none may be there
abbrev pub seen : Bool → List Leaf → List Leaf
seen true ls = ls
seen false ls = filter is_number ls

pub between-again : (a b x c d : List Leaf) → a ++ ((b ++ (x ++ c)) ++ d) ≡ (a ++ b) ++ (x ++ (c ++ d))
between-again a b x c d =
    ap (λ ls. a ++ ls) (append_assoc b (x ++ c) d ∙ ap (λ ls. b ++ ls) (append_assoc x c d)) ∙ sym (append_assoc a b (x ++ (c ++ d)))

-- so are leaves among some of a list, which stand among all
pub among : (all before inner after b x c : List Leaf) → all ≡ before ++ (inner ++ after) → inner ≡ b ++ (x ++ c) → all ≡ (before ++ b) ++ (x ++ (c ++ after))
among all before inner after b x c is there = is ∙ ap (λ ls. before ++ (ls ++ after)) there ∙ between-again before b x c after

-- ---- fields

laid-more : {program : Program} {planes : List Plane} {capacity : ℕ} (from end : ℕ) (type : Ty) (types : List Ty) (s : FieldSpot) (spots : List FieldSpot)
    → Laid program planes capacity from (type ∷ types) (s ∷ spots) end → (w : ℕ) × (from ≤ begin_at s) × Room program planes capacity type w × Laid program planes capacity (begin_at s + w) types spots end
laid-more from end type types s spots (Laid.more {width = w} le room rest) = (w, le, room, rest)

-- the leaves of the value of one field among those of all
pub record FieldAt (program : Program) (planes : List Plane) (blocks : Blocks) (capacity : ℕ) (scope : Scope) (at from end : ℕ) (types : List Ty) (spots : List FieldSpot) (trees : Trees) (leaves : List Leaf) (i : ℕ) (type : Ty) (spot : FieldSpot) (tree : Tree) : Type 0 where
  pub before : List Leaf
  pub inner : List Leaf
  pub after : List Leaf
  pub is : leaves ≡ before ++ (inner ++ after)
  pub has : HasLeaves program planes (at + begin_at spot) type tree inner
  pub fits : Fits program blocks capacity scope type tree
  pub width : ℕ
  pub room : Room program planes capacity type width
  pub low : Chain (at + from) before (at + begin_at spot)
  pub high : Chain ((at + begin_at spot) + width) after (at + end)
  pub back : (path : List ℕ) (leaf : Tree) (other : List Leaf) → HasLeaves program planes (at + begin_at spot) type (with_part tree path leaf) other
      → FieldsHaveLeaves program planes at types spots (with_part_of trees i path leaf) (before ++ (other ++ after))

-- the leaves of the value of one element among those of all
pub record EachAt (program : Program) (planes : List Plane) (blocks : Blocks) (capacity : ℕ) (scope : Scope) (stride at : ℕ) (type : Ty) (trees : Trees) (leaves : List Leaf) (i begin : ℕ) (tree : Tree) : Type 0 where
  pub before : List Leaf
  pub inner : List Leaf
  pub after : List Leaf
  pub is : leaves ≡ before ++ (inner ++ after)
  pub has : HasLeaves program planes begin type tree inner
  pub fits : Fits program blocks capacity scope type tree
  pub low : Chain at before begin
  pub high : Chain (begin + stride) after (at + count trees * stride)
  pub back : (path : List ℕ) (leaf : Tree) (other : List Leaf) → HasLeaves program planes begin type (with_part tree path leaf) other
      → EachHasLeaves program planes stride at type (with_part_of trees i path leaf) (before ++ (other ++ after))

-- what the value with another part says of that part
module _ {program : Program} {blocks : Blocks} {capacity : ℕ} {scope : Scope} where
  pub all-fit-at : (types : List Ty) (trees : Trees) (i : ℕ) (path : List ℕ) (leaf : Tree) (type : Ty) (tree : Tree) → slice_get types i ≡ Some type → tree_at trees i ≡ Some tree
      → AllFit program blocks capacity scope types (with_part_of trees i path leaf) → Fits program blocks capacity scope type (with_part tree path leaf)
  all-fit-at [] trees i path leaf type tree e f fit = absurd (cc)
  all-fit-at (t ∷ ts) End i path leaf type tree e f fit = absurd (cc)
  all-fit-at (t ∷ ts) (And x xs) zero path leaf type tree e f fit =
      let same : t ≡ type = cc in
      let there : x ≡ tree = cc in
      subst (λ y. Fits program blocks capacity scope type (with_part y path leaf)) there (subst (λ y. Fits program blocks capacity scope y (with_part x path leaf)) same (fits-more t ts (with_part x path leaf) xs fit).0)
  all-fit-at (t ∷ ts) (And x xs) (suc i) path leaf type tree e f fit = all-fit-at ts xs i path leaf type tree e f (fits-more t ts x (with_part_of xs i path leaf) fit).1

  pub each-fit-at : (trees : Trees) (i : ℕ) (path : List ℕ) (leaf : Tree) (type : Ty) (tree : Tree) → tree_at trees i ≡ Some tree
      → EachFits program blocks capacity scope type (with_part_of trees i path leaf) → Fits program blocks capacity scope type (with_part tree path leaf)
  each-fit-at End i path leaf type tree f fit = absurd (cc)
  each-fit-at (And x xs) zero path leaf type tree f fit =
      let there : x ≡ tree = cc in
      subst (λ y. Fits program blocks capacity scope type (with_part y path leaf)) there (fits-one type (with_part x path leaf) xs fit).0
  each-fit-at (And x xs) (suc i) path leaf type tree f fit = each-fit-at xs i path leaf type tree f (fits-one type x (with_part_of xs i path leaf) fit).1

module _ (program : Program) (planes : List Plane) (blocks : Blocks) (capacity : ℕ) (settled : Settled program) (laid : AreLaidOut program planes) where
  field-first : (scope : Scope) (at from end : ℕ) (type : Ty) (types : List Ty) (s : FieldSpot) (spots : List FieldSpot) (tree : Tree) (trees : Trees) (first rest : List Leaf)
      → HasLeaves program planes (at + begin_at s) type tree first → FieldsHaveLeaves program planes at types spots trees rest
      → AllFit program blocks capacity scope (type ∷ types) (And tree trees) → Laid program planes capacity from (type ∷ types) (s ∷ spots) end
      → FieldAt program planes blocks capacity scope at from end (type ∷ types) (s ∷ spots) (And tree trees) (first ++ rest) zero type s tree
  field-first scope at from end type types s spots tree trees first rest has have fit lies =
      let here = laid-more from end type types s spots lies in
      let fits = fits-more type types tree trees fit in
      let same : at + (begin_at s + here.0) ≡ (at + begin_at s) + here.0 = omega arith in
      let up : at + from ≤ at + begin_at s = omega (arith, here.1) in
      record {
        before = [];
        inner = first;
        after = rest;
        is = refl;
        has = has;
        fits = fits.0;
        width = here.0;
        room = here.2;
        low = up;
        high = subst (λ n. Chain n rest (at + end)) same (chain_fields program planes blocks capacity settled laid have scope (begin_at s + here.0) end fits.1 here.3);
        back = λ path leaf other h. FieldsHaveLeaves.more h have;
      }

  field-later : (scope : Scope) (at from end : ℕ) (type : Ty) (types : List Ty) (s : FieldSpot) (spots : List FieldSpot) (tree : Tree) (trees : Trees) (first rest : List Leaf) (w : ℕ) (i : ℕ) (t : Ty) (p : FieldSpot) (x : Tree)
      → HasLeaves program planes (at + begin_at s) type tree first → Fits program blocks capacity scope type tree → from ≤ begin_at s → Room program planes capacity type w
      → FieldAt program planes blocks capacity scope at (begin_at s + w) end types spots trees rest i t p x
      → FieldAt program planes blocks capacity scope at from end (type ∷ types) (s ∷ spots) (And tree trees) (first ++ rest) (suc i) t p x
  field-later scope at from end type types s spots tree trees first rest w i t p x has fits le room q =
      let same : (at + begin_at s) + w ≡ at + (begin_at s + w) = omega arith in
      let up : at + from ≤ at + begin_at s = omega (arith, le) in
      record {
        before = first ++ q.before;
        inner = q.inner;
        after = q.after;
        is = ap (λ ls. first ++ ls) q.is ∙ sym (append_assoc first q.before (q.inner ++ q.after));
        has = q.has;
        fits = q.fits;
        width = q.width;
        room = q.room;
        low = Chain-from (at + from) (at + begin_at s) (first ++ q.before) (at + begin_at p) up
            (Chain-append (at + begin_at s) first (at + (begin_at s + w)) q.before (at + begin_at p)
            (subst (λ n. Chain (at + begin_at s) first n) same (chain program planes blocks capacity settled laid has scope w fits room)) q.low);
        high = q.high;
        back = λ path leaf other h.
            subst (FieldsHaveLeaves program planes at (type ∷ types) (s ∷ spots) (And tree (with_part_of trees i path leaf))) (sym (append_assoc first q.before (other ++ q.after)))
            (FieldsHaveLeaves.more has (q.back path leaf other h));
      }

  pub field-at : {at : ℕ} {types : List Ty} {spots : List FieldSpot} {trees : Trees} {leaves : List Leaf} → FieldsHaveLeaves program planes at types spots trees leaves
      → (scope : Scope) (from end i : ℕ) (type : Ty) (spot : FieldSpot) (tree : Tree) → slice_get types i ≡ Some type → slice_get spots i ≡ Some spot → tree_at trees i ≡ Some tree
      → AllFit program blocks capacity scope types trees → Laid program planes capacity from types spots end
      → FieldAt program planes blocks capacity scope at from end types spots trees leaves i type spot tree
  field-at FieldsHaveLeaves.none scope from end i type spot tree e f g fit lies = absurd (cc)
  field-at (FieldsHaveLeaves.more {at} {type = t} {types} {s} {spots} {tree = x} {trees} {first} {rest} has have) scope from end zero type spot tree e f g fit lies =
      let same : t ≡ type = cc in
      let there : s ≡ spot = cc in
      let equal : x ≡ tree = cc in
      subst (FieldAt program planes blocks capacity scope at from end (t ∷ types) (s ∷ spots) (And x trees) (first ++ rest) zero type spot) equal
      (subst (λ y. FieldAt program planes blocks capacity scope at from end (t ∷ types) (s ∷ spots) (And x trees) (first ++ rest) zero type y x) there
      (subst (λ y. FieldAt program planes blocks capacity scope at from end (t ∷ types) (s ∷ spots) (And x trees) (first ++ rest) zero y s x) same
      (field-first scope at from end t types s spots x trees first rest has have fit lies)))
  field-at (FieldsHaveLeaves.more {at} {type = t} {types} {s} {spots} {tree = x} {trees} {first} {rest} has have) scope from end (suc i) type spot tree e f g fit lies =
      let here = laid-more from end t types s spots lies in
      let fits = fits-more t types x trees fit in
      field-later scope at from end t types s spots x trees first rest here.0 i type spot tree has fits.0 here.1 here.2
      (field-at have scope (begin_at s + here.0) end i type spot tree e f g fits.1 here.3)

  -- ---- elements

  each-first : (scope : Scope) (stride at : ℕ) (type : Ty) (tree : Tree) (trees : Trees) (first rest : List Leaf)
      → HasLeaves program planes at type tree first → EachHasLeaves program planes stride (at + stride) type trees rest
      → EachFits program blocks capacity scope type (And tree trees) → Room program planes capacity type stride
      → EachAt program planes blocks capacity scope stride at type (And tree trees) (first ++ rest) zero at tree
  each-first scope stride at type tree trees first rest has have fit room =
      let fits = fits-one type tree trees fit in
      let same : (at + stride) + count trees * stride ≡ at + suc (count trees) * stride = omega arith in
      let here : at ≤ at = omega arith in
      record {
        before = [];
        inner = first;
        after = rest;
        is = refl;
        has = has;
        fits = fits.0;
        low = here;
        high = subst (λ n. Chain (at + stride) rest n) same (chain_each program planes blocks capacity settled laid have scope stride fits.1 room (omega arith));
        back = λ path leaf other h. EachHasLeaves.one_more h have;
      }

  each-later : (scope : Scope) (stride at : ℕ) (type : Ty) (tree : Tree) (trees : Trees) (first rest : List Leaf) (i begin : ℕ) (x : Tree)
      → HasLeaves program planes at type tree first → Fits program blocks capacity scope type tree → Room program planes capacity type stride
      → EachAt program planes blocks capacity scope stride (at + stride) type trees rest i begin x
      → EachAt program planes blocks capacity scope stride at type (And tree trees) (first ++ rest) (suc i) begin x
  each-later scope stride at type tree trees first rest i begin x has fits room q =
      let same : (at + stride) + count trees * stride ≡ at + suc (count trees) * stride = omega arith in
      record {
        before = first ++ q.before;
        inner = q.inner;
        after = q.after;
        is = ap (λ ls. first ++ ls) q.is ∙ sym (append_assoc first q.before (q.inner ++ q.after));
        has = q.has;
        fits = q.fits;
        low = Chain-append at first (at + stride) q.before begin (chain program planes blocks capacity settled laid has scope stride fits room) q.low;
        high = subst (λ n. Chain (begin + stride) q.after n) same q.high;
        back = λ path leaf other h.
            subst (EachHasLeaves program planes stride at type (And tree (with_part_of trees i path leaf))) (sym (append_assoc first q.before (other ++ q.after)))
            (EachHasLeaves.one_more has (q.back path leaf other h));
      }

  pub each-at : {stride at : ℕ} {type : Ty} {trees : Trees} {leaves : List Leaf} → EachHasLeaves program planes stride at type trees leaves
      → (scope : Scope) (i : ℕ) (tree : Tree) → tree_at trees i ≡ Some tree → EachFits program blocks capacity scope type trees → Room program planes capacity type stride
      → EachAt program planes blocks capacity scope stride at type trees leaves i (at + i * stride) tree
  each-at EachHasLeaves.no_more scope i tree g fit room = absurd (cc)
  each-at (EachHasLeaves.one_more {stride} {at} {type} {tree = x} {trees} {first} {rest} has have) scope zero tree g fit room =
      let equal : x ≡ tree = cc in
      let here : at ≡ at + 0 * stride = omega arith in
      subst (λ n. EachAt program planes blocks capacity scope stride at type (And x trees) (first ++ rest) zero n tree) here
      (subst (EachAt program planes blocks capacity scope stride at type (And x trees) (first ++ rest) zero at) equal
      (each-first scope stride at type x trees first rest has have fit room))
  each-at (EachHasLeaves.one_more {stride} {at} {type} {tree = x} {trees} {first} {rest} has have) scope (suc i) tree g fit room =
      let fits = fits-one type x trees fit in
      let there : (at + stride) + i * stride ≡ at + suc i * stride = omega arith in
      subst (λ n. EachAt program planes blocks capacity scope stride at type (And x trees) (first ++ rest) (suc i) n tree) there
      (each-later scope stride at type x trees first rest i ((at + stride) + i * stride) tree has fits.0 room (each-at have scope i tree g fits.1 room))
