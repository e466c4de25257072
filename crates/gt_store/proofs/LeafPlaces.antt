-- Where the leaves of the part at a path stand among those of the whole value.
use Rattle.std.proofs.Common.{◌≡◌, ◌⊎◌, ℕ, zero, suc, ◌+◌, ◌*◌, ◌≤◌, Bool, true, false, cond, List, [], ◌∷◌, ◌++◌, refl, ap, sym, subst, ◌∙◌, arith, inl, inr, Option, Some, None}
use Rattle.std.specs.Prelude.{slice_get}
use Rattle.std.specs.List.{filter}
use Rattle.std.proofs.lemmas.List.{append-nil}
use Rattle.std.proofs.lemmas.List.Elements.{filter-append}
use Rattle.gt_types.specs.declared.expressions.Expr.{Expr}
use Rattle.gt_types.specs.declared.types.TypeId.{TypeId}
use Rattle.gt_types.specs.declared.types.Ty.{Ty}
use Rattle.gt_types.specs.declared.types.Ty.TheVariants as ty
use Rattle.gt_types.specs.declared.program.Field.{Field}
use Rattle.gt_types.specs.declared.program.Structure.{Structure}
use Rattle.gt_types.specs.declared.program.Program.{Program}
use Rattle.gt_types.specs.Contains.{HasStructure}
use Rattle.gt_types.specs.Unions.{IsCommon}
use Rattle.gt_types.specs.Settled.{Settled}
use Rattle.gt_layout.specs.declared.planes.Plane.{Plane}
use Rattle.gt_layout.specs.declared.planes.FieldSpot.{FieldSpot}
use Rattle.gt_layout.specs.Storages.{extent_of}
use Rattle.gt_layout.specs.Places.{begin_at}
use Rattle.gt_layout.specs.Planes.{AreLaidOut}
use Rattle.gt_tree.specs.Trees.{Tree, Rec, Alt, Row, Trees, count, tree_at, with_part, with_part_of}
use Rattle.gt_tree.specs.Blocks.{Blocks}
use Rattle.gt_tree.specs.Scopes.{Scope, inside}
use Rattle.gt_tree.specs.Fits.{Fits, EachFits, types_of}
use Rattle.gt_tree.specs.Leaves.{Leaf, is_number, HasLeaves, EachHasLeaves}
use Rattle.gt_tree.proofs.Chains.{Chain, Chain-from, Chain-end, Chain-append, Chain-filter}
use Rattle.gt_tree.proofs.Commons.{one-common}
use Rattle.gt_tree.proofs.Fitting.{fits-struct, fits-member, fits-common, fits-array, fits-tail}
use Rattle.gt_tree.proofs.PathBegins.{same-number}
use Rattle.gt_tree.proofs.Rooms.{Room, room-array, room-tail}
use Rattle.gt_tree.proofs.Structures.{Laid-struct, has_room-member, has_room-common}
use Rattle.gt_value.specs.declared.places.Holder.{Holder}
use Rattle.gt_value.specs.Places.{Part, PartLies}
use Rattle.gt_store.proofs.Forms.{struct-leaves, member-leaves, array-leaves, tail-leaves}
use Rattle.gt_store.proofs.LeafParts.{seen, between-again, among, FieldAt, EachAt, all-fit-at, each-fit-at, field-at, each-at}

-- The leaves of a part, among those of the value around it: they stand in the room of the part, the others before and after it. With
-- another part in place of this one the others stay.
pub record PartAt (program : Program) (planes : List Plane) (blocks : Blocks) (capacity : ℕ) (at b : ℕ) (type : Ty) (value : Tree) (path : List ℕ) (p : Part) (leaves : List Leaf) : Type 0 where
  pub shown : Bool
  pub before : List Leaf
  pub here : List Leaf
  pub after : List Leaf
  pub width : ℕ
  pub scope : Scope
  pub is : leaves ≡ before ++ (seen shown here ++ after)
  pub has : HasLeaves program planes p.bit p.type p.tree here
  pub fits : Fits program blocks capacity scope p.type p.tree
  pub room : Room program planes capacity p.type width
  pub low : Chain at before p.bit
  pub high : Chain (p.bit + width) after (at + b)
  pub shown_is : (shown ≡ true) ⊎ (p.active ≡ false)
  pub fit_in : (leaf : Tree) (other : Scope) → Fits program blocks capacity other type (with_part value path leaf) → (inner : Scope) × Fits program blocks capacity inner p.type leaf
  pub with_in : (leaf : Tree) (other : List Leaf) → HasLeaves program planes p.bit p.type leaf other → HasLeaves program planes at type (with_part value path leaf) (before ++ (seen shown other ++ after))

module _ {program : Program} {planes : List Plane} where
  -- where no member of a union around is active, none is further in
  inactive : {scope : Scope} {holder : Holder} {active : Bool} {at : ℕ} {type : Ty} {value : Tree} {path : List ℕ} {p : Part} → PartLies program planes scope holder active at type value path p → active ≡ false → p.active ≡ false
  inactive PartLies.whole e = e
  inactive (PartLies.field h u g f s t lies) e = inactive lies e
  inactive (PartLies.member h u g lies) e = inactive lies e
  inactive (PartLies.common h c lies) e = inactive lies refl
  inactive (PartLies.array o t lies) e = inactive lies e
  inactive (PartLies.tail o t lies) e = inactive lies e

  common-leaves : {at : ℕ} (node : TypeId) (desc : Option Expr) (s : Structure) (common : TypeId) (tree : Tree) (leaves : List Leaf) → Settled program → HasStructure program node s → IsCommon program s common
      → HasLeaves program planes at (ty.Node node desc) (Alt None tree) leaves → (inner : List Leaf) × (leaves ≡ filter is_number inner) × HasLeaves program planes at (ty.Node common None) tree inner
  common-leaves {at} node desc s common tree leaves settled has c (HasLeaves.common {common = other} {s = same_s} {leaves = inner} h u o inside) =
      let same : same_s ≡ s = cc in
      let there : IsCommon program s other = subst (λ x. IsCommon program x other) same o in
      (inner, refl, subst (λ n. HasLeaves program planes at (ty.Node n None) tree inner) (one-common program node s other common settled has there c) inside)
  common-leaves node desc s common tree leaves settled has c (HasLeaves.nothing {s = same_s} h u none) =
      let same : s ≡ same_s = cc in
      absurd (none common (subst (λ x. IsCommon program x common) same c))

-- ---- one step

module _ (program : Program) (planes : List Plane) (blocks : Blocks) (capacity : ℕ) where
  step-in : (at b : ℕ) (type : Ty) (value : Tree) (path : List ℕ) (leaves : List Leaf) (begin c : ℕ) (deeper : Ty) (tree : Tree) (rest : List ℕ) (inner : List Leaf) (p : Part) (before after : List Leaf)
      → leaves ≡ before ++ (inner ++ after) → Chain at before begin → Chain (begin + c) after (at + b)
      → ((leaf : Tree) (other : Scope) → Fits program blocks capacity other type (with_part value path leaf) → (s : Scope) × Fits program blocks capacity s deeper (with_part tree rest leaf))
      → ((leaf : Tree) (other : List Leaf) → HasLeaves program planes begin deeper (with_part tree rest leaf) other → HasLeaves program planes at type (with_part value path leaf) (before ++ (other ++ after)))
      → PartAt program planes blocks capacity begin c deeper tree rest p inner → PartAt program planes blocks capacity at b type value path p leaves
  step-in at b type value path leaves begin c deeper tree rest inner p before after is low high down back q = record {
    shown = q.shown;
    before = before ++ q.before;
    here = q.here;
    after = q.after ++ after;
    width = q.width;
    scope = q.scope;
    is = among leaves before inner after q.before (seen q.shown q.here) q.after is q.is;
    has = q.has;
    fits = q.fits;
    room = q.room;
    low = Chain-append at before begin q.before p.bit low q.low;
    high = Chain-append (p.bit + q.width) q.after (begin + c) after (at + b) q.high high;
    shown_is = q.shown_is;
    fit_in = λ leaf other fits. let inside = down leaf other fits in q.fit_in leaf inside.0 inside.1;
    with_in = λ leaf other has.
        subst (HasLeaves program planes at type (with_part value path leaf)) (between-again before q.before (seen q.shown other) q.after after)
        (back leaf (q.before ++ (seen q.shown other ++ q.after)) (q.with_in leaf other has));
  }

  at-whole : (at b : ℕ) (type : Ty) (tree : Tree) (active : Bool) (scope around : Scope) (holder : Holder) (leaves : List Leaf) → HasLeaves program planes at type tree leaves → Fits program blocks capacity scope type tree → Room program planes capacity type b
      → PartAt program planes blocks capacity at b type tree [] (record { bit = at; type = type; holder = holder; scope = around; active = active; tree = tree }) leaves
  at-whole at b type tree active scope around holder leaves has fits room =
      let low : at ≤ at = omega arith in
      let high : at + b ≤ at + b = omega arith in
      record {
        shown = true;
        before = [];
        here = leaves;
        after = [];
        width = b;
        scope = scope;
        is = sym (append-nil leaves);
        has = has;
        fits = fits;
        room = room;
        low = low;
        high = high;
        shown_is = inl refl;
        fit_in = λ leaf other fit. (other, fit);
        with_in = λ leaf other h. subst (HasLeaves program planes at type leaf) (sym (append-nil other)) h;
      }

  -- no pointer is there where no member of a union is active
  twice-more : (l : Leaf) (ls : List Leaf) → filter is_number (filter is_number ls) ≡ filter is_number ls → (b : Bool) → is_number l ≡ b
      → filter is_number (cond (is_number l) (l ∷ filter is_number ls) (filter is_number ls)) ≡ cond (is_number l) (l ∷ filter is_number ls) (filter is_number ls)
  twice-more l ls again true e =
      ap (λ c. filter is_number (cond c (l ∷ filter is_number ls) (filter is_number ls))) e
      ∙ ap (λ c. cond c (l ∷ filter is_number (filter is_number ls)) (filter is_number (filter is_number ls))) e
      ∙ ap (λ xs. l ∷ xs) again
      ∙ sym (ap (λ c. cond c (l ∷ filter is_number ls) (filter is_number ls)) e)
  twice-more l ls again false e =
      ap (λ c. filter is_number (cond c (l ∷ filter is_number ls) (filter is_number ls))) e ∙ again ∙ sym (ap (λ c. cond c (l ∷ filter is_number ls) (filter is_number ls)) e)

  numbers-twice : (ls : List Leaf) → filter is_number (filter is_number ls) ≡ filter is_number ls
  numbers-twice [] = refl
  numbers-twice (l ∷ ls) = twice-more l ls (numbers-twice ls) (is_number l) refl

  numbers-seen : (shown : Bool) (ls : List Leaf) → filter is_number (seen shown ls) ≡ seen false ls
  numbers-seen true ls = refl
  numbers-seen false ls = numbers-twice ls

  numbers-between : (shown : Bool) (before here after : List Leaf) → filter is_number (before ++ (seen shown here ++ after)) ≡ filter is_number before ++ (seen false here ++ filter is_number after)
  numbers-between shown before here after =
      filter-append is_number before (seen shown here ++ after)
      ∙ ap (λ ls. filter is_number before ++ ls) (filter-append is_number (seen shown here) after ∙ ap (λ ls. ls ++ filter is_number after) (numbers-seen shown here))

  at-common : (at b c : ℕ) (type : Ty) (tree : Tree) (i : ℕ) (path : List ℕ) (deeper : Ty) (leaves inner : List Leaf) (p : Part) → p.active ≡ false → leaves ≡ filter is_number inner → c ≤ b
      → ((leaf : Tree) (other : Scope) → Fits program blocks capacity other type (Alt None (with_part tree path leaf)) → (s : Scope) × Fits program blocks capacity s deeper (with_part tree path leaf))
      → ((leaf : Tree) (other : List Leaf) → HasLeaves program planes at deeper (with_part tree path leaf) other → HasLeaves program planes at type (Alt None (with_part tree path leaf)) (filter is_number other))
      → PartAt program planes blocks capacity at c deeper tree path p inner → PartAt program planes blocks capacity at b type (Alt None tree) (i ∷ path) p leaves
  at-common at b c type tree i path deeper leaves inner p off is le down back q =
      let up : at + c ≤ at + b = omega (arith, le) in
      record {
        shown = false;
        before = filter is_number q.before;
        here = q.here;
        after = filter is_number q.after;
        width = q.width;
        scope = q.scope;
        is = is ∙ ap (filter is_number) q.is ∙ numbers-between q.shown q.before q.here q.after;
        has = q.has;
        fits = q.fits;
        room = q.room;
        low = Chain-filter is_number at q.before p.bit q.low;
        high = Chain-filter is_number (p.bit + q.width) q.after (at + b) (Chain-end (p.bit + q.width) q.after (at + c) (at + b) up q.high);
        shown_is = inr off;
        fit_in = λ leaf other fits. let inside = down leaf other fits in q.fit_in leaf inside.0 inside.1;
        with_in = λ leaf other has.
            subst (HasLeaves program planes at type (Alt None (with_part tree path leaf))) (numbers-between q.shown q.before other q.after)
            (back leaf (q.before ++ (seen q.shown other ++ q.after)) (q.with_in leaf other has));
      }

  -- the value with another active member's part
  member-with : (i : ℕ) (tree : Tree) (path : List ℕ) (leaf : Tree) → with_part (Alt (Some i) tree) (i ∷ path) leaf ≡ Alt (Some i) (with_part tree path leaf)
  member-with i tree path leaf = ap (λ c. cond c (Alt (Some i) (with_part tree path leaf)) (Alt (Some i) tree)) (same-number i)

pub types-at : (fields : List Field) (i : ℕ) (f : Field) → slice_get fields i ≡ Some f → slice_get (types_of fields) i ≡ Some f.ty
types-at [] i f e = absurd (cc)
types-at (g ∷ fs) zero f e = let same : g ≡ f = cc in ap (λ x. Some x.ty) same
types-at (g ∷ fs) (suc i) f e = types-at fs i f e

-- ---- the whole path

module _ (program : Program) (planes : List Plane) (blocks : Blocks) (capacity : ℕ) (settled : Settled program) (laid : AreLaidOut program planes) where
  at-field : (at b i : ℕ) (node : TypeId) (desc : Option Expr) (s : Structure) (plane : Plane) (f : Field) (spot : FieldSpot) (trees : Trees) (tree : Tree) (path : List ℕ) (p : Part) (leaves : List Leaf) (scope : Scope)
      → HasStructure program node s → s.is_union ≡ false → slice_get planes node.0 ≡ Some plane
      → (q : FieldAt program planes blocks capacity scope at 0 b (types_of s.fields) plane.fields trees leaves i f.ty spot tree) → slice_get (types_of s.fields) i ≡ Some f.ty → tree_at trees i ≡ Some tree
      → PartAt program planes blocks capacity (at + begin_at spot) q.width f.ty tree path p q.inner → PartAt program planes blocks capacity at b (ty.Node node desc) (Rec trees) (i ∷ path) p leaves
  at-field at b i node desc s plane f spot trees tree path p leaves scope has struct got q typed there inner =
      step-in program planes blocks capacity at b (ty.Node node desc) (Rec trees) (i ∷ path) leaves (at + begin_at spot) q.width f.ty tree path q.inner p q.before q.after q.is
      (Chain-from at (at + 0) q.before (at + begin_at spot) (omega arith) q.low) q.high
      (λ leaf other fits. (
        inside other node (Rec (with_part_of trees i path leaf)),
        all-fit-at (types_of s.fields) trees i path leaf f.ty tree typed there (fits-struct node desc s (with_part_of trees i path leaf) has fits),
      ))
      (λ leaf other h. HasLeaves.struct has struct got (q.back path leaf other h))
      inner

  at-member : (at b c i : ℕ) (node : TypeId) (desc : Option Expr) (s : Structure) (f : Field) (tree : Tree) (path : List ℕ) (p : Part) (leaves : List Leaf)
      → HasStructure program node s → s.is_union ≡ true → slice_get s.fields i ≡ Some f → c ≤ b
      → PartAt program planes blocks capacity at c f.ty tree path p leaves → PartAt program planes blocks capacity at b (ty.Node node desc) (Alt (Some i) tree) (i ∷ path) p leaves
  at-member at b c i node desc s f tree path p leaves has union get le inner =
      let low : at ≤ at = omega arith in
      let high : at + c ≤ at + b = omega (arith, le) in
      step-in program planes blocks capacity at b (ty.Node node desc) (Alt (Some i) tree) (i ∷ path) leaves at c f.ty tree path leaves p [] [] (sym (append-nil leaves)) low high
      (λ leaf other fits. (
        inside other node (Alt (Some i) (with_part tree path leaf)),
        fits-member node desc s i f (with_part tree path leaf) has get (subst (Fits program blocks capacity other (ty.Node node desc)) (member-with program planes blocks capacity i tree path leaf) fits),
      ))
      (λ leaf other h.
      subst (HasLeaves program planes at (ty.Node node desc) (with_part (Alt (Some i) tree) (i ∷ path) leaf)) (sym (append-nil other))
      (subst (λ v. HasLeaves program planes at (ty.Node node desc) v other) (sym (member-with program planes blocks capacity i tree path leaf)) (HasLeaves.member has union get h)))
      inner

  at-each : (at b i : ℕ) (type elem : Ty) (trees : Trees) (tree : Tree) (path : List ℕ) (p : Part) (leaves : List Leaf) (scope : Scope) (stride : ℕ) → count trees * stride ≤ b
      → (q : EachAt program planes blocks capacity scope stride at elem trees leaves i (at + i * stride) tree) → tree_at trees i ≡ Some tree
      → ((other : Scope) (ts : Trees) → Fits program blocks capacity other type (Row ts) → EachFits program blocks capacity other elem ts)
      → ((ts : Trees) (ls : List Leaf) → EachHasLeaves program planes stride at elem ts ls → HasLeaves program planes at type (Row ts) ls)
      → PartAt program planes blocks capacity (at + i * stride) stride elem tree path p q.inner → PartAt program planes blocks capacity at b type (Row trees) (i ∷ path) p leaves
  at-each at b i type elem trees tree path p leaves scope stride le q there fit has inner =
      let up : at + count trees * stride ≤ at + b = omega (arith, le) in
      step-in program planes blocks capacity at b type (Row trees) (i ∷ path) leaves (at + i * stride) stride elem tree path q.inner p q.before q.after q.is q.low
      (Chain-end ((at + i * stride) + stride) q.after (at + count trees * stride) (at + b) up q.high)
      (λ leaf other fits. (other, each-fit-at trees i path leaf elem tree there (fit other (with_part_of trees i path leaf) fits)))
      (λ leaf other h. has (with_part_of trees i path leaf) (q.before ++ (other ++ q.after)) (q.back path leaf other h))
      inner

  times-le : (n m k : ℕ) → n ≤ m → n * k ≤ m * k
  times-le n m k h = Rattle.std.proofs.Common.mul-le-mul_right k h

  pub part-at : {around : Scope} {holder : Holder} {active : Bool} {at : ℕ} {type : Ty} {value : Tree} {path : List ℕ} {p : Part} → PartLies program planes around holder active at type value path p
      → (scope : Scope) (b : ℕ) (leaves : List Leaf) → HasLeaves program planes at type value leaves → Fits program blocks capacity scope type value → Room program planes capacity type b
      → PartAt program planes blocks capacity at b type value path p leaves
  part-at (PartLies.whole {scope = around} {holder} {active} {at} {type} {tree}) scope b leaves has fits room = at-whole program planes blocks capacity at b type tree active scope around holder leaves has fits room
  part-at (PartLies.field {at} {i} {node} {desc} {s} {plane} {f} {spot} {trees} {tree} {path} {p} h u g get place there lies) scope b leaves has fits room =
      let typed = types-at s.fields i f get in
      let q = field-at program planes blocks capacity settled laid (struct-leaves node desc s plane trees leaves h g has) (inside scope node (Rec trees)) 0 b i f.ty spot tree typed place there
      (fits-struct node desc s trees h fits) (Laid-struct program planes capacity settled laid node desc s plane b h u g room) in
      at-field at b i node desc s plane f spot trees tree path p leaves (inside scope node (Rec trees)) h u g q typed there (part-at lies (inside scope node (Rec trees)) q.width q.inner q.has q.fits q.room)
  part-at (PartLies.member {at} {i} {node} {desc} {s} {f} {tree} {path} {p} h u get lies) scope b leaves has fits room =
      let found = has_room-member program planes capacity settled laid node desc s i f b h u get room in
      at-member at b found.0 i node desc s f tree path p leaves h u get found.2
      (part-at lies (inside scope node (Alt (Some i) tree)) found.0 leaves (member-leaves node desc s i f tree leaves h get has) (fits-member node desc s i f tree h get fits) found.1)
  part-at (PartLies.common {at} {i} {node} {common} {desc} {s} {tree} {path} {p} h c lies) scope b leaves has fits room =
      let found = has_room-common program planes capacity settled laid node desc s common b h c room in
      let inner = common-leaves node desc s common tree leaves settled h c has in
      at-common program planes blocks capacity at b found.0 (ty.Node node desc) tree i path (ty.Node common None) leaves inner.0 p (inactive lies refl) inner.1 found.2
      (λ leaf other fit. (inside other node (Alt None (with_part tree path leaf)), fits-common node common desc s (with_part tree path leaf) settled h c fit))
      (λ leaf other k. HasLeaves.common h c.union c k)
      (part-at lies (inside scope node (Alt None tree)) found.0 inner.0 inner.2 (fits-common node common desc s tree settled h c fits) found.1)
  part-at (PartLies.array {at} {i} {n} {type} {elem} {trees} {tree} {path} {p} o there lies) scope b leaves has fits room =
      let found = room-array type elem n b o room in
      let fit = fits-array type elem n trees o fits in
      let stride = 8 * (extent_of planes elem).size in
      let le : count trees * stride ≤ n * stride = times-le (count trees) n stride (omega (arith, fit.0)) in
      let q = each-at program planes blocks capacity settled laid (array-leaves type elem n trees leaves o has) scope i tree there fit.1 (Room.plain found.0) in
      at-each at b i type elem trees tree path p leaves scope stride (omega (arith, le, found.1)) q there
      (λ other ts k. (fits-array type elem n ts o k).1) (λ ts ls k. HasLeaves.array o k)
      (part-at lies scope stride q.inner q.has q.fits (Room.plain found.0))
  part-at (PartLies.tail {at} {i} {length = long} {type} {elem} {trees} {tree} {path} {p} o there lies) scope b leaves has fits room =
      let found = room-tail type elem long b o room in
      let fit = fits-tail type elem long trees o fits in
      let stride = 8 * (extent_of planes elem).size in
      let le : count trees * stride ≤ capacity * stride = times-le (count trees) capacity stride fit.0 in
      let q = each-at program planes blocks capacity settled laid (tail-leaves type elem long trees leaves o has) scope i tree there fit.1 (Room.plain found.0) in
      at-each at b i type elem trees tree path p leaves scope stride (omega (arith, le, found.1)) q there
      (λ other ts k. (fits-tail type elem long ts o k).1) (λ ts ls k. HasLeaves.tail o k)
      (part-at lies scope stride q.inner q.has q.fits (Room.plain found.0))
