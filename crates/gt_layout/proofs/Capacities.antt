-- What a structure takes with room for elements at its end: its size without, or more where an array with a length inside it ends later.
use Rattle.std.proofs.Common.{◌≡◌, ◌≢◌, ℕ, ◌+◌, ◌-◌, ◌*◌, ◌%◌, ◌≤◌, ◌<◌, max, true, false, IsTrue, Option, Some, None, option_map, IfOk, Result, Vec, Global, List, [], ◌∷◌, length, map, get_or, sym, ap, subst, ◌∙◌, refl, ◌⊎◌, inl, inr, arith}
use Rattle.std.specs.List.{All, Contains}
use Rattle.std.specs.Prelude.{slice_get, option_to_list}
use Rattle.std.proofs.lemmas.Result.{IfOk-weaker}
use Rattle.std.proofs.lemmas.Bool.{cases_lt, cases_eq}
use Rattle.std.proofs.lemmas.Option.{get_or_from_slice_get, slice_get-get_or, slice_get_cases}
use Rattle.std.proofs.lemmas.List.Elements.{All-nil, All-cons, All-head, All-tail, All-contains, Contains-get_or}
use Rattle.gt_types.specs.declared.expressions.Expr.{Expr}
use Rattle.gt_types.specs.declared.types.TypeId.{TypeId}
use Rattle.gt_types.specs.declared.types.Ty.{Ty}
use Rattle.gt_types.specs.declared.types.Ty.TheOpen as part
use Rattle.gt_types.specs.declared.types.Ty.TheFolds.{fold-roll-Ty}
use Rattle.gt_types.specs.declared.types.Ty.TheVariants.{rolls-Node}
use Rattle.gt_types.specs.declared.types.Ty.TheVariants as ty
use Rattle.gt_types.specs.declared.program.Field.{Field}
use Rattle.gt_types.specs.declared.program.Structure.{Structure}
use Rattle.gt_types.specs.declared.program.Program.{Program}
use Rattle.gt_types.specs.Contains.{HasStructure}
use Rattle.gt_types.specs.Shapes.{is_structure}
use Rattle.gt_types.specs.Tails.{tail_of}
use Rattle.gt_types.specs.Settled.{Settled}
use Rattle.gt_layout.specs.declared.planes.TheConstants.{MAX_SIZE}
use Rattle.gt_layout.specs.declared.planes.Extent.{Extent}
use Rattle.gt_layout.specs.declared.planes.Plane.{Plane}
use Rattle.gt_layout.specs.declared.planes.FieldSpot.{FieldSpot}
use Rattle.gt_layout.specs.declared.planes.TailSpot.{TailSpot}
use Rattle.gt_layout.specs.declared.storages.Storage.TheVariants.{Bytes}
use Rattle.gt_layout.specs.Storages.{extent_at, extent_of, extent_of_plane, extent_step, held_extent, storage_of, storages_of}
use Rattle.gt_layout.specs.Places.{Lie, Overlap, align_of, end_at, end_of, ends, last_offset}
use Rattle.gt_layout.specs.Planes.{AreLaidOut, IsSize, greatest, is_alignment}
use Rattle.gt_layout.specs.Excess.{IsTooLarge}
use Rattle.gt_layout.specs.Growths.{AreTails, HasTail, at_end, in_member, end_of_tails, tail_spot}
use Rattle.gt_layout.specs.Capacity.{SizeAt, MemberEnds}
use Rattle.gt_layout.specs.Progress.{HoldsWithinDepth, IsWithinDepth, own_tail, type_id}
use Rattle.gt_layout.proofs.Placing.{up, up_after, up_multiple}
use Rattle.gt_layout.proofs.Multiples.{least_multiple}
use Rattle.gt_layout.proofs.Laying.{held_within}
use Rattle.gt_layout.proofs.LastFields.{last-ends}
use Rattle.gt_layout.proofs.TailLists.{end-inside, end-least}
use Rattle.gt_layout.proofs.Growing.{of-struct, of-union, struct-tails}
use Rattle.gt_layout.proofs.Depths.{aligned, held-node, inner_there}
use Rattle.gt_layout.proofs.Sized.{sized}
use Rattle.gt_layout.proofs.Ideal.{some_align}

-- ---- alignments

-- a number is one of these alignments
abbrev IsOne : ℕ → Type 0
IsOne n = ((n ≡ 1) ⊎ (n ≡ 2)) ⊎ ((n ≡ 4) ⊎ (n ≡ 8))

one_of : (n : ℕ) → IsTrue (is_alignment n) → IsOne n
one_of n is = go (cases_eq n 1) (cases_eq n 2) (cases_eq n 4) (cases_eq n 8)
  where
    go : (n ≡ 1) ⊎ (n ≢ 1) → (n ≡ 2) ⊎ (n ≢ 2) → (n ≡ 4) ⊎ (n ≢ 4) → (n ≡ 8) ⊎ (n ≢ 8) → IsOne n
    go (inl a) _ _ _ = inl (inl a)
    go _ (inl b) _ _ = inl (inr b)
    go _ _ (inl c) _ = inr (inl c)
    go _ _ _ (inl d) = inr (inr d)
    go (inr a) (inr b) (inr c) (inr d) = absurd (grind (arith, is, a, b, c, d))

-- multiples of a number are those of a smaller one, where both are alignments
by_one : (b a : ℕ) → IsOne a → b % 8 ≡ 0 → b % a ≡ 0
by_one b a (inl (inl e)) h = subst (λ n. b % n ≡ 0) (sym e) (omega arith)
by_one b a (inl (inr e)) h = subst (λ n. b % n ≡ 0) (sym e) (omega (arith, h))
by_one b a (inr (inl e)) h = subst (λ n. b % n ≡ 0) (sym e) (omega (arith, h))
by_one b a (inr (inr e)) h = subst (λ n. b % n ≡ 0) (sym e) h

by_half : (b a : ℕ) → IsOne a → a ≤ 4 → b % 4 ≡ 0 → b % a ≡ 0
by_half b a (inl (inl e)) le h = subst (λ n. b % n ≡ 0) (sym e) (omega arith)
by_half b a (inl (inr e)) le h = subst (λ n. b % n ≡ 0) (sym e) (omega (arith, h))
by_half b a (inr (inl e)) le h = subst (λ n. b % n ≡ 0) (sym e) h
by_half b a (inr (inr e)) le h = absurd (omega (arith, e, le))

by_quarter : (b a : ℕ) → IsOne a → a ≤ 2 → b % 2 ≡ 0 → b % a ≡ 0
by_quarter b a (inl (inl e)) le h = subst (λ n. b % n ≡ 0) (sym e) (omega arith)
by_quarter b a (inl (inr e)) le h = subst (λ n. b % n ≡ 0) (sym e) h
by_quarter b a (inr (inl e)) le h = absurd (omega (arith, e, le))
by_quarter b a (inr (inr e)) le h = absurd (omega (arith, e, le))

by_least : (b a : ℕ) → IsOne a → a ≤ 1 → b % a ≡ 0
by_least b a (inl (inl e)) le = subst (λ n. b % n ≡ 0) (sym e) (omega arith)
by_least b a (inl (inr e)) le = absurd (omega (arith, e, le))
by_least b a (inr (inl e)) le = absurd (omega (arith, e, le))
by_least b a (inr (inr e)) le = absurd (omega (arith, e, le))

divides : (b a align : ℕ) → IsTrue (is_alignment a) → IsTrue (is_alignment align) → a ≤ align → b % align ≡ 0 → b % a ≡ 0
divides b a align is its le h = go (one_of align its)
  where
    go : IsOne align → b % a ≡ 0
    go (inl (inl e)) = by_least b a (one_of a is) (omega (arith, e, le))
    go (inl (inr e)) = by_quarter b a (one_of a is) (omega (arith, e, le)) (subst (λ n. b % n ≡ 0) e h)
    go (inr (inl e)) = by_half b a (one_of a is) (omega (arith, e, le)) (subst (λ n. b % n ≡ 0) e h)
    go (inr (inr e)) = by_one b a (one_of a is) (subst (λ n. b % n ≡ 0) e h)

-- ---- planes

pub positive : (program : Program) (planes : List Plane) (place : ℕ) (plane : Plane) → AreLaidOut program planes → slice_get planes place ≡ Some plane → 0 < plane.align
positive program planes place plane laid at = omega (arith, subst (λ (o : Option Plane). 1 ≤ (extent_of_plane o).align) at (some_align program planes place laid))

small_by : (n : ℕ) → (MAX_SIZE < n) ⊎ (n ≤ MAX_SIZE) → ¬ (MAX_SIZE < n) → n ≤ MAX_SIZE
small_by n (inl large) never = absurd (never large)
small_by n (inr small) never = small

-- ---- the structures of members

pub shallow_fields : (program : Program) (place depth : ℕ) (s : Structure) (fields : List Field) → Settled program → slice_get program.structures place ≡ Some s → IsWithinDepth program place depth → fields ≡ s.fields
    → All (λ (f : Field). HoldsWithinDepth program f.ty depth) fields
shallow_fields program place depth s fields settled there shallow same =
    subst (λ (fs : List Field). All (λ (f : Field). HoldsWithinDepth program f.ty depth) fs) (sym same)
    (λ k d within. held_within program place depth s (get_or s.fields k d) k settled there within (get_or_from_slice_get s.fields k (get_or s.fields k d) (get_or s.fields k d) (slice_get-get_or s.fields k d within)) shallow)

-- what a member that is a structure needs
pub node_within : (program : Program) (type : Ty) (node : TypeId) (desc : Option Expr) (depth : ℕ) → HoldsWithinDepth program type depth → type ≡ ty.Node node desc
    → (node.0 < length program.structures) × (1 ≤ depth) × IsWithinDepth program node.0 (depth - 1)
node_within program type node desc depth shallow is = shallow node (held-node type node desc is)

-- ---- the ends of the members of a union

extent-node : (planes : List Plane) (node : TypeId) (desc : Option Expr) → extent_of planes (ty.Node node desc) ≡ extent_at planes node.0
extent-node planes node desc = ap (extent_of planes) (sym (rolls-Node node desc)) ∙ fold-roll-Ty Extent (extent_step planes) (part.Node node desc)

-- a structure by value ends where its plane does
node-storage : (planes : List Plane) (f : Field) (node : TypeId) (desc : Option Expr) (plane : Plane) → f.ty ≡ ty.Node node desc → slice_get planes node.0 ≡ Some plane
    → storage_of planes f.ty ≡ Bytes (extent_of_plane (Some plane))
node-storage planes f node desc plane type at = ap (storage_of planes) type ∙ ap Bytes (extent-node planes node desc) ∙ ap (λ o. Bytes (extent_of_plane o)) at

node-end : (planes : List Plane) (f : Field) (node : TypeId) (desc : Option Expr) (plane : Plane) → f.ty ≡ ty.Node node desc → slice_get planes node.0 ≡ Some plane → end_of (storage_of planes f.ty) 0 ≡ 8 * plane.size
node-end planes f node desc plane type at = ap (λ x. end_of x 0) (node-storage planes f node desc plane type at) ∙ omega arith

member-begin : (planes : List Plane) (f : Field) (s : FieldSpot) → s ≡ record { offset = 0; bit = 0 } → end_at (storage_of planes f.ty) s ≡ end_of (storage_of planes f.ty) 0
member-begin planes f s e = ap (λ x. end_at (storage_of planes f.ty) x) e

abbrev EndsIn : List Plane → ℕ → Field → Type 0
EndsIn planes bound f = end_of (storage_of planes f.ty) 0 ≤ bound

to-ends : (planes : List Plane) (fs : List Field) (spots : List FieldSpot) (bound : ℕ) → Overlap (storages_of planes fs) spots → All (EndsIn planes bound) fs → All (λ end. end ≤ bound) (ends (storages_of planes fs) spots)
to-ends planes [] [] bound h all = All-nil (λ end. end ≤ bound)
to-ends planes [] (s ∷ ss) bound h all = absurd h
to-ends planes (f ∷ fs) [] bound h all = absurd h
to-ends planes (f ∷ fs) (s ∷ ss) bound h all =
    let here = All-head (EndsIn planes bound) f fs all in
    All-cons (λ end. end ≤ bound) (end_at (storage_of planes f.ty) s) (ends (storages_of planes fs) ss) (omega (arith, here, member-begin planes f s h.0)) (to-ends planes fs ss bound h.1 (All-tail (EndsIn planes bound) f fs all))

from-ends : (planes : List Plane) (fs : List Field) (spots : List FieldSpot) (bound : ℕ) → Overlap (storages_of planes fs) spots → All (λ end. end ≤ bound) (ends (storages_of planes fs) spots) → All (EndsIn planes bound) fs
from-ends planes [] [] bound h all = All-nil (EndsIn planes bound)
from-ends planes [] (s ∷ ss) bound h all = absurd h
from-ends planes (f ∷ fs) [] bound h all = absurd h
from-ends planes (f ∷ fs) (s ∷ ss) bound h all =
    let here = All-head (λ end. end ≤ bound) (end_at (storage_of planes f.ty) s) (ends (storages_of planes fs) ss) all in
    let rest = All-tail (λ end. end ≤ bound) (end_at (storage_of planes f.ty) s) (ends (storages_of planes fs) ss) all in
    All-cons (EndsIn planes bound) f fs (omega (arith, here, member-begin planes f s h.0)) (from-ends planes fs ss bound h.1 rest)

-- ---- the least size that holds the plane and all arrays

module _ (program : Program) (planes : List Plane) (capacity : ℕ) (settled : Settled program) (laid : AreLaidOut program planes) where
  abbrev end_of_tail : TailSpot → ℕ
  end_of_tail tail = tail.offset + capacity * tail.elem_size

  -- a size is the least that holds the plane of a structure and all arrays with a length in it
  record Fills (node : TypeId) (plane : Plane) (size : ℕ) : Type 0 where
    whole : size % plane.align ≡ 0
    plane_in : plane.size ≤ size
    tails_in : (tail : TailSpot) → HasTail program planes node tail → end_of_tail tail ≤ size
    least : (bound : ℕ) → bound % plane.align ≡ 0 → plane.size ≤ bound → ((tail : TailSpot) → HasTail program planes node tail → end_of_tail tail ≤ bound) → size ≤ bound

  -- a member with its arrays ends in so many bytes
  abbrev IsIn : ℕ → Field → Type 0
  IsIn bound f = EndsIn planes (8 * bound) f × ((inner : TypeId) (desc : Option Expr) (tail : TailSpot) → f.ty ≡ ty.Node inner desc → HasTail program planes inner tail → end_of_tail tail ≤ bound)

  abbrev FitsIn : ℕ → Field → Type 0
  FitsIn bound f = IsIn bound f × ((inner : TypeId) (desc : Option Expr) (plane : Plane) → f.ty ≡ ty.Node inner desc → slice_get planes inner.0 ≡ Some plane → bound % plane.align ≡ 0)

  fills-struct : (node : TypeId) (s : Structure) (plane : Plane) → HasStructure program node s → slice_get planes node.0 ≡ Some plane → s.is_union ≡ false → tail_of s.fields ≡ None → Fills node plane plane.size
  fills-struct node s plane has got struct none = record {
    whole = (laid.each node.0 s plane has got).size.room.whole;
    plane_in = omega arith;
    tails_in = λ tail is. let found = of-struct program planes node s plane tail has got struct is in let some = found.1 in absurd (cc);
    least = λ bound multiple inside tails. inside;
  }

  fills-tail : (node : TypeId) (s : Structure) (plane : Plane) (elem : Ty) (size : ℕ) → HasStructure program node s → slice_get planes node.0 ≡ Some plane → s.is_union ≡ false → tail_of s.fields ≡ Some elem
      → IsSize plane.align (8 * (last_offset plane.fields + capacity * (extent_of planes elem).size) ∷ []) size → Fills node plane size
  fills-tail node s plane elem size has got struct tail sized =
      let end = last_offset plane.fields + capacity * (extent_of planes elem).size in
      let its = laid.each node.0 s plane has got in
      let last = last-ends planes s.fields plane.fields 0 elem tail (subst (λ b. Lie b (storages_of planes s.fields) plane.fields) struct its.places) in
      let in_size : 8 * end ≤ 8 * size = All-head (λ n. n ≤ 8 * size) (8 * end) [] sized.room.inside in
      record {
        whole = sized.room.whole;
        plane_in = its.size.least size (record { whole = sized.room.whole; inside = λ k d lt. let le = last.inside k d lt in omega (arith, le, in_size) });
        tails_in = λ other is.
            let found = of-struct program planes node s plane other has got struct is in
            let some = found.1 in
            let same : found.0 ≡ elem = cc in
            let equal : end_of_tail other ≡ end = ap end_of_tail found.2 ∙ ap (λ e. last_offset plane.fields + capacity * (extent_of planes e).size) same in
            omega (arith, equal, in_size);
        least = λ bound multiple inside tails.
            let le = tails (tail_spot (last_offset plane.fields) (extent_of planes elem).size) (at_end has got struct tail) in
            sized.least bound (record { whole = multiple; inside = All-cons (λ n. n ≤ 8 * bound) (8 * end) [] (omega (arith, le)) (All-nil (λ n. n ≤ 8 * bound)) });
      }

  -- a member is aligned as its union, or less
  member-least : (fs : List Field) (f : Field) → Contains fs f → (align : ℕ) → align ≡ greatest (map align_of (storages_of planes fs)) → align_of (storage_of planes f.ty) ≤ align
  member-least fs f contains align is =
      let le = All-contains (λ (g : Field). align_of (storage_of planes g.ty) ≤ greatest (map align_of (storages_of planes fs))) fs f (each fs) contains in
      omega (arith, le, is)
    where
      each : (gs : List Field) → All (λ (g : Field). align_of (storage_of planes g.ty) ≤ greatest (map align_of (storages_of planes gs))) gs
      each [] = All-nil (λ (g : Field). align_of (storage_of planes g.ty) ≤ 1)
      each (g ∷ gs) =
          let rest = each gs in
          All-cons (λ (h : Field). align_of (storage_of planes h.ty) ≤ max (align_of (storage_of planes g.ty)) (greatest (map align_of (storages_of planes gs)))) g gs (omega arith)
          (λ k d lt. let le = rest k d lt in omega (arith, le))

  -- what is a multiple of the alignment of a union is one of that of a member
  member-multiple : (node : TypeId) (s : Structure) (plane : Plane) (f : Field) (bound : ℕ) → HasStructure program node s → slice_get planes node.0 ≡ Some plane → Contains s.fields f → bound % plane.align ≡ 0
      → (inner : TypeId) (desc : Option Expr) (p : Plane) → f.ty ≡ ty.Node inner desc → slice_get planes inner.0 ≡ Some p → bound % p.align ≡ 0
  member-multiple node s plane f bound has got contains multiple inner desc p type at =
      let le = member-least s.fields f contains plane.align (laid.each node.0 s plane has got).align in
      let same : align_of (storage_of planes f.ty) ≡ p.align = ap align_of (node-storage planes f inner desc p type at) in
      let there = inner_there program node s f inner settled has contains (held-node f.ty inner desc type) in
      divides bound p.align plane.align (aligned program planes settled laid inner there.0 there.1 p at) (aligned program planes settled laid node s has plane got) (omega (arith, le, same)) multiple

  -- what the members of a union say of it
  fills-union : (node : TypeId) (s : Structure) (plane : Plane) (es : List ℕ) (size : ℕ) → HasStructure program node s → slice_get planes node.0 ≡ Some plane → s.is_union ≡ true → IsSize plane.align es size
      → ((bound : ℕ) → All (λ end. end ≤ 8 * bound) es → All (IsIn bound) s.fields) → ((bound : ℕ) → All (FitsIn bound) s.fields → All (λ end. end ≤ 8 * bound) es) → Fills node plane size
  fills-union node s plane es size has got union sized to from =
      let its = laid.each node.0 s plane has got in
      let overlap = subst (λ b. Lie b (storages_of planes s.fields) plane.fields) union its.places in
      let inside = to size sized.room.inside in
      record {
        whole = sized.room.whole;
        plane_in = its.size.least size (record { whole = sized.room.whole; inside = to-ends planes s.fields plane.fields (8 * size) overlap (λ k d lt. (inside k d lt).0) });
        tails_in = λ tail is.
            let found = of-union program planes node s tail has union is in
            (All-contains (IsIn size) s.fields found.0 inside found.3).1 found.1 found.2 tail found.4 found.5;
        least = λ bound multiple plane_in tails.
            let all = from-ends planes s.fields plane.fields (8 * plane.size) overlap its.size.room.inside in
            sized.least bound (record {
              whole = multiple;
              inside = from bound (λ k d lt.
                  let f = get_or s.fields k d in
                  let contains = Contains-get_or s.fields k d lt in
                  let end = all k d lt in
                  ((omega (arith, end, plane_in), λ inner desc tail type is. tails tail (in_member has union contains type is)), member-multiple node s plane f bound has got contains multiple));
            });
      }

  -- the plane of a structure that has a size
  plane_of_size : (node : TypeId) (size : ℕ) → SizeAt program planes capacity node size → (plane : Plane) × (slice_get planes node.0 ≡ Some plane)
  plane_of_size node size (SizeAt.of_tail {plane} has got struct tail sized) = (plane, got)
  plane_of_size node size (SizeAt.of_union {plane} has got union members sized) = (plane, got)
  plane_of_size node size (SizeAt.of_struct {plane} has got struct none) = (plane, got)

  mutual
    fills : (node : TypeId) (size : ℕ) → SizeAt program planes capacity node size → (plane : Plane) → slice_get planes node.0 ≡ Some plane → Fills node plane size
    fills node size (SizeAt.of_struct {s} {plane = flat} has got struct none) plane at =
        let same : flat ≡ plane = cc in
        subst (λ p. Fills node p flat.size) same (fills-struct node s flat has got struct none)
    fills node size (SizeAt.of_tail {s} {plane = flat} {elem} has got struct tail sized) plane at =
        let same : flat ≡ plane = cc in
        subst (λ p. Fills node p size) same (fills-tail node s flat elem size has got struct tail sized)
    fills node size (SizeAt.of_union {s} {plane = flat} {ends = es} has got union members sized) plane at =
        let same : flat ≡ plane = cc in
        subst (λ p. Fills node p size) same (fills-union node s flat es size has got union sized (low s.fields es members) (high s.fields es members))

    low : (fs : List Field) (es : List ℕ) → MemberEnds program planes capacity fs es → (bound : ℕ) → All (λ end. end ≤ 8 * bound) es → All (IsIn bound) fs
    low fs es MemberEnds.none bound all = All-nil (IsIn bound)
    low fs es (MemberEnds.of_structure {f} {fs = rest} {node} {desc} {size} {ends = others} type sized members) bound all =
        let at = plane_of_size node size sized in
        let own = fills node size sized at.0 at.1 in
        let in_bound : 8 * size ≤ 8 * bound = All-head (λ end. end ≤ 8 * bound) (8 * size) others all in
        let in_size = own.plane_in in
        All-cons (IsIn bound) f rest (
          omega (arith, node-end planes f node desc at.0 type at.1, in_size, in_bound),
          λ inner d tail e is.
              let both : ty.Node node desc ≡ ty.Node inner d = sym type ∙ e in
              let same : inner ≡ node = cc in
              let le = own.tails_in tail (subst (λ n. HasTail program planes n tail) same is) in
              omega (arith, le, in_bound),
        )
        (low rest others members bound (All-tail (λ end. end ≤ 8 * bound) (8 * size) others all))
    low fs es (MemberEnds.of_field {f} {fs = rest} {ends = others} flat members) bound all =
        let end = end_of (storage_of planes f.ty) 0 in
        All-cons (IsIn bound) f rest (All-head (λ n. n ≤ 8 * bound) end others all, λ inner d tail e is. let o = ap is_structure e in absurd (cc))
        (low rest others members bound (All-tail (λ n. n ≤ 8 * bound) end others all))

    high : (fs : List Field) (es : List ℕ) → MemberEnds program planes capacity fs es → (bound : ℕ) → All (FitsIn bound) fs → All (λ end. end ≤ 8 * bound) es
    high fs es MemberEnds.none bound all = All-nil (λ end. end ≤ 8 * bound)
    high fs es (MemberEnds.of_structure {f} {fs = rest} {node} {desc} {size} {ends = others} type sized members) bound all =
        let at = plane_of_size node size sized in
        let own = fills node size sized at.0 at.1 in
        let here = All-head (FitsIn bound) f rest all in
        let end = here.0.0 in
        let le = own.least bound (here.1 node desc at.0 type at.1) (omega (arith, end, node-end planes f node desc at.0 type at.1)) (λ tail is. here.0.1 node desc tail type is) in
        All-cons (λ n. n ≤ 8 * bound) (8 * size) others (omega (arith, le)) (high rest others members bound (All-tail (FitsIn bound) f rest all))
    high fs es (MemberEnds.of_field {f} {fs = rest} {ends = others} flat members) bound all =
        let here = All-head (FitsIn bound) f rest all in
        All-cons (λ n. n ≤ 8 * bound) (end_of (storage_of planes f.ty) 0) others here.0.0 (high rest others members bound (All-tail (FitsIn bound) f rest all))

  -- ---- the size by the plane and the list

  room_size : (node : TypeId) (s : Structure) (plane : Plane) (tails : List TailSpot) (end result : ℕ) → HasStructure program node s → slice_get planes node.0 ≡ Some plane → 0 < plane.align → AreTails program planes node tails
      → end ≡ end_of_tails capacity tails → result ≡ up (max end plane.size) plane.align → SizeAt program planes capacity node result
  room_size node s plane tails end result has got some are is value =
      let found = sized program planes capacity settled laid (λ place p at. positive program planes place p laid at) node s has in
      let own = fills node found.0 found.1 plane got in
      let plane_in = own.plane_in in
      let most = end-least capacity found.0 tails (λ k d lt. own.tails_in (get_or tails k d) (are.there k d lt)) in
      let after = up_after (max end plane.size) plane.align some in
      let low : found.0 ≤ result = own.least result (ap (λ n. n % plane.align) value ∙ up_multiple (max end plane.size) plane.align some) (omega (arith, value, after))
      (λ tail inside. let le = end-inside capacity tails tail (are.last tail inside) in omega (arith, le, is, value, after)) in
      let high : up (max end plane.size) plane.align ≤ found.0 = least_multiple (max end plane.size) plane.align found.0 some (omega (arith, most, is, plane_in)) own.whole in
      let same : found.0 ≡ result = omega (arith, low, high, value) in
      subst (SizeAt program planes capacity node) same found.1

  pub room_size_there : (node : TypeId) (plane : Plane) (tails : List TailSpot) (end most result : ℕ) → node.0 < length program.structures → slice_get planes node.0 ≡ Some plane → AreTails program planes node tails
      → end ≡ end_of_tails capacity tails → most ≡ max end plane.size → result ≡ up most plane.align → SizeAt program planes capacity node result
  room_size_there node plane tails end most result within got are is greater value = go (slice_get_cases program.structures node.0).1
    where
      go : ((s : Structure) × (node.0 < length program.structures) × (slice_get program.structures node.0 ≡ Some s) × (get_or program.structures node.0 s ≡ s)) ⊎ ((length program.structures ≤ node.0) × (slice_get program.structures node.0 ≡ None))
          → SizeAt program planes capacity node result
      go (inl (s, _, has, _)) = room_size node s plane tails end result has got (positive program planes node.0 plane laid got) are is (value ∙ ap (λ n. up n plane.align) greater)
      go (inr past) = absurd (omega (arith, within, past.0))

  -- the size is the least one with room for the plane and for the arrays
  pub least_room : (node : TypeId) (plane : Plane) (tails : List TailSpot) (size : ℕ) → slice_get planes node.0 ≡ Some plane → AreTails program planes node tails → SizeAt program planes capacity node size
      → IsSize plane.align (8 * plane.size ∷ 8 * end_of_tails capacity tails ∷ []) size
  least_room node plane tails size got are sized =
      let own = fills node size sized plane got in
      let end = end_of_tails capacity tails in
      let plane_in = own.plane_in in
      let most = end-least capacity size tails (λ k d lt. own.tails_in (get_or tails k d) (are.there k d lt)) in
      record {
        room = record {
          whole = own.whole;
          inside = All-cons (λ n. n ≤ 8 * size) (8 * plane.size) (8 * end ∷ []) (omega (arith, plane_in)) (All-cons (λ n. n ≤ 8 * size) (8 * end) [] (omega (arith, most)) (All-nil (λ n. n ≤ 8 * size)));
        };
        least = λ other room.
            let first = All-head (λ n. n ≤ 8 * other) (8 * plane.size) (8 * end ∷ []) room.inside in
            let second = All-head (λ n. n ≤ 8 * other) (8 * end) [] (All-tail (λ n. n ≤ 8 * other) (8 * plane.size) (8 * end ∷ []) room.inside) in
            own.least other room.whole (omega (arith, first)) (λ tail inside. let le = end-inside capacity tails tail (are.last tail inside) in omega (arith, le, second));
      }

-- ---- the elements of arrays that are not too large

pub small_tail : (program : Program) (planes : List Plane) (node : TypeId) (tail : TailSpot) → ((place : ℕ) → ¬ IsTooLarge program planes place) → HasTail program planes node tail → tail.elem_size ≤ MAX_SIZE
small_tail program planes node tail within (at_end {s} {plane} {elem} has got struct is) = small_by (extent_of planes elem).size (cases_lt MAX_SIZE (extent_of planes elem).size) (λ large. within node.0 (s, plane, has, got, inr (elem, is, large)))
small_tail program planes node tail within (in_member {inner} has union contains type is) = small_tail program planes inner tail within is

pub small_tails : (program : Program) (planes : List Plane) (node : TypeId) (tails : List TailSpot) → ((place : ℕ) → ¬ IsTooLarge program planes place) → AreTails program planes node tails → All (λ (tail : TailSpot). tail.elem_size ≤ MAX_SIZE) tails
small_tails program planes node tails within are = λ k d lt. small_tail program planes node (get_or tails k d) within (are.there k d lt)

-- what is found of a struct
own-found : (planes : List Plane) (s : Structure) (plane : Plane) → (o : Option Ty) → ((elem : Ty) → o ≡ Some elem → (extent_of planes elem).size ≤ MAX_SIZE)
    → option_map (λ elem. tail_spot (last_offset plane.fields) (held_extent (extent_of planes elem)).size) o ≡ option_map (λ elem. tail_spot (last_offset plane.fields) (extent_of planes elem).size) o
own-found planes s plane None small = refl
own-found planes s plane (Some elem) small = let le = small elem refl in let same : (held_extent (extent_of planes elem)).size ≡ (extent_of planes elem).size = omega (arith, le) in ap (λ n. Some (tail_spot (last_offset plane.fields) n)) same

pub own-tails : {E : Type 0} (program : Program) (planes : List Plane) (place : ℕ) (s : Structure) (plane : Plane) (result : Result (Vec TailSpot Global) E) → ((other : ℕ) → ¬ IsTooLarge program planes other) → slice_get program.structures place ≡ Some s
    → slice_get planes place ≡ Some plane → s.is_union ≡ false → IfOk result (λ tails. tails.items ≡ option_to_list (own_tail planes s plane)) → IfOk result (λ tails. AreTails program planes (type_id place) tails.items)
own-tails program planes place s plane result within has got struct made =
    let small : (elem : Ty) → tail_of s.fields ≡ Some elem → (extent_of planes elem).size ≤ MAX_SIZE = λ elem is. small_by (extent_of planes elem).size (cases_lt MAX_SIZE (extent_of planes elem).size) (λ large. within place (s, plane, has, got, inr (elem, is, large))) in
    let same = own-found planes s plane (tail_of s.fields) small in
    IfOk-weaker result (λ tails. tails.items ≡ option_to_list (own_tail planes s plane)) (λ tails. AreTails program planes (type_id place) tails.items)
    (λ tails is. subst (AreTails program planes (type_id place)) (sym (is ∙ ap option_to_list same)) (struct-tails program planes (type_id place) s plane has got struct (tail_of s.fields) refl)) made
