-- The places of the fields of a structure, by the layouts of a settled program.
use Rattle.std.proofs.Common.{◌≡◌, ℕ, zero, suc, ◌+◌, ◌*◌, ◌≤◌, true, false, IsTrue, List, [], ◌∷◌, length, refl, ap, sym, subst, ◌∙◌, arith, Option, Some, None}
use Rattle.std.specs.Prelude.{All, Contains, is_some, slice_get}
use Rattle.std.proofs.lemmas.List.Elements.{All-head, All-tail, All-weaker}
use Rattle.std.proofs.lemmas.Option.{slice_get-get_or, slice_get_within, get_or_from_slice_get}
use Rattle.gt_types.specs.declared.expressions.Expr.{Expr}
use Rattle.gt_types.specs.declared.types.TypeId.{TypeId}
use Rattle.gt_types.specs.declared.types.Ty.{Ty}
use Rattle.gt_types.specs.declared.types.Ty.TheVariants as ty
use Rattle.gt_types.specs.declared.types.Ty.TheVariants.{outs-Node}
use Rattle.gt_types.specs.declared.program.Field.{Field}
use Rattle.gt_types.specs.declared.program.Structure.{Structure}
use Rattle.gt_types.specs.declared.program.Program.{Program}
use Rattle.gt_types.specs.Shapes.{is_structure, is_tail}
use Rattle.gt_types.specs.Contains.{HasStructure, held_by}
use Rattle.gt_types.specs.Tails.{IsTailType, ends as ends_so, has_member, tail_of}
use Rattle.gt_types.specs.Unions.{IsCommon}
use Rattle.gt_types.specs.Settled.{Settled, IsField, IsStruct, IsUnion, IsOfItsKind}
use Rattle.gt_layout.specs.declared.planes.Plane.{Plane}
use Rattle.gt_layout.specs.declared.planes.FieldSpot.{FieldSpot}
use Rattle.gt_layout.specs.Storages.{extent_of, extent_of_plane, storage_of, storages_of}
use Rattle.gt_layout.specs.Places.{begin_at, end_at, Follow, Overlap, Lie, last_offset}
use Rattle.gt_layout.specs.Places.{ends as ends_at}
use Rattle.gt_layout.specs.Planes.{AreLaidOut}
use Rattle.gt_layout.specs.Capacity.{SizeAt, MemberEnds}
use Rattle.gt_tree.specs.Fits.{types_of}
use Rattle.gt_tree.proofs.Types.{bits_in, end_of-bits, extent-node, held-node}
use Rattle.gt_tree.proofs.Rooms.{Room, Laid, Sound, room-field, room-desc, Laid-follow, Laid-tail, no_tails-none, no_tails-all}

same-structure : (program : Program) (node : TypeId) (s other : Structure) → HasStructure program node s → HasStructure program node other → other ≡ s
same-structure program node s other a b = cc

same-plane : (planes : List Plane) (place : ℕ) (plane other : Plane) → slice_get planes place ≡ Some plane → slice_get planes place ≡ Some other → other ≡ plane
same-plane planes place plane other a b = cc

pub get-as_long : {X Y : Type 0} (xs : List X) (ys : List Y) (i : ℕ) (y : Y) → length xs ≡ length ys → slice_get ys i ≡ Some y → (x : X) × (slice_get xs i ≡ Some x)
get-as_long xs [] i y e h = absurd (cc)
get-as_long [] (z ∷ ys) i y e h = absurd (omega arith)
get-as_long (x ∷ xs) (z ∷ ys) zero y e h = (x, refl)
get-as_long (x ∷ xs) (z ∷ ys) (suc i) y e h = get-as_long xs ys i y (omega arith) h

All-get : {X : Type 0} (P : X → Type 0) (xs : List X) (i : ℕ) (x : X) → slice_get xs i ≡ Some x → All P xs → P x
All-get P xs i x h all = subst P (get_or_from_slice_get xs i x x h) (all i x (slice_get_within xs i x h))

Contains-get : {X : Type 0} (xs : List X) (i : ℕ) (x : X) → slice_get xs i ≡ Some x → Contains xs x
Contains-get xs i x h = (i, slice_get_within xs i x h, get_or_from_slice_get xs i x x h)

get-Contains : {X : Type 0} (xs : List X) (x : X) (c : Contains xs x) → slice_get xs c.0 ≡ Some x
get-Contains xs x c = slice_get-get_or xs c.0 x c.1 ∙ ap Some c.2

structure-held : (type : Ty) (node : TypeId) → IsTrue (is_structure type) → held_by type ≡ Some node → (desc : Option Expr) × (type ≡ ty.Node node desc)
structure-held (ty.Node other desc) node h held =
    let k = held-node other desc in
    let same : other ≡ node = cc in
    (desc, ap (λ n. ty.Node n desc) same)
structure-held type node h held = absurd (cc)

option-none : {X : Type 0} (o : Option X) → ¬ IsTrue (is_some o) → o ≡ None
option-none None h = refl
option-none (Some x) h = absurd (h refl)

-- the end of a member of a union
member-end : (planes : List Plane) (fields : List Field) (spots : List FieldSpot) (place : ℕ) (f : Field) (end : ℕ) → Overlap (storages_of planes fields) spots
    → All (λ e. e ≤ end) (ends_at (storages_of planes fields) spots) → slice_get fields place ≡ Some f → bits_in (storage_of planes f.ty) ≤ end
member-end planes [] spots place f end o a h = absurd (cc)
member-end planes (g ∷ fs) [] place f end o a h = absurd o
member-end planes (g ∷ fs) (s ∷ ss) zero f end o a h =
    let same : g ≡ f = cc in
    let here : end_at (storage_of planes g.ty) s ≤ end = All-head (λ e. e ≤ end) (end_at (storage_of planes g.ty) s) (ends_at (storages_of planes fs) ss) a in
    let long = end_of-bits (storage_of planes g.ty) (begin_at s) in
    subst (λ x. bits_in (storage_of planes x.ty) ≤ end) same (omega (arith, here, long))
member-end planes (g ∷ fs) (s ∷ ss) (suc place) f end o a h =
    member-end planes fs ss place f end o.1 (All-tail (λ e. e ≤ end) (end_at (storage_of planes g.ty) s) (ends_at (storages_of planes fs) ss) a) h

module _ (program : Program) (planes : List Plane) (capacity : ℕ) where
  abbrev HasRoom : Ty → ℕ → Type 0
  HasRoom type b = (w : ℕ) × Room program planes capacity type w × (w ≤ b)

  member-sized : (fields : List Field) (ends : List ℕ) (place : ℕ) (f : Field) (end : ℕ) → MemberEnds program planes capacity fields ends → All (λ e. e ≤ end) ends
      → slice_get fields place ≡ Some f → (is_structure f.ty ≡ false → Room program planes capacity f.ty (bits_in (storage_of planes f.ty))) → HasRoom f.ty end
  member-sized fields ends place f end MemberEnds.none a h room = absurd (cc)
  member-sized (g ∷ fs) ends zero f end (MemberEnds.of_structure {node} {desc} {size} {ends = es} e sz rest) a h room =
      let same : ty.Node node desc ≡ f.ty = cc in
      (8 * size, subst (λ t. Room program planes capacity t (8 * size)) same (Room.sized sz), All-head (λ n. n ≤ end) (8 * size) es a)
  member-sized (g ∷ fs) ends (suc place) f end (MemberEnds.of_structure {size} {ends = es} e sz rest) a h room =
      member-sized fs es place f end rest (All-tail (λ n. n ≤ end) (8 * size) es a) h room
  member-sized (g ∷ fs) ends zero f end (MemberEnds.of_field {ends = es} flat rest) a h room =
      let same : g ≡ f = cc in
      let here = All-head (λ n. n ≤ end) (Rattle.gt_layout.specs.Places.end_of (storage_of planes g.ty) 0) es a in
      let long = end_of-bits (storage_of planes g.ty) 0 in
      let le : bits_in (storage_of planes g.ty) ≤ end = omega (arith, here, long) in
      (bits_in (storage_of planes f.ty), room (subst (λ x. is_structure x.ty ≡ false) same flat), subst (λ x. bits_in (storage_of planes x.ty) ≤ end) same le)
  member-sized (g ∷ fs) ends (suc place) f end (MemberEnds.of_field {ends = es} flat rest) a h room =
      member-sized fs es place f end rest (All-tail (λ n. n ≤ end) (Rattle.gt_layout.specs.Places.end_of (storage_of planes g.ty) 0) es a) h room

  module _ (settled : Settled program) (laid : AreLaidOut program planes) where
    fields-sound : (node : TypeId) (s : Structure) → HasStructure program node s → s.is_union ≡ false → All (λ f. Sound program f.ty) s.fields
    fields-sound node s has struct =
        All-weaker (IsField program node s) (λ f. Sound program f.ty)
        (λ f x. record { shape = x.shape; whole = λ n held t. let u = (x.tails n held t).0 in absurd (cc) }) s.fields (settled.structures node s has).fields

    struct-of : (node : TypeId) (s : Structure) → HasStructure program node s → s.is_union ≡ false → IsStruct s
    struct-of node s has struct = subst (λ u. IsOfItsKind program node s u) struct (settled.structures node s has).sort

    union-of : (node : TypeId) (s : Structure) → HasStructure program node s → s.is_union ≡ true → IsUnion program node s
    union-of node s has union = subst (λ u. IsOfItsKind program node s u) union (settled.structures node s has).sort

    follows : (node : TypeId) (s : Structure) (plane : Plane) → HasStructure program node s → s.is_union ≡ false → slice_get planes node.0 ≡ Some plane → Follow 0 (storages_of planes s.fields) plane.fields
    follows node s plane has struct got = subst (λ u. Lie u (storages_of planes s.fields) plane.fields) struct (laid.each node.0 s plane has got).places

    Laid-plain : (node : TypeId) (s : Structure) (plane : Plane) → HasStructure program node s → s.is_union ≡ false → slice_get planes node.0 ≡ Some plane → tail_of s.fields ≡ None
        → Laid program planes capacity 0 (types_of s.fields) plane.fields (8 * plane.size)
    Laid-plain node s plane has struct got none =
        let sound = fields-sound node s has struct in
        let free = no_tails-none s.fields none (struct-of node s has struct).last_tail in
        Laid-follow (λ f. f.ty) s.fields plane.fields 0 (8 * plane.size) (follows node s plane has struct got) (laid.each node.0 s plane has got).size.room.inside (omega arith)
        (λ k d within. room-field (Rattle.std.specs.Prelude.slice_index_or s.fields k d).ty (sound k d within) (free k d within))

    Laid-sized : (node : TypeId) (s : Structure) (plane : Plane) (size : ℕ) → HasStructure program node s → s.is_union ≡ false → slice_get planes node.0 ≡ Some plane → SizeAt program planes capacity node size
        → Laid program planes capacity 0 (types_of s.fields) plane.fields (8 * size)
    Laid-sized node s plane size has struct got (SizeAt.of_tail {s = other} {plane = flat} {elem} h g u t sz) =
        let same = same-structure program node s other has h in
        let even = same-plane planes node.0 plane flat got g in
        let le = All-head (λ e. e ≤ 8 * size) (8 * (last_offset flat.fields + capacity * (extent_of planes elem).size)) [] sz.room.inside in
        Laid-tail s.fields plane.fields 0 (8 * size) elem (follows node s plane has struct got) (subst (λ x. tail_of x.fields ≡ Some elem) same t) (struct-of node s has struct).last_tail
        (subst (λ p. 8 * (last_offset p.fields + capacity * (extent_of planes elem).size) ≤ 8 * size) even le) (fields-sound node s has struct)
    Laid-sized node s plane size has struct got (SizeAt.of_union {s = other} h g u m sz) =
        let same = same-structure program node s other has h in
        let union = subst (λ x. x.is_union ≡ true) same u in
        absurd (cc)
    Laid-sized node s plane size has struct got (SizeAt.of_struct {s = other} {plane = flat} h g u t) =
        let same = same-structure program node s other has h in
        let even = same-plane planes node.0 plane flat got g in
        subst (λ p. Laid program planes capacity 0 (types_of s.fields) plane.fields (8 * p.size)) (sym even)
        (Laid-plain node s plane has struct got (subst (λ x. tail_of x.fields ≡ None) same t))

    -- the fields of a struct
    pub Laid-struct : (node : TypeId) (desc : Option Expr) (s : Structure) (plane : Plane) (b : ℕ) → HasStructure program node s → s.is_union ≡ false → slice_get planes node.0 ≡ Some plane
        → Room program planes capacity (ty.Node node desc) b → Laid program planes capacity 0 (types_of s.fields) plane.fields b
    Laid-struct node desc s plane b has struct got (Room.plain p) =
        let free : tail_of s.fields ≡ None = option-none (tail_of s.fields) (λ some. p.whole node (held-node node desc) (ends_so has struct some)) in
        let size : plane.size ≡ (extent_of planes (ty.Node node desc)).size = sym (ap (λ e. e.size) (extent-node planes node desc ∙ ap extent_of_plane got)) in
        subst (λ n. Laid program planes capacity 0 (types_of s.fields) plane.fields (8 * n)) size (Laid-plain node s plane has struct got free)
    Laid-struct node desc s plane b has struct got (Room.sized {size = size} sz) = Laid-sized node s plane size has struct got sz
    Laid-struct node desc s plane b has struct got (Room.tail e p) = let o = outs-Node node desc in absurd (cc)

    -- the members of a union
    member-room : (node : TypeId) (s : Structure) (place : ℕ) (f : Field) → HasStructure program node s → s.is_union ≡ true → slice_get s.fields place ≡ Some f
        → ((n : TypeId) → held_by f.ty ≡ Some n → ¬ IsTailType program n) → Room program planes capacity f.ty (bits_in (storage_of planes f.ty))
    member-room node s place f has union h whole =
        let field = All-get (IsField program node s) s.fields place f h (settled.structures node s has).fields in
        let free = All-get (λ g. is_tail g.ty ≡ false) s.fields place f h (no_tails-all s.fields (union-of node s has union).tails) in
        room-field f.ty (record { shape = field.shape; whole = whole }) free

    member-flat : (node : TypeId) (s : Structure) (place : ℕ) (f : Field) → HasStructure program node s → s.is_union ≡ true → slice_get s.fields place ≡ Some f
        → is_structure f.ty ≡ false → Room program planes capacity f.ty (bits_in (storage_of planes f.ty))
    member-flat node s place f has union h off =
        let field = All-get (IsField program node s) s.fields place f h (settled.structures node s has).fields in
        member-room node s place f has union h (λ n held t. let i = (field.tails n held t).1 in absurd (cc))

    member-whole : (node : TypeId) (s : Structure) (place : ℕ) (f : Field) → HasStructure program node s → s.is_union ≡ true → slice_get s.fields place ≡ Some f
        → ¬ IsTailType program node → Room program planes capacity f.ty (bits_in (storage_of planes f.ty))
    member-whole node s place f has union h off =
        let field = All-get (IsField program node s) s.fields place f h (settled.structures node s has).fields in
        member-room node s place f has union h (λ n held t.
        let found = structure-held f.ty n (field.tails n held t).1 held in
        off (has_member has union (Contains-get s.fields place f h) found.1 t))

    has_room-sized : (node : TypeId) (s : Structure) (place : ℕ) (f : Field) (size : ℕ) → HasStructure program node s → s.is_union ≡ true → slice_get s.fields place ≡ Some f
        → SizeAt program planes capacity node size → HasRoom f.ty (8 * size)
    has_room-sized node s place f size has union h (SizeAt.of_union {s = other} {ends = es} g i u m sz) =
        let same = same-structure program node s other has g in
        let there = subst (λ x. slice_get x.fields place ≡ Some f) (sym same) h in
        member-sized other.fields es place f (8 * size) m sz.room.inside there (member-flat node s place f has union h)
    has_room-sized node s place f size has union h (SizeAt.of_tail {s = other} g i u t sz) =
        let same = same-structure program node s other has g in
        let struct = subst (λ x. x.is_union ≡ false) same u in
        absurd (cc)
    has_room-sized node s place f size has union h (SizeAt.of_struct {s = other} g i u t) =
        let same = same-structure program node s other has g in
        let struct = subst (λ x. x.is_union ≡ false) same u in
        absurd (cc)

    pub has_room-member : (node : TypeId) (desc : Option Expr) (s : Structure) (place : ℕ) (f : Field) (b : ℕ) → HasStructure program node s → s.is_union ≡ true → slice_get s.fields place ≡ Some f
        → Room program planes capacity (ty.Node node desc) b → HasRoom f.ty b
    has_room-member node desc s place f b has union h (Room.plain p) =
        let found = get-as_long planes program.structures node.0 s laid.all has in
        let plane = found.0 in
        let overlap = subst (λ u. Lie u (storages_of planes s.fields) plane.fields) union (laid.each node.0 s plane has found.1).places in
        let le = member-end planes s.fields plane.fields place f (8 * plane.size) overlap (laid.each node.0 s plane has found.1).size.room.inside h in
        let size : plane.size ≡ (extent_of planes (ty.Node node desc)).size = sym (ap (λ e. e.size) (extent-node planes node desc ∙ ap extent_of_plane found.1)) in
        (bits_in (storage_of planes f.ty), member-whole node s place f has union h (p.whole node (held-node node desc)), subst (λ n. bits_in (storage_of planes f.ty) ≤ 8 * n) size le)
    has_room-member node desc s place f b has union h (Room.sized {size = size} sz) = has_room-sized node s place f size has union h sz
    has_room-member node desc s place f b has union h (Room.tail e p) = let o = outs-Node node desc in absurd (cc)

    pub has_room-common : (node : TypeId) (desc : Option Expr) (s : Structure) (common : TypeId) (b : ℕ) → HasStructure program node s → IsCommon program s common
        → Room program planes capacity (ty.Node node desc) b → HasRoom (ty.Node common None) b
    has_room-common node desc s common b has c room =
        let found = has_room-member node desc s c.member.2.0 c.member.0 b has c.union (get-Contains s.fields c.member.0 c.member.2) room in
        (found.0, room-desc common c.member.1 None found.0 (subst (λ t. Room program planes capacity t found.0) c.member.3 found.1), found.2)
