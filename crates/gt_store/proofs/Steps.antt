-- Steps of storing a value, by its form.
use Rattle.std.proofs.Common.{◌≡◌, ℕ, ◌+◌, ◌*◌, ◌%◌, ◌<◌, ◌≤◌, Bool, true, false, ◌&&◌, IsTrue, nat_le, List, [], ◌∷◌, length, get_or, refl, ap, sym, subst, ◌∙◌, arith, inl, inr, Option, Some, None}
use Rattle.std.specs.Prelude.{Contains, ℤ, pos, negsuc, slice_get}
use Rattle.std.specs.List.{filter}
use Rattle.std.proofs.lemmas.Bool.{ltb-true, lt-ltb, leb-true}
use Rattle.std.proofs.lemmas.List.Elements.{All-map, All-weaker, All-contains, All-contains_itself}
use Rattle.std.proofs.lemmas.Option.{slice_get_within, get_or_from_slice_get, slice_get-get_or}
use Rattle.gt_types.specs.declared.expressions.Expr.{Expr}
use Rattle.gt_types.specs.declared.types.TypeId.{TypeId}
use Rattle.gt_types.specs.declared.types.Width.TheVariants.{W1, W2, W4, W8}
use Rattle.gt_types.specs.declared.types.Scalar.{Scalar}
use Rattle.gt_types.specs.declared.types.Scalar.TheVariants as scalar
use Rattle.gt_types.specs.declared.types.Ty.{Ty, out-Ty, roll-Ty, roll-out-Ty}
use Rattle.gt_types.specs.declared.types.Ty.TheOpen as part
use Rattle.gt_types.specs.declared.types.Ty.TheVariants as ty
use Rattle.gt_types.specs.declared.types.Ty.TheVariants.{outs-Num, outs-Bits, outs-Str, outs-Ptr, outs-Node, rolls-Arr, rolls-Tail}
use Rattle.gt_types.specs.declared.types.Ty.TheOpen.{Ty-F}
use Rattle.gt_types.specs.declared.types.Ty.TheFolds.{fold_out-Ty, map-Ty}
use Rattle.gt_types.specs.declared.types.Target.TheVariants as target
use Rattle.gt_types.specs.declared.types.PtrKind.TheVariants as pointer
use Rattle.gt_tree.specs.Blocks.{Kind, Nodes, Pointers, Strings, Chars, desc_of, element_type}
use Rattle.gt_tree.specs.Blocks as block
use Rattle.gt_types.specs.declared.program.Field.{Field}
use Rattle.gt_types.specs.declared.program.Structure.{Structure}
use Rattle.gt_types.specs.declared.program.Program.{Program}
use Rattle.gt_types.specs.Shapes.{bits_of, is_structure, dimensions, is_bound, may_repeat, is_element, is_element_step, field_type_at, root_type_at}
use Rattle.gt_types.specs.Contains.{HasStructure}
use Rattle.gt_types.specs.Unions.{IsCommon}
use Rattle.gt_types.specs.Settled.{Settled, IsField, IsRoot}
use Rattle.gt_layout.specs.declared.planes.Plane.{Plane}
use Rattle.gt_layout.specs.declared.planes.Layouts.{Layouts}
use Rattle.gt_layout.specs.Storages.{bytes_of, extent_of, storages_of}
use Rattle.gt_layout.specs.Places.{Lie}
use Rattle.gt_layout.specs.Planes.{IsLaidOut}
use Rattle.gt_layout.specs.Excess.{IsWithin}
use Rattle.gt_space.specs.Range.{Range}
use Rattle.gt_tree.specs.Trees.{Tree, Num, Null, To, Raw, Rec, Alt, Row, Trees, without_pointers}
use Rattle.gt_tree.specs.Numbers.{is_signed, has_room, two's_complement}
use Rattle.gt_tree.specs.Scopes.{Scope, inside}
use Rattle.gt_tree.specs.Fits.{Fits, types_of}
use Rattle.gt_tree.specs.Leaves.{Leaf, leaf, Number, Pointer, byte_leaves, is_number, HasLeaves}
use Rattle.gt_tree.specs.LeafLaws.{IsTypeIn}
use Rattle.gt_tree.proofs.Commons.{one-common}
use Rattle.gt_tree.proofs.Fitting.{fits-member, fits-common, fits-array, fits-tail}
use Rattle.gt_tree.proofs.Structures.{get-as_long}
use Rattle.gt_tree.proofs.FixedTypes.{wide}
use Rattle.gt_store.specs.Overlays.{Overlays, written, Rises, LieIn, StandsAt, CanStore, CanStoreEach, IsWritten, EachIsWritten}
use Rattle.gt_store.specs.Writing.{Writes}
use Rattle.gt_store.proofs.OverlayLemmas.{overlays-none, overlays-one}
use Rattle.gt_store.proofs.Forms.{num-leaves, bits-leaves, number-typed, null-leaves, to-leaves, raw-leaves, rec-typed, alt-typed, row-typed, array-leaves, tail-leaves, struct-leaves, member-leaves, number-room, bits-room, rec-struct, alt-union, member-there, pointer-stands, written-bytes, bytes-inside}
use Rattle.gt_store.proofs.Walks.{CanFields, FieldsWritten, follow-stand, whole-stands, common-written}
use Rattle.gt_store.proofs.Narrow.{array-narrow, tail-narrow}

-- ---- numbers

bool-wider : (n : ℤ) → IsTrue (has_room false 1 n) → IsTrue (has_room false 8 n)
bool-wider (pos n) h = let lt : n < 2 = ltb-true n 2 h in lt-ltb n 256 (omega (arith, lt))
bool-wider (negsuc n) h = absurd (cc)

room-wider : (number : Scalar) (n : ℤ) → IsTrue (has_room (is_signed number) (bits_of number) n) → IsTrue (has_room (is_signed number) (8 * bytes_of number) n)
room-wider scalar.Bool n h = bool-wider n h
room-wider (scalar.Int W1 signed) n h = h
room-wider (scalar.Int W2 signed) n h = h
room-wider (scalar.Int W4 signed) n h = h
room-wider (scalar.Int W8 signed) n h = h

first-of : (a b : Bool) → IsTrue (a && b) → IsTrue a
first-of true b h = refl
first-of false b h = absurd (cc)

second-of : (a b : Bool) → IsTrue (a && b) → IsTrue b
second-of true b h = h
second-of false b h = absurd (cc)

bits-most : (unit : Scalar) → bits_of unit ≤ 64
bits-most scalar.Bool = omega arith
bits-most (scalar.Int W1 signed) = omega arith
bits-most (scalar.Int W2 signed) = omega arith
bits-most (scalar.Int W4 signed) = omega arith
bits-most (scalar.Int W8 signed) = omega arith

module _ (program : Program) (planes : List Plane) (range : Range) (at : ℕ) (type : Ty) (n : ℤ) (can : CanStore program planes range at type (Num n)) where
  -- of a type of numbers
  module _ (number : Scalar) (is : type ≡ ty.Num number) where
    as-number : CanStore program planes range at (ty.Num number) (Num n)
    as-number = subst (λ t. CanStore program planes range at t (Num n)) is can

    pub num-room : (w : ℕ) (m : ℤ) → w ≡ 8 * bytes_of number → m ≡ n → (signed : Bool) × IsTrue (has_room signed w m)
    num-room w m e f =
        (is_signed number, subst (λ x. IsTrue (has_room (is_signed number) x m)) (sym e) (subst (λ x. IsTrue (has_room (is_signed number) (8 * bytes_of number) x)) (sym f) (room-wider number n (number-room number n as-number.fits))))

    pub num-whole : at % 8 ≡ 0
    num-whole = as-number.stands

    pub num-inside : at + 8 * bytes_of number ≤ 8 * length range.bytes
    num-inside =
        let e = num-leaves number n as-number.leaves as-number.has in
        let lie = subst (λ ls. Rises 0 (written ls) (8 * length range.bytes)) e as-number.lie in
        lie.1

  module _ (unit : Scalar) (width : ℕ) (is : type ≡ ty.Bits unit width) where
    as-bits : CanStore program planes range at (ty.Bits unit width) (Num n)
    as-bits = subst (λ t. CanStore program planes range at t (Num n)) is can

    pub bit-room : (m : ℤ) → m ≡ n → (signed : Bool) × IsTrue (has_room signed width m)
    bit-room m f = (is_signed unit, subst (λ x. IsTrue (has_room (is_signed unit) width x)) (sym f) (bits-room unit width n as-bits.fits))

    pub bit-typed : IsTypeIn program (ty.Bits unit width)
    bit-typed = elim as-bits.typed [ inl i ↦ i | inr e ↦ absurd (cc) ]

    pub bit-inside : at + width ≤ 8 * length range.bytes
    bit-inside =
        let e = bits-leaves unit width n as-bits.leaves as-bits.has in
        let lie = subst (λ ls. Rises 0 (written ls) (8 * length range.bytes)) e as-bits.lie in
        lie.1

pub num-stored : (program : Program) (planes : List Plane) (old new : Range) (at : ℕ) (type : Ty) (n : ℤ) (number : Scalar) (bytes bits : ℕ) → type ≡ ty.Num number → bytes ≡ bytes_of number → bits ≡ two's_complement (8 * bytes) n
    → Writes at (8 * bytes) bits old new → IsWritten program planes at type (Num n) old new
num-stored program planes old new at type n number bytes bits is e b w leaves has lie =
    let one = num-leaves number n leaves (subst (λ t. HasLeaves program planes at t (Num n) leaves) is has) in
    subst (λ ls. Overlays (written ls) old new) (sym one)
    (subst (λ m. Overlays (leaf at (8 * m) (Number n) ∷ []) old new) e (overlays-one old new at (8 * bytes) (Number n) bits b w))

pub bits-stored : (program : Program) (planes : List Plane) (old new : Range) (at : ℕ) (type : Ty) (n : ℤ) (unit : Scalar) (width bits : ℕ) → type ≡ ty.Bits unit width → bits ≡ two's_complement width n
    → Writes at width bits old new → IsWritten program planes at type (Num n) old new
bits-stored program planes old new at type n unit width bits is b w leaves has lie =
    let one = bits-leaves unit width n leaves (subst (λ t. HasLeaves program planes at t (Num n) leaves) is has) in
    subst (λ ls. Overlays (written ls) old new) (sym one) (overlays-one old new at width (Number n) bits b w)

pub no-number : (program : Program) (planes : List Plane) (old : Range) (at : ℕ) (type : Ty) (n : ℤ) → ((s : Scalar) → type ≡ ty.Num s → ⊥) → ((unit : Scalar) (width : ℕ) → type ≡ ty.Bits unit width → ⊥)
    → IsWritten program planes at type (Num n) old old
no-number program planes old at type n a b leaves has lie = elim (number-typed type n leaves has) [ inl s ↦ absurd (a s.0 s.1) | inr s ↦ absurd (b s.0 s.1 s.2) ]

-- ---- pointers and bytes

pub null-stored : (program : Program) (planes : List Plane) (old : Range) (at : ℕ) (type : Ty) → IsWritten program planes at type Null old old
null-stored program planes old at type leaves has lie = subst (λ ls. Overlays ls old old) (sym (null-leaves type leaves has)) (overlays-none old)

module _ (program : Program) (planes : List Plane) (range : Range) (at : ℕ) (type : Ty) where
  pub to-whole : (id : ℕ) → CanStore program planes range at type (To id) → at % 8 ≡ 0
  to-whole id can = pointer-stands type at (to-leaves type id can.leaves can.has).1 can.stands

  pub to-inside : (id : ℕ) → CanStore program planes range at type (To id) → at + 64 ≤ 8 * length range.bytes
  to-inside id can =
      let lie = subst (λ ls. Rises 0 (written ls) (8 * length range.bytes)) (to-leaves type id can.leaves can.has).0 can.lie in
      lie.1

  pub to-stored : (id : ℕ) (new : Range) → Writes at 64 id range new → IsWritten program planes at type (To id) range new
  to-stored id new w leaves has lie = subst (λ ls. Overlays (written ls) range new) (sym (to-leaves type id leaves has).0) (overlays-one range new at 64 (Pointer (Some id)) id refl w)

  pub raw-whole : (bytes : List ℕ) → CanStore program planes range at type (Raw bytes) → at % 8 ≡ 0
  raw-whole bytes can =
      let form = raw-leaves type bytes can.leaves can.has in
      let stands = can.stands in
      subst (λ t. StandsAt t at) form.3 stands

  pub raw-inside : (bytes : List ℕ) → 0 < length bytes → CanStore program planes range at type (Raw bytes) → at + 8 * length bytes ≤ 8 * length range.bytes
  raw-inside bytes some can =
      let form = raw-leaves type bytes can.leaves can.has in
      bytes-inside 0 at bytes (8 * length range.bytes) some
      (subst (λ ls. Rises 0 ls (8 * length range.bytes)) (written-bytes at bytes) (subst (λ ls. Rises 0 (written ls) (8 * length range.bytes)) form.0 can.lie))

  pub raw-stored : (bytes : List ℕ) (new : Range) → Overlays (byte_leaves at bytes) range new → IsWritten program planes at type (Raw bytes) range new
  raw-stored bytes new o leaves has lie =
      subst (λ ls. Overlays (written ls) range new) (sym (raw-leaves type bytes leaves has).0) (subst (λ ls. Overlays ls range new) (sym (written-bytes at bytes)) o)

  pub raw-none : (bytes : List ℕ) → length bytes ≡ 0 → IsWritten program planes at type (Raw bytes) range range
  raw-none [] e = raw-stored [] range (overlays-none range)
  raw-none (b ∷ bs) e = absurd (omega (arith, e))

-- ---- structs

pub can-struct : (program : Program) (layouts : Layouts) (range : Range) (at : ℕ) (id : TypeId) (desc : Option Expr) (trees : Trees) → IsLaidOut program layouts → CanStore program layouts.structures range at (ty.Node id desc) (Rec trees)
    → (s : Structure) × (plane : Plane) × HasStructure program id s × (slice_get layouts.structures id.0 ≡ Some plane) × CanFields program layouts.structures range at (types_of s.fields) plane.fields trees
can-struct program layouts range at id desc trees laid can =
    let f = rec-struct id desc trees can.fits in
    let plane = get-as_long layouts.structures program.structures id.0 f.0 laid.structures.all f.1 in
    let places : Lie false (storages_of layouts.structures f.0.fields) plane.0.fields =
    subst (λ u. Lie u (storages_of layouts.structures f.0.fields) plane.0.fields) f.2 (laid.structures.each id.0 f.0 plane.0 f.1 plane.1).places in (
      f.0,
      plane.0,
      f.1,
      plane.1,
      record {
        blocks = can.blocks;
        capacity = can.capacity;
        scope = inside can.scope id (Rec trees);
        fit = f.3;
        leaves = can.leaves;
        have = struct-leaves id desc f.0 plane.0 trees can.leaves f.1 plane.1 can.has;
        lie = can.lie;
        typed = All-map (IsTypeIn program) (λ (g : Field). g.ty) f.0.fields
            (All-weaker (Contains f.0.fields) (λ g. IsTypeIn program g.ty) (λ g contains. IsTypeIn.of_field id f.0 g f.1 contains) f.0.fields (All-contains_itself f.0.fields));
        stand = follow-stand (λ (g : Field). g.ty) layouts.structures at 0 f.0.fields plane.0.fields can.stands places;
        near = can.near;
      },
    )

pub struct-stored : (program : Program) (planes : List Plane) (old new : Range) (at : ℕ) (id : TypeId) (s : Structure) (plane : Plane) (trees : Trees) → HasStructure program id s → slice_get planes id.0 ≡ Some plane
    → FieldsWritten program planes at (types_of s.fields) plane.fields trees old new → (desc : Option Expr) → IsWritten program planes at (ty.Node id desc) (Rec trees) old new
struct-stored program planes old new at id s plane trees has got w desc leaves have lie = w leaves (struct-leaves id desc s plane trees leaves has got have) lie

-- ---- unions

module _ (program : Program) (planes : List Plane) (settled : Settled program) (range : Range) (at : ℕ) (id : TypeId) (desc : Option Expr) where
  pub can-member : (tree : Tree) (s : Structure) (place : ℕ) (f : Field) → HasStructure program id s → slice_get s.fields place ≡ Some f → CanStore program planes range at (ty.Node id desc) (Alt (Some place) tree) → CanStore program planes range at f.ty tree
  can-member tree s place f has got can = record {
    blocks = can.blocks;
    capacity = can.capacity;
    scope = inside can.scope id (Alt (Some place) tree);
    fits = fits-member id desc s place f tree has got can.fits;
    leaves = can.leaves;
    has = member-leaves id desc s place f tree can.leaves has got can.has;
    lie = can.lie;
    typed = inl (IsTypeIn.of_field id s f has (place, slice_get_within s.fields place f got, get_or_from_slice_get s.fields place f f got));
    stands = whole-stands f.ty at can.stands;
    near = can.near;
  }

  pub member-stored : (tree : Tree) (new : Range) (s : Structure) (place : ℕ) (f : Field) → HasStructure program id s → slice_get s.fields place ≡ Some f → IsWritten program planes at f.ty tree range new
      → IsWritten program planes at (ty.Node id desc) (Alt (Some place) tree) range new
  member-stored tree new s place f has got w leaves have lie = w leaves (member-leaves id desc s place f tree leaves has got have) lie

  -- the leaves of a common structure
  plain-fits : {blocks : _} {capacity : ℕ} {scope : Scope} (tree : Tree) (s : Structure) (common : TypeId) → HasStructure program id s → IsCommon program s common → Fits program blocks capacity scope (ty.Node id desc) (Alt None tree) → without_pointers tree ≡ tree
  plain-fits tree s common has c (Fits.common h u a o w f) = w
  plain-fits tree s common has c (Fits.nothing {s = other} h u a none) = let same : s ≡ other = cc in absurd (none common (subst (λ x. IsCommon program x common) same c))

  common-leaves : (tree : Tree) (s : Structure) (common : TypeId) (leaves : List Leaf) → HasStructure program id s → IsCommon program s common → HasLeaves program planes at (ty.Node id desc) (Alt None tree) leaves
      → (inner : List Leaf) × HasLeaves program planes at (ty.Node common None) tree inner × (leaves ≡ filter is_number inner)
  common-leaves tree s common leaves has c (HasLeaves.common {common = other} {s = x} {leaves = inner} h u o p) =
      let same : x ≡ s = cc in
      let equal = one-common program id s other common settled has (subst (λ y. IsCommon program y other) same o) c in
      (inner, subst (λ n. HasLeaves program planes at (ty.Node n None) tree inner) equal p, refl)
  common-leaves tree s common leaves has c (HasLeaves.nothing {s = x} h u none) = let same : s ≡ x = cc in absurd (none common (subst (λ y. IsCommon program y common) same c))

  pub can-common : (tree : Tree) (s : Structure) (common : TypeId) → HasStructure program id s → IsCommon program s common → CanStore program planes range at (ty.Node id desc) (Alt None tree) → CanStore program planes range at (ty.Node common None) tree
  can-common tree s common has c can =
      let found = common-leaves tree s common can.leaves has c can.has in
      let same = common-written found.0 found.1 (plain-fits tree s common has c can.fits) in
      record {
        blocks = can.blocks;
        capacity = can.capacity;
        scope = inside can.scope id (Alt None tree);
        fits = fits-common id common desc s tree settled has c can.fits;
        leaves = found.0;
        has = found.1;
        lie = subst (λ ls. Rises 0 ls (8 * length range.bytes)) same (subst (λ ls. Rises 0 (written ls) (8 * length range.bytes)) found.2 can.lie);
        typed = inr refl;
        stands = can.stands;
        near = can.near;
      }

  pub common-stored : (tree : Tree) (new : Range) (s : Structure) (common : TypeId) → HasStructure program id s → IsCommon program s common → without_pointers tree ≡ tree → IsWritten program planes at (ty.Node common None) tree range new
      → IsWritten program planes at (ty.Node id desc) (Alt None tree) range new
  common-stored tree new s common has c plain w leaves have lie =
      let found = common-leaves tree s common leaves has c have in
      let same = common-written found.0 found.1 plain in
      let there : LieIn range found.0 = subst (λ ls. Rises 0 ls (8 * length range.bytes)) same (subst (λ ls. Rises 0 (written ls) (8 * length range.bytes)) found.2 lie) in
      subst (λ ls. Overlays (written ls) range new) (sym found.2) (subst (λ ls. Overlays ls range new) (sym same) (w found.0 found.1 there))

  pub can-plain : (tree : Tree) (s : Structure) (common : TypeId) → HasStructure program id s → IsCommon program s common → CanStore program planes range at (ty.Node id desc) (Alt None tree) → without_pointers tree ≡ tree
  can-plain tree s common has c can = plain-fits tree s common has c can.fits

  pub nothing-stored : (tree : Tree) (s : Structure) → HasStructure program id s → ((common : TypeId) → ¬ IsCommon program s common) → IsWritten program planes at (ty.Node id desc) (Alt None tree) range range
  nothing-stored tree s has none leaves (HasLeaves.common {common = other} {s = x} h u o p) lie = let same : x ≡ s = cc in absurd (none other (subst (λ y. IsCommon program y other) same o))
  nothing-stored tree s has none leaves (HasLeaves.nothing h u n) lie = overlays-none range

-- ---- arrays

no-node : (type : Ty) (x : _) → out-Ty type ≡ x → is_structure type ≡ true → (node : TypeId) × (desc : Option Expr) × (x ≡ part.Node node desc)
no-node (ty.Node node desc) x e h = (node, desc, sym e ∙ outs-Node node desc)
no-node type x e h = absurd (cc)

module _ (program : Program) (layouts : Layouts) (settled : Settled program) (laid : IsLaidOut program layouts) (within : IsWithin program layouts) (range : Range) (at : ℕ) (type elem : Ty) (trees : Trees) where
  whole-row : (x : _) → out-Ty type ≡ x → ((unit : Scalar) (count : ℕ) → x ≡ part.Bits unit count → ⊥) → StandsAt type at → at % 8 ≡ 0
  whole-row x e nil s = go type x e nil s
    where
      go : (t : Ty) (y : _) → out-Ty t ≡ y → ((unit : Scalar) (count : ℕ) → y ≡ part.Bits unit count → ⊥) → StandsAt t at → at % 8 ≡ 0
      go (ty.Bits unit count) y e nil s = absurd (nil unit count (sym e ∙ outs-Bits unit count))
      go (ty.Num number) y e nil s = s
      go (ty.Opaque size align) y e nil s = s
      go (ty.Str count) y e nil s = s
      go (ty.Ptr target kind reorder) y e nil s = s
      go (ty.Node node desc) y e nil s = s
      go (ty.Arr' n shape inner) y e nil s = s
      go (ty.Tail' count shape inner) y e nil s = s

  pub can-array : (n : ℕ) → out-Ty type ≡ part.Arr n elem → CanStore program layouts.structures range at type (Row trees) → CanStoreEach program layouts.structures range (8 * (extent_of layouts.structures elem).size) at elem trees
  can-array n e can =
      let typed : IsTypeIn program type = elim can.typed [ inl i ↦ i | inr h ↦ (let node = no-node type (part.Arr n elem) e h in let no = node.2 in absurd (cc)) ] in
      let small = array-narrow program layouts settled laid within type elem n typed e in
      record {
        blocks = can.blocks;
        capacity = can.capacity;
        scope = can.scope;
        fit = (fits-array type elem n trees e can.fits).1;
        leaves = can.leaves;
        have = array-leaves type elem n trees can.leaves e can.has;
        lie = can.lie;
        typed = IsTypeIn.of_array typed e;
        whole = whole-row (part.Arr n elem) e (λ unit count no. (cc)) can.stands;
        narrow = omega (arith, small);
        short = can.near.short;
      }

  pub can-tail : (len : Expr) → out-Ty type ≡ part.Tail len elem → CanStore program layouts.structures range at type (Row trees) → CanStoreEach program layouts.structures range (8 * (extent_of layouts.structures elem).size) at elem trees
  can-tail len e can =
      let typed : IsTypeIn program type = elim can.typed [ inl i ↦ i | inr h ↦ (let node = no-node type (part.Tail len elem) e h in let no = node.2 in absurd (cc)) ] in
      let small = tail-narrow program layouts settled laid within type elem len typed e in
      record {
        blocks = can.blocks;
        capacity = can.capacity;
        scope = can.scope;
        fit = (fits-tail type elem len trees e can.fits).1;
        leaves = can.leaves;
        have = tail-leaves type elem len trees can.leaves e can.has;
        lie = can.lie;
        typed = IsTypeIn.of_tail typed e;
        whole = whole-row (part.Tail len elem) e (λ unit count no. (cc)) can.stands;
        narrow = omega (arith, small);
        short = can.near.short;
      }

pub stored-at : (program : Program) (planes : List Plane) (old new : Range) (at : ℕ) (type like : Ty) (tree same : Tree) → type ≡ like → tree ≡ same → IsWritten program planes at like same old new → IsWritten program planes at type tree old new
stored-at program planes old new at type like tree same e f w = subst (λ t. IsWritten program planes at t tree old new) (sym e) (subst (λ v. IsWritten program planes at like v old new) (sym f) w)

pub no-rec : (program : Program) (planes : List Plane) (old : Range) (at : ℕ) (type : Ty) (tree : Tree) (trees : Trees) → tree ≡ Rec trees → ((node : TypeId) (desc : Option Expr) → type ≡ ty.Node node desc → ⊥) → IsWritten program planes at type tree old old
no-rec program planes old at type tree trees e none leaves has lie =
    let found = rec-typed type trees leaves (subst (λ v. HasLeaves program planes at type v leaves) e has) in
    absurd (none found.0 found.1 found.2)

pub no-alt : (program : Program) (planes : List Plane) (old : Range) (at : ℕ) (type : Ty) (tree : Tree) (member : Option ℕ) (inner : Tree) → tree ≡ Alt member inner → ((node : TypeId) (desc : Option Expr) → type ≡ ty.Node node desc → ⊥)
    → IsWritten program planes at type tree old old
no-alt program planes old at type tree member inner e none leaves has lie =
    let found = alt-typed type member inner leaves (subst (λ v. HasLeaves program planes at type v leaves) e has) in
    absurd (none found.0 found.1 found.2)

pub no-row : (program : Program) (planes : List Plane) (old : Range) (at : ℕ) (type : Ty) (tree : Tree) (trees : Trees) → tree ≡ Row trees → ((n : ℕ) (elem : Ty) → type ≡ ty.Arr n elem → ⊥) → ((len : Expr) (elem : Ty) → type ≡ ty.Tail len elem → ⊥)
    → IsWritten program planes at type tree old old
no-row program planes old at type tree trees e a b leaves has lie =
    elim (row-typed type trees leaves (subst (λ v. HasLeaves program planes at type v leaves) e has)) [
      | inl x ↦ absurd (a x.0 x.1 (sym (roll-out-Ty type) ∙ ap roll-Ty x.2 ∙ rolls-Arr x.0 x.1))
      | inr x ↦ absurd (b x.0 x.1 (sym (roll-out-Ty type) ∙ ap roll-Ty x.2 ∙ rolls-Tail x.0 x.1))
    ]

pub union-there : (program : Program) (planes : List Plane) (range : Range) (at : ℕ) (id : TypeId) (desc : Option Expr) (member : Option ℕ) (tree : Tree) → CanStore program planes range at (ty.Node id desc) (Alt member tree)
    → (s : Structure) × HasStructure program id s × (s.is_union ≡ true)
union-there program planes range at id desc member tree can = alt-union id desc member tree can.fits

-- the field of the active member, as it is read
pub member-field : (program : Program) (planes : List Plane) (range : Range) (at : ℕ) (id : TypeId) (desc : Option Expr) (s : Structure) (place : ℕ) (tree : Tree) (fields : List Field) (f : Field) → HasStructure program id s → fields ≡ s.fields
    → f ≡ get_or fields place f → CanStore program planes range at (ty.Node id desc) (Alt (Some place) tree) → slice_get s.fields place ≡ Some f
member-field program planes range at id desc s place tree fields f has items is can =
    let there = member-there id desc s place tree has can.fits in
    let lt : place < length s.fields = slice_get_within s.fields place there.0 there.1 in
    let same : f ≡ get_or s.fields place f = is ∙ ap (λ xs. get_or xs place f) items in
    slice_get-get_or s.fields place f lt ∙ ap Some (sym same)

pub array-stored : (program : Program) (planes : List Plane) (old new : Range) (at : ℕ) (type elem : Ty) (n : ℕ) (trees : Trees) → out-Ty type ≡ part.Arr n elem
    → EachIsWritten program planes (8 * (extent_of planes elem).size) at elem trees old new → IsWritten program planes at type (Row trees) old new
array-stored program planes old new at type elem n trees e w leaves has lie = w leaves (array-leaves type elem n trees leaves e has) lie

pub tail-stored : (program : Program) (planes : List Plane) (old new : Range) (at : ℕ) (type elem : Ty) (len : Expr) (trees : Trees) → out-Ty type ≡ part.Tail len elem
    → EachIsWritten program planes (8 * (extent_of planes elem).size) at elem trees old new → IsWritten program planes at type (Row trees) old new
tail-stored program planes old new at type elem len trees e w leaves has lie = w leaves (tail-leaves type elem len trees leaves e has) lie

-- ---- a bit-field has at most 64 bits

field-bits : (unit : Scalar) (width : ℕ) → IsTrue (field_type_at (part.Bits unit width)) → width ≤ 64
field-bits unit width h =
    let le = leb-true width (bits_of unit) (second-of (nat_le 1 width) (nat_le width (bits_of unit)) h) in
    omega (arith, le, bits-most unit)

bound-part : (n : ℕ) (elem : Ty) → IsTrue (is_bound n && may_repeat elem) → IsTrue (is_element elem)
bound-part n elem h = first-of (is_element elem) (nat_le (1 + dimensions elem) 4) (second-of (is_bound n) (may_repeat elem) h)

-- what the type of a value in a program says of the elements of an array
elements-at : Ty-F Ty → Type 0
elements-at (part.Arr n elem) = IsTrue (is_element elem)
elements-at (part.Tail len elem) = IsTrue (is_element elem)
elements-at (part.Bits unit count) = count ≤ 64
elements-at x = Unit {0}

field-elements : (x : Ty-F Ty) → IsTrue (field_type_at x) → elements-at x
unfolding elements-at
field-elements (part.Arr n elem) h = bound-part n elem h
field-elements (part.Tail len elem) h = first-of (is_element elem) (nat_le (1 + dimensions elem) 4) h
field-elements (part.Bits unit count) h = field-bits unit count h
field-elements (part.Num scalar) h = tt
field-elements (part.Opaque size align) h = tt
field-elements (part.Str count) h = tt
field-elements (part.Ptr target kind reorder) h = tt
field-elements (part.Node node desc) h = tt

root-elements : (x : Ty-F Ty) → IsTrue (root_type_at x) → elements-at x
unfolding elements-at
root-elements (part.Arr n elem) h = bound-part n elem h
root-elements (part.Tail len elem) h = absurd (cc)
root-elements (part.Bits unit count) h = absurd (cc)
root-elements (part.Num scalar) h = tt
root-elements (part.Opaque size align) h = tt
root-elements (part.Str count) h = tt
root-elements (part.Ptr target kind reorder) h = tt
root-elements (part.Node node desc) h = tt

element-elements : (x : Ty-F Ty) → IsTrue (is_element_step (map-Ty Ty Bool is_element x)) → elements-at x
unfolding elements-at
element-elements (part.Arr n elem) h = second-of (is_bound n) (is_element elem) h
element-elements (part.Tail len elem) h = absurd (cc)
element-elements (part.Bits unit count) h = absurd (cc)
element-elements (part.Num scalar) h = tt
element-elements (part.Opaque size align) h = tt
element-elements (part.Str count) h = tt
element-elements (part.Ptr target kind reorder) h = tt
element-elements (part.Node node desc) h = tt

kind-elements : (program : Program) (kind : Kind) → elements-at (out-Ty (element_type program kind))
unfolding elements-at
kind-elements program (Nodes node) = subst elements-at (sym (outs-Node node (desc_of (slice_get program.structures node.0)))) tt
kind-elements program (Pointers node) = subst elements-at (sym (outs-Ptr (Some (target.Node node)) pointer.Plain false)) tt
kind-elements program Strings = subst elements-at (sym (outs-Str None)) tt
kind-elements program Chars = subst elements-at (sym (outs-Num (scalar.Int W1 false))) tt
kind-elements program block.Raw = subst elements-at (sym (outs-Num (scalar.Int W1 false))) tt

typed-elements : (program : Program) → Settled program → {type : Ty} → IsTypeIn program type → elements-at (out-Ty type)
unfolding elements-at
typed-elements program settled (IsTypeIn.of_field node s f has contains) = field-elements (out-Ty f.ty) (All-contains (IsField program node s) s.fields f (settled.structures node s has).fields contains).shape
typed-elements program settled (IsTypeIn.of_root r contains) = root-elements (out-Ty r.ty) (All-contains (IsRoot program) program.roots r settled.roots contains).shape
typed-elements program settled (IsTypeIn.of_block kind) = kind-elements program kind
typed-elements program settled (IsTypeIn.of_array {elem} inner e) =
    let is : IsTrue (is_element elem) = subst elements-at e (typed-elements program settled inner) in
    element-elements (out-Ty elem) (sym (fold_out-Ty Bool is_element_step elem) ∙ is)
typed-elements program settled (IsTypeIn.of_tail {elem} inner e) =
    let is : IsTrue (is_element elem) = subst elements-at e (typed-elements program settled inner) in
    element-elements (out-Ty elem) (sym (fold_out-Ty Bool is_element_step elem) ∙ is)

pub bits-few : (program : Program) → Settled program → (unit : Scalar) (width : ℕ) → IsTypeIn program (ty.Bits unit width) → width ≤ 64
unfolding elements-at
bits-few program settled unit width i = subst elements-at (outs-Bits unit width) (typed-elements program settled i)

pub bits-some : (program : Program) → Settled program → (unit : Scalar) (width : ℕ) → IsTypeIn program (ty.Bits unit width) → 1 ≤ width
bits-some program settled unit width i = wide program unit width settled i
