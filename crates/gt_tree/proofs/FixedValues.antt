-- Two values of one type for which the same bits stand are one value.
use Rattle.std.proofs.Common.{◌≡◌, ℕ, suc, ◌+◌, ◌*◌, ◌<◌, ◌≤◌, Bool, true, false, IsTrue, List, [], ◌∷◌, length, refl, ap, sym, subst, ◌∙◌, arith, Option, Some, None, ◌⊎◌, inl, inr}
use Rattle.std.specs.Prelude.{All, Contains, ℤ, pos, slice_get}
use Rattle.std.proofs.lemmas.List.Elements.{All-head, All-tail, All-map, All-weaker, All-contains_itself}
use Rattle.std.proofs.lemmas.Option.{slice_get_within, get_or_from_slice_get}
use Rattle.gt_types.specs.declared.expressions.Expr.{Expr}
use Rattle.gt_types.specs.declared.types.TypeId.{TypeId}
use Rattle.gt_types.specs.declared.types.Scalar.{Scalar}
use Rattle.gt_types.specs.declared.types.Ty.{Ty, out-Ty}
use Rattle.gt_types.specs.declared.types.Ty.TheOpen as part
use Rattle.gt_types.specs.declared.types.Ty.TheVariants as ty
use Rattle.gt_types.specs.declared.types.Ty.TheVariants.{outs-Node}
use Rattle.gt_types.specs.declared.program.Field.{Field}
use Rattle.gt_types.specs.declared.program.Structure.{Structure}
use Rattle.gt_types.specs.declared.program.Program.{Program}
use Rattle.gt_types.specs.Shapes.{bits_of, is_structure}
use Rattle.gt_types.specs.Contains.{HasStructure}
use Rattle.gt_types.specs.Unions.{IsCommon}
use Rattle.gt_types.specs.Settled.{Settled}
use Rattle.gt_layout.specs.declared.planes.Plane.{Plane}
use Rattle.gt_layout.specs.declared.planes.FieldSpot.{FieldSpot}
use Rattle.gt_layout.specs.Storages.{extent_of}
use Rattle.gt_layout.specs.Places.{begin_at}
use Rattle.gt_tree.specs.Trees.{Tree, Num, Null, To, Raw, Rec, Alt, Row, Trees, End, And, count, without_pointers}
use Rattle.gt_tree.specs.Numbers.{is_signed, has_room}
use Rattle.gt_tree.specs.Blocks.{Block, Blocks}
use Rattle.gt_tree.specs.Scopes.{Scope, inside, eval_in}
use Rattle.gt_tree.specs.Fits.{Fits, AllFit, EachFits, IsActive, desc_value, active_member, types_of}
use Rattle.gt_tree.specs.Leaves.{Leaf}
use Rattle.gt_tree.specs.LeafLaws.{IsTypeIn}
use Rattle.gt_tree.specs.FixedLaws.{AreAddresses}
use Rattle.gt_tree.proofs.Fitting.{fits-member, fits-common}
use Rattle.gt_tree.proofs.FixedTypes.{wide}
use Rattle.gt_tree.proofs.FixedParts.{named, may-pointer, is-number, is-bits, is-opaque, is-pointer, is-struct, is-union, is-nothing, is-plain, is-array, is-tail, is-more, is-none, is-one, is-no_more}
use Rattle.gt_tree.proofs.FixedRead.{IsRead, FieldsRead, EachRead, read-number, read-bits, read-opaque, read-null, read-to, read-plane, read-struct, read-member, read-common, read-array, read-tail, read-more, read-one, read-no_spots}
use Rattle.gt_tree.proofs.FixedSame.{Got, nulls, weaker, same-bits, same-number, same-bytes, null-to, to-to}

-- ---- two scopes

-- what is given: a program and its layouts, the blocks and their addresses, the room for elements, and the bits of bytes
pub record Given : Type 0 where
  pub program : Program
  pub planes : List Plane
  pub blocks : Blocks
  pub capacity : ℕ
  pub address : ℕ → ℕ
  pub bits : ℕ → Bool

-- two values of a type, each in its scope, whose leaves from one bit on hold these bits; where `false` is given only their
-- numbers do so, and their pointers are null
pub record Twins (g : Given) (s t : Scope) (type : Ty) (v w : Tree) : Type 0 where
  pub whole : Bool
  pub at : ℕ
  pub fits : Fits g.program g.blocks g.capacity s type v
  pub other_fits : Fits g.program g.blocks g.capacity t type w
  pub read : IsRead g.program g.planes (Got g.address g.bits whole) at type v
  pub other_read : IsRead g.program g.planes (Got g.address g.bits whole) at type w

-- Two scopes in which values of a type stand: both at the start, or inside twins.
pub data Alike (g : Given) (Start : Scope → Scope → Ty → Type 0) : Scope → Scope → Ty → Type 0 where
  at_start : {s t : Scope} {type : Ty} → Start s t type → Alike g Start s t type
  in_field : {s t : Scope} {node : TypeId} {desc : Option Expr} {v w : Tree} {x : Structure} {f : Field} → Alike g Start s t (ty.Node node desc) → Twins g s t (ty.Node node desc) v w
      → HasStructure g.program node x → Contains x.fields f → Alike g Start (inside s node v) (inside t node w) f.ty
  in_common : {s t : Scope} {node common : TypeId} {desc : Option Expr} {v w : Tree} {x : Structure} → Alike g Start s t (ty.Node node desc) → Twins g s t (ty.Node node desc) v w
      → HasStructure g.program node x → IsCommon g.program x common → Alike g Start (inside s node v) (inside t node w) (ty.Node common None)
  in_array : {s t : Scope} {type elem : Ty} {n : ℕ} → Alike g Start s t type → out-Ty type ≡ part.Arr n elem → Alike g Start s t elem
  in_tail : {s t : Scope} {type elem : Ty} {length : Expr} → Alike g Start s t type → out-Ty type ≡ part.Tail length elem → Alike g Start s t elem

-- what is known of the start, and that expressions have the same values in such scopes
pub record Assumed (g : Given) (Start : Scope → Scope → Ty → Type 0) : Type 0 where
  pub settled : Settled g.program
  pub addresses : AreAddresses g.blocks g.address
  pub types : (s t : Scope) (type : Ty) → Start s t type → IsTypeIn g.program type
  pub counts : (s t : Scope) (type elem : Ty) (length : Expr) → Alike g Start s t type → out-Ty type ≡ part.Tail length elem → eval_in g.program s length ≡ eval_in g.program t length
  pub descs : (s t : Scope) (node : TypeId) (desc : Option Expr) (v w : Tree) (x : Structure) → Alike g Start s t (ty.Node node desc) → Twins g s t (ty.Node node desc) v w
      → HasStructure g.program node x → x.is_union ≡ true → desc_value g.program (inside s node v) desc ≡ desc_value g.program (inside t node w) desc

pub in-array : (type elem : Ty) (n : ℕ) → is_structure type ≡ true → ¬ (out-Ty type ≡ part.Arr n elem)
in-array (ty.Node node desc) elem n h e = let o = outs-Node node desc in cc
in-array type elem n h e = cc

pub in-tail : (type elem : Ty) (length : Expr) → is_structure type ≡ true → ¬ (out-Ty type ≡ part.Tail length elem)
in-tail (ty.Node node desc) elem length h e = let o = outs-Node node desc in cc
in-tail type elem length h e = cc

Contains-get : {X : Type 0} (xs : List X) (i : ℕ) (x : X) → slice_get xs i ≡ Some x → Contains xs x
Contains-get xs i x e = (i, slice_get_within xs i x e, get_or_from_slice_get xs i x x e)

count-same : (value : Option ℤ) (n m : ℕ) → value ≡ Some (pos n) → value ≡ Some (pos m) → n ≡ m
count-same value n m a b = cc

and-same : (v w : Tree) (vs ws : Trees) → v ≡ w → vs ≡ ws → And v vs ≡ And w ws
and-same v w vs ws e f = cc

-- ---- numbers

module _ (g : Given) where
  pub same-num : {t : Scope} (number : Scalar) (n : ℤ) (w : Tree) (whole : Bool) (at : ℕ) → IsTrue (has_room (is_signed number) (bits_of number) n) → Fits g.program g.blocks g.capacity t (ty.Num number) w
      → IsRead g.program g.planes (Got g.address g.bits whole) at (ty.Num number) (Num n) → IsRead g.program g.planes (Got g.address g.bits whole) at (ty.Num number) w → Num n ≡ w
  same-num number n w whole at room other read other_read =
      let found = is-number number w other in
      let theirs = subst (λ x. IsRead g.program g.planes (Got g.address g.bits whole) at (ty.Num number) x) found.1 other_read in
      ap Num (same-number g.address g.bits whole number at n found.0 room found.2 (read-number (Got g.address g.bits whole) number n read.0 read.1 read.2) (read-number (Got g.address g.bits whole) number found.0 theirs.0 theirs.1 theirs.2))
      ∙ sym found.1

-- ---- types

module _ (g : Given) (Start : Scope → Scope → Ty → Type 0) (types : (s t : Scope) (type : Ty) → Start s t type → IsTypeIn g.program type) where
  -- what stands in such scopes is a type of the program or a common structure
  pub typed : {s t : Scope} {type : Ty} → Alike g Start s t type → IsTypeIn g.program type ⊎ (is_structure type ≡ true)
  typed (Alike.at_start {s} {t} {type} x) = inl (types s t type x)
  typed (Alike.in_field {node} {x} {f} a twins has contains) = inl (IsTypeIn.of_field node x f has contains)
  typed (Alike.in_common a twins has c) = inr refl
  typed (Alike.in_array {type} {elem} {n} a e) = elim (typed a) [ inl i ↦ inl (IsTypeIn.of_array i e) | inr i ↦ absurd (in-array type elem n i e) ]
  typed (Alike.in_tail {type} {elem} {length} a e) = elim (typed a) [ inl i ↦ inl (IsTypeIn.of_tail i e) | inr i ↦ absurd (in-tail type elem length i e) ]

module _ (g : Given) (Start : Scope → Scope → Ty → Type 0) (h : Assumed g Start) where
  wide-bits : {s t : Scope} (unit : Scalar) (width : ℕ) → Alike g Start s t (ty.Bits unit width) → 1 ≤ width
  wide-bits unit width a = elim (typed g Start h.types a) [ inl i ↦ wide g.program unit width h.settled i | inr i ↦ absurd (cc) ]

  abbrev held : Bool → Leaf → Type 0
  held whole = Got g.address g.bits whole

  inner : {s t : Scope} (node : TypeId) (desc : Option Expr) (v w : Tree) (x : Structure) → Alike g Start s t (ty.Node node desc) → Twins g s t (ty.Node node desc) v w → HasStructure g.program node x
      → All (λ type. Alike g Start (inside s node v) (inside t node w) type) (types_of x.fields)
  inner {s} {t} node desc v w x a twins has =
      All-map (λ type. Alike g Start (inside s node v) (inside t node w) type) (λ f. f.ty) x.fields
      (All-weaker (Contains x.fields) (λ f. Alike g Start (inside s node v) (inside t node w) f.ty) (λ f c. Alike.in_field a twins has c) x.fields (All-contains_itself x.fields))

  -- ---- leaves

  same-field_bits : {t : Scope} (unit : Scalar) (width : ℕ) (n : ℤ) (w : Tree) (whole : Bool) (at : ℕ) → 1 ≤ width → IsTrue (has_room (is_signed unit) width n)
      → Fits g.program g.blocks g.capacity t (ty.Bits unit width) w
      → IsRead g.program g.planes (held whole) at (ty.Bits unit width) (Num n) → IsRead g.program g.planes (held whole) at (ty.Bits unit width) w → Num n ≡ w
  same-field_bits unit width n w whole at some room other read other_read =
      let found = is-bits unit width w other in
      let theirs = subst (λ x. IsRead g.program g.planes (held whole) at (ty.Bits unit width) x) found.1 other_read in
      ap Num (same-bits g.address g.bits whole (is_signed unit) at width n found.0 some room found.2 (read-bits (held whole) unit width n read.0 read.1 read.2)
      (read-bits (held whole) unit width found.0 theirs.0 theirs.1 theirs.2))
      ∙ sym found.1

  same-opaque : {t : Scope} (size align : ℕ) (bytes : List ℕ) (w : Tree) (whole : Bool) (at : ℕ) → length bytes ≡ size → All (λ byte. byte < 256) bytes
      → Fits g.program g.blocks g.capacity t (ty.Opaque size align) w
      → IsRead g.program g.planes (held whole) at (ty.Opaque size align) (Raw bytes) → IsRead g.program g.planes (held whole) at (ty.Opaque size align) w → Raw bytes ≡ w
  same-opaque size align bytes w whole at long small other read other_read =
      let found = is-opaque size align w other in
      let theirs = subst (λ x. IsRead g.program g.planes (held whole) at (ty.Opaque size align) x) found.1 other_read in
      ap Raw (same-bytes g.address g.bits whole at bytes found.0 (long ∙ sym found.2) small found.3 (read-opaque (held whole) size align bytes read.0 read.1 read.2)
      (read-opaque (held whole) size align found.0 theirs.0 theirs.1 theirs.2))
      ∙ sym found.1

  same-null : (type : Ty) (w : Tree) (whole : Bool) (at : ℕ) → (w ≡ Null) ⊎ ((id : ℕ) × (w ≡ To id) × (b : Block) × (g.blocks id ≡ Some b))
      → IsRead g.program g.planes (held whole) at type Null → IsRead g.program g.planes (held whole) at type w → Null ≡ w
  same-null type w whole at (inl e) read other_read = sym e
  same-null type w whole at (inr (id, e, b, is)) read other_read =
      let theirs = subst (λ x. IsRead g.program g.planes (held whole) at type x) e other_read in
      absurd (null-to g.address g.bits g.blocks h.addresses whole at id b is (read-null (held whole) type read.0 read.1 read.2) (read-to (held whole) type id theirs.0 theirs.1 theirs.2))

  same-to : (type : Ty) (id : ℕ) (b : Block) (w : Tree) (whole : Bool) (at : ℕ) → g.blocks id ≡ Some b → (w ≡ Null) ⊎ ((other : ℕ) × (w ≡ To other) × (c : Block) × (g.blocks other ≡ Some c))
      → IsRead g.program g.planes (held whole) at type (To id) → IsRead g.program g.planes (held whole) at type w → To id ≡ w
  same-to type id b w whole at is (inl e) read other_read =
      let theirs = subst (λ x. IsRead g.program g.planes (held whole) at type x) e other_read in
      absurd (null-to g.address g.bits g.blocks h.addresses whole at id b is (read-null (held whole) type theirs.0 theirs.1 theirs.2) (read-to (held whole) type id read.0 read.1 read.2))
  same-to type id b w whole at is (inr (other, e, c, are)) read other_read =
      let theirs = subst (λ x. IsRead g.program g.planes (held whole) at type x) e other_read in
      ap To (to-to g.address g.bits g.blocks h.addresses whole at id other b c is are (read-to (held whole) type id read.0 read.1 read.2) (read-to (held whole) type other theirs.0 theirs.1 theirs.2)) ∙ sym e

  -- ---- structures

  -- the other value of a struct, with all that its fields need
  record StructCase (s t : Scope) (node : TypeId) (x : Structure) (vs : Trees) (w : Tree) (whole : Bool) (at : ℕ) : Type 0 where
    trees : Trees
    spots : List FieldSpot
    is : w ≡ Rec trees
    alike : All (λ type. Alike g Start (inside s node (Rec vs)) (inside t node (Rec trees)) type) (types_of x.fields)
    fit : AllFit g.program g.blocks g.capacity (inside t node (Rec trees)) (types_of x.fields) trees
    read : FieldsRead g.program g.planes (held whole) at (types_of x.fields) spots vs
    other_read : FieldsRead g.program g.planes (held whole) at (types_of x.fields) spots trees

  struct-case : {s t : Scope} (node : TypeId) (desc : Option Expr) (x : Structure) (vs : Trees) (w : Tree) → HasStructure g.program node x → x.is_union ≡ false → Alike g Start s t (ty.Node node desc)
      → (twins : Twins g s t (ty.Node node desc) (Rec vs) w) → StructCase s t node x vs w twins.whole twins.at
  struct-case {s} {t} node desc x vs w has struct a twins =
      let found = is-struct node desc x w has struct twins.other_fits in
      let whole = twins.whole in
      let fits = subst (λ y. Fits g.program g.blocks g.capacity t (ty.Node node desc) y) found.1 twins.other_fits in
      let theirs = subst (λ y. IsRead g.program g.planes (held whole) twins.at (ty.Node node desc) y) found.1 twins.other_read in
      let plane = read-plane (held whole) node desc vs twins.read.0 twins.read.1 in
      let now : Twins g s t (ty.Node node desc) (Rec vs) (Rec found.0) = record { whole = whole; at = twins.at; fits = twins.fits; other_fits = fits; read = twins.read; other_read = theirs } in
      record {
        trees = found.0;
        spots = plane.0.fields;
        is = found.1;
        alike = inner node desc (Rec vs) (Rec found.0) x a now has;
        fit = found.2;
        read = read-struct (held whole) node desc x plane.0 vs has plane.1 twins.read.0 twins.read.1 twins.read.2;
        other_read = read-struct (held whole) node desc x plane.0 found.0 has plane.1 theirs.0 theirs.1 theirs.2;
      }

  -- the other value of a union has the same active member
  other-member : {s t : Scope} (node : TypeId) (desc : Option Expr) (x : Structure) (v w : Tree) (member : Option ℕ) → HasStructure g.program node x → x.is_union ≡ true → Alike g Start s t (ty.Node node desc)
      → Twins g s t (ty.Node node desc) v w → IsActive g.program s node desc x v member → (part : Tree) × (w ≡ Alt member part)
  other-member {s} {t} node desc x v w member has union a twins active =
      let found = is-union node desc x w has union twins.other_fits in
      let same = sym active ∙ ap (λ d. active_member d x.fields) (h.descs s t node desc v w x a twins has union) ∙ found.3 in
      (found.1, found.2 ∙ ap (λ m. Alt m found.1) (sym same))

  -- the part of the other value, with all that it needs
  record PartCase (s t : Scope) (node : TypeId) (member : Option ℕ) (v : Tree) (w : Tree) (type : Ty) (at : ℕ) : Type 0 where
    part : Tree
    whole : Bool
    is : w ≡ Alt member part
    alike : Alike g Start (inside s node (Alt member v)) (inside t node (Alt member part)) type
    fit : Fits g.program g.blocks g.capacity (inside t node (Alt member part)) type part
    read : IsRead g.program g.planes (held whole) at type v
    other_read : IsRead g.program g.planes (held whole) at type part

  -- the same twins, the other of them known better
  turned : {s t : Scope} (type : Ty) (v w new : Tree) → w ≡ new → (twins : Twins g s t type v w)
      → Fits g.program g.blocks g.capacity t type new × IsRead g.program g.planes (held twins.whole) twins.at type new
  turned {s} {t} type v w new e twins =
      (subst (λ y. Fits g.program g.blocks g.capacity t type y) e twins.other_fits, subst (λ y. IsRead g.program g.planes (held twins.whole) twins.at type y) e twins.other_read)

  member-case : {s t : Scope} (node : TypeId) (desc : Option Expr) (x : Structure) (place : ℕ) (f : Field) (v w : Tree) → HasStructure g.program node x → x.is_union ≡ true
      → IsActive g.program s node desc x (Alt (Some place) v) (Some place) → slice_get x.fields place ≡ Some f → Alike g Start s t (ty.Node node desc)
      → (twins : Twins g s t (ty.Node node desc) (Alt (Some place) v) w) → PartCase s t node (Some place) v w f.ty twins.at
  member-case {s} {t} node desc x place f v w has union active get a twins =
      let found = other-member node desc x (Alt (Some place) v) w (Some place) has union a twins active in
      let part = found.0 in
      let their = turned (ty.Node node desc) (Alt (Some place) v) w (Alt (Some place) part) found.1 twins in
      let now : Twins g s t (ty.Node node desc) (Alt (Some place) v) (Alt (Some place) part) =
      record { whole = twins.whole; at = twins.at; fits = twins.fits; other_fits = their.0; read = twins.read; other_read = their.1 } in
      record {
        part = part;
        whole = twins.whole;
        is = found.1;
        alike = Alike.in_field a now has (Contains-get x.fields place f get);
        fit = fits-member node desc x place f part has get their.0;
        read = read-member (held twins.whole) node desc x place f v has get twins.read.0 twins.read.1 twins.read.2;
        other_read = read-member (held twins.whole) node desc x place f part has get their.1.0 their.1.1 their.1.2;
      }

  numbers-read : (node common : TypeId) (desc : Option Expr) (x : Structure) (v : Tree) (whole : Bool) (at : ℕ) → HasStructure g.program node x → IsCommon g.program x common → without_pointers v ≡ v
      → IsRead g.program g.planes (held whole) at (ty.Node node desc) (Alt None v) → IsRead g.program g.planes (held false) at (ty.Node common None) v
  numbers-read node common desc x v whole at has c plain read =
      let found = read-common (held whole) node common desc x v h.settled has c read.0 read.1 read.2 in
      (found.0, found.1, weaker g.address g.bits whole found.0 (nulls found.1 plain) found.2)

  common-case : {s t : Scope} (node common : TypeId) (desc : Option Expr) (x : Structure) (v w : Tree) → HasStructure g.program node x → x.is_union ≡ true
      → IsActive g.program s node desc x (Alt None v) None → IsCommon g.program x common → Alike g Start s t (ty.Node node desc)
      → (twins : Twins g s t (ty.Node node desc) (Alt None v) w) → PartCase s t node None v w (ty.Node common None) twins.at
  common-case {s} {t} node common desc x v w has union active c a twins =
      let found = other-member node desc x (Alt None v) w None has union a twins active in
      let part = found.0 in
      let their = turned (ty.Node node desc) (Alt None v) w (Alt None part) found.1 twins in
      let now : Twins g s t (ty.Node node desc) (Alt None v) (Alt None part) =
      record { whole = twins.whole; at = twins.at; fits = twins.fits; other_fits = their.0; read = twins.read; other_read = their.1 } in
      record {
        part = part;
        whole = false;
        is = found.1;
        alike = Alike.in_common a now has c;
        fit = fits-common node common desc x part h.settled has c their.0;
        read = numbers-read node common desc x v twins.whole twins.at has c (is-plain node desc v twins.fits) twins.read;
        other_read = numbers-read node common desc x part twins.whole twins.at has c (is-plain node desc part their.0) their.1;
      }

  nothing-case : {s t : Scope} (node : TypeId) (desc : Option Expr) (x : Structure) (w : Tree) → HasStructure g.program node x → x.is_union ≡ true
      → IsActive g.program s node desc x (Alt None (Rec End)) None → ((common : TypeId) → ¬ IsCommon g.program x common) → Alike g Start s t (ty.Node node desc)
      → Twins g s t (ty.Node node desc) (Alt None (Rec End)) w → Alt None (Rec End) ≡ w
  nothing-case node desc x w has union active none a twins =
      let found = other-member node desc x (Alt None (Rec End)) w None has union a twins active in
      let their = turned (ty.Node node desc) (Alt None (Rec End)) w (Alt None found.0) found.1 twins in
      ap (Alt None) (sym (is-nothing node desc x found.0 has none their.0)) ∙ sym found.1

  -- ---- rows

  record RowCase (t : Scope) (elem : Ty) (vs : Trees) (w : Tree) (whole : Bool) (at : ℕ) : Type 0 where
    trees : Trees
    is : w ≡ Row trees
    as_many : count vs ≡ count trees
    fit : EachFits g.program g.blocks g.capacity t elem trees
    read : EachRead g.program g.planes (held whole) (8 * (extent_of g.planes elem).size) at elem vs
    other_read : EachRead g.program g.planes (held whole) (8 * (extent_of g.planes elem).size) at elem trees

  array-case : {t : Scope} (type elem : Ty) (n : ℕ) (vs : Trees) (w : Tree) (whole : Bool) (at : ℕ) → out-Ty type ≡ part.Arr n elem → count vs ≡ n → Fits g.program g.blocks g.capacity t type w
      → IsRead g.program g.planes (held whole) at type (Row vs) → IsRead g.program g.planes (held whole) at type w → RowCase t elem vs w whole at
  array-case type elem n vs w whole at e many other read other_read =
      let found = is-array type elem n w e other in
      let theirs = subst (λ y. IsRead g.program g.planes (held whole) at type y) found.1 other_read in
      record {
        trees = found.0;
        is = found.1;
        as_many = many ∙ sym found.2;
        fit = found.3;
        read = read-array (held whole) type elem n vs e read.0 read.1 read.2;
        other_read = read-array (held whole) type elem n found.0 e theirs.0 theirs.1 theirs.2;
      }

  tail-case : {s t : Scope} (type elem : Ty) (long : Expr) (vs : Trees) (w : Tree) (whole : Bool) (at : ℕ) → out-Ty type ≡ part.Tail long elem → Alike g Start s t type
      → eval_in g.program s long ≡ Some (pos (count vs)) → Fits g.program g.blocks g.capacity t type w
      → IsRead g.program g.planes (held whole) at type (Row vs) → IsRead g.program g.planes (held whole) at type w → RowCase t elem vs w whole at
  tail-case {s} {t} type elem long vs w whole at e a many other read other_read =
      let found = is-tail type elem long w e other in
      let theirs = subst (λ y. IsRead g.program g.planes (held whole) at type y) found.1 other_read in
      record {
        trees = found.0;
        is = found.1;
        as_many = count-same (eval_in g.program s long) (count vs) (count found.0) many (h.counts s t type elem long a e ∙ found.2);
        fit = found.3;
        read = read-tail (held whole) type elem long vs e read.0 read.1 read.2;
        other_read = read-tail (held whole) type elem long found.0 e theirs.0 theirs.1 theirs.2;
      }

  -- ---- from the outside in

  mutual
    pub fixed : {s : Scope} {type : Ty} {v : Tree} → Fits g.program g.blocks g.capacity s type v → (t : Scope) (w : Tree) (whole : Bool) (at : ℕ) → Alike g Start s t type
        → Fits g.program g.blocks g.capacity t type w → IsRead g.program g.planes (held whole) at type v → IsRead g.program g.planes (held whole) at type w → v ≡ w
    fixed (Fits.number {scalar} {n} room) t w whole at a other read other_read = same-num g scalar n w whole at room other read other_read
    fixed (Fits.bits {unit} {width} {n} room) t w whole at a other read other_read = same-field_bits unit width n w whole at (wide-bits unit width a) room other read other_read
    fixed (Fits.opaque {size} {align} {bytes} long small) t w whole at a other read other_read = same-opaque size align bytes w whole at long small other read other_read
    fixed (Fits.null {type} p) t w whole at a other read other_read = same-null type w whole at (is-pointer type w p other) read other_read
    fixed (Fits.to {scope} {type} {id} m) t w whole at a other read other_read =
        let block = named g.blocks (eval_in g.program scope) type id m in
        same-to type id block.0 w whole at block.1 (is-pointer type w (may-pointer g.blocks (eval_in g.program scope) type id m) other) read other_read
    fixed (Fits.struct {node} {desc} {s = x} {trees} has struct all) t w whole at a other read other_read =
        let c = struct-case node desc x trees w has struct a (record { whole = whole; at = at; fits = Fits.struct has struct all; other_fits = other; read = read; other_read = other_read }) in
        ap Rec (fixed_fields all (inside t node (Rec c.trees)) c.trees whole at c.spots c.alike c.fit c.read c.other_read) ∙ sym c.is
    fixed (Fits.member {node} {desc} {s = x} {place} {f} {tree} has union active get fits) t w whole at a other read other_read =
        let c = member-case node desc x place f tree w has union active get a
        (record { whole = whole; at = at; fits = Fits.member has union active get fits; other_fits = other; read = read; other_read = other_read }) in
        ap (Alt (Some place)) (fixed fits (inside t node (Alt (Some place) c.part)) c.part c.whole at c.alike c.fit c.read c.other_read) ∙ sym c.is
    fixed (Fits.common {node} {common} {desc} {s = x} {tree} has union active o plain fits) t w whole at a other read other_read =
        let c = common-case node common desc x tree w has union active o a
        (record { whole = whole; at = at; fits = Fits.common has union active o plain fits; other_fits = other; read = read; other_read = other_read }) in
        ap (Alt None) (fixed fits (inside t node (Alt None c.part)) c.part c.whole at c.alike c.fit c.read c.other_read) ∙ sym c.is
    fixed (Fits.nothing {node} {desc} {s = x} has union active none) t w whole at a other read other_read =
        nothing-case node desc x w has union active none a (record { whole = whole; at = at; fits = Fits.nothing has union active none; other_fits = other; read = read; other_read = other_read })
    fixed (Fits.array {type} {elem} {n} {trees} e many each) t w whole at a other read other_read =
        let c = array-case type elem n trees w whole at e many other read other_read in
        ap Row (fixed_each each t c.trees whole (8 * (extent_of g.planes elem).size) at (Alike.in_array a e) c.as_many c.fit c.read c.other_read) ∙ sym c.is
    fixed (Fits.tail {scope} {type} {elem} {length} {n} {trees} e value le many each) t w whole at a other read other_read =
        let c = tail-case type elem length trees w whole at e a (value ∙ ap (λ k. Some (pos k)) (sym many)) other read other_read in
        ap Row (fixed_each each t c.trees whole (8 * (extent_of g.planes elem).size) at (Alike.in_tail a e) c.as_many c.fit c.read c.other_read) ∙ sym c.is

    pub fixed_fields : {s : Scope} {types : List Ty} {vs : Trees} → AllFit g.program g.blocks g.capacity s types vs → (t : Scope) (ws : Trees) (whole : Bool) (at : ℕ) (spots : List FieldSpot)
        → All (λ type. Alike g Start s t type) types → AllFit g.program g.blocks g.capacity t types ws → FieldsRead g.program g.planes (held whole) at types spots vs
        → FieldsRead g.program g.planes (held whole) at types spots ws → vs ≡ ws
    fixed_fields AllFit.none t ws whole at spots a other read other_read = sym (is-none ws other)
    fixed_fields (AllFit.more {type} {types} {tree} {trees} fits all) t ws whole at [] a other read other_read = absurd (read-no_spots type types (And tree trees) read.0 read.1)
    fixed_fields (AllFit.more {scope} {type} {types} {tree} {trees} fits all) t ws whole at (p ∷ ps) a other read other_read =
        let found = is-more type types ws other in
        let theirs = subst (λ y. FieldsRead g.program g.planes (held whole) at (type ∷ types) (p ∷ ps) y) found.2 other_read in
        let mine = read-more (held whole) type types p ps tree trees read.0 read.1 read.2 in
        let their = read-more (held whole) type types p ps found.0 found.1 theirs.0 theirs.1 theirs.2 in
        and-same tree found.0 trees found.1
        (fixed fits t found.0 whole (at + begin_at p) (All-head (λ y. Alike g Start scope t y) type types a) found.3 mine.0 their.0)
        (fixed_fields all t found.1 whole at ps (All-tail (λ y. Alike g Start scope t y) type types a) found.4 mine.1 their.1)
        ∙ sym found.2

    pub fixed_each : {s : Scope} {type : Ty} {vs : Trees} → EachFits g.program g.blocks g.capacity s type vs → (t : Scope) (ws : Trees) (whole : Bool) (stride at : ℕ) → Alike g Start s t type
        → count vs ≡ count ws → EachFits g.program g.blocks g.capacity t type ws → EachRead g.program g.planes (held whole) stride at type vs → EachRead g.program g.planes (held whole) stride at type ws → vs ≡ ws
    fixed_each EachFits.no_more t ws whole stride at a many other read other_read = sym (is-no_more ws (sym many))
    fixed_each (EachFits.one_more {type} {tree} {trees} fits each) t ws whole stride at a many other read other_read =
        let found = is-one type (count trees) ws (sym many) other in
        let theirs = subst (λ y. EachRead g.program g.planes (held whole) stride at type y) found.2 other_read in
        let mine = read-one (held whole) stride type tree trees read.0 read.1 read.2 in
        let their = read-one (held whole) stride type found.0 found.1 theirs.0 theirs.1 theirs.2 in
        let rest : count trees ≡ count found.1 = let m : suc (count trees) ≡ suc (count found.1) = many ∙ ap count found.2 in omega arith in
        and-same tree found.0 trees found.1
        (fixed fits t found.0 whole at a found.3 mine.0 their.0)
        (fixed_each each t found.1 whole stride (at + stride) a rest found.4 mine.1 their.1)
        ∙ sym found.2
