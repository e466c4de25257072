-- What the leaves of a value that fits hold has room in their bits.
use Rattle.std.proofs.Common.{ℕ, ◌+◌, ◌-◌, ◌*◌, ◌^◌, ◌<◌, ◌≤◌, Bool, true, false, IsTrue, List, [], ◌∷◌, arith, Some, None}
use Rattle.std.specs.Prelude.{All, ℤ, pos, negsuc}
use Rattle.std.proofs.Math.Nat.{pow-le-pow_right}
use Rattle.std.proofs.lemmas.List.Elements.{All-nil, All-cons, All-head, All-tail, All-append, All-filter}
use borrow.Author.Tests.{ltb-true}
use Rattle.gt_types.specs.declared.types.Scalar.{Scalar}
use Rattle.gt_types.specs.declared.types.Scalar.TheVariants as scalar
use Rattle.gt_types.specs.declared.types.Width.TheVariants.{W1, W2, W4, W8}
use Rattle.gt_types.specs.declared.types.Ty.{Ty}
use Rattle.gt_types.specs.declared.types.Ty.TheVariants as ty
use Rattle.gt_types.specs.declared.program.Program.{Program}
use Rattle.gt_types.specs.Shapes.{bits_of}
use Rattle.gt_types.specs.Settled.{Settled}
use Rattle.gt_layout.specs.declared.planes.Plane.{Plane}
use Rattle.gt_layout.specs.declared.planes.FieldSpot.{FieldSpot}
use Rattle.gt_layout.specs.declared.planes.Layouts.{Layouts}
use Rattle.gt_layout.specs.Storages.{bytes_of}
use Rattle.gt_tree.specs.Trees.{Tree, Num, Raw, Rec, Alt, Trees}
use Rattle.gt_tree.specs.Numbers.{is_signed, has_room, two's_complement}
use Rattle.gt_tree.specs.Blocks.{Blocks}
use Rattle.gt_tree.specs.Scopes.{Scope, inside, outside}
use Rattle.gt_tree.specs.Fits.{Fits, AllFit, EachFits}
use Rattle.gt_tree.specs.Leaves.{Leaf, leaf, Number, Pointer, byte_leaves, is_number, HasLeaves, FieldsHaveLeaves, EachHasLeaves}
use Rattle.gt_tree.specs.LeafLaws.{HasItsRoom, ValueHasRoom, ElementsHaveRoom, RecordHasRoom}
use Rattle.gt_tree.proofs.Fitting.{fits-struct, fits-member, fits-common, fits-array, fits-tail, fits-more, fits-one}

power-le : (b w : ℕ) → b ≤ w → 2 ^ b ≤ 2 ^ w
power-le b w h = pow-le-pow_right (omega arith) h

-- a number that has room in some bits has it in more
number-below : (signed : Bool) (b w : ℕ) (n : ℤ) → b ≤ w → IsTrue (has_room signed b n) → two's_complement w n < 2 ^ w
number-below true b w (pos n) le h =
    let less : n < 2 ^ (b - 1) = ltb-true n (2 ^ (b - 1)) h in
    let more : 2 ^ (b - 1) ≤ 2 ^ w = power-le (b - 1) w (omega arith) in
    omega (arith, less, more)
number-below true b w (negsuc n) le h = let some : 1 ≤ 2 ^ w = power-le 0 w (omega arith) in omega (arith, some)
number-below false b w (pos n) le h =
    let less : n < 2 ^ b = ltb-true n (2 ^ b) h in
    let more : 2 ^ b ≤ 2 ^ w = power-le b w le in
    omega (arith, less, more)
number-below false b w (negsuc n) le h = absurd (cc)

bits-le : (number : Scalar) → bits_of number ≤ 8 * bytes_of number
bits-le scalar.Bool = omega arith
bits-le (scalar.Int W1 signed) = omega arith
bits-le (scalar.Int W2 signed) = omega arith
bits-le (scalar.Int W4 signed) = omega arith
bits-le (scalar.Int W8 signed) = omega arith

module _ (address : ℕ → ℕ) where
  All-one : (l : Leaf) → HasItsRoom address l → All (HasItsRoom address) (l ∷ [])
  All-one l h = All-cons (HasItsRoom address) l [] h (All-nil (HasItsRoom address))

  All-bytes : (at : ℕ) (bytes : List ℕ) → All (λ byte. byte < 256) bytes → All (HasItsRoom address) (byte_leaves at bytes)
  All-bytes at [] h = All-nil (HasItsRoom address)
  All-bytes at (byte ∷ bytes) h =
      All-cons (HasItsRoom address) (leaf at 8 (Number (pos byte))) (byte_leaves (at + 8) bytes) (All-head (λ b. b < 256) byte bytes h) (All-bytes (at + 8) bytes (All-tail (λ b. b < 256) byte bytes h))

module _ {program : Program} {blocks : Blocks} {capacity : ℕ} {scope : Scope} where
  number-fits : (number : Scalar) (n : ℤ) → Fits program blocks capacity scope (ty.Num number) (Num n) → two's_complement (8 * bytes_of number) n < 2 ^ (8 * bytes_of number)
  number-fits number n (Fits.number h) = number-below (is_signed number) (bits_of number) (8 * bytes_of number) n (bits-le number) h

  bits-fit : (unit : Scalar) (width : ℕ) (n : ℤ) → Fits program blocks capacity scope (ty.Bits unit width) (Num n) → two's_complement width n < 2 ^ width
  bits-fit unit width n (Fits.bits h) = number-below (is_signed unit) width width n (omega arith) h

  bytes-fit : (size align : ℕ) (bytes : List ℕ) → Fits program blocks capacity scope (ty.Opaque size align) (Raw bytes) → All (λ byte. byte < 256) bytes
  bytes-fit size align bytes (Fits.opaque e all) = all

module _ (program : Program) (planes : List Plane) (blocks : Blocks) (capacity : ℕ) (settled : Settled program) (address : ℕ → ℕ) (bound : (id : ℕ) → address id < 2 ^ 64) where
  mutual
    rooms : {at : ℕ} {type : Ty} {tree : Tree} {leaves : List Leaf} → HasLeaves program planes at type tree leaves
        → (scope : Scope) → Fits program blocks capacity scope type tree → All (HasItsRoom address) leaves
    rooms (HasLeaves.number {at} {scalar = number} {n}) scope fits = All-one address (leaf at (8 * bytes_of number) (Number n)) (number-fits number n fits)
    rooms (HasLeaves.bits {at} {unit} {width} {n}) scope fits = All-one address (leaf at width (Number n)) (bits-fit unit width n fits)
    rooms (HasLeaves.opaque {at} {size} {align} {bytes}) scope fits = All-bytes address at bytes (bytes-fit size align bytes fits)
    rooms (HasLeaves.null {at} {type} p) scope fits = All-one address (leaf at 64 (Pointer None)) (omega arith)
    rooms (HasLeaves.to {at} {type} {id} p) scope fits = All-one address (leaf at 64 (Pointer (Some id))) (bound id)
    rooms (HasLeaves.struct {at} {node} {desc} {s} {plane} {trees} {leaves} has struct got fields) scope fits = rooms_fields fields (inside scope node (Rec trees)) (fits-struct node desc s trees has fits)
    rooms (HasLeaves.member {at} {node} {desc} {s} {place} {f} {tree} {leaves} has union get part) scope fits =
        rooms part (inside scope node (Alt (Some place) tree)) (fits-member node desc s place f tree has get fits)
    rooms (HasLeaves.common {at} {node} {common} {desc} {s} {tree} {leaves} has union c part) scope fits =
        All-filter is_number (HasItsRoom address) leaves (rooms part (inside scope node (Alt None tree)) (fits-common node common desc s tree settled has c fits))
    rooms (HasLeaves.nothing has union none) scope fits = All-nil (HasItsRoom address)
    rooms (HasLeaves.array {at} {type} {elem} {n} {trees} {leaves} e each) scope fits = rooms_each each scope (fits-array type elem n trees e fits).1
    rooms (HasLeaves.tail {at} {type} {elem} {length} {trees} {leaves} e each) scope fits = rooms_each each scope (fits-tail type elem length trees e fits).1

    rooms_fields : {at : ℕ} {types : List Ty} {spots : List FieldSpot} {trees : Trees} {leaves : List Leaf} → FieldsHaveLeaves program planes at types spots trees leaves
        → (scope : Scope) → AllFit program blocks capacity scope types trees → All (HasItsRoom address) leaves
    rooms_fields FieldsHaveLeaves.none scope fits = All-nil (HasItsRoom address)
    rooms_fields (FieldsHaveLeaves.more {at} {type} {types} {s} {spots} {tree} {trees} {first} {rest} part parts) scope fits =
        let fit = fits-more type types tree trees fits in
        All-append (HasItsRoom address) first rest (rooms part scope fit.0) (rooms_fields parts scope fit.1)

    rooms_each : {stride at : ℕ} {type : Ty} {trees : Trees} {leaves : List Leaf} → EachHasLeaves program planes stride at type trees leaves
        → (scope : Scope) → EachFits program blocks capacity scope type trees → All (HasItsRoom address) leaves
    rooms_each EachHasLeaves.no_more scope fits = All-nil (HasItsRoom address)
    rooms_each (EachHasLeaves.one_more {stride} {at} {type} {tree} {trees} {first} {rest} part parts) scope fits =
        let fit = fits-one type tree trees fits in
        All-append (HasItsRoom address) first rest (rooms part scope fit.0) (rooms_each parts scope fit.1)

pub value-room : (program : Program) (layouts : Layouts) → Settled program → ValueHasRoom program layouts
value-room program layouts settled blocks capacity scope type tree at leaves address bound fits has = rooms program layouts.structures blocks capacity settled address bound has scope fits

pub elements-room : (program : Program) (layouts : Layouts) → Settled program → ElementsHaveRoom program layouts
elements-room program layouts settled blocks capacity scope type trees stride at leaves address bound fits has = rooms_each program layouts.structures blocks capacity settled address bound has scope fits

pub record-room : (program : Program) (layouts : Layouts) → Settled program → RecordHasRoom program layouts
record-room program layouts settled blocks statics leaves address bound fits has = rooms_fields program layouts.structures blocks 0 settled address bound has (outside statics) fits
