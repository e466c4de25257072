-- The bytes that were stored for a value stand for it.
use Rattle.std.proofs.Common.{◌≡◌, ◌+◌, ℕ, length, ap, sym, subst, arith, refl}
use Rattle.gt_types.specs.declared.types.Ty.{Ty}
use Rattle.gt_types.specs.declared.types.TypeId.{TypeId}
use Rattle.gt_types.specs.declared.program.Program.{Program}
use Rattle.gt_types.specs.Settled.{Settled}
use Rattle.gt_types.specs.Paths.{MayStand}
use Rattle.gt_layout.specs.declared.planes.Layouts.{Layouts}
use Rattle.gt_layout.specs.Planes.{IsLaidOut}
use Rattle.gt_layout.specs.Capacity.{SizeAt}
use Rattle.gt_space.specs.Range.{Range, IsInside, KeepsAddresses, bytes_at, with_bytes}
use Rattle.gt_space.proofs.RangeLemmas.{bytes_at-with_bytes}
use Rattle.gt_tree.specs.Trees.{Tree, Trees}
use Rattle.gt_tree.specs.Blocks.{Nodes, element_type}
use Rattle.gt_tree.specs.Scopes.{outside}
use Rattle.gt_tree.specs.Leaves.{HasLeaves, Stand}
use Rattle.gt_tree.specs.Fits.{Fits, StaticsFit}
use Rattle.gt_tree.proofs.Sizes.{sizes-one}
use Rattle.gt_tree.proofs.OneList.{value-one_list, record-one_list}
use Rattle.gt_tree.proofs.Bytes.{one-form}
use Rattle.gt_value.specs.Bytes.{itself, IsElement, Takes, IsStored, AreStaticsStored, StandsFor}
use Rattle.gt_assign.specs.Results.{FitsBeside}
use Rattle.gt_leaf.specs.Writing.{StandsBeside, StaticsStandBeside}
use Rattle.gt_leaf.proofs.WritePlaces.{stands-for}
use Rattle.value_notation.specs.Blocks.{blocks}
use Rattle.value_notation.specs.Addresses.{addresses}

-- a structure takes as many bytes as its size says
pub takes-size : (program : Program) (layouts : Layouts) (capacity : ℕ) (type : Ty) (id : TypeId) (size : ℕ) → type ≡ element_type program (Nodes id) → SizeAt program layouts.structures capacity id size
    → Takes program layouts capacity type size
takes-size program layouts capacity type id size is at = subst (λ t. Takes program layouts capacity t size) (sym is) (size, at, refl)

-- and no others
pub takes-only : (program : Program) (layouts : Layouts) (capacity : ℕ) (type : Ty) (id : TypeId) (size : ℕ) → Settled program → IsLaidOut program layouts → MayStand program id
    → type ≡ element_type program (Nodes id) → SizeAt program layouts.structures capacity id size → (other : ℕ) → Takes program layouts capacity type other → other ≡ size
takes-only program layouts capacity type id size settled laid stands is at other takes =
    let one = sizes-one program layouts settled laid capacity id stands.0 stands.1 in
    let t : Takes program layouts capacity (element_type program (Nodes id)) other = subst (λ t. Takes program layouts capacity t other) is takes in
    let left : t.0 ≡ one.0 = one.2 t.0 t.1 in
    let right : size ≡ one.0 = one.2 size at in
    let wide = t.2 in
    omega (arith, left, right, wide)

-- the bytes of a value that was stored stand for it, beside the blocks of the table
pub beside-stored : (program : Program) (layouts : Layouts) (capacity : ℕ) (type : Ty) (value : Tree) (old new : Range) (address size : ℕ) → Settled program → IsLaidOut program layouts
    → IsElement program type → (fits : FitsBeside program blocks capacity type value) → Takes program layouts capacity type size → IsInside old address size
    → IsStored program layouts capacity type value old address new → StandsBeside program layouts blocks fits.0 capacity type new address value
beside-stored program layouts capacity type value old new address size settled laid element fits takes inside stored =
    let one = value-one_list program layouts settled laid blocks capacity (outside fits.0) type value 0 fits.1 in
    let form = one-form itself one.0 size in
    let bytes = form.0 in
    let are = form.1 in
    let long : length bytes ≡ size = are.long in
    let is : new ≡ with_bytes old address bytes = stored size one.0 bytes takes one.1 are in
    let back = bytes_at-with_bytes old address bytes (subst (IsInside old address) (sym long) inside) in
    let seen : bytes_at new address size ≡ bytes = subst (λ n. bytes_at new address n ≡ bytes) long (subst (λ r. bytes_at r address (length bytes) ≡ bytes) (sym is) back) in
    record {
      kind = element.0;
      held = element.1;
      of_kind = element.2;
      size = size;
      takes = takes;
      addresses = addresses;
      is = record {
        leaves = one.0;
        fits = subst (λ t. Fits program blocks capacity (outside fits.0) t value) element.2 fits.1;
        has = subst (λ t. HasLeaves program layouts.structures 0 t value one.0) element.2 one.1;
        stand = subst (λ b. Stand itself one.0 b) (sym seen) are.stand;
      };
    }

-- so they stand for it
pub stands-stored : (program : Program) (layouts : Layouts) (capacity : ℕ) (type : Ty) (value : Tree) (old new : Range) (address size : ℕ) → Settled program → IsLaidOut program layouts
    → IsElement program type → FitsBeside program blocks capacity type value → Takes program layouts capacity type size → IsInside old address size
    → IsStored program layouts capacity type value old address new → StandsFor program layouts capacity type new address value
stands-stored program layouts capacity type value old new address size settled laid element fits takes inside stored =
    stands-for (beside-stored program layouts capacity type value old new address size settled laid element fits takes inside stored)

-- the bytes of the static record that were stored stand for it
pub statics-stored : (program : Program) (layouts : Layouts) (values : Trees) (old new : Range) → Settled program → IsLaidOut program layouts → StaticsFit program blocks values
    → IsInside old old.start layouts.statics.size → AreStaticsStored program layouts values old new → StaticsStandBeside program layouts blocks new values
statics-stored program layouts values old new settled laid fit inside stored =
    let one = record-one_list program layouts settled laid blocks values fit in
    let size = layouts.statics.size in
    let form = one-form itself one.0 size in
    let bytes = form.0 in
    let are = form.1 in
    let long : length bytes ≡ size = are.long in
    let is : new ≡ with_bytes old old.start bytes = stored one.0 bytes one.1 are in
    let back = bytes_at-with_bytes old old.start bytes (subst (IsInside old old.start) (sym long) inside) in
    let there : bytes_at new old.start size ≡ bytes = subst (λ n. bytes_at new old.start n ≡ bytes) long (subst (λ r. bytes_at r old.start (length bytes) ≡ bytes) (sym is) back) in
    let start : old.start ≡ new.start = ap (λ r. r.start) (sym is) in
    let seen : bytes_at new new.start size ≡ bytes = subst (λ n. bytes_at new n size ≡ bytes) start there in
    record {
      addresses = addresses;
      are = record { leaves = one.0; fit = fit; have = one.1; stand = subst (λ b. Stand itself one.0 b) (sym seen) are.stand };
    }

-- what was inside stays there
pub inside-kept : (old new : Range) (address size : ℕ) → IsInside old address size → KeepsAddresses old new → IsInside new address size
inside-kept old new address size inside keeps = record {
  from_start = omega (arith, inside.from_start, keeps.start);
  to_end = omega (arith, inside.to_end, keeps.start, keeps.len);
}

-- so is what was inside from the lowest address on
pub inside-start : (old new : Range) (address size : ℕ) → address ≡ old.start + 0 → IsInside old address size → KeepsAddresses old new → IsInside new new.start size
inside-start old new address size lowest inside keeps = record { from_start = omega arith; to_end = omega (arith, lowest, inside.to_end, keeps.start, keeps.len) }

-- addresses that two writes keep
pub keeps-both : (old mid new : Range) → KeepsAddresses old mid → KeepsAddresses mid new → KeepsAddresses old new
keeps-both old mid new a b = record { start = omega (arith, a.start, b.start); len = omega (arith, a.len, b.len) }

-- from the lowest address on
pub inside-lowest : (old new : Range) (size : ℕ) → IsInside old old.start size → KeepsAddresses old new → IsInside new new.start size
inside-lowest old new size inside keeps = record { from_start = omega arith; to_end = omega (arith, inside.to_end, keeps.start, keeps.len) }
