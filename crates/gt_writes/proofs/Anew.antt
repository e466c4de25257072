-- A value that is written anew.
use Rattle.std.proofs.Common.{◌≡◌, ℕ, List, Result, Ok, Err, ap, sym, subst}
use Rattle.std.specs.Prelude.{OnOk}
use Rattle.gt_types.specs.declared.types.Ty.{Ty}
use Rattle.gt_types.specs.declared.program.Program.{Program}
use Rattle.gt_layout.specs.declared.planes.Layouts.{Layouts}
use Rattle.gt_space.specs.Range.{Range}
use Rattle.gt_tree.specs.Trees.{Tree, Trees}
use Rattle.gt_tree.specs.Blocks.{Blocks}
use Rattle.gt_tree.specs.Scopes.{outside}
use Rattle.gt_tree.specs.Fits.{Fits}
use Rattle.gt_tree.specs.Reshapes.{Assigns}
use Rattle.gt_tree.specs.FixedLaws.{AreAddresses}
use Rattle.gt_value.specs.declared.values.ValueFail.{ValueFail}
use Rattle.gt_value.specs.declared.places.LeafContent.{LeafContent}
use Rattle.gt_value.specs.declared.places.Place.{Place}
use Rattle.gt_value.specs.Bytes.{itself, FitsSome, StandsFor}
use Rattle.gt_assign.specs.Results.{IsAssigned, IsMisfit}
use Rattle.gt_leaf.specs.Writing.{StandsBeside, MayPut}
use Rattle.gt_leaf.proofs.WritePlaces.{stands-for}

pub fits_beside : {program : Program} {layouts : Layouts} {blocks : Blocks} {statics : Trees} {capacity : ℕ} {type : Ty} {range : Range} {address : ℕ} {value : Tree} → StandsBeside program layouts blocks statics capacity type range address value
    → Fits program blocks capacity (outside statics) type value
fits_beside {program} {blocks} {statics} {capacity} {value} s = subst (λ t. Fits program blocks capacity (outside statics) t value) (sym s.of_kind) s.is.fits

module _ (program : Program) (blocks others : Blocks) (same : blocks ≡ others) (statics : Trees) (capacity : ℕ) (type : Ty) (old value : Tree) (is : old ≡ value) where
  -- it fits
  pub fits_by : Fits program others capacity (outside statics) type value → Fits program blocks capacity (outside statics) type old
  fits_by fits = subst (λ bs. Fits program bs capacity (outside statics) type old) (sym same) (subst (λ v. Fits program others capacity (outside statics) type v) (sym is) fits)

  -- it is what the write makes
  pub assigned_by : (path : List ℕ) (leaf new : Tree) → IsAssigned program blocks capacity type old path leaf new → Fits program others capacity (outside statics) type value → Assigns program others statics capacity type value path leaf new
  assigned_by path leaf new assigned fits =
      subst (λ bs. Assigns program bs statics capacity type value path leaf new) same (subst (λ v. Assigns program blocks statics capacity type v path leaf new) is (assigned statics (fits_by fits)))

  -- the write makes none
  pub misfit_by : (path : List ℕ) (leaf new : Tree) → IsMisfit program blocks capacity type old path leaf → Assigns program others statics capacity type value path leaf new → ⊥
  misfit_by path leaf new misfit assigns =
      misfit statics new (subst (λ v. Assigns program blocks statics capacity type v path leaf new) (sym is) (subst (λ bs. Assigns program bs statics capacity type value path leaf new) (sym same) assigns))

-- what the write makes can be stored
pub some_fits : {program : Program} {blocks : Blocks} {statics : Trees} {capacity : ℕ} {type : Ty} {old : Tree} {path : List ℕ} {leaf new : Tree} → AreAddresses blocks itself → Assigns program blocks statics capacity type old path leaf new → FitsSome program capacity type new
some_fits {blocks} {statics} addresses assigns = record { blocks = blocks; statics = statics; addresses = addresses; fits = assigns.fits }

-- the bytes of an element stand for what is read of them
pub reads_same : {program : Program} {layouts : Layouts} {blocks : Blocks} {statics : Trees} {capacity : ℕ} {type : Ty} {range other : Range} {address : ℕ} {value : Tree} → other ≡ range
    → StandsBeside program layouts blocks statics capacity type range address value → StandsFor program layouts capacity type other address value
reads_same {program} {layouts} {capacity} {type} {address} {value} same s = subst (λ r. StandsFor program layouts capacity type r address value) (sym same) (stands-for s)

pub same_fail : {X Y : Type 0} (fail why : ValueFail) → ◌≡◌ {A = Result X ValueFail} (Err fail) (Err why) → ◌≡◌ {A = Result Y ValueFail} (Err fail) (Err why)
same_fail fail why e = let is : fail ≡ why = cc in ap (λ w. Err w) is

-- ---- the same bytes beside the same blocks

pub beside_by : {program : Program} {layouts : Layouts} {blocks others : Blocks} {statics : Trees} {capacity : ℕ} {type : Ty} {range other : Range} {address : ℕ} {value : Tree} → others ≡ blocks → other ≡ range
    → StandsBeside program layouts blocks statics capacity type range address value → StandsBeside program layouts others statics capacity type other address value
beside_by {program} {layouts} {blocks} {statics} {capacity} {type} {other} {address} {value} same there s =
    subst (λ bs. StandsBeside program layouts bs statics capacity type other address value) (sym same) (subst (λ r. StandsBeside program layouts blocks statics capacity type r address value) (sym there) s)

pub put_by : {program : Program} {layouts : Layouts} {blocks others : Blocks} {statics : Trees} {capacity : ℕ} {type : Ty} {range other : Range} {address : ℕ} {value : Tree} {path : List ℕ} {leaf : LeafContent} {place : Place}
    → others ≡ blocks → other ≡ range → MayPut program layouts others statics capacity type address value path leaf other place → MayPut program layouts blocks statics capacity type address value path leaf range place
put_by {program} {layouts} {others} {statics} {capacity} {type} {range} {address} {value} {path} {leaf} {place} same there p =
    subst (λ bs. MayPut program layouts bs statics capacity type address value path leaf range place) same (subst (λ r. MayPut program layouts others statics capacity type address value path leaf r place) there p)

pub both_ok : {X E : Type 0} (r : Result X E) {P Q R : Type 0} → (P → Q → R) → OnOk r P → OnOk r Q → OnOk r R
both_ok (Ok x) f p q = f p q
both_ok (Err e) f p q = tt

pub once_ok : {X E : Type 0} (r : Result X E) {P Q : Type 0} → (P → Q) → OnOk r P → OnOk r Q
once_ok (Ok x) f p = f p
once_ok (Err e) f p = tt
