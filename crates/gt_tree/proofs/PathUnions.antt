-- The common structure in the value of a union.
use Rattle.std.proofs.Common.{◌≡◌, ℕ, Bool, true, false, IsTrue, ℤ, List, refl, ap, sym, subst, ◌∙◌, arith, Option, Some, None, ◌⊎◌, inl, inr}
use Rattle.std.specs.Prelude.{slice_get}
use Rattle.std.specs.List.{position_from}
use Rattle.gt_types.specs.declared.expressions.Expr.{Expr}
use Rattle.gt_types.specs.declared.types.TypeId.{TypeId}
use Rattle.gt_types.specs.declared.types.Ty.TheVariants as ty
use Rattle.gt_types.specs.declared.types.Ty.TheVariants.{outs-Node}
use Rattle.gt_types.specs.declared.program.Active.{Active}
use Rattle.gt_types.specs.declared.program.Active.TheVariants.{Always, Tag, Other, Never}
use Rattle.gt_types.specs.declared.program.Field.{Field}
use Rattle.gt_types.specs.declared.program.Structure.{Structure}
use Rattle.gt_types.specs.declared.program.Program.{Program}
use Rattle.gt_types.specs.Contains.{HasStructure}
use Rattle.gt_types.specs.Unions.{BeginsWith, IsCommon, may_be_active}
use Rattle.gt_types.specs.Settled.{Settled}
use Rattle.gt_layout.specs.declared.planes.Plane.{Plane}
use Rattle.gt_layout.specs.Planes.{AreLaidOut}
use Rattle.gt_tree.specs.Trees.{Tree, Alt}
use Rattle.gt_tree.specs.Blocks.{Blocks}
use Rattle.gt_tree.specs.Scopes.{Scope, inside, type_of_field, type_there, beginning, typed, ◌then◌, member_of}
use Rattle.gt_tree.specs.Fits.{Fits, is_tag, is_default, active_member, first_place, desc_value}
use Rattle.gt_tree.specs.Leaves.{Leaf, HasLeaves}
use Rattle.gt_tree.specs.PathLaws.{FitsWith}
use Rattle.gt_tree.proofs.Commons.{one-common}
use Rattle.gt_tree.proofs.Fitting.{fits-member, fits-common}
use Rattle.gt_tree.proofs.PathBits.{some-same, position-get}
use Rattle.gt_tree.proofs.PathParts.{NumbersIn, Has-numbers, All-at}
use Rattle.gt_tree.proofs.PathBegins.{begun, beginning-self, same-number}

-- ---- the active member

tag-may : (value : Option ℤ) (active : Active) → is_tag value active ≡ true → IsTrue (may_be_active active)
tag-may value (Tag tag) e = refl
tag-may value Other e = refl
tag-may None active e = absurd (cc)
tag-may (Some v) Always e = absurd (cc)
tag-may (Some v) Never e = absurd (cc)

default-may : (active : Active) → is_default active ≡ true → IsTrue (may_be_active active)
default-may Always e = absurd (cc)
default-may (Tag tag) e = refl
default-may Other e = refl
default-may Never e = absurd (cc)

one-of-both : (a b : Option ℕ) (place : ℕ) → first_place a b ≡ Some place → (a ≡ Some place) ⊎ (b ≡ Some place)
one-of-both None b place e = inr e
one-of-both (Some i) b place e = inl e

passing : (p : Field → Bool) (fields : List Field) (place : ℕ) (g : Field) → position_from p 0 fields ≡ Some place → slice_get fields place ≡ Some g → p g ≡ true
passing p fields place g e got =
    let found = position-get p fields 0 place e in
    let there : place ≡ found.0 = omega (arith, found.2) in
    let same : found.1 ≡ g = some-same (slice_get fields place) found.1 g (subst (λ i. slice_get fields i ≡ Some found.1) (sym there) found.3) got in
    subst (λ f. p f ≡ true) same found.4

active-may : (value : Option ℤ) (fields : List Field) (place : ℕ) (g : Field) → active_member value fields ≡ Some place → slice_get fields place ≡ Some g → IsTrue (may_be_active g.active)
active-may value fields place g e got = go (one-of-both (position_from (λ f. is_tag value f.active) 0 fields) (position_from (λ f. is_default f.active) 0 fields) place e)
  where
    go : (position_from (λ f. is_tag value f.active) 0 fields ≡ Some place) ⊎ (position_from (λ f. is_default f.active) 0 fields ≡ Some place) → IsTrue (may_be_active g.active)
    go (inl tagged) = tag-may value g.active (passing (λ f. is_tag value f.active) fields place g tagged got)
    go (inr default) = default-may g.active (passing (λ f. is_default f.active) fields place g default got)

-- ---- the common structure

-- the common structure of a union's value, at the same bit
pub record CommonPart (program : Program) (planes : List Plane) (s : Structure) (common : TypeId) (value : Tree) (at : ℕ) (leaves : List Leaf) : Type 0 where
  pub part : Tree
  pub first : List Leaf
  pub member : (desc : Option Expr) → member_of program s (ty.Node common desc) value ≡ Some (typed (ty.Node common desc) part)
  pub fits : FitsWith program planes common part at first
  pub numbers : NumbersIn first leaves

taken : (program : Program) (s : Structure) (common : TypeId) (member : Option ℕ) (tree part : Tree) → beginning program common (type_there s common member) tree ≡ Some part
    → (desc : Option Expr) → member_of program s (ty.Node common desc) (Alt member tree) ≡ Some (typed (ty.Node common desc) part)
taken program s common member tree part e desc = ap (λ o. o then λ x. Some (typed (ty.Node common desc) x)) e

module _ {program : Program} {planes : List Plane} (settled : Settled program) (laid : AreLaidOut program planes) {blocks : Blocks} {capacity : ℕ} {scope : Scope}
    (node : TypeId) (desc : Option Expr) (s : Structure) (has : HasStructure program node s) where
  fits-active : (place : ℕ) (g : Field) (tree : Tree) → slice_get s.fields place ≡ Some g → Fits program blocks capacity scope (ty.Node node desc) (Alt (Some place) tree) → IsTrue (may_be_active g.active)
  fits-active place g tree got (Fits.member {s = other} h u active there fits) =
      let same : other ≡ s = some-same (slice_get program.structures node.0) other s h has in
      let value = desc_value program (inside scope node (Alt (Some place) tree)) desc in
      active-may value s.fields place g (subst (λ x. active_member value x.fields ≡ Some place) same active) got

  pub common-part : (common : TypeId) {at : ℕ} {value : Tree} {leaves : List Leaf} → IsCommon program s common → HasLeaves program planes at (ty.Node node desc) value leaves
      → Fits program blocks capacity scope (ty.Node node desc) value → CommonPart program planes s common value at leaves
  common-part common c (HasLeaves.null p) fits = absurd (cc)
  common-part common c (HasLeaves.to p) fits = absurd (cc)
  common-part common c (HasLeaves.struct {s = other} h u laid_at fields) fits = let same : other ≡ s = some-same (slice_get program.structures node.0) other s h has in let struct = subst (λ x. x.is_union ≡ false) same u in let union = c.union in absurd (cc)
  common-part common c (HasLeaves.member {at} {s = other} {place} {f} {tree} {leaves} h u got part) fits =
      let same : other ≡ s = some-same (slice_get program.structures node.0) other s h has in
      let get : slice_get s.fields place ≡ Some f = subst (λ x. slice_get x.fields place ≡ Some f) same got in
      let begins = All-at (λ g. IsTrue (may_be_active g.active) → BeginsWith program g.ty common) s.fields place f get c.begun (fits-active place f tree get fits) in
      let b = begun program planes laid begins blocks capacity (inside scope node (Alt (Some place) tree)) tree at leaves (fits-member node desc s place f tree has get fits) part in
      record {
        part = b.part;
        first = b.first;
        member = taken program s common (Some place) tree b.part (ap (λ o. beginning program common (type_of_field o) tree) get ∙ b.begins);
        fits = b.fits;
        numbers = b.numbers;
      }
  common-part common c (HasLeaves.common {at} {common = found} {s = other} {tree} {leaves} h u o part) fits =
      let same : other ≡ s = some-same (slice_get program.structures node.0) other s h has in
      let equal : found ≡ common = one-common program node s found common settled has (subst (λ x. IsCommon program x found) same o) c in
      record {
        part = tree;
        first = leaves;
        member = taken program s common None tree tree (beginning-self program common (ty.Node common None) tree (same-number common.0));
        fits = record {
          blocks = blocks;
          capacity = capacity;
          scope = inside scope node (Alt None tree);
          desc = None;
          fits = fits-common node common desc s tree settled has c fits;
          has = subst (λ n. HasLeaves program planes at (ty.Node n None) tree leaves) equal part;
        };
        numbers = Has-numbers leaves;
      }
  common-part common c (HasLeaves.nothing {s = other} h u none) fits = let same : s ≡ other = some-same (slice_get program.structures node.0) s other has h in absurd (none common (subst (λ x. IsCommon program x common) same c))
  common-part common c (HasLeaves.array e each) fits = let o = outs-Node node desc in absurd (cc)
  common-part common c (HasLeaves.tail e each) fits = let o = outs-Node node desc in absurd (cc)
