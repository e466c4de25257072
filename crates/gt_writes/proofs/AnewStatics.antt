-- The static record that is written anew.
use Rattle.std.proofs.Common.{◌≡◌, ℕ, List, sym, subst, ◌∙◌}
use Rattle.gt_types.specs.declared.program.Program.{Program}
use Rattle.gt_layout.specs.declared.planes.Layouts.{Layouts}
use Rattle.gt_space.specs.Range.{Range}
use Rattle.gt_tree.specs.Trees.{Tree, Rec, Trees}
use Rattle.gt_tree.specs.Blocks.{Blocks}
use Rattle.gt_tree.specs.Fits.{StaticsFit}
use Rattle.gt_tree.specs.Reshapes.{AssignsStatics}
use Rattle.gt_tree.specs.FixedLaws.{AreAddresses}
use Rattle.gt_value.specs.declared.places.LeafContent.{LeafContent}
use Rattle.gt_value.specs.declared.places.Place.{Place}
use Rattle.gt_value.specs.Bytes.{itself, StandForStatics, StaticsFitSome}
use Rattle.gt_assign.specs.Results.{IsRecordAssigned, IsRecordMisfit}
use Rattle.gt_leaf.specs.Writing.{StaticsStandBeside, MayPutStatic}
use Rattle.gt_leaf.proofs.WritePlaces.{statics-stand}

-- ---- the same bytes beside the same blocks

pub roots_by : {program : Program} {layouts : Layouts} {blocks others : Blocks} {range other : Range} {values : Trees} → others ≡ blocks → other ≡ range → StaticsStandBeside program layouts blocks range values → StaticsStandBeside program layouts others other values
roots_by {program} {layouts} {blocks} {other} {values} same there s =
    subst (λ bs. StaticsStandBeside program layouts bs other values) (sym same) (subst (λ r. StaticsStandBeside program layouts blocks r values) (sym there) s)

pub roots_read : {program : Program} {layouts : Layouts} {blocks : Blocks} {range other : Range} {values : Trees} → other ≡ range → StaticsStandBeside program layouts blocks range values → StandForStatics program layouts other values
roots_read {program} {layouts} {values} there s = subst (λ r. StandForStatics program layouts r values) (sym there) (statics-stand s)

pub root_put_by : {program : Program} {layouts : Layouts} {blocks others : Blocks} {range other : Range} {values : Trees} {path : List ℕ} {leaf : LeafContent} {place : Place} → others ≡ blocks → other ≡ range
    → MayPutStatic program layouts others values path leaf other place → MayPutStatic program layouts blocks values path leaf range place
root_put_by {program} {layouts} {others} {range} {values} {path} {leaf} {place} same there p =
    subst (λ bs. MayPutStatic program layouts bs values path leaf range place) same (subst (λ r. MayPutStatic program layouts others values path leaf r place) there p)

-- ---- what the write makes

module _ (program : Program) (blocks others : Blocks) (same : blocks ≡ others) (old : Tree) (values : Trees) (is : old ≡ Rec values) where
  -- the values that were read fit
  pub record_fits : StaticsFit program others values → (parts : Trees) × (old ≡ Rec parts) × StaticsFit program blocks parts
  record_fits fit = (values, is, subst (λ bs. StaticsFit program bs values) (sym same) fit)

  pub record_assigned : (path : List ℕ) (leaf new : Tree) → (a : IsRecordAssigned program blocks old path leaf new) → AssignsStatics program others values path leaf a.news
  record_assigned path leaf new a =
      let rows : Rec a.olds ≡ Rec values = sym a.old_is ∙ is in
      let olds : a.olds ≡ values = cc in
      subst (λ bs. AssignsStatics program bs values path leaf a.news) same (subst (λ v. AssignsStatics program blocks v path leaf a.news) olds a.assigns)

  pub record_misfit : (path : List ℕ) (leaf : Tree) (news : Trees) → IsRecordMisfit program blocks old path leaf → AssignsStatics program others values path leaf news → ⊥
  record_misfit path leaf news misfit assigns = misfit values news is (subst (λ bs. AssignsStatics program bs values path leaf news) (sym same) assigns)

  pub some_record : (path : List ℕ) (leaf new : Tree) → AreAddresses others itself → IsRecordAssigned program blocks old path leaf new → (parts : Trees) × (new ≡ Rec parts) × StaticsFitSome program parts
  some_record path leaf new addresses a = (a.news, a.new_is, record { blocks = others; addresses = addresses; fit = (record_assigned path leaf new a).fits })
