use Rattle.std.proofs.Common.{◌≡◌, ◌+◌, Err, ap, refl, map, take}
use Rattle.std.proofs.lemmas.Result.{err_from_is_err_and}
use Rattle.gt_types.specs.declared.program.Root.{Root}
use Rattle.gt_layout.proofs.Laying.{read_at}
use Rattle.gt_value.specs.declared.values.ValueFail.TheVariants.{Shape}
use Rattle.gt_value.specs.Values.{tree_of, trees}
use Rattle.gt_value.proofs.TreesOf.{tree-rec}
use Rattle.gt_value.proofs.ZeroSteps.{noughts-none, noughts-push, map-more}
use Rattle.gt_value.proofs.ZeroValues.{root-fits, record-zero, record-part}
use Rattle.gt_value.proofs.zeros.zero_statics.Goals as goal

pub loop-root-init : goal.loop-root-init
loop-root-init c = noughts-none c.new-parts.result.items c.new-parts.ensures.items

pub zero_of-requires-clause-shallow : goal.zero_of-requires-clause-shallow
zero_of-requires-clause-shallow c =
    (root-fits c.args.program.now c.requires.settled c.as_slice-root-items.result.now c.loop-root.root-index c.root-item.result c.as_slice-root-items.ensures.items c.loop-root-test.true c.root-item.is).0

pub zero_of-requires-clause-flat : goal.zero_of-requires-clause-flat
zero_of-requires-clause-flat c =
    (root-fits c.args.program.now c.requires.settled c.as_slice-root-items.result.now c.loop-root.root-index c.root-item.result c.as_slice-root-items.ensures.items c.loop-root-test.true c.root-item.is).1

pub returns-in_err-part-clause-shape : goal.returns-in_err-part-clause-shape
returns-in_err-part-clause-shape c fail blocks values z =
    let p = err_from_is_err_and c.from_residual.result c.from_residual.ensures.1 in
    let q = p.2 in
    let is : c.in_err-part.field-0.0 ≡ Shape = cc in
    let got = read_at c.as_slice-root-items.result.now c.as_slice-root-items.result.now c.loop-root.root-index c.root-item.result refl c.loop-root-test.true c.root-item.is in
    let found = record-part c.args.program.now c.requires.settled c.as_slice-root-items.result.now c.loop-root.root-index c.root-item.result c.as_slice-root-items.ensures.items got blocks values z in
    c.in_err-part.ensures.shape (ap Err is) found.0 found.1

pub loop-root-preserved : goal.loop-root-preserved
loop-root-preserved c =
    noughts-push (map (λ (r : Root). r.ty) (take c.loop-root.root-index c.as_slice-root-items.result.now)) (map (λ (r : Root). r.ty) (take (c.loop-root.root-index + 1) c.as_slice-root-items.result.now))
    c.root-item.result.ty c.loop-root.parts.items c.push.new.self.items c.in_ok-part.part c.loop-root.invariant c.in_ok-part.ensures.zero c.in_ok-push.ensures.items
    (map-more (λ (r : Root). r.ty) c.as_slice-root-items.result.now c.loop-root.root-index c.root-item.result c.loop-root-test.true c.root-item.is)

pub returns-clause-zero : goal.returns-clause-zero
returns-clause-zero c = (
  trees (map tree_of c.loop-root.parts.items),
  tree-rec c.loop-root.parts,
  record-zero c.args.program.now c.requires.settled c.as_slice-root-items.result.now c.loop-root.root-index (trees (map tree_of c.loop-root.parts.items)) c.as_slice-root-items.ensures.items c.loop-root-test.false
      c.loop-root.invariant,
)
