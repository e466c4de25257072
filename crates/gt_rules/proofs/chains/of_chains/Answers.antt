use Rattle.std.proofs.Common.{length, refl, arith}
use Rattle.std.proofs.lemmas.Option.{slice_get_read}
use Rattle.gt_rules.specs.Parts.{ChainFault}
use Rattle.gt_rules.proofs.FirstLemmas.{first_below_more, first_below_none, first_of_each}
use Rattle.gt_rules.proofs.chains.of_chains.Goals as goal

pub loop-option-init : goal.loop-option-init
loop-option-init c = first_below_none c.args.options.now (λ k o. ChainFault c.args.known.program.now c.args.structure c.args.file o) c.args.earliest

pub loop-option-preserved : goal.loop-option-preserved
loop-option-preserved c =
    let options = c.args.options.now in
    let i = c.loop-option.option-index in
    first_below_more options (λ k o. ChainFault c.args.known.program.now c.args.structure c.args.file o) i c.option-item.result c.args.earliest c.loop-option.earliest c.in_ok-earliest.earliest
    (slice_get_read options (length options) i c.option-item.result refl (omega arith) c.option-item.is) c.loop-option.invariant c.in_ok-earliest.ensures.first

pub returns : goal.returns
returns c = record {
  first =
      first_of_each c.args.options.now (λ k o. ChainFault c.args.known.program.now c.args.structure c.args.file o) c.loop-option.option-index c.args.earliest c.loop-option.earliest (omega arith)
      c.loop-option.invariant;
}
