use Rattle.gt_declare.specs.Programs.{chain_of}
use Rattle.gt_declare.proofs.ChainLemmas.{some_more}
use Rattle.gt_declare.proofs.chains.chains_of.Goals as goal

pub loop-option-preserved : goal.loop-option-preserved
loop-option-preserved c =
    some_more (chain_of c.args.structures.now c.args.from) c.args.options.now c.loop-option.chains c.in_ok-chains.chains c.in_ok-chain.chain c.loop-option.option-index
    c.option-item.result c.loop-option-test.true c.option-item.is c.loop-option.invariant c.in_ok-chain.ensures.chain c.in_ok-chains.ensures.added
