use Rattle.std.proofs.Common.{◌∙◌, sym}
use Rattle.std.specs.Prelude.{not}
use Rattle.std.proofs.lemmas.Bool.Decides.{Decides-not}
use Rattle.gt_rules.proofs.PartLemmas.{no_chain, one_chain}
use Rattle.gt_rules.proofs.chains.of_chain.Goals as goal

pub returns : goal.returns
returns c = record {
  first =
      one_chain c.args.known.program.now c.args.structure c.args.file c.args.option.now (not c.in_ok-leads.leads) c.args.earliest c.with_fault.result (sym c.is_chain.ensures.chain ∙ c.if-not-is_chain.false) c.with_fault.ensures.same
      (Decides-not c.in_ok-leads.leads c.in_ok-leads.ensures.decides);
}

pub returns-then-not-is_chain : goal.returns-then-not-is_chain
returns-then-not-is_chain c = record {
  first = no_chain c.args.known.program.now c.args.structure c.args.file c.args.option.now c.args.earliest (sym c.is_chain.ensures.chain ∙ c.if-not-is_chain.true);
}
