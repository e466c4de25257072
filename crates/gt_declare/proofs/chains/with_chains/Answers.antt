use Rattle.std.proofs.Common.{◌≡◌, ◌∙◌, List, IfOk, ap, subst}
use Rattle.gt_types.specs.declared.program.Chain.{Chain}
use Rattle.gt_types.specs.declared.program.Structure.{Structure}
use Rattle.gt_declare.specs.Chains.{chains_from, joined}
use Rattle.gt_declare.proofs.ChainLemmas.{joined_chains}
use Rattle.gt_declare.proofs.chains.with_chains.Goals as goal

pub returns : goal.returns
returns c =
    record {
      chained =
          subst (λ (all : List Structure). IfOk c.join_chains.result (λ made. made ≡ all)) (
          ap (λ (chains : List (List Chain)). joined chains c.args.structures) (
          c.in_ok-chains.ensures.chains ∙ ap (λ (structures : List Structure). chains_from structures 0 c.args.drafts.now) c.as_slice-2.ensures.items)
          ∙ joined_chains c.args.structures 0 c.args.drafts.now c.args.structures)
          c.join_chains.ensures.joined;
    }
