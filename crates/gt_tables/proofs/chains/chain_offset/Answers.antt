use Rattle.std.proofs.Common.{sym, subst}
use Rattle.gt_tables.specs.Chains.{LeadsByPlace}
use Rattle.gt_tables.proofs.ChainOffsets.{chain-leads}
use Rattle.gt_tables.proofs.chains.chain_offset.Goals as goal

-- the places of a chain lead to a pointer
pub offset_to-requires-clause-leads : goal.offset_to-requires-clause-leads
offset_to-requires-clause-leads c =
    subst (LeadsByPlace c.args.program.now c.args.node) (sym c.as_slice.ensures.items)
    (chain-leads c.args.program.now c.requires.settled c.args.node c.args.structure.now c.requires.there c.in_ok-chain.chain.now (sym c.in_ok-chain.ensures))
