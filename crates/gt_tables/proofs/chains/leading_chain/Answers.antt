use Rattle.std.proofs.Common.{◌∙◌, Bool, rules, tests, ap}
use Rattle.std.specs.Prelude.{find}
use Rattle.std.proofs.lemmas.Iterator.{YieldsList-from_slice}
use Rattle.std.proofs.lemmas.Iterator.Search.{find_from_yields_List}
use Rattle.gt_types.specs.declared.program.Chain.{Chain}
use Rattle.gt_edges.specs.Notes.{leads_on}
use Rattle.gt_tables.proofs.chains.leading_chain.Goals as goal

abbrev on : Chain → Bool
on c = leads_on c.kind

-- the call finds the first chain that leads on
pub returns : goal.returns
returns c =
    find_from_yields_List on _ _ c.find.result c.find.ensures.ran (YieldsList-from_slice c.as_slice.result.now cc) (λ x b q k. search (rules, tests))
    ∙ ap (find on) c.as_slice.ensures.items
