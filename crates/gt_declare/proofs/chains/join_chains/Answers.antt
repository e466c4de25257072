use Rattle.std.proofs.Common.{◌∙◌, sym, inl, inr}
use Rattle.gt_declare.proofs.ChainLemmas.{joined_all}
use Rattle.gt_declare.proofs.chains.join_chains.Goals as goal

pub returns : goal.returns
returns c =
    record {
      joined =
          c.of.ensures.items
          ∙ joined_all c.loop-structure.made.items c.loop-structure.structure-iterator.b.rest.items c.loop-structure.structure-iterator.a.rest.items _ (
          elim c.in-None.ensures.steps [
            | inl ends ↦ inl (sym c.loop-structure.structure-iterator.a.rest.ok.0 ∙ ends.1.0)
            | inr ends ↦ inr (sym c.loop-structure.structure-iterator.b.rest.ok.0 ∙ ends.1.0)
          ])
          c.loop-structure.invariant;
    }
