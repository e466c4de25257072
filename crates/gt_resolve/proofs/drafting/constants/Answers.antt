use Rattle.std.proofs.Common.{◌∙◌, ◌++◌, ◌∷◌, [], ℤ, SFits, ap, refl, rules, w64}
use Rattle.std.proofs.Math.Facts.{to_z-of_z}
use Rattle.gt_resolve.proofs.DraftLemmas.{drafted_more, drafted_all}
use Rattle.gt_resolve.proofs.drafting.constants.Goals as goal

pub loop-entry-preserved : goal.loop-entry-preserved
loop-entry-preserved c =
    let fits : SFits w64 c.entry-item.result.value = search rules in
    drafted_more c.constants-entry-items.result.now c.loop-entry.entry-index c.entry-item.result c.loop-entry.made.items c.push.new.self.items
    (record { name = c.in_ok-name.name; value = c.entry-item.result.value }) c.loop-entry-test.true c.entry-item.is c.loop-entry.invariant
    c.in_ok-name.ensures.same refl
    (c.in_ok-push.ensures.items
    ∙ ap (λ (v : ℤ). c.loop-entry.made.items ++ record { name = c.in_ok-name.name; value = v } ∷ []) (to_z-of_z {w = w64} {z = c.entry-item.result.value} fits))

pub returns : goal.returns
returns c =
    record {
      constants =
          c.of.ensures.items
          ∙ drafted_all c.constants-entry-items.result.now c.args.scope.now.declarations.items c.loop-entry.entry-index c.loop-entry.made.items
          c.loop-entry-test.false c.loop-entry.invariant c.constants-entry-items.ensures.constants;
    }
