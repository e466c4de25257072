use Rattle.std.proofs.Common.{◌∙◌, w64}
use Rattle.std.proofs.lemmas.Int.{to_z-of_z}
use Rattle.gt_unions.proofs.TableLemmas.{asked}
use Rattle.gt_unions.proofs.tables.Tags.get.Goals as goal

pub returns : goal.returns
returns c = record {
  place = c.copied.ensures ∙ asked c.args.self.now c.self.inside.places.entries c.args.tag _ _ c.self.view_is (to_z-of_z w64 c.args.tag c.ranges.tag) c.get.ensures.value;
}
