use Rattle.std.proofs.Common.{w64}
use Rattle.std.proofs.lemmas.Int.{to_z-of_z}
use Rattle.gt_unions.proofs.TableLemmas.{put-known, put-new}
use Rattle.gt_unions.proofs.tables.Tags.add_tag.Goals as goal

pub returns-in_ok-insert : goal.returns-in_ok-insert
returns-in_ok-insert c = record {
  added =
      put-new c.args.self.now c.self.inside.places.entries c.insert.new.self.entries c.args.tag _ c.args.place c.contains_key.result c.self.view_is (to_z-of_z w64 c.args.tag c.ranges.tag)
      c.contains_key.ensures c.if-not-contains_key.true c.in_ok-insert.ensures.entries;
}

pub returns-else-not-contains_key : goal.returns-else-not-contains_key
returns-else-not-contains_key c = record {
  added =
      put-known c.args.self.now c.self.inside.places.entries c.args.tag _ c.args.place c.contains_key.result c.self.view_is (to_z-of_z w64 c.args.tag c.ranges.tag)
      c.contains_key.ensures c.if-not-contains_key.false;
}
