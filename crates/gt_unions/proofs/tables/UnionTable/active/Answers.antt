use Rattle.std.proofs.Common.{Some, None, w64, rules}
use Rattle.std.proofs.lemmas.Int.{to_z-of_z}
use Rattle.gt_unions.proofs.TableLemmas.{active-by}
use Rattle.gt_unions.proofs.tables.UnionTable.active.Goals as goal

pub returns-in-Some-get : goal.returns-in-Some-get
returns-in-Some-get c =
    active-by c.args.self.now.tags c.args.self.now.other c.args.value c.in-Some.value _ (Some c.in-Some-get.place) c.in-Some.is (to_z-of_z w64 c.in-Some.value (search rules)) (c.in-Some-get.ensures.place)

pub returns-in-None : goal.returns-in-None
returns-in-None c =
    active-by c.args.self.now.tags c.args.self.now.other c.args.value c.in-Some.value _ None c.in-Some.is (to_z-of_z w64 c.in-Some.value (search rules)) (c.in-None.ensures.place)
