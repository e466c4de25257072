use Rattle.std.proofs.Common.{Some, None}
use Rattle.gt_unions.proofs.TableLemmas.{table-there, place-there}
use Rattle.gt_unions.proofs.tables.Unions.common_place.Goals as goal

pub returns-in-Some : goal.returns-in-Some
returns-in-Some c program s same settled has union =
    place-there program c.args.union s c.in-Some.table.now (table-there program c.args.self.now c.args.union s (Some c.in-Some.table.now) same has c.in-Some.ensures.item) settled has union

pub returns-in-None : goal.returns-in-None
returns-in-None c program s same settled has union = let never = table-there program c.args.self.now c.args.union s None same has c.in-None.ensures.item in cc
