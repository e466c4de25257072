use Rattle.std.proofs.Common.{Some, None}
use Rattle.gt_unions.proofs.TableLemmas.{table-there, common-same, common-there}
use Rattle.gt_unions.proofs.tables.Unions.common.Goals as goal

pub returns-in-Some : goal.returns-in-Some
returns-in-Some c = record {
  same = λ program s same has union.
      common-same program s c.in-Some.table.now (table-there program c.args.self.now c.args.union s (Some c.in-Some.table.now) same has c.in-Some.ensures.item) union;
  common = λ program s same settled has union.
      common-there program c.args.union s c.in-Some.table.now (table-there program c.args.self.now c.args.union s (Some c.in-Some.table.now) same has c.in-Some.ensures.item) settled has union;
}

pub returns-in-None : goal.returns-in-None
returns-in-None c = record {
  same = λ program s same has union. let never = table-there program c.args.self.now c.args.union s None same has c.in-None.ensures.item in cc;
  common = λ program s same settled has union. let never = table-there program c.args.self.now c.args.union s None same has c.in-None.ensures.item in cc;
}
