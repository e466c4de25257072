use Rattle.std.proofs.Common.{Some, None, ◌∙◌}
use Rattle.gt_unions.proofs.TableLemmas.{table-there, active-found}
use Rattle.gt_unions.proofs.tables.Unions.active_member.Goals as goal

pub returns-in-Some : goal.returns-in-Some
returns-in-Some c = record {
  place = λ program s same has.
      c.active.ensures ∙ active-found program s c.in-Some.table.now c.args.value (table-there program c.args.self.now c.args.union s (Some c.in-Some.table.now) same has c.in-Some.ensures.item);
}

pub returns-in-None : goal.returns-in-None
returns-in-None c = record { place = λ program s same has. let never = table-there program c.args.self.now c.args.union s None same has c.in-None.ensures.item in cc }
