use Rattle.std.specs.Bool.{Decides}
use Rattle.std.specs.Prelude.{◌⊎◌}
use Rattle.gt_tables.specs.Naming.{Names}
use Rattle.gt_tables.proofs.NamesIn.{told-base, names-path, two-true, two-false, front-true, front-false, cond-true, cond-false}
use Rattle.gt_tables.proofs.naming.+names.Goals.{then-names-2, else-names-2}
use Rattle.gt_tables.proofs.naming.+names.Goals as goal

-- a path names where it begins
pub returns-in-Path : goal.returns-in-Path
returns-in-Path t c = names-path c.args.base c.args.e.now c.in-Path.from c.in-Path.steps c.in-Path.is c.eq.result (told-base c.in-Path.from c.args.base c.eq.result c.eq.ensures)

-- another expression names what its parts name
pub returns-then-names : goal.returns-then-names
returns-then-names t c = two-true c.args.base c.args.e.now c.in-Two.op c.in-Two.a c.in-Two.b c.get-in-Two.result.now c.in-Two.is c.get-in-Two.ensures c.names-in-Two.result c.names-in-Two.ensures c.if-names.true

pub returns-else-names : goal.returns-else-names
returns-else-names t c =
    two-false c.args.base c.args.e.now c.in-Two.op c.in-Two.a c.in-Two.b c.get-in-Two.result.now c.in-Two.is c.get-in-Two.ensures c.names-in-Two.result c.names-in-Two.ensures c.if-names.false
    c.get-else-names.result.now c.get-else-names.ensures c.names-else-names.result c.names-else-names.ensures

pub returns-then-names-3 : goal.returns-then-names-3
returns-then-names-3 t c =
    let told : Decides c.if-names-2.value (Names c.args.base c.in-Cond.test ⊎ Names c.args.base c.in-Cond.yes) = elim c.if-names-2.branch [
      | then-names-2 w ↦
          front-true c.args.base c.args.e.now c.in-Cond.test c.in-Cond.yes c.get-in-Cond.result.now c.get-in-Cond.ensures c.names-in-Cond.result c.names-in-Cond.ensures w.if-names-2.true c.if-names-2.value w.value-is
      | else-names-2 w ↦
          front-false c.args.base c.args.e.now c.in-Cond.test c.in-Cond.yes c.get-in-Cond.result.now w.get-else-names-2.result.now c.get-in-Cond.ensures c.names-in-Cond.result c.names-in-Cond.ensures w.if-names-2.false
          w.get-else-names-2.ensures w.names-else-names-2.result w.names-else-names-2.ensures c.if-names-2.value w.value-is
    ] in
    cond-true c.args.base c.args.e.now c.in-Cond.test c.in-Cond.yes c.in-Cond.no c.in-Cond.is c.if-names-2.value told c.if-names-3.true

pub returns-else-names-3 : goal.returns-else-names-3
returns-else-names-3 t c =
    let told : Decides c.if-names-2.value (Names c.args.base c.in-Cond.test ⊎ Names c.args.base c.in-Cond.yes) = elim c.if-names-2.branch [
      | then-names-2 w ↦
          front-true c.args.base c.args.e.now c.in-Cond.test c.in-Cond.yes c.get-in-Cond.result.now c.get-in-Cond.ensures c.names-in-Cond.result c.names-in-Cond.ensures w.if-names-2.true c.if-names-2.value w.value-is
      | else-names-2 w ↦
          front-false c.args.base c.args.e.now c.in-Cond.test c.in-Cond.yes c.get-in-Cond.result.now w.get-else-names-2.result.now c.get-in-Cond.ensures c.names-in-Cond.result c.names-in-Cond.ensures w.if-names-2.false
          w.get-else-names-2.ensures w.names-else-names-2.result w.names-else-names-2.ensures c.if-names-2.value w.value-is
    ] in
    cond-false c.args.base c.args.e.now c.in-Cond.test c.in-Cond.yes c.in-Cond.no c.in-Cond.is c.if-names-2.value told c.if-names-3.false c.get-else-names-3.result.now c.get-else-names-3.ensures c.names-else-names-3.result
    c.names-else-names-3.ensures
