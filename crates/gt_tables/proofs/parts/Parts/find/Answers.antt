use Rattle.std.proofs.Common.{◌≡◌, ℕ, Some, ap, sym, subst}
use Rattle.std.specs.BTreeMap.{get}
use Rattle.gt_tables.specs.declared.parts.Case.{Case}
use Rattle.gt_tables.specs.Building.{case_cmp, case_of}
use Rattle.gt_tables.proofs.Filing.{tried-more, free-here, filed-here}
use Rattle.gt_tables.proofs.parts.Parts.find.Goals as goal

pub returns-in-None : goal.returns-in-None
returns-in-None c =
    let case = λ (n : ℕ). let made : Case = record { print = n; turn = c.loop-turn.turn } in made in
    record {
      found =
          free-here c.args.self.now.walks.items c.args.self.now.cases c.args.rows.now (case c.print_of-print.result) c.loop-turn.turn (ap case c.print_of-print.ensures.print) c.requires.turns c.loop-turn.invariant
          (sym c.in-None.ensures.value);
    }

pub returns-then-is_at : goal.returns-then-is_at
returns-then-is_at c =
    let case = λ (n : ℕ). let made : Case = record { print = n; turn = c.loop-turn.turn } in made in
    record {
      found =
          filed-here c.args.self.now.walks.items c.args.self.now.cases c.args.rows.now (case c.print_of-print.result) c.loop-turn.turn c.in-Some.place.now (ap case c.print_of-print.ensures.print)
          (sym c.in-Some.ensures.value) (c.is_at.ensures.decides.0 c.if-is_at.true);
    }

pub loop-turn-preserved : goal.loop-turn-preserved
loop-turn-preserved c =
    let case = λ (n : ℕ). let made : Case = record { print = n; turn = c.loop-turn.turn } in made in
    let at : get case_cmp c.args.self.now.cases (case_of c.args.rows.now c.loop-turn.turn) ≡ Some c.in-Some.place.now =
    subst (λ x. get case_cmp c.args.self.now.cases x ≡ Some c.in-Some.place.now) (ap case c.print_of-print.ensures.print) (sym c.in-Some.ensures.value) in
    tried-more c.args.self.now.walks.items c.args.self.now.cases c.args.rows.now c.loop-turn.turn c.in-Some.place.now at
    (λ stands. let found = c.is_at.ensures.decides.1 stands in absurd (cc (found, c.if-is_at.false))) c.loop-turn.invariant
