use Rattle.gt_tables.specs.Building.{WereTried}
use Rattle.gt_tables.proofs.parts.Parts.find.Given as goal

abbrev pub invariant-loop-turn : goal.invariant-loop-turn
invariant-loop-turn l = WereTried l.self.walks.items l.self.cases l.rows l.turn
