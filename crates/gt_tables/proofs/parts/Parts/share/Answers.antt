use Rattle.std.proofs.Common.{◌≡◌, ◌∙◌, ◌-◌, Some, cond, ap, subst, arith}
use Rattle.std.specs.BTreeMap.{get, is_at}
use Rattle.gt_tables.specs.declared.parts.Case.{Case}
use Rattle.gt_tables.specs.Building.{case_cmp, IsFound}
use Rattle.gt_tables.proofs.Filing.{shares-old, shares-new}
use Rattle.gt_tables.proofs.parts.Parts.share.Goals as goal

-- the walk that stands already
pub returns-in-Some-clause-shares : goal.returns-in-Some-clause-shares
returns-in-Some-clause-shares c =
    let walks = c.args.self.now.walks.items in
    let cases = c.args.self.now.cases in
    let rows = c.args.rows.items in
    let found = subst (IsFound walks cases rows) c.in-There.is (subst (λ rs. IsFound walks cases rs c.in_ok-found.found) c.deref.ensures.value c.in_ok-found.ensures.found) in
    shares-old c.args.first rows walks cases c.in-There.place c.in-Some.walk c.requires.turns found c.in-Some.ensures

-- a new one
pub returns-clause-shares : goal.returns-clause-shares
returns-clause-shares c =
    let walks = c.args.self.now.walks.items in
    let cases = c.args.self.now.cases in
    let rows = c.args.rows.items in
    let made = c.in_ok-walk-in-Missing.walk in
    let free = subst (IsFound walks cases rows) c.in-Missing.is (subst (λ rs. IsFound walks cases rs c.in_ok-found.found) c.deref.ensures.value c.in_ok-found.ensures.found) in
    let updates : (q : Case) → get case_cmp c.insert.new.self q ≡ cond (is_at (case_cmp c.in-Missing.case) q) (Some (made - c.args.first)) (get case_cmp cases q) =
    λ q. c.in_ok-insert-in-Missing.ensures.updates.0 q ∙ ap (λ m. cond (is_at (case_cmp c.in-Missing.case) q) (Some (made - c.args.first)) (get case_cmp m q)) c.add.ensures.cases in
    shares-new c.args.first rows walks c.add.new.self.walks.items cases c.insert.new.self c.in-Missing.case (made - c.args.first) made c.requires.turns free c.in_ok-walk-in-Missing.ensures.walks updates
    c.in_ok-walk-in-Missing.ensures.number (omega (arith, c.in_ok-walk-in-Missing.ensures.number))
