use Rattle.std.proofs.Common.{◌≡◌, ◌∙◌, [], subst, sym, rules}
use Rattle.std.proofs.lemmas.Bool.{false≢true}
use Rattle.gt_space.specs.Range.{Range}
use Rattle.gt_graph.specs.Stands.{Stands}
use Rattle.gt_lines.specs.declared.lines.LinesEnd.TheVariants.{NoMemory}
use Rattle.gt_lines.proofs.ScriptLemmas.{empty-items, some-items, LeavesSpace-unanswered, LeavesSpace-stands, RunsScript-last}
use Rattle.gt_lines.proofs.scripts.run_script.Goals.{else-eq-via-then-eq+else-is_empty, else-eq-via-else-eq}
use Rattle.gt_lines.proofs.scripts.run_script.Goals as goal

pub returns-then-is_empty-clause-ran : goal.returns-then-is_empty-clause-ran
returns-then-is_empty-clause-ran g c state stands =
    let ran = c.run_lines-end.ensures.ran state stands in
    let answers = c.run_lines-end.new.answers in
    let end : c.run_lines-end.result ≡ NoMemory = search rules in
    let none : answers.items ≡ [] = empty-items answers.items c.is_empty.result c.is_empty.ensures.empty c.if-is_empty.true in
    RunsScript-last _ _ _ _ ran.0 _ _ _ _ _ _ c.run_lines-end.ensures.schema ran.1 ran.2.good (LeavesSpace-unanswered _ _ ran.0 _ _ _ end none)

pub returns-clause-ran : goal.returns-clause-ran
returns-clause-ran g c state stands =
    let ran = c.run_lines-end.ensures.ran state stands in
    let answers = c.run_lines-end.new.answers in
    let schema = c.run_lines-end.new.s.schema in
    let S : Range → Type 0 = λ range. Stands schema.program schema.layouts ran.0.heap range in
    RunsScript-last _ _ _ _ ran.0 _ _ _ _ _ _ c.run_lines-end.ensures.schema ran.1 ran.2.good
    (LeavesSpace-stands schema.program schema.layouts ran.0 c.run_lines-end.result answers.items _ _
    (λ end none. elim c.else-eq.branch [
      | else-eq-via-then-eq+else-is_empty w ↦ some-items answers.items w.is_empty.result w.is_empty.ensures.empty w.if-is_empty.false none
      | else-eq-via-else-eq w ↦ false≢true (sym w.if-eq.false ∙ rw end at c.eq.ensures)
    ])
    (subst S (sym c.into_space-bytes.ensures) ran.2.holds.heap.stands))
