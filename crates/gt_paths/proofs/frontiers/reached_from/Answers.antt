use Rattle.std.proofs.Common.{ℕ, ◌+◌, List, [], ◌∷◌, Some, take, sym, subst, ◌∙◌}
use Rattle.gt_paths.specs.OuterPaths.{AreReached}
use Rattle.gt_paths.proofs.Reaching.{reached_all, reached_more, reached_stops}
use Rattle.gt_paths.proofs.frontiers.reached_from.Goals as goal

pub returns-in_default : goal.returns-in_default
returns-in_default c = record {
  reached = reached_stops c.args.program.now c.args.starts.now c.args.name.now c.loop-start.start-index 0 c.loop-start-test.true c.in_default.ensures.next;
}

pub loop-start-preserved : goal.loop-start-preserved
loop-start-preserved c =
    subst (λ (keys : List ℕ). AreReached c.args.program.now (take (c.loop-start.start-index + 1) c.args.starts.now) (c.args.name.now ∷ []) (Some keys)) (sym c.in_ok-insert.ensures.keys)
    (reached_more c.args.program.now c.args.starts.now c.args.name.now c.loop-start.start-index 0 c.loop-start.reached.keys c.in-Some.next c.loop-start-test.true c.loop-start.invariant
    c.in-Some.ensures.next)

pub returns : goal.returns
returns c = record {
  reached = reached_all c.args.program.now c.args.starts.now c.args.name.now c.loop-start.start-index c.loop-start.reached.keys c.of.result c.loop-start-test.false
      (c.of.ensures.items ∙ c.in_ok-to_vec.ensures.items_if_clones_equal (λ x y e. e) ∙ c.as_slice.ensures.keys) c.loop-start.invariant;
}
