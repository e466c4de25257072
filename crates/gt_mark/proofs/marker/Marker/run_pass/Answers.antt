use Rattle.std.proofs.Common.{◌∙◌, ◌<◌, refl, subst, sym}
use Rattle.gt_mark.specs.Steps.{ahead, state_of}
use Rattle.gt_mark.proofs.Steps.{ahead_same, lessens_on}
use Rattle.gt_mark.proofs.marker.Marker.run_pass.Goals as goal

pub next_in_pass-requires : goal.next_in_pass-requires
next_in_pass-requires c =
    let r = c.blocks-2.invariant.ready in
    record { ready = (c.args.tables.now, c.args.space.now, r.0, r.1, r.2) }

pub walk_chain-requires : goal.walk_chain-requires
walk_chain-requires c =
    let r = c.blocks-2.invariant.ready in
    record { ready = (r.0, r.1, c.in-Some.ensures.goes c.args.tables.now c.args.space.now r.0 r.1 r.2) }

pub walk_stack-requires : goal.walk_stack-requires
walk_stack-requires c =
    let r = c.blocks-2.invariant.ready in
    record { ready = (r.0, r.1, (c.walk_chain.ensures.goes r.0 r.1 (c.in-Some.ensures.goes c.args.tables.now c.args.space.now r.0 r.1 r.2)).holds) }

pub returns-in-None-clause-goes : goal.returns-in-None-clause-goes
returns-in-None-clause-goes c = λ t begun h.
    let w = c.blocks-2.invariant.goes t begun h in
    record {
      holds = c.in-None.ensures.goes c.args.tables.now c.args.space.now t begun w.holds;
      lessens = lessens_on (state_of c.args.self.now) (state_of c.blocks-2.self) (state_of c.next_in_pass.new.self) 0 w.lessens c.in-None.ensures.lessens;
    }

pub blocks-2-smaller : goal.blocks-2-smaller
blocks-2-smaller c =
    let r = c.blocks-2.invariant.ready in
    let found = c.in-Some.ensures.goes c.args.tables.now c.args.space.now r.0 r.1 r.2 in
    let one = c.walk_chain.ensures.goes r.0 r.1 found in
    let two = c.walk_stack.ensures.goes r.0 r.1 one.holds in
    let same = ahead_same r.0 r.1 (state_of c.next_in_pass.new.self) (state_of c.walk_stack.new.self) _ _ found.good two.holds.good (two.stands ∙ one.stands) in
    subst (λ n. n < ahead (state_of c.blocks-2.self)) (sym same) (c.in-Some.ensures.less refl)

pub blocks-2-preserved : goal.blocks-2-preserved
blocks-2-preserved c =
    let r = c.blocks-2.invariant.ready in
    let one = c.walk_chain.ensures.goes r.0 r.1 (c.in-Some.ensures.goes c.args.tables.now c.args.space.now r.0 r.1 r.2) in
    record {
      ready = (r.0, r.1, (c.walk_stack.ensures.goes r.0 r.1 one.holds).holds);
      empty = c.walk_stack.ensures.empty;
      same_reference = c.walk_stack.ensures.same_reference ∙ c.walk_chain.ensures.same_reference ∙ c.next_in_pass.ensures.same_reference ∙ c.blocks-2.invariant.same_reference;
      goes = λ t begun h.
          let w = c.blocks-2.invariant.goes t begun h in
          let first = c.walk_chain.ensures.goes t begun (c.in-Some.ensures.goes c.args.tables.now c.args.space.now t begun w.holds) in
          let second = c.walk_stack.ensures.goes t begun first.holds in
          record {
            holds = second.holds;
            lessens = lessens_on (state_of c.args.self.now) (state_of c.walk_chain.new.self) (state_of c.walk_stack.new.self) 0
                (lessens_on (state_of c.args.self.now) (state_of c.next_in_pass.new.self) (state_of c.walk_chain.new.self) 0
                (lessens_on (state_of c.args.self.now) (state_of c.blocks-2.self) (state_of c.next_in_pass.new.self) 0 w.lessens c.in-Some.ensures.lessens) first.lessens) second.lessens;
          };
    }
