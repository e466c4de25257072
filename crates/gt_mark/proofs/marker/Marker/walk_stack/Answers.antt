use Rattle.std.proofs.Common.{◌∙◌, None, sym, subst}
use Rattle.gt_mark.specs.Steps.{Goes, state_of}
use Rattle.gt_mark.proofs.Steps.{good_popped, popped_less, went_popped}
use Rattle.gt_mark.specs.Wide.{Wide}
use Rattle.gt_mark.proofs.Widening.{wide_popped}
use Rattle.gt_mark.proofs.marker.Marker.walk_stack.Goals as goal

pub returns-in-None-clause-goes : goal.returns-in-None-clause-goes
returns-in-None-clause-goes c = λ t begun h.
    subst (λ x. Goes t begun None (state_of c.args.self.now) (record (state_of c.stack.self) { stack = x.items })) (sym c.in-None.ensures.empty) (c.stack.invariant.goes t begun h)

pub walk_chain-requires : goal.walk_chain-requires
walk_chain-requires c =
    let r = c.stack.invariant.ready in
    record { ready = (r.0, r.1, good_popped r.0 r.1 c.pop.new.self.items c.in-Some.block (state_of c.stack.self) c.in-Some.ensures.items r.2) }

pub stack-smaller : goal.stack-smaller
stack-smaller c =
    let r = c.stack.invariant.ready in
    let goes = c.walk_chain.ensures.goes r.0 r.1 (good_popped r.0 r.1 c.pop.new.self.items c.in-Some.block (state_of c.stack.self) c.in-Some.ensures.items r.2) in
    popped_less r.0 r.1 c.pop.new.self.items c.in-Some.block (state_of c.stack.self) (state_of c.walk_chain.new.self) c.in-Some.ensures.items goes.lessens

pub stack-preserved : goal.stack-preserved
stack-preserved c =
    let r = c.stack.invariant.ready in
    let goes = c.walk_chain.ensures.goes r.0 r.1 (good_popped r.0 r.1 c.pop.new.self.items c.in-Some.block (state_of c.stack.self) c.in-Some.ensures.items r.2) in
    record {
      ready = (r.0, r.1, goes.holds);
      same_reference = c.walk_chain.ensures.same_reference ∙ c.stack.invariant.same_reference;
      goes = λ t begun h.
          went_popped t begun c.pop.new.self.items c.in-Some.block (state_of c.args.self.now) (state_of c.stack.self) (state_of c.walk_chain.new.self) c.in-Some.ensures.items (c.stack.invariant.goes t begun h) (c.walk_chain.ensures.goes t begun);
      wide = λ t begun h w.
          c.walk_chain.ensures.wide t begun (good_popped t begun c.pop.new.self.items c.in-Some.block (state_of c.stack.self) c.in-Some.ensures.items (c.stack.invariant.goes t begun h).holds)
          (wide_popped t c.pop.new.self.items c.in-Some.block (state_of c.stack.self) c.in-Some.ensures.items (c.stack.invariant.wide t begun h w));
    }

pub returns-in-None-clause-wide : goal.returns-in-None-clause-wide
returns-in-None-clause-wide c = λ t begun h w.
    subst (λ x. Wide t (record (state_of c.stack.self) { stack = x.items }) None) (sym c.in-None.ensures.empty) (c.stack.invariant.wide t begun h w)
