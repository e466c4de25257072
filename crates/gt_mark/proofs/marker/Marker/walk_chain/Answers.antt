use Rattle.std.proofs.Common.{None, Some, ◌∙◌, refl, arith}
use Rattle.gt_mark.specs.Steps.{state_of}
use Rattle.gt_mark.proofs.Steps.{went_end, went_next}
use Rattle.gt_mark.proofs.marker.Marker.walk_chain.Goals as goal

pub returns-in-None-clause-goes : goal.returns-in-None-clause-goes
returns-in-None-clause-goes c = λ t begun h.
    went_end t begun c.chain.block None (state_of c.args.self.now) (state_of c.chain.self) (state_of c.walk_alike.new.self) (c.chain.invariant.goes t begun h) (c.in-None.ensures.goes t begun) refl

pub chain-smaller : goal.chain-smaller
chain-smaller c =
    let r = c.chain.invariant.ready in
    let less = (c.in-Some.ensures.goes r.0 r.1 r.2).lessens.left in
    omega (arith, less)

pub chain-preserved : goal.chain-preserved
chain-preserved c =
    let r = c.chain.invariant.ready in
    record {
      ready = (r.0, r.1, (c.in-Some.ensures.goes r.0 r.1 r.2).holds);
      same_reference = c.in-Some.ensures.same_reference ∙ c.chain.invariant.same_reference;
      goes = λ t begun h.
          went_next t begun c.chain.block c.in-Some.next (Some c.in-Some.next) (state_of c.args.self.now) (state_of c.chain.self) (state_of c.walk_alike.new.self) (c.chain.invariant.goes t begun h) (c.in-Some.ensures.goes t begun) refl;
      wide = λ t begun h w. c.in-Some.ensures.wide t begun (c.chain.invariant.goes t begun h).holds (c.chain.invariant.wide t begun h w);
    }

pub returns-in-None-clause-wide : goal.returns-in-None-clause-wide
returns-in-None-clause-wide c = λ t begun h w. c.in-None.ensures.wide t begun (c.chain.invariant.goes t begun h).holds (c.chain.invariant.wide t begun h w)
