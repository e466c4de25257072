use Rattle.std.proofs.Common.{◌∙◌, None, Some, refl, subst, arith}
use Rattle.gt_mark.specs.Steps.{Holds, one_of, state_of}
use Rattle.gt_mark.specs.Wide.{Wide}
use Rattle.gt_mark.proofs.Links.{link_block, link_next}
use Rattle.gt_mark.proofs.Steps.{went_last, went_next, went_start}
use Rattle.gt_mark.proofs.marker.Marker.walk_links.Goals as goal

pub links-init : goal.links-init
links-init c =
    let r = c.requires.ready in
    let same = link_block c.args.tables.now c.args.space.now c.args.block c.args.links c.requires.links in
    record {
      ready = (r.0, r.1, subst (λ b. Holds r.0 r.1 (Some b) (state_of c.args.self.now)) same r.2);
      links = link_next c.args.tables.now c.args.space.now c.args.block c.args.links c.args.block.addr c.requires.links;
      same_reference = refl;
      goes = λ t begun h. went_start t begun (one_of c.args.links.walk c.args.block.addr) (state_of c.args.self.now) (subst (λ b. Holds t begun (Some b) (state_of c.args.self.now)) same h);
      wide = λ t begun h w. subst (λ b. Wide t (state_of c.args.self.now) (Some b)) same w;
    }

pub returns-then-addr-links-clause-goes : goal.returns-then-addr-links-clause-goes
returns-then-addr-links-clause-goes c = λ t begun h.
    went_last t begun (one_of c.args.links.walk c.links.addr) c.walk_outside.result (state_of c.args.self.now) (state_of c.links.self) (state_of c.walk_outside.new.self) (c.links.invariant.goes t begun h) (c.walk_outside.ensures.goes t begun)

pub returns-then-addr-links-clause-wide : goal.returns-then-addr-links-clause-wide
returns-then-addr-links-clause-wide c = λ t begun h w. c.walk_outside.ensures.wide t begun (c.links.invariant.goes t begun h).holds (c.links.invariant.wide t begun h w)

pub returns-in-None-clause-goes : goal.returns-in-None-clause-goes
returns-in-None-clause-goes c = λ t begun h.
    went_last t begun (one_of c.args.links.walk c.links.addr) None (state_of c.args.self.now) (state_of c.links.self) (state_of c.walk_link.new.self) (c.links.invariant.goes t begun h) (c.in-None.ensures.goes t begun)

pub returns-in-None-clause-wide : goal.returns-in-None-clause-wide
returns-in-None-clause-wide c = λ t begun h w. c.in-None.ensures.wide t begun (c.links.invariant.goes t begun h).holds (c.links.invariant.wide t begun h w)

pub links-smaller : goal.links-smaller
links-smaller c =
    let r = c.links.invariant.ready in
    let less = (c.in-Some.ensures.goes r.0 r.1 r.2).lessens.left in
    omega (arith, less)

pub links-preserved : goal.links-preserved
links-preserved c =
    let r = c.links.invariant.ready in
    record {
      ready = (r.0, r.1, (c.in-Some.ensures.goes r.0 r.1 r.2).holds);
      links = link_next c.args.tables.now c.args.space.now (one_of c.args.links.walk c.links.addr) c.args.links c.in-Some.next c.links.invariant.links;
      same_reference = c.in-Some.ensures.same_reference ∙ c.links.invariant.same_reference;
      goes = λ t begun h.
          went_next t begun (one_of c.args.links.walk c.links.addr) (one_of c.args.links.walk c.in-Some.next) (Some (one_of c.args.links.walk c.in-Some.next)) (state_of c.args.self.now) (state_of c.links.self) (state_of c.walk_link.new.self) (c.links.invariant.goes t begun h) (c.in-Some.ensures.goes t begun) refl;
      wide = λ t begun h w. c.in-Some.ensures.wide t begun (c.links.invariant.goes t begun h).holds (c.links.invariant.wide t begun h w);
    }
