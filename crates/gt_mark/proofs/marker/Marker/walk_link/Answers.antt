use Rattle.std.proofs.Common.{◌∙◌}
use Rattle.gt_mark.specs.Steps.{one_of}
use Rattle.gt_mark.proofs.Blocks.{took_reference}
use Rattle.gt_mark.proofs.Following.{can_after, can_before, follow_starts, goes_following, took_rest, wide_following}
use Rattle.gt_mark.proofs.Links.{edges_after, edges_before}
use Rattle.gt_mark.proofs.marker.Marker.walk_link.Goals as goal

pub follow-next-requires-clause-starts : goal.follow-next-requires-clause-starts
follow-next-requires-clause-starts c =
    let r = c.requires.ready in
    follow_starts r.0 r.1 (one_of c.args.links.walk c.args.addr) c.args.links c.requires.links c.requires.inside c.args.self.now r.2

pub visit_element-requires-clause-can : goal.visit_element-requires-clause-can
visit_element-requires-clause-can c =
    let r = c.requires.ready in
    can_before r.0 r.1 (one_of c.args.links.walk c.args.addr) c.args.links c.requires.links c.requires.inside c.args.self.now r.2 c.follow-next.result c.follow-next.new.self c.follow-next.ensures.follows

pub visit_element-requires-2-clause-can : goal.visit_element-requires-2-clause-can
visit_element-requires-2-clause-can c =
    let r = c.requires.ready in
    can_after r.0 r.1 (one_of c.args.links.walk c.args.addr) c.args.links c.requires.links c.requires.inside c.args.self.now r.2 c.follow-next.result c.follow-next.new.self c.follow-next.ensures.follows c.visit_element.new.sink c.visit_element.ensures.took

pub returns-clause-same_reference : goal.returns-clause-same_reference
returns-clause-same_reference c =
    took_reference (edges_after c.args.tables.now c.args.space.now (one_of c.args.links.walk c.args.addr) c.args.links c.requires.links) c.visit_element.new.sink c.visit_element-2.new.sink c.visit_element-2.ensures.took
    ∙ took_reference (edges_before c.args.tables.now c.args.space.now (one_of c.args.links.walk c.args.addr) c.args.links c.requires.links) c.follow-next.new.self c.visit_element.new.sink c.visit_element.ensures.took
    ∙ c.follow-next.ensures.same_reference

pub returns-clause-goes : goal.returns-clause-goes
returns-clause-goes c = λ t begun h.
    goes_following t begun (one_of c.args.links.walk c.args.addr) c.args.links c.requires.links c.requires.inside c.args.self.now h c.follow-next.result c.follow-next.new.self c.follow-next.ensures.follows c.visit_element-2.new.sink
    (took_rest t begun (one_of c.args.links.walk c.args.addr) c.args.links c.requires.links c.requires.inside c.args.self.now h c.follow-next.result c.follow-next.new.self c.follow-next.ensures.follows c.visit_element.new.sink c.visit_element.ensures.took c.visit_element-2.new.sink c.visit_element-2.ensures.took)

pub returns-clause-wide : goal.returns-clause-wide
returns-clause-wide c = λ t begun h w.
    wide_following t begun (one_of c.args.links.walk c.args.addr) c.args.links c.requires.links c.requires.inside c.args.self.now h c.follow-next.result c.follow-next.new.self c.follow-next.ensures.follows c.visit_element-2.new.sink
    (took_rest t begun (one_of c.args.links.walk c.args.addr) c.args.links c.requires.links c.requires.inside c.args.self.now h c.follow-next.result c.follow-next.new.self c.follow-next.ensures.follows c.visit_element.new.sink c.visit_element.ensures.took c.visit_element-2.new.sink c.visit_element-2.ensures.took) w
