use Rattle.std.proofs.lemmas.Bool.Decides.{not_from_Decides}
use Rattle.gt_caching.proofs.Variables.{unbound-member, is-member, other-member, unknown-member}
use Rattle.gt_caching.proofs.members.member.Goals as goal

pub returns-in_default-clause-refused : goal.returns-in_default-clause-refused
returns-in_default-clause-refused c told s st = unbound-member c.args.s.now told s st c.args.name.now c.args.ty c.in_default.ensures.meaning

pub returns-in-Some-known-clause-member : goal.returns-in-Some-known-clause-member
returns-in-Some-known-clause-member c told s st =
    is-member c.args.s.now told s st c.args.name.now c.args.ty c.in-Some.addr c.in-Some-known.known c.in-Some.ensures.meaning
    (c.in-Some-known.ensures.known c.args.s.now.schema.program c.args.s.now.schema.layouts s.heap st.holds.heap) (c.is_single.ensures.single.0 c.if-is_single.true)

pub returns-in_default-known-clause-refused : goal.returns-in_default-known-clause-refused
returns-in_default-known-clause-refused c told s st =
    other-member c.args.s.now told s st c.args.name.now c.args.ty c.in-Some.addr c.in-Some-known.known c.in-Some.ensures.meaning
    (c.in-Some-known.ensures.known c.args.s.now.schema.program c.args.s.now.schema.layouts s.heap st.holds.heap) (not_from_Decides c.is_single.result c.is_single.ensures.single c.if-is_single.false)

pub returns-in_default-known-2-clause-refused : goal.returns-in_default-known-2-clause-refused
returns-in_default-known-2-clause-refused c told s st =
    unknown-member c.args.s.now told s st c.args.name.now c.args.ty c.in-Some.addr c.in-Some.ensures.meaning
    (c.in_default-known.ensures.known c.args.s.now.schema.program c.args.s.now.schema.layouts s.heap st.holds.heap)
