use Rattle.std.proofs.Common.{IsSome, sym, subst}
use Rattle.gt_next.specs.States.{meaning}
use Rattle.gt_next.specs.Making.{zeros}
use Rattle.gt_making.specs.Binding.{wanted_of}
use Rattle.gt_making.proofs.BoundNames.{bound-there}
use Rattle.gt_making.proofs.Binds.{IsEnd, ended, makes-zeros, too-many, zero-object, zero_of}
use Rattle.gt_making.proofs.binding.bind_zeros.Goals as goal

pub returns-then-is_full-clause-binds : goal.returns-then-is_full-clause-binds
returns-then-is_full-clause-binds c = too-many c.args.s.now c.args.var.now _ _ (c.is_full.ensures.full.0 c.if-is_full.true)

pub make-made-requires-clause-ready : goal.make-made-requires-clause-ready
make-made-requires-clause-ready c =
    let session = c.requires.session in
    let zero = c.requires.zero session.0 session.1 session.2 in (
      session.1.heap,
      zero_of c.args.known zero.0,
      session.2.holds.heap,
      zero-object c.args.s.now.schema.program session.1.heap.graph c.args.known c.requires.kind c.requires.single c.requires.no_room zero,
    )

pub conclude-requires-clause-bound : goal.conclude-requires-clause-bound
conclude-requires-clause-bound c = subst (λ v. IsSome (meaning v c.args.var.now)) (sym c.in_ok-bind.ensures.bound) (bound-there c.args.s.now.vars c.args.var.now 0)

ends : (c : goal.After-conclude)
    → IsEnd c.args.s.now c.args.var.now (wanted_of c.args.known) (λ state. zeros c.args.s.now.schema.program state (wanted_of c.args.known)) c.conclude.new.s c.conclude.result
ends c =
    ended c.args.s.now c.args.var.now _ _ (λ full. let yes = c.is_full.ensures.full.1 full in absurd (let both = c.if-is_full.false in cc)) c.make-made.new.self c.bind.new.self c.in_ok-bind.ensures.bound
    c.get-before.result c.get-before.ensures.meaning
    (makes-zeros c.args.s.now c.make-made.new.self c.make-made.result c.args.known c.requires.kind c.requires.single c.requires.no_room c.requires.zero c.make-made.ensures.made c.make-made.ensures.size
    c.make-made.ensures.full c.make-made.ensures.unchanged c.make-made.ensures.bytes) c.conclude.ensures.ends

pub returns-clause-binds : goal.returns-clause-binds
returns-clause-binds c = (ends c).binds

pub returns-clause-refused : goal.returns-clause-refused
returns-clause-refused c = (ends c).refused

pub returns-clause-unchanged : goal.returns-clause-unchanged
returns-clause-unchanged c = (ends c).unchanged

pub returns-clause-space : goal.returns-clause-space
returns-clause-space c = (ends c).space

pub returns-clause-schema : goal.returns-clause-schema
returns-clause-schema c = (ends c).schema
