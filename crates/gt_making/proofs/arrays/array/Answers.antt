use Rattle.gt_value.specs.Names.{kind_of}
use Rattle.gt_next.specs.Making.{NextArray}
use Rattle.gt_making.proofs.Asked.{leaves-so, as-array, not-negative, kind-may, kind-no-chars}
use Rattle.gt_making.proofs.Sizing.{plain-some}
use Rattle.gt_making.proofs.arrays.array.Goals as goal

pub returns-in_default-clause-next : goal.returns-in_default-clause-next
returns-in_default-clause-next c = λ told s stands. (s, NextArray.no_type c.in_default.ensures.kind, stands.holds)

pub returns-in_default-natural-clause-next : goal.returns-in_default-natural-clause-next
returns-in_default-natural-clause-next c = λ told s stands. (s, NextArray.negative c.in-Some.ensures.kind c.in_default-natural.ensures.natural, stands.holds)

pub are_tails-requires-clause-kind : goal.are_tails-requires-clause-kind
are_tails-requires-clause-kind c = kind-may c.in-Some.ensures.kind

pub returns-then-are_tails-clause-next : goal.returns-then-are_tails-clause-next
returns-then-are_tails-clause-next c = λ told s stands. (
  s,
  NextArray.tails c.in-Some.ensures.kind (not-negative c.args.n c.in-Some-natural.count c.in-Some-natural.ensures.natural) (c.are_tails.ensures.tails.0 c.if-are_tails.true),
  stands.holds,
)

pub bind_many-requires-clause-kind : goal.bind_many-requires-clause-kind
bind_many-requires-clause-kind c = kind-may c.in-Some.ensures.kind

pub bind_many-requires-clause-no_chars : goal.bind_many-requires-clause-no_chars
bind_many-requires-clause-no_chars c = kind-no-chars c.in-Some.ensures.kind

pub bind_many-requires-clause-some : goal.bind_many-requires-clause-some
bind_many-requires-clause-some c =
    let session = c.requires.session in
    plain-some c.args.s.now.schema.program c.args.s.now.schema.layouts session.2.holds.schema.settled session.2.holds.schema.laid (kind_of c.in-Some.kind) (kind-may c.in-Some.ensures.kind)
    (λ tails. let yes = c.are_tails.ensures.tails.1 tails in absurd (let both = c.if-are_tails.false in cc))

pub returns-clause-next : goal.returns-clause-next
returns-clause-next c =
    leaves-so _ _ c.args.s.now c.bind_many.new.s
    (as-array c.args.s.now.schema.program c.args.s.now.schema.layouts c.args.var.now c.args.ty.now (kind_of c.in-Some.kind) c.args.n c.in-Some-natural.count c.in-Some.ensures.kind c.in-Some-natural.ensures.natural
    (λ tails. let yes = c.are_tails.ensures.tails.1 tails in absurd (let both = c.if-are_tails.false in cc))) c.bind_many.result c.bind_many.ensures.many
