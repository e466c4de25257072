use Rattle.std.proofs.Common.{arith}
use Rattle.gt_value.specs.Names.{kind_of}
use Rattle.gt_making.specs.Binding.{MakesMany}
use Rattle.gt_making.proofs.Sizing.{too-large, not-too-large, many-too-large}
use Rattle.gt_making.proofs.Asked.{leaves-so}
use Rattle.gt_objects.proofs.Listed.{greatest-size}
use Rattle.gt_making.proofs.binding.bind_many.Goals as goal

pub returns-then-count-clause-many : goal.returns-then-count-clause-many
returns-then-count-clause-many c = λ told s stands. (
  s,
  MakesMany.too_large
      (many-too-large c.args.s.now.schema.program c.args.s.now.schema.layouts (kind_of c.args.kind) c.args.count c.element_size.result (let large = c.if-count.true in omega (arith, large))
      (c.requires.some c.element_size.result c.element_size.ensures) c.element_size.ensures),
  stands.holds,
)

pub returns-in-None-clause-many : goal.returns-in-None-clause-many
returns-in-None-clause-many c = λ told s stands. (
  s,
  MakesMany.too_large (too-large c.args.s.now.schema.program c.args.s.now.schema.layouts (record { kind = c.args.kind; count = c.args.count; capacity = 0 }) greatest-size c.in-None.ensures.size),
  stands.holds,
)

pub bind_zeros-requires-clause-size : goal.bind_zeros-requires-clause-size
bind_zeros-requires-clause-size c = λ large.
    let session = c.requires.session in
    not-too-large c.args.s.now.schema.program c.args.s.now.schema.layouts session.2.holds.schema.settled session.2.holds.schema.laid (record { kind = c.args.kind; count = c.args.count; capacity = 0 }) c.in-Some.field-0
    c.requires.kind greatest-size c.in-Some.ensures.size
    (too-large c.args.s.now.schema.program c.args.s.now.schema.layouts (record { kind = c.args.kind; count = c.args.count; capacity = 0 }) greatest-size large)

pub returns-in-Some-clause-many : goal.returns-in-Some-clause-many
returns-in-Some-clause-many c =
    let session = c.requires.session in
    leaves-so _ _ c.args.s.now c.bind_zeros.new.s
    (λ s t answer binds. MakesMany.binds
    (not-too-large c.args.s.now.schema.program c.args.s.now.schema.layouts session.2.holds.schema.settled session.2.holds.schema.laid (record { kind = c.args.kind; count = c.args.count; capacity = 0 }) c.in-Some.field-0
    c.requires.kind greatest-size c.in-Some.ensures.size) binds) c.bind_zeros.result c.bind_zeros.ensures.binds
