use Rattle.std.proofs.Common.{◌∙◌, sym, subst, arith, pos}
use Rattle.std.specs.Prelude.{option_map}
use Rattle.gt_tree.specs.Blocks.{Nodes}
use Rattle.gt_value.specs.declared.names.BlockKind.TheVariants as told
use Rattle.gt_next.specs.Making.{HasCapacity, IsMisshapen, IsTooLarge, wanted}
use Rattle.gt_making.specs.Binding.{MakesSingle}
use Rattle.gt_making.proofs.Sizing.{too-large, not-too-large}
use Rattle.gt_making.proofs.Asked.{leaves-so}
use Rattle.gt_making.proofs.Single.{has-room, no-room, misshapen, well-shaped, far}
use Rattle.gt_objects.proofs.Listed.{greatest-size}
use Rattle.gt_making.proofs.singles.bind_single.Goals as goal

pub returns-then-room-clause-single : goal.returns-then-room-clause-single
returns-then-room-clause-single c = λ given s stands. (
  s,
  MakesSingle.too_large
      (subst (HasCapacity c.args.s.now.schema.program c.args.node (option_map pos c.args.number)) (sym c.room_of-room.ensures) (has-room c.args.s.now.schema.program c.args.node c.is_tail-tail.result c.args.number c.is_tail-tail.ensures.tail))
      (subst (λ k. IsTooLarge c.args.s.now.schema.program c.args.s.now.schema.layouts (wanted (Nodes c.args.node) 1 k)) (sym c.room_of-room.ensures)
      (far c.args.s.now.schema.program c.args.node c.args.s.now.schema.layouts stands.holds.schema.settled stands.holds.schema.laid c.requires.node c.is_tail-tail.result c.args.number c.is_tail-tail.ensures.tail
      (let large = c.if-room.true in let same = c.room_of-room.ensures in omega (arith, large, same)))),
  stands.holds,
)

pub returns-in_default-clause-single : goal.returns-in_default-clause-single
returns-in_default-clause-single c = λ given s stands. (
  s,
  MakesSingle.too_large
      (subst (HasCapacity c.args.s.now.schema.program c.args.node (option_map pos c.args.number)) (sym c.room_of-room.ensures) (has-room c.args.s.now.schema.program c.args.node c.is_tail-tail.result c.args.number c.is_tail-tail.ensures.tail))
      (too-large c.args.s.now.schema.program c.args.s.now.schema.layouts (record { kind = told.Nodes c.args.node; count = 1; capacity = c.room_of-room.result }) greatest-size c.in_default.ensures.size),
  stands.holds,
)

pub returns-then-not-is_shaped-clause-single : goal.returns-then-not-is_shaped-clause-single
returns-then-not-is_shaped-clause-single c = λ given s stands. (
  s,
  MakesSingle.shape
      (subst (HasCapacity c.args.s.now.schema.program c.args.node (option_map pos c.args.number)) (sym c.room_of-room.ensures) (has-room c.args.s.now.schema.program c.args.node c.is_tail-tail.result c.args.number c.is_tail-tail.ensures.tail))
      (not-too-large c.args.s.now.schema.program c.args.s.now.schema.layouts stands.holds.schema.settled stands.holds.schema.laid (record { kind = told.Nodes c.args.node; count = 1; capacity = c.room_of-room.result }) c.in-Some.field-0
      c.requires.node greatest-size c.in-Some.ensures.size)
      (misshapen c.args.s.now.schema.program c.args.node s (wanted (Nodes c.args.node) 1 c.room_of-room.result) c.is_tail-tail.result c.args.number c.is_tail-tail.ensures.tail (sym c.is_shaped.ensures ∙ c.if-not-is_shaped.true)),
  stands.holds,
)

pub returns-then-not-branch-clause-single : goal.returns-then-not-branch-clause-single
returns-then-not-branch-clause-single c = λ given s stands. (
  s,
  MakesSingle.shape
      (subst (HasCapacity c.args.s.now.schema.program c.args.node (option_map pos c.args.number)) (sym c.room_of-room.ensures) (has-room c.args.s.now.schema.program c.args.node c.is_tail-tail.result c.args.number c.is_tail-tail.ensures.tail))
      (not-too-large c.args.s.now.schema.program c.args.s.now.schema.layouts stands.holds.schema.settled stands.holds.schema.laid (record { kind = told.Nodes c.args.node; count = 1; capacity = c.room_of-room.result }) c.in-Some.field-0
      c.requires.node greatest-size c.in-Some.ensures.size)
      (IsMisshapen.no_zero (λ value zero. let yes = (c.in_ok-has_zero.ensures.zero s.heap.graph).1 (value, zero) in absurd (let both = c.if-not-branch.true in cc))),
  stands.holds,
)

pub bind_zeros-requires-clause-no_room : goal.bind_zeros-requires-clause-no_room
bind_zeros-requires-clause-no_room c = λ plain. c.room_of-room.ensures ∙ no-room c.args.s.now.schema.program c.args.node c.is_tail-tail.result c.args.number c.is_tail-tail.ensures.tail plain

pub bind_zeros-requires-clause-zero : goal.bind_zeros-requires-clause-zero
bind_zeros-requires-clause-zero c = λ given s stands. (c.in_ok-has_zero.ensures.zero s.heap.graph).0 c.if-not-branch.false

pub bind_zeros-requires-clause-size : goal.bind_zeros-requires-clause-size
bind_zeros-requires-clause-size c = λ large.
    let session = c.requires.session in
    not-too-large c.args.s.now.schema.program c.args.s.now.schema.layouts session.2.holds.schema.settled session.2.holds.schema.laid (record { kind = told.Nodes c.args.node; count = 1; capacity = c.room_of-room.result }) c.in-Some.field-0
    c.requires.node greatest-size c.in-Some.ensures.size
    (too-large c.args.s.now.schema.program c.args.s.now.schema.layouts (record { kind = told.Nodes c.args.node; count = 1; capacity = c.room_of-room.result }) greatest-size large)

pub returns-clause-single : goal.returns-clause-single
returns-clause-single c =
    let session = c.requires.session in
    leaves-so _ _ c.args.s.now c.bind_zeros.new.s
    (λ s t answer binds.
    let zero = (c.in_ok-has_zero.ensures.zero s.heap.graph).0 c.if-not-branch.false in
    MakesSingle.binds
    (subst (HasCapacity c.args.s.now.schema.program c.args.node (option_map pos c.args.number)) (sym c.room_of-room.ensures) (has-room c.args.s.now.schema.program c.args.node c.is_tail-tail.result c.args.number c.is_tail-tail.ensures.tail))
    (not-too-large c.args.s.now.schema.program c.args.s.now.schema.layouts session.2.holds.schema.settled session.2.holds.schema.laid (record { kind = told.Nodes c.args.node; count = 1; capacity = c.room_of-room.result }) c.in-Some.field-0
    c.requires.node greatest-size c.in-Some.ensures.size)
    (well-shaped c.args.s.now.schema.program c.args.node s (wanted (Nodes c.args.node) 1 c.room_of-room.result) c.is_tail-tail.result c.args.number c.is_tail-tail.ensures.tail (sym c.is_shaped.ensures ∙ c.if-not-is_shaped.false) zero.0 zero.1)
    binds) c.bind_zeros.result c.bind_zeros.ensures.binds
