use Rattle.std.proofs.Common.{IsSome, suc, length, sym, subst, arith}
use Rattle.gt_tree.specs.Blocks.{Chars}
use Rattle.gt_objects.specs.Making.{known_text}
use Rattle.gt_next.specs.States.{meaning}
use Rattle.gt_next.specs.Making.{NextText, text, wanted}
use Rattle.gt_making.proofs.Asked.{leaves-so}
use Rattle.gt_making.proofs.BoundNames.{bound-there}
use Rattle.gt_making.proofs.Binds.{IsEnd, ended, makes-text, too-many}
use Rattle.gt_making.proofs.Sizing.{text-large, text-small, too-large}
use Rattle.gt_objects.proofs.Listed.{greatest-size}
use Rattle.gt_making.proofs.strings.string.Goals as goal

pub returns-then-text-clause-next : goal.returns-then-text-clause-next
returns-then-text-clause-next c = λ told s stands. (
  s,
  NextText.too_large (text-large c.args.s.now.schema.program c.args.s.now.schema.layouts (length c.args.text.now) (let large = c.if-text.true in omega (arith, large))),
  stands.holds,
)

pub returns-then-is_full-clause-next : goal.returns-then-is_full-clause-next
returns-then-is_full-clause-next c = λ told s stands.
    let t = too-many c.args.s.now c.args.var.now (wanted Chars (suc (length c.args.text.now)) 0) (λ state. text c.args.text.now) (c.is_full.ensures.full.0 c.if-is_full.true) told s stands in
    (t.0, NextText.binds (text-small c.args.s.now.schema.program c.args.s.now.schema.layouts (length c.args.text.now) (let small = c.if-text.false in omega (arith, small))) t.1, t.2)

pub conclude-requires-clause-bound : goal.conclude-requires-clause-bound
conclude-requires-clause-bound c = subst (λ v. IsSome (meaning v c.args.var.now)) (sym c.in_ok-bind.ensures.bound) (bound-there c.args.s.now.vars c.args.var.now 0)

pub conclude-requires-clause-possible : goal.conclude-requires-clause-possible
conclude-requires-clause-possible c = λ e.
    text-small c.args.s.now.schema.program c.args.s.now.schema.layouts (length c.args.text.now) (let small = c.if-text.false in omega (arith, small))
    (too-large c.args.s.now.schema.program c.args.s.now.schema.layouts (known_text c.args.text.now) greatest-size
    (c.make_text-made.ensures.too_large e c.args.s.now.schema.program c.args.s.now.schema.layouts))

ends : (c : goal.After-conclude) → IsEnd c.args.s.now c.args.var.now (wanted Chars (suc (length c.args.text.now)) 0) (λ state. text c.args.text.now) c.conclude.new.s c.conclude.result
ends c =
    ended c.args.s.now c.args.var.now _ _ (λ full. let yes = c.is_full.ensures.full.1 full in absurd (let both = c.if-is_full.false in cc)) c.make_text-made.new.self c.bind.new.self c.in_ok-bind.ensures.bound
    c.get-before.result c.get-before.ensures.meaning
    (makes-text c.args.s.now c.make_text-made.new.self c.make_text-made.result c.args.text.now c.make_text-made.ensures.made c.make_text-made.ensures.size c.make_text-made.ensures.full
    c.make_text-made.ensures.unchanged c.make_text-made.ensures.bytes) c.conclude.ensures.ends

pub returns-clause-next : goal.returns-clause-next
returns-clause-next c =
    leaves-so _ _ c.args.s.now c.conclude.new.s
    (λ s t answer binds. NextText.binds (text-small c.args.s.now.schema.program c.args.s.now.schema.layouts (length c.args.text.now) (let small = c.if-text.false in omega (arith, small))) binds) c.conclude.result
    (ends c).binds

pub returns-clause-refused : goal.returns-clause-refused
returns-clause-refused c = (ends c).refused

pub returns-clause-unchanged : goal.returns-clause-unchanged
returns-clause-unchanged c = (ends c).unchanged

pub returns-clause-space : goal.returns-clause-space
returns-clause-space c = (ends c).space

pub returns-clause-schema : goal.returns-clause-schema
returns-clause-schema c = (ends c).schema
