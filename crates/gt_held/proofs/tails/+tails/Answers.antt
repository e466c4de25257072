use Rattle.std.proofs.Common.{◌∙◌, refl, sym, ap, subst, arith}
use Rattle.std.specs.Prelude.{All, Any, is_some}
use Rattle.std.specs.Bool.{Decides}
use Rattle.std.proofs.lemmas.List.{take_all}
use Rattle.std.proofs.lemmas.List.Elements.{All-more, All-contains}
use Rattle.gt_types.specs.declared.program.Field.{Field}
use Rattle.gt_types.specs.Tails.{tail_of}
use Rattle.gt_layout.proofs.Laying.{read_at}
use Rattle.gt_layout.proofs.Capacities.{node_within, shallow_fields}
use Rattle.gt_held.specs.Tails.{IsTailMember, IsTailAt, AreKnownTails}
use Rattle.gt_held.proofs.TailLemmas.{struct-decides, union-decides, one-known}
use Rattle.gt_held.proofs.tails.+tails.Goals.{is_tail-then-structure, is_tail-else-structure}
use Rattle.gt_held.proofs.tails.+tails.Goals as goal

pub has_tail-returns-then-is_tail_member-clause-tail : goal.has_tail-returns-then-is_tail_member-clause-tail
has_tail-returns-then-is_tail_member-clause-tail t c = (
  λ _. (c.loop-field.field-index, c.field-item.result, c.loop-field-test.true, sym c.field-item.is, c.is_tail_member.ensures.tail.0 c.if-is_tail_member.true),
  λ _. refl,
)

pub has_tail-loop-field-preserved : goal.has_tail-loop-field-preserved
has_tail-loop-field-preserved t c = record {
  before = All-more (λ f. ¬ IsTailMember c.args.program.now f) c.args.fields.now c.loop-field.field-index c.field-item.result c.loop-field-test.true c.loop-field.invariant.before
      (subst (λ (f : Field). ¬ IsTailMember c.args.program.now f) c.field-item.is (λ of. let yes = c.is_tail_member.ensures.tail.1 of in absurd (let both = c.if-is_tail_member.false in cc)));
  known = c.is_tail_member.ensures.known;
}

pub has_tail-returns-clause-tail : goal.has_tail-returns-clause-tail
has_tail-returns-clause-tail t c = (
  λ never. absurd (cc),
  λ any.
      let all = subst (All (λ f. ¬ IsTailMember c.args.program.now f)) (take_all c.loop-field.field-index c.args.fields.now (omega (arith, c.loop-field-test.false))) c.loop-field.invariant.before in
      absurd (All-contains (λ f. ¬ IsTailMember c.args.program.now f) c.args.fields.now any.1 all (any.0, any.2, any.3) any.4),
)

pub is_tail-has_tail-found-requires : goal.is_tail-has_tail-found-requires
is_tail-has_tail-found-requires t c =
    let there = read_at c.as_slice.result.now c.args.program.now.structures c.args.place c.index-as_slice-place.result c.as_slice.ensures.items c.requires.inside c.index-as_slice-place.is in (
      omega arith,
      (
        c.requires.settled,
        (
          shallow_fields c.args.program.now c.args.place c.args.depth c.index-as_slice-place.result c.as_slice-fields.result.now c.requires.settled there c.requires.shallow c.as_slice-fields.ensures.items,
          c.requires.known,
        ),
      ),
    )

pub is_tail-returns-clause-tail : goal.is_tail-returns-clause-tail
is_tail-returns-clause-tail t c =
    let there = read_at c.as_slice.result.now c.args.program.now.structures c.args.place c.index-as_slice-place.result c.as_slice.ensures.items c.requires.inside c.index-as_slice-place.is in
    elim c.if-structure.branch [
      | is_tail-then-structure w ↦
          subst (λ b. Decides b (IsTailAt c.args.program.now c.args.place)) (sym w.found-is)
          (union-decides there w.has_tail-found.result w.if-structure.true
          (subst (λ fs. Decides w.has_tail-found.result (Any (IsTailMember c.args.program.now) fs)) c.as_slice-fields.ensures.items w.has_tail-found.ensures.tail))
      | is_tail-else-structure w ↦
          subst (λ b. Decides b (IsTailAt c.args.program.now c.args.place)) (sym w.found-is)
          (struct-decides there w.ends_in_tail-found.result w.if-structure.false (w.ends_in_tail-found.ensures ∙ ap (λ fs. is_some (tail_of fs)) c.as_slice-fields.ensures.items))
    ]

pub is_tail-returns-clause-known : goal.is_tail-returns-clause-known
is_tail-returns-clause-known t c =
    let known = elim c.if-structure.branch as (λ _. AreKnownTails c.args.program.now c.if-structure.known.items) [
      | is_tail-then-structure w ↦ subst (λ k. AreKnownTails c.args.program.now k.items) (sym w.known-is) w.has_tail-found.ensures.known
      | is_tail-else-structure w ↦ subst (λ k. AreKnownTails c.args.program.now k.items) (sym w.known-is) c.requires.known
    ] in
    one-known c.args.program.now c.if-structure.known.items c.args.place c.if-structure.found known c.requires.inside (is_tail-returns-clause-tail t c)

pub is_tail_member-overflow_sub-depth : goal.is_tail_member-overflow_sub-depth
is_tail_member-overflow_sub-depth t c = (node_within c.args.program.now c.args.field.now.ty c.in-Node.id c.in-Node.desc c.args.depth c.requires.shallow c.in-Node.is).1

pub is_tail_member-is_tail-requires : goal.is_tail_member-is_tail-requires
is_tail_member-is_tail-requires t c =
    let inner = node_within c.args.program.now c.args.field.now.ty c.in-Node.id c.in-Node.desc c.args.depth c.requires.shallow c.in-Node.is in
    (omega (arith, inner.1), (c.requires.settled, (inner.0, (inner.2, c.requires.known))))
