use Rattle.std.proofs.Common.{◌≡◌, ◌+◌, false, inl, refl, arith, [], ◌∷◌, sym, ◌∙◌, ap}
use Rattle.std.specs.Prelude.{replicate}
use Rattle.std.proofs.lemmas.Grind.{replicate_next}
use Rattle.gt_tree.specs.Scopes.{is_node}
use Rattle.gt_routes.proofs.Begins.{way-starts, way-somewhere, way-goes, way-ends, way-part, way-deeper, too-deep}
use Rattle.gt_routes.proofs.commons.begin_of.Goals as goal

pub parts-init : goal.parts-init
parts-init c = (way-starts c.args.program.now c.args.at c.args.common c.args.member (c.args.member ∷ []) refl c.requires.begins, inl refl)

pub returns-then-is_node : goal.returns-then-is_node
returns-then-is_node c = record {
  begin = way-ends c.args.program.now c.args.at c.args.common c.args.member (record { at = c.parts.cursor; place = c.args.member; zeros = c.parts.zeros }) c.parts.invariant.0 (ap (is_node c.args.common) (sym c.ty.ensures) ∙ sym c.is_node.ensures ∙ c.if-is_node.true);
}

pub step-requires : goal.step-requires
step-requires c = record { stands = way-somewhere c.args.program.now c.args.at c.args.common c.args.member (c.args.member ∷ replicate c.parts.zeros 0) c.parts.cursor c.requires.stands c.parts.invariant.0 }

pub parts-preserved : goal.parts-preserved
parts-preserved c =
    let program = c.args.program.now in
    let places = c.args.member ∷ replicate c.parts.zeros 0 in
    let other : is_node c.args.common c.parts.cursor.ty.now ≡ false = ap (is_node c.args.common) (sym c.ty.ensures) ∙ sym c.is_node.ensures ∙ c.if-is_node.false in (
      way-goes program c.requires.settled c.args.at c.args.common c.args.member places c.parts.cursor c.parts.invariant.0 other c.in-Some.next c.in-Some.ensures.part (c.args.member ∷ replicate (c.parts.zeros + 1) 0) (ap (λ xs. c.args.member ∷ xs) (replicate_next c.parts.zeros 0)) c.requires.stands,
      way-deeper program c.requires.settled c.args.at c.args.common c.args.member places c.parts.cursor c.requires.stands c.parts.invariant.0 other c.in-Some.next c.in-Some.ensures.part c.parts.zeros c.parts.invariant.1,
    )

pub unreachable-requires : goal.unreachable-requires
unreachable-requires c =
    let other : is_node c.args.common c.parts.cursor.ty.now ≡ false = ap (is_node c.args.common) (sym c.ty.ensures) ∙ sym c.is_node.ensures ∙ c.if-is_node.false in
    way-part c.args.program.now c.requires.settled c.args.at c.args.common c.args.member (c.args.member ∷ replicate c.parts.zeros 0) c.parts.cursor c.requires.stands c.parts.invariant.0 other c.in_default.ensures.part

pub unreachable-requires-2 : goal.unreachable-requires-2
unreachable-requires-2 c = too-deep c.args.program.now c.requires.settled c.parts.zeros c.parts.cursor.ty.now (omega (arith, c.parts-test.false)) c.parts.invariant.1
