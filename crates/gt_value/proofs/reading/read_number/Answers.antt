use Rattle.std.proofs.Common.{◌≡◌, ◌∙◌, ap, rules, None, Some}
use Rattle.std.proofs.lemmas.Int.{to_z-of_z}
use mir.Syntax.{w128}
use mir.Val.{SFits}
use Rattle.gt_tree.specs.Trees.{Num}
use Rattle.gt_value.specs.Reading.{shape_of}
use Rattle.gt_value.proofs.TreesOf.{tree-num}
use Rattle.gt_value.proofs.LeafReads.{number-shaped, some-shape}
use Rattle.gt_value.proofs.reading.read_number.Goals as goal

pub number_at-requires-clause-inside : goal.number_at-requires-clause-inside
number_at-requires-clause-inside c =
    let e : shape_of c.args.ty.now ≡ Some c.in-Some.shape = search rules in
    (number-shaped c.args.source.now c.args.around c.args.ty.now c.args.at c.in-Some.shape c.requires.stands.0 c.requires.number e c.requires.stands.1).inside

pub unreachable-requires : goal.unreachable-requires
unreachable-requires c =
    let e : shape_of c.args.ty.now ≡ None = search rules in
    some-shape c.args.source.now c.args.around c.args.ty.now c.args.at c.requires.stands.0 c.requires.number c.requires.stands.1 e

pub returns : goal.returns
returns c value stands =
    let e : shape_of c.args.ty.now ≡ Some c.in-Some.shape = search rules in
    let f : SFits w128 c.number_at.result = search rules in
    let there = number-shaped c.args.source.now c.args.around c.args.ty.now c.args.at c.in-Some.shape value c.requires.number e stands in
    tree-num _ ∙ ap Num (to_z-of_z w128 c.number_at.result f ∙ c.number_at.ensures) ∙ there.is
