use Rattle.std.proofs.Common.{◌≡◌, ◌<◌, ◌^◌, sym, subst, arith}
use Rattle.std.proofs.lemmas.Result.{IfOk-weaker}
use Rattle.gt_tree.specs.Trees.{Tree}
use Rattle.gt_value.specs.Values.{tree_of}
use Rattle.gt_value.specs.Bytes.{StandsFor}
use Rattle.gt_value.specs.Reading.{Stands}
use Rattle.gt_value.proofs.StandingStarts.{block-starts, element-shallow}
use Rattle.gt_value.proofs.reading.read.Goals as goal

pub new-source-requires : goal.new-source-requires
new-source-requires c = (c.requires.inside c.requires.stands.1.size c.requires.stands.1.takes).from_start

pub read_type-requires-clause-stands : goal.read_type-requires-clause-stands
read_type-requires-clause-stands c =
    let few : c.args.capacity < 2 ^ 32 = omega arith in
    let value = c.requires.stands.0 in
    let stands = block-starts c.new-source.result c.args.program.now c.args.layouts.now c.args.space.now c.new-source.ensures.program c.new-source.ensures.layouts c.new-source.ensures.space c.requires.settled c.requires.laid c.new-source.ensures.small c.args.capacity c.args.ty.now c.args.addr value few c.new-source.ensures.place c.requires.inside c.requires.stands.1 in
    (value, subst (λ x. Stands c.new-source.result x c.args.ty.now 0 value) (sym c.outside.ensures) stands)

pub read_type-requires-clause-shallow : goal.read_type-requires-clause-shallow
read_type-requires-clause-shallow c =
    element-shallow c.new-source.result c.args.program.now c.args.layouts.now c.args.space.now c.new-source.ensures.program c.new-source.ensures.layouts c.new-source.ensures.space c.requires.settled c.requires.laid c.new-source.ensures.small c.args.capacity c.args.ty.now c.args.addr c.requires.stands.0 c.requires.stands.1

pub returns : goal.returns
returns c =
    let few : c.args.capacity < 2 ^ 32 = omega arith in
    record {
      value = IfOk-weaker c.read_type.result (λ v. (value : Tree) → Stands c.new-source.result c.outside.result c.args.ty.now 0 value → tree_of v ≡ value)
          (λ v. (value : Tree) → StandsFor c.args.program.now c.args.layouts.now c.args.capacity c.args.ty.now c.args.space.now c.args.addr value → tree_of v ≡ value)
          (λ v reads value stands. reads value (subst (λ x. Stands c.new-source.result x c.args.ty.now 0 value) (sym c.outside.ensures)
          (block-starts c.new-source.result c.args.program.now c.args.layouts.now c.args.space.now c.new-source.ensures.program c.new-source.ensures.layouts c.new-source.ensures.space c.requires.settled c.requires.laid c.new-source.ensures.small c.args.capacity c.args.ty.now c.args.addr value few c.new-source.ensures.place c.requires.inside stands))) c.read_type.ensures;
    }
