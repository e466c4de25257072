use Rattle.std.proofs.Common.{◌<◌, ◌^◌, ap, sym, subst, refl, arith}
use Rattle.gt_tree.specs.Scopes.{outside}
use Rattle.gt_value.specs.Finding.{StandsIn}
use Rattle.gt_value.specs.Cursors.{frame, element_part}
use Rattle.gt_value.proofs.StandingStarts.{block-starts_in}
use Rattle.gt_value.proofs.CursorStarts.{at-start}
use Rattle.gt_value.proofs.cursors.Cursor.at_element.Goals as goal

pub returns : goal.returns
returns c =
    let few : c.args.capacity < 2 ^ 32 = omega arith in
    let source = c.new-source.result in
    let made = c.new-source.ensures in
    let low = (c.requires.inside c.requires.stands.1.size c.requires.stands.1.takes).from_start in
    record {
      whole = λ statics value stands.
          let start = block-starts_in source c.args.program.now c.args.layouts.now c.args.space.now made.program made.layouts made.space c.requires.settled c.requires.laid made.small c.args.capacity c.args.ty.now c.args.addr value statics few made.place c.requires.inside stands in
          at-start (frame c.args.program.now c.args.layouts.now c.args.space.now c.args.addr) _ (element_part statics c.args.ty.now value)
          (record { program = made.program; layouts = made.layouts; space = made.space; from = made.place; from_start = low })
          (record { type_is = refl; bit_is = refl; holder_is = refl; active_is = ap (λ x. x.whole) c.outside.ensures })
          (subst (λ x. StandsIn source x (outside statics) c.args.ty.now 0 value) (sym c.outside.ensures) start);
    }
