use Rattle.std.proofs.Common.{◌≡◌, ◌-◌, ◌∙◌, ap, sym, subst, refl, rules, arith, Some, None}
use Rattle.std.specs.Prelude.{slice_get}
use Rattle.gt_tree.specs.Scopes.{outside}
use Rattle.gt_value.specs.Reading.{outside_all}
use Rattle.gt_value.specs.Finding.{StandsIn}
use Rattle.gt_value.specs.Cursors.{frame, root_part}
use Rattle.gt_value.proofs.CursorStarts.{at-start, root-at, no-spot}
use Rattle.gt_value.proofs.cursors.Cursor.at_root.Goals as goal

pub overflow_cast-at : goal.overflow_cast-at
overflow_cast-at c =
    let r = c.in_ok-held.held.now in
    let spot = c.in_ok-spot.spot.now in
    let got : slice_get c.args.program.now.roots c.args.root ≡ Some r = search rules in
    let spot_of : slice_get c.args.layouts.now.statics.fields c.args.root ≡ Some spot = search rules in
    let made = c.new-source.ensures in
    let from : c.new-source.result.from ≡ c.args.space.now.start - c.args.space.now.start = made.place ∙ ap (λ n. n - c.args.space.now.start) c.start-start.ensures.start in
    let root = root-at c.new-source.result c.args.program.now c.args.layouts.now c.args.space.now made.program made.layouts made.space c.requires.settled c.requires.laid made.small from c.requires.inside c.args.root r c.requires.stands.0 c.requires.stands.1 got spot spot_of in
    omega (arith, c.begin_at-at.ensures.begin, root.2.0.inside, made.small)

pub returns : goal.returns
returns c =
    let held = c.in_ok-held.held.now in
    let place = c.in_ok-spot.spot.now in
    let mine : slice_get c.args.program.now.roots c.args.root ≡ Some held = search rules in
    let its : slice_get c.args.layouts.now.statics.fields c.args.root ≡ Some place = search rules in
    let source = c.new-source.result in
    let made = c.new-source.ensures in
    let from : source.from ≡ c.args.space.now.start - c.args.space.now.start = made.place ∙ ap (λ n. n - c.args.space.now.start) c.start-start.ensures.start in
    let bit = c.begin_at-at.ensures.begin in
    record {
      root = λ values stand.
          let root = root-at source c.args.program.now c.args.layouts.now c.args.space.now made.program made.layouts made.space c.requires.settled c.requires.laid made.small from c.requires.inside c.args.root held values stand mine place its in
          record {
            r = held;
            spot = place;
            tree = root.0;
            root = mine;
            spot_is = its;
            there = root.1;
            is = at-start (frame c.args.program.now c.args.layouts.now c.args.space.now c.args.space.now.start) _ (root_part values c.args.root place held root.0)
                (record { program = made.program; layouts = made.layouts; space = made.space; from = from; from_start = omega arith })
                (record { type_is = refl; bit_is = bit; holder_is = refl; active_is = ap (λ x. x.whole) c.outside.ensures })
                (subst (λ x. StandsIn source x (outside values) held.ty c.begin_at-at.result root.0) (sym c.outside.ensures)
                (subst (λ k. StandsIn source outside_all (outside values) held.ty k root.0) (sym bit) root.2));
          };
    }

pub returns-in_err-spot : goal.returns-in_err-spot
returns-in_err-spot c =
    let r = c.in_ok-held.held.now in
    let got : slice_get c.args.program.now.roots c.args.root ≡ Some r = search rules in
    let none : slice_get c.args.layouts.now.statics.fields c.args.root ≡ None = search rules in
    let made = c.new-source.ensures in
    let from : c.new-source.result.from ≡ c.args.space.now.start - c.args.space.now.start = made.place ∙ ap (λ n. n - c.args.space.now.start) c.start-start.ensures.start in
    absurd (no-spot c.new-source.result c.args.program.now c.args.layouts.now c.args.space.now made.program made.layouts made.space c.requires.settled c.requires.laid made.small from c.requires.inside c.args.root r c.requires.stands.0 c.requires.stands.1 got none)
