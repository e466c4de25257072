use Rattle.std.proofs.Common.{◌≤◌, ◌<◌, ◌∙◌, length, None, ap, refl, subst, sym, rules}
use Rattle.gt_mark.specs.Reached.{root_targets}
use Rattle.gt_mark.specs.Steps.{state_of}
use Rattle.gt_mark.proofs.Final.{rounds_as, marks_as, task_of}
use Rattle.gt_mark.specs.Wide.{Wide}
use Rattle.gt_mark.proofs.Crowded.{more_final, one_final, start_wide}
use Rattle.gt_mark.proofs.Roots.{roots_all, roots_fit, roots_more, roots_start, roots_starts}
use Rattle.gt_mark.proofs.marking.mark_roots.Goals as goal

pub loop-walk-init : goal.loop-walk-init
loop-walk-init c = record {
  same_reference = refl;
  empty = ap (λ s. s.stack) c.new-marker.ensures.state;
  taken = λ t is starts names. roots_start t c.as_slice-walk-items.result.now (state_of c.new-marker.result) is;
  wide = λ t is starts names. subst (λ s. Wide t s None) is (start_wide t);
}

pub take_root-requires : goal.take_root-requires
take_root-requires c =
    let r = c.requires.ready in
    let t = task_of c.args.tables.now c.args.space.now r.0 (root_targets c.args.tables.now c.args.space.now) c.args.pages.now r.2 c.sound.ensures.laid in
    let taken = c.loop-walk.invariant.taken t (sym c.new-marker.ensures.state) refl r.1 in
    let low : c.loop-walk.walk-index < length c.as_slice-walk-items.result.now = search rules in
    record { ready = (t, taken.begun, taken.holds, roots_fit t refl r.1 c.as_slice-walk-items.result.now c.as_slice-walk-items.ensures.items c.loop-walk.walk-index low) }

pub loop-walk-preserved : goal.loop-walk-preserved
loop-walk-preserved c =
    let low : c.loop-walk.walk-index < length c.as_slice-walk-items.result.now = search rules in
    record {
      same_reference = c.take_root.ensures.same_reference ∙ c.loop-walk.invariant.same_reference;
      empty = c.take_root.ensures.empty;
      taken = λ t is starts names.
          let taken = c.loop-walk.invariant.taken t is starts names in
          let goes = c.take_root.ensures.goes t taken.begun taken.holds (roots_fit t starts names c.as_slice-walk-items.result.now c.as_slice-walk-items.ensures.items c.loop-walk.walk-index low) in
          roots_more t c.as_slice-walk-items.result.now c.loop-walk.walk-index _ (state_of c.loop-walk.marker) (state_of c.take_root.new.marker) taken refl goes;
      wide = λ t is starts names.
          let taken = c.loop-walk.invariant.taken t is starts names in
          c.take_root.ensures.wide t taken.begun taken.holds (roots_fit t starts names c.as_slice-walk-items.result.now c.as_slice-walk-items.ensures.items c.loop-walk.walk-index low)
          (roots_starts t starts c.as_slice-walk-items.result.now c.as_slice-walk-items.ensures.items c.loop-walk.walk-index low) (c.loop-walk.invariant.wide t is starts names);
    }

pub walk_rest-requires-clause-ready : goal.walk_rest-requires-clause-ready
walk_rest-requires-clause-ready c =
    let r = c.requires.ready in
    let t = task_of c.args.tables.now c.args.space.now r.0 (root_targets c.args.tables.now c.args.space.now) c.args.pages.now r.2 c.sound.ensures.laid in
    let taken = c.loop-walk.invariant.taken t (sym c.new-marker.ensures.state) refl r.1 in
    (t, taken.begun, taken.holds)

pub walk_rest-requires-clause-idle : goal.walk_rest-requires-clause-idle
walk_rest-requires-clause-idle c =
    let r = c.requires.ready in
    let t = task_of c.args.tables.now c.args.space.now r.0 (root_targets c.args.tables.now c.args.space.now) c.args.pages.now r.2 c.sound.ensures.laid in
    (c.loop-walk.invariant.taken t (sym c.new-marker.ensures.state) refl r.1).stands

pub returns-clause-marked : goal.returns-clause-marked
returns-clause-marked c = λ walks names can.
    let t = task_of c.args.tables.now c.args.space.now walks (root_targets c.args.tables.now c.args.space.now) c.args.pages.now can c.sound.ensures.laid in
    let taken = c.loop-walk.invariant.taken t (sym c.new-marker.ensures.state) refl names in
    let last = c.walk_rest.ensures.ends t taken.begun taken.holds in
    let whole : length c.as_slice-walk-items.result.now ≤ c.loop-walk.walk-index = search rules in
    marks_as t taken.begun (state_of c.walk_rest.new.self) _ last.holds c.walk_rest.ensures.empty c.walk_rest.ensures.room c.walk_rest.ensures.idle
    (roots_all t refl c.as_slice-walk-items.result.now c.as_slice-walk-items.ensures.items (state_of c.loop-walk.marker) c.loop-walk.walk-index whole taken) (search rules)

pub returns-clause-rounds : goal.returns-clause-rounds
returns-clause-rounds c = λ walks names can.
    let t = task_of c.args.tables.now c.args.space.now walks (root_targets c.args.tables.now c.args.space.now) c.args.pages.now can c.sound.ensures.laid in
    let taken = c.loop-walk.invariant.taken t (sym c.new-marker.ensures.state) refl names in
    let last = c.walk_rest.ensures.ends t taken.begun taken.holds in
    let whole : length c.as_slice-walk-items.result.now ≤ c.loop-walk.walk-index = search rules in
    rounds_as t taken.begun taken.begun c.walk_rest.result (state_of c.loop-walk.marker) (state_of c.walk_rest.new.self) _ c.walk_rest.ensures.room taken.lessens last c.walk_rest.ensures.at_least
    (one_final t taken.begun (state_of c.walk_rest.new.self) last.holds c.walk_rest.ensures.empty c.walk_rest.ensures.room c.walk_rest.ensures.idle
    (roots_all t refl c.as_slice-walk-items.result.now c.as_slice-walk-items.ensures.items (state_of c.loop-walk.marker) c.loop-walk.walk-index whole taken) _ (search rules) (state_of c.loop-walk.marker) c.walk_rest.result
    (c.loop-walk.invariant.wide t (sym c.new-marker.ensures.state) refl names) c.walk_rest.ensures.one)
    (more_final t taken.begun (state_of c.loop-walk.marker) (state_of c.walk_rest.new.self) c.walk_rest.result _ last.holds c.walk_rest.ensures.empty c.walk_rest.ensures.room c.walk_rest.ensures.idle
    (roots_all t refl c.as_slice-walk-items.result.now c.as_slice-walk-items.ensures.items (state_of c.loop-walk.marker) c.loop-walk.walk-index whole taken)
    (c.loop-walk.invariant.wide t (sym c.new-marker.ensures.state) refl names) c.walk_rest.ensures.again (search rules)) (search rules)
