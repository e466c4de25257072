use Rattle.std.proofs.Common.{◌≡◌, ◌∙◌, ◌≤◌, length, drop, sym, ap, arith, rules}
use Rattle.std.specs.Prelude.{◌==◌}
use Rattle.std.proofs.lemmas.List.{at_drop_all}
use Rattle.gt_names.specs.Places.{hash_number, first_from}
use Rattle.gt_names.proofs.PlaceLemmas.{first_of_all, none_in, taken_empty}
use Rattle.gt_names.proofs.places.Places.of_names.Goals as goal

pub loop-place-init : goal.loop-place-init
loop-place-init c =
    record {
      within = omega arith;
      some = search rules;
      count = search rules;
      taken = taken_empty c.in_ok-free_places.field-0.items c.new.result c.new.ensures.empty;
      first = λ hash.
          let all : length c.args.names.now ≤ length c.args.names.now = omega arith in
          none_in c.in_ok-free_places.field-0.items c.new.result c.args.count hash c.in_ok-free_places.ensures.free
          ∙ sym (at_drop_all (λ names. first_from (λ name. hash_number name == hash) names (length c.args.names.now)) c.args.names.now (length c.args.names.now) all);
    }

pub returns-clause-first : goal.returns-clause-first
returns-clause-first c = λ hash.
    let first : c.loop-place.place ≡ 0 = omega arith in
    c.loop-place.invariant.first hash
    ∙ ap (λ place. first_from (λ name. hash_number name == hash) (drop place c.args.names.now) place) first
    ∙ first_of_all (λ name. hash_number name == hash) c.args.names.now
