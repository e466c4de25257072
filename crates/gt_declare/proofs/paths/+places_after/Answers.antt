use Rattle.std.proofs.Common.{◌≡◌, ◌∙◌, ◌≤◌, ℕ, List, length, Option, Some, IfOk, sym, ap, subst, arith}
use Rattle.gt_declare.specs.Programs.{places_on}
use Rattle.gt_declare.proofs.PathLemmas.{after, rest_of, path_none, path_missing, path_ends, path_stops, path_goes_on, at_first}
use Rattle.gt_declare.proofs.paths.+places_after.Goals as goal

pub returns-in_default : goal.returns-in_default
returns-in_default t c =
    let at = at_first c.args.structures.now c.args.from c.args.path.now c.name-item.result c.name-item.result _ c.name-item.is (c.in_default.ensures.place c.args.structures.now c.requires.names) in
    record { places = path_missing c.args.structures.now c.args.from c.args.path.now c.name-item.result c.args.before c.in-len1-up.len_at_least at }

pub returns-then-is_empty : goal.returns-then-is_empty
returns-then-is_empty t c =
    let at = at_first c.args.structures.now c.args.from c.args.path.now c.name-item.result c.name-item.result _ c.name-item.is (c.in-Some.ensures.place c.args.structures.now c.requires.names) in
    let none : length (rest_of c.args.path.now) ≡ 0 = (let e = c.is_empty.ensures in let h = c.if-is_empty.true in grind arith) in
    record {
      places =
          ap (λ (places : List ℕ). Some places) c.in_ok-places-in-len1-up.ensures.added
          ∙ path_ends c.args.structures.now c.args.from c.args.path.now c.name-item.result c.args.before c.in-Some.place c.in-len1-up.len_at_least none at;
    }

pub returns-in_default-inner_of : goal.returns-in_default-inner_of
returns-in_default-inner_of t c =
    let at = at_first c.args.structures.now c.args.from c.args.path.now c.name-item.result c.name-item.result _ c.name-item.is (c.in-Some.ensures.place c.args.structures.now c.requires.names) in
    let some : 1 ≤ length (rest_of c.args.path.now) = (let e = c.is_empty.ensures in let h = c.if-is_empty.false in grind arith) in
    record {
      places = path_stops c.args.structures.now c.args.from c.args.path.now c.name-item.result c.args.before c.in-Some.place c.in-len1-up.len_at_least some at (sym c.in_default-inner_of.ensures);
    }

pub returns-in-empty : goal.returns-in-empty
returns-in-empty t c = record { places = path_none c.args.structures.now c.args.from c.args.path.now c.args.before c.in-empty.len_below }

pub returns-in-Some-inner_of : goal.returns-in-Some-inner_of
returns-in-Some-inner_of t c =
    let at = at_first c.args.structures.now c.args.from c.args.path.now c.name-item.result c.name-item.result _ c.name-item.is (c.in-Some.ensures.place c.args.structures.now c.requires.names) in
    let some : 1 ≤ length (rest_of c.args.path.now) = (let e = c.is_empty.ensures in let h = c.if-is_empty.false in grind arith) in
    record {
      places =
          subst (λ (all : Option (List ℕ)). IfOk c.places_after.result (λ places. places ≡ all)) (
          ap (λ (before : List ℕ). after before (places_on c.args.structures.now c.in-Some-inner_of.inner (rest_of c.args.path.now))) c.in_ok-places-in-len1-up.ensures.added
          ∙ path_goes_on c.args.structures.now c.args.from c.args.path.now c.name-item.result c.args.before c.in-Some.place c.in-Some-inner_of.inner c.in-len1-up.len_at_least some at (sym c.in-Some-inner_of.ensures))
          c.places_after.ensures.places;
    }
