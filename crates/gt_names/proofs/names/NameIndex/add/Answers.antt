use Rattle.std.proofs.Common.{◌≡◌, ◌∙◌, sym, ap, Some, None, length, position, rules}
use Rattle.std.specs.Str.{bytes_eq}
use Rattle.gt_names.proofs.NameLists.{with_name-found, with_name-pushed, position-pushed, absent}
use Rattle.gt_names.proofs.names.NameIndex.add.Goals as goal

pub returns-in-Some-clause-added : goal.returns-in-Some-clause-added
returns-in-Some-clause-added c =
    with_name-found c.args.self.now c.args.name.now c.in-Some.place (sym c.in-Some.ensures.place)

pub returns-clause-added : goal.returns-clause-added
returns-clause-added c =
    let new : position (λ other. bytes_eq other c.args.name.now) c.args.self.now ≡ None =
    sym c.get.ensures.place ∙ absent c.get.result c.in_default.not-Some in
    c.in_ok-push.ensures.added ∙ with_name-pushed c.args.self.now c.args.name.now new

pub returns-clause-place : goal.returns-clause-place
returns-clause-place c =
    let new : position (λ other. bytes_eq other c.args.name.now) c.args.self.now ≡ None =
    sym c.get.ensures.place ∙ absent c.get.result c.in_default.not-Some in
    let count : c.len-place.result ≡ length c.args.self.now = search rules in
    ap Some count ∙ position-pushed c.args.self.now c.args.name.now new
    ∙ ap (position (λ other. bytes_eq other c.args.name.now)) (sym c.in_ok-push.ensures.added)
