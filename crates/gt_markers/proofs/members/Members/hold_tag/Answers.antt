use Rattle.std.proofs.Common.{◌∙◌, sym, ap, arith, w64, int_cmp, SFits}
use Rattle.std.specs.BTreeSet.{contains}
use Rattle.std.proofs.lemmas.Int.{to_z-of_z, ints}
use Rattle.gt_markers.specs.Members.{holds_tag}
use Rattle.gt_markers.proofs.members.Members.hold_tag.Goals as goal

pub returns-in-Some : goal.returns-in-Some
returns-in-Some c =
    let value = c.in-Some.value in
    let fits : SFits w64 value = search (arith, ints) in
    record {
      held =
          c.contains.ensures ∙ ap (contains int_cmp c.args.self.now.tags) (to_z-of_z w64 value fits) ∙ ap (holds_tag c.args.self.now) (sym c.in-Some.is);
    }
