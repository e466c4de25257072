use Rattle.std.proofs.Common.{◌≡◌, ◌∙◌, ap, sym, rules, None, Some}
use Rattle.std.specs.Prelude.{slice_get}
use Rattle.gt_layout.specs.Storages.{extent_of, extent_of_plane}
use Rattle.gt_tree.proofs.Types.{extent-node}
use Rattle.gt_value.proofs.reading.+size_of.Goals as goal

pub returns-in-Some : goal.returns-in-Some
returns-in-Some t c =
    let planes = c.args.layouts.now.structures in
    let got : slice_get planes c.in-Node.id.0 ≡ Some c.in-Some.plane.now = search rules in
    sym (ap (λ y. (extent_of planes y).size) c.in-Node.is ∙ ap (λ e. e.size) (extent-node planes c.in-Node.id c.in-Node.desc ∙ ap extent_of_plane got))

pub returns-in-None : goal.returns-in-None
returns-in-None t c =
    let planes = c.args.layouts.now.structures in
    let got : slice_get planes c.in-Node.id.0 ≡ None = search rules in
    sym (ap (λ y. (extent_of planes y).size) c.in-Node.is ∙ ap (λ e. e.size) (extent-node planes c.in-Node.id c.in-Node.desc ∙ ap extent_of_plane got))
