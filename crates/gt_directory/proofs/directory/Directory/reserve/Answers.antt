use Rattle.std.proofs.Common.{◌≡◌, ◌<◌, ◌∙◌, Some, sym, subst}
use Rattle.std.specs.Prelude.{slice_get}
use Rattle.std.proofs.lemmas.Option.{slice_get_read}
use Rattle.gt_directory.specs.Directories.{places_of}
use Rattle.gt_directory.proofs.Learning.{places_few}
use Rattle.gt_directory.proofs.directory.Directory.reserve.Goals as goal

pub returns-else-len-places-clause-ready : goal.returns-else-len-places-clause-ready
returns-else-len-places-clause-ready g c =
    let places = c.places_of-places.ensures in
    let few = subst (λ n. n < 513) (sym places) (places_few c.args.size c.requires.size) in
    let there = slice_get_read c.self.inside.spares.items 513 c.places_of-places.result c.index.result.now (sym c.self.invariant) few c.index.ensures in
    let at = subst (λ n. slice_get c.self.inside.spares.items n ≡ Some c.index.result.now) places there in (
      c.index.result.now,
      subst (λ contents. slice_get contents.spares (places_of c.args.size) ≡ Some c.index.result.now) c.self.view_is at,
      sym c.len.ensures ∙ c.if-len-places.false ∙ places,
    )
