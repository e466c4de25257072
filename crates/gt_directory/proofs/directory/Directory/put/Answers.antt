use Rattle.std.proofs.Common.{◌≡◌, ◌∙◌, Some, length, ap, subst, sym, get_or}
use Rattle.std.specs.Prelude.{slice_get, slice_set}
use Rattle.std.proofs.lemmas.Option.{get_or_from_slice_get}
use Rattle.gt_directory.proofs.Learning.{learned}
use Rattle.gt_directory.proofs.directory.Directory.put.Goals as goal

pub returns-clause-learns : goal.returns-clause-learns
returns-clause-learns g c =
    let places = c.places_of-places.ensures in
    let ready = c.requires.ready in
    let at = subst (λ n. slice_get c.args.self.now.spares n ≡ Some ready.0) (sym places) ready.1 in
    let spare_is = subst (λ contents. c.index_mut-2.result.now ≡ get_or contents.spares c.places_of-places.result c.index_mut-2.result.now) c.self.view_is c.index_mut-2.ensures.value
    ∙ get_or_from_slice_get c.args.self.now.spares c.places_of-places.result ready.0 c.index_mut-2.result.now at in
    learned c.args.self.now _ c.args.addr c.args.size c.args.thing c.page_of-page.result c.places_of-places.result c.place_of-place.result
    c.index_mut.result.now c.index_mut-2.result.now c.put_on.new.shelf c.requires.block c.page_of-page.ensures places c.place_of-place.ensures
    (subst (λ contents. c.index_mut.result.now ≡ get_or contents.shelves c.page_of-page.result c.index_mut.result.now) c.self.view_is c.index_mut.ensures.value)
    (ap length spare_is ∙ ready.2 ∙ sym places)
    c.put_on.ensures
    (ap (λ contents. slice_set contents.shelves c.page_of-page.result c.put_on.new.shelf) c.self.view_is)
