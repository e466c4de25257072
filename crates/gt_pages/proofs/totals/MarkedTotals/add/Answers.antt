use Rattle.std.proofs.Common.{◌≡◌, slice_index_or, arith}
use Rattle.std.proofs.lemmas.Option.{get_or_from_slice_get}
use Rattle.gt_pages.specs.Counts.{count_of}
use Rattle.gt_pages.proofs.CountLemmas.{count_few, run_counted}
use Rattle.gt_pages.proofs.totals.MarkedTotals.add.Goals as goal

pub overflow_add-self : goal.overflow_add-self
overflow_add-self c =
    let r = c.requires.room in
    let place = c.list_of-place.result in
    let is : slice_index_or c.args.self.now.counts place 0 ≡ count_of c.args.size r.0 =
    get_or_from_slice_get c.args.self.now.counts place (count_of c.args.size r.0) 0 (r.1.counts place c.args.size c.list_of-place.ensures.number) in
    let few = count_few c.args.size r.0 in
    let many = r.2 in
    omega (arith, is, few, many)

pub returns : goal.returns
returns c = record {
  added = λ blocks run is were.
      let place = c.list_of-place.result in
      run_counted c.args.self.now place c.args.size c.args.count c.list_of-place.ensures.number blocks run is were (slice_index_or c.args.self.now.counts place 0)
      (get_or_from_slice_get c.args.self.now.counts place (count_of c.args.size blocks) 0 (were.counts place c.args.size c.list_of-place.ensures.number));
}
