use Rattle.std.proofs.Common.{◌≡◌, ◌∙◌, ap, sym, length, vec_len, rules}
use Rattle.std.proofs.lemmas.Option.{slice_get_read}
use Rattle.gt_names.specs.Places.{place_number}
use Rattle.gt_names.proofs.PlaceLemmas.{put_free, put_taken, taken_taken}
use Rattle.gt_names.proofs.places.Places.put.Goals as goal

pub returns-then-is_free-clause-put : goal.returns-then-is_free-clause-put
returns-then-is_free-clause-put c =
    let count : vec_len c.args.self.now.places ≡ length c.args.self.now.places.items = search rules in
    put_free c.args.self.now.places.items c.args.self.now.others c.index-old.result.now (record { hash = c.args.hash; number = c.args.number }) c.place-place.result
    (c.place-place.ensures.place ∙ ap (place_number c.args.hash) count)
    (slice_get_read c.args.self.now.places.items (vec_len c.args.self.now.places) c.place-place.result c.index-old.result.now count c.place-place.ensures.within c.index-old.ensures)
    (sym c.is_free.ensures.free ∙ c.if-is_free.true) c.requires.taken

pub returns-clause-taken : goal.returns-clause-taken
returns-clause-taken c =
    let count : vec_len c.args.self.now.places ≡ length c.args.self.now.places.items = search rules in
    taken_taken c.args.self.now.places.items c.args.self.now.others c.insert.new.self c.index-old.result.now c.place-place.result c.args.hash c.args.number
    (c.place-place.ensures.place ∙ ap (place_number c.args.hash) count)
    (slice_get_read c.args.self.now.places.items (vec_len c.args.self.now.places) c.place-place.result c.index-old.result.now count c.place-place.ensures.within c.index-old.ensures)
    (sym c.is_free.ensures.free ∙ c.if-is_free.false) c.in_ok-insert.ensures.updates.0 c.requires.taken

pub returns-clause-put : goal.returns-clause-put
returns-clause-put c =
    let count : vec_len c.args.self.now.places ≡ length c.args.self.now.places.items = search rules in
    put_taken c.args.self.now.places.items c.args.self.now.others c.insert.new.self c.index-old.result.now c.place-place.result c.args.hash c.args.number
    (c.place-place.ensures.place ∙ ap (place_number c.args.hash) count)
    (slice_get_read c.args.self.now.places.items (vec_len c.args.self.now.places) c.place-place.result c.index-old.result.now count c.place-place.ensures.within c.index-old.ensures)
    (sym c.is_free.ensures.free ∙ c.if-is_free.false) c.in_ok-insert.ensures.updates.0
