use Rattle.std.proofs.Common.{◌≡◌, ◌-◌, ◌++◌, length, ap, ◌∙◌, arith, rules}
use Rattle.std.proofs.Math.ListN.{drop}
use Rattle.std.proofs.lemmas.List.{with_items_is}
use Rattle.std.specs.Vec.{with_items}
use Rattle.gt_entries.specs.Sets.{sets_of, third}
use Rattle.gt_entries.proofs.Thirds.{put_used, rest_used, part_len, third_is, thirds_of}
use Rattle.gt_entries.proofs.sets.Sets.take_all.Goals as goal

pub returns-clause-rest : goal.returns-clause-rest
returns-clause-rest c =
    let ws = c.self.inside.words.items in
    let first = third_is c.self.inside.len ws c.self.invariant in
    let len : length c.insert_all.new.words ≡ third ws = c.insert_all.ensures.len ∙ part_len ws c.deref_mut.result.now 0 (c.self.inside.len - 0) (thirds_of c.self.inside.len ws c.self.invariant) c.deref_mut.ensures.value (omega (arith, first)) (omega (arith, first)) in
    rest_used (sets_of (with_items c.self.inside.words (c.insert_all.new.words ++ drop (c.self.inside.len - 0) c.deref_mut.result.now)).items) c.insert_all.new.words c.args.self.now.marked c.args.self.now.pending
    (ap sets_of (with_items_is c.self.inside.words (c.insert_all.new.words ++ drop (c.self.inside.len - 0) c.deref_mut.result.now) (search rules))
    ∙ put_used ws c.deref_mut.result.now c.insert_all.new.words c.self.inside.len (c.self.inside.len - 0) (thirds_of c.self.inside.len ws c.self.invariant) c.deref_mut.ensures.value first len (omega (arith, first))
    ∙ ap (λ s. record { used = c.insert_all.new.words; marked = s.marked; pending = s.pending }) c.self.view_is)
