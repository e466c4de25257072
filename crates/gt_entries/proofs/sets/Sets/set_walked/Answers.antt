use Rattle.std.proofs.Common.{◌≡◌, ◌-◌, ◌*◌, ◌++◌, length, ap, ◌∙◌, arith, rules}
use Rattle.std.proofs.Math.ListN.{take, drop}
use Rattle.std.proofs.lemmas.List.{with_items_is}
use Rattle.std.specs.Vec.{with_items}
use Rattle.gt_entries.specs.Sets.{sets_of, third}
use Rattle.gt_entries.proofs.Thirds.{put_pending, rest_pending, part_len, third_is, thirds_of}
use Rattle.gt_entries.proofs.sets.Sets.set_walked.Goals as goal

pub returns-clause-rest : goal.returns-clause-rest
returns-clause-rest c =
    let ws = c.self.inside.words.items in
    let first = third_is c.self.inside.len ws c.self.invariant in
    let len : length c.remove.new.words ≡ third ws = c.remove.ensures.len ∙ part_len ws c.deref_mut.result.now (2 * c.self.inside.len) (3 * c.self.inside.len - 2 * c.self.inside.len) (thirds_of c.self.inside.len ws c.self.invariant) c.deref_mut.ensures.value (omega (arith, first)) (omega (arith, first)) in
    rest_pending (sets_of (with_items c.self.inside.words (take (2 * c.self.inside.len) c.deref_mut.result.now ++ (c.remove.new.words ++ drop (3 * c.self.inside.len - 2 * c.self.inside.len) (drop (2 * c.self.inside.len) c.deref_mut.result.now)))).items) c.args.self.now.used c.args.self.now.marked c.remove.new.words
    (ap sets_of (with_items_is c.self.inside.words (take (2 * c.self.inside.len) c.deref_mut.result.now ++ (c.remove.new.words ++ drop (3 * c.self.inside.len - 2 * c.self.inside.len) (drop (2 * c.self.inside.len) c.deref_mut.result.now))) (search rules))
    ∙ put_pending ws c.deref_mut.result.now c.remove.new.words c.self.inside.len (3 * c.self.inside.len - 2 * c.self.inside.len) (thirds_of c.self.inside.len ws c.self.invariant) c.deref_mut.ensures.value first len (omega (arith, first))
    ∙ ap (λ s. record { used = s.used; marked = s.marked; pending = c.remove.new.words }) c.self.view_is)
