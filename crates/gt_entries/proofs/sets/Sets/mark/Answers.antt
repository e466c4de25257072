use Rattle.std.proofs.Common.{◌≡◌, ◌-◌, ◌*◌, ◌++◌, length, ap, ◌∙◌, arith, rules}
use Rattle.std.proofs.Math.ListN.{take, drop}
use Rattle.std.proofs.lemmas.List.{with_items_is}
use Rattle.std.specs.Vec.{with_items}
use Rattle.gt_entries.specs.Sets.{sets_of, third}
use Rattle.gt_entries.proofs.Thirds.{put_marked, rest_marked, part_len, second_of, third_is, thirds_of}
use Rattle.gt_entries.proofs.sets.Sets.mark.Goals as goal

pub returns-clause-rest : goal.returns-clause-rest
returns-clause-rest c =
    let ws = c.self.inside.words.items in
    let first = third_is c.self.inside.len ws c.self.invariant in
    let len : length c.insert_new.new.words ≡ third ws = c.insert_new.ensures.len ∙ part_len ws c.deref_mut.result.now c.self.inside.len (2 * c.self.inside.len - c.self.inside.len) (thirds_of c.self.inside.len ws c.self.invariant) c.deref_mut.ensures.value (omega (arith, first)) (omega (arith, first)) in
    rest_marked (sets_of (with_items c.self.inside.words (take c.self.inside.len c.deref_mut.result.now ++ (c.insert_new.new.words ++ drop (2 * c.self.inside.len - c.self.inside.len) (drop c.self.inside.len c.deref_mut.result.now)))).items) c.args.self.now.used c.insert_new.new.words c.args.self.now.pending
    (ap sets_of (with_items_is c.self.inside.words (take c.self.inside.len c.deref_mut.result.now ++ (c.insert_new.new.words ++ drop (2 * c.self.inside.len - c.self.inside.len) (drop c.self.inside.len c.deref_mut.result.now))) (search rules))
    ∙ put_marked ws c.deref_mut.result.now c.insert_new.new.words c.self.inside.len (2 * c.self.inside.len - c.self.inside.len) (thirds_of c.self.inside.len ws c.self.invariant) c.deref_mut.ensures.value first len (omega (arith, first))
    ∙ ap (λ s. record { used = s.used; marked = c.insert_new.new.words; pending = s.pending }) c.self.view_is)

pub returns-clause-unchanged : goal.returns-clause-unchanged
returns-clause-unchanged c = λ no.
    let ws = c.self.inside.words.items in
    let thirds = thirds_of c.self.inside.len ws c.self.invariant in
    let first = third_is c.self.inside.len ws c.self.invariant in
    let len : length c.insert_new.new.words ≡ third ws = c.insert_new.ensures.len ∙ part_len ws c.deref_mut.result.now c.self.inside.len (2 * c.self.inside.len - c.self.inside.len) thirds c.deref_mut.ensures.value (omega (arith, first)) (omega (arith, first)) in
    let second : take (2 * c.self.inside.len - c.self.inside.len) (drop c.self.inside.len c.deref_mut.result.now) ≡ (sets_of ws).marked = second_of ws c.deref_mut.result.now c.self.inside.len (2 * c.self.inside.len - c.self.inside.len) c.deref_mut.ensures.value first (omega (arith, first)) in
    ap sets_of (with_items_is c.self.inside.words (take c.self.inside.len c.deref_mut.result.now ++ (c.insert_new.new.words ++ drop (2 * c.self.inside.len - c.self.inside.len) (drop c.self.inside.len c.deref_mut.result.now))) (search rules))
    ∙ put_marked ws c.deref_mut.result.now c.insert_new.new.words c.self.inside.len (2 * c.self.inside.len - c.self.inside.len) thirds c.deref_mut.ensures.value first len (omega (arith, first))
    ∙ ap (λ m. record { used = (sets_of ws).used; marked = m; pending = (sets_of ws).pending }) (c.insert_new.ensures.unchanged no ∙ second)
    ∙ c.self.view_is
