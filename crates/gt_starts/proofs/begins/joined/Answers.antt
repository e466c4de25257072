use Rattle.std.proofs.Common.{◌≡◌, ◌⊎◌, ◌↔◌, ℕ, ◌+◌, ◌<◌, List, [], ◌∷◌, ◌++◌, length, map, take, sym, ap, subst, ◌∙◌, arith}
use Rattle.std.proofs.lemmas.List.{map_more}
use Rattle.gt_sets.specs.Sets.{IsIn}
use Rattle.gt_starts.proofs.BeginLemmas.{some-next}
use Rattle.gt_starts.proofs.begins.joined.Goals as goal

pub loop-set-preserved : goal.loop-set-preserved
loop-set-preserved c =
    let within : c.loop-set.set-index < length c.args.sets.now = omega arith in
    let next : map (λ set. set.value) (take (c.loop-set.set-index + 1) c.args.sets.now) ≡ map (λ set. set.value) (take c.loop-set.set-index c.args.sets.now) ++ c.set-item.result.value ∷ [] =
    map_more (λ set. set.value) c.args.sets.now c.loop-set.set-index c.set-item.result within
    ∙ ap (λ set. map (λ s. s.value) (take c.loop-set.set-index c.args.sets.now) ++ set.value ∷ []) (sym c.set-item.is) in
    some-next c.loop-set.whole c.insert_all.new.self c.set-item.result.value _ _ next c.loop-set.invariant
    (subst (λ (set : List ℕ). (begin : ℕ) → IsIn c.insert_all.new.self begin ↔ (IsIn c.loop-set.whole begin ⊎ IsIn set begin)) c.deref.ensures c.insert_all.ensures.added)
