use Rattle.std.proofs.Common.{◌≡◌, [], ◌∷◌, ◌++◌, map, ap, ◌∙◌}
use Rattle.std.proofs.lemmas.List.{map-append}
use Rattle.gt_starts.proofs.BeginLemmas.{some-added}
use Rattle.gt_starts.proofs.begins.Begins.with.Goals as goal

pub returns : goal.returns
returns c =
    let pushed : map (λ set. set.value) c.push.new.self.items ≡ map (λ set. set.value) c.in_ok-sets.sets.items ++ c.args.set.now.value ∷ [] =
    ap (map (λ set. set.value)) c.in_ok-push.ensures.items ∙ map-append (λ set. set.value) c.in_ok-sets.sets.items (c.in_ok-clone.field-0 ∷ [])
    ∙ ap (λ value. map (λ set. set.value) c.in_ok-sets.sets.items ++ value ∷ []) c.in_ok-clone.ensures.cases in
    record { added = some-added _ _ c.args.self.now c.args.set.now.value pushed c.in_ok-sets.ensures.same }
