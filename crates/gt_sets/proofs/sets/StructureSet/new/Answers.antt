use Rattle.std.proofs.Common.{◌≡◌, replicate, rules, ap, get_or, ◌∙◌}
use Rattle.gt_sets.proofs.SetLemmas.{none-in, words-at}
use Rattle.gt_sets.proofs.sets.StructureSet.new.Goals as goal

pub returns : goal.returns
returns c =
    let zeros : c.in_ok-words.words.items ≡ replicate 64 0 = search rules in
    record { empty = none-in c.in_ok-words.words.items (λ n. ap (λ words. get_or words n 0) zeros ∙ words-at 64 n 0) }
