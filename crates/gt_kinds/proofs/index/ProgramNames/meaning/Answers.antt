use Rattle.std.proofs.Common.{Some, sym, subst}
use Rattle.gt_kinds.specs.Meanings.{Means}
use Rattle.gt_kinds.proofs.Meant.{word-means, tag-means-node, nothing-is-meant}
use Rattle.gt_kinds.proofs.index.ProgramNames.meaning.Goals as goal

pub returns-in-Some : goal.returns-in-Some
returns-in-Some c = record {
  means =
      subst (λ m. Means c.args.program.now c.args.name.now (Some m)) (sym c.meaning_of.ensures)
      (word-means c.requires.settled c.args.name.now c.in-Some.word.now c.in-Some.ensures.word);
}

pub returns-in-Some-tag : goal.returns-in-Some-tag
returns-in-Some-tag c = record {
  means =
      tag-means-node c.requires.settled c.args.name.now c.in-None.ensures.word c.in-Some-tag.node c.in-Some-tag.ensures.tag.0 c.in-Some-tag.ensures.tag.1 c.in-Some-tag.ensures.tag.2;
}

pub returns-in-None-tag : goal.returns-in-None-tag
returns-in-None-tag c = record { means = nothing-is-meant c.requires.settled c.args.name.now c.in-None.ensures.word c.in-None-tag.ensures.tag }
