use Rattle.std.proofs.Common.{sym, ◌∙◌}
use Rattle.gt_kinds.proofs.Meant.{word-found, word-missed}
use Rattle.gt_kinds.proofs.index.ProgramNames.word.Goals as goal

pub returns-in-None : goal.returns-in-None
returns-in-None c = record { word = word-missed c.args.program.now c.args.name.now (sym (c.requires.names.words c.args.name.now) ∙ sym c.in-None.ensures.value) }

pub returns-in-Some : goal.returns-in-Some
returns-in-Some c = record {
  word =
      word-found c.args.program.now c.args.name.now c.in-Some.place.now (sym (c.requires.names.words c.args.name.now) ∙ sym c.in-Some.ensures.value) c.get-in-Some.result
      c.get-in-Some.ensures.item;
}
