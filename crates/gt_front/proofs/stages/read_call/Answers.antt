use Rattle.std.proofs.Common.{◌≡◌, ◌∙◌, None, sym}
use Rattle.gt_words.specs.Calls.{call_of}
use Rattle.gt_front.proofs.stages.read_call.Goals as goal

pub returns-in-Ok-None-clause-halted : goal.returns-in-Ok-None-clause-halted
returns-in-Ok-None-clause-halted c =
    λ told texts.
    let nothing : call_of c.args.words.now ≡ None = sym c.in-Ok-None.ensures.call ∙ c.in-Ok-None.field-0-is in
    c.halt.ensures.halted c.args.words.now told texts nothing (c.words_line.ensures.line c.args.words.now texts)
