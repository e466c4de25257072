use Rattle.std.proofs.Common.{◌∙◌, ap}
use Rattle.std.specs.Str.{bytes_eq}
use Rattle.gt_types.proofs.AsciiWords.{IsAscii-word, bytes_eq-encodes}
use Rattle.gt_types.proofs.word.Word.is.Goals as goal

pub returns : goal.returns
returns c =
    c.eq.ensures ∙ ap (λ bytes. bytes_eq bytes c.args.ascii.now) c.as_str.ensures.text
    ∙ bytes_eq-encodes c.args.self.now c.args.ascii.now (IsAscii-word c.args.ascii.now c.requires)
