use Rattle.std.proofs.Common.{◌≡◌, false, ap, ◌∙◌}
use Rattle.std.specs.Prelude.{◌==◌}
use Rattle.std.specs.List.{list_any}
use Rattle.gt_script.proofs.Decoding.{file_some}
use Rattle.gt_script.proofs.naming.file_at.Goals as goal

pub returns : goal.returns
returns c =
    let solid : false ≡ list_any (λ c. c == 0) c.args.text.now = c.if-has_zero.ensures ∙ ap (list_any (λ c. c == 0)) c.as_bytes.ensures.value in
    file_some c.args.text.now _ c.if-is_empty.ensures solid c.utf8.text c.in_ok-word.ensures.word
