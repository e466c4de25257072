use Rattle.std.proofs.Common.{◌≡◌, List, ℕ, sym, ap, ◌∙◌}
use Rattle.std.specs.Prelude.{encode_utf8_all, slice_range}
use Rattle.std.specs.Str.{chars}
use Rattle.std.proofs.lemmas.Str.{encodes-chars}
use Rattle.gt_types.proofs.word.Word.as_str.Goals as goal

pub returns : goal.returns
returns c =
    let same : chars c.range.result.now ≡ c.args.self.now =
    ap chars (c.range.ensures.value ∙ ap (λ (bytes : List ℕ). slice_range bytes c.self.inside.start c.self.inside.end) c.as_str.ensures.value) ∙ c.self.view_is in
    record { text = sym (encodes-chars c.range.result.now c.range.utf8) ∙ ap encode_utf8_all same; characters = same }
