use Rattle.std.proofs.Common.{◌≡◌, ℕ, List, Option, subst, sym, ◌∙◌}
use Rattle.std.specs.Prelude.{IfOk}
use Rattle.std.specs.Option.{option_map}
use Rattle.gt_split.specs.declared.pieces.Piece.{Piece}
use Rattle.gt_split.proofs.Boundaries.{plain_boundary}
use Rattle.gt_split.proofs.Cuts.{word_quoted, word_plain}
use Rattle.gt_split.proofs.pieces.word_at.Goals as goal

pub split_at-word-requires : goal.split_at-word-requires
split_at-word-requires c = record {
  boundary = plain_boundary c.args.text.now c.in-Some.others.now c.in-Some.field-0-0 c.plain_len.result (sym c.bytes.ensures ∙ c.in-Some.ensures) c.plain_len.ensures.len;
}

pub returns-in-Some-after : goal.returns-in-Some-after
returns-in-Some-after c =
    subst (λ (o : Option (Piece × List ℕ)). IfOk c.quoted_word.result (λ found. option_map (λ r. (r.0, r.1.now)) found ≡ o))
    (word_quoted c.args.text.now c.in-Some.others.now c.in-Some-after.inside c.in-Some.field-0-0 (sym c.bytes.ensures ∙ c.in-Some.ensures) c.in-Some-after.ensures) c.quoted_word.ensures

pub returns-in-None : goal.returns-in-None
returns-in-None c =
    word_plain c.args.text.now c.in-Some.others.now c.split_at-word.result.0 c.text.result.now c.in-Some.field-0-0 c.plain_len.result (sym c.bytes.ensures ∙ c.in-Some.ensures) c.in-None.ensures c.plain_len.ensures.len
    c.split_at-word.ensures.front (c.text.ensures.text ∙ c.split_at-word.ensures.back)
