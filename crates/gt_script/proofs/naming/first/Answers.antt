use Rattle.std.proofs.Common.{◌≡◌, ◌<◌, ℕ, List, ◌∷◌, ◌++◌, length, arith, ap, sym, ◌∙◌, IsUtf8}
use Rattle.std.specs.Prelude.{encode_utf8}
use Rattle.std.specs.Str.{chars}
use Rattle.std.proofs.lemmas.Str.{chars_past_char, IsUtf8-past_char, length-encode, len_utf8_bounds}
use Rattle.std.proofs.lemmas.List.{length-append}
use Rattle.gt_script.proofs.naming.first.Goals as goal

one_step : (bs rest : List ℕ) (c : ℕ) → IsUtf8 bs → bs ≡ encode_utf8 c ++ rest → (chars bs ≡ c ∷ chars rest) × (length rest < length bs) × IsUtf8 rest
one_step bs rest c u e = (
  chars_past_char bs rest c u e,
  omega (arith, ap length e, length-append (encode_utf8 c) rest, length-encode c, len_utf8_bounds c),
  IsUtf8-past_char bs rest c u e,
)

pub returns : goal.returns
returns c = one_step _ _ _ c.utf8.text (sym c.chars-characters.ensures.rest ∙ c.in_ok-c.ensures.steps.0 ∙ ap (λ r. encode_utf8 c.in_ok-c.c ++ r) (sym c.as_str.ensures))
