use Rattle.std.proofs.Common.{◌≡◌, ◌==◌, not, length}
use denote.Text.{Utf8}
use denote.Shadow.{shadow}
use Rattle.std.specs.Str.{chars}
use Rattle.gt_lex.specs.Characters.{newline}
use Rattle.gt_lex.specs.Reading.{rest_while}
use Rattle.gt_lex.proofs.extents.past_line.Given as goal

abbrev pub invariant-loop-c : goal.invariant-loop-c
invariant-loop-c l = shadow (Utf8 l.rest) × (rest_while (λ c. not (c == newline)) (chars l.rest) ≡ rest_while (λ c. not (c == newline)) (chars l.text))

abbrev pub decreases-loop-c : goal.decreases-loop-c
decreases-loop-c l = length l.rest
