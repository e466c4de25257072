use Rattle.std.proofs.Common.{◌≡◌, length}
use denote.Text.{Utf8}
use denote.Shadow.{shadow}
use Rattle.gt_lex.proofs.Scanning.{SoFar}
use Rattle.gt_lex.proofs.lexing.scan.Given as goal

abbrev pub invariant-pieces : goal.invariant-pieces
invariant-pieces l = shadow (Utf8 l.rest) × (l.whole ≡ length l.text) × SoFar l.text l.fresh l.tokens.items l.defines.items l.rest

abbrev pub decreases-pieces : goal.decreases-pieces
decreases-pieces l = length l.rest
