use Rattle.std.proofs.Common.{length}
use denote.Text.{Utf8}
use denote.Shadow.{shadow}
use Rattle.gt_lex.proofs.Directives.{SoFar}
use Rattle.gt_lex.proofs.directive.directive.Given as goal

abbrev pub invariant-parts : goal.invariant-parts
invariant-parts l = shadow (Utf8 l.rest) × SoFar l.whole l.text l.seen l.rest

abbrev pub decreases-parts : goal.decreases-parts
decreases-parts l = length l.rest
