use Rattle.std.proofs.Common.{◌≡◌, ◌++◌, drop}
use Rattle.gt_search.specs.Lexemes.{text_after}
use Rattle.gt_marked.proofs.groups.text_after.Given as goal

abbrev pub invariant-loop-token : goal.invariant-loop-token
invariant-loop-token l = l.text ++ text_after l.end (drop l.token-index l.tokens) ≡ l.fn.text ++ text_after l.fn.end l.tokens
