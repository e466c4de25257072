use Rattle.std.proofs.Common.{◌≡◌, take}
use Rattle.gt_search.specs.Lexemes.{lexemes_of}
use Rattle.gt_search.proofs.lexemes.read_lexemes.Given as goal

abbrev pub invariant-loop-token : goal.invariant-loop-token
invariant-loop-token l = l.made.items ≡ lexemes_of l.text (take l.token-index l.token-items)
