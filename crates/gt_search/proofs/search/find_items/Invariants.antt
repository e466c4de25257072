use Rattle.std.proofs.Common.{List, [], ◌++◌, length, map}
use Rattle.gt_search.specs.declared.lexeme.Lexeme.{Lexeme}
use Rattle.gt_search.specs.declared.search.End.{End}
use Rattle.gt_search.specs.Search.{Searches}
use Rattle.gt_search.proofs.search.find_items.Given as goal

abbrev pub invariant-search : goal.invariant-search
invariant-search l =
    (more : List (List Lexeme)) (end : End) → Searches l.wrappers l.rest more end → Searches [] l.tokens (map (λ one. one.now) l.items.items ++ more) end

abbrev pub decreases-search : goal.decreases-search
decreases-search l = length l.rest
