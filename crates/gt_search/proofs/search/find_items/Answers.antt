use Rattle.std.proofs.Common.{List, [], ◌∷◌, map, sym, subst}
use Rattle.std.proofs.lemmas.List.{append-nil}
use Rattle.gt_search.specs.declared.lexeme.Lexeme.{Lexeme}
use Rattle.gt_search.specs.Search.{Searches}
use Rattle.gt_search.proofs.Turns.{at_wrapper, at_wrapper_end, at_item, at_last, one_more}
use Rattle.gt_search.proofs.search.find_items.Goals as goal

pub search-preserved-in-Wrapper : goal.search-preserved-in-Wrapper
search-preserved-in-Wrapper c = λ more end searches.
    c.search.invariant more end
    (at_wrapper c.search.wrappers c.search.rest.now c.in_ok-brace.field-0 c.in_ok-brace.ensures.turn c.in-Wrapper.brace c.in-Wrapper.len c.push.new.self c.split_at.result.1.now c.in-Wrapper.is c.in_ok-push-in-Wrapper.ensures.added c.split_at.ensures.back more end searches)

pub search-preserved-in-WrapperEnd : goal.search-preserved-in-WrapperEnd
search-preserved-in-WrapperEnd c = λ more end searches.
    c.search.invariant more end
    (at_wrapper_end c.search.wrappers c.search.rest.now c.in_ok-brace.field-0 c.in_ok-brace.ensures.turn c.pop.new.self c.pop.result c.split_at-in-WrapperEnd.result.1.now c.in-WrapperEnd.is c.pop.ensures.taken c.split_at-in-WrapperEnd.ensures.back more end searches)

pub search-preserved : goal.search-preserved
search-preserved c = λ more end searches.
    subst (λ (items : List (List Lexeme)). Searches [] c.args.tokens.now items end)
    (sym (one_more c.search.items.items c.split_at-in-Item.result.0 (λ one. one.now) c.push-in-Item.new.self.items more c.in_ok-push-in-Item.ensures.items))
    (c.search.invariant (c.split_at-in-Item.result.0.now ∷ more) end
    (at_item c.search.wrappers c.search.rest.now c.in_ok-brace.field-0 c.in_ok-brace.ensures.turn c.in-Item.len c.split_at-in-Item.result.0.now c.split_at-in-Item.result.1.now c.in-Item.is c.split_at-in-Item.ensures.front c.split_at-in-Item.ensures.back more end searches))

pub returns-in-Last : goal.returns-in-Last
returns-in-Last c =
    subst (λ (items : List (List Lexeme)). Searches [] c.args.tokens.now items c.in-Last.end) (append-nil (map (λ one. one.now) c.search.items.items))
    (c.search.invariant [] c.in-Last.end (at_last c.search.wrappers c.search.rest.now c.in_ok-brace.field-0 c.in_ok-brace.ensures.turn c.in-Last.end c.in-Last.is))
