-- How one whole item is read.
use Rattle.std.specs.Prelude.{ℕ, zero, suc, Bool, true, false, if◌then◌else◌, List, [], ◌∷◌, Option, Some}
use Rattle.gt_items.specs.declared.items.Item.{Item}
use Rattle.gt_search.specs.declared.lexeme.Lexeme.{Lexeme}
use Rattle.gt_search.specs.declared.lexeme.Lexeme.TheVariants as lexeme
use Rattle.gt_marked.specs.Outcome.{Outcome, Read, ◌>>=◌}
use Rattle.gt_marked.specs.Marked.{marked_at}
use Rattle.gt_parse.specs.Unmarked.{unmarked_at}

-- whether a token is the word of a marker
abbrev pub is_marker : Lexeme → Bool
is_marker (lexeme.Gty s) = true
is_marker t = false

-- whether a marker stands in no brackets; depth brackets are open
unfoldable pub is_marked : ℕ → List Lexeme → Bool
is_marked depth [] = false
is_marked zero (lexeme.Gty s ∷ ts) = true
is_marked depth (lexeme.Open b s ∷ ts) = is_marked (suc depth) ts
is_marked zero (lexeme.Close b s ∷ ts) = is_marked zero ts
is_marked (suc depth) (lexeme.Close b s ∷ ts) = is_marked depth ts
is_marked depth (t ∷ ts) = is_marked depth ts

-- what an item declares, or its fault
unfoldable pub item_at : List Lexeme → Outcome (Option Item)
item_at ts = if is_marked 0 ts then (marked_at ts >>= λ item. Read (Some item.0) item.1) else unmarked_at ts ts
