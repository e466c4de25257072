-- What is read from a header is well made.
use Rattle.std.proofs.Common.{◌≡◌, ℕ, List, [], ◌∷◌, Ok, sym, subst, inl, inr}
use Rattle.std.specs.Prelude.{All}
use Rattle.std.proofs.lemmas.List.Elements.{All-nil, All-cons}
use Rattle.gt_expr.specs.declared.raw.RawExpr.{RawExpr}
use Rattle.gt_expr.specs.Expression.{IsExpression, expression_of}
use Rattle.gt_lex.specs.declared.tokens.Token.{Token}
use Rattle.gt_lex.specs.declared.tokens.Define.{Define}
use Rattle.gt_lex.specs.Texts.{IsLexed}
use Rattle.gt_items.specs.declared.items.Item.{Item}
use Rattle.gt_items.specs.declared.items.Items.{Items}
use Rattle.gt_search.specs.declared.lexeme.Lexeme.{Lexeme}
use Rattle.gt_parse.specs.Header.{AreItems, Declare}
use Rattle.gt_parse.specs.ItemGrammar.{AnItem}
use Rattle.gt_parse.specs.Reading.{item_at}
use Rattle.gt_sound.specs.WellMade.{IsWellMade, IsWellMadeItem}
use Rattle.gt_sound.proofs.ReadItems.{KeepsItem, item_read}
use Rattle.gt_sound.proofs.Tokens.{AreAllNamed, items_named, lexed_named}

module _ (law : (text : List ℕ) (t : RawExpr) → expression_of text ≡ Ok t → IsExpression text t) (rules : (tokens : List Lexeme) → AnItem tokens (item_at tokens)) where
  declared_made : (cut : List (List Lexeme)) (items : List Item) → Declare cut items → AreAllNamed cut → All IsWellMadeItem items
  declared_made [] items is named = subst (λ xs. All IsWellMadeItem xs) (sym is) (All-nil IsWellMadeItem)
  declared_made (one ∷ others) items (inl (found, following, rest, reads, is, more)) named =
      let made : IsWellMadeItem found = subst KeepsItem reads (item_read law (rules one) named.0) in
      subst (λ xs. All IsWellMadeItem xs) (sym is) (All-cons IsWellMadeItem found rest made (declared_made others rest more named.1))
  declared_made (one ∷ others) items (inr (following, reads, more)) named = declared_made others items more named.1

  pub read_made : (text : List ℕ) (tokens : List Token) (defines : List Define) (items : Items) → IsLexed text tokens defines → AreItems text tokens defines items → IsWellMade items
  read_made text tokens defines items lexed is =
      declared_made is.cut items.items is.declared (items_named is.searched (lexed_named text tokens defines lexed))
