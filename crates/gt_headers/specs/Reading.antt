-- The items of texts, each read by itself, and the first fault of that reading.
use Rattle.std.specs.Prelude.{◌≡◌, ◌+◌, ◌⊎◌, ℕ, List, [], ◌∷◌, ◌++◌, length}
use Rattle.gt_types.specs.declared.faults.Fault.{Fault}
use Rattle.gt_lex.specs.declared.tokens.Token.{Token}
use Rattle.gt_lex.specs.declared.tokens.Define.{Define}
use Rattle.gt_lex.specs.Texts.{IsLexed, IsFirstFault as IsFirstTokenFault}
use Rattle.gt_items.specs.declared.items.Items.{Items}
use Rattle.gt_parse.specs.Header.{AreItems, IsFirstFault as IsFirstItemFault}

-- the text's tokens are these items
pub record IsRead (text : List ℕ) (items : Items) : Type 0 where
  pub tokens : List Token
  pub defines : List Define
  pub lexed : IsLexed text tokens defines
  pub parsed : AreItems text tokens defines items

-- the text's first fault: one of its tokens, or else one of its items
abbrev pub IsTextFault : List ℕ → (number at : ℕ) → Type 0
IsTextFault text number at =
    IsFirstTokenFault text number at
    ⊎ ((tokens : List Token) × (defines : List Define) × IsLexed text tokens defines × IsFirstItemFault text tokens number at)

-- each of the texts has its items
abbrev pub AreRead : List (List ℕ) → List Items → Type 0
AreRead [] [] = Unit {0}
AreRead (text ∷ texts) (items ∷ files) = IsRead text items × AreRead texts files
AreRead texts files = ⊥

-- the first fault of the first text that has one: each text before it has its items
pub record IsReadingFault (texts : List (List ℕ)) (fault : Fault) : Type 0 where
  pub before : List (List ℕ)
  pub text : List ℕ
  pub after : List (List ℕ)
  pub split : texts ≡ before ++ text ∷ after
  pub files : List Items
  pub are_read : AreRead before files
  pub file : fault.file ≡ length before + 1
  pub first : IsTextFault text fault.number fault.at
