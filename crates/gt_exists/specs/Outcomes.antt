-- What one text, and what all files, come to.
use Rattle.std.specs.Prelude.{ℕ, List}
use Rattle.gt_types.specs.declared.faults.Fault.{Fault}
use Rattle.gt_lex.specs.declared.tokens.Token.{Token}
use Rattle.gt_lex.specs.declared.tokens.Define.{Define}
use Rattle.gt_lex.specs.Texts.{IsLexed, IsFirstFault as IsFirstTokenFault}
use Rattle.gt_items.specs.declared.items.Items.{Items}
use Rattle.gt_parse.specs.Header.{AreItems, IsFirstFault as IsFirstItemFault}
use Rattle.gt_drafts.specs.declared.draft.Draft.{Draft}
use Rattle.gt_resolve.specs.Resolution.{Resolves, HasFirstFault}

-- a text has items, or a first fault: one of its tokens, or else one of its items
pub data HasReading (text : List ℕ) : Type 0 where
  has_items : (tokens : List Token) (defines : List Define) (items : Items) → IsLexed text tokens defines → AreItems text tokens defines items → HasReading text
  has_token_fault : (number at : ℕ) → IsFirstTokenFault text number at → HasReading text
  has_item_fault : (tokens : List Token) (defines : List Define) (number at : ℕ) → IsLexed text tokens defines → IsFirstItemFault text tokens number at → HasReading text

-- files have a draft without faults of names and types, or a first fault of these
pub data HasResolution (files : List Items) : Type 0 where
  has_draft : (draft : Draft) → Resolves files draft → HasResolution files
  has_fault : (fault : Fault) → HasFirstFault files fault → HasResolution files
