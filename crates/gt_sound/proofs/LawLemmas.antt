-- The laws, for proofs to cite.
use Rattle.std.specs.Prelude.{ℕ, List, All}
use Rattle.gt_expr.proofs.ExpressionLemmas.{IsExpression-expression_of}
use Rattle.gt_lex.specs.declared.tokens.Token.{Token}
use Rattle.gt_lex.specs.declared.tokens.Define.{Define}
use Rattle.gt_lex.specs.Texts.{IsLexed}
use Rattle.gt_items.specs.declared.items.Items.{Items}
use Rattle.gt_parse.specs.Header.{AreItems}
use Rattle.gt_parse.proofs.ItemsLemmas.{item-allowed}
use Rattle.gt_drafts.specs.declared.draft.Draft.{Draft}
use Rattle.gt_resolve.specs.Resolution.{Resolves}
use Rattle.gt_resolve.proofs.FewLemmas.{structures_are_few, fields_are_few, roots_are_few, caches_are_few}
use Rattle.gt_markers.specs.Sound.{IsSound}
use Rattle.gt_sound.specs.WellMade.{IsWellMade}
use Rattle.gt_sound.proofs.Headers as headers
use Rattle.gt_sound.proofs.Whole as whole

pub read_is_well_made : (text : List ℕ) (tokens : List Token) (defines : List Define) (items : Items) → IsLexed text tokens defines → AreItems text tokens defines items → IsWellMade items
read_is_well_made = headers.read_made IsExpression-expression_of item-allowed

pub resolved_is_sound : (files : List Items) (draft : Draft) → All IsWellMade files → Resolves files draft → IsSound draft
resolved_is_sound files draft made is =
    whole.sound files draft made is (structures_are_few files draft is) (fields_are_few files draft is) (roots_are_few files draft is) (caches_are_few files draft is)
