-- What texts resolve to is sound.
use Rattle.std.proofs.Common.{◌≡◌, ℕ, List, [], ◌∷◌, subst}
use Rattle.std.specs.Prelude.{All}
use Rattle.std.proofs.lemmas.List.Elements.{All-nil, All-cons}
use Rattle.gt_items.specs.declared.items.Items.{Items}
use Rattle.gt_lex.specs.declared.tokens.Token.{Token}
use Rattle.gt_lex.specs.declared.tokens.Define.{Define}
use Rattle.gt_lex.specs.Texts.{IsLexed}
use Rattle.gt_markers.specs.Sound.{IsSound}
use Rattle.gt_parse.specs.Header.{AreItems}
use Rattle.gt_drafts.specs.declared.draft.Draft.{Draft}
use Rattle.gt_resolve.specs.Resolution.{Resolves}
use Rattle.gt_sound.specs.WellMade.{IsWellMade}
use Rattle.gt_headers.specs.Headers.{AreResolved}
use Rattle.gt_headers.specs.Reading.{AreRead}

module _ (well_made : (text : List ℕ) (tokens : List Token) (defines : List Define) (items : Items) → IsLexed text tokens defines → AreItems text tokens defines items → IsWellMade items)
    (sound : (files : List Items) (draft : Draft) → All IsWellMade files → Resolves files draft → IsSound draft) where
  all_made : (texts : List (List ℕ)) (files : List Items) → AreRead texts files → All IsWellMade files
  all_made [] [] read = All-nil IsWellMade
  all_made [] (items ∷ files) read = absurd read
  all_made (text ∷ texts) [] read = absurd read
  all_made (text ∷ texts) (items ∷ files) read =
      All-cons IsWellMade items files (well_made text read.0.tokens read.0.defines items read.0.lexed read.0.parsed) (all_made texts files read.1)

  pub sound_by : (texts : List (List ℕ)) (draft : Draft) → AreResolved texts draft → IsSound draft
  sound_by texts draft a = sound a.files draft (all_made texts a.files a.are_read) a.resolved

  pub sound_of : (texts : List (List ℕ)) (files seen : List Items) (draft : Draft) → seen ≡ files → AreRead texts files → Resolves seen draft → IsSound draft
  sound_of texts files seen draft same read resolved = sound files draft (all_made texts files read) (subst (λ (fs : List Items). Resolves fs draft) same resolved)
