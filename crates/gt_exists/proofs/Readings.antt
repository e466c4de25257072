-- Each text has items or a first fault.
use Rattle.std.proofs.Common.{◌≡◌, ◌∙◌, ℕ, Bool, List, [], ◌∷◌, ◌++◌, Option, Some, None, refl, sym, ap, subst, inl, inr}
use Rattle.std.specs.Prelude.{◌⊎◌, ◌≢◌, All, map}
use Rattle.std.specs.List.{flat_map}
use Rattle.std.proofs.lemmas.List.Elements.{All-nil, All-cons, All-head, All-tail}
use Rattle.gt_lex.specs.declared.tokens.Token.{Token}
use Rattle.gt_lex.specs.declared.tokens.Define.{Define}
use Rattle.gt_lex.specs.Texts.{IsLexed, HasAnswer}
use Rattle.gt_items.specs.declared.items.Item.{Item}
use Rattle.gt_search.specs.declared.faults.TheConstants.{UNCLOSED}
use Rattle.gt_search.specs.declared.lexeme.Lexeme.{Lexeme}
use Rattle.gt_search.specs.declared.search.End.{End}
use Rattle.gt_search.specs.declared.search.End.TheVariants.{Complete, Fails}
use Rattle.gt_parse.specs.Header.{Declare, constant_in, end_faults, faults_by, item_faults}
use Rattle.gt_search.specs.Lexemes.{lexemes_of, spot_of}
use Rattle.gt_marked.specs.Outcome.{Outcome, Read, Stops, Ends}
use Rattle.gt_parse.specs.Reading.{item_at}
use Rattle.gt_search.specs.Search.{EndsItem, Searches}
use Rattle.gt_exists.specs.Outcomes.{HasReading}
use Rattle.gt_exists.proofs.FirstPlaces.{HasFirst, has_first}

-- ---- whole items have tokens

some_token : {X : Type 0} (x : X) (xs : List X) → x ∷ xs ≢ []
some_token x xs h = cc h

ends_some : {marks called : Bool} {one : List Lexeme} → EndsItem marks called one → one ≢ []
ends_some (EndsItem.semicolon s) = some_token _ _
ends_some (EndsItem.body o c inside) = some_token _ _
ends_some (EndsItem.token t plain rest) = some_token _ _
ends_some (EndsItem.round o c inside rest) = some_token _ _
ends_some (EndsItem.square o c inside rest) = some_token _ _
ends_some (EndsItem.braces o c inside rest) = some_token _ _

search_whole : {wrappers : List ℕ} {ts : List Lexeme} {cut : List (List Lexeme)} {end : End} → Searches wrappers ts cut end → All (λ x. x ≢ []) cut
search_whole Searches.complete = All-nil (λ x. x ≢ [])
search_whole (Searches.wrapper brace is begins rest) = search_whole rest
search_whole (Searches.closed_wrapper w s rest) = search_whole rest
search_whole (Searches.item {one = one} {items = items} begins ends rest) = All-cons (λ x. x ≢ []) one items (ends_some ends) (search_whole rest)
search_whole (Searches.unmatched b s ts begins front is closes) = All-nil (λ x. x ≢ [])
search_whole (Searches.unclosed_item t begins front) = All-nil (λ x. x ≢ [])
search_whole (Searches.unclosed_wrapper w) = All-nil (λ x. x ≢ [])

-- ---- the faults of whole items

-- whole items declare something and have no fault, or they have a fault
abbrev Come : List (List Lexeme) → Type 0
Come cut =
    ((items : List Item) × Declare cut items × (flat_map item_faults cut ≡ []))
    ⊎ ((fault : ℕ × ℕ) × (faults : List (ℕ × ℕ)) × (flat_map item_faults cut ≡ fault ∷ faults))

-- the faults of one more item, by what reading it comes to
faults_more : (one : List Lexeme) (others : List (List Lexeme)) (o : Outcome (Option Item)) → item_at one ≡ o
    → flat_map item_faults (one ∷ others) ≡ faults_by one o ++ flat_map item_faults others
faults_more one others o h = ap (λ (x : Outcome (Option Item)). faults_by one x ++ flat_map item_faults others) h

come_more : (one : List Lexeme) (others : List (List Lexeme)) (o : Outcome (Option Item)) → item_at one ≡ o → one ≢ [] → Come others → Come (one ∷ others)
come_more one others (Read (Some found) following) h some (inl (items, declared, none)) =
    inl (found ∷ items, inl (found, following, items, h, refl, declared), faults_more one others (Read (Some found) following) h ∙ none)
come_more one others (Read None following) h some (inl (items, declared, none)) =
    inl (items, inr (following, h, declared), faults_more one others (Read None following) h ∙ none)
come_more one others (Read found following) h some (inr (fault, faults, are)) =
    inr (fault, faults, faults_more one others (Read found following) h ∙ are)
come_more one others (Stops number at) h some rest = inr ((number, at), flat_map item_faults others, faults_more one others (Stops number at) h)
come_more [] others Ends h some rest = absurd (some refl)
come_more (t ∷ ts) others Ends h some rest =
    inr ((UNCLOSED, (spot_of t).start), flat_map item_faults others, faults_more (t ∷ ts) others Ends h)

come : (cut : List (List Lexeme)) → All (λ x. x ≢ []) cut → Come cut
come [] whole = inl ([], refl, refl)
come (one ∷ others) whole =
    come_more one others (item_at one) refl (All-head (λ x. x ≢ []) one others whole) (come others (All-tail (λ x. x ≢ []) one others whole))

-- ---- one text

module _ (text : List ℕ) (tokens : List Token) (defines : List Define) (lexed : IsLexed text tokens defines) where
  first_fault : (cut : List (List Lexeme)) (end : End) → Searches [] (lexemes_of text tokens) cut end → HasFirst (flat_map item_faults cut ++ end_faults end) → HasReading text
  first_fault cut end searched has =
      HasReading.has_item_fault tokens defines has.first.0 has.first.1 lexed
      (record {
        cut = cut;
        end = end;
        before = has.before;
        after = has.after;
        searched = searched;
        among = has.split;
        earlier = has.earlier;
        later = has.later;
      })

  ended : (cut : List (List Lexeme)) (end : End) → Searches [] (lexemes_of text tokens) cut end → Come cut → HasReading text
  ended cut Complete searched (inl (items, declared, none)) =
      HasReading.has_items tokens defines (record { items = items; constants = map (constant_in text) defines }) lexed
      (record { cut = cut; searched = searched; declared = declared; constants = refl })
  ended cut (Fails number at) searched (inl (items, declared, none)) =
      first_fault cut (Fails number at) searched
      (subst HasFirst (sym (ap (λ (fs : List (ℕ × ℕ)). fs ++ (number, at) ∷ []) none)) (has_first (number, at) []))
  ended cut end searched (inr (fault, faults, are)) =
      first_fault cut end searched
      (subst HasFirst (sym (ap (λ (fs : List (ℕ × ℕ)). fs ++ end_faults end) are)) (has_first fault (faults ++ end_faults end)))

pub has_reading : ((ts : List Lexeme) → (items : List (List Lexeme)) × (end : End) × Searches [] ts items end) → (text : List ℕ) → HasAnswer text → HasReading text
has_reading search text (HasAnswer.has_tokens tokens defines lexed) =
    let found = search (lexemes_of text tokens) in
    ended text tokens defines lexed found.0 found.1 found.2 (come found.0 (search_whole found.2))
has_reading search text (HasAnswer.has_fault number at first) = HasReading.has_token_fault number at first
