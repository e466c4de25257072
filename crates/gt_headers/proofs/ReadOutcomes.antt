-- Texts are read, or have a first fault, and of each one.
use Rattle.std.proofs.Common.{◌≡◌, ℕ, suc, ◌+◌, List, [], ◌∷◌, ◌++◌, length, refl, sym, ap, subst, ◌∙◌, inl, inr}
use Rattle.gt_types.specs.declared.faults.Fault.{Fault}
use Rattle.gt_lex.specs.declared.tokens.Token.{Token}
use Rattle.gt_lex.specs.declared.tokens.Define.{Define}
use Rattle.gt_lex.specs.Texts.{IsLexed, IsFirstFault as IsFirstTokenFault}
use Rattle.gt_items.specs.declared.items.Items.{Items}
use Rattle.gt_search.specs.declared.lexeme.Lexeme.{Lexeme}
use Rattle.gt_search.specs.declared.search.End.{End}
use Rattle.gt_parse.specs.Header.{AreItems, IsFirstFault as IsFirstItemFault}
use Rattle.gt_search.specs.Search.{Searches}
use Rattle.gt_headers.specs.Reading.{AreRead, IsRead, IsReadingFault, IsTextFault}
use Rattle.gt_headers.proofs.ItemOutcomes.{head_same, items_no_fault, one_item_fault, one_items, tail_same}

same_fault : (one other : Fault) → one.number ≡ other.number → one.file ≡ other.file → one.at ≡ other.at → one ≡ other
same_fault one other a b c = λ i. record { number = a i; file = b i; at = c i }

module _ (one_search : (ts : List Lexeme) (items others : List (List Lexeme)) (end other : End) → Searches [] ts items end → Searches [] ts others other → (items ≡ others) × (end ≡ other))
    (one_lexed : (text : List ℕ) (tokens others : List Token) (defines other_defines : List Define) → IsLexed text tokens defines → IsLexed text others other_defines → (tokens ≡ others) × (defines ≡ other_defines))
    (lexed_no_fault : (text : List ℕ) (tokens : List Token) (defines : List Define) (number at : ℕ) → IsLexed text tokens defines → IsFirstTokenFault text number at → ⊥)
    (one_token_fault : (text : List ℕ) (number at other place : ℕ) → IsFirstTokenFault text number at → IsFirstTokenFault text other place → (number ≡ other) × (at ≡ place)) where
  -- ---- one text

  one_read : (text : List ℕ) (items others : Items) → IsRead text items → IsRead text others → items ≡ others
  one_read text items others a b =
      let same = one_lexed text a.tokens b.tokens a.defines b.defines a.lexed b.lexed in
      one_items one_search text b.tokens b.defines items others
      (subst (λ (ds : List Define). AreItems text b.tokens ds items) same.1 (subst (λ (ts : List Token). AreItems text ts a.defines items) same.0 a.parsed)) b.parsed

  read_no_fault : (text : List ℕ) (items : Items) (number at : ℕ) → IsRead text items → IsTextFault text number at → ⊥
  read_no_fault text items number at a (inl fault) = lexed_no_fault text a.tokens a.defines number at a.lexed fault
  read_no_fault text items number at a (inr (tokens, defines, lexed, fault)) =
      let same = one_lexed text a.tokens tokens a.defines defines a.lexed lexed in
      items_no_fault one_search text a.tokens a.defines items number at a.parsed (subst (λ (ts : List Token). IsFirstItemFault text ts number at) (sym same.0) fault)

  one_text_fault : (text : List ℕ) (number at other place : ℕ) → IsTextFault text number at → IsTextFault text other place → (number ≡ other) × (at ≡ place)
  one_text_fault text number at other place (inl a) (inl b) = one_token_fault text number at other place a b
  one_text_fault text number at other place (inl a) (inr (tokens, defines, lexed, b)) = absurd (lexed_no_fault text tokens defines number at lexed a)
  one_text_fault text number at other place (inr (tokens, defines, lexed, a)) (inl b) = absurd (lexed_no_fault text tokens defines other place lexed b)
  one_text_fault text number at other place (inr (tokens, defines, lexed, a)) (inr (others, also, too, b)) =
      let same = one_lexed text tokens others defines also lexed too in
      one_item_fault one_search text others number at other place (subst (λ (ts : List Token). IsFirstItemFault text ts number at) same.0 a) b

  -- ---- all texts

  pub one_reading : (texts : List (List ℕ)) (files others : List Items) → AreRead texts files → AreRead texts others → files ≡ others
  one_reading [] [] [] a b = refl
  one_reading [] [] (y ∷ others) a b = absurd b
  one_reading [] (x ∷ files) others a b = absurd a
  one_reading (text ∷ texts) [] others a b = absurd a
  one_reading (text ∷ texts) (x ∷ files) [] a b = absurd b
  one_reading (text ∷ texts) (x ∷ files) (y ∷ others) a b =
      ap (λ (z : Items). z ∷ files) (one_read text x y a.0 b.0) ∙ ap (λ (zs : List Items). y ∷ zs) (one_reading texts files others a.1 b.1)

  -- a text among those that are read has no fault
  read_at : (before : List (List ℕ)) (text : List ℕ) (after : List (List ℕ)) (files : List Items) (number at : ℕ) → AreRead (before ++ text ∷ after) files → IsTextFault text number at → ⊥
  read_at [] text after [] number at a fault = absurd a
  read_at [] text after (x ∷ files) number at a fault = read_no_fault text x number at a.0 fault
  read_at (one ∷ before) text after [] number at a fault = absurd a
  read_at (one ∷ before) text after (x ∷ files) number at a fault = read_at before text after files number at a.1 fault

  pub read_no_reading_fault : (texts : List (List ℕ)) (files : List Items) (fault : Fault) → AreRead texts files → IsReadingFault texts fault → ⊥
  read_no_reading_fault texts files fault a f =
      read_at f.before f.text f.after files fault.number fault.at (subst (λ (ts : List (List ℕ)). AreRead ts files) f.split a) f.first

  one_first : (before others : List (List ℕ)) (text too : List ℕ) (after rest : List (List ℕ)) (files more : List Items) (number at other place : ℕ)
      → before ++ text ∷ after ≡ others ++ too ∷ rest → AreRead before files → AreRead others more → IsTextFault text number at → IsTextFault too other place
      → (length before ≡ length others) × (number ≡ other) × (at ≡ place)
  one_first [] [] text too after rest files more number at other place e a b f g =
      let same = one_text_fault too number at other place (subst (λ (t : List ℕ). IsTextFault t number at) (head_same text too after rest e) f) g in (refl, same.0, same.1)
  one_first [] (y ∷ others) text too after rest files [] number at other place e a b f g = absurd b
  one_first [] (y ∷ others) text too after rest files (m ∷ more) number at other place e a b f g =
      absurd (read_no_fault text m number at (subst (λ (t : List ℕ). IsRead t m) (sym (head_same text y after (others ++ too ∷ rest) e)) b.0) f)
  one_first (x ∷ before) [] text too after rest [] more number at other place e a b f g = absurd a
  one_first (x ∷ before) [] text too after rest (m ∷ files) more number at other place e a b f g =
      absurd (read_no_fault too m other place (subst (λ (t : List ℕ). IsRead t m) (head_same x too (before ++ text ∷ after) rest e) a.0) g)
  one_first (x ∷ before) (y ∷ others) text too after rest [] more number at other place e a b f g = absurd a
  one_first (x ∷ before) (y ∷ others) text too after rest (m ∷ files) [] number at other place e a b f g = absurd b
  one_first (x ∷ before) (y ∷ others) text too after rest (m ∷ files) (n ∷ more) number at other place e a b f g =
      let same = one_first before others text too after rest files more number at other place (tail_same x y (before ++ text ∷ after) (others ++ too ∷ rest) e) a.1 b.1 f g in
      (ap (λ (k : ℕ). suc k) same.0, same.1, same.2)

  pub one_reading_fault : (texts : List (List ℕ)) (fault other : Fault) → IsReadingFault texts fault → IsReadingFault texts other → fault ≡ other
  one_reading_fault texts fault other a b =
      let same = one_first a.before b.before a.text b.text a.after b.after a.files b.files fault.number fault.at other.number other.at (sym a.split ∙ b.split) a.are_read b.are_read a.first b.first in
      same_fault fault other same.1 (a.file ∙ ap (λ (k : ℕ). k + 1) same.0 ∙ sym b.file) same.2
