-- A text has its tokens, or its first fault, and not both.
use Rattle.std.proofs.Common.{◌≡◌, ℕ, ◌+◌, true, List, [], ◌++◌, Result, Ok, Err, refl, sym, ap, subst, ◌∙◌, IsUtf8}
use Rattle.std.specs.Str.{chars}
use Rattle.std.specs.Prelude.{IfOk, IfErr}
use Rattle.std.proofs.lemmas.List.{append-nil}
use Rattle.gt_types.specs.declared.faults.Fault.{Fault}
use Rattle.gt_types.specs.declared.faults.Stop.{Stop}
use Rattle.gt_types.specs.declared.faults.Stop.TheVariants.{Memory, At}
use Rattle.gt_lex.specs.declared.tokens.Token.{Token}
use Rattle.gt_lex.specs.declared.tokens.Define.{Define}
use Rattle.gt_lex.specs.declared.tokens.Lexed.{Lexed}
use Rattle.gt_lex.specs.Characters.{byte_len}
use Rattle.gt_lex.specs.Parts.{Piece, text_of}
use Rattle.gt_lex.specs.Texts.{ArePieces, fresh_past, tokens_from, defines_from, HasFault, IsLexed, IsFirstFault, bad_utf8, following, IsStop, GivesTokens, GivesFault}
use Rattle.gt_lex.proofs.Unique.{at_end, at_fault, one_reading, no_fault_at_end, one_fault}

pub one_lexed : (text : List ℕ) (tokens others : List Token) (defines other_defines : List Define) → IsLexed text tokens defines → IsLexed text others other_defines → (tokens ≡ others) × (defines ≡ other_defines)
one_lexed text tokens others defines other_defines a b =
    let same : text_of a.pieces ++ [] ≡ text_of b.pieces ++ [] = append-nil (text_of a.pieces) ∙ sym a.whole ∙ b.whole ∙ sym (append-nil (text_of b.pieces)) in
    let one = one_reading true a.pieces b.pieces [] [] a.each b.each (at_end refl) (at_end refl) same in
    (a.tokens_are ∙ ap (tokens_from 0) one.0 ∙ sym b.tokens_are, a.defines_are ∙ ap (defines_from 0) one.0 ∙ sym b.defines_are)

pub lexed_no_fault : (text : List ℕ) (tokens : List Token) (defines : List Define) (number at : ℕ) → IsLexed text tokens defines → IsFirstFault text number at → ⊥
lexed_no_fault text tokens defines _ _ a (bad_utf8 none) = none a.utf8
lexed_no_fault text tokens defines _ _ a (following pieces rest number offset utf8 whole each fault) =
    let same : text_of a.pieces ++ [] ≡ text_of pieces ++ rest = append-nil (text_of a.pieces) ∙ sym a.whole ∙ whole in
    let one = one_reading true a.pieces pieces [] rest a.each each (at_end refl) (at_fault number offset fault) same in
    no_fault_at_end (fresh_past true pieces) number offset (subst (λ (x : List ℕ). HasFault (fresh_past true pieces) x number offset) (sym one.1) fault)

-- a fault after pieces
record After (text : List ℕ) (number at : ℕ) : Type 0 where
  pieces : List Piece
  rest : List ℕ
  offset : ℕ
  whole : chars text ≡ text_of pieces ++ rest
  each : ArePieces true pieces rest
  fault : HasFault (fresh_past true pieces) rest number offset
  at_is : at ≡ byte_len (text_of pieces) + offset

one_after : (text : List ℕ) (n k m j : ℕ) → After text n k → After text m j → (n ≡ m) × (k ≡ j)
one_after text n k m j a b =
    let one = one_reading true a.pieces b.pieces a.rest b.rest a.each b.each (at_fault n a.offset a.fault) (at_fault m b.offset b.fault) (sym a.whole ∙ b.whole) in
    let fault : HasFault (fresh_past true a.pieces) a.rest m b.offset =
    subst (λ (x : List ℕ). HasFault (fresh_past true a.pieces) x m b.offset) (sym one.1) (subst (λ (ps : List Piece). HasFault (fresh_past true ps) b.rest m b.offset) (sym one.0) b.fault) in
    let same = one_fault (fresh_past true a.pieces) a.rest n a.offset m b.offset a.fault fault in
    (same.0, a.at_is ∙ ap (λ (ps : List Piece). byte_len (text_of ps) + a.offset) one.0 ∙ ap (λ o. byte_len (text_of b.pieces) + o) same.1 ∙ sym b.at_is)

after_of : (text : List ℕ) (n k : ℕ) → IsUtf8 text → IsFirstFault text n k → After text n k
after_of text _ _ utf8 (bad_utf8 none) = absurd (none utf8)
after_of text _ _ utf8 (following pieces rest number offset is whole each fault) = record { pieces = pieces; rest = rest; offset = offset; whole = whole; each = each; fault = fault; at_is = refl }

pub one_first_fault : (text : List ℕ) (n k m j : ℕ) → IsFirstFault text n k → IsFirstFault text m j → (n ≡ m) × (k ≡ j)
one_first_fault text _ _ _ _ (bad_utf8 none) (bad_utf8 also_none) = (refl, refl)
one_first_fault text _ _ _ _ (bad_utf8 none) (following pieces rest number offset utf8 whole each fault) = absurd (none utf8)
one_first_fault text _ _ m j (following pieces rest number offset utf8 whole each fault) other =
    one_after text number (byte_len (text_of pieces) + offset) m j (record { pieces = pieces; rest = rest; offset = offset; whole = whole; each = each; fault = fault; at_is = refl }) (after_of text m j utf8 other)

-- ---- what an answer gives

pub gives_tokens : (file : ℕ) (text : List ℕ) (result : Result Lexed Stop) (tokens : List Token) (defines : List Define) → IfOk result (λ lexed. IsLexed text lexed.tokens lexed.defines) → IfErr result (IsStop file text) → IsLexed text tokens defines → GivesTokens result tokens defines
gives_tokens file text (Ok lexed) tokens defines ok err is = one_lexed text lexed.tokens tokens lexed.defines defines ok is
gives_tokens file text (Err Memory) tokens defines ok err is = tt
gives_tokens file text (Err (At fault)) tokens defines ok err is = lexed_no_fault text tokens defines fault.number fault.at is err.1

fault_same : (f g : Fault) → f.number ≡ g.number → f.file ≡ g.file → f.at ≡ g.at → f ≡ g
fault_same f g a b c = λ i. record { number = a i; file = b i; at = c i }

pub gives_fault : (file : ℕ) (text : List ℕ) (result : Result Lexed Stop) (is : Fault) → IfOk result (λ lexed. IsLexed text lexed.tokens lexed.defines) → IfErr result (IsStop file text) → is.file ≡ file → IsFirstFault text is.number is.at → GivesFault result is
gives_fault file text (Ok lexed) is ok err same fault = lexed_no_fault text lexed.tokens lexed.defines is.number is.at ok fault
gives_fault file text (Err Memory) is ok err same fault = tt
gives_fault file text (Err (At found)) is ok err same fault =
    let one = one_first_fault text found.number found.at is.number is.at err.1 fault in
    fault_same found is one.0 (err.0 ∙ sym same) one.1
