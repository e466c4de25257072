-- What is read of a text, piece by piece.
use Rattle.std.proofs.Common.{◌≡◌, ℕ, ◌+◌, ◌-◌, ◌<◌, ◌≤◌, Bool, true, List, [], ◌∷◌, ◌++◌, length, refl, sym, ap, subst, ◌∙◌, append_assoc, add-zero, arith, IsUtf8}
use Rattle.std.specs.Str.{chars}
use Rattle.std.proofs.lemmas.List.{append-nil}
use Rattle.gt_lex.specs.declared.tokens.Token.{Token}
use Rattle.gt_lex.specs.declared.tokens.Define.{Define}
use Rattle.gt_lex.specs.declared.pieces.Found.{Found}
use Rattle.gt_lex.specs.Characters.{hash, byte_len}
use Rattle.gt_lex.specs.Parts.{Piece, Plain, Directive, spellings, piece_spelling, text_of}
use Rattle.gt_lex.specs.Texts.{Stands, ArePieces, fresh_after, fresh_past, token_at, tokens_from, define_at, defines_from, IsLexed, IsFirstFault, following, HasFault}
use Rattle.gt_lex.specs.Progress.{fresh_with, tokens_with, defines_with, IsNext, IsRefused}
use Rattle.gt_lex.proofs.Offsets.{byte_len-append, length_before, byte_len_positive}
use Rattle.gt_lex.proofs.Directives.{spelling_positive}

-- ---- one more piece at the end

pub text_of-push : (ps : List Piece) (p : Piece) (rest : List ℕ) → text_of (ps ++ p ∷ []) ++ rest ≡ text_of ps ++ (piece_spelling p ++ rest)
text_of-push [] p rest = append_assoc (piece_spelling p) [] rest
text_of-push (q ∷ ps) p rest =
    append_assoc (piece_spelling q) (text_of (ps ++ p ∷ [])) rest ∙ ap (λ (x : List ℕ). piece_spelling q ++ x) (text_of-push ps p rest)
    ∙ sym (append_assoc (piece_spelling q) (text_of ps) (piece_spelling p ++ rest))

pub ArePieces-push : (fresh : Bool) (ps : List Piece) (p : Piece) (rest : List ℕ) → ArePieces fresh ps (piece_spelling p ++ rest) → Stands (fresh_past fresh ps) p rest → ArePieces fresh (ps ++ p ∷ []) rest
ArePieces-push fresh [] p rest each stands = (stands, tt)
ArePieces-push fresh (q ∷ ps) p rest each stands =
    (subst (λ (x : List ℕ). Stands fresh q x) (sym (text_of-push ps p rest)) each.0, ArePieces-push (fresh_after fresh q) ps p rest each.1 stands)

pub fresh_past-push : (fresh : Bool) (ps : List Piece) (p : Piece) → fresh_past fresh (ps ++ p ∷ []) ≡ fresh_after (fresh_past fresh ps) p
fresh_past-push fresh [] p = refl
fresh_past-push fresh (q ∷ ps) p = fresh_past-push (fresh_after fresh q) ps p

places : (at : ℕ) (q : Piece) (ps : List Piece) → at + byte_len (piece_spelling q) + byte_len (text_of ps) ≡ at + byte_len (piece_spelling q ++ text_of ps)
places at q ps = omega (arith, byte_len-append (piece_spelling q) (text_of ps))

tokens_from-push : (at : ℕ) (ps : List Piece) (p : Piece) → tokens_from at (ps ++ p ∷ []) ≡ tokens_from at ps ++ token_at (at + byte_len (text_of ps)) p
tokens_from-push at [] p = append-nil (token_at at p) ∙ ap (λ n. token_at n p) (sym (add-zero at))
tokens_from-push at (q ∷ ps) p =
    ap (λ (x : List Token). token_at at q ++ x) (tokens_from-push (at + byte_len (piece_spelling q)) ps p ∙ ap (λ n. tokens_from (at + byte_len (piece_spelling q)) ps ++ token_at n p) (places at q ps))
    ∙ sym (append_assoc (token_at at q) (tokens_from (at + byte_len (piece_spelling q)) ps) (token_at (at + byte_len (piece_spelling q ++ text_of ps)) p))

defines_from-push : (at : ℕ) (ps : List Piece) (p : Piece) → defines_from at (ps ++ p ∷ []) ≡ defines_from at ps ++ define_at (at + byte_len (text_of ps)) p
defines_from-push at [] p = append-nil (define_at at p) ∙ ap (λ n. define_at n p) (sym (add-zero at))
defines_from-push at (q ∷ ps) p =
    ap (λ (x : List Define). define_at at q ++ x) (defines_from-push (at + byte_len (piece_spelling q)) ps p ∙ ap (λ n. defines_from (at + byte_len (piece_spelling q)) ps ++ define_at n p) (places at q ps))
    ∙ sym (append_assoc (define_at at q) (defines_from (at + byte_len (piece_spelling q)) ps) (define_at (at + byte_len (piece_spelling q ++ text_of ps)) p))

-- a piece has a character
pub piece_positive : (fresh : Bool) (p : Piece) (rest : List ℕ) → Stands fresh p rest → 0 < byte_len (piece_spelling p)
piece_positive fresh (Plain p) rest stands = spelling_positive p rest stands.1
piece_positive fresh (Directive ps) rest stands = byte_len_positive hash (spellings ps)

-- ---- the loop

-- the pieces of a text up to a rest of it, and what they give
pub record SoFar (text : List ℕ) (fresh : Bool) (tokens : List Token) (defines : List Define) (rest : List ℕ) : Type 0 where
  pub pieces : List Piece
  pub whole : chars text ≡ text_of pieces ++ chars rest
  pub each : ArePieces true pieces (chars rest)
  pub fresh_is : fresh ≡ fresh_past true pieces
  pub tokens_are : tokens ≡ tokens_from 0 pieces
  pub defines_are : defines ≡ defines_from 0 pieces
  pub utf8 : IsUtf8 rest

pub SoFar-start : (text : List ℕ) → IsUtf8 text → SoFar text true [] [] text
SoFar-start text utf8 = record { pieces = []; whole = refl; each = tt; fresh_is = refl; tokens_are = refl; defines_are = refl; utf8 = utf8 }

module _ {text rest : List ℕ} {fresh : Bool} {tokens : List Token} {defines : List Define} (text_utf8 : IsUtf8 text) (so_far : SoFar text fresh tokens defines rest) where
  pub rest_within : length rest ≤ length text
  rest_within = omega (arith, length_before text (text_of so_far.pieces) rest text_utf8 so_far.utf8 so_far.whole)

  rest_at : byte_len (text_of so_far.pieces) ≡ length text - length rest
  rest_at = omega (arith, length_before text (text_of so_far.pieces) rest text_utf8 so_far.utf8 so_far.whole)

  -- a piece is shorter than what it is at the front of
  pub next_shorter : (at : ℕ) (found : Found) (after : List ℕ) → IsNext at fresh rest found after → length after < length rest
  next_shorter at found after next =
      omega (arith, length_before rest (piece_spelling next.piece) after so_far.utf8 next.utf8 next.whole, piece_positive fresh next.piece (chars after) next.stands)

  -- the text's end
  pub is_lexed : chars rest ≡ [] → IsLexed text tokens defines
  is_lexed ends = record {
    utf8 = text_utf8;
    pieces = so_far.pieces;
    whole = so_far.whole ∙ ap (λ (x : List ℕ). text_of so_far.pieces ++ x) ends ∙ append-nil (text_of so_far.pieces);
    each = subst (λ (x : List ℕ). ArePieces true so_far.pieces x) ends so_far.each;
    tokens_are = so_far.tokens_are;
    defines_are = so_far.defines_are;
  }

  -- a fault
  pub is_first_fault : (number at : ℕ) (fault : List ℕ) → IsRefused fresh rest number fault → at ≡ length text - length fault → IsFirstFault text number at
  is_first_fault number at fault refused at_is =
      let offset : byte_len (text_of so_far.pieces) + (length rest - length fault) ≡ at = omega (arith, rest_at, refused.within, rest_within) in
      subst (λ (n : ℕ). IsFirstFault text number n) offset
      (following so_far.pieces (chars rest) number (length rest - length fault) text_utf8 so_far.whole so_far.each
      (subst (λ (b : Bool). HasFault b (chars rest) number (length rest - length fault)) so_far.fresh_is refused.fault))

token_here : (found : Found) (p : Piece) (start at : ℕ) → start ≡ at → tokens_with found at (at + byte_len (piece_spelling p)) ≡ token_at at p → tokens_with found start (start + byte_len (piece_spelling p)) ≡ token_at start p
token_here found p start at e h = subst (λ (n : ℕ). tokens_with found n (n + byte_len (piece_spelling p)) ≡ token_at n p) (sym e) h

-- one more piece
pub SoFar-step : (text rest after : List ℕ) (fresh next_fresh : Bool) (tokens next_tokens : List Token) (defines next_defines : List Define) (found : Found) (start end : ℕ) → IsUtf8 text → SoFar text fresh tokens defines rest
    → IsNext (length text - length rest) fresh rest found after → start ≡ length text - length rest → end ≡ length text - length after
    → next_tokens ≡ tokens ++ tokens_with found start end → next_defines ≡ defines ++ defines_with found → next_fresh ≡ fresh_with fresh found → SoFar text next_fresh next_tokens next_defines after
SoFar-step text rest after fresh next_fresh tokens next_tokens defines next_defines found start end text_utf8 so_far next start_is end_is tokens_are defines_are fresh_is =
    let p = next.piece in
    let ps = so_far.pieces in
    let here : byte_len (text_of ps) ≡ start = rest_at text_utf8 so_far ∙ sym start_is in
    let at_end : start ≡ 0 + byte_len (text_of ps) = omega (arith, here) in
    let there : end ≡ start + byte_len (piece_spelling p) =
    omega (arith, length_before rest (piece_spelling p) after so_far.utf8 next.utf8 next.whole, rest_within text_utf8 so_far, start_is, end_is) in
    record {
      pieces = ps ++ p ∷ [];
      whole = so_far.whole ∙ ap (λ (x : List ℕ). text_of ps ++ x) next.whole ∙ sym (text_of-push ps p (chars after));
      each = ArePieces-push true ps p (chars after) (subst (λ (x : List ℕ). ArePieces true ps x) next.whole so_far.each) (subst (λ (b : Bool). Stands b p (chars after)) so_far.fresh_is next.stands);
      fresh_is = fresh_is ∙ next.fresh_is ∙ ap (λ b. fresh_after b p) so_far.fresh_is ∙ sym (fresh_past-push true ps p);
      tokens_are = tokens_are ∙ ap (λ (x : List Token). x ++ tokens_with found start end) so_far.tokens_are
          ∙ ap (λ (x : List Token). tokens_from 0 ps ++ x) (ap (tokens_with found start) there ∙ token_here found p start (length text - length rest) start_is next.tokens ∙ ap (λ n. token_at n p) at_end)
          ∙ sym (tokens_from-push 0 ps p);
      defines_are = defines_are ∙ ap (λ (x : List Define). x ++ defines_with found) so_far.defines_are
          ∙ ap (λ (x : List Define). defines_from 0 ps ++ x) (next.defines ∙ ap (λ n. define_at n p) (sym start_is ∙ at_end))
          ∙ sym (defines_from-push 0 ps p);
      utf8 = next.utf8;
    }
