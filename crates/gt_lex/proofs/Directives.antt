-- What is read of a directive, part by part.
use Rattle.std.proofs.Common.{◌≡◌, ◌≢◌, ℕ, ◌+◌, ◌-◌, ◌<◌, ◌≤◌, Bool, List, [], ◌∷◌, ◌++◌, length, take, Option, Some, None, refl, sym, ap, subst, ◌∙◌, append_assoc, add-zero, arith, IsUtf8}
use Rattle.std.specs.Prelude.{fold, encode_utf8_all}
use Rattle.std.specs.Str.{chars}
use Rattle.std.proofs.lemmas.Bool.{false≢true}
use Rattle.std.proofs.lemmas.Grind.{fold-append}
use Rattle.std.proofs.lemmas.List.{append-nil}
use Rattle.gt_lex.specs.declared.starts.Start.{Start}
use Rattle.gt_lex.specs.declared.starts.Start.TheVariants as start
use Rattle.gt_lex.specs.declared.tokens.Kind.TheVariants.{Ident, Number, Quoted, CharLit, Punct}
use Rattle.gt_lex.specs.declared.constants.Seen.{Seen}
use Rattle.gt_lex.specs.declared.constants.Seen.TheVariants.{Nothing}
use Rattle.gt_lex.specs.Characters.{byte_len, star, slash, backslash}
use Rattle.gt_lex.specs.Starts.{directive_start}
use Rattle.gt_lex.specs.Extents.{Reaches, IsOpenComment}
use Rattle.gt_lex.specs.Parts.{Part, Space, Block, Line, Continuation, Item, spelling, spellings}
use Rattle.gt_lex.specs.Constants.{Lexeme, lexeme_at, lexemes_from}
use Rattle.gt_lex.specs.Texts.{start_of, AreInDirective}
use Rattle.gt_lex.specs.Seen.{then_of, seen_with, constant_seen}
use Rattle.gt_lex.specs.Progress.{IsDirective, StopsInDirective}
use Rattle.gt_lex.specs.declared.tokens.Define.{Define}
use Rattle.gt_lex.proofs.SeenTokens.{constant_of-seen}
use Rattle.gt_lex.specs.Reading.{rest_of}
use Rattle.gt_lex.proofs.Again.{number_begins}
use Rattle.gt_lex.proofs.Opening.{Opens, directive_opens, directive_ends, BeginsInDirective, directive_begins}
use Rattle.gt_lex.proofs.Parts.{takes, IsOpen, opened}
use Rattle.gt_lex.proofs.Offsets.{byte_len-append, length_before, taken_before, byte_len_positive}

-- a part has a character
pub spelling_positive : (p : Part) (rest : List ℕ) → Reaches p rest → 0 < byte_len (spelling p)
spelling_positive (Space c) rest is = byte_len_positive c []
spelling_positive (Block inside) rest is = byte_len_positive slash (star ∷ (inside ++ star ∷ slash ∷ []))
spelling_positive (Line inside) rest is = byte_len_positive slash (slash ∷ inside)
spelling_positive (Continuation end) rest is = byte_len_positive backslash end
spelling_positive (Item kind (c ∷ cs)) rest is = byte_len_positive c cs
spelling_positive (Item Ident []) rest is = absurd is.fits
spelling_positive (Item Number []) rest is = absurd (false≢true (number_begins [] is.fits))
spelling_positive (Item Quoted []) rest is = let h = is.2 in absurd cc
spelling_positive (Item CharLit []) rest is = let h = is.2 in absurd cc
spelling_positive (Item Punct []) rest is = absurd (omega arith)

-- ---- one more part at the end

spellings-push : (ps : List Part) (p : Part) (rest : List ℕ) → spellings (ps ++ p ∷ []) ++ rest ≡ spellings ps ++ (spelling p ++ rest)
spellings-push [] p rest = append_assoc (spelling p) [] rest
spellings-push (q ∷ ps) p rest =
    append_assoc (spelling q) (spellings (ps ++ p ∷ [])) rest ∙ ap (λ (x : List ℕ). spelling q ++ x) (spellings-push ps p rest) ∙ sym (append_assoc (spelling q) (spellings ps) (spelling p ++ rest))

byte_len-spellings-push : (ps : List Part) (p : Part) → byte_len (spellings (ps ++ p ∷ [])) ≡ byte_len (spellings ps) + byte_len (spelling p)
byte_len-spellings-push ps p =
    ap byte_len (sym (append-nil (spellings (ps ++ p ∷ []))) ∙ spellings-push ps p [] ∙ ap (λ (x : List ℕ). spellings ps ++ x) (append-nil (spelling p)))
    ∙ byte_len-append (spellings ps) (spelling p)

AreInDirective-push : (ps : List Part) (p : Part) (rest : List ℕ) → AreInDirective ps (spelling p ++ rest) → directive_start (spelling p ++ rest) ≡ start_of p → Reaches p rest → AreInDirective (ps ++ p ∷ []) rest
AreInDirective-push [] p rest each begins reaches = (begins, reaches, tt)
AreInDirective-push (q ∷ ps) p rest each begins reaches =
    let same = spellings-push ps p rest in (
      subst (λ (x : List ℕ). directive_start (spelling q ++ x) ≡ start_of q) (sym same) each.0,
      subst (λ (x : List ℕ). Reaches q x) (sym same) each.1,
      AreInDirective-push ps p rest each.2 begins reaches,
    )

lexemes_from-push : (at : ℕ) (ps : List Part) (p : Part) → lexemes_from at (ps ++ p ∷ []) ≡ lexemes_from at ps ++ lexeme_at (at + byte_len (spellings ps)) p
lexemes_from-push at [] p = append-nil (lexeme_at at p) ∙ ap (λ n. lexeme_at n p) (sym (add-zero at))
lexemes_from-push at (q ∷ ps) p =
    let places : at + byte_len (spelling q) + byte_len (spellings ps) ≡ at + byte_len (spelling q ++ spellings ps) = omega (arith, byte_len-append (spelling q) (spellings ps)) in
    ap (λ (x : List Lexeme). lexeme_at at q ++ x) (lexemes_from-push (at + byte_len (spelling q)) ps p ∙ ap (λ n. lexemes_from (at + byte_len (spelling q)) ps ++ lexeme_at n p) places)
    ∙ sym (append_assoc (lexeme_at at q) (lexemes_from (at + byte_len (spelling q)) ps) (lexeme_at (at + byte_len (spelling q ++ spellings ps)) p))

-- ---- the loop

-- the parts of a directive up to a rest of it, and the tokens among them
pub record SoFar (whole : ℕ) (text : List ℕ) (seen : Seen) (rest : List ℕ) : Type 0 where
  pub parts : List Part
  pub whole_is : chars text ≡ spellings parts ++ chars rest
  pub each : AreInDirective parts (chars rest)
  pub seen_is : seen ≡ fold then_of Nothing (lexemes_from (whole - length text) parts)
  pub utf8 : IsUtf8 rest

module _ {whole : ℕ} {text rest : List ℕ} {seen : Seen} (text_utf8 : IsUtf8 text) (so_far : SoFar whole text seen rest) where
  pub rest_within : length rest ≤ length text
  rest_within = omega (arith, length_before text (spellings so_far.parts) rest text_utf8 so_far.utf8 so_far.whole_is)

  -- the offset of the rest
  rest_at : length text ≤ whole → whole - length text + byte_len (spellings so_far.parts) ≡ whole - length rest
  rest_at within = omega (arith, length_before text (spellings so_far.parts) rest text_utf8 so_far.utf8 so_far.whole_is)

seen_one_more : (seen : Seen) (p : Part) (at : ℕ) → fold then_of seen (lexeme_at at p) ≡ seen_with seen (start_of p) (encode_utf8_all (spelling p)) at
seen_one_more seen (Space c) at = refl
seen_one_more seen (Block inside) at = refl
seen_one_more seen (Line inside) at = refl
seen_one_more seen (Continuation end) at = refl
seen_one_more seen (Item kind cs) at = refl

-- the tokens after one more part
seen-push : (at : ℕ) (ps : List Part) (p : Part) → fold then_of Nothing (lexemes_from at (ps ++ p ∷ [])) ≡ seen_with (fold then_of Nothing (lexemes_from at ps)) (start_of p) (encode_utf8_all (spelling p)) (at + byte_len (spellings ps))
seen-push at ps p =
    ap (fold then_of Nothing) (lexemes_from-push at ps p)
    ∙ fold-append then_of Nothing (lexemes_from at ps) (lexeme_at (at + byte_len (spellings ps)) p)
    ∙ seen_one_more (fold then_of Nothing (lexemes_from at ps)) p (at + byte_len (spellings ps))

-- one part was read
pub record Read (rest after : List ℕ) (s : Start) : Type 0 where
  pub part : Part
  pub parts : chars rest ≡ spelling part ++ chars after
  pub begins : start_of part ≡ s
  pub begins_at : directive_start (chars rest) ≡ s
  pub reaches : Reaches part (chars after)
  pub rest_utf8 : IsUtf8 rest
  pub utf8 : IsUtf8 after

pub read_part : (rest after : List ℕ) (s : Start) (lines : Bool) → IsUtf8 rest → IsUtf8 after → directive_start (chars rest) ≡ s → rest_of s (chars rest) ≡ Some (lines, chars after) → Read rest after s
read_part rest after s lines rest_utf8 utf8 begins e =
    let taken = takes s (chars rest) lines (chars after) (subst (λ (b : Start). Opens b (chars rest)) begins (directive_opens (chars rest))) e in
    record { part = taken.part; parts = taken.parts; begins = taken.begins; begins_at = begins; reaches = taken.reaches; rest_utf8 = rest_utf8; utf8 = utf8 }

pub read_shorter : (rest after : List ℕ) (s : Start) → Read rest after s → length after < length rest
read_shorter rest after s read =
    omega (arith, length_before rest (spelling read.part) after read.rest_utf8 read.utf8 read.parts, spelling_positive read.part (chars after) read.reaches)

pub SoFar-step : (whole : ℕ) (text rest after : List ℕ) (seen next : Seen) (s : Start) (at : ℕ) (bytes : List ℕ) → IsUtf8 text → length text ≤ whole → SoFar whole text seen rest → Read rest after s
    → at ≡ whole - length rest → bytes ≡ take (length rest - length after) rest → next ≡ seen_with seen s bytes at → SoFar whole text next after
SoFar-step whole text rest after seen next s at bytes text_utf8 within so_far read at_is bytes_are next_is =
    let p = read.part in
    let begins : directive_start (spelling p ++ chars after) ≡ start_of p = sym (ap directive_start read.parts) ∙ read.begins_at ∙ sym read.begins in
    let place : whole - length text + byte_len (spellings so_far.parts) ≡ at = rest_at text_utf8 so_far within ∙ sym at_is in
    let spelled : encode_utf8_all (spelling p) ≡ bytes = sym (bytes_are ∙ taken_before rest (spelling p) after read.rest_utf8 read.utf8 read.parts) in
    record {
      parts = so_far.parts ++ p ∷ [];
      whole_is = so_far.whole_is ∙ ap (λ (x : List ℕ). spellings so_far.parts ++ x) read.parts ∙ sym (spellings-push so_far.parts p (chars after));
      each = AreInDirective-push so_far.parts p (chars after) (subst (AreInDirective so_far.parts) read.parts so_far.each) begins read.reaches;
      seen_is = next_is ∙ ap (λ x. seen_with x s bytes at) so_far.seen_is ∙ sym (seen-push (whole - length text) so_far.parts p ∙ rw (read.begins, spelled, place) refl);
      utf8 = read.utf8;
    }

pub SoFar-start : (whole : ℕ) (text : List ℕ) → IsUtf8 text → SoFar whole text Nothing text
SoFar-start whole text utf8 = record { parts = []; whole_is = refl; each = tt; seen_is = refl; utf8 = utf8 }

-- ---- the two ends

only_comments : (s : Start) (c : ℕ) (cs : List ℕ) → BeginsInDirective s → s ≢ start.End → IsOpen s (c ∷ cs) → IsOpenComment (c ∷ cs)
only_comments start.End c cs begins not_end is = absurd (not_end refl)
only_comments start.Space c cs begins not_end is = absurd is
only_comments start.Block c cs begins not_end is = is
only_comments start.Line c cs begins not_end is = absurd is
only_comments start.Continuation c cs begins not_end is = absurd is
only_comments start.Directive c cs begins not_end is = absurd begins
only_comments start.BadNumber c cs begins not_end is = absurd begins
only_comments (start.Token Ident) c cs begins not_end is = absurd is
only_comments (start.Token Number) c cs begins not_end is = absurd is
only_comments (start.Token Quoted) c cs begins not_end is = absurd begins
only_comments (start.Token CharLit) c cs begins not_end is = absurd begins
only_comments (start.Token Punct) c cs begins not_end is = absurd is

-- where something begins in a directive and is not read to its end, a comment is open
pub directive_open : (cs : List ℕ) (s : Start) → directive_start cs ≡ s → s ≢ start.End → rest_of s cs ≡ None → IsOpenComment cs
directive_open [] s begins not_end none = absurd (not_end (sym begins))
directive_open (c ∷ cs) s begins not_end none =
    only_comments s c cs (subst BeginsInDirective begins (directive_begins (c ∷ cs))) not_end
    (opened s c cs (subst (λ (b : Start). Opens b (c ∷ cs)) begins (directive_opens (c ∷ cs))) none)

pub is_directive : (whole : ℕ) (text rest : List ℕ) (seen : Seen) (constant : Option Define) → SoFar whole text seen rest → directive_start (chars rest) ≡ start.End → constant ≡ constant_seen seen → IsDirective (whole - length text) text constant rest
is_directive whole text rest seen constant so_far ends constant_is = record {
  parts = so_far.parts;
  whole = so_far.whole_is;
  each = so_far.each;
  ends = directive_ends (chars rest) ends;
  constant_is = constant_is ∙ ap constant_seen so_far.seen_is ∙ sym (constant_of-seen (lexemes_from (whole - length text) so_far.parts));
  utf8 = so_far.utf8;
}

pub stops_in_directive : (whole : ℕ) (text rest : List ℕ) (seen : Seen) (s : Start) → SoFar whole text seen rest → directive_start (chars rest) ≡ s → s ≢ start.End → rest_of s (chars rest) ≡ None → StopsInDirective text rest
stops_in_directive whole text rest seen s so_far begins not_end none = record {
  parts = so_far.parts;
  whole = so_far.whole_is;
  each = so_far.each;
  stops = directive_open (chars rest) s begins not_end none;
  utf8 = so_far.utf8;
}
