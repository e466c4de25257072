-- What stands at the front of a text.
use Rattle.std.proofs.Common.{◌≡◌, ◌≢◌, ℕ, ◌+◌, ◌-◌, ◌≤◌, Bool, true, false, List, [], ◌∷◌, ◌++◌, length, drop, Option, Some, None, refl, sym, ap, subst, ◌∙◌, arith, lit<, IsUtf8}
use Rattle.std.specs.Prelude.{◌||◌, IsTrue}
use Rattle.std.specs.Option.{option_to_list}
use Rattle.std.specs.Str.{chars}
use Rattle.std.proofs.lemmas.Str.{encode_ascii}
use Rattle.gt_lex.specs.declared.starts.Start.{Start}
use Rattle.gt_lex.specs.declared.starts.Start.TheVariants as start
use Rattle.gt_lex.specs.declared.tokens.Kind.TheVariants.{Ident, Number, Quoted, CharLit, Punct}
use Rattle.gt_lex.specs.declared.tokens.Define.{Define}
use Rattle.gt_lex.specs.declared.pieces.Found.TheVariants as found
use Rattle.gt_lex.specs.Characters.{has_newline, hash, byte_len}
use Rattle.gt_lex.specs.Starts.{text_start}
use Rattle.gt_lex.specs.Parts.{Part, Space, Block, Line, Continuation, Item, Plain, Directive, spelling, spellings}
use Rattle.gt_lex.specs.Constants.{lexemes_from, constant_of}
use Rattle.gt_lex.specs.Texts.{start_of, is_item, fresh_after, token_at, HasFault, open_comment, open_comment_in_directive, open_string, open_character, bad_number}
use Rattle.gt_lex.specs.Reading.{rest_of}
use Rattle.gt_lex.specs.Progress.{IsDirective, StopsInDirective, found_of, open_fault_of, fresh_with, tokens_with, defines_with, IsNext, IsRefused}
use Rattle.gt_lex.proofs.Opening.{Opens, text_opens, first_split, OpensDirective, directive_fresh}
use Rattle.gt_lex.proofs.Parts.{Taken, takes, IsOpen, opened}
use Rattle.gt_lex.proofs.Offsets.{length_before}

-- a fault at the front
pub refused_here : (fresh : Bool) (text : List ℕ) (number : ℕ) → HasFault fresh (chars text) number 0 → IsRefused fresh text number text
refused_here fresh text number fault = record {
  within = omega arith;
  fault = let none : 0 ≡ length text - length text = omega arith in subst (λ (n : ℕ). HasFault fresh (chars text) number n) none fault;
}

-- ---- a directive

-- a `#`, and the text after it
pub record IsHashed (fresh : Bool) (text following : List ℕ) : Type 0 where
  pub is_fresh : IsTrue fresh
  pub whole : chars text ≡ hash ∷ chars following
  pub long : length text ≡ 1 + length following

pub one_byte : byte_len (hash ∷ []) ≡ 1
one_byte = ap (λ (x : List ℕ). length (x ++ [])) (encode_ascii hash (lit< tt))

pub hashed : (fresh : Bool) (text following : List ℕ) → IsUtf8 text → IsUtf8 following → text_start fresh (chars text) ≡ start.Directive → chars following ≡ drop 1 (chars text) → IsHashed fresh text following
hashed fresh text following text_utf8 utf8 begins tail =
    let opens = subst (λ (b : Start). OpensDirective fresh (chars text) b) begins (directive_fresh fresh (chars text)) in
    let split = first_split hash (chars text) opens.1 in
    let whole : chars text ≡ (hash ∷ []) ++ chars following = split.1 ∙ ap (λ (x : List ℕ). hash ∷ x) (sym (tail ∙ ap (drop 1) split.1)) in
    record { is_fresh = opens.0; whole = whole; long = length_before text (hash ∷ []) following text_utf8 utf8 whole ∙ ap (λ n. n + length following) one_byte }

pub next_directive : (whole : ℕ) (fresh : Bool) (text following rest : List ℕ) (constant : Option Define) → length text ≤ whole → IsHashed fresh text following → IsDirective (whole - length following) following constant rest
    → IsNext (whole - length text) fresh text (found.Directive constant) rest
next_directive whole fresh text following rest constant within hash_is is =
    let offset : whole - length following ≡ whole - length text + 1 = omega (arith, hash_is.long) in
    record {
      piece = Directive is.parts;
      whole = hash_is.whole ∙ ap (λ (x : List ℕ). hash ∷ x) is.whole;
      stands = (hash_is.is_fresh, is.each, is.ends);
      tokens = refl;
      defines = ap option_to_list (is.constant_is ∙ ap (λ n. constant_of (lexemes_from n is.parts)) offset);
      fresh_is = rw hash_is.is_fresh refl;
      utf8 = is.utf8;
    }

pub refused_directive : (fresh : Bool) (text following open_at : List ℕ) → IsUtf8 following → IsHashed fresh text following → StopsInDirective following open_at → IsRefused fresh text 2 open_at
refused_directive fresh text following open_at utf8 hash_is stops =
    let len = length_before following (spellings stops.parts) open_at utf8 stops.utf8 stops.whole in
    let offset : 1 + byte_len (spellings stops.parts) ≡ length text - length open_at = omega (arith, hash_is.long) in
    record {
      within = omega (arith, hash_is.long);
      fault = subst (λ (n : ℕ). HasFault fresh (chars text) 2 n) offset
          (open_comment_in_directive stops.parts (chars open_at) hash_is.is_fresh (hash_is.whole ∙ ap (λ (x : List ℕ). hash ∷ x) stops.whole) stops.each stops.stops);
    }

-- ---- other pieces

tokens_found : (p : Part) (newline : Bool) (at : ℕ) → tokens_with (found_of (start_of p) newline) at (at + byte_len (spelling p)) ≡ token_at at (Plain p)
tokens_found (Space c) newline at = refl
tokens_found (Block inside) newline at = refl
tokens_found (Line inside) newline at = refl
tokens_found (Continuation end) newline at = refl
tokens_found (Item kind cs) newline at = refl

defines_found : (p : Part) (newline : Bool) → defines_with (found_of (start_of p) newline) ≡ []
defines_found (Space c) newline = refl
defines_found (Block inside) newline = refl
defines_found (Line inside) newline = refl
defines_found (Continuation end) newline = refl
defines_found (Item kind cs) newline = refl

fresh_found : (fresh : Bool) (p : Part) (newline : Bool) → (is_item p ≡ false → newline ≡ has_newline (spelling p)) → fresh_with fresh (found_of (start_of p) newline) ≡ fresh_after fresh (Plain p)
fresh_found fresh (Space c) newline lines = ap (λ b. fresh || b) (lines refl)
fresh_found fresh (Block inside) newline lines = ap (λ b. fresh || b) (lines refl)
fresh_found fresh (Line inside) newline lines = ap (λ b. fresh || b) (lines refl)
fresh_found fresh (Continuation end) newline lines = ap (λ b. fresh || b) (lines refl)
fresh_found fresh (Item kind cs) newline lines = refl

pub next_part : (at : ℕ) (fresh newline : Bool) (text rest : List ℕ) (s : Start) → IsUtf8 rest → text_start fresh (chars text) ≡ s → rest_of s (chars text) ≡ Some (newline, chars rest) → IsNext at fresh text (found_of s newline) rest
next_part at fresh newline text rest s utf8 begins e =
    let taken : Taken s (chars text) newline (chars rest) = takes s (chars text) newline (chars rest) (subst (λ (b : Start). Opens b (chars text)) begins (text_opens fresh (chars text))) e in
    let p = taken.part in
    subst (λ (b : Start). IsNext at fresh text (found_of b newline) rest) taken.begins
    (record {
      piece = Plain p;
      whole = taken.parts;
      stands = (sym (ap (text_start fresh) taken.parts) ∙ begins ∙ sym taken.begins, taken.reaches);
      tokens = tokens_found p newline at;
      defines = defines_found p newline;
      fresh_is = fresh_found fresh p newline taken.lines;
      utf8 = utf8;
    })

open_fault : (fresh : Bool) (s : Start) (cs : List ℕ) → s ≢ start.End → s ≢ start.BadNumber → s ≢ start.Directive → IsOpen s cs → HasFault fresh cs (open_fault_of s) 0
open_fault fresh start.End cs not_end not_bad not_directive is = absurd (not_end refl)
open_fault fresh start.Space cs not_end not_bad not_directive is = absurd is
open_fault fresh start.Block cs not_end not_bad not_directive is = open_comment is
open_fault fresh start.Line cs not_end not_bad not_directive is = absurd is
open_fault fresh start.Continuation cs not_end not_bad not_directive is = absurd is
open_fault fresh start.Directive cs not_end not_bad not_directive is = absurd (not_directive refl)
open_fault fresh start.BadNumber cs not_end not_bad not_directive is = absurd (not_bad refl)
open_fault fresh (start.Token Ident) cs not_end not_bad not_directive is = absurd is
open_fault fresh (start.Token Number) cs not_end not_bad not_directive is = absurd is
open_fault fresh (start.Token Quoted) cs not_end not_bad not_directive is = open_string is
open_fault fresh (start.Token CharLit) cs not_end not_bad not_directive is = open_character is
open_fault fresh (start.Token Punct) cs not_end not_bad not_directive is = absurd is

nothing_begins : (fresh : Bool) → text_start fresh [] ≡ start.End
nothing_begins true = refl
nothing_begins false = refl

pub open_at_front : (fresh : Bool) (s : Start) (cs : List ℕ) → text_start fresh cs ≡ s → s ≢ start.End → s ≢ start.BadNumber → s ≢ start.Directive → rest_of s cs ≡ None → HasFault fresh cs (open_fault_of s) 0
open_at_front fresh s [] begins not_end not_bad not_directive none = absurd (not_end (sym begins ∙ nothing_begins fresh))
open_at_front fresh s (c ∷ cs) begins not_end not_bad not_directive none =
    open_fault fresh s (c ∷ cs) not_end not_bad not_directive (opened s c cs (subst (λ (b : Start). Opens b (c ∷ cs)) begins (text_opens fresh (c ∷ cs))) none)

pub refused_open : (fresh : Bool) (text : List ℕ) (s : Start) → text_start fresh (chars text) ≡ s → s ≢ start.End → s ≢ start.BadNumber → s ≢ start.Directive → rest_of s (chars text) ≡ None → IsRefused fresh text (open_fault_of s) text
refused_open fresh text s begins not_end not_bad not_directive none =
    refused_here fresh text (open_fault_of s) (open_at_front fresh s (chars text) begins not_end not_bad not_directive none)

pub refused_number : (fresh : Bool) (text : List ℕ) → text_start fresh (chars text) ≡ start.BadNumber → IsRefused fresh text 4 text
refused_number fresh text begins =
    refused_here fresh text 4 (bad_number (subst (λ (b : Start). Opens b (chars text)) begins (text_opens fresh (chars text))))
