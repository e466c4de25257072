-- A part that stands before a rest is read again, so a text has one part at its front, and it is open or it is not.
use Rattle.std.proofs.Common.{◌≡◌, ℕ, Bool, true, false, List, [], ◌∷◌, ◌++◌, Option, Some, None, refl, sym, ap, subst, ◌∙◌, inl, inr, ⊎_elim, append_assoc, arith}
use Rattle.std.specs.Prelude.{◌&&◌, ◌==◌, not}
use Rattle.std.specs.Option.{option_map}
use Rattle.std.specs.Char.{is_ascii_digit}
use Rattle.std.proofs.lemmas.Bool.{false≢true, eqb-true}
use Rattle.std.proofs.lemmas.Option.{some_pair_parts}
use Rattle.std.proofs.lemmas.List.{append_cancel_left, append_cancel_right}
use Rattle.gt_text.specs.Identifier.{continues_identifier_of}
use Rattle.gt_lex.specs.declared.starts.Start.{Start}
use Rattle.gt_lex.specs.declared.starts.Start.TheVariants as start
use Rattle.gt_lex.specs.declared.tokens.Kind.{Kind}
use Rattle.gt_lex.specs.declared.tokens.Kind.TheVariants.{Ident, Number, Quoted, CharLit, Punct}
use Rattle.gt_lex.specs.Characters.{has_newline, newline, double_quote, single_quote, star, dot, slash, first_passes, EndsLine}
use Rattle.gt_lex.specs.Extents.{IsLongest, IsIdentifier, IsNumber, first_digit, first_point, digit, letter, exponent, point, IsLiteral, Reaches, IsOpenComment, IsOpenLiteral}
use Rattle.gt_lex.specs.Parts.{Part, Space, Block, Line, Continuation, Item, spelling}
use Rattle.gt_lex.specs.Texts.{start_of}
use Rattle.gt_lex.specs.Reading.{rest_while, number_rest, comment_rest, literal_rest, within_line, rest_of}
use Rattle.gt_lex.proofs.Bools.{and_cases, or_cases, neither}
use Rattle.gt_lex.proofs.Runs.{run_of, identifier_longest, same_longest}
use Rattle.gt_lex.proofs.Numbers.{digit_number, point_number}
use Rattle.gt_lex.proofs.Comments.{comment_again, comment_open_again}
use Rattle.gt_lex.proofs.Literals.{IsQuote, literal_again, literal_open_again}
use Rattle.gt_lex.proofs.Opening.{begins_number}

abbrev found : Bool → List ℕ → Option (Bool × List ℕ)
found within rest = Some (within, rest)

-- a part is read up to the rest that follows it
abbrev Reads : Part → List ℕ → Type 0
Reads p rest = (within : Bool) × (rest_of (start_of p) (spelling p ++ rest) ≡ found within rest)

block_reads : (inside rest : List ℕ) → Reaches (Block inside) rest → Reads (Block inside) rest
block_reads inside rest reaches =
    (has_newline inside, ap (comment_rest false) (append_assoc inside (star ∷ slash ∷ []) rest) ∙ comment_again false inside rest reaches)

line_rest : (inside rest : List ℕ) → has_newline inside ≡ false → EndsLine rest → rest_while (λ c. not (c == newline)) (inside ++ rest) ≡ rest
line_rest [] [] none ends = refl
line_rest [] (c ∷ cs) none ends = rw ends refl
line_rest (c ∷ cs) rest none ends =
    let both = neither (c == newline) (has_newline cs) none in
    rw both.0 (line_rest cs rest both.1 ends)

line_reads : (inside rest : List ℕ) → Reaches (Line inside) rest → Reads (Line inside) rest
line_reads inside rest reaches = (false, ap (λ (x : List ℕ). found false x) (line_rest inside rest reaches.0 reaches.1))

continuation_reads : (end rest : List ℕ) → Reaches (Continuation end) rest → Reads (Continuation end) rest
continuation_reads end rest (inl e) = (true, rw e refl)
continuation_reads end rest (inr e) = (true, rw e refl)

-- what follows the same front is the same
same_rest : (xs r s : List ℕ) (c : ℕ) (ys : List ℕ) → xs ++ r ≡ ys ++ s → c ∷ xs ≡ c ∷ ys → r ≡ s
same_rest xs r s c ys e same =
    let fronts : xs ≡ ys = cc in
    append_cancel_left xs r s (e ∙ ap (λ (x : List ℕ). x ++ s) (sym fronts))

identifier_rest : (c : ℕ) (cs rest : List ℕ) → IsLongest IsIdentifier (c ∷ cs) rest → rest_while continues_identifier_of (cs ++ rest) ≡ rest
identifier_rest c cs rest is =
    let run = run_of continues_identifier_of (cs ++ rest) in
    let read = rest_while continues_identifier_of (cs ++ rest) in
    let longest = identifier_longest c run.front read is.fits.0 run.passes run.stops in
    let same : c ∷ cs ≡ c ∷ run.front = same_longest IsIdentifier (c ∷ cs) rest (c ∷ run.front) read is longest (ap (λ (x : List ℕ). c ∷ x) run.parts) in
    sym (same_rest cs rest read c run.front run.parts same)

identifier_reads : (cs rest : List ℕ) → Reaches (Item Ident cs) rest → Reads (Item Ident cs) rest
identifier_reads [] rest is = absurd is.fits
identifier_reads (c ∷ cs) rest is = (false, ap (λ (x : List ℕ). found false x) (identifier_rest c cs rest is))

-- a number begins as one
begins_longer : (cs more : List ℕ) → begins_number cs ≡ true → begins_number (cs ++ more) ≡ true
begins_longer [] more e = absurd (false≢true e)
begins_longer (c ∷ []) more e =
    ⊎_elim (λ d. rw d refl) (λ both. absurd (false≢true (and_cases (c == dot) false both).1)) (or_cases (is_ascii_digit c) ((c == dot) && false) e)
begins_longer (c ∷ d ∷ cs) more e = e

pub number_begins : (cs : List ℕ) → IsNumber cs → begins_number cs ≡ true
number_begins _ (first_digit c d) = rw d refl
number_begins _ (first_point c d) = d
number_begins _ (digit cs c is d) = begins_longer cs (c ∷ []) (number_begins cs is)
number_begins _ (letter cs c is d) = begins_longer cs (c ∷ []) (number_begins cs is)
number_begins _ (exponent cs e sign is le s) = begins_longer cs (e ∷ sign ∷ []) (number_begins cs is)
number_begins _ (point cs is) = begins_longer cs (dot ∷ []) (number_begins cs is)

digit_rest : (c : ℕ) (cs rest : List ℕ) → is_ascii_digit c ≡ true → IsLongest IsNumber (c ∷ cs) rest → number_rest c (cs ++ rest) ≡ rest
digit_rest c cs rest d is =
    let read = number_rest c (cs ++ rest) in
    let number = digit_number c (cs ++ rest) read d refl in
    let same : c ∷ cs ≡ c ∷ number.0 = same_longest IsNumber (c ∷ cs) rest (c ∷ number.0) read is number.2 (ap (λ (x : List ℕ). c ∷ x) number.1) in
    sym (same_rest cs rest read c number.0 number.1 same)

point_rest : (c : ℕ) (cs rest : List ℕ) → is_ascii_digit c ≡ true → IsLongest IsNumber (dot ∷ c ∷ cs) rest → number_rest dot (c ∷ (cs ++ rest)) ≡ rest
point_rest c cs rest d is =
    let read = number_rest dot (c ∷ (cs ++ rest)) in
    let number = point_number c (cs ++ rest) read d refl in
    let same : dot ∷ c ∷ cs ≡ dot ∷ number.0 = same_longest IsNumber (dot ∷ c ∷ cs) rest (dot ∷ number.0) read is number.2 (ap (λ (x : List ℕ). dot ∷ x) number.1) in
    sym (same_rest (c ∷ cs) rest read dot number.0 number.1 same)

dot_rest_is : (c : ℕ) (cs rest : List ℕ) → c ≡ dot → first_passes is_ascii_digit cs ≡ true → IsLongest IsNumber (c ∷ cs) rest → number_rest c (cs ++ rest) ≡ rest
dot_rest_is c [] rest is_dot d is = absurd (false≢true d)
dot_rest_is c (x ∷ cs) rest is_dot d is =
    ap (λ y. number_rest y (x ∷ (cs ++ rest))) is_dot ∙ point_rest x cs rest d (subst (λ (y : ℕ). IsLongest IsNumber (y ∷ x ∷ cs) rest) is_dot is)

number_rest_is : (c : ℕ) (cs rest : List ℕ) → begins_number (c ∷ cs) ≡ true → IsLongest IsNumber (c ∷ cs) rest → number_rest c (cs ++ rest) ≡ rest
number_rest_is c cs rest begins is =
    ⊎_elim (λ d. digit_rest c cs rest d is)
    (λ both.
    let parts = and_cases (c == dot) (first_passes is_ascii_digit cs) both in
    dot_rest_is c cs rest (eqb-true c dot parts.0) parts.1 is)
    (or_cases (is_ascii_digit c) ((c == dot) && first_passes is_ascii_digit cs) begins)

number_reads : (cs rest : List ℕ) → Reaches (Item Number cs) rest → Reads (Item Number cs) rest
number_reads [] rest is = absurd (false≢true (number_begins [] is.fits))
number_reads (c ∷ cs) rest is = (false, ap (λ (x : List ℕ). found false x) (number_rest_is c cs rest (number_begins (c ∷ cs) is.fits) is))

double_is_quote : IsQuote double_quote
double_is_quote = record { no_newline = refl; no_backslash = refl }

single_is_quote : IsQuote single_quote
single_is_quote = record { no_newline = refl; no_backslash = refl }

literal_reads : (quote : ℕ) (cs rest : List ℕ) → IsQuote quote → IsLiteral quote cs → (inside : List ℕ) × (cs ++ rest ≡ quote ∷ (inside ++ quote ∷ rest)) × (literal_rest quote false (inside ++ quote ∷ rest) ≡ Some rest)
literal_reads quote cs rest is_quote is =
    (is.0, ap (λ (x : List ℕ). x ++ rest) is.2 ∙ ap (λ (x : List ℕ). quote ∷ x) (append_assoc is.0 (quote ∷ []) rest), literal_again quote is.0 rest is_quote is.1)

quoted_reads : (cs rest : List ℕ) → Reaches (Item Quoted cs) rest → Reads (Item Quoted cs) rest
quoted_reads cs rest is =
    let read = literal_reads double_quote cs rest double_is_quote is in
    (false, ap (rest_of (start.Token Quoted)) read.1 ∙ ap (option_map within_line) read.2)

character_reads : (cs rest : List ℕ) → Reaches (Item CharLit cs) rest → Reads (Item CharLit cs) rest
character_reads cs rest is =
    let read = literal_reads single_quote cs rest single_is_quote is in
    (false, ap (rest_of (start.Token CharLit)) read.1 ∙ ap (option_map within_line) read.2)

other_reads : (cs rest : List ℕ) → Reaches (Item Punct cs) rest → Reads (Item Punct cs) rest
other_reads [] rest is = absurd (omega arith)
other_reads (c ∷ []) rest is = (false, refl)
other_reads (c ∷ d ∷ cs) rest is = absurd (omega arith)

item_reads : (kind : Kind) (cs rest : List ℕ) → Reaches (Item kind cs) rest → Reads (Item kind cs) rest
item_reads Ident cs rest is = identifier_reads cs rest is
item_reads Number cs rest is = number_reads cs rest is
item_reads Quoted cs rest is = quoted_reads cs rest is
item_reads CharLit cs rest is = character_reads cs rest is
item_reads Punct cs rest is = other_reads cs rest is

pub reads : (p : Part) (rest : List ℕ) → Reaches p rest → Reads p rest
reads (Space c) rest is = (c == newline, refl)
reads (Block inside) rest is = block_reads inside rest is
reads (Line inside) rest is = line_reads inside rest is
reads (Continuation end) rest is = continuation_reads end rest is
reads (Item kind cs) rest is = item_reads kind cs rest is

-- ---- a text has one part at its front

same_item : (kind other : Kind) (cs ds : List ℕ) → start.Token kind ≡ start.Token other → cs ≡ ds → Item kind cs ≡ Item other ds
same_item kind other cs ds e f = let same : kind ≡ other = cc in cc

blocks_same : (a b : List ℕ) → spelling (Block a) ≡ spelling (Block b) → Block a ≡ Block b
blocks_same a b f =
    let tails : a ++ star ∷ slash ∷ [] ≡ b ++ star ∷ slash ∷ [] = cc in ap Block (append_cancel_right a b (star ∷ slash ∷ []) tails)

lines_same : (a b : List ℕ) → spelling (Line a) ≡ spelling (Line b) → Line a ≡ Line b
lines_same a b f = cc

same_part : (p q : Part) → start_of p ≡ start_of q → spelling p ≡ spelling q → p ≡ q
same_part (Space c) (Space d) e f = cc
same_part (Space c) (Block b) e f = absurd cc
same_part (Space c) (Line b) e f = absurd cc
same_part (Space c) (Continuation b) e f = absurd cc
same_part (Space c) (Item k b) e f = absurd cc
same_part (Block a) (Space d) e f = absurd cc
same_part (Block a) (Block b) e f = blocks_same a b f
same_part (Block a) (Line b) e f = absurd cc
same_part (Block a) (Continuation b) e f = absurd cc
same_part (Block a) (Item k b) e f = absurd cc
same_part (Line a) (Space d) e f = absurd cc
same_part (Line a) (Block b) e f = absurd cc
same_part (Line a) (Line b) e f = lines_same a b f
same_part (Line a) (Continuation b) e f = absurd cc
same_part (Line a) (Item k b) e f = absurd cc
same_part (Continuation a) (Space d) e f = absurd cc
same_part (Continuation a) (Block b) e f = absurd cc
same_part (Continuation a) (Line b) e f = absurd cc
same_part (Continuation a) (Continuation b) e f = cc
same_part (Continuation a) (Item k b) e f = absurd cc
same_part (Item j a) (Space d) e f = absurd cc
same_part (Item j a) (Block b) e f = absurd cc
same_part (Item j a) (Line b) e f = absurd cc
same_part (Item j a) (Continuation b) e f = absurd cc
same_part (Item j a) (Item k b) e f = same_item j k a b e f

-- two parts that begin alike at the front of one text are one
pub one_part : (p q : Part) (r s : List ℕ) → start_of p ≡ start_of q → Reaches p r → Reaches q s → spelling p ++ r ≡ spelling q ++ s → (p ≡ q) × (r ≡ s)
one_part p q r s begins reaches_p reaches_q e =
    let read_p = reads p r reaches_p in
    let read_q = reads q s reaches_q in
    let same_read : found read_p.0 r ≡ found read_q.0 s = sym read_p.1 ∙ ap (rest_of (start_of p)) e ∙ ap (λ b. rest_of b (spelling q ++ s)) begins ∙ read_q.1 in
    let rests : r ≡ s = (some_pair_parts read_p.0 read_q.0 r s same_read).1 in
    (same_part p q begins (append_cancel_right (spelling p) (spelling q) r (e ∙ ap (λ (x : List ℕ). spelling q ++ x) (sym rests))), rests)

some_none : {A : Type 0} (o : Option A) (x : A) → o ≡ Some x → o ≡ None → ⊥
some_none o x e f = absurd cc

-- what is open is not read to an end
open_comment_not_read : (cs : List ℕ) → IsOpenComment cs → rest_of start.Block cs ≡ None
open_comment_not_read cs is = ap (rest_of start.Block) is.1 ∙ comment_open_again false is.0 is.2

open_literal_not_read : (quote : ℕ) (cs : List ℕ) → IsQuote quote → IsOpenLiteral quote cs → (following : List ℕ) × (cs ≡ quote ∷ following) × (literal_rest quote false following ≡ None)
open_literal_not_read quote cs is_quote is = (is.0 ++ is.1, is.2, literal_open_again quote is.0 is.1 is_quote is.3 is.4)

open_quoted_not_read : (cs : List ℕ) → IsOpenLiteral double_quote cs → rest_of (start.Token Quoted) cs ≡ None
open_quoted_not_read cs is =
    let not_read = open_literal_not_read double_quote cs double_is_quote is in
    ap (rest_of (start.Token Quoted)) not_read.1 ∙ ap (option_map within_line) not_read.2

open_character_not_read : (cs : List ℕ) → IsOpenLiteral single_quote cs → rest_of (start.Token CharLit) cs ≡ None
open_character_not_read cs is =
    let not_read = open_literal_not_read single_quote cs single_is_quote is in
    ap (rest_of (start.Token CharLit)) not_read.1 ∙ ap (option_map within_line) not_read.2

-- no part of a kind stands where one of that kind is open
not_both : (p : Part) (s : Start) (cs rest : List ℕ) → start_of p ≡ s → Reaches p rest → cs ≡ spelling p ++ rest → rest_of s cs ≡ None → ⊥
not_both p s cs rest begins reaches e none =
    let read = reads p rest reaches in
    some_none (rest_of s cs) (read.0, rest) (ap (λ b. rest_of b cs) (sym begins) ∙ ap (rest_of (start_of p)) e ∙ read.1) none

pub no_open_comment : (p : Part) (cs rest : List ℕ) → start_of p ≡ start.Block → Reaches p rest → cs ≡ spelling p ++ rest → IsOpenComment cs → ⊥
no_open_comment p cs rest begins reaches e is = not_both p start.Block cs rest begins reaches e (open_comment_not_read cs is)

pub no_open_quoted : (p : Part) (cs rest : List ℕ) → start_of p ≡ start.Token Quoted → Reaches p rest → cs ≡ spelling p ++ rest → IsOpenLiteral double_quote cs → ⊥
no_open_quoted p cs rest begins reaches e is = not_both p (start.Token Quoted) cs rest begins reaches e (open_quoted_not_read cs is)

pub no_open_character : (p : Part) (cs rest : List ℕ) → start_of p ≡ start.Token CharLit → Reaches p rest → cs ≡ spelling p ++ rest → IsOpenLiteral single_quote cs → ⊥
no_open_character p cs rest begins reaches e is = not_both p (start.Token CharLit) cs rest begins reaches e (open_character_not_read cs is)
