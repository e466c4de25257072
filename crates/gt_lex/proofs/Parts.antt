-- What is read at the front of a text is a part, and each part is read.
use Rattle.std.proofs.Common.{◌≡◌, ℕ, Bool, true, false, cond, List, [], ◌∷◌, ◌++◌, drop, Option, Some, None, refl, sym, ap, subst, ◌∙◌, ◌⊎◌, inl, inr, ⊎_elim, append_assoc}
use Rattle.std.specs.Prelude.{◌&&◌, ◌||◌, ◌==◌, not}
use Rattle.std.specs.List.{list_all}
use Rattle.std.specs.Option.{option_map}
use Rattle.std.specs.Char.{is_ascii_digit}
use Rattle.std.proofs.lemmas.Bool.{false≢true, eqb-true}
use Rattle.std.proofs.lemmas.Option.{some_pair_parts}
use Rattle.gt_text.specs.Identifier.{starts_identifier_of, continues_identifier_of}
use Rattle.gt_lex.specs.declared.starts.Start.{Start}
use Rattle.gt_lex.specs.declared.starts.Start.TheVariants as start
use Rattle.gt_lex.specs.declared.tokens.Kind.{Kind}
use Rattle.gt_lex.specs.declared.tokens.Kind.TheVariants.{Ident, Number, Quoted, CharLit, Punct}
use Rattle.gt_lex.specs.Characters.{has_newline, newline, carriage_return, double_quote, single_quote, star, dot, slash, backslash, first_passes, first_is, EndsLine}
use Rattle.gt_lex.specs.Starts.{is_line_break}
use Rattle.gt_lex.specs.Extents.{IsLiteral, Reaches, IsOpenComment, IsOpenLiteral}
use Rattle.gt_lex.specs.Parts.{Part, Space, Block, Line, Continuation, Item, spelling}
use Rattle.gt_lex.specs.Texts.{start_of, is_item}
use Rattle.gt_lex.specs.Reading.{rest_while, number_rest, comment_rest, literal_rest, within_line, token_rest, part_rest, rest_of}
use Rattle.gt_lex.proofs.Bools.{and_cases, or_cases, or_false, or_assoc}
use Rattle.gt_lex.proofs.Runs.{Run, run_of, identifier_longest}
use Rattle.gt_lex.proofs.Numbers.{digit_number, point_number}
use Rattle.gt_lex.proofs.Comments.{comment_takes, comment_open}
use Rattle.gt_lex.proofs.Literals.{literal_takes, literal_open}
use Rattle.gt_lex.proofs.Opening.{Opens, begins_number, first_split}

abbrev found : Bool → List ℕ → Option (Bool × List ℕ)
found within rest = Some (within, rest)

-- the part that was read, and what follows it
pub record Taken (s : Start) (cs : List ℕ) (within : Bool) (rest : List ℕ) : Type 0 where
  pub part : Part
  pub parts : cs ≡ spelling part ++ rest
  pub begins : start_of part ≡ s
  pub reaches : Reaches part rest
  pub lines : is_item part ≡ false → within ≡ has_newline (spelling part)

pub has_newline-append : (xs ys : List ℕ) → has_newline (xs ++ ys) ≡ (has_newline xs || has_newline ys)
has_newline-append [] ys = refl
has_newline-append (x ∷ xs) ys = ap (λ b. (x == newline) || b) (has_newline-append xs ys) ∙ sym (or_assoc (x == newline) (has_newline xs) (has_newline ys))

space_takes : (c : ℕ) (cs : List ℕ) (within : Bool) (rest : List ℕ) → found (c == newline) cs ≡ found within rest → Taken start.Space (c ∷ cs) within rest
space_takes c cs within rest e =
    let same = some_pair_parts (c == newline) within cs rest e in
    record {
      part = Space c;
      parts = ap (λ (x : List ℕ). c ∷ x) same.1;
      begins = refl;
      reaches = tt;
      lines = λ _. sym same.0 ∙ sym (or_false (c == newline));
    }

block_takes : (inside : List ℕ) (within : Bool) (rest : List ℕ) → comment_rest false inside ≡ found within rest → Taken start.Block (slash ∷ star ∷ inside) within rest
block_takes inside within rest e =
    let closed = comment_takes false inside within rest e in
    record {
      part = Block closed.inside;
      parts = ap (λ (x : List ℕ). slash ∷ star ∷ x) (closed.parts ∙ sym (append_assoc closed.inside (star ∷ slash ∷ []) rest));
      begins = refl;
      reaches = closed.no_close;
      lines = λ _. closed.lines ∙ sym (has_newline-append closed.inside (star ∷ slash ∷ []) ∙ or_false (has_newline closed.inside));
    }

twice : (b : Bool) → not b ≡ false → b ≡ true
twice true e = refl
twice false e = absurd (false≢true (sym e))

is_not : (b : Bool) → not b ≡ true → b ≡ false
is_not true e = absurd (false≢true e)
is_not false e = refl

ends_line : (rest : List ℕ) → first_passes (λ c. not (c == newline)) rest ≡ false → EndsLine rest
ends_line [] e = tt
ends_line (c ∷ cs) e = eqb-true c newline (twice (c == newline) e)

no_newline : (cs : List ℕ) → list_all (λ c. not (c == newline)) cs ≡ true → has_newline cs ≡ false
no_newline [] e = refl
no_newline (c ∷ cs) e =
    let both = and_cases (not (c == newline)) (list_all (λ d. not (d == newline)) cs) e in
    rw (is_not (c == newline) both.0) (no_newline cs both.1)

line_takes : (inside : List ℕ) (within : Bool) (rest : List ℕ) → found false (rest_while (λ c. not (c == newline)) inside) ≡ found within rest → Taken start.Line (slash ∷ slash ∷ inside) within rest
line_takes inside within rest e =
    let same = some_pair_parts false within (rest_while (λ c. not (c == newline)) inside) rest e in
    let run : Run (λ c. not (c == newline)) inside rest = subst (Run (λ c. not (c == newline)) inside) same.1 (run_of (λ c. not (c == newline)) inside) in
    record {
      part = Line run.front;
      parts = ap (λ (x : List ℕ). slash ∷ slash ∷ x) run.parts;
      begins = refl;
      reaches = (no_newline run.front run.passes, ends_line rest run.stops);
      lines = λ _. sym same.0 ∙ sym (no_newline run.front run.passes);
    }

-- a line's end is a newline, perhaps after a carriage return
break_split : (cs : List ℕ) → is_line_break cs ≡ true → ((rest : List ℕ) × (cs ≡ newline ∷ rest)) ⊎ ((rest : List ℕ) × (cs ≡ carriage_return ∷ newline ∷ rest))
break_split [] e = absurd (false≢true e)
break_split (c ∷ cs) e =
    ⊎_elim (λ is. inl (cs, ap (λ x. x ∷ cs) (eqb-true c newline is)))
    (λ both.
    let parts = and_cases (c == carriage_return) (first_is newline cs) both in
    let is_return : c ≡ carriage_return = eqb-true c carriage_return parts.0 in
    let split = first_split newline cs parts.1 in
    let tail : cs ≡ newline ∷ split.0 = split.1 in
    inr (split.0, cc))
    (or_cases (c == newline) ((c == carriage_return) && first_is newline cs) e)

abbrev break_rest : List ℕ → List ℕ
break_rest cs = cond (first_is newline cs) (drop 1 cs) (drop 2 cs)

continuation_takes : (cs : List ℕ) (within : Bool) (rest : List ℕ) → is_line_break cs ≡ true → found true (break_rest cs) ≡ found within rest → Taken start.Continuation (backslash ∷ cs) within rest
continuation_takes cs within rest is e =
    let same = some_pair_parts true within (break_rest cs) rest e in
    ⊎_elim
    (λ (short : (r : List ℕ) × (cs ≡ newline ∷ r)).
    let tail : short.0 ≡ rest = sym (ap break_rest short.1) ∙ same.1 in
    record {
      part = Continuation (newline ∷ []);
      parts = ap (λ (x : List ℕ). backslash ∷ x) (short.1 ∙ ap (λ (x : List ℕ). newline ∷ x) tail);
      begins = refl;
      reaches = inl refl;
      lines = λ _. sym same.0;
    })
    (λ (long : (r : List ℕ) × (cs ≡ carriage_return ∷ newline ∷ r)).
    let tail : long.0 ≡ rest = sym (ap break_rest long.1) ∙ same.1 in
    record {
      part = Continuation (carriage_return ∷ newline ∷ []);
      parts = ap (λ (x : List ℕ). backslash ∷ x) (long.1 ∙ ap (λ (x : List ℕ). carriage_return ∷ newline ∷ x) tail);
      begins = refl;
      reaches = inr refl;
      lines = λ _. sym same.0;
    })
    (break_split cs is)

-- a token that was read
token_taken : (kind : Kind) (cs rest text : List ℕ) (within : Bool) → text ≡ cs ++ rest → Reaches (Item kind cs) rest → Taken (start.Token kind) text within rest
token_taken kind cs rest text within parts reaches = record {
  part = Item kind cs;
  parts = parts;
  begins = refl;
  reaches = reaches;
  lines = λ is. absurd (false≢true (sym is));
}

identifier_takes : (c : ℕ) (cs rest : List ℕ) (within : Bool) → starts_identifier_of c ≡ true → rest_while continues_identifier_of cs ≡ rest → Taken (start.Token Ident) (c ∷ cs) within rest
identifier_takes c cs rest within starts e =
    let run : Run continues_identifier_of cs rest = subst (Run continues_identifier_of cs) e (run_of continues_identifier_of cs) in
    token_taken Ident (c ∷ run.front) rest (c ∷ cs) within (ap (λ (x : List ℕ). c ∷ x) run.parts) (identifier_longest c run.front rest starts run.passes run.stops)

digit_takes : (c : ℕ) (cs rest : List ℕ) (within : Bool) → is_ascii_digit c ≡ true → number_rest c cs ≡ rest → Taken (start.Token Number) (c ∷ cs) within rest
digit_takes c cs rest within d e =
    let number = digit_number c cs rest d e in
    token_taken Number (c ∷ number.0) rest (c ∷ cs) within (ap (λ (x : List ℕ). c ∷ x) number.1) number.2

point_takes : (cs rest : List ℕ) (within : Bool) → first_passes is_ascii_digit cs ≡ true → number_rest dot cs ≡ rest → Taken (start.Token Number) (dot ∷ cs) within rest
point_takes [] rest within d e = absurd (false≢true d)
point_takes (c ∷ cs) rest within d e =
    let number = point_number c cs rest d e in
    token_taken Number (dot ∷ number.0) rest (dot ∷ c ∷ cs) within (ap (λ (x : List ℕ). dot ∷ x) number.1) number.2

number_takes : (c : ℕ) (cs rest : List ℕ) (within : Bool) → begins_number (c ∷ cs) ≡ true → number_rest c cs ≡ rest → Taken (start.Token Number) (c ∷ cs) within rest
number_takes c cs rest within begins e =
    ⊎_elim (λ d. digit_takes c cs rest within d e)
    (λ both.
    let parts = and_cases (c == dot) (first_passes is_ascii_digit cs) both in
    let is_dot : c ≡ dot = eqb-true c dot parts.0 in
    subst (λ (x : ℕ). Taken (start.Token Number) (x ∷ cs) within rest) (sym is_dot) (point_takes cs rest within parts.1 (ap (λ x. number_rest x cs) (sym is_dot) ∙ e)))
    (or_cases (is_ascii_digit c) ((c == dot) && first_passes is_ascii_digit cs) begins)

literal_is : (quote : ℕ) (cs rest : List ℕ) → literal_rest quote false cs ≡ Some rest → (text : List ℕ) × IsLiteral quote text × (quote ∷ cs ≡ text ++ rest)
literal_is quote cs rest e =
    let took = literal_takes quote cs rest e in
    (quote ∷ (took.0 ++ quote ∷ []), (took.0, took.1, refl), ap (λ (x : List ℕ). quote ∷ x) (took.2 ∙ sym (append_assoc took.0 (quote ∷ []) rest)))

quoted_takes : (cs rest : List ℕ) (within : Bool) → literal_rest double_quote false cs ≡ Some rest → Taken (start.Token Quoted) (double_quote ∷ cs) within rest
quoted_takes cs rest within e = let took = literal_is double_quote cs rest e in token_taken Quoted took.0 rest (double_quote ∷ cs) within took.2 took.1

character_takes : (cs rest : List ℕ) (within : Bool) → literal_rest single_quote false cs ≡ Some rest → Taken (start.Token CharLit) (single_quote ∷ cs) within rest
character_takes cs rest within e = let took = literal_is single_quote cs rest e in token_taken CharLit took.0 rest (single_quote ∷ cs) within took.2 took.1

some_is : {A : Type 0} (x y : A) → ◌≡◌ {A = Option A} (Some x) (Some y) → x ≡ y
some_is x y e = cc

token_takes : (kind : Kind) (c : ℕ) (cs rest : List ℕ) (within : Bool) → Opens (start.Token kind) (c ∷ cs) → token_rest kind c cs ≡ Some rest → Taken (start.Token kind) (c ∷ cs) within rest
token_takes Ident c cs rest within opens e = identifier_takes c cs rest within opens (some_is (rest_while continues_identifier_of cs) rest e)
token_takes Number c cs rest within opens e = number_takes c cs rest within opens (some_is (number_rest c cs) rest e)
token_takes Quoted c cs rest within opens e =
    let is : c ≡ double_quote = eqb-true c double_quote opens in
    subst (λ (x : ℕ). Taken (start.Token Quoted) (x ∷ cs) within rest) (sym is) (quoted_takes cs rest within (ap (λ x. literal_rest x false cs) (sym is) ∙ e))
token_takes CharLit c cs rest within opens e =
    let is : c ≡ single_quote = eqb-true c single_quote opens in
    subst (λ (x : ℕ). Taken (start.Token CharLit) (x ∷ cs) within rest) (sym is) (character_takes cs rest within (ap (λ x. literal_rest x false cs) (sym is) ∙ e))
token_takes Punct c cs rest within opens e =
    token_taken Punct (c ∷ []) rest (c ∷ cs) within (ap (λ (x : List ℕ). c ∷ x) (some_is cs rest e)) refl

mapped : (o : Option (List ℕ)) (within : Bool) (rest : List ℕ) → option_map within_line o ≡ found within rest → o ≡ Some rest
mapped None within rest e = absurd cc
mapped (Some x) within rest e = ap (λ (y : List ℕ). Some y) (some_pair_parts false within x rest e).1

part_takes : (s : Start) (c : ℕ) (cs : List ℕ) (within : Bool) (rest : List ℕ) → Opens s (c ∷ cs) → part_rest s c cs ≡ found within rest → Taken s (c ∷ cs) within rest
part_takes start.Space c cs within rest opens e = space_takes c cs within rest e
part_takes start.Block c cs within rest opens e =
    let following : drop 1 cs ≡ opens.0 = ap (λ (x : List ℕ). drop 2 x) opens.1 in
    subst (λ (x : List ℕ). Taken start.Block x within rest) (sym opens.1) (block_takes opens.0 within rest (ap (comment_rest false) (sym following) ∙ e))
part_takes start.Line c cs within rest opens e =
    let following : cs ≡ slash ∷ opens.0 = ap (λ (x : List ℕ). drop 1 x) opens.1 in
    subst (λ (x : List ℕ). Taken start.Line x within rest) (sym opens.1)
    (line_takes opens.0 within rest (ap (λ (x : List ℕ). found false (rest_while (λ d. not (d == newline)) x)) (sym following) ∙ e))
part_takes start.Continuation c cs within rest opens e =
    let parts = and_cases (c == backslash) (is_line_break cs) opens in
    subst (λ (x : ℕ). Taken start.Continuation (x ∷ cs) within rest) (sym (eqb-true c backslash parts.0)) (continuation_takes cs within rest parts.1 e)
part_takes (start.Token kind) c cs within rest opens e = token_takes kind c cs rest within opens (mapped (token_rest kind c cs) within rest e)
part_takes start.End c cs within rest opens e = absurd cc
part_takes start.Directive c cs within rest opens e = absurd cc
part_takes start.BadNumber c cs within rest opens e = absurd cc

pub takes : (s : Start) (cs : List ℕ) (within : Bool) (rest : List ℕ) → Opens s cs → rest_of s cs ≡ found within rest → Taken s cs within rest
takes s [] within rest opens e = absurd cc
takes s (c ∷ cs) within rest opens e = part_takes s c cs within rest opens e

-- what begins and does not end
abbrev pub IsOpen : Start → List ℕ → Type 0
IsOpen start.End cs = Unit {0}
IsOpen start.Space cs = ⊥
IsOpen start.Block cs = IsOpenComment cs
IsOpen start.Line cs = ⊥
IsOpen start.Continuation cs = ⊥
IsOpen start.Directive cs = Unit {0}
IsOpen start.BadNumber cs = Unit {0}
IsOpen (start.Token Ident) cs = ⊥
IsOpen (start.Token Number) cs = ⊥
IsOpen (start.Token Quoted) cs = IsOpenLiteral double_quote cs
IsOpen (start.Token CharLit) cs = IsOpenLiteral single_quote cs
IsOpen (start.Token Punct) cs = ⊥

literal_is_open : (quote : ℕ) (cs : List ℕ) → literal_rest quote false cs ≡ None → IsOpenLiteral quote (quote ∷ cs)
literal_is_open quote cs e =
    let open_at = literal_open quote cs e in
    (open_at.0, open_at.1, ap (λ (x : List ℕ). quote ∷ x) open_at.2, open_at.3, open_at.4)

unmapped : (o : Option (List ℕ)) → option_map within_line o ≡ None → o ≡ None
unmapped None e = refl
unmapped (Some x) e = absurd cc

token_open : (kind : Kind) (c : ℕ) (cs : List ℕ) → Opens (start.Token kind) (c ∷ cs) → token_rest kind c cs ≡ None → IsOpen (start.Token kind) (c ∷ cs)
token_open Ident c cs opens e = absurd cc
token_open Number c cs opens e = absurd cc
token_open Quoted c cs opens e =
    let is : c ≡ double_quote = eqb-true c double_quote opens in
    subst (λ (x : ℕ). IsOpenLiteral double_quote (x ∷ cs)) (sym is) (literal_is_open double_quote cs (ap (λ x. literal_rest x false cs) (sym is) ∙ e))
token_open CharLit c cs opens e =
    let is : c ≡ single_quote = eqb-true c single_quote opens in
    subst (λ (x : ℕ). IsOpenLiteral single_quote (x ∷ cs)) (sym is) (literal_is_open single_quote cs (ap (λ x. literal_rest x false cs) (sym is) ∙ e))
token_open Punct c cs opens e = absurd cc

part_open : (s : Start) (c : ℕ) (cs : List ℕ) → Opens s (c ∷ cs) → part_rest s c cs ≡ None → IsOpen s (c ∷ cs)
part_open start.Space c cs opens e = absurd cc
part_open start.Block c cs opens e =
    let following : drop 1 cs ≡ opens.0 = ap (λ (x : List ℕ). drop 2 x) opens.1 in
    (opens.0, opens.1, comment_open false opens.0 (ap (comment_rest false) (sym following) ∙ e))
part_open start.Line c cs opens e = absurd cc
part_open start.Continuation c cs opens e = absurd cc
part_open (start.Token kind) c cs opens e = token_open kind c cs opens (unmapped (token_rest kind c cs) e)
part_open start.End c cs opens e = tt
part_open start.Directive c cs opens e = tt
part_open start.BadNumber c cs opens e = tt

-- what is not read to its end is open, unless the text ends
pub opened : (s : Start) (c : ℕ) (cs : List ℕ) → Opens s (c ∷ cs) → rest_of s (c ∷ cs) ≡ None → IsOpen s (c ∷ cs)
opened s c cs opens e = part_open s c cs opens e
