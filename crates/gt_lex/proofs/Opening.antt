-- What the first characters say of the part that begins.
use Rattle.std.proofs.Common.{◌≡◌, ℕ, Bool, true, false, cond, List, [], ◌∷◌, refl, ap, subst}
use Rattle.std.specs.Prelude.{◌&&◌, ◌||◌, ◌==◌, IsTrue}
use Rattle.std.specs.Char.{is_ascii_digit}
use Rattle.std.proofs.lemmas.Bool.{false≢true, eqb-true}
use Rattle.gt_text.specs.Identifier.{starts_identifier_of}
use Rattle.gt_text.specs.WhiteSpace.{is_white_space_of}
use Rattle.gt_lex.specs.declared.starts.Start.{Start}
use Rattle.gt_lex.specs.declared.starts.Start.TheVariants.{End, Space, Block, Line, Continuation, Directive, BadNumber, Token}
use Rattle.gt_lex.specs.declared.tokens.Kind.TheVariants.{Ident, Number, Quoted, CharLit, Punct}
use Rattle.gt_lex.specs.Characters.{newline, double_quote, hash, single_quote, star, dot, slash, first_passes, first_is, EndsLine}
use Rattle.gt_lex.specs.Starts.{plain_start, text_start, directive_start, is_bad_number, is_continuation}
use Rattle.gt_lex.proofs.Bools.{and_cases}

abbrev pub begins_number : List ℕ → Bool
begins_number [] = false
begins_number (c ∷ cs) = is_ascii_digit c || ((c == dot) && first_passes is_ascii_digit cs)

-- what is known of the characters where a part begins
abbrev pub Opens : Start → List ℕ → Type 0
Opens End cs = Unit {0}
Opens Space cs = Unit {0}
Opens Block cs = (inside : List ℕ) × (cs ≡ slash ∷ star ∷ inside)
Opens Line cs = (inside : List ℕ) × (cs ≡ slash ∷ slash ∷ inside)
Opens Continuation cs = IsTrue (is_continuation cs)
Opens Directive cs = IsTrue (first_is hash cs)
Opens BadNumber cs = IsTrue (is_bad_number cs)
Opens (Token Ident) cs = IsTrue (first_passes starts_identifier_of cs)
Opens (Token Number) cs = IsTrue (begins_number cs)
Opens (Token Quoted) cs = IsTrue (first_is double_quote cs)
Opens (Token CharLit) cs = IsTrue (first_is single_quote cs)
Opens (Token Punct) cs = Unit {0}

-- ---- a fact of what begins, from a fact for each case

pick_plain : (P : Start → Type 0) (space block line ident number : Bool) → P Space → (block ≡ true → P Block) → (line ≡ true → P Line) → (ident ≡ true → P (Token Ident)) → (number ≡ true → P (Token Number)) → P (Token Punct)
    → P (cond space Space (cond block Block (cond line Line (cond ident (Token Ident) (cond number (Token Number) (Token Punct))))))
pick_plain P true block line ident number s b l i n p = s
pick_plain P false true line ident number s b l i n p = b refl
pick_plain P false false true ident number s b l i n p = l refl
pick_plain P false false false true number s b l i n p = i refl
pick_plain P false false false false true s b l i n p = n refl
pick_plain P false false false false false s b l i n p = p

plain_by : (P : Start → Type 0) (c : ℕ) (cs : List ℕ) → P Space → (((c == slash) && first_is star cs) ≡ true → P Block) → (((c == slash) && first_is slash cs) ≡ true → P Line) → (starts_identifier_of c ≡ true → P (Token Ident)) → (begins_number (c ∷ cs) ≡ true → P (Token Number)) → P (Token Punct)
    → P (plain_start (c ∷ cs))
plain_by P c cs = pick_plain P (is_white_space_of c) ((c == slash) && first_is star cs) ((c == slash) && first_is slash cs) (starts_identifier_of c) (begins_number (c ∷ cs))

pick_text : (P : Start → Type 0) (directive bad double single : Bool) (other : Start) → (directive ≡ true → P Directive) → (bad ≡ true → P BadNumber) → (double ≡ true → P (Token Quoted)) → (single ≡ true → P (Token CharLit)) → P other
    → P (cond directive Directive (cond bad BadNumber (cond double (Token Quoted) (cond single (Token CharLit) other))))
pick_text P true bad double single other a b d s o = a refl
pick_text P false true double single other a b d s o = b refl
pick_text P false false true single other a b d s o = d refl
pick_text P false false false true other a b d s o = s refl
pick_text P false false false false other a b d s o = o

text_by : (P : Start → Type 0) (fresh : Bool) (cs : List ℕ) → ((fresh && first_is hash cs) ≡ true → P Directive) → (is_bad_number cs ≡ true → P BadNumber) → (first_is double_quote cs ≡ true → P (Token Quoted)) → (first_is single_quote cs ≡ true → P (Token CharLit)) → P (plain_start cs)
    → P (text_start fresh cs)
text_by P fresh cs = pick_text P (fresh && first_is hash cs) (is_bad_number cs) (first_is double_quote cs) (first_is single_quote cs) (plain_start cs)

pick_directive : (P : Start → Type 0) (ends continues : Bool) (other : Start) → (ends ≡ true → P End) → (continues ≡ true → P Continuation) → P other → P (cond ends End (cond continues Continuation other))
pick_directive P true continues other e c o = e refl
pick_directive P false true other e c o = c refl
pick_directive P false false other e c o = o

directive_by : (P : Start → Type 0) (cs : List ℕ) → (first_is newline cs ≡ true → P End) → (is_continuation cs ≡ true → P Continuation) → P (plain_start cs) → P (directive_start cs)
directive_by P cs = pick_directive P (first_is newline cs) (is_continuation cs) (plain_start cs)

-- ---- what the first characters are

pub first_split : (x : ℕ) (cs : List ℕ) → first_is x cs ≡ true → (rest : List ℕ) × (cs ≡ x ∷ rest)
first_split x [] e = absurd (false≢true e)
first_split x (c ∷ cs) e = (cs, ap (λ y. y ∷ cs) (eqb-true c x e))

two_split : (x : ℕ) (c : ℕ) (cs : List ℕ) → ((c == slash) && first_is x cs) ≡ true → (inside : List ℕ) × (c ∷ cs ≡ slash ∷ x ∷ inside)
two_split x c cs e =
    let both = and_cases (c == slash) (first_is x cs) e in
    let is_slash : c ≡ slash = eqb-true c slash both.0 in
    let split = first_split x cs both.1 in
    let tail : cs ≡ x ∷ split.0 = split.1 in
    (split.0, cc)

plain_opens : (cs : List ℕ) → Opens (plain_start cs) cs
plain_opens [] = tt
plain_opens (c ∷ cs) = plain_by (λ s. Opens s (c ∷ cs)) c cs tt (two_split star c cs) (two_split slash c cs) (λ e. e) (λ e. e) tt

pub text_opens : (fresh : Bool) (cs : List ℕ) → Opens (text_start fresh cs) cs
text_opens fresh cs = text_by (λ s. Opens s cs) fresh cs (λ e. (and_cases fresh (first_is hash cs) e).1) (λ e. e) (λ e. e) (λ e. e) (plain_opens cs)

pub directive_opens : (cs : List ℕ) → Opens (directive_start cs) cs
directive_opens cs = directive_by (λ s. Opens s cs) cs (λ e. tt) (λ e. e) (plain_opens cs)

-- ---- where nothing begins

-- a fact where nothing begins
abbrev IfEnd : Type 0 → Start → Type 0
IfEnd P End = P
IfEnd P Space = Unit {0}
IfEnd P Block = Unit {0}
IfEnd P Line = Unit {0}
IfEnd P Continuation = Unit {0}
IfEnd P Directive = Unit {0}
IfEnd P BadNumber = Unit {0}
IfEnd P (Token kind) = Unit {0}

plain_end : (P : Type 0) (c : ℕ) (cs : List ℕ) → IfEnd P (plain_start (c ∷ cs))
plain_end P c cs = plain_by (IfEnd P) c cs tt (λ e. tt) (λ e. tt) (λ e. tt) (λ e. tt) tt

-- a directive ends at the line's end
pub directive_ends : (cs : List ℕ) → directive_start cs ≡ End → EndsLine cs
directive_ends [] e = tt
directive_ends (c ∷ cs) e =
    let P : Type 0 = c ≡ newline in
    subst (λ (s : Start). IfEnd P s) e (directive_by (IfEnd P) (c ∷ cs) (eqb-true c newline) (λ f. tt) (plain_end P c cs))

pub ends_directive : (cs : List ℕ) → EndsLine cs → directive_start cs ≡ End
ends_directive [] ends = refl
ends_directive (c ∷ cs) ends = rw ends refl

-- a text ends where nothing begins
pub text_ends : (fresh : Bool) (cs : List ℕ) → text_start fresh cs ≡ End → cs ≡ []
text_ends fresh [] e = refl
text_ends fresh (c ∷ cs) e =
    let P : Type 0 = c ∷ cs ≡ [] in
    subst (λ (s : Start). IfEnd P s) e (text_by (IfEnd P) fresh (c ∷ cs) (λ f. tt) (λ f. tt) (λ f. tt) (λ f. tt) (plain_end P c cs))

-- ---- what begins in a directive, and where a directive begins

abbrev pub BeginsInDirective : Start → Type 0
BeginsInDirective End = Unit {0}
BeginsInDirective Space = Unit {0}
BeginsInDirective Block = Unit {0}
BeginsInDirective Line = Unit {0}
BeginsInDirective Continuation = Unit {0}
BeginsInDirective Directive = ⊥
BeginsInDirective BadNumber = ⊥
BeginsInDirective (Token Ident) = Unit {0}
BeginsInDirective (Token Number) = Unit {0}
BeginsInDirective (Token Quoted) = ⊥
BeginsInDirective (Token CharLit) = ⊥
BeginsInDirective (Token Punct) = Unit {0}

plain_begins : (cs : List ℕ) → BeginsInDirective (plain_start cs)
plain_begins [] = tt
plain_begins (c ∷ cs) = plain_by BeginsInDirective c cs tt (λ e. tt) (λ e. tt) (λ e. tt) (λ e. tt) tt

pub directive_begins : (cs : List ℕ) → BeginsInDirective (directive_start cs)
directive_begins cs = directive_by BeginsInDirective cs (λ e. tt) (λ e. tt) (plain_begins cs)

-- a directive begins where no token stands before it on its line
abbrev pub OpensDirective : Bool → List ℕ → Start → Type 0
OpensDirective fresh cs Directive = IsTrue fresh × IsTrue (first_is hash cs)
OpensDirective fresh cs End = Unit {0}
OpensDirective fresh cs Space = Unit {0}
OpensDirective fresh cs Block = Unit {0}
OpensDirective fresh cs Line = Unit {0}
OpensDirective fresh cs Continuation = Unit {0}
OpensDirective fresh cs BadNumber = Unit {0}
OpensDirective fresh cs (Token kind) = Unit {0}

plain_fresh : (fresh : Bool) (whole cs : List ℕ) → OpensDirective fresh whole (plain_start cs)
plain_fresh fresh whole [] = tt
plain_fresh fresh whole (c ∷ cs) = plain_by (OpensDirective fresh whole) c cs tt (λ e. tt) (λ e. tt) (λ e. tt) (λ e. tt) tt

pub directive_fresh : (fresh : Bool) (cs : List ℕ) → OpensDirective fresh cs (text_start fresh cs)
directive_fresh fresh cs = text_by (OpensDirective fresh cs) fresh cs (λ e. and_cases fresh (first_is hash cs) e) (λ e. tt) (λ e. tt) (λ e. tt) (plain_fresh fresh cs cs)
