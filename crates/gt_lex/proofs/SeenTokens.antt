-- The constant that the tokens of a directive make, taken in one after another, is the constant of their list.
use Rattle.std.proofs.Common.{◌≡◌, ℕ, Bool, true, false, cond, List, [], ◌∷◌, codes, Option, Some, None, ℤ, pos, refl, sym, ap, ◌∙◌}
use Rattle.std.specs.Prelude.{fold, ◌&&◌, ◌+◌, length}
use Rattle.std.specs.Option.{option_map}
use Rattle.std.specs.Str.{bytes_eq}
use Rattle.std.proofs.lemmas.Slice.Eq.{bytes_eq-Decides}
use Rattle.gt_text.specs.Integer.{integer_of}
use Rattle.gt_lex.specs.declared.constants.Seen.TheVariants.{Nothing, Word, Minus, Other}
use Rattle.gt_lex.specs.declared.tokens.Define.{Define}
use Rattle.gt_lex.specs.Constants.{Lexeme, is_name, value_of, negative_value_of, constant, constant_of}
use Rattle.gt_lex.specs.Seen.{then_of, constant_seen, constant_from, named_from}

-- after other tokens no constant comes
other_stays : (ts : List Lexeme) → fold then_of Other ts ≡ Other
other_stays [] = refl
other_stays (t ∷ ts) = other_stays ts

-- a minus is no integer
minus_is_none : (text : List ℕ) → bytes_eq text (codes "-") ≡ true → integer_of text ≡ None
unfolding integer_of
minus_is_none text e = ap integer_of ((bytes_eq-Decides text (codes "-")).0 e) ∙ refl

constant_is : (name : Lexeme) (value : Option ℤ) → constant_seen (constant_from name.start (name.start + length name.text) value) ≡ constant name value
constant_is name None = refl
constant_is name (Some value) = refl

abbrev none : Option Define
none = None

after_constant : (start end : ℕ) (value : Option ℤ) (t : Lexeme) → then_of (constant_from start end value) t ≡ Other
after_constant start end None t = refl
after_constant start end (Some value) t = refl

-- ---- one, two, three and four tokens

seen_one : (is_word : Bool) → none ≡ constant_seen (cond is_word Word Other)
seen_one true = refl
seen_one false = refl

seen_name : (name : Lexeme) (is : Bool) → none ≡ constant_seen (cond is (named_from name) Other)
seen_name name true = refl
seen_name name false = refl

seen_two : (is_word : Bool) (name : Lexeme) → none ≡ constant_seen (then_of (cond is_word Word Other) name)
seen_two true name = seen_name name (is_name name.kind)
seen_two false name = refl

no_value : (name : Lexeme) (value : Option ℤ) → value ≡ None → constant name value ≡ none
no_value name value e = ap (constant name) e

-- a name and a token after it: a minus has no value
named_three : (name token : Lexeme) (minus : Bool) → bytes_eq token.text (codes "-") ≡ minus
    → constant name (value_of token) ≡ constant_seen (cond minus (Minus name.start (name.start + length name.text)) (constant_from name.start (name.start + length name.text) (value_of token)))
named_three name token true e = no_value name (value_of token) (ap (option_map pos) (minus_is_none token.text e))
named_three name token false e = sym (constant_is name (value_of token))

seen_three_named : (name token : Lexeme) (is : Bool) → cond is (constant name (value_of token)) none ≡ constant_seen (then_of (cond is (named_from name) Other) token)
seen_three_named name token true = named_three name token (bytes_eq token.text (codes "-")) refl
seen_three_named name token false = refl

seen_three : (is_word : Bool) (name token : Lexeme) → cond (is_word && is_name name.kind) (constant name (value_of token)) none ≡ constant_seen (then_of (then_of (cond is_word Word Other) name) token)
seen_three true name token = seen_three_named name token (is_name name.kind)
seen_three false name token = refl

named_four : (name sign token : Lexeme) (minus : Bool)
    → cond minus (constant name (negative_value_of token)) none ≡ constant_seen (then_of (cond minus (Minus name.start (name.start + length name.text)) (constant_from name.start (name.start + length name.text) (value_of sign))) token)
named_four name sign token true = sym (constant_is name (negative_value_of token))
named_four name sign token false = sym (ap constant_seen (after_constant name.start (name.start + length name.text) (value_of sign) token))

seen_four_named : (name sign token : Lexeme) (is : Bool)
    → cond (is && bytes_eq sign.text (codes "-")) (constant name (negative_value_of token)) none ≡ constant_seen (then_of (then_of (cond is (named_from name) Other) sign) token)
seen_four_named name sign token true = named_four name sign token (bytes_eq sign.text (codes "-"))
seen_four_named name sign token false = refl

seen_four : (is_word : Bool) (name sign token : Lexeme)
    → cond ((is_word && is_name name.kind) && bytes_eq sign.text (codes "-")) (constant name (negative_value_of token)) none ≡ constant_seen (then_of (then_of (then_of (cond is_word Word Other) name) sign) token)
seen_four true name sign token = seen_four_named name sign token (is_name name.kind)
seen_four false name sign token = refl

-- ---- five tokens and more

past_four : (start end : ℕ) (sign token last : Lexeme) (minus : Bool) → then_of (then_of (cond minus (Minus start end) (constant_from start end (value_of sign))) token) last ≡ Other
past_four start end sign token last true = after_constant start end (negative_value_of token) last
past_four start end sign token last false = ap (λ s. then_of s last) (after_constant start end (value_of sign) token)

past_four_named : (name sign token last : Lexeme) (is : Bool) → then_of (then_of (then_of (cond is (named_from name) Other) sign) token) last ≡ Other
past_four_named name sign token last true = past_four name.start (name.start + length name.text) sign token last (bytes_eq sign.text (codes "-"))
past_four_named name sign token last false = refl

past_all : (is_word : Bool) (name sign token last : Lexeme) → then_of (then_of (then_of (then_of (cond is_word Word Other) name) sign) token) last ≡ Other
past_all true name sign token last = past_four_named name sign token last (is_name name.kind)
past_all false name sign token last = refl

pub constant_of-seen : (ts : List Lexeme) → constant_of ts ≡ constant_seen (fold then_of Nothing ts)
constant_of-seen [] = refl
constant_of-seen (word ∷ []) = seen_one (bytes_eq word.text (codes "define"))
constant_of-seen (word ∷ name ∷ []) = seen_two (bytes_eq word.text (codes "define")) name
constant_of-seen (word ∷ name ∷ token ∷ []) = seen_three (bytes_eq word.text (codes "define")) name token
constant_of-seen (word ∷ name ∷ sign ∷ token ∷ []) = seen_four (bytes_eq word.text (codes "define")) name sign token
constant_of-seen (word ∷ name ∷ sign ∷ token ∷ last ∷ ts) =
    sym (ap constant_seen (ap (λ s. fold then_of s ts) (past_all (bytes_eq word.text (codes "define")) name sign token last) ∙ other_stays ts))
