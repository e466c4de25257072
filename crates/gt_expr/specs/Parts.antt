-- The parts of an expression's text, from left to right: each the longest that fits, with white space between them.
use Rattle.std.specs.Prelude.{◌≡◌, ℕ, zero, suc, ◌-◌, pos, Bool, false, ◌==◌, nat_eq, if◌then◌else◌, codes, List, [], ◌∷◌, length, take, is_some, find}
use Rattle.std.specs.Option.{option_map_or}
use Rattle.std.specs.List.{starts_with}
use Rattle.std.specs.Str.{chars}
use Rattle.gt_text.specs.Identifier.{starts_identifier_of, continues_identifier_of}
use Rattle.gt_text.specs.Integer.{integer_of}
use Rattle.gt_text.specs.WhiteSpace.{is_white_space_of}
use Rattle.gt_types.specs.declared.expressions.Base.TheVariants.{Here, Outer, Outermost}
use Rattle.gt_types.specs.declared.expressions.Op.TheVariants.{Not, Add, Sub, Mul, Lt, Le, Gt, Ge, Eq, Ne, And, Or}
use Rattle.gt_expr.specs.declared.part.Part.{Part}
use Rattle.gt_expr.specs.declared.part.Part.TheVariants.{Integer, Name, Percent, Operator, Question, Colon, Dot, Open, Close, Other}
use Rattle.gt_expr.specs.Characters.{width_at, begins_with, run_after}

-- the greatest length up to n of a front that passes a test, or 0
abbrev pub longest_up_to : (List ℕ → Bool) → List ℕ → ℕ → ℕ
longest_up_to p text zero = 0
longest_up_to p text (suc n) = if p (take (suc n) text) then suc n else longest_up_to p text n

-- how long the longest integer literal is that begins the text, or 0
unfoldable pub integer_len : List ℕ → ℕ
integer_len text = longest_up_to (λ front. is_some (integer_of front)) text (length text)

-- how long the longest identifier is that begins the text, or 0
unfoldable pub name_len : List ℕ → ℕ
name_len text = if begins_with starts_identifier_of text then run_after 0 continues_identifier_of text else 0

-- the parts that are always spelled alike; where one spelling begins another, the longer is the first
abbrev pub symbols : List (List ℕ × Part)
symbols =
    (codes "&&", Operator And) ∷ (codes "||", Operator Or) ∷ (codes "==", Operator Eq) ∷ (codes "!=", Operator Ne) ∷ (codes "<=", Operator Le) ∷ (codes ">=", Operator Ge)
    ∷ (codes "%h", Percent Here) ∷ (codes "%1", Percent Outer) ∷ (codes "%0", Percent Outermost)
    ∷ (codes "!", Operator Not) ∷ (codes "-", Operator Sub) ∷ (codes "+", Operator Add) ∷ (codes "*", Operator Mul) ∷ (codes "<", Operator Lt) ∷ (codes ">", Operator Gt)
    ∷ (codes "?", Question) ∷ (codes ":", Colon) ∷ (codes ".", Dot) ∷ (codes "(", Open) ∷ (codes ")", Close) ∷ []

-- a symbol at the front and its length, or else one character that is no part of an expression
unfoldable pub symbol_at : List ℕ → Part × ℕ
symbol_at text = option_map_or (λ s. (s.1, length s.0)) (find (λ s. starts_with nat_eq text s.0) symbols) (Other, width_at text)

-- an identifier at the front and its length, or else a symbol
unfoldable pub word_at : List ℕ → Part × ℕ
word_at text = if name_len text == 0 then symbol_at text else (Name (chars (take (name_len text) text)), name_len text)

-- the part at the front of a text and its length in bytes: an integer, or else a word
unfoldable pub part_at : List ℕ → Part × ℕ
part_at text = option_map_or (λ value. (Integer (pos value), integer_len text)) (integer_of (take (integer_len text) text)) (word_at text)

-- the parts, where the first n bytes belong to a part before
unfoldable pub parts_after : ℕ → List ℕ → List Part
parts_after n [] = []
parts_after (suc n) (b ∷ bs) = parts_after n bs
parts_after zero (b ∷ bs) =
    if is_white_space_of b then parts_after zero bs else ((part_at (b ∷ bs)).0 ∷ parts_after ((part_at (b ∷ bs)).1 - 1) bs)

-- the parts of a text
abbrev pub parts_of : List ℕ → List Part
parts_of text = parts_after 0 text

-- no white space stands at the front
abbrev pub BeginsPart : List ℕ → Type 0
BeginsPart [] = Unit {0}
BeginsPart (b ∷ bs) = is_white_space_of b ≡ false
