-- How the parts of an expression are spelled, whatever reads them.
use Rattle.std.specs.Prelude.{◌≡◌, ℕ, pos, true, codes, List, [], ◌∷◌, ◌++◌, Option, Some, None, encode_utf8_all}
use Rattle.std.specs.Option.{option_map}
use Rattle.std.specs.List.{list_all}
use Rattle.std.specs.Str.{all_scalars}
use Rattle.gt_text.specs.Identifier.{starts_identifier_of, continues_identifier_of}
use Rattle.gt_text.specs.Integer.{integer_of}
use Rattle.gt_text.specs.WhiteSpace.{is_white_space_of}
use Rattle.gt_types.specs.declared.expressions.Base.TheVariants.{Here, Outer, Outermost}
use Rattle.gt_types.specs.declared.expressions.Op.TheVariants.{Neg, Not, Add, Sub, Mul, Lt, Le, Gt, Ge, Eq, Ne, And, Or}
use Rattle.gt_expr.specs.declared.part.Part.{Part}
use Rattle.gt_expr.specs.declared.part.Part.TheVariants.{Integer, Name, Percent, Operator, Question, Colon, Dot, Open, Close, Other}

-- the one spelling of a symbol; other parts have none
abbrev pub symbol_text : Part → Option (List ℕ)
symbol_text (Percent Here) = Some (codes "%h")
symbol_text (Percent Outer) = Some (codes "%1")
symbol_text (Percent Outermost) = Some (codes "%0")
symbol_text (Operator Not) = Some (codes "!")
symbol_text (Operator Sub) = Some (codes "-")
symbol_text (Operator Add) = Some (codes "+")
symbol_text (Operator Mul) = Some (codes "*")
symbol_text (Operator Lt) = Some (codes "<")
symbol_text (Operator Le) = Some (codes "<=")
symbol_text (Operator Gt) = Some (codes ">")
symbol_text (Operator Ge) = Some (codes ">=")
symbol_text (Operator Eq) = Some (codes "==")
symbol_text (Operator Ne) = Some (codes "!=")
symbol_text (Operator And) = Some (codes "&&")
symbol_text (Operator Or) = Some (codes "||")
symbol_text (Operator Neg) = None
symbol_text Question = Some (codes "?")
symbol_text Colon = Some (codes ":")
symbol_text Dot = Some (codes ".")
symbol_text Open = Some (codes "(")
symbol_text Close = Some (codes ")")
symbol_text (Integer value) = None
symbol_text (Name name) = None
symbol_text Other = None

-- a character that may begin an identifier, and then characters that may continue one
abbrev pub IsIdentifier : List ℕ → Type 0
IsIdentifier [] = ⊥
IsIdentifier (c ∷ cs) = (all_scalars (c ∷ cs) ≡ true) × (starts_identifier_of c ≡ true) × (list_all continues_identifier_of cs ≡ true)

-- an integer literal spells its value, an identifier a name, and each symbol is spelled in one way
abbrev pub IsSpelling : List ℕ → Part → Type 0
IsSpelling text (Integer value) = option_map pos (integer_of text) ≡ Some value
IsSpelling text (Name name) = IsIdentifier name × (text ≡ encode_utf8_all name)
IsSpelling text p = symbol_text p ≡ Some text

-- the parts in their order, each with white space after it
pub data Spells : List ℕ → List Part → Type 0 where
  no_parts : Spells [] []
  white_space : {rest : List ℕ} {ps : List Part} (space : ℕ) → is_white_space_of space ≡ true → Spells rest ps → Spells (space ∷ rest) ps
  one_part : {rest : List ℕ} {p : Part} {ps : List Part} (front : List ℕ) (space : ℕ) → is_white_space_of space ≡ true → IsSpelling front p → Spells rest ps → Spells (front ++ space ∷ rest) (p ∷ ps)
