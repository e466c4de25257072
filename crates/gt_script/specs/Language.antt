-- How a line of a script is spelled, whatever reads it.
use Rattle.std.specs.Prelude.{◌≡◌, ◌≢◌, ◌==◌, ◌||◌, if◌then◌else◌, ℕ, ◌<◌, ◌≤◌, ◌^◌, Bool, true, false, not, codes, cond, List, [], ◌∷◌, ◌++◌, Some, None, ℤ, pos, neg_ℤ, encode_utf8_all}
use Rattle.std.specs.List.{list_all, list_any}
use Rattle.std.specs.Char.{is_digit}
use Rattle.std.specs.Str.{all_scalars, IsUtf8}
use Rattle.std.specs.Str.Lines.{strip_carriage_return}
use Rattle.gt_text.specs.Identifier.{starts_identifier_of, continues_identifier_of}
use Rattle.gt_text.specs.Integer.{value_of}
use Rattle.gt_script.specs.declared.command.Line.{Line}
use Rattle.gt_script.specs.declared.command.Command.{Command}
use Rattle.gt_script.specs.declared.command.Command.TheVariants.{New, Array, Text, Block, Set, Get, Drop, Print, Put, Find, Collect, CollectForce, Save, Load, Tables, Heap, Stats}
use Rattle.gt_script.specs.declared.command.TypeName.{TypeName}
use Rattle.gt_script.specs.declared.command.Route.{Route}
use Rattle.gt_script.specs.declared.command.Hop.{Hop}
use Rattle.gt_script.specs.declared.command.Hop.TheVariants.{Name, Index}
use Rattle.gt_script.specs.declared.command.Given.{Given}
use Rattle.gt_script.specs.declared.command.Given.TheVariants.{Integer, Null, Var}
use Rattle.gt_split.specs.declared.pieces.Piece.{Piece}
use Rattle.gt_split.specs.declared.pieces.Piece.TheVariants.{Plain, Quoted}
use Rattle.gt_split.specs.Texts.{is_blank, escape_of, ends_word, leads_with_zero}

-- ---- words

-- what stands between quotes, and the bytes that it means: an escape, or a byte that is no quote (34) and no backslash (92)
pub data AreQuoted : List ℕ → List ℕ → Type 0 where
  no_bytes : AreQuoted [] []
  byte_itself : {inside bytes : List ℕ} (c : ℕ) → c ≢ 34 → c ≢ 92 → AreQuoted inside bytes → AreQuoted (c ∷ inside) (c ∷ bytes)
  escaped : {inside bytes : List ℕ} (letter meant : ℕ) → escape_of letter ≡ Some meant → AreQuoted inside bytes → AreQuoted (92 ∷ letter ∷ inside) (meant ∷ bytes)

-- a plain word has no blank and does not begin with a quote
abbrev pub IsPlain : List ℕ → Type 0
IsPlain [] = ⊥
IsPlain (c ∷ cs) = (c ≢ 34) × (list_all (λ d. not (is_blank d)) (c ∷ cs) ≡ true)

-- a word is plain, or stands in quotes
pub data IsWord : List ℕ → Piece → Type 0 where
  is_plain : (text : List ℕ) → IsPlain text → IsWord text (Plain text)
  is_quoted : (inside bytes : List ℕ) → AreQuoted inside bytes → IsWord (34 ∷ inside ++ 34 ∷ []) (Quoted bytes)

-- words in their order with blanks between them; a word ends at a blank or at the end of the text
pub data AreWords : List ℕ → List Piece → Type 0 where
  no_words : AreWords [] []
  blank_first : {rest : List ℕ} {words : List Piece} (c : ℕ) → is_blank c ≡ true → AreWords rest words → AreWords (c ∷ rest) words
  word_first : {rest : List ℕ} {words : List Piece} (front : List ℕ) (piece : Piece) → IsWord front piece → ends_word rest ≡ true → AreWords rest words → AreWords (front ++ rest) (piece ∷ words)

-- ---- what stands in a word

-- a name: a character that may begin an identifier, and then characters that may continue one
abbrev pub IsName : List ℕ → Type 0
IsName [] = ⊥
IsName (c ∷ cs) = (all_scalars (c ∷ cs) ≡ true) × (starts_identifier_of c ≡ true) × (list_all continues_identifier_of cs ≡ true)

-- a text that is a name
abbrev pub IsNamed : List ℕ → List ℕ → Type 0
IsNamed text name = IsName name × (text ≡ encode_utf8_all name)

-- a variable is $ and its name
abbrev pub variable_text : List ℕ → List ℕ
variable_text name = codes "$" ++ encode_utf8_all name

abbrev pub IsVariable : List ℕ → List ℕ → Type 0
IsVariable text name = IsName name × (text ≡ variable_text name)

-- a type is its name, and * after it where it is a pointer
abbrev pub type_text : TypeName → List ℕ
type_text ty = encode_utf8_all ty.name ++ cond ty.star (codes "*") []

abbrev pub IsTyped : List ℕ → TypeName → Type 0
IsTyped text ty = IsName ty.name × (text ≡ type_text ty)

-- at least one digit of a base
abbrev pub AreDigits : ℕ → List ℕ → Type 0
AreDigits base text = (text ≢ []) × (list_all (λ c. is_digit c base) text ≡ true)

-- a number below 2 ^ 64 in decimal digits
pub record IsDecimal (text : List ℕ) (number : ℕ) : Type 0 where
  pub digits : AreDigits 10 text
  pub no_leading_zero : leads_with_zero text ≡ false
  pub number_is : value_of 10 text ≡ number
  pub small : number < 2 ^ 64

-- a number below 2 ^ 64, decimal, or hexadecimal after 0x
pub data IsNatural : List ℕ → ℕ → Type 0 where
  is_decimal : (text : List ℕ) (number : ℕ) → IsDecimal text number → IsNatural text number
  is_hexadecimal : (digits : List ℕ) (number : ℕ) → AreDigits 16 digits → value_of 16 digits ≡ number → number < 2 ^ 64 → IsNatural (codes "0x" ++ digits) number

-- an integer from - 2 ^ 63 to 2 ^ 64 - 1
pub data IsInteger : List ℕ → ℤ → Type 0 where
  is_positive : (text : List ℕ) (number : ℕ) → IsNatural text number → IsInteger text (pos number)
  is_negative : (text : List ℕ) (number : ℕ) → IsNatural text number → number ≤ 2 ^ 63 → IsInteger (codes "-" ++ text) (neg_ℤ (pos number))

-- the steps of a path: . and a field's name, or an element's number in brackets
pub data AreSteps : List ℕ → List Hop → Type 0 where
  no_steps : AreSteps [] []
  field_first : {rest : List ℕ} {hops : List Hop} (name : List ℕ) → IsName name → AreSteps rest hops → AreSteps (codes "." ++ (encode_utf8_all name ++ rest)) (Name name ∷ hops)
  element_first : {rest : List ℕ} {hops : List Hop} (digits : List ℕ) (number : ℕ) → IsDecimal digits number → AreSteps rest hops
      → AreSteps (codes "[" ++ (digits ++ (codes "]" ++ rest))) (Index number ∷ hops)

-- a path is $ where it begins at a variable, a name, and steps
pub record IsPath (text : List ℕ) (path : Route) : Type 0 where
  pub name : IsName path.name
  pub rest : List ℕ
  pub steps : AreSteps rest path.steps
  pub spelled : text ≡ cond path.variable (codes "$") [] ++ (encode_utf8_all path.name ++ rest)

-- a value is null, a variable or an integer
pub data IsValue : List ℕ → Given → Type 0 where
  is_null : IsValue (codes "null") Null
  is_variable : (name : List ℕ) → IsName name → IsValue (variable_text name) (Var name)
  is_integer : (text : List ℕ) (number : ℤ) → IsInteger text number → IsValue text (Integer number)

-- the name of a file has a character, and no zero among its characters
pub record IsFile (bytes file : List ℕ) : Type 0 where
  pub scalars : all_scalars file ≡ true
  pub spelled : bytes ≡ encode_utf8_all file
  pub some : bytes ≢ []
  pub solid : list_any (λ c. c == 0) bytes ≡ false

-- ---- commands

-- the first word of a command, and the words after it
pub data IsForm : List ℕ → List Piece → Command → Type 0 where
  -- new $v T, new $v T N
  is_new : (v t var : List ℕ) (ty : TypeName) → IsVariable v var → IsTyped t ty → IsForm (codes "new") (Plain v ∷ Plain t ∷ []) (New var ty None)
  is_new_sized : (v t i var : List ℕ) (ty : TypeName) (n : ℤ) → IsVariable v var → IsTyped t ty → IsInteger i n → IsForm (codes "new") (Plain v ∷ Plain t ∷ Plain i ∷ []) (New var ty (Some n))
  -- array $v T N
  is_array : (v t i var : List ℕ) (ty : TypeName) (n : ℤ) → IsVariable v var → IsTyped t ty → IsInteger i n → IsForm (codes "array") (Plain v ∷ Plain t ∷ Plain i ∷ []) (Array var ty n)
  -- string $v "text"
  is_string : (v text var : List ℕ) → IsVariable v var → IsForm (codes "string") (Plain v ∷ Quoted text ∷ []) (Text var text)
  -- block $v N
  is_block : (v i var : List ℕ) (n : ℤ) → IsVariable v var → IsInteger i n → IsForm (codes "block") (Plain v ∷ Plain i ∷ []) (Block var n)
  -- set PATH VALUE
  is_set : (p g : List ℕ) (path : Route) (value : Given) → IsPath p path → IsValue g value → IsForm (codes "set") (Plain p ∷ Plain g ∷ []) (Set path value)
  -- get $v PATH
  is_get : (v p var : List ℕ) (path : Route) → IsVariable v var → IsPath p path → IsForm (codes "get") (Plain v ∷ Plain p ∷ []) (Get var path)
  -- drop $v
  is_drop : (v var : List ℕ) → IsVariable v var → IsForm (codes "drop") (Plain v ∷ []) (Drop var)
  -- print PATH
  is_print : (p : List ℕ) (path : Route) → IsPath p path → IsForm (codes "print") (Plain p ∷ []) (Print path)
  -- put C $k $v
  is_put : (c k v cache key value : List ℕ) → IsNamed c cache → IsVariable k key → IsVariable v value → IsForm (codes "put") (Plain c ∷ Plain k ∷ Plain v ∷ []) (Put cache key value)
  -- find C $k
  is_find : (c k cache key : List ℕ) → IsNamed c cache → IsVariable k key → IsForm (codes "find") (Plain c ∷ Plain k ∷ []) (Find cache key)
  -- collect, collect force
  is_collect : IsForm (codes "collect") [] Collect
  is_collect_force : IsForm (codes "collect") (Plain (codes "force") ∷ []) CollectForce
  -- save "f" PAGE
  is_save : (f i file : List ℕ) (page : ℤ) → IsFile f file → IsInteger i page → IsForm (codes "save") (Quoted f ∷ Plain i ∷ []) (Save file page)
  -- load "f"
  is_load : (f file : List ℕ) → IsFile f file → IsForm (codes "load") (Quoted f ∷ []) (Load file)
  -- tables, heap, stats
  is_tables : IsForm (codes "tables") [] Tables
  is_heap : IsForm (codes "heap") [] Heap
  is_stats : IsForm (codes "stats") [] Stats

-- a line is the words of its command; where it is quiet, @ stands directly before the first
pub record IsSpelled (text : List ℕ) (line : Line) : Type 0 where
  pub verb : List ℕ
  pub words : List Piece
  pub form : IsForm verb words line.command
  pub spelled : AreWords text (Plain (cond line.quiet (codes "@") [] ++ verb) ∷ words)

-- ---- lines

-- a comment is # (35) after spaces alone
unfoldable pub is_comment_of : List ℕ → Bool
is_comment_of [] = false
is_comment_of (c ∷ cs) = if c == 32 then is_comment_of cs else c == 35

-- blank lines and comments are passed over
unfoldable pub is_passed_over : List ℕ → Bool
is_passed_over text = list_all is_blank text || is_comment_of text

-- a line is UTF-8 and spelled so, but for one carriage return at its end
abbrev pub IsLine : List ℕ → Line → Type 0
IsLine text line = IsUtf8 (strip_carriage_return text) × IsSpelled (strip_carriage_return text) line

-- a line that says nothing is UTF-8 too
abbrev pub IsPassedOver : List ℕ → Type 0
IsPassedOver text = IsUtf8 (strip_carriage_return text) × (is_passed_over (strip_carriage_return text) ≡ true)

-- a line that neither says a command nor is passed over is refused
abbrev pub IsRefused : List ℕ → Type 0
IsRefused text = ¬ IsPassedOver text × ((line : Line) → ¬ IsLine text line)
