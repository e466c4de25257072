-- What a line of a script says is of bytes, since the line is.
use Rattle.std.proofs.Common.{◌≡◌, ℕ, ◌<◌, ◌+◌, ◌/◌, Bool, true, false, cond, eqb, ltb, List, [], ◌∷◌, ◌++◌, length, Option, Some, None, All, IsUtf8, IfSome, codes, encode_utf8_all, refl, subst, ⊎_elim, arith, ltb-true}
use Rattle.std.specs.Prelude.{Contains}
use Rattle.std.specs.Str.{all_scalars}
use Rattle.std.specs.Str.Lines.{strip_carriage_return}
use Rattle.std.proofs.lemmas.Bool.{and_parts}
use Rattle.std.proofs.lemmas.List.{take_at, drop_at}
use Rattle.std.proofs.lemmas.List.Elements.{All-nil, All-cons, All-head, All-tail, All-append, All-take, All-drop, All-contains, All-from_recursion}
use lib.Utf8.{scalar, scalar_cases, next, encode}
use Rattle.gt_script.specs.declared.command.Line.{Line}
use Rattle.gt_script.specs.declared.command.Command.{Command}
use Rattle.gt_script.specs.declared.command.Command.TheVariants.{Text}
use Rattle.gt_split.specs.declared.pieces.Piece.{Piece}
use Rattle.gt_split.specs.declared.pieces.Piece.TheVariants.{Plain, Quoted}
use Rattle.gt_split.specs.Texts.{escape_of}
use Rattle.gt_script.specs.Language.{AreQuoted, no_bytes, byte_itself, escaped, IsWord, is_plain, is_quoted, AreWords, no_words, blank_first, word_first, IsForm, is_string, IsLine}
use Rattle.gt_script.specs.Outcome.{Say, nothing, passed_over, said, Parsed}

abbrev is_byte : ℕ → Type 0
is_byte byte = byte < 256

-- each number in the text of a `string` command is a byte; the other commands have no such text
abbrev IsOfBytes : Command → Type 0
IsOfBytes (Text var bytes) = All is_byte bytes
IsOfBytes c = Unit {0}

-- ---- UTF-8

scalar_below : (c : ℕ) → scalar c ≡ true → c < 1114112
scalar_below c is = ⊎_elim (λ low. omega (arith, low)) (λ high. high.1) (scalar_cases c is)

next_is_byte : (n : ℕ) → next n < 256
next_is_byte n = omega arith

either : (b : Bool) (xs ys : List ℕ) → (b ≡ true → All is_byte xs) → (b ≡ false → All is_byte ys) → All is_byte (cond b xs ys)
either true xs ys first other = first refl
either false xs ys first other = other refl

-- the one to four bytes of a character
char_of_bytes : (c : ℕ) → c < 1114112 → All is_byte (encode c)
unfolding encode
char_of_bytes c small = either (ltb c 128) _ _ one (λ _. either (ltb c 2048) _ _ two (λ _. either (ltb c 65536) _ _ three (λ _. four)))
  where
    one : ltb c 128 ≡ true → All is_byte (c ∷ [])
    one is = All-from_recursion is_byte (c ∷ []) (omega (arith, ltb-true c 128 is), tt)

    two : ltb c 2048 ≡ true → All is_byte ((192 + c / 64) ∷ next c ∷ [])
    two is = All-from_recursion is_byte ((192 + c / 64) ∷ next c ∷ []) (omega (arith, ltb-true c 2048 is), (next_is_byte c, tt))

    three : ltb c 65536 ≡ true → All is_byte ((224 + c / 4096) ∷ next (c / 64) ∷ next c ∷ [])
    three is = All-from_recursion is_byte ((224 + c / 4096) ∷ next (c / 64) ∷ next c ∷ []) (omega (arith, ltb-true c 65536 is), (next_is_byte (c / 64), (next_is_byte c, tt)))

    four : All is_byte ((240 + c / 262144) ∷ next (c / 4096) ∷ next (c / 64) ∷ next c ∷ [])
    four = All-from_recursion is_byte ((240 + c / 262144) ∷ next (c / 4096) ∷ next (c / 64) ∷ next c ∷ []) (omega (arith, small), (next_is_byte (c / 4096), (next_is_byte (c / 64), (next_is_byte c, tt))))

text_of_bytes : (cs : List ℕ) → all_scalars cs ≡ true → All is_byte (encode_utf8_all cs)
text_of_bytes [] is = All-nil is_byte
text_of_bytes (c ∷ cs) is =
    let both = and_parts (scalar c) (all_scalars cs) is in
    All-append is_byte (encode c) (encode_utf8_all cs) (char_of_bytes c (scalar_below c both.0)) (text_of_bytes cs both.1)

utf8_of_bytes : (text : List ℕ) → IsUtf8 text → All is_byte text
utf8_of_bytes text is = subst (All is_byte) is.1.1 (text_of_bytes is.0 is.1.0)

-- ---- words

choice_is_byte : (b : Bool) (n : ℕ) (o : Option ℕ) → n < 256 → IfSome o is_byte → IfSome (cond b (Some n) o) is_byte
choice_is_byte true n o small other = small
choice_is_byte false n o small other = other

escape_is_byte : (letter : ℕ) → IfSome (escape_of letter) is_byte
unfolding escape_of
escape_is_byte letter =
    let zero : IfSome (cond (eqb letter 48) (Some 0) None) is_byte = choice_is_byte (eqb letter 48) 0 None (omega arith) tt in
    let newline = choice_is_byte (eqb letter 110) 10 (cond (eqb letter 48) (Some 0) None) (omega arith) zero in
    let quote = choice_is_byte (eqb letter 34) 34 (cond (eqb letter 110) (Some 10) (cond (eqb letter 48) (Some 0) None)) (omega arith) newline in
    choice_is_byte (eqb letter 92) 92 (cond (eqb letter 34) (Some 34) (cond (eqb letter 110) (Some 10) (cond (eqb letter 48) (Some 0) None))) (omega arith) quote

quoted_of_bytes : {inside bytes : List ℕ} → AreQuoted inside bytes → All is_byte inside → All is_byte bytes
quoted_of_bytes no_bytes all = All-nil is_byte
quoted_of_bytes (byte_itself {inside} {bytes} c no_quote no_slash more) all =
    All-cons is_byte c bytes (All-head is_byte c inside all) (quoted_of_bytes more (All-tail is_byte c inside all))
quoted_of_bytes (escaped {inside} {bytes} letter meant is more) all =
    let following = All-tail is_byte letter inside (All-tail is_byte 92 (letter ∷ inside) all) in
    All-cons is_byte meant bytes (subst (λ (o : Option ℕ). IfSome o is_byte) is (escape_is_byte letter)) (quoted_of_bytes more following)

-- the two parts of a text of bytes
first_part : (xs ys : List ℕ) → All is_byte (xs ++ ys) → All is_byte xs
first_part xs ys all = subst (All is_byte) (take_at xs ys (length xs) refl) (All-take is_byte (length xs) (xs ++ ys) all)

last_part : (xs ys : List ℕ) → All is_byte (xs ++ ys) → All is_byte ys
last_part xs ys all = subst (All is_byte) (drop_at xs ys (length xs) refl) (All-drop is_byte (length xs) (xs ++ ys) all)

abbrev WordOfBytes : Piece → Type 0
WordOfBytes (Plain text) = Unit {0}
WordOfBytes (Quoted bytes) = All is_byte bytes

word_of_bytes : {text : List ℕ} {word : Piece} → IsWord text word → All is_byte text → WordOfBytes word
word_of_bytes (is_plain text is) all = tt
word_of_bytes (is_quoted inside bytes is) all = quoted_of_bytes is (first_part inside (34 ∷ []) (All-tail is_byte 34 (inside ++ 34 ∷ []) all))

words_of_bytes : {text : List ℕ} {words : List Piece} → AreWords text words → All is_byte text → All WordOfBytes words
words_of_bytes no_words all = All-nil WordOfBytes
words_of_bytes (blank_first {rest} c is more) all = words_of_bytes more (All-tail is_byte c rest all)
words_of_bytes (word_first {rest} {words} front word is ends more) all =
    All-cons WordOfBytes word words (word_of_bytes is (first_part front rest all)) (words_of_bytes more (last_part front rest all))

-- ---- lines

command_of_bytes : {verb : List ℕ} {words : List Piece} {c : Command} → IsForm verb words c → All WordOfBytes words → IsOfBytes c
command_of_bytes (is_string v text var is) all = All-head WordOfBytes (Quoted text) [] (All-tail WordOfBytes (Plain v) (Quoted text ∷ []) all)
command_of_bytes _ all = tt

line_of_bytes : (text : List ℕ) (line : Line) → IsLine text line → IsOfBytes line.command
line_of_bytes text line is =
    let words = words_of_bytes is.1.spelled (utf8_of_bytes (strip_carriage_return text) is.0) in
    command_of_bytes is.1.form (All-tail WordOfBytes (Plain (cond line.quiet (codes "@") [] ++ is.1.verb)) is.1.words words)

said_of_bytes : {texts : List (List ℕ)} {lines : List Line} → Say texts lines → All (λ line. IsOfBytes line.command) lines
said_of_bytes nothing = All-nil (λ line. IsOfBytes line.command)
said_of_bytes (passed_over text is more) = said_of_bytes more
said_of_bytes (said {texts} {lines} text line is more) = All-cons (λ line. IsOfBytes line.command) line lines (line_of_bytes text line is) (said_of_bytes more)

-- the text of a command that a line says
pub text_of_line : (text : List ℕ) (line : Line) (var bytes : List ℕ) → IsLine text line → line.command ≡ Text var bytes → All is_byte bytes
text_of_line text line var bytes is e = subst IsOfBytes e (line_of_bytes text line is)

-- and so it is with each line of a script
pub text_of_script : (text : List ℕ) (lines : List Line) (line : Line) (var bytes : List ℕ) → Parsed text lines → Contains lines line → line.command ≡ Text var bytes → All is_byte bytes
text_of_script text lines line var bytes is there e = subst IsOfBytes e (All-contains (λ (line : Line). IsOfBytes line.command) lines line (said_of_bytes is.say) there)
