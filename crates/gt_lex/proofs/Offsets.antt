-- How many bytes characters take, and where what follows them begins.
use Rattle.std.proofs.Common.{◌≡◌, ℕ, ◌+◌, ◌-◌, ◌<◌, List, ◌∷◌, ◌++◌, length, take, sym, ap, ◌∙◌, arith, IsUtf8}
use Rattle.std.specs.Prelude.{encode_utf8_all}
use Rattle.std.specs.Str.{chars}
use Rattle.std.proofs.lemmas.Str.{encodes-append, encodes-chars, length-le-encodes}
use Rattle.std.proofs.lemmas.List.{length-append, take_at}
use Rattle.gt_lex.specs.Characters.{byte_len}

pub byte_len-append : (xs ys : List ℕ) → byte_len (xs ++ ys) ≡ byte_len xs + byte_len ys
byte_len-append xs ys = ap length (encodes-append xs ys) ∙ length-append (encode_utf8_all xs) (encode_utf8_all ys)

-- characters that stand before a rest of a text, as bytes
pub bytes_before : (text front rest : List ℕ) → IsUtf8 text → IsUtf8 rest → chars text ≡ front ++ chars rest → text ≡ encode_utf8_all front ++ rest
bytes_before text front rest text_utf8 rest_utf8 e =
    sym (encodes-chars text text_utf8) ∙ ap encode_utf8_all e ∙ encodes-append front (chars rest) ∙ ap (λ (x : List ℕ). encode_utf8_all front ++ x) (encodes-chars rest rest_utf8)

pub length_before : (text front rest : List ℕ) → IsUtf8 text → IsUtf8 rest → chars text ≡ front ++ chars rest → length text ≡ byte_len front + length rest
length_before text front rest text_utf8 rest_utf8 e =
    ap length (bytes_before text front rest text_utf8 rest_utf8 e) ∙ length-append (encode_utf8_all front) rest

-- what is cut off before a rest are those characters
pub taken_before : (text front rest : List ℕ) → IsUtf8 text → IsUtf8 rest → chars text ≡ front ++ chars rest → take (length text - length rest) text ≡ encode_utf8_all front
taken_before text front rest text_utf8 rest_utf8 e =
    let len = length_before text front rest text_utf8 rest_utf8 e in
    let n : byte_len front ≡ length text - length rest = omega arith in
    ap (take (length text - length rest)) (bytes_before text front rest text_utf8 rest_utf8 e) ∙ take_at (encode_utf8_all front) rest (length text - length rest) n

pub byte_len_positive : (c : ℕ) (cs : List ℕ) → 0 < byte_len (c ∷ cs)
byte_len_positive c cs = omega (arith, length-le-encodes (c ∷ cs))
