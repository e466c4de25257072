-- A line of more than four words is given up.
use Rattle.std.proofs.Common.{◌≡◌, ◌≢◌, ℕ, ◌≤◌, ◌<◌, false, true, List, ◌∷◌, ◌++◌, length, Option, Some, None, refl, sym, ap, ◌∙◌, arith}
use Rattle.std.specs.Prelude.{nat_le}
use Rattle.std.proofs.lemmas.Bool.Decides.{nat_tests}
use Rattle.std.proofs.lemmas.Option.{same_Some}
use Rattle.std.proofs.lemmas.List.{length-append}
use Rattle.gt_split.specs.declared.pieces.Piece.{Piece}
use Rattle.gt_split.specs.Texts.{◌>>=◌}
use Rattle.gt_split.specs.Cutting.{word_at, words_of, few, few_of}
use Rattle.gt_split.proofs.Options.{bind_some}
use Rattle.gt_split.proofs.Cuts.{SoFar, others, with_words, words_of-step}

pub few_short : (words : List Piece) → length words ≤ 4 → Some words ≡ few (Some words)
few_short words short = let is_short : nat_le (length words) 4 ≡ true = grind (arith, nat_tests) in rw is_short refl

long_few : (front : List Piece) (read : Option (List Piece)) → length front ≡ 4 → ((words : List Piece) → read ≡ Some words → 0 < length words) → None ≡ few (with_words front read)
long_few front None full some = refl
long_few front (Some words) full some =
    let one = some words refl in
    let sum = length-append front words in
    let is_long : nat_le (length (front ++ words)) 4 ≡ false = grind (arith, nat_tests) in
    rw is_long refl

some_word : (first : Option (Piece × List ℕ)) (words : List Piece) → others first words_of ≡ Some words → 0 < length words
some_word first words e =
    let word = bind_some first (λ word. words_of word.1 >>= λ more. Some (word.0 ∷ more)) words e in
    let more = bind_some (words_of word.0.1) (λ more. Some (word.0.0 ∷ more)) words word.2 in
    let same : word.0.0 ∷ more.0 ≡ words = same_Some (word.0.0 ∷ more.0) words more.2 in
    omega (arith, ap length same)

pub too_many : (text : List ℕ) (front : List Piece) (rest : List ℕ) → SoFar text front rest → length rest ≢ 0 → length front ≡ 4 → None ≡ few_of text
too_many text front rest so_far some full =
    long_few front (words_of rest) full (λ words e. some_word (word_at rest) words (sym (words_of-step rest so_far.begins some) ∙ e)) ∙ ap few so_far.read
