-- No promise: the three sets of an entry, in one list of words.
use Rattle.std.specs.Prelude.{◌≡◌, ℕ, ◌*◌, ◌/◌, List, length, take, drop}

-- the places in use, those with a marked block, and those whose block is left to a pass
pub record ThreeSets : Type 0 where
  pub used : List ℕ
  pub marked : List ℕ
  pub pending : List ℕ

-- each set is a third of the words
abbrev pub third : List ℕ → ℕ
third words = length words / 3

abbrev pub sets_of : List ℕ → ThreeSets
sets_of words = record {
  used = take (third words) words;
  marked = take (third words) (drop (third words) words);
  pending = drop (2 * third words) words;
}

-- each set has so many of the words
abbrev pub AreThirds : ℕ → List ℕ → Type 0
AreThirds len words = 3 * len ≡ length words
