-- No promise: how the place of a name is found by its hash.
use Rattle.std.specs.Prelude.{◌≡◌, ℕ, suc, ◌-◌, ◌%◌, ◌^◌, ◌==◌, Bool, true, cond, List, [], ◌∷◌, length, position, Option, Some, None, slice_get, bit_and, encode_utf8_all}
use Rattle.std.specs.Option.{option_or}
use Rattle.std.specs.Ordering.{nat_cmp}
use Rattle.std.specs.Str.{bytes_eq}
use Rattle.std.specs.Cmp.Lexicographic.{slice_cmp}
use Rattle.std.specs.BTreeMap.{BTreeMap, get}
use Rattle.std.specs.Hash.FoldHasher.{initial, write, finish}
use Rattle.gt_names.specs.declared.places.Numbered.{Numbered}

-- the hash of a name, for which others can have the same
unfoldable pub hash_number : List ℕ → ℕ
hash_number word = finish (write initial (encode_utf8_all word)) % 2 ^ 32

-- the place of a hash among so many
abbrev pub place_number : ℕ → ℕ → ℕ
place_number hash count = bit_and hash (count - 1)

-- the number of a hash, by what stands at its place and by the numbers of those that found their places taken
abbrev pub number_at : Option (Option Numbered) → BTreeMap ℕ ℕ → ℕ → Option ℕ
number_at None others hash = None
number_at (Some None) others hash = None
number_at (Some (Some n)) others hash = cond (n.hash == hash) (Some n.number) (get nat_cmp others hash)

abbrev pub number_in : List (Option Numbered) → BTreeMap ℕ ℕ → ℕ → Option ℕ
number_in places others hash = number_at (slice_get places (place_number hash (length places))) others hash

-- a hash whose place is free has no other number
abbrev pub AreTaken : List (Option Numbered) → BTreeMap ℕ ℕ → Type 0
AreTaken places others = (hash : ℕ) → slice_get places (place_number hash (length places)) ≡ Some None → get nat_cmp others hash ≡ None

-- whether a hash may stand where this stands
abbrev pub is_free : Option Numbered → ℕ → Bool
is_free None hash = true
is_free (Some n) hash = n.hash == hash

-- the place of the first name with a hash
abbrev pub first_with : List (List ℕ) → ℕ → Option ℕ
first_with names hash = position (λ name. hash_number name == hash) names

-- the place of a name, where it is the name that stands there
abbrev pub place_of : Option (List ℕ) → List ℕ → ℕ → Option ℕ
place_of None word place = None
place_of (Some name) word place = cond (bytes_eq name word) (Some place) None

abbrev pub place_at : List (List ℕ) → List ℕ → Option ℕ → Option ℕ
place_at names word None = None
place_at names word (Some place) = place_of (slice_get names place) word place

-- the place of the first item that passes a test, where the first of them has this place
abbrev pub first_from : {X : Type 0} → (X → Bool) → List X → ℕ → Option ℕ
first_from p [] place = None
first_from p (x ∷ xs) place = cond (p x) (Some place) (first_from p xs (suc place))

-- the number of each hash is the place of the first name with it, and a map has the other names
pub record AreIndexed (places : List (Option Numbered)) (others : BTreeMap ℕ ℕ) (crowded : BTreeMap (List ℕ) ℕ) (names : List (List ℕ)) : Type 0 where
  pub taken : AreTaken places others
  pub first : (hash : ℕ) → number_in places others hash ≡ first_with names hash
  pub found : (word : List ℕ) → option_or (get (slice_cmp nat_cmp) crowded word) (place_at names word (first_with names (hash_number word))) ≡ position (λ name. bytes_eq name word) names
