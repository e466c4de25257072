-- Whether a name is among names.
use Rattle.std.proofs.Common.{◌≡◌, ◌∙◌, ℕ, ◌+◌, Bool, true, false, cond, not, List, [], ◌∷◌, length, Some, None, refl, sym, ap, arith}
use Rattle.std.specs.Prelude.{◌||◌, position, is_some, nat_lt}
use Rattle.std.specs.List.{list_any, position_or_len}
use Rattle.std.proofs.lemmas.Bool.Decides.{nat_tests}

next_below : (i n : ℕ) → nat_lt i n ≡ nat_lt (1 + i) (1 + n)
next_below i n = grind (arith, nat_tests)

any_or : (a b : Bool) (i n : ℕ) → b ≡ nat_lt i n → (a || b) ≡ nat_lt (cond (not a) (1 + i) 0) (1 + n)
any_or true b i n e = grind (arith, nat_tests)
any_or false b i n e = e ∙ next_below i n

any_position : {X : Type 0} (p : X → Bool) (xs : List X) → list_any p xs ≡ nat_lt (position_or_len p xs) (length xs)
any_position p [] = refl
any_position p (x ∷ xs) =
    any_or (p x) (list_any p xs) (position_or_len p xs) (length xs) (any_position p xs)
    ∙ ap (λ n. nat_lt (cond (not (p x)) (1 + position_or_len p xs) 0) n) (omega arith)

some_if : (b : Bool) (n : ℕ) → is_some (cond b (Some n) None) ≡ b
some_if true n = refl
some_if false n = refl

-- a place is found where a test passes
pub is_some_position : {X : Type 0} (p : X → Bool) (xs : List X) → is_some (position p xs) ≡ list_any p xs
is_some_position p xs = some_if (nat_lt (position_or_len p xs) (length xs)) (position_or_len p xs) ∙ sym (any_position p xs)
