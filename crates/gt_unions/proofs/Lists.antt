-- Lists of which each element is looked at: a loop that ends where one has not the property.
use Rattle.std.proofs.Common.{◌≡◌, ℕ, ◌+◌, ◌<◌, ◌≤◌, Bool, true, false, List, length, get_or, take, sym, subst, refl}
use Rattle.std.specs.Prelude.{All}
use Rattle.std.specs.Bool.{Decides}
use Rattle.std.proofs.lemmas.Bool.Decides.{not_from_Decides}
use Rattle.std.proofs.lemmas.List.{take_all}
use Rattle.std.proofs.lemmas.List.Elements.{All-more, All-get_or}

-- all were looked at
pub all_seen : {X : Type 0} (P : X → Type 0) (xs : List X) (i : ℕ) → length xs ≤ i → All P (take i xs) → Decides true (All P xs)
all_seen P xs i past all = (λ _. subst (All P) (take_all i xs past) all, λ _. refl)

-- the next has it too
pub all_more : {X : Type 0} (P : X → Type 0) (xs : List X) (i : ℕ) (x : X) → i < length xs → x ≡ get_or xs i x → All P (take i xs) → P x → All P (take (i + 1) xs)
all_more P xs i x within is all holds = All-more P xs i x within all (subst P is holds)

-- one has it not
pub one_fails :
    {X : Type 0} (P : X → Type 0) (xs : List X) (i : ℕ) (x : X) (b : Bool) → i < length xs → x ≡ get_or xs i x → Decides b (P x) → b ≡ false
    → Decides false (All P xs)
one_fails P xs i x b within is decides fails =
    (λ never. cc, λ all. absurd (not_from_Decides b decides fails (subst P (sym is) (All-get_or P xs i x within all))))
