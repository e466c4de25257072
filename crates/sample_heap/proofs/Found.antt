-- What a search found.
use Rattle.std.proofs.Common.{◌≡◌, ℕ, suc, Bool, cond, List, [], ◌∷◌, Option, Some, None, is_some, unwrap_or, refl, sym, ap, ◌∙◌, inl, inr, arith}
use Rattle.std.specs.Prelude.{Contains, IfSome, find, nat_le, option_map}
use Rattle.std.proofs.lemmas.Bool.{cases_Bool, false≢true}
use Rattle.gt_pages.specs.Ledger.{rounded, sizes}
use Rattle.gt_pages.specs.Slots.{Slot, StartsSome, has_byte, owner_of}

some_same : {X : Type 0} (x y : X) → Some x ≡ Some y → x ≡ y
some_same x y is = ap (λ o. unwrap_or o x) is

found_there : {X : Type 0} (test : X → Bool) (xs : List X) (x : X) → find test xs ≡ Some x → Contains xs x
found_there test [] x is = absurd (false≢true (ap is_some is))
found_there test (y ∷ xs) x is = elim (cases_Bool (test y)) [
  | inl here ↦ (0, omega arith, some_same y x (sym (ap (λ b. cond b (Some y) (find test xs)) here) ∙ is))
  | inr not_here ↦
      let rest = found_there test xs x (sym (ap (λ b. cond b (Some y) (find test xs)) not_here) ∙ is) in
      (suc rest.0, omega (arith, rest.1), rest.2)
]

-- each size that is rounded to is listed
pub rounded_in_list : (need : ℕ) (found : Option ℕ) → found ≡ rounded need → IfSome found (λ size. Contains sizes size)
rounded_in_list need None is = tt
rounded_in_list need (Some size) is = found_there (λ n. nat_le need n) sizes size (sym is)

abbrev address_of : Option (ℕ × ℕ) → ℕ
address_of None = 0
address_of (Some owner) = owner.0

start_of : (o : Option Slot) (addr size : ℕ) → option_map {U = ℕ × ℕ} (λ s. (s.address, s.size)) o ≡ Some (addr, size) → (s : Slot) × (o ≡ Some s) × (s.address ≡ addr)
start_of None addr size is = absurd (false≢true (ap is_some is))
start_of (Some s) addr size is = (s, refl, ap address_of is)

-- a block starts where the owner of a byte starts
pub owner_starts : (slots : List Slot) (byte addr size : ℕ) → owner_of slots byte ≡ Some (addr, size) → StartsSome slots addr
owner_starts slots byte addr size is =
    let start = start_of (find (has_byte byte) slots) addr size is in
    (start.0, found_there (has_byte byte) slots start.0 start.1, start.2)
