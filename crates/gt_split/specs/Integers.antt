-- How an integer is held: by its sign and its magnitude. No public clause cites this module.
use Rattle.std.specs.Prelude.{◌≡◌, ◌≢◌, ℕ, zero, suc, Bool, true, false, ℤ, pos, negsuc, neg_ℤ, refl}
use Rattle.gt_split.specs.declared.integers.Number.TheInside.{Inside}

-- the integer of a sign and a magnitude
abbrev pub signed : Bool → ℕ → ℤ
signed false n = pos n
signed true n = neg_ℤ (pos n)

-- the integer that is held
abbrev pub integer_held : Inside → ℤ
integer_held n = signed n.negative n.magnitude

-- zero has no sign
abbrev pub IsHeldOnce : Inside → Type 0
IsHeldOnce n = n.negative ≡ true → n.magnitude ≢ 0

-- how an integer is held
abbrev pub held_as : ℤ → Inside
held_as (pos n) = record { negative = false; magnitude = n }
held_as (negsuc n) = record { negative = true; magnitude = suc n }

held_back : (negative : Bool) (magnitude : ℕ) → (negative ≡ true → magnitude ≢ 0) → held_as (signed negative magnitude) ≡ record { negative = negative; magnitude = magnitude }
held_back false magnitude h = refl
held_back true zero h = absurd (h refl refl)
held_back true (suc n) h = refl

-- an integer is held in one way
pub held_as-integer_held : (n : Inside) → IsHeldOnce n → held_as (integer_held n) ≡ n
held_as-integer_held n h = held_back n.negative n.magnitude h
