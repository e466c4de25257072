-- Numbers of so many bits.
use Rattle.std.specs.Prelude.{ℕ, ◌+◌, ◌-◌, ◌^◌, Bool, true, false, nat_lt, ℤ, pos, negsuc}
use Rattle.gt_types.specs.declared.types.Scalar.{Scalar}
use Rattle.gt_types.specs.declared.types.Scalar.TheVariants as scalar

-- only an integer has a sign, where its type says so
abbrev pub is_signed : Scalar → Bool
is_signed scalar.Bool = false
is_signed (scalar.Int width signed) = signed

-- whether a number can be held in so many bits, with a sign where `true` is given; `negsuc n` is -(n + 1)
abbrev pub has_room : Bool → ℕ → ℤ → Bool
has_room true bits (pos n) = nat_lt n (2 ^ (bits - 1))
has_room true bits (negsuc n) = nat_lt n (2 ^ (bits - 1))
has_room false bits (pos n) = nat_lt n (2 ^ bits)
has_room false bits (negsuc n) = false

-- the bits of a number, as a number from 0 on: a negative one is its two's complement
abbrev pub two's_complement : ℕ → ℤ → ℕ
two's_complement bits (pos n) = n
two's_complement bits (negsuc n) = 2 ^ bits - (n + 1)
