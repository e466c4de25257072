-- Faults at places, and the first of some.
use Rattle.std.specs.Prelude.{◌≡◌, ℕ, Bool, ◌&&◌, ◌||◌, ◌==◌, nat_lt, nat_le, if◌then◌else◌, List, [], ◌∷◌, All, Contains, Option, Some, None, IsTrue}
use Rattle.gt_types.specs.declared.faults.Fault.{Fault}

-- a fault of this number at a place, where it is there
abbrev pub fault_if : Bool → (number file at : ℕ) → List Fault
fault_if there number file at = if there then record { number = number; file = file; at = at } ∷ [] else []

-- a fault stands at an earlier place than another, or at the same and has no greater number
abbrev pub is_no_later : Fault → Fault → Bool
is_no_later a b = nat_lt a.file b.file || (a.file == b.file && (nat_lt a.at b.at || (a.at == b.at && nat_le a.number b.number)))

-- the first of some faults: the one at the earliest place, and of those at one place the one with the lowest number
pub record IsFirst (faults : List Fault) (fault : Fault) : Type 0 where
  pub there : Contains faults fault
  pub first : All (λ other. IsTrue (is_no_later fault other)) faults

-- ---- the first, found by keeping the earliest so far

-- the earlier of the earliest so far and another fault
abbrev pub earlier_of : Option Fault → Fault → Option Fault
earlier_of None fault = Some fault
earlier_of (Some earliest) fault = if is_no_later earliest fault then Some earliest else Some fault

-- the earliest of some faults and the earliest before them
unfoldable pub first_from : Option Fault → List Fault → Option Fault
first_from earliest [] = earliest
first_from earliest (fault ∷ faults) = first_from (earlier_of earliest fault) faults

-- the first fault, or none where there are none
abbrev pub IsFirstOf : List Fault → Option Fault → Type 0
IsFirstOf faults None = faults ≡ []
IsFirstOf faults (Some fault) = IsFirst faults fault
