-- What a sink has taken after a call.
use Rattle.std.specs.Prelude.{◌≡◌, ℕ, List, ◌++◌, Option, Some, Result, Ok, Err}
use Rattle.gt_io.specs.declared.fail.WriteFail.{WriteFail}
use Rattle.gt_io.specs.declared.fail.WriteFail.TheVariants.{Failed, Memory}

-- where the sink tells its bytes, it has these after those from before
abbrev pub Adds : Option (List ℕ) → List ℕ → Option (List ℕ) → Type 0
Adds old bytes new = (before : List ℕ) → old ≡ Some before → new ≡ Some (before ++ bytes)

-- one list is the front of another
abbrev pub IsFrontOf : List ℕ → List ℕ → Type 0
IsFrontOf front all = (rest : List ℕ) × (front ++ rest ≡ all)

-- where the sink tells its bytes, it has some front of these after those from before
abbrev pub AddsFront : Option (List ℕ) → List ℕ → Option (List ℕ) → Type 0
AddsFront old bytes new = (before : List ℕ) → old ≡ Some before → (front : List ℕ) × IsFrontOf front bytes × (new ≡ Some (before ++ front))

-- all of the bytes are taken; after a failure some front of them; when out of memory none
abbrev pub Appends : Option (List ℕ) → List ℕ → Result (Unit {0}) WriteFail → Option (List ℕ) → Type 0
Appends old bytes (Ok done) new = Adds old bytes new
Appends old bytes (Err Failed) new = AddsFront old bytes new
Appends old bytes (Err Memory) new = new ≡ old
