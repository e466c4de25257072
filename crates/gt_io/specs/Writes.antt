-- What a write may answer, and what it leaves.
use Rattle.std.specs.Prelude.{◌≡◌, ℕ, List, Option, Some, Result, Ok, Err}
use Rattle.gt_io.specs.declared.fail.WriteFail.{WriteFail}
use Rattle.gt_io.specs.declared.fail.WriteFail.TheVariants.{Failed, Memory}
use Rattle.gt_io.specs.Held.{Held, with_contents, SameBut}

-- after a write the file has these bytes; after a failure it may have any, and the others are as they were; else nothing changed
abbrev pub Writes : Option Held → List ℕ → List ℕ → Result (Unit {0}) WriteFail → Option Held → Type 0
Writes old name bytes (Ok done) new = (held : Held) → old ≡ Some held → new ≡ Some (with_contents held name bytes)
Writes old name bytes (Err Failed) new = (held : Held) → old ≡ Some held → (left : Held) × (new ≡ Some left) × SameBut name held left
Writes old name bytes (Err Memory) new = new ≡ old
