-- What a read may answer.
use Rattle.std.specs.Prelude.{◌≡◌, ◌<◌, ◌≤◌, ℕ, List, length, Option, Some, None, Result, Ok, Err, IsSomeAnd}
use Rattle.gt_io.specs.declared.fail.ReadFail.{ReadFail}
use Rattle.gt_io.specs.declared.fail.ReadFail.TheVariants.{Failed, TooLong, Memory}
use Rattle.gt_io.specs.Held.{Held, contents}

-- where the store tells what it holds, it holds this under the name
abbrev pub Tells : Option Held → List ℕ → Option (List ℕ) → Type 0
Tells told name bytes = (held : Held) → told ≡ Some held → contents held name ≡ bytes

-- where the store tells what it holds, the file is there and longer than the limit
abbrev pub TellsLonger : Option Held → List ℕ → ℕ → Type 0
TellsLonger told name limit = (held : Held) → told ≡ Some held → IsSomeAnd (contents held name) (λ bytes. limit < length bytes)

-- the answer of a read of at most so many bytes: what is held, at most the limit; no file; or one that is longer
abbrev pub Reads : Option Held → List ℕ → ℕ → Result (Option (List ℕ)) ReadFail → Type 0
Reads told name limit (Ok (Some bytes)) = (length bytes ≤ limit) × Tells told name (Some bytes)
Reads told name limit (Ok None) = Tells told name None
Reads told name limit (Err TooLong) = TellsLonger told name limit
Reads told name limit (Err Failed) = Unit {0}
Reads told name limit (Err Memory) = Unit {0}

-- the same where it is known what is held, and nothing fails but memory
abbrev pub ReadsWithin : Held → List ℕ → ℕ → Result (Option (List ℕ)) ReadFail → Type 0
ReadsWithin held name limit (Ok (Some bytes)) = (length bytes ≤ limit) × (contents held name ≡ Some bytes)
ReadsWithin held name limit (Ok None) = contents held name ≡ None
ReadsWithin held name limit (Err TooLong) = IsSomeAnd (contents held name) (λ bytes. limit < length bytes)
ReadsWithin held name limit (Err Failed) = ⊥
ReadsWithin held name limit (Err Memory) = Unit {0}
