-- The places of fields.
use Rattle.std.specs.Prelude.{ℕ, List, Option, Some, None, position}
use Rattle.std.specs.Str.{bytes_eq}
use Rattle.gt_types.specs.declared.program.Structure.{Structure}

-- what is found with a value, where there is one
abbrev pub bind : {A B : Type 0} → Option A → (A → Option B) → Option B
bind (Some x) f = f x
bind None f = None

-- the place of the first field of this name
abbrev pub place_in : List ℕ → Structure → Option ℕ
place_in name s = position (λ f. bytes_eq f.name name) s.fields
