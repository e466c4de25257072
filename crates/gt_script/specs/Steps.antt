-- What a text means where the steps of a path are wanted.
use Rattle.std.specs.Prelude.{◌≡◌, IsTrue, ℕ, Bool, ◌||◌, ◌==◌, if◌then◌else◌, codes, List, [], ◌∷◌, length, Option, Some, None, is_some}
use Rattle.std.specs.Option.{option_map, option_map_or}
use Rattle.gt_script.specs.declared.command.Hop.{Hop}
use Rattle.gt_script.specs.declared.command.Hop.TheVariants.{Name, Index}
use Rattle.gt_split.specs.Texts.{◌>>=◌, following, before}
use Rattle.gt_script.specs.Values.{name_at}
use Rattle.gt_split.specs.Numbers.{decimal_at}

-- a step begins with . (46) or [ (91)
unfoldable pub begins_step : ℕ → Bool
begins_step c = (c == 46) || (c == 91)

-- what stands before the first step, and the steps, each up to the next
unfoldable pub cut_steps : List ℕ → List ℕ × List (List ℕ)
cut_steps [] = ([], [])
cut_steps (c ∷ cs) = if begins_step c then ([], (c ∷ (cut_steps cs).0) ∷ (cut_steps cs).1) else (c ∷ (cut_steps cs).0, (cut_steps cs).1)

-- to an element: digits and a closing bracket after the opening one
unfoldable pub index_at : List ℕ → Option Hop
index_at text = do
  inner ← following (codes "[") text
  digits ← before (codes "]") inner
  option_map Index (decimal_at digits)

-- a step: to a field, . and its name, or to an element
unfoldable pub hop_at : List ℕ → Option Hop
hop_at text = option_map_or (λ name. option_map Name (name_at name)) (following (codes ".") text) (index_at text)

-- each text is a step
unfoldable pub hops_at : List (List ℕ) → Option (List Hop)
hops_at [] = Some []
hops_at (text ∷ texts) = do
  hop ← hop_at text
  hops ← hops_at texts
  Some (hop ∷ hops)

-- the steps that a whole text is
unfoldable pub steps_at : List ℕ → Option (List Hop)
steps_at text = if length (cut_steps text).0 == 0 then hops_at (cut_steps text).1 else None

-- a text is steps, with nothing before the first
abbrev pub AreStepsIn : List ℕ → Type 0
AreStepsIn text = ((cut_steps text).0 ≡ []) × IsTrue (is_some (hops_at (cut_steps text).1))

-- the steps that a text is
abbrev pub steps_or : Option (List Hop) → List Hop
steps_or (Some hops) = hops
steps_or None = []

abbrev pub steps_in : List ℕ → List Hop
steps_in text = steps_or (hops_at (cut_steps text).1)
