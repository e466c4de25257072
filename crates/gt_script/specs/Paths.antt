-- What a word means where a path is wanted.
use Rattle.std.specs.Prelude.{ℕ, Bool, true, false, codes, List, Option, Some}
use Rattle.std.specs.Option.{option_map_or}
use Rattle.gt_script.specs.declared.command.Route.{Route}
use Rattle.gt_split.specs.Texts.{◌>>=◌, following}
use Rattle.gt_script.specs.Values.{name_at}
use Rattle.gt_script.specs.Steps.{cut_steps, hops_at}

-- a name and the steps from there
unfoldable pub route_at : Bool → List ℕ → Option Route
route_at variable text = do
  name ← name_at (cut_steps text).0
  steps ← hops_at (cut_steps text).1
  Some (record { variable = variable; name = name; steps = steps })

-- a path begins at a variable where $ stands in front, else at a root
unfoldable pub path_at : List ℕ → Option Route
path_at text = option_map_or (route_at true) (following (codes "$") text) (route_at false text)
