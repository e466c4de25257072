-- The lines of a generated script.
use Rattle.std.specs.Prelude.{ℕ, ◌==◌, ◌%◌, if◌then◌else◌, true, false, List, [], ◌∷◌, ◌++◌, None, codes, pos}
use Rattle.std.specs.List.{flat_map, range_with_len}
use Rattle.gt_script.specs.declared.command.Line.{Line}
use Rattle.gt_script.specs.declared.command.Command.{Command}
use Rattle.gt_script.specs.declared.command.Command.TheVariants.{New, Set, Get, CollectForce, Heap, Stats}
use Rattle.gt_script.specs.declared.command.TypeName.{TypeName}
use Rattle.gt_script.specs.declared.command.Route.{Route}
use Rattle.gt_script.specs.declared.command.Hop.TheVariants.{Name}
use Rattle.gt_script.specs.declared.command.Given.{Given}
use Rattle.gt_script.specs.declared.command.Given.TheVariants.{Integer, Var}

-- a command whose answer is not written, and one whose answer is
abbrev pub quiet_line : Command → Line
quiet_line command = record { quiet = true; command = command }

abbrev pub loud_line : Command → Line
loud_line command = record { quiet = false; command = command }

-- the type of a node, a field of the node that a variable names, and the root head
abbrev pub node_type : TypeName
node_type = record { name = codes "node"; star = false }

abbrev pub field_path : (variable field : List ℕ) → Route
field_path variable field = record { variable = true; name = variable; steps = Name field ∷ [] }

abbrev pub head_path : Route
head_path = record { variable = false; name = codes "head"; steps = [] }

-- @new $V node
abbrev pub new_line : (variable : List ℕ) → Line
new_line variable = quiet_line (New variable node_type None)

-- @set $V.F VALUE
abbrev pub field_line : (variable field : List ℕ) → Given → Line
field_line variable field value = quiet_line (Set (field_path variable field) value)

-- @set head $n
abbrev pub head_line : Line
head_line = quiet_line (Set head_path (Var (codes "n")))

-- @get $p head
abbrev pub get_line : Line
get_line = quiet_line (Get (codes "p") head_path)

-- @set $n.key I
abbrev pub key_line : ℕ → Line
key_line i = field_line (codes "n") (codes "key") (Integer (pos i))

-- @set $n.next $p
abbrev pub next_line : Line
next_line = field_line (codes "n") (codes "next") (Var (codes "p"))

-- @set $w.other $n
abbrev pub other_line : Line
other_line = field_line (codes "w") (codes "other") (Var (codes "n"))

-- each node but the first points to the one before it
abbrev pub link_lines : ℕ → List Line
link_lines i = if i == 0 then [] else next_line ∷ []

-- each third node is pointed to by one that nothing reaches
abbrev pub garbage_lines : ℕ → List Line
garbage_lines i = if i % 3 == 2 then new_line (codes "w") ∷ other_line ∷ [] else []

-- the lines of the i-th node, from 0
abbrev pub node_lines : ℕ → List Line
node_lines i = (new_line (codes "n") ∷ key_line i ∷ []) ++ link_lines i ++ (head_line ∷ get_line ∷ []) ++ garbage_lines i

-- collect force, heap, stats
abbrev pub last_lines : List Line
last_lines = loud_line CollectForce ∷ loud_line Heap ∷ loud_line Stats ∷ []

-- the lines of n nodes, and the last ones
unfoldable pub script_lines : ℕ → List Line
script_lines n = flat_map node_lines (range_with_len 0 n) ++ last_lines
