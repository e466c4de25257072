-- The command that words are: the first word says which, and the others are its parts.
use Rattle.std.specs.Prelude.{ℕ, Bool, true, false, if◌then◌else◌, codes, List, [], ◌∷◌, Option, Some, None}
use Rattle.std.specs.Option.{option_map, option_map_or}
use Rattle.std.specs.Str.{bytes_eq}
use Rattle.gt_script.specs.declared.command.Line.{Line}
use Rattle.gt_script.specs.declared.command.Command.{Command}
use Rattle.gt_script.specs.declared.command.Command.TheVariants.{New, Array, Text, Block, Set, Get, Drop, Print, Put, Find, Collect, CollectForce, Save, Load, Tables, Heap, Stats}
use Rattle.gt_split.specs.declared.pieces.Piece.{Piece}
use Rattle.gt_split.specs.declared.pieces.Piece.TheVariants.{Plain, Quoted}
use Rattle.gt_split.specs.Texts.{◌>>=◌, following}
use Rattle.gt_script.specs.Values.{name_at, variable_at, type_at, given_at, file_at}
use Rattle.gt_split.specs.Numbers.{integer_at}
use Rattle.gt_script.specs.Paths.{path_at}

-- $v T
unfoldable pub plain_new_at : List ℕ → List ℕ → Option Command
plain_new_at v t = do
  var ← variable_at v
  ty ← type_at t
  Some (New var ty None)

-- $v T N
unfoldable pub sized_new_at : List ℕ → List ℕ → List ℕ → Option Command
sized_new_at v t i = do
  var ← variable_at v
  ty ← type_at t
  n ← integer_at i
  Some (New var ty (Some n))

-- $v T, or $v T N
unfoldable pub new_at : List Piece → Option Command
new_at (Plain v ∷ Plain t ∷ []) = plain_new_at v t
new_at (Plain v ∷ Plain t ∷ Plain i ∷ []) = sized_new_at v t i
new_at _ = None

-- $v T N
unfoldable pub array_at : List Piece → Option Command
array_at (Plain v ∷ Plain t ∷ Plain i ∷ []) = do
  var ← variable_at v
  ty ← type_at t
  n ← integer_at i
  Some (Array var ty n)
array_at _ = None

-- $v "text"
unfoldable pub text_at : List Piece → Option Command
text_at (Plain v ∷ Quoted text ∷ []) = do
  var ← variable_at v
  Some (Text var text)
text_at _ = None

-- $v N
unfoldable pub block_at : List Piece → Option Command
block_at (Plain v ∷ Plain i ∷ []) = do
  var ← variable_at v
  n ← integer_at i
  Some (Block var n)
block_at _ = None

-- PATH VALUE
unfoldable pub set_at : List Piece → Option Command
set_at (Plain p ∷ Plain g ∷ []) = do
  path ← path_at p
  value ← given_at g
  Some (Set path value)
set_at _ = None

-- $v PATH
unfoldable pub get_at : List Piece → Option Command
get_at (Plain v ∷ Plain p ∷ []) = do
  var ← variable_at v
  path ← path_at p
  Some (Get var path)
get_at _ = None

-- $v
unfoldable pub drop_at : List Piece → Option Command
drop_at (Plain v ∷ []) = do
  var ← variable_at v
  Some (Drop var)
drop_at _ = None

-- PATH
unfoldable pub print_at : List Piece → Option Command
print_at (Plain p ∷ []) = do
  path ← path_at p
  Some (Print path)
print_at _ = None

-- C $k $v
unfoldable pub put_at : List Piece → Option Command
put_at (Plain c ∷ Plain k ∷ Plain v ∷ []) = do
  cache ← name_at c
  key ← variable_at k
  value ← variable_at v
  Some (Put cache key value)
put_at _ = None

-- C $k
unfoldable pub find_at : List Piece → Option Command
find_at (Plain c ∷ Plain k ∷ []) = do
  cache ← name_at c
  key ← variable_at k
  Some (Find cache key)
find_at _ = None

-- nothing, or force
unfoldable pub collect_at : List Piece → Option Command
collect_at [] = Some Collect
collect_at (Plain word ∷ []) = if bytes_eq word (codes "force") then Some CollectForce else None
collect_at _ = None

-- "f" PAGE
unfoldable pub save_at : List Piece → Option Command
save_at (Quoted f ∷ Plain i ∷ []) = do
  file ← file_at f
  page ← integer_at i
  Some (Save file page)
save_at _ = None

-- "f"
unfoldable pub load_at : List Piece → Option Command
load_at (Quoted f ∷ []) = do
  file ← file_at f
  Some (Load file)
load_at _ = None

-- nothing
unfoldable pub tables_at : List Piece → Option Command
tables_at [] = Some Tables
tables_at _ = None

-- nothing
unfoldable pub heap_at : List Piece → Option Command
heap_at [] = Some Heap
heap_at _ = None

-- nothing
unfoldable pub stats_at : List Piece → Option Command
stats_at [] = Some Stats
stats_at _ = None

-- the commands that begin with a variable
unfoldable pub variable_command_at : List ℕ → List Piece → Option Command
variable_command_at verb words =
    if bytes_eq verb (codes "new") then new_at words
    else if bytes_eq verb (codes "array") then array_at words
    else if bytes_eq verb (codes "string") then text_at words
    else if bytes_eq verb (codes "block") then block_at words
    else if bytes_eq verb (codes "get") then get_at words
    else if bytes_eq verb (codes "drop") then drop_at words
    else None

-- the commands that begin with a path or a cache
unfoldable pub place_command_at : List ℕ → List Piece → Option Command
place_command_at verb words =
    if bytes_eq verb (codes "set") then set_at words
    else if bytes_eq verb (codes "print") then print_at words
    else if bytes_eq verb (codes "put") then put_at words
    else if bytes_eq verb (codes "find") then find_at words
    else variable_command_at verb words

-- the commands of the whole heap, or another
unfoldable pub command_at : List ℕ → List Piece → Option Command
command_at verb words =
    if bytes_eq verb (codes "collect") then collect_at words
    else if bytes_eq verb (codes "save") then save_at words
    else if bytes_eq verb (codes "load") then load_at words
    else if bytes_eq verb (codes "tables") then tables_at words
    else if bytes_eq verb (codes "heap") then heap_at words
    else if bytes_eq verb (codes "stats") then stats_at words
    else place_command_at verb words

-- the line of a command
abbrev pub form_at : Bool → List Piece → List ℕ → Option Line
form_at quiet words verb = option_map (λ command. record { quiet = quiet; command = command }) (command_at verb words)

-- the line that words are: the first is plain, and is quiet where @ stands in front of it
unfoldable pub line_of : List Piece → Option Line
line_of (Plain word ∷ words) = option_map_or (form_at true words) (following (codes "@") word) (form_at false words word)
line_of _ = None
