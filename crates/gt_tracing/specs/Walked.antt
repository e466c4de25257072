-- How the objects of a heap are walked.
use Rattle.std.specs.Prelude.{ℕ, List}
use Rattle.std.specs.Option.{option_map_or}
use Rattle.gt_types.specs.declared.program.Program.{Program}
use Rattle.gt_tree.specs.Blocks.{Chars}
use Rattle.gt_graph.specs.Objects.{Object, object_of}
use Rattle.gt_mark.specs.Reached.{Walked, Walks}
use Rattle.gt_edges.specs.Numbers.{walk_of, walked}

abbrev pub by_walk : (walk count : ℕ) → Walked
by_walk walk count = record { walk = walk; count = count }

-- an object is walked by the walk of what it holds, all its elements but those of characters and of bytes that are never scanned
abbrev pub walked_of : Program → Object → Walked
walked_of program o = by_walk (walk_of program o.kind) (walked o.kind o.count)

-- so is each block, by the object there
abbrev pub walks_in : Program → List Object → Walks
walks_in program objects address = option_map_or (walked_of program) (object_of objects address) (by_walk (walk_of program Chars) 0)
