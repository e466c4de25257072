-- Which walk serves which blocks.
use Rattle.std.specs.Prelude.{ℕ, ◌+◌, ◌*◌, length}
use Rattle.gt_types.specs.declared.program.Program.{Program}
use Rattle.gt_tree.specs.Blocks.{Kind, Nodes, Pointers, Strings, Chars, Raw}

-- With n structures, walk i is structure i standing alone, walk n + i a pointer to it, and walk 2n a string pointer. Walk 2n + 1 has
-- no pointers: it serves characters and bytes that are never scanned.
abbrev pub walk_of : Program → Kind → ℕ
walk_of program (Nodes node) = node.0
walk_of program (Pointers node) = length program.structures + node.0
walk_of program Strings = 2 * length program.structures
walk_of program Chars = 2 * length program.structures + 1
walk_of program Raw = 2 * length program.structures + 1

-- how many elements of a block are walked: none of characters and of bytes that are never scanned
abbrev pub walked : Kind → ℕ → ℕ
walked Chars n = 0
walked Raw n = 0
walked kind n = n

-- the first walk of a part or a root
abbrev pub first_part : Program → ℕ
first_part program = 2 * length program.structures + 2
