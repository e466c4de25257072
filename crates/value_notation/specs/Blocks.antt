-- The blocks that pointers of the table name.
use Rattle.std.specs.Prelude.{ℕ, ◌==◌, if◌then◌else◌, List, [], ◌∷◌, Some, None}
use Rattle.gt_tree.specs.Blocks.{Kind, Nodes, Pointers, Chars, Raw, Block, Blocks}
use Rattle.sample_program.specs.Sample.{node}

abbrev pub block : Kind → ℕ → List ℕ → Block
block kind count chars = record { kind = kind; count = count; chars = chars }

-- the characters of the two blocks that have some, with the zero at their end
abbrev pub chars_at : ℕ → List ℕ
chars_at address = if address == 768 then 97 ∷ 98 ∷ 0 ∷ [] else (if address == 1024 then 97 ∷ 0 ∷ 98 ∷ 0 ∷ [] else [])

-- the blocks by their addresses: items, two texts, raw bytes, pointers to items, and a base
abbrev pub blocks : Blocks
blocks address =
    if address == 256 then Some (block (Nodes (node 0)) 1 [])
    else (if address == 512 then Some (block (Nodes (node 0)) 3 [])
    else (if address == 768 then Some (block Chars 3 (97 ∷ 98 ∷ 0 ∷ []))
    else (if address == 1024 then Some (block Chars 4 (97 ∷ 0 ∷ 98 ∷ 0 ∷ []))
    else (if address == 1280 then Some (block Raw 16 [])
    else (if address == 1536 then Some (block (Pointers (node 0)) 2 [])
    else (if address == 1792 then Some (block (Nodes (node 1)) 1 []) else None))))))
