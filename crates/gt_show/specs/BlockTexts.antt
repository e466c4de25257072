-- The text of a whole block.
use Rattle.std.specs.Prelude.{◌≡◌, ◌≢◌, ℕ, pos, List, [], ◌∷◌, ◌++◌, codes}
use Rattle.std.specs.List.{flat_map}
use Rattle.gt_types.specs.declared.types.TypeId.{TypeId}
use Rattle.gt_types.specs.declared.program.Program.{Program}
use Rattle.gt_tree.specs.Trees.{Tree, Num, Row, Trees, End, And, count}
use Rattle.gt_tree.specs.Blocks.{Kind, Nodes, Pointers, Strings, Chars, Raw, Blocks, element_type}
use Rattle.gt_tree.specs.Fits.{BlockFits}
use Rattle.gt_show.specs.Shown.{Shows, ShowEach, joined, byte_text, string_text}

-- the bytes that values are, each a number
pub data AreBytes : Trees → List ℕ → Type 0 where
  no_byte : AreBytes End []
  next_byte : {n : ℕ} {trees : Trees} {bytes : List ℕ} → AreBytes trees bytes → AreBytes (And (Num (pos n)) trees) (n ∷ bytes)

-- The text of a block of a kind, by the values of its elements: one structure is shown as such, characters as a string, bytes that are never scanned after `raw:`, and other elements in brackets.
pub data ShowsBlock (program : Program) (blocks : Blocks) : Kind → Trees → List ℕ → Type 0 where
  one : {node : TypeId} {tree : Tree} {text : List ℕ} → Shows program blocks (element_type program (Nodes node)) tree text → ShowsBlock program blocks (Nodes node) (And tree End) text
  several : {node : TypeId} {trees : Trees} {texts : List (List ℕ)} → count trees ≢ 1 → ShowEach program blocks (element_type program (Nodes node)) trees texts
      → ShowsBlock program blocks (Nodes node) trees (codes "[" ++ joined texts ++ codes "]")
  pointers : {node : TypeId} {trees : Trees} {texts : List (List ℕ)} → ShowEach program blocks (element_type program (Pointers node)) trees texts
      → ShowsBlock program blocks (Pointers node) trees (codes "[" ++ joined texts ++ codes "]")
  strings : {trees : Trees} {texts : List (List ℕ)} → ShowEach program blocks (element_type program Strings) trees texts → ShowsBlock program blocks Strings trees (codes "[" ++ joined texts ++ codes "]")
  chars : {trees : Trees} {bytes : List ℕ} → AreBytes trees bytes → ShowsBlock program blocks Chars trees (string_text bytes)
  raw : {trees : Trees} {bytes : List ℕ} → AreBytes trees bytes → ShowsBlock program blocks Raw trees (codes "raw:" ++ flat_map byte_text bytes)

-- a value of each element of a block fits beside these blocks
abbrev pub ElementsFit : Program → Blocks → Kind → Trees → Type 0
ElementsFit program blocks kind trees = (statics : Trees) × (n : ℕ) × (capacity : ℕ) × BlockFits program blocks statics kind n capacity (Row trees)

-- two texts of one block are one text
abbrev pub BlockTextIsOne : Program → Type 0
BlockTextIsOne program = (blocks : Blocks) (kind : Kind) (trees : Trees) (text other : List ℕ) → ShowsBlock program blocks kind trees text → ShowsBlock program blocks kind trees other → text ≡ other
