-- A block has at most one text.
use Rattle.std.proofs.Common.{◌≡◌, ◌≢◌, ℕ, List, [], ◌∷◌, ◌++◌, refl, sym, ap, ◌∙◌}
use Rattle.std.specs.Prelude.{codes}
use Rattle.std.specs.List.{flat_map}
use Rattle.gt_types.specs.declared.types.TypeId.{TypeId}
use Rattle.gt_types.specs.declared.program.Program.{Program}
use Rattle.gt_types.specs.Settled.{Settled}
use Rattle.gt_tree.specs.Trees.{Tree, Trees, End, And, count}
use Rattle.gt_tree.specs.Blocks.{Kind, Nodes, Pointers, Strings, Chars, Raw, Blocks, element_type}
use Rattle.gt_show.specs.Shown.{joined, byte_text, string_text, Shows, ShowEach}
use Rattle.gt_show.specs.BlockTexts.{AreBytes, ShowsBlock}
use Rattle.gt_show.proofs.OneText.{one-text, one-each}

one-bytes : {trees : Trees} {bytes : List ℕ} (other : List ℕ) → AreBytes trees bytes → AreBytes trees other → bytes ≡ other
one-bytes [] AreBytes.no_byte AreBytes.no_byte = refl
one-bytes (m ∷ other) (AreBytes.next_byte {n} rest) (AreBytes.next_byte more) = ap (λ (xs : List ℕ). n ∷ xs) (one-bytes other rest more)
one-bytes (m ∷ other) AreBytes.no_byte d = elim d [ ]
one-bytes [] (AreBytes.next_byte rest) d = elim d [ ]

module _ {program : Program} {blocks : Blocks} where
  inv-one : (node : TypeId) (tree : Tree) (other : List ℕ) → ShowsBlock program blocks (Nodes node) (And tree End) other → Shows program blocks (element_type program (Nodes node)) tree other
  inv-one node tree other (ShowsBlock.one shown) = shown
  inv-one node tree other (ShowsBlock.several many each) = absurd (many refl)

  inv-several : (node : TypeId) (trees : Trees) (other : List ℕ) → count trees ≢ 1 → ShowsBlock program blocks (Nodes node) trees other
      → (texts : List (List ℕ)) × ShowEach program blocks (element_type program (Nodes node)) trees texts × (other ≡ codes "[" ++ joined texts ++ codes "]")
  inv-several node trees other many (ShowsBlock.one shown) = absurd (many refl)
  inv-several node trees other many (ShowsBlock.several {texts = texts} also each) = (texts, each, refl)

  inv-pointers : (node : TypeId) (trees : Trees) (other : List ℕ) → ShowsBlock program blocks (Pointers node) trees other
      → (texts : List (List ℕ)) × ShowEach program blocks (element_type program (Pointers node)) trees texts × (other ≡ codes "[" ++ joined texts ++ codes "]")
  inv-pointers node trees other (ShowsBlock.pointers {texts = texts} each) = (texts, each, refl)

  inv-strings : (trees : Trees) (other : List ℕ) → ShowsBlock program blocks Strings trees other
      → (texts : List (List ℕ)) × ShowEach program blocks (element_type program Strings) trees texts × (other ≡ codes "[" ++ joined texts ++ codes "]")
  inv-strings trees other (ShowsBlock.strings {texts = texts} each) = (texts, each, refl)

  inv-chars : (trees : Trees) (other : List ℕ) → ShowsBlock program blocks Chars trees other → (bytes : List ℕ) × AreBytes trees bytes × (other ≡ string_text bytes)
  inv-chars trees other (ShowsBlock.chars {bytes = bytes} are) = (bytes, are, refl)

  inv-raw : (trees : Trees) (other : List ℕ) → ShowsBlock program blocks Raw trees other → (bytes : List ℕ) × AreBytes trees bytes × (other ≡ codes "raw:" ++ flat_map byte_text bytes)
  inv-raw trees other (ShowsBlock.raw {bytes = bytes} are) = (bytes, are, refl)

pub one-block : (program : Program) (blocks : Blocks) (settled : Settled program) {kind : Kind} {trees : Trees} {text : List ℕ} (other : List ℕ) → ShowsBlock program blocks kind trees text
    → ShowsBlock program blocks kind trees other → text ≡ other
one-block program blocks settled other (ShowsBlock.one {node} {tree} {text} shown) d = one-text program blocks settled other shown (inv-one node tree other d)
one-block program blocks settled other (ShowsBlock.several {node} {trees} {texts} many each) d =
    let found = inv-several node trees other many d in
    ap (λ (xs : List (List ℕ)). codes "[" ++ joined xs ++ codes "]") (one-each program blocks settled found.0 each found.1) ∙ sym found.2
one-block program blocks settled other (ShowsBlock.pointers {node} {trees} {texts} each) d =
    let found = inv-pointers node trees other d in
    ap (λ (xs : List (List ℕ)). codes "[" ++ joined xs ++ codes "]") (one-each program blocks settled found.0 each found.1) ∙ sym found.2
one-block program blocks settled other (ShowsBlock.strings {trees} {texts} each) d =
    let found = inv-strings trees other d in
    ap (λ (xs : List (List ℕ)). codes "[" ++ joined xs ++ codes "]") (one-each program blocks settled found.0 each found.1) ∙ sym found.2
one-block program blocks settled other (ShowsBlock.chars {trees} {bytes} are) d =
    let found = inv-chars trees other d in
    ap string_text (one-bytes found.0 are found.1) ∙ sym found.2
one-block program blocks settled other (ShowsBlock.raw {trees} {bytes} are) d =
    let found = inv-raw trees other d in
    ap (λ (xs : List ℕ). codes "raw:" ++ flat_map byte_text xs) (one-bytes found.0 are found.1) ∙ sym found.2
