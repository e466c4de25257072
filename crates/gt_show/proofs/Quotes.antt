-- Strings, byte by byte.
use Rattle.std.proofs.Common.{◌≡◌, ℕ, ◌+◌, ◌-◌, List, [], ◌∷◌, ◌++◌, Option, Some, length, take, slice_get, sym, ap, ◌∙◌, append_assoc}
use Rattle.std.specs.List.{flat_map}
use Rattle.std.proofs.lemmas.List.{take_more, flat_map_more}
use Rattle.std.proofs.lemmas.Option.{slice_get_within, get_or_from_slice_get}
use Rattle.gt_tree.specs.Blocks.{Block}
use Rattle.gt_show.specs.Shown.{char_text, string_text}

some_is : (b d : Block) → Some b ≡ Some d → b ≡ d
some_is b d e = cc

pub same_block : (found : Option Block) (b d : Block) → found ≡ Some b → found ≡ Some d → b ≡ d
same_block found b d e h = some_is b d (sym e ∙ h)

-- one byte more
pub quoted_more : (chars : List ℕ) (i byte : ℕ) (old text next : List ℕ) → slice_get chars i ≡ Some byte → text ≡ old ++ 34 ∷ [] ++ flat_map char_text (take i chars) → next ≡ text ++ char_text byte
    → next ≡ old ++ 34 ∷ [] ++ flat_map char_text (take (i + 1) chars)
quoted_more chars i byte old text next got so_far pushed =
    let within = slice_get_within chars i byte got in
    let first : take (i + 1) chars ≡ take i chars ++ byte ∷ [] = take_more chars i byte within ∙ ap (λ (b : ℕ). take i chars ++ b ∷ []) (get_or_from_slice_get chars i byte byte got) in
    pushed ∙ ap (λ (xs : List ℕ). xs ++ char_text byte) so_far ∙ flat_map_more char_text (old ++ 34 ∷ []) (take i chars) byte ∙ ap (λ (xs : List ℕ). old ++ 34 ∷ [] ++ flat_map char_text xs) (sym first)

-- the quote at the end
pub quoted_end : (chars : List ℕ) (i : ℕ) (old text next : List ℕ) → i ≡ length chars - 1 → text ≡ old ++ 34 ∷ [] ++ flat_map char_text (take i chars) → next ≡ text ++ 34 ∷ [] → next ≡ old ++ string_text chars
quoted_end chars i old text next all so_far pushed =
    let body : List ℕ = flat_map char_text (take (length chars - 1) chars) in
    pushed ∙ ap (λ (xs : List ℕ). xs ++ 34 ∷ []) (so_far ∙ ap (λ (n : ℕ). old ++ 34 ∷ [] ++ flat_map char_text (take n chars)) all)
    ∙ ap (λ (xs : List ℕ). xs ++ 34 ∷ []) (append_assoc old (34 ∷ []) body) ∙ append_assoc old (34 ∷ [] ++ body) (34 ∷ [])
