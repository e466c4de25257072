-- The lines of sizes, one after another.
use Rattle.std.proofs.Common.{◌≡◌, ℕ, ◌+◌, ◌<◌, List, [], ◌∷◌, ◌++◌, length, take, get_or, sym, ap, ◌∙◌, append_assoc, append-nil, map, codes}
use Rattle.std.proofs.lemmas.List.{length-map, take_more}
use Rattle.gt_types.specs.declared.program.Program.{Program}
use Rattle.gt_layout.specs.declared.planes.Layouts.{Layouts}
use Rattle.gt_digits.specs.Digits.{decimal}
use Rattle.gt_pages.specs.Ledger.{Block, Ledger, sizes}
use Rattle.gt_graph.specs.Objects.{Object}
use Rattle.gt_graph.specs.Places.{ArePlacesOf, Placed, Places, ledger_of}
use Rattle.gt_next.specs.Texts.{allocated_of, count_of_size, heap_text, size_line, size_lines}

-- no line yet
pub size_lines-none : (blocks : List Block) (lines text : List ℕ) → text ≡ text ++ size_lines blocks (take 0 lines)
unfolding size_lines
size_lines-none blocks lines text = sym (append-nil text)

size_lines-push : (blocks : List Block) (lines : List ℕ) (size : ℕ) → size_lines blocks (lines ++ size ∷ []) ≡ size_lines blocks lines ++ size_line size (count_of_size size blocks)
unfolding size_lines
size_lines-push blocks [] size = append-nil (size_line size (count_of_size size blocks))
size_lines-push blocks (s ∷ lines) size =
    ap (λ t. size_line s (count_of_size s blocks) ++ t) (size_lines-push blocks lines size)
    ∙ sym (append_assoc (size_line s (count_of_size s blocks)) (size_lines blocks lines) (size_line size (count_of_size size blocks)))

-- one line more
pub size_lines-more :
    (blocks : List Block) (lines : List ℕ) (i size count : ℕ) (old text new : List ℕ) → i < length lines → size ≡ get_or lines i 0
    → count ≡ count_of_size size blocks → text ≡ old ++ size_lines blocks (take i lines) → new ≡ text ++ size_line size count
    → new ≡ old ++ size_lines blocks (take (i + 1) lines)
size_lines-more blocks lines i size count old text new within at counts before adds =
    let more : take (i + 1) lines ≡ take i lines ++ size ∷ [] = take_more lines i 0 within ∙ ap (λ x. take i lines ++ x ∷ []) (sym at) in
    adds ∙ ap (λ t. t ++ size_line size count) before ∙ append_assoc old (size_lines blocks (take i lines)) (size_line size count)
    ∙ ap (λ t. old ++ t) (ap (λ n. size_lines blocks (take i lines) ++ size_line size n) counts ∙ sym (size_lines-push blocks (take i lines) size) ∙ ap (size_lines blocks) (sym more))

-- ---- the text of `heap`

-- as many blocks as objects
pub placed_count : (program : Program) (layouts : Layouts) (objects : List Object) (places : Places) → ArePlacesOf program layouts objects places → length objects ≡ length (ledger_of places).blocks
placed_count program layouts objects places are =
    sym (length-map objects (λ o. o.id)) ∙ sym (ap length are.names) ∙ length-map places.placed (λ p. p.id) ∙ sym (length-map places.placed (λ p. p.block))

-- one part after another
pub heap_parts : (ledger : Ledger) (count bytes : ℕ) (a b c d e : List ℕ) → count ≡ length ledger.blocks → bytes ≡ allocated_of ledger → a ≡ size_lines ledger.blocks sizes → b ≡ a ++ codes "objects "
    → c ≡ b ++ decimal count → d ≡ c ++ codes " bytes " → e ≡ d ++ decimal bytes → e ≡ heap_text ledger
heap_parts ledger count bytes a b c d e counts sums lines first second third last =
    last ∙ ap (λ t. t ++ decimal bytes) (third ∙ ap (λ t. t ++ codes " bytes ") (second ∙ ap (λ t. t ++ decimal count) (first ∙ ap (λ t. t ++ codes "objects ") lines)))
    ∙ ap (λ n. size_lines ledger.blocks sizes ++ codes "objects " ++ decimal n ++ codes " bytes " ++ decimal bytes) counts
    ∙ ap (λ n. size_lines ledger.blocks sizes ++ codes "objects " ++ decimal (length ledger.blocks) ++ codes " bytes " ++ decimal n) sums
