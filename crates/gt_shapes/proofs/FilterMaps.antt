-- What is filtered from one item more.
use Rattle.std.proofs.Common.{◌≡◌, ◌∙◌, ℕ, ◌+◌, ◌<◌, List, [], ◌∷◌, ◌++◌, length, take, get_or, Option, sym, ap}
use Rattle.std.specs.Prelude.{filter_map}
use Rattle.std.proofs.lemmas.List.{take_more}
use Rattle.std.proofs.lemmas.List.Elements.{filter_map-append}

pub filter_map_more :
    {X Y : Type 0} (h : X → Option Y) (items xs : List X) (i : ℕ) (x : X) (before more : List Y) → items ≡ xs → i < length items → x ≡ get_or items i x
    → before ≡ filter_map h (take i xs) → more ≡ before ++ filter_map h (x ∷ []) → more ≡ filter_map h (take (i + 1) xs)
filter_map_more {X} {Y} h items xs i x before more same l is b m =
    m ∙ ap (λ (ys : List Y). ys ++ filter_map h (x ∷ [])) (b ∙ ap (λ (zs : List X). filter_map h (take i zs)) (sym same))
    ∙ sym (filter_map-append h (take i items) (x ∷ []))
    ∙ ap (λ (y : X). filter_map h (take i items ++ y ∷ [])) is
    ∙ ap (filter_map h) (sym (take_more items i x l))
    ∙ ap (λ (zs : List X). filter_map h (take (i + 1) zs)) same
