-- Structures with their chains.
use Rattle.std.proofs.Common.{◌≡◌, ◌∙◌, ℕ, ◌+◌, ◌<◌, List, [], ◌∷◌, ◌++◌, length, take, Option, Some, None, refl, sym, ap, get_or, ◌⊎◌, inl, inr, arith}
use Rattle.std.specs.Prelude.{filter_map}
use Rattle.std.specs.Option.{option_to_list}
use Rattle.std.specs.List.{cons_option}
use Rattle.std.proofs.lemmas.List.{take_more, append-nil}
use Rattle.std.proofs.lemmas.List.Elements.{filter_map-append}
use Rattle.gt_types.specs.declared.program.Chain.{Chain}
use Rattle.gt_types.specs.declared.program.Structure.{Structure}
use Rattle.gt_drafts.specs.declared.draft.DraftStructure.{DraftStructure}
use Rattle.gt_declare.specs.Programs.{with_chains}
use Rattle.gt_declare.specs.Chains.{chains_of, chains_from, joined}

-- structures joined with the chains of each are structures with their chains
pub joined_chains : (all : List Structure) (place : ℕ) (ds : List DraftStructure) (ss : List Structure) → joined (chains_from all place ds) ss ≡ with_chains all place ds ss
unfolding chains_from joined with_chains
joined_chains all place [] [] = refl
joined_chains all place [] (s ∷ ss) = refl
joined_chains all place (d ∷ ds) [] = refl
joined_chains all place (d ∷ ds) (s ∷ ss) = ap (λ (made : List Structure). record s { chains = chains_of all place d.options } ∷ made) (joined_chains all (1 + place) ds ss)

-- ---- chains of one structure

cons_one : {B : Type 0} (o : Option B) → cons_option o [] ≡ option_to_list o
cons_one None = refl
cons_one (Some x) = refl

-- what one more item gives, where it gives something
pub some_more : {A B : Type 0} (h : A → Option B) (xs : List A) (made more : List B) (one : Option B) (k : ℕ) (x : A) → k < length xs → x ≡ get_or xs k x
    → made ≡ filter_map h (take k xs) → one ≡ h x → more ≡ made ++ option_to_list one → more ≡ filter_map h (take (k + 1) xs)
some_more h xs made more one k x within at made_is one_is more_is =
    more_is ∙ ap (λ ys. ys ++ option_to_list one) made_is ∙ ap (λ o. filter_map h (take k xs) ++ option_to_list o) one_is
    ∙ sym (
    ap (filter_map h) (take_more xs k x within ∙ ap (λ y. take k xs ++ y ∷ []) (sym at)) ∙ filter_map-append h (take k xs) (x ∷ [])
    ∙ ap (λ ys. filter_map h (take k xs) ++ ys) (cons_one (h x)))

-- ---- where structures or chains end

joined_ends : (chains : List (List Chain)) (ss : List Structure) → (length ss ≡ 0) ⊎ (length chains ≡ 0) → joined chains ss ≡ []
unfolding joined
joined_ends [] [] ends = refl
joined_ends [] (s ∷ ss) ends = refl
joined_ends (chain ∷ chains) [] ends = refl
joined_ends (chain ∷ chains) (s ∷ ss) (inl ends) = absurd (omega arith)
joined_ends (chain ∷ chains) (s ∷ ss) (inr ends) = absurd (omega arith)

pub joined_all : (made : List Structure) (chains : List (List Chain)) (ss whole : List Structure) → (length ss ≡ 0) ⊎ (length chains ≡ 0)
    → made ++ joined chains ss ≡ whole → made ≡ whole
joined_all made chains ss whole ends all = sym (append-nil made) ∙ ap (λ (rest : List Structure). made ++ rest) (sym (joined_ends chains ss ends)) ∙ all
