-- The lowest item of a stack.
use Rattle.std.proofs.Common.{◌≡◌, List, [], ◌∷◌, ◌++◌, Some, reverse, refl, ap, ◌∙◌}
use Rattle.std.specs.Prelude.{slice_get}
use Rattle.std.proofs.lemmas.List.{reverse-append}
use Rattle.gt_search.specs.Searching.{lowest, bottom}

lowest-push : {X : Type 0} (y : X) (ys : List X) (x : X) → lowest y (ys ++ x ∷ []) ≡ x
lowest-push y [] x = refl
lowest-push y (z ∷ ys) x = lowest-push z ys x

bottom-push : {X : Type 0} (ys : List X) (x : X) → bottom (ys ++ x ∷ []) ≡ Some x
bottom-push [] x = refl
bottom-push (y ∷ ys) x = ap Some (lowest-push y ys x)

pub bottom-reverse : {X : Type 0} (xs : List X) → bottom (reverse xs) ≡ slice_get xs 0
bottom-reverse [] = refl
bottom-reverse (x ∷ xs) = ap bottom (reverse-append (x ∷ []) xs) ∙ bottom-push (reverse xs) x
