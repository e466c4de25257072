-- Where a path leads from a cursor, step by step.
use Rattle.std.proofs.Common.{◌≡◌, ◌∙◌, ◌+◌, ◌<◌, ◌≤◌, ℕ, zero, suc, List, [], ◌∷◌, ◌++◌, take, drop, get_or, length, ap, sym, subst, refl, arith, append_assoc, append-nil, Option}
use Rattle.std.specs.Prelude.{MatchOption}
use Rattle.std.proofs.lemmas.List.{take_more, take_all}
use Rattle.gt_value.specs.declared.cursors.Cursor.{Cursor}
use Rattle.gt_value.specs.Places.{Part}
use Rattle.gt_value.specs.Cursors.{Frame, IsAt, IsSomewhere, IsNoPart, LeadsNowhere}

-- a cursor stands where the first places of a path lead from another
abbrev pub Follows : Cursor → Cursor → List ℕ → Type 0
Follows from to path = (at : Frame) (value : Part) (front : List ℕ) → IsAt at from value front → IsAt at to value (front ++ path)

-- what following a path answers
abbrev pub FollowsOn : Cursor → List ℕ → Option Cursor → Type 0
FollowsOn from path result = MatchOption result ((at : Frame) (value : Part) (front : List ℕ) → IsAt at from value front → LeadsNowhere at value (front ++ path)) (λ to. Follows from to path)

pub follows-none : (from : Cursor) (path : List ℕ) → Follows from from (take 0 path)
follows-none from path at value front here = subst (λ xs. IsAt at from value xs) (sym (append-nil front)) here

pub follows-somewhere : (from to : Cursor) (path : List ℕ) → IsSomewhere from → Follows from to path → IsSomewhere to
follows-somewhere from to path s h = record { at = s.at; value = s.value; path = s.path ++ path; is = h s.at s.value s.path s.is }

pub follows-more : (from to next : Cursor) (path : List ℕ) (i : ℕ) → i < length path → Follows from to (take i path)
    → ((at : Frame) (value : Part) (front : List ℕ) → IsAt at to value front → IsAt at next value (front ++ get_or path i 0 ∷ [])) → Follows from next (take (i + 1) path)
follows-more from to next path i lt h step at value front here =
    subst (λ xs. IsAt at next value xs) (append_assoc front (take i path) (get_or path i 0 ∷ []) ∙ ap (λ xs. front ++ xs) (sym (take_more path i 0 lt)))
    (step at value (front ++ take i path) (h at value front here))

split-at : (xs : List ℕ) (i : ℕ) → i < length xs → take i xs ++ get_or xs i 0 ∷ drop (suc i) xs ≡ xs
split-at [] i lt = absurd (omega arith)
split-at (x ∷ xs) zero lt = refl
split-at (x ∷ xs) (suc i) lt = ap (λ ys. x ∷ ys) (split-at xs i (omega arith))

pub follows-nowhere : (from to : Cursor) (path : List ℕ) (i : ℕ) → i < length path → Follows from to (take i path)
    → ((at : Frame) (value : Part) (front : List ℕ) → IsAt at to value front → IsNoPart at value front (get_or path i 0)) → (at : Frame) (value : Part) (front : List ℕ) → IsAt at from value front → LeadsNowhere at value (front ++ path)
follows-nowhere from to path i lt h none at value front here =
    subst (λ xs. LeadsNowhere at value xs) (append_assoc front (take i path) (get_or path i 0 ∷ drop (suc i) path) ∙ ap (λ xs. front ++ xs) (split-at path i lt))
    (none at value (front ++ take i path) (h at value front here) (drop (suc i) path))

pub follows-all : (from to : Cursor) (path : List ℕ) (i : ℕ) → length path ≤ i → Follows from to (take i path) → Follows from to path
follows-all from to path i e h = subst (λ xs. Follows from to xs) (take_all i path e) h
