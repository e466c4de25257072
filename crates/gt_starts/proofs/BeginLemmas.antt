-- Which sets have a structure.
use Rattle.std.proofs.Common.{◌≡◌, ◌⊎◌, ◌↔◌, ℕ, List, [], ◌∷◌, ◌++◌, inl, inr, sym, subst}
use Rattle.gt_sets.specs.Sets.{IsIn}
use Rattle.gt_starts.specs.Begins.{IsInSome}

-- with one more set at the end
pub some-pushed : (sets : List (List ℕ)) (set : List ℕ) (begin : ℕ) → IsInSome (sets ++ set ∷ []) begin ↔ (IsInSome sets begin ⊎ IsIn set begin)
some-pushed [] set begin = (
  λ h. elim h [
    | inl here ↦ inr here
    | inr none ↦ absurd none
  ],
  λ h. elim h [
    | inl none ↦ absurd none
    | inr here ↦ inl here
  ],
)
some-pushed (first ∷ sets) set begin = (
  λ h. elim h [
    | inl here ↦ inl (inl here)
    | inr more ↦ elim ((some-pushed sets set begin).0 more) [
      | inl here ↦ inl (inr here)
      | inr here ↦ inr here
    ]
  ],
  λ h. elim h [
    | inl either ↦ elim either [
      | inl here ↦ inl here
      | inr more ↦ inr ((some-pushed sets set begin).1 (inl more))
    ]
    | inr here ↦ inr ((some-pushed sets set begin).1 (inr here))
  ],
)

-- a set that takes the structures of those at the front takes those of the next one
pub some-next : (whole new set : List ℕ) (sets next : List (List ℕ)) → next ≡ sets ++ set ∷ [] → ((begin : ℕ) → IsIn whole begin ↔ IsInSome sets begin)
    → ((begin : ℕ) → IsIn new begin ↔ (IsIn whole begin ⊎ IsIn set begin)) → (begin : ℕ) → IsIn new begin ↔ IsInSome next begin
some-next whole new set sets next is before joins begin = subst (λ all. IsIn new begin ↔ IsInSome all begin) (sym is) (
  λ h. (some-pushed sets set begin).1 (elim ((joins begin).0 h) [
    | inl was ↦ inl ((before begin).0 was)
    | inr here ↦ inr here
  ]),
  λ h. (joins begin).1 (elim ((some-pushed sets set begin).0 h) [
    | inl was ↦ inl ((before begin).1 was)
    | inr here ↦ inr here
  ]),
)

-- one more set is added to some that have the same structures
pub some-added : (made sets own : List (List ℕ)) (set : List ℕ) → made ≡ sets ++ set ∷ [] → ((begin : ℕ) → IsInSome sets begin ↔ IsInSome own begin)
    → (begin : ℕ) → IsInSome made begin ↔ (IsInSome own begin ⊎ IsIn set begin)
some-added made sets own set is same begin = subst (λ all. IsInSome all begin ↔ (IsInSome own begin ⊎ IsIn set begin)) (sym is) (
  λ h. elim ((some-pushed sets set begin).0 h) [
    | inl was ↦ inl ((same begin).0 was)
    | inr here ↦ inr here
  ],
  λ h. (some-pushed sets set begin).1 (elim h [
    | inl was ↦ inl ((same begin).1 was)
    | inr here ↦ inr here
  ]),
)
