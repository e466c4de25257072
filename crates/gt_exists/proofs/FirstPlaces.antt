-- Of some faults of a text one stands first.
use Rattle.std.proofs.Common.{◌≡◌, ℕ, ◌<◌, ◌≤◌, List, [], ◌∷◌, ◌++◌, refl, ap, inl, inr, arith, subst, sym}
use Rattle.std.specs.Prelude.{◌⊎◌, All}
use Rattle.std.proofs.lemmas.List.Elements.{All-nil, All-cons, All-append, All-weaker}

-- the first of some faults, of which each is a number and a place, and of those at one place the first in order
pub record HasFirst (faults : List (ℕ × ℕ)) : Type 0 where
  pub first : ℕ × ℕ
  pub before : List (ℕ × ℕ)
  pub after : List (ℕ × ℕ)
  pub split : faults ≡ before ++ first ∷ after
  pub earlier : All (λ f. first.1 < f.1) before
  pub later : All (λ f. first.1 ≤ f.1) after

by_order : (a b : ℕ) → (a ≤ b) ⊎ (b < a)
by_order a b = grind arith

-- one more fault stands before those that have a first
with_one : (fault : ℕ × ℕ) (faults : List (ℕ × ℕ)) → HasFirst faults → HasFirst (fault ∷ faults)
with_one fault faults has =
    let first = has.first in
    elim (by_order fault.1 first.1) [
      | inl no_later ↦
          record {
            first = fault;
            before = [];
            after = faults;
            split = refl;
            earlier = All-nil (λ f. fault.1 < f.1);
            later =
                subst (λ (fs : List (ℕ × ℕ)). All (λ f. fault.1 ≤ f.1) fs) (sym has.split)
                (All-append (λ f. fault.1 ≤ f.1) has.before (first ∷ has.after)
                (All-weaker (λ f. first.1 < f.1) (λ f. fault.1 ≤ f.1) (λ f l. omega (arith, no_later)) has.before has.earlier)
                (All-cons (λ f. fault.1 ≤ f.1) first has.after no_later
                (All-weaker (λ f. first.1 ≤ f.1) (λ f. fault.1 ≤ f.1) (λ f l. omega (arith, no_later)) has.after has.later)));
          }
      | inr later ↦
          record {
            first = first;
            before = fault ∷ has.before;
            after = has.after;
            split = ap (λ (fs : List (ℕ × ℕ)). fault ∷ fs) has.split;
            earlier = All-cons (λ f. first.1 < f.1) fault has.before later has.earlier;
            later = has.later;
          }
    ]

pub has_first : (fault : ℕ × ℕ) (faults : List (ℕ × ℕ)) → HasFirst (fault ∷ faults)
has_first fault [] =
    record {
      first = fault;
      before = [];
      after = [];
      split = refl;
      earlier = All-nil (λ f. fault.1 < f.1);
      later = All-nil (λ f. fault.1 ≤ f.1);
    }
has_first fault (next ∷ faults) = with_one fault (next ∷ faults) (has_first next faults)
