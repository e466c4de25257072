-- Facts that are known to hold or not to hold.
use Rattle.std.proofs.Common.{◌≡◌, ℕ, suc, ◌<◌, ◌≤◌, Bool, true, false, IsTrue, List, [], ◌∷◌, refl, ap, arith, ◌⊎◌, inl, inr}
use Rattle.std.specs.Prelude.{All, Contains, ◌==◌}
use Rattle.std.proofs.lemmas.Bool.{eqb-true, eqb-false, cases_lt}
use Rattle.std.proofs.lemmas.List.Elements.{All-nil, All-cons, All-head, All-tail}
use Rattle.gt_types.specs.declared.types.TypeId.{TypeId}

abbrev pub Known : Type 0 → Type 0
Known P = P ⊎ ¬ P

pub known-same : (i j : ℕ) → Known (i ≡ j)
known-same i j = go (i == j) refl
  where
    go : (b : Bool) → (i == j) ≡ b → Known (i ≡ j)
    go true e = inl (eqb-true i j e)
    go false e = inr (eqb-false i j e)

pub known-less : (i j : ℕ) → Known (i < j)
known-less i j = go (cases_lt i j)
  where
    go : (i < j) ⊎ (j ≤ i) → Known (i < j)
    go (inl lt) = inl lt
    go (inr le) = inr (λ lt. omega arith)

pub known-node : (a b : TypeId) → Known (a ≡ b)
known-node a b = go (known-same a.0 b.0)
  where
    go : Known (a.0 ≡ b.0) → Known (a ≡ b)
    go (inl e) = inl (ap (λ n. let node : TypeId = record { 0 = n } in node) e)
    go (inr ne) = inr (λ e. ne (ap (λ n. n.0) e))

pub known-true : (b : Bool) → Known (IsTrue b)
known-true true = inl refl
known-true false = inr (λ e. cc)

module _ {A B : Type 0} where
  pub known-iff : Known A → (A → B) → (B → A) → Known B
  known-iff (inl a) f g = inl (f a)
  known-iff (inr n) f g = inr (λ b. n (g b))

  pub known-both : Known A → Known B → Known (A × B)
  known-both (inl a) (inl b) = inl (a, b)
  known-both (inl a) (inr n) = inr (λ p. n p.1)
  known-both (inr n) b = inr (λ p. n p.0)

-- a fact of each element of a list, where it is known of each
pub known-all : {X : Type 0} (P : X → Type 0) (xs : List X) → ((x : X) → Contains xs x → Known (P x)) → Known (All P xs)
known-all P [] f = inl (All-nil P)
known-all {X} P (x ∷ xs) f = go (f x (0, omega arith, refl)) (known-all P xs (λ y c. f y (suc c.0, omega (arith, c.1), c.2)))
  where
    go : Known (P x) → Known (All P xs) → Known (All P (x ∷ xs))
    go (inl p) (inl all) = inl (All-cons P x xs p all)
    go (inl p) (inr n) = inr (λ all. n (All-tail P x xs all))
    go (inr n) rest = inr (λ all. n (All-head P x xs all))
