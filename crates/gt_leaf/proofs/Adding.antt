-- What is added to lists of things, step by step.
use Rattle.std.proofs.Common.{List, ◌⊎◌, inl, inr}
use Rattle.std.specs.Prelude.{◌↔◌, Contains}

-- ---- what is there, or what is added

pub either-none : {A N : Type 0} → ¬ N → A ↔ (A ⊎ N)
either-none not = (λ a. inl a, λ h. elim h [ inl a ↦ a | inr n ↦ absurd (not n) ])

pub either-both : {A B C N M K : Type 0} → C ↔ (B ⊎ M) → B ↔ (A ⊎ N) → K ↔ (N ⊎ M) → C ↔ (A ⊎ K)
either-both {A} {B} {C} {N} {M} {K} f g h = (there, back)
  where
    there : C → A ⊎ K
    there c = elim (f.0 c) [ inl b ↦ elim (g.0 b) [ inl a ↦ inl a | inr n ↦ inr (h.1 (inl n)) ] | inr m ↦ inr (h.1 (inr m)) ]

    more : N ⊎ M → C
    more (inl n) = f.1 (inl (g.1 (inr n)))
    more (inr m) = f.1 (inr m)

    back : A ⊎ K → C
    back (inl a) = f.1 (inl (g.1 (inl a)))
    back (inr k) = more (h.0 k)

pub either-same : {A C N K : Type 0} → C ↔ (A ⊎ N) → N ↔ K → C ↔ (A ⊎ K)
either-same f h = (λ c. elim (f.0 c) [ inl a ↦ inl a | inr n ↦ inr (h.0 n) ], λ e. elim e [ inl a ↦ f.1 (inl a) | inr k ↦ f.1 (inr (h.1 k)) ])

-- ---- steps

-- a step adds to a list what is so
pub record Adds {Y : Type 0} (g : List Y → List Y) (P : Y → Type 0) : Type 0 where
  pub each : (k : List Y) (y : Y) → Contains (g k) y ↔ (Contains k y ⊎ P y)

module _ {Y : Type 0} where
  pub adds-none : {P : Y → Type 0} → ((y : Y) → ¬ P y) → Adds (λ k. k) P
  adds-none none = record { each = λ k y. either-none (none y) }

  pub adds-both : {f g : List Y → List Y} {N M K : Y → Type 0} → Adds f N → Adds g M → ((y : Y) → K y ↔ (N y ⊎ M y)) → Adds (λ k. g (f k)) K
  adds-both {f} p q both = record { each = λ k y. either-both (q.each (f k) y) (p.each k y) (both y) }

  pub adds-same : {f : List Y → List Y} {N K : Y → Type 0} → Adds f N → ((y : Y) → N y ↔ K y) → Adds f K
  adds-same p same = record { each = λ k y. either-same (p.each k y) (same y) }
