-- What paths are added, step by step.
use Rattle.std.proofs.Common.{◌≡◌, ℕ, ◌+◌, ◌<◌, ◌≤◌, List, length, get_or, ap, sym, subst, ◌∙◌, ◌⊎◌, arith, Some, inl, inr}
use Rattle.std.specs.Prelude.{◌↔◌, Contains, slice_get}
use Rattle.std.proofs.lemmas.Bool.{cases_lt}
use Rattle.std.proofs.lemmas.Option.{slice_get_within, slice_get-get_or, get_or_from_slice_get}
use Rattle.gt_tree.proofs.PathBits.{some-same}
use Rattle.gt_leaf.specs.Seeking.{PathStarts, Gains}
use Rattle.gt_leaf.proofs.Adding.{either-none, either-both, either-same}

-- nothing is added
pub gains-none : (a more : PathStarts) → ((names : List (List ℕ)) (begin : ℕ) → ¬ more names begin) → Gains a a more
gains-none a more none = record { each = λ names begin. either-none (none names begin) }

-- what is added twice is added together
pub gains-both : (a b c m n k : PathStarts) → Gains a b m → Gains b c n → ((names : List (List ℕ)) (begin : ℕ) → k names begin ↔ (m names begin ⊎ n names begin)) → Gains a c k
gains-both a b c m n k p q both = record { each = λ names begin. either-both (q.each names begin) (p.each names begin) (both names begin) }

pub gains-all : (a b c : PathStarts) {m n : PathStarts} → Gains a b m → Gains b c n → Gains a c (λ names begin. m names begin ⊎ n names begin)
gains-all a b c {m} {n} p q = gains-both a b c m n (λ names begin. m names begin ⊎ n names begin) p q (λ names begin. (λ h. h, λ h. h))

pub gains-same : (a b m k : PathStarts) → Gains a b m → ((names : List (List ℕ)) (begin : ℕ) → m names begin ↔ k names begin) → Gains a b k
gains-same a b m k p same = record { each = λ names begin. either-same (p.each names begin) (same names begin) }

-- what is added to nothing is all there is
pub all-gained : (a b more : PathStarts) → ((names : List (List ℕ)) (begin : ℕ) → ¬ a names begin) → Gains a b more → (names : List (List ℕ)) (begin : ℕ) → b names begin ↔ more names begin
all-gained a b more none gains names begin = (there, λ m. (gains.each names begin).1 (inr m))
  where
    there : b names begin → more names begin
    there h = elim ((gains.each names begin).0 h) [ inl was ↦ absurd (none names begin was) | inr m ↦ m ]

-- ---- the items of a list

pub item-at : {X : Type 0} (xs : List X) (i : ℕ) (x : X) → i < length xs → x ≡ get_or xs i x → slice_get xs i ≡ Some x
item-at xs i x less is = slice_get-get_or xs i x less ∙ ap Some (sym is)

module _ {X : Type 0} (paths : ℕ → X → PathStarts) (xs : List X) where
  -- those of the items before a place
  abbrev pub Before : ℕ → PathStarts
  Before n names begin = (i : ℕ) × (x : X) × (i < n) × (slice_get xs i ≡ Some x) × paths i x names begin

  pub before-none : (a : PathStarts) → Gains a a (Before 0)
  before-none a = gains-none a (Before 0) (λ names begin (i, x, less, e, p). absurd (omega (arith, less)))

  pub before-next : (a b c : PathStarts) (n : ℕ) (x : X) → slice_get xs n ≡ Some x → Gains a b (Before n) → Gains b c (paths n x) → Gains a c (Before (n + 1))
  before-next a b c n x there p q = gains-both a b c (Before n) (paths n x) (Before (n + 1)) p q (λ names begin. (split names begin, join names begin))
    where
      split : (names : List (List ℕ)) (begin : ℕ) → Before (n + 1) names begin → Before n names begin ⊎ paths n x names begin
      split names begin (i, y, less, e, p) = elim (cases_lt i n) [
        | inl before ↦ inl (i, y, before, e, p)
        | inr past ↦
            let last : i ≡ n = omega (arith, less, past) in
            let same : y ≡ x = some-same (slice_get xs n) y x (subst (λ k. slice_get xs k ≡ Some y) last e) there in
            inr (subst (λ z. paths n z names begin) same (subst (λ k. paths k y names begin) last p))
      ]

      join : (names : List (List ℕ)) (begin : ℕ) → Before n names begin ⊎ paths n x names begin → Before (n + 1) names begin
      join names begin (inl (i, y, less, e, p)) = (i, y, omega (arith, less), e, p)
      join names begin (inr p) = (n, x, omega arith, there, p)

  -- all items stand before the end
  pub before-all : (a b : PathStarts) (n : ℕ) → length xs ≤ n → Gains a b (Before n) → Gains a b (λ names begin. (i : ℕ) × (x : X) × (slice_get xs i ≡ Some x) × paths i x names begin)
  before-all a b n past p =
      gains-same a b (Before n) (λ names begin. (i : ℕ) × (x : X) × (slice_get xs i ≡ Some x) × paths i x names begin) p
      (λ names begin. (λ (i, x, less, e, q). (i, x, e, q), λ (i, x, e, q). (i, x, omega (arith, past, slice_get_within xs i x e), e, q)))

-- so where the place of an item makes no difference
pub before-each : {X : Type 0} (paths : X → PathStarts) (xs : List X) (a b : PathStarts) (n : ℕ) → length xs ≤ n → Gains a b (Before (λ i. paths) xs n) → Gains a b (λ names begin. (x : X) × Contains xs x × paths x names begin)
before-each {X} paths xs a b n past p =
    gains-same a b (Before (λ i. paths) xs n) (λ names begin. (x : X) × Contains xs x × paths x names begin) p (λ names begin. (there names begin, back names begin))
  where
    there : (names : List (List ℕ)) (begin : ℕ) → Before (λ i. paths) xs n names begin → (x : X) × Contains xs x × paths x names begin
    there names begin (i, x, less, e, q) = (x, (i, slice_get_within xs i x e, get_or_from_slice_get xs i x x e), q)

    back : (names : List (List ℕ)) (begin : ℕ) → (x : X) × Contains xs x × paths x names begin → Before (λ i. paths) xs n names begin
    back names begin (x, (i, within, is), q) = (i, x, omega (arith, past, within), slice_get-get_or xs i x within ∙ ap Some is, q)
