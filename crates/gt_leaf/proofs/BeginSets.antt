-- Sets of the structures at which paths begin.
use Rattle.std.proofs.Common.{◌≡◌, ℕ, ◌+◌, ◌<◌, ◌≤◌, List, length, ap, sym, subst, ◌∙◌, ◌⊎◌, arith, Option, Some, inl, inr}
use Rattle.std.specs.Prelude.{◌↔◌, Contains, IfSome, slice_get}
use Rattle.std.proofs.lemmas.Bool.{cases_lt}
use Rattle.std.proofs.lemmas.Option.{slice_get_within, slice_get-get_or, get_or_from_slice_get}
use Rattle.gt_types.specs.declared.program.Program.{Program}
use Rattle.gt_paths.specs.declared.containers.Containers.{Containers}
use Rattle.gt_paths.specs.Containers.{AreContainersOf, containers_of}
use Rattle.gt_paths.specs.Numbers.{numbered}
use Rattle.gt_sets.specs.Sets.{IsIn}
use Rattle.gt_leaf.specs.Seeking.{IsContainer}

-- what is said of what there is
pub if-there : {A : Type 0} (P : A → Type 0) (found o : Option A) (a : A) → found ≡ o → found ≡ Some a → IfSome o P → P a
if-there P found o a is there p = subst (λ x. IfSome x P) (sym is ∙ there) p

-- ---- the numbers of a list

-- a set is that of the numbers before a place
abbrev pub IsSetOf : List ℕ → ℕ → List ℕ → Type 0
IsSetOf words n ids = (i : ℕ) → IsIn words i ↔ ((k : ℕ) × (k < n) × (slice_get ids k ≡ Some i))

pub set-none : (words ids : List ℕ) → ((i : ℕ) → ¬ IsIn words i) → IsSetOf words 0 ids
set-none words ids none i = (λ h. absurd (none i h), λ (k, less, e). absurd (omega (arith, less)))

pub set-next : (old new ids : List ℕ) (n x : ℕ) → slice_get ids n ≡ Some x → IsSetOf old n ids → ((i : ℕ) → IsIn new i ↔ ((i ≡ x) ⊎ IsIn old i)) → IsSetOf new (n + 1) ids
set-next old new ids n x there before added i = (split, join)
  where
    split : IsIn new i → (k : ℕ) × (k < n + 1) × (slice_get ids k ≡ Some i)
    split h = elim ((added i).0 h) [
      | inl is ↦ (n, omega arith, subst (λ y. slice_get ids n ≡ Some y) (sym is) there)
      | inr was ↦ let found = (before i).0 was in (found.0, let less = found.1 in omega (arith, less), found.2)
    ]

    join : (k : ℕ) × (k < n + 1) × (slice_get ids k ≡ Some i) → IsIn new i
    join (k, less, e) = elim (cases_lt k n) [
      | inl earlier ↦ (added i).1 (inr ((before i).1 (k, earlier, e)))
      | inr past ↦
          let last : k ≡ n = omega (arith, less, past) in
          let here : slice_get ids n ≡ Some i = subst (λ j. slice_get ids j ≡ Some i) last e in
          let same : i ≡ x = cc in
          (added i).1 (inl same)
    ]

pub set-all : (words ids : List ℕ) (n : ℕ) → length ids ≤ n → IsSetOf words n ids → (i : ℕ) → IsIn words i ↔ Contains ids i
set-all words ids n past before i = (there, back)
  where
    there : IsIn words i → Contains ids i
    there h = let found = (before i).0 h in (found.0, slice_get_within ids found.0 i found.2, get_or_from_slice_get ids found.0 i i found.2)

    back : Contains ids i → IsIn words i
    back (k, within, is) = (before i).1 (k, omega (arith, past, within), slice_get-get_or ids k i within ∙ ap Some is)

-- ---- the structures around one

iff-both : {A B C : Type 0} → A ↔ B → B ↔ C → A ↔ C
iff-both f g = (λ a. g.0 (f.0 a), λ c. f.1 (g.1 c))

-- the set of what is listed as containers
pub set-containers : (program : Program) (containers : Containers) (node : ℕ) (words ids : List ℕ) → AreContainersOf program containers → ids ≡ containers_of containers node → ((i : ℕ) → IsIn words i ↔ Contains ids i) → (i : ℕ) → IsIn words i ↔ IsContainer program node i
set-containers program containers node words ids are is set i =
    iff-both (set i) (subst (λ xs. Contains xs i ↔ IsContainer program node i) (sym is) (λ c. are.only i node c, λ h. are.listed (numbered i) (numbered node) h))
