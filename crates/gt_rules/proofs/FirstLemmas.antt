-- The first of faults is found part by part.
use Rattle.std.proofs.Common.{◌≡◌, ◌∙◌, ◌⊎◌, inl, inr, ℕ, ◌+◌, ◌≤◌, ◌<◌, Bool, true, false, List, length, Option, Some, None, refl, sym, ap, subst, arith}
use Rattle.std.specs.Prelude.{nat_lt, nat_le, ◌==◌, ◌&&◌, ◌||◌, IsTrue, if◌then◌else◌, slice_get}
use Rattle.std.specs.Bool.{Decides}
use Rattle.std.proofs.lemmas.Bool.{false≢true}
use Rattle.std.proofs.lemmas.Bool.Decides.{nat_tests}
use Rattle.std.proofs.lemmas.Option.{none-some, same_Some, slice_get_within}
use Rattle.gt_types.specs.declared.faults.Fault.{Fault}
use Rattle.gt_drafts.specs.FirstFaults.{earlier_of, fault_if, first_from, is_no_later}
use Rattle.gt_rules.specs.Faults.{fault}
use Rattle.gt_rules.specs.Parts.{AtPlace, Each, Either, FaultIf, IsFirstWith}

-- ---- order

-- by three numbers, one after another
abbrev no_later : (f a n g b m : ℕ) → Bool
no_later f a n g b m = nat_lt f g || (f == g && (nat_lt a b || (a == b && nat_le n m)))

-- two places, each of which comes before the other or is the same
by_pairs : (f a n g b m : ℕ) → no_later f a n g b m ≡ true → (f < g) ⊎ ((f ≡ g) × ((a < b) ⊎ ((a ≡ b) × (n ≤ m))))
by_pairs f a n g b m h = grind (arith, nat_tests)

from_pairs : (f a n g b m : ℕ) → (f < g) ⊎ ((f ≡ g) × ((a < b) ⊎ ((a ≡ b) × (n ≤ m)))) → no_later f a n g b m ≡ true
from_pairs f a n g b m h = grind (arith, nat_tests)

trans_pairs : (f a n g b m h c l : ℕ) → (f < g) ⊎ ((f ≡ g) × ((a < b) ⊎ ((a ≡ b) × (n ≤ m)))) → (g < h) ⊎ ((g ≡ h) × ((b < c) ⊎ ((b ≡ c) × (m ≤ l))))
    → (f < h) ⊎ ((f ≡ h) × ((a < c) ⊎ ((a ≡ c) × (n ≤ l))))
trans_pairs f a n g b m h c l (inl x) (inl y) = inl (omega arith)
trans_pairs f a n g b m h c l (inl x) (inr y) = let e : g ≡ h = y.0 in inl (omega (arith, x, e))
trans_pairs f a n g b m h c l (inr x) (inl y) = let e : f ≡ g = x.0 in inl (omega (arith, y, e))
trans_pairs f a n g b m h c l (inr (e, inl x)) (inr (k, inl y)) = inr (omega arith, inl (omega arith))
trans_pairs f a n g b m h c l (inr (e, inl x)) (inr (k, inr y)) = let u : b ≡ c = y.0 in inr (omega arith, inl (omega (arith, x, u)))
trans_pairs f a n g b m h c l (inr (e, inr x)) (inr (k, inl y)) = let u : a ≡ b = x.0 in inr (omega arith, inl (omega (arith, y, u)))
trans_pairs f a n g b m h c l (inr (e, inr (u, x))) (inr (k, inr (v, y))) = inr (omega arith, inr (omega arith, omega arith))

pub refl_no_later : (a : Fault) → IsTrue (is_no_later a a)
refl_no_later a = from_pairs a.file a.at a.number a.file a.at a.number (inr (refl, inr (refl, omega arith)))

pub total_no_later : (a b : Fault) → is_no_later a b ≡ false → IsTrue (is_no_later b a)
total_no_later a b h = grind (arith, nat_tests)

pub trans_no_later : (a b c : Fault) → IsTrue (is_no_later a b) → IsTrue (is_no_later b c) → IsTrue (is_no_later a c)
trans_no_later a b c h k =
    from_pairs a.file a.at a.number c.file c.at c.number
    (trans_pairs a.file a.at a.number b.file b.at b.number c.file c.at c.number (by_pairs a.file a.at a.number b.file b.at b.number h)
    (by_pairs b.file b.at b.number c.file c.at c.number k))

-- ---- parts

-- a part without faults
pub first_of_none : (e : Option Fault) (P : Fault → Type 0) → ((f : Fault) → P f → ⊥) → IsFirstWith e P e
first_of_none e P none = record {
  there = λ f is. inl is;
  least = λ f which. (f, at_before f which, refl_no_later f);
}
  where
    at_before : (f : Fault) → (e ≡ Some f) ⊎ P f → e ≡ Some f
    at_before f (inl is) = is
    at_before f (inr p) = absurd (none f p)

-- the same faults, said otherwise
pub first_of_same : (e r : Option Fault) (P Q : Fault → Type 0) → ((f : Fault) → P f → Q f) → ((f : Fault) → Q f → P f) → IsFirstWith e P r → IsFirstWith e Q r
first_of_same e r P Q to back first = record {
  there = λ f is. forth f (first.there f is);
  least = λ f which. first.least f (again f which);
}
  where
    forth : (f : Fault) → (e ≡ Some f) ⊎ P f → (e ≡ Some f) ⊎ Q f
    forth f (inl is) = inl is
    forth f (inr p) = inr (to f p)

    again : (f : Fault) → (e ≡ Some f) ⊎ Q f → (e ≡ Some f) ⊎ P f
    again f (inl is) = inl is
    again f (inr q) = inr (back f q)

there_in_both : (e e1 r : Option Fault) (P Q : Fault → Type 0) (f : Fault) → IsFirstWith e P e1 → (e1 ≡ Some f) ⊎ Q f → (e ≡ Some f) ⊎ Either P Q f
there_in_both e e1 r P Q f first (inr q) = inr (inr q)
there_in_both e e1 r P Q f first (inl is) = in_first (first.there f is)
  where
    in_first : (e ≡ Some f) ⊎ P f → (e ≡ Some f) ⊎ Either P Q f
    in_first (inl before) = inl before
    in_first (inr p) = inr (inl p)

least_by_first : (e e1 r : Option Fault) (P Q : Fault → Type 0) (f : Fault) → IsFirstWith e P e1 → IsFirstWith e1 Q r → (e ≡ Some f) ⊎ P f
    → (g : Fault) × (r ≡ Some g) × IsTrue (is_no_later g f)
least_by_first e e1 r P Q f first second which =
    let a = first.least f which in
    let b = second.least a.0 (inl a.1) in
    (b.0, b.1, trans_no_later b.0 a.0 f b.2 a.2)

least_in_both : (e e1 r : Option Fault) (P Q : Fault → Type 0) (f : Fault) → IsFirstWith e P e1 → IsFirstWith e1 Q r → (e ≡ Some f) ⊎ Either P Q f
    → (g : Fault) × (r ≡ Some g) × IsTrue (is_no_later g f)
least_in_both e e1 r P Q f first second (inl is) = least_by_first e e1 r P Q f first second (inl is)
least_in_both e e1 r P Q f first second (inr (inl p)) = least_by_first e e1 r P Q f first second (inr p)
least_in_both e e1 r P Q f first second (inr (inr q)) = second.least f (inr q)

-- two parts, one after the other
pub first_of_both : {e e1 r : Option Fault} {P Q : Fault → Type 0} → IsFirstWith e P e1 → IsFirstWith e1 Q r → IsFirstWith e (Either P Q) r
first_of_both {e} {e1} {r} {P} {Q} first second = record {
  there = λ f is. there_in_both e e1 r P Q f first (second.there f is);
  least = λ f which. least_in_both e e1 r P Q f first second which;
}

-- ---- one fault

earlier_by : (x g : Fault) (b : Bool) → is_no_later x g ≡ b → IsFirstWith (Some x) (λ f. f ≡ g) (if b then Some x else Some g)
earlier_by x g true h = record {
  there = λ f is. inl is;
  least = λ f which. (x, refl, no_later_than f which);
}
  where
    no_later_than : (f : Fault) → (Some x ≡ Some f) ⊎ (f ≡ g) → IsTrue (is_no_later x f)
    no_later_than f (inl is) = subst (λ (y : Fault). IsTrue (is_no_later x y)) (same_Some x f is) (refl_no_later x)
    no_later_than f (inr is) = subst (λ (y : Fault). IsTrue (is_no_later x y)) (sym is) h
earlier_by x g false h = record {
  there = λ f is. inr (sym (same_Some g f is));
  least = λ f which. (g, refl, no_later_than f which);
}
  where
    no_later_than : (f : Fault) → (Some x ≡ Some f) ⊎ (f ≡ g) → IsTrue (is_no_later g f)
    no_later_than f (inl is) = subst (λ (y : Fault). IsTrue (is_no_later g y)) (same_Some x f is) (total_no_later x g h)
    no_later_than f (inr is) = subst (λ (y : Fault). IsTrue (is_no_later g y)) (sym is) (refl_no_later g)

first_of_earlier : (e : Option Fault) (g : Fault) → IsFirstWith e (λ f. f ≡ g) (earlier_of e g)
first_of_earlier (Some x) g = earlier_by x g (is_no_later x g) refl
first_of_earlier None g = record {
  there = λ f is. inr (sym (same_Some g f is));
  least = λ f which. (g, refl, no_later_than f which);
}
  where
    no_later_than : (f : Fault) → (None ≡ Some f) ⊎ (f ≡ g) → IsTrue (is_no_later g f)
    no_later_than f (inl is) = absurd (none-some f is)
    no_later_than f (inr is) = subst (λ (y : Fault). IsTrue (is_no_later g y)) (sym is) (refl_no_later g)

-- a fault that was looked for at a place, and was found or not
first_found : (e : Option Fault) (b : Bool) (P : Type 0) (number file at : ℕ) → Decides b P → IsFirstWith e (FaultIf P number file at) (first_from e (fault_if b number file at))
unfolding first_from
first_found e true P number file at decides =
    first_of_same e (earlier_of e (fault number file at)) (λ f. f ≡ fault number file at) (FaultIf P number file at) (λ f is. (decides.0 refl, is)) (λ f p. p.1)
    (first_of_earlier e (fault number file at))
first_found e false P number file at decides = first_of_none e (FaultIf P number file at) (λ f p. false≢true (decides.1 p.0))

pub first_if : (e r : Option Fault) (b : Bool) (P : Type 0) (number file at : ℕ) → r ≡ first_from e (fault_if b number file at) → Decides b P → IsFirstWith e (FaultIf P number file at) r
first_if e r b P number file at is decides = subst (IsFirstWith e (FaultIf P number file at)) (sym is) (first_found e b P number file at decides)

-- ---- the items of a list

-- the faults of so many items
abbrev pub Below : {A : Type 0} → ℕ → List A → (ℕ → A → Fault → Type 0) → Fault → Type 0
Below {A} n xs P f = (k : ℕ) × (k < n) × (x : A) × (slice_get xs k ≡ Some x) × P k x f

pub first_below_none : {A : Type 0} (xs : List A) (P : ℕ → A → Fault → Type 0) (e : Option Fault) → IsFirstWith e (Below 0 xs P) e
first_below_none {A} xs P e = first_of_none e (Below 0 xs P) (λ f p. omega (arith, p.1))

one_more : {A : Type 0} (xs : List A) (P : ℕ → A → Fault → Type 0) (n : ℕ) (x : A) → slice_get xs n ≡ Some x → (f : Fault) → Either (Below n xs P) (P n x) f → Below (n + 1) xs P f
one_more {A} xs P n x at f (inl (k, less, y, there, p)) = (k, omega (arith, less), y, there, p)
one_more {A} xs P n x at f (inr p) = (n, omega arith, x, at, p)

split_last : {A : Type 0} (xs : List A) (P : ℕ → A → Fault → Type 0) (n : ℕ) (x : A) → slice_get xs n ≡ Some x → (f : Fault) → Below (n + 1) xs P f → Either (Below n xs P) (P n x) f
split_last {A} xs P n x at f (k, less, y, there, p) = by_place (last_or_before k n less)
  where
    last_or_before : (k n : ℕ) → k < n + 1 → (k < n) ⊎ (k ≡ n)
    last_or_before k n less = grind arith

    by_place : (k < n) ⊎ (k ≡ n) → Either (Below n xs P) (P n x) f
    by_place (inl before) = inl (k, before, y, there, p)
    by_place (inr is) =
        let same : y ≡ x = same_Some y x (sym there ∙ ap (slice_get xs) is ∙ at) in
        inr (subst (λ (z : A). P n z f) same (subst (λ (i : ℕ). P i y f) is p))

pub first_below_more : {A : Type 0} (xs : List A) (P : ℕ → A → Fault → Type 0) (n : ℕ) (x : A) (e e1 r : Option Fault) → slice_get xs n ≡ Some x
    → IsFirstWith e (Below n xs P) e1 → IsFirstWith e1 (P n x) r → IsFirstWith e (Below (n + 1) xs P) r
first_below_more {A} xs P n x e e1 r at first second =
    first_of_same e r (Either (Below n xs P) (P n x)) (Below (n + 1) xs P) (one_more xs P n x at) (split_last xs P n x at) (first_of_both first second)

pub first_of_each : {A : Type 0} (xs : List A) (P : ℕ → A → Fault → Type 0) (n : ℕ) (e r : Option Fault) → length xs ≤ n → IsFirstWith e (Below n xs P) r → IsFirstWith e (Each xs P) r
first_of_each {A} xs P n e r all first =
    first_of_same e r (Below n xs P) (Each xs P) (λ f p. (p.0, p.2, p.3, p.4)) (λ f p. let inside = slice_get_within xs p.0 p.1 p.2 in (p.0, omega (arith, inside, all), p.1, p.2, p.3)) first

-- what stands at a place
pub first_at_place : {A : Type 0} (xs : List A) (k : ℕ) (P : A → Fault → Type 0) (x : A) (e r : Option Fault) → slice_get xs k ≡ Some x → IsFirstWith e (P x) r → IsFirstWith e (AtPlace xs k P) r
first_at_place {A} xs k P x e r at first =
    first_of_same e r (P x) (AtPlace xs k P) (λ f p. (x, at, p)) (λ f p. subst (λ (y : A). P y f) (same_Some p.0 x (sym p.1 ∙ at)) p.2) first
