-- The earliest of faults is found part by part, and it is the first.
use Rattle.std.proofs.Common.{◌≡◌, ◌∙◌, ℕ, suc, ◌+◌, ◌<◌, Bool, true, false, List, [], ◌∷◌, ◌++◌, length, get_or, drop, Option, Some, None, refl, sym, ap, subst, arith, inl, inr, append_assoc, ◌≤◌}
use Rattle.std.specs.Prelude.{nat_lt, nat_le, ◌==◌, ◌&&◌, ◌||◌, IsTrue, if◌then◌else◌, ◌⊎◌, flat_map, Result, Ok, Err, IfOk}
use Rattle.std.proofs.lemmas.Bool.Decides.{nat_tests}
use Rattle.std.proofs.lemmas.List.{drop_more, append-nil, drop_all}
use Rattle.std.proofs.lemmas.List.Elements.{All-nil, All-push, All-weaker, Contains-push, Contains-append_left}
use Rattle.gt_types.specs.declared.faults.Fault.{Fault}
use Rattle.gt_drafts.specs.FirstFaults.{IsFirst, IsFirstOf, earlier_of, fault_if, first_from, is_no_later}

-- ---- parts

pub first_from_append : (e : Option Fault) (a b : List Fault) → first_from e (a ++ b) ≡ first_from (first_from e a) b
unfolding first_from
first_from_append e [] b = refl
first_from_append e (f ∷ a) b = first_from_append (earlier_of e f) a b

-- two parts, one after the other
pub first_from_both : (e e1 e2 : Option Fault) (a b : List Fault) → e1 ≡ first_from e a → e2 ≡ first_from e1 b → e2 ≡ first_from e (a ++ b)
first_from_both e e1 e2 a b h k = k ∙ ap (λ x. first_from x b) h ∙ sym (first_from_append e a b)

pub first_from_nil : (e : Option Fault) → first_from e [] ≡ e
unfolding first_from
first_from_nil e = refl

-- one more item of a list whose faults are those of its items in order
pub first_from_more :
    {X : Type 0} (f : ℕ → X → List Fault) (F : ℕ → List X → List Fault) → ((i : ℕ) (x : X) (xs : List X) → F i (x ∷ xs) ≡ f i x ++ F (suc i) xs)
    → (e e1 : Option Fault) (i : ℕ) (xs : List X) (x : X) → i < length xs → x ≡ get_or xs i x → e1 ≡ first_from e (f i x)
    → first_from e1 (F (i + 1) (drop (i + 1) xs)) ≡ first_from e (F i (drop i xs))
first_from_more {X} f F step e e1 i xs x l is h =
    let item : drop i xs ≡ x ∷ drop (i + 1) xs = drop_more xs i x l ∙ ap (λ (y : X). y ∷ drop (i + 1) xs) (sym is) in
    let next : i + 1 ≡ suc i = omega arith in
    first_from_both e e1 (first_from e1 (F (i + 1) (drop (i + 1) xs))) (f i x) (F (i + 1) (drop (i + 1) xs)) h refl
    ∙ ap (λ (n : ℕ). first_from e (f i x ++ F n (drop (i + 1) xs))) next ∙ ap (first_from e) (sym (step i x (drop (i + 1) xs)))
    ∙ ap (λ (ys : List X). first_from e (F i ys)) (sym item)

-- the same, where the faults of an item are its own
pub first_from_item :
    {X : Type 0} (f : X → List Fault) (e e1 : Option Fault) (i : ℕ) (xs : List X) (x : X) → i < length xs → x ≡ get_or xs i x → e1 ≡ first_from e (f x)
    → first_from e1 (flat_map f (drop (i + 1) xs)) ≡ first_from e (flat_map f (drop i xs))
first_from_item {X} f = first_from_more (λ (i : ℕ) (x : X). f x) (λ (i : ℕ) (xs : List X). flat_map f xs) (λ i x xs. refl)

-- ---- order

-- by three numbers, one after another
abbrev no_later : (f a n g b m : ℕ) → Bool
no_later f a n g b m = nat_lt f g || (f == g && (nat_lt a b || (a == b && nat_le n m)))

-- two places, each of which comes before the other or is the same
by_pairs : (f a n g b m : ℕ) → no_later f a n g b m ≡ true → (f < g) ⊎ ((f ≡ g) × ((a < b) ⊎ ((a ≡ b) × (n ≤ m))))
by_pairs f a n g b m h = grind (arith, nat_tests)

from_pairs : (f a n g b m : ℕ) → (f < g) ⊎ ((f ≡ g) × ((a < b) ⊎ ((a ≡ b) × (n ≤ m)))) → no_later f a n g b m ≡ true
from_pairs f a n g b m h = grind (arith, nat_tests)

trans_pairs : (f a n g b m h c l : ℕ) → (f < g) ⊎ ((f ≡ g) × ((a < b) ⊎ ((a ≡ b) × (n ≤ m)))) → (g < h) ⊎ ((g ≡ h) × ((b < c) ⊎ ((b ≡ c) × (m ≤ l))))
    → (f < h) ⊎ ((f ≡ h) × ((a < c) ⊎ ((a ≡ c) × (n ≤ l))))
trans_pairs f a n g b m h c l (inl x) (inl y) = inl (omega arith)
trans_pairs f a n g b m h c l (inl x) (inr y) = let e : g ≡ h = y.0 in inl (omega (arith, x, e))
trans_pairs f a n g b m h c l (inr x) (inl y) = let e : f ≡ g = x.0 in inl (omega (arith, y, e))
trans_pairs f a n g b m h c l (inr (e, inl x)) (inr (k, inl y)) = inr (omega arith, inl (omega arith))
trans_pairs f a n g b m h c l (inr (e, inl x)) (inr (k, inr y)) = let u : b ≡ c = y.0 in inr (omega arith, inl (omega (arith, x, u)))
trans_pairs f a n g b m h c l (inr (e, inr x)) (inr (k, inl y)) = let u : a ≡ b = x.0 in inr (omega arith, inl (omega (arith, y, u)))
trans_pairs f a n g b m h c l (inr (e, inr (u, x))) (inr (k, inr (v, y))) = inr (omega arith, inr (omega arith, omega arith))

refl_no_later : (a : Fault) → IsTrue (is_no_later a a)
refl_no_later a = from_pairs a.file a.at a.number a.file a.at a.number (inr (refl, inr (refl, omega arith)))

total_no_later : (a b : Fault) → is_no_later a b ≡ false → IsTrue (is_no_later b a)
total_no_later a b h = grind (arith, nat_tests)

pub trans_no_later : (a b c : Fault) → IsTrue (is_no_later a b) → IsTrue (is_no_later b c) → IsTrue (is_no_later a c)
trans_no_later a b c h k =
    from_pairs a.file a.at a.number c.file c.at c.number
    (trans_pairs a.file a.at a.number b.file b.at b.number c.file c.at c.number (by_pairs a.file a.at a.number b.file b.at b.number h)
    (by_pairs b.file b.at b.number c.file c.at c.number k))

-- ---- the first

first_alone : (f : Fault) → IsFirst (f ∷ []) f
first_alone f = record { there = Contains-push [] f; first = All-push (λ other. IsTrue (is_no_later f other)) [] f (All-nil (λ other. IsTrue (is_no_later f other))) (refl_no_later f) }

-- one more fault after those that have a first
first_pushed : (faults : List Fault) (f g : Fault) (b : Bool) → is_no_later f g ≡ b → IsFirst faults f → IsFirstOf (faults ++ g ∷ []) (if b then Some f else Some g)
first_pushed faults f g true e h =
    record { there = Contains-append_left faults (g ∷ []) f h.there; first = All-push (λ other. IsTrue (is_no_later f other)) faults g h.first e }
first_pushed faults f g false e h =
    record {
      there = Contains-push faults g;
      first =
          All-push (λ other. IsTrue (is_no_later g other)) faults g
          (All-weaker (λ other. IsTrue (is_no_later f other)) (λ other. IsTrue (is_no_later g other)) (λ other k. trans_no_later g f other (total_no_later f g e) k) faults h.first)
          (refl_no_later g);
    }

first_of_earlier : (faults : List Fault) (e : Option Fault) (g : Fault) → IsFirstOf faults e → IsFirstOf (faults ++ g ∷ []) (earlier_of e g)
first_of_earlier faults None g h = subst (λ (fs : List Fault). IsFirst (fs ++ g ∷ []) g) (sym h) (first_alone g)
first_of_earlier faults (Some f) g h = first_pushed faults f g (is_no_later f g) refl h

first_of_more : (before faults : List Fault) (e : Option Fault) → IsFirstOf before e → IsFirstOf (before ++ faults) (first_from e faults)
unfolding first_from
first_of_more before [] e h = subst (λ (fs : List Fault). IsFirstOf fs e) (sym (append-nil before)) h
first_of_more before (f ∷ faults) e h =
    subst (λ (fs : List Fault). IsFirstOf fs (first_from (earlier_of e f) faults)) (append_assoc before (f ∷ []) faults)
    (first_of_more (before ++ f ∷ []) faults (earlier_of e f) (first_of_earlier before e f h))

-- the earliest of faults is the first of them
pub first_from_first : (faults : List Fault) → IsFirstOf faults (first_from None faults)
first_from_first faults = first_of_more [] faults None refl

pub first_of_all : (faults : List Fault) (e : Option Fault) → e ≡ first_from None faults → IsFirstOf faults e
first_of_all faults e h = subst (IsFirstOf faults) (sym h) (first_from_first faults)

-- ---- parts of the parts

-- what follows from what is true of an answer
pub if_ok : {X E : Type 0} (r : Result X E) (P Q : X → Type 0) → ((x : X) → P x → Q x) → IfOk r P → IfOk r Q
if_ok (Ok x) P Q f h = f x h
if_ok (Err e) P Q f h = h

-- the same, where what was looked for is known by another name
pub first_from_if : (e e1 : Option Fault) (b there : Bool) (number file at : ℕ) → e1 ≡ first_from e (fault_if b number file at) → b ≡ there → e1 ≡ first_from e (fault_if there number file at)
first_from_if e e1 b there number file at h same = h ∙ ap (λ (x : Bool). first_from e (fault_if x number file at)) same

-- after the last item
pub first_from_end : {X : Type 0} (F : ℕ → List X → List Fault) → ((i : ℕ) → F i [] ≡ []) → (e : Option Fault) (i : ℕ) (xs : List X) → length xs ≤ i → e ≡ first_from e (F i (drop i xs))
first_from_end {X} F none e i xs l =
    sym (first_from_nil e) ∙ ap (first_from e) (sym (none i)) ∙ ap (λ (ys : List X). first_from e (F i ys)) (sym (drop_all i xs l))

pub first_from_items : {X : Type 0} (f : X → List Fault) (e : Option Fault) (i : ℕ) (xs : List X) → length xs ≤ i → e ≡ first_from e (flat_map f (drop i xs))
first_from_items {X} f = first_from_end (λ (i : ℕ) (xs : List X). flat_map f xs) (λ i. refl)

-- the same with another number
pub first_from_numbered : (e e1 : Option Fault) (b there : Bool) (n number file at : ℕ) → e1 ≡ first_from e (fault_if b n file at) → b ≡ there → n ≡ number → e1 ≡ first_from e (fault_if there number file at)
first_from_numbered e e1 b there n number file at h same k =
    h ∙ ap (λ (x : Bool). first_from e (fault_if x n file at)) same ∙ ap (λ (x : ℕ). first_from e (fault_if there x file at)) k
