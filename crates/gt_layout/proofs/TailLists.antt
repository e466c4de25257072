-- Lists of arrays with a length: for each size of elements once, in rising order.
use Rattle.std.proofs.Common.{◌≡◌, ℕ, zero, suc, ◌+◌, ◌*◌, ◌≤◌, ◌<◌, max, Bool, true, false, List, [], ◌∷◌, ◌++◌, length, take, set, get_or, refl, ap, sym, subst, ◌∙◌, arith, Some, ◌⊎◌, inl, inr}
use Rattle.std.specs.List.{All, AllPairs, insert}
use Rattle.std.specs.Prelude.{nat_lt, slice_get}
use Rattle.std.proofs.lemmas.Bool.{cases_lt, ltb-true, ltb-false}
use Rattle.std.proofs.lemmas.List.Elements.{All-nil, All-cons, All-head, All-tail}
use Rattle.std.proofs.lemmas.List.Kept.{AllPairs-cons}
use Rattle.gt_layout.specs.declared.planes.TailSpot.{TailSpot}
use Rattle.gt_layout.specs.Growths.{Reaches, end_of_tails, tail_spot}
use Rattle.gt_layout.specs.Progress.{cond_tail, with_tail, with_tails}

-- the sizes of elements rise
abbrev pub Rise : List TailSpot → Type 0
Rise tails = AllPairs (λ tail other. tail.elem_size < other.elem_size) tails

abbrev pub AreAbove : ℕ → List TailSpot → Type 0
AreAbove n tails = All (λ tail. n < tail.elem_size) tails

pub rise-nil : Rise []
rise-nil i j d less within = absurd (omega (arith, within))

pub rise-cons : (x : TailSpot) (xs : List TailSpot) → AreAbove x.elem_size xs → Rise xs → Rise (x ∷ xs)
rise-cons x xs above rise = AllPairs-cons (λ (tail : TailSpot) (other : TailSpot). tail.elem_size < other.elem_size) x xs above rise

pub rise-head : (x : TailSpot) (xs : List TailSpot) → Rise (x ∷ xs) → AreAbove x.elem_size xs
rise-head x xs rise = λ k d within. rise 0 (suc k) d (omega arith) (omega (arith, within))

pub rise-tail : (x : TailSpot) (xs : List TailSpot) → Rise (x ∷ xs) → Rise xs
rise-tail x xs rise = λ i j d less within. rise (suc i) (suc j) d (omega (arith, less)) (omega (arith, within))

-- ---- what is reached

reaches-head : (x : TailSpot) (xs : List TailSpot) (t : TailSpot) → x.elem_size ≡ t.elem_size → t.offset ≤ x.offset → Reaches (x ∷ xs) t
reaches-head x xs t same le = (0, x, omega arith, refl, (same, le))

reaches-later : (x : TailSpot) (xs : List TailSpot) (t : TailSpot) → Reaches xs t → Reaches (x ∷ xs) t
reaches-later x xs t (k, o, within, at, (same, le)) = (suc k, o, omega (arith, within), at, (same, le))

reaches-cases : (x : TailSpot) (xs : List TailSpot) (t : TailSpot) → Reaches (x ∷ xs) t → ((x.elem_size ≡ t.elem_size) × (t.offset ≤ x.offset)) ⊎ Reaches xs t
reaches-cases x xs t (zero, o, within, at, (same, le)) = inl (ap (λ (y : TailSpot). y.elem_size) at ∙ same, omega (arith, ap (λ (y : TailSpot). y.offset) at, le))
reaches-cases x xs t (suc k, o, within, at, (same, le)) = inr (k, o, omega (arith, within), at, (same, le))

pub reaches-none : (t : TailSpot) → Reaches [] t → ⊥
reaches-none t (k, o, within, at, (same, le)) = absurd (omega (arith, within))

-- ---- one more

with-cases : (P : List TailSpot → Type 0) (t x : TailSpot) (before after same : List TailSpot) → (t.elem_size < x.elem_size → P before) → (x.elem_size < t.elem_size → P after) → (x.elem_size ≡ t.elem_size → P same)
    → P (cond_tail (nat_lt t.elem_size x.elem_size) (nat_lt x.elem_size t.elem_size) before after same)
with-cases P t x before after same f g h = go (nat_lt t.elem_size x.elem_size) (nat_lt x.elem_size t.elem_size) refl refl
  where
    go : (a b : Bool) → nat_lt t.elem_size x.elem_size ≡ a → nat_lt x.elem_size t.elem_size ≡ b → P (cond_tail a b before after same)
    go true b p q = f (ltb-true t.elem_size x.elem_size p)
    go false true p q = g (ltb-true x.elem_size t.elem_size q)
    go false false p q = h (omega (arith, ltb-false t.elem_size x.elem_size p, ltb-false x.elem_size t.elem_size q))

pub with-above : (n : ℕ) (t : TailSpot) (xs : List TailSpot) → n < t.elem_size → AreAbove n xs → AreAbove n (with_tail t xs)
with-above n t [] less above = All-cons (λ (y : TailSpot). n < y.elem_size) t [] less (All-nil (λ (y : TailSpot). n < y.elem_size))
with-above n t (x ∷ xs) less above =
    let P = λ (y : TailSpot). n < y.elem_size in
    let first = All-head P x xs above in
    let rest = All-tail P x xs above in
    with-cases (AreAbove n) t x (t ∷ x ∷ xs) (x ∷ with_tail t xs) (tail_spot (max x.offset t.offset) x.elem_size ∷ xs)
    (λ l. All-cons P t (x ∷ xs) less above) (λ l. All-cons P x (with_tail t xs) first (with-above n t xs less rest)) (λ e. All-cons P (tail_spot (max x.offset t.offset) x.elem_size) xs first rest)

above-more : (m n : ℕ) (xs : List TailSpot) → m < n → AreAbove n xs → AreAbove m xs
above-more m n xs less above = λ k d within. omega (arith, less, above k d within)

pub with-rise : (t : TailSpot) (xs : List TailSpot) → Rise xs → Rise (with_tail t xs)
with-rise t [] rise = rise-cons t [] (All-nil (λ (y : TailSpot). t.elem_size < y.elem_size)) rise-nil
with-rise t (x ∷ xs) rise =
    let above = rise-head x xs rise in
    let rest = rise-tail x xs rise in
    let merged = tail_spot (max x.offset t.offset) x.elem_size in
    with-cases Rise t x (t ∷ x ∷ xs) (x ∷ with_tail t xs) (merged ∷ xs)
    (λ l. rise-cons t (x ∷ xs) (All-cons (λ (y : TailSpot). t.elem_size < y.elem_size) x xs l (above-more t.elem_size x.elem_size xs l above)) rise)
    (λ l. rise-cons x (with_tail t xs) (with-above x.elem_size t xs l above) (with-rise t xs rest))
    (λ e. rise-cons merged xs above rest)

spot-of-max : (P : TailSpot → Type 0) (x t : TailSpot) → x.elem_size ≡ t.elem_size → P x → P t → P (tail_spot (max x.offset t.offset) x.elem_size)
spot-of-max P x t same px pt = go (cases_lt x.offset t.offset)
  where
    go : (x.offset < t.offset) ⊎ (t.offset ≤ x.offset) → P (tail_spot (max x.offset t.offset) x.elem_size)
    go (inl less) =
        let a : max x.offset t.offset ≡ t.offset = omega (arith, less) in
        subst P (sym (ap (λ n. tail_spot n x.elem_size) a ∙ ap (λ n. tail_spot t.offset n) same)) pt
    go (inr le) = let a : max x.offset t.offset ≡ x.offset = omega (arith, le) in subst P (sym (ap (λ n. tail_spot n x.elem_size) a)) px

pub with-all : (P : TailSpot → Type 0) (t : TailSpot) (xs : List TailSpot) → P t → All P xs → All P (with_tail t xs)
with-all P t [] is all = All-cons P t [] is all
with-all P t (x ∷ xs) is all =
    let first = All-head P x xs all in
    let rest = All-tail P x xs all in
    let merged = tail_spot (max x.offset t.offset) x.elem_size in
    with-cases (All P) t x (t ∷ x ∷ xs) (x ∷ with_tail t xs) (merged ∷ xs)
    (λ l. All-cons P t (x ∷ xs) is all) (λ l. All-cons P x (with_tail t xs) first (with-all P t xs is rest)) (λ e. All-cons P merged xs (spot-of-max P x t e first is) rest)

pub with-new : (t : TailSpot) (xs : List TailSpot) → Reaches (with_tail t xs) t
with-new t [] = reaches-head t [] t refl (omega arith)
with-new t (x ∷ xs) =
    let merged = tail_spot (max x.offset t.offset) x.elem_size in
    with-cases (λ ys. Reaches ys t) t x (t ∷ x ∷ xs) (x ∷ with_tail t xs) (merged ∷ xs)
    (λ l. reaches-head t (x ∷ xs) t refl (omega arith)) (λ l. reaches-later x (with_tail t xs) t (with-new t xs)) (λ e. reaches-head merged xs t e (omega arith))

pub with-old : (t : TailSpot) (xs : List TailSpot) (u : TailSpot) → Reaches xs u → Reaches (with_tail t xs) u
with-old t [] u reach = absurd (reaches-none u reach)
with-old t (x ∷ xs) u reach = go (with-old t xs u) (reaches-cases x xs u reach)
  where
    go : (Reaches xs u → Reaches (with_tail t xs) u) → ((x.elem_size ≡ u.elem_size) × (u.offset ≤ x.offset)) ⊎ Reaches xs u → Reaches (with_tail t (x ∷ xs)) u
    go rest (inl here) =
        with-cases (λ ys. Reaches ys u) t x (t ∷ x ∷ xs) (x ∷ with_tail t xs) (tail_spot (max x.offset t.offset) x.elem_size ∷ xs)
        (λ l. reaches-later t (x ∷ xs) u (reaches-head x xs u here.0 here.1)) (λ l. reaches-head x (with_tail t xs) u here.0 here.1)
        (λ e. let le = here.1 in reaches-head (tail_spot (max x.offset t.offset) x.elem_size) xs u here.0 (omega (arith, le)))
    go rest (inr later) =
        with-cases (λ ys. Reaches ys u) t x (t ∷ x ∷ xs) (x ∷ with_tail t xs) (tail_spot (max x.offset t.offset) x.elem_size ∷ xs)
        (λ l. reaches-later t (x ∷ xs) u (reaches-later x xs u later)) (λ l. reaches-later x (with_tail t xs) u (rest later))
        (λ e. reaches-later (tail_spot (max x.offset t.offset) x.elem_size) xs u later)

-- ---- several more

pub more-rise : (ts xs : List TailSpot) → Rise xs → Rise (with_tails ts xs)
more-rise [] xs rise = rise
more-rise (t ∷ ts) xs rise = more-rise ts (with_tail t xs) (with-rise t xs rise)

pub more-all : (P : TailSpot → Type 0) (ts xs : List TailSpot) → All P ts → All P xs → All P (with_tails ts xs)
more-all P [] xs new all = all
more-all P (t ∷ ts) xs new all = more-all P ts (with_tail t xs) (All-tail P t ts new) (with-all P t xs (All-head P t ts new) all)

pub more-old : (ts xs : List TailSpot) (u : TailSpot) → Reaches xs u → Reaches (with_tails ts xs) u
more-old [] xs u reach = reach
more-old (t ∷ ts) xs u reach = more-old ts (with_tail t xs) u (with-old t xs u reach)

reaches-less : (xs : List TailSpot) (t u : TailSpot) → t.elem_size ≡ u.elem_size → u.offset ≤ t.offset → Reaches xs t → Reaches xs u
reaches-less xs t u same le (k, o, within, at, (is, far)) = (k, o, within, at, (is ∙ same, omega (arith, le, far)))

pub more-new : (ts xs : List TailSpot) (u : TailSpot) → Reaches ts u → Reaches (with_tails ts xs) u
more-new [] xs u reach = absurd (reaches-none u reach)
more-new (t ∷ ts) xs u reach = go (more-new ts (with_tail t xs) u) (reaches-cases t ts u reach)
  where
    go : (Reaches ts u → Reaches (with_tails ts (with_tail t xs)) u) → ((t.elem_size ≡ u.elem_size) × (u.offset ≤ t.offset)) ⊎ Reaches ts u → Reaches (with_tails ts (with_tail t xs)) u
    go rest (inl here) = more-old ts (with_tail t xs) u (reaches-less (with_tail t xs) t u here.0 here.1 (with-new t xs))
    go rest (inr later) = rest later

pub more-push : (ts : List TailSpot) (t : TailSpot) (xs : List TailSpot) → with_tails (ts ++ t ∷ []) xs ≡ with_tail t (with_tails ts xs)
more-push [] t xs = refl
more-push (u ∷ ts) t xs = more-push ts t (with_tail u xs)

-- ---- two such lists that reach one another are one

-- what is reached behind the first one
behind : (x : TailSpot) (xs : List TailSpot) (u : TailSpot) → x.elem_size < u.elem_size → Reaches (x ∷ xs) u → Reaches xs u
behind x xs u less reach = go (reaches-cases x xs u reach)
  where
    go : ((x.elem_size ≡ u.elem_size) × (u.offset ≤ x.offset)) ⊎ Reaches xs u → Reaches xs u
    go (inl here) = let e = here.0 in absurd (omega (arith, less, e))
    go (inr later) = later

-- what is reached is not below the first one
at-least : (x : TailSpot) (xs : List TailSpot) (u : TailSpot) → AreAbove x.elem_size xs → Reaches (x ∷ xs) u → x.elem_size ≤ u.elem_size
at-least x xs u above reach = go (reaches-cases x xs u reach)
  where
    go : ((x.elem_size ≡ u.elem_size) × (u.offset ≤ x.offset)) ⊎ Reaches xs u → x.elem_size ≤ u.elem_size
    go (inl here) = let e = here.0 in omega (arith, e)
    go (inr (k, o, within, at, (same, le))) = let far : x.elem_size < o.elem_size = subst (λ (y : TailSpot). x.elem_size < y.elem_size) at (above k o within) in omega (arith, far, same)

-- what is as small as the first one is reached by it
by-first : (x : TailSpot) (xs : List TailSpot) (u : TailSpot) → AreAbove x.elem_size xs → u.elem_size ≡ x.elem_size → Reaches (x ∷ xs) u → u.offset ≤ x.offset
by-first x xs u above same reach = go (reaches-cases x xs u reach)
  where
    go : ((x.elem_size ≡ u.elem_size) × (u.offset ≤ x.offset)) ⊎ Reaches xs u → u.offset ≤ x.offset
    go (inl here) = here.1
    go (inr (k, o, within, at, (is, le))) = let far : x.elem_size < o.elem_size = subst (λ (y : TailSpot). x.elem_size < y.elem_size) at (above k o within) in absurd (omega (arith, far, is, same))

all-behind : (x y : TailSpot) (xs ys : List TailSpot) → x.elem_size ≡ y.elem_size → AreAbove x.elem_size xs → All (Reaches (y ∷ ys)) xs → All (Reaches ys) xs
all-behind x y xs ys same above all = λ k d within.
    let far = above k d within in
    behind y ys (get_or xs k d) (omega (arith, far, same)) (all k d within)

pub same-tails : (xs ys : List TailSpot) → Rise xs → Rise ys → All (Reaches ys) xs → All (Reaches xs) ys → xs ≡ ys
same-tails [] [] rise rise' to from = refl
same-tails [] (y ∷ ys) rise rise' to from = absurd (reaches-none y (All-head (Reaches []) y ys from))
same-tails (x ∷ xs) [] rise rise' to from = absurd (reaches-none x (All-head (Reaches []) x xs to))
same-tails (x ∷ xs) (y ∷ ys) rise rise' to from =
    let here = All-head (Reaches (y ∷ ys)) x xs to in
    let there = All-head (Reaches (x ∷ xs)) y ys from in
    let above = rise-head x xs rise in
    let above' = rise-head y ys rise' in
    let p = at-least y ys x above' here in
    let q = at-least x xs y above there in
    let size : x.elem_size ≡ y.elem_size = omega (arith, p, q) in
    let a = by-first y ys x above' size here in
    let b = by-first x xs y above (sym size) there in
    let offset : x.offset ≡ y.offset = omega (arith, a, b) in
    let first : x ≡ y = ap (λ n. tail_spot n x.elem_size) offset ∙ ap (λ n. tail_spot y.offset n) size in
    let rest = same-tails xs ys (rise-tail x xs rise) (rise-tail y ys rise') (all-behind x y xs ys size above (All-tail (Reaches (y ∷ ys)) x xs to))
    (all-behind y x ys xs (sym size) above' (All-tail (Reaches (x ∷ xs)) y ys from)) in
    ap (λ z. z ∷ xs) first ∙ ap (λ zs. y ∷ zs) rest

-- ---- the ends

pub end-push : (capacity : ℕ) (ts : List TailSpot) (t : TailSpot) → end_of_tails capacity (ts ++ t ∷ []) ≡ max (t.offset + capacity * t.elem_size) (end_of_tails capacity ts)
end-push capacity [] t = refl
end-push capacity (x ∷ ts) t = let rest = end-push capacity ts t in omega (arith, rest)

pub end-least : (capacity bound : ℕ) (ts : List TailSpot) → All (λ (t : TailSpot). t.offset + capacity * t.elem_size ≤ bound) ts → end_of_tails capacity ts ≤ bound
end-least capacity bound [] all = omega arith
end-least capacity bound (t ∷ ts) all =
    let P = λ (u : TailSpot). u.offset + capacity * u.elem_size ≤ bound in
    let first = All-head P t ts all in
    let rest = end-least capacity bound ts (All-tail P t ts all) in
    omega (arith, first, rest)

pub end-inside : (capacity : ℕ) (ts : List TailSpot) (u : TailSpot) → Reaches ts u → u.offset + capacity * u.elem_size ≤ end_of_tails capacity ts
end-inside capacity [] u reach = absurd (reaches-none u reach)
end-inside capacity (t ∷ ts) u reach = go (end-inside capacity ts u) (reaches-cases t ts u reach)
  where
    go : (Reaches ts u → u.offset + capacity * u.elem_size ≤ end_of_tails capacity ts) → ((t.elem_size ≡ u.elem_size) × (u.offset ≤ t.offset)) ⊎ Reaches ts u → u.offset + capacity * u.elem_size ≤ max (t.offset + capacity * t.elem_size) (end_of_tails capacity ts)
    go later-in (inl here) = let le = here.1 in let same = ap (λ n. capacity * n) here.0 in omega (arith, le, same)
    go later-in (inr later) = let rest = later-in later in omega (arith, rest)

-- ---- where one more goes

-- behind those that are smaller
insert-behind : (t x : TailSpot) (xs : List TailSpot) → x.elem_size < t.elem_size → with_tail t (x ∷ xs) ≡ x ∷ with_tail t xs
insert-behind t x xs less =
    with-cases (λ ys. ys ≡ x ∷ with_tail t xs) t x (t ∷ x ∷ xs) (x ∷ with_tail t xs) (tail_spot (max x.offset t.offset) x.elem_size ∷ xs)
    (λ l. absurd (omega (arith, l, less))) (λ l. refl) (λ e. absurd (omega (arith, e, less)))

pub with-inserted : (t : TailSpot) (xs : List TailSpot) (i : ℕ) → i ≤ length xs → All (λ (x : TailSpot). x.elem_size < t.elem_size) (take i xs)
    → ((x : TailSpot) → slice_get xs i ≡ Some x → t.elem_size < x.elem_size) → insert xs i t ≡ with_tail t xs
with-inserted t [] zero le before here = refl
with-inserted t [] (suc i) le before here = absurd (omega (arith, le))
with-inserted t (x ∷ xs) zero le before here =
    let less = here x refl in
    with-cases (λ ys. t ∷ x ∷ xs ≡ ys) t x (t ∷ x ∷ xs) (x ∷ with_tail t xs) (tail_spot (max x.offset t.offset) x.elem_size ∷ xs)
    (λ l. refl) (λ l. absurd (omega (arith, l, less))) (λ e. absurd (omega (arith, e, less)))
with-inserted t (x ∷ xs) (suc i) le before here =
    let P = λ (y : TailSpot). y.elem_size < t.elem_size in
    ap (λ ys. x ∷ ys) (with-inserted t xs i (omega (arith, le)) (All-tail P x (take i xs) before) here) ∙ sym (insert-behind t x xs (All-head P x (take i xs) before))

pub with-merged : (t x : TailSpot) (xs : List TailSpot) (i : ℕ) → slice_get xs i ≡ Some x → All (λ (y : TailSpot). y.elem_size < t.elem_size) (take i xs) → x.elem_size ≡ t.elem_size
    → set xs i (tail_spot (max x.offset t.offset) x.elem_size) ≡ with_tail t xs
with-merged t x [] i at before same = absurd (cc)
with-merged t x (y ∷ xs) zero at before same =
    let is : y ≡ x = cc in
    with-cases (λ ys. tail_spot (max x.offset t.offset) x.elem_size ∷ xs ≡ ys) t y (t ∷ y ∷ xs) (y ∷ with_tail t xs) (tail_spot (max y.offset t.offset) y.elem_size ∷ xs)
    (λ l. absurd (omega (arith, l, same, ap (λ (z : TailSpot). z.elem_size) is))) (λ l. absurd (omega (arith, l, same, ap (λ (z : TailSpot). z.elem_size) is)))
    (λ e. ap (λ (z : TailSpot). tail_spot (max z.offset t.offset) z.elem_size ∷ xs) (sym is))
with-merged t x (y ∷ xs) (suc i) at before same =
    let P = λ (z : TailSpot). z.elem_size < t.elem_size in
    ap (λ ys. y ∷ ys) (with-merged t x xs i at (All-tail P y (take i xs) before) same) ∙ sym (insert-behind t y xs (All-head P y (take i xs) before))
