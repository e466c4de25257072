-- The first of some faults.
use Rattle.std.proofs.Common.{◌≡◌, ℕ, ◌+◌, ◌<◌, ◌≤◌, Bool, true, false, List, [], ◌∷◌, ◌++◌, map, take, length, get_or, refl, ap, subst, ◌∙◌, sym, arith}
use Rattle.std.specs.Prelude.{nat_lt, if◌then◌else◌}
use Rattle.std.specs.List.{AllByRecursion, flat_map}
use Rattle.std.proofs.lemmas.List.{append-nil, map-append, take_more}
use Rattle.std.proofs.lemmas.Grind.{flat_map-append}
use Rattle.std.proofs.lemmas.Bool.{lt-ltb, le-ltb, ltb-true, ltb-false}
use Rattle.gt_search.specs.declared.search.End.{End}
use Rattle.gt_search.specs.declared.search.End.TheVariants.{Complete, Fails}
use Rattle.gt_parse.specs.Header.{end_faults}
use Rattle.gt_parse.specs.Answers.{earlier, first_of}

-- ---- the earlier of two

earlier-if : (n a m b : ℕ) (x : Bool) → nat_lt b a ≡ x → earlier (Fails n a) (Fails m b) ≡ (if x then Fails m b else Fails n a)
earlier-if n a m b x e = ap (λ x. if x then Fails m b else Fails n a) e

assoc_by : (n a m b k c : ℕ) (x y z : Bool) → nat_lt b a ≡ x → nat_lt c b ≡ y → nat_lt c a ≡ z → (x ≡ true → y ≡ true → z ≡ true) → (x ≡ false → y ≡ false → z ≡ false)
    → earlier (earlier (Fails n a) (Fails m b)) (Fails k c) ≡ earlier (Fails n a) (earlier (Fails m b) (Fails k c))
assoc_by n a m b k c true true z e f g both none = let h : nat_lt c a ≡ true = g ∙ both refl refl in rw (e, f, h) refl
assoc_by n a m b k c true false z e f g both none = rw (e, f, e) refl
assoc_by n a m b k c false true z e f g both none = rw (e, f) refl
assoc_by n a m b k c false false z e f g both none = let h : nat_lt c a ≡ false = g ∙ none refl refl in rw (e, f, h, e) refl

lt_chain : (a b c : ℕ) → nat_lt b a ≡ true → nat_lt c b ≡ true → nat_lt c a ≡ true
lt_chain a b c e f = grind arith

le_chain : (a b c : ℕ) → nat_lt b a ≡ false → nat_lt c b ≡ false → nat_lt c a ≡ false
le_chain a b c e f = grind arith

earlier-Complete : (end : End) → earlier end Complete ≡ end
earlier-Complete Complete = refl
earlier-Complete (Fails n a) = refl

earlier-assoc : (x y z : End) → earlier (earlier x y) z ≡ earlier x (earlier y z)
earlier-assoc Complete y z = refl
earlier-assoc (Fails n a) Complete z = refl
earlier-assoc (Fails n a) (Fails m b) Complete = earlier-Complete (earlier (Fails n a) (Fails m b))
earlier-assoc (Fails n a) (Fails m b) (Fails k c) = assoc_by n a m b k c (nat_lt b a) (nat_lt c b) (nat_lt c a) refl refl refl (lt_chain a b c) (le_chain a b c)

-- ---- the first of a list

pub first_of-append : (xs ys : List (ℕ × ℕ)) → first_of (xs ++ ys) ≡ earlier (first_of xs) (first_of ys)
first_of-append [] ys = refl
first_of-append (x ∷ xs) ys = ap (earlier (Fails x.0 x.1)) (first_of-append xs ys) ∙ sym (earlier-assoc (Fails x.0 x.1) (first_of xs) (first_of ys))

pub first_of-end : (end : End) → first_of (end_faults end) ≡ end
first_of-end Complete = refl
first_of-end (Fails n a) = refl

-- one more item
pub one_more : {X Y A : Type 0} (view : Y → X) (f : X → List A) (ys : List Y) (i : ℕ) (y : Y) → i < length ys → y ≡ get_or ys i y → flat_map f (map view (take (i + 1) ys)) ≡ flat_map f (map view (take i ys)) ++ f (view y)
one_more view f ys i y lt is =
    ap (λ zs. flat_map f (map view zs)) (take_more ys i y lt) ∙ ap (flat_map f) (map-append view (take i ys) (get_or ys i y ∷ []))
    ∙ flat_map-append f (map view (take i ys)) (view (get_or ys i y) ∷ []) ∙ ap (λ bs. flat_map f (map view (take i ys)) ++ bs) (append-nil (f (view (get_or ys i y))) ∙ ap (λ z. f (view z)) (sym is))

-- ---- a fault with none earlier

abbrev IsFrom : ℕ → End → Type 0
IsFrom a Complete = Unit {0}
IsFrom a (Fails m b) = a ≤ b

earlier-from : (n a : ℕ) (end : End) → IsFrom a end → earlier (Fails n a) end ≡ Fails n a
earlier-from n a Complete from = refl
earlier-from n a (Fails m b) from = earlier-if n a m b false (le-ltb b a from)

earlier-IsFrom : (l n a : ℕ) (end : End) → l ≤ a → IsFrom l end → IsFrom l (earlier (Fails n a) end)
earlier-IsFrom l n a Complete le from = le
earlier-IsFrom l n a (Fails m b) le from = elim (nat_lt b a) as (λ x. IsFrom l (if x then Fails m b else Fails n a)) [ true ↦ from | false ↦ le ]

first_of-IsFrom : (l : ℕ) (faults : List (ℕ × ℕ)) → AllByRecursion (λ fault. l ≤ fault.1) faults → IsFrom l (first_of faults)
first_of-IsFrom l [] all = tt
first_of-IsFrom l (f ∷ faults) all = earlier-IsFrom l f.0 f.1 (first_of faults) all.0 (first_of-IsFrom l faults all.1)

-- a list with a fault, no earlier one after it, and later ones before it
pub record Parted (faults : List (ℕ × ℕ)) (n a : ℕ) : Type 0 where
  pub before : List (ℕ × ℕ)
  pub after : List (ℕ × ℕ)
  pub is : faults ≡ before ++ (n, a) ∷ after
  pub earlier : AllByRecursion (λ fault. a < fault.1) before
  pub later : AllByRecursion (λ fault. a ≤ fault.1) after

after_first : (n a : ℕ) (before after : List (ℕ × ℕ)) → AllByRecursion (λ fault. a < fault.1) before → AllByRecursion (λ fault. a ≤ fault.1) after → first_of (before ++ (n, a) ∷ after) ≡ Fails n a
after_first n a [] after all later = earlier-from n a (first_of after) (first_of-IsFrom a after later)
after_first n a (f ∷ before) after all later =
    ap (earlier (Fails f.0 f.1)) (after_first n a before after all.1 later) ∙ earlier-if f.0 f.1 n a true (lt-ltb a f.1 all.0)

pub Parted-first : (faults : List (ℕ × ℕ)) (n a : ℕ) → Parted faults n a → first_of faults ≡ Fails n a
Parted-first faults n a p = ap first_of p.is ∙ after_first n a p.before p.after p.earlier p.later

-- what is first parts the list so
pub earlier-fails : (n a : ℕ) (end : End) → earlier (Fails n a) end ≡ Complete → ⊥
earlier-fails n a Complete e = let no : Fails n a ≡ Complete = e in absurd cc
earlier-fails n a (Fails m b) e =
    elim (nat_lt b a) as (λ x. (if x then Fails m b else Fails n a) ≡ Complete → ⊥) [ true ↦ λ no. absurd cc | false ↦ λ no. absurd cc ] e

pub no_first : (faults : List (ℕ × ℕ)) → first_of faults ≡ Complete → faults ≡ []
no_first [] e = refl
no_first (f ∷ faults) e = absurd (earlier-fails f.0 f.1 (first_of faults) e)

-- none of them is earlier
all_after : (l a n : ℕ) (before after : List (ℕ × ℕ)) → l ≤ a → AllByRecursion (λ fault. a < fault.1) before → AllByRecursion (λ fault. a ≤ fault.1) after → AllByRecursion (λ fault. l ≤ fault.1) (before ++ (n, a) ∷ after)
all_after l a n [] [] le before_all after_all = (le, tt)
all_after l a n [] (g ∷ after) le before_all after_all = let rest = all_after l a n [] after le before_all after_all.1 in (le, (omega (arith, after_all.0), rest.1))
all_after l a n (f ∷ before) after le before_all after_all = (omega (arith, before_all.0), all_after l a n before after le before_all.1 after_all)

-- a fault before the others
first_alone : (f : ℕ × ℕ) (faults : List (ℕ × ℕ)) (n a : ℕ) → Fails f.0 f.1 ≡ Fails n a → AllByRecursion (λ fault. f.1 ≤ fault.1) faults → Parted (f ∷ faults) n a
first_alone f faults n a same later =
    let n_is : f.0 ≡ n = cc in
    let a_is : f.1 ≡ a = cc in
    record {
      before = [];
      after = faults;
      is = ap (λ (x : ℕ). (x, f.1) ∷ faults) n_is ∙ ap (λ (x : ℕ). (n, x) ∷ faults) a_is;
      earlier = tt;
      later = subst (λ (x : ℕ). AllByRecursion (λ fault. x ≤ fault.1) faults) a_is later;
    }

first_after : (f : ℕ × ℕ) (faults : List (ℕ × ℕ)) (n a m b : ℕ) → Fails m b ≡ Fails n a → b < f.1 → Parted faults m b → Parted (f ∷ faults) n a
first_after f faults n a m b same lt p =
    let n_is : m ≡ n = cc in
    let a_is : b ≡ a = cc in
    subst (λ (x : ℕ). Parted (f ∷ faults) x a) n_is
    (subst (λ (x : ℕ). Parted (f ∷ faults) m x) a_is (record { before = f ∷ p.before; after = p.after; is = ap (λ faults. f ∷ faults) p.is; earlier = (lt, p.earlier); later = p.later }))

parts_by : (f : ℕ × ℕ) (faults : List (ℕ × ℕ)) (n a m b : ℕ) (x : Bool) → nat_lt b f.1 ≡ x → earlier (Fails f.0 f.1) (Fails m b) ≡ Fails n a → Parted faults m b → Parted (f ∷ faults) n a
parts_by f faults n a m b true lt is p = first_after f faults n a m b (sym (earlier-if f.0 f.1 m b true lt) ∙ is) (ltb-true b f.1 lt) p
parts_by f faults n a m b false ge is p =
    first_alone f faults n a (sym (earlier-if f.0 f.1 m b false ge) ∙ is)
    (subst (λ (faults : List (ℕ × ℕ)). AllByRecursion (λ fault. f.1 ≤ fault.1) faults) (sym p.is) (all_after f.1 b m p.before p.after (ltb-false b f.1 ge) p.earlier p.later))

parts : (f : ℕ × ℕ) (faults : List (ℕ × ℕ)) (n a : ℕ) (end : End) → first_of faults ≡ end → earlier (Fails f.0 f.1) end ≡ Fails n a → ((m b : ℕ) → first_of faults ≡ Fails m b → Parted faults m b) → Parted (f ∷ faults) n a
parts f faults n a Complete e is parted = first_alone f faults n a is (subst (λ (faults : List (ℕ × ℕ)). AllByRecursion (λ fault. f.1 ≤ fault.1) faults) (sym (no_first faults e)) tt)
parts f faults n a (Fails m b) e is parted = parts_by f faults n a m b (nat_lt b f.1) refl is (parted m b e)

pub first-Parted : (faults : List (ℕ × ℕ)) (n a : ℕ) → first_of faults ≡ Fails n a → Parted faults n a
first-Parted [] n a e = let no : Complete ≡ Fails n a = e in absurd cc
first-Parted (f ∷ faults) n a e = parts f faults n a (first_of faults) refl e (first-Parted faults)
