-- Which expressions name a structure around their own.
use Rattle.std.proofs.Common.{◌≡◌, ℕ, zero, suc, ◌<◌, length, get_or, Bool, true, false, Option, Some, None, List, [], ◌∷◌, ◌++◌, refl, ap, sym, subst, ◌∙◌, ◌⊎◌, inl, inr, arith}
use denote.Enum.Bare.{sameb}
use Rattle.std.specs.Prelude.{Any, filter_map, option_to_list}
use Rattle.std.specs.Bool.{Decides, MatchBool}
use Rattle.std.specs.List.{HoldsAt, AllWithin}
use Rattle.std.proofs.lemmas.List.Elements.{Contains-append_left, Contains-append_right, Contains-append_cases}
use Rattle.gt_types.specs.contracts.expressions.Base.{the_type}
use Rattle.gt_types.specs.declared.expressions.Base.{Base}
use Rattle.gt_types.specs.declared.expressions.Base.TheVariants.{Here, Outer, Outermost}
use Rattle.gt_types.specs.declared.expressions.Op.{Op}
use Rattle.gt_types.specs.declared.expressions.Expr.{Expr}
use Rattle.gt_types.specs.declared.expressions.Expr.TheVariants.{Path, Two, Cond}
use Rattle.gt_types.specs.declared.program.Field.{Field}
use Rattle.gt_types.specs.declared.program.Structure.{Structure}
use Rattle.gt_types.specs.Shapes.{count_of, innermost}
use Rattle.gt_types.specs.Paths.{paths_of, own_expressions}
use Rattle.gt_tables.specs.Sharing.{desc_in, expressions_in}
use Rattle.gt_tables.specs.Naming.{Names, MayName}
use Rattle.gt_tables.proofs.Elements.{nothing, first, first-or-later, given-in, given-from}
use Rattle.gt_tables.proofs.Bases.{paths-path, paths-two, paths-cond}

-- ---- tests

pub told-true : {P : Type 0} (r : Bool) → r ≡ true → P → Decides r P
told-true r e p = (λ _. p, λ _. e)

pub told-or : {A B P : Type 0} (r s : Bool) → Decides r A → r ≡ false → Decides s B → (A → P) → (B → P) → (P → A ⊎ B) → Decides s P
told-or {A} {B} {P} r s one none two left right back = (λ e. right (two.0 e), λ p. elim (back p) [ inl a ↦ (let e = one.1 a in absurd (cc)) | inr b ↦ two.1 b ])

-- whether two bases are the same
pub told-base : (a b : Base) (r : Bool) → r ≡ sameb the_type a b → Decides r (a ≡ b)
told-base Here Here r e = (λ t. refl, λ t. e)
told-base Here Outer r e = (λ t. absurd (cc), λ t. absurd (cc))
told-base Here Outermost r e = (λ t. absurd (cc), λ t. absurd (cc))
told-base Outer Here r e = (λ t. absurd (cc), λ t. absurd (cc))
told-base Outer Outer r e = (λ t. refl, λ t. e)
told-base Outer Outermost r e = (λ t. absurd (cc), λ t. absurd (cc))
told-base Outermost Here r e = (λ t. absurd (cc), λ t. absurd (cc))
told-base Outermost Outer r e = (λ t. absurd (cc), λ t. absurd (cc))
told-base Outermost Outermost r e = (λ t. refl, λ t. e)

-- ---- some of two lists

module _ {X : Type 0} (P : X → Type 0) where
  pub any-left : (xs ys : List X) → Any P xs → Any P (xs ++ ys)
  any-left xs ys (i, x, h, e, p) = let c = Contains-append_left xs ys x (i, h, e) in (c.0, x, c.1, c.2, p)

  pub any-right : (xs ys : List X) → Any P ys → Any P (xs ++ ys)
  any-right xs ys (i, x, h, e, p) = let c = Contains-append_right xs ys x (i, h, e) in (c.0, x, c.1, c.2, p)

  pub any-cases : (xs ys : List X) → Any P (xs ++ ys) → Any P xs ⊎ Any P ys
  any-cases xs ys (i, x, h, e, p) = elim (Contains-append_cases xs ys x (i, h, e)) [ inl c ↦ inl (c.0, x, c.1, c.2, p) | inr c ↦ inr (c.0, x, c.1, c.2, p) ]

  pub any-one : (x : X) → P x → Any P (x ∷ [])
  any-one x p = let c = first x [] in (c.0, x, c.1, c.2, p)

  pub one-of : (x : X) → Any P (x ∷ []) → P x
  one-of x (i, y, h, e, p) = elim (first-or-later x y [] (i, h, e)) [ inl is ↦ subst P (sym is) p | inr c ↦ absurd (nothing y c) ]

-- ---- expressions by their parts

module _ (base : Base) where
  -- the parts of an expression are told of
  pub told-at : (x a : Expr) (r : Bool) → x ≡ a → Decides r (Names base x) → Decides r (Names base a)
  told-at x a r is told = subst (λ e. Decides r (Names base e)) is told

module _ (base : Base) (e : Expr) where
  pub names-path : (from : Base) (steps : List (List ℕ)) → e ≡ Path from steps → (r : Bool) → Decides r (from ≡ base) → Decides r (Names base e)
  names-path from steps is r told =
      let ways = ap paths_of is ∙ paths-path from steps in (
        λ t. subst (Any (λ path. path.0 ≡ base)) (sym ways) (any-one (λ path. path.0 ≡ base) (from, steps) (told.0 t)),
        λ n. told.1 (one-of (λ path. path.0 ≡ base) (from, steps) (subst (Any (λ path. path.0 ≡ base)) ways n)),
      )

  module _ (op : Op) (a b : Expr) (is : e ≡ Two op a b) where
    pub names-left : Names base a → Names base e
    names-left n = subst (Any (λ path. path.0 ≡ base)) (sym (ap paths_of is ∙ paths-two op a b)) (any-left (λ path. path.0 ≡ base) (paths_of a) (paths_of b) n)

    pub names-right : Names base b → Names base e
    names-right n = subst (Any (λ path. path.0 ≡ base)) (sym (ap paths_of is ∙ paths-two op a b)) (any-right (λ path. path.0 ≡ base) (paths_of a) (paths_of b) n)

    pub names-either : Names base e → Names base a ⊎ Names base b
    names-either n = any-cases (λ path. path.0 ≡ base) (paths_of a) (paths_of b) (subst (Any (λ path. path.0 ≡ base)) (ap paths_of is ∙ paths-two op a b) n)

  module _ (t a b : Expr) (is : e ≡ Cond t a b) where
    pub names-test : Names base t → Names base e
    names-test n =
        subst (Any (λ path. path.0 ≡ base)) (sym (ap paths_of is ∙ paths-cond t a b))
        (any-left (λ path. path.0 ≡ base) (paths_of t ++ paths_of a) (paths_of b) (any-left (λ path. path.0 ≡ base) (paths_of t) (paths_of a) n))

    pub names-yes : Names base a → Names base e
    names-yes n =
        subst (Any (λ path. path.0 ≡ base)) (sym (ap paths_of is ∙ paths-cond t a b))
        (any-left (λ path. path.0 ≡ base) (paths_of t ++ paths_of a) (paths_of b) (any-right (λ path. path.0 ≡ base) (paths_of t) (paths_of a) n))

    pub names-no : Names base b → Names base e
    names-no n = subst (Any (λ path. path.0 ≡ base)) (sym (ap paths_of is ∙ paths-cond t a b)) (any-right (λ path. path.0 ≡ base) (paths_of t ++ paths_of a) (paths_of b) n)

    pub names-some : Names base e → (Names base t ⊎ Names base a) ⊎ Names base b
    names-some n = elim (any-cases (λ path. path.0 ≡ base) (paths_of t ++ paths_of a) (paths_of b) (subst (Any (λ path. path.0 ≡ base)) (ap paths_of is ∙ paths-cond t a b) n)) [
      | inl m ↦ inl (any-cases (λ path. path.0 ≡ base) (paths_of t) (paths_of a) m)
      | inr m ↦ inr m
    ]

-- ---- answers

module _ (base : Base) (e : Expr) where
  module _ (op : Op) (a b x : Expr) (is : e ≡ Two op a b) (first_is : x ≡ a) (r : Bool) (told : Decides r (Names base x)) where
    pub two-true : r ≡ true → Decides r (Names base e)
    two-true t = told-true r t (names-left base e op a b is ((told-at base x a r first_is told).0 t))

    pub two-false : r ≡ false → (y : Expr) → y ≡ b → (s : Bool) → Decides s (Names base y) → Decides s (Names base e)
    two-false f y next_is s next =
        told-or r s (told-at base x a r first_is told) f (told-at base y b s next_is next) (names-left base e op a b is) (names-right base e op a b is) (names-either base e op a b is)

  -- the first two parts of three
  pub front-true : (t a x : Expr) → x ≡ t → (r : Bool) → Decides r (Names base x) → r ≡ true → (v : Bool) → v ≡ r → Decides v (Names base t ⊎ Names base a)
  front-true t a x is r told e v same = told-true v (same ∙ e) (inl ((told-at base x t r is told).0 e))

  pub front-false : (t a x y : Expr) → x ≡ t → (r : Bool) → Decides r (Names base x) → r ≡ false → y ≡ a → (s : Bool) → Decides s (Names base y) → (v : Bool) → v ≡ s → Decides v (Names base t ⊎ Names base a)
  front-false t a x y is r told e next_is s next v same =
      subst (λ b. Decides b (Names base t ⊎ Names base a)) (sym same) (told-or r s (told-at base x t r is told) e (told-at base y a s next_is next) (λ n. inl n) (λ n. inr n) (λ n. n))

  module _ (t a b : Expr) (is : e ≡ Cond t a b) (v : Bool) (told : Decides v (Names base t ⊎ Names base a)) where
    front-names : Names base t ⊎ Names base a → Names base e
    front-names (inl n) = names-test base e t a b is n
    front-names (inr n) = names-yes base e t a b is n

    pub cond-true : v ≡ true → Decides v (Names base e)
    cond-true holds = told-true v holds (front-names (told.0 holds))

    pub cond-false : v ≡ false → (z : Expr) → z ≡ b → (s : Bool) → Decides s (Names base z) → Decides s (Names base e)
    cond-false f z last_is s last = told-or v s told f (told-at base z b s last_is last) front-names (names-no base e t a b is) (names-some base e t a b is)

-- ---- what a structure names

module _ (base : Base) where
  some-names : (o : Option Expr) → MayName base o → (e : Expr) × (o ≡ Some e) × Names base e
  some-names (Some e) n = (e, refl, n)
  some-names None n = absurd n

  may-name : (o : Option Expr) (e : Expr) → o ≡ Some e → Names base e → MayName base o
  may-name o e is n = subst (MayName base) (sym is) n

  module _ {X : Type 0} (of : X → Option Expr) (xs : List X) where
    pub any-given : Any (λ x. MayName base (of x)) xs → Any (Names base) (filter_map of xs)
    any-given (i, x, h, e, n) =
        let found = some-names (of x) n in
        let c = given-in of xs x found.0 (i, h, e) found.1 in
        (c.0, found.0, c.1, c.2, found.2)

    pub any-from : Any (Names base) (filter_map of xs) → Any (λ x. MayName base (of x)) xs
    any-from (i, y, h, e, n) =
        let found = given-from of xs y (i, h, e) in
        (found.1.0, found.0, found.1.1, found.1.2, may-name (of found.0) y found.2 n)

  option-any : (o : Option Expr) → MayName base o → Any (Names base) (option_to_list o)
  option-any (Some e) n = any-one (Names base) e n
  option-any None n = absurd n

  any-option : (o : Option Expr) → Any (Names base) (option_to_list o) → MayName base o
  any-option (Some e) n = one-of (Names base) e n
  any-option None (i, x, h, e, n) = absurd (nothing x (i, h, e))

  module _ (s : Structure) where
    pub own-desc : MayName base s.desc → Any (Names base) (own_expressions s)
    own-desc n = any-right (Names base) (filter_map (λ f. count_of f.ty) s.fields) (option_to_list s.desc) (option-any s.desc n)

    own-count : Any (λ f. MayName base (count_of f.ty)) s.fields → Any (Names base) (own_expressions s)
    own-count n = any-left (Names base) (filter_map (λ f. count_of f.ty) s.fields) (option_to_list s.desc) (any-given (λ f. count_of f.ty) s.fields n)

    own-cases : Any (Names base) (own_expressions s) → MayName base s.desc ⊎ Any (λ f. MayName base (count_of f.ty)) s.fields
    own-cases n = elim (any-cases (Names base) (filter_map (λ f. count_of f.ty) s.fields) (option_to_list s.desc) n) [
      | inl m ↦ inr (any-from (λ f. count_of f.ty) s.fields m)
      | inr m ↦ inl (any-option s.desc m)
    ]

    -- its own expressions, by its `desc` and its fields
    pub own-told : (r t : Bool) (fields : List Field) → Decides r (MayName base s.desc) → r ≡ false → fields ≡ s.fields → Decides t (Any (λ f. MayName base (count_of f.ty)) fields) → Decides t (Any (Names base) (own_expressions s))
    own-told r t fields desc none is told = told-or r t desc none (subst (λ fs. Decides t (Any (λ f. MayName base (count_of f.ty)) fs)) is told) own-desc own-count own-cases

    -- and those in it, by the `desc` of each union too
    pub in-told : (r t : Bool) (fields : List Field) → Decides r (Any (Names base) (own_expressions s)) → r ≡ false → fields ≡ s.fields → Decides t (Any (λ f. MayName base (desc_in (innermost f.ty))) fields)
        → Decides t (Any (Names base) (expressions_in s))
    in-told r t fields own none is told =
        let descs = filter_map (λ (f : Field). desc_in (innermost f.ty)) s.fields in
        told-or r t own none (subst (λ fs. Decides t (Any (λ f. MayName base (desc_in (innermost f.ty))) fs)) is told) (any-left (Names base) (own_expressions s) descs)
        (λ n. any-right (Names base) (own_expressions s) descs (any-given (λ f. desc_in (innermost f.ty)) s.fields n))
        (λ n. elim (any-cases (Names base) (own_expressions s) descs n) [ inl m ↦ inl m | inr m ↦ inr (any-from (λ f. desc_in (innermost f.ty)) s.fields m) ])

-- ---- some of the fields

module _ {X : Type 0} (P : X → Type 0) where
  -- what a call tells of some item decides it
  pub told-any : (r : Bool) (xs : List X) → MatchBool r ((k : ℕ) × (k < length xs) × HoldsAt P xs k) (AllWithin (λ x. ¬ P x) xs 0 (length xs)) → Decides r (Any P xs)
  told-any true xs (k, h, at) = (λ t. some k h (slice_get_at xs k h) at, λ n. refl)
    where
      slice_get_at : (xs : List X) (k : ℕ) → k < length xs → (x : X) × (get_or xs k x ≡ x)
      slice_get_at [] k h = absurd (omega arith)
      slice_get_at (x ∷ xs) zero h = (x, refl)
      slice_get_at (x ∷ xs) (suc k) h = slice_get_at xs k (omega arith)

      some : (k : ℕ) → k < length xs → ((x : X) × (get_or xs k x ≡ x)) → HoldsAt P xs k → Any P xs
      some k h (x, e) at = (k, x, h, e, subst P e (at x))
  told-any false xs all = (λ t. absurd (cc), λ n. absurd (all n.0 n.1 (omega arith) n.2 (subst P (sym n.3) n.4)))
