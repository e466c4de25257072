-- What is stable of paths: where they lead.
use Rattle.std.proofs.Common.{◌≡◌, ◌≢◌, ◌∙◌, ◌⊎◌, inl, inr, ℕ, zero, suc, ◌<◌, Bool, true, false, List, [], ◌∷◌, Option, Some, None, IsTrue, refl, sym, ap, subst, arith}
use Rattle.std.specs.Prelude.{AllPairs, Contains, slice_get}
use Rattle.std.specs.Str.{bytes_eq}
use Rattle.std.proofs.lemmas.Bool.{cases_lt}
use Rattle.std.proofs.lemmas.Option.{none-some, same_Some, slice_get_within, slice_get-get_or, get_or_from_slice_get}
use Rattle.std.proofs.lemmas.Slice.Eq.{bytes_eq-Decides}
use Rattle.gt_types.specs.declared.expressions.Expr.{Expr}
use Rattle.gt_types.specs.declared.types.TypeId.{TypeId}
use Rattle.gt_types.specs.declared.types.Target.TheVariants as target
use Rattle.gt_types.specs.declared.types.PtrKind.TheVariants as kind
use Rattle.gt_types.specs.declared.types.Ty.{Ty}
use Rattle.gt_types.specs.declared.types.Ty.TheVariants as ty
use Rattle.gt_types.specs.declared.program.Field.{Field}
use Rattle.gt_types.specs.declared.program.Structure.{Structure}
use Rattle.gt_types.specs.declared.program.Program.{Program}
use Rattle.gt_types.specs.Shapes.{is_number}
use Rattle.gt_types.specs.Contains.{HasStructure}
use Rattle.gt_types.specs.Paths.{MayStep, Leads, last_step, next_step, by_name, by_place, LeadsToNumber, LeadsToOwnPointer}
use Rattle.gt_settled.proofs.Stable.{Stable, is_true}
use Rattle.gt_settled.proofs.Beginnings.{node_or, same_id, Shallow, step_stable, id_or}

-- ---- paths that pick their fields in some way, to a type of some kind

-- the field of a structure that is picked, and no other; or none
abbrev pub Picked : {X : Type 0} → (X → Structure → Field → Type 0) → X → Structure → Type 0
Picked picks x s =
    ((f : Field) × picks x s f × Contains s.fields f × ((g : Field) → picks x s g → Contains s.fields g → g ≡ f)) ⊎ ((g : Field) → picks x s g → Contains s.fields g → ⊥)

module _ {X : Type 0} (program : Program) (n : ℕ) (shallow : (id : TypeId) → Shallow program n id) (picks : X → Structure → Field → Type 0)
    (pick : (node : TypeId) (s : Structure) → HasStructure program node s → (x : X) → Picked picks x s) (Q : Ty → Type 0) (q : (type : Ty) → Stable (Q type)) where
  abbrev LeadsTo : TypeId → List X → Type 0
  LeadsTo node xs = (type : Ty) × Leads program picks node xs type × Q type

  -- what is left of a path leads on from a field of this type
  abbrev GoesOn : List X → Ty → Type 0
  GoesOn xs type = ((xs ≡ []) × Q type) ⊎ ((next : TypeId) × (desc : Option Expr) × (type ≡ ty.Node next desc) × LeadsTo next xs)

  record Step (node : TypeId) (x : X) (xs : List X) : Type 0 where
    s : Structure
    f : Field
    there : HasStructure program node s
    picked : picks x s f
    may : MayStep program s f
    goes : GoesOn xs f.ty

  same_step : (x y : X) (xs ys : List X) → x ∷ xs ≡ y ∷ ys → x ≡ y
  same_step x y xs ys e = cc

  same_rest : (x y : X) (xs ys : List X) → x ∷ xs ≡ y ∷ ys → xs ≡ ys
  same_rest x y xs ys e = cc

  to_step : (node : TypeId) (steps : List X) (type : Ty) (x : X) (xs : List X) → Leads program picks node steps type → Q type → steps ≡ x ∷ xs → Step node x xs
  to_step node steps type x xs (last_step {x = y} {s = s} {f = f} there picked may) is e =
      record { s = s; f = f; there = there; picked = subst (λ (z : X). picks z s f) (same_step y x [] xs e) picked; may = may; goes = inl (sym (same_rest y x [] xs e), is) }
  to_step node steps type x xs (next_step {next = next} {x = y} {xs = ys} {s = s} {f = f} {desc = desc} there picked may inner leads) is e = record {
    s = s;
    f = f;
    there = there;
    picked = subst (λ (z : X). picks z s f) (same_step y x ys xs e) picked;
    may = may;
    goes = inr (next, desc, inner, (type, subst (λ (zs : List X). Leads program picks next zs type) (same_rest y x ys xs e) leads, is));
  }

  from_goes : (node : TypeId) (x : X) (xs : List X) (s : Structure) (f : Field) → HasStructure program node s → picks x s f → MayStep program s f → GoesOn xs f.ty → LeadsTo node (x ∷ xs)
  from_goes node x xs s f there picked may (inl (none, is)) =
      let last : Leads program picks node (x ∷ []) f.ty = last_step there picked may in
      (f.ty, subst (λ (ys : List X). Leads program picks node (x ∷ ys) f.ty) (sym none) last, is)
  from_goes node x xs s f there picked may (inr (next, desc, inner, (type, leads, is))) = (type, next_step there picked may inner leads, is)

  some_steps : (node : TypeId) (steps : List X) (type : Ty) → Leads program picks node steps type → steps ≡ [] → ⊥
  some_steps node steps type (last_step there picked may) e = cc
  some_steps node steps type (next_step there picked may inner leads) e = cc

  goes_stable : (xs : List X) → ((next : TypeId) → Stable (LeadsTo next xs)) → (type : Ty) → Stable (GoesOn xs type)
  goes_stable [] below type nn = inl (refl, q type (λ no. nn (λ goes. elim goes [ inl ends ↦ no ends.1 | inr on ↦ some_steps on.0 [] on.3.0 on.3.1 refl ])))
  goes_stable (x ∷ xs) below type nn = elim (node_or type) [
    | inl is ↦ inr (
      is.0,
      is.1,
      is.2,
      below is.0 (λ no. nn (λ goes. elim goes [
        | inl ends ↦ let never : x ∷ xs ≡ [] = ends.0 in cc
        | inr on ↦ no (subst (λ (id : TypeId). LeadsTo id (x ∷ xs)) (same_id on.0 is.0 on.1 is.1 (sym on.2 ∙ is.2)) on.3)
      ])),
    )
    | inr other ↦ absurd (nn (λ goes. elim goes [ inl ends ↦ (let never : x ∷ xs ≡ [] = ends.0 in cc) | inr on ↦ other (on.0, on.1, on.2) ]))
  ]

  module _ (node : TypeId) (x : X) (xs : List X) (below : (next : TypeId) → Stable (LeadsTo next xs)) (nn : ¬ (¬ Step node x xs)) where
    in_structure : (s : Structure) → HasStructure program node s → Picked picks x s → LeadsTo node (x ∷ xs)
    in_structure s there (inl (f, picked, inside, only)) =
        from_goes node x xs s f there picked
        (step_stable program n shallow s f inside (λ no. nn (λ step. no (one s f there only step (λ t g. MayStep program t g) step.may))))
        (goes_stable xs below f.ty (λ no. nn (λ step. no (one s f there only step (λ t g. GoesOn xs g.ty) step.goes))))
      where
        one : (s : Structure) (f : Field) → HasStructure program node s → ((g : Field) → picks x s g → Contains s.fields g → g ≡ f) → (step : Step node x xs)
            → (P : Structure → Field → Type 0) → P step.s step.f → P s f
        one s f there only step P p =
            let same : step.s ≡ s = same_Some step.s s (sym step.there ∙ there) in
            let field : step.f ≡ f = only step.f (subst (λ (t : Structure). picks x t step.f) same step.picked) (subst (λ (t : Structure). Contains t.fields step.f) same step.may.there) in
            subst (λ (g : Field). P s g) field (subst (λ (t : Structure). P t step.f) same p)
    in_structure s there (inr none) =
        absurd (nn (λ step. let same : step.s ≡ s = same_Some step.s s (sym step.there ∙ there) in
        none step.f (subst (λ (t : Structure). picks x t step.f) same step.picked) (subst (λ (t : Structure). Contains t.fields step.f) same step.may.there)))

    from_structure : (o : Option Structure) → slice_get program.structures node.0 ≡ o → LeadsTo node (x ∷ xs)
    from_structure None e = absurd (nn (λ step. none-some step.s (sym e ∙ step.there)))
    from_structure (Some s) e = in_structure s e (pick node s e x)

  pub leads_stable : (steps : List X) (node : TypeId) → Stable (LeadsTo node steps)
  leads_stable [] node nn = absurd (nn (λ leads. some_steps node [] leads.0 leads.1 refl))
  leads_stable (x ∷ xs) node nn =
      from_structure node x xs (leads_stable xs) (λ no. nn (λ leads. no (to_step node (x ∷ xs) leads.0 x xs leads.1 leads.2 refl))) (slice_get program.structures node.0) refl

-- ---- by name

contains_at : (fs : List Field) (f : Field) → Contains fs f → (k : ℕ) × (slice_get fs k ≡ Some f)
contains_at fs f (k, within, e) = (k, slice_get-get_or fs k f within ∙ ap (λ (g : Field). Some g) e)

at_contains : (fs : List Field) (f : Field) (k : ℕ) → slice_get fs k ≡ Some f → Contains fs f
at_contains fs f k e = (k, slice_get_within fs k f e, get_or_from_slice_get fs k f f e)

not_before : (fs : List Field) (i j : ℕ) (f g : Field) → AllPairs (λ (f g : Field). f.name ≢ g.name) fs → slice_get fs i ≡ Some f → slice_get fs j ≡ Some g → f.name ≡ g.name → i < j → ⊥
not_before fs i j f g distinct a b same lower =
    distinct i j f lower (slice_get_within fs j g b)
    (ap (λ (h : Field). h.name) (get_or_from_slice_get fs i f f a) ∙ same ∙ ap (λ (h : Field). h.name) (sym (get_or_from_slice_get fs j g f b)))

one_field : (fs : List Field) (f g : Field) → AllPairs (λ (f g : Field). f.name ≢ g.name) fs → (i j : ℕ) → slice_get fs i ≡ Some f → slice_get fs j ≡ Some g → f.name ≡ g.name → f ≡ g
one_field fs f g distinct i j a b same = elim (cases_lt i j) [
  | inl lower ↦ absurd (not_before fs i j f g distinct a b same lower)
  | inr upper ↦ elim (cases_lt j i) [
    | inl higher ↦ absurd (not_before fs j i g f distinct b a (sym same) higher)
    | inr lower ↦ let here : i ≡ j = omega (arith, upper, lower) in same_Some f g (sym a ∙ ap (λ (k : ℕ). slice_get fs k) here ∙ b)
  ]
]

name_or : (a b : List ℕ) (s : Bool) → bytes_eq a b ≡ s → (a ≡ b) ⊎ ¬ (a ≡ b)
name_or a b true e = inl ((bytes_eq-Decides a b).0 e)
name_or a b false e = inr (λ same. let never : false ≡ true = sym e ∙ (bytes_eq-Decides a b).1 same in cc)

-- the field of a name, or none
named_or : (name : List ℕ) (fs : List Field) → ((f : Field) × Contains fs f × (f.name ≡ name)) ⊎ ((g : Field) → Contains fs g → g.name ≡ name → ⊥)
named_or name [] = inr (λ g inside is. let within = inside.1 in omega (arith, within))
named_or name (f ∷ fs) = elim (name_or f.name name (bytes_eq f.name name) refl) [
  | inl same ↦ inl (f, (0, omega arith, refl), same)
  | inr other ↦ elim (named_or name fs) [
    | inl (g, inside, is) ↦ inl (g, following f g fs inside, is)
    | inr none ↦ inr (λ g inside is. elim (first_or_after f g fs inside) [ inl first ↦ other (ap (λ (h : Field). h.name) (sym first) ∙ is) | inr more ↦ none g more is ])
  ]
]
  where
    following : (f g : Field) (fs : List Field) → Contains fs g → Contains (f ∷ fs) g
    following f g fs (k, within, e) = (suc k, omega (arith, within), e)

    first_or_after : (f g : Field) (fs : List Field) → Contains (f ∷ fs) g → (g ≡ f) ⊎ Contains fs g
    first_or_after f g fs (zero, within, e) = inl (sym e)
    first_or_after f g fs (suc k, within, e) = inr (k, omega (arith, within), e)

pick_name : (name : List ℕ) (s : Structure) → AllPairs (λ (f g : Field). f.name ≢ g.name) s.fields → Picked by_name name s
pick_name name s distinct = elim (named_or name s.fields) [
  | inl found ↦ inl (
    found.0,
    found.2,
    found.1,
    λ g is inside.
        let a = contains_at s.fields g inside in let b = contains_at s.fields found.0 found.1 in
        one_field s.fields g found.0 distinct a.0 b.0 a.1 b.1 (is ∙ sym found.2),
  )
  | inr none ↦ inr (λ g is inside. none g inside is)
]

-- ---- by place

place_by : (place : ℕ) (s : Structure) (o : Option Field) → slice_get s.fields place ≡ o → Picked by_place place s
place_by place s None e = inr (λ g at inside. none-some g (sym e ∙ at))
place_by place s (Some f) e = inl (f, e, at_contains s.fields f place e, λ g at inside. same_Some g f (sym at ∙ e))

-- a plain pointer to the structure
abbrev IsPointerTo : TypeId → Ty → Type 0
IsPointerTo own type = (reorder : Bool) × (type ≡ ty.Ptr (Some (target.Node own)) kind.Plain reorder)

pointer_stable : (own : TypeId) (type : Ty) → Stable (IsPointerTo own type)
pointer_stable own (ty.Ptr (Some (target.Node id)) kind.Plain reorder) nn = elim (id_or id own) [
  | inl same ↦ (reorder, ap (λ (x : TypeId). ty.Ptr (Some (target.Node x)) kind.Plain reorder) same)
  | inr other ↦ absurd (nn (λ (r, e). other (cc)))
]
pointer_stable own type nn = absurd (nn (λ (r, e). cc))

-- ---- the two kinds of paths

module _ (program : Program) (n : ℕ) (shallow : (id : TypeId) → Shallow program n id) where
  pub number_stable : ((node : TypeId) (s : Structure) → HasStructure program node s → AllPairs (λ (f g : Field). f.name ≢ g.name) s.fields)
      → (node : TypeId) (steps : List (List ℕ)) → Stable (LeadsToNumber program node steps)
  number_stable distinct node steps =
      leads_stable program n shallow by_name (λ node s there name. pick_name name s (distinct node s there)) (λ type. IsTrue (is_number type)) (λ type. is_true (is_number type)) steps node

  pub own_pointer_stable : (node : TypeId) (places : List ℕ) → Stable (LeadsToOwnPointer program node places)
  own_pointer_stable node places nn =
      let found = leads_stable program n shallow by_place (λ node s there place. place_by place s (slice_get s.fields place) refl) (IsPointerTo node) (pointer_stable node) places node
      (λ no. nn (λ (reorder, leads). no (ty.Ptr (Some (target.Node node)) kind.Plain reorder, leads, (reorder, refl)))) in
      (found.2.0, subst (λ (t : Ty). Leads program by_place node places t) found.2.1 found.1)
