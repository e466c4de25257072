-- Lists of containers that grow.
use Rattle.std.proofs.Common.{◌≡◌, ◌⊎◌, inl, inr, ℕ, ◌+◌, ◌<◌, ◌≤◌, Bool, true, false, cond, List, [], ◌∷◌, ◌++◌, length, get_or, take, Some, None, slice_get, refl, sym, ap, subst, ◌∙◌, arith, nat_eq}
use Rattle.std.specs.Prelude.{Any, Contains}
use Rattle.std.proofs.lemmas.Bool.Decides.{Decides-eqb}
use Rattle.std.proofs.lemmas.List.{take_all, take_more}
use Rattle.std.proofs.lemmas.List.Elements.{Contains-append_left, Contains-append_right, Contains-append_cases}
use Rattle.std.proofs.lemmas.Option.{slice_get_within}
use Rattle.indexmap.specs.IndexMap.{get}
use Rattle.gt_types.specs.declared.types.TypeId.{TypeId}
use Rattle.gt_types.specs.declared.program.Field.{Field}
use Rattle.gt_types.specs.declared.program.Structure.{Structure}
use Rattle.gt_types.specs.declared.program.Program.{Program}
use Rattle.gt_types.specs.Contains.{ContainsStructure, held_by}
use Rattle.gt_paths.specs.declared.containers.Containers.{Containers}
use Rattle.gt_paths.specs.Containers.{Adds, AddsHeld, AddsNumber, AreContainersOf, containers_of, or_none}
use Rattle.gt_paths.specs.Numbers.{numbered}
use Rattle.gt_paths.proofs.Ascents.{is_one, last_or_before}
use Rattle.gt_paths.proofs.Walks.{any_joins, of_one}

-- ---- a list

pub number_kept : (ids : List ℕ) (id : ℕ) → Contains ids id → AddsNumber ids id ids
number_kept ids id there = record { added = there; kept = λ x at. at; only = λ x at. inl at }

last_or_old : (ids : List ℕ) (id x : ℕ) → Contains ids x ⊎ Contains (id ∷ []) x → Contains ids x ⊎ (x ≡ id)
last_or_old ids id x (inl old) = inl old
last_or_old ids id x (inr new) = inr (is_one id x new)

pub number_added : (ids : List ℕ) (id : ℕ) → AddsNumber ids id (ids ++ id ∷ [])
number_added ids id = record {
  added = Contains-append_right ids (id ∷ []) id (0, omega arith, refl);
  kept = λ x at. Contains-append_left ids (id ∷ []) x at;
  only = λ x at. last_or_old ids id x (Contains-append_cases ids (id ∷ []) x at);
}

-- ---- the lists

other : (inner id : ℕ) → ¬ (id ≡ inner) → nat_eq inner id ≡ false
other inner id differs = by (nat_eq inner id) refl where
  by : (b : Bool) → nat_eq inner id ≡ b → b ≡ false
  by true is = absurd (differs (sym ((Decides-eqb inner id).0 is)))
  by false is = refl

pub adds : (old mid new : Containers) (inner outer : ℕ) (list : List ℕ) → ((id : ℕ) → ¬ (id ≡ inner) → containers_of mid id ≡ containers_of old id) → AddsNumber (containers_of old inner) outer list
    → ((q : ℕ) → get nat_eq new.lists q ≡ cond (nat_eq inner q) (Some list) (get nat_eq mid.lists q)) → Adds old inner outer new
adds old mid new inner outer list left number updates =
    let own : containers_of new inner ≡ list =
    ap or_none (updates inner) ∙ ap (λ (b : Bool). or_none (cond b (Some list) (get nat_eq mid.lists inner))) ((Decides-eqb inner inner).1 refl) in
    let others : (id : ℕ) → ¬ (id ≡ inner) → containers_of new id ≡ containers_of old id =
    λ id differs. ap or_none (updates id) ∙ ap (λ (b : Bool). or_none (cond b (Some list) (get nat_eq mid.lists id))) (other inner id differs) ∙ left id differs in
    record {
      added = subst (λ (xs : List ℕ). Contains xs outer) (sym own) number.added;
      kept = λ id x at. elim (same_or_other id inner) [
        | inl same ↦
            subst (λ (j : ℕ). Contains (containers_of new j) x) (sym same)
            (subst (λ (xs : List ℕ). Contains xs x) (sym own) (number.kept x (subst (λ (j : ℕ). Contains (containers_of old j) x) same at)))
        | inr differs ↦ subst (λ (xs : List ℕ). Contains xs x) (sym (others id differs)) at
      ];
      only = λ id x at. elim (same_or_other id inner) [
        | inl same ↦
            elim (number.only x (subst (λ (xs : List ℕ). Contains xs x) own (subst (λ (j : ℕ). Contains (containers_of new j) x) same at))) [
              | inl before ↦ inl (subst (λ (j : ℕ). Contains (containers_of old j) x) (sym same) before)
              | inr it ↦ inr (same, it)
            ]
        | inr differs ↦ inl (subst (λ (xs : List ℕ). Contains xs x) (others id differs) at)
      ];
    }
  where
    same_or_other : (id inner : ℕ) → (id ≡ inner) ⊎ (¬ (id ≡ inner))
    same_or_other id inner = by (nat_eq id inner) refl where
      by : (b : Bool) → nat_eq id inner ≡ b → (id ≡ inner) ⊎ (¬ (id ≡ inner))
      by true is = inl ((Decides-eqb id inner).0 is)
      by false is = inr (λ same. let never : true ≡ false = sym ((Decides-eqb id inner).1 same) ∙ is in absurd (cc))

-- ---- what fields hold

no_any : {X : Type 0} (P : X → Type 0) → ¬ Any P []
no_any P any = absurd (omega (arith, any.2))

pub adds_none : (c : Containers) (outer : ℕ) → AddsHeld c outer [] c
adds_none c outer = record { added = λ inner any. absurd (no_any (λ (f : Field). held_by f.ty ≡ Some inner) any); kept = λ id x at. at; only = λ id x at. inl at }

same_id : (a b : TypeId) → Some a ≡ Some b → a ≡ b
same_id a b e = cc

pub adds_nothing : (c : Containers) (outer : ℕ) (f : Field) → held_by f.ty ≡ None → AddsHeld c outer (f ∷ []) c
adds_nothing c outer f none = record {
  added = λ inner any.
      let holds = of_one (λ (g : Field). held_by g.ty ≡ Some inner) f any.1 any.0 any.2 any.3 any.4 in
      let never : None ≡ Some inner = sym none ∙ holds in cc;
  kept = λ id x at. at;
  only = λ id x at. inl at;
}

pub adds_one : (old new : Containers) (outer : ℕ) (f : Field) (inner : TypeId) → held_by f.ty ≡ Some inner → Adds old inner.0 outer new → AddsHeld old outer (f ∷ []) new
adds_one old new outer f inner held a = record {
  added = λ id any.
      let holds = of_one (λ (g : Field). held_by g.ty ≡ Some id) f any.1 any.0 any.2 any.3 any.4 in
      subst (λ (j : TypeId). Contains (containers_of new j.0) outer) (same_id inner id (sym held ∙ holds)) a.added;
  kept = a.kept;
  only = λ id x at. elim (a.only id x at) [
    | inl old ↦ inl old
    | inr (it, own) ↦ inr (own, (0, f, omega arith, refl, held ∙ ap (λ (j : ℕ). Some (numbered j)) (sym it)))
  ];
}

pub adds_more : (a b c : Containers) (outer : ℕ) (xs ys : List Field) → AddsHeld a outer xs b → AddsHeld b outer ys c → AddsHeld a outer (xs ++ ys) c
adds_more a b c outer xs ys first second = record {
  added = λ inner any. elim ((any_joins (λ (f : Field). held_by f.ty ≡ Some inner)).cases xs ys any) [
    | inl there ↦ second.kept inner.0 outer (first.added inner there)
    | inr there ↦ second.added inner there
  ];
  kept = λ id x at. second.kept id x (first.kept id x at);
  only = λ id x at. elim (second.only id x at) [
    | inl mid ↦ elim (first.only id x mid) [
      | inl old ↦ inl old
      | inr (own, any) ↦ inr (own, (any_joins (λ (f : Field). held_by f.ty ≡ Some (numbered id))).first xs ys any)
    ]
    | inr (own, any) ↦ inr (own, (any_joins (λ (f : Field). held_by f.ty ≡ Some (numbered id))).second xs ys any)
  ];
}

pub adds_next : (a b c : Containers) (outer : ℕ) (fs : List Field) (i : ℕ) (f : Field) → i < length fs → f ≡ get_or fs i f → AddsHeld a outer (take i fs) b → AddsHeld b outer (f ∷ []) c
    → AddsHeld a outer (take (i + 1) fs) c
adds_next a b c outer fs i f within is first second =
    subst (λ (xs : List Field). AddsHeld a outer xs c) (ap (λ (g : Field). take i fs ++ g ∷ []) is ∙ sym (take_more fs i f within)) (adds_more a b c outer (take i fs) (f ∷ []) first second)

pub adds_all : (a c : Containers) (outer : ℕ) (fs : List Field) (i : ℕ) → length fs ≤ i → AddsHeld a outer (take i fs) c → AddsHeld a outer fs c
adds_all a c outer fs i past first = subst (λ (xs : List Field). AddsHeld a outer xs c) (take_all i fs past) first

-- ---- all structures

-- the containers among the structures before this number are listed
pub record ListedBefore (program : Program) (i : ℕ) (c : Containers) : Type 0 where
  pub listed : (outer inner : TypeId) → outer.0 < i → ContainsStructure program outer inner → Contains (containers_of c inner.0) outer.0
  pub only : (outer inner : ℕ) → Contains (containers_of c inner) outer → ContainsStructure program (numbered outer) (numbered inner)

pub none_listed : (program : Program) (c : Containers) → ((id : ℕ) → containers_of c id ≡ []) → ListedBefore program 0 c
none_listed program c none = record {
  listed = λ outer inner below. absurd (omega (arith, below));
  only = λ outer inner at. absurd (no_number outer (subst (λ (xs : List ℕ). Contains xs outer) (none inner) at));
}
  where
    no_number : (x : ℕ) → ¬ Contains [] x
    no_number x at = absurd (omega (arith, at.1))

same_structure : (s t : Structure) → Some s ≡ Some t → s ≡ t
same_structure s t e = cc

pub listed_more : (program : Program) (i : ℕ) (s : Structure) (fields : List Field) (old new : Containers) → slice_get program.structures i ≡ Some s → fields ≡ s.fields → ListedBefore program i old
    → AddsHeld old i fields new → ListedBefore program (i + 1) new
listed_more program i s fields old new there same before a = record {
  listed = λ outer inner below contains. elim (last_or_before i outer.0 below) [
    | inl less ↦ a.kept inner.0 outer.0 (before.listed outer inner less contains)
    | inr last ↦ own outer inner last contains
  ];
  only = λ outer inner at. elim (a.only inner outer at) [
    | inl old ↦ before.only outer inner old
    | inr (it, any) ↦ (
      s,
      any.1,
      subst (λ (j : ℕ). slice_get program.structures j ≡ Some s) (sym it) there,
      subst (λ (xs : List Field). Contains xs any.1) same (any.0, any.2, any.3),
      any.4,
    )
  ];
}
  where
    own : (outer inner : TypeId) → outer.0 ≡ i → ContainsStructure program outer inner → Contains (containers_of new inner.0) outer.0
    own outer inner last (t, f, there', at, held) =
        let t_is = same_structure t s (sym (subst (λ (j : ℕ). slice_get program.structures j ≡ Some t) last there') ∙ there) in
        let here = subst (λ (xs : List Field). Contains xs f) (sym same) (subst (λ (u : Structure). Contains u.fields f) t_is at) in
        subst (λ (j : ℕ). Contains (containers_of new inner.0) j) (sym last) (a.added inner (here.0, f, here.1, here.2, held))

pub all_listed : (program : Program) (i : ℕ) (c : Containers) → length program.structures ≤ i → ListedBefore program i c → AreContainersOf program c
all_listed program i c past before = record {
  listed = λ outer inner contains. before.listed outer inner (below outer inner contains) contains;
  only = before.only;
}
  where
    below : (outer inner : TypeId) → ContainsStructure program outer inner → outer.0 < i
    below outer inner (s, f, there, at, held) = let within = slice_get_within program.structures outer.0 s there in omega (arith, within, past)
