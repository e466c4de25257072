-- Many blocks that one block leads to do not fit on the stack.
use Rattle.std.proofs.Common.{◌≡◌, ◌≢◌, ℕ, suc, ◌+◌, ◌≤◌, ◌⊎◌, ◌==◌, Bool, true, false, cond, List, [], ◌∷◌, get_or, count_by, Option, Some, is_some, refl, sym, ap, ◌∙◌, inl, inr, arith}
use Rattle.std.specs.Prelude.{Contains, find, nat_eq, option_and_then}
use Rattle.std.specs.List.{IsDistinct}
use Rattle.std.proofs.lemmas.Bool.{cases_Bool, cases_eq, eq-eqb, ne_eqb, eqb-true, false≢true, true≢false}
use Rattle.std.proofs.lemmas.Map.Keys.{apart_from_distinct}
use Rattle.gt_space.specs.Range.{Range}
use Rattle.gt_entries.specs.declared.marks.Mark.{Mark}
use Rattle.gt_pages.specs.Slots.{Slot, StartsSome, mark_at, with_mark, with_mark_at}
use Rattle.gt_walk.specs.declared.tables.Tables.{Tables}
use Rattle.gt_mark.specs.Steps.{State, Task}
use Rattle.gt_mark.specs.Wide.{IsCrowd}
use Rattle.gt_mark.proofs.Remarked.{contains_cases, contains_head, contains_none, contains_tail, count_cons, starts_cases}

-- ---- one more mark

pub addr_with : (b : Bool) (k : Option Mark) (s : Slot) → (cond b (with_mark k s) s).address ≡ s.address
addr_with true k s = refl
addr_with false k s = refl

mark_with : (b : Bool) (k : Option Mark) (s : Slot) → b ≡ true → (cond b (with_mark k s) s).mark ≡ k
mark_with true k s h = refl
mark_with false k s h = absurd (false≢true h)

mark_kept : (b : Bool) (k : Option Mark) (s : Slot) → b ≡ false → (cond b (with_mark k s) s).mark ≡ s.mark
mark_kept true k s h = absurd (true≢false h)
mark_kept false k s h = refl

step_find : (a : ℕ) (s : Slot) (rest : List Slot) (b : Bool) → s.address == a ≡ b → mark_at (s ∷ rest) a ≡ cond b s.mark (mark_at rest a)
step_find a s rest true h = ap (λ c. option_and_then (λ u. u.mark) (cond c (Some s) (find (λ u. u.address == a) rest))) h
step_find a s rest false h = ap (λ c. option_and_then (λ u. u.mark) (cond c (Some s) (find (λ u. u.address == a) rest))) h

pub mark_at_other : (slots : List Slot) (x a : ℕ) (k : Option Mark) → a ≢ x → mark_at (with_mark_at slots x k) a ≡ mark_at slots a
mark_at_other [] x a k apart = refl
mark_at_other (s ∷ slots) x a k apart =
    let u : Slot = cond (s.address == x) (with_mark k s) s in
    let at : u.address ≡ s.address = addr_with (s.address == x) k s in
    elim (cases_Bool (s.address == a)) [
      | inl equal ↦
          let here : s.address ≡ a = eqb-true s.address a equal in
          step_find a u (with_mark_at slots x k) true (ap (λ n. n == a) at ∙ equal)
          ∙ mark_kept (s.address == x) k s (ne_eqb s.address x (λ same. apart (sym here ∙ same)))
          ∙ sym (step_find a s slots true equal)
      | inr other ↦
          step_find a u (with_mark_at slots x k) false (ap (λ n. n == a) at ∙ other)
          ∙ mark_at_other slots x a k apart
          ∙ sym (step_find a s slots false other)
    ]

pub mark_at_same : (slots : List Slot) (x : ℕ) (k : Option Mark) → StartsSome slots x → mark_at (with_mark_at slots x k) x ≡ k
mark_at_same [] x k start = contains_none start.0 start.1
mark_at_same (s ∷ slots) x k start =
    let u : Slot = cond (s.address == x) (with_mark k s) s in
    let at : u.address ≡ s.address = addr_with (s.address == x) k s in
    elim (cases_Bool (s.address == x)) [
      | inl equal ↦ step_find x u (with_mark_at slots x k) true (ap (λ n. n == x) at ∙ equal) ∙ mark_with (s.address == x) k s equal
      | inr other ↦ step_find x u (with_mark_at slots x k) false (ap (λ n. n == x) at ∙ other)
          ∙ mark_at_same slots x k (elim (starts_cases s slots x start) [ inl is ↦ absurd (false≢true (sym other ∙ eq-eqb s.address x is)) | inr later ↦ later ])
    ]

-- ---- how marks grow by one edge

pub record Grows (old new : List Slot) (x : ℕ) : Type 0 where
  pub there : is_some (mark_at new x) ≡ true
  pub grow : (a : ℕ) → is_some (mark_at old a) ≡ true → is_some (mark_at new a) ≡ true
  pub more : (a : ℕ) → is_some (mark_at new a) ≡ true → (a ≡ x) ⊎ (is_some (mark_at old a) ≡ true)

pub grows_marked : (slots : List Slot) (x : ℕ) (m : Mark) → StartsSome slots x → Grows slots (with_mark_at slots x (Some m)) x
grows_marked slots x m start =
    let same = mark_at_same slots x (Some m) start in
    record {
      there = ap is_some same;
      grow = λ a h. elim (cases_eq a x) [
        | inl is ↦ ap (λ b. is_some (mark_at (with_mark_at slots x (Some m)) b)) is ∙ ap is_some same
        | inr apart ↦ ap is_some (mark_at_other slots x a (Some m) apart) ∙ h
      ];
      more = λ a h. elim (cases_eq a x) [
        | inl is ↦ inl is
        | inr apart ↦ inr (sym (ap is_some (mark_at_other slots x a (Some m) apart)) ∙ h)
      ];
    }

module _ {tables : Tables} {space : Range} (t : Task tables space) where
  pub fewer_only : (old new : State) (from : ℕ) (blocks : List ℕ) → ((a : ℕ) → is_some (mark_at old.pages.slots a) ≡ true → is_some (mark_at new.pages.slots a) ≡ true) → IsCrowd t new from blocks → IsCrowd t old from blocks
  fewer_only old new from blocks grow c = record {
    distinct = c.distinct;
    many = c.many;
    only = λ a there. let o = c.only a there in record { leads = o.leads; unmarked = o.unmarked; no_start = o.no_start; no_other = λ other apart h. o.no_other other apart (grow other h) };
  }

-- ---- how many of some blocks are marked

count_le_in : (p q : ℕ → Bool) (xs : List ℕ) → ((a : ℕ) → Contains xs a → q a ≡ true → p a ≡ true) → count_by q xs ≤ count_by p xs
count_le_in p q [] more = omega arith
count_le_in p q (x ∷ xs) more =
    let rest = count_le_in p q xs (λ a there. more a (contains_tail x a xs there)) in
    let a = count_cons p x xs in
    let b = count_cons q x xs in
    let here = below (p x) (q x) (more x (contains_head x xs)) in
    omega (arith, rest, a, b, here)
  where
    below : (b c : Bool) → (c ≡ true → b ≡ true) → cond {A = ℕ} c 1 0 ≤ cond b 1 0
    below true true h = omega arith
    below true false h = omega arith
    below false false h = omega arith
    below false true h = absurd (false≢true (h refl))

at_most_one : (b : Bool) → cond {A = ℕ} b 1 0 ≤ 1
at_most_one true = omega arith
at_most_one false = omega arith

distinct_tail : (x : ℕ) (xs : List ℕ) → IsDistinct nat_eq (x ∷ xs) → IsDistinct nat_eq xs
unfolding IsDistinct
distinct_tail x xs d = d.1

apart_head : (x : ℕ) (xs : List ℕ) → IsDistinct nat_eq (x ∷ xs) → (a : ℕ) → Contains xs a → a ≢ x
apart_head x xs distinct a there same =
    let e = apart_from_distinct nat_eq (x ∷ xs) 0 (suc there.0) a distinct (omega arith) (omega (arith, there.1)) in
    false≢true (sym e ∙ eq-eqb x (get_or xs there.0 a) (sym same ∙ sym there.2))

pub count_one : (p q : ℕ → Bool) (x : ℕ) (xs : List ℕ) → ((a : ℕ) → q a ≡ true → (a ≡ x) ⊎ (p a ≡ true)) → IsDistinct nat_eq xs → count_by q xs ≤ count_by p xs + 1
count_one p q x [] more distinct = omega arith
count_one p q x (y ∷ ys) more distinct =
    let a = count_cons p y ys in
    let b = count_cons q y ys in
    elim (cases_eq y x) [
      | inl same ↦
          let rest = count_le_in p q ys (λ z there h. elim (more z h) [ inl is ↦ absurd (apart_head y ys distinct z there (is ∙ sym same)) | inr yes-p ↦ yes-p ]) in
          let one = at_most_one (q y) in
          omega (arith, a, b, rest, one)
      | inr apart ↦
          let rest = count_one p q x ys more (distinct_tail y ys distinct) in
          let here = count_le_in p q (y ∷ []) (λ z there h. elim (more z h) [
            | inl is ↦ absurd (elim (contains_cases y z [] there) [ inl at ↦ apart (at ∙ is) | inr no-one ↦ contains_none z no-one ])
            | inr yes-p ↦ yes-p
          ]) in
          let c = count_cons p y [] in
          let d = count_cons q y [] in
          let e : count_by p [] ≡ 0 = refl in
          let f : count_by q [] ≡ 0 = refl in
          omega (arith, a, b, rest, here, c, d, e, f)
    ]
