-- Which blocks are reached can be computed: blocks are added along edges until none is new.
use Rattle.std.proofs.Common.{◌≡◌, ℕ, zero, suc, ◌+◌, ◌≤◌, ◌==◌, Bool, true, false, cond, List, [], ◌∷◌, length, count_by, refl, sym, ap, subst, ◌∙◌, inl, inr, arith}
use Rattle.std.specs.Prelude.{Contains}
use Rattle.std.proofs.lemmas.Bool.{cases_Bool, cases_lt, eq-eqb, eqb-true, false≢true}
use Rattle.std.proofs.lemmas.List.Sums.{count_by-le-length}
use Rattle.gt_pages.specs.Slots.{Slot, StartsSome}
use Rattle.gt_walk.specs.Rows.{Edge}
use Rattle.gt_mark.proofs.Remarked.{contains_cases, contains_head, contains_tail, contains_none, count_lt}

-- the list has the number
abbrev has : List ℕ → ℕ → Bool
has [] a = false
has (x ∷ xs) a = cond (x == a) true (has xs a)

-- one of the edges leads there
abbrev leads : List Edge → ℕ → Bool
leads [] a = false
leads (e ∷ es) a = cond (e.target == a) true (leads es a)

yes_or : (b c : Bool) → c ≡ true → cond b true c ≡ true
yes_or true c h = refl
yes_or false c h = h

has_true : (xs : List ℕ) (a : ℕ) → Contains xs a → has xs a ≡ true
has_true [] a there = contains_none a there
has_true (x ∷ xs) a there = elim (contains_cases x a xs there) [
  | inl is ↦ ap (λ b. cond b true (has xs a)) (eq-eqb x a is)
  | inr later ↦ yes_or (x == a) (has xs a) (has_true xs a later)
]

has_from : (xs : List ℕ) (a : ℕ) → has xs a ≡ true → Contains xs a
has_from [] a h = absurd (false≢true h)
has_from (x ∷ xs) a h = elim (cases_Bool (x == a)) [
  | inl equal ↦ subst (Contains (x ∷ xs)) (eqb-true x a equal) (contains_head x xs)
  | inr other ↦ contains_tail x a xs (has_from xs a (sym (ap (λ b. cond b true (has xs a)) other) ∙ h))
]

leads_true : (es : List Edge) (e : Edge) → Contains es e → leads es e.target ≡ true
leads_true [] e there = contains_none e there
leads_true (x ∷ es) e there = elim (contains_cases x e es there) [
  | inl is ↦ ap (λ b. cond b true (leads es e.target)) (eq-eqb x.target e.target (ap (λ y. y.target) is))
  | inr later ↦ yes_or (x.target == e.target) (leads es e.target) (leads_true es e later)
]

leads_from : (es : List Edge) (a : ℕ) → leads es a ≡ true → (e : Edge) × Contains es e × (e.target ≡ a)
leads_from [] a h = absurd (false≢true h)
leads_from (x ∷ es) a h = elim (cases_Bool (x.target == a)) [
  | inl equal ↦ (x, contains_head x es, eqb-true x.target a equal)
  | inr other ↦ let found = leads_from es a (sym (ap (λ b. cond b true (leads es a)) other) ∙ h) in (found.0, contains_tail x found.0 es found.1, found.2)
]

module _ (edges : ℕ → List Edge) where
  -- an edge leads there from one of the blocks that pass
  abbrev from_any : (ℕ → Bool) → List Slot → ℕ → Bool
  from_any p [] a = false
  from_any p (s ∷ ss) a = cond (cond (p s.address) (leads (edges s.address) a) false) true (from_any p ss a)

  any_true : (p : ℕ → Bool) (ss : List Slot) (s : Slot) (e : Edge) → Contains ss s → p s.address ≡ true → Contains (edges s.address) e → from_any p ss e.target ≡ true
  any_true p [] s e there passes in-s = contains_none s there
  any_true p (x ∷ ss) s e there passes in-s = elim (contains_cases x s ss there) [
    | inl is ↦
        ap (λ y. cond (cond (p y.address) (leads (edges y.address) e.target) false) true (from_any p ss e.target)) is
        ∙ ap (λ b. cond (cond b (leads (edges s.address) e.target) false) true (from_any p ss e.target)) passes
        ∙ ap (λ b. cond b true (from_any p ss e.target)) (leads_true (edges s.address) e in-s)
    | inr later ↦ yes_or (cond (p x.address) (leads (edges x.address) e.target) false) (from_any p ss e.target) (any_true p ss s e later passes in-s)
  ]

  module _ (R : ℕ → Type 0) (onward : (a : ℕ) (e : Edge) → R a → Contains (edges a) e → R e.target) where
    both_from : (b c : Bool) → cond b c false ≡ true → (b ≡ true) × (c ≡ true)
    both_from true c h = (refl, h)
    both_from false c h = absurd (false≢true h)

    any_from : (p : ℕ → Bool) (ss : List Slot) (a : ℕ) → ((x : ℕ) → p x ≡ true → R x) → from_any p ss a ≡ true → R a
    any_from p [] a sound h = absurd (false≢true h)
    any_from p (s ∷ ss) a sound h = elim (cases_Bool (cond (p s.address) (leads (edges s.address) a) false)) [
      | inl here ↦
          let both = both_from (p s.address) (leads (edges s.address) a) here in
          let e = leads_from (edges s.address) a both.1 in
          subst R e.2 (onward s.address e.0 (sound s.address both.0) e.1)
      | inr other ↦ any_from p ss a sound (sym (ap (λ b. cond b true (from_any p ss a)) other) ∙ h)
    ]

    module _ (slots : List Slot) where
      abbrev grown : (ℕ → Bool) → ℕ → Bool
      grown p a = cond (p a) true (from_any p slots a)

      grown_sound : (p : ℕ → Bool) → ((x : ℕ) → p x ≡ true → R x) → (x : ℕ) → grown p x ≡ true → R x
      grown_sound p sound x h = elim (cases_Bool (p x)) [
        | inl passes ↦ sound x passes
        | inr not ↦ any_from p slots x sound (sym (ap (λ b. cond b true (from_any p slots x)) not) ∙ h)
      ]

      grown_more : (p : ℕ → Bool) (x : ℕ) → p x ≡ true → grown p x ≡ true
      grown_more p x h = ap (λ b. cond b true (from_any p slots x)) h

      -- a test that is closed under edges and passes only what is reached
      pub record Settled (p : ℕ → Bool) : Type 0 where
        pub test : ℕ → Bool
        pub sound : (x : ℕ) → test x ≡ true → R x
        pub more : (x : ℕ) → p x ≡ true → test x ≡ true
        pub closed : (s : Slot) (e : Edge) → Contains slots s → test s.address ≡ true → Contains (edges s.address) e → StartsSome slots e.target → test e.target ≡ true

      stays : (p : ℕ → Bool) → count_by (λ s. grown p s.address) slots ≤ count_by (λ s. p s.address) slots → (s : Slot) → Contains slots s → grown p s.address ≡ true → p s.address ≡ true
      stays p none s there h = elim (cases_Bool (p s.address)) [
        | inl passes ↦ passes
        | inr not ↦
            let less = count_lt (λ x. grown p x.address) (λ x. p x.address) slots s (λ x q. grown_more p x.address q) there not h in
            absurd (let no : 1 ≤ 0 = omega (arith, less, none) in omega (arith, no))
      ]

      settled_here : (p : ℕ → Bool) → ((x : ℕ) → p x ≡ true → R x) → count_by (λ s. grown p s.address) slots ≤ count_by (λ s. p s.address) slots → Settled p
      settled_here p sound none = record {
        test = p;
        sound = sound;
        more = λ x h. h;
        closed = λ s e there passes in-s start.
            let new : grown p e.target ≡ true = yes_or (p e.target) (from_any p slots e.target) (any_true p slots s e there passes in-s) in
            ap p (sym start.2) ∙ stays p none start.0 start.1 (ap (grown p) start.2 ∙ new);
      }

      pub settle : (n : ℕ) (p : ℕ → Bool) → ((x : ℕ) → p x ≡ true → R x) → length slots ≤ count_by (λ s. p s.address) slots + n → Settled p
      settle zero p sound enough =
          let most = count_by-le-length (λ s. grown p s.address) slots in
          settled_here p sound (omega (arith, most, enough))
      settle (suc n) p sound enough = elim (cases_lt (count_by (λ s. p s.address) slots) (count_by (λ s. grown p s.address) slots)) [
        | inl more ↦
            let rest = settle n (grown p) (grown_sound p sound) (omega (arith, more, enough)) in
            record { test = rest.test; sound = rest.sound; more = λ x h. rest.more x (grown_more p x h); closed = rest.closed }
        | inr none ↦ settled_here p sound none
      ]

      pub settle_from : (starts : List ℕ) → ((x : ℕ) → Contains starts x → R x) → (q : Settled (has starts)) × ((x : ℕ) → Contains starts x → q.test x ≡ true)
      settle_from starts begin =
          let q = settle (length slots) (has starts) (λ x h. begin x (has_from starts x h)) (omega arith) in
          (q, λ x there. q.more x (has_true starts x there))
