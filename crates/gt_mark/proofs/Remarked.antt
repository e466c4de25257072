-- Slots of which each has the mark of its address.
use Rattle.std.proofs.Common.{◌≡◌, ◌≢◌, ℕ, zero, suc, ◌+◌, ◌<◌, ◌≤◌, ◌⊎◌, ◌==◌, Bool, true, false, cond, List, [], ◌∷◌, length, get_or, map, count_by, Option, Some, None, is_none, is_some, refl, sym, ap, subst, ◌∙◌, inl, inr, arith}
use Rattle.std.specs.Prelude.{Contains, find, nat_lt, option_and_then, option_map, slice_get}
use Rattle.std.proofs.lemmas.Bool.{cases_Bool, cases_lt, eq-eqb, ne_eqb, eqb-true, ltb-true, lt-ltb, le-ltb, false≢true, and_left, and_right, and_from}
use Rattle.std.proofs.lemmas.List.Sums.{sum_by-cons}
use Rattle.gt_entries.specs.declared.marks.Mark.{Mark}
use Rattle.gt_entries.specs.Cells.{has_pending}
use Rattle.gt_pages.specs.Slots.{Slot, StartsSome, is_pending, is_unmarked, mark_at, next_slot, told_of, with_mark, with_mark_at}
use Rattle.gt_pages.specs.Contents.{Rises}
use Rattle.gt_mark.specs.Reached.{IsMarkedAt}
use Rattle.gt_mark.specs.Steps.{remarked}

-- ---- what a list contains

module _ {X : Type 0} where
  pub contains_none : {P : Type 0} (x : X) → Contains [] x → P
  contains_none x there = absurd (let no : 1 ≤ 0 = omega (arith, there.1) in omega (arith, no))

  pub contains_head : (x : X) (xs : List X) → Contains (x ∷ xs) x
  contains_head x xs = (0, omega arith, refl)

  pub contains_tail : (x y : X) (xs : List X) → Contains xs y → Contains (x ∷ xs) y
  contains_tail x y xs there = (suc there.0, omega (arith, there.1), there.2)

  contains_at : (x y : X) (xs : List X) (k : ℕ) → k < length (x ∷ xs) → get_or (x ∷ xs) k y ≡ y → (x ≡ y) ⊎ Contains xs y
  contains_at x y xs zero low is = inl is
  contains_at x y xs (suc k) low is = inr (k, omega (arith, low), is)

  pub contains_cases : (x y : X) (xs : List X) → Contains (x ∷ xs) y → (x ≡ y) ⊎ Contains xs y
  contains_cases x y xs there = contains_at x y xs there.0 there.1 there.2

pub contains_map : {X Y : Type 0} (f : X → Y) (xs : List X) (x : X) → Contains xs x → Contains (map f xs) (f x)
contains_map f [] x there = contains_none x there
contains_map f (y ∷ ys) x there = elim (contains_cases y x ys there) [
  | inl is ↦ subst (λ z. Contains (f y ∷ map f ys) (f z)) is (contains_head (f y) (map f ys))
  | inr later ↦ contains_tail (f y) (f x) (map f ys) (contains_map f ys x later)
]

pub contains_map_from : {X Y : Type 0} (f : X → Y) (xs : List X) (y : Y) → Contains (map f xs) y → (x : X) × Contains xs x × (f x ≡ y)
contains_map_from f [] y there = contains_none y there
contains_map_from f (x ∷ xs) y there = elim (contains_cases (f x) y (map f xs) there) [
  | inl is ↦ (x, contains_head x xs, is)
  | inr later ↦ let found = contains_map_from f xs y later in (found.0, contains_tail x found.0 xs found.1, found.2)
]

-- ---- starts

pub starts_head : (x : Slot) (xs : List Slot) → StartsSome (x ∷ xs) x.address
starts_head x xs = (x, contains_head x xs, refl)

pub starts_tail : (x : Slot) (xs : List Slot) (a : ℕ) → StartsSome xs a → StartsSome (x ∷ xs) a
starts_tail x xs a start = (start.0, contains_tail x start.0 xs start.1, start.2)

pub starts_cases : (x : Slot) (xs : List Slot) (a : ℕ) → StartsSome (x ∷ xs) a → (x.address ≡ a) ⊎ StartsSome xs a
starts_cases x xs a start = elim (contains_cases x start.0 xs start.1) [
  | inl is ↦ inl (ap (λ s. s.address) is ∙ start.2)
  | inr later ↦ inr (start.0, later, start.2)
]

module _ (marks : ℕ → Option Mark) where
  pub starts_remarked : (xs : List Slot) (a : ℕ) → StartsSome xs a → StartsSome (map (remarked marks) xs) a
  starts_remarked xs a start = (remarked marks start.0, contains_map (remarked marks) xs start.0 start.1, start.2)

  pub starts_from_remarked : (xs : List Slot) (a : ℕ) → StartsSome (map (remarked marks) xs) a → StartsSome xs a
  starts_from_remarked xs a start =
      let found = contains_map_from (remarked marks) xs start.0 start.1 in
      (found.0, found.1, ap (λ s. s.address) found.2 ∙ start.2)

  mark_found : Option Slot → Option Mark
  mark_found found = option_and_then (λ s. s.mark) found

  -- the mark of a block is that of its address
  pub mark_at_remarked : (xs : List Slot) (a : ℕ) → StartsSome xs a → mark_at (map (remarked marks) xs) a ≡ marks a
  mark_at_remarked [] a start = contains_none start.0 start.1
  mark_at_remarked (x ∷ xs) a start = elim (cases_Bool (x.address == a)) [
    | inl equal ↦
        ap (λ b. option_and_then (λ s. s.mark) (cond b (Some (remarked marks x)) (find (λ s. s.address == a) (map (remarked marks) xs)))) equal
        ∙ ap marks (eqb-true x.address a equal)
    | inr other ↦
        ap (λ b. option_and_then (λ s. s.mark) (cond b (Some (remarked marks x)) (find (λ s. s.address == a) (map (remarked marks) xs)))) other
        ∙ mark_at_remarked xs a (elim (starts_cases x xs a start) [
          | inl is ↦ absurd (false≢true (sym other ∙ eq-eqb x.address a is))
          | inr later ↦ later
        ])
  ]

-- another mark for one address
abbrev pub put : (ℕ → Option Mark) → ℕ → Option Mark → ℕ → Option Mark
put marks a mark b = cond (b == a) mark (marks b)

pub put_same : (marks : ℕ → Option Mark) (a : ℕ) (mark : Option Mark) → put marks a mark a ≡ mark
put_same marks a mark = ap (λ b. cond b mark (marks a)) (eq-eqb a a refl)

pub put_other : (marks : ℕ → Option Mark) (a b : ℕ) (mark : Option Mark) → b ≢ a → put marks a mark b ≡ marks b
put_other marks a b mark apart = ap (λ c. cond c mark (marks b)) (ne_eqb b a apart)

put_one : (b : Bool) (marks : ℕ → Option Mark) (mark : Option Mark) (s : Slot)
    → cond b (with_mark mark (remarked marks s)) (remarked marks s) ≡ with_mark (cond b mark (marks s.address)) s
put_one true marks mark s = refl
put_one false marks mark s = refl

pub with_mark_remarked : (marks : ℕ → Option Mark) (xs : List Slot) (a : ℕ) (mark : Option Mark)
    → with_mark_at (map (remarked marks) xs) a mark ≡ map (remarked (put marks a mark)) xs
with_mark_remarked marks [] a mark = refl
with_mark_remarked marks (x ∷ xs) a mark =
    ap (λ s. s ∷ with_mark_at (map (remarked marks) xs) a mark) (put_one (x.address == a) marks mark x)
    ∙ ap (λ ss. remarked (put marks a mark) x ∷ ss) (with_mark_remarked marks xs a mark)

-- ---- one address is marked again

twice_one : (b : Bool) (x : ℕ) (k l : Option Mark) (s : Slot) → s.address == x ≡ b
    → cond ((cond b (with_mark k s) s).address == x) (with_mark l (cond b (with_mark k s) s)) (cond b (with_mark k s) s) ≡ cond b (with_mark l s) s
twice_one true x k l s is = ap (λ c. cond c (with_mark l (with_mark k s)) (with_mark k s)) is
twice_one false x k l s is = ap (λ c. cond c (with_mark l s) s) is

pub marked_twice : (xs : List Slot) (x : ℕ) (k l : Option Mark) → with_mark_at (with_mark_at xs x k) x l ≡ with_mark_at xs x l
marked_twice [] x k l = refl
marked_twice (s ∷ xs) x k l =
    ap (λ y. y ∷ with_mark_at (with_mark_at xs x k) x l) (twice_one (s.address == x) x k l s refl)
    ∙ ap (λ ys. cond (s.address == x) (with_mark l s) s ∷ ys) (marked_twice xs x k l)

-- ---- rising slots

pub rises_tail : (x : Slot) (xs : List Slot) → Rises (x ∷ xs) → Rises xs
rises_tail x xs rises i s t here next =
    let e : suc i ≡ i + 1 = omega arith in
    let f : suc (i + 1) ≡ i + 1 + 1 = omega arith in
    rises (i + 1) s t (ap (slice_get (x ∷ xs)) (sym e) ∙ here) (ap (slice_get (x ∷ xs)) (sym f) ∙ next)

rises_next : (x y : Slot) (xs : List Slot) → Rises (x ∷ y ∷ xs) → x.address < y.address
rises_next x y xs rises =
    let e : 0 + 1 ≡ suc 0 = omega arith in
    rises 0 x y refl (ap (slice_get (x ∷ y ∷ xs)) e)

pub rises_above : (x : Slot) (xs : List Slot) → Rises (x ∷ xs) → (s : Slot) → Contains xs s → x.address < s.address
rises_above x [] rises s there = contains_none s there
rises_above x (y ∷ ys) rises s there =
    let first = rises_next x y ys rises in
    elim (contains_cases y s ys there) [
      | inl is ↦ subst (λ z. x.address < z.address) is first
      | inr later ↦ let more = rises_above y ys (rises_tail x (y ∷ ys) rises) s later in omega (arith, first, more)
    ]

pub mark_of_slot : (xs : List Slot) → Rises xs → (s : Slot) → Contains xs s → mark_at xs s.address ≡ s.mark
mark_of_slot [] rises s there = contains_none s there
mark_of_slot (x ∷ xs) rises s there = elim (contains_cases x s xs there) [
  | inl is ↦
      ap (λ b. option_and_then (λ t. t.mark) (cond b (Some x) (find (λ t. t.address == s.address) xs))) (eq-eqb x.address s.address (ap (λ t. t.address) is))
      ∙ ap (λ t. t.mark) is
  | inr later ↦
      let above = rises_above x xs rises s later in
      ap (λ b. option_and_then (λ t. t.mark) (cond b (Some x) (find (λ t. t.address == s.address) xs))) (ne_eqb x.address s.address (λ same. omega (arith, same, above)))
      ∙ mark_of_slot xs (rises_tail x xs rises) s later
]

pub marked_slot : (xs : List Slot) (a : ℕ) → is_some (mark_at xs a) ≡ true → IsMarkedAt xs a
marked_slot [] a h = absurd (false≢true h)
marked_slot (x ∷ xs) a h = elim (cases_Bool (x.address == a)) [
  | inl equal ↦ (x, contains_head x xs, eqb-true x.address a equal, sym (ap (λ b. is_some (option_and_then (λ s. s.mark) (cond b (Some x) (find (λ s. s.address == a) xs)))) equal) ∙ h)
  | inr other ↦
      let found = marked_slot xs a (sym (ap (λ b. is_some (option_and_then (λ s. s.mark) (cond b (Some x) (find (λ s. s.address == a) xs)))) other) ∙ h) in
      (found.0, contains_tail x found.0 xs found.1, found.2, found.3)
]

pub slot_marked : (xs : List Slot) → Rises xs → (a : ℕ) → IsMarkedAt xs a → is_some (mark_at xs a) ≡ true
slot_marked xs rises a at = ap (λ x. is_some (mark_at xs x)) (sym at.2) ∙ ap is_some (mark_of_slot xs rises at.0 at.1) ∙ at.3

pub remarked_same : (marks : ℕ → Option Mark) (xs : List Slot) → ((s : Slot) → Contains xs s → marks s.address ≡ s.mark) → xs ≡ map (remarked marks) xs
remarked_same marks [] same = refl
remarked_same marks (x ∷ xs) same =
    ap (λ mark. with_mark mark x ∷ xs) (sym (same x (contains_head x xs)))
    ∙ ap (λ ys. remarked marks x ∷ ys) (remarked_same marks xs (λ s there. same s (contains_tail x s xs there)))

-- ---- unmarked blocks

one_of : Bool → ℕ
one_of b = cond b 1 0

pub count_cons : {X : Type 0} (p : X → Bool) (x : X) (xs : List X) → count_by p (x ∷ xs) ≡ cond (p x) 1 0 + count_by p xs
count_cons p x xs = sum_by-cons (λ y. cond (p y) 1 0) x xs

one_le : (b c : Bool) → (c ≡ true → b ≡ true) → cond {A = ℕ} c 1 0 ≤ cond b 1 0
one_le true true more = omega arith
one_le true false more = omega arith
one_le false false more = omega arith
one_le false true more = absurd (false≢true (more refl))

pub count_le : {X : Type 0} (p q : X → Bool) (xs : List X) → ((x : X) → q x ≡ true → p x ≡ true) → count_by q xs ≤ count_by p xs
count_le p q [] more = omega arith
count_le p q (x ∷ xs) more =
    let here = one_le (p x) (q x) (more x) in
    let rest = count_le p q xs more in
    let a = count_cons p x xs in
    let b = count_cons q x xs in
    omega (arith, here, rest, a, b)

pub count_lt : {X : Type 0} (p q : X → Bool) (xs : List X) (x : X) → ((x : X) → q x ≡ true → p x ≡ true) → Contains xs x → q x ≡ false → p x ≡ true
    → count_by q xs + 1 ≤ count_by p xs
count_lt p q [] x more there out within = contains_none x there
count_lt p q (y ∷ ys) x more there out within =
    let a = count_cons p y ys in
    let b = count_cons q y ys in
    elim (contains_cases y x ys there) [
      | inl is ↦
          let rest = count_le p q ys more in
          let here : cond {A = ℕ} (q y) 1 0 ≡ 0 = ap (λ z. cond {A = ℕ} (q z) 1 0) is ∙ ap (λ b. cond {A = ℕ} b 1 0) out in
          let was : cond {A = ℕ} (p y) 1 0 ≡ 1 = ap (λ z. cond {A = ℕ} (p z) 1 0) is ∙ ap (λ b. cond {A = ℕ} b 1 0) within in
          omega (arith, rest, here, was, a, b)
      | inr later ↦
          let here = one_le (p y) (q y) (more y) in
          let rest = count_lt p q ys x more later out within in
          omega (arith, here, rest, a, b)
    ]

abbrev pub is_free : (ℕ → Option Mark) → Slot → Bool
is_free marks s = is_none (marks s.address)

pub count_remarked : (marks : ℕ → Option Mark) (xs : List Slot) → count_by is_unmarked (map (remarked marks) xs) ≡ count_by (is_free marks) xs
count_remarked marks [] = refl
count_remarked marks (x ∷ xs) =
    count_cons is_unmarked (remarked marks x) (map (remarked marks) xs)
    ∙ ap (λ n. cond (is_none (marks x.address)) 1 0 + n) (count_remarked marks xs)
    ∙ sym (count_cons (is_free marks) x xs)

-- ---- the next block that is left to a pass

-- what is found above an address
pub record IsFound (marks : ℕ → Option Mark) (xs : List Slot) (after address walk count : ℕ) : Type 0 where
  pub starts : StartsSome xs address
  pub above : after < address
  pub mark : marks address ≡ Some (record { walk = walk; count = count; pending = true })
  pub first : (a : ℕ) → StartsSome xs a → after < a → has_pending (marks a) ≡ true → (address ≡ a) ⊎ (address < a)

-- no block above the address is left to a pass
abbrev pub IsDone : (ℕ → Option Mark) → List Slot → ℕ → Type 0
IsDone marks xs after = (a : ℕ) → StartsSome xs a → after < a → has_pending (marks a) ≡ true → ⊥

abbrev IsOutcome : (ℕ → Option Mark) → List Slot → ℕ → Option (ℕ × ℕ × ℕ) → Type 0
IsOutcome marks xs after None = IsDone marks xs after
IsOutcome marks xs after (Some found) = IsFound marks xs after found.0 found.1 found.2

abbrev told : Slot → Option Mark → Option (ℕ × ℕ × ℕ)
told s mark = option_map {U = ℕ × ℕ × ℕ} (λ m. (s.address, m.walk, m.count)) mark

pending_told : (s : Slot) (mark : Option Mark) → has_pending mark ≡ true
    → (m : Mark) × (mark ≡ Some (record { walk = m.walk; count = m.count; pending = true })) × (told s mark ≡ told s (Some m))
pending_told s None h = absurd (false≢true h)
pending_told s (Some m) h = (m, ap (λ b. Some (record { walk = m.walk; count = m.count; pending = b })) h, refl)

outcome_here : (marks : ℕ → Option Mark) (x : Slot) (xs : List Slot) (after : ℕ) → Rises (x ∷ xs) → after < x.address → has_pending (marks x.address) ≡ true
    → IsOutcome marks (x ∷ xs) after (told_of (Some (remarked marks x)))
outcome_here marks x xs after rises above pending =
    let m = pending_told x (marks x.address) pending in
    subst (IsOutcome marks (x ∷ xs) after) (sym m.2) (record {
      starts = starts_head x xs;
      above = above;
      mark = m.1;
      first = λ a start higher p. elim (starts_cases x xs a start) [
        | inl is ↦ inl is
        | inr later ↦ let more = rises_above x xs rises later.0 later.1 in inr (omega (arith, more, later.2))
      ];
    })

outcome_later : (marks : ℕ → Option Mark) (x : Slot) (xs : List Slot) (after : ℕ) (o : Option (ℕ × ℕ × ℕ)) → (after < x.address → has_pending (marks x.address) ≡ true → ⊥)
    → IsOutcome marks xs after o → IsOutcome marks (x ∷ xs) after o
outcome_later marks x xs after None not h = λ a start above pending. elim (starts_cases x xs a start) [
  | inl is ↦ not (omega (arith, is, above)) (ap (λ b. has_pending (marks b)) is ∙ pending)
  | inr later ↦ h a later above pending
]
outcome_later marks x xs after (Some found) not h = record {
  starts = starts_tail x xs found.0 h.starts;
  above = h.above;
  mark = h.mark;
  first = λ a start above pending. elim (starts_cases x xs a start) [
    | inl is ↦ absurd (not (omega (arith, is, above)) (ap (λ b. has_pending (marks b)) is ∙ pending))
    | inr later ↦ h.first a later above pending
  ];
}

outcome : (marks : ℕ → Option Mark) (xs : List Slot) (after : ℕ) → Rises xs → IsOutcome marks xs after (told_of (next_slot is_pending (map (remarked marks) xs) after))
outcome marks [] after rises = λ a start above pending. contains_none start.0 start.1
outcome marks (x ∷ xs) after rises =
    let rest : Option Slot = next_slot is_pending (map (remarked marks) xs) after in
    let whole : Bool → Type 0 = λ b. IsOutcome marks (x ∷ xs) after (told_of (cond b (Some (remarked marks x)) rest)) in
    let later = outcome marks xs after (rises_tail x xs rises) in
    elim (cases_lt after x.address) [
      | inl above ↦ elim (cases_Bool (has_pending (marks x.address))) [
        | inl pending ↦ subst whole (sym (and_from (nat_lt after x.address) (has_pending (marks x.address)) (lt-ltb after x.address above) pending)) (outcome_here marks x xs after rises above pending)
        | inr not ↦ subst whole (sym (and_right (nat_lt after x.address) (has_pending (marks x.address)) not)) (outcome_later marks x xs after (told_of rest) (λ _ p. false≢true (sym not ∙ p)) later)
      ]
      | inr below ↦ subst whole (sym (and_left (nat_lt after x.address) (has_pending (marks x.address)) (le-ltb after x.address below))) (outcome_later marks x xs after (told_of rest) (λ h _. omega (arith, h, below)) later)
    ]

pub found_next : (marks : ℕ → Option Mark) (xs : List Slot) (after address walk count : ℕ) → Rises xs
    → Some (address, walk, count) ≡ told_of (next_slot is_pending (map (remarked marks) xs) after) → IsFound marks xs after address walk count
found_next marks xs after address walk count rises is = subst (IsOutcome marks xs after) (sym is) (outcome marks xs after rises)

pub none_next : (marks : ℕ → Option Mark) (xs : List Slot) (after : ℕ) → Rises xs → None ≡ told_of (next_slot is_pending (map (remarked marks) xs) after) → IsDone marks xs after
none_next marks xs after rises is = subst (IsOutcome marks xs after) (sym is) (outcome marks xs after rises)

-- ---- the blocks above an address

pub count_above : (marks : ℕ → Option Mark) (xs : List Slot) (after : ℕ) → count_by (λ s. nat_lt after s.address) (map (remarked marks) xs) ≡ count_by (λ s. nat_lt after s.address) xs
count_above marks [] after = refl
count_above marks (x ∷ xs) after =
    count_cons (λ s. nat_lt after s.address) (remarked marks x) (map (remarked marks) xs)
    ∙ ap (λ n. cond (nat_lt after x.address) 1 0 + n) (count_above marks xs after)
    ∙ sym (count_cons (λ s. nat_lt after s.address) x xs)

pub count_above_less : (xs : List Slot) (after addr : ℕ) → after < addr → StartsSome xs addr → count_by (λ s. nat_lt addr s.address) xs + 1 ≤ count_by (λ s. nat_lt after s.address) xs
count_above_less xs after addr above start =
    count_lt (λ s. nat_lt after s.address) (λ s. nat_lt addr s.address) xs start.0
    (λ s h. let more = ltb-true addr s.address h in lt-ltb after s.address (omega (arith, more, above)))
    start.1
    (le-ltb addr start.0.address (omega (arith, start.2)))
    (lt-ltb after start.0.address (omega (arith, start.2, above)))
