-- The marked blocks of a heap, one after another.
use Rattle.std.proofs.Common.{◌≡◌, ℕ, ◌<◌, ◌≤◌, ◌⊎◌, Bool, true, cond, List, [], ◌∷◌, Option, Some, None, is_some, refl, sym, ap, subst, ◌∙◌, inl, inr, arith}
use Rattle.std.specs.Prelude.{Contains, nat_lt, option_map}
use Rattle.std.proofs.lemmas.Bool.{cases_Bool, cases_lt, false≢true, and_left, and_right, and_from, lt-ltb, le-ltb}
use Rattle.gt_entries.specs.declared.marks.Mark.{Mark}
use Rattle.gt_pages.specs.Slots.{Slot, is_marked, mark_at, next_slot, told_of}
use Rattle.gt_pages.specs.Contents.{Rises}
use Rattle.gt_mark.specs.Reached.{IsMarkedAt}
use Rattle.gt_mark.proofs.Remarked.{contains_cases, contains_head, contains_none, contains_tail, mark_of_slot, marked_slot, rises_above, rises_tail}

-- the next marked block above an address
pub record IsNext (slots : List Slot) (after address w n : ℕ) : Type 0 where
  pub mark : Mark
  pub slot : (s : Slot) × Contains slots s × (s.address ≡ address) × (s.mark ≡ Some mark)
  pub walk : mark.walk ≡ w
  pub count : mark.count ≡ n
  pub above : after < address
  pub first : (a : ℕ) → IsMarkedAt slots a → after < a → (a ≡ address) ⊎ (address < a)

abbrev IsOutcome : List Slot → ℕ → Option (ℕ × ℕ × ℕ) → Type 0
IsOutcome slots after None = (a : ℕ) → IsMarkedAt slots a → after < a → ⊥
IsOutcome slots after (Some found) = IsNext slots after found.0 found.1 found.2

abbrev told : Slot → Option Mark → Option (ℕ × ℕ × ℕ)
told s mark = option_map {U = ℕ × ℕ × ℕ} (λ m. (s.address, m.walk, m.count)) mark

outcome_here : (x : Slot) (xs : List Slot) (after : ℕ) (mark : Option Mark) → x.mark ≡ mark → Rises (x ∷ xs) → after < x.address → is_some mark ≡ true → IsOutcome (x ∷ xs) after (told x mark)
outcome_here x xs after None is rises above some = absurd (false≢true some)
outcome_here x xs after (Some m) is rises above some = record {
  mark = m;
  slot = (x, contains_head x xs, refl, is);
  walk = refl;
  count = refl;
  above = above;
  first = λ a at higher. elim (contains_cases x at.0 xs at.1) [
    | inl same ↦ inl (sym at.2 ∙ ap (λ s. s.address) (sym same))
    | inr later ↦ let more = rises_above x xs rises at.0 later in inr (omega (arith, more, at.2))
  ];
}

outcome_later : (x : Slot) (xs : List Slot) (after : ℕ) (o : Option (ℕ × ℕ × ℕ)) → (after < x.address → is_marked x ≡ true → ⊥) → IsOutcome xs after o → IsOutcome (x ∷ xs) after o
outcome_later x xs after None not h = λ a at above. elim (contains_cases x at.0 xs at.1) [
  | inl same ↦ not (omega (arith, ap (λ s. s.address) same, at.2, above)) (ap is_marked same ∙ at.3)
  | inr later ↦ h a (at.0, later, at.2, at.3) above
]
outcome_later x xs after (Some found) not h = record {
  mark = h.mark;
  slot = (h.slot.0, contains_tail x h.slot.0 xs h.slot.1, h.slot.2, h.slot.3);
  walk = h.walk;
  count = h.count;
  above = h.above;
  first = λ a at above. elim (contains_cases x at.0 xs at.1) [
    | inl same ↦ absurd (not (omega (arith, ap (λ s. s.address) same, at.2, above)) (ap is_marked same ∙ at.3))
    | inr later ↦ h.first a (at.0, later, at.2, at.3) above
  ];
}

outcome : (xs : List Slot) (after : ℕ) → Rises xs → IsOutcome xs after (told_of (next_slot is_marked xs after))
outcome [] after rises = λ a at above. contains_none at.0 at.1
outcome (x ∷ xs) after rises =
    let rest : Option Slot = next_slot is_marked xs after in
    let whole : Bool → Type 0 = λ b. IsOutcome (x ∷ xs) after (told_of (cond b (Some x) rest)) in
    let later = outcome xs after (rises_tail x xs rises) in
    elim (cases_lt after x.address) [
      | inl above ↦ elim (cases_Bool (is_marked x)) [
        | inl marked ↦ subst whole (sym (and_from (nat_lt after x.address) (is_marked x) (lt-ltb after x.address above) marked)) (outcome_here x xs after x.mark refl rises above marked)
        | inr not ↦ subst whole (sym (and_right (nat_lt after x.address) (is_marked x) not)) (outcome_later x xs after (told_of rest) (λ _ p. false≢true (sym not ∙ p)) later)
      ]
      | inr below ↦ subst whole (sym (and_left (nat_lt after x.address) (is_marked x) (le-ltb after x.address below))) (outcome_later x xs after (told_of rest) (λ h _. omega (arith, h, below)) later)
    ]

pub next_is : (slots : List Slot) (after address walk count : ℕ) → Rises slots → Some (address, walk, count) ≡ told_of (next_slot is_marked slots after) → IsNext slots after address walk count
next_is slots after address walk count rises is = subst (IsOutcome slots after) (sym is) (outcome slots after rises)

pub none_is : (slots : List Slot) (after : ℕ) → Rises slots → None ≡ told_of (next_slot is_marked slots after) → (a : ℕ) → IsMarkedAt slots a → after < a → ⊥
none_is slots after rises is = subst (IsOutcome slots after) (sym is) (outcome slots after rises)

-- what was found of the marks up to an address
pub record AreUpTo (P : ℕ → ℕ → ℕ → Type 0) (slots : List Slot) (after : ℕ) : Type 0 where
  pub each : (a : ℕ) (m : Mark) → mark_at slots a ≡ Some m → a ≤ after → P a m.walk m.count

module _ (P : ℕ → ℕ → ℕ → Type 0) (slots : List Slot) (rises : Rises slots) where
  marked_is : (a : ℕ) (m : Mark) → mark_at slots a ≡ Some m → IsMarkedAt slots a
  marked_is a m is = marked_slot slots a (ap is_some is)

  pub up_to_start : ((s : Slot) → Contains slots s → 0 < s.address) → AreUpTo P slots 0
  up_to_start positive = record {
    each = λ a m is low.
        let at = marked_is a m is in
        let some = positive at.0 at.1 in
        absurd (let no : 1 ≤ 0 = omega (arith, some, low, at.2) in omega (arith, no));
  }

  same_mark : (a : ℕ) (m k : Mark) → mark_at slots a ≡ Some m → (s : Slot) × Contains slots s × (s.address ≡ a) × (s.mark ≡ Some k) → m ≡ k
  same_mark a m k is slot =
      ap (λ o. mark_or m o) (sym is ∙ sym (ap (mark_at slots) slot.2) ∙ mark_of_slot slots rises slot.0 slot.1 ∙ slot.3)
    where
      mark_or : Mark → Option Mark → Mark
      mark_or d None = d
      mark_or d (Some x) = x

  pub up_to_next : (after address walk count : ℕ) → AreUpTo P slots after → Some (address, walk, count) ≡ told_of (next_slot is_marked slots after) → P address walk count → AreUpTo P slots address
  up_to_next after address walk count before is holds =
      let n = next_is slots after address walk count rises is in
      record {
        each = λ a m mark low. elim (cases_lt after a) [
          | inl above ↦ elim (n.first a (marked_is a m mark) above) [
            | inl same ↦
                let k = same_mark a m n.mark mark (n.slot.0, n.slot.1, n.slot.2 ∙ sym same, n.slot.3) in
                subst (λ w. P a w m.count) (sym (ap (λ x. x.walk) k ∙ n.walk)) (subst (λ w. P a walk w) (sym (ap (λ x. x.count) k ∙ n.count)) (subst (λ x. P x walk count) (sym same) holds))
            | inr higher ↦ absurd (let no : 1 ≤ 0 = omega (arith, low, higher) in omega (arith, no))
          ]
          | inr below ↦ before.each a m mark below
        ];
      }

  pub up_to_end : (after : ℕ) → AreUpTo P slots after → None ≡ told_of (next_slot is_marked slots after) → (a : ℕ) (m : Mark) → mark_at slots a ≡ Some m → P a m.walk m.count
  up_to_end after before is a m mark = elim (cases_lt after a) [
    | inl above ↦ absurd (none_is slots after rises is a (marked_is a m mark) above)
    | inr below ↦ before.each a m mark below
  ]
