-- A sound draft has one settlement.
use Rattle.std.proofs.Common.{◌≡◌, ◌∙◌, ◌⊎◌, inl, inr, ℕ, zero, suc, ◌≤◌, ◌<◌, Bool, true, false, List, Option, Some, None, refl, sym, ap, subst, arith}
use Rattle.std.specs.Prelude.{IsTrue, Contains, length}
use Rattle.std.proofs.lemmas.Bool.Decides.{nat_tests}
use Rattle.std.proofs.lemmas.Option.{none-some, same_Some}
use Rattle.std.proofs.lemmas.List.Elements.{All-contains}
use Rattle.gt_types.specs.declared.faults.Fault.{Fault}
use Rattle.gt_types.specs.declared.program.Program.{Program}
use Rattle.gt_drafts.specs.declared.draft.Draft.{Draft}
use Rattle.gt_drafts.specs.FirstFaults.{IsFirstOf, is_no_later}
use Rattle.gt_markers.specs.MarkerFaults.{draft_faults}
use Rattle.gt_markers.specs.Sound.{IsSound}
use Rattle.gt_declare.specs.Programs.{IsMadeOf}
use Rattle.gt_declare.proofs.Wholes.{one_program}
use Rattle.gt_rules.specs.Faults.{Declares, HasFault, HasProgramFault, IsFirstFault}
use Rattle.gt_rules.specs.Firsts.{IsFirstProgramFault}
use Rattle.gt_rules.specs.Parts.{IsFirstWith}
use Rattle.gt_rules.proofs.FirstLemmas.{trans_no_later}
use Rattle.gt_options.specs.declared.settling.Settlement.{Settlement}
use Rattle.gt_options.specs.declared.settling.Settlement.TheVariants as to
use Rattle.gt_options.specs.Settlements.{IsSettlement}

-- ---- the earlier of the first of the draft's faults and the first of the program's

-- the first of some faults, or none
record IsFirstIn (faults : Fault → Type 0) (first : Option Fault) : Type 0 where
  there : (f : Fault) → first ≡ Some f → faults f
  least : (f : Fault) → faults f → (g : Fault) × (first ≡ Some g) × IsTrue (is_no_later g f)

in_draft : (faults : List Fault) (first : Option Fault) → IsFirstOf faults first → IsFirstIn (Contains faults) first
in_draft faults None none = record {
  there = λ f is. absurd (none-some f is);
  least = λ f there. absurd (none_there f there);
}
  where
    none_there : (f : Fault) → Contains faults f → ⊥
    none_there f there = let inside = there.1 in let empty = ap length none in omega (arith, inside, empty)
in_draft faults (Some g) by = record {
  there = λ f is. subst (Contains faults) (same_Some g f is) by.there;
  least = λ f there. (g, refl, All-contains (λ other. IsTrue (is_no_later g other)) faults f by.first there);
}

in_program : (draft : Draft) (program : Program) (first : Option Fault) → IsFirstProgramFault draft program first → IsFirstIn (HasProgramFault draft program) first
in_program draft program None none = record {
  there = λ f is. absurd (none-some f is);
  least = λ f has. absurd (none f has);
}
in_program draft program (Some g) by = record {
  there = λ f is. subst (HasProgramFault draft program) (same_Some g f is) by.0;
  least = λ f has. (g, refl, by.1 f has);
}

module _ (draft : Draft) (program : Program) (by_draft by_program : Option Fault) (drafted : IsFirstIn (Contains (draft_faults draft)) by_draft)
    (told : IsFirstIn (HasProgramFault draft program) by_program) where
  there_of : (f : Fault) → (by_draft ≡ Some f) ⊎ (by_program ≡ Some f) → HasFault draft program f
  there_of f (inl is) = inl (drafted.there f is)
  there_of f (inr is) = inr (told.there f is)

  least_of : (first : Option Fault) → IsFirstWith by_draft (λ f. by_program ≡ Some f) first → (f : Fault) → HasFault draft program f
      → (g : Fault) × (first ≡ Some g) × IsTrue (is_no_later g f)
  least_of first by f (inl there) =
      let a = drafted.least f there in let b = by.least a.0 (inl a.1) in (b.0, b.1, trans_no_later b.0 a.0 f b.2 a.2)
  least_of first by f (inr has) =
      let a = told.least f has in let b = by.least a.0 (inr a.1) in (b.0, b.1, trans_no_later b.0 a.0 f b.2 a.2)

  in_both : (first : Option Fault) → IsFirstWith by_draft (λ f. by_program ≡ Some f) first → IsFirstIn (HasFault draft program) first
  in_both first by = record { there = λ f is. there_of f (by.there f is); least = λ f has. least_of first by f has }

no_fault : (draft : Draft) (program : Program) (first : Option Fault) → first ≡ None → IsFirstIn (HasFault draft program) first → (f : Fault) → HasFault draft program f → ⊥
no_fault draft program first none by f has = let a = by.least f has in none-some a.0 (sym none ∙ a.1)

-- without a fault the draft declares the program
pub declares : (draft : Draft) (program : Program) (by_draft by_program first : Option Fault) → IsMadeOf draft program → IsFirstOf (draft_faults draft) by_draft
    → IsFirstProgramFault draft program by_program → IsFirstWith by_draft (λ f. by_program ≡ Some f) first → first ≡ None → Declares draft program
declares draft program by_draft by_program first made drafted told by none = record {
  made = made;
  faultless =
      no_fault draft program first none
      (in_both draft program by_draft by_program (in_draft (draft_faults draft) by_draft drafted) (in_program draft program by_program told) first by);
}

-- the earlier of the two is the first fault
pub first_fault : (draft : Draft) (program : Program) (by_draft by_program first : Option Fault) (f : Fault) → IsMadeOf draft program → IsFirstOf (draft_faults draft) by_draft
    → IsFirstProgramFault draft program by_program → IsFirstWith by_draft (λ f. by_program ≡ Some f) first → first ≡ Some f → IsFirstFault draft f
first_fault draft program by_draft by_program first f made drafted told by is =
    let both = in_both draft program by_draft by_program (in_draft (draft_faults draft) by_draft drafted) (in_program draft program by_program told) first by in
    record {
      program = program;
      made = made;
      there = both.there f is;
      first = λ other has.
          let a = both.least other has in
          subst (λ (x : Fault). IsTrue (is_no_later x other)) (same_Some a.0 f (sym a.1 ∙ is)) a.2;
    }

-- ---- never two

-- two programs of a sound draft are one
same_made : (draft : Draft) (program other : Program) → IsSound draft → IsMadeOf draft program → IsMadeOf draft other → program ≡ other
same_made draft program other sound made also = let one = one_program draft sound in one.only program made ∙ sym (one.only other also)

pub not_both : (draft : Draft) (program : Program) (fault : Fault) → IsSound draft → Declares draft program → IsFirstFault draft fault → ⊥
not_both draft program fault sound declares first =
    declares.faultless fault (subst (λ (p : Program). HasFault draft p fault) (same_made draft first.program program sound first.made declares.made) first.there)

-- no fault is earlier than another that is no later
same_places : (a b : Fault) → IsTrue (is_no_later a b) → IsTrue (is_no_later b a) → (a.number ≡ b.number) × (a.file ≡ b.file) × (a.at ≡ b.at)
same_places a b h k = (grind (arith, nat_tests), grind (arith, nat_tests), grind (arith, nat_tests))

same_fault : (a b : Fault) → (a.number ≡ b.number) × (a.file ≡ b.file) × (a.at ≡ b.at) → a ≡ b
same_fault a b same =
    ap (λ (n : ℕ). let f : Fault = record { number = n; file = a.file; at = a.at } in f) same.0
    ∙ ap (λ (n : ℕ). let f : Fault = record { number = b.number; file = n; at = a.at } in f) same.1
    ∙ ap (λ (n : ℕ). let f : Fault = record { number = b.number; file = b.file; at = n } in f) same.2

one_first : (draft : Draft) (fault other : Fault) → IsSound draft → IsFirstFault draft fault → IsFirstFault draft other → fault ≡ other
one_first draft fault other sound first also =
    let same = same_made draft first.program also.program sound first.made also.made in
    same_fault fault other
    (same_places fault other (first.first other (subst (λ (p : Program). HasFault draft p other) (sym same) also.there))
    (also.first fault (subst (λ (p : Program). HasFault draft p fault) same first.there)))

pub not_two : (draft : Draft) (settlement other : Settlement) → IsSound draft → IsSettlement draft settlement → IsSettlement draft other → settlement ≡ other
not_two draft (to.Program p) (to.Program q) sound is also = ap to.Program (same_made draft p q sound is.made also.made)
not_two draft (to.Program p) (to.Fault f) sound is also = absurd (not_both draft p f sound is also)
not_two draft (to.Fault f) (to.Program p) sound is also = absurd (not_both draft p f sound also is)
not_two draft (to.Fault f) (to.Fault g) sound is also = ap to.Fault (one_first draft f g sound is also)

-- ---- never none

earlier_place : (a b : Fault) → is_no_later a b ≡ false
    → (b.file < a.file) ⊎ ((b.file ≡ a.file) × ((b.at < a.at) ⊎ ((b.at ≡ a.at) × (b.number < a.number))))
earlier_place a b h = grind (arith, nat_tests)

-- where none of some faults is the first, there are none: by files, then by places, then by numbers
module _ (P : Fault → Type 0) (none : (f : Fault) → P f → ¬ ((other : Fault) → P other → IsTrue (is_no_later f other))) where
  abbrev InNone : ℕ → Type 0
  InNone n = (f : Fault) → f.file < n → P f → ⊥

  abbrev AtNone : ℕ → ℕ → Type 0
  AtNone n m = (f : Fault) → f.file ≤ n → f.at < m → P f → ⊥

  no_later_or : (f other : Fault) (b : Bool) → is_no_later f other ≡ b → (is_no_later f other ≡ false → ⊥) → IsTrue (is_no_later f other)
  no_later_or f other true is not_earlier = is
  no_later_or f other false is not_earlier = absurd (not_earlier is)

  -- none is before a fault, where none has a lower number at its place
  not_before : (n m k : ℕ) → InNone n → AtNone n m → (f : Fault) → f.file ≤ n → f.at ≤ m → f.number < suc k
      → ((other : Fault) → other.file ≤ n → other.at ≤ m → other.number < k → P other → ⊥) → (other : Fault) → P other
      → (other.file < f.file) ⊎ ((other.file ≡ f.file) × ((other.at < f.at) ⊎ ((other.at ≡ f.at) × (other.number < f.number)))) → ⊥
  not_before n m k files places f file at less lower other q (inl before) = files other (omega (arith, before, file)) q
  not_before n m k files places f file at less lower other q (inr (same, inl before)) = places other (omega (arith, same, file)) (omega (arith, before, at)) q
  not_before n m k files places f file at less lower other q (inr (same, inr (here, fewer))) =
      lower other (omega (arith, same, file)) (omega (arith, here, at)) (omega (arith, fewer, less)) q

  by_number : (n m k : ℕ) → InNone n → AtNone n m → (f : Fault) → f.file ≤ n → f.at ≤ m → f.number < k → P f → ⊥
  by_number n m zero files places f file at less p = omega (arith, less)
  by_number n m (suc k) files places f file at less p =
      none f p
      (λ other q. no_later_or f other (is_no_later f other) refl
      (λ late. not_before n m k files places f file at less (by_number n m k files places) other q (earlier_place f other late)))

  by_place : (n m : ℕ) → InNone n → AtNone n m
  by_place n zero files f file less p = omega (arith, less)
  by_place n (suc m) files f file less p = by_number n m (suc f.number) files (by_place n m files) f file (omega (arith, less)) (omega arith) p

  by_file : (n : ℕ) → InNone n
  by_file zero f less p = omega (arith, less)
  by_file (suc n) f less p = by_place n (suc f.at) (by_file n) f (omega (arith, less)) (omega arith) p

  no_faults : (f : Fault) → P f → ⊥
  no_faults f p = by_file (suc f.file) f (omega arith) p

-- it cannot be that a sound draft has no settlement
pub one : (draft : Draft) → IsSound draft → ¬ ((settlement : Settlement) → ¬ IsSettlement draft settlement)
one draft sound none =
    let made = one_program draft sound in
    none (to.Program made.program) (record {
      made = made.made;
      faultless =
          no_faults (HasFault draft made.program)
          (λ f has all. none (to.Fault f) (record { program = made.program; made = made.made; there = has; first = all }));
    })
