-- What becomes of a block for which the stack has no room.
use Rattle.std.proofs.Common.{◌≡◌, ℕ, ◌⊎◌, ◌==◌, Bool, true, false, cond, Option, Some, None, is_some, refl, sym, ap, subst, ◌∙◌, inl, inr, arith}
use Rattle.std.specs.Prelude.{IsTrue, max, option_map}
use Rattle.std.proofs.Math.Nat.{le-max_left, le-max_right, min-le_left, min-le_right}
use Rattle.std.proofs.lemmas.Bool.{cases_lt, false≢true, le-ltb, lt-ltb}
use Rattle.gt_entries.specs.declared.marks.Mark.{Mark}
use Rattle.gt_pages.specs.Slots.{Slot, StartsSome, new_mark, postponed, with_mark, with_mark_at}
use Rattle.gt_pages.specs.Contents.{Contents, with_slots}
use Rattle.gt_walk.specs.Rows.{Edge}
use Rattle.gt_mark.specs.declared.spans.Pass.{Pass}
use Rattle.gt_mark.specs.declared.spans.Span.{Span}
use Rattle.gt_mark.specs.Steps.{State, IsAhead, IsLeft, lost_in, marked_pages, place_of, postponed_pages, span_with}
use Rattle.gt_mark.proofs.Remarked.{contains_map, marked_twice}
use Rattle.gt_mark.proofs.Crowds.{addr_with, mark_at_same}

-- ---- its mark

-- the mark that an edge gives its target, by whether this is left to a pass
abbrev pub mark_as : Edge → Bool → Mark
mark_as e pending = record { walk = e.walk; count = e.count; pending = pending }

-- the pages with the target marked so
abbrev pub marked_as : Contents → Edge → Bool → Contents
marked_as pages e pending = with_slots pages (with_mark_at pages.slots e.target (Some (mark_as e pending)))

-- a block starts where it did before it was marked, or was marked already
pub starts_after : (pages new : Contents) (x : ℕ) (k : Option Mark) (fresh : Bool) → (IsTrue fresh → new ≡ with_slots pages (with_mark_at pages.slots x k)) → (fresh ≡ false → new ≡ pages)
    → StartsSome pages.slots x → StartsSome new.slots x
starts_after pages new x k true marked unchanged start =
    let s : Slot = start.0 in
    subst (λ c. StartsSome c.slots x) (sym (marked refl))
    (cond (s.address == x) (with_mark k s) s, contains_map (λ s. cond (s.address == x) (with_mark k s) s) pages.slots s start.1, addr_with (s.address == x) k s ∙ start.2)
starts_after pages new x k false marked unchanged start = subst (λ c. StartsSome c.slots x) (sym (unchanged refl)) start

-- a block that is marked and then left to a pass
pub postponed_marked : (pages : Contents) (e : Edge) → StartsSome pages.slots e.target → postponed_pages (marked_pages pages e) e.target ≡ marked_as pages e true
postponed_marked pages e start =
    ap (λ m. with_slots pages (with_mark_at (marked_pages pages e).slots e.target (postponed m))) (mark_at_same pages.slots e.target (Some (new_mark e.walk e.count)) start)
    ∙ ap (with_slots pages) (marked_twice pages.slots e.target (Some (new_mark e.walk e.count)) (Some (mark_as e true)))

-- ---- where it is left

-- the state but for what is left to passes is as it was, and the block is left to one
pub record Loses (old : State) (address : ℕ) (new : State) : Type 0 where
  pub rest : new ≡ record old { lost = new.lost; pass = new.pass }
  pub keeps_left : (a : ℕ) → IsLeft old.lost a → IsLeft new.lost a
  pub keeps_ahead : (a : ℕ) → IsAhead old.pass a → IsAhead new.pass a
  pub there : IsLeft new.lost address ⊎ IsAhead new.pass address
  pub stands : place_of new ≡ place_of old
  pub over : is_some old.lost ≡ true → is_some new.lost ≡ true
  pub first : old.pass ≡ None → (new.pass ≡ None) × (is_some new.lost ≡ true)

span_keeps : (o : Option Span) (address a : ℕ) → IsLeft o a → IsLeft (Some (span_with o address)) a
span_keeps None address a h = absurd h
span_keeps (Some s) address a h = let low = h.0 in let high = h.1 in let least = min-le_left s.first address in let most = le-max_left s.last address in (omega (arith, low, least), omega (arith, high, most))

span_has : (o : Option Span) (address : ℕ) → IsLeft (Some (span_with o address)) address
span_has None address = (omega arith, omega arith)
span_has (Some s) address = (min-le_right s.first address, le-max_right s.last address)

loses_next : (st : State) (address : ℕ) → (st.pass ≡ None → (st.pass ≡ None) × (true ≡ true)) → Loses st address (record st { lost = Some (span_with st.lost address) })
loses_next st address first = record {
  rest = refl;
  keeps_left = λ a h. span_keeps st.lost address a h;
  keeps_ahead = λ a h. h;
  there = inl (span_has st.lost address);
  stands = refl;
  over = λ _. refl;
  first = first;
}

loses_in : (o : Option Pass) (st : State) (address : ℕ) → st.pass ≡ o → Loses st address (lost_in o st address)
loses_in None st address is = loses_next st address (λ none. (none, refl))
loses_in (Some p) st address is =
    let here : State = record st { pass = Some (record { at = p.at; last = max p.last address }) } in
    let later : State = record st { lost = Some (span_with st.lost address) } in
    let whole : Bool → Type 0 = λ b. Loses st address (cond b here later) in
    elim (cases_lt p.at address) [
      | inl above ↦ subst whole (sym (lt-ltb p.at address above)) (record {
        rest = refl;
        keeps_left = λ a h. h;
        keeps_ahead = λ a h. let in-p = subst (λ o. IsAhead o a) is h in let high = in-p.1 in let most = le-max_left p.last address in (in-p.0, omega (arith, high, most));
        there = inr (above, le-max_right p.last address);
        stands = ap (λ o. option_map (λ q. q.at) o) (sym is);
        over = λ h. h;
        first = λ none. absurd (false≢true (ap is_some (sym none ∙ is)));
      })
      | inr below ↦ subst whole (sym (le-ltb p.at address below)) (loses_next st address (λ none. (none, refl)))
    ]

pub loses : (st : State) (address : ℕ) → Loses st address (lost_in st.pass st address)
loses st address = loses_in st.pass st address refl
