-- The block that has a byte, and its mark.
use Rattle.std.proofs.Common.{◌≡◌, ◌≢◌, ℕ, suc, ◌+◌, ◌-◌, ◌*◌, ◌/◌, Bool, true, false, cond, not, List, [], ◌∷◌, length, Option, Some, None, is_some, unwrap_or, refl, sym, ap, subst, ◌∙◌, inl, inr, arith}
use Rattle.std.specs.Prelude.{Contains, IfNone, IfSome, find, is_none, option_map}
use Rattle.std.proofs.lemmas.Bool.{cases_Bool, false≢true}
use Rattle.std.proofs.Math.Nat.{mul-div_right}
use Rattle.gt_entries.specs.declared.marks.Mark.{Mark}
use Rattle.gt_entries.specs.Cells.{Cell, Free, Used, cell_at, is_free, is_marked, mark_in}
use Rattle.gt_pages.specs.declared.store.Entry.{Entry}
use Rattle.gt_pages.specs.declared.parts.EntryPlace.{EntryPlace}
use Rattle.gt_pages.specs.Ledger.{page_address, page_of}
use Rattle.gt_pages.specs.Slots.{Slot, StartsSome, has_byte, mark_at, owner_of, with_mark_at}
use Rattle.gt_pages.specs.Contents.{with_slots}
use Rattle.gt_pages.specs.Spots.{IsSpot, with_mark_spot}
use Rattle.gt_pages.specs.Parts.{IsKept, Parts, contents_of, entry_at}
use Rattle.gt_pages.proofs.WhereLemmas.{block_free, block_used, entry_some, owner_spot, place_ends, used_place}
use Rattle.gt_pages.proofs.MarkLemmas.{mark_spot}
use Rattle.gt_pages.proofs.SetLemmas.{contents_mark, kept_mark}

some_same : {X : Type 0} (x y : X) → Some x ≡ Some y → x ≡ y
some_same x y is = ap (λ o. unwrap_or o x) is

found_there : (test : Slot → Bool) (xs : List Slot) (x : Slot) → find test xs ≡ Some x → Contains xs x
found_there test [] x is = absurd (false≢true (ap is_some is))
found_there test (y ∷ xs) x is = elim (cases_Bool (test y)) [
  | inl here ↦ (0, omega arith, some_same y x (sym (ap (λ b. cond b (Some y) (find test xs)) here) ∙ is))
  | inr not_here ↦
      let rest = found_there test xs x (sym (ap (λ b. cond b (Some y) (find test xs)) not_here) ∙ is) in
      (suc rest.0, omega (arith, rest.1), rest.2)
]

abbrev told : Option Slot → Option (ℕ × ℕ)
told found = option_map (λ s. (s.address, s.size)) found

abbrev start_or : Option (ℕ × ℕ) → ℕ
start_or None = 0
start_or (Some owner) = owner.0

start_of : (o : Option Slot) (start size : ℕ) → told o ≡ Some (start, size) → (s : Slot) × (o ≡ Some s) × (s.address ≡ start)
start_of None start size is = absurd (false≢true (ap is_some is))
start_of (Some s) start size is = (s, refl, ap start_or is)

-- a block starts where the owner of a byte starts
owner_starts : (slots : List Slot) (byte start size : ℕ) → owner_of slots byte ≡ Some (start, size) → StartsSome slots start
owner_starts slots byte start size is =
    let found = start_of (find (has_byte byte) slots) start size is in
    (found.0, found_there (has_byte byte) slots found.0 found.1, found.2)

not_marked : (c : Cell) → not (is_marked c) ≡ is_none (mark_in c)
not_marked Free = refl
not_marked (Used None) = refl
not_marked (Used (Some m)) = refl

-- what holds where the owner of a byte was marked
pub record MarksOwner (p : Parts) (addr : ℕ) (m : Mark) (result : Option Bool) (q : Parts) : Type 0 where
  pub kept : IsKept q
  pub none : owner_of (contents_of p).slots addr ≡ None → result ≡ None
  pub fresh : (start size : ℕ) → owner_of (contents_of p).slots addr ≡ Some (start, size) → result ≡ Some (is_none (mark_at (contents_of p).slots start))
  pub marked : (start size : ℕ) → owner_of (contents_of p).slots addr ≡ Some (start, size) → result ≡ Some true
      → contents_of q ≡ with_slots (contents_of p) (with_mark_at (contents_of p).slots start (Some m))
  pub unchanged : result ≢ Some true → contents_of q ≡ contents_of p

-- where no block has it
pub marks_none : (p : Parts) (addr : ℕ) (m : Mark) → IsKept p → owner_of (contents_of p).slots addr ≡ None → MarksOwner p addr m None p
marks_none p addr m kept none = record {
  kept = kept;
  none = λ _. refl;
  fresh = λ start size is. absurd (false≢true (ap is_some (sym none ∙ is)));
  marked = λ start size is. absurd (false≢true (ap is_some (sym none ∙ is)));
  unchanged = λ _. refl;
}

module _ (p : Parts) (addr : ℕ) (spot : EntryPlace) (kept : IsKept p) (is : IsSpot p addr spot) where
  abbrev entry : Entry
  entry = entry_at p.entries spot.page

  abbrev cell : Cell
  cell = cell_at entry.places spot.place

  module _ (used : is_free cell ≡ false) where
    abbrev start : ℕ
    start = page_address spot.page + entry.size * spot.place

    owner_is : owner_of (contents_of p).slots addr ≡ Some (start, entry.size)
    owner_is = owner_spot p addr spot kept is ∙ block_used (page_address spot.page) entry.size cell spot.place used

    start_is : (other size : ℕ) → owner_of (contents_of p).slots addr ≡ Some (other, size) → start ≡ other
    start_is other size owner = ap start_or (sym owner_is ∙ owner)

    starts : StartsSome (contents_of p).slots start
    starts = owner_starts (contents_of p).slots addr start entry.size owner_is

    start_spot : IsSpot p start spot
    start_spot =
        let in-use = kept.in_use spot.page is.starts in
        let some = entry_some p spot.page kept is.starts in
        let ends = place_ends entry.size (length entry.places) spot.place (used_place entry.places spot.place used) in
        let offset : start - page_address spot.page ≡ entry.size * spot.place = omega arith in
        record {
          starts = is.starts;
          leads = in-use.table (page_of start) (omega arith) (omega (arith, ends, some));
          above = omega arith;
          place = sym (ap (λ n. n / entry.size) offset ∙ mul-div_right spot.place some);
        }

    mark_is : mark_at (contents_of p).slots start ≡ mark_in cell
    mark_is = mark_spot p start kept starts spot start_spot

    marks_used : (m : Mark) (b : Bool) (q : Parts) → b ≡ not (is_marked cell) → IsKept q
        → (b ≡ true → q ≡ with_mark_spot p spot (Some m)) → (b ≢ true → q ≡ p) → MarksOwner p addr m (Some b) q
    marks_used m b q fresh kept-q marked unchanged = record {
      kept = kept-q;
      none = λ none. absurd (false≢true (ap is_some (sym none ∙ owner_is)));
      fresh = λ other size owner.
          ap Some (fresh ∙ not_marked cell ∙ ap is_none (sym mark_is) ∙ ap (λ a. is_none (mark_at (contents_of p).slots a)) (start_is other size owner));
      marked = λ other size owner same.
          ap contents_of (marked (some_same b true same))
          ∙ contents_mark p start spot (Some m) kept start_spot used starts
          ∙ ap (λ a. with_slots (contents_of p) (with_mark_at (contents_of p).slots a (Some m))) (start_is other size owner);
      unchanged = λ apart. ap contents_of (unchanged (λ same. apart (ap Some same)));
    }

    kept_used : (m : Mark) (b : Bool) (q : Parts) → (b ≡ true → q ≡ with_mark_spot p spot (Some m)) → (b ≢ true → q ≡ p) → IsKept q
    kept_used m true q marked unchanged = rw (marked refl) (kept_mark p start spot (Some m) kept start_spot used)
    kept_used m false q marked unchanged = rw (unchanged (λ same. false≢true same)) kept

  -- the block at the place of a spot, or none
  pub marks_owner : (m : Mark) (result : Option Bool) (q : Parts)
      → IfNone result (is_free cell ≡ true) → IfSome result (λ _. is_free cell ≡ false) → IfSome result (λ b. b ≡ not (is_marked cell))
      → (result ≡ Some true → q ≡ with_mark_spot p spot (Some m)) → (result ≢ Some true → q ≡ p) → MarksOwner p addr m result q
  marks_owner m None q free used fresh marked unchanged =
      subst (λ x. MarksOwner p addr m None x) (sym (unchanged (λ same. false≢true (ap is_some same))))
      (marks_none p addr m kept (owner_spot p addr spot kept is ∙ block_free (page_address spot.page) entry.size cell spot.place free))
  marks_owner m (Some b) q free used fresh marked unchanged =
      let hit : b ≡ true → q ≡ with_mark_spot p spot (Some m) = λ same. marked (ap Some same) in
      let miss : b ≢ true → q ≡ p = λ apart. unchanged (λ same. apart (some_same b true same)) in
      marks_used used m b q fresh (kept_used used m b q hit miss) hit miss
