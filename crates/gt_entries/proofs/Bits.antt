-- A place from its bits.
use Rattle.std.proofs.Common.{◌≡◌, ◌+◌, Bool, true, false, cond, not, Some, None, refl, sym}
use Rattle.std.proofs.lemmas.Bool.{false≢true}
use Rattle.gt_entries.specs.declared.marks.Mark.{Mark}
use Rattle.gt_entries.specs.declared.places.Tag.{Tag}
use Rattle.gt_entries.specs.Cells.{is_free, is_lost, is_marked, is_pending, mark_in, postponed, swept, unmarked, walked}
use Rattle.gt_entries.specs.Places.{cell_from}

pub free_bit : (u m q : Bool) (t : Tag) → is_free (cell_from u m q t) ≡ not u
free_bit false m q t = refl
free_bit true false q t = refl
free_bit true true q t = refl

pub used_bit : (u m q : Bool) (t : Tag) → u ≡ not (is_free (cell_from u m q t))
used_bit false m q t = refl
used_bit true false q t = refl
used_bit true true q t = refl

pub marked_bit : (u m q : Bool) (t : Tag) → (m ≡ true → u ≡ true) → is_marked (cell_from u m q t) ≡ m
marked_bit false false q t h = refl
marked_bit false true q t h = absurd (false≢true (h refl))
marked_bit true false q t h = refl
marked_bit true true q t h = refl

pub pending_bit : (u m q : Bool) (t : Tag) → (m ≡ true → u ≡ true) → (q ≡ true → m ≡ true) → is_pending (cell_from u m q t) ≡ q
pending_bit false false false t h k = refl
pending_bit false false true t h k = absurd (false≢true (k refl))
pending_bit false true q t h k = absurd (false≢true (h refl))
pending_bit true false false t h k = refl
pending_bit true false true t h k = absurd (false≢true (k refl))
pending_bit true true q t h k = refl

abbrev pub mark_from : Bool → Tag → Mark
mark_from q t = record { walk = t.walk; count = t.count; pending = q }

pub mark_bit : (u m q : Bool) (t : Tag) → (m ≡ true → u ≡ true) → mark_in (cell_from u m q t) ≡ cond m (Some (mark_from q t)) None
mark_bit false false q t h = refl
mark_bit false true q t h = absurd (false≢true (h refl))
mark_bit true false q t h = refl
mark_bit true true q t h = refl

pub swept_bit : (u m q : Bool) (t : Tag) → (m ≡ true → u ≡ true) → cell_from m m q t ≡ swept (cell_from u m q t)
swept_bit false false q t h = refl
swept_bit false true q t h = absurd (false≢true (h refl))
swept_bit true false q t h = refl
swept_bit true true q t h = refl

pub unmarked_bit : (u m q r : Bool) (t : Tag) → cell_from u false r t ≡ unmarked (cell_from u m q t)
unmarked_bit false m q r t = refl
unmarked_bit true false q r t = refl
unmarked_bit true true q r t = refl

pub postponed_bit : (u m q : Bool) (t : Tag) → cell_from u m true t ≡ postponed (cell_from u m q t)
postponed_bit false m q t = refl
postponed_bit true false q t = refl
postponed_bit true true q t = refl

-- a place without a marked block is as it was
pub postponed_none : (u m q : Bool) (t : Tag) → m ≡ false → postponed (cell_from u m q t) ≡ cell_from u m q t
postponed_none false m q t none = refl
postponed_none true false q t none = refl
postponed_none true true q t none = absurd (false≢true (sym none))

pub walked_bit : (u m q : Bool) (t : Tag) → cell_from u m false t ≡ walked (cell_from u m q t)
walked_bit false m q t = refl
walked_bit true false q t = refl
walked_bit true true q t = refl

-- the places that are free and those that are used are all
pub free_total : (u m q : Bool) (t : Tag) → cond u 1 0 + cond (is_free (cell_from u m q t)) 1 0 ≡ 1
free_total false m q t = refl
free_total true false q t = refl
free_total true true q t = refl

-- the places that are marked and those whose block is lost are those that are used
pub lost_total : (u m q : Bool) (t : Tag) → (m ≡ true → u ≡ true) → cond m 1 0 + cond (is_lost (cell_from u m q t)) 1 0 ≡ cond u 1 0
lost_total false false q t h = refl
lost_total false true q t h = absurd (false≢true (h refl))
lost_total true false q t h = refl
lost_total true true q t h = refl
