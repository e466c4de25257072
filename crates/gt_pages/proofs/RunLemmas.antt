-- The blocks of the runs of an image, as they come in.
use Rattle.std.proofs.Common.{◌≡◌, ◌≢◌, ℕ, zero, suc, ◌+◌, ◌<◌, ◌≤◌, true, cond, List, [], ◌∷◌, ◌++◌, length, drop, get_or, replicate, flat_map, None, refl, sym, ap, subst, ◌∙◌, inl, inr, arith}
use Rattle.std.specs.Prelude.{All, Contains}
use Rattle.std.proofs.lemmas.Bool.{cases_Bool, cases_eq, false≢true}
use Rattle.std.proofs.lemmas.List.{append_assoc, append-nil, drop_more}
use Rattle.std.proofs.lemmas.List.Elements.{All-head, All-tail}
use Rattle.std.specs.List.{range_with_len}
use Rattle.gt_space.specs.declared.TheConstants.{MIN_PAGES, MAX_PAGES}
use Rattle.gt_bits.specs.Sets.{has}
use Rattle.gt_links.specs.Lists.{Holds, empty_lists}
use Rattle.gt_entries.specs.Cells.{Used}
use Rattle.gt_pages.specs.declared.pages.TheConstants.{LISTS}
use Rattle.gt_pages.specs.declared.pages.Run.{Run}
use Rattle.gt_pages.specs.Ledger.{PageRange, page_address, sizes}
use Rattle.gt_pages.specs.Slots.{Slot, slot_at}
use Rattle.gt_pages.specs.Contents.{list_count}
use Rattle.gt_pages.specs.Images.{AreRuns, IsImage, image_pages, image_slots, run_pages, slots_from}
use Rattle.gt_pages.specs.Changes.{IsNew}
use Rattle.gt_pages.specs.Runs.{AddsRun, image_end}
use Rattle.gt_pages.specs.Parts.{IsKept, IsOfImage, Parts, contents_of, entry_at, page_slots, slots_in}
use Rattle.gt_pages.proofs.SlotLemmas.{flat_none}
use Rattle.gt_pages.proofs.NewLemmas.{contents_new, kept_new, none_held}
use Rattle.gt_pages.proofs.ViewLemmas.{no_start, started_slots}
use Rattle.gt_pages.proofs.ImageLemmas.{entry_here, entry_other, entry_run, free_unstarted, has_page, kept_added}

-- the blocks of an entry that is full
slots_full : (start size count : ℕ) → slots_in start size (replicate count (Used None)) ≡ slots_from start size count
slots_full start size zero = refl
slots_full start size (suc count) = ap (λ xs. slot_at start size ∷ xs) (slots_full (start + size) size count)

-- one entry more, after all others
module _ (f g : ℕ → List Slot) (page : ℕ) (others : (j : ℕ) → j ≢ page → g j ≡ f j) (last : (j : ℕ) → page ≤ j → f j ≡ []) where
  flat_last : (a n : ℕ) → a ≤ page → page < a + n → flat_map g (range_with_len a n) ≡ flat_map f (range_with_len a n) ++ g page
  flat_last a zero high low = absurd (let no : 1 ≤ 0 = omega (arith, high, low) in omega (arith, no))
  flat_last a (suc n) high low = elim (cases_eq a page) [
    | inl same ↦
        let none-g = flat_none g (a + 1) n (λ j from _. others j (λ is. omega (arith, is, from, same)) ∙ last j (omega (arith, from, same))) in
        let none-f = flat_none f (a + 1) n (λ j from _. last j (omega (arith, from, same))) in
        ap (λ xs. g a ++ xs) none-g
        ∙ append-nil (g a)
        ∙ ap g same
        ∙ sym (ap (λ xs. (xs ++ flat_map f (range_with_len (a + 1) n)) ++ g page) (last a (omega (arith, same))) ∙ ap (λ xs. xs ++ g page) none-f)
    | inr apart ↦
        ap (λ xs. xs ++ flat_map g (range_with_len (a + 1) n)) (others a apart)
        ∙ ap (λ xs. f a ++ xs) (flat_last (a + 1) n (omega (arith, high, apart)) (omega (arith, low)))
        ∙ sym (append_assoc (f a) (flat_map f (range_with_len (a + 1) n)) (g page))
  ]

-- these runs are still to come
pub record RunsLeft (start : Parts) (page : ℕ) (runs left : List Run) (now : Parts) : Type 0 where
  pub kept : IsKept now
  pub pages : now.pages ≡ start.pages
  pub first : now.image.first ≡ page
  pub listed : All (λ run. Contains sizes run.size) left
  pub some : All (λ run. 1 ≤ run.count) left
  pub count : now.image.count + image_pages left ≡ image_pages runs
  pub fits : page + image_pages runs ≤ now.pages
  pub slots : (contents_of now).slots ++ image_slots (image_end now) left ≡ image_slots page runs
  pub free : (j : ℕ) → image_end now ≤ j → j < now.pages → has now.free j ≡ true
  pub bare : (i x : ℕ) → ¬ (Holds now.lists i x)
  pub lists : now.lists ≡ empty_lists list_count start.pages

-- none is in
module _ (p : Parts) (new : IsNew p) (least : MIN_PAGES ≤ p.pages) (most : p.pages ≤ MAX_PAGES) (page : ℕ) (runs : List Run)
    (are : AreRuns runs) (fits : page + image_pages runs ≤ p.pages) where
  abbrev begun : Parts
  begun = record p { image = record { first = page; count = p.image.count } }

  no_count : p.image.count ≡ 0
  no_count = ap (λ i. i.count) new.image

  old : IsKept p
  old = kept_new p new least most

  no_image : (j : ℕ) → ¬ (IsOfImage begun j)
  no_image j of = let from = of.0 in let to = of.1 in let none = no_count in omega (arith, from, to, none)

  unused : (j : ℕ) → has p.starts j ≡ true → ⊥
  unused j starts = false≢true (sym (new.starts j) ∙ starts)

  no_hold : (i x : ℕ) → ¬ (Holds p.lists i x)
  no_hold i x held = none_held LISTS p.pages i x (subst (λ l. Holds l i x) new.lists held)

  kept_begun : IsKept begun
  kept_begun = record {
    at_least = least;
    at_most = most;
    entries = old.entries;
    start_words = old.start_words;
    free_words = old.free_words;
    table = old.table;
    image = let none = no_count in omega (arith, none, fits);
    starts = old.starts;
    in_use = λ j starts. absurd (unused j starts);
    leads = old.leads;
    free = λ j free. let is = old.free j free in (is.0, is.1, no_image j);
    taken = λ j low taken. absurd (false≢true (sym taken ∙ (new.free j).1 low));
    lists = record {
      count = old.lists.count;
      nodes = old.lists.nodes;
      each = λ i size j is. (λ held. absurd (no_hold i j held), λ listed. absurd (unused j listed.starts));
      order = old.lists.order;
      cached = old.lists.cached;
    };
  }

  pub runs_begin : RunsLeft p page runs runs begun
  runs_begin = record {
    kept = kept_begun;
    pages = refl;
    first = refl;
    listed = are.listed;
    some = are.some;
    count = let none = no_count in omega (arith, none);
    fits = fits;
    slots =
        ap (λ xs. xs ++ image_slots (page + p.image.count) runs) (ap (λ c. c.slots) (contents_new p new))
        ∙ ap (λ n. image_slots n runs) (let none = no_count in omega (arith, none));
    free = λ j _ low. (new.free j).1 low;
    bare = no_hold;
    lists = new.lists;
  }

-- one comes in
module _ (start : Parts) (page : ℕ) (runs : List Run) (run : Run) (left : List Run) (p q : Parts)
    (is : RunsLeft start page runs (run ∷ left) p) where
  pub run_listed : Contains sizes run.size
  run_listed = All-head (λ r. Contains sizes r.size) run left is.listed

  pub run_counted : 1 ≤ run.count
  run_counted = All-head (λ r. 1 ≤ r.count) run left is.some

  pub run_fits : image_end p + run_pages run ≤ p.pages
  run_fits = let first = is.first in let count = is.count in let fits = is.fits in omega (arith, first, count, fits)

  module _ (adds : AddsRun p run q) where
    run_free : (j : ℕ) → image_end p ≤ j → j < image_end p + run_pages run → has p.free j ≡ true
    run_free j from to = is.free j from (omega (arith, to, run_fits))

    pages_same : q.pages ≡ p.pages
    pages_same = ap (λ x. x.pages) adds.opens.rest

    end_after : image_end q ≡ image_end p + run_pages run
    end_after = ap (λ i. i.first + i.count) adds.image ∙ omega arith

    here : page_slots q (image_end p) ≡ slots_from (page_address (image_end p)) run.size run.count
    here =
        started_slots q (image_end p) adds.opens.start
        ∙ ap (λ e. slots_in (page_address (image_end p)) e.size e.places)
        (entry_here p run q is.kept run_listed run_counted run_fits run_free is.bare adds)
        ∙ slots_full (page_address (image_end p)) run.size run.count

    others : (j : ℕ) → j ≢ image_end p → page_slots q j ≡ page_slots p j
    others j apart =
        ap (λ b. cond b (slots_in (page_address j) (entry_at q.entries j).size (entry_at q.entries j).places) []) (adds.opens.starts j apart)
        ∙ ap (λ e. cond (has p.starts j) (slots_in (page_address j) e.size e.places) [])
        (entry_other p run q is.kept run_listed run_counted run_fits run_free is.bare adds j apart)

    last : (j : ℕ) → image_end p ≤ j → page_slots p j ≡ []
    last j from = no_start p j (elim (cases_Bool (has p.starts j)) [
      | inl starts ↦ free_unstarted p j is.kept (is.free j from (is.kept.starts j starts))
      | inr none ↦ none
    ])

    slots_after : (contents_of q).slots ≡ (contents_of p).slots ++ slots_from (page_address (image_end p)) run.size run.count
    slots_after =
        ap (λ n. flat_map (page_slots q) (range_with_len 0 n)) pages_same
        ∙ flat_last (page_slots p) (page_slots q) (image_end p) others last 0 p.pages (omega arith)
        (let some = has_page p run q is.kept run_listed run_counted run_fits run_free is.bare adds in let fits = run_fits in omega (arith, some, fits))
        ∙ ap (λ xs. (contents_of p).slots ++ xs) here

    pub runs_step : RunsLeft start page runs left q
    runs_step = record {
      kept = kept_added p run q is.kept run_listed run_counted run_fits run_free is.bare adds;
      pages = pages_same ∙ is.pages;
      first = ap (λ i. i.first) adds.image ∙ is.first;
      listed = All-tail (λ r. Contains sizes r.size) run left is.listed;
      some = All-tail (λ r. 1 ≤ r.count) run left is.some;
      count = let grown = ap (λ i. i.count) adds.image in let count = is.count in omega (arith, grown, count);
      fits = let fits = is.fits in let same = pages_same in omega (arith, fits, same);
      slots =
          ap (λ xs. xs ++ image_slots (image_end q) left) slots_after
          ∙ append_assoc (contents_of p).slots (slots_from (page_address (image_end p)) run.size run.count) (image_slots (image_end q) left)
          ∙ ap (λ n. (contents_of p).slots ++ (slots_from (page_address (image_end p)) run.size run.count ++ image_slots n left)) end_after
          ∙ is.slots;
      free = λ j from low.
          let past : image_end p + run_pages run ≤ j = (let end = end_after in omega (arith, from, end)) in
          adds.opens.free j (inr (let pages = entry_run run in omega (arith, past, pages)))
          ∙ is.free j (omega (arith, past)) (let same = pages_same in omega (arith, low, same));
      bare = λ i x held. is.bare i x (subst (λ l. Holds l i x) (ap (λ s. s.lists) adds.opens.rest) held);
      lists = ap (λ s. s.lists) adds.opens.rest ∙ is.lists;
    }

pub runs_next : (start : Parts) (page : ℕ) (runs : List Run) (k : ℕ) (other : Run) (p q : Parts) → k < length runs
    → RunsLeft start page runs (drop k runs) p → AddsRun p (get_or runs k other) q → RunsLeft start page runs (drop (k + 1) runs) q
runs_next start page runs k other p q low is adds =
    runs_step start page runs (get_or runs k other) (drop (k + 1) runs) p q
    (subst (λ left. RunsLeft start page runs left p) (drop_more runs k other low) is) adds

-- all are in
pub runs_end : (start : Parts) (page : ℕ) (runs : List Run) (p : Parts) → RunsLeft start page runs [] p
    → IsImage (contents_of start) page runs (contents_of p)
runs_end start page runs p is = record {
  slots = sym (append-nil (contents_of p).slots) ∙ is.slots;
  image = range_is p.image page (image_pages runs) is.first (let count = is.count in omega (arith, count));
  pages = is.pages;
  lists = is.lists;
}
  where
    range_is : (r : PageRange) (a b : ℕ) → r.first ≡ a → r.count ≡ b → r ≡ record { first = a; count = b }
    range_is r a b first count =
        ap (λ n. range_from n r.count) first ∙ ap (λ n. range_from a n) count
      where
        range_from : ℕ → ℕ → PageRange
        range_from a b = record { first = a; count = b }
