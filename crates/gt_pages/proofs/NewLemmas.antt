-- Pages without blocks.
use Rattle.std.proofs.Common.{◌≡◌, ℕ, ◌+◌, ◌<◌, ◌≤◌, true, false, cond, List, [], length, get_or, replicate, Option, Some, None, is_some, sym, ap, subst, ◌∙◌, inl, inr, arith}
use Rattle.std.specs.Prelude.{Contains, slice_get}
use Rattle.std.proofs.lemmas.Bool.{cases_lt, false≢true}
use Rattle.std.proofs.lemmas.List.{get_or-replicate, get_or_past, length-replicate}
use Rattle.gt_space.specs.declared.TheConstants.{MIN_PAGES, MAX_PAGES}
use Rattle.gt_bits.specs.Sets.{has}
use Rattle.gt_links.specs.Lists.{Holds, empty_lists, nodes_of}
use Rattle.gt_pages.specs.declared.pages.TheConstants.{LISTS, CACHED}
use Rattle.gt_pages.specs.Ledger.{page_address}
use Rattle.gt_pages.specs.Contents.{Contents, empty_contents}
use Rattle.gt_pages.specs.Tables.{page_at}
use Rattle.gt_pages.specs.Changes.{IsNew}
use Rattle.gt_pages.specs.Parts.{IsKept, Parts, contents_of, empty_entry, entry_at, page_slots, slots_in}
use Rattle.gt_pages.proofs.SlotLemmas.{flat_none}

-- an item of a list of equal items, or past it
same_item : {X : Type 0} (n i : ℕ) (x : X) → get_or (replicate n x) i x ≡ x
same_item n i x = elim (cases_lt i n) [
  | inl low ↦ get_or-replicate n i x x low
  | inr past ↦ get_or_past (replicate n x) i x (omega (arith, past, length-replicate n x))
]

none_in : {X : Type 0} (xs : List X) (x : X) → xs ≡ [] → Contains xs x → ⊥
none_in xs x none there = let len = ap (λ ys. length ys) none in let no : 1 ≤ 0 = omega (arith, there.1, len) in omega (arith, no)

pub none_held : (lists nodes i x : ℕ) → Holds (empty_lists lists nodes) i x → ⊥
none_held lists nodes i x held = none_in (nodes_of (empty_lists lists nodes) i) x (same_item lists i []) held

no_slots : (p : Parts) (page : ℕ) → has p.starts page ≡ false → page_slots p page ≡ []
no_slots p page free =
    ap (λ b. cond b (slots_in (page_address page) (entry_at p.entries page).size (entry_at p.entries page).places) []) free

abbrev contents_from : Contents → Contents
contents_from c = c

pub contents_new : (p : Parts) → IsNew p → contents_of p ≡ empty_contents p.pages
contents_new p new =
    let slots = flat_none (page_slots p) 0 p.pages (λ k high low. no_slots p k (new.starts k)) in
    ap (λ xs. contents_from (record { slots = xs; image = p.image; pages = p.pages; lists = p.lists })) slots
    ∙ ap (λ i. contents_from (record { slots = []; image = i; pages = p.pages; lists = p.lists })) new.image
    ∙ ap (λ l. contents_from (record { slots = []; image = record { first = 0; count = 0 }; pages = p.pages; lists = l })) new.lists

module _ (p : Parts) (new : IsNew p) where
  no_image : (page : ℕ) → (p.image.first ≤ page) × (page < p.image.first + p.image.count) → ⊥
  no_image page of =
      let first = ap (λ i. i.first) new.image in
      let count = ap (λ i. i.count) new.image in
      let no : 1 ≤ 0 = omega (arith, of.1, of.0, first, count) in omega (arith, no)

  no_start : (page : ℕ) → has p.starts page ≡ true → ⊥
  no_start page starts = false≢true (sym (new.starts page) ∙ starts)

  no_lead : (page : ℕ) → page_at p.table page ≡ None
  no_lead page = ap (λ table. page_at table page) new.table ∙ same_item p.pages page None

  no_hold : (i x : ℕ) → Holds p.lists i x → ⊥
  no_hold i x held = none_held LISTS p.pages i x (subst (λ l. Holds l i x) new.lists held)

  no_item : (i k : ℕ) → slice_get (nodes_of p.lists i) k ≡ None
  no_item i k =
      ap (λ l. slice_get (nodes_of l i) k) new.lists ∙ ap (λ xs. slice_get {X = ℕ} xs k) (same_item LISTS i [])

  none_some : {X : Type 0} (x : X) → ◌≡◌ {A = Option X} None (Some x) → ⊥
  none_some x e = false≢true (ap is_some e)

  pub kept_new : MIN_PAGES ≤ p.pages → p.pages ≤ MAX_PAGES → IsKept p
  kept_new least most = record {
    at_least = least;
    at_most = most;
    entries = ap (λ es. length es) new.entries ∙ length-replicate p.pages empty_entry;
    start_words = (omega (arith, new.start_words), omega (arith, new.start_words, most));
    free_words = (omega (arith, new.free_words), omega (arith, new.free_words, most));
    table = ap (λ t. length t) new.table ∙ length-replicate p.pages None;
    image = let first = ap (λ i. i.first) new.image in let count = ap (λ i. i.count) new.image in omega (arith, first, count);
    starts = λ page starts. absurd (no_start page starts);
    in_use = λ page starts. absurd (no_start page starts);
    leads = λ page first leads. absurd (none_some first (sym (no_lead page) ∙ leads));
    free = λ page free. ((new.free page).0 free, no_lead page, no_image page);
    taken = λ page low taken. absurd (false≢true (sym taken ∙ (new.free page).1 low));
    lists = record {
      count = ap (λ l. length l.lists) new.lists ∙ length-replicate {A = List ℕ} LISTS [];
      nodes = ap (λ l. l.nodes) new.lists;
      each = λ i size page is. (λ held. absurd (no_hold i page held), λ listed. absurd (no_start page listed.starts));
      order = λ i j k x y low before at-x at-y some. absurd (none_some y (sym (no_item i k) ∙ at-y));
      cached = λ page held. absurd (no_hold CACHED page held);
    };
  }
