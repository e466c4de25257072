-- A new entry in free pages.
use Rattle.std.proofs.Common.{◌≡◌, ◌≢◌, ℕ, zero, suc, ◌+◌, ◌*◌, ◌<◌, ◌≤◌, ◌⊎◌, true, false, ◌^◌, cond, List, [], ◌∷◌, ◌++◌, length, get_or, set, replicate, count_by, Some, None, is_some, Result, Ok, Err, refl, sym, ap, subst, ◌∙◌, inl, inr, arith}
use Rattle.std.specs.Prelude.{Contains, OnErr, slice_get}
use Rattle.std.proofs.Math.Nat.{mul-le-mul_left}
use Rattle.std.proofs.lemmas.Bool.{cases_Bool, cases_eq, cases_lt, false≢true}
use Rattle.std.proofs.lemmas.List.{get_or_past, get_or-replicate, get_or-set_same, get_or-set_other, length-replicate, length-set}
use Rattle.std.proofs.lemmas.List.Elements.{Contains-append_left, Contains-append_right}
use Rattle.std.proofs.lemmas.List.Sums.{count_by-le-length, sum_by-set}
use Rattle.gt_bits.specs.Sets.{has, HasRun}
use Rattle.gt_links.specs.Lists.{Lists, Holds, IsFree, nodes_of, with_nodes, without}
use Rattle.gt_entries.specs.Cells.{Cell, Free, Used, is_free}
use Rattle.gt_pages.specs.declared.pages.TheConstants.{CACHED}
use Rattle.gt_pages.specs.declared.store.Entry.{Entry}
use Rattle.gt_pages.specs.Ledger.{page_address, pages_of, sizes}
use Rattle.gt_pages.specs.Slots.{Slot, slot_at, with_slot}
use Rattle.gt_pages.specs.Contents.{IsSize, places_of}
use Rattle.gt_pages.specs.Tables.{page_at}
use Rattle.gt_pages.specs.Changes.{Opens, Releases, with_list, without_cached}
use Rattle.gt_pages.specs.Parts.{AreListed, IsInUse, IsKept, IsListed, IsOfImage, Parts, contents_of, entry_at, entry_pages, free_places, page_slots, slots_in}
use Rattle.gt_pages.proofs.CachedLemmas.{contains_cases, contains_later, contains_without, contents_released, no_node, nodes_other, nodes_same, number_size, size_number}
use Rattle.gt_pages.proofs.PlaceLemmas.{contained, one_number, shape, slots_added, slots_taken, some_is}
use Rattle.gt_pages.proofs.ShareLemmas.{in_front, last_is, last_or_before, stands_in}
use Rattle.gt_pages.proofs.SizeLemmas.{size_bounds}
use Rattle.gt_pages.proofs.WhereLemmas.{entry_some, same_some}

-- an entry of a size with a block at one place
abbrev pub new_entry : (size k : ℕ) → Entry
new_entry size k = record { size = size; places = set (replicate (places_of size) Free) k (Used None) }

no_blocks : (start size n : ℕ) → slots_in start size (replicate n Free) ≡ []
no_blocks start size zero = refl
no_blocks start size (suc n) = no_blocks (start + size) size n

-- a page that has an entry leads to it
pub start_leads : (p : Parts) (page : ℕ) → IsKept p → has p.starts page ≡ true → page_at p.table page ≡ Some page
start_leads p page kept starts =
    let entry : Entry = entry_at p.entries page in
    let in-use = kept.in_use page starts in
    let some = entry_some p page kept starts in
    let many = mul-le-mul_left {m = 1} {n = length entry.places} entry.size in-use.some in
    in-use.table page (omega arith) (omega (arith, many, some))

-- the parts with a new entry, and other lists
abbrev pub made : Parts → Parts → Lists → Parts
made p q lists = record p { entries = q.entries; starts = q.starts; free = q.free; table = q.table; lists = lists }

module _ (p q : Parts) (page size k l : ℕ) (kept : IsKept p) (number : IsSize l size) (run : HasRun p.free (pages_of size) p.pages page)
    (low : k < places_of size) (own : Holds p.lists CACHED page → ⊥) (opens : Opens p page (new_entry size k) q) where
  abbrev entry : Entry
  entry = new_entry size k

  abbrev opened : Lists → Parts
  opened lists = made p q lists

  listed : Contains sizes size
  listed = contained sizes l size number

  below : l < CACHED
  below = size_number l size number

  pub len : length entry.places ≡ places_of size
  len = length-set (replicate (places_of size) Free) k (Used None) ∙ length-replicate (places_of size) Free

  pages : entry_pages entry ≡ pages_of size
  pages = ap (λ n. pages_of (size * n)) len ∙ (shape size listed).pages

  a_page : 1 ≤ pages_of size
  a_page = let some = (size_bounds size listed).0 in omega (arith, some)

  free_before : (j : ℕ) → page ≤ j → j < page + entry_pages entry → (j < p.pages) × (page_at p.table j ≡ None) × (IsOfImage p j → ⊥)
  free_before j from to = let same = pages in kept.free j (run.1 j from (omega (arith, to, same)))

  page_before : (page < p.pages) × (page_at p.table page ≡ None) × (IsOfImage p page → ⊥)
  page_before = let some = a_page in let same = pages in free_before page (omega arith) (omega (arith, some, same))

  page_low : page < length p.entries
  page_low = let inside = page_before.0 in let n = kept.entries in omega (arith, inside, n)

  not_start : (j : ℕ) → has p.starts j ≡ true → j ≢ page
  not_start j starts same =
      false≢true (ap is_some (sym page_before.1 ∙ start_leads p page kept (subst (λ i. has p.starts i ≡ true) same starts)))

  not_started : has p.starts page ≡ false
  not_started = elim (cases_Bool (has p.starts page)) [ inl starts ↦ absurd (not_start page starts refl) | inr none ↦ none ]

  pub entry_here : entry_at q.entries page ≡ entry
  entry_here = ap (λ es. entry_at es page) opens.entries ∙ get_or-set_same p.entries page entry _ page_low

  entry_other : (j : ℕ) → j ≢ page → entry_at q.entries j ≡ entry_at p.entries j
  entry_other j apart = ap (λ es. entry_at es j) opens.entries ∙ get_or-set_other p.entries page j entry _ apart

  where_is : (j : ℕ) → ((page ≤ j) × (j < page + entry_pages entry)) ⊎ ((j < page) ⊎ (page + entry_pages entry ≤ j))
  where_is j = elim (cases_lt j page) [
    | inl before ↦ inr (inl before)
    | inr past ↦ elim (cases_lt j (page + entry_pages entry)) [ inl inside ↦ inl (past, inside) | inr after ↦ inr (inr after) ]
  ]

  -- a page that leads to an entry is none of these
  lead_outside : (j first : ℕ) → page_at p.table j ≡ Some first → (j < page) ⊎ (page + entry_pages entry ≤ j)
  lead_outside j first leads = elim (where_is j) [
    | inl inside ↦ absurd (false≢true (ap is_some (sym (free_before j inside.0 inside.1).1 ∙ leads)))
    | inr out ↦ out
  ]

  fewer : count_by is_free entry.places < length entry.places
  fewer =
      let cells : List Cell = replicate (places_of size) Free in
      let inside : k < length cells = (let n = length-replicate (places_of size) Free in omega (arith, low, n)) in
      let sum = sum_by-set (λ c. cond (is_free c) 1 0) cells k (Used None) Free inside in
      let one : cond {A = ℕ} (is_free (get_or cells k Free)) 1 0 ≡ 1 = ap (λ c. cond {A = ℕ} (is_free c) 1 0) (get_or-replicate (places_of size) k Free Free low) in
      let most = count_by-le-length is_free cells in
      let same = length-set cells k (Used None) in
      omega (arith, sum, one, most, same)

  in_use_here : (lists : Lists) → IsInUse (opened lists) page entry
  in_use_here lists =
      let is = shape size listed in
      let n = len in
      let same = pages in
      let room = run.0 in
      record {
        listed = listed;
        some = (let some = is.some in omega (arith, some, n));
        in_space = omega (arith, room, same);
        table = λ j from to. opens.table.inside j from to;
        inside = λ of. absurd (page_before.2 of);
        before = λ before some. elim (cases_lt p.image.first (page + entry_pages entry)) [
          | inl into ↦ absurd ((free_before p.image.first (omega (arith, before)) into).2 (omega arith, omega (arith, some)))
          | inr past ↦ past
        ];
        count = λ out. len;
        used = λ out. fewer;
      }

  in_use_opened : (lists : Lists) (j : ℕ) → has q.starts j ≡ true → IsInUse (opened lists) j (entry_at q.entries j)
  in_use_opened lists j starts = elim (cases_eq j page) [
    | inl same ↦
        subst (λ i. IsInUse (opened lists) i (entry_at q.entries i)) (sym same)
        (subst (λ e. IsInUse (opened lists) page e) (sym entry_here) (in_use_here lists))
    | inr apart ↦
        let is = kept.in_use j (sym (opens.starts j apart) ∙ starts) in
        subst (λ e. IsInUse (opened lists) j e) (sym (entry_other j apart))
        (record {
          listed = is.listed;
          some = is.some;
          in_space = is.in_space;
          table = λ n from to. opens.table.outside n (lead_outside n j (is.table n from to)) ∙ is.table n from to;
          inside = is.inside;
          before = is.before;
          count = is.count;
          used = is.used;
        })
  ]

  leads_opened : (j first : ℕ) → page_at q.table j ≡ Some first → (has q.starts first ≡ true) × (first ≤ j) × (j < first + entry_pages (entry_at q.entries first))
  leads_opened j first leads = elim (where_is j) [
    | inl inside ↦
        let same : page ≡ first = same_some page first (sym (opens.table.inside j inside.0 inside.1) ∙ leads) in
        subst (λ i. (has q.starts i ≡ true) × (i ≤ j) × (j < i + entry_pages (entry_at q.entries i))) same
        (opens.start, inside.0, subst (λ e. j < page + entry_pages e) (sym entry_here) inside.1)
    | inr out ↦
        let is = kept.leads j first (sym (opens.table.outside j out) ∙ leads) in
        let apart = not_start first is.0 in
        (opens.starts first apart ∙ is.0, is.1, subst (λ e. j < first + entry_pages e) (sym (entry_other first apart)) is.2)
  ]

  free_opened : (j : ℕ) → has q.free j ≡ true → (j < p.pages) × (page_at q.table j ≡ None) × (IsOfImage p j → ⊥)
  free_opened j free = elim (where_is j) [
    | inl inside ↦ absurd (false≢true (sym (opens.taken j inside.0 inside.1) ∙ free))
    | inr out ↦ let is = kept.free j (sym (opens.free j out) ∙ free) in (is.0, opens.table.outside j out ∙ is.1, is.2)
  ]

  taken_opened : (j : ℕ) → j < p.pages → has q.free j ≡ false → (IsOfImage p j) ⊎ ((first : ℕ) × (page_at q.table j ≡ Some first))
  taken_opened j inside taken = elim (where_is j) [
    | inl within ↦ inr (page, opens.table.inside j within.0 within.1)
    | inr out ↦ elim (kept.taken j inside (sym (opens.free j out) ∙ taken)) [
      | inl image ↦ inl image
      | inr leads ↦ inr (leads.0, opens.table.outside j out ∙ leads.1)
    ]
  ]

  kept_with : (lists : Lists) → AreListed (opened lists) → IsKept (opened lists)
  kept_with lists are = record {
    at_least = kept.at_least;
    at_most = kept.at_most;
    entries = ap (λ es. length es) opens.entries ∙ length-set p.entries page entry ∙ kept.entries;
    start_words = let w = kept.start_words in let n = opens.start_words in (omega (arith, w.0, n), omega (arith, w.1, n));
    free_words = let w = kept.free_words in let n = opens.free_words in (omega (arith, w.0, n), omega (arith, w.1, n));
    table = opens.table.len ∙ kept.table;
    image = kept.image;
    starts = λ j starts. elim (cases_eq j page) [
      | inl same ↦ let inside = page_before.0 in omega (arith, same, inside)
      | inr apart ↦ kept.starts j (sym (opens.starts j apart) ∙ starts)
    ];
    in_use = λ j starts. let is = in_use_opened lists j starts in record {
      listed = is.listed;
      some = is.some;
      in_space = is.in_space;
      table = is.table;
      inside = is.inside;
      before = is.before;
      count = is.count;
      used = is.used;
    };
    leads = leads_opened;
    free = free_opened;
    taken = taken_opened;
    lists = are;
  }

  -- ---- the lists

  pub full_or : free_places (opened p.lists) page ≡ count_by is_free entry.places
  full_or = ap (λ e. count_by is_free e.places) entry_here

  free_other : (j : ℕ) → j ≢ page → count_by is_free (entry_at q.entries j).places ≡ free_places p j
  free_other j apart = ap (λ e. count_by is_free e.places) (entry_other j apart)

  -- a node of a list of a size has an entry
  node_other : (i j : ℕ) → i < CACHED → Holds p.lists i j → j ≢ page
  node_other i j low held = not_start j ((kept.lists.each i (get_or sizes i 0) j (number_size i low)).0 held).starts

  -- the nodes of the list from now on: those that were there, and the page
  module _ (nodes : List ℕ) (there : Contains nodes page) (still : (j : ℕ) → Contains (nodes_of p.lists l) j → Contains nodes j)
      (only : (j : ℕ) → Contains nodes j → Contains (nodes_of p.lists l) j ⊎ (page ≡ j))
      (order : (j n x y : ℕ) → j < n → slice_get nodes j ≡ Some x → slice_get nodes n ≡ Some y
      → 0 < count_by is_free (entry_at q.entries y).places → 0 < count_by is_free (entry_at q.entries x).places) where
    abbrev pushed : Lists
    pushed = with_nodes p.lists l nodes

    nodes_here : nodes_of pushed l ≡ nodes
    nodes_here = nodes_same p.lists l nodes (let n = kept.lists.count in let low-l = below in omega (arith, n, low-l))

    nodes_else : (i : ℕ) → i ≢ l → nodes_of pushed i ≡ nodes_of p.lists i
    nodes_else i apart = nodes_other p.lists l i nodes apart

    was_listed : (n j : ℕ) → j ≢ page → IsListed (opened pushed) n j → IsListed p n j
    was_listed n j apart is = record { starts = sym (opens.starts j apart) ∙ is.starts; outside = is.outside; sized = sym (ap (λ e. e.size) (entry_other j apart)) ∙ is.sized }

    is_listed : (n j : ℕ) → IsListed p n j → IsListed (opened pushed) n j
    is_listed n j is =
        let apart = not_start j is.starts in
        record { starts = opens.starts j apart ∙ is.starts; outside = is.outside; sized = ap (λ e. e.size) (entry_other j apart) ∙ is.sized }

    page_listed : (i n : ℕ) → i ≡ l → IsSize i n → IsListed (opened pushed) n page
    page_listed i n same is =
        let equal : size ≡ n = some_is size n (sym number ∙ subst (λ m. IsSize m n) same is) in
        record { starts = opens.start; outside = page_before.2; sized = ap (λ e. e.size) entry_here ∙ equal }

    holds_listed : (i n j : ℕ) → IsSize i n → Holds pushed i j → IsListed (opened pushed) n j
    holds_listed i n j is held = elim (cases_eq i l) [
      | inl same ↦ elim (only j (subst (λ ns. Contains ns j) nodes_here (subst (λ m. Holds pushed m j) same held))) [
        | inl old ↦ is_listed n j ((kept.lists.each i n j is).0 (subst (λ m. Holds p.lists m j) (sym same) old))
        | inr new ↦ subst (λ m. IsListed (opened pushed) n m) new (page_listed i n same is)
      ]
      | inr apart ↦ is_listed n j ((kept.lists.each i n j is).0 (subst (λ ns. Contains ns j) (nodes_else i apart) held))
    ]

    listed_holds : (i n j : ℕ) → IsSize i n → IsListed (opened pushed) n j → Holds pushed i j
    listed_holds i n j is listed-j = elim (cases_eq j page) [
      | inl same ↦
          let sized : size ≡ n = sym (ap (λ e. e.size) entry_here) ∙ subst (λ m. (entry_at q.entries m).size ≡ n) same listed-j.sized in
          let equal : i ≡ l = one_number i l n is (subst (λ m. IsSize l m) sized number) in
          subst (λ m. Holds pushed m j) (sym equal) (subst (λ ns. Contains ns j) (sym nodes_here) (subst (λ m. Contains nodes m) (sym same) there))
      | inr apart ↦ held_still i j ((kept.lists.each i n j is).1 (was_listed n j apart listed-j))
    ]
      where
        held_still : (i j : ℕ) → Holds p.lists i j → Holds pushed i j
        held_still i j held = elim (cases_eq i l) [
          | inl same ↦
              subst (λ m. Holds pushed m j) (sym same)
              (subst (λ ns. Contains ns j) (sym nodes_here) (still j (subst (λ m. Holds p.lists m j) same held)))
          | inr apart ↦ subst (λ ns. Contains ns j) (sym (nodes_else i apart)) held
        ]

    order_pushed : (i j n x y : ℕ) → i < CACHED → j < n → slice_get (nodes_of pushed i) j ≡ Some x → slice_get (nodes_of pushed i) n ≡ Some y
        → 0 < count_by is_free (entry_at q.entries y).places → 0 < count_by is_free (entry_at q.entries x).places
    order_pushed i j n x y low-i before at-x at-y free = elim (cases_eq i l) [
      | inl same ↦
          order j n x y before
          (subst (λ ns. slice_get ns j ≡ Some x) nodes_here (subst (λ m. slice_get (nodes_of pushed m) j ≡ Some x) same at-x))
          (subst (λ ns. slice_get ns n ≡ Some y) nodes_here (subst (λ m. slice_get (nodes_of pushed m) n ≡ Some y) same at-y)) free
      | inr apart ↦
          let old-x = subst (λ ns. slice_get ns j ≡ Some x) (nodes_else i apart) at-x in
          let old-y = subst (λ ns. slice_get ns n ≡ Some y) (nodes_else i apart) at-y in
          let of-x = free_other x (node_other i x low-i (stands_in (nodes_of p.lists i) j x old-x)) in
          let of-y = free_other y (node_other i y low-i (stands_in (nodes_of p.lists i) n y old-y)) in
          let first = kept.lists.order i j n x y low-i before old-x old-y (omega (arith, free, of-y)) in
          omega (arith, first, of-x)
    ]

    kept_pushed : IsKept (opened pushed)
    kept_pushed = kept_with pushed (record {
      count = length-set p.lists.lists l nodes ∙ kept.lists.count;
      nodes = kept.lists.nodes;
      each = λ i n j is. (
        λ held. let o = holds_listed i n j is held in record { starts = o.starts; outside = o.outside; sized = o.sized },
        λ o. listed_holds i n j is (record { starts = o.starts; outside = o.outside; sized = o.sized }),
      );
      order = order_pushed;
      cached = λ j held.
          let old = subst (λ ns. Contains ns j) (nodes_else CACHED (λ same. let low-l = below in omega (arith, same, low-l))) held in
          let apart : j ≢ page = λ same. own (subst (λ m. Holds p.lists CACHED m) same old) in
          opens.starts j apart ∙ kept.lists.cached j old;
    })

  -- among the nodes that were there
  order_old : (j n x y : ℕ) → j < n → slice_get (nodes_of p.lists l) j ≡ Some x → slice_get (nodes_of p.lists l) n ≡ Some y
      → 0 < count_by is_free (entry_at q.entries y).places → 0 < count_by is_free (entry_at q.entries x).places
  order_old j n x y before at-x at-y free =
      let of-x = free_other x (node_other l x below (stands_in (nodes_of p.lists l) j x at-x)) in
      let of-y = free_other y (node_other l y below (stands_in (nodes_of p.lists l) n y at-y)) in
      let first = kept.lists.order l j n x y below before at-x at-y (omega (arith, free, of-y)) in
      omega (arith, first, of-x)

  -- the entry has a free place, and is the first
  pub kept_front : 0 < free_places q page → IsKept (opened (with_nodes p.lists l (page ∷ nodes_of p.lists l)))
  kept_front some =
      kept_pushed (page ∷ nodes_of p.lists l) (0, omega arith, refl) (λ j there. contains_later page (nodes_of p.lists l) j there)
      (λ j there. elim (contains_cases page (nodes_of p.lists l) j there) [ inl new ↦ inr new | inr old ↦ inl old ])
      order_front
    where
      order_front : (j n x y : ℕ) → j < n → slice_get (page ∷ nodes_of p.lists l) j ≡ Some x → slice_get (page ∷ nodes_of p.lists l) n ≡ Some y
          → 0 < count_by is_free (entry_at q.entries y).places → 0 < count_by is_free (entry_at q.entries x).places
      order_front zero n x y before at-x at-y free = subst (λ i. 0 < free_places q i) (some_is page x at-x) some
      order_front (suc j) zero x y before at-x at-y free = absurd (omega (arith, before))
      order_front (suc j) (suc n) x y before at-x at-y free = order_old j n x y (omega (arith, before)) at-x at-y free

  -- the entry is full, and is the last
  pub kept_back : free_places q page ≡ 0 → IsKept (opened (with_nodes p.lists l (nodes_of p.lists l ++ page ∷ [])))
  kept_back full =
      kept_pushed (nodes_of p.lists l ++ page ∷ []) (Contains-append_right (nodes_of p.lists l) (page ∷ []) page (0, omega arith, refl))
      (λ j there. Contains-append_left (nodes_of p.lists l) (page ∷ []) j there)
      (λ j there. last_or_before (nodes_of p.lists l) page j there) order_back
    where
      in_old : (n y : ℕ) → slice_get (nodes_of p.lists l ++ page ∷ []) n ≡ Some y → 0 < free_places q y → n < length (nodes_of p.lists l)
      in_old n y at free = elim (cases_lt n (length (nodes_of p.lists l))) [
        | inl within ↦ within
        | inr past ↦
            let last = subst (λ i. 0 < free_places q i) (last_is (nodes_of p.lists l) page n y past at) free in
            absurd (omega (arith, last, full))
      ]

      order_back : (j n x y : ℕ) → j < n → slice_get (nodes_of p.lists l ++ page ∷ []) j ≡ Some x → slice_get (nodes_of p.lists l ++ page ∷ []) n ≡ Some y
          → 0 < count_by is_free (entry_at q.entries y).places → 0 < count_by is_free (entry_at q.entries x).places
      order_back j n x y before at-x at-y free =
          let within = in_old n y at-y free in
          order_old j n x y before (in_front (nodes_of p.lists l) page j x (omega (arith, before, within)) at-x) (in_front (nodes_of p.lists l) page n y within at-y) free

  -- ---- the blocks

  pub slots_opened : (lists : Lists) → IsKept (opened lists)
      → (contents_of (opened lists)).slots ≡ with_slot (contents_of p).slots (slot_at (page_address page + size * k) size)
  slots_opened lists kept-after =
      slots_added p (opened lists) page k size kept-after refl opens.start
      (let n = ap (λ e. length e.places) entry_here in let same = len in omega (arith, low, n, same)) (ap (λ e. e.size) entry_here) here others
    where
      s : Slot
      s = slot_at (page_address page + size * k) size

      all : Entry → ℕ → List Slot
      all e j = slots_in (page_address j) e.size e.places

      here : page_slots (opened lists) page ≡ with_slot (page_slots p page) s
      here =
          let cells : List Cell = replicate (places_of size) Free in
          let inside : k < length cells = (let n = length-replicate (places_of size) Free in omega (arith, low, n)) in
          ap (λ b. cond b (all (entry_at q.entries page) page) []) opens.start
          ∙ ap (λ e. all e page) entry_here
          ∙ slots_taken (page_address page) size k (page_address page + size * k) cells (size_bounds size listed).0 refl inside (get_or-replicate (places_of size) k Free Free low)
          ∙ ap (λ xs. with_slot xs s) (no_blocks (page_address page) size (places_of size))
          ∙ sym (ap (λ b. with_slot (cond b (all (entry_at p.entries page) page) []) s) not_started)

      others : (j : ℕ) → j ≢ page → page_slots (opened lists) j ≡ page_slots p j
      others j apart =
          ap (λ b. cond b (all (entry_at q.entries j) j) []) (opens.starts j apart)
          ∙ ap (λ e. cond (has p.starts j) (all e j) []) (entry_other j apart)

-- ---- the cached entry of the page

-- the page is cached no more where it is the one that was taken
pub not_cached : (p : Parts) (node page : ℕ) → IsKept p → (Holds p.lists CACHED page → node ≡ page) → Holds (without_cached p node).lists CACHED page → ⊥
not_cached p node page kept own there =
    let n = kept.lists.count in
    let left = contains_without node (nodes_of p.lists CACHED) page
    (subst (λ ns. Contains ns page) (nodes_same p.lists CACHED (without node (nodes_of p.lists CACHED)) (omega (arith, n))) there) in
    left.1 (sym (own left.0))

-- the page is in no list
pub in_no_list : (p : Parts) (page : ℕ) → IsKept p → has p.starts page ≡ false → (Holds p.lists CACHED page → ⊥) → IsFree p.lists page
in_no_list p page kept none own i held = elim (cases_lt i CACHED) [
  | inl low ↦ false≢true (sym none ∙ ((kept.lists.each i (get_or sizes i 0) page (number_size i low)).0 held).starts)
  | inr high ↦ elim (cases_eq i CACHED) [
    | inl same ↦ own (subst (λ m. Holds p.lists m page) same held)
    | inr past ↦ let n = kept.lists.count in no_node (nodes_of p.lists i) page (get_or_past p.lists.lists i [] (omega (arith, n, high, past))) held
  ]
]

-- the entry is in the list of its size
pub opened_all : (p mid q new : Parts) (page size k l : ℕ) → IsKept mid → Releases p mid → IsSize l size → HasRun p.free (pages_of size) p.pages page
    → k < places_of size → (Holds mid.lists CACHED page → ⊥) → Opens mid page (new_entry size k) q
    → (free_places q page ≡ 0 → new ≡ with_list q l (nodes_of q.lists l ++ page ∷ []))
    → (0 < free_places q page → new ≡ with_list q l (page ∷ nodes_of q.lists l))
    → IsKept new × ((contents_of new).slots ≡ with_slot (contents_of p).slots (slot_at (page_address page + size * k) size))
opened_all p mid q new page size k l kept released number run low own opens back front =
    let run-mid : HasRun mid.free (pages_of size) mid.pages page = subst (λ x. HasRun x.free (pages_of size) x.pages page) (sym released.rest) run in
    elim (cases_lt 0 (free_places q page)) [
      | inl some ↦
          finish run-mid (page ∷ nodes_of mid.lists l) (kept_front mid q page size k l kept number run-mid low own opens some)
          (front some ∙ ap (λ x. with_list x l (page ∷ nodes_of x.lists l)) opens.rest)
      | inr none ↦
          let full : free_places q page ≡ 0 = omega (arith, none) in
          finish run-mid (nodes_of mid.lists l ++ page ∷ []) (kept_back mid q page size k l kept number run-mid low own opens full)
          (back full ∙ ap (λ x. with_list x l (nodes_of x.lists l ++ page ∷ [])) opens.rest)
    ]
  where
    s : Slot
    s = slot_at (page_address page + size * k) size

    finish : HasRun mid.free (pages_of size) mid.pages page → (xs : List ℕ) → IsKept (made mid q (with_nodes mid.lists l xs)) → new ≡ made mid q (with_nodes mid.lists l xs)
        → IsKept new × ((contents_of new).slots ≡ with_slot (contents_of p).slots s)
    finish run-mid xs kept-new is = (
      subst (λ x. IsKept x) (sym is) kept-new,
      ap (λ x. (contents_of x).slots) is
          ∙ slots_opened mid q page size k l kept number run-mid low own opens (with_nodes mid.lists l xs) kept-new
          ∙ ap (λ c. with_slot c.slots s) (contents_released p mid released),
    )

-- a page that is free is no first page of an entry
unstarted : (p : Parts) (page : ℕ) → IsKept p → has p.free page ≡ true → has p.starts page ≡ false
unstarted p page kept free = elim (cases_Bool (has p.starts page)) [
  | inl starts ↦ absurd (false≢true (ap is_some (sym (kept.free page free).1 ∙ start_leads p page kept starts)))
  | inr none ↦ none
]

-- a free page that is not cached is in no list
pub free_node : (p mid q : Parts) (page size : ℕ) → IsKept mid → Releases p mid → Contains sizes size → HasRun p.free (pages_of size) p.pages page
    → (Holds mid.lists CACHED page → ⊥) → q.lists ≡ mid.lists → IsFree q.lists page
free_node p mid q page size kept released listed run own same =
    let some = (size_bounds size listed).0 in
    let free : has mid.free page ≡ true = ap (λ x. has x.free page) released.rest ∙ run.1 page (omega arith) (omega (arith, some)) in
    subst (λ s. IsFree s page) (sym same) (in_no_list mid page kept (unstarted mid page kept free) own)

-- the places of a new entry
pub places_made : (size count k : ℕ) (places : List Cell) → count ≡ places_of size → places ≡ set (replicate count Free) k (Used None)
    → ◌≡◌ {A = Entry} (record { size = size; places = places }) (new_entry size k)
places_made size count k places same is =
    ap (λ xs. entry_from (record { size = size; places = xs })) (is ∙ ap (λ n. set (replicate n Free) k (Used None)) same)
  where
    entry_from : Entry → Entry
    entry_from e = e

-- what a new entry needs
pub record Fits (size k : ℕ) : Type 0 where
  pub some : 1 ≤ length (new_entry size k).places
  pub pages : entry_pages (new_entry size k) ≡ pages_of size
  pub bytes : size * length (new_entry size k).places < 2 ^ 40

pub fits_new : (size k : ℕ) → Contains sizes size → Fits size k
fits_new size k listed =
    let is = shape size listed in
    let same = length-set (replicate (places_of size) Free) k (Used None) ∙ length-replicate (places_of size) Free in
    record {
      some = let some = is.some in omega (arith, some, same);
      pages = ap (λ n. pages_of (size * n)) same ∙ is.pages;
      bytes = subst (λ n. size * n < 2 ^ 40) (sym same) is.bytes;
    }

pub at_error : {T E : Type 0} (r : Result T E) (P : Type 0) → P → OnErr r P
at_error (Ok x) P holds = tt
at_error (Err e) P holds = holds
