-- An entry that gets one more block.
use Rattle.std.proofs.Common.{◌≡◌, ◌≢◌, ℕ, zero, suc, ◌+◌, ◌*◌, ◌<◌, ◌≤◌, true, cond, ◌⊎◌, List, [], ◌∷◌, ◌++◌, length, get_or, set, count_by, Option, Some, None, refl, sym, ap, subst, ◌∙◌, inl, inr, arith}
use Rattle.std.specs.Prelude.{Contains, IfNone, slice_get}
use Rattle.std.proofs.lemmas.Bool.{cases_eq, cases_lt}
use Rattle.std.proofs.lemmas.Option.{slice_get_within, get_or_from_slice_get}
use Rattle.std.proofs.lemmas.List.{get_or-set_same, get_or-set_other, length-set}
use Rattle.std.proofs.lemmas.List.Elements.{Contains-append_cases, Contains-append_left, Contains-append_right}
use Rattle.std.proofs.lemmas.List.Sums.{sum_by-set}
use Rattle.gt_bits.specs.Sets.{has}
use Rattle.gt_links.specs.Lists.{Lists, Holds, nodes_of, with_nodes, without}
use Rattle.gt_entries.specs.Cells.{Free, Used, cell_at, is_free}
use Rattle.gt_pages.specs.declared.pages.TheConstants.{CACHED}
use Rattle.gt_pages.specs.declared.store.Entry.{Entry}
use Rattle.gt_pages.specs.Ledger.{HasFreePlace, page_address, page_of, pages_of, sizes}
use Rattle.gt_pages.specs.Slots.{slot_at, with_slot}
use Rattle.gt_pages.specs.Contents.{IsSize, ledger_of, places_of}
use Rattle.gt_pages.specs.Places.{Shares}
use Rattle.gt_pages.specs.Changes.{with_list, with_place}
use Rattle.gt_pages.specs.Parts.{AreListed, IsInUse, IsKept, IsListed, IsOfImage, Parts, contents_of, entry_at, entry_pages, free_places, page_slots, slots_in}
use Rattle.gt_pages.proofs.CachedLemmas.{contains_without, nodes_other, nodes_same, number_size, size_number}
use Rattle.gt_pages.proofs.CloseLemmas.{contains_from_without, same_order}
use Rattle.gt_pages.proofs.PlaceLemmas.{one_number, place_within, slots_added, slots_taken, some_is}
use Rattle.gt_pages.proofs.RoomLemmas.{first_listed, free_place, lies_outside}
use Rattle.gt_pages.proofs.WhereLemmas.{entry_some}

-- ---- a list with one more node at its end

pub last_is : (xs : List ℕ) (z k y : ℕ) → length xs ≤ k → slice_get (xs ++ z ∷ []) k ≡ Some y → y ≡ z
last_is [] z zero y high at = sym (some_is z y at)
last_is [] z (suc k) y high at = absurd (let no = slice_get_within (z ∷ []) (suc k) y at in omega (arith, no))
last_is (x ∷ xs) z zero y high at = absurd (omega (arith, high))
last_is (x ∷ xs) z (suc k) y high at = last_is xs z k y (omega (arith, high)) at

pub in_front : (xs : List ℕ) (z k y : ℕ) → k < length xs → slice_get (xs ++ z ∷ []) k ≡ Some y → slice_get xs k ≡ Some y
in_front [] z k y low at = absurd (omega (arith, low))
in_front (x ∷ xs) z zero y low at = at
in_front (x ∷ xs) z (suc k) y low at = in_front xs z k y (omega (arith, low)) at

pub stands_in : (xs : List ℕ) (k y : ℕ) → slice_get xs k ≡ Some y → Contains xs y
stands_in xs k y at = (k, slice_get_within xs k y at, get_or_from_slice_get xs k y y at)

pub last_or_before : (xs : List ℕ) (z y : ℕ) → Contains (xs ++ z ∷ []) y → Contains xs y ⊎ (z ≡ y)
last_or_before xs z y there = elim (Contains-append_cases xs (z ∷ []) y there) [ inl before ↦ inl before | inr last ↦ inr (only last.0 last.1 last.2) ]
  where
    only : (k : ℕ) → k < 1 → get_or (z ∷ []) k y ≡ y → z ≡ y
    only zero low is = is
    only (suc k) low is = absurd (let no : 1 ≤ 0 = omega (arith, low) in omega (arith, no))

-- the list of an entry outside the image is that of its size alone
pub own_list : (p : Parts) (i l size page : ℕ) → IsKept p → i < CACHED → IsSize l size → (entry_at p.entries page).size ≡ size → Holds p.lists i page → i ≡ l
own_list p i l size page kept low number sized held =
    let listed = (kept.lists.each i (get_or sizes i 0) page (number_size i low)).0 held in
    let same : get_or sizes i 0 ≡ size = sym listed.sized ∙ sized in
    one_number i l size (subst (λ n. IsSize i n) same (number_size i low)) number

module _ (p : Parts) (page k : ℕ) (kept : IsKept p) (starts : has p.starts page ≡ true)
    (low : k < length (entry_at p.entries page).places) (free : cell_at (entry_at p.entries page).places k ≡ Free) where
  abbrev old_entry : Entry
  old_entry = entry_at p.entries page

  abbrev new_entry : Entry
  new_entry = record { size = old_entry.size; places = set old_entry.places k (Used None) }

  abbrev after : Parts
  after = with_place p page k

  page_low : page < length p.entries
  page_low = let inside = kept.starts page starts in let len = kept.entries in omega (arith, inside, len)

  pub entry_here : entry_at after.entries page ≡ new_entry
  entry_here = get_or-set_same p.entries page new_entry _ page_low

  entry_other : (j : ℕ) → j ≢ page → entry_at after.entries j ≡ entry_at p.entries j
  entry_other j apart = get_or-set_other p.entries page j new_entry _ apart

  len_here : length new_entry.places ≡ length old_entry.places
  len_here = length-set old_entry.places k (Used None)

  free_fewer : count_by is_free new_entry.places + 1 ≡ count_by is_free old_entry.places
  free_fewer =
      let sum = sum_by-set (λ c. cond (is_free c) 1 0) old_entry.places k (Used None) Free low in
      let one : cond {A = ℕ} (is_free (get_or old_entry.places k Free)) 1 0 ≡ 1 = ap (λ c. cond {A = ℕ} (is_free c) 1 0) free in
      omega (arith, sum, one)

  pages_here : entry_pages new_entry ≡ entry_pages old_entry
  pages_here = ap (λ n. pages_of (old_entry.size * n)) len_here

  pages_same : (j : ℕ) → entry_pages (entry_at after.entries j) ≡ entry_pages (entry_at p.entries j)
  pages_same j = elim (cases_eq j page) [
    | inl same ↦
        subst (λ i. entry_pages (entry_at after.entries i) ≡ entry_pages (entry_at p.entries i)) (sym same) (ap entry_pages entry_here ∙ pages_here)
    | inr apart ↦ ap entry_pages (entry_other j apart)
  ]

  size_same : (j : ℕ) → (entry_at after.entries j).size ≡ (entry_at p.entries j).size
  size_same j = elim (cases_eq j page) [
    | inl same ↦ subst (λ i. (entry_at after.entries i).size ≡ (entry_at p.entries i).size) (sym same) (ap (λ e. e.size) entry_here)
    | inr apart ↦ ap (λ e. e.size) (entry_other j apart)
  ]

  free_other : (j : ℕ) → j ≢ page → free_places after j ≡ free_places p j
  free_other j apart = ap (λ e. count_by is_free e.places) (entry_other j apart)

  pub free_here : free_places after page ≡ count_by is_free new_entry.places
  free_here = ap (λ e. count_by is_free e.places) entry_here

  free_less : (j : ℕ) → free_places after j ≤ free_places p j
  free_less j = elim (cases_eq j page) [
    | inl same ↦
        subst (λ i. free_places after i ≤ free_places p i) (sym same) (let is = free_here in let fewer = free_fewer in omega (arith, is, fewer))
    | inr apart ↦ let is = free_other j apart in omega (arith, is)
  ]

  in_use_here : IsInUse after page new_entry
  in_use_here =
      let is = kept.in_use page starts in
      let len = len_here in
      let pages = pages_here in
      let fewer = free_fewer in
      record {
        listed = is.listed;
        some = omega (arith, is.some, len);
        in_space = omega (arith, is.in_space, pages);
        table = λ q from to. is.table q from (omega (arith, to, pages));
        inside = λ of. let in' = is.inside of in omega (arith, in', pages);
        before = λ low some. let be = is.before low some in omega (arith, be, pages);
        count = λ out. len ∙ is.count out;
        used = λ out. let u = is.used out in omega (arith, u, len, fewer);
      }

  in_use_after : (j : ℕ) → has p.starts j ≡ true → IsInUse after j (entry_at after.entries j)
  in_use_after j started = elim (cases_eq j page) [
    | inl same ↦
        subst (λ i. IsInUse after i (entry_at after.entries i)) (sym same) (subst (λ e. IsInUse after page e) (sym entry_here) in_use_here)
    | inr apart ↦
        let is = kept.in_use j started in
        subst (λ e. IsInUse after j e) (sym (entry_other j apart))
        (record {
          listed = is.listed;
          some = is.some;
          in_space = is.in_space;
          table = is.table;
          inside = is.inside;
          before = is.before;
          count = is.count;
          used = is.used;
        })
  ]

  kept_with : (lists : Lists) → AreListed (record after { lists = lists }) → IsKept (record after { lists = lists })
  kept_with lists listed = record {
    at_least = kept.at_least;
    at_most = kept.at_most;
    entries = length-set p.entries page new_entry ∙ kept.entries;
    start_words = kept.start_words;
    free_words = kept.free_words;
    table = kept.table;
    image = kept.image;
    starts = kept.starts;
    in_use = λ j started. let is = in_use_after j started in record {
      listed = is.listed;
      some = is.some;
      in_space = is.in_space;
      table = is.table;
      inside = is.inside;
      before = is.before;
      count = is.count;
      used = is.used;
    };
    leads = λ j first leads.
        let is = kept.leads j first leads in
        let pages = pages_same first in
        (is.0, is.1, omega (arith, is.2, pages));
    free = kept.free;
    taken = kept.taken;
    lists = listed;
  }

  listed_before : (size j : ℕ) → IsListed after size j → IsListed p size j
  listed_before size j is = record { starts = is.starts; outside = is.outside; sized = sym (size_same j) ∙ is.sized }

  listed_after : (size j : ℕ) → IsListed p size j → IsListed after size j
  listed_after size j is = record { starts = is.starts; outside = is.outside; sized = size_same j ∙ is.sized }

  -- the entry has a free place still, and keeps its place in its list
  pub kept_shared : 0 < count_by is_free new_entry.places → IsKept after
  kept_shared some = kept_with p.lists (record {
    count = kept.lists.count;
    nodes = kept.lists.nodes;
    each = λ i size j is. (
      λ held. let l = listed_after size j ((kept.lists.each i size j is).0 held) in record { starts = l.starts; outside = l.outside; sized = l.sized },
      λ listed. (kept.lists.each i size j is).1 (listed_before size j (record { starts = listed.starts; outside = listed.outside; sized = listed.sized })),
    );
    order = λ i j n x y below before at-x at-y free.
        let less = free_less y in
        let first = kept.lists.order i j n x y below before at-x at-y (omega (arith, free, less)) in
        some_after x first;
    cached = kept.lists.cached;
  })
    where
      some_after : (x : ℕ) → 0 < free_places p x → 0 < free_places after x
      some_after x first = elim (cases_eq x page) [
        | inl same ↦ subst (λ i. 0 < free_places after i) (sym same) (let is = free_here in omega (arith, some, is))
        | inr apart ↦ let is = free_other x apart in omega (arith, first, is)
      ]

  -- the entry is full now, and goes to the back of its list
  module _ (l : ℕ) (number : IsSize l old_entry.size) (held : Holds p.lists l page) (full : count_by is_free new_entry.places ≡ 0) where
    abbrev rest : List ℕ
    rest = without page (nodes_of p.lists l)

    abbrev backed : Lists
    backed = with_nodes p.lists l (rest ++ page ∷ [])

    back_same : nodes_of backed l ≡ rest ++ page ∷ []
    back_same = nodes_same p.lists l (rest ++ page ∷ []) (let n = kept.lists.count in let low = size_number l old_entry.size number in omega (arith, n, low))

    back_other : (i : ℕ) → i ≢ l → nodes_of backed i ≡ nodes_of p.lists i
    back_other i apart = nodes_other p.lists l i (rest ++ page ∷ []) apart

    held_old : (i j : ℕ) → Holds backed i j → Holds p.lists i j
    held_old i j there = elim (cases_eq i l) [
      | inl same ↦
          subst (λ n. Holds p.lists n j) (sym same)
          (elim (last_or_before rest page j (subst (λ ns. Contains ns j) back_same (subst (λ n. Holds backed n j) same there))) [
            | inl before ↦ (contains_without page (nodes_of p.lists l) j before).0
            | inr is ↦ subst (λ x. Contains (nodes_of p.lists l) x) is held
          ])
      | inr apart ↦ subst (λ ns. Contains ns j) (back_other i apart) there
    ]

    held_new : (i j : ℕ) → Holds p.lists i j → Holds backed i j
    held_new i j there = elim (cases_eq i l) [
      | inl same ↦
          subst (λ n. Holds backed n j) (sym same)
          (subst (λ ns. Contains ns j) (sym back_same)
          (elim (cases_eq j page) [
            | inl is ↦ Contains-append_right rest (page ∷ []) j (0, omega arith, sym is)
            | inr other ↦
                Contains-append_left rest (page ∷ []) j
                (contains_from_without page (nodes_of p.lists l) j other (subst (λ n. Holds p.lists n j) same there))
          ]))
      | inr apart ↦ subst (λ ns. Contains ns j) (sym (back_other i apart)) there
    ]

    not_full : (y : ℕ) → 0 < free_places after y → y ≢ page
    not_full y free same =
        let some = subst (λ i. 0 < free_places after i) same free in
        let is = free_here in
        omega (arith, some, is, full)

    in_rest : (n y : ℕ) → slice_get (rest ++ page ∷ []) n ≡ Some y → 0 < free_places after y → n < length rest
    in_rest n y at free = elim (cases_lt n (length rest)) [
      | inl low ↦ low
      | inr past ↦ absurd (not_full y free (last_is rest page n y past at))
    ]

    order_same : (j n x y : ℕ) → j < n → slice_get (rest ++ page ∷ []) j ≡ Some x → slice_get (rest ++ page ∷ []) n ≡ Some y
        → 0 < free_places after y → 0 < free_places after x
    order_same j n x y before at-x at-y free =
        let low-n = in_rest n y at-y free in
        let x-at = in_front rest page j x (omega (arith, before, low-n)) at-x in
        let y-at = in_front rest page n y low-n at-y in
        let is = same_order page (nodes_of p.lists l) j n x y before x-at y-at in
        let less = free_less y in
        let first = kept.lists.order l is.first is.second x y (size_number l old_entry.size number) is.before is.at_first is.at_second (omega (arith, free, less)) in
        let other = free_other x (contains_without page (nodes_of p.lists l) x (stands_in rest j x x-at)).1 in
        omega (arith, first, other)

    order_backed : (i j n x y : ℕ) → i < CACHED → j < n → slice_get (nodes_of backed i) j ≡ Some x → slice_get (nodes_of backed i) n ≡ Some y
        → 0 < free_places after y → 0 < free_places after x
    order_backed i j n x y below before at-x at-y free = elim (cases_eq i l) [
      | inl same ↦
          order_same j n x y before
          (subst (λ ns. slice_get ns j ≡ Some x) back_same (subst (λ m. slice_get (nodes_of backed m) j ≡ Some x) same at-x))
          (subst (λ ns. slice_get ns n ≡ Some y) back_same (subst (λ m. slice_get (nodes_of backed m) n ≡ Some y) same at-y)) free
      | inr apart ↦
          let old-x = subst (λ ns. slice_get ns j ≡ Some x) (back_other i apart) at-x in
          let old-y = subst (λ ns. slice_get ns n ≡ Some y) (back_other i apart) at-y in
          let less = free_less y in
          let first = kept.lists.order i j n x y below before old-x old-y (omega (arith, free, less)) in
          let other = free_other x (λ same. apart (own_list p i l old_entry.size page kept below number refl (subst (λ m. Holds p.lists i m) same (stands_in (nodes_of p.lists i) j x old-x)))) in
          omega (arith, first, other)
    ]

    pub kept_backed : IsKept (record after { lists = backed })
    kept_backed = kept_with backed (record {
      count = length-set p.lists.lists l (rest ++ page ∷ []) ∙ kept.lists.count;
      nodes = kept.lists.nodes;
      each = λ i size j is. (
        λ there. let o = listed_after size j ((kept.lists.each i size j is).0 (held_old i j there)) in record { starts = o.starts; outside = o.outside; sized = o.sized },
        λ listed. held_new i j ((kept.lists.each i size j is).1 (listed_before size j (record { starts = listed.starts; outside = listed.outside; sized = listed.sized }))),
      );
      order = order_backed;
      cached = λ j there. kept.lists.cached j (held_old CACHED j there);
    })

  -- ---- the blocks

  here : page_slots after page ≡ with_slot (page_slots p page) (slot_at (page_address page + old_entry.size * k) old_entry.size)
  here =
      let size : ℕ = old_entry.size in
      let start : ℕ = page_address page in
      ap (λ b. cond b (slots_in start (entry_at after.entries page).size (entry_at after.entries page).places) []) starts
      ∙ ap (λ e. slots_in start e.size e.places) entry_here
      ∙ slots_taken start size k (start + size * k) old_entry.places (entry_some p page kept starts) refl low free
      ∙ sym (ap (λ b. with_slot (cond b (slots_in start size old_entry.places) []) (slot_at (start + size * k) size)) starts)

  others : (j : ℕ) → j ≢ page → page_slots after j ≡ page_slots p j
  others j apart = ap (λ e. cond (has p.starts j) (slots_in (page_address j) e.size e.places) []) (entry_other j apart)

  pub slots_shared : (lists : Lists) → IsKept (record after { lists = lists })
      → (contents_of (record after { lists = lists })).slots ≡ with_slot (contents_of p).slots (slot_at (page_address page + old_entry.size * k) old_entry.size)
  slots_shared lists kept-after =
      slots_added p (record after { lists = lists }) page k old_entry.size kept-after refl starts
      (let len = ap (λ e. length e.places) entry_here in let same = len_here in omega (arith, low, len, same)) (ap (λ e. e.size) entry_here) here others

-- ---- the first entry of the list of a size

module _ (p : Parts) (page k l size : ℕ) (kept : IsKept p) (number : IsSize l size) (at : slice_get (nodes_of p.lists l) 0 ≡ Some page)
    (low : k < length (entry_at p.entries page).places) (free : cell_at (entry_at p.entries page).places k ≡ Free) where
  listed : IsListed p size page
  listed = first_listed p kept l size number page at

  pub first_low : page < length p.entries
  first_low = let inside = kept.starts page listed.starts in let len = kept.entries in omega (arith, inside, len)

  pub place_low : k < places_of size
  place_low =
      let many = (kept.in_use page listed.starts).count listed.outside ∙ ap (λ n. places_of n) listed.sized in
      omega (arith, low, many)

  pub shares_first : Contains sizes size → Shares (contents_of p) size (page_address page + size * k)
  shares_first there =
      let within = place_within page size k there place_low in
      let place : HasFreePlace (ledger_of (contents_of p)) size page = free_place p kept size page k listed low free in
      record {
        outside = lies_outside p kept page size (page_address page + size * k) within
            (λ q from to of. let small = place.small in listed.outside (subst (λ i. IsOfImage p i) (omega (arith, from, to, small)) of));
        place = subst (λ i. HasFreePlace (ledger_of (contents_of p)) size i) (sym within.starts) place;
        first = λ i is.
            subst (λ m. slice_get (nodes_of p.lists m) 0 ≡ Some (page_of (page_address page + size * k))) (one_number l i size number is)
            (at ∙ ap (λ m. Some m) (sym within.starts));
      }

  -- the entry stays where it is or, where it is full now, goes to the back
  pub shared_all : (mid new : Parts) → mid ≡ with_place p page k
      → (free_places mid page ≡ 0 → (i : ℕ) → Holds mid.lists i page → new ≡ with_list mid i (without page (nodes_of mid.lists i) ++ page ∷ []))
      → (0 < free_places mid page → new ≡ mid)
      → IsKept new × ((contents_of new).slots ≡ with_slot (contents_of p).slots (slot_at (page_address page + size * k) size))
  shared_all mid new is back stays =
      let here = free_here p page k kept listed.starts low free in
      let same = ap (λ x. free_places x page) is in
      elim (cases_lt 0 (free_places mid page)) [
        | inl some ↦
            finish p.lists (kept_shared p page k kept listed.starts low free (omega (arith, some, same, here))) (stays some ∙ is)
        | inr none ↦
            let full : free_places mid page ≡ 0 = omega (arith, none) in
            let held : Holds p.lists l page = stands_in (nodes_of p.lists l) 0 page at in
            let held-mid : Holds mid.lists l page = subst (λ x. Holds x.lists l page) (sym is) held in
            finish (with_nodes p.lists l (without page (nodes_of p.lists l) ++ page ∷ []))
            (kept_backed p page k kept listed.starts low free l (subst (λ n. IsSize l n) (sym listed.sized) number) held (omega (arith, full, same, here)))
            (back full l held-mid ∙ ap (λ x. with_list x l (without page (nodes_of x.lists l) ++ page ∷ [])) is)
      ]
    where
      finish : (lists : Lists) → IsKept (record (with_place p page k) { lists = lists }) → new ≡ record (with_place p page k) { lists = lists }
          → IsKept new × ((contents_of new).slots ≡ with_slot (contents_of p).slots (slot_at (page_address page + size * k) size))
      finish lists kept-new same = (
        subst (λ x. IsKept x) (sym same) kept-new,
        ap (λ x. (contents_of x).slots) same
            ∙ subst (λ n. (contents_of (record (with_place p page k) { lists = lists })).slots ≡ with_slot (contents_of p).slots (slot_at (page_address page + n * k) n)) listed.sized
            (slots_shared p page k kept listed.starts low free lists kept-new),
      )

pub if_none : {T : Type 0} (r : Option T) (P : Type 0) → P → IfNone r P
if_none None P holds = holds
if_none (Some x) P holds = tt
