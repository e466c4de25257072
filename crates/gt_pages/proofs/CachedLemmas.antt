-- Cached entries that are released.
use Rattle.std.proofs.Common.{◌≡◌, ◌≢◌, ℕ, zero, suc, ◌+◌, ◌<◌, ◌≤◌, ◌⊎◌, ◌==◌, true, cond, List, [], ◌∷◌, ◌++◌, length, get_or, count_by, flat_map, Some, refl, sym, ap, subst, ◌∙◌, inl, inr, arith}
use Rattle.std.specs.Prelude.{Contains, slice_get}
use Rattle.std.proofs.lemmas.Bool.{cases_eq, cases_Bool, false≢true, eq-eqb, ne_eqb, not_from_true, not_from_false}
use Rattle.std.proofs.lemmas.Option.{slice_get-get_or, slice_get_within, get_or_from_slice_get}
use Rattle.std.proofs.lemmas.List.{get_or-set_same, get_or-set_other, length-set, set-set, set-get_or}
use Rattle.std.proofs.lemmas.List.Elements.{Contains-append_cases}
use Rattle.std.specs.List.{range_with_len}
use Rattle.gt_bits.specs.Sets.{has}
use Rattle.gt_links.specs.Lists.{Lists, Holds, nodes_of, with_nodes, without}
use Rattle.gt_entries.specs.Cells.{is_free}
use Rattle.gt_pages.specs.declared.pages.TheConstants.{CACHED}
use Rattle.gt_pages.specs.declared.store.Entry.{Entry}
use Rattle.gt_pages.specs.Ledger.{page_address, sizes}
use Rattle.gt_pages.specs.Slots.{Slot}
use Rattle.gt_pages.specs.Contents.{Contents, IsSize}
use Rattle.gt_pages.specs.Changes.{Releases, without_cached, without_places}
use Rattle.gt_pages.specs.Parts.{IsInUse, IsKept, Parts, contents_of, entry_at, entry_pages, page_slots, slots_in}

-- ---- lists of nodes

pub no_node : (xs : List ℕ) (x : ℕ) → xs ≡ [] → Contains xs x → ⊥
no_node xs x none there = let len = ap (λ ys. length ys) none in let no : 1 ≤ 0 = omega (arith, there.1, len) in omega (arith, no)

pub contains_later : (y : ℕ) (xs : List ℕ) (x : ℕ) → Contains xs x → Contains (y ∷ xs) x
contains_later y xs x there = (suc there.0, omega (arith, there.1), there.2)

pub contains_cases : (y : ℕ) (xs : List ℕ) (x : ℕ) → Contains (y ∷ xs) x → (y ≡ x) ⊎ Contains xs x
contains_cases y xs x there = elim (Contains-append_cases (y ∷ []) xs x there) [
  | inl first ↦ inl (first_is first.0 first.1 first.2)
  | inr rest ↦ inr rest
]
  where
    first_is : (k : ℕ) → k < 1 → get_or (y ∷ []) k x ≡ x → y ≡ x
    first_is zero low is = is
    first_is (suc k) low is = absurd (let no : 1 ≤ 0 = omega (arith, low) in omega (arith, no))

pub without_one : (x y : ℕ) (ys : List ℕ) → y ≡ x → without x (y ∷ ys) ≡ without x ys
without_one x y ys same = ap (λ b. cond b (y ∷ without x ys) (without x ys)) (not_from_true (y == x) (eq-eqb y x same))

pub without_other : (x y : ℕ) (ys : List ℕ) → y ≢ x → without x (y ∷ ys) ≡ y ∷ without x ys
without_other x y ys apart = ap (λ b. cond b (y ∷ without x ys) (without x ys)) (not_from_false (y == x) (ne_eqb y x apart))

without_few : (x : ℕ) (ys : List ℕ) → length (without x ys) ≤ length ys
without_few x [] = omega arith
without_few x (y ∷ ys) = elim (cases_eq y x) [
  | inl same ↦ let is = ap (λ zs. length zs) (without_one x y ys same) in omega (arith, is, without_few x ys)
  | inr apart ↦ let is = ap (λ zs. length zs) (without_other x y ys apart) in omega (arith, is, without_few x ys)
]

-- one that is there is gone
pub without_fewer : (x : ℕ) (ys : List ℕ) → Contains ys x → length (without x ys) < length ys
without_fewer x [] there = absurd (no_node [] x refl there)
without_fewer x (y ∷ ys) there = elim (cases_eq y x) [
  | inl same ↦ let is = ap (λ zs. length zs) (without_one x y ys same) in omega (arith, is, without_few x ys)
  | inr apart ↦ elim (contains_cases y ys x there) [
    | inl same ↦ absurd (apart same)
    | inr later ↦ let is = ap (λ zs. length zs) (without_other x y ys apart) in omega (arith, is, without_fewer x ys later)
  ]
]

-- what is left was there, and is another
pub contains_without : (x : ℕ) (ys : List ℕ) (z : ℕ) → Contains (without x ys) z → Contains ys z × (z ≢ x)
contains_without x [] z there = absurd (no_node [] z refl there)
contains_without x (y ∷ ys) z there = elim (cases_eq y x) [
  | inl same ↦
      let rest = contains_without x ys z (subst (λ zs. Contains zs z) (without_one x y ys same) there) in
      (contains_later y ys z rest.0, rest.1)
  | inr apart ↦ elim (contains_cases y (without x ys) z (subst (λ zs. Contains zs z) (without_other x y ys apart) there)) [
    | inl is ↦ ((0, omega arith, is), λ same. apart (is ∙ same))
    | inr later ↦ let rest = contains_without x ys z later in (contains_later y ys z rest.0, rest.1)
  ]
]

pub nodes_same : (s : Lists) (i : ℕ) (xs : List ℕ) → i < length s.lists → nodes_of (with_nodes s i xs) i ≡ xs
nodes_same s i xs within = get_or-set_same s.lists i xs [] within

pub nodes_other : (s : Lists) (i j : ℕ) (xs : List ℕ) → j ≢ i → nodes_of (with_nodes s i xs) j ≡ nodes_of s j
nodes_other s i j xs apart = get_or-set_other s.lists i j xs [] apart

abbrev lists_from : Lists → List (List ℕ) → Lists
lists_from s lists = record { lists = lists; nodes = s.nodes }

pub nodes_twice : (s : Lists) (i : ℕ) (xs ys : List ℕ) → with_nodes (with_nodes s i xs) i ys ≡ with_nodes s i ys
nodes_twice s i xs ys = ap (lists_from s) (set-set s.lists i xs ys)

pub nodes_back : (s : Lists) (i : ℕ) → with_nodes s i (nodes_of s i) ≡ s
nodes_back s i = ap (lists_from s) (set-get_or s.lists i [])

-- each number below 29 is that of a size
pub size_number : (i size : ℕ) → IsSize i size → i < CACHED
size_number i size is = slice_get_within sizes i size is

pub number_size : (i : ℕ) → i < CACHED → IsSize i (get_or sizes i 0)
number_size i low = slice_get-get_or sizes i 0 low

abbrev parts_from : Parts → Parts
parts_from p = p

-- ---- parts of which cached entries are released

module _ (p : Parts) (entries : List Entry) (xs : List ℕ) (len : length entries ≡ length p.entries)
    (same : (page : ℕ) → has p.starts page ≡ true → entry_at entries page ≡ entry_at p.entries page)
    (fewer : (page : ℕ) → Contains xs page → Contains (nodes_of p.lists CACHED) page) (kept : IsKept p) where
  abbrev pub released : Parts
  released = record p { entries = entries; lists = with_nodes p.lists CACHED xs }

  other_list : (i : ℕ) → i < CACHED → nodes_of released.lists i ≡ nodes_of p.lists i
  other_list i low = nodes_other p.lists CACHED i xs (λ is. omega (arith, low, is))

  in_use_released : (page : ℕ) → IsInUse p page (entry_at p.entries page) → has p.starts page ≡ true → IsInUse released page (entry_at entries page)
  in_use_released page is starts =
      let e = same page starts in
      subst (λ entry. IsInUse released page entry) (sym e)
      (record {
        listed = is.listed;
        some = is.some;
        in_space = is.in_space;
        table = is.table;
        inside = is.inside;
        before = is.before;
        count = is.count;
        used = is.used;
      })

  starts_in : (i y k : ℕ) → i < CACHED → slice_get (nodes_of p.lists i) k ≡ Some y → has p.starts y ≡ true
  starts_in i y k low at =
      let held : Holds p.lists i y = (k, slice_get_within (nodes_of p.lists i) k y at, get_or_from_slice_get (nodes_of p.lists i) k y y at) in
      ((kept.lists.each i (get_or sizes i 0) y (number_size i low)).0 held).starts

  pub kept_released : IsKept released
  kept_released = record {
    at_least = kept.at_least;
    at_most = kept.at_most;
    entries = len ∙ kept.entries;
    start_words = kept.start_words;
    free_words = kept.free_words;
    table = kept.table;
    image = kept.image;
    starts = kept.starts;
    in_use = λ page starts. in_use_released page (kept.in_use page starts) starts;
    leads = λ page first leads.
        let is = kept.leads page first leads in
        (is.0, is.1, subst (λ e. page < first + entry_pages e) (sym (same first is.0)) is.2);
    free = kept.free;
    taken = kept.taken;
    lists = record {
      count = length-set p.lists.lists CACHED xs ∙ kept.lists.count;
      nodes = kept.lists.nodes;
      each = λ i size page is.
          let low = size_number i size is in (
            λ held.
                let l = (kept.lists.each i size page is).0 (subst (λ ns. Contains ns page) (other_list i low) held) in
                record { starts = l.starts; outside = l.outside; sized = ap (λ e. e.size) (same page l.starts) ∙ l.sized },
            λ listed. subst (λ ns. Contains ns page) (sym (other_list i low))
                ((kept.lists.each i size page is).1
                (record { starts = listed.starts; outside = listed.outside; sized = sym (ap (λ e. e.size) (same page listed.starts)) ∙ listed.sized })),
          );
      order = λ i j k x y low before at-x at-y some.
          let old-x = subst (λ ns. slice_get ns j ≡ Some x) (other_list i low) at-x in
          let old-y = subst (λ ns. slice_get ns k ≡ Some y) (other_list i low) at-y in
          let e-x = ap (λ e. count_by is_free e.places) (same x (starts_in i x j low old-x)) in
          let e-y = ap (λ e. count_by is_free e.places) (same y (starts_in i y k low old-y)) in
          let first = kept.lists.order i j k x y low before old-x old-y (omega (arith, some, e-y)) in
          omega (arith, first, e-x);
      cached = λ page held.
          kept.lists.cached page
          (fewer page (subst (λ ns. Contains ns page) (nodes_same p.lists CACHED xs (let n = kept.lists.count in omega (arith, n))) held));
    };
  }

-- one cached entry is released
module _ (p : Parts) (node : ℕ) (kept : IsKept p) (cached : Holds p.lists CACHED node) where
  others_same : (page : ℕ) → has p.starts page ≡ true → entry_at (without_cached p node).entries page ≡ entry_at p.entries page
  others_same page starts =
      get_or-set_other p.entries node page _ _ (λ is. false≢true (sym (kept.lists.cached node cached) ∙ subst (λ k. has p.starts k ≡ true) is starts))

  pub kept_without : IsKept (without_cached p node)
  kept_without =
      kept_released p (without_cached p node).entries (without node (nodes_of p.lists CACHED)) (length-set p.entries node _) others_same
      (λ page there. (contains_without node (nodes_of p.lists CACHED) page there).0) kept

  pub kept_taken : IsKept (without_places p node)
  kept_taken =
      subst (λ l. IsKept (parts_from (record p { entries = (without_places p node).entries; lists = l }))) (nodes_back p.lists CACHED)
      (kept_released p (without_places p node).entries (nodes_of p.lists CACHED) (length-set p.entries node _) others_same (λ page there. there) kept)

  pub releases_taken : Releases p (without_places p node)
  releases_taken = record {
    entries = length-set p.entries node _;
    rest = ap (λ l. parts_from (record p { entries = (without_places p node).entries; lists = l })) (sym (nodes_back p.lists CACHED));
    in_use = others_same;
  }

  pub fewer_cached : length (nodes_of (without_cached p node).lists CACHED) < length (nodes_of p.lists CACHED)
  fewer_cached =
      let n = kept.lists.count in
      let is = ap (λ xs. length xs) (nodes_same p.lists CACHED (without node (nodes_of p.lists CACHED)) (omega (arith, n))) in
      omega (arith, is, without_fewer node (nodes_of p.lists CACHED) cached)

  pub releases_step : (old : Parts) → Releases old p → Releases old (without_cached p node)
  releases_step old so-far = record {
    entries = length-set p.entries node _ ∙ so-far.entries;
    rest = rest;
    in_use = λ page starts. others_same page (ap (λ s. has s page) starts_same ∙ starts) ∙ so-far.in_use page starts;
  }
    where
      entries : List Entry
      entries = (without_cached p node).entries

      xs : List ℕ
      xs = without node (nodes_of p.lists CACHED)

      starts_same : p.starts ≡ old.starts
      starts_same = ap (λ q. q.starts) so-far.rest

      at_end : nodes_of (with_nodes p.lists CACHED xs) CACHED ≡ xs
      at_end = nodes_same p.lists CACHED xs (let n = kept.lists.count in omega (arith, n))

      rest : without_cached p node ≡ record old { entries = entries; lists = with_nodes old.lists CACHED (nodes_of (without_cached p node).lists CACHED) }
      rest =
          ap (λ q. parts_from (record q { entries = entries; lists = with_nodes q.lists CACHED xs })) so-far.rest
          ∙ ap (λ l. parts_from (record old { entries = entries; lists = l })) (nodes_twice old.lists CACHED (nodes_of p.lists CACHED) xs)
          ∙ ap (λ ns. parts_from (record old { entries = entries; lists = with_nodes old.lists CACHED ns })) (sym at_end)

-- one release after another
pub releases_then : (old mid new : Parts) → Releases old mid → Releases mid new → Releases old new
releases_then old mid new first second = record {
  entries = second.entries ∙ first.entries;
  rest =
      second.rest
      ∙ ap (λ q. parts_from (record q { entries = new.entries; lists = with_nodes q.lists CACHED (nodes_of new.lists CACHED) })) first.rest
      ∙ ap (λ l. parts_from (record old { entries = new.entries; lists = l }))
      (nodes_twice old.lists CACHED (nodes_of mid.lists CACHED) (nodes_of new.lists CACHED));
  in_use = λ page starts. second.in_use page (ap (λ q. has q.starts page) first.rest ∙ starts) ∙ first.in_use page starts;
}

-- ---- what the pages hold

module _ (f g : ℕ → List Slot) where
  pub flat_same : (a n : ℕ) → ((k : ℕ) → a ≤ k → k < a + n → g k ≡ f k) → flat_map g (range_with_len a n) ≡ flat_map f (range_with_len a n)
  flat_same a zero each = refl
  flat_same a (suc n) each =
      ap (λ xs. xs ++ flat_map g (range_with_len (a + 1) n)) (each a (omega arith) (omega arith))
      ∙ ap (λ xs. f a ++ xs) (flat_same (a + 1) n (λ k high low. each k (omega (arith, high)) (omega (arith, low))))

-- the blocks are as they were
pub contents_released : (old new : Parts) → Releases old new
    → contents_of new ≡ record { slots = (contents_of old).slots; image = old.image; pages = old.pages; lists = with_nodes old.lists CACHED (nodes_of new.lists CACHED) }
contents_released old new is =
    ap (λ q. contents_of q) is.rest
    ∙ ap (λ xs. from (record { slots = xs; image = old.image; pages = old.pages; lists = with_nodes old.lists CACHED (nodes_of new.lists CACHED) }))
    (flat_same (page_slots old) (page_slots (record old { entries = new.entries; lists = with_nodes old.lists CACHED (nodes_of new.lists CACHED) })) 0 old.pages (λ k _ _. page_same k))
  where
    from : Contents → Contents
    from c = c

    all : Entry → ℕ → List Slot
    all e k = slots_in (page_address k) e.size e.places

    page_same : (k : ℕ) → page_slots (record old { entries = new.entries; lists = with_nodes old.lists CACHED (nodes_of new.lists CACHED) }) k ≡ page_slots old k
    page_same k = elim (cases_Bool (has old.starts k)) [
      | inl starts ↦ ap (λ e. cond (has old.starts k) (all e k) []) (is.in_use k starts)
      | inr none ↦
          ap (λ b. cond b (all (entry_at new.entries k) k) []) none
          ∙ sym (ap (λ b. cond b (all (entry_at old.entries k) k) []) none)
    ]

-- nothing that the pages hold has changed where the lists are as they were
pub contents_taken : (old new : Parts) → Releases old new → new.lists ≡ old.lists → contents_of new ≡ contents_of old
contents_taken old new is lists =
    contents_released old new is
    ∙ ap (λ l. from (record { slots = (contents_of old).slots; image = old.image; pages = old.pages; lists = l }))
    (ap (λ l. with_nodes old.lists CACHED (nodes_of l CACHED)) lists ∙ nodes_back old.lists CACHED)
  where
    from : Contents → Contents
    from c = c

-- no entry is cached any more
pub contents_emptied : (old new : Parts) → Releases old new → nodes_of new.lists CACHED ≡ []
    → contents_of new ≡ record (contents_of old) { lists = with_nodes old.lists CACHED [] }
contents_emptied old new is none =
    contents_released old new is
    ∙ ap (λ ns. from (record { slots = (contents_of old).slots; image = old.image; pages = old.pages; lists = with_nodes old.lists CACHED ns })) none
  where
    from : Contents → Contents
    from c = c
