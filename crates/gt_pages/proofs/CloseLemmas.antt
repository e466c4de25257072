-- An entry that is closed.
use Rattle.std.proofs.Common.{◌≡◌, ◌≢◌, ℕ, zero, suc, ◌+◌, ◌<◌, ◌≤◌, ◌⊎◌, true, false, List, [], ◌∷◌, length, Some, None, is_some, unwrap_or, refl, sym, ap, subst, ◌∙◌, inl, inr, arith}
use Rattle.std.specs.Prelude.{Contains, slice_get}
use Rattle.std.proofs.lemmas.Bool.{cases_eq, cases_lt, false≢true}
use Rattle.std.proofs.lemmas.Option.{slice_get-get_or}
use Rattle.std.proofs.lemmas.List.{get_or_past, length-set}
use Rattle.gt_bits.specs.Sets.{has}
use Rattle.gt_links.specs.Lists.{Lists, Holds, nodes_of, with_nodes, without}
use Rattle.gt_pages.specs.declared.pages.TheConstants.{CACHED}
use Rattle.gt_pages.specs.declared.store.Entry.{Entry}
use Rattle.gt_pages.specs.Ledger.{sizes}
use Rattle.gt_pages.specs.Contents.{IsSize}
use Rattle.gt_pages.specs.Tables.{page_at}
use Rattle.gt_pages.specs.Changes.{Closes, to_cached}
use Rattle.gt_pages.specs.Parts.{IsInUse, IsKept, IsOfImage, Parts, entry_at, entry_pages, free_places}
use Rattle.gt_pages.proofs.CachedLemmas.{contains_cases, contains_later, contains_without, no_node, nodes_other, nodes_same, nodes_twice, size_number, without_one, without_other}
use Rattle.gt_pages.proofs.NextLemmas.{entry_ends}

pub lists_length : (s : Lists) (i page : ℕ) → length (with_nodes s i (without page (nodes_of s i))).lists ≡ length s.lists
lists_length s i page = length-set s.lists i (without page (nodes_of s i))

-- the list of an entry in use outside the image
pub held_in : (p : Parts) (page : ℕ) → IsKept p → has p.starts page ≡ true → ¬ (IsOfImage p page) → (i : ℕ) × (i < CACHED) × Holds p.lists i page
held_in p page kept starts outside =
    let size : ℕ = (entry_at p.entries page).size in
    let there = (kept.in_use page starts).listed in
    let is : IsSize there.0 size = slice_get-get_or sizes there.0 size there.1 ∙ ap (λ x. Some x) there.2 in
    (there.0, size_number there.0 size is, (kept.lists.each there.0 size page is).1 (record { starts = starts; outside = outside; sized = refl }))

-- another node stays
pub contains_from_without : (x : ℕ) (ys : List ℕ) (z : ℕ) → z ≢ x → Contains ys z → Contains (without x ys) z
contains_from_without x [] z apart there = absurd (no_node [] z refl there)
contains_from_without x (y ∷ ys) z apart there = elim (cases_eq y x) [
  | inl same ↦
      subst (λ zs. Contains zs z) (sym (without_one x y ys same))
      (elim (contains_cases y ys z there) [
        | inl is ↦ absurd (apart (sym is ∙ same))
        | inr later ↦ contains_from_without x ys z apart later
      ])
  | inr other ↦
      subst (λ zs. Contains zs z) (sym (without_other x y ys other))
      (elim (contains_cases y ys z there) [
        | inl is ↦ (0, omega arith, is)
        | inr later ↦ contains_later y (without x ys) z (contains_from_without x ys z apart later)
      ])
]

-- where a node that stays stood before
stood : (x : ℕ) (ys : List ℕ) (k z : ℕ) → slice_get (without x ys) k ≡ Some z → (i : ℕ) × (slice_get ys i ≡ Some z)
stood x [] k z at = (k, at)
stood x (y ∷ ys) k z at = elim (cases_eq y x) [
  | inl same ↦
      let rest = stood x ys k z (subst (λ zs. slice_get zs k ≡ Some z) (without_one x y ys same) at) in (suc rest.0, rest.1)
  | inr apart ↦ step y k (subst (λ zs. slice_get zs k ≡ Some z) (without_other x y ys apart) at) (λ k at. stood x ys k z at)
]
  where
    step : (y k : ℕ) → slice_get (y ∷ without x ys) k ≡ Some z → ((k : ℕ) → slice_get (without x ys) k ≡ Some z → (i : ℕ) × (slice_get ys i ≡ Some z))
        → (i : ℕ) × (slice_get (y ∷ ys) i ≡ Some z)
    step y zero at more = (0, at)
    step y (suc k) at more = let rest = more k at in (suc rest.0, rest.1)

-- nodes that stay stood in the same order
pub record InOrder (ys : List ℕ) (a b : ℕ) : Type 0 where
  pub first : ℕ
  pub second : ℕ
  pub before : first < second
  pub at_first : slice_get ys first ≡ Some a
  pub at_second : slice_get ys second ≡ Some b

abbrev later : (y : ℕ) (ys : List ℕ) (a b : ℕ) → InOrder ys a b → InOrder (y ∷ ys) a b
later y ys a b is = record { first = suc is.first; second = suc is.second; before = let low = is.before in omega (arith, low); at_first = is.at_first; at_second = is.at_second }

pub same_order : (x : ℕ) (ys : List ℕ) (j k a b : ℕ) → j < k → slice_get (without x ys) j ≡ Some a → slice_get (without x ys) k ≡ Some b → InOrder ys a b
same_order x [] j k a b before at-a at-b = record { first = j; second = k; before = before; at_first = at-a; at_second = at-b }
same_order x (y ∷ ys) j k a b before at-a at-b = elim (cases_eq y x) [
  | inl same ↦
      later y ys a b
      (same_order x ys j k a b before (subst (λ zs. slice_get zs j ≡ Some a) (without_one x y ys same) at-a) (subst (λ zs. slice_get zs k ≡ Some b) (without_one x y ys same) at-b))
  | inr apart ↦
      step j k before (subst (λ zs. slice_get zs j ≡ Some a) (without_other x y ys apart) at-a) (subst (λ zs. slice_get zs k ≡ Some b) (without_other x y ys apart) at-b)
      (λ j k before at-a at-b. same_order x ys j k a b before at-a at-b)
]
  where
    step : (j k : ℕ) → j < k → slice_get (y ∷ without x ys) j ≡ Some a → slice_get (y ∷ without x ys) k ≡ Some b
        → ((j k : ℕ) → j < k → slice_get (without x ys) j ≡ Some a → slice_get (without x ys) k ≡ Some b → InOrder ys a b) → InOrder (y ∷ ys) a b
    step zero zero before at-a at-b more = absurd (let no : 1 ≤ 0 = omega (arith, before) in omega (arith, no))
    step zero (suc k) before at-a at-b more =
        let rest = stood x ys k b at-b in record { first = 0; second = suc rest.0; before = omega arith; at_first = at-a; at_second = rest.1 }
    step (suc j) zero before at-a at-b more = absurd (let no : 1 ≤ 0 = omega (arith, before) in omega (arith, no))
    step (suc j) (suc k) before at-a at-b more = later y ys a b (more j k (omega (arith, before)) at-a at-b)

-- ---- the parts after

module _ (p q : Parts) (page : ℕ) (kept : IsKept p) (started : has p.starts page ≡ true) (outside : ¬ (IsOfImage p page)) (closes : Closes p page q) where
  abbrev pub closed : Parts
  closed = record p { starts = q.starts; free = q.free; table = q.table; lists = q.lists }

  abbrev entry : Entry
  entry = entry_at p.entries page

  was_start : (j : ℕ) → has q.starts j ≡ true → (j ≢ page) × (has p.starts j ≡ true)
  was_start j starts =
      let apart : j ≢ page = λ same. false≢true (sym closes.gone ∙ subst (λ i. has q.starts i ≡ true) same starts) in
      (apart, sym (closes.starts j apart) ∙ starts)

  is_start : (j : ℕ) → j ≢ page → has p.starts j ≡ true → has q.starts j ≡ true
  is_start j apart starts = closes.starts j apart ∙ starts

  -- the pages of another entry lie outside those of this one
  lies_outside : (first j : ℕ) → first ≢ page → has p.starts first ≡ true → first ≤ j → j < first + entry_pages (entry_at p.entries first)
      → (j < page) ⊎ (page + entry_pages entry ≤ j)
  lies_outside first j apart starts from to = elim (cases_lt first page) [
    | inl before ↦ let ends = entry_ends p first page kept starts started before in inl (omega (arith, to, ends))
    | inr past ↦ let ends = entry_ends p page first kept started starts (omega (arith, past, apart)) in inr (omega (arith, from, ends))
  ]

  where_is : (j : ℕ) → ((page ≤ j) × (j < page + entry_pages entry)) ⊎ ((j < page) ⊎ (page + entry_pages entry ≤ j))
  where_is j = elim (cases_lt j page) [
    | inl before ↦ inr (inl before)
    | inr past ↦ elim (cases_lt j (page + entry_pages entry)) [ inl inside ↦ inl (past, inside) | inr after ↦ inr (inr after) ]
  ]

  in_use_closed : (j : ℕ) → has q.starts j ≡ true → IsInUse closed j (entry_at p.entries j)
  in_use_closed j starts =
      let was = was_start j starts in
      let is = kept.in_use j was.1 in
      record {
        listed = is.listed;
        some = is.some;
        in_space = is.in_space;
        table = λ k from to. closes.table.outside k (lies_outside j k was.0 was.1 from to) ∙ is.table k from to;
        inside = is.inside;
        before = is.before;
        count = is.count;
        used = is.used;
      }

  leads_closed : (j first : ℕ) → page_at q.table j ≡ Some first → (has q.starts first ≡ true) × (first ≤ j) × (j < first + entry_pages (entry_at p.entries first))
  leads_closed j first leads = elim (where_is j) [
    | inl inside ↦ absurd (false≢true (ap is_some (sym (closes.table.inside j inside.0 inside.1) ∙ leads)))
    | inr out ↦
        let is = kept.leads j first (sym (closes.table.outside j out) ∙ leads) in
        let apart : first ≢ page = λ same. not_both j out first same is.1 is.2 in
        (is_start first apart is.0, is.1, is.2)
  ]
    where
      not_both : (j : ℕ) → (j < page) ⊎ (page + entry_pages entry ≤ j) → (first : ℕ) → first ≡ page → first ≤ j → j < first + entry_pages (entry_at p.entries first) → ⊥
      not_both j out first same from to =
          let from' : page ≤ j = subst (λ i. i ≤ j) same from in
          let to' : j < page + entry_pages entry = subst (λ i. j < i + entry_pages (entry_at p.entries i)) same to in
          elim out [ inl before ↦ omega (arith, before, from') | inr after ↦ omega (arith, after, to') ]

  not_of_image : (j : ℕ) → page ≤ j → j < page + entry_pages entry → ¬ (IsOfImage p j)
  not_of_image j from to of =
      let in-use = kept.in_use page started in
      elim (cases_lt page p.image.first) [
        | inl before ↦ let ends = in-use.before before (omega (arith, of.0, of.1)) in omega (arith, ends, of.0, to)
        | inr past ↦ outside (past, let low = of.1 in omega (arith, low, from))
      ]

  free_closed : (j : ℕ) → has q.free j ≡ true → (j < p.pages) × (page_at q.table j ≡ None) × (¬ (IsOfImage p j))
  free_closed j free = elim (where_is j) [
    | inl inside ↦ (
      let ends = (kept.in_use page started).in_space in omega (arith, inside.1, ends),
      closes.table.inside j inside.0 inside.1,
      not_of_image j inside.0 inside.1,
    )
    | inr out ↦ let is = kept.free j (sym (closes.free j out) ∙ free) in (is.0, closes.table.outside j out ∙ is.1, is.2)
  ]

  taken_closed : (j : ℕ) → j < p.pages → has q.free j ≡ false → (IsOfImage p j) ⊎ ((first : ℕ) × (page_at q.table j ≡ Some first))
  taken_closed j low taken = elim (where_is j) [
    | inl inside ↦ absurd (false≢true (sym taken ∙ closes.freed j inside.0 inside.1))
    | inr out ↦ elim (kept.taken j low (sym (closes.free j out) ∙ taken)) [
      | inl image ↦ inl image
      | inr leads ↦ inr (leads.0, closes.table.outside j out ∙ leads.1)
    ]
  ]

  -- the lists
  abbrev held : (i : ℕ) × (i < CACHED) × Holds p.lists i page
  held = held_in p page kept started outside

  abbrev left : List ℕ
  left = without page (nodes_of p.lists held.0)

  abbrev mid : Lists
  mid = with_nodes p.lists held.0 left

  lists_are : q.lists ≡ to_cached p.lists held.0 page
  lists_are = closes.lists held.0 held.2

  list_other : (i : ℕ) → i ≢ held.0 → i < CACHED → nodes_of q.lists i ≡ nodes_of p.lists i
  list_other i apart low =
      ap (λ s. nodes_of s i) lists_are
      ∙ nodes_other mid CACHED i _ (λ same. omega (arith, same, low))
      ∙ nodes_other p.lists held.0 i left apart

  mid_same : (i : ℕ) → i < CACHED → nodes_of q.lists i ≡ nodes_of mid i
  mid_same i low = ap (λ s. nodes_of s i) lists_are ∙ nodes_other mid CACHED i _ (λ same. omega (arith, same, low))

  list_same : nodes_of q.lists held.0 ≡ left
  list_same =
      mid_same held.0 held.1
      ∙ nodes_same p.lists held.0 left (let n = kept.lists.count in let low = held.1 in omega (arith, n, low))

  pub list_cached : nodes_of q.lists CACHED ≡ page ∷ nodes_of p.lists CACHED
  list_cached =
      ap (λ s. nodes_of s CACHED) lists_are
      ∙ nodes_same mid CACHED _ (let n = kept.lists.count in let len = length-set p.lists.lists held.0 left in omega (arith, n, len))
      ∙ ap (λ ns. page ∷ ns) (nodes_other p.lists held.0 CACHED left (λ same. let low = held.1 in omega (arith, same, low)))

  held_before : (i j : ℕ) → i < CACHED → Holds q.lists i j → Holds p.lists i j × (j ≢ page)
  held_before i j low there = (
    elim (cases_eq i held.0) [
      | inl same ↦
          subst (λ n. Holds p.lists n j) (sym same)
          ((contains_without page (nodes_of p.lists held.0) j (subst (λ ns. Contains ns j) list_same (subst (λ n. Holds q.lists n j) same there))).0)
      | inr apart ↦ subst (λ ns. Contains ns j) (list_other i apart low) there
    ],
    λ same.
        closes.unlisted held.0 i held.2
        (subst (λ n. Contains (nodes_of mid i) n) same (subst (λ ns. Contains ns j) (mid_same i low) there)),
  )

  holds_after : (i j : ℕ) → i < CACHED → j ≢ page → Holds p.lists i j → Holds q.lists i j
  holds_after i j low other there = elim (cases_eq i held.0) [
    | inl same ↦
        subst (λ n. Holds q.lists n j) (sym same)
        (subst (λ ns. Contains ns j) (sym list_same) (contains_from_without page (nodes_of p.lists held.0) j other (subst (λ n. Holds p.lists n j) same there)))
    | inr apart ↦ subst (λ ns. Contains ns j) (sym (list_other i apart low)) there
  ]

  order_closed : (i j k x y : ℕ) → i < CACHED → j < k → slice_get (nodes_of q.lists i) j ≡ Some x → slice_get (nodes_of q.lists i) k ≡ Some y
      → 0 < free_places p y → 0 < free_places p x
  order_closed i j k x y low before at-x at-y some = elim (cases_eq i held.0) [
    | inl same ↦
        let is = same_order page (nodes_of p.lists held.0) j k x y before
        (subst (λ ns. slice_get ns j ≡ Some x) list_same (subst (λ n. slice_get (nodes_of q.lists n) j ≡ Some x) same at-x))
        (subst (λ ns. slice_get ns k ≡ Some y) list_same (subst (λ n. slice_get (nodes_of q.lists n) k ≡ Some y) same at-y)) in
        kept.lists.order held.0 is.first is.second x y held.1 is.before is.at_first is.at_second some
    | inr apart ↦
        kept.lists.order i j k x y low before
        (subst (λ ns. slice_get ns j ≡ Some x) (list_other i apart low) at-x)
        (subst (λ ns. slice_get ns k ≡ Some y) (list_other i apart low) at-y) some
  ]

  cached_closed : (j : ℕ) → Holds q.lists CACHED j → has q.starts j ≡ false
  cached_closed j there = elim (contains_cases page (nodes_of p.lists CACHED) j (subst (λ ns. Contains ns j) list_cached there)) [
    | inl is ↦ subst (λ i. has q.starts i ≡ false) is closes.gone
    | inr old ↦
        let none = kept.lists.cached j old in
        closes.starts j (λ same. false≢true (sym none ∙ subst (λ i. has p.starts i ≡ true) (sym same) started)) ∙ none
  ]

  kept_closed_rest : IsKept closed
  kept_closed_rest = record {
    at_least = kept.at_least;
    at_most = kept.at_most;
    entries = kept.entries;
    start_words = let w = kept.start_words in (omega (arith, w.0, closes.start_words), omega (arith, w.1, closes.start_words));
    free_words = let w = kept.free_words in (omega (arith, w.0, closes.free_words), omega (arith, w.1, closes.free_words));
    table = closes.table.len ∙ kept.table;
    image = kept.image;
    starts = λ j starts. kept.starts j (was_start j starts).1;
    in_use = in_use_closed;
    leads = leads_closed;
    free = free_closed;
    taken = taken_closed;
    lists = record {
      count =
          ap (λ s. length s.lists) lists_are
          ∙ length-set mid.lists CACHED _
          ∙ length-set p.lists.lists held.0 left
          ∙ kept.lists.count;
      nodes = ap (λ s. s.nodes) lists_are ∙ kept.lists.nodes;
      each = λ i size j is.
          let low = size_number i size is in (
            λ there.
                let before = held_before i j low there in
                let l = (kept.lists.each i size j is).0 before.0 in
                record { starts = is_start j before.1 l.starts; outside = l.outside; sized = l.sized },
            λ listed.
                let was = was_start j listed.starts in
                holds_after i j low was.0 ((kept.lists.each i size j is).1 (record { starts = was.1; outside = listed.outside; sized = listed.sized })),
          );
      order = order_closed;
      cached = cached_closed;
    };
  }

  pub kept_closed : IsKept q
  kept_closed = subst (λ x. IsKept x) (sym closes.rest) kept_closed_rest

-- ---- a node that moves to the front of its list

pub some_list : (x y : ℕ) → Some x ≡ Some y → x ≡ y
some_list x y e = ap (λ o. unwrap_or o 0) e

within : (s : Lists) (i x : ℕ) → Holds s i x → i < length s.lists
within s i x held = elim (cases_lt i (length s.lists)) [
  | inl low ↦ low
  | inr past ↦ absurd (no_node (nodes_of s i) x (get_or_past s.lists i [] past) held)
]

pub moved_front : (s t u : Lists) (l i page : ℕ) → l ≡ i → Holds s i page → t ≡ with_nodes s i (without page (nodes_of s i))
    → u ≡ with_nodes t l (page ∷ nodes_of t l) → u ≡ with_nodes s i (page ∷ without page (nodes_of s i))
moved_front s t u l i page same held taken pushed =
    let xs : List ℕ = without page (nodes_of s i) in
    pushed
    ∙ ap (λ n. with_nodes t n (page ∷ nodes_of t n)) same
    ∙ ap (λ v. with_nodes v i (page ∷ nodes_of v i)) taken
    ∙ ap (λ ns. with_nodes (with_nodes s i xs) i (page ∷ ns)) (nodes_same s i xs (within s i page held))
    ∙ nodes_twice s i xs (page ∷ xs)
