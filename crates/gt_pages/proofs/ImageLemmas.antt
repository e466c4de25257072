-- A run of an image that comes into the pages after the image.
use Rattle.std.proofs.Common.{◌≡◌, ◌≢◌, ℕ, ◌+◌, ◌*◌, ◌<◌, ◌≤◌, ◌⊎◌, true, false, length, Some, None, is_some, sym, ap, subst, ◌∙◌, inl, inr, arith}
use Rattle.std.specs.Prelude.{Contains}
use Rattle.std.proofs.lemmas.Bool.{cases_Bool, cases_eq, cases_lt, false≢true}
use Rattle.std.proofs.lemmas.Option.{slice_get_within, get_or_from_slice_get}
use Rattle.std.proofs.lemmas.List.{get_or-set_same, get_or-set_other, length-replicate, length-set}
use Rattle.std.proofs.Math.Nat.{mul-le-mul_right}
use Rattle.gt_bits.specs.Sets.{has}
use Rattle.gt_links.specs.Lists.{Holds, nodes_of}
use Rattle.gt_entries.specs.Cells.{Used}
use Rattle.gt_pages.specs.declared.pages.Run.{Run}
use Rattle.gt_pages.specs.Ledger.{PageRange, pages_of, sizes}
use Rattle.gt_pages.specs.Images.{run_pages}
use Rattle.gt_pages.specs.Tables.{page_at}
use Rattle.gt_pages.specs.Changes.{Opens}
use Rattle.gt_pages.specs.Runs.{AddsRun, image_end, run_entry}
use Rattle.gt_pages.specs.Parts.{IsInUse, IsKept, IsListed, IsOfImage, Parts, entry_at, entry_pages}
use Rattle.gt_pages.proofs.SizeLemmas.{size_bounds}
use Rattle.gt_pages.proofs.PlaceLemmas.{some_pages}
use Rattle.gt_pages.proofs.WhereLemmas.{same_some}

pub run_length : (run : Run) → length (run_entry run).places ≡ run.count
run_length run = length-replicate run.count (Used None)

pub entry_run : (run : Run) → entry_pages (run_entry run) ≡ run_pages run
entry_run run = ap (λ n. pages_of (run.size * n)) (run_length run)

-- a run with a block has a page
run_some : (run : Run) → Contains sizes run.size → 1 ≤ run.count → 1 ≤ run_pages run
run_some run listed some =
    let len = run_length run in
    let pages = some_pages (run_entry run) listed (omega (arith, some, len)) in
    let same = entry_run run in
    omega (arith, pages, same)

-- a run within the space has fewer than 2 ^ 28 blocks
pub run_few : (p : Parts) (run : Run) → IsKept p → Contains sizes run.size → image_end p + run_pages run ≤ p.pages → run.count ≤ 268435456
run_few p run kept listed fits =
    let size = (size_bounds run.size listed).0 in
    let many = mul-le-mul_right {m = 1} {n = run.size} run.count size in
    let most = kept.at_most in
    omega (arith, many, fits, most)

-- no entry in use has a page that is free
pub free_unused : (p : Parts) (first j : ℕ) → IsKept p → has p.free j ≡ true → has p.starts first ≡ true → first ≤ j
    → j < first + entry_pages (entry_at p.entries first) → ⊥
free_unused p first j kept free starts from to =
    false≢true (ap is_some (sym (kept.free j free).1 ∙ (kept.in_use first starts).table j from to))

pub free_unstarted : (p : Parts) (j : ℕ) → IsKept p → has p.free j ≡ true → has p.starts j ≡ false
free_unstarted p j kept free = elim (cases_Bool (has p.starts j)) [
  | inl starts ↦
      let is = kept.in_use j starts in
      let some = some_pages (entry_at p.entries j) is.listed is.some in
      absurd (free_unused p j j kept free starts (omega arith) (omega (arith, some)))
  | inr none ↦ none
]

module _ (p : Parts) (run : Run) (q : Parts) (kept : IsKept p) (listed : Contains sizes run.size) (some : 1 ≤ run.count)
    (fits : image_end p + run_pages run ≤ p.pages)
    (free : (j : ℕ) → image_end p ≤ j → j < image_end p + run_pages run → has p.free j ≡ true)
    (bare : (i x : ℕ) → ¬ (Holds p.lists i x)) (adds : AddsRun p run q) where
  abbrev page : ℕ
  page = image_end p

  abbrev count : ℕ
  count = run_pages run

  abbrev grown : Parts
  grown = record p {
    image = record { first = p.image.first; count = p.image.count + run_pages run };
    entries = q.entries;
    starts = q.starts;
    free = q.free;
    table = q.table;
  }

  abbrev opens : Opens p page (run_entry run) (record q { image = p.image })
  opens = adds.opens

  q_is : q ≡ grown
  q_is =
      ap (λ x. with_image x q.image) opens.rest
      ∙ ap (λ i. with_image (record p { entries = q.entries; starts = q.starts; free = q.free; table = q.table }) i) adds.image
    where
      with_image : Parts → PageRange → Parts
      with_image x i = record x { image = i }

  pub has_page : 1 ≤ count
  has_page = run_some run listed some

  pages_are : entry_pages (run_entry run) ≡ count
  pages_are = entry_run run

  -- where a page lies
  sides : (j : ℕ) → ((page ≤ j) × (j < page + count)) ⊎ ((j < page) ⊎ (page + count ≤ j))
  sides j = elim (cases_lt j page) [
    | inl before ↦ inr (inl before)
    | inr past ↦ elim (cases_lt j (page + count)) [ inl inside ↦ inl (past, inside) | inr after ↦ inr (inr after) ]
  ]

  as_entry : (j : ℕ) → (j < page) ⊎ (page + count ≤ j) → (j < page) ⊎ (page + entry_pages (run_entry run) ≤ j)
  as_entry j out = elim out [ inl before ↦ inl before | inr after ↦ inr (omega (arith, after, pages_are)) ]

  pub entry_here : entry_at q.entries page ≡ run_entry run
  entry_here =
      ap (λ es. entry_at es page) opens.entries
      ∙ get_or-set_same p.entries page (run_entry run) _ (let len = kept.entries in omega (arith, len, fits, has_page))

  pub entry_other : (j : ℕ) → j ≢ page → entry_at q.entries j ≡ entry_at p.entries j
  entry_other j apart = ap (λ es. entry_at es j) opens.entries ∙ get_or-set_other p.entries page j (run_entry run) _ apart

  unstarted : (j : ℕ) → page ≤ j → j < page + count → has p.starts j ≡ false
  unstarted j from to = free_unstarted p j kept (free j from to)

  started_apart : (j : ℕ) → has p.starts j ≡ true → j ≢ page
  started_apart j starts same =
      false≢true (sym (unstarted page (omega arith) (omega (arith, has_page))) ∙ subst (λ i. has p.starts i ≡ true) same starts)

  starts_after : (j : ℕ) → has p.starts j ≡ true → has q.starts j ≡ true
  starts_after j starts = opens.starts j (started_apart j starts) ∙ starts

  starts_before : (j : ℕ) → j ≢ page → has q.starts j ≡ true → has p.starts j ≡ true
  starts_before j apart starts = sym (opens.starts j apart) ∙ starts

  -- the pages of another entry are none of the run's
  lies_outside : (first j : ℕ) → has p.starts first ≡ true → first ≤ j → j < first + entry_pages (entry_at p.entries first)
      → (j < page) ⊎ (page + count ≤ j)
  lies_outside first j starts from to = elim (sides j) [
    | inl inside ↦ absurd (free_unused p first j kept (free j inside.0 inside.1) starts from to)
    | inr out ↦ out
  ]

  -- the image grows by the pages of the run
  image_after : (j : ℕ) → IsOfImage p j → IsOfImage grown j
  image_after j of = (of.0, let low = of.1 in omega (arith, low))

  image_before : (j : ℕ) → IsOfImage grown j → IsOfImage p j ⊎ ((page ≤ j) × (j < page + count))
  image_before j of = elim (cases_lt j page) [
    | inl before ↦ inl (of.0, before)
    | inr past ↦ inr (past, let low = of.1 in omega (arith, low))
  ]

  started_image : (j : ℕ) → has p.starts j ≡ true → IsOfImage grown j → IsOfImage p j
  started_image j starts of = elim (image_before j of) [
    | inl was ↦ was
    | inr inside ↦ absurd (false≢true (sym (unstarted j inside.0 inside.1) ∙ starts))
  ]

  in_use_here : IsInUse grown page (run_entry run)
  in_use_here = record {
    listed = listed;
    some = (let len = run_length run in omega (arith, some, len));
    in_space = omega (arith, fits, pages_are);
    table = λ j from to. opens.table.inside j from to;
    inside = λ of. omega (arith, pages_are);
    before = λ low _. absurd (let no : 1 ≤ 0 = omega (arith, low) in omega (arith, no));
    count = λ out. absurd (out (omega arith, omega (arith, has_page)));
    used = λ out. absurd (out (omega arith, omega (arith, has_page)));
  }

  in_use_other : (j : ℕ) → has p.starts j ≡ true → IsInUse grown j (entry_at p.entries j)
  in_use_other j starts =
      let is = kept.in_use j starts in
      record {
        listed = is.listed;
        some = is.some;
        in_space = is.in_space;
        table = λ k from to. opens.table.outside k (as_entry k (lies_outside j k starts from to)) ∙ is.table k from to;
        inside = λ of. let in' = is.inside (started_image j starts of) in omega (arith, in');
        before = λ low _. elim (cases_lt 0 p.image.count) [
          | inl more ↦ is.before low more
          | inr none ↦ elim (cases_lt page (j + entry_pages (entry_at p.entries j))) [
            | inl over ↦ elim (lies_outside j page starts (omega (arith, low)) over) [
              | inl before ↦ absurd (let no : 1 ≤ 0 = omega (arith, before) in omega (arith, no))
              | inr after ↦ absurd (let no : 1 ≤ 0 = omega (arith, after, has_page) in omega (arith, no))
            ]
            | inr ends ↦ omega (arith, ends, none)
          ]
        ];
        count = λ out. is.count (λ of. out (image_after j of));
        used = λ out. is.used (λ of. out (image_after j of));
      }

  in_use_after : (j : ℕ) → has q.starts j ≡ true → IsInUse grown j (entry_at q.entries j)
  in_use_after j starts = elim (cases_eq j page) [
    | inl same ↦
        subst (λ i. IsInUse grown i (entry_at q.entries i)) (sym same) (subst (λ e. IsInUse grown page e) (sym entry_here) in_use_here)
    | inr apart ↦
        subst (λ e. IsInUse grown j e) (sym (entry_other j apart)) (in_use_other j (starts_before j apart starts))
  ]

  leads_after : (j first : ℕ) → page_at q.table j ≡ Some first
      → (has q.starts first ≡ true) × (first ≤ j) × (j < first + entry_pages (entry_at q.entries first))
  leads_after j first leads = elim (sides j) [
    | inl inside ↦
        let same : page ≡ first = same_some page first (sym (opens.table.inside j inside.0 (omega (arith, inside.1, pages_are))) ∙ leads) in
        subst (λ i. (has q.starts i ≡ true) × (i ≤ j) × (j < i + entry_pages (entry_at q.entries i))) same
        (opens.start, inside.0, (let here = ap entry_pages entry_here in omega (arith, inside.1, pages_are, here)))
    | inr out ↦
        let is = kept.leads j first (sym (opens.table.outside j (as_entry j out)) ∙ leads) in
        let same = ap entry_pages (entry_other first (started_apart first is.0)) in
        (starts_after first is.0, is.1, omega (arith, is.2, same))
  ]

  free_after : (j : ℕ) → has q.free j ≡ true → (j < p.pages) × (page_at q.table j ≡ None) × (¬ (IsOfImage grown j))
  free_after j is-free = elim (sides j) [
    | inl inside ↦ absurd (false≢true (sym (opens.taken j inside.0 (omega (arith, inside.1, pages_are))) ∙ is-free))
    | inr out ↦
        let is = kept.free j (sym (opens.free j (as_entry j out)) ∙ is-free) in (
          is.0,
          opens.table.outside j (as_entry j out) ∙ is.1,
          λ of. elim (image_before j of) [
            | inl was ↦ is.2 was
            | inr inside ↦ elim out [ inl before ↦ omega (arith, before, inside.0) | inr after ↦ omega (arith, after, inside.1) ]
          ],
        )
  ]

  taken_after : (j : ℕ) → j < p.pages → has q.free j ≡ false → (IsOfImage grown j) ⊎ ((first : ℕ) × (page_at q.table j ≡ Some first))
  taken_after j low taken = elim (sides j) [
    | inl inside ↦ inl (omega (arith, inside.0), omega (arith, inside.1))
    | inr out ↦ elim (kept.taken j low (sym (opens.free j (as_entry j out)) ∙ taken)) [
      | inl image ↦ inl (image_after j image)
      | inr leads ↦ inr (leads.0, opens.table.outside j (as_entry j out) ∙ leads.1)
    ]
  ]

  listed_before : (size j : ℕ) → IsListed grown size j → IsListed p size j
  listed_before size j is = elim (cases_eq j page) [
    | inl same ↦ absurd (is.outside (omega (arith, same), omega (arith, same, has_page)))
    | inr apart ↦ record {
      starts = starts_before j apart is.starts;
      outside = λ of. is.outside (image_after j of);
      sized = sym (ap (λ e. e.size) (entry_other j apart)) ∙ is.sized;
    }
  ]

  kept_grown : IsKept grown
  kept_grown = record {
    at_least = kept.at_least;
    at_most = kept.at_most;
    entries = ap (λ es. length es) opens.entries ∙ length-set p.entries page (run_entry run) ∙ kept.entries;
    start_words = let w = kept.start_words in (omega (arith, w.0, opens.start_words), omega (arith, w.1, opens.start_words));
    free_words = let w = kept.free_words in (omega (arith, w.0, opens.free_words), omega (arith, w.1, opens.free_words));
    table = opens.table.len ∙ kept.table;
    image = omega (arith, fits);
    starts = λ j starts. elim (cases_eq j page) [
      | inl same ↦ omega (arith, same, fits, has_page)
      | inr apart ↦ kept.starts j (starts_before j apart starts)
    ];
    in_use = in_use_after;
    leads = leads_after;
    free = free_after;
    taken = taken_after;
    lists = record {
      count = kept.lists.count;
      nodes = kept.lists.nodes;
      each = λ i size j is. (
        λ held. absurd (bare i j held),
        λ of. (kept.lists.each i size j is).1 (listed_before size j (record { starts = of.starts; outside = of.outside; sized = of.sized })),
      );
      order = λ i j k x y low before at-x at-y _.
          absurd (bare i x (j, slice_get_within (nodes_of p.lists i) j x at-x, get_or_from_slice_get (nodes_of p.lists i) j x x at-x));
      cached = λ j held. absurd (bare _ j held);
    };
  }

  pub kept_added : IsKept q
  kept_added = subst (λ x. IsKept x) (sym q_is) kept_grown
