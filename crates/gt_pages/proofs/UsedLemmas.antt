-- A cached entry that is used for a new page.
use Rattle.std.proofs.Common.{◌≡◌, ℕ, suc, ◌+◌, ◌<◌, List, [], ◌∷◌, ◌++◌, length, get_or, Some, refl, sym, ap, subst, ◌∙◌, inl, inr, arith}
use Rattle.std.specs.Prelude.{Contains, nat_eq, slice_get}
use Rattle.std.specs.List.{IsDistinct}
use Rattle.std.proofs.lemmas.Bool.{cases_eq, cases_lt, eq-eqb, false≢true}
use Rattle.std.proofs.lemmas.Map.Keys.{IsDistinct-tail, apart_from_distinct}
use Rattle.gt_links.specs.Lists.{Lists, Holds, nodes_of, with_nodes, without}
use Rattle.gt_pages.specs.declared.pages.TheConstants.{CACHED}
use Rattle.gt_pages.specs.Ledger.{HasSharedPage, page_of}
use Rattle.gt_pages.specs.Contents.{IsSize, UsesCached, ledger_of}
use Rattle.gt_pages.specs.Places.{Shares}
use Rattle.gt_pages.specs.Changes.{UsesOne, with_list, with_place}
use Rattle.gt_pages.specs.Parts.{Parts, contents_of, free_places}
use Rattle.gt_pages.proofs.CachedLemmas.{contains_cases, contains_later, contains_without, no_node, nodes_other, nodes_same, size_number, without_one, without_other}
use Rattle.gt_pages.proofs.ShareLemmas.{stands_in}

-- ---- lists of nodes

-- a node that stands first stands nowhere else
apart_head : (x : ℕ) (xs : List ℕ) → IsDistinct nat_eq (x ∷ xs) → Contains xs x → ⊥
apart_head x xs distinct there =
    let apart = apart_from_distinct nat_eq (x ∷ xs) 0 (suc there.0) x distinct (omega arith) (omega (arith, there.1)) in
    false≢true (sym apart ∙ eq-eqb x (get_or xs there.0 x) (sym there.2))

without_none : (x : ℕ) (ys : List ℕ) → (Contains ys x → ⊥) → length (without x ys) ≡ length ys
without_none x [] none = refl
without_none x (y ∷ ys) none =
    let is = ap (λ zs. length zs) (without_other x y ys (λ same. none (0, omega arith, same))) in
    let rest = without_none x ys (λ there. none (contains_later y ys x there)) in
    omega (arith, is, rest)

without_one_less : (x : ℕ) (ys : List ℕ) → IsDistinct nat_eq ys → Contains ys x → length (without x ys) + 1 ≡ length ys
without_one_less x [] distinct there = absurd (no_node [] x refl there)
without_one_less x (y ∷ ys) distinct there = elim (cases_eq y x) [
  | inl same ↦
      let is = ap (λ zs. length zs) (without_one x y ys same) in
      let rest = without_none x ys (λ later. apart_head y ys distinct (subst (λ z. Contains ys z) (sym same) later)) in
      omega (arith, is, rest)
  | inr apart ↦ elim (contains_cases y ys x there) [
    | inl same ↦ absurd (apart same)
    | inr later ↦
        let is = ap (λ zs. length zs) (without_other x y ys apart) in
        let rest = without_one_less x ys (IsDistinct-tail nat_eq y ys distinct) later in
        omega (arith, is, rest)
  ]
]

-- ---- one cached entry less

pub used_one : (s : Lists) (node : ℕ) → CACHED < length s.lists → IsDistinct nat_eq (nodes_of s CACHED) → Holds s CACHED node
    → UsesOne s (with_nodes s CACHED (without node (nodes_of s CACHED)))
used_one s node within distinct held =
    let same = nodes_same s CACHED (without node (nodes_of s CACHED)) within in
    record {
      fewer = (let len = ap (λ ns. length ns) same in let less = without_one_less node (nodes_of s CACHED) distinct held in omega (arith, len, less));
      kept = λ page there. (contains_without node (nodes_of s CACHED) page (subst (λ ns. Contains ns page) same there)).0;
    }

-- the entry of a new page comes into the list of its size
pub used_opened : (old mid rel put new : Parts) (page l size : ℕ) → IsSize l size → mid.lists ≡ old.lists → UsesOne mid.lists rel.lists → put.lists ≡ rel.lists
    → (free_places put page ≡ 0 → new ≡ with_list put l (nodes_of put.lists l ++ page ∷ []))
    → (0 < free_places put page → new ≡ with_list put l (page ∷ nodes_of put.lists l)) → UsesOne old.lists new.lists
used_opened old mid rel put new page l size number taken used same back front =
    subst (λ s. UsesOne s new.lists) taken
    (record {
      fewer = ap (λ ns. length ns) cached ∙ used.fewer;
      kept = λ j held. used.kept j (subst (λ ns. Contains ns j) cached held);
    })
  where
    pushed : (nodes : List ℕ) → new ≡ with_list put l nodes → nodes_of new.lists CACHED ≡ nodes_of rel.lists CACHED
    pushed nodes is =
        ap (λ x. nodes_of x.lists CACHED) is
        ∙ nodes_other put.lists l CACHED nodes (λ equal. let low = size_number l size number in omega (arith, equal, low))
        ∙ ap (λ s. nodes_of s CACHED) same

    cached : nodes_of new.lists CACHED ≡ nodes_of rel.lists CACHED
    cached = elim (cases_lt 0 (free_places put page)) [
      | inl some ↦ pushed (page ∷ nodes_of put.lists l) (front some)
      | inr none ↦ pushed (nodes_of put.lists l ++ page ∷ []) (back (omega (arith, none)))
    ]

-- ---- an entry that gets one more block

pub cached_shared : (p mid new : Parts) (page place l size : ℕ) → IsSize l size → slice_get (nodes_of p.lists l) 0 ≡ Some page → mid ≡ with_place p page place
    → (free_places mid page ≡ 0 → (i : ℕ) → Holds mid.lists i page → new ≡ with_list mid i (without page (nodes_of mid.lists i) ++ page ∷ []))
    → (0 < free_places mid page → new ≡ mid) → nodes_of new.lists CACHED ≡ nodes_of p.lists CACHED
cached_shared p mid new page place l size number at is back stays = elim (cases_lt 0 (free_places mid page)) [
  | inl some ↦ ap (λ x. nodes_of x.lists CACHED) (stays some ∙ is)
  | inr none ↦
      let full : free_places mid page ≡ 0 = omega (arith, none) in
      let held : Holds mid.lists l page = subst (λ x. Holds x.lists l page) (sym is) (stands_in (nodes_of p.lists l) 0 page at) in
      ap (λ x. nodes_of x.lists CACHED) (back full l held)
      ∙ nodes_other mid.lists l CACHED (without page (nodes_of mid.lists l) ++ page ∷ []) (λ same. let low = size_number l size number in omega (arith, same, low))
      ∙ ap (λ x. nodes_of x.lists CACHED) is
]

-- ---- a new block

pub uses_shared : (old new : Parts) (size addr : ℕ) → Shares (contents_of old) size addr → nodes_of new.lists CACHED ≡ nodes_of old.lists CACHED
    → UsesCached (contents_of old) size (contents_of new)
uses_shared old new size addr shares same = record {
  shared = λ _. same;
  opened = λ none. absurd (none (page_of addr, shares.place));
  kept = λ page held. subst (λ ns. Contains ns page) same held;
}

pub uses_opened : (old mid new : Parts) (size : ℕ) → mid ≡ old → (HasSharedPage (ledger_of (contents_of old)) size → ⊥) → UsesOne mid.lists new.lists
    → UsesCached (contents_of old) size (contents_of new)
uses_opened old mid new size same none used =
    let one : UsesOne old.lists new.lists = subst (λ x. UsesOne x.lists new.lists) same used in
    record { shared = λ shared. absurd (none shared); opened = λ _. one.fewer; kept = one.kept }
