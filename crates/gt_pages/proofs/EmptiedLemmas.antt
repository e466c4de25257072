-- Which entries are cached after a sweep.
use Rattle.std.proofs.Common.{ℕ, ◌+◌, ◌<◌, ◌≤◌, refl, sym, subst, ◌∙◌, inl, inr}
use Rattle.std.proofs.lemmas.Bool.{cases_Bool, false≢true}
use Rattle.gt_bits.specs.Sets.{has}
use Rattle.gt_pages.specs.Ledger.{PageRange}
use Rattle.gt_pages.specs.Contents.{CachesEmptied, HasBlocks}
use Rattle.gt_pages.specs.Parts.{IsKept, Parts, contents_of, entry_at}
use Rattle.gt_pages.proofs.ListViewLemmas.{listed_start, start_listed}
use Rattle.gt_pages.proofs.SweepLemmas.{SweptTo, WasClosed}

module _ (old now : Parts) (from freed : ℕ) (kept : IsKept old) (so-far : SweptTo old from freed now) where
  has_none : (page : ℕ) → WasClosed old now page → ¬ (HasBlocks (contents_of now) page)
  has_none page closed = λ some.
      false≢true (sym closed.gone ∙ (start_listed now so-far.kept some.0 page some.1).starts)

  was_closed : (page : ℕ) → HasBlocks (contents_of old) page → ¬ (HasBlocks (contents_of now) page) → WasClosed old now page
  was_closed page some none =
      let was = start_listed old kept some.0 page some.1 in
      elim (cases_Bool (has now.starts page)) [
        | inl started ↦
            let out = subst (λ (r : PageRange). ¬ ((r.first ≤ page) × (page < r.first + r.count))) (sym so-far.image) was.outside in
            absurd (none ((entry_at now.entries page).size, listed_start now so-far.kept (entry_at now.entries page).size page (record { starts = started; outside = out; sized = refl })))
        | inr gone ↦ record { started = was.starts; outside = was.outside; gone = gone }
      ]

  pub swept_caches : CachesEmptied (contents_of old) (contents_of now)
  swept_caches = λ page. (
    λ held. elim ((so-far.cached page).0 held) [
      | inl was ↦ inl was
      | inr closed ↦
          let size : ℕ = (entry_at old.entries page).size in
          inr ((size, listed_start old kept size page (record { starts = closed.started; outside = closed.outside; sized = refl })), has_none page closed)
    ],
    λ is. elim is [
      | inl was ↦ (so-far.cached page).1 (inl was)
      | inr emptied ↦ (so-far.cached page).1 (inr (was_closed page emptied.0 emptied.1))
    ],
  )
