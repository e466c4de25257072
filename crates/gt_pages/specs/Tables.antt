-- No promise: to which entry each page leads.
use Rattle.std.specs.Prelude.{◌≡◌, ℕ, ◌+◌, ◌<◌, ◌≤◌, ◌⊎◌, List, Option, None, length, slice_index_or}

-- where a page leads
abbrev pub page_at : List (Option ℕ) → ℕ → Option ℕ
page_at table page = slice_index_or table page None

-- so many pages lead to this entry now, or nowhere, and the others lead where they led
pub record Leads (old : List (Option ℕ)) (first count : ℕ) (entry : Option ℕ) (new : List (Option ℕ)) : Type 0 where
  pub len : length new ≡ length old
  pub inside : (page : ℕ) → first ≤ page → page < first + count → page_at new page ≡ entry
  pub outside : (page : ℕ) → (page < first) ⊎ (first + count ≤ page) → page_at new page ≡ page_at old page
