-- The runs of an image, tried one by one.
use Rattle.std.proofs.Common.{ℕ, ◌+◌, ◌<◌, ◌≤◌, List, length, get_or, drop, sym, subst, arith}
use Rattle.std.specs.Prelude.{Contains}
use Rattle.std.specs.List.{AllWithin}
use Rattle.std.proofs.lemmas.List.{drop_all, drop_more, get_or_default}
use Rattle.std.proofs.lemmas.List.Elements.{AllWithin-more, AllWithin-none}
use Rattle.gt_pages.specs.declared.pages.Run.{Run}
use Rattle.gt_pages.specs.Ledger.{sizes}
use Rattle.gt_pages.specs.Images.{AreRuns, RiseFrom}

-- the first k runs may be an image's, the last with blocks of this size
pub record MayStart (runs : List Run) (below k : ℕ) : Type 0 where
  pub rising : RiseFrom below (drop k runs) → RiseFrom 0 runs
  pub listed : AllWithin (λ run. Contains sizes run.size) runs 0 k
  pub some : AllWithin (λ run. 1 ≤ run.count) runs 0 k

pub none_start : (runs : List Run) → MayStart runs 0 0
none_start runs = record {
  rising = λ rise. rise;
  listed = AllWithin-none (λ run. Contains sizes run.size) runs 0;
  some = AllWithin-none (λ run. 1 ≤ run.count) runs 0;
}

pub next_starts : (runs : List Run) (below k : ℕ) (other : Run) → k < length runs → MayStart runs below k
    → (below < (get_or runs k other).size) × Contains sizes (get_or runs k other).size × (1 ≤ (get_or runs k other).count)
    → MayStart runs (get_or runs k other).size (k + 1)
next_starts runs below k other low is run = record {
  rising = λ rise. is.rising (subst (λ left. RiseFrom below left) (sym (drop_more runs k other low)) (run.0, rise));
  listed =
      AllWithin-more (λ r. Contains sizes r.size) runs 0 k is.listed
      (λ d. subst (λ r. Contains sizes r.size) (get_or_default runs k other d low) run.1);
  some = AllWithin-more (λ r. 1 ≤ r.count) runs 0 k is.some (λ d. subst (λ r. 1 ≤ r.count) (get_or_default runs k other d low) run.2);
}

pub all_start : (runs : List Run) (below k : ℕ) → length runs ≤ k → MayStart runs below k → AreRuns runs
all_start runs below k past is = record {
  listed = λ j d low. is.listed j d (omega arith) (omega (arith, low, past));
  rising = is.rising (subst (λ left. RiseFrom below left) (sym (drop_all k runs past)) tt);
  some = λ j d low. is.some j d (omega arith) (omega (arith, low, past));
}
