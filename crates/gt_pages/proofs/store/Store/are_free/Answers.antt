use Rattle.std.proofs.Common.{◌≡◌, ◌≤◌, ◌+◌, ℕ, Bool, true, not, Option, Some, None, is_some, ap, sym, subst, ◌∙◌, rules}
use Rattle.std.proofs.lemmas.Bool.{not-false, true≢false}
use Rattle.gt_bits.specs.Sets.{IsNextGap}
use Rattle.gt_pages.specs.Ledger.{AreFree}
use Rattle.gt_pages.specs.Contents.{ledger_of}
use Rattle.gt_pages.specs.Parts.{IsKept, Parts, contents_of, parts_of}
use Rattle.gt_pages.proofs.FreeLemmas.{free_run, run_free}
use Rattle.gt_pages.proofs.store.Store.are_free.Goals as goal

gap_free : (p : Parts) (first count : ℕ) (r : Option ℕ) (b : Bool) → IsKept p → first + count ≤ p.pages → IsNextGap p.free first (first + count) r
    → is_some r ≡ not b → (b ≡ true → AreFree (ledger_of (contents_of p)) first count) × (AreFree (ledger_of (contents_of p)) first count → b ≡ true)
gap_free p first count None b kept low gap is = (λ _. run_free p kept first count low gap.none, λ _. not-false b (sym is))
gap_free p first count (Some k) b kept low gap is = (
  λ e. absurd (true≢false (is ∙ ap not e)),
  λ free. absurd (true≢false (sym ((free_run p kept first count free).1 k gap.reached gap.below) ∙ gap.missing)),
)

pub returns : goal.returns
returns c =
    gap_free (parts_of c.args.self.now) c.args.page c.args.count c.next_gap.result c.is_none.result c.requires (search rules)
    (subst (λ words. IsNextGap words c.args.page (c.args.page + c.args.count) c.next_gap.result) c.deref.ensures.value c.next_gap.ensures)
    c.is_none.ensures
