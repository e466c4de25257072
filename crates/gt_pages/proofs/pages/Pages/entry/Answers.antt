use Rattle.std.proofs.Common.{ℕ, ◌<◌, count_by, sym, subst, ap, ◌∙◌, refl, arith}
use Rattle.gt_links.specs.Lists.{Holds}
use Rattle.gt_entries.specs.Cells.{is_free}
use Rattle.gt_pages.specs.declared.pages.TheConstants.{CACHED}
use Rattle.gt_pages.specs.Contents.{IsEntry}
use Rattle.gt_pages.specs.Parts.{parts_of}
use Rattle.gt_pages.proofs.WhereLemmas.{entry_read}
use Rattle.gt_pages.proofs.ListViewLemmas.{is_entry, listed_node}
use Rattle.gt_pages.proofs.pages.Pages.entry.Goals as goal

pub index-entry-requires : goal.index-entry-requires
index-entry-requires c =
    let p = parts_of c.self.inside.store in
    let held = subst (λ v. (i : ℕ) × (i < CACHED) × Holds v.lists i c.args.node) (sym c.self.view_is) c.requires.listed in
    let is = listed_node p c.self.invariant c.args.node held in
    let low = c.self.invariant.starts c.args.node is.1.starts in
    let len = c.self.invariant.entries in
    omega (arith, low, len)

pub returns : goal.returns
returns c =
    let p = parts_of c.self.inside.store in
    let held = subst (λ v. (i : ℕ) × (i < CACHED) × Holds v.lists i c.args.node) (sym c.self.view_is) c.requires.listed in
    let is = listed_node p c.self.invariant c.args.node held in
    let low = c.self.invariant.starts c.args.node is.1.starts in
    let len = c.self.invariant.entries in
    let read = entry_read p.entries c.args.node c.index-entry.result.now (omega (arith, low, len)) c.index-entry.ensures in
    record {
      entry =
          subst (λ v. IsEntry v c.args.node (record { page = c.args.node; size = c.bytes.result; free = c.free_count.result })) c.self.view_is
          (is_entry p c.self.invariant is.0 c.args.node is.1 (record { page = c.args.node; size = c.bytes.result; free = c.free_count.result }) refl
          (c.bytes.ensures ∙ ap (λ e. e.size) read ∙ is.1.sized) (c.free_count.ensures.count ∙ ap (λ e. count_by is_free e.places) read));
    }
