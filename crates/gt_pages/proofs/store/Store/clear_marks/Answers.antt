use Rattle.std.proofs.Common.{◌≡◌, ap, ◌∙◌, arith}
use Rattle.std.specs.Prelude.{ℕ, List, [], map}
use Rattle.gt_links.specs.Lists.{nodes_of, with_nodes}
use Rattle.gt_pages.specs.declared.pages.TheConstants.{CACHED}
use Rattle.gt_pages.specs.Slots.{unmarked}
use Rattle.gt_pages.specs.Contents.{Contents, with_slots}
use Rattle.gt_pages.specs.Changes.{ClearsMarks, Releases}
use Rattle.gt_pages.specs.Parts.{Parts, contents_of, parts_of}
use Rattle.gt_pages.proofs.CachedLemmas.{contents_released}
use Rattle.gt_pages.proofs.ClearLemmas.{contents_cleared, kept_cleared}
use Rattle.gt_pages.proofs.store.Store.clear_marks.Goals as goal

abbrev cleared_contents : Contents → List ℕ → Contents
cleared_contents c nodes = record (with_slots c (map unmarked c.slots)) { lists = with_nodes c.lists CACHED nodes }

cleared : (old mid new : Parts) → Releases old mid → nodes_of mid.lists CACHED ≡ [] → ClearsMarks mid mid.pages new
    → contents_of new ≡ cleared_contents (contents_of old) []
cleared old mid new released none clears =
    contents_cleared mid new mid.pages clears (omega arith)
    ∙ ap (λ c. with_slots c (map unmarked c.slots)) (contents_released old mid released)
    ∙ ap (λ ns. cleared_contents (contents_of old) ns) none

pub returns : goal.returns
returns c = record {
  kept = kept_cleared (parts_of c.release_cached.new.self) (parts_of c.clear_entries.new.self) _ c.clear_entries.ensures c.release_cached.ensures.kept;
  cleared = cleared (parts_of c.args.self.now) (parts_of c.release_cached.new.self) (parts_of c.clear_entries.new.self) c.release_cached.ensures.released c.release_cached.ensures.none c.clear_entries.ensures;
}
