use Rattle.std.proofs.Common.{◌≡◌, ◌∙◌, ◌++◌, List, None, ap}
use Rattle.std.specs.Prelude.{flat_map}
use Rattle.gt_drafts.specs.declared.draft.DraftCache.{DraftCache}
use Rattle.gt_drafts.specs.declared.draft.DraftRoot.{DraftRoot}
use Rattle.gt_drafts.specs.declared.draft.DraftStructure.{DraftStructure}
use Rattle.gt_drafts.specs.FirstFaults.{first_from, IsFirstOf}
use Rattle.gt_markers.specs.MarkerFaults.{cache_faults, draft_faults, root_faults, structure_faults}
use Rattle.gt_markers.proofs.Firsts.{first_from_both, first_of_all, if_ok}
use Rattle.gt_markers.proofs.draft_faults.first_draft_fault.Goals as goal

pub returns : goal.returns
returns c =
    let draft = c.args.draft.now in
    let structures = flat_map (structure_faults draft) draft.structures in
    let roots = flat_map (root_faults draft) draft.roots in
    let caches = flat_map (cache_faults draft) draft.caches in
    let e1 = c.in_ok-earliest.earliest in
    let e2 = c.in_ok-earliest-2.earliest in
    let after_structures : e1 ≡ first_from None structures =
    c.in_ok-earliest.ensures.earliest ∙ ap (λ (ss : List DraftStructure). first_from None (flat_map (structure_faults draft) ss)) c.as_slice.ensures.items in
    let after_roots : e2 ≡ first_from e1 roots =
    c.in_ok-earliest-2.ensures.earliest ∙ ap (λ (rs : List DraftRoot). first_from e1 (flat_map (root_faults draft) rs)) c.as_slice-2.ensures.items in
    let both : e2 ≡ first_from None (structures ++ roots) = first_from_both None e1 e2 structures roots after_structures after_roots in
    record {
      first =
          if_ok c.of_caches.result (λ r. r ≡ first_from e2 (flat_map (cache_faults draft) c.as_slice-3.result.now)) (IsFirstOf (draft_faults draft))
          (λ r h. first_of_all (draft_faults draft) r
          (first_from_both None e2 r (structures ++ roots) caches both
          (h ∙ ap (λ (cs : List DraftCache). first_from e2 (flat_map (cache_faults draft) cs)) c.as_slice-3.ensures.items)))
          c.of_caches.ensures.earliest;
    }
