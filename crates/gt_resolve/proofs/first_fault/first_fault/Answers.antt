use Rattle.std.proofs.Common.{◌≡◌, ◌∙◌, ◌++◌, [], List, Bool, None, Option, sym, ap, subst}
use Rattle.gt_types.specs.declared.faults.Fault.{Fault}
use Rattle.gt_drafts.specs.declared.draft.DraftStructure.{DraftStructure}
use Rattle.gt_drafts.specs.declared.draft.DraftRoot.{DraftRoot}
use Rattle.gt_drafts.specs.declared.draft.DraftCache.{DraftCache}
use Rattle.gt_resolve.specs.Faults.{faults_of, redefinitions, structures_faults, roots_faults, caches_faults}
use Rattle.gt_drafts.specs.FirstFaults.{IsFirstOf, first_from}
use Rattle.gt_resolve.proofs.CycleFaults.{first_for}
use Rattle.gt_resolve.proofs.Firsts.{first_from_both, first_from_first}
use Rattle.gt_resolve.proofs.first_fault.first_fault.Goals as goal

pub returns : goal.returns
unfolding faults_of
returns c =
    let ds = c.args.scope.now.declarations.items in
    let types = c.args.scope.now.types.items in
    let cyclic = c.args.shapes.now.cyclic.items in
    let deep = c.args.shapes.now.deep.items in
    let tails = c.args.shapes.now.tails.items in
    let a = redefinitions ds types [] ds in
    let b = structures_faults cyclic deep tails 0 c.args.draft.now.structures in
    let d = roots_faults tails 0 c.args.draft.now.roots in
    let e = caches_faults 0 c.args.draft.now.caches in
    let faults : List Fault = a ++ b ++ d ++ e in
    let structures = c.in_ok-earliest-2.ensures.earliest
    ∙ ap (λ (ss : List DraftStructure). first_from c.in_ok-earliest.earliest (structures_faults cyclic deep tails 0 ss)) c.as_slice.ensures.items in
    let roots = c.of_roots-earliest.ensures.earliest
    ∙ ap (λ (flags : List Bool). first_from c.in_ok-earliest-2.earliest (roots_faults flags 0 c.as_slice-2.result.now)) c.deref.ensures.value
    ∙ ap (λ (rs : List DraftRoot). first_from c.in_ok-earliest-2.earliest (roots_faults tails 0 rs)) c.as_slice-2.ensures.items in
    let caches = c.of_caches.ensures.earliest
    ∙ ap (λ (cs : List DraftCache). first_from c.of_roots-earliest.result (caches_faults 0 cs)) c.as_slice-3.ensures.items in
    let whole : c.of_caches.result ≡ first_from None faults =
    first_from_both None c.of_roots-earliest.result c.of_caches.result (a ++ b ++ d) e
    (first_from_both None c.in_ok-earliest-2.earliest c.of_roots-earliest.result (a ++ b) d
    (first_from_both None c.in_ok-earliest.earliest c.in_ok-earliest-2.earliest a b c.in_ok-earliest.ensures.earliest structures) roots) caches in
    record { first = λ every suffice. first_for ds types c.args.draft.now every cyclic deep tails suffice c.of_caches.result (subst (λ (r : Option Fault). IsFirstOf faults r) (sym whole) (first_from_first faults)) }
