use Rattle.std.proofs.Common.{◌∙◌, List, sym, subst}
use Rattle.std.proofs.lemmas.Result.{IfOk-weaker}
use Rattle.gt_types.specs.declared.program.Field.{Field}
use Rattle.gt_items.specs.declared.items.RawOption.{RawOption}
use Rattle.gt_drafts.specs.declared.draft.DraftField.{DraftField}
use Rattle.gt_paths.specs.Checks.{Checked}
use Rattle.gt_rules.specs.Parts.{AreChecksFor, ChainsFaults, FieldsFaults, IsFirstWith, StructureFaults, UnionDescFault}
use Rattle.gt_rules.proofs.FirstLemmas.{first_of_both}
use Rattle.gt_rules.proofs.InnerLemmas.{checks_for}
use Rattle.gt_rules.proofs.structures.of_structure.Goals as goal

pub of_union_desc-requires-clause-checks : goal.of_union_desc-requires-clause-checks
of_union_desc-requires-clause-checks c =
    checks_for c.args.known.draft.now c.args.known.program.now c.args.known.index.now c.args.structure c.new-checks.result c.new-checks.ensures.checked c.requires.index

pub of_fields-requires-clause-checks : goal.of_fields-requires-clause-checks
of_fields-requires-clause-checks c =
    subst (AreChecksFor c.args.known.draft.now c.args.known.program.now) (sym c.of_union_desc.ensures.same)
    (checks_for c.args.known.draft.now c.args.known.program.now c.args.known.index.now c.args.structure c.new-checks.result c.new-checks.ensures.checked c.requires.index)

pub returns : goal.returns
returns c =
    let draft = c.args.known.draft.now in
    let program = c.args.known.program.now in
    let id = c.args.structure in
    let ds = c.args.drafted.now in
    let s = c.args.made.now in
    let e1 = c.in_ok-earliest.earliest in
    let e2 = c.in_ok-earliest-2.earliest in
    let union : IsFirstWith c.args.earliest (UnionDescFault draft program id ds) e1 =
    subst (λ (k : Checked). IsFirstWith c.args.earliest (UnionDescFault draft program k.node ds) e1) c.new-checks.ensures.checked c.in_ok-earliest.ensures.first in
    let chains : IsFirstWith e1 (ChainsFaults program id ds.file ds.options) e2 =
    subst (λ (os : List RawOption). IsFirstWith e1 (ChainsFaults program id ds.file os) e2) c.as_slice-options.ensures.items c.in_ok-earliest-2.ensures.first in
    record {
      first =
          IfOk-weaker c.of_fields.result (IsFirstWith e2 (FieldsFaults draft program c.of_union_desc.new.checks.node ds.file c.as_slice-fields.result.now c.as_slice.result.now))
          (IsFirstWith c.args.earliest (StructureFaults draft program id ds s))
          (λ r first. first_of_both union (first_of_both chains
          (subst (λ (k : Checked). IsFirstWith e2 (FieldsFaults draft program k.node ds.file ds.fields s.fields) r) (c.of_union_desc.ensures.same ∙ c.new-checks.ensures.checked)
          (subst (λ (fs : List Field). IsFirstWith e2 (FieldsFaults draft program c.of_union_desc.new.checks.node ds.file ds.fields fs) r) c.as_slice.ensures.items
          (subst (λ (dfs : List DraftField). IsFirstWith e2 (FieldsFaults draft program c.of_union_desc.new.checks.node ds.file dfs c.as_slice.result.now) r) c.as_slice-fields.ensures.items first)))))
          c.of_fields.ensures.first;
    }
