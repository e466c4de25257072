use Rattle.std.proofs.Common.{◌∙◌, inl, inr, List, sym, ap}
use Rattle.std.specs.Prelude.{not, codes}
use Rattle.std.proofs.lemmas.Bool.Decides.{Decides-not}
use Rattle.gt_items.specs.declared.items.RawOption.{RawOption}
use Rattle.gt_markers.specs.Options.{option_named}
use Rattle.gt_rules.proofs.PartLemmas.{no_union_desc, one_union_desc}
use Rattle.gt_rules.proofs.structures.of_union_desc.Goals as goal

pub returns-in_default-clause-first : goal.returns-in_default-clause-first
returns-in_default-clause-first c =
    no_union_desc c.args.known.draft.now c.args.known.program.now c.args.checks.now.node c.args.drafted.now c.args.earliest
    (inr (sym (c.in_default.ensures.first ∙ ap (λ (os : List RawOption). option_named (codes "desc") os) c.as_slice.ensures.items)))

pub returns-clause-first : goal.returns-clause-first
returns-clause-first c =
    one_union_desc c.args.known.draft.now c.args.known.program.now c.args.checks.now.node c.args.drafted.now c.in-Some.option.now (not c.in_ok-good.good) c.args.earliest c.with_fault.result c.if-not-drafted.false
    (sym (c.in-Some.ensures.first ∙ ap (λ (os : List RawOption). option_named (codes "desc") os) c.as_slice.ensures.items)) c.with_fault.ensures.same (Decides-not c.in_ok-good.good c.in_ok-good.ensures.decides)

pub returns-then-not-drafted-clause-first : goal.returns-then-not-drafted-clause-first
returns-then-not-drafted-clause-first c = no_union_desc c.args.known.draft.now c.args.known.program.now c.args.checks.now.node c.args.drafted.now c.args.earliest (inl c.if-not-drafted.true)
