use Rattle.std.proofs.Common.{rules, tests}
use Rattle.std.proofs.lemmas.Iterator.{cases_from_any, YieldsList-from_slice}
use Rattle.gt_types.specs.declared.program.Field.{Field}
use Rattle.gt_types.specs.Shapes.{innermost}
use Rattle.gt_tables.specs.Sharing.{desc_in}
use Rattle.gt_tables.specs.Naming.{MayName}
use Rattle.gt_tables.proofs.NamesIn.{told-any}
use Rattle.gt_tables.proofs.naming.descs_name.Goals as goal

-- some `desc` names it
pub returns : goal.returns
returns c =
    let P = λ (f : Field). MayName c.args.base (desc_in (innermost f.ty)) in
    told-any P c.any.result c.args.fields.now
    (cases_from_any _ _ _ P (λ f. ¬ P f) c.any.ensures.ran (YieldsList-from_slice c.args.fields.now cc) (λ x q k. search (rules, tests)) (λ x q k. search (rules, tests)))
