use Rattle.std.proofs.Common.{◌∙◌, sym, subst}
use Rattle.std.specs.Bool.{Decides}
use Rattle.std.proofs.lemmas.Result.{IfOk-weaker}
use Rattle.gt_types.specs.declared.expressions.Expr.{Expr}
use Rattle.gt_markers.specs.declared.expressions.Scope.TheVariants.{Fields}
use Rattle.gt_markers.specs.NameScopes.{names_of}
use Rattle.gt_rules.specs.Parts.{Fits, Serves}
use Rattle.gt_rules.proofs.PartLemmas.{good_named, not_named}
use Rattle.gt_rules.proofs.purposes.serves.Goals as goal

pub returns-then-not-are_named-clause-decides : goal.returns-then-not-are_named-clause-decides
returns-then-not-are_named-clause-decides c =
    let draft = c.args.known.draft.now in
    not_named (names_of Fields draft) (Fits draft c.args.known.program.now c.args.checks.now.node c.args.purpose) c.args.parameter.now c.in-Expression.raw c.in-Expression.is
    (sym (c.are_named.ensures.named draft c.requires.lookup) ∙ c.if-not-are_named.true)

pub returns-clause-decides : goal.returns-clause-decides
returns-clause-decides c =
    let draft = c.args.known.draft.now in
    let program = c.args.known.program.now in
    let structure = c.args.checks.now.node in
    let good = Fits draft program structure c.args.purpose in
    IfOk-weaker c.fits.result (λ r. Decides r (good c.in_ok-e.e)) (λ r. Decides r (Serves draft program structure c.args.purpose c.args.parameter.now))
    (λ r decides. good_named (names_of Fields draft) good c.args.parameter.now c.in-Expression.raw r c.in-Expression.is (sym (c.are_named.ensures.named draft c.requires.lookup) ∙ c.if-not-are_named.false)
    (subst (λ (e : Expr). Decides r (good e)) (c.in_ok-e.ensures.expression draft c.requires.lookup) decides)) (c.fits.ensures.decides draft program c.requires.checks)
