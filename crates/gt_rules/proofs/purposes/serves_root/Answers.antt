use Rattle.std.proofs.Common.{◌∙◌, sym, subst}
use Rattle.std.specs.Bool.{Decides}
use Rattle.gt_types.specs.declared.expressions.Expr.{Expr}
use Rattle.gt_markers.specs.declared.expressions.Scope.TheVariants.{Roots}
use Rattle.gt_markers.specs.NameScopes.{names_of}
use Rattle.gt_rules.specs.Parts.{RootFits}
use Rattle.gt_rules.proofs.PartLemmas.{good_named, not_named}
use Rattle.gt_rules.proofs.purposes.serves_root.Goals as goal

pub returns-then-not-are_named : goal.returns-then-not-are_named
returns-then-not-are_named c =
    let draft = c.args.known.draft.now in
    record {
      decides =
          not_named (names_of Roots draft) (RootFits c.args.known.program.now c.args.purpose) c.args.parameter.now c.in-Expression.raw c.in-Expression.is
          (sym (c.are_named.ensures.named draft c.requires.lookup) ∙ c.if-not-are_named.true);
    }

pub returns : goal.returns
returns c =
    let draft = c.args.known.draft.now in
    let good = RootFits c.args.known.program.now c.args.purpose in
    record {
      decides =
          good_named (names_of Roots draft) good c.args.parameter.now c.in-Expression.raw c.fits_root.result c.in-Expression.is
          (sym (c.are_named.ensures.named draft c.requires.lookup) ∙ c.if-not-are_named.false)
          (subst (λ (e : Expr). Decides c.fits_root.result (good e)) (c.in_ok-e.ensures.expression draft c.requires.lookup) c.fits_root.ensures.decides);
    }
