use Rattle.std.specs.Prelude.{[], List}
use Rattle.gt_types.specs.Paths.{Way}
use Rattle.std.proofs.Common.{◌≡◌, ◌++◌, ◌∙◌, Bool, false, refl, ap, subst}
use Rattle.std.specs.Bool.{Decides}
use Rattle.gt_types.specs.declared.expressions.Expr.{Expr}
use Rattle.gt_types.specs.Paths.{paths_of}
use Rattle.gt_paths.proofs.PartLists.{paths-two, paths-cond}
use Rattle.gt_paths.proofs.Walks.{none_splits, stops, goes}
use Rattle.gt_paths.proofs.expressions.+has_no_paths.Goals as goal

at_part : (x y : Expr) (b : Bool) → x ≡ y → Decides b ((λ (xs : List Way). xs ≡ []) (paths_of x)) → Decides b ((λ (xs : List Way). xs ≡ []) (paths_of y))
at_part x y b same decides = subst (λ z. Decides b ((λ (xs : List Way). xs ≡ []) (paths_of z))) same decides

pub returns-then-not-has_no_paths : goal.returns-then-not-has_no_paths
returns-then-not-has_no_paths t c =
    stops (λ (xs : List Way). xs ≡ []) (none_splits) (paths_of c.args.e.now) (paths_of c.in-Two.a) (paths_of c.in-Two.b) c.has_no_paths-in-Two.result (ap paths_of c.in-Two.is ∙ paths-two c.in-Two.op c.in-Two.a c.in-Two.b)
    (at_part c.get-in-Two.result.now c.in-Two.a c.has_no_paths-in-Two.result c.get-in-Two.ensures c.has_no_paths-in-Two.ensures) c.if-not-has_no_paths.true

pub returns-then-not-has_no_paths-2 : goal.returns-then-not-has_no_paths-2
returns-then-not-has_no_paths-2 t c =
    let test = (at_part c.get-in-Cond.result.now c.in-Cond.test c.has_no_paths-in-Cond.result c.get-in-Cond.ensures c.has_no_paths-in-Cond.ensures) in
    let front = stops (λ (xs : List Way). xs ≡ []) (none_splits) ((paths_of c.in-Cond.test) ++ (paths_of c.in-Cond.yes)) (paths_of c.in-Cond.test) (paths_of c.in-Cond.yes) c.has_no_paths-in-Cond.result refl test c.if-not-has_no_paths-2.true in
    stops (λ (xs : List Way). xs ≡ []) (none_splits) (paths_of c.args.e.now) ((paths_of c.in-Cond.test) ++ (paths_of c.in-Cond.yes)) (paths_of c.in-Cond.no) false (ap paths_of c.in-Cond.is ∙ paths-cond c.in-Cond.test c.in-Cond.yes c.in-Cond.no) front refl

pub returns-then-not-has_no_paths-3 : goal.returns-then-not-has_no_paths-3
returns-then-not-has_no_paths-3 t c =
    let test = (at_part c.get-in-Cond.result.now c.in-Cond.test c.has_no_paths-in-Cond.result c.get-in-Cond.ensures c.has_no_paths-in-Cond.ensures) in
    let yes' = (at_part c.get-in-Cond-2.result.now c.in-Cond.yes c.has_no_paths-in-Cond-2.result c.get-in-Cond-2.ensures c.has_no_paths-in-Cond-2.ensures) in
    let front = goes (λ (xs : List Way). xs ≡ []) (none_splits) ((paths_of c.in-Cond.test) ++ (paths_of c.in-Cond.yes)) (paths_of c.in-Cond.test) (paths_of c.in-Cond.yes) c.has_no_paths-in-Cond.result c.has_no_paths-in-Cond-2.result refl test c.if-not-has_no_paths-2.false yes' in
    stops (λ (xs : List Way). xs ≡ []) (none_splits) (paths_of c.args.e.now) ((paths_of c.in-Cond.test) ++ (paths_of c.in-Cond.yes)) (paths_of c.in-Cond.no) c.has_no_paths-in-Cond-2.result (ap paths_of c.in-Cond.is ∙ paths-cond c.in-Cond.test c.in-Cond.yes c.in-Cond.no) front c.if-not-has_no_paths-3.true
