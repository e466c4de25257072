use Rattle.std.specs.Prelude.{ℕ, [], List}
use Rattle.std.proofs.Common.{◌≡◌, ◌++◌, ◌∙◌, Bool, false, refl, ap, subst}
use Rattle.std.specs.Bool.{Decides}
use Rattle.gt_types.specs.declared.expressions.Expr.{Expr}
use Rattle.gt_types.specs.Paths.{roots_of}
use Rattle.gt_paths.proofs.PartLists.{roots-two, roots-cond}
use Rattle.gt_paths.proofs.Walks.{none_splits, stops, goes}
use Rattle.gt_paths.proofs.expressions.+has_no_roots.Goals as goal

at_part : (x y : Expr) (b : Bool) → x ≡ y → Decides b ((λ (xs : List ℕ). xs ≡ []) (roots_of x)) → Decides b ((λ (xs : List ℕ). xs ≡ []) (roots_of y))
at_part x y b same decides = subst (λ z. Decides b ((λ (xs : List ℕ). xs ≡ []) (roots_of z))) same decides

pub returns-then-not-has_no_roots : goal.returns-then-not-has_no_roots
returns-then-not-has_no_roots t c =
    stops (λ (xs : List ℕ). xs ≡ []) (none_splits) (roots_of c.args.e.now) (roots_of c.in-Two.a) (roots_of c.in-Two.b) c.has_no_roots-in-Two.result (ap roots_of c.in-Two.is ∙ roots-two c.in-Two.op c.in-Two.a c.in-Two.b)
    (at_part c.get-in-Two.result.now c.in-Two.a c.has_no_roots-in-Two.result c.get-in-Two.ensures c.has_no_roots-in-Two.ensures) c.if-not-has_no_roots.true

pub returns-then-not-has_no_roots-2 : goal.returns-then-not-has_no_roots-2
returns-then-not-has_no_roots-2 t c =
    let test = (at_part c.get-in-Cond.result.now c.in-Cond.test c.has_no_roots-in-Cond.result c.get-in-Cond.ensures c.has_no_roots-in-Cond.ensures) in
    let front = stops (λ (xs : List ℕ). xs ≡ []) (none_splits) ((roots_of c.in-Cond.test) ++ (roots_of c.in-Cond.yes)) (roots_of c.in-Cond.test) (roots_of c.in-Cond.yes) c.has_no_roots-in-Cond.result refl test c.if-not-has_no_roots-2.true in
    stops (λ (xs : List ℕ). xs ≡ []) (none_splits) (roots_of c.args.e.now) ((roots_of c.in-Cond.test) ++ (roots_of c.in-Cond.yes)) (roots_of c.in-Cond.no) false (ap roots_of c.in-Cond.is ∙ roots-cond c.in-Cond.test c.in-Cond.yes c.in-Cond.no) front refl

pub returns-then-not-has_no_roots-3 : goal.returns-then-not-has_no_roots-3
returns-then-not-has_no_roots-3 t c =
    let test = (at_part c.get-in-Cond.result.now c.in-Cond.test c.has_no_roots-in-Cond.result c.get-in-Cond.ensures c.has_no_roots-in-Cond.ensures) in
    let yes' = (at_part c.get-in-Cond-2.result.now c.in-Cond.yes c.has_no_roots-in-Cond-2.result c.get-in-Cond-2.ensures c.has_no_roots-in-Cond-2.ensures) in
    let front = goes (λ (xs : List ℕ). xs ≡ []) (none_splits) ((roots_of c.in-Cond.test) ++ (roots_of c.in-Cond.yes)) (roots_of c.in-Cond.test) (roots_of c.in-Cond.yes) c.has_no_roots-in-Cond.result c.has_no_roots-in-Cond-2.result refl test c.if-not-has_no_roots-2.false yes' in
    stops (λ (xs : List ℕ). xs ≡ []) (none_splits) (roots_of c.args.e.now) ((roots_of c.in-Cond.test) ++ (roots_of c.in-Cond.yes)) (roots_of c.in-Cond.no) c.has_no_roots-in-Cond-2.result (ap roots_of c.in-Cond.is ∙ roots-cond c.in-Cond.test c.in-Cond.yes c.in-Cond.no) front c.if-not-has_no_roots-3.true
