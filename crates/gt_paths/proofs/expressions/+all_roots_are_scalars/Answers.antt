use Rattle.std.specs.Prelude.{All}
use Rattle.gt_types.specs.declared.program.Program.{Program}
use Rattle.gt_types.specs.Paths.{IsScalarRoot}
use Rattle.std.proofs.Common.{◌≡◌, ℕ, [], ◌∷◌, ◌++◌, ◌∙◌, Bool, false, refl, ap, sym, subst}
use Rattle.std.specs.Bool.{Decides}
use Rattle.gt_types.specs.declared.expressions.Expr.{Expr}
use Rattle.gt_types.specs.Paths.{roots_of}
use Rattle.gt_paths.proofs.PartLists.{roots-root, roots-one, roots-two, roots-cond}
use Rattle.gt_paths.proofs.Walks.{all_splits, each_of_one, stops, goes}
use Rattle.gt_paths.proofs.expressions.+all_roots_are_scalars.Goals as goal

at_part : (program : Program) (x y : Expr) (b : Bool) → x ≡ y → Decides b (All (IsScalarRoot program) (roots_of x)) → Decides b (All (IsScalarRoot program) (roots_of y))
at_part program x y b same decides = subst (λ z. Decides b (All (IsScalarRoot program) (roots_of z))) same decides

pub returns-then-not-all_roots_are_scalars : goal.returns-then-not-all_roots_are_scalars
returns-then-not-all_roots_are_scalars t c =
    stops (All (IsScalarRoot c.args.program.now)) (all_splits (IsScalarRoot c.args.program.now)) (roots_of c.args.e.now) (roots_of c.in-Two.a) (roots_of c.in-Two.b) c.all_roots_are_scalars-in-Two.result (ap roots_of c.in-Two.is ∙ roots-two c.in-Two.op c.in-Two.a c.in-Two.b)
    (at_part c.args.program.now c.get-in-Two.result.now c.in-Two.a c.all_roots_are_scalars-in-Two.result c.get-in-Two.ensures c.all_roots_are_scalars-in-Two.ensures) c.if-not-all_roots_are_scalars.true

pub returns-else-not-all_roots_are_scalars : goal.returns-else-not-all_roots_are_scalars
returns-else-not-all_roots_are_scalars t c =
    goes (All (IsScalarRoot c.args.program.now)) (all_splits (IsScalarRoot c.args.program.now)) (roots_of c.args.e.now) (roots_of c.in-Two.a) (roots_of c.in-Two.b) c.all_roots_are_scalars-in-Two.result c.all_roots_are_scalars-in-Two-2.result (ap roots_of c.in-Two.is ∙ roots-two c.in-Two.op c.in-Two.a c.in-Two.b)
    (at_part c.args.program.now c.get-in-Two.result.now c.in-Two.a c.all_roots_are_scalars-in-Two.result c.get-in-Two.ensures c.all_roots_are_scalars-in-Two.ensures) c.if-not-all_roots_are_scalars.false
    (at_part c.args.program.now c.get-in-Two-2.result.now c.in-Two.b c.all_roots_are_scalars-in-Two-2.result c.get-in-Two-2.ensures c.all_roots_are_scalars-in-Two-2.ensures)

pub returns-then-not-all_roots_are_scalars-2 : goal.returns-then-not-all_roots_are_scalars-2
returns-then-not-all_roots_are_scalars-2 t c =
    let test = (at_part c.args.program.now c.get-in-Cond.result.now c.in-Cond.test c.all_roots_are_scalars-in-Cond.result c.get-in-Cond.ensures c.all_roots_are_scalars-in-Cond.ensures) in
    let front = stops (All (IsScalarRoot c.args.program.now)) (all_splits (IsScalarRoot c.args.program.now)) ((roots_of c.in-Cond.test) ++ (roots_of c.in-Cond.yes)) (roots_of c.in-Cond.test) (roots_of c.in-Cond.yes) c.all_roots_are_scalars-in-Cond.result refl test c.if-not-all_roots_are_scalars-2.true in
    stops (All (IsScalarRoot c.args.program.now)) (all_splits (IsScalarRoot c.args.program.now)) (roots_of c.args.e.now) ((roots_of c.in-Cond.test) ++ (roots_of c.in-Cond.yes)) (roots_of c.in-Cond.no) false (ap roots_of c.in-Cond.is ∙ roots-cond c.in-Cond.test c.in-Cond.yes c.in-Cond.no) front refl

pub returns-then-not-all_roots_are_scalars-3 : goal.returns-then-not-all_roots_are_scalars-3
returns-then-not-all_roots_are_scalars-3 t c =
    let test = (at_part c.args.program.now c.get-in-Cond.result.now c.in-Cond.test c.all_roots_are_scalars-in-Cond.result c.get-in-Cond.ensures c.all_roots_are_scalars-in-Cond.ensures) in
    let yes' = (at_part c.args.program.now c.get-in-Cond-2.result.now c.in-Cond.yes c.all_roots_are_scalars-in-Cond-2.result c.get-in-Cond-2.ensures c.all_roots_are_scalars-in-Cond-2.ensures) in
    let front = goes (All (IsScalarRoot c.args.program.now)) (all_splits (IsScalarRoot c.args.program.now)) ((roots_of c.in-Cond.test) ++ (roots_of c.in-Cond.yes)) (roots_of c.in-Cond.test) (roots_of c.in-Cond.yes) c.all_roots_are_scalars-in-Cond.result c.all_roots_are_scalars-in-Cond-2.result refl test c.if-not-all_roots_are_scalars-2.false yes' in
    stops (All (IsScalarRoot c.args.program.now)) (all_splits (IsScalarRoot c.args.program.now)) (roots_of c.args.e.now) ((roots_of c.in-Cond.test) ++ (roots_of c.in-Cond.yes)) (roots_of c.in-Cond.no) c.all_roots_are_scalars-in-Cond-2.result (ap roots_of c.in-Cond.is ∙ roots-cond c.in-Cond.test c.in-Cond.yes c.in-Cond.no) front c.if-not-all_roots_are_scalars-3.true

pub returns-else-not-all_roots_are_scalars-3 : goal.returns-else-not-all_roots_are_scalars-3
returns-else-not-all_roots_are_scalars-3 t c =
    let test = (at_part c.args.program.now c.get-in-Cond.result.now c.in-Cond.test c.all_roots_are_scalars-in-Cond.result c.get-in-Cond.ensures c.all_roots_are_scalars-in-Cond.ensures) in
    let yes' = (at_part c.args.program.now c.get-in-Cond-2.result.now c.in-Cond.yes c.all_roots_are_scalars-in-Cond-2.result c.get-in-Cond-2.ensures c.all_roots_are_scalars-in-Cond-2.ensures) in
    let no' = (at_part c.args.program.now c.get-in-Cond-3.result.now c.in-Cond.no c.all_roots_are_scalars-in-Cond-3.result c.get-in-Cond-3.ensures c.all_roots_are_scalars-in-Cond-3.ensures) in
    let front = goes (All (IsScalarRoot c.args.program.now)) (all_splits (IsScalarRoot c.args.program.now)) ((roots_of c.in-Cond.test) ++ (roots_of c.in-Cond.yes)) (roots_of c.in-Cond.test) (roots_of c.in-Cond.yes) c.all_roots_are_scalars-in-Cond.result c.all_roots_are_scalars-in-Cond-2.result refl test c.if-not-all_roots_are_scalars-2.false yes' in
    goes (All (IsScalarRoot c.args.program.now)) (all_splits (IsScalarRoot c.args.program.now)) (roots_of c.args.e.now) ((roots_of c.in-Cond.test) ++ (roots_of c.in-Cond.yes)) (roots_of c.in-Cond.no) c.all_roots_are_scalars-in-Cond-2.result c.all_roots_are_scalars-in-Cond-3.result (ap roots_of c.in-Cond.is ∙ roots-cond c.in-Cond.test c.in-Cond.yes c.in-Cond.no) front c.if-not-all_roots_are_scalars-3.false no'

of_root : (program : Program) (e : Expr) (place : ℕ) (b : Bool) → roots_of e ≡ place ∷ [] → Decides b (IsScalarRoot program place) → Decides b (All (IsScalarRoot program) (roots_of e))
of_root program e place b same decides =
    subst (λ roots. Decides b (All (IsScalarRoot program) roots)) (sym same) (each_of_one (IsScalarRoot program) place b decides)

of_one : (program : Program) (e a : Expr) (b : Bool) → roots_of e ≡ roots_of a → Decides b (All (IsScalarRoot program) (roots_of a)) → Decides b (All (IsScalarRoot program) (roots_of e))
of_one program e a b same decides = subst (λ roots. Decides b (All (IsScalarRoot program) roots)) (sym same) decides

pub returns-in-Root : goal.returns-in-Root
returns-in-Root t c = of_root c.args.program.now c.args.e.now c.in-Root.place c.is_scalar_root.result (ap roots_of c.in-Root.is ∙ roots-root c.in-Root.place) c.is_scalar_root.ensures

pub returns-in-One : goal.returns-in-One
returns-in-One t c =
    of_one c.args.program.now c.args.e.now c.in-One.a c.all_roots_are_scalars.result (ap roots_of c.in-One.is ∙ roots-one c.in-One.op c.in-One.a)
    (at_part c.args.program.now c.get.result.now c.in-One.a c.all_roots_are_scalars.result c.get.ensures c.all_roots_are_scalars.ensures)
