use Rattle.std.specs.Prelude.{All}
use Rattle.gt_types.specs.declared.program.Program.{Program}
use Rattle.gt_types.specs.declared.types.TypeId.{TypeId}
use Rattle.gt_types.specs.Paths.{Way}
use Rattle.gt_paths.specs.Places.{RootPathFits}
use Rattle.std.proofs.Common.{◌≡◌, ℕ, List, [], ◌∷◌, ◌++◌, ◌∙◌, Bool, false, refl, ap, sym, subst}
use Rattle.std.specs.Bool.{Decides}
use Rattle.gt_types.specs.declared.expressions.Expr.{Expr}
use Rattle.gt_types.specs.Paths.{paths_of}
use Rattle.gt_paths.proofs.PartLists.{paths-path, paths-one, paths-two, paths-cond}
use Rattle.gt_paths.proofs.Walks.{all_splits, each_of_one, stops, goes}
use Rattle.gt_paths.proofs.roots.+all_paths_fit.Goals as goal

at_part : (program : Program) (union : TypeId) (x y : Expr) (b : Bool) → x ≡ y → Decides b (All (λ (path : Way). RootPathFits program union path.0 path.1) (paths_of x)) → Decides b (All (λ (path : Way). RootPathFits program union path.0 path.1) (paths_of y))
at_part program union x y b same decides = subst (λ z. Decides b (All (λ (path : Way). RootPathFits program union path.0 path.1) (paths_of z))) same decides

pub returns-then-not-all_paths_fit : goal.returns-then-not-all_paths_fit
returns-then-not-all_paths_fit t c =
    stops (All (λ (path : Way). RootPathFits c.args.program.now c.args.union path.0 path.1)) (all_splits (λ (path : Way). RootPathFits c.args.program.now c.args.union path.0 path.1)) (paths_of c.args.e.now) (paths_of c.in-Two.a) (paths_of c.in-Two.b) c.all_paths_fit-in-Two.result (ap paths_of c.in-Two.is ∙ paths-two c.in-Two.op c.in-Two.a c.in-Two.b)
    (at_part c.args.program.now c.args.union c.get-in-Two.result.now c.in-Two.a c.all_paths_fit-in-Two.result c.get-in-Two.ensures c.all_paths_fit-in-Two.ensures) c.if-not-all_paths_fit.true

pub returns-else-not-all_paths_fit : goal.returns-else-not-all_paths_fit
returns-else-not-all_paths_fit t c =
    goes (All (λ (path : Way). RootPathFits c.args.program.now c.args.union path.0 path.1)) (all_splits (λ (path : Way). RootPathFits c.args.program.now c.args.union path.0 path.1)) (paths_of c.args.e.now) (paths_of c.in-Two.a) (paths_of c.in-Two.b) c.all_paths_fit-in-Two.result c.all_paths_fit-in-Two-2.result (ap paths_of c.in-Two.is ∙ paths-two c.in-Two.op c.in-Two.a c.in-Two.b)
    (at_part c.args.program.now c.args.union c.get-in-Two.result.now c.in-Two.a c.all_paths_fit-in-Two.result c.get-in-Two.ensures c.all_paths_fit-in-Two.ensures) c.if-not-all_paths_fit.false
    (at_part c.args.program.now c.args.union c.get-in-Two-2.result.now c.in-Two.b c.all_paths_fit-in-Two-2.result c.get-in-Two-2.ensures c.all_paths_fit-in-Two-2.ensures)

pub returns-then-not-all_paths_fit-2 : goal.returns-then-not-all_paths_fit-2
returns-then-not-all_paths_fit-2 t c =
    let test = (at_part c.args.program.now c.args.union c.get-in-Cond.result.now c.in-Cond.test c.all_paths_fit-in-Cond.result c.get-in-Cond.ensures c.all_paths_fit-in-Cond.ensures) in
    let front = stops (All (λ (path : Way). RootPathFits c.args.program.now c.args.union path.0 path.1)) (all_splits (λ (path : Way). RootPathFits c.args.program.now c.args.union path.0 path.1)) ((paths_of c.in-Cond.test) ++ (paths_of c.in-Cond.yes)) (paths_of c.in-Cond.test) (paths_of c.in-Cond.yes) c.all_paths_fit-in-Cond.result refl test c.if-not-all_paths_fit-2.true in
    stops (All (λ (path : Way). RootPathFits c.args.program.now c.args.union path.0 path.1)) (all_splits (λ (path : Way). RootPathFits c.args.program.now c.args.union path.0 path.1)) (paths_of c.args.e.now) ((paths_of c.in-Cond.test) ++ (paths_of c.in-Cond.yes)) (paths_of c.in-Cond.no) false (ap paths_of c.in-Cond.is ∙ paths-cond c.in-Cond.test c.in-Cond.yes c.in-Cond.no) front refl

pub returns-then-not-all_paths_fit-3 : goal.returns-then-not-all_paths_fit-3
returns-then-not-all_paths_fit-3 t c =
    let test = (at_part c.args.program.now c.args.union c.get-in-Cond.result.now c.in-Cond.test c.all_paths_fit-in-Cond.result c.get-in-Cond.ensures c.all_paths_fit-in-Cond.ensures) in
    let yes' = (at_part c.args.program.now c.args.union c.get-in-Cond-2.result.now c.in-Cond.yes c.all_paths_fit-in-Cond-2.result c.get-in-Cond-2.ensures c.all_paths_fit-in-Cond-2.ensures) in
    let front = goes (All (λ (path : Way). RootPathFits c.args.program.now c.args.union path.0 path.1)) (all_splits (λ (path : Way). RootPathFits c.args.program.now c.args.union path.0 path.1)) ((paths_of c.in-Cond.test) ++ (paths_of c.in-Cond.yes)) (paths_of c.in-Cond.test) (paths_of c.in-Cond.yes) c.all_paths_fit-in-Cond.result c.all_paths_fit-in-Cond-2.result refl test c.if-not-all_paths_fit-2.false yes' in
    stops (All (λ (path : Way). RootPathFits c.args.program.now c.args.union path.0 path.1)) (all_splits (λ (path : Way). RootPathFits c.args.program.now c.args.union path.0 path.1)) (paths_of c.args.e.now) ((paths_of c.in-Cond.test) ++ (paths_of c.in-Cond.yes)) (paths_of c.in-Cond.no) c.all_paths_fit-in-Cond-2.result (ap paths_of c.in-Cond.is ∙ paths-cond c.in-Cond.test c.in-Cond.yes c.in-Cond.no) front c.if-not-all_paths_fit-3.true

pub returns-else-not-all_paths_fit-3 : goal.returns-else-not-all_paths_fit-3
returns-else-not-all_paths_fit-3 t c =
    let test = (at_part c.args.program.now c.args.union c.get-in-Cond.result.now c.in-Cond.test c.all_paths_fit-in-Cond.result c.get-in-Cond.ensures c.all_paths_fit-in-Cond.ensures) in
    let yes' = (at_part c.args.program.now c.args.union c.get-in-Cond-2.result.now c.in-Cond.yes c.all_paths_fit-in-Cond-2.result c.get-in-Cond-2.ensures c.all_paths_fit-in-Cond-2.ensures) in
    let no' = (at_part c.args.program.now c.args.union c.get-in-Cond-3.result.now c.in-Cond.no c.all_paths_fit-in-Cond-3.result c.get-in-Cond-3.ensures c.all_paths_fit-in-Cond-3.ensures) in
    let front = goes (All (λ (path : Way). RootPathFits c.args.program.now c.args.union path.0 path.1)) (all_splits (λ (path : Way). RootPathFits c.args.program.now c.args.union path.0 path.1)) ((paths_of c.in-Cond.test) ++ (paths_of c.in-Cond.yes)) (paths_of c.in-Cond.test) (paths_of c.in-Cond.yes) c.all_paths_fit-in-Cond.result c.all_paths_fit-in-Cond-2.result refl test c.if-not-all_paths_fit-2.false yes' in
    goes (All (λ (path : Way). RootPathFits c.args.program.now c.args.union path.0 path.1)) (all_splits (λ (path : Way). RootPathFits c.args.program.now c.args.union path.0 path.1)) (paths_of c.args.e.now) ((paths_of c.in-Cond.test) ++ (paths_of c.in-Cond.yes)) (paths_of c.in-Cond.no) c.all_paths_fit-in-Cond-2.result c.all_paths_fit-in-Cond-3.result (ap paths_of c.in-Cond.is ∙ paths-cond c.in-Cond.test c.in-Cond.yes c.in-Cond.no) front c.if-not-all_paths_fit-3.false no'

of_path :
    (program : Program) (union : TypeId) (e : Expr) (path : Way) (b : Bool) → paths_of e ≡ path ∷ [] → Decides b (RootPathFits program union path.0 path.1)
    → Decides b (All (λ (way : Way). RootPathFits program union way.0 way.1) (paths_of e))
of_path program union e path b same decides =
    subst (λ (ways : List Way). Decides b (All (λ (way : Way). RootPathFits program union way.0 way.1) ways)) (sym same)
    (each_of_one (λ (way : Way). RootPathFits program union way.0 way.1) path b decides)

of_one :
    (program : Program) (union : TypeId) (e a : Expr) (b : Bool) → paths_of e ≡ paths_of a → Decides b (All (λ (way : Way). RootPathFits program union way.0 way.1) (paths_of a))
    → Decides b (All (λ (way : Way). RootPathFits program union way.0 way.1) (paths_of e))
of_one program union e a b same decides = subst (λ (ways : List Way). Decides b (All (λ (way : Way). RootPathFits program union way.0 way.1) ways)) (sym same) decides

pub returns-in-Path : goal.returns-in-Path
returns-in-Path t c =
    of_path c.args.program.now c.args.union c.args.e.now (c.in-Path.base, c.in-Path.steps) c.path_fits.result (ap paths_of c.in-Path.is ∙ paths-path c.in-Path.base c.in-Path.steps)
    (subst (λ (steps : List (List ℕ)). Decides c.path_fits.result (RootPathFits c.args.program.now c.args.union c.in-Path.base steps)) c.as_slice.ensures.items c.path_fits.ensures)

pub returns-in-One : goal.returns-in-One
returns-in-One t c =
    of_one c.args.program.now c.args.union c.args.e.now c.in-One.a c.all_paths_fit.result (ap paths_of c.in-One.is ∙ paths-one c.in-One.op c.in-One.a)
    (at_part c.args.program.now c.args.union c.get.result.now c.in-One.a c.all_paths_fit.result c.get.ensures c.all_paths_fit.ensures)
