use Rattle.std.proofs.Common.{List, ◌++◌, ◌∙◌, false, refl, ap, sym, subst}
use Rattle.std.specs.Prelude.{IfOk}
use Rattle.std.specs.Bool.{Decides}
use Rattle.gt_types.specs.Paths.{Way, paths_of}
use Rattle.gt_paths.specs.Places.{PathAt}
use Rattle.gt_paths.proofs.Fitting.{AllFit, at_last, at_part, goes_last, of_path}
use Rattle.gt_paths.proofs.PartLists.{paths-path, paths-one, paths-two, paths-cond}
use Rattle.gt_paths.proofs.Walks.{all_splits, stops, goes}
use Rattle.gt_paths.proofs.checks.PathChecks.+all_paths_fit.Goals as goal

pub returns-in-Path-clause-decides : goal.returns-in-Path-clause-decides
returns-in-Path-clause-decides t c =
    of_path c.args.self.now c.args.place c.args.e.now (c.in-Path.base, c.in-Path.steps) c.path_fits.result (ap paths_of c.in-Path.is ∙ paths-path c.in-Path.base c.in-Path.steps) c.path_fits.ensures.decides

pub returns-in-One-clause-decides : goal.returns-in-One-clause-decides
returns-in-One-clause-decides t c =
    subst (λ (ways : List Way). IfOk c.all_paths_fit.result (λ r. Decides r (AllFit c.args.self.now c.args.place ways))) (sym (ap paths_of c.in-One.is ∙ paths-one c.in-One.op c.in-One.a))
    (at_last c.args.self.now c.args.self.now c.args.place c.get.result.now c.in-One.a c.all_paths_fit.result refl c.get.ensures c.all_paths_fit.ensures.decides)

pub returns-then-not-branch-clause-decides : goal.returns-then-not-branch-clause-decides
returns-then-not-branch-clause-decides t c =
    let path_at = λ (path : Way). PathAt c.args.self.now c.args.place path.0 path.1 in
    stops (AllFit c.args.self.now c.args.place) (all_splits path_at) (paths_of c.args.e.now) (paths_of c.in-Two.a) (paths_of c.in-Two.b) c.in_ok-all_paths_fit-in-Two.field-0
    (ap paths_of c.in-Two.is ∙ paths-two c.in-Two.op c.in-Two.a c.in-Two.b)
    (at_part c.args.self.now c.args.self.now c.args.place c.get-in-Two.result.now c.in-Two.a c.in_ok-all_paths_fit-in-Two.field-0 refl c.get-in-Two.ensures c.in_ok-all_paths_fit-in-Two.ensures.decides)
    c.if-not-branch.true

pub returns-else-not-branch-clause-decides : goal.returns-else-not-branch-clause-decides
returns-else-not-branch-clause-decides t c =
    goes_last c.args.self.now c.args.place (paths_of c.args.e.now) (paths_of c.in-Two.a) (paths_of c.in-Two.b) c.in_ok-all_paths_fit-in-Two.field-0 c.all_paths_fit-in-Two-2.result
    (ap paths_of c.in-Two.is ∙ paths-two c.in-Two.op c.in-Two.a c.in-Two.b)
    (at_part c.args.self.now c.args.self.now c.args.place c.get-in-Two.result.now c.in-Two.a c.in_ok-all_paths_fit-in-Two.field-0 refl c.get-in-Two.ensures c.in_ok-all_paths_fit-in-Two.ensures.decides)
    c.if-not-branch.false
    (at_last c.all_paths_fit-in-Two.new.self c.args.self.now c.args.place c.get-in-Two-2.result.now c.in-Two.b c.all_paths_fit-in-Two-2.result c.all_paths_fit-in-Two.ensures.same c.get-in-Two-2.ensures
    c.all_paths_fit-in-Two-2.ensures.decides)

pub returns-then-not-branch-2-clause-decides : goal.returns-then-not-branch-2-clause-decides
returns-then-not-branch-2-clause-decides t c =
    let path_at = λ (path : Way). PathAt c.args.self.now c.args.place path.0 path.1 in
    let fit = AllFit c.args.self.now c.args.place in
    let test =
    at_part c.args.self.now c.args.self.now c.args.place c.get-in-Cond.result.now c.in-Cond.test c.in_ok-all_paths_fit-in-Cond.field-0 refl c.get-in-Cond.ensures c.in_ok-all_paths_fit-in-Cond.ensures.decides in
    let front = stops fit (all_splits path_at) (paths_of c.in-Cond.test ++ paths_of c.in-Cond.yes) (paths_of c.in-Cond.test) (paths_of c.in-Cond.yes) c.in_ok-all_paths_fit-in-Cond.field-0 refl test c.if-not-branch-2.true in
    stops fit (all_splits path_at) (paths_of c.args.e.now) (paths_of c.in-Cond.test ++ paths_of c.in-Cond.yes) (paths_of c.in-Cond.no) false
    (ap paths_of c.in-Cond.is ∙ paths-cond c.in-Cond.test c.in-Cond.yes c.in-Cond.no) front refl

pub returns-then-not-branch-3-clause-decides : goal.returns-then-not-branch-3-clause-decides
returns-then-not-branch-3-clause-decides t c =
    let path_at = λ (path : Way). PathAt c.args.self.now c.args.place path.0 path.1 in
    let fit = AllFit c.args.self.now c.args.place in
    let test =
    at_part c.args.self.now c.args.self.now c.args.place c.get-in-Cond.result.now c.in-Cond.test c.in_ok-all_paths_fit-in-Cond.field-0 refl c.get-in-Cond.ensures c.in_ok-all_paths_fit-in-Cond.ensures.decides in
    let yes' =
    at_part c.all_paths_fit-in-Cond.new.self c.args.self.now c.args.place c.get-in-Cond-2.result.now c.in-Cond.yes c.in_ok-all_paths_fit-in-Cond-2.field-0 c.all_paths_fit-in-Cond.ensures.same c.get-in-Cond-2.ensures
    c.in_ok-all_paths_fit-in-Cond-2.ensures.decides in
    let front =
    goes fit (all_splits path_at) (paths_of c.in-Cond.test ++ paths_of c.in-Cond.yes) (paths_of c.in-Cond.test) (paths_of c.in-Cond.yes) c.in_ok-all_paths_fit-in-Cond.field-0
    c.in_ok-all_paths_fit-in-Cond-2.field-0 refl test c.if-not-branch-2.false yes' in
    stops fit (all_splits path_at) (paths_of c.args.e.now) (paths_of c.in-Cond.test ++ paths_of c.in-Cond.yes) (paths_of c.in-Cond.no) c.in_ok-all_paths_fit-in-Cond-2.field-0
    (ap paths_of c.in-Cond.is ∙ paths-cond c.in-Cond.test c.in-Cond.yes c.in-Cond.no) front c.if-not-branch-3.true

pub returns-else-not-branch-3-clause-decides : goal.returns-else-not-branch-3-clause-decides
returns-else-not-branch-3-clause-decides t c =
    let path_at = λ (path : Way). PathAt c.args.self.now c.args.place path.0 path.1 in
    let fit = AllFit c.args.self.now c.args.place in
    let test =
    at_part c.args.self.now c.args.self.now c.args.place c.get-in-Cond.result.now c.in-Cond.test c.in_ok-all_paths_fit-in-Cond.field-0 refl c.get-in-Cond.ensures c.in_ok-all_paths_fit-in-Cond.ensures.decides in
    let yes' =
    at_part c.all_paths_fit-in-Cond.new.self c.args.self.now c.args.place c.get-in-Cond-2.result.now c.in-Cond.yes c.in_ok-all_paths_fit-in-Cond-2.field-0 c.all_paths_fit-in-Cond.ensures.same c.get-in-Cond-2.ensures
    c.in_ok-all_paths_fit-in-Cond-2.ensures.decides in
    let front =
    goes fit (all_splits path_at) (paths_of c.in-Cond.test ++ paths_of c.in-Cond.yes) (paths_of c.in-Cond.test) (paths_of c.in-Cond.yes) c.in_ok-all_paths_fit-in-Cond.field-0
    c.in_ok-all_paths_fit-in-Cond-2.field-0 refl test c.if-not-branch-2.false yes' in
    goes_last c.args.self.now c.args.place (paths_of c.args.e.now) (paths_of c.in-Cond.test ++ paths_of c.in-Cond.yes) (paths_of c.in-Cond.no) c.in_ok-all_paths_fit-in-Cond-2.field-0
    c.all_paths_fit-in-Cond-3.result (ap paths_of c.in-Cond.is ∙ paths-cond c.in-Cond.test c.in-Cond.yes c.in-Cond.no) front c.if-not-branch-3.false
    (at_last c.all_paths_fit-in-Cond-2.new.self c.args.self.now c.args.place c.get-in-Cond-3.result.now c.in-Cond.no c.all_paths_fit-in-Cond-3.result
    (c.all_paths_fit-in-Cond-2.ensures.same ∙ c.all_paths_fit-in-Cond.ensures.same) c.get-in-Cond-3.ensures c.all_paths_fit-in-Cond-3.ensures.decides)
