use Rattle.std.specs.Prelude.{Any}
use Rattle.gt_types.specs.declared.expressions.Base.{Base}
use Rattle.gt_types.specs.Paths.{Way}
use Rattle.std.proofs.Common.{◌≡◌, ◌++◌, ◌∙◌, Bool, true, List, [], ◌∷◌, refl, ap, sym, subst}
use Rattle.std.specs.Bool.{Decides}
use Rattle.gt_types.specs.declared.expressions.Expr.{Expr}
use Rattle.gt_types.specs.Paths.{paths_of}
use Rattle.gt_paths.proofs.PartLists.{paths-path, paths-two, paths-cond}
use Rattle.gt_paths.proofs.Walks.{any_joins, some_of_one, found, seeks}
use Rattle.gt_paths.proofs.expressions.+names_base.Goals as goal

at_part : (base : Base) (x y : Expr) (b : Bool) → x ≡ y → Decides b (Any (λ (path : Way). path.0 ≡ base) (paths_of x)) → Decides b (Any (λ (path : Way). path.0 ≡ base) (paths_of y))
at_part base x y b same decides = subst (λ z. Decides b (Any (λ (path : Way). path.0 ≡ base) (paths_of z))) same decides

pub returns-then-names_base : goal.returns-then-names_base
returns-then-names_base t c =
    found (Any (λ (path : Way). path.0 ≡ c.args.base)) (any_joins (λ (path : Way). path.0 ≡ c.args.base)) (paths_of c.args.e.now) (paths_of c.in-Two.a) (paths_of c.in-Two.b) c.names_base-in-Two.result (ap paths_of c.in-Two.is ∙ paths-two c.in-Two.op c.in-Two.a c.in-Two.b)
    (at_part c.args.base c.get-in-Two.result.now c.in-Two.a c.names_base-in-Two.result c.get-in-Two.ensures c.names_base-in-Two.ensures) c.if-names_base.true

pub returns-else-names_base : goal.returns-else-names_base
returns-else-names_base t c =
    seeks (Any (λ (path : Way). path.0 ≡ c.args.base)) (any_joins (λ (path : Way). path.0 ≡ c.args.base)) (paths_of c.args.e.now) (paths_of c.in-Two.a) (paths_of c.in-Two.b) c.names_base-in-Two.result c.names_base-in-Two-2.result (ap paths_of c.in-Two.is ∙ paths-two c.in-Two.op c.in-Two.a c.in-Two.b)
    (at_part c.args.base c.get-in-Two.result.now c.in-Two.a c.names_base-in-Two.result c.get-in-Two.ensures c.names_base-in-Two.ensures) c.if-names_base.false
    (at_part c.args.base c.get-in-Two-2.result.now c.in-Two.b c.names_base-in-Two-2.result c.get-in-Two-2.ensures c.names_base-in-Two-2.ensures)

pub returns-then-names_base-2 : goal.returns-then-names_base-2
returns-then-names_base-2 t c =
    let test = (at_part c.args.base c.get-in-Cond.result.now c.in-Cond.test c.names_base-in-Cond.result c.get-in-Cond.ensures c.names_base-in-Cond.ensures) in
    let front = found (Any (λ (path : Way). path.0 ≡ c.args.base)) (any_joins (λ (path : Way). path.0 ≡ c.args.base)) ((paths_of c.in-Cond.test) ++ (paths_of c.in-Cond.yes)) (paths_of c.in-Cond.test) (paths_of c.in-Cond.yes) c.names_base-in-Cond.result refl test c.if-names_base-2.true in
    found (Any (λ (path : Way). path.0 ≡ c.args.base)) (any_joins (λ (path : Way). path.0 ≡ c.args.base)) (paths_of c.args.e.now) ((paths_of c.in-Cond.test) ++ (paths_of c.in-Cond.yes)) (paths_of c.in-Cond.no) true (ap paths_of c.in-Cond.is ∙ paths-cond c.in-Cond.test c.in-Cond.yes c.in-Cond.no) front refl

pub returns-then-names_base-3 : goal.returns-then-names_base-3
returns-then-names_base-3 t c =
    let test = (at_part c.args.base c.get-in-Cond.result.now c.in-Cond.test c.names_base-in-Cond.result c.get-in-Cond.ensures c.names_base-in-Cond.ensures) in
    let yes' = (at_part c.args.base c.get-in-Cond-2.result.now c.in-Cond.yes c.names_base-in-Cond-2.result c.get-in-Cond-2.ensures c.names_base-in-Cond-2.ensures) in
    let front = seeks (Any (λ (path : Way). path.0 ≡ c.args.base)) (any_joins (λ (path : Way). path.0 ≡ c.args.base)) ((paths_of c.in-Cond.test) ++ (paths_of c.in-Cond.yes)) (paths_of c.in-Cond.test) (paths_of c.in-Cond.yes) c.names_base-in-Cond.result c.names_base-in-Cond-2.result refl test c.if-names_base-2.false yes' in
    found (Any (λ (path : Way). path.0 ≡ c.args.base)) (any_joins (λ (path : Way). path.0 ≡ c.args.base)) (paths_of c.args.e.now) ((paths_of c.in-Cond.test) ++ (paths_of c.in-Cond.yes)) (paths_of c.in-Cond.no) c.names_base-in-Cond-2.result (ap paths_of c.in-Cond.is ∙ paths-cond c.in-Cond.test c.in-Cond.yes c.in-Cond.no) front c.if-names_base-3.true

pub returns-else-names_base-3 : goal.returns-else-names_base-3
returns-else-names_base-3 t c =
    let test = (at_part c.args.base c.get-in-Cond.result.now c.in-Cond.test c.names_base-in-Cond.result c.get-in-Cond.ensures c.names_base-in-Cond.ensures) in
    let yes' = (at_part c.args.base c.get-in-Cond-2.result.now c.in-Cond.yes c.names_base-in-Cond-2.result c.get-in-Cond-2.ensures c.names_base-in-Cond-2.ensures) in
    let no' = (at_part c.args.base c.get-in-Cond-3.result.now c.in-Cond.no c.names_base-in-Cond-3.result c.get-in-Cond-3.ensures c.names_base-in-Cond-3.ensures) in
    let front = seeks (Any (λ (path : Way). path.0 ≡ c.args.base)) (any_joins (λ (path : Way). path.0 ≡ c.args.base)) ((paths_of c.in-Cond.test) ++ (paths_of c.in-Cond.yes)) (paths_of c.in-Cond.test) (paths_of c.in-Cond.yes) c.names_base-in-Cond.result c.names_base-in-Cond-2.result refl test c.if-names_base-2.false yes' in
    seeks (Any (λ (path : Way). path.0 ≡ c.args.base)) (any_joins (λ (path : Way). path.0 ≡ c.args.base)) (paths_of c.args.e.now) ((paths_of c.in-Cond.test) ++ (paths_of c.in-Cond.yes)) (paths_of c.in-Cond.no) c.names_base-in-Cond-2.result c.names_base-in-Cond-3.result (ap paths_of c.in-Cond.is ∙ paths-cond c.in-Cond.test c.in-Cond.yes c.in-Cond.no) front c.if-names_base-3.false no'

of_path : (base : Base) (e : Expr) (path : Way) (b : Bool) → paths_of e ≡ path ∷ [] → Decides b (path.0 ≡ base) → Decides b (Any (λ (way : Way). way.0 ≡ base) (paths_of e))
of_path base e path b same decides =
    subst (λ (ways : List Way). Decides b (Any (λ (way : Way). way.0 ≡ base) ways)) (sym same) (some_of_one (λ (way : Way). way.0 ≡ base) path b decides)

pub returns-in-Path : goal.returns-in-Path
returns-in-Path t c =
    of_path c.args.base c.args.e.now (c.in-Path.other, c.in-Path.steps) c.is_base.result (ap paths_of c.in-Path.is ∙ paths-path c.in-Path.other c.in-Path.steps)
    c.is_base.ensures
