use Rattle.std.proofs.Common.{◌≡◌, refl, ap, sym, subst, arith, SFits}
use Rattle.std.specs.Int.{w64}
use Rattle.std.proofs.lemmas.Int.{to_z-of_z, ints}
use Rattle.std.proofs.lemmas.Result.{IfOk-weaker}
use Rattle.gt_types.specs.declared.expressions.Expr.TheVariants as expr
use Rattle.gt_edges.specs.Walks.{path_leaf}
use Rattle.gt_tables.specs.Building.{around_of}
use Rattle.gt_tables.specs.Leaves.{IsRead, IsTranslated}
use Rattle.gt_tables.proofs.Translating.{moved, of-int, of-path, of-root, of-one, of-two, of-cond}
use Rattle.gt_tables.proofs.expressions.+translate.Goals as goal

pub returns-in-Int : goal.returns-in-Int
returns-in-Int t c =
    let xs = c.args.leaves.now.items in
    let fits : SFits w64 c.in-Int.n = search (arith, ints) in
    moved c.args.source.now c.args.around xs xs (expr.Int c.in-Int.n) c.args.e.now (expr.Int c.in-Int.n) _ c.in-Int.is (ap expr.Int (to_z-of_z w64 c.in-Int.n fits)) (of-int c.args.source.now c.args.around xs c.in-Int.n)

pub returns-in-Path : goal.returns-in-Path
returns-in-Path t c =
    let source = c.args.source.now in
    let xs = c.args.leaves.now.items in
    let ys = c.read_of.new.leaves.items in
    IfOk-weaker c.read_of.result (IsRead xs ys c.path_leaf.result) (IsTranslated source c.args.around xs ys c.args.e.now)
    (λ x read.
    moved source c.args.around xs ys (expr.Path c.in-Path.base c.in-Path.steps) c.args.e.now x x c.in-Path.is refl
    (of-path source c.args.around xs ys c.in-Path.base c.in-Path.steps c.path_leaf.result x
    (subst (λ steps. c.path_leaf.result ≡ path_leaf source.program.now source.layouts.now (around_of c.args.around) c.in-Path.base steps) c.as_slice.ensures.items c.path_leaf.ensures.leaf) read))
    c.read_of.ensures

pub returns-in-Root : goal.returns-in-Root
returns-in-Root t c =
    let source = c.args.source.now in
    let xs = c.args.leaves.now.items in
    let ys = c.read_of-in-Root.new.leaves.items in
    IfOk-weaker c.read_of-in-Root.result (IsRead xs ys c.root_leaf.result) (IsTranslated source c.args.around xs ys c.args.e.now)
    (λ x read.
    moved source c.args.around xs ys (expr.Root c.in-Root.place) c.args.e.now x x c.in-Root.is refl
    (of-root source c.args.around xs ys c.in-Root.place c.root_leaf.result x c.root_leaf.ensures.leaf read))
    c.read_of-in-Root.ensures

pub returns-in_ok-new-in-One : goal.returns-in_ok-new-in-One
returns-in_ok-new-in-One t c =
    let source = c.args.source.now in
    let around = c.args.around in
    let xs = c.args.leaves.now.items in
    let ys = c.translate.new.leaves.items in
    let a = moved source around xs ys c.get.result.now c.in-One.a c.in_ok-translate-in-One.field-0 c.in_ok-new-in-One.field-0 (sym c.get.ensures) c.in_ok-new-in-One.ensures c.in_ok-translate-in-One.ensures in
    let x = expr.One c.in-One.op c.in_ok-new-in-One.field-0 in
    moved source around xs ys (expr.One c.in-One.op c.in-One.a) c.args.e.now x x c.in-One.is refl (of-one source around xs ys c.in-One.op c.in-One.a c.in_ok-new-in-One.field-0 a)

pub returns-in_ok-new-in-Two-2 : goal.returns-in_ok-new-in-Two-2
returns-in_ok-new-in-Two-2 t c =
    let source = c.args.source.now in
    let around = c.args.around in
    let xs = c.args.leaves.now.items in
    let ys = c.translate-in-Two.new.leaves.items in
    let zs = c.translate-in-Two-2.new.leaves.items in
    let a = moved source around xs ys c.get-in-Two.result.now c.in-Two.a c.in_ok-translate-in-Two.field-0 c.in_ok-new-in-Two.field-0 (sym c.get-in-Two.ensures) c.in_ok-new-in-Two.ensures c.in_ok-translate-in-Two.ensures in
    let b = moved source around ys zs c.get-in-Two-2.result.now c.in-Two.b c.in_ok-translate-in-Two-2.field-0 c.in_ok-new-in-Two-2.field-0 (sym c.get-in-Two-2.ensures) c.in_ok-new-in-Two-2.ensures c.in_ok-translate-in-Two-2.ensures in
    let x = expr.Two c.in-Two.op c.in_ok-new-in-Two.field-0 c.in_ok-new-in-Two-2.field-0 in
    moved source around xs zs (expr.Two c.in-Two.op c.in-Two.a c.in-Two.b) c.args.e.now x x c.in-Two.is refl
    (of-two source around xs ys zs c.in-Two.op c.in-Two.a c.in-Two.b c.in_ok-new-in-Two.field-0 c.in_ok-new-in-Two-2.field-0 a b)

pub returns-in_ok-new-in-Cond-3 : goal.returns-in_ok-new-in-Cond-3
returns-in_ok-new-in-Cond-3 t c =
    let source = c.args.source.now in
    let around = c.args.around in
    let ws = c.args.leaves.now.items in
    let xs = c.translate-in-Cond.new.leaves.items in
    let ys = c.translate-in-Cond-2.new.leaves.items in
    let zs = c.translate-in-Cond-3.new.leaves.items in
    let u = c.in_ok-new-in-Cond.field-0 in
    let v = c.in_ok-new-in-Cond-2.field-0 in
    let w = c.in_ok-new-in-Cond-3.field-0 in
    let a = moved source around ws xs c.get-in-Cond.result.now c.in-Cond.test c.in_ok-translate-in-Cond.field-0 u (sym c.get-in-Cond.ensures) c.in_ok-new-in-Cond.ensures c.in_ok-translate-in-Cond.ensures in
    let b = moved source around xs ys c.get-in-Cond-2.result.now c.in-Cond.«yes» c.in_ok-translate-in-Cond-2.field-0 v (sym c.get-in-Cond-2.ensures) c.in_ok-new-in-Cond-2.ensures c.in_ok-translate-in-Cond-2.ensures in
    let d = moved source around ys zs c.get-in-Cond-3.result.now c.in-Cond.«no» c.in_ok-translate-in-Cond-3.field-0 w (sym c.get-in-Cond-3.ensures) c.in_ok-new-in-Cond-3.ensures c.in_ok-translate-in-Cond-3.ensures in
    moved source around ws zs (expr.Cond c.in-Cond.test c.in-Cond.«yes» c.in-Cond.«no») c.args.e.now (expr.Cond u v w) (expr.Cond u v w) c.in-Cond.is refl
    (of-cond source around ws xs ys zs c.in-Cond.test c.in-Cond.«yes» c.in-Cond.«no» u v w a b d)
