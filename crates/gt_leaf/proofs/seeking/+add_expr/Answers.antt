use Rattle.std.proofs.Common.{◌≡◌, ◌++◌, ap, sym, ap₂, ◌∙◌}
use Rattle.gt_types.specs.Paths.{paths_of}
use Rattle.gt_paths.proofs.PartLists.{paths-two, paths-cond}
use Rattle.gt_sets.specs.Sets.{IsIn}
use Rattle.gt_starts.specs.Paths.{BeginsIn}
use Rattle.gt_leaf.proofs.ExprPaths.{on-ok, gains-path, gains-two, gains-three}
use Rattle.gt_leaf.proofs.seeking.+add_expr.Goals as goal

pub returns-then-is_same : goal.returns-then-is_same
returns-then-is_same t c = record {
  added = on-ok c.add.result
      (gains-path c.args.base (IsIn c.args.begins.now.value) c.in-Path.own c.args.e.now c.as_slice.result.now _ (BeginsIn c.args.paths.now) (BeginsIn c.add.new.self) (sym c.is_same.ensures ∙ c.if-is_same.true) c.in-Path.is c.as_slice.ensures.items)
      c.add.ensures.added;
}

pub returns-in_ok-add_expr-in-Two : goal.returns-in_ok-add_expr-in-Two
returns-in_ok-add_expr-in-Two t c =
    let a = c.get-in-Two.result.now in
    let b = c.get-in-Two-2.result.now in
    let is : paths_of c.args.e.now ≡ paths_of a ++ paths_of b =
    ap paths_of c.in-Two.is ∙ paths-two c.in-Two.op c.in-Two.a c.in-Two.b ∙ ap₂ (λ x y. paths_of x ++ paths_of y) (sym c.get-in-Two.ensures) (sym c.get-in-Two-2.ensures) in
    record {
      added = on-ok c.add_expr-in-Two-2.result
          (λ more. gains-two c.args.base (IsIn c.args.begins.now.value) (BeginsIn c.args.paths.now) (BeginsIn c.add_expr-in-Two.new.paths) (BeginsIn c.add_expr-in-Two-2.new.paths) c.args.e.now a b is c.in_ok-add_expr-in-Two.ensures.added more)
          c.add_expr-in-Two-2.ensures.added;
    }

pub returns-in_ok-add_expr-in-Cond-2 : goal.returns-in_ok-add_expr-in-Cond-2
returns-in_ok-add_expr-in-Cond-2 t c =
    let test = c.get-in-Cond.result.now in
    let a = c.get-in-Cond-2.result.now in
    let b = c.get-in-Cond-3.result.now in
    let is : paths_of c.args.e.now ≡ (paths_of test ++ paths_of a) ++ paths_of b =
    ap paths_of c.in-Cond.is
    ∙ paths-cond c.in-Cond.test c.in-Cond.yes c.in-Cond.no
    ∙ ap₂ (λ x y. x ++ paths_of y) (ap₂ (λ x y. paths_of x ++ paths_of y) (sym c.get-in-Cond.ensures) (sym c.get-in-Cond-2.ensures)) (sym c.get-in-Cond-3.ensures) in
    record {
      added = on-ok c.add_expr-in-Cond-3.result
          (λ more. gains-three c.args.base (IsIn c.args.begins.now.value) (BeginsIn c.args.paths.now) (BeginsIn c.add_expr-in-Cond.new.paths) (BeginsIn c.add_expr-in-Cond-2.new.paths) (BeginsIn c.add_expr-in-Cond-3.new.paths) c.args.e.now test a b is c.in_ok-add_expr-in-Cond.ensures.added c.in_ok-add_expr-in-Cond-2.ensures.added more)
          c.add_expr-in-Cond-3.ensures.added;
    }
