use Rattle.std.proofs.Common.{◌≡◌, sym, subst, arith}
use Rattle.std.specs.Prelude.{length}
use Rattle.std.specs.Str.{IsCharBoundary}
use Rattle.std.specs.Rc.{rc_str_bytes}
use Rattle.std.proofs.lemmas.Str.{IsCharBoundary-start, IsCharBoundary-end}
use Rattle.gt_types.proofs.word.Word.of.Goals as goal

pub invariant_of-result : goal.invariant_of-result
invariant_of-result c =
    let whole : rc_str_bytes c.in_ok-from_str.field-0 ≡ c.args.text.now = c.in_ok-from_str.ensures.ok in
    (omega arith, subst (λ b. IsCharBoundary b 0) (sym whole) (IsCharBoundary-start c.args.text.now c.utf8.text), subst (λ b. IsCharBoundary b (length c.args.text.now)) (sym whole) (IsCharBoundary-end c.args.text.now))
