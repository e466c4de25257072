use Rattle.std.proofs.Common.{◌≡◌, ◌∙◌, ap, sym, subst, inl, inr}
use Rattle.gt_walk.specs.declared.rows.WalkRow.TheVariants as row
use Rattle.gt_alike.specs.Alike.{Pairs, IsSameArm, has_switch}
use Rattle.gt_alike.proofs.Forms.{switch-there}
use Rattle.gt_alike.proofs.Equal.{one-switch}
use Rattle.gt_alike.proofs.alike.is_alike.Goals as goal

pub returns-then-is_expr : goal.returns-then-is_expr
returns-then-is_expr c =
    let desc = c.in-Switch.desc in
    let arms = c.in-Switch.arms in
    let members = c.in-Switch-other.members in
    let by : c.in-Switch-other.by ≡ desc = sym (c.is_expr.ensures.decides.0 c.if-is_expr.true) in
    let other : c.args.other.now ≡ row.Switch desc members = c.in-Switch-other.is ∙ ap (λ e. row.Switch e members) by in
    record {
      decides = (
        λ yes-they-are. inr (record {
          desc = desc;
          arms = arms;
          others = members;
          one = c.in-Switch.is;
          other = other;
          same = subst (λ xs. Pairs IsSameArm xs members.items) c.deref.ensures.value (subst (λ ys. Pairs IsSameArm c.deref.result.now ys) c.deref-then-is_expr.ensures.value (c.are_arms.ensures.decides.0 yes-they-are));
        }),
        λ alike. elim alike [
          | inl same ↦ let there = ap has_switch c.in-Switch.is ∙ switch-there desc arms in absurd (cc (same.1, there))
          | inr both ↦
              let one : both.arms.items ≡ arms.items = one-switch both.desc desc both.arms arms (sym both.one ∙ c.in-Switch.is) in
              let two : both.others.items ≡ members.items = one-switch both.desc desc both.others members (sym both.other ∙ other) in
              let items : Pairs IsSameArm arms.items members.items = subst (λ xs. Pairs IsSameArm xs members.items) one (subst (λ ys. Pairs IsSameArm both.arms.items ys) two both.same) in
              c.are_arms.ensures.decides.1
              (subst (λ xs. Pairs IsSameArm xs c.deref-then-is_expr.result.now) (sym c.deref.ensures.value) (subst (λ ys. Pairs IsSameArm arms.items ys) (sym c.deref-then-is_expr.ensures.value) items))
        ],
      );
    }
