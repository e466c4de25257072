-- What variables mean when one is bound twice.
use Rattle.std.proofs.Common.{◌≡◌, ℕ, Bool, true, false, cond, List, refl, sym, ap, subst, ◌∙◌, Option, Some, IsSome}
use Rattle.std.specs.Ordering.{nat_cmp}
use Rattle.std.specs.Cmp.{eq_by_cmp_equiv}
use Rattle.std.specs.Cmp.Lexicographic.{slice_cmp, nat_list_cmp_total}
use Rattle.std.specs.BTreeMap.{is_at}
use Rattle.std.specs.FinMap.{get-insert, same_map, nat_cmp-IsAntisymmetric, slice_cmp-IsAntisymmetric}
use Rattle.gt_next.specs.States.{Variables, meaning, with_variable}

shadowed : (b : Bool) (m n : ℕ) (o : Option ℕ) → cond b (Some n) (cond b (Some m) o) ≡ cond b (Some n) o
shadowed true m n o = refl
shadowed false m n o = refl

-- the last of two bindings of one name stands
pub bound-twice : (v : Variables) (s : List ℕ) (m n : ℕ) → with_variable (with_variable v s m) s n ≡ with_variable v s n
bound-twice v s m n = same_map nat_list_cmp_total (slice_cmp-IsAntisymmetric nat_cmp-IsAntisymmetric) _ _ (λ q.
    let b : Bool = is_at (slice_cmp nat_cmp q) s in
    get-insert nat_list_cmp_total (with_variable v s m) s n q ∙ ap (cond b (Some n)) (get-insert nat_list_cmp_total v s m q)
    ∙ shadowed b m n (meaning v q) ∙ sym (get-insert nat_list_cmp_total v s n q))

some-here : (b : Bool) (n : ℕ) (o : Option ℕ) → b ≡ true → IsSome (cond b (Some n) o)
some-here true n o e = refl
some-here false n o e = absurd (cc)

-- a variable that was bound is bound
pub bound-there : (v : Variables) (s : List ℕ) (n : ℕ) → IsSome (meaning (with_variable v s n) s)
bound-there v s n =
    subst (λ o. IsSome o) (sym (get-insert nat_list_cmp_total v s n s)) (some-here (is_at (slice_cmp nat_cmp s) s) n (meaning v s) ((eq_by_cmp_equiv nat_list_cmp_total).refl s))
