-- What variables mean, and how many they are, when one is bound no more.
use Rattle.std.proofs.Common.{◌≡◌, ℕ, ◌≤◌, ◌-◌, Bool, true, false, cond, List, sym, ap, ◌∙◌, Option, Some, None, arith}
use Rattle.std.specs.Ordering.{nat_cmp}
use Rattle.std.specs.Cmp.{eq_by_cmp_equiv}
use Rattle.std.specs.Cmp.Lexicographic.{slice_cmp, nat_list_cmp_total}
use Rattle.std.specs.BTreeMap.{is_at}
use Rattle.std.specs.Map.{lookup}
use Rattle.std.specs.FinMap.{contains_key, get-remove, len-remove, same_map, nat_cmp-IsAntisymmetric, slice_cmp-IsAntisymmetric}
use Rattle.gt_next.specs.States.{Variables, meaning, without_variable, count_of_variables}
use Rattle.gt_vars.specs.Held.{variables_of}
use Rattle.gt_vars.proofs.VarsEntries.{meaning-variables_of}

-- entries without those at one name make the variables without it
pub variables_of-removed :
    (es fs : List (List ℕ × ℕ)) (s : List ℕ)
    → ((q : List ℕ) → lookup (is_at (slice_cmp nat_cmp q)) fs ≡ cond (is_at (slice_cmp nat_cmp s) q) None (lookup (is_at (slice_cmp nat_cmp q)) es))
    → variables_of fs ≡ without_variable (variables_of es) s
variables_of-removed es fs s h =
    same_map nat_list_cmp_total (slice_cmp-IsAntisymmetric nat_cmp-IsAntisymmetric) (variables_of fs) (without_variable (variables_of es) s)
    (λ q.
    meaning-variables_of fs q ∙ h q ∙ ap (λ b. cond b None (lookup (is_at (slice_cmp nat_cmp q)) es)) ((eq_by_cmp_equiv nat_list_cmp_total).symm s q)
    ∙ sym (get-remove nat_list_cmp_total (variables_of es) s q ∙ ap (cond (is_at (slice_cmp nat_cmp q) s) None) (meaning-variables_of es q)))

passed : (b : Bool) (o : Option ℕ) (id : ℕ) → cond b None o ≡ Some id → o ≡ Some id
passed true o id is = absurd (cc)
passed false o id is = is

-- a variable that means something when one is bound no more meant the same before
pub meant_before : (v : Variables) (name q : List ℕ) (id : ℕ) → meaning (without_variable v name) q ≡ Some id → meaning v q ≡ Some id
meant_before v name q id is =
    passed (is_at (slice_cmp nat_cmp q) name) (meaning v q) id (sym (get-remove nat_list_cmp_total v name q) ∙ is)

fewer : (b : Bool) (n m : ℕ) → n ≡ cond b (m - 1) m → n ≤ m
fewer true n m is = omega arith
fewer false n m is = omega arith

-- no more variables are bound then
pub no_more_variables : (v : Variables) (name : List ℕ) → count_of_variables (without_variable v name) ≤ count_of_variables v
no_more_variables v name =
    fewer (contains_key {R = slice_cmp nat_cmp} v name) (count_of_variables (without_variable v name)) (count_of_variables v) (len-remove nat_list_cmp_total v name)
