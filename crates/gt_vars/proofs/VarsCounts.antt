-- How many variables are bound when one is bound, and whether one more may be.
use Rattle.std.proofs.Common.{◌≡◌, ℕ, ◌+◌, ◌<◌, ◌≤◌, inl, inr, Bool, true, false, cond, not, List, length, refl, ap, sym, ◌∙◌, Option, Some, None, arith}
use Rattle.std.specs.Bool.{Decides}
use Rattle.std.specs.Option.{is_some}
use Rattle.std.specs.Ordering.{eq_by_cmp, nat_cmp}
use Rattle.std.specs.Cmp.Lexicographic.{slice_cmp, nat_list_cmp_total}
use Rattle.std.specs.FinMap.{len-insert}
use Rattle.std.specs.List.{IsDistinct}
use Rattle.std.specs.Map.{keys_of}
use Rattle.std.proofs.lemmas.Bool.{cases_lt}
use Rattle.gt_next.specs.States.{Variables, meaning, with_variable, count_of_variables, IsFullOfVariables}
use Rattle.gt_vars.specs.Held.{variables_of}
use Rattle.gt_next.specs.declared.TheConstants.{MAX_VARIABLES}
use Rattle.gt_vars.proofs.EntriesCount.{count-variables_of}

one_more : (o : Option ℕ) (n m most : ℕ) → n ≡ cond (is_some o) m (m + 1) → ((most ≤ m) × (o ≡ None) → ⊥) → m ≤ most → n ≤ most
one_more (Some id) n m most is some few = omega (arith, is, few)
one_more None n m most is some few =
    elim (cases_lt m most) [ inl less ↦ omega (arith, is, less) | inr no_less ↦ absurd (some (omega (arith, no_less), refl)) ]

-- no more than may be, where a new one is not too many
pub count-with_variable :
    (v : Variables) (name : List ℕ) (id : ℕ) → (IsFullOfVariables v name → ⊥) → count_of_variables v ≤ MAX_VARIABLES
    → count_of_variables (with_variable v name id) ≤ MAX_VARIABLES
count-with_variable v name id room few =
    one_more (meaning v name) (count_of_variables (with_variable v name id)) (count_of_variables v) MAX_VARIABLES
    (len-insert nat_list_cmp_total v name id) room few

-- as many variables are bound as there are entries
count_is :
    (es : List (List ℕ × ℕ)) (v : Variables) (n : ℕ) → IsDistinct (eq_by_cmp (slice_cmp nat_cmp)) (keys_of es) → variables_of es ≡ v → n ≡ length es
    → count_of_variables v ≡ n
count_is es v n distinct same counted = ap count_of_variables (sym same) ∙ count-variables_of es distinct ∙ sym counted

full_where : (m : Option ℕ) (b : Bool) (n most : ℕ) → is_some m ≡ not b → most ≤ n → Decides b ((most ≤ n) × (m ≡ None))
full_where None true n most is many = (λ _. (many, refl), λ _. refl)
full_where None false n most is many = absurd (cc)
full_where (Some id) true n most is many = absurd (cc)
full_where (Some id) false n most is many = (λ e. absurd (cc), λ full. (let never : Some id ≡ None = full.1 in absurd (cc)))

-- where the most are bound, a name that is none of them is one too many
pub full_of_entries :
    (es : List (List ℕ × ℕ)) (v : Variables) (name : List ℕ) (n : ℕ) (b : Bool) → IsDistinct (eq_by_cmp (slice_cmp nat_cmp)) (keys_of es)
    → variables_of es ≡ v → n ≡ length es → MAX_VARIABLES ≤ n → is_some (meaning v name) ≡ not b → Decides b (IsFullOfVariables v name)
full_of_entries es v name n b distinct same counted many is =
    full_where (meaning v name) b (count_of_variables v) MAX_VARIABLES is (omega (arith, many, count_is es v n distinct same counted))

-- where fewer are bound, none is
pub room_of_entries :
    (es : List (List ℕ × ℕ)) (v : Variables) (name : List ℕ) (n : ℕ) (b : Bool) → IsDistinct (eq_by_cmp (slice_cmp nat_cmp)) (keys_of es)
    → variables_of es ≡ v → n ≡ length es → n < MAX_VARIABLES → b ≡ false → Decides b (IsFullOfVariables v name)
room_of_entries es v name n b distinct same counted few is = (
  λ e. (let never : false ≡ true = sym is ∙ e in absurd (cc)),
  λ full. absurd (omega (arith, few, full.0, count_is es v n distinct same counted)),
)
