-- What the variables that a list of entries makes mean.
use Rattle.std.proofs.Common.{◌≡◌, ℕ, Bool, true, false, cond, List, [], ◌∷◌, refl, sym, ap, subst, ◌∙◌, Option, Some, None, IsSome}
use Rattle.std.specs.Prelude.{◌↔◌, IsTrue}
use Rattle.std.specs.Ordering.{eq_by_cmp, nat_cmp}
use Rattle.std.specs.Cmp.{eq_by_cmp_equiv}
use Rattle.std.specs.Cmp.Lexicographic.{slice_cmp, nat_list_cmp_total}
use Rattle.std.specs.BTreeMap.{is_at}
use Rattle.std.specs.Map.{lookup}
use Rattle.std.specs.FinMap.{find, get-from_entries, get-insert, same_map, nat_cmp-IsAntisymmetric, slice_cmp-IsAntisymmetric}
use Rattle.std.specs.List.{IsDistinct, filter}
use Rattle.std.specs.Map.{keys_of}
use Rattle.std.proofs.lemmas.Map.Entries.{lookup-filter-values, option_filter}
use Rattle.std.proofs.lemmas.Map.Lookups.{exact_bytes}
use Rattle.std.proofs.lemmas.Map.Views.{tells_apart}
use Rattle.gt_next.specs.States.{Variables, meaning, with_variable}
use Rattle.gt_vars.specs.Held.{variables_of}
use Rattle.gt_vars.specs.Held.{KeepsThose}

find-lookup : (es : List (List ℕ × ℕ)) (q : List ℕ) → find (slice_cmp nat_cmp) q es ≡ lookup (is_at (slice_cmp nat_cmp q)) es
find-lookup [] q = refl
find-lookup (e ∷ es) q = ap (cond (is_at (slice_cmp nat_cmp q) e.0) (Some e.1)) (find-lookup es q)

-- two variables of which each name means the same are the same
same_variables : (a b : Variables) → ((q : List ℕ) → meaning a q ≡ meaning b q) → a ≡ b
same_variables a b h = same_map nat_list_cmp_total (slice_cmp-IsAntisymmetric nat_cmp-IsAntisymmetric) a b h

-- what a name means is what stands at it in the entries
pub meaning-variables_of : (es : List (List ℕ × ℕ)) (q : List ℕ) → meaning (variables_of es) q ≡ lookup (is_at (slice_cmp nat_cmp q)) es
meaning-variables_of es q = get-from_entries nat_list_cmp_total es q ∙ find-lookup es q

-- entries that differ at one name make variables that differ there
pub variables_of-put :
    (es fs : List (List ℕ × ℕ)) (s : List ℕ) (n : ℕ)
    → ((q : List ℕ)
    → lookup (is_at (slice_cmp nat_cmp q)) fs ≡ cond (is_at (slice_cmp nat_cmp s) q) (Some n) (lookup (is_at (slice_cmp nat_cmp q)) es))
    → variables_of fs ≡ with_variable (variables_of es) s n
variables_of-put es fs s n h = same_variables _ _ (λ q.
    meaning-variables_of fs q ∙ h q ∙ ap (λ b. cond b (Some n) (lookup (is_at (slice_cmp nat_cmp q)) es)) ((eq_by_cmp_equiv nat_list_cmp_total).symm s q)
    ∙ sym (get-insert nat_list_cmp_total (variables_of es) s n q ∙ ap (cond (is_at (slice_cmp nat_cmp q) s) (Some n)) (meaning-variables_of es q)))

shadowed : (b : Bool) (m n : ℕ) (o : Option ℕ) → cond b (Some n) (cond b (Some m) o) ≡ cond b (Some n) o
shadowed true m n o = refl
shadowed false m n o = refl

-- the last of two bindings of one name stands
pub with_variable_twice : (v : Variables) (s : List ℕ) (m n : ℕ) → with_variable (with_variable v s m) s n ≡ with_variable v s n
with_variable_twice v s m n = same_variables _ _ (λ q.
    let b : Bool = is_at (slice_cmp nat_cmp q) s in
    get-insert nat_list_cmp_total (with_variable v s m) s n q ∙ ap (cond b (Some n)) (get-insert nat_list_cmp_total v s m q)
    ∙ shadowed b m n (meaning v q) ∙ sym (get-insert nat_list_cmp_total v s n q))

-- what a name means after the binding of one
pub meaning-with_variable : (v : Variables) (s : List ℕ) (n : ℕ) (q : List ℕ) → meaning (with_variable v s n) q ≡ cond (is_at (slice_cmp nat_cmp q) s) (Some n) (meaning v q)
meaning-with_variable v s n q = get-insert nat_list_cmp_total v s n q

some_here : (b : Bool) (n : ℕ) (o : Option ℕ) → b ≡ true → IsSome (cond b (Some n) o)
some_here true n o e = refl
some_here false n o e = absurd (cc)

-- a variable that was bound is bound
pub bound-with_variable : (v : Variables) (s : List ℕ) (n : ℕ) → IsSome (meaning (with_variable v s n) s)
bound-with_variable v s n =
    subst (λ o. IsSome o) (sym (meaning-with_variable v s n s))
    (some_here (is_at (slice_cmp nat_cmp s) s) n (meaning v s) ((eq_by_cmp_equiv nat_list_cmp_total).refl s))

-- names that tie are the same
same_name : (q s : List ℕ) → is_at (slice_cmp nat_cmp q) s ≡ true → q ≡ s
same_name q s h = tells_apart exact_bytes q s h

again : (b : Bool) (o m : Option ℕ) → (b ≡ true → m ≡ o) → cond b o m ≡ m
again true o m f = sym (f refl)
again false o m f = refl

-- a variable that is bound to what it means is as before
pub with_variable_same : (v : Variables) (s : List ℕ) (n : ℕ) → Some n ≡ meaning v s → with_variable v s n ≡ v
with_variable_same v s n e = same_variables _ _ (λ q.
    meaning-with_variable v s n q ∙ again (is_at (slice_cmp nat_cmp q) s) (Some n) (meaning v q) (λ h. ap (meaning v) (same_name q s h) ∙ sym e))

taken : (b : Bool) (n : ℕ) (m : Option ℕ) → (b ≡ true → m ≡ None) → cond b None (cond b (Some n) m) ≡ m
taken true n m f = sym (f refl)
taken false n m f = refl

-- a variable that was not bound, was bound, and is taken out
pub variables_of-taken :
    (es fs : List (List ℕ × ℕ)) (v : Variables) (s : List ℕ) (n : ℕ)
    → ((q : List ℕ) → lookup (is_at (slice_cmp nat_cmp q)) fs ≡ cond (is_at (slice_cmp nat_cmp s) q) None (lookup (is_at (slice_cmp nat_cmp q)) es))
    → variables_of es ≡ with_variable v s n → None ≡ meaning v s → variables_of fs ≡ v
variables_of-taken es fs v s n h is e = same_variables _ _ (λ q.
    let b : Bool = is_at (slice_cmp nat_cmp q) s in
    let before : lookup (is_at (slice_cmp nat_cmp q)) es ≡ cond b (Some n) (meaning v q) =
    sym (meaning-variables_of es q) ∙ ap (λ m. meaning m q) is ∙ meaning-with_variable v s n q in
    meaning-variables_of fs q ∙ h q ∙ ap (λ b. cond b None (lookup (is_at (slice_cmp nat_cmp q)) es)) ((eq_by_cmp_equiv nat_list_cmp_total).symm s q)
    ∙ ap (cond b None) before ∙ taken b n (meaning v q) (λ t. ap (meaning v) (same_name q s t) ∙ sym e))

passed_some : (b : Bool) (n id : ℕ) → cond b (Some n) None ≡ Some id → (Some n ≡ Some id) × (b ≡ true)
passed_some true n id e = (e, refl)
passed_some false n id e = absurd (cc)

some_passed : (b : Bool) (o m : Option ℕ) → b ≡ true → cond b o m ≡ o
some_passed true o m e = refl
some_passed false o m e = absurd (cc)

filtered : (p : ℕ → Bool) (o : Option ℕ) (id : ℕ) → (option_filter p o ≡ Some id) ↔ ((o ≡ Some id) × IsTrue (p id))
filtered p None id = (λ e. absurd (cc), λ (e, t). absurd (cc))
filtered p (Some n) id = (
  λ e. (let w = passed_some (p n) n id e in let same : n ≡ id = (let s = w.0 in cc) in (w.0, ap p (sym same) ∙ w.1)),
  λ (e, t). (let same : n ≡ id = cc in some_passed (p n) (Some n) None (ap p same ∙ t) ∙ e),
)

-- the entries whose objects pass a test are the variables of those objects
pub KeepsThose-filter :
    (es fs : List (List ℕ × ℕ)) (p : ℕ → Bool) → IsDistinct (eq_by_cmp (slice_cmp nat_cmp)) (keys_of es) → fs ≡ filter (λ e. p e.1) es
    → (old : Variables) → variables_of es ≡ old → KeepsThose (λ id. IsTrue (p id)) old (variables_of fs)
KeepsThose-filter es fs p distinct is old was = λ name id.
    let after : meaning (variables_of fs) name ≡ option_filter p (meaning old name) =
    meaning-variables_of fs name ∙ ap (lookup (is_at (slice_cmp nat_cmp name))) is
    ∙ lookup-filter-values (eq_by_cmp_equiv nat_list_cmp_total) p name es distinct
    ∙ ap (option_filter p) (sym (meaning-variables_of es name) ∙ ap (λ v. meaning v name) was) in
    let both = filtered p (meaning old name) id in
    (λ e. both.0 (sym after ∙ e), λ h. after ∙ both.1 h)
