-- How many variables a list of entries makes.
use Rattle.std.proofs.Common.{◌≡◌, ℕ, ◌+◌, ◌≤◌, Bool, true, false, cond, List, [], ◌∷◌, length, refl, ap, ◌∙◌, arith, is_some}
use Rattle.std.specs.Prelude.{◌||◌}
use Rattle.std.specs.Ordering.{eq_by_cmp, nat_cmp}
use Rattle.std.specs.Cmp.Lexicographic.{slice_cmp, nat_list_cmp_total}
use Rattle.std.specs.FinMap.{contains_key, get-from_entries, len-empty, len-insert}
use Rattle.std.specs.FinMap.Entries.{is_some-find}
use Rattle.std.specs.List.{IsDistinct, AllByRecursion, filter, list_any}
use Rattle.std.specs.Map.{keys_of}
use Rattle.std.proofs.lemmas.List.Sums.{length-filter, count_by-le-length}
use Rattle.std.proofs.lemmas.Map.Keys.{IsDistinct-head, IsDistinct-tail}
use Rattle.gt_next.specs.States.{count_of_variables}
use Rattle.gt_vars.specs.Held.{variables_of}

neither : (a b : Bool) → a ≡ false → b ≡ false → (a || b) ≡ false
neither true b e f = e
neither false b e f = f

none_tied : (q : List ℕ) (ks : List (List ℕ)) → AllByRecursion (λ k. eq_by_cmp (slice_cmp nat_cmp) q k ≡ false) ks → list_any (eq_by_cmp (slice_cmp nat_cmp) q) ks ≡ false
none_tied q [] h = refl
none_tied q (k ∷ ks) h = neither (eq_by_cmp (slice_cmp nat_cmp) q k) (list_any (eq_by_cmp (slice_cmp nat_cmp) q) ks) h.0 (none_tied q ks h.1)

-- whether a variable is bound, by the names of the entries
bound_by_name : (es : List (List ℕ × ℕ)) (q : List ℕ) → contains_key (variables_of es) q ≡ list_any (eq_by_cmp (slice_cmp nat_cmp) q) (keys_of es)
bound_by_name es q = ap is_some (get-from_entries nat_list_cmp_total es q) ∙ is_some-find (slice_cmp nat_cmp) q es

one_more : (b : Bool) (m n : ℕ) → m ≤ n → cond b m (m + 1) ≤ n + 1
one_more true m n le = omega (arith, le)
one_more false m n le = omega (arith, le)

-- no more variables than entries
count_le-entries : (es : List (List ℕ × ℕ)) → count_of_variables (variables_of es) ≤ length es
count_le-entries [] = omega (arith, len-empty (slice_cmp nat_cmp) ℕ)
count_le-entries (e ∷ es) =
    omega (
      arith,
      len-insert nat_list_cmp_total (variables_of es) e.0 e.1,
      one_more (contains_key (variables_of es) e.0) (count_of_variables (variables_of es)) (length es) (count_le-entries es),
    )

-- as many variables as entries of different names
pub count-variables_of :
    (es : List (List ℕ × ℕ)) → IsDistinct (eq_by_cmp (slice_cmp nat_cmp)) (keys_of es) → count_of_variables (variables_of es) ≡ length es
count-variables_of [] distinct = len-empty (slice_cmp nat_cmp) ℕ
count-variables_of (e ∷ es) distinct =
    let count : ℕ = count_of_variables (variables_of es) in
    let one : length es + 1 ≡ length (e ∷ es) = omega arith in
    let new : contains_key (variables_of es) e.0 ≡ false =
    bound_by_name es e.0 ∙ none_tied e.0 (keys_of es) (IsDistinct-head (eq_by_cmp (slice_cmp nat_cmp)) e.0 (keys_of es) distinct) in
    len-insert nat_list_cmp_total (variables_of es) e.0 e.1 ∙ ap (λ b. cond b count (count + 1)) new
    ∙ ap (λ n. n + 1) (count-variables_of es (IsDistinct-tail (eq_by_cmp (slice_cmp nat_cmp)) e.0 (keys_of es) distinct)) ∙ one

-- entries that pass a test make no more variables
pub count_le-filter :
    (es fs : List (List ℕ × ℕ)) (p : List ℕ × ℕ → Bool) → IsDistinct (eq_by_cmp (slice_cmp nat_cmp)) (keys_of es) → fs ≡ filter p es
    → count_of_variables (variables_of fs) ≤ count_of_variables (variables_of es)
count_le-filter es fs p distinct is =
    omega (arith, count_le-entries fs, ap length is, length-filter p es, count_by-le-length p es, count-variables_of es distinct)
