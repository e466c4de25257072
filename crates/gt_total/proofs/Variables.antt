-- No more variables are bound than were before, where each of them was.
use Rattle.std.proofs.Common.{◌≡◌, ℕ, suc, ◌-◌, ◌≤◌, Bool, true, false, cond, ◌||◌, List, [], ◌∷◌, length, map, refl, ap, sym, ◌∙◌, arith, Option, Some, None, is_some}
use Rattle.std.specs.List.{list_any}
use Rattle.std.specs.Ordering.{nat_cmp, eq_by_cmp}
use Rattle.std.specs.Cmp.Lexicographic.{slice_cmp, nat_list_cmp_total}
use Rattle.std.specs.FinMap as fin
use Rattle.gt_graph.specs.Objects.{Object}
use Rattle.gt_next.specs.States.{Variables, meaning, no_variables, without_variable, count_of_variables}
use Rattle.gt_next.specs.Collecting.{KeepsBound}

-- two names are one
abbrev is : List ℕ → List ℕ → Bool
is = eq_by_cmp (slice_cmp nat_cmp)

nothing : (o : Option ℕ) → (is_some o ≡ true → false ≡ true) → o ≡ None
nothing None h = refl
nothing (Some x) h = absurd (let no = h refl in cc)

one_less : (b : Bool) (n m l : ℕ) → m ≡ cond b (n - 1) n → m ≤ l → n ≤ suc l
one_less true n m l e le = omega arith
one_less false n m l e le = omega arith

-- variables whose names are all in a list are at most as many
short : (ks : List (List ℕ)) (v : Variables) → ((q : List ℕ) → is_some (meaning v q) ≡ true → list_any (is q) ks ≡ true) → count_of_variables v ≤ length ks
short [] v within =
    let none : v ≡ no_variables =
    fin.same_map nat_list_cmp_total (fin.slice_cmp-IsAntisymmetric fin.nat_cmp-IsAntisymmetric) v no_variables (λ q. nothing (meaning v q) (within q) ∙ sym (fin.get-empty (slice_cmp nat_cmp) q)) in
    let zero : count_of_variables v ≡ 0 = ap (λ x. count_of_variables x) none ∙ fin.len-empty (slice_cmp nat_cmp) ℕ in
    omega (arith, zero)
short (k ∷ ks) v within =
    let rest = short ks (without_variable v k) (λ q h. kept q (is q k) refl (fin.get-remove nat_list_cmp_total v k q) h) in
    one_less (is_some (meaning v k)) (count_of_variables v) (count_of_variables (without_variable v k)) (length ks) (fin.len-remove nat_list_cmp_total v k) rest
  where
    kept : (q : List ℕ) (b : Bool) → is q k ≡ b → meaning (without_variable v k) q ≡ cond b None (meaning v q) → is_some (meaning (without_variable v k) q) ≡ true → list_any (is q) ks ≡ true
    kept q true e g h = let no : false ≡ true = sym (ap is_some g) ∙ h in absurd (cc)
    kept q false e g h = sym (ap (λ b. b || list_any (is q) ks) e) ∙ within q (sym (ap is_some g) ∙ h)

map_long : {X Y : Type 0} (f : X → Y) (xs : List X) → length (map f xs) ≡ length xs
map_long f [] = refl
map_long f (x ∷ xs) = ap suc (map_long f xs)

pub few_kept : (objects : List Object) (old new : Variables) → KeepsBound objects old new → count_of_variables new ≤ count_of_variables old
few_kept objects old new keeps =
    let most = short (fin.keys old) new (λ q h. at q (meaning new q) refl h) in
    let long : length (fin.keys old) ≡ count_of_variables old = map_long (λ e. e.0) (fin.entries old) ∙ sym (fin.len-entries old) in
    omega (arith, most, long)
  where
    at : (q : List ℕ) (o : Option ℕ) → meaning new q ≡ o → is_some o ≡ true → list_any (is q) (fin.keys old) ≡ true
    at q None e h = let no : false ≡ true = h in absurd (cc)
    at q (Some id) e h = sym (fin.contains_key-keys old q) ∙ ap is_some ((keeps q id).0 e).0
