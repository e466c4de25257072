-- The paths of the options of a structure, by the answers for them.
use Rattle.std.proofs.Common.{◌≡◌, ℕ, Bool, List, [], ◌∷◌, get_or, refl, sym, subst, ◌∙◌, true, cond, Some, Ordering}
use Rattle.std.specs.Prelude.{◌++◌, All, Contains, IfOk, Result}
use Rattle.std.specs.Bool.{Decides}
use Rattle.std.specs.BTreeMap.{BTreeMap, get, is_at}
use Rattle.std.specs.Cmp.Lexicographic.{slice_cmp}
use Rattle.std.specs.Ordering.{is_eq, nat_cmp, ordering_then}
use Rattle.std.specs.declared.cmp.Ordering.TheVariants.{Less, Equal, Greater}
use Rattle.std.proofs.lemmas.List.Elements.{All-contains, Contains-get_or}
use Rattle.std.proofs.lemmas.Map.Lookups.{CmpEqualImpliesEq, exact_bytes}
use Rattle.std.proofs.lemmas.Result.{IfOk-weaker}
use Rattle.gt_types.specs.declared.expressions.Base.{Base}
use Rattle.gt_types.specs.declared.expressions.Base.TheVariants.{Outer, Outermost}
use Rattle.gt_types.specs.declared.expressions.Expr.{Expr}
use Rattle.gt_types.specs.declared.types.TypeId.{TypeId}
use Rattle.gt_types.specs.declared.program.Program.{Program}
use Rattle.gt_types.specs.Operators.{HasOperators}
use Rattle.gt_types.specs.Paths.{AreSteps, DescPathFitsBeside, Inner, IsFieldDescBeside, IsOptionBeside, LeadsToNumber, PathFitsBeside, Way, paths_of, roots_of}
use Rattle.gt_paths.specs.declared.checks.PathOption.{PathOption}
use Rattle.gt_paths.specs.declared.checks.PathOption.TheVariants.{Own, Desc}
use Rattle.gt_paths.specs.declared.containers.Containers.{Containers}
use Rattle.gt_paths.specs.Checks.{Checked, inner_of}
use Rattle.gt_paths.specs.Containers.{AreContainersOf, containers_of}
use Rattle.gt_paths.specs.Numbers.{numbered}
use Rattle.gt_paths.specs.OuterPaths.{AllLead, ArePathAnswers, AreStarts, path_cmp}
use Rattle.gt_paths.specs.Places.{PathAt}
use Rattle.gt_paths.proofs.Walks.{all_splits, each_of_one, goes}

-- ---- answers for paths

tied_first : {K : Type 0} (R : K → K → Ordering) → CmpEqualImpliesEq R → (x y : K) (xs ys : List K) → (slice_cmp R xs ys ≡ Equal → xs ≡ ys) → (o : Ordering) → R x y ≡ o
    → ordering_then o (slice_cmp R xs ys) ≡ Equal → x ∷ xs ≡ y ∷ ys
tied_first R exact x y xs ys rest Less is tied = absurd (cc)
tied_first R exact x y xs ys rest Equal is tied = let head = exact x y is in let tail = rest tied in λ i. head i ∷ tail i
tied_first R exact x y xs ys rest Greater is tied = absurd (cc)

exact_lists : {K : Type 0} (R : K → K → Ordering) → CmpEqualImpliesEq R → CmpEqualImpliesEq (slice_cmp R)
exact_lists R exact [] [] e = refl
exact_lists R exact [] (y ∷ ys) e = absurd (cc)
exact_lists R exact (x ∷ xs) [] e = absurd (cc)
exact_lists R exact (x ∷ xs) (y ∷ ys) e = tied_first R exact x y xs ys (exact_lists R exact xs ys) (R x y) refl e

pub exact_paths : CmpEqualImpliesEq path_cmp
exact_paths = exact_lists (slice_cmp nat_cmp) exact_bytes

some_is : {X : Type 0} (a b : X) → Some a ≡ Some b → a ≡ b
some_is a b e = cc

-- what is right of each key of a map is right of each key of the map with one more
pub kept_more : {K X : Type 0} (R : K → K → Ordering) → CmpEqualImpliesEq R → (P : K → X → Type 0) (old new : BTreeMap K X) (own key : K) (value : X)
    → ((q : K) → get R new q ≡ cond (is_at (R own) q) (Some value) (get R old q)) → own ≡ key → ((k : K) (x : X) → get R old k ≡ Some x → P k x)
    → P key value → (k : K) (x : X) → get R new k ≡ Some x → P k x
kept_more R exact P old new own key value updates same right holds q x there = by (R own q) refl (sym (updates q) ∙ there)
  where
    by : (o : Ordering) → R own q ≡ o → cond (is_eq o) (Some value) (get R old q) ≡ Some x → P q x
    by Less is e = right q x e
    by Equal is e = subst (P q) (some_is value x e) (subst (λ k. P k value) (sym same ∙ exact own q is) holds)
    by Greater is e = right q x e

-- one more
pub answers_more : (program : Program) (starts : List ℕ) (answers more : BTreeMap (List (List ℕ)) Bool) (path steps : List (List ℕ)) (leads : Bool)
    → ((q : List (List ℕ)) → get path_cmp more q ≡ cond (is_at (path_cmp path) q) (Some leads) (get path_cmp answers q)) → path ≡ steps → ArePathAnswers program starts answers
    → Decides leads (AllLead program starts steps) → ArePathAnswers program starts more
answers_more program starts answers more path steps leads updates same are decides =
    kept_more path_cmp exact_paths (λ q b. Decides b (AllLead program starts q)) answers more path steps leads updates same are decides

-- ---- structures that are listed

-- those that are outermost
pub outermost_lead : (inner : Inner) (program : Program) (node : TypeId) (starts : List ℕ) (steps : List (List ℕ)) (b : Bool) → AreStarts inner program node starts
    → Decides b (AllLead program starts steps) → Decides b (PathFitsBeside inner program node Outermost steps)
outermost_lead inner program node starts steps b are decides = (
  λ e outer outermost. All-contains (λ start. LeadsToNumber program (numbered start) steps) starts outer.0 (decides.0 e) (are.all outer outermost),
  λ fits. decides.1 (λ k d within. fits (numbered (get_or starts k d)) (are.only (get_or starts k d) (Contains-get_or starts k d within))),
)

-- those that contain one
pub containers_lead : (inner : Inner) (program : Program) (containers : Containers) (node : TypeId) (list : List ℕ) (steps : List (List ℕ)) (b : Bool) → AreContainersOf program containers
    → list ≡ containers_of containers node.0 → Decides b (AllLead program list steps) → Decides b (PathFitsBeside inner program node Outer steps)
containers_lead inner program containers node list steps b are same decides = (
  λ e outer contains.
      All-contains (λ start. LeadsToNumber program (numbered start) steps) list outer.0 (decides.0 e) (subst (λ (xs : List ℕ). Contains xs outer.0) (sym same) (are.listed outer node contains)),
  λ fits. decides.1 (λ k d within.
      fits (numbered (get_or list k d)) (are.only (get_or list k d) node.0 (subst (λ (xs : List ℕ). Contains xs (get_or list k d)) same (Contains-get_or list k d within)))),
)

-- ---- one path in an option

pub own_at : {E : Type 0} (c : Checked) (place : PathOption) (base : Base) (steps : List (List ℕ)) (r : Result Bool E) → place ≡ Own → AreSteps steps
    → IfOk r (λ b. Decides b (PathFitsBeside (inner_of c) c.program c.node base steps)) → IfOk r (λ b. Decides b (PathAt c place base steps))
own_at c place base steps r is are decides =
    subst (λ (p : PathOption). IfOk r (λ b. Decides b (PathAt c p base steps))) (sym is)
    (IfOk-weaker r (λ b. Decides b (PathFitsBeside (inner_of c) c.program c.node base steps)) (λ b. Decides b (PathAt c Own base steps)) (λ b d. (λ e. (are, d.0 e), λ fits. d.1 fits.1)) decides)

pub desc_at : {E : Type 0} (c : Checked) (place : PathOption) (union : TypeId) (base : Base) (steps : List (List ℕ)) (r : Result Bool E) → place ≡ Desc union → AreSteps steps
    → IfOk r (λ b. Decides b (DescPathFitsBeside (inner_of c) c.program c.node union base steps)) → IfOk r (λ b. Decides b (PathAt c place base steps))
desc_at c place union base steps r is are decides =
    subst (λ (p : PathOption). IfOk r (λ b. Decides b (PathAt c p base steps))) (sym is)
    (IfOk-weaker r (λ b. Decides b (DescPathFitsBeside (inner_of c) c.program c.node union base steps)) (λ b. Decides b (PathAt c (Desc union) base steps)) (λ b d. (λ e. (are, d.0 e), λ fits. d.1 fits.1))
    decides)

-- ---- the paths of an expression, where a later part may fail to be looked at

-- the paths of an expression are good in an option
abbrev pub AllFit : Checked → PathOption → List Way → Type 0
AllFit c place ways = All (λ (path : Way). PathAt c place path.0 path.1) ways

pub of_path : {E : Type 0} (c : Checked) (place : PathOption) (e : Expr) (path : Way) (r : Result Bool E) → paths_of e ≡ path ∷ [] → IfOk r (λ b. Decides b (PathAt c place path.0 path.1))
    → IfOk r (λ b. Decides b (AllFit c place (paths_of e)))
of_path c place e path r same decides =
    subst (λ (ways : List Way). IfOk r (λ b. Decides b (AllFit c place ways))) (sym same)
    (IfOk-weaker r (λ b. Decides b (PathAt c place path.0 path.1)) (λ b. Decides b (AllFit c place (path ∷ []))) (λ b d. each_of_one (λ (way : Way). PathAt c place way.0 way.1) path b d) decides)

-- the checks are of the same structure, and the part is the one that is meant
pub at_part : (c d : Checked) (place : PathOption) (x y : Expr) (b : Bool) → c ≡ d → x ≡ y → Decides b (AllFit c place (paths_of x)) → Decides b (AllFit d place (paths_of y))
at_part c d place x y b of part decides =
    subst (λ (k : Checked). Decides b (AllFit k place (paths_of y))) of (subst (λ (z : Expr). Decides b (AllFit c place (paths_of z))) part decides)

pub at_last : {E : Type 0} (c d : Checked) (place : PathOption) (x y : Expr) (r : Result Bool E) → c ≡ d → x ≡ y → IfOk r (λ b. Decides b (AllFit c place (paths_of x)))
    → IfOk r (λ b. Decides b (AllFit d place (paths_of y)))
at_last c d place x y r of part decides =
    IfOk-weaker r (λ b. Decides b (AllFit c place (paths_of x))) (λ b. Decides b (AllFit d place (paths_of y))) (λ b fits. at_part c d place x y b of part fits) decides

pub goes_last : {E : Type 0} (c : Checked) (place : PathOption) (zs xs ys : List Way) (a : Bool) (r : Result Bool E) → zs ≡ xs ++ ys → Decides a (AllFit c place xs) → a ≡ true
    → IfOk r (λ b. Decides b (AllFit c place ys)) → IfOk r (λ b. Decides b (AllFit c place zs))
goes_last c place zs xs ys a r same decides holds rest =
    IfOk-weaker r (λ b. Decides b (AllFit c place ys)) (λ b. Decides b (AllFit c place zs))
    (λ b later. goes (AllFit c place) (all_splits (λ (path : Way). PathAt c place path.0 path.1)) zs xs ys a b same decides holds later) rest

-- ---- the paths of an option

pub own_option : (c : Checked) (e : Expr) (b : Bool) → HasOperators e → roots_of e ≡ [] → Decides b (All (λ (path : Way). PathAt c Own path.0 path.1) (paths_of e))
    → Decides b (IsOptionBeside (inner_of c) c.program c.node e)
own_option c e b operators roots decides = (
  λ holds. record {
    operators = operators;
    no_roots = roots;
    steps = λ k d within. (decides.0 holds k d within).0;
    paths = λ k d within. (decides.0 holds k d within).1;
  },
  λ option. decides.1 (λ k d within. (option.steps k d within, option.paths k d within)),
)

pub field_desc : (c : Checked) (union : TypeId) (e : Expr) (b : Bool) → HasOperators e → roots_of e ≡ [] → Decides b (All (λ (path : Way). PathAt c (Desc union) path.0 path.1) (paths_of e))
    → Decides b (IsFieldDescBeside (inner_of c) c.program c.node union e)
field_desc c union e b operators roots decides = (
  λ holds. record {
    operators = operators;
    no_roots = roots;
    steps = λ k d within. (decides.0 holds k d within).0;
    paths = λ k d within. (decides.0 holds k d within).1;
  },
  λ option. decides.1 (λ k d within. (option.steps k d within, option.paths k d within)),
)
