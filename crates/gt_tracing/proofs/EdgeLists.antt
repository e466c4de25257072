-- Lists of edges: those of elements and of roots, one after another, and twice the same target.
use Rattle.std.proofs.Common.{◌≡◌, ◌∙◌, ℕ, zero, suc, ◌+◌, ◌<◌, ◌≤◌, Bool, true, false, not, cond, List, [], ◌∷◌, ◌++◌, map, flat_map, filter_map, length, take, Option, Some, None, refl, sym, ap, subst, arith, inl, inr}
use Rattle.std.specs.Prelude.{◌≢◌, ◌==◌, Contains, All, count_by, slice_get}
use Rattle.std.specs.List.{range_with_len, filter, cons_option}
use Rattle.std.proofs.lemmas.Bool.{eq-eqb}
use Rattle.std.proofs.lemmas.List.{map-append, append-nil}
use Rattle.std.proofs.lemmas.List.Elements.{All-nil, All-append}
use Rattle.gt_types.specs.declared.program.Root.{Root}
use Rattle.gt_tree.specs.Trees.{Tree, Trees, End, And, count, tree_at, edges, all_edges}
use Rattle.gt_tree.specs.Fits.{static_edges, edges_unless}
use Rattle.gt_walk.specs.Rows.{Edge}
use Rattle.gt_mark.proofs.Remarked.{count_cons}
use Rattle.gt_objects.proofs.Items.{none_there, there_cases}
use Rattle.gt_edges.specs.Edges.{has_walk}

abbrev pub targets_of : List Edge → List ℕ
targets_of list = map (λ e. e.target) list

targets_append : (xs ys : List Edge) → targets_of (xs ++ ys) ≡ targets_of xs ++ targets_of ys
targets_append xs ys = map-append (λ e. e.target) xs ys

-- ---- elements

-- the targets of elements, one after another, are the edges of their values
pub each_target : (f : ℕ → List Edge) (n s : ℕ) (trees : Trees) → count trees ≡ n → ((i : ℕ) (tree : Tree) → tree_at trees i ≡ Some tree → targets_of (f (s + i)) ≡ edges tree)
    → targets_of (flat_map f (range_with_len s n)) ≡ all_edges trees
each_target f zero s End e h = refl
each_target f zero s (And tree trees) e h = absurd (cc)
each_target f (suc n) s End e h = absurd (cc)
each_target f (suc n) s (And tree trees) e h =
    let here : s ≡ s + 0 = omega arith in
    let first : targets_of (f s) ≡ edges tree = ap (λ i. targets_of (f i)) here ∙ h 0 tree refl in
    let rest = each_target f n (s + 1) trees (omega (arith, e)) (λ i t at. let same : (s + 1) + i ≡ s + suc i = omega arith in ap (λ k. targets_of (f k)) same ∙ h (suc i) t at) in
    targets_append (f s) (flat_map f (range_with_len (s + 1) n)) ∙ ap (λ xs. xs ++ targets_of (flat_map f (range_with_len (s + 1) n))) first ∙ ap (λ xs. edges tree ++ xs) rest

-- what holds of the edges of each element holds of all
pub each_all : (P : Edge → Type 0) (f : ℕ → List Edge) (n s : ℕ) → ((i : ℕ) → i < n → All P (f (s + i))) → All P (flat_map f (range_with_len s n))
each_all P f zero s h = All-nil P
each_all P f (suc n) s h =
    let here : s + 0 ≡ s = omega arith in
    All-append P (f s) (flat_map f (range_with_len (s + 1) n)) (subst (λ k. All P (f k)) here (h 0 (omega arith)))
    (each_all P f n (s + 1) (λ i low. let same : s + suc i ≡ (s + 1) + i = omega arith in subst (λ k. All P (f k)) same (h (suc i) (omega (arith, low)))))

-- the edges of one element alone
pub only_first : (f : ℕ → List Edge) → flat_map f (range_with_len 0 1) ≡ f 0
only_first f = append-nil (f 0)

-- ---- roots

-- what a walk gives of a root that is not deletable
abbrev pub GivesRoot : (ℕ → List Edge) → (Edge → Type 0) → Tree → ℕ → Type 0
GivesRoot f P tree walk = (targets_of (f walk) ≡ edges tree) × All P (f walk)

-- the place of a root's walk among the walks
abbrev pub walk_place : List Root → ℕ → ℕ
walk_place roots i = length (filter has_walk (take i roots))

-- each root that is not deletable has its walk
abbrev pub GiveRoots : (ℕ → List Edge) → (Edge → Type 0) → List Root → Trees → List ℕ → Type 0
GiveRoots f P roots trees walks =
    (i walk : ℕ) (r : Root) (tree : Tree) → slice_get roots i ≡ Some r → r.deletable ≡ false → slice_get walks (walk_place roots i) ≡ Some walk → tree_at trees i ≡ Some tree → GivesRoot f P tree walk

abbrev RootsGiven : (ℕ → List Edge) → (Edge → Type 0) → List Root → Trees → List ℕ → Type 0
RootsGiven f P roots trees walks = (targets_of (flat_map f walks) ≡ static_edges roots trees) × All P (flat_map f walks)

kept_walk : (r : Root) (roots : List Root) → r.deletable ≡ false → filter has_walk (r ∷ roots) ≡ r ∷ filter has_walk roots
kept_walk r roots e = ap (λ b. cond (not b) (r ∷ filter has_walk roots) (filter has_walk roots)) e

no_walk : (r : Root) (roots : List Root) → r.deletable ≡ true → filter has_walk (r ∷ roots) ≡ filter has_walk roots
no_walk r roots e = ap (λ b. cond (not b) (r ∷ filter has_walk roots) (filter has_walk roots)) e

-- one more root
module _ (f : ℕ → List Edge) (P : Edge → Type 0) (r : Root) (roots : List Root) (tree : Tree) (trees : Trees)
    (rest : (walks : List ℕ) → length walks ≡ length (filter has_walk roots) → GiveRoots f P roots trees walks → RootsGiven f P roots trees walks) where
  root_step : (walks : List ℕ) → length walks ≡ length (filter has_walk (r ∷ roots)) → GiveRoots f P (r ∷ roots) (And tree trees) walks → (b : Bool) → r.deletable ≡ b → RootsGiven f P (r ∷ roots) (And tree trees) walks
  root_step walks e h true deletable =
      let given = rest walks (e ∙ ap length (no_walk r roots deletable)) (λ i walk x t at kept its there. h (suc i) walk x t at kept (ap (λ l. slice_get walks (length l)) (no_walk r (take i roots) deletable) ∙ its) there) in
      (given.0 ∙ sym (ap (λ b. edges_unless b tree ++ static_edges roots trees) deletable), given.1)
  root_step [] e h false kept = absurd (let long = ap length (kept_walk r roots kept) in cc)
  root_step (w ∷ ws) e h false kept =
      let long = ap length (kept_walk r roots kept) in
      let first = h 0 w r tree refl kept refl refl in
      let given = rest ws (omega (arith, e, long)) (λ i walk x t at stays its there. h (suc i) walk x t at stays (ap (λ l. slice_get (w ∷ ws) (length l)) (kept_walk r (take i roots) kept) ∙ its) there) in (
        targets_append (f w) (flat_map f ws) ∙ ap (λ xs. xs ++ targets_of (flat_map f ws)) first.0 ∙ ap (λ xs. edges tree ++ xs) given.0 ∙ sym (ap (λ b. edges_unless b tree ++ static_edges roots trees) kept),
        All-append P (f w) (flat_map f ws) first.1 given.1,
      )

-- the targets of the walks of roots, one after another, are the edges of those that are not deletable
pub root_each : (f : ℕ → List Edge) (P : Edge → Type 0) (roots : List Root) (trees : Trees) (walks : List ℕ) → count trees ≡ length roots → length walks ≡ length (filter has_walk roots)
    → GiveRoots f P roots trees walks → RootsGiven f P roots trees walks
root_each f P [] End [] c e h = (refl, All-nil P)
root_each f P [] End (w ∷ ws) c e h = absurd (cc)
root_each f P [] (And tree trees) walks c e h = absurd (cc)
root_each f P (r ∷ roots) End walks c e h = absurd (cc)
root_each f P (r ∷ roots) (And tree trees) walks c e h =
    root_step f P r roots tree trees (λ ws long gives. root_each f P roots trees ws (omega (arith, c)) long gives) walks e h r.deletable refl

-- ---- targets twice

same_number : (n : ℕ) → (n == n) ≡ true
same_number n = eq-eqb n n refl

-- one item more, with a target or without
some_more : {X : Type 0} (target : X → Option ℕ) (x : X) (xs : List X) (o : Option ℕ) → target x ≡ o → filter_map target (x ∷ xs) ≡ cons_option o (filter_map target xs)
some_more target x xs o e = ap (λ t. cons_option t (filter_map target xs)) e

module _ {X : Type 0} (target : X → Option ℕ) (id : ℕ) where
  abbrev named : List X → ℕ
  named xs = count_by (λ e. e == id) (filter_map target xs)

  named_more : (x : X) (xs : List X) → named xs ≤ named (x ∷ xs)
  named_more x xs = by (target x) refl
    where
      by : (o : Option ℕ) → target x ≡ o → named xs ≤ named (x ∷ xs)
      by None e = let is = ap (count_by (λ k. k == id)) (some_more target x xs None e) in omega (arith, is)
      by (Some n) e =
          let is = ap (count_by (λ k. k == id)) (some_more target x xs (Some n) e) ∙ count_cons (λ k. k == id) n (filter_map target xs) in
          omega (arith, is)

  named_here : (x : X) (xs : List X) → target x ≡ Some id → 1 + named xs ≡ named (x ∷ xs)
  named_here x xs e =
      let is = ap (count_by (λ k. k == id)) (some_more target x xs (Some id) e) ∙ count_cons (λ k. k == id) id (filter_map target xs) in
      let one = ap {B = ℕ} (λ b. cond b 1 0) (same_number id) in
      omega (arith, is, one)

  once : (xs : List X) (a : X) → Contains xs a → target a ≡ Some id → 1 ≤ named xs
  once [] a there e = none_there a there
  once (x ∷ xs) a there e = elim (there_cases x xs a there) [
    | inl is ↦ let here = named_here x xs (ap target is ∙ e) in omega (arith, here)
    | inr later ↦ let rest = once xs a later e in let more = named_more x xs in omega (arith, rest, more)
  ]

  -- two different items with one target
  pub twice : (xs : List X) (a b : X) → Contains xs a → Contains xs b → a ≢ b → target a ≡ Some id → target b ≡ Some id → 2 ≤ named xs
  twice [] a b first second differ e f = none_there a first
  twice (x ∷ xs) a b first second differ e f = elim (there_cases x xs a first) [
    | inl is_a ↦ elim (there_cases x xs b second) [
      | inl is_b ↦ absurd (differ (sym is_a ∙ is_b))
      | inr later ↦ let here = named_here x xs (ap target is_a ∙ e) in let one = once xs b later f in omega (arith, here, one)
    ]
    | inr later_a ↦ elim (there_cases x xs b second) [
      | inl is_b ↦ let here = named_here x xs (ap target is_b ∙ f) in let one = once xs a later_a e in omega (arith, here, one)
      | inr later_b ↦ let rest = twice xs a b later_a later_b differ e f in let more = named_more x xs in omega (arith, rest, more)
    ]
  ]
