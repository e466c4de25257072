-- Roots, one after another.
use Rattle.std.proofs.Common.{◌≡◌, ℕ, zero, suc, ◌+◌, ◌<◌, ◌≤◌, List, [], ◌∷◌, length, get_or, flat_map, None, refl, sym, ap, subst, ◌∙◌, inl, inr, arith}
use Rattle.std.specs.Prelude.{All, Contains}
use Rattle.std.proofs.lemmas.Bool.{cases_lt}
use Rattle.std.proofs.lemmas.List.Elements.{All-contains, Contains-append_left, Contains-append_right, Contains-append_cases}
use Rattle.gt_space.specs.Range.{Range}
use Rattle.gt_walk.specs.declared.tables.Tables.{Tables}
use Rattle.gt_walk.specs.Rows.{Edge, edges_of}
use Rattle.gt_mark.specs.Reached.{NamesBlock, itself, root_edges, root_targets}
use Rattle.gt_mark.specs.Steps.{State, Task, Goes, Holds, Lessens, Suits, place_of, start_state, with_targets}
use Rattle.gt_mark.proofs.Remarked.{contains_map, contains_map_from, contains_none}
use Rattle.gt_mark.proofs.Going.{all_from, suits_named}
use Rattle.gt_mark.proofs.Blocks.{targets_have, targets_keep}
use Rattle.gt_mark.proofs.Steps.{lessens_on, lessens_same}
use Rattle.gt_mark.proofs.Final.{start_holds}

-- the edge of each root so far was taken
pub record RootsTaken {tables : Tables} {space : Range} (t : Task tables space) (roots : List ℕ) (count : ℕ) (st : State) : Type 0 where
  pub begun : List ℕ
  pub holds : Holds t begun None st
  pub lessens : Lessens (start_state t.before) st 0
  pub stands : place_of st ≡ None
  pub each : (i : ℕ) → i < count → i < length roots → (e : Edge) → Contains (edges_of tables (get_or roots i 0) 1 space 0) e → Contains begun e.target

module _ {tables : Tables} {space : Range} (t : Task tables space) where
  pub roots_start : (roots : List ℕ) (st : State) → start_state t.before ≡ st → RootsTaken t roots 0 st
  roots_start roots st is = subst (RootsTaken t roots 0) is (record {
    begun = [];
    holds = start_holds t;
    lessens = lessens_same (start_state t.before);
    stands = refl;
    each = λ i low _ e there. absurd (let no : 1 ≤ 0 = omega (arith, low) in omega (arith, no));
  })

  pub roots_more : (roots : List ℕ) (count walk : ℕ) (old new : State) (r : RootsTaken t roots count old) → walk ≡ get_or roots count 0
      → Goes t (with_targets (edges_of tables walk 1 space 0) r.begun) None old new → RootsTaken t roots (count + 1) new
  roots_more roots count walk old new r is goes = record {
    begun = with_targets (edges_of tables walk 1 space 0) r.begun;
    holds = goes.holds;
    lessens = lessens_on (start_state t.before) old new 0 r.lessens goes.lessens;
    stands = goes.stands ∙ r.stands;
    each = λ i low inside e there. elim (cases_lt i count) [
      | inl before ↦ targets_keep (edges_of tables walk 1 space 0) r.begun e.target (r.each i before inside e there)
      | inr past ↦
          let same : i ≡ count = omega (arith, past, low) in
          targets_have (edges_of tables walk 1 space 0) r.begun e (subst (λ w. Contains (edges_of tables w 1 space 0) e) (ap (λ k. get_or roots k 0) same ∙ sym is) there)
    ];
  }

-- an edge of one of the roots
pub flat_from : {X Y : Type 0} (f : X → List Y) (xs : List X) (y : Y) (d : X) → Contains (flat_map f xs) y → (i : ℕ) × (i < length xs) × Contains (f (get_or xs i d)) y
flat_from f [] y d there = contains_none y there
flat_from f (x ∷ xs) y d there = elim (Contains-append_cases (f x) (flat_map f xs) y there) [
  | inl here ↦ (0, omega arith, here)
  | inr later ↦ let found = flat_from f xs y d later in (suc found.0, omega (arith, found.1), found.2)
]

flat_to : {X Y : Type 0} (f : X → List Y) (xs : List X) (y : Y) (d : X) (i : ℕ) → i < length xs → Contains (f (get_or xs i d)) y → Contains (flat_map f xs) y
flat_to f [] y d i low there = absurd (let no : 1 ≤ 0 = omega (arith, low) in omega (arith, no))
flat_to f (x ∷ xs) y d zero low there = Contains-append_left (f x) (flat_map f xs) y there
flat_to f (x ∷ xs) y d (suc i) low there = Contains-append_right (f x) (flat_map f xs) y (flat_to f xs y d i (omega (arith, low)) there)

module _ {tables : Tables} {space : Range} (t : Task tables space) (is : t.starts ≡ root_targets tables space) where
  pub roots_fit : All (NamesBlock t.before.slots t.walks) (root_edges tables space) → (items : List ℕ) → items ≡ tables.roots → (i : ℕ) → i < length items → All (Suits t) (edges_of tables (get_or items i 0) 1 space 0)
  roots_fit names items same i low = all_from (Suits t) (edges_of tables (get_or items i 0) 1 space 0) (λ e there.
      let of : Contains (root_edges tables space) e = subst (λ l. Contains (flat_map (λ walk. edges_of tables walk 1 space 0) l) e) same (flat_to (λ walk. edges_of tables walk 1 space 0) items e 0 i low there) in
      let name = All-contains (NamesBlock t.before.slots t.walks) (root_edges tables space) e names of in
      suits_named t e (e.target, subst (λ l. Contains l e.target) (sym is) (contains_map (λ x. x.target) (root_edges tables space) e of), itself) name)

  pub roots_starts : (items : List ℕ) → items ≡ tables.roots → (i : ℕ) → i < length items → (e : Edge) → Contains (edges_of tables (get_or items i 0) 1 space 0) e → Contains t.starts e.target
  roots_starts items same i low e there =
      let of : Contains (root_edges tables space) e = subst (λ l. Contains (flat_map (λ walk. edges_of tables walk 1 space 0) l) e) same (flat_to (λ walk. edges_of tables walk 1 space 0) items e 0 i low there) in
      subst (λ l. Contains l e.target) (sym is) (contains_map (λ x. x.target) (root_edges tables space) e of)

  pub roots_all : (items : List ℕ) → items ≡ tables.roots → (st : State) (count : ℕ) → length items ≤ count → (r : RootsTaken t items count st) → (a : ℕ) → Contains t.starts a → Contains r.begun a
  roots_all items same st count whole r a there =
      let e = contains_map_from (λ x. x.target) (root_edges tables space) a (subst (λ l. Contains l a) is there) in
      let at = flat_from (λ walk. edges_of tables walk 1 space 0) items e.0 0 (subst (λ l. Contains (flat_map (λ walk. edges_of tables walk 1 space 0) l) e.0) (sym same) e.1) in
      subst (Contains r.begun) e.2 (r.each at.0 (omega (arith, at.1, whole)) at.1 e.0 at.2)
