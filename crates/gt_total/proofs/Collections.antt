-- A collection has an answer.
use Rattle.std.proofs.Common.{◌≡◌, ℕ, suc, ◌-◌, ◌<◌, ◌≤◌, Bool, true, false, cond, List, [], ◌∷◌, length, refl, ap, sym, subst, ◌∙◌, ◌⊎◌, inl, inr, arith, Option, Some, None, is_some}
use Rattle.std.specs.Prelude.{◌↔◌, All, Contains, filter, nat_eq}
use Rattle.std.specs.List.{IsDistinct}
use Rattle.std.specs.Cmp.Lexicographic.{nat_list_cmp_total}
use Rattle.std.specs.FinMap as fin
use Rattle.std.proofs.lemmas.Bool.{cases_lt}
use Rattle.std.proofs.lemmas.Bool.Decides.{eqb_tells}
use Rattle.std.proofs.lemmas.List.Elements.{All-contains}
use Rattle.gt_types.specs.declared.program.Program.{Program}
use Rattle.gt_layout.specs.declared.planes.Layouts.{Layouts}
use Rattle.gt_tree.specs.Trees.{edges}
use Rattle.gt_graph.specs.Objects.{Object, Graph, object_of, pairs_in}
use Rattle.gt_graph.specs.Good.{Heap, IsGood, IsObject}
use Rattle.gt_graph.specs.Kept.{After, CachesStay, PairsStay, ReachedWith, without_deletable}
use Rattle.gt_graph.specs.Rounds.{AreRounds, IsNamedAside, IsOnlyFrom, LeadsAside, chain_target}
use Rattle.gt_objects.proofs.Items.{first_there, later_there, none_there, there_cases}
use Rattle.gt_objects.proofs.Filtered.{kept_there}
use Rattle.gt_objects.proofs.Naming.{object_of_block}
use Rattle.gt_collect.proofs.Cleared.{each_named}
use Rattle.gt_total.proofs.Fewer.{fewer}
use Rattle.gt_next.specs.States.{State, Variables, IsGoodState, meaning}
use Rattle.gt_next.specs.Collecting.{Collects, KeepsBound, NextCollect, NextForce, allocated, threshold}
use Rattle.gt_next.specs.Texts.{allocated_of}
use Rattle.gt_graph.specs.Places.{ledger_of}
use Rattle.gt_total.proofs.Splits.{Never, Tests, some_test, split}
use Rattle.gt_total.proofs.Kept.{found_itself, reached_on, still_few}

-- ---- pairs that stay

module _ (program : Program) (g : Graph) where
  some_pairs : {C : Type 0} (values : List ℕ) (old : List (ℕ × ℕ)) → ((new : List (ℕ × ℕ)) (after : List ℕ) → PairsStay program g values old new after → ¬ C) → ¬ C
  some_pairs values [] on = on [] values PairsStay.no_pair
  some_pairs values (pair ∷ old) on = split {P = ReachedWith program g values pair.0}
      (λ reached. some_pairs (pair.1 ∷ values) old (λ new after rest. on (pair ∷ new) after (PairsStay.stays reached rest)))
      (λ not_reached. some_pairs values old (λ new after rest. on new after (PairsStay.goes not_reached rest)))

  some_caches : {C : Type 0} (values : List ℕ) (olds : List (List (ℕ × ℕ))) → ((news : List (List (ℕ × ℕ))) (after : List ℕ) → CachesStay program g values olds news after → ¬ C) → ¬ C
  some_caches values [] on = on [] values CachesStay.no_cache
  some_caches values (old ∷ olds) on = some_pairs values old (λ new middle pairs. some_caches middle olds (λ news after rest. on (new ∷ news) after (CachesStay.next_cache pairs rest)))

-- ---- variables that stay

module _ (objects : List Object) (old : Variables) where
  -- a variable means an object that is there
  abbrev means_there : Option ℕ → Bool
  means_there None = false
  means_there (Some id) = is_some (object_of objects id)

  abbrev still_bound : Variables
  still_bound = fin.retain_keys old (λ name. means_there (meaning old name))

  bound_as : (name : List ℕ) → meaning still_bound name ≡ cond (means_there (meaning old name)) (meaning old name) None
  bound_as name = fin.get-retain_keys old (λ name. means_there (meaning old name)) name (λ x same. ap (λ o. means_there o) (fin.get_tied nat_list_cmp_total old name x same))

  some_there : (o : Option Object) → is_some o ≡ true → (x : Object) × (o ≡ Some x)
  some_there None e = absurd (cc)
  some_there (Some x) e = (x, refl)

  keeps_bound : KeepsBound objects old still_bound
  keeps_bound name id = by (meaning old name) refl
    where
      kept : (m : Option ℕ) (b : Bool) → means_there m ≡ b → cond b m None ≡ Some id → (m ≡ Some id) × ((o : Object) × (object_of objects id ≡ Some o))
      kept None b e is = absurd (none b is)
        where
          none : (b : Bool) → cond b None None ≡ Some id → ⊥
          none true is = cc
          none false is = cc
      kept (Some other) true e is = let same : other ≡ id = cc in (is, some_there (object_of objects id) (ap (λ n. is_some (object_of objects n)) (sym same) ∙ e))
      kept (Some other) false e is = absurd (cc)

      by : (m : Option ℕ) → meaning old name ≡ m → (meaning still_bound name ≡ Some id) ↔ ((meaning old name ≡ Some id) × ((o : Object) × (object_of objects id ≡ Some o)))
      by m e = (
        λ is. kept (meaning old name) (means_there (meaning old name)) refl (sym (bound_as name) ∙ is),
        λ was. bound_as name
            ∙ ap (λ b. cond b (meaning old name) None) (ap (λ o. means_there o) was.0 ∙ ap (λ o. is_some o) was.1.1)
            ∙ was.0,
      )

-- ---- rounds

filter_there : {X : Type 0} (p : X → Bool) (xs : List X) (x : X) → Contains xs x → p x ≡ true → Contains (filter p xs) x
filter_there p [] x has passes = none_there x has
filter_there p (y ∷ ys) x has passes = elim (there_cases y ys x has) as (λ _. Contains (filter p (y ∷ ys)) x) [
  | inl is ↦ subst (λ b. Contains (cond b (y ∷ filter p ys) (filter p ys)) x) (sym (ap p is ∙ passes)) (subst (λ z. Contains (y ∷ filter p ys) z) is (first_there y (filter p ys)))
  | inr later ↦ by (p y) (filter_there p ys x later passes)
]
  where
    by : (b : Bool) → Contains (filter p ys) x → Contains (cond b (y ∷ filter p ys) (filter p ys)) x
    by true there = later_there y (filter p ys) x there
    by false there = there

filter_short : {X : Type 0} (p : X → Bool) (xs : List X) → length (filter p xs) ≤ length xs
filter_short p [] = omega arith
filter_short p (x ∷ xs) = by (p x) (filter_short p xs)
  where
    by : (b : Bool) → length (filter p xs) ≤ length xs → length (cond b (x ∷ filter p xs) (filter p xs)) ≤ suc (length xs)
    by true less = omega (arith, less)
    by false less = omega (arith, less)

module _ (program : Program) (layouts : Layouts) (old new : Heap) (good : IsGood program layouts old) (after : After program old new) where
  -- few names cover the objects that are named aside
  abbrev AreCovered : List ℕ → Type 0
  AreCovered ids = (length ids ≤ 64) × ((o : Object) → Contains new.graph.objects o → IsNamedAside program old.graph new.graph after.values o.id → Contains ids o.id)

  abbrev IsCovered : Type 0
  IsCovered = (ids : List ℕ) × AreCovered ids

  -- what a kept object names is kept
  named_there : (from : Object) → Contains new.graph.objects from → (id : ℕ) → Contains (edges from.value) id → (o : Object) × Contains new.graph.objects o × (o.id ≡ id)
  named_there from there id leads =
      let was = kept_there (λ o. after.kept o.id) old.graph.objects from (subst (λ os. Contains os from) after.objects there) in
      let is_object = All-contains (IsObject program old.graph) old.graph.objects from good.graph.objects was.0 in
      let its = each_named is_object.fits.each id (subst (λ t. Contains (edges t) id) is_object.fits.row leads) in
      let o = object_of_block old.graph.objects id its.0 its.1 in
      let reached = (after.exact from was.0).0 was.1 in
      let way : ReachedWith program old.graph after.values o.0.id =
      subst (ReachedWith program old.graph after.values) (sym o.3) (reached.0, reached.1, reached_on reached.2 (from, found_itself old.graph.objects from good.graph.distinct was.0, leads)) in
      (o.0, subst (λ os. Contains os o.0) (sym after.objects) (filter_there (λ o. after.kept o.id) old.graph.objects o.0 o.2 ((after.exact o.0 o.2).1 way)), o.3)

  -- an edge other than that of the chain leads to what is covered
  aside_there : (ids : List ℕ) → AreCovered ids → (from : Object) → Contains new.graph.objects from → (id : ℕ) → Contains (edges from.value) id → (chain_target program from ≡ Some id → ⊥) → Contains ids id
  aside_there ids covers from there id leads other =
      let o = named_there from there id leads in
      let aside : LeadsAside program from o.0.id = subst (LeadsAside program from) (sym o.2) (leads, λ e. absurd (other e)) in
      subst (Contains ids) o.2 (covers.1 o.0 o.1 (inr (inr (from, there, aside))))

  covered : (ids : List ℕ) → AreCovered ids → (from : Object) → Contains new.graph.objects from → (target : Option ℕ) → chain_target program from ≡ target
      → (extra : ℕ) × ((id : ℕ) → Contains (edges from.value) id → Contains (extra ∷ ids) id)
  covered ids covers from there None e =
      (0, λ id leads. later_there 0 ids id (aside_there ids covers from there id leads (λ is. let never : None ≡ Some id = sym e ∙ is in cc)))
  covered ids covers from there (Some chain) e = (
    chain,
    λ id leads. elim (eqb_tells chain id) as (λ _. Contains (chain ∷ ids) id) [
      | inl (t, is) ↦ subst (λ n. Contains (chain ∷ ids) n) is (first_there chain ids)
      | inr (t, differ) ↦ later_there chain ids id (aside_there ids covers from there id leads (λ is. let same : Some chain ≡ Some id = sym e ∙ is in let one : chain ≡ id = cc in differ one))
    ],
  )

  not_many : IsCovered → (from : Object) (ids : List ℕ) → Contains new.graph.objects from → IsDistinct nat_eq ids → 66 ≤ length ids → All (IsOnlyFrom program old.graph new.graph after.values from) ids → ⊥
  not_many (few, covers) from ids there distinct many only =
      let cover = covered few covers from there (chain_target program from) refl in
      let less = fewer ids (cover.0 ∷ few) distinct (λ id has. cover.1 id (All-contains (IsOnlyFrom program old.graph new.graph after.values from) ids id only has).leads) in
      let short = covers.0 in
      absurd (omega (arith, less, short, many))

  some_kept : (objects : List Object) → new.graph.objects ≡ objects → (¬ IsCovered) → 1 ≤ length objects
  some_kept [] e not = absurd (not ([], (omega arith, λ o there. none_there o (subst (λ os. Contains os o) e there))))
  some_kept (o ∷ objects) e not = omega arith

  pub some_rounds : {C : Type 0} → ((rounds : ℕ) → AreRounds program old.graph new.graph after.values rounds → ¬ C) → ¬ C
  some_rounds on = split {P = IsCovered}
      (λ is. on 1 (record {
        at_least = omega arith;
        at_most = omega arith;
        one = λ ids few covers. refl;
        more = λ from ids there distinct many only. absurd (not_many is from ids there distinct many only);
      }))
      (λ not. on 2 (record {
        at_least = omega arith;
        at_most = let some = some_kept new.graph.objects refl not in omega (arith, some);
        one = λ ids few covers. absurd (not (ids, (few, covers)));
        more = λ from ids there distinct many only. omega arith;
      }))

-- ---- the collection

module _ (program : Program) (layouts : Layouts) (s : State) (good : IsGoodState program layouts s) where
  module _ (news : List (List (ℕ × ℕ))) (values : List ℕ) (stay : CachesStay program s.heap.graph [] s.heap.graph.pairs news values)
      (test : ℕ → Bool) (tests : Tests (λ id. ReachedWith program s.heap.graph values id) s.heap.graph.objects test) where
    abbrev left_heap : Heap
    left_heap = record {
      graph = record { objects = filter (λ o. test o.id) s.heap.graph.objects; statics = without_deletable program.roots s.heap.graph.statics; pairs = news };
      places = record s.heap.places { placed = filter (λ p. test p.id) s.heap.places.placed };
    }

    abbrev left : After program s.heap left_heap
    left = record { values = values; stay = stay; kept = test; exact = tests; objects = refl; statics = refl; places = refl }

    module _ (rounds : ℕ) (are : AreRounds program s.heap.graph left_heap.graph values rounds) where
      abbrev left_state : State
      left_state = record s { heap = left_heap; variables = still_bound left_heap.graph.objects s.variables; last = allocated_of (ledger_of left_heap.places); rounds = rounds }

      collected : Collects program s (length left_heap.graph.objects) (length s.heap.graph.objects - length left_heap.graph.objects) (pairs_in s.heap.graph.pairs - pairs_in news) left_state
      collected = record {
        heap = left;
        kept_count = refl;
        freed_count = let less = filter_short (λ o. test o.id) s.heap.graph.objects in omega (arith, less);
        dropped_count = let less = still_few program s.heap.graph stay in omega (arith, less);
        variables = keeps_bound left_heap.graph.objects s.variables;
        rounds = are;
        rest = refl;
      }

  pub some_force : ¬ Never (NextForce program s)
  some_force =
      some_caches program s.heap.graph [] s.heap.graph.pairs (λ news values stay.
      some_test (λ id. ReachedWith program s.heap.graph values id) s.heap.graph.objects (λ test tests.
      some_rounds program layouts s.heap (left_heap news values stay test tests) good.heap (left news values stay test tests) (λ rounds are never.
      never _ _ (NextForce.collects (collected news values stay test tests rounds are)))))

  pub some_collect : ¬ Never (NextCollect program s)
  some_collect never = by (cases_lt (allocated s) (threshold s))
    where
      by : ((allocated s < threshold s) ⊎ (threshold s ≤ allocated s)) → ⊥
      by (inl less) = never _ _ (NextCollect.skips less)
      by (inr least) = some_force (λ a t next. never a t (NextCollect.collects least next))
