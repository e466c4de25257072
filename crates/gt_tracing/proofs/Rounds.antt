-- Rounds of the marking are rounds of a collection that keeps the marked objects.
use Rattle.std.proofs.Common.{◌≡◌, ◌∙◌, ◌+◌, ◌⊎◌, ℕ, Bool, true, false, cond, List, [], ◌∷◌, length, map, count_by, is_some, inl, inr, refl, sym, ap, subst, arith}
use Rattle.std.specs.Prelude.{Contains, filter}
use Rattle.std.proofs.lemmas.Bool.{false≢true}
use Rattle.std.proofs.lemmas.List.Elements.{All-weaker}
use Rattle.std.proofs.lemmas.List.Sums.{length-filter}
use Rattle.gt_types.specs.declared.program.Program.{Program}
use Rattle.gt_space.specs.Range.{Range}
use Rattle.gt_pages.specs.Slots.{is_marked, mark_at}
use Rattle.gt_pages.specs.Contents.{Contents}
use Rattle.gt_graph.specs.Objects.{Object, Graph}
use Rattle.gt_graph.specs.Rounds.{AreRounds, IsNamedAside, IsOnlyFrom, LeadsAside}
use Rattle.gt_walk.specs.declared.tables.Tables.{Tables}
use Rattle.gt_walk.specs.Rows.{Edge}
use Rattle.gt_mark.specs.Reached.{IsMarkedAt, LeadsTo, block_edges}
use Rattle.gt_mark.specs.Marks.{Marks}
use Rattle.gt_mark.specs.Rounds.{AreRounds as AreMarkingRounds, IsChainEdge, IsNamedAside as IsMarkedAside, IsOnlyFrom as IsMarkedFrom}
use Rattle.gt_mark.proofs.Remarked.{contains_cases, contains_head, contains_none, contains_tail, count_cons}
use Rattle.gt_objects.proofs.Filtered.{kept_same}
use Rattle.gt_tracing.specs.Walked.{walks_in}
use Rattle.gt_tracing.specs.Traces.{Traces}
use Rattle.gt_tracing.specs.Laws.{RoundsAgree, NoneIsMarked, StartAt, kept_graph}
use Rattle.gt_tracing.proofs.Blocks.{edge_leads, edge_there}
use Rattle.gt_tracing.proofs.Starting.{no_mark, not_marked}
use Rattle.gt_tracing.proofs.Reaching.{after, after_marked, marked_is, marked_object, object_marked}

-- ---- counts

-- counting what a map gives
count_map : {X Y : Type 0} (p : Y → Bool) (f : X → Y) (xs : List X) → count_by p (map f xs) ≡ count_by (λ x. p (f x)) xs
count_map p f [] = refl
count_map p f (x ∷ xs) = count_cons p (f x) (map f xs) ∙ ap (λ n. cond (p (f x)) 1 0 + n) (count_map p f xs) ∙ sym (count_cons (λ y. p (f y)) x xs)

-- two tests that agree count the same
count_same : {X : Type 0} (p q : X → Bool) (xs : List X) → ((x : X) → Contains xs x → p x ≡ q x) → count_by p xs ≡ count_by q xs
count_same p q [] same = refl
count_same p q (x ∷ xs) same =
    count_cons p x xs ∙ ap (λ b. cond b 1 0 + count_by p xs) (same x (contains_head x xs))
    ∙ ap (λ n. cond (q x) 1 0 + n) (count_same p q xs (λ y has. same y (contains_tail x y xs has))) ∙ sym (count_cons q x xs)

-- ---- what is kept

kept_by : {X : Type 0} (p : X → Bool) (x y : X) (xs : List X) (b : Bool) → p x ≡ b → (Contains (filter p xs) y → Contains xs y × (p y ≡ true)) → Contains (cond b (x ∷ filter p xs) (filter p xs)) y
    → Contains (x ∷ xs) y × (p y ≡ true)
kept_by p x y xs true is rest has = elim (contains_cases x y (filter p xs) has) [
  | inl same ↦ (subst (Contains (x ∷ xs)) same (contains_head x xs), ap p (sym same) ∙ is)
  | inr later ↦ (contains_tail x y xs (rest later).0, (rest later).1)
]
kept_by p x y xs false is rest has = (contains_tail x y xs (rest has).0, (rest has).1)

-- what a filter keeps was there, and passes
pub from_kept : {X : Type 0} (p : X → Bool) (xs : List X) (y : X) → Contains (filter p xs) y → Contains xs y × (p y ≡ true)
from_kept p [] y has = contains_none y has
from_kept p (x ∷ xs) y has = kept_by p x y xs (p x) refl (from_kept p xs y) has

keeps_by : {X : Type 0} (p : X → Bool) (x y : X) (xs : List X) (b : Bool) → p x ≡ b → p y ≡ true → (x ≡ y) ⊎ Contains (filter p xs) y → Contains (cond b (x ∷ filter p xs) (filter p xs)) y
keeps_by p x y xs true is passes (inl same) = subst (Contains (x ∷ filter p xs)) same (contains_head x (filter p xs))
keeps_by p x y xs true is passes (inr later) = contains_tail x y (filter p xs) later
keeps_by p x y xs false is passes (inl same) = absurd (false≢true (sym is ∙ ap p same ∙ passes))
keeps_by p x y xs false is passes (inr later) = later

-- a filter keeps what passes
pub keeps : {X : Type 0} (p : X → Bool) (xs : List X) (y : X) → Contains xs y → p y ≡ true → Contains (filter p xs) y
keeps p [] y has passes = contains_none y has
keeps p (x ∷ xs) y has passes = keeps_by p x y xs (p x) refl passes (elim (contains_cases x y xs has) [ inl same ↦ inl same | inr later ↦ inr (keeps p xs y later passes) ])

-- ---- rounds

module _ (program : Program) (tables : Tables) (space : Range) (g : Graph) (starts values : List ℕ) (old new : Contents) (t : Traces program tables space old.slots g) (none : NoneIsMarked old.slots)
    (m : Marks tables space (walks_in program g.objects) starts old new) (start : StartAt program g values starts) where
  abbrev is_kept : Object → Bool
  is_kept o = is_some (mark_at new.slots o.id)

  abbrev kept : List Object
  kept = filter is_kept g.objects

  -- as many blocks are marked as objects are kept
  count_marked : count_by is_marked new.slots ≡ length kept
  count_marked =
      ap (λ c. count_by is_marked c.slots) m.marked
      ∙ count_map is_marked (after program tables space g starts old new t none m) old.slots
      ∙ count_same (λ s. is_marked (after program tables space g starts old new t none m s)) (λ s. m.reached s.address) old.slots
      (λ s has. after_marked program tables space g starts old new t none m s (no_mark old.slots s none has))
      ∙ sym (count_map m.reached (λ s. s.address) old.slots)
      ∙ ap (count_by m.reached) t.blocks
      ∙ count_map m.reached (λ o. o.id) g.objects
      ∙ sym (length-filter (λ o. m.reached o.id) g.objects)
      ∙ ap length (sym (kept_same is_kept (λ o. m.reached o.id) g.objects (marked_is program tables space g starts old new t none m)))

  -- a marked block is that of a kept object
  kept_object : (a : ℕ) → IsMarkedAt new.slots a → (o : Object) × Contains g.objects o × Contains kept o × (o.id ≡ a)
  kept_object a at =
      let o = marked_object program tables space g starts old new t none m a at in
      (o.0, o.1, keeps is_kept g.objects o.0 o.1 o.3, o.2)

  -- what the marker finds aside is named aside
  aside : (a : ℕ) → IsMarkedAside tables space (walks_in program g.objects) starts old.slots new.slots a → IsNamedAside program g (kept_graph new g) values a
  aside a (inl begins) = elim ((start a).0 begins) [ inl root ↦ inl root | inr value ↦ inr (inl value) ]
  aside a (inr other) =
      let from : ℕ = other.0 in
      let e : Edge = other.1 in
      let o = kept_object from other.2.now in
      let there = subst (λ b. Contains (block_edges tables space (walks_in program g.objects) b) e) (sym o.3) other.3 in
      let no_chain = subst (λ b. ¬ IsChainEdge tables (walks_in program g.objects) b e) (sym o.3) other.4 in
      inr (inr (o.0, o.2, subst (LeadsAside program o.0) other.5 (t.aside o.0 e o.1 there no_chain)))

  -- what one kept object alone names, one marked block alone names
  only_from : (from : Object) (id : ℕ) → Contains g.objects from → IsOnlyFrom program g (kept_graph new g) values from id
      → IsMarkedFrom tables space (walks_in program g.objects) starts old.slots new.slots from.id id
  only_from from id has only = record {
    leads = edge_leads program tables space old.slots g t from id has only.leads;
    unmarked = not_marked old.slots id none;
    no_start = λ begins. elim ((start id).0 begins) [ inl root ↦ only.no_root root | inr value ↦ only.no_value value ];
    no_other = λ other apart marked leads.
        let o = kept_object other marked in
        only.no_other o.0 o.2 (λ same. apart (sym o.3 ∙ same)) (edge_there program tables space old.slots g t o.0 id o.1 (subst (λ b. LeadsTo tables space (walks_in program g.objects) b id) (sym o.3) leads));
  }

  pub agree : (rounds : ℕ) → AreMarkingRounds tables space (walks_in program g.objects) starts old.slots new.slots rounds → AreRounds program g (kept_graph new g) values rounds
  agree rounds a = record {
    at_least = a.at_least;
    at_most = let most = a.at_most in omega (arith, most, count_marked);
    one = λ ids few covers. a.one ids few (λ address newly named.
        let o = kept_object address newly.now in
        subst (Contains ids) o.3 (covers o.0 o.2 (subst (IsNamedAside program g (kept_graph new g) values) (sym o.3) (aside address named))));
    more = λ from ids has distinct many only.
        let there = from_kept is_kept g.objects from has in
        a.more from.id ids
        (record { now = object_marked program tables space g starts old new t none m from there.0 there.1; not_before = not_marked old.slots from.id none }) distinct many
        (All-weaker (IsOnlyFrom program g (kept_graph new g) values from) (IsMarkedFrom tables space (walks_in program g.objects) starts old.slots new.slots from.id)
        (λ id o. only_from from id there.0 o) ids only);
  }

pub rounds_agree : RoundsAgree
rounds_agree program tables space g values starts old new rounds t none start m a = agree program tables space g starts values old new t none m start rounds a
