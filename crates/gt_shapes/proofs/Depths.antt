-- What the rounds and the searches over containments say of structures.
use Rattle.std.proofs.Common.{◌≡◌, ◌∙◌, ℕ, zero, suc, ◌<◌, Bool, true, false, not, List, [], ◌∷◌, length, map, Option, Some, None, refl, sym, ap, subst, inl, inr}
use Rattle.std.specs.Prelude.{Contains, ◌↔◌, slice_get}
use Rattle.std.specs.Option.{option_map_or}
use Rattle.std.specs.List.{list_any}
use Rattle.std.proofs.lemmas.Bool.{or_cases, or_left, or_right, true≢false}
use Rattle.std.proofs.lemmas.List.{length-map}
use Rattle.std.proofs.lemmas.Option.{same_Some, none-some}
use Rattle.gt_types.specs.declared.limits.TheConstants.{MAX_DEPTH}
use Rattle.gt_drafts.specs.declared.draft.DraftStructure.{DraftStructure}
use Rattle.gt_drafts.specs.Shapes.{has_flag, AreShapes, Holds, directly, through, IsNested, IsTail, held_in, held_at, is_nil}
use Rattle.gt_shapes.specs.Graphs.{Reached, at_first, along, edges_at, nested_flags}
use Rattle.gt_shapes.proofs.SearchLemmas.{Contains_head, Contains_tail, Contains_cases, Contains_none}

-- ---- flags

flag_seen : (o : Option Bool) → option_map_or (λ flag. flag) o false ≡ true → o ≡ Some true
flag_seen None h = absurd (true≢false (sym h))
flag_seen (Some b) h = ap (λ (x : Bool). Some x) h

seen_flag : (o : Option Bool) → o ≡ Some true → option_map_or (λ flag. flag) o false ≡ true
seen_flag o h = ap (λ (x : Option Bool). option_map_or (λ flag. flag) x false) h

some_of : (es : List ℕ) → not (is_nil es) ≡ true → (j : ℕ) × Contains es j
some_of [] h = absurd (true≢false (sym h))
some_of (e ∷ es) h = (e, Contains_head e es)

of_some : (es : List ℕ) (j : ℕ) → Contains es j → not (is_nil es) ≡ true
of_some [] j has = absurd (Contains_none j has)
of_some (e ∷ es) j has = refl

any_of : (p : ℕ → Bool) (es : List ℕ) → list_any p es ≡ true → (j : ℕ) × Contains es j × (p j ≡ true)
any_of p [] h = absurd (true≢false (sym h))
any_of p (e ∷ es) h =
    elim (or_cases (p e) (list_any p es) h) [
      | inl this ↦ (e, Contains_head e es, this)
      | inr others ↦ let r = any_of p es others in (r.0, Contains_tail e r.0 es r.1, r.2)
    ]

of_any : (p : ℕ → Bool) (es : List ℕ) (j : ℕ) → Contains es j → p j ≡ true → list_any p es ≡ true
of_any p [] j has h = absurd (Contains_none j has)
of_any p (e ∷ es) j has h =
    elim (Contains_cases e j es has) [
      | inl same ↦ or_left (p e) (list_any p es) (ap p same ∙ h)
      | inr others ↦ or_right (p e) (list_any p es) (of_any p es j others h)
    ]

edges_held : (ss : List DraftStructure) (i : ℕ) → edges_at (map held_in ss) i ≡ held_at ss i
edges_held [] i = refl
edges_held (s ∷ ss) zero = refl
edges_held (s ∷ ss) (suc i) = edges_held ss i

-- a test of what a structure holds
flag_test : (f : List ℕ → Bool) (ss : List DraftStructure) (i : ℕ) → slice_get (map f (map held_in ss)) i ≡ Some true → f (held_at ss i) ≡ true
flag_test f [] i h = absurd (none-some true h)
flag_test f (s ∷ ss) zero h = same_Some (f (held_in s)) true h
flag_test f (s ∷ ss) (suc i) h = flag_test f ss i h

test_flag : (f : List ℕ → Bool) (ss : List DraftStructure) (i : ℕ) → f [] ≡ false → f (held_at ss i) ≡ true → slice_get (map f (map held_in ss)) i ≡ Some true
test_flag f [] i none h = absurd (true≢false (sym h ∙ none))
test_flag f (s ∷ ss) zero none h = ap (λ (x : Bool). Some x) h
test_flag f (s ∷ ss) (suc i) none h = test_flag f ss i none h

-- ---- depth

module _ (ss : List DraftStructure) where
  abbrev graph : List (List ℕ)
  graph = map held_in ss

  nested_to : (n i : ℕ) → slice_get (nested_flags graph n) i ≡ Some true → IsNested ss (suc n) i
  unfolding nested_flags
  nested_to zero i h = let r = some_of (held_at ss i) (flag_test (λ es. not (is_nil es)) ss i h) in (r.0, r.1, tt)
  nested_to (suc n) i h =
      let r = any_of (has_flag (nested_flags graph n)) (held_at ss i) (flag_test (λ es. list_any (has_flag (nested_flags graph n)) es) ss i h) in
      (r.0, r.1, nested_to n r.0 (flag_seen (slice_get (nested_flags graph n) r.0) r.2))

  nested_from : (n i : ℕ) → IsNested ss (suc n) i → slice_get (nested_flags graph n) i ≡ Some true
  unfolding nested_flags
  nested_from zero i (j, has, more) = test_flag (λ es. not (is_nil es)) ss i refl (of_some (held_at ss i) j has)
  nested_from (suc n) i (j, has, more) =
      test_flag (λ es. list_any (has_flag (nested_flags graph n)) es) ss i refl
      (of_any (has_flag (nested_flags graph n)) (held_at ss i) j has (seen_flag (slice_get (nested_flags graph n) j) (nested_from n j more)))

  length_nested : (n : ℕ) → length (nested_flags graph n) ≡ length ss
  unfolding nested_flags
  length_nested zero = length-map graph (λ es. not (is_nil es)) ∙ length-map ss held_in
  length_nested (suc n) = length-map graph (λ es. list_any (has_flag (nested_flags graph n)) es) ∙ length-map ss held_in

  less_nested : (n i : ℕ) → IsNested ss (suc n) i → IsNested ss n i
  less_nested zero i h = tt
  less_nested (suc n) i (j, has, more) = (j, has, less_nested n j more)

  above_nested : (n i j : ℕ) → Holds ss i j → IsNested ss n j → IsNested ss (suc n) i
  above_nested n i j (directly has) h = (j, has, h)
  above_nested n i j (through {j = k} has holds) h = (k, has, less_nested n k (above_nested n k j holds h))

  -- on a cycle containments have no end
  cyclic_nested : (n i : ℕ) → Holds ss i i → IsNested ss n i
  cyclic_nested zero i h = tt
  cyclic_nested (suc n) i h = above_nested n i i h (cyclic_nested n i h)

  -- ---- cycles

  one_more : (i j k : ℕ) → Holds ss i j → Contains (held_at ss j) k → Holds ss i k
  one_more i j k (directly has) more = through has (directly more)
  one_more i j k (through {j = m} has holds) more = through has (one_more m j k holds more)

  held_edge : (i j : ℕ) → Contains (edges_at graph i) j → Contains (held_at ss i) j
  held_edge i j has = subst (λ (es : List ℕ). Contains es j) (edges_held ss i) has

  edge_held : (i j : ℕ) → Contains (held_at ss i) j → Contains (edges_at graph i) j
  edge_held i j has = subst (λ (es : List ℕ). Contains es j) (sym (edges_held ss i)) has

  holds_from : (i j : ℕ) → Reached graph (edges_at graph i) j → Holds ss i j
  holds_from i j (at_first has) = directly (held_edge i j has)
  holds_from i j (along {i = k} reached has) = one_more i k j (holds_from i k reached) (held_edge k j has)

  reached_more : (first : List ℕ) (i j : ℕ) → Holds ss i j → Reached graph first i → Reached graph first j
  reached_more first i j (directly has) r = along r (edge_held i j has)
  reached_more first i j (through {j = k} has holds) r = reached_more first k j holds (along r (edge_held i k has))

  reached_from : (i j : ℕ) → Holds ss i j → Reached graph (edges_at graph i) j
  reached_from i j (directly has) = at_first (edge_held i j has)
  reached_from i j (through {j = k} has holds) = reached_more (edges_at graph i) k j holds (at_first (edge_held i k has))

  -- what is reached from itself is deep
  pub cyclic_deep : (i : ℕ) → Reached graph (edges_at graph i) i → slice_get (nested_flags graph MAX_DEPTH) i ≡ Some true
  cyclic_deep i r = nested_from MAX_DEPTH i (cyclic_nested (suc MAX_DEPTH) i (holds_from i i r))

  -- the flags are the shapes
  pub are_shapes : (cyclic deep tails : List Bool) → deep ≡ nested_flags graph MAX_DEPTH → length cyclic ≡ length graph
      → ((i : ℕ) → i < length graph → (slice_get cyclic i ≡ Some true) ↔ Reached graph (edges_at graph i) i)
      → (length tails ≡ length ss) × ((i : ℕ) → i < length ss → (slice_get tails i ≡ Some true) ↔ IsTail ss i)
      → AreShapes ss cyclic deep tails
  are_shapes cyclic deep tails are count cycles tail =
      let size : length graph ≡ length ss = length-map ss held_in in
      let get = λ (i : ℕ) (flags : List Bool). slice_get flags i in
      record {
        counts = (count ∙ size, ap (λ (flags : List Bool). length flags) are ∙ length_nested MAX_DEPTH, tail.0);
        cycles = λ i l.
            let c = cycles i (subst (λ (n : ℕ). i < n) (sym size) l) in (λ h. holds_from i i (c.0 h), λ h. c.1 (reached_from i i h));
        depths = λ i l. (λ h. nested_to MAX_DEPTH i (sym (ap (get i) are) ∙ h), λ h. ap (get i) are ∙ nested_from MAX_DEPTH i h);
        tail_types = tail.1;
      }
