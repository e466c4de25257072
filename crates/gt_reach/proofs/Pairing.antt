-- The turns of pairs, one after another, and of caches.
use Rattle.std.proofs.Common.{◌≡◌, ℕ, zero, suc, ◌+◌, ◌<◌, ◌≤◌, Bool, true, false, List, [], ◌∷◌, ◌++◌, Some, None, length, map, get_or, take, sym, ap, subst, ◌∙◌, arith}
use Rattle.std.specs.Prelude.{filter, slice_get, slice_set}
use Rattle.std.specs.List.{AllZip}
use Rattle.std.specs.Option.{option_map_or}
use Rattle.std.proofs.Math.Seq.{map-set_same}
use Rattle.std.proofs.lemmas.List.{length-map, map-append, take-set, take_more, take_more_set}
use Rattle.std.proofs.lemmas.List.Elements.{filter-append}
use Rattle.std.proofs.lemmas.List.Sums.{sum-map, sum_by-cons}
use Rattle.std.proofs.lemmas.Option.{get_or_from_slice_get, none-some, slice_get-get_or, slice_get-map, slice_get_within}
use Rattle.std.proofs.lemmas.Slice.Zip.{AllZip-long}
use Rattle.gt_types.specs.declared.program.Program.{Program}
use Rattle.gt_layout.specs.declared.planes.Layouts.{Layouts}
use Rattle.gt_layout.proofs.Laying.{get-set_same}
use Rattle.gt_tree.proofs.PathParts.{get-map}
use Rattle.gt_types.specs.declared.types.TypeId.{TypeId}
use Rattle.gt_graph.specs.Objects.{Graph, Object, pairs_in}
use Rattle.gt_graph.specs.Good.{ArePairsOf, Heap, IsSingle}
use Rattle.gt_graph.specs.Kept.{CachesStay, PairsStay}
use Rattle.gt_objects.specs.declared.objects.Objects.{Objects}
use Rattle.gt_objects.specs.Holding.{IsHeapOf}
use Rattle.gt_objects.proofs.Naming.{mapped_some}
use Rattle.gt_caches.specs.Pairs.{Entries, Entry, decided, decided_at, pair_of, pairs_of, staying}
use Rattle.gt_walk.specs.declared.tables.Tables.{Tables}
use Rattle.gt_reach.specs.Following.{CachesHadTurns, HadTurns, TakesTurn}

-- ---- places of lists

take_next : {X : Type 0} (xs : List X) (i : ℕ) (x : X) → slice_get xs i ≡ Some x → take (i + 1) xs ≡ take i xs ++ x ∷ []
take_next xs i x at = take_more xs i x (slice_get_within xs i x at) ∙ ap (λ y. take i xs ++ y ∷ []) (get_or_from_slice_get xs i x x at)

zip_item : {A B : Type 0} (Q : A → B → Type 0) (xs : List A) (ys : List B) (k : ℕ) (y : B) → AllZip Q xs ys → slice_get ys k ≡ Some y → (x : A) × Q x y
zip_item Q [] [] k y all at = absurd (none-some y at)
zip_item Q [] (z ∷ ys) k y all at = absurd all
zip_item Q (x ∷ xs) [] k y all at = absurd all
zip_item Q (x ∷ xs) (z ∷ ys) zero y all at = let same : z ≡ y = cc in (x, subst (Q x) same all.0)
zip_item Q (x ∷ xs) (z ∷ ys) (suc k) y all at = zip_item Q xs ys k y all.1 at

none_past : {X : Type 0} (xs : List X) (i : ℕ) → slice_get xs i ≡ None → length xs ≤ i
none_past [] i none = omega arith
none_past (x ∷ xs) zero none = absurd (none-some x (sym none))
none_past (x ∷ xs) (suc i) none = let rest = none_past xs i none in omega (arith, rest)

-- a pair that a cache has at a place is that of an entry
entry_at : (entries : List Entry) (i key value : ℕ) → slice_get (map pair_of entries) i ≡ Some (key, value) → (e : Entry) × (slice_get entries i ≡ Some e) × (pair_of e ≡ (key, value))
entry_at entries i key value at = mapped_some pair_of (slice_get entries i) (key, value) (sym (slice_get-map pair_of entries i) ∙ at)

pairs_at : (caches : Entries) (k : ℕ) (entries : List Entry) → slice_get caches k ≡ Some entries → slice_get (pairs_of caches) k ≡ Some (map pair_of entries)
pairs_at caches k entries at = get-map (λ es. map pair_of es) caches k entries at

-- where no pair is, all entries were passed
pub entries_past : (caches : Entries) (k i : ℕ) (entries : List Entry) → slice_get caches k ≡ Some entries
    → ((pairs : List (ℕ × ℕ)) → slice_get (pairs_of caches) k ≡ Some pairs → slice_get pairs i ≡ None) → length entries ≤ i
entries_past caches k i entries at none =
    let past = none_past (map pair_of entries) i (none (map pair_of entries) (pairs_at caches k entries at)) in
    omega (arith, past, length-map entries pair_of)

-- a cache has entries
pub cache_there : (old caches : Entries) (k : ℕ) → k < length old → pairs_of caches ≡ pairs_of old → (entries : List Entry) × (slice_get caches k ≡ Some entries)
cache_there old caches k low same =
    let long : length caches ≡ length old = sym (length-map caches (λ es. map pair_of es)) ∙ ap length same ∙ length-map old (λ es. map pair_of es) in
    (get_or caches k [], slice_get-get_or caches k [] (omega (arith, low, long)))

-- the entry of a pair that a cache has at a place
pub record IsHere (caches : Entries) (k i key value : ℕ) : Type 0 where
  pub entries : List Entry
  pub entry : Entry
  pub at : slice_get caches k ≡ Some entries
  pub there : slice_get entries i ≡ Some entry
  pub pair : pair_of entry ≡ (key, value)

pub pair_here : (old caches : Entries) (k i key value : ℕ) → k < length old → pairs_of caches ≡ pairs_of old
    → ((pairs : List (ℕ × ℕ)) → slice_get (pairs_of caches) k ≡ Some pairs → slice_get pairs i ≡ Some (key, value)) → IsHere caches k i key value
pair_here old caches k i key value low same finds =
    let its = cache_there old caches k low same in
    let e = entry_at its.0 i key value (finds (map pair_of its.0) (pairs_at caches k its.0 its.1)) in
    record { entries = its.0; entry = e.0; at = its.1; there = e.1; pair = e.2 }

in_first : (es : List Entry) (caches : Entries) → pairs_in (pairs_of (es ∷ caches)) ≡ length (map pair_of es) + pairs_in (pairs_of caches)
in_first es caches =
    sum-map (λ (pairs : List (ℕ × ℕ)). length pairs) (pairs_of (es ∷ caches)) ∙ sum_by-cons (λ (pairs : List (ℕ × ℕ)). length pairs) (map pair_of es) (pairs_of caches)
    ∙ ap (λ n. length (map pair_of es) + n) (sym (sum-map (λ (pairs : List (ℕ × ℕ)). length pairs) (pairs_of caches)))

-- a cache has no more pairs than all caches together
pub in_all : (caches : Entries) (k : ℕ) (entries : List Entry) → slice_get caches k ≡ Some entries → length entries ≤ pairs_in (pairs_of caches)
in_all [] k entries at = absurd (none-some entries at)
in_all (es ∷ caches) zero entries at = let same : es ≡ entries = cc in omega (arith, ap length same, length-map es pair_of, in_first es caches)
in_all (es ∷ caches) (suc k) entries at = let rest = in_all caches k entries at in omega (arith, rest, in_first es caches)

-- ---- an entry is decided

module _ (caches : Entries) (k i : ℕ) (stays : Bool) (entries : List Entry) (e : Entry) (at : slice_get caches k ≡ Some entries) (there : slice_get entries i ≡ Some e) where
  abbrev now : Entry
  now = record e { stays = stays }

  decided_is : decided caches k i stays ≡ slice_set caches k (slice_set entries i now)
  decided_is =
      ap (λ o. option_map_or (λ es. slice_set caches k (decided_at es i stays)) o caches) at
      ∙ ap (λ o. slice_set caches k (option_map_or (λ (x : Entry). slice_set entries i (record x { stays = stays })) o entries)) there

  same_inside : map pair_of (slice_set entries i now) ≡ map pair_of entries
  same_inside = map-set_same pair_of entries i now e (ap pair_of (sym (get_or_from_slice_get entries i e e there)))

  pub pairs_decided : pairs_of (decided caches k i stays) ≡ pairs_of caches
  pairs_decided =
      ap pairs_of decided_is
      ∙ map-set_same (λ es. map pair_of es) caches k (slice_set entries i now) entries (same_inside ∙ ap (λ es. map pair_of es) (sym (get_or_from_slice_get caches k entries entries at)))

  pub before_decided : take k (decided caches k i stays) ≡ take k caches
  before_decided = ap (take k) decided_is ∙ take-set caches k (slice_set entries i now)

  at_decided : slice_get (decided caches k i stays) k ≡ Some (slice_set entries i now)
  at_decided = ap (λ cs. slice_get cs k) decided_is ∙ get-set_same caches k (slice_set entries i now) (slice_get_within caches k entries at)

  next_decided : take (i + 1) (slice_set entries i now) ≡ take i entries ++ now ∷ []
  next_decided = take_more_set entries i now (slice_get_within entries i e there)

-- ---- turns

module _ (program : Program) (g : Graph) where
  then_pairs : {values middle after : List ℕ} {old new olds news : List (ℕ × ℕ)} → PairsStay program g values old new middle → PairsStay program g middle olds news after
      → PairsStay program g values (old ++ olds) (new ++ news) after
  then_pairs PairsStay.no_pair rest = rest
  then_pairs (PairsStay.stays reached first) rest = PairsStay.stays reached (then_pairs first rest)
  then_pairs (PairsStay.goes not_reached first) rest = PairsStay.goes not_reached (then_pairs first rest)

  then_caches : {values middle after : List ℕ} {old new olds news : List (List (ℕ × ℕ))} → CachesStay program g values old new middle → CachesStay program g middle olds news after
      → CachesStay program g values (old ++ olds) (new ++ news) after
  then_caches CachesStay.no_cache rest = rest
  then_caches (CachesStay.next_cache pairs first) rest = CachesStay.next_cache pairs (then_caches first rest)

  abbrev stay_in : List Entry → List (ℕ × ℕ)
  stay_in entries = map pair_of (filter (λ e. e.stays) entries)

  then_entries : (values middle after : List ℕ) (front tail : List Entry) → PairsStay program g values (map pair_of front) (stay_in front) middle
      → PairsStay program g middle (map pair_of tail) (stay_in tail) after → PairsStay program g values (map pair_of (front ++ tail)) (stay_in (front ++ tail)) after
  then_entries values middle after front tail first rest =
      let kept : stay_in (front ++ tail) ≡ stay_in front ++ stay_in tail =
      ap (map pair_of) (filter-append (λ e. e.stays) front tail) ∙ map-append pair_of (filter (λ e. e.stays) front) (filter (λ e. e.stays) tail) in
      subst (λ olds. PairsStay program g values olds (stay_in (front ++ tail)) after) (sym (map-append pair_of front tail))
      (subst (λ news. PairsStay program g values (map pair_of front ++ map pair_of tail) news after) (sym kept) (then_pairs first rest))

module _ (program : Program) (tables : Tables) (heap : Heap) where
  -- one pair more had its turn
  turns_next : (values : List ℕ) (front : List Entry) (e : Entry) (old new : Objects) (first second : ℕ) (stays : Bool) → (had : HadTurns program tables heap values front old first)
      → TakesTurn program tables heap had.after e.key e.value new second stays → HadTurns program tables heap values (front ++ (record e { stays = stays }) ∷ []) new second
  turns_next values front e old new first second true had turn = record {
    after = e.value ∷ had.after;
    stay = then_entries program heap.graph values had.after (e.value ∷ had.after) front ((record e { stays = true }) ∷ []) had.stay (PairsStay.stays turn.0 PairsStay.no_pair);
    traced = turn.1;
  }
  turns_next values front e old new first second false had turn = record {
    after = had.after;
    stay = then_entries program heap.graph values had.after had.after front ((record e { stays = false }) ∷ []) had.stay (PairsStay.goes turn.0 PairsStay.no_pair);
    traced = turn.1;
  }

  -- the same, where the caches say of it whether it stays
  pub turn_had : (values : List ℕ) (caches then : Entries) (k i key value : ℕ) (here : IsHere caches k i key value) (old new : Objects) (first second : ℕ) (stays : Bool) → then ≡ decided caches k i stays
      → (had : HadTurns program tables heap values (take i here.entries) old first) → TakesTurn program tables heap had.after key value new second stays
      → (entries : List Entry) → slice_get then k ≡ Some entries → HadTurns program tables heap values (take (i + 1) entries) new second
  turn_had values caches then k i key value here old new first second stays is had turn entries at =
      let e = here.entry in
      let its = subst (λ (pair : ℕ × ℕ). TakesTurn program tables heap had.after pair.0 pair.1 new second stays) (sym here.pair) turn in
      let made : slice_get then k ≡ Some (slice_set here.entries i (record e { stays = stays })) =
      ap (λ cs. slice_get cs k) is ∙ at_decided caches k i stays here.entries e here.at here.there in
      let both : Some entries ≡ Some (slice_set here.entries i (record e { stays = stays })) = sym at ∙ made in
      let same : entries ≡ slice_set here.entries i (record e { stays = stays }) = cc in
      let more : take (i + 1) entries ≡ take i here.entries ++ (record e { stays = stays }) ∷ [] = ap (take (i + 1)) same ∙ next_decided caches k i stays here.entries e here.at here.there in
      subst (λ es. HadTurns program tables heap values es new second) (sym more) (turns_next values (take i here.entries) e old new first second stays had its)

  -- one cache more had its turn
  caches_next : (values : List ℕ) (front : Entries) (entries : List Entry) (old new : Objects) (first second : ℕ) → (had : CachesHadTurns program tables heap values front old first)
      → HadTurns program tables heap had.after entries new second → CachesHadTurns program tables heap values (front ++ entries ∷ []) new second
  caches_next values front entries old new first second had turns = record {
    after = turns.after;
    stay =
        subst (λ olds. CachesStay program heap.graph values olds (staying (front ++ entries ∷ [])) turns.after) (sym (map-append (λ es. map pair_of es) front (entries ∷ [])))
        (subst (λ news. CachesStay program heap.graph values (pairs_of front ++ map pair_of entries ∷ []) news turns.after) (sym (map-append (stay_in program heap.graph) front (entries ∷ [])))
        (then_caches program heap.graph had.stay (CachesStay.next_cache turns.stay CachesStay.no_cache)));
    traced = turns.traced;
  }

  -- the same, where it is the next of the caches
  pub cache_had : (values : List ℕ) (caches then : Entries) (k : ℕ) (entries : List Entry) (old new : Objects) (first second : ℕ) → take k then ≡ take k caches → slice_get then k ≡ Some entries
      → (had : CachesHadTurns program tables heap values (take k caches) old first) → HadTurns program tables heap had.after entries new second → CachesHadTurns program tables heap values (take (k + 1) then) new second
  cache_had values caches then k entries old new first second before at had turns =
      subst (λ cs. CachesHadTurns program tables heap values cs new second) (sym (take_next then k entries at ∙ ap (λ cs. cs ++ entries ∷ []) before))
      (caches_next values (take k caches) entries old new first second had turns)

-- ---- the pairs of a heap

-- a key and a value are single structures
pub record AreSingle (objects : List Object) (key value : ℕ) : Type 0 where
  pub key_node : TypeId
  pub value_node : TypeId
  pub key_single : IsSingle objects key key_node
  pub value_single : IsSingle objects value value_node

module _ (program : Program) (layouts : Layouts) (objects : Objects) (heap : Heap) (is : IsHeapOf program layouts objects heap) (caches : Entries) (are : heap.graph.pairs ≡ pairs_of caches) where
  -- keys and values are single structures
  entry_single : (k i : ℕ) (entries : List Entry) (e : Entry) → slice_get caches k ≡ Some entries → slice_get entries i ≡ Some e → AreSingle heap.graph.objects e.key e.value
  entry_single k i entries e at there =
      let zip = subst (AllZip (ArePairsOf heap.graph.objects) program.caches) are is.good.graph.pairs in
      let its = zip_item (ArePairsOf heap.graph.objects) program.caches (pairs_of caches) k (map pair_of entries) zip (pairs_at caches k entries at) in
      let here = get-map pair_of entries i e there in
      let singles = its.1.singles i (pair_of e) (slice_get_within (map pair_of entries) i (pair_of e) here) in
      let single =
      subst (λ (pair : ℕ × ℕ). IsSingle heap.graph.objects pair.0 its.0.key × IsSingle heap.graph.objects pair.1 its.0.value)
      (get_or_from_slice_get (map pair_of entries) i (pair_of e) (pair_of e) here) singles in record { key_node = its.0.key; value_node = its.0.value; key_single = single.0; value_single = single.1 }

  pub pair_single : (k i key value : ℕ) → IsHere caches k i key value → AreSingle heap.graph.objects key value
  pair_single k i key value here = subst (λ (pair : ℕ × ℕ). AreSingle heap.graph.objects pair.0 pair.1) here.pair (entry_single k i here.entries here.entry here.at here.there)

  pub as_many_caches : length caches ≡ length program.caches
  as_many_caches = sym (length-map caches (λ es. map pair_of es)) ∙ ap length (sym are) ∙ AllZip-long (ArePairsOf heap.graph.objects) program.caches heap.graph.pairs is.good.graph.pairs
