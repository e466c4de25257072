-- The caches of a state for which a session stands.
use Rattle.std.proofs.Common.{◌≡◌, ◌==◌, ℕ, ◌<◌, ◌≤◌, List, length, map, ap, sym, subst, ◌∙◌, arith, Option, Some}
use Rattle.std.specs.Prelude.{Contains, find, slice_get}
use Rattle.std.proofs.lemmas.List.{length-map}
use Rattle.std.proofs.lemmas.List.Elements.{All-contains}
use Rattle.gt_types.specs.declared.program.Cache.{Cache}
use Rattle.gt_types.specs.declared.program.Program.{Program}
use Rattle.gt_tree.proofs.PathBits.{some-same}
use Rattle.gt_io.specs.Held.{Held}
use Rattle.gt_graph.specs.Objects.{pairs_in}
use Rattle.gt_graph.specs.Places.{address_in}
use Rattle.gt_graph.specs.Good.{MAX_PAIRS, IsSingle, ArePairsOf}
use Rattle.gt_objects.proofs.Items.{find_is}
use Rattle.gt_objects.proofs.Naming.{address_named, mapped_some}
use Rattle.gt_next.specs.States.{State}
use Rattle.gt_next.specs.Caching.{cache_of, value_of_key, IsCacheAt}
use Rattle.gt_determined.proofs.Presence.{cache-there}
use Rattle.gt_determined.proofs.Pairs.{zip-at}
use Rattle.gt_caches.specs.Pairs.{Entry, pair_of, pairs_of}
use Rattle.gt_caches.proofs.Places.{below}
use Rattle.gt_session.specs.declared.session.Session.{Session}
use Rattle.gt_session.specs.Sessions.{StandsFor}
use Rattle.gt_caching.specs.declared.members.NamedCache.{NamedCache}
use Rattle.gt_caching.specs.Members.{IsNamed}

-- the value of a key is that of a pair
value-in : (key value : ℕ) (pairs : List (ℕ × ℕ)) → value_of_key key pairs ≡ Some value → (pair : ℕ × ℕ) × Contains pairs pair × (pair.1 ≡ value)
value-in key value pairs e =
    let pair = mapped_some (λ pair. pair.1) (find (λ pair. pair.0 == key) pairs) value e in
    let there = find_is (λ pair. pair.0 == key) pairs pair.0 pair.1 in
    (pair.0, there.0, pair.2)

module _ (session : Session) (told : Option Held) (s : State) (st : StandsFor session told s) where
  pub named-there : (name : List ℕ) (place : ℕ) (cache : Cache) → cache_of session.schema.program name ≡ Some place → slice_get session.schema.program.caches place ≡ Some cache
      → IsNamed session.schema.program s name (record { place = place; key = cache.key; value = cache.value })
  named-there name place cache e at =
      let there = cache-there session.schema.program session.schema.layouts s st.good name place e in
      let same = some-same (slice_get session.schema.program.caches place) there.0 cache there.2.declared at in
      record { cache = there.0; pairs = there.1; at = there.2; key = ap (λ c. c.key) same; value = ap (λ c. c.value) same }

  -- no more pairs than there may be
  pub few-held : pairs_in (pairs_of session.caches) ≤ MAX_PAIRS
  few-held = subst (λ pairs. pairs_in pairs ≤ MAX_PAIRS) st.holds.pairs st.good.heap.graph.few_pairs

  module _ {name : List ℕ} {place : ℕ} {cache : Cache} {pairs : List (ℕ × ℕ)} (at : IsCacheAt session.schema.program s name place cache pairs) where
    pub held-there : slice_get (pairs_of session.caches) place ≡ Some pairs
    held-there = subst (λ ps. slice_get ps place ≡ Some pairs) st.holds.pairs at.held

    pub place-below : place < length session.caches
    place-below =
        let less = below (pairs_of session.caches) place pairs held-there in
        let long = length-map session.caches (λ (entries : List Entry). map pair_of entries) in
        omega (arith, less, long)

    -- the value of a key is an object, whose name is its address
    pub value-address : (key value : ℕ) → value_of_key key pairs ≡ Some value → address_in s.heap.places.placed value ≡ value
    value-address key value e =
        let are = zip-at (ArePairsOf s.heap.graph.objects) session.schema.program.caches s.heap.graph.pairs place cache pairs st.good.heap.graph.pairs at.declared at.held in
        let pair = value-in key value pairs e in
        let both = All-contains (λ pair. IsSingle s.heap.graph.objects pair.0 cache.key × IsSingle s.heap.graph.objects pair.1 cache.value) pairs pair.0 are.singles pair.1 in
        let single = subst (λ id. IsSingle s.heap.graph.objects id cache.value) pair.2 both.1 in
        address_named st.good.heap.places value single.0 single.1
