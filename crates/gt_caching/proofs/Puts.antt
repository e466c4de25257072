-- The session after a put.
use Rattle.std.proofs.Common.{◌≡◌, ◌≤◌, ◌<◌, ◌⊎◌, inl, inr, ℕ, Bool, true, false, List, refl, ap, sym, ◌∙◌, Option, Some, None}
use Rattle.std.specs.Prelude.{slice_get, slice_set}
use Rattle.std.specs.List.{AllZip}
use Rattle.gt_types.specs.declared.program.Cache.{Cache}
use Rattle.gt_types.specs.declared.program.Program.{Program}
use Rattle.gt_layout.specs.declared.planes.Layouts.{Layouts}
use Rattle.gt_script.specs.declared.command.Command.{Command}
use Rattle.gt_script.specs.declared.command.Command.TheVariants as command
use Rattle.gt_io.specs.Held.{Held}
use Rattle.gt_graph.specs.Objects.{pairs_in}
use Rattle.gt_graph.specs.Good.{Heap, MAX_PAIRS, ArePairsOf}
use Rattle.gt_objects.specs.declared.objects.Objects.{Objects}
use Rattle.gt_objects.specs.Holding.{IsHeapOf}
use Rattle.gt_next.specs.declared.answer.Answer.TheVariants.{Done}
use Rattle.gt_next.specs.States.{State}
use Rattle.gt_next.specs.Caching.{value_of_key, with_pair, with_pairs, NextPut}
use Rattle.gt_next.specs.Laws.{IsCollection}
use Rattle.gt_determined.specs.Staying.{StaysGoodUncollected}
use Rattle.gt_caches.specs.Pairs as held
use Rattle.gt_caches.specs.Pairs.{Entries, pairs_of}
use Rattle.gt_session.specs.declared.session.Session.{Session}
use Rattle.gt_session.specs.Sessions.{StandsFor}
use Rattle.gt_caching.specs.declared.putting.NewPair.{NewPair}
use Rattle.gt_caching.specs.Members.{MayPut}
use Rattle.gt_caching.proofs.Caches.{held-there}

-- what the law of heaps with other pairs says
abbrev PairsMayChange : Type 0
PairsMayChange = (program : Program) (layouts : Layouts) (objects : Objects) (heap : Heap) (pairs : List (List (ℕ × ℕ))) → IsHeapOf program layouts objects heap
    → AllZip (ArePairsOf heap.graph.objects) program.caches pairs → pairs_in pairs ≤ MAX_PAIRS → IsHeapOf program layouts objects (held.with_pairs heap pairs)

abbrev collects : Command → Bool
collects command.Collect = true
collects command.CollectForce = true
collects c = false

collection-is : (c : Command) → IsCollection c → collects c ≡ true
collection-is c IsCollection.collect = refl
collection-is c IsCollection.force = refl

put-plain : (name key value : List ℕ) → ¬ IsCollection (command.Put name key value)
put-plain name key value h = let e = collection-is (command.Put name key value) h in cc

-- a pair that may be put is put
put-next : (program : Program) (s : State) (name key value : List ℕ) (pair : NewPair) (may : MayPut program s name key value pair)
    → NextPut program s name key value Done (with_pairs s pair.place (with_pair pair.key pair.value may.pairs))
put-next program s name key value pair may = by may.room
  where
    by : ((old : ℕ) × (value_of_key pair.key may.pairs ≡ Some old)) ⊎ ((value_of_key pair.key may.pairs ≡ None) × (pairs_in s.heap.graph.pairs < MAX_PAIRS))
        → NextPut program s name key value Done (with_pairs s pair.place (with_pair pair.key pair.value may.pairs))
    by (inl (old, e)) = NextPut.replaces may.at may.key_is may.value_is e
    by (inr (none, room)) = NextPut.adds may.at may.key_is may.value_is none room

pub put-session : (session : Session) (told : Option Held) (s : State) → StandsFor session told s → StaysGoodUncollected session.schema.program session.schema.layouts → PairsMayChange
    → (name key value : List ℕ) (pair : NewPair) → MayPut session.schema.program s name key value pair → (new : Entries)
    → ((pairs : List (ℕ × ℕ)) → slice_get (pairs_of session.caches) pair.place ≡ Some pairs → pairs_of new ≡ slice_set (pairs_of session.caches) pair.place (with_pair pair.key pair.value pairs))
    → (t : State) × NextPut session.schema.program s name key value Done t × StandsFor (record session { caches = new }) told t
put-session session told s st stays change name key value pair may new put =
    let h = st.holds in
    let program = session.schema.program in
    let pairs = with_pair pair.key pair.value may.pairs in
    let t : State = with_pairs s pair.place pairs in
    let next : NextPut program s name key value Done t = put-next program s name key value pair may in
    let good = stays s t (command.Put name key value) Done st.good tt (put-plain name key value) next in (
      t,
      next,
      record {
        holds = record {
          schema = h.schema;
          heap = change program session.schema.layouts session.objects s.heap (slice_set s.heap.graph.pairs pair.place pairs) h.heap good.heap.graph.pairs good.heap.graph.few_pairs;
          pairs = ap (λ ps. slice_set ps pair.place pairs) h.pairs ∙ sym (put may.pairs (held-there session told s st may.at));
          variables = h.variables;
          min_expand = h.min_expand;
          min_heapsize = h.min_heapsize;
          last = h.last;
          rounds = h.rounds;
          files = h.files;
        };
        good = good;
      },
    )
