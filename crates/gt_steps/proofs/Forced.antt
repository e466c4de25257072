-- What a collection leaves of a state.
use Rattle.std.proofs.Common.{◌≡◌, ◌↔◌, ◌<◌, ◌≤◌, ℕ, ◌+◌, List, [], ◌∷◌, Option, Some, None, IsTrue, is_some, inl, inr, map, sum, refl, ap, sym, ◌∙◌, arith}
use Rattle.std.specs.Prelude.{AllPairs, Contains}
use Rattle.std.proofs.lemmas.Option.{none-some}
use Rattle.std.proofs.lemmas.List.Elements.{All-contains}
use Rattle.std.proofs.lemmas.List.Sums.{sum_by-cons}
use Rattle.gt_types.specs.declared.program.Program.{Program}
use Rattle.gt_layout.specs.declared.planes.Layouts.{Layouts}
use Rattle.gt_io.specs.Held.{Held}
use Rattle.gt_space.specs.Laws.{IsApart}
use Rattle.gt_pages.specs.Ledger.{AreApart, Block, page_address}
use Rattle.gt_graph.specs.Objects.{Object, object_of}
use Rattle.gt_graph.specs.Places.{Placed, Places, ArePlacesOf, ledger_of}
use Rattle.gt_graph.specs.Good.{Heap}
use Rattle.gt_objects.specs.declared.objects.Known.{Known}
use Rattle.gt_objects.specs.declared.objects.Objects.{Objects}
use Rattle.gt_objects.specs.Holding.{IsHeapOf}
use Rattle.gt_objects.specs.InBytes.{known_in}
use Rattle.gt_objects.specs.Knowing.{IsKnownAt}
use Rattle.gt_objects.proofs.Filtered.{pairs_mapped, rising_pairs}
use Rattle.gt_objects.proofs.Finding.{known_is}
use Rattle.gt_objects.proofs.Items.{first_there, later_there, pairs_head, pairs_tail}
use Rattle.gt_next.specs.States.{IsGoodState, State, Variables, count_of_variables, meaning}
use Rattle.gt_next.specs.Collecting.{Collects, KeepsBound, NextForce, allocated}
use Rattle.gt_next.specs.declared.answer.Answer.TheVariants.{Collected}
use Rattle.gt_vars.specs.Held.{KeepsThose}
use Rattle.gt_session.specs.declared.session.Session.{Session}
use Rattle.gt_session.specs.Sessions.{StandsFor}
use Rattle.gt_caches.specs.Pairs.{Entries, pairs_of}
use Rattle.gt_collect.specs.declared.modes.Mode.{Mode}
use Rattle.gt_collect.specs.Collecting.{IsCollected}
use Rattle.gt_collect.specs.Modes.{threshold_in}
use Rattle.gt_steps.specs.Collecting.{NextIn}

-- the bytes of blocks
abbrev bytes_of : List Block → ℕ
bytes_of blocks = sum (map (λ b. b.size) blocks)

-- blocks that rise and share no byte, between two addresses
spread : (low high : ℕ) (blocks : List Block) → AllPairs (λ b c. b.address < c.address) blocks → AreApart blocks → low ≤ high → ((b : Block) → Contains blocks b → (low ≤ b.address) × (b.address + b.size ≤ high))
    → low + bytes_of blocks ≤ high
spread low high [] rise apart room within = omega (arith, room)
spread low high (b ∷ blocks) rise apart room within =
    let here = within b (first_there b blocks) in
    let rest = spread (b.address + b.size) high blocks (pairs_tail (λ b c. b.address < c.address) b blocks rise) apart.1 here.1 (λ c there.
    let its = within c (later_there b blocks c there) in
    let above = All-contains (λ c. b.address < c.address) blocks c (pairs_head (λ b c. b.address < c.address) b blocks rise) there in
    (after b c above (All-contains (λ c. IsApart b.address b.size c.address c.size) blocks c apart.0 there), its.1)) in
    let first : bytes_of (b ∷ blocks) ≡ b.size + bytes_of blocks = sum_by-cons (λ n. n) b.size (map (λ b. b.size) blocks) in
    omega (arith, here.0, rest, first)
  where
    after : (b c : Block) → b.address < c.address → IsApart b.address b.size c.address c.size → b.address + b.size ≤ c.address
    after b c above (inl before) = omega (arith, before)
    after b c above (inr following) = absurd (let no : 1 ≤ 0 = omega (arith, above, following) in omega (arith, no))

-- the bytes of all blocks are those of the pages at most
few_bytes : (program : Program) (layouts : Layouts) (objects : List Object) (places : Places) → ArePlacesOf program layouts objects places → places.pages ≤ 16384
    → sum (map (λ (b : Block). b.size) (ledger_of places).blocks) ≤ 67108864
few_bytes program layouts objects places are few =
    let all = spread 0x10000000 (page_address places.pages) (ledger_of places).blocks
    (pairs_mapped (λ (p : Placed). p.block) (λ b c. b.address < c.address) places.placed (rising_pairs (λ (p : Placed). p.block.address) places.placed are.rising)) are.sound.apart (omega arith)
    (λ b there. All-contains (λ b. (0x10000000 ≤ b.address) × (b.address + b.size ≤ page_address places.pages)) (ledger_of places).blocks b are.sound.in_space there) in
    omega (arith, all, few)

-- something is known of an address exactly where an object has it
known_there : (objects : List Object) (id : ℕ) (known : Option Known) → IsKnownAt objects id known → IsTrue (is_some known) ↔ ((o : Object) × (object_of objects id ≡ Some o))
known_there objects id None none = (λ never. absurd (cc), λ there. absurd (none-some there.0 (sym none ∙ there.1)))
known_there objects id (Some known) is = (λ _. (is.0, is.1), λ _. refl)

module _ (old : Session) (objects : Objects) (caches : Entries) (vars : Variables) (last kept freed dropped rounds : ℕ) where
  -- the session after a collection
  abbrev pub collected : Session
  collected = record old { objects = objects; caches = caches; vars = vars; last = last; rounds = rounds }

  module _ (told : Option Held) (s : State) (stands : StandsFor old told s) (after : Heap) (holds : IsHeapOf old.schema.program old.schema.layouts objects after)
      (pairs : after.graph.pairs ≡ pairs_of caches) (is : IsCollected old.schema.program s.heap after kept freed dropped rounds) (keeps : KeepsThose (λ id. IsTrue (is_some (known_in objects id))) old.vars vars)
      (few : count_of_variables vars ≤ count_of_variables old.vars) (bytes : last ≡ sum (map (λ (b : Block). b.size) (ledger_of after.places).blocks)) where
    abbrev left : State
    left = record s { heap = after; variables = vars; last = last; rounds = rounds }

    there : (id : ℕ) → IsTrue (is_some (known_in objects id)) ↔ ((o : Object) × (object_of after.graph.objects id ≡ Some o))
    there id = known_there after.graph.objects id (known_in objects id) (known_is old.schema.program old.schema.layouts objects after holds id)

    means : (name : List ℕ) → meaning s.variables name ≡ meaning old.vars name
    means name = ap (λ v. meaning v name) stands.holds.variables

    bound : KeepsBound after.graph.objects s.variables vars
    bound name id =
        let k = keeps name id in (
          λ e. let both = k.0 e in (means name ∙ both.0, (there id).0 both.1),
          λ both. k.1 (sym (means name) ∙ both.0, (there id).1 both.1),
        )

    collects : Collects old.schema.program s kept freed dropped left
    collects = record {
      heap = is.after;
      kept_count = is.counts.kept_count;
      freed_count = is.counts.freed_count;
      dropped_count = is.counts.dropped_count;
      variables = bound;
      rounds = is.rounds;
      rest = ap (λ n. let t : State = record s { heap = after; variables = vars; last = n; rounds = rounds } in t) bytes;
    }

    same_pages : after.places.pages ≡ s.heap.places.pages
    same_pages = ap (λ p. p.pages) is.after.places

    good : IsGoodState old.schema.program old.schema.layouts left
    good =
        let was = stands.good in
        let pages = same_pages in
        record {
          heap = holds.good;
          variables = λ name id e. ((bound name id).0 e).1;
          few_variables =
              let before : count_of_variables s.variables ≡ count_of_variables old.vars = ap (λ v. count_of_variables v) stands.holds.variables in
              let many = was.few_variables in
              omega (arith, few, before, many);
          pages = (omega (arith, pages, was.pages.0), omega (arith, pages, was.pages.1));
          min_expand = was.min_expand;
          min_heapsize = was.min_heapsize;
          last =
              let most = few_bytes old.schema.program old.schema.layouts after.graph.objects after.places holds.good.places (omega (arith, pages, was.pages.1)) in
              omega (arith, most, bytes);
        }

    stands_now : StandsFor collected told left
    stands_now = record {
      holds = record {
        schema = stands.holds.schema;
        heap = holds;
        pairs = pairs;
        variables = refl;
        min_expand = stands.holds.min_expand;
        min_heapsize = stands.holds.min_heapsize;
        last = refl;
        rounds = refl;
        files = stands.holds.files;
      };
      good = good;
    }

    -- a collection that runs goes there
    pub goes_in : (mode : Mode) → threshold_in mode ≤ allocated s → (t : State) × NextIn old.schema.program mode s (Collected kept freed dropped) t × StandsFor collected told t
    goes_in mode enough =
        let next : NextIn old.schema.program mode s (Collected kept freed dropped) left = record {
          skips = λ low. absurd (let no : 1 ≤ 0 = omega (arith, low, enough) in omega (arith, no));
          collects = λ _. NextForce.collects collects;
        } in
        (left, next, stands_now)
