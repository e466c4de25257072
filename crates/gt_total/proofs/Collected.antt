-- A good state stays good after a collection.
use Rattle.std.proofs.Common.{◌≡◌, ℕ, ◌+◌, ◌<◌, ◌≤◌, List, [], ◌∷◌, map, ap, inl, inr, arith}
use Rattle.std.specs.Prelude.{AllPairs, Contains}
use Rattle.std.proofs.lemmas.List.Elements.{All-contains}
use Rattle.std.proofs.lemmas.List.Sums.{sum_by-cons}
use Rattle.gt_types.specs.declared.program.Program.{Program}
use Rattle.gt_layout.specs.declared.planes.Layouts.{Layouts}
use Rattle.gt_space.specs.declared.TheConstants.{MAX_PAGES}
use Rattle.gt_space.specs.Laws.{IsApart}
use Rattle.gt_pages.specs.Ledger.{AreApart, Block, page_address}
use Rattle.gt_graph.specs.Places.{ledger_of}
use Rattle.gt_graph.specs.Good.{IsGood}
use Rattle.gt_objects.specs.Totals.{bytes_of}
use Rattle.gt_objects.proofs.Filtered.{pairs_mapped, rising_pairs}
use Rattle.gt_objects.proofs.Items.{first_there, later_there, pairs_head, pairs_tail}
use Rattle.gt_next.specs.declared.TheConstants.{MAX_ALLOCATED}
use Rattle.gt_next.specs.declared.answer.Answer.{Answer}
use Rattle.gt_next.specs.States.{State, IsGoodState}
use Rattle.gt_next.specs.Collecting.{Collects, NextCollect, NextForce, allocated}
use Rattle.gt_total.proofs.Kept.{after_good}
use Rattle.gt_total.proofs.Variables.{few_kept}

bytes_first : (b : Block) (blocks : List Block) → bytes_of (b ∷ blocks) ≡ b.size + bytes_of blocks
bytes_first b blocks = sum_by-cons (λ n. n) b.size (map (λ b. b.size) blocks)

-- blocks that rise and share no byte, between two addresses
spread : (low high : ℕ) (blocks : List Block) → AllPairs (λ b c. b.address < c.address) blocks → AreApart blocks → low ≤ high → ((b : Block) → Contains blocks b → (low ≤ b.address) × (b.address + b.size ≤ high))
    → low + bytes_of blocks ≤ high
spread low high [] rise apart room within = omega (arith, room)
spread low high (b ∷ blocks) rise apart room within =
    let here = within b (first_there b blocks) in
    let rest = spread (b.address + b.size) high blocks (pairs_tail (λ b c. b.address < c.address) b blocks rise) apart.1 here.1 (λ c there.
    let its = within c (later_there b blocks c there) in
    let above = All-contains (λ c. b.address < c.address) blocks c (pairs_head (λ b c. b.address < c.address) b blocks rise) there in
    (past b c above (All-contains (λ c. IsApart b.address b.size c.address c.size) blocks c apart.0 there), its.1)) in
    let first = bytes_first b blocks in
    omega (arith, here.0, rest, first)
  where
    past : (b c : Block) → b.address < c.address → IsApart b.address b.size c.address c.size → b.address + b.size ≤ c.address
    past b c above (inl before) = omega (arith, before)
    past b c above (inr following) = absurd (let no : 1 ≤ 0 = omega (arith, above, following) in omega (arith, no))

-- the blocks of a good heap have at most the bytes of the largest space
module _ (program : Program) (layouts : Layouts) (s : State) (good : IsGood program layouts s.heap) where
  few_bytes : s.heap.places.pages ≤ MAX_PAGES → allocated s ≤ MAX_ALLOCATED
  few_bytes pages =
      let rise = pairs_mapped (λ p. p.block) (λ b c. b.address < c.address) s.heap.places.placed (rising_pairs (λ p. p.block.address) s.heap.places.placed good.places.rising) in
      let all = spread 0x10000000 (page_address s.heap.places.pages) (ledger_of s.heap.places).blocks rise good.places.sound.apart (omega arith)
      (λ b there. All-contains (λ b. (0x10000000 ≤ b.address) × (b.address + b.size ≤ page_address s.heap.places.pages)) (ledger_of s.heap.places).blocks b good.places.sound.in_space there) in
      omega (arith, pages, all)

module _ (program : Program) (layouts : Layouts) (s : State) (good : IsGoodState program layouts s) where
  collected_good : (kept freed dropped : ℕ) (t : State) → Collects program s kept freed dropped t → IsGoodState program layouts t
  collected_good kept freed dropped t is =
      let heap = after_good program layouts s.heap t.heap good.heap is.heap in
      let pages : t.heap.places.pages ≡ s.heap.places.pages = ap (λ p. p.pages) is.heap.places in
      let least = good.pages.0 in
      let most = good.pages.1 in
      let bound = few_kept t.heap.graph.objects s.variables t.variables is.variables in
      let few = good.few_variables in
      let expand : t.min_expand ≡ s.min_expand = ap (λ x. x.min_expand) is.rest in
      let size : t.min_heapsize ≡ s.min_heapsize = ap (λ x. x.min_heapsize) is.rest in
      let last : t.last ≡ allocated t = ap (λ x. x.last) is.rest in
      let bytes = few_bytes program layouts t heap (omega (arith, pages, most)) in
      record {
        heap = heap;
        variables = λ name id e. ((is.variables name id).0 e).1;
        few_variables = omega (arith, bound, few);
        pages = (omega (arith, pages, least), omega (arith, pages, most));
        min_expand = let was = good.min_expand in omega (arith, expand, was);
        min_heapsize = let was = good.min_heapsize in omega (arith, size, was);
        last = omega (arith, last, bytes);
      }

  pub force_good : (a : Answer) (t : State) → NextForce program s a t → IsGoodState program layouts t
  force_good a t (NextForce.collects {kept} {freed} {dropped} {t = u} is) = collected_good kept freed dropped u is

  pub collect_good : (a : Answer) (t : State) → NextCollect program s a t → IsGoodState program layouts t
  collect_good a t (NextCollect.skips less) = good
  collect_good a t (NextCollect.collects {answer} {t = u} least next) = force_good answer u next
