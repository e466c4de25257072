-- How many blocks there are of each size, where there is one more, and where some are left out.
use Rattle.std.proofs.Common.{◌≡◌, ℕ, suc, ◌+◌, ◌*◌, ◌<◌, ◌≤◌, ◌==◌, Bool, true, false, cond, List, [], ◌∷◌, ◌++◌, Some, option_map, length, map, set, refl, sym, ap, subst, ◌∙◌, inl, inr, arith}
use Rattle.std.specs.Prelude.{slice_get, AllPairs, Contains}
use Rattle.std.proofs.lemmas.Bool.{cases_Bool, cases_eq, eq-eqb, ne_eqb}
use Rattle.std.proofs.lemmas.List.Elements.{All-contains}
use Rattle.std.proofs.lemmas.List.Sums.{sum_by-cons}
use Rattle.std.proofs.lemmas.Option.{slice_get-map, slice_get_within}
use Rattle.gt_layout.proofs.Laying.{get-set_same, get-set_other}
use Rattle.gt_space.specs.Laws.{IsApart}
use Rattle.gt_pages.specs.Ledger.{AreApart, Block, page_address, sizes}
use Rattle.gt_pages.specs.Slots.{block_of}
use Rattle.gt_pages.specs.Contents.{AreLaidOut, Contents, ledger_of}
use Rattle.gt_pages.proofs.PlaceLemmas.{one_number}
use Rattle.gt_graph.specs.Changes.{Inserts}
use Rattle.gt_objects.specs.declared.totals.Totals.{Totals}
use Rattle.gt_objects.specs.Totals.{AreFew, AreTotals, bytes_of, count_of}
use Rattle.gt_objects.proofs.Filtered.{first_freed, first_kept, pairs_mapped, rising_pairs}
use Rattle.gt_objects.proofs.Items.{first_there, later_there, pairs_head, pairs_tail, there_mapped}
use Rattle.gt_objects.proofs.Listed.{size_bounds}

-- ---- none

pub none_counted : AreTotals (record { counts = map (λ size. 0) sizes; blocks = 0; bytes = 0 }) []
none_counted = record {
  counts = λ i size e. slice_get-map (λ size. 0) sizes i ∙ ap (option_map (λ size. 0)) e;
  many = refl;
  bytes = refl;
}

-- ---- one more

bytes_first : (b : Block) (blocks : List Block) → bytes_of (b ∷ blocks) ≡ b.size + bytes_of blocks
bytes_first b blocks = sum_by-cons (λ n. n) b.size (map (λ b. b.size) blocks)

abbrev one_if : Bool → ℕ
one_if b = cond b 1 0

count_first : (size : ℕ) (b : Block) (blocks : List Block) → count_of size (b ∷ blocks) ≡ one_if (b.size == size) + count_of size blocks
count_first size b blocks = elim (cases_Bool (b.size == size)) as (λ _. count_of size (b ∷ blocks) ≡ one_if (b.size == size) + count_of size blocks) [
  | inl here ↦
      let kept : count_of size (b ∷ blocks) ≡ suc (count_of size blocks) = ap length (first_kept (λ b. b.size == size) b blocks here) in
      let one : one_if (b.size == size) ≡ 1 = ap one_if here in
      omega (arith, kept, one)
  | inr other ↦
      let kept : count_of size (b ∷ blocks) ≡ count_of size blocks = ap length (first_freed (λ b. b.size == size) b blocks other) in
      let none : one_if (b.size == size) ≡ 0 = ap one_if other in
      omega (arith, kept, none)
]

count_more : (size : ℕ) (b : Block) (front back : List Block) → count_of size (front ++ b ∷ back) ≡ one_if (b.size == size) + count_of size (front ++ back)
count_more size b [] back = count_first size b back
count_more size b (a ∷ front) back =
    let rest = count_more size b front back in
    let first = count_first size a (front ++ b ∷ back) in
    let second = count_first size a (front ++ back) in
    omega (arith, rest, first, second)

length_more : (b : Block) (front back : List Block) → length (front ++ b ∷ back) ≡ suc (length (front ++ back))
length_more b [] back = refl
length_more b (a ∷ front) back = ap suc (length_more b front back)

bytes_more : (b : Block) (front back : List Block) → bytes_of (front ++ b ∷ back) ≡ b.size + bytes_of (front ++ back)
bytes_more b [] back = bytes_first b back
bytes_more b (a ∷ front) back =
    let rest = bytes_more b front back in
    let first = bytes_first a (front ++ b ∷ back) in
    let second = bytes_first a (front ++ back) in
    omega (arith, rest, first, second)

pub count_few : (size : ℕ) (blocks : List Block) → count_of size blocks ≤ length blocks
count_few size [] = omega arith
count_few size (b ∷ blocks) =
    let rest = count_few size blocks in
    let first = count_first size b blocks in
    let most = one_most (b.size == size) in
    omega (arith, rest, first, most)
  where
    one_most : (b : Bool) → one_if b ≤ 1
    one_most true = omega arith
    one_most false = omega arith

module _ (totals : Totals) (place size : ℕ) (number : slice_get sizes place ≡ Some size) (b : Block) (blocks others : List Block) (sized : b.size ≡ size) (is : Inserts b blocks others) (were : AreTotals totals blocks) (old : ℕ)
    (counted : old ≡ count_of size blocks) where
  count_all : (other : ℕ) → count_of other others ≡ one_if (b.size == other) + count_of other blocks
  count_all other = ap (count_of other) is.3 ∙ count_more other b is.0 is.1 ∙ ap (λ bs. one_if (b.size == other) + count_of other bs) (sym is.2)

  some_same : (x y : ℕ) → Some x ≡ Some y → x ≡ y
  some_same x y e = cc

  count_at : (i other : ℕ) → slice_get sizes i ≡ Some other → slice_get (set totals.counts place (old + 1)) i ≡ Some (count_of other others)
  count_at i other at = elim (cases_eq i place) as (λ _. slice_get (set totals.counts place (old + 1)) i ≡ Some (count_of other others)) [
    | inl same ↦
        let its : size ≡ other = some_same size other (sym number ∙ ap (slice_get sizes) (sym same) ∙ at) in
        let one : one_if (b.size == other) ≡ 1 = ap one_if (eq-eqb b.size other (sized ∙ its)) in
        let all = count_all other in
        let before : count_of size blocks ≡ count_of other blocks = ap (λ n. count_of n blocks) its in
        let now : old + 1 ≡ count_of other others = omega (arith, all, one, counted, before) in
        ap (slice_get (set totals.counts place (old + 1))) same
        ∙ get-set_same totals.counts place (old + 1) (slice_get_within totals.counts place (count_of size blocks) (were.counts place size number))
        ∙ ap (λ n. Some n) now
    | inr apart ↦
        let differ : b.size ≡ other → ⊥ = λ e. apart (one_number i place other at (number ∙ ap (λ n. Some n) (sym sized ∙ e))) in
        let none : one_if (b.size == other) ≡ 0 = ap one_if (ne_eqb b.size other differ) in
        let all = count_all other in
        let now : count_of other blocks ≡ count_of other others = omega (arith, all, none) in
        get-set_other totals.counts place i (old + 1) apart ∙ were.counts i other at ∙ ap (λ n. Some n) now
  ]

  pub one_counted : AreTotals (record { counts = set totals.counts place (old + 1); blocks = totals.blocks + 1; bytes = totals.bytes + size }) others
  one_counted =
      let long : length others ≡ suc (length blocks) = ap length is.3 ∙ length_more b is.0 is.1 ∙ ap (λ bs. suc (length bs)) (sym is.2) in
      let bytes : bytes_of others ≡ b.size + bytes_of blocks = ap bytes_of is.3 ∙ bytes_more b is.0 is.1 ∙ ap (λ bs. b.size + bytes_of bs) (sym is.2) in
      record {
        counts = count_at;
        many = let were_many = were.many in omega (arith, long, were_many);
        bytes = let were_bytes = were.bytes in omega (arith, bytes, were_bytes, sized);
      }

-- ---- in a space they are few

-- blocks that rise and share no byte, between two addresses
spread : (low high : ℕ) (blocks : List Block) → AllPairs (λ b c. b.address < c.address) blocks → AreApart blocks → low ≤ high → ((b : Block) → Contains blocks b → (low ≤ b.address) × (b.address + b.size ≤ high))
    → low + bytes_of blocks ≤ high
spread low high [] rise apart room within = omega (arith, room)
spread low high (b ∷ blocks) rise apart room within =
    let here = within b (first_there b blocks) in
    let rest = spread (b.address + b.size) high blocks (pairs_tail (λ b c. b.address < c.address) b blocks rise) apart.1 here.1 (λ c there.
    let its = within c (later_there b blocks c there) in
    let above = All-contains (λ c. b.address < c.address) blocks c (pairs_head (λ b c. b.address < c.address) b blocks rise) there in
    (after b c above (All-contains (λ c. IsApart b.address b.size c.address c.size) blocks c apart.0 there), its.1)) in
    let first = bytes_first b blocks in
    omega (arith, here.0, rest, first)
  where
    after : (b c : Block) → b.address < c.address → IsApart b.address b.size c.address c.size → b.address + b.size ≤ c.address
    after b c above (inl before) = omega (arith, before)
    after b c above (inr following) = absurd (let no : 1 ≤ 0 = omega (arith, above, following) in omega (arith, no))

eight_each : (blocks : List Block) → ((b : Block) → Contains blocks b → 8 ≤ b.size) → 8 * length blocks ≤ bytes_of blocks
eight_each [] large = omega arith
eight_each (b ∷ blocks) large =
    let rest = eight_each blocks (λ c there. large c (later_there b blocks c there)) in
    let here = large b (first_there b blocks) in
    let first = bytes_first b blocks in
    omega (arith, rest, here, first)

pub slots_rise : (c : Contents) → AreLaidOut c → AllPairs (λ s t. s.address < t.address) c.slots
slots_rise c laid = rising_pairs (λ s. s.address) c.slots laid.rising

pub few_blocks : (c : Contents) → AreLaidOut c → AreFew (map block_of c.slots)
few_blocks c laid =
    let pages = laid.at_most in
    let all = spread 0x10000000 (page_address c.pages) (map block_of c.slots) (pairs_mapped block_of (λ b c. b.address < c.address) c.slots (slots_rise c laid)) laid.sound.apart (omega arith)
    (λ b there. All-contains (λ b. (0x10000000 ≤ b.address) × (b.address + b.size ≤ page_address c.pages)) (ledger_of c).blocks b laid.sound.in_space there) in
    let eight = eight_each (map block_of c.slots) (λ b there.
    let s = there_mapped block_of c.slots b there in
    subst (λ b. 8 ≤ b.size) s.2 (size_bounds s.0.size (laid.listed s.0 s.1)).0) in
    record { many = omega (arith, pages, all, eight); bytes = omega (arith, pages, all) }
