-- Where there is room for a block, there is a place for it.
use Rattle.std.proofs.Common.{◌≡◌, ℕ, zero, suc, ◌+◌, ◌-◌, ◌*◌, ◌%◌, ◌<◌, ◌≤◌, List, [], ◌∷◌, ◌++◌, refl, ap, sym, subst, ◌∙◌, ◌⊎◌, inl, inr, arith}
use Rattle.std.specs.Prelude.{All, Contains}
use Rattle.std.proofs.lemmas.Bool.{cases_lt, cases_order}
use Rattle.std.proofs.lemmas.Nat.{mod-mul-add}
use Rattle.std.proofs.lemmas.List.Elements.{All-contains}
use Rattle.gt_space.specs.Laws.{IsApart}
use Rattle.gt_pages.specs.Ledger.{AreApart, AreFree, Block, HasFreePlace, HasSharedPage, IsImagePage, IsInPlace, IsOffPage, Ledger, LiesInside, LiesOutside, Place, Room, Sound, offset_of, page_address, page_of, pages_of, with_block}
use Rattle.gt_graph.specs.Changes.{Inserts}
use Rattle.gt_objects.proofs.Inserted.{all_inserted, inserted, new_cases}
use Rattle.gt_objects.proofs.Items.{all_by, first_there, later_there}
use Rattle.gt_total.proofs.Splits.{split}

-- ---- pages

-- an address so far from the start of a page lies in it
page_at : (page far : ℕ) → far < 4096 → page_of (page_address page + far) ≡ page
page_at page far low = omega (arith, low)

offset_at : (page far : ℕ) → far < 4096 → offset_of (page_address page + far) ≡ far
offset_at page far low = omega (arith, low)

-- an address lies in its page
in_page : (address : ℕ) → 0x10000000 ≤ address → (page_address (page_of address) ≤ address) × (address < page_address (page_of address) + 4096)
in_page address low = (omega (arith, low), omega (arith, low))

-- a block is not off the page in which it starts
not_off : (address size page : ℕ) → 0x10000000 ≤ address → 8 ≤ size → page_of address ≡ page → ¬ IsOffPage address size page
not_off address size page low large is (inl before) = let at = in_page address low in let same = ap (λ p. page_address p) is in omega (arith, at.0, same, before, large)
not_off address size page low large is (inr following) = let at = in_page address low in let same = ap (λ p. page_address p) is in omega (arith, at.1, same, following)

-- ---- one block more

apart_turned : (b c : Block) → IsApart b.address b.size c.address c.size → IsApart c.address c.size b.address b.size
apart_turned b c (inl before) = inr before
apart_turned b c (inr following) = inl following

apart_between : (b : Block) (front back : List Block) → AreApart (front ++ back) → ((c : Block) → Contains (front ++ back) c → IsApart b.address b.size c.address c.size) → AreApart (front ++ b ∷ back)
apart_between b [] back apart each = (all_by (λ c. IsApart b.address b.size c.address c.size) back each, apart)
apart_between b (a ∷ front) back apart each = (
  all_inserted b (front ++ back) (front ++ b ∷ back) (front, back, refl, refl) (λ c. IsApart a.address a.size c.address c.size)
      (apart_turned b a (each a (first_there a (front ++ back)))) apart.0,
  apart_between b front back apart.1 (λ c there. each c (later_there a (front ++ back) c there)),
)

-- what a new block must be so that the ledger stays sound
record IsFresh (ledger : Ledger) (b : Block) : Type 0 where
  in_space : (0x10000000 ≤ b.address) × (b.address + b.size ≤ page_address ledger.pages)
  apart : (c : Block) → Contains ledger.blocks c → IsApart b.address b.size c.address c.size
  outside : LiesOutside ledger b.address b.size
  small : b.size ≤ 4096 → (offset_of b.address % b.size ≡ 0) × (offset_of b.address + b.size ≤ 4096)
  alike : b.size ≤ 4096 → (c : Block) → Contains ledger.blocks c → (c.size ≡ b.size) ⊎ IsOffPage c.address c.size (page_of b.address)
  large : 4096 < b.size → offset_of b.address ≡ 0
  others : (c : Block) → Contains ledger.blocks c → IsInPlace ledger c → c.size ≤ 4096 → (b.size ≡ c.size) ⊎ IsOffPage b.address b.size (page_of c.address)

module _ (ledger : Ledger) (sound : Sound ledger) (b : Block) (fresh : IsFresh ledger b) where
  abbrev more : Ledger
  more = with_block ledger b

  abbrev is : Inserts b ledger.blocks more.blocks
  is = inserted (λ b. b.address) b ledger.blocks

  all_more : (P : Block → Type 0) → P b → All P ledger.blocks → All P more.blocks
  all_more P here all = all_inserted b ledger.blocks more.blocks is P here all

  still_placed : (c : Block) → Contains ledger.blocks c → IsInPlace ledger c → IsInPlace more c
  still_placed c there was = record {
    small = was.small;
    alike = λ small. all_more (λ d. (d.size ≡ c.size) ⊎ IsOffPage d.address d.size (page_of c.address)) (fresh.others c there was small) (was.alike small);
    large = was.large;
  }

  new_placed : IsInPlace more b
  new_placed = record {
    small = fresh.small;
    alike = λ small. all_more (λ d. (d.size ≡ b.size) ⊎ IsOffPage d.address d.size (page_of b.address)) (inl refl)
        (all_by (λ d. (d.size ≡ b.size) ⊎ IsOffPage d.address d.size (page_of b.address)) ledger.blocks (fresh.alike small));
    large = fresh.large;
  }

  still_sound : Sound more
  still_sound = record {
    in_space = all_more (λ c. (0x10000000 ≤ c.address) × (c.address + c.size ≤ page_address ledger.pages)) fresh.in_space sound.in_space;
    apart = subst AreApart (sym is.3) (apart_between b is.0 is.1 (subst AreApart is.2 sound.apart) (λ c there. fresh.apart c (subst (λ bs. Contains bs c) (sym is.2) there)));
    sides = all_more (λ c. LiesInside ledger c.address c.size ⊎ LiesOutside ledger c.address c.size) (inr fresh.outside) sound.sides;
    places = all_by (λ c. LiesOutside more c.address c.size → IsInPlace more c) more.blocks (λ c there out. elim (new_cases b ledger.blocks more.blocks is c there) as (λ _. IsInPlace more c) [
      | inl same ↦ subst (IsInPlace more) same new_placed
      | inr before ↦ still_placed c before (All-contains (λ c. LiesOutside ledger c.address c.size → IsInPlace ledger c) ledger.blocks c sound.places before out)
    ]);
  }

-- ---- places

-- a place for a block of a size
abbrev pub SomePlace : Ledger → ℕ → Type 0
SomePlace ledger size = (address : ℕ) × Place ledger (record { address = address; size = size })

module _ (ledger : Ledger) (sound : Sound ledger) (large : (c : Block) → Contains ledger.blocks c → 8 ≤ c.size) (size : ℕ) (some : 8 ≤ size) where
  from_start : (c : Block) → Contains ledger.blocks c → 0x10000000 ≤ c.address
  from_start c there = (All-contains (λ c. (0x10000000 ≤ c.address) × (c.address + c.size ≤ page_address ledger.pages)) ledger.blocks c sound.in_space there).0

  -- ---- in a page of this size

  module _ (page : ℕ) (has : HasFreePlace ledger size page) where
    abbrev far : ℕ
    far = size * has.free.0

    abbrev at : Block
    at = record { address = page_address page + far; size = size }

    low : far < 4096
    low = let fits = has.free.1 in omega (arith, fits, some)

    is_page : page_of at.address ≡ page
    is_page = page_at page far low

    abbrev held : Block
    held = has.holds.0

    -- the block of this size in the page is outside the image, since the page is
    held_outside : (LiesInside ledger held.address held.size ⊎ LiesOutside ledger held.address held.size) → LiesOutside ledger held.address held.size
    held_outside (inr out) = out
    held_outside (inl inside) =
        let in_its = in_page held.address (from_start held has.holds.1) in
        let big = large held has.holds.1 in
        let same = ap (λ p. page_address p) has.holds.3 in
        absurd (has.outside (omega (arith, inside.0, in_its.1, same), omega (arith, inside.1, in_its.0, same, big)))

    held_placed : IsInPlace ledger held
    held_placed =
        All-contains (λ c. LiesOutside ledger c.address c.size → IsInPlace ledger c) ledger.blocks held sound.places has.holds.1
        (held_outside (All-contains (λ c. LiesInside ledger c.address c.size ⊎ LiesOutside ledger c.address c.size) ledger.blocks held sound.sides has.holds.1))

    -- the other blocks of the page have this size
    page_alike : (c : Block) → Contains ledger.blocks c → (c.size ≡ size) ⊎ IsOffPage c.address c.size page
    page_alike c there =
        let small = has.small in
        let same = has.holds.2 in
        elim (All-contains (λ c. (c.size ≡ held.size) ⊎ IsOffPage c.address c.size (page_of held.address)) ledger.blocks c (held_placed.alike (omega (arith, small, same))) there) as (λ _. (c.size ≡ size) ⊎ IsOffPage c.address c.size page) [
          | inl alike ↦ inl (alike ∙ same)
          | inr off ↦ inr (subst (λ p. IsOffPage c.address c.size p) has.holds.3 off)
        ]

    shared_others : (c : Block) → Contains ledger.blocks c → (size ≡ c.size) ⊎ IsOffPage at.address size (page_of c.address)
    shared_others c there = elim (cases_order (page_of c.address) page) as (λ _. (size ≡ c.size) ⊎ IsOffPage at.address size (page_of c.address)) [
      | inl same ↦ elim (page_alike c there) as (λ _. (size ≡ c.size) ⊎ IsOffPage at.address size (page_of c.address)) [
        | inl alike ↦ inl (sym alike)
        | inr off ↦ absurd (not_off c.address c.size page (from_start c there) (large c there) same off)
      ]
      | inr apart ↦ inr (off_other (page_of c.address) apart)
    ]
      where
        off_other : (q : ℕ) → ((q < page) ⊎ (page < q)) → IsOffPage at.address size q
        off_other q (inl before) = inr (omega (arith, before))
        off_other q (inr after) = inl (let fits = has.free.1 in omega (arith, after, fits))

    shared_outside : LiesOutside ledger at.address size
    shared_outside q of = elim (cases_order q page) as (λ _. IsOffPage at.address size q) [
      | inl same ↦ absurd (has.outside (subst (λ p. IsImagePage ledger p) same of))
      | inr (inl before) ↦ inr (omega (arith, before))
      | inr (inr after) ↦ inl (let fits = has.free.1 in omega (arith, after, fits))
    ]

    shared_fresh : IsFresh ledger at
    shared_fresh =
        let fits = has.free.1 in
        let space = has.in_space in
        record {
          in_space = (omega arith, omega (arith, fits, space));
          apart = λ c there. All-contains (λ c. IsApart (page_address page + size * has.free.0) size c.address c.size) ledger.blocks c has.free.2 there;
          outside = shared_outside;
          small = λ small. (ap (λ n. n % size) (offset_at page far low) ∙ no_rest size has.free.0 some, let is = offset_at page far low in omega (arith, is, fits));
          alike = λ small c there. subst (λ p. (c.size ≡ size) ⊎ IsOffPage c.address c.size p) (sym is_page) (page_alike c there);
          large = λ over. absurd (let small = has.small in omega (arith, over, small));
          others = λ c there was small. shared_others c there;
        }
      where
        no_rest : (n k : ℕ) → 8 ≤ n → (n * k) % n ≡ 0
        no_rest n k large = let e : n * k ≡ k * n + 0 = omega arith in ap (λ m. m % n) e ∙ mod-mul-add k n 0 (omega (arith, large))

    shared_place : SomePlace ledger size
    shared_place = (
      at.address,
      record {
        outside = shared_outside;
        sound = still_sound ledger sound at shared_fresh;
        shares = λ shared. subst (HasFreePlace ledger size) (sym is_page) has;
        opens = λ none. absurd (none (page, has));
      },
    )

  -- ---- in pages of its own

  module _ (none : ¬ HasSharedPage ledger size) (page : ℕ) (free : AreFree ledger page (pages_of size)) (least : (other : ℕ) → AreFree ledger other (pages_of size) → page ≤ other) where
    abbrev own : Block
    own = record { address = page_address page; size = size }

    enough : size ≤ 4096 * pages_of size
    enough = omega arith

    some_pages : 1 ≤ pages_of size
    some_pages = omega (arith, some)

    own_page : page_of own.address ≡ page
    own_page = omega arith

    own_offset : offset_of own.address ≡ 0
    own_offset = omega arith

    -- a block that is off each of some pages lies before or after them
    off_all : (c : Block) → 8 ≤ c.size → (count : ℕ) → ((q : ℕ) → page ≤ q → q < page + suc count → IsOffPage c.address c.size q)
        → (c.address + c.size ≤ page_address page) ⊎ (page_address (page + suc count) ≤ c.address)
    off_all c big zero off = elim (off page (omega arith) (omega arith)) as (λ _. (c.address + c.size ≤ page_address page) ⊎ (page_address (page + 1) ≤ c.address)) [
      | inl before ↦ inl before
      | inr following ↦ inr (omega (arith, following))
    ]
    off_all c big (suc count) off = elim (off_all c big count (λ q from to. off q from (omega (arith, to)))) as (λ _. (c.address + c.size ≤ page_address page) ⊎ (page_address (page + suc (suc count)) ≤ c.address)) [
      | inl before ↦ inl before
      | inr following ↦ elim (off (page + suc count) (omega arith) (omega arith)) as (λ _. (c.address + c.size ≤ page_address page) ⊎ (page_address (page + suc (suc count)) ≤ c.address)) [
        | inl over ↦ absurd (omega (arith, following, over, big))
        | inr past ↦ inr (omega (arith, past))
      ]
    ]

    off_page : (c : Block) → Contains ledger.blocks c → (q : ℕ) → page ≤ q → q < page + pages_of size → IsOffPage c.address c.size q
    off_page c there q from to = All-contains (λ c. IsOffPage c.address c.size q) ledger.blocks c (free.each q from to).1 there

    own_apart : (c : Block) → Contains ledger.blocks c → IsApart own.address size c.address c.size
    own_apart c there = elim (off_all c (large c there) (pages_of size - 1) (λ q from to. off_page c there q from (omega (arith, to, some_pages)))) as (λ _. IsApart own.address size c.address c.size) [
      | inl before ↦ inr before
      | inr following ↦ inl (omega (arith, following, enough, some_pages))
    ]

    off_other : (q : ℕ) → ((page ≤ q) → (q < page + pages_of size) → ⊥) → IsOffPage own.address size q
    off_other q out = elim (cases_lt q page) as (λ _. IsOffPage own.address size q) [
      | inl before ↦ inr (omega (arith, before))
      | inr from ↦ elim (cases_lt q (page + pages_of size)) as (λ _. IsOffPage own.address size q) [
        | inl to ↦ absurd (out from to)
        | inr past ↦ inl (omega (arith, past, enough))
      ]
    ]

    own_outside : LiesOutside ledger own.address size
    own_outside q of = off_other q (λ from to. (free.each q from to).0 of)

    own_fresh : IsFresh ledger own
    own_fresh =
        let space = free.in_space in
        record {
          in_space = (omega arith, omega (arith, space, enough));
          apart = own_apart;
          outside = own_outside;
          small = λ small. (ap (λ n. n % size) own_offset ∙ nothing_left size some, let is = own_offset in omega (arith, is, small));
          alike = λ small c there. inr (subst (λ p. IsOffPage c.address c.size p) (sym own_page) (off_page c there page (omega arith) (omega (arith, some_pages))));
          large = λ over. own_offset;
          others = λ c there was small. inr (off_other (page_of c.address) (λ from to. not_off c.address c.size (page_of c.address) (from_start c there) (large c there) refl (off_page c there (page_of c.address) from to)));
        }
      where
        nothing_left : (n : ℕ) → 8 ≤ n → 0 % n ≡ 0
        nothing_left n large = let e : 0 ≡ 0 * n + 0 = omega arith in ap (λ m. m % n) e ∙ mod-mul-add 0 n 0 (omega (arith, large))

    own_place : SomePlace ledger size
    own_place = (
      own.address,
      record {
        outside = own_outside;
        sound = still_sound ledger sound own own_fresh;
        shares = λ shared. absurd (none shared);
        opens = λ never. (subst (λ p. AreFree ledger p (pages_of size)) (sym own_page) free, λ other also. subst (λ p. p ≤ other) (sym own_page) (least other also));
      },
    )

  -- among pages that are free there are the first ones
  first_free : {C : Type 0} (fuel page : ℕ) → page < fuel → AreFree ledger page (pages_of size)
      → ((first : ℕ) → AreFree ledger first (pages_of size) → ((other : ℕ) → AreFree ledger other (pages_of size) → first ≤ other) → ¬ C) → ¬ C
  first_free zero page within free on = absurd (omega (arith, within))
  first_free (suc fuel) page within free on = split {P = (q : ℕ) × (q < page) × AreFree ledger q (pages_of size)}
      (λ lower. let below = lower.1 in first_free fuel lower.0 (omega (arith, below, within)) lower.2 on)
      (λ none. on page free (λ other also. elim (cases_lt other page) as (λ _. page ≤ other) [ inl below ↦ absurd (none (other, below, also)) | inr least ↦ least ]))

  pub some_place : {C : Type 0} → Room ledger size → (SomePlace ledger size → ¬ C) → ¬ C
  some_place {C} room on = split {P = HasSharedPage ledger size}
      (λ shared. on (shared_place shared.0 shared.1))
      (λ none. elim room as (λ _. ¬ C) [
        | inl shared ↦ absurd (none shared)
        | inr free ↦ first_free (suc free.0) free.0 (omega arith) free.1 (λ first are least. on (own_place none first are least))
      ])
