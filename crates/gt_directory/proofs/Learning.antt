-- What a directory knows after something is put.
use Rattle.std.proofs.Common.{◌≡◌, ◌≢◌, ◌∙◌, ℕ, zero, suc, ◌+◌, ◌*◌, ◌/◌, ◌<◌, ◌≤◌, ◌⊎◌, cond, List, [], ◌∷◌, length, Some, None, refl, sym, ap, subst, arith, inl, inr, get_or}
use Rattle.std.proofs.lemmas.Option.{slice_get_read}
use Rattle.std.specs.Prelude.{slice_get, slice_set, option_and_then}
use Rattle.std.proofs.Math.Nat.{div-mul-le_self, mul-le-mul_left}
use Rattle.std.proofs.lemmas.Nat.{le-div}
use Rattle.std.proofs.lemmas.Bool.{cases_eq, eq-eqb, ne_eqb}
use Rattle.gt_directory.specs.Directories.{Contents, IsFor, fitting, IsBlock, Learns, AreTold, known_at, on_shelf, offset_of, page_of, place_of, places_of}

-- ---- one place of a list

get_same : {X : Type 0} (xs : List X) (i : ℕ) (x : X) → i < length xs → slice_get (slice_set xs i x) i ≡ Some x
get_same [] i x l = absurd (omega (arith, l))
get_same (y ∷ xs) zero x l = refl
get_same (y ∷ xs) (suc i) x l = get_same xs i x (omega (arith, l))

get_other : {X : Type 0} (xs : List X) (i j : ℕ) (x : X) → i ≢ j → slice_get (slice_set xs i x) j ≡ slice_get xs j
get_other [] i j x ne = refl
get_other (y ∷ xs) zero zero x ne = absurd (ne refl)
get_other (y ∷ xs) zero (suc j) x ne = refl
get_other (y ∷ xs) (suc i) zero x ne = refl
get_other (y ∷ xs) (suc i) (suc j) x ne = get_other xs i j x (λ e. ne (ap suc e))

pub length_set : {X : Type 0} (xs : List X) (i : ℕ) (x : X) → length (slice_set xs i x) ≡ length xs
length_set [] i x = refl
length_set (y ∷ xs) zero x = refl
length_set (y ∷ xs) (suc i) x = ap suc (length_set xs i x)

-- ---- places of a page

pub place_low : (address size : ℕ) → 8 ≤ size → place_of address size < places_of size
place_low address size large =
    let below : offset_of address ≤ 4095 = omega arith in
    let part = div-mul-le_self (offset_of address) size in
    let most = le-div (place_of address size) 4095 size (omega (arith, large)) (omega (arith, part, below)) in
    omega (arith, most)

-- a block that lies above another in one page stands later
place_later : (address other size : ℕ) → 8 ≤ size → 0x10000000 ≤ address → page_of address ≡ page_of other → address + size ≤ other → place_of address size < place_of other size
place_later address other size large above same ends =
    let far : offset_of address + size ≤ offset_of other = omega (arith, above, same, ends) in
    let part = div-mul-le_self (offset_of address) size in
    let next : suc (place_of address size) * size ≡ place_of address size * size + size = omega arith in
    let most = le-div (suc (place_of address size)) (offset_of other) size (omega (arith, large)) (omega (arith, part, next, far)) in
    omega (arith, most)

place_apart : (address other size : ℕ) → 8 ≤ size → 0x10000000 ≤ address → 0x10000000 ≤ other → page_of address ≡ page_of other
    → (address + size ≤ other) ⊎ (other + size ≤ address) → place_of address size ≢ place_of other size
place_apart address other size large above above_other same (inl ends) e =
    let later = place_later address other size large above same ends in
    absurd (omega (arith, later, e))
place_apart address other size large above above_other same (inr ends) e =
    let later = place_later other address size large above_other (sym same) ends in
    absurd (omega (arith, later, e))

-- ---- shelves

on_own : {T : Type 0} (address size : ℕ) (shelf : List T) → IsFor size shelf → on_shelf address size shelf ≡ slice_get shelf (place_of address size)
on_own address size shelf is = ap (λ b. cond b (slice_get shelf (place_of address size)) None) (eq-eqb (length shelf) (places_of size) is)

on_none : {T : Type 0} (address size : ℕ) (shelf : List T) → (IsFor size shelf → ⊥) → on_shelf address size shelf ≡ None
on_none address size shelf is_not = ap (λ b. cond b (slice_get shelf (place_of address size)) None) (ne_eqb (length shelf) (places_of size) is_not)

none_some : {T : Type 0} (x : T) → None ≡ Some x → ⊥
none_some x e = absurd (cc)

module _ {T : Type 0} (old : Contents T) (address size : ℕ) (thing : T) (shelf spare : List T) (spares : List (List T))
    (block : IsBlock (length old.shelves) address size) (there : slice_get old.shelves (page_of address) ≡ Some shelf)
    (good : IsFor size spare) where
  abbrev fit : List T
  fit = fitting (places_of size) shelf spare

  kept : IsFor size shelf → fit ≡ shelf
  kept is = ap (λ b. cond b shelf spare) (eq-eqb (length shelf) (places_of size) is)

  fits : IsFor size fit
  fits = elim (cases_eq (length shelf) (places_of size)) as (λ _. IsFor size fit) [
    | inl is ↦ ap length (kept is) ∙ is
    | inr is_not ↦ ap (λ b. length (cond b shelf spare)) (ne_eqb (length shelf) (places_of size) is_not) ∙ good
  ]

  abbrev new_shelf : List T
  new_shelf = slice_set fit (place_of address size) thing

  abbrev pub new : Contents T
  new = record { shelves = slice_set old.shelves (page_of address) new_shelf; spares = spares }

  new_fits : IsFor size new_shelf
  new_fits = length_set fit (place_of address size) thing ∙ fits

  low : place_of address size < length fit
  low = omega (arith, place_low address size block.large, fits)

  known : known_at new address size ≡ Some thing
  known =
      ap (option_and_then (on_shelf address size)) (get_same old.shelves (page_of address) new_shelf block.in_space)
      ∙ on_own address size new_shelf new_fits
      ∙ get_same fit (place_of address size) thing low

  elsewhere : (other other_size : ℕ) (x : T) → page_of address ≢ page_of other → known_at old other other_size ≡ Some x → known_at new other other_size ≡ Some x
  elsewhere other other_size x apart knew =
      ap (option_and_then (on_shelf other other_size)) (get_other old.shelves (page_of address) (page_of other) new_shelf apart) ∙ knew

  beside : (other : ℕ) (x : T) → 0x10000000 ≤ other → page_of address ≡ page_of other → (address + size ≤ other) ⊎ (other + size ≤ address)
      → known_at old other size ≡ Some x → known_at new other size ≡ Some x
  beside other x above same apart knew =
      let here : slice_get old.shelves (page_of other) ≡ Some shelf = subst (λ page. slice_get old.shelves page ≡ Some shelf) same there in
      let said : on_shelf other size shelf ≡ Some x = ap (option_and_then (on_shelf other size)) (sym here) ∙ knew in
      let now : slice_get new.shelves (page_of other) ≡ Some new_shelf =
      subst (λ page. slice_get new.shelves page ≡ Some new_shelf) same (get_same old.shelves (page_of address) new_shelf block.in_space) in
      elim (cases_eq (length shelf) (places_of size)) as (λ _. known_at new other size ≡ Some x) [
        | inl is ↦
            ap (option_and_then (on_shelf other size)) now
            ∙ on_own other size new_shelf new_fits
            ∙ get_other fit (place_of address size) (place_of other size) thing (place_apart address other size block.large block.above above same apart)
            ∙ ap (λ (xs : List T). slice_get xs (place_of other size)) (kept is)
            ∙ sym (on_own other size shelf is) ∙ said
        | inr is_not ↦ absurd (none_some x (sym (on_none other size shelf is_not) ∙ said))
      ]

  others : (other other_size : ℕ) (x : T) → 8 ≤ other_size → 0x10000000 ≤ other → AreTold address size other other_size
      → known_at old other other_size ≡ Some x → known_at new other other_size ≡ Some x
  others other other_size x large above (inl apart) knew = elsewhere other other_size x apart knew
  others other other_size x large above (inr (alike, apart)) knew =
      elim (cases_eq (page_of address) (page_of other)) as (λ _. known_at new other other_size ≡ Some x) [
        | inl same ↦
            subst (λ n. known_at new other n ≡ Some x) (sym alike) (beside other x above same apart (subst (λ n. known_at old other n ≡ Some x) alike knew))
        | inr differs ↦ elsewhere other other_size x differs knew
      ]

  pub learns : Learns old address size thing new
  learns = record { known = known; others = others }

-- no more than 512 blocks may start in a page
pub places_few : (size : ℕ) → 8 ≤ size → places_of size < 513
places_few size large =
    let part = div-mul-le_self 4095 size in
    let less = mul-le-mul_left {m = 8} {n = size} (4095 / size) large in
    omega (arith, part, less)

-- the same, where each part is only equal to what it is
pub learned : {T : Type 0} (old new : Contents T) (address size : ℕ) (thing : T) (page places place : ℕ) (shelf spare made : List T)
    → IsBlock (length old.shelves) address size → page ≡ page_of address → places ≡ places_of size → place ≡ place_of address size
    → shelf ≡ get_or old.shelves page shelf → length spare ≡ places → made ≡ slice_set (fitting places shelf spare) place thing
    → new.shelves ≡ slice_set old.shelves page made → Learns old address size thing new
learned {T} old new address size thing page places place shelf spare made block at_page of_places at_place was good is now =
    let there : slice_get old.shelves (page_of address) ≡ Some shelf =
    slice_get_read old.shelves (length old.shelves) (page_of address) shelf refl block.in_space (subst (λ n. shelf ≡ get_or old.shelves n shelf) at_page was) in
    let made_is : made ≡ slice_set (fitting (places_of size) shelf spare) (place_of address size) thing =
    is ∙ ap (λ n. slice_set (fitting n shelf spare) place thing) of_places ∙ ap (λ n. slice_set (fitting (places_of size) shelf spare) n thing) at_place in
    let shelves_are = now ∙ ap (λ n. slice_set old.shelves n made) at_page ∙ ap (λ (xs : List T). slice_set old.shelves (page_of address) xs) made_is in
    subst (λ (s : List (List T)). Learns old address size thing (record { shelves = s; spares = new.spares })) (sym shelves_are)
    (learns old address size thing shelf spare new.spares block there (good ∙ of_places))
