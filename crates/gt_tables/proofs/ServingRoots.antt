-- What the walks of roots serve.
use Rattle.std.proofs.Common.{◌≡◌, ◌∙◌, ℕ, zero, suc, ◌+◌, ◌*◌, ◌^◌, ◌≤◌, ◌<◌, Bool, true, false, List, [], ◌∷◌, ◌++◌, length, take, drop, refl, ap, sym, subst, Some, ◌⊎◌, inl, inr, arith}
use Rattle.std.specs.Prelude.{IfSome, All, slice_get}
use Rattle.std.specs.List.{filter}
use Rattle.std.proofs.lemmas.Bool.{cases_lt}
use Rattle.std.proofs.lemmas.List.Elements.{All-head, All-tail}
use Rattle.std.proofs.lemmas.Option.{slice_get_within}
use Rattle.gt_types.specs.declared.program.Root.{Root}
use Rattle.gt_layout.specs.declared.planes.FieldSpot.{FieldSpot}
use Rattle.gt_layout.specs.declared.storages.Storage.{Storage}
use Rattle.gt_layout.specs.declared.storages.Storage.TheVariants.{Bytes, Bits}
use Rattle.gt_layout.specs.Places.{end_of, begin_at, Follow, ends}
use Rattle.gt_layout.specs.Planes.{root_storages}
use Rattle.gt_walk.specs.declared.rows.WalkRow.{WalkRow}
use Rattle.gt_walk.specs.Rows.{rows_of}
use Rattle.gt_edges.specs.Numbers.{first_part}
use Rattle.gt_edges.specs.Edges.{has_walk}
use Rattle.gt_tables.specs.declared.parts.Parts.{Parts}
use Rattle.gt_tables.specs.declared.sources.Source.{Source}
use Rattle.gt_tables.specs.Building.{HaveWalks, Grows, IsSource, ServesRoot, ServesRoots, IsWalkOfRoot}
use Rattle.gt_tables.proofs.Growing.{fewer}
use Rattle.gt_tables.proofs.Keeping.{rows-there}
use Rattle.gt_tables.proofs.Filing.{slice-end}
use Rattle.gt_tables.proofs.Wholes.{count-one}
use Rattle.gt_tables.proofs.Serving.{fewer-on}

-- ---- elements of lists that grow

pub get-front : {X : Type 0} (xs ys : List X) (k : ℕ) → k < length xs → slice_get (xs ++ ys) k ≡ slice_get xs k
get-front [] ys k lt = absurd (omega (arith, lt))
get-front (x ∷ xs) ys zero lt = refl
get-front (x ∷ xs) ys (suc k) lt = get-front xs ys k (omega (arith, lt))

-- an element of a longer list is one of the list, or the last one
pub get-cases : {X : Type 0} (xs : List X) (x y : X) (k : ℕ) → slice_get (xs ++ x ∷ []) k ≡ Some y → (slice_get xs k ≡ Some y) ⊎ ((k ≡ length xs) × (x ≡ y))
get-cases [] x y zero got =
    let same : x ≡ y = cc in
    inr (refl, same)
get-cases [] x y (suc k) got = absurd (cc)
get-cases (z ∷ xs) x y zero got = inl got
get-cases (z ∷ xs) x y (suc k) got = elim (get-cases xs x y k got) [
  | inl h ↦ inl h
  | inr h ↦
      let next : suc k ≡ length (z ∷ xs) = omega (arith, h.0) in
      inr (next, h.1)
]

-- ---- how many roots before a place have walks

pub count-split : (all : List Root) (i : ℕ) → length (filter has_walk (take i all)) + length (filter has_walk (drop i all)) ≡ length (filter has_walk all)
count-split [] zero = refl
count-split [] (suc i) = refl
count-split (r ∷ all) zero = omega arith
count-split (r ∷ all) (suc i) = omega (arith, count-split all i, count-one r (take i all) r.deletable refl, count-one r all r.deletable refl)

-- a root with a walk counts for each later place
pub count-before : (all : List Root) (place i : ℕ) (r : Root) → place < i → slice_get all place ≡ Some r → r.deletable ≡ false → length (filter has_walk (take place all)) < length (filter has_walk (take i all))
count-before all place zero r lt got plain = absurd (omega (arith, lt))
count-before [] place (suc i) r lt got plain = absurd (cc)
count-before (x ∷ all) zero (suc i) r lt got plain =
    let same : x ≡ r = cc in
    let one = count-one x (take i all) false (ap (λ (s : Root). s.deletable) same ∙ plain) in
    omega (arith, one)
count-before (x ∷ all) (suc place) (suc i) r lt got plain =
    let rest = count-before all place i r (omega (arith, lt)) got plain in
    omega (arith, rest, count-one x (take place all) x.deletable refl, count-one x (take i all) x.deletable refl)

-- ---- where roots lie

end-after : (f : Storage) (begin : ℕ) → begin ≤ end_of f begin
end-after (Bytes e) begin = omega arith
end-after (Bits unit count) begin = omega arith

spot-inside : (bound from : ℕ) (fs : List Storage) (ss : List FieldSpot) → Follow from fs ss → All (λ end. end ≤ bound) (ends fs ss) → (i : ℕ) (spot : FieldSpot) → slice_get ss i ≡ Some spot → begin_at spot ≤ bound
spot-inside bound from fs [] follow inside i spot got = absurd (cc)
spot-inside bound from [] (s ∷ ss) follow inside i spot got = absurd follow
spot-inside bound from (f ∷ fs) (s ∷ ss) follow inside zero spot got =
    let same : s ≡ spot = cc in
    let end = All-head (λ (e : ℕ). e ≤ bound) (end_of f (begin_at s)) (ends fs ss) inside in
    subst (λ (x : FieldSpot). begin_at x ≤ bound) same (omega (arith, end, end-after f (begin_at s)))
spot-inside bound from (f ∷ fs) (s ∷ ss) follow inside (suc i) spot got =
    spot-inside bound (end_of f (begin_at s)) fs ss follow.2 (All-tail (λ (e : ℕ). e ≤ bound) (end_of f (begin_at s)) (ends fs ss) inside) i spot got

-- a root lies below 2^32
pub root-below : (source : Source) → IsSource source → (i : ℕ) (spot : FieldSpot) → slice_get source.layouts.now.statics.fields i ≡ Some spot → source.start + spot.offset < 2 ^ 32
root-below source is i spot got =
    let statics = source.layouts.now.statics in
    let begin = spot-inside (8 * statics.size) 0 (root_storages source.layouts.now.structures source.program.now.roots) statics.fields is.laid.statics.places is.laid.statics.size.room.inside i spot got in
    let size : statics.size ≤ 1048576 = is.within.statics in
    let start : source.start ≤ 268435456 = subst (λ n. n ≤ 268435456) (sym is.start) (omega arith) in
    let wide : 8 * spot.offset ≤ 8 * statics.size = omega (arith, begin) in
    omega (arith, size, start, wide)

-- ---- walks of roots

root-more : (source : Source) (a more b : List (List WalkRow)) → b ≡ a ++ more → (r : Root) (address : ℕ) (rows : List WalkRow) → ServesRoot source a r address rows → ServesRoot source b r address rows
root-more source a more b is r address rows s = record {
  line = s.line;
  is = s.is;
  of_root = λ tables h. s.of_root tables (fewer (first_part source.program.now) a more tables (subst (λ ws. HaveWalks (first_part source.program.now) ws tables) is h));
}

-- the walk that is added for a root serves it
pub root-walk-new : (source : Source) (a b : List (List WalkRow)) (rows : List WalkRow) (r : Root) (address walk : ℕ) → b ≡ a ++ rows ∷ [] → walk ≡ first_part source.program.now + length a
    → ServesRoot source a r address rows → IsWalkOfRoot source b r address walk
root-walk-new source a b rows r address walk is number s tables h =
    let first = first_part source.program.now in
    let have = subst (λ ws. HaveWalks first ws tables) is h in
    let late : first ≤ walk = omega (arith, number) in
    (rows, ap (rows_of tables) number ∙ rows-there source.program.now first (a ++ rows ∷ []) 0 rows (length a) (slice-end a rows) tables have, root-more source a (rows ∷ []) b is r address rows s, late)

pub root-walk-on : (source : Source) (a b : Parts) → Grows source.program.now a b → (r : Root) (address walk : ℕ) → IsWalkOfRoot source a.walks.items r address walk → IsWalkOfRoot source b.walks.items r address walk
root-walk-on source a b grows r address walk is tables h =
    let w = is tables (fewer-on source.program.now a b grows tables h) in
    (w.0, w.1, root-more source a.walks.items grows.more b.walks.items grows.walks r address w.0 w.2, w.3)

-- one root more was looked at, which has this address, where its place is known
module _ (source : Source) (source-is : IsSource source) (a b : Parts) (grows : Grows source.program.now a b) (i : ℕ) (old new : List ℕ) (r : Root) (address : ℕ) (here : slice_get source.program.now.roots i ≡ Some r)
    (count : length old + length (filter has_walk (drop i source.program.now.roots)) ≡ length (filter has_walk source.program.now.roots))
    (at : IfSome (slice_get source.layouts.now.statics.fields i) (λ spot. source.start + spot.offset < 2 ^ 32 → address ≡ source.start + spot.offset))
    (serves : r.deletable ≡ false → (walk : ℕ) × (new ≡ old ++ walk ∷ []) × IsWalkOfRoot source b.walks.items r address walk)
    (skips : r.deletable ≡ true → new ≡ old) where
  long : length old ≡ length (filter has_walk (take i source.program.now.roots))
  long = omega (arith, count, count-split source.program.now.roots i)

  -- the walks of earlier roots stay where they are
  kept : (deletable : Bool) → r.deletable ≡ deletable → (k : ℕ) → k < length old → slice_get new k ≡ slice_get old k
  kept true is k lt = ap (λ ws. slice_get ws k) (skips is)
  kept false is k lt =
      let s = serves is in
      ap (λ ws. slice_get ws k) s.1 ∙ get-front old (s.0 ∷ []) k lt

  last : (place walk : ℕ) (q : Root) (spot : FieldSpot) → place ≡ i → slice_get source.program.now.roots place ≡ Some q → q.deletable ≡ false
      → slice_get new (length (filter has_walk (take place source.program.now.roots))) ≡ Some walk → slice_get source.layouts.now.statics.fields place ≡ Some spot
      → IsWalkOfRoot source b.walks.items q (source.start + spot.offset) walk
  last place walk q spot same got plain found where_is =
      let roots = source.program.now.roots in
      let root : Some r ≡ Some q = sym here ∙ ap (slice_get roots) (sym same) ∙ got in
      let root-is : r ≡ q = cc in
      let s = serves (ap (λ (x : Root). x.deletable) root-is ∙ plain) in
      let place-is : slice_get source.layouts.now.statics.fields i ≡ Some spot = ap (slice_get source.layouts.now.statics.fields) (sym same) ∙ where_is in
      let address-is : address ≡ source.start + spot.offset =
      subst (λ o. IfSome o (λ (x : FieldSpot). source.start + x.offset < 2 ^ 32 → address ≡ source.start + x.offset)) place-is at (root-below source source-is i spot place-is) in
      let number : length (filter has_walk (take place roots)) ≡ length old = ap (λ n. length (filter has_walk (take n roots))) same ∙ sym long in
      let there : slice_get (old ++ s.0 ∷ []) (length old) ≡ Some walk = ap (λ ws. slice_get ws (length old)) (sym s.1) ∙ ap (slice_get new) (sym number) ∙ found in
      let walk-is : s.0 ≡ walk = elim (get-cases old s.0 walk (length old) there) [
        | inl h ↦ absurd (omega (arith, slice_get_within old (length old) walk h))
        | inr h ↦ h.1
      ] in
      subst (IsWalkOfRoot source b.walks.items q (source.start + spot.offset)) walk-is
      (subst (λ n. IsWalkOfRoot source b.walks.items q n s.0) address-is (subst (λ x. IsWalkOfRoot source b.walks.items x address s.0) root-is s.2))

  pub roots-step : ServesRoots source a.walks.items i old → ServesRoots source b.walks.items (i + 1) new
  roots-step so = record {
    serves = λ place walk q spot before got plain found where_is. elim (cases_lt place i) [
      | inl lt ↦
          let k = length (filter has_walk (take place source.program.now.roots)) in
          let near = count-before source.program.now.roots place i q lt got plain in
          let was : slice_get old k ≡ Some walk = sym (kept r.deletable refl k (omega (arith, near, long))) ∙ found in
          root-walk-on source a b grows q (source.start + spot.offset) walk (so.serves place walk q spot lt got plain was where_is)
      | inr le ↦
          let same : place ≡ i = omega (arith, before, le) in
          last place walk q spot same got plain found where_is
    ];
  }

pub roots-none : (source : Source) (walks : List (List WalkRow)) (roots : List ℕ) → ServesRoots source walks 0 roots
roots-none source walks roots = record { serves = λ place walk r spot before got plain found where_is. absurd (omega (arith, before)) }

pub roots-all : (source : Source) (walks : List (List WalkRow)) (i n : ℕ) (roots : List ℕ) → n ≤ i → ServesRoots source walks i roots → ServesRoots source walks n roots
roots-all source walks i n roots le so = record {
  serves = λ place walk r spot before got plain found where_is. so.serves place walk r spot (omega (arith, before, le)) got plain found where_is;
}
