-- The pointers of deletable roots lie in the static record.
use Rattle.std.proofs.Common.{◌≡◌, ◌∙◌, ℕ, zero, suc, ◌+◌, ◌*◌, ◌/◌, ◌<◌, ◌≤◌, ◌^◌, true, false, IsTrue, Some, List, [], ◌∷◌, ◌++◌, length, take, refl, ap, sym, subst, arith}
use Rattle.std.specs.Prelude.{Contains, IfSome, slice_get}
use Rattle.std.specs.Option.{option_map}
use Rattle.std.proofs.lemmas.List.{append-nil}
use Rattle.std.proofs.lemmas.List.Elements.{All-contains}
use Rattle.std.proofs.lemmas.List.FromFn.{map-range_with_len_more}
use Rattle.std.proofs.lemmas.Option.{slice_get-map, slice_get_within, get_or_from_slice_get, same_Some}
use Rattle.gt_types.specs.declared.types.Ty.{Ty}
use Rattle.gt_types.specs.declared.types.Ty.TheVariants as ty
use Rattle.gt_types.specs.declared.types.Ty.TheVariants.{outs-Bits}
use Rattle.gt_types.specs.declared.program.Root.{Root}
use Rattle.gt_types.specs.declared.program.Program.{Program}
use Rattle.gt_types.specs.Shapes.{is_root_type, root_type_at}
use Rattle.gt_types.specs.Settled.{Settled, IsRoot}
use Rattle.gt_layout.specs.declared.planes.Plane.{Plane}
use Rattle.gt_layout.specs.declared.planes.FieldSpot.{FieldSpot}
use Rattle.gt_layout.specs.declared.planes.Layouts.{Layouts}
use Rattle.gt_layout.specs.declared.storages.Storage.TheVariants.{Bytes}
use Rattle.gt_layout.specs.Storages.{extent_of, storage_of}
use Rattle.gt_layout.specs.Places.{begin_at, end_at}
use Rattle.gt_layout.specs.Planes.{IsLaidOut, root_storages}
use Rattle.gt_layout.specs.Excess.{IsWithin}
use Rattle.gt_space.specs.Range.{statics_start}
use Rattle.gt_tree.specs.LeafLaws.{IsTypeIn}
use Rattle.gt_edges.specs.Deletable.{deletable_words, words_from, words_if}
use Rattle.gt_tables.specs.RootWords.{words_of}
use Rattle.gt_tables.proofs.ChainOffsets.{lie-long, spot-inside}
use Rattle.gt_tables.proofs.Growing.{append-assoc}

-- ---- one more address

pub word-more : (address n : ℕ) (old now more : List ℕ) → now ≡ old ++ words_from address n → more ≡ now ++ (address + 8 * n) ∷ [] → more ≡ old ++ words_from address (n + 1)
word-more address n old now more before is =
    is ∙ ap (λ ws. ws ++ (address + 8 * n) ∷ []) before ∙ append-assoc old (words_from address n) ((address + 8 * n) ∷ []) ∙ ap (λ ws. old ++ ws) (sym (map-range_with_len_more (λ i. address + 8 * i) 0 n n (omega arith)))

-- ---- one more root

roots-more : (planes : List Plane) (start : ℕ) (roots : List Root) (spots : List FieldSpot) (place : ℕ) (r : Root) (s : FieldSpot) → slice_get roots place ≡ Some r → slice_get spots place ≡ Some s
    → deletable_words planes start (take (suc place) roots) spots ≡ deletable_words planes start (take place roots) spots ++ words_of planes start r s
roots-more planes start [] spots place r s get at = absurd (cc)
roots-more planes start (q ∷ roots) [] place r s get at = absurd (cc)
roots-more planes start (q ∷ roots) (t ∷ spots) zero r s get at =
    let root : q ≡ r = same_Some q r get in
    let spot : t ≡ s = same_Some t s at in
    append-nil (words_of planes start q t) ∙ ap (λ x. words_of planes start x t) root ∙ ap (words_of planes start r) spot
roots-more planes start (q ∷ roots) (t ∷ spots) (suc place) r s get at =
    ap (λ ws. words_of planes start q t ++ ws) (roots-more planes start roots spots place r s get at)
    ∙ sym (append-assoc (words_of planes start q t) (deletable_words planes start (take place roots) spots) (words_of planes start r s))

pub root-more : (planes : List Plane) (start : ℕ) (roots : List Root) (spots : List FieldSpot) (place : ℕ) (r : Root) (s : FieldSpot) (old new : List ℕ) → slice_get roots place ≡ Some r → slice_get spots place ≡ Some s
    → old ≡ deletable_words planes start (take place roots) spots → new ≡ old ++ words_of planes start r s → new ≡ deletable_words planes start (take (place + 1) roots) spots
root-more planes start roots spots place r s old new get at before is =
    let next : suc place ≡ place + 1 = omega arith in
    is ∙ ap (λ ws. ws ++ words_of planes start r s) before ∙ sym (roots-more planes start roots spots place r s get at) ∙ ap (λ i. deletable_words planes start (take i roots) spots) next

-- ---- a root lies in the static record

root-bytes : (planes : List Plane) (type : Ty) → IsTrue (is_root_type type) → storage_of planes type ≡ Bytes (extent_of planes type)
root-bytes planes (ty.Bits unit width) h = let o = ap root_type_at (outs-Bits unit width) in absurd (cc)
root-bytes planes type h = refl

module _ (program : Program) (layouts : Layouts) (settled : Settled program) (laid : IsLaidOut program layouts) (within : IsWithin program layouts) (place : ℕ) (r : Root) (there : slice_get program.roots place ≡ Some r) where
  root-in : Contains program.roots r
  root-in = (place, slice_get_within program.roots place r there, get_or_from_slice_get program.roots place r r there)

  pub root-type : IsTypeIn program r.ty
  root-type = IsTypeIn.of_root r root-in

  pub root-spot : (s : FieldSpot) × (slice_get layouts.statics.fields place ≡ Some s) × (s.offset + (extent_of layouts.structures r.ty).size ≤ layouts.statics.size)
  root-spot =
      let planes = layouts.structures in
      let storages = root_storages planes program.roots in
      let here : slice_get storages place ≡ Some (storage_of planes r.ty) = slice_get-map (λ q. storage_of planes q.ty) program.roots place ∙ ap (option_map (λ q. storage_of planes q.ty)) there in
      let found = spot-inside storages layouts.statics.fields (8 * layouts.statics.size) (lie-long false storages layouts.statics.fields laid.statics.places) laid.statics.size.room.inside place (storage_of planes r.ty) here in
      let shape = (All-contains (IsRoot program) program.roots r settled.roots root-in).shape in
      let bytes : end_at (storage_of planes r.ty) found.0 ≡ begin_at found.0 + 8 * (extent_of planes r.ty).size = ap (λ st. end_at st found.0) (root-bytes planes r.ty shape) in
      (found.0, found.1, omega (arith, bytes, found.2))

  -- the addresses of its pointers are numbers of 32 bits
  pub root-small : (s : FieldSpot) (start : ℕ) → slice_get layouts.statics.fields place ≡ Some s → start ≡ statics_start layouts.statics.size → start + s.offset + 8 * ((extent_of layouts.structures r.ty).size / 8) < 2 ^ 32
  root-small s start at is =
      let same : root-spot.0 ≡ s = same_Some root-spot.0 s (sym root-spot.1 ∙ at) in
      let offset = ap (λ (t : FieldSpot). t.offset) same in
      let le = root-spot.2 in
      omega (arith, offset, le, within.statics)

  pub root-at : (s : FieldSpot) (start address : ℕ) (spots : List FieldSpot) → spots ≡ layouts.statics.fields → slice_get layouts.statics.fields place ≡ Some s → start ≡ statics_start layouts.statics.size
      → IfSome (slice_get spots place) (λ spot. start + spot.offset < 2 ^ 32 → address ≡ start + spot.offset) → address ≡ start + s.offset
  root-at s start address spots are at is holds =
      let small = root-small s start at is in
      subst (λ o. IfSome o (λ spot. start + spot.offset < 2 ^ 32 → address ≡ start + spot.offset)) (ap (λ ss. slice_get ss place) are ∙ at) holds (omega (arith, small))

-- the words of a root that is deletable
pub root-words : (planes : List Plane) (start address size : ℕ) (r : Root) (s : FieldSpot) → r.deletable ≡ true → address ≡ start + s.offset → size ≡ (extent_of planes r.ty).size
    → words_from address (size / 8) ≡ words_of planes start r s
root-words planes start address size r s deletable at is =
    ap (λ a. words_from a (size / 8)) at ∙ ap (λ n. words_from (start + s.offset) (n / 8)) is ∙ ap (λ b. words_if b (start + s.offset) ((extent_of planes r.ty).size / 8)) (sym deletable)

-- ---- answers

module _ (program : Program) (layouts : Layouts) (settled : Settled program) (laid : IsLaidOut program layouts) (within : IsWithin program layouts) (place : ℕ) (r : Root) (there : slice_get program.roots place ≡ Some r)
    (start address size : ℕ) (spots : List FieldSpot) (are : spots ≡ layouts.statics.fields) (starts : start ≡ statics_start layouts.statics.size)
    (lies : IfSome (slice_get spots place) (λ spot. start + spot.offset < 2 ^ 32 → address ≡ start + spot.offset)) (is : size ≡ (extent_of layouts.structures r.ty).size) where
  pub few-words : address + 8 * (size / 8) < 2 ^ 32
  few-words =
      let found = root-spot program layouts settled laid within place r there in
      let at = root-at program layouts settled laid within place r there found.0 start address spots are found.1 starts lies in
      let small = root-small program layouts settled laid within place r there found.0 start found.1 starts in
      let same : size / 8 ≡ (extent_of layouts.structures r.ty).size / 8 = ap (λ n. n / 8) is in
      subst (λ n. address + 8 * n < 2 ^ 32) (sym same) (subst (λ a. a + 8 * ((extent_of layouts.structures r.ty).size / 8) < 2 ^ 32) (sym at) small)

  pub words-added : r.deletable ≡ true → (old new : List ℕ) → new ≡ old ++ words_from address (size / 8) → (q : Root) (s : FieldSpot) → slice_get program.roots place ≡ Some q → slice_get layouts.statics.fields place ≡ Some s
      → new ≡ old ++ words_of layouts.structures start q s
  words-added deletable old new added q s get at =
      let same : r ≡ q = same_Some r q (sym there ∙ get) in
      let lies_at = root-at program layouts settled laid within place r there s start address spots are at starts lies in
      added ∙ ap (λ ws. old ++ ws) (root-words layouts.structures start address size r s deletable lies_at is ∙ ap (λ x. words_of layouts.structures start x s) same)

item-at : {X : Type 0} (xs : List X) (i : ℕ) → i < length xs → (x : X) × (slice_get xs i ≡ Some x)
item-at [] i h = absurd (omega arith)
item-at (x ∷ xs) zero h = (x, refl)
item-at (x ∷ xs) (suc i) h = item-at xs i (omega arith)

-- the words of the root at a place come after those of the roots before it
pub next-words : (program : Program) (layouts : Layouts) → Settled program → IsLaidOut program layouts → IsWithin program layouts → (place start : ℕ) (old new : List ℕ) → place < length program.roots
    → old ≡ deletable_words layouts.structures start (take place program.roots) layouts.statics.fields
    → ((r : Root) (s : FieldSpot) → slice_get program.roots place ≡ Some r → slice_get layouts.statics.fields place ≡ Some s → new ≡ old ++ words_of layouts.structures start r s)
    → new ≡ deletable_words layouts.structures start (take (place + 1) program.roots) layouts.statics.fields
next-words program layouts settled laid within place start old new there before added =
    let r = item-at program.roots place there in
    let s = root-spot program layouts settled laid within place r.0 r.1 in
    root-more layouts.structures start program.roots layouts.statics.fields place r.0 s.0 old new r.1 s.1 before (added r.0 s.0 r.1 s.1)
