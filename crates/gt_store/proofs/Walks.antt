-- Values whose leaves are written part after part.
use Rattle.std.proofs.Common.{◌≡◌, ℕ, ◌+◌, ◌*◌, ◌%◌, ◌<◌, ◌≤◌, Bool, true, false, cond, List, [], ◌∷◌, ◌++◌, length, map, refl, ap, sym, subst, ◌∙◌, arith, inl, Some, None}
use Rattle.std.specs.Prelude.{All, pos}
use Rattle.std.specs.List.{filter}
use Rattle.std.proofs.lemmas.List.Elements.{All-nil, All-cons, All-head, All-tail, All-append, All-filter, All-weaker}
use Rattle.gt_types.specs.declared.types.Ty.{Ty}
use Rattle.gt_types.specs.declared.types.Ty.TheVariants as ty
use Rattle.gt_types.specs.declared.program.Program.{Program}
use Rattle.gt_layout.specs.declared.planes.Plane.{Plane}
use Rattle.gt_layout.specs.declared.planes.FieldSpot.{FieldSpot}
use Rattle.gt_layout.specs.declared.storages.Storage.{Storage}
use Rattle.gt_layout.specs.Storages.{bytes_of, storage_of, extent_of}
use Rattle.gt_layout.specs.Places.{begin_at, end_at, spot_of, Follow}
use Rattle.gt_space.specs.Range.{Range, KeepsAddresses}
use Rattle.gt_tree.specs.Trees.{Tree, Trees, End, And, without_pointers, all_without_pointers}
use Rattle.gt_tree.specs.Blocks.{Blocks}
use Rattle.gt_tree.specs.Scopes.{Scope}
use Rattle.gt_tree.specs.Fits.{AllFit}
use Rattle.gt_tree.specs.Leaves.{Leaf, leaf, Number, Pointer, byte_leaves, is_number, HasLeaves, FieldsHaveLeaves, EachHasLeaves}
use Rattle.gt_tree.specs.LeafLaws.{IsTypeIn}
use Rattle.gt_tree.proofs.Fitting.{fits-more, fits-one}
use Rattle.gt_store.specs.declared.stores.TheConstants.{MAX_BITS}
use Rattle.gt_store.specs.Overlays.{is_written, written, Overlays, Rises, LieIn, StandsAt, IsNear, CanStore, CanStorePart, CanStoreEach, IsWritten, EachIsWritten}
use Rattle.gt_store.proofs.OverlayLemmas.{overlays-none, lie-both, lie-same, written-both, rises-le}

-- ---- no leaf begins before its value

From : ℕ → Leaf → Type 0
From at l = at ≤ l.at

after-bytes : (at : ℕ) (bytes : List ℕ) → All (From at) (byte_leaves at bytes)
unfolding From
after-bytes at [] = All-nil (From at)
after-bytes at (byte ∷ bytes) =
    All-cons (From at) (leaf at 8 (Number (pos byte))) (byte_leaves (at + 8) bytes) (omega arith)
    (All-weaker (From (at + 8)) (From at) (λ l h. omega (arith, h)) (byte_leaves (at + 8) bytes) (after-bytes (at + 8) bytes))

from-same : (at width : ℕ) (c : _) → All (From at) (leaf at width c ∷ [])
unfolding From
from-same at width c = All-cons (From at) (leaf at width c) [] (omega arith) (All-nil (From at))

from-more : (at more : ℕ) (ls : List Leaf) → All (From (at + more)) ls → All (From at) ls
unfolding From
from-more at more ls h = All-weaker (From (at + more)) (From at) (λ l k. omega (arith, k)) ls h

module _ {program : Program} {planes : List Plane} where
  mutual
    after : {at : ℕ} {type : Ty} {tree : Tree} {ls : List Leaf} → HasLeaves program planes at type tree ls → All (From at) ls
    after (HasLeaves.number {at} {scalar} {n}) = from-same at (8 * bytes_of scalar) (Number n)
    after (HasLeaves.bits {at} {unit} {width} {n}) = from-same at width (Number n)
    after (HasLeaves.opaque {at} {bytes}) = after-bytes at bytes
    after (HasLeaves.null {at} p) = from-same at 64 (Pointer None)
    after (HasLeaves.to {at} {id} p) = from-same at 64 (Pointer (Some id))
    after (HasLeaves.struct h u g fields) = after_fields fields
    after (HasLeaves.member h u g inner) = after inner
    after (HasLeaves.common {at} {leaves} h u c inner) = All-filter is_number (From at) leaves (after inner)
    after (HasLeaves.nothing {at} h u n) = All-nil (From at)
    after (HasLeaves.array e each) = after_each each
    after (HasLeaves.tail e each) = after_each each

    after_fields : {at : ℕ} {types : List Ty} {spots : List FieldSpot} {trees : Trees} {ls : List Leaf} → FieldsHaveLeaves program planes at types spots trees ls → All (From at) ls
    after_fields (FieldsHaveLeaves.none {at}) = All-nil (From at)
    after_fields (FieldsHaveLeaves.more {at} {s} {first} {rest} inner others) = All-append (From at) first rest (from-more at (begin_at s) first (after inner)) (after_fields others)

    after_each : {stride at : ℕ} {type : Ty} {trees : Trees} {ls : List Leaf} → EachHasLeaves program planes stride at type trees ls → All (From at) ls
    after_each (EachHasLeaves.no_more {at}) = All-nil (From at)
    after_each (EachHasLeaves.one_more {stride} {at} {first} {rest} inner others) = All-append (From at) first rest (after inner) (from-more at stride rest (after_each others))

-- leaves that begin beyond the end of a space are none that are written
none-beyond : (begin end : ℕ) (ls : List Leaf) → end < begin → Rises 0 ls end → All (From begin) ls → ls ≡ []
unfolding From
none-beyond begin end [] lt h all = refl
none-beyond begin end (l ∷ ls) lt h all =
    let low : begin ≤ l.at = All-head (From begin) l ls all in
    let high : l.at + l.width ≤ end = rises-le (l.at + l.width) ls end h.1 in
    absurd (omega (arith, low, high, lt))

beyond : (range : Range) (begin : ℕ) (ls : List Leaf) → 8 * length range.bytes ≤ MAX_BITS → MAX_BITS < begin → LieIn range ls → All (From begin) ls → written ls ≡ []
beyond range begin ls short far lie all = none-beyond begin (8 * length range.bytes) (written ls) (omega (arith, short, far)) lie (All-filter is_written (From begin) ls all)

pub part-beyond : (program : Program) (planes : List Plane) (range : Range) (begin : ℕ) (type : Ty) (tree : Tree) → 8 * length range.bytes ≤ MAX_BITS → MAX_BITS < begin → IsWritten program planes begin type tree range range
part-beyond program planes range begin type tree short far leaves has lie = subst (λ ls. Overlays ls range range) (sym (beyond range begin leaves short far lie (after has))) (overlays-none range)

pub each-beyond : (program : Program) (planes : List Plane) (range : Range) (stride begin : ℕ) (type : Ty) (values : Trees) → 8 * length range.bytes ≤ MAX_BITS → MAX_BITS < begin
    → EachIsWritten program planes stride begin type values range range
each-beyond program planes range stride begin type values short far leaves have lie = subst (λ ls. Overlays ls range range) (sym (beyond range begin leaves short far lie (after_each have))) (overlays-none range)

-- ---- elements

module _ {program : Program} {planes : List Plane} where
  pub each-none : (stride at : ℕ) (type : Ty) (range : Range) → EachIsWritten program planes stride at type End range range
  each-none stride at type range leaves EachHasLeaves.no_more lie = overlays-none range

  pub each-step : (stride at : ℕ) (type : Ty) (tree : Tree) (rest : Trees) (a b c : Range) → KeepsAddresses a b → IsWritten program planes at type tree a b → EachIsWritten program planes stride (at + stride) type rest b c
      → EachIsWritten program planes stride at type (And tree rest) a c
  each-step stride at type tree rest a b c keeps w v leaves (EachHasLeaves.one_more {first} {rest = more} has have) lie =
      let lies = lie-both a first more lie in
      written-both a b c first more lie (w first has lies.0) (v more have (lie-same a b more keeps lies.1))

  each-split : (stride at : ℕ) (type : Ty) (tree : Tree) (rest : Trees) (leaves : List Leaf) → EachHasLeaves program planes stride at type (And tree rest) leaves
      → (first : List Leaf) × (more : List Leaf) × (leaves ≡ first ++ more) × HasLeaves program planes at type tree first × EachHasLeaves program planes stride (at + stride) type rest more
  each-split stride at type tree rest leaves (EachHasLeaves.one_more {first} {rest = more} has have) = (first, more, refl, has, have)

  pub each-first : (range : Range) (stride at : ℕ) (type : Ty) (tree : Tree) (rest : Trees) → StandsAt type at → at ≤ MAX_BITS → CanStoreEach program planes range stride at type (And tree rest) → CanStore program planes range at type tree
  each-first range stride at type tree rest stands near can =
      let parts = each-split stride at type tree rest can.leaves can.have in
      let lies = lie-both range parts.0 parts.1 (subst (LieIn range) parts.2 can.lie) in
      let fit = fits-one type tree rest can.fit in
      record {
        blocks = can.blocks;
        capacity = can.capacity;
        scope = can.scope;
        fits = fit.0;
        leaves = parts.0;
        has = parts.3;
        lie = lies.0;
        typed = inl can.typed;
        stands = stands;
        near = record { short = can.short; near = near };
      }

  pub each-rest : (a b : Range) (stride at : ℕ) (type : Ty) (tree : Tree) (rest : Trees) → KeepsAddresses a b → stride % 8 ≡ 0 → CanStoreEach program planes a stride at type (And tree rest)
      → CanStoreEach program planes b stride (at + stride) type rest
  each-rest a b stride at type tree rest keeps steps can =
      let parts = each-split stride at type tree rest can.leaves can.have in
      let lies = lie-both a parts.0 parts.1 (subst (LieIn a) parts.2 can.lie) in
      let fit = fits-one type tree rest can.fit in
      record {
        blocks = can.blocks;
        capacity = can.capacity;
        scope = can.scope;
        fit = fit.1;
        leaves = parts.1;
        have = parts.4;
        lie = lie-same a b parts.1 keeps lies.1;
        typed = can.typed;
        whole = omega (arith, can.whole, steps);
        narrow = can.narrow;
        short = omega (arith, can.short, keeps.len);
      }

-- ---- fields

-- each type stands at its spot
abbrev pub StandAll : ℕ → List Ty → List FieldSpot → Type 0
StandAll at (t ∷ ts) (s ∷ ss) = StandsAt t (at + begin_at s) × StandAll at ts ss
StandAll at _ _ = Unit {0}

-- values of fields fit, and have their leaves in a space at their places
pub record CanFields (program : Program) (planes : List Plane) (range : Range) (at : ℕ) (types : List Ty) (spots : List FieldSpot) (values : Trees) : Type 0 where
  pub blocks : Blocks
  pub capacity : ℕ
  pub scope : Scope
  pub fit : AllFit program blocks capacity scope types values
  pub leaves : List Leaf
  pub have : FieldsHaveLeaves program planes at types spots values leaves
  pub lie : LieIn range leaves
  pub typed : All (IsTypeIn program) types
  pub stand : StandAll at types spots
  pub near : IsNear range at

abbrev pub FieldsWritten : Program → List Plane → ℕ → List Ty → List FieldSpot → Trees → Range → Range → Type 0
FieldsWritten program planes at types spots values old new = (leaves : List Leaf) → FieldsHaveLeaves program planes at types spots values leaves → LieIn old leaves → Overlays (written leaves) old new

module _ {program : Program} {planes : List Plane} where
  pub fields-none : (at : ℕ) (types : List Ty) (spots : List FieldSpot) (range : Range) → FieldsWritten program planes at types spots End range range
  fields-none at types spots range leaves FieldsHaveLeaves.none lie = overlays-none range

  pub fields-step : (at : ℕ) (type : Ty) (types : List Ty) (s : FieldSpot) (spots : List FieldSpot) (tree : Tree) (rest : Trees) (a b c : Range) → KeepsAddresses a b → IsWritten program planes (at + begin_at s) type tree a b
      → FieldsWritten program planes at types spots rest b c → FieldsWritten program planes at (type ∷ types) (s ∷ spots) (And tree rest) a c
  fields-step at type types s spots tree rest a b c keeps w v leaves (FieldsHaveLeaves.more {first} {rest = more} has have) lie =
      let lies = lie-both a first more lie in
      written-both a b c first more lie (w first has lies.0) (v more have (lie-same a b more keeps lies.1))

  pub fields-cons : (at : ℕ) (types : List Ty) (spots : List FieldSpot) (tree : Tree) (rest : Trees) (leaves : List Leaf) → FieldsHaveLeaves program planes at types spots (And tree rest) leaves
      → (1 ≤ length types) × (1 ≤ length spots)
  fields-cons at types spots tree rest leaves (FieldsHaveLeaves.more has have) = (omega arith, omega arith)

  fields-split : (at : ℕ) (type : Ty) (types : List Ty) (s : FieldSpot) (spots : List FieldSpot) (tree : Tree) (rest : Trees) (leaves : List Leaf) → FieldsHaveLeaves program planes at (type ∷ types) (s ∷ spots) (And tree rest) leaves
      → (first : List Leaf) × (more : List Leaf) × (leaves ≡ first ++ more) × HasLeaves program planes (at + begin_at s) type tree first × FieldsHaveLeaves program planes at types spots rest more
  fields-split at type types s spots tree rest leaves (FieldsHaveLeaves.more {first} {rest = more} has have) = (first, more, refl, has, have)

  pub fields-first : (range : Range) (at : ℕ) (type : Ty) (types : List Ty) (s : FieldSpot) (spots : List FieldSpot) (tree : Tree) (rest : Trees)
      → CanFields program planes range at (type ∷ types) (s ∷ spots) (And tree rest) → CanStorePart program planes range at type s tree
  fields-first range at type types s spots tree rest can =
      let parts = fields-split at type types s spots tree rest can.leaves can.have in
      let lies = lie-both range parts.0 parts.1 (subst (LieIn range) parts.2 can.lie) in
      let fit = fits-more type types tree rest can.fit in
      record {
        blocks = can.blocks;
        capacity = can.capacity;
        scope = can.scope;
        fits = fit.0;
        leaves = parts.0;
        has = parts.3;
        lie = lies.0;
        typed = All-head (IsTypeIn program) type types can.typed;
        stands = can.stand.0;
        near = can.near;
      }

  pub fields-rest : (a b : Range) (at : ℕ) (type : Ty) (types : List Ty) (s : FieldSpot) (spots : List FieldSpot) (tree : Tree) (rest : Trees) → KeepsAddresses a b
      → CanFields program planes a at (type ∷ types) (s ∷ spots) (And tree rest) → CanFields program planes b at types spots rest
  fields-rest a b at type types s spots tree rest keeps can =
      let parts = fields-split at type types s spots tree rest can.leaves can.have in
      let lies = lie-both a parts.0 parts.1 (subst (LieIn a) parts.2 can.lie) in
      let fit = fits-more type types tree rest can.fit in
      record {
        blocks = can.blocks;
        capacity = can.capacity;
        scope = can.scope;
        fit = fit.1;
        leaves = parts.1;
        have = parts.4;
        lie = lie-same a b parts.1 keeps lies.1;
        typed = All-tail (IsTypeIn program) type types can.typed;
        stand = can.stand.1;
        near = record { short = omega (arith, can.near.short, keeps.len); near = can.near.near };
      }

-- ---- where fields stand

bytes-stand : (at : ℕ) (s : FieldSpot) (e : _) → at % 8 ≡ 0 → s ≡ spot_of (Rattle.gt_layout.specs.declared.storages.Storage.TheVariants.Bytes e) (begin_at s) → (at + begin_at s) % 8 ≡ 0
bytes-stand at s e whole is = let b = ap (λ x. x.bit) is in omega (arith, whole, b)

field-stands : (planes : List Plane) (at : ℕ) (s : FieldSpot) (type : Ty) → at % 8 ≡ 0 → s ≡ spot_of (storage_of planes type) (begin_at s) → StandsAt type (at + begin_at s)
field-stands planes at s (ty.Bits unit count) whole is = tt
field-stands planes at s (ty.Num scalar) whole is = bytes-stand at s (extent_of planes (ty.Num scalar)) whole is
field-stands planes at s (ty.Opaque size align) whole is = bytes-stand at s (extent_of planes (ty.Opaque size align)) whole is
field-stands planes at s (ty.Str count) whole is = bytes-stand at s (extent_of planes (ty.Str count)) whole is
field-stands planes at s (ty.Ptr target kind reorder) whole is = bytes-stand at s (extent_of planes (ty.Ptr target kind reorder)) whole is
field-stands planes at s (ty.Node node desc) whole is = bytes-stand at s (extent_of planes (ty.Node node desc)) whole is
field-stands planes at s (ty.Arr' n shape elem) whole is = bytes-stand at s (extent_of planes (ty.Arr' n shape elem)) whole is
field-stands planes at s (ty.Tail' count shape elem) whole is = bytes-stand at s (extent_of planes (ty.Tail' count shape elem)) whole is

pub follow-stand : {X : Type 0} (type_of : X → Ty) (planes : List Plane) (at from : ℕ) (xs : List X) (spots : List FieldSpot) → at % 8 ≡ 0 → Follow from (map (λ x. storage_of planes (type_of x)) xs) spots
    → StandAll at (map type_of xs) spots
follow-stand type_of planes at from [] [] whole f = tt
follow-stand type_of planes at from [] (s ∷ ss) whole f = absurd f
follow-stand type_of planes at from (x ∷ xs) [] whole f = absurd f
follow-stand type_of planes at from (x ∷ xs) (s ∷ ss) whole f = (field-stands planes at s (type_of x) whole f.1, follow-stand type_of planes at (end_at (storage_of planes (type_of x)) s) xs ss whole f.2)

pub whole-stands : (type : Ty) (at : ℕ) → at % 8 ≡ 0 → StandsAt type at
whole-stands (ty.Bits unit count) at whole = tt
whole-stands (ty.Num scalar) at whole = whole
whole-stands (ty.Opaque size align) at whole = whole
whole-stands (ty.Str count) at whole = whole
whole-stands (ty.Ptr target kind reorder) at whole = whole
whole-stands (ty.Node node desc) at whole = whole
whole-stands (ty.Arr' n shape elem) at whole = whole
whole-stands (ty.Tail' count shape elem) at whole = whole

-- ---- a common structure without pointers

Plain : Leaf → Type 0
Plain l = is_written l ≡ is_number l

plain-bytes : (at : ℕ) (bytes : List ℕ) → All Plain (byte_leaves at bytes)
unfolding Plain
plain-bytes at [] = All-nil Plain
plain-bytes at (byte ∷ bytes) = All-cons Plain (leaf at 8 (Number (pos byte))) (byte_leaves (at + 8) bytes) refl (plain-bytes (at + 8) bytes)

plain-one : (l : Leaf) → is_written l ≡ is_number l → All Plain (l ∷ [])
unfolding Plain
plain-one l e = All-cons Plain l [] e (All-nil Plain)

module _ {program : Program} {planes : List Plane} where
  mutual
    plain : {at : ℕ} {type : Ty} {tree : Tree} {ls : List Leaf} → HasLeaves program planes at type tree ls → without_pointers tree ≡ tree → All Plain ls
    plain (HasLeaves.number {at} {scalar} {n}) e = plain-one (leaf at (8 * bytes_of scalar) (Number n)) refl
    plain (HasLeaves.bits {at} {unit} {width} {n}) e = plain-one (leaf at width (Number n)) refl
    plain (HasLeaves.opaque {at} {bytes}) e = plain-bytes at bytes
    plain (HasLeaves.null {at} p) e = plain-one (leaf at 64 (Pointer None)) refl
    plain (HasLeaves.to {at} {id} p) e = absurd (cc)
    plain (HasLeaves.struct {trees = parts} h u g fields) e = plain_fields fields (let same : all_without_pointers parts ≡ parts = cc in same)
    plain (HasLeaves.member {tree} h u g inner) e = plain inner (let same : without_pointers tree ≡ tree = cc in same)
    plain (HasLeaves.common {tree} {leaves} h u c inner) e = All-filter is_number Plain leaves (plain inner (let same : without_pointers tree ≡ tree = cc in same))
    plain (HasLeaves.nothing h u n) e = All-nil Plain
    plain (HasLeaves.array {trees = parts} o each) e = plain_each each (let same : all_without_pointers parts ≡ parts = cc in same)
    plain (HasLeaves.tail {trees = parts} o each) e = plain_each each (let same : all_without_pointers parts ≡ parts = cc in same)

    plain_fields : {at : ℕ} {types : List Ty} {spots : List FieldSpot} {parts : Trees} {ls : List Leaf} → FieldsHaveLeaves program planes at types spots parts ls → all_without_pointers parts ≡ parts → All Plain ls
    plain_fields FieldsHaveLeaves.none e = All-nil Plain
    plain_fields (FieldsHaveLeaves.more {tree} {trees = parts} {first} {rest} inner others) e =
        All-append Plain first rest (plain inner (let same : without_pointers tree ≡ tree = cc in same)) (plain_fields others (let same : all_without_pointers parts ≡ parts = cc in same))

    plain_each : {stride at : ℕ} {type : Ty} {parts : Trees} {ls : List Leaf} → EachHasLeaves program planes stride at type parts ls → all_without_pointers parts ≡ parts → All Plain ls
    plain_each EachHasLeaves.no_more e = All-nil Plain
    plain_each (EachHasLeaves.one_more {tree} {trees = parts} {first} {rest} inner others) e =
        All-append Plain first rest (plain inner (let same : without_pointers tree ≡ tree = cc in same)) (plain_each others (let same : all_without_pointers parts ≡ parts = cc in same))

written-numbers : (ls : List Leaf) → All Plain ls → written (filter is_number ls) ≡ written ls
unfolding Plain
written-numbers [] h = refl
written-numbers (l ∷ ls) h = go (is_number l) refl (written-numbers ls (All-tail Plain l ls h))
  where
    go : (b : Bool) → is_number l ≡ b → written (filter is_number ls) ≡ written ls → filter is_written (cond (is_number l) (l ∷ filter is_number ls) (filter is_number ls)) ≡ filter is_written (l ∷ ls)
    go true is rest =
        let w : is_written l ≡ true = All-head Plain l ls h ∙ is in
        ap (λ b. filter is_written (cond b (l ∷ filter is_number ls) (filter is_number ls))) is ∙ ap (λ b. cond b (l ∷ written (filter is_number ls)) (written (filter is_number ls))) w ∙ ap (λ xs. l ∷ xs) rest
        ∙ sym (ap (λ b. cond b (l ∷ written ls) (written ls)) w)
    go false is rest =
        let w : is_written l ≡ false = All-head Plain l ls h ∙ is in
        ap (λ b. filter is_written (cond b (l ∷ filter is_number ls) (filter is_number ls))) is ∙ rest ∙ sym (ap (λ b. cond b (l ∷ written ls) (written ls)) w)

-- the leaves of a common structure that are written
pub common-written : {program : Program} {planes : List Plane} {at : ℕ} {type : Ty} {tree : Tree} (ls : List Leaf) → HasLeaves program planes at type tree ls → without_pointers tree ≡ tree
    → written (filter is_number ls) ≡ written ls
common-written ls has e = written-numbers ls (plain has e)
