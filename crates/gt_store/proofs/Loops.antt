-- Loops over the values of fields and of elements.
use Rattle.std.proofs.Common.{◌≡◌, ℕ, zero, suc, ◌+◌, ◌%◌, ◌<◌, ◌≤◌, List, [], ◌∷◌, length, drop, map, refl, ap, sym, subst, ◌∙◌, arith, Some, length-drop}
use Rattle.std.specs.Prelude.{slice_get}
use Rattle.gt_types.specs.declared.types.Ty.{Ty}
use Rattle.gt_types.specs.declared.program.Program.{Program}
use Rattle.gt_types.specs.declared.program.Field.{Field}
use Rattle.gt_tree.specs.Fits.{types_of}
use Rattle.std.proofs.Common.{min}
use Rattle.std.proofs.Math.Nat.{min-eq_left}
use Rattle.gt_types.specs.declared.limits.TheConstants.{TOO_LARGE}
use Rattle.gt_layout.specs.declared.planes.TheConstants.{MAX_SIZE}
use Rattle.gt_layout.specs.declared.planes.Plane.{Plane}
use Rattle.gt_layout.specs.declared.planes.FieldSpot.{FieldSpot}
use Rattle.gt_layout.specs.Places.{begin_at}
use Rattle.gt_space.specs.Range.{Range, KeepsAddresses}
use Rattle.gt_tree.specs.Trees.{Trees, End, And}
use Rattle.gt_value.specs.declared.values.Value.{Value}
use Rattle.gt_value.specs.Values.{tree_of, trees}
use Rattle.gt_store.specs.declared.stores.TheConstants.{MAX_BITS}
use Rattle.gt_store.specs.Overlays.{StandsAt, CanStore, CanStorePart, CanStoreEach, IsWritten, EachIsWritten}
use Rattle.gt_store.proofs.BitLemmas.{keeps-keeps}
use Rattle.gt_store.proofs.Walks.{CanFields, FieldsWritten, fields-none, fields-step, fields-cons, fields-first, fields-rest, each-none, each-step, each-first, each-rest}

pub drop-slice : {X : Type 0} (xs : List X) (i : ℕ) (x : X) → slice_get xs i ≡ Some x → drop i xs ≡ x ∷ drop (i + 1) xs
drop-slice [] i x e = absurd (cc)
drop-slice (y ∷ ys) zero x e = let same : y ≡ x = cc in ap (λ z. z ∷ ys) same
drop-slice (y ∷ ys) (suc i) x e =
    let next : suc (i + 1) ≡ suc i + 1 = omega arith in
    drop-slice ys i x e ∙ ap (λ n. x ∷ drop n (y ∷ ys)) next

drop-end : {X : Type 0} (xs : List X) (i : ℕ) → length xs ≤ i → drop i xs ≡ []
drop-end [] zero h = refl
drop-end [] (suc i) h = refl
drop-end (x ∷ xs) zero h = absurd (omega (arith, h))
drop-end (x ∷ xs) (suc i) h = drop-end xs i (omega (arith, h))

abbrev pub rest_of : List Value → ℕ → Trees
rest_of values i = trees (map tree_of (drop i values))

rest-slice : (values : List Value) (i : ℕ) (v : Value) → slice_get values i ≡ Some v → rest_of values i ≡ And (tree_of v) (rest_of values (i + 1))
rest-slice values i v e = ap (λ vs. trees (map tree_of vs)) (drop-slice values i v e)

rest-end : (values : List Value) (i : ℕ) → length values ≤ i → rest_of values i ≡ End
rest-end values i h = ap (λ vs. trees (map tree_of vs)) (drop-end values i h)

pub types-long : (fields : List Field) → length (types_of fields) ≡ length fields
types-long [] = refl
types-long (f ∷ fs) = ap suc (types-long fs)

pub min-held : (n : ℕ) → n ≤ MAX_SIZE → min n TOO_LARGE ≡ n
min-held n le = min-eq_left {n = n} {m = TOO_LARGE} (omega (arith, le))

pub types-at : (fields : List Field) (i : ℕ) (f : Field) → slice_get fields i ≡ Some f → slice_get (types_of fields) i ≡ Some f.ty
types-at [] i f e = absurd (cc)
types-at (g ∷ fs) zero f e = let same : g ≡ f = cc in ap (λ x. Some x.ty) same
types-at (g ∷ fs) (suc i) f e = types-at fs i f e

-- ---- fields

-- what holds when the values of so many fields are written
pub record FieldsLoop (program : Program) (planes : List Plane) (at : ℕ) (types : List Ty) (spots : List FieldSpot) (values : List Value) (i : ℕ) (old now : Range) : Type 0 where
  pub keeps : KeepsAddresses old now
  pub can : CanFields program planes now at (drop i types) (drop i spots) (rest_of values i)
  pub done : (new : Range) → FieldsWritten program planes at (drop i types) (drop i spots) (rest_of values i) now new → FieldsWritten program planes at types spots (trees (map tree_of values)) old new

module _ (program : Program) (planes : List Plane) (at : ℕ) (types : List Ty) (spots : List FieldSpot) (values : List Value) where
  pub fields-init : (range : Range) → CanFields program planes range at types spots (trees (map tree_of values)) → FieldsLoop program planes at types spots values 0 range range
  fields-init range can = record { keeps = record { start = refl; len = refl }; can = can; done = λ new w. w }

  pub fields-end : (i : ℕ) (old now : Range) → length values ≤ i → FieldsLoop program planes at types spots values i old now → FieldsWritten program planes at types spots (trees (map tree_of values)) old now
  fields-end i old now le loop =
      loop.done now (subst (λ t. FieldsWritten program planes at (drop i types) (drop i spots) t now now) (sym (rest-end values i le)) (fields-none at (drop i types) (drop i spots) now))

  module _ (i : ℕ) (old now : Range) (v : Value) (got : slice_get values i ≡ Some v) (loop : FieldsLoop program planes at types spots values i old now) where
    here : CanFields program planes now at (drop i types) (drop i spots) (And (tree_of v) (rest_of values (i + 1)))
    here = subst (CanFields program planes now at (drop i types) (drop i spots)) (rest-slice values i v got) loop.can

    pub fields-within : (i < length types) × (i < length spots)
    fields-within =
        let some = fields-cons at (drop i types) (drop i spots) (tree_of v) (rest_of values (i + 1)) here.leaves here.have in
        (omega (arith, some.0, length-drop i types), omega (arith, some.1, length-drop i spots))

    module _ (type : Ty) (s : FieldSpot) (typed : slice_get types i ≡ Some type) (placed : slice_get spots i ≡ Some s) where
      both : CanFields program planes now at (type ∷ drop (i + 1) types) (s ∷ drop (i + 1) spots) (And (tree_of v) (rest_of values (i + 1)))
      both =
          subst (λ ss. CanFields program planes now at (type ∷ drop (i + 1) types) ss (And (tree_of v) (rest_of values (i + 1)))) (drop-slice spots i s placed)
          (subst (λ ts. CanFields program planes now at ts (drop i spots) (And (tree_of v) (rest_of values (i + 1)))) (drop-slice types i type typed) here)

      pub fields-part : CanStorePart program planes now at type s (tree_of v)
      fields-part = fields-first now at type (drop (i + 1) types) s (drop (i + 1) spots) (tree_of v) (rest_of values (i + 1)) both

      pub fields-next : (next : Range) → KeepsAddresses now next → IsWritten program planes (at + begin_at s) type (tree_of v) now next → FieldsLoop program planes at types spots values (i + 1) old next
      fields-next next keeps w = record {
        keeps = keeps-keeps loop.keeps keeps;
        can = fields-rest now next at type (drop (i + 1) types) s (drop (i + 1) spots) (tree_of v) (rest_of values (i + 1)) keeps both;
        done = λ new rest. loop.done new (
            subst (λ t. FieldsWritten program planes at (drop i types) (drop i spots) t now new) (sym (rest-slice values i v got))
            (subst (λ ss. FieldsWritten program planes at (drop i types) ss (And (tree_of v) (rest_of values (i + 1))) now new) (sym (drop-slice spots i s placed))
            (subst (λ ts. FieldsWritten program planes at ts (s ∷ drop (i + 1) spots) (And (tree_of v) (rest_of values (i + 1))) now new) (sym (drop-slice types i type typed))
            (fields-step at type (drop (i + 1) types) s (drop (i + 1) spots) (tree_of v) (rest_of values (i + 1)) now next new keeps w rest))));
      }

-- ---- elements

-- what holds when so many elements are written
pub record EachLoop (program : Program) (planes : List Plane) (stride at : ℕ) (type : Ty) (values : List Value) (i begin : ℕ) (old now : Range) : Type 0 where
  pub keeps : KeepsAddresses old now
  pub can : CanStoreEach program planes now stride begin type (rest_of values i)
  pub done : (new : Range) → EachIsWritten program planes stride begin type (rest_of values i) now new → EachIsWritten program planes stride at type (trees (map tree_of values)) old new

module _ (program : Program) (planes : List Plane) (stride at : ℕ) (type : Ty) (values : List Value) where
  pub each-init : (range : Range) → CanStoreEach program planes range stride at type (trees (map tree_of values)) → EachLoop program planes stride at type values 0 at range range
  each-init range can = record { keeps = record { start = refl; len = refl }; can = can; done = λ new w. w }

  pub each-end : (i begin : ℕ) (old now : Range) → length values ≤ i → EachLoop program planes stride at type values i begin old now → EachIsWritten program planes stride at type (trees (map tree_of values)) old now
  each-end i begin old now le loop = loop.done now (subst (λ t. EachIsWritten program planes stride begin type t now now) (sym (rest-end values i le)) (each-none stride begin type now))

  module _ (i begin : ℕ) (old now : Range) (v : Value) (got : slice_get values i ≡ Some v) (loop : EachLoop program planes stride at type values i begin old now) where
    each-here : CanStoreEach program planes now stride begin type (And (tree_of v) (rest_of values (i + 1)))
    each-here = subst (CanStoreEach program planes now stride begin type) (rest-slice values i v got) loop.can

    pub each-part : StandsAt type begin → begin ≤ MAX_BITS → CanStore program planes now begin type (tree_of v)
    each-part stands near = each-first now stride begin type (tree_of v) (rest_of values (i + 1)) stands near each-here

    pub each-next : (next : Range) → stride % 8 ≡ 0 → KeepsAddresses now next → IsWritten program planes begin type (tree_of v) now next → EachLoop program planes stride at type values (i + 1) (begin + stride) old next
    each-next next steps keeps w = record {
      keeps = keeps-keeps loop.keeps keeps;
      can = each-rest now next stride begin type (tree_of v) (rest_of values (i + 1)) keeps steps each-here;
      done = λ new rest. loop.done new (
          subst (λ t. EachIsWritten program planes stride begin type t now new) (sym (rest-slice values i v got))
          (each-step stride begin type (tree_of v) (rest_of values (i + 1)) now next new keeps w rest));
    }
