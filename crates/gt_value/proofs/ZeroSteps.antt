-- Steps of making zero values.
use Rattle.std.proofs.Common.{◌≡◌, ℕ, zero, suc, ◌+◌, ◌-◌, ◌<◌, ◌≤◌, Bool, true, false, ◌&&◌, IsTrue, nat_le, List, [], ◌∷◌, ◌++◌, length, get_or, take, replicate, map, refl, ap, sym, subst, ◌∙◌, arith, Option, Some, None, ◌⊎◌, inl, inr, All}
use Rattle.std.specs.Prelude.{ℤ, slice_get}
use Rattle.std.specs.List.{position_from}
use Rattle.std.proofs.lemmas.Bool.{leb-true}
use Rattle.std.proofs.lemmas.List.{take_more}
use Rattle.gt_tree.proofs.Commons.{one-common}
use Rattle.std.proofs.lemmas.List.Elements.{All-weaker, All-contains}
use Rattle.std.proofs.lemmas.Option.{slice_get_within, slice_get-get_or}
use Rattle.gt_types.specs.declared.expressions.Expr.{Expr}
use Rattle.gt_types.specs.declared.types.TypeId.{TypeId}
use Rattle.gt_types.specs.declared.types.Ty.{Ty, out-Ty}
use Rattle.gt_types.specs.declared.types.Ty.TheOpen.{Ty-F}
use Rattle.gt_types.specs.declared.types.Ty.TheFolds.{fold_out-Ty, map-Ty}
use Rattle.gt_types.specs.declared.types.Ty.TheVariants as ty
use Rattle.gt_types.specs.declared.types.Ty.TheVariants.{outs-Num, outs-Bits, outs-Opaque, outs-Str, outs-Ptr, outs-Node, outs-Arr', outs-Tail'}
use Rattle.gt_types.specs.declared.program.Field.{Field}
use Rattle.gt_types.specs.declared.program.Structure.{Structure}
use Rattle.gt_types.specs.declared.program.Program.{Program}
use Rattle.gt_types.specs.Shapes.{dimensions, dimensions_step, is_bound, may_repeat, is_element, field_type_at, is_field_type, root_type_at, is_root_type}
use Rattle.gt_types.specs.Contains.{HasStructure}
use Rattle.gt_types.specs.Unions.{IsCommon}
use Rattle.gt_types.specs.Settled.{Settled, IsField}
use Rattle.gt_tree.specs.Trees.{Tree, Trees, End, And}
use Rattle.gt_tree.specs.Fits.{is_tag, is_default, first_place, active_member}
use Rattle.gt_tree.proofs.PathBits.{position-get}
use Rattle.gt_value.specs.declared.values.Value.{Value}
use Rattle.gt_value.specs.declared.values.Value.TheVariants as value
use Rattle.gt_layout.specs.Progress.{IsWithinDepth, HoldsWithinDepth}
use Rattle.gt_layout.proofs.Capacities.{node_within, shallow_fields}
use Rattle.gt_value.proofs.TreesOf.{tree-raw}
use Rattle.gt_value.specs.Values.{trees, tree_of}
use Rattle.gt_value.specs.Noughts.{IsNought, AreNoughts, AreElements, zero_desc}

-- ---- lists of values

module _ {program : Program} {capacity : ℕ} where
  elements-add : (n : ℕ) (type : Ty) (xs : List Value) (x : Value) → AreElements program capacity n type (trees (map tree_of xs)) → IsNought program capacity type (tree_of x)
      → AreElements program capacity (suc n) type (trees (map tree_of (xs ++ x ∷ [])))
  elements-add zero type [] x AreElements.no_more h = AreElements.one_more h AreElements.no_more
  elements-add zero type (y ∷ ys) x all h = elim all [ ]
  elements-add (suc n) type [] x all h = elim all [ ]
  elements-add (suc n) type (y ∷ ys) x (AreElements.one_more first rest) h = AreElements.one_more first (elements-add n type ys x rest h)

  pub elements-push : (n : ℕ) (type : Ty) (xs ys : List Value) (x : Value) → AreElements program capacity n type (trees (map tree_of xs)) → IsNought program capacity type (tree_of x) → ys ≡ xs ++ x ∷ []
      → AreElements program capacity (n + 1) type (trees (map tree_of ys))
  elements-push n type xs ys x all h e =
      let next : suc n ≡ n + 1 = omega arith in
      subst (λ m. AreElements program capacity m type (trees (map tree_of ys))) next
      (subst (λ zs. AreElements program capacity (suc n) type (trees (map tree_of zs))) (sym e) (elements-add n type xs x all h))

  pub elements-none : (type : Ty) (xs : List Value) → xs ≡ [] → AreElements program capacity 0 type (trees (map tree_of xs))
  elements-none type xs e = subst (λ zs. AreElements program capacity 0 type (trees (map tree_of zs))) (sym e) AreElements.no_more

  pub elements-first : (n : ℕ) (type : Ty) (values : Trees) → 0 < n → AreElements program capacity n type values → (tree : Tree) × IsNought program capacity type tree
  elements-first zero type values lt all = absurd (omega (arith, lt))
  elements-first (suc n) type End lt all = elim all [ ]
  elements-first (suc n) type (And tree rest) lt (AreElements.one_more h hs) = (tree, h)

  noughts-add : (types : List Ty) (type : Ty) (xs : List Value) (x : Value) → AreNoughts program capacity types (trees (map tree_of xs)) → IsNought program capacity type (tree_of x)
      → AreNoughts program capacity (types ++ type ∷ []) (trees (map tree_of (xs ++ x ∷ [])))
  noughts-add [] type [] x AreNoughts.none h = AreNoughts.more h AreNoughts.none
  noughts-add [] type (y ∷ ys) x all h = elim all [ ]
  noughts-add (t ∷ types) type [] x all h = elim all [ ]
  noughts-add (t ∷ types) type (y ∷ ys) x (AreNoughts.more first rest) h = AreNoughts.more first (noughts-add types type ys x rest h)

  pub noughts-none : (xs : List Value) → xs ≡ [] → AreNoughts program capacity [] (trees (map tree_of xs))
  noughts-none xs e = subst (λ zs. AreNoughts program capacity [] (trees (map tree_of zs))) (sym e) AreNoughts.none

  pub noughts-push : (types more : List Ty) (type : Ty) (xs ys : List Value) (x : Value) → AreNoughts program capacity types (trees (map tree_of xs)) → IsNought program capacity type (tree_of x) → ys ≡ xs ++ x ∷ []
      → more ≡ types ++ type ∷ [] → AreNoughts program capacity more (trees (map tree_of ys))
  noughts-push types more type xs ys x all h e m =
      subst (λ ts. AreNoughts program capacity ts (trees (map tree_of ys))) (sym m)
      (subst (λ zs. AreNoughts program capacity (types ++ type ∷ []) (trees (map tree_of zs))) (sym e) (noughts-add types type xs x all h))

-- one more of a list that is mapped
pub map-more : {X Y : Type 0} (f : X → Y) (xs : List X) (i : ℕ) (x : X) → i < length xs → x ≡ get_or xs i x
    → map f (take (i + 1) xs) ≡ map f (take i xs) ++ f x ∷ []
map-more f xs i x lt is =
    ap (map f) (take_more xs i x lt ∙ ap (λ y. take i xs ++ y ∷ []) (sym is)) ∙ map-last (take i xs)
  where
    map-last : (ys : List _) → map f (ys ++ x ∷ []) ≡ map f ys ++ f x ∷ []
    map-last [] = refl
    map-last (y ∷ ys) = ap (λ zs. f y ∷ zs) (map-last ys)

-- ---- dimensions

dimensions-layer : (type : Ty) (x : Ty-F Ty) → out-Ty type ≡ x → dimensions type ≡ dimensions_step (map-Ty Ty ℕ dimensions x)
dimensions-layer type x e = fold_out-Ty ℕ dimensions_step type ∙ ap (λ y. dimensions_step (map-Ty Ty ℕ dimensions y)) e

second-true : (a b : Bool) → IsTrue (a && b) → IsTrue b
second-true true b h = h
second-true false b h = absurd (cc)

repeat-flat : (elem : Ty) → IsTrue (may_repeat elem) → 1 + dimensions elem ≤ 4
repeat-flat elem h = leb-true (1 + dimensions elem) 4 (second-true (is_element elem) (nat_le (1 + dimensions elem) 4) h)

none-flat : (type : Ty) → dimensions type ≡ 0 → dimensions type ≤ 4
none-flat type e = omega (arith, e)

pub field-flat : (type : Ty) → IsTrue (is_field_type type) → dimensions type ≤ 4
field-flat (ty.Num scalar) h = none-flat (ty.Num scalar) (dimensions-layer (ty.Num scalar) _ (outs-Num scalar))
field-flat (ty.Bits unit width) h = none-flat (ty.Bits unit width) (dimensions-layer (ty.Bits unit width) _ (outs-Bits unit width))
field-flat (ty.Opaque size align) h = none-flat (ty.Opaque size align) (dimensions-layer (ty.Opaque size align) _ (outs-Opaque size align))
field-flat (ty.Str count) h = none-flat (ty.Str count) (dimensions-layer (ty.Str count) _ (outs-Str count))
field-flat (ty.Ptr target kind reorder) h = none-flat (ty.Ptr target kind reorder) (dimensions-layer (ty.Ptr target kind reorder) _ (outs-Ptr target kind reorder))
field-flat (ty.Node node desc) h = none-flat (ty.Node node desc) (dimensions-layer (ty.Node node desc) _ (outs-Node node desc))
field-flat (ty.Arr' n shape elem) h =
    let layer = dimensions-layer (ty.Arr' n shape elem) _ (outs-Arr' n shape elem) in
    let shaped = subst (λ x. IsTrue (field_type_at x)) (outs-Arr' n shape elem) h in
    let le = repeat-flat _ (second-true (is_bound n) _ shaped) in
    omega (arith, layer, le)
field-flat (ty.Tail' count shape elem) h =
    let layer = dimensions-layer (ty.Tail' count shape elem) _ (outs-Tail' count shape elem) in
    let shaped = subst (λ x. IsTrue (field_type_at x)) (outs-Tail' count shape elem) h in
    let le = repeat-flat _ shaped in
    omega (arith, layer, le)

pub root-flat : (type : Ty) → IsTrue (is_root_type type) → dimensions type ≤ 4
root-flat (ty.Num scalar) h = none-flat (ty.Num scalar) (dimensions-layer (ty.Num scalar) _ (outs-Num scalar))
root-flat (ty.Bits unit width) h = none-flat (ty.Bits unit width) (dimensions-layer (ty.Bits unit width) _ (outs-Bits unit width))
root-flat (ty.Opaque size align) h = none-flat (ty.Opaque size align) (dimensions-layer (ty.Opaque size align) _ (outs-Opaque size align))
root-flat (ty.Str count) h = none-flat (ty.Str count) (dimensions-layer (ty.Str count) _ (outs-Str count))
root-flat (ty.Ptr target kind reorder) h = none-flat (ty.Ptr target kind reorder) (dimensions-layer (ty.Ptr target kind reorder) _ (outs-Ptr target kind reorder))
root-flat (ty.Node node desc) h = none-flat (ty.Node node desc) (dimensions-layer (ty.Node node desc) _ (outs-Node node desc))
root-flat (ty.Arr' n shape elem) h =
    let layer = dimensions-layer (ty.Arr' n shape elem) _ (outs-Arr' n shape elem) in
    let shaped = subst (λ x. IsTrue (root_type_at x)) (outs-Arr' n shape elem) h in
    let le = repeat-flat _ (second-true (is_bound n) _ shaped) in
    omega (arith, layer, le)
root-flat (ty.Tail' count shape elem) h = let none = ap root_type_at (outs-Tail' count shape elem) in absurd (cc)

pub fields-flat : (program : Program) (node : TypeId) (s : Structure) (fields : List Field) → Settled program → HasStructure program node s → fields ≡ s.fields → All (λ f. dimensions f.ty ≤ 4) fields
fields-flat program node s fields settled has e =
    subst (All (λ f. dimensions f.ty ≤ 4)) (sym e) (All-weaker (IsField program node s) (λ f. dimensions f.ty ≤ 4) (λ f field. field-flat f.ty field.shape) s.fields (settled.structures node s has).fields)

-- ---- the active member

one-of-both : (a b : Option ℕ) (place : ℕ) → first_place a b ≡ Some place → (a ≡ Some place) ⊎ (b ≡ Some place)
one-of-both None b place e = inr e
one-of-both (Some i) b place e = inl e

place-within : (p : Field → Bool) (fields : List Field) (place : ℕ) → position_from p 0 fields ≡ Some place → place < length fields
place-within p fields place e =
    let found = position-get p fields 0 place e in
    let lt = slice_get_within fields found.0 found.1 found.3 in
    omega (arith, lt, found.2)

pub active-within : (value : Option ℤ) (fields : List Field) (place : ℕ) → active_member value fields ≡ Some place → place < length fields
active-within value fields place e =
    elim (one-of-both (position_from (λ f. is_tag value f.active) 0 fields) (position_from (λ f. is_default f.active) 0 fields) place e) [
      | inl tagged ↦ place-within (λ f. is_tag value f.active) fields place tagged
      | inr default ↦ place-within (λ f. is_default f.active) fields place default
    ]

module _ {program : Program} {capacity : ℕ} where
  pub nought-member : (node : TypeId) (desc : Option Expr) (s : Structure) (place : ℕ) (f : Field) (tree : Tree) → HasStructure program node s → s.is_union ≡ true → active_member (zero_desc desc) s.fields ≡ Some place
      → slice_get s.fields place ≡ Some f → IsNought program capacity (ty.Node node desc) tree → (part : Tree) × IsNought program capacity f.ty part
  nought-member node desc s place f tree has union active get (IsNought.null p) = absurd (cc)
  nought-member node desc s place f tree has union active get (IsNought.struct {s = other} h u all) = let same : other ≡ s = cc in let struct = subst (λ x. x.is_union ≡ false) same u in absurd (cc)
  nought-member node desc s place f tree has union active get (IsNought.member {s = other} {place = q} {f = g} {tree = part} h u a got inner) =
      let same : other ≡ s = cc in
      let also : active_member (zero_desc desc) s.fields ≡ Some q = subst (λ x. active_member (zero_desc desc) x.fields ≡ Some q) same a in
      let at : q ≡ place = cc in
      let there : slice_get s.fields q ≡ Some g = subst (λ x. slice_get x.fields q ≡ Some g) same got in
      let here : slice_get s.fields place ≡ Some g = subst (λ i. slice_get s.fields i ≡ Some g) at there in
      let equal : g ≡ f = cc in
      (part, subst (λ x. IsNought program capacity x.ty part) equal inner)
  nought-member node desc s place f tree has union active get (IsNought.common {s = other} h u a c inner) =
      let same : other ≡ s = cc in
      let also = subst (λ x. active_member (zero_desc desc) x.fields ≡ None) same a in
      absurd (cc)
  nought-member node desc s place f tree has union active get (IsNought.nothing {s = other} h u a n) =
      let same : other ≡ s = cc in
      let also = subst (λ x. active_member (zero_desc desc) x.fields ≡ None) same a in
      absurd (cc)
  nought-member node desc s place f tree has union active get (IsNought.array e each) = let o = outs-Node node desc in absurd (cc)
  nought-member node desc s place f tree has union active get (IsNought.tail e v le each) = let o = outs-Node node desc in absurd (cc)

  pub nought-common : (node common : TypeId) (desc : Option Expr) (s : Structure) (tree : Tree) → Settled program → HasStructure program node s → s.is_union ≡ true → active_member (zero_desc desc) s.fields ≡ None
      → IsCommon program s common → IsNought program capacity (ty.Node node desc) tree → (part : Tree) × IsNought program capacity (ty.Node common None) part
  nought-common node common desc s tree settled has union active c (IsNought.null p) = absurd (cc)
  nought-common node common desc s tree settled has union active c (IsNought.struct {s = other} h u all) = let same : other ≡ s = cc in let struct = subst (λ x. x.is_union ≡ false) same u in absurd (cc)
  nought-common node common desc s tree settled has union active c (IsNought.member {s = other} {place} h u a got inner) =
      let same : other ≡ s = cc in
      let also = subst (λ x. active_member (zero_desc desc) x.fields ≡ Some place) same a in
      absurd (cc)
  nought-common node common desc s tree settled has union active c (IsNought.common {common = found} {s = other} {tree = part} h u a o inner) =
      let same : other ≡ s = cc in
      let equal = one-common program node s found common settled has (subst (λ x. IsCommon program x found) same o) c in
      (part, subst (λ n. IsNought program capacity (ty.Node n None) part) equal inner)
  nought-common node common desc s tree settled has union active c (IsNought.nothing {s = other} h u a n) =
      let same : s ≡ other = cc in
      absurd (n common (subst (λ x. IsCommon program x common) same c))
  nought-common node common desc s tree settled has union active c (IsNought.array e each) = let o = outs-Node node desc in absurd (cc)
  nought-common node common desc s tree settled has union active c (IsNought.tail e v le each) = let o = outs-Node node desc in absurd (cc)

-- ---- at a union

union-value : (desc : Option Expr) (s : Structure) (value : Option ℤ) (o : Option ℕ) → value ≡ zero_desc desc → o ≡ active_member value s.fields → active_member (zero_desc desc) s.fields ≡ o
union-value desc s value o v e = sym (e ∙ ap (λ x. active_member x s.fields) v)

pub union-at : (desc : Option Expr) (s : Structure) (fields : List Field) (value : Option ℤ) (place : ℕ) (d : Field) → fields ≡ s.fields → value ≡ zero_desc desc → active_member value s.fields ≡ Some place
    → (active_member (zero_desc desc) s.fields ≡ Some place) × (slice_get s.fields place ≡ Some (get_or fields place d))
union-at desc s fields value place d items v e = (
  union-value desc s value (Some place) v (sym e),
  slice_get-get_or s.fields place d (active-within value s.fields place e) ∙ ap (λ xs. Some (get_or xs place d)) (sym items),
)

none-by : (o : Option ℕ) → ((x : ℕ) → o ≡ Some x → ⊥) → o ≡ None
none-by None h = refl
none-by (Some x) h = absurd (h x refl)

pub union-none : (desc : Option Expr) (s : Structure) (value : Option ℤ) (o : Option ℕ) → value ≡ zero_desc desc → o ≡ active_member value s.fields → ((x : ℕ) → o ≡ Some x → ⊥) → active_member (zero_desc desc) s.fields ≡ None
union-none desc s value o v e none = union-value desc s value o v e ∙ none-by o none

pub common-within : (program : Program) → Settled program → (id : TypeId) (s : Structure) (common : TypeId) (depth : ℕ) → HasStructure program id s → IsWithinDepth program id.0 depth → IsCommon program s common
    → (common.0 < length program.structures) × (1 ≤ depth) × IsWithinDepth program common.0 (depth - 1)
common-within program settled id s common depth has shallow c =
    let m = c.member in
    node_within program m.0.ty common m.1 depth
    (All-contains (λ f. HoldsWithinDepth program f.ty depth) s.fields m.0 (shallow_fields program id.0 depth s s.fields settled has shallow refl) m.2) m.3

pub opaque-raw : (program : Program) (capacity : ℕ) (type : Ty) (size align : ℕ) (bytes : List ℕ) → type ≡ ty.Opaque size align → bytes ≡ replicate size 0 → IsNought program capacity type (tree_of (value.Raw bytes))
opaque-raw program capacity type size align bytes is e =
    subst (λ y. IsNought program capacity y (tree_of (value.Raw bytes))) (sym is)
    (subst (IsNought program capacity (ty.Opaque size align)) (sym (tree-raw bytes)) (IsNought.opaque e))
