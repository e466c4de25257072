-- The type of a leaf, by what it lies in.
use Rattle.std.proofs.Common.{◌≡◌, ℕ, Bool, List, refl, ap, sym, ◌∙◌, ◌⊎◌, inl, inr, Option, Some, None}
use Rattle.std.specs.Prelude.{slice_get}
use Rattle.gt_types.specs.declared.expressions.Expr.{Expr}
use Rattle.gt_types.specs.declared.types.TypeId.{TypeId}
use Rattle.gt_types.specs.declared.types.Ty.{Ty}
use Rattle.gt_types.specs.declared.types.Ty.TheVariants as ty
use Rattle.gt_types.specs.declared.types.Ty.TheVariants.{outs-Num, outs-Bits, outs-Opaque, outs-Str, outs-Ptr}
use Rattle.gt_types.specs.declared.program.Field.{Field}
use Rattle.gt_types.specs.declared.program.Root.{Root}
use Rattle.gt_types.specs.declared.program.Structure.{Structure}
use Rattle.gt_types.specs.declared.program.Program.{Program}
use Rattle.gt_types.specs.Shapes.{innermost}
use Rattle.gt_types.specs.Contains.{HasStructure}
use Rattle.gt_layout.specs.declared.planes.Plane.{Plane}
use Rattle.gt_layout.specs.declared.planes.FieldSpot.{FieldSpot}
use Rattle.gt_tree.specs.Trees.{Tree, Trees}
use Rattle.gt_tree.specs.Scopes.{Scope, ◌then◌}
use Rattle.gt_tree.proofs.Types.{innermost-node}
use Rattle.gt_tree.proofs.FixedScopes.{innermost-layer, innermost-array, innermost-tail}
use Rattle.gt_value.specs.declared.places.Holder.{Holder}
use Rattle.gt_value.specs.declared.places.Holder.TheVariants as lies_in
use Rattle.gt_value.specs.declared.places.LeafKind.{LeafKind}
use Rattle.gt_value.specs.Places.{Part, PartLies, StaticPartLies, leaf_kind}
use Rattle.gt_leaf.specs.HeldTypes.{held_type}

-- a leaf is no array
word-type : (type : Ty) (kind : LeafKind) → leaf_kind type ≡ Some kind → innermost type ≡ type
word-type (ty.Num scalar) kind e = innermost-layer (ty.Num scalar) _ (outs-Num scalar)
word-type (ty.Bits unit width) kind e = innermost-layer (ty.Bits unit width) _ (outs-Bits unit width)
word-type (ty.Opaque size align) kind e = innermost-layer (ty.Opaque size align) _ (outs-Opaque size align)
word-type (ty.Str count) kind e = innermost-layer (ty.Str count) _ (outs-Str count)
word-type (ty.Ptr target sort reorder) kind e = innermost-layer (ty.Ptr target sort reorder) _ (outs-Ptr target sort reorder)
word-type type kind e = absurd (cc)

-- nor a structure
word-node : {X : Type 0} (type : Ty) (node : TypeId) (desc : Option Expr) (kind : LeafKind) → leaf_kind type ≡ Some kind → innermost type ≡ innermost (ty.Node node desc) → X
word-node type node desc kind e same =
    let is : type ≡ ty.Node node desc = sym (word-type type kind e) ∙ same ∙ innermost-node node desc in
    let none : leaf_kind type ≡ None = ap leaf_kind is in
    absurd (cc)

module _ (program : Program) where
  -- a part lies in what is around it, or in a field inside that, and is of the type of what it lies in
  abbrev HeldIn : Holder → Ty → Part → Type 0
  HeldIn holder type p = ((p.holder ≡ holder) × (innermost p.type ≡ innermost type)) ⊎ (held_type program None p.holder ≡ Some (innermost p.type))

  in-field : (node : TypeId) (i : ℕ) (s : Structure) (f : Field) (p : Part) → HasStructure program node s → slice_get s.fields i ≡ Some f → HeldIn (lies_in.Field node i) f.ty p → held_type program None p.holder ≡ Some (innermost p.type)
  in-field node i s f p has get (inl here) =
      ap (held_type program None) here.0
      ∙ ap (λ o. o then λ (x : Structure). slice_get x.fields i then λ (y : Field). Some (innermost y.ty)) has
      ∙ ap (λ o. o then λ (y : Field). Some (innermost y.ty)) get
      ∙ ap Some (sym here.1)
  in-field node i s f p has get (inr inner) = inner

  through : (holder : Holder) (type elem : Ty) (p : Part) → innermost type ≡ innermost elem → HeldIn holder elem p → HeldIn holder type p
  through holder type elem p same (inl here) = inl (here.0, here.1 ∙ sym same)
  through holder type elem p same (inr inner) = inr inner

  past-common : (holder : Holder) (type : Ty) (common : TypeId) (p : Part) (kind : LeafKind) → leaf_kind p.type ≡ Some kind → HeldIn holder (ty.Node common None) p → HeldIn holder type p
  past-common holder type common p kind e (inl here) = word-node p.type common None kind e here.1
  past-common holder type common p kind e (inr inner) = inr inner

  module _ {planes : List Plane} where
    held-in : {scope : Scope} {holder : Holder} {active : Bool} {at : ℕ} {type : Ty} {tree : Tree} {path : List ℕ} {p : Part} → PartLies program planes scope holder active at type tree path p
        → (kind : LeafKind) → leaf_kind p.type ≡ Some kind → HeldIn holder type p
    held-in PartLies.whole kind e = inl (refl, refl)
    held-in (PartLies.field {i} {node} {s} {f} {p} has u g get spot there l) kind e = inr (in-field node i s f p has get (held-in l kind e))
    held-in (PartLies.member {i} {node} {s} {f} {p} has u get l) kind e = inr (in-field node i s f p has get (held-in l kind e))
    held-in (PartLies.common {holder} {node} {common} {desc} {p} has c l) kind e = past-common holder (ty.Node node desc) common p kind e (held-in l kind e)
    held-in (PartLies.array {holder} {n} {type} {elem} {p} o there l) kind e = through holder type elem p (innermost-array type elem n o) (held-in l kind e)
    held-in (PartLies.tail {holder} {length} {type} {elem} {p} o there l) kind e = through holder type elem p (innermost-tail type elem length o) (held-in l kind e)

  any-element : (element : Option Ty) (holder : Holder) (type : Ty) → held_type program None holder ≡ Some type → held_type program element holder ≡ Some type
  any-element element lies_in.Element type e = absurd (cc)
  any-element element (lies_in.Root i) type e = e
  any-element element (lies_in.Field node i) type e = e

  element-held : (type : Ty) (p : Part) (kind : LeafKind) → leaf_kind p.type ≡ Some kind → HeldIn lies_in.Element type p → held_type program (Some type) p.holder ≡ Some p.type
  element-held type p kind e (inl here) = ap (held_type program (Some type)) here.0 ∙ ap Some (sym here.1 ∙ word-type p.type kind e)
  element-held type p kind e (inr inner) = any-element (Some type) p.holder (innermost p.type) inner ∙ ap Some (word-type p.type kind e)

  root-held : (i : ℕ) (r : Root) (p : Part) (kind : LeafKind) → slice_get program.roots i ≡ Some r → leaf_kind p.type ≡ Some kind → HeldIn (lies_in.Root i) r.ty p → held_type program None p.holder ≡ Some p.type
  root-held i r p kind root e (inl here) =
      ap (held_type program None) here.0
      ∙ ap (λ o. o then λ (x : Root). Some (innermost x.ty)) root
      ∙ ap Some (sym here.1 ∙ word-type p.type kind e)
  root-held i r p kind root e (inr inner) = inner ∙ ap Some (word-type p.type kind e)

  pub type-there : {planes : List Plane} {scope : Scope} {active : Bool} {at : ℕ} {type : Ty} {tree : Tree} {path : List ℕ} {p : Part} → PartLies program planes scope lies_in.Element active at type tree path p
      → (kind : LeafKind) → leaf_kind p.type ≡ Some kind → held_type program (Some type) p.holder ≡ Some p.type
  type-there {type} {p} l kind e = element-held type p kind e (held-in l kind e)

  pub root-type-there : {planes : List Plane} {spots : List FieldSpot} {values : Trees} {path : List ℕ} {p : Part} → StaticPartLies program planes spots values path p
      → (kind : LeafKind) → leaf_kind p.type ≡ Some kind → held_type program None p.holder ≡ Some p.type
  root-type-there {p} l kind e = root-held l.i l.r p kind l.root e (held-in l.lies kind e)
