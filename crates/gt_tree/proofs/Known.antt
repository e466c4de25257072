-- The leaves of a value of any type of a program.
use Rattle.std.proofs.Common.{◌≡◌, ℕ, ◌+◌, ◌*◌, false, List, refl, ap, sym, subst, ◌∙◌, Some, None, le_refl}
use Rattle.std.specs.Prelude.{slice_get}
use Rattle.std.proofs.lemmas.List.Elements.{All-contains}
use Rattle.gt_types.specs.declared.expressions.Expr.{Expr}
use Rattle.gt_types.specs.declared.types.TypeId.{TypeId}
use Rattle.gt_types.specs.declared.types.Ty.{Ty, out-Ty}
use Rattle.gt_types.specs.declared.types.Ty.TheOpen as part
use Rattle.gt_types.specs.declared.types.Ty.TheVariants as ty
use Rattle.gt_types.specs.declared.types.Ty.TheVariants.{outs-Num, outs-Opaque, outs-Str, outs-Ptr, outs-Node, outs-Arr', outs-Tail'}
use Rattle.gt_types.specs.declared.program.Program.{Program}
use Rattle.gt_types.specs.Shapes.{is_structure, is_tail}
use Rattle.gt_types.specs.Contains.{held_by}
use Rattle.gt_types.specs.Tails.{IsTailType, elements_at, elements_of}
use Rattle.gt_types.specs.Settled.{Settled, IsField, IsRoot}
use Rattle.gt_layout.specs.declared.planes.Plane.{Plane}
use Rattle.gt_layout.specs.declared.planes.Layouts.{Layouts}
use Rattle.gt_layout.specs.Planes.{IsLaidOut}
use Rattle.gt_tree.specs.Trees.{count}
use Rattle.gt_tree.specs.Blocks.{Kind, Nodes, Pointers, Strings, Chars, Raw, desc_of, element_type}
use Rattle.gt_tree.specs.LeafLaws.{IsTypeIn, IsWidth, bytes_with, ValueIsPlaced, ElementsArePlaced}
use Rattle.gt_tree.proofs.Types.{Plain, Plain-pointer, Plain-number, Plain-elem, Plain-field, Plain-tail, Plain-root, plain_at, is_bits}
use Rattle.gt_tree.proofs.Rooms.{Room}
use Rattle.gt_tree.proofs.Ordered.{chain, chain_each}
use Rattle.gt_tree.proofs.Placed.{placed}

-- what is known of a type of a program
pub record Known (program : Program) (type : Ty) : Type 0 where
  pub flat : is_structure type ≡ false → is_bits type ≡ false → is_tail type ≡ false → Plain program type
  pub elems : (long : Expr) (elem : Ty) → out-Ty type ≡ part.Tail long elem → Plain program elem

no_structure-array : (type elem : Ty) (n : ℕ) → out-Ty type ≡ part.Arr n elem → (is_structure type ≡ false) × (is_bits type ≡ false) × (is_tail type ≡ false)
no_structure-array (ty.Node node desc) elem n e = let o = outs-Node node desc in absurd (cc)
no_structure-array (ty.Bits unit width) elem n e = let o = Rattle.gt_types.specs.declared.types.Ty.TheVariants.outs-Bits unit width in absurd (cc)
no_structure-array (ty.Tail' count shape elem') elem n e = let o = outs-Tail' count shape elem' in absurd (cc)
no_structure-array type elem n e = (refl, refl, refl)

no_structure-tail : (type elem : Ty) (long : Expr) → out-Ty type ≡ part.Tail long elem → is_structure type ≡ false
no_structure-tail (ty.Node node desc) elem long e = let o = outs-Node node desc in absurd (cc)
no_structure-tail (ty.Num scalar) elem long e = refl
no_structure-tail type elem long e = refl

Known-plain : (program : Program) (type : Ty) → Plain program type → Known program type
Known-plain program type p = record {
  flat = λ s b t. p;
  elems = λ long elem e. let o = ap plain_at e in let s = p.shape in absurd (cc);
}

known-kind : (program : Program) (kind : Kind) → Known program (element_type program kind)
known-kind program (Nodes node) = record {
  flat = λ s b t. absurd (cc);
  elems = λ long elem e. let o = outs-Node node (desc_of (slice_get program.structures node.0)) in absurd (cc);
}
known-kind program (Pointers node) = Known-plain program (element_type program (Pointers node)) (Plain-pointer program (element_type program (Pointers node)) refl)
known-kind program Strings = Known-plain program (element_type program Strings) (Plain-pointer program (element_type program Strings) refl)
known-kind program Chars = Known-plain program (element_type program Chars) (Plain-number program _)
known-kind program Raw = Known-plain program (element_type program Raw) (Plain-number program _)

pub known : (program : Program) → Settled program → {type : Ty} → IsTypeIn program type → Known program type
known program settled (IsTypeIn.of_field node s f has contains) =
    let field = All-contains (IsField program node s) s.fields f (settled.structures node s has).fields contains in
    let whole : is_structure f.ty ≡ false → (n : TypeId) → held_by f.ty ≡ Some n → ¬ IsTailType program n =
    λ (off : is_structure f.ty ≡ false) (n : TypeId) (held : held_by f.ty ≡ Some n) (t : IsTailType program n). let i = (field.tails n held t).1 in absurd (cc) in
    record {
      flat = λ off b t. Plain-field program f.ty field.shape b t (whole off);
      elems = λ long elem e. Plain-tail program f.ty elem long e field.shape (whole (no_structure-tail f.ty elem long e));
    }
known program settled (IsTypeIn.of_root r contains) =
    let root = All-contains (IsRoot program) program.roots r settled.roots contains in
    Known-plain program r.ty (Plain-root program r.ty root.shape (λ n held t. (root.whole n held).1 t))
known program settled (IsTypeIn.of_block kind) = known-kind program kind
known program settled (IsTypeIn.of_array {type} {elem} {n} parent e) =
    let k = known program settled parent in
    let free = no_structure-array type elem n e in
    Known-plain program elem (Plain-elem program type elem n e (k.flat free.0 free.1 free.2))
known program settled (IsTypeIn.of_tail {type} {elem} {length} parent e) =
    let k = known program settled parent in
    Known-plain program elem (k.elems length elem e)

-- no elements but of an array with a length
elements-none : (type : Ty) → is_bits type ≡ false → is_tail type ≡ false → elements_of type ≡ None
elements-none (ty.Num scalar) b t = ap elements_at (outs-Num scalar)
elements-none (ty.Bits unit width) b t = cc
elements-none (ty.Opaque size align) b t = ap elements_at (outs-Opaque size align)
elements-none (ty.Str count) b t = ap elements_at (outs-Str count)
elements-none (ty.Ptr target kind reorder) b t = ap elements_at (outs-Ptr target kind reorder)
elements-none (ty.Node node desc) b t = ap elements_at (outs-Node node desc)
elements-none (ty.Arr' n shape elem) b t = ap elements_at (outs-Arr' n shape elem)
elements-none (ty.Tail' count shape elem) b t = cc

room-flat : (program : Program) (planes : List Plane) (capacity : ℕ) (type : Ty) (width : ℕ) → Plain program type → elements_of type ≡ None
    → width ≡ 8 * bytes_with planes capacity type (elements_of type) → Room program planes capacity type width
room-flat program planes capacity type width p none e =
    subst (λ n. Room program planes capacity type n) (sym (e ∙ ap (λ o. 8 * bytes_with planes capacity type o) none)) (Room.plain p)

room-elems : (program : Program) (planes : List Plane) (capacity : ℕ) (type elem : Ty) (long : Expr) (width : ℕ) → out-Ty type ≡ part.Tail long elem → Plain program elem
    → width ≡ 8 * bytes_with planes capacity type (elements_of type) → Room program planes capacity type width
room-elems program planes capacity type elem long width o p e =
    subst (λ n. Room program planes capacity type n) (sym (e ∙ ap (λ x. 8 * bytes_with planes capacity type (elements_at x)) o)) (Room.tail o p)

pub room-width : (program : Program) (planes : List Plane) (capacity : ℕ) (type : Ty) (width : ℕ) → Known program type → IsWidth program planes capacity type width → Room program planes capacity type width
room-width program planes capacity (ty.Node node desc) width k (size, sized, e) = subst (λ n. Room program planes capacity (ty.Node node desc) n) (sym e) (Room.sized sized)
room-width program planes capacity (ty.Bits unit count) width k e = subst (λ n. Room program planes capacity (ty.Bits unit count) n) (sym e) Room.bits
room-width program planes capacity (ty.Tail' count shape elem) width k e =
    room-elems program planes capacity (ty.Tail' count shape elem) _ count width (outs-Tail' count shape elem) (k.elems count _ (outs-Tail' count shape elem)) e
room-width program planes capacity type width k e = room-flat program planes capacity type width (k.flat refl refl refl) (elements-none type refl refl) e

pub value-placed : (program : Program) (layouts : Layouts) → Settled program → IsLaidOut program layouts → ValueIsPlaced program layouts
value-placed program layouts settled laid blocks capacity scope type width at tree leaves known_type wide fits has =
    placed at (at + width) leaves
    (chain program layouts.structures blocks capacity settled laid.structures has scope width fits (room-width program layouts.structures capacity type width (known program settled known_type) wide))

pub elements-placed : (program : Program) (layouts : Layouts) → Settled program → IsLaidOut program layouts → ElementsArePlaced program layouts
elements-placed program layouts settled laid blocks capacity scope type width at trees leaves known_type wide fits has =
    placed at (at + count trees * width) leaves
    (chain_each program layouts.structures blocks capacity settled laid.structures has scope width fits (room-width program layouts.structures capacity type width (known program settled known_type) wide) (le_refl width))
