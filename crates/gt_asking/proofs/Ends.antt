-- What stands at the end of a path, and what is read there.
use Rattle.std.proofs.Common.{◌≡◌, ℕ, ℤ, true, false, ap, sym, subst, ◌∙◌, Some, refl}
use Rattle.std.specs.Prelude.{◌==◌, length}
use Rattle.std.proofs.lemmas.Bool.{eq-eqb}
use Rattle.gt_types.specs.declared.types.Ty.{Ty}
use Rattle.gt_types.specs.declared.program.Program.{Program}
use Rattle.gt_layout.specs.declared.planes.Layouts.{Layouts}
use Rattle.gt_tree.specs.Trees.{Tree, Num, Null, To, Raw, Rec, Alt, Row, is_word}
use Rattle.gt_tree.specs.Blocks.{Block, Blocks}
use Rattle.gt_tree.specs.Scopes.{typed, eval_in}
use Rattle.gt_tree.specs.Fits.{Fits}
use Rattle.gt_tree.proofs.FixedParts.{named}
use Rattle.gt_tree.proofs.PathBits.{some-same}
use Rattle.gt_value.specs.declared.cursors.Cursor.{Cursor}
use Rattle.gt_value.specs.declared.places.LeafContent.TheVariants as content
use Rattle.gt_value.specs.Places.{IsContentOf}
use Rattle.gt_graph.specs.Objects.{Object, object_of, blocks_of}
use Rattle.gt_graph.specs.Changes.{Of}
use Rattle.gt_graph.specs.Good.{Heap, IsGraph}
use Rattle.gt_objects.specs.declared.objects.Objects.{Objects}
use Rattle.gt_objects.proofs.Naming.{object_of_block}
use Rattle.gt_next.specs.Spots.{Spot, Standing, Whole, Value, standing_at}
use Rattle.gt_next.specs.Leaves.{Got, IsNumber, IsNull, IsObject, Reads}
use Rattle.gt_routes.specs.declared.reaching.End.{End}
use Rattle.gt_routes.specs.declared.reaching.End.TheVariants as ends
use Rattle.gt_routes.specs.Reaching.{IsEndAt, IsValueAt}
use Rattle.gt_routes.proofs.Targets.{null-content, to-content}
use Rattle.gt_routes.proofs.SpotParts.{then-some}
use Rattle.gt_show.specs.Parts.{FitsSomewhere}
use Rattle.gt_asking.proofs.PartFits.{value-fits}

-- something stands there
pub end-stands : (program : Program) (layouts : Layouts) (objects : Objects) (heap : Heap) (at : Spot) (end : End) → IsEndAt program layouts objects heap at end → (what : Standing) × (standing_at program heap.graph at ≡ Some what)
end-stands program layouts objects heap at ends.Object (o, same, there) = (Whole o, there)
end-stands program layouts objects heap at (ends.Value c) v = (Value (typed v.here.here.p.type v.here.here.p.tree), v.standing)

-- an object as a whole is read as such
pub whole-read : (program : Program) (layouts : Layouts) (objects : Objects) (heap : Heap) (at : Spot) (address : ℕ) (what : Standing) → at.owner ≡ Of address → IsEndAt program layouts objects heap at ends.Object
    → standing_at program heap.graph at ≡ Some what → Reads what (IsObject address)
whole-read program layouts objects heap at address what owner (o, same, there) e =
    let is : Whole o ≡ what = some-same (standing_at program heap.graph at) (Whole o) what there e in
    let owners : at.owner ≡ Of o.id = ap (λ s. s.owner) same in
    let ids : o.id ≡ address = cc in
    subst (λ i. Reads what (IsObject i)) ids (subst (λ w. Reads w (IsObject o.id)) is Reads.whole)

no-number : (tree : Tree) (n : ℤ) → is_word tree ≡ false → IsContentOf (content.Num n) tree → ⊥
no-number (Num m) n e h = cc
no-number Null n e h = h
no-number (To id) n e h = h
no-number (Raw bytes) n e h = let word : (length bytes == 8) ≡ true = eq-eqb (length bytes) 8 h.0 in cc
no-number (Rec trees) n e h = h
no-number (Alt member tree) n e h = h
no-number (Row trees) n e h = h

no-read : (type : Ty) (tree : Tree) → is_word tree ≡ false → (got : Got) → ¬ Reads (Value (typed type tree)) got
no-read type tree e got (Reads.number {n} h) = no-number tree n e h
no-read type tree e got Reads.null = cc
no-read type tree e got Reads.pointed = cc

module _ (program : Program) (layouts : Layouts) (objects : Objects) (heap : Heap) (at : Spot) (c : Cursor) (v : IsValueAt program layouts objects heap at c) (what : Standing) (e : standing_at program heap.graph at ≡ Some what) where
  pub what-is : Value (typed v.here.here.p.type v.here.here.p.tree) ≡ what
  what-is = some-same (standing_at program heap.graph at) (Value (typed v.here.here.p.type v.here.here.p.tree)) what v.standing e

  reads-so : (got : Got) → Reads (Value (typed v.here.here.p.type v.here.here.p.tree)) got → Reads what got
  reads-so got r = subst (λ w. Reads w got) what-is r

  pub none-read : is_word v.here.here.p.tree ≡ false → (got : Got) → ¬ Reads what got
  none-read none got r = no-read v.here.here.p.type v.here.here.p.tree none got (subst (λ w. Reads w got) (sym what-is) r)

  pub number-read : (n : ℤ) → IsContentOf (content.Num n) v.here.here.p.tree → Reads what (IsNumber n)
  number-read n h = reads-so (IsNumber n) (Reads.number h)

  pub null-read : IsContentOf content.Null v.here.here.p.tree → Reads what IsNull
  null-read h =
      let null = null-content v.here.here.p.tree h in reads-so IsNull (subst (λ t. Reads (Value (typed v.here.here.p.type t)) IsNull) (sym null) Reads.null)

  pub to-read : (address : ℕ) → IsContentOf (content.To address) v.here.here.p.tree → Reads what (IsObject address)
  to-read address h =
      let to = to-content v.here.here.p.tree address h in reads-so (IsObject address) (subst (λ t. Reads (Value (typed v.here.here.p.type t)) (IsObject address)) (sym to) Reads.pointed)

-- ---- an object that is read is there

to-named : (program : Program) (blocks : Blocks) (type : Ty) (id : ℕ) → FitsSomewhere program blocks type (To id) → (b : Block) × (blocks id ≡ Some b)
to-named program blocks type id (scope, capacity, Fits.to m) = named blocks (eval_in program scope) type id m

reads-to : (type : Ty) (tree : Tree) (id : ℕ) → Reads (Value (typed type tree)) (IsObject id) → tree ≡ To id
reads-to type tree id Reads.pointed = refl

reads-whole : (o : Object) (id : ℕ) → Reads (Whole o) (IsObject id) → o.id ≡ id
reads-whole o id Reads.whole = refl

whole-of : (o x : Object) → Some (Whole x) ≡ Some (Whole o) → x ≡ o
whole-of o x e = cc

-- the object at the address, which stands as a whole
pub object-at : (program : Program) (layouts : Layouts) (objects : Objects) (heap : Heap) (at : Spot) (address : ℕ) → at.owner ≡ Of address → IsEndAt program layouts objects heap at ends.Object
    → (o : Object) × (object_of heap.graph.objects address ≡ Some o) × (standing_at program heap.graph at ≡ Some (Whole o))
object-at program layouts objects heap at address owner (o, same, there) =
    let here = subst (λ s. standing_at program heap.graph s ≡ Some (Whole o)) same there in
    let found = then-some (object_of heap.graph.objects o.id) (λ x. Some (Whole x)) (Whole o) here in
    let is : found.0 ≡ o = whole-of o found.0 found.2 in
    let owners : at.owner ≡ Of o.id = ap (λ s. s.owner) same in
    let ids : o.id ≡ address = cc in
    (o, subst (λ i. object_of heap.graph.objects i ≡ Some o) ids (found.1 ∙ ap Some is), there)

pub object-there : (program : Program) (layouts : Layouts) (objects : Objects) (heap : Heap) (at : Spot) (end : End) (what : Standing) (id : ℕ) → IsGraph program heap.graph → IsEndAt program layouts objects heap at end
    → standing_at program heap.graph at ≡ Some what → Reads what (IsObject id) → (o : Object) × (object_of heap.graph.objects id ≡ Some o)
object-there program layouts objects heap at ends.Object what id good (o, same, there) e r =
    let is : what ≡ Whole o = some-same (standing_at program heap.graph at) what (Whole o) e there in
    let ids : o.id ≡ id = reads-whole o id (subst (λ w. Reads w (IsObject id)) is r) in
    let here = subst (λ s. standing_at program heap.graph s ≡ Some (Whole o)) same there in
    let found = then-some (object_of heap.graph.objects o.id) (λ x. Some (Whole x)) (Whole o) here in
    (found.0, subst (λ i. object_of heap.graph.objects i ≡ Some found.0) ids found.1)
object-there program layouts objects heap at (ends.Value c) what id good v e r =
    let p = v.here.here.p in
    let is = what-is program layouts objects heap at c v what e in
    let to : p.tree ≡ To id = reads-to p.type p.tree id (subst (λ w. Reads w (IsObject id)) (sym is) r) in
    let fits = subst (FitsSomewhere program (blocks_of heap.graph.objects) p.type) to (value-fits program layouts objects heap at c good v) in
    let b = to-named program (blocks_of heap.graph.objects) p.type id fits in
    let o = object_of_block heap.graph.objects id b.0 b.1 in
    (o.0, o.1)
