-- The text of what stands at the end of a path.
use Rattle.std.proofs.Common.{◌≡◌, ℕ, List, sym, subst, ◌∙◌, Some, Ok, Err, IfOk}
use Rattle.std.specs.declared.result.Result.{Result}
use Rattle.gt_types.specs.declared.types.Ty.{Ty}
use Rattle.gt_types.specs.declared.program.Program.{Program}
use Rattle.gt_layout.specs.declared.planes.Layouts.{Layouts}
use Rattle.gt_tree.specs.Trees.{Tree}
use Rattle.gt_tree.specs.Blocks.{Blocks}
use Rattle.gt_tree.specs.Scopes.{typed}
use Rattle.gt_tree.proofs.PathBits.{some-same}
use Rattle.gt_value.specs.declared.cursors.Cursor.{Cursor}
use Rattle.gt_show.specs.Shown.{Shows}
use Rattle.gt_show.specs.BlockTexts.{ShowsBlock}
use Rattle.gt_show.specs.Parts.{FitsSomewhere}
use Rattle.gt_graph.specs.Objects.{Object, object_of, blocks_of, elements_in}
use Rattle.gt_graph.specs.Changes.{Of}
use Rattle.gt_graph.specs.Good.{Heap}
use Rattle.gt_objects.specs.declared.objects.Objects.{Objects}
use Rattle.gt_objects.specs.Holding.{IsHeapOf}
use Rattle.gt_next.specs.Spots.{Spot, Standing, Whole, Value, standing_at}
use Rattle.gt_next.specs.Next.{ShowsStanding}
use Rattle.gt_routes.specs.declared.reaching.End.TheVariants as ends
use Rattle.gt_routes.specs.Reaching.{IsEndAt, IsValueAt}
use Rattle.gt_asking.proofs.Ends.{what-is, object-at}
use Rattle.gt_asking.proofs.PartFits.{value-fits}

module _ (program : Program) (layouts : Layouts) (objects : Objects) (at : Spot) {E : Type 0} (result : Result (List ℕ) E) where
  -- the text is that of what stands there, in each heap for which the bytes stand
  abbrev ShowsEnd : List ℕ → Type 0
  ShowsEnd text = (heap : Heap) (what : Standing) → IsHeapOf program layouts objects heap → standing_at program heap.graph at ≡ Some what → ShowsStanding program heap.graph.objects what text

  pub block-shown : (address : ℕ) → at.owner ≡ Of address → ((heap : Heap) → IsHeapOf program layouts objects heap → IsEndAt program layouts objects heap at ends.Object)
      → IfOk result (λ text. (heap : Heap) (o : Object) → IsHeapOf program layouts objects heap → object_of heap.graph.objects address ≡ Some o → ShowsBlock program (blocks_of heap.graph.objects) o.kind (elements_in o.value) text)
      → IfOk result (λ text. (heap : Heap) (what : Standing) → IsHeapOf program layouts objects heap → standing_at program heap.graph at ≡ Some what → ShowsStanding program heap.graph.objects what text)
  block-shown address owner end shows = go result shows
    where
      go : (r : Result (List ℕ) E)
          → IfOk r (λ text. (heap : Heap) (o : Object) → IsHeapOf program layouts objects heap → object_of heap.graph.objects address ≡ Some o → ShowsBlock program (blocks_of heap.graph.objects) o.kind (elements_in o.value) text)
          → IfOk r ShowsEnd
      go (Ok text) shown = λ heap what is e.
          let o = object-at program layouts objects heap at address owner (end heap is) in
          let same : Whole o.0 ≡ what = some-same (standing_at program heap.graph at) (Whole o.0) what o.2 e in
          subst (λ w. ShowsStanding program heap.graph.objects w text) same (ShowsStanding.a_block (shown heap o.0 is o.1))
      go (Err e) shown = tt

  pub value-shown : (c : Cursor) (blocks : Blocks) (type : Ty) (tree : Tree) → ((heap : Heap) → IsHeapOf program layouts objects heap → blocks ≡ blocks_of heap.graph.objects) → type ≡ c.ty.now
      → ((heap : Heap) → IsHeapOf program layouts objects heap → (v : IsValueAt program layouts objects heap at c) × (tree ≡ v.here.here.p.tree)) → IfOk result (λ text. Shows program blocks type tree text)
      → IfOk result (λ text. (heap : Heap) (what : Standing) → IsHeapOf program layouts objects heap → standing_at program heap.graph at ≡ Some what → ShowsStanding program heap.graph.objects what text)
  value-shown c blocks type tree named types end shows = go result shows
    where
      go : (r : Result (List ℕ) E) → IfOk r (λ text. Shows program blocks type tree text) → IfOk r ShowsEnd
      go (Ok text) shown = λ heap what is e.
          let v = (end heap is).0 in
          let p = v.here.here.p in
          let kinds : type ≡ p.type = types ∙ v.here.here.is.type_is in
          let one = subst (λ b. Shows program b type tree text) (named heap is) shown in
          let two = subst (λ t. Shows program (blocks_of heap.graph.objects) t tree text) kinds one in
          let three = subst (λ t. Shows program (blocks_of heap.graph.objects) p.type t text) (end heap is).1 two in
          let text_of : ShowsStanding program heap.graph.objects (Value (typed p.type p.tree)) text = ShowsStanding.a_value three in
          subst (λ w. ShowsStanding program heap.graph.objects w text) (what-is program layouts objects heap at c v what e) text_of
      go (Err e) shown = tt

-- a value that was read fits where its cursor stands
pub read-fits : (program : Program) (layouts : Layouts) (objects : Objects) (heap : Heap) (at : Spot) (c : Cursor) (blocks : Blocks) (type : Ty) (tree : Tree) → IsHeapOf program layouts objects heap
    → (v : IsValueAt program layouts objects heap at c) → blocks ≡ blocks_of heap.graph.objects → type ≡ c.ty.now → tree ≡ v.here.here.p.tree → FitsSomewhere program blocks type tree
read-fits program layouts objects heap at c blocks type tree is v named types trees =
    let p = v.here.here.p in
    let fits = value-fits program layouts objects heap at c is.good.graph v in
    let kinds : type ≡ p.type = types ∙ v.here.here.is.type_is in
    subst (λ b. FitsSomewhere program b type tree) (sym named) (subst (λ t. FitsSomewhere program (blocks_of heap.graph.objects) t tree) (sym kinds) (subst (λ t. FitsSomewhere program (blocks_of heap.graph.objects) p.type t) (sym trees) fits))
