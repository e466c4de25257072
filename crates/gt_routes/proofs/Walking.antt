-- A path walked step by step.
use Rattle.std.proofs.Common.{◌≡◌, List, [], ◌∷◌, sym, subst}
use Rattle.gt_types.specs.declared.program.Program.{Program}
use Rattle.gt_layout.specs.declared.planes.Layouts.{Layouts}
use Rattle.gt_script.specs.declared.command.Hop.{Hop}
use Rattle.gt_graph.specs.Good.{Heap}
use Rattle.gt_objects.specs.declared.objects.Objects.{Objects}
use Rattle.gt_objects.specs.Holding.{IsHeapOf}
use Rattle.gt_next.specs.declared.answer.Why.{Why}
use Rattle.gt_next.specs.Spots.{Spot}
use Rattle.gt_next.specs.Paths.{Steps, RefusesStep, Walks, RefusesWalk}
use Rattle.gt_routes.specs.declared.reaching.Reached.{Reached}
use Rattle.gt_routes.specs.Reaching.{spot_of, IsEndAt, IsFirstIn, EndsInFirst}

-- the steps that were taken lead to what stands here: what those that are left do from here, all do from the start
pub record HasWalked (program : Program) (layouts : Layouts) (objects : Objects) (start : Spot) (hops left : List Hop) (at : Reached) : Type 0 where
  pub ends : (heap : Heap) → IsHeapOf program layouts objects heap → IsEndAt program layouts objects heap (spot_of at) at.end
  pub first : (heap : Heap) → IsHeapOf program layouts objects heap → IsFirstIn program layouts objects heap at
  pub inside : EndsInFirst program layouts objects at
  pub leads : (heap : Heap) → IsHeapOf program layouts objects heap → (to : Spot) → Walks program heap.graph (spot_of at) left to → Walks program heap.graph start hops to
  pub refuses : (heap : Heap) → IsHeapOf program layouts objects heap → (why : Why) → RefusesWalk program heap.graph (spot_of at) left why → RefusesWalk program heap.graph start hops why

module _ (program : Program) (layouts : Layouts) (objects : Objects) (start : Spot) (hops : List Hop) where
  pub walked-none : (left : List Hop) → left ≡ hops → (at : Reached) → spot_of at ≡ start → ((heap : Heap) → IsHeapOf program layouts objects heap → IsEndAt program layouts objects heap (spot_of at) at.end)
      → ((heap : Heap) → IsHeapOf program layouts objects heap → IsFirstIn program layouts objects heap at) → EndsInFirst program layouts objects at → HasWalked program layouts objects start hops left at
  walked-none left all at e ends first inside = record {
    ends = ends;
    first = first;
    inside = inside;
    leads = λ heap is to w. subst (λ hs. Walks program heap.graph start hs to) all (subst (λ s. Walks program heap.graph s left to) e w);
    refuses = λ heap is why r. subst (λ hs. RefusesWalk program heap.graph start hs why) all (subst (λ s. RefusesWalk program heap.graph s left why) e r);
  }

  module _ (left : List Hop) (at : Reached) (w : HasWalked program layouts objects start hops left at) where
    module _ (hop : Hop) (others : List Hop) (item : left ≡ hop ∷ others) where
      pub walked-more : (next : Reached) → ((heap : Heap) → IsHeapOf program layouts objects heap → Steps program heap.graph (spot_of at) hop (spot_of next))
          → ((heap : Heap) → IsHeapOf program layouts objects heap → IsEndAt program layouts objects heap (spot_of next) next.end)
          → ((heap : Heap) → IsHeapOf program layouts objects heap → IsFirstIn program layouts objects heap next) → EndsInFirst program layouts objects next → HasWalked program layouts objects start hops others next
      walked-more next steps ends first inside = record {
        ends = ends;
        first = first;
        inside = inside;
        leads = λ heap is to more. w.leads heap is to (subst (λ hs. Walks program heap.graph (spot_of at) hs to) (sym item) (Walks.onward (steps heap is) more));
        refuses = λ heap is why r. w.refuses heap is why (subst (λ hs. RefusesWalk program heap.graph (spot_of at) hs why) (sym item) (RefusesWalk.later (steps heap is) r));
      }

      pub walked-stops : (why : Why) (heap : Heap) → IsHeapOf program layouts objects heap → RefusesStep program heap.graph (spot_of at) hop why → RefusesWalk program heap.graph start hops why
      walked-stops why heap is r = w.refuses heap is why (subst (λ hs. RefusesWalk program heap.graph (spot_of at) hs why) (sym item) (RefusesWalk.here r))

    pub walked-all : left ≡ [] → (heap : Heap) → IsHeapOf program layouts objects heap → Walks program heap.graph start hops (spot_of at)
    walked-all none heap is = w.leads heap is (spot_of at) (subst (λ hs. Walks program heap.graph (spot_of at) hs (spot_of at)) (sym none) Walks.there)
