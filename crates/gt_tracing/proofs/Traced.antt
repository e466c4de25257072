-- On the bytes of a heap the walks of its program give its edges, where these are the bytes of a space.
use Rattle.gt_types.specs.declared.program.Program.{Program}
use Rattle.gt_types.specs.Settled.{Settled}
use Rattle.gt_layout.specs.declared.planes.Layouts.{Layouts}
use Rattle.gt_layout.specs.Excess.{IsWithin}
use Rattle.gt_layout.specs.Planes.{IsLaidOut}
use Rattle.gt_space.specs.Range.{IsSpace}
use Rattle.gt_graph.specs.Good.{Heap}
use Rattle.gt_objects.specs.declared.objects.Objects.{Objects}
use Rattle.gt_objects.specs.Holding.{IsHeapOf}
use Rattle.gt_walk.specs.declared.tables.Tables.{Tables}
use Rattle.gt_edges.specs.Tables.{AreTables}
use Rattle.gt_tracing.specs.Traces.{Traces}
use Rattle.gt_tracing.proofs.Aside.{leads_aside}
use Rattle.gt_tracing.proofs.Elements.{object_names, object_targets, slot_names}
use Rattle.gt_tracing.proofs.Roots.{roots_give, roots_name}

pub heap_traced : (program : Program) (layouts : Layouts) (tables : Tables) (objects : Objects) (heap : Heap) → Settled program → IsLaidOut program layouts → IsWithin program layouts → AreTables program layouts tables
    → IsSpace objects.space → IsHeapOf program layouts objects heap → Traces program tables objects.space objects.pages.slots heap.graph
heap_traced program layouts tables objects heap settled laid within are space is = record {
  blocks = slot_names program layouts tables settled laid are objects heap is space;
  distinct = is.good.graph.distinct;
  edges = λ o there. object_targets program layouts tables settled laid are objects heap is space o there;
  names = λ o there. object_names program layouts tables settled laid are objects heap is space o there;
  aside = λ o e there among elsewhere. leads_aside program layouts tables settled laid are objects heap is space o there e among elsewhere;
  roots = roots_give program layouts tables settled laid within are objects heap is space;
  root_names = roots_name program layouts tables settled laid within are objects heap is space;
}
