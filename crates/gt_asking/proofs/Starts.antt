-- Where paths start, and where they lead from there.
use Rattle.std.proofs.Common.{◌≡◌, ℕ, List, arith, sym, subst, Option, Some, None, Ok, Err, OnOk}
use Rattle.std.specs.declared.result.Result.{Result}
use Rattle.std.specs.Str.{bytes_eq}
use Rattle.gt_types.specs.declared.program.Program.{Program}
use Rattle.gt_types.specs.declared.program.Root.{Root}
use Rattle.gt_layout.specs.declared.planes.Layouts.{Layouts}
use Rattle.gt_script.specs.declared.command.Hop.{Hop}
use Rattle.gt_script.specs.declared.command.Route.{Route}
use Rattle.std.specs.Prelude.{slice_get}
use Rattle.gt_tree.proofs.PathBits.{position-get}
use Rattle.gt_io.specs.Held.{Held}
use Rattle.gt_graph.specs.Objects.{Object, object_of}
use Rattle.gt_graph.specs.Good.{Heap}
use Rattle.gt_objects.specs.declared.objects.Objects.{Objects}
use Rattle.gt_objects.specs.declared.objects.Known.{Known}
use Rattle.gt_objects.specs.Holding.{IsHeapOf}
use Rattle.gt_objects.specs.InBytes.{known_in}
use Rattle.gt_objects.specs.Knowing.{IsKnownAt}
use Rattle.gt_objects.proofs.Finding.{known_is}
use Rattle.gt_next.specs.States.{State}
use Rattle.gt_next.specs.Paths.{root_of, Begins, Leads, Walks}
use Rattle.gt_routes.specs.declared.reaching.Reached.{Reached}
use Rattle.gt_routes.specs.declared.reaching.Start.{Start}
use Rattle.gt_routes.specs.declared.steps.WalkFail.{WalkFail}
use Rattle.gt_routes.specs.Reaching.{spot_of, start_of}
use Rattle.gt_session.specs.declared.session.Session.{Session}
use Rattle.gt_session.specs.Sessions.{StandsFor}

-- an object of a heap is one of each heap for which the same bytes stand
pub object-in : (program : Program) (layouts : Layouts) (objects : Objects) (heap other : Heap) → IsHeapOf program layouts objects heap → IsHeapOf program layouts objects other
    → (address : ℕ) (o : Object) → object_of heap.graph.objects address ≡ Some o → (x : Object) × (object_of other.graph.objects address ≡ Some x)
object-in program layouts objects heap other is also address o e = by-known (known_in objects address) (known_is program layouts objects heap is address) (known_is program layouts objects other also address)
  where
    by-known : (k : Option Known) → IsKnownAt heap.graph.objects address k → IsKnownAt other.graph.objects address k → (x : Object) × (object_of other.graph.objects address ≡ Some x)
    by-known None h i = absurd (cc)
    by-known (Some known) h (x, there, k) = (x, there)

-- the root at the place of a name
pub root-there : (program : Program) (name : List ℕ) (place : ℕ) → root_of program name ≡ Some place → (r : Root) × (slice_get program.roots place ≡ Some r)
root-there program name place e =
    let found = position-get (λ (r : Root). bytes_eq r.name name) program.roots 0 place e in
    let there : place ≡ found.0 = omega (arith, found.2) in
    (found.1, subst (λ i. slice_get program.roots i ≡ Some found.1) (sym there) found.3)

-- a path leads where its steps lead from where it begins
pub leads-all : (session : Session) (path : Route) (start : Start) (hops : List Hop) → hops ≡ path.steps → (result : Result (Unit {0}) WalkFail) (to : Reached)
    → ((told : Option Held) (state : State) → StandsFor session told state → Begins session.schema.program state path (start_of start))
    → OnOk result ((heap : Heap) → IsHeapOf session.schema.program session.schema.layouts session.objects heap → Walks session.schema.program heap.graph (start_of start) hops (spot_of to))
    → OnOk result ((told : Option Held) (state : State) → StandsFor session told state → Leads session.schema.program state path (spot_of to))
leads-all session path start hops same (Ok done) to begins walks = λ told state st. record { start = start_of start; begins = begins told state st; walks = subst (λ hs. Walks session.schema.program state.heap.graph (start_of start) hs (spot_of to)) same (walks state.heap st.holds.heap) }
leads-all session path start hops same (Err e) to begins walks = tt
