-- What is known already of a block is what pages and directory know of it.
use Rattle.std.proofs.Common.{◌≡◌, ℕ, Option, Some, None, refl, ap, sym, subst, ◌∙◌}
use Rattle.gt_types.specs.declared.program.Program.{Program}
use Rattle.gt_layout.specs.declared.planes.Layouts.{Layouts}
use Rattle.gt_tree.specs.Blocks.{Kind, Nodes, Pointers, Strings, Chars, Raw}
use Rattle.gt_tree.proofs.PathBits.{some-same}
use Rattle.gt_value.specs.declared.names.BlockKind.{BlockKind}
use Rattle.gt_value.specs.declared.names.BlockKind.TheVariants as told
use Rattle.gt_value.specs.Names.{kind_of}
use Rattle.gt_graph.specs.Objects.{Object, object_of}
use Rattle.gt_graph.specs.Good.{Heap}
use Rattle.gt_objects.specs.declared.objects.Known.{Known}
use Rattle.gt_objects.specs.declared.objects.Objects.{Objects}
use Rattle.gt_objects.specs.Holding.{IsHeapOf}
use Rattle.gt_objects.specs.InBytes.{known_in}
use Rattle.gt_objects.specs.Knowing.{IsKnown, IsKnownAt}
use Rattle.gt_objects.proofs.Finding.{known_is}
use Rattle.gt_writes.specs.declared.found.Target.{Target}
use Rattle.gt_writes.specs.FoundLeaves.{IsTarget}

abbrev kind-from : Kind → BlockKind
kind-from (Nodes node) = told.Nodes node
kind-from (Pointers node) = told.Pointers node
kind-from Strings = told.Strings
kind-from Chars = told.Chars
kind-from Raw = told.Raw

back : (kind : BlockKind) → kind-from (kind_of kind) ≡ kind
back (told.Nodes node) = refl
back (told.Pointers node) = refl
back told.Strings = refl
back told.Chars = refl
back told.Raw = refl

abbrev known-as : BlockKind → ℕ → ℕ → Known
known-as kind count capacity = record { kind = kind; count = count; capacity = capacity }

-- one thing is known of an object
same-known : (o : Object) (a b : Known) → IsKnown o a → IsKnown o b → a ≡ b
same-known o a b x y =
    let kinds : a.kind ≡ b.kind = sym (back a.kind) ∙ ap kind-from (sym x.kind ∙ y.kind) ∙ back b.kind in
    ap (λ kind. known-as kind a.count a.capacity) kinds ∙ ap (λ count. known-as b.kind count a.capacity) (sym x.count ∙ y.count) ∙ ap (known-as b.kind b.count) (sym x.capacity ∙ y.capacity)

pub target-known : (program : Program) (layouts : Layouts) (objects : Objects) (heap : Heap) → IsHeapOf program layouts objects heap → (t : Target) → IsTarget heap.graph.objects t → known_in objects t.addr ≡ Some t.known
target-known program layouts objects heap is t (o, found, k) = by_known (known_in objects t.addr) refl (known_is program layouts objects heap is t.addr)
  where
    by_known : (known : Option Known) → known_in objects t.addr ≡ known → IsKnownAt heap.graph.objects t.addr known → known_in objects t.addr ≡ Some t.known
    by_known None e none = absurd (cc)
    by_known (Some known) e (p, there, x) =
        let same : p ≡ o = some-same (object_of heap.graph.objects t.addr) p o there found in
        e ∙ ap (λ y. Some y) (same-known o known t.known (subst (λ y. IsKnown y known) same x) k)
