-- A good state stays good after each command but collections.
use Rattle.std.proofs.Common.{sym, subst}
use Rattle.gt_types.specs.declared.program.Program.{Program}
use Rattle.gt_types.specs.Settled.{Settled}
use Rattle.gt_layout.specs.declared.planes.Layouts.{Layouts}
use Rattle.gt_script.specs.declared.command.Command.{Command}
use Rattle.gt_script.specs.declared.command.Command.TheVariants as command
use Rattle.gt_next.specs.declared.answer.Answer.{Answer}
use Rattle.gt_next.specs.States.{State, IsGoodState}
use Rattle.gt_next.specs.Next.{Next}
use Rattle.gt_next.specs.Laws.{IsRead, IsOfBytes, IsCollection}
use Rattle.gt_determined.specs.Staying.{StaysGoodUncollected}
use Rattle.gt_determined.proofs.Simples.{print-kept, heap-kept, stats-kept, tables-kept}
use Rattle.gt_determined.proofs.Bound.{get-good, drop-good}
use Rattle.gt_determined.proofs.Pairs.{put-good, find-good}
use Rattle.gt_determined.proofs.Blocks.{new-good, array-good, text-good, block-good}
use Rattle.gt_determined.proofs.Sets.{set-good}

pub stays-good : (program : Program) (layouts : Layouts) → Settled program → (s t : State) (c : Command) (a : Answer) → IsGoodState program layouts s → IsOfBytes c → ¬ IsCollection c → Next program layouts s c a t → IsGoodState program layouts t
stays-good program layouts settled s t (command.New var type n) a good bytes plain next = new-good program layouts s good var type n a t next
stays-good program layouts settled s t (command.Array var type n) a good bytes plain next = array-good program layouts s good var type n a t next
stays-good program layouts settled s t (command.Text var text) a good bytes plain next = text-good program layouts s good var text bytes a t next
stays-good program layouts settled s t (command.Block var n) a good bytes plain next = block-good program layouts s good var n a t next
stays-good program layouts settled s t (command.Set path value) a good bytes plain next = set-good program layouts settled s good path value t a next
stays-good program layouts settled s t (command.Get var path) a good bytes plain next = get-good program layouts settled s good var path t a next
stays-good program layouts settled s t (command.Drop var) a good bytes plain next = drop-good program layouts settled s good var t a next
stays-good program layouts settled s t (command.Print path) a good bytes plain next = subst (λ x. IsGoodState program layouts x) (sym (print-kept program s path t a next)) good
stays-good program layouts settled s t (command.Put cache key value) a good bytes plain next = put-good program layouts s good cache key value t a next
stays-good program layouts settled s t (command.Find cache key) a good bytes plain next = find-good program layouts s good cache key t a next
stays-good program layouts settled s t command.Collect a good bytes plain next = absurd (plain IsCollection.collect)
stays-good program layouts settled s t command.CollectForce a good bytes plain next = absurd (plain IsCollection.force)
stays-good program layouts settled s t command.Heap a good bytes plain next = subst (λ x. IsGoodState program layouts x) (sym (heap-kept s t a next)) good
stays-good program layouts settled s t command.Stats a good bytes plain next = subst (λ x. IsGoodState program layouts x) (sym (stats-kept s t a next)) good
stays-good program layouts settled s t command.Tables a good bytes plain next = subst (λ x. IsGoodState program layouts x) (sym (tables-kept program layouts s t a next)) good
stays-good program layouts settled s t c a good bytes plain next = absurd next

pub states-stay-good : (program : Program) (layouts : Layouts) → IsRead program layouts → StaysGoodUncollected program layouts
states-stay-good program layouts is_read s t command a = stays-good program layouts is_read.settled s t command a
