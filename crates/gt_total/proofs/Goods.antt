-- A good state stays good after each command.
use Rattle.std.proofs.Common.{◌≡◌, Bool, true, false, refl}
use Rattle.gt_types.specs.declared.program.Program.{Program}
use Rattle.gt_layout.specs.declared.planes.Layouts.{Layouts}
use Rattle.gt_script.specs.declared.command.Command.{Command}
use Rattle.gt_script.specs.declared.command.Command.TheVariants as command
use Rattle.gt_next.specs.declared.answer.Answer.{Answer}
use Rattle.gt_next.specs.States.{State, IsGoodState}
use Rattle.gt_next.specs.Next.{Next}
use Rattle.gt_next.specs.Laws.{IsOfBytes, IsCollection}
use Rattle.gt_determined.specs.Staying.{StaysGoodUncollected}
use Rattle.gt_total.proofs.Collected.{collect_good, force_good}

-- commands are told apart
abbrev collects : Command → Bool
collects command.Collect = true
collects command.CollectForce = true
collects c = false

are_collections : (c : Command) → IsCollection c → collects c ≡ true
are_collections _ IsCollection.collect = refl
are_collections _ IsCollection.force = refl

module _ (program : Program) (layouts : Layouts) (plain : StaysGoodUncollected program layouts) (s t : State) where
  others : (c : Command) (a : Answer) → collects c ≡ false → IsGoodState program layouts s → IsOfBytes c → Next program layouts s c a t → IsGoodState program layouts t
  others c a e good bytes next = plain s t c a good bytes (λ is. let yes = are_collections c is in cc) next

  pub stays_good : (c : Command) (a : Answer) → IsGoodState program layouts s → IsOfBytes c → Next program layouts s c a t → IsGoodState program layouts t
  stays_good command.Collect a good bytes next = collect_good program layouts s good a t next
  stays_good command.CollectForce a good bytes next = force_good program layouts s good a t next
  stays_good c a good bytes next = others c a refl good bytes next
