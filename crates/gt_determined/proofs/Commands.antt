-- Each command has one answer, but for the address of a new block, and with it one next state, but for the rounds of a collection.
use Rattle.std.proofs.Common.{◌≡◌, refl, subst, ◌⊎◌, inl, inr}
use Rattle.gt_types.specs.declared.program.Program.{Program}
use Rattle.gt_types.specs.Settled.{Settled}
use Rattle.gt_layout.specs.declared.planes.Layouts.{Layouts}
use Rattle.gt_layout.specs.Planes.{IsLaidOut}
use Rattle.gt_script.specs.declared.command.Command.{Command}
use Rattle.gt_script.specs.declared.command.Command.TheVariants as command
use Rattle.gt_show.specs.Shown.{TextIsOne}
use Rattle.gt_show.specs.BlockTexts.{BlockTextIsOne}
use Rattle.gt_next.specs.declared.answer.Answer.{Answer}
use Rattle.gt_next.specs.States.{State, IsGoodState}
use Rattle.gt_next.specs.Next.{Next}
use Rattle.gt_next.specs.Laws.{AreOneAnswer, AreOneState, IsCollection}
use Rattle.gt_determined.proofs.PathEnds.{path-ends}
use Rattle.gt_determined.proofs.Simples.{drop-one, heap-one, stats-one, tables-one}
use Rattle.gt_determined.proofs.Caches.{find-one, put-one}
use Rattle.gt_determined.proofs.Gets.{get-one, print-one}
use Rattle.gt_determined.proofs.Sets.{set-one}
use Rattle.gt_determined.proofs.Bindings.{Alike, alike-same}
use Rattle.gt_determined.proofs.Arrays.{array-alike, text-alike, block-alike}
use Rattle.gt_determined.proofs.News.{new-alike}
use Rattle.gt_determined.proofs.Collections.{force-answer, force-state, collect-answer, collect-state}

module _ (program : Program) (layouts : Layouts) (settled : Settled program) (laid : IsLaidOut program layouts) (values : TextIsOne program) (blocks : BlockTextIsOne program) (s : State) (good : IsGoodState program layouts s) where
  same : (a b : Answer) (t u : State) → (a ≡ b) × (t ≡ u) → Alike a t b u
  same a b t u (e, h) = alike-same a b t u e h

  alike : (a b : Answer) (t u : State) (c : Command) → Next program layouts s c a t → Next program layouts s c b u → Alike a t b u ⊎ (IsCollection c × AreOneAnswer a b × ((t ≡ u) ⊎ AreOneState t u))
  alike a b t u (command.New var type n) x y = inl (new-alike program layouts settled laid s var type n a b t u x y)
  alike a b t u (command.Array var type n) x y = inl (array-alike program layouts settled laid s var type n a b t u x y)
  alike a b t u (command.Text var bytes) x y = inl (text-alike program layouts settled laid s var bytes a b t u x y)
  alike a b t u (command.Block var n) x y = inl (block-alike program layouts settled laid s var n a b t u x y)
  alike a b t u (command.Set path value) x y = inl (same a b t u (set-one program settled s good.heap.graph path (path-ends program layouts settled s path good) value t u a b x y))
  alike a b t u (command.Get var path) x y = inl (same a b t u (get-one program s path (path-ends program layouts settled s path good) var t u a b x y))
  alike a b t u (command.Drop var) x y = inl (same a b t u (drop-one s var t u a b x y))
  alike a b t u (command.Print path) x y = inl (same a b t u (print-one program s path (path-ends program layouts settled s path good) values blocks t u a b x y))
  alike a b t u (command.Put cache key value) x y = inl (same a b t u (put-one program s t u cache key value a b x y))
  alike a b t u (command.Find cache key) x y = inl (same a b t u (find-one program s t u cache key a b x y))
  alike a b t u command.Collect x y =
      inr (IsCollection.collect, subst (λ z. AreOneAnswer a z) (collect-answer program layouts s good.heap.places a b t u x y) AreOneAnswer.same, collect-state program layouts s good.heap.places a b t u x y)
  alike a b t u command.CollectForce x y =
      inr (IsCollection.force, subst (λ z. AreOneAnswer a z) (force-answer program layouts s good.heap.places a b t u x y) AreOneAnswer.same, inr (force-state program layouts s good.heap.places a b t u x y))
  alike a b t u command.Heap x y = inl (same a b t u (heap-one s t u a b x y))
  alike a b t u command.Stats x y = inl (same a b t u (stats-one s t u a b x y))
  alike a b t u command.Tables x y = inl (same a b t u (tables-one program layouts s t u a b x y))
  alike a b t u c x y = absurd x

  pub answer-one : (a b : Answer) (t u : State) (c : Command) → Next program layouts s c a t → Next program layouts s c b u → AreOneAnswer a b
  answer-one a b t u c x y = go (alike a b t u c x y)
    where
      go : Alike a t b u ⊎ (IsCollection c × AreOneAnswer a b × ((t ≡ u) ⊎ AreOneState t u)) → AreOneAnswer a b
      go (inl (answer, state)) = answer
      go (inr (is, answer, state)) = answer

  pub state-one : (a : Answer) (t u : State) (c : Command) → Next program layouts s c a t → Next program layouts s c a u → (t ≡ u) ⊎ (IsCollection c × AreOneState t u)
  state-one a t u c x y = go (alike a a t u c x y)
    where
      go : Alike a t a u ⊎ (IsCollection c × AreOneAnswer a a × ((t ≡ u) ⊎ AreOneState t u)) → (t ≡ u) ⊎ (IsCollection c × AreOneState t u)
      go (inl (answer, state)) = inl (state refl)
      go (inr (is, answer, inl e)) = inl e
      go (inr (is, answer, inr e)) = inr (is, e)
