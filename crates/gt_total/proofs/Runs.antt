-- The answers of a run fix the state to which it leads, but for the rounds.
use Rattle.std.proofs.Common.{◌≡◌, List, refl, ap, sym, subst, ◌∙◌, inl, inr}
use Rattle.std.specs.Prelude.{All}
use Rattle.std.proofs.lemmas.List.Elements.{All-head, All-tail}
use Rattle.gt_types.specs.declared.program.Program.{Program}
use Rattle.gt_layout.specs.declared.planes.Layouts.{Layouts}
use Rattle.gt_script.specs.declared.command.Command.{Command}
use Rattle.gt_script.specs.declared.command.Command.TheVariants as command
use Rattle.gt_script.specs.declared.command.Line.{Line}
use Rattle.gt_next.specs.declared.answer.Answer.{Answer}
use Rattle.gt_next.specs.States.{State, IsGoodState}
use Rattle.gt_next.specs.Collecting.{NextStats}
use Rattle.gt_next.specs.Next.{Next, Run}
use Rattle.gt_next.specs.Laws.{AreOneState, IsOfBytes, StateIsOne, StaysGood}
use Rattle.gt_total.proofs.Moved.{moved, with_rounds}

one_more : (s t u : State) → AreOneState s t → AreOneState t u → AreOneState s u
one_more s t u first second = first ∙ ap (λ x. with_rounds x s.rounds) second

turned : (s t : State) → AreOneState s t → AreOneState t s
turned s t is = ap (λ x. with_rounds x t.rounds) (sym is)

told : (s t : State) (a : Answer) → NextStats s a t → t ≡ s
told s t a NextStats.reports = refl

module _ (program : Program) (layouts : Layouts) (good_stays : StaysGood program layouts) (state_is_one : StateIsOne program layouts) where
  -- from one state, but for the rounds, the same answer leads to one state, but for the rounds
  steps_alike : (s r t u : State) (c : Command) (a : Answer) → AreOneState s r → IsGoodState program layouts s → Next program layouts s c a t → Next program layouts r c a u → AreOneState t u
  steps_alike s r t u c a same good x y = go c x y
    where
      plain : (c : Command) → Next program layouts s c a t → (v : State) → Next program layouts s c a v → AreOneState u v → AreOneState t u
      plain c x v z alike = elim (state_is_one s t v c a good x z) as (λ _. AreOneState t u) [
        | inl e ↦ subst (λ w. AreOneState w u) (sym e) (turned u v alike)
        | inr e ↦ one_more t v u e.1 (turned u v alike)
      ]

      back : r ≡ with_rounds s r.rounds
      back = turned s r same

      go : (c : Command) → Next program layouts s c a t → Next program layouts r c a u → AreOneState t u
      go command.Stats x y =
          let mine = told s t a x in
          let its = told r u a y in
          mine ∙ same ∙ ap (λ z. with_rounds z s.rounds) (sym its) ∙ ap (λ z. with_rounds u z.rounds) (sym mine)
      go c x y = let there = moved program layouts s r.rounds s.rounds c refl a u (subst (λ z. Next program layouts z c a u) back y) in plain c x there.0 there.1 there.2

  runs_alike : (s r t u : State) (lines : List Line) (answers : List Answer) → AreOneState s r → IsGoodState program layouts s → All (λ line. IsOfBytes line.command) lines
      → Run program layouts s lines answers t → Run program layouts r lines answers u → AreOneState t u
  runs_alike s r t u lines answers same good bytes Run.ended Run.ended = same
  runs_alike s r t u lines answers same good bytes (Run.onward {mid = m} {line} {lines = rest} {answer} {answers = more} x run) (Run.onward {mid = n} y other) =
      let mine = All-head (λ line. IsOfBytes line.command) line rest bytes in
      runs_alike m n t u rest more (steps_alike s r m n line.command answer same good x y) (good_stays s m line.command answer good mine x)
      (All-tail (λ line. IsOfBytes line.command) line rest bytes) run other

  pub runs_one : (s t u : State) (lines : List Line) (answers : List Answer) → IsGoodState program layouts s → All (λ line. IsOfBytes line.command) lines
      → Run program layouts s lines answers t → Run program layouts s lines answers u → AreOneState t u
  runs_one s t u lines answers good bytes run other = runs_alike s s t u lines answers refl good bytes run other
