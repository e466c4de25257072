-- What the program comes to, from what its parts did.
use Rattle.std.proofs.Common.{◌≡◌, ◌≢◌, ◌⊎◌, ℕ, List, [], ◌∷◌, ◌++◌, All, refl, sym, ap, subst, ◌∙◌, Option, Some, None, Result, inl, inr}
use Rattle.gt_types.specs.declared.program.Program.{Program}
use Rattle.gt_layout.specs.declared.planes.Layouts.{Layouts}
use Rattle.gt_layout.specs.Planes.{IsLaidOut}
use Rattle.gt_space.specs.Range.{Range, empty_range}
use Rattle.gt_io.specs.declared.fail.ReadFail.{ReadFail}
use Rattle.gt_io.specs.Held.{Held}
use Rattle.gt_script.specs.declared.command.Line.{Line}
use Rattle.gt_words.specs.declared.call.Call.{Call}
use Rattle.gt_front.specs.Asks.{Asks}
use Rattle.gt_front.specs.Texts.{Texts}
use Rattle.gt_front.specs.Refused.{IsRefusalLine}
use Rattle.gt_front.specs.Order.{Extent, HasRead, extent_for, whole}
use Rattle.gt_front.specs.declared.refusal.Refusal.{Refusal}
use Rattle.gt_graph.specs.Stands.{Stands}
use Rattle.gt_next.specs.declared.answer.Answer.{Answer}
use Rattle.gt_next.specs.States.{State, IsGoodState}
use Rattle.gt_next.specs.Laws.{IsBuilt}
use Rattle.gt_lines.specs.Runs.{RanFirst, RunsLines}
use Rattle.gt_lines.specs.Scripts.{LeavesSpace, RunsScript}
use Rattle.gt_lines.specs.Calls.{WriteOf, SinkCalls}
use Rattle.gt_lines.specs.declared.lines.LinesEnd.{LinesEnd}
use Rattle.gt_lines.specs.declared.lines.LinesEnd.TheVariants as lines
use Rattle.gt_run.specs.Comes.{IsRefusedFirst}
use Rattle.gt_run.specs.Endings.{ending_of}
use Rattle.gt_run.specs.Runs.{Opens, Runs}
use Rattle.gt_run.specs.Outputs.{Output}
use Rattle.gt_run.specs.Ended.{Ended, Ends, WasRead, refusal_of, status_of}
use Rattle.gt_run.specs.Refusing.{Refuses}
use Rattle.gt_run.specs.declared.ending.Ending.{Ending}
use Rattle.gt_run.specs.declared.ending.Ending.TheVariants.{Finished, Refused, SinkFailed, NoMemory}
use Rattle.gt_run.specs.declared.outcome.Outcome.{Outcome}

-- ---- calls of the sink

-- one more answer is not none
answered-some : (before now : List Answer) (answer : Answer) → now ≡ before ++ answer ∷ [] → now ≢ []
answered-some [] now answer e none = let is : answer ∷ [] ≡ [] = sym e ∙ none in cc
answered-some (a ∷ more) now answer e none = let is : a ∷ more ++ answer ∷ [] ≡ [] = sym e ∙ none in cc

-- without an answer no call was made
none_called : {K : Type 0} (write : WriteOf K) (old : K) (script : List Line) (answers : List Answer) (new : K) → answers ≡ [] → SinkCalls write old script answers new lines.NoMemory → new ≡ old
none_called write old [] [] new none (inl same) = same
none_called write old (line ∷ script) [] new none (inl same) = same
none_called write old script [] new none (inr (inl last)) = absurd (answered-some last.before [] last.answer last.cut refl)
none_called write old script [] new none (inr (inr last)) = absurd (answered-some last.before [] last.answer last.cut refl)
none_called write old script (answer ∷ answers) new none calls = absurd (cc)

-- ---- a script that is run

module _ (words : List (List ℕ)) (told : Option Held) (call : Call) (p : Program) (layouts : Layouts) (script : List Line) (laid : IsLaidOut p layouts)
    (asks : Asks words told call p script) (built : All (λ (line : Line). IsBuilt line.command) script) (opening state : State) (opens : Opens p call.settings told opening)
    (good : IsGoodState p layouts state) where
  -- a run of what the words ask for
  abbrev Runs-first : (answers : List Answer) (range : Range) (left : List Line) → RanFirst p layouts opening state script answers left → Stands p layouts state.heap range → Runs words told answers range
  Runs-first answers range left ran stands =
      record {
        call = call;
        program = p;
        layouts = layouts;
        laid = laid;
        lines = script;
        asks = asks;
        built = built;
        done = ran.0;
        left = left;
        split = ran.1;
        opening = opening;
        opens = opens;
        state = state;
        run = ran.2;
        good = good;
        stands = stands;
      }

  -- what lines leave is an ending of the program, where the space was empty
  Ended-lines : (answers : List Answer) (out : Output) (before now : Range) (end : LinesEnd) → before ≡ empty_range
      → RunsLines p layouts script opening state answers out.had out.has end → SinkCalls out.write out.old script answers out.new end → LeavesSpace p layouts state end answers before now
      → Ended words told (Some (whole asks.texts)) out (ending_of end) answers now
  Ended-lines answers out before now lines.Finished empty h calls stands = (Runs-first answers now [] h.0 stands, refl, refl, h.1, calls)
  Ended-lines answers out before now lines.SinkFailed empty h calls stands = inr (Runs-first answers now h.0 h.1 stands, refl, h.2, calls)
  Ended-lines [] out before now lines.NoMemory empty h calls same = inl (refl, h.3 refl, same ∙ empty, inl (none_called out.write out.old script [] out.new refl calls))
  Ended-lines (answer ∷ answers) out before now lines.NoMemory empty h calls stands =
      inr ((λ none. cc), Runs-first (answer ∷ answers) now h.0 h.1 stands, refl, h.2, calls)

-- what a script leaves is an ending of the program, where the space was empty
pub Ended-script : (words : List (List ℕ)) (told : Option Held) (call : Call) (p : Program) (layouts : Layouts) (script : List Line) → IsLaidOut p layouts
    → (asks : Asks words told call p script) → All (λ (line : Line). IsBuilt line.command) script → (opening : State) → Opens p call.settings told opening
    → (answers : List Answer) (out : Output) (before now : Range) (end : LinesEnd) → before ≡ empty_range
    → RunsScript p layouts script opening answers out.had out.has before now end → SinkCalls out.write out.old script answers out.new end
    → Ended words told (Some (whole asks.texts)) out (ending_of end) answers now
Ended-script words told call p layouts script laid asks built opening opens answers out before now end empty h calls =
    Ended-lines words told call p layouts script laid asks built opening h.last opens h.good answers out before now end empty h.runs calls h.space

-- ---- outcomes

-- an outcome of an ending
pub Ends-of : (words : List (List ℕ)) (told : Option Held) (read : Option Extent) (out : Output) (ending : Ending) (answers : List Answer) (range : Range) (outcome : Outcome)
    → outcome.status ≡ status_of ending answers → outcome.answers.items ≡ answers → outcome.refusal ≡ refusal_of ending
    → Ended words told read out ending answers range → Ends words told read out outcome range
Ends-of words told read out ending answers range outcome status same refusal ended =
    let E : List Answer → Type 0 = λ x. Ended words told read out ending x range in
    record { ending = ending; status = status ∙ ap (status_of ending) (sym same); refusal = refusal; ended = subst E (sym same) ended }

-- ---- a call that is refused

-- what is refused first ends the call with its line
pub Ended-refused : (words : List (List ℕ)) (told : Option Held) (texts : Texts) (refusal : Refusal) (line : List ℕ)
    → IsRefusedFirst words told texts refusal → IsRefusalLine words texts refusal line → (out : Output) (ending : Ending)
    → Refuses refusal line out ending → Ended words told (Some (extent_for texts refusal)) out ending [] empty_range
Ended-refused words told texts refusal line first is out (Refused other) h =
    let F : Refusal → Type 0 = λ r. IsRefusedFirst words told texts r in
    let L : Refusal → Type 0 = λ r. IsRefusalLine words texts r line in
    (refl, refl, texts, subst F (sym h.0) first, ap (λ r. Some (extent_for texts r)) (sym h.0), line, subst L (sym h.0) is, h.1, h.2)
Ended-refused words told texts refusal line first is out SinkFailed h = inl (refl, refl, refusal, texts, first, refl, line, is, h.0, h.1)
Ended-refused words told texts refusal line first is out NoMemory h =
    inl (refl, h.0, refl, inr (record { refusal = refusal; texts = texts; first = first; reads = refl; line = line; is = is; fails = h.1 }))
Ended-refused words told texts refusal line first is out Finished h = absurd h

-- ---- calls without an answer

-- where no line was answered, the space is empty unless all is done
pub Ends-unanswered : (words : List (List ℕ)) (told : Option Held) (read : Option Extent) (out : Output) (outcome : Outcome) (range : Range) → Ends words told read out outcome range
    → outcome.answers.items ≡ [] → (range ≡ empty_range) ⊎ (outcome.status ≡ 0)
Ends-unanswered words told read out outcome range ends none =
    by_ending ends.ending ends.status ends.ended where
      by_ending : (ending : Ending) → outcome.status ≡ status_of ending outcome.answers.items → Ended words told read out ending outcome.answers.items range → (range ≡ empty_range) ⊎ (outcome.status ≡ 0)
      by_ending Finished s h = inr (s ∙ ap (status_of Finished) none)
      by_ending (Refused refusal) s h = inl h.1
      by_ending SinkFailed s h = elim h [ inl refused ↦ inl refused.1 | inr ran ↦ absurd (answered-some ran.2.3 outcome.answers.items ran.2.4 ran.2.5 none) ]
      by_ending NoMemory s h = elim h [ inl before ↦ inl before.2 | inr ran ↦ absurd (ran.0 none) ]

-- ---- what was read up to a refusal

module _ {F : Type 0} (reads : F → List ℕ → ℕ → Result (Option (List ℕ)) ReadFail → F → Type 0) (words : List (List ℕ)) (told : Option Held) (store last : F)
    (read : Option Extent) (out : Output) (outcome : Outcome) (range : Range) where
  -- a refusal that is told is what is refused first, by the texts of what was read
  pub Ends-stopped : WasRead reads words store read last → Ends words told read out outcome range → (refusal : Refusal) → outcome.refusal ≡ Some refusal
      → (texts : Texts) × IsRefusedFirst words told texts refusal × HasRead reads words store (extent_for texts refusal) last
  Ends-stopped was ends refusal is =
      by_ending ends.ending ends.refusal ends.ended where
        by_ending : (ending : Ending) → outcome.refusal ≡ refusal_of ending → Ended words told read out ending outcome.answers.items range
            → (texts : Texts) × IsRefusedFirst words told texts refusal × HasRead reads words store (extent_for texts refusal) last
        by_ending (Refused other) r h =
            let some : Some other ≡ Some refusal = sym r ∙ is in
            let same : other ≡ refusal = cc in
            let W : Option Extent → Type 0 = λ extent. WasRead reads words store extent last in
            let I : Refusal → Type 0 = λ refusal. IsRefusedFirst words told h.2 refusal in
            let H : Refusal → Type 0 = λ refusal. HasRead reads words store (extent_for h.2 refusal) last in
            (h.2, subst I same h.3, subst H same (subst W h.4 was))
        by_ending Finished r h = let none : None ≡ Some refusal = sym r ∙ is in absurd (cc)
        by_ending SinkFailed r h = let none : None ≡ Some refusal = sym r ∙ is in absurd (cc)
        by_ending NoMemory r h = let none : None ≡ Some refusal = sym r ∙ is in absurd (cc)
