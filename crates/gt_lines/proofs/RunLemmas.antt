-- Runs that go on by one step, and texts that go on by one answer.
use Rattle.std.proofs.Common.{◌≡◌, ◌≢◌, ℕ, ◌==◌, Bool, true, ◌+◌, ◌<◌, List, [], ◌∷◌, ◌++◌, length, take, get_or, refl, sym, ap, subst, ◌∙◌, append_assoc, append-nil, drop, Some, None, Option, Result, Ok, Err, inl, inr}
use Rattle.std.proofs.lemmas.Bool.{eqb-true}
use Rattle.std.proofs.lemmas.List.{take_more, take-append-drop, nil_from_length}
use Rattle.gt_types.specs.declared.program.Program.{Program}
use Rattle.gt_layout.specs.declared.planes.Layouts.{Layouts}
use Rattle.gt_io.specs.Appends.{Adds, AddsFront, IsFrontOf}
use Rattle.gt_script.specs.declared.command.Line.{Line}
use Rattle.gt_next.specs.declared.answer.Answer.{Answer}
use Rattle.gt_next.specs.States.{State}
use Rattle.gt_next.specs.Next.{Next, Run}
use Rattle.gt_next.specs.Texts.{text_of, texts_of}
use Rattle.gt_schema.specs.declared.schema.Schema.{Schema}
use Rattle.gt_lines.specs.Runs.{AddsAllBut, IsNothing}
use Rattle.gt_lines.specs.Lines.{Answers, RunsLine}
use Rattle.gt_lines.specs.Runs.{RunsLines}
use Rattle.gt_lines.specs.declared.lines.LineStop.{LineStop}
use Rattle.gt_lines.specs.declared.lines.LineStop.TheVariants.{NoAnswer, NoText, NotWritten}
use Rattle.gt_lines.specs.declared.lines.LinesEnd.TheVariants.{SinkFailed, NoMemory}

-- a run goes on by one step
pub Run-step : {program : Program} {layouts : Layouts} {s m t : State} {lines : List Line} {answers : List Answer} (line : Line) (answer : Answer)
    → Run program layouts s lines answers m → Next program layouts m line.command answer t → Run program layouts s (lines ++ line ∷ []) (answers ++ answer ∷ []) t
Run-step line answer Run.ended next = Run.onward next Run.ended
Run-step line answer (Run.onward first rest) next = Run.onward first (Run-step line answer rest next)

-- a line more of the first of them
pub take-line : (lines : List Line) (i : ℕ) (line : Line) → i < length lines → line ≡ get_or lines i line → take (i + 1) lines ≡ take i lines ++ line ∷ []
take-line lines i line h at = take_more lines i line h ∙ ap (λ x. take i lines ++ x ∷ []) (sym at)

-- the first lines were run, and one more was answered
pub Run-more : {program : Program} {layouts : Layouts} {s m t : State} (lines : List Line) (i : ℕ) (line : Line) (answers now : List Answer) (answer : Answer)
    → i < length lines → line ≡ get_or lines i line → Run program layouts s (take i lines) answers m → Answers program layouts line m t answers now answer
    → Run program layouts s (take (i + 1) lines) now t
Run-more {program} {layouts} {s} {m} {t} lines i line answers now answer h at r a =
    let L : List Line → Type 0 = λ x. Run program layouts s x (answers ++ answer ∷ []) t in
    let A : List Answer → Type 0 = λ x. Run program layouts s (take (i + 1) lines) x t in
    subst A (sym a.0) (subst L (sym (take-line lines i line h at)) (Run-step line answer r a.1))

-- the first lines were run, and nothing changed since
pub Run-unchanged : {program : Program} {layouts : Layouts} {s m t : State} (lines : List Line) (answers now : List Answer)
    → Run program layouts s lines answers m → now ≡ answers → t ≡ m → Run program layouts s lines now t
Run-unchanged {program} {layouts} {s} {m} {t} lines answers now r e f =
    let A : List Answer → Type 0 = λ x. Run program layouts s lines x t in
    let S : State → Type 0 = λ x. Run program layouts s lines answers x in
    subst A (sym e) (subst S (sym f) r)

-- the texts of the answers were added, and nothing since
pub Adds-same : (old mid new : Option (List ℕ)) (lines : List Line) (answers now : List Answer) → Adds old (texts_of lines answers) mid → now ≡ answers → new ≡ mid → Adds old (texts_of lines now) new
Adds-same old mid new lines answers now g e f = λ before t. f ∙ g before t ∙ ap (λ x. Some (before ++ texts_of lines x)) (sym e)

-- the texts of the answers of a run, and of one more
pub texts_of-push : {program : Program} {layouts : Layouts} {s t : State} (lines : List Line) (line : Line) (answers : List Answer) (answer : Answer)
    → Run program layouts s lines answers t → texts_of (lines ++ line ∷ []) (answers ++ answer ∷ []) ≡ texts_of lines answers ++ text_of line answer
texts_of-push [] line [] answer Run.ended = append-nil (text_of line answer)
texts_of-push [] line (a ∷ more) answer r = elim r [ ]
texts_of-push (l ∷ ls) line [] answer r = elim r [ ]
texts_of-push (l ∷ ls) line (a ∷ more) answer (Run.onward first rest) =
    ap (λ x. text_of l a ++ x) (texts_of-push ls line more answer rest) ∙ sym (append_assoc (text_of l a) (texts_of ls more) (text_of line answer))

-- a text without bytes
pub empty-text : (text is : List ℕ) (empty : Bool) → empty ≡ (length text == 0) → empty ≡ true → text ≡ is → is ≡ []
empty-text text is empty counts said same =
    let none : (length text == 0) ≡ true = sym counts ∙ said in
    sym same ∙ nil_from_length text (eqb-true (length text) 0 none)

-- bytes were added, and then more
pub Adds-more : (old mid new : Option (List ℕ)) (x y : List ℕ) → Adds old x mid → Adds mid y new → Adds old (x ++ y) new
Adds-more old mid new x y g h = λ before e. h (before ++ x) (g before e) ∙ ap (λ b. Some b) (append_assoc before x y)

-- no bytes were added
pub Adds-none : (old new : Option (List ℕ)) (bytes : List ℕ) → bytes ≡ [] → new ≡ old → Adds old bytes new
Adds-none old new bytes none e = λ before t. e ∙ t ∙ ap (λ b. Some b) (sym (append-nil before) ∙ ap (λ x. before ++ x) (sym none))

-- the texts of the answers were added, and then that of one more
pub Adds-texts : {program : Program} {layouts : Layouts} {s t : State} (old mid new : Option (List ℕ)) (lines : List Line) (i : ℕ) (line : Line) (answers now : List Answer) (answer : Answer)
    → i < length lines → line ≡ get_or lines i line → Run program layouts s (take i lines) answers t → now ≡ answers ++ answer ∷ []
    → Adds old (texts_of (take i lines) answers) mid → Adds mid (text_of line answer) new → Adds old (texts_of (take (i + 1) lines) now) new
Adds-texts old mid new lines i line answers now answer within at r e g h =
    let A : List ℕ → Type 0 = λ x. Adds old x new in
    let texts : texts_of (take (i + 1) lines) now ≡ texts_of (take i lines) answers ++ text_of line answer =
    ap (texts_of (take (i + 1) lines)) e ∙ ap (λ x. texts_of x (answers ++ answer ∷ [])) (take-line lines i line within at) ∙ texts_of-push (take i lines) line answers answer r in
    subst A (sym texts) (Adds-more old mid new (texts_of (take i lines) answers) (text_of line answer) g h)

same_some : (a b : List ℕ) → Some a ≡ Some b → a ≡ b
same_some a b e = cc

-- some front was added, whether it is told or not
front_of : (old new : Option (List ℕ)) (bytes : List ℕ) → AddsFront old bytes new → (front : List ℕ) × IsFrontOf front bytes × Adds old front new
front_of None new bytes h = ([], (bytes, refl), λ before e. absurd (cc))
front_of (Some b) new bytes h =
    let w = h b refl in
    (w.0, w.1, λ before e. w.2 ∙ ap (λ x. Some (x ++ w.0)) (same_some b before e))

-- all texts but the last were added, and of the last a front
pub AddsAllBut-front : (old mid new : Option (List ℕ)) (lines : List Line) (i : ℕ) (line : Line) (answers now : List Answer) (answer : Answer)
    → i < length lines → line ≡ get_or lines i line → now ≡ answers ++ answer ∷ []
    → Adds old (texts_of (take i lines) answers) mid → AddsFront mid (text_of line answer) new → AddsAllBut old (take (i + 1) lines) now IsFrontOf new
AddsAllBut-front old mid new lines i line answers now answer within at e g h =
    let w = front_of mid new (text_of line answer) h in
    (take i lines, line, take-line lines i line within at, answers, answer, e, w.0, w.1, Adds-more old mid new (texts_of (take i lines) answers) w.0 g w.2)

-- all texts but the last were added, and nothing of the last
pub AddsAllBut-nothing : (old mid new : Option (List ℕ)) (lines : List Line) (i : ℕ) (line : Line) (answers now : List Answer) (answer : Answer)
    → i < length lines → line ≡ get_or lines i line → now ≡ answers ++ answer ∷ []
    → Adds old (texts_of (take i lines) answers) mid → new ≡ mid → AddsAllBut old (take (i + 1) lines) now IsNothing new
AddsAllBut-nothing old mid new lines i line answers now answer within at e g h =
    (take i lines, line, take-line lines i line within at, answers, answer, e, [], refl, λ before t. h ∙ g before t ∙ ap (λ x. Some (before ++ x)) (sym (append-nil (texts_of (take i lines) answers))))

-- one more answer is not none
pub answered-some : (before now : List Answer) (answer : Answer) → now ≡ before ++ answer ∷ [] → now ≢ []
answered-some [] now answer e none = let is : answer ∷ [] ≡ [] = sym e ∙ none in cc
answered-some (a ∷ more) now answer e none = let is : a ∷ more ++ answer ∷ [] ≡ [] = sym e ∙ none in cc

-- ---- the lines so far

-- the first of the lines were run, and the text of their answers was written
pub record SoFar (schema : Schema) (lines : List Line) (i : ℕ) (s t : State) (answers : List Answer) (taken takes : Option (List ℕ)) : Type 0 where
  pub run : Run schema.program schema.layouts s (take i lines) answers t
  pub written : Adds taken (texts_of (take i lines) answers) takes
  pub unanswered : answers ≡ [] → takes ≡ taken

-- so far none of them
pub SoFar-none : (schema : Schema) (lines : List Line) (s : State) (answers : List Answer) (taken : Option (List ℕ)) → answers ≡ [] → SoFar schema lines 0 s s answers taken taken
SoFar-none schema lines s answers taken none =
    let R : List Answer → Type 0 = λ x. Run schema.program schema.layouts s [] x s in
    record { run = subst R (sym none) Run.ended; written = Adds-none taken taken [] refl refl; unanswered = λ _. refl }

-- what a line leaves under a schema it leaves under the same schema
same_schema : (p q : Schema) (line : Line) (s t : State) (before now : List Answer) (taken takes : Option (List ℕ)) (result : Result (Unit {0}) LineStop) → q ≡ p
    → RunsLine q.program q.layouts line s t before now taken takes result → RunsLine p.program p.layouts line s t before now taken takes result
same_schema p q line s t before now taken takes result e h =
    let R : Schema → Type 0 = λ x. RunsLine x.program x.layouts line s t before now taken takes result in
    subst R e h

module _ (p q : Schema) (same : q ≡ p) (lines : List Line) (i : ℕ) (line : Line) (within : i < length lines) (at : line ≡ get_or lines i line) (s m t : State)
    (answers now : List Answer) (taken mid takes : Option (List ℕ)) (so : SoFar p lines i s m answers taken mid) where
  -- the lines up to this one were run
  abbrev ran_first : (answer : Answer) → Answers p.program p.layouts line m t answers now answer
      → (done : List Line) × (done ++ drop (i + 1) lines ≡ lines) × Run p.program p.layouts s done now t
  ran_first answer a = (take (i + 1) lines, take-append-drop (i + 1) lines, Run-more lines i line answers now answer within at so.run a)

  -- one more line was answered and its text was written
  pub SoFar-more : (done : Unit {0}) → RunsLine q.program q.layouts line m t answers now mid takes (Ok done) → SoFar p lines (i + 1) s t now taken takes
  SoFar-more done h =
      let r = same_schema p q line m t answers now mid takes (Ok done) same h in
      record {
        run = Run-more lines i line answers now r.0 within at so.run r.1;
        written = Adds-texts taken mid takes lines i line answers now r.0 within at so.run r.1.0 so.written r.2;
        unanswered = λ none. absurd (answered-some answers now r.0 r.1.0 none);
      }

  -- the sink failed at the text of one more answer
  pub RunsLines-not_written : (stop : LineStop) → stop ≡ NotWritten → RunsLine q.program q.layouts line m t answers now mid takes (Err stop)
      → RunsLines p.program p.layouts lines s t now taken takes SinkFailed
  RunsLines-not_written stop is h =
      let R : LineStop → Type 0 = λ x. RunsLine q.program q.layouts line m t answers now mid takes (Err x) in
      let r = same_schema p q line m t answers now mid takes (Err NotWritten) same (subst R is h) in
      (drop (i + 1) lines, ran_first r.0 r.1, AddsAllBut-front taken mid takes lines i line answers now r.0 within at r.1.0 so.written r.2)

  -- there was no memory for the text of one more answer
  pub RunsLines-no_text : (stop : LineStop) → stop ≡ NoText → RunsLine q.program q.layouts line m t answers now mid takes (Err stop)
      → RunsLines p.program p.layouts lines s t now taken takes NoMemory
  RunsLines-no_text stop is h =
      let R : LineStop → Type 0 = λ x. RunsLine q.program q.layouts line m t answers now mid takes (Err x) in
      let r = same_schema p q line m t answers now mid takes (Err NoText) same (subst R is h) in (
        drop (i + 1) lines,
        ran_first r.0 r.1,
        inr (AddsAllBut-nothing taken mid takes lines i line answers now r.0 within at r.1.0 so.written r.2),
        λ none. absurd (answered-some answers now r.0 r.1.0 none),
      )

  -- there was no memory for one more answer
  pub RunsLines-no_answer : (stop : LineStop) → stop ≡ NoAnswer → RunsLine q.program q.layouts line m t answers now mid takes (Err stop)
      → RunsLines p.program p.layouts lines s t now taken takes NoMemory
  RunsLines-no_answer stop is h =
      let R : LineStop → Type 0 = λ x. RunsLine q.program q.layouts line m t answers now mid takes (Err x) in
      let r = same_schema p q line m t answers now mid takes (Err NoAnswer) same (subst R is h) in (
        drop i lines,
        (take i lines, take-append-drop i lines, Run-unchanged (take i lines) answers now so.run r.0 r.1),
        inl (Adds-same taken mid takes (take i lines) answers now so.written r.0 r.2),
        λ none. r.2 ∙ so.unanswered (sym r.0 ∙ none),
      )
