-- Calls of a sink that go on by one answer.
use Rattle.std.proofs.Common.{◌≡◌, ◌≢◌, ℕ, ◌+◌, ◌<◌, ◌==◌, Bool, true, false, List, [], ◌∷◌, ◌++◌, length, get_or, refl, sym, ap, subst, ◌∙◌, append_assoc, append-nil, Some, Ok, Err, inl, inr, arith}
use Rattle.std.specs.Prelude.{slice_get}
use Rattle.std.proofs.lemmas.Bool.{false≢true}
use Rattle.std.proofs.lemmas.Option.{slice_get-get_or}
use Rattle.std.proofs.lemmas.List.{length-append}
use Rattle.gt_io.specs.declared.fail.WriteFail.{WriteFail}
use Rattle.gt_io.specs.declared.fail.WriteFail.TheVariants as fails
use Rattle.gt_script.specs.declared.command.Line.{Line}
use Rattle.gt_next.specs.declared.answer.Answer.{Answer}
use Rattle.gt_next.specs.Texts.{text_of}
use Rattle.gt_lines.specs.Calls.{WriteOf, one_called, called, AreWritten, IsNotWritten, LastFails, LineCalls, SinkCalls}
use Rattle.gt_lines.specs.declared.lines.LineStop.{LineStop}
use Rattle.gt_lines.specs.declared.lines.LineStop.TheVariants.{NoAnswer, NoText, NotWritten}
use Rattle.gt_lines.specs.declared.lines.LinesEnd.TheVariants.{SinkFailed, NoMemory}

-- a text with a byte
pub some-text : (text is : List ℕ) (empty : Bool) → empty ≡ (length text == 0) → empty ≡ false → text ≡ is → is ≢ []
some-text text is empty counts said same none =
    let zero : (length text == 0) ≡ true = rw (same ∙ none) refl in
    false≢true (sym said ∙ counts ∙ zero)

-- a text without bytes asks for no call
pub unwritten : {K : Type 0} (write : WriteOf K) (sink : K) (text : List ℕ) → text ≡ [] → AreWritten write sink (one_called text) sink
unwritten write sink text none =
    let W : List ℕ → Type 0 = λ x. AreWritten write sink (one_called x) sink in
    subst W (sym none) refl

-- the call for a text with a byte, by which it was written
pub written : {K : Type 0} (write : WriteOf K) (old new : K) (bytes text : List ℕ) → bytes ≡ text → text ≢ [] → write old bytes (Ok tt) new → AreWritten write old (one_called text) new
written write old new bytes [] same some call = absurd (some refl)
written write old new bytes (c ∷ cs) same some call = (new, subst (λ (x : List ℕ). write old x (Ok tt) new) same call, refl)

-- and by which it was not
pub not_written : {K : Type 0} (write : WriteOf K) (fail : WriteFail) (old new : K) (bytes text : List ℕ) → bytes ≡ text → text ≢ [] → write old bytes (Err fail) new → IsNotWritten write fail old text new
not_written write fail old new bytes text same some call = (some, subst (λ (x : List ℕ). write old x (Err fail) new) same call)

-- no call was made so far
pub no_calls : {K : Type 0} (write : WriteOf K) (sink : K) (lines : List Line) (answers : List Answer) → answers ≡ [] → AreWritten write sink (called lines answers) sink
no_calls write sink [] answers none = refl
no_calls write sink (line ∷ lines) [] none = refl
no_calls write sink (line ∷ lines) (answer ∷ answers) none = absurd (cc)

-- the texts of the answers, and that of one more
called-more : (lines : List Line) (answers : List Answer) (line : Line) (answer : Answer) → length answers < length lines → line ≡ get_or lines (length answers) line
    → called lines (answers ++ answer ∷ []) ≡ called lines answers ++ one_called (text_of line answer)
called-more [] answers line answer within at = absurd (omega (arith, within))
called-more (l ∷ ls) [] line answer within at = append-nil-called ls ∙ ap (λ x. one_called (text_of x answer)) (sym at)
  where
    append-nil-called : (ls : List Line) → one_called (text_of l answer) ++ called ls [] ≡ one_called (text_of l answer)
    append-nil-called [] = append-nil (one_called (text_of l answer))
    append-nil-called (m ∷ ms) = append-nil (one_called (text_of l answer))
called-more (l ∷ ls) (a ∷ bs) line answer within at =
    ap (λ x. one_called (text_of l a) ++ x) (called-more ls bs line answer (omega (arith, within)) at) ∙ sym (append_assoc (one_called (text_of l a)) (called ls bs) (one_called (text_of line answer)))

-- texts were written, and then more
written-append : {K : Type 0} (write : WriteOf K) (old mid new : K) (texts more : List (List ℕ)) → AreWritten write old texts mid → AreWritten write mid more new → AreWritten write old (texts ++ more) new
written-append write old mid new [] more so after = subst (λ k. AreWritten write k more new) so after
written-append write old mid new (text ∷ texts) more so after = (so.0, so.1, written-append write so.0 mid new texts more so.2 after)

-- the line at a place
line-at : (lines : List Line) (i : ℕ) (line : Line) → i < length lines → line ≡ get_or lines i line → slice_get lines i ≡ Some line
line-at lines i line within at = slice_get-get_or lines i line within ∙ ap Some (sym at)

module _ {K : Type 0} (write : WriteOf K) (old mid new : K) (lines : List Line) (i : ℕ) (line : Line) (within : i < length lines) (at : line ≡ get_or lines i line) (answers now : List Answer)
    (count : length answers ≡ i) (so : AreWritten write old (called lines answers) mid) where
  at_place : line ≡ get_or lines (length answers) line
  at_place = at ∙ ap (λ n. get_or lines n line) (sym count)

  below : length answers < length lines
  below = omega (arith, within, count)

  last_fails : (fail : WriteFail) (answer : Answer) → now ≡ answers ++ answer ∷ [] → IsNotWritten write fail mid (text_of line answer) new → LastFails write fail old lines now new
  last_fails fail answer cut is = record { before = answers; answer = answer; cut = cut; line = line; at = line-at lines (length answers) line below at_place; mid = mid; written = so; fails = is }

  pub calls_more : (done : Unit {0}) → LineCalls write mid line answers now new (Ok done) → AreWritten write old (called lines now) new
  calls_more done r =
      subst (λ (xs : List (List ℕ)). AreWritten write old xs new) (sym (ap (called lines) r.1 ∙ called-more lines answers line r.0 below at_place))
      (written-append write old mid new (called lines answers) (one_called (text_of line r.0)) so r.2)

  pub count_more : (done : Unit {0}) → LineCalls write mid line answers now new (Ok done) → length now ≡ i + 1
  count_more done r = omega (arith, ap length r.1, length-append answers (r.0 ∷ []), count)

  pub calls_not_written : (stop : LineStop) → stop ≡ NotWritten → LineCalls write mid line answers now new (Err stop) → SinkCalls write old lines now new SinkFailed
  calls_not_written stop is h =
      let R : LineStop → Type 0 = λ x. LineCalls write mid line answers now new (Err x) in
      let r = subst R is h in
      last_fails fails.Failed r.0 r.1 r.2

  pub calls_no_text : (stop : LineStop) → stop ≡ NoText → LineCalls write mid line answers now new (Err stop) → SinkCalls write old lines now new NoMemory
  calls_no_text stop is h =
      let R : LineStop → Type 0 = λ x. LineCalls write mid line answers now new (Err x) in
      let r = subst R is h in
      elim r.2 [
        | inl same ↦ inr (inr (record { before = answers; answer = r.0; cut = r.1; written = subst (λ (k : K). AreWritten write old (called lines answers) k) (sym same) so }))
        | inr is ↦ inr (inl (last_fails fails.Memory r.0 r.1 is))
      ]

  pub calls_no_answer : (stop : LineStop) → stop ≡ NoAnswer → LineCalls write mid line answers now new (Err stop) → SinkCalls write old lines now new NoMemory
  calls_no_answer stop is h =
      let R : LineStop → Type 0 = λ x. LineCalls write mid line answers now new (Err x) in
      let r = subst R is h in
      inl (subst (λ (k : K). AreWritten write old (called lines now) k) (sym r.1) (subst (λ (xs : List Answer). AreWritten write old (called lines xs) mid) (sym r.0) so))
