-- Lists of answers of which some are counted.
use Rattle.std.proofs.Common.{◌≡◌, ℕ, zero, suc, ◌+◌, ◌<◌, false, ◌||◌, List, [], ◌∷◌, ◌++◌, length, take, get_or, refl, sym, ap, ◌∙◌, append_assoc}
use Rattle.std.specs.Prelude.{replicate, ◌==◌}
use Rattle.std.specs.List.{list_any}
use Rattle.std.proofs.Math.Dec.{eqb-suc-zero}
use Rattle.std.proofs.lemmas.List.{replicate-append-replicate, take_more}
use Rattle.std.proofs.lemmas.List.Folds.{list_any-append}
use Rattle.gt_next.specs.declared.answer.Answer.{Answer}
use Rattle.gt_next.specs.declared.answer.Answer.TheVariants.{Done}
use Rattle.gt_answers.specs.declared.answers.Later.{Later}
use Rattle.gt_next.specs.Texts.{is_refusal}
use Rattle.gt_answers.specs.Kept.{answers_in}

-- one more that is counted
pub one_done : (later : List Later) (done : ℕ) → answers_in later (done + 1) ≡ answers_in later done ++ Done ∷ []
one_done [] done = sym (replicate-append-replicate done 1 Done)
one_done (l ∷ later) done =
    ap (λ x. replicate l.done Done ++ l.answer ∷ x) (one_done later done) ∙ sym (append_assoc (replicate l.done Done) (l.answer ∷ answers_in later done) (Done ∷ []))

-- one more of the others
pub one_later : (later : List Later) (done : ℕ) (answer : Answer) → answers_in (later ++ record { done = done; answer = answer } ∷ []) 0 ≡ answers_in later done ++ answer ∷ []
one_later [] done answer = refl
one_later (l ∷ later) done answer =
    ap (λ x. replicate l.done Done ++ l.answer ∷ x) (one_later later done answer) ∙ sym (append_assoc (replicate l.done Done) (l.answer ∷ answers_in later done) (answer ∷ []))

-- those that are counted are no refusals
none_of_done : (done : ℕ) → list_any is_refusal (replicate done Done) ≡ false
none_of_done zero = refl
none_of_done (suc done) = none_of_done done

-- one of all is a refusal where one of the others is
pub refusal_later : (later : List Later) (done : ℕ) → list_any (λ (l : Later). is_refusal l.answer) later ≡ list_any is_refusal (answers_in later done)
refusal_later [] done = sym (none_of_done done)
refusal_later (l ∷ later) done =
    ap (λ x. is_refusal l.answer || x) (refusal_later later done) ∙ ap (λ x. x || list_any is_refusal (l.answer ∷ answers_in later done)) (sym (none_of_done l.done))
    ∙ sym (list_any-append is_refusal (replicate l.done Done) (l.answer ∷ answers_in later done))

-- some answer is there
some_answer : (n : ℕ) (answer : Answer) (answers : List Answer) → (length (replicate n Done ++ answer ∷ answers) == 0) ≡ false
some_answer zero answer answers = eqb-suc-zero (length answers)
some_answer (suc n) answer answers = eqb-suc-zero (length (replicate n Done ++ answer ∷ answers))

-- where none is counted at the end, there is one just where there is another
pub empty_later : (later : List Later) → (length later == 0) ≡ (length (answers_in later 0) == 0)
empty_later [] = refl
empty_later (l ∷ later) = eqb-suc-zero (length later) ∙ sym (some_answer l.done l.answer (answers_in later 0))

-- where one is counted at the end, there is one
pub some_done : (later : List Later) (done : ℕ) → false ≡ (length (answers_in later (suc done)) == 0)
some_done [] done = sym (eqb-suc-zero (length (replicate done Done)))
some_done (l ∷ later) done = sym (some_answer l.done l.answer (answers_in later (suc done)))

-- those that are counted at the end stand after the others
pub done_last : (later : List Later) (done : ℕ) → answers_in later 0 ++ replicate done Done ≡ answers_in later done
done_last [] done = refl
done_last (l ∷ later) done =
    append_assoc (replicate l.done Done) (l.answer ∷ answers_in later 0) (replicate done Done) ∙ ap (λ x. replicate l.done Done ++ l.answer ∷ x) (done_last later done)

-- one more of the others, after those that are counted before it
pub next_later : (items : List Later) (i : ℕ) (l : Later) (before mid now : List Answer) → i < length items → l ≡ get_or items i l
    → before ≡ answers_in (take i items) 0 → mid ≡ before ++ replicate l.done Done → now ≡ mid ++ l.answer ∷ [] → now ≡ answers_in (take (i + 1) items) 0
next_later items i l before mid now within at so_far counted added =
    let front = take i items in
    let more : take (i + 1) items ≡ front ++ l ∷ [] = take_more items i l within ∙ ap (λ x. front ++ x ∷ []) (sym at) in
    let all : before ++ replicate l.done Done ≡ answers_in front l.done = ap (λ x. x ++ replicate l.done Done) so_far ∙ done_last front l.done in
    added ∙ ap (λ x. x ++ l.answer ∷ []) (counted ∙ all) ∙ sym (one_later front l.done l.answer) ∙ ap (λ x. answers_in x 0) (sym more)
