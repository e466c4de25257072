use Rattle.std.proofs.Common.{◌≡◌, ◌≢◌, Some, [], ◌∷◌, length, sym, ap, ◌∙◌, arith}
use Rattle.std.specs.Option.{option_map}
use Rattle.std.proofs.lemmas.Bool.{eqb-true}
use Rattle.std.proofs.lemmas.Bool.Decides.{nat_tests}
use Rattle.std.proofs.lemmas.List.{nil_from_length, length-append}
use Rattle.gt_split.specs.Cutting.{without_blanks, word_at, few}
use Rattle.gt_split.proofs.ManyWords.{few_short, too_many}
use Rattle.gt_split.proofs.Cuts.{starts, goes_on, ends, is_done, word_at-shorter, without_blanks-shorter}
use Rattle.gt_split.proofs.pieces.read_words.Goals as goal

pub loop-rest-init : goal.loop-rest-init
loop-rest-init c = (
  c.without_blanks-rest.utf8,
  rw c.clear.ensures.items (starts c.args.text.now c.without_blanks-rest.result.now (c.without_blanks-rest.ensures ∙ ap without_blanks c.text-all.ensures.text)),
  rw c.clear.ensures.items (omega arith),
)

pub loop-rest-smaller : goal.loop-rest-smaller
loop-rest-smaller c =
    let word : word_at c.loop-rest.rest.now ≡ Some (c.in-Some.word, c.in-Some.after.now) = ap word_at (sym c.of.ensures) ∙ sym c.in_ok-word.ensures ∙ ap (option_map (λ r. (r.0, r.1.now))) c.in-Some.is in
    omega (arith, word_at-shorter c.loop-rest.rest.now (c.in-Some.word, c.in-Some.after.now) word, without_blanks-shorter c.in-Some.after.now, ap length c.without_blanks-rest-in-loop-rest.ensures)

pub loop-rest-preserved : goal.loop-rest-preserved
loop-rest-preserved c =
    let some : length c.loop-rest.rest.now ≢ 0 = grind (arith, nat_tests, c.loop-rest-test.ensures) in
    let word : word_at c.loop-rest.rest.now ≡ Some (c.in-Some.word, c.in-Some.after.now) = ap word_at (sym c.of.ensures) ∙ sym c.in_ok-word.ensures ∙ ap (option_map (λ r. (r.0, r.1.now))) c.in-Some.is in (
      c.without_blanks-rest-in-loop-rest.utf8,
      rw c.in_ok-push.ensures.items
          (goes_on c.args.text.now c.loop-rest.words.items c.loop-rest.rest.now c.in-Some.after.now c.without_blanks-rest-in-loop-rest.result.now c.in-Some.word c.loop-rest.invariant.1 some word c.without_blanks-rest-in-loop-rest.ensures),
      rw c.in_ok-push.ensures.items
          (omega (arith, length-append c.loop-rest.words.items (c.in-Some.word ∷ []), c.loop-rest.invariant.2, c.if-len-eq-MOST_WORDS.false, c.len.ensures)),
    )

pub returns-in_default : goal.returns-in_default
returns-in_default c =
    let some : length c.loop-rest.rest.now ≢ 0 = grind (arith, nat_tests, c.loop-rest-test.ensures) in
    ap few (ends c.args.text.now c.loop-rest.words.items c.loop-rest.rest.now c.loop-rest.invariant.1 some (ap word_at (sym c.of.ensures) ∙ sym c.in_ok-word.ensures ∙ ap (option_map (λ r. (r.0, r.1.now))) c.in_default.is))

pub returns-then-len-eq-MOST_WORDS : goal.returns-then-len-eq-MOST_WORDS
returns-then-len-eq-MOST_WORDS c =
    let some : length c.loop-rest.rest.now ≢ 0 = grind (arith, nat_tests, c.loop-rest-test.ensures) in
    let full : length c.loop-rest.words.items ≡ 4 = omega (arith, c.len.ensures, c.if-len-eq-MOST_WORDS.true) in
    too_many c.args.text.now c.loop-rest.words.items c.loop-rest.rest.now c.loop-rest.invariant.1 some full

pub returns : goal.returns
returns c =
    few_short c.loop-rest.words.items c.loop-rest.invariant.2
    ∙ ap few (is_done c.args.text.now c.loop-rest.words.items c.loop-rest.rest.now c.loop-rest.invariant.1 (nil_from_length c.loop-rest.rest.now (eqb-true (length c.loop-rest.rest.now) 0 (sym c.loop-rest-test.ensures))))
