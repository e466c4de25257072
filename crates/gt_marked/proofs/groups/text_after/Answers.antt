use Rattle.std.proofs.Common.{◌++◌, ℕ, List, ap, ◌∙◌, arith}
use Rattle.std.specs.Prelude.{encode_utf8_all}
use Rattle.gt_marked.proofs.KeptLemmas.{text_joined, text_apart, text_end}
use Rattle.gt_marked.proofs.groups.text_after.Goals as goal
use Rattle.gt_marked.proofs.groups.text_after.Goals.{then-spot-end+in_ok-push, else-spot-end}

pub loop-token-preserved : goal.loop-token-preserved
loop-token-preserved c =
    let bytes = c.as_bytes.ensures.value ∙ c.as_str.ensures.text in
    let added = c.in_ok-append.ensures.added ∙ ap (λ (bytes : List ℕ). c.if-spot-end.text ++ bytes) bytes in
    elim c.if-spot-end.branch [
      | then-spot-end+in_ok-push w ↦
          text_apart c.args.tokens.now c.loop-token.text _ c.loop-token.end c.loop-token.token-index c.token-item.result (omega arith) c.token-item.is c.loop-token.invariant
          c.spot-spot.result.now c.append.new.self c.spot-spot.ensures (λ e. w.if-spot-end.true e)
          (added ∙ ap (λ (text : List ℕ). text ++ encode_utf8_all c.spot-spot.result.now.word) (w.text-is ∙ w.in_ok-push.ensures.added))
      | else-spot-end w ↦
          text_joined c.args.tokens.now c.loop-token.text _ c.loop-token.end c.loop-token.token-index c.token-item.result (omega arith) c.token-item.is c.loop-token.invariant
          c.spot-spot.result.now c.append.new.self c.spot-spot.ensures (omega arith)
          (added ∙ ap (λ (text : List ℕ). text ++ encode_utf8_all c.spot-spot.result.now.word) w.text-is)
    ]

pub returns : goal.returns
returns c = text_end c.args.tokens.now c.loop-token.text _ c.loop-token.end c.loop-token.token-index (omega arith) c.loop-token.invariant
