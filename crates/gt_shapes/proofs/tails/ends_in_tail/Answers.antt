use Rattle.std.proofs.Common.{◌≡◌, ◌≢◌, ◌∙◌, suc, ◌-◌, length, sym, arith}
use Rattle.std.proofs.lemmas.Bool.{eqb-false}
use Rattle.gt_shapes.proofs.TailLemmas.{ends_in_tail_last}
use Rattle.gt_shapes.proofs.tails.ends_in_tail.Goals as goal

pub returns : goal.returns
returns c =
    let fields = c.args.fields.now in
    let some : length fields ≢ 0 = eqb-false (length fields) 0 (sym c.is_empty.ensures ∙ c.if-is_empty.false) in
    let last : length fields ≡ suc (length fields - 1) = omega (arith, some) in
    record {
      tail = c.is_tail_array.ensures.array ∙ ends_in_tail_last fields (length fields - 1) c.index-fields-fields.result last c.index-fields-fields.is;
    }
