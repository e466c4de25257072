use Rattle.std.proofs.Common.{◌++◌, ◌∙◌, ap, arith, codes}
use Rattle.gt_digits.specs.Digits.{decimal}
use Rattle.gt_generated.specs.Generated.{garbage_text, link_text}
use Rattle.gt_generated.proofs.NodeLemmas.{length-decimal, pieces, pieces_length}
use Rattle.gt_generated.proofs.texts.push_node.Goals as goal

pub returns-clause-added : goal.returns-clause-added
returns-clause-added c =
    pieces c.args.text.now (codes "@new $n node\n@set $n.key ") (decimal c.args.i) (codes "\n") (link_text c.args.i) (codes "@set head $n\n@get $p head\n") (garbage_text c.args.i)
    c.append.new.self c.push_decimal.new.text c.append-2.new.self c.append-3.new.self c.append-4.new.self c.append-5.new.self
    c.in_ok-append.ensures.added c.in_ok-push_decimal.ensures.added c.in_ok-append-2.ensures.added
    (c.in_ok-append-3.ensures.added ∙ ap (λ x. c.append-2.new.self ++ x) c.link.ensures.text) c.in_ok-append-4.ensures.added
    (c.in_ok-append-5.ensures.added ∙ ap (λ x. c.append-4.new.self ++ x) c.garbage.ensures.text)

pub returns-clause-short : goal.returns-clause-short
returns-clause-short c =
    let size =
    pieces_length c.args.text.now (codes "@new $n node\n@set $n.key ") (decimal c.args.i) (codes "\n") c.link.result.now (codes "@set head $n\n@get $p head\n") c.garbage.result.now
    c.append.new.self c.push_decimal.new.text c.append-2.new.self c.append-3.new.self c.append-4.new.self c.append-5.new.self
    c.in_ok-append.ensures.added c.in_ok-push_decimal.ensures.added c.in_ok-append-2.ensures.added c.in_ok-append-3.ensures.added c.in_ok-append-4.ensures.added
    c.in_ok-append-5.ensures.added in
    let digits = length-decimal c.args.i (omega arith) in
    let link = c.link.ensures.short in
    let garbage = c.garbage.ensures.short in
    omega (arith, size, digits, link, garbage)
