use Rattle.std.proofs.Common.{refl, sym}
use Rattle.gt_split.proofs.Quoting.{known, at_end, meaningless, meant, closed, begun, itself}
use Rattle.gt_split.proofs.quotes.read_quoted.Goals as goal

pub returns-in-None : goal.returns-in-None
returns-in-None c = at_end c.bytes.bytes.items c.bytes.escaped _ (known c.bytes.bytes.items c.bytes.rest.now _ c.bytes.escaped _ _ refl c.in-None.ensures c.bytes.invariant)

pub returns-in_default : goal.returns-in_default
returns-in_default c =
    meaningless c.bytes.bytes.items c.in-Some.byte c.in-Some.after.now _ (sym c.in_default.ensures)
    (known c.bytes.bytes.items c.bytes.rest.now _ c.bytes.escaped _ _ c.if-escaped.true c.in-Some.ensures c.bytes.invariant)

pub bytes-preserved-then-escaped : goal.bytes-preserved-then-escaped
bytes-preserved-then-escaped c =
    rw c.in_ok-push-in-Some.ensures.items
    (meant c.bytes.bytes.items c.in-Some.byte c.in-Some-escape.meant c.in-Some.after.now _ (sym c.in-Some-escape.ensures)
    (known c.bytes.bytes.items c.bytes.rest.now _ c.bytes.escaped _ _ c.if-escaped.true c.in-Some.ensures c.bytes.invariant))

pub returns-in-Some-eq34-default : goal.returns-in-Some-eq34-default
returns-in-Some-eq34-default c =
    rw c.from_vec.ensures.bytes
    (closed c.bytes.bytes.items c.in-Some.byte c.in-Some.after.now _ c.in-Some-eq34-default.field-0-0-test
    (known c.bytes.bytes.items c.bytes.rest.now _ c.bytes.escaped _ _ c.if-escaped.false c.in-Some.ensures c.bytes.invariant))

pub bytes-preserved-in-Some-eq92-default : goal.bytes-preserved-in-Some-eq92-default
bytes-preserved-in-Some-eq92-default c =
    begun c.bytes.bytes.items c.in-Some.byte c.in-Some.after.now _ c.in-Some-eq92-default.field-0-0-test
    (known c.bytes.bytes.items c.bytes.rest.now _ c.bytes.escaped _ _ c.if-escaped.false c.in-Some.ensures c.bytes.invariant)

pub bytes-preserved : goal.bytes-preserved
bytes-preserved c =
    rw (c.in_ok-push-in-Some-2.ensures.items, c.if-escaped.false)
    (itself c.bytes.bytes.items c.in-Some.byte c.in-Some.after.now _ c.in-Some-2.byte-test.0.1 c.in-Some-2.byte-test.1
    (known c.bytes.bytes.items c.bytes.rest.now _ c.bytes.escaped _ _ c.if-escaped.false c.in-Some.ensures c.bytes.invariant))
