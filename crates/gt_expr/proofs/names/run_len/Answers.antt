use Rattle.std.proofs.Common.{sym, refl, arith}
use Rattle.std.specs.Prelude.{Some, None}
use Rattle.gt_text.specs.Identifier.{continues_identifier_of}
use Rattle.gt_expr.proofs.CharactersLemmas.{more_within, more_utf8, more_run, run_ends}
use Rattle.gt_expr.proofs.names.run_len.Goals as goal

pub loop-c-smaller : goal.loop-c-smaller
loop-c-smaller c =
    omega (arith, more_within c.args.text.now c.loop-c.len c.in-Some.c c.loop-c.invariant.within c.in-Some.ensures, c.len_utf8-len.ensures.value)

pub loop-c-preserved : goal.loop-c-preserved
loop-c-preserved c = rw c.len_utf8-len.ensures.value (record {
  len = more_run c.args.text.now c.loop-c.len c.in-Some.c _ continues_identifier_of c.in-Some.ensures c.if-continues_identifier.ensures.continues c.loop-c.invariant.len;
  within = more_within c.args.text.now c.loop-c.len c.in-Some.c c.loop-c.invariant.within c.in-Some.ensures;
  utf8 = more_utf8 c.args.text.now c.loop-c.len c.in-Some.c c.in-Some.ensures c.loop-c.invariant.utf8;
})

pub returns-in_default-clause-len : goal.returns-in_default-clause-len
returns-in_default-clause-len c =
    run_ends c.args.text.now c.loop-c.len (Some c.in-Some.c) _ continues_identifier_of c.in-Some.ensures (sym c.if-continues_identifier.ensures.continues) c.loop-c.invariant.len

pub returns-in_default-2-clause-len : goal.returns-in_default-2-clause-len
returns-in_default-2-clause-len c = run_ends c.args.text.now c.loop-c.len None _ continues_identifier_of c.in_default.ensures refl c.loop-c.invariant.len
