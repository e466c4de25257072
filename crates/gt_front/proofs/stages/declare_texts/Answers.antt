use Rattle.std.proofs.Common.{subst}
use Rattle.gt_headers.specs.Headers.{IsHeaderStop, IsFirstFault}
use Rattle.gt_headers.proofs.FaultPlaces.{fault_within}
use Rattle.gt_front.proofs.stages.declare_texts.Goals as goal

pub fault_line-requires-clause-counted : goal.fault_line-requires-clause-counted
fault_line-requires-clause-counted c =
    let fault : IsFirstFault c.args.texts.now c.in-Err-At.fault = subst (IsHeaderStop c.args.texts.now) c.in-Err-At.field-0-is c.in-Err-At.ensures.stopped in
    (fault_within c.args.texts.now c.in-Err-At.fault fault).0

pub fault_line-requires-clause-there : goal.fault_line-requires-clause-there
fault_line-requires-clause-there c =
    let fault : IsFirstFault c.args.texts.now c.in-Err-At.fault = subst (IsHeaderStop c.args.texts.now) c.in-Err-At.field-0-is c.in-Err-At.ensures.stopped in
    (fault_within c.args.texts.now c.in-Err-At.fault fault).1

pub returns-in-Err-At-clause-halted : goal.returns-in-Err-At-clause-halted
returns-in-Err-At-clause-halted c =
    λ words told script reads.
    let fault : IsFirstFault c.args.texts.now c.in-Err-At.fault = subst (IsHeaderStop c.args.texts.now) c.in-Err-At.field-0-is c.in-Err-At.ensures.stopped in
    c.halt.ensures.halted words told (record { headers = c.args.texts.now; script = script }) (c.args.call.now, reads, fault)
    (c.fault_line.ensures.line words script reads.called)
