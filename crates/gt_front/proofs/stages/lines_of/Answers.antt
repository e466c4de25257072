use Rattle.std.proofs.Common.{refl, inl, inr, subst}
use Rattle.gt_script.specs.Outcome.{IsScriptStop, IsRefusedAt, IsTooLong}
use Rattle.gt_front.proofs.stages.lines_of.Goals as goal

pub returns-in-Err-ScriptSyntax-clause-halted : goal.returns-in-Err-ScriptSyntax-clause-halted
returns-in-Err-ScriptSyntax-clause-halted c =
    λ words told headers program reads declares.
    let fault : IsRefusedAt c.args.text c.in-Err-ScriptSyntax.line = subst (IsScriptStop c.args.text) c.in-Err-ScriptSyntax.field-0-is c.in-Err-ScriptSyntax.ensures.fault in
    c.halt_script.ensures.halted words told (record { headers = headers; script = c.args.text })
    (c.args.call.now, reads, (program, declares), inl (refl, fault)) reads.called

pub returns-in-Err-ScriptTooLong-clause-halted : goal.returns-in-Err-ScriptTooLong-clause-halted
returns-in-Err-ScriptTooLong-clause-halted c =
    λ words told headers program reads declares.
    let fault : IsTooLong c.args.text = subst (IsScriptStop c.args.text) c.in-Err-ScriptTooLong.field-0-is c.in-Err-ScriptTooLong.ensures.fault in
    c.halt_script-in-Err-ScriptTooLong.ensures.halted words told (record { headers = headers; script = c.args.text })
    (c.args.call.now, reads, (program, declares), inr (refl, refl, fault)) reads.called
