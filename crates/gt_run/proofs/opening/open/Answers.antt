use Rattle.std.proofs.Common.{Option, subst}
use Rattle.std.specs.Prelude.{IfOk}
use Rattle.gt_types.specs.declared.program.Program.{Program}
use Rattle.gt_io.specs.Held.{Held}
use Rattle.gt_next.specs.States.{State}
use Rattle.gt_session.specs.Sessions.{StandsFor}
use Rattle.gt_session.specs.declared.session.Session.{Session}
use Rattle.gt_run.specs.Runs.{Opens}
use Rattle.gt_run.proofs.opening.open.Goals as goal

pub returns-clause-opens : goal.returns-clause-opens
returns-clause-opens c =
    let O : Program → Type 0 = λ program. IfOk c.open_schema.result (λ (session : Session). (told : Option Held) → (s : State) × Opens program c.args.settings told s × StandsFor session told s) in
    subst O c.in_ok-schema.ensures.program c.open_schema.ensures.opens
