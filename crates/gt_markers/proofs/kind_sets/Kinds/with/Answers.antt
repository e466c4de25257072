use Rattle.std.proofs.Common.{sym}
use Rattle.gt_markers.proofs.KindLemmas.{with_known, with_unknown}
use Rattle.gt_markers.proofs.kind_sets.Kinds.with.Goals as goal

pub returns-in-Some : goal.returns-in-Some
returns-in-Some c =
    record {
      with = λ options are.
          with_known options c.args.option.now c.args.self c.with_kind.result c.in-Some.kind (sym c.in-Some.ensures.kind) c.with_kind.ensures.with are;
    }

pub returns-in-None : goal.returns-in-None
returns-in-None c = record { with = λ options are. with_unknown options c.args.option.now c.args.self (sym c.in-None.ensures.kind) are }
