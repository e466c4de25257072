use Rattle.std.proofs.Common.{◌≡◌, ℕ, List, Some, subst}
use Rattle.std.specs.Str.{chars}
use Rattle.gt_script.specs.Values.{name_at}
use Rattle.gt_script.proofs.AsciiNames.{name_from_ascii}
use Rattle.gt_script.proofs.source.name_in.Goals as goal

pub returns-then-is_ascii_name : goal.returns-then-is_ascii_name
returns-then-is_ascii_name c = record {
  name =
      subst (λ (t : List ℕ). name_at t ≡ Some (chars t)) c.as_bytes.ensures.value
      (name_from_ascii c.as_bytes.result.now (c.is_ascii_name.ensures.ascii c.if-is_ascii_name.true) (c.is_ascii_name.ensures.name c.if-is_ascii_name.true));
}
