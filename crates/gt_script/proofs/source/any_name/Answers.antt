use Rattle.std.proofs.Common.{refl, sym}
use Rattle.std.specs.Str.{chars}
use Rattle.gt_script.proofs.Decoding.{name_some, name_other}
use Rattle.gt_script.proofs.source.any_name.Goals as goal

pub returns-then-is_identifier : goal.returns-then-is_identifier
returns-then-is_identifier c = record { name = sym (name_some c.args.text.now (chars c.args.text.now) c.utf8.text c.if-is_identifier.ensures refl) }

pub returns-else-is_identifier : goal.returns-else-is_identifier
returns-else-is_identifier c = record { name = sym (name_other c.args.text.now c.if-is_identifier.ensures) }
