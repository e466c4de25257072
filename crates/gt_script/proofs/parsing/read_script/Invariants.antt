use Rattle.std.proofs.Common.{◌≡◌, length}
use Rattle.std.specs.Str.{IsUtf8}
use Rattle.gt_script.specs.declared.statements.Known.TheVariants.{All}
use Rattle.gt_script.proofs.Outcomes.{SoFar}
use Rattle.gt_script.proofs.parsing.read_script.Given as goal

abbrev pub invariant-loop-rest : goal.invariant-loop-rest
invariant-loop-rest l = record {
  so_far : SoFar l.text l.lines l.number l.rest;
  utf8 : l.known ≡ All → IsUtf8 l.rest;
}

abbrev pub decreases-loop-rest : goal.decreases-loop-rest
decreases-loop-rest l = length l.rest
