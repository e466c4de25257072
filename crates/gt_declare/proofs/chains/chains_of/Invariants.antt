use Rattle.std.proofs.Common.{◌≡◌, take}
use Rattle.std.specs.Prelude.{filter_map}
use Rattle.gt_declare.specs.Programs.{chain_of}
use Rattle.gt_declare.proofs.chains.chains_of.Given as goal

abbrev pub invariant-loop-option : goal.invariant-loop-option
invariant-loop-option l = l.chains ≡ filter_map (chain_of l.structures l.from) (take l.option-index l.options)
