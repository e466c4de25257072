use Rattle.std.proofs.Common.{◌≡◌, drop}
use Rattle.clap.specs.Walk.{texts}
use Rattle.gt_words.specs.Calls.{names_of}
use Rattle.gt_words.proofs.Names.{following}
use Rattle.gt_words.proofs.found.names.Given as goal

abbrev pub invariant-loop-text : goal.invariant-loop-text
invariant-loop-text l = following l.names.items (names_of (texts (drop l.text-index l.texts))) ≡ names_of (texts l.texts)
