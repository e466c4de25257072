use Rattle.std.proofs.Common.{◌≡◌, take}
use Rattle.std.specs.Prelude.{filter_map}
use Rattle.gt_resolve.specs.Drafts.{word_of}
use Rattle.gt_resolve.proofs.drafting.words.Given as goal

abbrev pub invariant-loop-name : goal.invariant-loop-name
invariant-loop-name l = l.made.items ≡ filter_map word_of (take l.name-index l.names)
