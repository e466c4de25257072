use Rattle.std.proofs.Common.{rules, drop, length, ◌-◌}
use Rattle.std.proofs.lemmas.List.Elements.{All-drop, All-take}
use Rattle.gt_typing.specs.SmallTypes.{IsSmall}
use Rattle.gt_typing.proofs.arrays.+arrays.Goals as goal

pub arrays-requires : goal.arrays-requires
arrays-requires t c = (search rules, All-take IsSmall (length c.args.bounds.now - 1) (drop 1 c.args.bounds.now) (All-drop IsSmall 1 c.args.bounds.now c.requires.small))
