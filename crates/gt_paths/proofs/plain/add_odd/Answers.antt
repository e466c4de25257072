use Rattle.std.proofs.lemmas.Bool.Decides.{not_from_Decides}
use Rattle.gt_paths.proofs.Odd.{odd_added, plain_kept}
use Rattle.gt_paths.proofs.plain.add_odd.Goals as goal

pub returns-then-is_plain_struct : goal.returns-then-is_plain_struct
returns-then-is_plain_struct c = record { added = plain_kept c.args.program.now c.args.odd.now.keys c.args.node (c.is_plain_struct.ensures.0 c.if-is_plain_struct.true) }

pub returns : goal.returns
returns c = record {
  added = odd_added c.args.program.now c.args.odd.now.keys c.insert.new.self.keys c.args.node (not_from_Decides c.is_plain_struct.result c.is_plain_struct.ensures c.if-is_plain_struct.false)
      c.in_ok-insert.ensures.keys;
}
