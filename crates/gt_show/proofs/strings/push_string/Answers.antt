use Rattle.std.proofs.Common.{◌≡◌, subst}
use Rattle.gt_tree.specs.Blocks.{Block, Chars}
use Rattle.gt_show.proofs.Quotes.{same_block, quoted_more}
use Rattle.gt_show.proofs.strings.push_string.Goals as goal

pub loop-i-preserved : goal.loop-i-preserved
loop-i-preserved g c b e =
    let same = same_block (g.N.BlockNames.blocks c.args.names.now c.args.addr) c.requires.there.0 b c.requires.there.1 e in
    quoted_more b.chars c.loop-i.i c.byte.result c.args.text.now c.loop-i.text c.push_char.new.text (c.byte.ensures.byte b e (subst (λ (d : Block). d.kind ≡ Chars) same c.requires.there.2)) (c.loop-i.invariant b e)
    c.in_ok-push_char.ensures.added
