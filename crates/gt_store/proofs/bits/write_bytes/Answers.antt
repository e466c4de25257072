use Rattle.std.proofs.Common.{◌+◌, ◌/◌, ◌∙◌, ap, sym, subst}
use Rattle.gt_space.specs.Range.{with_bytes}
use Rattle.gt_tree.specs.Leaves.{byte_leaves}
use Rattle.gt_store.specs.Overlays.{Overlays}
use Rattle.gt_store.proofs.OverlayLemmas.{overlays-bytes}
use Rattle.gt_store.proofs.bits.write_bytes.Goals as goal

pub returns : goal.returns
returns c =
    subst (Overlays (byte_leaves c.args.at c.args.bytes.now) c.args.space.now)
    (sym (c.copy_in.ensures.bytes ∙ ap (λ a. with_bytes c.args.space.now (a + c.args.at / 8) c.args.bytes.now) c.start.ensures.start))
    (overlays-bytes c.args.bytes.now c.args.space.now c.args.at c.requires.whole c.requires.inside (λ k. (c.type_inv.bytes k).fits))
