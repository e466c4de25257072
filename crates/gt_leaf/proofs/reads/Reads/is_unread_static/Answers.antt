use Rattle.std.proofs.Common.{◌-◌, IsTrue, drop, take, get_or, length, subst, option_copied}
use Rattle.std.specs.Prelude.{◌↔◌}
use Rattle.gt_value.proofs.CursorSteps.{split-path}
use Rattle.gt_leaf.specs.Unread.{Around, IsUnread}
use Rattle.gt_leaf.proofs.TableLemmas.{static-step}
use Rattle.gt_leaf.proofs.reads.Reads.is_unread_static.Goals as goal

pub returns-in-len1-up : goal.returns-in-len1-up
returns-in-len1-up c =
    let path = c.args.path.now in
    record {
      unread = λ t. subst (λ (around : Around). IsTrue c.is_unread-in-len1-up.result ↔ IsUnread c.args.program.now around c.args.place.active c.args.place.holder)
          (static-step c.args.program.now path (get_or path 0 0) (take (length path - 1) (drop 1 path)) (option_copied c.root_at.result) (split-path path c.in-len1-up.len_at_least) c.root_at.ensures)
          (c.is_unread-in-len1-up.ensures.unread t);
    }
