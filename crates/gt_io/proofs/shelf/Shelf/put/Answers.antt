use Rattle.std.proofs.Common.{ap, ap₂, ◌∙◌}
use Rattle.gt_io.specs.Held.{with_contents}
use Rattle.gt_io.proofs.HeldEntries.{held_of-put}
use Rattle.gt_io.proofs.shelf.Shelf.put.Goals as goal

pub returns-clause-added : goal.returns-clause-added
returns-clause-added c =
    held_of-put c.self.inside.files.entries c.insert.new.self.entries c.in_ok-name.name c.in_ok-bytes.bytes c.in_ok-insert.ensures.updates.0
    ∙ ap (λ m. with_contents m c.in_ok-name.name c.in_ok-bytes.bytes) c.self.view_is
    ∙ ap₂ (with_contents c.args.self.now) c.in_ok-name.ensures.same c.in_ok-bytes.ensures.bytes
