use Rattle.std.proofs.Common.{ap, ◌∙◌}
use Rattle.gt_entries.specs.Sets.{sets_of}
use Rattle.gt_entries.proofs.Thirds.{sweep_sets, third_is, thirds_of}
use Rattle.gt_entries.proofs.sets.Sets.sweep.Goals as goal

pub returns : goal.returns
returns c =
    let ws = c.self.inside.words.items in
    let first = third_is c.self.inside.len ws c.self.invariant in
    ap sets_of c.copy_within.ensures.items
    ∙ sweep_sets ws c.self.inside.len (thirds_of c.self.inside.len ws c.self.invariant) first
    ∙ ap (λ s. record { used = s.marked; marked = s.marked; pending = s.pending }) c.self.view_is
