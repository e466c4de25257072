use Rattle.std.proofs.Common.{sym, subst, ◌∙◌}
use Rattle.std.proofs.lemmas.Bool.{eqb-true}
use Rattle.gt_pages.specs.Slots.{StartsSome}
use Rattle.sample_heap.proofs.Found.{owner_starts}
use Rattle.sample_heap.proofs.edges.starts.Goals as goal

pub returns-in-Some : goal.returns-in-Some
returns-in-Some c = λ same.
    subst (λ a. StartsSome c.args.pages.now.slots a) (eqb-true c.in-Some.start c.args.addr same)
    (owner_starts c.args.pages.now.slots c.args.addr c.in-Some.start c.in-Some._size (sym c.owner.ensures.owner ∙ c.in-Some.is))
