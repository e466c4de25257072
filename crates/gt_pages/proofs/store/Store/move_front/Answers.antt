use Rattle.std.proofs.Common.{ap, sym, subst, ◌∙◌}
use Rattle.gt_links.specs.Lists.{Lists, Holds}
use Rattle.gt_pages.specs.Parts.{Parts, parts_of}
use Rattle.gt_pages.proofs.CloseLemmas.{moved_front, some_list}
use Rattle.gt_pages.proofs.store.Store.move_front.Goals as goal

pub returns-in-None : goal.returns-in-None
returns-in-None c = record {
  moved = λ i held. absurd (c.in-None.ensures.free i held);
  alone = λ i j held. absurd (c.in-None.ensures.free i held);
}

pub returns-in-Some : goal.returns-in-Some
returns-in-Some c = record {
  moved = λ i held.
      let same = some_list c.in-Some.list i (sym c.in-Some.is ∙ c.list_of.ensures.one i held) in
      ap (λ s. from (parts_of c.args.self.now) s)
      (moved_front (parts_of c.args.self.now).lists c.unlink.new.self c.push_front.new.self c.in-Some.list i c.args.page same held (c.unlink.ensures.taken i held) c.push_front.ensures.front);
  alone = λ i j held there. c.unlink.ensures.free j (subst (λ s. Holds s j c.args.page) (sym (c.unlink.ensures.taken i held)) there);
}
  where
    from : Parts → Lists → Parts
    from p s = record p { lists = s }
