use Rattle.std.proofs.Common.{◌∙◌, sym}
use Rattle.gt_objects.proofs.Finding.{known_nowhere, known_elsewhere, known_here, owner_here}
use Rattle.gt_objects.proofs.objects.Objects.known_block.Goals as goal

pub returns-in_err-start : goal.returns-in_err-start
returns-in_err-start c = record { known = c.from_residual.ensures ∙ sym (known_nowhere c.args.self.now c.args.addr (sym c.owner.ensures.owner ∙ c.in_err-start.was)) }

pub returns-then-start-addr : goal.returns-then-start-addr
returns-then-start-addr c = record { known = sym (known_elsewhere c.args.self.now c.args.addr c.in_ok-start.start c.in_ok-start.size (sym c.owner.ensures.owner ∙ c.in_ok-start.was) c.if-start-addr.true) }

pub get-requires : goal.get-requires
get-requires c = record { block = c.requires.places c.args.addr c.in_ok-start.size (owner_here c.args.self.now c.args.addr c.in_ok-start.start c.in_ok-start.size c.if-start-addr.false (sym c.owner.ensures.owner ∙ c.in_ok-start.was)) }

pub returns : goal.returns
returns c = record {
  known =
      c.get.ensures.known
      ∙ sym (known_here c.args.self.now c.args.addr c.in_ok-start.size (owner_here c.args.self.now c.args.addr c.in_ok-start.start c.in_ok-start.size c.if-start-addr.false (sym c.owner.ensures.owner ∙ c.in_ok-start.was)));
}
