use Rattle.std.proofs.Common.{◌≡◌, Some, sym, subst}
use Rattle.gt_value.specs.Names.{IsTold}
use Rattle.gt_objects.specs.InBytes.{blocks_in, known_in}
use Rattle.gt_elements.proofs.Asking.{told}
use Rattle.gt_writes.proofs.names.NamesBesideBlockNames.block.Goals as goal

pub returns-then-target-addr : goal.returns-then-target-addr
returns-then-target-addr c =
    let names = c.args.self.now.names in
    let objects = names.objects.now in
    let target = c.in-Some.target in
    let is = subst (λ address. known_in objects address ≡ Some target.known) c.if-target-addr.true (c.args.self.now.known target c.in-Some.is) in
    record { told = subst (λ b. IsTold (blocks_in objects) c.args.addr (Some b)) (sym c.block_of.ensures) (told objects c.args.addr names.named target.known is) }
