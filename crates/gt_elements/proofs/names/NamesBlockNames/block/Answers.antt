use Rattle.std.proofs.Common.{◌∙◌, sym, subst}
use Rattle.gt_value.specs.Names.{IsTold}
use Rattle.gt_objects.specs.InBytes.{blocks_in}
use Rattle.gt_elements.proofs.Asking.{told, untold}
use Rattle.gt_elements.proofs.names.NamesBlockNames.block.Goals as goal

pub returns-in_err-known : goal.returns-in_err-known
returns-in_err-known c = record {
  told = subst (IsTold (blocks_in c.args.self.now.objects.now) c.args.addr) (sym c.from_residual.ensures) (untold c.args.self.now.objects.now c.args.addr (sym c.known_block.ensures.known ∙ c.in_err-known.was));
}

pub returns : goal.returns
returns c = record { told = told c.args.self.now.objects.now c.args.addr c.args.self.now.named c.in_ok-known.known (sym c.known_block.ensures.known ∙ c.in_ok-known.was) }
