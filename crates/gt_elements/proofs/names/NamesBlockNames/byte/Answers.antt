use Rattle.std.proofs.Common.{◌+◌, ◌∙◌, ap, sym, subst}
use Rattle.gt_space.specs.Numbers.{u8_at}
use Rattle.gt_space.specs.Range.{IsInside}
use Rattle.gt_value.specs.Names.{IsChar}
use Rattle.gt_objects.specs.InBytes.{blocks_in}
use Rattle.gt_elements.proofs.Asking.{char_address, char_is, char_room}
use Rattle.gt_elements.proofs.names.NamesBlockNames.byte.Goals as goal

pub overflow_add-addr : goal.overflow_add-addr
overflow_add-addr c = record { fits = char_address c.args.self.now.objects.now c.args.addr c.args.self.now.named c.sound.ensures.space c.args.i c.requires.there }

pub read_u8-requires : goal.read_u8-requires
read_u8-requires c =
    subst (λ r. IsInside r (c.args.addr + c.args.i) 1) (sym c.space.ensures) (char_room c.args.self.now.objects.now c.args.addr c.args.self.now.named c.sound.ensures.space c.args.i c.requires.there)

pub returns : goal.returns
returns c = record {
  byte = subst (IsChar (blocks_in c.args.self.now.objects.now) c.args.addr c.args.i) (sym (c.read_u8.ensures ∙ ap (λ r. u8_at r (c.args.addr + c.args.i)) c.space.ensures))
      (char_is c.args.self.now.objects.now c.args.addr c.args.self.now.named c.sound.ensures.space c.args.i c.requires.there);
}
