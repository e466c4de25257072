use Rattle.std.proofs.Common.{◌≡◌, ◌-◌, true, drop, take, get_or, length, ap, sym, subst, option_copied}
use Rattle.std.specs.Prelude.{◌↔◌}
use Rattle.gt_value.proofs.CursorSteps.{split-path}
use Rattle.gt_starts.specs.Paths.{BeginsIn}
use Rattle.gt_leaf.specs.Around.{SomeLead}
use Rattle.gt_leaf.specs.Unread.{Around, with_itself}
use Rattle.gt_leaf.proofs.TableLemmas.{from-step}
use Rattle.gt_leaf.proofs.reads.Reads.+is_read_around.Goals as goal

pub returns : goal.returns
returns t c =
    let program = c.args.program.now in
    let path = c.args.path.now in
    let type = c.in-Some.ty.now in
    record {
      read = λ around given. subst (λ (a : Around). (c.is_read_around.result ≡ true) ↔ SomeLead (BeginsIn c.args.self.now.inside) c.args.name.now a.structures)
          (sym (from-step program around (option_copied c.args.ty) type path (get_or path 0 0) (take (length path - 1) (drop 1 path)) (option_copied c.part_at.result) (ap option_copied c.in-Some.is) (split-path path c.in-len1-up.len_at_least) c.part_at.ensures))
          (c.is_read_around.ensures.read (with_itself program around type path) (c.is_read_in-is_read.ensures.read around given));
    }
