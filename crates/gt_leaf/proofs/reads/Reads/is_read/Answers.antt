use Rattle.std.proofs.Common.{◌≡◌, true, sym, subst, option_copied}
use Rattle.std.specs.Prelude.{◌↔◌}
use Rattle.gt_leaf.specs.Unread.{structures_on, IsReadName}
use Rattle.gt_leaf.proofs.TableLemmas.{top-read, around-read, inside-read, outermost-read}
use Rattle.gt_leaf.proofs.reads.Reads.is_read.Goals as goal

pub returns-then-is_read_outermost : goal.returns-then-is_read_outermost
returns-then-is_read_outermost c =
    let program = c.args.program.now in
    let around = structures_on program (option_copied c.args.ty) c.args.path.now in
    record {
      read = λ t. subst (λ x. (c.is_read_outermost.result ≡ true) ↔ IsReadName program around x c.args.name.now) (sym c.if-active.true)
          (top-read program c.args.self.now around c.args.name.now t c.is_read_outermost.result c.if-is_read_outermost.true c.is_read_outermost.ensures.read);
    }

pub returns-else-is_read_outermost : goal.returns-else-is_read_outermost
returns-else-is_read_outermost c =
    let program = c.args.program.now in
    let around = structures_on program (option_copied c.args.ty) c.args.path.now in
    record {
      read = λ t. subst (λ x. (c.is_read_inside.result ≡ true) ↔ IsReadName program around x c.args.name.now) (sym c.if-active.true)
          (around-read program c.args.self.now around c.args.name.now t c.is_read_outermost.result c.is_read_inside.result c.if-is_read_outermost.false c.is_read_outermost.ensures.read c.is_read_inside.ensures.read);
    }

pub returns-then-ends : goal.returns-then-ends
returns-then-ends c =
    let program = c.args.program.now in
    let around = structures_on program (option_copied c.args.ty) c.args.path.now in
    record {
      read = λ t. subst (λ x. (c.ends.result ≡ true) ↔ IsReadName program around x c.args.name.now) (sym c.if-active.false) (inside-read program c.args.self.now around c.args.name.now t c.ends.result c.if-ends.true c.ends.ensures.ends);
    }

pub returns-else-ends : goal.returns-else-ends
returns-else-ends c =
    let program = c.args.program.now in
    let around = structures_on program (option_copied c.args.ty) c.args.path.now in
    record {
      read = λ t. subst (λ x. (c.ends-else-ends.result ≡ true) ↔ IsReadName program around x c.args.name.now) (sym c.if-active.false)
          (outermost-read program c.args.self.now around c.args.name.now t c.ends.result c.ends-else-ends.result c.if-ends.false c.ends.ensures.ends c.ends-else-ends.ensures.ends);
    }
