use Rattle.std.proofs.Common.{◌≡◌, refl, arith}
use Rattle.gt_held.proofs.ZeroBlocks.{nodes-answer, nodes-nought, pointers-zero, strings-zero, raw-zero, chars-answer}
use Rattle.gt_held.proofs.zeros.has_zero.Goals as goal

pub returns-in-Nodes : goal.returns-in-Nodes
returns-in-Nodes c = record {
  zero =
      nodes-answer c.args.program.now c.args.kind c.args.count c.args.capacity c.in-Nodes.field-0 c.in-Nodes.is c.if-count-gt0.true c.has_zero_element.result
      c.has_zero_element.ensures.zero;
}

pub returns-in-Nodes-2 : goal.returns-in-Nodes-2
returns-in-Nodes-2 c = record {
  zero = λ g. (
    λ _.
        nodes-nought c.args.program.now c.args.kind c.args.count c.args.capacity c.in-Nodes-2.field-0 c.in-Nodes-2.is
        (let none : c.args.count ≡ 0 = (let few = c.if-count-gt0.false in omega (arith, few)) in none) g,
    λ _. refl,
  );
}

pub returns-in-Pointers : goal.returns-in-Pointers
returns-in-Pointers c = record {
  zero = λ g. (λ _. pointers-zero c.args.program.now c.args.kind c.args.count c.args.capacity c.in-Pointers.field-0 c.in-Pointers.is g, λ _. refl);
}

pub returns-in-Strings : goal.returns-in-Strings
returns-in-Strings c = record { zero = λ g. (λ _. strings-zero c.args.program.now c.args.kind c.args.count c.args.capacity c.in-Strings.is g, λ _. refl) }

pub returns-in-Chars : goal.returns-in-Chars
returns-in-Chars c = record { zero = chars-answer c.args.program.now c.args.kind c.args.count c.args.capacity c.in-Chars.is }

pub returns-in-Raw : goal.returns-in-Raw
returns-in-Raw c = record { zero = λ g. (λ _. raw-zero c.args.program.now c.args.kind c.args.count c.args.capacity c.in-Raw.is g, λ _. refl) }
