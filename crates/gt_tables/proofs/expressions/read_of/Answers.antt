use Rattle.std.proofs.Common.{◌≡◌, ◌<◌, ◌-◌, ◌^◌, length, None, rules, arith}
use Rattle.gt_tables.proofs.Translating.{read-none, read-one}
use Rattle.gt_tables.proofs.expressions.read_of.Goals as goal

pub returns-in_default : goal.returns-in_default
returns-in_default c = let none : c.args.leaf ≡ None = search rules in read-none c.args.leaves.now.items c.args.leaf none

pub returns-in_ok-push-in-Ok : goal.returns-in_ok-push-in-Ok
returns-in_ok-push-in-Ok c =
    let place : c.in-Ok.place ≡ length c.args.leaves.now.items = search rules in
    let small : c.in-Ok.place < 2 ^ 32 - 1 = omega arith in
    read-one c.args.leaves.now.items c.push.new.self.items c.args.leaf c.in-Some.leaf c.in-Ok.place c.in-Some.is c.in_ok-push-in-Ok.ensures.items place small
