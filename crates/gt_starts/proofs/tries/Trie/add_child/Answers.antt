use Rattle.std.proofs.Common.{◌≡◌, ◌<◌, ◌^◌, suc, None, Some, ap, sym, ◌∙◌, arith, rules}
use Rattle.gt_names.proofs.NameLists.{absent}
use Rattle.gt_starts.specs.Tries.{number_of, child}
use Rattle.gt_starts.proofs.TrieLemmas.{Puts, added-child, added-trie, added-grows}
use Rattle.gt_starts.proofs.tries.Trie.add_child.Goals as goal

pub invariant_of-self-2 : goal.invariant_of-self-2
invariant_of-self-2 c =
    let free : child c.args.self.now c.args.node c.args.name.now ≡ None = sym c.child.ensures.child ∙ absent c.child.result c.in_default.not-Some in
    let same : c.in_ok-number.number ≡ c.in-Ok.name = search rules in
    let named : number_of c.add_name.new.self c.args.name.now ≡ Some c.in-Ok.name = c.in_ok-number.ensures.number ∙ ap Some same in
    let puts : Puts c.self.inside.steps.entries c.insert.new.self.entries (record { from = c.args.node; name = c.in-Ok.name }) c.self.inside.count =
    record { each = c.in_ok-insert.ensures.updates.0; own = c.in_ok-insert.ensures.updates.1 } in
    let more : c.in_ok-count.count ≡ suc c.self.inside.count = search rules in
    let narrow : c.in-Ok.name < 2 ^ 32 = omega arith in
    added-trie c.args.self.now c.add_name.new.self c.self.inside.names c.self.inside.steps.entries c.insert.new.self.entries c.args.node c.in-Ok.name c.self.inside.count c.in_ok-count.count c.args.name.now c.self.view_is
    c.in_ok-number.ensures.grows (c.in_ok-number.ensures.children c.args.node c.args.name.now) free named c.requires.there c.self.invariant puts narrow more

pub returns-clause-child : goal.returns-clause-child
returns-clause-child c =
    let free : child c.args.self.now c.args.node c.args.name.now ≡ None = sym c.child.ensures.child ∙ absent c.child.result c.in_default.not-Some in
    let same : c.in_ok-number.number ≡ c.in-Ok.name = search rules in
    let named : number_of c.add_name.new.self c.args.name.now ≡ Some c.in-Ok.name = c.in_ok-number.ensures.number ∙ ap Some same in
    let puts : Puts c.self.inside.steps.entries c.insert.new.self.entries (record { from = c.args.node; name = c.in-Ok.name }) c.self.inside.count =
    record { each = c.in_ok-insert.ensures.updates.0; own = c.in_ok-insert.ensures.updates.1 } in
    added-child c.args.self.now c.add_name.new.self c.self.inside.names c.self.inside.steps.entries c.insert.new.self.entries c.args.node c.in-Ok.name c.self.inside.count c.in_ok-count.count c.args.name.now c.self.view_is
    c.in_ok-number.ensures.grows (c.in_ok-number.ensures.children c.args.node c.args.name.now) free named c.requires.there c.self.invariant puts

pub returns-clause-grows : goal.returns-clause-grows
returns-clause-grows c =
    let free : child c.args.self.now c.args.node c.args.name.now ≡ None = sym c.child.ensures.child ∙ absent c.child.result c.in_default.not-Some in
    let same : c.in_ok-number.number ≡ c.in-Ok.name = search rules in
    let named : number_of c.add_name.new.self c.args.name.now ≡ Some c.in-Ok.name = c.in_ok-number.ensures.number ∙ ap Some same in
    let puts : Puts c.self.inside.steps.entries c.insert.new.self.entries (record { from = c.args.node; name = c.in-Ok.name }) c.self.inside.count =
    record { each = c.in_ok-insert.ensures.updates.0; own = c.in_ok-insert.ensures.updates.1 } in
    added-grows c.args.self.now c.add_name.new.self c.self.inside.names c.self.inside.steps.entries c.insert.new.self.entries c.args.node c.in-Ok.name c.self.inside.count c.in_ok-count.count c.args.name.now c.self.view_is
    c.in_ok-number.ensures.grows (c.in_ok-number.ensures.children c.args.node c.args.name.now) free named c.requires.there c.self.invariant puts

pub returns-clause-apart : goal.returns-clause-apart
returns-clause-apart c =
    let free : child c.args.self.now c.args.node c.args.name.now ≡ None = sym c.child.ensures.child ∙ absent c.child.result c.in_default.not-Some in
    let same : c.in_ok-number.number ≡ c.in-Ok.name = search rules in
    let named : number_of c.add_name.new.self c.args.name.now ≡ Some c.in-Ok.name = c.in_ok-number.ensures.number ∙ ap Some same in
    let puts : Puts c.self.inside.steps.entries c.insert.new.self.entries (record { from = c.args.node; name = c.in-Ok.name }) c.self.inside.count =
    record { each = c.in_ok-insert.ensures.updates.0; own = c.in_ok-insert.ensures.updates.1 } in
    let more : c.in_ok-count.count ≡ suc c.self.inside.count = search rules in
    let narrow : c.in-Ok.name < 2 ^ 32 = omega arith in
    (added-trie c.args.self.now c.add_name.new.self c.self.inside.names c.self.inside.steps.entries c.insert.new.self.entries c.args.node c.in-Ok.name c.self.inside.count c.in_ok-count.count c.args.name.now c.self.view_is
    c.in_ok-number.ensures.grows (c.in_ok-number.ensures.children c.args.node c.args.name.now) free named c.requires.there c.self.invariant puts narrow more).apart
