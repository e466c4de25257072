use Rattle.std.proofs.Common.{◌<◌, Ok, Err, [], length, set, refl, subst, rules}
use Rattle.std.specs.Prelude.{OnErr}
use Rattle.std.specs.declared.result.Result.{Result}
use Rattle.gt_starts.specs.Paths.{Starts}
use Rattle.gt_starts.proofs.TrieLemmas.{grows-then}
use Rattle.gt_starts.proofs.EndLemmas.{starts-of, Adds, BeginAlike, begins-still, ends-still, path-added, ends-added}
use Rattle.gt_starts.proofs.paths.PathSet.add.Goals as goal

on-err : {X E : Type 0} (r : Result X E) (P : Type 0) → P → OnErr r P
on-err (Ok x) P p = tt
on-err (Err e) P p = p

pub invariant_of-self : goal.invariant_of-self
invariant_of-self c =
    ends-still c.self.inside.trie c.add.new.self c.self.inside.begins.items c.self.inside.begins.items c.self.inside.ends.items c.self.inside.ends.items c.add.ensures.grows c.add.ensures.apart (λ i. refl) (λ i. refl) c.self.invariant

pub invariant_of-self-in_err-here : goal.invariant_of-self-in_err-here
invariant_of-self-in_err-here c =
    ends-still c.self.inside.trie c.add.new.self c.self.inside.begins.items c.extended.new.rows.items c.self.inside.ends.items c.self.inside.ends.items c.add.ensures.grows c.add.ensures.apart c.extended.ensures.same (λ i. refl) c.self.invariant

pub returns-in_err-here-clause-unchanged : goal.returns-in_err-here-clause-unchanged
returns-in_err-here-clause-unchanged c =
    on-err c.from_residual-in_err-here.result _ (subst (λ (old : Starts). BeginAlike old (starts-of c.add.new.self c.extended.new.rows.items)) c.self.view_is
    (begins-still c.self.inside.trie c.add.new.self c.self.inside.begins.items c.extended.new.rows.items c.self.inside.ends.items c.self.inside.ends.items c.add.ensures.grows c.add.ensures.apart c.extended.ensures.same (λ i. refl) c.self.invariant))

pub invariant_of-self-in_err-add_ends : goal.invariant_of-self-in_err-add_ends
invariant_of-self-in_err-add_ends c =
    ends-still c.self.inside.trie c.add_ends.new.trie c.self.inside.begins.items c.extended.new.rows.items c.self.inside.ends.items c.add_ends.new.ends.items (grows-then c.self.inside.trie c.add.new.self c.add_ends.new.trie c.add.ensures.grows c.add_ends.ensures.grows)
    c.add_ends.ensures.apart c.extended.ensures.same c.in_err-add_ends.ensures.unchanged c.self.invariant

pub returns-in_err-add_ends-clause-unchanged : goal.returns-in_err-add_ends-clause-unchanged
returns-in_err-add_ends-clause-unchanged c =
    on-err c.from_residual-in_err-add_ends.result _ (subst (λ (old : Starts). BeginAlike old (starts-of c.add_ends.new.trie c.extended.new.rows.items)) c.self.view_is
    (begins-still c.self.inside.trie c.add_ends.new.trie c.self.inside.begins.items c.extended.new.rows.items c.self.inside.ends.items c.add_ends.new.ends.items (grows-then c.self.inside.trie c.add.new.self c.add_ends.new.trie c.add.ensures.grows c.add_ends.ensures.grows)
    c.add_ends.ensures.apart c.extended.ensures.same c.in_err-add_ends.ensures.unchanged c.self.invariant))

pub invariant_of-self-2 : goal.invariant_of-self-2
invariant_of-self-2 c =
    let within : c.in_ok-node.field-0 < length c.extended.new.rows.items = search (rules, c.in_ok-here.ensures.room) in
    ends-added c.self.inside.trie c.add_ends.new.trie c.self.inside.begins.items c.extended.new.rows.items c.self.inside.ends.items c.add_ends.new.ends.items (grows-then c.self.inside.trie c.add.new.self c.add_ends.new.trie c.add.ensures.grows c.add_ends.ensures.grows)
    c.add_ends.ensures.apart c.extended.ensures.same c.self.invariant c.args.names.now c.in_ok-node.field-0 c.in_ok-here.here c.args.begins.now.value
    (c.add_ends.ensures.grows.nodes c.args.names.now c.in_ok-node.field-0 c.in_ok-node.ensures.node) within c.in_ok-here.ensures.added (c.in_ok-add_ends.ensures.added [] refl)

pub returns-clause-added : goal.returns-clause-added
returns-clause-added c =
    let within : c.in_ok-node.field-0 < length c.extended.new.rows.items = search (rules, c.in_ok-here.ensures.room) in
    subst (λ (old : Starts). Adds old (starts-of c.add_ends.new.trie (set c.extended.new.rows.items c.in_ok-node.field-0 c.in_ok-here.here)) c.args.names.now c.args.begins.now.value) c.self.view_is
    (path-added c.self.inside.trie c.add_ends.new.trie c.self.inside.begins.items c.extended.new.rows.items c.self.inside.ends.items c.add_ends.new.ends.items (grows-then c.self.inside.trie c.add.new.self c.add_ends.new.trie c.add.ensures.grows c.add_ends.ensures.grows)
    c.add_ends.ensures.apart c.extended.ensures.same c.self.invariant c.args.names.now c.in_ok-node.field-0 c.in_ok-here.here c.args.begins.now.value
    (c.add_ends.ensures.grows.nodes c.args.names.now c.in_ok-node.field-0 c.in_ok-node.ensures.node) within c.in_ok-here.ensures.added)
