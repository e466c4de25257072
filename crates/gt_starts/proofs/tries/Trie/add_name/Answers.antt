use Rattle.std.proofs.Common.{◌≡◌, List, ℕ, Ok, Err, sym, subst}
use Rattle.std.specs.Prelude.{OnOk, OnErr}
use Rattle.std.specs.declared.result.Result.{Result}
use Rattle.gt_names.specs.Lists.{with_name}
use Rattle.gt_starts.specs.Tries.{Trie, child}
use Rattle.gt_starts.specs.Nodes.{Grows}
use Rattle.gt_starts.proofs.TrieLemmas.{AreMore, more-with, more-same, more-child, trie-more, grows-more}
use Rattle.gt_starts.proofs.tries.Trie.add_name.Goals as goal

-- the names are those that there were, or with one more
more-either : {X E : Type 0} (r : Result X E) (names more : List (List ℕ)) (word : List ℕ) → OnOk r (more ≡ with_name names word) → OnErr r (more ≡ names) → AreMore names more
more-either (Ok x) names more word added same = more-with names more word added
more-either (Err e) names more word added same = subst (AreMore names) (sym same) (more-same names)

pub invariant_of-self : goal.invariant_of-self
invariant_of-self c =
    trie-more c.self.inside.names c.add.new.self c.self.inside.steps.entries c.self.inside.count
    (more-either c.add.result c.self.inside.names c.add.new.self c.args.name.now c.add.ensures.added c.add.ensures.unchanged) c.self.invariant

pub returns-clause-grows : goal.returns-clause-grows
returns-clause-grows c =
    subst (λ (old : Trie). Grows old (record { names = c.add.new.self; steps = c.self.inside.steps.entries })) c.self.view_is
    (grows-more c.self.inside.names c.add.new.self c.self.inside.steps.entries c.self.inside.count
    (more-either c.add.result c.self.inside.names c.add.new.self c.args.name.now c.add.ensures.added c.add.ensures.unchanged) c.self.invariant)

pub returns-clause-apart : goal.returns-clause-apart
returns-clause-apart c =
    (trie-more c.self.inside.names c.add.new.self c.self.inside.steps.entries c.self.inside.count
    (more-either c.add.result c.self.inside.names c.add.new.self c.args.name.now c.add.ensures.added c.add.ensures.unchanged) c.self.invariant).apart

pub returns-clause-children : goal.returns-clause-children
returns-clause-children c =
    subst (λ (old : Trie). (node : ℕ) (other : List ℕ) → child (record { names = c.add.new.self; steps = c.self.inside.steps.entries }) node other ≡ child old node other) c.self.view_is
    (more-child c.self.inside.names c.add.new.self c.self.inside.steps.entries c.self.inside.count
    (more-either c.add.result c.self.inside.names c.add.new.self c.args.name.now c.add.ensures.added c.add.ensures.unchanged) c.self.invariant)
