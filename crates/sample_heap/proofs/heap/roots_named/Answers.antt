use Rattle.std.proofs.Common.{◌≡◌, ◌≤◌, length, get_or, true, subst, inl, inr, arith, rules}
use Rattle.std.proofs.lemmas.Bool.{cases_lt}
use Rattle.gt_walk.specs.Rows.{edges_of}
use Rattle.sample_heap.specs.Named.{AllName}
use Rattle.sample_heap.proofs.Ready.{all_roots}
use Rattle.sample_heap.proofs.heap.roots_named.Goals as goal

pub loop-walk-preserved : goal.loop-walk-preserved
loop-walk-preserved c = λ i low inside. elim (cases_lt i c.loop-walk.walk-index) [
  | inl before ↦ c.loop-walk.invariant i before inside
  | inr past ↦
      let holds : c.are_named.result ≡ true = search rules in
      let same : c.loop-walk.walk-index ≡ i = omega (arith, past, low) in
      subst (λ k. AllName c.args.known.now.slots c.args.pages.now.slots (edges_of c.args.tables.now (get_or c.as_slice-walk-items.result.now k 0) 1 c.args.space.now 0)) same (c.are_named.ensures holds)
]

pub returns : goal.returns
returns c = λ _.
    let whole : length c.as_slice-walk-items.result.now ≤ c.loop-walk.walk-index = search rules in
    all_roots c.args.tables.now c.args.space.now c.args.known.now.slots c.args.pages.now.slots c.as_slice-walk-items.result.now c.as_slice-walk-items.ensures.items (λ i inside. c.loop-walk.invariant i (omega (arith, whole, inside)) inside)
