use Rattle.std.proofs.Common.{◌≡◌, ◌≤◌, length, get_or, true, false, is_none, is_some, subst, inl, inr, arith, rules}
use Rattle.std.proofs.lemmas.Bool.{cases_lt}
use Rattle.gt_pages.specs.Slots.{StartsSome, mark_at}
use Rattle.sample_heap.proofs.Ready.{each_known, known_some}
use Rattle.sample_heap.proofs.heap.are_known.Goals as goal

pub returns : goal.returns
returns c = λ _.
    let whole : length c.args.blocks.now ≤ c.loop-addr.addr-index = search rules in
    each_known c.args.known.now.slots c.args.pages.now.slots c.args.blocks.now (λ i inside. c.loop-addr.invariant i (omega (arith, whole, inside)) inside)

pub loop-addr-preserved : goal.loop-addr-preserved
loop-addr-preserved c = λ i low inside. elim (cases_lt i c.loop-addr.addr-index) [
  | inl before ↦ c.loop-addr.invariant i before inside
  | inr past ↦
      let some : is_none c.mark_of.result ≡ false = search rules in
      let starts : c.starts.result ≡ true = search rules in
      let same : c.loop-addr.addr-index ≡ i = omega (arith, past, low) in
      subst (λ k. StartsSome c.args.pages.now.slots (get_or c.args.blocks.now k 0) × (is_some (mark_at c.args.known.now.slots (get_or c.args.blocks.now k 0)) ≡ true)) same
      (c.starts.ensures starts, known_some c.args.known.now.slots _ c.mark_of.result c.mark_of.ensures some)
]
