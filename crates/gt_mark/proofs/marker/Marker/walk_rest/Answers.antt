use Rattle.std.proofs.Common.{◌≡◌, ◌≤◌, ◌+◌, ◌∙◌, None, true, is_some, sym, ap, subst, inr, rules}
use Rattle.std.specs.Prelude.{option_map}
use Rattle.std.proofs.lemmas.Bool.{false≢true}
use Rattle.gt_mark.specs.Steps.{Ends, Holds, PassesOver, begun_state, state_of}
use Rattle.gt_mark.proofs.Steps.{ends_less, ends_more, holds_begun}
use Rattle.gt_mark.proofs.marker.Marker.walk_rest.Goals as goal

pub run_pass-requires-clause-ready : goal.run_pass-requires-clause-ready
run_pass-requires-clause-ready c =
    let r = c.rounds.invariant.ready in
    let begun : state_of c.begin_pass.new.self ≡ begun_state (state_of c.rounds.self) = search rules in
    (r.0, r.1, subst (Holds r.0 r.1 None) (sym begun) (holds_begun r.0 r.1 (state_of c.rounds.self) c.rounds.invariant.idle r.2))

pub rounds-smaller : goal.rounds-smaller
rounds-smaller c =
    let r = c.rounds.invariant.ready in
    let over : is_some c.rounds.self.lost ≡ true = search rules in
    let begun : state_of c.begin_pass.new.self ≡ begun_state (state_of c.rounds.self) = search rules in
    let h = holds_begun r.0 r.1 (state_of c.rounds.self) c.rounds.invariant.idle r.2 in
    ends_less r.0 r.1 (state_of c.rounds.self) (state_of c.run_pass.new.self) over
    (subst (λ s. PassesOver r.0 r.1 s (state_of c.run_pass.new.self)) begun (c.run_pass.ensures.goes r.0 r.1 (subst (Holds r.0 r.1 None) (sym begun) h)))

pub rounds-preserved : goal.rounds-preserved
rounds-preserved c =
    let r = c.rounds.invariant.ready in
    let over : is_some c.rounds.self.lost ≡ true = search rules in
    let begun : state_of c.begin_pass.new.self ≡ begun_state (state_of c.rounds.self) = search rules in
    let bound : c.saturating_add-rounds.result ≤ c.rounds.rounds + 1 = search rules in
    let twice : 2 ≤ c.saturating_add-rounds.result = search rules in
    let least : 1 ≤ c.saturating_add-rounds.result = search rules in
    let h = holds_begun r.0 r.1 (state_of c.rounds.self) c.rounds.invariant.idle r.2 in
    record {
      ready = (r.0, r.1, (c.run_pass.ensures.goes r.0 r.1 (subst (Holds r.0 r.1 None) (sym begun) h)).holds);
      idle = ap (λ p. option_map (λ q. q.at) p) c.run_pass.ensures.over;
      empty = c.run_pass.ensures.empty;
      same_reference = c.run_pass.ensures.same_reference ∙ c.begin_pass.ensures.same_reference ∙ c.rounds.invariant.same_reference;
      ends = λ t list k.
          ends_more t list c.rounds.rounds c.saturating_add-rounds.result (state_of c.args.self.now) (state_of c.rounds.self) (state_of c.run_pass.new.self) over c.rounds.invariant.idle bound (c.rounds.invariant.ends t list k)
          (λ g. subst (λ s. PassesOver t list s (state_of c.run_pass.new.self)) begun (c.run_pass.ensures.goes t list (subst (Holds t list None) (sym begun) g)));
      at_least = least;
      again = inr twice;
      one = λ room. absurd (false≢true (sym (ap is_some (c.rounds.invariant.one room).1) ∙ over));
    }

pub returns-then-not-begin_pass-clause-ends : goal.returns-then-not-begin_pass-clause-ends
returns-then-not-begin_pass-clause-ends c = λ t list h.
    let same : state_of c.begin_pass.new.self ≡ state_of c.rounds.self = search rules in
    subst (Ends t list c.rounds.rounds (state_of c.args.self.now)) (sym same) (c.rounds.invariant.ends t list h)
