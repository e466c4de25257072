use Rattle.std.proofs.Common.{ap, refl, sym, arith}
use Rattle.std.proofs.lemmas.Bool.{false≢true}
use Rattle.gt_mark.specs.Steps.{fresh, known, state_of}
use Rattle.gt_mark.proofs.marker.Marker.follow.Goals as goal

pub returns-then-not-mark-clause-follows : goal.returns-then-not-mark-clause-follows
returns-then-not-mark-clause-follows c =
    known c.in_ok-target.target (sym c.in_ok-target.ensures) (omega (arith, c.if-target-eq0.false)) (λ none. false≢true (c.if-not-mark.ensures.fresh.1 none)) refl
    (ap (λ p. record (state_of c.args.self.now) { pages = p }) (c.if-not-mark.ensures.unchanged refl))

pub returns-clause-follows : goal.returns-clause-follows
returns-clause-follows c =
    fresh c.in_ok-target.target (sym c.in_ok-target.ensures) (omega (arith, c.if-target-eq0.false)) (c.if-not-mark.ensures.fresh.0 refl) refl
    (ap (λ p. record (state_of c.args.self.now) { pages = p }) (c.if-not-mark.ensures.marked refl))
