use Rattle.std.proofs.Common.{◌≡◌, ◌≤◌, ◌<◌, None, Some, sym, subst, rules}
use Rattle.gt_pages.specs.Slots.{is_pending, next_slot, told_of}
use Rattle.gt_mark.specs.Steps.{Holds, Lessens, ahead, state_of}
use Rattle.gt_mark.proofs.Steps.{ahead_found, holds_done, holds_found, holds_past, lessens_found, lessens_pass, starts_found}
use Rattle.gt_mark.proofs.marker.Marker.next_in_pass.Goals as goal

pub returns-then-pass-clause-goes : goal.returns-then-pass-clause-goes
returns-then-pass-clause-goes c = λ tables space t begun h.
    let at : c.args.self.now.pass ≡ Some c.in_ok-pass.pass = search rules in
    let past : c.in_ok-pass.pass.last ≤ c.in_ok-pass.pass.at = search rules in
    subst (λ p. Holds t begun None (record (state_of c.args.self.now) { pass = p })) (sym c.take.ensures.after) (holds_past t begun (state_of c.args.self.now) c.in_ok-pass.pass at h past)

pub returns-then-pass-clause-lessens : goal.returns-then-pass-clause-lessens
returns-then-pass-clause-lessens c = lessens_pass (state_of c.args.self.now) c.take.new.self

pub returns-in_err-addr-clause-goes : goal.returns-in_err-addr-clause-goes
returns-in_err-addr-clause-goes c = λ tables space t begun h.
    let at : c.args.self.now.pass ≡ Some c.in_ok-pass.pass = search rules in
    let result : c.from_residual-in_err-addr.result ≡ None = search rules in
    let none : None ≡ told_of (next_slot is_pending c.args.self.now.pages.now.slots c.in_ok-pass.pass.at) = search rules in
    subst (λ r. Holds t begun r (record (state_of c.args.self.now) { pass = c.take.new.self })) (sym result)
    (subst (λ p. Holds t begun None (record (state_of c.args.self.now) { pass = p })) (sym c.take.ensures.after) (holds_done t begun (state_of c.args.self.now) c.in_ok-pass.pass at h none))

pub returns-in_err-addr-clause-lessens : goal.returns-in_err-addr-clause-lessens
returns-in_err-addr-clause-lessens c = lessens_pass (state_of c.args.self.now) c.take.new.self

pub set_walked-requires : goal.set_walked-requires
set_walked-requires c =
    let r = c.requires.ready in
    let at : c.args.self.now.pass ≡ Some c.in_ok-pass.pass = search rules in
    let some : Some (c.in_ok-addr.addr, c.in_ok-addr.walk, c.in_ok-addr.count) ≡ told_of (next_slot is_pending c.args.self.now.pages.now.slots c.in_ok-pass.pass.at) = search rules in
    record { start = starts_found r.2 r.3 (state_of c.args.self.now) c.in_ok-pass.pass at r.4 c.in_ok-addr.addr c.in_ok-addr.walk c.in_ok-addr.count some }

pub returns-clause-goes : goal.returns-clause-goes
returns-clause-goes c = λ tables space t begun h.
    let at : c.args.self.now.pass ≡ Some c.in_ok-pass.pass = search rules in
    let some : Some (c.in_ok-addr.addr, c.in_ok-addr.walk, c.in_ok-addr.count) ≡ told_of (next_slot is_pending c.args.self.now.pages.now.slots c.in_ok-pass.pass.at) = search rules in
    subst (λ p. Holds t begun (Some (record { addr = c.in_ok-addr.addr; walk = c.in_ok-addr.walk; count = c.in_ok-addr.count }))
    (record (state_of c.args.self.now) { pages = p; pass = Some (record { at = c.in_ok-addr.addr; last = c.in_ok-pass.pass.last }) })) (sym c.set_walked.ensures.walked)
    (holds_found t begun (state_of c.args.self.now) c.in_ok-pass.pass at h c.in_ok-addr.addr c.in_ok-addr.walk c.in_ok-addr.count some)

pub returns-clause-lessens : goal.returns-clause-lessens
returns-clause-lessens c =
    let r = c.requires.ready in
    let at : c.args.self.now.pass ≡ Some c.in_ok-pass.pass = search rules in
    let some : Some (c.in_ok-addr.addr, c.in_ok-addr.walk, c.in_ok-addr.count) ≡ told_of (next_slot is_pending c.args.self.now.pages.now.slots c.in_ok-pass.pass.at) = search rules in
    subst (λ p. Lessens (state_of c.args.self.now) (record (state_of c.args.self.now) { pages = p; pass = Some (record { at = c.in_ok-addr.addr; last = c.in_ok-pass.pass.last }) }) 0) (sym c.set_walked.ensures.walked)
    (lessens_found r.2 r.3 (state_of c.args.self.now) c.in_ok-pass.pass at r.4 c.in_ok-addr.addr c.in_ok-addr.walk c.in_ok-addr.count some)

pub returns-clause-less : goal.returns-clause-less
returns-clause-less c = λ _.
    let r = c.requires.ready in
    let at : c.args.self.now.pass ≡ Some c.in_ok-pass.pass = search rules in
    let some : Some (c.in_ok-addr.addr, c.in_ok-addr.walk, c.in_ok-addr.count) ≡ told_of (next_slot is_pending c.args.self.now.pages.now.slots c.in_ok-pass.pass.at) = search rules in
    subst (λ p. ahead (record (state_of c.args.self.now) { pages = p; pass = Some (record { at = c.in_ok-addr.addr; last = c.in_ok-pass.pass.last }) }) < ahead (state_of c.args.self.now)) (sym c.set_walked.ensures.walked)
    (ahead_found r.2 r.3 (state_of c.args.self.now) c.in_ok-pass.pass at r.4 c.in_ok-addr.addr c.in_ok-addr.walk c.in_ok-addr.count some)
