use Rattle.std.proofs.Common.{◌≡◌, ◌∙◌, true, Some, refl, sym, ap}
use Rattle.std.proofs.lemmas.Option.{none-some, same_Some}
use Rattle.gt_rules.specs.Parts.{FaultIf}
use Rattle.gt_rules.proofs.FirstLemmas.{first_if, first_of_none, first_of_same}
use Rattle.gt_options.proofs.settling.earlier.Goals as goal

pub returns-in-None : goal.returns-in-None
returns-in-None c = record { first = first_of_none c.args.first (λ f. c.args.second ≡ Some f) (λ f is. none-some f (sym c.in-None.is ∙ is)) }

pub returns-in-Some : goal.returns-in-Some
returns-in-Some c =
    let fault = c.in-Some.fault in
    record {
      first =
          first_of_same c.args.first c.with_fault.result (FaultIf (Unit {0}) fault.number fault.file fault.at) (λ f. c.args.second ≡ Some f)
          (λ f p. c.in-Some.is ∙ ap Some (sym p.1)) (λ f is. (tt, same_Some f fault (sym is ∙ c.in-Some.is)))
          (first_if c.args.first c.with_fault.result true (Unit {0}) fault.number fault.file fault.at c.with_fault.ensures.same (λ _. tt, λ _. refl));
    }
