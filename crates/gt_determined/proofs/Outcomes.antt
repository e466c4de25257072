-- What either ends in one way, or stops for one reason.
use Rattle.std.proofs.Common.{◌≡◌, sym, ◌∙◌, ◌⊎◌, inl, inr}
use Rattle.gt_next.specs.declared.answer.Why.{Why}

-- something goes to one thing, which is a good one, and does not stop; or it stops for one reason and goes nowhere
pub data Ends {X : Type 0} (Goes : X → Type 0) (Stops : Why → Type 0) (Good : X → Type 0) : Type 0 where
  ends : (x : X) → Goes x → Good x → ((y : X) → Goes y → y ≡ x) → ((why : Why) → ¬ Stops why) → Ends Goes Stops Good
  stops : (why : Why) → Stops why → ((other : Why) → Stops other → other ≡ why) → ((x : X) → ¬ Goes x) → Ends Goes Stops Good

module _ {X : Type 0} {Goes : X → Type 0} {Stops : Why → Type 0} {Good : X → Type 0} where
  pub either : Ends Goes Stops Good → ((x : X) × Goes x × Good x) ⊎ ((why : Why) × Stops why)
  either (Ends.ends x goes good one never) = inl (x, goes, good)
  either (Ends.stops why stop one never) = inr (why, stop)

  pub one-end : Ends Goes Stops Good → (x y : X) → Goes x → Goes y → x ≡ y
  one-end (Ends.ends z goes good one never) x y a b = one x a ∙ sym (one y b)
  one-end (Ends.stops why stop one never) x y a b = absurd (never x a)

  pub one-stop : Ends Goes Stops Good → (why other : Why) → Stops why → Stops other → why ≡ other
  one-stop (Ends.ends x goes good one never) why other a b = absurd (never why a)
  one-stop (Ends.stops w stop one never) why other a b = one why a ∙ sym (one other b)

  pub never-both : Ends Goes Stops Good → (x : X) (why : Why) → Goes x → ¬ Stops why
  never-both (Ends.ends y goes good one never) x why a b = never why b
  never-both (Ends.stops w stop one never) x why a b = never x a
