-- Where ⊥ is to be shown, each proposition holds or does not hold.
use Rattle.std.proofs.Common.{◌≡◌, ℕ, Bool, true, false, cond, List, [], ◌∷◌, ◌==◌, refl, ap, sym, subst, inl, inr}
use Rattle.std.specs.Prelude.{◌↔◌, IsTrue, Contains}
use Rattle.std.proofs.lemmas.Bool.{eqb-true, eqb-false}
use Rattle.gt_graph.specs.Objects.{Object}
use Rattle.gt_objects.proofs.Items.{none_there, there_cases}
use Rattle.gt_next.specs.declared.answer.Answer.{Answer}
use Rattle.gt_next.specs.States.{State}

-- no answer comes
abbrev pub Never : (Answer → State → Type 0) → Type 0
Never Steps = (a : Answer) (t : State) → ¬ Steps a t

-- what follows from a fact and from its negation
pub split : {P C : Type 0} → (P → ¬ C) → ((¬ P) → ¬ C) → ¬ C
split holds fails c = fails (λ p. holds p c) c

-- a test of names that is true where something holds of the objects of these names
abbrev pub Tests : (ℕ → Type 0) → List Object → (ℕ → Bool) → Type 0
Tests Holds objects test = (o : Object) → Contains objects o → IsTrue (test o.id) ↔ Holds o.id

-- the test, with another result for one name
abbrev changed : (ℕ → Bool) → ℕ → Bool → ℕ → Bool
changed test name result id = cond (name == id) result (test id)

module _ (Holds : ℕ → Type 0) where
  more : (o : Object) (objects : List Object) (test : ℕ → Bool) (result : Bool) → Tests Holds objects test → (IsTrue result ↔ Holds o.id) → Tests Holds (o ∷ objects) (changed test o.id result)
  more o objects test result tests here p there = by (o.id == p.id) refl
    where
      by : (same : Bool) → (o.id == p.id) ≡ same → IsTrue (cond (o.id == p.id) result (test p.id)) ↔ Holds p.id
      by true e =
          let is = eqb-true o.id p.id e in
          subst (λ b. IsTrue (cond b result (test p.id)) ↔ Holds p.id) (sym e) (subst (λ n. IsTrue result ↔ Holds n) is here)
      by false e = subst (λ b. IsTrue (cond b result (test p.id)) ↔ Holds p.id) (sym e) (elim (there_cases o objects p there) as (λ _. IsTrue (test p.id) ↔ Holds p.id) [
        | inl same ↦ absurd (eqb-false o.id p.id e (ap (λ x. x.id) same))
        | inr later ↦ tests p later
      ])

  -- there is such a test
  pub some_test : {C : Type 0} (objects : List Object) → ((test : ℕ → Bool) → Tests Holds objects test → ¬ C) → ¬ C
  some_test [] on = on (λ id. false) (λ o there. none_there o there)
  some_test (o ∷ objects) on = some_test objects (λ test tests. split {P = Holds o.id}
      (λ holds. on (changed test o.id true) (more o objects test true tests (λ _. holds, λ _. refl)))
      (λ not. on (changed test o.id false) (more o objects test false tests (λ never. absurd (cc), λ holds. absurd (not holds)))))
