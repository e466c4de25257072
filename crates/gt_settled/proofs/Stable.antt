-- What follows from its double negation.
use Rattle.std.proofs.Common.{◌≡◌, Bool, true, false, List, [], ◌∷◌, Option, Some, None, IsTrue, refl, sym, subst}
use Rattle.std.specs.Prelude.{All, IsSome}
use Rattle.std.proofs.lemmas.Option.{none-some, same_Some}

-- a statement is stable if it follows from its double negation
abbrev pub Stable : Type 0 → Type 0
Stable P = ¬ (¬ P) → P

pub same_bool : (a b : Bool) → Stable (a ≡ b)
same_bool true true nn = refl
same_bool false false nn = refl
same_bool true false nn = absurd (nn (λ e. cc))
same_bool false true nn = absurd (nn (λ e. cc))

pub is_true : (b : Bool) → Stable (IsTrue b)
is_true b nn = same_bool b true nn

-- what is never contradicted follows, where it is a negation
pub not_stable : (P : Type 0) → Stable (¬ P)
not_stable P nn p = nn (λ no. no p)

-- of what is there, what is stable
pub there : {X : Type 0} (o : Option X) (P : X → Type 0) → ((x : X) → o ≡ Some x → Stable (P x)) → Stable ((x : X) × (o ≡ Some x) × P x)
there None P stable nn = absurd (nn (λ (x, e, p). none-some x e))
there (Some y) P stable nn = (y, refl, stable y refl (λ no. nn (λ (x, e, p). no (subst P (sym (same_Some y x e)) p))))

pub some_stable : {X : Type 0} (o : Option X) → Stable (IsSome o)
some_stable None nn = absurd (nn (λ e. cc))
some_stable (Some x) nn = refl

pub both : (P Q : Type 0) → Stable P → Stable Q → Stable (P × Q)
both P Q p q nn = (p (λ no. nn (λ pq. no pq.0)), q (λ no. nn (λ pq. no pq.1)))

pub all : {X : Type 0} (P : X → Type 0) (xs : List X) → ((x : X) → Stable (P x)) → Stable (All P xs)
all P xs stable nn k d within = stable _ (λ no. nn (λ each. no (each k d within)))

pub no_items : {X : Type 0} (xs : List X) → Stable (xs ≡ [])
no_items [] nn = refl
no_items (x ∷ xs) nn = absurd (nn (λ e. cc))

pub none_stable : {X : Type 0} (o : Option X) → Stable (o ≡ None)
none_stable None nn = refl
none_stable (Some x) nn = absurd (nn (λ e. cc))
