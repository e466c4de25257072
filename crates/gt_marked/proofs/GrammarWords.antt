-- What the words of the grammar say of reading.
use Rattle.std.proofs.Common.{◌≡◌, ℕ, ◌≤◌, false, List, [], ◌∷◌, ◌++◌, length, refl, append_assoc}
use Rattle.gt_search.specs.declared.lexeme.Bracket.TheVariants.{Round}
use Rattle.gt_search.specs.declared.lexeme.Lexeme.{Lexeme}
use Rattle.gt_search.specs.declared.lexeme.Lexeme.TheVariants as lexeme
use Rattle.gt_marked.specs.MarkerGrammar.{Failure, Fault, Early, failed, begins, is_comma, opens_round, closes_round}
use Rattle.gt_marked.specs.Markers.{gty_at, open_round_at, close_round_at, after_comma}
use Rattle.gt_marked.specs.Outcome.{Outcome, Read, Stops, Ends, ◌>>=◌, unexpected}
use Rattle.gt_search.specs.Search.{is_gty}

-- the tokens have an outcome by these rules
pub record Has {A : Type 0} (rules : List Lexeme → A → Type 0) (ts : List Lexeme) : Type 0 where
  pub outcome : A
  pub holds : rules ts outcome

-- the outcome of reading is allowed, where each outcome that is allowed is that of reading, and there is one
pub allowed : {A : Type 0} (rules : List Lexeme → A → Type 0) (reader : List Lexeme → A) → ((ts : List Lexeme) (o : A) → rules ts o → o ≡ reader ts)
    → ((ts : List Lexeme) → Has rules ts) → (ts : List Lexeme) → rules ts (reader ts)
allowed rules reader one has ts = rw (← one ts (has ts).outcome (has ts).holds) (has ts).holds

-- something was read, or it was not
pub data Comes {A : Type 0} : Outcome A → Type 0 where
  read : (x : A) (ts : List Lexeme) → Comes (Read x ts)
  unread : (why : Failure) → Comes (failed why)

pub comes : {A : Type 0} (o : Outcome A) → Comes o
comes (Read x ts) = read x ts
comes (Stops number at) = unread (Fault number at)
comes Ends = unread Early

-- a step after what was not read
pub failed_step : {A B : Type 0} (why : Failure) (f : A × List Lexeme → Outcome B) → (failed why >>= f) ≡ failed why
failed_step (Fault number at) f = refl
failed_step Early f = refl

pub unexpected_step : {A B : Type 0} (ts : List Lexeme) (f : A × List Lexeme → Outcome B) → (unexpected ts >>= f) ≡ unexpected ts
unexpected_step [] f = refl
unexpected_step (t ∷ ts) f = refl

-- at most so many tokens stand after what was read
abbrev pub Leaves : {A : Type 0} → ℕ → Outcome A → Type 0
Leaves n (Read x ts) = length ts ≤ n
Leaves n (Stops number at) = Unit {0}
Leaves n Ends = Unit {0}

pub failed_leaves : (A : Type 0) (why : Failure) (n : ℕ) → Leaves {A = A} n (failed why)
failed_leaves A (Fault number at) n = tt
failed_leaves A Early n = tt

pub unexpected_leaves : (A : Type 0) (ts : List Lexeme) (n : ℕ) → Leaves {A = A} n (unexpected ts)
unexpected_leaves A [] n = tt
unexpected_leaves A (t ∷ ts) n = tt

-- what was read of a list, after what was read before
abbrev pub prefixed : {A : Type 0} → List A → Outcome (List A) → Outcome (List A)
prefixed before o = o >>= λ rest. Read (before ++ rest.0) rest.1

pub prefixed_nothing : {A : Type 0} (o : Outcome (List A)) → prefixed [] o ≡ o
prefixed_nothing (Read x ts) = refl
prefixed_nothing (Stops number at) = refl
prefixed_nothing Ends = refl

pub prefixed_twice : {A : Type 0} (before : List A) (x : A) (o : Outcome (List A)) → prefixed (before ++ x ∷ []) o ≡ prefixed before (prefixed (x ∷ []) o)
prefixed_twice before x (Read xs ts) = rw (append_assoc before (x ∷ []) xs) refl
prefixed_twice before x (Stops number at) = refl
prefixed_twice before x Ends = refl

-- ---- tokens that have to stand

pub no_gty : (ts : List Lexeme) → begins is_gty ts ≡ false → gty_at ts ≡ unexpected ts
no_gty [] h = refl
no_gty (lexeme.Gty s ∷ ts) h = absurd cc
no_gty (t ∷ ts) h = refl

pub no_open_round : (ts : List Lexeme) → begins opens_round ts ≡ false → open_round_at ts ≡ unexpected ts
no_open_round [] h = refl
no_open_round (lexeme.Open Round s ∷ ts) h = absurd cc
no_open_round (t ∷ ts) h = refl

pub no_close_round : (ts : List Lexeme) → begins closes_round ts ≡ false → close_round_at ts ≡ unexpected ts
no_close_round [] h = refl
no_close_round (lexeme.Close Round s ∷ ts) h = absurd cc
no_close_round (t ∷ ts) h = refl

pub no_comma : {A : Type 0} (go : List Lexeme → Outcome A) (stop : Outcome A) (ts : List Lexeme) → begins is_comma ts ≡ false → after_comma go stop ts ≡ stop
no_comma go stop [] h = refl
no_comma go stop (lexeme.Comma s ∷ ts) h = absurd cc
no_comma go stop (t ∷ ts) h = refl
