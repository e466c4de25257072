-- Runs of characters that pass a test, and identifiers.
use Rattle.std.proofs.Common.{◌≡◌, ℕ, ◌≤◌, Bool, true, false, cond, List, [], ◌∷◌, ◌++◌, length, refl, sym, ap, ◌∙◌, arith}
use Rattle.std.specs.List.{list_all}
use Rattle.std.proofs.lemmas.Bool.{false≢true}
use Rattle.gt_text.specs.Identifier.{starts_identifier_of, continues_identifier_of}
use Rattle.gt_lex.proofs.Bools.{and_cases}
use Rattle.gt_lex.specs.Characters.{first_passes}
use Rattle.gt_lex.specs.Extents.{IsLongest, IsIdentifier}
use Rattle.gt_lex.specs.Reading.{rest_while}

-- the characters at the front that pass a test, and what follows them
pub record Run (test : ℕ → Bool) (cs rest : List ℕ) : Type 0 where
  pub front : List ℕ
  pub parts : cs ≡ front ++ rest
  pub passes : list_all test front ≡ true
  pub stops : first_passes test rest ≡ false

run_step : (test : ℕ → Bool) (c : ℕ) (cs : List ℕ) (b : Bool) → test c ≡ b → Run test cs (rest_while test cs) → Run test (c ∷ cs) (cond b (rest_while test cs) (c ∷ cs))
run_step test c cs true e run = record {
  front = c ∷ run.front;
  parts = ap (λ (x : List ℕ). c ∷ x) run.parts;
  passes = rw e run.passes;
  stops = run.stops;
}
run_step test c cs false e run = record { front = []; parts = refl; passes = refl; stops = e }

pub run_of : (test : ℕ → Bool) (cs : List ℕ) → Run test cs (rest_while test cs)
run_of test [] = record { front = []; parts = refl; passes = refl; stops = refl }
run_of test (c ∷ cs) = run_step test c cs (test c) refl (run_of test cs)

-- characters that pass are among the run
pub within_run : (test : ℕ → Bool) (xs more front rest : List ℕ) → list_all test xs ≡ true → first_passes test rest ≡ false → xs ++ more ≡ front ++ rest → length xs ≤ length front
within_run test [] more front rest passes stops e = omega arith
within_run test (x ∷ xs) more [] rest passes stops e =
    let one : test x ≡ true = (and_cases (test x) (list_all test xs) passes).0 in
    let same : test x ≡ false = ap (first_passes test) e ∙ stops in
    absurd (false≢true (sym same ∙ one))
within_run test (x ∷ xs) more (f ∷ front) rest passes stops e =
    let tails : xs ++ more ≡ front ++ rest = cc in
    omega (arith, within_run test xs more front rest ((and_cases (test x) (list_all test xs) passes).1) stops tails)

longest_identifier : (c : ℕ) (front rest other more : List ℕ) → first_passes continues_identifier_of rest ≡ false → IsIdentifier other → other ++ more ≡ c ∷ (front ++ rest) → length other ≤ length (c ∷ front)
longest_identifier c front rest [] more stops is e = absurd is
longest_identifier c front rest (d ∷ ds) more stops is e =
    let tails : ds ++ more ≡ front ++ rest = cc in
    omega (arith, within_run continues_identifier_of ds more front rest is.1 stops tails)

-- an identifier is as long as the characters that continue it
pub identifier_longest : (c : ℕ) (front rest : List ℕ) → starts_identifier_of c ≡ true → list_all continues_identifier_of front ≡ true → first_passes continues_identifier_of rest ≡ false → IsLongest IsIdentifier (c ∷ front) rest
identifier_longest c front rest starts passes stops = record {
  fits = (starts, passes);
  longest = λ other more is e. longest_identifier c front rest other more stops is e;
}

same_fronts : (xs r ys s : List ℕ) → length xs ≡ length ys → xs ++ r ≡ ys ++ s → xs ≡ ys
same_fronts [] r [] s l e = refl
same_fronts [] r (y ∷ ys) s l e = absurd (omega arith)
same_fronts (x ∷ xs) r [] s l e = absurd (omega arith)
same_fronts (x ∷ xs) r (y ∷ ys) s l e =
    let tails : xs ++ r ≡ ys ++ s = cc in
    let rest : xs ≡ ys = same_fronts xs r ys s (omega arith) tails in cc

-- the longest text with a property is one
pub same_longest : (Has : List ℕ → Type 0) (xs r ys s : List ℕ) → IsLongest Has xs r → IsLongest Has ys s → xs ++ r ≡ ys ++ s → xs ≡ ys
same_longest Has xs r ys s a b e =
    let one : length xs ≤ length ys = b.longest xs r a.fits e in
    let two : length ys ≤ length xs = a.longest ys s b.fits (sym e) in
    let same : length xs ≡ length ys = omega arith in
    same_fronts xs r ys s same e
