-- Quoted words, from left to right.
use Rattle.std.proofs.Common.{◌≡◌, ◌≢◌, ℕ, Bool, true, false, eqb, List, [], ◌∷◌, ◌++◌, Option, Some, None, refl, sym, ap, subst, ◌∙◌, append_assoc, arith}
use Rattle.std.proofs.lemmas.Bool.Decides.{nat_tests}
use Rattle.std.proofs.lemmas.List.{append-nil}
use Rattle.gt_split.specs.Texts.{◌>>=◌, escape_of}
use Rattle.gt_split.specs.Cutting.{quoted_at}

-- what was read before, and what is still read
abbrev pub with_bytes : List ℕ → Option (List ℕ × List ℕ) → Option (List ℕ × List ℕ)
with_bytes front read = read >>= λ r. Some (front ++ r.0, r.1)

pub none_before : (read : Option (List ℕ × List ℕ)) → with_bytes [] read ≡ read
none_before None = refl
none_before (Some r) = refl

pub regroup : (front : List ℕ) (c : ℕ) (read : Option (List ℕ × List ℕ)) → with_bytes front (read >>= λ r. Some (c ∷ r.0, r.1)) ≡ with_bytes (front ++ c ∷ []) read
regroup front c None = refl
regroup front c (Some r) = ap (λ (bytes : List ℕ). Some (bytes, r.1)) (sym (append_assoc front (c ∷ []) r.0))

-- the same where the rest is known
pub known : (front rest other : List ℕ) (escaped now : Bool) (read : Option (List ℕ × List ℕ)) → escaped ≡ now → rest ≡ other → with_bytes front (quoted_at escaped rest) ≡ read
    → with_bytes front (quoted_at now other) ≡ read
known front rest other escaped now read same e h = subst (λ (r : List ℕ). with_bytes front (quoted_at now r) ≡ read) e (subst (λ (b : Bool). with_bytes front (quoted_at b rest) ≡ read) same h)

pub at_end : (front : List ℕ) (escaped : Bool) (read : Option (List ℕ × List ℕ)) → with_bytes front (quoted_at escaped []) ≡ read → None ≡ read
unfolding quoted_at
at_end front true read e = e
at_end front false read e = e

pub meaningless : (front : List ℕ) (c : ℕ) (cs : List ℕ) (read : Option (List ℕ × List ℕ)) → escape_of c ≡ None → with_bytes front (quoted_at true (c ∷ cs)) ≡ read → None ≡ read
unfolding quoted_at
meaningless front c cs read none_meant e =
    let none : with_bytes front (quoted_at true (c ∷ cs)) ≡ None = rw none_meant refl in
    sym none ∙ e

pub meant : (front : List ℕ) (c d : ℕ) (cs : List ℕ) (read : Option (List ℕ × List ℕ)) → escape_of c ≡ Some d → with_bytes front (quoted_at true (c ∷ cs)) ≡ read
    → with_bytes (front ++ d ∷ []) (quoted_at false cs) ≡ read
unfolding quoted_at
meant front c d cs read is e =
    let one : with_bytes front (quoted_at true (c ∷ cs)) ≡ with_bytes (front ++ d ∷ []) (quoted_at false cs) = rw is (regroup front d (quoted_at false cs)) in
    sym one ∙ e

pub closed : (front : List ℕ) (c : ℕ) (cs : List ℕ) (read : Option (List ℕ × List ℕ)) → c ≡ 34 → with_bytes front (quoted_at false (c ∷ cs)) ≡ read → Some (front, cs) ≡ read
unfolding quoted_at
closed front c cs read is e =
    let all : with_bytes front (quoted_at false (c ∷ cs)) ≡ Some (front, cs) = rw is (ap (λ (bytes : List ℕ). Some (bytes, cs)) (append-nil front)) in
    sym all ∙ e

pub begun : (front : List ℕ) (c : ℕ) (cs : List ℕ) (read : Option (List ℕ × List ℕ)) → c ≡ 92 → with_bytes front (quoted_at false (c ∷ cs)) ≡ read → with_bytes front (quoted_at true cs) ≡ read
unfolding quoted_at
begun front c cs read is e =
    let one : with_bytes front (quoted_at false (c ∷ cs)) ≡ with_bytes front (quoted_at true cs) = rw is refl in
    sym one ∙ e

pub itself : (front : List ℕ) (c : ℕ) (cs : List ℕ) (read : Option (List ℕ × List ℕ)) → c ≢ 34 → c ≢ 92 → with_bytes front (quoted_at false (c ∷ cs)) ≡ read
    → with_bytes (front ++ c ∷ []) (quoted_at false cs) ≡ read
unfolding quoted_at
itself front c cs read no_quote no_slash e =
    let quote : eqb c 34 ≡ false = grind (arith, nat_tests) in
    let slash : eqb c 92 ≡ false = grind (arith, nat_tests) in
    let one : with_bytes front (quoted_at false (c ∷ cs)) ≡ with_bytes (front ++ c ∷ []) (quoted_at false cs) = rw (quote, slash) (regroup front c (quoted_at false cs)) in
    sym one ∙ e
