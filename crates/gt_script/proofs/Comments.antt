-- Comments, from left to right.
use Rattle.std.proofs.Common.{◌≡◌, ◌≢◌, ℕ, true, false, eqb, List, [], ◌∷◌, refl, sym, ap, ◌∙◌, arith}
use Rattle.std.proofs.lemmas.Bool.Decides.{nat_tests}
use Rattle.gt_script.specs.Language.{is_comment_of}

pub comment_none : (rest text : List ℕ) → rest ≡ [] → is_comment_of rest ≡ is_comment_of text → false ≡ is_comment_of text
unfolding is_comment_of
comment_none rest text e h =
    let none : is_comment_of rest ≡ false = ap is_comment_of e in
    sym none ∙ h

pub comment_space : (rest after text : List ℕ) (c : ℕ) → rest ≡ c ∷ after → c ≡ 32 → is_comment_of rest ≡ is_comment_of text → is_comment_of after ≡ is_comment_of text
unfolding is_comment_of
comment_space rest after text c e is h =
    let here : eqb c 32 ≡ true = grind (arith, nat_tests) in
    let next : is_comment_of rest ≡ is_comment_of after = ap is_comment_of e ∙ rw here refl in
    sym next ∙ h

pub comment_byte : (rest after text : List ℕ) (c : ℕ) → rest ≡ c ∷ after → c ≢ 32 → is_comment_of rest ≡ is_comment_of text → eqb c 35 ≡ is_comment_of text
unfolding is_comment_of
comment_byte rest after text c e other h =
    let here : eqb c 32 ≡ false = grind (arith, nat_tests) in
    let last : is_comment_of rest ≡ eqb c 35 = ap is_comment_of e ∙ rw here refl in
    sym last ∙ h
