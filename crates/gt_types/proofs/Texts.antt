-- Texts as bytes and as characters.
use Rattle.std.proofs.Common.{◌≡◌, ℕ, Bool, true, false, List, [], ◌∷◌, length, arith, sym, ap, ◌∙◌, refl}
use Rattle.std.specs.Str.{IsUtf8, chars, bytes_eq}
use Rattle.std.specs.Prelude.{encode_utf8_all, ◌==◌}
use Rattle.std.proofs.lemmas.Str.{encodes-chars, chars-nil}
use Rattle.std.proofs.lemmas.Slice.Eq.{bytes_eq-Decides}

-- two tests that mean the same have the same answer
same_answer : (a b : Bool) → (a ≡ true → b ≡ true) → (b ≡ true → a ≡ true) → a ≡ b
same_answer true b f g = sym (f refl)
same_answer false true f g = g refl
same_answer false false f g = refl

-- texts are equal where their characters are
pub bytes_eq-chars : (a b : List ℕ) → IsUtf8 a → IsUtf8 b → bytes_eq a b ≡ bytes_eq (chars a) (chars b)
bytes_eq-chars a b u v =
    same_answer _ _
    (λ y. (bytes_eq-Decides (chars a) (chars b)).1 (ap chars ((bytes_eq-Decides a b).0 y)))
    (λ y. (bytes_eq-Decides a b).1 (sym (encodes-chars a u) ∙ ap encode_utf8_all ((bytes_eq-Decides (chars a) (chars b)).0 y) ∙ encodes-chars b v))

-- a text with a first byte has a character
some_char : (x : ℕ) (a cs : List ℕ) → IsUtf8 (x ∷ a) → chars (x ∷ a) ≡ cs → (length (x ∷ a) == 0) ≡ (length cs == 0)
some_char x a [] u e =
    let h : [] ≡ x ∷ a = sym (ap encode_utf8_all e) ∙ encodes-chars (x ∷ a) u in cc
some_char x a (c ∷ cs) u e = grind arith

-- a text is empty where it has no character
pub empty-chars : (a : List ℕ) → IsUtf8 a → (length a == 0) ≡ (length (chars a) == 0)
empty-chars [] u = sym (ap (λ cs. length cs == 0) chars-nil)
empty-chars (x ∷ a) u = some_char x a (chars (x ∷ a)) u refl
