-- The bytes of texts stand in the order of their characters.
use Rattle.std.proofs.Common.{◌≡◌, ◌+◌, ◌/◌, ◌%◌, ◌<◌, ◌≤◌, ◌⊎◌, ℕ, List, [], ◌∷◌, ◌++◌, Ordering, Less, Equal, Greater, nat_cmp, IsUtf8, true, false, chars, encode_utf8_all, arith, inl, inr, ⊎_elim, refl, sym, ap, ap₂, ◌∙◌}
use Rattle.std.proofs.lemmas.Bool.{cases_lt, cond-true, cond-false}
use Rattle.std.proofs.lemmas.Bool.Decides.{nat_tests}
use Rattle.std.proofs.lemmas.Str.{encodes-chars}
use Rattle.std.specs.Char.{encode_utf8}
use Rattle.std.specs.Cmp.Lexicographic.{slice_cmp}
use Rattle.std.specs.Ordering.{ordering_then}
use lib.Dec.{ltb}

-- a term of the type given
abbrev by : (A : Type 0) → A → A
by A a = a

abbrev cmp : List ℕ → List ℕ → Ordering
cmp = slice_cmp nat_cmp

-- one byte after the first of a character: its last six bits that are left
abbrev low : ℕ → ℕ
low c = 128 + c % 64

less : (x y : ℕ) → x < y → nat_cmp x y ≡ Less
less x y l = cond-true _ _ _ (by (ltb x y ≡ true) (grind (arith, nat_tests)))

same : (x y : ℕ) → x ≡ y → nat_cmp x y ≡ Equal
same x y e = grind (arith, nat_tests)

more : (x y : ℕ) → y < x → nat_cmp x y ≡ Greater
more x y l = grind (arith, nat_tests)

-- one number is below another, is it, or is above it
three_ways : (x y : ℕ) → (x < y) ⊎ ((x ≡ y) ⊎ (y < x))
three_ways x y = ⊎_elim inl (λ h. ⊎_elim (λ l. inr (inr l)) (λ l. inr (inl (omega arith))) (cases_lt y x)) (cases_lt x y)

shifted : (k x y : ℕ) → nat_cmp (k + x) (k + y) ≡ nat_cmp x y
shifted k x y =
    ⊎_elim
    (λ l. less (k + x) (k + y) (omega arith) ∙ sym (less x y l))
    (⊎_elim (λ e. same (k + x) (k + y) (ap (λ n. k + n) e) ∙ sym (same x y e)) (λ l. more (k + x) (k + y) (omega arith) ∙ sym (more x y l)))
    (three_ways x y)

first_less : (x y : ℕ) (o p : Ordering) → x < y → ordering_then (nat_cmp x y) o ≡ ordering_then Less p
first_less x y o p l = ap (λ r. ordering_then r o) (less x y l)

first_more : (x y : ℕ) (o p : Ordering) → y < x → ordering_then (nat_cmp x y) o ≡ ordering_then Greater p
first_more x y o p l = ap (λ r. ordering_then r o) (more x y l)

-- the order of all bits but the last six, and then that of these
module _ (a b : ℕ) (us vs : List ℕ) where
  by_low : a / 64 ≡ b / 64 → nat_cmp (low a) (low b) ≡ nat_cmp a b
  by_low e =
      ⊎_elim
      (λ l. less (low a) (low b) (omega arith) ∙ sym (less a b l))
      (⊎_elim (λ l. same (low a) (low b) (ap low l) ∙ sym (same a b l)) (λ l. more (low a) (low b) (omega arith) ∙ sym (more a b l)))
      (three_ways a b)

  six : ordering_then (nat_cmp (a / 64) (b / 64)) (cmp (low a ∷ us) (low b ∷ vs)) ≡ ordering_then (nat_cmp a b) (cmp us vs)
  six =
      ⊎_elim
      (λ l. first_less (a / 64) (b / 64) _ (cmp us vs) l ∙ sym (first_less a b _ (cmp us vs) (omega arith)))
      (⊎_elim
      (λ e. ap (λ r. ordering_then r (cmp (low a ∷ us) (low b ∷ vs))) (same (a / 64) (b / 64) e) ∙ ap (λ r. ordering_then r (cmp us vs)) (by_low e))
      (λ l. first_more (a / 64) (b / 64) _ (cmp us vs) l ∙ sym (first_more a b _ (cmp us vs) (omega arith))))
      (three_ways (a / 64) (b / 64))

twos : (a b : ℕ) (us vs : List ℕ) → cmp ((192 + a / 64) ∷ low a ∷ us) ((192 + b / 64) ∷ low b ∷ vs) ≡ ordering_then (nat_cmp a b) (cmp us vs)
twos a b us vs = ap (λ r. ordering_then r (cmp (low a ∷ us) (low b ∷ vs))) (shifted 192 (a / 64) (b / 64)) ∙ six a b us vs

threes : (a b : ℕ) (us vs : List ℕ) → cmp ((224 + a / 4096) ∷ low (a / 64) ∷ low a ∷ us) ((224 + b / 4096) ∷ low (b / 64) ∷ low b ∷ vs) ≡ ordering_then (nat_cmp a b) (cmp us vs)
threes a b us vs =
    let p : a / 4096 ≡ a / 64 / 64 = omega arith in
    let q : b / 4096 ≡ b / 64 / 64 = omega arith in
    ap (λ r. ordering_then r (cmp (low (a / 64) ∷ low a ∷ us) (low (b / 64) ∷ low b ∷ vs))) (shifted 224 (a / 4096) (b / 4096) ∙ ap₂ nat_cmp p q)
    ∙ six (a / 64) (b / 64) (low a ∷ us) (low b ∷ vs)
    ∙ six a b us vs

fours : (a b : ℕ) (us vs : List ℕ) → cmp ((240 + a / 262144) ∷ low (a / 4096) ∷ low (a / 64) ∷ low a ∷ us) ((240 + b / 262144) ∷ low (b / 4096) ∷ low (b / 64) ∷ low b ∷ vs) ≡ ordering_then (nat_cmp a b) (cmp us vs)
fours a b us vs =
    let p : a / 262144 ≡ a / 4096 / 64 = omega arith in
    let q : b / 262144 ≡ b / 4096 / 64 = omega arith in
    let v : a / 4096 ≡ a / 64 / 64 = omega arith in
    let w : b / 4096 ≡ b / 64 / 64 = omega arith in
    ap (λ r. ordering_then r (cmp (low (a / 4096) ∷ low (a / 64) ∷ low a ∷ us) (low (b / 4096) ∷ low (b / 64) ∷ low b ∷ vs))) (shifted 240 (a / 262144) (b / 262144) ∙ ap₂ nat_cmp p q)
    ∙ six (a / 4096) (b / 4096) (low (a / 64) ∷ low a ∷ us) (low (b / 64) ∷ low b ∷ vs)
    ∙ ap (λ r. ordering_then r (cmp (low (a / 64) ∷ low a ∷ us) (low (b / 64) ∷ low b ∷ vs))) (ap₂ nat_cmp v w)
    ∙ six (a / 64) (b / 64) (low a ∷ us) (low b ∷ vs)
    ∙ six a b us vs

-- the bytes of a character, by how many there are
data Form : ℕ → Type 0 where
  of1 : {c : ℕ} → c < 128 → encode_utf8 c ≡ c ∷ [] → Form c
  of2 : {c : ℕ} → 128 ≤ c → c < 2048 → encode_utf8 c ≡ (192 + c / 64) ∷ low c ∷ [] → Form c
  of3 : {c : ℕ} → 2048 ≤ c → c < 65536 → encode_utf8 c ≡ (224 + c / 4096) ∷ low (c / 64) ∷ low c ∷ [] → Form c
  of4 : {c : ℕ} → 65536 ≤ c → encode_utf8 c ≡ (240 + c / 262144) ∷ low (c / 4096) ∷ low (c / 64) ∷ low c ∷ [] → Form c

form : (c : ℕ) → Form c
unfolding encode_utf8
form c =
    ⊎_elim
    (λ h. of1 h (cond-true _ _ _ (by (ltb c 128 ≡ true) (grind (arith, nat_tests)))))
    (λ l.
    let not_one : ltb c 128 ≡ false = grind (arith, nat_tests) in
    ⊎_elim
    (λ h. of2 l h (cond-false _ _ _ not_one ∙ cond-true _ _ _ (by (ltb c 2048 ≡ true) (grind (arith, nat_tests)))))
    (λ m.
    let not_two : ltb c 2048 ≡ false = grind (arith, nat_tests) in
    ⊎_elim
    (λ h. of3 m h (cond-false _ _ _ not_one ∙ cond-false _ _ _ not_two ∙ cond-true _ _ _ (by (ltb c 65536 ≡ true) (grind (arith, nat_tests)))))
    (λ n. of4 n (cond-false _ _ _ not_one ∙ cond-false _ _ _ not_two ∙ cond-false _ _ _ (by (ltb c 65536 ≡ false) (grind (arith, nat_tests)))))
    (cases_lt c 65536))
    (cases_lt c 2048))
    (cases_lt c 128)

module _ (a b : ℕ) (us vs : List ℕ) where
  -- what is said of two characters and what is after them
  abbrev Ordered : List ℕ → List ℕ → Type 0
  Ordered p q = cmp (p ++ us) (q ++ vs) ≡ ordering_then (nat_cmp a b) (cmp us vs)

  below : {xs ys p q : List ℕ} (x y : ℕ) → p ≡ x ∷ xs → q ≡ y ∷ ys → x < y → a < b → Ordered p q
  below {xs} {ys} x y e f l m =
      ap₂ (λ p q. cmp (p ++ us) (q ++ vs)) e f ∙ first_less x y (cmp (xs ++ us) (ys ++ vs)) (cmp us vs) l ∙ sym (first_less a b (cmp us vs) (cmp us vs) m)

  above : {xs ys p q : List ℕ} (x y : ℕ) → p ≡ x ∷ xs → q ≡ y ∷ ys → y < x → b < a → Ordered p q
  above {xs} {ys} x y e f l m =
      ap₂ (λ p q. cmp (p ++ us) (q ++ vs)) e f ∙ first_more x y (cmp (xs ++ us) (ys ++ vs)) (cmp us vs) l ∙ sym (first_more a b (cmp us vs) (cmp us vs) m)

  forms : Form a → Form b → Ordered (encode_utf8 a) (encode_utf8 b)
  forms (of1 h e) (of1 k f) = ap₂ (λ p q. cmp (p ++ us) (q ++ vs)) e f
  forms (of1 h e) (of2 k l f) = below a (192 + b / 64) e f (omega arith) (omega arith)
  forms (of1 h e) (of3 k l f) = below a (224 + b / 4096) e f (omega arith) (omega arith)
  forms (of1 h e) (of4 k f) = below a (240 + b / 262144) e f (omega arith) (omega arith)
  forms (of2 h i e) (of1 k f) = above (192 + a / 64) b e f (omega arith) (omega arith)
  forms (of2 h i e) (of2 k l f) = ap₂ (λ p q. cmp (p ++ us) (q ++ vs)) e f ∙ twos a b us vs
  forms (of2 h i e) (of3 k l f) = below (192 + a / 64) (224 + b / 4096) e f (omega arith) (omega arith)
  forms (of2 h i e) (of4 k f) = below (192 + a / 64) (240 + b / 262144) e f (omega arith) (omega arith)
  forms (of3 h i e) (of1 k f) = above (224 + a / 4096) b e f (omega arith) (omega arith)
  forms (of3 h i e) (of2 k l f) = above (224 + a / 4096) (192 + b / 64) e f (omega arith) (omega arith)
  forms (of3 h i e) (of3 k l f) = ap₂ (λ p q. cmp (p ++ us) (q ++ vs)) e f ∙ threes a b us vs
  forms (of3 h i e) (of4 k f) = below (224 + a / 4096) (240 + b / 262144) e f (omega arith) (omega arith)
  forms (of4 h e) (of1 k f) = above (240 + a / 262144) b e f (omega arith) (omega arith)
  forms (of4 h e) (of2 k l f) = above (240 + a / 262144) (192 + b / 64) e f (omega arith) (omega arith)
  forms (of4 h e) (of3 k l f) = above (240 + a / 262144) (224 + b / 4096) e f (omega arith) (omega arith)
  forms (of4 h e) (of4 k f) = ap₂ (λ p q. cmp (p ++ us) (q ++ vs)) e f ∙ fours a b us vs

-- a text with a character is above one with none
some_bytes : (c : ℕ) (rest : List ℕ) → Form c → (cmp [] (encode_utf8 c ++ rest) ≡ Less) × (cmp (encode_utf8 c ++ rest) [] ≡ Greater)
some_bytes c rest (of1 h e) = (ap (λ p. cmp [] (p ++ rest)) e, ap (λ p. cmp (p ++ rest) []) e)
some_bytes c rest (of2 h i e) = (ap (λ p. cmp [] (p ++ rest)) e, ap (λ p. cmp (p ++ rest) []) e)
some_bytes c rest (of3 h i e) = (ap (λ p. cmp [] (p ++ rest)) e, ap (λ p. cmp (p ++ rest) []) e)
some_bytes c rest (of4 h e) = (ap (λ p. cmp [] (p ++ rest)) e, ap (λ p. cmp (p ++ rest) []) e)

encoded : (xs ys : List ℕ) → cmp (encode_utf8_all xs) (encode_utf8_all ys) ≡ cmp xs ys
encoded [] [] = refl
encoded [] (y ∷ ys) = (some_bytes y (encode_utf8_all ys) (form y)).0
encoded (x ∷ xs) [] = (some_bytes x (encode_utf8_all xs) (form x)).1
encoded (x ∷ xs) (y ∷ ys) = forms x y (encode_utf8_all xs) (encode_utf8_all ys) (form x) (form y) ∙ ap (λ o. ordering_then (nat_cmp x y) o) (encoded xs ys)

-- texts stand in the order of their characters
pub cmp-chars : (a b : List ℕ) → IsUtf8 a → IsUtf8 b → slice_cmp nat_cmp a b ≡ slice_cmp nat_cmp (chars a) (chars b)
cmp-chars a b u v = sym (ap₂ cmp (encodes-chars a u) (encodes-chars b v)) ∙ encoded (chars a) (chars b)
