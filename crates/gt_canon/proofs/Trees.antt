-- Expressions as plain trees, with names in place of roots. Their texts are read back from the left.
use Rattle.std.proofs.Common.{◌≡◌, ℕ, Bool, true, not, ◌&&◌, ◌==◌, cond, ℤ, pos, negsuc, List, [], ◌∷◌, ◌++◌, refl, sym, ap, ap₂, ◌∙◌, subst, arith}
use Rattle.std.specs.List.{list_all}
use Rattle.std.specs.Str.{bytes_eq}
use Rattle.std.specs.Prelude.{codes, encode_utf8_all}
use Rattle.std.proofs.lemmas.Bool.{and_parts, false≢true, ne_eqb, leb-true}
use Rattle.gt_types.specs.declared.expressions.Base.{Base}
use Rattle.gt_types.specs.declared.expressions.Base.TheVariants.{Here, Outer, Outermost}
use Rattle.gt_types.specs.declared.expressions.Op.{Op}
use Rattle.gt_types.specs.declared.expressions.Op.TheVariants.{Neg, Not, Add, Sub, Mul, Lt, Le, Gt, Ge, Eq, Ne, And, Or}
use Rattle.gt_types.specs.Names.{is_name_character}
use Rattle.gt_types.specs.Operators.{has_one_operand}
use Rattle.gt_canon.specs.Lines.{integer}
use Rattle.gt_canon.specs.Expressions.{base_text, operator_text}
use Rattle.gt_canon.proofs.Runs.{is_plain, ends, stops, stops-ends, same_head, same_tail, same_words, same_names}
use Rattle.gt_canon.proofs.Integers.{is_digit, BeginsWithDigit, decimal_begins, integer_plain, same_integer}
use Rattle.gt_digits.specs.Digits.{decimal}

pub data Tree : Type 0 where
  num : ℤ → Tree
  path : Base → List (List ℕ) → Tree
  root : List ℕ → Tree
  one : Op → Tree → Tree
  two : Op → Tree → Tree → Tree
  choice : Tree → Tree → Tree → Tree

-- each name after a dot, and what follows
abbrev pub dots : List (List ℕ) → List ℕ → List ℕ
dots [] s = s
dots (w ∷ ws) s = 46 ∷ (encode_utf8_all w ++ dots ws s)

-- the text of a tree, and what follows
abbrev pub written : Tree → List ℕ → List ℕ
written (num n) s = integer n ++ s
written (path base ws) s = base_text base ++ dots ws s
written (root w) s = 64 ∷ (encode_utf8_all w ++ s)
written (one op a) s = 40 ∷ (operator_text op ++ (32 ∷ written a (41 ∷ s)))
written (two op a b) s = 40 ∷ (operator_text op ++ (32 ∷ written a (32 ∷ written b (41 ∷ s))))
written (choice a b c) s = 40 ∷ 63 ∷ 32 ∷ written a (32 ∷ written b (32 ∷ written c (41 ∷ s)))

-- each name has the characters of one, and each operator its operands
abbrev pub is_good : Tree → Bool
is_good (num n) = true
is_good (path base ws) = list_all (list_all is_name_character) ws
is_good (root w) = list_all is_name_character w
is_good (one op a) = has_one_operand op && is_good a
is_good (two op a b) = not (has_one_operand op) && is_good a && is_good b
is_good (choice a b c) = is_good a && is_good b && is_good c

-- ---- which sort of tree a text begins with

abbrev pub in_brackets : List ℕ → ℕ
in_brackets [] = 3
in_brackets (c ∷ s) = cond (c == 63) 4 3

abbrev pub sort_of : List ℕ → ℕ
sort_of [] = 0
sort_of (c ∷ s) = cond (c == 37) 1 (cond (c == 64) 2 (cond (c == 40) (in_brackets s) 0))

abbrev pub kind : Tree → ℕ
kind (num n) = 0
kind (path base ws) = 1
kind (root w) = 2
kind (one op a) = 3
kind (two op a b) = 3
kind (choice a b c) = 4

sort-digit : (c : ℕ) (s : List ℕ) → is_digit c ≡ true → sort_of (c ∷ s) ≡ 0
sort-digit c s digit =
    let p = and_parts _ _ digit in
    let low = leb-true 48 c p.0 in
    let high = leb-true c 57 p.1 in
    rw (ne_eqb c 37 (λ e. omega (arith, e, low)), ne_eqb c 64 (λ e. omega (arith, e, high)), ne_eqb c 40 (λ e. omega (arith, e, low))) refl

sort-begun : (text s : List ℕ) → BeginsWithDigit text → sort_of (text ++ s) ≡ 0
sort-begun text s begun = ap (λ l. sort_of (l ++ s)) begun.is ∙ sort-digit begun.first (begun.others ++ s) begun.digit

sort-integer : (n : ℤ) (s : List ℕ) → sort_of (integer n ++ s) ≡ 0
sort-integer (pos n) s = sort-begun (decimal n) s (decimal_begins n)
sort-integer (negsuc n) s = refl

sort-base : (base : Base) (s : List ℕ) → sort_of (base_text base ++ s) ≡ 1
sort-base Here s = refl
sort-base _ s = refl

sort-operator : (op : Op) (s : List ℕ) → in_brackets (operator_text op ++ s) ≡ 3
sort-operator Neg s = refl
sort-operator _ s = refl

pub sort-written : (a : Tree) (s : List ℕ) → sort_of (written a s) ≡ kind a
sort-written (num n) s = sort-integer n s
sort-written (path base ws) s = sort-base base (dots ws s)
sort-written (root w) s = refl
sort-written (one op a) s = sort-operator op (32 ∷ written a (41 ∷ s))
sort-written (two op a b) s = sort-operator op (32 ∷ written a (32 ∷ written b (41 ∷ s)))
sort-written (choice a b c) s = refl

same_kind : (a b : Tree) (s t : List ℕ) → written a s ≡ written b t → kind a ≡ kind b
same_kind a b s t e = sym (sort-written a s) ∙ ap sort_of e ∙ sort-written b t

-- ---- operators and bases

operator_plain : (op : Op) → list_all is_plain (operator_text op) ≡ true
operator_plain Neg = refl
operator_plain _ = refl

abbrev of_one : List ℕ → Op
of_one w = cond (bytes_eq w (codes "!")) Not Neg

abbrev of_two : List ℕ → Op
of_two w =
    cond (bytes_eq w (codes "+")) Add (cond (bytes_eq w (codes "-")) Sub (cond (bytes_eq w (codes "*")) Mul (cond (bytes_eq w (codes "<")) Lt
    (cond (bytes_eq w (codes "<=")) Le (cond (bytes_eq w (codes ">")) Gt (cond (bytes_eq w (codes ">=")) Ge (cond (bytes_eq w (codes "==")) Eq
    (cond (bytes_eq w (codes "!=")) Ne (cond (bytes_eq w (codes "&&")) And Or)))))))))

of_one-text : (op : Op) → has_one_operand op ≡ true → of_one (operator_text op) ≡ op
of_one-text Neg h = refl
of_one-text Not h = refl
of_one-text _ h = absurd (false≢true h)

of_two-text : (op : Op) → not (has_one_operand op) ≡ true → of_two (operator_text op) ≡ op
of_two-text Neg h = absurd (false≢true h)
of_two-text Not h = absurd (false≢true h)
of_two-text _ h = refl

abbrev of_base : List ℕ → Base
of_base w = cond (bytes_eq w (codes "%h")) Here (cond (bytes_eq w (codes "%1")) Outer Outermost)

of_base-text : (base : Base) → of_base (base_text base) ≡ base
of_base-text Here = refl
of_base-text _ = refl

base_plain : (base : Base) → list_all is_plain (base_text base) ≡ true
base_plain Here = refl
base_plain _ = refl

same_one : (p q : Op) → has_one_operand p ≡ true → has_one_operand q ≡ true → operator_text p ≡ operator_text q → p ≡ q
same_one p q hp hq e = sym (of_one-text p hp) ∙ ap of_one e ∙ of_one-text q hq

same_two : (p q : Op) → not (has_one_operand p) ≡ true → not (has_one_operand q) ≡ true → operator_text p ≡ operator_text q → p ≡ q
same_two p q hp hq e = sym (of_two-text p hp) ∙ ap of_two e ∙ of_two-text q hq

same_base : (a b : Base) → base_text a ≡ base_text b → a ≡ b
same_base a b e = sym (of_base-text a) ∙ ap of_base e ∙ of_base-text b

-- the operator, and what follows the space after it
same_operators :
    (p q : Op) (x y : List ℕ) → 40 ∷ (operator_text p ++ (32 ∷ x)) ≡ 40 ∷ (operator_text q ++ (32 ∷ y)) → (operator_text p ≡ operator_text q) × (x ≡ y)
same_operators p q x y e =
    let parts =
    same_words (operator_text p) (operator_text q) (32 ∷ x) (32 ∷ y) (operator_plain p) (operator_plain q) refl refl
    (same_tail 40 40 (operator_text p ++ (32 ∷ x)) (operator_text q ++ (32 ∷ y)) e) in
    (parts.0, same_tail 32 32 x y parts.1)

-- ---- paths

pub stops-dots : (ws : List (List ℕ)) (s : List ℕ) → ends s ≡ true → stops (dots ws s) ≡ true
stops-dots [] s e = stops-ends s e
stops-dots (w ∷ ws) s e = refl

no_dot : (s r : List ℕ) → ends s ≡ true → s ≡ 46 ∷ r → ⊥
no_dot s r e is = false≢true (subst (λ l. ends l ≡ true) is e)

pub same_dots :
    (ws vs : List (List ℕ)) (s t : List ℕ) → list_all (list_all is_name_character) ws ≡ true → list_all (list_all is_name_character) vs ≡ true
    → ends s ≡ true → ends t ≡ true → dots ws s ≡ dots vs t → (ws ≡ vs) × (s ≡ t)
same_dots [] [] s t gw gv es et e = (refl, e)
same_dots [] (v ∷ vs) s t gw gv es et e = absurd (no_dot s (encode_utf8_all v ++ dots vs t) es e)
same_dots (w ∷ ws) [] s t gw gv es et e = absurd (no_dot t (encode_utf8_all w ++ dots ws s) et (sym e))
same_dots (w ∷ ws) (v ∷ vs) s t gw gv es et e =
    let pw = and_parts _ _ gw in
    let pv = and_parts _ _ gv in
    let first =
    same_names w v (dots ws s) (dots vs t) pw.0 pv.0 (stops-dots ws s es) (stops-dots vs t et)
    (same_tail 46 46 (encode_utf8_all w ++ dots ws s) (encode_utf8_all v ++ dots vs t) e) in
    let rest = same_dots ws vs s t pw.1 pv.1 es et first.1 in
    (ap₂ (λ (x : List ℕ) (xs : List (List ℕ)). x ∷ xs) first.0 rest.0, rest.1)

-- ---- trees

same_parts : (p q : Op) (a c b d : Tree) → p ≡ q → a ≡ c → b ≡ d → two p a b ≡ two q c d
same_parts p q a c b d e f g = ap (λ op. two op a b) e ∙ ap (λ x. two q x b) f ∙ ap (λ x. two q c x) g

same_choices : (a a' b b' c c' : Tree) → a ≡ a' → b ≡ b' → c ≡ c' → choice a b c ≡ choice a' b' c'
same_choices a a' b b' c c' e f g = ap (λ x. choice x b c) e ∙ ap (λ x. choice a' x c) f ∙ ap (λ x. choice a' b' x) g

pub same_trees :
    (a b : Tree) (s t : List ℕ) → is_good a ≡ true → is_good b ≡ true → ends s ≡ true → ends t ≡ true → written a s ≡ written b t
    → (a ≡ b) × (s ≡ t)
same_trees (num m) (num n) s t ga gb es et e =
    let parts = same_words (integer m) (integer n) s t (integer_plain m) (integer_plain n) (stops-ends s es) (stops-ends t et) e in
    (ap num (same_integer m n parts.0), parts.1)
same_trees (path p ws) (path q vs) s t ga gb es et e =
    let first = same_words (base_text p) (base_text q) (dots ws s) (dots vs t) (base_plain p) (base_plain q) (stops-dots ws s es) (stops-dots vs t et) e in
    let rest = same_dots ws vs s t ga gb es et first.1 in
    (ap₂ path (same_base p q first.0) rest.0, rest.1)
same_trees (root w) (root v) s t ga gb es et e =
    let parts =
    same_names w v s t ga gb (stops-ends s es) (stops-ends t et) (same_tail 64 64 (encode_utf8_all w ++ s) (encode_utf8_all v ++ t) e) in
    (ap root parts.0, parts.1)
same_trees (one p a) (one q b) s t ga gb es et e =
    let ha = and_parts _ _ ga in
    let hb = and_parts _ _ gb in
    let first = same_operators p q (written a (41 ∷ s)) (written b (41 ∷ t)) e in
    let rest = same_trees a b (41 ∷ s) (41 ∷ t) ha.1 hb.1 refl refl first.1 in
    (ap₂ one (same_one p q ha.0 hb.0 first.0) rest.0, same_tail 41 41 s t rest.1)
same_trees (one p a) (two q b c) s t ga gb es et e =
    let ha = and_parts _ _ ga in
    let hb = and_parts _ _ (and_parts _ _ gb).0 in
    let first = same_operators p q (written a (41 ∷ s)) (written b (32 ∷ written c (41 ∷ t))) e in
    let rest = same_trees a b (41 ∷ s) (32 ∷ written c (41 ∷ t)) ha.1 hb.1 refl refl first.1 in
    let differ = same_head 41 32 s (written c (41 ∷ t)) rest.1 in
    absurd (omega (arith, differ))
same_trees (two p a b) (one q c) s t ga gb es et e =
    let ha = and_parts _ _ (and_parts _ _ ga).0 in
    let hb = and_parts _ _ gb in
    let first = same_operators p q (written a (32 ∷ written b (41 ∷ s))) (written c (41 ∷ t)) e in
    let rest = same_trees a c (32 ∷ written b (41 ∷ s)) (41 ∷ t) ha.1 hb.1 refl refl first.1 in
    let differ = same_head 32 41 (written b (41 ∷ s)) t rest.1 in
    absurd (omega (arith, differ))
same_trees (two p a b) (two q c d) s t ga gb es et e =
    let ga' = and_parts _ _ ga in
    let gb' = and_parts _ _ gb in
    let ha = and_parts _ _ ga'.0 in
    let hb = and_parts _ _ gb'.0 in
    let first = same_operators p q (written a (32 ∷ written b (41 ∷ s))) (written c (32 ∷ written d (41 ∷ t))) e in
    let left = same_trees a c (32 ∷ written b (41 ∷ s)) (32 ∷ written d (41 ∷ t)) ha.1 hb.1 refl refl first.1 in
    let right = same_trees b d (41 ∷ s) (41 ∷ t) ga'.1 gb'.1 refl refl (same_tail 32 32 (written b (41 ∷ s)) (written d (41 ∷ t)) left.1) in
    let operators : p ≡ q = same_two p q ha.0 hb.0 first.0 in
    (same_parts p q a c b d operators left.0 right.0, same_tail 41 41 s t right.1)
same_trees (choice a b c) (choice a' b' c') s t ga gb es et e =
    let ga' = and_parts _ _ ga in
    let gb' = and_parts _ _ gb in
    let ha = and_parts _ _ ga'.0 in
    let hb = and_parts _ _ gb'.0 in
    let x = written b (32 ∷ written c (41 ∷ s)) in
    let y = written b' (32 ∷ written c' (41 ∷ t)) in
    let inside = same_tail 32 32 (written a (32 ∷ x)) (written a' (32 ∷ y)) (same_tail 63 63 (32 ∷ written a (32 ∷ x)) (32 ∷ written a' (32 ∷ y)) (same_tail 40 40 (63 ∷ 32 ∷ written a (32 ∷ x)) (63 ∷ 32 ∷ written a' (32 ∷ y)) e)) in
    let first = same_trees a a' (32 ∷ x) (32 ∷ y) ha.0 hb.0 refl refl inside in
    let second = same_trees b b' (32 ∷ written c (41 ∷ s)) (32 ∷ written c' (41 ∷ t)) ha.1 hb.1 refl refl (same_tail 32 32 x y first.1) in
    let third = same_trees c c' (41 ∷ s) (41 ∷ t) ga'.1 gb'.1 refl refl (same_tail 32 32 (written c (41 ∷ s)) (written c' (41 ∷ t)) second.1) in
    (same_choices a a' b b' c c' first.0 second.0 third.0, same_tail 41 41 s t third.1)
same_trees a b s t ga gb es et e =
    let differ : kind a ≡ kind b = same_kind a b s t e in
    absurd (omega (arith, differ))
