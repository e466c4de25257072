-- Types as plain trees, with names in place of structures: those that headers can give. Their texts are read back from the left.
use Rattle.std.proofs.Common.{◌≡◌, ℕ, ◌+◌, Bool, true, false, not, ◌&&◌, cond, pos, negsuc, List, ◌∷◌, ◌++◌, Option, Some, None, refl, sym, ap, ap₂, ◌∙◌, subst, arith, ◌<◌, ◌≤◌, ◌||◌, nat_lt, ltb-true, inl, inr}
use Rattle.std.specs.List.{list_all}
use Rattle.std.specs.Str.{bytes_eq}
use Rattle.std.specs.Prelude.{codes, encode_utf8_all}
use Rattle.std.proofs.lemmas.Bool.{and_parts, or_cases, agree_below_at, both_ways, leb-true, not-true, true≢false}
use Rattle.gt_types.specs.declared.types.Width.TheVariants.{W1, W2, W4, W8}
use Rattle.gt_types.specs.declared.types.Scalar.{Scalar}
use Rattle.gt_types.specs.declared.types.Scalar.TheVariants as scalar
use Rattle.gt_types.specs.Names.{is_name_character}
use Rattle.gt_digits.specs.Digits.{decimal}
use Rattle.gt_canon.specs.Types.{scalar_word}
use Rattle.gt_canon.proofs.Runs.{is_plain, is_end, ends, stops, stops-ends, same_head, same_tail, same_words, same_names}
use Rattle.gt_canon.proofs.Integers.{is_digit, BeginsWithDigit, decimal_begins, decimal_plain, same_decimal}
use Rattle.gt_canon.proofs.Trees.{Tree, num, written, is_good, kind, sort_of, sort-written, same_trees}

-- what a pointer with a length leads to
pub data Goal : Type 0 where
  nodes : List ℕ → Goal
  pointers : List ℕ → Goal
  strings : Goal

pub data Form : Type 0 where
  number : Scalar → Form
  bits : Scalar → ℕ → Form
  raw : ℕ → ℕ → Form
  text : Form
  sized : Tree → Form
  plain : List ℕ → Form
  many : Tree → Goal → Form
  sorted : Form → Form
  atomic : Form
  undef : Form
  node : List ℕ → Option Tree → Form
  arr : ℕ → Form → Form
  tail : Tree → Form → Form

-- ---- texts

abbrev pub desc_then : Option Tree → List ℕ → List ℕ
desc_then None s = 45 ∷ s
desc_then (Some e) s = written e s

abbrev pub goal_word : Goal → List ℕ
goal_word (nodes w) = codes "node"
goal_word (pointers w) = codes "ptr"
goal_word strings = codes "str"

abbrev pub goal_then : Goal → List ℕ → List ℕ
goal_then (nodes w) s = 32 ∷ (encode_utf8_all w ++ s)
goal_then (pointers w) s = 32 ∷ (encode_utf8_all w ++ s)
goal_then strings s = s

-- the first word of a type
abbrev pub keyword : Form → List ℕ
keyword (number n) = scalar_word n
keyword (bits unit count) = codes "bits"
keyword (raw size align) = codes "raw"
keyword text = codes "str"
keyword (sized e) = codes "strlen"
keyword (plain w) = codes "ptr"
keyword (many e g) = codes "len"
keyword (sorted f) = codes "reorder"
keyword atomic = codes "atomic"
keyword undef = codes "undef"
keyword (node w desc) = codes "node"
keyword (arr n f) = codes "arr"
keyword (tail e f) = codes "tail"

-- what follows the first word
abbrev pub after : Form → List ℕ → List ℕ
after (number n) s = s
after (bits unit count) s = 32 ∷ (scalar_word unit ++ (32 ∷ (decimal count ++ s)))
after (raw size align) s = 32 ∷ (decimal size ++ (32 ∷ (decimal align ++ s)))
after text s = s
after (sized e) s = 32 ∷ written e s
after (plain w) s = 32 ∷ (encode_utf8_all w ++ s)
after (many e g) s = 32 ∷ written e (32 ∷ (goal_word g ++ goal_then g s))
after (sorted f) s = 32 ∷ (keyword f ++ after f s)
after atomic s = s
after undef s = s
after (node w desc) s = 32 ∷ (encode_utf8_all w ++ (32 ∷ desc_then desc s))
after (arr n f) s = 32 ∷ (decimal n ++ (32 ∷ (keyword f ++ after f s)))
after (tail e f) s = 32 ∷ written e (32 ∷ (keyword f ++ after f s))

-- the words of a type, each after a space, and what follows
abbrev pub form_then : Form → List ℕ → List ℕ
form_then f s = 32 ∷ (keyword f ++ after f s)

-- ---- names and expressions in them

abbrev pub is_good_desc : Option Tree → Bool
is_good_desc None = true
is_good_desc (Some e) = is_good e

abbrev pub is_good_goal : Goal → Bool
is_good_goal (nodes w) = list_all is_name_character w
is_good_goal (pointers w) = list_all is_name_character w
is_good_goal strings = true

abbrev pub is_good_form : Form → Bool
is_good_form (number n) = true
is_good_form (bits unit count) = true
is_good_form (raw size align) = true
is_good_form text = true
is_good_form (sized e) = is_good e
is_good_form (plain w) = list_all is_name_character w
is_good_form (many e g) = is_good e && is_good_goal g
is_good_form (sorted f) = is_good_form f
is_good_form atomic = true
is_good_form undef = true
is_good_form (node w desc) = list_all is_name_character w && is_good_desc desc
is_good_form (arr n f) = is_good_form f
is_good_form (tail e f) = is_good e && is_good_form f

-- ---- words

abbrev scalar_of : List ℕ → Scalar
scalar_of w =
    cond (bytes_eq w (codes "b")) scalar.Bool (cond (bytes_eq w (codes "i1")) (scalar.Int W1 true) (cond (bytes_eq w (codes "u1")) (scalar.Int W1 false)
    (cond (bytes_eq w (codes "i2")) (scalar.Int W2 true) (cond (bytes_eq w (codes "u2")) (scalar.Int W2 false)
    (cond (bytes_eq w (codes "i4")) (scalar.Int W4 true) (cond (bytes_eq w (codes "u4")) (scalar.Int W4 false)
    (cond (bytes_eq w (codes "i8")) (scalar.Int W8 true) (scalar.Int W8 false))))))))

scalar_of-word : (n : Scalar) → scalar_of (scalar_word n) ≡ n
scalar_of-word scalar.Bool = refl
scalar_of-word (scalar.Int W1 true) = refl
scalar_of-word (scalar.Int W1 false) = refl
scalar_of-word (scalar.Int W2 true) = refl
scalar_of-word (scalar.Int W2 false) = refl
scalar_of-word (scalar.Int W4 true) = refl
scalar_of-word (scalar.Int W4 false) = refl
scalar_of-word (scalar.Int W8 true) = refl
scalar_of-word (scalar.Int W8 false) = refl

same_scalars : (m n : Scalar) → scalar_word m ≡ scalar_word n → m ≡ n
same_scalars m n e = sym (scalar_of-word m) ∙ ap scalar_of e ∙ scalar_of-word n

scalar_plain : (n : Scalar) → list_all is_plain (scalar_word n) ≡ true
scalar_plain scalar.Bool = refl
scalar_plain (scalar.Int W1 true) = refl
scalar_plain (scalar.Int W1 false) = refl
scalar_plain (scalar.Int W2 true) = refl
scalar_plain (scalar.Int W2 false) = refl
scalar_plain (scalar.Int W4 true) = refl
scalar_plain (scalar.Int W4 false) = refl
scalar_plain (scalar.Int W8 true) = refl
scalar_plain (scalar.Int W8 false) = refl

abbrev kind_of_word : List ℕ → ℕ
kind_of_word w =
    cond (bytes_eq w (codes "bits")) 1 (cond (bytes_eq w (codes "raw")) 2 (cond (bytes_eq w (codes "str")) 3 (cond (bytes_eq w (codes "strlen")) 4
    (cond (bytes_eq w (codes "ptr")) 5 (cond (bytes_eq w (codes "len")) 6 (cond (bytes_eq w (codes "reorder")) 7 (cond (bytes_eq w (codes "atomic")) 8
    (cond (bytes_eq w (codes "undef")) 9 (cond (bytes_eq w (codes "node")) 10 (cond (bytes_eq w (codes "arr")) 11 (cond (bytes_eq w (codes "tail")) 12 0)))))))))))

abbrev kind_of : Form → ℕ
kind_of (number n) = 0
kind_of (bits unit count) = 1
kind_of (raw size align) = 2
kind_of text = 3
kind_of (sized e) = 4
kind_of (plain w) = 5
kind_of (many e g) = 6
kind_of (sorted f) = 7
kind_of atomic = 8
kind_of undef = 9
kind_of (node w desc) = 10
kind_of (arr n f) = 11
kind_of (tail e f) = 12

kind-scalar : (n : Scalar) → kind_of_word (scalar_word n) ≡ 0
kind-scalar scalar.Bool = refl
kind-scalar (scalar.Int W1 true) = refl
kind-scalar (scalar.Int W1 false) = refl
kind-scalar (scalar.Int W2 true) = refl
kind-scalar (scalar.Int W2 false) = refl
kind-scalar (scalar.Int W4 true) = refl
kind-scalar (scalar.Int W4 false) = refl
kind-scalar (scalar.Int W8 true) = refl
kind-scalar (scalar.Int W8 false) = refl

kind-keyword : (f : Form) → kind_of_word (keyword f) ≡ kind_of f
kind-keyword (number n) = kind-scalar n
kind-keyword _ = refl

keyword_plain : (f : Form) → list_all is_plain (keyword f) ≡ true
keyword_plain (number n) = scalar_plain n
keyword_plain _ = refl

same_kinds : (f g : Form) → keyword f ≡ keyword g → kind_of f ≡ kind_of g
same_kinds f g e = sym (kind-keyword f) ∙ ap kind_of_word e ∙ kind-keyword g

stops-after : (f : Form) (s : List ℕ) → ends s ≡ true → stops (after f s) ≡ true
stops-after (number n) s e = stops-ends s e
stops-after text s e = stops-ends s e
stops-after atomic s e = stops-ends s e
stops-after undef s e = stops-ends s e
stops-after _ s e = refl

-- the first word and what follows it
pub split :
    (f g : Form) (s t : List ℕ) → ends s ≡ true → ends t ≡ true → form_then f s ≡ form_then g t → (keyword f ≡ keyword g) × (after f s ≡ after g t)
split f g s t es et e =
    same_words (keyword f) (keyword g) (after f s) (after g t) (keyword_plain f) (keyword_plain g) (stops-after f s es) (stops-after g t et)
    (same_tail 32 32 (keyword f ++ after f s) (keyword g ++ after g t) e)

-- ---- a number, a name, a `desc`, after a space

same_number :
    (m n : ℕ) (s t : List ℕ) → stops s ≡ true → stops t ≡ true → 32 ∷ (decimal m ++ s) ≡ 32 ∷ (decimal n ++ t) → (m ≡ n) × (s ≡ t)
same_number m n s t es et e =
    let parts = same_words (decimal m) (decimal n) s t (decimal_plain m) (decimal_plain n) es et (same_tail 32 32 (decimal m ++ s) (decimal n ++ t) e) in
    (same_decimal m n parts.0, parts.1)

pub same_name :
    (w v s t : List ℕ) → list_all is_name_character w ≡ true → list_all is_name_character v ≡ true → stops s ≡ true → stops t ≡ true
    → 32 ∷ (encode_utf8_all w ++ s) ≡ 32 ∷ (encode_utf8_all v ++ t) → (w ≡ v) × (s ≡ t)
same_name w v s t gw gv es et e = same_names w v s t gw gv es et (same_tail 32 32 (encode_utf8_all w ++ s) (encode_utf8_all v ++ t) e)

no_end_table : (c : ℕ) → c < 58 → (nat_lt c 48 || not (is_end c)) ≡ true
no_end_table c small = agree_below_at (λ n. nat_lt n 48 || not (is_end n)) (λ n. true) 58 c refl small

no_end : (c : ℕ) → is_digit c ≡ true → is_end c ≡ true → ⊥
no_end c digit e =
    let p = and_parts _ _ digit in
    let low : 48 ≤ c = leb-true _ _ p.0 in
    let high : c ≤ 57 = leb-true _ _ p.1 in
    elim (or_cases _ _ (no_end_table c (omega (arith, high)))) [
      | inl small ↦ let below = ltb-true c 48 small in omega (arith, below, low)
      | inr other ↦ both_ways (is_end c) (not-true (is_end c) other) e
    ]

digit_no_end : (ds s r : List ℕ) → BeginsWithDigit ds → ends s ≡ true → s ≡ ds ++ r → ⊥
digit_no_end ds s r begun es e =
    let first : ends (begun.first ∷ (begun.others ++ r)) ≡ true = subst (λ l. ends (l ++ r) ≡ true) begun.is (subst (λ l. ends l ≡ true) e es) in
    no_end begun.first begun.digit first

digit_no_sign : (ds s r : List ℕ) → BeginsWithDigit ds → 45 ∷ s ≡ ds ++ r → ⊥
digit_no_sign ds s r begun e =
    let same : 45 ≡ begun.first = same_head 45 begun.first s (begun.others ++ r) (subst (λ l. 45 ∷ s ≡ l ++ r) begun.is e) in
    true≢false (sym (subst (λ c. is_digit c ≡ true) (sym same) begun.digit))

-- no expression is read as the sign for none
no_dash : (a : Tree) (s t : List ℕ) → ends s ≡ true → 45 ∷ s ≡ written a t → ⊥
no_dash (num (pos n)) s t es e = digit_no_sign (decimal n) s t (decimal_begins n) e
no_dash (num (negsuc n)) s t es e =
    digit_no_end (decimal (n + 1)) s t (decimal_begins (n + 1)) es (same_tail 45 45 s (decimal (n + 1) ++ t) e)
no_dash a s t es e =
    let differ : 0 ≡ kind a = ap sort_of e ∙ sort-written a t in
    absurd (omega (arith, differ))

pub same_desc :
    (a b : Option Tree) (s t : List ℕ) → is_good_desc a ≡ true → is_good_desc b ≡ true → ends s ≡ true → ends t ≡ true
    → desc_then a s ≡ desc_then b t → (a ≡ b) × (s ≡ t)
same_desc None None s t ga gb es et e = (refl, same_tail 45 45 s t e)
same_desc None (Some b) s t ga gb es et e = absurd (no_dash b s t es e)
same_desc (Some a) None s t ga gb es et e = absurd (no_dash a t s et (sym e))
same_desc (Some a) (Some b) s t ga gb es et e = let parts = same_trees a b s t ga gb es et e in (ap Some parts.0, parts.1)

-- ---- what a pointer with a length leads to

abbrev goal_kind : Goal → ℕ
goal_kind (nodes w) = 10
goal_kind (pointers w) = 5
goal_kind strings = 3

kind-goal : (g : Goal) → kind_of_word (goal_word g) ≡ goal_kind g
kind-goal (nodes w) = refl
kind-goal _ = refl

goal_plain : (g : Goal) → list_all is_plain (goal_word g) ≡ true
goal_plain (nodes w) = refl
goal_plain _ = refl

stops-goal : (g : Goal) (s : List ℕ) → ends s ≡ true → stops (goal_then g s) ≡ true
stops-goal strings s e = stops-ends s e
stops-goal _ s e = refl

same_goals_after :
    (g h : Goal) (s t : List ℕ) → is_good_goal g ≡ true → is_good_goal h ≡ true → ends s ≡ true → ends t ≡ true → goal_word g ≡ goal_word h
    → goal_then g s ≡ goal_then h t → (g ≡ h) × (s ≡ t)
same_goals_after (nodes w) (nodes v) s t gg gh es et k e =
    let parts = same_name w v s t gg gh (stops-ends s es) (stops-ends t et) e in (ap nodes parts.0, parts.1)
same_goals_after (pointers w) (pointers v) s t gg gh es et k e =
    let parts = same_name w v s t gg gh (stops-ends s es) (stops-ends t et) e in (ap pointers parts.0, parts.1)
same_goals_after strings strings s t gg gh es et k e = (refl, e)
same_goals_after g h s t gg gh es et k e =
    let differ : goal_kind g ≡ goal_kind h = sym (kind-goal g) ∙ ap kind_of_word k ∙ kind-goal h in
    absurd (omega (arith, differ))

same_goals :
    (g h : Goal) (s t : List ℕ) → is_good_goal g ≡ true → is_good_goal h ≡ true → ends s ≡ true → ends t ≡ true
    → 32 ∷ (goal_word g ++ goal_then g s) ≡ 32 ∷ (goal_word h ++ goal_then h t) → (g ≡ h) × (s ≡ t)
same_goals g h s t gg gh es et e =
    let parts =
    same_words (goal_word g) (goal_word h) (goal_then g s) (goal_then h t) (goal_plain g) (goal_plain h) (stops-goal g s es) (stops-goal h t et)
    (same_tail 32 32 (goal_word g ++ goal_then g s) (goal_word h ++ goal_then h t) e) in
    same_goals_after g h s t gg gh es et parts.0 parts.1

-- ---- types

same_after :
    (f g : Form) (s t : List ℕ) → is_good_form f ≡ true → is_good_form g ≡ true → ends s ≡ true → ends t ≡ true → keyword f ≡ keyword g
    → after f s ≡ after g t → (f ≡ g) × (s ≡ t)
same_after (number m) (number n) s t gf gg es et k e = (ap number (same_scalars m n k), e)
same_after (bits u m) (bits v n) s t gf gg es et k e =
    let first =
    same_words (scalar_word u) (scalar_word v) (32 ∷ (decimal m ++ s)) (32 ∷ (decimal n ++ t)) (scalar_plain u) (scalar_plain v) refl refl
    (same_tail 32 32 (scalar_word u ++ (32 ∷ (decimal m ++ s))) (scalar_word v ++ (32 ∷ (decimal n ++ t))) e) in
    let rest = same_number m n s t (stops-ends s es) (stops-ends t et) first.1 in
    (ap₂ bits (same_scalars u v first.0) rest.0, rest.1)
same_after (raw m a) (raw n b) s t gf gg es et k e =
    let first = same_number m n (32 ∷ (decimal a ++ s)) (32 ∷ (decimal b ++ t)) refl refl e in
    let rest = same_number a b s t (stops-ends s es) (stops-ends t et) first.1 in
    (ap₂ raw first.0 rest.0, rest.1)
same_after text text s t gf gg es et k e = (refl, e)
same_after (sized a) (sized b) s t gf gg es et k e =
    let parts = same_trees a b s t gf gg es et (same_tail 32 32 (written a s) (written b t) e) in (ap sized parts.0, parts.1)
same_after (plain w) (plain v) s t gf gg es et k e =
    let parts = same_name w v s t gf gg (stops-ends s es) (stops-ends t et) e in (ap plain parts.0, parts.1)
same_after (many a g) (many b h) s t gf gg es et k e =
    let pf = and_parts _ _ gf in
    let pg = and_parts _ _ gg in
    let x = 32 ∷ (goal_word g ++ goal_then g s) in
    let y = 32 ∷ (goal_word h ++ goal_then h t) in
    let first = same_trees a b x y pf.0 pg.0 refl refl (same_tail 32 32 (written a x) (written b y) e) in
    let rest = same_goals g h s t pf.1 pg.1 es et first.1 in
    (ap₂ many first.0 rest.0, rest.1)
same_after (sorted f) (sorted g) s t gf gg es et k e =
    let first = split f g s t es et e in
    let rest = same_after f g s t gf gg es et first.0 first.1 in
    (ap sorted rest.0, rest.1)
same_after atomic atomic s t gf gg es et k e = (refl, e)
same_after undef undef s t gf gg es et k e = (refl, e)
same_after (node w a) (node v b) s t gf gg es et k e =
    let pf = and_parts _ _ gf in
    let pg = and_parts _ _ gg in
    let first = same_name w v (32 ∷ desc_then a s) (32 ∷ desc_then b t) pf.0 pg.0 refl refl e in
    let rest = same_desc a b s t pf.1 pg.1 es et (same_tail 32 32 (desc_then a s) (desc_then b t) first.1) in
    (ap₂ node first.0 rest.0, rest.1)
same_after (arr m f) (arr n g) s t gf gg es et k e =
    let first = same_number m n (form_then f s) (form_then g t) refl refl e in
    let inside = split f g s t es et first.1 in
    let rest = same_after f g s t gf gg es et inside.0 inside.1 in
    (ap₂ arr first.0 rest.0, rest.1)
same_after (tail a f) (tail b g) s t gf gg es et k e =
    let pf = and_parts _ _ gf in
    let pg = and_parts _ _ gg in
    let first = same_trees a b (form_then f s) (form_then g t) pf.0 pg.0 refl refl (same_tail 32 32 (written a (form_then f s)) (written b (form_then g t)) e) in
    let inside = split f g s t es et first.1 in
    let rest = same_after f g s t pf.1 pg.1 es et inside.0 inside.1 in
    (ap₂ tail first.0 rest.0, rest.1)
same_after f g s t gf gg es et k e =
    let differ = same_kinds f g k in
    absurd (omega (arith, differ))

pub same_forms :
    (f g : Form) (s t : List ℕ) → is_good_form f ≡ true → is_good_form g ≡ true → ends s ≡ true → ends t ≡ true → form_then f s ≡ form_then g t
    → (f ≡ g) × (s ≡ t)
same_forms f g s t gf gg es et e = let parts = split f g s t es et e in same_after f g s t gf gg es et parts.0 parts.1
