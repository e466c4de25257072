-- Names, variables and types are read as they are spelled.
use Rattle.std.proofs.Common.{◌≡◌, ℕ, ◌+◌, ◌-◌, ◌/◌, ◌%◌, ◌≤◌, ◌<◌, Bool, true, false, not, cond, eqb, ltb, List, [], ◌∷◌, ◌++◌, length, take, drop, Option, Some, None, refl, sym, ap, subst, ◌∙◌, arith, inl, inr}
use lib.Utf8.{encode}
use Rattle.std.specs.Prelude.{◌&&◌, ◌||◌, ◌==◌, codes, encode_utf8_all}
use Rattle.std.specs.Option.{option_map}
use Rattle.std.specs.List.{list_all, list_any}
use Rattle.std.specs.Str.{is_utf8, chars, all_scalars, bytes_eq}
use Rattle.unicode_ident.proofs.IdentLemmas.{is_xid_continue-ascii, is_xid_start-is_xid_continue}
use Rattle.unicode_ident.specs.Ident.{is_xid_start, is_xid_continue}
use Rattle.std.proofs.lemmas.Bool.{cases_lt, lt-ltb, le-ltb, and_parts, and_from, or_left, or_right, or_cases, both_ways, false_from_ne_true, eqb-true, not-true}
use Rattle.std.proofs.lemmas.Bool.Decides.{nat_tests}
use Rattle.std.proofs.lemmas.Option.{cond_some, same_Some}
use Rattle.std.proofs.lemmas.List.{append-nil, take-append-drop, take_at, drop_at, length-append, nil_from_length}
use Rattle.std.proofs.lemmas.List.Folds.{list_all-append}
use Rattle.std.proofs.lemmas.Slice.Eq.{bytes_eq-Decides}
use Rattle.std.proofs.lemmas.Str.{is_utf8-from_IsUtf8, IsUtf8-from_is_utf8, encode_ascii, chars-encodes, encodes-chars, scalars-chars, length-le-encodes}
use Rattle.gt_text.specs.Identifier.{starts_identifier_of, continues_identifier_of}
use Rattle.gt_script.specs.declared.command.TypeName.{TypeName}
use Rattle.gt_split.specs.Texts.{following, before}
use Rattle.gt_script.specs.Values.{is_identifier_of, name_at, variable_at, named_type, type_at, file_at}
use Rattle.gt_script.specs.Language.{IsName, variable_text, type_text, IsFile}
use Rattle.gt_split.proofs.Options.{bind_some, map_or_some}

-- ---- the bytes of a name

-- a byte of a name is no byte of ASCII, or a character that may continue one
abbrev pub dark : ℕ → Bool
dark b = not (ltb b 128) || continues_identifier_of b

high : (b : ℕ) → 128 ≤ b → dark b ≡ true
high b h = rw (le-ltb b 128 h) refl

char_dark : (c : ℕ) → continues_identifier_of c ≡ true → list_all dark (encode c) ≡ true
unfolding encode
char_dark c e = elim (cases_lt c 128) [
  | inl one ↦ ap (list_all dark) (encode_ascii c one) ∙ and_from (dark c) true (or_right (not (ltb c 128)) (continues_identifier_of c) e) refl
  | inr two ↦ elim (cases_lt c 2048) [
    | inl low ↦ rw (le-ltb c 128 two, lt-ltb c 2048 low, high (192 + c / 64) (omega arith), high (128 + c % 64) (omega arith)) refl
    | inr three ↦ elim (cases_lt c 65536) [
      | inl low ↦ rw (le-ltb c 128 two, le-ltb c 2048 three, lt-ltb c 65536 low, high (224 + c / 4096) (omega arith), high (128 + c / 64 % 64) (omega arith), high (128 + c % 64) (omega arith)) refl
      | inr four ↦
          rw (le-ltb c 128 two, le-ltb c 2048 three, le-ltb c 65536 four, high (240 + c / 262144) (omega arith), high (128 + c / 4096 % 64) (omega arith), high (128 + c / 64 % 64) (omega arith), high (128 + c % 64) (omega arith))
          refl
    ]
  ]
]

chars_dark : (cs : List ℕ) → list_all continues_identifier_of cs ≡ true → list_all dark (encode_utf8_all cs) ≡ true
chars_dark [] h = refl
chars_dark (c ∷ cs) h =
    let both = and_parts (continues_identifier_of c) (list_all continues_identifier_of cs) h in
    list_all-append dark (encode c) (encode_utf8_all cs) ∙ and_from _ _ (char_dark c both.0) (chars_dark cs both.1)

starts_continues : (c : ℕ) → starts_identifier_of c ≡ true → continues_identifier_of c ≡ true
unfolding starts_identifier_of continues_identifier_of
starts_continues c e = elim (or_cases (c == 95) (is_xid_start c) e) [
  | inl line ↦ or_left (c == 95) (is_xid_continue c) line
  | inr start ↦ or_right (c == 95) (is_xid_continue c) (is_xid_start-is_xid_continue c start)
]

pub name_dark : (name : List ℕ) → IsName name → list_all dark (encode_utf8_all name) ≡ true
name_dark [] h = absurd h
name_dark (c ∷ cs) h = chars_dark (c ∷ cs) (and_from _ _ (starts_continues c h.1) h.2)

-- marks of ASCII that continue no identifier
dark_mark : (m : ℕ) → m < 128 → is_xid_continue m ≡ false → eqb m 95 ≡ false → dark m ≡ false
unfolding continues_identifier_of
dark_mark m low other line = rw (lt-ltb m 128 low, other, line) refl

pub dark_star : dark 42 ≡ false
dark_star = dark_mark 42 (omega arith) (is_xid_continue-ascii 42 (omega arith)) refl

pub dark_dollar : dark 36 ≡ false
dark_dollar = dark_mark 36 (omega arith) (is_xid_continue-ascii 36 (omega arith)) refl

pub dark_dot : dark 46 ≡ false
dark_dot = dark_mark 46 (omega arith) (is_xid_continue-ascii 46 (omega arith)) refl

pub dark_bracket : dark 91 ≡ false
dark_bracket = dark_mark 91 (omega arith) (is_xid_continue-ascii 91 (omega arith)) refl

-- what no byte of a name passes
pub dark_lacks : (p : ℕ → Bool) → ((b : ℕ) → p b ≡ true → dark b ≡ false) → (text : List ℕ) → list_all dark text ≡ true → list_all (λ b. not (p b)) text ≡ true
dark_lacks p never [] h = refl
dark_lacks p never (b ∷ bs) h =
    let both = and_parts (dark b) (list_all dark bs) h in
    let other : p b ≡ false = false_from_ne_true (p b) (λ e. both_ways (dark b) (never b e) both.0) in
    rw (other, dark_lacks p never bs both.1) refl

never_mark : (m : ℕ) → dark m ≡ false → (b : ℕ) → eqb b m ≡ true → dark b ≡ false
never_mark m h b e = ap dark (eqb-true b m e) ∙ h

pub name_some : (name : List ℕ) → IsName name → 0 < length (encode_utf8_all name)
name_some [] h = absurd h
name_some (c ∷ cs) h = omega (arith, length-le-encodes (c ∷ cs))

-- ---- literals at the ends

pub after_taken : (literal text rest : List ℕ) → following literal text ≡ Some rest → text ≡ literal ++ rest
unfolding following
after_taken literal text rest e =
    let g = cond_some (bytes_eq (take (length literal) text) literal) (drop (length literal) text) rest e in
    let front : take (length literal) text ≡ literal = (bytes_eq-Decides (take (length literal) text) literal).0 g.0 in
    sym (take-append-drop (length literal) text) ∙ ap (λ (l : List ℕ). l ++ drop (length literal) text) front ∙ ap (λ (l : List ℕ). literal ++ l) g.1

pub before_taken : (literal text front : List ℕ) → before literal text ≡ Some front → text ≡ front ++ literal
unfolding before
before_taken literal text front e =
    let g = cond_some (bytes_eq (drop (length text - length literal) text) literal) (take (length text - length literal) text) front e in
    let back : drop (length text - length literal) text ≡ literal = (bytes_eq-Decides (drop (length text - length literal) text) literal).0 g.0 in
    sym (take-append-drop (length text - length literal) text) ∙ ap (λ (l : List ℕ). take (length text - length literal) text ++ l) back ∙ ap (λ (l : List ℕ). l ++ literal) g.1

pub before_again : (literal front : List ℕ) → before literal (front ++ literal) ≡ Some front
unfolding before
before_again literal front =
    let len : length (front ++ literal) - length literal ≡ length front = omega (arith, length-append front literal) in
    let same : bytes_eq literal literal ≡ true = (bytes_eq-Decides literal literal).1 refl in
    rw (len, drop_at front literal (length front) refl, take_at front literal (length front) refl, same) refl

lacks_last : (m : ℕ) (front : List ℕ) → list_all (λ b. not (eqb b m)) (front ++ m ∷ []) ≡ true → ⊥
lacks_last m [] h =
    let both = and_parts (not (eqb m m)) true h in
    let same : eqb m m ≡ true = grind (arith, nat_tests) in
    both_ways (eqb m m) (not-true (eqb m m) both.0) same
lacks_last m (c ∷ cs) h = lacks_last m cs (and_parts (not (eqb c m)) (list_all (λ b. not (eqb b m)) (cs ++ m ∷ [])) h).1

pub before_none : (m : ℕ) (text : List ℕ) → list_all (λ b. not (eqb b m)) text ≡ true → before (m ∷ []) text ≡ None
before_none m text h = go (before (m ∷ []) text) refl
  where
    go : (o : Option (List ℕ)) → before (m ∷ []) text ≡ o → o ≡ None
    go None e = refl
    go (Some front) e = absurd (lacks_last m front (subst (λ (t : List ℕ). list_all (λ b. not (eqb b m)) t ≡ true) (before_taken (m ∷ []) text front e) h))

-- a first byte that is no mark
pub after_none : (m : ℕ) (front rest : List ℕ) → list_all (λ b. not (eqb b m)) front ≡ true → 0 < length front → following (m ∷ []) (front ++ rest) ≡ None
unfolding following
after_none m [] rest h some = absurd (omega arith)
after_none m (c ∷ cs) rest h some =
    let both = and_parts (not (eqb c m)) (list_all (λ b. not (eqb b m)) cs) h in
    rw (not-true (eqb c m) both.0) refl

pub name_not_dollar : (name rest : List ℕ) → IsName name → following (codes "$") (encode_utf8_all name ++ rest) ≡ None
name_not_dollar name rest h = after_none 36 (encode_utf8_all name) rest (dark_lacks (λ b. eqb b 36) (never_mark 36 dark_dollar) (encode_utf8_all name) (name_dark name h)) (name_some name h)

pub name_not_star : (name : List ℕ) → IsName name → before (codes "*") (encode_utf8_all name) ≡ None
name_not_star name h = before_none 42 (encode_utf8_all name) (dark_lacks (λ b. eqb b 42) (never_mark 42 dark_star) (encode_utf8_all name) (name_dark name h))

-- ---- names

is_name : (cs : List ℕ) → all_scalars cs ≡ true → is_identifier_of cs ≡ true → IsName cs
unfolding is_identifier_of
is_name [] scalars h = absurd cc
is_name (c ∷ cs) scalars h = let both = and_parts (starts_identifier_of c) (list_all continues_identifier_of cs) h in (scalars, both.0, both.1)

pub name_taken : (text name : List ℕ) → name_at text ≡ Some name → IsName name × (text ≡ encode_utf8_all name)
unfolding name_at
name_taken text name e =
    let g = cond_some (is_utf8 text && is_identifier_of (chars text)) (chars text) name e in
    let both = and_parts (is_utf8 text) (is_identifier_of (chars text)) g.0 in
    let utf8 = IsUtf8-from_is_utf8 text both.0 in
    (subst IsName g.1 (is_name (chars text) (scalars-chars text utf8) both.1), sym (encodes-chars text utf8) ∙ ap encode_utf8_all g.1)

encodes_utf8 : (cs : List ℕ) → all_scalars cs ≡ true → is_utf8 (encode_utf8_all cs) ≡ true
encodes_utf8 cs h = is_utf8-from_IsUtf8 (encode_utf8_all cs) (cs, (h, refl))

pub name_again : (name : List ℕ) → IsName name → name_at (encode_utf8_all name) ≡ Some name
unfolding name_at is_identifier_of
name_again [] h = absurd h
name_again (c ∷ cs) h =
    let same : chars (encode_utf8_all (c ∷ cs)) ≡ c ∷ cs = chars-encodes (c ∷ cs) h.0 in
    rw (encodes_utf8 (c ∷ cs) h.0, same, h.1, h.2) refl

pub variable_taken : (text name : List ℕ) → variable_at text ≡ Some name → IsName name × (text ≡ variable_text name)
unfolding variable_at
variable_taken text name e =
    let rest = bind_some (following (codes "$") text) (λ rest. name_at rest) name e in
    let taken = name_taken rest.0 name rest.2 in
    (taken.0, after_taken (codes "$") text rest.0 rest.1 ∙ ap (λ (l : List ℕ). codes "$" ++ l) taken.1)

pub variable_again : (name : List ℕ) → IsName name → variable_at (variable_text name) ≡ Some name
unfolding variable_at following
variable_again name h = name_again name h

-- ---- types

abbrev TypeTaken : List ℕ → TypeName → Type 0
TypeTaken text ty = IsName ty.name × (text ≡ type_text ty)

named_taken : (star : Bool) (text : List ℕ) (ty : TypeName) → named_type star text ≡ Some ty → IsName ty.name × (text ≡ encode_utf8_all ty.name) × (ty.star ≡ star)
named_taken star text ty e = go (name_at text) refl e
  where
    go : (o : Option (List ℕ)) → name_at text ≡ o → option_map (λ name. record { name = name; star = star }) o ≡ Some ty → IsName ty.name × (text ≡ encode_utf8_all ty.name) × (ty.star ≡ star)
    go None n h = absurd cc
    go (Some name) n h =
        let taken = name_taken text name n in
        subst (λ (t : TypeName). IsName t.name × (text ≡ encode_utf8_all t.name) × (t.star ≡ star)) (same_Some (record { name = name; star = star }) ty h) (taken.0, taken.1, refl)

pub type_taken : (text : List ℕ) (ty : TypeName) → type_at text ≡ Some ty → TypeTaken text ty
unfolding type_at
type_taken text ty e =
    elim (map_or_some (before (codes "*") text) (named_type true) (named_type false text) ty e) [
      | inl g ↦
          let taken = named_taken true g.0 ty g.2 in
          (taken.0, before_taken (codes "*") text g.0 g.1 ∙ ap (λ (l : List ℕ). l ++ codes "*") taken.1 ∙ ap (λ (b : Bool). encode_utf8_all ty.name ++ cond b (codes "*") []) (sym taken.2))
      | inr g ↦
          let taken = named_taken false text ty g.1 in
          (taken.0, taken.1 ∙ sym (append-nil (encode_utf8_all ty.name)) ∙ ap (λ (b : Bool). encode_utf8_all ty.name ++ cond b (codes "*") []) (sym taken.2))
    ]

type_of : (name : List ℕ) (star : Bool) → IsName name → type_at (encode_utf8_all name ++ cond star (codes "*") []) ≡ Some (record { name = name; star = star })
unfolding type_at
type_of name true h = rw (before_again (codes "*") (encode_utf8_all name), name_again name h) refl
type_of name false h = rw (append-nil (encode_utf8_all name), name_not_star name h, name_again name h) refl

pub type_again : (ty : TypeName) → IsName ty.name → type_at (type_text ty) ≡ Some ty
type_again ty h = type_of ty.name ty.star h

-- ---- names of files

pub file_taken : (text file : List ℕ) → file_at text ≡ Some file → IsFile text file
unfolding file_at
file_taken text file e =
    let g = cond_some (not (eqb (length text) 0) && not (list_any (λ c. eqb c 0) text) && is_utf8 text) (chars text) file e in
    let both = and_parts (not (eqb (length text) 0) && not (list_any (λ c. eqb c 0) text)) (is_utf8 text) g.0 in
    let solid = and_parts (not (eqb (length text) 0)) (not (list_any (λ c. eqb c 0) text)) both.0 in
    let utf8 = IsUtf8-from_is_utf8 text both.1 in
    record {
      scalars = ap all_scalars (sym g.1) ∙ scalars-chars text utf8;
      spelled = sym (encodes-chars text utf8) ∙ ap encode_utf8_all g.1;
      some = λ none. both_ways (eqb (length text) 0) (not-true (eqb (length text) 0) solid.0) (ap (λ (t : List ℕ). eqb (length t) 0) none);
      solid = not-true (list_any (λ c. eqb c 0) text) solid.1;
    }

pub file_again : (text file : List ℕ) → IsFile text file → file_at text ≡ Some file
unfolding file_at
file_again text file h =
    let long : eqb (length text) 0 ≡ false = false_from_ne_true (eqb (length text) 0) (λ e. h.some (nil_from_length text (eqb-true (length text) 0 e))) in
    let utf8 : is_utf8 text ≡ true = ap is_utf8 h.spelled ∙ encodes_utf8 file h.scalars in
    let same : chars text ≡ file = ap chars h.spelled ∙ chars-encodes file h.scalars in
    rw (long, h.solid, utf8, same) refl
