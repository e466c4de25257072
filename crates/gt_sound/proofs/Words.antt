-- Identifiers are names, and so are the names in the text of an expression.
use Rattle.std.proofs.Common.{◌≡◌, ℕ, zero, suc, ◌+◌, ◌-◌, ◌<◌, ◌≤◌, Bool, true, false, cond, List, [], ◌∷◌, ◌++◌, length, take, drop, Option, Some, None, refl, sym, ap, subst, ◌∙◌, append_assoc, append-nil, arith, inl, inr, if◌then◌else◌, ◌||◌, ◌==◌, pos}
use Rattle.std.specs.Prelude.{slice_get, encode_utf8, find, nat_eq, nat_lt, IfSome, All}
use Rattle.std.specs.Char.{IsScalar, len_utf8, is_ascii_alphanumeric}
use Rattle.std.specs.Option.{option_map_or}
use Rattle.std.specs.List.{list_all, starts_with}
use Rattle.std.specs.Str.{is_utf8, chars, all_scalars, encode_utf8_all, continuation_len}
use Rattle.std.proofs.Math.Seq.{take-add}
use Rattle.std.proofs.lemmas.Bool.{and_parts, and_from, or_cases, or_left, or_right, cases_lt, lt-ltb, true≢false}
use Rattle.std.proofs.lemmas.List.{take-append-drop, drop_at, take_at, length-append, length-drop}
use Rattle.std.proofs.lemmas.List.Elements.{All-from_recursion}
use Rattle.std.proofs.lemmas.Str.{IsUtf8-from_is_utf8, IsUtf8-encode, encodes-chars, scalars-chars, length-encode, len_utf8_bounds, chars-append, chars-encodes, chars-nil}
use Rattle.unicode_ident.proofs.IdentLemmas.{is_xid_continue-ascii, is_xid_start-is_xid_continue}
use Rattle.unicode_ident.specs.Ident.{is_xid_start, is_xid_continue}
use Rattle.gt_text.specs.Identifier.{starts_identifier_of, continues_identifier_of}
use Rattle.gt_text.specs.Integer.{integer_of}
use Rattle.gt_text.specs.WhiteSpace.{is_white_space_of}
use Rattle.gt_types.specs.Names.{is_name_character, IsName}
use Rattle.gt_expr.specs.declared.part.Part.{Part}
use Rattle.gt_expr.specs.declared.part.Part.TheVariants.{Integer, Name, Other}
use Rattle.gt_expr.specs.Characters.{front_of, character_at, width_at, begins_with, run_after}
use Rattle.gt_expr.specs.Parts.{integer_len, name_len, symbols, symbol_at, word_at, part_at, parts_after}
use Rattle.gt_sound.proofs.Lists.{IfSome-find}

-- ---- characters of identifiers

ascii_name : (c : ℕ) → ((c == 95) || (is_ascii_alphanumeric c || (c == 95))) ≡ true → is_name_character c ≡ true
ascii_name c h =
    elim (or_cases (c == 95) (is_ascii_alphanumeric c || (c == 95)) h) [
      | inl line ↦ or_left (is_ascii_alphanumeric c || (c == 95) || (c == 35)) (nat_lt 127 c) (or_left (is_ascii_alphanumeric c || (c == 95)) (c == 35) (or_right (is_ascii_alphanumeric c) (c == 95) line))
      | inr other ↦ or_left (is_ascii_alphanumeric c || (c == 95) || (c == 35)) (nat_lt 127 c) (or_left (is_ascii_alphanumeric c || (c == 95)) (c == 35) other)
    ]

pub continues_name : (c : ℕ) → continues_identifier_of c ≡ true → is_name_character c ≡ true
unfolding continues_identifier_of
continues_name c h =
    elim (cases_lt c 128) [
      | inl small ↦ ascii_name c (ap (λ b. (c == 95) || b) (sym (is_xid_continue-ascii c small)) ∙ h)
      | inr large ↦ or_right (is_ascii_alphanumeric c || (c == 95) || (c == 35)) (nat_lt 127 c) (lt-ltb 127 c (omega (arith, large)))
    ]

pub starts_continues : (c : ℕ) → starts_identifier_of c ≡ true → continues_identifier_of c ≡ true
unfolding starts_identifier_of continues_identifier_of
starts_continues c e = elim (or_cases (c == 95) (is_xid_start c) e) [
  | inl line ↦ or_left (c == 95) (is_xid_continue c) line
  | inr start ↦ or_right (c == 95) (is_xid_continue c) (is_xid_start-is_xid_continue c start)
]

pub all_names : (cs : List ℕ) → list_all continues_identifier_of cs ≡ true → list_all is_name_character cs ≡ true
all_names [] h = refl
all_names (c ∷ cs) h =
    let r = and_parts (continues_identifier_of c) (list_all continues_identifier_of cs) h in
    and_from (is_name_character c) (list_all is_name_character cs) (continues_name c r.0) (all_names cs r.1)

-- ---- the character at the front of a text

record Begins (text : List ℕ) (c : ℕ) : Type 0 where
  scalar : IsScalar c
  parts : text ≡ encode_utf8 c ++ drop (len_utf8 c) text

chosen_some : {A : Type 0} (b : Bool) (o : Option A) (y : A) → cond b o None ≡ Some y → (b ≡ true) × (o ≡ Some y)
chosen_some true o y e = (refl, e)
chosen_some false o y e = absurd cc

first_some : (cs : List ℕ) (c : ℕ) → slice_get cs 0 ≡ Some c → (more : List ℕ) × (cs ≡ c ∷ more)
first_some (x ∷ xs) c e = let same : x ≡ c = cc in (xs, rw same refl)
first_some [] c e = absurd cc

front_rest : (text : List ℕ) → (rest : List ℕ) × (text ≡ front_of text ++ rest)
front_rest [] = ([], refl)
front_rest (b ∷ bs) = (drop (1 + continuation_len b) (b ∷ bs), sym (take-append-drop (1 + continuation_len b) (b ∷ bs)))

begins_from : (text rest : List ℕ) (c : ℕ) → IsScalar c → text ≡ encode_utf8 c ++ rest → Begins text c
begins_from text rest c scalar e =
    let following : drop (len_utf8 c) text ≡ rest = ap (λ bytes. drop (len_utf8 c) bytes) e ∙ drop_at (encode_utf8 c) rest (len_utf8 c) (length-encode c) in
    record { scalar = scalar; parts = e ∙ ap (λ bytes. encode_utf8 c ++ bytes) (sym following) }

character_begins : (text : List ℕ) (c : ℕ) → character_at text ≡ Some c → Begins text c
unfolding character_at
character_begins text c e =
    let found = chosen_some (is_utf8 (front_of text)) (slice_get (chars (front_of text)) 0) c e in
    let utf8 = IsUtf8-from_is_utf8 (front_of text) found.0 in
    let cs = first_some (chars (front_of text)) c found.1 in
    let following = front_rest text in
    let scalars : all_scalars (c ∷ cs.0) ≡ true = ap all_scalars (sym cs.1) ∙ scalars-chars (front_of text) utf8 in
    let front : front_of text ≡ encode_utf8_all (c ∷ cs.0) = sym (encodes-chars (front_of text) utf8) ∙ ap encode_utf8_all cs.1 in
    begins_from text (encode_utf8_all cs.0 ++ following.0) c (and_parts _ _ scalars).0
    (following.1 ∙ ap (λ bytes. bytes ++ following.0) front ∙ append_assoc (encode_utf8 c) (encode_utf8_all cs.0) following.0)

-- the characters of a text that begins with one
begins_chars : (more : List ℕ) (c : ℕ) → IsScalar c → chars (encode_utf8 c ++ more) ≡ c ∷ chars more
begins_chars more c scalar =
    let one : chars (encode_utf8 c ++ []) ≡ c ∷ [] = chars-encodes (c ∷ []) (and_from _ _ scalar refl) in
    chars-append (encode_utf8 c) more (IsUtf8-encode c scalar)
    ∙ ap (λ cs. cs ++ chars more) (ap chars (sym (append-nil (encode_utf8 c))) ∙ one)

-- ---- characters that pass a test

run_after-drop : (n : ℕ) (p : ℕ → Bool) (text : List ℕ) → n ≤ length text → run_after n p text ≡ n + run_after 0 p (drop n text)
unfolding run_after
run_after-drop zero p text h = omega arith
run_after-drop (suc n) p [] h = absurd (omega arith)
run_after-drop (suc n) p (b ∷ bs) h = let more : run_after n p bs ≡ n + run_after 0 p (drop n bs) = run_after-drop n p bs (omega arith) in omega arith

begins_long : (text : List ℕ) (c : ℕ) → Begins text c → len_utf8 c ≤ length text
begins_long text c begins = omega (arith, ap length begins.parts, length-append (encode_utf8 c) (drop (len_utf8 c) text), length-encode c)

run_yes : (p : ℕ → Bool) (text : List ℕ) (c : ℕ) → character_at text ≡ Some c → p c ≡ true → run_after 0 p text ≡ len_utf8 c + run_after 0 p (drop (len_utf8 c) text)
unfolding run_after
run_yes p [] c e passes = let h : 1 ≤ 0 = omega (arith, begins_long [] c (character_begins [] c e), (len_utf8_bounds c).0) in absurd (omega arith)
run_yes p (b ∷ bs) c e passes =
    let long = begins_long (b ∷ bs) c (character_begins (b ∷ bs) c e) in
    let some = (len_utf8_bounds c).0 in
    let less : len_utf8 c ≡ suc (len_utf8 c - 1) = omega arith in
    let more = run_after-drop (len_utf8 c - 1) p bs (omega arith) in
    let following : drop (len_utf8 c) (b ∷ bs) ≡ drop (len_utf8 c - 1) bs = ap (λ n. drop n (b ∷ bs)) less in
    let here : run_after 0 p (b ∷ bs) ≡ 1 + run_after (len_utf8 c - 1) p bs = rw (e, passes) refl in
    rw (here, following) (omega arith)

run_no : (p : ℕ → Bool) (text : List ℕ) → begins_with p text ≡ false → run_after 0 p text ≡ 0
unfolding run_after
run_no p [] e = refl
run_no p (b ∷ bs) e = rw e refl

-- what is taken of a text of which the first character passes
run_chars : (p : ℕ → Bool) (text : List ℕ) (c : ℕ) → character_at text ≡ Some c → p c ≡ true
    → chars (take (run_after 0 p text) text) ≡ c ∷ chars (take (run_after 0 p (drop (len_utf8 c) text)) (drop (len_utf8 c) text))
run_chars p text c e passes =
    let begins = character_begins text c e in
    let rest : List ℕ = drop (len_utf8 c) text in
    let front : take (len_utf8 c) text ≡ encode_utf8 c = ap (λ bytes. take (len_utf8 c) bytes) begins.parts ∙ take_at (encode_utf8 c) rest (len_utf8 c) (length-encode c) in
    ap (λ n. chars (take n text)) (run_yes p text c e passes)
    ∙ ap chars (take-add (len_utf8 c) (run_after 0 p rest) text ∙ ap (λ bytes. bytes ++ take (run_after 0 p rest) rest) front)
    ∙ begins_chars (take (run_after 0 p rest) rest) c begins.scalar

run_none : (p : ℕ → Bool) (text : List ℕ) → begins_with p text ≡ false → list_all is_name_character (chars (take (run_after 0 p text) text)) ≡ true
run_none p text e = ap (λ n. list_all is_name_character (chars (take n text))) (run_no p text e) ∙ ap (list_all is_name_character) chars-nil

-- all characters of a run are those of names
abbrev RunsNames : List ℕ → Type 0
RunsNames text = list_all is_name_character (chars (take (run_after 0 continues_identifier_of text) text)) ≡ true

run_passes : (text : List ℕ) (c : ℕ) (b : Bool) → character_at text ≡ Some c → continues_identifier_of c ≡ b → ((rest : List ℕ) → length rest < length text → RunsNames rest) → RunsNames text
run_passes text c false e h more = run_none continues_identifier_of text (ap (λ o. option_map_or continues_identifier_of o false) e ∙ h)
run_passes text c true e h more =
    let rest : List ℕ = drop (len_utf8 c) text in
    let long = begins_long text c (character_begins text c e) in
    let some = (len_utf8_bounds c).0 in
    let size = length-drop (len_utf8 c) text in
    ap (list_all is_name_character) (run_chars continues_identifier_of text c e h)
    ∙ and_from (is_name_character c) (list_all is_name_character (chars (take (run_after 0 continues_identifier_of rest) rest))) (continues_name c h) (more rest (omega (arith, long, some, size)))

run_step : (text : List ℕ) (o : Option ℕ) → character_at text ≡ o → ((rest : List ℕ) → length rest < length text → RunsNames rest) → RunsNames text
run_step text None e more = run_none continues_identifier_of text (ap (λ o. option_map_or continues_identifier_of o false) e)
run_step text (Some c) e more = run_passes text c (continues_identifier_of c) e refl more

run_names : (fuel : ℕ) (text : List ℕ) → length text ≤ fuel → RunsNames text
run_names zero text l = run_step text (character_at text) refl (λ rest lt. absurd (omega (arith, lt, l)))
run_names (suc fuel) text l = run_step text (character_at text) refl (λ rest lt. run_names fuel rest (omega (arith, lt, l)))

name_from : (text : List ℕ) (o : Option ℕ) → character_at text ≡ o → option_map_or starts_identifier_of o false ≡ true → IsName (chars (take (run_after 0 continues_identifier_of text) text))
name_from text None e h = absurd (true≢false (sym h))
name_from text (Some c) e h =
    let goes = starts_continues c h in
    let rest : List ℕ = drop (len_utf8 c) text in
    subst IsName (sym (run_chars continues_identifier_of text c e goes))
    (and_from (is_name_character c) (list_all is_name_character (chars (take (run_after 0 continues_identifier_of rest) rest))) (continues_name c goes) (run_names (length rest) rest (omega arith)))

-- ---- parts

abbrev pub PartNamed : Part → Type 0
PartNamed (Name word) = IsName word
PartNamed p = Unit {0}

abbrev pub AreParts : List Part → Type 0
AreParts [] = Unit {0}
AreParts (p ∷ ps) = PartNamed p × AreParts ps

run_is_name : (text : List ℕ) (b : Bool) → begins_with starts_identifier_of text ≡ b → ((if b then run_after 0 continues_identifier_of text else 0) == 0) ≡ false
    → IsName (chars (take (if b then run_after 0 continues_identifier_of text else 0) text))
run_is_name text true e h = name_from text (character_at text) refl e
run_is_name text false e h = absurd (true≢false h)

name_len_is : (text : List ℕ) → (name_len text == 0) ≡ false → IsName (chars (take (name_len text) text))
unfolding name_len
name_len_is text h = run_is_name text (begins_with starts_identifier_of text) refl h

abbrev SymbolNamed : List ℕ × Part → Type 0
SymbolNamed s = PartNamed s.1

symbols_named : All SymbolNamed symbols
symbols_named = All-from_recursion SymbolNamed symbols (tt, (tt, (tt, (tt, (tt, (tt, (tt, (tt, (tt, (tt, (tt, (tt, (tt, (tt, (tt, (tt, (tt, (tt, (tt, (tt, tt))))))))))))))))))))

abbrev FirstNamed : Part × ℕ → Type 0
FirstNamed found = PartNamed found.0

symbol_named : (found : Option (List ℕ × Part)) (other : ℕ) → IfSome found SymbolNamed → FirstNamed (option_map_or (λ s. (s.1, length s.0)) found (Other, other))
symbol_named None other h = tt
symbol_named (Some s) other h = h

word_part : (text : List ℕ) (b : Bool) → (name_len text == 0) ≡ b → FirstNamed (if b then symbol_at text else (Name (chars (take (name_len text) text)), name_len text))
unfolding symbol_at
word_part text true e =
    symbol_named (find (λ s. starts_with nat_eq text s.0) symbols) (width_at text) (IfSome-find SymbolNamed (λ s. starts_with nat_eq text s.0) symbols symbols_named)
word_part text false e = name_len_is text e

word_named : (text : List ℕ) → PartNamed (word_at text).0
unfolding word_at
word_named text = word_part text (name_len text == 0) refl

integer_part : (text : List ℕ) (o : Option ℕ) → FirstNamed (option_map_or (λ value. (Integer (pos value), integer_len text)) o (word_at text))
integer_part text None = word_named text
integer_part text (Some value) = tt

part_named : (text : List ℕ) → PartNamed (part_at text).0
unfolding part_at
part_named text = integer_part text (integer_of (take (integer_len text) text))

either_parts : (b : Bool) (xs ys : List Part) → AreParts xs → AreParts ys → AreParts (if b then xs else ys)
either_parts true xs ys h k = h
either_parts false xs ys h k = k

pub parts_named : (n : ℕ) (text : List ℕ) → AreParts (parts_after n text)
unfolding parts_after
parts_named n [] = tt
parts_named (suc n) (b ∷ bs) = parts_named n bs
parts_named zero (b ∷ bs) =
    either_parts (is_white_space_of b) (parts_after zero bs) ((part_at (b ∷ bs)).0 ∷ parts_after ((part_at (b ∷ bs)).1 - 1) bs) (parts_named zero bs)
    (part_named (b ∷ bs), parts_named ((part_at (b ∷ bs)).1 - 1) bs)
