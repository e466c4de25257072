-- The character at the front of a text, and characters that pass a test.
use Rattle.std.proofs.Common.{◌≡◌, ℕ, zero, suc, ◌+◌, ◌-◌, ◌<◌, ◌≤◌, Bool, true, false, cond, List, [], ◌∷◌, ◌++◌, length, take, drop, Option, Some, None, refl, sym, ap, ◌∙◌, append_assoc, arith}
use Rattle.std.specs.Prelude.{slice_get, encode_utf8}
use Rattle.std.specs.Char.{IsScalar, len_utf8}
use Rattle.std.specs.Option.{option_map_or}
use Rattle.std.specs.Str.{IsUtf8, is_utf8, chars, all_scalars, encode_utf8_all, continuation_len}
use Rattle.std.proofs.Math.Seq.{take-add}
use Rattle.std.proofs.lemmas.Bool.{false_from_ne_true, and_parts}
use Rattle.std.proofs.lemmas.List.{take-append-drop, drop_at, take_at, drop-drop, length-append, length-drop, take_rest}
use Rattle.std.proofs.lemmas.Str.{IsUtf8-from_is_utf8, is_utf8-from_IsUtf8, IsUtf8-append, IsUtf8-encode, encodes-chars, scalars-chars, length-encode, len_utf8_bounds}
use Rattle.gt_expr.specs.Characters.{front_of, character_at, width_at, begins_with, run_after}

pub character_at-utf8 : (text front : List ℕ) → front ≡ front_of text → IsUtf8 (front_of text) → slice_get (chars front) 0 ≡ character_at text
unfolding character_at
character_at-utf8 text front e h = rw (is_utf8-from_IsUtf8 (front_of text) h, e) refl

pub character_at-other : (text : List ℕ) → (IsUtf8 (front_of text) → ⊥) → character_at text ≡ None
unfolding character_at
character_at-other text h = rw (false_from_ne_true (is_utf8 (front_of text)) (λ e. h (IsUtf8-from_is_utf8 (front_of text) e))) refl

-- ---- the text after the character

-- the text begins with the character
pub record Begins (text : List ℕ) (c : ℕ) : Type 0 where
  pub scalar : IsScalar c
  pub parts : text ≡ encode_utf8 c ++ drop (len_utf8 c) text

chosen_some : {A : Type 0} (b : Bool) (o : Option A) (y : A) → cond b o None ≡ Some y → (b ≡ true) × (o ≡ Some y)
chosen_some true o y e = (refl, e)
chosen_some false o y e = absurd cc

first_some : (cs : List ℕ) (c : ℕ) → slice_get cs 0 ≡ Some c → (more : List ℕ) × (cs ≡ c ∷ more)
first_some (x ∷ xs) c e = let same : x ≡ c = cc in (xs, rw same refl)
first_some [] c e = absurd cc

front_rest : (text : List ℕ) → (rest : List ℕ) × (text ≡ front_of text ++ rest)
front_rest [] = ([], refl)
front_rest (b ∷ bs) = (drop (1 + continuation_len b) (b ∷ bs), sym (take-append-drop (1 + continuation_len b) (b ∷ bs)))

begins_from : (text rest : List ℕ) (c : ℕ) → IsScalar c → text ≡ encode_utf8 c ++ rest → Begins text c
begins_from text rest c scalar e =
    let following : drop (len_utf8 c) text ≡ rest = ap (λ bytes. drop (len_utf8 c) bytes) e ∙ drop_at (encode_utf8 c) rest (len_utf8 c) (length-encode c) in
    record { scalar = scalar; parts = e ∙ ap (λ bytes. encode_utf8 c ++ bytes) (sym following) }

pub character_at-some : (text : List ℕ) (c : ℕ) → character_at text ≡ Some c → Begins text c
unfolding character_at
character_at-some text c e =
    let found = chosen_some (is_utf8 (front_of text)) (slice_get (chars (front_of text)) 0) c e in
    let utf8 = IsUtf8-from_is_utf8 (front_of text) found.0 in
    let cs = first_some (chars (front_of text)) c found.1 in
    let following = front_rest text in
    let scalars : all_scalars (c ∷ cs.0) ≡ true = ap all_scalars (sym cs.1) ∙ scalars-chars (front_of text) utf8 in
    let front : front_of text ≡ encode_utf8_all (c ∷ cs.0) = sym (encodes-chars (front_of text) utf8) ∙ ap encode_utf8_all cs.1 in
    begins_from text (encode_utf8_all cs.0 ++ following.0) c (and_parts _ _ scalars).0
    (following.1 ∙ ap (λ bytes. bytes ++ following.0) front ∙ append_assoc (encode_utf8 c) (encode_utf8_all cs.0) following.0)

pub Begins-len : (text : List ℕ) (c : ℕ) → Begins text c → len_utf8 c ≤ length text
Begins-len text c begins = omega (arith, ap length begins.parts, length-append (encode_utf8 c) (drop (len_utf8 c) text), length-encode c)

pub width_at-within : (text : List ℕ) → 0 < length text → width_at text ≤ length text
width_at-within text some = go (character_at text) refl
  where
    go : (o : Option ℕ) → character_at text ≡ o → option_map_or len_utf8 o 1 ≤ length text
    go None e = omega arith
    go (Some c) e = Begins-len text c (character_at-some text c e)

pub width_at-some : (text : List ℕ) → 0 < width_at text
width_at-some text = go (character_at text)
  where
    go : (o : Option ℕ) → 0 < option_map_or len_utf8 o 1
    go None = omega arith
    go (Some c) = omega (arith, (len_utf8_bounds c).0)

pub Begins-take : (text : List ℕ) (c : ℕ) → Begins text c → take (len_utf8 c) text ≡ encode_utf8 c
Begins-take text c begins = ap (λ bytes. take (len_utf8 c) bytes) begins.parts ∙ take_at (encode_utf8 c) (drop (len_utf8 c) text) (len_utf8 c) (length-encode c)

-- ---- characters that pass a test

run_after-drop : (n : ℕ) (p : ℕ → Bool) (text : List ℕ) → n ≤ length text → run_after n p text ≡ n + run_after 0 p (drop n text)
unfolding run_after
run_after-drop zero p text h = omega arith
run_after-drop (suc n) p [] h = absurd (omega arith)
run_after-drop (suc n) p (b ∷ bs) h = let more : run_after n p bs ≡ n + run_after 0 p (drop n bs) = run_after-drop n p bs (omega arith) in omega arith

pub run_after-yes : (p : ℕ → Bool) (text : List ℕ) (c : ℕ) → character_at text ≡ Some c → p c ≡ true → run_after 0 p text ≡ len_utf8 c + run_after 0 p (drop (len_utf8 c) text)
unfolding run_after
run_after-yes p [] c e passes = let h : 1 ≤ 0 = omega (arith, Begins-len [] c (character_at-some [] c e), (len_utf8_bounds c).0) in absurd (omega arith)
run_after-yes p (b ∷ bs) c e passes =
    let long = Begins-len (b ∷ bs) c (character_at-some (b ∷ bs) c e) in
    let some = (len_utf8_bounds c).0 in
    let less : len_utf8 c ≡ suc (len_utf8 c - 1) = omega arith in
    let more = run_after-drop (len_utf8 c - 1) p bs (omega arith) in
    let following : drop (len_utf8 c) (b ∷ bs) ≡ drop (len_utf8 c - 1) bs = ap (λ n. drop n (b ∷ bs)) less in
    let here : run_after 0 p (b ∷ bs) ≡ 1 + run_after (len_utf8 c - 1) p bs = rw (e, passes) refl in
    rw (here, following) (omega arith)

pub run_after-no : (p : ℕ → Bool) (text : List ℕ) → begins_with p text ≡ false → run_after 0 p text ≡ 0
unfolding run_after
run_after-no p [] e = refl
run_after-no p (b ∷ bs) e = rw e refl

-- ---- one character more, after len bytes

module _ (text : List ℕ) (len : ℕ) where
  found_after : (o : Option ℕ) → o ≡ character_at (take (length text - len) (drop len text)) → character_at (drop len text) ≡ o
  found_after o e = ap character_at (sym (take_rest text len)) ∙ sym e

  pub more_within : (c : ℕ) → len ≤ length text → Some c ≡ character_at (take (length text - len) (drop len text)) → len + len_utf8 c ≤ length text
  more_within c within e =
      omega (arith, Begins-len (drop len text) c (character_at-some (drop len text) c (found_after (Some c) e)), length-drop len text)

  pub more_utf8 : (c : ℕ) → Some c ≡ character_at (take (length text - len) (drop len text)) → IsUtf8 (take len text) → IsUtf8 (take (len + len_utf8 c) text)
  more_utf8 c e front =
      let begins = character_at-some (drop len text) c (found_after (Some c) e) in
      rw (take-add len (len_utf8 c) text, Begins-take (drop len text) c begins) (IsUtf8-append (take len text) (encode_utf8 c) front (IsUtf8-encode c begins.scalar))

  pub more_run : (c n : ℕ) (p : ℕ → Bool) → Some c ≡ character_at (take (length text - len) (drop len text)) → true ≡ p c → len + run_after 0 p (drop len text) ≡ n
      → len + len_utf8 c + run_after 0 p (drop (len + len_utf8 c) text) ≡ n
  more_run c n p e passes so_far =
      let further : drop (len_utf8 c) (drop len text) ≡ drop (len + len_utf8 c) text = drop-drop (len_utf8 c) len text in
      let step = run_after-yes p (drop len text) c (found_after (Some c) e) (sym passes) in
      let here : run_after 0 p (drop len text) ≡ len_utf8 c + run_after 0 p (drop (len + len_utf8 c) text) = rw (step, further) refl in
      omega arith

  pub run_ends : (o : Option ℕ) (n : ℕ) (p : ℕ → Bool) → o ≡ character_at (take (length text - len) (drop len text)) → option_map_or p o false ≡ false
      → len + run_after 0 p (drop len text) ≡ n → len ≡ n
  run_ends o n p e fails so_far =
      let none : begins_with p (drop len text) ≡ false = rw (found_after o e) fails in
      omega (arith, run_after-no p (drop len text) none)
