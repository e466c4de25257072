-- The words of a line are those that are spelled with blanks between them.
use Rattle.std.proofs.Common.{◌≡◌, ◌≢◌, ℕ, zero, suc, ◌≤◌, Bool, true, false, not, cond, eqb, List, [], ◌∷◌, ◌++◌, length, take, drop, Option, Some, None, refl, sym, ap, subst, ◌∙◌, append_assoc, arith, inl, inr}
use Rattle.std.specs.List.{list_all}
use Rattle.std.proofs.lemmas.Bool.{eqb-true, eqb-false, ne_eqb, and_parts, not-true}
use Rattle.std.proofs.lemmas.Option.{cond_some, same_Some}
use Rattle.std.proofs.lemmas.List.{take-append-drop, take_at, drop_at, nil_from_length}
use Rattle.gt_split.specs.declared.pieces.Piece.{Piece}
use Rattle.gt_split.specs.declared.pieces.Piece.TheVariants.{Plain, Quoted}
use Rattle.gt_split.specs.Texts.{◌>>=◌, is_blank, escape_of, ends_word}
use Rattle.gt_split.specs.Cutting.{without_blanks, quoted_at, quoted_word_at, plain_len, word_at, words_within, words_of}
use Rattle.gt_script.specs.Language.{AreQuoted, no_bytes, byte_itself, escaped, IsWord, is_plain, is_quoted, AreWords, no_words, blank_first, word_first}
use Rattle.gt_split.proofs.Options.{bind_some, chosen}
use Rattle.gt_split.proofs.Cuts.{others, blanks_once, without_blanks-shorter, word_at-shorter, words_of-blanks, words_of-step}

-- ---- what stands between quotes

abbrev QuotedTaken : Bool → List ℕ → List ℕ × List ℕ → Type 0
QuotedTaken false text r = (inside : List ℕ) × AreQuoted inside r.0 × (text ≡ inside ++ 34 ∷ r.1)
QuotedTaken true text r = (inside : List ℕ) × AreQuoted (92 ∷ inside) r.0 × (text ≡ inside ++ 34 ∷ r.1)

quoted_taken : (escape : Bool) (text : List ℕ) (r : List ℕ × List ℕ) → quoted_at escape text ≡ Some r → QuotedTaken escape text r
unfolding quoted_at
quoted_taken true [] r e = absurd cc
quoted_taken false [] r e = absurd cc
quoted_taken true (c ∷ cs) r e =
    let d = bind_some (escape_of c) (λ meant. quoted_at false cs >>= λ more. Some (meant ∷ more.0, more.1)) r e in
    let more = bind_some (quoted_at false cs) (λ more. Some (d.0 ∷ more.0, more.1)) r d.2 in
    let inner = quoted_taken false cs more.0 more.1 in
    let whole : QuotedTaken true (c ∷ cs) (d.0 ∷ more.0.0, more.0.1) = (c ∷ inner.0, escaped c d.0 d.1 inner.1, ap (λ (l : List ℕ). c ∷ l) inner.2) in
    subst (QuotedTaken true (c ∷ cs)) (same_Some (d.0 ∷ more.0.0, more.0.1) r more.2) whole
quoted_taken false (c ∷ cs) r e =
    elim (chosen (eqb c 34) (Some ([], cs)) (cond (eqb c 92) (quoted_at true cs) (quoted_at false cs >>= λ more. Some (c ∷ more.0, more.1))) r e) [
      | inl g ↦
          let is : c ≡ 34 = eqb-true c 34 g.0 in
          let whole : QuotedTaken false (c ∷ cs) ([], cs) = ([], no_bytes, ap (λ b. b ∷ cs) is) in
          subst (QuotedTaken false (c ∷ cs)) (same_Some ([], cs) r g.1) whole
      | inr g ↦
          elim (chosen (eqb c 92) (quoted_at true cs) (quoted_at false cs >>= λ more. Some (c ∷ more.0, more.1)) r g.1) [
            | inl h ↦
                let is : c ≡ 92 = eqb-true c 92 h.0 in
                let inner = quoted_taken true cs r h.1 in
                (92 ∷ inner.0, inner.1, ap (λ (l : List ℕ). c ∷ l) inner.2 ∙ ap (λ b. b ∷ (inner.0 ++ 34 ∷ r.1)) is)
            | inr h ↦
                let more = bind_some (quoted_at false cs) (λ more. Some (c ∷ more.0, more.1)) r h.1 in
                let inner = quoted_taken false cs more.0 more.1 in
                let whole : QuotedTaken false (c ∷ cs) (c ∷ more.0.0, more.0.1) = (c ∷ inner.0, byte_itself c (eqb-false c 34 g.0) (eqb-false c 92 h.0) inner.1, ap (λ (l : List ℕ). c ∷ l) inner.2) in
                subst (QuotedTaken false (c ∷ cs)) (same_Some (c ∷ more.0.0, more.0.1) r more.2) whole
          ]
    ]

quoted_again : {inside bytes : List ℕ} (rest : List ℕ) → AreQuoted inside bytes → quoted_at false (inside ++ 34 ∷ rest) ≡ Some (bytes, rest)
unfolding quoted_at
quoted_again rest no_bytes = refl
quoted_again rest (byte_itself c other_quote other_slash more) = rw (ne_eqb c 34 other_quote, ne_eqb c 92 other_slash, quoted_again rest more) refl
quoted_again rest (escaped letter meant is more) = rw (is, quoted_again rest more) refl

-- ---- plain words

abbrev no_blank : ℕ → Bool
no_blank c = not (is_blank c)

plain_here : (c : ℕ) (cs : List ℕ) (b : Bool) → is_blank c ≡ b → list_all no_blank (take (plain_len cs) cs) ≡ true → list_all no_blank (take (plain_len (c ∷ cs)) (c ∷ cs)) ≡ true
plain_here c cs true e h =
    let here : plain_len (c ∷ cs) ≡ 0 = rw e refl in rw here refl
plain_here c cs false e h =
    let next : plain_len (c ∷ cs) ≡ suc (plain_len cs) = rw e (omega arith) in
    rw (next, e) h

plain_front : (cs : List ℕ) → list_all no_blank (take (plain_len cs) cs) ≡ true
plain_front [] = refl
plain_front (c ∷ cs) = plain_here c cs (is_blank c) refl (plain_front cs)

ends_here : (c : ℕ) (cs : List ℕ) (b : Bool) → is_blank c ≡ b → ends_word (drop (plain_len cs) cs) ≡ true → ends_word (drop (plain_len (c ∷ cs)) (c ∷ cs)) ≡ true
ends_here c cs true e h =
    let here : plain_len (c ∷ cs) ≡ 0 = rw e refl in rw here e
ends_here c cs false e h =
    let next : plain_len (c ∷ cs) ≡ suc (plain_len cs) = rw e (omega arith) in
    rw next h

plain_ends : (cs : List ℕ) → ends_word (drop (plain_len cs) cs) ≡ true
plain_ends [] = refl
plain_ends (c ∷ cs) = ends_here c cs (is_blank c) refl (plain_ends cs)

plain_again : (cs rest : List ℕ) → list_all no_blank cs ≡ true → ends_word rest ≡ true → plain_len (cs ++ rest) ≡ length cs
plain_again [] [] h e = refl
plain_again [] (d ∷ rest) h e = rw e refl
plain_again (c ∷ cs) rest h e =
    let both = and_parts (no_blank c) (list_all no_blank cs) h in
    rw (not-true (is_blank c) both.0, plain_again cs rest both.1 e) (omega arith)

-- ---- one word

begins_plain : (c : ℕ) (cs : List ℕ) (b : Bool) → is_blank c ≡ b → without_blanks (c ∷ cs) ≡ c ∷ cs → b ≡ false
unfolding without_blanks
begins_plain c cs true e h =
    let next : without_blanks cs ≡ c ∷ cs = sym (rw e refl) ∙ h in
    absurd (omega (arith, ap length next, without_blanks-shorter cs))
begins_plain c cs false e h = refl

abbrev WordTaken : List ℕ → Piece × List ℕ → Type 0
WordTaken text r = (front : List ℕ) × IsWord front r.0 × (text ≡ front ++ r.1) × (ends_word r.1 ≡ true)

word_taken : (text : List ℕ) (r : Piece × List ℕ) → without_blanks text ≡ text → word_at text ≡ Some r → WordTaken text r
unfolding word_at quoted_word_at
word_taken [] r begins e = absurd cc
word_taken (c ∷ cs) r begins e =
    elim (chosen (eqb c 34) (quoted_word_at cs) (Some (Plain (c ∷ take (plain_len cs) cs), drop (plain_len cs) cs)) r e) [
      | inl g ↦
          let q = bind_some (quoted_at false cs) (λ quoted. cond (ends_word quoted.1) (Some (Quoted quoted.0, quoted.1)) None) r g.1 in
          let inner = quoted_taken false cs q.0 q.1 in
          let k = cond_some (ends_word q.0.1) (Quoted q.0.0, q.0.1) r q.2 in
          let text : c ∷ cs ≡ (34 ∷ inner.0 ++ 34 ∷ []) ++ q.0.1 = ap (λ b. b ∷ cs) (eqb-true c 34 g.0) ∙ ap (λ (l : List ℕ). 34 ∷ l) (inner.2 ∙ sym (append_assoc inner.0 (34 ∷ []) q.0.1)) in
          let whole : WordTaken (c ∷ cs) (Quoted q.0.0, q.0.1) = (34 ∷ inner.0 ++ 34 ∷ [], is_quoted inner.0 q.0.0 inner.1, text, k.0) in
          subst (WordTaken (c ∷ cs)) k.1 whole
      | inr g ↦
          let no : is_blank c ≡ false = begins_plain c cs (is_blank c) refl begins in
          let all : list_all no_blank (c ∷ take (plain_len cs) cs) ≡ true = rw (no, plain_front cs) refl in
          let text : c ∷ cs ≡ (c ∷ take (plain_len cs) cs) ++ drop (plain_len cs) cs = ap (λ (l : List ℕ). c ∷ l) (sym (take-append-drop (plain_len cs) cs)) in
          let whole : WordTaken (c ∷ cs) (Plain (c ∷ take (plain_len cs) cs), drop (plain_len cs) cs) =
          (c ∷ take (plain_len cs) cs, is_plain (c ∷ take (plain_len cs) cs) (eqb-false c 34 g.0, all), text, plain_ends cs) in
          subst (WordTaken (c ∷ cs)) (same_Some (Plain (c ∷ take (plain_len cs) cs), drop (plain_len cs) cs) r g.1) whole
    ]

word_again : {front : List ℕ} {piece : Piece} (rest : List ℕ) → IsWord front piece → ends_word rest ≡ true → word_at (front ++ rest) ≡ Some (piece, rest)
unfolding word_at quoted_word_at
word_again rest (is_plain [] h) ends = absurd h
word_again rest (is_plain (c ∷ cs) h) ends =
    let both = and_parts (no_blank c) (list_all no_blank cs) h.1 in
    rw (ne_eqb c 34 h.0, plain_again cs rest both.1 ends, take_at cs rest (length cs) refl, drop_at cs rest (length cs) refl) refl
word_again rest (is_quoted inside bytes h) ends = rw (append_assoc inside (34 ∷ []) rest, quoted_again rest h, ends) refl

begins_again : {front : List ℕ} {piece : Piece} (rest : List ℕ) → IsWord front piece → without_blanks (front ++ rest) ≡ front ++ rest
unfolding without_blanks is_blank
begins_again rest (is_plain [] h) = absurd h
begins_again rest (is_plain (c ∷ cs) h) =
    let both = and_parts (no_blank c) (list_all no_blank cs) h.1 in
    let other : is_blank c ≡ false = not-true (is_blank c) both.0 in
    rw other refl
begins_again rest (is_quoted inside bytes h) = refl

some_again : {front : List ℕ} {piece : Piece} (rest : List ℕ) → IsWord front piece → length (front ++ rest) ≢ 0
some_again rest (is_plain [] h) = absurd h
some_again rest (is_plain (c ∷ cs) h) = omega arith
some_again rest (is_quoted inside bytes h) = omega arith

-- ---- all words

blanks_here : (c : ℕ) (cs : List ℕ) (words : List Piece) (b : Bool) → is_blank c ≡ b → (AreWords (without_blanks cs) words → AreWords cs words) → AreWords (without_blanks (c ∷ cs)) words → AreWords (c ∷ cs) words
unfolding without_blanks
blanks_here c cs words true e h spelled =
    let next : without_blanks (c ∷ cs) ≡ without_blanks cs = rw e refl in
    blank_first c e (h (subst (λ (t : List ℕ). AreWords t words) next spelled))
blanks_here c cs words false e h spelled =
    let here : without_blanks (c ∷ cs) ≡ c ∷ cs = rw e refl in
    subst (λ (t : List ℕ). AreWords t words) here spelled

blanks_words : (text : List ℕ) (words : List Piece) → AreWords (without_blanks text) words → AreWords text words
unfolding without_blanks
blanks_words [] words spelled = spelled
blanks_words (c ∷ cs) words spelled = blanks_here c cs words (is_blank c) refl (blanks_words cs words) spelled

words_within_taken : (n : ℕ) (text : List ℕ) (words : List Piece) → length text ≤ n → words_within n text ≡ Some words → AreWords text words
unfolding words_within
words_within_taken zero [] words h e = subst (λ (ws : List Piece). AreWords [] ws) (same_Some [] words e) no_words
words_within_taken zero (c ∷ cs) words h e = absurd (omega arith)
words_within_taken (suc n) text words h e =
    elim (chosen (eqb (length (without_blanks text)) 0) (Some []) (others (word_at (without_blanks text)) (words_within n)) words e) [
      | inl g ↦
          let none : without_blanks text ≡ [] = nil_from_length (without_blanks text) (eqb-true (length (without_blanks text)) 0 g.0) in
          let here : AreWords (without_blanks text) [] = subst (λ (t : List ℕ). AreWords t []) (sym none) no_words in
          blanks_words text words (subst (λ (ws : List Piece). AreWords (without_blanks text) ws) (same_Some [] words g.1) here)
      | inr g ↦
          let w = bind_some (word_at (without_blanks text)) (λ word. words_within n word.1 >>= λ more. Some (word.0 ∷ more)) words g.1 in
          let more = bind_some (words_within n w.0.1) (λ more. Some (w.0.0 ∷ more)) words w.2 in
          let taken = word_taken (without_blanks text) w.0 (blanks_once text) w.1 in
          let less : length w.0.1 ≤ n = omega (arith, h, word_at-shorter (without_blanks text) w.0 w.1, without_blanks-shorter text) in
          let following = words_within_taken n w.0.1 more.0 less more.1 in
          let here : AreWords (without_blanks text) (w.0.0 ∷ more.0) = subst (λ (t : List ℕ). AreWords t (w.0.0 ∷ more.0)) (sym taken.2) (word_first taken.0 w.0.0 taken.1 taken.3 following) in
          blanks_words text words (subst (λ (ws : List Piece). AreWords (without_blanks text) ws) (same_Some (w.0.0 ∷ more.0) words more.2) here)
    ]

pub words_taken : (text : List ℕ) (words : List Piece) → words_of text ≡ Some words → AreWords text words
words_taken text words e = words_within_taken (length text) text words (omega arith) e

skip_blank : (c : ℕ) (rest : List ℕ) → is_blank c ≡ true → words_of (c ∷ rest) ≡ words_of rest
unfolding without_blanks
skip_blank c rest e =
    let next : without_blanks (c ∷ rest) ≡ without_blanks rest = rw e refl in
    sym (words_of-blanks (c ∷ rest)) ∙ ap words_of next ∙ words_of-blanks rest

pub words_again : {text : List ℕ} {words : List Piece} → AreWords text words → words_of text ≡ Some words
unfolding words_within
words_again no_words = refl
words_again (blank_first {rest} c e more) = skip_blank c rest e ∙ words_again more
words_again (word_first {rest} front piece is ends more) =
    words_of-step (front ++ rest) (begins_again rest is) (some_again rest is) ∙ ap (λ (o : Option (Piece × List ℕ)). others o words_of) (word_again rest is ends) ∙ rw (words_again more) refl
