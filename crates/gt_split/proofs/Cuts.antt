-- The words of a line, from left to right.
use Rattle.std.proofs.Common.{◌≡◌, ◌≢◌, ℕ, zero, suc, ◌+◌, ◌≤◌, ◌<◌, Bool, true, false, cond, eqb, List, [], ◌∷◌, ◌++◌, length, take, drop, Option, Some, None, refl, sym, ap, ◌∙◌, append_assoc, arith, inl, inr}
use Rattle.std.specs.List.{prefix_len}
use Rattle.std.proofs.lemmas.Bool.Decides.{nat_tests}
use Rattle.std.proofs.lemmas.Option.{cond_some, same_Some}
use Rattle.std.proofs.lemmas.List.{append-nil, length-drop}
use Rattle.gt_split.specs.declared.pieces.Piece.{Piece}
use Rattle.gt_split.specs.declared.pieces.Piece.TheVariants.{Plain, Quoted}
use Rattle.gt_split.specs.Texts.{◌>>=◌, following, is_blank, escape_of, ends_word}
use Rattle.gt_split.specs.Cutting.{without_blanks, quoted_at, quoted_word_at, plain_len, word_at, words_within, words_of}
use Rattle.gt_split.proofs.Options.{bind_some, chosen}

-- ---- blanks

blanks_here : (c : ℕ) (cs : List ℕ) (b : Bool) → is_blank c ≡ b → without_blanks (without_blanks cs) ≡ without_blanks cs → without_blanks (without_blanks (c ∷ cs)) ≡ without_blanks (c ∷ cs)
unfolding without_blanks
blanks_here c cs true e h =
    let next : without_blanks (c ∷ cs) ≡ without_blanks cs = rw e refl in
    ap without_blanks next ∙ h ∙ sym next
blanks_here c cs false e h =
    let here : without_blanks (c ∷ cs) ≡ c ∷ cs = rw e refl in
    ap without_blanks here

pub blanks_once : (text : List ℕ) → without_blanks (without_blanks text) ≡ without_blanks text
unfolding without_blanks
blanks_once [] = refl
blanks_once (c ∷ cs) = blanks_here c cs (is_blank c) refl (blanks_once cs)

shorter_here : (c : ℕ) (cs : List ℕ) (b : Bool) → is_blank c ≡ b → length (without_blanks cs) ≤ length cs → length (without_blanks (c ∷ cs)) ≤ length (c ∷ cs)
unfolding without_blanks
shorter_here c cs true e h =
    let next : without_blanks (c ∷ cs) ≡ without_blanks cs = rw e refl in
    omega (arith, ap length next)
shorter_here c cs false e h =
    let here : without_blanks (c ∷ cs) ≡ c ∷ cs = rw e refl in
    omega (arith, ap length here)

pub without_blanks-shorter : (text : List ℕ) → length (without_blanks text) ≤ length text
unfolding without_blanks
without_blanks-shorter [] = omega arith
without_blanks-shorter (c ∷ cs) = shorter_here c cs (is_blank c) refl (without_blanks-shorter cs)

past_here : (c : ℕ) (cs : List ℕ) (b : Bool) → is_blank c ≡ b → drop (prefix_len is_blank cs) cs ≡ without_blanks cs → drop (prefix_len is_blank (c ∷ cs)) (c ∷ cs) ≡ without_blanks (c ∷ cs)
unfolding without_blanks
past_here c cs true e h =
    let next : prefix_len is_blank (c ∷ cs) ≡ suc (prefix_len is_blank cs) = rw e (omega arith) in
    rw (next, e) h
past_here c cs false e h =
    let here : prefix_len is_blank (c ∷ cs) ≡ 0 = rw e refl in
    rw (here, e) refl

past_blanks : (text : List ℕ) → drop (prefix_len is_blank text) text ≡ without_blanks text
unfolding without_blanks
past_blanks [] = refl
past_blanks (c ∷ cs) = past_here c cs (is_blank c) refl (past_blanks cs)

-- what stands after the blanks at the front
pub after_blanks : (text : List ℕ) (n : ℕ) → n ≡ prefix_len is_blank text → drop n text ≡ without_blanks text
after_blanks text n at = ap (λ k. drop k text) at ∙ past_blanks text

-- ---- a word takes a byte at least

quoted_within : (escaped : Bool) (text : List ℕ) (r : List ℕ × List ℕ) → quoted_at escaped text ≡ Some r → length r.1 < length text
unfolding quoted_at
quoted_within true [] r e = absurd cc
quoted_within false [] r e = absurd cc
quoted_within true (c ∷ cs) r e =
    let d = bind_some (escape_of c) (λ meant. quoted_at false cs >>= λ more. Some (meant ∷ more.0, more.1)) r e in
    let more = bind_some (quoted_at false cs) (λ more. Some (d.0 ∷ more.0, more.1)) r d.2 in
    let same : more.0.1 ≡ r.1 = ap (λ (p : List ℕ × List ℕ). p.1) (same_Some (d.0 ∷ more.0.0, more.0.1) r more.2) in
    omega (arith, quoted_within false cs more.0 more.1, ap length same)
quoted_within false (c ∷ cs) r e =
    elim (chosen (eqb c 34) (Some ([], cs)) (cond (eqb c 92) (quoted_at true cs) (quoted_at false cs >>= λ more. Some (c ∷ more.0, more.1))) r e) [
      | inl g ↦
          let same : cs ≡ r.1 = ap (λ (p : List ℕ × List ℕ). p.1) (same_Some ([], cs) r g.1) in
          omega (arith, ap length same)
      | inr g ↦
          elim (chosen (eqb c 92) (quoted_at true cs) (quoted_at false cs >>= λ more. Some (c ∷ more.0, more.1)) r g.1) [
            | inl h ↦ omega (arith, quoted_within true cs r h.1)
            | inr h ↦
                let more = bind_some (quoted_at false cs) (λ more. Some (c ∷ more.0, more.1)) r h.1 in
                let same : more.0.1 ≡ r.1 = ap (λ (p : List ℕ × List ℕ). p.1) (same_Some (c ∷ more.0.0, more.0.1) r more.2) in
                omega (arith, quoted_within false cs more.0 more.1, ap length same)
          ]
    ]

quoted_word_within : (text : List ℕ) (r : Piece × List ℕ) → quoted_word_at text ≡ Some r → length r.1 < length text
unfolding quoted_word_at
quoted_word_within text r e =
    let q = bind_some (quoted_at false text) (λ quoted. cond (ends_word quoted.1) (Some (Quoted quoted.0, quoted.1)) None) r e in
    let same : q.0.1 ≡ r.1 = ap (λ (p : Piece × List ℕ). p.1) (cond_some (ends_word q.0.1) (Quoted q.0.0, q.0.1) r q.2).1 in
    omega (arith, quoted_within false text q.0 q.1, ap length same)

pub word_at-shorter : (text : List ℕ) (r : Piece × List ℕ) → word_at text ≡ Some r → length r.1 < length text
unfolding word_at
word_at-shorter [] r e = absurd cc
word_at-shorter (c ∷ cs) r e =
    elim (chosen (eqb c 34) (quoted_word_at cs) (Some (Plain (c ∷ take (plain_len cs) cs), drop (plain_len cs) cs)) r e) [
      | inl g ↦ omega (arith, quoted_word_within cs r g.1)
      | inr g ↦
          let same : drop (plain_len cs) cs ≡ r.1 = ap (λ (p : Piece × List ℕ). p.1) (same_Some (Plain (c ∷ take (plain_len cs) cs), drop (plain_len cs) cs) r g.1) in
          omega (arith, length-drop (plain_len cs) cs, ap length same)
    ]

-- whether a text begins with a quote decides what its first word is
first_byte : (c : ℕ) (cs : List ℕ) (b : Bool) → eqb c 34 ≡ b → following (34 ∷ []) (c ∷ cs) ≡ cond b (Some cs) None
unfolding following
first_byte c cs true e = rw e refl
first_byte c cs false e = rw e refl

quoted_here : (c : ℕ) (cs inside : List ℕ) (b : Bool) → eqb c 34 ≡ b → Some inside ≡ cond b (Some cs) None → quoted_word_at inside ≡ word_at (c ∷ cs)
unfolding word_at
quoted_here c cs inside true e is = rw e (ap quoted_word_at (same_Some inside cs is))
quoted_here c cs inside false e is = absurd cc

pub word_quoted : (text others inside : List ℕ) (c : ℕ) → text ≡ c ∷ others → Some inside ≡ following (34 ∷ []) text → quoted_word_at inside ≡ word_at text
word_quoted text others inside c e is =
    quoted_here c others inside (eqb c 34) refl (is ∙ ap (following (34 ∷ [])) e ∙ first_byte c others (eqb c 34) refl) ∙ sym (ap word_at e)

plain_first : (c : ℕ) (cs : List ℕ) (b : Bool) → eqb c 34 ≡ b → None ≡ cond b (Some cs) None → Some (Plain (c ∷ take (plain_len cs) cs), drop (plain_len cs) cs) ≡ word_at (c ∷ cs)
unfolding word_at
plain_first c cs true e is = absurd cc
plain_first c cs false e is = rw e refl

pub word_plain : (text others word after : List ℕ) (c n : ℕ) → text ≡ c ∷ others → None ≡ following (34 ∷ []) text → n ≡ plain_len others → word ≡ take (1 + n) text → after ≡ drop (1 + n) text
    → Some (Plain word, after) ≡ word_at text
word_plain text others word after c n e none at w a =
    let len : 1 + n ≡ suc (plain_len others) = omega (arith, at) in
    let front : word ≡ c ∷ take (plain_len others) others = w ∙ ap (λ (t : List ℕ). take (1 + n) t) e ∙ ap (λ k. take k (c ∷ others)) len in
    let back : after ≡ drop (plain_len others) others = a ∙ ap (λ (t : List ℕ). drop (1 + n) t) e ∙ ap (λ k. drop k (c ∷ others)) len in
    rw (front, back) (plain_first c others (eqb c 34) refl (none ∙ ap (following (34 ∷ [])) e ∙ first_byte c others (eqb c 34) refl) ∙ sym (ap word_at e))

-- ---- a count that is large enough

-- the words after the first
abbrev pub others : Option (Piece × List ℕ) → (List ℕ → Option (List Piece)) → Option (List Piece)
others first read = first >>= λ word. read word.1 >>= λ words. Some (word.0 ∷ words)

others_same : (first : Option (Piece × List ℕ)) (f g : List ℕ → Option (List Piece)) → ((r : Piece × List ℕ) → first ≡ Some r → f r.1 ≡ g r.1) → others first f ≡ others first g
others_same None f g h = refl
others_same (Some r) f g h = ap (λ (o : Option (List Piece)). o >>= λ words. Some (r.0 ∷ words)) (h r refl)

cond_same : {A : Type 0} (b : Bool) (x y z : A) → (b ≡ false → y ≡ z) → cond b x y ≡ cond b x z
cond_same true x y z h = refl
cond_same false x y z h = h refl

pub enough : (n m : ℕ) (text : List ℕ) → length text ≤ n → length text ≤ m → words_within n text ≡ words_within m text
unfolding words_within
enough zero zero text h k = refl
enough zero (suc m) text h k =
    let none : eqb (length (without_blanks text)) 0 ≡ true = grind (arith, nat_tests, without_blanks-shorter text) in
    rw none refl
enough (suc n) zero text h k =
    let none : eqb (length (without_blanks text)) 0 ≡ true = grind (arith, nat_tests, without_blanks-shorter text) in
    rw none refl
enough (suc n) (suc m) text h k =
    cond_same (eqb (length (without_blanks text)) 0) (Some []) (others (word_at (without_blanks text)) (words_within n)) (others (word_at (without_blanks text)) (words_within m))
    (λ _. others_same (word_at (without_blanks text)) (words_within n) (words_within m)
    (λ r e. enough n m r.1 (omega (arith, h, word_at-shorter (without_blanks text) r e, without_blanks-shorter text)) (omega (arith, k, word_at-shorter (without_blanks text) r e, without_blanks-shorter text))))

-- blanks in front mean nothing
pub words_of-blanks : (text : List ℕ) → words_of (without_blanks text) ≡ words_of text
unfolding words_within
words_of-blanks text =
    let less = without_blanks-shorter text in
    let inside : words_within (suc (length text)) (without_blanks text) ≡ words_within (suc (length text)) text = rw (blanks_once text) refl in
    enough (length (without_blanks text)) (suc (length text)) (without_blanks text) (omega arith) (omega (arith, less)) ∙ inside ∙ enough (suc (length text)) (length text) text (omega arith) (omega arith)

pub words_of-step : (text : List ℕ) → without_blanks text ≡ text → length text ≢ 0 → words_of text ≡ others (word_at text) words_of
unfolding words_within
words_of-step text begins some =
    let long : eqb (length text) 0 ≡ false = grind (arith, nat_tests) in
    let inside : words_within (suc (length text)) text ≡ others (word_at text) (words_within (length text)) = rw (begins, long) refl in
    enough (length text) (suc (length text)) text (omega arith) (omega arith) ∙ inside
    ∙ others_same (word_at text) (words_within (length text)) words_of (λ r e. enough (length text) (length r.1) r.1 (omega (arith, word_at-shorter text r e)) (omega arith))

-- ---- the loop

-- what was read before, and what is still read
abbrev pub with_words : List Piece → Option (List Piece) → Option (List Piece)
with_words front read = read >>= λ words. Some (front ++ words)

none_before : (read : Option (List Piece)) → with_words [] read ≡ read
none_before None = refl
none_before (Some words) = refl

regroup : (front : List Piece) (word : Piece) (read : Option (List Piece)) → with_words front (read >>= λ words. Some (word ∷ words)) ≡ with_words (front ++ word ∷ []) read
regroup front word None = refl
regroup front word (Some words) = ap (λ (ws : List Piece). Some ws) (sym (append_assoc front (word ∷ []) words))

-- how far the reading of a line has come
pub record SoFar (text : List ℕ) (front : List Piece) (rest : List ℕ) : Type 0 where
  pub read : with_words front (words_of rest) ≡ words_of text
  pub begins : without_blanks rest ≡ rest

pub starts : (text rest : List ℕ) → rest ≡ without_blanks text → SoFar text [] rest
starts text rest e = record {
  read = none_before (words_of rest) ∙ ap words_of e ∙ words_of-blanks text;
  begins = ap without_blanks e ∙ blanks_once text ∙ sym e;
}

pub goes_on : (text : List ℕ) (front : List Piece) (rest after next : List ℕ) (word : Piece) → SoFar text front rest → length rest ≢ 0 → word_at rest ≡ Some (word, after) → next ≡ without_blanks after
    → SoFar text (front ++ word ∷ []) next
goes_on text front rest after next word so_far some e f =
    let one : words_of rest ≡ (words_of after >>= λ words. Some (word ∷ words)) = words_of-step rest so_far.begins some ∙ ap (λ (o : Option (Piece × List ℕ)). others o words_of) e in
    let same : words_of next ≡ words_of after = ap words_of f ∙ words_of-blanks after in
    record {
      read = rw same (sym (regroup front word (words_of after)) ∙ ap (with_words front) (sym one) ∙ so_far.read);
      begins = ap without_blanks f ∙ blanks_once after ∙ sym f;
    }

pub ends : (text : List ℕ) (front : List Piece) (rest : List ℕ) → SoFar text front rest → length rest ≢ 0 → word_at rest ≡ None → None ≡ words_of text
ends text front rest so_far some e =
    let none : words_of rest ≡ None = words_of-step rest so_far.begins some ∙ ap (λ (o : Option (Piece × List ℕ)). others o words_of) e in
    ap (with_words front) (sym none) ∙ so_far.read

pub is_done : (text : List ℕ) (front : List Piece) (rest : List ℕ) → SoFar text front rest → rest ≡ [] → Some front ≡ words_of text
unfolding words_within
is_done text front rest so_far e =
    let all : with_words front (words_of rest) ≡ Some front = rw e (ap (λ (ws : List Piece). Some ws) (append-nil front)) in
    sym all ∙ so_far.read
