-- Where a text may be cut: before and after ASCII bytes. And what a quoted word means is UTF-8.
use Rattle.std.proofs.Common.{◌≡◌, ℕ, ◌+◌, ◌-◌, ◌<◌, ◌≤◌, Bool, true, false, not, cond, eqb, List, [], ◌∷◌, ◌++◌, length, get_or, drop, Some, None, refl, sym, ap, subst, ◌∙◌, append_assoc, arith, inl, inr}
use Rattle.std.specs.List.{prefix_len}
use Rattle.std.specs.Str.{IsUtf8, IsCharBoundary}
use Rattle.std.proofs.lemmas.Bool.{eqb-true}
use Rattle.std.proofs.lemmas.Option.{same_Some}
use Rattle.std.proofs.lemmas.List.{length-append, get_or_at, take_at, drop_at, drop-drop, append-nil}
use Rattle.std.proofs.lemmas.Str.{IsUtf8-take, IsUtf8-drop, IsUtf8-append, IsUtf8-from_ascii, IsCharBoundary-start, IsCharBoundary-end, IsCharBoundary-before_ascii, IsCharBoundary-after_ascii, IsCharBoundary-from_rest}
use Rattle.std.proofs.lemmas.Str.Ascii.{IsAscii-nil, IsAscii-cons}
use Rattle.gt_split.specs.Texts.{◌>>=◌, is_blank, escape_of}
use Rattle.gt_split.specs.Cutting.{quoted_at, plain_len}
use Rattle.gt_split.proofs.Options.{bind_some, chosen}

-- a text that is cut at an ASCII byte
pub utf8_parts : (text front back : List ℕ) (byte : ℕ) → byte < 128 → text ≡ front ++ byte ∷ back → IsUtf8 text → IsUtf8 front × IsUtf8 back
utf8_parts text front back byte low e u =
    let whole : IsUtf8 (front ++ byte ∷ back) = subst IsUtf8 e u in
    let here : get_or (front ++ byte ∷ back) (length front) 0 ≡ byte = get_or_at front byte back 0 (length front) refl in
    let inside : length front < length (front ++ byte ∷ back) = omega (arith, length-append front (byte ∷ back)) in
    let ascii : get_or (front ++ byte ∷ back) (length front) 0 < 128 = omega (arith, here, low) in
    let after : drop (length front + 1) (front ++ byte ∷ back) ≡ back = sym (drop-drop 1 (length front) (front ++ byte ∷ back)) ∙ ap (drop 1) (drop_at front (byte ∷ back) (length front) refl) in (
      subst IsUtf8 (take_at front (byte ∷ back) (length front) refl) (IsUtf8-take _ (length front) whole (IsCharBoundary-before_ascii _ (length front) inside ascii)),
      subst IsUtf8 after (IsUtf8-drop _ (length front + 1) whole (IsCharBoundary-after_ascii _ (length front) whole inside ascii)),
    )

utf8_after : (c : ℕ) (cs : List ℕ) → c < 128 → IsUtf8 (c ∷ cs) → IsUtf8 cs
utf8_after c cs low u = IsUtf8-drop (c ∷ cs) 1 u (IsCharBoundary-after_ascii (c ∷ cs) 0 u (omega arith) low)

front_here : (p : ℕ → Bool) (c : ℕ) (cs : List ℕ) (b : Bool) → IsUtf8 (c ∷ cs) → (b ≡ true → IsCharBoundary cs (prefix_len p cs)) → IsCharBoundary (c ∷ cs) (cond b (1 + prefix_len p cs) 0)
front_here p c cs true u more = IsCharBoundary-from_rest (c ∷ cs) 1 (prefix_len p cs) (omega arith) (more refl)
front_here p c cs false u more = IsCharBoundary-start (c ∷ cs) u

-- after a front of ASCII bytes
after_front : (p : ℕ → Bool) → ((c : ℕ) → p c ≡ true → c < 128) → (text : List ℕ) → IsUtf8 text → IsCharBoundary text (prefix_len p text)
after_front p low [] u = IsCharBoundary-start [] u
after_front p low (c ∷ cs) u = front_here p c cs (p c) u (λ e. after_front p low cs (utf8_after c cs (low c e) u))

rest_here : (p : ℕ → Bool) (c : ℕ) (cs : List ℕ) (b : Bool) → (b ≡ false → c < 128) → IsCharBoundary cs (prefix_len p cs) → IsCharBoundary (c ∷ cs) (cond b (1 + prefix_len p cs) 0)
rest_here p c cs true low more = IsCharBoundary-from_rest (c ∷ cs) 1 (prefix_len p cs) (omega arith) more
rest_here p c cs false low more = IsCharBoundary-before_ascii (c ∷ cs) 0 (omega arith) (low refl)

-- before the first of some ASCII bytes, or at the end
pub before_rest : (p : ℕ → Bool) → ((c : ℕ) → p c ≡ false → c < 128) → (text : List ℕ) → IsCharBoundary text (prefix_len p text)
before_rest p low [] = IsCharBoundary-end []
before_rest p low (c ∷ cs) = rest_here p c cs (p c) (low c) (before_rest p low cs)

-- the same after one byte more
pub before_rest_after : (p : ℕ → Bool) → ((c : ℕ) → p c ≡ false → c < 128) → (text others : List ℕ) (c n : ℕ) → text ≡ c ∷ others → n ≡ prefix_len p others → IsCharBoundary text (1 + n)
before_rest_after p low text others c n e at =
    rw (e, at) (IsCharBoundary-from_rest (c ∷ others) 1 (prefix_len p others) (omega arith) (before_rest p low others))

pub not-false : (b : Bool) → not b ≡ false → b ≡ true
not-false true h = refl
not-false false h = absurd cc

blank_low : (c : ℕ) → is_blank c ≡ true → c < 128
unfolding is_blank
blank_low c h = grind arith

plain_low : (c : ℕ) → not (is_blank c) ≡ false → c < 128
plain_low c h = blank_low c (not-false (is_blank c) h)

-- after the blanks at the front
pub blanks_boundary : (text : List ℕ) (n : ℕ) → IsUtf8 text → n ≡ prefix_len is_blank text → IsCharBoundary text n
blanks_boundary text n u at = rw at (after_front is_blank blank_low text u)

-- after a plain word
pub plain_boundary : (text others : List ℕ) (c n : ℕ) → text ≡ c ∷ others → n ≡ plain_len others → IsCharBoundary text (1 + n)
plain_boundary text others c n e at = before_rest_after (λ c. not (is_blank c)) plain_low text others c n e at

-- after the first byte, and before the last
pub after_first : (text bytes : List ℕ) (byte : ℕ) → IsUtf8 text → bytes ≡ text → 1 ≤ length bytes → get_or bytes 0 0 ≡ byte → byte < 128 → IsCharBoundary text 1
after_first text bytes byte u e some is low =
    subst (λ t. IsCharBoundary t 1) e (IsCharBoundary-after_ascii bytes 0 (subst IsUtf8 (sym e) u) (omega (arith, some)) (omega (arith, is, low)))

pub before_last : (text bytes : List ℕ) (byte : ℕ) → bytes ≡ text → 1 ≤ length bytes → get_or bytes (length bytes - 1) 0 ≡ byte → byte < 128 → IsCharBoundary text (length text - 1)
before_last text bytes byte e some is low =
    subst (λ (t : List ℕ). IsCharBoundary t (length t - 1)) e (IsCharBoundary-before_ascii bytes (length bytes - 1) (omega (arith, some)) (omega (arith, is, low)))

-- ---- quoted words

escape_ascii : (letter meant : ℕ) → escape_of letter ≡ Some meant → (letter < 128) × (meant < 128)
unfolding escape_of
escape_ascii letter meant e = elim (chosen (eqb letter 92) (Some 92) (cond (eqb letter 34) (Some 34) (cond (eqb letter 110) (Some 10) (cond (eqb letter 48) (Some 0) None))) meant e) [
  | inl g ↦ (omega (arith, eqb-true letter 92 g.0), omega (arith, same_Some 92 meant g.1))
  | inr g ↦ elim (chosen (eqb letter 34) (Some 34) (cond (eqb letter 110) (Some 10) (cond (eqb letter 48) (Some 0) None)) meant g.1) [
    | inl h ↦ (omega (arith, eqb-true letter 34 h.0), omega (arith, same_Some 34 meant h.1))
    | inr h ↦ elim (chosen (eqb letter 110) (Some 10) (cond (eqb letter 48) (Some 0) None) meant h.1) [
      | inl k ↦ (omega (arith, eqb-true letter 110 k.0), omega (arith, same_Some 10 meant k.1))
      | inr k ↦ elim (chosen (eqb letter 48) (Some 0) None meant k.1) [
        | inl l ↦ (omega (arith, eqb-true letter 48 l.0), omega (arith, same_Some 0 meant l.1))
        | inr l ↦ absurd (no_some meant l.1)
      ]
    ]
  ]
]
  where
    no_some : (meant : ℕ) → None ≡ Some meant → ⊥
    no_some meant e = absurd cc

-- what stands before the text of a quoted word, where a backslash stands in front, and where none does
abbrev Utf8Round : Bool → List ℕ → List ℕ → Type 0
Utf8Round true front text = IsUtf8 front × IsUtf8 text
Utf8Round false front text = IsUtf8 (front ++ text)

abbrev MeansUtf8 : List ℕ → List ℕ × List ℕ → Type 0
MeansUtf8 front r = IsUtf8 (front ++ r.0) × IsUtf8 r.1

meant_utf8 : (escape : Bool) (front text : List ℕ) (r : List ℕ × List ℕ) → quoted_at escape text ≡ Some r → Utf8Round escape front text → MeansUtf8 front r
unfolding quoted_at
meant_utf8 true front [] r e u = absurd cc
meant_utf8 false front [] r e u = absurd cc
meant_utf8 true front (c ∷ cs) r e u =
    let d = bind_some (escape_of c) (λ meant. quoted_at false cs >>= λ more. Some (meant ∷ more.0, more.1)) r e in
    let more = bind_some (quoted_at false cs) (λ more. Some (d.0 ∷ more.0, more.1)) r d.2 in
    let low = escape_ascii c d.0 d.1 in
    let rest = meant_utf8 false [] cs more.0 more.1 (utf8_after c cs low.0 u.1) in
    let whole : MeansUtf8 front (d.0 ∷ more.0.0, more.0.1) =
    (IsUtf8-append front (d.0 ∷ more.0.0) u.0 (IsUtf8-append (d.0 ∷ []) more.0.0 (IsUtf8-from_ascii (d.0 ∷ []) (IsAscii-cons d.0 [] low.1 IsAscii-nil)) rest.0), rest.1) in
    subst (MeansUtf8 front) (same_Some (d.0 ∷ more.0.0, more.0.1) r more.2) whole
meant_utf8 false front (c ∷ cs) r e u =
    elim (chosen (eqb c 34) (Some ([], cs)) (cond (eqb c 92) (quoted_at true cs) (quoted_at false cs >>= λ more. Some (c ∷ more.0, more.1))) r e) [
      | inl g ↦
          let both = utf8_parts (front ++ c ∷ cs) front cs c (omega (arith, eqb-true c 34 g.0)) refl u in
          let whole : MeansUtf8 front ([], cs) = (subst IsUtf8 (sym (append-nil front)) both.0, both.1) in
          subst (MeansUtf8 front) (same_Some ([], cs) r g.1) whole
      | inr g ↦
          elim (chosen (eqb c 92) (quoted_at true cs) (quoted_at false cs >>= λ more. Some (c ∷ more.0, more.1)) r g.1) [
            | inl h ↦ meant_utf8 true front cs r h.1 (utf8_parts (front ++ c ∷ cs) front cs c (omega (arith, eqb-true c 92 h.0)) refl u)
            | inr h ↦
                let more = bind_some (quoted_at false cs) (λ more. Some (c ∷ more.0, more.1)) r h.1 in
                let rest = meant_utf8 false (front ++ c ∷ []) cs more.0 more.1 (subst IsUtf8 (sym (append_assoc front (c ∷ []) cs)) u) in
                let whole : MeansUtf8 front (c ∷ more.0.0, more.0.1) = (subst IsUtf8 (append_assoc front (c ∷ []) more.0.0) rest.0, rest.1) in
                subst (MeansUtf8 front) (same_Some (c ∷ more.0.0, more.0.1) r more.2) whole
          ]
    ]

-- what a quoted word means, and what stands after it
pub quoted_utf8 : (text bytes after : List ℕ) → quoted_at false text ≡ Some (bytes, after) → IsUtf8 text → IsUtf8 bytes × IsUtf8 after
quoted_utf8 text bytes after e u = meant_utf8 false [] text (bytes, after) e u
