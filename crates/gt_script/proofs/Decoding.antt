-- Texts that are UTF-8, and texts that are not.
use Rattle.std.proofs.Common.{◌≡◌, ℕ, ◌-◌, Bool, true, false, not, cond, eqb, List, length, slice_index, take, Some, None, refl, sym, ap, arith}
use Rattle.std.specs.Prelude.{◌&&◌}
use Rattle.std.specs.List.{list_any}
use Rattle.std.specs.Str.{IsUtf8, is_utf8, chars}
use Rattle.std.specs.Str.Lines.{strip_carriage_return}
use Rattle.std.proofs.lemmas.Bool.{eqb-true, false_from_ne_true}
use Rattle.std.proofs.lemmas.Str.{IsUtf8-from_is_utf8, is_utf8-from_IsUtf8, IsUtf8-take}
use Rattle.std.specs.Option.{option_map}
use Rattle.gt_script.specs.Language.{is_passed_over}
use Rattle.gt_script.specs.Scanning.{spoken_at, said_at}
use Rattle.gt_script.specs.Values.{is_identifier_of, name_at, file_at}

pub utf8_false : (text : List ℕ) → (IsUtf8 text → ⊥) → is_utf8 text ≡ false
utf8_false text h = false_from_ne_true (is_utf8 text) (λ e. h (IsUtf8-from_is_utf8 text e))

pub name_some : (text word : List ℕ) → IsUtf8 text → true ≡ is_identifier_of (chars text) → word ≡ chars text → Some word ≡ name_at text
unfolding name_at
name_some text word utf8 identifier e = rw (is_utf8-from_IsUtf8 text utf8, sym identifier) (ap Some e)

pub name_other : (text : List ℕ) → false ≡ is_identifier_of (chars text) → None ≡ name_at text
unfolding name_at
name_other text other = go (is_utf8 text) (is_identifier_of (chars text)) (sym other)
  where
    go : (a b : Bool) → b ≡ false → None ≡ cond (a && b) (Some (chars text)) None
    go true b e = rw e refl
    go false b e = refl

both_false : (a b : Bool) → false ≡ a → false ≡ b → (not a && not b) ≡ true
both_false true b e f = absurd cc
both_false false true e f = absurd cc
both_false false false e f = refl

pub file_some : (text word : List ℕ) → false ≡ eqb (length text) 0 → false ≡ list_any (λ c. eqb c 0) text → IsUtf8 text → word ≡ chars text → Some word ≡ file_at text
unfolding file_at
file_some text word some solid utf8 e = rw (both_false _ _ some solid, is_utf8-from_IsUtf8 text utf8) (ap Some e)

pub said_none : (text : List ℕ) → is_utf8 text ≡ false → None ≡ said_at text
unfolding said_at
said_none text h = rw h refl

pub said_is : (text : List ℕ) (passed : Bool) → IsUtf8 text → passed ≡ is_passed_over text → cond passed (Some None) (option_map Some (spoken_at text)) ≡ said_at text
unfolding said_at
said_is text passed utf8 e = rw (is_utf8-from_IsUtf8 text utf8, e) refl

-- a line without its carriage return
pub utf8_stripped : (text : List ℕ) → IsUtf8 text → IsUtf8 (strip_carriage_return text)
utf8_stripped text u = go (eqb (slice_index text (length text - 1)) 13) refl
  where
    go : (b : Bool) → eqb (slice_index text (length text - 1)) 13 ≡ b → IsUtf8 (cond b (take (length text - 1) text) text)
    go true e =
        let is_return : slice_index text (length text - 1) ≡ 13 = eqb-true _ 13 e in
        IsUtf8-take text (length text - 1) u (omega arith, λ _ high. omega (arith, is_return, high))
    go false e = u
