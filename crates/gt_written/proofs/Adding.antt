-- Texts that add lines to those of the text after them.
use Rattle.std.proofs.Common.{◌≡◌, ℕ, zero, suc, ◌-◌, ◌<◌, Bool, true, false, cond, eqb, ltb, List, [], ◌∷◌, ◌++◌, length, get_or, refl, sym, ap, subst, ◌∙◌, append_assoc, arith}
use Rattle.std.specs.Prelude.{◌&&◌}
use Rattle.std.specs.List.{list_all, slice_split, onto_first}
use Rattle.std.specs.Str.{IsAscii, IsUtf8}
use Rattle.std.specs.Str.Lines.{strip_carriage_return}
use Rattle.std.proofs.lemmas.Bool.{and_parts, ne_eqb, ltb-true}
use Rattle.std.proofs.lemmas.List.Splits.{slice_split-cons_no, length-slice_split}
use Rattle.std.proofs.lemmas.Str.{IsUtf8-from_ascii}
use Rattle.std.proofs.lemmas.Str.Ascii.{IsAscii-nil, IsAscii-cons}
use Rattle.gt_script.specs.declared.command.Line.{Line}
use Rattle.gt_split.specs.Texts.{without_empty_last, lines_of}
use Rattle.gt_script.specs.Language.{IsSpelled, IsLine}
use Rattle.gt_script.specs.Outcome.{Say, said}

-- a byte of ASCII after the carriage return (13), so none that ends a line (10)
abbrev pub is_inner : ℕ → Bool
is_inner c = ltb 13 c && ltb c 128

inner_range : (c : ℕ) → is_inner c ≡ true → (13 < c) × (c < 128)
inner_range c h = let both = and_parts (ltb 13 c) (ltb c 128) h in (ltb-true 13 c both.0, ltb-true c 128 both.1)

-- ---- one line

inner_ascii : (text : List ℕ) → list_all is_inner text ≡ true → IsAscii text
inner_ascii [] h = IsAscii-nil
inner_ascii (c ∷ cs) h = let both = and_parts (is_inner c) (list_all is_inner cs) h in IsAscii-cons c cs (inner_range c both.0).1 (inner_ascii cs both.1)

inner_at : (text : List ℕ) (i : ℕ) → list_all is_inner text ≡ true → eqb (get_or text i 0) 13 ≡ false
inner_at [] i h = refl
inner_at (c ∷ cs) zero h = let both = and_parts (is_inner c) (list_all is_inner cs) h in ne_eqb c 13 (λ e. omega (arith, e, (inner_range c both.0).0))
inner_at (c ∷ cs) (suc i) h = inner_at cs i (and_parts (is_inner c) (list_all is_inner cs) h).1

no_return : (text : List ℕ) → list_all is_inner text ≡ true → strip_carriage_return text ≡ text
no_return text h = rw (inner_at text (length text - 1) h) refl

line_is : (text : List ℕ) (line : Line) → list_all is_inner text ≡ true → IsSpelled text line → IsLine text line
line_is text line h spelled = subst (λ (t : List ℕ). IsUtf8 t × IsSpelled t line) (sym (no_return text h)) (IsUtf8-from_ascii text (inner_ascii text h), spelled)

-- ---- the lines of a text

abbrev parts_of : List ℕ → List (List ℕ)
parts_of text = slice_split (λ c. eqb c 10) text

parts_first : (line rest : List ℕ) → list_all is_inner line ≡ true → parts_of (line ++ 10 ∷ rest) ≡ line ∷ parts_of rest
parts_first [] rest h = refl
parts_first (c ∷ cs) rest h =
    let both = and_parts (is_inner c) (list_all is_inner cs) h in
    let other : eqb c 10 ≡ false = ne_eqb c 10 (λ e. omega (arith, e, (inner_range c both.0).0)) in
    slice_split-cons_no (λ c. eqb c 10) c (cs ++ 10 ∷ rest) other ∙ ap (onto_first c) (parts_first cs rest both.1)

keeps : (part : List ℕ) (parts : List (List ℕ)) → 0 < length parts → without_empty_last (part ∷ parts) ≡ part ∷ without_empty_last parts
keeps part [] h = absurd (omega arith)
keeps part (next ∷ parts) h = refl

lines_first : (line rest : List ℕ) → list_all is_inner line ≡ true → lines_of (line ++ 10 ∷ rest) ≡ line ∷ lines_of rest
lines_first line rest h = ap without_empty_last (parts_first line rest h) ∙ keeps line (parts_of rest) (omega (arith, length-slice_split (λ c. eqb c 10) rest))

-- ---- texts put together

-- whatever lines follow, the text says these before them
abbrev pub Adds : List ℕ → List Line → Type 0
Adds text lines = (rest : List ℕ) (others : List Line) → Say (lines_of rest) others → Say (lines_of (text ++ rest)) (lines ++ others)

pub adds_none : Adds [] []
adds_none rest others say = say

-- a line with its newline
pub adds_line : (text : List ℕ) (line : Line) → list_all is_inner text ≡ true → IsSpelled text line → Adds (text ++ 10 ∷ []) (line ∷ [])
adds_line text line h spelled rest others say =
    let cut : lines_of ((text ++ 10 ∷ []) ++ rest) ≡ text ∷ lines_of rest = ap lines_of (append_assoc text (10 ∷ []) rest) ∙ lines_first text rest h in
    subst (λ (texts : List (List ℕ)). Say texts (line ∷ others)) (sym cut) (said text line (line_is text line h spelled) say)

pub adds_both : (a b : List ℕ) (la lb : List Line) → Adds a la → Adds b lb → Adds (a ++ b) (la ++ lb)
adds_both a b la lb f g rest others say =
    let apart : Say (lines_of (a ++ (b ++ rest))) (la ++ (lb ++ others)) = f (b ++ rest) (lb ++ others) (g rest others say) in
    let together : Say (lines_of (a ++ (b ++ rest))) ((la ++ lb) ++ others) = subst (λ (lines : List Line). Say (lines_of (a ++ (b ++ rest))) lines) (sym (append_assoc la lb others)) apart in
    subst (λ (text : List ℕ). Say (lines_of text) ((la ++ lb) ++ others)) (sym (append_assoc a b rest)) together

pub adds_either : (b : Bool) (x y : List ℕ) (lx ly : List Line) → Adds x lx → Adds y ly → Adds (cond b x y) (cond b lx ly)
adds_either true x y lx ly f g = f
adds_either false x y lx ly f g = g
