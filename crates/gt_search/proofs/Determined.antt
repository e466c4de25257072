-- Where an item ends is determined: what the relation of the search says is what searching one token at a time finds.
use Rattle.std.proofs.Common.{◌≡◌, ◌≢◌, ℕ, Bool, true, false, List, [], ◌∷◌, ◌++◌, length, refl, ap, ◌∙◌, sym, append_assoc}
use Rattle.std.specs.Prelude.{◌&&◌, not, if◌then◌else◌}
use Rattle.std.proofs.lemmas.Bool.{false≢true}
use Rattle.std.proofs.lemmas.List.{append-nil}
use Rattle.gt_search.specs.declared.lexeme.TokenText.{TokenText}
use Rattle.gt_search.specs.declared.lexeme.Bracket.{Bracket}
use Rattle.gt_search.specs.declared.lexeme.Bracket.TheVariants.{Round, Square, Brace}
use Rattle.gt_search.specs.declared.lexeme.Lexeme.{Lexeme}
use Rattle.gt_search.specs.declared.lexeme.Lexeme.TheVariants as lexeme
use Rattle.gt_search.specs.declared.search.ItemEnd.{ItemEnd}
use Rattle.gt_search.specs.declared.search.ItemEnd.TheVariants.{Whole, Unmatched, Unended}
use Rattle.gt_search.specs.declared.search.Step.TheVariants.{Goes, Ends, Stops}
use Rattle.gt_search.specs.Search.{is_no_bracket, is_plain, is_gty, is_equals, Balanced, EndsItem, Inside, BeginsItem, IsUnmatched}
use Rattle.gt_search.specs.Searching.{same_bracket, called_after, ends_body, one_longer, end_after, item_end}
use Rattle.gt_search.proofs.ItemEnds.{item_end-step, item_end-nil}
use Rattle.gt_search.proofs.Sound.{begun}

-- these tokens stand before
abbrev pub past : List Lexeme → ItemEnd → ItemEnd
past [] end = end
past (t ∷ ts) end = one_longer (past ts end)

past-append : (front ts : List Lexeme) (end : ItemEnd) → past (front ++ ts) end ≡ past front (past ts end)
past-append [] ts end = refl
past-append (t ∷ front) ts end = ap one_longer (past-append front ts end)

past-whole : (front ts : List Lexeme) → past front (Whole (length ts)) ≡ Whole (length (front ++ ts))
past-whole [] ts = refl
past-whole (t ∷ front) ts = ap one_longer (past-whole front ts)

pub past-unmatched : (front : List Lexeme) (at : ℕ) → past front (Unmatched at) ≡ Unmatched at
past-unmatched [] at = refl
past-unmatched (t ∷ front) at = ap one_longer (past-unmatched front at)

pub past-unended : (front : List Lexeme) → past front Unended ≡ Unended
past-unended [] = refl
past-unended (t ∷ front) = ap one_longer (past-unended front)

-- ---- one token

-- within brackets
within : (b : Bracket) (bs : List Bracket) (m c : Bool) (t : Lexeme) (ts : List Lexeme) → is_no_bracket t ≡ true → item_end (begun (b ∷ bs) m c) (t ∷ ts) ≡ one_longer (item_end (begun (b ∷ bs) m c) ts)
unfolding item_end
within b bs m c (lexeme.Open d s) ts plain = absurd (false≢true plain)
within b bs m c (lexeme.Close d s) ts plain = absurd (false≢true plain)
within b bs m c t ts plain = refl

opens_within : (b d : Bracket) (bs : List Bracket) (m c : Bool) (s : TokenText) (ts : List Lexeme) → item_end (begun (b ∷ bs) m c) (lexeme.Open d s ∷ ts) ≡ one_longer (item_end (begun (d ∷ b ∷ bs) m c) ts)
unfolding item_end
opens_within b d bs m c s ts = refl

closes_within : (b d : Bracket) (bs : List Bracket) (m c : Bool) (s : TokenText) (ts : List Lexeme) → item_end (begun (b ∷ d ∷ bs) m c) (lexeme.Close b s ∷ ts) ≡ one_longer (item_end (begun (d ∷ bs) m c) ts)
unfolding item_end
closes_within Round d bs m c s ts = refl
closes_within Square d bs m c s ts = refl
closes_within Brace d bs m c s ts = refl

-- in no brackets
outside : (m c : Bool) (t : Lexeme) (ts : List Lexeme) → is_plain t ≡ true → item_end (begun [] m c) (t ∷ ts) ≡ one_longer (item_end (begun [] (is_gty t) (c && not (is_equals t))) ts)
unfolding item_end
outside m c (lexeme.Open d s) ts plain = absurd (false≢true plain)
outside m c (lexeme.Close d s) ts plain = absurd (false≢true plain)
outside m c (lexeme.Semicolon s) ts plain = absurd (false≢true plain)
outside m c t ts plain = refl

opens_outside : (b : Bracket) (m c : Bool) (s : TokenText) (ts : List Lexeme) → item_end (begun [] m c) (lexeme.Open b s ∷ ts) ≡ one_longer (item_end (begun (b ∷ []) false (called_after b m c)) ts)
unfolding item_end
opens_outside b m c s ts = refl

closes_outside : (b : Bracket) (m c : Bool) (s : TokenText) (ts : List Lexeme) → ends_body b c [] ≡ false → item_end (begun (b ∷ []) m c) (lexeme.Close b s ∷ ts) ≡ one_longer (item_end (begun [] m c) ts)
unfolding item_end
closes_outside Round m c s ts e = refl
closes_outside Square m c s ts e = refl
closes_outside Brace m true s ts e = absurd (false≢true (sym e))
closes_outside Brace m false s ts e = refl

closes_body : (m : Bool) (s : TokenText) (ts : List Lexeme) → item_end (begun (Brace ∷ []) m true) (lexeme.Close Brace s ∷ ts) ≡ Whole 1
unfolding item_end
closes_body m s ts = refl

semicolon_ends : (m c : Bool) (s : TokenText) (ts : List Lexeme) → item_end (begun [] m c) (lexeme.Semicolon s ∷ ts) ≡ Whole 1
unfolding item_end
semicolon_ends m c s ts = refl

-- a closing bracket that does not match
other_bracket : (a b : Bracket) → b ≢ a → same_bracket a b ≡ false
other_bracket Round Round ne = absurd (ne refl)
other_bracket Square Square ne = absurd (ne refl)
other_bracket Brace Brace ne = absurd (ne refl)
other_bracket Round Square ne = refl
other_bracket Round Brace ne = refl
other_bracket Square Round ne = refl
other_bracket Square Brace ne = refl
other_bracket Brace Round ne = refl
other_bracket Brace Square ne = refl

stops : (bs : List Bracket) (m c : Bool) (b : Bracket) (s : TokenText) (ts : List Lexeme) → IsUnmatched b bs → item_end (begun bs m c) (lexeme.Close b s ∷ ts) ≡ Unmatched s.start
stops [] m c b s ts unmatched = item_end-step (begun [] m c) (lexeme.Close b s) ts
stops (a ∷ bs) m c b s ts unmatched =
    item_end-step (begun (a ∷ bs) m c) (lexeme.Close b s) ts
    ∙ ap (λ same. end_after (λ next. item_end next ts) (if same then (if ends_body b c bs then Ends else Goes (begun bs m c)) else Stops s.start)) (other_bracket a b unmatched)

-- ---- groups

split : (inside : List Lexeme) (close : Lexeme) (ts rest : List Lexeme) → (inside ++ close ∷ ts) ++ rest ≡ inside ++ (close ∷ (ts ++ rest))
split inside close ts rest = append_assoc inside (close ∷ ts) rest

-- tokens within a bracket in which each bracket is closed change nothing
balanced : {inside : List Lexeme} → Balanced inside → (b : Bracket) (bs : List Bracket) (m c : Bool) (rest : List Lexeme)
    → item_end (begun (b ∷ bs) m c) (inside ++ rest) ≡ past inside (item_end (begun (b ∷ bs) m c) rest)
balanced Balanced.nothing b bs m c rest = refl
balanced (Balanced.token {ts = ts} t plain more) b bs m c rest = within b bs m c t (ts ++ rest) plain ∙ ap one_longer (balanced more b bs m c rest)
balanced (Balanced.group {inside = inside} {ts = ts} d o s inner more) b bs m c rest =
    opens_within b d bs m c o ((inside ++ lexeme.Close d s ∷ ts) ++ rest)
    ∙ ap one_longer
    (ap (item_end (begun (d ∷ b ∷ bs) m c)) (split inside (lexeme.Close d s) ts rest)
    ∙ balanced inner d (b ∷ bs) m c (lexeme.Close d s ∷ (ts ++ rest))
    ∙ ap (past inside) (closes_within d b bs m c s (ts ++ rest) ∙ ap one_longer (balanced more b bs m c rest))
    ∙ sym (past-append inside (lexeme.Close d s ∷ ts) (item_end (begun (b ∷ bs) m c) rest)))

-- a group in no brackets
group_outside : {inside : List Lexeme} (b : Bracket) (m c : Bool) (o s : TokenText) (ts rest : List Lexeme) → Balanced inside → ends_body b (called_after b m c) [] ≡ false
    → item_end (begun [] m c) ((lexeme.Open b o ∷ inside ++ lexeme.Close b s ∷ ts) ++ rest) ≡ past (lexeme.Open b o ∷ inside) (one_longer (item_end (begun [] false (called_after b m c)) (ts ++ rest)))
group_outside {inside = inside} b m c o s ts rest inner e =
    opens_outside b m c o ((inside ++ lexeme.Close b s ∷ ts) ++ rest)
    ∙ ap one_longer
    (ap (item_end (begun (b ∷ []) false (called_after b m c))) (split inside (lexeme.Close b s) ts rest)
    ∙ balanced inner b [] false (called_after b m c) (lexeme.Close b s ∷ (ts ++ rest))
    ∙ ap (past inside) (closes_outside b false (called_after b m c) s (ts ++ rest) e))

-- ---- whole items

group_whole : {inside : List Lexeme} (b : Bracket) (m c : Bool) (o s : TokenText) (ts rest : List Lexeme) → Balanced inside → ends_body b (called_after b m c) [] ≡ false
    → item_end (begun [] false (called_after b m c)) (ts ++ rest) ≡ Whole (length ts)
    → item_end (begun [] m c) ((lexeme.Open b o ∷ inside ++ lexeme.Close b s ∷ ts) ++ rest) ≡ Whole (length (lexeme.Open b o ∷ inside ++ lexeme.Close b s ∷ ts))
group_whole {inside = inside} b m c o s ts rest inner e last =
    group_outside b m c o s ts rest inner e ∙ ap (λ end. past (lexeme.Open b o ∷ inside) (one_longer end)) last ∙ past-whole (lexeme.Open b o ∷ inside) (lexeme.Close b s ∷ ts)

pub whole : {m c : Bool} {one : List Lexeme} → EndsItem m c one → (rest : List Lexeme) → item_end (begun [] m c) (one ++ rest) ≡ Whole (length one)
whole {m = m} {c = c} (EndsItem.semicolon s) rest = semicolon_ends m c s rest
whole {m = m} (EndsItem.body {inside = inside} o s inner) rest =
    opens_outside Brace m true o ((inside ++ lexeme.Close Brace s ∷ []) ++ rest)
    ∙ ap one_longer
    (ap (item_end (begun (Brace ∷ []) false true)) (split inside (lexeme.Close Brace s) [] rest)
    ∙ balanced inner Brace [] false true (lexeme.Close Brace s ∷ rest)
    ∙ ap (past inside) (closes_body false s rest)
    ∙ past-whole inside (lexeme.Close Brace s ∷ []))
whole {m = m} {c = c} (EndsItem.token {ts = ts} t plain more) rest = outside m c t (ts ++ rest) plain ∙ ap one_longer (whole more rest)
whole {m = m} {c = c} (EndsItem.round {ts = ts} o s inner more) rest = group_whole Round m c o s ts rest inner refl (whole more rest)
whole {m = m} {c = c} (EndsItem.square {ts = ts} o s inner more) rest = group_whole Square m c o s ts rest inner refl (whole more rest)
whole {m = m} (EndsItem.braces {ts = ts} o s inner more) rest = group_whole Brace m false o s ts rest inner refl (whole more rest)

-- ---- items that do not end

inside_open : {ts : List Lexeme} {opened : List Bracket} → Inside ts opened → (b : Bracket) (bs : List Bracket) (m c : Bool) (rest : List Lexeme)
    → item_end (begun (b ∷ bs) m c) (ts ++ rest) ≡ past ts (item_end (begun (opened ++ b ∷ bs) m c) rest)
inside_open Inside.nothing b bs m c rest = refl
inside_open (Inside.token {ts = ts} t plain more) b bs m c rest = within b bs m c t (ts ++ rest) plain ∙ ap one_longer (inside_open more b bs m c rest)
inside_open (Inside.group {inside = inside} {ts = ts} {opened = opened} d o s inner more) b bs m c rest =
    opens_within b d bs m c o ((inside ++ lexeme.Close d s ∷ ts) ++ rest)
    ∙ ap one_longer
    (ap (item_end (begun (d ∷ b ∷ bs) m c)) (split inside (lexeme.Close d s) ts rest)
    ∙ balanced inner d (b ∷ bs) m c (lexeme.Close d s ∷ (ts ++ rest))
    ∙ ap (past inside) (closes_within d b bs m c s (ts ++ rest) ∙ ap one_longer (inside_open more b bs m c rest))
    ∙ sym (past-append inside (lexeme.Close d s ∷ ts) (item_end (begun (opened ++ b ∷ bs) m c) rest)))
inside_open (Inside.unclosed {ts = ts} {opened = opened} d o more) b bs m c rest =
    opens_within b d bs m c o (ts ++ rest)
    ∙ ap one_longer (inside_open more d (b ∷ bs) m c rest ∙ ap (λ (bs : List Bracket). past ts (item_end (begun bs m c) rest)) (sym (append_assoc opened (d ∷ []) (b ∷ bs))))

-- the state after the tokens of an item that does not end
pub record Reaches (m c : Bool) (ts : List Lexeme) (opened : List Bracket) : Type 0 where
  pub marks : Bool
  pub called : Bool
  pub reaches : (rest : List Lexeme) → item_end (begun [] m c) (ts ++ rest) ≡ past ts (item_end (begun opened marks called) rest)

group_reaches : {inside : List Lexeme} (b : Bracket) (m c : Bool) (o s : TokenText) (ts : List Lexeme) (opened : List Bracket) → Balanced inside → ends_body b (called_after b m c) [] ≡ false
    → Reaches false (called_after b m c) ts opened → Reaches m c (lexeme.Open b o ∷ inside ++ lexeme.Close b s ∷ ts) opened
group_reaches {inside = inside} b m c o s ts opened inner e r = record {
  marks = r.marks;
  called = r.called;
  reaches = λ rest.
      group_outside b m c o s ts rest inner e ∙ ap (λ end. past (lexeme.Open b o ∷ inside) (one_longer end)) (r.reaches rest)
      ∙ sym (past-append (lexeme.Open b o ∷ inside) (lexeme.Close b s ∷ ts) (item_end (begun opened r.marks r.called) rest));
}

token_reaches : (m c : Bool) (t : Lexeme) (ts : List Lexeme) (opened : List Bracket) → is_plain t ≡ true → Reaches (is_gty t) (c && not (is_equals t)) ts opened → Reaches m c (t ∷ ts) opened
token_reaches m c t ts opened plain r = record { marks = r.marks; called = r.called; reaches = λ rest. outside m c t (ts ++ rest) plain ∙ ap one_longer (r.reaches rest) }

pub reaches : {m c : Bool} {ts : List Lexeme} {opened : List Bracket} → BeginsItem m c ts opened → Reaches m c ts opened
reaches {m = m} {c = c} BeginsItem.nothing = record { marks = m; called = c; reaches = λ rest. refl }
reaches {m = m} {c = c} (BeginsItem.token {ts = ts} {opened = opened} t plain more) = token_reaches m c t ts opened plain (reaches more)
reaches {m = m} {c = c} (BeginsItem.round {ts = ts} {opened = opened} o s inner more) = group_reaches Round m c o s ts opened inner refl (reaches more)
reaches {m = m} {c = c} (BeginsItem.square {ts = ts} {opened = opened} o s inner more) = group_reaches Square m c o s ts opened inner refl (reaches more)
reaches {m = m} (BeginsItem.braces {ts = ts} {opened = opened} o s inner more) = group_reaches Brace m false o s ts opened inner refl (reaches more)
reaches {m = m} {c = c} (BeginsItem.unclosed {ts = ts} {opened = opened} b o more) = record {
  marks = false;
  called = called_after b m c;
  reaches = λ rest. opens_outside b m c o (ts ++ rest) ∙ ap one_longer (inside_open more b [] false (called_after b m c) rest);
}

pub unended : {m c : Bool} {ts : List Lexeme} {opened : List Bracket} → BeginsItem m c ts opened → item_end (begun [] m c) ts ≡ Unended
unended {m = m} {c = c} {ts = ts} {opened = opened} begins =
    let r = reaches begins in
    ap (item_end (begun [] m c)) (sym (append-nil ts)) ∙ r.reaches [] ∙ ap (past ts) (item_end-nil (begun opened r.marks r.called)) ∙ past-unended ts

pub unmatched : {m c : Bool} {front : List Lexeme} {opened : List Bracket} (b : Bracket) (s : TokenText) (ts : List Lexeme) → BeginsItem m c front opened → IsUnmatched b opened
    → item_end (begun [] m c) (front ++ lexeme.Close b s ∷ ts) ≡ Unmatched s.start
unmatched {front = front} {opened = opened} b s ts begins none =
    let r = reaches begins in
    r.reaches (lexeme.Close b s ∷ ts) ∙ ap (past front) (stops opened r.marks r.called b s ts none) ∙ past-unmatched front s.start
