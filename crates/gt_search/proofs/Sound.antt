-- What searching one token at a time finds is what the relation of the search says.
use Rattle.std.proofs.Common.{◌≡◌, ◌≢◌, ℕ, suc, ◌⊎◌, inl, inr, Bool, true, false, List, [], ◌∷◌, ◌++◌, length, refl, ap, subst, ◌∙◌, sym, append_assoc}
use Rattle.std.specs.Prelude.{◌&&◌, not, if◌then◌else◌}
use Rattle.std.proofs.lemmas.Bool.{false≢true}
use Rattle.gt_search.specs.declared.lexeme.TokenText.{TokenText}
use Rattle.gt_search.specs.declared.lexeme.Bracket.{Bracket}
use Rattle.gt_search.specs.declared.lexeme.Bracket.TheVariants.{Round, Square, Brace}
use Rattle.gt_search.specs.declared.lexeme.Lexeme.{Lexeme}
use Rattle.gt_search.specs.declared.lexeme.Lexeme.TheVariants as lexeme
use Rattle.gt_search.specs.declared.search.Begun.{Begun}
use Rattle.gt_search.specs.declared.search.ItemEnd.{ItemEnd}
use Rattle.gt_search.specs.declared.search.ItemEnd.TheVariants.{Whole, Unmatched, Unended}
use Rattle.gt_search.specs.declared.search.Step.TheVariants.{Goes, Ends}
use Rattle.gt_search.specs.Search.{is_no_bracket, is_gty, is_equals, Balanced, EndsItem, Inside, BeginsItem, IsUnmatched}
use Rattle.gt_search.specs.Searching.{lowest, called_after, ends_body, closed_with, one_longer, end_after, item_end}

-- ---- what stands after the tokens so far

-- tokens after a bracket, which close it, and something after that
pub record Closed (b : Bracket) (P : List Lexeme → Type 0) (ts : List Lexeme) : Type 0 where
  pub inner : List Lexeme
  pub following : List Lexeme
  pub spot : TokenText
  pub closes : Balanced inner
  pub is : ts ≡ inner ++ lexeme.Close b spot ∷ following
  pub next : P following

-- tokens that close some brackets, the last one first, and something after them
abbrev pub Within : (List Lexeme → Type 0) → List Bracket → List Lexeme → Type 0
Within P [] ts = P ts
Within P (b ∷ bs) ts = Closed b (Within P bs) ts

-- how an item ends after a bracket that stands in no other
abbrev pub EndsAfter : Bracket → (marks called : Bool) → List Lexeme → Type 0
EndsAfter Brace marks true ts = ts ≡ []
EndsAfter b marks called ts = EndsItem marks called ts

-- the tokens with which an item ends that has begun so
abbrev pub Ending : List Bracket → (marks called : Bool) → List Lexeme → Type 0
Ending [] marks called ts = EndsItem marks called ts
Ending (b ∷ bs) marks called ts = Within (EndsAfter (lowest b bs) marks called) (b ∷ bs) ts

-- tokens that close no bracket that was open, and those that are open after them
pub record Stays (bs : List Bracket) (ts : List Lexeme) (opened : List Bracket) : Type 0 where
  pub more : List Bracket
  pub stays : Inside ts more
  pub is : opened ≡ more ++ bs

-- tokens that close some of the brackets that are open, and with which the item does not end
abbrev pub OpenWithin : (List Lexeme → List Bracket → Type 0) → List Bracket → List Lexeme → List Bracket → Type 0
OpenWithin P [] ts opened = P ts opened
OpenWithin P (b ∷ bs) ts opened = Stays (b ∷ bs) ts opened ⊎ Closed b (λ following. OpenWithin P bs following opened) ts

abbrev pub BeginsAfter : Bracket → (marks called : Bool) → List Lexeme → List Bracket → Type 0
BeginsAfter Brace marks true ts opened = ⊥
BeginsAfter b marks called ts opened = BeginsItem marks called ts opened

-- tokens with which an item that has begun so does not end, and the brackets that are open after them
abbrev pub Going : List Bracket → (marks called : Bool) → List Lexeme → List Bracket → Type 0
Going [] marks called ts opened = BeginsItem marks called ts opened
Going (b ∷ bs) marks called ts opened = OpenWithin (BeginsAfter (lowest b bs) marks called) (b ∷ bs) ts opened

-- ---- one more token before

-- a token that is no bracket
token_closed : {b : Bracket} {P : List Lexeme → Type 0} {ts : List Lexeme} (t : Lexeme) → is_no_bracket t ≡ true → Closed b P ts → Closed b P (t ∷ ts)
token_closed t plain c = record { inner = t ∷ c.inner; following = c.following; spot = c.spot; closes = Balanced.token t plain c.closes; is = ap (λ ts. t ∷ ts) c.is; next = c.next }

-- a bracket that opens within another
regroup : (o : Lexeme) (a : List Lexeme) (c : Lexeme) (a' : List Lexeme) (c' : Lexeme) (rest : List Lexeme) → o ∷ a ++ c ∷ (a' ++ c' ∷ rest) ≡ (o ∷ a ++ c ∷ a') ++ c' ∷ rest
regroup o a c a' c' rest = ap (λ ts. o ∷ ts) (sym (append_assoc a (c ∷ a') (c' ∷ rest)))

open_closed : {b d : Bracket} {P : List Lexeme → Type 0} {ts : List Lexeme} (o : TokenText) → Closed b (Closed d P) ts → Closed d P (lexeme.Open b o ∷ ts)
open_closed {b = b} {d = d} o c = record {
  inner = lexeme.Open b o ∷ c.inner ++ lexeme.Close b c.spot ∷ c.next.inner;
  following = c.next.following;
  spot = c.next.spot;
  closes = Balanced.group b o c.spot c.closes c.next.closes;
  is = ap (λ ts. lexeme.Open b o ∷ ts) (c.is ∙ ap (λ ts. c.inner ++ lexeme.Close b c.spot ∷ ts) c.next.is) ∙ regroup (lexeme.Open b o) c.inner (lexeme.Close b c.spot) c.next.inner (lexeme.Close d c.next.spot) c.next.following;
  next = c.next.next;
}

-- a bracket that closes
closed_here : {b : Bracket} {P : List Lexeme → Type 0} {ts : List Lexeme} (s : TokenText) → P ts → Closed b P (lexeme.Close b s ∷ ts)
closed_here {ts = ts} s p = record { inner = []; following = ts; spot = s; closes = Balanced.nothing; is = refl; next = p }

-- the same of an item that does not end
token_open : (P : List Lexeme → List Bracket → Type 0) {bs : List Bracket} {b : Bracket} {ts : List Lexeme} {opened : List Bracket} (t : Lexeme) → is_no_bracket t ≡ true
    → OpenWithin P (b ∷ bs) ts opened → OpenWithin P (b ∷ bs) (t ∷ ts) opened
token_open P t plain (inl s) = inl (record { more = s.more; stays = Inside.token t plain s.stays; is = s.is })
token_open P t plain (inr c) = inr (token_closed t plain c)

open_after : (P : List Lexeme → List Bracket → Type 0) {bs : List Bracket} {b d : Bracket} {ts : List Lexeme} {opened : List Bracket} (o : TokenText)
    (c : Closed b (λ following. OpenWithin P (d ∷ bs) following opened) ts) → OpenWithin P (d ∷ bs) c.following opened → OpenWithin P (d ∷ bs) (lexeme.Open b o ∷ ts) opened
open_after P {b = b} o c (inl s) = inl (record {
  more = s.more;
  stays = subst (λ ts. Inside (lexeme.Open b o ∷ ts) s.more) (sym c.is) (Inside.group b o c.spot c.closes s.stays);
  is = s.is;
})
open_after P {bs = bs} {d = d} {opened = opened} o c (inr n) =
    inr (open_closed {P = λ following. OpenWithin P bs following opened} o (record { inner = c.inner; following = c.following; spot = c.spot; closes = c.closes; is = c.is; next = n }))

open_open : (P : List Lexeme → List Bracket → Type 0) {bs : List Bracket} {b d : Bracket} {ts : List Lexeme} {opened : List Bracket} (o : TokenText)
    → OpenWithin P (b ∷ d ∷ bs) ts opened → OpenWithin P (d ∷ bs) (lexeme.Open b o ∷ ts) opened
open_open P {bs = bs} {b = b} {d = d} o (inl s) =
    inl (record { more = s.more ++ b ∷ []; stays = Inside.unclosed b o s.stays; is = s.is ∙ sym (append_assoc s.more (b ∷ []) (d ∷ bs)) })
open_open P o (inr c) = open_after P o c c.next

-- ---- a bracket that opens where no other is open

first_ends : (b : Bracket) (marks called : Bool) (o : TokenText) {ts : List Lexeme} → Closed b (EndsAfter b false (called_after b marks called)) ts → EndsItem marks called (lexeme.Open b o ∷ ts)
first_ends Round marks called o c = subst (λ ts. EndsItem marks called (lexeme.Open Round o ∷ ts)) (sym c.is) (EndsItem.round o c.spot c.closes c.next)
first_ends Square marks called o c = subst (λ ts. EndsItem marks called (lexeme.Open Square o ∷ ts)) (sym c.is) (EndsItem.square o c.spot c.closes c.next)
first_ends Brace marks true o c =
    subst (λ ts. EndsItem marks true (lexeme.Open Brace o ∷ ts)) (sym (c.is ∙ ap (λ ts. c.inner ++ lexeme.Close Brace c.spot ∷ ts) c.next)) (EndsItem.body o c.spot c.closes)
first_ends Brace marks false o c = subst (λ ts. EndsItem marks false (lexeme.Open Brace o ∷ ts)) (sym c.is) (EndsItem.braces o c.spot c.closes c.next)

first_begins : (b : Bracket) (marks called : Bool) (o : TokenText) {ts : List Lexeme} {opened : List Bracket}
    → OpenWithin (BeginsAfter b false (called_after b marks called)) (b ∷ []) ts opened → BeginsItem marks called (lexeme.Open b o ∷ ts) opened
first_begins b marks called o {ts = ts} (inl s) = subst (λ opened. BeginsItem marks called (lexeme.Open b o ∷ ts) opened) (sym s.is) (BeginsItem.unclosed b o s.stays)
first_begins Round marks called o {opened = opened} (inr c) = subst (λ ts. BeginsItem marks called (lexeme.Open Round o ∷ ts) opened) (sym c.is) (BeginsItem.round o c.spot c.closes c.next)
first_begins Square marks called o {opened = opened} (inr c) = subst (λ ts. BeginsItem marks called (lexeme.Open Square o ∷ ts) opened) (sym c.is) (BeginsItem.square o c.spot c.closes c.next)
first_begins Brace marks true o (inr c) = absurd c.next
first_begins Brace marks false o {opened = opened} (inr c) = subst (λ ts. BeginsItem marks false (lexeme.Open Brace o ∷ ts) opened) (sym c.is) (BeginsItem.braces o c.spot c.closes c.next)

-- ---- what the end of an item tells

pub record EndsSo (bs : List Bracket) (marks called : Bool) (ts : List Lexeme) (len : ℕ) : Type 0 where
  pub one : List Lexeme
  pub following : List Lexeme
  pub is : ts ≡ one ++ following
  pub len_is : len ≡ length one
  pub ends : Ending bs marks called one

pub record StopsSo (bs : List Bracket) (marks called : Bool) (ts : List Lexeme) (at : ℕ) : Type 0 where
  pub front : List Lexeme
  pub opened : List Bracket
  pub bracket : Bracket
  pub spot : TokenText
  pub following : List Lexeme
  pub is : ts ≡ front ++ lexeme.Close bracket spot ∷ following
  pub at_is : at ≡ spot.start
  pub begins : Going bs marks called front opened
  pub unmatched : IsUnmatched bracket opened

abbrev pub Tells : List Bracket → (marks called : Bool) → List Lexeme → ItemEnd → Type 0
Tells bs marks called ts (Whole len) = EndsSo bs marks called ts len
Tells bs marks called ts (Unmatched at) = StopsSo bs marks called ts at
Tells bs marks called ts Unended = (opened : List Bracket) × Going bs marks called ts opened

tells_longer : (bs bs' : List Bracket) (m m' c c' : Bool) (t : Lexeme) (ts : List Lexeme) (end : ItemEnd)
    → ((one : List Lexeme) → Ending bs' m' c' one → Ending bs m c (t ∷ one)) → ((front : List Lexeme) (opened : List Bracket) → Going bs' m' c' front opened → Going bs m c (t ∷ front) opened)
    → Tells bs' m' c' ts end → Tells bs m c (t ∷ ts) (one_longer end)
tells_longer bs bs' m m' c c' t ts (Whole len) f g e = record { one = t ∷ e.one; following = e.following; is = ap (λ ts. t ∷ ts) e.is; len_is = ap suc e.len_is; ends = f e.one e.ends }
tells_longer bs bs' m m' c c' t ts (Unmatched at) f g e = record {
  front = t ∷ e.front;
  opened = e.opened;
  bracket = e.bracket;
  spot = e.spot;
  following = e.following;
  is = ap (λ ts. t ∷ ts) e.is;
  at_is = e.at_is;
  begins = g e.front e.opened e.begins;
  unmatched = e.unmatched;
}
tells_longer bs bs' m m' c c' t ts Unended f g (opened, e) = (opened, g ts opened e)

-- the state of an item
abbrev pub begun : List Bracket → (marks called : Bool) → Begun
begun bs marks called = record { opened = bs; marks = marks; called = called }

-- a closing bracket
stops_here : (bs : List Bracket) (m c : Bool) (b : Bracket) (s : TokenText) (ts : List Lexeme) → Going bs m c [] bs → IsUnmatched b bs → StopsSo bs m c (lexeme.Close b s ∷ ts) s.start
stops_here bs m c b s ts going unmatched = record { front = []; opened = bs; bracket = b; spot = s; following = ts; is = refl; at_is = refl; begins = going; unmatched = unmatched }

nothing_closed : (b : Bracket) (bs : List Bracket) (m c : Bool) → Going (b ∷ bs) m c [] (b ∷ bs)
nothing_closed b bs m c = inl (record { more = []; stays = Inside.nothing; is = refl })

close_deeper : (b d : Bracket) (bs : List Bracket) (m c : Bool) (s : TokenText) (ts : List Lexeme) (end : ItemEnd) → Tells (d ∷ bs) m c ts end → Tells (b ∷ d ∷ bs) m c (lexeme.Close b s ∷ ts) (one_longer end)
close_deeper b d bs m c s ts end e =
    tells_longer (b ∷ d ∷ bs) (d ∷ bs) m m c c (lexeme.Close b s) ts end (λ one ends. closed_here s ends) (λ front opened going. inr (closed_here s going)) e

close_last : (b : Bracket) (m c : Bool) (s : TokenText) (ts : List Lexeme) (end : ItemEnd) → ends_body b c [] ≡ false → Tells [] m c ts end → Tells (b ∷ []) m c (lexeme.Close b s ∷ ts) (one_longer end)
close_last Round m c s ts end e tells =
    tells_longer (Round ∷ []) [] m m c c (lexeme.Close Round s) ts end (λ one ends. closed_here s ends) (λ front opened going. inr (closed_here s going)) tells
close_last Square m c s ts end e tells =
    tells_longer (Square ∷ []) [] m m c c (lexeme.Close Square s) ts end (λ one ends. closed_here s ends) (λ front opened going. inr (closed_here s going)) tells
close_last Brace m true s ts end e tells = absurd (false≢true (sym e))
close_last Brace m false s ts end e tells =
    tells_longer (Brace ∷ []) [] m m false false (lexeme.Close Brace s) ts end (λ one ends. closed_here s ends) (λ front opened going. inr (closed_here s going)) tells

close_body : (m : Bool) (s : TokenText) (ts : List Lexeme) → Tells (Brace ∷ []) m true (lexeme.Close Brace s ∷ ts) (Whole 1)
close_body m s ts = record { one = lexeme.Close Brace s ∷ []; following = ts; is = refl; len_is = refl; ends = closed_here s refl }

-- a closing bracket of the kind that was opened last
matched : (b : Bracket) (bs : List Bracket) (m c : Bool) (s : TokenText) (ts : List Lexeme) → Tells bs m c ts (item_end (begun bs m c) ts)
    → Tells (b ∷ bs) m c (lexeme.Close b s ∷ ts) (end_after (λ next. item_end next ts) (if ends_body b c bs then Ends else Goes (begun bs m c)))
matched Round [] m c s ts e = close_last Round m c s ts (item_end (begun [] m c) ts) refl e
matched Square [] m c s ts e = close_last Square m c s ts (item_end (begun [] m c) ts) refl e
matched Brace [] m true s ts e = close_body m s ts
matched Brace [] m false s ts e = close_last Brace m false s ts (item_end (begun [] m false) ts) refl e
matched Round (d ∷ bs) m c s ts e = close_deeper Round d bs m c s ts (item_end (begun (d ∷ bs) m c) ts) e
matched Square (d ∷ bs) m c s ts e = close_deeper Square d bs m c s ts (item_end (begun (d ∷ bs) m c) ts) e
matched Brace (d ∷ bs) m c s ts e = close_deeper Brace d bs m c s ts (item_end (begun (d ∷ bs) m c) ts) e

unmatched : (a b : Bracket) (bs : List Bracket) (m c : Bool) (s : TokenText) (ts : List Lexeme) → b ≢ a → Tells (a ∷ bs) m c (lexeme.Close b s ∷ ts) (Unmatched s.start)
unmatched a b bs m c s ts ne = stops_here (a ∷ bs) m c b s ts (nothing_closed a bs m c) ne

closing : (a b : Bracket) (bs : List Bracket) (m c : Bool) (s : TokenText) (ts : List Lexeme) → Tells bs m c ts (item_end (begun bs m c) ts)
    → Tells (a ∷ bs) m c (lexeme.Close b s ∷ ts) (end_after (λ next. item_end next ts) (closed_with (a ∷ bs) m c b s.start))
closing Round Round bs m c s ts e = matched Round bs m c s ts e
closing Round Square bs m c s ts e = unmatched Round Square bs m c s ts (λ e. cc)
closing Round Brace bs m c s ts e = unmatched Round Brace bs m c s ts (λ e. cc)
closing Square Round bs m c s ts e = unmatched Square Round bs m c s ts (λ e. cc)
closing Square Square bs m c s ts e = matched Square bs m c s ts e
closing Square Brace bs m c s ts e = unmatched Square Brace bs m c s ts (λ e. cc)
closing Brace Round bs m c s ts e = unmatched Brace Round bs m c s ts (λ e. cc)
closing Brace Square bs m c s ts e = unmatched Brace Square bs m c s ts (λ e. cc)
closing Brace Brace bs m c s ts e = matched Brace bs m c s ts e

-- how an item ends that has begun so tells what stands after
pub tells : (bs : List Bracket) (m c : Bool) (ts : List Lexeme) → Tells bs m c ts (item_end (begun bs m c) ts)
unfolding item_end
tells [] m c [] = ([], BeginsItem.nothing)
tells (b ∷ bs) m c [] = (b ∷ bs, nothing_closed b bs m c)
tells [] m c (lexeme.Open b s ∷ ts) =
    tells_longer [] (b ∷ []) m false c (called_after b m c) (lexeme.Open b s) ts (item_end (begun (b ∷ []) false (called_after b m c)) ts)
    (λ one ends. first_ends b m c s ends) (λ front opened going. first_begins b m c s going) (tells (b ∷ []) false (called_after b m c) ts)
tells (d ∷ bs) m c (lexeme.Open b s ∷ ts) =
    tells_longer (d ∷ bs) (b ∷ d ∷ bs) m m c c (lexeme.Open b s) ts (item_end (begun (b ∷ d ∷ bs) m c) ts)
    (λ one ends. open_closed s ends) (λ front opened going. open_open (BeginsAfter (lowest d bs) m c) s going) (tells (b ∷ d ∷ bs) m c ts)
tells [] m c (lexeme.Close b s ∷ ts) = stops_here [] m c b s ts BeginsItem.nothing tt
tells (a ∷ bs) m c (lexeme.Close b s ∷ ts) = closing a b bs m c s ts (tells bs m c ts)
tells [] m c (lexeme.Semicolon s ∷ ts) = record { one = lexeme.Semicolon s ∷ []; following = ts; is = refl; len_is = refl; ends = EndsItem.semicolon s }
tells [] m c (t ∷ ts) =
    tells_longer [] [] m (is_gty t) c (c && not (is_equals t)) t ts (item_end (begun [] (is_gty t) (c && not (is_equals t))) ts)
    (λ one ends. EndsItem.token t refl ends) (λ front opened going. BeginsItem.token t refl going) (tells [] (is_gty t) (c && not (is_equals t)) ts)
tells (b ∷ bs) m c (t ∷ ts) =
    tells_longer (b ∷ bs) (b ∷ bs) m m c c t ts (item_end (begun (b ∷ bs) m c) ts)
    (λ one ends. token_closed t refl ends) (λ front opened going. token_open (BeginsAfter (lowest b bs) m c) t refl going) (tells (b ∷ bs) m c ts)
