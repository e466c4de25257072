-- The search has one answer for each list of tokens.
use Rattle.std.proofs.Common.{◌≡◌, ℕ, zero, suc, ◌<◌, Bool, true, false, List, [], ◌∷◌, ◌++◌, length, take, drop, Some, None, Option, refl, ap, subst, ◌∙◌, sym, arith}
use Rattle.std.specs.Prelude.{if◌then◌else◌}
use Rattle.std.proofs.lemmas.Bool.{false≢true}
use Rattle.std.proofs.lemmas.List.{length-append, take_at, drop_at}
use Rattle.gt_search.specs.declared.faults.TheConstants.{UNCLOSED, UNEXPECTED}
use Rattle.gt_search.specs.declared.lexeme.TokenText.{TokenText}
use Rattle.gt_search.specs.declared.lexeme.Bracket.{Bracket}
use Rattle.gt_search.specs.declared.lexeme.Bracket.TheVariants.{Round, Square, Brace}
use Rattle.gt_search.specs.declared.lexeme.Lexeme.{Lexeme}
use Rattle.gt_search.specs.declared.lexeme.Lexeme.TheVariants as lexeme
use Rattle.gt_search.specs.declared.search.End.{End}
use Rattle.gt_search.specs.declared.search.End.TheVariants.{Complete, Fails}
use Rattle.gt_search.specs.declared.search.ItemEnd.{ItemEnd}
use Rattle.gt_search.specs.declared.search.ItemEnd.TheVariants.{Whole, Unmatched}
use Rattle.gt_search.specs.declared.search.Turn.{Turn}
use Rattle.gt_search.specs.declared.search.Turn.TheVariants.{Wrapper, WrapperEnd, Item, Last}
use Rattle.gt_search.specs.Search.{EndsItem, BeginsItem, begins_wrapper, IsWrapper, ClosesWrapper, Searches, is_plain, unclosed_place, outermost}
use Rattle.gt_search.specs.Searching.{none_begun, item_end, wrapper_at, item_turn, plain_turn, turn_with, turn_at}
use Rattle.gt_search.proofs.Turns.{WrapperTells, wrapper_tells, PassesSo, LeavesSo, TurnTells, turn_tells, is_close_brace, EndsItem-some, IsWrapper-some, pass, take_item}
use Rattle.gt_search.proofs.Determined.{whole, unended, unmatched}

-- items, and how the search ends
pub record Found : Type 0 where
  pub items : List (List Lexeme)
  pub end : End

abbrev pub with_item : List Lexeme → Found → Found
with_item one found = record { items = one ∷ found.items; end = found.end }

abbrev pub found_after : (List ℕ → List Lexeme → Found) → List ℕ → List Lexeme → Turn → Found
found_after go ws ts (Wrapper brace len) = go (brace ∷ ws) (drop len ts)
found_after go [] ts WrapperEnd = record { items = []; end = Complete }
found_after go (w ∷ ws) ts WrapperEnd = go ws (drop 1 ts)
found_after go ws ts (Item len) = with_item (take len ts) (go ws (drop len ts))
found_after go ws ts (Last end) = record { items = []; end = end }

-- what is found turn by turn, in fewer than so many turns
pub found : ℕ → List ℕ → List Lexeme → Found
found zero ws ts = record { items = []; end = Complete }
found (suc n) ws ts = found_after (found n) ws ts (turn_at ws ts)

-- ---- it is so

rest_shorter : (ts front following : List Lexeme) (len n : ℕ) → ts ≡ front ++ following → len ≡ length front → 0 < len → length ts < suc n → length (drop len ts) < n
rest_shorter ts front following len n is len_is some lt =
    let rest : drop len ts ≡ following = ap (drop len) is ∙ drop_at front following len (sym len_is) in
    omega (arith, ap length rest, ap length is, length-append front following)

abbrev pub IsSo : List ℕ → List Lexeme → Found → Type 0
IsSo ws ts f = Searches ws ts f.items f.end

leaves_so : (go : List ℕ → List Lexeme → Found) (ws : List ℕ) (ts : List Lexeme) (n : ℕ) → ((ws : List ℕ) (ts : List Lexeme) → length ts < n → IsSo ws ts (go ws ts)) → length ts < suc n → LeavesSo ws ts
    → IsSo ws ts (found_after go ws ts WrapperEnd)
leaves_so go [] ts n goes lt l = let are : [] ≡ l.brace ∷ l.inner = l.are in absurd cc
leaves_so go (w ∷ ws) ts n goes lt l =
    let are : w ∷ ws ≡ l.brace ∷ l.inner = l.are in
    let inner : l.inner ≡ ws = cc in
    let p : PassesSo (w ∷ ws) ws ts 1 = subst (λ (inner : List ℕ). PassesSo (w ∷ ws) inner ts 1) inner l.passed in
    pass (w ∷ ws) ws ts 1 p (go ws (drop 1 ts)).items (go ws (drop 1 ts)).end (goes ws (drop 1 ts) (rest_shorter ts p.front p.following 1 n p.is p.len_is p.some lt))

after_so : (go : List ℕ → List Lexeme → Found) (ws : List ℕ) (ts : List Lexeme) (n : ℕ) → ((ws : List ℕ) (ts : List Lexeme) → length ts < n → IsSo ws ts (go ws ts)) → length ts < suc n
    → (turn : Turn) → TurnTells ws ts turn → IsSo ws ts (found_after go ws ts turn)
after_so go ws ts n goes lt (Wrapper brace len) p =
    pass ws (brace ∷ ws) ts len p (go (brace ∷ ws) (drop len ts)).items (go (brace ∷ ws) (drop len ts)).end (goes (brace ∷ ws) (drop len ts) (rest_shorter ts p.front p.following len n p.is p.len_is p.some lt))
after_so go ws ts n goes lt WrapperEnd l = leaves_so go ws ts n goes lt l
after_so go ws ts n goes lt (Item len) p =
    take_item ws ts len p (go ws (drop len ts)).items (go ws (drop len ts)).end (goes ws (drop len ts) (rest_shorter ts p.one p.following len n p.is p.len_is p.some lt))
after_so go ws ts n goes lt (Last end) searches = searches

pub found_so : (n : ℕ) (ws : List ℕ) (ts : List Lexeme) → length ts < n → IsSo ws ts (found n ws ts)
unfolding found
found_so zero ws ts lt = absurd (omega arith)
found_so (suc n) ws ts lt = after_so (found n) ws ts n (found_so n) lt (turn_at ws ts) (turn_tells ws ts)

pub some_search : (ts : List Lexeme) → (items : List (List Lexeme)) × (end : End) × Searches [] ts items end
some_search ts = ((found (suc (length ts)) [] ts).items, (found (suc (length ts)) [] ts).end, found_so (suc (length ts)) [] ts (omega arith))

-- ---- nothing else is so

turn_at-wrapper : {front : List Lexeme} {brace : ℕ} (ws : List ℕ) (ts : List Lexeme) → IsWrapper front brace → begins_wrapper (front ++ ts) ≡ true → turn_at ws (front ++ ts) ≡ Wrapper brace (length front)
unfolding turn_at wrapper_at begins_wrapper
turn_at-wrapper ws ts (IsWrapper.extern_c e q b) begins = ap (λ x. turn_with ws (lexeme.Extern e ∷ lexeme.Quoted q ∷ lexeme.Open Brace b ∷ ts) (if x then Some (b.start, 3) else None)) begins
turn_at-wrapper ws ts (IsWrapper.namespace r b) begins = ap (λ x. turn_with ws (lexeme.Reserved r ∷ lexeme.Open Brace b ∷ ts) (if x then Some (b.start, 2) else None)) begins
turn_at-wrapper ws ts (IsWrapper.named_namespace r n b) begins = ap (λ x. turn_with ws (lexeme.Reserved r ∷ lexeme.Name n ∷ lexeme.Open Brace b ∷ ts) (if x then Some (b.start, 3) else None)) begins

turn_with-plain : (ws : List ℕ) (ts : List Lexeme) (w : Option (ℕ × ℕ)) → WrapperTells ts w → begins_wrapper ts ≡ false → turn_with ws ts w ≡ plain_turn ws ts
turn_with-plain ws ts (Some w) tells none = absurd (false≢true (sym none ∙ tells.begins))
turn_with-plain ws ts None tells none = refl

turn_at-plain : (ws : List ℕ) (ts : List Lexeme) → begins_wrapper ts ≡ false → turn_at ws ts ≡ plain_turn ws ts
unfolding turn_at
turn_at-plain ws ts none = turn_with-plain ws ts (wrapper_at ts) (wrapper_tells ts) none

no_brace : (ws : List ℕ) (t : Lexeme) (ts : List Lexeme) → is_close_brace t ≡ false → plain_turn ws (t ∷ ts) ≡ item_turn ws t (item_end none_begun (t ∷ ts))
no_brace [] t ts e = refl
no_brace (w ∷ ws) (lexeme.Close Brace s) ts e = absurd (false≢true (sym e))
no_brace (w ∷ ws) t ts e = refl

plain_no_brace : (t : Lexeme) → is_plain t ≡ true → is_close_brace t ≡ false
plain_no_brace (lexeme.Close b s) plain = absurd (false≢true plain)
plain_no_brace t plain = refl

-- what stands first in an item is no closing brace
record First (ts : List Lexeme) : Type 0 where
  token : Lexeme
  others : List Lexeme
  is : ts ≡ token ∷ others
  no_close : is_close_brace token ≡ false

first_of : (t : Lexeme) (ts : List Lexeme) → is_close_brace t ≡ false → First (t ∷ ts)
first_of t ts e = record { token = t; others = ts; is = refl; no_close = e }

EndsItem-first : {m c : Bool} {one : List Lexeme} → EndsItem m c one → First one
EndsItem-first (EndsItem.semicolon s) = first_of (lexeme.Semicolon s) [] refl
EndsItem-first (EndsItem.body {inside = inside} o c inner) = first_of (lexeme.Open Brace o) (inside ++ lexeme.Close Brace c ∷ []) refl
EndsItem-first (EndsItem.token {ts = ts} t plain more) = first_of t ts (plain_no_brace t plain)
EndsItem-first (EndsItem.round {inside = inside} {ts = ts} o c inner more) = first_of (lexeme.Open Round o) (inside ++ lexeme.Close Round c ∷ ts) refl
EndsItem-first (EndsItem.square {inside = inside} {ts = ts} o c inner more) = first_of (lexeme.Open Square o) (inside ++ lexeme.Close Square c ∷ ts) refl
EndsItem-first (EndsItem.braces {inside = inside} {ts = ts} o c inner more) = first_of (lexeme.Open Brace o) (inside ++ lexeme.Close Brace c ∷ ts) refl

abbrev NoBraceFirst : List Lexeme → Type 0
NoBraceFirst [] = Unit {0}
NoBraceFirst (t ∷ ts) = is_close_brace t ≡ false

BeginsItem-first : {m c : Bool} {ts : List Lexeme} {opened : List Bracket} → BeginsItem m c ts opened → NoBraceFirst ts
BeginsItem-first BeginsItem.nothing = tt
BeginsItem-first (BeginsItem.token t plain more) = plain_no_brace t plain
BeginsItem-first (BeginsItem.round o c inner more) = refl
BeginsItem-first (BeginsItem.square o c inner more) = refl
BeginsItem-first (BeginsItem.braces o c inner more) = refl
BeginsItem-first (BeginsItem.unclosed b o more) = refl

-- an item at the front
item_first : (ws : List ℕ) (one ts : List Lexeme) (end : ItemEnd) (f : First one) → begins_wrapper (one ++ ts) ≡ false → item_end none_begun (one ++ ts) ≡ end → turn_at ws (one ++ ts) ≡ item_turn ws f.token end
item_first ws one ts end f none e =
    turn_at-plain ws (one ++ ts) none ∙ ap (λ (one : List Lexeme). plain_turn ws (one ++ ts)) f.is ∙ no_brace ws f.token (f.others ++ ts) f.no_close
    ∙ ap (λ (one : List Lexeme). item_turn ws f.token (item_end none_begun (one ++ ts))) (sym f.is) ∙ ap (item_turn ws f.token) e

turn_at-item : (ws : List ℕ) (one ts : List Lexeme) → begins_wrapper (one ++ ts) ≡ false → EndsItem false false one → turn_at ws (one ++ ts) ≡ Item (length one)
turn_at-item ws one ts none ends = item_first ws one ts (Whole (length one)) (EndsItem-first ends) none (whole ends ts)

-- a closing bracket at the front that closes no wrapper
turn_at-closing : (ws : List ℕ) (b : Bracket) (s : TokenText) (ts : List Lexeme) → item_end none_begun (lexeme.Close b s ∷ ts) ≡ Unmatched s.start → (ClosesWrapper ws [] b → ⊥)
    → plain_turn ws (lexeme.Close b s ∷ ts) ≡ Last (Fails UNEXPECTED s.start)
turn_at-closing [] b s ts e stays = ap (item_turn [] (lexeme.Close b s)) e
turn_at-closing (w ∷ ws) Round s ts e stays = ap (item_turn (w ∷ ws) (lexeme.Close Round s)) e
turn_at-closing (w ∷ ws) Square s ts e stays = ap (item_turn (w ∷ ws) (lexeme.Close Square s)) e
turn_at-closing (w ∷ ws) Brace s ts e stays = absurd (stays (refl, refl, λ none. cc))

token_unmatched : (ws : List ℕ) (t : Lexeme) (front : List Lexeme) (b : Bracket) (s : TokenText) (ts : List Lexeme) → is_close_brace t ≡ false → begins_wrapper ((t ∷ front) ++ lexeme.Close b s ∷ ts) ≡ false
    → item_end none_begun ((t ∷ front) ++ lexeme.Close b s ∷ ts) ≡ Unmatched s.start → turn_at ws ((t ∷ front) ++ lexeme.Close b s ∷ ts) ≡ Last (Fails UNEXPECTED s.start)
token_unmatched ws t front b s ts first none e = item_first ws (t ∷ front) (lexeme.Close b s ∷ ts) (Unmatched s.start) (first_of t front first) none e

turn_at-unmatched : (ws : List ℕ) (front : List Lexeme) (opened : List Bracket) (b : Bracket) (s : TokenText) (ts : List Lexeme) → begins_wrapper (front ++ lexeme.Close b s ∷ ts) ≡ false
    → item_end none_begun (front ++ lexeme.Close b s ∷ ts) ≡ Unmatched s.start → (ClosesWrapper ws front b → ⊥) → BeginsItem false false front opened
    → turn_at ws (front ++ lexeme.Close b s ∷ ts) ≡ Last (Fails UNEXPECTED s.start)
turn_at-unmatched ws [] opened b s ts none e stays begins = turn_at-plain ws (lexeme.Close b s ∷ ts) none ∙ turn_at-closing ws b s ts e stays
turn_at-unmatched ws (t ∷ front) opened b s ts none e stays begins = token_unmatched ws t front b s ts (BeginsItem-first begins) none e

turn_at-unclosed : (ws : List ℕ) (t : Lexeme) (ts : List Lexeme) (opened : List Bracket) → begins_wrapper (t ∷ ts) ≡ false → BeginsItem false false (t ∷ ts) opened
    → turn_at ws (t ∷ ts) ≡ Last (Fails UNCLOSED (unclosed_place ws t))
turn_at-unclosed ws t ts opened none begins = turn_at-plain ws (t ∷ ts) none ∙ no_brace ws t ts (BeginsItem-first begins) ∙ ap (item_turn ws t) (unended begins)

turn_at-complete : turn_at [] [] ≡ Last Complete
unfolding turn_at wrapper_at
turn_at-complete = refl

turn_at-unclosed_wrapper : (w : ℕ) (ws : List ℕ) → turn_at (w ∷ ws) [] ≡ Last (Fails UNCLOSED (outermost w ws))
unfolding turn_at wrapper_at
turn_at-unclosed_wrapper w ws = refl

turn_at-closed_wrapper : (w : ℕ) (ws : List ℕ) (s : TokenText) (ts : List Lexeme) → turn_at (w ∷ ws) (lexeme.Close Brace s ∷ ts) ≡ WrapperEnd
unfolding turn_at wrapper_at
turn_at-closed_wrapper w ws s ts = refl

found_at : (n : ℕ) (ws : List ℕ) (ts : List Lexeme) (turn : Turn) → turn_at ws ts ≡ turn → found (suc n) ws ts ≡ found_after (found n) ws ts turn
unfolding found
found_at n ws ts turn e = ap (found_after (found n) ws ts) e

shorter : (front ts : List Lexeme) (n : ℕ) → 0 < length front → length (front ++ ts) < suc n → length ts < n
shorter front ts n some lt = omega (arith, length-append front ts)

item_after : (a b : List Lexeme) (x y : Found) → a ≡ b → x ≡ y → with_item a x ≡ with_item b y
item_after a b x y e f = ap (λ (one : List Lexeme). with_item one x) e ∙ ap (with_item b) f

found_is : {ws : List ℕ} {ts : List Lexeme} {items : List (List Lexeme)} {end : End} → Searches ws ts items end → (n : ℕ) → length ts < n → found n ws ts ≡ record { items = items; end = end }
found_is s zero lt = absurd (omega arith)
found_is Searches.complete (suc n) lt = found_at n [] [] (Last Complete) turn_at-complete
found_is (Searches.wrapper {wrappers = ws} {front = front} {ts = ts} brace is begins more) (suc n) lt =
    found_at n ws (front ++ ts) (Wrapper brace (length front)) (turn_at-wrapper ws ts is begins)
    ∙ ap (found n (brace ∷ ws)) (drop_at front ts (length front) refl) ∙ found_is more n (shorter front ts n (IsWrapper-some is) lt)
found_is (Searches.closed_wrapper {wrappers = ws} {ts = ts} w s more) (suc n) lt = found_at n (w ∷ ws) (lexeme.Close Brace s ∷ ts) WrapperEnd (turn_at-closed_wrapper w ws s ts) ∙ found_is more n (omega arith)
found_is (Searches.item {wrappers = ws} {one = one} {ts = ts} {items = items} {end = end} none ends more) (suc n) lt =
    found_at n ws (one ++ ts) (Item (length one)) (turn_at-item ws one ts none ends)
    ∙ item_after (take (length one) (one ++ ts)) one (found n ws (drop (length one) (one ++ ts))) (record { items = items; end = end }) (take_at one ts (length one) refl)
    (ap (found n ws) (drop_at one ts (length one) refl) ∙ found_is more n (shorter one ts n (EndsItem-some ends) lt))
found_is (Searches.unmatched {wrappers = ws} {front = front} {opened = opened} b s ts none begins other stays) (suc n) lt =
    found_at n ws (front ++ lexeme.Close b s ∷ ts) (Last (Fails UNEXPECTED s.start)) (turn_at-unmatched ws front opened b s ts none (unmatched b s ts begins other) stays begins)
found_is (Searches.unclosed_item {wrappers = ws} {ts = ts} {opened = opened} t none begins) (suc n) lt =
    found_at n ws (t ∷ ts) (Last (Fails UNCLOSED (unclosed_place ws t))) (turn_at-unclosed ws t ts opened none begins)
found_is (Searches.unclosed_wrapper {wrappers = ws} w) (suc n) lt = found_at n (w ∷ ws) [] (Last (Fails UNCLOSED (outermost w ws))) (turn_at-unclosed_wrapper w ws)

pub one_search : (ts : List Lexeme) (items others : List (List Lexeme)) (end other : End) → Searches [] ts items end → Searches [] ts others other → (items ≡ others) × (end ≡ other)
one_search ts items others end other a b =
    let same : found (suc (length ts)) [] ts ≡ record { items = items; end = end } = found_is a (suc (length ts)) (omega arith) in
    let too : found (suc (length ts)) [] ts ≡ record { items = others; end = other } = found_is b (suc (length ts)) (omega arith) in
    (ap (λ (f : Found). f.items) (sym same ∙ too), ap (λ (f : Found). f.end) (sym same ∙ too))
