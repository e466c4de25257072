-- Items are read as their rules say.
use Rattle.std.proofs.Common.{◌≡◌, ℕ, zero, suc, Bool, true, false, ◌||◌, List, [], ◌∷◌, ◌++◌, Option, Some, None, refl, sym, ap, ◌∙◌}
use Rattle.std.specs.List.{list_any}
use Rattle.gt_search.specs.declared.faults.TheConstants.{BAD_MARKER_PLACE}
use Rattle.gt_items.specs.declared.items.Item.{Item}
use Rattle.gt_items.specs.declared.items.Keyword.TheVariants as keyword
use Rattle.gt_search.specs.declared.lexeme.TokenText.{TokenText}
use Rattle.gt_search.specs.declared.lexeme.Lexeme.{Lexeme}
use Rattle.gt_search.specs.declared.lexeme.Lexeme.TheVariants as lexeme
use Rattle.gt_marked.specs.FieldGrammar.{depth_after, Stands}
use Rattle.gt_parse.specs.ItemGrammar.{begins_unmarked, UnmarkedItem, AnItem}
use Rattle.gt_marked.specs.Marked.{marked_at}
use Rattle.gt_marked.specs.MarkedGrammar.{MarkedItem}
use Rattle.gt_marked.specs.MarkerGrammar.{failed, begins}
use Rattle.gt_marked.specs.Outcome.{Outcome, Read, Stops, ◌>>=◌}
use Rattle.gt_parse.specs.Reading.{is_marked, item_at}
use Rattle.gt_search.specs.Search.{is_gty}
use Rattle.gt_parse.specs.Unmarked.{unmarked_of, unmarked_at}
use Rattle.gt_marked.proofs.MarkedLemmas.{marked_has, marked-alone}
use Rattle.gt_marked.proofs.PlacesLemmas.{or_false, stands, Stands-stands, stands-Stands, stands-not, not-stands}
use Rattle.gt_parse.proofs.UnmarkedLemmas.{enum-alone, enum_has, typedef-alone, typedef_has}
use Rattle.gt_marked.proofs.GrammarWords.{Has, allowed, Comes, read, unread, comes, failed_step}

-- ---- unmarked items

nothing_of : (ts : List Lexeme) → begins begins_unmarked ts ≡ false → unmarked_of ts ≡ None
unfolding unmarked_of
nothing_of [] h = refl
nothing_of (lexeme.Typedef t ∷ ts) h = absurd cc
nothing_of (lexeme.Tag keyword.Enum t ∷ ts) h = absurd cc
nothing_of (t ∷ ts) h = refl

unmarked-one : {ts : List Lexeme} {found : Option Item} → UnmarkedItem ts found → found ≡ unmarked_of ts
unfolding unmarked_of
unmarked-one (UnmarkedItem.a_typedef {ts} {found} t d) = typedef-alone ts found d
unmarked-one (UnmarkedItem.an_enum {ts} {found} t d) = enum-alone ts found d
unmarked-one (UnmarkedItem.skipped {ts} h) = sym (nothing_of ts h)

unmarked_has : (ts : List Lexeme) → Has UnmarkedItem ts
unmarked_has (lexeme.Typedef t ∷ ts) = record { outcome = _; holds = UnmarkedItem.a_typedef t (typedef_has ts).holds }
unmarked_has (lexeme.Tag keyword.Enum t ∷ ts) = record { outcome = _; holds = UnmarkedItem.an_enum t (enum_has ts).holds }
unmarked_has [] = record { outcome = _; holds = UnmarkedItem.skipped refl }
unmarked_has (t ∷ ts) = record { outcome = _; holds = UnmarkedItem.skipped refl }

-- ---- markers in unmarked items

unmarked_step : (whole : List Lexeme) (t : Lexeme) (ts : List Lexeme) → is_gty t ≡ false → unmarked_at whole (t ∷ ts) ≡ unmarked_at whole ts
unfolding unmarked_at
unmarked_step whole (lexeme.Gty s) ts h = absurd cc
unmarked_step whole t ts h = refl

no_marker : (whole ts : List Lexeme) → list_any is_gty ts ≡ false → unmarked_at whole ts ≡ Read (unmarked_of whole) []
unfolding unmarked_at
no_marker whole [] h = refl
no_marker whole (t ∷ ts) h =
    let parts = or_false (is_gty t) (list_any is_gty ts) h in
    unmarked_step whole t ts parts.0 ∙ no_marker whole ts parts.1

first_marker : (whole front : List Lexeme) (g : TokenText) (following : List Lexeme) → list_any is_gty front ≡ false
    → unmarked_at whole (front ++ lexeme.Gty g ∷ following) ≡ Stops BAD_MARKER_PLACE g.start
unfolding unmarked_at
first_marker whole [] g following h = refl
first_marker whole (t ∷ front) g following h =
    let parts = or_false (is_gty t) (list_any is_gty front) h in
    unmarked_step whole t (front ++ lexeme.Gty g ∷ following) parts.0 ∙ first_marker whole front g following parts.1

-- ---- markers

marked_zero : (t : Lexeme) (ts : List Lexeme) → is_marked zero (t ∷ ts) ≡ (is_gty t || is_marked (depth_after zero t) ts)
unfolding is_marked
marked_zero (lexeme.Gty s) ts = refl
marked_zero (lexeme.Open b s) ts = refl
marked_zero (lexeme.Close b s) ts = refl
marked_zero t ts = refl

marked_suc : (depth : ℕ) (t : Lexeme) (ts : List Lexeme) → is_marked (suc depth) (t ∷ ts) ≡ is_marked (depth_after (suc depth) t) ts
unfolding is_marked
marked_suc depth (lexeme.Open b s) ts = refl
marked_suc depth (lexeme.Close b s) ts = refl
marked_suc depth t ts = refl

is_marked-stands : (ts : List Lexeme) (depth : ℕ) → is_marked depth ts ≡ stands is_gty depth ts
unfolding is_marked
is_marked-stands [] depth = refl
is_marked-stands (t ∷ ts) zero = marked_zero t ts ∙ ap (λ (b : Bool). is_gty t || b) (is_marked-stands ts (depth_after zero t))
is_marked-stands (t ∷ ts) (suc depth) = marked_suc depth t ts ∙ is_marked-stands ts (depth_after (suc depth) t)

-- ---- items

item_marked : (ts : List Lexeme) → Stands is_gty ts → item_at ts ≡ (marked_at ts >>= λ item. Read (Some item.0) item.1)
unfolding item_at
item_marked ts s = rw (is_marked-stands ts 0, Stands-stands s) refl

item_unmarked : (ts : List Lexeme) → stands is_gty 0 ts ≡ false → item_at ts ≡ unmarked_at ts ts
unfolding item_at
item_unmarked ts h = rw (is_marked-stands ts 0, h) refl

-- where no marker stands at all, none stands in no brackets
none_stands : (is : Lexeme → Bool) (ts : List Lexeme) (depth : ℕ) → list_any is ts ≡ false → stands is depth ts ≡ false
none_stands is [] depth h = refl
none_stands is (t ∷ ts) zero h =
    let parts = or_false (is t) (list_any is ts) h in rw (parts.0) (none_stands is ts _ parts.1)
none_stands is (t ∷ ts) (suc depth) h =
    let parts = or_false (is t) (list_any is ts) h in none_stands is ts _ parts.1

pub item-alone : (ts : List Lexeme) (o : Outcome (Option Item)) → AnItem ts o → o ≡ item_at ts
item-alone ts o (AnItem.marked {rest} {found} s d) = rw (item_marked ts s, ← marked-alone ts (Read found rest) d) refl
item-alone ts o (AnItem.in_marked why s d) = rw (item_marked ts s, ← marked-alone ts (failed why) d) (sym (failed_step why _))
item-alone ts o (AnItem.unmarked h d) = rw (item_unmarked ts (none_stands is_gty ts 0 h), no_marker ts ts h, unmarked-one d) refl
item-alone ts o (AnItem.bad_place front following g h k) =
    let whole = front ++ lexeme.Gty g ∷ following in
    rw (item_unmarked whole (not-stands is_gty whole h), first_marker whole front g following k) refl

record HasMarker (ts : List Lexeme) : Type 0 where
  front : List Lexeme
  marker : TokenText
  following : List Lexeme
  parts : ts ≡ front ++ lexeme.Gty marker ∷ following
  first : list_any is_gty front ≡ false

marker_further : (t : Lexeme) (ts : List Lexeme) → is_gty t ≡ false → HasMarker ts → HasMarker (t ∷ ts)
marker_further t ts h m =
    record { front = t ∷ m.front; marker = m.marker; following = m.following; parts = ap (λ (us : List Lexeme). t ∷ us) m.parts; first = rw h m.first }

has_marker : (ts : List Lexeme) → list_any is_gty ts ≡ true → HasMarker ts
has_marker [] e = absurd cc
has_marker (lexeme.Gty g ∷ ts) e = record { front = []; marker = g; following = ts; parts = refl; first = refl }
has_marker (t ∷ ts) e = marker_further t ts refl (has_marker ts e)

marked_comes : (ts : List Lexeme) → Stands is_gty ts → {o : Outcome Item} → MarkedItem ts o → Comes o → Has AnItem ts
marked_comes ts s d (read found rest) = record { outcome = _; holds = AnItem.marked s d }
marked_comes ts s d (unread why) = record { outcome = failed why; holds = AnItem.in_marked why s d }

marker_comes : (ts : List Lexeme) → ¬ Stands is_gty ts → HasMarker ts → Has AnItem ts
marker_comes ts h m =
    record { outcome = Stops BAD_MARKER_PLACE m.marker.start; holds = rw (m.parts) (AnItem.bad_place m.front m.following m.marker (rw (← m.parts) h) m.first) }

unmarked_comes : (ts : List Lexeme) → stands is_gty 0 ts ≡ false → (b : Bool) → list_any is_gty ts ≡ b → Has AnItem ts
unmarked_comes ts h false e = record { outcome = _; holds = AnItem.unmarked e (unmarked_has ts).holds }
unmarked_comes ts h true e =
    marker_comes ts (stands-not is_gty ts h) (has_marker ts e)

item_has : (ts : List Lexeme) → Has AnItem ts
item_has ts = cases (stands is_gty 0 ts) refl
  where
    cases : (b : Bool) → stands is_gty 0 ts ≡ b → Has AnItem ts
    cases true e = marked_comes ts (stands-Stands is_gty ts e) (marked_has ts).holds (comes (marked_has ts).outcome)
    cases false e = unmarked_comes ts e (list_any is_gty ts) refl

pub item-allowed : (ts : List Lexeme) → AnItem ts (item_at ts)
item-allowed = allowed AnItem item_at item-alone item_has
