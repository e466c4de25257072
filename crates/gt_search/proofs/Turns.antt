-- What stands at the front of the rest of a text is what the relation of the search says.
use Rattle.std.proofs.Common.{◌≡◌, ℕ, ◌<◌, ◌≤◌, ◌⊎◌, inl, inr, Bool, true, false, List, [], ◌∷◌, ◌++◌, length, map, take, drop, Option, Some, None, refl, ap, subst, ◌∙◌, sym, arith}
use Rattle.std.specs.Prelude.{codes, MatchOption, if◌then◌else◌}
use Rattle.std.specs.Str.{bytes_eq}
use Rattle.std.proofs.lemmas.Bool.{false≢true}
use Rattle.std.proofs.lemmas.List.{length-append, take_at, drop_at}
use Rattle.gt_search.specs.declared.faults.TheConstants.{UNEXPECTED}
use Rattle.gt_search.specs.declared.lexeme.TokenText.{TokenText}
use Rattle.gt_search.specs.declared.lexeme.Bracket.{Bracket}
use Rattle.gt_search.specs.declared.lexeme.Bracket.TheVariants.{Brace}
use Rattle.gt_search.specs.declared.lexeme.Lexeme.{Lexeme}
use Rattle.gt_search.specs.declared.lexeme.Lexeme.TheVariants as lexeme
use Rattle.gt_search.specs.declared.search.End.{End}
use Rattle.gt_search.specs.declared.search.End.TheVariants.{Fails}
use Rattle.gt_search.specs.declared.search.ItemEnd.{ItemEnd}
use Rattle.gt_search.specs.declared.search.ItemEnd.TheVariants.{Whole, Unmatched, Unended}
use Rattle.gt_search.specs.declared.search.Turn.{Turn}
use Rattle.gt_search.specs.declared.search.Turn.TheVariants.{Wrapper, WrapperEnd, Item, Last}
use Rattle.gt_search.specs.Search.{EndsItem, begins_wrapper, IsWrapper, Searches}
use Rattle.gt_search.specs.Searching.{none_begun, item_end, wrapper_at, item_turn, plain_turn, turn_with, turn_at}
use Rattle.gt_search.proofs.Sound.{Tells, EndsSo, tells}

-- ---- wrappers

pub record WrapsSo (ts : List Lexeme) (brace len : ℕ) : Type 0 where
  pub front : List Lexeme
  pub following : List Lexeme
  pub is : ts ≡ front ++ following
  pub len_is : len ≡ length front
  pub wrapper : IsWrapper front brace
  pub begins : begins_wrapper ts ≡ true

abbrev pub WrapperTells : List Lexeme → Option (ℕ × ℕ) → Type 0
WrapperTells ts (Some found) = WrapsSo ts found.0 found.1
WrapperTells ts None = begins_wrapper ts ≡ false

wrapper_if : (ts front following : List Lexeme) (brace len : ℕ) (x : Bool) → begins_wrapper ts ≡ x → ts ≡ front ++ following → len ≡ length front → IsWrapper front brace
    → WrapperTells ts (if x then Some (brace, len) else None)
wrapper_if ts front following brace len true begins is len_is wrapper = record { front = front; following = following; is = is; len_is = len_is; wrapper = wrapper; begins = begins }
wrapper_if ts front following brace len false begins is len_is wrapper = begins

pub wrapper_tells : (ts : List Lexeme) → WrapperTells ts (wrapper_at ts)
unfolding wrapper_at begins_wrapper
wrapper_tells (lexeme.Extern e ∷ lexeme.Quoted q ∷ lexeme.Open Brace b ∷ ts) =
    wrapper_if (lexeme.Extern e ∷ lexeme.Quoted q ∷ lexeme.Open Brace b ∷ ts) (lexeme.Extern e ∷ lexeme.Quoted q ∷ lexeme.Open Brace b ∷ []) ts b.start 3 (bytes_eq q.word (codes "\"C\"")) refl refl refl
    (IsWrapper.extern_c e q b)
wrapper_tells (lexeme.Reserved r ∷ lexeme.Open Brace b ∷ ts) =
    wrapper_if (lexeme.Reserved r ∷ lexeme.Open Brace b ∷ ts) (lexeme.Reserved r ∷ lexeme.Open Brace b ∷ []) ts b.start 2 (bytes_eq r.word (codes "namespace")) refl refl refl (IsWrapper.namespace r b)
wrapper_tells (lexeme.Reserved r ∷ lexeme.Name n ∷ lexeme.Open Brace b ∷ ts) =
    wrapper_if (lexeme.Reserved r ∷ lexeme.Name n ∷ lexeme.Open Brace b ∷ ts) (lexeme.Reserved r ∷ lexeme.Name n ∷ lexeme.Open Brace b ∷ []) ts b.start 3 (bytes_eq r.word (codes "namespace")) refl refl refl
    (IsWrapper.named_namespace r n b)
wrapper_tells ts = refl

-- ---- turns

-- some tokens at the front are passed over
pub record PassesSo (wrappers inner : List ℕ) (ts : List Lexeme) (len : ℕ) : Type 0 where
  pub front : List Lexeme
  pub following : List Lexeme
  pub is : ts ≡ front ++ following
  pub len_is : len ≡ length front
  pub some : 0 < len
  pub passes : (items : List (List Lexeme)) (end : End) → Searches inner following items end → Searches wrappers ts items end

-- an item stands at the front
pub record ItemSo (wrappers : List ℕ) (ts : List Lexeme) (len : ℕ) : Type 0 where
  pub one : List Lexeme
  pub following : List Lexeme
  pub is : ts ≡ one ++ following
  pub len_is : len ≡ length one
  pub some : 0 < len
  pub passes : (items : List (List Lexeme)) (end : End) → Searches wrappers following items end → Searches wrappers ts (one ∷ items) end

-- a closing brace is that of the innermost wrapper
pub record LeavesSo (wrappers : List ℕ) (ts : List Lexeme) : Type 0 where
  pub brace : ℕ
  pub inner : List ℕ
  pub are : wrappers ≡ brace ∷ inner
  pub passed : PassesSo wrappers inner ts 1

abbrev pub TurnTells : List ℕ → List Lexeme → Turn → Type 0
TurnTells wrappers ts (Wrapper brace len) = PassesSo wrappers (brace ∷ wrappers) ts len
TurnTells wrappers ts WrapperEnd = LeavesSo wrappers ts
TurnTells wrappers ts (Item len) = ItemSo wrappers ts len
TurnTells wrappers ts (Last end) = Searches wrappers ts [] end

abbrev pub is_close_brace : Lexeme → Bool
is_close_brace (lexeme.Close Brace s) = true
is_close_brace t = false

abbrev begins_close_brace : List Lexeme → Bool
begins_close_brace [] = false
begins_close_brace (t ∷ ts) = is_close_brace t

close_brace_first : (t : Lexeme) (ts front : List Lexeme) (b : Bracket) (s : TokenText) (following : List Lexeme) → t ∷ ts ≡ front ++ lexeme.Close b s ∷ following → front ≡ [] → b ≡ Brace → is_close_brace t ≡ true
close_brace_first t ts front b s following is none brace =
    ap begins_close_brace (is ∙ ap (λ (f : List Lexeme). f ++ lexeme.Close b s ∷ following) none) ∙ ap (λ (b : Bracket). is_close_brace (lexeme.Close b s)) brace

pub EndsItem-some : {marks called : Bool} {one : List Lexeme} → EndsItem marks called one → 0 < length one
EndsItem-some (EndsItem.semicolon s) = omega arith
EndsItem-some (EndsItem.body o c inside) = omega arith
EndsItem-some (EndsItem.token t plain rest) = omega arith
EndsItem-some (EndsItem.round o c inside rest) = omega arith
EndsItem-some (EndsItem.square o c inside rest) = omega arith
EndsItem-some (EndsItem.braces o c inside rest) = omega arith

item_tells : (wrappers : List ℕ) (t : Lexeme) (ts : List Lexeme) (end : ItemEnd) → begins_wrapper (t ∷ ts) ≡ false → (wrappers ≡ []) ⊎ (is_close_brace t ≡ false)
    → Tells [] false false (t ∷ ts) end → TurnTells wrappers (t ∷ ts) (item_turn wrappers t end)
item_tells wrappers t ts (Whole len) none no_close e = record {
  one = e.one;
  following = e.following;
  is = e.is;
  len_is = e.len_is;
  some = omega (arith, EndsItem-some e.ends, e.len_is);
  passes = λ items end searches.
      subst (λ (ts : List Lexeme). Searches wrappers ts (e.one ∷ items) end) (sym e.is) (Searches.item (subst (λ (ts : List Lexeme). begins_wrapper ts ≡ false) e.is none) e.ends searches);
}
item_tells wrappers t ts (Unmatched at) none no_close e =
    subst (λ (n : ℕ). Searches wrappers (t ∷ ts) [] (Fails UNEXPECTED n)) (sym e.at_is)
    (subst (λ (ts : List Lexeme). Searches wrappers ts [] (Fails UNEXPECTED e.spot.start)) (sym e.is)
    (Searches.unmatched e.bracket e.spot e.following (subst (λ (ts : List Lexeme). begins_wrapper ts ≡ false) e.is none) e.begins e.unmatched
    (λ closes. elim no_close [
      | inl empty ↦ closes.2 empty
      | inr other ↦ false≢true (sym other ∙ close_brace_first t ts e.front e.bracket e.spot e.following e.is closes.0 closes.1)
    ])))
item_tells wrappers t ts Unended none no_close (opened, e) = Searches.unclosed_item t none e

plain_tells : (wrappers : List ℕ) (ts : List Lexeme) → begins_wrapper ts ≡ false → TurnTells wrappers ts (plain_turn wrappers ts)
plain_tells [] [] none = Searches.complete
plain_tells (w ∷ ws) [] none = Searches.unclosed_wrapper w
plain_tells (w ∷ ws) (lexeme.Close Brace s ∷ ts) none = record {
  brace = w;
  inner = ws;
  are = refl;
  passed = record { front = lexeme.Close Brace s ∷ []; following = ts; is = refl; len_is = refl; some = omega arith; passes = λ items end searches. Searches.closed_wrapper w s searches };
}
plain_tells [] (t ∷ ts) none = item_tells [] t ts (item_end none_begun (t ∷ ts)) none (inl refl) (tells [] false false (t ∷ ts))
plain_tells (w ∷ ws) (t ∷ ts) none = item_tells (w ∷ ws) t ts (item_end none_begun (t ∷ ts)) none (inr refl) (tells [] false false (t ∷ ts))

pub IsWrapper-some : {front : List Lexeme} {brace : ℕ} → IsWrapper front brace → 0 < length front
IsWrapper-some (IsWrapper.extern_c e q b) = omega arith
IsWrapper-some (IsWrapper.namespace r b) = omega arith
IsWrapper-some (IsWrapper.named_namespace r n b) = omega arith

with_tells : (wrappers : List ℕ) (ts : List Lexeme) (found : Option (ℕ × ℕ)) → WrapperTells ts found → TurnTells wrappers ts (turn_with wrappers ts found)
with_tells wrappers ts (Some found) w = record {
  front = w.front;
  following = w.following;
  is = w.is;
  len_is = w.len_is;
  some = omega (arith, IsWrapper-some w.wrapper, w.len_is);
  passes = λ items end searches.
      subst (λ (ts : List Lexeme). Searches wrappers ts items end) (sym w.is) (Searches.wrapper found.0 w.wrapper (subst (λ (ts : List Lexeme). begins_wrapper ts ≡ true) w.is w.begins) searches);
}
with_tells wrappers ts None w = plain_tells wrappers ts w

-- what stands at the front tells how the search goes on
pub turn_tells : (wrappers : List ℕ) (ts : List Lexeme) → TurnTells wrappers ts (turn_at wrappers ts)
unfolding turn_at
turn_tells wrappers ts = with_tells wrappers ts (wrapper_at ts) (wrapper_tells ts)

-- ---- what a turn takes

front_fits : (ts front following : List Lexeme) (len : ℕ) → ts ≡ front ++ following → len ≡ length front → len ≤ length ts
front_fits ts front following len is len_is = omega (arith, ap length is, length-append front following)

pub wrapper_at-fits : (ts : List Lexeme) (brace len : ℕ) → Some (brace, len) ≡ wrapper_at ts → (0 < len) × (len ≤ length ts)
wrapper_at-fits ts brace len e =
    let w : WrapsSo ts brace len = subst (λ (found : Option (ℕ × ℕ)). WrapperTells ts found) (sym e) (wrapper_tells ts) in
    (omega (arith, IsWrapper-some w.wrapper, w.len_is), front_fits ts w.front w.following len w.is w.len_is)

pub item_end-fits : (ts : List Lexeme) (len : ℕ) → Whole len ≡ item_end none_begun ts → (0 < len) × (len ≤ length ts)
item_end-fits ts len e =
    let t : EndsSo [] false false ts len = subst (λ (end : ItemEnd). Tells [] false false ts end) (sym e) (tells [] false false ts) in
    (omega (arith, EndsItem-some t.ends, t.len_is), front_fits ts t.one t.following len t.is t.len_is)

-- ---- one turn of the search

-- some tokens at the front are passed over
pub pass : (wrappers inner : List ℕ) (ts : List Lexeme) (len : ℕ) → PassesSo wrappers inner ts len → (items : List (List Lexeme)) (end : End) → Searches inner (drop len ts) items end → Searches wrappers ts items end
pass wrappers inner ts len p items end searches =
    p.passes items end (subst (λ (ts : List Lexeme). Searches inner ts items end) (ap (drop len) p.is ∙ drop_at p.front p.following len (sym p.len_is)) searches)

-- an item is taken
pub take_item : (wrappers : List ℕ) (ts : List Lexeme) (len : ℕ) → ItemSo wrappers ts len → (items : List (List Lexeme)) (end : End) → Searches wrappers (drop len ts) items end → Searches wrappers ts (take len ts ∷ items) end
take_item wrappers ts len p items end searches =
    subst (λ (one : List Lexeme). Searches wrappers ts (one ∷ items) end) (sym (ap (take len) p.is ∙ take_at p.one p.following len (sym p.len_is)))
    (p.passes items end (subst (λ (ts : List Lexeme). Searches wrappers ts items end) (ap (drop len) p.is ∙ drop_at p.one p.following len (sym p.len_is)) searches))

-- a wrapper is left
leave : (old new : List ℕ) (taken : Option ℕ) (ts : List Lexeme) → MatchOption taken ((old ≡ []) × (new ≡ [])) (λ item. old ≡ item ∷ new) → LeavesSo old ts → (items : List (List Lexeme)) (end : End)
    → Searches new (drop 1 ts) items end → Searches old ts items end
leave old new None ts m l items end searches = let are : old ≡ l.brace ∷ l.inner = l.are in let none : old ≡ [] = m.0 in cc
leave old new (Some x) ts m l items end searches =
    let are : old ≡ l.brace ∷ l.inner = l.are in
    let inner : new ≡ l.inner = cc in
    pass old l.inner ts 1 l.passed items end (subst (λ (ws : List ℕ). Searches ws (drop 1 ts) items end) inner searches)

module _ (wrappers : List ℕ) (ts : List Lexeme) (turn : Turn) (e : turn ≡ turn_at wrappers ts) where
  tells_so : (this : Turn) → turn ≡ this → TurnTells wrappers ts this
  tells_so this is = subst (λ (turn : Turn). TurnTells wrappers ts turn) (sym e ∙ is) (turn_tells wrappers ts)

  pub at_wrapper : (brace len : ℕ) (inner : List ℕ) (following : List Lexeme) → turn ≡ Wrapper brace len → inner ≡ brace ∷ wrappers → following ≡ drop len ts → (items : List (List Lexeme)) (end : End)
      → Searches inner following items end → Searches wrappers ts items end
  at_wrapper brace len inner following is inner_is after_is items end searches =
      pass wrappers (brace ∷ wrappers) ts len (tells_so (Wrapper brace len) is) items end
      (subst (λ (ws : List ℕ). Searches ws (drop len ts) items end) inner_is (subst (λ (ts : List Lexeme). Searches inner ts items end) after_is searches))

  pub at_wrapper_end : (inner : List ℕ) (taken : Option ℕ) (following : List Lexeme) → turn ≡ WrapperEnd → MatchOption taken ((wrappers ≡ []) × (inner ≡ [])) (λ item. wrappers ≡ item ∷ inner) → following ≡ drop 1 ts
      → (items : List (List Lexeme)) (end : End) → Searches inner following items end → Searches wrappers ts items end
  at_wrapper_end inner taken following is m after_is items end searches =
      leave wrappers inner taken ts m (tells_so WrapperEnd is) items end (subst (λ (ts : List Lexeme). Searches inner ts items end) after_is searches)

  pub at_item : (len : ℕ) (one following : List Lexeme) → turn ≡ Item len → one ≡ take len ts → following ≡ drop len ts → (items : List (List Lexeme)) (end : End) → Searches wrappers following items end
      → Searches wrappers ts (one ∷ items) end
  at_item len one following is one_is after_is items end searches =
      subst (λ (one : List Lexeme). Searches wrappers ts (one ∷ items) end) (sym one_is)
      (take_item wrappers ts len (tells_so (Item len) is) items end (subst (λ (ts : List Lexeme). Searches wrappers ts items end) after_is searches))

  pub at_last : (end : End) → turn ≡ Last end → Searches wrappers ts [] end
  at_last end is = tells_so (Last end) is

-- the items so far, and one more
pub one_more : {X : Type 0} (xs : List X) (x : X) (f : X → List Lexeme) (ys : List X) (more : List (List Lexeme)) → ys ≡ xs ++ x ∷ [] → map f ys ++ more ≡ map f xs ++ (f x ∷ more)
one_more {X = X} [] x f ys more e = ap (λ (zs : List X). map f zs ++ more) e
one_more {X = X} (z ∷ xs) x f ys more e = ap (λ (zs : List X). map f zs ++ more) e ∙ ap (λ (ts : List (List Lexeme)). f z ∷ ts) (one_more xs x f (xs ++ x ∷ []) more refl)
