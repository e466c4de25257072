-- What stands in no brackets.
use Rattle.std.proofs.Common.{◌≡◌, ℕ, zero, suc, Bool, true, false, ◌||◌, List, [], ◌∷◌, ◌++◌, refl, sym, ap, ◌∙◌, arith}
use Rattle.gt_search.specs.declared.lexeme.Lexeme.{Lexeme}
use Rattle.gt_marked.specs.FieldGrammar.{depth_after, depth_through, Stands}

-- ---- tests

or_true : (b : Bool) → (b || true) ≡ true
or_true true = refl
or_true false = refl

pub or_false : (a b : Bool) → (a || b) ≡ false → (a ≡ false) × (b ≡ false)
or_false true b e = absurd cc
or_false false b e = (refl, e)

-- ---- whether a token stands in no brackets, where so many are open before

abbrev pub stands : (Lexeme → Bool) → ℕ → List Lexeme → Bool
stands is depth [] = false
stands is zero (t ∷ ts) = is t || stands is (depth_after zero t) ts
stands is (suc depth) (t ∷ ts) = stands is (depth_after (suc depth) t) ts

-- the first such token
pub record FirstPlace (is : Lexeme → Bool) (depth : ℕ) (ts : List Lexeme) : Type 0 where
  pub front : List Lexeme
  pub token : Lexeme
  pub following : List Lexeme
  pub parts : ts ≡ front ++ token ∷ following
  pub outside : depth_through depth front ≡ 0
  pub none : stands is depth front ≡ false
  pub passes : is token ≡ true

further_zero : (is : Lexeme → Bool) (t : Lexeme) (ts : List Lexeme) → is t ≡ false → FirstPlace is (depth_after zero t) ts → FirstPlace is zero (t ∷ ts)
further_zero is t ts h s =
    record { front = t ∷ s.front; token = s.token; following = s.following; parts = ap (λ (us : List Lexeme). t ∷ us) s.parts; outside = s.outside; none = rw h s.none; passes = s.passes }

further : (is : Lexeme → Bool) (depth : ℕ) (t : Lexeme) (ts : List Lexeme) → FirstPlace is (depth_after (suc depth) t) ts → FirstPlace is (suc depth) (t ∷ ts)
further is depth t ts s =
    record { front = t ∷ s.front; token = s.token; following = s.following; parts = ap (λ (us : List Lexeme). t ∷ us) s.parts; outside = s.outside; none = s.none; passes = s.passes }

first_zero : (is : Lexeme → Bool) (t : Lexeme) (ts : List Lexeme) (b : Bool) → is t ≡ b → stands is zero (t ∷ ts) ≡ true
    → (stands is (depth_after zero t) ts ≡ true → FirstPlace is (depth_after zero t) ts) → FirstPlace is zero (t ∷ ts)
first_zero is t ts true h e again = record { front = []; token = t; following = ts; parts = refl; outside = refl; none = refl; passes = h }
first_zero is t ts false h e again = further_zero is t ts h (again (rw h at e))

pub first_place : (is : Lexeme → Bool) (ts : List Lexeme) (depth : ℕ) → stands is depth ts ≡ true → FirstPlace is depth ts
first_place is [] depth e = absurd cc
first_place is (t ∷ ts) zero e = first_zero is t ts (is t) refl e (first_place is ts (depth_after zero t))
first_place is (t ∷ ts) (suc depth) e = further is depth t ts (first_place is ts (depth_after (suc depth) t) e)

stands-is : (is : Lexeme → Bool) (front : List Lexeme) (depth : ℕ) (token : Lexeme) (following : List Lexeme) → depth_through depth front ≡ 0 → is token ≡ true
    → stands is depth (front ++ token ∷ following) ≡ true
stands-is is [] zero token following o p = rw p refl
stands-is is [] (suc depth) token following o p = absurd (omega arith)
stands-is is (t ∷ front) zero token following o p = rw (stands-is is front (depth_after zero t) token following o p) (or_true (is t))
stands-is is (t ∷ front) (suc depth) token following o p = stands-is is front (depth_after (suc depth) t) token following o p

pub Stands-stands : {is : Lexeme → Bool} {ts : List Lexeme} → Stands is ts → stands is 0 ts ≡ true
Stands-stands {is} {ts} s = rw s.parts (stands-is is s.front 0 s.token s.following s.outside s.passes)

pub stands-Stands : (is : Lexeme → Bool) (ts : List Lexeme) → stands is 0 ts ≡ true → Stands is ts
stands-Stands is ts e =
    let s = first_place is ts 0 e in
    record { front = s.front; token = s.token; following = s.following; parts = s.parts; outside = s.outside; passes = s.passes }

pub stands-not : (is : Lexeme → Bool) (ts : List Lexeme) → stands is 0 ts ≡ false → ¬ Stands is ts
stands-not is ts e s = let f : true ≡ false = sym (Stands-stands s) ∙ e in absurd cc

pub not-stands : (is : Lexeme → Bool) (ts : List Lexeme) → ¬ Stands is ts → stands is 0 ts ≡ false
not-stands is ts h = cases (stands is 0 ts) refl
  where
    cases : (b : Bool) → stands is 0 ts ≡ b → stands is 0 ts ≡ false
    cases true e = absurd (h (stands-Stands is ts e))
    cases false e = e

-- ---- lists that follow one another

depth-append : (us ts : List Lexeme) (depth : ℕ) → depth_through depth (us ++ ts) ≡ depth_through (depth_through depth us) ts
depth-append [] ts depth = refl
depth-append (u ∷ us) ts depth = depth-append us ts (depth_after depth u)

stands-append : (is : Lexeme → Bool) (us ts : List Lexeme) (depth : ℕ) → stands is depth us ≡ false → stands is (depth_through depth us) ts ≡ false
    → stands is depth (us ++ ts) ≡ false
stands-append is [] ts depth h k = k
stands-append is (u ∷ us) ts zero h k =
    let parts = or_false (is u) (stands is (depth_after zero u) us) h in
    rw (parts.0) (stands-append is us ts (depth_after zero u) parts.1 k)
stands-append is (u ∷ us) ts (suc depth) h k = stands-append is us ts (depth_after (suc depth) u) h k

-- one more token
pub depth_one_more : (us : List Lexeme) (t : Lexeme) (depth : ℕ) → depth_through 0 us ≡ depth → depth_through 0 (us ++ t ∷ []) ≡ depth_after depth t
depth_one_more us t depth e = depth-append us (t ∷ []) 0 ∙ ap (λ (d : ℕ). depth_after d t) e

pub stands_one_more : (is : Lexeme → Bool) (us : List Lexeme) (t : Lexeme) (depth : ℕ) → stands is 0 us ≡ false → depth_through 0 us ≡ depth → stands is depth (t ∷ []) ≡ false
    → stands is 0 (us ++ t ∷ []) ≡ false
stands_one_more is us t depth h e k = stands-append is us (t ∷ []) 0 h (ap (λ (d : ℕ). stands is d (t ∷ [])) e ∙ k)
