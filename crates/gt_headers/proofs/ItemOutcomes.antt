-- Tokens are items or have a first fault, and of each one.
use Rattle.std.proofs.Common.{◌≡◌, ℕ, ◌<◌, ◌≤◌, List, [], ◌∷◌, ◌++◌, length, length-append, refl, sym, ap, subst, ◌∙◌, inl, inr, Option, Some, None, arith}
use Rattle.std.specs.List.{All, flat_map}
use Rattle.std.proofs.lemmas.List.Elements.{All-head, All-tail, All-contains, Contains-append_right}
use Rattle.gt_lex.specs.declared.tokens.Token.{Token}
use Rattle.gt_lex.specs.declared.tokens.Define.{Define}
use Rattle.gt_items.specs.declared.items.Item.{Item}
use Rattle.gt_items.specs.declared.items.Items.{Items}
use Rattle.gt_items.specs.declared.items.RawConstant.{RawConstant}
use Rattle.gt_search.specs.declared.lexeme.Lexeme.{Lexeme}
use Rattle.gt_search.specs.declared.search.End.{End}
use Rattle.gt_search.specs.declared.search.End.TheVariants.{Complete}
use Rattle.gt_parse.specs.Header.{AreItems, Declare, IsFirstFault, end_faults, faults_by, item_faults}
use Rattle.gt_search.specs.Lexemes.{lexemes_of}
use Rattle.gt_marked.specs.Outcome.{Outcome, Read}
use Rattle.gt_search.specs.Search.{Searches}

-- ---- what whole items declare

one_declared : (cut : List (List Lexeme)) (a b : List Item) → Declare cut a → Declare cut b → a ≡ b
one_declared [] a b e f = e ∙ sym f
one_declared (one ∷ others) a b (inl (found, following, rest, e, is, more)) (inl (other, after, next, f, too, also)) =
    let same : Read (Some found) following ≡ Read (Some other) after = sym e ∙ f in
    let item : found ≡ other = cc in
    is ∙ ap (λ (x : Item). x ∷ rest) item ∙ ap (λ (xs : List Item). other ∷ xs) (one_declared others rest next more also) ∙ sym too
one_declared (one ∷ others) a b (inl (found, following, rest, e, is, more)) (inr (after, f, also)) =
    let no : Read (Some found) following ≡ Read None after = sym e ∙ f in absurd cc
one_declared (one ∷ others) a b (inr (following, e, more)) (inl (other, after, next, f, too, also)) =
    let no : Read None following ≡ Read (Some other) after = sym e ∙ f in absurd cc
one_declared (one ∷ others) a b (inr (following, e, more)) (inr (after, f, also)) = one_declared others a b more also

-- items that declare something have no fault
no_faults : (cut : List (List Lexeme)) (items : List Item) → Declare cut items → flat_map item_faults cut ≡ []
no_faults [] items e = refl
no_faults (one ∷ others) items (inl (found, following, rest, e, is, more)) =
    ap (λ (o : Outcome (Option Item)). faults_by one o ++ flat_map item_faults others) e ∙ no_faults others rest more
no_faults (one ∷ others) items (inr (following, e, more)) =
    ap (λ (o : Outcome (Option Item)). faults_by one o ++ flat_map item_faults others) e ∙ no_faults others items more

-- ---- the first of some faults

abbrev After : ℕ → ℕ × ℕ → Type 0
After at fault = at < fault.1

abbrev NotBefore : ℕ → ℕ × ℕ → Type 0
NotBefore at fault = at ≤ fault.1

not_nil : {X : Type 0} (xs ys : List X) (x : X) → [] ≡ xs ++ x ∷ ys → ⊥
not_nil xs ys x e = let n : 0 ≡ length (xs ++ x ∷ ys) = ap length e in omega (arith, n, length-append xs (x ∷ ys))

among : {X : Type 0} (P : X → Type 0) (before after : List X) (x : X) → All P (before ++ x ∷ after) → P x
among P before after x all = All-contains P (before ++ x ∷ after) x all (Contains-append_right before (x ∷ after) x (0, omega arith, refl))

-- none stands earlier than one before which none stands
not_earlier : (f : ℕ × ℕ) (xs before after : List (ℕ × ℕ)) (g : ℕ × ℕ) → xs ≡ before ++ g ∷ after → All (NotBefore f.1) xs → f.1 ≤ g.1
not_earlier f xs before after g e all = among (NotBefore f.1) before after g (subst (All (NotBefore f.1)) e all)

-- lists that are the same begin and go on so
pub head_same : {X : Type 0} (x y : X) (xs ys : List X) → x ∷ xs ≡ y ∷ ys → x ≡ y
head_same x y xs ys e = cc

pub tail_same : {X : Type 0} (x y : X) (xs ys : List X) → x ∷ xs ≡ y ∷ ys → xs ≡ ys
tail_same x y xs ys e = cc

one_first : (before others after rest : List (ℕ × ℕ)) (f g : ℕ × ℕ) → before ++ f ∷ after ≡ others ++ g ∷ rest
    → All (After f.1) before → All (NotBefore f.1) after → All (After g.1) others → All (NotBefore g.1) rest → f ≡ g
one_first [] [] after rest f g e a b c d = head_same f g after rest e
one_first [] (x ∷ others) after rest f g e a b c d =
    let head : f ≡ x = head_same f x after (others ++ g ∷ rest) e in
    let le = not_earlier f after others rest g (tail_same f x after (others ++ g ∷ rest) e) b in
    let lt = All-head (After g.1) x others c in
    let no : ⊥ = omega (arith, le, lt, ap (λ (h : ℕ × ℕ). h.1) head) in absurd no
one_first (x ∷ before) [] after rest f g e a b c d =
    let head : x ≡ g = head_same x g (before ++ f ∷ after) rest e in
    let le = not_earlier g rest before after f (sym (tail_same x g (before ++ f ∷ after) rest e)) d in
    let lt = All-head (After f.1) x before a in
    let no : ⊥ = omega (arith, le, lt, ap (λ (h : ℕ × ℕ). h.1) head) in absurd no
one_first (x ∷ before) (y ∷ others) after rest f g e a b c d =
    one_first before others after rest f g (tail_same x y (before ++ f ∷ after) (others ++ g ∷ rest) e)
    (All-tail (After f.1) x before a) b (All-tail (After g.1) y others c) d

-- ---- what tokens come to, where the search for items has one outcome

module _ (one_search : (ts : List Lexeme) (items others : List (List Lexeme)) (end other : End) → Searches [] ts items end → Searches [] ts others other → (items ≡ others) × (end ≡ other)) where
  pub one_items : (text : List ℕ) (tokens : List Token) (defines : List Define) (items others : Items) → AreItems text tokens defines items → AreItems text tokens defines others → items ≡ others
  one_items text tokens defines items others a b =
      let same = one_search (lexemes_of text tokens) a.cut b.cut Complete Complete a.searched b.searched in
      let declared = one_declared b.cut items.items others.items (subst (λ (cut : List (List Lexeme)). Declare cut items.items) same.0 a.declared) b.declared in
      let constants : items.constants ≡ others.constants = a.constants ∙ sym b.constants in
      ap (λ (xs : List Item). record { items = xs; constants = items.constants }) declared
      ∙ ap (λ (xs : List RawConstant). record { items = others.items; constants = xs }) constants

  pub items_no_fault : (text : List ℕ) (tokens : List Token) (defines : List Define) (items : Items) (number at : ℕ) → AreItems text tokens defines items → IsFirstFault text tokens number at → ⊥
  items_no_fault text tokens defines items number at a f =
      let same = one_search (lexemes_of text tokens) a.cut f.cut Complete f.end a.searched f.searched in
      let none : [] ≡ flat_map item_faults f.cut ++ end_faults f.end =
      sym (ap (λ (faults : List (ℕ × ℕ)). faults ++ []) (no_faults a.cut items.items a.declared))
      ∙ ap (λ (cut : List (List Lexeme)). flat_map item_faults cut ++ []) same.0 ∙ ap (λ (end : End). flat_map item_faults f.cut ++ end_faults end) same.1 in
      not_nil f.before f.after (number, at) (none ∙ f.among)

  pub one_item_fault : (text : List ℕ) (tokens : List Token) (number at other place : ℕ) → IsFirstFault text tokens number at → IsFirstFault text tokens other place → (number ≡ other) × (at ≡ place)
  one_item_fault text tokens number at other place a b =
      let same = one_search (lexemes_of text tokens) a.cut b.cut a.end b.end a.searched b.searched in
      let list : a.before ++ (number, at) ∷ a.after ≡ b.before ++ (other, place) ∷ b.after =
      sym a.among ∙ ap (λ (cut : List (List Lexeme)). flat_map item_faults cut ++ end_faults a.end) same.0
      ∙ ap (λ (end : End). flat_map item_faults b.cut ++ end_faults end) same.1 ∙ b.among in
      let one = one_first a.before b.before a.after b.after (number, at) (other, place) list a.earlier a.later b.earlier b.later in
      (ap (λ (f : ℕ × ℕ). f.0) one, ap (λ (f : ℕ × ℕ). f.1) one)
