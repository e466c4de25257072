-- One more item in a list.
use Rattle.std.proofs.Common.{◌≡◌, ℕ, Bool, true, false, cond, nat_lt, List, [], ◌∷◌, ◌++◌, map, refl, sym, ap, subst, ◌∙◌, inl, inr}
use Rattle.std.specs.Prelude.{◌⊎◌, find, All, AllPairs, Contains}
use Rattle.std.proofs.lemmas.Bool.{cases_Bool}
use Rattle.std.proofs.lemmas.List.Elements.{All-contains, Contains-append_cases, Contains-append_left, Contains-append_right}
use Rattle.std.proofs.lemmas.List.Kept.{AllPairs-cons}
use Rattle.gt_space.specs.Laws.{IsApart}
use Rattle.gt_pages.specs.Ledger.{Block, AreApart, insert_by}
use Rattle.gt_graph.specs.Changes.{Inserts}
use Rattle.gt_objects.proofs.Items.{all_by, find_past, first_there, later_there, pairs_head, pairs_tail, there_cases}

-- ---- where it goes

module _ {X : Type 0} (key : X → ℕ) (x : X) where
  goes_first : (y : X) (ys : List X) → nat_lt (key x) (key y) ≡ true → insert_by key x (y ∷ ys) ≡ x ∷ y ∷ ys
  goes_first y ys low = ap (λ b. cond b (x ∷ y ∷ ys) (y ∷ insert_by key x ys)) low

  goes_later : (y : X) (ys : List X) → nat_lt (key x) (key y) ≡ false → insert_by key x (y ∷ ys) ≡ y ∷ insert_by key x ys
  goes_later y ys high = ap (λ b. cond b (x ∷ y ∷ ys) (y ∷ insert_by key x ys)) high

  pub inserted : (ys : List X) → Inserts x ys (insert_by key x ys)
  inserted [] = ([], [], refl, refl)
  inserted (y ∷ ys) = elim (cases_Bool (nat_lt (key x) (key y))) [
    | inl low ↦ ([], y ∷ ys, refl, goes_first y ys low)
    | inr high ↦
        let rest = inserted ys in
        (y ∷ rest.0, rest.1, ap (λ zs. y ∷ zs) rest.2, goes_later y ys high ∙ ap (λ zs. y ∷ zs) rest.3)
  ]

-- a mapped list with the mapped item, at its place by another key
pub map_inserted : {X Y : Type 0} (f : X → Y) (key : X → ℕ) (other : Y → ℕ) (x : X) (ys : List X) → other (f x) ≡ key x → ((y : X) → Contains ys y → other (f y) ≡ key y)
    → map f (insert_by key x ys) ≡ insert_by other (f x) (map f ys)
map_inserted f key other x [] same each = refl
map_inserted f key other x (y ∷ ys) same each =
    let tests : nat_lt (other (f x)) (other (f y)) ≡ nat_lt (key x) (key y) =
    ap (λ n. nat_lt n (other (f y))) same ∙ ap (λ n. nat_lt (key x) n) (each y (first_there y ys)) in
    elim (cases_Bool (nat_lt (key x) (key y))) [
      | inl low ↦ ap (map f) (goes_first key x y ys low) ∙ sym (goes_first other (f x) (f y) (map f ys) (tests ∙ low))
      | inr high ↦
          ap (map f) (goes_later key x y ys high)
          ∙ ap (λ zs. f y ∷ zs) (map_inserted f key other x ys same (λ z there. each z (later_there y ys z there)))
          ∙ sym (goes_later other (f x) (f y) (map f ys) (tests ∙ high))
    ]

-- ---- what is there then

module _ {X : Type 0} (x : X) (old new : List X) (is : Inserts x old new) where
  pub new_there : Contains new x
  new_there = subst (λ zs. Contains zs x) (sym is.3) (Contains-append_right is.0 (x ∷ is.1) x (first_there x is.1))

  pub old_there : (y : X) → Contains old y → Contains new y
  old_there y there = elim (Contains-append_cases is.0 is.1 y (subst (λ zs. Contains zs y) is.2 there)) [
    | inl before ↦ subst (λ zs. Contains zs y) (sym is.3) (Contains-append_left is.0 (x ∷ is.1) y before)
    | inr after ↦ subst (λ zs. Contains zs y) (sym is.3) (Contains-append_right is.0 (x ∷ is.1) y (later_there x is.1 y after))
  ]

  pub new_cases : (y : X) → Contains new y → (x ≡ y) ⊎ Contains old y
  new_cases y there = elim (Contains-append_cases is.0 (x ∷ is.1) y (subst (λ zs. Contains zs y) is.3 there)) [
    | inl before ↦ inr (subst (λ zs. Contains zs y) (sym is.2) (Contains-append_left is.0 is.1 y before))
    | inr rest ↦ elim (there_cases x is.1 y rest) [
      | inl same ↦ inl same
      | inr after ↦ inr (subst (λ zs. Contains zs y) (sym is.2) (Contains-append_right is.0 is.1 y after))
    ]
  ]

  -- what holds of the old items and of the new one
  pub all_inserted : (P : X → Type 0) → P x → All P old → All P new
  all_inserted P here all = all_by P new (λ y there. elim (new_cases y there) [
    | inl same ↦ subst P same here
    | inr before ↦ All-contains P old y all before
  ])

  pub find_inserted : (test : X → Bool) → test x ≡ false → find test new ≡ find test old
  find_inserted test fails = ap (find test) is.3 ∙ find_past test is.0 is.1 x fails ∙ sym (ap (find test) is.2)

pairs_between : {X : Type 0} (R : X → X → Type 0) (x : X) → ((y : X) → R x y → R y x) → (front back : List X) → ((y : X) → Contains (front ++ back) y → R x y)
    → AllPairs R (front ++ back) → AllPairs R (front ++ x ∷ back)
pairs_between R x turn [] back each pairs = AllPairs-cons R x back (all_by (R x) back each) pairs
pairs_between R x turn (y ∷ front) back each pairs =
    let head = pairs_head R y (front ++ back) pairs in
    AllPairs-cons R y (front ++ x ∷ back)
    (all_inserted x (front ++ back) (front ++ x ∷ back) (front, back, refl, refl) (R y) (turn y (each y (first_there y (front ++ back)))) head)
    (pairs_between R x turn front back (λ z there. each z (later_there y (front ++ back) z there)) (pairs_tail R y (front ++ back) pairs))

-- what holds of all pairs of old items, and of the new one with each
pub pairs_inserted : {X : Type 0} (R : X → X → Type 0) (x : X) (old new : List X) → Inserts x old new → ((y : X) → R x y → R y x) → ((y : X) → Contains old y → R x y)
    → AllPairs R old → AllPairs R new
pairs_inserted R x old new is turn each pairs =
    subst (AllPairs R) (sym is.3)
    (pairs_between R x turn is.0 is.1 (λ y there. each y (subst (λ zs. Contains zs y) (sym is.2) there)) (subst (AllPairs R) is.2 pairs))

-- ---- blocks

turned : (a b : Block) → IsApart a.address a.size b.address b.size → IsApart b.address b.size a.address a.size
turned a b (inl before) = inr before
turned a b (inr after) = inl after

-- two blocks of a list are apart, or one
apart_first : (b : Block) (front back : List Block) → AreApart (front ++ b ∷ back) → (c : Block) → Contains (front ++ back) c → IsApart b.address b.size c.address c.size
apart_first b [] back apart c there = All-contains (λ d. IsApart b.address b.size d.address d.size) back c apart.0 there
apart_first b (a ∷ front) back apart c there = elim (there_cases a (front ++ back) c there) [
  | inl same ↦
      subst (λ d. IsApart b.address b.size d.address d.size) same
      (turned a b (All-contains (λ d. IsApart a.address a.size d.address d.size) (front ++ b ∷ back) b apart.0 (Contains-append_right front (b ∷ back) b (first_there b back))))
  | inr later ↦ apart_first b front back apart.1 c later
]

-- a new block is apart from each old one
pub apart_inserted : (b : Block) (old new : List Block) → Inserts b old new → AreApart new → (c : Block) → Contains old c → IsApart b.address b.size c.address c.size
apart_inserted b old new is apart c there =
    apart_first b is.0 is.1 (subst AreApart is.3 apart) c (subst (λ zs. Contains zs c) is.2 there)
