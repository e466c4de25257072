-- The earliest of faults is found part by part, and it is the first.
use Rattle.std.proofs.Common.{◌≡◌, ◌∙◌, ℕ, suc, ◌+◌, ◌<◌, Bool, true, false, List, [], ◌∷◌, ◌++◌, length, get_or, take, drop, map, Option, Some, None, refl, sym, ap, subst, arith, inl, inr, append_assoc, ◌≤◌}
use Rattle.std.specs.Prelude.{nat_lt, nat_le, ◌==◌, ◌&&◌, ◌||◌, IsTrue, if◌then◌else◌, ◌⊎◌, Result, Ok, Err, IfOk}
use Rattle.std.proofs.lemmas.Bool.Decides.{nat_tests}
use Rattle.std.proofs.lemmas.List.{drop_more, append-nil, drop_all, map_more, length-map, length-take-le}
use Rattle.std.proofs.lemmas.List.Elements.{All-nil, All-push, All-weaker, Contains-push, Contains-append_left}
use Rattle.gt_types.specs.declared.faults.Fault.{Fault}
use Rattle.gt_drafts.specs.declared.draft.DraftField.{DraftField}
use Rattle.gt_drafts.specs.declared.draft.DraftStructure.{DraftStructure}
use Rattle.gt_resolve.specs.declared.TheConstants.{BY_VALUE_CYCLE, TOO_MANY}
use Rattle.gt_types.specs.declared.limits.TheConstants.{MAX_STRUCTURES}
use Rattle.gt_drafts.specs.FirstFaults.{IsFirst, is_no_later, fault_if, earlier_of, first_from, IsFirstOf}
use Rattle.gt_resolve.specs.Faults.{field_faults, fields_faults, structure_faults}
use Rattle.gt_drafts.specs.Shapes.{has_flag}

-- ---- parts

pub first_from_append : (e : Option Fault) (a b : List Fault) → first_from e (a ++ b) ≡ first_from (first_from e a) b
unfolding first_from
first_from_append e [] b = refl
first_from_append e (f ∷ a) b = first_from_append (earlier_of e f) a b

-- two parts, one after the other
pub first_from_both : (e e1 e2 : Option Fault) (a b : List Fault) → e1 ≡ first_from e a → e2 ≡ first_from e1 b → e2 ≡ first_from e (a ++ b)
first_from_both e e1 e2 a b h k = k ∙ ap (λ x. first_from x b) h ∙ sym (first_from_append e a b)

pub first_from_nil : (e : Option Fault) → first_from e [] ≡ e
unfolding first_from
first_from_nil e = refl

-- one more item of a list whose faults are those of its items in order
pub first_from_more :
    {X : Type 0} (f : ℕ → X → List Fault) (F : ℕ → List X → List Fault) → ((i : ℕ) (x : X) (xs : List X) → F i (x ∷ xs) ≡ f i x ++ F (suc i) xs)
    → (e e1 : Option Fault) (i : ℕ) (xs : List X) (x : X) → i < length xs → x ≡ get_or xs i x → e1 ≡ first_from e (f i x)
    → first_from e1 (F (i + 1) (drop (i + 1) xs)) ≡ first_from e (F i (drop i xs))
first_from_more {X} f F step e e1 i xs x l is h =
    let item : drop i xs ≡ x ∷ drop (i + 1) xs = drop_more xs i x l ∙ ap (λ (y : X). y ∷ drop (i + 1) xs) (sym is) in
    let next : i + 1 ≡ suc i = omega arith in
    first_from_both e e1 (first_from e1 (F (i + 1) (drop (i + 1) xs))) (f i x) (F (i + 1) (drop (i + 1) xs)) h refl
    ∙ ap (λ (n : ℕ). first_from e (f i x ++ F n (drop (i + 1) xs))) next ∙ ap (first_from e) (sym (step i x (drop (i + 1) xs)))
    ∙ ap (λ (ys : List X). first_from e (F i ys)) (sym item)

-- ---- order

-- by three numbers, one after another
abbrev no_later : (f a n g b m : ℕ) → Bool
no_later f a n g b m = nat_lt f g || (f == g && (nat_lt a b || (a == b && nat_le n m)))

-- two places, each of which comes before the other or is the same
by_pairs : (f a n g b m : ℕ) → no_later f a n g b m ≡ true → (f < g) ⊎ ((f ≡ g) × ((a < b) ⊎ ((a ≡ b) × (n ≤ m))))
by_pairs f a n g b m h = grind (arith, nat_tests)

from_pairs : (f a n g b m : ℕ) → (f < g) ⊎ ((f ≡ g) × ((a < b) ⊎ ((a ≡ b) × (n ≤ m)))) → no_later f a n g b m ≡ true
from_pairs f a n g b m h = grind (arith, nat_tests)

trans_pairs : (f a n g b m h c l : ℕ) → (f < g) ⊎ ((f ≡ g) × ((a < b) ⊎ ((a ≡ b) × (n ≤ m)))) → (g < h) ⊎ ((g ≡ h) × ((b < c) ⊎ ((b ≡ c) × (m ≤ l))))
    → (f < h) ⊎ ((f ≡ h) × ((a < c) ⊎ ((a ≡ c) × (n ≤ l))))
trans_pairs f a n g b m h c l (inl x) (inl y) = inl (omega arith)
trans_pairs f a n g b m h c l (inl x) (inr y) = let e : g ≡ h = y.0 in inl (omega (arith, x, e))
trans_pairs f a n g b m h c l (inr x) (inl y) = let e : f ≡ g = x.0 in inl (omega (arith, y, e))
trans_pairs f a n g b m h c l (inr (e, inl x)) (inr (k, inl y)) = inr (omega arith, inl (omega arith))
trans_pairs f a n g b m h c l (inr (e, inl x)) (inr (k, inr y)) = let u : b ≡ c = y.0 in inr (omega arith, inl (omega (arith, x, u)))
trans_pairs f a n g b m h c l (inr (e, inr x)) (inr (k, inl y)) = let u : a ≡ b = x.0 in inr (omega arith, inl (omega (arith, y, u)))
trans_pairs f a n g b m h c l (inr (e, inr (u, x))) (inr (k, inr (v, y))) = inr (omega arith, inr (omega arith, omega arith))

refl_no_later : (a : Fault) → IsTrue (is_no_later a a)
refl_no_later a = from_pairs a.file a.at a.number a.file a.at a.number (inr (refl, inr (refl, omega arith)))

total_no_later : (a b : Fault) → is_no_later a b ≡ false → IsTrue (is_no_later b a)
total_no_later a b h = grind (arith, nat_tests)

pub trans_no_later : (a b c : Fault) → IsTrue (is_no_later a b) → IsTrue (is_no_later b c) → IsTrue (is_no_later a c)
trans_no_later a b c h k =
    from_pairs a.file a.at a.number c.file c.at c.number
    (trans_pairs a.file a.at a.number b.file b.at b.number c.file c.at c.number (by_pairs a.file a.at a.number b.file b.at b.number h)
    (by_pairs b.file b.at b.number c.file c.at c.number k))

-- ---- the first

first_alone : (f : Fault) → IsFirst (f ∷ []) f
first_alone f = record { there = Contains-push [] f; first = All-push (λ other. IsTrue (is_no_later f other)) [] f (All-nil (λ other. IsTrue (is_no_later f other))) (refl_no_later f) }

-- one more fault after those that have a first
first_pushed : (faults : List Fault) (f g : Fault) (b : Bool) → is_no_later f g ≡ b → IsFirst faults f → IsFirstOf (faults ++ g ∷ []) (if b then Some f else Some g)
first_pushed faults f g true e h =
    record { there = Contains-append_left faults (g ∷ []) f h.there; first = All-push (λ other. IsTrue (is_no_later f other)) faults g h.first e }
first_pushed faults f g false e h =
    record {
      there = Contains-push faults g;
      first =
          All-push (λ other. IsTrue (is_no_later g other)) faults g
          (All-weaker (λ other. IsTrue (is_no_later f other)) (λ other. IsTrue (is_no_later g other)) (λ other k. trans_no_later g f other (total_no_later f g e) k) faults h.first)
          (refl_no_later g);
    }

first_of_earlier : (faults : List Fault) (e : Option Fault) (g : Fault) → IsFirstOf faults e → IsFirstOf (faults ++ g ∷ []) (earlier_of e g)
first_of_earlier faults None g h = subst (λ (fs : List Fault). IsFirst (fs ++ g ∷ []) g) (sym h) (first_alone g)
first_of_earlier faults (Some f) g h = first_pushed faults f g (is_no_later f g) refl h

first_of_more : (before faults : List Fault) (e : Option Fault) → IsFirstOf before e → IsFirstOf (before ++ faults) (first_from e faults)
unfolding first_from
first_of_more before [] e h = subst (λ (fs : List Fault). IsFirstOf fs e) (sym (append-nil before)) h
first_of_more before (f ∷ faults) e h =
    subst (λ (fs : List Fault). IsFirstOf fs (first_from (earlier_of e f) faults)) (append_assoc before (f ∷ []) faults)
    (first_of_more (before ++ f ∷ []) faults (earlier_of e f) (first_of_earlier before e f h))

-- the earliest of faults is the first of them
pub first_from_first : (faults : List Fault) → IsFirstOf faults (first_from None faults)
first_from_first faults = first_of_more [] faults None refl

-- ---- parts of the parts

-- what follows from what is true of an answer
pub if_ok : {X E : Type 0} (r : Result X E) (P Q : X → Type 0) → ((x : X) → P x → Q x) → IfOk r P → IfOk r Q
if_ok (Ok x) P Q f h = f x h
if_ok (Err e) P Q f h = h

-- the same, where what was looked for is known by another name
pub first_from_if : (e e1 : Option Fault) (b there : Bool) (number file at : ℕ) → e1 ≡ first_from e (fault_if b number file at) → b ≡ there → e1 ≡ first_from e (fault_if there number file at)
first_from_if e e1 b there number file at h same = h ∙ ap (λ (x : Bool). first_from e (fault_if x number file at)) same

-- after the last item
pub first_from_end : {X : Type 0} (F : ℕ → List X → List Fault) → ((i : ℕ) → F i [] ≡ []) → (e : Option Fault) (i : ℕ) (xs : List X) → length xs ≤ i → e ≡ first_from e (F i (drop i xs))
first_from_end {X} F none e i xs l =
    sym (first_from_nil e) ∙ ap (first_from e) (sym (none i)) ∙ ap (λ (ys : List X). first_from e (F i ys)) (sym (drop_all i xs l))

-- ---- fields

-- the names of fields
abbrev pub names_of : List DraftField → List (List ℕ)
names_of fields = map (λ f. f.name.word) fields

pub names_more : (i : ℕ) (fields : List DraftField) (f : DraftField) → i < length fields → f ≡ get_or fields i f
    → names_of (take (i + 1) fields) ≡ names_of (take i fields) ++ f.name.word ∷ []
names_more i fields f l is =
    map_more (λ g. g.name.word) fields i f l ∙ ap (λ (g : DraftField). names_of (take i fields) ++ g.name.word ∷ []) (sym is)

pub length_names : (i : ℕ) (fields : List DraftField) → i ≤ length fields → length (names_of (take i fields)) ≡ i
length_names i fields l = length-map (take i fields) (λ g. g.name.word) ∙ length-take-le i fields l

module _ (tails : List Bool) (file : ℕ) (in_union : Bool) where
  abbrev pub fields_after : ℕ → List DraftField → List Fault
  fields_after i fields = fields_faults tails file in_union (names_of (take i fields)) (drop i fields)

  -- one more field
  pub first_from_field :
      (e e1 : Option Fault) (i : ℕ) (fields : List DraftField) (f : DraftField) → i < length fields → f ≡ get_or fields i f
      → e1 ≡ first_from e (field_faults tails file in_union (names_of (take i fields)) f)
      → first_from e1 (fields_after (i + 1) fields) ≡ first_from e (fields_after i fields)
  unfolding fields_faults
  first_from_field e e1 i fields f l is h =
      let before = names_of (take i fields) in
      let rest = drop (i + 1) fields in
      let item : drop i fields ≡ f ∷ rest = drop_more fields i f l ∙ ap (λ (g : DraftField). g ∷ rest) (sym is) in
      let names = names_more i fields f l is in
      ap (λ (ns : List (List ℕ)). first_from e1 (fields_faults tails file in_union ns rest)) names
      ∙ first_from_both e e1 (first_from e1 (fields_faults tails file in_union (before ++ f.name.word ∷ []) rest)) (field_faults tails file in_union before f)
      (fields_faults tails file in_union (before ++ f.name.word ∷ []) rest) h refl
      ∙ ap (λ (fs : List DraftField). first_from e (fields_faults tails file in_union before fs)) (sym item)

  -- after the last field
  pub first_from_fields : (e : Option Fault) (i : ℕ) (fields : List DraftField) → length fields ≤ i → e ≡ first_from e (fields_after i fields)
  unfolding fields_faults
  first_from_fields e i fields l =
      sym (first_from_nil e) ∙ ap (λ (fs : List DraftField). first_from e (fields_faults tails file in_union (names_of (take i fields)) fs)) (sym (drop_all i fields l))

-- ---- a structure

-- the faults of a structure at its tag and of its fields
pub first_from_structure :
    {E : Type 0} (cyclic deep tails tests : List Bool) (place : ℕ) (s : DraftStructure) (fields : List DraftField) (e e1 e2 : Option Fault) (r : Result (Option Fault) E)
    → e1 ≡ first_from e (fault_if (has_flag cyclic place) BY_VALUE_CYCLE s.file s.tag.at)
    → e2 ≡ first_from e1 (fault_if (has_flag deep place || nat_le MAX_STRUCTURES place) TOO_MANY s.file s.tag.at)
    → tests ≡ tails → fields ≡ s.fields
    → IfOk r (λ found. found ≡ first_from e2 (fields_faults tests s.file s.is_union [] fields))
    → IfOk r (λ found. found ≡ first_from e (structure_faults cyclic deep tails place s))
first_from_structure cyclic deep tails tests place s fields e e1 e2 r h k t f =
    if_ok r (λ found. found ≡ first_from e2 (fields_faults tests s.file s.is_union [] fields))
    (λ found. found ≡ first_from e (structure_faults cyclic deep tails place s))
    (λ found l.
    first_from_both e e2 found
    (fault_if (has_flag cyclic place) BY_VALUE_CYCLE s.file s.tag.at ++ fault_if (has_flag deep place || nat_le MAX_STRUCTURES place) TOO_MANY s.file s.tag.at)
    (fields_faults tails s.file s.is_union [] s.fields)
    (first_from_both e e1 e2 (fault_if (has_flag cyclic place) BY_VALUE_CYCLE s.file s.tag.at)
    (fault_if (has_flag deep place || nat_le MAX_STRUCTURES place) TOO_MANY s.file s.tag.at) h k)
    (l ∙ ap (λ (ts : List Bool). first_from e2 (fields_faults ts s.file s.is_union [] fields)) t
    ∙ ap (λ (fs : List DraftField). first_from e2 (fields_faults tails s.file s.is_union [] fs)) f))

-- ---- two firsts

abbrev fault_of : (number file at : ℕ) → Fault
fault_of number file at = record { number = number; file = file; at = at }

same_places : (f a n g b m : ℕ) → (f < g) ⊎ ((f ≡ g) × ((a < b) ⊎ ((a ≡ b) × (n ≤ m)))) → (g < f) ⊎ ((g ≡ f) × ((b < a) ⊎ ((b ≡ a) × (m ≤ n))))
    → (f ≡ g) × (a ≡ b) × (n ≡ m)
same_places f a n g b m (inl x) (inl y) = absurd (omega (arith, x, y))
same_places f a n g b m (inl x) (inr (e, y)) = absurd (omega (arith, x, e))
same_places f a n g b m (inr (e, x)) (inl y) = absurd (omega (arith, e, y))
same_places f a n g b m (inr (e, inl x)) (inr (k, inl y)) = absurd (omega (arith, x, y))
same_places f a n g b m (inr (e, inl x)) (inr (k, inr (u, y))) = absurd (omega (arith, x, u))
same_places f a n g b m (inr (e, inr (u, x))) (inr (k, inl y)) = absurd (omega (arith, u, y))
same_places f a n g b m (inr (e, inr (u, x))) (inr (k, inr (v, y))) = (e, u, (let z : n ≡ m = omega (arith, x, y) in z))

-- faults that are no later than one another are one
pub one_no_later : (a b : Fault) → IsTrue (is_no_later a b) → IsTrue (is_no_later b a) → a ≡ b
one_no_later a b h k =
    let s = same_places a.file a.at a.number b.file b.at b.number (by_pairs a.file a.at a.number b.file b.at b.number h)
    (by_pairs b.file b.at b.number a.file a.at a.number k) in
    ap (λ (f : ℕ). fault_of a.number f a.at) s.0 ∙ ap (λ (x : ℕ). fault_of a.number b.file x) s.1 ∙ ap (λ (n : ℕ). fault_of n b.file b.at) s.2
