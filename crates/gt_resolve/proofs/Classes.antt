-- Second definitions are found by the first of each name and a mark on it.
use Rattle.std.proofs.Common.{◌≡◌, ◌≢◌, ◌∙◌, ℕ, zero, suc, ◌+◌, ◌<◌, ◌≤◌, Bool, true, false, not, List, [], ◌∷◌, ◌++◌, length, drop, get_or, replicate, append_assoc, Option, Some, None, refl, sym, ap, ap₂, subst, arith, inl, inr}
use Rattle.std.specs.Prelude.{◌&&◌, ◌||◌, ◌⊎◌, if◌then◌else◌, slice_get, slice_set, Result, IfOk}
use Rattle.std.specs.Option.{option_map_or}
use Rattle.std.specs.List.{list_any}
use Rattle.std.specs.Str.{bytes_eq}
use Rattle.std.proofs.lemmas.Bool.{and_parts, and_from, cases_Bool, cases_eq, cases_order, eq-eqb, ne_eqb, not_from_false, not-true, or_cases, or_left, or_right, true≢false}
use Rattle.std.proofs.lemmas.List.{drop_all, drop_more, length-replicate}
use Rattle.std.proofs.lemmas.Option.{none-some, same_Some, slice_get_within}
use Rattle.std.proofs.lemmas.Slice.Eq.{bytes_eq-Decides}
use Rattle.gt_types.specs.declared.faults.Fault.{Fault}
use Rattle.gt_resolve.specs.declared.TheConstants.{REDEFINED}
use Rattle.gt_scope.specs.declared.declaration.Declaration.{Declaration}
use Rattle.gt_scope.specs.declared.meaning.TypedefMeaning.{TypedefMeaning}
use Rattle.gt_names.specs.declared.tables.Entry.{Entry}
use Rattle.gt_names.specs.Entries.{first_some, value_in, with_value}
use Rattle.gt_resolve.specs.Faults.{agree, clashes, is_tag, redefinitions}
use Rattle.gt_drafts.specs.FirstFaults.{fault_if, first_from}
use Rattle.gt_drafts.specs.Shapes.{has_flag}
use Rattle.gt_drafts.specs.Sameness.{same_bool}
use Rattle.gt_resolve.specs.Redefinitions.{agrees_at, first_place, first_places, is_clash, marked_faults, with_clash, with_first}
use Rattle.gt_resolve.proofs.Agreements.{agree_two, agree_through, same_bool_is}
use Rattle.gt_resolve.proofs.Firsts.{first_from_both, first_from_nil, if_ok}
use Rattle.gt_shapes.proofs.SearchLemmas.{get_same, get_other, length_set}
use Rattle.gt_names.proofs.TableLemmas.{first_assoc, none_first, value_with}

-- ---- classes of names

-- a declaration is one of the name in this space
abbrev is_named : Bool → List ℕ → Declaration → Bool
is_named tags word d = same_bool tags (is_tag d.what) && bytes_eq d.name.word word

-- one of the name of another
abbrev Named : Declaration → Declaration → Type 0
Named d e = is_named (is_tag d.what) d.name.word e ≡ true

same_bool_refl : (b : Bool) → same_bool b b ≡ true
same_bool_refl true = refl
same_bool_refl false = refl

named_self : (d : Declaration) → Named d d
named_self d = and_from (same_bool (is_tag d.what) (is_tag d.what)) (bytes_eq d.name.word d.name.word) (same_bool_refl (is_tag d.what)) ((bytes_eq-Decides d.name.word d.name.word).1 refl)

-- what is named as one is named as the other
same_names : (d e g : Declaration) → Named d e → is_named (is_tag d.what) d.name.word g ≡ is_named (is_tag e.what) e.name.word g
same_names d e g h =
    let p = and_parts (same_bool (is_tag d.what) (is_tag e.what)) (bytes_eq e.name.word d.name.word) h in
    ap₂ (λ (t : Bool) (w : List ℕ). is_named t w g) (same_bool_is (is_tag d.what) (is_tag e.what) p.0) (sym ((bytes_eq-Decides e.name.word d.name.word).0 p.1))

-- two of one name
named_two : (d e f : Declaration) → Named d e → Named d f → Named e f
named_two d e f h k = sym (same_names d e f h) ∙ k

named_back : (d e : Declaration) → Named d e → Named e d
named_back d e h = named_two d e d h (named_self d)

-- ---- the first of a name

place_from : Bool → ℕ → List ℕ → List Declaration → Option ℕ
place_from tags place word [] = None
place_from tags place word (d ∷ ds) = first_some (if is_named tags word d then Some place else None) (place_from tags (suc place) word ds)

value_first_case : (tags b : Bool) (place : ℕ) (d : Declaration) (es : List (Entry ℕ)) (word : List ℕ)
    → value_in (if b then with_value es d.name.word place else es) word ≡ first_some (value_in es word) (if b && bytes_eq d.name.word word then Some place else None)
value_first_case tags true place d es word = value_with es d.name.word place word
value_first_case tags false place d es word = sym (none_first (value_in es word))

value_first : (tags : Bool) (place : ℕ) (es : List (Entry ℕ)) (ds : List Declaration) (word : List ℕ)
    → value_in (first_places tags place es ds) word ≡ first_some (value_in es word) (place_from tags place word ds)
unfolding first_places place_from
value_first tags place es [] word = sym (none_first (value_in es word))
value_first tags place es (d ∷ ds) word =
    value_first tags (suc place) (with_first tags place d es) ds word
    ∙ ap (λ (o : Option ℕ). first_some o (place_from tags (suc place) word ds)) (value_first_case tags (same_bool tags (is_tag d.what)) place d es word)
    ∙ first_assoc (value_in es word) (if is_named tags word d then Some place else None) (place_from tags (suc place) word ds)

-- the i-th is the first of a name that the k-th has
record FirstAt (ds : List Declaration) (tags : Bool) (word : List ℕ) (k i : ℕ) : Type 0 where
  below : i ≤ k
  entry : Declaration
  there : slice_get ds i ≡ Some entry
  named : is_named tags word entry ≡ true
  none : (m : ℕ) (f : Declaration) → m < i → slice_get ds m ≡ Some f → is_named tags word f ≡ false

record Found (ds : List Declaration) (tags : Bool) (word : List ℕ) (place k : ℕ) : Type 0 where
  at : ℕ
  is : place_from tags place word ds ≡ Some (place + at)
  first : FirstAt ds tags word k at

found_here : (tags : Bool) (word : List ℕ) (place k : ℕ) (e : Declaration) (ds : List Declaration) → is_named tags word e ≡ true → Found (e ∷ ds) tags word place k
unfolding place_from
found_here tags word place k e ds h =
    record {
      at = 0;
      is =
          ap (λ (b : Bool). first_some (if b then Some place else None) (place_from tags (suc place) word ds)) h
          ∙ ap (λ (n : ℕ). Some n) (let z : place ≡ place + 0 = omega arith in z);
      first =
          record {
            below = omega arith;
            entry = e;
            there = refl;
            named = h;
            none = λ m f l. absurd (omega (arith, l));
          };
    }

found_later : (tags : Bool) (word : List ℕ) (place k : ℕ) (e : Declaration) (ds : List Declaration) → is_named tags word e ≡ false
    → Found ds tags word (suc place) k → Found (e ∷ ds) tags word place (suc k)
unfolding place_from
found_later tags word place k e ds h r =
    record {
      at = suc r.at;
      is =
          ap (λ (b : Bool). first_some (if b then Some place else None) (place_from tags (suc place) word ds)) h ∙ r.is
          ∙ ap (λ (n : ℕ). Some n) (let z : suc place + r.at ≡ place + suc r.at = omega arith in z);
      first =
          record {
            below = omega (arith, r.first.below);
            entry = r.first.entry;
            there = r.first.there;
            named = r.first.named;
            none = none;
          };
    }
  where
    none : (m : ℕ) (f : Declaration) → m < suc r.at → slice_get (e ∷ ds) m ≡ Some f → is_named tags word f ≡ false
    none zero f l is = ap (is_named tags word) (sym (same_Some e f is)) ∙ h
    none (suc m) f l is = r.first.none m f (omega (arith, l)) is

found : (tags : Bool) (word : List ℕ) (place : ℕ) (ds : List Declaration) (k : ℕ) (d : Declaration) → slice_get ds k ≡ Some d → is_named tags word d ≡ true → Found ds tags word place k
found tags word place [] k d e h = absurd (none-some d e)
found tags word place (x ∷ ds) zero d e h = found_here tags word place 0 x ds (ap (is_named tags word) (same_Some x d e) ∙ h)
found tags word place (x ∷ ds) (suc k) d e h =
    elim (cases_Bool (is_named tags word x)) [
      | inl yes_here ↦ found_here tags word place (suc k) x ds yes_here
      | inr later ↦ found_later tags word place k x ds later (found tags word (suc place) ds k d e h)
    ]

-- ---- lists

record Somewhere (p : Declaration → Bool) (xs : List Declaration) : Type 0 where
  at : ℕ
  item : Declaration
  there : slice_get xs at ≡ Some item
  passes : p item ≡ true

somewhere : (p : Declaration → Bool) (xs : List Declaration) → list_any p xs ≡ true → Somewhere p xs
somewhere p [] h = absurd (true≢false (sym h))
somewhere p (x ∷ xs) h =
    elim (or_cases (p x) (list_any p xs) h) [
      | inl here ↦ record { at = 0; item = x; there = refl; passes = here }
      | inr later ↦ let r = somewhere p xs later in record { at = suc r.at; item = r.item; there = r.there; passes = r.passes }
    ]

any_at : (p : Declaration → Bool) (xs : List Declaration) (i : ℕ) (x : Declaration) → slice_get xs i ≡ Some x → p x ≡ true → list_any p xs ≡ true
any_at p [] i x e h = absurd (none-some x e)
any_at p (y ∷ xs) zero x e h = or_left (p y) (list_any p xs) (ap p (same_Some y x e) ∙ h)
any_at p (y ∷ xs) (suc i) x e h = or_right (p y) (list_any p xs) (any_at p xs i x e h)

get_front : {X : Type 0} (xs ys : List X) (i : ℕ) (x : X) → slice_get xs i ≡ Some x → slice_get (xs ++ ys) i ≡ Some x
get_front [] ys i x e = absurd (none-some x e)
get_front (y ∷ xs) ys zero x e = e
get_front (y ∷ xs) ys (suc i) x e = get_front xs ys i x e

get_back : {X : Type 0} (xs ys : List X) (i : ℕ) (x : X) → i < length xs → slice_get (xs ++ ys) i ≡ Some x → slice_get xs i ≡ Some x
get_back [] ys i x l e = absurd (omega (arith, l))
get_back (y ∷ xs) ys zero x l e = e
get_back (y ∷ xs) ys (suc i) x l e = get_back xs ys i x (omega (arith, l)) e

get_at_end : {X : Type 0} (xs ys : List X) (y : X) → slice_get (xs ++ y ∷ ys) (length xs) ≡ Some y
get_at_end [] ys y = refl
get_at_end (x ∷ xs) ys y = get_at_end xs ys y

-- an item of a list with one more is before it, or is it
get_push : {X : Type 0} (xs : List X) (y : X) (i : ℕ) (x : X) → slice_get (xs ++ y ∷ []) i ≡ Some x → ((i < length xs) × (slice_get xs i ≡ Some x)) ⊎ ((i ≡ length xs) × (y ≡ x))
get_push [] y zero x e = inr (refl, same_Some y x e)
get_push [] y (suc i) x e = absurd (none-some x e)
get_push (z ∷ xs) y zero x e = inl (omega arith, e)
get_push (z ∷ xs) y (suc i) x e = elim (get_push xs y i x e) [ inl (l, is) ↦ inl (omega (arith, l), is) | inr (l, is) ↦ inr (ap suc l, is) ]

flag_is : (o : Option Bool) → option_map_or (λ flag. flag) o false ≡ true → o ≡ Some true
flag_is None h = absurd (true≢false (sym h))
flag_is (Some b) h = ap (λ (x : Bool). Some x) h

is_flag : (flags : List Bool) (i : ℕ) → slice_get flags i ≡ Some true → has_flag flags i ≡ true
is_flag flags i e = ap (λ (o : Option Bool). option_map_or (λ flag. flag) o false) e

same_tests : (a b : Bool) → (a ≡ true → b ≡ true) → (b ≡ true → a ≡ true) → a ≡ b
same_tests true b f g = sym (f refl)
same_tests false true f g = g refl
same_tests false false f g = refl

-- ---- clashes

module _ (all : List Declaration) (types : List TypedefMeaning) where
  abbrev tags : List (Entry ℕ)
  tags = first_places true 0 [] all

  abbrev others : List (Entry ℕ)
  others = first_places false 0 [] all

  abbrev Agrees : Declaration → Declaration → Bool
  Agrees d e = agree all types d.what e.what

  by_space : (b : Bool) → (if b then tags else others) ≡ first_places b 0 [] all
  by_space true = refl
  by_space false = refl

  -- the first declaration of the name
  first_is : (k : ℕ) (d : Declaration) → slice_get all k ≡ Some d → FirstAt all (is_tag d.what) d.name.word k (first_place tags others d k)
  first_is k d e =
      let r = found (is_tag d.what) d.name.word 0 all k d e (named_self d) in
      let value : value_in (if is_tag d.what then tags else others) d.name.word ≡ Some r.at =
      ap (λ (es : List (Entry ℕ)). value_in es d.name.word) (by_space (is_tag d.what)) ∙ value_first (is_tag d.what) 0 [] all d.name.word ∙ r.is
      ∙ ap (λ (n : ℕ). Some n) (let z : 0 + r.at ≡ r.at = omega arith in z) in
      subst (λ (o : Option ℕ). FirstAt all (is_tag d.what) d.name.word k (option_map_or (λ first. first) o k)) (sym value) r.first

  clash_parts : (d f : Declaration) → clashes all types d f ≡ true → Named d f × (Agrees d f ≡ false)
  clash_parts d f h =
      let p = and_parts (bytes_eq d.name.word f.name.word && same_bool (is_tag d.what) (is_tag f.what)) (not (Agrees d f)) h in
      let q = and_parts (bytes_eq d.name.word f.name.word) (same_bool (is_tag d.what) (is_tag f.what)) p.0 in (
        and_from (same_bool (is_tag d.what) (is_tag f.what)) (bytes_eq f.name.word d.name.word) q.1
            ((bytes_eq-Decides f.name.word d.name.word).1 (sym ((bytes_eq-Decides d.name.word f.name.word).0 q.0))),
        not-true (Agrees d f) p.1,
      )

  clash_whole : (d f : Declaration) → Named d f → Agrees d f ≡ false → clashes all types d f ≡ true
  clash_whole d f h k =
      let p = and_parts (same_bool (is_tag d.what) (is_tag f.what)) (bytes_eq f.name.word d.name.word) h in
      and_from (bytes_eq d.name.word f.name.word && same_bool (is_tag d.what) (is_tag f.what)) (not (Agrees d f))
      (and_from (bytes_eq d.name.word f.name.word) (same_bool (is_tag d.what) (is_tag f.what))
      ((bytes_eq-Decides d.name.word f.name.word).1 (sym ((bytes_eq-Decides f.name.word d.name.word).0 p.1))) p.0) (not_from_false (Agrees d f) k)

  -- a mark on the l-th: one of its name has another meaning
  record IsMarked (before : List Declaration) (l : ℕ) : Type 0 where
    first : Declaration
    there : slice_get before l ≡ Some first
    at : ℕ
    other : Declaration
    stands : slice_get before at ≡ Some other
    named : Named first other
    differs : Agrees other first ≡ false

  record Marks (before : List Declaration) (clashed : List Bool) : Type 0 where
    size : length clashed ≡ length all
    sound : (l : ℕ) → slice_get clashed l ≡ Some true → IsMarked before l
    complete : (l m : ℕ) (e f : Declaration) → slice_get before l ≡ Some e → slice_get before m ≡ Some f → l ≢ m
        → ((j : ℕ) (g : Declaration) → j < l → slice_get all j ≡ Some g → is_named (is_tag e.what) e.name.word g ≡ false)
        → Named e f → Agrees f e ≡ false → slice_get clashed l ≡ Some true

  -- the k-th declaration, where those before it have these marks
  module _ (before rest : List Declaration) (d : Declaration) (clashed : List Bool) (whole : all ≡ before ++ d ∷ rest) (marks : Marks before clashed) where
    abbrev k : ℕ
    k = length before

    there : slice_get all k ≡ Some d
    there = ap (λ (xs : List Declaration). slice_get xs k) whole ∙ get_at_end before rest d

    in_all : (i : ℕ) (x : Declaration) → slice_get before i ≡ Some x → slice_get all i ≡ Some x
    in_all i x e = ap (λ (xs : List Declaration). slice_get xs i) whole ∙ get_front before (d ∷ rest) i x e

    in_before : (i : ℕ) (x : Declaration) → i < k → slice_get all i ≡ Some x → slice_get before i ≡ Some x
    in_before i x l e = get_back before (d ∷ rest) i x l (ap (λ (xs : List Declaration). slice_get xs i) (sym whole) ∙ e)

    abbrev L : ℕ
    L = first_place tags others d k

    at_first : FirstAt all (is_tag d.what) d.name.word k L
    at_first = first_is k d there

    abbrev e : Declaration
    e = at_first.entry

    agrees_is : agrees_at all types d.what L ≡ Agrees d e
    agrees_is = ap (λ (o : Option Declaration). option_map_or (λ other. agree all types d.what other.what) o true) at_first.there

    abbrev clash : Bool
    clash = is_clash all types clashed d.what L k

    -- none clashes with the first of a name
    none_at_first : L ≡ k → list_any (λ other. clashes all types d other) before ≡ true → ⊥
    none_at_first same h =
        let r = somewhere (λ other. clashes all types d other) before h in
        let p = clash_parts d r.item r.passes in
        let l : r.at < L = subst (λ (n : ℕ). r.at < n) (sym same) (slice_get_within before r.at r.item r.there) in
        true≢false (sym p.0 ∙ at_first.none r.at r.item l (in_all r.at r.item r.there))

    no_clash_at_first : L ≡ k → clash ≡ false
    no_clash_at_first same = ap (λ (b : Bool). not b && (has_flag clashed L || not (agrees_at all types d.what L))) (eq-eqb L k same)

    later_clash : L ≢ k → clash ≡ (has_flag clashed L || not (Agrees d e))
    later_clash other =
        ap (λ (b : Bool). not b && (has_flag clashed L || not (agrees_at all types d.what L))) (ne_eqb L k other)
        ∙ ap (λ (b : Bool). has_flag clashed L || not b) agrees_is

    first_before : L ≢ k → slice_get before L ≡ Some e
    first_before other = in_before L e (let l : L < k = omega (arith, at_first.below, other) in l) at_first.there

    -- a clash with one before is one with the first, or the first is marked
    clash_from : L ≢ k → list_any (λ other. clashes all types d other) before ≡ true → (has_flag clashed L || not (Agrees d e)) ≡ true
    clash_from other h =
        let r = somewhere (λ x. clashes all types d x) before h in
        let p = clash_parts d r.item r.passes in
        elim (cases_Bool (Agrees d e)) [
          | inr differs ↦ or_right (has_flag clashed L) (not (Agrees d e)) (not_from_false (Agrees d e) differs)
          | inl agrees ↦ elim (cases_Bool (Agrees r.item e)) [
            | inl too ↦ absurd (true≢false (sym (agree_through all types d.what r.item.what e.what agrees too) ∙ p.1))
            | inr differs ↦ elim (cases_eq L r.at) [
              | inl same ↦
                  let item : e ≡ r.item = same_Some e r.item (sym (first_before other) ∙ ap (λ (n : ℕ). slice_get before n) same ∙ r.there) in
                  absurd (true≢false (sym agrees ∙ ap (λ (x : Declaration). Agrees d x) item ∙ p.1))
              | inr apart ↦ or_left (has_flag clashed L) (not (Agrees d e))
                  (is_flag clashed L (marks.complete L r.at e r.item (first_before other) r.there apart
                  (λ j g l is. sym (same_names d e g at_first.named) ∙ at_first.none j g l is) (named_two d e r.item at_first.named p.0) differs))
            ]
          ]
        ]

    clash_with_first : L ≢ k → Agrees d e ≡ false → list_any (λ other. clashes all types d other) before ≡ true
    clash_with_first other differs = any_at (λ x. clashes all types d x) before L e (first_before other) (clash_whole d e at_first.named differs)

    clash_to : L ≢ k → (has_flag clashed L || not (Agrees d e)) ≡ true → list_any (λ other. clashes all types d other) before ≡ true
    clash_to other h =
        elim (cases_Bool (Agrees d e)) [
          | inr differs ↦ clash_with_first other differs
          | inl agrees ↦ elim (or_cases (has_flag clashed L) (not (Agrees d e)) h) [
            | inr differs ↦ clash_with_first other (not-true (Agrees d e) differs)
            | inl flag ↦
                let m = marks.sound L (flag_is (slice_get clashed L) flag) in
                let same : m.first ≡ e = same_Some m.first e (sym m.there ∙ first_before other) in
                let named : Named d m.other = same_names d e m.other at_first.named ∙ subst (λ (x : Declaration). Named x m.other) same m.named in
                elim (cases_Bool (Agrees d m.other)) [
                  | inr differs ↦ any_at (λ x. clashes all types d x) before m.at m.other m.stands (clash_whole d m.other named differs)
                  | inl too ↦ absurd (true≢false (sym (agree_two all types d.what m.other.what e.what too agrees) ∙ ap (λ (x : Declaration). Agrees m.other x) (sym same) ∙ m.differs))
                ]
          ]
        ]

    -- the mark tells whether one before clashes
    clash_is : list_any (λ other. clashes all types d other) before ≡ clash
    clash_is =
        elim (cases_eq L k) [
          | inl same ↦ same_tests (list_any (λ other. clashes all types d other) before) clash (λ h. absurd (none_at_first same h))
              (λ h. absurd (true≢false (sym h ∙ no_clash_at_first same)))
          | inr other ↦ same_tests (list_any (λ x. clashes all types d x) before) clash (λ h. later_clash other ∙ clash_from other h) (λ h. clash_to other (sym (later_clash other) ∙ h))
        ]

    abbrev after : List Bool
    after = with_clash clash L clashed

    still : (b : Bool) (l : ℕ) → slice_get clashed l ≡ Some true → slice_get (with_clash b L clashed) l ≡ Some true
    still false l h = h
    still true l h =
        elim (cases_eq L l) [
          | inl same ↦
              subst (λ (n : ℕ). slice_get (slice_set clashed L true) n ≡ Some true) same
              (get_same clashed L true (subst (λ (n : ℕ). n < length clashed) (sym same) (slice_get_within clashed l true h)))
          | inr other ↦ get_other clashed L l true other ∙ h
        ]

    from : (b : Bool) (l : ℕ) → slice_get (with_clash b L clashed) l ≡ Some true → (slice_get clashed l ≡ Some true) ⊎ ((b ≡ true) × (L ≡ l))
    from false l h = inl h
    from true l h = elim (cases_eq L l) [ inl same ↦ inr (refl, same) | inr other ↦ inl (sym (get_other clashed L l true other) ∙ h) ]

    longer : (l : ℕ) → IsMarked before l → IsMarked (before ++ d ∷ []) l
    longer l m =
        record {
          first = m.first;
          there = get_front before (d ∷ []) l m.first m.there;
          at = m.at;
          other = m.other;
          stands = get_front before (d ∷ []) m.at m.other m.stands;
          named = m.named;
          differs = m.differs;
        }

    marked_now : clash ≡ true → IsMarked (before ++ d ∷ []) L
    marked_now h =
        elim (cases_eq L k) [
          | inl same ↦ absurd (true≢false (sym h ∙ no_clash_at_first same))
          | inr other ↦ elim (or_cases (has_flag clashed L) (not (Agrees d e)) (sym (later_clash other) ∙ h)) [
            | inl flag ↦ longer L (marks.sound L (flag_is (slice_get clashed L) flag))
            | inr differs ↦
                record {
                  first = e;
                  there = get_front before (d ∷ []) L e (first_before other);
                  at = k;
                  other = d;
                  stands = get_at_end before [] d;
                  named = named_back d e at_first.named;
                  differs = not-true (Agrees d e) differs;
                }
          ]
        ]

    set_now : clash ≡ true → slice_get after L ≡ Some true
    set_now h =
        subst (λ (b : Bool). slice_get (with_clash b L clashed) L ≡ Some true) (sym h)
        (get_same clashed L true (subst (λ (n : ℕ). L < n) (sym marks.size) (slice_get_within all L e at_first.there)))

    size_after : (b : Bool) → length (with_clash b L clashed) ≡ length all
    size_after false = marks.size
    size_after true = length_set clashed L true ∙ marks.size

    -- where the first of the name is x, at l, and the k-th has another meaning, it is marked
    marked_first : (l : ℕ) (x : Declaration) → l < k → slice_get before l ≡ Some x
        → ((j : ℕ) (g : Declaration) → j < l → slice_get all j ≡ Some g → is_named (is_tag x.what) x.name.word g ≡ false)
        → Named x d → Agrees d x ≡ false → slice_get after l ≡ Some true
    marked_first l x below is none named differs =
        elim (cases_order L l) [
          | inl same ↦
              let item : e ≡ x = same_Some e x (sym at_first.there ∙ ap (λ (n : ℕ). slice_get all n) same ∙ in_all l x is) in
              let other : L ≢ k = λ eq. (let lk : l < k = below in let kk : L ≡ l = same in omega (arith, lk, kk, eq)) in
              let now : clash ≡ true =
              later_clash other
              ∙ or_right (has_flag clashed L) (not (Agrees d e)) (not_from_false (Agrees d e) (ap (λ (y : Declaration). Agrees d y) item ∙ differs)) in
              subst (λ (n : ℕ). slice_get after n ≡ Some true) same (set_now now)
          | inr (inl earlier) ↦
              absurd (true≢false (sym (named_two d x e (named_back x d named) at_first.named) ∙ none L e earlier at_first.there))
          | inr (inr later) ↦ absurd (true≢false (sym (named_back x d named) ∙ at_first.none l x later (in_all l x is)))
        ]

    marks_after : Marks (before ++ d ∷ []) after
    marks_after =
        record {
          size = size_after clash;
          sound = λ l h. elim (from clash l h) [ inl old ↦ longer l (marks.sound l old) | inr (now, same) ↦ subst (λ (n : ℕ). IsMarked (before ++ d ∷ []) n) same (marked_now now) ];
          complete = λ l m x f at_l at_m apart none named differs.
              elim (get_push before d l x at_l) [
                | inl (l_below, l_is) ↦ elim (get_push before d m f at_m) [
                  | inl (m_below, m_is) ↦ still clash l (marks.complete l m x f l_is m_is apart none named differs)
                  | inr (m_is, same) ↦
                      marked_first l x l_below l_is none (subst (λ (y : Declaration). Named x y) (sym same) named)
                      (ap (λ (y : Declaration). Agrees y x) same ∙ differs)
                ]
                | inr (l_is, same) ↦ elim (get_push before d m f at_m) [
                  | inl (m_below, m_is) ↦ absurd (true≢false (sym named ∙ none m f (subst (λ (n : ℕ). m < n) (sym l_is) m_below) (in_all m f m_is)))
                  | inr (m_is, again) ↦ absurd (apart (l_is ∙ sym m_is))
                ]
              ];
        }

  length_push : (xs : List Declaration) (x : Declaration) → suc (length xs) ≡ length (xs ++ x ∷ [])
  length_push [] x = refl
  length_push (y ∷ xs) x = ap suc (length_push xs x)

  -- the faults by marks are those of second definitions
  marked_is : (before ds : List Declaration) (clashed : List Bool) → all ≡ before ++ ds → Marks before clashed
      → marked_faults all types tags others (length before) clashed ds ≡ redefinitions all types before ds
  unfolding marked_faults redefinitions
  marked_is before [] clashed whole marks = refl
  marked_is before (d ∷ ds) clashed whole marks =
      let n = length before in
      let first = first_place tags others d n in
      let b = is_clash all types clashed d.what first n in
      let next : List Bool = with_clash b first clashed in
      ap₂ (λ (x : Bool) (fs : List Fault). fault_if x REDEFINED d.file d.name.at ++ fs) (sym (clash_is before ds d clashed whole marks))
      (ap (λ (i : ℕ). marked_faults all types tags others i next ds) (length_push before d)
      ∙ marked_is (before ++ d ∷ []) ds next (whole ∙ sym (append_assoc before (d ∷ []) ds)) (marks_after before ds d clashed whole marks))

  no_marks : (n l : ℕ) → slice_get (replicate n false) l ≡ Some true → ⊥
  no_marks zero l h = none-some true h
  no_marks (suc n) zero h = true≢false (sym (same_Some false true h))
  no_marks (suc n) (suc l) h = no_marks n l h

  -- and so they are from the beginning
  pub marked_all : marked_faults all types tags others 0 (replicate (length all) false) all ≡ redefinitions all types [] all
  marked_all =
      marked_is [] all (replicate (length all) false) refl
      (record {
        size = length-replicate (length all) false;
        sound = λ l h. absurd (no_marks (length all) l h);
        complete = λ l m x f at_l. absurd (none-some x at_l);
      })

-- ---- loops

pub first_places_more : (tags : Bool) (ds : List Declaration) (i : ℕ) (d : Declaration) (es more : List (Entry ℕ)) → i < length ds → d ≡ get_or ds i d
    → more ≡ with_first tags i d es → first_places tags (i + 1) more (drop (i + 1) ds) ≡ first_places tags i es (drop i ds)
unfolding first_places
first_places_more tags ds i d es more l is h =
    let item : drop i ds ≡ d ∷ drop (i + 1) ds = drop_more ds i d l ∙ ap (λ (x : Declaration). x ∷ drop (i + 1) ds) (sym is) in
    let next : i + 1 ≡ suc i = omega arith in
    ap₂ (λ (n : ℕ) (m : List (Entry ℕ)). first_places tags n m (drop (i + 1) ds)) next h ∙ ap (first_places tags i es) (sym item)

pub first_places_end : (tags : Bool) (ds : List Declaration) (i : ℕ) (es : List (Entry ℕ)) → length ds ≤ i → es ≡ first_places tags i es (drop i ds)
unfolding first_places
first_places_end tags ds i es l = ap (first_places tags i es) (sym (drop_all i ds l))

-- one more declaration
pub marked_more :
    (all : List Declaration) (types : List TypedefMeaning) (tags others : List (Entry ℕ)) (items ds : List Declaration) (i : ℕ) (d : Declaration) (clashed tests after : List Bool)
    (first : ℕ) (clash : Bool) (e e1 : Option Fault) → items ≡ ds → i < length items → d ≡ get_or items i d → first ≡ first_place tags others d i → tests ≡ clashed
    → clash ≡ is_clash all types tests d.what first i → after ≡ with_clash clash first clashed → e1 ≡ first_from e (fault_if clash REDEFINED d.file d.name.at)
    → first_from e1 (marked_faults all types tags others (i + 1) after (drop (i + 1) ds)) ≡ first_from e (marked_faults all types tags others i clashed (drop i ds))
unfolding marked_faults
marked_more all types tags others items ds i d clashed tests after first clash e e1 same l is h_first h_tests h_clash h_after h =
    let one = first_place tags others d i in
    let b = is_clash all types clashed d.what one i in
    let clash_is : clash ≡ b = h_clash ∙ ap₂ (λ (ts : List Bool) (f : ℕ). is_clash all types ts d.what f i) h_tests h_first in
    let after_is : after ≡ with_clash b one clashed = h_after ∙ ap₂ (λ (x : Bool) (f : ℕ). with_clash x f clashed) clash_is h_first in
    let rest = drop (i + 1) ds in
    let item : drop i ds ≡ d ∷ rest =
    drop_more ds i d (subst (λ (xs : List Declaration). i < length xs) same l)
    ∙ ap (λ (x : Declaration). x ∷ rest) (sym (is ∙ ap (λ (xs : List Declaration). get_or xs i d) same)) in
    let next : i + 1 ≡ suc i = omega arith in
    ap₂ (λ (n : ℕ) (fs : List Bool). first_from e1 (marked_faults all types tags others n fs rest)) next after_is
    ∙ first_from_both e e1 (first_from e1 (marked_faults all types tags others (suc i) (with_clash b one clashed) rest)) (fault_if b REDEFINED d.file d.name.at)
    (marked_faults all types tags others (suc i) (with_clash b one clashed) rest)
    (h ∙ ap (λ (x : Bool). first_from e (fault_if x REDEFINED d.file d.name.at)) clash_is) refl
    ∙ ap (λ (xs : List Declaration). first_from e (marked_faults all types tags others i clashed xs)) (sym item)

pub marked_end :
    (all : List Declaration) (types : List TypedefMeaning) (tags others : List (Entry ℕ)) (items ds : List Declaration) (i : ℕ) (clashed : List Bool) (e : Option Fault)
    → items ≡ ds → length items ≤ i → e ≡ first_from e (marked_faults all types tags others i clashed (drop i ds))
unfolding marked_faults
marked_end all types tags others items ds i clashed e same l =
    sym (first_from_nil e)
    ∙ ap (λ (xs : List Declaration). first_from e (marked_faults all types tags others i clashed xs)) (sym (drop_all i ds (subst (λ (xs : List Declaration). length xs ≤ i) same l)))

-- ---- the earliest

pub earliest_redefined :
    {E : Type 0} (all : List Declaration) (types : List TypedefMeaning) (items more : List Declaration) (tags others : List (Entry ℕ)) (r : Result (Option Fault) E)
    → items ≡ all → more ≡ all → tags ≡ first_places true 0 [] items → others ≡ first_places false 0 [] more
    → IfOk r (λ x. x ≡ first_from None (marked_faults all types tags others 0 (replicate (length all) false) all))
    → IfOk r (λ x. x ≡ first_from None (redefinitions all types [] all))
earliest_redefined all types items more tags others r same again h k =
    if_ok r (λ x. x ≡ first_from None (marked_faults all types tags others 0 (replicate (length all) false) all))
    (λ x. x ≡ first_from None (redefinitions all types [] all))
    (λ x is.
    is
    ∙ ap₂ (λ (t o : List (Entry ℕ)). first_from None (marked_faults all types t o 0 (replicate (length all) false) all))
    (h ∙ ap (first_places true 0 []) same) (k ∙ ap (first_places false 0 []) again)
    ∙ ap (first_from None) (marked_all all types))
