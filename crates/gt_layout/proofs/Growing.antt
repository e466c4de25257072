-- The arrays with a length inside a structure, from those inside its members.
use Rattle.std.proofs.Common.{◌≡◌, ◌≢◌, ℕ, zero, suc, ◌+◌, ◌≤◌, ◌<◌, max, Bool, true, false, Option, Some, None, option_map, IfOk, Result, append-nil, List, [], ◌∷◌, ◌++◌, length, take, get_or, set, map, sym, ap, subst, ◌∙◌, refl, ◌⊎◌, inl, inr, arith, length-set, replicate}
use Rattle.std.specs.List.{All, Contains, filter_map, insert}
use Rattle.std.specs.Prelude.{slice_get, option_to_list}
use Rattle.std.proofs.lemmas.Bool.{cases_eq, cases_lt}
use Rattle.std.proofs.lemmas.Result.{IfOk-weaker}
use Rattle.std.proofs.lemmas.List.{length-replicate, take_all, take_more}
use Rattle.std.proofs.lemmas.Option.{get_or_from_slice_get, slice_get-get_or, slice_get_read, slice_get_within, same_Some}
use Rattle.std.proofs.lemmas.List.Elements.{All-nil, All-cons, All-weaker, Contains-append_left, Contains-push, Contains-push_cases, filter_map-append}
use Rattle.gt_types.specs.declared.expressions.Expr.{Expr}
use Rattle.gt_types.specs.declared.types.TypeId.{TypeId}
use Rattle.gt_types.specs.declared.types.Ty.{Ty}
use Rattle.gt_types.specs.declared.types.Ty.TheVariants as ty
use Rattle.gt_types.specs.declared.program.Field.{Field}
use Rattle.gt_types.specs.declared.program.Structure.{Structure}
use Rattle.gt_types.specs.declared.program.Program.{Program}
use Rattle.gt_types.specs.Contains.{HasStructure}
use Rattle.gt_types.specs.Tails.{tail_of}
use Rattle.gt_layout.specs.declared.planes.Growth.{Growth}
use Rattle.gt_layout.specs.declared.planes.Plane.{Plane}
use Rattle.gt_layout.specs.declared.planes.TailSpot.{TailSpot}
use Rattle.gt_layout.specs.Storages.{extent_of}
use Rattle.gt_layout.specs.Places.{last_offset}
use Rattle.gt_layout.specs.Growths.{HasTail, at_end, in_member, Reaches, AreTails, AreGrowths, tail_spot}
use Rattle.gt_layout.specs.Progress.{AreFound, IsFound, IsPlaceOf, KeepsFound, type_id, with_tail, with_tails}
use Rattle.gt_layout.proofs.Laying.{get-set_same, get-set_other}
use Rattle.gt_layout.proofs.TailLists.{Rise, rise-nil, rise-cons, more-all, more-new, more-old, more-rise, same-tails, with-inserted, with-merged}

-- ---- the arrays with a length inside a structure are one list

pub tails-only : (program : Program) (planes : List Plane) (node : TypeId) (xs ys : List TailSpot) → AreTails program planes node xs → AreTails program planes node ys → xs ≡ ys
tails-only program planes node xs ys a b =
    same-tails xs ys a.rising b.rising (All-weaker (HasTail program planes node) (Reaches ys) b.last xs a.there) (All-weaker (HasTail program planes node) (Reaches xs) a.last ys b.there)

-- ---- members whose arrays are taken

-- a structure is that of a member
abbrev pub IsMember : List Field → ℕ → Type 0
IsMember fields place = (f : Field) × (desc : Option Expr) × Contains fields f × (f.ty ≡ ty.Node (type_id place) desc)

-- what is marked is so
abbrev pub AreMembers : List Field → List Bool → Type 0
AreMembers fields taken = (place : ℕ) → slice_get taken place ≡ Some true → IsMember fields place

no-mark : (n place : ℕ) → slice_get (replicate n false) place ≡ Some true → ⊥
no-mark zero place at = absurd (cc)
no-mark (suc n) zero at = absurd (cc)
no-mark (suc n) (suc place) at = no-mark n place at

pub members-none : (n : ℕ) → AreMembers [] (replicate n false)
members-none n place at = absurd (no-mark n place at)

members-still : (fields : List Field) (f : Field) (taken : List Bool) → AreMembers fields taken → AreMembers (fields ++ f ∷ []) taken
members-still fields f taken are place at = let old = are place at in (old.0, old.1, Contains-append_left fields (f ∷ []) old.0 old.2, old.3)

members-more : (fields : List Field) (f : Field) (taken : List Bool) (inner : TypeId) (desc : Option Expr) → f.ty ≡ ty.Node inner desc → AreMembers fields taken → AreMembers (fields ++ f ∷ []) (set taken inner.0 true)
members-more fields f taken inner desc type are place at = go (cases_eq place inner.0)
  where
    go : (place ≡ inner.0) ⊎ (place ≢ inner.0) → IsMember (fields ++ f ∷ []) place
    go (inl same) = (f, desc, Contains-push fields f, type ∙ ap (λ n. ty.Node (type_id n) desc) (sym same))
    go (inr apart) = members-still fields f taken are place (sym (get-set_other taken inner.0 place true apart) ∙ at)

module _ (program : Program) (planes : List Plane) where
  -- ---- a struct

  pub of-struct : (node : TypeId) (s : Structure) (plane : Plane) (tail : TailSpot) → HasStructure program node s → slice_get planes node.0 ≡ Some plane → s.is_union ≡ false → HasTail program planes node tail
      → (elem : Ty) × (tail_of s.fields ≡ Some elem) × (tail ≡ tail_spot (last_offset plane.fields) (extent_of planes elem).size)
  of-struct node s plane tail has got struct (at_end {s = r} {plane = flat} {elem} h g u t) =
      let same : r ≡ s = cc in
      let even : flat ≡ plane = cc in
      (elem, subst (λ x. tail_of x.fields ≡ Some elem) same t, ap (λ p. tail_spot (last_offset p.fields) (extent_of planes elem).size) even)
  of-struct node s plane tail has got struct (in_member {s = r} h u c e inner) =
      let same : r ≡ s = cc in
      let union = subst (λ x. x.is_union ≡ true) same u in
      absurd (cc)

  pub struct-tails : (node : TypeId) (s : Structure) (plane : Plane) → HasStructure program node s → slice_get planes node.0 ≡ Some plane → s.is_union ≡ false
      → (o : Option Ty) → tail_of s.fields ≡ o → AreTails program planes node (option_to_list (option_map (λ elem. tail_spot (last_offset plane.fields) (extent_of planes elem).size) o))
  struct-tails node s plane has got struct None t = record {
    there = All-nil (HasTail program planes node);
    last = λ tail is. let found = of-struct node s plane tail has got struct is in let some = found.1 in absurd (cc);
    rising = rise-nil;
  }
  struct-tails node s plane has got struct (Some elem) t =
      let tail = tail_spot (last_offset plane.fields) (extent_of planes elem).size in
      record {
        there = All-cons (HasTail program planes node) tail [] (at_end has got struct t) (All-nil (HasTail program planes node));
        last = λ other is.
            let found = of-struct node s plane other has got struct is in
            let some = found.1 in
            let same : found.0 ≡ elem = cc in
            let equal : tail ≡ other = ap (λ e. tail_spot (last_offset plane.fields) (extent_of planes e).size) (sym same) ∙ sym found.2 in
            (0, tail, omega arith, refl, (ap (λ (x : TailSpot). x.elem_size) equal, omega (arith, ap (λ (x : TailSpot). x.offset) equal)));
        rising = rise-cons tail [] (All-nil (λ (y : TailSpot). tail.elem_size < y.elem_size)) rise-nil;
      }

  -- ---- a union

  -- an array with a length lies in a member
  abbrev pub IsInMember : List Field → TailSpot → Type 0
  IsInMember fields tail = (f : Field) × (inner : TypeId) × (desc : Option Expr) × Contains fields f × (f.ty ≡ ty.Node inner desc) × HasTail program planes inner tail

  -- what was found of these members
  pub record Gathered (fields : List Field) (tails : List TailSpot) : Type 0 where
    pub there : All (IsInMember fields) tails
    pub last : (tail : TailSpot) → IsInMember fields tail → Reaches tails tail
    pub rising : Rise tails

  pub gathered-none : Gathered [] []
  gathered-none = record {
    there = All-nil (IsInMember []);
    last = λ tail is. absurd (no-member is.0 is.3);
    rising = rise-nil;
  }
    where
      no-member : (f : Field) → Contains [] f → ⊥
      no-member f c = absurd (omega (arith, c.1))

  still : (fields : List Field) (f : Field) (tail : TailSpot) → IsInMember fields tail → IsInMember (fields ++ f ∷ []) tail
  still fields f tail (g, inner, desc, c, e, is) = (g, inner, desc, Contains-append_left fields (f ∷ []) g c, e, is)

  pub gathered-flat : (fields : List Field) (f : Field) (tails : List TailSpot) → Gathered fields tails → ((inner : TypeId) (desc : Option Expr) → f.ty ≡ ty.Node inner desc → ⊥) → Gathered (fields ++ f ∷ []) tails
  gathered-flat fields f tails before flat = record {
    there = All-weaker (IsInMember fields) (IsInMember (fields ++ f ∷ [])) (still fields f) tails before.there;
    last = λ tail is. go tail is (Contains-push_cases fields f is.0 is.3);
    rising = before.rising;
  }
    where
      go : (tail : TailSpot) → (is : IsInMember (fields ++ f ∷ []) tail) → Contains fields is.0 ⊎ (f ≡ is.0) → Reaches tails tail
      go tail (g, inner, desc, c, e, is) (inl old) = before.last tail (g, inner, desc, old, e, is)
      go tail (g, inner, desc, c, e, is) (inr new) = absurd (flat inner desc (ap (λ x. x.ty) new ∙ e))

  pub gathered-node : (fields : List Field) (f : Field) (tails its : List TailSpot) (inner : TypeId) (desc : Option Expr) → Gathered fields tails → f.ty ≡ ty.Node inner desc → AreTails program planes inner its
      → Gathered (fields ++ f ∷ []) (with_tails its tails)
  gathered-node fields f tails its inner desc before type new = record {
    there = more-all (IsInMember (fields ++ f ∷ [])) its tails
        (All-weaker (HasTail program planes inner) (IsInMember (fields ++ f ∷ [])) (λ tail is. (f, inner, desc, Contains-push fields f, type, is)) its new.there)
        (All-weaker (IsInMember fields) (IsInMember (fields ++ f ∷ [])) (still fields f) tails before.there);
    last = λ tail is. go tail is (Contains-push_cases fields f is.0 is.3);
    rising = more-rise its tails before.rising;
  }
    where
      go : (tail : TailSpot) → (is : IsInMember (fields ++ f ∷ []) tail) → Contains fields is.0 ⊎ (f ≡ is.0) → Reaches (with_tails its tails) tail
      go tail (g, other, d, c, e, is) (inl old) = more-old its tails tail (before.last tail (g, other, d, old, e, is))
      go tail (g, other, d, c, e, is) (inr same) =
          let both : ty.Node inner desc ≡ ty.Node other d = sym type ∙ ap (λ x. x.ty) same ∙ e in
          let equal : other ≡ inner = cc in
          more-new its tails tail (new.last tail (subst (λ n. HasTail program planes n tail) equal is))

  pub gathered-again : (fields : List Field) (f : Field) (tails : List TailSpot) (inner : TypeId) (desc : Option Expr) → Gathered fields tails → f.ty ≡ ty.Node inner desc → IsMember fields inner.0 → Gathered (fields ++ f ∷ []) tails
  gathered-again fields f tails inner desc before type (g, own, c, e) = record {
    there = All-weaker (IsInMember fields) (IsInMember (fields ++ f ∷ [])) (still fields f) tails before.there;
    last = λ tail is. go tail is (Contains-push_cases fields f is.0 is.3);
    rising = before.rising;
  }
    where
      go : (tail : TailSpot) → (is : IsInMember (fields ++ f ∷ []) tail) → Contains fields is.0 ⊎ (f ≡ is.0) → Reaches tails tail
      go tail (h, other, d, k, a, is) (inl old) = before.last tail (h, other, d, old, a, is)
      go tail (h, other, d, k, a, is) (inr same) =
          let both : ty.Node inner desc ≡ ty.Node other d = sym type ∙ ap (λ x. x.ty) same ∙ a in
          let equal : other ≡ inner = cc in
          before.last tail (g, inner, own, c, e, subst (λ n. HasTail program planes n tail) equal is)

  pub of-union : (node : TypeId) (s : Structure) (tail : TailSpot) → HasStructure program node s → s.is_union ≡ true → HasTail program planes node tail → IsInMember s.fields tail
  of-union node s tail has union (at_end {s = r} h g u t) =
      let same : r ≡ s = cc in
      let struct = subst (λ x. x.is_union ≡ false) same u in
      absurd (cc)
  of-union node s tail has union (in_member {inner} {s = r} {f} {desc} h u c e is) =
      let same : r ≡ s = cc in
      (f, inner, desc, subst (λ x. Contains x.fields f) same c, e, is)

  pub union-tails : (node : TypeId) (s : Structure) (tails : List TailSpot) → HasStructure program node s → s.is_union ≡ true → Gathered s.fields tails → AreTails program planes node tails
  union-tails node s tails has union found = record {
    there = All-weaker (IsInMember s.fields) (HasTail program planes node) (λ tail is. in_member has union is.3 is.4 is.5) tails found.there;
    last = λ tail is. found.last tail (of-union node s tail has union is);
    rising = found.rising;
  }

-- ---- the steps of the code

one_further : (items : List Field) (i : ℕ) (f : Field) → i < length items → f ≡ get_or items i f → take (i + 1) items ≡ take i items ++ f ∷ []
one_further items i f within at = take_more items i f within ∙ ap (λ (g : Field). take i items ++ g ∷ []) (sym at)

pub tails-flat : (program : Program) (planes : List Plane) (items : List Field) (i : ℕ) (f : Field) (tails : List TailSpot) → i < length items → f ≡ get_or items i f → Gathered program planes (take i items) tails
    → ((inner : TypeId) (desc : Option Expr) → f.ty ≡ ty.Node inner desc → ⊥) → Gathered program planes (take (i + 1) items) tails
tails-flat program planes items i f tails within at before flat =
    subst (λ (fs : List Field). Gathered program planes fs tails) (sym (one_further items i f within at))
    (gathered-flat program planes (take i items) f tails before flat)

pub tails-more : (program : Program) (planes : List Plane) (known : List (Option Growth)) (items : List Field) (i : ℕ) (f : Field) (tails more now : List TailSpot) (inner : TypeId) (desc : Option Expr) → i < length items
    → f ≡ get_or items i f → Gathered program planes (take i items) tails → f.ty ≡ ty.Node inner desc → AreFound program planes known → (found : IsFound known inner.0)
    → ((growth : Growth) → slice_get known inner.0 ≡ Some (Some growth) → more ≡ growth.tails) → now ≡ with_tails more tails → Gathered program planes (take (i + 1) items) now
tails-more program planes known items i f tails more now inner desc within at before type right found is sum =
    let its : AreTails program planes inner more = subst (AreTails program planes inner) (sym (is found.0 found.1)) (right inner.0 found.0 found.1) in
    subst (λ (fs : List Field). Gathered program planes fs now) (sym (one_further items i f within at))
    (subst (Gathered program planes (take i items ++ f ∷ [])) (sym sum) (gathered-node program planes (take i items) f tails more inner desc before type its))

pub tails-again : (program : Program) (planes : List Plane) (items : List Field) (i : ℕ) (f : Field) (tails : List TailSpot) (inner : TypeId) (desc : Option Expr) → i < length items → f ≡ get_or items i f
    → Gathered program planes (take i items) tails → f.ty ≡ ty.Node inner desc → IsMember (take i items) inner.0 → Gathered program planes (take (i + 1) items) tails
tails-again program planes items i f tails inner desc within at before type member =
    subst (λ (fs : List Field). Gathered program planes fs tails) (sym (one_further items i f within at)) (gathered-again program planes (take i items) f tails inner desc before type member)

pub tails-whole : (program : Program) (planes : List Plane) (place : ℕ) (s : Structure) (items : List Field) (i : ℕ) (tails : List TailSpot) → slice_get program.structures place ≡ Some s → s.is_union ≡ true
    → items ≡ s.fields → length items ≤ i → Gathered program planes (take i items) tails → AreTails program planes (type_id place) tails
tails-whole program planes place s items i tails has union same all found =
    union-tails program planes (type_id place) s tails has union (subst (λ (fs : List Field). Gathered program planes fs tails) (take_all i items all ∙ same) found)

-- ---- what was found

pub keeps-on : (a b c : List (Option Growth)) → KeepsFound a b → KeepsFound b c → KeepsFound a c
keeps-on a b c first second = record { all = second.all ∙ first.all; kept = λ place found. second.kept place (first.kept place found) }

abbrev growth : List TailSpot → Growth
growth tails = record { tails = tails }

found-same : (known : List (Option Growth)) (place : ℕ) (g : Growth) → place < length known → IsFound (set known place (Some g)) place
found-same known place g within = (g, get-set_same known place (Some g) within)

found-set : (known : List (Option Growth)) (place other : ℕ) (g : Growth) → place < length known → (other ≡ place) ⊎ (other ≢ place) → IsFound known other → IsFound (set known place (Some g)) other
found-set known place other g within (inl same) found = subst (IsFound (set known place (Some g))) (sym same) (found-same known place g within)
found-set known place other g within (inr apart) found = (found.0, get-set_other known place other (Some g) apart ∙ found.1)

right-set : (program : Program) (planes : List Plane) (known : List (Option Growth)) (place other : ℕ) (g h : Growth) → place < length known → AreFound program planes known → AreTails program planes (type_id place) g.tails
    → (other ≡ place) ⊎ (other ≢ place) → slice_get (set known place (Some g)) other ≡ Some (Some h) → AreTails program planes (type_id other) h.tails
right-set program planes known place other g h within right new (inl same) at =
    let first : slice_get (set known place (Some g)) place ≡ Some (Some h) = subst (λ n. slice_get (set known place (Some g)) n ≡ Some (Some h)) same at in
    let is : h ≡ g = same_Some h g (same_Some (Some h) (Some g) (sym first ∙ get-set_same known place (Some g) within)) in
    subst (λ n. AreTails program planes (type_id n) h.tails) (sym same) (subst (λ (x : Growth). AreTails program planes (type_id place) x.tails) (sym is) new)
right-set program planes known place other g h within right new (inr apart) at = right other h (sym (get-set_other known place other (Some g) apart) ∙ at)

-- it was found how one structure more grows
pub record OneMore (program : Program) (planes : List Plane) (before now : List (Option Growth)) (place : ℕ) : Type 0 where
  pub keeps : KeepsFound before now
  pub right : AreFound program planes now
  pub found : IsFound now place

pub one-more : (program : Program) (planes : List Plane) (before known : List (Option Growth)) (place : ℕ) (g : Growth) → place < length known → KeepsFound before known → AreFound program planes known
    → AreTails program planes (type_id place) g.tails → OneMore program planes before (set known place (Some g)) place
one-more program planes before known place g within keeps right new = record {
  keeps = keeps-on before known (set known place (Some g)) keeps
      (record { all = length-set known place (Some g); kept = λ other found. found-set known place other g within (cases_eq other place) found });
  right = λ other h at. right-set program planes known place other g h within right new (cases_eq other place) at;
  found = found-same known place g within;
}

-- ---- how all structures grow

abbrev pub found_of : List (Option Growth) → List Growth
found_of known = filter_map (λ (g : Option Growth). g) known

found-all : (known : List (Option Growth)) → ((place : ℕ) → place < length known → IsFound known place) → map Some (found_of known) ≡ known
found-all [] all = refl
found-all (None ∷ known) all = let first = all 0 (omega arith) in let at = first.1 in absurd (cc)
found-all (Some g ∷ known) all = ap (λ gs. Some g ∷ gs) (found-all known (λ place within. all (suc place) (omega (arith, within))))

get-found : (known : List (Option Growth)) (growths : List Growth) (place : ℕ) (g : Growth) → map Some growths ≡ known → slice_get growths place ≡ Some g → slice_get known place ≡ Some (Some g)
get-found known growths place g same at = sym (ap (λ ks. slice_get ks place) same) ∙ get-map growths place at
  where
    get-map : (gs : List Growth) (k : ℕ) → slice_get gs k ≡ Some g → slice_get (map Some gs) k ≡ Some (Some g)
    get-map [] k e = absurd (cc)
    get-map (x ∷ gs) zero e = ap Some e
    get-map (x ∷ gs) (suc k) e = get-map gs k e

length-some : (growths : List Growth) → length (map Some growths) ≡ length growths
length-some [] = refl
length-some (g ∷ gs) = ap suc (length-some gs)

pub growths-made : (program : Program) (planes : List Plane) (known : List (Option Growth)) (growths : List Growth) → length known ≡ length program.structures → AreFound program planes known
    → ((place : ℕ) → place < length known → IsFound known place) → growths ≡ found_of known → AreGrowths program planes growths
growths-made program planes known growths all right found is =
    let same : map Some growths ≡ known = ap (map Some) is ∙ found-all known found in
    record {
      all = sym (length-some growths) ∙ ap length same ∙ all;
      each = λ place g at. right place g (get-found known growths place g same at);
    }

-- ---- one array more

-- the first array whose elements are not smaller lies between two places
pub record IsBetween (elem_size : ℕ) (tails : List TailSpot) (low high : ℕ) : Type 0 where
  pub ordered : low ≤ high
  pub inside : high ≤ length tails
  pub before : (place : ℕ) (tail : TailSpot) → place < low → slice_get tails place ≡ Some tail → tail.elem_size < elem_size
  pub after : (place : ℕ) (tail : TailSpot) → high ≤ place → slice_get tails place ≡ Some tail → elem_size ≤ tail.elem_size

-- in rising order
earlier-smaller : (tails : List TailSpot) (i j : ℕ) (x y : TailSpot) → Rise tails → i ≤ j → slice_get tails i ≡ Some x → slice_get tails j ≡ Some y → x.elem_size ≤ y.elem_size
earlier-smaller tails i j x y rise le at at' = go (cases_lt i j)
  where
    go : (i < j) ⊎ (j ≤ i) → x.elem_size ≤ y.elem_size
    go (inl less) =
        let lower = rise i j x less (slice_get_within tails j y at') in
        let first : get_or tails i x ≡ x = get_or_from_slice_get tails i x x at in
        let second : get_or tails j x ≡ y = get_or_from_slice_get tails j y x at' in
        omega (arith, lower, ap (λ (t : TailSpot). t.elem_size) first, ap (λ (t : TailSpot). t.elem_size) second)
    go (inr least) =
        let same : i ≡ j = omega (arith, le, least) in
        let equal : x ≡ y = same_Some x y (sym at ∙ ap (λ k. slice_get tails k) same ∙ at') in
        omega (arith, ap (λ (t : TailSpot). t.elem_size) equal)

pub between-upper : (elem_size : ℕ) (tails : List TailSpot) (low high middle : ℕ) (d : TailSpot) → Rise tails → IsBetween elem_size tails low high → middle < high → (get_or tails middle d).elem_size < elem_size
    → IsBetween elem_size tails (middle + 1) high
between-upper elem_size tails low high middle d rise between less smaller = record {
  ordered = omega (arith, less);
  inside = between.inside;
  before = λ place tail lower there.
      let le = earlier-smaller tails place middle tail (get_or tails middle d) rise (omega (arith, lower)) there (slice_get-get_or tails middle d (omega (arith, less, between.inside))) in
      omega (arith, le, smaller);
  after = between.after;
}

pub between-lower : (elem_size : ℕ) (tails : List TailSpot) (low high middle : ℕ) (d : TailSpot) → Rise tails → IsBetween elem_size tails low high → low ≤ middle → middle < high → elem_size ≤ (get_or tails middle d).elem_size
    → IsBetween elem_size tails low middle
between-lower elem_size tails low high middle d rise between least less larger = record {
  ordered = least;
  inside = omega (arith, less, between.inside);
  before = between.before;
  after = λ place tail past there.
      let le = earlier-smaller tails middle place (get_or tails middle d) tail rise past (slice_get-get_or tails middle d (omega (arith, less, between.inside))) there in
      omega (arith, le, larger);
}

pub place-between : (elem_size : ℕ) (tails : List TailSpot) (low high : ℕ) → IsBetween elem_size tails low high → high ≤ low → IsPlaceOf elem_size tails low
place-between elem_size tails low high between met = record {
  inside = omega (arith, between.ordered, between.inside, met);
  before = all-taken tails low (omega (arith, between.ordered, between.inside, met)) (λ place tail less at. between.before place tail less at);
  here = λ tail at. between.after low tail met at;
}
  where
    all-taken : (ts : List TailSpot) (n : ℕ) → n ≤ length ts → ((place : ℕ) (tail : TailSpot) → place < n → slice_get ts place ≡ Some tail → tail.elem_size < elem_size) → All (λ (tail : TailSpot). tail.elem_size < elem_size) (take n ts)
    all-taken ts zero le each = All-nil (λ (tail : TailSpot). tail.elem_size < elem_size)
    all-taken [] (suc n) le each = All-nil (λ (tail : TailSpot). tail.elem_size < elem_size)
    all-taken (t ∷ ts) (suc n) le each =
        All-cons (λ (tail : TailSpot). tail.elem_size < elem_size) t (take n ts) (each zero t (omega arith) refl) (all-taken ts n (omega (arith, le)) (λ place tail less at. each (suc place) tail (omega (arith, less)) at))

pub merged-in : (tail x : TailSpot) (tails : List TailSpot) (place : ℕ) → IsPlaceOf tail.elem_size tails place → slice_get tails place ≡ Some x → x.elem_size ≡ tail.elem_size
    → set tails place (tail_spot (max x.offset tail.offset) x.elem_size) ≡ with_tail tail tails
merged-in tail x tails place is at same = with-merged tail x tails place at is.before same

pub inserted-in : (tail : TailSpot) (tails : List TailSpot) (place : ℕ) → IsPlaceOf tail.elem_size tails place → ((x : TailSpot) → slice_get tails place ≡ Some x → x.elem_size ≢ tail.elem_size) → insert tails place tail ≡ with_tail tail tails
inserted-in tail tails place is other = with-inserted tail tails place is.inside is.before (λ x at. let apart = other x at in let least = is.here x at in less tail.elem_size x.elem_size least apart)
  where
    less : (m n : ℕ) → m ≤ n → n ≢ m → m < n
    less m n le apart = omega (arith, le, apart)

pub merged-read : (tail a b x : TailSpot) (slice tails : List TailSpot) (place offset : ℕ) → IsPlaceOf tail.elem_size slice place → slice ≡ tails → place < length tails → a ≡ get_or tails place a → a.elem_size ≡ tail.elem_size
    → b ≡ get_or tails place b → x ≡ get_or tails place x → offset ≡ max b.offset tail.offset → set tails place (tail_spot offset x.elem_size) ≡ with_tail tail tails
merged-read tail a b x slice tails place offset is same within at_a equal at_b at_x most =
    let at = slice_get_read tails (length tails) place x refl within at_x in
    let a_x : a ≡ x = same_Some a x (sym (slice_get_read tails (length tails) place a refl within at_a) ∙ at) in
    let b_x : b ≡ x = same_Some b x (sym (slice_get_read tails (length tails) place b refl within at_b) ∙ at) in
    ap (λ n. set tails place (tail_spot n x.elem_size)) (most ∙ ap (λ (y : TailSpot). max y.offset tail.offset) b_x)
    ∙ merged-in tail x tails place (subst (λ ts. IsPlaceOf tail.elem_size ts place) same is) at (ap (λ (y : TailSpot). y.elem_size) (sym a_x) ∙ equal)

pub inserted-past : (tail : TailSpot) (slice tails : List TailSpot) (place : ℕ) → IsPlaceOf tail.elem_size slice place → slice ≡ tails → length tails ≤ place → insert tails place tail ≡ with_tail tail tails
inserted-past tail slice tails place is same past =
    inserted-in tail tails place (subst (λ ts. IsPlaceOf tail.elem_size ts place) same is) (λ x at. absurd (omega (arith, past, slice_get_within tails place x at)))

pub inserted-read : (tail a : TailSpot) (slice tails : List TailSpot) (place : ℕ) → IsPlaceOf tail.elem_size slice place → slice ≡ tails → place < length tails → a ≡ get_or tails place a → a.elem_size ≢ tail.elem_size
    → insert tails place tail ≡ with_tail tail tails
inserted-read tail a slice tails place is same within at_a other =
    inserted-in tail tails place (subst (λ ts. IsPlaceOf tail.elem_size ts place) same is) (λ x at.
    let a_x : a ≡ x = same_Some a x (sym (slice_get_read tails (length tails) place a refl within at_a) ∙ at) in
    λ e. other (ap (λ (y : TailSpot). y.elem_size) a_x ∙ e))

still-members : (items : List Field) (i : ℕ) (f : Field) (taken marked : List Bool) → i < length items → f ≡ get_or items i f → AreMembers (take i items) taken → marked ≡ taken → AreMembers (take (i + 1) items) marked
still-members items i f taken marked within at are mark =
    subst (AreMembers (take (i + 1) items)) (sym mark) (subst (λ fs. AreMembers fs taken) (sym (one_further items i f within at)) (members-still (take i items) f taken are))

-- the structure of a member is marked
pub is-marked : (taken : List Bool) (n place : ℕ) (mark : Bool) → length taken ≡ n → place < n → mark ≡ get_or taken place mark → mark ≡ true → slice_get taken place ≡ Some true
is-marked taken n place mark all within at is = slice_get_read taken n place mark (sym all) within at ∙ ap Some is

-- what was found after so many members of a union, of which the structures are marked
pub record FoundSoFar (program : Program) (planes : List Plane) (before known : List (Option Growth)) (fields : List Field) (taken : List Bool) (tails : List TailSpot) : Type 0 where
  pub keeps : KeepsFound before known
  pub right : AreFound program planes known
  pub places : length taken ≡ length program.structures
  pub members : AreMembers fields taken
  pub gathered : Gathered program planes fields tails

pub found-none : (program : Program) (planes : List Plane) (known : List (Option Growth)) (taken : List Bool) (tails : List TailSpot) (n : ℕ) → AreFound program planes known → taken ≡ replicate n false → n ≡ length program.structures
    → tails ≡ [] → FoundSoFar program planes known known [] taken tails
found-none program planes known taken tails n right none all empty = record {
  keeps = record { all = refl; kept = λ place found. found };
  right = right;
  places = ap length none ∙ length-replicate n false ∙ all;
  members = subst (AreMembers []) (sym none) (members-none n);
  gathered = subst (Gathered program planes []) (sym empty) (gathered-none program planes);
}

pub member-found : (program : Program) (planes : List Plane) (before known found now : List (Option Growth)) (items : List Field) (i : ℕ) (f : Field) (taken marked : List Bool) (tails more sum : List TailSpot) (inner : TypeId) (desc : Option Expr) → i < length items
    → f ≡ get_or items i f → FoundSoFar program planes before known (take i items) taken tails → f.ty ≡ ty.Node inner desc → KeepsFound known found → AreFound program planes found → IsFound found inner.0
    → ((growth : Growth) → slice_get found inner.0 ≡ Some (Some growth) → more ≡ growth.tails) → now ≡ found → marked ≡ set taken inner.0 true → sum ≡ with_tails more tails
    → FoundSoFar program planes before now (take (i + 1) items) marked sum
member-found program planes before known found now items i f taken marked tails more sum inner desc within at so_far type keeps right there is same mark total = record {
  keeps = subst (KeepsFound before) (sym same) (keeps-on before known found so_far.keeps keeps);
  right = subst (AreFound program planes) (sym same) right;
  places = ap length mark ∙ length-set taken inner.0 true ∙ so_far.places;
  members = subst (AreMembers (take (i + 1) items)) (sym mark)
      (subst (λ fs. AreMembers fs (set taken inner.0 true)) (sym (one_further items i f within at)) (members-more (take i items) f taken inner desc type so_far.members));
  gathered = tails-more program planes found items i f tails more sum inner desc within at so_far.gathered type right there is total;
}

pub member-again : (program : Program) (planes : List Plane) (before known now : List (Option Growth)) (items : List Field) (i : ℕ) (f : Field) (taken marked : List Bool) (tails sum : List TailSpot) (inner : TypeId) (desc : Option Expr) → i < length items
    → f ≡ get_or items i f → FoundSoFar program planes before known (take i items) taken tails → f.ty ≡ ty.Node inner desc → slice_get taken inner.0 ≡ Some true → now ≡ known → marked ≡ taken → sum ≡ tails
    → FoundSoFar program planes before now (take (i + 1) items) marked sum
member-again program planes before known now items i f taken marked tails sum inner desc within at so_far type is same mark none = record {
  keeps = subst (KeepsFound before) (sym same) so_far.keeps;
  right = subst (AreFound program planes) (sym same) so_far.right;
  places = ap length mark ∙ so_far.places;
  members = still-members items i f taken marked within at so_far.members mark;
  gathered = subst (Gathered program planes (take (i + 1) items)) (sym none) (tails-again program planes items i f tails inner desc within at so_far.gathered type (so_far.members inner.0 is));
}

pub other-member : (program : Program) (planes : List Plane) (before known now : List (Option Growth)) (items : List Field) (i : ℕ) (f : Field) (taken marked : List Bool) (tails sum : List TailSpot) → i < length items
    → f ≡ get_or items i f → FoundSoFar program planes before known (take i items) taken tails → ((inner : TypeId) (desc : Option Expr) → f.ty ≡ ty.Node inner desc → ⊥) → now ≡ known → marked ≡ taken → sum ≡ tails
    → FoundSoFar program planes before now (take (i + 1) items) marked sum
other-member program planes before known now items i f taken marked tails sum within at so_far flat same mark none = record {
  keeps = subst (KeepsFound before) (sym same) so_far.keeps;
  right = subst (AreFound program planes) (sym same) so_far.right;
  places = ap length mark ∙ so_far.places;
  members = still-members items i f taken marked within at so_far.members mark;
  gathered = subst (Gathered program planes (take (i + 1) items)) (sym none) (tails-flat program planes items i f tails within at so_far.gathered flat);
}

-- ---- one structure after another

pub found-below : (before now : List (Option Growth)) (place other : ℕ) → KeepsFound before now → ((each : ℕ) → each < place → IsFound before each) → IsFound now place → other < place + 1 → IsFound now other
found-below before now place other keeps below here less = go (cases_lt other place)
  where
    go : (other < place) ⊎ (place ≤ other) → IsFound now other
    go (inl lower) = keeps.kept other (below other lower)
    go (inr least) = let same : place ≡ other = omega (arith, least, less) in subst (IsFound now) same here

pub growths-of : {E : Type 0} (program : Program) (planes : List Plane) (known : List (Option Growth)) (place : ℕ) (result : Result (List Growth) E) → length known ≡ length program.structures → AreFound program planes known
    → ((other : ℕ) → other < place → IsFound known other) → length program.structures ≤ place → IfOk result (λ growths. growths ≡ found_of known) → IfOk result (AreGrowths program planes)
growths-of program planes known place result all right found past made =
    IfOk-weaker result (λ growths. growths ≡ found_of known) (AreGrowths program planes) (λ growths is. growths-made program planes known growths all right (λ other within. found other (omega (arith, within, all, past))) is) made

pub found-more : (known : List (Option Growth)) (g : Growth) → found_of (known ++ Some g ∷ []) ≡ found_of known ++ g ∷ []
found-more known g = filter_map-append (λ (h : Option Growth). h) known (Some g ∷ [])

pub found-no_more : (known : List (Option Growth)) → found_of (known ++ None ∷ []) ≡ found_of known
found-no_more known = filter_map-append (λ (h : Option Growth). h) known (None ∷ []) ∙ append-nil (found_of known)

-- how a structure grows by the list of all
pub growth-at : (program : Program) (planes : List Plane) (growths slice : List Growth) (node : TypeId) (g : Growth) → AreGrowths program planes growths → slice ≡ growths → node.0 < length program.structures → g ≡ get_or slice node.0 g
    → AreTails program planes node g.tails
growth-at program planes growths slice node g are same within at =
    are.each node.0 g (slice_get_read growths (length growths) node.0 g refl (omega (arith, within, are.all)) (at ∙ ap (λ gs. get_or gs node.0 g) same))
