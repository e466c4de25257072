-- The layout of a list of fields as a function, which is the one that the rules of places allow.
use Rattle.std.proofs.Common.{◌≡◌, ◌≤◌, ◌<◌, ℕ, ◌+◌, ◌-◌, ◌*◌, ◌/◌, ◌%◌, max, Bool, true, false, cond, eqb, List, [], ◌∷◌, ◌++◌, map, add-zero, sym, ap, ◌∙◌, refl, arith}
use Rattle.std.proofs.lemmas.Bool.{cases_lt, eqb-true, eqb-false}
use Rattle.std.proofs.lemmas.Nat.{div-add-mod', mod_below, mod-mul-add}
use Rattle.gt_layout.specs.declared.planes.FieldSpot.{FieldSpot}
use Rattle.gt_layout.specs.declared.planes.Plane.{Plane}
use Rattle.gt_layout.specs.declared.storages.Storage.{Storage}
use Rattle.gt_layout.specs.declared.storages.Storage.TheVariants.{Bytes, Bits}
use Rattle.gt_layout.specs.Places.{MayBegin, LiesAfter, end_of, align_of, spot_of, begin_at}
use Rattle.gt_layout.specs.Planes.{greatest}
use Rattle.gt_layout.specs.Progress.{finished}
use Rattle.gt_layout.proofs.Multiples.{least_multiple, next_unit, fits_unit, whole}

-- the least multiple that is not below a number
abbrev pub up : ℕ → ℕ → ℕ
up n to = (n + to - 1) / to * to

-- the alignment is not 0, and a bit-field has bits, no more than its unit
abbrev pub IsPossible : Storage → Type 0
IsPossible (Bytes e) = 1 ≤ e.align
IsPossible (Bits unit count) = (1 ≤ count) × (count ≤ 8 * unit)

-- where a field begins
abbrev pub first_of : ℕ → Storage → ℕ
first_of from (Bytes e) = up from (8 * e.align)
first_of from (Bits unit count) = cond (eqb (from / (8 * unit)) ((from + count - 1) / (8 * unit))) from (up from (8 * unit))

abbrev pub start : Bool → ℕ → Storage → ℕ
start true from f = 0
start false from f = first_of from f

-- the bit after the last one of a field and those before it
abbrev pub next : Bool → ℕ → Storage → ℕ
next is_union from f = max from (end_of f (start is_union from f))

abbrev pub spots_from : Bool → ℕ → List Storage → List FieldSpot
spots_from is_union from [] = []
spots_from is_union from (f ∷ fs) = spot_of f (start is_union from f) ∷ spots_from is_union (next is_union from f) fs

abbrev pub reach : Bool → ℕ → List Storage → ℕ
reach is_union from [] = from
reach is_union from (f ∷ fs) = reach is_union (next is_union from f) fs

abbrev pub plane_of : Bool → List Storage → Plane
plane_of is_union fields = finished (reach is_union 0 fields) (greatest (map align_of fields)) (spots_from is_union 0 fields)

-- ---- one more field

pub reach-append : (is_union : Bool) (from : ℕ) (fs : List Storage) (f : Storage) → reach is_union from (fs ++ f ∷ []) ≡ next is_union (reach is_union from fs) f
reach-append is_union from [] f = refl
reach-append is_union from (g ∷ fs) f = reach-append is_union (next is_union from g) fs f

pub spots-append : (is_union : Bool) (from : ℕ) (fs : List Storage) (f : Storage)
    → spots_from is_union from (fs ++ f ∷ []) ≡ spots_from is_union from fs ++ spot_of f (start is_union (reach is_union from fs) f) ∷ []
spots-append is_union from [] f = refl
spots-append is_union from (g ∷ fs) f = ap (λ (ss : List FieldSpot). spot_of g (start is_union from g) ∷ ss) (spots-append is_union (next is_union from g) fs f)

pub greatest-append : (ns : List ℕ) (n : ℕ) → 1 ≤ n → greatest (ns ++ n ∷ []) ≡ max (greatest ns) n
greatest-append [] n some = omega arith
greatest-append (m ∷ ns) n some = omega (arith, greatest-append ns n some)

pub greatest_some : (ns : List ℕ) → 1 ≤ greatest ns
greatest_some [] = omega arith
greatest_some (n ∷ ns) = omega (arith, greatest_some ns)

-- ---- where a field begins is what the rule allows

pub up_multiple : (n to : ℕ) → 0 < to → up n to % to ≡ 0
up_multiple n to some = ap (λ (m : ℕ). m % to) (sym (add-zero ((n + to - 1) / to * to))) ∙ mod-mul-add ((n + to - 1) / to) to 0 some

pub up_after : (n to : ℕ) → 0 < to → n ≤ up n to
up_after n to some = omega (arith, div-add-mod' (n + to - 1) to, mod_below (n + to - 1) to some)

pub up_near : (n to : ℕ) → 0 < to → up n to < n + to
up_near n to some = omega (arith, div-add-mod' (n + to - 1) to)

bits_lie : (from unit count : ℕ) (b : Bool) → 1 ≤ count → count ≤ 8 * unit → eqb (from / (8 * unit)) ((from + count - 1) / (8 * unit)) ≡ b
    → LiesAfter from (Bits unit count) (cond b from (up from (8 * unit)))
bits_lie from unit count true some few is = record { after = omega arith; allowed = eqb-true _ _ is; least = λ other after allowed. after }
bits_lie from unit count false some few is = record {
  after = up_after from (8 * unit) (omega arith);
  allowed = fits_unit (up from (8 * unit)) (8 * unit) count some few (up_multiple from (8 * unit) (omega arith));
  least = λ other after allowed.
      next_unit from (8 * unit) count other (up from (8 * unit)) (eqb-false _ _ is) after allowed some (up_multiple from (8 * unit) (omega arith)) (up_near from (8 * unit) (omega arith))
      (up_after from (8 * unit) (omega arith)) (cases_lt _ _);
}

pub first-lies : (from : ℕ) (f : Storage) → IsPossible f → LiesAfter from f (first_of from f)
first-lies from (Bytes e) possible = record {
  after = up_after from (8 * e.align) (omega arith);
  allowed = up_multiple from (8 * e.align) (omega arith);
  least = λ other after allowed. least_multiple from (8 * e.align) other (omega arith) after allowed;
}
first-lies from (Bits unit count) possible = bits_lie from unit count (eqb (from / (8 * unit)) ((from + count - 1) / (8 * unit))) possible.0 possible.1 refl

pub lies_once : (from : ℕ) (f : Storage) (a b : ℕ) → LiesAfter from f a → LiesAfter from f b → a ≡ b
lies_once from f a b x y = omega (arith, x.least b y.after y.allowed, y.least a x.after x.allowed)

pub first_only : (from : ℕ) (f : Storage) (a : ℕ) → IsPossible f → LiesAfter from f a → a ≡ first_of from f
first_only from f a possible lies = lies_once from f a (first_of from f) lies (first-lies from f possible)

-- ---- the bit of a spot

eighth : (n align : ℕ) → n % (8 * align) ≡ 0 → n % 8 ≡ 0
eighth n align e = omega (arith, whole n (8 * align) e)

pub begin-spot : (f : Storage) (begin : ℕ) → MayBegin f begin → begin_at (spot_of f begin) ≡ begin
begin-spot (Bytes e) begin allowed = omega (arith, eighth begin e.align allowed)
begin-spot (Bits unit count) begin allowed = omega (arith, div-add-mod' begin (8 * unit))
