-- Fields that are equal, or both too large, give planes that are held alike.
use Rattle.std.proofs.Common.{◌≡◌, ◌≤◌, ◌<◌, ℕ, ◌+◌, ◌*◌, ◌/◌, min, Bool, cond, List, [], ◌∷◌, map, sym, ap, subst, ◌∙◌, refl, ◌⊎◌, inl, inr, arith}
use Rattle.std.specs.List.{AllZip}
use Rattle.std.proofs.lemmas.Bool.{cases_lt, lt-leb}
use Rattle.gt_types.specs.declared.limits.TheConstants.{TOO_LARGE}
use Rattle.gt_layout.specs.declared.planes.TheConstants.{MAX_SIZE}
use Rattle.gt_layout.specs.declared.planes.Extent.{Extent}
use Rattle.gt_layout.specs.declared.planes.FieldSpot.{FieldSpot}
use Rattle.gt_layout.specs.declared.planes.Plane.{Plane}
use Rattle.gt_layout.specs.declared.storages.Storage.{Storage}
use Rattle.gt_layout.specs.declared.storages.Storage.TheVariants.{Bytes, Bits}
use Rattle.gt_layout.specs.Storages.{extent, held_extent, held_storage}
use Rattle.gt_layout.specs.Places.{end_of, align_of, spot_of}
use Rattle.gt_layout.specs.Planes.{greatest, held}
use Rattle.gt_layout.specs.Progress.{finished}
use Rattle.gt_layout.proofs.Placing.{up_after, next, start, spots_from, reach, plane_of, greatest_some}
use Rattle.gt_layout.proofs.PlaneOf.{grow}

-- a field ends beyond the limit, wherever it begins
abbrev pub IsLarge : Storage → Type 0
IsLarge f = (begin : ℕ) → 8 * MAX_SIZE < end_of f begin

abbrev pub Alike : Storage → Storage → Type 0
Alike f g = (f ≡ g) ⊎ ((align_of f ≡ align_of g) × IsLarge f × IsLarge g)

abbrev pub Agree : Bool → ℕ → List Storage → List Storage → Type 0
Agree is_union from fs gs =
    ((reach is_union from fs ≡ reach is_union from gs) × (spots_from is_union from fs ≡ spots_from is_union from gs))
    ⊎ ((8 * MAX_SIZE < reach is_union from fs) × (8 * MAX_SIZE < reach is_union from gs))

agree_more : (is_union : Bool) (from : ℕ) (f : Storage) (fs gs : List Storage) → Agree is_union (next is_union from f) fs gs → Agree is_union from (f ∷ fs) (f ∷ gs)
agree_more is_union from f fs gs (inl (same, places)) = inl (same, ap (λ (ss : List FieldSpot). spot_of f (start is_union from f) ∷ ss) places)
agree_more is_union from f fs gs (inr large) = inr large

pub agree : (is_union : Bool) (from : ℕ) (fs gs : List Storage) → AllZip Alike fs gs → Agree is_union from fs gs
agree is_union from [] [] all = inl (refl, refl)
agree is_union from [] (g ∷ gs) all = absurd all
agree is_union from (f ∷ fs) [] all = absurd all
agree is_union from (f ∷ fs) (g ∷ gs) (inl same, rest) =
    subst (λ (h : Storage). Agree is_union from (f ∷ fs) (h ∷ gs)) same (agree_more is_union from f fs gs (agree is_union (next is_union from f) fs gs rest))
agree is_union from (f ∷ fs) (g ∷ gs) (inr (align, large, large'), rest) =
    inr (omega (arith, large (start is_union from f), grow is_union (next is_union from f) fs), omega (arith, large' (start is_union from g), grow is_union (next is_union from g) gs))

align-alike : (f g : Storage) → Alike f g → align_of f ≡ align_of g
align-alike f g (inl same) = ap align_of same
align-alike f g (inr large) = large.0

pub aligns : (fs gs : List Storage) → AllZip Alike fs gs → map align_of fs ≡ map align_of gs
aligns [] [] all = refl
aligns [] (g ∷ gs) all = absurd all
aligns (f ∷ fs) [] all = absurd all
aligns (f ∷ fs) (g ∷ gs) all = ap (λ (n : ℕ). n ∷ map align_of fs) (align-alike f g all.0) ∙ ap (λ (ns : List ℕ). align_of g ∷ ns) (aligns fs gs all.1)

abbrev pub large_plane : ℕ → Plane
large_plane align = record { size = TOO_LARGE; align = align; fields = [] }

pub held-large : (p : Plane) → MAX_SIZE < p.size → held p ≡ large_plane p.align
held-large p large = ap (λ (b : Bool). cond b p (large_plane p.align)) (lt-leb p.size MAX_SIZE large)

finished-large : (last align : ℕ) (spots : List FieldSpot) → 1 ≤ align → 8 * MAX_SIZE < last → held (finished last align spots) ≡ large_plane align
finished-large last align spots some large =
    held-large (finished last align spots) (omega (arith, up_after ((last + 7) / 8) align some))

held_by : (is_union : Bool) (fs gs : List Storage) → map align_of fs ≡ map align_of gs → Agree is_union 0 fs gs → held (plane_of is_union fs) ≡ held (plane_of is_union gs)
held_by is_union fs gs same (inl (last, spots)) =
    ap (λ (n : ℕ). held (finished n (greatest (map align_of fs)) (spots_from is_union 0 fs))) last ∙
    ap (λ (ns : List ℕ). held (finished (reach is_union 0 gs) (greatest ns) (spots_from is_union 0 fs))) same ∙
    ap (λ (ss : List FieldSpot). held (finished (reach is_union 0 gs) (greatest (map align_of gs)) ss)) spots
held_by is_union fs gs same (inr (large, large')) =
    finished-large (reach is_union 0 fs) (greatest (map align_of fs)) (spots_from is_union 0 fs) (greatest_some _) large
    ∙ ap (λ (ns : List ℕ). large_plane (greatest ns)) same
    ∙ sym (finished-large (reach is_union 0 gs) (greatest (map align_of gs)) (spots_from is_union 0 gs) (greatest_some _) large')

pub held-alike : (is_union : Bool) (fs gs : List Storage) → AllZip Alike fs gs → held (plane_of is_union fs) ≡ held (plane_of is_union gs)
held-alike is_union fs gs all = held_by is_union fs gs (aligns fs gs all) (agree is_union 0 fs gs all)

-- ---- sizes that are held within the limit

alike_by : (e d : Extent) → e.align ≡ d.align → min e.size TOO_LARGE ≡ min d.size TOO_LARGE → (e.size < TOO_LARGE) ⊎ (TOO_LARGE ≤ e.size) → Alike (Bytes e) (Bytes d)
alike_by e d align size (inl small) =
    let same : e.size ≡ d.size = omega (arith, small, size) in
    inl (ap (λ (n : ℕ). Bytes (extent n e.align)) same ∙ ap (λ (n : ℕ). Bytes (extent d.size n)) align)
alike_by e d align size (inr large) = inr (align, (λ begin. omega (arith, large)), (λ begin. omega (arith, large, size)))

pub alike_bytes : (e d : Extent) → e.align ≡ d.align → min e.size TOO_LARGE ≡ min d.size TOO_LARGE → Alike (Bytes e) (Bytes d)
alike_bytes e d align size = alike_by e d align size (cases_lt e.size TOO_LARGE)

alike_held : (f : Storage) → Alike (held_storage f) f
alike_held (Bytes e) = alike_bytes (held_extent e) e refl (omega arith)
alike_held (Bits unit count) = inl refl

pub all_held : (fs : List Storage) → AllZip Alike (map held_storage fs) fs
all_held [] = tt
all_held (f ∷ fs) = (alike_held f, all_held fs)
