-- From what is held of the planes to the layouts of a program.
use Rattle.std.proofs.Common.{◌≡◌, ℕ, ◌+◌, ◌*◌, ◌/◌, ◌≤◌, ◌<◌, min, Bool, true, false, cond, leb, IsTrue, Option, Some, None, List, [], ◌∷◌, map, length, take, get_or, sym, ap, subst, ◌∙◌, refl, ◌⊎◌, inl, inr, arith}
use Rattle.std.specs.List.{All, AllZip}
use Rattle.std.specs.Prelude.{slice_get}
use Rattle.std.proofs.lemmas.Bool.{le-leb, cases_lt}
use Rattle.std.proofs.lemmas.Option.{none-some, slice_get_within, slice_get-get_or, slice_get_cases, slice_get_past}
use Rattle.std.proofs.lemmas.List.{take-map, get_or_past}
use Rattle.std.proofs.lemmas.List.Elements.{All-map, All-weaker}
use Rattle.gt_types.specs.declared.limits.TheConstants.{TOO_LARGE}
use Rattle.gt_types.specs.declared.program.Structure.{Structure}
use Rattle.gt_types.specs.declared.program.Root.{Root}
use Rattle.gt_types.specs.declared.program.Program.{Program}
use Rattle.gt_types.specs.Settled.{Settled}
use Rattle.gt_fields.specs.declared.field_names.FieldNames.{FieldNames}
use Rattle.gt_fields.specs.FieldNames.{field_names}
use Rattle.gt_unions.specs.declared.tables.Unions.{Unions}
use Rattle.gt_unions.specs.Tables.{union_tables}
use Rattle.gt_layout.specs.declared.planes.Growth.{Growth}
use Rattle.gt_layout.specs.Growths.{AreGrowths}
use Rattle.gt_layout.specs.declared.planes.TheConstants.{MAX_SIZE}
use Rattle.gt_layout.specs.declared.planes.Plane.{Plane}
use Rattle.gt_layout.specs.declared.planes.FieldSpot.{FieldSpot}
use Rattle.gt_layout.specs.declared.planes.Layouts.{Layouts}
use Rattle.gt_layout.specs.declared.storages.Storage.{Storage}
use Rattle.gt_layout.specs.declared.storages.Storage.TheVariants.{Bytes, Bits}
use Rattle.gt_layout.specs.Storages.{extent_at, extent_of_plane, storage_of, held_storage}
use Rattle.gt_layout.specs.Places.{ends}
use Rattle.gt_layout.specs.Planes.{IsPlaneOf, AreLaidOut, IsLaidOut, root_storages, held, is_alignment, is_placeable}
use Rattle.gt_layout.specs.Excess.{HasLargeElement, IsTooLarge, IsBeyond, IsFirst, IsWithin, Exceeds}
use Rattle.gt_layout.specs.Progress.{AreHeldPlanes, IsLargeAt, IsLarge, IsWithinRecord, IsBeyondRecord, finished}
use Rattle.gt_layout.proofs.Multiples.{least_multiple}
use Rattle.gt_layout.proofs.Placing.{IsPossible, reach, plane_of}
use Rattle.gt_layout.proofs.PlaneOf.{plane_is, plane_only}
use Rattle.gt_layout.proofs.Agreement.{Alike, all_held, large_plane}
use Rattle.gt_layout.proofs.Drafting.{IsDraft, made_plane, possible_all, alignment_between}
use Rattle.gt_layout.proofs.Types.{AreClose, alike_storages, close_extents, placeable_field, root_field}
use Rattle.gt_layout.proofs.Laying.{held_close}
use Rattle.gt_layout.proofs.Ideal.{ideal, ideal_laid, ideal_layouts, ideal_is, same_list, some_align, possible_roots}
use Rattle.gt_layout.proofs.Beyond.{IsFirstBeyond, Beyond, first_beyond, first_alike, beyond_alike, alike_back, ends-spots, limit_whole}

-- ---- what is held is close to the planes at each place

close_by : (program : Program) (known planes : List Plane) (place : ℕ) → AreHeldPlanes program known → AreLaidOut program planes
    → ((k : Plane) × (place < length known) × (slice_get known place ≡ Some k) × (get_or known place k ≡ k)) ⊎ ((length known ≤ place) × (slice_get known place ≡ None))
    → AreClose (extent_at known place) (extent_at planes place)
close_by program known planes place held_all laid (inr (past, none)) =
    let none' = slice_get_past planes place (omega (arith, past, held_all.all, laid.all)) in
    let same : extent_at known place ≡ extent_at planes place = ap extent_of_plane (none ∙ sym none') in
    (ap (λ e. e.align) same, ap (λ e. min e.size TOO_LARGE) same)
close_by program known planes place held_all laid (inl (k, within, at, _)) =
    let p = get_or planes place k in
    let there = slice_get-get_or planes place k (omega (arith, within, held_all.all, laid.all)) in
    let is : k ≡ held p = held_all.held planes laid place k p at there in
    let close = held_close p in
    let known_is : extent_at known place ≡ extent_of_plane (Some (held p)) = ap extent_of_plane (at ∙ ap (λ (q : Plane). Some q) is) in
    let planes_is : extent_at planes place ≡ extent_of_plane (Some p) = ap extent_of_plane there in
    (ap (λ e. e.align) known_is ∙ close.0 ∙ sym (ap (λ e. e.align) planes_is), ap (λ e. min e.size TOO_LARGE) known_is ∙ close.1 ∙ sym (ap (λ e. min e.size TOO_LARGE) planes_is))

close_at : (program : Program) (known planes : List Plane) (place : ℕ) → AreHeldPlanes program known → AreLaidOut program planes → AreClose (extent_at known place) (extent_at planes place)
close_at program known planes place held_all laid = close_by program known planes place held_all laid (slice_get_cases known place).1

close_back : (program : Program) (known planes : List Plane) (place : ℕ) → AreHeldPlanes program known → AreLaidOut program planes → AreClose (extent_at planes place) (extent_at known place)
close_back program known planes place held_all laid = let close = close_at program known planes place held_all laid in (sym close.0, sym close.1)

-- ---- too large structures

size_held : (p : Plane) → min (held p).size TOO_LARGE ≡ min p.size TOO_LARGE
size_held p = (held_close p).1

large_element : (p q : List Plane) (s : Structure) → ((place : ℕ) → AreClose (extent_at p place) (extent_at q place)) → HasLargeElement p s → HasLargeElement q s
large_element p q s close (elem, tail, large) =
    let both = close_extents p q elem (λ node held. close node.0) in (elem, tail, omega (arith, large, both.1))

large_one : (p q : List Plane) (s : Structure) (a b : Plane) → ((place : ℕ) → AreClose (extent_at p place) (extent_at q place)) → min a.size TOO_LARGE ≡ min b.size TOO_LARGE → IsLarge p s a → IsLarge q s b
large_one p q s a b close same (inl large) = inl (omega (arith, large, same))
large_one p q s a b close same (inr element) = inr (large_element p q s close element)

pub large_to_ideal : (program : Program) (known planes : List Plane) (place : ℕ) → AreHeldPlanes program known → AreLaidOut program planes → IsLargeAt program known place → IsTooLarge program planes place
large_to_ideal program known planes place held_all laid (s, k, there, at, large) =
    let p = get_or planes place k in
    let at' = slice_get-get_or planes place k (omega (arith, slice_get_within known place k at, held_all.all, laid.all)) in
    let is : k ≡ held p = held_all.held planes laid place k p at at' in
    (s, p, there, at', large_one known planes s k p (λ other. close_at program known planes other held_all laid) (ap (λ (q : Plane). min q.size TOO_LARGE) is ∙ size_held p) large)

pub large_to_held : (program : Program) (known planes : List Plane) (place : ℕ) → AreHeldPlanes program known → AreLaidOut program planes → IsTooLarge program planes place → IsLargeAt program known place
large_to_held program known planes place held_all laid (s, p, there, at, large) =
    let k = get_or known place p in
    let at' = slice_get-get_or known place p (omega (arith, slice_get_within planes place p at, held_all.all, laid.all)) in
    let is : k ≡ held p = held_all.held planes laid place k p at' at in
    (s, k, there, at', large_one planes known s p k (λ other. close_back program known planes other held_all laid) (sym (ap (λ (q : Plane). min q.size TOO_LARGE) is ∙ size_held p)) large)

first_to_ideal : (program : Program) (known planes : List Plane) (o : Option ℕ) → AreHeldPlanes program known → AreLaidOut program planes → IsFirst (IsLargeAt program known) o → IsFirst (IsTooLarge program planes) o
first_to_ideal program known planes (Some place) held_all laid first =
    (large_to_ideal program known planes place held_all laid first.0, λ other less large. first.1 other less (large_to_held program known planes other held_all laid large))
first_to_ideal program known planes None held_all laid first = λ place large. first place (large_to_held program known planes place held_all laid large)

-- ---- the static record

alike_roots : (p q : List Plane) (roots : List Root) → ((place : ℕ) → AreClose (extent_at p place) (extent_at q place)) → AllZip Alike (root_storages p roots) (root_storages q roots)
alike_roots p q [] close = tt
alike_roots p q (r ∷ rs) close = (alike_storages p q r.ty (λ node held. close node.0), alike_roots p q rs close)

-- what ends beyond the limit by a plane does so as the fields are placed
to_fields : (fs : List Storage) (plane : Plane) (place : ℕ) → All IsPossible fs → IsPlaneOf false fs plane → 8 * MAX_SIZE < get_or (ends fs plane.fields) place 0 → Beyond fs 0 place
to_fields fs plane place all is beyond =
    subst (λ (ns : List ℕ). 8 * MAX_SIZE < get_or ns place 0) (ap (λ (p : Plane). ends fs p.fields) (plane_only false fs plane all is) ∙ ends-spots false 0 fs all) beyond

from_fields : (fs : List Storage) (plane : Plane) (place : ℕ) → All IsPossible fs → IsPlaneOf false fs plane → Beyond fs 0 place → 8 * MAX_SIZE < get_or (ends fs plane.fields) place 0
from_fields fs plane place all is beyond =
    subst (λ (ns : List ℕ). 8 * MAX_SIZE < get_or ns place 0) (sym (ap (λ (p : Plane). ends fs p.fields) (plane_only false fs plane all is) ∙ ends-spots false 0 fs all)) beyond

possible_held : (f : Storage) → IsPossible f → IsPossible (held_storage f)
possible_held (Bytes e) possible = possible
possible_held (Bits unit count) possible = possible

held_possible : (fs : List Storage) → All IsPossible fs → All IsPossible (map held_storage fs)
held_possible fs all = All-map IsPossible held_storage fs (All-weaker IsPossible (λ f. IsPossible (held_storage f)) possible_held fs all)

-- the root at which what was placed goes beyond the limit
pub beyond_record : (known : List Plane) (roots : List Root) (i : ℕ) (last most last' most' : ℕ) (places places' : List FieldSpot) → All (λ (r : Root). IsTrue (is_placeable (storage_of known r.ty))) roots
    → IsDraft false (map held_storage (root_storages known (take i roots))) last most places → last ≤ 8 * MAX_SIZE
    → IsDraft false (map held_storage (root_storages known (take (i + 1) roots))) last' most' places' → 8 * MAX_SIZE < last' → IsBeyondRecord known roots i
beyond_record known roots i last most last' most' places places' placeable draft small draft' large =
    let fs = root_storages known roots in
    let possible = possible_all (λ (r : Root). storage_of known r.ty) roots placeable in
    let taken : (n : ℕ) → map held_storage (root_storages known (take n roots)) ≡ take n (map held_storage fs) = λ n. ap (map held_storage) (sym (take-map (λ (r : Root). storage_of known r.ty) n roots)) ∙ sym (take-map held_storage n fs) in
    let first = first_beyond (map held_storage fs) i
    (omega (arith, small, draft.end, ap (reach false 0) (taken i)))
    (omega (arith, large, draft'.end, ap (reach false 0) (taken (i + 1)))) in
    let ours = first_alike (map held_storage fs) fs i (held_possible fs possible) possible (all_held fs) first in
    let plane = plane_of false fs in
    let is = plane_is false fs possible in
    record {
      plane = plane;
      is = is;
      first = (from_fields fs plane i possible is ours.here, λ other less beyond. ours.before other less (to_fields fs plane other possible is beyond));
    }

held_small : (p : Plane) (b : Bool) → leb p.size MAX_SIZE ≡ b → (cond b p (large_plane p.align)).size ≤ MAX_SIZE → cond b p (large_plane p.align) ≡ p
held_small p true is small = refl
held_small p false is small = absurd (omega (arith, small))

-- a plane that is held within the limit is itself
pub held_within : (p : Plane) → (held p).size ≤ MAX_SIZE → held p ≡ p
held_within p small = held_small p (leb p.size MAX_SIZE) refl small

small_held : (p : Plane) → p.size ≤ MAX_SIZE → held p ≡ p
small_held p small = ap (λ (b : Bool). cond b p (large_plane p.align)) (le-leb p.size MAX_SIZE small)

finished_small : (last most : ℕ) (places : List FieldSpot) → IsTrue (is_alignment most) → last ≤ 8 * MAX_SIZE → (finished last most places).size ≤ MAX_SIZE
finished_small last most places aligned small =
    least_multiple ((last + 7) / 8) most MAX_SIZE (omega (arith, (alignment_between most aligned).0)) (omega (arith, small)) (limit_whole most aligned)

-- all roots are placed within the limit
pub within_record : (known : List Plane) (roots : List Root) (i last most : ℕ) (places : List FieldSpot) (result : Plane) → All (λ (r : Root). IsTrue (is_placeable (storage_of known r.ty))) roots
    → IsDraft false (map held_storage (root_storages known (take i roots))) last most places → last ≤ 8 * MAX_SIZE → length roots ≤ i → result ≡ held (finished last most places) → IsWithinRecord known roots result
within_record known roots i last most places result placeable draft small all is =
    let fs = root_storages known roots in
    let possible = possible_all (λ (r : Root). storage_of known r.ty) roots placeable in
    let size : result.size ≤ MAX_SIZE =
    subst (λ (p : Plane). p.size ≤ MAX_SIZE) (sym (is ∙ small_held (finished last most places) (finished_small last most places draft.aligned small))) (finished_small last most places draft.aligned small) in
    let made : result ≡ held (plane_of false fs) = made_plane (λ (r : Root). storage_of known r.ty) roots roots i false last most places result draft all refl is in
    let same : result ≡ plane_of false fs = made ∙ held_within (plane_of false fs) (subst (λ (p : Plane). p.size ≤ MAX_SIZE) made size) in
    record { is = subst (λ (p : Plane). IsPlaneOf false fs p) (sym same) (plane_is false fs possible); within = size }

-- ---- the answers of `layout`

aligned_by : (program : Program) (known : List Plane) (place : ℕ) → AreHeldPlanes program known
    → ((k : Plane) × (place < length known) × (slice_get known place ≡ Some k) × (get_or known place k ≡ k)) ⊎ ((length known ≤ place) × (slice_get known place ≡ None))
    → IsTrue (is_alignment (extent_at known place).align)
aligned_by program known place held_all (inl (k, within, at, _)) = subst (λ (o : Option Plane). IsTrue (is_alignment (extent_of_plane o).align)) (sym at) (held_all.sound place k at)
aligned_by program known place held_all (inr (past, none)) = subst (λ (o : Option Plane). IsTrue (is_alignment (extent_of_plane o).align)) (sym none) refl

pub placeable_roots : (program : Program) (known : List Plane) → Settled program → AreHeldPlanes program known → All (λ (r : Root). IsTrue (is_placeable (storage_of known r.ty))) program.roots
placeable_roots program known settled held_all k d within =
    let type = (get_or program.roots k d).ty in
    placeable_field known type (root_field type (settled.roots k d within).shape) (λ node held. aligned_by program known node.0 held_all (slice_get_cases known node.0).1)

possible_known : (program : Program) (known : List Plane) → Settled program → AreHeldPlanes program known → All IsPossible (root_storages known program.roots)
possible_known program known settled held_all = possible_all (λ (r : Root). storage_of known r.ty) program.roots (placeable_roots program known settled held_all)

possible_planes : (program : Program) (planes : List Plane) → Settled program → AreLaidOut program planes → All IsPossible (root_storages planes program.roots)
possible_planes program planes settled laid = possible_roots program planes settled (λ place. some_align program planes place laid)

beyond_stop : (program : Program) (known : List Plane) (structure : Option ℕ) (root : ℕ) (layouts : Layouts) → Settled program → AreHeldPlanes program known → IsFirst (IsLargeAt program known) structure
    → IsBeyondRecord known program.roots root → IsLaidOut program layouts → Exceeds program structure (Some root)
beyond_stop program known structure root layouts settled held_all first beyond is =
    let ours = possible_known program known settled held_all in
    let theirs = possible_planes program layouts.structures settled is.structures in
    let alike = alike_roots known layouts.structures program.roots (λ place. close_at program known layouts.structures place held_all is.structures) in
    let fs = root_storages known program.roots in
    let gs = root_storages layouts.structures program.roots in
    let at : IsFirstBeyond fs root = record {
      here = to_fields fs beyond.plane root ours beyond.is beyond.first.0;
      before = λ other less large. beyond.first.1 other less (from_fields fs beyond.plane other ours beyond.is large);
    } in
    let there = first_alike fs gs root ours theirs alike at in
    record {
      layouts = layouts;
      laid_out = is;
      first_structure = first_to_ideal program known layouts.structures structure held_all is.structures first;
      first_root = (from_fields gs layouts.statics root theirs is.statics there.here, λ other less large. there.before other less (to_fields gs layouts.statics other theirs is.statics large));
      some = inr (λ e. none-some root (sym e));
    }

pub stop_beyond : (program : Program) (known : List Plane) (structure : Option ℕ) (root : ℕ) → Settled program → AreHeldPlanes program known → IsFirst (IsLargeAt program known) structure
    → IsBeyondRecord known program.roots root → Exceeds program structure (Some root)
stop_beyond program known structure root settled held_all first beyond =
    beyond_stop program known structure root (ideal_layouts program settled) settled held_all first beyond (ideal_is program settled)

none_past : (ns : List ℕ) (bound place : ℕ) → All (λ n. n ≤ bound) ns → (place < length ns) ⊎ (length ns ≤ place) → get_or ns place 0 ≤ bound
none_past ns bound place all (inl within) = all place 0 within
none_past ns bound place all (inr past) = omega (arith, get_or_past ns place 0 past)

record_none : (program : Program) (known : List Plane) (statics : Plane) (layouts : Layouts) → Settled program → AreHeldPlanes program known → IsWithinRecord known program.roots statics → IsLaidOut program layouts
    → (place : ℕ) → ¬ IsBeyond program layouts place
record_none program known statics layouts settled held_all within is place beyond =
    let ours = possible_known program known settled held_all in
    let theirs = possible_planes program layouts.structures settled is.structures in
    let alike = alike_roots known layouts.structures program.roots (λ other. close_at program known layouts.structures other held_all is.structures) in
    let fs = root_storages known program.roots in
    let gs = root_storages layouts.structures program.roots in
    let large = from_fields fs statics place ours within.is (beyond_alike 0 gs fs place ours (alike_back fs gs alike) (to_fields gs layouts.statics place theirs is.statics beyond)) in
    omega (arith, large, within.within, none_past (ends fs statics.fields) (8 * statics.size) place within.is.size.room.inside (cases_lt place (length (ends fs statics.fields))))

some_stop : (program : Program) (known : List Plane) (place : ℕ) (statics : Plane) (layouts : Layouts) → Settled program → AreHeldPlanes program known → IsFirst (IsLargeAt program known) (Some place)
    → IsWithinRecord known program.roots statics → IsLaidOut program layouts → Exceeds program (Some place) None
some_stop program known place statics layouts settled held_all first within is = record {
  layouts = layouts;
  laid_out = is;
  first_structure = first_to_ideal program known layouts.structures (Some place) held_all is.structures first;
  first_root = record_none program known statics layouts settled held_all within is;
  some = inl (λ e. none-some place (sym e));
}

pub stop_some : (program : Program) (known : List Plane) (place : ℕ) (statics : Plane) → Settled program → AreHeldPlanes program known → IsFirst (IsLargeAt program known) (Some place)
    → IsWithinRecord known program.roots statics → Exceeds program (Some place) None
stop_some program known place statics settled held_all first within =
    some_stop program known place statics (ideal_layouts program settled) settled held_all first within (ideal_is program settled)

small_by : (p : Plane) → (MAX_SIZE < p.size) ⊎ (p.size ≤ MAX_SIZE) → ¬ (MAX_SIZE < p.size) → held p ≡ p
small_by p (inl large) never = absurd (never large)
small_by p (inr small) never = small_held p small

-- where nothing is too large, what is held are the planes
entry_same : (program : Program) (known planes : List Plane) (place : ℕ) → AreHeldPlanes program known → AreLaidOut program planes → ((other : ℕ) → ¬ IsLargeAt program known other)
    → ((k : Plane) × (place < length known) × (slice_get known place ≡ Some k) × (get_or known place k ≡ k)) ⊎ ((length known ≤ place) × (slice_get known place ≡ None))
    → ((s : Structure) × (place < length program.structures) × (slice_get program.structures place ≡ Some s) × (get_or program.structures place s ≡ s)) ⊎ ((length program.structures ≤ place) × (slice_get program.structures place ≡ None))
    → slice_get known place ≡ slice_get planes place
entry_same program known planes place held_all laid none (inr (past, absent)) _ = absent ∙ sym (slice_get_past planes place (omega (arith, past, held_all.all, laid.all)))
entry_same program known planes place held_all laid none (inl (k, within, at, _)) (inr (past, absent)) = absurd (omega (arith, within, past, held_all.all))
entry_same program known planes place held_all laid none (inl (k, within, at, _)) (inl (s, inside, there, _)) =
    let p = get_or planes place k in
    let at' = slice_get-get_or planes place k (omega (arith, within, held_all.all, laid.all)) in
    let is : k ≡ held p = held_all.held planes laid place k p at at' in
    at ∙ ap (λ (q : Plane). Some q) (is ∙ small_by p (cases_lt MAX_SIZE p.size) (λ large. none place (large_to_held program known planes place held_all laid (s, p, there, at', inl large)))) ∙ sym at'

same_planes : (program : Program) (known planes : List Plane) → AreHeldPlanes program known → AreLaidOut program planes → ((other : ℕ) → ¬ IsLargeAt program known other) → known ≡ planes
same_planes program known planes held_all laid none =
    same_list known planes (λ place. entry_same program known planes place held_all laid none (slice_get_cases known place).1 (slice_get_cases program.structures place).1)

pub known_laid : (program : Program) (known : List Plane) → Settled program → AreHeldPlanes program known → ((other : ℕ) → ¬ IsLargeAt program known other) → AreLaidOut program known
known_laid program known settled held_all none =
    subst (λ (ps : List Plane). AreLaidOut program ps) (sym (same_planes program known (ideal program) held_all (ideal_laid program settled) none)) (ideal_laid program settled)

-- layouts of these parts
abbrev pub layouts_of : List Plane → Plane → FieldNames → Unions → List Growth → Layouts
layouts_of structures statics names unions growths = record { structures = structures; statics = statics; names = names; unions = unions; growths = growths }

pub all_laid_out : (program : Program) (known structures : List Plane) (statics : Plane) (names : FieldNames) (unions : Unions) (growths : List Growth) → Settled program → AreHeldPlanes program known
    → ((other : ℕ) → ¬ IsLargeAt program known other) → IsWithinRecord known program.roots statics → structures ≡ known → names ≡ field_names program.structures → unions ≡ union_tables program
    → AreGrowths program known growths → IsLaidOut program (layouts_of structures statics names unions growths)
all_laid_out program known structures statics names unions growths settled held_all none within same named united grown =
    subst (λ (ps : List Plane). IsLaidOut program (layouts_of ps statics names unions growths)) (sym same)
    (record { structures = known_laid program known settled held_all none; statics = within.is; names = named; unions = united; growths = grown })

pub all_within : (program : Program) (known structures : List Plane) (statics : Plane) (names : FieldNames) (unions : Unions) (growths : List Growth) → AreHeldPlanes program known
    → ((other : ℕ) → ¬ IsLargeAt program known other) → IsWithinRecord known program.roots statics → structures ≡ known → IsWithin program (layouts_of structures statics names unions growths)
all_within program known structures statics names unions growths held_all none within same =
    subst (λ (ps : List Plane). IsWithin program (layouts_of ps statics names unions growths)) (sym same) (record { structures = none; statics = within.within })
