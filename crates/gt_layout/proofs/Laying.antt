-- One structure more that is laid out.
use Rattle.std.proofs.Common.{◌≡◌, ◌≢◌, ℕ, zero, suc, ◌+◌, ◌≤◌, ◌<◌, min, Bool, true, false, cond, leb, IsTrue, Option, Some, List, [], ◌∷◌, length, take, get_or, set, sym, ap, subst, ◌∙◌, refl, ◌⊎◌, inl, inr, length-set, take_all, arith}
use Rattle.std.specs.List.{All, AllZip}
use Rattle.std.specs.Prelude.{slice_get}
use Rattle.std.proofs.lemmas.Bool.{cases_lt, cases_eq, leb-false}
use Rattle.std.proofs.lemmas.Option.{same_Some, none-some, slice_get_within, slice_get-get_or, get_or_from_slice_get, slice_get_read}
use Rattle.std.proofs.lemmas.List.Elements.{All-set, All-head, All-tail, All-more, All-weaker}
use Rattle.gt_types.specs.declared.limits.TheConstants.{TOO_LARGE, MAX_FIELDS}
use Rattle.gt_types.specs.declared.types.TypeId.{TypeId}
use Rattle.gt_types.specs.declared.expressions.Expr.{Expr}
use Rattle.gt_types.specs.declared.types.Ty.{Ty}
use Rattle.gt_types.specs.declared.types.Ty.TheVariants as ty
use Rattle.gt_types.specs.declared.program.Field.{Field}
use Rattle.gt_types.specs.declared.program.Structure.{Structure}
use Rattle.gt_types.specs.declared.program.Program.{Program}
use Rattle.gt_types.specs.Contains.{once, deeper, ContainsStructure, itself, held_by}
use Rattle.gt_types.specs.Shapes.{is_field_type, innermost}
use Rattle.gt_types.specs.Settled.{Settled, IsField, NamesDescribed, NamesFit}
use Rattle.gt_layout.specs.declared.planes.TheConstants.{MAX_SIZE}
use Rattle.gt_layout.specs.declared.planes.Plane.{Plane}
use Rattle.gt_layout.specs.Storages.{extent, extent_at, extent_of_plane, storage_of, storages_of}
use Rattle.gt_layout.specs.Planes.{IsPlane, IsHeldPlane, AreLaidOut, held, is_alignment, is_placeable}
use Rattle.gt_layout.specs.Progress.{IsLaid, IsHeldLaid, AreSound, Holds, Grows, IsWithinDepth, HoldsWithinDepth, AreHeldPlanes}
use Rattle.gt_layout.proofs.PlaneOf.{plane_only}
use Rattle.gt_layout.proofs.Agreement.{Alike, held-alike, large_plane}
use Rattle.gt_layout.proofs.Drafting.{possible_all, alignment_between, align-held}
use Rattle.gt_layout.proofs.Types.{AreClose, alike_storages, placeable_field}

pub stays : (program : Program) (known : List Plane) → Grows program known known
stays program known = record { all = refl; kept = λ place laid. laid; sound = λ sound. sound; holds = λ planes laid_out holds. holds }

pub onward : (program : Program) (a b c : List Plane) → Grows program a b → Grows program b c → Grows program a c
onward program a b c first second = record {
  all = second.all ∙ first.all;
  kept = λ place laid. second.kept place (first.kept place laid);
  sound = λ sound. second.sound (first.sound sound);
  holds = λ planes laid_out holds. second.holds planes laid_out (first.holds planes laid_out holds);
}

-- ---- what is held is close to the plane

size_close : (p : Plane) (b : Bool) → leb p.size MAX_SIZE ≡ b → min (cond b p (large_plane p.align)).size TOO_LARGE ≡ min p.size TOO_LARGE
size_close p true is = refl
size_close p false is = omega (arith, leb-false p.size MAX_SIZE is)

pub held_close : (p : Plane) → AreClose (extent_of_plane (Some (held p))) (extent_of_plane (Some p))
held_close p = (align-held p, size_close p (leb p.size MAX_SIZE) refl)

at : (planes : List Plane) (place : ℕ) (p : Plane) → slice_get planes place ≡ Some p → extent_at planes place ≡ extent p.size p.align
at planes place p is = ap extent_of_plane is

same_structure : (planes known : List Plane) (place : ℕ) (k p : Plane) → slice_get known place ≡ Some k → slice_get planes place ≡ Some p → k ≡ held p → AreClose (extent_at known place) (extent_at planes place)
same_structure planes known place k p at_known at_planes is =
    let close = held_close p in
    let known_is : extent_at known place ≡ extent_of_plane (Some (held p)) = ap extent_of_plane (at_known ∙ ap (λ (q : Plane). Some q) is) in
    let planes_is : extent_at planes place ≡ extent_of_plane (Some p) = ap extent_of_plane at_planes in
    (ap (λ e. e.align) known_is ∙ close.0 ∙ sym (ap (λ e. e.align) planes_is), ap (λ e. min e.size TOO_LARGE) known_is ∙ close.1 ∙ sym (ap (λ e. min e.size TOO_LARGE) planes_is))

close_by : (planes known : List Plane) (place : ℕ) (k p : Plane) → slice_get known place ≡ Some k → slice_get planes place ≡ Some p → k.align ≢ 0 → (k.align ≡ 0) ⊎ (k ≡ held p)
    → AreClose (extent_at known place) (extent_at planes place)
close_by planes known place k p at_known at_planes some (inl none) = absurd (some none)
close_by planes known place k p at_known at_planes some (inr is) = same_structure planes known place k p at_known at_planes is

-- what is laid out of a structure is close to its plane
pub close_at : (planes known : List Plane) (place : ℕ) → place < length planes → IsLaid known place → Holds planes known → AreClose (extent_at known place) (extent_at planes place)
close_at planes known place within laid holds =
    let p = get_or planes place laid.0 in
    let there = slice_get-get_or planes place laid.0 within in
    close_by planes known place laid.0 p laid.1 there laid.2 (holds place laid.0 p laid.1 there)

aligned_or : (p : Plane) → p.align ≢ 0 → (p.align ≡ 0) ⊎ IsTrue (is_alignment p.align) → IsTrue (is_alignment p.align)
aligned_or p some (inl none) = absurd (some none)
aligned_or p some (inr aligned) = aligned

pub get_at : {X : Type 0} (xs : List X) (i : ℕ) (x : X) → slice_get xs i ≡ Some x → get_or xs i x ≡ x
get_at {X} xs i x there = get_or_from_slice_get xs i x x there

-- what is laid out has an alignment of numbers
pub aligned_at : (known : List Plane) (place : ℕ) → AreSound known → IsLaid known place → IsTrue (is_alignment (extent_at known place).align)
aligned_at known place sound laid =
    let k = laid.0 in
    let is : get_or known place k ≡ k = get_at known place k laid.1 in
    let or = subst (λ (q : Plane). (q.align ≡ 0) ⊎ IsTrue (is_alignment q.align)) is (sound place k (slice_get_within known place k laid.1)) in
    subst (λ (o : Option Plane). IsTrue (is_alignment (extent_of_plane o).align)) (sym laid.1) (aligned_or k laid.2 or)

-- ---- the fields of a structure whose structures are laid out

-- the structures that fields hold are in the program
abbrev pub HoldInside : Program → List Field → Type 0
HoldInside program fields = All (λ (f : Field). (node : TypeId) → held_by f.ty ≡ Some node → node.0 < length program.structures) fields

pub placeable_fields : (known : List Plane) (fields : List Field) → AreSound known → All (λ (f : Field). IsTrue (is_field_type f.ty)) fields → All (λ (f : Field). IsHeldLaid known f.ty) fields
    → All (λ (f : Field). IsTrue (is_placeable (storage_of known f.ty))) fields
placeable_fields known fields sound shapes laid k d within =
    let f = get_or fields k d in
    placeable_field known f.ty (shapes k d within) (λ node held. aligned_at known node.0 sound (laid k d within node held))

-- planes that are held as what is laid out have the same alignments
planes_placeable : (planes known : List Plane) (f : Field) → AreSound known → IsTrue (is_field_type f.ty) → IsHeldLaid known f.ty → Holds planes known
    → ((node : TypeId) → held_by f.ty ≡ Some node → node.0 < length planes) → IsTrue (is_placeable (storage_of planes f.ty))
planes_placeable planes known f sound shape laid holds inside =
    placeable_field planes f.ty shape (λ node held.
    subst (λ (n : ℕ). IsTrue (is_alignment n)) (close_at planes known node.0 (inside node held) (laid node held) holds).0 (aligned_at known node.0 sound (laid node held)))

alike_fields : (planes known : List Plane) (fields : List Field) → All (λ (f : Field). IsHeldLaid known f.ty) fields → Holds planes known
    → All (λ (f : Field). (node : TypeId) → held_by f.ty ≡ Some node → node.0 < length planes) fields → AllZip Alike (storages_of known fields) (storages_of planes fields)
alike_fields planes known [] laid holds inside = tt
alike_fields planes known (f ∷ fs) laid holds inside =
    let Inside = λ (g : Field). (node : TypeId) → held_by g.ty ≡ Some node → node.0 < length planes in
    let Laid = λ (g : Field). IsHeldLaid known g.ty in
    let here = All-head Laid f fs laid in
    let there = All-head Inside f fs inside in (
      alike_storages known planes f.ty (λ node held. close_at planes known node.0 (there node held) (here node held) holds),
      alike_fields planes known fs (All-tail Laid f fs laid) holds (All-tail Inside f fs inside),
    )

-- what is made of the structures that are laid out is held as the plane of the structure
pub made_held : (planes known : List Plane) (s : Structure) (made plane : Plane) → AreSound known → All (λ (f : Field). IsTrue (is_field_type f.ty)) s.fields → All (λ (f : Field). IsHeldLaid known f.ty) s.fields
    → Holds planes known → All (λ (f : Field). (node : TypeId) → held_by f.ty ≡ Some node → node.0 < length planes) s.fields → IsHeldPlane known s made → IsPlane planes s plane → made ≡ held plane
made_held planes known s made plane sound shapes laid holds inside is ideal =
    let ours = possible_all (λ (f : Field). storage_of known f.ty) s.fields (placeable_fields known s.fields sound shapes laid) in
    let theirs = possible_all (λ (f : Field). storage_of planes f.ty) s.fields
    (λ k d within. planes_placeable planes known (get_or s.fields k d) sound (shapes k d within) (laid k d within) holds (inside k d within)) in
    is.same ∙ ap held (plane_only s.is_union (storages_of known s.fields) is.plane ours is.ideal)
    ∙ held-alike s.is_union (storages_of known s.fields) (storages_of planes s.fields) (alike_fields planes known s.fields laid holds inside)
    ∙ sym (ap held (plane_only s.is_union (storages_of planes s.fields) plane theirs ideal))

-- ---- a list with one entry replaced

pub get-set_same : {X : Type 0} (xs : List X) (i : ℕ) (v : X) → i < length xs → slice_get (set xs i v) i ≡ Some v
get-set_same [] i v within = absurd (omega arith)
get-set_same (x ∷ xs) zero v within = refl
get-set_same (x ∷ xs) (suc i) v within = get-set_same xs i v (omega arith)

pub get-set_other : {X : Type 0} (xs : List X) (i j : ℕ) (v : X) → j ≢ i → slice_get (set xs i v) j ≡ slice_get xs j
get-set_other [] i j v other = refl
get-set_other (x ∷ xs) zero zero v other = absurd (other refl)
get-set_other (x ∷ xs) zero (suc j) v other = refl
get-set_other (x ∷ xs) (suc i) zero v other = refl
get-set_other (x ∷ xs) (suc i) (suc j) v other = get-set_other xs i j v (λ e. other (ap suc e))

laid_same : (known : List Plane) (place : ℕ) (made : Plane) → place < length known → IsTrue (is_alignment made.align) → IsLaid (set known place made) place
laid_same known place made within aligned = (made, get-set_same known place made within, λ none. omega (arith, none, (alignment_between made.align aligned).0))

laid_set : (known : List Plane) (place other : ℕ) (made : Plane) → place < length known → IsTrue (is_alignment made.align) → (other ≡ place) ⊎ (other ≢ place) → IsLaid known other → IsLaid (set known place made) other
laid_set known place other made within aligned (inl same) laid = subst (λ (n : ℕ). IsLaid (set known place made) n) (sym same) (laid_same known place made within aligned)
laid_set known place other made within aligned (inr apart) laid = (laid.0, get-set_other known place other made apart ∙ laid.1, laid.2)

holds_set : (planes known : List Plane) (place other : ℕ) (made k p : Plane) → place < length known → ((plane : Plane) → slice_get planes place ≡ Some plane → made ≡ held plane) → Holds planes known
    → (other ≡ place) ⊎ (other ≢ place) → slice_get (set known place made) other ≡ Some k → slice_get planes other ≡ Some p → (k.align ≡ 0) ⊎ (k ≡ held p)
holds_set planes known place other made k p within right holds (inl same) at_known at_planes =
    let first : slice_get (set known place made) place ≡ Some k = subst (λ (n : ℕ). slice_get (set known place made) n ≡ Some k) same at_known in
    let second : slice_get planes place ≡ Some p = subst (λ (n : ℕ). slice_get planes n ≡ Some p) same at_planes in
    inr (same_Some k made (sym first ∙ get-set_same known place made within) ∙ right p second)
holds_set planes known place other made k p within right holds (inr apart) at_known at_planes =
    holds other k p (sym (get-set_other known place other made apart) ∙ at_known) at_planes

-- a structure more is laid out
pub one_laid : (program : Program) (known : List Plane) (place : ℕ) (made : Plane) → place < length known → IsTrue (is_alignment made.align)
    → ((planes : List Plane) → AreLaidOut program planes → Holds planes known → (plane : Plane) → slice_get planes place ≡ Some plane → made ≡ held plane) → Grows program known (set known place made)
one_laid program known place made within aligned right = record {
  all = length-set known place made;
  kept = λ other laid. laid_set known place other made within aligned (cases_eq other place) laid;
  sound = λ sound. All-set (λ (p : Plane). (p.align ≡ 0) ⊎ IsTrue (is_alignment p.align)) known place made (inr aligned) sound;
  holds = λ planes laid_out holds other k p at_known at_planes. holds_set planes known place other made k p within (right planes laid_out holds) holds (cases_eq other place) at_known at_planes;
}

pub laid_there : (known : List Plane) (place : ℕ) (made : Plane) → place < length known → IsTrue (is_alignment made.align) → IsLaid (set known place made) place
laid_there known place made within aligned = laid_same known place made within aligned

-- ---- what settled programs give

contained : (program : Program) (place : ℕ) (s : Structure) (f : Field) (i : ℕ) (node : TypeId) → slice_get program.structures place ≡ Some s → i < length s.fields → get_or s.fields i f ≡ f
    → held_by f.ty ≡ Some node → ContainsStructure program (record { 0 = place }) node
contained program place s f i node there within at held = (s, f, there, (i, within, at), held)

described_inside : (program : Program) (good : TypeId → Structure → Expr → Type 0) (type : Ty) (node : TypeId) → NamesDescribed program good type → itself type ≡ Some node → node.0 < length program.structures
described_inside program good (ty.Node other desc) node described same =
    let is : other ≡ node = same_Some other node same in
    subst (λ (n : TypeId). n.0 < length program.structures) is (slice_get_within program.structures other.0 described.0 described.1)
described_inside program good type node described same = absurd (none-some node same)

-- the structures that a field holds are in the program
pub inside_field : (program : Program) (good : TypeId → Structure → Expr → Type 0) (type : Ty) (node : TypeId) → NamesFit program good type → held_by type ≡ Some node → node.0 < length program.structures
inside_field program good type node names held = described_inside program good (innermost type) node names.described held

-- what a field of a structure holds is less deep
pub held_within : (program : Program) (place depth : ℕ) (s : Structure) (f : Field) (i : ℕ) → Settled program → slice_get program.structures place ≡ Some s → i < length s.fields → get_or s.fields i f ≡ f
    → IsWithinDepth program place depth → HoldsWithinDepth program f.ty depth
held_within program place depth s f i settled there within at shallow node held =
    let contains = contained program place s f i node there within at held in
    let good : IsField program (record { 0 = place }) s f = subst (IsField program (record { 0 = place }) s) at ((settled.structures (record { 0 = place }) s there).fields i f within) in (
      inside_field program _ f.ty node good.names held,
      shallow 1 node (once contains),
      λ n inner nests. let deep = shallow (suc n) inner (deeper contains nests) in omega (arith, deep),
    )

pub shapes_of : (program : Program) (place : ℕ) (s : Structure) → Settled program → slice_get program.structures place ≡ Some s → All (λ (f : Field). IsTrue (is_field_type f.ty)) s.fields
shapes_of program place s settled there k d within = ((settled.structures (record { 0 = place }) s there).fields k d within).shape

pub insides_of : (program : Program) (planes : List Plane) (place : ℕ) (s : Structure) → Settled program → length planes ≡ length program.structures → slice_get program.structures place ≡ Some s
    → All (λ (f : Field). (node : TypeId) → held_by f.ty ≡ Some node → node.0 < length planes) s.fields
insides_of program planes place s settled all there k d within node held =
    let good = (settled.structures (record { 0 = place }) s there).fields k d within in
    let inside = inside_field program _ (get_or s.fields k d).ty node good.names held in omega (arith, inside, all)

-- ---- the steps of the code

pub read_at : {X : Type 0} (xs ys : List X) (i : ℕ) (x : X) → xs ≡ ys → i < length ys → x ≡ get_or xs i x → slice_get ys i ≡ Some x
read_at {X} xs ys i x same within is = slice_get_read ys (length ys) i x refl within (is ∙ ap (λ (zs : List X). get_or zs i x) same)

pub field_within : (program : Program) (place depth : ℕ) (structures : List Structure) (s : Structure) (items : List Field) (i : ℕ) (f : Field) → Settled program → structures ≡ program.structures
    → place < length program.structures → s ≡ get_or structures place s → items ≡ s.fields → i < length items → f ≡ get_or items i f → IsWithinDepth program place depth → HoldsWithinDepth program f.ty depth
field_within program place depth structures s items i f settled same inside is items_are within at shallow =
    held_within program place depth s f i settled (read_at structures program.structures place s same inside is) (omega (arith, within, ap length items_are))
    (ap (λ (fs : List Field). get_or fs i f) (sym items_are) ∙ sym at) shallow

pub fields_laid : (known : List Plane) (items fields : List Field) (i : ℕ) → items ≡ fields → length items ≤ i → All (λ (f : Field). IsHeldLaid known f.ty) (take i items) → All (λ (f : Field). IsHeldLaid known f.ty) fields
fields_laid known items fields i same all laid = subst (λ (fs : List Field). All (λ (f : Field). IsHeldLaid known f.ty) fs) (take_all i items all ∙ same) laid

pub held_more : (program : Program) (a b : List Plane) (items : List Field) (i : ℕ) (f : Field) → i < length items → f ≡ get_or items i f → Grows program a b → IsHeldLaid b f.ty
    → All (λ (g : Field). IsHeldLaid a g.ty) (take i items) → All (λ (g : Field). IsHeldLaid b g.ty) (take (i + 1) items)
held_more program a b items i f within at grows laid before =
    All-more (λ (g : Field). IsHeldLaid b g.ty) items i f within
    (All-weaker (λ (g : Field). IsHeldLaid a g.ty) (λ (g : Field). IsHeldLaid b g.ty) (λ g held node is. grows.kept node.0 (held node is)) (take i items) before)
    (subst (λ (g : Field). IsHeldLaid b g.ty) at laid)

pub few_of : (program : Program) (place : ℕ) (structures : List Structure) (s : Structure) → Settled program → structures ≡ program.structures → place < length program.structures → s ≡ get_or structures place s
    → length s.fields ≤ MAX_FIELDS
few_of program place structures s settled same inside is = (settled.structures (record { 0 = place }) s (read_at structures program.structures place s same inside is)).few_fields

pub placeable_of : (program : Program) (place : ℕ) (structures : List Structure) (s : Structure) (before known slice : List Plane) → Settled program → structures ≡ program.structures → place < length program.structures
    → s ≡ get_or structures place s → AreSound before → Grows program before known → All (λ (f : Field). IsHeldLaid known f.ty) s.fields → slice ≡ known
    → All (λ (f : Field). IsTrue (is_placeable (storage_of slice f.ty))) s.fields
placeable_of program place structures s before known slice settled same inside is sound grows laid slice_is =
    subst (λ (ps : List Plane). All (λ (f : Field). IsTrue (is_placeable (storage_of ps f.ty))) s.fields) (sym slice_is)
    (placeable_fields known s.fields (grows.sound sound) (shapes_of program place s settled (read_at structures program.structures place s same inside is)) laid)

pub made_grows : (program : Program) (place : ℕ) (structures : List Structure) (s : Structure) (before known slice : List Plane) (made : Plane) → Settled program → structures ≡ program.structures
    → place < length program.structures → s ≡ get_or structures place s → length before ≡ length program.structures → AreSound before → Grows program before known → All (λ (f : Field). IsHeldLaid known f.ty) s.fields
    → slice ≡ known → IsHeldPlane slice s made → IsTrue (is_alignment made.align) → Grows program before (set known place made)
made_grows program place structures s before known slice made settled same inside is all sound grows laid slice_is made_is aligned =
    let there = read_at structures program.structures place s same inside is in
    let made_known : IsHeldPlane known s made = subst (λ (ps : List Plane). IsHeldPlane ps s made) slice_is made_is in
    onward program before known (set known place made) grows
    (one_laid program known place made (omega (arith, inside, all, grows.all)) aligned (λ planes laid_out holds plane at.
    made_held planes known s made plane (grows.sound sound) (shapes_of program place s settled there) laid holds (insides_of program planes place s settled laid_out.all there) made_known
    (laid_out.each place s plane there at)))

pub made_laid : (program : Program) (place : ℕ) (before known : List Plane) (made : Plane) → place < length program.structures → length before ≡ length program.structures → Grows program before known
    → IsTrue (is_alignment made.align) → IsLaid (set known place made) place
made_laid program place before known made inside all grows aligned = laid_there known place made (omega (arith, inside, all, grows.all)) aligned

-- ---- all structures, one after another

-- the structures below a place are laid out
pub record AreLaidBelow (program : Program) (known : List Plane) (place : ℕ) : Type 0 where
  pub all : length known ≡ length program.structures
  pub sound : AreSound known
  pub laid : (other : ℕ) → other < place → IsLaid known other
  pub holds : (planes : List Plane) → AreLaidOut program planes → Holds planes known

pub none_laid : (program : Program) (known : List Plane) → length known ≡ length program.structures → All (λ (p : Plane). p.align ≡ 0) known → AreLaidBelow program known 0
none_laid program known all unlaid = record {
  all = all;
  sound = λ k d within. inl (unlaid k d within);
  laid = λ other below. absurd (omega (arith, below));
  holds = λ planes laid_out place k p at_known at_planes. inl (subst (λ (q : Plane). q.align ≡ 0) (get_at known place k at_known) (unlaid place k (slice_get_within known place k at_known)));
}

below_next : (known : List Plane) (place other : ℕ) → (other < place → IsLaid known other) → IsLaid known place → other < place + 1 → (other < place) ⊎ (place ≤ other) → IsLaid known other
below_next known place other below here within (inl less) = below less
below_next known place other below here within (inr least) = let same : place ≡ other = omega arith in subst (λ (n : ℕ). IsLaid known n) same here

pub one_laid_more : (program : Program) (a b : List Plane) (place : ℕ) → AreLaidBelow program a place → Grows program a b → IsLaid b place → AreLaidBelow program b (place + 1)
one_laid_more program a b place before grows here = record {
  all = grows.all ∙ before.all;
  sound = grows.sound before.sound;
  laid = λ other within. below_next b place other (λ less. grows.kept other (before.laid other less)) here within (cases_lt other place);
  holds = λ planes laid_out. grows.holds planes laid_out (before.holds planes laid_out);
}

held_or : (k p : Plane) → k.align ≢ 0 → (k.align ≡ 0) ⊎ (k ≡ held p) → k ≡ held p
held_or k p some (inl none) = absurd (some none)
held_or k p some (inr is) = is

-- an entry of what is laid out has an alignment
some_align : (known : List Plane) (place : ℕ) (k : Plane) → IsLaid known place → slice_get known place ≡ Some k → k.align ≢ 0
some_align known place k laid there none = laid.2 (ap (λ (q : Plane). q.align) (same_Some laid.0 k (sym laid.1 ∙ there)) ∙ none)

pub all_laid : (program : Program) (known : List Plane) (place : ℕ) → AreLaidBelow program known place → length program.structures ≤ place → AreHeldPlanes program known
all_laid program known place laid all = record {
  all = laid.all;
  sound = λ other k there.
      aligned_or k (some_align known other k (laid.laid other (omega (arith, slice_get_within known other k there, laid.all, all))) there)
      (subst (λ (q : Plane). (q.align ≡ 0) ⊎ IsTrue (is_alignment q.align)) (get_at known other k there) (laid.sound other k (slice_get_within known other k there)));
  held = λ planes laid_out other k p at_known at_planes.
      held_or k p (some_align known other k (laid.laid other (omega (arith, slice_get_within known other k at_known, laid.all, all))) at_known) (laid.holds planes laid_out other k p at_known at_planes);
}
