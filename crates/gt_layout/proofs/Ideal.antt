-- A settled program has one layout: laid out again and again from nothing, it changes no more after as many times as structures
-- stand one inside another.
use Rattle.std.proofs.Common.{◌≡◌, ℕ, zero, suc, ◌+◌, ◌-◌, ◌≤◌, ◌<◌, Bool, true, false, IsTrue, Option, Some, None, option_map, List, [], ◌∷◌, ◌++◌, map, length, take, get_or, sym, ap, subst, ◌∙◌, refl, ◌⊎◌, inl, inr, arith}
use Rattle.std.specs.List.{All}
use Rattle.std.specs.Prelude.{slice_get, option_to_list}
use Rattle.std.proofs.lemmas.List.{length-map, take_all, take_more}
use Rattle.std.proofs.lemmas.Option.{get_or_from_slice_get, same_Some, none-some, slice_get-map, slice_get-get_or, slice_get_cases, slice_get_past, slice_get_within}
use Rattle.std.proofs.lemmas.List.Elements.{All-head, All-tail, All-map}
use Rattle.gt_types.specs.declared.limits.TheConstants.{MAX_DEPTH}
use Rattle.gt_types.specs.declared.expressions.Expr.{Expr}
use Rattle.gt_types.specs.declared.types.TypeId.{TypeId}
use Rattle.gt_types.specs.declared.types.Ty.TheVariants as ty
use Rattle.gt_types.specs.declared.program.Field.{Field}
use Rattle.gt_types.specs.declared.program.Structure.{Structure}
use Rattle.gt_types.specs.declared.program.Root.{Root}
use Rattle.gt_types.specs.declared.program.Program.{Program}
use Rattle.gt_types.specs.Contains.{HasStructure, held_by}
use Rattle.gt_types.specs.Tails.{tail_of}
use Rattle.gt_types.specs.Shapes.{is_field_type, is_structure}
use Rattle.gt_types.specs.Settled.{Settled}
use Rattle.gt_fields.specs.declared.field_names.FieldNames.{FieldNames}
use Rattle.gt_fields.specs.FieldNames.{field_names}
use Rattle.gt_unions.specs.declared.tables.Unions.{Unions}
use Rattle.gt_unions.specs.Tables.{union_tables}
use Rattle.gt_layout.specs.declared.planes.Growth.{Growth}
use Rattle.gt_layout.specs.declared.planes.TailSpot.{TailSpot}
use Rattle.gt_layout.specs.Growths.{AreTails, AreGrowths, tail_spot}
use Rattle.gt_layout.specs.declared.planes.Plane.{Plane}
use Rattle.gt_layout.specs.declared.planes.Layouts.{Layouts}
use Rattle.gt_layout.specs.declared.storages.Storage.{Storage}
use Rattle.gt_layout.specs.Storages.{extent_at, extent_of, extent_of_plane, storage_of, storages_of}
use Rattle.gt_layout.specs.Planes.{IsPlane, AreLaidOut, IsLaidOut, root_storages}
use Rattle.gt_layout.specs.Places.{align_of, last_offset}
use Rattle.gt_layout.specs.Laws.{HasOneLayout}
use Rattle.gt_layout.specs.Progress.{IsWithinDepth, with_tails}
use Rattle.gt_layout.proofs.Placing.{plane_of, IsPossible, greatest_some}
use Rattle.gt_layout.proofs.PlaneOf.{plane_is, plane_only}
use Rattle.gt_layout.proofs.Types.{same_storage, possible_field, root_field}
use Rattle.gt_layout.proofs.Laying.{held_within, shapes_of}
use Rattle.gt_layout.proofs.Growing.{Gathered, gathered-none, gathered-flat, gathered-node, struct-tails, tails-only, union-tails}
use Rattle.gt_layout.proofs.Depths.{OfInner, by_depth, held-node, inner_there, node_cases}

abbrev node_at : ℕ → TypeId
node_at i = record { 0 = i }

-- ---- the fields of a structure take the same by planes that agree on what is inside it

same_fields : (p q : List Plane) (fields : List Field) → All (λ (f : Field). (node : TypeId) → held_by f.ty ≡ Some node → extent_at p node.0 ≡ extent_at q node.0) fields → storages_of p fields ≡ storages_of q fields
same_fields p q [] same = refl
same_fields p q (f ∷ fs) same =
    let P = λ (g : Field). (node : TypeId) → held_by g.ty ≡ Some node → extent_at p node.0 ≡ extent_at q node.0 in
    ap (λ (t : Storage). t ∷ storages_of p fs) (same_storage p q f.ty (All-head P f fs same)) ∙ ap (λ (ts : List Storage). storage_of q f.ty ∷ ts) (same_fields p q fs (All-tail P f fs same))

-- planes that agree on structures that are less deep
abbrev AgreeBelow : Program → List Plane → List Plane → ℕ → Type 0
AgreeBelow program p q depth = (place : ℕ) → IsWithinDepth program place depth → slice_get p place ≡ slice_get q place

inside_fields : (program : Program) (p q : List Plane) (place depth : ℕ) (s : Structure) → Settled program → slice_get program.structures place ≡ Some s → IsWithinDepth program place depth
    → (1 ≤ depth → AgreeBelow program p q (depth - 1)) → storages_of p s.fields ≡ storages_of q s.fields
inside_fields program p q place depth s settled there shallow agree =
    same_fields p q s.fields (λ k d within node held.
    let f = get_or s.fields k d in
    let inner = held_within program place depth s f k settled there within (get_or_from_slice_get s.fields k f f (slice_get-get_or s.fields k d within)) shallow node held in
    ap extent_of_plane (agree inner.1 node.0 inner.2))

-- ---- alignments

align_of_plane : (program : Program) (planes : List Plane) (place : ℕ) (p : Plane) (s : Structure) → AreLaidOut program planes → slice_get planes place ≡ Some p → slice_get program.structures place ≡ Some s → 1 ≤ p.align
align_of_plane program planes place p s laid at there =
    let is = (laid.each place s p there at).align in omega (arith, is, greatest_some (map align_of (storages_of planes s.fields)))

align_by : (program : Program) (planes : List Plane) (place : ℕ) → AreLaidOut program planes
    → ((p : Plane) × (place < length planes) × (slice_get planes place ≡ Some p) × (get_or planes place p ≡ p)) ⊎ ((length planes ≤ place) × (slice_get planes place ≡ None))
    → ((s : Structure) × (place < length program.structures) × (slice_get program.structures place ≡ Some s) × (get_or program.structures place s ≡ s)) ⊎ ((length program.structures ≤ place) × (slice_get program.structures place ≡ None))
    → 1 ≤ (extent_at planes place).align
align_by program planes place laid (inr (past, none)) _ = subst (λ (o : Option Plane). 1 ≤ (extent_of_plane o).align) (sym none) (omega arith)
align_by program planes place laid (inl (p, within, at, _)) (inr (past, none)) = absurd (omega (arith, within, past, laid.all))
align_by program planes place laid (inl (p, within, at, _)) (inl (s, inside, there, _)) =
    subst (λ (o : Option Plane). 1 ≤ (extent_of_plane o).align) (sym at) (align_of_plane program planes place p s laid at there)

pub some_align : (program : Program) (planes : List Plane) (place : ℕ) → AreLaidOut program planes → 1 ≤ (extent_at planes place).align
some_align program planes place laid = align_by program planes place laid (slice_get_cases planes place).1 (slice_get_cases program.structures place).1

possible_fields : (planes : List Plane) (fields : List Field) → ((place : ℕ) → 1 ≤ (extent_at planes place).align) → All (λ (f : Field). IsTrue (is_field_type f.ty)) fields → All IsPossible (storages_of planes fields)
possible_fields planes fields some shapes =
    All-map IsPossible (λ (f : Field). storage_of planes f.ty) fields (λ k d within. possible_field planes (get_or fields k d).ty (shapes k d within) (λ node held. some node.0))

pub possible_of : (program : Program) (planes : List Plane) (place : ℕ) (s : Structure) → Settled program → AreLaidOut program planes → slice_get program.structures place ≡ Some s → All IsPossible (storages_of planes s.fields)
possible_of program planes place s settled laid there = possible_fields planes s.fields (λ other. some_align program planes other laid) (shapes_of program place s settled there)

pub possible_roots : (program : Program) (planes : List Plane) → Settled program → ((place : ℕ) → 1 ≤ (extent_at planes place).align) → All IsPossible (root_storages planes program.roots)
possible_roots program planes settled some =
    All-map IsPossible (λ (r : Root). storage_of planes r.ty) program.roots
    (λ k d within. possible_field planes (get_or program.roots k d).ty (root_field (get_or program.roots k d).ty (settled.roots k d within).shape) (λ node held. some node.0))

-- ---- one layout at most

same_plane_at : (program : Program) (p q : List Plane) (place : ℕ) (s : Structure) (a b : Plane) → Settled program → AreLaidOut program p → AreLaidOut program q → slice_get program.structures place ≡ Some s
    → slice_get p place ≡ Some a → slice_get q place ≡ Some b → storages_of p s.fields ≡ storages_of q s.fields → a ≡ b
same_plane_at program p q place s a b settled laid laid' there at at' same =
    plane_only s.is_union (storages_of p s.fields) a (possible_of program p place s settled laid there) (laid.each place s a there at)
    ∙ ap (plane_of s.is_union) same
    ∙ sym (plane_only s.is_union (storages_of q s.fields) b (possible_of program q place s settled laid' there) (laid'.each place s b there at'))

same_by : (program : Program) (p q : List Plane) (depth place : ℕ) → Settled program → AreLaidOut program p → AreLaidOut program q → IsWithinDepth program place depth
    → (1 ≤ depth → AgreeBelow program p q (depth - 1))
    → ((s : Structure) × (place < length program.structures) × (slice_get program.structures place ≡ Some s) × (get_or program.structures place s ≡ s)) ⊎ ((length program.structures ≤ place) × (slice_get program.structures place ≡ None))
    → slice_get p place ≡ slice_get q place
same_by program p q depth place settled laid laid' shallow agree (inr (past, none)) =
    slice_get_past p place (omega (arith, past, laid.all)) ∙ sym (slice_get_past q place (omega (arith, past, laid'.all)))
same_by program p q depth place settled laid laid' shallow agree (inl (s, inside, there, _)) =
    let d : Plane = plane_of false [] in
    let at = slice_get-get_or p place d (omega (arith, inside, laid.all)) in
    let at' = slice_get-get_or q place d (omega (arith, inside, laid'.all)) in
    at ∙ ap (λ (c : Plane). Some c)
    (same_plane_at program p q place s (get_or p place d) (get_or q place d) settled laid laid' there at at' (inside_fields program p q place depth s settled there shallow agree)) ∙ sym at'

agree_below : (program : Program) (p q : List Plane) (depth : ℕ) → Settled program → AreLaidOut program p → AreLaidOut program q → AgreeBelow program p q depth
agree_below program p q zero settled laid laid' place shallow = same_by program p q zero place settled laid laid' shallow (λ some. absurd (omega (arith, some))) (slice_get_cases program.structures place).1
agree_below program p q (suc depth) settled laid laid' place shallow =
    same_by program p q (suc depth) place settled laid laid' shallow
    (λ some. let same : depth ≡ suc depth - 1 = omega arith in subst (AgreeBelow program p q) same (agree_below program p q depth settled laid laid')) (slice_get_cases program.structures place).1

pub same_list : {X : Type 0} (xs ys : List X) → ((i : ℕ) → slice_get xs i ≡ slice_get ys i) → xs ≡ ys
same_list [] [] same = refl
same_list [] (y ∷ ys) same = absurd (none-some y (same 0))
same_list (x ∷ xs) [] same = absurd (none-some x (sym (same 0)))
same_list {X} (x ∷ xs) (y ∷ ys) same = ap (λ (z : X). z ∷ xs) (same_Some x y (same 0)) ∙ ap (λ (zs : List X). y ∷ zs) (same_list xs ys (λ i. same (suc i)))

pub one_planes : (program : Program) (p q : List Plane) → Settled program → AreLaidOut program p → AreLaidOut program q → p ≡ q
one_planes program p q settled laid laid' =
    same_list p q (λ place. agree_below program p q MAX_DEPTH settled laid laid' place (λ n inner nests. settled.depth n (node_at place) inner nests))

-- ---- there is one

abbrev plane_by : List Plane → Structure → Plane
plane_by planes s = plane_of s.is_union (storages_of planes s.fields)

-- the planes by those that were found before
abbrev layer : Program → List Plane → List Plane
layer program planes = map (plane_by planes) program.structures

abbrev after : ℕ → Program → List Plane
after zero program = layer program []
after (suc n) program = layer program (after n program)

layer_at : (program : Program) (planes : List Plane) (place : ℕ) → slice_get (layer program planes) place ≡ option_map (plane_by planes) (slice_get program.structures place)
layer_at program planes place = slice_get-map (plane_by planes) program.structures place

layers_same : (program : Program) (p q : List Plane) (place depth : ℕ) → Settled program → IsWithinDepth program place depth → (1 ≤ depth → AgreeBelow program p q (depth - 1))
    → ((s : Structure) × (place < length program.structures) × (slice_get program.structures place ≡ Some s) × (get_or program.structures place s ≡ s)) ⊎ ((length program.structures ≤ place) × (slice_get program.structures place ≡ None))
    → slice_get (layer program p) place ≡ slice_get (layer program q) place
layers_same program p q place depth settled shallow agree (inr (past, none)) =
    layer_at program p place ∙ ap (option_map (plane_by p)) none ∙ sym (ap (option_map (plane_by q)) none) ∙ sym (layer_at program q place)
layers_same program p q place depth settled shallow agree (inl (s, inside, there, _)) =
    layer_at program p place ∙ ap (option_map (plane_by p)) there ∙ ap (λ (fs : List Storage). Some (plane_of s.is_union fs)) (inside_fields program p q place depth s settled there shallow agree)
    ∙ sym (ap (option_map (plane_by q)) there) ∙ sym (layer_at program q place)

settles : (program : Program) (depth : ℕ) → Settled program → AgreeBelow program (after depth program) (layer program (after depth program)) depth
settles program zero settled place shallow =
    layers_same program [] (after zero program) place zero settled shallow (λ some. absurd (omega (arith, some))) (slice_get_cases program.structures place).1
settles program (suc depth) settled place shallow =
    layers_same program (after depth program) (after (suc depth) program) place (suc depth) settled shallow
    (λ some. let same : depth ≡ suc depth - 1 = omega arith in subst (AgreeBelow program (after depth program) (after (suc depth) program)) same (settles program depth settled)) (slice_get_cases program.structures place).1

some_by : (program : Program) (planes : List Plane) (place : ℕ) (o : Option Structure) → 1 ≤ (extent_of_plane (option_map (plane_by planes) o)).align
some_by program planes place (Some s) = greatest_some _
some_by program planes place None = omega arith

some_fixed : (program : Program) (planes : List Plane) (place : ℕ) → planes ≡ layer program planes → 1 ≤ (extent_at planes place).align
some_fixed program planes place fixed =
    subst (λ (o : Option Plane). 1 ≤ (extent_of_plane o).align) (sym (ap (λ ps. slice_get ps place) fixed ∙ layer_at program planes place)) (some_by program planes place (slice_get program.structures place))

-- planes that are those by themselves are the layout
fixed_laid : (program : Program) (planes : List Plane) → Settled program → planes ≡ layer program planes → AreLaidOut program planes
fixed_laid program planes settled fixed = record {
  all = ap length fixed ∙ length-map program.structures (plane_by planes);
  each = λ place s p there at.
      let is : plane_by planes s ≡ p = same_Some (plane_by planes s) p (sym (ap (λ ps. slice_get ps place) fixed ∙ layer_at program planes place ∙ ap (option_map (plane_by planes)) there) ∙ at) in
      subst (IsPlane planes s) is (plane_is s.is_union (storages_of planes s.fields) (possible_fields planes s.fields (λ other. some_fixed program planes other fixed) (shapes_of program place s settled there)));
}

-- the planes of a program
pub ideal : Program → List Plane
ideal program = after MAX_DEPTH program

pub ideal_laid : (program : Program) → Settled program → AreLaidOut program (ideal program)
unfolding ideal
ideal_laid program settled =
    fixed_laid program (after MAX_DEPTH program) settled
    (same_list (after MAX_DEPTH program) (layer program (after MAX_DEPTH program)) (λ place. settles program MAX_DEPTH settled place (λ n inner nests. settled.depth n (node_at place) inner nests)))

-- ---- how structures grow

module _ (program : Program) (planes : List Plane) (settled : Settled program) (laid : AreLaidOut program planes) where
  abbrev HasTails : TypeId → Type 0
  HasTails node = (tails : List TailSpot) × AreTails program planes node tails

  -- what is found of the members of a union, one after another
  gather : (node : TypeId) (s : Structure) → HasStructure program node s → OfInner program HasTails node → (n : ℕ) → n ≤ length s.fields → (tails : List TailSpot) × Gathered program planes (take n s.fields) tails
  gather node s has inner zero le = ([], gathered-none program planes)
  gather node s has inner (suc n) le = go (gather node s has inner n (omega (arith, le))) (slice_get_cases s.fields n).1
    where
      go : (tails : List TailSpot) × Gathered program planes (take n s.fields) tails
          → ((f : Field) × (n < length s.fields) × (slice_get s.fields n ≡ Some f) × (get_or s.fields n f ≡ f)) ⊎ ((length s.fields ≤ n) × (slice_get s.fields n ≡ None))
          → (tails : List TailSpot) × Gathered program planes (take (suc n) s.fields) tails
      go before (inr past) = absurd (omega (arith, le, past.0))
      go before (inl (f, lt, _, at)) = by_type (node_cases f.ty)
        where
          more : take (suc n) s.fields ≡ take n s.fields ++ f ∷ []
          more = let next : suc n ≡ n + 1 = omega arith in ap (λ k. take k s.fields) next ∙ take_more s.fields n f lt ∙ ap (λ (g : Field). take n s.fields ++ g ∷ []) at

          by_type : ((other : TypeId) × (desc : Option Expr) × (f.ty ≡ ty.Node other desc)) ⊎ ((is_structure f.ty ≡ false) × ((other : TypeId) (desc : Option Expr) → f.ty ≡ ty.Node other desc → ⊥))
              → (tails : List TailSpot) × Gathered program planes (take (suc n) s.fields) tails
          by_type (inr flat) = (before.0, subst (λ fs. Gathered program planes fs before.0) (sym more) (gathered-flat program planes (take n s.fields) f before.0 before.1 flat.1))
          by_type (inl (other, desc, type)) =
              let there = inner_there program node s f other settled has (n, lt, at) (held-node f.ty other desc type) in
              let its = inner other there.0 there.1 there.2 in
              (with_tails its.0 before.0, subst (λ fs. Gathered program planes fs (with_tails its.0 before.0)) (sym more) (gathered-node program planes (take n s.fields) f before.0 its.0 other desc before.1 type its.1))

  tails-by : (node : TypeId) (s : Structure) (union : Bool) → s.is_union ≡ union → HasStructure program node s → OfInner program HasTails node → HasTails node
  tails-by node s true union has inner =
      let found = gather node s has inner (length s.fields) (omega arith) in
      (found.0, union-tails program planes node s found.0 has union (subst (λ fs. Gathered program planes fs found.0) (take_all (length s.fields) s.fields (omega arith)) found.1))
  tails-by node s false struct has inner =
      let plane = get_or planes node.0 (plane_of false []) in
      let at = slice_get-get_or planes node.0 (plane_of false []) (omega (arith, slice_get_within program.structures node.0 s has, laid.all)) in
      (option_to_list (option_map (λ elem. tail_spot (last_offset plane.fields) (extent_of planes elem).size) (tail_of s.fields)), struct-tails program planes node s plane has at struct (tail_of s.fields) refl)

  tails_of : (node : TypeId) (s : Structure) → HasStructure program node s → HasTails node
  tails_of node s has = by_depth program HasTails (λ other t there inner. tails-by other t t.is_union refl there inner) settled node s has

  -- an entry for each place, where there is one for each
  entries : {X : Type 0} (P : ℕ → X → Type 0) (count : ℕ) → ((place : ℕ) → place < count → (x : X) × P place x) → (xs : List X) × (length xs ≡ count) × ((place : ℕ) (x : X) → slice_get xs place ≡ Some x → P place x)
  entries P zero each = ([], refl, λ place x e. absurd (none-some x e))
  entries {X} P (suc count) each =
      let first = each 0 (omega arith) in
      let rest = entries (λ place x. P (suc place) x) count (λ place lt. each (suc place) (omega (arith, lt))) in
      (first.0 ∷ rest.0, ap suc rest.1, λ place x e. at first.0 rest.0 first.1 rest.2 place x e)
    where
      at : (y : X) (ys : List X) → P 0 y → ((place : ℕ) (x : X) → slice_get ys place ≡ Some x → P (suc place) x) → (place : ℕ) (x : X) → slice_get (y ∷ ys) place ≡ Some x → P place x
      at y ys here later zero x e = subst (P 0) (same_Some y x e) here
      at y ys here later (suc place) x e = later place x e

  growths_there : (growths : List Growth) × AreGrowths program planes growths
  growths_there =
      let found = entries (λ place (g : Growth). AreTails program planes (node_at place) g.tails) (length program.structures) (λ place lt. one place (slice_get_cases program.structures place).1 lt) in
      (found.0, record { all = found.1; each = found.2 })
    where
      one : (place : ℕ)
          → ((s : Structure) × (place < length program.structures) × (slice_get program.structures place ≡ Some s) × (get_or program.structures place s ≡ s)) ⊎ ((length program.structures ≤ place) × (slice_get program.structures place ≡ None))
          → place < length program.structures → (g : Growth) × AreTails program planes (node_at place) g.tails
      one place (inl (s, _, has, _)) lt = let its = tails_of (node_at place) s has in (record { tails = its.0 }, its.1)
      one place (inr past) lt = absurd (omega (arith, lt, past.0))

-- structures grow in one way
only_growths : (program : Program) (planes : List Plane) (a b : List Growth) → AreGrowths program planes a → AreGrowths program planes b → a ≡ b
only_growths program planes a b is is' = same_list a b (λ place. same_at place (slice_get_cases a place).1)
  where
    same_at : (place : ℕ) → ((g : Growth) × (place < length a) × (slice_get a place ≡ Some g) × (get_or a place g ≡ g)) ⊎ ((length a ≤ place) × (slice_get a place ≡ None)) → slice_get a place ≡ slice_get b place
    same_at place (inr (past, none)) = none ∙ sym (slice_get_past b place (omega (arith, past, is.all, is'.all)))
    same_at place (inl (g, lt, at, _)) =
        let h = get_or b place g in
        let at' = slice_get-get_or b place g (omega (arith, lt, is.all, is'.all)) in
        let tails : g.tails ≡ h.tails = tails-only program planes (node_at place) g.tails h.tails (is.each place g at) (is'.each place h at') in
        let same : g ≡ h = ap (λ (ts : List TailSpot). let k : Growth = record { tails = ts } in k) tails in
        at ∙ ap (λ (k : Growth). Some k) same ∙ sym at'

-- the layouts of a program
pub ideal_layouts : (program : Program) → Settled program → Layouts
ideal_layouts program settled = record {
  structures = ideal program;
  statics = plane_of false (root_storages (ideal program) program.roots);
  names = field_names program.structures;
  unions = union_tables program;
  growths = (growths_there program (ideal program) settled (ideal_laid program settled)).0;
}

pub ideal_is : (program : Program) → (settled : Settled program) → IsLaidOut program (ideal_layouts program settled)
unfolding ideal_layouts
ideal_is program settled = record {
  structures = ideal_laid program settled;
  statics = plane_is false (root_storages (ideal program) program.roots) (possible_roots program (ideal program) settled (λ place. some_align program (ideal program) place (ideal_laid program settled)));
  names = refl;
  unions = refl;
  growths = (growths_there program (ideal program) settled (ideal_laid program settled)).1;
}

abbrev layouts_of : List Plane → Plane → FieldNames → Unions → List Growth → Layouts
layouts_of structures statics names unions growths = record { structures = structures; statics = statics; names = names; unions = unions; growths = growths }

same_layouts : (a b : Layouts) → a.structures ≡ b.structures → a.statics ≡ b.statics → a.names ≡ b.names → a.unions ≡ b.unions → a.growths ≡ b.growths → a ≡ b
same_layouts a b p q r u g =
    ap (λ (ps : List Plane). layouts_of ps a.statics a.names a.unions a.growths) p
    ∙ ap (λ (s : Plane). layouts_of b.structures s a.names a.unions a.growths) q
    ∙ ap (λ (n : FieldNames). layouts_of b.structures b.statics n a.unions a.growths) r
    ∙ ap (λ (t : Unions). layouts_of b.structures b.statics b.names t a.growths) u
    ∙ ap (λ (gs : List Growth). layouts_of b.structures b.statics b.names b.unions gs) g

only_layouts : (program : Program) (a b : Layouts) → Settled program → IsLaidOut program a → IsLaidOut program b → a ≡ b
only_layouts program a b settled is is' =
    let same = one_planes program a.structures b.structures settled is.structures is'.structures in
    let possible = λ (l : Layouts) (laid : AreLaidOut program l.structures). possible_roots program l.structures settled (λ place. some_align program l.structures place laid) in
    same_layouts a b same
    (plane_only false (root_storages a.structures program.roots) a.statics (possible a is.structures) is.statics
    ∙ ap (λ ps. plane_of false (root_storages ps program.roots)) same ∙ sym (plane_only false (root_storages b.structures program.roots) b.statics (possible b is'.structures) is'.statics))
    (is.names ∙ sym is'.names) (is.unions ∙ sym is'.unions)
    (only_growths program b.structures a.growths b.growths (subst (λ (ps : List Plane). AreGrowths program ps a.growths) same is.growths) is'.growths)

pub one_layout : (program : Program) → Settled program → HasOneLayout program
one_layout program settled = (ideal_layouts program settled, ideal_is program settled, λ other is. only_layouts program other (ideal_layouts program settled) settled is (ideal_is program settled))
