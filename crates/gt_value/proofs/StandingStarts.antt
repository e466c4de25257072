-- Elements of blocks and the static record stand in the bytes of a space.
use Rattle.std.proofs.Common.{◌≡◌, ℕ, zero, suc, ◌+◌, ◌-◌, ◌*◌, ◌/◌, ◌%◌, ◌^◌, ◌<◌, ◌≤◌, Bool, true, IsTrue, List, [], ◌∷◌, length, map, take, drop, get_or, refl, ap, sym, subst, ◌∙◌, arith, length-take, length-drop, Some}
use Rattle.std.specs.Prelude.{All, Contains, ℤ, slice_get}
use Rattle.std.proofs.lemmas.List.{get_or-take}
use Rattle.std.proofs.lemmas.List.Elements.{All-contains, All-map, All-weaker, All-contains_itself}
use Rattle.std.proofs.lemmas.Option.{slice_get_within, get_or_from_slice_get}
use Rattle.gt_types.specs.declared.types.Scalar.{Scalar}
use Rattle.gt_types.specs.declared.types.Ty.{Ty}
use Rattle.gt_types.specs.declared.types.Ty.TheVariants as ty
use Rattle.gt_types.specs.declared.types.Ty.TheVariants.{outs-Num}
use Rattle.gt_types.specs.declared.program.Root.{Root}
use Rattle.gt_types.specs.declared.program.Program.{Program}
use Rattle.gt_types.specs.Shapes.{bits_of, dimensions, field_type_at}
use Rattle.gt_types.specs.Values.{within_i64}
use Rattle.gt_types.specs.Paths.{IsScalarRoot}
use Rattle.gt_types.specs.Settled.{Settled, IsRoot}
use Rattle.gt_layout.specs.declared.planes.Layouts.{Layouts}
use Rattle.gt_layout.specs.declared.planes.FieldSpot.{FieldSpot}
use Rattle.gt_layout.specs.Storages.{bytes_of, storage_of}
use Rattle.gt_layout.specs.Places.{begin_at}
use Rattle.gt_layout.specs.Planes.{IsLaidOut}
use Rattle.gt_layout.specs.Progress.{HoldsWithinDepth}
use Rattle.gt_space.specs.Range.{Range, IsInside, bytes_at}
use Rattle.gt_tree.specs.Trees.{Tree, Num, Trees, And, tree_at}
use Rattle.gt_tree.specs.Numbers.{is_signed, has_room}
use Rattle.gt_tree.specs.Blocks.{Blocks, element_type}
use Rattle.gt_tree.specs.Scopes.{Scope, outside, root_in, number_at, ◌then◌}
use Rattle.gt_tree.specs.Fits.{AllFit}
use Rattle.gt_tree.specs.Leaves.{Leaf, leaf, Number, LiesBetween, bit_of}
use Rattle.gt_tree.specs.LeafLaws.{IsWidth, IsTypeIn}
use Rattle.gt_tree.specs.FixedLaws.{IsHeldAt, AreAddresses, bit_in}
use Rattle.gt_tree.proofs.Types.{Plain-root, bits_in}
use Rattle.gt_tree.proofs.Rooms.{Room, Laid-follow, room-plain}
use Rattle.gt_tree.proofs.Placed.{record-placed}
use Rattle.gt_tree.proofs.Known.{known, room-width, value-placed}
use Rattle.gt_tree.proofs.PathParts.{get-map}
use Rattle.gt_tree.proofs.FixedBits.{leaves-read}
use Rattle.gt_tree.proofs.FixedParts.{is-number}
use Rattle.gt_tree.proofs.FixedRead.{IsRead, FieldsRead, read-number, read-more, read-no_spots}
use Rattle.gt_tree.proofs.FixedSame.{Got}
use Rattle.gt_tree.proofs.FixedValues.{Alike}
use Rattle.gt_tree.proofs.FixedTwins.{given}
use Rattle.gt_tree.proofs.FixedRecord.{number-root}
use Rattle.gt_value.specs.declared.sources.Source.{Source}
use Rattle.gt_value.specs.Bytes.{itself, IsRoomFor, StandsFor, StandForStatics}
use Rattle.gt_value.specs.Reading.{Begins, in_block, in_statics, Context, Stands, FieldsStand, outside_all, place, number_in, root_worth, bits_from, end_from}
use Rattle.gt_value.specs.Finding.{StandsIn, RootsStand}
use Rattle.gt_value.proofs.ZeroSteps.{root-flat}
use Rattle.gt_value.proofs.ZeroValues.{element-held, root-held}
use Rattle.gt_value.proofs.PathWorths.{number-read}
use Rattle.gt_value.proofs.Refit.{refit-block}

-- ---- the bytes of a value, among those of its space

-- a leaf is held, and lies between the begin and an end
abbrev HeldIn : (ℕ → Bool) → ℕ → Leaf → Type 0
HeldIn bits end l = IsHeldAt itself bits l × LiesBetween 0 end l

window-bit : (bytes : List ℕ) (from size i : ℕ) → i < 8 * size → bit_in (drop from bytes) i ≡ bit_in (take size (drop from bytes)) i
window-bit bytes from size i lt = ap (λ b. bit_of b (i % 8)) (sym (get_or-take size (drop from bytes) (i / 8) 0 (omega arith)))

window-held : (bytes : List ℕ) (from size : ℕ) (leaves : List Leaf) → All (IsHeldAt itself (bit_in (take size (drop from bytes)))) leaves → All (LiesBetween 0 (8 * size)) leaves
    → All (HeldIn (bit_in (drop from bytes)) (8 * size)) leaves
window-held bytes from size leaves held inside k d within =
    let lies = inside k d within in
    (λ i lt. window-bit bytes from size _ (omega (arith, lies.1, lt)) ∙ held k d within i lt, lies)

weak-held : (bits : ℕ → Bool) (end : ℕ) (leaves : List Leaf) → All (HeldIn bits end) leaves → All (Got itself bits true) leaves
weak-held bits end leaves held = All-weaker (HeldIn bits end) (Got itself bits true) (λ l h. h.0) leaves held

window-long : (range : Range) (addr size : ℕ) → IsInside range addr size → 8 * size ≤ 8 * length (bytes_at range addr size)
window-long range addr size inside =
    let from = addr - range.start in
    let t = length-take size (drop from range.bytes) in
    let d = length-drop from range.bytes in
    omega (arith, t, d, inside.from_start, inside.to_end)

window-end : (range : Range) (addr from size : ℕ) → from ≡ addr - range.start → IsInside range addr size → 0 + 8 * size ≤ end_from range from
window-end range addr from size e inside = let d = length-drop from range.bytes in omega (arith, d, e, inside.from_start, inside.to_end)

-- ---- elements of blocks

-- an element of a block stands beside any static record
abbrev stands-beside : (program : Program) (layouts : Layouts) (capacity : ℕ) (type : Ty) (range : Range) (addr : ℕ) (value : Tree) → Settled program → StandsFor program layouts capacity type range addr value → Trees
    → StandsFor program layouts capacity type range addr value
stands-beside program layouts capacity type range addr value settled s statics = record {
  kind = s.kind;
  held = s.held;
  of_kind = s.of_kind;
  size = s.size;
  takes = s.takes;
  blocks = s.blocks;
  statics = statics;
  addresses = s.addresses;
  is = record { leaves = s.is.leaves; fits = refit-block program settled s.blocks capacity s.kind s.statics statics value s.is.fits; has = s.is.has; stand = s.is.stand };
}

module _ (source : Source) (settled : Settled source.program.now) (laid : IsLaidOut source.program.now source.layouts.now) (small : end_from source.space.now source.from < 2 ^ 32) where
  outside-context : (blocks : Blocks) → AreAddresses blocks itself → (capacity : ℕ) → capacity < 2 ^ 32 → (statics : Trees) → Context source outside_all
  outside-context blocks addresses capacity few statics = record {
    settled = settled;
    laid = laid;
    blocks = blocks;
    addresses = addresses;
    capacity = capacity;
    few = few;
    small = small;
    statics = statics;
    scope = outside statics;
    here = tt;
    outer = tt;
    outermost = tt;
  }

  block-stands : (capacity : ℕ) (type : Ty) (addr : ℕ) (value : Tree) → capacity < 2 ^ 32 → source.from ≡ addr - source.space.now.start
      → IsRoomFor source.program.now source.layouts.now capacity type source.space.now addr → (s : StandsFor source.program.now source.layouts.now capacity type source.space.now addr value)
      → StandsIn source outside_all (outside s.statics) type 0 value
  unfolding outside-context
  block-stands capacity type addr value few from room s =
      let program = source.program.now in
      let planes = source.layouts.now.structures in
      let range = source.space.now in
      let at_kind = element_type program s.kind in
      let takes : IsWidth program planes capacity at_kind (8 * s.size) = subst (λ t. IsWidth program planes capacity t (8 * s.size)) s.of_kind s.takes in
      let inside = room s.size s.takes in
      let in_program : IsTypeIn program at_kind = IsTypeIn.of_block s.kind in
      let placed = value-placed program source.layouts.now settled laid s.blocks capacity (outside s.statics) at_kind (8 * s.size) 0 value s.is.leaves in_program takes s.is.fits s.is.has in
      let held = leaves-read itself 0 (0 + 8 * s.size) s.is.leaves (bytes_at range addr s.size) placed (omega (arith, window-long range addr s.size inside)) s.is.stand in
      let lies : All (LiesBetween 0 (8 * s.size)) s.is.leaves = All-weaker (LiesBetween 0 (0 + 8 * s.size)) (LiesBetween 0 (8 * s.size)) (λ l h. (h.0, omega (arith, h.1))) s.is.leaves placed.inside in
      let got = weak-held (bit_in (drop (addr - range.start) range.bytes)) (8 * s.size) s.is.leaves (window-held range.bytes (addr - range.start) s.size s.is.leaves held lies) in
      subst (λ t. StandsIn source outside_all (outside s.statics) t 0 value) (sym s.of_kind) (
        (record {
          context = outside-context s.blocks s.addresses capacity few s.statics;
          typed = Alike.at_start (in_block s.kind s.held);
          fits = s.is.fits;
          read = (s.is.leaves, s.is.has, subst (λ k. All (Got itself (bits_from range k) true) s.is.leaves) (sym from) got);
          width = 8 * s.size;
          room = room-width program planes capacity at_kind (8 * s.size) (known program settled in_program) takes;
          inside = window-end range addr source.from s.size from inside;
        }),
        refl,
      )

  -- ---- the static record

  record RootNumber (number : Scalar) (values : Trees) (spots : List FieldSpot) (i at : ℕ) (held : Leaf → Type 0) : Type 0 where
    n : ℤ
    spot : FieldSpot
    there : tree_at values i ≡ Some (Num n)
    room : IsTrue (has_room (is_signed number) (bits_of number) n)
    spot_of : slice_get spots i ≡ Some spot
    got : held (leaf (at + begin_at spot) (8 * bytes_of number) (Number n))

  root-number : {blocks : Blocks} {scope : Scope} {types : List Ty} {values : Trees} → AllFit source.program.now blocks 0 scope types values → (held : Leaf → Type 0) (spots : List FieldSpot) (i at : ℕ) (number : Scalar)
      → slice_get types i ≡ Some (ty.Num number) → FieldsRead source.program.now source.layouts.now.structures held at types spots values → RootNumber number values spots i at held
  root-number AllFit.none held spots i at number e read = absurd (cc)
  root-number (AllFit.more {type} {types} {tree} {trees} fits all) held [] i at number e read = absurd (read-no_spots type types (And tree trees) read.0 read.1)
  root-number {blocks} {scope} (AllFit.more {type} {types} {tree} {trees} fits all) held (p ∷ ps) zero at number e read =
      let parts = read-more held type types p ps tree trees read.0 read.1 read.2 in
      let is : type ≡ ty.Num number = cc in
      let found = is-number number tree (subst (λ t. Rattle.gt_tree.specs.Fits.Fits source.program.now blocks 0 scope t tree) is fits) in
      let mine = subst (λ v. IsRead source.program.now source.layouts.now.structures held (at + begin_at p) (ty.Num number) v) found.1 (subst (λ t. IsRead source.program.now source.layouts.now.structures held (at + begin_at p) t tree) is parts.0) in
      record { n = found.0; spot = p; there = ap Some found.1; room = found.2; spot_of = refl; got = read-number held number found.0 mine.0 mine.1 mine.2 }
  root-number (AllFit.more {type} {types} {tree} {trees} fits all) held (p ∷ ps) (suc i) at number e read =
      let parts = read-more held type types p ps tree trees read.0 read.1 read.2 in
      let found = root-number all held ps i at number e parts.1 in
      record { n = found.n; spot = found.spot; there = found.there; room = found.room; spot_of = found.spot_of; got = found.got }

  -- a root that is a number is worth that
  root-is : (blocks : Blocks) (values : Trees) → source.from ≡ 0 → AllFit source.program.now blocks 0 (outside values) (map (λ (r : Root). r.ty) source.program.now.roots) values
      → FieldsRead source.program.now source.layouts.now.structures (HeldIn (bits_from source.space.now 0) (end_from source.space.now 0)) 0 (map (λ (r : Root). r.ty) source.program.now.roots) source.layouts.now.statics.fields values
      → (i : ℕ) → IsScalarRoot source.program.now i → root_worth source i ≡ root_in (outside values) i
  root-is blocks values from fit read i (r, got, is) =
      let range = source.space.now in
      let contains : Contains source.program.now.roots r = (i, slice_get_within source.program.now.roots i r got, get_or_from_slice_get source.program.now.roots i r r got) in
      let shape = (All-contains (IsRoot source.program.now) source.program.now.roots r settled.roots contains).shape in
      let number = number-root r.ty is shape in
      let typed = get-map (λ (x : Root). x.ty) source.program.now.roots i r got ∙ ap Some number.1 in
      let found = root-number fit (HeldIn (bits_from range 0) (end_from range 0)) source.layouts.now.statics.fields i 0 number.0 typed read in
      let at = 0 + begin_at found.spot in
      let same : at ≡ begin_at found.spot = omega arith in
      let held = subst (λ k. HeldIn (bits_from range 0) (end_from range 0) (leaf k (8 * bytes_of number.0) (Number found.n))) same found.got in
      let field = ap field_type_at (outs-Num number.0) in
      let le : begin_at found.spot + 8 * bytes_of number.0 ≤ end_from range source.from = subst (λ k. begin_at found.spot + 8 * bytes_of number.0 ≤ end_from range k) (sym from) held.1.1 in
      let bits = subst (λ k. Got itself (bits_from range k) true (leaf (begin_at found.spot) (8 * bytes_of number.0) (Number found.n))) (sym from) held.0 in
      let value = number-read source true (ty.Num number.0) (begin_at found.spot) found.n field found.room le bits in
      ap (λ o. o then λ x. slice_get source.layouts.now.statics.fields i then λ spot. number_in range 0 (place x.ty (begin_at spot)) then within_i64) got
      ∙ ap (λ o. o then λ spot. number_in range 0 (place r.ty (begin_at spot)) then within_i64) found.spot_of
      ∙ ap (λ t. number_in range 0 (place t (begin_at found.spot)) then within_i64) number.1
      ∙ ap (λ k. number_in range k (place (ty.Num number.0) (begin_at found.spot)) then within_i64) (sym from)
      ∙ ap (λ o. o then within_i64) value
      ∙ ap (λ o. o then number_at) (sym found.there)

  pub statics-stand : (values : Trees) → source.from ≡ 0 → IsInside source.space.now source.space.now.start source.layouts.now.statics.size
      → StandForStatics source.program.now source.layouts.now source.space.now values
      → FieldsStand source outside_all (map (λ (r : Root). r.ty) source.program.now.roots) source.layouts.now.statics.fields 0 values
  unfolding outside-context
  statics-stand values from inside s =
      let program = source.program.now in
      let planes = source.layouts.now.structures in
      let range = source.space.now in
      let size = source.layouts.now.statics.size in
      let types = map (λ (r : Root). r.ty) program.roots in
      let start : range.start - range.start ≡ 0 = omega arith in
      let placed = record-placed program source.layouts.now settled laid s.blocks values s.are.leaves s.are.fit s.are.have in
      let held = leaves-read itself 0 (8 * size) s.are.leaves (bytes_at range range.start size) placed (window-long range range.start size inside) s.are.stand in
      let whole = window-held range.bytes (range.start - range.start) size s.are.leaves held placed.inside in
      let there : 8 * size ≤ end_from range 0 = omega (arith, window-end range range.start 0 size (sym start) inside) in
      let at_zero = subst (λ k. All (HeldIn (bits_from range k) (8 * size)) s.are.leaves) start whole in
      let wide = All-weaker (HeldIn (bits_from range 0) (8 * size)) (HeldIn (bits_from range 0) (end_from range 0)) (λ l h. (h.0, (h.1.0, omega (arith, h.1.1, there)))) s.are.leaves at_zero in
      let roots = root-is s.blocks values from s.are.fit (s.are.leaves, s.are.have, wide) in
      let each : All (λ (r : Root). Room program planes 0 r.ty (bits_in (storage_of planes r.ty))) program.roots =
      All-weaker (IsRoot program) (λ (r : Root). Room program planes 0 r.ty (bits_in (storage_of planes r.ty)))
      (λ r h. room-plain program planes 0 r.ty (Plain-root program r.ty h.shape (λ n held t. (h.whole n held).1 t))) program.roots settled.roots in
      record {
        context = outside-context s.blocks s.addresses 0 (omega arith) values;
        typed =
            All-map (λ type. Alike (given program source.layouts.now s.blocks 0 itself (bits_from range source.from)) (Begins source values) (outside values) (outside values) type) (λ (r : Root). r.ty) program.roots
            (All-weaker (Contains program.roots) (λ (r : Root). Alike (given program source.layouts.now s.blocks 0 itself (bits_from range source.from)) (Begins source values) (outside values) (outside values) r.ty)
            (λ r c. Alike.at_start (in_statics r c roots)) program.roots (All-contains_itself program.roots));
        fit = s.are.fit;
        read = (s.are.leaves, s.are.have, subst (λ k. All (Got itself (bits_from range k) true) s.are.leaves) (sym from) (weak-held (bits_from range 0) (8 * size) s.are.leaves at_zero));
        from = 0;
        width = 8 * size;
        laid = Laid-follow (λ (r : Root). r.ty) program.roots source.layouts.now.statics.fields 0 (8 * size) laid.statics.places laid.statics.size.room.inside (omega arith) each;
        inside = subst (λ k. 0 + 8 * size ≤ end_from range k) (sym from) (omega (arith, there));
      }

  statics-scope : (values : Trees) (from : source.from ≡ 0) (inside : IsInside source.space.now source.space.now.start source.layouts.now.statics.size)
      (s : StandForStatics source.program.now source.layouts.now source.space.now values) → (statics-stand values from inside s).context.scope ≡ outside values
  unfolding outside-context statics-stand
  statics-scope values from inside s = refl

-- ---- as the code has them

-- a source by the parts of which it was made
module _ (source : Source) (program : Program) (layouts : Layouts) (range : Range) (p : source.program.now ≡ program) (l : source.layouts.now ≡ layouts) (s : source.space.now ≡ range)
    (settled : Settled program) (laid : IsLaidOut program layouts) (small : end_from source.space.now source.from < 2 ^ 32) where
  turn : (F : Program → Layouts → Range → Type 0) → F program layouts range → F source.program.now source.layouts.now source.space.now
  turn F h =
      subst (λ x. F x source.layouts.now source.space.now) (sym p) (subst (λ x. F program x source.space.now) (sym l) (subst (λ x. F program layouts x) (sym s) h))

  pub block-starts_in : (capacity : ℕ) (type : Ty) (addr : ℕ) (value : Tree) (statics : Trees) → capacity < 2 ^ 32 → source.from ≡ addr - range.start → IsRoomFor program layouts capacity type range addr
      → StandsFor program layouts capacity type range addr value → StandsIn source outside_all (outside statics) type 0 value
  block-starts_in capacity type addr value statics few from room stands =
      block-stands source (turn (λ a b c. Settled a) settled) (turn (λ a b c. IsLaidOut a b) laid) small capacity type addr value few (from ∙ ap (λ r. addr - r.start) (sym s))
      (turn (λ a b c. IsRoomFor a b capacity type c addr) room) (stands-beside source.program.now source.layouts.now capacity type source.space.now addr value (turn (λ a b c. Settled a) settled) (turn (λ a b c. StandsFor a b capacity type c addr value) stands) statics)

  pub block-starts : (capacity : ℕ) (type : Ty) (addr : ℕ) (value : Tree) → capacity < 2 ^ 32 → source.from ≡ addr - range.start → IsRoomFor program layouts capacity type range addr
      → StandsFor program layouts capacity type range addr value → Stands source outside_all type 0 value
  block-starts capacity type addr value few from room stands = (block-starts_in capacity type addr value stands.statics few from room stands).0

  pub element-shallow : (capacity : ℕ) (type : Ty) (addr : ℕ) (value : Tree) → StandsFor program layouts capacity type range addr value → HoldsWithinDepth source.program.now type 33
  element-shallow capacity type addr value stands = turn (λ a b c. HoldsWithinDepth a type 33) (element-held program settled type (stands.kind, stands.held, stands.of_kind))

  pub statics-start : (values : Trees) (roots : List Root) (spots : List FieldSpot) → roots ≡ program.roots → spots ≡ layouts.statics.fields → source.from ≡ range.start - range.start
      → IsInside range range.start layouts.statics.size → StandForStatics program layouts range values → FieldsStand source outside_all (map (λ (r : Root). r.ty) roots) spots 0 values
  statics-start values roots spots items places from inside stand =
      let here = statics-stand source (turn (λ a b c. Settled a) settled) (turn (λ a b c. IsLaidOut a b) laid) small values (omega (arith, from))
      (turn (λ a b c. IsInside c c.start b.statics.size) inside) (turn (λ a b c. StandForStatics a b c values) stand) in
      subst (λ x. FieldsStand source outside_all (map (λ (r : Root). r.ty) x) spots 0 values) (ap (λ x. x.roots) p ∙ sym items)
      (subst (λ x. FieldsStand source outside_all (map (λ (r : Root). r.ty) source.program.now.roots) x 0 values) (ap (λ x. x.statics.fields) l ∙ sym places) here)

  pub roots-start : (values : Trees) → source.from ≡ range.start - range.start → IsInside range range.start layouts.statics.size → StandForStatics program layouts range values → RootsStand source values
  roots-start values from inside stand =
      let program_settled = turn (λ a b c. Settled a) settled in
      let program_laid = turn (λ a b c. IsLaidOut a b) laid in
      let none : source.from ≡ 0 = omega (arith, from) in
      let room = turn (λ a b c. IsInside c c.start b.statics.size) inside in
      let here = turn (λ a b c. StandForStatics a b c values) stand in
      (statics-stand source program_settled program_laid small values none room here, statics-scope source program_settled program_laid small values none room here)

  roots-are : (roots : List Root) → roots ≡ program.roots → (k : ℕ) (d : Root) → k < length roots → IsRoot program (get_or roots k d)
  roots-are roots items k d within = subst (All (IsRoot program)) (sym items) settled.roots k d within

  pub roots-shallow : (roots : List Root) → roots ≡ program.roots → All (λ (r : Root). HoldsWithinDepth source.program.now r.ty 33) roots
  roots-shallow roots items k d within =
      turn (λ a b c. HoldsWithinDepth a (get_or roots k d).ty 33) (root-held program settled (get_or roots k d) (roots-are roots items k d within))

  pub roots-flat : (roots : List Root) → roots ≡ program.roots → All (λ (r : Root). dimensions r.ty ≤ 4) roots
  roots-flat roots items k d within = root-flat (get_or roots k d).ty (roots-are roots items k d within).shape
