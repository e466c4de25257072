-- The static record is fixed by its bytes.
use Rattle.std.proofs.Common.{◌≡◌, ℕ, zero, suc, ◌+◌, ◌*◌, true, IsTrue, List, [], ◌∷◌, map, refl, ap, sym, subst, ◌∙◌, arith, Some}
use Rattle.std.specs.Prelude.{All, Contains, slice_get}
use Rattle.std.proofs.lemmas.List.Elements.{All-contains, All-contains_itself, All-map, All-weaker}
use Rattle.std.proofs.lemmas.Option.{slice_get_within, get_or_from_slice_get}
use Rattle.gt_types.specs.declared.types.Scalar.{Scalar}
use Rattle.gt_types.specs.declared.types.Ty.{Ty}
use Rattle.gt_types.specs.declared.types.Ty.TheVariants as ty
use Rattle.gt_types.specs.declared.types.Ty.TheVariants.{outs-Bits}
use Rattle.gt_types.specs.declared.program.Root.{Root}
use Rattle.gt_types.specs.declared.program.Program.{Program}
use Rattle.gt_types.specs.Shapes.{is_number, root_type_at, is_root_type}
use Rattle.gt_types.specs.Paths.{IsScalarRoot}
use Rattle.gt_types.specs.Settled.{Settled, IsRoot}
use Rattle.gt_layout.specs.declared.planes.Layouts.{Layouts}
use Rattle.gt_layout.specs.declared.planes.FieldSpot.{FieldSpot}
use Rattle.gt_layout.specs.Planes.{IsLaidOut}
use Rattle.gt_layout.specs.Places.{begin_at}
use Rattle.gt_tree.specs.Trees.{Tree, Trees, And, tree_at}
use Rattle.gt_tree.specs.Scopes.{Scope, outside, root_in, number_at, ◌then◌}
use Rattle.gt_tree.specs.Fits.{Fits, AllFit}
use Rattle.gt_tree.specs.FixedLaws.{bit_in, RecordIsFixed}
use Rattle.gt_tree.proofs.Placed.{record-placed}
use Rattle.gt_tree.proofs.PathParts.{get-map}
use Rattle.gt_tree.proofs.PathScopes.{reading-same}
use Rattle.gt_tree.proofs.FixedBits.{leaves-read}
use Rattle.gt_tree.proofs.FixedParts.{is-number, is-more}
use Rattle.gt_tree.proofs.FixedRead.{IsRead, FieldsRead, read-more, read-no_spots}
use Rattle.gt_tree.proofs.FixedSame.{Got}
use Rattle.gt_tree.proofs.FixedValues.{Given, Alike, same-num, fixed_fields}
use Rattle.gt_tree.proofs.FixedTwins.{Outside, given, assumed}

-- ---- roots that are numbers

pub number-root : (type : Ty) → IsTrue (is_number type) → IsTrue (is_root_type type) → (number : Scalar) × (type ≡ ty.Num number)
number-root (ty.Num number) h k = (number, refl)
number-root (ty.Bits unit width) h k = let none = ap root_type_at (outs-Bits unit width) in absurd (cc)
number-root type h k = absurd (cc)

module _ (g : Given) where
  same-first : {s t : Scope} (number : Scalar) (type : Ty) (v w : Tree) (at : ℕ) → type ≡ ty.Num number → Fits g.program g.blocks g.capacity s type v → Fits g.program g.blocks g.capacity t type w
      → IsRead g.program g.planes (Got g.address g.bits true) at type v → IsRead g.program g.planes (Got g.address g.bits true) at type w → v ≡ w
  same-first {s} {t} number type v w at e fits other read other_read =
      let found = is-number number v (subst (λ y. Fits g.program g.blocks g.capacity s y v) e fits) in
      let mine = subst (λ y. IsRead g.program g.planes (Got g.address g.bits true) at (ty.Num number) y) found.1 (subst (λ y. IsRead g.program g.planes (Got g.address g.bits true) at y v) e read) in
      let theirs = subst (λ y. IsRead g.program g.planes (Got g.address g.bits true) at y w) e other_read in
      found.1 ∙ same-num g number found.0 w true at found.2 (subst (λ y. Fits g.program g.blocks g.capacity t y w) e other) mine theirs

  same-at : {s : Scope} {types : List Ty} {vs : Trees} → AllFit g.program g.blocks g.capacity s types vs → (t : Scope) (ws : Trees) (at : ℕ) (spots : List FieldSpot) (i : ℕ) (number : Scalar)
      → slice_get types i ≡ Some (ty.Num number) → AllFit g.program g.blocks g.capacity t types ws → FieldsRead g.program g.planes (Got g.address g.bits true) at types spots vs
      → FieldsRead g.program g.planes (Got g.address g.bits true) at types spots ws → tree_at vs i ≡ tree_at ws i
  same-at AllFit.none t ws at spots i number e other read other_read = absurd (cc)
  same-at (AllFit.more {type} {types} {tree} {trees} fits all) t ws at [] i number e other read other_read = absurd (read-no_spots type types (And tree trees) read.0 read.1)
  same-at (AllFit.more {type} {types} {tree} {trees} fits all) t ws at (p ∷ ps) zero number e other read other_read =
      let found = is-more type types ws other in
      let theirs = subst (λ y. FieldsRead g.program g.planes (Got g.address g.bits true) at (type ∷ types) (p ∷ ps) y) found.2 other_read in
      let mine = read-more (Got g.address g.bits true) type types p ps tree trees read.0 read.1 read.2 in
      let their = read-more (Got g.address g.bits true) type types p ps found.0 found.1 theirs.0 theirs.1 theirs.2 in
      let is : type ≡ ty.Num number = cc in
      ap Some (same-first number type tree found.0 (at + begin_at p) is fits found.3 mine.0 their.0) ∙ ap (λ y. tree_at y zero) (sym found.2)
  same-at (AllFit.more {type} {types} {tree} {trees} fits all) t ws at (p ∷ ps) (suc i) number e other read other_read =
      let found = is-more type types ws other in
      let theirs = subst (λ y. FieldsRead g.program g.planes (Got g.address g.bits true) at (type ∷ types) (p ∷ ps) y) found.2 other_read in
      let mine = read-more (Got g.address g.bits true) type types p ps tree trees read.0 read.1 read.2 in
      let their = read-more (Got g.address g.bits true) type types p ps found.0 found.1 theirs.0 theirs.1 theirs.2 in
      same-at all t found.1 at ps i number e found.4 mine.1 their.1 ∙ ap (λ y. tree_at y (suc i)) (sym found.2)

-- ---- the record

Contains-get : {X : Type 0} (xs : List X) (i : ℕ) (x : X) → slice_get xs i ≡ Some x → Contains xs x
Contains-get xs i x e = (i, slice_get_within xs i x e, get_or_from_slice_get xs i x x e)

roots-alike : (program : Program) (layouts : Layouts) (g : Given) (a b : Trees)
    → All (λ type. Alike g (Outside program a b) (outside a) (outside b) type) (map (λ (r : Root). r.ty) program.roots)
roots-alike program layouts g a b =
    All-map (λ type. Alike g (Outside program a b) (outside a) (outside b) type) (λ (r : Root). r.ty) program.roots
    (All-weaker (Contains program.roots) (λ r. Alike g (Outside program a b) (outside a) (outside b) r.ty) (λ r c. Alike.at_start (Outside.of_root r c)) program.roots (All-contains_itself program.roots))

pub record-fixed : (program : Program) (layouts : Layouts) → Settled program → IsLaidOut program layouts → RecordIsFixed program layouts
record-fixed program layouts settled laid blocks address bytes a b addresses room v w =
    let read : FieldsRead program layouts.structures (Got address (bit_in bytes) true) 0 (map (λ (r : Root). r.ty) program.roots) layouts.statics.fields a =
    (v.leaves, v.have, leaves-read address 0 (8 * layouts.statics.size) v.leaves bytes (record-placed program layouts settled laid blocks a v.leaves v.fit v.have) (omega arith) v.stand) in
    let other_read : FieldsRead program layouts.structures (Got address (bit_in bytes) true) 0 (map (λ (r : Root). r.ty) program.roots) layouts.statics.fields b =
    (w.leaves, w.have, leaves-read address 0 (8 * layouts.statics.size) w.leaves bytes (record-placed program layouts settled laid blocks b w.leaves w.fit w.have) (omega arith) w.stand) in
    fixed_fields (given program layouts blocks 0 address (bit_in bytes)) (Outside program a b)
    (assumed program layouts blocks 0 address (bit_in bytes) settled a b (reading-same program layouts settled laid) (roots read other_read) addresses)
    v.fit (outside b) b true 0 layouts.statics.fields (roots-alike program layouts (given program layouts blocks 0 address (bit_in bytes)) a b) w.fit read other_read
  where
    roots : FieldsRead program layouts.structures (Got address (bit_in bytes) true) 0 (map (λ (r : Root). r.ty) program.roots) layouts.statics.fields a
        → FieldsRead program layouts.structures (Got address (bit_in bytes) true) 0 (map (λ (r : Root). r.ty) program.roots) layouts.statics.fields b
        → (i : ℕ) → IsScalarRoot program i → root_in (outside a) i ≡ root_in (outside b) i
    roots read other_read i (r, got, is) =
        let shape = (All-contains (IsRoot program) program.roots r settled.roots (Contains-get program.roots i r got)).shape in
        let number = number-root r.ty is shape in
        let there = get-map (λ (x : Root). x.ty) program.roots i r got ∙ ap Some number.1 in
        ap (λ o. o then number_at) (same-at (given program layouts blocks 0 address (bit_in bytes)) v.fit (outside b) b 0 layouts.statics.fields i number.0 there w.fit read other_read)
