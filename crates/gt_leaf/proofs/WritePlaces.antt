-- What the write of a leaf at its place makes of an element, and of the static record.
use Rattle.std.proofs.Common.{◌≡◌, ℕ, Bool, true, IsTrue, List, ap, sym, subst, ◌∙◌, ◌⊎◌, inl, inr, Option, Some, None}
use Rattle.std.specs.Prelude.{◌↔◌}
use Rattle.gt_types.specs.declared.types.Ty.{Ty}
use Rattle.gt_types.specs.declared.program.Program.{Program}
use Rattle.gt_types.specs.Settled.{Settled}
use Rattle.gt_layout.specs.declared.planes.Layouts.{Layouts}
use Rattle.gt_layout.specs.declared.planes.Plane.{Plane}
use Rattle.gt_layout.specs.Planes.{IsLaidOut}
use Rattle.gt_space.specs.Range.{Range, IsInside, bytes_at}
use Rattle.gt_tree.specs.Trees.{Tree, Rec, Trees, is_leaf, is_word, with_part, with_part_of, without_pointers}
use Rattle.gt_tree.specs.Blocks.{Blocks, element_type}
use Rattle.gt_tree.specs.Scopes.{Scope, outside, eval_in}
use Rattle.gt_tree.specs.Reshapes.{LeadsToLeaf, Assigns}
use Rattle.gt_tree.specs.FixedLaws.{AreAddresses, AreStaticsOf}
use Rattle.gt_value.specs.declared.places.Holder.{Holder}
use Rattle.gt_value.specs.declared.places.Holder.TheVariants as lies_in
use Rattle.gt_value.specs.declared.places.LeafContent.{LeafContent}
use Rattle.gt_value.specs.declared.places.Place.{Place}
use Rattle.gt_value.specs.Bytes.{itself, Takes, IsRoomFor, StandsFor, StandForStatics}
use Rattle.gt_value.specs.Places.{Part, PartLies, IsPlaceOf, IsPlaceOfPart, IsStaticPlaceOf, content_at}
use Rattle.gt_store.specs.Leaf.{IsNewLeaf, IsLeafWritten}
use Rattle.gt_store.proofs.LeafStored.{leaf-stored, static-leaf-stored}
use Rattle.gt_fit.proofs.Selves.{in-place, all-in-place}
use Rattle.gt_leaf.specs.HeldTypes.{IsOfPart, held_type}
use Rattle.gt_leaf.specs.Unread.{Around, structures_on, structures_in_statics, IsUnread, MayReplace}
use Rattle.gt_leaf.specs.Verdicts.{IsFit}
use Rattle.gt_leaf.specs.Writing.{StandsBeside, StaticsStandBeside, MayLie, MayPut, MayPutStatic, IsWrittenInPlace, IsStaticWrittenInPlace}
use Rattle.gt_leaf.proofs.LeafTrees.{LeafTree, leaf-tree, content-leaf, content-word, may-be}
use Rattle.gt_leaf.proofs.LeafTypes.{type-there, root-type-there}
use Rattle.gt_leaf.proofs.UnreadLaws.{unread-elements, unread-statics}

-- ---- values that stand beside given blocks stand

pub stands-for : {program : Program} {layouts : Layouts} {blocks : Blocks} {statics : Trees} {capacity : ℕ} {type : Ty} {range : Range} {address : ℕ} {value : Tree}
    → StandsBeside program layouts blocks statics capacity type range address value → StandsFor program layouts capacity type range address value
stands-for {blocks} {statics} s = record { kind = s.kind; held = s.held; of_kind = s.of_kind; size = s.size; takes = s.takes; blocks = blocks; statics = statics; addresses = s.addresses; is = s.is }

pub statics-stand : {program : Program} {layouts : Layouts} {blocks : Blocks} {range : Range} {values : Trees} → StaticsStandBeside program layouts blocks range values → StandForStatics program layouts range values
statics-stand {blocks} s = record { blocks = blocks; addresses = s.addresses; are = s.are }

-- ---- the part at a place

of-part : {program : Program} {range : Range} {address : ℕ} {p : Part} {place : Place} (type : Option Ty) → IsPlaceOfPart program range address p place → type ≡ Some p.type → IsOfPart program p place type
of-part type at e = record { active_is = at.active_is; kind_is = at.kind_is; holder_is = at.holder_is; length_is = at.length_is; type_is = e }

-- what is said of a leaf by its place holds of the part there
pub part-unread : {program : Program} {range : Range} {address : ℕ} {p : Part} {place : Place} (around : Around) (b : Bool) → IsPlaceOfPart program range address p place
    → IsTrue b ↔ IsUnread program around place.active place.holder → IsTrue b ↔ IsUnread program around p.active p.holder
part-unread {program} {p} {place} around b at said =
    subst (λ h. IsTrue b ↔ IsUnread program around p.active h) at.holder_is (subst (λ a. IsTrue b ↔ IsUnread program around a place.holder) at.active_is said)

pub place-part : (program : Program) (layouts : Layouts) (scope : Scope) (type : Ty) (range : Range) (address : ℕ) (value : Tree) (path : List ℕ) (place : Place) (known : Option Ty) → known ≡ held_type program (Some type) place.holder
    → (at : IsPlaceOf program layouts.structures scope lies_in.Element type range address value path place) → IsOfPart program at.p place known
place-part program layouts scope type range address value path place known same at =
    of-part known at.is (same ∙ ap (held_type program (Some type)) at.is.holder_is ∙ type-there program at.lies place.kind at.is.kind_is)

pub static-place-part : (program : Program) (layouts : Layouts) (range : Range) (values : Trees) (path : List ℕ) (place : Place) (known : Option Ty) → known ≡ held_type program None place.holder
    → (at : IsStaticPlaceOf program layouts range values path place) → IsOfPart program at.p place known
static-place-part program layouts range values path place known same at =
    of-part known at.is (same ∙ ap (held_type program None) at.is.holder_is ∙ root-type-there program at.lies place.kind at.is.kind_is)

-- a path leads to the leaf at its place
pub place-leads : {program : Program} {planes : List Plane} {scope : Scope} {holder : Holder} {type : Ty} {range : Range} {address : ℕ} {value : Tree} {path : List ℕ} {place : Place}
    → IsPlaceOf program planes scope holder type range address value path place → LeadsToLeaf value path
place-leads {range} {place} at = (at.p.tree, at.there, content-word (content_at range place) at.p.tree at.is.holds)

pub static-leads : {program : Program} {layouts : Layouts} {range : Range} {values : Trees} {path : List ℕ} {place : Place} → IsStaticPlaceOf program layouts range values path place → LeadsToLeaf (Rec values) path
static-leads {range} {place} at = (at.p.tree, at.there, content-word (content_at range place) at.p.tree at.is.holds)

-- ---- the leaf that is written

module _ {program : Program} {blocks : Blocks} {around : Around} {range : Range} {address : ℕ} (p : Part) (place : Place) (leaf : LeafContent) (capacity : ℕ)
    (at : IsPlaceOfPart program range address p place) (fit : IsFit program blocks around p leaf) where
  pub may-lie : MayLie program blocks p leaf
  may-lie = record { active = fit.alone.active; fits = fit.fits }

  pub tree-of : LeafTree program blocks capacity p.scope p.type leaf
  tree-of = leaf-tree p.type leaf fit.fits

  pub old-word : IsTrue (is_word p.tree)
  old-word = content-word (content_at range place) p.tree at.holds

  pub old-leaf : IsTrue (is_leaf p.tree)
  old-leaf = content-leaf (content_at range place) p.tree at.holds

  bare : (p.active ≡ true) ⊎ (without_pointers tree-of.tree ≡ tree-of.tree)
  bare = elim fit.alone.active [ inl active ↦ inl active | inr number ↦ inr (tree-of.bare number) ]

  pub replaces : MayReplace p tree-of.tree
  replaces = (old-leaf, tree-of.is_leaf, bare)

  pub new-leaf : AreAddresses blocks itself → IsNewLeaf p place leaf tree-of.tree
  new-leaf addresses = record { may = may-be p.type place.kind leaf blocks (eval_in program p.scope) addresses at.kind_is fit.fits; means = tree-of.means; active = bare }

module _ (program : Program) (layouts : Layouts) (settled : Settled program) (laid : IsLaidOut program layouts) where
  -- ---- elements

  pub written-in-place : (blocks : Blocks) (statics : Trees) (capacity : ℕ) (type : Ty) (address : ℕ) (value : Tree) (path : List ℕ) (leaf : LeafContent) (old new : Range) (place : Place) → IsRoomFor program layouts capacity type old address
      → StandsBeside program layouts blocks statics capacity type old address value
      → (at : IsPlaceOf program layouts.structures (outside statics) lies_in.Element type old address value path place) → IsFit program blocks (structures_on program (Some type) path) at.p leaf → IsLeafWritten place leaf old new
      → IsWrittenInPlace program layouts blocks statics capacity type address value path leaf old new
  written-in-place blocks statics capacity type address value path leaf old new place room s at fit written =
      let tree = tree-of at.p place leaf capacity at.is fit in
      let fresh = new-leaf at.p place leaf capacity at.is fit s.addresses in
      let fits = unread-elements program layouts.structures settled blocks statics s.kind capacity value tree.tree path at.p s.held s.is.fits (subst (λ t. PartLies program layouts.structures (outside statics) lies_in.Element true 0 t value path at.p) s.of_kind at.lies)
      (subst (λ t. IsUnread program (structures_on program (Some t) path) at.p.active at.p.holder) s.of_kind fit.alone.unread) (replaces at.p place leaf capacity at.is fit) tree.fits in
      let stored = leaf-stored program layouts settled laid blocks statics s.kind capacity s.size address old new value tree.tree path at.p place leaf s.held
      (subst (λ t. Takes program layouts capacity t s.size) s.of_kind s.takes) (room s.size s.takes) s.is
      (subst (λ t. PartLies program layouts.structures (outside statics) lies_in.Element true 0 t value path at.p) s.of_kind at.lies) at.is fresh fits written in
      record {
        place = place;
        at = at;
        may = may-lie at.p place leaf capacity at.is fit;
        tree = tree.tree;
        means = tree.means;
        assigns = subst (λ t. Assigns program blocks statics capacity t value path tree.tree (with_part value path tree.tree)) (sym s.of_kind)
            (in-place program blocks statics capacity (element_type program s.kind) value path tree.tree (at.p.tree, at.there, old-word at.p place leaf capacity at.is fit) (content-word leaf tree.tree tree.means) fits);
        stands = record { kind = s.kind; held = s.held; of_kind = s.of_kind; size = s.size; takes = s.takes; addresses = s.addresses; is = stored.0 };
        written = written;
        same = stored.1;
      }

  -- so it may be put there
  pub may-put : (blocks : Blocks) (statics : Trees) (capacity : ℕ) (type : Ty) (address : ℕ) (value : Tree) (path : List ℕ) (leaf : LeafContent) (range : Range) (place : Place) → IsRoomFor program layouts capacity type range address
      → StandsBeside program layouts blocks statics capacity type range address value
      → (at : IsPlaceOf program layouts.structures (outside statics) lies_in.Element type range address value path place) → IsFit program blocks (structures_on program (Some type) path) at.p leaf
      → MayPut program layouts blocks statics capacity type address value path leaf range place
  may-put blocks statics capacity type address value path leaf range place room s at fit = record {
    at = at;
    may = may-lie at.p place leaf capacity at.is fit;
    holds = may-be at.p.type place.kind leaf blocks (eval_in program at.p.scope) s.addresses at.is.kind_is fit.fits;
    writes = λ new written. written-in-place blocks statics capacity type address value path leaf range new place room s at fit written;
  }

  -- ---- the static record

  pub static-written-in-place : (blocks : Blocks) (values : Trees) (path : List ℕ) (leaf : LeafContent) (old new : Range) (place : Place) → IsInside old old.start layouts.statics.size
      → StaticsStandBeside program layouts blocks old values → (at : IsStaticPlaceOf program layouts old values path place) → IsFit program blocks (structures_in_statics program path) at.p leaf → IsLeafWritten place leaf old new
      → IsStaticWrittenInPlace program layouts blocks values path leaf old new
  static-written-in-place blocks values path leaf old new place inside s at fit written =
      let tree = tree-of at.p place leaf 0 at.is fit in
      let fresh = new-leaf at.p place leaf 0 at.is fit s.addresses in
      let others = with_part_of values at.lies.i at.lies.rest tree.tree in
      let replaced : with_part (Rec values) path tree.tree ≡ Rec others = ap (λ w. with_part (Rec values) w tree.tree) at.lies.path_is in
      let fits = unread-statics program layouts.structures layouts.statics.fields settled blocks values others tree.tree path at.p s.are.fit at.lies fit.alone.unread (replaces at.p place leaf 0 at.is fit) tree.fits replaced in
      let stored = static-leaf-stored program layouts settled laid blocks old new values others tree.tree path at.p place leaf inside s.are at.lies at.is fresh replaced fits written in
      record {
        place = place;
        at = at;
        may = may-lie at.p place leaf 0 at.is fit;
        tree = tree.tree;
        means = tree.means;
        others = others;
        replaced = replaced;
        assigns = all-in-place program blocks values others path tree.tree (at.p.tree, at.there, old-word at.p place leaf 0 at.is fit) (content-word leaf tree.tree tree.means) replaced fits;
        stand = record { addresses = s.addresses; are = subst (λ a. AreStaticsOf program layouts blocks itself (bytes_at new a layouts.statics.size) others) (sym written.addresses.start) stored.0 };
        written = written;
        same = stored.1;
      }

  pub may-put-static : (blocks : Blocks) (values : Trees) (path : List ℕ) (leaf : LeafContent) (range : Range) (place : Place) → IsInside range range.start layouts.statics.size → StaticsStandBeside program layouts blocks range values
      → (at : IsStaticPlaceOf program layouts range values path place) → IsFit program blocks (structures_in_statics program path) at.p leaf → MayPutStatic program layouts blocks values path leaf range place
  may-put-static blocks values path leaf range place inside s at fit = record {
    at = at;
    may = may-lie at.p place leaf 0 at.is fit;
    holds = may-be at.p.type place.kind leaf blocks (eval_in program at.p.scope) s.addresses at.is.kind_is fit.fits;
    writes = λ new written. static-written-in-place blocks values path leaf range new place inside s at fit written;
  }
