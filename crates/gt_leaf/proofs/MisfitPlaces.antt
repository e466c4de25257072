-- Where a leaf does not fit at its place in the bytes, no value fits with it.
use Rattle.std.proofs.Common.{◌≡◌, ℕ, true, List, refl, ap, sym, subst, ◌∙◌, ◌⊎◌, Some, None, inl, inr}
use Rattle.gt_types.specs.declared.types.Ty.{Ty}
use Rattle.gt_types.specs.declared.program.Root.{Root}
use Rattle.gt_types.specs.declared.program.Program.{Program}
use Rattle.gt_types.specs.Settled.{Settled}
use Rattle.gt_layout.specs.declared.planes.Layouts.{Layouts}
use Rattle.gt_space.specs.Range.{Range}
use Rattle.gt_tree.specs.Trees.{Tree, Num, Null, Raw, Rec, Trees, with_part, with_part_of, without_pointers}
use Rattle.gt_tree.specs.Blocks.{Blocks, element_type}
use Rattle.gt_tree.specs.Scopes.{outside}
use Rattle.gt_tree.specs.Fits.{root_types}
use Rattle.gt_tree.specs.Reshapes.{AllReshape, Assigns, AssignsStatics}
use Rattle.gt_tree.proofs.PathParts.{get-map}
use Rattle.gt_tree.proofs.WriteReads.{roots-kept}
use Rattle.gt_value.specs.declared.places.Holder.TheVariants as lies_in
use Rattle.gt_value.specs.declared.places.LeafContent.{LeafContent}
use Rattle.gt_value.specs.declared.places.LeafContent.TheVariants as content
use Rattle.gt_value.specs.declared.places.Place.{Place}
use Rattle.gt_value.specs.Places.{Part, PartLies, IsContentOf, IsPlaceOf, IsPlaceOfPart, IsStaticPlaceOf, content_at}
use Rattle.gt_leaf.specs.Writing.{StandsBeside, StaticsStandBeside, is_number_leaf, IsAlone}
use Rattle.gt_leaf.specs.Unread.{Around, none_around, structures_on, structures_in_statics}
use Rattle.gt_leaf.specs.Verdicts.{IsMisfit}
use Rattle.gt_leaf.proofs.Arounds.{covers-same, static-covers}
use Rattle.gt_leaf.proofs.Swaps.{put-swaps}
use Rattle.gt_leaf.proofs.Alongs.{Along, Contains-get}
use Rattle.gt_leaf.proofs.SwapScopes.{outside-same}
use Rattle.gt_leaf.proofs.UnreadLaws.{root-swap}
use Rattle.gt_leaf.proofs.LeafTrees.{content-leaf}
use Rattle.gt_leaf.proofs.Misfits.{StandsAlone, alone-swap, fits-there, content-fits, kind-plain, fit-at, all-at, put-there}

content-bare : (leaf : LeafContent) (tree : Tree) → IsContentOf leaf tree → is_number_leaf leaf ≡ true → without_pointers tree ≡ tree
content-bare leaf (Num n) means e = refl
content-bare leaf Null means e = refl
content-bare leaf (Raw bytes) means e = refl
content-bare (content.Num n) tree means e = absurd means
content-bare content.Null tree means e = absurd (cc)
content-bare (content.To address) tree means e = absurd (cc)

-- the leaf at a place can be looked at alone, as a tree
tree-alone : {program : Program} {around : Around} {range : Range} {address : ℕ} (p : Part) (place : Place) (leaf : LeafContent) (tree : Tree) → IsPlaceOfPart program range address p place → IsAlone program around p leaf → IsContentOf leaf tree → StandsAlone program around p tree
tree-alone {range} p place leaf tree at alone means =
    let bare : (p.active ≡ true) ⊎ (without_pointers tree ≡ tree) = elim alone.active [ inl active ↦ inl active | inr number ↦ inr (content-bare leaf tree means number) ] in
    record {
      unread = alone.unread;
      may = (content-leaf (content_at range place) p.tree at.holds, content-leaf leaf tree means, bare);
      plain = kind-plain p.type place.kind at.kind_is;
    }

module _ (program : Program) (layouts : Layouts) (settled : Settled program) where
  pub misfits : (blocks : Blocks) (statics : Trees) (capacity : ℕ) (type : Ty) (address : ℕ) (value : Tree) (path : List ℕ) (leaf : LeafContent) (range : Range) (place : Place)
      → StandsBeside program layouts blocks statics capacity type range address value
      → (at : IsPlaceOf program layouts.structures (outside statics) lies_in.Element type range address value path place) → IsMisfit program blocks (structures_on program (Some type) path) at.p leaf
      → (tree new : Tree) → IsContentOf leaf tree → ¬ Assigns program blocks statics capacity type value path tree new
  misfits blocks statics capacity type address value path leaf range place s at m tree new means = λ assigns.
      let here = subst (λ t. Assigns program blocks statics capacity t value path tree new) s.of_kind assigns in
      let lies = subst (λ t. PartLies program layouts.structures (outside statics) lies_in.Element true 0 t value path at.p) s.of_kind at.lies in
      let along : Along program statics (outside statics) (element_type program s.kind) = Along.at_block s.kind s.held in
      let found = fits-there settled lies s.is.fits (outside statics) along (outside-same statics statics (λ i read. refl)) None (λ none. refl) tree (tree-alone at.p place leaf tree at.is m.alone means)
      (covers-same (structures_on program (Some type) path) (structures_on program (Some (element_type program s.kind)) path) at.p.active (ap (λ t. structures_on program (Some t) path) (sym s.of_kind))) new here.fits here.reshapes in
      m.misfit (content-fits settled {t = found.scope} found.fits leaf means found.along found.same m.alone.word)

  pub static-misfits : (blocks : Blocks) (values : Trees) (path : List ℕ) (leaf : LeafContent) (range : Range) (place : Place)
      → StaticsStandBeside program layouts blocks range values → (at : IsStaticPlaceOf program layouts range values path place) → IsMisfit program blocks (structures_in_statics program path) at.p leaf
      → (tree : Tree) (new : Trees) → IsContentOf leaf tree → ¬ AssignsStatics program blocks values path tree new
  static-misfits blocks values path leaf range place s at m tree new means = λ assigns.
      let l = at.lies in
      let alone = tree-alone at.p place leaf tree at.is m.alone means in
      let covers = static-covers program at.p.active l in
      let w = with_part_of values l.i l.rest tree in
      let same_rec : Rec w ≡ Rec assigns.written = ap (λ y. with_part (Rec values) y tree) (sym l.path_is) ∙ assigns.with_leaf in
      let is : w ≡ assigns.written = cc in
      let becomes = subst (λ y. AllReshape program (root_types program) y new) (sym is) assigns.reshapes in
      let type_is = get-map (λ (r : Root). r.ty) program.roots l.i l.r l.root in
      let swap = put-swaps program (none_around None) lies_in.Root (root_types program) values l.i l.r.ty l.tree l.rest tree type_is l.there (alone-swap settled l.lies None tree alone covers) in
      let same = outside-same values new (λ i read. root-swap swap i (λ unread. unread read) ∙ roots-kept becomes i) in
      let along : Along program values (outside values) l.r.ty = Along.at_root l.r (Contains-get program.roots l.i l.r l.root) in
      let one = all-at becomes assigns.fits l.i l.r.ty (with_part l.tree l.rest tree) type_is (put-there values l.i l.tree l.rest tree l.there) in
      let found = fits-there settled l.lies (fit-at s.are.fit l.i l.r.ty l.tree type_is l.there) (outside new) along same None (λ none. refl) tree alone covers one.new one.fits one.reshapes in
      m.misfit (content-fits settled {t = found.scope} found.fits leaf means found.along found.same m.alone.word)
