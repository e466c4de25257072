-- Where a leaf is replaced that no expression reads, the value with it fits.
use Rattle.std.proofs.Common.{◌≡◌, ℕ, zero, suc, List, refl, ap, sym, subst, ◌∙◌, Some, None}
use Rattle.std.specs.Prelude.{All, Contains}
use Rattle.std.proofs.lemmas.List.Elements.{All-map, All-weaker, All-contains_itself}
use Rattle.gt_types.specs.declared.types.Ty.{Ty}
use Rattle.gt_types.specs.declared.program.Root.{Root}
use Rattle.gt_types.specs.declared.program.Program.{Program}
use Rattle.gt_types.specs.Settled.{Settled}
use Rattle.gt_layout.specs.declared.planes.Plane.{Plane}
use Rattle.gt_layout.specs.declared.planes.FieldSpot.{FieldSpot}
use Rattle.gt_tree.specs.Trees.{Rec, Trees, tree_at, with_part, with_part_of}
use Rattle.gt_tree.specs.Blocks.{element_type}
use Rattle.gt_tree.specs.Scopes.{outside, number_at, ◌then◌}
use Rattle.gt_tree.specs.Fits.{StaticsFit, root_types}
use Rattle.gt_tree.proofs.PathParts.{get-map}
use Rattle.gt_value.specs.declared.places.Holder.{Holder}
use Rattle.gt_value.specs.declared.places.Holder.TheVariants as lies_in
use Rattle.gt_leaf.specs.Unread.{Around, none_around, structures_on, structures_in_statics, UnreadElementsFit, UnreadStaticsFit}
use Rattle.gt_leaf.proofs.Arounds.{covers-same, IsUnreadInside, static-covers}
use Rattle.gt_leaf.proofs.Swaps.{OneSwaps, put-swaps}
use Rattle.gt_leaf.proofs.SwapReads.{number-swap}
use Rattle.gt_leaf.proofs.Alongs.{Along, Contains-get}
use Rattle.gt_leaf.proofs.SwapScopes.{outside-same}
use Rattle.gt_leaf.proofs.Refits.{Replaces, swap-of, put-fits, changes}

pub unread-elements : (program : Program) (planes : List Plane) → Settled program → UnreadElementsFit program planes
unread-elements program planes settled blocks statics kind capacity value leaf path p hold fits lies unread may leaf_fits =
    let along : Along program statics (outside statics) (element_type program kind) = Along.at_block kind hold in
    changes settled lies fits (outside statics) along (outside-same statics statics (λ i read. refl)) None (λ none. refl) leaf (record { unread = unread; may = may; fits = leaf_fits })
    (covers-same (structures_on program (Some (element_type program kind)) path) (structures_on program (Some (element_type program kind)) path) p.active refl)

-- ---- the static record

pub root-swap : {program : Program} {around : Around} {at : ℕ → Holder} {types : List Ty} {k : ℕ} {path : List ℕ} {olds news : Trees} → OneSwaps program around at types k path olds news → (i : ℕ) → ¬ IsUnreadInside program around (at i) → (tree_at olds i then number_at) ≡ (tree_at news i then number_at)
root-swap (OneSwaps.at_first swap) zero read = number-swap swap read
root-swap (OneSwaps.at_first swap) (suc i) read = refl
root-swap (OneSwaps.at_later one) zero read = refl
root-swap (OneSwaps.at_later one) (suc i) read = root-swap one i read

roots-along : (program : Program) (a : Trees) → All (Along program a (outside a)) (root_types program)
roots-along program a =
    All-map (Along program a (outside a)) (λ (r : Root). r.ty) program.roots
    (All-weaker (Contains program.roots) (λ r. Along program a (outside a) r.ty) (λ r c. Along.at_root r c) program.roots (All-contains_itself program.roots))

pub unread-statics : (program : Program) (planes : List Plane) (spots : List FieldSpot) → Settled program → UnreadStaticsFit program planes spots
unread-statics program planes spots settled blocks old new leaf path p fits l unread may leaf_fits e =
    let w = with_part_of old l.i l.rest leaf in
    let same_rec : Rec w ≡ Rec new = ap (λ y. with_part (Rec old) y leaf) (sym l.path_is) ∙ e in
    let is : w ≡ new = cc in
    let covers = static-covers program p.active l in
    let r : Replaces program blocks 0 (structures_in_statics program path) p leaf = record { unread = unread; may = may; fits = leaf_fits } in
    let get = get-map (λ (x : Root). x.ty) program.roots l.i l.r l.root in
    let one = put-swaps program (none_around None) lies_in.Root (root_types program) old l.i l.r.ty l.tree l.rest leaf get l.there (swap-of l.lies None leaf r covers) in
    let same = outside-same old w (λ i read. root-swap one i (λ unread. unread read)) in
    let along : Along program old (outside old) l.r.ty = Along.at_root l.r (Contains-get program.roots l.i l.r l.root) in
    subst (StaticsFit program blocks) is
    (put-fits settled fits (outside w) l.i l.r.ty l.tree l.rest leaf get l.there
    (λ inner. changes settled l.lies inner (outside w) along same None (λ none. refl) leaf r covers) (roots-along program old) same)
