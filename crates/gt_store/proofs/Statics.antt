-- The static record put at the lowest address of a space.
use Rattle.std.proofs.Common.{◌≡◌, ℕ, ◌+◌, ◌-◌, ◌*◌, ◌≤◌, List, [], ◌∷◌, length, replicate, map, Some, zero, suc, refl, ap, sym, subst, ◌∙◌, arith}
use Rattle.std.specs.Prelude.{Contains, slice_get}
use Rattle.std.proofs.lemmas.List.Elements.{All-map, All-weaker, All-contains_itself}
use Rattle.gt_types.specs.declared.program.Root.{Root}
use Rattle.gt_types.specs.declared.program.Program.{Program}
use Rattle.gt_types.specs.Settled.{Settled}
use Rattle.gt_layout.specs.declared.planes.Layouts.{Layouts}
use Rattle.gt_layout.specs.Planes.{IsLaidOut}
use Rattle.gt_space.specs.Range.{Range, IsInside, with_bytes}
use Rattle.gt_tree.specs.Trees.{Trees}
use Rattle.gt_tree.specs.Scopes.{outside}
use Rattle.gt_tree.specs.Leaves.{Leaf, FieldsHaveLeaves, leaf}
use Rattle.gt_tree.specs.LeafLaws.{IsTypeIn}
use Rattle.gt_tree.proofs.OneList.{record-one_list}
use Rattle.gt_tree.proofs.Placed.{record-placed}
use Rattle.gt_value.specs.Bytes.{StaticsFitSome, AreStaticsStored}
use Rattle.gt_store.specs.declared.stores.TheConstants.{MAX_BITS}
use Rattle.gt_store.specs.Overlays.{Rises, LieIn, Overlays, written}
use Rattle.gt_store.specs.Writing.{AreSmall}
use Rattle.gt_store.proofs.OverlayLemmas.{rises-end}
use Rattle.gt_store.proofs.Walks.{CanFields, FieldsWritten, follow-stand}
use Rattle.gt_store.proofs.Whole.{shifted, stored-whole}
use Rattle.gt_store.proofs.Putting.{rises-order}

pub roots-long : (roots : List Root) → length (map (λ r. r.ty) roots) ≡ length roots
roots-long [] = refl
roots-long (r ∷ rs) = ap suc (roots-long rs)

pub roots-at : (roots : List Root) (i : ℕ) (r : Root) → slice_get roots i ≡ Some r → slice_get (map (λ x. x.ty) roots) i ≡ Some r.ty
roots-at [] i r e = absurd (cc)
roots-at (q ∷ rs) zero r e = let same : q ≡ r = cc in ap (λ x. Some x.ty) same
roots-at (q ∷ rs) (suc i) r e = roots-at rs i r e

shifted-none : (ls : List Leaf) → shifted 0 ls ≡ ls
shifted-none [] = refl
shifted-none (l ∷ ls) =
    let at : l.at + 0 ≡ l.at = omega arith in
    ap (λ n. leaf n l.width l.content ∷ shifted 0 ls) at ∙ ap (λ xs. l ∷ xs) (shifted-none ls)

module _ (program : Program) (layouts : Layouts) (settled : Settled program) (laid : IsLaidOut program layouts) (trees : Trees) (fits : StaticsFitSome program trees) where
  rises : (leaves : List Leaf) → FieldsHaveLeaves program layouts.structures 0 (map (λ r. r.ty) program.roots) layouts.statics.fields trees leaves → Rises 0 (written leaves) (8 * layouts.statics.size)
  rises leaves have =
      let order = record-placed program layouts settled laid fits.blocks trees leaves fits.fit have in
      rises-order 0 (8 * layouts.statics.size) leaves order.rising order.inside (omega arith)

  lies : (range : Range) (leaves : List Leaf) → FieldsHaveLeaves program layouts.structures 0 (map (λ r. r.ty) program.roots) layouts.statics.fields trees leaves → layouts.statics.size ≤ length range.bytes → LieIn range leaves
  lies range leaves have inside = rises-end 0 (written leaves) (8 * layouts.statics.size) (8 * length range.bytes) (omega (arith, inside)) (rises leaves have)

  pub can-statics : (range : Range) → layouts.statics.size ≤ length range.bytes → 8 * length range.bytes ≤ MAX_BITS → CanFields program layouts.structures range 0 (map (λ r. r.ty) program.roots) layouts.statics.fields trees
  can-statics range inside short =
      let one = record-one_list program layouts settled laid fits.blocks trees fits.fit in
      record {
        blocks = fits.blocks;
        capacity = 0;
        scope = outside trees;
        fit = fits.fit;
        leaves = one.0;
        have = one.1;
        lie = lies range one.0 one.1 inside;
        typed = All-map (IsTypeIn program) (λ (r : Root). r.ty) program.roots
            (All-weaker (Contains program.roots) (λ r. IsTypeIn program r.ty) (λ r contains. IsTypeIn.of_root r contains) program.roots (All-contains_itself program.roots));
        stand = follow-stand (λ (r : Root). r.ty) layouts.structures 0 0 program.roots layouts.statics.fields refl laid.statics.places;
        near = record { short = short; near = omega arith };
      }

  pub statics-stored : (old zeros new : Range) → IsInside old old.start layouts.statics.size → zeros ≡ with_bytes old old.start (replicate layouts.statics.size 0) → layouts.statics.size ≤ length zeros.bytes → AreSmall old
      → FieldsWritten program layouts.structures 0 (map (λ r. r.ty) program.roots) layouts.statics.fields trees zeros new → AreStaticsStored program layouts trees old new
  statics-stored old zeros new inside filled room small stored leaves form have bytes =
      let none : 8 * (old.start - old.start) ≡ 0 = omega arith in
      let same : leaves ≡ shifted (8 * (old.start - old.start)) leaves = sym (ap (λ d. shifted d leaves) none ∙ shifted-none leaves) in
      let over = stored leaves have (lies zeros leaves have room) in
      let end : 8 * layouts.statics.size ≡ 0 + 8 * layouts.statics.size = omega arith in
      let low : Rises 0 (written leaves) (0 + 8 * layouts.statics.size) = subst (Rises 0 (written leaves)) end (rises leaves have) in
      let up : Rises (8 * (old.start - old.start)) (written leaves) (8 * (old.start - old.start) + 8 * layouts.statics.size) =
      subst (λ d. Rises d (written leaves) (d + 8 * layouts.statics.size)) (sym none) low in
      stored-whole old zeros new old.start layouts.statics.size form leaves inside filled (subst (λ ls. Overlays (written ls) zeros new) same over) small bytes
      (subst (λ ls. Rises (8 * (old.start - old.start)) (written ls) (8 * (old.start - old.start) + 8 * layouts.statics.size)) same up)
