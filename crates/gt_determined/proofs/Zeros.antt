-- The zero value of a block is one value.
use Rattle.std.proofs.Common.{◌≡◌, ℕ, refl, ap, sym, subst, ◌∙◌, arith}
use Rattle.gt_types.specs.declared.program.Program.{Program}
use Rattle.gt_types.specs.Settled.{Settled}
use Rattle.gt_tree.specs.Trees.{Tree, Row, Trees, End, And, count, IsZero, AreZero}
use Rattle.gt_tree.specs.Blocks.{Kind, element_type}
use Rattle.gt_tree.specs.Scopes.{outside}
use Rattle.gt_tree.specs.Fits.{EachFits}
use Rattle.gt_tree.specs.FixedLaws.{MayHold}
use Rattle.gt_tree.proofs.Fitting.{fits-one}
use Rattle.gt_tree.proofs.WriteZeros.{zero-one}
use Rattle.gt_graph.specs.Objects.{Graph, blocks_of}
use Rattle.gt_graph.specs.Changes.{IsZeroBlock}

module _ (program : Program) (settled : Settled program) (g : Graph) (kind : Kind) (capacity : ℕ) (may : MayHold program kind) where
  elements-one : (xs ys : Trees) → count xs ≡ count ys → EachFits program (blocks_of g.objects) capacity (outside g.statics) (element_type program kind) xs → AreZero xs
      → EachFits program (blocks_of g.objects) capacity (outside g.statics) (element_type program kind) ys → AreZero ys → xs ≡ ys
  elements-one End End e xs z ys y = refl
  elements-one End (And w ws) e xs z ys y = absurd (omega (arith, e))
  elements-one (And v vs) End e xs z ys y = absurd (omega (arith, e))
  elements-one (And v vs) (And w ws) e xs z ys y =
      let mine = fits-one (element_type program kind) v vs xs in
      let theirs = fits-one (element_type program kind) w ws ys in
      let first : v ≡ w = zero-one program settled (blocks_of g.objects) (blocks_of g.objects) g.statics kind capacity v w may (record { fits = mine.0; zero = z.0 }) (record { fits = theirs.0; zero = y.0 }) in
      let rest : vs ≡ ws = elements-one vs ws (omega (arith, e)) mine.1 z.1 theirs.1 y.1 in
      ap (λ t. And t vs) first ∙ ap (λ ts. And w ts) rest

  pub zeros-one : (n : ℕ) (a b : Tree) → IsZeroBlock program g kind n capacity a → IsZeroBlock program g kind n capacity b → a ≡ b
  zeros-one n a b x y =
      let f = x.fits in
      let h = y.fits in
      let zero_a : IsZero (Row f.trees) = subst IsZero f.row x.zero in
      let zero_b : IsZero (Row h.trees) = subst IsZero h.row y.zero in
      let same : f.trees ≡ h.trees = elements-one f.trees h.trees (f.as_many ∙ sym h.as_many) f.each zero_a h.each zero_b in
      f.row ∙ ap Row same ∙ sym h.row
