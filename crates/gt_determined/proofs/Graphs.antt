-- A graph whose objects are others, among whose blocks are all of before.
use Rattle.std.proofs.Common.{◌≡◌, ℕ, ◌<◌, List, [], ◌∷◌, sym, subst, Some, ◌⊎◌, inl, inr}
use Rattle.std.specs.Prelude.{◌≢◌, All, AllPairs, Contains, slice_get}
use Rattle.std.specs.List.{AllZip}
use Rattle.std.proofs.lemmas.Bool.{cases_order}
use Rattle.std.proofs.lemmas.List.Elements.{All-weaker}
use Rattle.gt_types.specs.declared.program.Cache.{Cache}
use Rattle.gt_types.specs.declared.program.Program.{Program}
use Rattle.gt_tree.specs.Blocks.{Nodes}
use Rattle.gt_tree.specs.Trees.{Trees}
use Rattle.gt_tree.specs.Fits.{StaticsFit}
use Rattle.gt_tree.proofs.PathBits.{some-same}
use Rattle.gt_graph.specs.Objects.{Object, Graph, blocks_of}
use Rattle.gt_graph.specs.Good.{IsObject, IsSingle, ArePairsOf, IsGraph}
use Rattle.gt_objects.proofs.Growing.{AreAmong, holds_more}
use Rattle.gt_determined.proofs.Distincts.{pair-get, at-place}

zip-weaker : {A B : Type 0} (R S : A → B → Type 0) → ((x : A) (y : B) → R x y → S x y) → (xs : List A) (ys : List B) → AllZip R xs ys → AllZip S xs ys
zip-weaker R S f [] [] h = tt
zip-weaker R S f [] (y ∷ ys) h = absurd h
zip-weaker R S f (x ∷ xs) [] h = absurd h
zip-weaker R S f (x ∷ xs) (y ∷ ys) h = (f x y h.0, zip-weaker R S f xs ys h.1)

-- the pairs of a cache stay what they are
pairs-more : (objects others : List Object) → AreAmong (blocks_of objects) (blocks_of others) → (cache : Cache) (pairs : List (ℕ × ℕ)) → ArePairsOf objects cache pairs → ArePairsOf others cache pairs
pairs-more objects others more cache pairs h = record {
  singles = All-weaker (λ pair. IsSingle objects pair.0 cache.key × IsSingle objects pair.1 cache.value) (λ pair. IsSingle others pair.0 cache.key × IsSingle others pair.1 cache.value)
      (λ pair p. (holds_more (blocks_of objects) (blocks_of others) more pair.0 (Nodes cache.key) 1 p.0, holds_more (blocks_of objects) (blocks_of others) more pair.1 (Nodes cache.value) 1 p.1)) pairs h.singles;
  distinct = h.distinct;
}

abbrev pub HasOtherId : Object → Object → Type 0
HasOtherId o p = o.id ≢ p.id

pub graph-more : (program : Program) (g : Graph) (objects : List Object) (statics : Trees) → IsGraph program g → AreAmong (blocks_of g.objects) (blocks_of objects) → AllPairs HasOtherId objects
    → All (IsObject program (record g { objects = objects; statics = statics })) objects → StaticsFit program (blocks_of objects) statics → IsGraph program (record g { objects = objects; statics = statics })
graph-more program g objects statics good more distinct each fit = record {
  distinct = distinct;
  objects = each;
  statics = fit;
  pairs = zip-weaker (ArePairsOf g.objects) (ArePairsOf objects) (pairs-more g.objects objects more) program.caches g.pairs good.pairs;
  few_pairs = good.few_pairs;
}

-- an object has its name alone
pub id-one : (objects : List Object) → AllPairs HasOtherId objects → (x y : Object) → Contains objects x → Contains objects y → x.id ≡ y.id → x ≡ y
id-one objects distinct x y c d same = go (cases_order c.0 d.0)
  where
    a : slice_get objects c.0 ≡ Some x
    a = at-place objects x c

    b : slice_get objects d.0 ≡ Some y
    b = at-place objects y d

    go : (c.0 ≡ d.0) ⊎ ((c.0 < d.0) ⊎ (d.0 < c.0)) → x ≡ y
    go (inl e) = some-same (slice_get objects d.0) x y (subst (λ i. slice_get objects i ≡ Some x) e a) b
    go (inr (inl lt)) = absurd (pair-get HasOtherId objects c.0 d.0 x y distinct lt a b same)
    go (inr (inr gt)) = absurd (pair-get HasOtherId objects d.0 c.0 y x distinct gt b a (sym same))
