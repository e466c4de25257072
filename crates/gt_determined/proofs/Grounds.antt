-- Where a step begins: there, or at the object that a pointer names.
use Rattle.std.proofs.Common.{◌≡◌, ℕ, suc, Bool, true, false, IsTrue, List, [], ◌∷◌, refl, ap, subst, arith, Some, ◌⊎◌, inl, inr}
use Rattle.std.specs.Prelude.{◌==◌, cond, find, Contains}
use Rattle.std.proofs.lemmas.List.Elements.{All-contains}
use Rattle.gt_types.specs.declared.types.Ty.{Ty}
use Rattle.gt_types.specs.declared.program.Program.{Program}
use Rattle.gt_types.specs.Shapes.{is_pointer}
use Rattle.gt_tree.specs.Trees.{Tree, Null, To}
use Rattle.gt_tree.specs.Blocks.{Block, Blocks}
use Rattle.gt_tree.specs.Scopes.{Typed, typed, Scope, eval_in, ◌then◌}
use Rattle.gt_tree.specs.Fits.{Fits}
use Rattle.gt_tree.proofs.FixedParts.{may-pointer, is-pointer}
use Rattle.gt_tree.proofs.PathBits.{some-same}
use Rattle.gt_graph.specs.Objects.{Object, Graph, object_of, block_of, blocks_of}
use Rattle.gt_graph.specs.Changes.{Of}
use Rattle.gt_graph.specs.Good.{IsObject, IsGraph}
use Rattle.gt_next.specs.Spots.{Spot, spot, Standing, Whole, Value, standing_at}
use Rattle.gt_next.specs.Paths.{Follows}
use Rattle.gt_determined.proofs.Parts.{FitsIn}
use Rattle.gt_determined.proofs.Standings.{map-some}
use Rattle.gt_determined.proofs.LocalEnds.{IsSound}

-- ---- objects by their names

find-contains : {X : Type 0} (p : X → Bool) (xs : List X) (x : X) → find p xs ≡ Some x → Contains xs x
find-contains p [] x e = absurd (cc)
find-contains {X} p (y ∷ ys) x e = go (p y) (find-contains p ys x) e
  where
    go : (b : Bool) → (find p ys ≡ Some x → Contains ys x) → cond b (Some y) (find p ys) ≡ Some x → Contains (y ∷ ys) x
    go true later h = let same : y ≡ x = cc in (0, omega arith, same)
    go false later h = let c = later h in (suc c.0, omega (arith, c.1), c.2)

pub object-contains : (objects : List Object) (id : ℕ) (o : Object) → object_of objects id ≡ Some o → Contains objects o
object-contains objects id o e = find-contains (λ x. x.id == id) objects o e

pub object-sound : (program : Program) (g : Graph) (id : ℕ) (o : Object) → IsGraph program g → object_of g.objects id ≡ Some o → IsObject program g o
object-sound program g id o good e = All-contains (IsObject program g) g.objects o good.objects (object-contains g.objects id o e)

-- ---- grounds

-- the one spot at which a step from a spot begins, and what stands there
pub record Ground (program : Program) (g : Graph) (from : Spot) : Type 0 where
  pub at : Spot
  pub what : Standing
  pub follows : Follows program g from at
  pub stands : standing_at program g at ≡ Some what
  pub sound : IsSound program g what
  pub only : (other : Spot) → Follows program g from other → other ≡ at
  pub not_null : (type : Ty) → ¬ (standing_at program g from ≡ Some (Value (typed type Null)))

-- a null pointer, from which no step begins
pub record AtNull (program : Program) (g : Graph) (from : Spot) : Type 0 where
  pub type : Ty
  pub stands : standing_at program g from ≡ Some (Value (typed type Null))
  pub none : (other : Spot) → ¬ Follows program g from other

-- a spot, and what stands there, which is sound
pub record StandsAt (program : Program) (g : Graph) (at : Spot) : Type 0 where
  pub what : Standing
  pub stands : standing_at program g at ≡ Some what
  pub sound : IsSound program g what

value-of : (t u : Typed) → Value t ≡ Value u → t ≡ u
value-of t u e = cc

-- what is not null points to something by its type alone
null-type : {program : Program} {blocks : Blocks} {capacity : ℕ} {scope : Scope} (type : Ty) → Fits program blocks capacity scope type Null → IsTrue (is_pointer type)
null-type type (Fits.null p) = p

to-type : {program : Program} {blocks : Blocks} {capacity : ℕ} {scope : Scope} (type : Ty) (id : ℕ) → Fits program blocks capacity scope type (To id) → IsTrue (is_pointer type)
to-type {program} {blocks} {capacity} {scope} type id (Fits.to m) = may-pointer blocks (eval_in program scope) type id m

module _ (program : Program) (g : Graph) (from : Spot) where
  same-standing : (a b : Standing) → standing_at program g from ≡ Some a → standing_at program g from ≡ Some b → a ≡ b
  same-standing a b e h = some-same (standing_at program g from) a b e h

  whole-ground : (o : Object) → IsObject program g o → standing_at program g from ≡ Some (Whole o) → Ground program g from
  whole-ground o sound e = record {
    at = from;
    what = Whole o;
    follows = Follows.at_object e;
    stands = e;
    sound = sound;
    only = only;
    not_null = λ type h. let same = same-standing (Whole o) (Value (typed type Null)) e h in cc;
  }
    where
      only : (other : Spot) → Follows program g from other → other ≡ from
      only other (Follows.to_target {type} {id} h) = let same = same-standing (Whole o) (Value (typed type (To id))) e h in absurd (cc)
      only other (Follows.at_value h p) = refl
      only other (Follows.at_object h) = refl

  -- a value that is no pointer
  value-ground : (t : Typed) → FitsIn program g t → is_pointer t.type ≡ false → standing_at program g from ≡ Some (Value t) → Ground program g from
  value-ground t fit plain e = record {
    at = from;
    what = Value t;
    follows = Follows.at_value e plain;
    stands = e;
    sound = fit;
    only = only;
    not_null = λ type h.
        let same = value-of t (typed type Null) (same-standing (Value t) (Value (typed type Null)) e h) in
        let there = subst (λ u. FitsIn program g u) same fit in
        let pointer = null-type type there.fits in
        let types = ap (λ u. u.type) same in cc;
  }
    where
      only : (other : Spot) → Follows program g from other → other ≡ from
      only other (Follows.to_target {type} {id} h) =
          let same = value-of t (typed type (To id)) (same-standing (Value t) (Value (typed type (To id))) e h) in
          let there = subst (λ u. FitsIn program g u) same fit in
          let pointer = to-type type id there.fits in
          let types = ap (λ u. u.type) same in absurd (cc)
      only other (Follows.at_value h p) = refl
      only other (Follows.at_object h) = refl

  null-at : (type : Ty) → IsTrue (is_pointer type) → standing_at program g from ≡ Some (Value (typed type Null)) → AtNull program g from
  null-at type pointer e = record { type = type; stands = e; none = none }
    where
      none : (other : Spot) → ¬ Follows program g from other
      none other (Follows.to_target {type = t} {id} h) = let same = value-of (typed type Null) (typed t (To id)) (same-standing (Value (typed type Null)) (Value (typed t (To id))) e h) in let trees = ap (λ u. u.value) same in cc
      none other (Follows.at_value {t} h p) = let same = value-of (typed type Null) t (same-standing (Value (typed type Null)) (Value t) e h) in let types = ap (λ u. u.type) same in cc
      none other (Follows.at_object {o} h) = let same = same-standing (Value (typed type Null)) (Whole o) e h in cc

  to-ground : (type : Ty) (id : ℕ) (o : Object) → IsTrue (is_pointer type) → IsObject program g o → object_of g.objects id ≡ Some o → standing_at program g from ≡ Some (Value (typed type (To id))) → Ground program g from
  to-ground type id o pointer sound there e = record {
    at = spot (Of id) [];
    what = Whole o;
    follows = Follows.to_target e;
    stands = ap (λ x. x then (λ y. Some (Whole y))) there;
    sound = sound;
    only = only;
    not_null = λ t h. let same = value-of (typed type (To id)) (typed t Null) (same-standing (Value (typed type (To id))) (Value (typed t Null)) e h) in let trees = ap (λ u. u.value) same in cc;
  }
    where
      only : (other : Spot) → Follows program g from other → other ≡ spot (Of id) []
      only other (Follows.to_target {type = t} {id = i} h) =
          let same = value-of (typed type (To id)) (typed t (To i)) (same-standing (Value (typed type (To id))) (Value (typed t (To i))) e h) in
          let trees : To id ≡ To i = ap (λ u. u.value) same in
          let ids : i ≡ id = cc in
          ap (λ j. spot (Of j) []) ids
      only other (Follows.at_value {t} h p) =
          let same = value-of (typed type (To id)) t (same-standing (Value (typed type (To id))) (Value t) e h) in let types = ap (λ u. u.type) same in absurd (cc)
      only other (Follows.at_object {o = x} h) = let same = same-standing (Value (typed type (To id))) (Whole x) e h in absurd (cc)

  typed-ground : IsGraph program g → (type : Ty) (tree : Tree) → FitsIn program g (typed type tree) → standing_at program g from ≡ Some (Value (typed type tree)) → Ground program g from ⊎ AtNull program g from
  typed-ground good type tree fit e = go (is_pointer type) refl
    where
      at : IsTrue (is_pointer type) → (tree ≡ Null) ⊎ ((id : ℕ) × (tree ≡ To id) × (b : Block) × (blocks_of g.objects id ≡ Some b)) → Ground program g from ⊎ AtNull program g from
      at pointer (inl null) = inr (null-at type pointer (subst (λ t. standing_at program g from ≡ Some (Value (typed type t))) null e))
      at pointer (inr (id, to, b, there)) =
          let o = map-some block_of (object_of g.objects id) b there in
          inl (to-ground type id o.0 pointer (object-sound program g id o.0 good o.1) o.1 (subst (λ t. standing_at program g from ≡ Some (Value (typed type t))) to e))

      go : (b : Bool) → is_pointer type ≡ b → Ground program g from ⊎ AtNull program g from
      go true pointer = at pointer (is-pointer type tree pointer fit.fits)
      go false plain = inl (value-ground (typed type tree) fit plain e)

  standing-ground : IsGraph program g → (what : Standing) → IsSound program g what → standing_at program g from ≡ Some what → Ground program g from ⊎ AtNull program g from
  standing-ground good (Whole o) sound e = inl (whole-ground o sound e)
  standing-ground good (Value t) fit e = typed-ground good t.type t.value fit e

pub ground : (program : Program) (g : Graph) (from : Spot) → IsGraph program g → StandsAt program g from → Ground program g from ⊎ AtNull program g from
ground program g from good s = standing-ground program g from good s.what s.sound s.stands
