-- Whether places lead through a union in which no member is active.
use Rattle.std.proofs.Common.{◌≡◌, ℕ, zero, suc, Bool, true, false, cond, List, [], ◌∷◌, ◌++◌, refl, ap, sym, ◌∙◌, Option, Some, None}
use Rattle.std.specs.Prelude.{◌==◌, not, ◌&&◌, ◌||◌}
use Rattle.gt_types.specs.declared.types.Ty.{Ty}
use Rattle.gt_types.specs.declared.program.Program.{Program}
use Rattle.gt_layout.specs.declared.planes.Plane.{Plane}
use Rattle.gt_tree.specs.Trees.{Tree, Num, Null, To, Raw, Rec, Alt, Row, Trees, End, And, tree_at, part_at, part_of}
use Rattle.gt_tree.specs.Scopes.{Scope}
use Rattle.gt_value.specs.declared.places.Holder.{Holder}
use Rattle.gt_value.specs.Places.{Part, PartLies}
use Rattle.gt_next.specs.Spots.{passes_none, passes_none_of}

here-none : (tree : Tree) → passes_none tree [] ≡ false
here-none (Num n) = refl
here-none Null = refl
here-none (To id) = refl
here-none (Raw bytes) = refl
here-none (Rec trees) = refl
here-none (Row trees) = refl
here-none (Alt None tree) = refl
here-none (Alt (Some member) tree) = refl

pub one-of-none : (trees : Trees) (i : ℕ) → passes_none_of trees i [] ≡ false
one-of-none End i = refl
one-of-none (And tree trees) zero = here-none tree
one-of-none (And tree trees) (suc i) = one-of-none trees i

pub passes-there : (trees : Trees) (i : ℕ) (path : List ℕ) (tree : Tree) → tree_at trees i ≡ Some tree → passes_none_of trees i path ≡ passes_none tree path
passes-there End i path tree e = absurd (cc)
passes-there (And t ts) zero path tree e = let same : t ≡ tree = cc in ap (λ x. passes_none x path) same
passes-there (And t ts) (suc i) path tree e = passes-there ts i path tree e

pub through : (b : Bool) (o : Option Tree) (part : Tree) → cond b o None ≡ Some part → o ≡ Some part
through true o part e = e
through false o part e = absurd (cc)

mutual
  -- along two paths, one after the other
  pub passes-after : (tree : Tree) (path more : List ℕ) (part : Tree) → part_at tree path ≡ Some part → passes_none tree (path ++ more) ≡ (passes_none tree path || passes_none part more)
  passes-after tree [] more part e =
      let same : tree ≡ part = cc in
      ap (λ t. passes_none t more) same ∙ ap (λ b. b || passes_none part more) (sym (here-none tree))
  passes-after (Rec trees) (i ∷ path) more part e = passes-after_of trees i path more part e
  passes-after (Row trees) (i ∷ path) more part e = passes-after_of trees i path more part e
  passes-after (Alt (Some member) tree) (i ∷ path) more part e = passes-after tree path more part (through (member == i) (part_at tree path) part e)
  passes-after (Alt None tree) (i ∷ path) more part e = refl
  passes-after (Num n) (i ∷ path) more part e = absurd (cc)
  passes-after Null (i ∷ path) more part e = absurd (cc)
  passes-after (To id) (i ∷ path) more part e = absurd (cc)
  passes-after (Raw bytes) (i ∷ path) more part e = absurd (cc)

  passes-after_of : (trees : Trees) (i : ℕ) (path more : List ℕ) (part : Tree) → part_of trees i path ≡ Some part → passes_none_of trees i (path ++ more) ≡ (passes_none_of trees i path || passes_none part more)
  passes-after_of End i path more part e = absurd (cc)
  passes-after_of (And tree trees) zero path more part e = passes-after tree path more part e
  passes-after_of (And tree trees) (suc i) path more part e = passes-after_of trees i path more part e

-- ---- of parts that lie

and-true : (b : Bool) → b ≡ (b && true)
and-true true = refl
and-true false = refl

and-false : (b : Bool) → (b && false) ≡ false
and-false true = refl
and-false false = refl

module _ {program : Program} {planes : List Plane} where
  -- a part is active unless the places to it lead through a union without an active member
  pub active-is : {scope : Scope} {holder : Holder} {active : Bool} {at : ℕ} {type : Ty} {tree : Tree} {path : List ℕ} {p : Part} → PartLies program planes scope holder active at type tree path p
      → p.active ≡ (active && not (passes_none tree path))
  active-is (PartLies.whole {active} {tree}) = and-true active ∙ ap (λ b. active && not b) (sym (here-none tree))
  active-is (PartLies.field {active} {i} {trees} {tree} {path} has struct laid got spot there lies) = active-is lies ∙ ap (λ b. active && not b) (sym (passes-there trees i path tree there))
  active-is (PartLies.member has union got lies) = active-is lies
  active-is (PartLies.common {active} has c lies) = active-is lies ∙ sym (and-false active)
  active-is (PartLies.array {active} {i} {trees} {tree} {path} out there lies) = active-is lies ∙ ap (λ b. active && not b) (sym (passes-there trees i path tree there))
  active-is (PartLies.tail {active} {i} {trees} {tree} {path} out there lies) = active-is lies ∙ ap (λ b. active && not b) (sym (passes-there trees i path tree there))

pub still-active : (a b x y : Bool) → a ≡ not x → b ≡ (a && not y) → b ≡ not (x || y)
still-active a b true y e h = h ∙ ap (λ z. z && not y) e
still-active a b false y e h = h ∙ ap (λ z. z && not y) e
