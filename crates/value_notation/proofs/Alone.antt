-- Structures of the sample that may stand alone: their own expressions begin at themselves, where they have any.
use Rattle.std.proofs.Common.{◌≡◌, ℕ, List, [], ◌∷◌, sym, subst, refl}
use Rattle.std.specs.Prelude.{All, Any, codes}
use Rattle.std.proofs.lemmas.List.Elements.{All-from_recursion, All-contains}
use Rattle.gt_types.specs.declared.expressions.Base.TheVariants.{Here, Outer, Outermost}
use Rattle.gt_types.specs.declared.expressions.Expr.TheVariants as expr
use Rattle.gt_types.specs.declared.types.TypeId.{TypeId}
use Rattle.gt_types.specs.declared.program.Structure.{Structure}
use Rattle.gt_types.specs.Contains.{HasStructure}
use Rattle.gt_types.specs.Paths.{Way, own_expressions, NamesOuter, IsInner, MayStand}
use Rattle.sample_program.specs.Sample.{sample, item, base, wide, form, cell, vec, hold, two, vecb, any, big, bigv, kindv, ever, label, twin, lone, node, own_len, own_n, outermost_a}
use Rattle.sample_program.proofs.Structures.{path-paths}

from-outermost : (steps : List (List ℕ)) → ¬ NamesOuter (expr.Path Outermost steps)
from-outermost steps names = not-outer (subst (Any {X = Way} (λ path. path.0 ≡ Outer)) (path-paths Outermost steps) names)
  where
    not-outer : ¬ Any {X = Way} (λ path. path.0 ≡ Outer) ((Outermost, steps) ∷ [])
    not-outer some = All-contains {X = Way} (λ path. ¬ (path.0 ≡ Outer)) ((Outermost, steps) ∷ []) some.1 (All-from_recursion {X = Way} (λ path. ¬ (path.0 ≡ Outer)) ((Outermost, steps) ∷ []) ((λ e. absurd (cc)), tt)) (some.0, some.2, some.3) some.4

from-here : (steps : List (List ℕ)) → ¬ NamesOuter (expr.Path Here steps)
from-here steps names = not-outer (subst (Any {X = Way} (λ path. path.0 ≡ Outer)) (path-paths Here steps) names)
  where
    not-outer : ¬ Any {X = Way} (λ path. path.0 ≡ Outer) ((Here, steps) ∷ [])
    not-outer some = All-contains {X = Way} (λ path. ¬ (path.0 ≡ Outer)) ((Here, steps) ∷ []) some.1 (All-from_recursion {X = Way} (λ path. ¬ (path.0 ≡ Outer)) ((Here, steps) ∷ []) ((λ e. absurd (cc)), tt)) (some.0, some.2, some.3) some.4

not_inner : (id : TypeId) (s : Structure) → HasStructure sample id s → All (λ e. ¬ NamesOuter e) (own_expressions s) → ¬ IsInner sample id
not_inner id s has none (t, other, some) =
    let same : s ≡ t = cc in
    let own : Any NamesOuter (own_expressions s) = subst (λ u. Any NamesOuter (own_expressions u)) (sym same) some in
    All-contains (λ e. ¬ NamesOuter e) (own_expressions s) own.1 none (own.0, own.2, own.3) own.4

none : All (λ e. ¬ NamesOuter e) []
none = All-from_recursion (λ e. ¬ NamesOuter e) [] tt

one : (steps : List (List ℕ)) → All (λ e. ¬ NamesOuter e) (expr.Path Here steps ∷ [])
one steps = All-from_recursion (λ e. ¬ NamesOuter e) (expr.Path Here steps ∷ []) (from-here steps, tt)

pub item_stands : MayStand sample (node 0)
item_stands = (item, refl, not_inner (node 0) item refl none, λ u. absurd (cc))

pub base_stands : MayStand sample (node 1)
base_stands = (base, refl, not_inner (node 1) base refl none, λ u. absurd (cc))

pub wide_stands : MayStand sample (node 2)
wide_stands = (wide, refl, not_inner (node 2) wide refl none, λ u. absurd (cc))

pub form_stands : MayStand sample (node 3)
form_stands = (form, refl, not_inner (node 3) form refl (one (codes "b" ∷ codes "kind" ∷ [])), λ u. refl)

pub cell_stands : MayStand sample (node 5)
cell_stands = (cell, refl, not_inner (node 5) cell refl none, λ u. absurd (cc))

pub vec_stands : MayStand sample (node 6)
vec_stands = (vec, refl, not_inner (node 6) vec refl (one (codes "num" ∷ [])), λ u. absurd (cc))

pub hold_stands : MayStand sample (node 7)
hold_stands = (hold, refl, not_inner (node 7) hold refl (All-from_recursion (λ e. ¬ NamesOuter e) (own_len ∷ own_len ∷ []) (from-here (codes "len" ∷ []), (from-here (codes "len" ∷ []), tt))), λ u. absurd (cc))

pub two_stands : MayStand sample (node 9)
two_stands = (two, refl, not_inner (node 9) two refl none, λ u. absurd (cc))

pub vecb_stands : MayStand sample (node 10)
vecb_stands = (vecb, refl, not_inner (node 10) vecb refl (one (codes "num" ∷ [])), λ u. absurd (cc))

pub any_stands : MayStand sample (node 11)
any_stands = (any, refl, not_inner (node 11) any refl (one (codes "b" ∷ codes "kind" ∷ [])), λ u. refl)

pub big_stands : MayStand sample (node 13)
big_stands = (big, refl, not_inner (node 13) big refl (one (codes "num" ∷ [])), λ u. absurd (cc))

pub bigv_stands : MayStand sample (node 14)
bigv_stands = (bigv, refl, not_inner (node 14) bigv refl (one (codes "n" ∷ [])), λ u. absurd (cc))

pub kindv_stands : MayStand sample (node 15)
kindv_stands = (kindv, refl, not_inner (node 15) kindv refl (one (codes "b" ∷ codes "kind" ∷ [])), λ u. absurd (cc))

pub ever_stands : MayStand sample (node 16)
ever_stands = (ever, refl, not_inner (node 16) ever refl (one (codes "b" ∷ codes "kind" ∷ [])), λ u. refl)

pub label_stands : MayStand sample (node 17)
label_stands = (label, refl, not_inner (node 17) label refl (All-from_recursion (λ e. ¬ NamesOuter e) (own_n ∷ outermost_a ∷ []) (from-here (codes "n" ∷ []), (from-outermost (codes "a" ∷ []), tt))), λ u. absurd (cc))

pub twin_stands : MayStand sample (node 18)
twin_stands = (twin, refl, not_inner (node 18) twin refl (one (codes "b" ∷ codes "kind" ∷ [])), λ u. absurd (cc))

pub lone_stands : MayStand sample (node 19)
lone_stands = (lone, refl, not_inner (node 19) lone refl (one (codes "w" ∷ codes "b" ∷ codes "kind" ∷ [])), λ u. refl)
