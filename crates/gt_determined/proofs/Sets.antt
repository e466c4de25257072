-- Set has one answer and one next state.
use Rattle.std.proofs.Common.{◌≡◌, ℕ, refl, ap, sym, subst, Some}
use Rattle.gt_types.specs.declared.program.Program.{Program}
use Rattle.gt_types.specs.Settled.{Settled}
use Rattle.gt_script.specs.declared.command.Given.{Given}
use Rattle.gt_script.specs.declared.command.Route.{Route}
use Rattle.gt_tree.specs.Trees.{Tree}
use Rattle.gt_tree.specs.Scopes.{Typed}
use Rattle.gt_tree.proofs.PathBits.{some-same}
use Rattle.std.specs.Prelude.{◌≢◌}
use Rattle.gt_layout.specs.declared.planes.Layouts.{Layouts}
use Rattle.gt_tree.specs.Blocks.{Chars}
use Rattle.gt_graph.specs.Objects.{Object, object_of}
use Rattle.gt_graph.specs.Changes.{Of}
use Rattle.gt_graph.specs.Good.{IsGraph}
use Rattle.gt_determined.proofs.Written.{writes-good}
use Rattle.gt_next.specs.declared.answer.Answer.{Answer}
use Rattle.gt_next.specs.declared.answer.Answer.TheVariants.{Done, Refused}
use Rattle.gt_next.specs.declared.answer.Why.{Why}
use Rattle.gt_next.specs.declared.answer.Why.TheVariants.{Unbound, WrongType, Inactive, Shape}
use Rattle.gt_next.specs.States.{State, IsGoodState}
use Rattle.gt_next.specs.Spots.{Spot, Value, standing_at}
use Rattle.gt_next.specs.Paths.{Leads, RefusesPath}
use Rattle.gt_next.specs.Leaves.{IsLeaf, IsUnboundValue, RefusesValue}
use Rattle.gt_next.specs.Next.{WritesAt, NextSet}
use Rattle.gt_determined.proofs.Outcomes.{one-end, one-stop, never-both}
use Rattle.gt_determined.proofs.PathEnds.{PathEnds}
use Rattle.gt_determined.proofs.Writings.{value-why-one, leaf-one, writes-one}

abbrev Is : Answer → State → Answer → State → Type 0
Is a t b u = (a ≡ b) × (t ≡ u)

module _ (program : Program) (settled : Settled program) (s : State) (good : IsGraph program s.heap.graph) (path : Route) (e : PathEnds program s path) (value : Given) where
  typed-same : (x y : Typed) → Value x ≡ Value y → x ≡ y
  typed-same x y h = cc

  unbound-set : (b : Answer) (u : State) → IsUnboundValue s value → NextSet program s path value b u → Is (Refused Unbound) s b u
  unbound-set b u n (NextSet.unbound m) = (refl, refl)
  unbound-set b u n (NextSet.refused m r) = absurd (m n)
  unbound-set b u n (NextSet.value_refused m l r) = absurd (m n)
  unbound-set b u n (NextSet.shape m l ok st leaf none) = absurd (m n)
  unbound-set b u n (NextSet.writes m l ok st leaf w) = absurd (m n)

  module _ (bound : ¬ IsUnboundValue s value) where
    refused-set : (why : Why) (b : Answer) (u : State) → RefusesPath program s path why → NextSet program s path value b u → Is (Refused why) s b u
    refused-set why b u r (NextSet.unbound m) = absurd (bound m)
    refused-set why b u r (NextSet.refused {why = other} m q) = (ap Refused (one-stop e why other r q), refl)
    refused-set why b u r (NextSet.value_refused {at} m l q) = absurd (never-both e at why l r)
    refused-set why b u r (NextSet.shape {at} m l ok st leaf none) = absurd (never-both e at why l r)
    refused-set why b u r (NextSet.writes {at} m l ok st leaf w) = absurd (never-both e at why l r)

    module _ (at : Spot) (leads : Leads program s path at) where
      same-at : (other : Spot) → Leads program s path other → other ≡ at
      same-at other l = one-end e other at l leads

      value-set : (why : Why) (b : Answer) (u : State) → RefusesValue program s at value why → NextSet program s path value b u → Is (Refused why) s b u
      value-set why b u r (NextSet.unbound m) = absurd (bound m)
      value-set why b u r (NextSet.refused {why = w} m q) = absurd (never-both e at w leads q)
      value-set why b u r (NextSet.value_refused {at = x} {why = w} m l q) = (ap Refused (value-why-one why w r (subst (λ y. RefusesValue program s y value w) (same-at x l) q)), refl)
      value-set why b u r (NextSet.shape {at = x} m l ok st leaf none) = absurd (ok why (subst (λ y. RefusesValue program s y value why) (sym (same-at x l)) r))
      value-set why b u r (NextSet.writes {at = x} m l ok st leaf w) = absurd (ok why (subst (λ y. RefusesValue program s y value why) (sym (same-at x l)) r))

      module _ (good_value : (why : Why) → ¬ RefusesValue program s at value why) (t : Typed) (stands : standing_at program s.heap.graph at ≡ Some (Value t)) (leaf : Tree) (is_leaf : IsLeaf s.variables t.type value leaf) where
        -- the leaf of another derivation is this one
        same-leaf : (other : Spot) (x : Typed) (y : Tree) → Leads program s path other → standing_at program s.heap.graph other ≡ Some (Value x) → IsLeaf s.variables x.type value y → y ≡ leaf
        same-leaf other x y l st is =
            let there : standing_at program s.heap.graph at ≡ Some (Value x) = subst (λ z. standing_at program s.heap.graph z ≡ Some (Value x)) (same-at other l) st in
            let same : x ≡ t = typed-same x t (some-same (standing_at program s.heap.graph at) (Value x) (Value t) there stands) in
            leaf-one y leaf (subst (λ z. IsLeaf s.variables z.type value y) same is) is_leaf

        writes-there : (other : Spot) (x : Typed) (y : Tree) (u : State) → Leads program s path other → standing_at program s.heap.graph other ≡ Some (Value x) → IsLeaf s.variables x.type value y → WritesAt program s other y u → WritesAt program s at leaf u
        writes-there other x y u l st is w = subst (λ z. WritesAt program s at z u) (same-leaf other x y l st is) (subst (λ z. WritesAt program s z y u) (same-at other l) w)

        shape-set : (b : Answer) (u : State) → ((v : State) → ¬ WritesAt program s at leaf v) → NextSet program s path value b u → Is (Refused Shape) s b u
        shape-set b u none (NextSet.unbound m) = absurd (bound m)
        shape-set b u none (NextSet.refused {why = w} m q) = absurd (never-both e at w leads q)
        shape-set b u none (NextSet.value_refused {at = x} {why = w} m l q) = absurd (good_value w (subst (λ y. RefusesValue program s y value w) (same-at x l) q))
        shape-set b u none (NextSet.shape m l ok st other no_write) = (refl, refl)
        shape-set b u none (NextSet.writes {at = x} {t = y} {leaf = z} {u = v} m l ok st is w) = absurd (none v (writes-there x y z v l st is w))

        writes-set : (v : State) (b : Answer) (u : State) → WritesAt program s at leaf v → NextSet program s path value b u → Is Done v b u
        writes-set v b u writes (NextSet.unbound m) = absurd (bound m)
        writes-set v b u writes (NextSet.refused {why = w} m q) = absurd (never-both e at w leads q)
        writes-set v b u writes (NextSet.value_refused {at = x} {why = w} m l q) = absurd (good_value w (subst (λ y. RefusesValue program s y value w) (same-at x l) q))
        writes-set v b u writes (NextSet.shape {at = x} {t = y} {leaf = z} m l ok st is none) =
            absurd (none v (subst (λ p. WritesAt program s p z v) (sym (same-at x l)) (subst (λ q. WritesAt program s at q v) (sym (same-leaf x y z l st is)) writes)))
        writes-set v b u writes (NextSet.writes {at = x} {t = y} {leaf = z} {u = w} m l ok st is also) = (refl, writes-one program settled s good at leaf v w writes (writes-there x y z w l st is also))

  pub set-one : (t u : State) (a b : Answer) → NextSet program s path value a t → NextSet program s path value b u → (a ≡ b) × (t ≡ u)
  set-one t u a b (NextSet.unbound n) next = unbound-set b u n next
  set-one t u a b (NextSet.refused {why} n r) next = refused-set n why b u r next
  set-one t u a b (NextSet.value_refused {at} {why} n l r) next = value-set n at l why b u r next
  set-one t u a b (NextSet.shape {at} {t = x} {leaf} n l ok st is none) next = shape-set n at l ok x st leaf is b u none next
  set-one t u a b (NextSet.writes {at} {t = x} {leaf} {u = v} n l ok st is w) next = writes-set n at l ok x st leaf is v b u w next

-- ---- what is written stays good

-- what a good value is set in holds no characters
no-chars : (program : Program) (s : State) (at : Spot) (value : Given) → ((why : Why) → ¬ RefusesValue program s at value why) → (id : ℕ) (o : Object) → at.owner ≡ Of id → object_of s.heap.graph.objects id ≡ Some o → o.kind ≢ Chars
no-chars program s at value ok id o owner there chars = ok WrongType (RefusesValue.not_suited (λ idle. ok Inactive (RefusesValue.idle idle)) (λ suited. suited.3 (id, o, owner, there, chars)))

pub set-good : (program : Program) (layouts : Layouts) → Settled program → (s : State) → IsGoodState program layouts s → (path : Route) (value : Given) (t : State) (a : Answer) → NextSet program s path value a t → IsGoodState program layouts t
set-good program layouts settled s good path value t a (NextSet.unbound n) = good
set-good program layouts settled s good path value t a (NextSet.refused n r) = good
set-good program layouts settled s good path value t a (NextSet.value_refused n l r) = good
set-good program layouts settled s good path value t a (NextSet.shape n l ok st is none) = good
set-good program layouts settled s good path value t a (NextSet.writes {at} {leaf} {u} n l ok st is w) = writes-good program layouts settled s good at leaf u (no-chars program s at value ok) w
