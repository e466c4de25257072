-- A value is refused for one reason, it is one leaf, and writing it leaves one state.
use Rattle.std.proofs.Common.{◌≡◌, ℕ, IsTrue, List, [], ◌∷◌, refl, ap, sym, subst, ◌∙◌, Some}
use Rattle.gt_types.specs.declared.types.Ty.{Ty}
use Rattle.gt_types.specs.declared.types.Ty.TheVariants as ty
use Rattle.gt_types.specs.declared.program.Program.{Program}
use Rattle.gt_types.specs.Settled.{Settled}
use Rattle.gt_types.specs.Shapes.{is_number}
use Rattle.gt_script.specs.declared.command.Given.{Given}
use Rattle.gt_tree.specs.Trees.{Tree, Row, To, Raw, tree_at, with_part}
use Rattle.gt_tree.specs.Blocks.{element_type}
use Rattle.gt_tree.specs.Reshapes.{Assigns}
use Rattle.gt_tree.specs.FixedLaws.{MayHold}
use Rattle.gt_tree.proofs.PathBits.{some-same}
use Rattle.gt_tree.proofs.WriteSame.{write-one, record-write-one}
use Rattle.gt_graph.specs.Objects.{Object, Graph, blocks_of, object_of}
use Rattle.gt_graph.specs.Changes.{Owner, with_value, AssignsElement, Writes}
use Rattle.gt_graph.specs.Good.{IsGraph}
use Rattle.gt_next.specs.declared.answer.Why.{Why}
use Rattle.gt_next.specs.States.{State, Variables, meaning}
use Rattle.gt_next.specs.Spots.{Spot}
use Rattle.gt_next.specs.Leaves.{is_word_type, IsLeaf, RefusesValue}
use Rattle.gt_next.specs.Next.{WritesAt}
use Rattle.gt_determined.proofs.Grounds.{object-sound}
use Rattle.gt_determined.proofs.Numbers.{bytes-same}

pub value-why-one : {program : Program} {s : State} {at : Spot} {value : Given} (why other : Why) → RefusesValue program s at value why → RefusesValue program s at value other → why ≡ other
value-why-one why other (RefusesValue.idle a) (RefusesValue.idle b) = refl
value-why-one why other (RefusesValue.idle a) (RefusesValue.not_suited b n) = absurd (b a)
value-why-one why other (RefusesValue.idle a) (RefusesValue.beyond b n st far) = absurd (b a)
value-why-one why other (RefusesValue.not_suited a n) (RefusesValue.idle b) = absurd (a b)
value-why-one why other (RefusesValue.not_suited a n) (RefusesValue.not_suited b m) = refl
value-why-one why other (RefusesValue.not_suited a n) (RefusesValue.beyond b m st far) = absurd (n m)
value-why-one why other (RefusesValue.beyond a n st far) (RefusesValue.idle b) = absurd (a b)
value-why-one why other (RefusesValue.beyond a n st far) (RefusesValue.not_suited b m) = absurd (m n)
value-why-one why other (RefusesValue.beyond a n st far) (RefusesValue.beyond b m sp further) = refl

-- ---- leaves

number-or-word : (type : Ty) → IsTrue (is_number type) → IsTrue (is_word_type type) → ⊥
number-or-word (ty.Opaque size align) n w = cc
number-or-word type n w = cc

pub leaf-one : {variables : Variables} {type : Ty} {value : Given} (leaf other : Tree) → IsLeaf variables type value leaf → IsLeaf variables type value other → leaf ≡ other
leaf-one leaf other (IsLeaf.a_number n) (IsLeaf.a_number m) = refl
leaf-one {type = type} leaf other (IsLeaf.a_number n) (IsLeaf.a_word w c small) = absurd (number-or-word type n w)
leaf-one {type = type} leaf other (IsLeaf.a_word w c small) (IsLeaf.a_number n) = absurd (number-or-word type n w)
leaf-one leaf other (IsLeaf.a_word {bytes = xs} w c small) (IsLeaf.a_word {bytes = ys} v d less) = ap Raw (bytes-same xs ys c.0 d.0 small less (λ i lt. sym (c.2 i lt) ∙ d.2 i lt))
leaf-one leaf other IsLeaf.null IsLeaf.null = refl
leaf-one {variables} leaf other (IsLeaf.a_variable {name} {id} e) (IsLeaf.a_variable {id = j} h) = ap To (some-same (meaning variables name) id j e h)

-- ---- writes

module _ (program : Program) (settled : Settled program) (g : Graph) where
  element-one : (o : Object) (path : List ℕ) (leaf a b : Tree) → MayHold program o.kind → AssignsElement program g o path leaf a → AssignsElement program g o path leaf b → a ≡ b
  element-one o path leaf a b may x y =
      let lists : y.place ∷ y.rest ≡ x.place ∷ x.rest = sym y.leads ∙ x.leads in
      let place : y.place ≡ x.place = cc in
      let rest : y.rest ≡ x.rest = cc in
      let rows : Row y.elements ≡ Row x.elements = sym y.row ∙ x.row in
      let elements : y.elements ≡ x.elements = cc in
      let there : tree_at x.elements x.place ≡ Some y.old_element = subst (λ i. tree_at x.elements i ≡ Some y.old_element) place (subst (λ ts. tree_at ts y.place ≡ Some y.old_element) elements y.there) in
      let old : y.old_element ≡ x.old_element = some-same (tree_at x.elements x.place) y.old_element x.old_element there x.there in
      let assigns : Assigns program (blocks_of g.objects) g.statics o.capacity (element_type program o.kind) x.old_element x.rest leaf y.new_element =
      subst (λ t. Assigns program (blocks_of g.objects) g.statics o.capacity (element_type program o.kind) t x.rest leaf y.new_element) old
      (subst (λ p. Assigns program (blocks_of g.objects) g.statics o.capacity (element_type program o.kind) y.old_element p leaf y.new_element) rest y.assigns) in
      let new : x.new_element ≡ y.new_element = write-one program settled (blocks_of g.objects) g.statics o.kind o.capacity x.old_element x.rest leaf x.new_element y.new_element may x.assigns assigns in
      x.made ∙ ap (λ t. with_part o.value (x.place ∷ []) t) new ∙ ap (λ i. with_part o.value (i ∷ []) y.new_element) (sym place) ∙ sym y.made

  writes-in : IsGraph program g → (owner : Owner) (path : List ℕ) (leaf : Tree) (a b : Graph) → Writes program g owner path leaf a → Writes program g owner path leaf b → a ≡ b
  writes-in good owner path leaf a b (Writes.in_statics {statics = x} h) (Writes.in_statics {statics = y} k) =
      let same : x ≡ y = record-write-one program settled (blocks_of g.objects) g.statics path leaf x y h k in
      ap (λ st. let new : Graph = record g { statics = st } in new) same
  writes-in good owner path leaf a b (Writes.in_object {id} {o} {value = x} e h) (Writes.in_object {o = p} {value = y} f k) =
      let same : p ≡ o = some-same (object_of g.objects id) p o f e in
      let there : AssignsElement program g o path leaf y = subst (λ q. AssignsElement program g q path leaf y) same k in
      let value : x ≡ y = element-one o path leaf x y (object-sound program g id o good e).may_hold h there in
      ap (λ v. let new : Graph = record g { objects = with_value g.objects id v } in new) value

pub writes-one : (program : Program) → Settled program → (s : State) → IsGraph program s.heap.graph → (at : Spot) (leaf : Tree) (t u : State) → WritesAt program s at leaf t → WritesAt program s at leaf u → t ≡ u
writes-one program settled s good at leaf t u (g, writes, e) (h, others, f) =
    let same : g ≡ h = writes-in program settled s.heap.graph good at.owner at.path leaf g h writes others in
    e ∙ ap (λ x. let new : State = record s { heap = record s.heap { graph = x } } in new) same ∙ sym f
