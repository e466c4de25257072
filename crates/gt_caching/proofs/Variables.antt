-- What variables mean as keys and values.
use Rattle.std.proofs.Common.{◌≡◌, ℕ, List, ap, sym, ◌∙◌, subst, Option, Some, None}
use Rattle.std.specs.Prelude.{option_map}
use Rattle.gt_types.specs.declared.types.TypeId.{TypeId}
use Rattle.gt_tree.specs.Blocks.{Nodes}
use Rattle.gt_tree.proofs.PathBits.{some-same}
use Rattle.gt_value.specs.Names.{kind_of}
use Rattle.gt_io.specs.Held.{Held}
use Rattle.gt_graph.specs.Objects.{Object, object_of, block_of, blocks_of}
use Rattle.gt_graph.specs.Good.{IsSingle}
use Rattle.gt_objects.specs.declared.objects.Known.{Known}
use Rattle.gt_objects.specs.Knowing.{IsKnownAt}
use Rattle.gt_next.specs.declared.answer.Why.TheVariants.{Unbound, WrongType}
use Rattle.gt_next.specs.States.{State, meaning}
use Rattle.gt_next.specs.Caching.{IsMember, RefusesMember}
use Rattle.gt_session.specs.declared.session.Session.{Session}
use Rattle.gt_session.specs.Sessions.{StandsFor}

-- what is known of an object says that it is a single structure of a type
abbrev SaysSingle : Known → TypeId → Type 0
SaysSingle known type = (kind_of known.kind ≡ Nodes type) × (known.count ≡ 1)

module _ (objects : List Object) (id : ℕ) (type : TypeId) where
  said-single : (known : Known) → IsKnownAt objects id (Some known) → SaysSingle known type → IsSingle objects id type
  said-single known (o, found, is) says = (block_of o, ap (option_map block_of) found, is.kind ∙ says.0, is.count ∙ says.1)

  said-other : (known : Known) → IsKnownAt objects id (Some known) → ¬ SaysSingle known type → ¬ IsSingle objects id type
  said-other known (o, found, is) differs (b, e, kind, count) =
      let same = some-same (blocks_of objects id) b (block_of o) e (ap (option_map block_of) found) in
      differs (sym is.kind ∙ ap (λ x. x.kind) (sym same) ∙ kind, sym is.count ∙ ap (λ x. x.count) (sym same) ∙ count)

  unknown-other : IsKnownAt objects id None → ¬ IsSingle objects id type
  unknown-other none (b, e, kind, count) = let nothing : blocks_of objects id ≡ None = ap (option_map block_of) none in absurd (cc)

module _ (session : Session) (told : Option Held) (s : State) (st : StandsFor session told s) (name : List ℕ) (type : TypeId) where
  bound-in : (m : Option ℕ) → m ≡ meaning session.vars name → meaning s.variables name ≡ m
  bound-in m e = ap (λ v. meaning v name) st.holds.variables ∙ sym e

  pub unbound-member : None ≡ meaning session.vars name → RefusesMember s name type Unbound
  unbound-member e = RefusesMember.unbound (bound-in None e)

  pub is-member : (id : ℕ) (known : Known) → Some id ≡ meaning session.vars name → IsKnownAt s.heap.graph.objects id (Some known) → SaysSingle known type → IsMember s name type id
  is-member id known e at says = record { bound = bound-in (Some id) e; single = said-single s.heap.graph.objects id type known at says }

  pub other-member : (id : ℕ) (known : Known) → Some id ≡ meaning session.vars name → IsKnownAt s.heap.graph.objects id (Some known) → ¬ SaysSingle known type → RefusesMember s name type WrongType
  other-member id known e at differs = RefusesMember.other (bound-in (Some id) e) (said-other s.heap.graph.objects id type known at differs)

  pub unknown-member : (id : ℕ) → Some id ≡ meaning session.vars name → IsKnownAt s.heap.graph.objects id None → RefusesMember s name type WrongType
  unknown-member id e none = RefusesMember.other (bound-in (Some id) e) (unknown-other s.heap.graph.objects id type none)
