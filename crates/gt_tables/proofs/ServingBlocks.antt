-- What the walks of blocks serve.
use Rattle.std.proofs.Common.{◌≡◌, ◌∙◌, ℕ, ◌+◌, ◌≤◌, List, [], ◌∷◌, ◌++◌, length, ap, sym, subst, Option, Some, inl, inr, arith}
use Rattle.std.specs.Prelude.{slice_get}
use Rattle.std.proofs.lemmas.Option.{slice_get_within}
use Rattle.gt_types.specs.declared.types.TypeId.{TypeId}
use Rattle.gt_types.specs.declared.program.Structure.{Structure}
use Rattle.gt_types.specs.declared.program.Program.{Program}
use Rattle.gt_types.specs.Contains.{HasStructure}
use Rattle.gt_types.specs.Paths.{MayStand}
use Rattle.gt_layout.specs.declared.planes.Plane.{Plane}
use Rattle.gt_walk.specs.declared.rows.WalkRow.{WalkRow}
use Rattle.gt_walk.specs.declared.rows.WalkRow.TheVariants as row
use Rattle.gt_edges.specs.Walks.{Around, inside, outside}
use Rattle.gt_tables.specs.declared.sources.Around.{Around as CodeAround}
use Rattle.gt_tables.specs.declared.sources.Source.{Source}
use Rattle.gt_tables.specs.declared.parts.Parts.{Parts}
use Rattle.gt_edges.specs.Notes.{chain_offset}
use Rattle.gt_tables.specs.Building.{Grows, around_of, alone, ServesStructure, ServesWalk, ServesWalks, IsPointerWalk, ServesPointers}
use Rattle.gt_tables.proofs.Serving.{fewer-on}
use Rattle.gt_tables.proofs.ServingRoots.{get-front, get-cases}

abbrev as_code : Around → CodeAround
as_code a = record { here = a.here; outer = a.outer; outermost = a.outermost }

-- inside a structure and outside all others, it stands alone
pub is-alone : (inner : CodeAround) (around : Around) (node : TypeId) → around ≡ outside → around_of inner ≡ inside around node → inner ≡ alone node
is-alone inner around node out is =
    let all : around_of inner ≡ inside outside node = is ∙ ap (λ a. inside a node) out in
    ap as_code all

pub one-structure : (program : Program) (node : TypeId) (s t : Structure) → HasStructure program node s → HasStructure program node t → s ≡ t
one-structure program node s t a b =
    let same : Some s ≡ Some t = sym a ∙ b in
    cc

pub one-plane : (planes : List Plane) (k : ℕ) (p q : Plane) → slice_get planes k ≡ Some p → slice_get planes k ≡ Some q → p ≡ q
one-plane planes k p q a b =
    let same : Some p ≡ Some q = sym a ∙ b in
    cc

-- ---- walks of structures

pub walk-stands : (source : Source) (walks : List (List WalkRow)) (node : TypeId) (s : Structure) (inner : CodeAround) (chain : Option ℕ) (rows : List WalkRow) → HasStructure source.program.now node s → MayStand source.program.now node
    → inner ≡ alone node → chain ≡ chain_offset source.program.now source.layouts.now.structures node s → ServesStructure source walks inner node s.desc chain rows → ServesWalk source walks node rows
walk-stands source walks node s inner chain rows has stands inner-is chain-is serves =
    let program = source.program.now in
    let planes = source.layouts.now.structures in
    let here : ServesStructure source walks (alone node) node s.desc (chain_offset program planes node s) rows =
    subst (λ c. ServesStructure source walks (alone node) node s.desc c rows) chain-is (subst (λ a. ServesStructure source walks a node s.desc chain rows) inner-is serves) in
    record {
      stands = λ t has-t may. subst (λ x. ServesStructure source walks (alone node) node x.desc (chain_offset program planes node x) rows) (one-structure program node s t has has-t) here;
      inner = λ t plane has-t got not-so. absurd (not-so stands);
    }

pub walk-inner : (source : Source) (walks : List (List WalkRow)) (node : TypeId) (s : Structure) (plane : Plane) (chain : Option ℕ) (rows : List WalkRow) → HasStructure source.program.now node s
    → slice_get source.layouts.now.structures node.0 ≡ Some plane → ¬ MayStand source.program.now node → chain ≡ chain_offset source.program.now source.layouts.now.structures node s
    → rows ≡ row.Note plane.size chain ∷ [] → ServesWalk source walks node rows
walk-inner source walks node s plane chain rows has got not-so chain-is is =
    let program = source.program.now in
    let planes = source.layouts.now.structures in
    record {
      stands = λ t has-t may. absurd (not-so may);
      inner = λ t other has-t got-other no-stand.
          is ∙ ap (λ c. row.Note plane.size c ∷ []) (chain-is ∙ ap (chain_offset program planes node) (one-structure program node s t has has-t))
          ∙ ap (λ (p : Plane). row.Note p.size (chain_offset program planes node t) ∷ []) (one-plane planes node.0 plane other got got-other);
    }

pub walk-on : (source : Source) (a b : Parts) → Grows source.program.now a b → (node : TypeId) (rows : List WalkRow) → ServesWalk source a.walks.items node rows → ServesWalk source b.walks.items node rows
walk-on source a b grows node rows serves = record {
  stands = λ s has may.
      let was = serves.stands s has may in
      record { plane = was.plane; rest = was.rest; plane_is = was.plane_is; is = was.is; are = λ tables h. was.are tables (fewer-on source.program.now a b grows tables h) };
  inner = serves.inner;
}

-- each of so many walks serves the structure of its number
abbrev pub EachServes : Source → List (List WalkRow) → List (List WalkRow) → Type 0
EachServes source parts walks = (node : TypeId) (rows : List WalkRow) → slice_get walks node.0 ≡ Some rows → ServesWalk source parts node rows

pub each-none : (source : Source) (parts walks : List (List WalkRow)) → walks ≡ [] → EachServes source parts walks
each-none source parts walks is node rows got =
    let none : slice_get {X = List WalkRow} [] node.0 ≡ Some rows = ap (λ ws. slice_get ws node.0) (sym is) ∙ got in
    absurd (cc)

pub each-step : (source : Source) (a b : Parts) → Grows source.program.now a b → (old new : List (List WalkRow)) (one : List WalkRow) (node : TypeId) → node.0 ≡ length old → new ≡ old ++ one ∷ []
    → ServesWalk source b.walks.items node one → EachServes source a.walks.items old → EachServes source b.walks.items new
each-step source a b grows old new one node at is serves so id rows got = elim (get-cases old one rows id.0 (ap (λ ws. slice_get ws id.0) (sym is) ∙ got)) [
  | inl was ↦ walk-on source a b grows id rows (so id rows was)
  | inr last ↦
      let same : node ≡ id = ap (λ (n : ℕ). record { 0 = n }) (at ∙ sym last.0) in
      subst (λ n. ServesWalk source b.walks.items n rows) same (subst (ServesWalk source b.walks.items node) last.1 serves)
]

pub each-all : (source : Source) (parts walks : List (List WalkRow)) → EachServes source parts walks → ServesWalks source parts walks
each-all source parts walks so node rows within got = so node rows got

-- they do so before other walks
pub walks-front : (source : Source) (parts walks more all : List (List WalkRow)) → all ≡ walks ++ more → length walks ≡ length source.program.now.structures → ServesWalks source parts walks → ServesWalks source parts all
walks-front source parts walks more all is long so node rows within got =
    so node rows within (sym (get-front walks more node.0 (omega (arith, long, within))) ∙ ap (λ ws. slice_get ws node.0) (sym is) ∙ got)

-- ---- walks of pointers

-- the walks after the first so many are those of pointers to structures
abbrev pub EachPoints : Program → ℕ → List (List WalkRow) → Type 0
EachPoints program first walks = (node : TypeId) (rows : List WalkRow) → slice_get walks (first + node.0) ≡ Some rows → IsPointerWalk program node rows

pub points-none : (program : Program) (walks : List (List WalkRow)) → EachPoints program (length walks) walks
points-none program walks node rows got = absurd (omega (arith, slice_get_within walks (length walks + node.0) rows got))

pub points-step : (program : Program) (first : ℕ) (old new : List (List WalkRow)) (one : List WalkRow) (node : TypeId) → length old ≡ first + node.0 → new ≡ old ++ one ∷ []
    → IsPointerWalk program node one → EachPoints program first old → EachPoints program first new
points-step program first old new one node at is points so id rows got = elim (get-cases old one rows (first + id.0) (ap (λ ws. slice_get ws (first + id.0)) (sym is) ∙ got)) [
  | inl was ↦ so id rows was
  | inr last ↦
      let number : node.0 ≡ id.0 = omega (arith, at, last.0) in
      let same : node ≡ id = ap (λ (n : ℕ). record { 0 = n }) number in
      subst (λ n. IsPointerWalk program n rows) same (subst (IsPointerWalk program node) last.1 points)
]

pub points-all : (program : Program) (first : ℕ) (walks : List (List WalkRow)) → EachPoints program first walks → ServesPointers program first walks
points-all program first walks so node rows within got = so node rows got

pub points-front : (program : Program) (first : ℕ) (walks more all : List (List WalkRow)) → all ≡ walks ++ more → first + length program.structures ≤ length walks → ServesPointers program first walks
    → ServesPointers program first all
points-front program first walks more all is long so node rows within got =
    so node rows within (sym (get-front walks more (first + node.0) (omega (arith, long, within))) ∙ ap (λ ws. slice_get ws (first + node.0)) (sym is) ∙ got)
