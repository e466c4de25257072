-- The types of the elements of blocks, as they are made one after another.
use Rattle.std.proofs.Common.{◌≡◌, ◌<◌, ◌≤◌, ℕ, zero, suc, ◌+◌, List, [], ◌∷◌, ◌++◌, length, get_or, Some, refl, sym, ap, subst, ◌∙◌, arith, inl, inr}
use Rattle.std.specs.Prelude.{slice_get}
use Rattle.std.proofs.lemmas.Bool.{cases_lt}
use Rattle.std.proofs.lemmas.Option.{get_or_from_slice_get, slice_get_within}
use Rattle.gt_types.specs.declared.types.TypeId.{TypeId}
use Rattle.gt_types.specs.declared.types.Ty.{Ty}
use Rattle.gt_types.specs.declared.types.Ty.TheVariants as ty
use Rattle.gt_types.specs.declared.program.Structure.{Structure}
use Rattle.gt_tree.proofs.PathBits.{some-same}
use Rattle.gt_types.specs.declared.program.Program.{Program}
use Rattle.gt_tree.specs.Blocks.{desc_of, element_type}
use Rattle.gt_tree.specs.FixedLaws.{MayHold}
use Rattle.gt_value.specs.declared.names.BlockKind.{BlockKind}
use Rattle.gt_value.specs.declared.names.BlockKind.TheVariants as told
use Rattle.gt_value.specs.Names.{kind_of}
use Rattle.gt_held.specs.declared.types.ElementTypes.{ElementTypes}
use Rattle.gt_held.specs.Types.{AreElementTypesOf, AreNodesOf, ArePointersOf, pointer_to}

-- ---- lists

pub get-first : {X : Type 0} (xs ys : List X) (k : ℕ) (x : X) → slice_get xs k ≡ Some x → slice_get (xs ++ ys) k ≡ Some x
get-first [] ys k x at = absurd (cc)
get-first (y ∷ xs) ys zero x at = at
get-first (y ∷ xs) ys (suc k) x at = get-first xs ys k x at

get-last : {X : Type 0} (xs : List X) (y : X) → slice_get (xs ++ y ∷ []) (length xs) ≡ Some y
get-last [] y = refl
get-last (x ∷ xs) y = get-last xs y

pub get-pushed : {X : Type 0} (xs : List X) (y : X) (k : ℕ) → length xs ≡ k → slice_get (xs ++ y ∷ []) k ≡ Some y
get-pushed xs y k many = ap (slice_get (xs ++ y ∷ [])) (sym many) ∙ get-last xs y

abbrev pub id : ℕ → TypeId
id n = let node : TypeId = record { 0 = n } in node

-- ---- structures

-- the types of so many structures
abbrev pub NodesBefore : ℕ → List Structure → List Ty → Type 0
NodesBefore n ss ts = (node : TypeId) (s : Structure) → node.0 < n → slice_get ss node.0 ≡ Some s → slice_get ts node.0 ≡ Some (ty.Node node s.desc)

pub nodes-more : (n : ℕ) (ss : List Structure) (ts : List Ty) (s : Structure) → length ts ≡ n → NodesBefore n ss ts → slice_get ss n ≡ Some s
    → NodesBefore (n + 1) ss (ts ++ ty.Node (id n) s.desc ∷ [])
nodes-more n ss ts s many before at node other low got = elim (cases_lt node.0 n) [
  | inl less ↦ get-first ts (ty.Node (id n) s.desc ∷ []) node.0 (ty.Node node other.desc) (before node other less got)
  | inr past ↦
      let here : node.0 ≡ n = omega (arith, low, past) in
      let same : s ≡ other = some-same (slice_get ss n) s other at (subst (λ k. slice_get ss k ≡ Some other) here got) in
      get-pushed ts (ty.Node (id n) s.desc) node.0 (many ∙ sym here) ∙ ap (λ k. Some (ty.Node (id k) s.desc)) (sym here) ∙ ap (λ (x : Structure). Some (ty.Node node x.desc)) same
]

pub nodes-all : (n : ℕ) (ss : List Structure) (ts : List Ty) → length ss ≤ n → NodesBefore n ss ts → AreNodesOf ss ts
nodes-all n ss ts past before node s at = before node s (let within = slice_get_within ss node.0 s at in omega (arith, within, past)) at

-- ---- pointers

pub pointers-more : (n : ℕ) (ts : List Ty) → length ts ≡ n → ArePointersOf n ts → ArePointersOf (n + 1) (ts ++ pointer_to (id n) ∷ [])
pointers-more n ts many before node low = elim (cases_lt node.0 n) [
  | inl less ↦ get-first ts (pointer_to (id n) ∷ []) node.0 (pointer_to node) (before node less)
  | inr past ↦ let here : node.0 ≡ n = omega (arith, low, past) in get-pushed ts (pointer_to (id n)) node.0 (many ∙ sym here) ∙ ap (λ k. Some (pointer_to (id k))) (sym here)
]

-- ---- what is found

module _ (program : Program) (types : ElementTypes) (are : AreElementTypesOf program types) (kind : BlockKind) (may : MayHold program (kind_of kind)) where
  pub pointer-found : (node : TypeId) → kind ≡ told.Pointers node → slice_get types.pointers.items node.0 ≡ Some (pointer_to node)
  pointer-found node is =
      let stands = subst (λ (k : BlockKind). MayHold program (kind_of k)) is may in
      are.pointers node (slice_get_within program.structures node.0 stands.0 stands.1)

  pub pointer-type : (node : TypeId) (found : Ty) → kind ≡ told.Pointers node → found ≡ get_or types.pointers.items node.0 found → found ≡ element_type program (kind_of kind)
  pointer-type node found is got =
      got ∙ get_or_from_slice_get types.pointers.items node.0 (pointer_to node) found (pointer-found node is) ∙ ap (λ (k : BlockKind). element_type program (kind_of k)) (sym is)

  pub node-type : (node : TypeId) (found : Ty) → kind ≡ told.Nodes node → found ≡ get_or types.nodes.items node.0 found → found ≡ element_type program (kind_of kind)
  node-type node found is got =
      let stands = subst (λ (k : BlockKind). MayHold program (kind_of k)) is may in
      got ∙ get_or_from_slice_get types.nodes.items node.0 (ty.Node node stands.0.desc) found (are.nodes node stands.0 stands.1)
      ∙ ap (λ s. ty.Node node (desc_of s)) (sym stands.1) ∙ ap (λ (k : BlockKind). element_type program (kind_of k)) (sym is)
