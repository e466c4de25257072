-- What a path reads from a value is what it reads from the value without its pointers.
use Rattle.std.proofs.Common.{◌≡◌, ℕ, zero, suc, Bool, true, false, cond, List, [], ◌∷◌, refl, ap, ◌∙◌, Option, Some, None}
use Rattle.std.specs.Prelude.{slice_get}
use Rattle.std.specs.Str.{bytes_eq}
use Rattle.std.specs.List.{position_from}
use Rattle.gt_types.specs.declared.types.TypeId.{TypeId}
use Rattle.gt_types.specs.declared.types.Ty.{Ty}
use Rattle.gt_types.specs.declared.types.Ty.TheVariants as ty
use Rattle.gt_types.specs.declared.program.Field.{Field}
use Rattle.gt_types.specs.declared.program.Structure.{Structure}
use Rattle.gt_types.specs.declared.program.Program.{Program}
use Rattle.gt_tree.specs.Trees.{Tree, Num, Null, To, Raw, Rec, Alt, Row, Trees, End, And, tree_at, without_pointers, all_without_pointers}
use Rattle.gt_tree.specs.Scopes.{Typed, typed, ◌then◌, is_of_node, first_type_of, beginning, beginning_of, type_there, field_of, member_of, step_in, step, number_at, read_path}

plain-number : (tree : Tree) → number_at (without_pointers tree) ≡ number_at tree
plain-number (Num n) = refl
plain-number Null = refl
plain-number (To id) = refl
plain-number (Raw bytes) = refl
plain-number (Rec trees) = refl
plain-number (Alt member tree) = refl
plain-number (Row trees) = refl

plain-at : (trees : Trees) (i : ℕ) → tree_at (all_without_pointers trees) i ≡ (tree_at trees i then λ tree. Some (without_pointers tree))
plain-at End i = refl
plain-at (And tree trees) zero = refl
plain-at (And tree trees) (suc i) = plain-at trees i

either : (b : Bool) (tree : Tree) (x y : Option Tree) → x ≡ (y then λ t. Some (without_pointers t)) → cond b (Some (without_pointers tree)) x ≡ (cond b (Some tree) y then λ t. Some (without_pointers t))
either true tree x y e = refl
either false tree x y e = e

mutual
  plain-beginning : (program : Program) (node : TypeId) (type : Option Ty) (tree : Tree) → beginning program node type (without_pointers tree) ≡ (beginning program node type tree then λ t. Some (without_pointers t))
  plain-beginning program node type (Num n) = either (is_of_node node type) (Num n) None None refl
  plain-beginning program node type Null = either (is_of_node node type) Null None None refl
  plain-beginning program node type (To id) = either (is_of_node node type) (To id) None None refl
  plain-beginning program node type (Raw bytes) = either (is_of_node node type) (Raw bytes) None None refl
  plain-beginning program node type (Rec trees) =
      either (is_of_node node type) (Rec trees) (beginning_of program node (first_type_of program type) (all_without_pointers trees)) (beginning_of program node (first_type_of program type) trees)
      (plain-beginning_of program node (first_type_of program type) trees)
  plain-beginning program node type (Alt member tree) = either (is_of_node node type) (Alt member tree) None None refl
  plain-beginning program node type (Row trees) = either (is_of_node node type) (Row trees) None None refl

  plain-beginning_of : (program : Program) (node : TypeId) (type : Option Ty) (trees : Trees)
      → beginning_of program node type (all_without_pointers trees) ≡ (beginning_of program node type trees then λ t. Some (without_pointers t))
  plain-beginning_of program node type End = refl
  plain-beginning_of program node type (And tree trees) = plain-beginning program node type tree

-- the same part, without its pointers
abbrev bare : Typed → Option Typed
bare x = Some (typed x.type (without_pointers x.value))

then-typed : (type : Ty) (o : Option Tree) → ((o then λ t. Some (without_pointers t)) then λ t. Some (typed type t)) ≡ ((o then λ t. Some (typed type t)) then bare)
then-typed type None = refl
then-typed type (Some t) = refl

plain-field : (f : Field) (tree : Tree) (place : ℕ) → field_of f (without_pointers tree) place ≡ (field_of f tree place then bare)
plain-field f (Num n) place = refl
plain-field f Null place = refl
plain-field f (To id) place = refl
plain-field f (Raw bytes) place = refl
plain-field f (Rec trees) place = ap (λ o. o then λ t. Some (typed f.ty t)) (plain-at trees place) ∙ then-typed f.ty (tree_at trees place)
plain-field f (Alt member tree) place = refl
plain-field f (Row trees) place = refl

plain-member_at : (program : Program) (s : Structure) (common : TypeId) (desc : _) (tree : Tree) → member_of program s (ty.Node common desc) (without_pointers tree) ≡ (member_of program s (ty.Node common desc) tree then bare)
plain-member_at program s common desc (Num n) = refl
plain-member_at program s common desc Null = refl
plain-member_at program s common desc (To id) = refl
plain-member_at program s common desc (Raw bytes) = refl
plain-member_at program s common desc (Rec trees) = refl
plain-member_at program s common desc (Alt member tree) =
    ap (λ o. o then λ t. Some (typed (ty.Node common desc) t)) (plain-beginning program common (type_there s common member) tree)
    ∙ then-typed (ty.Node common desc) (beginning program common (type_there s common member) tree)
plain-member_at program s common desc (Row trees) = refl

plain-member : (program : Program) (s : Structure) (type : Ty) (tree : Tree) → member_of program s type (without_pointers tree) ≡ (member_of program s type tree then bare)
plain-member program s (ty.Node common desc) tree = plain-member_at program s common desc tree
plain-member program s type tree = refl

plain-either : (b : Bool) (x y u v : Option Typed) → x ≡ (u then bare) → y ≡ (v then bare) → cond b x y ≡ (cond b u v then bare)
plain-either true x y u v e f = e
plain-either false x y u v e f = f

plain-found : (program : Program) (s : Structure) (tree : Tree) (place : ℕ) (o : Option Field)
    → (o then λ f. cond s.is_union (member_of program s f.ty (without_pointers tree)) (field_of f (without_pointers tree) place))
    ≡ ((o then λ f. cond s.is_union (member_of program s f.ty tree) (field_of f tree place)) then bare)
plain-found program s tree place None = refl
plain-found program s tree place (Some f) =
    plain-either s.is_union (member_of program s f.ty (without_pointers tree)) (field_of f (without_pointers tree) place) (member_of program s f.ty tree) (field_of f tree place)
    (plain-member program s f.ty tree) (plain-field f tree place)

plain-placed : (program : Program) (s : Structure) (tree : Tree) (o : Option ℕ)
    → (o then λ place. slice_get s.fields place then λ f. cond s.is_union (member_of program s f.ty (without_pointers tree)) (field_of f (without_pointers tree) place))
    ≡ ((o then λ place. slice_get s.fields place then λ f. cond s.is_union (member_of program s f.ty tree) (field_of f tree place)) then bare)
plain-placed program s tree None = refl
plain-placed program s tree (Some place) = plain-found program s tree place (slice_get s.fields place)

plain-in : (program : Program) (name : List ℕ) (tree : Tree) (o : Option Structure) → (o then λ s. step_in program s name (without_pointers tree)) ≡ ((o then λ s. step_in program s name tree) then bare)
plain-in program name tree None = refl
plain-in program name tree (Some s) = plain-placed program s tree (position_from (λ f. bytes_eq f.name name) 0 s.fields)

plain-step : (program : Program) (type : Ty) (name : List ℕ) (tree : Tree) → step program type name (without_pointers tree) ≡ (step program type name tree then bare)
plain-step program (ty.Node node desc) name tree = plain-in program name tree (slice_get program.structures node.0)
plain-step program type name tree = refl

plain-rest : (program : Program) (names : List (List ℕ)) → ((type : Ty) (tree : Tree) → read_path program names type (without_pointers tree) ≡ read_path program names type tree) → (o : Option Typed)
    → ((o then bare) then λ next. read_path program names next.type next.value) ≡ (o then λ next. read_path program names next.type next.value)
plain-rest program names rest None = refl
plain-rest program names rest (Some x) = rest x.type x.value

pub plain-read : (program : Program) (names : List (List ℕ)) (type : Ty) (tree : Tree) → read_path program names type (without_pointers tree) ≡ read_path program names type tree
plain-read program [] type tree = plain-number tree
plain-read program (name ∷ names) type tree =
    ap (λ o. o then λ next. read_path program names next.type next.value) (plain-step program type name tree) ∙ plain-rest program names (plain-read program names) (step program type name tree)

-- so does a path through a union
pub plain-then : (program : Program) (names : List (List ℕ)) (s : Structure) (type : Ty) (tree : Tree)
    → (member_of program s type (without_pointers tree) then λ next. read_path program names next.type next.value) ≡ (member_of program s type tree then λ next. read_path program names next.type next.value)
plain-then program names s type tree =
    ap (λ o. o then λ next. read_path program names next.type next.value) (plain-member program s type tree) ∙ plain-rest program names (plain-read program names) (member_of program s type tree)
