-- Values whose pointers are null fit as well, and others fit beside them.
use Rattle.std.proofs.Common.{◌≡◌, ℕ, zero, suc, true, false, List, [], ◌∷◌, Option, Some, None, option_map, refl, ap, sym, subst, ◌∙◌}
use Rattle.std.specs.Prelude.{ℤ, Bool, if◌then◌else◌}
use Rattle.std.proofs.Math.Path.{fun_ext}
use Rattle.gt_types.specs.declared.expressions.Base.{Base}
use Rattle.gt_types.specs.declared.expressions.Base.TheVariants.{Here, Outer, Outermost}
use Rattle.gt_types.specs.declared.expressions.Expr.{Expr}
use Rattle.gt_types.specs.declared.types.TypeId.{TypeId}
use Rattle.gt_types.specs.declared.types.Ty.{Ty}
use Rattle.gt_types.specs.declared.types.Ty.TheVariants as ty
use Rattle.gt_types.specs.declared.program.Root.{Root}
use Rattle.gt_types.specs.declared.program.Structure.{Structure}
use Rattle.gt_types.specs.declared.program.Program.{Program}
use Rattle.gt_types.specs.Values.{value_of}
use Rattle.gt_tree.specs.Trees.{Tree, Num, Null, To, Raw, Rec, Alt, Row, Trees, End, And, count, tree_at, without_pointers, all_without_pointers}
use Rattle.gt_tree.specs.Blocks.{Kind, Blocks, MayName}
use Rattle.gt_tree.specs.Scopes.{Held, Scope, outside, inside, first_of, base_of, ◌then◌, number_at, read_path, leaf_in, root_in, eval_in}
use Rattle.gt_tree.specs.Fits.{Fits, AllFit, EachFits, BlockFits, IsActive, active_member, desc_value}
use Rattle.gt_tree.proofs.FixedParts.{may-pointer}
use Rattle.gt_tree.proofs.WritePlain.{plain-read}
use Rattle.gt_graph.specs.Kept.{without_deletable}

-- ---- values without pointers

mutual
  pub twice : (tree : Tree) → without_pointers (without_pointers tree) ≡ without_pointers tree
  twice (Num n) = refl
  twice Null = refl
  twice (To id) = refl
  twice (Raw bytes) = refl
  twice (Rec trees) = ap Rec (all_twice trees)
  twice (Alt member tree) = ap (Alt member) (twice tree)
  twice (Row trees) = ap Row (all_twice trees)

  pub all_twice : (trees : Trees) → all_without_pointers (all_without_pointers trees) ≡ all_without_pointers trees
  all_twice End = refl
  all_twice (And tree trees) = ap (λ t. And t (all_without_pointers (all_without_pointers trees))) (twice tree) ∙ ap (And (without_pointers tree)) (all_twice trees)

count_bare : (trees : Trees) → count (all_without_pointers trees) ≡ count trees
count_bare End = refl
count_bare (And tree trees) = ap suc (count_bare trees)

-- the values of roots, as they are without pointers, are those that a collection leaves without theirs
pub bare_roots : (roots : List Root) (trees : Trees) → all_without_pointers (without_deletable roots trees) ≡ all_without_pointers trees
bare_roots [] End = refl
bare_roots [] (And tree trees) = refl
bare_roots (r ∷ roots) End = refl
bare_roots (r ∷ roots) (And tree trees) = ap (λ t. And t (all_without_pointers (without_deletable roots trees))) (either r.deletable) ∙ ap (And (without_pointers tree)) (bare_roots roots trees)
  where
    either : (b : Bool) → without_pointers (if b then without_pointers tree else tree) ≡ without_pointers tree
    either true = twice tree
    either false = refl

-- ---- scopes

abbrev bare_held : Held → Held
bare_held h = record { node = h.node; value = without_pointers h.value }

-- two scopes that are the same but for pointers
pub record AreAlike (s t : Scope) : Type 0 where
  pub here : option_map bare_held s.here ≡ option_map bare_held t.here
  pub outer : option_map bare_held s.outer ≡ option_map bare_held t.outer
  pub outermost : option_map bare_held s.outermost ≡ option_map bare_held t.outermost
  pub statics : all_without_pointers s.statics ≡ all_without_pointers t.statics

pub outside_alike : (a b : Trees) → all_without_pointers a ≡ all_without_pointers b → AreAlike (outside a) (outside b)
outside_alike a b same = record { here = refl; outer = refl; outermost = refl; statics = same }

first_bare : (a b : Option Held) → option_map bare_held (first_of a b) ≡ first_of (option_map bare_held a) (option_map bare_held b)
first_bare None b = refl
first_bare (Some h) b = refl

pub inside_alike : (s t : Scope) (node : TypeId) (v w : Tree) → AreAlike s t → without_pointers v ≡ without_pointers w → AreAlike (inside s node v) (inside t node w)
inside_alike s t node v w alike same =
    let held : Some (bare_held (record { node = node; value = v })) ≡ Some (bare_held (record { node = node; value = w })) = ap (λ x. let h : Held = record { node = node; value = x } in Some h) same in
    record {
      here = held;
      outer = alike.here;
      outermost =
          first_bare s.outermost (Some (record { node = node; value = v }))
          ∙ ap (λ o. first_of o (Some (bare_held (record { node = node; value = v })))) alike.outermost
          ∙ ap (first_of (option_map bare_held t.outermost)) held
          ∙ sym (first_bare t.outermost (Some (record { node = node; value = w })));
      statics = alike.statics;
    }

-- ---- what expressions are worth

module _ (program : Program) where
  abbrev reads : List (List ℕ) → Held → Option ℤ
  reads steps h = read_path program steps (ty.Node h.node None) h.value

  then_bare : (steps : List (List ℕ)) (o : Option Held) → (o then reads steps) ≡ (option_map bare_held o then reads steps)
  then_bare steps None = refl
  then_bare steps (Some h) = sym (plain-read program steps (ty.Node h.node None) h.value)

  base_alike : (s t : Scope) → AreAlike s t → (base : Base) → option_map bare_held (base_of s base) ≡ option_map bare_held (base_of t base)
  base_alike s t alike Here = alike.here
  base_alike s t alike Outer = alike.outer
  base_alike s t alike Outermost = alike.outermost

  leaf_alike : (s t : Scope) → AreAlike s t → (base : Base) (steps : List (List ℕ)) → leaf_in program s base steps ≡ leaf_in program t base steps
  leaf_alike s t alike base steps =
      then_bare steps (base_of s base) ∙ ap (λ o. o then reads steps) (base_alike s t alike base) ∙ sym (then_bare steps (base_of t base))

  number_bare : (tree : Tree) → number_at tree ≡ number_at (without_pointers tree)
  number_bare (Num n) = refl
  number_bare Null = refl
  number_bare (To id) = refl
  number_bare (Raw bytes) = refl
  number_bare (Rec trees) = refl
  number_bare (Alt member tree) = refl
  number_bare (Row trees) = refl

  root_bare : (trees : Trees) (i : ℕ) → (tree_at trees i then number_at) ≡ (tree_at (all_without_pointers trees) i then number_at)
  root_bare End i = refl
  root_bare (And tree trees) zero = number_bare tree
  root_bare (And tree trees) (suc i) = root_bare trees i

  root_alike : (s t : Scope) → AreAlike s t → (i : ℕ) → root_in s i ≡ root_in t i
  root_alike s t alike i = root_bare s.statics i ∙ ap (λ trees. tree_at trees i then number_at) alike.statics ∙ sym (root_bare t.statics i)

  pub eval_alike : (s t : Scope) → AreAlike s t → eval_in program s ≡ eval_in program t
  eval_alike s t alike =
      ap (λ leaf. value_of leaf (root_in s)) (fun_ext (λ base. fun_ext (λ steps. leaf_alike s t alike base steps)))
      ∙ ap (value_of (leaf_in program t)) (fun_ext (root_alike s t alike))

  desc_alike : (s t : Scope) → AreAlike s t → (desc : Option Expr) → desc_value program s desc ≡ desc_value program t desc
  desc_alike s t alike None = refl
  desc_alike s t alike (Some e) = ap (λ f. f e) (eval_alike s t alike)

  active_alike : (s t : Scope) → AreAlike s t → (node : TypeId) (desc : Option Expr) (x : Structure) (v w : Tree) (member : Option ℕ) → without_pointers v ≡ without_pointers w
      → IsActive program s node desc x v member → IsActive program t node desc x w member
  active_alike s t alike node desc x v w member same is =
      sym (ap (λ o. active_member o x.fields) (desc_alike (inside s node v) (inside t node w) (inside_alike s t node v w alike same) desc)) ∙ is

  -- ---- what fits

  module _ {blocks : Blocks} {capacity : ℕ} where
    mutual
      -- a value fits in a scope that is alike
      pub fits_alike : {s : Scope} {type : Ty} {tree : Tree} → (t : Scope) → AreAlike s t → Fits program blocks capacity s type tree → Fits program blocks capacity t type tree
      fits_alike t alike (Fits.number room) = Fits.number room
      fits_alike t alike (Fits.bits room) = Fits.bits room
      fits_alike t alike (Fits.opaque long small) = Fits.opaque long small
      fits_alike t alike (Fits.null p) = Fits.null p
      fits_alike t alike (Fits.to {scope = s} {type} {id} m) = Fits.to (subst (λ f. MayName blocks f type id) (eval_alike s t alike) m)
      fits_alike t alike (Fits.struct {scope = s} {node} {trees} has struct all) =
          Fits.struct has struct (fields_alike (inside t node (Rec trees)) (inside_alike s t node (Rec trees) (Rec trees) alike refl) all)
      fits_alike t alike (Fits.member {scope = s} {node} {desc} {s = x} {place} {tree} has union active get fits) =
          Fits.member has union (active_alike s t alike node desc x (Alt (Some place) tree) (Alt (Some place) tree) (Some place) refl active) get
          (fits_alike (inside t node (Alt (Some place) tree)) (inside_alike s t node (Alt (Some place) tree) (Alt (Some place) tree) alike refl) fits)
      fits_alike t alike (Fits.common {scope = s} {node} {desc} {s = x} {tree} has union active o plain fits) =
          Fits.common has union (active_alike s t alike node desc x (Alt None tree) (Alt None tree) None refl active) o plain
          (fits_alike (inside t node (Alt None tree)) (inside_alike s t node (Alt None tree) (Alt None tree) alike refl) fits)
      fits_alike t alike (Fits.nothing {scope = s} {node} {desc} {s = x} has union active none) =
          Fits.nothing has union (active_alike s t alike node desc x (Alt None (Rec End)) (Alt None (Rec End)) None refl active) none
      fits_alike t alike (Fits.array e many each) = Fits.array e many (each_alike t alike each)
      fits_alike t alike (Fits.tail {scope = s} {length} e value le many each) = Fits.tail e (sym (ap (λ f. f length) (eval_alike s t alike)) ∙ value) le many (each_alike t alike each)

      pub fields_alike : {s : Scope} {types : List Ty} {trees : Trees} → (t : Scope) → AreAlike s t → AllFit program blocks capacity s types trees → AllFit program blocks capacity t types trees
      fields_alike t alike AllFit.none = AllFit.none
      fields_alike t alike (AllFit.more fits all) = AllFit.more (fits_alike t alike fits) (fields_alike t alike all)

      pub each_alike : {s : Scope} {type : Ty} {trees : Trees} → (t : Scope) → AreAlike s t → EachFits program blocks capacity s type trees → EachFits program blocks capacity t type trees
      each_alike t alike EachFits.no_more = EachFits.no_more
      each_alike t alike (EachFits.one_more fits each) = EachFits.one_more (fits_alike t alike fits) (each_alike t alike each)

    mutual
      -- and so does the value without its pointers
      pub bare_fits : {s : Scope} {type : Ty} {tree : Tree} → (t : Scope) → AreAlike s t → Fits program blocks capacity s type tree → Fits program blocks capacity t type (without_pointers tree)
      bare_fits t alike (Fits.number room) = Fits.number room
      bare_fits t alike (Fits.bits room) = Fits.bits room
      bare_fits t alike (Fits.opaque long small) = Fits.opaque long small
      bare_fits t alike (Fits.null p) = Fits.null p
      bare_fits t alike (Fits.to {scope = s} {type} {id} m) = Fits.null (may-pointer blocks (eval_in program s) type id m)
      bare_fits t alike (Fits.struct {scope = s} {node} {trees} has struct all) =
          Fits.struct has struct (bare_fields (inside t node (Rec (all_without_pointers trees))) (inside_alike s t node (Rec trees) (Rec (all_without_pointers trees)) alike (sym (twice (Rec trees)))) all)
      bare_fits t alike (Fits.member {scope = s} {node} {desc} {s = x} {place} {tree} has union active get fits) =
          Fits.member has union (active_alike s t alike node desc x (Alt (Some place) tree) (Alt (Some place) (without_pointers tree)) (Some place) (sym (twice (Alt (Some place) tree))) active) get
          (bare_fits (inside t node (Alt (Some place) (without_pointers tree))) (inside_alike s t node (Alt (Some place) tree) (Alt (Some place) (without_pointers tree)) alike (sym (twice (Alt (Some place) tree)))) fits)
      bare_fits t alike (Fits.common {scope = s} {node} {desc} {s = x} {tree} has union active o plain fits) =
          Fits.common has union (active_alike s t alike node desc x (Alt None tree) (Alt None (without_pointers tree)) None (sym (twice (Alt None tree))) active) o (twice tree)
          (bare_fits (inside t node (Alt None (without_pointers tree))) (inside_alike s t node (Alt None tree) (Alt None (without_pointers tree)) alike (sym (twice (Alt None tree)))) fits)
      bare_fits t alike (Fits.nothing {scope = s} {node} {desc} {s = x} has union active none) =
          Fits.nothing has union (active_alike s t alike node desc x (Alt None (Rec End)) (Alt None (Rec End)) None refl active) none
      bare_fits t alike (Fits.array {trees} e many each) = Fits.array e (count_bare trees ∙ many) (bare_each t alike each)
      bare_fits t alike (Fits.tail {scope = s} {length} {trees} e value le many each) =
          Fits.tail e (sym (ap (λ f. f length) (eval_alike s t alike)) ∙ value) le (count_bare trees ∙ many) (bare_each t alike each)

      bare_fields : {s : Scope} {types : List Ty} {trees : Trees} → (t : Scope) → AreAlike s t → AllFit program blocks capacity s types trees → AllFit program blocks capacity t types (all_without_pointers trees)
      bare_fields t alike AllFit.none = AllFit.none
      bare_fields t alike (AllFit.more fits all) = AllFit.more (bare_fits t alike fits) (bare_fields t alike all)

      bare_each : {s : Scope} {type : Ty} {trees : Trees} → (t : Scope) → AreAlike s t → EachFits program blocks capacity s type trees → EachFits program blocks capacity t type (all_without_pointers trees)
      bare_each t alike EachFits.no_more = EachFits.no_more
      bare_each t alike (EachFits.one_more fits each) = EachFits.one_more (bare_fits t alike fits) (bare_each t alike each)

  pub block_alike : (blocks : Blocks) (a b : Trees) (kind : Kind) (n capacity : ℕ) (value : Tree) → all_without_pointers a ≡ all_without_pointers b → BlockFits program blocks a kind n capacity value
      → BlockFits program blocks b kind n capacity value
  block_alike blocks a b kind n capacity value same fits = record {
    trees = fits.trees;
    row = fits.row;
    as_many = fits.as_many;
    each = each_alike (outside b) (outside_alike a b same) fits.each;
    ends = fits.ends;
  }
