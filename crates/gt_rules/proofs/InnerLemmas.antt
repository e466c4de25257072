-- Expressions of options, and structures that may stand alone, where two ways to tell which structures are inner agree.
use Rattle.std.proofs.Common.{◌≡◌, ℕ, Bool, List, get_or, refl, sym, subst}
use Rattle.std.specs.Prelude.{◌↔◌, IfOk, Result}
use Rattle.std.specs.Bool.{Decides}
use Rattle.std.proofs.lemmas.Result.{IfOk-weaker}
use Rattle.gt_types.specs.declared.expressions.Base.{Base}
use Rattle.gt_types.specs.declared.expressions.Base.TheVariants.{Here, Outer, Outermost}
use Rattle.gt_types.specs.declared.expressions.Expr.{Expr}
use Rattle.gt_types.specs.declared.types.TypeId.{TypeId}
use Rattle.gt_types.specs.declared.program.Program.{Program}
use Rattle.gt_types.specs.Paths.{Inner, IsFieldDescBeside, IsOptionBeside, MayStandBeside, PathFitsBeside, DescPathFitsBeside, paths_of}
use Rattle.gt_drafts.specs.declared.draft.Draft.{Draft}
use Rattle.gt_paths.specs.declared.indexes.PathIndex.{PathIndex}
use Rattle.gt_paths.specs.Checks.{Checked, checked, inner_of}
use Rattle.gt_paths.specs.Indexes.{inner_in}
use Rattle.gt_rules.specs.Inner.{IsDeclaredInner}
use Rattle.gt_rules.specs.Parts.{AreChecksFor, IsIndexFor}

-- two ways to tell which structures are inner agree
abbrev pub Agree : Inner → Inner → Type 0
Agree a b = (id : TypeId) → a id ↔ b id

pub turned : (a b : Inner) → Agree a b → Agree b a
turned a b agree id = ((agree id).1, (agree id).0)

path_same : (a b : Inner) → Agree a b → (program : Program) (node : TypeId) (base : Base) (steps : List (List ℕ)) → PathFitsBeside a program node base steps → PathFitsBeside b program node base steps
path_same a b agree program node Here steps fits = fits
path_same a b agree program node Outer steps fits = fits
path_same a b agree program node Outermost steps fits = λ outer is. fits outer ((λ inner. is.0 ((agree outer).0 inner)), is.1)

desc_path_same : (a b : Inner) → Agree a b → (program : Program) (node union : TypeId) (base : Base) (steps : List (List ℕ)) → DescPathFitsBeside a program node union base steps
    → DescPathFitsBeside b program node union base steps
desc_path_same a b agree program node union Here steps fits = fits
desc_path_same a b agree program node union Outer steps fits = fits
desc_path_same a b agree program node union Outermost steps fits = path_same a b agree program node Outermost steps fits

pub option_same : (a b : Inner) → Agree a b → (program : Program) (node : TypeId) (e : Expr) → IsOptionBeside a program node e → IsOptionBeside b program node e
option_same a b agree program node e option = record {
  operators = option.operators;
  no_roots = option.no_roots;
  steps = option.steps;
  paths = λ k d within. path_same a b agree program node (get_or (paths_of e) k d).0 (get_or (paths_of e) k d).1 (option.paths k d within);
}

pub desc_same : (a b : Inner) → Agree a b → (program : Program) (node union : TypeId) (e : Expr) → IsFieldDescBeside a program node union e → IsFieldDescBeside b program node union e
desc_same a b agree program node union e desc = record {
  operators = desc.operators;
  no_roots = desc.no_roots;
  steps = desc.steps;
  paths = λ k d within. desc_path_same a b agree program node union (get_or (paths_of e) k d).0 (get_or (paths_of e) k d).1 (desc.paths k d within);
}

pub stand_same : (a b : Inner) → Agree a b → (program : Program) (node : TypeId) → MayStandBeside a program node → MayStandBeside b program node
stand_same a b agree program node (s, there, outer, desc) = (s, there, (λ inner. outer ((agree node).1 inner)), desc)

-- ---- by an index

agrees : (draft : Draft) (program : Program) (index : PathIndex) → IsIndexFor draft program index → Agree (inner_in index) (IsDeclaredInner draft)
agrees draft program index is id = ((is.inner id).0, (is.inner id).1)

decided : (b : Bool) (P Q : Type 0) → (P → Q) → (Q → P) → Decides b P → Decides b Q
decided b P Q to from decides = ((λ e. to (decides.0 e)), (λ q. decides.1 (from q)))

pub named_ok : (draft : Draft) (program : Program) (index : PathIndex) (id : TypeId) (b : Bool) → IsIndexFor draft program index → Decides b (inner_in index id) → Decides b (IsDeclaredInner draft id)
named_ok draft program index id b is decides = decided b (inner_in index id) (IsDeclaredInner draft id) (is.inner id).0 (is.inner id).1 decides

pub stands_ok : (draft : Draft) (program : Program) (index : PathIndex) (id : TypeId) (b : Bool) → IsIndexFor draft program index → Decides b (MayStandBeside (inner_in index) program id)
    → Decides b (MayStandBeside (IsDeclaredInner draft) program id)
stands_ok draft program index id b is decides =
    let to = agrees draft program index is in
    let from = turned (inner_in index) (IsDeclaredInner draft) to in
    decided b (MayStandBeside (inner_in index) program id) (MayStandBeside (IsDeclaredInner draft) program id) (stand_same (inner_in index) (IsDeclaredInner draft) to program id)
    (stand_same (IsDeclaredInner draft) (inner_in index) from program id) decides

-- ---- by checks of a structure

-- the checks that an index gives
pub checks_for : (draft : Draft) (program : Program) (index : PathIndex) (node : TypeId) (c : Checked) → c ≡ checked program index node → IsIndexFor draft program index → AreChecksFor draft program c
checks_for draft program index node c is of_index = subst (AreChecksFor draft program) (sym is) (record { same = refl; inner = of_index.inner })

alike : (draft : Draft) (program : Program) (c : Checked) → AreChecksFor draft program c → Agree (inner_of c) (IsDeclaredInner draft)
alike draft program c are id = ((are.inner id).0, (are.inner id).1)

pub option_ok : {E : Type 0} (draft : Draft) (program : Program) (c : Checked) (e : Expr) (r : Result Bool E) → AreChecksFor draft program c
    → IfOk r (λ v. Decides v (IsOptionBeside (inner_of c) c.program c.node e)) → IfOk r (λ v. Decides v (IsOptionBeside (IsDeclaredInner draft) program c.node e))
option_ok {E} draft program c e r are ok =
    let to = alike draft program c are in
    let from = turned (inner_of c) (IsDeclaredInner draft) to in
    subst (λ (p : Program). IfOk r (λ v. Decides v (IsOptionBeside (IsDeclaredInner draft) p c.node e))) are.same
    (IfOk-weaker r (λ v. Decides v (IsOptionBeside (inner_of c) c.program c.node e)) (λ v. Decides v (IsOptionBeside (IsDeclaredInner draft) c.program c.node e))
    (λ v. decided v (IsOptionBeside (inner_of c) c.program c.node e) (IsOptionBeside (IsDeclaredInner draft) c.program c.node e)
    (option_same (inner_of c) (IsDeclaredInner draft) to c.program c.node e) (option_same (IsDeclaredInner draft) (inner_of c) from c.program c.node e)) ok)

pub desc_ok : {E : Type 0} (draft : Draft) (program : Program) (c : Checked) (union : TypeId) (e : Expr) (r : Result Bool E) → AreChecksFor draft program c
    → IfOk r (λ v. Decides v (IsFieldDescBeside (inner_of c) c.program c.node union e)) → IfOk r (λ v. Decides v (IsFieldDescBeside (IsDeclaredInner draft) program c.node union e))
desc_ok {E} draft program c union e r are ok =
    let to = alike draft program c are in
    let from = turned (inner_of c) (IsDeclaredInner draft) to in
    subst (λ (p : Program). IfOk r (λ v. Decides v (IsFieldDescBeside (IsDeclaredInner draft) p c.node union e))) are.same
    (IfOk-weaker r (λ v. Decides v (IsFieldDescBeside (inner_of c) c.program c.node union e)) (λ v. Decides v (IsFieldDescBeside (IsDeclaredInner draft) c.program c.node union e))
    (λ v. decided v (IsFieldDescBeside (inner_of c) c.program c.node union e) (IsFieldDescBeside (IsDeclaredInner draft) c.program c.node union e)
    (desc_same (inner_of c) (IsDeclaredInner draft) to c.program c.node union e) (desc_same (IsDeclaredInner draft) (inner_of c) from c.program c.node union e)) ok)
