-- Expressions of the program have the same values in two scopes from whose structures the paths that they read lead to the same numbers.
use Rattle.std.proofs.Common.{◌≡◌, ℕ, true, List, refl, ◌∙◌, Option, Some, None}
use Rattle.std.specs.Prelude.{Contains}
use Rattle.std.proofs.lemmas.List.Elements.{All-contains, All-contains_itself, All-weaker}
use Rattle.gt_types.specs.declared.expressions.Base.{Base}
use Rattle.gt_types.specs.declared.expressions.Base.TheVariants.{Here, Outer, Outermost}
use Rattle.gt_types.specs.declared.expressions.Expr.{Expr}
use Rattle.gt_types.specs.declared.types.TypeId.{TypeId}
use Rattle.gt_types.specs.declared.types.Ty.{Ty}
use Rattle.gt_types.specs.declared.types.Ty.TheVariants as ty
use Rattle.gt_types.specs.declared.program.Structure.{Structure}
use Rattle.gt_types.specs.declared.program.Program.{Program}
use Rattle.gt_types.specs.Contains.{HasStructure}
use Rattle.gt_types.specs.Paths.{Way, paths_of, roots_of, LeadsToNumber}
use Rattle.gt_types.specs.Settled.{Settled}
use Rattle.gt_types.specs.Shapes.{count_of}
use Rattle.gt_tree.specs.Trees.{Tree, Trees}
use Rattle.gt_tree.specs.Scopes.{Held, Scope, outside, inside, first_of, ◌then◌, read_path, leaf_in, root_in, eval_in}
use Rattle.gt_tree.specs.Fits.{desc_value}
use Rattle.gt_tree.specs.PathLaws.{LeadsInScope}
use Rattle.gt_tree.proofs.PathExprs.{worth-same}
use Rattle.gt_tree.proofs.FixedExprs.{roots-worth}
use Rattle.gt_leaf.specs.Unread.{Enclosing, HasPath, IsReadRoot}
use Rattle.gt_leaf.proofs.Alongs.{Along, IsMet, count-met, desc-met}

-- paths from a base that expressions read lead to the same numbers in two values of a structure
abbrev pub ReadSame : Program → Base → TypeId → Tree → Tree → Type 0
ReadSame program base node v w =
    (steps : List (List ℕ)) → LeadsToNumber program node steps → HasPath program base node steps → read_path program steps (ty.Node node None) v ≡ read_path program steps (ty.Node node None) w

-- so do all that may begin at the structure, where this is known to be the outermost one: from `%0` none else
abbrev pub AllReadSame : Program → Option Enclosing → TypeId → Tree → Tree → Type 0
AllReadSame program top node v w = (base : Base) → (base ≡ Outermost → top ≡ None) → ReadSame program base node v w

-- two values of one structure in which they do; or none twice
pub data HeldSame (program : Program) (base : Base) : Option Held → Option Held → Type 0 where
  neither : HeldSame program base None None
  both : {node : TypeId} {v w : Tree} → ReadSame program base node v w → HeldSame program base (Some (record { node = node; value = v })) (Some (record { node = node; value = w }))

-- two scopes of such values, in which the roots that expressions read are the same numbers; what is here may come to be around
pub record ScopesSame (program : Program) (s t : Scope) : Type 0 where
  pub here : HeldSame program Here s.here t.here
  pub next : HeldSame program Outer s.here t.here
  pub outer : HeldSame program Outer s.outer t.outer
  pub outermost : HeldSame program Outermost s.outermost t.outermost
  pub roots : (i : ℕ) → IsReadRoot program i → root_in s i ≡ root_in t i

first-same : {program : Program} {a b : Option Held} (node : TypeId) (v w : Tree) → HeldSame program Outermost a b → (a ≡ None → ReadSame program Outermost node v w)
    → HeldSame program Outermost (first_of a (Some (record { node = node; value = v }))) (first_of b (Some (record { node = node; value = w })))
first-same node v w HeldSame.neither r = HeldSame.both (r refl)
first-same node v w (HeldSame.both s) r = HeldSame.both s

some-first : (o : Option Held) (h : Held) → ¬ (first_of o (Some h) ≡ None)
some-first None h e = cc
some-first (Some x) h e = cc

-- a structure stands around the parts of one
pub not-outermost : (s : Scope) (node : TypeId) (v : Tree) (top : Option Enclosing) → (inside s node v).outermost ≡ None → top ≡ None
not-outermost s node v top e = absurd (some-first s.outermost (record { node = node; value = v }) e)

module _ {program : Program} where
  pub outside-same : (a b : Trees) → ((i : ℕ) → IsReadRoot program i → root_in (outside a) i ≡ root_in (outside b) i) → ScopesSame program (outside a) (outside b)
  outside-same a b roots = record { here = HeldSame.neither; next = HeldSame.neither; outer = HeldSame.neither; outermost = HeldSame.neither; roots = roots }

  pub inside-same : {s t : Scope} (top : Option Enclosing) (node : TypeId) (v w : Tree) → ScopesSame program s t → (s.outermost ≡ None → top ≡ None) → AllReadSame program top node v w → ScopesSame program (inside s node v) (inside t node w)
  inside-same top node v w p outermost r = record {
    here = HeldSame.both (r Here (λ e. absurd (cc)));
    next = HeldSame.both (r Outer (λ e. absurd (cc)));
    outer = p.next;
    outermost = first-same node v w p.outermost (λ none. r Outermost (λ e. outermost none));
    roots = p.roots;
  }

  -- ---- what is read

  base-same : {base : Base} {x y : Option Held} → HeldSame program base x y → (steps : List (List ℕ)) → ((held : Held) → x ≡ Some held → LeadsToNumber program held.node steps) → ((held : Held) → x ≡ Some held → HasPath program base held.node steps)
      → (x then λ held. read_path program steps (ty.Node held.node None) held.value) ≡ (y then λ held. read_path program steps (ty.Node held.node None) held.value)
  base-same HeldSame.neither steps leads read = refl
  base-same (HeldSame.both {node} {v} {w} r) steps leads read = r steps (leads (record { node = node; value = v }) refl) (read (record { node = node; value = v }) refl)

  leaf-same : (s t : Scope) (e : Expr) → ScopesSame program s t → IsMet program s e → (path : Way) → LeadsInScope program s path → Contains (paths_of e) path → leaf_in program s path.0 path.1 ≡ leaf_in program t path.0 path.1
  leaf-same s t e p met (Here, steps) leads c = base-same p.here steps leads (λ held is. (e, met.begins.here held is, c))
  leaf-same s t e p met (Outer, steps) leads c = base-same p.outer steps leads (λ held is. (e, met.begins.outer held is, c))
  leaf-same s t e p met (Outermost, steps) leads c = base-same p.outermost steps leads (λ held is. (e, met.begins.outermost held is, c))

  pub eval-same : (s t : Scope) (e : Expr) → ScopesSame program s t → IsMet program s e → eval_in program s e ≡ eval_in program t e
  eval-same s t e p met =
      worth-same (leaf_in program s) (leaf_in program t) (root_in s) (root_in s) (λ i. refl) e
      (All-weaker (Contains (paths_of e)) (λ path. leaf_in program s path.0 path.1 ≡ leaf_in program t path.0 path.1)
      (λ path c. leaf-same s t e p met path (All-contains (LeadsInScope program s) (paths_of e) path met.readable.leads c) c) (paths_of e) (All-contains_itself (paths_of e)))
      ∙ roots-worth (leaf_in program t) (leaf_in program t) (root_in s) (root_in t) (λ base steps. refl) e
      (All-weaker (Contains (roots_of e)) (λ i. root_in s i ≡ root_in t i) (λ i c. p.roots i (e, met.known, c)) (roots_of e) (All-contains_itself (roots_of e)))

module _ {program : Program} (settled : Settled program) {a : Trees} where
  -- so lengths are the same
  pub same-count : {s : Scope} (t : Scope) (type : Ty) (length : Expr) → Along program a s type → ScopesSame program s t → count_of type ≡ Some length → eval_in program s length ≡ eval_in program t length
  same-count {s} t type length p same e = eval-same s t length same (count-met settled p length e)

  -- and the values that say which member of a union is active
  pub same-desc : {s : Scope} (t : Scope) (top : Option Enclosing) (node : TypeId) (desc : Option Expr) (v w : Tree) (x : Structure) → Along program a s (ty.Node node desc) → (s.outermost ≡ None → top ≡ None) → ScopesSame program s t → AllReadSame program top node v w
      → HasStructure program node x → x.is_union ≡ true → desc_value program (inside s node v) desc ≡ desc_value program (inside t node w) desc
  same-desc t top node None v w x p outermost same r has union = refl
  same-desc {s} t top node (Some e) v w x p outermost same r has union = eval-same (inside s node v) (inside t node w) e (inside-same top node v w same outermost r) (desc-met settled node x e p has union v)
