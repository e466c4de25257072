-- What paths read of what a part was is what they read of the value that comes of it.
use Rattle.std.proofs.Common.{◌≡◌, ℕ, zero, suc, Bool, true, false, cond, IsTrue, List, [], ◌∷◌, refl, ap, sym, subst, ◌∙◌, Option, Some, None}
use Rattle.std.specs.Prelude.{◌==◌, pos, slice_get}
use Rattle.std.specs.Str.{bytes_eq}
use Rattle.std.specs.List.{position_from}
use Rattle.std.proofs.lemmas.Option.{same_Some}
use Rattle.gt_types.specs.declared.expressions.Expr.{Expr}
use Rattle.gt_types.specs.declared.types.TypeId.{TypeId}
use Rattle.gt_types.specs.declared.types.Ty.{Ty}
use Rattle.gt_types.specs.declared.types.Ty.TheVariants as ty
use Rattle.gt_types.specs.declared.program.Field.{Field}
use Rattle.gt_types.specs.declared.program.Structure.{Structure}
use Rattle.gt_types.specs.declared.program.Program.{Program}
use Rattle.gt_types.specs.Shapes.{is_number}
use Rattle.gt_types.specs.Contains.{HasStructure}
use Rattle.gt_types.specs.Paths.{by_name, Leads, last_step, next_step, MayStep, LeadsToNumber}
use Rattle.gt_types.specs.Settled.{Settled}
use Rattle.gt_tree.specs.Trees.{Tree, Num, Rec, Alt, Trees, End, And, tree_at, IsZero, AreZero}
use Rattle.gt_tree.specs.Blocks.{Blocks}
use Rattle.gt_tree.specs.Scopes.{Scope, is_node, first_type, beginning, beginning_of, number_at, read_path}
use Rattle.gt_tree.specs.Fits.{Fits, AllFit}
use Rattle.gt_tree.specs.Reshapes.{IsZeroOutside, OutsideOf}
use Rattle.gt_tree.proofs.PathBegins.{beginning-self, same-number}
use Rattle.gt_tree.proofs.PathParts.{get-map}
use Rattle.gt_tree.proofs.FixedParts.{is-number, is-bits, is-struct, is-union}
use Rattle.gt_tree.proofs.WriteReads.{named-place, read-desc, first-types, reads-kept}
use Rattle.gt_tree.proofs.WriteAlike.{read-field, zero-number}
use Rattle.gt_assign.specs.Pasts.{Was, Whole, Nothing, Begun, begun_at, begun_in, begun_node, begun_next, begun_on, begun_path, was_path}
use Rattle.gt_assign.proofs.Comes.{Comes, not-nought}

-- paths to numbers read the same from what a structure was and from its value
abbrev pub Reads : Program → TypeId → Was → Tree → Type 0
Reads program node was w = (steps : List (List ℕ)) → LeadsToNumber program node steps → was_path program steps (ty.Node node None) was ≡ read_path program steps (ty.Node node None) w

-- ---- the parts of a struct that begins with another structure

record FieldAt (program : Program) (blocks : Blocks) (capacity : ℕ) (t : Scope) (type : Ty) (trees : Trees) (i : ℕ) : Type 0 where
  tree : Tree
  there : tree_at trees i ≡ Some tree
  fits : Fits program blocks capacity t type tree

module _ {program : Program} {blocks : Blocks} {capacity : ℕ} where
  field-at : {t : Scope} {types : List Ty} {trees : Trees} → AllFit program blocks capacity t types trees → (i : ℕ) (type : Ty) → slice_get types i ≡ Some type → FieldAt program blocks capacity t type trees i
  field-at AllFit.none i type e = absurd (cc)
  field-at {t} (AllFit.more {type = here} {tree} fits all) zero type e = record { tree = tree; there = refl; fits = subst (λ y. Fits program blocks capacity t y tree) (same_Some here type e) fits }
  field-at (AllFit.more fits all) (suc i) type e = let f = field-at all i type e in record { tree = f.tree; there = f.there; fits = f.fits }

  number-begins : {t : Scope} (common : TypeId) (type : Ty) (tree value : Tree) → IsTrue (is_number type) → Fits program blocks capacity t type tree → ¬ (beginning program common (Some type) tree ≡ Some value)
  number-begins common (ty.Num scalar) tree value i fits e =
      let n = is-number scalar tree fits in
      let h = subst (λ y. beginning program common (Some (ty.Num scalar)) y ≡ Some value) n.1 e in cc
  number-begins common (ty.Bits unit width) tree value i fits e =
      let n = is-bits unit width tree fits in
      let h = subst (λ y. beginning program common (Some (ty.Bits unit width)) y ≡ Some value) n.1 e in cc
  number-begins common type tree value i fits e = cc

  zero-is : {t : Scope} (type : Ty) (tree : Tree) → IsTrue (is_number type) → Fits program blocks capacity t type tree → IsZero tree → Some (pos 0) ≡ number_at tree
  zero-is (ty.Num scalar) tree i fits z =
      let n = is-number scalar tree fits in
      let nought : n.0 ≡ pos 0 = subst IsZero n.1 z in
      sym (ap number_at (n.1 ∙ ap Num nought))
  zero-is (ty.Bits unit width) tree i fits z =
      let n = is-bits unit width tree fits in
      let nought : n.0 ≡ pos 0 = subst IsZero n.1 z in
      sym (ap number_at (n.1 ∙ ap Num nought))
  zero-is type tree i fits z = absurd (cc)

zero-at : (trees : Trees) (i : ℕ) (tree : Tree) → AreZero trees → tree_at trees i ≡ Some tree → IsZero tree
zero-at End i tree z e = absurd (cc)
zero-at (And first trees) zero tree z e = subst IsZero (same_Some first tree e) z.0
zero-at (And first trees) (suc i) tree z e = zero-at trees i tree z.1 e

-- the first field, which begins with the structure, and the others, which are zero
pub record Opened (program : Program) (common : TypeId) (value : Tree) (type : Option Ty) (trees : Trees) : Type 0 where
  pub first : Tree
  pub rest : Trees
  pub is : trees ≡ And first rest
  pub begins : beginning program common type first ≡ Some value
  pub outside : IsZeroOutside program common type first
  pub zero_rest : AreZero rest

pub opened : (program : Program) (common : TypeId) (value : Tree) (type : Ty) (trees : Trees) → is_node common type ≡ false → beginning program common (Some type) (Rec trees) ≡ Some value → IsZeroOutside program common (Some type) (Rec trees)
    → Opened program common value (first_type program type) trees
opened program common value type trees other e z = go trees (ap (λ b. cond b (Some (Rec trees)) (beginning_of program common (first_type program type) trees)) (sym other) ∙ e) (subst (OutsideOf program common (Some type) trees) other z)
  where
    go : (ts : Trees) → beginning_of program common (first_type program type) ts ≡ Some value → OutsideOf program common (Some type) ts false → Opened program common value (first_type program type) ts
    go End f o = absurd (cc)
    go (And first rest) f o = record { first = first; rest = rest; is = refl; begins = f; outside = o.0; zero_rest = o.1 }

-- one step of a path through it
step-on : (program : Program) (common : TypeId) (value : Tree) (node : TypeId) (s : Structure) (f : Field) (name : List ℕ) (names : List (List ℕ)) (place : ℕ) → is_node common (ty.Node node None) ≡ false → HasStructure program node s
    → position_from (λ g. bytes_eq g.name name) 0 s.fields ≡ Some place → slice_get s.fields place ≡ Some f
    → begun_path program common value (name ∷ names) (ty.Node node None) ≡ begun_on (begun_path program common value names) (Some (cond (place == 0) (Some f.ty) None))
step-on program common value node s f name names place other has first got =
    ap (λ b. cond b (read_path program (name ∷ names) (ty.Node node None) value) (begun_on (begun_path program common value names) (begun_next program name (ty.Node node None)))) other
    ∙ ap (λ o. begun_on (begun_path program common value names) (begun_node name o)) has
    ∙ ap (λ o. begun_on (begun_path program common value names) (begun_in s o)) first
    ∙ ap (λ o. begun_on (begun_path program common value names) (begun_at place o)) got

self-path : (program : Program) (common : TypeId) (value : Tree) (node : TypeId) (name : List ℕ) (names : List (List ℕ)) → is_node common (ty.Node node None) ≡ true
    → begun_path program common value (name ∷ names) (ty.Node node None) ≡ read_path program (name ∷ names) (ty.Node node None) value
self-path program common value node name names same =
    ap (λ b. cond b (read_path program (name ∷ names) (ty.Node node None) value) (begun_on (begun_path program common value names) (begun_next program name (ty.Node node None)))) same

begun-desc : (program : Program) (common : TypeId) (value : Tree) (names : List (List ℕ)) (node : TypeId) (desc : Option Expr) → begun_path program common value names (ty.Node node desc) ≡ begun_path program common value names (ty.Node node None)
begun-desc program common value [] node desc = refl
begun-desc program common value (name ∷ names) node desc = refl

module _ {program : Program} (blocks : Blocks) (capacity : ℕ) (settled : Settled program) (common : TypeId) (value : Tree) where
  -- what is read after one step
  abbrev ReadsOn : List (List ℕ) → Ty → Type 0
  ReadsOn names type = (t : Scope) (w : Tree) → Fits program blocks capacity t type w → beginning program common (Some type) w ≡ Some value → IsZeroOutside program common (Some type) w
      → begun_path program common value names type ≡ read_path program names type w

  abbrev ZeroOn : List (List ℕ) → Ty → Type 0
  ZeroOn names type = (t : Scope) (w : Tree) → Fits program blocks capacity t type w → IsZero w → Some (pos 0) ≡ read_path program names type w

  step-reads : {u : Scope} (type : Ty) (first : Option Ty) (names : List (List ℕ)) (place : ℕ) (tree first_tree : Tree) (rest : Trees) → ReadsOn names type → ZeroOn names type → (place ≡ 0 → first ≡ Some type)
      → beginning program common first first_tree ≡ Some value → IsZeroOutside program common first first_tree → AreZero rest → tree_at (And first_tree rest) place ≡ Some tree → Fits program blocks capacity u type tree
      → begun_on (begun_path program common value names) (Some (cond (place == 0) (Some type) None)) ≡ read_path program names type tree
  step-reads {u} type first names zero tree first_tree rest on zeros is e z zero_rest there fits =
      let same = same_Some first_tree tree there in
      let here = is refl in
      ap (λ b. begun_on (begun_path program common value names) (Some (cond b (Some type) None))) (same-number 0)
      ∙ on u tree fits (subst (λ y. beginning program common (Some type) y ≡ Some value) same (subst (λ o. beginning program common o first_tree ≡ Some value) here e))
      (subst (IsZeroOutside program common (Some type)) same (subst (λ o. IsZeroOutside program common o first_tree) here z))
  step-reads {u} type first names (suc k) tree first_tree rest on zeros is e z zero_rest there fits =
      ap (λ b. begun_on (begun_path program common value names) (Some (cond b (Some type) None))) (not-nought k (suc k == 0) refl) ∙ zeros u tree fits (zero-at rest k tree zero_rest there)

  struct-reads : (node : TypeId) (desc : Option Expr) (s : Structure) (f : Field) (name : List ℕ) (names : List (List ℕ)) (t : Scope) (w : Tree) → HasStructure program node s → f.name ≡ name → MayStep program s f → s.is_union ≡ false
      → is_node common (ty.Node node desc) ≡ false → Fits program blocks capacity t (ty.Node node desc) w → beginning program common (Some (ty.Node node desc)) w ≡ Some value → IsZeroOutside program common (Some (ty.Node node desc)) w
      → ReadsOn names f.ty → ZeroOn names f.ty → begun_path program common value (name ∷ names) (ty.Node node None) ≡ read_path program (name ∷ names) (ty.Node node None) w
  struct-reads node desc s f name names t w has named may struct other fits e z on zeros =
      let found = named-place program settled node s f name has may.there named in
      let r = is-struct node desc s w has struct fits in
      let p = field-at r.2 found.0 f.ty (get-map (λ g. g.ty) s.fields found.0 f found.2) in
      let o = opened program common value (ty.Node node desc) r.0 other (subst (λ y. beginning program common (Some (ty.Node node desc)) y ≡ Some value) r.1 e) (subst (IsZeroOutside program common (Some (ty.Node node desc))) r.1 z) in
      step-on program common value node s f name names found.0 other has found.1 found.2
      ∙ step-reads f.ty (first_type program (ty.Node node desc)) names found.0 p.tree o.first o.rest on zeros
      (λ (nought : found.0 ≡ 0). first-types program node desc s has ∙ get-map (λ g. g.ty) s.fields 0 f (subst (λ i. slice_get s.fields i ≡ Some f) nought found.2)) o.begins o.outside o.zero_rest
      (subst (λ ts. tree_at ts found.0 ≡ Some p.tree) o.is p.there) p.fits
      ∙ sym (read-field program node s f name names found.0 w p.tree r.0 has struct found.1 found.2 r.1 p.there)

  self-reads : (node : TypeId) (desc : Option Expr) (name : List ℕ) (names : List (List ℕ)) (w : Tree) → is_node common (ty.Node node desc) ≡ true → beginning program common (Some (ty.Node node desc)) w ≡ Some value
      → begun_path program common value (name ∷ names) (ty.Node node None) ≡ read_path program (name ∷ names) (ty.Node node None) w
  self-reads node desc name names w same e =
      let is : w ≡ value = same_Some w value (sym (beginning-self program common (ty.Node node desc) w same) ∙ e) in
      self-path program common value node name names same ∙ ap (read_path program (name ∷ names) (ty.Node node None)) (sym is)

  no-alt : {t : Scope} (node : TypeId) (desc : Option Expr) (s : Structure) (w : Tree) → HasStructure program node s → s.is_union ≡ true → is_node common (ty.Node node desc) ≡ false → Fits program blocks capacity t (ty.Node node desc) w
      → ¬ (beginning program common (Some (ty.Node node desc)) w ≡ Some value)
  no-alt node desc s w has union other fits e =
      let u = is-union node desc s w has union fits in
      let f = subst (λ y. beginning program common (Some (ty.Node node desc)) y ≡ Some value) u.2 e in
      let none = ap (λ b. cond b (Some (Alt u.0 u.1)) None) other in
      let h : None ≡ Some value = sym none ∙ f in
      cc

  pub begun-reads : {node : TypeId} {steps : List (List ℕ)} {type : Ty} → Leads program by_name node steps type → IsTrue (is_number type) → (desc : Option Expr) (t : Scope) (w : Tree) → Fits program blocks capacity t (ty.Node node desc) w
      → beginning program common (Some (ty.Node node desc)) w ≡ Some value → IsZeroOutside program common (Some (ty.Node node desc)) w
      → begun_path program common value steps (ty.Node node None) ≡ read_path program steps (ty.Node node None) w
  begun-reads (last_step {node} {x = name} {s} {f} has named may) number desc t w fits e z = go (is_node common (ty.Node node desc)) refl s.is_union refl
    where
      go : (b : Bool) → is_node common (ty.Node node desc) ≡ b → (u : Bool) → s.is_union ≡ u → begun_path program common value (name ∷ []) (ty.Node node None) ≡ read_path program (name ∷ []) (ty.Node node None) w
      go true same u is = self-reads node desc name [] w same e
      go false other true union = absurd (no-alt node desc s w has union other fits e)
      go false other false struct =
          struct-reads node desc s f name [] t w has named may struct other fits e z (λ v y fit begins outside. absurd (number-begins common f.ty y value number fit begins)) (λ v y fit zero_y. zero-is f.ty y number fit zero_y)
  begun-reads (next_step {node} {next} {x = name} {xs = names} {s} {f} {desc = inner} {type} has named may is rest) number desc t w fits e z =
      go (begun-reads rest number inner) (is_node common (ty.Node node desc)) refl s.is_union refl
    where
      go : ((v : Scope) (y : Tree) → Fits program blocks capacity v (ty.Node next inner) y → beginning program common (Some (ty.Node next inner)) y ≡ Some value → IsZeroOutside program common (Some (ty.Node next inner)) y
          → begun_path program common value names (ty.Node next None) ≡ read_path program names (ty.Node next None) y)
          → (b : Bool) → is_node common (ty.Node node desc) ≡ b → (u : Bool) → s.is_union ≡ u → begun_path program common value (name ∷ names) (ty.Node node None) ≡ read_path program (name ∷ names) (ty.Node node None) w
      go later true same u so = self-reads node desc name names w same e
      go later false other true union = absurd (no-alt node desc s w has union other fits e)
      go later false other false struct =
          struct-reads node desc s f name names t w has named may struct other fits e z
          (subst (ReadsOn names) (sym is) (λ v y fit begins outside. begun-desc program common value names next inner ∙ later v y fit begins outside ∙ sym (read-desc program names next inner y)))
          (subst (ZeroOn names) (sym is) (λ v y fit zero_y. sym (read-desc program names next inner y ∙ zero-number settled next inner y names type rest number fit zero_y)))

-- ---- what a structure was

module _ {program : Program} {blocks : Blocks} {capacity : ℕ} (settled : Settled program) where
  pub reads : (t : Scope) (node : TypeId) (desc : Option Expr) (was : Was) (w : Tree) → Fits program blocks capacity t (ty.Node node desc) w → Comes program (ty.Node node desc) was w → Reads program node was w
  reads t node desc (Whole old) w fits comes = λ steps leads. reads-kept settled leads.1 leads.2 desc old w comes
  reads t node desc Nothing w fits comes = λ steps leads. sym (zero-number settled node desc w steps leads.0 leads.1 leads.2 fits comes)
  reads t node desc (Begun common value) w fits comes = λ steps leads. begun-reads blocks capacity settled common value leads.1 leads.2 desc t w fits comes.0 comes.1
