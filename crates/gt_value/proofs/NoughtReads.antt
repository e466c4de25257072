-- Paths to numbers read 0 from zero values.
use Rattle.std.proofs.Common.{◌≡◌, ℕ, zero, suc, Bool, true, false, cond, IsTrue, ℤ, List, [], ◌∷◌, refl, ap, sym, subst, ◌∙◌, arith, Option, Some, None, ◌⊎◌, inl, inr}
use Rattle.std.specs.Prelude.{Contains, pos, slice_get, ◌==◌}
use Rattle.std.specs.List.{position_from}
use Rattle.std.specs.Str.{bytes_eq}
use Rattle.std.proofs.lemmas.Slice.Eq.{bytes_eq-Decides}
use Rattle.std.proofs.lemmas.Option.{slice_get-get_or}
use Rattle.gt_types.specs.declared.expressions.Expr.{Expr}
use Rattle.gt_types.specs.declared.types.TypeId.{TypeId}
use Rattle.gt_types.specs.declared.types.Ty.{Ty}
use Rattle.gt_types.specs.declared.types.Ty.TheVariants as ty
use Rattle.gt_types.specs.declared.types.Ty.TheVariants.{outs-Num, outs-Bits, outs-Node}
use Rattle.gt_types.specs.declared.program.Field.{Field}
use Rattle.gt_types.specs.declared.program.Structure.{Structure}
use Rattle.gt_types.specs.declared.program.Program.{Program}
use Rattle.gt_types.specs.Shapes.{is_number}
use Rattle.gt_types.specs.Contains.{HasStructure, itself}
use Rattle.gt_types.specs.Paths.{Leads, last_step, next_step, MayStep, by_name}
use Rattle.gt_types.specs.Unions.{BeginsWith, is_it, by_first, IsCommon, may_be_active}
use Rattle.gt_types.specs.declared.program.Active.{Active}
use Rattle.gt_types.specs.declared.program.Active.TheVariants.{Always, Tag, Other, Never}
use Rattle.gt_types.specs.Settled.{Settled}
use Rattle.gt_tree.specs.Trees.{Tree, Num, Rec, Alt, Trees, And, tree_at}
use Rattle.gt_tree.specs.Scopes.{is_of_node, type_of_field, first_field_type, first_type, type_there, beginning, beginning_of, typed, ◌then◌, field_of, member_of, step_in, step, number_at, read_path}
use Rattle.gt_tree.specs.Fits.{is_tag, is_default, first_place, active_member, types_of}
use Rattle.gt_tree.proofs.Commons.{one-common}
use Rattle.gt_tree.proofs.PathBits.{some-same, one-place, position-get, position-first}
use Rattle.gt_tree.proofs.PathParts.{All-at, get-map}
use Rattle.gt_tree.proofs.PathBegins.{beginning-self, same-number}
use Rattle.gt_value.specs.Noughts.{IsNought, AreNoughts, zero_desc}
use Rattle.gt_value.proofs.Standing.{ReadsZero}
use Rattle.std.proofs.lemmas.Bool.{eqb-true}

eqb-node : (a b : TypeId) → (a.0 == b.0) ≡ true → a ≡ b
eqb-node a b e = ap (λ n. let node : TypeId = record { 0 = n } in node) (eqb-true a.0 b.0 e)

-- ---- the parts of zero values

module _ {program : Program} {capacity : ℕ} where
  pub nought-at : {types : List Ty} {trees : Trees} → AreNoughts program capacity types trees → (place : ℕ) (type : Ty) → slice_get types place ≡ Some type
      → (tree : Tree) × (tree_at trees place ≡ Some tree) × IsNought program capacity type tree
  nought-at AreNoughts.none place type e = absurd (cc)
  nought-at (AreNoughts.more {type = here} {tree} h hs) zero type e = let same : here ≡ type = cc in (tree, refl, subst (λ t. IsNought program capacity t tree) same h)
  nought-at (AreNoughts.more h hs) (suc place) type e = nought-at hs place type e

  pub nought-struct : (node : TypeId) (desc : Option Expr) (s : Structure) (tree : Tree) → HasStructure program node s → s.is_union ≡ false → IsNought program capacity (ty.Node node desc) tree
      → (trees : Trees) × (tree ≡ Rec trees) × AreNoughts program capacity (types_of s.fields) trees
  nought-struct node desc s tree has struct (IsNought.null p) = absurd (cc)
  nought-struct node desc s tree has struct (IsNought.struct {s = other} {trees} h u all) =
      let same : other ≡ s = cc in
      (trees, refl, subst (λ x. AreNoughts program capacity (types_of x.fields) trees) same all)
  nought-struct node desc s tree has struct (IsNought.member {s = other} h u active get part) = let same : other ≡ s = cc in let union = subst (λ x. x.is_union ≡ true) same u in absurd (cc)
  nought-struct node desc s tree has struct (IsNought.common {s = other} h u active c part) = let same : other ≡ s = cc in let union = subst (λ x. x.is_union ≡ true) same u in absurd (cc)
  nought-struct node desc s tree has struct (IsNought.nothing {s = other} h u active n) = let same : other ≡ s = cc in let union = subst (λ x. x.is_union ≡ true) same u in absurd (cc)
  nought-struct node desc s tree has struct (IsNought.array o each) = let n = outs-Node node desc in absurd (cc)
  nought-struct node desc s tree has struct (IsNought.tail o v le each) = let n = outs-Node node desc in absurd (cc)

  pub number-nought : (type : Ty) (tree : Tree) → IsTrue (is_number type) → IsNought program capacity type tree → tree ≡ Num (pos 0)
  number-nought (ty.Num scalar) tree i IsNought.number = refl
  number-nought (ty.Num scalar) tree i (IsNought.null p) = absurd (cc)
  number-nought (ty.Num scalar) tree i (IsNought.array e each) = let o = outs-Num scalar in absurd (cc)
  number-nought (ty.Num scalar) tree i (IsNought.tail e v le each) = let o = outs-Num scalar in absurd (cc)
  number-nought (ty.Bits unit width) tree i IsNought.bits = refl
  number-nought (ty.Bits unit width) tree i (IsNought.null p) = absurd (cc)
  number-nought (ty.Bits unit width) tree i (IsNought.array e each) = let o = outs-Bits unit width in absurd (cc)
  number-nought (ty.Bits unit width) tree i (IsNought.tail e v le each) = let o = outs-Bits unit width in absurd (cc)
  number-nought type tree i h = absurd (cc)

-- ---- the field of a name

named-place : (program : Program) → Settled program → (node : TypeId) (s : Structure) (f : Field) (name : List ℕ) → HasStructure program node s → Contains s.fields f → f.name ≡ name
    → (place : ℕ) × (position_from (λ g. bytes_eq g.name name) 0 s.fields ≡ Some place) × (slice_get s.fields place ≡ Some f)
named-place program settled node s f name has contains named =
    let named_so = λ (g : Field). bytes_eq g.name name in
    let got : slice_get s.fields contains.0 ≡ Some f = slice_get-get_or s.fields contains.0 f contains.1 ∙ ap Some contains.2 in
    let first = position-first named_so s.fields 0 contains.0 f got ((bytes_eq-Decides f.name name).1 named) in
    let found = position-get named_so s.fields 0 first.0 first.1 in
    let here : first.0 ≡ found.0 = omega (arith, found.2) in
    let same : found.0 ≡ contains.0 =
    one-place s.fields name (settled.structures node s has).distinct found.0 contains.0 found.1 f found.3 got ((bytes_eq-Decides found.1.name name).0 found.4) named in
    (first.0, first.1, subst (λ i. slice_get s.fields i ≡ Some f) (sym (here ∙ same)) got)

step-taken : (program : Program) (node : TypeId) (desc : Option Expr) (s : Structure) (f : Field) (name : List ℕ) (place : ℕ) (value : Tree) → HasStructure program node s
    → position_from (λ g. bytes_eq g.name name) 0 s.fields ≡ Some place → slice_get s.fields place ≡ Some f
    → step program (ty.Node node desc) name value ≡ cond s.is_union (member_of program s f.ty value) (field_of f value place)
step-taken program node desc s f name place value has first got =
    ap (λ o. o then λ x. step_in program x name value) has
    ∙ ap (λ o. o then λ i. slice_get s.fields i then λ g. cond s.is_union (member_of program s g.ty value) (field_of g value i)) first
    ∙ ap (λ o. o then λ g. cond s.is_union (member_of program s g.ty value) (field_of g value place)) got

field-taken : (f : Field) (value part : Tree) (place : ℕ) (trees : Trees) → value ≡ Rec trees → tree_at trees place ≡ Some part → field_of f value place ≡ Some (typed f.ty part)
field-taken f value part place trees is there = ap (λ v. field_of f v place) is ∙ ap (λ o. o then λ x. Some (typed f.ty x)) there

-- ---- what a value begins with

beginning-first : (program : Program) (node : TypeId) (type : Option Ty) (trees : Trees) (tree : Tree) → tree_at trees 0 ≡ Some tree → beginning_of program node type trees ≡ beginning program node type tree
beginning-first program node type Rattle.gt_tree.specs.Trees.End tree e = absurd (cc)
beginning-first program node type (And first rest) tree e = let same : first ≡ tree = cc in ap (beginning program node type) same

beginning-inner : (program : Program) (node : TypeId) (type : Ty) (inner : Ty) (trees : Trees) (tree : Tree) → is_of_node node (Some type) ≡ false → first_type program type ≡ Some inner → tree_at trees 0 ≡ Some tree
    → beginning program node (Some type) (Rec trees) ≡ beginning program node (Some inner) tree
beginning-inner program node type inner trees tree e f h =
    ap (λ b. cond b (Some (Rec trees)) (beginning_of program node (first_type program type) trees)) e
    ∙ beginning-first program node (first_type program type) trees tree h
    ∙ ap (λ t. beginning program node t tree) f

first-field : (program : Program) (outer : TypeId) (desc : Option Expr) (s : Structure) (f : Field) → HasStructure program outer s → slice_get s.fields 0 ≡ Some f → first_type program (ty.Node outer desc) ≡ Some f.ty
first-field program outer desc s f has got = ap first_field_type has ∙ ap type_of_field got

-- a part of a structure that is zero
pub record ZeroPart (program : Program) (capacity : ℕ) (node : TypeId) (o : Option Tree) : Type 0 where
  pub part : Tree
  pub there : o ≡ Some part
  pub desc : Option Expr
  pub nought : IsNought program capacity (ty.Node node desc) part

module _ {program : Program} {capacity : ℕ} where
  pub begun : {type : Ty} {node : TypeId} → BeginsWith program type node → (tree : Tree) → IsNought program capacity type tree → ZeroPart program capacity node (beginning program node (Some type) tree)
  begun (is_it {node} {desc}) tree h = record { part = tree; there = beginning-self program node (ty.Node node desc) tree (same-number node.0); desc = desc; nought = h }
  begun (by_first {outer} {node} {desc} {s} {f} {fs} structure struct e rest) tree h =
      let got : slice_get s.fields 0 ≡ Some f = ap (λ xs. slice_get xs 0) e in
      let inside = nought-struct outer desc s tree structure struct h in
      let first = nought-at inside.2 0 f.ty (get-map (λ g. g.ty) s.fields 0 f got) in
      go (node.0 == outer.0) refl inside.0 inside.1 first.0 first.1 (begun rest first.0 first.2) got
    where
      go : (b : Bool) → (node.0 == outer.0) ≡ b → (trees : Trees) → tree ≡ Rec trees → (part : Tree) → tree_at trees 0 ≡ Some part → ZeroPart program capacity node (beginning program node (Some f.ty) part)
          → slice_get s.fields 0 ≡ Some f → ZeroPart program capacity node (beginning program node (Some (ty.Node outer desc)) tree)
      go true same trees is part there inner got = record {
        part = tree;
        there = beginning-self program node (ty.Node outer desc) tree same;
        desc = desc;
        nought = subst (λ n. IsNought program capacity (ty.Node n desc) tree) (sym (eqb-node node outer same)) h;
      }
      go false other trees is part there inner got = record {
        part = inner.part;
        there = ap (beginning program node (Some (ty.Node outer desc))) is
            ∙ beginning-inner program node (ty.Node outer desc) f.ty trees part other (first-field program outer desc s f structure got) there
            ∙ inner.there;
        desc = inner.desc;
        nought = inner.nought;
      }

-- ---- the active member

tag-may : (value : Option ℤ) (active : Active) → is_tag value active ≡ true → IsTrue (may_be_active active)
tag-may value (Tag tag) e = refl
tag-may value Other e = refl
tag-may None active e = absurd (cc)
tag-may (Some v) Always e = absurd (cc)
tag-may (Some v) Never e = absurd (cc)

default-may : (active : Active) → is_default active ≡ true → IsTrue (may_be_active active)
default-may Always e = absurd (cc)
default-may (Tag tag) e = refl
default-may Other e = refl
default-may Never e = absurd (cc)

one-of-both : (a b : Option ℕ) (place : ℕ) → first_place a b ≡ Some place → (a ≡ Some place) ⊎ (b ≡ Some place)
one-of-both None b place e = inr e
one-of-both (Some i) b place e = inl e

passing : (p : Field → Bool) (fields : List Field) (place : ℕ) (g : Field) → position_from p 0 fields ≡ Some place → slice_get fields place ≡ Some g → p g ≡ true
passing p fields place g e got =
    let found = position-get p fields 0 place e in
    let there : place ≡ found.0 = omega (arith, found.2) in
    let same : found.1 ≡ g = some-same (slice_get fields place) found.1 g (subst (λ i. slice_get fields i ≡ Some found.1) (sym there) found.3) got in
    subst (λ f. p f ≡ true) same found.4

active-may : (value : Option ℤ) (fields : List Field) (place : ℕ) (g : Field) → active_member value fields ≡ Some place → slice_get fields place ≡ Some g → IsTrue (may_be_active g.active)
active-may value fields place g e got = go (one-of-both (position_from (λ f. is_tag value f.active) 0 fields) (position_from (λ f. is_default f.active) 0 fields) place e)
  where
    go : (position_from (λ f. is_tag value f.active) 0 fields ≡ Some place) ⊎ (position_from (λ f. is_default f.active) 0 fields ≡ Some place) → IsTrue (may_be_active g.active)
    go (inl tagged) = tag-may value g.active (passing (λ f. is_tag value f.active) fields place g tagged got)
    go (inr default) = default-may g.active (passing (λ f. is_default f.active) fields place g default got)

-- ---- paths

taken : (program : Program) (s : Structure) (common : TypeId) (member : Option ℕ) (tree part : Tree) → beginning program common (type_there s common member) tree ≡ Some part
    → (desc : Option Expr) → member_of program s (ty.Node common desc) (Alt member tree) ≡ Some (typed (ty.Node common desc) part)
taken program s common member tree part e desc = ap (λ o. o then λ x. Some (typed (ty.Node common desc) x)) e

-- where a step leads
record ZeroStep (program : Program) (capacity : ℕ) (node next : TypeId) (type : Ty) (name : List ℕ) (value : Tree) : Type 0 where
  part : Tree
  taken : step program (ty.Node node None) name value ≡ Some (typed type part)
  desc : Option Expr
  nought : IsNought program capacity (ty.Node next desc) part

module _ (program : Program) (capacity : ℕ) (settled : Settled program) where
  common-part : (node common : TypeId) (desc cdesc : Option Expr) (s : Structure) (value : Tree) → HasStructure program node s → IsCommon program s common → IsNought program capacity (ty.Node node desc) value
      → (part : Tree) × (member_of program s (ty.Node common cdesc) value ≡ Some (typed (ty.Node common cdesc) part)) × (found : Option Expr) × IsNought program capacity (ty.Node common found) part
  common-part node common desc cdesc s value has c (IsNought.null p) = absurd (cc)
  common-part node common desc cdesc s value has c (IsNought.struct {s = other} h u all) = let same : other ≡ s = cc in let struct = subst (λ x. x.is_union ≡ false) same u in let union = c.union in absurd (cc)
  common-part node common desc cdesc s value has c (IsNought.member {s = other} {place} {f} {tree} h u active got part) =
      let same : other ≡ s = cc in
      let get : slice_get s.fields place ≡ Some f = subst (λ x. slice_get x.fields place ≡ Some f) same got in
      let may = active-may (zero_desc desc) s.fields place f (subst (λ x. active_member (zero_desc desc) x.fields ≡ Some place) same active) get in
      let begins = All-at (λ g. IsTrue (may_be_active g.active) → BeginsWith program g.ty common) s.fields place f get c.begun may in
      let b = begun begins tree part in
      (b.part, taken program s common (Some place) tree b.part (ap (λ o. beginning program common (type_of_field o) tree) get ∙ b.there) cdesc, b.desc, b.nought)
  common-part node common desc cdesc s value has c (IsNought.common {common = found} {s = other} {tree} h u active o part) =
      let same : other ≡ s = cc in
      let equal : found ≡ common = one-common program node s found common settled has (subst (λ x. IsCommon program x found) same o) c in
      (tree, taken program s common None tree tree (beginning-self program common (ty.Node common None) tree (same-number common.0)) cdesc, None, subst (λ n. IsNought program capacity (ty.Node n None) tree) equal part)
  common-part node common desc cdesc s value has c (IsNought.nothing {s = other} h u active none) = let same : s ≡ other = cc in absurd (none common (subst (λ x. IsCommon program x common) same c))
  common-part node common desc cdesc s value has c (IsNought.array e each) = let o = outs-Node node desc in absurd (cc)
  common-part node common desc cdesc s value has c (IsNought.tail e v le each) = let o = outs-Node node desc in absurd (cc)

  struct-step : (node : TypeId) (s : Structure) (f : Field) (name : List ℕ) (desc : Option Expr) (value : Tree) → HasStructure program node s → Contains s.fields f → f.name ≡ name → s.is_union ≡ false
      → IsNought program capacity (ty.Node node desc) value → (part : Tree) × (step program (ty.Node node None) name value ≡ Some (typed f.ty part)) × IsNought program capacity f.ty part
  struct-step node s f name desc value has contains named struct h =
      let found = named-place program settled node s f name has contains named in
      let inside = nought-struct node desc s value has struct h in
      let p = nought-at inside.2 found.0 f.ty (get-map (λ g. g.ty) s.fields found.0 f found.2) in (
        p.0,
        step-taken program node None s f name found.0 value has found.1 found.2
            ∙ ap (λ b. cond b (member_of program s f.ty value) (field_of f value found.0)) struct
            ∙ field-taken f value p.0 found.0 inside.0 inside.1 p.1,
        p.2,
      )

  union-step : (node common : TypeId) (s : Structure) (f : Field) (name : List ℕ) (desc cdesc : Option Expr) (value : Tree) → HasStructure program node s → Contains s.fields f → f.name ≡ name → s.is_union ≡ true
      → f.ty ≡ ty.Node common cdesc → IsCommon program s common → IsNought program capacity (ty.Node node desc) value → ZeroStep program capacity node common f.ty name value
  union-step node common s f name desc cdesc value has contains named union is c h =
      let found = named-place program settled node s f name has contains named in
      let p = common-part node common desc cdesc s value has c h in
      record {
        part = p.0;
        taken = step-taken program node None s f name found.0 value has found.1 found.2
            ∙ ap (λ b. cond b (member_of program s f.ty value) (field_of f value found.0)) union
            ∙ subst (λ t. member_of program s t value ≡ Some (typed t p.0)) (sym is) p.1;
        desc = p.2;
        nought = p.3;
      }

  node-step : (node next : TypeId) (s : Structure) (f : Field) (name : List ℕ) (desc fdesc : Option Expr) (value : Tree) → HasStructure program node s → f.name ≡ name → MayStep program s f → f.ty ≡ ty.Node next fdesc
      → IsNought program capacity (ty.Node node desc) value → ZeroStep program capacity node next f.ty name value
  node-step node next s f name desc fdesc value has named may is h = go s.is_union refl
    where
      go : (b : Bool) → s.is_union ≡ b → ZeroStep program capacity node next f.ty name value
      go true union =
          let c = may.common union in
          let named_so = ap itself (sym c.2 ∙ is) in
          let same : c.0 ≡ next = cc in
          subst (λ n. ZeroStep program capacity node n f.ty name value) same (union-step node c.0 s f name desc c.1 value has may.there named union c.2 c.3 h)
      go false struct =
          let p = struct-step node s f name desc value has may.there named struct h in
          record { part = p.0; taken = p.1; desc = fdesc; nought = subst (λ t. IsNought program capacity t p.0) is p.2 }

  read-last : (node : TypeId) (s : Structure) (f : Field) (name : List ℕ) (desc : Option Expr) (value : Tree) → HasStructure program node s → f.name ≡ name → MayStep program s f → IsTrue (is_number f.ty)
      → IsNought program capacity (ty.Node node desc) value → read_path program (name ∷ []) (ty.Node node None) value ≡ Some (pos 0)
  read-last node s f name desc value has named may number h = go s.is_union refl
    where
      go : (b : Bool) → s.is_union ≡ b → read_path program (name ∷ []) (ty.Node node None) value ≡ Some (pos 0)
      go true union = let c = may.common union in let none = ap is_number c.2 in absurd (cc)
      go false struct =
          let p = struct-step node s f name desc value has may.there named struct h in
          ap (λ o. o then λ next. read_path program [] next.type next.value) p.1 ∙ ap number_at (number-nought f.ty p.0 number p.2)

  read-desc : (steps : List (List ℕ)) (node : TypeId) (desc : Option Expr) (value : Tree) → read_path program steps (ty.Node node desc) value ≡ read_path program steps (ty.Node node None) value
  read-desc [] node desc value = refl
  read-desc (name ∷ names) node desc value = refl

  reads : {node : TypeId} {steps : List (List ℕ)} {type : Ty} → Leads program by_name node steps type → IsTrue (is_number type) → (desc : Option Expr) (value : Tree) → IsNought program capacity (ty.Node node desc) value
      → read_path program steps (ty.Node node None) value ≡ Some (pos 0)
  reads (last_step {node} {x = name} {s} {f} has named may) number desc value h = read-last node s f name desc value has named may number h
  reads (next_step {node} {next} {x = name} {xs = names} {s} {f} {desc = fdesc} {type} has named may is rest) number desc value h =
      let p = node-step node next s f name desc fdesc value has named may is h in
      ap (λ o. o then λ x. read_path program names x.type x.value) p.taken
      ∙ ap (λ t. read_path program names t p.part) is
      ∙ read-desc names next fdesc p.part
      ∙ reads rest number p.desc p.part p.nought

  pub nought-reads : (node : TypeId) (desc : Option Expr) (value : Tree) → IsNought program capacity (ty.Node node desc) value → ReadsZero program node value
  nought-reads node desc value h steps leads = reads leads.1 leads.2 desc value h
