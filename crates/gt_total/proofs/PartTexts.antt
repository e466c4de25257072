-- A part of a value to which a step leads has a text where the value has one.
use Rattle.std.proofs.Common.{◌≡◌, ℕ, zero, suc, Bool, true, false, cond, List, [], ◌∷◌, refl, ap, sym, subst, ◌∙◌, Option, Some, None}
use Rattle.std.specs.Prelude.{option_map, slice_get}
use Rattle.std.proofs.lemmas.Bool.{eq-eqb}
use Rattle.gt_types.specs.declared.expressions.Expr.{Expr}
use Rattle.gt_types.specs.declared.types.TypeId.{TypeId}
use Rattle.gt_types.specs.declared.types.Ty.{Ty}
use Rattle.gt_types.specs.declared.types.Ty.TheVariants as ty
use Rattle.gt_types.specs.declared.types.Ty.TheVariants.{outs-Node}
use Rattle.gt_types.specs.declared.program.Field.{Field}
use Rattle.gt_types.specs.declared.program.Structure.{Structure}
use Rattle.gt_types.specs.declared.program.Program.{Program}
use Rattle.gt_types.specs.Settled.{Settled}
use Rattle.gt_types.specs.Contains.{HasStructure}
use Rattle.gt_types.specs.Unions.{IsCommon}
use Rattle.gt_script.specs.declared.command.Hop.{Hop}
use Rattle.gt_tree.specs.Trees.{Tree, Num, Null, To, Raw, Rec, Alt, Row, Trees, End, And, part_at, part_of}
use Rattle.gt_tree.specs.Blocks.{Blocks}
use Rattle.gt_tree.specs.Scopes.{Typed, typed, ◌then◌, is_of_node, first_type, first_field_type}
use Rattle.gt_tree.proofs.Commons.{one-common}
use Rattle.gt_tree.proofs.PathBits.{some-same}
use Rattle.gt_show.specs.Shown.{Shows, ShowFields, ShowEach}
use Rattle.gt_next.specs.Spots.{element_at, element_of, type_of_part, typed_part}
use Rattle.gt_next.specs.Paths.{StepsIn, way_to, way_on}
use Rattle.gt_total.proofs.FitTexts.{HasText}

pub then_some : {X Y : Type 0} (o : Option X) (f : X → Option Y) (y : Y) → (o then f) ≡ Some y → (x : X) × (o ≡ Some x) × (f x ≡ Some y)
then_some None f y e = absurd (cc)
then_some (Some x) f y e = (x, refl, e)

-- the part at a place, and where it leads on
part_there : (program : Program) (type : Ty) (tree : Tree) (place : ℕ) (path : List ℕ) (next : Typed) → typed_part program type tree (place ∷ path) ≡ Some next
    → (inner : Ty) × (part : Tree) × (type_of_part program type place ≡ Some inner) × (part_at tree (place ∷ []) ≡ Some part) × (typed_part program inner part path ≡ Some next)
part_there program type tree place path next e =
    let inner = then_some (type_of_part program type place) (λ inner. part_at tree (place ∷ []) then λ part. typed_part program inner part path) next e in
    let part = then_some (part_at tree (place ∷ [])) (λ part. typed_part program inner.0 part path) next inner.2 in
    (inner.0, part.0, inner.1, part.1, part.2)

module _ (program : Program) (blocks : Blocks) where
  -- ---- structures

  same_structure : (node : TypeId) (s t : Structure) → HasStructure program node s → HasStructure program node t → s ≡ t
  same_structure node s t a b = some-same (slice_get program.structures node.0) s t a b

  -- the type of a field by its place
  field_type : (node : TypeId) (desc : Option Expr) (s : Structure) (place : ℕ) (inner : Ty) → HasStructure program node s → type_of_part program (ty.Node node desc) place ≡ Some inner
      → (f : Field) × (slice_get s.fields place ≡ Some f) × (f.ty ≡ inner)
  field_type node desc s place inner has e =
      let t = then_some (slice_get program.structures node.0) (λ s. slice_get s.fields place then λ f. Some f.ty) inner e in
      let same : t.0 ≡ s = same_structure node t.0 s t.1 has in
      let f = then_some (slice_get t.0.fields place) (λ f. Some f.ty) inner t.2 in
      let type : f.0.ty ≡ inner = let is = f.2 in cc in
      (f.0, subst (λ x. slice_get x.fields place ≡ Some f.0) same f.1, type)

  no_both : (node : TypeId) (s t : Structure) {C : Type 0} → HasStructure program node s → HasStructure program node t → s.is_union ≡ true → t.is_union ≡ false → C
  no_both node s t a b union struct = let same = same_structure node s t a b in let never : true ≡ false = sym union ∙ ap (λ x. x.is_union) same ∙ struct in absurd (cc)

  -- the fields of a struct
  struct_texts : (node : TypeId) (desc : Option Expr) (s : Structure) (tree : Tree) (text : List ℕ) → HasStructure program node s → s.is_union ≡ false → Shows program blocks (ty.Node node desc) tree text
      → (trees : Trees) × (texts : List (List ℕ)) × (tree ≡ Rec trees) × ShowFields program blocks s.fields trees texts
  struct_texts node desc s tree text has struct (Shows.number is) = absurd (cc)
  struct_texts node desc s tree text has struct (Shows.null is) = absurd (cc)
  struct_texts node desc s tree text has struct (Shows.to is there) = absurd (cc)
  struct_texts node desc s tree text has struct (Shows.struct {s = t} {trees} {texts} also plain fields) =
      (trees, texts, refl, subst (λ x. ShowFields program blocks x.fields trees texts) (same_structure node t s also has) fields)
  struct_texts node desc s tree text has struct (Shows.member {s = t} also union get shows) = no_both node t s also has union struct
  struct_texts node desc s tree text has struct (Shows.common {s = t} also union is shows) = no_both node t s also has union struct
  struct_texts node desc s tree text has struct (Shows.nothing {s = t} also union none) = no_both node t s also has union struct
  struct_texts node desc s tree text has struct (Shows.array e each) = absurd (let is = outs-Node node desc in cc)
  struct_texts node desc s tree text has struct (Shows.tail e each) = absurd (let is = outs-Node node desc in cc)

  -- a value of several fields is a struct
  rec_texts : (type : Ty) (trees : Trees) (text : List ℕ) → Shows program blocks type (Rec trees) text
      → (node : TypeId) × (desc : Option Expr) × (s : Structure) × (texts : List (List ℕ)) × (type ≡ ty.Node node desc) × HasStructure program node s × ShowFields program blocks s.fields trees texts
  rec_texts type trees text (Shows.struct {node} {desc} {s} {texts} has struct fields) = (node, desc, s, texts, refl, has, fields)

  field_text : (fields : List Field) (trees : Trees) (texts : List (List ℕ)) → ShowFields program blocks fields trees texts → (place : ℕ) (f : Field) (part : Tree) → slice_get fields place ≡ Some f → part_of trees place [] ≡ Some part
      → HasText program blocks f.ty part
  field_text fields trees texts ShowFields.no_field place f part e there = absurd (cc)
  field_text fields trees texts (ShowFields.next_field {f = g} {tree} {text} shows rest) zero f part e there =
      let same : g ≡ f = cc in
      let is : tree ≡ part = cc in
      (text, subst (λ x. Shows program blocks x.ty part text) same (subst (λ t. Shows program blocks g.ty t text) is shows))
  field_text fields trees texts (ShowFields.next_field {fs} {trees = more} {texts = others} shows rest) (suc place) f part e there = field_text fs more others rest place f part e there

  each_part : (type : Ty) (trees : Trees) (texts : List (List ℕ)) → ShowEach program blocks type trees texts → (place : ℕ) (part : Tree) → part_of trees place [] ≡ Some part → HasText program blocks type part
  each_part type trees texts ShowEach.no_more place part there = absurd (cc)
  each_part type trees texts (ShowEach.one_more {tree} {text} shows rest) zero part there = let is : tree ≡ part = cc in (text, subst (λ t. Shows program blocks type t text) is shows)
  each_part type trees texts (ShowEach.one_more {trees = more} {texts = others} shows rest) (suc place) part there = each_part type more others rest place part there

  -- ---- the way to the structure with which a value begins

  no_way : (b : Bool) (way : List ℕ) → cond b (Some []) None ≡ Some way → way ≡ []
  no_way true way e = cc
  no_way false way e = absurd (cc)

  ends_here : (type : Ty) (tree : Tree) (text way : List ℕ) (next : Typed) → way ≡ [] → Shows program blocks type tree text → typed_part program type tree way ≡ Some next → HasText program blocks next.type next.value
  ends_here type tree text way next e shows leads =
      let here : typed_part program type tree [] ≡ Some next = subst (λ w. typed_part program type tree w ≡ Some next) e leads in
      let same : typed type tree ≡ next = cc in
      subst (λ t. HasText program blocks t.type t.value) same (text, shows)

  map_some : {X Y : Type 0} (f : X → Y) (o : Option X) (y : Y) → option_map f o ≡ Some y → (x : X) × (o ≡ Some x) × (f x ≡ y)
  map_some f None y e = absurd (cc)
  map_some {X} {Y} f (Some x) y e = let same : f x ≡ y = cc in (x, refl, same)

  -- the type of the first field
  first_is : (type : Ty) (node : TypeId) (desc : Option Expr) (s : Structure) (f : Field) (fs : List Field) → type ≡ ty.Node node desc → HasStructure program node s → s.fields ≡ f ∷ fs
      → (first_type program type ≡ Some f.ty) × (type_of_part program type 0 ≡ Some f.ty)
  first_is type node desc s f fs is has e = (
    ap (λ t. first_type program t) is ∙ ap first_field_type has ∙ ap (λ xs. first_field_type (Some (record s { fields = xs }))) e,
    ap (λ t. type_of_part program t 0) is ∙ ap (λ o. o then λ s. slice_get s.fields 0 then λ f. Some f.ty) has ∙ ap (λ xs. slice_get xs 0 then λ f. Some f.ty) e,
  )

  first_field : (fields : List Field) (tree : Tree) (trees : Trees) (texts : List (List ℕ)) → ShowFields program blocks fields (And tree trees) texts
      → (f : Field) × (fs : List Field) × (text : List ℕ) × (fields ≡ f ∷ fs) × Shows program blocks f.ty tree text
  first_field fields tree trees texts (ShowFields.next_field {f} {fs} {text} shows rest) = (f, fs, text, refl, shows)

  way_text : (common : TypeId) (tree : Tree) (type : Ty) (text way : List ℕ) (next : Typed) → way_to program common (Some type) tree ≡ Some way → Shows program blocks type tree text
      → typed_part program type tree way ≡ Some next → HasText program blocks next.type next.value
  way_text common (Num n) type text way next e shows leads = ends_here type (Num n) text way next (no_way (is_of_node common (Some type)) way e) shows leads
  way_text common Null type text way next e shows leads = ends_here type Null text way next (no_way (is_of_node common (Some type)) way e) shows leads
  way_text common (To id) type text way next e shows leads = ends_here type (To id) text way next (no_way (is_of_node common (Some type)) way e) shows leads
  way_text common (Raw bytes) type text way next e shows leads = ends_here type (Raw bytes) text way next (no_way (is_of_node common (Some type)) way e) shows leads
  way_text common (Alt member tree) type text way next e shows leads = ends_here type (Alt member tree) text way next (no_way (is_of_node common (Some type)) way e) shows leads
  way_text common (Row trees) type text way next e shows leads = ends_here type (Row trees) text way next (no_way (is_of_node common (Some type)) way e) shows leads
  way_text common (Rec End) type text way next e shows leads = ends_here type (Rec End) text way next (no_way (is_of_node common (Some type)) way e) shows leads
  way_text common (Rec (And tree trees)) type text way next e shows leads =
      let is = rec_texts type (And tree trees) text shows in
      let first = first_field is.2.fields tree trees is.3 is.6 in
      let types = first_is type is.0 is.1 is.2 first.0 first.1 is.4 is.5 first.3 in
      by (is_of_node common (Some type)) first.0 types (λ w on leads_on. way_text common tree first.0.ty first.2 w next on first.4 leads_on) e
    where
      by : (b : Bool) (f : Field) → (first_type program type ≡ Some f.ty) × (type_of_part program type 0 ≡ Some f.ty)
          → ((w : List ℕ) → way_to program common (Some f.ty) tree ≡ Some w → typed_part program f.ty tree w ≡ Some next → HasText program blocks next.type next.value)
          → cond b (Some []) (way_on program common (first_type program type) (And tree trees)) ≡ Some way → HasText program blocks next.type next.value
      by true f types go e = let none : way ≡ [] = cc in ends_here type (Rec (And tree trees)) text way next none shows leads
      by false f types go e =
          let on = map_some (λ w. 0 ∷ w) (way_to program common (first_type program type) tree) way e in
          let inside = part_there program type (Rec (And tree trees)) 0 on.0 next (subst (λ w. typed_part program type (Rec (And tree trees)) w ≡ Some next) (sym on.2) leads) in
          let part : inside.1 ≡ tree = let is = inside.3 in cc in
          let inner : inside.0 ≡ f.ty = some-same (type_of_part program type 0) inside.0 f.ty inside.2 types.1 in
          go on.0 (ap (λ t. way_to program common t tree) (sym types.0) ∙ on.1)
          (subst (λ t. typed_part program t tree on.0 ≡ Some next) inner (subst (λ t. typed_part program inside.0 t on.0 ≡ Some next) part inside.4))

  -- ---- unions

  member_text : (node : TypeId) (desc : Option Expr) (s : Structure) (member : ℕ) (tree : Tree) (text : List ℕ) → HasStructure program node s → Shows program blocks (ty.Node node desc) (Alt (Some member) tree) text
      → (f : Field) × (slice_get s.fields member ≡ Some f) × HasText program blocks f.ty tree
  member_text node desc s member tree text has (Shows.member {s = t} {f} {text = own} also union get shows) =
      (f, subst (λ x. slice_get x.fields member ≡ Some f) (same_structure node t s also has) get, (own, shows))

  active_part : (node : TypeId) (desc : Option Expr) (s : Structure) (f : Field) (member : ℕ) (tree : Tree) (way : List ℕ) (next : Typed) → HasStructure program node s → slice_get s.fields member ≡ Some f
      → typed_part program (ty.Node node desc) (Alt (Some member) tree) (member ∷ way) ≡ Some next → typed_part program f.ty tree way ≡ Some next
  active_part node desc s f member tree way next has get e =
      let inside = part_there program (ty.Node node desc) (Alt (Some member) tree) member way next e in
      let g = field_type node desc s member inside.0 has inside.2 in
      let same : g.0 ≡ f = some-same (slice_get s.fields member) g.0 f g.1 get in
      let type : inside.0 ≡ f.ty = sym g.2 ∙ ap (λ x. x.ty) same in
      let there : Some tree ≡ Some inside.1 = sym (ap (λ b. cond b (Some tree) None) (eq-eqb member member refl)) ∙ inside.3 in
      let part : inside.1 ≡ tree = cc in
      subst (λ t. typed_part program t tree way ≡ Some next) type (subst (λ t. typed_part program inside.0 t way ≡ Some next) part inside.4)

  -- the text of a plain struct does not depend on the `desc`
  no_desc : (node : TypeId) (desc other : Option Expr) (tree : Tree) (text : List ℕ) → Shows program blocks (ty.Node node desc) tree text → HasText program blocks (ty.Node node other) tree
  no_desc node desc other tree text (Shows.number is) = absurd (cc)
  no_desc node desc other tree text (Shows.null is) = absurd (cc)
  no_desc node desc other tree text (Shows.to is there) = absurd (cc)
  no_desc node desc other tree text (Shows.struct has plain fields) = (_, Shows.struct has plain fields)
  no_desc node desc other tree text (Shows.member has union get shows) = (_, Shows.member has union get shows)
  no_desc node desc other tree text (Shows.common has union is shows) = (_, Shows.common has union is shows)
  no_desc node desc other tree text (Shows.nothing has union none) = (_, Shows.nothing has union none)
  no_desc node desc other tree text (Shows.array e each) = absurd (let is = outs-Node node desc in cc)
  no_desc node desc other tree text (Shows.tail e each) = absurd (let is = outs-Node node desc in cc)

  -- the common structure, where no member is active
  common_text : Settled program → (node common : TypeId) (desc other : Option Expr) (s : Structure) (tree : Tree) (text : List ℕ) → HasStructure program node s → IsCommon program s common
      → Shows program blocks (ty.Node node desc) (Alt None tree) text → HasText program blocks (ty.Node common other) tree
  common_text settled node common desc other s tree text has is (Shows.common {common = c} {s = t} {text = own} also union is_too shows) =
      let same : c ≡ common = one-common program node s c common settled has (subst (λ x. IsCommon program x c) (same_structure node t s also has) is_too) is in
      no_desc common None other tree own (subst (λ n. Shows program blocks (ty.Node n None) tree own) same shows)
  common_text settled node common desc other s tree text has is (Shows.nothing {s = t} also union none) =
      absurd (none common (subst (λ x. IsCommon program x common) (same_structure node s t has also) is))

  -- ---- elements

  element_type_is : (type elem : Ty) (place : ℕ) → element_of type ≡ Some elem → type_of_part program type place ≡ Some elem
  element_type_is (ty.Node node desc) elem place e = let o = ap element_at (outs-Node node desc) in absurd (cc)
  element_type_is type elem place e = e

  row_texts : (type : Ty) (trees : Trees) (text : List ℕ) → Shows program blocks type (Row trees) text → (elem : Ty) × (texts : List (List ℕ)) × (element_of type ≡ Some elem) × ShowEach program blocks elem trees texts
  row_texts type trees text (Shows.array {elem} {texts} e each) = (elem, texts, ap element_at e, each)
  row_texts type trees text (Shows.tail {elem} {texts} e each) = (elem, texts, ap element_at e, each)

  -- ---- one step

  pub step_text : Settled program → {t : Typed} {hop : Hop} {path : List ℕ} → StepsIn program t hop path → (text : List ℕ) → Shows program blocks t.type t.value text → (next : Typed)
      → typed_part program t.type t.value path ≡ Some next → HasText program blocks next.type next.value
  step_text settled (StepsIn.to_field {node} {desc} {s} {tree} {place} has struct at) text shows next leads =
      let fields = struct_texts node desc s tree text has struct shows in
      let inside = part_there program (ty.Node node desc) tree place [] next leads in
      let f = field_type node desc s place inside.0 has inside.2 in
      let part : part_of fields.0 place [] ≡ Some inside.1 = ap (λ t. part_at t (place ∷ [])) (sym fields.2) ∙ inside.3 in
      let found = field_text s.fields fields.0 fields.1 fields.3 place f.0 inside.1 f.1 part in
      let ends : Some (typed inside.0 inside.1) ≡ Some next = inside.4 in
      let same : typed inside.0 inside.1 ≡ next = cc in
      subst (λ t. HasText program blocks t.type t.value) same (subst (λ t. HasText program blocks t inside.1) f.2 found)
  step_text settled (StepsIn.to_active {node} {desc} {s} {tree} {place} has union at) text shows next leads =
      let member = member_text node desc s place tree text has shows in
      let ends : Some (typed member.0.ty tree) ≡ Some next = active_part node desc s member.0 place tree [] next has member.1 leads in
      let same : typed member.0.ty tree ≡ next = cc in
      subst (λ t. HasText program blocks t.type t.value) same member.2
  step_text settled (StepsIn.to_common {node} {common} {desc} {s} {f} {tree} {way} {member} has at differ is get on) text shows next leads =
      let own = member_text node desc s member tree text has shows in
      let same : own.0 ≡ f = some-same (slice_get s.fields member) own.0 f own.1 get in
      way_text common tree f.ty own.2.0 way next on (subst (λ x. Shows program blocks x.ty tree own.2.0) same own.2.1) (active_part node desc s f member tree way next has get leads)
  step_text settled (StepsIn.to_kept {node} {common} {desc} {s} {tree} {place} has at is) text shows next leads =
      let inside = part_there program (ty.Node node desc) (Alt None tree) place [] next leads in
      let f = field_type node desc s place inside.0 has inside.2 in
      let same : f.0 ≡ is.0 = some-same (slice_get s.fields place) f.0 is.0 f.1 is.2 in
      let type : inside.0 ≡ ty.Node common is.1 = sym f.2 ∙ ap (λ x. x.ty) same ∙ is.3 in
      let there : Some tree ≡ Some inside.1 = inside.3 in
      let part : tree ≡ inside.1 = cc in
      let found = common_text settled node common desc is.1 s tree text has is.4 shows in
      let ends : Some (typed inside.0 inside.1) ≡ Some next = inside.4 in
      let same_end : typed inside.0 inside.1 ≡ next = cc in
      subst (λ t. HasText program blocks t.type t.value) same_end (subst (λ x. HasText program blocks x inside.1) (sym type) (subst (λ x. HasText program blocks (ty.Node common is.1) x) part found))
  step_text settled (StepsIn.to_element {type} {elem} {trees} {place} e within) text shows next leads =
      let row = row_texts type trees text shows in
      let inside = part_there program type (Row trees) place [] next leads in
      let same : row.0 ≡ inside.0 = some-same (type_of_part program type place) row.0 inside.0 (element_type_is type row.0 place row.2) inside.2 in
      let found = each_part row.0 trees row.1 row.3 place inside.1 inside.3 in
      let ends : Some (typed inside.0 inside.1) ≡ Some next = inside.4 in
      let same_end : typed inside.0 inside.1 ≡ next = cc in
      subst (λ t. HasText program blocks t.type t.value) same_end (subst (λ x. HasText program blocks x inside.1) same found)
