-- From a value to the structure with which it begins.
use Rattle.std.proofs.Common.{◌≡◌, ◌≤◌, ◌+◌, ◌⊎◌, inl, inr, suc, arith, ℕ, true, false, cond, List, [], ◌∷◌, ◌++◌, refl, ap, sym, subst, ◌∙◌, Option, Some, None, append_assoc, append-nil}
use Rattle.std.specs.Prelude.{slice_get, option_map, Contains}
use Rattle.gt_types.specs.declared.expressions.Expr.{Expr}
use Rattle.gt_types.specs.declared.types.TypeId.{TypeId}
use Rattle.gt_types.specs.declared.types.Ty.{Ty}
use Rattle.gt_types.specs.declared.types.Ty.TheVariants as ty
use Rattle.gt_types.specs.declared.program.Field.{Field}
use Rattle.gt_types.specs.declared.program.Structure.{Structure}
use Rattle.gt_types.specs.declared.program.Program.{Program}
use Rattle.gt_types.specs.Contains.{HasStructure, ContainsStructure, Nests, held_by, itself}
use Rattle.gt_tree.proofs.Types.{held-node}
use Rattle.gt_types.specs.Settled.{Settled}
use Rattle.gt_types.specs.Unions.{BeginsWith, is_it, by_first}
use Rattle.gt_tree.specs.Trees.{Tree, Num, Null, To, Raw, Rec, Alt, Row, Trees, End, And, part_at}
use Rattle.gt_tree.specs.Scopes.{Typed, typed, is_node, first_type, first_field_type, type_of_field}
use Rattle.gt_tree.proofs.PathBegins.{same-number}
use Rattle.gt_value.specs.declared.cursors.Cursor.{Cursor}
use Rattle.gt_value.specs.Places.{Part}
use Rattle.gt_value.specs.Cursors.{Frame, IsAt, IsNoPart, IsSomewhere}
use Rattle.gt_next.specs.Spots.{typed_part, type_of_part}
use Rattle.gt_next.specs.Paths.{way_to, way_on}
use Rattle.gt_routes.specs.declared.steps.Step.{Step}
use Rattle.gt_routes.specs.Steps.{IsIn, StandsAt, IsBegin, along}
use Rattle.gt_routes.proofs.TypedParts.{typed-after, typed-one, field-type}
use Rattle.gt_routes.proofs.Fields.{fields-there, field-there, field-part}

-- ---- ways

pub way-self : (program : Program) (node : TypeId) (type : Ty) (tree : Tree) → is_node node type ≡ true → way_to program node (Some type) tree ≡ Some []
way-self program node type (Num n) e = ap (λ b. cond b (Some []) None) e
way-self program node type Null e = ap (λ b. cond b (Some []) None) e
way-self program node type (To id) e = ap (λ b. cond b (Some []) None) e
way-self program node type (Raw bytes) e = ap (λ b. cond b (Some []) None) e
way-self program node type (Rec trees) e = ap (λ b. cond b (Some []) (way_on program node (first_type program type) trees)) e
way-self program node type (Alt member tree) e = ap (λ b. cond b (Some []) None) e
way-self program node type (Row trees) e = ap (λ b. cond b (Some []) None) e

-- the type of the first field
first-field : (program : Program) (outer : TypeId) (desc : Option Expr) (s : Structure) (f : Field) (fs : List Field) → HasStructure program outer s → s.fields ≡ f ∷ fs → first_type program (ty.Node outer desc) ≡ Some f.ty
first-field program outer desc s f fs has e = ap first_field_type has ∙ ap (λ xs. type_of_field (slice_get xs 0)) e

-- the way through the first field of a struct
way-first : (program : Program) (common outer : TypeId) (desc : Option Expr) (s : Structure) (f : Field) (fs : List Field) → HasStructure program outer s → s.fields ≡ f ∷ fs → is_node common (ty.Node outer desc) ≡ false
    → (first : Tree) (rest : Trees) (way : List ℕ) → way_to program common (Some f.ty) first ≡ Some way → way_to program common (Some (ty.Node outer desc)) (Rec (And first rest)) ≡ Some (0 ∷ way)
way-first program common outer desc s f fs has e other first rest way found =
    ap (λ b. cond b (Some []) (way_on program common (first_type program (ty.Node outer desc)) (And first rest))) other
    ∙ ap (λ t. option_map (λ way. 0 ∷ way) (way_to program common t first)) (first-field program outer desc s f fs has e)
    ∙ ap (option_map (λ way. 0 ∷ way)) found

-- ---- the first part

-- a struct that begins with a structure by its first field
record ByFirst (program : Program) (type : Ty) (common : TypeId) : Type 0 where
  outer : TypeId
  desc : Option Expr
  s : Structure
  f : Field
  fs : List Field
  is : type ≡ ty.Node outer desc
  has : HasStructure program outer s
  struct : s.is_union ≡ false
  fields : s.fields ≡ f ∷ fs
  begins : BeginsWith program f.ty common

by-first : {program : Program} {type : Ty} {common : TypeId} → BeginsWith program type common → is_node common type ≡ false → ByFirst program type common
by-first (is_it {node} {desc}) other = let same = same-number node.0 in absurd (cc)
by-first (by_first {outer} {desc = desc} {s} {f} {fs} has struct e rest) other = record { outer = outer; desc = desc; s = s; f = f; fs = fs; is = refl; has = has; struct = struct; fields = e; begins = rest }

first-tree : (trees : Trees) (tree : Tree) → part_at (Rec trees) (0 ∷ []) ≡ Some tree → (rest : Trees) × (trees ≡ And tree rest)
first-tree End tree e = absurd (cc)
first-tree (And first rest) tree e = let same : first ≡ tree = cc in (rest, ap (λ x. And x rest) same)

-- where a cursor stands after a step to the first part of a struct
record IsFirst (at : Frame) (value : Part) (path : List ℕ) (c : Cursor) (here : StandsAt at value path c) (f : Field) (next : Cursor) : Type 0 where
  there : StandsAt at value (path ++ 0 ∷ []) next
  type_is : there.here.p.type ≡ f.ty
  rest : Trees
  tree_is : here.here.p.tree ≡ Rec (And there.here.p.tree rest)

is-first : (at : Frame) (value : Part) (path : List ℕ) (c : Cursor) (here : StandsAt at value path c) (settled : Settled at.program) (node : TypeId) (desc : Option Expr) → c.ty.now ≡ ty.Node node desc
    → (s : Structure) → HasStructure at.program node s → s.is_union ≡ false → (f : Field) (fs : List Field) → s.fields ≡ f ∷ fs → (next : Cursor) → IsAt at next value (path ++ 0 ∷ []) → IsFirst at value path c here f next
is-first at value path c here settled node desc type s has struct f fs e next is =
    let p = here.here.p in
    let there = field-there at value path c here settled node desc type s has struct next 0 is in
    let fields = fields-there at value path c here settled node desc type s has struct in
    let got : slice_get s.fields 0 ≡ Some f = ap (λ xs. slice_get xs 0) e in
    let types : p.type ≡ ty.Node node desc = sym here.here.is.type_is ∙ type in
    let known = sym (typed-after at.program value.type value.tree path (0 ∷ []) (typed p.type p.tree) here.known) ∙ there.known in
    let of_tree = subst (λ v. typed_part at.program p.type v (0 ∷ []) ≡ Some (typed there.here.p.type there.here.p.tree)) fields.is known in
    let of_type = subst (λ t. typed_part at.program t (Rec fields.trees) (0 ∷ []) ≡ Some (typed there.here.p.type there.here.p.tree)) types of_tree in
    let one = typed-one (type_of_part at.program (ty.Node node desc) 0) (part_at (Rec fields.trees) (0 ∷ [])) f.ty (typed there.here.p.type there.here.p.tree) (field-type at.program node desc s 0 f has got) of_type in
    let first = first-tree fields.trees there.here.p.tree one.1 in
    record { there = there; type_is = one.0; rest = first.0; tree_is = fields.is ∙ ap Rec first.1 }

-- ---- on the way

-- a cursor stands on the way to the structure with which the value at another begins
pub record IsOn (at : Frame) (value : Part) (path : List ℕ) (from : Cursor) (common : TypeId) (member : ℕ) (places : List ℕ) (c : Cursor) (here : StandsAt at value path from) : Type 0 where
  pub way : List ℕ
  pub places_are : places ≡ member ∷ way
  pub there : StandsAt at value (path ++ way) c
  pub found : (t : Typed) → typed_part at.program value.type value.tree (path ++ way) ≡ Some t → (rest : List ℕ) → way_to at.program common (Some t.type) t.value ≡ Some rest
      → way_to at.program common (Some here.here.p.type) here.here.p.tree ≡ Some (way ++ rest)

pub record IsOnWay (program : Program) (from : Cursor) (common : TypeId) (member : ℕ) (places : List ℕ) (c : Cursor) : Type 0 where
  pub begins : BeginsWith program c.ty.now common
  pub on : (at : Frame) (value : Part) (path : List ℕ) (here : StandsAt at value path from) → at.program ≡ program → IsOn at value path from common member places c here

pub way-starts : (program : Program) (from : Cursor) (common : TypeId) (member : ℕ) (places : List ℕ) → places ≡ member ∷ [] → BeginsWith program from.ty.now common → IsOnWay program from common member places from
way-starts program from common member places e begins = record {
  begins = begins;
  on = λ at value path here p. record {
    way = [];
    places_are = e;
    there = subst (λ xs. StandsAt at value xs from) (sym (append-nil path)) here;
    found = λ t known rest found.
        let known_here : typed_part at.program value.type value.tree path ≡ Some t = ap (typed_part at.program value.type value.tree) (sym (append-nil path)) ∙ known in
        let at_here = here.known in
        let same : t ≡ typed here.here.p.type here.here.p.tree = cc in
        subst (λ u. way_to at.program common (Some u.type) u.value ≡ Some rest) same found;
  };
}

-- a cursor on the way stands somewhere
pub way-somewhere : (program : Program) (from : Cursor) (common : TypeId) (member : ℕ) (places : List ℕ) (c : Cursor) → IsIn program from → IsOnWay program from common member places c → IsSomewhere c
way-somewhere program from common member places c s w =
    let on = w.on s.at s.value s.path s.stands s.program_is in
    record { at = s.at; value = s.value; path = s.path ++ on.way; is = on.there.here }

module _ (program : Program) (settled : Settled program) (from : Cursor) (common : TypeId) (member : ℕ) (places : List ℕ) (c : Cursor) (w : IsOnWay program from common member places c) (other : is_node common c.ty.now ≡ false) (next : Cursor)
    (step : (at : Frame) (value : Part) (path : List ℕ) → IsAt at c value path → IsAt at next value (path ++ 0 ∷ [])) where
  by : ByFirst program c.ty.now common
  by = by-first w.begins other

  first-at : (at : Frame) (value : Part) (path : List ℕ) (here : StandsAt at value path c) → at.program ≡ program → IsFirst at value path c here by.f next
  first-at at value path here p =
      is-first at value path c here (subst Settled (sym p) settled) by.outer by.desc by.is by.s (subst (λ x. HasStructure x by.outer by.s) (sym p) by.has) by.struct by.f by.fs by.fields next (step at value path here.here)

  on-next : (at : Frame) (value : Part) (path : List ℕ) (here : StandsAt at value path from) → at.program ≡ program → (more : List ℕ) → more ≡ places ++ 0 ∷ [] → IsOn at value path from common member more next here
  on-next at value path here p more e =
      let on = w.on at value path here p in
      let first = first-at at value (path ++ on.way) on.there p in
      record {
        way = on.way ++ 0 ∷ [];
        places_are = e ∙ ap (λ xs. xs ++ 0 ∷ []) on.places_are;
        there = subst (λ xs. StandsAt at value xs next) (append_assoc path on.way (0 ∷ [])) first.there;
        found = λ t known rest found.
            let known_there : typed_part at.program value.type value.tree ((path ++ on.way) ++ 0 ∷ []) ≡ Some t = ap (typed_part at.program value.type value.tree) (append_assoc path on.way (0 ∷ [])) ∙ known in
            let at_there = first.there.known in
            let same : t ≡ typed first.there.here.p.type first.there.here.p.tree = cc in
            let way = subst (λ u. way_to at.program common (Some u.type) u.value ≡ Some rest) same found in
            let way_field = subst (λ u. way_to at.program common (Some u) first.there.here.p.tree ≡ Some rest) first.type_is way in
            let whole =
            way-first at.program common by.outer by.desc by.s by.f by.fs (subst (λ x. HasStructure x by.outer by.s) (sym p) by.has) by.fields (subst (λ u. is_node common u ≡ false) by.is other) first.there.here.p.tree first.rest rest way_field in
            let of_tree = subst (λ v. way_to at.program common (Some (ty.Node by.outer by.desc)) v ≡ Some (0 ∷ rest)) (sym first.tree_is) whole in
            let types : ty.Node by.outer by.desc ≡ on.there.here.p.type = sym by.is ∙ on.there.here.is.type_is in
            let of_type = subst (λ u. way_to at.program common (Some u) on.there.here.p.tree ≡ Some (0 ∷ rest)) types of_tree in
            on.found (typed on.there.here.p.type on.there.here.p.tree) on.there.known (0 ∷ rest) of_type ∙ ap Some (sym (append_assoc on.way (0 ∷ []) rest));
      }

  -- one more step to the first part
  pub way-goes : (more : List ℕ) → more ≡ places ++ 0 ∷ [] → IsIn program from → IsOnWay program from common member more next
  way-goes more e s =
      let on = w.on s.at s.value s.path s.stands s.program_is in
      let first = first-at s.at s.value (s.path ++ on.way) on.there s.program_is in
      let types : by.f.ty ≡ next.ty.now = sym first.type_is ∙ sym first.there.here.is.type_is in
      record {
        begins = subst (λ t. BeginsWith program t common) types by.begins;
        on = λ at value path here p. on-next at value path here p more e;
      }

-- where the structure is reached
pub way-ends : (program : Program) (from : Cursor) (common : TypeId) (member : ℕ) (to : Step) → IsOnWay program from common member (along to) to.at → is_node common to.at.ty.now ≡ true
    → (at : Frame) (value : Part) (path : List ℕ) (here : StandsAt at value path from) → at.program ≡ program → IsBegin at value path from common member to here
way-ends program from common member to w e at value path here p =
    let on = w.on at value path here p in
    let there = on.there.here in
    let is = way-self at.program common there.p.type there.p.tree (subst (λ t. is_node common t ≡ true) there.is.type_is e) in
    record {
      way = on.way;
      places_are = on.places_are;
      there = on.there;
      found = on.found (typed there.p.type there.p.tree) on.there.known [] is ∙ ap Some (append-nil on.way);
    }

-- a cursor on the way has a first part
pub way-part : (program : Program) → Settled program → (from : Cursor) (common : TypeId) (member : ℕ) (places : List ℕ) (c : Cursor) → IsIn program from → IsOnWay program from common member places c → is_node common c.ty.now ≡ false
    → ((at : Frame) (value : Part) (path : List ℕ) → IsAt at c value path → IsNoPart at value path 0) → ⊥
way-part program settled from common member places c s w other none =
    let by = by-first w.begins other in
    let on = w.on s.at s.value s.path s.stands s.program_is in
    let got : slice_get by.s.fields 0 ≡ Some by.f = ap (λ xs. slice_get xs 0) by.fields in
    field-part s.at s.value (s.path ++ on.way) c on.there (subst Settled (sym s.program_is) settled) by.outer by.desc by.is by.s (subst (λ x. HasStructure x by.outer by.s) (sym s.program_is) by.has) by.struct 0 by.f got
    (none s.at s.value (s.path ++ on.way) on.there.here)

-- ---- how deep

-- so many structures lie one inside another, the last of which is this type
abbrev pub IsDeep : Program → ℕ → Ty → Type 0
IsDeep program n type = (n ≡ 0) ⊎ ((outer : TypeId) × (node : TypeId) × (desc : Option Expr) × (type ≡ ty.Node node desc) × Nests program n outer node)

nests-more : {program : Program} {n : ℕ} {outer inner : TypeId} → Nests program n outer inner → (next : TypeId) → ContainsStructure program inner next → Nests program (suc n) outer next
nests-more (Nests.once a) next b = Nests.deeper a (Nests.once b)
nests-more (Nests.deeper a nests) next b = Nests.deeper a (nests-more nests next b)

no-node : (program : Program) (type : Ty) (node : TypeId) → BeginsWith program type node → (outer : TypeId) × (desc : Option Expr) × (type ≡ ty.Node outer desc)
no-node program type node (is_it {desc = desc}) = (node, desc, refl)
no-node program type node (by_first {outer} {desc = desc} has struct e rest) = (outer, desc, refl)

module _ (program : Program) (settled : Settled program) (from : Cursor) (common : TypeId) (member : ℕ) (places : List ℕ) (c : Cursor) (s : IsIn program from) (w : IsOnWay program from common member places c) (other : is_node common c.ty.now ≡ false)
    (next : Cursor) (step : (at : Frame) (value : Part) (path : List ℕ) → IsAt at c value path → IsAt at next value (path ++ 0 ∷ [])) where
  pub way-deeper : (n : ℕ) → IsDeep program n c.ty.now → IsDeep program (n + 1) next.ty.now
  way-deeper n deep =
      let by = by-first w.begins other in
      let on = w.on s.at s.value s.path s.stands s.program_is in
      let first =
      is-first s.at s.value (s.path ++ on.way) c on.there (subst Settled (sym s.program_is) settled) by.outer by.desc by.is by.s (subst (λ x. HasStructure x by.outer by.s) (sym s.program_is) by.has) by.struct by.f by.fs by.fields next
      (step s.at s.value (s.path ++ on.way) on.there.here) in
      let inner = no-node program by.f.ty common by.begins in
      let is : next.ty.now ≡ ty.Node inner.0 inner.1 = first.there.here.is.type_is ∙ first.type_is ∙ inner.2 in
      let holds : ContainsStructure program by.outer inner.0 =
      (by.s, by.f, by.has, subst (λ ys. Contains ys by.f) (sym by.fields) (0, omega arith, refl), subst (λ t. held_by t ≡ Some inner.0) (sym inner.2) (held-node inner.0 inner.1)) in
      go by.outer by.desc by.is inner.0 inner.1 is holds n deep
    where
      go : (outer : TypeId) (desc : Option Expr) → c.ty.now ≡ ty.Node outer desc → (node : TypeId) (inner : Option Expr) → next.ty.now ≡ ty.Node node inner → ContainsStructure program outer node → (n : ℕ) → IsDeep program n c.ty.now
          → IsDeep program (n + 1) next.ty.now
      go outer desc type node inner is holds n (inl zero_deep) =
          let one : 1 ≡ n + 1 = omega (arith, zero_deep) in
          inr (outer, node, inner, is, subst (λ k. Nests program k outer node) one (Nests.once holds))
      go outer desc type node inner is holds n (inr (first, last, of, last_is, nests)) =
          let types : ty.Node last of ≡ ty.Node outer desc = sym last_is ∙ type in
          let nodes = ap itself types in
          let same : last ≡ outer = cc in
          let more : suc n ≡ n + 1 = omega arith in
          inr (first, node, inner, is, subst (λ k. Nests program k first node) more (nests-more nests node (subst (λ x. ContainsStructure program x node) (sym same) holds)))

-- no structures lie so deep
pub too-deep : (program : Program) → Settled program → (n : ℕ) (type : Ty) → 33 ≤ n → IsDeep program n type → ⊥
too-deep program settled n type le (inl e) = omega (arith, le, e)
too-deep program settled n type le (inr (outer, node, desc, is, nests)) = let most = settled.depth n outer node nests in omega (arith, le, most)
