-- A value fits a type in each scope in which the expressions of the program read the same; and so it does where a leaf is replaced that none reads.
use Rattle.std.proofs.Common.{◌≡◌, ℕ, zero, suc, Bool, true, false, List, ◌∷◌, refl, ap, sym, subst, ◌∙◌, Option, Some, None, inl, inr}
use Rattle.std.specs.Prelude.{pos, All, Contains, slice_get}
use Rattle.std.proofs.lemmas.List.Elements.{All-head, All-tail, All-map, All-weaker, All-contains_itself}
use Rattle.gt_types.specs.declared.expressions.Expr.{Expr}
use Rattle.gt_types.specs.declared.types.TypeId.{TypeId}
use Rattle.gt_types.specs.declared.types.Target.TheVariants as target
use Rattle.gt_types.specs.declared.types.PtrKind.TheVariants as pointer
use Rattle.gt_types.specs.declared.types.Ty.{Ty, out-Ty}
use Rattle.gt_types.specs.declared.types.Ty.TheOpen as part
use Rattle.gt_types.specs.declared.types.Ty.TheVariants as ty
use Rattle.gt_types.specs.declared.program.Structure.{Structure}
use Rattle.gt_types.specs.declared.program.Program.{Program}
use Rattle.gt_types.specs.Contains.{HasStructure}
use Rattle.gt_types.specs.Settled.{Settled}
use Rattle.gt_layout.specs.declared.planes.Plane.{Plane}
use Rattle.gt_tree.specs.Trees.{Tree, Rec, Alt, Row, Trees, End, count, tree_at, with_part, with_part_of, without_pointers}
use Rattle.gt_tree.specs.Blocks.{Blocks, MayName}
use Rattle.gt_tree.specs.Scopes.{Scope, inside, eval_in}
use Rattle.gt_tree.specs.Fits.{Fits, AllFit, EachFits, IsActive, active_member, types_of}
use Rattle.gt_tree.proofs.FixedParts.{is-union, is-plain, is-tail}
use Rattle.gt_tree.proofs.FixedScopes.{count-tail}
use Rattle.gt_tree.proofs.Fitting.{fits-struct, fits-member, fits-common, fits-array, fits-tail}
use Rattle.gt_tree.proofs.PathParts.{get-map}
use Rattle.gt_value.specs.declared.places.Holder.{Holder}
use Rattle.gt_value.specs.Places.{Part, PartLies}
use Rattle.gt_starts.specs.Ways.{way_to}
use Rattle.gt_leaf.specs.Unread.{Enclosing, Around, none_around, structures_from, IsUnread, MayReplace}
use Rattle.gt_leaf.proofs.Arounds.{Covers, covers-all, begun, stands-itself, field-covers, array-covers, tail-covers}
use Rattle.gt_leaf.proofs.Swaps.{Swap, swapped, with-member}
use Rattle.gt_leaf.proofs.WaySteps.{whole-way}
use Rattle.gt_leaf.proofs.SwapReads.{reads-swapped}
use Rattle.gt_leaf.proofs.Alongs.{Along, Contains-get}
use Rattle.gt_leaf.proofs.SwapScopes.{AllReadSame, ScopesSame, inside-same, not-outermost, same-count, same-desc}
use Rattle.gt_leaf.proofs.PlainParts.{plain-with, inactive, count-with, leaf-type}

-- a tail is as long as its length says
pub long-row : {program : Program} {blocks : Blocks} {capacity : ℕ} (s : Scope) (type elem : Ty) (length : Expr) (trees : Trees) → out-Ty type ≡ part.Tail length elem → Fits program blocks capacity s type (Row trees)
    → eval_in program s length ≡ Some (pos (count trees))
long-row {program} s type elem length trees e fits =
    let found = is-tail type elem length (Row trees) e fits in
    let same : found.0 ≡ trees = cc in
    found.2 ∙ ap (λ y. Some (pos (count y))) same

-- a leaf inside these structures that no expression reads may be replaced by this one
pub record Replaces (program : Program) (blocks : Blocks) (capacity : ℕ) (around : Around) (p : Part) (leaf : Tree) : Type 0 where
  pub unread : IsUnread program around p.active p.holder
  pub may : MayReplace p leaf
  pub fits : Fits program blocks capacity p.scope p.type leaf

pub swap-of : {program : Program} {planes : List Plane} {blocks : Blocks} {capacity : ℕ} {around : Around} {s : Scope} {h : Holder} {active : Bool} {bit : ℕ} {type : Ty} {tree : Tree} {path : List ℕ} {p : Part} → PartLies program planes s h active bit type tree path p
    → (top : Option Enclosing) (leaf : Tree) → Replaces program blocks capacity around p leaf → Covers around p.active (structures_from program (none_around top) (Some type) path) → Swap program (none_around top) h type path tree (with_part tree path leaf)
swap-of lies top leaf r covers = swapped lies (none_around top) leaf r.unread covers r.may.0 r.may.1 (leaf-type r.fits r.may.1)

pub plain-leaf : (p : Part) (leaf : Tree) → MayReplace p leaf → p.active ≡ false → without_pointers leaf ≡ leaf
plain-leaf p leaf may e = elim may.2 [ inl active ↦ absurd (cc) | inr plain ↦ plain ]

reads : {program : Program} {h : Holder} {path : List ℕ} → Settled program → (top : Option Enclosing) (node : TypeId) (desc : Option Expr) (v w : Tree) → Swap program (none_around top) h (ty.Node node desc) path v w → AllReadSame program top node v w
reads {program} {h} {path} settled top node desc v w swap =
    λ base begins steps leads read.
    reads-swapped settled leads.1 leads.2 base node steps read (none_around top) path (way_to program (Some node) path) (stands-itself top (node, way_to program (Some node) path) base begins) (whole-way steps (way_to program (Some node) path)) h desc v w swap

self-same : {program : Program} {s t : Scope} (node : TypeId) (v : Tree) → ScopesSame program s t → ScopesSame program (inside s node v) (inside t node v)
self-same node v same = inside-same None node v v same (λ none. refl) (λ base begins steps leads read. refl)

module _ {program : Program} (settled : Settled program) {a : Trees} where
  -- ---- an unchanged value

  may-same : (blocks : Blocks) {s : Scope} (t : Scope) (type : Ty) (id : ℕ) → Along program a s type → ScopesSame program s t → MayName blocks (eval_in program s) type id → MayName blocks (eval_in program t) type id
  may-same blocks t (ty.Str None) id p same m = m
  may-same blocks t (ty.Str (Some len)) id p same (n, v, h) = (n, sym (same-count settled t (ty.Str (Some len)) len p same refl) ∙ v, h)
  may-same blocks t (ty.Ptr (Some (target.Node node)) pointer.Plain reorder) id p same m = m
  may-same blocks t (ty.Ptr (Some (target.Node node)) (pointer.Length len) reorder) id p same (n, v, h) =
      (n, sym (same-count settled t (ty.Ptr (Some (target.Node node)) (pointer.Length len) reorder) len p same refl) ∙ v, h)
  may-same blocks t (ty.Ptr (Some (target.Pointers node)) (pointer.Length len) reorder) id p same (n, v, h) =
      (n, sym (same-count settled t (ty.Ptr (Some (target.Pointers node)) (pointer.Length len) reorder) len p same refl) ∙ v, h)
  may-same blocks t (ty.Ptr (Some target.Strings) (pointer.Length len) reorder) id p same (n, v, h) =
      (n, sym (same-count settled t (ty.Ptr (Some target.Strings) (pointer.Length len) reorder) len p same refl) ∙ v, h)
  may-same blocks t (ty.Ptr None pointer.Atomic reorder) id p same m = m
  may-same blocks t type id p same m = absurd m

  pub active-same : {s : Scope} (t : Scope) (top : Option Enclosing) (node : TypeId) (desc : Option Expr) (x : Structure) (v w : Tree) (member : Option ℕ) → Along program a s (ty.Node node desc) → (s.outermost ≡ None → top ≡ None) → ScopesSame program s t → AllReadSame program top node v w
      → HasStructure program node x → x.is_union ≡ true → IsActive program s node desc x v member → IsActive program t node desc x w member
  active-same t top node desc x v w member p outermost same r has union active = ap (λ d. active_member d x.fields) (sym (same-desc settled t top node desc v w x p outermost same r has union)) ∙ active

  fields-along : {s : Scope} (node : TypeId) (desc : Option Expr) (v : Tree) (x : Structure) → Along program a s (ty.Node node desc) → HasStructure program node x → All (Along program a (inside s node v)) (types_of x.fields)
  fields-along {s} node desc v x p has =
      All-map (Along program a (inside s node v)) (λ f. f.ty) x.fields (All-weaker (Contains x.fields) (λ f. Along program a (inside s node v) f.ty) (λ f c. Along.in_field p has c) x.fields (All-contains_itself x.fields))

  mutual
    pub stays : {blocks : Blocks} {capacity : ℕ} {s : Scope} {type : Ty} {tree : Tree} → Fits program blocks capacity s type tree → (t : Scope) → Along program a s type → ScopesSame program s t → Fits program blocks capacity t type tree
    stays (Fits.number room) t p same = Fits.number room
    stays (Fits.bits room) t p same = Fits.bits room
    stays (Fits.opaque long small) t p same = Fits.opaque long small
    stays (Fits.null pointer) t p same = Fits.null pointer
    stays {blocks} {s} (Fits.to {type} {id} m) t p same = Fits.to (may-same blocks t type id p same m)
    stays {s} (Fits.struct {node} {desc} {s = x} {trees} has struct all) t p same =
        Fits.struct has struct (stays_fields all (inside t node (Rec trees)) (fields-along node desc (Rec trees) x p has) (self-same node (Rec trees) same))
    stays {s} (Fits.member {node} {desc} {s = x} {place} {f} {tree} has union active got fits) t p same =
        Fits.member has union (active-same t None node desc x (Alt (Some place) tree) (Alt (Some place) tree) (Some place) p (λ none. refl) same (λ base begins steps leads read. refl) has union active) got
        (stays fits (inside t node (Alt (Some place) tree)) (Along.in_field p has (Contains-get x.fields place f got)) (self-same node (Alt (Some place) tree) same))
    stays {s} (Fits.common {node} {common} {desc} {s = x} {tree} has union active is plain fits) t p same =
        Fits.common has union (active-same t None node desc x (Alt None tree) (Alt None tree) None p (λ none. refl) same (λ base begins steps leads read. refl) has union active) is plain
        (stays fits (inside t node (Alt None tree)) (Along.in_common p has is) (self-same node (Alt None tree) same))
    stays {s} (Fits.nothing {node} {desc} {s = x} has union active none) t p same =
        Fits.nothing has union (active-same t None node desc x (Alt None (Rec End)) (Alt None (Rec End)) None p (λ none. refl) same (λ base begins steps leads read. refl) has union active) none
    stays (Fits.array {type} {elem} {n} e many each) t p same = Fits.array e many (stays_each each t (Along.in_array p e) same)
    stays {s} (Fits.tail {type} {elem} {length} e value le many each) t p same =
        Fits.tail e (sym (same-count settled t type length p same (count-tail type elem length e)) ∙ value) le many (stays_each each t (Along.in_tail p e) same)

    pub stays_fields : {blocks : Blocks} {capacity : ℕ} {s : Scope} {types : List Ty} {trees : Trees} → AllFit program blocks capacity s types trees → (t : Scope) → All (Along program a s) types → ScopesSame program s t
        → AllFit program blocks capacity t types trees
    stays_fields AllFit.none t p same = AllFit.none
    stays_fields {s} (AllFit.more {type} {types} fits all) t p same = AllFit.more (stays fits t (All-head (Along program a s) type types p) same) (stays_fields all t (All-tail (Along program a s) type types p) same)

    pub stays_each : {blocks : Blocks} {capacity : ℕ} {s : Scope} {type : Ty} {trees : Trees} → EachFits program blocks capacity s type trees → (t : Scope) → Along program a s type → ScopesSame program s t
        → EachFits program blocks capacity t type trees
    stays_each EachFits.no_more t p same = EachFits.no_more
    stays_each (EachFits.one_more fits each) t p same = EachFits.one_more (stays fits t p same) (stays_each each t p same)

  -- ---- one value of several is changed

  pub put-fits : {blocks : Blocks} {capacity : ℕ} {s : Scope} {types : List Ty} {trees : Trees} → AllFit program blocks capacity s types trees → (t : Scope) (i : ℕ) (type : Ty) (tree : Tree) (path : List ℕ) (leaf : Tree)
      → slice_get types i ≡ Some type → tree_at trees i ≡ Some tree → (Fits program blocks capacity s type tree → Fits program blocks capacity t type (with_part tree path leaf)) → All (Along program a s) types → ScopesSame program s t
      → AllFit program blocks capacity t types (with_part_of trees i path leaf)
  put-fits AllFit.none t i type tree path leaf e there change p same = absurd (cc)
  put-fits {blocks} {capacity} {s} (AllFit.more {type = first} {types} {tree = old} fits all) t zero type tree path leaf e there change p same =
      let is_type : type ≡ first = cc in
      let is_tree : tree ≡ old = cc in
      let changed = subst (λ y. Fits program blocks capacity s y old → Fits program blocks capacity t y (with_part old path leaf)) is_type
      (subst (λ v. Fits program blocks capacity s type v → Fits program blocks capacity t type (with_part v path leaf)) is_tree change) in
      AllFit.more (changed fits) (stays_fields all t (All-tail (Along program a s) first types p) same)
  put-fits {s} (AllFit.more {type = first} {types} fits all) t (suc i) type tree path leaf e there change p same =
      AllFit.more (stays fits t (All-head (Along program a s) first types p) same) (put-fits all t i type tree path leaf e there change (All-tail (Along program a s) first types p) same)

  put-each : {blocks : Blocks} {capacity : ℕ} {s : Scope} {type : Ty} {trees : Trees} → EachFits program blocks capacity s type trees → (t : Scope) (i : ℕ) (tree : Tree) (path : List ℕ) (leaf : Tree) → tree_at trees i ≡ Some tree
      → (Fits program blocks capacity s type tree → Fits program blocks capacity t type (with_part tree path leaf)) → Along program a s type → ScopesSame program s t → EachFits program blocks capacity t type (with_part_of trees i path leaf)
  put-each EachFits.no_more t i tree path leaf there change p same = absurd (cc)
  put-each {blocks} {capacity} {s} {type} (EachFits.one_more {tree = old} fits each) t zero tree path leaf there change p same =
      let is_tree : tree ≡ old = cc in
      let changed = subst (λ v. Fits program blocks capacity s type v → Fits program blocks capacity t type (with_part v path leaf)) is_tree change in
      EachFits.one_more (changed fits) (stays_each each t p same)
  put-each (EachFits.one_more fits each) t (suc i) tree path leaf there change p same = EachFits.one_more (stays fits t p same) (put-each each t i tree path leaf there change p same)

  -- ---- the value with the leaf

  pub changes : {planes : List Plane} {blocks : Blocks} {capacity : ℕ} {around : Around} {s : Scope} {h : Holder} {active : Bool} {bit : ℕ} {type : Ty} {tree : Tree} {path : List ℕ} {p : Part} → PartLies program planes s h active bit type tree path p → Fits program blocks capacity s type tree → (t : Scope)
      → Along program a s type → ScopesSame program s t → (top : Option Enclosing) → (s.outermost ≡ None → top ≡ None) → (leaf : Tree) → Replaces program blocks capacity around p leaf
      → Covers around p.active (structures_from program (none_around top) (Some type) path) → Fits program blocks capacity t type (with_part tree path leaf)
  changes PartLies.whole fits t along same top outermost leaf r covers = stays r.fits t along same
  changes {s} {h} (PartLies.field {i} {node} {desc} {s = x} {f} {trees} {tree} {path} has struct laid get spot there lies) fits t along same top outermost leaf r covers =
      let w = Rec (with_part_of trees i path leaf) in
      let read = reads {h = h} settled top node desc (Rec trees) w (swap-of (PartLies.field {scope = s} has struct laid get spot there lies) top leaf r covers) in
      let now = inside-same top node (Rec trees) w same outermost read in
      Fits.struct has struct
      (put-fits (fits-struct node desc x trees has fits) (inside t node w) i f.ty tree path leaf (get-map (λ g. g.ty) x.fields i f get) there
      (λ inner. changes lies inner (inside t node w) (Along.in_field along has (Contains-get x.fields i f get)) now (begun program top node (i ∷ path)) (not-outermost s node (Rec trees) (begun program top node (i ∷ path))) leaf r (field-covers program top node desc x f i path has get covers)) (fields-along node desc (Rec trees) x along has) now)
  changes {blocks} {capacity} {s} {h} (PartLies.member {i} {node} {desc} {s = x} {f} {tree} {path} has union get lies) fits t along same top outermost leaf r covers =
      let v = Alt (Some i) tree in
      let w = Alt (Some i) (with_part tree path leaf) in
      let swap = subst (λ y. Swap program (none_around top) h (ty.Node node desc) (i ∷ path) v y) (sym (with-member i tree path leaf)) (swap-of (PartLies.member {scope = s} has union get lies) top leaf r covers) in
      let read = reads {h = h} settled top node desc v w swap in
      let now = inside-same top node v w same outermost read in
      let found = is-union node desc x v has union fits in
      let active : found.0 ≡ Some i = cc in
      let was = subst (λ m. IsActive program s node desc x v m) active found.3 in
      subst (λ y. Fits program blocks capacity t (ty.Node node desc) y) (with-member i tree path leaf)
      (Fits.member has union (active-same t top node desc x v w (Some i) along outermost same read has union was) get
      (changes lies (fits-member node desc x i f tree has get fits) (inside t node w) (Along.in_field along has (Contains-get x.fields i f get)) now (begun program top node (i ∷ path)) (not-outermost s node v (begun program top node (i ∷ path))) leaf r (field-covers program top node desc x f i path has get covers)))
  changes {s} {h} {active = was_active} {p} (PartLies.common {i} {node} {common} {desc} {s = x} {tree} {path} has common_is lies) fits t along same top outermost leaf r covers =
      let v = Alt None tree in
      let w = Alt None (with_part tree path leaf) in
      let read = reads {h = h} settled top node desc v w (swap-of {active = was_active} (PartLies.common {scope = s} {i = i} has common_is lies) top leaf r covers) in
      let now = inside-same top node v w same outermost read in
      let found = is-union node desc x v has common_is.union fits in
      let active : found.0 ≡ None = cc in
      let was = subst (λ m. IsActive program s node desc x v m) active found.3 in
      let plain = plain-with tree path leaf (is-plain node desc tree fits) (plain-leaf p leaf r.may (inactive lies refl)) in
      Fits.common has common_is.union (active-same t top node desc x v w None along outermost same read has common_is.union was) common_is plain
      (changes lies (fits-common node common desc x tree settled has common_is fits) (inside t node w) (Along.in_common along has common_is) now top (not-outermost s node v top) leaf r (covers-all _ _ _ (inactive lies refl)))
  changes (PartLies.array {i} {n} {type} {elem} {trees} {tree} {path} e there lies) fits t along same top outermost leaf r covers =
      let was = fits-array type elem n trees e fits in
      Fits.array e (count-with trees i path leaf ∙ was.0) (put-each was.1 t i tree path leaf there (λ inner. changes lies inner t (Along.in_array along e) same top outermost leaf r (array-covers program top type elem n i path e covers)) (Along.in_array along e) same)
  changes {s} (PartLies.tail {i} {length} {type} {elem} {trees} {tree} {path} e there lies) fits t along same top outermost leaf r covers =
      let was = fits-tail type elem length trees e fits in
      let long = long-row s type elem length trees e fits in
      Fits.tail e (sym (same-count settled t type length along same (count-tail type elem length e)) ∙ long) was.0 (count-with trees i path leaf)
      (put-each was.1 t i tree path leaf there (λ inner. changes lies inner t (Along.in_tail along e) same top outermost leaf r (tail-covers program top type elem length i path e covers)) (Along.in_tail along e) same)
