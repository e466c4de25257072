-- Where a leaf that no expression reads is written and a value fits, the leaf fits its place.
use Rattle.std.proofs.Common.{◌≡◌, ℕ, zero, suc, Bool, true, false, ◌&&◌, IsTrue, List, ◌∷◌, refl, ap, sym, subst, ◌∙◌, arith, Option, Some, None}
use Rattle.std.specs.Prelude.{◌==◌, pos, slice_get}
use Rattle.gt_types.specs.declared.expressions.Expr.{Expr}
use Rattle.gt_types.specs.declared.types.TypeId.{TypeId}
use Rattle.gt_types.specs.declared.types.Target.TheVariants as target
use Rattle.gt_types.specs.declared.types.PtrKind.TheVariants as pointer
use Rattle.gt_types.specs.declared.types.Ty.{Ty}
use Rattle.gt_types.specs.declared.types.Ty.TheVariants as ty
use Rattle.gt_types.specs.declared.program.Field.{Field}
use Rattle.gt_types.specs.declared.program.Structure.{Structure}
use Rattle.gt_types.specs.declared.program.Program.{Program}
use Rattle.gt_types.specs.Contains.{HasStructure}
use Rattle.gt_types.specs.Shapes.{bits_of, is_structure}
use Rattle.gt_types.specs.Settled.{Settled}
use Rattle.gt_layout.specs.declared.planes.Plane.{Plane}
use Rattle.gt_tree.specs.Numbers.{is_signed, has_room}
use Rattle.gt_tree.specs.Trees.{Tree, Rec, Alt, Row, Trees, End, And, count, tree_at, is_leaf, with_part, with_part_of, without_pointers}
use Rattle.gt_tree.specs.Blocks.{Blocks, MayName}
use Rattle.gt_tree.specs.Scopes.{Scope, inside, eval_in}
use Rattle.gt_tree.specs.Fits.{Fits, AllFit, EachFits, IsActive, types_of}
use Rattle.gt_tree.specs.Reshapes.{Reshapes, AllReshape, EachReshapes}
use Rattle.gt_tree.proofs.PathBits.{some-same}
use Rattle.gt_tree.proofs.PathParts.{get-map}
use Rattle.gt_tree.proofs.FixedParts.{is-union, is-plain, is-array, is-tail, is-no_more}
use Rattle.gt_tree.proofs.FixedScopes.{count-tail}
use Rattle.gt_tree.proofs.Fitting.{fits-struct, fits-member, fits-common, fits-array, fits-tail}
use Rattle.gt_tree.proofs.WriteParts.{array-old, tail-old}
use Rattle.gt_tree.proofs.WriteReads.{reads-kept}
use Rattle.gt_value.specs.declared.places.Holder.{Holder}
use Rattle.gt_value.specs.declared.places.LeafContent.{LeafContent}
use Rattle.gt_value.specs.declared.places.LeafContent.TheVariants as content
use Rattle.gt_value.specs.declared.places.LeafKind.{LeafKind}
use Rattle.gt_value.specs.Places.{Part, PartLies, IsContentOf, leaf_kind}
use Rattle.gt_starts.specs.Ways.{way_to}
use Rattle.gt_leaf.specs.Unread.{Enclosing, Around, none_around, structures_from, IsUnread, MayReplace}
use Rattle.gt_leaf.specs.Writing.{LeafFits, has_word}
use Rattle.gt_leaf.proofs.Arounds.{Covers, covers-all, begun, stands-itself, field-covers, array-covers, tail-covers}
use Rattle.gt_leaf.proofs.Swaps.{Swap, swapped, with-member}
use Rattle.gt_leaf.proofs.WaySteps.{whole-way}
use Rattle.gt_leaf.proofs.SwapReads.{reads-swapped}
use Rattle.gt_leaf.proofs.Alongs.{Along, Contains-get}
use Rattle.gt_leaf.proofs.SwapScopes.{AllReadSame, ScopesSame, inside-same, not-outermost, same-count}
use Rattle.gt_leaf.proofs.PlainParts.{plain-with, inactive, count-with}
use Rattle.gt_leaf.proofs.Refits.{long-row, plain-leaf, active-same}
use Rattle.gt_leaf.proofs.LeafTrees.{content-leaf}

-- ---- parts of values that fit

-- what a part becomes, and that it fits
pub record Becomes (program : Program) (blocks : Blocks) (capacity : ℕ) (s : Scope) (type : Ty) (old : Tree) : Type 0 where
  pub new : Tree
  pub reshapes : Reshapes program type old new
  pub fits : Fits program blocks capacity s type new

module _ {program : Program} {blocks : Blocks} {capacity : ℕ} {s : Scope} where
  pub fit-at : {types : List Ty} {trees : Trees} → AllFit program blocks capacity s types trees → (i : ℕ) (type : Ty) (tree : Tree) → slice_get types i ≡ Some type → tree_at trees i ≡ Some tree → Fits program blocks capacity s type tree
  fit-at AllFit.none i type tree e there = absurd (cc)
  fit-at (AllFit.more {type = first} {tree = old} fits all) zero type tree e there =
      let is_type : first ≡ type = cc in
      let is_tree : old ≡ tree = cc in
      subst (λ y. Fits program blocks capacity s type y) is_tree (subst (λ y. Fits program blocks capacity s y old) is_type fits)
  fit-at (AllFit.more fits all) (suc i) type tree e there = fit-at all i type tree e there

  each-fit-at : {type : Ty} {trees : Trees} → EachFits program blocks capacity s type trees → (i : ℕ) (tree : Tree) → tree_at trees i ≡ Some tree → Fits program blocks capacity s type tree
  each-fit-at EachFits.no_more i tree there = absurd (cc)
  each-fit-at {type} (EachFits.one_more {tree = old} fits each) zero tree there = let is_tree : old ≡ tree = cc in subst (λ y. Fits program blocks capacity s type y) is_tree fits
  each-fit-at (EachFits.one_more fits each) (suc i) tree there = each-fit-at each i tree there

  pub all-at : {types : List Ty} {olds news : Trees} → AllReshape program types olds news → AllFit program blocks capacity s types news → (i : ℕ) (type : Ty) (old : Tree) → slice_get types i ≡ Some type → tree_at olds i ≡ Some old → Becomes program blocks capacity s type old
  all-at AllReshape.none all i type old e there = absurd (cc)
  all-at (AllReshape.more {type = first} {old = was} {new} r rs) (AllFit.more fits all) zero type old e there =
      let is_type : first ≡ type = cc in
      let is_old : was ≡ old = cc in
      record {
        new = new;
        reshapes = subst (λ y. Reshapes program type y new) is_old (subst (λ y. Reshapes program y was new) is_type r);
        fits = subst (λ y. Fits program blocks capacity s y new) is_type fits;
      }
  all-at (AllReshape.more r rs) (AllFit.more fits all) (suc i) type old e there = all-at rs all i type old e there

  each-at : {type : Ty} {olds news : Trees} → EachReshapes program type olds news → EachFits program blocks capacity s type news → count olds ≡ count news → (i : ℕ) (old : Tree) → tree_at olds i ≡ Some old → Becomes program blocks capacity s type old
  each-at {olds} EachReshapes.lost each many i old there = let none : tree_at olds i ≡ None = ap (λ y. tree_at y i) (is-no_more olds many) in absurd (cc)
  each-at (EachReshapes.gained z) each many i old there = absurd (cc)
  each-at {type} (EachReshapes.one_more {old = was} {new} r rs) (EachFits.one_more fits each) many zero old there =
      let is_old : was ≡ old = cc in
      record { new = new; reshapes = subst (λ y. Reshapes program type y new) is_old r; fits = fits }
  each-at (EachReshapes.one_more {olds} {news} r rs) (EachFits.one_more fits each) many (suc i) old there = let rest : count olds ≡ count news = omega arith in each-at rs each rest i old there

pub put-there : (trees : Trees) (i : ℕ) (tree : Tree) (path : List ℕ) (leaf : Tree) → tree_at trees i ≡ Some tree → tree_at (with_part_of trees i path leaf) i ≡ Some (with_part tree path leaf)
put-there End i tree path leaf e = absurd (cc)
put-there (And x xs) zero tree path leaf e = let is : x ≡ tree = cc in ap (λ y. Some (with_part y path leaf)) is
put-there (And x xs) (suc i) tree path leaf e = put-there xs i tree path leaf e

-- ---- what a value becomes

module _ {program : Program} where
  leaf-kept : {type : Ty} {o n : Tree} → IsTrue (is_leaf o) → Reshapes program type o n → o ≡ n
  leaf-kept h (Reshapes.leaf e) = refl
  leaf-kept h (Reshapes.struct has u all) = absurd (cc)
  leaf-kept h (Reshapes.same has u g r) = absurd (cc)
  leaf-kept h Reshapes.same_none = absurd (cc)
  leaf-kept h (Reshapes.other has u ne changes) = absurd (cc)
  leaf-kept h (Reshapes.array e each) = absurd (cc)
  leaf-kept h (Reshapes.tail e each) = absurd (cc)

  struct-new : (node : TypeId) (desc : Option Expr) (x : Structure) (os : Trees) (n : Tree) → HasStructure program node x → Reshapes program (ty.Node node desc) (Rec os) n
      → (ns : Trees) × (n ≡ Rec ns) × AllReshape program (types_of x.fields) os ns
  struct-new node desc x os n has (Reshapes.leaf e) = absurd (cc)
  struct-new node desc x os n has (Reshapes.struct {s = other} {new} h u all) =
      let same : other ≡ x = some-same (slice_get program.structures node.0) other x h has in
      (new, refl, subst (λ y. AllReshape program (types_of y.fields) os new) same all)

  member-new : (node : TypeId) (desc : Option Expr) (x : Structure) (i j : ℕ) (f : Field) (o n : Tree) → HasStructure program node x → slice_get x.fields i ≡ Some f → i ≡ j
      → Reshapes program (ty.Node node desc) (Alt (Some i) o) (Alt (Some j) n) → Reshapes program f.ty o n
  member-new node desc x i j f o n has get e (Reshapes.leaf h) = absurd (cc)
  member-new node desc x i j f o n has get e (Reshapes.same {s = other} {f = g} h u got r) =
      let same : other ≡ x = some-same (slice_get program.structures node.0) other x h has in
      let there : slice_get x.fields i ≡ Some g = subst (λ y. slice_get y.fields i ≡ Some g) same got in
      let equal : g ≡ f = cc in
      subst (λ y. Reshapes program y.ty o n) equal r
  member-new node desc x i j f o n has get e (Reshapes.other h u ne changes) = absurd (ne (ap Some e))

  none-new : (node : TypeId) (desc : Option Expr) (o n : Tree) → Reshapes program (ty.Node node desc) (Alt None o) (Alt None n) → without_pointers o ≡ n
  none-new node desc o n (Reshapes.leaf e) = absurd (cc)
  none-new node desc o n Reshapes.same_none = refl
  none-new node desc o n (Reshapes.other h u ne changes) = absurd (ne refl)

  -- a value that fits becomes itself
  mutual
    self : {blocks : Blocks} {capacity : ℕ} {scope : Scope} {type : Ty} {tree : Tree} → Fits program blocks capacity scope type tree → Reshapes program type tree tree
    self (Fits.number room) = Reshapes.leaf refl
    self (Fits.bits room) = Reshapes.leaf refl
    self (Fits.opaque long small) = Reshapes.leaf refl
    self (Fits.null p) = Reshapes.leaf refl
    self (Fits.to m) = Reshapes.leaf refl
    self (Fits.struct has struct all) = Reshapes.struct has struct (selves all)
    self (Fits.member has union active got fits) = Reshapes.same has union got (self fits)
    self (Fits.common {node} {desc} {tree} has union active is plain fits) = subst (λ t. Reshapes program (ty.Node node desc) (Alt None tree) (Alt None t)) plain Reshapes.same_none
    self (Fits.nothing has union active none) = Reshapes.same_none
    self (Fits.array e many each) = Reshapes.array e (each_self each)
    self (Fits.tail e value le many each) = Reshapes.tail e (each_self each)

    selves : {blocks : Blocks} {capacity : ℕ} {scope : Scope} {types : List Ty} {trees : Trees} → AllFit program blocks capacity scope types trees → AllReshape program types trees trees
    selves AllFit.none = AllReshape.none
    selves (AllFit.more fits all) = AllReshape.more (self fits) (selves all)

    each_self : {blocks : Blocks} {capacity : ℕ} {scope : Scope} {type : Ty} {trees : Trees} → EachFits program blocks capacity scope type trees → EachReshapes program type trees trees
    each_self EachFits.no_more = EachReshapes.lost
    each_self (EachFits.one_more fits each) = EachReshapes.one_more (self fits) (each_self each)

-- ---- the leaf in what the value becomes

-- a leaf inside these structures is written that no expression reads
pub record StandsAlone (program : Program) (around : Around) (p : Part) (leaf : Tree) : Type 0 where
  pub unread : IsUnread program around p.active p.holder
  pub may : MayReplace p leaf
  pub plain : is_structure p.type ≡ false

-- the leaf fits, in a scope in which expressions read the same
pub record FitsThere (program : Program) (a : Trees) (blocks : Blocks) (capacity : ℕ) (p : Part) (leaf : Tree) : Type 0 where
  pub scope : Scope
  pub along : Along program a p.scope p.type
  pub same : ScopesSame program p.scope scope
  pub fits : Fits program blocks capacity scope p.type leaf

module _ {program : Program} (settled : Settled program) where
  reads-new : {h : Holder} {path : List ℕ} (top : Option Enclosing) (node : TypeId) (desc : Option Expr) (v w n : Tree) → Swap program (none_around top) h (ty.Node node desc) path v w → Reshapes program (ty.Node node desc) w n → AllReadSame program top node v n
  reads-new {h} {path} top node desc v w n swap r =
      λ base begins steps leads read.
      reads-swapped settled leads.1 leads.2 base node steps read (none_around top) path (way_to program (Some node) path) (stands-itself top (node, way_to program (Some node) path) base begins) (whole-way steps (way_to program (Some node) path)) h desc v w swap ∙ reads-kept settled leads.1 leads.2 desc w n r

  pub alone-swap : {planes : List Plane} {around : Around} {s : Scope} {h : Holder} {active : Bool} {bit : ℕ} {type : Ty} {tree : Tree} {path : List ℕ} {p : Part} → PartLies program planes s h active bit type tree path p → (top : Option Enclosing) (leaf : Tree) → StandsAlone program around p leaf
      → Covers around p.active (structures_from program (none_around top) (Some type) path) → Swap program (none_around top) h type path tree (with_part tree path leaf)
  alone-swap lies top leaf alone covers = swapped lies (none_around top) leaf alone.unread covers alone.may.0 alone.may.1 alone.plain

  -- the union has the member that it had
  member-kept : {a : Trees} {blocks : Blocks} {capacity : ℕ} {s : Scope} (t : Scope) (top : Option Enclosing) (node : TypeId) (desc : Option Expr) (x : Structure) (member : Option ℕ) (o n : Tree) → HasStructure program node x → x.is_union ≡ true
      → Along program a s (ty.Node node desc) → (s.outermost ≡ None → top ≡ None) → ScopesSame program s t → AllReadSame program top node (Alt member o) n → Fits program blocks capacity s (ty.Node node desc) (Alt member o) → Fits program blocks capacity t (ty.Node node desc) n
      → (part : Tree) × (n ≡ Alt member part)
  member-kept {s} t top node desc x member o n has union along outermost same read fits new_fits =
      let found = is-union node desc x (Alt member o) has union fits in
      let was_member : found.0 ≡ member = cc in
      let was = subst (λ m. IsActive program s node desc x (Alt member o) m) was_member found.3 in
      let now = active-same settled t top node desc x (Alt member o) n member along outermost same read has union was in
      let new = is-union node desc x n has union new_fits in
      let is : new.0 ≡ member = sym new.3 ∙ now in
      (new.1, new.2 ∙ ap (λ m. Alt m new.1) is)

  module _ {a : Trees} where
    pub fits-there : {planes : List Plane} {blocks : Blocks} {capacity : ℕ} {around : Around} {s : Scope} {h : Holder} {active : Bool} {bit : ℕ} {type : Ty} {tree : Tree} {path : List ℕ} {p : Part} → PartLies program planes s h active bit type tree path p → Fits program blocks capacity s type tree
        → (t : Scope) → Along program a s type → ScopesSame program s t → (top : Option Enclosing) → (s.outermost ≡ None → top ≡ None) → (leaf : Tree) → StandsAlone program around p leaf
        → Covers around p.active (structures_from program (none_around top) (Some type) path) → (new : Tree) → Fits program blocks capacity t type new → Reshapes program type (with_part tree path leaf) new → FitsThere program a blocks capacity p leaf
    fits-there {blocks} {capacity} {type} PartLies.whole fits t along same top outermost leaf alone covers new new_fits r =
        record { scope = t; along = along; same = same; fits = subst (λ y. Fits program blocks capacity t type y) (sym (leaf-kept alone.may.1 r)) new_fits }
    fits-there {blocks} {capacity} {s} {h} (PartLies.field {i} {node} {desc} {s = x} {f} {trees} {tree} {path} has struct laid get spot there lies) fits t along same top outermost leaf alone covers new new_fits r =
        let w = with_part_of trees i path leaf in
        let found = struct-new node desc x w new has r in
        let ns = found.0 in
        let becomes : Reshapes program (ty.Node node desc) (Rec w) (Rec ns) = subst (λ y. Reshapes program (ty.Node node desc) (Rec w) y) found.1 r in
        let read = reads-new {h = h} top node desc (Rec trees) (Rec w) (Rec ns) (alone-swap (PartLies.field {scope = s} has struct laid get spot there lies) top leaf alone covers) becomes in
        let type_is = get-map (λ (g : Field). g.ty) x.fields i f get in
        let inner = fit-at (fits-struct node desc x trees has fits) i f.ty tree type_is there in
        let all = fits-struct node desc x ns has (subst (λ y. Fits program blocks capacity t (ty.Node node desc) y) found.1 new_fits) in
        let one = all-at found.2 all i f.ty (with_part tree path leaf) type_is (put-there trees i tree path leaf there) in
        fits-there lies inner (inside t node (Rec ns)) (Along.in_field along has (Contains-get x.fields i f get)) (inside-same top node (Rec trees) (Rec ns) same outermost read) (begun program top node (i ∷ path)) (not-outermost s node (Rec trees) (begun program top node (i ∷ path))) leaf alone (field-covers program top node desc x f i path has get covers) one.new one.fits one.reshapes
    fits-there {blocks} {capacity} {s} {h} (PartLies.member {i} {node} {desc} {s = x} {f} {tree} {path} has union get lies) fits t along same top outermost leaf alone covers new new_fits r =
        let v = Alt (Some i) tree in
        let w = with_part tree path leaf in
        let swap = subst (λ y. Swap program (none_around top) h (ty.Node node desc) (i ∷ path) v y) (sym (with-member i tree path leaf)) (alone-swap (PartLies.member {scope = s} has union get lies) top leaf alone covers) in
        let becomes = subst (λ y. Reshapes program (ty.Node node desc) y new) (sym (with-member i tree path leaf)) r in
        let read = reads-new {h = h} top node desc v (Alt (Some i) w) new swap becomes in
        let kept = member-kept t top node desc x (Some i) tree new has union along outermost same read fits new_fits in
        let n = kept.0 in
        let fits_n = subst (λ y. Fits program blocks capacity t (ty.Node node desc) y) kept.1 new_fits in
        let inner_becomes = member-new node desc x i i f w n has get refl (subst (λ y. Reshapes program (ty.Node node desc) (Alt (Some i) w) y) kept.1 becomes) in
        fits-there lies (fits-member node desc x i f tree has get fits) (inside t node (Alt (Some i) n)) (Along.in_field along has (Contains-get x.fields i f get))
        (inside-same top node v (Alt (Some i) n) same outermost (subst (λ y. AllReadSame program top node v y) kept.1 read)) (begun program top node (i ∷ path)) (not-outermost s node v (begun program top node (i ∷ path))) leaf alone (field-covers program top node desc x f i path has get covers) n (fits-member node desc x i f n has get fits_n) inner_becomes
    fits-there {blocks} {capacity} {s} {h} {active = was_active} {p} (PartLies.common {i} {node} {common} {desc} {s = x} {tree} {path} has common_is lies) fits t along same top outermost leaf alone covers new new_fits r =
        let v = Alt None tree in
        let w = with_part tree path leaf in
        let read = reads-new {h = h} top node desc v (Alt None w) new (alone-swap {active = was_active} (PartLies.common {scope = s} {i = i} has common_is lies) top leaf alone covers) r in
        let kept = member-kept t top node desc x None tree new has common_is.union along outermost same read fits new_fits in
        let n = kept.0 in
        let fits_n = subst (λ y. Fits program blocks capacity t (ty.Node node desc) y) kept.1 new_fits in
        let inner = fits-common node common desc x n settled has common_is fits_n in
        let plain = plain-with tree path leaf (is-plain node desc tree fits) (plain-leaf p leaf alone.may (inactive lies refl)) in
        let is : w ≡ n = sym plain ∙ none-new node desc w n (subst (λ y. Reshapes program (ty.Node node desc) (Alt None w) y) kept.1 r) in
        fits-there lies (fits-common node common desc x tree settled has common_is fits) (inside t node (Alt None n)) (Along.in_common along has common_is)
        (inside-same top node v (Alt None n) same outermost (subst (λ y. AllReadSame program top node v y) kept.1 read)) top (not-outermost s node v top) leaf alone (covers-all _ _ _ (inactive lies refl)) n inner (subst (λ y. Reshapes program (ty.Node common None) y n) (sym is) (self inner))
    fits-there (PartLies.array {i} {n} {type} {elem} {trees} {tree} {path} e there lies) fits t along same top outermost leaf alone covers new new_fits r =
        let w = with_part_of trees i path leaf in
        let was = fits-array type elem n trees e fits in
        let now = is-array type elem n new e new_fits in
        let old = array-old type elem n e (Row w) now.0 (subst (λ y. Reshapes program type (Row w) y) now.1 r) in
        let rows : w ≡ old.0 = let row = old.1 in cc in
        let one = each-at (subst (λ y. EachReshapes program elem y now.0) (sym rows) old.2) now.3 (count-with trees i path leaf ∙ was.0 ∙ sym now.2) i (with_part tree path leaf) (put-there trees i tree path leaf there) in
        fits-there lies (each-fit-at was.1 i tree there) t (Along.in_array along e) same top outermost leaf alone (array-covers program top type elem n i path e covers) one.new one.fits one.reshapes
    fits-there {s} (PartLies.tail {i} {length} {type} {elem} {trees} {tree} {path} e there lies) fits t along same top outermost leaf alone covers new new_fits r =
        let w = with_part_of trees i path leaf in
        let was = fits-tail type elem length trees e fits in
        let now = is-tail type elem length new e new_fits in
        let old = tail-old type elem length e (Row w) now.0 (subst (λ y. Reshapes program type (Row w) y) now.1 r) in
        let rows : w ≡ old.0 = let row = old.1 in cc in
        let long : Some (pos (count trees)) ≡ Some (pos (count now.0)) = sym (long-row s type elem length trees e fits) ∙ same-count settled t type length along same (count-tail type elem length e) ∙ now.2 in
        let many : count trees ≡ count now.0 = cc in
        let one = each-at (subst (λ y. EachReshapes program elem y now.0) (sym rows) old.2) now.3 (count-with trees i path leaf ∙ many) i (with_part tree path leaf) (put-there trees i tree path leaf there) in
        fits-there lies (each-fit-at was.1 i tree there) t (Along.in_tail along e) same top outermost leaf alone (tail-covers program top type elem length i path e covers) one.new one.fits one.reshapes

-- ---- the leaf fits its place

wide-fits : (size : ℕ) (room : Bool) → size ≡ 8 → IsTrue room → IsTrue ((size == 8) && room)
wide-fits size room e h = subst (λ n. IsTrue ((n == 8) && room)) (sym e) h

module _ {program : Program} (settled : Settled program) {a : Trees} where
  may-back : (blocks : Blocks) {s : Scope} (t : Scope) (type : Ty) (id : ℕ) → Along program a s type → ScopesSame program s t → MayName blocks (eval_in program t) type id → MayName blocks (eval_in program s) type id
  may-back blocks t (ty.Str None) id p same m = m
  may-back blocks t (ty.Str (Some len)) id p same (n, v, h) = (n, same-count settled t (ty.Str (Some len)) len p same refl ∙ v, h)
  may-back blocks t (ty.Ptr (Some (target.Node node)) pointer.Plain reorder) id p same m = m
  may-back blocks t (ty.Ptr (Some (target.Node node)) (pointer.Length len) reorder) id p same (n, v, h) =
      (n, same-count settled t (ty.Ptr (Some (target.Node node)) (pointer.Length len) reorder) len p same refl ∙ v, h)
  may-back blocks t (ty.Ptr (Some (target.Pointers node)) (pointer.Length len) reorder) id p same (n, v, h) =
      (n, same-count settled t (ty.Ptr (Some (target.Pointers node)) (pointer.Length len) reorder) len p same refl ∙ v, h)
  may-back blocks t (ty.Ptr (Some target.Strings) (pointer.Length len) reorder) id p same (n, v, h) =
      (n, same-count settled t (ty.Ptr (Some target.Strings) (pointer.Length len) reorder) len p same refl ∙ v, h)
  may-back blocks t (ty.Ptr None pointer.Atomic reorder) id p same m = m
  may-back blocks t type id p same m = absurd m

  pub content-fits : {blocks : Blocks} {capacity : ℕ} {s t : Scope} {type : Ty} {tree : Tree} → Fits program blocks capacity t type tree → (leaf : LeafContent) → IsContentOf leaf tree → Along program a s type → ScopesSame program s t
      → IsTrue (has_word type leaf) → LeafFits blocks (eval_in program s) type leaf
  content-fits (Fits.number {scalar} room) (content.Num n) means p same word = subst (λ m. IsTrue (has_room (is_signed scalar) (bits_of scalar) m)) (sym means) room
  content-fits (Fits.number room) content.Null means p same word = absurd means
  content-fits (Fits.number room) (content.To address) means p same word = absurd means
  content-fits (Fits.bits {unit} {width} room) (content.Num n) means p same word = subst (λ m. IsTrue (has_room (is_signed unit) width m)) (sym means) room
  content-fits (Fits.bits room) content.Null means p same word = absurd means
  content-fits (Fits.bits room) (content.To address) means p same word = absurd means
  content-fits (Fits.opaque {size} long small) (content.Num n) means p same word = wide-fits size (has_room true 64 n) (sym long ∙ means.0) word
  content-fits (Fits.opaque long small) content.Null means p same word = absurd means
  content-fits (Fits.opaque long small) (content.To address) means p same word = absurd means
  content-fits (Fits.null q) (content.Num n) means p same word = absurd means
  content-fits (Fits.null q) content.Null means p same word = q
  content-fits (Fits.null q) (content.To address) means p same word = absurd means
  content-fits (Fits.to m) (content.Num n) means p same word = absurd means
  content-fits (Fits.to m) content.Null means p same word = absurd means
  content-fits {blocks} {s} {t} (Fits.to {type} {id} m) (content.To address) means p same word = subst (MayName blocks (eval_in program s) type) (sym means) (may-back blocks t type id p same m)
  content-fits (Fits.struct {trees} has struct all) leaf means p same word = let h = content-leaf leaf (Rec trees) means in absurd (cc)
  content-fits (Fits.member {place} {tree} has union active got fits) leaf means p same word = let h = content-leaf leaf (Alt (Some place) tree) means in absurd (cc)
  content-fits (Fits.common {tree} has union active is plain fits) leaf means p same word = let h = content-leaf leaf (Alt None tree) means in absurd (cc)
  content-fits (Fits.nothing has union active none) leaf means p same word = let h = content-leaf leaf (Alt None (Rec End)) means in absurd (cc)
  content-fits (Fits.array {trees} e many each) leaf means p same word = let h = content-leaf leaf (Row trees) means in absurd (cc)
  content-fits (Fits.tail {trees} e value le many each) leaf means p same word = let h = content-leaf leaf (Row trees) means in absurd (cc)

-- a leaf is of no structure's type
pub kind-plain : (type : Ty) (kind : LeafKind) → leaf_kind type ≡ Some kind → is_structure type ≡ false
kind-plain (ty.Node node desc) kind e = absurd (cc)
kind-plain type kind e = refl
