-- The text of a value, by what is added for its parts.
use Rattle.std.proofs.Common.{◌≡◌, ℕ, inl, inr, ℤ, IsTrue, true, List, ◌++◌, Option, Some, None, refl, ap, sym, subst, ◌∙◌, append_assoc}
use Rattle.std.specs.Prelude.{slice_get, codes, encode_utf8_all}
use Rattle.std.specs.List.{flat_map}
use Rattle.gt_types.specs.declared.types.TypeId.{TypeId}
use Rattle.gt_types.specs.declared.types.Ty.{Ty}
use Rattle.gt_types.specs.declared.types.Ty.TheVariants as ty
use Rattle.gt_types.specs.declared.program.Field.{Field}
use Rattle.gt_types.specs.declared.program.Structure.{Structure}
use Rattle.gt_types.specs.declared.program.Program.{Program}
use Rattle.gt_types.specs.Shapes.{is_pointer}
use Rattle.gt_types.specs.Contains.{HasStructure, itself}
use Rattle.gt_types.specs.Settled.{Settled}
use Rattle.gt_types.specs.Unions.{IsCommon}
use Rattle.gt_tree.specs.Trees.{Tree, Num, Null, To, Raw, Rec, Alt, Row, Trees}
use Rattle.gt_tree.specs.Blocks.{Block, Blocks}
use Rattle.gt_tree.specs.Fits.{Fits, types_of}
use Rattle.gt_tree.proofs.Commons.{one-common}
use Rattle.gt_show.specs.Shown.{number_text, byte_text, target_text, joined, named, Shows, ShowFields, ShowEach}
use Rattle.gt_show.specs.Parts.{structure_in, element_at, element_in, FitsSomewhere, AllFitSomewhere, EachFitsSomewhere, MemberFits, CommonFits, ShowsStruct, ShowsMember, ShowsCommon, ShowsRow, IsAdded}
use Rattle.gt_show.proofs.FitParts.{named-block, may-point, union-there, number-type, null-type, opaque-type, struct-fits, member-fits, common-fits, row-fits, plain-fits}

some_is : {X : Type 0} (x y : X) → Some x ≡ Some y → x ≡ y
some_is x y e = cc

module _ {program : Program} {blocks : Blocks} where
  row-shows : (type : Ty) (ts : Trees) (elem : Ty) (texts : List (List ℕ)) → FitsSomewhere program blocks type (Row ts) → element_in type ≡ Some elem → ShowEach program blocks elem ts texts
      → Shows program blocks type (Row ts) (codes "[" ++ joined texts ++ codes "]")
  row-shows type ts elem texts (scope, capacity, Fits.array {elem = own} o c each) there shown =
      let is : Some own ≡ Some elem = sym (ap element_at o) ∙ there in
      Shows.array o (subst (λ (x : Ty). ShowEach program blocks x ts texts) (sym (some_is own elem is)) shown)
  row-shows type ts elem texts (scope, capacity, Fits.tail {elem = own} o v le c each) there shown =
      let is : Some own ≡ Some elem = sym (ap element_at o) ∙ there in
      Shows.tail o (subst (λ (x : Ty). ShowEach program blocks x ts texts) (sym (some_is own elem is)) shown)

module _ (program : Program) (blocks : Blocks) where
  -- ---- leaves

  pub number_added : (type : Ty) (tree : Tree) (n : ℤ) (old new : List ℕ) → tree ≡ Num n → FitsSomewhere program blocks type tree → new ≡ old ++ number_text n → IsAdded (Shows program blocks type tree) old new
  number_added type tree n old new e fits is =
      (number_text n, subst (λ t. Shows program blocks type t (number_text n)) (sym e) (Shows.number (number-type type n (subst (FitsSomewhere program blocks type) e fits))), is)

  pub null_added : (type : Ty) (tree : Tree) (old new : List ℕ) → tree ≡ Null → FitsSomewhere program blocks type tree → new ≡ old ++ codes "null" → IsAdded (Shows program blocks type tree) old new
  null_added type tree old new e fits is =
      (codes "null", subst (λ t. Shows program blocks type t (codes "null")) (sym e) (Shows.null (null-type type (subst (FitsSomewhere program blocks type) e fits))), is)

  pub target_there : (type : Ty) (tree : Tree) (id : ℕ) → tree ≡ To id → FitsSomewhere program blocks type tree → IsTrue (is_pointer type) × ((b : Block) × (blocks id ≡ Some b))
  target_there type tree id e fits =
      let may = may-point type id (subst (FitsSomewhere program blocks type) e fits) in
      named-block blocks may.0 type id may.1

  pub target_added : (type : Ty) (tree : Tree) (id : ℕ) (b : Block) (old new : List ℕ) → tree ≡ To id → IsTrue (is_pointer type) → blocks id ≡ Some b → new ≡ old ++ target_text program type b
      → IsAdded (Shows program blocks type tree) old new
  target_added type tree id b old new e pointer there is = (target_text program type b, subst (λ t. Shows program blocks type t (target_text program type b)) (sym e) (Shows.to pointer there), is)

  pub opaque_added : (type : Ty) (tree : Tree) (bytes old before new : List ℕ) → tree ≡ Raw bytes → FitsSomewhere program blocks type tree → before ≡ old ++ codes "raw:" → new ≡ before ++ flat_map byte_text bytes
      → IsAdded (Shows program blocks type tree) old new
  opaque_added type tree bytes old before new e fits first is =
      let found = opaque-type type bytes (subst (FitsSomewhere program blocks type) e fits) in
      let text : List ℕ = codes "raw:" ++ flat_map byte_text bytes in (
        text,
        subst (λ t. Shows program blocks type t text) (sym e) (subst (λ (x : Ty). Shows program blocks x (Raw bytes) text) (sym found.2) Shows.opaque),
        is ∙ ap (λ (t : List ℕ). t ++ flat_map byte_text bytes) first ∙ append_assoc old (codes "raw:") (flat_map byte_text bytes),
      )

  -- ---- structs

  pub struct_there : (type : Ty) (tree : Tree) (ts : Trees) → tree ≡ Rec ts → FitsSomewhere program blocks type tree → (s : Structure) × (structure_in program type ≡ Some s)
  struct_there type tree ts e fits =
      let found = struct-fits type ts (subst (FitsSomewhere program blocks type) e fits) in (found.s, ap (structure_in program) found.is ∙ found.there)

  pub struct_parts : (type : Ty) (tree : Tree) (ts : Trees) (s : Structure) → tree ≡ Rec ts → FitsSomewhere program blocks type tree → structure_in program type ≡ Some s
      → AllFitSomewhere program blocks (types_of s.fields) ts
  struct_parts type tree ts s e fits there =
      let found = struct-fits type ts (subst (FitsSomewhere program blocks type) e fits) in
      let same : found.s ≡ s = some_is found.s s (sym (ap (structure_in program) found.is ∙ found.there) ∙ there) in
      subst (λ (x : Structure). AllFitSomewhere program blocks (types_of x.fields) ts) same found.fit

  pub struct_added : (type : Ty) (tree : Tree) (ts : Trees) (s : Structure) (old new : List ℕ) → tree ≡ Rec ts → FitsSomewhere program blocks type tree → structure_in program type ≡ Some s
      → IsAdded (ShowsStruct program blocks s ts) old new → IsAdded (Shows program blocks type tree) old new
  struct_added type tree ts s old new e fits there (text, (texts, shown, same_text), is) =
      let found = struct-fits type ts (subst (FitsSomewhere program blocks type) e fits) in
      let same : s ≡ found.s = some_is s found.s (sym there ∙ ap (structure_in program) found.is ∙ found.there) in
      let own : List ℕ = codes "{" ++ joined texts ++ codes "}" in (
        own,
        subst (λ t. Shows program blocks type t own) (sym e)
            (subst (λ (x : Ty). Shows program blocks x (Rec ts) own) (sym found.is)
            (Shows.struct found.there found.kind (subst (λ (x : Structure). ShowFields program blocks x.fields ts texts) same shown))),
        is ∙ ap (λ (t : List ℕ). old ++ t) same_text,
      )

  -- ---- unions

  pub union_there : (type : Ty) (tree : Tree) (member : Option ℕ) (inner : Tree) → tree ≡ Alt member inner → FitsSomewhere program blocks type tree → (s : Structure) × (structure_in program type ≡ Some s)
  union_there type tree member inner e fits = union-there type member inner (subst (FitsSomewhere program blocks type) e fits)

  pub member_parts : (type : Ty) (tree : Tree) (place : ℕ) (inner : Tree) (s : Structure) → tree ≡ Alt (Some place) inner → FitsSomewhere program blocks type tree → structure_in program type ≡ Some s
      → MemberFits program blocks s place inner
  member_parts type tree place inner s e fits there =
      let found = member-fits type place inner (subst (FitsSomewhere program blocks type) e fits) in
      let same : found.s ≡ s = some_is found.s s (sym (ap (structure_in program) found.is ∙ found.there) ∙ there) in
      subst (λ (x : Structure). MemberFits program blocks x place inner) same found.fits

  pub member_added : (type : Ty) (tree : Tree) (place : ℕ) (inner : Tree) (s : Structure) (old new : List ℕ) → tree ≡ Alt (Some place) inner → FitsSomewhere program blocks type tree → structure_in program type ≡ Some s
      → IsAdded (ShowsMember program blocks s place inner) old new → IsAdded (Shows program blocks type tree) old new
  member_added type tree place inner s old new e fits there (text, (f, own, got, shown, same_text), is) =
      let found = member-fits type place inner (subst (FitsSomewhere program blocks type) e fits) in
      let same : s ≡ found.s = some_is s found.s (sym there ∙ ap (structure_in program) found.is ∙ found.there) in
      let whole : List ℕ = named f.name (codes ":") own in (
        whole,
        subst (λ t. Shows program blocks type t whole) (sym e)
            (subst (λ (x : Ty). Shows program blocks x (Alt (Some place) inner) whole) (sym found.is)
            (Shows.member found.there found.kind (subst (λ (x : Structure). slice_get x.fields place ≡ Some f) same got) shown)),
        is ∙ ap (λ (t : List ℕ). old ++ t) same_text,
      )

  pub common_node : (type : Ty) (tree inner : Tree) → tree ≡ Alt None inner → FitsSomewhere program blocks type tree → (node : TypeId) × (itself type ≡ Some node)
  common_node type tree inner e fits = let found = common-fits type inner (subst (FitsSomewhere program blocks type) e fits) in (found.node, ap itself found.is)

  pub common_parts : (type : Ty) (tree inner : Tree) (s : Structure) (node : TypeId) → tree ≡ Alt None inner → FitsSomewhere program blocks type tree → structure_in program type ≡ Some s → itself type ≡ Some node
      → HasStructure program node s × ((s.is_union ≡ true) × CommonFits program blocks s inner)
  common_parts type tree inner s node e fits there it =
      let found = common-fits type inner (subst (FitsSomewhere program blocks type) e fits) in
      let same : found.s ≡ s = some_is found.s s (sym (ap (structure_in program) found.is ∙ found.there) ∙ there) in
      let here : found.node ≡ node = some_is found.node node (sym (ap itself found.is) ∙ it) in (
        subst (λ (n : TypeId). HasStructure program n s) here (subst (HasStructure program found.node) same found.there),
        (ap (λ (x : Structure). x.is_union) (sym same) ∙ found.kind, subst (λ (x : Structure). CommonFits program blocks x inner) same found.fits),
      )

  pub common_added : (type : Ty) (tree inner : Tree) (s : Structure) (old new : List ℕ) → tree ≡ Alt None inner → FitsSomewhere program blocks type tree → structure_in program type ≡ Some s
      → IsAdded (ShowsCommon program blocks s inner) old new → IsAdded (Shows program blocks type tree) old new
  common_added type tree inner s old new e fits there (text, shown, is) =
      let found = common-fits type inner (subst (FitsSomewhere program blocks type) e fits) in
      let same : found.s ≡ s = some_is found.s s (sym (ap (structure_in program) found.is ∙ found.there) ∙ there) in (
        text,
        subst (λ t. Shows program blocks type t text) (sym e)
            (subst (λ (x : Ty). Shows program blocks x (Alt None inner) text) (sym found.is)
            (shown found.node found.desc (subst (HasStructure program found.node) same found.there) (ap (λ (x : Structure). x.is_union) (sym same) ∙ found.kind))),
        is,
      )

  -- a union with a common structure has the value of this struct
  pub common_is_struct : (s : Structure) (tree : Tree) (common : TypeId) → Settled program → (node : TypeId) × HasStructure program node s → IsCommon program s common → CommonFits program blocks s tree
      → (ts : Trees) × (tree ≡ Rec ts) × FitsSomewhere program blocks (ty.Node common None) tree
  common_is_struct s tree common settled (node, has) c (inl (other, o, fits)) =
      let same : other ≡ common = one-common program node s other common settled has o c in
      let own : FitsSomewhere program blocks (ty.Node common None) tree = subst (λ (n : TypeId). FitsSomewhere program blocks (ty.Node n None) tree) same fits in
      let found = plain-fits common tree c.plain own in
      (found.0, found.1, own)
  common_is_struct s tree common settled there c (inr (none, e)) = absurd (none common c)

  pub common_shown : (s : Structure) (tree : Tree) (ts : Trees) (common : TypeId) (t : Structure) (old first second new : List ℕ) → tree ≡ Rec ts → IsCommon program s common → HasStructure program common t
      → first ≡ old ++ codes "none" → second ≡ first ++ codes ":" → IsAdded (ShowsStruct program blocks t ts) second new → IsAdded (ShowsCommon program blocks s tree) old new
  common_shown s tree ts common t old first second new e c there said mark (text, (texts, shown, same_text), is) =
      let same : c.plain.0 ≡ t = some_is c.plain.0 t (sym c.plain.1 ∙ there) in
      let kind : t.is_union ≡ _ = ap (λ (x : Structure). x.is_union) (sym same) ∙ c.plain.2 in
      let own : List ℕ = codes "{" ++ joined texts ++ codes "}" in (
        codes "none:" ++ own,
        λ node desc has union. Shows.common has union c (subst (λ x. Shows program blocks (ty.Node common None) x own) (sym e) (Shows.struct there kind shown)),
        is ∙ ap (λ (x : List ℕ). second ++ x) same_text ∙ ap (λ (x : List ℕ). x ++ own) (mark ∙ ap (λ (x : List ℕ). x ++ codes ":") said)
            ∙ ap (λ (x : List ℕ). x ++ own) (append_assoc old (codes "none") (codes ":")) ∙ append_assoc old (codes "none:") own,
      )

  pub nothing_shown : (s : Structure) (tree : Tree) (old new : List ℕ) → ((common : TypeId) → ¬ IsCommon program s common) → CommonFits program blocks s tree → new ≡ old ++ codes "none"
      → IsAdded (ShowsCommon program blocks s tree) old new
  nothing_shown s tree old new none (inl (common, c, fits)) is = absurd (none common c)
  nothing_shown s tree old new none (inr (also, e)) is =
      (codes "none", λ node desc has union. subst (λ x. Shows program blocks (ty.Node node desc) (Alt None x) (codes "none")) (sym e) (Shows.nothing has union none), is)

  pub member_shown : (s : Structure) (place : ℕ) (f : Field) (tree : Tree) (old first second new : List ℕ) → slice_get s.fields place ≡ Some f → first ≡ old ++ encode_utf8_all f.name → second ≡ first ++ codes ":"
      → IsAdded (Shows program blocks f.ty tree) second new → IsAdded (ShowsMember program blocks s place tree) old new
  member_shown s place f tree old first second new got name mark (text, shown, is) = (
    named f.name (codes ":") text,
    (f, text, got, shown, refl),
    is ∙ ap (λ (x : List ℕ). x ++ text) (mark ∙ ap (λ (x : List ℕ). x ++ codes ":") name ∙ append_assoc old (encode_utf8_all f.name) (codes ":"))
        ∙ append_assoc old (encode_utf8_all f.name ++ codes ":") text,
  )

  pub member_fits : (s : Structure) (place : ℕ) (f : Field) (tree : Tree) → slice_get s.fields place ≡ Some f → MemberFits program blocks s place tree → FitsSomewhere program blocks f.ty tree
  member_fits s place f tree got (g, at, fits) = let same : g ≡ f = some_is g f (sym at ∙ got) in subst (λ (x : Field). FitsSomewhere program blocks x.ty tree) same fits

  -- ---- arrays

  pub row_there : (type : Ty) (tree : Tree) (ts : Trees) → tree ≡ Row ts → FitsSomewhere program blocks type tree → (elem : Ty) × (element_in type ≡ Some elem)
  row_there type tree ts e fits = let found = row-fits type ts (subst (FitsSomewhere program blocks type) e fits) in (found.0, found.1)

  pub row_parts : (type : Ty) (tree : Tree) (ts : Trees) (elem : Ty) → tree ≡ Row ts → FitsSomewhere program blocks type tree → element_in type ≡ Some elem → EachFitsSomewhere program blocks elem ts
  row_parts type tree ts elem e fits there =
      let found = row-fits type ts (subst (FitsSomewhere program blocks type) e fits) in
      let same : found.0 ≡ elem = some_is found.0 elem (sym found.1 ∙ there) in
      subst (λ (x : Ty). EachFitsSomewhere program blocks x ts) same found.2

  pub row_added : (type : Ty) (tree : Tree) (ts : Trees) (elem : Ty) (old new : List ℕ) → tree ≡ Row ts → FitsSomewhere program blocks type tree → element_in type ≡ Some elem
      → IsAdded (ShowsRow program blocks elem ts) old new → IsAdded (Shows program blocks type tree) old new
  row_added type tree ts elem old new e fits there (text, (texts, shown, same_text), is) =
      let own : List ℕ = codes "[" ++ joined texts ++ codes "]" in
      let found = row-shows type ts elem texts (subst (FitsSomewhere program blocks type) e fits) there shown in
      (own, subst (λ t. Shows program blocks type t own) (sym e) found, is ∙ ap (λ (t : List ℕ). old ++ t) same_text)
