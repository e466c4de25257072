-- What the tables of unions find.
use Rattle.std.proofs.Common.{◌≡◌, ◌∙◌, ℕ, zero, suc, ℤ, ◌+◌, Bool, true, false, cond, List, [], ◌∷◌, Option, Some, None, refl, sym, ap, subst}
use Rattle.std.specs.Prelude.{if◌then◌else◌, is_some, slice_get, option_map, MatchOption}
use Rattle.std.specs.Ordering.{int_cmp, int_eq, is_eq, match_ordering}
use Rattle.std.specs.Cmp.{eq_by_cmp_equiv, int_cmp_total}
use Rattle.std.specs.FinMap.{int_cmp-IsAntisymmetric}
use Rattle.std.specs.declared.cmp.Ordering.{Ordering}
use Rattle.std.specs.declared.cmp.Ordering.TheVariants.{Less, Equal, Greater}
use Rattle.std.specs.BTreeMap.{insert_entry, is_at}
use Rattle.std.specs.Map.{lookup}
use Rattle.std.specs.List.{position_from}
use Rattle.std.proofs.lemmas.Option.{slice_get-map}
use Rattle.gt_types.specs.declared.types.TypeId.{TypeId}
use Rattle.gt_types.specs.declared.program.Active.{Active}
use Rattle.gt_types.specs.declared.program.Active.TheVariants.{Always, Tag, Other, Never}
use Rattle.gt_types.specs.declared.program.Field.{Field}
use Rattle.gt_types.specs.declared.program.Structure.{Structure}
use Rattle.gt_types.specs.declared.program.Program.{Program}
use Rattle.gt_types.specs.Contains.{HasStructure}
use Rattle.gt_types.specs.Settled.{Settled}
use Rattle.gt_types.specs.Unions.{IsCommon}
use Rattle.gt_unions.specs.declared.tables.UnionTable.{UnionTable}
use Rattle.gt_unions.specs.declared.tables.Unions.{Unions}
use Rattle.gt_unions.specs.Members.{is_tag, is_default, is_node, first_place, active_member, place_of}
use Rattle.gt_unions.specs.Commons.{common_of}
use Rattle.gt_unions.specs.Tables.{Tags, IsCommonPlace, place_at, place_by, with_tag, tags_from, table_common, table_of, union_tables}
use Rattle.gt_unions.proofs.CommonFound.{common-found, found-is-common, contains-at, same-number}

-- ---- tags

is-equal : (r : Ordering) → is_eq r ≡ true → r ≡ Equal
is-equal Less e = cc
is-equal Equal e = refl
is-equal Greater e = cc

same-tag : (a b : ℤ) → int_eq a b ≡ true → a ≡ b
same-tag a b e = int_cmp-IsAntisymmetric a b (is-equal (int_cmp a b) e)

itself : (a : ℤ) → int_eq a a ≡ true
itself a = (eq_by_cmp_equiv int_cmp_total).refl a

not-greater : (a b : ℤ) → a ≡ b → int_cmp a b ≡ Greater → ⊥
not-greater a b e greater =
    let same : is_eq (int_cmp a b) ≡ true = subst (λ (x : ℤ). int_eq a x ≡ true) e (itself a) in
    let never : is_eq (int_cmp a b) ≡ false = ap is_eq greater in
    cc

twice : (b : Bool) (x y z : Option ℕ) → cond b x z ≡ cond b x (cond b y z)
twice true x y z = refl
twice false x y z = refl

exchange : (a b : Bool) (x y z : Option ℕ) → (a ≡ true → b ≡ true → ⊥) → cond a x (cond b y z) ≡ cond b y (cond a x z)
exchange true true x y z apart = absurd (apart refl refl)
exchange true false x y z apart = refl
exchange false b x y z apart = refl

put-by : (value tag : ℤ) (place : ℕ) (e : ℤ × ℕ) (es : Tags) (r : Ordering) → int_cmp tag e.0 ≡ r
    → place_at (insert_entry int_cmp es tag place) value ≡ cond (int_eq value tag) (Some place) (place_at es value)
    → lookup (is_at (int_cmp value)) (match_ordering r ((tag, place) ∷ e ∷ es) ((e.0, place) ∷ es) (e ∷ insert_entry int_cmp es tag place))
    ≡ cond (int_eq value tag) (Some place) (place_at (e ∷ es) value)
put-by value tag place e es Less is later = refl
put-by value tag place e es Equal is later =
    let same : tag ≡ e.0 = int_cmp-IsAntisymmetric tag e.0 is in
    twice (int_eq value e.0) (Some place) (Some e.1) (place_at es value)
    ∙ ap (λ (t : ℤ). cond (int_eq value t) (Some place) (place_at (e ∷ es) value)) (sym same)
put-by value tag place e es Greater is later =
    ap (cond (int_eq value e.0) (Some e.1)) later
    ∙ exchange (int_eq value e.0) (int_eq value tag) (Some e.1) (Some place) (place_at es value)
    (λ a b. not-greater tag e.0 (sym (same-tag value tag b) ∙ same-tag value e.0 a) is)

-- the place at a tag after one more is put in
place-put : (tags : Tags) (tag value : ℤ) (place : ℕ) → place_at (insert_entry int_cmp tags tag place) value ≡ cond (int_eq value tag) (Some place) (place_at tags value)
place-put [] tag value place = refl
place-put (e ∷ es) tag value place = put-by value tag place e es (int_cmp tag e.0) refl (place-put es tag value place)

first-none : (o : Option ℕ) → first_place o None ≡ o
first-none (Some x) = refl
first-none None = refl

-- a tag that is there, or is put in
with-known : (o : Option ℕ) (b : Bool) (place : ℕ) → (b ≡ true → o ≡ None → ⊥) → o ≡ first_place o (cond b (Some place) None)
with-known (Some x) b place known = refl
with-known None true place known = absurd (known refl refl)
with-known None false place known = refl

with-new : (o : Option ℕ) (b : Bool) (place : ℕ) → (b ≡ true → o ≡ None) → cond b (Some place) o ≡ first_place o (cond b (Some place) None)
with-new None b place new = refl
with-new (Some x) false place new = refl
with-new (Some x) true place new = let none = new refl in cc

with-put : (tags : Tags) (place : ℕ) (tag value : ℤ) (b : Bool) → is_some (place_at tags tag) ≡ b
    → place_at (cond b tags (insert_entry int_cmp tags tag place)) value ≡ first_place (place_at tags value) (cond (int_eq value tag) (Some place) None)
with-put tags place tag value true is = with-known (place_at tags value) (int_eq value tag) place (λ same none.
    let there : is_some (place_at tags value) ≡ true = ap (λ (t : ℤ). is_some (place_at tags t)) (same-tag value tag same) ∙ is in
    let never : is_some (place_at tags value) ≡ false = ap is_some none in
    cc)
with-put tags place tag value false is = place-put tags tag value place ∙ with-new (place_at tags value) (int_eq value tag) place (λ same.
    no-place (place_at tags value) (ap (λ (t : ℤ). is_some (place_at tags t)) (same-tag value tag same) ∙ is))
  where
    no-place : (o : Option ℕ) → is_some o ≡ false → o ≡ None
    no-place None e = refl
    no-place (Some x) e = cc

-- the place at a tag after a member
place-with : (tags : Tags) (place : ℕ) (active : Active) (value : ℤ) → place_at (with_tag tags place active) value ≡ first_place (place_at tags value) (cond (is_tag (Some value) active) (Some place) None)
place-with tags place (Tag tag) value = with-put tags place tag value (is_some (place_at tags tag)) refl
place-with tags place Always value = sym (first-none (place_at tags value))
place-with tags place Other value = sym (first-none (place_at tags value))
place-with tags place Never value = sym (first-none (place_at tags value))

first-cond : (o : Option ℕ) (b : Bool) (place : ℕ) (rest : Option ℕ) → first_place (first_place o (cond b (Some place) None)) rest ≡ first_place o (cond b (Some place) rest)
first-cond (Some x) b place rest = refl
first-cond None true place rest = refl
first-cond None false place rest = refl

-- the place at a tag after more members: that from before, else that of the first of them that has it
tags-found : (tags : Tags) (place : ℕ) (fields : List Field) (value : ℤ)
    → place_at (tags_from tags place fields) value ≡ first_place (place_at tags value) (position_from (λ f. is_tag (Some value) f.active) place fields)
unfolding tags_from
tags-found tags place [] value = sym (first-none (place_at tags value))
tags-found tags place (f ∷ fs) value =
    tags-found (with_tag tags place f.active) (place + 1) fs value
    ∙ ap (λ o. first_place o (position_from (λ f. is_tag (Some value) f.active) (place + 1) fs)) (place-with tags place f.active value)
    ∙ first-cond (place_at tags value) (is_tag (Some value) f.active) place (position_from (λ f. is_tag (Some value) f.active) (place + 1) fs)

no-tag : (active : Active) → is_tag None active ≡ false
no-tag Always = refl
no-tag (Tag tag) = refl
no-tag Other = refl
no-tag Never = refl

none-tagged : (place : ℕ) (fields : List Field) → position_from (λ f. is_tag None f.active) place fields ≡ None
none-tagged place [] = refl
none-tagged place (f ∷ fs) = ap (λ b. cond b (Some place) (position_from (λ f. is_tag None f.active) (place + 1) fs)) (no-tag f.active) ∙ none-tagged (place + 1) fs

-- the table of a structure finds the active member
member-found : (program : Program) (s : Structure) (value : Option ℤ) → first_place (place_by (table_of program s).tags value) (table_of program s).other ≡ active_member value s.fields
member-found program s (Some value) = ap (λ o. first_place o (position_from (λ f. is_default f.active) 0 s.fields)) (tags-found [] 0 s.fields value)
member-found program s None = ap (λ o. first_place o (position_from (λ f. is_default f.active) 0 s.fields)) (sym (none-tagged 0 s.fields))

-- ---- the tables of a program

some-table : (a b : UnionTable) → Some a ≡ Some b → a ≡ b
some-table a b e = cc

-- the table of the structure of a number
pub table-there : (program : Program) (unions : Unions) (node : TypeId) (s : Structure) (o : Option UnionTable) → unions ≡ union_tables program → HasStructure program node s
    → o ≡ slice_get unions.structures node.0 → o ≡ Some (table_of program s)
table-there program unions node s o same has is =
    is ∙ ap (λ (u : Unions). slice_get u.structures node.0) same ∙ slice_get-map (table_of program) program.structures node.0 ∙ ap (option_map (table_of program)) has

pub active-found : (program : Program) (s : Structure) (table : UnionTable) (value : Option ℤ) → Some table ≡ Some (table_of program s)
    → first_place (place_by table.tags value) table.other ≡ active_member value s.fields
active-found program s table value is =
    ap (λ (t : UnionTable). first_place (place_by t.tags value) t.other) (some-table table (table_of program s) is) ∙ member-found program s value

pub common-same : (program : Program) (s : Structure) (table : UnionTable) → Some table ≡ Some (table_of program s) → s.is_union ≡ true → table.common ≡ common_of program s
common-same program s table is union = ap (λ (t : UnionTable). t.common) (some-table table (table_of program s) is) ∙ ap (λ b. if b then common_of program s else None) union

pub common-there : (program : Program) (node : TypeId) (s : Structure) (table : UnionTable) → Some table ≡ Some (table_of program s) → Settled program → HasStructure program node s → s.is_union ≡ true
    → MatchOption table.common ((common : TypeId) → ¬ IsCommon program s common) (IsCommon program s)
common-there program node s table is settled has union =
    subst (λ (o : Option TypeId). MatchOption o ((common : TypeId) → ¬ IsCommon program s common) (IsCommon program s))
    (sym (common-same program s table is union))
    (common-found program settled node s has union)

none-passes : {X : Type 0} (p : X → Bool) (xs : List X) (from i : ℕ) (x : X) → position_from p from xs ≡ None → slice_get xs i ≡ Some x → p x ≡ true → ⊥
none-passes p [] from i x none got passes = cc
none-passes {X} p (y ∷ ys) from i x none got passes = go (none-passes p ys (from + 1)) (p y) refl none i got
  where
    go : ((k : ℕ) (z : X) → position_from p (from + 1) ys ≡ None → slice_get ys k ≡ Some z → p z ≡ true → ⊥) → (b : Bool) → p y ≡ b → cond b (Some from) (position_from p (from + 1) ys) ≡ None
        → (k : ℕ) → slice_get (y ∷ ys) k ≡ Some x → ⊥
    go later true is e k there = cc
    go later false is e zero there = let same : y ≡ x = cc in let never : p y ≡ true = ap p same ∙ passes in cc
    go later false is e (suc k) there = later k x e there passes

-- a common structure is some member
common-missing : (program : Program) (s : Structure) (common : TypeId) → IsCommon program s common → place_of s.fields (Some common) ≡ None → ⊥
common-missing program s common is none =
    let m = is.member in
    none-passes (λ (f : Field). is_node common f.ty) s.fields 0 m.2.0 m.0 none (contains-at s.fields m.0 m.2) (ap (is_node common) m.3 ∙ same-number common.0)

pub place-there : (program : Program) (node : TypeId) (s : Structure) (table : UnionTable) → Some table ≡ Some (table_of program s) → Settled program → HasStructure program node s → s.is_union ≡ true
    → MatchOption table.place ((common : TypeId) → ¬ IsCommon program s common) (IsCommonPlace program s)
place-there program node s table is settled has union =
    subst (λ (o : Option ℕ). MatchOption o ((common : TypeId) → ¬ IsCommon program s common) (IsCommonPlace program s))
    (sym (ap (λ (t : UnionTable). t.place) (some-table table (table_of program s) is) ∙ ap (λ b. place_of s.fields (if b then common_of program s else None)) union))
    (placed (common_of program s) (common-found program settled node s has union))
  where
    at : (common : TypeId) → IsCommon program s common → (o : Option ℕ) → place_of s.fields (Some common) ≡ o → MatchOption o ((common : TypeId) → ¬ IsCommon program s common) (IsCommonPlace program s)
    at common c None missing = absurd (common-missing program s common c missing)
    at common c (Some place) found = (common, c, found)

    placed : (o : Option TypeId) → MatchOption o ((common : TypeId) → ¬ IsCommon program s common) (IsCommon program s)
        → MatchOption (place_of s.fields o) ((common : TypeId) → ¬ IsCommon program s common) (IsCommonPlace program s)
    placed None none = none
    placed (Some common) c = at common c (place_of s.fields (Some common)) refl

-- what is found of the common structure of a structure is what its table has
pub common-kept : (program : Program) (node : TypeId) (s : Structure) (o : Option TypeId) → Settled program → HasStructure program node s
    → MatchOption o ((common : TypeId) → ¬ IsCommon program s common) (IsCommon program s) → o ≡ table_common program s
common-kept program node s o settled has found = by s.is_union refl o found
  where
    by : (b : Bool) → s.is_union ≡ b → (o : Option TypeId) → MatchOption o ((common : TypeId) → ¬ IsCommon program s common) (IsCommon program s)
        → o ≡ (if b then common_of program s else None)
    by true union o found = found-is-common program settled node s has union o found
    by false struct None none = refl
    by false struct (Some common) is = let union = is.union in cc

-- a table of these parts
abbrev table : Tags → Option ℕ → Option TypeId → Option ℕ → UnionTable
table tags other common place = record { tags = tags; other = other; common = common; place = place }

-- a table of these parts is that of the structure
pub same-table : (program : Program) (node : TypeId) (s : Structure) (fields : List Field) (tags : Tags) (other : Option ℕ) (common : Option TypeId) (place : Option ℕ) → Settled program
    → HasStructure program node s → fields ≡ s.fields → tags ≡ tags_from [] 0 fields → other ≡ position_from (λ f. is_default f.active) 0 fields
    → MatchOption common ((c : TypeId) → ¬ IsCommon program s c) (IsCommon program s) → place ≡ place_of fields common
    → table tags other common place ≡ table_of program s
same-table program node s fields tags other common place settled has same tagged default found placed =
    ap (λ (t : Tags). table t other common place) (tagged ∙ ap (tags_from [] 0) same)
    ∙ ap (λ (o : Option ℕ). table (tags_from [] 0 s.fields) o common place) (default ∙ ap (position_from (λ f. is_default f.active) 0) same)
    ∙ ap (λ (o : Option ℕ). table (tags_from [] 0 s.fields) (position_from (λ f. is_default f.active) 0 s.fields) common o)
    (placed ∙ ap (λ (fs : List Field). place_of fs common) same)
    ∙ ap (λ (o : Option TypeId). table (tags_from [] 0 s.fields) (position_from (λ f. is_default f.active) 0 s.fields) o (place_of s.fields o))
    (common-kept program node s common settled has found)

-- ---- what is asked of the map, said of the tags

pub asked : (tags held : Tags) (tag given : ℤ) (o : Option ℕ) → held ≡ tags → given ≡ tag → o ≡ place_at held given → o ≡ place_at tags tag
asked tags held tag given o same is at = at ∙ ap (λ (z : ℤ). place_at held z) is ∙ ap (λ (t : Tags). place_at t tag) same

pub put-new : (tags held inserted : Tags) (tag given : ℤ) (place : ℕ) (b : Bool) → held ≡ tags → given ≡ tag → b ≡ is_some (place_at held given) → b ≡ false
    → inserted ≡ insert_entry int_cmp held given place → inserted ≡ cond (is_some (place_at tags tag)) tags (insert_entry int_cmp tags tag place)
put-new tags held inserted tag given place b same is asks missing put =
    let absent : is_some (place_at tags tag) ≡ false =
    ap (λ (t : Tags). is_some (place_at t tag)) (sym same) ∙ ap (λ (z : ℤ). is_some (place_at held z)) (sym is) ∙ sym asks ∙ missing in
    put ∙ ap (λ (z : ℤ). insert_entry int_cmp held z place) is ∙ ap (λ (t : Tags). insert_entry int_cmp t tag place) same
    ∙ ap (λ (c : Bool). cond c tags (insert_entry int_cmp tags tag place)) (sym absent)

pub put-known : (tags held : Tags) (tag given : ℤ) (place : ℕ) (b : Bool) → held ≡ tags → given ≡ tag → b ≡ is_some (place_at held given) → b ≡ true
    → tags ≡ cond (is_some (place_at tags tag)) tags (insert_entry int_cmp tags tag place)
put-known tags held tag given place b same is asks known =
    let there : is_some (place_at tags tag) ≡ true =
    ap (λ (t : Tags). is_some (place_at t tag)) (sym same) ∙ ap (λ (z : ℤ). is_some (place_at held z)) (sym is) ∙ sym asks ∙ known in
    ap (λ (c : Bool). cond c tags (insert_entry int_cmp tags tag place)) (sym there)

pub active-by : (tags : Tags) (other : Option ℕ) (value : Option ℤ) (v given : ℤ) (o : Option ℕ) → value ≡ Some v → given ≡ v → o ≡ place_at tags given
    → first_place o other ≡ first_place (place_by tags value) other
active-by tags other value v given o is same at =
    ap (λ (x : Option ℕ). first_place x other) (at ∙ ap (λ (z : ℤ). place_at tags z) same ∙ ap (place_by tags) (sym is))
