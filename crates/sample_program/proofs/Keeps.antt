-- Each structure of the sample keeps the rules, field by field.
use Rattle.std.proofs.Common.{◌≡◌, ℕ, ◌<◌, ◌≤◌, true, false, not, [], ◌∷◌, ap, sym, subst, ◌∙◌, arith, refl, inl, inr}
use Rattle.std.specs.Prelude.{◌≢◌, Some, None, All, AllPairs, codes}
use Rattle.std.specs.Str.{bytes_eq}
use Rattle.std.proofs.lemmas.Bool.{cases_lt}
use Rattle.std.proofs.lemmas.List.Elements.{All-from_recursion}
use Rattle.std.proofs.lemmas.List.Kept.{AllPairs-cons}
use Rattle.std.proofs.lemmas.Slice.Eq.{bytes_eq-Decides}
use Rattle.gt_types.specs.declared.expressions.Base.TheVariants.{Here, Outer, Outermost}
use Rattle.gt_types.specs.declared.types.Width.TheVariants.{W1, W2, W4, W8}
use Rattle.gt_types.specs.declared.types.Scalar.TheVariants as scalar
use Rattle.gt_types.specs.declared.types.Target.TheVariants as target
use Rattle.gt_types.specs.declared.types.PtrKind.TheVariants as kind
use Rattle.gt_types.specs.declared.types.Ty.TheVariants as ty
use Rattle.gt_types.specs.declared.program.Active.TheVariants.{Always, Other, Never}
use Rattle.gt_types.specs.declared.program.Field.{Field}
use Rattle.gt_types.specs.Contains.{Nests, once, deeper}
use Rattle.gt_types.specs.Shapes.{field_type_at}
use Rattle.gt_types.specs.Unions.{is_it, by_first, IsCommon, IsMember, AreApart}
use Rattle.gt_types.specs.Settled.{IsField, IsStructure}
use Rattle.gt_types.specs.Paths.{LeadsToNumber, LeadsToOwnPointer, IsFieldDesc, IsOutermost}
use Rattle.sample_program.specs.Sample.{sample, structures, item, base, wide, form, pay, cell, vec, hold, duo, two, vecb, any, rest, big, bigv, kindv, ever, label, twin, lone, int, node, path, own_kind, own_len, own_n, own_num, outer_num, outermost_a, held, member, field}
use Rattle.sample_program.proofs.Lists.{AllFrom, differ, pair, three}
use Rattle.sample_program.proofs.Types.{flat-num, flat-bits, flat-opaque, flat-str, flat-ptr, flat-node, inner-arr, inner-tail}
use Rattle.sample_program.proofs.Orders.{lower_by, in_program}
use Rattle.gt_types.specs.declared.types.TypeId.{TypeId}
use Rattle.sample_program.proofs.Structures.{item_stands, common_base, lone_contains}
use Rattle.sample_program.proofs.Fields.{names, grid-type, labels-type, pointers-type, shorts-type, a_field, to_int, to_kind, to_kind_of, to_lone_kind, an_option, a_desc, one_name, two_names, three_names}

names_differ : (f g : Field) → not (bytes_eq f.name g.name) ≡ true → f.name ≢ g.name
names_differ f g differ same =
    let wrong : not (bytes_eq f.name f.name) ≡ true = subst (λ n. not (bytes_eq f.name n) ≡ true) (sym same) differ in
    let right : bytes_eq f.name f.name ≡ true = (bytes_eq-Decides f.name f.name).1 refl in
    absurd (cc)

ever_common : IsCommon sample ever (node 1)
ever_common = common_base ever (member (codes "b") (held 1) 1) (member (codes "v") (held 15) 2) None refl refl refl is_it (by_first {s = kindv} {f = field (codes "b") (held 1)} refl refl refl is_it)

form_common : IsCommon sample form (node 1)
form_common = common_base form (member (codes "b") (held 1) 1) (member (codes "w") (held 2) 2) None refl refl refl is_it (by_first {s = wide} {f = field (codes "b") (held 1)} refl refl refl is_it)

any_common : IsCommon sample any (node 1)
any_common = common_base any (member (codes "b") (held 1) 1) (member (codes "v") (held 10) 2) None refl refl refl is_it (by_first {s = vecb} {f = field (codes "b") (held 1)} refl refl refl is_it)

item-fields : All (IsField sample (node 0) item) item.fields
item-fields =
    All-from_recursion (IsField sample (node 0) item) item.fields
    (a_field 0 item (field (codes "n") (ty.Num (scalar.Int W4 true))) refl (0, omega arith, refl) refl (ap field_type_at (ty.outs-Num (scalar.Int W4 true))) (names (λ union u e. IsFieldDesc sample (node 0) union e) (ty.Num (scalar.Int W4 true)) (ty.Num (scalar.Int W4 true)) (flat-num (scalar.Int W4 true)).inner tt tt tt) tt, tt)

item-keeps : IsStructure sample (node 0) item
item-keeps = record {
  name = refl;
  some_fields = omega arith;
  few_fields = omega arith;
  distinct = differ (λ f g. bytes_eq f.name g.name) (λ f g. f.name ≢ g.name) names_differ item.fields refl;
  fields = item-fields;
  sort = record { no_desc = refl; active = All-from_recursion (λ f. f.active ≡ Always) item.fields (refl, tt); last_tail = refl };
  chains = All-from_recursion (λ c. LeadsToOwnPointer sample (node 0) c.path) [] tt;
  kinds = λ i j d lt within. absurd (omega (arith, within));
}

base-fields : All (IsField sample (node 1) base) base.fields
base-fields =
    All-from_recursion (IsField sample (node 1) base) base.fields (
      a_field 1 base (field (codes "kind") (ty.Num (scalar.Int W2 true))) refl (0, omega arith, refl) refl (ap field_type_at (ty.outs-Num (scalar.Int W2 true))) (names (λ union u e. IsFieldDesc sample (node 1) union e) (ty.Num (scalar.Int W2 true)) (ty.Num (scalar.Int W2 true)) (flat-num (scalar.Int W2 true)).inner tt tt tt) tt,
      (a_field 1 base (field (codes "p") (ty.Ptr (Some (target.Node (node 0))) kind.Plain false)) refl (1, omega arith, refl) refl (ap field_type_at (ty.outs-Ptr (Some (target.Node (node 0))) kind.Plain false)) (names (λ union u e. IsFieldDesc sample (node 1) union e) (ty.Ptr (Some (target.Node (node 0))) kind.Plain false) (ty.Ptr (Some (target.Node (node 0))) kind.Plain false) (flat-ptr (Some (target.Node (node 0))) kind.Plain false).inner item_stands tt tt) tt, tt),
    )

base-keeps : IsStructure sample (node 1) base
base-keeps = record {
  name = refl;
  some_fields = omega arith;
  few_fields = omega arith;
  distinct = differ (λ f g. bytes_eq f.name g.name) (λ f g. f.name ≢ g.name) names_differ base.fields refl;
  fields = base-fields;
  sort = record {
    no_desc = refl;
    active = All-from_recursion (λ f. f.active ≡ Always) base.fields (
      refl,
      (refl, tt),
    );
    last_tail = refl;
  };
  chains = All-from_recursion (λ c. LeadsToOwnPointer sample (node 1) c.path) [] tt;
  kinds = λ i j d lt within. absurd (omega (arith, within));
}

wide-fields : All (IsField sample (node 2) wide) wide.fields
wide-fields =
    All-from_recursion (IsField sample (node 2) wide) wide.fields (
      a_field 2 wide (field (codes "b") (ty.Node (node 1) None)) refl (0, omega arith, refl) refl (ap field_type_at (ty.outs-Node (node 1) None)) (names (λ union u e. IsFieldDesc sample (node 2) union e) (ty.Node (node 1) None) (ty.Node (node 1) None) (flat-node (node 1) None).inner tt tt (base, refl, refl)) tt,
      (
        a_field 2 wide (field (codes "x") (ty.Num (scalar.Int W8 true))) refl (1, omega arith, refl) refl (ap field_type_at (ty.outs-Num (scalar.Int W8 true))) (names (λ union u e. IsFieldDesc sample (node 2) union e) (ty.Num (scalar.Int W8 true)) (ty.Num (scalar.Int W8 true)) (flat-num (scalar.Int W8 true)).inner tt tt tt) tt,
        (a_field 2 wide (field (codes "q") (ty.Ptr (Some (target.Node (node 0))) kind.Plain false)) refl (2, omega arith, refl) refl (ap field_type_at (ty.outs-Ptr (Some (target.Node (node 0))) kind.Plain false)) (names (λ union u e. IsFieldDesc sample (node 2) union e) (ty.Ptr (Some (target.Node (node 0))) kind.Plain false) (ty.Ptr (Some (target.Node (node 0))) kind.Plain false) (flat-ptr (Some (target.Node (node 0))) kind.Plain false).inner item_stands tt tt) tt, tt),
      ),
    )

wide-keeps : IsStructure sample (node 2) wide
wide-keeps = record {
  name = refl;
  some_fields = omega arith;
  few_fields = omega arith;
  distinct = differ (λ f g. bytes_eq f.name g.name) (λ f g. f.name ≢ g.name) names_differ wide.fields refl;
  fields = wide-fields;
  sort = record {
    no_desc = refl;
    active = All-from_recursion (λ f. f.active ≡ Always) wide.fields (
      refl,
      (
        refl,
        (refl, tt),
      ),
    );
    last_tail = refl;
  };
  chains = All-from_recursion (λ c. LeadsToOwnPointer sample (node 2) c.path) [] tt;
  kinds = λ i j d lt within. absurd (omega (arith, within));
}

form-fields : All (IsField sample (node 3) form) form.fields
form-fields =
    All-from_recursion (IsField sample (node 3) form) form.fields (
      a_field 3 form (member (codes "b") (ty.Node (node 1) None) 1) refl (0, omega arith, refl) refl (ap field_type_at (ty.outs-Node (node 1) None)) (names (λ union u e. IsFieldDesc sample (node 3) union e) (ty.Node (node 1) None) (ty.Node (node 1) None) (flat-node (node 1) None).inner tt tt (base, refl, refl)) tt,
      (a_field 3 form (member (codes "w") (ty.Node (node 2) None) 2) refl (1, omega arith, refl) refl (ap field_type_at (ty.outs-Node (node 2) None)) (names (λ union u e. IsFieldDesc sample (node 3) union e) (ty.Node (node 2) None) (ty.Node (node 2) None) (flat-node (node 2) None).inner tt tt (wide, refl, refl)) tt, tt),
    )

form-apart : AllPairs (λ f g. AreApart f.active g.active) form.fields
form-apart = pair (λ f g. AreApart f.active g.active) _ _ (λ e. absurd (cc))

form-keeps : IsStructure sample (node 3) form
form-keeps = record {
  name = refl;
  some_fields = omega arith;
  few_fields = omega arith;
  distinct = differ (λ f g. bytes_eq f.name g.name) (λ f g. f.name ≢ g.name) names_differ form.fields refl;
  fields = form-fields;
  sort = record {
    desc = (an_option 3 Here (codes "b" ∷ codes "kind" ∷ []) (two_names (codes "b") (codes "kind") refl refl) (to_kind 3 form refl (0, omega arith, refl) form_common));
    members = record {
      each = All-from_recursion IsMember form.fields ((λ e. absurd (cc), λ e. absurd (cc)), ((λ e. absurd (cc), λ e. absurd (cc)), tt));
      apart = form-apart;
    };
    tails = refl;
  };
  chains = All-from_recursion (λ c. LeadsToOwnPointer sample (node 3) c.path) [] tt;
  kinds = λ i j d lt within. absurd (omega (arith, within));
}

pay-fields : All (IsField sample (node 4) pay) pay.fields
pay-fields =
    All-from_recursion (IsField sample (node 4) pay) pay.fields (
      a_field 4 pay (member (codes "num") (ty.Num (scalar.Int W8 true)) 0) refl (0, omega arith, refl) refl (ap field_type_at (ty.outs-Num (scalar.Int W8 true))) (names (λ union u e. IsFieldDesc sample (node 4) union e) (ty.Num (scalar.Int W8 true)) (ty.Num (scalar.Int W8 true)) (flat-num (scalar.Int W8 true)).inner tt tt tt) tt,
      (a_field 4 pay (member (codes "ref") (ty.Ptr (Some (target.Node (node 0))) kind.Plain false) 1) refl (1, omega arith, refl) refl (ap field_type_at (ty.outs-Ptr (Some (target.Node (node 0))) kind.Plain false)) (names (λ union u e. IsFieldDesc sample (node 4) union e) (ty.Ptr (Some (target.Node (node 0))) kind.Plain false) (ty.Ptr (Some (target.Node (node 0))) kind.Plain false) (flat-ptr (Some (target.Node (node 0))) kind.Plain false).inner item_stands tt tt) tt, tt),
    )

pay-apart : AllPairs (λ f g. AreApart f.active g.active) pay.fields
pay-apart = pair (λ f g. AreApart f.active g.active) _ _ (λ e. absurd (cc))

pay-keeps : IsStructure sample (node 4) pay
pay-keeps = record {
  name = refl;
  some_fields = omega arith;
  few_fields = omega arith;
  distinct = differ (λ f g. bytes_eq f.name g.name) (λ f g. f.name ≢ g.name) names_differ pay.fields refl;
  fields = pay-fields;
  sort = record {
    desc = tt;
    members = record {
      each = All-from_recursion IsMember pay.fields ((λ e. absurd (cc), λ e. absurd (cc)), ((λ e. absurd (cc), λ e. absurd (cc)), tt));
      apart = pay-apart;
    };
    tails = refl;
  };
  chains = All-from_recursion (λ c. LeadsToOwnPointer sample (node 4) c.path) [] tt;
  kinds = λ i j d lt within. absurd (omega (arith, within));
}

cell-fields : All (IsField sample (node 5) cell) cell.fields
cell-fields =
    All-from_recursion (IsField sample (node 5) cell) cell.fields (
      a_field 5 cell (field (codes "sel") (ty.Num (scalar.Int W1 false))) refl (0, omega arith, refl) refl (ap field_type_at (ty.outs-Num (scalar.Int W1 false))) (names (λ union u e. IsFieldDesc sample (node 5) union e) (ty.Num (scalar.Int W1 false)) (ty.Num (scalar.Int W1 false)) (flat-num (scalar.Int W1 false)).inner tt tt tt) tt,
      (
        a_field 5 cell (field (codes "u") (ty.Node (node 4) (Some (path Outer ((codes "sel") ∷ []))))) refl (1, omega arith, refl) refl (ap field_type_at (ty.outs-Node (node 4) (Some (path Outer ((codes "sel") ∷ []))))) (names (λ union u e. IsFieldDesc sample (node 5) union e) (ty.Node (node 4) (Some (path Outer ((codes "sel") ∷ [])))) (ty.Node (node 4) (Some (path Outer ((codes "sel") ∷ [])))) (flat-node (node 4) (Some (path Outer ((codes "sel") ∷ [])))).inner tt tt (pay, refl, (refl, (a_desc 5 4 Outer ((codes "sel") ∷ []) (one_name (codes "sel") refl) (to_int 5 cell (codes "sel") 0 (ty.Num (scalar.Int W1 false)) refl refl refl (0, omega arith, refl) refl))))) tt,
        (
          a_field 5 cell (field (codes "f") (ty.Node (node 3) (Some own_kind))) refl (2, omega arith, refl) refl (ap field_type_at (ty.outs-Node (node 3) (Some own_kind))) (names (λ union u e. IsFieldDesc sample (node 5) union e) (ty.Node (node 3) (Some own_kind)) (ty.Node (node 3) (Some own_kind)) (flat-node (node 3) (Some own_kind)).inner tt tt (form, refl, (refl, (a_desc 5 3 Here (codes "b" ∷ codes "kind" ∷ []) (two_names (codes "b") (codes "kind") refl refl) (to_kind 3 form refl (0, omega arith, refl) form_common))))) tt,
          (
            a_field 5 cell (field (codes "lo") (ty.Bits (scalar.Int W4 false) 3)) refl (3, omega arith, refl) refl (ap field_type_at (ty.outs-Bits (scalar.Int W4 false) 3)) (names (λ union u e. IsFieldDesc sample (node 5) union e) (ty.Bits (scalar.Int W4 false) 3) (ty.Bits (scalar.Int W4 false) 3) (flat-bits (scalar.Int W4 false) 3).inner tt tt tt) tt,
            (
              a_field 5 cell (field (codes "hi") (ty.Bits (scalar.Int W4 true) 5)) refl (4, omega arith, refl) refl (ap field_type_at (ty.outs-Bits (scalar.Int W4 true) 5)) (names (λ union u e. IsFieldDesc sample (node 5) union e) (ty.Bits (scalar.Int W4 true) 5) (ty.Bits (scalar.Int W4 true) 5) (flat-bits (scalar.Int W4 true) 5).inner tt tt tt) tt,
              (
                a_field 5 cell (field (codes "flag") (ty.Num scalar.Bool)) refl (5, omega arith, refl) refl (ap field_type_at (ty.outs-Num scalar.Bool)) (names (λ union u e. IsFieldDesc sample (node 5) union e) (ty.Num scalar.Bool) (ty.Num scalar.Bool) (flat-num scalar.Bool).inner tt tt tt) tt,
                (a_field 5 cell (field (codes "raw") (ty.Opaque 8 8)) refl (6, omega arith, refl) refl (ap field_type_at (ty.outs-Opaque 8 8)) (names (λ union u e. IsFieldDesc sample (node 5) union e) (ty.Opaque 8 8) (ty.Opaque 8 8) (flat-opaque 8 8).inner tt tt tt) tt, tt),
              ),
            ),
          ),
        ),
      ),
    )

cell-keeps : IsStructure sample (node 5) cell
cell-keeps = record {
  name = refl;
  some_fields = omega arith;
  few_fields = omega arith;
  distinct = differ (λ f g. bytes_eq f.name g.name) (λ f g. f.name ≢ g.name) names_differ cell.fields refl;
  fields = cell-fields;
  sort = record {
    no_desc = refl;
    active = All-from_recursion (λ f. f.active ≡ Always) cell.fields (
      refl,
      (
        refl,
        (
          refl,
          (
            refl,
            (
              refl,
              (
                refl,
                (refl, tt),
              ),
            ),
          ),
        ),
      ),
    );
    last_tail = refl;
  };
  chains = All-from_recursion (λ c. LeadsToOwnPointer sample (node 5) c.path) [] tt;
  kinds = λ i j d lt within. absurd (omega (arith, within));
}

vec-fields : All (IsField sample (node 6) vec) vec.fields
vec-fields =
    All-from_recursion (IsField sample (node 6) vec) vec.fields (
      a_field 6 vec (field (codes "num") (ty.Num (scalar.Int W4 true))) refl (0, omega arith, refl) refl (ap field_type_at (ty.outs-Num (scalar.Int W4 true))) (names (λ union u e. IsFieldDesc sample (node 6) union e) (ty.Num (scalar.Int W4 true)) (ty.Num (scalar.Int W4 true)) (flat-num (scalar.Int W4 true)).inner tt tt tt) tt,
      (a_field 6 vec (field (codes "elem") (ty.Tail (path Here ((codes "num") ∷ [])) (ty.Ptr (Some (target.Node (node 0))) kind.Plain false))) refl (1, omega arith, refl) refl (pointers-type (path Here ((codes "num") ∷ []))) (names (λ union u e. IsFieldDesc sample (node 6) union e) (ty.Tail (path Here ((codes "num") ∷ [])) (ty.Ptr (Some (target.Node (node 0))) kind.Plain false)) (ty.Ptr (Some (target.Node (node 0))) kind.Plain false) (inner-tail (path Here ((codes "num") ∷ [])) (ty.Ptr (Some (target.Node (node 0))) kind.Plain false) ∙ (flat-ptr (Some (target.Node (node 0))) kind.Plain false).inner) item_stands tt tt) (an_option 6 Here ((codes "num") ∷ []) (one_name (codes "num") refl) (to_int 6 vec (codes "num") 0 int refl refl refl (0, omega arith, refl) refl)), tt),
    )

vec-keeps : IsStructure sample (node 6) vec
vec-keeps = record {
  name = refl;
  some_fields = omega arith;
  few_fields = omega arith;
  distinct = differ (λ f g. bytes_eq f.name g.name) (λ f g. f.name ≢ g.name) names_differ vec.fields refl;
  fields = vec-fields;
  sort = record {
    no_desc = refl;
    active = All-from_recursion (λ f. f.active ≡ Always) vec.fields (
      refl,
      (refl, tt),
    );
    last_tail = refl;
  };
  chains = All-from_recursion (λ c. LeadsToOwnPointer sample (node 6) c.path) [] tt;
  kinds = λ i j d lt within. absurd (omega (arith, within));
}

hold-fields : All (IsField sample (node 7) hold) hold.fields
hold-fields =
    All-from_recursion (IsField sample (node 7) hold) hold.fields (
      a_field 7 hold (field (codes "len") (ty.Num (scalar.Int W4 true))) refl (0, omega arith, refl) refl (ap field_type_at (ty.outs-Num (scalar.Int W4 true))) (names (λ union u e. IsFieldDesc sample (node 7) union e) (ty.Num (scalar.Int W4 true)) (ty.Num (scalar.Int W4 true)) (flat-num (scalar.Int W4 true)).inner tt tt tt) tt,
      (
        a_field 7 hold (field (codes "list") (ty.Ptr (Some (target.Node (node 0))) (kind.Length own_len) false)) refl (1, omega arith, refl) refl (ap field_type_at (ty.outs-Ptr (Some (target.Node (node 0))) (kind.Length own_len) false)) (names (λ union u e. IsFieldDesc sample (node 7) union e) (ty.Ptr (Some (target.Node (node 0))) (kind.Length own_len) false) (ty.Ptr (Some (target.Node (node 0))) (kind.Length own_len) false) (flat-ptr (Some (target.Node (node 0))) (kind.Length own_len) false).inner item_stands tt tt) (an_option 7 Here (codes "len" ∷ []) (one_name (codes "len") refl) (to_int 7 hold (codes "len") 0 int refl refl refl (0, omega arith, refl) refl)),
        (
          a_field 7 hold (field (codes "s") (ty.Str None)) refl (2, omega arith, refl) refl (ap field_type_at (ty.outs-Str None)) (names (λ union u e. IsFieldDesc sample (node 7) union e) (ty.Str None) (ty.Str None) (flat-str None).inner tt tt tt) tt,
          (
            a_field 7 hold (field (codes "t") (ty.Str (Some own_len))) refl (3, omega arith, refl) refl (ap field_type_at (ty.outs-Str (Some own_len))) (names (λ union u e. IsFieldDesc sample (node 7) union e) (ty.Str (Some own_len)) (ty.Str (Some own_len)) (flat-str (Some own_len)).inner tt tt tt) (an_option 7 Here (codes "len" ∷ []) (one_name (codes "len") refl) (to_int 7 hold (codes "len") 0 int refl refl refl (0, omega arith, refl) refl)),
            (
              a_field 7 hold (field (codes "raw") (ty.Ptr None kind.Atomic false)) refl (4, omega arith, refl) refl (ap field_type_at (ty.outs-Ptr None kind.Atomic false)) (names (λ union u e. IsFieldDesc sample (node 7) union e) (ty.Ptr None kind.Atomic false) (ty.Ptr None kind.Atomic false) (flat-ptr None kind.Atomic false).inner tt tt tt) tt,
              (
                a_field 7 hold (field (codes "grid") (ty.Arr 2 (ty.Arr 3 (ty.Num (scalar.Int W2 true))))) refl (5, omega arith, refl) refl grid-type (names (λ union u e. IsFieldDesc sample (node 7) union e) (ty.Arr 2 (ty.Arr 3 (ty.Num (scalar.Int W2 true)))) (ty.Num (scalar.Int W2 true)) (inner-arr 2 (ty.Arr 3 (ty.Num (scalar.Int W2 true))) ∙ inner-arr 3 (ty.Num (scalar.Int W2 true)) ∙ (flat-num (scalar.Int W2 true)).inner) tt tt tt) tt,
                (a_field 7 hold (field (codes "few") (ty.Opaque 4 4)) refl (6, omega arith, refl) refl (ap field_type_at (ty.outs-Opaque 4 4)) (names (λ union u e. IsFieldDesc sample (node 7) union e) (ty.Opaque 4 4) (ty.Opaque 4 4) (flat-opaque 4 4).inner tt tt tt) tt, tt),
              ),
            ),
          ),
        ),
      ),
    )

hold-keeps : IsStructure sample (node 7) hold
hold-keeps = record {
  name = refl;
  some_fields = omega arith;
  few_fields = omega arith;
  distinct = differ (λ f g. bytes_eq f.name g.name) (λ f g. f.name ≢ g.name) names_differ hold.fields refl;
  fields = hold-fields;
  sort = record {
    no_desc = refl;
    active = All-from_recursion (λ f. f.active ≡ Always) hold.fields (
      refl,
      (
        refl,
        (
          refl,
          (
            refl,
            (
              refl,
              (
                refl,
                (refl, tt),
              ),
            ),
          ),
        ),
      ),
    );
    last_tail = refl;
  };
  chains = All-from_recursion (λ c. LeadsToOwnPointer sample (node 7) c.path) [] tt;
  kinds = λ i j d lt within. absurd (omega (arith, within));
}

duo-fields : All (IsField sample (node 8) duo) duo.fields
duo-fields =
    All-from_recursion (IsField sample (node 8) duo) duo.fields (
      a_field 8 duo (member (codes "c") (ty.Node (node 5) None) 0) refl (0, omega arith, refl) refl (ap field_type_at (ty.outs-Node (node 5) None)) (names (λ union u e. IsFieldDesc sample (node 8) union e) (ty.Node (node 5) None) (ty.Node (node 5) None) (flat-node (node 5) None).inner tt tt (cell, refl, refl)) tt,
      (a_field 8 duo (member (codes "k") (ty.Num (scalar.Int W8 true)) 1) refl (1, omega arith, refl) refl (ap field_type_at (ty.outs-Num (scalar.Int W8 true))) (names (λ union u e. IsFieldDesc sample (node 8) union e) (ty.Num (scalar.Int W8 true)) (ty.Num (scalar.Int W8 true)) (flat-num (scalar.Int W8 true)).inner tt tt tt) tt, tt),
    )

duo-apart : AllPairs (λ f g. AreApart f.active g.active) duo.fields
duo-apart = pair (λ f g. AreApart f.active g.active) _ _ (λ e. absurd (cc))

duo-keeps : IsStructure sample (node 8) duo
duo-keeps = record {
  name = refl;
  some_fields = omega arith;
  few_fields = omega arith;
  distinct = differ (λ f g. bytes_eq f.name g.name) (λ f g. f.name ≢ g.name) names_differ duo.fields refl;
  fields = duo-fields;
  sort = record {
    desc = tt;
    members = record {
      each = All-from_recursion IsMember duo.fields ((λ e. absurd (cc), λ e. absurd (cc)), ((λ e. absurd (cc), λ e. absurd (cc)), tt));
      apart = duo-apart;
    };
    tails = refl;
  };
  chains = All-from_recursion (λ c. LeadsToOwnPointer sample (node 8) c.path) [] tt;
  kinds = λ i j d lt within. absurd (omega (arith, within));
}

two-fields : All (IsField sample (node 9) two) two.fields
two-fields =
    All-from_recursion (IsField sample (node 9) two) two.fields (
      a_field 9 two (field (codes "tag") (ty.Num (scalar.Int W4 true))) refl (0, omega arith, refl) refl (ap field_type_at (ty.outs-Num (scalar.Int W4 true))) (names (λ union u e. IsFieldDesc sample (node 9) union e) (ty.Num (scalar.Int W4 true)) (ty.Num (scalar.Int W4 true)) (flat-num (scalar.Int W4 true)).inner tt tt tt) tt,
      (a_field 9 two (field (codes "d") (ty.Node (node 8) (Some (path Outer ((codes "tag") ∷ []))))) refl (1, omega arith, refl) refl (ap field_type_at (ty.outs-Node (node 8) (Some (path Outer ((codes "tag") ∷ []))))) (names (λ union u e. IsFieldDesc sample (node 9) union e) (ty.Node (node 8) (Some (path Outer ((codes "tag") ∷ [])))) (ty.Node (node 8) (Some (path Outer ((codes "tag") ∷ [])))) (flat-node (node 8) (Some (path Outer ((codes "tag") ∷ [])))).inner tt tt (duo, refl, (refl, (a_desc 9 8 Outer ((codes "tag") ∷ []) (one_name (codes "tag") refl) (to_int 9 two (codes "tag") 0 (ty.Num (scalar.Int W4 true)) refl refl refl (0, omega arith, refl) refl))))) tt, tt),
    )

two-keeps : IsStructure sample (node 9) two
two-keeps = record {
  name = refl;
  some_fields = omega arith;
  few_fields = omega arith;
  distinct = differ (λ f g. bytes_eq f.name g.name) (λ f g. f.name ≢ g.name) names_differ two.fields refl;
  fields = two-fields;
  sort = record {
    no_desc = refl;
    active = All-from_recursion (λ f. f.active ≡ Always) two.fields (
      refl,
      (refl, tt),
    );
    last_tail = refl;
  };
  chains = All-from_recursion (λ c. LeadsToOwnPointer sample (node 9) c.path) [] tt;
  kinds = λ i j d lt within. absurd (omega (arith, within));
}

vecb-fields : All (IsField sample (node 10) vecb) vecb.fields
vecb-fields =
    All-from_recursion (IsField sample (node 10) vecb) vecb.fields (
      a_field 10 vecb (field (codes "b") (ty.Node (node 1) None)) refl (0, omega arith, refl) refl (ap field_type_at (ty.outs-Node (node 1) None)) (names (λ union u e. IsFieldDesc sample (node 10) union e) (ty.Node (node 1) None) (ty.Node (node 1) None) (flat-node (node 1) None).inner tt tt (base, refl, refl)) tt,
      (
        a_field 10 vecb (field (codes "num") (ty.Num (scalar.Int W4 true))) refl (1, omega arith, refl) refl (ap field_type_at (ty.outs-Num (scalar.Int W4 true))) (names (λ union u e. IsFieldDesc sample (node 10) union e) (ty.Num (scalar.Int W4 true)) (ty.Num (scalar.Int W4 true)) (flat-num (scalar.Int W4 true)).inner tt tt tt) tt,
        (a_field 10 vecb (field (codes "elem") (ty.Tail (path Here ((codes "num") ∷ [])) (ty.Num (scalar.Int W2 true)))) refl (2, omega arith, refl) refl (shorts-type (path Here ((codes "num") ∷ []))) (names (λ union u e. IsFieldDesc sample (node 10) union e) (ty.Tail (path Here ((codes "num") ∷ [])) (ty.Num (scalar.Int W2 true))) (ty.Num (scalar.Int W2 true)) (inner-tail (path Here ((codes "num") ∷ [])) (ty.Num (scalar.Int W2 true)) ∙ (flat-num (scalar.Int W2 true)).inner) tt tt tt) (an_option 10 Here ((codes "num") ∷ []) (one_name (codes "num") refl) (to_int 10 vecb (codes "num") 1 int refl refl refl (1, omega arith, refl) refl)), tt),
      ),
    )

vecb-keeps : IsStructure sample (node 10) vecb
vecb-keeps = record {
  name = refl;
  some_fields = omega arith;
  few_fields = omega arith;
  distinct = differ (λ f g. bytes_eq f.name g.name) (λ f g. f.name ≢ g.name) names_differ vecb.fields refl;
  fields = vecb-fields;
  sort = record {
    no_desc = refl;
    active = All-from_recursion (λ f. f.active ≡ Always) vecb.fields (
      refl,
      (
        refl,
        (refl, tt),
      ),
    );
    last_tail = refl;
  };
  chains = All-from_recursion (λ c. LeadsToOwnPointer sample (node 10) c.path) [] tt;
  kinds = λ i j d lt within. absurd (omega (arith, within));
}

any-fields : All (IsField sample (node 11) any) any.fields
any-fields =
    All-from_recursion (IsField sample (node 11) any) any.fields (
      a_field 11 any (member (codes "b") (ty.Node (node 1) None) 1) refl (0, omega arith, refl) refl (ap field_type_at (ty.outs-Node (node 1) None)) (names (λ union u e. IsFieldDesc sample (node 11) union e) (ty.Node (node 1) None) (ty.Node (node 1) None) (flat-node (node 1) None).inner tt tt (base, refl, refl)) tt,
      (a_field 11 any (member (codes "v") (ty.Node (node 10) None) 2) refl (1, omega arith, refl) refl (ap field_type_at (ty.outs-Node (node 10) None)) (names (λ union u e. IsFieldDesc sample (node 11) union e) (ty.Node (node 10) None) (ty.Node (node 10) None) (flat-node (node 10) None).inner tt tt (vecb, refl, refl)) tt, tt),
    )

any-apart : AllPairs (λ f g. AreApart f.active g.active) any.fields
any-apart = pair (λ f g. AreApart f.active g.active) _ _ (λ e. absurd (cc))

any-keeps : IsStructure sample (node 11) any
any-keeps = record {
  name = refl;
  some_fields = omega arith;
  few_fields = omega arith;
  distinct = differ (λ f g. bytes_eq f.name g.name) (λ f g. f.name ≢ g.name) names_differ any.fields refl;
  fields = any-fields;
  sort = record {
    desc = (an_option 11 Here (codes "b" ∷ codes "kind" ∷ []) (two_names (codes "b") (codes "kind") refl refl) (to_kind 11 any refl (0, omega arith, refl) any_common));
    members = record {
      each = All-from_recursion IsMember any.fields ((λ e. absurd (cc), λ e. absurd (cc)), ((λ e. absurd (cc), λ e. absurd (cc)), tt));
      apart = any-apart;
    };
    tails = refl;
  };
  chains = All-from_recursion (λ c. LeadsToOwnPointer sample (node 11) c.path) [] tt;
  kinds = λ i j d lt within. absurd (omega (arith, within));
}

rest-fields : All (IsField sample (node 12) rest) rest.fields
rest-fields = All-from_recursion (IsField sample (node 12) rest) rest.fields (a_field 12 rest (member (codes "num") (ty.Num (scalar.Int W8 true)) 0) refl (0, omega arith, refl) refl (ap field_type_at (ty.outs-Num (scalar.Int W8 true))) (names (λ union u e. IsFieldDesc sample (node 12) union e) (ty.Num (scalar.Int W8 true)) (ty.Num (scalar.Int W8 true)) (flat-num (scalar.Int W8 true)).inner tt tt tt) tt, (a_field 12 rest (record { name = codes "old"; ty = (ty.Num (scalar.Int W4 true)); active = Never }) refl (1, omega arith, refl) refl (ap field_type_at (ty.outs-Num (scalar.Int W4 true))) (names (λ union u e. IsFieldDesc sample (node 12) union e) (ty.Num (scalar.Int W4 true)) (ty.Num (scalar.Int W4 true)) (flat-num (scalar.Int W4 true)).inner tt tt tt) tt, (a_field 12 rest (record { name = codes "ref"; ty = (ty.Ptr (Some (target.Node (node 0))) kind.Plain false); active = Other }) refl (2, omega arith, refl) refl (ap field_type_at (ty.outs-Ptr (Some (target.Node (node 0))) kind.Plain false)) (names (λ union u e. IsFieldDesc sample (node 12) union e) (ty.Ptr (Some (target.Node (node 0))) kind.Plain false) (ty.Ptr (Some (target.Node (node 0))) kind.Plain false) (flat-ptr (Some (target.Node (node 0))) kind.Plain false).inner item_stands tt tt) tt, tt)))

rest-apart : AllPairs (λ f g. AreApart f.active g.active) rest.fields
rest-apart = three (λ f g. AreApart f.active g.active) _ _ _ tt tt tt

rest-keeps : IsStructure sample (node 12) rest
rest-keeps = record {
  name = refl;
  some_fields = omega arith;
  few_fields = omega arith;
  distinct = differ (λ f g. bytes_eq f.name g.name) (λ f g. f.name ≢ g.name) names_differ rest.fields refl;
  fields = rest-fields;
  sort = record {
    desc = tt;
    members = record {
      each = All-from_recursion IsMember rest.fields ((λ e. absurd (cc), λ e. absurd (cc)), ((λ e. absurd (cc), λ e. refl), ((λ e. absurd (cc), λ e. absurd (cc)), tt)));
      apart = rest-apart;
    };
    tails = refl;
  };
  chains = All-from_recursion (λ c. LeadsToOwnPointer sample (node 12) c.path) [] tt;
  kinds = λ i j d lt within. absurd (omega (arith, within));
}

big-fields : All (IsField sample (node 13) big) big.fields
big-fields = All-from_recursion (IsField sample (node 13) big) big.fields (a_field 13 big (field (codes "num") (ty.Num (scalar.Int W8 false))) refl (0, omega arith, refl) refl (ap field_type_at (ty.outs-Num (scalar.Int W8 false))) (names (λ union u e. IsFieldDesc sample (node 13) union e) (ty.Num (scalar.Int W8 false)) (ty.Num (scalar.Int W8 false)) (flat-num (scalar.Int W8 false)).inner tt tt tt) tt, (a_field 13 big (field (codes "u") (ty.Node (node 4) (Some outer_num))) refl (1, omega arith, refl) refl (ap field_type_at (ty.outs-Node (node 4) (Some outer_num))) (names (λ union u e. IsFieldDesc sample (node 13) union e) (ty.Node (node 4) (Some outer_num)) (ty.Node (node 4) (Some outer_num)) (flat-node (node 4) (Some outer_num)).inner tt tt (pay, refl, (refl, (a_desc 13 4 Outer ((codes "num") ∷ []) (one_name (codes "num") refl) (to_int 13 big (codes "num") 0 (ty.Num (scalar.Int W8 false)) refl refl refl (0, omega arith, refl) refl))))) tt, (a_field 13 big (field (codes "v") (ty.Node (node 12) (Some outer_num))) refl (2, omega arith, refl) refl (ap field_type_at (ty.outs-Node (node 12) (Some outer_num))) (names (λ union u e. IsFieldDesc sample (node 13) union e) (ty.Node (node 12) (Some outer_num)) (ty.Node (node 12) (Some outer_num)) (flat-node (node 12) (Some outer_num)).inner tt tt (rest, refl, (refl, (a_desc 13 12 Outer ((codes "num") ∷ []) (one_name (codes "num") refl) (to_int 13 big (codes "num") 0 (ty.Num (scalar.Int W8 false)) refl refl refl (0, omega arith, refl) refl))))) tt, (a_field 13 big (field (codes "list") (ty.Ptr (Some (target.Node (node 0))) (kind.Length own_num) false)) refl (3, omega arith, refl) refl (ap field_type_at (ty.outs-Ptr (Some (target.Node (node 0))) (kind.Length own_num) false)) (names (λ union u e. IsFieldDesc sample (node 13) union e) (ty.Ptr (Some (target.Node (node 0))) (kind.Length own_num) false) (ty.Ptr (Some (target.Node (node 0))) (kind.Length own_num) false) (flat-ptr (Some (target.Node (node 0))) (kind.Length own_num) false).inner item_stands tt tt) (an_option 13 Here (codes "num" ∷ []) (one_name (codes "num") refl) (to_int 13 big (codes "num") 0 (ty.Num (scalar.Int W8 false)) refl refl refl (0, omega arith, refl) refl)), (a_field 13 big (field (codes "a") (ty.Num (scalar.Int W1 true))) refl (4, omega arith, refl) refl (ap field_type_at (ty.outs-Num (scalar.Int W1 true))) (names (λ union u e. IsFieldDesc sample (node 13) union e) (ty.Num (scalar.Int W1 true)) (ty.Num (scalar.Int W1 true)) (flat-num (scalar.Int W1 true)).inner tt tt tt) tt, (a_field 13 big (field (codes "c") (ty.Num (scalar.Int W2 false))) refl (5, omega arith, refl) refl (ap field_type_at (ty.outs-Num (scalar.Int W2 false))) (names (λ union u e. IsFieldDesc sample (node 13) union e) (ty.Num (scalar.Int W2 false)) (ty.Num (scalar.Int W2 false)) (flat-num (scalar.Int W2 false)).inner tt tt tt) tt, (a_field 13 big (field (codes "e") (ty.Num (scalar.Int W4 false))) refl (6, omega arith, refl) refl (ap field_type_at (ty.outs-Num (scalar.Int W4 false))) (names (λ union u e. IsFieldDesc sample (node 13) union e) (ty.Num (scalar.Int W4 false)) (ty.Num (scalar.Int W4 false)) (flat-num (scalar.Int W4 false)).inner tt tt tt) tt, (a_field 13 big (field (codes "x") (ty.Bits (scalar.Int W4 false) 12)) refl (7, omega arith, refl) refl (ap field_type_at (ty.outs-Bits (scalar.Int W4 false) 12)) (names (λ union u e. IsFieldDesc sample (node 13) union e) (ty.Bits (scalar.Int W4 false) 12) (ty.Bits (scalar.Int W4 false) 12) (flat-bits (scalar.Int W4 false) 12).inner tt tt tt) tt, (a_field 13 big (field (codes "y") (ty.Bits (scalar.Int W4 true) 15)) refl (8, omega arith, refl) refl (ap field_type_at (ty.outs-Bits (scalar.Int W4 true) 15)) (names (λ union u e. IsFieldDesc sample (node 13) union e) (ty.Bits (scalar.Int W4 true) 15) (ty.Bits (scalar.Int W4 true) 15) (flat-bits (scalar.Int W4 true) 15).inner tt tt tt) tt, (a_field 13 big (field (codes "und") (ty.Ptr None kind.Undef false)) refl (9, omega arith, refl) refl (ap field_type_at (ty.outs-Ptr None kind.Undef false)) (names (λ union u e. IsFieldDesc sample (node 13) union e) (ty.Ptr None kind.Undef false) (ty.Ptr None kind.Undef false) (flat-ptr None kind.Undef false).inner tt tt tt) tt, tt))))))))))

big-keeps : IsStructure sample (node 13) big
big-keeps = record {
  name = refl;
  some_fields = omega arith;
  few_fields = omega arith;
  distinct = differ (λ f g. bytes_eq f.name g.name) (λ f g. f.name ≢ g.name) names_differ big.fields refl;
  fields = big-fields;
  sort = record { no_desc = refl; active = All-from_recursion (λ f. f.active ≡ Always) big.fields (refl, (refl, (refl, (refl, (refl, (refl, (refl, (refl, (refl, (refl, tt)))))))))); last_tail = refl };
  chains = All-from_recursion (λ c. LeadsToOwnPointer sample (node 13) c.path) [] tt;
  kinds = λ i j d lt within. absurd (omega (arith, within));
}

bigv-fields : All (IsField sample (node 14) bigv) bigv.fields
bigv-fields = All-from_recursion (IsField sample (node 14) bigv) bigv.fields (a_field 14 bigv (field (codes "n") (ty.Num (scalar.Int W8 false))) refl (0, omega arith, refl) refl (ap field_type_at (ty.outs-Num (scalar.Int W8 false))) (names (λ union u e. IsFieldDesc sample (node 14) union e) (ty.Num (scalar.Int W8 false)) (ty.Num (scalar.Int W8 false)) (flat-num (scalar.Int W8 false)).inner tt tt tt) tt, (a_field 14 bigv (field (codes "elem") (ty.Tail own_n (ty.Num (scalar.Int W2 true)))) refl (1, omega arith, refl) refl (shorts-type own_n) (names (λ union u e. IsFieldDesc sample (node 14) union e) (ty.Tail own_n (ty.Num (scalar.Int W2 true))) (ty.Num (scalar.Int W2 true)) (inner-tail own_n (ty.Num (scalar.Int W2 true)) ∙ (flat-num (scalar.Int W2 true)).inner) tt tt tt) (an_option 14 Here (codes "n" ∷ []) (one_name (codes "n") refl) (to_int 14 bigv (codes "n") 0 (ty.Num (scalar.Int W8 false)) refl refl refl (0, omega arith, refl) refl)), tt))

bigv-keeps : IsStructure sample (node 14) bigv
bigv-keeps = record {
  name = refl;
  some_fields = omega arith;
  few_fields = omega arith;
  distinct = differ (λ f g. bytes_eq f.name g.name) (λ f g. f.name ≢ g.name) names_differ bigv.fields refl;
  fields = bigv-fields;
  sort = record { no_desc = refl; active = All-from_recursion (λ f. f.active ≡ Always) bigv.fields (refl, (refl, tt)); last_tail = refl };
  chains = All-from_recursion (λ c. LeadsToOwnPointer sample (node 14) c.path) [] tt;
  kinds = λ i j d lt within. absurd (omega (arith, within));
}

kindv-fields : All (IsField sample (node 15) kindv) kindv.fields
kindv-fields = All-from_recursion (IsField sample (node 15) kindv) kindv.fields (a_field 15 kindv (field (codes "b") (ty.Node (node 1) None)) refl (0, omega arith, refl) refl (ap field_type_at (ty.outs-Node (node 1) None)) (names (λ union u e. IsFieldDesc sample (node 15) union e) (ty.Node (node 1) None) (ty.Node (node 1) None) (flat-node (node 1) None).inner tt tt (base, refl, refl)) tt, (a_field 15 kindv (field (codes "elem") (ty.Tail own_kind (ty.Num (scalar.Int W2 true)))) refl (1, omega arith, refl) refl (shorts-type own_kind) (names (λ union u e. IsFieldDesc sample (node 15) union e) (ty.Tail own_kind (ty.Num (scalar.Int W2 true))) (ty.Num (scalar.Int W2 true)) (inner-tail own_kind (ty.Num (scalar.Int W2 true)) ∙ (flat-num (scalar.Int W2 true)).inner) tt tt tt) (an_option 15 Here (codes "b" ∷ codes "kind" ∷ []) (two_names (codes "b") (codes "kind") refl refl) (to_kind_of 15 kindv refl refl (0, omega arith, refl))), tt))

kindv-keeps : IsStructure sample (node 15) kindv
kindv-keeps = record {
  name = refl;
  some_fields = omega arith;
  few_fields = omega arith;
  distinct = differ (λ f g. bytes_eq f.name g.name) (λ f g. f.name ≢ g.name) names_differ kindv.fields refl;
  fields = kindv-fields;
  sort = record { no_desc = refl; active = All-from_recursion (λ f. f.active ≡ Always) kindv.fields (refl, (refl, tt)); last_tail = refl };
  chains = All-from_recursion (λ c. LeadsToOwnPointer sample (node 15) c.path) [] tt;
  kinds = λ i j d lt within. absurd (omega (arith, within));
}

ever-fields : All (IsField sample (node 16) ever) ever.fields
ever-fields =
    All-from_recursion (IsField sample (node 16) ever) ever.fields (
      a_field 16 ever (member (codes "b") (ty.Node (node 1) None) 1) refl (0, omega arith, refl) refl (ap field_type_at (ty.outs-Node (node 1) None)) (names (λ union u e. IsFieldDesc sample (node 16) union e) (ty.Node (node 1) None) (ty.Node (node 1) None) (flat-node (node 1) None).inner tt tt (base, refl, refl)) tt,
      (a_field 16 ever (member (codes "v") (ty.Node (node 15) None) 2) refl (1, omega arith, refl) refl (ap field_type_at (ty.outs-Node (node 15) None)) (names (λ union u e. IsFieldDesc sample (node 16) union e) (ty.Node (node 15) None) (ty.Node (node 15) None) (flat-node (node 15) None).inner tt tt (kindv, refl, refl)) tt, tt),
    )

ever-apart : AllPairs (λ f g. AreApart f.active g.active) ever.fields
ever-apart = pair (λ f g. AreApart f.active g.active) _ _ (λ e. absurd (cc))

ever-keeps : IsStructure sample (node 16) ever
ever-keeps = record {
  name = refl;
  some_fields = omega arith;
  few_fields = omega arith;
  distinct = differ (λ f g. bytes_eq f.name g.name) (λ f g. f.name ≢ g.name) names_differ ever.fields refl;
  fields = ever-fields;
  sort = record {
    desc = (an_option 16 Here (codes "b" ∷ codes "kind" ∷ []) (two_names (codes "b") (codes "kind") refl refl) (to_kind 16 ever refl (0, omega arith, refl) ever_common));
    members = record {
      each = All-from_recursion IsMember ever.fields ((λ e. absurd (cc), λ e. absurd (cc)), ((λ e. absurd (cc), λ e. absurd (cc)), tt));
      apart = ever-apart;
    };
    tails = refl;
  };
  chains = All-from_recursion (λ c. LeadsToOwnPointer sample (node 16) c.path) [] tt;
  kinds = λ i j d lt within. absurd (omega (arith, within));
}

-- a lone holds no label
no_label_in_lone : (n : ℕ) → ¬ Nests sample n (node 19) (node 17)
no_label_in_lone n (once c) = let e = ap (λ (t : TypeId). t.0) (lone_contains (node 17) c) in absurd (omega (arith, e))
no_label_in_lone n (deeper {n = m} {next = next} c rest) =
    let e = ap (λ (t : TypeId). t.0) (lone_contains next c) in
    let l = lower_by m next (node 17) rest in
    absurd (omega (arith, e, l.0, l.1))

label_in : (outer n : ℕ) → Nests sample n (node outer) (node 17) → outer < 20 → 18 ≤ outer → 18 ≡ outer
label_in outer n nests less least = elim (cases_lt outer 19) [
  | inl before ↦ omega (arith, before, least)
  | inr after ↦ let last : outer ≡ 19 = omega (arith, less, after) in absurd (no_label_in_lone n (subst (λ i. Nests sample n (node i) (node 17)) last nests))
]

-- the outermost structure is the label itself, or a twin, which alone holds labels
label_outermost : (outer : TypeId) → IsOutermost sample (node 17) outer → LeadsToNumber sample outer (codes "a" ∷ [])
label_outermost outer (alone, inl same) =
    subst (λ o. LeadsToNumber sample o (codes "a" ∷ [])) (sym same) (to_int 17 label (codes "a") 2 (ty.Num (scalar.Int W2 true)) refl refl refl (2, omega arith, refl) refl)
label_outermost outer (alone, inr (n, nests)) =
    let l = lower_by n outer (node 17) nests in
    let w = in_program n outer (node 17) nests in
    let last = label_in outer.0 n nests w (omega (arith, l.0, l.1)) in
    subst (λ i. LeadsToNumber sample (node i) (codes "a" ∷ [])) last (to_int 18 twin (codes "a") 3 (ty.Num (scalar.Int W2 true)) refl refl refl (3, omega arith, refl) refl)

label-fields : All (IsField sample (node 17) label) label.fields
label-fields = All-from_recursion (IsField sample (node 17) label) label.fields (a_field 17 label (field (codes "n") (ty.Num (scalar.Int W8 false))) refl (0, omega arith, refl) refl (ap field_type_at (ty.outs-Num (scalar.Int W8 false))) (names (λ union u e. IsFieldDesc sample (node 17) union e) (ty.Num (scalar.Int W8 false)) (ty.Num (scalar.Int W8 false)) (flat-num (scalar.Int W8 false)).inner tt tt tt) tt, (a_field 17 label (field (codes "t") (ty.Str (Some own_n))) refl (1, omega arith, refl) refl (ap field_type_at (ty.outs-Str (Some own_n))) (names (λ union u e. IsFieldDesc sample (node 17) union e) (ty.Str (Some own_n)) (ty.Str (Some own_n)) (flat-str (Some own_n)).inner tt tt tt) (an_option 17 Here (codes "n" ∷ []) (one_name (codes "n") refl) (to_int 17 label (codes "n") 0 (ty.Num (scalar.Int W8 false)) refl refl refl (0, omega arith, refl) refl)), (a_field 17 label (field (codes "a") (ty.Num (scalar.Int W2 true))) refl (2, omega arith, refl) refl (ap field_type_at (ty.outs-Num (scalar.Int W2 true))) (names (λ union u e. IsFieldDesc sample (node 17) union e) (ty.Num (scalar.Int W2 true)) (ty.Num (scalar.Int W2 true)) (flat-num (scalar.Int W2 true)).inner tt tt tt) tt, (a_field 17 label (field (codes "z") (ty.Str (Some outermost_a))) refl (3, omega arith, refl) refl (ap field_type_at (ty.outs-Str (Some outermost_a))) (names (λ union u e. IsFieldDesc sample (node 17) union e) (ty.Str (Some outermost_a)) (ty.Str (Some outermost_a)) (flat-str (Some outermost_a)).inner tt tt tt) (an_option 17 Outermost (codes "a" ∷ []) (one_name (codes "a") refl) label_outermost), tt))))

label-keeps : IsStructure sample (node 17) label
label-keeps = record {
  name = refl;
  some_fields = omega arith;
  few_fields = omega arith;
  distinct = differ (λ f g. bytes_eq f.name g.name) (λ f g. f.name ≢ g.name) names_differ label.fields refl;
  fields = label-fields;
  sort = record { no_desc = refl; active = All-from_recursion (λ f. f.active ≡ Always) label.fields (refl, (refl, (refl, (refl, tt)))); last_tail = refl };
  chains = All-from_recursion (λ c. LeadsToOwnPointer sample (node 17) c.path) [] tt;
  kinds = λ i j d lt within. absurd (omega (arith, within));
}

twin-fields : All (IsField sample (node 18) twin) twin.fields
twin-fields =
    All-from_recursion (IsField sample (node 18) twin) twin.fields (
      a_field 18 twin (field (codes "b") (ty.Node (node 1) None)) refl (0, omega arith, refl) refl (ap field_type_at (ty.outs-Node (node 1) None)) (names (λ union u e. IsFieldDesc sample (node 18) union e) (ty.Node (node 1) None) (ty.Node (node 1) None) (flat-node (node 1) None).inner tt tt (base, refl, refl)) tt,
      (
        a_field 18 twin (field (codes "c") (ty.Node (node 1) None)) refl (1, omega arith, refl) refl (ap field_type_at (ty.outs-Node (node 1) None)) (names (λ union u e. IsFieldDesc sample (node 18) union e) (ty.Node (node 1) None) (ty.Node (node 1) None) (flat-node (node 1) None).inner tt tt (base, refl, refl)) tt,
        (
          a_field 18 twin (field (codes "t") (ty.Str (Some own_kind))) refl (2, omega arith, refl) refl (ap field_type_at (ty.outs-Str (Some own_kind))) (names (λ union u e. IsFieldDesc sample (node 18) union e) (ty.Str (Some own_kind)) (ty.Str (Some own_kind)) (flat-str (Some own_kind)).inner tt tt tt) (an_option 18 Here (codes "b" ∷ codes "kind" ∷ []) (two_names (codes "b") (codes "kind") refl refl) (to_kind_of 18 twin refl refl (0, omega arith, refl))),
          (
            a_field 18 twin (field (codes "a") (ty.Num (scalar.Int W2 true))) refl (3, omega arith, refl) refl (ap field_type_at (ty.outs-Num (scalar.Int W2 true))) (names (λ union u e. IsFieldDesc sample (node 18) union e) (ty.Num (scalar.Int W2 true)) (ty.Num (scalar.Int W2 true)) (flat-num (scalar.Int W2 true)).inner tt tt tt) tt,
            (a_field 18 twin (field (codes "each") (ty.Arr 2 (held 17))) refl (4, omega arith, refl) refl labels-type (names (λ union u e. IsFieldDesc sample (node 18) union e) (ty.Arr 2 (held 17)) (held 17) (inner-arr 2 (held 17) ∙ (flat-node (node 17) None).inner) tt tt (label, refl, refl)) tt, tt),
          ),
        ),
      ),
    )

twin-keeps : IsStructure sample (node 18) twin
twin-keeps = record {
  name = refl;
  some_fields = omega arith;
  few_fields = omega arith;
  distinct = differ (λ f g. bytes_eq f.name g.name) (λ f g. f.name ≢ g.name) names_differ twin.fields refl;
  fields = twin-fields;
  sort = record { no_desc = refl; active = All-from_recursion (λ f. f.active ≡ Always) twin.fields (refl, (refl, (refl, (refl, (refl, tt))))); last_tail = refl };
  chains = All-from_recursion (λ c. LeadsToOwnPointer sample (node 18) c.path) [] tt;
  kinds = λ i j d lt within. absurd (omega (arith, within));
}

lone-fields : All (IsField sample (node 19) lone) lone.fields
lone-fields =
    All-from_recursion (IsField sample (node 19) lone) lone.fields
    (a_field 19 lone (member (codes "w") (ty.Node (node 2) None) 1) refl (0, omega arith, refl) refl (ap field_type_at (ty.outs-Node (node 2) None)) (names (λ union u e. IsFieldDesc sample (node 19) union e) (ty.Node (node 2) None) (ty.Node (node 2) None) (flat-node (node 2) None).inner tt tt (wide, refl, refl)) tt, tt)

lone-keeps : IsStructure sample (node 19) lone
lone-keeps = record {
  name = refl;
  some_fields = omega arith;
  few_fields = omega arith;
  distinct = differ (λ f g. bytes_eq f.name g.name) (λ f g. f.name ≢ g.name) names_differ lone.fields refl;
  fields = lone-fields;
  sort = record {
    desc = an_option 19 Here (codes "w" ∷ codes "b" ∷ codes "kind" ∷ []) (three_names (codes "w") (codes "b") (codes "kind") refl refl refl) to_lone_kind;
    members = record {
      each = All-from_recursion IsMember lone.fields ((λ e. absurd (cc), λ e. absurd (cc)), tt);
      apart = AllPairs-cons (λ f g. AreApart f.active g.active) _ [] (All-from_recursion _ [] tt) (λ i j d lt within. absurd (omega (arith, within)));
    };
    tails = refl;
  };
  chains = All-from_recursion (λ c. LeadsToOwnPointer sample (node 19) c.path) [] tt;
  kinds = λ i j d lt within. absurd (omega (arith, within));
}

pub all_keep : AllFrom (λ i s. IsStructure sample (node i) s) 0 structures
all_keep = (
  item-keeps,
  (
    base-keeps,
    (
      wide-keeps,
      (
        form-keeps,
        (
          pay-keeps,
          (
            cell-keeps,
            (
              vec-keeps,
              (
                hold-keeps,
                (
                  duo-keeps,
                  (
                    two-keeps,
                    (
                      vecb-keeps,
                      (any-keeps, (rest-keeps, (big-keeps, (bigv-keeps, (kindv-keeps, (ever-keeps, (label-keeps, (twin-keeps, (lone-keeps, tt))))))))),
                    ),
                  ),
                ),
              ),
            ),
          ),
        ),
      ),
    ),
  ),
)
