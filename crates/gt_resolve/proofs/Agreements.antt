-- Definitions that agree with one agree with one another.
use Rattle.std.proofs.Common.{◌≡◌, ◌∙◌, ℕ, ℤ, Bool, true, false, List, Some, refl, sym, ap, ap₂, subst}
use Rattle.std.specs.Prelude.{slice_get}
use Rattle.std.specs.Ordering.{int_eq}
use Rattle.std.proofs.lemmas.Bool.{and_parts, eqb-true, true≢false}
use Rattle.std.specs.Str.{bytes_eq}
use Rattle.std.proofs.lemmas.Bool.Decides.{Decides-int_eq}
use Rattle.std.proofs.lemmas.Slice.Eq.{bytes_eq-Decides}
use Rattle.gt_types.specs.declared.types.Scalar.{Scalar}
use Rattle.gt_types.specs.declared.types.Scalar.TheVariants as scalar
use Rattle.gt_types.specs.declared.types.Width.{Width}
use Rattle.gt_types.specs.declared.types.Width.TheVariants.{W1, W2, W4, W8}
use Rattle.gt_items.specs.declared.items.Keyword.{Keyword}
use Rattle.gt_items.specs.declared.items.Keyword.TheVariants as keyword
use Rattle.gt_items.specs.declared.items.Stars.{Stars}
use Rattle.gt_items.specs.declared.items.Stars.TheVariants.{Zero, One, Two, More}
use Rattle.gt_drafts.specs.declared.types.BaseType.{BaseType}
use Rattle.gt_drafts.specs.declared.types.BaseType.TheVariants.{Number, Float, Double, Sizeless, Structure, Undefined, Unknown}
use Rattle.gt_drafts.specs.declared.types.Resolved.{Resolved}
use Rattle.gt_scope.specs.declared.declaration.Declaration.{Declaration}
use Rattle.gt_scope.specs.declared.declaration.What.{What}
use Rattle.gt_scope.specs.declared.declaration.What.TheVariants as what
use Rattle.gt_scope.specs.declared.meaning.TypedefMeaning.{TypedefMeaning}
use Rattle.gt_scope.specs.declared.types.Spelled.{Spelled}
use Rattle.gt_scope.specs.Meanings.{means_after, resolved_type}
use Rattle.gt_scope.specs.Repeats.{type_of}
use Rattle.gt_resolve.specs.Faults.{agree}
use Rattle.gt_drafts.specs.Sameness.{same_base, same_bool, same_keyword, same_scalar, same_stars, same_type, same_width}

never : {A : Type 0} → false ≡ true → A
never h = absurd (true≢false (sym h))

-- ---- tests that hold of equal things alone

pub same_bool_is : (a b : Bool) → same_bool a b ≡ true → a ≡ b
same_bool_is true true h = refl
same_bool_is false false h = refl
same_bool_is true false h = never h
same_bool_is false true h = never h

same_width_is : (a b : Width) → same_width a b ≡ true → a ≡ b
same_width_is W1 W1 h = refl
same_width_is W2 W2 h = refl
same_width_is W4 W4 h = refl
same_width_is W8 W8 h = refl
same_width_is a b h = never h

same_scalar_is : (a b : Scalar) → same_scalar a b ≡ true → a ≡ b
same_scalar_is scalar.Bool scalar.Bool h = refl
same_scalar_is (scalar.Int width signed) (scalar.Int other sign) h =
    let p = and_parts (same_width width other) (same_bool signed sign) h in
    ap (λ (w : Width). scalar.Int w signed) (same_width_is width other p.0) ∙ ap (λ (s : Bool). scalar.Int other s) (same_bool_is signed sign p.1)
same_scalar_is a b h = never h

same_keyword_is : (a b : Keyword) → same_keyword a b ≡ true → a ≡ b
same_keyword_is keyword.Struct keyword.Struct h = refl
same_keyword_is keyword.Union keyword.Union h = refl
same_keyword_is keyword.Enum keyword.Enum h = refl
same_keyword_is a b h = never h

same_stars_is : (a b : Stars) → same_stars a b ≡ true → a ≡ b
same_stars_is Zero Zero h = refl
same_stars_is One One h = refl
same_stars_is Two Two h = refl
same_stars_is More More h = refl
same_stars_is a b h = never h

same_base_is : (a b : BaseType) → same_base a b ≡ true → a ≡ b
same_base_is (Number scalar is_char) (Number other char) h =
    let p = and_parts (same_scalar scalar other) (same_bool is_char char) h in
    ap (λ (s : Scalar). Number s is_char) (same_scalar_is scalar other p.0) ∙ ap (λ (b : Bool). Number other b) (same_bool_is is_char char p.1)
same_base_is Float Float h = refl
same_base_is Double Double h = refl
same_base_is Sizeless Sizeless h = refl
same_base_is (Structure id) (Structure other) h = ap (λ (n : ℕ). Structure n) (eqb-true id other h)
same_base_is (Undefined keyword tag) (Undefined other name) h =
    let p = and_parts (same_keyword keyword other) (bytes_eq tag name) h in
    ap (λ (k : Keyword). Undefined k tag) (same_keyword_is keyword other p.0) ∙ ap (λ (t : List ℕ). Undefined other t) ((bytes_eq-Decides tag name).0 p.1)
same_base_is Unknown Unknown h = refl
same_base_is a b h = never h

abbrev resolved : BaseType → Stars → Resolved
resolved base stars = record { base = base; stars = stars }

same_type_is : (a b : Resolved) → same_type a b ≡ true → a ≡ b
same_type_is a b h =
    let p = and_parts (same_base a.base b.base) (same_stars a.stars b.stars) h in
    ap (λ (x : BaseType). resolved x a.stars) (same_base_is a.base b.base p.0) ∙ ap (λ (x : Stars). resolved b.base x) (same_stars_is a.stars b.stars p.1)

int_is : (a b : ℤ) → int_eq a b ≡ true → a ≡ b
int_is a b h = (Decides-int_eq a b).0 h

-- ---- definitions

-- two things that are the same as a third
two : {A : Type 0} (test : A → A → Bool) → ((a b : A) → test a b ≡ true → a ≡ b) → (a b c : A) → test a b ≡ true → test a c ≡ true → test b c ≡ true
two test is a b c h k = subst (λ x. test x c ≡ true) (is a b h) k

through_one : {A : Type 0} (test : A → A → Bool) → ((a b : A) → test a b ≡ true → a ≡ b) → (a b c : A) → test a c ≡ true → test b c ≡ true → test a b ≡ true
through_one test is a b c h k = subst (λ x. test a x ≡ true) (sym (is b c k)) h

module _ (ds : List Declaration) (types : List TypedefMeaning) where
  -- a definition agrees with two, and they with one another
  pub agree_two : (a b c : What) → agree ds types a b ≡ true → agree ds types a c ≡ true → agree ds types b c ≡ true
  unfolding agree
  agree_two (what.Enum a) (what.Enum b) (what.Enum c) h k = two same_bool same_bool_is a b c h k
  agree_two (what.Enum a) (what.Enum b) c h k = never k
  agree_two (what.Constant a) (what.Constant b) (what.Constant c) h k = two int_eq int_is a b c h k
  agree_two (what.Constant a) (what.Constant b) c h k = never k
  agree_two (what.Typedef t s) (what.Typedef u r) (what.Typedef v q) h k =
      two same_type same_type_is (means_after s (resolved_type ds types t Zero)) (means_after r (resolved_type ds types u Zero))
      (means_after q (resolved_type ds types v Zero)) h k
  agree_two (what.Typedef t s) (what.Typedef u r) c h k = never k
  agree_two a b c h k = never h

  -- two definitions agree with a third, and with one another
  pub agree_through : (a b c : What) → agree ds types a c ≡ true → agree ds types b c ≡ true → agree ds types a b ≡ true
  unfolding agree
  agree_through (what.Enum a) (what.Enum b) (what.Enum c) h k = through_one same_bool same_bool_is a b c h k
  agree_through (what.Constant a) (what.Constant b) (what.Constant c) h k = through_one int_eq int_is a b c h k
  agree_through (what.Typedef t s) (what.Typedef u r) (what.Typedef v q) h k =
      through_one same_type same_type_is (means_after s (resolved_type ds types t Zero)) (means_after r (resolved_type ds types u Zero))
      (means_after q (resolved_type ds types v Zero)) h k
  agree_through (what.Enum a) (what.Enum b) c h k = never h
  agree_through (what.Constant a) (what.Constant b) c h k = never h
  agree_through (what.Typedef t s) (what.Typedef u r) c h k = never h
  agree_through (what.Enum a) b (what.Enum c) h k = never k
  agree_through (what.Constant a) b (what.Constant c) h k = never k
  agree_through (what.Typedef t s) b (what.Typedef v q) h k = never k
  agree_through a b c h k = never h

-- typedefs agree where they mean the same
pub typedefs_agree : (ds : List Declaration) (types : List TypedefMeaning) (place first : ℕ) (a b : What) (t u : Spelled) (s r : Stars) (result : Bool)
    → a ≡ what.Typedef t s → b ≡ what.Typedef u r
    → ((d e : Declaration) (t u : Spelled) → slice_get ds place ≡ Some d → type_of d.what ≡ Some t → slice_get ds first ≡ Some e → type_of e.what ≡ Some u
    → result ≡ same_type (means_after s (resolved_type ds types t Zero)) (means_after r (resolved_type ds types u Zero)))
    → (d e : Declaration) → slice_get ds place ≡ Some d → d.what ≡ a → slice_get ds first ≡ Some e → e.what ≡ b → result ≡ agree ds types a b
unfolding agree
typedefs_agree ds types place first a b t u s r result p q mean d e found is there other =
    mean d e t u found (ap type_of (is ∙ p)) there (ap type_of (other ∙ q)) ∙ sym (ap₂ (agree ds types) p q)
