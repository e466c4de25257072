-- Where a length stands on a field, the type of the field has it.
use Rattle.std.proofs.Common.{◌≡◌, ◌∙◌, ◌⊎◌, inl, inr, Bool, true, false, not, ◌&&◌, ◌||◌, List, [], ◌∷◌, Option, Some, IfSome, refl, sym, ap, subst}
use Rattle.std.proofs.lemmas.Option.{none-some}
use Rattle.gt_types.specs.declared.expressions.Expr.{Expr}
use Rattle.gt_types.specs.declared.types.Target.TheVariants as target
use Rattle.gt_types.specs.declared.types.Ty.{Ty}
use Rattle.gt_types.specs.declared.types.Ty.TheVariants as ty
use Rattle.gt_types.specs.Shapes.{count_of}
use Rattle.gt_items.specs.declared.items.Stars.{Stars}
use Rattle.gt_items.specs.declared.items.Stars.TheVariants.{Zero, One, Two}
use Rattle.gt_drafts.specs.declared.types.Amount.{Amount}
use Rattle.gt_drafts.specs.declared.types.BaseType.{BaseType}
use Rattle.gt_drafts.specs.declared.types.BaseType.TheVariants as base
use Rattle.gt_drafts.specs.declared.types.DeclaredType.{DeclaredType}
use Rattle.gt_drafts.specs.declared.draft.Draft.{Draft}
use Rattle.gt_drafts.specs.Shapes.{is_nil}
use Rattle.gt_markers.specs.declared.type_options.TypeOptions.{TypeOptions}
use Rattle.gt_markers.specs.Sites.{is_counted, is_last_array, is_single, is_string, points_to_characters, points_to_many}
use Rattle.gt_markers.specs.Sound.{IsBitCount}
use Rattle.gt_markers.specs.Typing.{kind_by, node}
use Rattle.gt_settled.proofs.Shape.{and_first, and_second, not_true}
use Rattle.gt_settled.proofs.Types.{Single, number, structure, atomic, pointer, pointers, string, strings, undefined, Walked, bits, single, array, tail}

many_zero : (b : BaseType) → points_to_many b Zero ≡ false
many_zero (base.Number s true) = refl
many_zero (base.Number s false) = refl
many_zero other = refl

characters_zero : (b : BaseType) → points_to_characters b Zero ≡ false
characters_zero (base.Number s true) = refl
characters_zero (base.Number s false) = refl
characters_zero other = refl

pub or_cases : (a b : Bool) → (a || b) ≡ true → (a ≡ true) ⊎ (b ≡ true)
or_cases true b e = inl refl
or_cases false b e = inr e

module _ (draft : Draft) (o : TypeOptions) (t : DeclaredType) (e : Expr) (scanned : o.atomic ≡ false) where
  many_at : (b : BaseType) (s : Stars) → t.resolved.base ≡ b → t.resolved.stars ≡ s → points_to_many t.resolved.base t.resolved.stars ≡ true → points_to_many b s ≡ true
  many_at b s base_is stars_are many = sym (ap (λ (x : BaseType). points_to_many x t.resolved.stars) base_is ∙ ap (λ (x : Stars). points_to_many b x) stars_are) ∙ many

  characters_at : (b : BaseType) (s : Stars) → t.resolved.base ≡ b → t.resolved.stars ≡ s → points_to_characters t.resolved.base t.resolved.stars ≡ true → points_to_characters b s ≡ true
  characters_at b s base_is stars_are many =
      sym (ap (λ (x : BaseType). points_to_characters x t.resolved.stars) base_is ∙ ap (λ (x : Stars). points_to_characters b x) stars_are) ∙ many

  single_counted : o.length ≡ Some e → points_to_many t.resolved.base t.resolved.stars ≡ true → {type : Ty} → Single draft o t type → count_of type ≡ Some e
  single_counted l many (number {s = s} {is_char = c} b z) = let never : false ≡ true = sym (many_zero (base.Number s c)) ∙ many_at (base.Number s c) Zero b z many in absurd (cc)
  single_counted l many (structure {id = id} b z) = let never : false ≡ true = many_at (base.Structure id) Zero b z many in absurd (cc)
  single_counted l many (atomic a z) = let never : true ≡ false = sym a ∙ scanned in absurd (cc)
  single_counted l many (pointer {id = id} b one) = ap (λ (c : Option Expr). count_of (ty.Ptr (Some (target.Node (node id))) (kind_by c) o.reorder)) l
  single_counted l many (pointers b two has) = sym has ∙ l
  single_counted l many (string {s = s} b one) = let never : false ≡ true = many_at (base.Number s true) One b one many in absurd (cc)
  single_counted l many (strings b two has) = sym has ∙ l
  single_counted l many (undefined {keyword = keyword} {tag = tag} b one m) = let never : false ≡ true = many_at (base.Undefined keyword tag) One b one many in absurd (cc)

  single_string : o.string_length ≡ Some e → points_to_characters t.resolved.base t.resolved.stars ≡ true → {type : Ty} → Single draft o t type → count_of type ≡ Some e
  single_string l one (number {s = s} {is_char = c} b z) = let never : false ≡ true = sym (characters_zero (base.Number s c)) ∙ characters_at (base.Number s c) Zero b z one in absurd (cc)
  single_string l one (structure {id = id} b z) = let never : false ≡ true = characters_at (base.Structure id) Zero b z one in absurd (cc)
  single_string l one (atomic a z) = let never : true ≡ false = sym a ∙ scanned in absurd (cc)
  single_string l one (pointer {id = id} b star) = let never : false ≡ true = characters_at (base.Structure id) One b star one in absurd (cc)
  single_string l one (pointers {id = id} b two has) = let never : false ≡ true = characters_at (base.Structure id) Two b two one in absurd (cc)
  single_string l one (string b star) = ap (λ (c : Option Expr). count_of (ty.Str c)) l
  single_string l one (strings {s = s} b two has) = let never : false ≡ true = characters_at (base.Number s true) Two b two one in absurd (cc)
  single_string l one (undefined {keyword = keyword} {tag = tag} b star m) = let never : false ≡ true = characters_at (base.Undefined keyword tag) One b star one in absurd (cc)

  bounded : (in_union last : Bool) → is_last_array in_union last t ≡ true → ¬ (t.bounds ≡ [])
  bounded in_union last at_end none =
      let some = and_second (not in_union && last) (not (is_nil t.bounds)) (and_first (not in_union && last && not (is_nil t.bounds)) (not t.is_function) at_end) in
      let never : false ≡ true = sym (not_true (is_nil t.bounds) some) ∙ ap is_nil none in cc

  module _ (bits_good : IfSome t.bits (IsBitCount t)) where
    bit_field : (count : Amount) → t.bits ≡ Some count → (t.bounds ≡ []) × (t.resolved.stars ≡ Zero)
    bit_field count has = let good : IsBitCount t count = subst (λ (b : Option Amount). IfSome b (IsBitCount t)) has bits_good in (good.3, good.4)

    -- a `length` that may stand on a field is in its type
    pub walked_counted : (in_union last : Bool) → (is_last_array in_union last t || is_counted t) ≡ true → o.length ≡ Some e → {type : Ty} → Walked draft o t type → count_of type ≡ Some e
    walked_counted in_union last stands l (bits {count = count} has some most) =
        let plain = bit_field count has in
        elim (or_cases (is_last_array in_union last t) (is_counted t) stands) [
          | inl at_end ↦ absurd (bounded in_union last at_end plain.0)
          | inr many ↦
              let some_many = many_at t.resolved.base Zero refl plain.1 (and_second (is_single t) (points_to_many t.resolved.base t.resolved.stars) many) in
              let never : false ≡ true = sym (many_zero t.resolved.base) ∙ some_many in absurd (cc)
        ]
    walked_counted in_union last stands l (single f none is) =
        elim (or_cases (is_last_array in_union last t) (is_counted t) stands) [
          | inl at_end ↦ absurd (bounded in_union last at_end none)
          | inr many ↦ single_counted l (and_second (is_single t) (points_to_many t.resolved.base t.resolved.stars) many) is
        ]
    walked_counted in_union last stands l (array f b none is) = absurd (none-some e (sym none ∙ l))
    walked_counted in_union last stands l (tail f b has is) = sym has ∙ l

    never_bounded : is_string t ≡ true → (bound : Amount) (bounds : List Amount) → ¬ (t.bounds ≡ bound ∷ bounds)
    never_bounded is bound bounds some =
        let one = and_first (is_nil t.bounds) (not t.is_function) (and_first (is_single t) (points_to_characters t.resolved.base t.resolved.stars) is) in
        let never : false ≡ true = sym (ap is_nil some) ∙ one in cc

    -- a `string_length` that may stand on a field is in its type
    pub walked_string : is_string t ≡ true → o.string_length ≡ Some e → {type : Ty} → Walked draft o t type → count_of type ≡ Some e
    walked_string stands l (bits {count = count} has some most) =
        let plain = bit_field count has in
        let one = characters_at t.resolved.base Zero refl plain.1 (and_second (is_single t) (points_to_characters t.resolved.base t.resolved.stars) stands) in
        let never : false ≡ true = sym (characters_zero t.resolved.base) ∙ one in absurd (cc)
    walked_string stands l (single f none is) = single_string l (and_second (is_single t) (points_to_characters t.resolved.base t.resolved.stars) stands) is
    walked_string stands l (array {bound = bound} {bounds = bounds} f b none is) = absurd (never_bounded stands bound bounds b)
    walked_string stands l (tail {bound = bound} {bounds = bounds} f b has is) = absurd (never_bounded stands bound bounds b)
