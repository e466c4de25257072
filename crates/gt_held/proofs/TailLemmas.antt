-- The tail types, as they are found one after another.
use Rattle.std.proofs.Common.{◌≡◌, ◌<◌, ◌≤◌, ℕ, suc, ◌+◌, ◌-◌, Bool, true, false, IsTrue, List, [], ◌∷◌, ◌++◌, length, get_or, set, length-set, Option, Some, refl, sym, ap, subst, ◌∙◌, arith, inl, inr}
use Rattle.std.specs.Prelude.{slice_get, is_some, Any}
use Rattle.std.specs.Bool.{Decides}
use Rattle.std.proofs.lemmas.Bool.{cases_lt, cases_eq}
use Rattle.std.proofs.lemmas.Option.{slice_get-get_or, slice_get_within}
use Rattle.gt_types.specs.declared.types.TypeId.{TypeId}
use Rattle.gt_types.specs.declared.program.Field.{Field}
use Rattle.gt_types.specs.declared.program.Structure.{Structure}
use Rattle.gt_types.specs.declared.program.Program.{Program}
use Rattle.gt_types.specs.Contains.{HasStructure}
use Rattle.gt_types.specs.Tails.{IsTailType, elements_of, tail_of}
use Rattle.gt_layout.proofs.Laying.{get-set_same, get-set_other}
use Rattle.gt_tree.proofs.PathBits.{some-same}
use Rattle.gt_held.specs.Tails.{AreKnownTails, IsTailMember, IsTailAt}
use Rattle.gt_held.proofs.TypeLemmas.{get-first, get-pushed}

-- ---- the last field

pub last-elements : (fs : List Field) (f : Field) → 1 ≤ length fs → f ≡ get_or fs (length fs - 1) f → is_some (elements_of f.ty) ≡ is_some (tail_of fs)
last-elements [] f some is = absurd (omega (arith, some))
last-elements (g ∷ []) f some is = ap (λ (h : Field). is_some (elements_of h.ty)) is
last-elements (g ∷ h ∷ hs) f some is =
    let next : length (g ∷ h ∷ hs) - 1 ≡ suc (length (h ∷ hs) - 1) = omega arith in
    last-elements (h ∷ hs) f (omega arith) (subst (λ (n : ℕ). f ≡ get_or (g ∷ h ∷ hs) n f) next is)

-- ---- one structure

module _ {program : Program} {node : TypeId} {s : Structure} (has : HasStructure program node s) where
  struct-tail : s.is_union ≡ false → IsTailType program node → IsTrue (is_some (tail_of s.fields))
  struct-tail struct (IsTailType.ends {s = other} there kind tail) =
      let same : s ≡ other = some-same (slice_get program.structures node.0) s other has there in
      subst (λ (x : Structure). IsTrue (is_some (tail_of x.fields))) (sym same) tail
  struct-tail struct (IsTailType.has_member {s = other} there kind contains is part) =
      let same : s ≡ other = some-same (slice_get program.structures node.0) s other has there in
      absurd (let both : false ≡ true = sym struct ∙ ap (λ (x : Structure). x.is_union) same ∙ kind in cc)

  union-tail : s.is_union ≡ true → IsTailType program node → Any (IsTailMember program) s.fields
  union-tail union (IsTailType.ends {s = other} there kind tail) =
      let same : s ≡ other = some-same (slice_get program.structures node.0) s other has there in
      absurd (let both : true ≡ false = sym union ∙ ap (λ (x : Structure). x.is_union) same ∙ kind in cc)
  union-tail union (IsTailType.has_member {member} {s = other} {f} {desc} there kind contains is part) =
      let same : s ≡ other = some-same (slice_get program.structures node.0) s other has there in
      subst (λ (x : Structure). Any (IsTailMember program) x.fields) (sym same) (contains.0, f, contains.1, contains.2, (member, desc, is, part))

  pub struct-decides : (tail : Bool) → s.is_union ≡ false → tail ≡ is_some (tail_of s.fields) → Decides tail (IsTailType program node)
  struct-decides tail struct is = (λ yes. IsTailType.ends has struct (sym is ∙ yes), λ of. is ∙ struct-tail struct of)

  pub union-decides : (tail : Bool) → s.is_union ≡ true → Decides tail (Any (IsTailMember program) s.fields) → Decides tail (IsTailType program node)
  union-decides tail union decides = (
    λ holds. let any = decides.0 holds in IsTailType.has_member has union (any.0, any.2, any.3) any.4.2 any.4.3,
    λ of. decides.1 (union-tail union of),
  )

-- ---- what is known

same-inside : (a b : Bool) → Some (Some a) ≡ Some (Some b) → a ≡ b
same-inside a b e = cc

pub one-known : (program : Program) (known : List (Option Bool)) (place : ℕ) (tail : Bool) → AreKnownTails program known → place < length program.structures → Decides tail (IsTailAt program place)
    → AreKnownTails program (set known place (Some tail))
one-known program known place tail are within decides = record {
  all = length-set known place (Some tail) ∙ are.all;
  each = λ other found at. elim (cases_eq other place) [
    | inl same ↦
        let here : slice_get (set known place (Some tail)) place ≡ Some (Some found) = subst (λ k. slice_get (set known place (Some tail)) k ≡ Some (Some found)) same at in
        let is : tail ≡ found = same-inside tail found (sym (get-set_same known place (Some tail) (omega (arith, within, are.all))) ∙ here) in
        subst (λ k. Decides found (IsTailAt program k)) (sym same) (subst (λ b. Decides b (IsTailAt program place)) is decides)
    | inr apart ↦ are.each other found (sym (get-set_other known place other (Some tail) apart) ∙ at)
  ];
}

-- ---- the list

pub tails-more : (program : Program) (n : ℕ) (tails : List Bool) (tail : Bool) → length tails ≡ n → ((place : ℕ) (b : Bool) → slice_get tails place ≡ Some b → Decides b (IsTailAt program place)) → Decides tail (IsTailAt program n)
    → (place : ℕ) (b : Bool) → slice_get (tails ++ tail ∷ []) place ≡ Some b → Decides b (IsTailAt program place)
tails-more program n tails tail many each decides place b at = elim (cases_lt place (length tails)) [
  | inl less ↦
      let there = slice_get-get_or tails place tail less in
      let same : get_or tails place tail ≡ b = some-same (slice_get (tails ++ tail ∷ []) place) (get_or tails place tail) b (get-first tails (tail ∷ []) place (get_or tails place tail) there) at in
      each place b (there ∙ ap Some same)
  | inr past ↦
      let within = slice_get_within (tails ++ tail ∷ []) place b at in
      let here : n ≡ place = (let long = length-more tails tail in omega (arith, within, past, many, long)) in
      let same : tail ≡ b = some-same (slice_get (tails ++ tail ∷ []) place) tail b (get-pushed tails tail place (many ∙ here)) at in
      subst (λ c. Decides c (IsTailAt program place)) same (subst (λ k. Decides tail (IsTailAt program k)) here decides)
]
  where
    length-more : (xs : List Bool) (x : Bool) → length (xs ++ x ∷ []) ≡ length xs + 1
    length-more [] x = refl
    length-more (y ∷ xs) x = let more = length-more xs x in omega (arith, more)
