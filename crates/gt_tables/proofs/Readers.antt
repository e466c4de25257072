-- Which structures read the outermost one.
use Rattle.std.proofs.Common.{◌≡◌, ◌∙◌, ℕ, ◌+◌, ◌<◌, ◌≤◌, Bool, true, false, ◌||◌, Option, Some, None, List, [], ◌∷◌, ◌++◌, length, get_or, set, take, refl, ap, sym, subst, ◌⊎◌, inl, inr, arith}
use Rattle.std.specs.Prelude.{Any, slice_set}
use Rattle.std.specs.Bool.{Decides}
use Rattle.std.proofs.lemmas.Bool.{cases_eq}
use Rattle.std.proofs.lemmas.List.{take_more, take_all, length-set, get_or-set_same, get_or-set_other}
use Rattle.std.proofs.lemmas.Option.{slice_get_within, slice_get-get_or, get_or_from_slice_get}
use Rattle.gt_types.specs.declared.types.TypeId.{TypeId}
use Rattle.gt_types.specs.declared.program.Field.{Field}
use Rattle.gt_types.specs.declared.program.Structure.{Structure}
use Rattle.gt_types.specs.declared.program.Program.{Program}
use Rattle.gt_types.specs.Contains.{HasStructure}
use Rattle.gt_tables.specs.Sharing.{ReadsOutermost, NamesOutermost, expressions_in}
use Rattle.gt_tables.specs.Naming.{HoldsReader, TellReaders, IsSoFar}
use Rattle.gt_tables.proofs.NamesIn.{any-left, any-right, any-cases, any-one, one-of}

-- ---- one more field

told-both : {A B : Type 0} (r s : Bool) → Decides r A → Decides s B → Decides (r || s) (A ⊎ B)
told-both true s one two = (λ e. inl (one.0 refl), λ h. refl)
told-both false s one two = (λ e. inr (two.0 e), λ h. elim h [ inl a ↦ (let e = one.1 a in absurd (cc)) | inr b ↦ two.1 b ])

told-like : {A B : Type 0} (r : Bool) → Decides r A → (A → B) → (B → A) → Decides r B
told-like r told there back = (λ e. there (told.0 e), λ b. told.1 (back b))

module _ {X : Type 0} (P : X → Type 0) (A : Type 0) where
  more-there : (front back : List X) (x : X) → back ≡ front ++ x ∷ [] → (A ⊎ Any P front) ⊎ P x → A ⊎ Any P back
  more-there front back x is (inl (inl a)) = inl a
  more-there front back x is (inl (inr any)) = inr (subst (Any P) (sym is) (any-left P front (x ∷ []) any))
  more-there front back x is (inr p) = inr (subst (Any P) (sym is) (any-right P front (x ∷ []) (any-one P x p)))

  more-back : (front back : List X) (x : X) → back ≡ front ++ x ∷ [] → A ⊎ Any P back → (A ⊎ Any P front) ⊎ P x
  more-back front back x is (inl a) = inl (inl a)
  more-back front back x is (inr any) = elim (any-cases P front (x ∷ []) (subst (Any P) is any)) [ inl before ↦ inl (inr before) | inr now ↦ inr (one-of P x now) ]

  told-more : (xs : List X) (n : ℕ) (x : X) (r s : Bool) → n < length xs → x ≡ get_or xs n x → Decides r (A ⊎ Any P (take n xs)) → Decides s (P x) → Decides (r || s) (A ⊎ Any P (take (n + 1) xs))
  told-more xs n x r s within at one two =
      let is : take (n + 1) xs ≡ take n xs ++ x ∷ [] = take_more xs n x within ∙ ap (λ y. take n xs ++ y ∷ []) (sym at) in
      told-like (r || s) (told-both r s one two) (more-there (take n xs) (take (n + 1) xs) x is) (more-back (take n xs) (take (n + 1) xs) x is)

pub more-read : (program : Program) (first : Bool) (fields : List Field) (n : ℕ) (f : Field) (flag found : Bool) (known more : List (Option Bool)) (many : ℕ) → IsSoFar program first fields n flag known many → n < length fields
    → f ≡ get_or fields n f → length more ≡ length known → TellReaders program more → Decides found (HoldsReader program f.ty) → IsSoFar program first fields (n + 1) (flag || found) more many
more-read program first fields n f flag found known more many so within at all told here = record {
  all = all ∙ so.all;
  told = told;
  found = told-more (λ f. HoldsReader program f.ty) (first ≡ true) fields n f flag found within at so.found here;
}

-- ---- a structure is told of

module _ (program : Program) (place : ℕ) (s : Structure) (has : HasStructure program (record { 0 = place }) s) where
  abbrev node : TypeId
  node = record { 0 = place }

  reads-from : Any NamesOutermost (expressions_in s) ⊎ Any (λ f. HoldsReader program f.ty) s.fields → ReadsOutermost program node
  reads-from (inl any) = ReadsOutermost.in_own has any
  reads-from (inr (i, f, h, e, (inner, held, reads))) = ReadsOutermost.in_part (s, f, has, (i, h, e), held) reads

  same-there : (t : Structure) → HasStructure program node t → t ≡ s
  same-there t also = let both : Some t ≡ Some s = sym also ∙ has in cc

  reads-by : (n : TypeId) → n ≡ node → ReadsOutermost program n → Any NamesOutermost (expressions_in s) ⊎ Any (λ f. HoldsReader program f.ty) s.fields
  reads-by n is (ReadsOutermost.in_own {node = m} {s = t} also any) =
      let same = same-there t (subst (λ k. HasStructure program k t) is also) in inl (subst (λ u. Any NamesOutermost (expressions_in u)) same any)
  reads-by n is (ReadsOutermost.in_part {outer} {inner} (t, f, also, c, held) reads) =
      let same = same-there t (subst (λ k. HasStructure program k t) is also) in inr (subst (λ u. Any (λ f. HoldsReader program f.ty) u.fields) same (c.0, f, c.1, c.2, (inner, held, reads)))

  pub reads-told : (first flag : Bool) (fields : List Field) (n : ℕ) (known : List (Option Bool)) (many : ℕ) → Decides first (Any NamesOutermost (expressions_in s)) → fields ≡ s.fields → length fields ≤ n
      → IsSoFar program first fields n flag known many → Decides flag (ReadsOutermost program node)
  reads-told first flag fields n known many own is all so =
      let whole : take n fields ≡ s.fields = take_all n fields all ∙ is in
      told-like flag (subst (λ fs. Decides flag ((first ≡ true) ⊎ Any (λ f. HoldsReader program f.ty) fs)) whole so.found)
      (λ h. reads-from (elim h [ inl e ↦ inl (own.0 e) | inr any ↦ inr any ]))
      (λ reads. elim (reads-by node refl reads) [ inl any ↦ inl (own.1 any) | inr any ↦ inr any ])

-- what is found of a structure is kept
pub told-kept : (program : Program) (known : List (Option Bool)) (place : ℕ) (found : Bool) → TellReaders program known → place < length known → Decides found (ReadsOutermost program (record { 0 = place }))
    → TellReaders program (slice_set known place (Some found))
told-kept program known place found told within here node flag is =
    elim (cases_eq node.0 place) [
      | inl same ↦
          let at : get_or (set known place (Some found)) node.0 None ≡ Some found = ap (λ i. get_or (set known place (Some found)) i None) same ∙ get_or-set_same known place (Some found) None within in
          let both : Some flag ≡ Some found = (let e : Some (Some flag) ≡ Some (Some found) = ap Some (sym (get_or_from_slice_get (set known place (Some found)) node.0 (Some flag) None is) ∙ at) in cc) in
          let flags : found ≡ flag = cc in
          let there : record { 0 = place } ≡ node = ap (λ (i : ℕ). let n : TypeId = record { 0 = i } in n) (sym same) in
          subst (λ n. Decides flag (ReadsOutermost program n)) there (subst (λ b. Decides b (ReadsOutermost program (record { 0 = place }))) flags here)
      | inr apart ↦
          let at : get_or known node.0 None ≡ Some flag = sym (get_or-set_other known place node.0 (Some found) None apart) ∙ get_or_from_slice_get (set known place (Some found)) node.0 (Some flag) None is in
          let long : node.0 < length known = (let l = length-set known place (Some found) in let w = slice_get_within (set known place (Some found)) node.0 (Some flag) is in omega arith) in
          told node flag (slice_get-get_or known node.0 None long ∙ ap Some at)
    ]
