-- Fields that are each the first of its name.
use Rattle.std.proofs.Common.{◌≡◌, ◌≢◌, inl, inr, ℕ, ◌+◌, ◌<◌, ◌≤◌, List, length, get_or, take, Some, slice_get, sym, ap, subst, ◌∙◌, arith}
use Rattle.std.specs.Prelude.{All, AllPairs}
use Rattle.std.proofs.lemmas.List.{take_all}
use Rattle.std.proofs.lemmas.List.Elements.{All-more}
use Rattle.std.proofs.lemmas.Option.{slice_get-get_or}
use Rattle.gt_types.specs.declared.program.Field.{Field}
use Rattle.gt_types.specs.declared.program.Structure.{Structure}
use Rattle.gt_paths.proofs.Ascents.{last_or_before}
use Rattle.gt_fields.specs.Places.{bind, place_in}

-- the fields before this place are the first of their names
abbrev pub FirstsBefore : List Structure → ℕ → List Field → ℕ → Type 0
FirstsBefore structures id fields i = (k : ℕ) (f : Field) → k < i → slice_get fields k ≡ Some f → bind (slice_get structures id) (place_in f.name) ≡ Some k

same_field : (f g : Field) → Some f ≡ Some g → f ≡ g
same_field f g e = cc

same_place : (i j : ℕ) → Some i ≡ Some j → i ≡ j
same_place i j e = cc

pub none_first : (structures : List Structure) (id : ℕ) (fields : List Field) → FirstsBefore structures id fields 0
none_first structures id fields k f below = absurd (omega (arith, below))

pub first_more : (structures : List Structure) (id : ℕ) (fields : List Field) (i : ℕ) (f : Field) → i < length fields → f ≡ get_or fields i f
    → bind (slice_get structures id) (place_in f.name) ≡ Some i → FirstsBefore structures id fields i → FirstsBefore structures id fields (i + 1)
first_more structures id fields i f within is first before k g below at = elim (last_or_before i k below) [
  | inl less ↦ before k g less at
  | inr last ↦
      let here = subst (λ (j : ℕ). slice_get fields j ≡ Some g) last at in
      let same = same_field f g (sym (slice_get-get_or fields i f within ∙ ap (λ (h : Field). Some h) (sym is)) ∙ here) in
      subst (λ (j : ℕ). bind (slice_get structures id) (place_in g.name) ≡ Some j) (sym last) (subst (λ (h : Field). bind (slice_get structures id) (place_in h.name) ≡ Some i) same first)
]

pub all_first : (structures : List Structure) (id : ℕ) (fields : List Field) (i : ℕ) → length fields ≤ i → FirstsBefore structures id fields i → AllPairs (λ (f g : Field). f.name ≢ g.name) fields
all_first structures id fields i past before j k d less within same =
    let below : j < length fields = omega (arith, less, within) in
    let first = before j (get_or fields j d) (omega (arith, below, past)) (slice_get-get_or fields j d below) in
    let second = before k (get_or fields k d) (omega (arith, within, past)) (slice_get-get_or fields k d within) in
    let one = same_place j k (sym first ∙ ap (λ (name : List ℕ). bind (slice_get structures id) (place_in name)) same ∙ second) in
    absurd (omega (arith, less, one))

-- ---- all structures

abbrev pub HasDistinct : Structure → Type 0
HasDistinct s = AllPairs (λ f g. f.name ≢ g.name) s.fields

pub distinct_more : (items : List Structure) (i : ℕ) (s : Structure) (fields : List Field) → i < length items → s ≡ get_or items i s → fields ≡ s.fields
    → AllPairs (λ (f g : Field). f.name ≢ g.name) fields → All HasDistinct (take i items) → All HasDistinct (take (i + 1) items)
distinct_more items i s fields within is same distinct before =
    All-more HasDistinct items i s within before
    (subst HasDistinct is (subst (λ (xs : List Field). AllPairs (λ (f g : Field). f.name ≢ g.name) xs) same distinct))

pub distinct_all : (items structures : List Structure) (i : ℕ) → length items ≤ i → items ≡ structures → All HasDistinct (take i items) → All HasDistinct structures
distinct_all items structures i past same before = subst (All HasDistinct) (take_all i items past ∙ same) before
