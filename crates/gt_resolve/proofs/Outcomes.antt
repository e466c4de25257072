-- What names and types come to is one.
use Rattle.std.proofs.Common.{◌≡◌, ◌∙◌, ℕ, zero, suc, ◌+◌, ◌<◌, Bool, true, false, List, [], ◌∷◌, length, map, Option, Some, None, refl, sym, ap, ap₂, subst, arith, inl, inr}
use Rattle.std.specs.Prelude.{All, Contains, IsTrue, ◌↔◌, slice_get, option_map, is_some, if◌then◌else◌}
use Rattle.std.proofs.lemmas.List.Elements.{All-head, All-tail, All-contains}
use Rattle.std.proofs.lemmas.Option.{none-some, same_Some}
use Rattle.gt_types.specs.declared.faults.Fault.{Fault}
use Rattle.gt_items.specs.declared.items.Items.{Items}
use Rattle.gt_items.specs.declared.items.Stars.{Stars}
use Rattle.gt_items.specs.declared.items.Stars.TheVariants.{Zero}
use Rattle.gt_scope.specs.declared.declaration.Declaration.{Declaration}
use Rattle.gt_drafts.specs.declared.draft.Draft.{Draft}
use Rattle.gt_drafts.specs.declared.draft.DraftStructure.{DraftStructure}
use Rattle.gt_scope.specs.declared.meaning.TypedefMeaning.{TypedefMeaning}
use Rattle.gt_drafts.specs.declared.types.Resolved.{Resolved}
use Rattle.gt_scope.specs.declared.types.Spelled.{Spelled}
use Rattle.gt_scope.specs.declared.types.Spelled.TheVariants as spelled
use Rattle.gt_scope.specs.Declarations.{declarations}
use Rattle.gt_resolve.specs.Drafts.{draft_of}
use Rattle.gt_drafts.specs.FirstFaults.{IsFirst, is_no_later}
use Rattle.gt_resolve.specs.Faults.{faults_of}
use Rattle.gt_scope.specs.Meanings.{IsMeaning, follow, follow_type, follow_typedef, means_after, plain_type, typedef_in}
use Rattle.gt_resolve.specs.Resolution.{IsRead, Resolves, HasFirstFault}
use Rattle.gt_drafts.specs.Shapes.{AreShapes}
use Rattle.gt_resolve.proofs.FewLemmas.{not_nil}
use Rattle.gt_resolve.proofs.Firsts.{one_no_later}
use Rattle.gt_shapes.proofs.SearchLemmas.{Contains_none}

-- ---- meanings

-- what one tells, the other tells
abbrev Extends : (List ℕ → Option Resolved) → (List ℕ → Option Resolved) → Type 0
Extends f g = (word : List ℕ) (m : Resolved) → f word ≡ Some m → g word ≡ Some m

mapped : (h : Resolved → Resolved) (o p : Option Resolved) (m : Resolved) → ((x : Resolved) → o ≡ Some x → p ≡ Some x) → option_map h o ≡ Some m → option_map h p ≡ Some m
mapped h None p m k e = absurd (none-some m e)
mapped h (Some x) p m k e = ap (option_map h) (k x refl) ∙ e

chosen : (b : Bool) (o p : Option Resolved) (y m : Resolved) → ((x : Resolved) → o ≡ Some x → p ≡ Some x) → (if b then o else Some y) ≡ Some m → (if b then p else Some y) ≡ Some m
chosen true o p y m k e = k m e
chosen false o p y m k e = e

cons_parts : (a b : List ℕ) (xs bs : List (List ℕ)) → a ∷ xs ≡ b ∷ bs → (a ≡ b) × (xs ≡ bs)
cons_parts a b xs bs e = (ap head_of e, ap rest_of e)
  where
    head_of : List (List ℕ) → List ℕ
    head_of [] = []
    head_of (w ∷ ws) = w

    rest_of : List (List ℕ) → List (List ℕ)
    rest_of [] = []
    rest_of (w ∷ ws) = ws

module _ (ds : List Declaration) where
  type_extends : (f g : List ℕ → Option Resolved) → Extends f g → (ty : Spelled) (m : Resolved) → follow_type ds f ty ≡ Some m → follow_type ds g ty ≡ Some m
  type_extends f g x (spelled.Named word) m e =
      chosen (is_some (typedef_in ds word)) (f word) (g word) (record { base = plain_type ds (spelled.Named word); stars = Zero }) m (x word) e
  type_extends f g x ty m e = e

  typedef_extends : (f g : List ℕ → Option Resolved) → Extends f g → (t : Option (Spelled × Stars)) (m : Resolved) → follow_typedef ds f t ≡ Some m → follow_typedef ds g t ≡ Some m
  typedef_extends f g x None m e = e
  typedef_extends f g x (Some t) m e = mapped (means_after t.1) (follow_type ds f t.0) (follow_type ds g t.0) m (type_extends f g x t.0) e

  follow_next : (steps : ℕ) → Extends (follow ds steps) (follow ds (suc steps))
  unfolding follow
  follow_next zero word m e = absurd (none-some m e)
  follow_next (suc steps) word m e = typedef_extends (follow ds steps) (follow ds (suc steps)) (follow_next steps) (typedef_in ds word) m e

  follow_more : (more steps : ℕ) (word : List ℕ) (m : Resolved) → follow ds steps word ≡ Some m → follow ds (more + steps) word ≡ Some m
  follow_more zero steps word m e = ap (λ (n : ℕ). follow ds n word) (let z : 0 + steps ≡ steps = omega arith in z) ∙ e
  follow_more (suc more) steps word m e =
      ap (λ (n : ℕ). follow ds n word) (let z : suc more + steps ≡ suc (more + steps) = omega arith in z)
      ∙ follow_next (more + steps) word m (follow_more more steps word m e)

  one_meaning : (word : List ℕ) (m n : Resolved) → IsMeaning ds word m → IsMeaning ds word n → m ≡ n
  one_meaning word m n (inl (a, e)) (inl (b, k)) =
      same_Some m n
      (sym (follow_more b a word m e) ∙ ap (λ (i : ℕ). follow ds i word) (let z : b + a ≡ a + b = omega arith in z) ∙ follow_more a b word n k)
  one_meaning word m n (inl (a, e)) (inr (none, k)) = absurd (none-some m (sym (none a) ∙ e))
  one_meaning word m n (inr (none, e)) (inl (b, k)) = absurd (none-some n (sym (none b) ∙ k))
  one_meaning word m n (inr (none, e)) (inr (never, k)) = e ∙ sym k

  abbrev type_name : List ℕ → Resolved → TypedefMeaning
  type_name name means = record { name = name; means = means }

  abbrev Means : TypedefMeaning → Type 0
  Means t = IsMeaning ds t.name t.means

  one_type : (t u : TypedefMeaning) → t.name ≡ u.name → Means t → Means u → t ≡ u
  one_type t u e h k =
      ap (λ (w : List ℕ). type_name w t.means) e
      ∙ ap (λ (m : Resolved). type_name u.name m) (one_meaning u.name t.means u.means (subst (λ (w : List ℕ). IsMeaning ds w t.means) e h) k)

  one_types : (ts us : List TypedefMeaning) → map (λ t. t.name) ts ≡ map (λ t. t.name) us → All Means ts → All Means us → ts ≡ us
  one_types [] [] e h k = refl
  one_types [] (u ∷ us) e h k = absurd (not_nil u.name (map (λ t. t.name) us) (sym e))
  one_types (t ∷ ts) [] e h k = absurd (not_nil t.name (map (λ t. t.name) ts) e)
  one_types (t ∷ ts) (u ∷ us) e h k =
      let p = cons_parts t.name u.name (map (λ x. x.name) ts) (map (λ x. x.name) us) e in
      ap₂ (λ (x : TypedefMeaning) (xs : List TypedefMeaning). x ∷ xs) (one_type t u p.0 (All-head Means t ts h) (All-head Means u us k))
      (one_types ts us p.1 (All-tail Means t ts h) (All-tail Means u us k))

-- ---- shapes

one_flag : (a b : Bool) → (a ≡ true) ↔ (b ≡ true) → a ≡ b
one_flag true b h = sym (h.0 refl)
one_flag false true h = h.1 refl
one_flag false false h = refl

first_flag : (a b : Bool) → (Some a ≡ Some true) ↔ (Some b ≡ Some true) → a ≡ b
first_flag a b h =
    one_flag a b
    (λ e. same_Some b true (h.0 (ap (λ (x : Bool). Some x) e)), λ e. same_Some a true (h.1 (ap (λ (x : Bool). Some x) e)))

one_flags : (n : ℕ) (xs bs : List Bool) → length xs ≡ n → length bs ≡ n → ((i : ℕ) → i < n → (slice_get xs i ≡ Some true) ↔ (slice_get bs i ≡ Some true)) → xs ≡ bs
one_flags n [] [] a b h = refl
one_flags n [] (y ∷ bs) a b h = absurd (omega (arith, a, b))
one_flags n (x ∷ xs) [] a b h = absurd (omega (arith, a, b))
one_flags zero (x ∷ xs) (y ∷ bs) a b h = absurd (omega (arith, a))
one_flags (suc n) (x ∷ xs) (y ∷ bs) a b h =
    ap₂ (λ (z : Bool) (zs : List Bool). z ∷ zs) (first_flag x y (h 0 (omega arith)))
    (one_flags n xs bs (omega (arith, a)) (omega (arith, b)) (λ i l. h (suc i) (omega (arith, l))))

both : {A B C : Type 0} → A ↔ C → B ↔ C → A ↔ B
both f g = (λ a. g.1 (f.0 a), λ b. f.1 (g.0 b))

module _ (ss : List DraftStructure) (c d t cs ds ts : List Bool) (h : AreShapes ss c d t) (k : AreShapes ss cs ds ts) where
  one_cyclic : c ≡ cs
  one_cyclic = one_flags (length ss) c cs h.counts.0 k.counts.0 (λ i l. both (h.cycles i l) (k.cycles i l))

  one_deep : d ≡ ds
  one_deep = one_flags (length ss) d ds h.counts.1 k.counts.1 (λ i l. both (h.depths i l) (k.depths i l))

  one_tails : t ≡ ts
  one_tails = one_flags (length ss) t ts h.counts.2 k.counts.2 (λ i l. both (h.tail_types i l) (k.tail_types i l))

-- ---- readings

one_reading : (files : List Items) (draft other : Draft) (faults more : List Fault) → IsRead files draft faults → IsRead files other more → (draft ≡ other) × (faults ≡ more)
one_reading files draft other faults more h k =
    let all = declarations files in
    let types : h.types ≡ k.types = one_types all h.types k.types (h.named.names ∙ sym k.named.names) h.named.meanings k.named.meanings in
    let drafts : draft ≡ other = h.drafted ∙ ap (draft_of files all) types ∙ sym k.drafted in
    let shaped : AreShapes other.structures h.cyclic h.deep h.tails = subst (λ (x : Draft). AreShapes x.structures h.cyclic h.deep h.tails) drafts h.shaped in
    let cyclic = one_cyclic other.structures h.cyclic h.deep h.tails k.cyclic k.deep k.tails shaped k.shaped in
    let deep = one_deep other.structures h.cyclic h.deep h.tails k.cyclic k.deep k.tails shaped k.shaped in
    let tails = one_tails other.structures h.cyclic h.deep h.tails k.cyclic k.deep k.tails shaped k.shaped in (
      drafts,
      h.faulty ∙ ap₂ (λ (ts : List TypedefMeaning) (x : Draft). faults_of all ts x h.cyclic h.deep h.tails) types drafts
          ∙ ap₂ (λ (c d : List Bool). faults_of all k.types other c d h.tails) cyclic deep
          ∙ ap (λ (t : List Bool). faults_of all k.types other k.cyclic k.deep t) tails ∙ sym k.faulty,
    )

pub not_both : (files : List Items) (draft : Draft) (fault : Fault) → Resolves files draft → HasFirstFault files fault → ⊥
not_both files draft fault h k =
    let e = one_reading files draft k.draft [] k.faults h k.is_read in
    Contains_none fault (subst (λ (fs : List Fault). Contains fs fault) (sym e.1) k.is_first.there)

pub one_draft : (files : List Items) (draft other : Draft) → Resolves files draft → Resolves files other → draft ≡ other
one_draft files draft other h k = (one_reading files draft other [] [] h k).0

pub one_fault : (files : List Items) (fault other : Fault) → HasFirstFault files fault → HasFirstFault files other → fault ≡ other
one_fault files fault other h k =
    let e = one_reading files h.draft k.draft h.faults k.faults h.is_read k.is_read in
    let first : IsFirst k.faults fault = subst (λ (fs : List Fault). IsFirst fs fault) e.1 h.is_first in
    one_no_later fault other (All-contains (λ x. IsTrue (is_no_later fault x)) k.faults other first.first k.is_first.there)
    (All-contains (λ x. IsTrue (is_no_later other x)) k.faults fault k.is_first.first first.there)
