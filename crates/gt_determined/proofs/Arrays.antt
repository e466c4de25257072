-- Array, string and block have one answer, but for the address of the block, and with each answer one next state.
use Rattle.std.proofs.Common.{◌≡◌, ℕ, suc, List, length, refl, ap, sym, subst, ◌∙◌}
use Rattle.std.specs.Prelude.{ℤ, pos}
use Rattle.gt_types.specs.declared.program.Program.{Program}
use Rattle.gt_types.specs.Settled.{Settled}
use Rattle.gt_layout.specs.declared.planes.Layouts.{Layouts}
use Rattle.gt_layout.specs.Planes.{IsLaidOut}
use Rattle.gt_script.specs.declared.command.TypeName.{TypeName}
use Rattle.gt_tree.specs.Blocks.{Kind, Chars, Raw}
use Rattle.gt_tree.specs.FixedLaws.{MayHold}
use Rattle.gt_graph.specs.Good.{IsOfTails}
use Rattle.gt_next.specs.declared.answer.Answer.{Answer}
use Rattle.gt_next.specs.declared.answer.Answer.TheVariants.{Refused}
use Rattle.gt_next.specs.declared.answer.Why.TheVariants.{NoType, OutOfRange, Shape, TooLarge}
use Rattle.gt_next.specs.States.{State}
use Rattle.gt_next.specs.Kinds.{IsKindOf}
use Rattle.gt_next.specs.Making.{Wanted, wanted, IsTooLarge, zeros, text, Binds, IsNegative, NextArray, NextText, NextBlock}
use Rattle.gt_determined.proofs.Distincts.{kind-one}
use Rattle.gt_determined.proofs.Zeros.{zeros-one}
use Rattle.gt_determined.proofs.Bindings.{Alike, alike-same, binds-alike}

pub kind-may : {program : Program} {type : TypeName} {kind : Kind} → IsKindOf program type kind → MayHold program kind
kind-may (IsKindOf.structures star means may) = may
kind-may (IsKindOf.pointers star no_char means may) = may
kind-may (IsKindOf.pointers_by_word star word pointer may) = may
kind-may (IsKindOf.strings star char) = tt

not-negative : (n : ℤ) (count : ℕ) → n ≡ pos count → ¬ IsNegative n
not-negative n count e IsNegative.negative = cc

count-same : (n : ℤ) (count other : ℕ) → n ≡ pos count → n ≡ pos other → other ≡ count
count-same n count other e h = let same : pos other ≡ pos count = sym h ∙ e in cc

module _ (program : Program) (layouts : Layouts) (settled : Settled program) (laid : IsLaidOut program layouts) (s : State) (var : List ℕ) where
  pub zeros-alike : (w : Wanted) → MayHold program w.kind → (a b : Answer) (t u : State) → Binds program layouts s var w (zeros program s w) a t → Binds program layouts s var w (zeros program s w) b u → Alike a t b u
  zeros-alike w may a b t u first second =
      binds-alike program layouts settled laid s var w (zeros program s w) may (λ x y. zeros-one program settled s.heap.graph w.kind w.capacity may w.count x y) a b t u first second

  -- ---- array

  module _ (type : TypeName) (n : ℤ) where
    no-type-array : (b : Answer) (u : State) → ((kind : Kind) → ¬ IsKindOf program type kind) → NextArray program layouts s var type n b u → Alike (Refused NoType) s b u
    no-type-array b u none (NextArray.no_type other) = alike-same (Refused NoType) (Refused NoType) s s refl refl
    no-type-array b u none (NextArray.negative {kind} k less) = absurd (none kind k)
    no-type-array b u none (NextArray.tails {kind} k more tails) = absurd (none kind k)
    no-type-array b u none (NextArray.too_large {kind} k is plain large) = absurd (none kind k)
    no-type-array b u none (NextArray.binds {kind} k is plain small makes) = absurd (none kind k)

    module _ (kind : Kind) (means : IsKindOf program type kind) where
      -- another kind is this one
      same-kind : (other : Kind) → IsKindOf program type other → other ≡ kind
      same-kind other k = kind-one program settled type other kind k means

      tails-at : (other : Kind) → IsKindOf program type other → IsOfTails program other → IsOfTails program kind
      tails-at other k tails = subst (λ x. IsOfTails program x) (same-kind other k) tails

      negative-array : (b : Answer) (u : State) → IsNegative n → NextArray program layouts s var type n b u → Alike (Refused OutOfRange) s b u
      negative-array b u less (NextArray.no_type none) = absurd (none kind means)
      negative-array b u less (NextArray.negative k also) = alike-same (Refused OutOfRange) (Refused OutOfRange) s s refl refl
      negative-array b u less (NextArray.tails k more tails) = absurd (more less)
      negative-array b u less (NextArray.too_large {count} k is plain large) = absurd (not-negative n count is less)
      negative-array b u less (NextArray.binds {count} k is plain small makes) = absurd (not-negative n count is less)

      tails-array : (b : Answer) (u : State) → ¬ IsNegative n → IsOfTails program kind → NextArray program layouts s var type n b u → Alike (Refused Shape) s b u
      tails-array b u more tails (NextArray.no_type none) = absurd (none kind means)
      tails-array b u more tails (NextArray.negative k less) = absurd (more less)
      tails-array b u more tails (NextArray.tails k also tails_too) = alike-same (Refused Shape) (Refused Shape) s s refl refl
      tails-array b u more tails (NextArray.too_large {kind = x} k is plain large) = absurd (plain (subst (λ y. IsOfTails program y) (sym (same-kind x k)) tails))
      tails-array b u more tails (NextArray.binds {kind = x} k is plain small makes) = absurd (plain (subst (λ y. IsOfTails program y) (sym (same-kind x k)) tails))

      module _ (count : ℕ) (e : n ≡ pos count) (flat : ¬ IsOfTails program kind) where
        same-wanted : (other : Kind) (i : ℕ) → IsKindOf program type other → n ≡ pos i → wanted other i 0 ≡ wanted kind count 0
        same-wanted other i k is = ap (λ x. wanted x i 0) (same-kind other k) ∙ ap (λ j. wanted kind j 0) (count-same n count i e is)

        large-array : (b : Answer) (u : State) → IsTooLarge program layouts (wanted kind count 0) → NextArray program layouts s var type n b u → Alike (Refused TooLarge) s b u
        large-array b u large (NextArray.no_type none) = absurd (none kind means)
        large-array b u large (NextArray.negative k less) = absurd (not-negative n count e less)
        large-array b u large (NextArray.tails {kind = x} k more tails) = absurd (flat (tails-at x k tails))
        large-array b u large (NextArray.too_large k is plain also) = alike-same (Refused TooLarge) (Refused TooLarge) s s refl refl
        large-array b u large (NextArray.binds {kind = x} {count = i} k is plain small makes) = absurd (small (subst (λ w. IsTooLarge program layouts w) (sym (same-wanted x i k is)) large))

        binds-array : (a b : Answer) (t u : State) → ¬ IsTooLarge program layouts (wanted kind count 0) → Binds program layouts s var (wanted kind count 0) (zeros program s (wanted kind count 0)) a t
            → NextArray program layouts s var type n b u → Alike a t b u
        binds-array a b t u small makes (NextArray.no_type none) = absurd (none kind means)
        binds-array a b t u small makes (NextArray.negative k less) = absurd (not-negative n count e less)
        binds-array a b t u small makes (NextArray.tails {kind = x} k more tails) = absurd (flat (tails-at x k tails))
        binds-array a b t u small makes (NextArray.too_large {kind = x} {count = i} k is plain large) = absurd (small (subst (λ w. IsTooLarge program layouts w) (same-wanted x i k is) large))
        binds-array a b t u small makes (NextArray.binds {kind = x} {count = i} {answer} {t = v} k is plain fits also) =
            zeros-alike (wanted kind count 0) (kind-may means) a answer t v makes (subst (λ w. Binds program layouts s var w (zeros program s w) answer v) (same-wanted x i k is) also)

    pub array-alike : (a b : Answer) (t u : State) → NextArray program layouts s var type n a t → NextArray program layouts s var type n b u → Alike a t b u
    array-alike a b t u (NextArray.no_type none) next = no-type-array b u none next
    array-alike a b t u (NextArray.negative {kind} k less) next = negative-array kind k b u less next
    array-alike a b t u (NextArray.tails {kind} k more tails) next = tails-array kind k b u more tails next
    array-alike a b t u (NextArray.too_large {kind} {count} k is plain large) next = large-array kind k count is plain b u large next
    array-alike a b t u (NextArray.binds {kind} {count} {answer} {t = v} k is plain small makes) next = binds-array kind k count is plain answer b v u small makes next

  -- ---- string and block

  pub text-alike : (bytes : List ℕ) (a b : Answer) (t u : State) → NextText program layouts s var bytes a t → NextText program layouts s var bytes b u → Alike a t b u
  text-alike bytes a b t u (NextText.too_large large) (NextText.too_large also) = alike-same (Refused TooLarge) (Refused TooLarge) s s refl refl
  text-alike bytes a b t u (NextText.too_large large) (NextText.binds small makes) = absurd (small large)
  text-alike bytes a b t u (NextText.binds small makes) (NextText.too_large large) = absurd (small large)
  text-alike bytes a b t u (NextText.binds {answer = x} {t = v} small makes) (NextText.binds {answer = y} {t = w} fits also) =
      binds-alike program layouts settled laid s var (wanted Chars (suc (length bytes)) 0) (text bytes) tt (λ p q e h. e ∙ sym h) x y v w makes also

  pub block-alike : (n : ℤ) (a b : Answer) (t u : State) → NextBlock program layouts s var n a t → NextBlock program layouts s var n b u → Alike a t b u
  block-alike n a b t u (NextBlock.negative less) (NextBlock.negative also) = alike-same (Refused OutOfRange) (Refused OutOfRange) s s refl refl
  block-alike n a b t u (NextBlock.negative less) (NextBlock.too_large {count} is large) = absurd (not-negative n count is less)
  block-alike n a b t u (NextBlock.negative less) (NextBlock.binds {count} is small makes) = absurd (not-negative n count is less)
  block-alike n a b t u (NextBlock.too_large {count} is large) (NextBlock.negative less) = absurd (not-negative n count is less)
  block-alike n a b t u (NextBlock.too_large is large) (NextBlock.too_large also more) = alike-same (Refused TooLarge) (Refused TooLarge) s s refl refl
  block-alike n a b t u (NextBlock.too_large {count} is large) (NextBlock.binds {count = i} at small makes) = absurd (small (subst (λ c. IsTooLarge program layouts (wanted Raw c 0)) (sym (count-same n count i is at)) large))
  block-alike n a b t u (NextBlock.binds {count} is small makes) (NextBlock.negative less) = absurd (not-negative n count is less)
  block-alike n a b t u (NextBlock.binds {count} is small makes) (NextBlock.too_large {count = i} at large) = absurd (small (subst (λ c. IsTooLarge program layouts (wanted Raw c 0)) (count-same n count i is at) large))
  block-alike n a b t u (NextBlock.binds {count} {answer = x} {t = v} is small makes) (NextBlock.binds {count = i} {answer = y} {t = w} at fits also) =
      zeros-alike (wanted Raw count 0) tt x y v w makes (subst (λ c. Binds program layouts s var (wanted Raw c 0) (zeros program s (wanted Raw c 0)) y w) (count-same n count i is at) also)
