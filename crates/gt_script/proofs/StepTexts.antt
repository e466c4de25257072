-- The texts of steps, one after another.
use Rattle.std.proofs.Common.{◌≡◌, ◌≢◌, ◌≤◌, cond, eqb, take, length, ℕ, Bool, true, false, List, [], ◌∷◌, ◌++◌, Option, Some, None, IsTrue, codes, encode_utf8_all, refl, sym, ap, subst, ◌∙◌}
use Rattle.std.specs.Prelude.{◌&&◌, is_some}
use Rattle.std.specs.Str.{bytes_eq}
use Rattle.std.specs.Option.{option_map, option_map_or}
use Rattle.std.specs.Cmp.Lexicographic.{pointwise}
use Rattle.std.proofs.lemmas.Bool.{false_from_ne_true, eqb-true}
use Rattle.std.proofs.lemmas.List.{length-take-le}
use Rattle.std.proofs.lemmas.Bool.Decides.{same_from_decides}
use Rattle.std.proofs.lemmas.Slice.Eq.{bytes_eq-Decides}
use Rattle.std.proofs.lemmas.Str.{encodes_same}
use Rattle.gt_script.specs.declared.command.Hop.{Hop}
use Rattle.gt_script.specs.declared.command.Hop.TheVariants.{Name, Index}
use Rattle.gt_split.specs.Texts.{◌>>=◌, following, before}
use Rattle.gt_script.specs.Values.{name_at}
use Rattle.gt_split.specs.Numbers.{decimal_at}
use Rattle.gt_script.specs.Steps.{cut_steps, index_at, hop_at, hops_at, AreStepsIn, steps_in, steps_or, steps_at}
use Rattle.gt_script.specs.SameSteps.{same_step}
use Rattle.gt_script.specs.Language.{AreSteps}
use Rattle.gt_split.proofs.Options.{bind_some}
use Rattle.gt_script.proofs.NamesSpelled.{name_taken}
use Rattle.gt_script.proofs.NumbersSpelled.{mapped_some}
use Rattle.gt_script.proofs.Walks.{place, cut_front}
use Rattle.gt_script.proofs.PathsSpelled.{joined, cut_joined, steps_again, steps_taken}

-- ---- what they are

known : (read : Option (List Hop)) → IsTrue (is_some read) → Some (steps_or read) ≡ read
known None h = absurd (cc)
known (Some hops) h = refl

pub steps_known : (text : List ℕ) → AreStepsIn text → Some (steps_in text) ≡ hops_at (cut_steps text).1
steps_known text h = known (hops_at (cut_steps text).1) h.1

-- ---- a whole text

pub begins_first : (text : List ℕ) (n : ℕ) → n ≡ place text → n ≡ 0 → (cut_steps text).0 ≡ []
begins_first text n at zero = cut_front text ∙ ap (λ k. take k text) (sym at ∙ zero)

pub begins_later : (text : List ℕ) (n : ℕ) → n ≡ place text → n ≤ length text → n ≢ 0 → None ≡ steps_at text
unfolding steps_at
begins_later text n at within some =
    let front : length (cut_steps text).0 ≡ n = ap length (cut_front text ∙ ap (λ k. take k text) (sym at)) ∙ length-take-le n text within in
    let not_empty : eqb (length (cut_steps text).0) 0 ≡ false = false_from_ne_true _ (λ e. some (sym front ∙ eqb-true _ 0 e)) in
    rw not_empty refl

pub steps_whole : (text : List ℕ) → (cut_steps text).0 ≡ [] → hops_at (cut_steps text).1 ≡ steps_at text
unfolding steps_at
steps_whole text e = rw e refl

pub none_read : (text : List ℕ) → false ≡ is_some (hops_at (cut_steps text).1) → None ≡ hops_at (cut_steps text).1
none_read text h = unknown (hops_at (cut_steps text).1) h
  where
    unknown : (read : Option (List Hop)) → false ≡ is_some read → None ≡ read
    unknown None h = refl
    unknown (Some hops) h = absurd (cc)

pub none_whole : (text : List ℕ) → (cut_steps text).0 ≡ [] → false ≡ is_some (hops_at (cut_steps text).1) → None ≡ steps_at text
none_whole text e h = none_read text h ∙ steps_whole text e

-- what is spelled as steps is read as those
pub steps_read : (text : List ℕ) (hops : List Hop) → AreSteps text hops → steps_at text ≡ Some hops
steps_read text hops h =
    let again = steps_again h in
    sym (steps_whole text (ap (λ (cut : List ℕ × List (List ℕ)). cut.0) again.0)) ∙ again.1

empty : (xs : List ℕ) → length xs ≡ 0 → xs ≡ []
empty [] h = refl
empty (x ∷ xs) h = absurd (cc)

-- and what is read so is spelled so
pub steps_spelled : (text : List ℕ) (hops : List Hop) → steps_at text ≡ Some hops → AreSteps text hops
unfolding steps_at
steps_spelled text hops e = go (eqb (length (cut_steps text).0) 0) refl e
  where
    go : (b : Bool) → eqb (length (cut_steps text).0) 0 ≡ b → cond b (hops_at (cut_steps text).1) None ≡ Some hops → AreSteps text hops
    go true first read =
        let begins : (cut_steps text).0 ≡ [] = empty (cut_steps text).0 (eqb-true _ 0 first) in
        let whole : text ≡ joined (cut_steps text).1 = cut_joined text ∙ ap (λ (front : List ℕ). front ++ joined (cut_steps text).1) begins in
        subst (λ (t : List ℕ). AreSteps t hops) (sym whole) (steps_taken (cut_steps text).1 hops read)
    go false first read = absurd (cc)

-- ---- the first of them

-- a step in front of others
abbrev pub with_first : Option Hop → Option (List Hop) → Option (List Hop)
with_first first read = first >>= λ hop. read >>= λ hops. Some (hop ∷ hops)

pub some_first : (first : Option Hop) (read : Option (List Hop)) → is_some (with_first first read) ≡ (is_some first && is_some read)
some_first None read = refl
some_first (Some hop) None = refl
some_first (Some hop) (Some hops) = refl

pub reads_first : (text step after : List ℕ) → cut_steps text ≡ ([], step ∷ (cut_steps after).1) → hops_at (cut_steps text).1 ≡ with_first (hop_at step) (hops_at (cut_steps after).1)
unfolding hops_at
reads_first text step after cut = ap (λ (p : List ℕ × List (List ℕ)). hops_at p.1) cut

pub some_reads : (text step after : List ℕ) → cut_steps text ≡ ([], step ∷ (cut_steps after).1) → is_some (hops_at (cut_steps text).1) ≡ (is_some (hop_at step) && is_some (hops_at (cut_steps after).1))
some_reads text step after cut = ap is_some (reads_first text step after cut) ∙ some_first (hop_at step) (hops_at (cut_steps after).1)

pub reads_nothing : (text : List ℕ) → text ≡ [] → hops_at (cut_steps text).1 ≡ Some []
unfolding cut_steps hops_at
reads_nothing text e = ap (λ (t : List ℕ). hops_at (cut_steps t).1) e

pub nothing_in : (text : List ℕ) → text ≡ [] → steps_in text ≡ []
nothing_in text e = ap steps_or (reads_nothing text e)

-- what the first step is, and the steps that are left
record IsTaken (hop : Hop) (read after : Option (List Hop)) : Type 0 where
  pub left : IsTrue (is_some after)
  pub in_front : steps_or read ≡ hop ∷ steps_or after

taken_first : (hop : Hop) (read after : Option (List Hop)) → read ≡ with_first (Some hop) after → IsTrue (is_some read) → IsTaken hop read after
taken_first hop read None e h = let none : false ≡ true = sym (ap is_some e) ∙ h in absurd (cc)
taken_first hop read (Some hops) e h = record { left = refl; in_front = ap steps_or e }

module _ (text step after : List ℕ) (cut : cut_steps text ≡ ([], step ∷ (cut_steps after).1)) (begins : (cut_steps after).0 ≡ []) (are : AreStepsIn text) where
  pub has_first : hop_at step ≡ None → ⊥
  has_first e =
      let none : hops_at (cut_steps text).1 ≡ None = reads_first text step after cut ∙ ap (λ (h : Option Hop). with_first h (hops_at (cut_steps after).1)) e in
      let never : false ≡ true = sym (ap is_some none) ∙ are.1 in cc

  taken : (hop : Hop) → hop_at step ≡ Some hop → IsTaken hop (hops_at (cut_steps text).1) (hops_at (cut_steps after).1)
  taken hop e =
      taken_first hop _ _ (reads_first text step after cut ∙ ap (λ (h : Option Hop). with_first h (hops_at (cut_steps after).1)) e) are.1

  pub are_left : (hop : Hop) → hop_at step ≡ Some hop → AreStepsIn after
  are_left hop e = (begins, (taken hop e).left)

  pub first_in : (hop : Hop) → hop_at step ≡ Some hop → steps_in text ≡ hop ∷ steps_in after
  first_in hop e = (taken hop e).in_front

  some_hop : (found : Option Hop) → hop_at step ≡ found → (hop : Hop) × (hop_at step ≡ Some hop)
  some_hop None e = absurd (has_first e)
  some_hop (Some hop) e = (hop, e)

  pub first_hop : (hop : Hop) × (hop_at step ≡ Some hop)
  first_hop = some_hop (hop_at step) refl

-- ---- the same steps

-- a test says whether two texts are the same step
abbrev pub Tells : Bool → List ℕ → List ℕ → Type 0
Tells same step other = (hop another : Hop) → hop_at step ≡ Some hop → hop_at other ≡ Some another → same ≡ same_step hop another

module _ (text step after other another left : List ℕ) (cut : cut_steps text ≡ ([], step ∷ (cut_steps after).1)) (begins : (cut_steps after).0 ≡ []) (are : AreStepsIn text)
    (cut' : cut_steps other ≡ ([], another ∷ (cut_steps left).1)) (begins' : (cut_steps left).0 ≡ []) (are' : AreStepsIn other) where
  pub same_first : (same : Bool) → Tells same step another → pointwise same_step (steps_in text) (steps_in other) ≡ (same && pointwise same_step (steps_in after) (steps_in left))
  same_first same tells =
      let hop = first_hop text step after cut begins are in
      let more = first_hop other another left cut' begins' are' in
      ap (λ (hops : List Hop). pointwise same_step hops (steps_in other)) (first_in text step after cut begins are hop.0 hop.1)
      ∙ ap (λ (hops : List Hop). pointwise same_step (hop.0 ∷ steps_in after) hops) (first_in other another left cut' begins' are' more.0 more.1)
      ∙ ap (λ b. b && pointwise same_step (steps_in after) (steps_in left)) (sym (tells hop.0 more.0 hop.1 more.1))

  pub left_both : AreStepsIn after × AreStepsIn left
  left_both =
      let hop = first_hop text step after cut begins are in
      let more = first_hop other another left cut' begins' are' in
      (are_left text step after cut begins are hop.0 hop.1, are_left other another left cut' begins' are' more.0 more.1)

pub both_nothing : (text other : List ℕ) → text ≡ [] → other ≡ [] → pointwise same_step (steps_in text) (steps_in other) ≡ true
both_nothing text other e f =
    ap (λ (hops : List Hop). pointwise same_step hops (steps_in other)) (nothing_in text e) ∙ ap (λ (hops : List Hop). pointwise same_step [] hops) (nothing_in other f)

module _ (text step after other : List ℕ) (cut : cut_steps text ≡ ([], step ∷ (cut_steps after).1)) (begins : (cut_steps after).0 ≡ []) (are : AreStepsIn text) (e : other ≡ []) where
  pub longer : pointwise same_step (steps_in text) (steps_in other) ≡ false
  longer =
      let hop = first_hop text step after cut begins are in
      ap (λ (hops : List Hop). pointwise same_step hops (steps_in other)) (first_in text step after cut begins are hop.0 hop.1)
      ∙ ap (λ (hops : List Hop). pointwise same_step (hop.0 ∷ steps_in after) hops) (nothing_in other e)

  pub shorter : pointwise same_step (steps_in other) (steps_in text) ≡ false
  shorter =
      let hop = first_hop text step after cut begins are in
      ap (λ (hops : List Hop). pointwise same_step (steps_in other) hops) (first_in text step after cut begins are hop.0 hop.1)
      ∙ ap (λ (hops : List Hop). pointwise same_step hops (hop.0 ∷ steps_in after)) (nothing_in other e)

-- a step to a field
encodes_eq : (cs ds : List ℕ) → bytes_eq (encode_utf8_all cs) (encode_utf8_all ds) ≡ bytes_eq cs ds
encodes_eq cs ds =
    let bytes = bytes_eq-Decides (encode_utf8_all cs) (encode_utf8_all ds) in
    let characters = bytes_eq-Decides cs ds in
    same_from_decides _ _ bytes (λ h. ap encode_utf8_all (characters.0 h), λ e. characters.1 (encodes_same cs ds e))

named : (step n : List ℕ) (hop : Hop) → following (codes ".") step ≡ Some n → hop_at step ≡ Some hop → (m : List ℕ) × (hop ≡ Name m) × (n ≡ encode_utf8_all m)
unfolding hop_at
named step n hop e h =
    let found : option_map Name (name_at n) ≡ Some hop = sym (ap (λ o. option_map_or (λ name. option_map Name (name_at name)) o (index_at step)) e) ∙ h in
    let m = mapped_some Name (name_at n) hop found in
    (m.0, sym m.2, (name_taken n m.0 m.1).1)

pub same_fields : (step n other m : List ℕ) → following (codes ".") step ≡ Some n → following (codes ".") other ≡ Some m → Tells (bytes_eq n m) step other
same_fields step n other m e f hop another h g =
    let a = named step n hop e h in
    let b = named other m another f g in
    ap (λ x. bytes_eq x m) a.2 ∙ ap (bytes_eq (encode_utf8_all a.0)) b.2 ∙ encodes_eq a.0 b.0
    ∙ ap (λ (x : Hop). same_step x (Name b.0)) (sym a.1) ∙ ap (same_step hop) (sym b.1)

-- a step to an element
pub indexed : (step : List ℕ) (hop : Hop) → following (codes ".") step ≡ None → hop_at step ≡ Some hop → index_at step ≡ Some hop
unfolding hop_at
indexed step hop e h = sym (ap (λ o. option_map_or (λ name. option_map Name (name_at name)) o (index_at step)) e) ∙ h

element : (step : List ℕ) (hop : Hop) → index_at step ≡ Some hop → (i : ℕ) × (hop ≡ Index i)
unfolding index_at
element step hop e =
    let inner = bind_some (following (codes "[") step) (λ inner. before (codes "]") inner >>= λ digits. option_map Index (decimal_at digits)) hop e in
    let digits = bind_some (before (codes "]") inner.0) (λ digits. option_map Index (decimal_at digits)) hop inner.2 in
    let n = mapped_some Index (decimal_at digits.0) hop digits.2 in
    (n.0, sym n.2)

pub field_and_element : (step n other : List ℕ) → following (codes ".") step ≡ Some n → following (codes ".") other ≡ None → Tells false step other
field_and_element step n other e f hop another h g =
    let a = named step n hop e h in
    let b = element other another (indexed other another f g) in
    ap (λ (x : Hop). same_step x (Index b.0)) (sym a.1) ∙ ap (same_step hop) (sym b.1)

pub element_and_field : (step other m : List ℕ) → following (codes ".") step ≡ None → following (codes ".") other ≡ Some m → Tells false step other
element_and_field step other m e f hop another h g =
    let a = element step hop (indexed step hop e h) in
    let b = named other m another f g in
    ap (λ (x : Hop). same_step x (Name b.0)) (sym a.1) ∙ ap (same_step hop) (sym b.1)
