-- Paths are read as they are spelled.
use Rattle.std.proofs.Common.{◌≡◌, ℕ, Bool, true, false, not, cond, eqb, List, [], ◌∷◌, ◌++◌, Option, Some, refl, sym, ap, subst, ◌∙◌, append_assoc, inl, inr}
use Rattle.std.specs.Prelude.{codes, encode_utf8_all}
use Rattle.std.specs.Option.{option_map}
use Rattle.std.specs.List.{list_all}
use Rattle.std.specs.Char.{is_digit}
use Rattle.std.proofs.lemmas.Bool.{and_parts, and_from, or_cases, both_ways, false_from_ne_true, eqb-true, not-true}
use Rattle.std.proofs.lemmas.Option.{same_Some}
use Rattle.std.proofs.lemmas.List.{append-nil}
use Rattle.std.proofs.lemmas.List.Folds.{list_all-append}
use Rattle.gt_script.specs.declared.command.Route.{Route}
use Rattle.gt_script.specs.declared.command.Hop.{Hop}
use Rattle.gt_script.specs.declared.command.Hop.TheVariants.{Name, Index}
use Rattle.gt_split.specs.Texts.{◌>>=◌, following, before}
use Rattle.gt_script.specs.Values.{name_at}
use Rattle.gt_split.specs.Numbers.{decimal_at}
use Rattle.gt_script.specs.Steps.{begins_step, cut_steps, index_at, hop_at, hops_at}
use Rattle.gt_script.specs.Paths.{route_at, path_at}
use Rattle.gt_script.specs.Language.{IsName, IsDecimal, AreSteps, no_steps, field_first, element_first, IsPath}
use Rattle.gt_split.proofs.Options.{bind_some, map_or_some}
use Rattle.gt_script.proofs.NamesSpelled.{dark, dark_dot, dark_bracket, name_dark, dark_lacks, after_taken, before_taken, before_again, name_taken, name_again, name_not_dollar}
use Rattle.gt_script.proofs.NumbersSpelled.{decimal_taken, decimal_again, mapped_some}

-- ---- what is read is spelled so

-- pieces one after another
abbrev pub joined : List (List ℕ) → List ℕ
joined [] = []
joined (text ∷ texts) = text ++ joined texts

joined_here : (c : ℕ) (cs : List ℕ) (b : Bool) → begins_step c ≡ b → cs ≡ (cut_steps cs).0 ++ joined (cut_steps cs).1 → c ∷ cs ≡ (cut_steps (c ∷ cs)).0 ++ joined (cut_steps (c ∷ cs)).1
unfolding cut_steps
joined_here c cs true e h =
    let cut : cut_steps (c ∷ cs) ≡ ([], (c ∷ (cut_steps cs).0) ∷ (cut_steps cs).1) = rw e refl in
    rw cut (ap (λ (l : List ℕ). c ∷ l) h)
joined_here c cs false e h =
    let cut : cut_steps (c ∷ cs) ≡ (c ∷ (cut_steps cs).0, (cut_steps cs).1) = rw e refl in
    rw cut (ap (λ (l : List ℕ). c ∷ l) h)

pub cut_joined : (text : List ℕ) → text ≡ (cut_steps text).0 ++ joined (cut_steps text).1
unfolding cut_steps
cut_joined [] = refl
cut_joined (c ∷ cs) = joined_here c cs (begins_step c) refl (cut_joined cs)

-- a step in front of others
step_taken : (text rest : List ℕ) (hop : Hop) (hops : List Hop) → hop_at text ≡ Some hop → AreSteps rest hops → AreSteps (text ++ rest) (hop ∷ hops)
unfolding hop_at index_at
step_taken text rest hop hops e more =
    elim (map_or_some (following (codes ".") text) (λ name. option_map Name (name_at name)) (index_at text) hop e) [
      | inl g ↦
          let n = mapped_some Name (name_at g.0) hop g.2 in
          let taken = name_taken g.0 n.0 n.1 in
          let whole : text ≡ codes "." ++ encode_utf8_all n.0 = after_taken (codes ".") text g.0 g.1 ∙ ap (λ (l : List ℕ). codes "." ++ l) taken.1 in
          let here : AreSteps (text ++ rest) (Name n.0 ∷ hops) = subst (λ (t : List ℕ). AreSteps (t ++ rest) (Name n.0 ∷ hops)) (sym whole) (field_first n.0 taken.0 more) in
          subst (λ (h : Hop). AreSteps (text ++ rest) (h ∷ hops)) n.2 here
      | inr g ↦
          let inner = bind_some (following (codes "[") text) (λ inner. before (codes "]") inner >>= λ digits. option_map Index (decimal_at digits)) hop g.1 in
          let digits = bind_some (before (codes "]") inner.0) (λ digits. option_map Index (decimal_at digits)) hop inner.2 in
          let n = mapped_some Index (decimal_at digits.0) hop digits.2 in
          let whole : text ≡ codes "[" ++ (digits.0 ++ codes "]") = after_taken (codes "[") text inner.0 inner.1 ∙ ap (λ (l : List ℕ). codes "[" ++ l) (before_taken (codes "]") inner.0 digits.0 digits.1) in
          let all : text ++ rest ≡ codes "[" ++ (digits.0 ++ (codes "]" ++ rest)) = ap (λ (l : List ℕ). l ++ rest) whole ∙ ap (λ (l : List ℕ). codes "[" ++ l) (append_assoc digits.0 (codes "]") rest) in
          let here : AreSteps (text ++ rest) (Index n.0 ∷ hops) = subst (λ (t : List ℕ). AreSteps t (Index n.0 ∷ hops)) (sym all) (element_first digits.0 n.0 (decimal_taken digits.0 n.0 n.1) more) in
          subst (λ (h : Hop). AreSteps (text ++ rest) (h ∷ hops)) n.2 here
    ]

pub steps_taken : (texts : List (List ℕ)) (hops : List Hop) → hops_at texts ≡ Some hops → AreSteps (joined texts) hops
unfolding hops_at
steps_taken [] hops e = subst (λ (hs : List Hop). AreSteps [] hs) (same_Some [] hops e) no_steps
steps_taken (text ∷ texts) hops e =
    let hop = bind_some (hop_at text) (λ hop. hops_at texts >>= λ more. Some (hop ∷ more)) hops e in
    let more = bind_some (hops_at texts) (λ more. Some (hop.0 ∷ more)) hops hop.2 in
    subst (λ (hs : List Hop). AreSteps (text ++ joined texts) hs) (same_Some (hop.0 ∷ more.0) hops more.2) (step_taken text (joined texts) hop.0 more.0 hop.1 (steps_taken texts more.0 more.1))

route_taken : (variable : Bool) (text : List ℕ) (path : Route) → route_at variable text ≡ Some path → IsPath (cond variable (codes "$") [] ++ text) path
unfolding route_at
route_taken variable text path e =
    let name = bind_some (name_at (cut_steps text).0) (λ name. hops_at (cut_steps text).1 >>= λ steps. Some (record { variable = variable; name = name; steps = steps })) path e in
    let hops = bind_some (hops_at (cut_steps text).1) (λ steps. Some (record { variable = variable; name = name.0; steps = steps })) path name.2 in
    let taken = name_taken (cut_steps text).0 name.0 name.1 in
    let whole : text ≡ encode_utf8_all name.0 ++ joined (cut_steps text).1 = cut_joined text ∙ ap (λ (l : List ℕ). l ++ joined (cut_steps text).1) taken.1 in
    let here : IsPath (cond variable (codes "$") [] ++ text) (record { variable = variable; name = name.0; steps = hops.0 }) = record {
      name = taken.0;
      rest = joined (cut_steps text).1;
      steps = steps_taken (cut_steps text).1 hops.0 hops.1;
      spelled = ap (λ (l : List ℕ). cond variable (codes "$") [] ++ l) whole;
    } in
    subst (λ (p : Route). IsPath (cond variable (codes "$") [] ++ text) p) (same_Some (record { variable = variable; name = name.0; steps = hops.0 }) path hops.2) here

pub path_taken : (text : List ℕ) (path : Route) → path_at text ≡ Some path → IsPath text path
unfolding path_at
path_taken text path e =
    elim (map_or_some (following (codes "$") text) (route_at true) (route_at false text) path e) [
      | inl g ↦ subst (λ (t : List ℕ). IsPath t path) (sym (after_taken (codes "$") text g.0 g.1)) (route_taken true g.0 path g.2)
      | inr g ↦ route_taken false text path g.1
    ]

-- ---- what is spelled so is read

cut_over : (front rest : List ℕ) → list_all (λ c. not (begins_step c)) front ≡ true → cut_steps (front ++ rest) ≡ (front ++ (cut_steps rest).0, (cut_steps rest).1)
unfolding cut_steps
cut_over [] rest h = refl
cut_over (c ∷ cs) rest h =
    let both = and_parts (not (begins_step c)) (list_all (λ c. not (begins_step c)) cs) h in
    rw (not-true (begins_step c) both.0, cut_over cs rest both.1) refl

step_not_dark : (c : ℕ) → begins_step c ≡ true → dark c ≡ false
unfolding begins_step
step_not_dark c e = elim (or_cases (eqb c 46) (eqb c 91) e) [ inl dot ↦ ap dark (eqb-true c 46 dot) ∙ dark_dot | inr open_bracket ↦ ap dark (eqb-true c 91 open_bracket) ∙ dark_bracket ]

name_solid : (name : List ℕ) → IsName name → list_all (λ c. not (begins_step c)) (encode_utf8_all name) ≡ true
name_solid name h = dark_lacks begins_step step_not_dark (encode_utf8_all name) (name_dark name h)

step_no_digit : (c : ℕ) → begins_step c ≡ true → is_digit c 10 ≡ false
unfolding begins_step
step_no_digit c e = elim (or_cases (eqb c 46) (eqb c 91) e) [ inl dot ↦ ap (λ d. is_digit d 10) (eqb-true c 46 dot) | inr open_bracket ↦ ap (λ d. is_digit d 10) (eqb-true c 91 open_bracket) ]

digits_solid : (text : List ℕ) → list_all (λ c. is_digit c 10) text ≡ true → list_all (λ c. not (begins_step c)) text ≡ true
digits_solid [] h = refl
digits_solid (c ∷ cs) h =
    let both = and_parts (is_digit c 10) (list_all (λ c. is_digit c 10) cs) h in
    let other : begins_step c ≡ false = false_from_ne_true (begins_step c) (λ e. both_ways (is_digit c 10) (step_no_digit c e) both.0) in
    rw (other, digits_solid cs both.1) refl

abbrev pub StepsAgain : List ℕ → List Hop → Type 0
StepsAgain text hops = cut_steps text ≡ ([], (cut_steps text).1) × (hops_at (cut_steps text).1 ≡ Some hops)

-- a text of one step in front of others
step_front : (mark : ℕ) (front rest : List ℕ) (hop : Hop) (hops : List Hop) → begins_step mark ≡ true → list_all (λ c. not (begins_step c)) front ≡ true → hop_at (mark ∷ front) ≡ Some hop
    → StepsAgain rest hops → StepsAgain (mark ∷ front ++ rest) (hop ∷ hops)
unfolding cut_steps hops_at
step_front mark front rest hop hops is solid e more =
    let over : cut_steps (front ++ rest) ≡ (front, (cut_steps rest).1) =
    cut_over front rest solid ∙ ap (λ (p : List ℕ × List (List ℕ)). (front ++ p.0, (cut_steps rest).1)) more.0 ∙ ap (λ (l : List ℕ). (l, (cut_steps rest).1)) (append-nil front) in
    let cut : cut_steps (mark ∷ front ++ rest) ≡ ([], (mark ∷ front) ∷ (cut_steps rest).1) = rw (is, over) refl in
    let same : (cut_steps (mark ∷ front ++ rest)).1 ≡ (mark ∷ front) ∷ (cut_steps rest).1 = ap (λ (p : List ℕ × List (List ℕ)). p.1) cut in
    (cut ∙ ap (λ (l : List (List ℕ)). ([], l)) (sym same), ap hops_at same ∙ rw (e, more.1) refl)

field_again : (name : List ℕ) → IsName name → hop_at (codes "." ++ encode_utf8_all name) ≡ Some (Name name)
unfolding hop_at following
field_again name h = rw (name_again name h) refl

element_again : (digits : List ℕ) (number : ℕ) → IsDecimal digits number → hop_at (codes "[" ++ (digits ++ codes "]")) ≡ Some (Index number)
unfolding hop_at index_at following
element_again digits number h = rw (before_again (codes "]") digits, decimal_again digits number h) refl

pub steps_again : {rest : List ℕ} {hops : List Hop} → AreSteps rest hops → StepsAgain rest hops
unfolding cut_steps hops_at begins_step
steps_again no_steps = (refl, refl)
steps_again (field_first {rest} {hops} name h more) = step_front 46 (encode_utf8_all name) rest (Name name) hops refl (name_solid name h) (field_again name h) (steps_again more)
steps_again (element_first {rest} {hops} digits number h more) =
    let solid : list_all (λ c. not (begins_step c)) (digits ++ codes "]") ≡ true = list_all-append (λ c. not (begins_step c)) digits (codes "]") ∙ and_from _ _ (digits_solid digits h.digits.1) refl in
    let after_it = step_front 91 (digits ++ codes "]") rest (Index number) hops refl solid (element_again digits number h) (steps_again more) in
    subst (λ (t : List ℕ). StepsAgain t (Index number ∷ hops)) (ap (λ (l : List ℕ). codes "[" ++ l) (append_assoc digits (codes "]") rest)) after_it

route_again : (variable : Bool) (name rest : List ℕ) (hops : List Hop) → IsName name → AreSteps rest hops
    → route_at variable (encode_utf8_all name ++ rest) ≡ Some (record { variable = variable; name = name; steps = hops })
unfolding route_at
route_again variable name rest hops h steps =
    let again = steps_again steps in
    let cut : cut_steps (encode_utf8_all name ++ rest) ≡ (encode_utf8_all name, (cut_steps rest).1) =
    cut_over (encode_utf8_all name) rest (name_solid name h) ∙ ap (λ (p : List ℕ × List (List ℕ)). (encode_utf8_all name ++ p.0, (cut_steps rest).1)) again.0
    ∙ ap (λ (l : List ℕ). (l, (cut_steps rest).1)) (append-nil (encode_utf8_all name)) in
    rw (cut, name_again name h, again.1) refl

at_dollar : (text : List ℕ) (path : Option Route) → route_at true text ≡ path → path_at (codes "$" ++ text) ≡ path
unfolding path_at following
at_dollar text path e = e

path_of : (variable : Bool) (name rest : List ℕ) (hops : List Hop) → IsName name → AreSteps rest hops
    → path_at (cond variable (codes "$") [] ++ (encode_utf8_all name ++ rest)) ≡ Some (record { variable = variable; name = name; steps = hops })
unfolding path_at
path_of true name rest hops h steps = at_dollar (encode_utf8_all name ++ rest) _ (route_again true name rest hops h steps)
path_of false name rest hops h steps = rw (name_not_dollar name rest h) (route_again false name rest hops h steps)

pub path_again : (text : List ℕ) (path : Route) → IsPath text path → path_at text ≡ Some path
path_again text path h = ap path_at h.spelled ∙ path_of path.variable path.name h.rest path.steps h.name h.steps
