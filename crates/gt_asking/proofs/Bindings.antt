-- A session in which a variable is bound, or bound no more.
use Rattle.std.proofs.Common.{◌≡◌, ℕ, ◌+◌, ◌-◌, ◌<◌, ◌≤◌, Bool, true, false, cond, List, ap, arith, sym, subst, ◌∙◌, Option, Some, None, is_some, Ok, Err, IfOk, refl, ◌⊎◌, inl, inr}
use Rattle.std.specs.Prelude.{option_map}
use Rattle.std.specs.Ordering.{nat_cmp, eq_by_cmp}
use Rattle.std.specs.Cmp.Lexicographic.{slice_cmp, nat_list_cmp_total}
use Rattle.std.specs.FinMap as fin
use Rattle.std.proofs.lemmas.Bool.{cases_lt}
use Rattle.gt_types.specs.declared.program.Program.{Program}
use Rattle.gt_layout.specs.declared.planes.Layouts.{Layouts}
use Rattle.gt_next.specs.declared.TheConstants.{MAX_VARIABLES}
use Rattle.std.specs.declared.result.Result.{Result}
use Rattle.gt_io.specs.Held.{Held}
use Rattle.gt_graph.specs.Objects.{Object, object_of, block_of}
use Rattle.gt_graph.specs.Places.{address_in}
use Rattle.gt_objects.proofs.Naming.{address_named}
use Rattle.gt_next.specs.declared.answer.Answer.{Answer}
use Rattle.gt_next.specs.declared.answer.Answer.TheVariants.{Done, Ref}
use Rattle.gt_next.specs.States.{State, Variables, meaning, with_variable, without_variable, count_of_variables, IsFullOfVariables, IsGoodState}
use Rattle.gt_next.specs.Leaves.{IsObject}
use Rattle.gt_next.specs.Next.{Answers, NextDrop}
use Rattle.gt_session.specs.declared.session.Session.{Session}
use Rattle.gt_session.specs.Sessions.{StandsFor, Goes}

-- ---- variables

-- each variable means an object
abbrev MeansObjects : List Object → Variables → Type 0
MeansObjects objects variables = (name : List ℕ) (id : ℕ) → meaning variables name ≡ Some id → (o : Object) × (object_of objects id ≡ Some o)

bound-one : (objects : List Object) (variables : Variables) (var : List ℕ) (id : ℕ) (o : Object) → object_of objects id ≡ Some o → MeansObjects objects variables → MeansObjects objects (with_variable variables var id)
bound-one objects variables var id o there means name j e = go (eq_by_cmp (slice_cmp nat_cmp) name var) (sym (fin.get-insert nat_list_cmp_total variables var id name) ∙ e)
  where
    go : (b : Bool) → cond b (Some id) (meaning variables name) ≡ Some j → (x : Object) × (object_of objects j ≡ Some x)
    go true h = let same : id ≡ j = cc in (o, subst (λ i. object_of objects i ≡ Some o) same there)
    go false h = means name j h

dropped-one : (objects : List Object) (variables : Variables) (var : List ℕ) → MeansObjects objects variables → MeansObjects objects (without_variable variables var)
dropped-one objects variables var means name j e = go (eq_by_cmp (slice_cmp nat_cmp) var name) (eq_by_cmp (slice_cmp nat_cmp) name var) (sym (fin.get-remove nat_list_cmp_total variables var name) ∙ e)
  where
    go : (b c : Bool) → cond c None (meaning variables name) ≡ Some j → (x : Object) × (object_of objects j ≡ Some x)
    go b true h = absurd (cc)
    go b false h = means name j h

bound-few : (variables : Variables) (var : List ℕ) (id : ℕ) → count_of_variables variables ≤ MAX_VARIABLES → ¬ IsFullOfVariables variables var → count_of_variables (with_variable variables var id) ≤ MAX_VARIABLES
bound-few variables var id few free = go (meaning variables var) refl (fin.len-insert nat_list_cmp_total variables var id)
  where
    go : (m : Option ℕ) → meaning variables var ≡ m → count_of_variables (with_variable variables var id) ≡ cond (is_some (meaning variables var)) (count_of_variables variables) (count_of_variables variables + 1)
        → count_of_variables (with_variable variables var id) ≤ MAX_VARIABLES
    go (Some j) e h = let long : count_of_variables (with_variable variables var id) ≡ count_of_variables variables = h ∙ ap (λ x. cond (is_some x) (count_of_variables variables) (count_of_variables variables + 1)) e in omega (arith, long, few)
    go None e h =
        let long : count_of_variables (with_variable variables var id) ≡ count_of_variables variables + 1 = h ∙ ap (λ x. cond (is_some x) (count_of_variables variables) (count_of_variables variables + 1)) e in
        by-count (cases_lt (count_of_variables variables) MAX_VARIABLES) long
      where
        by-count : (count_of_variables variables < MAX_VARIABLES) ⊎ (MAX_VARIABLES ≤ count_of_variables variables) → count_of_variables (with_variable variables var id) ≡ count_of_variables variables + 1
            → count_of_variables (with_variable variables var id) ≤ MAX_VARIABLES
        by-count (inl lt) long = omega (arith, long, lt)
        by-count (inr le) long = absurd (free (le, e))

dropped-few : (variables : Variables) (var : List ℕ) → count_of_variables variables ≤ MAX_VARIABLES → count_of_variables (without_variable variables var) ≤ MAX_VARIABLES
dropped-few variables var few = go (is_some (meaning variables var)) (fin.len-remove nat_list_cmp_total variables var)
  where
    go : (b : Bool) → count_of_variables (without_variable variables var) ≡ cond b (count_of_variables variables - 1) (count_of_variables variables) → count_of_variables (without_variable variables var) ≤ MAX_VARIABLES
    go true h = omega (arith, h, few)
    go false h = omega (arith, h, few)

-- the same state with other variables
with-variables : (program : Program) (layouts : Layouts) (s : State) (variables : Variables) → IsGoodState program layouts s → MeansObjects s.heap.graph.objects variables → count_of_variables variables ≤ MAX_VARIABLES
    → IsGoodState program layouts (record s { variables = variables })
with-variables program layouts s variables good means few =
    record { heap = good.heap; variables = means; few_variables = few; pages = good.pages; min_expand = good.min_expand; min_heapsize = good.min_heapsize; last = good.last }

-- ---- sessions

module _ (session : Session) (told : Option Held) (s : State) (st : StandsFor session told s) (var : List ℕ) (vars : Variables) where
  pub bound-session : (address : ℕ) (o : Object) → object_of s.heap.graph.objects address ≡ Some o → ¬ IsFullOfVariables session.vars var → vars ≡ with_variable session.vars var address
      → (t : State) × Answers s var (IsObject address) (Ref address) t × StandsFor (record session { vars = vars }) told t
  bound-session address o there free e =
      let h = st.holds in
      let t : State = record s { variables = with_variable s.variables var address } in
      let room : ¬ IsFullOfVariables s.variables var = subst (λ v. ¬ IsFullOfVariables v var) (sym h.variables) free in
      let named : address_in s.heap.places.placed address ≡ address = address_named st.good.heap.places address (block_of o) (ap (option_map block_of) there) in
      let answers : Answers s var (IsObject address) (Ref address) t = subst (λ i. Answers s var (IsObject address) (Ref i) t) named (Answers.an_object room) in
      let is : with_variable s.variables var address ≡ vars = ap (λ v. with_variable v var address) h.variables ∙ sym e in (
        t,
        answers,
        record {
          holds = record {
            schema = h.schema;
            heap = h.heap;
            pairs = h.pairs;
            variables = is;
            min_expand = h.min_expand;
            min_heapsize = h.min_heapsize;
            last = h.last;
            rounds = h.rounds;
            files = h.files;
          };
          good = with-variables session.schema.program session.schema.layouts s (with_variable s.variables var address) st.good (bound-one s.heap.graph.objects s.variables var address o there st.good.variables) (bound-few s.variables var address st.good.few_variables room);
        },
      )

  pub dropped-session : (id : ℕ) → meaning session.vars var ≡ Some id → vars ≡ without_variable session.vars var → (t : State) × NextDrop s var Done t × StandsFor (record session { vars = vars }) told t
  dropped-session id bound e =
      let h = st.holds in
      let t : State = record s { variables = without_variable s.variables var } in
      let next : NextDrop s var Done t = NextDrop.drops (ap (λ v. meaning v var) h.variables ∙ bound) in
      let is : without_variable s.variables var ≡ vars = ap (λ v. without_variable v var) h.variables ∙ sym e in (
        t,
        next,
        record {
          holds = record {
            schema = h.schema;
            heap = h.heap;
            pairs = h.pairs;
            variables = is;
            min_expand = h.min_expand;
            min_heapsize = h.min_heapsize;
            last = h.last;
            rounds = h.rounds;
            files = h.files;
          };
          good = with-variables session.schema.program session.schema.layouts s (without_variable s.variables var) st.good (dropped-one s.heap.graph.objects s.variables var st.good.variables) (dropped-few s.variables var st.good.few_variables);
        },
      )

-- a command goes on as a part of it does
pub goes-so : {E : Type 0} (Part All : State → Answer → State → Type 0) (old new : Session) (result : Result Answer E)
    → ((told : Option Held) (s t : State) (answer : Answer) → StandsFor old told s → Part s answer t → All s answer t) → IfOk result (Goes Part old new) → IfOk result (Goes All old new)
goes-so Part All old new (Ok answer) so goes = λ told s st. let next = goes told s st in (next.0, so told s next.0 answer st next.1, next.2)
goes-so Part All old new (Err e) so goes = tt
