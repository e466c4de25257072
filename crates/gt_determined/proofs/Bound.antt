-- A good state stays good where one variable is bound to an object, or is bound no more.
use Rattle.std.proofs.Common.{◌≡◌, ℕ, ◌+◌, ◌-◌, ◌<◌, ◌≤◌, Bool, true, false, cond, List, [], ◌∷◌, refl, ap, sym, subst, ◌∙◌, arith, Option, Some, None, is_some, ◌⊎◌, inl, inr}
use Rattle.std.specs.Prelude.{◌==◌, find}
use Rattle.std.specs.Ordering.{nat_cmp, eq_by_cmp}
use Rattle.std.specs.Cmp.Lexicographic.{slice_cmp, nat_list_cmp_total}
use Rattle.std.specs.FinMap as fin
use Rattle.std.proofs.lemmas.Bool.{eqb-true, cases_lt}
use Rattle.gt_types.specs.declared.types.Ty.{Ty}
use Rattle.gt_types.specs.declared.program.Program.{Program}
use Rattle.gt_types.specs.Settled.{Settled}
use Rattle.gt_layout.specs.declared.planes.Layouts.{Layouts}
use Rattle.gt_script.specs.declared.command.Route.{Route}
use Rattle.gt_tree.specs.Trees.{To}
use Rattle.gt_tree.specs.Scopes.{Scope, eval_in}
use Rattle.gt_tree.specs.Blocks.{Block, Blocks}
use Rattle.gt_tree.specs.Fits.{Fits}
use Rattle.gt_tree.proofs.FixedParts.{named}
use Rattle.gt_tree.proofs.PathBits.{some-same}
use Rattle.gt_graph.specs.Objects.{Object, Graph, object_of, block_of}
use Rattle.gt_next.specs.declared.TheConstants.{MAX_VARIABLES}
use Rattle.gt_next.specs.declared.answer.Answer.{Answer}
use Rattle.gt_next.specs.States.{State, Variables, meaning, with_variable, without_variable, count_of_variables, IsFullOfVariables, IsGoodState}
use Rattle.gt_next.specs.Spots.{Spot, Standing, standing_at}
use Rattle.gt_next.specs.Paths.{Leads}
use Rattle.gt_next.specs.Leaves.{Got, IsObject, Reads}
use Rattle.gt_next.specs.Next.{Answers, NextGet, NextDrop}
use Rattle.gt_determined.proofs.Outcomes.{Ends}
use Rattle.gt_determined.proofs.Standings.{map-some, whole-at}
use Rattle.gt_determined.proofs.LocalEnds.{IsSound}
use Rattle.gt_determined.proofs.Grounds.{StandsAt}
use Rattle.gt_determined.proofs.PathEnds.{PathEnds, path-ends}

-- ---- variables

-- each variable means an object
abbrev pub MeansObjects : List Object → Variables → Type 0
MeansObjects objects variables = (name : List ℕ) (id : ℕ) → meaning variables name ≡ Some id → (o : Object) × (object_of objects id ≡ Some o)

pub bound-one : (objects : List Object) (variables : Variables) (var : List ℕ) (id : ℕ) (o : Object) → object_of objects id ≡ Some o → MeansObjects objects variables → MeansObjects objects (with_variable variables var id)
bound-one objects variables var id o there means name j e = go (eq_by_cmp (slice_cmp nat_cmp) name var) (sym (fin.get-insert nat_list_cmp_total variables var id name) ∙ e)
  where
    go : (b : Bool) → cond b (Some id) (meaning variables name) ≡ Some j → (x : Object) × (object_of objects j ≡ Some x)
    go true h = let same : id ≡ j = cc in (o, subst (λ i. object_of objects i ≡ Some o) same there)
    go false h = means name j h

dropped-one : (objects : List Object) (variables : Variables) (var : List ℕ) → MeansObjects objects variables → MeansObjects objects (without_variable variables var)
dropped-one objects variables var means name j e = go (eq_by_cmp (slice_cmp nat_cmp) var name) (eq_by_cmp (slice_cmp nat_cmp) name var) (sym (fin.get-remove nat_list_cmp_total variables var name) ∙ e)
  where
    go : (b c : Bool) → cond c None (meaning variables name) ≡ Some j → (x : Object) × (object_of objects j ≡ Some x)
    go b true h = absurd (cc)
    go b false h = means name j h

pub bound-few : (variables : Variables) (var : List ℕ) (id : ℕ) → count_of_variables variables ≤ MAX_VARIABLES → ¬ IsFullOfVariables variables var → count_of_variables (with_variable variables var id) ≤ MAX_VARIABLES
bound-few variables var id few free = go (meaning variables var) refl (fin.len-insert nat_list_cmp_total variables var id)
  where
    go : (m : Option ℕ) → meaning variables var ≡ m → count_of_variables (with_variable variables var id) ≡ cond (is_some (meaning variables var)) (count_of_variables variables) (count_of_variables variables + 1)
        → count_of_variables (with_variable variables var id) ≤ MAX_VARIABLES
    go (Some j) e h = let long : count_of_variables (with_variable variables var id) ≡ count_of_variables variables = h ∙ ap (λ x. cond (is_some x) (count_of_variables variables) (count_of_variables variables + 1)) e in omega (arith, long, few)
    go None e h =
        let long : count_of_variables (with_variable variables var id) ≡ count_of_variables variables + 1 = h ∙ ap (λ x. cond (is_some x) (count_of_variables variables) (count_of_variables variables + 1)) e in
        by-count (cases_lt (count_of_variables variables) MAX_VARIABLES) long
      where
        by-count : (count_of_variables variables < MAX_VARIABLES) ⊎ (MAX_VARIABLES ≤ count_of_variables variables) → count_of_variables (with_variable variables var id) ≡ count_of_variables variables + 1
            → count_of_variables (with_variable variables var id) ≤ MAX_VARIABLES
        by-count (inl lt) long = omega (arith, long, lt)
        by-count (inr le) long = absurd (free (le, e))

dropped-few : (variables : Variables) (var : List ℕ) → count_of_variables variables ≤ MAX_VARIABLES → count_of_variables (without_variable variables var) ≤ MAX_VARIABLES
dropped-few variables var few = go (is_some (meaning variables var)) (fin.len-remove nat_list_cmp_total variables var)
  where
    go : (b : Bool) → count_of_variables (without_variable variables var) ≡ cond b (count_of_variables variables - 1) (count_of_variables variables) → count_of_variables (without_variable variables var) ≤ MAX_VARIABLES
    go true h = omega (arith, h, few)
    go false h = omega (arith, h, few)

-- the same state with other variables
pub with-variables : (program : Program) (layouts : Layouts) (s : State) (variables : Variables) → IsGoodState program layouts s → MeansObjects s.heap.graph.objects variables → count_of_variables variables ≤ MAX_VARIABLES
    → IsGoodState program layouts (record s { variables = variables })
with-variables program layouts s variables good means few =
    record { heap = good.heap; variables = means; few_variables = few; pages = good.pages; min_expand = good.min_expand; min_heapsize = good.min_heapsize; last = good.last }

-- ---- what is read

-- what a path leads to is sound
sound-end : {program : Program} {s : State} {path : Route} → PathEnds program s path → (at : Spot) → Leads program s path at → StandsAt program s.heap.graph at
sound-end {program} {s} (Ends.ends x goes good one never) at l = subst (λ y. StandsAt program s.heap.graph y) (sym (one at l)) good
sound-end (Ends.stops why r one never) at l = absurd (never at l)

to-named : {program : Program} {blocks : Blocks} {capacity : ℕ} {scope : Scope} (type : Ty) (id : ℕ) → Fits program blocks capacity scope type (To id) → (b : Block) × (blocks id ≡ Some b)
to-named {program} {blocks} {capacity} {scope} type id (Fits.to m) = named blocks (eval_in program scope) type id m

find-passes : (p : Object → Bool) (xs : List Object) (x : Object) → find p xs ≡ Some x → p x ≡ true
find-passes p [] x e = absurd (cc)
find-passes p (y ∷ ys) x e = go (p y) refl (find-passes p ys x) e
  where
    go : (b : Bool) → p y ≡ b → (find p ys ≡ Some x → p x ≡ true) → cond b (Some y) (find p ys) ≡ Some x → p x ≡ true
    go true passes later h = let same : y ≡ x = cc in ap p (sym same) ∙ passes
    go false passes later h = later h

-- an object that is read is there
read-there : (program : Program) (g : Graph) (at : Spot) (what : Standing) (id : ℕ) → standing_at program g at ≡ Some what → IsSound program g what → Reads what (IsObject id) → (o : Object) × (object_of g.objects id ≡ Some o)
read-there program g at what id e sound (Reads.pointed {type} {id = i}) =
    let found = to-named type i sound.fits in
    let o = map-some block_of (object_of g.objects i) found.0 found.1 in (o.0, o.1)
read-there program g at what id e sound (Reads.whole {o}) =
    let found = whole-at program g o at e in
    let same : o.id ≡ found.0 = eqb-true o.id found.0 (find-passes (λ x. x.id == found.0) g.objects o found.2) in
    (o, subst (λ i. object_of g.objects i ≡ Some o) (sym same) found.2)

module _ (program : Program) (layouts : Layouts) (settled : Settled program) (s : State) (good : IsGoodState program layouts s) where
  answered : (var : List ℕ) (got : Got) (t : State) (a : Answer) → ((id : ℕ) → got ≡ IsObject id → (o : Object) × (object_of s.heap.graph.objects id ≡ Some o)) → Answers s var got a t → IsGoodState program layouts t
  answered var got t a there Answers.a_number = good
  answered var got t a there Answers.a_null = good
  answered var got t a there (Answers.too_many full) = good
  answered var got t a there (Answers.an_object {id} free) =
      let o = there id refl in
      with-variables program layouts s (with_variable s.variables var id) good (bound-one s.heap.graph.objects s.variables var id o.0 o.1 good.variables) (bound-few s.variables var id good.few_variables free)

  pub get-good : (var : List ℕ) (path : Route) (t : State) (a : Answer) → NextGet program s var path a t → IsGoodState program layouts t
  get-good var path t a (NextGet.refused r) = good
  get-good var path t a (NextGet.no_leaf l st none) = good
  get-good var path t a (NextGet.reads {at} {what} {got} {answer} {t = u} l st rd an) =
      let sound = sound-end (path-ends program layouts settled s path good) at l in
      let same : sound.what ≡ what = some-same (standing_at program s.heap.graph at) sound.what what sound.stands st in
      answered var got u answer (λ id e. read-there program s.heap.graph at what id st (subst (λ w. IsSound program s.heap.graph w) same sound.sound) (subst (λ x. Reads what x) e rd)) an

  pub drop-good : (var : List ℕ) (t : State) (a : Answer) → NextDrop s var a t → IsGoodState program layouts t
  drop-good var t a (NextDrop.unbound e) = good
  drop-good var t a (NextDrop.drops e) = with-variables program layouts s (without_variable s.variables var) good (dropped-one s.heap.graph.objects s.variables var good.variables) (dropped-few s.variables var good.few_variables)
